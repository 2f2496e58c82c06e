-- One name more.
use Rattle.std.proofs.Common.{◌≡◌, ◌||◌, ◌∷◌, ◌∙◌, sym, map, ap, rules, string_bytes}
use Rattle.std.specs.HashSet.{contains_text}
use Rattle.c_values.specs.Name.{is_among}
use Rattle.c_lang.specs.CodeTyped.{function_of}
use Rattle.c_levels.proofs.NamePut.{name_put}
use Rattle.ac_core.proofs.programs.function_names.Goals as goal

pub functions-preserved : goal.functions-preserved
functions-preserved c = λ x.
    let here : c.functions.rest.now ≡ c.in-Some.f.now ∷ c.in-Some.others.now = search rules in
    name_put x (string_bytes c.in-Some.f.now.name) (map (λ f. f.name) (map function_of c.in-Some.others.now)) c.functions.names c.insert.new.self c.in_ok-clone.field-0 (search rules) c.in_ok-insert.ensures.updates
    ∙ ap (λ fs. is_among x (map (λ f. f.name) (map function_of fs)) || contains_text c.functions.names x) (sym here) ∙ c.functions.invariant x
