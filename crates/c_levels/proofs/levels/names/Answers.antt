-- One name more.
use Rattle.std.proofs.Common.{◌≡◌, ◌||◌, ◌∷◌, ◌∙◌, sym, map, ap, rules}
use Rattle.std.specs.Prelude.{string_bytes}
use Rattle.std.specs.HashSet.{contains_text}
use Rattle.c_values.specs.Name.{is_among}
use Rattle.c_levels.proofs.NamePut.{name_put}
use Rattle.c_levels.proofs.levels.names.Goals as goal

pub rest-preserved : goal.rest-preserved
rest-preserved c = λ q.
    let here : c.rest.rest.now ≡ c.in-Some.first.now ∷ c.in-Some.others.now = search rules in
    name_put q (string_bytes c.in-Some.first.now) (map string_bytes c.in-Some.others.now) c.rest.names c.insert.new.self c.in_ok-clone.field-0 (search rules) c.in_ok-insert.ensures.updates
    ∙ ap (λ ns. is_among q (map string_bytes ns) || contains_text c.rest.names q) (sym here) ∙ c.rest.invariant q
