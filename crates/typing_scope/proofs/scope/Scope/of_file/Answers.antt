-- No name stands for anything yet.
use Rattle.std.proofs.Common.{[], ◌∷◌, ◌++◌, ◌∙◌, ap, map, string_bytes}
use Rattle.c_values.specs.CodeLayout.{struct_def_of}
use Rattle.c_values.specs.CodeTypes.{target_of, type_of}
use Rattle.std.specs.HashSet.{contains_text}
use Rattle.typing_rules.specs.Progress.{at_start}
use Rattle.typing_scope.specs.CodeScope.{blocks_of, entity_of, tag_of}
use Rattle.typing_scope.proofs.NothingDeclared.{beginning, no_names}
use Rattle.typing_scope.proofs.scope.Scope.of_file.Goals as goal

pub returns : goal.returns
returns c =
    beginning (target_of c.args.target) (λ x. contains_text c.args.with_body x) _ _ _ _ _ _
    (c.in-Ok.ensures.built ∙ ap (λ ds. record { target = target_of c.args.target; structs = map struct_def_of ds }) c.new.ensures.items)
    (no_names tag_of c.new-3.result c.new-3.ensures.empty)
    (no_names type_of c.new-4.result c.new-4.ensures.empty)
    (ap blocks_of c.in_ok-push.ensures.items
    ∙ ap (λ bs. blocks_of (bs ++ (c.new-2.result ∷ []))) c.new-blocks.ensures.items
    ∙ ap (λ ns. ns ∷ []) (no_names entity_of c.new-2.result c.new-2.ensures.empty))
    c.at_beginning.ensures
    (c.at_start.ensures ∙ ap (λ ns. at_start (map string_bytes ns)) c.new-5.ensures.items)
