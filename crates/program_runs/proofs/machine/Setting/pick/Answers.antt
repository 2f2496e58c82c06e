use Rattle.std.proofs.Common.{◌∷◌, [], ◌++◌, map, ap, ◌∙◌}
use Rattle.c_values.specs.CodeValue.{value_of}
use Rattle.expression_lang.specs.CodeExpression.{kind_of}
use Rattle.monad_lang.specs.CodeProgram.{final_unit_of}
use Rattle.program_runs.specs.CodeRun.{bound_of}
use Rattle.program_runs.proofs.Leading.{kind_sorted, pick_leads}
use Rattle.program_runs.proofs.machine.Setting.pick.Goals as goal

pub picked-requires : goal.picked-requires
picked-requires c = kind_sorted (final_unit_of c.args.self.now.unit.now) c.args.env.now.items (kind_of c.args.kind) c.requires.sorted

pub returns-clause-leads : goal.returns-clause-leads
returns-clause-leads c s =
    pick_leads (final_unit_of c.args.self.now.unit.now) c.args.self.now.fill c.args.env.now.items (bound_of c.args.bound) s (kind_of c.args.kind) (map value_of c.push.new.self.items)
    (ap (map value_of) (c.in_ok-push.ensures.items ∙ ap (λ xs. xs ++ (c.picked.result ∷ [])) c.new-values.ensures.items) ∙ ap (λ v. v ∷ []) c.picked.ensures)
