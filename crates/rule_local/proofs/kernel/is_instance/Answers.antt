use Rattle.std.proofs.Common.{map, string_bytes, sym, ◌∙◌}
use Rattle.std.proofs.lemmas.Bool.{false≢true}
use Rattle.simpl_lang.specs.CodeCommand.{simpl_of}
use Rattle.monad_lang.specs.CodeProgram.{mon_of}
use Rattle.rule_local.specs.CodeRule.{rule_of, context_of}
use Rattle.rule_local.proofs.Rows.{asked_of, row_of}
use Rattle.rule_local.proofs.kernel.is_instance.Goals as goal

pub returns-then-is_asked : goal.returns-then-is_asked
returns-then-is_asked c =
    let asked = c.is_asked.ensures.0 c.if-is_asked.true in
    let is_row = row_of (context_of c.args.context) c.args.is_whole (map string_bytes c.args.outputs.now) (rule_of c.args.rule) (simpl_of c.args.left.now) (mon_of c.args.right.now) asked.0 asked.1 in
    ((λ h. (is_row, c.are_names_bound.ensures.0 h)), (λ h. c.are_names_bound.ensures.1 h.1))

pub returns-else-is_asked : goal.returns-else-is_asked
returns-else-is_asked c = (
  (λ h. absurd (false≢true (sym c.if-is_asked.false ∙ h))),
  (λ h. c.is_asked.ensures.1 (asked_of (context_of c.args.context) c.args.is_whole (map string_bytes c.args.outputs.now) (rule_of c.args.rule) (simpl_of c.args.left.now) (mon_of c.args.right.now) h.0)),
)
