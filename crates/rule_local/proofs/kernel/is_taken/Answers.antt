use Rattle.std.proofs.Common.{map, string_bytes}
use Rattle.simpl_lang.specs.CodeCommand.{simpl_of}
use Rattle.monad_lang.specs.CodeProgram.{mon_of}
use Rattle.rule_local.specs.CodeRule.{context_of}
use Rattle.rule_local.proofs.Walked.{whole_taken}
use Rattle.rule_local.proofs.kernel.is_taken.Goals as goal

pub returns-then-are_names_kept : goal.returns-then-are_names_kept
returns-then-are_names_kept c = λ h.
    whole_taken (context_of c.args.context) c.args.tree.now (simpl_of c.args.left.now) (mon_of c.args.right.now) (map string_bytes c.args.outputs.now) (c.have_forms.ensures h)
    (c.are_names_kept.ensures.lost c.if-are_names_kept.true) (c.are_names_kept.ensures.free c.if-are_names_kept.true)
