use Rattle.std.proofs.Common.{◌≡◌, ◌<◌, ◌⊎◌, true, map, length, string_bytes, arith, rules, sym, subst, ap, length-drop}
use Rattle.c_values.specs.Name.{is_among}
use Rattle.expression_lang.specs.CodeSignature.{binder_of}
use Rattle.expression_lang.specs.Signature.{names_of}
use Rattle.simpl_lang.specs.CodeCommand.{simpl_of}
use Rattle.monad_lang.specs.CodeProgram.{mon_of}
use Rattle.rule_local.specs.CodeRule.{rule_of, context_of}
use Rattle.rule_local.specs.CodeUses.{IsKept}
use Rattle.rule_local.proofs.Marked.{kept_or_behind}
use Rattle.rule_local.proofs.taken.are_locals_kept.Goals as goal

pub windows-smaller : goal.windows-smaller
windows-smaller c = let some : 0 < length c.windows.rest.now = search rules in omega (arith, ap length c.behind-rest.ensures, length-drop 64 c.windows.rest.now)

pub windows-preserved : goal.windows-preserved
windows-preserved c = λ y h.
    subst (λ bs. IsKept (rule_of c.args.rule) (context_of c.args.context).parameters (simpl_of c.args.left.now) (mon_of c.args.right.now) (map string_bytes c.args.outputs.now) y ⊎ (is_among y (names_of (map binder_of bs)) ≡ true))
    (sym c.behind-rest.ensures)
    (kept_or_behind binder_of y (IsKept (rule_of c.args.rule) (context_of c.args.context).parameters (simpl_of c.args.left.now) (mon_of c.args.right.now) (map string_bytes c.args.outputs.now) y) c.windows.rest.now
    (λ i m. c.are_kept.ensures c.if-not-are_kept.false i y m) (c.windows.invariant y h))
