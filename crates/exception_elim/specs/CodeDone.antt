-- What is known of a command once exceptions are taken out of it.
use Rattle.std.specs.Prelude.{◌≡◌, Bool, true, ◌&&◌, ◌||◌, List}
use Rattle.expression_lang.specs.Expression.{Exp}
use Rattle.simpl_lang.specs.Command as C
use Rattle.simpl_lang.specs.Command.{Simpl}
use Rattle.simpl_lang.specs.CodeCommand.{simpl_of}
use Rattle.rule_exn.specs.Quiet.{quiet}
use Rattle.rule_exn.specs.Rule.{Rule, Cond, Guard}
use Rattle.rule_exn.specs.CodeRule.{tree_of}
use Rattle.rule_exn.specs.Eliminated.{Eliminated, leaf, over_one, over_two, in_sequence, caught_by_test, repeated, exceptions_eliminated}
use Rattle.exception_elim.specs.declared.eliminated.Eliminated as E

pub record Done : Type 0 where
  pub made : Eliminated
  pub quiet : Bool

abbrev pub done : Simpl → Done
done c = record { made = exceptions_eliminated c; quiet = quiet c }

abbrev pub done_of : E.Eliminated → Done
done_of e = record { made = record { right = simpl_of e.right.value; tree = tree_of e.tree }; quiet = e.is_quiet }

abbrev pub sequence : Done → Done → Done
sequence a b = record { made = in_sequence a.quiet a.made b.made; quiet = a.quiet && b.quiet }

abbrev pub conditional : Exp → Done → Done → Done
conditional e a b = record { made = over_two Cond (C.Cond e a.made.right b.made.right) a.made b.made; quiet = a.quiet && b.quiet }

abbrev pub guarded : C.Condition → Done → Done
guarded g a = record { made = over_one Guard (C.Guard g a.made.right) a.made; quiet = a.quiet }

abbrev pub handled : Done → Done → Done
handled a b = record { made = caught_by_test a.made b.made; quiet = a.quiet || b.quiet }

abbrev pub looped : List C.Condition → Exp → Done → Done
looped gs e a = record { made = repeated a.quiet gs e a.made; quiet = a.quiet }

-- a command that stays, by this rule
abbrev pub Stays : Rule → Simpl → Type 0
Stays rule c = done c ≡ record { made = leaf rule c; quiet = true }
