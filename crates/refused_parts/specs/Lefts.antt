-- The left sides of the claims of each step. That of a claim on expressions is no program.
use Rattle.std.specs.Prelude.{Option, Some, None}
use Rattle.simpl_lang.specs.Command.{Simpl}
use Rattle.monad_lang.specs.Program.{Mon}
use Rattle.rule_exn.specs.Rule as X
use Rattle.rule_local.specs.Rule as L
use Rattle.rule_heap.specs.Rule as H
use Rattle.rule_word.specs.Rule as W
use Rattle.rule_eq.specs.Rule as Q

abbrev pub exception_left : X.Claim → Option Simpl
exception_left c = Some c.left

abbrev pub local_left : L.Claim → Option Simpl
local_left c = Some c.left

abbrev pub heap_left : H.Claim → Option Mon
heap_left (H.OfProgram fs a b) = Some a
heap_left (H.OfExp fs a b) = None

abbrev pub word_left : W.Claim → Option Mon
word_left (W.program at a b ks) = Some a
word_left (W.expression at a v b) = None

abbrev pub equal_left : Q.Claim → Option Mon
equal_left (Q.does at a b) = Some a
