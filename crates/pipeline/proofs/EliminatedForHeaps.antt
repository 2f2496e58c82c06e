-- Taking exceptions out keeps commands ready: a test of the flag has no load, and where a condition is asked only unless something was
-- thrown, the test of the flag is one more fact.
use Rattle.std.proofs.Common.{◌≡◌, Bool, true, false, List, [], ◌∷◌, ◌++◌, refl, sym, ap, subst}
use Rattle.c_values.specs.Layout.{Layout}
use Rattle.expression_lang.specs.Expression.{Exp, And, Not}
use Rattle.simpl_lang.specs.Command.{Condition, Simpl, Skip, Throw, Pick, Seq, Cond, Guard, Catch, While}
use Rattle.rule_heap.specs.ExpLifted.{IsReady}
use Rattle.rule_exn.specs.Quiet.{quiet}
use Rattle.rule_exn.specs.Table.{is_thrown, asked_unless_thrown, unless_thrown}
use Rattle.rule_exn.specs.Eliminated.{Eliminated, exceptions_eliminated, in_sequence, caught, repeated}
use Rattle.generation.specs.Guards.{under}
use Rattle.pipeline.specs.CommandReady.{AllGiven, Under, AreInOrder, IsCommandReady}
use Rattle.pipeline.proofs.ExpressionsForHeaps.{under_whole, under_whole_order}
use Rattle.pipeline.proofs.CommandsReady.{command_from_more}

pub unless_is_under : (cs : List Condition) → unless_thrown cs ≡ under (Not is_thrown) cs
unless_is_under [] = refl
unless_is_under (c ∷ cs) = ap (λ ds. asked_unless_thrown c ∷ ds) (unless_is_under cs)

module _ (l : Layout) where
  abbrev Ready : Simpl → Type 0
  Ready a = IsCommandReady l [] a

  -- from nothing is from anything
  anywhere : (gs : List Condition) (a : Simpl) → Ready a → IsCommandReady l gs a
  anywhere gs a h = command_from_more l [] gs (λ fs g. tt) a h

  sequence_ready : (q : Bool) (gs : List Condition) (r s : Eliminated) → IsCommandReady l gs r.right → Ready s.right → IsCommandReady l gs (in_sequence q r s).right
  sequence_ready true gs r s h k = (h, k)
  sequence_ready false gs r s h k = (h, ((λ fs g. tt), tt, k))

  caught_ready : (q : Bool) (gs : List Condition) (b : Simpl) (r s : Eliminated) → Ready r.right → Ready s.right → IsCommandReady l gs (caught q b r s).right
  caught_ready true gs b r s h k = anywhere gs r.right h
  caught_ready false gs Skip r s h k = (anywhere gs r.right h, (λ fs g. tt))
  caught_ready false gs b r s h k = (anywhere gs r.right h, ((λ fs g. tt), ((λ fs g. tt), k), tt))

  tested_ready : (cs : List Condition) → AreInOrder l [] cs → AreInOrder l [] (unless_thrown cs)
  tested_ready cs h =
      subst (λ ds. AreInOrder l [] ds) (sym (unless_is_under cs)) (under_whole_order l (Not is_thrown) [] (λ fs g. tt) [] [] (λ fs g. (tt, tt)) cs h)

  test_ready : (cs : List Condition) (e : Exp) → Under cs (λ fs. IsReady l fs e) → Under (unless_thrown cs) (λ fs. IsReady l fs (And (Not is_thrown) e))
  test_ready cs e h = λ fs g. (tt, h _ (under_whole fs (Not is_thrown) cs (subst (λ ds. AllGiven fs ds) (unless_is_under cs) g)))

  repeated_ready : (q : Bool) (gs cs : List Condition) (e : Exp) (r : Eliminated) → AreInOrder l [] cs → Under cs (λ fs. IsReady l fs e) → Ready r.right →
      IsCommandReady l gs (repeated q cs e r).right
  repeated_ready true gs cs e r h k i = (h, k, i)
  repeated_ready false gs cs e r h k i = (tested_ready cs h, test_ready cs e k, i)

  pub eliminated_ready : (gs : List Condition) (a : Simpl) → IsCommandReady l gs a → IsCommandReady l gs (exceptions_eliminated a).right
  eliminated_ready gs Skip h = tt
  eliminated_ready gs Throw h = λ fs g. tt
  eliminated_ready gs (Pick x) h = tt
  eliminated_ready gs (Seq a b) h = sequence_ready (quiet a) gs _ _ (eliminated_ready gs a h.0) (eliminated_ready [] b h.1)
  eliminated_ready gs (Cond e a b) h = (h.0, eliminated_ready [] a h.1, eliminated_ready [] b h.2)
  eliminated_ready gs (Guard c a) h = (h.0, eliminated_ready (gs ++ (c ∷ [])) a h.1)
  eliminated_ready gs (Catch a b) h = caught_ready (quiet a) gs b _ _ (eliminated_ready [] a h.0) (eliminated_ready [] b h.1)
  eliminated_ready gs (While cs e a) h = repeated_ready (quiet a) gs cs e _ h.0 h.1 (eliminated_ready [] a h.2)
  eliminated_ready _ _ h = h
