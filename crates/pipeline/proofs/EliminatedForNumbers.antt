-- Taking exceptions out keeps commands ready for numbers: a test of the flag has no operation, and where a condition is asked
-- only unless something was thrown, so is what it gives.
use Rattle.std.proofs.Common.{◌≡◌, Bool, true, false, List, [], ◌∷◌, ◌++◌, sym, subst}
use Rattle.expression_lang.specs.Expression.{Exp, And, Not}
use Rattle.expression_lang.specs.Sort.{Scope}
use Rattle.simpl_lang.specs.Command.{Condition, Simpl, Skip, Throw, Pick, Seq, Cond, Guard, Catch, While}
use Rattle.rule_exn.specs.Quiet.{quiet}
use Rattle.rule_exn.specs.Table.{is_thrown, unless_thrown}
use Rattle.rule_exn.specs.Eliminated.{Eliminated, exceptions_eliminated, in_sequence, caught, repeated}
use Rattle.pipeline.proofs.EliminatedForHeaps.{unless_is_under}
use Rattle.pipeline.proofs.ReadyWords.{IsReady}
use Rattle.pipeline.proofs.GivenRanges.{AllThere, all_under_whole}
use Rattle.pipeline.proofs.CommandReady.{Under, AreInOrder, AreSingle, IsCommandReady, command_from_more}
use Rattle.pipeline.proofs.OrdersReady.{under_order}
use Rattle.pipeline.proofs.SingleGuards.{single_under}

module _ (same : Exp → Exp → Bool) (finds : (e : Exp) → same e e ≡ true) (g : Scope) where
  abbrev ReadyUnder : List Condition → Simpl → Type 0
  ReadyUnder gs a = IsCommandReady same finds g gs a

  abbrev Ready : Simpl → Type 0
  Ready a = ReadyUnder [] a

  abbrev InOrder : List Condition → Type 0
  InOrder cs = AreInOrder same finds g [] cs

  -- from nothing is from anything
  anywhere : (gs : List Condition) (a : Simpl) → Ready a → ReadyUnder gs a
  anywhere gs a h = command_from_more same finds g [] gs (λ names k b. tt) a h

  sequence_ready : (q : Bool) (gs : List Condition) (r s : Eliminated) → ReadyUnder gs r.right → Ready s.right →
      ReadyUnder gs (in_sequence q r s).right
  sequence_ready true gs r s h i = (h, i)
  sequence_ready false gs r s h i = (h, ((λ names k b. tt), tt, i))

  caught_ready : (q : Bool) (gs : List Condition) (b : Simpl) (r s : Eliminated) → Ready r.right → Ready s.right →
      ReadyUnder gs (caught q b r s).right
  caught_ready true gs b r s h i = anywhere gs r.right h
  caught_ready false gs Skip r s h i = (anywhere gs r.right h, (λ names k b. tt))
  caught_ready false gs b r s h i = (anywhere gs r.right h, ((λ names k b. tt), ((λ names k b. tt), i), tt))

  tested_ready : (cs : List Condition) → InOrder cs → InOrder (unless_thrown cs)
  tested_ready cs h =
      subst (λ ds. InOrder ds) (sym (unless_is_under cs))
      (under_order same finds g (Not is_thrown) [] (λ names k a. tt) [] [] (λ names k a. (tt, tt)) cs h)

  test_ready : (cs : List Condition) (e : Exp) → Under same finds g cs (λ names k. IsReady same g names k e) →
      Under same finds g (unless_thrown cs) (λ names k. IsReady same g names k (And (Not is_thrown) e))
  test_ready cs e h =
      λ names k a. (
        tt,
        h names _ (all_under_whole same finds g names k (Not is_thrown) cs
            (subst (λ ds. AllThere same finds g names k ds) (unless_is_under cs) a)),
      )

  repeated_ready : (q : Bool) (gs cs : List Condition) (e : Exp) (r : Eliminated) → InOrder cs →
      Under same finds g cs (λ names k. IsReady same g names k e) → Ready r.right → AreSingle cs →
      ReadyUnder gs (repeated q cs e r).right
  repeated_ready true gs cs e r h i j s = (h, i, j, s)
  repeated_ready false gs cs e r h i j s =
      (tested_ready cs h, test_ready cs e i, j, subst AreSingle (sym (unless_is_under cs)) (single_under (Not is_thrown) cs))

  pub eliminated_ready : (gs : List Condition) (a : Simpl) → IsCommandReady same finds g gs a →
      IsCommandReady same finds g gs (exceptions_eliminated a).right
  eliminated_ready gs Skip h = tt
  eliminated_ready gs Throw h = λ names k a. tt
  eliminated_ready gs (Pick x) h = tt
  eliminated_ready gs (Seq a b) h = sequence_ready (quiet a) gs _ _ (eliminated_ready gs a h.0) (eliminated_ready [] b h.1)
  eliminated_ready gs (Cond e a b) h = (h.0, eliminated_ready [] a h.1, eliminated_ready [] b h.2)
  eliminated_ready gs (Guard c a) h = (h.0, eliminated_ready (gs ++ (c ∷ [])) a h.1)
  eliminated_ready gs (Catch a b) h = caught_ready (quiet a) gs b _ _ (eliminated_ready [] a h.0) (eliminated_ready [] b h.1)
  eliminated_ready gs (While cs e a) h = repeated_ready (quiet a) gs cs e _ h.0 h.1 (eliminated_ready [] a h.2) h.3
  eliminated_ready _ _ h = h
