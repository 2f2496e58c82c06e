-- What is derived of a program holds of it, at each bound at which the triples that it stands on hold below: one case for each rule.
use Rattle.std.proofs.Common.{ℕ, List, [], ◌∷◌, map, subst}
use Rattle.c_values.specs.Name.{Name}
use Rattle.c_values.specs.Choice.{Choice}
use Rattle.expression_lang.specs.Expression.{Exp}
use Rattle.ac_expr.specs.Fact.{Fact, Whole, NotTrue}
use Rattle.monad_lang.specs.Program as M
use Rattle.monad_lang.specs.Program.{Mon}
use Rattle.monad_lang.specs.Run.{start_names}
use Rattle.monad_lang.specs.Sorted.{IsWellFormed}
use Rattle.exactness.specs.SteadyUnits.{IsUnitSteady}
use Rattle.rule_trees.specs.RuleTree.{Tree, node, Trees, no_trees, tree, Accepts, AcceptsAll, AllHold}
use Rattle.rule_trees.proofs.Induction.{holds as accepted_holds}
use Rattle.triple_lang.specs.Entail as E
use Rattle.entailment.specs.Table as T
use Rattle.triple_lang.specs.Deriv as R
use Rattle.triple_lang.specs.Deriv.{Rule, Ground, Names, Claim, entailed, derived}
use Rattle.hoare_check.specs.DeriveTable.{scope, in_names, row, table, shown_row, Asserts}
use Rattle.hoare_check.specs.Accepted.{HoldBelow, IsDerived}
use Rattle.hoare_check.proofs.Triples.{AreTriples}
use Rattle.hoare_check.proofs.Claims.{Fits, IsShown, IsSound}
use Rattle.hoare_check.proofs.PlainRows.{ret_holds, guard_holds, choice_fits, choice_holds, pick_holds}
use Rattle.hoare_check.proofs.BindRow.{bind_fits, bind_holds}
use Rattle.hoare_check.proofs.WriteRows.{global_holds, heap_holds}
use Rattle.hoare_check.proofs.LoopRow.{loop_fits, scoped_within, body_fits, from_start}
use Rattle.hoare_check.proofs.CallRow.{call_holds}

module _ (k : Ground) (p : Choice) (formed : IsWellFormed k.unit) (steady : IsUnitSteady k.unit) (triples : AreTriples k.unit k.triples)
  where
    abbrev AreSound : List Claim → Type 1
    AreSound cs = AllHold (IsSound k p) cs

    -- trees for the parts of a rule of assertions
    record PartsShown (ns : Names) (cs : List E.Claim) : Type 1 where
      trees : Trees E.Rule
      accepted : AcceptsAll (T.table k.lifted (scope k ns)) trees cs

    parts_shown : (ns : Names) (cs : List E.Claim) → AreSound (map (in_names ns) cs) → PartsShown ns cs
    parts_shown ns [] h = record { trees = no_trees; accepted = tt }
    parts_shown ns (E.shown fs q ∷ cs) h =
        let rest = parts_shown ns cs h.1 in record { trees = tree h.0.rules rest.trees; accepted = (h.0.shows, rest.accepted) }

    assertion_shown : (ns : Names) (fs : List Fact) (r : E.Rule) (q : Exp) → (shown_row k ns fs r q).holds → AreSound (shown_row k ns fs r q).parts →
        IsShown k ns fs q
    assertion_shown ns fs r q e h =
        let parts = parts_shown ns (T.row k.lifted (scope k ns) fs r q).parts h in record { rules = node r parts.trees; shows = (e, parts.accepted) }

    module _ (ns : Names) (fs : List Fact) (xs : List Name) (q : Exp) (n : ℕ) (below : HoldBelow k p n) where
      abbrev Holds : Mon → Type 0
      Holds m = IsDerived k p n ns fs m xs q

      bind_case : (e : Exp) (m : Mon) (ys : List Name) (m' : Mon) → (row k ns fs (R.Bind e) (M.Bind m ys m') xs q).holds → AreSound
          (row k ns fs (R.Bind e) (M.Bind m ys m') xs q).parts →
          Fits k ns (M.Bind m ys m') xs q → Holds (M.Bind m ys m')
      bind_case e m ys m' a h fit =
          let w = bind_fits k ns m ys m' xs q e a.0 a.1 fit in
          bind_holds k ns m ys m' xs q e formed p n fs a.1 w (h.0 tt w.first n below) (h.1.0 tt w.second n below)

      choice_case : (e : Exp) (m m' : Mon) → AreSound (row k ns fs R.If (M.If e m m') xs q).parts → Fits k ns (M.If e m m') xs q → Holds (M.If e m m')
      choice_case e m m' h fit =
          let w = choice_fits k formed p n ns fs xs q e m m' fit in
          choice_holds k formed p n ns fs xs q e m m' (h.0 tt w.0 n below) (h.1.0 tt w.1 n below)

      -- what the rule of loops asks, with these names in the loop
      record LoopAsks (inner : Names) (starts : List M.Start) (guard test : Exp) (m : Mon) (inv last : Exp) : Type 1 where
        inv_asserts : Asserts k inner inv
        last_asserts : Asserts k inner last
        keeps_guard : IsShown k inner (Whole inv ∷ []) guard
        body : IsSound k p (derived inner (Whole test ∷ Whole guard ∷ Whole inv ∷ []) m (start_names starts) inv)
        at_last : IsShown k inner (NotTrue test ∷ Whole guard ∷ Whole inv ∷ []) last

      loop_case : (inv first last : Exp) (starts : List M.Start) (guard test : Exp) (m : Mon) →
          (row k ns fs (R.Loop inv first last) (M.Loop starts guard test m) xs q).holds →
          AreSound (row k ns fs (R.Loop inv first last) (M.Loop starts guard test m) xs q).parts → Fits k ns (M.Loop starts guard test m) xs q → Holds
          (M.Loop starts guard test m)
      loop_case inv first last starts guard test m a h fit =
          let w = loop_fits k ns starts guard test m xs q fit in
          let asks = subst (λ inner. LoopAsks inner starts guard test m inv last) (scoped_within k ns starts guard test m xs q w)
          (record { inv_asserts = a.0; last_asserts = a.3; keeps_guard = h.1.0; body = h.1.1.0; at_last = h.1.1.1.0 }) in
          let fits = body_fits k ns starts guard test m xs q w inv asks.inv_asserts fit in
          λ env depth s b each.
          from_start k ns starts guard test m xs q w formed p inv last asks.keeps_guard
          (λ i less. asks.body tt fits i less) asks.at_last asks.last_asserts a.4 fit.distinct a.5
          env depth n below fs s first h.0 a.1 a.2 b each

      row_holds : (rule : Rule) (m : Mon) → (row k ns fs rule m xs q).holds → AreSound (row k ns fs rule m xs q).parts → Fits k ns m xs q → Holds m
      row_holds (R.Ret e) (M.Ret es) a h fit = ret_holds k formed p n ns fs xs q e es a.0 a.1 h.0 fit.distinct
      row_holds (R.Bind e) (M.Bind m ys m') a h fit = bind_case e m ys m' a h fit
      row_holds R.Guard (M.Guard e) a h fit = guard_holds k formed p n ns fs xs q e h.0 h.1.0 fit
      row_holds R.If (M.If e m m') a h fit = choice_case e m m' h fit
      row_holds (R.Loop inv first last) (M.Loop starts guard test m) a h fit = loop_case inv first last starts guard test m a h fit
      row_holds (R.Call j ls before after) (M.Call g es) a h fit =
          call_holds k formed steady triples p n below ns fs g es xs q j ls before after a h.0 h.1.0 fit
      row_holds R.Pick (M.Pick kind) a h fit = pick_holds k formed p n ns fs xs q kind h.0 fit
      row_holds (R.Write e) (M.Write (M.Written t d path) v) a h fit = heap_holds k formed p n ns fs xs q t d path v e a.0 a.1 a.2 h.0 fit
      row_holds (R.Gset e) (M.Write (M.Global x path) v) a h fit = global_holds k formed p n ns fs xs q x path v e a.0 a.1 h.0 fit
      row_holds _ _ a _ _ = absurd a

    preserved : (rule : Rule) (c : Claim) → (table k rule c).holds → AreSound (table k rule c).parts → IsSound k p c
    preserved (R.Shows r) (entailed ns fs q) a h = assertion_shown ns fs r q a h
    preserved rule (derived ns fs m xs q) a h = λ u fit n below. row_holds ns fs xs q n below rule m a h fit
    preserved _ (entailed ns fs q) a h = absurd a

    -- what a tree derives of a program holds of it
    pub derived_holds : (t : Tree Rule) (ns : Names) (fs : List Fact) (m : Mon) (xs : List Name) (q : Exp) → Accepts (table k) t (derived ns fs m xs q) →
        Fits k ns m xs q →
        (n : ℕ) → HoldBelow k p n → IsDerived k p n ns fs m xs q
    derived_holds t ns fs m xs q h fit n below = accepted_holds (table k) (IsSound k p) preserved t (derived ns fs m xs q) h tt fit n below
