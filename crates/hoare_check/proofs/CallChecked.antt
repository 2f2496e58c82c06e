-- The instances of the rule of a call: what is asked, and then the parts.
use Rattle.std.proofs.Common.{◌≡◌, ℕ, List, [], ◌∷◌, ◌++◌, Option, Some, None, Result, Ok, Err, refl, sym, ◌∙◌, subst}
use Rattle.c_values.specs.Name.{Name}
use Rattle.c_values.proofs.Options.{some_is}
use Rattle.expression_lang.specs.Expression.{Exp}
use Rattle.expression_lang.specs.Signature.{names_of}
use Rattle.ac_expr.specs.Fact.{Fact, Whole}
use Rattle.ac_expr.specs.Facts.{without_reads}
use Rattle.ac_expr.specs.Passed.{without_names}
use Rattle.monad_lang.specs.Program as M
use Rattle.monad_lang.specs.Program.{FinalFn, final_fn}
use Rattle.rule_trees.specs.RuleTree.{Tree, Trees, node, no_trees, tree, Checked, AllChecked, next}
use Rattle.exactness.specs.Triple.{Assertions, logical_names, logical_sorts, result_names}
use Rattle.assertion_walks.specs.Put.{put}
use Rattle.triple_lang.specs.Deriv as R
use Rattle.triple_lang.specs.Deriv.{Ground, Names, Claim, entailed, derived}
use Rattle.hoare_check.specs.DeriveTable.{AreLogicalValues, Asserts, Calls, IsCall, behind, scope, table, triple_at, variables}
use Rattle.hoare_check.specs.CodeCalled.{IsBehind, IsCalled}
use Rattle.hoare_check.proofs.NodeParts.{by_parts, ends_first, goes_on, last_decides, no_instance}

-- what is asked before a call, and of what it gives
abbrev pub IsAsked : Ground → Names → Assertions → FinalFn → List Exp → List Name → List Exp → Exp → Type 0
IsAsked k ns t f es xs ls before =
    AreLogicalValues (scope k ns) xs (logical_sorts t.logicals) ls
    × (before ≡ put (names_of f.params ++ logical_names t.logicals) (es ++ ls) t.before) × Asserts k ns before

abbrev pub IsGiven : Ground → Names → Assertions → FinalFn → List Name → List Exp → Exp → Type 0
IsGiven k ms t f xs ls after =
    (after ≡ put (result_names f.results ++ logical_names t.logicals) (variables xs ++ ls) t.after) × Asserts k ms after

-- a call by a triple is of that one, and of its function
called_there : (k : Ground) (ns : Names) (o : Option Assertions) (g : Name) (es : List Exp) (xs : List Name) (ls : List Exp) (before after : Exp) →
    Calls k ns o g es xs ls before after → (t : Assertions) × (f : FinalFn) × (o ≡ Some t) × IsCall k ns t f g es xs ls before after
called_there k ns None g es xs ls before after h = absurd h
called_there k ns (Some t) g es xs ls before after h = (t, h.0, refl, h.1)

module _ (k : Ground) (ns : Names) (fs : List Fact) (i : ℕ) (g : Name) (es : List Exp) (xs : List Name) (q : Exp) (ls : List Exp) (before after : Exp)
    (at : ℕ) where
  abbrev Found : Trees R.Rule → Result ℕ ℕ → Type 0
  Found ts r = Checked (table k) (node (R.Call i ls before after) ts) (derived ns fs (M.Call g es) xs q) at r

  -- no triple at the position is of the function
  pub call_unfound : ((t : Assertions) (f : FinalFn) → IsCalled k i g t f → ⊥) → (ts : Trees R.Rule) → Found ts (Err at)
  call_unfound never ts =
      no_instance (table k) (R.Call i ls before after) (derived ns fs (M.Call g es) xs q) at ts (λ h.
      let c = called_there k ns (triple_at i k.triples) g es xs ls before after h in
      never c.0 c.1 (record { triple = c.2; function = c.3.function; found = c.3.found }))

  module _ (t : Assertions) (f : FinalFn) (called : IsCalled k i g t f) (ms : Names) (hs : List Fact) (b : IsBehind k ns fs g es xs ms hs) where
    is_call : IsAsked k ns t f es xs ls before → IsGiven k ms t f xs ls after → Calls k ns (triple_at i k.triples) g es xs ls before after
    is_call a d =
        subst (λ o. Calls k ns o g es xs ls before after) (sym called.triple) (
          f,
          record {
            function = called.function;
            found = called.found;
            logicals = a.0;
            before_is = a.1;
            before_asserts = a.2;
            after_is = d.0;
            after_asserts = subst (λ (ns' : Names). Asserts k ns' after) b.names d.1;
          },
        )

    of_call : Calls k ns (triple_at i k.triples) g es xs ls before after → IsAsked k ns t f es xs ls before × IsGiven k ms t f xs ls after
    of_call h =
        let c = subst (λ o. Calls k ns o g es xs ls before after) called.triple h in
        let is = subst (λ (d : FinalFn). IsCall k ns t d g es xs ls before after) (some_is (sym c.1.found ∙ called.found)) c.1 in (
          (is.logicals, is.before_is, is.before_asserts),
          (is.after_is, subst (λ (ns' : Names). Asserts k ns' after) (sym b.names) is.after_asserts),
        )

    pub call_unasked : (IsAsked k ns t f es xs ls before → ⊥) → (ts : Trees R.Rule) → Found ts (Err at)
    call_unasked never ts = no_instance (table k) (R.Call i ls before after) (derived ns fs (M.Call g es) xs q) at ts (λ h. never (of_call h).0)

    pub call_ungiven : (IsGiven k ms t f xs ls after → ⊥) → (ts : Trees R.Rule) → Found ts (Err at)
    call_ungiven never ts = no_instance (table k) (R.Call i ls before after) (derived ns fs (M.Call g es) xs q) at ts (λ h. never (of_call h).1)

    module _ (a : IsAsked k ns t f es xs ls before) (d : IsGiven k ms t f xs ls after) (later : ℕ) (here : later ≡ next at) (u v : Tree R.Rule) where
      abbrev first_part : Claim
      first_part = entailed ns fs before

      abbrev last_part : Names → List Fact → Claim
      last_part ns' gs = entailed ns' (Whole after ∷ gs) q

      call_parts : (r : Result ℕ ℕ) → AllChecked (table k) (tree u (tree v no_trees)) (first_part ∷ last_part ms hs ∷ []) later r →
          Found (tree u (tree v no_trees)) r
      call_parts r h =
          by_parts (table k) (R.Call i ls before after) (derived ns fs (M.Call g es) xs q) at (tree u (tree v no_trees))
          (first_part ∷ last_part (behind k (M.Call g es) xs ns) (without_names xs (without_reads fs)) ∷ []) later r (is_call a d) refl refl here
          (subst (λ gs. AllChecked (table k) (tree u (tree v no_trees)) (first_part ∷ last_part (behind k (M.Call g es) xs ns) gs ∷ []) later r) b.facts
          (subst (λ (ns' : Names). AllChecked (table k) (tree u (tree v no_trees)) (first_part ∷ last_part ns' hs ∷ []) later r) b.names h))

      pub call_found : (s : Result ℕ ℕ) (n : ℕ) (r : Result ℕ ℕ) → Checked (table k) u first_part later s → s ≡ Ok n →
          Checked (table k) v (last_part ms hs) n r → Found (tree u (tree v no_trees)) r
      call_found s n r h was e =
          call_parts r (goes_on (table k) u (tree v no_trees) first_part (last_part ms hs ∷ []) later n r
          (subst (λ o. Checked (table k) u first_part later o) was h) (last_decides (table k) v (last_part ms hs) n r e))

      pub call_unshown : (s : Result ℕ ℕ) (n : ℕ) → Checked (table k) u first_part later s → s ≡ Err n → Found (tree u (tree v no_trees)) (Err n)
      call_unshown s n h was =
          call_parts (Err n) (ends_first (table k) u (tree v no_trees) first_part (last_part ms hs ∷ []) later n
          (subst (λ o. Checked (table k) u first_part later o) was h))
