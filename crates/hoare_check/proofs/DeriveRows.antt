-- Each rule's instances of programs: what is asked of them, and then their parts.
use Rattle.std.proofs.Common.{◌≡◌, ℕ, true, List, [], ◌∷◌, Some, Result, Ok, Err, refl, sym, ap, subst, ◌∙◌}
use Rattle.c_values.specs.Name.{Name, with_name}
use Rattle.c_values.proofs.Options.{some_is}
use Rattle.expression_lang.specs.Expression.{Exp, Path}
use Rattle.expression_lang.specs.Sort.{Kind, is_kind, sort_of_kind}
use Rattle.expression_lang.specs.Sorted.{names_with}
use Rattle.ac_expr.specs.Fact.{Fact, Whole, NotTrue}
use Rattle.ac_expr.specs.Passed.{without_names}
use Rattle.monad_lang.specs.Program as M
use Rattle.monad_lang.specs.Program.{Mon, Start}
use Rattle.monad_lang.proofs.Given.{fits_parts}
use Rattle.rule_trees.specs.RuleTree.{Tree, Trees, node, no_trees, tree, Checked, AllChecked, next}
use Rattle.triple_lang.specs.Deriv as R
use Rattle.triple_lang.specs.Deriv.{Rule, Ground, Names, Claim, entailed, derived}
use Rattle.hoare_check.specs.DeriveTable.{Asserts, table, scope, behind, are_free_for}
use Rattle.assertion_walks.specs.Put.{put}
use Rattle.assertion_walks.specs.Written.{IsBeforeGlobal, IsBeforeWrite, Place}
use Rattle.hoare_check.specs.CodePosed.{IsPosed}
use Rattle.hoare_check.proofs.NodeParts.{by_parts, one_part, no_instance, ends_first, goes_on, last_decides}
use Rattle.hoare_check.proofs.Posing.{behind_is}

module _ (k : Ground) (ns : Names) (fs : List Fact) (m : Mon) (xs : List Name) (q : Exp) (at : ℕ) where
  abbrev Finds : Rule → Trees Rule → Result ℕ ℕ → Type 0
  Finds rule ts r = Checked (table k) (node rule ts) (derived ns fs m xs q) at r

  found_as : (n : Mon) → m ≡ n → (rule : Rule) (ts : Trees Rule) (r : Result ℕ ℕ) →
      Checked (table k) (node rule ts) (derived ns fs n xs q) at r → Finds rule ts r
  found_as n is rule ts r h = subst (λ p. Checked (table k) (node rule ts) (derived ns fs p xs q) at r) (sym is) h

  -- what lies between is no assertion behind the first, or the first's names aren't free for the postcondition
  pub bind_refused : (e : Exp) (m' : Mon) (ys : List Name) (n' : Mon) → m ≡ M.Bind m' ys n' → (ms : Names) → ms ≡ behind k m' ys ns →
      (Asserts k ms e × (are_free_for ys xs q ≡ true) → ⊥) → (ts : Trees Rule) → Finds (R.Bind e) ts (Err at)
  bind_refused e m' ys n' is ms inner never ts =
      found_as (M.Bind m' ys n') is (R.Bind e) ts (Err at)
      (no_instance (table k) (R.Bind e) (derived ns fs (M.Bind m' ys n') xs q) at ts
      (λ h. never (subst (λ (ls : Names). Asserts k ls e) (sym inner) h.0, h.1)))

  module _ (later : ℕ) (here : later ≡ next at) where
    -- one part

    pub ret_found : (es : List Exp) → m ≡ M.Ret es → (e : Exp) (t : Tree Rule) (r : Result ℕ ℕ) → Asserts k ns e → e ≡ put xs es q →
        Checked (table k) t (entailed ns fs e) later r → Finds (R.Ret e) (tree t no_trees) r
    ret_found es is e t r a p h =
        found_as (M.Ret es) is (R.Ret e) (tree t no_trees) r
        (one_part (table k) (R.Ret e) (derived ns fs (M.Ret es) xs q) at t (entailed ns fs e) later r (a, p) refl here h)

    pub gset_found : (x : Name) (path : Path) (v : Exp) → m ≡ M.Write (M.Global x path) v → (e : Exp) (t : Tree Rule) (r : Result ℕ ℕ) →
        Asserts k ns e → IsBeforeGlobal x path v q e → Checked (table k) t (entailed ns fs e) later r → Finds (R.Gset e) (tree t no_trees) r
    gset_found x path v is e t r a p h =
        found_as (M.Write (M.Global x path) v) is (R.Gset e) (tree t no_trees) r
        (one_part (table k) (R.Gset e) (derived ns fs (M.Write (M.Global x path) v) xs q) at t (entailed ns fs e) later r (a, p) refl here h)

    pub write_found : (w : Place) (v : Exp) → m ≡ M.Write (M.Written w.type w.address w.path) v → (e : Exp) (t : Tree Rule) (r : Result ℕ ℕ) →
        (k.lifted ≡ true) × Asserts k ns e × IsBeforeWrite (scope k ns) w v q e → Checked (table k) t (entailed ns fs e) later r →
        Finds (R.Write e) (tree t no_trees) r
    write_found w v is e t r a h =
        found_as (M.Write (M.Written w.type w.address w.path) v) is (R.Write e) (tree t no_trees) r
        (one_part (table k) (R.Write e) (derived ns fs (M.Write (M.Written w.type w.address w.path) v) xs q) at t (entailed ns fs e) later r a refl here h)

    pub pick_found : (kind : Kind) → m ≡ M.Pick kind → (ms : Names) → ms ≡ behind k (M.Pick kind) xs ns → (hs : List Fact) →
        hs ≡ without_names xs fs → (t : Tree Rule) (r : Result ℕ ℕ) → Checked (table k) t (entailed ms hs q) later r →
        Finds R.Pick (tree t no_trees) r
    pick_found kind is ms e hs f t r h =
        found_as (M.Pick kind) is R.Pick (tree t no_trees) r
        (one_part (table k) R.Pick (derived ns fs (M.Pick kind) xs q) at t (entailed (behind k (M.Pick kind) xs ns) (without_names xs fs) q) later r tt refl here
        (subst (λ gs. Checked (table k) t (entailed (behind k (M.Pick kind) xs ns) gs q) later r) f
        (subst (λ (ls : Names). Checked (table k) t (entailed ls hs q) later r) e h)))

    -- two parts

    module _ (e : Exp) (is : m ≡ M.Guard e) (t u : Tree Rule) where
      abbrev first_guard : Claim
      first_guard = entailed ns fs e

      abbrev last_guard : Claim
      last_guard = entailed ns (Whole e ∷ fs) q

      pub guard_parts : (r : Result ℕ ℕ) → AllChecked (table k) (tree t (tree u no_trees)) (first_guard ∷ last_guard ∷ []) later r →
          Finds R.Guard (tree t (tree u no_trees)) r
      guard_parts r h =
          found_as (M.Guard e) is R.Guard (tree t (tree u no_trees)) r
          (by_parts (table k) R.Guard (derived ns fs (M.Guard e) xs q) at (tree t (tree u no_trees)) (first_guard ∷ last_guard ∷ []) later r tt refl refl here h)

      pub guard_found : (s : Result ℕ ℕ) (n : ℕ) (r : Result ℕ ℕ) → Checked (table k) t first_guard later s → s ≡ Ok n →
          Checked (table k) u last_guard n r → Finds R.Guard (tree t (tree u no_trees)) r
      guard_found s n r h was i =
          guard_parts r (goes_on (table k) t (tree u no_trees) first_guard (last_guard ∷ []) later n r
          (subst (λ o. Checked (table k) t first_guard later o) was h) (last_decides (table k) u last_guard n r i))

      pub guard_unmet : (s : Result ℕ ℕ) (n : ℕ) → Checked (table k) t first_guard later s → s ≡ Err n → Finds R.Guard (tree t (tree u no_trees)) (Err n)
      guard_unmet s n h was =
          guard_parts (Err n) (ends_first (table k) t (tree u no_trees) first_guard (last_guard ∷ []) later n
          (subst (λ o. Checked (table k) t first_guard later o) was h))

    module _ (e : Exp) (m' n' : Mon) (is : m ≡ M.If e m' n') (t u : Tree Rule) where
      abbrev first_case : Claim
      first_case = derived ns (Whole e ∷ fs) m' xs q

      abbrev last_case : Claim
      last_case = derived ns (NotTrue e ∷ fs) n' xs q

      case_parts : (r : Result ℕ ℕ) → AllChecked (table k) (tree t (tree u no_trees)) (first_case ∷ last_case ∷ []) later r →
          Finds R.If (tree t (tree u no_trees)) r
      case_parts r h =
          found_as (M.If e m' n') is R.If (tree t (tree u no_trees)) r
          (by_parts (table k) R.If (derived ns fs (M.If e m' n') xs q) at (tree t (tree u no_trees)) (first_case ∷ last_case ∷ []) later r tt refl refl here h)

      pub case_found : (s : Result ℕ ℕ) (n : ℕ) (r : Result ℕ ℕ) → Checked (table k) t first_case later s → s ≡ Ok n →
          Checked (table k) u last_case n r → Finds R.If (tree t (tree u no_trees)) r
      case_found s n r h was i =
          case_parts r (goes_on (table k) t (tree u no_trees) first_case (last_case ∷ []) later n r
          (subst (λ o. Checked (table k) t first_case later o) was h) (last_decides (table k) u last_case n r i))

      pub case_bad : (s : Result ℕ ℕ) (n : ℕ) → Checked (table k) t first_case later s → s ≡ Err n → Finds R.If (tree t (tree u no_trees)) (Err n)
      case_bad s n h was =
          case_parts (Err n) (ends_first (table k) t (tree u no_trees) first_case (last_case ∷ []) later n
          (subst (λ o. Checked (table k) t first_case later o) was h))

    module _ (e : Exp) (m' : Mon) (ys : List Name) (n' : Mon) (is : m ≡ M.Bind m' ys n') (ms : Names) (inner : ms ≡ behind k m' ys ns)
        (a : Asserts k ms e) (free : are_free_for ys xs q ≡ true) (t u : Tree Rule) where
      abbrev first_bind : Claim
      first_bind = derived ns fs m' ys e

      bind_parts : (r : Result ℕ ℕ) →
          AllChecked (table k) (tree t (tree u no_trees)) (first_bind ∷ derived (behind k m' ys ns) (Whole e ∷ []) n' xs q ∷ []) later r →
          Finds (R.Bind e) (tree t (tree u no_trees)) r
      bind_parts r h =
          found_as (M.Bind m' ys n') is (R.Bind e) (tree t (tree u no_trees)) r
          (by_parts (table k) (R.Bind e) (derived ns fs (M.Bind m' ys n') xs q) at (tree t (tree u no_trees))
          (first_bind ∷ derived (behind k m' ys ns) (Whole e ∷ []) n' xs q ∷ []) later r
          (subst (λ (ls : Names). Asserts k ls e) inner a, free) refl refl here h)

      pub bind_found : (s : Result ℕ ℕ) (n : ℕ) (r : Result ℕ ℕ) → Checked (table k) t first_bind later s → s ≡ Ok n →
          Checked (table k) u (derived ms (Whole e ∷ []) n' xs q) n r → Finds (R.Bind e) (tree t (tree u no_trees)) r
      bind_found s n r h was i =
          bind_parts r (goes_on (table k) t (tree u no_trees) first_bind (derived (behind k m' ys ns) (Whole e ∷ []) n' xs q ∷ []) later n r
          (subst (λ o. Checked (table k) t first_bind later o) was h)
          (last_decides (table k) u (derived (behind k m' ys ns) (Whole e ∷ []) n' xs q) n r
          (subst (λ (ls : Names). Checked (table k) u (derived ls (Whole e ∷ []) n' xs q) n r) inner i)))

      pub bind_bad : (s : Result ℕ ℕ) (n : ℕ) → Checked (table k) t first_bind later s → s ≡ Err n → Finds (R.Bind e) (tree t (tree u no_trees)) (Err n)
      bind_bad s n h was =
          bind_parts (Err n) (ends_first (table k) t (tree u no_trees) first_bind (derived (behind k m' ys ns) (Whole e ∷ []) n' xs q ∷ []) later n
          (subst (λ o. Checked (table k) t first_bind later o) was h))

-- behind a value that may be any
pub behind_pick : (k : Ground) (ns : Names) (kind : Kind) (xs : List Name) (x : Name) (q : Exp) → xs ≡ x ∷ [] → IsPosed k ns (M.Pick kind) xs q →
    with_name x (Some (sort_of_kind kind)) ns ≡ behind k (M.Pick kind) xs ns
behind_pick k ns kind xs x q one p =
    let f = fits_parts (is_kind kind) (Some (sort_of_kind kind ∷ [])) p.given p.sorted in
    let given : sort_of_kind kind ∷ [] ≡ p.given = some_is f.1 in
    sym (behind_is k ns (M.Pick kind) xs (sort_of_kind kind ∷ []) (p.sorted ∙ ap (λ ss. Some ss) (sym given)) ∙ named xs one)
  where
    open_names : List Name → Names
    open_names ys = names_with ys (sort_of_kind kind ∷ []) ns

    named : (ys : List Name) → ys ≡ x ∷ [] → open_names ys ≡ with_name x (Some (sort_of_kind kind)) ns
    named ys e = ap open_names e
