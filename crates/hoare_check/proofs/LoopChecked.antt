-- The instances of the rule of a loop: what is asked, and then the parts.
use Rattle.std.proofs.Common.{◌≡◌, ℕ, true, List, [], ◌∷◌, Result, Ok, Err, refl, sym, subst}
use Rattle.c_values.specs.Name.{Name}
use Rattle.expression_lang.specs.Expression.{Exp}
use Rattle.ac_expr.specs.Fact.{Fact, Whole, NotTrue}
use Rattle.monad_lang.specs.Program as M
use Rattle.monad_lang.specs.Program.{Mon, Start}
use Rattle.monad_lang.specs.Run.{start_names}
use Rattle.rule_parts.specs.Starts.{start_exps}
use Rattle.rule_trees.specs.RuleTree.{Tree, Trees, node, no_trees, tree, Checked, AllChecked, next}
use Rattle.triple_lang.specs.Deriv as R
use Rattle.triple_lang.specs.Deriv.{Rule, Ground, Names, Claim, entailed, derived}
use Rattle.hoare_check.specs.DeriveTable.{Asserts, table, within, are_free_for, variables}
use Rattle.assertion_walks.specs.Put.{put}
use Rattle.hoare_check.proofs.NodeParts.{by_parts, no_instance, ends_first, goes_on, last_decides}

abbrev pub BeginsWith : Ground → Names → Names → List Start → Exp → Exp → Type 0
BeginsWith k ms ns starts inv first = Asserts k ms inv × Asserts k ns first × (first ≡ put (start_names starts) (start_exps starts) inv)

abbrev pub EndsWith : Ground → Names → List Start → Exp → List Name → Exp → Type 0
EndsWith k ms starts last xs q =
    Asserts k ms last × (last ≡ put xs (variables (start_names starts)) q) × (are_free_for (start_names starts) xs q ≡ true)

module _ (k : Ground) (ns : Names) (fs : List Fact) (m : Mon) (xs : List Name) (q : Exp) (at later : ℕ) (here : later ≡ next at)
    (starts : List Start) (guard test : Exp) (body : Mon) (is : m ≡ M.Loop starts guard test body) (inv first last : Exp) (t u v w : Tree Rule) where
  abbrev four : Trees Rule
  four = tree t (tree u (tree v (tree w no_trees)))

  abbrev Found : Result ℕ ℕ → Type 0
  Found r = Checked (table k) (node (R.Loop inv first last) four) (derived ns fs m xs q) at r

  abbrev begun : Claim
  begun = entailed ns fs first

  abbrev guarded : Names → Claim
  guarded ms = entailed ms (Whole inv ∷ []) guard

  abbrev kept : Names → Claim
  kept ms = derived ms (Whole test ∷ Whole guard ∷ Whole inv ∷ []) body (start_names starts) inv

  abbrev ended : Names → Claim
  ended ms = entailed ms (NotTrue test ∷ Whole guard ∷ Whole inv ∷ []) last

  abbrev claims : Names → List Claim
  claims ms = begun ∷ guarded ms ∷ kept ms ∷ ended ms ∷ []

  abbrev By : Names → Type 0
  By ms = BeginsWith k ms ns starts inv first → EndsWith k ms starts last xs q → (r : Result ℕ ℕ) →
      AllChecked (table k) four (claims ms) later r → Found r

  -- the loop doesn't begin with the first, or doesn't end with the last
  pub loop_refused : (ms : Names) → ms ≡ within k starts ns → (BeginsWith k ms ns starts inv first × EndsWith k ms starts last xs q → ⊥) → Found (Err at)
  loop_refused ms inner never =
      subst (λ p. Checked (table k) (node (R.Loop inv first last) four) (derived ns fs p xs q) at (Err at)) (sym is)
      (no_instance (table k) (R.Loop inv first last) (derived ns fs (M.Loop starts guard test body) xs q) at four
      (λ h. subst (λ (ls : Names). BeginsWith k ls ns starts inv first × EndsWith k ls starts last xs q → ⊥) inner never
      ((h.0, h.1, h.2), (h.3, h.4, h.5))))

  there : By (within k starts ns)
  there a b r h =
      subst (λ p. Checked (table k) (node (R.Loop inv first last) four) (derived ns fs p xs q) at r) (sym is)
      (by_parts (table k) (R.Loop inv first last) (derived ns fs (M.Loop starts guard test body) xs q) at four (claims (within k starts ns)) later r
      (a.0, a.1, a.2, b.0, b.1, b.2) refl refl here h)

  module _ (ms : Names) (inner : ms ≡ within k starts ns) (a : BeginsWith k ms ns starts inv first) (b : EndsWith k ms starts last xs q) where
    by_claims : (r : Result ℕ ℕ) → AllChecked (table k) four (claims ms) later r → Found r
    by_claims r h = subst By (sym inner) there a b r h

    pub loop_unbegun : (s : Result ℕ ℕ) (n : ℕ) → Checked (table k) t begun later s → s ≡ Err n → Found (Err n)
    loop_unbegun s n h was =
        by_claims (Err n) (ends_first (table k) t (tree u (tree v (tree w no_trees))) begun (guarded ms ∷ kept ms ∷ ended ms ∷ []) later n
        (subst (λ o. Checked (table k) t begun later o) was h))

    module _ (s : Result ℕ ℕ) (n : ℕ) (first_is : Checked (table k) t begun later s) (was : s ≡ Ok n) where
      behind_first : (r : Result ℕ ℕ) → AllChecked (table k) (tree u (tree v (tree w no_trees))) (guarded ms ∷ kept ms ∷ ended ms ∷ []) n r → Found r
      behind_first r h =
          by_claims r (goes_on (table k) t (tree u (tree v (tree w no_trees))) begun (guarded ms ∷ kept ms ∷ ended ms ∷ []) later n r
          (subst (λ o. Checked (table k) t begun later o) was first_is) h)

      pub loop_unguarded : (o : Result ℕ ℕ) (i : ℕ) → Checked (table k) u (guarded ms) n o → o ≡ Err i → Found (Err i)
      loop_unguarded o i h then =
          behind_first (Err i) (ends_first (table k) u (tree v (tree w no_trees)) (guarded ms) (kept ms ∷ ended ms ∷ []) n i
          (subst (λ p. Checked (table k) u (guarded ms) n p) then h))

      module _ (o : Result ℕ ℕ) (i : ℕ) (second_is : Checked (table k) u (guarded ms) n o) (then : o ≡ Ok i) where
        behind_second : (r : Result ℕ ℕ) → AllChecked (table k) (tree v (tree w no_trees)) (kept ms ∷ ended ms ∷ []) i r → Found r
        behind_second r h =
            behind_first r (goes_on (table k) u (tree v (tree w no_trees)) (guarded ms) (kept ms ∷ ended ms ∷ []) n i r
            (subst (λ p. Checked (table k) u (guarded ms) n p) then second_is) h)

        pub loop_unkept : (d : Result ℕ ℕ) (j : ℕ) → Checked (table k) v (kept ms) i d → d ≡ Err j → Found (Err j)
        loop_unkept d j h after =
            behind_second (Err j) (ends_first (table k) v (tree w no_trees) (kept ms) (ended ms ∷ []) i j
            (subst (λ p. Checked (table k) v (kept ms) i p) after h))

        pub loop_found : (d : Result ℕ ℕ) (j : ℕ) (r : Result ℕ ℕ) → Checked (table k) v (kept ms) i d → d ≡ Ok j →
            Checked (table k) w (ended ms) j r → Found r
        loop_found d j r h after e =
            behind_second r (goes_on (table k) v (tree w no_trees) (kept ms) (ended ms ∷ []) i j r
            (subst (λ p. Checked (table k) v (kept ms) i p) after h) (last_decides (table k) w (ended ms) j r e))
