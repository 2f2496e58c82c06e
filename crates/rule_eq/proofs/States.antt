-- Where the kernel's loop along a sequence stands, and how it gets on.
use Rattle.std.proofs.Common.{◌≡◌, ◌↔◌, ◌<◌, ◌≤◌, ◌+◌, ◌*◌, ℕ, Bool, true, false, List, [], ◌∷◌, length, Option, Result, Ok, Err, refl, sym, subst, ap, ap₂, ◌∙◌, arith, IsTrue}
use Rattle.c_values.specs.Name.{Name}
use Rattle.expression_lang.specs.Sort.{Scalar}
use Rattle.ac_expr.specs.Fact.{Fact}
use Rattle.ac_expr.specs.Passed.{Part, passed}
use Rattle.monad_lang.specs.Program.{Mon}
use Rattle.monad_lang.specs.Sorted.{Setting}
use Rattle.monad_sorts.specs.declared.settings.Setting as S
use Rattle.monad_sorts.specs.CodeInside.{setting_in, no_names}
use Rattle.monad_sorts.specs.CodeTold.{names_after, part_after}
use Rattle.program_facts.specs.Flow.{parts}
use Rattle.rule_trees.specs.declared.tree.Tree as T
use Rattle.rule_trees.specs.RuleTree.{Checked, next}
use Rattle.rule_trees.specs.CodeNodes.{nodes}
use Rattle.rule_eq.specs.declared.rule.Rule as C
use Rattle.rule_eq.specs.Rule.{Point, does}
use Rattle.rule_eq.specs.Table.{point, row, table}
use Rattle.rule_eq.specs.CodeFits.{IsSorted, Fits}
use Rattle.rule_eq.specs.CodeRule.{rule_at, tree_of}
use Rattle.rule_eq.specs.CodeSteps.{is_along, left_first, right_first, left_behind, right_behind, point_behind, passes, rest_of}
use Rattle.rule_eq.proofs.Along.{here, step_fits, behind_is, part_behind, rest_behind}
use Rattle.rule_eq.proofs.Walked.{parts_at, refused, along_miscounted, along_bad, along_onward, two_less, below_by, no_larger}

-- where so many parts were passed, as the code has it
pub point_here : (s : S.Setting) (fs gs : List Fact) (names ms : Name → Option Scalar) (whole : Mon) (count : ℕ) (ps : List Part) →
    ps ≡ parts whole → gs ≡ passed count ps fs → ms ≡ names_after (setting_in s no_names) count names whole →
    point gs (setting_in s ms) ≡ here (setting_in s no_names) fs names whole count
point_here s fs gs names ms whole count ps i h k =
    ap₂ (λ g n. point g (setting_in s n)) (h ∙ ap (λ q. passed count q fs) i) k

-- from where it began: the names' setting, what was known there, the names in scope, both sides, the tree and its number
pub record Start : Type 0 where
  pub setting : Setting
  pub facts : List Fact
  pub names : Name → Option Scalar
  pub left : Mon
  pub right : Mon
  pub tree : T.Tree C.Rule
  pub at : ℕ

abbrev pub place : Start → ℕ → Point
place s count = here s.setting s.facts s.names s.right count

-- what the whole tree is checked to
abbrev pub Whole : Start → Result ℕ ℕ → Type 0
Whole s r = Checked table (tree_of s.tree) (does (place s 0) s.left s.right) s.at r

-- what is left decides
pub record State (s : Start) (t : T.Tree C.Rule) (a b : Mon) (count at : ℕ) : Type 0 where
  pub decides : (r : Result ℕ ℕ) → Checked table (tree_of t) (does (place s count) a b) at r → Whole s r
  pub fits : Fits (place s count).setting a b
  pub part : part_after count s.right ≡ b
  pub rest : rest_of count (parts s.right) ≡ parts b
  pub smaller : nodes (tree_of t) ≤ nodes (tree_of s.tree)

pub begun : (s : Start) → Fits (place s 0).setting s.left s.right → State s s.tree s.left s.right 0 s.at
begun s f = record { decides = λ r h. h; fits = f; part = refl; rest = refl; smaller = omega arith }

module _ (s : Start) (t : T.Tree C.Rule) (a b : Mon) (count at : ℕ) (state : State s t a b count at) (p : Point) (same : p ≡ place s count) where
  pub fits_here : Fits p.setting a b
  fits_here = subst (λ (q : Point). Fits q.setting a b) (sym same) state.fits

  pub decided_here : (r : Result ℕ ℕ) → Checked table (tree_of t) (does p a b) at r → Whole s r
  decided_here r h = state.decides r (subst (λ q. Checked table (tree_of t) (does q a b) at r) same h)

  pub is_refused : (asked : Bool) → asked ≡ false → (IsTrue asked ↔ (row p (rule_at t) a b).holds) → Whole s (Err at)
  is_refused asked denied says = decided_here (Err at) (refused t p a b asked at denied says)

  -- what is checked of the first part, of which these are the sides
  pub first_as : (u : T.Tree C.Rule) (a' b' : Mon) (later : ℕ) (r : Result ℕ ℕ) → a' ≡ left_first (rule_at t) a → b' ≡ right_first (rule_at t) b →
      Checked table (tree_of u) (does p a' b') later r →
      Checked table (tree_of u) (does p (left_first (rule_at t) a) (right_first (rule_at t) b)) later r
  first_as u a' b' later r f g h =
      subst (λ m. Checked table (tree_of u) (does p m (right_first (rule_at t) b)) later r) f
      (subst (λ m. Checked table (tree_of u) (does p a' m) later r) g h)

  module _ (along : is_along (rule_at t) ≡ true) (holds : (row p (rule_at t) a b).holds) where
    pub is_miscounted : (length (parts_at t) ≡ 2 → ⊥) → Whole s (Err at)
    is_miscounted differ = decided_here (Err at) (along_miscounted t p a b along holds at differ)

    held : (row (place s count) (rule_at t) a b).holds
    held = subst (λ q. (row q (rule_at t) a b).holds) same holds

    pub first_fits : (a' b' : Mon) → a' ≡ left_first (rule_at t) a → b' ≡ right_first (rule_at t) b → Fits p.setting a' b'
    first_fits a' b' f g =
        subst (λ m. Fits p.setting m b') (sym f)
        (subst (λ m. Fits p.setting (left_first (rule_at t) a) m) (sym g) (step_fits p (rule_at t) a b along holds fits_here).0)

    module _ (u v : T.Tree C.Rule) (items : parts_at t ≡ u ∷ v ∷ []) where
      pub first_less : (n k : ℕ) → n ≡ 8 * nodes (tree_of s.tree) + k → 8 * nodes (tree_of u) + 2 < n
      first_less n k e =
          let h = below_by (nodes (tree_of u)) (nodes (tree_of t)) (nodes (tree_of s.tree)) 2 k (two_less t u v items).0 state.smaller (omega arith) in
          omega arith

      pub last_less : (n k : ℕ) → n ≡ 8 * nodes (tree_of s.tree) + k → 8 * nodes (tree_of v) + 2 < n
      last_less n k e =
          let h = below_by (nodes (tree_of v)) (nodes (tree_of t)) (nodes (tree_of s.tree)) 2 k (two_less t u v items).1 state.smaller (omega arith) in
          omega arith

      pub is_bad : (later n : ℕ) → later ≡ next at →
          Checked table (tree_of u) (does p (left_first (rule_at t) a) (right_first (rule_at t) b)) later (Err n) → Whole s (Err n)
      is_bad later n e h = decided_here (Err n) (along_bad t p a b along holds u v items at later n e h)

      module _ (later n : ℕ) (e : later ≡ next at)
          (first : Checked table (tree_of u) (does p (left_first (rule_at t) a) (right_first (rule_at t) b)) later (Ok n)) where
        onward : (r : Result ℕ ℕ) →
            Checked table (tree_of v) (does (point_behind (rule_at t) b p) (left_behind (rule_at t) a) (right_behind (rule_at t) b)) n r →
            Whole s r
        onward r h = decided_here r (along_onward t p a b along holds u v items at later n e first r h)

        -- the next turn of the loop
        pub turned : (k : ℕ) (a' b' : Mon) → k ≡ count + passes (rule_at t) → a' ≡ left_behind (rule_at t) a → b' ≡ right_behind (rule_at t) b →
            State s v a' b' k n
        turned k a' b' i f g =
            let there : place s k ≡ point_behind (rule_at t) b p =
            behind_is s.setting s.facts s.names s.right count (rule_at t) a b k along held state.fits.right i state.part state.rest
            ∙ ap (λ q. point_behind (rule_at t) b q) (sym same) in
            record {
              decides = λ r h. onward r
                  (subst (λ q. Checked table (tree_of v) (does q (left_behind (rule_at t) a) (right_behind (rule_at t) b)) n r) there
                  (subst (λ m. Checked table (tree_of v) (does (place s k) m (right_behind (rule_at t) b)) n r) f
                  (subst (λ m. Checked table (tree_of v) (does (place s k) a' m) n r) g h)));
              fits = subst (λ (q : Point). Fits q.setting a' b') (sym there)
                  (subst (λ m. Fits (point_behind (rule_at t) b p).setting m b') (sym f)
                  (subst (λ m. Fits (point_behind (rule_at t) b p).setting (left_behind (rule_at t) a) m) (sym g)
                  (step_fits p (rule_at t) a b along holds fits_here).1));
              part = part_behind s.setting s.facts s.names s.right count (rule_at t) a b k along held i state.part ∙ sym g;
              rest = rest_behind s.setting s.facts s.names s.right count (rule_at t) a b k along held i state.rest ∙ ap parts (sym g);
              smaller = no_larger _ _ _ (two_less t u v items).1 state.smaller;
            }

        -- with links of its own
        pub again : (q : Point) (k : ℕ) (a' b' : Mon) → k ≡ passes (rule_at t) →
            q ≡ here s.setting p.facts (names_after s.setting count s.names s.right) b k → a' ≡ left_behind (rule_at t) a →
            b' ≡ right_behind (rule_at t) b → Fits q.setting a' b' × ((r : Result ℕ ℕ) → Checked table (tree_of v) (does q a' b') n r → Whole s r)
        again q k a' b' i j f g =
            let base : here s.setting p.facts (names_after s.setting count s.names s.right) b 0 ≡ p =
            sym (ap₂ point refl (ap (λ (z : Point). z.setting) same)) in
            let passed_here : k ≡ 0 + passes (rule_at t) = omega arith in
            let there : q ≡ point_behind (rule_at t) b p =
            j ∙ behind_is s.setting p.facts (names_after s.setting count s.names s.right) b 0 (rule_at t) a b k along
            (subst (λ z. (row z (rule_at t) a b).holds) (sym base) holds)
            (subst (λ (z : Point). IsSorted z.setting b) (sym base) fits_here.right) passed_here refl refl
            ∙ ap (λ z. point_behind (rule_at t) b z) base in (
              subst (λ (z : Point). Fits z.setting a' b') (sym there)
                  (subst (λ m. Fits (point_behind (rule_at t) b p).setting m b') (sym f)
                  (subst (λ m. Fits (point_behind (rule_at t) b p).setting (left_behind (rule_at t) a) m) (sym g)
                  (step_fits p (rule_at t) a b along holds fits_here).1)),
              (λ r h. onward r
                  (subst (λ z. Checked table (tree_of v) (does z (left_behind (rule_at t) a) (right_behind (rule_at t) b)) n r) there
                  (subst (λ m. Checked table (tree_of v) (does q m (right_behind (rule_at t) b)) n r) f
                  (subst (λ m. Checked table (tree_of v) (does q a' m) n r) g h)))),
            )
