-- Two expressions that are one step apart have the same value, where the facts hold; and one of them in a row.
use Rattle.std.proofs.Common.{◌≡◌, Bool, true, false, not, ◌&&◌, ◌||◌, List, [], ◌∷◌, Option, refl, sym, ap, ap₂, ◌∙◌}
use Rattle.std.proofs.lemmas.Bool.{not_from_false}
use Rattle.c_values.specs.Name.{Name}
use Rattle.c_values.specs.Value.{Value, Truth, truth_in}
use Rattle.c_values.specs.Layout.{Layout, IsLayout, GlobalVar}
use Rattle.expression_lang.specs.Expression.{Exp, Var, And, Or, Imp, If, Load, Read}
use Rattle.expression_lang.specs.Evaluation.{Env, State, value, holds, if_truth}
use Rattle.expression_lang.specs.Sort.{Scalar, Scope}
use Rattle.expression_lang.specs.Signature.{values_of}
use Rattle.expression_lang.specs.States.{IsEnvironment, IsState}
use Rattle.ac_expr.specs.Fact.{Fact, Whole, NotTrue, AllSay}
use Rattle.ac_expr.specs.Heads.{head, children}
use Rattle.ac_expr.specs.Step.{OneStepApart, shorter, longer, inside, OneOfThem, this, later, at_each, child_facts}
use Rattle.ac_expr.proofs.HeadsAgree.{first, others, filled, whole, LooksAlike, heads_agree}
use Rattle.ac_expr.proofs.PartsSorted.{IsSorted, AreSorted, children_sorted}
use Rattle.ac_expr.proofs.StepsHold.{scope, step_holds}

looks_alike : (l : Layout) (env : Env) (s : State) (e : Exp) → LooksAlike l env env s s e
looks_alike l env s (Var x) = refl
looks_alike l env s (Load t p path) = refl
looks_alike l env s (Read t p path) = refl
looks_alike l env s e = tt

-- what is looked at only where the first decides nothing
and_same : (a b b' : Bool) → (a ≡ true → b' ≡ b) → (a && b') ≡ (a && b)
and_same true b b' h = h refl
and_same false b b' h = refl

or_same : (a b b' : Bool) → (a ≡ false → b' ≡ b) → (a || b') ≡ (a || b)
or_same true b b' h = refl
or_same false b b' h = h refl

imp_same : (a b b' : Bool) → (a ≡ true → b' ≡ b) → (not a || b') ≡ (not a || b)
imp_same true b b' h = h refl
imp_same false b b' h = refl

first_same : (c : Bool) (a a' b : Value) → (c ≡ true → a' ≡ a) → if_truth c a' b ≡ if_truth c a b
first_same true a a' b h = h refl
first_same false a a' b h = refl

second_same : (c : Bool) (a b b' : Value) → (c ≡ false → b' ≡ b) → if_truth c a b' ≡ if_truth c a b
second_same true a b b' h = refl
second_same false a b b' h = h refl

-- The left side is well-sorted in one scope, the right side in another, and the environment fits both, and the scope of the place.
module _ (l : Layout) (laid : IsLayout l) (vs : List GlobalVar) (env : Env) (s : State) (state : IsState l vs s) (names left right : Name → Option Scalar)
    (fits : IsEnvironment (scope l laid vs env s state names) env) (fits_left : IsEnvironment (scope l laid vs env s state left) env) (fits_right : IsEnvironment (scope l laid vs env s state right) env) where
  abbrev place : Scope
  place = scope l laid vs env s state names

  abbrev on_left : Scope
  on_left = scope l laid vs env s state left

  abbrev on_right : Scope
  on_right = scope l laid vs env s state right

  abbrev at : Exp → Value
  at e = value l env s e

  abbrev Holds : Exp → Type 0
  Holds e = holds l env s e ≡ true

  -- each has the same value where the facts at its place hold
  abbrev AllUnder : List (List Fact) → List Exp → List Exp → Type 0
  AllUnder (fs ∷ fss) (a ∷ as') (b ∷ bs) = (AllSay l env s fs → at b ≡ at a) × AllUnder fss as' bs
  AllUnder (fs ∷ fss) [] bs = bs ≡ []
  AllUnder (fs ∷ fss) (a ∷ as') [] = ⊥
  AllUnder [] as' bs = bs ≡ as'

  themselves : (fss : List (List Fact)) (es : List Exp) → AllUnder fss es es
  themselves [] es = refl
  themselves (fs ∷ fss) [] = refl
  themselves (fs ∷ fss) (e ∷ es) = (λ said. refl, themselves fss es)

  row_same : (fs : List Fact) (as' bs : List Exp) → AllUnder (at_each fs as') as' bs → AllSay l env s fs → values_of l env s bs ≡ values_of l env s as'
  row_same fs [] bs u said = ap (λ es. values_of l env s es) u
  row_same fs (a ∷ as') (b ∷ bs) u said = ap₂ (λ v us. v ∷ us) (u.0 said) (row_same fs as' bs u.1 said)
  row_same fs (a ∷ as') [] u said = absurd u

  in_and : (fs : List Fact) (a b : Exp) (bs : List Exp) → AllUnder (fs ∷ (Whole a ∷ fs) ∷ []) (a ∷ b ∷ []) bs → AllSay l env s fs → at (And (first bs) (first (others bs))) ≡ at (And a b)
  in_and fs a b [] u said = absurd u
  in_and fs a b (c ∷ []) u said = absurd u.1
  in_and fs a b (c ∷ d ∷ es) u said =
      ap (λ v. Truth (truth_in v && holds l env s d)) (u.0 said) ∙ ap (λ v. Truth v) (and_same (holds l env s a) (holds l env s b) (holds l env s d) (λ e. ap truth_in (u.1.0 (e, said))))

  in_or : (fs : List Fact) (a b : Exp) (bs : List Exp) → AllUnder (fs ∷ (NotTrue a ∷ fs) ∷ []) (a ∷ b ∷ []) bs → AllSay l env s fs → at (Or (first bs) (first (others bs))) ≡ at (Or a b)
  in_or fs a b [] u said = absurd u
  in_or fs a b (c ∷ []) u said = absurd u.1
  in_or fs a b (c ∷ d ∷ es) u said =
      ap (λ v. Truth (truth_in v || holds l env s d)) (u.0 said)
      ∙ ap (λ v. Truth v) (or_same (holds l env s a) (holds l env s b) (holds l env s d) (λ e. ap truth_in (u.1.0 (not_from_false (holds l env s a) e, said))))

  in_imp : (fs : List Fact) (a b : Exp) (bs : List Exp) → AllUnder (fs ∷ (Whole a ∷ fs) ∷ []) (a ∷ b ∷ []) bs → AllSay l env s fs → at (Imp (first bs) (first (others bs))) ≡ at (Imp a b)
  in_imp fs a b [] u said = absurd u
  in_imp fs a b (c ∷ []) u said = absurd u.1
  in_imp fs a b (c ∷ d ∷ es) u said =
      ap (λ v. Truth (not (truth_in v) || holds l env s d)) (u.0 said) ∙ ap (λ v. Truth v) (imp_same (holds l env s a) (holds l env s b) (holds l env s d) (λ e. ap truth_in (u.1.0 (e, said))))

  in_if : (fs : List Fact) (c a b : Exp) (bs : List Exp) → AllUnder (fs ∷ (Whole c ∷ fs) ∷ (NotTrue c ∷ fs) ∷ []) (c ∷ a ∷ b ∷ []) bs → AllSay l env s fs →
      at (If (first bs) (first (others bs)) (first (others (others bs)))) ≡ at (If c a b)
  in_if fs c a b [] u said = absurd u
  in_if fs c a b (d ∷ []) u said = absurd u.1
  in_if fs c a b (d ∷ d' ∷ []) u said = absurd u.1.1
  in_if fs c a b (d ∷ a' ∷ b' ∷ es) u said =
      ap (λ v. if_truth (truth_in v) (at a') (at b')) (u.0 said) ∙ first_same (holds l env s c) (at a) (at a') (at b') (λ e. u.1.0 (e, said))
      ∙ second_same (holds l env s c) (at a) (at b) (at b') (λ e. u.1.1.0 (not_from_false (holds l env s c) e, said))

  in_head : (fs : List Fact) (a b : Exp) → head b ≡ head a → AllUnder (child_facts fs a) (children a) (children b) → AllSay l env s fs → at b ≡ at a
  in_head fs (And a b) c e u said = ap at (sym (whole c)) ∙ ap (λ x. at (filled x (children c))) e ∙ in_and fs a b (children c) u said
  in_head fs (Or a b) c e u said = ap at (sym (whole c)) ∙ ap (λ x. at (filled x (children c))) e ∙ in_or fs a b (children c) u said
  in_head fs (Imp a b) c e u said = ap at (sym (whole c)) ∙ ap (λ x. at (filled x (children c))) e ∙ in_imp fs a b (children c) u said
  in_head fs (If d a b) c e u said = ap at (sym (whole c)) ∙ ap (λ x. at (filled x (children c))) e ∙ in_if fs d a b (children c) u said
  in_head fs a b e u said = heads_agree l env env s s refl refl a b e (looks_alike l env s a) (row_same fs (children a) (children b) u said)

  mutual
    pub apart_holds : (fs : List Fact) (a b : Exp) → OneStepApart place fs a b → IsSorted on_left a → IsSorted on_right b → AllSay l env s fs → at b ≡ at a
    apart_holds fs a b (shorter k) h i said = sym (step_holds l laid vs env s state fs said names left fits fits_left a b h.0 h.1 k)
    apart_holds fs a b (longer k) h i said = step_holds l laid vs env s state fs said names right fits fits_right b a i.0 i.1 k
    apart_holds fs a b (inside e k) h i said = in_head fs a b e (one_holds (child_facts fs a) (children a) (children b) k (children_sorted on_left a h) (children_sorted on_right b i)) said

    one_holds : (fss : List (List Fact)) (as' bs : List Exp) → OneOfThem place fss as' bs → AreSorted on_left as' → AreSorted on_right bs → AllUnder fss as' bs
    one_holds _ _ _ (this {fs} {fss} {a} {b} {es} k) h i = (λ said. apart_holds fs a b k h.0 i.0 said, themselves fss es)
    one_holds _ _ _ (later {fs} {fss} {e} {as'} {bs} k) h i = (λ said. refl, one_holds fss as' bs k h.1 i.1)

  -- one of a row, all under the same facts
  pub all_same : (fs : List Fact) (as' bs : List Exp) → OneOfThem place (at_each fs as') as' bs → AreSorted on_left as' → AreSorted on_right bs → AllSay l env s fs → values_of l env s bs ≡ values_of l env s as'
  all_same fs as' bs k h i said = row_same fs as' bs (one_holds (at_each fs as') as' bs k h i) said
