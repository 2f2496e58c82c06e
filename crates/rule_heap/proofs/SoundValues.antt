-- The rules of expressions are sound: where the facts hold, the value of the right side on the state of the right side is that of
-- the left side on its own. One lemma for each row.
use Rattle.std.proofs.Common.{◌≡◌, ℕ, suc, Bool, true, false, not, ◌&&◌, ◌||◌, List, [], ◌∷◌, length, refl, sym, ap, ap₂, ◌∙◌, subst}
use Rattle.std.proofs.lemmas.Bool.{not_from_false}
use Rattle.std.proofs.Math.Nat.{suc_inj}
use Rattle.c_values.specs.Types.{CType}
use Rattle.c_values.specs.Value.{Value, Truth, word_in, truth_in}
use Rattle.c_values.specs.Layout.{Layout, IsLayout, shape_of}
use Rattle.c_values.specs.Path.{Step}
use Rattle.c_memory.specs.Tags.{is_covered, is_pointer_ok, AreTags}
use Rattle.c_memory.specs.Heap.{heap_tags, is_tagged, read_heap}
use Rattle.c_memory.proofs.Covered.{covered_tag, tag_among, root_pointer_ok}
use Rattle.expression_lang.specs.Expression as E
use Rattle.expression_lang.specs.Expression.{Exp, Path}
use Rattle.expression_lang.specs.Evaluation.{Env, State, value, steps, holds, if_truth}
use Rattle.ac_expr.specs.Heads.{children, head, path_children, path_head}
use Rattle.ac_expr.specs.Fact.{Fact, Whole, NotTrue, AllSay}
use Rattle.ac_expr.specs.Known.{IsKnown}
use Rattle.ac_expr.proofs.KnownHolds.{known_holds}
use Rattle.ac_expr.proofs.HeadsAgree.{SameValues, heads_agree, steps_same, as_many, path_as_many, LooksAlike}
use Rattle.rule_trees.specs.RuleTree.{AllHold}
use Rattle.rule_heap.specs.Rule as R
use Rattle.rule_heap.specs.Rule.{Rule, Claim, OfExp}
use Rattle.rule_heap.specs.Table.{each, IsPlace, has_rule, exp_row}
use Rattle.rule_heap.proofs.Alike.{AreAlike}
use Rattle.rule_heap.proofs.InRange.{Leads, leads_there}

-- a covered root is where a pointer may point
pub covered_ok : (l : Layout) (s : State) (t : CType) (a : ℕ) → IsLayout l → AreTags l (heap_tags s.heap) → is_tagged l s.heap t a ≡ true → is_pointer_ok l t a ≡ true
covered_ok l s t a h placed covered =
    let u = covered_tag l (heap_tags s.heap) t a covered in root_pointer_ok l h u.0 t a u.2 (tag_among l (heap_tags s.heap) u.0 placed u.1) u.3

no_more : {n : ℕ} → suc n ≡ 0 → ⊥
no_more h = absurd cc

and_alike : (x x' y y' : Bool) → x' ≡ x → (x' ≡ true → y' ≡ y) → (x' && y') ≡ (x && y)
and_alike true true y y' e h = h refl
and_alike false false y y' e h = refl
and_alike _ _ y y' e h = absurd cc

or_alike : (x x' y y' : Bool) → x' ≡ x → (x' ≡ false → y' ≡ y) → (x' || y') ≡ (x || y)
or_alike true true y y' e h = refl
or_alike false false y y' e h = h refl
or_alike _ _ y y' e h = absurd cc

imp_alike : (x x' y y' : Bool) → x' ≡ x → (x' ≡ true → y' ≡ y) → (not x' || y') ≡ (not x || y)
imp_alike true true y y' e h = h refl
imp_alike false false y y' e h = refl
imp_alike _ _ y y' e h = absurd cc

if_alike : (x x' : Bool) (a a' b b' : Value) → x' ≡ x → (x' ≡ true → a' ≡ a) → (x' ≡ false → b' ≡ b) → if_truth x' a' b' ≡ if_truth x a b
if_alike true true a a' b b' e h k = h refl
if_alike false false a a' b b' e h k = k refl
if_alike _ _ a a' b b' e h k = absurd cc

leaf_looks : (l : Layout) (env : Env) (s s' : State) (a : Exp) → children a ≡ [] → LooksAlike l env env s s' a
leaf_looks l env s s' (E.Var x) h = refl
leaf_looks l env s s' (E.Load t p path) h = absurd cc
leaf_looks l env s s' (E.Read t p path) h = absurd cc
leaf_looks l env s s' a h = tt

op_looks : (l : Layout) (env : Env) (s s' : State) (a : Exp) → has_rule a ≡ false → LooksAlike l env env s s' a
op_looks l env s s' (E.Var x) h = refl
op_looks l env s s' (E.Load t p path) h = absurd cc
op_looks l env s s' (E.Read t p path) h = absurd cc
op_looks l env s s' a h = tt

-- what is known to be covered on the right is covered on the left
pub covered_left : (l : Layout) (alike : State → State → Type 0) (laws : AreAlike l alike) (fs : List Fact) (t : CType) (q : Exp) (env : Env) (s s' : State) → alike s s' → AllSay l env s' fs →
    IsKnown fs (E.Tagged t q) → is_tagged l s.heap t (word_in (value l env s' q)).bits ≡ true
covered_left l alike laws fs t q env s s' near said k =
    ap (λ ts. is_covered l ts t (word_in (value l env s' q)).bits) (sym (laws.tags s s' near)) ∙ known_holds l env s' fs (E.Tagged t q) said k

module _ (l : Layout) (laid : IsLayout l) (alike : State → State → Type 0) (laws : AreAlike l alike) where
  -- where the facts hold, both sides have one value
  abbrev pub SoundExp : List Fact → Exp → Exp → Type 0
  SoundExp fs a b = (env : Env) (s s' : State) → alike s s' → AllSay l env s' fs → value l env s' b ≡ value l env s a

  load : (fs : List Fact) (t : CType) (p q : Exp) (path way : Path) → path_head way ≡ path_head path → IsPlace l fs t q way → SoundExp fs p q →
      ((env : Env) (s s' : State) → alike s s' → AllSay l env s' fs → SameValues l env env s s' (path_children path) (path_children way)) → SoundExp fs (E.Load t p path) (E.Read t q way)
  load fs t p q path way heads place sound each env s s' near said =
      let at : value l env s' q ≡ value l env s p = sound env s s' near said in
      let way' : List Step = steps l env s' way in
      let leads : Leads (shape_of l t) way' = leads_there l env s' fs said way (shape_of l t) place.1 in
      laws.reads s s' near t (word_in (value l env s' q)).bits way' leads.end (covered_left l alike laws fs t q env s s' near said place.0) leads.range leads.spot
      ∙ ap₂ (λ v ps. read_heap l s.heap t (word_in v).bits ps) at (steps_same l env env s s' path way heads (each env s s' near said))

  pub tagged : (fs : List Fact) (t : CType) (p q : Exp) → SoundExp fs p q → SoundExp fs (E.Tagged t p) (E.Tagged t q)
  tagged fs t p q sound env s s' near said = ap₂ (λ ts v. Truth (is_covered l ts t (word_in v).bits)) (laws.tags s s' near) (sound env s s' near said)

  ptrok : (fs : List Fact) (t : CType) (p q : Exp) → SoundExp fs p q → SoundExp fs (E.PtrOk t p) (E.PtrOk t q)
  ptrok fs t p q sound env s s' near said = ap (λ v. Truth (is_pointer_ok l t (word_in v).bits)) (sound env s s' near said)

  pub known : (fs : List Fact) (t : CType) (p q : Exp) → IsKnown fs (E.Tagged t q) → SoundExp fs p q → SoundExp fs (E.PtrOk t p) (E.TruthLit true)
  known fs t p q k sound env s s' near said =
      ap (λ b. Truth b) (sym (covered_ok l s t (word_in (value l env s' q)).bits laid (laws.placed s s' near) (covered_left l alike laws fs t q env s s' near said k)))
      ∙ ap (λ v. Truth (is_pointer_ok l t (word_in v).bits)) (sound env s s' near said)

  both : (fs : List Fact) (a a' b b' : Exp) → SoundExp fs a a' → SoundExp (Whole a' ∷ fs) b b' → SoundExp fs (E.And a b) (E.And a' b')
  both fs a a' b b' sa sb env s s' near said =
      ap (λ b. Truth b) (and_alike (holds l env s a) (holds l env s' a') (holds l env s b) (holds l env s' b') (ap truth_in (sa env s s' near said)) (λ h. ap truth_in (sb env s s' near (h, said))))

  one : (fs : List Fact) (a a' b b' : Exp) → SoundExp fs a a' → SoundExp (NotTrue a' ∷ fs) b b' → SoundExp fs (E.Or a b) (E.Or a' b')
  one fs a a' b b' sa sb env s s' near said =
      ap (λ b. Truth b)
      (or_alike (holds l env s a) (holds l env s' a') (holds l env s b) (holds l env s' b') (ap truth_in (sa env s s' near said)) (λ h. ap truth_in (sb env s s' near (not_from_false (holds l env s' a') h, said))))

  implies : (fs : List Fact) (a a' b b' : Exp) → SoundExp fs a a' → SoundExp (Whole a' ∷ fs) b b' → SoundExp fs (E.Imp a b) (E.Imp a' b')
  implies fs a a' b b' sa sb env s s' near said =
      ap (λ b. Truth b) (imp_alike (holds l env s a) (holds l env s' a') (holds l env s b) (holds l env s' b') (ap truth_in (sa env s s' near said)) (λ h. ap truth_in (sb env s s' near (h, said))))

  choice : (fs : List Fact) (c c' a a' b b' : Exp) → SoundExp fs c c' → SoundExp (Whole c' ∷ fs) a a' → SoundExp (NotTrue c' ∷ fs) b b' → SoundExp fs (E.If c a b) (E.If c' a' b')
  choice fs c c' a a' b b' sc sa sb env s s' near said =
      if_alike (holds l env s c) (holds l env s' c') (value l env s a) (value l env s' a') (value l env s b) (value l env s' b') (ap truth_in (sc env s s' near said)) (λ h. sa env s s' near (h, said))
      (λ h. sb env s s' near (not_from_false (holds l env s' c') h, said))

  -- an expression that looks at no heap
  pub leaf : (fs : List Fact) (a : Exp) → children a ≡ [] → SoundExp fs a a
  leaf fs a none env s s' near said =
      heads_agree l env env s s' (laws.tags s s' near) (laws.globals s s' near) a a refl (leaf_looks l env s s' a none) (subst (λ es. SameValues l env env s s' es es) (sym none) refl)

  module _ (P : Claim → Type 1) (of_exp : (fs : List Fact) (a b : Exp) → P (OfExp fs a b) → SoundExp fs a b) where
    pub each_same : (fs : List Fact) (as' bs : List Exp) → length bs ≡ length as' → AllHold P (each fs as' bs) → (env : Env) (s s' : State) → alike s s' → AllSay l env s' fs →
        SameValues l env env s s' as' bs
    each_same fs [] [] n h env s s' near said = refl
    each_same fs (a ∷ as') (b ∷ bs) n h env s s' near said = ap₂ (λ v vs. v ∷ vs) (of_exp fs a b h.0 env s s' near said) (each_same fs as' bs (suc_inj n) h.1 env s s' near said)
    each_same fs [] (b ∷ bs) n h env s s' near said = absurd (no_more n)
    each_same fs (a ∷ as') [] n h env s s' near said = absurd (no_more (sym n))

    op : (fs : List Fact) (a b : Exp) → has_rule a ≡ false → head b ≡ head a → AllHold P (each fs (children a) (children b)) → SoundExp fs a b
    op fs a b none heads h env s s' near said =
        heads_agree l env env s s' (laws.tags s s' near) (laws.globals s s' near) a b heads (op_looks l env s s' a none) (each_same fs (children a) (children b) (as_many a b heads) h env s s' near said)

    -- of every rule
    pub exp_sound : (fs : List Fact) (rule : Rule) (a b : Exp) → (exp_row l fs rule a b).holds → AllHold P (exp_row l fs rule a b).parts → SoundExp fs a b
    exp_sound fs R.Leaf a b e h = subst (λ c. SoundExp fs a c) (sym e.1) (leaf fs a e.0)
    exp_sound fs R.Load (E.Load t p path) (E.Read u q way) e h =
        subst (λ v. IsPlace l fs v q way → SoundExp fs (E.Load t p path) (E.Read v q way)) (sym e.0)
        (λ place. load fs t p q path way e.1 place (of_exp fs p q h.0) (each_same fs (path_children path) (path_children way) (path_as_many path way e.1) h.1)) (subst (λ v. IsPlace l fs v q way) (sym e.0) e.2)
    exp_sound fs R.Tagged (E.Tagged t p) (E.Tagged u q) e h = subst (λ v. SoundExp fs (E.Tagged t p) (E.Tagged v q)) (sym e) (tagged fs t p q (of_exp fs p q h.0))
    exp_sound fs R.PtrOk (E.PtrOk t p) (E.PtrOk u q) e h = subst (λ v. SoundExp fs (E.PtrOk t p) (E.PtrOk v q)) (sym e) (ptrok fs t p q (of_exp fs p q h.0))
    exp_sound fs R.Op a b e h = op fs a b e.0 e.2 h
    exp_sound fs R.And (E.And a b) (E.And a' b') e h = both fs a a' b b' (of_exp fs a a' h.0) (of_exp (Whole a' ∷ fs) b b' h.1.0)
    exp_sound fs R.Or (E.Or a b) (E.Or a' b') e h = one fs a a' b b' (of_exp fs a a' h.0) (of_exp (NotTrue a' ∷ fs) b b' h.1.0)
    exp_sound fs R.Imp (E.Imp a b) (E.Imp a' b') e h = implies fs a a' b b' (of_exp fs a a' h.0) (of_exp (Whole a' ∷ fs) b b' h.1.0)
    exp_sound fs R.Cond (E.If c a b) (E.If c' a' b') e h = choice fs c c' a a' b b' (of_exp fs c c' h.0) (of_exp (Whole c' ∷ fs) a a' h.1.0) (of_exp (NotTrue c' ∷ fs) b b' h.1.1.0)
    exp_sound fs (R.Known q) (E.PtrOk t p) (E.TruthLit true) e h = known fs t p q e (of_exp fs p q h.0)
    exp_sound fs _ _ _ e h = absurd e
