-- The value at a position, with its name, and lists without it.
use Rattle.std.proofs.Common.{Bool, not, Bor, ◌<◌, ◌≤◌, get_or, IfSome, IfNone, ◌≡◌, ◌↔◌, ◌==◌, ℕ, zero, suc, true, false, List, [], ◌∷◌, map, length, Option, Some, None, ◌⊎◌, inl, inr, refl, sym, ap, ap₂, ◌∙◌, subst, arith, eqb-true}
use Rattle.std.specs.Slice.{IsItemAt}
use Rattle.c_values.specs.Name.{Name}
use Rattle.expression_lang.specs.Expression.{Exp}
use Rattle.expression_lang.specs.Mentions.{reads}
use Rattle.ac_expr.specs.Lasting.{is_unnamed}
use Rattle.monad_lang.specs.Program as M
use Rattle.monad_lang.specs.Program.{Mon}
use Rattle.monad_lang.specs.Names.{is_free}
use Rattle.program_facts.specs.Substituted.{program_substituted}
use Rattle.rule_parts.specs.Captures.{captures}
use Rattle.rule_eq.specs.Table.{Taken, before, taken_at, CanStand, with_values, AreTaken}
use Rattle.rule_eq.specs.CodeTaken.{without, at_position}
use Rattle.rule_eq.proofs.Captured.{captured_told, told_captured}

-- what stands at a position

at_is : {A B : Type 0} (f : A → B) (xs : List A) (i : ℕ) (x : A) → i < length xs → x ≡ get_or xs i x → at_position i (map f xs) ≡ Some (f x)
at_is f [] i x lt h = absurd (omega arith)
at_is f (y ∷ xs) zero x lt h = ap (λ z. Some (f z)) (sym h)
at_is f (y ∷ xs) (suc i) x lt h = at_is f xs i x (omega arith) h

at_none : {A B : Type 0} (f : A → B) (xs : List A) (i : ℕ) → length xs ≤ i → at_position i (map f xs) ≡ None
at_none f [] i h = refl
at_none f (y ∷ xs) zero h = absurd (omega arith)
at_none f (y ∷ xs) (suc i) h = at_none f xs i (omega arith)

pub item_there : {A B : Type 0} (f : A → B) (xs : List A) (i : ℕ) (r : Option (Bor A)) → IsItemAt xs i r →
    IfSome r (λ x. at_position i (map f xs) ≡ Some (f x.now))
item_there f xs i None h = tt
item_there f xs i (Some x) h = at_is f xs i x.now h.3.0 (h.3.1 x.now)

pub no_item : {A B : Type 0} (f : A → B) (xs : List A) (i : ℕ) (r : Option (Bor A)) → IsItemAt xs i r →
    IfNone r (at_position i (map f xs) ≡ None)
no_item f xs i None h = at_none f xs i h.3
no_item f xs i (Some x) h = tt

-- what is taken

abbrev pub taken : ℕ → Exp → Name → List Exp → List Name → Taken
taken i e x es xs = record { exp = e; name = x; exps = without i es; names = without i xs }

pub found : (i : ℕ) (es : List Exp) (xs : List Name) (e : Exp) (x : Name) → at_position i es ≡ Some e → at_position i xs ≡ Some x →
    taken_at i es xs ≡ Some (taken i e x es xs)
found zero (a ∷ es) (y ∷ xs) e x h k =
    let same : a ≡ e = cc in
    let name : y ≡ x = cc in
    ap₂ (λ b z. Some (record { exp = b; name = z; exps = es; names = xs })) same name
found (suc i) (a ∷ es) (y ∷ xs) e x h k = ap (λ o. before a y o) (found i es xs e x h k)
found i [] xs e x h k = absurd cc
found zero (a ∷ es) [] e x h k = absurd cc
found (suc i) (a ∷ es) [] e x h k = absurd cc

pub no_value : (i : ℕ) (es : List Exp) (xs : List Name) → at_position i es ≡ None → taken_at i es xs ≡ None
no_value zero [] xs h = refl
no_value (suc i) [] xs h = refl
no_value zero (a ∷ es) xs h = absurd cc
no_value (suc i) (a ∷ es) [] h = refl
no_value (suc i) (a ∷ es) (y ∷ xs) h = ap (λ o. before a y o) (no_value i es xs h)

pub no_name : (i : ℕ) (es : List Exp) (xs : List Name) → at_position i xs ≡ None → taken_at i es xs ≡ None
no_name zero [] [] h = refl
no_name (suc i) [] [] h = refl
no_name zero (a ∷ es) [] h = refl
no_name (suc i) (a ∷ es) [] h = refl
no_name zero [] (y ∷ xs) h = absurd cc
no_name zero (a ∷ es) (y ∷ xs) h = absurd cc
no_name (suc i) [] (y ∷ xs) h = refl
no_name (suc i) (a ∷ es) (y ∷ xs) h = ap (λ o. before a y o) (no_name i es xs h)

-- what is asked of it

pub not_taken : (o : Option Taken) (m right : Mon) → o ≡ None → AreTaken o m right → ⊥
not_taken None m right e h = h
not_taken (Some k) m right e h = absurd cc

pub taken_is : (o : Option Taken) (k : Taken) (m right : Mon) → o ≡ Some k →
    (CanStand k m × (right ≡ with_values k.exps k.names (program_substituted k.name k.exp m))) ↔ AreTaken o m right
taken_is None k m right e = absurd cc
taken_is (Some j) k m right e =
    let same : j ≡ k = cc in
    subst (λ (i : Taken).
    (CanStand k m × (right ≡ with_values k.exps k.names (program_substituted k.name k.exp m))) ↔ AreTaken (Some i) m right)
    (sym same) ((λ h. h), (λ h. h))

pub stands : (k : Taken) (m : Mon) → is_unnamed k.names k.exp ≡ true → captures k.exp k.name m ≡ false →
    (reads k.exp ≡ false) ⊎ (is_free k.name m ≡ false) → CanStand k m
stands k m u c s = record { state = s; others = u; captured = told_captured k.exp k.name m c }

pub stands_uncaptured : (k : Taken) (m : Mon) → CanStand k m → captures k.exp k.name m ≡ false
stands_uncaptured k m h = captured_told k.exp k.name m h.captured

pub stands_apart : (k : Taken) (m : Mon) → reads k.exp ≡ true → is_free k.name m ≡ true → CanStand k m → ⊥
stands_apart k m r f h = by h.state
  where
    by : (reads k.exp ≡ false) ⊎ (is_free k.name m ≡ false) → ⊥
    by (inl i) = let clash : true ≡ false = sym r ∙ i in cc
    by (inr i) = let clash : true ≡ false = sym f ∙ i in cc

pub stands_free : (k : Taken) (m : Mon) (free : Bool) → free ≡ is_free k.name m → reads k.exp ≡ true → CanStand k m → not free ≡ true
stands_free k m free e r h = by h.state
  where
    by : (reads k.exp ≡ false) ⊎ (is_free k.name m ≡ false) → not free ≡ true
    by (inl i) = let clash : true ≡ false = sym r ∙ i in cc
    by (inr i) = ap not (e ∙ i)

pub free_stands : (free other : Bool) → free ≡ other → not free ≡ true → other ≡ false
free_stands true other e h = absurd cc
free_stands false other e h = sym e

-- the other values

pub none_other : {A : Type 0} (i : ℕ) (es : List A) (e : A) → length es ≡ 1 → at_position i es ≡ Some e → without i es ≡ []
none_other i [] e h k = absurd cc
none_other zero (a ∷ []) e h k = refl
none_other (suc i) (a ∷ []) e h k = absurd cc
none_other i (a ∷ b ∷ es) e h k = absurd (omega arith)

pub some_others : (i : ℕ) (es : List Exp) (e : Exp) (xs : List Name) (m : Mon) → (length es ≡ 1 → ⊥) → at_position i es ≡ Some e →
    with_values (without i es) xs m ≡ M.Bind (M.Ret (without i es)) xs m
some_others i [] e xs m h k = absurd cc
some_others i (a ∷ []) e xs m h k = absurd (h refl)
some_others zero (a ∷ b ∷ es) e xs m h k = refl
some_others (suc i) (a ∷ b ∷ es) e xs m h k = refl

pub alone_iff : (i : ℕ) (es : List Exp) (e : Exp) (xs : List Name) (m right : Mon) → length es ≡ 1 → at_position i es ≡ Some e →
    (right ≡ m) ↔ (right ≡ with_values (without i es) xs m)
alone_iff i es e xs m right h k =
    let same : with_values (without i es) xs m ≡ m = ap (λ fs. with_values fs xs m) (none_other i es e h k) in
    ((λ j. j ∙ sym same), (λ j. j ∙ same))

pub others_iff : (i : ℕ) (es : List Exp) (e : Exp) (xs : List Name) (m right : Mon) → (length es ≡ 1 → ⊥) → at_position i es ≡ Some e →
    (right ≡ M.Bind (M.Ret (without i es)) xs m) ↔ (right ≡ with_values (without i es) xs m)
others_iff i es e xs m right h k =
    let same = some_others i es e xs m h k in
    ((λ j. j ∙ sym same), (λ j. j ∙ same))

-- two lists side by side, of which the second is to be the first without one

module _ {A B : Type 0} (f : A → B) where
  pub without_end : (i : ℕ) (xs ys : List A) → length xs ≡ 0 → ((length ys == 0) ≡ true) ↔ (map f ys ≡ without i (map f xs))
  without_end i [] [] h = ((λ e. refl), (λ e. refl))
  without_end i [] (y ∷ ys) h = (
    (λ e. let clash : suc (length ys) ≡ 0 = eqb-true (suc (length ys)) 0 e in absurd (omega arith)),
    (λ e. let same : map f (y ∷ ys) ≡ [] = e in cc),
  )
  without_end i (x ∷ xs) ys h = absurd (omega arith)

  pub without_more : (i k : ℕ) (x y : A) (xs ys : List A) → k ≡ suc i → f y ≡ f x →
      (map f ys ≡ without i (map f xs)) ↔ (map f (y ∷ ys) ≡ without k (map f (x ∷ xs)))
  without_more i k x y xs ys e h =
      subst (λ j. (map f ys ≡ without i (map f xs)) ↔ (map f (y ∷ ys) ≡ without j (map f (x ∷ xs)))) (sym e)
      ((λ s. ap₂ (λ a b. a ∷ b) h s), (λ s. let same : f y ∷ map f ys ≡ f x ∷ without i (map f xs) = s in cc))

  pub without_other : (i k : ℕ) (x y : A) (xs ys : List A) → k ≡ suc i → (f y ≡ f x → ⊥) →
      map f (y ∷ ys) ≡ without k (map f (x ∷ xs)) → ⊥
  without_other i k x y xs ys e h s =
      let same : f y ∷ map f ys ≡ f x ∷ without i (map f xs) =
      subst (λ j. map f (y ∷ ys) ≡ without j (map f (x ∷ xs))) e s in
      let first : f y ≡ f x = cc in
      h first

  pub without_short : (i k : ℕ) (x : A) (xs ys : List A) → k ≡ suc i → length ys ≡ 0 → map f ys ≡ without k (map f (x ∷ xs)) → ⊥
  without_short i k x xs [] e h s =
      let same : [] ≡ f x ∷ without i (map f xs) = subst (λ j. [] ≡ without j (map f (x ∷ xs))) e s in cc
  without_short i k x xs (y ∷ ys) e h s = absurd (omega arith)
