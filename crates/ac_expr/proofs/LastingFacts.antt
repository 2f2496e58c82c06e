-- Facts that are kept, and facts that last, each said of the other.
use Rattle.std.proofs.Common.{◌≡◌, ◌↔◌, ◌⊎◌, inl, inr, ℕ, zero, suc, Bool, true, false, not, ◌&&◌, List, [], ◌∷◌, Option, Some, None, if◌then◌else◌, refl, sym, ◌∙◌}
use Rattle.std.proofs.lemmas.Bool.{false≢true, and_parts, and_from}
use Rattle.c_values.specs.Name.{Name}
use Rattle.expression_lang.specs.Expression.{Exp}
use Rattle.expression_lang.specs.Mentions.{names, reads}
use Rattle.ac_expr.specs.Fact.{Fact, stands_for}
use Rattle.ac_expr.specs.Facts.{facts_where, without_name, without_reads}
use Rattle.ac_expr.specs.Passed.{Part, without_names, with_guard, where_unchanged, after, passed}
use Rattle.ac_expr.specs.Lasting.{is_unnamed, lasts_part, lasts_passed}
use Rattle.ac_expr.specs.Guarded.{GuardHas, Kept, SomeGuard, Lasting}
use Rattle.ac_expr.specs.Known.{SomeFact}

pub some_with : (P Q : Exp → Type 0) (fs : List Fact) → ((e : Exp) → P e → Q e) → SomeFact P fs → SomeFact Q fs
some_with P Q [] go h = h
some_with P Q (f ∷ fs) go (inl h) = inl (go (stands_for f) h)
some_with P Q (f ∷ fs) go (inr h) = inr (some_with P Q fs go h)

-- P, and the test passed
abbrev pub Passing : (Exp → Bool) → (Exp → Type 0) → Exp → Type 0
Passing t P e = (t e ≡ true) × P e

pub kept : (P : Exp → Type 0) (t : Exp → Bool) (fs : List Fact) → SomeFact (Passing t P) fs → SomeFact P (facts_where t fs)
kept P t [] h = h
kept P t (f ∷ fs) h = by_test (kept P t fs) (t (stands_for f)) refl h
  where
    by_test : (SomeFact (Passing t P) fs → SomeFact P (facts_where t fs)) → (b : Bool) → t (stands_for f) ≡ b → Passing t P (stands_for f) ⊎ SomeFact (Passing t P) fs → SomeFact P (if b then f ∷ facts_where t fs else facts_where t fs)
    by_test go true e (inl h) = inl h.1
    by_test go true e (inr h) = inr (go h)
    by_test go false e (inl h) = absurd (false≢true (sym e ∙ h.0))
    by_test go false e (inr h) = go h

pub kept_back : (P : Exp → Type 0) (t : Exp → Bool) (fs : List Fact) → SomeFact P (facts_where t fs) → SomeFact (Passing t P) fs
kept_back P t [] h = h
kept_back P t (f ∷ fs) h = by_test (kept_back P t fs) (t (stands_for f)) refl h
  where
    by_test : (SomeFact P (facts_where t fs) → SomeFact (Passing t P) fs) → (b : Bool) → t (stands_for f) ≡ b → SomeFact P (if b then f ∷ facts_where t fs else facts_where t fs) → Passing t P (stands_for f) ⊎ SomeFact (Passing t P) fs
    by_test go true e (inl h) = inl (e, h)
    by_test go true e (inr h) = inr (go h)
    by_test go false e h = inr (go h)

-- of names
abbrev pub Unnamed : List Name → (Exp → Type 0) → Exp → Type 0
Unnamed xs P e = (is_unnamed xs e ≡ true) × P e

pub unnamed : (P : Exp → Type 0) (xs : List Name) (fs : List Fact) → SomeFact (Unnamed xs P) fs → SomeFact P (without_names xs fs)
unnamed P [] fs h = some_with (Unnamed [] P) P fs (λ e k. k.1) h
unnamed P (x ∷ xs) fs h =
    unnamed P xs (without_name x fs)
    (kept (Unnamed xs P) (λ e. not (names x e)) fs (some_with (Unnamed (x ∷ xs) P) (Passing (λ e. not (names x e)) (Unnamed xs P)) fs (λ e k. both e k) h))
  where
    both : (e : Exp) → Unnamed (x ∷ xs) P e → Passing (λ e. not (names x e)) (Unnamed xs P) e
    both e k = let two : (not (names x e) ≡ true) × (is_unnamed xs e ≡ true) = and_parts (not (names x e)) (is_unnamed xs e) k.0 in (two.0, (two.1, k.1))

pub unnamed_back : (P : Exp → Type 0) (xs : List Name) (fs : List Fact) → SomeFact P (without_names xs fs) → SomeFact (Unnamed xs P) fs
unnamed_back P [] fs h = some_with P (Unnamed [] P) fs (λ e k. (refl, k)) h
unnamed_back P (x ∷ xs) fs h =
    some_with (Passing (λ e. not (names x e)) (Unnamed xs P)) (Unnamed (x ∷ xs) P) fs (λ e k. (and_from (not (names x e)) (is_unnamed xs e) k.0 k.1.0, k.1.1))
    (kept_back (Unnamed xs P) (λ e. not (names x e)) fs (unnamed_back P xs (without_name x fs) h))

-- of changes of the state
looks : (b : Bool) → not (b && true) ≡ true → not b ≡ true
looks true h = h
looks false h = h

looks_back : (b : Bool) → not b ≡ true → not (b && true) ≡ true
looks_back true h = h
looks_back false h = h

whatever : (b : Bool) → not (b && false) ≡ true
whatever true = refl
whatever false = refl

abbrev pub Unchanged : Bool → (Exp → Type 0) → Exp → Type 0
Unchanged c P e = (not (reads e && c) ≡ true) × P e

pub unchanged : (P : Exp → Type 0) (c : Bool) (fs : List Fact) → SomeFact (Unchanged c P) fs → SomeFact P (where_unchanged c fs)
unchanged P true fs h = kept P (λ e. not (reads e)) fs (some_with (Unchanged true P) (Passing (λ e. not (reads e)) P) fs (λ e k. (looks (reads e) k.0, k.1)) h)
unchanged P false fs h = some_with (Unchanged false P) P fs (λ e k. k.1) h

pub unchanged_back : (P : Exp → Type 0) (c : Bool) (fs : List Fact) → SomeFact P (where_unchanged c fs) → SomeFact (Unchanged c P) fs
unchanged_back P true fs h =
    some_with (Passing (λ e. not (reads e)) P) (Unchanged true P) fs (λ e k. (looks_back (reads e) k.0, k.1)) (kept_back P (λ e. not (reads e)) fs h)
unchanged_back P false fs h = some_with P (Unchanged false P) fs (λ e k. (whatever (reads e), k)) h

guard_with : (P Q : Exp → Type 0) (g : Option Exp) → ((e : Exp) → P e → Q e) → GuardHas P g → GuardHas Q g
guard_with P Q None go h = h
guard_with P Q (Some e) go h = go e h

with_one : (P : Exp → Type 0) (g : Option Exp) (fs : List Fact) → GuardHas P g ⊎ SomeFact P fs → SomeFact P (with_guard g fs)
with_one P None fs (inl h) = absurd h
with_one P None fs (inr h) = h
with_one P (Some e) fs h = h

with_one_back : (P : Exp → Type 0) (g : Option Exp) (fs : List Fact) → SomeFact P (with_guard g fs) → GuardHas P g ⊎ SomeFact P fs
with_one_back P None fs h = inr h
with_one_back P (Some e) fs h = h

-- of one part
abbrev AfterPart : (Exp → Type 0) → Part → List Fact → Type 0
AfterPart P p fs = GuardHas (Unnamed p.names P) p.guard ⊎ SomeFact (Unchanged p.changes (Unnamed p.names P)) fs

after_part : (P : Exp → Type 0) (p : Part) (fs : List Fact) → AfterPart P p fs → SomeFact P (after p fs)
after_part P p fs h = unnamed P p.names (with_guard p.guard (where_unchanged p.changes fs)) (with_one (Unnamed p.names P) p.guard (where_unchanged p.changes fs) (there h))
  where
    there : AfterPart P p fs → GuardHas (Unnamed p.names P) p.guard ⊎ SomeFact (Unnamed p.names P) (where_unchanged p.changes fs)
    there (inl k) = inl k
    there (inr k) = inr (unchanged (Unnamed p.names P) p.changes fs k)

after_part_back : (P : Exp → Type 0) (p : Part) (fs : List Fact) → SomeFact P (after p fs) → AfterPart P p fs
after_part_back P p fs h = back (with_one_back (Unnamed p.names P) p.guard (where_unchanged p.changes fs) (unnamed_back P p.names (with_guard p.guard (where_unchanged p.changes fs)) h))
  where
    back : GuardHas (Unnamed p.names P) p.guard ⊎ SomeFact (Unnamed p.names P) (where_unchanged p.changes fs) → AfterPart P p fs
    back (inl k) = inl k
    back (inr k) = inr (unchanged_back (Unnamed p.names P) p.changes fs k)

-- of so many parts
abbrev Through : (Exp → Type 0) → ℕ → List Part → List Fact → Type 0
Through P n ps fs = SomeGuard P n ps ⊎ SomeFact (Passing (lasts_passed n ps) P) fs

parts_of : (P : Exp → Type 0) (n : ℕ) (p : Part) (ps : List Part) (e : Exp) → Passing (lasts_passed (suc n) (p ∷ ps)) P e → Unchanged p.changes (Unnamed p.names (Passing (lasts_passed n ps) P)) e
parts_of P n p ps e k =
    let first : (lasts_part p e ≡ true) × (lasts_passed n ps e ≡ true) = and_parts (lasts_part p e) (lasts_passed n ps e) k.0 in
    let two : (is_unnamed p.names e ≡ true) × (not (reads e && p.changes) ≡ true) = and_parts (is_unnamed p.names e) (not (reads e && p.changes)) first.0 in (two.1, (two.0, (first.1, k.1)))

whole_of : (P : Exp → Type 0) (n : ℕ) (p : Part) (ps : List Part) (e : Exp) → Unchanged p.changes (Unnamed p.names (Passing (lasts_passed n ps) P)) e → Passing (lasts_passed (suc n) (p ∷ ps)) P e
whole_of P n p ps e k =
    (and_from (lasts_part p e) (lasts_passed n ps e) (and_from (is_unnamed p.names e) (not (reads e && p.changes)) k.1.0 k.0) k.1.1.0, k.1.1.1)

through : (P : Exp → Type 0) (n : ℕ) (ps : List Part) (fs : List Fact) → Through P n ps fs → SomeFact P (passed n ps fs)
through P zero ps fs (inl h) = absurd h
through P zero ps fs (inr h) = some_with (Passing (lasts_passed zero ps) P) P fs (λ e k. k.1) h
through P (suc n) [] fs (inl h) = absurd h
through P (suc n) [] fs (inr h) = some_with (Passing (lasts_passed (suc n) []) P) P fs (λ e k. k.1) h
through P (suc n) (p ∷ ps) fs (inl (inl h)) =
    through P n ps (after p fs) (inr (after_part (Passing (lasts_passed n ps) P) p fs (inl (guard_with (Kept P n p.names ps) (Unnamed p.names (Passing (lasts_passed n ps) P)) p.guard (λ e k. (k.0.1, (k.1, k.0.0))) h))))
through P (suc n) (p ∷ ps) fs (inl (inr h)) = through P n ps (after p fs) (inl h)
through P (suc n) (p ∷ ps) fs (inr h) =
    through P n ps (after p fs)
    (inr (after_part (Passing (lasts_passed n ps) P) p fs (inr (some_with (Passing (lasts_passed (suc n) (p ∷ ps)) P) (Unchanged p.changes (Unnamed p.names (Passing (lasts_passed n ps) P))) fs (parts_of P n p ps) h))))

through_back : (P : Exp → Type 0) (n : ℕ) (ps : List Part) (fs : List Fact) → SomeFact P (passed n ps fs) → Through P n ps fs
through_back P zero ps fs h = inr (some_with P (Passing (lasts_passed zero ps) P) fs (λ e k. (refl, k)) h)
through_back P (suc n) [] fs h = inr (some_with P (Passing (lasts_passed (suc n) []) P) fs (λ e k. (refl, k)) h)
through_back P (suc n) (p ∷ ps) fs h = by_rest (through_back P n ps (after p fs) h)
  where
    by_part : AfterPart (Passing (lasts_passed n ps) P) p fs → Through P (suc n) (p ∷ ps) fs
    by_part (inl k) = inl (inl (guard_with (Unnamed p.names (Passing (lasts_passed n ps) P)) (Kept P n p.names ps) p.guard (λ e i. ((i.1.1, i.0), i.1.0)) k))
    by_part (inr k) = inr (some_with (Unchanged p.changes (Unnamed p.names (Passing (lasts_passed n ps) P))) (Passing (lasts_passed (suc n) (p ∷ ps)) P) fs (whole_of P n p ps) k)

    by_rest : Through P n ps (after p fs) → Through P (suc n) (p ∷ ps) fs
    by_rest (inl k) = inl (inr k)
    by_rest (inr k) = by_part (after_part_back (Passing (lasts_passed n ps) P) p fs k)

turned : (P : Exp → Type 0) (t q : Exp → Bool) (fs : List Fact) → SomeFact (Lasting P (λ e. t e && q e)) fs → SomeFact (Passing t (Lasting P q)) fs
turned P t q fs h = some_with (Lasting P (λ e. t e && q e)) (Passing t (Lasting P q)) fs (λ e k. both e k) h
  where
    both : (e : Exp) → Lasting P (λ e. t e && q e) e → Passing t (Lasting P q) e
    both e k = let two : (t e ≡ true) × (q e ≡ true) = and_parts (t e) (q e) k.1 in (two.0, (k.0, two.1))

turned_back : (P : Exp → Type 0) (t q : Exp → Bool) (fs : List Fact) → SomeFact (Passing t (Lasting P q)) fs → SomeFact (Lasting P (λ e. t e && q e)) fs
turned_back P t q fs h = some_with (Passing t (Lasting P q)) (Lasting P (λ e. t e && q e)) fs (λ e k. (k.1.0, and_from (t e) (q e) k.0 k.1.1)) h

pub past_name : (P : Exp → Type 0) (q : Exp → Bool) (x : Name) (fs : List Fact) → SomeFact (Lasting P (λ e. not (names x e) && q e)) fs ↔ SomeFact (Lasting P q) (without_name x fs)
past_name P q x fs = (
  (λ h. kept (Lasting P q) (λ e. not (names x e)) fs (turned P (λ e. not (names x e)) q fs h)),
  (λ h. turned_back P (λ e. not (names x e)) q fs (kept_back (Lasting P q) (λ e. not (names x e)) fs h)),
)

pub past_change : (P : Exp → Type 0) (q : Exp → Bool) (fs : List Fact) → SomeFact (Lasting P (λ e. not (reads e) && q e)) fs ↔ SomeFact (Lasting P q) (without_reads fs)
past_change P q fs = (
  (λ h. kept (Lasting P q) (λ e. not (reads e)) fs (turned P (λ e. not (reads e)) q fs h)),
  (λ h. turned_back P (λ e. not (reads e)) q fs (kept_back (Lasting P q) (λ e. not (reads e)) fs h)),
)

pub past_parts : (P : Exp → Type 0) (q : Exp → Bool) (n : ℕ) (ps : List Part) (fs : List Fact) →
    (SomeGuard (Lasting P q) n ps ⊎ SomeFact (Lasting P (λ e. lasts_passed n ps e && q e)) fs) ↔ SomeFact (Lasting P q) (passed n ps fs)
past_parts P q n ps fs = ((λ h. through (Lasting P q) n ps fs (there h)), (λ h. back (through_back (Lasting P q) n ps fs h)))
  where
    there : SomeGuard (Lasting P q) n ps ⊎ SomeFact (Lasting P (λ e. lasts_passed n ps e && q e)) fs → Through (Lasting P q) n ps fs
    there (inl k) = inl k
    there (inr k) = inr (turned P (lasts_passed n ps) q fs k)

    back : Through (Lasting P q) n ps fs → SomeGuard (Lasting P q) n ps ⊎ SomeFact (Lasting P (λ e. lasts_passed n ps e && q e)) fs
    back (inl k) = inl k
    back (inr k) = inr (turned_back P (lasts_passed n ps) q fs k)

pub after_nothing : (P : Exp → Type 0) (fs : List Fact) → SomeFact (Lasting P (λ e. true)) fs ↔ SomeFact P fs
after_nothing P fs = (
  (λ h. some_with (Lasting P (λ e. true)) P fs (λ e k. k.0) h),
  (λ h. some_with P (Lasting P (λ e. true)) fs (λ e k. (k, refl)) h),
)

pub chain : {A B C D : Type 0} → (A ↔ B) → (B ↔ C) → (C ↔ D) → (A ↔ D)
chain f g h = ((λ a. h.0 (g.0 (f.0 a))), (λ d. f.1 (g.1 (h.1 d))))

pub two : {A B C : Type 0} → (A ↔ B) → (B ↔ C) → (A ↔ C)
two f g = ((λ a. g.0 (f.0 a)), (λ c. f.1 (g.1 c)))
