-- Functions by position and by name, and who calls them.
use Rattle.std.proofs.Common.{◌≡◌, ℕ, zero, suc, ◌+◌, ◌<◌, Bool, true, false, cond, not, ◌||◌, List, [], ◌∷◌, ◌++◌, length, get_or, map, Some, ◌⊎◌, inl, inr, refl, sym, ap, ◌∙◌, subst, arith}
use Rattle.std.specs.List.{filter}
use Rattle.std.proofs.lemmas.Bool.{and_parts, true≢false, cond-true, cond-false, not-true}
use Rattle.c_values.specs.Name.{Name, same_name, is_among, are_distinct}
use Rattle.c_values.proofs.Laid.{same_name-refl, name_is}
use Rattle.c_lang.specs.Typed.{TypedFn, typed_fn}
use Rattle.c_meaning.specs.Levels.{callees_in}
use Rattle.c_levels.specs.CodeSpread.{Among}
use Rattle.c_levels.specs.CodeModes.{IsAt}
use Rattle.c_levels.specs.CodeCalls.{calls_by, calls_from}

abbrev names : List TypedFn → List Name
names fs = map (λ f. f.name) fs

pub there : (fs : List TypedFn) (k : ℕ) → k < length fs → (f : TypedFn) × IsAt fs k f
there [] k lt = absurd (omega arith)
there (f ∷ fs) zero lt = (f, refl)
there (f ∷ fs) (suc k) lt = there fs k (omega arith)

pub same_at : (fs : List TypedFn) (k : ℕ) (f g : TypedFn) → IsAt fs k f → IsAt fs k g → f ≡ g
same_at [] k f g a b = absurd a
same_at (h ∷ hs) zero f g a b = sym a ∙ b
same_at (h ∷ hs) (suc k) f g a b = same_at hs k f g a b

pub below : (fs : List TypedFn) (k : ℕ) (f : TypedFn) → IsAt fs k f → k < length fs
below [] k f a = absurd a
below (g ∷ gs) zero f a = omega arith
below (g ∷ gs) (suc k) f a = let h = below gs k f a in omega arith

-- what a list that is made of the functions has at the position
pub made_at : {A : Type 0} (make : TypedFn → A) (d : A) (fs : List TypedFn) (k : ℕ) (f : TypedFn) → IsAt fs k f → get_or (map make fs) k d ≡ make f
made_at make d [] k f a = absurd a
made_at make d (g ∷ gs) zero f a = ap make a
made_at make d (g ∷ gs) (suc k) f a = made_at make d gs k f a

among_names : (x : Name) (fs : List TypedFn) (k : ℕ) (f : TypedFn) → IsAt fs k f → is_among x (names fs) ≡ false → same_name x f.name ≡ false
among_names x [] k f a e = absurd a
among_names x (g ∷ gs) zero f a e = ap (λ h. same_name x h.name) (sym a) ∙ first (same_name x g.name) (is_among x (names gs)) e
  where
    first : (b c : Bool) → (b || c) ≡ false → b ≡ false
    first true c h = h
    first false c h = refl
among_names x (g ∷ gs) (suc k) f a e = among_names x gs k f a (second (same_name x g.name) (is_among x (names gs)) e)
  where
    second : (b c : Bool) → (b || c) ≡ false → c ≡ false
    second true c h = absurd (true≢false h)
    second false c h = h

-- where names are distinct, a function is found by its name
pub found : (fs : List TypedFn) (k : ℕ) (f : TypedFn) → are_distinct (names fs) ≡ true → IsAt fs k f → typed_fn fs f.name ≡ Some f
found [] k f d a = absurd a
found (g ∷ gs) zero f d a =
    subst (λ (h : TypedFn). cond (same_name g.name h.name) (Some g) (typed_fn gs h.name) ≡ Some h) a
    (cond-true (same_name g.name g.name) (Some g) (typed_fn gs g.name) (same_name-refl g.name))
found (g ∷ gs) (suc k) f d a =
    let p = and_parts (not (is_among g.name (names gs))) (are_distinct (names gs)) d in
    cond-false (same_name g.name f.name) (Some g) (typed_fn gs f.name) (among_names g.name gs k f a (not-true (is_among g.name (names gs)) p.0))
    ∙ found gs k f p.1 a

-- what is found by a name stands at a position
pub stands : (fs : List TypedFn) (x : Name) (f : TypedFn) → typed_fn fs x ≡ Some f → (k : ℕ) × (IsAt fs k f × (f.name ≡ x))
stands [] x f e = absurd cc
stands (g ∷ gs) x f e = by_cases (stands gs x f) (same_name g.name x) refl e
  where
    by_cases : (typed_fn gs x ≡ Some f → (k : ℕ) × (IsAt gs k f × (f.name ≡ x))) → (b : Bool) → same_name g.name x ≡ b → cond b (Some g) (typed_fn gs x) ≡ Some f → (k : ℕ) × (IsAt (g ∷ gs) k f × (f.name ≡ x))
    by_cases later true s h = let q : g ≡ f = cc in (0, (q, ap (λ z. z.name) (sym q) ∙ name_is g.name x s))
    by_cases later false s h = let r = later h in (suc r.0, r.1)

-- a name of a function stands at a position
pub named : (fs : List TypedFn) (x : Name) → is_among x (names fs) ≡ true → (k : ℕ) × ((f : TypedFn) × (IsAt fs k f × (f.name ≡ x)))
named [] x e = absurd (true≢false (sym e))
named (g ∷ gs) x e = by_cases (named gs x) (same_name x g.name) refl e
  where
    by_cases : (is_among x (names gs) ≡ true → (k : ℕ) × ((f : TypedFn) × (IsAt gs k f × (f.name ≡ x)))) → (b : Bool) → same_name x g.name ≡ b → (b || is_among x (names gs)) ≡ true → (k : ℕ) × ((f : TypedFn) × (IsAt (g ∷ gs) k f × (f.name ≡ x)))
    by_cases later true s h = (0, (g, (refl, sym (name_is x g.name s))))
    by_cases later false s h = let r = later h in (suc r.0, (r.1.0, r.1.1))

-- the positions of callers, on plain calls
abbrev pub plain_callers : List (Name × ℕ) → Name → List ℕ
plain_callers cs y = map (λ c. c.1) (filter (λ c. same_name y c.0) cs)

plain_callers_of : (cs ds : List (Name × ℕ)) (y : Name) (i : ℕ) → Among i (plain_callers (cs ++ ds) y) → Among i (plain_callers cs y) ⊎ Among i (plain_callers ds y)
plain_callers_of [] ds y i a = inr a
plain_callers_of (c ∷ cs) ds y i a = by_cases (plain_callers_of cs ds y i) (same_name y c.0) a
  where
    by_cases : (Among i (plain_callers (cs ++ ds) y) → Among i (plain_callers cs y) ⊎ Among i (plain_callers ds y)) → (b : Bool) → Among i (map (λ e. e.1) (cond b (c ∷ filter (λ e. same_name y e.0) (cs ++ ds)) (filter (λ e. same_name y e.0) (cs ++ ds)))) →
        Among i (map (λ e. e.1) (cond b (c ∷ filter (λ e. same_name y e.0) cs) (filter (λ e. same_name y e.0) cs))) ⊎ Among i (plain_callers ds y)
    by_cases later true (inl e) = inl (inl e)
    by_cases later true (inr r) = elim (later r) [ inl l ↦ inl (inr l) | inr m ↦ inr m ]
    by_cases later false r = later r

callers_left : (cs ds : List (Name × ℕ)) (y : Name) (i : ℕ) → Among i (plain_callers cs y) → Among i (plain_callers (cs ++ ds) y)
callers_left [] ds y i a = absurd a
callers_left (c ∷ cs) ds y i a = by_cases (callers_left cs ds y i) (same_name y c.0) a
  where
    by_cases : (Among i (plain_callers cs y) → Among i (plain_callers (cs ++ ds) y)) → (b : Bool) → Among i (map (λ e. e.1) (cond b (c ∷ filter (λ e. same_name y e.0) cs) (filter (λ e. same_name y e.0) cs))) →
        Among i (map (λ e. e.1) (cond b (c ∷ filter (λ e. same_name y e.0) (cs ++ ds)) (filter (λ e. same_name y e.0) (cs ++ ds))))
    by_cases later true (inl e) = inl e
    by_cases later true (inr r) = inr (later r)
    by_cases later false r = later r

callers_right : (cs ds : List (Name × ℕ)) (y : Name) (i : ℕ) → Among i (plain_callers ds y) → Among i (plain_callers (cs ++ ds) y)
callers_right [] ds y i a = a
callers_right (c ∷ cs) ds y i a = by_cases (callers_right cs ds y i a) (same_name y c.0)
  where
    by_cases : Among i (plain_callers (cs ++ ds) y) → (b : Bool) → Among i (map (λ e. e.1) (cond b (c ∷ filter (λ e. same_name y e.0) (cs ++ ds)) (filter (λ e. same_name y e.0) (cs ++ ds))))
    by_cases later true = inr later
    by_cases later false = later

-- of the calls that one function makes
calls_of_one : (k : ℕ) (ys : List Name) (y : Name) (i : ℕ) → Among i (plain_callers (calls_by k ys) y) → (i ≡ k) × (is_among y ys ≡ true)
calls_of_one k [] y i a = absurd a
calls_of_one k (z ∷ ys) y i a = by_cases (calls_of_one k ys y i) (same_name y z) a
  where
    by_cases : (Among i (plain_callers (calls_by k ys) y) → (i ≡ k) × (is_among y ys ≡ true)) → (b : Bool) → Among i (map (λ e. e.1) (cond b ((z, k) ∷ filter (λ e. same_name y e.0) (calls_by k ys)) (filter (λ e. same_name y e.0) (calls_by k ys)))) → (i ≡ k) × ((b || is_among y ys) ≡ true)
    by_cases later true (inl e) = (e, refl)
    by_cases later true (inr r) = ((later r).0, refl)
    by_cases later false r = later r

one_calls : (k : ℕ) (ys : List Name) (y : Name) → is_among y ys ≡ true → Among k (plain_callers (calls_by k ys) y)
one_calls k [] y e = absurd (true≢false (sym e))
one_calls k (z ∷ ys) y e = by_cases (one_calls k ys y) (same_name y z) e
  where
    by_cases : (is_among y ys ≡ true → Among k (plain_callers (calls_by k ys) y)) → (b : Bool) → (b || is_among y ys) ≡ true → Among k (map (λ e. e.1) (cond b ((z, k) ∷ filter (λ e. same_name y e.0) (calls_by k ys)) (filter (λ e. same_name y e.0) (calls_by k ys))))
    by_cases later true h = inl refl
    by_cases later false h = later h

-- a caller is a function that calls
pub calls_it : (b : ℕ) (fs : List TypedFn) (y : Name) (i : ℕ) → Among i (plain_callers (calls_from b fs) y) → (k : ℕ) × ((f : TypedFn) × ((i ≡ b + k) × (IsAt fs k f × (is_among y (callees_in f.body) ≡ true))))
calls_it b [] y i a = absurd a
calls_it b (f ∷ fs) y i a = elim (plain_callers_of (calls_by b (callees_in f.body)) (calls_from (b + 1) fs) y i a) [
  | inl l ↦ let h = calls_of_one b (callees_in f.body) y i l in (0, (f, (omega (arith, h.0), (refl, h.1))))
  | inr r ↦ let h = calls_it (b + 1) fs y i r in (suc h.0, (h.1.0, (omega (arith, h.1.1.0), h.1.1.1)))
]

pub is_caller : (b : ℕ) (fs : List TypedFn) (y : Name) (k : ℕ) (f : TypedFn) → IsAt fs k f → is_among y (callees_in f.body) ≡ true → Among (b + k) (plain_callers (calls_from b fs) y)
is_caller b [] y k f a e = absurd a
is_caller b (g ∷ gs) y zero f a e =
    callers_left (calls_by b (callees_in g.body)) (calls_from (b + 1) gs) y (b + 0)
    (subst (λ j. Among j (plain_callers (calls_by b (callees_in g.body)) y)) (omega arith) (one_calls b (callees_in g.body) y (ap (λ h. is_among y (callees_in h.body)) a ∙ e)))
is_caller b (g ∷ gs) y (suc k) f a e =
    callers_right (calls_by b (callees_in g.body)) (calls_from (b + 1) gs) y (b + suc k)
    (subst (λ j. Among j (plain_callers (calls_from (b + 1) gs) y)) (omega arith) (is_caller (b + 1) gs y k f a e))
