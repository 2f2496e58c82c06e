-- Which range facts give, by their form, the oldest first.
use Rattle.std.proofs.lemmas.Bool.{false≢true}
use Rattle.std.specs.Option.{option_map}
use Rattle.std.proofs.Common.{is_some, ◌≡◌, ℤ, ℕ, ◌+◌, ◌-◌, ◌<◌, ◌≤◌, arith, length, get_or, take, drop, Bool, true, false, ◌||◌, List, [], ◌∷◌, ◌++◌, map, Option, Some, None, if◌then◌else◌, refl, sym, ap, ◌∙◌}
use Rattle.std.proofs.Math.Bool.{or-true}
use Rattle.expression_lang.specs.Expression as X
use Rattle.expression_lang.specs.Expression.{Exp}
use Rattle.ac_expr.specs.Fact.{Fact, Whole, stands_for}
use Rattle.ac_expr.specs.SameExp.{same_exp}
use Rattle.rule_word.specs.Bases.{Base, Naturals, Integers, or_else, gives_at_once, some_gives, range_given, first_range, oldest_range}
use Rattle.word_abstract.specs.CodeKnown.{newest_first}
use Rattle.word_abstract.specs.CodeClaims.{IsOther}
use Rattle.word_abstract.proofs.Deciding.{same_true, same_false}
use Rattle.word_abstract.proofs.KnownLaws.{newest_push, newest_apart, newest_taken, newest_split}

-- what gives an expression

pub gives_other : (fact e : Exp) → IsOther fact → gives_at_once same_exp fact e ≡ same_exp fact e
gives_other (X.And a b) e h = absurd h
gives_other (X.Between low x high) e h = absurd h
gives_other (X.Imp c d) e h = absurd h
gives_other fact e h = refl

pub some_also : (xs ys : List Fact) (e : Exp) → some_gives same_exp (xs ++ ys) e ≡ (some_gives same_exp xs e || some_gives same_exp ys e)
some_also [] ys e = refl
some_also (x ∷ xs) ys e = ap (λ b. gives_at_once same_exp (stands_for x) e || b) (some_also xs ys e) ∙ or_assoc (gives_at_once same_exp (stands_for x) e) (some_gives same_exp xs e) (some_gives same_exp ys e)
  where
    or_assoc : (a b c : Bool) → (a || (b || c)) ≡ ((a || b) || c)
    or_assoc true b c = refl
    or_assoc false b c = refl

pub some_newest : {A : Type 0} (f : A → Fact) (xs : List A) (x : A) (e : Exp) → some_gives same_exp (newest_first (map f (xs ++ x ∷ [])) []) e ≡ (gives_at_once same_exp (stands_for (f x)) e || some_gives same_exp (newest_first (map f xs) []) e)
some_newest f xs x e = ap (λ fs. some_gives same_exp fs e) (newest_push f xs x [])

pub some_older : {A B : Type 0} (f : A → Fact) (h : B → Fact) (own : List A) (outer : List B) (conditions : List Fact) (e : Exp) →
    some_gives same_exp (conditions ++ newest_first (map f own) (newest_first (map h outer) [])) e ≡
    (some_gives same_exp conditions e || (some_gives same_exp (newest_first (map f own) []) e || some_gives same_exp (newest_first (map h outer) []) e))
some_older f h own outer conditions e =
    some_also conditions (newest_first (map f own) (newest_first (map h outer) [])) e
    ∙ ap (λ b. some_gives same_exp conditions e || b) (ap (λ fs. some_gives same_exp fs e) (newest_apart (map f own) (newest_first (map h outer) [])) ∙ some_also (newest_first (map f own) []) (newest_first (map h outer) []) e)

-- the range that a fact gives

pub range_other : (before : List Fact) (low : _) (r : Exp) (high : _) (low' : _) (i : Exp) (high' : _) (fact : Exp) → IsOther fact →
    range_given same_exp before (X.Between low r high) (X.Between low' i high') fact ≡ None
range_other before low r high low' i high' (X.And a b) h = absurd h
range_other before low r high low' i high' (X.Between l x m) h = absurd h
range_other before low r high low' i high' (X.Imp c d) h = absurd h
range_other before low r high low' i high' fact h = refl

-- of facts in their order

pub found_before : (f : Fact) (fs : List Fact) (conditions : List Fact) (n i : Exp) (b : Base) → oldest_range same_exp conditions n i fs ≡ Some b → oldest_range same_exp conditions n i (f ∷ fs) ≡ Some b
found_before f fs conditions n i b e = ap (λ o. or_else o (first_range same_exp (conditions ++ fs) n i (stands_for f))) e

pub found_later : (newer fs : List Fact) (conditions : List Fact) (n i : Exp) (b : Base) → oldest_range same_exp conditions n i fs ≡ Some b → oldest_range same_exp conditions n i (newest_first newer fs) ≡ Some b
found_later [] fs conditions n i b e = e
found_later (f ∷ newer) fs conditions n i b e = found_later newer (f ∷ fs) conditions n i b (found_before f fs conditions n i b e)

pub first_of : (f : Fact) (fs : List Fact) (conditions : List Fact) (n i : Exp) → oldest_range same_exp conditions n i fs ≡ None → oldest_range same_exp conditions n i (f ∷ fs) ≡ first_range same_exp (conditions ++ fs) n i (stands_for f)
first_of f fs conditions n i e = ap (λ o. or_else o (first_range same_exp (conditions ++ fs) n i (stands_for f))) e

-- where none of the older facts gives one
pub found_here : {A : Type 0} (f : A → Fact) (older : List A) (x : A) (newer : List A) (outer conditions : List Fact) (n i : Exp) (b : Base) →
    oldest_range same_exp conditions n i (newest_first (map f older) outer) ≡ None →
    first_range same_exp (conditions ++ newest_first (map f older) outer) n i (stands_for (f x)) ≡ Some b →
    oldest_range same_exp conditions n i (newest_first (map f (older ++ x ∷ newer)) outer) ≡ Some b
found_here f [] x newer outer conditions n i b e h = found_later (map f newer) (f x ∷ outer) conditions n i b (first_of (f x) outer conditions n i e ∙ h)
found_here f (y ∷ older) x newer outer conditions n i b e h = found_here f older x newer (f y ∷ outer) conditions n i b e h

pub not_yet : {A : Type 0} (f : A → Fact) (older : List A) (x : A) (outer conditions : List Fact) (n i : Exp) →
    oldest_range same_exp conditions n i (newest_first (map f older) outer) ≡ None →
    first_range same_exp (conditions ++ newest_first (map f older) outer) n i (stands_for (f x)) ≡ None →
    oldest_range same_exp conditions n i (newest_first (map f (older ++ x ∷ [])) outer) ≡ None
not_yet f older x outer conditions n i e h =
    ap (oldest_range same_exp conditions n i) (newest_push f older x outer) ∙ first_of (f x) (newest_first (map f older) outer) conditions n i e ∙ h

-- by the forms that the code finds

pub gives_itself : (fact e : Exp) → same_exp fact e ≡ true → gives_at_once same_exp fact e ≡ true
gives_itself (X.And a b) e h = ap (λ c. (c || gives_at_once same_exp a e) || gives_at_once same_exp b e) h
gives_itself (X.Between low x high) e h = ap (λ c. (c || same_exp (X.Le (X.NumberLit low) x) e) || same_exp (X.Le x (X.NumberLit high)) e) h
gives_itself fact e h = h

pub gives_first : (fact e a b : Exp) → fact ≡ X.And a b → gives_at_once same_exp a e ≡ true → gives_at_once same_exp fact e ≡ true
gives_first fact e a b q h =
    ap (λ f. gives_at_once same_exp f e) q ∙ ap (λ c. (same_exp (X.And a b) e || c) || gives_at_once same_exp b e) h
    ∙ ap (λ c. c || gives_at_once same_exp b e) (or-true (same_exp (X.And a b) e))

pub gives_rest : (fact e a b : Exp) → fact ≡ X.And a b → same_exp fact e ≡ false → gives_at_once same_exp a e ≡ false → gives_at_once same_exp fact e ≡ gives_at_once same_exp b e
gives_rest fact e a b q s h =
    ap (λ f. gives_at_once same_exp f e) q ∙ ap (λ c. (same_exp (X.And a b) e || c) || gives_at_once same_exp b e) h
    ∙ ap (λ c. (c || false) || gives_at_once same_exp b e) (ap (λ f. same_exp f e) (sym q) ∙ s)

pub gives_under : (fact e c d : Exp) → fact ≡ X.Imp c d → same_exp fact e ≡ false → gives_at_once same_exp fact e ≡ false
gives_under fact e c d q s = ap (λ f. gives_at_once same_exp f e) q ∙ ap (λ f. same_exp f e) (sym q) ∙ s

pub gives_nothing : (fact e : Exp) → IsOther fact → same_exp fact e ≡ false → gives_at_once same_exp fact e ≡ false
gives_nothing fact e o s = gives_other fact e o ∙ s

pub natural_given : (before : List Fact) (n i x : Exp) (low high : ℤ) → X.Between low x high ≡ n → range_given same_exp before n i (X.Between low x high) ≡ Some Naturals
natural_given before n i x low high h = ap (λ b. if b then Some Naturals else if same_exp (X.Between low x high) i then Some Integers else None) (same_true (X.Between low x high) n h)

pub integer_given : (before : List Fact) (n i x : Exp) (low high : ℤ) → (X.Between low x high ≡ n → ⊥) → X.Between low x high ≡ i → range_given same_exp before n i (X.Between low x high) ≡ Some Integers
integer_given before n i x low high h k =
    ap (λ b. if b then Some Naturals else if same_exp (X.Between low x high) i then Some Integers else None) (same_false (X.Between low x high) n h)
    ∙ ap (λ b. if b then Some Integers else None) (same_true (X.Between low x high) i k)

pub neither_given : (before : List Fact) (n i x : Exp) (low high : ℤ) → (X.Between low x high ≡ n → ⊥) → (X.Between low x high ≡ i → ⊥) → range_given same_exp before n i (X.Between low x high) ≡ None
neither_given before n i x low high h k =
    ap (λ b. if b then Some Naturals else if same_exp (X.Between low x high) i then Some Integers else None) (same_false (X.Between low x high) n h)
    ∙ ap (λ b. if b then Some Integers else None) (same_false (X.Between low x high) i k)

pub range_first : (before : List Fact) (n i fact a b : Exp) (k : Base) → fact ≡ X.And a b → range_given same_exp before n i a ≡ Some k → range_given same_exp before n i fact ≡ Some k
range_first before n i fact a b k q h = ap (range_given same_exp before n i) q ∙ ap (λ o. or_else o (range_given same_exp before n i b)) h

pub range_second : (before : List Fact) (n i fact a b : Exp) → fact ≡ X.And a b → range_given same_exp before n i a ≡ None → range_given same_exp before n i fact ≡ range_given same_exp before n i b
range_second before n i fact a b q h = ap (range_given same_exp before n i) q ∙ ap (λ o. or_else o (range_given same_exp before n i b)) h

pub range_under : (before : List Fact) (n i fact c d : Exp) → fact ≡ X.Imp c d → some_gives same_exp before c ≡ true → range_given same_exp before n i fact ≡ range_given same_exp before n i d
range_under before n i fact c d q h = ap (range_given same_exp before n i) q ∙ ap (λ b. if b then range_given same_exp before n i d else None) h

pub range_not_under : (before : List Fact) (n i fact c d : Exp) → fact ≡ X.Imp c d → some_gives same_exp before c ≡ false → range_given same_exp before n i fact ≡ None
range_not_under before n i fact c d q h = ap (range_given same_exp before n i) q ∙ ap (λ b. if b then range_given same_exp before n i d else None) h

pub range_none_under : (before : List Fact) (n i fact c d : Exp) → fact ≡ X.Imp c d → range_given same_exp before n i d ≡ None → range_given same_exp before n i fact ≡ None
range_none_under before n i fact c d q h = ap (range_given same_exp before n i) q ∙ by_test (some_gives same_exp before c)
  where
    by_test : (b : Bool) → (if b then range_given same_exp before n i d else None) ≡ None
    by_test true = h
    by_test false = refl

pub first_first : (before : List Fact) (n i fact a b : Exp) (k : Base) → fact ≡ X.And a b → first_range same_exp before n i a ≡ Some k → first_range same_exp before n i fact ≡ Some k
first_first before n i fact a b k q h = ap (first_range same_exp before n i) q ∙ ap (λ o. or_else o (first_range same_exp (Whole a ∷ before) n i b)) h

pub first_second : (before : List Fact) (n i fact a b : Exp) → fact ≡ X.And a b → first_range same_exp before n i a ≡ None → first_range same_exp before n i fact ≡ first_range same_exp (Whole a ∷ before) n i b
first_second before n i fact a b q h = ap (first_range same_exp before n i) q ∙ ap (λ o. or_else o (first_range same_exp (Whole a ∷ before) n i b)) h

abbrev pub IsNoAnd : Exp → Type 0
IsNoAnd (X.And a b) = ⊥
IsNoAnd e = Unit {0}

pub first_alone : (before : List Fact) (n i fact : Exp) → IsNoAnd fact → first_range same_exp before n i fact ≡ range_given same_exp before n i fact
first_alone before n i (X.And a b) h = absurd h
first_alone before n i fact h = refl

-- by how many were gone through

pub not_yet_taken : {A : Type 0} (f : A → Fact) (xs : List A) (k : ℕ) (x : A) (outer conditions : List Fact) (n i : Exp) → k < length xs → x ≡ get_or xs k x →
    oldest_range same_exp conditions n i (newest_first (map f (take k xs)) outer) ≡ None →
    first_range same_exp (conditions ++ newest_first (map f (take k xs)) outer) n i (stands_for (f x)) ≡ None →
    oldest_range same_exp conditions n i (newest_first (map f (take (k + 1) xs)) outer) ≡ None
not_yet_taken f xs k x outer conditions n i h e none first =
    ap (oldest_range same_exp conditions n i) (newest_taken f xs k x outer h e) ∙ first_of (f x) (newest_first (map f (take k xs)) outer) conditions n i none ∙ first

pub found_taken : {A : Type 0} (f : A → Fact) (xs : List A) (k : ℕ) (x : A) (outer conditions : List Fact) (n i : Exp) (b : Base) → k < length xs → x ≡ get_or xs k x →
    oldest_range same_exp conditions n i (newest_first (map f (take k xs)) outer) ≡ None →
    first_range same_exp (conditions ++ newest_first (map f (take k xs)) outer) n i (stands_for (f x)) ≡ Some b →
    oldest_range same_exp conditions n i (newest_first (map f xs) outer) ≡ Some b
found_taken f xs k x outer conditions n i b h e none first =
    ap (oldest_range same_exp conditions n i) (newest_split f xs k x outer h e)
    ∙ found_later (map f (drop (k + 1) xs)) (f x ∷ newest_first (map f (take k xs)) outer) conditions n i b (first_of (f x) (newest_first (map f (take k xs)) outer) conditions n i none ∙ first)

pub some_taken : {A : Type 0} (f : A → Fact) (xs : List A) (k : ℕ) (x : A) (e : Exp) → k < length xs → x ≡ get_or xs k x →
    some_gives same_exp (newest_first (map f (take (k + 1) xs)) []) e ≡ (gives_at_once same_exp (stands_for (f x)) e || some_gives same_exp (newest_first (map f (take k xs)) []) e)
some_taken f xs k x e h q = ap (λ fs. some_gives same_exp fs e) (newest_taken f xs k x [] h q)

pub gives_ends : (fact e x : Exp) (low high : ℤ) → fact ≡ X.Between low x high → same_exp fact e ≡ false →
    gives_at_once same_exp fact e ≡ (same_exp (X.Le (X.NumberLit low) x) e || same_exp (X.Le x (X.NumberLit high)) e)
gives_ends fact e x low high q s =
    ap (λ f. gives_at_once same_exp f e) q ∙ ap (λ c. (c || same_exp (X.Le (X.NumberLit low) x) e) || same_exp (X.Le x (X.NumberLit high)) e) (ap (λ f. same_exp f e) (sym q) ∙ s)

pub some_down : {A : Type 0} (f : A → Fact) (xs : List A) (n : ℕ) (x : A) (e : Exp) → 0 < n → n ≤ length xs → x ≡ get_or xs (n - 1) x →
    some_gives same_exp (newest_first (map f (take n xs)) []) e ≡ (gives_at_once same_exp (stands_for (f x)) e || some_gives same_exp (newest_first (map f (take (n - 1) xs)) []) e)
some_down f xs n x e h w q =
    let k : n ≡ n - 1 + 1 = omega arith in
    ap (λ j. some_gives same_exp (newest_first (map f (take j xs)) []) e) k ∙ some_taken f xs (n - 1) x e (omega arith) q

-- an answer that is there, or not

pub some_there : {A B : Type 0} (f : A → B) (o : Option A) → is_some o ≡ true → option_map f o ≡ None → ⊥
some_there f (Some a) h e = cc
some_there f None h e = false≢true h

pub none_left : {A B : Type 0} (f : A → B) (o : Option A) → is_some o ≡ false → option_map f o ≡ None
none_left f (Some a) h = absurd (false≢true (sym h))
none_left f None h = refl

pub found_there : {A : Type 0} (f : A → Fact) (xs : List A) (k : ℕ) (x : A) (outer conditions : List Fact) (n i : Exp) (o : Option Base) → k < length xs → x ≡ get_or xs k x →
    oldest_range same_exp conditions n i (newest_first (map f (take k xs)) outer) ≡ None →
    first_range same_exp (conditions ++ newest_first (map f (take k xs)) outer) n i (stands_for (f x)) ≡ o → (o ≡ None → ⊥) →
    oldest_range same_exp conditions n i (newest_first (map f xs) outer) ≡ o
found_there f xs k x outer conditions n i (Some b) h e none first some = found_taken f xs k x outer conditions n i b h e none first
found_there f xs k x outer conditions n i None h e none first some = absurd (some refl)
