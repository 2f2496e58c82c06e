-- Which of some facts last, by the fact.
use Rattle.std.proofs.Common.{◌≡◌, ℕ, zero, suc, ◌+◌, ◌<◌, length, get_or, take, drop, arith, Bool, true, false, not, ◌&&◌, List, [], ◌∷◌, ◌++◌, map, if◌then◌else◌, refl, sym, ap, ◌∙◌}
use Rattle.c_values.specs.Name.{Name}
use Rattle.expression_lang.specs.Expression.{Exp, Not}
use Rattle.expression_lang.specs.Mentions.{names, reads}
use Rattle.ac_expr.specs.Fact.{Fact, Whole, NotTrue, stands_for}
use Rattle.ac_expr.specs.Facts.{without_name, without_reads}
use Rattle.ac_expr.specs.Passed.{without_names, where_unchanged}
use Rattle.ac_expr.specs.Lasting.{is_unnamed}
use Rattle.word_abstract.specs.CodeKnown.{newest_first, lasts}

pub newest_push : {A : Type 0} (f : A → Fact) (xs : List A) (x : A) (older : List Fact) → newest_first (map f (xs ++ x ∷ [])) older ≡ f x ∷ newest_first (map f xs) older
newest_push f [] x older = refl
newest_push f (y ∷ ys) x older = newest_push f ys x (f y ∷ older)

pub newest_apart : (xs older : List Fact) → newest_first xs older ≡ newest_first xs [] ++ older
newest_apart [] older = refl
newest_apart (x ∷ xs) older =
    newest_apart xs (x ∷ older) ∙ sym (append_one (newest_first xs []) x older) ∙ ap (λ r. r ++ older) (sym (newest_apart xs (x ∷ [])))
  where
    append_one : (ys : List Fact) (y : Fact) (zs : List Fact) → (ys ++ y ∷ []) ++ zs ≡ ys ++ y ∷ zs
    append_one [] y zs = refl
    append_one (w ∷ ws) y zs = ap (λ r. w ∷ r) (append_one ws y zs)

-- where names are bound, and the state may change
abbrev pub kept : List Name → Bool → List Fact → List Fact
kept xs changes fs = without_names xs (where_unchanged changes fs)

pub named_one : (xs : List Name) (f : Fact) (fs : List Fact) (b : Bool) → is_unnamed xs (stands_for f) ≡ b → without_names xs (f ∷ fs) ≡ (if b then f ∷ without_names xs fs else without_names xs fs)
named_one [] f fs b e = ap (λ c. if c then f ∷ fs else fs) e
named_one (x ∷ xs) f fs b e = by_name (λ k. named_one xs f (without_name x fs) b k) (not (names x (stands_for f))) refl e
  where
    by_name : (is_unnamed xs (stands_for f) ≡ b → without_names xs (f ∷ without_name x fs) ≡ (if b then f ∷ without_names xs (without_name x fs) else without_names xs (without_name x fs))) → (c : Bool) → not (names x (stands_for f)) ≡ c → (c && is_unnamed xs (stands_for f)) ≡ b → without_names xs (if c then f ∷ without_name x fs else without_name x fs) ≡ (if b then f ∷ without_names xs (without_name x fs) else without_names xs (without_name x fs))
    by_name go true q e = go e
    by_name go false q e = ap (λ c. if c then f ∷ without_names xs (without_name x fs) else without_names xs (without_name x fs)) e

pub kept_one : (xs : List Name) (changes : Bool) (f : Fact) (fs : List Fact) (b : Bool) → lasts xs changes (stands_for f) ≡ b → kept xs changes (f ∷ fs) ≡ (if b then f ∷ kept xs changes fs else kept xs changes fs)
kept_one xs false f fs b e = named_one xs f fs b (sym (and_true (is_unnamed xs (stands_for f))) ∙ e)
  where
    and_true : (c : Bool) → (c && true) ≡ c
    and_true true = refl
    and_true false = refl
kept_one xs true f fs b e = by_read (reads (stands_for f)) refl e
  where
    and_false : (c d : Bool) → (c && false) ≡ d → false ≡ d
    and_false true d e = e
    and_false false d e = e

    and_true : (c d : Bool) → (c && true) ≡ d → c ≡ d
    and_true true d e = e
    and_true false d e = e

    by_read : (c : Bool) → reads (stands_for f) ≡ c → (is_unnamed xs (stands_for f) && not c) ≡ b → without_names xs (if not c then f ∷ without_reads fs else without_reads fs) ≡ (if b then f ∷ without_names xs (without_reads fs) else without_names xs (without_reads fs))
    by_read true q e = ap (λ c. if c then f ∷ without_names xs (without_reads fs) else without_names xs (without_reads fs)) (and_false (is_unnamed xs (stands_for f)) b e)
    by_read false q e = named_one xs f (without_reads fs) b (and_true (is_unnamed xs (stands_for f)) b e)

-- one fact more that was gone through

pub lasts_more : {A : Type 0} (f : A → Fact) (xs : List Name) (changes : Bool) (gone kept_so : List A) (x : A) (older : List Fact) → lasts xs changes (stands_for (f x)) ≡ true →
    newest_first (map f kept_so) (kept xs changes older) ≡ kept xs changes (newest_first (map f gone) older) →
    newest_first (map f (kept_so ++ x ∷ [])) (kept xs changes older) ≡ kept xs changes (newest_first (map f (gone ++ x ∷ [])) older)
lasts_more f xs changes gone kept_so x older l e =
    newest_push f kept_so x (kept xs changes older) ∙ ap (λ r. f x ∷ r) e ∙ sym (kept_one xs changes (f x) (newest_first (map f gone) older) true l) ∙ sym (ap (kept xs changes) (newest_push f gone x older))

pub ends_there : {A : Type 0} (f : A → Fact) (xs : List Name) (changes : Bool) (gone kept_so : List A) (x : A) (older : List Fact) → lasts xs changes (stands_for (f x)) ≡ false →
    newest_first (map f kept_so) (kept xs changes older) ≡ kept xs changes (newest_first (map f gone) older) →
    newest_first (map f kept_so) (kept xs changes older) ≡ kept xs changes (newest_first (map f (gone ++ x ∷ [])) older)
ends_there f xs changes gone kept_so x older l e =
    e ∙ sym (kept_one xs changes (f x) (newest_first (map f gone) older) false l) ∙ sym (ap (kept xs changes) (newest_push f gone x older))

-- one of a list more that was gone through
take_more : {A : Type 0} (xs : List A) (k : ℕ) (x : A) → k < length xs → x ≡ get_or xs k x → take (k + 1) xs ≡ take k xs ++ x ∷ []
take_more [] k x h e = absurd (omega arith)
take_more (y ∷ ys) zero x h e = ap (λ z. z ∷ []) (sym e)
take_more (y ∷ ys) (suc k) x h e =
    let n : suc k + 1 ≡ suc (k + 1) = omega arith in ap (λ m. take m (y ∷ ys)) n ∙ ap (λ r. y ∷ r) (take_more ys k x (omega arith) e)

pub newest_taken : {A : Type 0} (f : A → Fact) (xs : List A) (k : ℕ) (x : A) (older : List Fact) → k < length xs → x ≡ get_or xs k x →
    newest_first (map f (take (k + 1) xs)) older ≡ f x ∷ newest_first (map f (take k xs)) older
newest_taken f xs k x older h e = ap (λ ys. newest_first (map f ys) older) (take_more xs k x h e) ∙ newest_push f (take k xs) x older

-- and what is left
pub newest_split : {A : Type 0} (f : A → Fact) (xs : List A) (k : ℕ) (x : A) (older : List Fact) → k < length xs → x ≡ get_or xs k x →
    newest_first (map f xs) older ≡ newest_first (map f (drop (k + 1) xs)) (f x ∷ newest_first (map f (take k xs)) older)
newest_split f [] k x older h e = absurd (omega arith)
newest_split f (y ∷ ys) zero x older h e = ap (λ z. newest_first (map f ys) (f z ∷ older)) (sym e)
newest_split f (y ∷ ys) (suc k) x older h e =
    let n : suc k + 1 ≡ suc (k + 1) = omega arith in
    newest_split f ys k x (f y ∷ older) (omega arith) e ∙ sym (ap (λ m. newest_first (map f (drop m (y ∷ ys))) (f x ∷ newest_first (map f (take (suc k) (y ∷ ys))) older)) n)

-- that an expression doesn't hold has the names that it has, and looks at what it looks at
unnamed_alike : (xs : List Name) (e : Exp) → is_unnamed xs (Not e) ≡ is_unnamed xs e
unnamed_alike [] e = refl
unnamed_alike (x ∷ xs) e = ap (λ b. not (names x e) && b) (unnamed_alike xs e)

pub lasts_alike : (xs : List Name) (changes : Bool) (holds : Bool) (e : Exp) → lasts xs changes (stands_for (if holds then Whole e else NotTrue e)) ≡ lasts xs changes e
lasts_alike xs changes true e = refl
lasts_alike xs changes false e = ap (λ b. b && not (changes && reads e)) (unnamed_alike xs e)
