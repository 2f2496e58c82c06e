-- Rows of names that pass tests.
use Rattle.std.proofs.Common.{◌≡◌, ℕ, zero, suc, Bool, true, false, not, cond, ◌&&◌, ◌||◌, List, [], ◌∷◌, ◌++◌, length, refl, sym, subst, ap, ap₂, ◌∙◌, string_bytes, ◌<◌, ◌≤◌, ◌+◌, add-one, drop, get_or, arith, append_assoc}
use Rattle.c_values.specs.Name.{Name, same_name, is_among}
use Rattle.std.proofs.lemmas.Bool.{or_left, or_right}
use Rattle.c_values.proofs.Laid.{name_is, same_name-refl}
use Rattle.expression_lang.specs.declared.signatures.Binder as B
use Rattle.rule_local.proofs.UsesLaws.{either}
use Rattle.local_lift.specs.declared.rows.Row.{Row}
use Rattle.local_lift.specs.Live.{some_of, through}
use Rattle.local_lift.specs.CodeNames.{names}
use Rattle.local_lift.proofs.FirstLive.{past}
use Rattle.local_lift.specs.CodeRows.{marks, either_row, past_row, row_without, row_has, Change, RowMoves, Moves, Matrix, IsAt, flags_of, row_at, with_meant, each_either, assigning, adding, removing, either_change, by_way, spreading}

pub marks_same : (p q : Name → Bool) (bs : List B.Binder) → ((y : Name) → p y ≡ q y) → marks p bs ≡ marks q bs
marks_same p q [] h = refl
marks_same p q (b ∷ bs) h = ap₂ (λ a r. a ∷ r) (h (string_bytes b.name)) (marks_same p q bs h)

pub either_marks : (p q : Name → Bool) (bs : List B.Binder) → either_row (marks p bs) (marks q bs) ≡ marks (λ y. p y || q y) bs
either_marks p q [] = refl
either_marks p q (b ∷ bs) = ap (λ r. (p (string_bytes b.name) || q (string_bytes b.name)) ∷ r) (either_marks p q bs)

pub marks_among : (p q : Name → Bool) (bs : List B.Binder) → ((y : Name) → is_among y (names bs) ≡ true → p y ≡ q y) → marks p bs ≡ marks q bs
marks_among p q [] h = refl
marks_among p q (b ∷ bs) h =
    let x = string_bytes b.name in
    ap₂ (λ a r. a ∷ r) (h x (or_left (same_name x x) (is_among x (names bs)) (same_name-refl x))) (marks_among p q bs (λ y m. h y (or_right (same_name y x) (is_among y (names bs)) m)))

pub past_marks : (p q r : Name → Bool) (bs : List B.Binder) → past_row (marks p bs) (marks q bs) (marks r bs) ≡ marks (past p q r) bs
past_marks p q r [] = refl
past_marks p q r (b ∷ bs) = ap (λ fs. past p q r (string_bytes b.name) ∷ fs) (past_marks p q r bs)

pub without_marks : (x : Name) (p : Name → Bool) (bs : List B.Binder) → row_without x bs (marks p bs) ≡ marks (removing x p) bs
without_marks x p [] = refl
without_marks x p (b ∷ bs) = ap (λ r. (not (same_name (string_bytes b.name) x) && p (string_bytes b.name)) ∷ r) (without_marks x p bs)

pub has_marks : (x : Name) (p : Name → Bool) (bs : List B.Binder) → row_has x bs (marks p bs) ≡ (is_among x (names bs) && p x)
has_marks x p [] = refl
has_marks x p (b ∷ bs) = by_test (same_name x (string_bytes b.name)) refl (has_marks x p bs)
  where
    by_test : (t : Bool) → same_name x (string_bytes b.name) ≡ t → row_has x bs (marks p bs) ≡ (is_among x (names bs) && p x) →
        ((t && p (string_bytes b.name)) || (not t && row_has x bs (marks p bs))) ≡ ((t || is_among x (names bs)) && p x)
    by_test true e h = or_none (p (string_bytes b.name)) ∙ ap p (sym (name_is x (string_bytes b.name) e))
      where
        or_none : (c : Bool) → (c || false) ≡ c
        or_none true = refl
        or_none false = refl
    by_test false e h = h

-- a row before a set
pub assigned_there : (x : Name) (bs : List B.Binder) (g : Name → Bool) (named kept row r : List Bool) → row_has x bs row ≡ true → r ≡ either_row named kept → kept ≡ row_without x bs row → named ≡ marks g bs →
    RowMoves bs (assigning x (names bs) g) row r
assigned_there x bs g named kept row r t e k n p m =
    e ∙ ap₂ either_row n (k ∙ ap (row_without x bs) m ∙ without_marks x p bs) ∙ either_marks g (removing x p) bs
    ∙ marks_same (λ y. g y || removing x p y) (assigning x (names bs) g p) bs (λ y. ap (λ b. (b && g y) || removing x p y) (sym (sym (ap (row_has x bs) m ∙ has_marks x p bs) ∙ t)))

pub assigned_nowhere : (x : Name) (bs : List B.Binder) (g : Name → Bool) (kept row : List Bool) → row_has x bs row ≡ false → kept ≡ row_without x bs row → RowMoves bs (assigning x (names bs) g) row kept
assigned_nowhere x bs g kept row t k p m =
    k ∙ ap (row_without x bs) m ∙ without_marks x p bs
    ∙ marks_same (removing x p) (assigning x (names bs) g p) bs (λ y. ap (λ b. (b && g y) || removing x p y) (sym (sym (ap (row_has x bs) m ∙ has_marks x p bs) ∙ t)))

pub added_row : (bs : List B.Binder) (g : Name → Bool) (named row r : List Bool) → r ≡ either_row named row → named ≡ marks g bs → RowMoves bs (adding g) row r
added_row bs g named row r e n p m = e ∙ ap₂ either_row n m ∙ either_marks g p bs

pub removed_row : (bs : List B.Binder) (x : Name) (row r : List Bool) → r ≡ row_without x bs row → RowMoves bs (removing x) row r
removed_row bs x row r e p m = e ∙ ap (row_without x bs) m ∙ without_marks x p bs

pub either_moves : (bs : List B.Binder) (s t : Change) (row a b r : List Bool) → r ≡ either_row a b → RowMoves bs s row a → RowMoves bs t row b → RowMoves bs (either_change s t) row r
either_moves bs s t row a b r e h k p m = e ∙ ap₂ either_row (h p m) (k p m) ∙ either_marks (s p) (t p) bs

-- one row more
pub moves_push : (bs : List B.Binder) (t : Change) (rs ss : List Row) (r s : Row) → Moves bs t rs ss → RowMoves bs t r.flags.items s.flags.items → Moves bs t (rs ++ r ∷ []) (ss ++ s ∷ [])
moves_push bs t [] [] r s h k = (k, tt)
moves_push bs t (x ∷ xs) (y ∷ ys) r s h k = (h.0, moves_push bs t xs ys r s h.1 k)
moves_push bs t [] (y ∷ ys) r s h k = absurd h
moves_push bs t (x ∷ xs) [] r s h k = absurd h

pub moves_more : (bs : List B.Binder) (t : Change) (rs ss all : List Row) (r s : Row) → all ≡ ss ++ s ∷ [] → Moves bs t rs ss → RowMoves bs t r.flags.items s.flags.items → Moves bs t (rs ++ r ∷ []) all
moves_more bs t rs ss all r s e h k = subst (λ xs. Moves bs t (rs ++ r ∷ []) xs) (sym e) (moves_push bs t rs ss r s h k)

-- one change after another
pub moves_then : (bs : List B.Binder) (s t : Change) (rs ss ts : List Row) → Moves bs s rs ss → Moves bs t ss ts → Moves bs (λ p. t (s p)) rs ts
moves_then bs s t [] [] [] h k = tt
moves_then bs s t (r ∷ rs) (x ∷ ss) (y ∷ ts) h k = ((λ p m. k.0 (s p) (h.0 p m)), moves_then bs s t rs ss ts h.1 k.1)
moves_then bs s t [] (x ∷ ss) ts h k = absurd h
moves_then bs s t (r ∷ rs) [] ts h k = absurd h
moves_then bs s t [] [] (y ∷ ts) h k = absurd k
moves_then bs s t (r ∷ rs) (x ∷ ss) [] h k = absurd k

pub matrix_moves : (bs : List B.Binder) (leads : Name → Name → Bool) (t : Change) (ls : List B.Binder) (rs ss : List Row) → Matrix bs leads ls rs → Moves bs t rs ss → Matrix bs (λ z. t (leads z)) ls ss
matrix_moves bs leads t [] [] [] h k = tt
matrix_moves bs leads t (l ∷ ls) (r ∷ rs) (s ∷ ss) h k = (k.0 (leads (string_bytes l.name)) h.0, matrix_moves bs leads t ls rs ss h.1 k.1)
matrix_moves bs leads t [] (r ∷ rs) ss h k = absurd h
matrix_moves bs leads t (l ∷ ls) [] ss h k = absurd h
matrix_moves bs leads t [] [] (s ∷ ss) h k = absurd k
matrix_moves bs leads t (l ∷ ls) (r ∷ rs) [] h k = absurd k

pub flags_push : (rs : List Row) (r : Row) → flags_of (rs ++ r ∷ []) ≡ flags_of rs ++ r.flags.items ∷ []
flags_push [] r = refl
flags_push (x ∷ xs) r = ap (λ fs. x.flags.items ∷ fs) (flags_push xs r)

pub flags_more : (rs all : List Row) (r : Row) (f : List Bool) (fs : List (List Bool)) → all ≡ rs ++ r ∷ [] → r.flags.items ≡ f → flags_of all ++ fs ≡ flags_of rs ++ f ∷ fs
flags_more rs all r f fs e h = ap (λ xs. flags_of xs ++ fs) e ∙ ap (λ gs. gs ++ fs) (flags_push rs r) ∙ append_assoc (flags_of rs) (r.flags.items ∷ []) fs ∙ ap (λ g. flags_of rs ++ g ∷ fs) h

-- rows of the same flags
pub same_moves : (bs : List B.Binder) (rs ss : List Row) → flags_of ss ≡ flags_of rs → Moves bs (λ p. p) rs ss
same_moves bs [] [] h = tt
same_moves bs (r ∷ rs) (s ∷ ss) h =
    let same : s.flags.items ∷ flags_of ss ≡ r.flags.items ∷ flags_of rs = h in
    let first : s.flags.items ≡ r.flags.items = cc in
    let rest : flags_of ss ≡ flags_of rs = cc in ((λ p m. first ∙ m), same_moves bs rs ss rest)
same_moves bs [] (s ∷ ss) h = let clash : s.flags.items ∷ flags_of ss ≡ [] = h in cc
same_moves bs (r ∷ rs) [] h = let clash : [] ≡ r.flags.items ∷ flags_of rs = h in cc

-- two changes of the same rows
pub each_either_moves : (bs : List B.Binder) (s t : Change) (rs as' cs ds : List Row) → flags_of ds ≡ each_either as' cs → Moves bs s rs as' → Moves bs t rs cs → Moves bs (either_change s t) rs ds
each_either_moves bs s t [] [] [] [] e h k = tt
each_either_moves bs s t (r ∷ rs) (a ∷ as') (c ∷ cs) (d ∷ ds) e h k =
    let same : d.flags.items ∷ flags_of ds ≡ either_row a.flags.items c.flags.items ∷ each_either as' cs = e in
    let first : d.flags.items ≡ either_row a.flags.items c.flags.items = cc in
    let rest : flags_of ds ≡ each_either as' cs = cc in
    (either_moves bs s t r.flags.items a.flags.items c.flags.items d.flags.items first h.0 k.0, each_either_moves bs s t rs as' cs ds rest h.1 k.1)
each_either_moves bs s t [] [] [] (d ∷ ds) e h k = let clash : d.flags.items ∷ flags_of ds ≡ [] = e in cc
each_either_moves bs s t (r ∷ rs) (a ∷ as') (c ∷ cs) [] e h k = let clash : [] ≡ either_row a.flags.items c.flags.items ∷ each_either as' cs = e in cc
each_either_moves bs s t [] (a ∷ as') cs ds e h k = absurd h
each_either_moves bs s t (r ∷ rs) [] cs ds e h k = absurd h
each_either_moves bs s t [] [] (c ∷ cs) ds e h k = absurd k
each_either_moves bs s t (r ∷ rs) (a ∷ as') [] ds e h k = absurd k

-- rows at positions
pub row_at_index : (k : ℕ) (rs : List Row) (r : Row) → k < length rs → r ≡ get_or rs k r → row_at k rs ≡ r.flags.items
row_at_index k [] r h e = absurd (omega (arith, h))
row_at_index zero (x ∷ xs) r h e = ap (λ (z : Row). z.flags.items) (sym e)
row_at_index (suc k) (x ∷ xs) r h e = row_at_index k xs r (omega (arith, h)) e

pub row_past : (k : ℕ) (rs : List Row) → length rs ≤ k → row_at k rs ≡ []
row_past k [] h = refl
row_past zero (x ∷ xs) h = absurd (omega (arith, h))
row_past (suc k) (x ∷ xs) h = row_past k xs (omega (arith, h))

pub is_at : (k : ℕ) (bs : List B.Binder) (b : B.Binder) (rest : List B.Binder) → drop k bs ≡ b ∷ rest → IsAt k bs (string_bytes b.name)
is_at zero [] b rest e p = let clash : [] ≡ b ∷ rest = e in cc
is_at (suc k) [] b rest e p = let clash : [] ≡ b ∷ rest = e in cc
is_at zero (x ∷ xs) b rest e p = let same : x ∷ xs ≡ b ∷ rest = e in let first : x ≡ b = cc in ap (λ (z : B.Binder). p (string_bytes z.name)) first
is_at (suc k) (x ∷ xs) b rest e p = is_at k xs b rest e p

pub matrix_row : (bs : List B.Binder) (leads : Name → Name → Bool) (k : ℕ) (ls : List B.Binder) (rs : List Row) (b : B.Binder) (rest : List B.Binder) → Matrix bs leads ls rs → drop k ls ≡ b ∷ rest → row_at k rs ≡ marks (leads (string_bytes b.name)) bs
matrix_row bs leads zero [] [] b rest h e = let clash : [] ≡ b ∷ rest = e in cc
matrix_row bs leads (suc k) [] [] b rest h e = let clash : [] ≡ b ∷ rest = e in cc
matrix_row bs leads zero (l ∷ ls) (r ∷ rs) b rest h e =
    let same : l ∷ ls ≡ b ∷ rest = e in let first : l ≡ b = cc in h.0 ∙ ap (λ (z : B.Binder). marks (leads (string_bytes z.name)) bs) first
matrix_row bs leads (suc k) (l ∷ ls) (r ∷ rs) b rest h e = matrix_row bs leads k ls rs b rest h.1 e
matrix_row bs leads k [] (r ∷ rs) b rest h e = absurd h
matrix_row bs leads k (l ∷ ls) [] b rest h e = absurd h

pub at_position : (k : ℕ) (bs : List B.Binder) → k < length bs → (b : B.Binder) × (drop k bs ≡ b ∷ drop (suc k) bs)
at_position k [] h = absurd (omega (arith, h))
at_position zero (x ∷ xs) h = (x, refl)
at_position (suc k) (x ∷ xs) h = at_position k xs (omega (arith, h))

-- one step further by way of the local at a position
pub reach_step : (bs : List B.Binder) (rows after : List Row) (k : ℕ) (way : List Bool) (all : Name → Name → Bool) → k < length bs → way ≡ row_at k rows →
    ((x : Name) (w : Name → Bool) → IsAt k bs x → way ≡ marks w bs → Moves bs (by_way x w) rows after) →
    (steps : Name → Name → Bool) × Matrix bs steps bs rows × (through (names (drop k bs)) steps ≡ all) →
    (steps : Name → Name → Bool) × Matrix bs steps bs after × (through (names (drop (k + 1) bs)) steps ≡ all)
reach_step bs rows after k way all h w moves i =
    let a = at_position k bs h in
    let x = string_bytes a.0.name in (
      (λ z. by_way x (i.0 x) (i.0 z)),
      matrix_moves bs i.0 (by_way x (i.0 x)) bs rows after i.1 (moves x (i.0 x) (is_at k bs a.0 (drop (suc k) bs) a.1) (w ∙ matrix_row bs i.0 k bs rows a.0 (drop (suc k) bs) i.1 a.1)),
      ap (λ n. through (names (drop n bs)) (λ z. by_way x (i.0 x) (i.0 z))) (add-one k) ∙ ap (λ ls. through (names ls) i.0) (sym a.1) ∙ i.2,
    )

or_none : (c : Bool) → (c || false) ≡ c
or_none true = refl
or_none false = refl

-- a row that means the local at a position, and one that doesn't
pub way_taken : (bs : List B.Binder) (k : ℕ) (x : Name) (w : Name → Bool) (row way r : List Bool) → get_or row k false ≡ true → r ≡ either_row row way → IsAt k bs x → way ≡ marks w bs → RowMoves bs (by_way x w) row r
way_taken bs k x w row way r t e i n p m =
    e ∙ ap₂ either_row m n ∙ either_marks p w bs
    ∙ marks_same (λ y. p y || w y) (by_way x w p) bs (λ y. ap (λ b. p y || (b && w y)) (sym (sym (i p) ∙ ap (λ r. get_or r k false) (sym m) ∙ t)))

pub meant_marks : (bs : List B.Binder) (leads : Name → Name → Bool) (from : Name → Bool) (ls : List B.Binder) (rs : List Row) (all : List Bool) (acc : Name → Bool) → Matrix bs leads ls rs → all ≡ marks acc bs →
    with_meant (marks from ls) rs all ≡ marks (λ y. acc y || some_of (λ z. from z && leads z y) (names ls)) bs
meant_marks bs leads from [] [] all acc h e = e ∙ marks_same acc (λ y. acc y || false) bs (λ y. sym (or_none (acc y)))
meant_marks bs leads from (l ∷ ls) (r ∷ rs) all acc h e =
    by_test (from (string_bytes l.name)) (λ b f. meant_marks bs leads from ls rs b f h.1)
  where
    by_test : (t : Bool) → ((b : List Bool) (f : Name → Bool) → b ≡ marks f bs → with_meant (marks from ls) rs b ≡ marks (λ y. f y || some_of (λ z. from z && leads z y) (names ls)) bs) →
        with_meant (marks from ls) rs (cond t (either_row all r.flags.items) all) ≡ marks (λ y. acc y || ((t && leads (string_bytes l.name) y) || some_of (λ z. from z && leads z y) (names ls))) bs
    by_test true j =
        j (either_row all r.flags.items) (λ y. acc y || leads (string_bytes l.name) y) (ap₂ either_row e h.0 ∙ either_marks acc (leads (string_bytes l.name)) bs)
        ∙ marks_same (λ y. (acc y || leads (string_bytes l.name) y) || some_of (λ z. from z && leads z y) (names ls)) (λ y. acc y || (leads (string_bytes l.name) y || some_of (λ z. from z && leads z y) (names ls))) bs
        (λ y. either (acc y) (leads (string_bytes l.name) y) (some_of (λ z. from z && leads z y) (names ls)))
    by_test false j = j all acc e
meant_marks bs leads from [] (r ∷ rs) all acc h e = absurd h
meant_marks bs leads from (l ∷ ls) [] all acc h e = absurd h

pub spread_row : (bs : List B.Binder) (leads : Name → Name → Bool) (g : Name → Bool) (reached : List Row) (own row from all : List Bool) → from ≡ either_row own row → all ≡ with_meant from reached from → Matrix bs leads bs reached → own ≡ marks g bs →
    RowMoves bs (spreading (names bs) leads g) row all
spread_row bs leads g reached own row from all e k h n p m =
    let f : from ≡ marks (λ z. g z || p z) bs = e ∙ ap₂ either_row n m ∙ either_marks g p bs in
    k ∙ ap (λ r. with_meant r reached from) f ∙ meant_marks bs leads (λ z. g z || p z) bs reached from (λ z. g z || p z) h f

-- a row more, and then the rest
pub rows_more : (P : List Row → Type 0) (rs all : List Row) (r : Row) (others : List Row) → all ≡ rs ++ r ∷ [] → P (rs ++ r ∷ others) → P (all ++ others)
rows_more P rs all r others e h = subst P (sym (ap (λ xs. xs ++ others) e ∙ append_assoc rs (r ∷ []) others)) h
