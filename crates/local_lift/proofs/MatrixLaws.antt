-- A row after the rows of a matrix.
use Rattle.std.proofs.Common.{◌≡◌, Bool, List, [], ◌∷◌, ◌++◌, string_bytes}
use Rattle.c_values.specs.Name.{Name}
use Rattle.expression_lang.specs.declared.signatures.Binder as B
use Rattle.local_lift.specs.declared.rows.Row.{Row}
use Rattle.local_lift.specs.CodeRows.{marks, Change, Moves, Matrix, MatrixAnd}

pub matrix_and_moves : (bs : List B.Binder) (leads : Name → Name → Bool) (p : Name → Bool) (t : Change) (ls : List B.Binder) (rs ss : List Row) → MatrixAnd bs leads p ls rs → Moves bs t rs ss → MatrixAnd bs (λ z. t (leads z)) (t p) ls ss
matrix_and_moves bs leads p t [] (r ∷ []) (s ∷ []) h k = k.0 p h
matrix_and_moves bs leads p t (l ∷ ls) (r ∷ rs) (s ∷ ss) h k = (k.0 (leads (string_bytes l.name)) h.0, matrix_and_moves bs leads p t ls rs ss h.1 k.1)
matrix_and_moves bs leads p t [] [] ss h k = absurd h
matrix_and_moves bs leads p t [] (r ∷ x ∷ rs) ss h k = absurd h
matrix_and_moves bs leads p t (l ∷ ls) [] ss h k = absurd h
matrix_and_moves bs leads p t [] (r ∷ []) [] h k = absurd k
matrix_and_moves bs leads p t [] (r ∷ []) (s ∷ x ∷ ss) h k = absurd k.1
matrix_and_moves bs leads p t (l ∷ ls) (r ∷ rs) [] h k = absurd h1
  where
    h1 : ⊥
    h1 = k

pub matrix_apart : (bs : List B.Binder) (leads : Name → Name → Bool) (p : Name → Bool) (ls : List B.Binder) (rs : List Row) (r : Row) → MatrixAnd bs leads p ls (rs ++ r ∷ []) → Matrix bs leads ls rs × (r.flags.items ≡ marks p bs)
matrix_apart bs leads p [] [] r h = (tt, h)
matrix_apart bs leads p (l ∷ ls) [] r h = absurd (none_left ls h.1)
  where
    none_left : (ls : List B.Binder) → MatrixAnd bs leads p ls [] → ⊥
    none_left [] k = k
    none_left (x ∷ xs) k = k
matrix_apart bs leads p [] (x ∷ []) r h = absurd h
matrix_apart bs leads p [] (x ∷ y ∷ xs) r h = absurd h
matrix_apart bs leads p (l ∷ ls) (x ∷ xs) r h = let q = matrix_apart bs leads p ls xs r h.1 in ((h.0, q.0), q.1)

pub matrix_and_some : (bs : List B.Binder) (leads : Name → Name → Bool) (p : Name → Bool) (ls : List B.Binder) → MatrixAnd bs leads p ls [] → ⊥
matrix_and_some bs leads p [] h = h
matrix_and_some bs leads p (l ∷ ls) h = h
