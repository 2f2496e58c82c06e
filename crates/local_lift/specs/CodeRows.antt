-- Rows: for each of a function's locals whether it is meant; and how rows change.
use Rattle.std.specs.Prelude.{◌≡◌, ℕ, zero, suc, Bool, false, not, ◌&&◌, ◌||◌, List, [], ◌∷◌, string_bytes, Option, if◌then◌else◌, slice_index_or as get_or}
use Rattle.c_values.specs.Name.{Name, same_name, is_among}
use Rattle.expression_lang.specs.declared.signatures.Binder as B
use Rattle.simpl_lang.specs.Names.{is_target}
use Rattle.local_lift.specs.Live.{some_of}
use Rattle.local_lift.specs.declared.rows.Row.{Row}

-- of the locals those whose name passes the test
abbrev pub marks : (Name → Bool) → List B.Binder → List Bool
marks p [] = []
marks p (b ∷ bs) = p (string_bytes b.name) ∷ marks p bs

-- in one of two rows
abbrev pub either_row : List Bool → List Bool → List Bool
either_row (a ∷ as') (b ∷ bs) = (a || b) ∷ either_row as' bs
either_row _ _ = []

-- in a row, or in another and not in a third
abbrev pub past_row : List Bool → List Bool → List Bool → List Bool
past_row (a ∷ as') (b ∷ bs) (c ∷ cs) = (a || (b && not c)) ∷ past_row as' bs cs
past_row _ _ _ = []

-- without one name
abbrev pub row_without : Name → List B.Binder → List Bool → List Bool
row_without x (b ∷ bs) (a ∷ as') = (not (same_name (string_bytes b.name) x) && a) ∷ row_without x bs as'
row_without _ _ _ = []

-- whether the row means the first local of the name
abbrev pub row_has : Name → List B.Binder → List Bool → Bool
row_has x (b ∷ bs) (a ∷ as') = (same_name x (string_bytes b.name) && a) || (not (same_name x (string_bytes b.name)) && row_has x bs as')
row_has _ _ _ = false

-- which names are meant before, of which are meant after
abbrev pub Change : Type 0
Change = (Name → Bool) → Name → Bool

abbrev pub RowMoves : List B.Binder → Change → List Bool → List Bool → Type 0
RowMoves bs t row other = (p : Name → Bool) → row ≡ marks p bs → other ≡ marks (t p) bs

abbrev pub Moves : List B.Binder → Change → List Row → List Row → Type 0
Moves bs t [] [] = Unit {0}
Moves bs t (r ∷ rs) (s ∷ ss) = RowMoves bs t r.flags.items s.flags.items × Moves bs t rs ss
Moves _ _ _ _ = ⊥

-- for each of the locals of a list a row: of those that its name leads to
abbrev pub Matrix : List B.Binder → (Name → Name → Bool) → List B.Binder → List Row → Type 0
Matrix bs leads [] [] = Unit {0}
Matrix bs leads (b ∷ ls) (r ∷ rs) = (r.flags.items ≡ marks (leads (string_bytes b.name)) bs) × Matrix bs leads ls rs
Matrix _ _ _ _ = ⊥

-- the position has the name
abbrev pub IsAt : ℕ → List B.Binder → Name → Type 0
IsAt k bs x = (p : Name → Bool) → get_or (marks p bs) k false ≡ p x

-- the flags of the row at the position
abbrev pub row_at : ℕ → List Row → List Bool
row_at k [] = []
row_at zero (r ∷ rs) = r.flags.items
row_at (suc k) (r ∷ rs) = row_at k rs

-- with the rows of those that are meant
abbrev pub with_meant : List Bool → List Row → List Bool → List Bool
with_meant (f ∷ fs) (r ∷ rs) all = with_meant fs rs (if f then either_row all r.flags.items else all)
with_meant _ _ all = all

-- what is changed: a local is assigned; names are added; a name is taken away; two changes; by way of a name
abbrev pub assigning : Name → List Name → (Name → Bool) → Change
assigning x xs g p y = ((is_among x xs && p x) && g y) || (not (same_name y x) && p y)

abbrev pub adding : (Name → Bool) → Change
adding g p y = g y || p y

abbrev pub removing : Name → Change
removing x p y = not (same_name y x) && p y

abbrev pub either_change : Change → Change → Change
either_change s t p y = s p y || t p y

abbrev pub by_way : Name → (Name → Bool) → Change
by_way x w p y = p y || (p x && w y)

abbrev pub spreading : List Name → (Name → Name → Bool) → (Name → Bool) → Change
spreading xs leads own p y = let from = λ (z : Name). own z || p z in from y || some_of (λ z. from z && leads z y) xs

abbrev pub flags_of : List Row → List (List Bool)
flags_of [] = []
flags_of (r ∷ rs) = r.flags.items ∷ flags_of rs

-- for each of two rows the locals of either
abbrev pub each_either : List Row → List Row → List (List Bool)
each_either (r ∷ rs) (s ∷ ss) = either_row r.flags.items s.flags.items ∷ each_either rs ss
each_either _ _ = []

-- and a row more
abbrev pub MatrixAnd : List B.Binder → (Name → Name → Bool) → (Name → Bool) → List B.Binder → List Row → Type 0
MatrixAnd bs leads p [] (r ∷ []) = r.flags.items ≡ marks p bs
MatrixAnd bs leads p (b ∷ ls) (r ∷ rs) = (r.flags.items ≡ marks (leads (string_bytes b.name)) bs) × MatrixAnd bs leads p ls rs
MatrixAnd _ _ _ _ _ = ⊥

-- where a result goes isn't meant before
abbrev pub without_target : Option Name → Change
without_target x p y = not (is_target y x) && p y
