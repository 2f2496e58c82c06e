-- Trees read as triples.
use Rattle.std.specs.Prelude.{ℕ, List, Option, Some, None, Ok, Err, if◌then◌else◌}
use Rattle.c_values.specs.Name.{Name, same_name}
use Rattle.expression_lang.specs.Sort.{Scalar, WordSort, NumberSort, TruthSort}
use Rattle.ac_sx.specs.Tree.{Tree, Trees, Atom, Node}
use Rattle.ac_sx.specs.CodeSx.{word_in, headed_in, one_of, two_of, first_of}
use Rattle.expression_text.specs.Reading.{Read, next, ◌>>=◌}
use Rattle.expression_text.specs.Names.{name_at}
use Rattle.expression_text.specs.ExpReading.{width_at, exp_at}
use Rattle.expression_text.specs.Lists.{list_at}
use Rattle.exactness.specs.Triple.{Logical}
use Rattle.triple_lang.specs.Triple.{Triple}
use Rattle.triple_text.specs.Parts.{five_of}
use Rattle.triple_text.specs.DerivReading.{deriv_at}
use Rattle.triple_text.specs.TripleText.{number_word, truth_word, width_word, triple_word, triples_word, version_word}

abbrev pub scalar_leaf_at : ℕ → Name → Read Scalar
scalar_leaf_at at word =
    if same_name word number_word then Ok (NumberSort, next at)
    else if same_name word truth_word then Ok (TruthSort, next at)
    else Err at

-- of a list at this number, whose parts begin at that one
abbrev pub width_row : ℕ → ℕ → Option Tree → Read Scalar
width_row at inner None = Err at
width_row at inner (Some n) = do
  x ← width_at inner n
  Ok (WordSort x.0, x.1)

-- of a word, or of a list's head and parts
abbrev pub scalar_by : ℕ → Option Name → Option (Name × Trees) → Read Scalar
scalar_by at (Some word) _ = scalar_leaf_at at word
scalar_by at None (Some (head, ts)) = if same_name head width_word then width_row at (next (next at)) (one_of ts) else Err at
scalar_by at None None = Err at

abbrev pub scalar_at : ℕ → Tree → Read Scalar
scalar_at at t = scalar_by at (word_in t) (headed_in t)

-- a name and a sort
abbrev pub logical_row : ℕ → Option (Tree × Tree) → Read Logical
logical_row at None = Err at
logical_row at (Some (x, s)) = do
  y ← name_at (next at) x
  z ← scalar_at y.1 s
  Ok (record { name = y.0; sort = z.0 }, z.1)

abbrev pub logical_at : ℕ → Tree → Read Logical
logical_at at (Atom word) = Err at
logical_at at (Node ts) = logical_row at (two_of ts)

abbrev pub logicals_at : ℕ → Tree → Read (List Logical)
logicals_at at (Atom word) = Err at
logicals_at at (Node ts) = list_at logical_at (next at) ts

-- of a list at this number, whose parts begin at that one
abbrev pub triple_row : ℕ → ℕ → Option (Tree × Tree × Tree × Tree × Tree) → Read Triple
triple_row at inner None = Err at
triple_row at inner (Some (f, xs, p, q, d)) = do
  x ← name_at inner f
  y ← logicals_at x.1 xs
  z ← exp_at y.1 p
  w ← exp_at z.1 q
  v ← deriv_at w.1 d
  Ok (record { assertions = record { function = x.0; logicals = y.0; before = z.0; after = w.0 }; derivation = v.0 }, v.1)

abbrev pub triple_by : ℕ → Option (Name × Trees) → Read Triple
triple_by at None = Err at
triple_by at (Some (head, ts)) = if same_name head triple_word then triple_row at (next (next at)) (five_of ts) else Err at

abbrev pub triple_at : ℕ → Tree → Read Triple
triple_at at t = triple_by at (headed_in t)

-- a version, which stands there, and the triples behind it
abbrev pub version_by : ℕ → Option Name → Trees → Read (List Triple)
version_by at None ts = Err at
version_by at (Some word) ts = if same_name word version_word then list_at triple_at (next at) ts else Err at

abbrev pub version_row : ℕ → Option (Tree × Trees) → Read (List Triple)
version_row at None = Err at
version_row at (Some (v, ts)) = version_by (next (next at)) (word_in v) ts

abbrev pub triples_by : ℕ → Option (Name × Trees) → Read (List Triple)
triples_by at None = Err at
triples_by at (Some (head, ts)) = if same_name head triples_word then version_row at (first_of ts) else Err at

abbrev pub triples_at : ℕ → Tree → Read (List Triple)
triples_at at t = triples_by at (headed_in t)
