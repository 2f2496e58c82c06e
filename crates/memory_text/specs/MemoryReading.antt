-- Trees read as memories, for a typed unit. The list of a call is bad where it has too many or too few arguments for its function; of an unknown function it may have as many
-- as any has, and then the name is bad.
use Rattle.std.specs.Prelude.{ℕ, ◌+◌, ◌-◌, ◌^◌, nat_le, nat_lt, ◌&&◌, ℤ, pos, negsuc, List, [], ◌∷◌, length, Option, Some, None, Result, Ok, Err, codes, is_some, if◌then◌else◌}
use Rattle.hex.specs.Hex.{decode_of, encode_lower}
use Rattle.hex.specs.declared.error.FromHexError.{FromHexError}
use Rattle.c_values.specs.Name.{Name, same_name}
use Rattle.c_values.specs.Types.{CType}
use Rattle.c_values.specs.Layout.{Layout, GlobalVar, shape_of, is_object, space}
use Rattle.c_values.specs.Value.{Values}
use Rattle.c_memory.specs.Memory.{Tag}
use Rattle.c_memory.specs.Ranges.{Run}
use Rattle.c_memory.specs.Tags.{is_root_type}
use Rattle.c_lang.specs.Typed.{TypedFn, TypedUnit, typed_fn}
use Rattle.ac_sx.specs.Tree.{Tree, Trees, Atom, Node, no_trees, more}
use Rattle.ac_sx.specs.CodeSx.{word_in, parts_in, headed_in, one_of, two_of, first_of}
use Rattle.expression_text.specs.Reading.{Read, next, made, ◌>>=◌}
use Rattle.expression_text.specs.Names.{name_at}
use Rattle.expression_text.specs.Numbers.{number_at}
use Rattle.expression_text.specs.TypeReading.{type_at}
use Rattle.expression_text.specs.Lists.{list_at}
use Rattle.memory_text.specs.ValueReading.{counted, value_at, values_at}
use Rattle.memory_text.specs.MemoryText.{Setting, Memory, parameter_shapes, global_named}

-- the parts of a list behind this word
abbrev pub behind_word : Name → Option (Name × Trees) → Option Trees
behind_word word None = None
behind_word word (Some (head, ts)) = if same_name head word then Some ts else None

abbrev pub parts_behind : Name → Tree → Option Trees
parts_behind word t = behind_word word (headed_in t)

-- the two parts of a list of two
abbrev pub two_in : Option Trees → Option (Tree × Tree)
two_in None = None
two_in (Some ts) = two_of ts

abbrev pub pair_in : Tree → Option (Tree × Tree)
pair_in t = two_in (parts_in t)

-- a natural number below a bound
abbrev pub natural_from : ℕ → ℕ → ℤ × ℕ → Read ℕ
natural_from bound at (pos n, behind) = if nat_lt n bound then Ok (n, behind) else Err at
natural_from bound at (negsuc n, behind) = Err at

abbrev pub natural_at : ℕ → ℕ → Tree → Read ℕ
natural_at bound at t = do
  x ← number_at at t
  natural_from bound at x

-- of a list of a word and a number
abbrev pub number_row : ℕ → ℕ → Option Tree → Read ℕ
number_row bound at None = Err at
number_row bound at (Some t) = natural_at bound (next (next at)) t

abbrev pub one_in : Option Trees → Option Tree
one_in None = None
one_in (Some ts) = one_of ts

abbrev pub count_at : Name → ℕ → ℕ → Tree → Read ℕ
count_at word bound at t = number_row bound at (one_in (parts_behind word t))

-- parts of one kind, each read by what the one before has left
abbrev pub chained_at : {S A : Type 0} → (S → ℕ → Tree → Read (A × S)) → S → ℕ → Trees → Read (List A)
chained_at read s at no_trees = Ok ([], at)
chained_at read s at (more t ts) = do
  x ← read s at t
  y ← chained_at read x.0.1 x.1 ts
  Ok (x.0.0 ∷ y.0, y.1)

-- the parts of a list behind this word, read so
abbrev pub listed_from : {A : Type 0} → (ℕ → Trees → Read A) → ℕ → Option Trees → Read A
listed_from read at None = Err at
listed_from read at (Some ts) = read (next (next at)) ts

abbrev pub listed_at : {A : Type 0} → Name → (ℕ → Trees → Read A) → ℕ → Tree → Read A
listed_at word read at t = listed_from read at (parts_behind word t)

-- bytes as hexadecimal digits, in lower case
abbrev pub bytes_from : Name → Result (List ℕ) FromHexError → Option (List ℕ)
bytes_from word (Err e) = None
bytes_from word (Ok bs) = if same_name word (encode_lower bs) then Some bs else None

abbrev pub bytes_in : Name → Option (List ℕ)
bytes_in word = bytes_from word (decode_of word)

-- bytes, one at least and not more than there is room for
abbrev pub bytes_within : ℕ → ℕ → Option (List ℕ) → Read (List ℕ)
bytes_within room at None = Err at
bytes_within room at (Some bs) = if nat_lt 0 (length bs) && nat_le (length bs) room then Ok (bs, next at) else Err at

abbrev pub bytes_at : ℕ → ℕ → Tree → Read (List ℕ)
bytes_at room at (Atom word) = bytes_within room at (bytes_in word)
bytes_at room at (Node ts) = Err at

-- an address from this one on
abbrev pub address_at : Layout → ℕ → ℕ → Tree → Read ℕ
address_at l from at t = do
  x ← natural_at (space l) at t
  if nat_le from x.0 then Ok x else Err at

abbrev pub run_row : Layout → ℕ → ℕ → Option (Tree × Tree) → Read (Run × ℕ)
run_row l from at None = Err at
run_row l from at (Some (a, h)) = do
  x ← address_at l from (next at) a
  y ← bytes_at (space l - x.0) x.1 h
  Ok ((record { address = x.0; bytes = y.0 }, x.0 + length y.0), y.1)

abbrev pub run_at : Layout → ℕ → ℕ → Tree → Read (Run × ℕ)
run_at l from at t = run_row l from at (pair_in t)

-- a tag's type is no array's, whatever that is of
abbrev pub tag_type_at : Layout → ℕ → Tree → Read CType
tag_type_at l at t =
    if is_some (parts_behind (codes "array") t) then Err at else (do
      x ← type_at at t
      if is_root_type x.0 && is_object l x.0 then Ok x else Err at)

abbrev pub tag_row : Layout → ℕ → Option (Tree × Tree) → Read Tag
tag_row l at None = Err at
tag_row l at (Some (a, t)) = do
  x ← natural_at (space l) (next at) a
  y ← tag_type_at l x.1 t
  Ok (record { address = x.0; type = y.0 }, y.1)

abbrev pub tag_at : Layout → ℕ → Tree → Read Tag
tag_at l at t = tag_row l at (pair_in t)

-- the value of a global with this name, which stands at that number, and those behind it
abbrev pub setting_of : Layout → ℕ → Name × ℕ → Tree → Option (GlobalVar × List GlobalVar) → Read (Setting × List GlobalVar)
setting_of l at x t None = Err at
setting_of l at x t (Some (g, gs)) = do
  y ← value_at l.target (shape_of l g.type) x.1 t
  Ok ((record { name = x.0; value = y.0 }, gs), y.1)

abbrev pub setting_row : Layout → List GlobalVar → ℕ → Option (Tree × Tree) → Read (Setting × List GlobalVar)
setting_row l gs at None = Err at
setting_row l gs at (Some (n, t)) = do
  x ← name_at (next at) n
  setting_of l (next at) x t (global_named gs x.0)

abbrev pub setting_at : Layout → List GlobalVar → ℕ → Tree → Read (Setting × List GlobalVar)
setting_at l gs at t = setting_row l gs at (pair_in t)

-- the arguments of a function, in a list at this number, whose name stands at that one
abbrev pub call_of : Layout → ℕ → ℕ → Name × ℕ → Trees → Option TypedFn → Read (Name × Values)
call_of l at inner x ts None = Err inner
call_of l at inner x ts (Some f) = made (λ vs. (x.0, vs)) (counted at ts (Some (parameter_shapes l f)) (λ ss. values_at l.target ss x.1 ts))

abbrev pub call_row : TypedUnit → ℕ → Option (Tree × Trees) → Read (Name × Values)
call_row u at None = Err at
call_row u at (Some (f, ts)) = do
  x ← name_at (next (next at)) f
  call_of u.layout at (next (next at)) x ts (typed_fn u.functions x.0)

abbrev pub call_from : TypedUnit → ℕ → Option Trees → Read (Name × Values)
call_from u at None = Err at
call_from u at (Some ts) = call_row u at (first_of ts)

abbrev pub call_at : TypedUnit → ℕ → Tree → Read (Name × Values)
call_at u at t = call_from u at (parts_behind (codes "call") t)

-- the parts of a memory behind its first word
pub record Parts : Type 0 where
  pub version : Tree
  pub call : Tree
  pub turns : Tree
  pub fill : Tree
  pub bytes : Tree
  pub tags : Tree
  pub globals : Tree

abbrev pub seven_of : Trees → Option Parts
seven_of (more v (more c (more t (more f (more b (more g (more s no_trees))))))) =
    Some (record { version = v; call = c; turns = t; fill = f; bytes = b; tags = g; globals = s })
seven_of _ = None

abbrev pub version_from : ℕ → Option Name → Read (Unit {0})
version_from at None = Err at
version_from at (Some word) = if same_name word (codes "1") then Ok (tt, next at) else Err at

abbrev pub memory_row : TypedUnit → ℕ → Option Parts → Read Memory
memory_row u at None = Err at
memory_row u at (Some p) = do
  v ← version_from (next (next at)) (word_in p.version)
  c ← call_at u v.1 p.call
  t ← count_at (codes "turns") (2 ^ 128) c.1 p.turns
  f ← count_at (codes "fill") (2 ^ 64) t.1 p.fill
  b ← listed_at (codes "bytes") (chained_at (run_at u.layout) 0) f.1 p.bytes
  g ← listed_at (codes "tags") (list_at (tag_at u.layout)) b.1 p.tags
  s ← listed_at (codes "globals") (chained_at (setting_at u.layout) u.globals) g.1 p.globals
  Ok (record { function = c.0.0; arguments = c.0.1; turns = t.0; fill = f.0; bytes = b.0; tags = g.0; globals = s.0 }, s.1)

abbrev pub memory_from : TypedUnit → ℕ → Option Trees → Read Memory
memory_from u at None = Err at
memory_from u at (Some ts) = memory_row u at (seven_of ts)

abbrev pub memory_at : TypedUnit → ℕ → Tree → Read Memory
memory_at u at t = memory_from u at (parts_behind (codes "memory") t)
