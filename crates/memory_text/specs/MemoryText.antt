-- The text of a memory that a run starts from: a function and its arguments, how many turns there are, the number that a free choice gives, bytes in ranges, tags, and values
-- of globals; those of other globals are their initial ones, and an absent byte is 0.
use Rattle.std.specs.Prelude.{ℕ, ◌+◌, ◌^◌, nat_le, nat_lt, Bool, true, false, ◌&&◌, List, [], ◌∷◌, length, map, Option, Some, None, codes, if◌then◌else◌}
use Rattle.std.specs.Option.{option_map}
use Rattle.std.specs.Fmt.{decimal}
use Rattle.hex.specs.Hex.{encode_lower}
use Rattle.c_values.specs.Name.{Name, same_name}
use Rattle.c_values.specs.Layout.{Layout, Shape, GlobalVar, shape_of, is_object, space}
use Rattle.c_values.specs.Value.{Value, Values}
use Rattle.c_memory.specs.Memory.{Tag}
use Rattle.c_memory.specs.Ranges.{Run}
use Rattle.c_memory.specs.Tags.{is_root_type}
use Rattle.c_lang.specs.Typed.{Variable, TypedFn, TypedUnit, typed_fn}
use Rattle.ac_sx.specs.Tree.{Tree, Atom, Node, more, file}
use Rattle.expression_text.specs.Names.{is_name}
use Rattle.expression_text.specs.TypeText.{row, form, type_tree, is_type}
use Rattle.expression_text.specs.Lists.{each, trees_for}
use Rattle.memory_text.specs.ValueText.{value_tree, value_trees, where_parts, is_value, are_values}

-- a global and its value
pub record Setting : Type 0 where
  pub name : Name
  pub value : Value

pub record Memory : Type 0 where
  pub function : Name
  pub arguments : Values
  pub turns : ℕ
  pub fill : ℕ
  pub bytes : List Run
  pub tags : List Tag
  pub globals : List Setting

abbrev pub call_tree : Name → Values → Tree
call_tree f vs = Node (more (Atom (codes "call")) (more (Atom f) (value_trees vs)))

-- a list of one number
abbrev pub number_tree : List ℕ → ℕ → Tree
number_tree word n = form word (Atom (decimal n) ∷ [])

abbrev pub run_tree : Run → Tree
run_tree r = Node (row (Atom (decimal r.address) ∷ Atom (encode_lower r.bytes) ∷ []))

abbrev pub tag_tree : Tag → Tree
tag_tree t = Node (row (Atom (decimal t.address) ∷ type_tree t.type ∷ []))

abbrev pub setting_tree : Setting → Tree
setting_tree s = Node (row (Atom s.name ∷ value_tree s.value ∷ []))

-- a list of parts of one kind
abbrev pub list_tree : {A : Type 0} → List ℕ → (A → Tree) → List A → Tree
list_tree word tree xs = Node (more (Atom word) (trees_for tree xs))

abbrev pub memory_tree : Memory → Tree
memory_tree m =
    form (codes "memory") (
    Atom (codes "1") ∷ call_tree m.function m.arguments ∷ number_tree (codes "turns") m.turns ∷ number_tree (codes "fill") m.fill
    ∷ list_tree (codes "bytes") run_tree m.bytes ∷ list_tree (codes "tags") tag_tree m.tags ∷ list_tree (codes "globals") setting_tree m.globals ∷ []
    )

-- the text of the file
abbrev pub memory_text : Memory → List ℕ
memory_text m = file (memory_tree m)

-- Which memories have a text for a typed unit.

-- the shapes of a function's parameters
abbrev pub parameter_shapes : Layout → TypedFn → List Shape
parameter_shapes l f = map (λ (v : Variable). shape_of l v.type) f.params

-- the function is there, and each argument is of its parameter's type
abbrev pub is_call : TypedUnit → Name → Values → Bool
is_call u f vs = is_name f && where_parts (option_map (parameter_shapes u.layout) (typed_fn u.functions f)) (λ ss. are_values u.layout.target ss vs)

-- bytes, one at least
abbrev pub are_bytes : List ℕ → Bool
are_bytes [] = false
are_bytes (b ∷ bs) = each (λ c. nat_lt c 256) (b ∷ bs)

abbrev pub run_end : Run → ℕ
run_end r = r.address + length r.bytes

-- where the ranges before have ended, the range may follow, and ends there
abbrev pub after_run : Layout → ℕ → Run → Option ℕ
after_run l from r = if (nat_le from r.address && are_bytes r.bytes) && nat_le (run_end r) (space l) then Some (run_end r) else None

-- an integer, a pointer or a complete struct
abbrev pub is_tag : Layout → Tag → Bool
is_tag l t = nat_lt t.address (space l) && (is_type t.type && (is_root_type t.type && is_object l t.type))

-- the first global of a name, and those behind it
abbrev pub global_named : List GlobalVar → Name → Option (GlobalVar × List GlobalVar)
global_named [] x = None
global_named (g ∷ gs) x = if same_name g.name x then Some (g, gs) else global_named gs x

abbrev pub where_global : Layout → Setting → Option (GlobalVar × List GlobalVar) → Option (List GlobalVar)
where_global l s None = None
where_global l s (Some (g, gs)) = if is_value l.target (shape_of l g.type) s.value then Some gs else None

-- the setting of one of these globals leaves those behind it
abbrev pub after_setting : Layout → List GlobalVar → Setting → Option (List GlobalVar)
after_setting l gs s = if is_name s.name then where_global l s (global_named gs s.name) else None

-- each leaves what the next one goes on from
abbrev pub goes_on : {S : Type 0} → Option S → (S → Bool) → Bool
goes_on None test = false
goes_on (Some s) test = test s

abbrev pub are_chained : {S A : Type 0} → (S → A → Option S) → S → List A → Bool
are_chained after s [] = true
are_chained after s (x ∷ xs) = goes_on (after s x) (λ r. are_chained after r xs)

abbrev pub is_memory : TypedUnit → Memory → Bool
is_memory u m =
    is_call u m.function m.arguments && (nat_lt m.turns (2 ^ 128) && nat_lt m.fill (2 ^ 64))
    && (are_chained (after_run u.layout) 0 m.bytes && (each (is_tag u.layout) m.tags && are_chained (after_setting u.layout) u.globals m.globals))

-- how many turns a run may have
abbrev pub most_turns : ℕ
most_turns = 100000
