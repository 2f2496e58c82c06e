-- Texts of memories, written and read: what they are, and which node is bad.
use Rattle.std.proofs.Common.{◌≡◌, [], ◌∷◌, Some, Ok, Err, refl}
use Rattle.std.specs.Prelude.{ℕ, List, codes, pos, negsuc, false}
use Rattle.core.specs.Fmt.{digits}
use Rattle.hex.proofs.OnLiterals.{hex_on_literals}
use Rattle.c_values.specs.Types.{Ilp32, CType, Integer, UChar, Int, Ptr, Struct, Array}
use Rattle.c_values.specs.Layout.{Layout}
use Rattle.c_values.specs.Value.{Number, Parts, no_values}
use Rattle.c_values.specs.Value as V
use Rattle.c_lang.specs.Typed.{TypedUnit, no_statements}
use Rattle.ac_sx.specs.Tree.{Tree, Atom, Node}
use Rattle.expression_text.specs.TypeText.{row}
use Rattle.memory_text.specs.MemoryText.{Memory, memory_tree, memory_text}
use Rattle.memory_text.specs.MemoryReading.{memory_at}

-- struct node { int v; struct node *next; }; int x; unsigned char a[2]; struct node n; int f(int i, struct node *p)
abbrev node_type : CType
node_type = Struct (codes "node")

abbrev layout : Layout
layout = record {
  target = Ilp32;
  structs = record { name = codes "node"; members = record { name = codes "v"; type = Integer Int } ∷ record { name = codes "next"; type = Ptr node_type } ∷ [] } ∷ [];
}

abbrev unit : TypedUnit
unit = record {
  layout = layout;
  globals =
      record { name = codes "x"; type = Integer Int; initial = V.nothing }
      ∷ record { name = codes "a"; type = Array (Integer UChar) 2; initial = V.nothing }
      ∷ record { name = codes "n"; type = node_type; initial = V.nothing } ∷ [];
  functions = record {
    name = codes "f";
    result = Some (Integer Int);
    params = record { name = codes "i"; type = Integer Int } ∷ record { name = codes "p"; type = Ptr node_type } ∷ [];
    locals = [];
    folds_cast = false;
    body = no_statements;
  } ∷ [];
}

abbrev small : Memory
small = record {
  function = codes "f";
  arguments = V.more (Number (negsuc 0)) (V.more (Number (pos 4096)) no_values);
  turns = 5;
  fill = 0;
  bytes = [];
  tags = [];
  globals = [];
}

pub the_text_of_a_small_memory : memory_text small ≡ codes "(memory 1 (call f -1 4096) (turns 5) (fill 0) (bytes) (tags) (globals))\n"
unfolding digits
the_text_of_a_small_memory = refl

pub a_small_memory : memory_at unit 0 (memory_tree small) ≡ Ok (small, 20)
unfolding digits
a_small_memory = refl

-- with ranges that touch, the last up to the end of the space, and values of a scalar and of a struct
abbrev full : Memory
full = record {
  function = codes "f";
  arguments = V.more (Number (pos 2147483647)) (V.more (Number (pos 4294967295)) no_values);
  turns = 100001;
  fill = 18446744073709551615;
  bytes = record { address = 4294967292; bytes = 255 ∷ 10 ∷ [] } ∷ record { address = 4294967294; bytes = 0 ∷ 1 ∷ [] } ∷ [];
  tags = record { address = 4096; type = node_type } ∷ record { address = 4095; type = Ptr (Struct (codes "zz")) } ∷ [];
  globals = record { name = codes "x"; value = Number (negsuc 2147483647) } ∷ record { name = codes "n"; value = Parts (V.more (Number (pos 7)) (V.more (Number (pos 4096)) no_values)) } ∷ [];
}

pub the_text_of_a_full_memory :
    memory_text full
    ≡ codes "(memory 1 (call f 2147483647 4294967295) (turns 100001) (fill 18446744073709551615) (bytes (4294967292 ff0a) (4294967294 0001)) (tags (4096 (struct node)) (4095 (ptr (struct zz)))) (globals (x -2147483648) (n (7 4096))))\n"
unfolding digits hex_on_literals
the_text_of_a_full_memory = refl

pub a_full_memory : memory_at unit 0 (memory_tree full) ≡ Ok (full, 46)
unfolding digits hex_on_literals
a_full_memory = refl

-- Faults. Each of the lists has one place.
abbrev word : List ℕ → Tree
word w = Atom w

abbrev list : List Tree → Tree
list ts = Node (row ts)

abbrev headed : List ℕ → List Tree → Tree
headed head ts = list (Atom head ∷ ts)

abbrev text : List Tree → Tree
text ts = headed (codes "memory") (Atom (codes "1") ∷ ts)

abbrev call : Tree
call = headed (codes "call") (word (codes "f") ∷ word (codes "1") ∷ word (codes "2") ∷ [])

abbrev turns : Tree
turns = headed (codes "turns") (word (codes "5") ∷ [])

abbrev fill : Tree
fill = headed (codes "fill") (word (codes "0") ∷ [])

abbrev no_bytes : Tree
no_bytes = headed (codes "bytes") []

abbrev no_tags : Tree
no_tags = headed (codes "tags") []

abbrev no_globals : Tree
no_globals = headed (codes "globals") []

abbrev calling : Tree → Tree
calling c = text (c ∷ turns ∷ fill ∷ no_bytes ∷ no_tags ∷ no_globals ∷ [])

-- (memory 2 ..) and a memory without globals
pub another_version : memory_at unit 0 (headed (codes "memory") (word (codes "2") ∷ call ∷ turns ∷ fill ∷ no_bytes ∷ no_tags ∷ no_globals ∷ [])) ≡ Err 2
another_version = refl

pub six_parts : memory_at unit 0 (text (call ∷ turns ∷ fill ∷ no_bytes ∷ no_tags ∷ [])) ≡ Err 0
six_parts = refl

-- (call g), (call f 1), (call f 2147483648 2) and (call f 1 -1)
pub an_unknown_function : memory_at unit 0 (calling (headed (codes "call") (word (codes "g") ∷ []))) ≡ Err 5
an_unknown_function = refl

pub too_few_arguments : memory_at unit 0 (calling (headed (codes "call") (word (codes "f") ∷ word (codes "1") ∷ []))) ≡ Err 3
too_few_arguments = refl

pub an_argument_past_its_range : memory_at unit 0 (calling (headed (codes "call") (word (codes "f") ∷ word (codes "2147483648") ∷ word (codes "2") ∷ []))) ≡ Err 6
unfolding digits
an_argument_past_its_range = refl

pub a_pointer_below_zero : memory_at unit 0 (calling (headed (codes "call") (word (codes "f") ∷ word (codes "1") ∷ word (codes "-1") ∷ []))) ≡ Err 7
unfolding digits
a_pointer_below_zero = refl

-- (turns -1) and (fill 18446744073709551616)
pub turns_below_zero : memory_at unit 0 (text (call ∷ headed (codes "turns") (word (codes "-1") ∷ []) ∷ fill ∷ no_bytes ∷ no_tags ∷ no_globals ∷ [])) ≡ Err 10
unfolding digits
turns_below_zero = refl

pub fill_past_its_range : memory_at unit 0 (text (call ∷ turns ∷ headed (codes "fill") (word (codes "18446744073709551616") ∷ []) ∷ no_bytes ∷ no_tags ∷ no_globals ∷ [])) ≡ Err 13
unfolding digits
fill_past_its_range = refl

-- A list of two parts stands at 16, and its parts at 17 and 18; a second one at 19.
abbrev pair : List ℕ → Tree → Tree
pair w t = list (word w ∷ t ∷ [])

abbrev holding : List Tree → Tree
holding rs = text (call ∷ turns ∷ fill ∷ headed (codes "bytes") rs ∷ no_tags ∷ no_globals ∷ [])

pub upper_case : memory_at unit 0 (holding (pair (codes "1") (word (codes "0A")) ∷ [])) ≡ Err 18
unfolding digits hex_on_literals
upper_case = refl

pub an_odd_digit : memory_at unit 0 (holding (pair (codes "1") (word (codes "0")) ∷ [])) ≡ Err 18
unfolding digits hex_on_literals
an_odd_digit = refl

pub past_the_space : memory_at unit 0 (holding (pair (codes "4294967295") (word (codes "0001")) ∷ [])) ≡ Err 18
unfolding digits hex_on_literals
past_the_space = refl

pub an_address_past_the_space : memory_at unit 0 (holding (pair (codes "4294967296") (word (codes "00")) ∷ [])) ≡ Err 17
unfolding digits hex_on_literals
an_address_past_the_space = refl

pub ranges_that_overlap : memory_at unit 0 (holding (pair (codes "1") (word (codes "0001")) ∷ pair (codes "2") (word (codes "00")) ∷ [])) ≡ Err 20
unfolding digits hex_on_literals
ranges_that_overlap = refl

pub an_address_alone : memory_at unit 0 (holding (list (word (codes "1") ∷ []) ∷ [])) ≡ Err 16
unfolding digits hex_on_literals
an_address_alone = refl

-- Of tags a list of two parts stands at 18, and its parts at 19 and 20.
abbrev tagging : Tree → Tree
tagging t = text (call ∷ turns ∷ fill ∷ no_bytes ∷ headed (codes "tags") (pair (codes "4096") t ∷ []) ∷ no_globals ∷ [])

pub a_tag_of_void : memory_at unit 0 (tagging (word (codes "void"))) ≡ Err 20
unfolding digits
a_tag_of_void = refl

pub a_tag_of_an_array : memory_at unit 0 (tagging (headed (codes "array") (word (codes "zz") ∷ word (codes "2") ∷ []))) ≡ Err 20
unfolding digits
a_tag_of_an_array = refl

pub a_tag_of_an_unknown_struct : memory_at unit 0 (tagging (headed (codes "struct") (word (codes "zz") ∷ []))) ≡ Err 20
unfolding digits
a_tag_of_an_unknown_struct = refl

-- Of globals a list of two parts stands at 20, its parts at 21 and 22.
abbrev setting : List Tree → Tree
setting ss = text (call ∷ turns ∷ fill ∷ no_bytes ∷ no_tags ∷ headed (codes "globals") ss ∷ [])

pub an_unknown_global : memory_at unit 0 (setting (pair (codes "y") (word (codes "1")) ∷ [])) ≡ Err 21
unfolding digits
an_unknown_global = refl

pub a_global_twice : memory_at unit 0 (setting (pair (codes "x") (word (codes "1")) ∷ pair (codes "x") (word (codes "1")) ∷ [])) ≡ Err 24
unfolding digits
a_global_twice = refl

pub globals_out_of_order : memory_at unit 0 (setting (pair (codes "a") (list (word (codes "1") ∷ word (codes "2") ∷ [])) ∷ pair (codes "x") (word (codes "1")) ∷ [])) ≡ Err 26
unfolding digits
globals_out_of_order = refl

pub too_many_elements : memory_at unit 0 (setting (pair (codes "a") (list (word (codes "1") ∷ word (codes "2") ∷ word (codes "3") ∷ [])) ∷ [])) ≡ Err 22
unfolding digits
too_many_elements = refl

pub a_member_past_its_range : memory_at unit 0 (setting (pair (codes "n") (list (word (codes "1") ∷ word (codes "4294967296") ∷ [])) ∷ [])) ≡ Err 24
unfolding digits
a_member_past_its_range = refl

pub a_number_for_a_struct : memory_at unit 0 (setting (pair (codes "n") (word (codes "1")) ∷ [])) ≡ Err 22
unfolding digits
a_number_for_a_struct = refl
