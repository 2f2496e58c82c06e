-- The tree of a memory that has a text is a tree of atoms.
use Rattle.std.proofs.Common.{◌≡◌, ℕ, zero, suc, ◌/◌, ◌%◌, ◌^◌, ◌<◌, Bool, true, ◌&&◌, List, [], ◌∷◌, length, Option, Some, None, refl, arith}
use Rattle.std.specs.Prelude.{nat_lt, slice_index}
use Rattle.std.specs.List.{list_all}
use Rattle.std.specs.Option.{option_map}
use Rattle.std.specs.Fmt.{decimal}
use Rattle.std.proofs.lemmas.Bool.{and_parts, and_from, ltb-true}
use Rattle.hex.specs.Hex.{encode_with, encode_lower, lower_digits}
use Rattle.c_values.specs.Name.{Name}
use Rattle.c_values.specs.Layout.{Layout, Shape, GlobalVar, shape_of, is_object, space}
use Rattle.c_values.specs.Value as V
use Rattle.c_values.specs.Value.{Value, Values, Number, Parts, no_values}
use Rattle.c_memory.specs.Memory.{Tag}
use Rattle.c_memory.specs.Ranges.{Run}
use Rattle.c_memory.specs.Tags.{is_root_type}
use Rattle.c_lang.specs.Typed.{TypedUnit, typed_fn}
use Rattle.c_values.specs.Types.{Target, address_width}
use Rattle.ac_sx.specs.Tree.{Tree, is_atom_byte, is_atom, IsTree, AreTrees}
use Rattle.expression_text.specs.Names.{is_name}
use Rattle.expression_text.specs.TypeText.{is_type}
use Rattle.expression_text.specs.Lists.{each, trees_for}
use Rattle.expression_text.proofs.Atoms.{type_is_tree, decimal_atom, name_atom, number_atom}
use Rattle.memory_text.specs.ValueText.{value_tree, value_trees, parts_of, where_parts, is_value, are_values}
use Rattle.memory_text.specs.MemoryText.{Setting, Memory, call_tree, run_tree, tag_tree, setting_tree, memory_tree, parameter_shapes, is_call, are_bytes, after_run, is_tag, after_setting, goes_on, are_chained, is_memory}
use Rattle.memory_text.proofs.ValueLaws.{has_decimal}
use Rattle.memory_text.proofs.NumberLaws.{address_small}
use Rattle.memory_text.proofs.RunLaws.{is_byte, some_bytes, follows}
use Rattle.memory_text.proofs.SettingLaws.{sets}
use Rattle.memory_text.proofs.MemoryLaws.{fine}

-- digits of bytes
at_all : (test : ℕ → Bool) (xs : List ℕ) (k : ℕ) → list_all test xs ≡ true → k < length xs → test (slice_index xs k) ≡ true
at_all test [] k h lt = absurd (omega arith)
at_all test (x ∷ xs) zero h lt = (and_parts (test x) (list_all test xs) h).0
at_all test (x ∷ xs) (suc k) h lt = at_all test xs k (and_parts (test x) (list_all test xs) h).1 (omega arith)

digit : (d : ℕ) → d < 16 → is_atom_byte (slice_index lower_digits d) ≡ true
digit d lt = at_all is_atom_byte lower_digits d refl lt

all_digits : (bs : List ℕ) → each is_byte bs ≡ true → list_all is_atom_byte (encode_lower bs) ≡ true
unfolding encode_with
all_digits [] h = refl
all_digits (b ∷ bs) h =
    let p = and_parts (is_byte b) (each is_byte bs) h in
    let small = ltb-true b 256 p.0 in
    let high : b / 16 < 16 = omega (arith, small) in
    let low : b % 16 < 16 = omega arith in
    let first = slice_index lower_digits (b / 16) in
    let second = slice_index lower_digits (b % 16) in
    and_from (is_atom_byte first) (is_atom_byte second && list_all is_atom_byte (encode_lower bs)) (digit (b / 16) high)
    (and_from (is_atom_byte second) (list_all is_atom_byte (encode_lower bs)) (digit (b % 16) low) (all_digits bs p.1))

digits_atom : (bs : List ℕ) → are_bytes bs ≡ true → is_atom (encode_lower bs) ≡ true
unfolding encode_with
digits_atom [] h = absurd cc
digits_atom (b ∷ bs) h = all_digits (b ∷ bs) h

-- values
parts_atoms : (g : Target) (vs : Values) (o : Option (List Shape)) → where_parts o (λ ss. are_values g ss vs) ≡ true → ((ss : List Shape) → are_values g ss vs ≡ true → AreTrees (value_trees vs)) → AreTrees (value_trees vs)
parts_atoms g vs None h trees = absurd cc
parts_atoms g vs (Some ss) h trees = trees ss h

mutual
  value_atoms : (g : Target) (s : Shape) (v : Value) → is_value g s v ≡ true → IsTree (value_tree v)
  value_atoms g s (Number n) is = number_atom n (has_decimal g s n is)
  value_atoms g s (Parts vs) is = parts_atoms g vs (parts_of s) is (λ ss h. values_atoms g ss vs h)
  value_atoms g s _ is = absurd cc

  values_atoms : (g : Target) (ss : List Shape) (vs : Values) → are_values g ss vs ≡ true → AreTrees (value_trees vs)
  values_atoms g [] no_values is = tt
  values_atoms g (s ∷ ss) (V.more v vs) is = let p = and_parts (is_value g s v) (are_values g ss vs) is in (value_atoms g s v p.0, values_atoms g ss vs p.1)
  values_atoms g [] (V.more v vs) is = absurd cc
  values_atoms g (s ∷ ss) no_values is = absurd cc

-- lists
each_trees : {A : Type 0} (tree : A → Tree) (test : A → Bool) → ((x : A) → test x ≡ true → IsTree (tree x)) → (xs : List A) → each test xs ≡ true → AreTrees (trees_for tree xs)
each_trees tree test h [] is = tt
each_trees tree test h (x ∷ xs) is = let p = and_parts (test x) (each test xs) is in (h x p.0, each_trees tree test h xs p.1)

chained_trees : {S A : Type 0} (tree : A → Tree) (after : S → A → Option S) → ((s : S) (x : A) (r : S) → after s x ≡ Some r → IsTree (tree x)) → (s : S) (xs : List A) → are_chained after s xs ≡ true → AreTrees (trees_for tree xs)
chained_trees tree after h s [] is = tt
chained_trees {S} tree after h s (x ∷ xs) is = by (after s x) refl is (λ r f. chained_trees tree after h r xs f)
  where
    by : (o : Option S) → after s x ≡ o → goes_on o (λ r. are_chained after r xs) ≡ true → ((r : S) → are_chained after r xs ≡ true → AreTrees (trees_for tree xs)) → AreTrees (trees_for tree (x ∷ xs))
    by None e f others = absurd cc
    by (Some r) e f others = (h s x r e, others r f)

address_atom : (g : Target) (a : ℕ) → a < 2 ^ address_width g → is_atom (decimal a) ≡ true
address_atom g a lt = let small = address_small g in decimal_atom a (omega (arith, lt, small))

run_trees : (l : Layout) (from : ℕ) (r : Run) (e : ℕ) → after_run l from r ≡ Some e → IsTree (run_tree r)
run_trees l from r e h =
    let f = follows l from r e h in
    let within = f.within in
    let some = (some_bytes r.bytes f.filled).1 in
    (address_atom l.target r.address (omega (arith, within, some)), (digits_atom r.bytes f.filled, tt))

tag_trees : (l : Layout) (t : Tag) → is_tag l t ≡ true → IsTree (tag_tree t)
tag_trees l t is =
    let p = and_parts (nat_lt t.address (space l)) (is_type t.type && (is_root_type t.type && is_object l t.type)) is in
    let q = and_parts (is_type t.type) (is_root_type t.type && is_object l t.type) p.1 in
    (address_atom l.target t.address (ltb-true t.address (space l) p.0), (type_is_tree t.type q.0, tt))

setting_trees : (l : Layout) (gs : List GlobalVar) (s : Setting) (rest : List GlobalVar) → after_setting l gs s ≡ Some rest → IsTree (setting_tree s)
setting_trees l gs s rest h = let (g, f) = sets l gs s rest h in (name_atom s.name f.name, (value_atoms l.target (shape_of l g.type) s.value f.value, tt))

call_trees : (u : TypedUnit) (f : Name) (vs : Values) → is_call u f vs ≡ true → IsTree (call_tree f vs)
call_trees u f vs is =
    let o = option_map (parameter_shapes u.layout) (typed_fn u.functions f) in
    let p = and_parts (is_name f) (where_parts o (λ ss. are_values u.layout.target ss vs)) is in
    (refl, (name_atom f p.0, parts_atoms u.layout.target vs o p.1 (λ ss h. values_atoms u.layout.target ss vs h)))

pub memory_atoms : (u : TypedUnit) (m : Memory) → is_memory u m ≡ true → IsTree (memory_tree m)
memory_atoms u m is =
    let f = fine u m is in
    let turns = ltb-true m.turns (2 ^ 128) f.turns in
    let fill = ltb-true m.fill (2 ^ 64) f.fill in (
      refl,
      (
        refl,
        (
          call_trees u m.function m.arguments f.call,
          (
            (refl, (decimal_atom m.turns turns, tt)),
            (
              (refl, (decimal_atom m.fill (omega (arith, fill)), tt)),
              (
                (refl, chained_trees run_tree (after_run u.layout) (run_trees u.layout) 0 m.bytes f.bytes),
                (
                  (refl, each_trees tag_tree (is_tag u.layout) (tag_trees u.layout) m.tags f.tags),
                  ((refl, chained_trees setting_tree (after_setting u.layout) (setting_trees u.layout) u.globals m.globals f.globals), tt),
                ),
              ),
            ),
          ),
        ),
      ),
    )
