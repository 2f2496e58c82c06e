-- A type's tree is read as the type, and what is read as a type is its tree.
use Rattle.std.proofs.Common.{◌≡◌, ℕ, ◌^◌, ◌<◌, ◌≤◌, true, Option, Some, None, Ok, Err, refl, ap, ap₂, sym, ◌∙◌, arith}
use Rattle.std.specs.Prelude.{nat_lt, codes}
use Rattle.std.specs.Fmt.{decimal}
use Rattle.std.proofs.lemmas.Bool.{and_parts, and_from, cond-true, ltb-true, lt-ltb}
use Rattle.c_values.specs.Name.{Name, same_name}
use Rattle.c_values.specs.Types.{IntType, CType, Integer, Void, Ptr, Struct, Array}
use Rattle.ac_sx.specs.Tree.{Tree, Trees, Atom, Node, no_trees, more}
use Rattle.expression_text.specs.Reading.{next, ◌>>=◌}
use Rattle.expression_text.specs.Names.{is_name, name_at}
use Rattle.expression_text.specs.Numbers.{natural_in, below, natural_at}
use Rattle.expression_text.specs.Words.{looked_up, int_type_word, int_types, TypeHead, PtrHead, StructHead, ArrayHead, type_head_word, type_heads}
use Rattle.expression_text.specs.TypeText.{type_tree, is_type}
use Rattle.expression_text.specs.TypeReading.{plain_type_at, type_at, built_type_at}
use Rattle.expression_text.proofs.LookedUp.{looked_up_is, name_is}
use Rattle.expression_text.proofs.NumbersRead.{natural_of, natural_is}
use Rattle.expression_text.proofs.TypesRead.{int_types_found, type_heads_found}
use Rattle.expression_text.proofs.Behind.{behind, IsReadAs, bind_ok, kept_ok, value_ok}

-- names and naturals
pub name_reads : (x : Name) → is_name x ≡ true → IsReadAs name_at (Atom x) x
name_reads x e = λ at. cond-true (is_name x) (Ok (x, next at)) (Err at) e

pub name_spells : (t : Tree) (at : ℕ) (x : Name) (n : ℕ) → name_at at t ≡ Ok (x, n) → (t ≡ Atom x) × (is_name x ≡ true)
name_spells (Atom word) at x n e =
    let p = kept_ok (is_name word) word (next at) at x n e in
    (ap Atom p.1, ap is_name (sym p.1) ∙ p.0)
name_spells (Node ts) at x n e = absurd cc

pub natural_reads : (bound n : ℕ) → n < bound → bound ≤ 2 ^ 128 → IsReadAs (natural_at bound) (Atom (decimal n)) n
natural_reads bound n lt small = λ at.
    ap (below bound at) (natural_of n (omega arith)) ∙ cond-true (nat_lt n bound) (Ok (n, next at)) (Err at) (lt-ltb n bound lt)

pub natural_spells : (bound : ℕ) (t : Tree) (at x n : ℕ) → natural_at bound at t ≡ Ok (x, n) → (t ≡ Atom (decimal x)) × (x < bound)
natural_spells bound (Atom word) at x n e = at_number (natural_in word) refl e
  where
    at_number : (o : Option ℕ) → natural_in word ≡ o → below bound at o ≡ Ok (x, n) → (Atom word ≡ Atom (decimal x)) × (x < bound)
    at_number None f g = absurd cc
    at_number (Some m) f g =
        let p = kept_ok (nat_lt m bound) m (next at) at x n g in
        let same = p.1 in
        let less = ltb-true m bound p.0 in
        (ap Atom ((natural_is word m f).0 ∙ ap decimal same), omega (arith, same, less))
natural_spells bound (Node ts) at x n e = absurd cc

-- types
built : (at inner : ℕ) (h : TypeHead) (ts : Trees) → built_type_at at inner (looked_up type_head_word type_heads (type_head_word h)) ts ≡ built_type_at at inner (Some h) ts
built at inner h ts = ap (λ o. built_type_at at inner o ts) (type_heads_found h)

pub type_reads : (t : CType) → is_type t ≡ true → IsReadAs type_at (type_tree t) t
type_reads (Integer i) is = λ at. ap (plain_type_at at (int_type_word i)) (int_types_found i)
type_reads Void is = λ at. refl
type_reads (Ptr t) is = λ at. let h = type_reads t is (next (next at)) in
    built at (next (next at)) PtrHead (more (type_tree t) no_trees) ∙ rw h refl
type_reads (Struct x) is = λ at. let h = name_reads x is (next (next at)) in
    built at (next (next at)) StructHead (more (Atom x) no_trees) ∙ ap (λ r. r >>= λ y. Ok (Struct y.0, y.1)) h
type_reads (Array t n) is = λ at.
    let p = and_parts (is_type t) (nat_lt n (2 ^ 32)) is in
    let lt = ltb-true n (2 ^ 32) p.1 in
    let h = type_reads t p.0 (next (next at)) in
    let k = natural_reads (2 ^ 32) n lt (omega arith) (behind (next (next at)) (type_tree t)) in
    built at (next (next at)) ArrayHead (more (type_tree t) (more (Atom (decimal n)) no_trees))
    ∙ ap (λ r. r >>= λ x. natural_at (2 ^ 32) x.1 (Atom (decimal n)) >>= λ y. Ok (Array x.0 y.0, y.1)) h
    ∙ ap (λ r. r >>= λ y. Ok (Array t y.0, y.1)) k

-- a list of one or of two parts, part by part
pub list_one : {w v : Name} {a b : Tree} → w ≡ v → a ≡ b → Node (more (Atom w) (more a no_trees)) ≡ Node (more (Atom v) (more b no_trees))
list_one e f = ap₂ (λ x t. Node (more (Atom x) (more t no_trees))) e f

pub list_two : {w v : Name} {a b c d : Tree} → w ≡ v → a ≡ b → c ≡ d → Node (more (Atom w) (more a (more c no_trees))) ≡ Node (more (Atom v) (more b (more d no_trees)))
list_two {v = v} {b = b} {c = c} e f g = ap₂ (λ x t. Node (more (Atom x) (more t (more c no_trees)))) e f ∙ ap (λ t. Node (more (Atom v) (more b (more t no_trees)))) g

abbrev pub IsTextOf : Tree → CType → Type 0
IsTextOf tree t = (tree ≡ type_tree t) × (is_type t ≡ true)

moved : {tree : Tree} (t u : CType) → t ≡ u → tree ≡ type_tree t → is_type t ≡ true → IsTextOf tree u
moved t u same e is = (e ∙ ap type_tree same, ap is_type (sym same) ∙ is)

plain_spells : (word : Name) (o : Option IntType) (at : ℕ) (t : CType) (n : ℕ) → looked_up int_type_word int_types word ≡ o → plain_type_at at word o ≡ Ok (t, n) → IsTextOf (Atom word) t
plain_spells word (Some i) at t n found e = moved (Integer i) t (value_ok (Integer i) (next at) t n e) (ap Atom (sym (looked_up_is int_type_word int_types word i found))) refl
plain_spells word None at t n found e =
    let p = kept_ok (same_name word (codes "void")) Void (next at) at t n e in
    moved Void t p.1 (ap Atom (name_is word (codes "void") p.0)) refl

mutual
  pub type_spells : (tree : Tree) (at : ℕ) (t : CType) (n : ℕ) → type_at at tree ≡ Ok (t, n) → IsTextOf tree t
  type_spells (Atom word) at t n e = plain_spells word (looked_up int_type_word int_types word) at t n refl e
  type_spells (Node (more (Atom head) ts)) at t n e = built_spells head (looked_up type_head_word type_heads head) ts at (next (next at)) t n refl e
  type_spells _ at t n e = absurd cc

  built_spells : (head : Name) (o : Option TypeHead) (ts : Trees) (at inner : ℕ) (t : CType) (n : ℕ) → looked_up type_head_word type_heads head ≡ o → built_type_at at inner o ts ≡ Ok (t, n) → IsTextOf (Node (more (Atom head) ts)) t
  built_spells head (Some PtrHead) (more u no_trees) at inner t n found e =
      let (x, first, last) = bind_ok (type_at inner u) (λ x. Ok (Ptr x.0, x.1)) (t, n) e in
      let h = type_spells u inner x.0 x.1 first in
      moved (Ptr x.0) t (value_ok (Ptr x.0) x.1 t n last) (list_one (sym (looked_up_is type_head_word type_heads head PtrHead found)) h.0) h.1
  built_spells head (Some StructHead) (more u no_trees) at inner t n found e =
      let (x, first, last) = bind_ok (name_at inner u) (λ x. Ok (Struct x.0, x.1)) (t, n) e in
      let h = name_spells u inner x.0 x.1 first in
      moved (Struct x.0) t (value_ok (Struct x.0) x.1 t n last) (list_one (sym (looked_up_is type_head_word type_heads head StructHead found)) h.0) h.1
  built_spells head (Some ArrayHead) (more u (more v no_trees)) at inner t n found e =
      let (x, first, others) = bind_ok (type_at inner u) (λ x. natural_at (2 ^ 32) x.1 v >>= λ y. Ok (Array x.0 y.0, y.1)) (t, n) e in
      let (y, second, last) = bind_ok (natural_at (2 ^ 32) x.1 v) (λ y. Ok (Array x.0 y.0, y.1)) (t, n) others in
      let h = type_spells u inner x.0 x.1 first in
      let k = natural_spells (2 ^ 32) v x.1 y.0 y.1 second in
      moved (Array x.0 y.0) t (value_ok (Array x.0 y.0) y.1 t n last) (list_two (sym (looked_up_is type_head_word type_heads head ArrayHead found)) h.0 k.0)
      (and_from (is_type x.0) (nat_lt y.0 (2 ^ 32)) h.1 (lt-ltb y.0 (2 ^ 32) k.1))
  built_spells head None (more u no_trees) at inner t n found e = absurd cc
  built_spells head _ _ at inner t n found e = absurd cc
