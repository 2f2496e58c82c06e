-- A tag is read from its tree, and what is read is the tag whose tree it is.
use Rattle.std.proofs.Common.{◌≡◌, ℕ, Bool, true, false, cond, ◌&&◌, [], ◌∷◌, Option, Some, None, Ok, Err, refl, ap, ap₂, sym, ◌∙◌, if◌then◌else◌}
use Rattle.std.specs.Prelude.{nat_lt, codes, is_some}
use Rattle.std.proofs.lemmas.Bool.{and_parts, and_from, cond-true, cond-false}
use Rattle.c_values.specs.Types.{CType, Void, Array}
use Rattle.c_values.specs.Layout.{Layout, is_object, space}
use Rattle.c_memory.specs.Memory.{Tag}
use Rattle.c_memory.specs.Tags.{is_root_type}
use Rattle.ac_sx.specs.Tree.{Tree, Node}
use Rattle.expression_text.specs.Reading.{Read, next, ◌>>=◌}
use Rattle.expression_text.specs.TypeText.{row, type_tree, is_type}
use Rattle.expression_text.specs.TypeReading.{type_at}
use Rattle.expression_text.proofs.Behind.{behind, IsReadAs, bind_ok, kept_ok, value_ok}
use Rattle.expression_text.proofs.TypesText.{type_reads, type_spells}
use Rattle.memory_text.specs.MemoryText.{tag_tree, is_tag}
use Rattle.memory_text.specs.MemoryReading.{natural_at, parts_behind, tag_type_at, tag_row, tag_at, pair_in}
use Rattle.memory_text.proofs.ListForms.{pair_is}
use Rattle.memory_text.proofs.NumberLaws.{address_small, natural_reads, natural_spells}

no_array : (t : CType) → is_root_type t ≡ true → is_some (parts_behind (codes "array") (type_tree t)) ≡ false
no_array Void is = absurd cc
no_array (Array t n) is = absurd cc
no_array _ _ = refl

abbrev is_tagged : Layout → CType → Bool
is_tagged l t = is_root_type t && is_object l t

abbrev kept : Layout → ℕ → CType × ℕ → Read CType
kept l at x = if is_tagged l x.0 then Ok x else Err at

type_reads_so : (l : Layout) (t : CType) → is_type t ≡ true → is_tagged l t ≡ true → IsReadAs (tag_type_at l) (type_tree t) t
type_reads_so l t is tagged = λ at.
    cond-false (is_some (parts_behind (codes "array") (type_tree t))) (Err at) (type_at at (type_tree t) >>= kept l at) (no_array t (and_parts (is_root_type t) (is_object l t) tagged).0)
    ∙ ap (λ r. r >>= kept l at) (type_reads t is at)
    ∙ cond-true (is_tagged l t) (Ok (t, behind at (type_tree t))) (Err at) tagged

type_spells_so : (l : Layout) (u : Tree) (at : ℕ) (t : CType) (n : ℕ) → tag_type_at l at u ≡ Ok (t, n) → (u ≡ type_tree t) × (is_type t ≡ true) × (is_tagged l t ≡ true)
type_spells_so l u at t n e = by (is_some (parts_behind (codes "array") u)) e
  where
    by : (b : Bool) → cond {A = Read CType} b (Err at) (type_at at u >>= kept l at) ≡ Ok (t, n) → (u ≡ type_tree t) × (is_type t ≡ true) × (is_tagged l t ≡ true)
    by true f = absurd cc
    by false f =
        let (x, first, last) = bind_ok (type_at at u) (kept l at) (t, n) f in
        let p = kept_ok (is_tagged l x.0) x.0 x.1 at t n last in
        let q = type_spells u at x.0 x.1 first in
        (q.0 ∙ ap type_tree p.1, ap is_type (sym p.1) ∙ q.1, ap (is_tagged l) (sym p.1) ∙ p.0)

abbrev tag_with : Layout → ℕ × ℕ → Tree → Read Tag
tag_with l x t = tag_type_at l x.1 t >>= λ y. Ok (record { address = x.0; type = y.0 }, y.1)

pub tag_reads : (l : Layout) (t : Tag) → is_tag l t ≡ true → IsReadAs (tag_at l) (tag_tree t) t
tag_reads l t is = λ at.
    let p = and_parts (nat_lt t.address (space l)) (is_type t.type && is_tagged l t.type) is in
    let q = and_parts (is_type t.type) (is_tagged l t.type) p.1 in
    ap (λ r. r >>= λ x. tag_with l x (type_tree t.type)) (natural_reads (space l) t.address (address_small l.target) p.0 (next at))
    ∙ ap (λ r. r >>= λ y. Ok (record { address = t.address; type = y.0 }, y.1)) (type_reads_so l t.type q.0 q.1 (next (next at)))

pub tag_spells : (l : Layout) (t : Tree) (at : ℕ) (g : Tag) (n : ℕ) → tag_at l at t ≡ Ok (g, n) → (t ≡ tag_tree g) × (is_tag l g ≡ true)
tag_spells l t at g n e = by (pair_in t) refl e
  where
    by : (o : Option (Tree × Tree)) → pair_in t ≡ o → tag_row l at o ≡ Ok (g, n) → (t ≡ tag_tree g) × (is_tag l g ≡ true)
    by None f h = absurd cc
    by (Some (a, u)) f h =
        let (x, first, others) = bind_ok (natural_at (space l) (next at) a) (λ x. tag_with l x u) (g, n) h in
        let (y, second, last) = bind_ok (tag_type_at l x.1 u) (λ y. Ok (record { address = x.0; type = y.0 }, y.1)) (g, n) others in
        let found : Tag = record { address = x.0; type = y.0 } in
        let i = natural_spells (space l) a (next at) x.0 x.1 first in
        let j = type_spells_so l u x.1 y.0 y.1 second in
        let same = value_ok found y.1 g n last in (
          pair_is t (a, u) f ∙ ap₂ (λ v w. Node (row (v ∷ w ∷ []))) i.0 j.0 ∙ ap tag_tree same,
          ap (is_tag l) (sym same) ∙ and_from (nat_lt x.0 (space l)) (is_type y.0 && is_tagged l y.0) i.1 (and_from (is_type y.0) (is_tagged l y.0) j.1 j.2),
        )
