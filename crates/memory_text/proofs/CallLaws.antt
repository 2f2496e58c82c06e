-- A call is read from its tree, and what is read is the call whose tree it is.
use Rattle.std.proofs.Common.{◌≡◌, ℕ, true, Option, Some, None, Ok, refl, ap, ap₂, sym, ◌∙◌}
use Rattle.std.specs.Prelude.{codes}
use Rattle.std.specs.Option.{option_map}
use Rattle.std.proofs.lemmas.Bool.{and_parts, and_from}
use Rattle.c_values.specs.Name.{Name}
use Rattle.c_values.specs.Value.{Values}
use Rattle.c_lang.specs.Typed.{TypedFn, TypedUnit, typed_fn}
use Rattle.ac_sx.specs.Tree.{Tree, Trees, Atom, Node, no_trees, more}
use Rattle.ac_sx.specs.CodeSx.{first_of}
use Rattle.expression_text.specs.Reading.{next, ◌>>=◌, made}
use Rattle.expression_text.specs.Names.{is_name, name_at}
use Rattle.expression_text.proofs.Behind.{all_behind, IsReadAs, bind_ok}
use Rattle.expression_text.proofs.TypesText.{name_reads, name_spells}
use Rattle.memory_text.specs.ValueText.{value_trees, where_parts, are_values}
use Rattle.memory_text.specs.ValueReading.{counted, values_at}
use Rattle.memory_text.specs.MemoryText.{call_tree, parameter_shapes, is_call}
use Rattle.memory_text.specs.MemoryReading.{parts_behind, call_of, call_row, call_from, call_at}
use Rattle.memory_text.proofs.ListForms.{behind_itself, behind_is}
use Rattle.memory_text.proofs.ValueLaws.{as_many, counted_as, counted_ok, made_ok, values_read, values_spell}

module _ (u : TypedUnit) where
  abbrev fitting : Option TypedFn → Values → Type 0
  fitting o vs = where_parts (option_map (parameter_shapes u.layout) o) (λ ss. are_values u.layout.target ss vs) ≡ true

  call_of_reads : (at inner : ℕ) (x : Name × ℕ) (vs : Values) (o : Option TypedFn) → fitting o vs → call_of u.layout at inner x (value_trees vs) o ≡ Ok ((x.0, vs), all_behind x.1 (value_trees vs))
  call_of_reads at inner x vs None h = absurd cc
  call_of_reads at inner x vs (Some f) h =
      let ss = parameter_shapes u.layout f in
      ap (made (λ ws. (x.0, ws))) (counted_as at (value_trees vs) ss (λ rs. values_at u.layout.target rs x.1 (value_trees vs)) (as_many u.layout.target ss vs h) ∙ values_read u.layout.target ss vs h x.1)

  pub call_reads : (f : Name) (vs : Values) → is_call u f vs ≡ true → IsReadAs (call_at u) (call_tree f vs) (f, vs)
  call_reads f vs is = λ at.
      let p = and_parts (is_name f) (where_parts (option_map (parameter_shapes u.layout) (typed_fn u.functions f)) (λ ss. are_values u.layout.target ss vs)) is in
      let inner = next (next at) in
      ap (call_from u at) (behind_itself (codes "call") (more (Atom f) (value_trees vs)))
      ∙ ap (λ r. r >>= λ x. call_of u.layout at inner x (value_trees vs) (typed_fn u.functions x.0)) (name_reads f p.0 inner)
      ∙ call_of_reads at inner (f, next inner) vs (typed_fn u.functions f) p.1

  abbrev IsCall : Tree → Name × Values → Type 0
  IsCall t p = (t ≡ call_tree p.0 p.1) × (is_call u p.0 p.1 ≡ true)

  call_moved : (t : Tree) (p q : Name × Values) → p ≡ q → IsCall t p → IsCall t q
  call_moved t p q same is = (is.0 ∙ ap (λ (r : Name × Values). call_tree r.0 r.1) same, ap (λ (r : Name × Values). is_call u r.0 r.1) (sym same) ∙ is.1)

  call_of_spells : (t : Tree) (at inner : ℕ) (a : Tree) (ts : Trees) (x : Name × ℕ) (p : Name × Values) (n : ℕ) (o : Option TypedFn) → t ≡ Node (more (Atom (codes "call")) (more a ts)) → name_at inner a ≡ Ok x → typed_fn u.functions x.0 ≡ o →
      call_of u.layout at inner x ts o ≡ Ok (p, n) → IsCall t p
  call_of_spells t at inner a ts x p n None f i j k = absurd cc
  call_of_spells t at inner a ts x p n (Some g) f i j k =
      let ss = parameter_shapes u.layout g in
      let (vs, read, same) = made_ok (λ ws. (x.0, ws)) (counted at ts (Some ss) (λ rs. values_at u.layout.target rs x.1 ts)) p n k in
      let q = values_spell u.layout.target ss ts x.1 vs n (counted_ok at ts ss (λ rs. values_at u.layout.target rs x.1 ts) vs n read) in
      let h = name_spells a inner x.0 x.1 i in
      call_moved t (x.0, vs) p same (
        f ∙ ap₂ (λ b us. Node (more (Atom (codes "call")) (more b us))) h.0 q.0,
        and_from (is_name x.0) (where_parts (option_map (parameter_shapes u.layout) (typed_fn u.functions x.0)) (λ rs. are_values u.layout.target rs vs)) h.1
            (ap (λ o. where_parts (option_map (parameter_shapes u.layout) o) (λ rs. are_values u.layout.target rs vs)) j ∙ q.1),
      )

  pub call_spells : (t : Tree) (at : ℕ) (p : Name × Values) (n : ℕ) → call_at u at t ≡ Ok (p, n) → IsCall t p
  call_spells t at p n e = by_parts (parts_behind (codes "call") t) refl e
    where
      by_first : (ts : Trees) → parts_behind (codes "call") t ≡ Some ts → call_row u at (first_of ts) ≡ Ok (p, n) → IsCall t p
      by_first no_trees f k = absurd cc
      by_first (more a ts) f k =
          let (x, first, others) = bind_ok (name_at (next (next at)) a) (λ x. call_of u.layout at (next (next at)) x ts (typed_fn u.functions x.0)) (p, n) k in
          call_of_spells t at (next (next at)) a ts x p n (typed_fn u.functions x.0) (behind_is (codes "call") t (more a ts) f) first refl others

      by_parts : (o : Option Trees) → parts_behind (codes "call") t ≡ o → call_from u at o ≡ Ok (p, n) → IsCall t p
      by_parts None f k = absurd cc
      by_parts (Some ts) f k = by_first ts f k
