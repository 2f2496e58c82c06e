-- Parts that are stored one after the other.
use Rattle.std.proofs.Common.{◌≡◌, ℕ, zero, suc, ◌+◌, ◌-◌, ◌*◌, ◌/◌, ◌%◌, ◌<◌, ◌≤◌, true, false, List, [], ◌∷◌, drop, Some, None, IsSome, nat_eq, slice_get, pos, refl, sym, ap, ap₂, ◌∙◌, subst, arith}
use Rattle.std.proofs.Math.Nat.{mod-mod, mod-add-mod}
use Rattle.std.specs.HashMap.{get}
use Rattle.std.proofs.lemmas.Bool.{false≢true}
use Rattle.c_values.specs.Word.{Word}
use Rattle.c_values.specs.declared.values.Value as V
use Rattle.c_values.specs.Types.{CType, Integer, Ptr, Struct, Array}
use Rattle.c_values.specs.Value.{Value, Bits, Parts, no_values, more}
use Rattle.c_values.specs.Layout.{Layout, IsLayout, Shape, Incomplete, Scalar, Record, Row, Fields, no_fields, field, size, type_of, is_scalar, is_object, shape_of, size_of}
use Rattle.c_values.specs.Path.{Field, step_spot}
use Rattle.c_values.specs.CodeValue.{value_of}
use Rattle.c_values.proofs.Laid.{IsLaid, structs_of, shape_good, shape_type}
use Rattle.c_values.proofs.Steps.{to_member, to_element}
use Rattle.c_memory.specs.Memory.{with_bytes, store, stored_members, stored_elements}
use Rattle.c_memory.specs.CodePages.{Pages, HasPages, KeepsPages, page_size}
use Rattle.c_values.specs.CodeParts.{values_in, has_parts}
use Rattle.c_memory.proofs.Objects.{object_complete}
use Rattle.c_memory.proofs.Rows.{fields_of, drop_fields, members_next, members_done}
use Rattle.c_memory.proofs.Wrapped.{store_wrapped}

-- the pages of a part are there
pub inner_pages : (space : ℕ) (old new : Pages) (a d n m at : ℕ) → HasPages space old a n → KeepsPages old new → at ≡ (a + d) % space → d + m ≤ n → HasPages space new at m
inner_pages space old new a d n m at has keeps here fits i lt =
    let same : (at + i) % space ≡ (a + (d + i)) % space =
    ap (λ x. (x + i) % space) here ∙ mod-add-mod (a + d) space i ∙ ap (λ x. x % space) (let e : (a + d) + i ≡ a + (d + i) = omega arith in e) in
    keeps (((at + i) % space) / page_size) (subst (λ x. IsSome (get nat_eq old (x / page_size))) (sym same) (has (d + i) (omega arith)))

-- the rest of a list
next_values : (vs : List V.Value) (k : ℕ) (v : V.Value) → slice_get vs k ≡ Some v → values_in (drop k vs) ≡ more (value_of v) (values_in (drop (k + 1) vs))
next_values [] k v h = absurd cc
next_values (w ∷ ws) zero v h = let e : w ≡ v = cc in ap (λ u. more (value_of u) (values_in ws)) e
next_values (w ∷ ws) (suc k) v h =
    let n : suc k + 1 ≡ suc (k + 1) = omega arith in
    next_values ws k v h ∙ ap (λ m. more (value_of v) (values_in (drop m (w ∷ ws)))) (sym n)

last_values : (vs : List V.Value) (k : ℕ) → slice_get vs k ≡ None → values_in (drop k vs) ≡ no_values
last_values [] zero h = refl
last_values [] (suc k) h = refl
last_values (w ∷ ws) zero h = absurd cc
last_values (w ∷ ws) (suc k) h = last_values ws k h

no_parts : (space : ℕ) (fs : Fields) (a : ℕ) (bytes : ℕ → ℕ) → stored_members space fs a no_values bytes ≡ bytes
no_parts space no_fields a bytes = refl
no_parts space (field at s fs) a bytes = refl

no_elements : (f : ℕ → Value → (ℕ → ℕ) → ℕ → ℕ) (step a n : ℕ) (bytes : ℕ → ℕ) → stored_elements f step a n no_values bytes ≡ bytes
no_elements f step a zero bytes = refl
no_elements f step a (suc n) bytes = refl

module _ (space : ℕ) (a : ℕ) (vs : List V.Value) where
  -- one member more
  pub member_stored : (s : Shape) (k offset at : ℕ) (r : Shape) (v : V.Value) (old new first : ℕ → ℕ) →
      stored_members space (drop_fields k (fields_of s)) a (values_in (drop k vs)) old ≡ stored_members space (fields_of s) a (values_in vs) first →
      step_spot s (Field k) ≡ Some (record { offset = pos offset; shape = r }) → slice_get vs k ≡ Some v → at ≡ (a + offset) % space →
      new ≡ store space r at (value_of v) old →
      stored_members space (drop_fields (k + 1) (fields_of s)) a (values_in (drop (k + 1) vs)) new ≡ stored_members space (fields_of s) a (values_in vs) first
  member_stored s k offset at r v old new first before step part here put =
      let same = store_wrapped space r at (a + offset) (value_of v) old (ap (λ n. n % space) here ∙ mod-mod (a + offset) space) in
      ap (λ b. stored_members space (drop_fields (k + 1) (fields_of s)) a (values_in (drop (k + 1) vs)) b) (put ∙ same)
      ∙ sym (ap₂ (λ fs ws. stored_members space fs a ws old) (members_next s k offset r step) (next_values vs k v part))
      ∙ before

  pub members_ended : (s : Shape) (k : ℕ) (old first : ℕ → ℕ) →
      stored_members space (drop_fields k (fields_of s)) a (values_in (drop k vs)) old ≡ stored_members space (fields_of s) a (values_in vs) first →
      step_spot s (Field k) ≡ None → old ≡ stored_members space (fields_of s) a (values_in vs) first
  members_ended s k old first before done = sym (ap (λ fs. stored_members space fs a (values_in (drop k vs)) old) (members_done s k done)) ∙ before

  pub members_cut : (s : Shape) (k : ℕ) (old first : ℕ → ℕ) →
      stored_members space (drop_fields k (fields_of s)) a (values_in (drop k vs)) old ≡ stored_members space (fields_of s) a (values_in vs) first →
      slice_get vs k ≡ None → old ≡ stored_members space (fields_of s) a (values_in vs) first
  members_cut s k old first before none =
      sym (no_parts space (drop_fields k (fields_of s)) a old) ∙ sym (ap (λ ws. stored_members space (drop_fields k (fields_of s)) a ws old) (last_values vs k none)) ∙ before

  struct_stored : (target : _) (structs : _) (s : Shape) (x : _) (bytes : ℕ → ℕ) → IsLaid target structs s → type_of s ≡ Struct x →
      store space s a (Parts (values_in vs)) bytes ≡ stored_members space (fields_of s) a (values_in vs) bytes
  struct_stored target structs Incomplete x bytes h e = absurd h
  struct_stored target structs (Row r n) x bytes h e = absurd cc
  struct_stored _ _ _ _ _ _ _ = refl

  pub struct_is_stored : (l : Layout) (x : _) (bytes : ℕ → ℕ) → IsLayout l → is_object l (Struct x) ≡ true →
      stored_members space (fields_of (shape_of l (Struct x))) a (values_in vs) bytes ≡ store space (shape_of l (Struct x)) a (Parts (values_in vs)) bytes
  struct_is_stored l x bytes h object =
      let complete = object_complete l (Struct x) object in
      sym (struct_stored l.target (structs_of l) (shape_of l (Struct x)) x bytes (shape_good l h (Struct x) complete).laid (shape_type l h (Struct x) complete))

  -- one element more
  pub element_stored : (e : Shape) (n i at : ℕ) (v : V.Value) (old new first : ℕ → ℕ) → i < n →
      stored_elements (λ b v bs. store space e b v bs) (size e) (a + i * size e) (n - i) (values_in (drop i vs)) old
      ≡ stored_elements (λ b v bs. store space e b v bs) (size e) a n (values_in vs) first →
      slice_get vs i ≡ Some v → at ≡ (a + i * size e) % space → new ≡ store space e at (value_of v) old →
      stored_elements (λ b v bs. store space e b v bs) (size e) (a + (i + 1) * size e) (n - (i + 1)) (values_in (drop (i + 1) vs)) new
      ≡ stored_elements (λ b v bs. store space e b v bs) (size e) a n (values_in vs) first
  element_stored e n i at v old new first lt before part here put =
      let f = λ (b : ℕ) (w : Value) (bs : ℕ → ℕ). store space e b w bs in
      let same = store_wrapped space e at (a + i * size e) (value_of v) old (ap (λ m. m % space) here ∙ mod-mod (a + i * size e) space) in
      let one : n - i ≡ suc (n - (i + 1)) = omega arith in
      let next : a + (i + 1) * size e ≡ (a + i * size e) + size e = grind arith in
      ap₂ (λ x b. stored_elements (λ b v bs. store space e b v bs) (size e) x (n - (i + 1)) (values_in (drop (i + 1) vs)) b) next (put ∙ same)
      ∙ sym (ap₂ (λ m ws. stored_elements (λ b v bs. store space e b v bs) (size e) (a + i * size e) m ws old) one (next_values vs i v part))
      ∙ before

  pub elements_cut : (e : Shape) (n i : ℕ) (old first : ℕ → ℕ) →
      stored_elements (λ b v bs. store space e b v bs) (size e) (a + i * size e) (n - i) (values_in (drop i vs)) old
      ≡ stored_elements (λ b v bs. store space e b v bs) (size e) a n (values_in vs) first →
      slice_get vs i ≡ None → old ≡ stored_elements (λ b v bs. store space e b v bs) (size e) a n (values_in vs) first
  elements_cut e n i old first before none =
      sym (no_elements (λ b v bs. store space e b v bs) (size e) (a + i * size e) (n - i) old)
      ∙ sym (ap (λ ws. stored_elements (λ b v bs. store space e b v bs) (size e) (a + i * size e) (n - i) ws old) (last_values vs i none))
      ∙ before

pub member_within : (l : Layout) (x : _) (k o : ℕ) (u : CType) → IsLayout l → is_object l (Struct x) ≡ true →
    step_spot (shape_of l (Struct x)) (Field k) ≡ Some (record { offset = pos o; shape = shape_of l u }) → o + size_of l u ≤ size_of l (Struct x)
member_within l x k o u h object e = (to_member l x k o u h object e).within

pub element_within : (l : Layout) (u : CType) (n i : ℕ) → IsLayout l → is_object l (Array u n) ≡ true → i < n → i * size_of l u + size_of l u ≤ size_of l (Array u n)
element_within l u n i h object lt = (to_element l u n i h object lt).within

-- a word
pub word_stored : (l : Layout) (t : CType) (space a : ℕ) (w : Word) (bytes : ℕ → ℕ) → is_scalar t ≡ true → store space (shape_of l t) a (Bits w) bytes ≡ with_bytes space a (size_of l t) w.bits bytes
word_stored l (Integer i) space a w bytes h = refl
word_stored l (Ptr t) space a w bytes h = refl
word_stored _ _ _ _ _ _ h = absurd (false≢true h)

-- what has no parts isn't stored in a struct or an array
pub whole_stored : (l : Layout) (t : CType) (space a : ℕ) (v : Value) (bytes : ℕ → ℕ) → IsLayout l → is_object l t ≡ true → is_scalar t ≡ false → has_parts v ≡ false →
    store space (shape_of l t) a v bytes ≡ bytes
whole_stored l t space a v bytes h object whole none = by_shape (shape_of l t) (shape_good l h t (object_complete l t object)).laid (shape_type l h t (object_complete l t object)) v none
  where
    by_shape : (s : Shape) → IsLaid l.target (structs_of l) s → type_of s ≡ t → (w : Value) → has_parts w ≡ false → store space s a w bytes ≡ bytes
    by_shape (Scalar u width) i e w k = absurd (false≢true (sym whole ∙ ap is_scalar (sym e) ∙ i.scalar))
    by_shape (Record x n align fs) i e (Parts ws) k = absurd (false≢true (sym k))
    by_shape (Row r n) i e (Parts ws) k = absurd (false≢true (sym k))
    by_shape _ _ _ _ _ = refl
