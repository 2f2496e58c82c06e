-- Parts that are loaded one after the other.
use Rattle.std.proofs.Common.{◌≡◌, ℕ, zero, suc, ◌+◌, ◌*◌, ◌%◌, true, List, [], ◌∷◌, ◌++◌, Some, None, pos, refl, sym, ap, ap₂, ◌∙◌, arith}
use Rattle.std.proofs.Math.Nat.{mod-mod}
use Rattle.c_values.specs.declared.values.Value as V
use Rattle.c_values.specs.Types.{Struct}
use Rattle.c_values.specs.Value.{Value, Parts, no_values, more}
use Rattle.c_values.specs.Layout.{Layout, Shape, Incomplete, Scalar, Record, Row, size, type_of, is_scalar, is_object, IsLayout, shape_of}
use Rattle.c_values.specs.Path.{Field, step_spot}
use Rattle.c_values.specs.CodeValue.{value_of}
use Rattle.c_memory.specs.Memory.{load, loaded_members, loaded_elements}
use Rattle.c_values.specs.CodeParts.{values_in, joined}
use Rattle.c_values.proofs.Joined.{joined-no_values, joined-push, values_in-push}
use Rattle.c_memory.proofs.Rows.{fields_of, drop_fields, members_next, members_done}
use Rattle.c_memory.proofs.Wrapped.{load_wrapped}
use Rattle.c_memory.proofs.Objects.{object_complete}
use Rattle.c_values.proofs.Laid.{IsLaid, structs_of, shape_good, shape_type}
use Rattle.std.proofs.lemmas.Bool.{false≢true}

loaded_elements-more : (f : ℕ → Value) (step a i : ℕ) → loaded_elements f step a (i + 1) ≡ joined (loaded_elements f step a i) (more (f (a + i * step)) no_values)
loaded_elements-more f step a zero = let e : a ≡ a + 0 * step = omega arith in ap (λ b. more (f b) no_values) e
loaded_elements-more f step a (suc i) =
    let n : suc i + 1 ≡ suc (i + 1) = omega arith in
    let b : a + step + i * step ≡ a + suc i * step = grind arith in
    ap (λ k. loaded_elements f step a k) n
    ∙ ap (λ vs. more (f a) vs) (loaded_elements-more f step (a + step) i ∙ ap (λ c. joined (loaded_elements f step (a + step) i) (more (f c) no_values)) b)

module _ (space : ℕ) (bytes : ℕ → ℕ) (a : ℕ) where
  -- one element more
  pub element_loaded : (e : Shape) (i at : ℕ) (xs : List V.Value) (v : V.Value) → values_in xs ≡ loaded_elements (λ b. load space bytes e b) (size e) a i →
      at ≡ (a + i * size e) % space → value_of v ≡ load space bytes e at → values_in (xs ++ v ∷ []) ≡ loaded_elements (λ b. load space bytes e b) (size e) a (i + 1)
  element_loaded e i at xs v before here is =
      let same = load_wrapped space bytes e at (a + i * size e) (ap (λ n. n % space) here ∙ mod-mod (a + i * size e) space) in
      values_in-push xs v
      ∙ ap₂ (λ vs w. joined vs (more w no_values)) before (is ∙ same)
      ∙ sym (loaded_elements-more (λ b. load space bytes e b) (size e) a i)

  -- one member more
  pub member_loaded : (s : Shape) (k offset at : ℕ) (r : Shape) (xs : List V.Value) (v : V.Value) →
      joined (values_in xs) (loaded_members space bytes (drop_fields k (fields_of s)) a) ≡ loaded_members space bytes (fields_of s) a →
      step_spot s (Field k) ≡ Some (record { offset = pos offset; shape = r }) → at ≡ (a + offset) % space → value_of v ≡ load space bytes r at →
      joined (values_in (xs ++ v ∷ [])) (loaded_members space bytes (drop_fields (k + 1) (fields_of s)) a) ≡ loaded_members space bytes (fields_of s) a
  member_loaded s k offset at r xs v before step here is =
      let same = load_wrapped space bytes r at (a + offset) (ap (λ n. n % space) here ∙ mod-mod (a + offset) space) in
      joined-push xs v (loaded_members space bytes (drop_fields (k + 1) (fields_of s)) a)
      ∙ ap (λ w. joined (values_in xs) (more w (loaded_members space bytes (drop_fields (k + 1) (fields_of s)) a))) (is ∙ same)
      ∙ ap (λ fs. joined (values_in xs) (loaded_members space bytes fs a)) (sym (members_next s k offset r step))
      ∙ before

  struct_loaded : (target : _) (structs : _) (s : Shape) (x : _) → IsLaid target structs s → type_of s ≡ Struct x → load space bytes s a ≡ Parts (loaded_members space bytes (fields_of s) a)
  struct_loaded target structs Incomplete x h e = absurd h
  struct_loaded target structs (Scalar t width) x h e = absurd (false≢true (sym (ap is_scalar e) ∙ h.scalar))
  struct_loaded target structs (Record y n align fs) x h e = refl
  struct_loaded target structs (Row r n) x h e = absurd cc

  -- all members
  pub members_loaded : (l : Layout) (x : _) (k : ℕ) (xs : List V.Value) → IsLayout l → is_object l (Struct x) ≡ true →
      joined (values_in xs) (loaded_members space bytes (drop_fields k (fields_of (shape_of l (Struct x)))) a) ≡ loaded_members space bytes (fields_of (shape_of l (Struct x))) a →
      step_spot (shape_of l (Struct x)) (Field k) ≡ None → Parts (values_in xs) ≡ load space bytes (shape_of l (Struct x)) a
  members_loaded l x k xs h object before done =
      let s = shape_of l (Struct x) in
      let complete = object_complete l (Struct x) object in
      ap (λ vs. Parts vs) (sym (joined-no_values (values_in xs)) ∙ ap (λ fs. joined (values_in xs) (loaded_members space bytes fs a)) (sym (members_done s k done)) ∙ before)
      ∙ sym (struct_loaded l.target (structs_of l) s x (shape_good l h (Struct x) complete).laid (shape_type l h (Struct x) complete))
