-- Generation is exact for expressions, places and paths, by induction on the three at once.
use Rattle.std.proofs.Common.{◌≡◌, Bool, true, false, not, ◌&&◌, List, [], ◌∷◌, Option, Some, Ok, cond, pos, neg_ℤ, ◌*ℤ◌, refl, sym, ap, ap₂, ◌∙◌, subst}
use Rattle.std.proofs.lemmas.Bool.{and_parts}
use Rattle.c_values.specs.Name.{Name, same_name}
use Rattle.c_values.specs.Types.{CType, Integer, Ptr, address_width, same_type, width_of}
use Rattle.c_values.specs.Value.{Bits, word_in}
use Rattle.c_values.specs.Word.{word_unary, Wnot}
use Rattle.c_values.specs.Layout.{Layout, IsLayout, shape_of, size_of, is_object, is_scalar, global_type}
use Rattle.c_values.specs.Path.{Field, Index, Spot, spot, IsBits, HasShape}
use Rattle.c_values.proofs.Leads.{leads_spot}
use Rattle.expression_lang.specs.Evaluation.{Env, State, moved, moved_to}
use Rattle.expression_lang.specs.Evaluation as E
use Rattle.expression_lang.specs.Expression as X
use Rattle.expression_lang.specs.Sort.{Level}
use Rattle.c_lang.specs.Typed as C
use Rattle.c_lang.specs.WellTyped.{Scope, variable_type, is_type, has_type, has_scalar_type, has_integer_type, is_typed, is_typed_place, are_typed_indices, is_typed_at, is_in_memory, is_array_of, shape_along, shape_in, leads_to, are_globals, are_variables, is_own_name}
use Rattle.c_meaning.specs.CValue as V
use Rattle.c_meaning.specs.CValue.{Context, Located, accessible, address_of, located, indexed, value, int_of, is_true, number_at, number_of_type, converted, combined, compares, equates, fitted, computed, shifted, signed_offset, value_at}
use Rattle.generation.specs.Guards.{exp, truth, address, is_not_zero, path_of, guards, place_guards, index_guards, accesses, computes, fits, shifts, number}
use Rattle.generation.specs.Refused.{refused}
use Rattle.c_meaning.specs.Fitting.{IsOfType}
use Rattle.expression_lang.specs.States.{IsState}
use Rattle.generation.proofs.ExactValue.{IsValueOf, IsExactValue, IsAt, IsExactPlace}
use Rattle.generation.proofs.FirstRefused.{same_made, same_bind, same_both, same_pair}
use Rattle.expression_lang.proofs.Filled.{word_fits}
use Rattle.generation.proofs.ExactTruth.{scalar_shaped, plain_value}
use Rattle.generation.proofs.ExactPlaces.{context_of, IsExactPath, access_exact, content_exact, through_exact, in_global_exact}
use Rattle.generation.proofs.ExactOperations.{moved_fits, own_number, converted_value, null_value, complement_value, negated, computed_value, combined_value, compared_value, shifted_value, equated_value, moved_value, moved_by_value}
use Rattle.generation.proofs.ExactChoices.{not_value, and_exact, or_exact, choose_exact}
use Rattle.generation.proofs.ExactMachines.{is_declared}

variable_scalar : (vs : List C.Variable) (x : Name) (t : CType) → are_variables vs ≡ true → variable_type vs x ≡ Some t → is_scalar t ≡ true
variable_scalar [] x t h e = absurd cc
variable_scalar (v ∷ vs) x t h e =
    let p = and_parts (is_scalar v.type && is_own_name v.name) (are_variables vs) h in
    by_name (same_name v.name x) e (and_parts (is_scalar v.type) (is_own_name v.name) p.0).0 (variable_scalar vs x t p.1)
  where
    by_name : (b : Bool) → cond b (Some v.type) (variable_type vs x) ≡ Some t → is_scalar v.type ≡ true → (variable_type vs x ≡ Some t → is_scalar t ≡ true) → is_scalar t ≡ true
    by_name true e h rest = let same : v.type ≡ t = cc in subst (λ u. is_scalar u ≡ true) same h
    by_name false e h rest = rest e

address_fits : (l : Layout) (p : _) (o : Option Spot) (q : Spot) → o ≡ Some q → IsBits (address_width l.target) (moved_to l p o)
address_fits l p o q e = subst (λ x. IsBits (address_width l.target) (moved_to l p x)) (sym e) (moved_fits l p q.offset)

module _ (g : Scope) (level : Level) (locals : Env) (s : State) (env : Env) (layout : IsLayout g.layout) (globals : are_globals g.layout g.globals ≡ true) (variables : are_variables g.variables ≡ true)
    (fits_locals : (x : Name) (t : CType) → variable_type g.variables x ≡ Some t → IsOfType g.layout t (locals x)) (state : IsState g.layout g.globals s)
    (agree : (x : Name) (t : CType) → variable_type g.variables x ≡ Some t → env x ≡ locals x) where
  abbrev c : Context
  c = context_of g level locals s

  abbrev l : Layout
  l = g.layout

  local_exact : (x : Name) (t : CType) → is_type (variable_type g.variables x) t ≡ true → IsExactValue g c env (C.Local x t)
  local_exact x t h =
      let found = is_declared (variable_type g.variables x) t h in
      (refl, plain_value l env s (C.Local x t) (locals x) refl (agree x t found) (scalar_shaped l t (locals x) (variable_scalar g.variables x t variables found) (fits_locals x t found)))

  content_value : (p : C.Place) → IsExactPlace g c env p → IsExactValue g c env (C.Value p)
  content_value p h =
      same_bind l env s (located c p) (λ w. accessible c w (Ok (V.content c w))) (place_guards l level p) (accesses l level p) (IsAt g env s p) (IsValueOf l env s (C.Value p)) h
      (λ w at. let is = content_exact g level locals s env layout state p w at in
      access_exact g level locals s env p w (V.content c w) (IsValueOf l env s (C.Value p)) at (plain_value l env s (C.Value p) (V.content c w) refl is.0 is.1))

  -- a pointer to a place in memory
  address_value : (e : C.Expr) (r : CType) (t : CType) (p : C.Expr) (path : C.Path) (u : CType) → exp l e ≡ address l (C.Through t p path u) → truth l e ≡ is_not_zero l.target (C.type_of e) (exp l e) → C.type_of e ≡ Ptr r →
      (w : Located) → IsAt g env s (C.Through t p path u) w → IsValueOf l env s e (address_of c w)
  address_value e r t p path u is zero type w at =
      let ps = E.steps l env s (path_of l path) in
      plain_value l env s e (address_of c w) zero (ap (E.value l env s) is ∙ ap (address_of c) (sym at.is))
      (subst (λ y. HasShape (shape_of l y) (address_of c w)) (sym type) (subst (λ x. IsBits (address_width l.target) (address_of c x)) (sym at.is)
      (address_fits l (word_in (E.value l env s (exp l p))) (spot (shape_of l t) ps) (record { offset = pos at.ends.at; shape = shape_of l u }) (leads_spot at.ends.leads))))

  address_exact : (p : C.Place) (t : CType) → is_in_memory p ≡ true → IsExactPlace g c env p → IsExactValue g c env (C.Address p t)
  address_exact (C.Through r a path u) t m h =
      same_made (located c (C.Through r a path u)) (address_of c) (refused l env s (place_guards l level (C.Through r a path u))) (IsAt g env s (C.Through r a path u)) (IsValueOf l env s (C.Address (C.Through r a path u) t)) h
      (address_value (C.Address (C.Through r a path u) t) t r a path u refl refl refl)
  address_exact (C.InGlobal x path u) t m h = absurd cc

  decay_exact : (p : C.Place) (t : CType) → is_in_memory p ≡ true → IsExactPlace g c env p → IsExactValue g c env (C.Decay p t)
  decay_exact (C.Through r a path u) t m h =
      same_made (located c (C.Through r a path u)) (address_of c) (refused l env s (place_guards l level (C.Through r a path u))) (IsAt g env s (C.Through r a path u)) (IsValueOf l env s (C.Decay (C.Through r a path u) t)) h
      (address_value (C.Decay (C.Through r a path u) t) t r a path u refl refl refl)
  decay_exact (C.InGlobal x path u) t m h = absurd cc

  mutual
    pub value_exact : (e : C.Expr) → is_typed g e ≡ true → IsExactValue g c env e
    value_exact (C.Constant i n) h = (refl, plain_value l env s (C.Constant i n) (value_at l i n) refl refl (word_fits (width_of l.target i) n))
    value_exact (C.Local x t) h = local_exact x t h
    value_exact (C.Value p) h = content_value p (place_exact p h)
    value_exact (C.Convert t a) h =
        let p = and_parts (is_scalar t) (has_scalar_type a && is_typed g a) h in
        let q = and_parts (has_scalar_type a) (is_typed g a) p.1 in
        same_made (value c a) (converted l t (C.type_of a)) (refused l env s (guards l level a)) (IsValueOf l env s a) (IsValueOf l env s (C.Convert t a)) (value_exact a q.1)
        (λ v is. converted_value l env s t a v p.0 q.0 is)
    value_exact (C.ConvertNull t a) h =
        let p = and_parts (is_scalar t) (has_scalar_type a && is_typed g a) h in
        let q = and_parts (has_scalar_type a) (is_typed g a) p.1 in
        same_made (value c a) (converted l t (C.type_of a)) (refused l env s (guards l level a)) (IsValueOf l env s a) (IsValueOf l env s (C.ConvertNull t a)) (value_exact a q.1)
        (λ v is. null_value l env s t a v p.0 q.0 is)
    value_exact (C.Negate i a) h =
        let p = and_parts (has_type (Integer i) a) (is_typed g a) h in
        same_bind l env s (value c a) (λ v. fitted l level i (neg_ℤ (number_at i v))) (guards l level a) (fits l.target level i (X.Negate (number (Integer i) (exp l a)))) (IsValueOf l env s a) (IsValueOf l env s (C.Negate i a)) (value_exact a p.1)
        (λ v is. negated l env s level i a v p.0 is)
    value_exact (C.Complement i a) h =
        let p = and_parts (has_type (Integer i) a) (is_typed g a) h in
        same_made (value c a) (λ v. Bits (word_unary Wnot (word_in v))) (refused l env s (guards l level a)) (IsValueOf l env s a) (IsValueOf l env s (C.Complement i a)) (value_exact a p.1)
        (λ v is. complement_value l env s i a v p.0 is)
    value_exact (C.Compute op i a b) h =
        let p = and_parts (is_typed_at g (Integer i) a) (is_typed_at g (Integer i) b) h in
        let q = and_parts (has_type (Integer i) a) (is_typed g a) p.0 in
        let r = and_parts (has_type (Integer i) b) (is_typed g b) p.1 in
        same_both l env s (value c a) (value c b) (λ v w. computed l level i op (number_at i v) (number_at i w)) (guards l level a) (guards l level b) (computes l.target level i op (exp l a) (exp l b))
        (IsValueOf l env s a) (IsValueOf l env s b) (IsValueOf l env s (C.Compute op i a b)) (value_exact a q.1) (value_exact b r.1)
        (λ v w is is'. computed_value l env s a b v w is is' i q.0 r.0 level op)
    value_exact (C.Combine op i a b) h =
        let p = and_parts (is_typed_at g (Integer i) a) (is_typed_at g (Integer i) b) h in
        let q = and_parts (has_type (Integer i) a) (is_typed g a) p.0 in
        let r = and_parts (has_type (Integer i) b) (is_typed g b) p.1 in
        same_pair l env s (value c a) (value c b) (λ v w. combined op (word_in v) (word_in w)) (guards l level a) (guards l level b)
        (IsValueOf l env s a) (IsValueOf l env s b) (IsValueOf l env s (C.Combine op i a b)) (value_exact a q.1) (value_exact b r.1)
        (λ v w is is'. combined_value l env s a b v w is is' i q.0 r.0 op)
    value_exact (C.Shift d i a b) h =
        let p = and_parts (is_typed_at g (Integer i) a) (has_integer_type b && is_typed g b) h in
        let q = and_parts (has_type (Integer i) a) (is_typed g a) p.0 in
        let r = and_parts (has_integer_type b) (is_typed g b) p.1 in
        same_both l env s (value c a) (value c b) (λ v w. shifted l i d (number_at i v) (number_of_type (C.type_of b) w)) (guards l level a) (guards l level b) (shifts l.target i d (exp l a) (number (C.type_of b) (exp l b)))
        (IsValueOf l env s a) (IsValueOf l env s b) (IsValueOf l env s (C.Shift d i a b)) (value_exact a q.1) (value_exact b r.1)
        (λ v w is is'. shifted_value l env s a b v w is is' i d q.0)
    value_exact (C.Compare r i a b) h =
        let p = and_parts (is_typed_at g (Integer i) a) (is_typed_at g (Integer i) b) h in
        let q = and_parts (has_type (Integer i) a) (is_typed g a) p.0 in
        let t = and_parts (has_type (Integer i) b) (is_typed g b) p.1 in
        same_pair l env s (value c a) (value c b) (λ v w. int_of l (compares r (number_at i v) (number_at i w))) (guards l level a) (guards l level b)
        (IsValueOf l env s a) (IsValueOf l env s b) (IsValueOf l env s (C.Compare r i a b)) (value_exact a q.1) (value_exact b t.1)
        (λ v w is is'. compared_value l env s a b v w is is' i q.0 t.0 r)
    value_exact (C.Equate e t a b) h =
        let p = and_parts (is_scalar t && is_typed_at g t a) (is_typed_at g t b) h in
        let o = and_parts (is_scalar t) (is_typed_at g t a) p.0 in
        let q = and_parts (has_type t a) (is_typed g a) o.1 in
        let r = and_parts (has_type t b) (is_typed g b) p.1 in
        same_pair l env s (value c a) (value c b) (λ v w. int_of l (equates e (number_of_type t v) (number_of_type t w))) (guards l level a) (guards l level b)
        (IsValueOf l env s a) (IsValueOf l env s b) (IsValueOf l env s (C.Equate e t a b)) (value_exact a q.1) (value_exact b r.1)
        (λ v w is is'. equated_value l env s a b v w is is' e t o.0 q.0 r.0)
    value_exact (C.Not a) h =
        let p = and_parts (has_scalar_type a) (is_typed g a) h in
        same_made (value c a) (λ v. int_of l (not (is_true v))) (refused l env s (guards l level a)) (IsValueOf l env s a) (IsValueOf l env s (C.Not a)) (value_exact a p.1)
        (λ v is. not_value l env s a v p.0 is)
    value_exact (C.And a b) h =
        let p = and_parts (has_scalar_type a && is_typed g a) (has_scalar_type b && is_typed g b) h in
        let q = and_parts (has_scalar_type a) (is_typed g a) p.0 in
        let r = and_parts (has_scalar_type b) (is_typed g b) p.1 in
        and_exact l env s a b (value c a) (value c b) (guards l level a) (guards l level b) q.0 r.0 (value_exact a q.1) (value_exact b r.1)
    value_exact (C.Or a b) h =
        let p = and_parts (has_scalar_type a && is_typed g a) (has_scalar_type b && is_typed g b) h in
        let q = and_parts (has_scalar_type a) (is_typed g a) p.0 in
        let r = and_parts (has_scalar_type b) (is_typed g b) p.1 in
        or_exact l env s a b (value c a) (value c b) (guards l level a) (guards l level b) q.0 r.0 (value_exact a q.1) (value_exact b r.1)
    value_exact (C.Choose t e a b) h =
        let p = and_parts (is_scalar t && (has_scalar_type e && is_typed g e) && is_typed_at g t a) (is_typed_at g t b) h in
        let o = and_parts (is_scalar t && (has_scalar_type e && is_typed g e)) (is_typed_at g t a) p.0 in
        let x = and_parts (is_scalar t) (has_scalar_type e && is_typed g e) o.0 in
        let y = and_parts (has_scalar_type e) (is_typed g e) x.1 in
        let q = and_parts (has_type t a) (is_typed g a) o.1 in
        let r = and_parts (has_type t b) (is_typed g b) p.1 in
        choose_exact l env s t e a b (value c e) (value c a) (value c b) (guards l level e) (guards l level a) (guards l level b) y.0 q.0 r.0 (value_exact e y.1) (value_exact a q.1) (value_exact b r.1)
    value_exact (C.Move d t a b) h =
        let p = and_parts (is_object l t && is_typed_at g (Ptr t) a) (has_integer_type b && is_typed g b) h in
        let q = and_parts (has_type (Ptr t) a) (is_typed g a) (and_parts (is_object l t) (is_typed_at g (Ptr t) a) p.0).1 in
        let r = and_parts (has_integer_type b) (is_typed g b) p.1 in
        same_pair l env s (value c a) (value c b) (λ v w. moved l (word_in v) (pos (size_of l t) *ℤ signed_offset d (number_of_type (C.type_of b) w))) (guards l level a) (guards l level b)
        (IsValueOf l env s a) (IsValueOf l env s b) (IsValueOf l env s (C.Move d t a b)) (value_exact a q.1) (value_exact b r.1)
        (λ v w is is'. moved_value l env s a b v w is is' d t)
    value_exact (C.MoveBy t a b) h =
        let p = and_parts (is_object l t && (has_integer_type a && is_typed g a)) (is_typed_at g (Ptr t) b) h in
        let q = and_parts (has_integer_type a) (is_typed g a) (and_parts (is_object l t) (has_integer_type a && is_typed g a) p.0).1 in
        let r = and_parts (has_type (Ptr t) b) (is_typed g b) p.1 in
        same_pair l env s (value c a) (value c b) (λ v w. moved l (word_in w) (pos (size_of l t) *ℤ number_of_type (C.type_of a) v)) (guards l level a) (guards l level b)
        (IsValueOf l env s a) (IsValueOf l env s b) (IsValueOf l env s (C.MoveBy t a b)) (value_exact a q.1) (value_exact b r.1)
        (λ v w is is'. moved_by_value l env s a b v w is is' t)
    value_exact (C.Address p t) h =
        let q = and_parts (is_in_memory p) (is_typed_place g p) (and_parts (is_in_memory p && is_typed_place g p) (same_type (C.place_type p) t) h).0 in
        address_exact p t q.0 (place_exact p q.1)
    value_exact (C.Decay p t) h =
        let q = and_parts (is_in_memory p) (is_typed_place g p) (and_parts (is_in_memory p && is_typed_place g p) (is_array_of t (C.place_type p)) h).0 in
        decay_exact p t q.0 (place_exact p q.1)

    pub place_exact : (p : C.Place) → is_typed_place g p ≡ true → IsExactPlace g c env p
    place_exact (C.Through t a path u) h =
        let p = and_parts (is_object l t && is_typed_at g (Ptr t) a && are_typed_indices g path) (leads_to (shape_along (Some (shape_of l t)) path) u) h in
        let q = and_parts (is_object l t && is_typed_at g (Ptr t) a) (are_typed_indices g path) p.0 in
        let r = and_parts (is_object l t) (is_typed_at g (Ptr t) a) q.0 in
        let x = and_parts (has_type (Ptr t) a) (is_typed g a) r.1 in
        through_exact g level locals s env layout state t a path u r.0 p.1 (value_exact a x.1) (path_exact path q.1)
    place_exact (C.InGlobal x path u) h =
        let p = and_parts (are_typed_indices g path) (leads_to (shape_along (shape_in l (global_type g.globals x)) path) u) h in
        in_global_exact g level locals s env layout state x path u globals p.1 (path_exact path p.0)

    path_exact : (path : C.Path) → are_typed_indices g path ≡ true → IsExactPath g c env path
    path_exact C.Here h = (refl, refl)
    path_exact (C.Member k path) h =
        same_made (indexed c path) (λ ps. Field k ∷ ps) (refused l env s (index_guards l level path)) (λ ps. E.steps l env s (path_of l path) ≡ ps) (λ ps. E.steps l env s (path_of l (C.Member k path)) ≡ ps) (path_exact path h)
        (λ ps e. ap (λ qs. Field k ∷ qs) e)
    path_exact (C.Element n e path) h =
        let p = and_parts (has_integer_type e && is_typed g e) (are_typed_indices g path) h in
        let q = and_parts (has_integer_type e) (is_typed g e) p.0 in
        same_pair l env s (value c e) (indexed c path) (λ v ps. Index (number_of_type (C.type_of e) v) ∷ ps) (guards l level e) (index_guards l level path)
        (IsValueOf l env s e) (λ ps. E.steps l env s (path_of l path) ≡ ps) (λ ps. E.steps l env s (path_of l (C.Element n e path)) ≡ ps) (value_exact e q.1) (path_exact path p.1)
        (λ v ps is e'. ap₂ (λ z qs. Index z ∷ qs) (own_number l env s e v is) e')
