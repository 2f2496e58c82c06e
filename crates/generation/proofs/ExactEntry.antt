-- Where a function begins: its arguments stand over zeros on both sides, and its declared locals have their kinds.
use Rattle.std.proofs.Common.{◌≡◌, Bool, true, false, List, [], ◌∷◌, ◌++◌, Option, Some, None, refl, sym, subst, ap, ◌∙◌}
use Rattle.std.specs.Prelude.{not, if◌then◌else◌}
use Rattle.std.proofs.lemmas.Bool.{false≢true, or_parts, not-true, and_parts}
use Rattle.std.proofs.lemmas.Nat.{pow_pos}
use Rattle.c_values.specs.Name.{Name, same_name, with_name, is_among, are_distinct}
use Rattle.c_values.specs.Types.{Target, CType, Integer, Void, Struct, Array, is_signed, width_of}
use Rattle.c_values.specs.Value as V
use Rattle.c_values.specs.Layout.{Layout, is_scalar, scalar_width}
use Rattle.c_values.proofs.Laid.{name_is, other_name}
use Rattle.c_values.proofs.Options.{none_some, some_is}
use Rattle.expression_lang.specs.Sort.{Level, Numbers, Kind, WordKind, NatKind, IntKind}
use Rattle.expression_lang.specs.View.{zero_word_at}
use Rattle.expression_lang.specs.Evaluation.{Env}
use Rattle.expression_lang.specs.Signature.{Binder, names_of, bound, kind_at}
use Rattle.simpl_lang.specs.Command.{kind_of}
use Rattle.simpl_lang.specs.Exec as X
use Rattle.c_lang.specs.Typed as C
use Rattle.c_lang.specs.WellTyped.{variable_type, are_variables, is_own_name}
use Rattle.c_meaning.specs.CRun as R
use Rattle.c_meaning.specs.Kinds.{variables}
use Rattle.c_meaning.specs.Fitting.{IsOfType, AreOfTypes}
use Rattle.generation.proofs.ExactTests.{all_of_three, by_test, by_cases, where_true, where_false}

pub names_are : (t : Target) (level : Level) (vs : List C.Variable) → names_of (variables t level vs) ≡ C.variable_names vs
names_are t level [] = refl
names_are t level (v ∷ vs) = ap (λ xs. v.name ∷ xs) (names_are t level vs)

-- one declaration and the others
module _ (b : Bool) (t : CType) (o : Option CType) where
  none_further : (if b then Some t else o) ≡ None → (b ≡ false) × (o ≡ None)
  none_further h = by_value b h
    where
      by_value : (c : Bool) → (if c then Some t else o) ≡ None → (c ≡ false) × (o ≡ None)
      by_value true k = absurd (none_some (sym k))
      by_value false k = (refl, k)

module _ (x : Name) (t : CType) where
  pub declared_before : (vs ws : List C.Variable) → variable_type vs x ≡ Some t → variable_type (vs ++ ws) x ≡ Some t
  declared_before [] ws h = absurd (none_some h)
  declared_before (v ∷ vs) ws h =
      by_test (λ o. o ≡ Some t) (same_name v.name x) (Some v.type) (variable_type (vs ++ ws) x)
      (λ b. sym (where_true (same_name v.name x) (Some v.type) (variable_type vs x) b) ∙ h)
      (λ b. declared_before vs ws (sym (where_false (same_name v.name x) (Some v.type) (variable_type vs x) b) ∙ h))

pub declared_behind : (x : Name) (vs ws : List C.Variable) → variable_type vs x ≡ None → variable_type (vs ++ ws) x ≡ variable_type ws x
declared_behind x [] ws h = refl
declared_behind x (v ∷ vs) ws h =
    let k = none_further (same_name v.name x) v.type (variable_type vs x) h in
    where_false (same_name v.name x) (Some v.type) (variable_type (vs ++ ws) x) k.0 ∙ declared_behind x vs ws k.1

-- a name that isn't among those of the declarations
pub undeclared : (x : Name) (vs : List C.Variable) → is_among x (C.variable_names vs) ≡ false → variable_type vs x ≡ None
undeclared x [] h = refl
undeclared x (v ∷ vs) h =
    let k = or_parts (same_name x v.name) (is_among x (C.variable_names vs)) h in
    where_false (same_name v.name x) (Some v.type) (variable_type vs x) (other_name x v.name k.0) ∙ undeclared x vs k.1

-- arguments leave the other names
pub bound_leaves : (l : Layout) (x : Name) (xs : List C.Variable) (vs : List V.Value) → AreOfTypes l xs vs → variable_type xs x ≡ None → (env : Env) → bound (C.variable_names xs) vs env x ≡ env x
bound_leaves l x [] [] h e env = refl
bound_leaves l x (y ∷ xs) (v ∷ vs) h e env =
    let k = none_further (same_name y.name x) y.type (variable_type xs x) e in
    bound_leaves l x xs vs h.1 k.1 (with_name y.name v env) ∙ where_false (same_name y.name x) v (env x) k.0
bound_leaves l x [] (v ∷ vs) h e env = absurd h
bound_leaves l x (y ∷ xs) [] h e env = absurd h

-- a parameter has its argument, whatever stood there before
module _ (l : Layout) (x : Name) (t : CType) where
  abbrev IsBound : List C.Variable → List V.Value → Type 0
  IsBound xs vs = (v : V.Value) × IsOfType l t v × ((env : Env) → bound (C.variable_names xs) vs env x ≡ v)

  pub parameter_bound : (xs : List C.Variable) (vs : List V.Value) → are_distinct (C.variable_names xs) ≡ true → AreOfTypes l xs vs → variable_type xs x ≡ Some t → IsBound xs vs
  parameter_bound [] vs d h e = absurd (none_some e)
  parameter_bound (y ∷ xs) [] d h e = absurd h
  parameter_bound (y ∷ xs) (v ∷ vs) d h e =
      let q = and_parts (not (is_among y.name (C.variable_names xs))) (are_distinct (C.variable_names xs)) d in
      by_cases (IsBound (y ∷ xs) (v ∷ vs)) (same_name y.name x)
      (λ b. (
        v,
        subst (λ u. IsOfType l u v) (some_is (sym (where_true (same_name y.name x) (Some y.type) (variable_type xs x) b) ∙ e)) h.0,
        λ env. bound_leaves l x xs vs h.1 (ap (λ z. variable_type xs z) (sym (name_is y.name x b)) ∙ undeclared y.name xs (not-true (is_among y.name (C.variable_names xs)) q.0)) (with_name y.name v env)
            ∙ where_true (same_name y.name x) v (env x) b,
      ))
      (λ b. let k = parameter_bound xs vs q.1 h.1 (sym (where_false (same_name y.name x) (Some y.type) (variable_type xs x) b) ∙ e) in (k.0, k.1, λ env. k.2 (with_name y.name v env)))

-- the word of zeros of a scalar type
abbrev pub zero : Target → CType → V.Value
zero t u = V.Bits (record { width = scalar_width t u; bits = 0 })

pub zero_typed : (l : Layout) (u : CType) → IsOfType l u (zero l.target u)
zero_typed l u = record { has_width = refl; fits = pow_pos (scalar_width l.target u) }

zero_is : (t : Target) (level : Level) (u : CType) → is_scalar u ≡ true → zero_word_at (kind_at t level u) ≡ zero t u
zero_is t Numbers (Integer i) h = by_test (λ k. zero_word_at k ≡ zero t (Integer i)) (is_signed i) (IntKind (width_of t i)) (NatKind (width_of t i)) (λ e. refl) (λ e. refl)
zero_is t Numbers Void h = absurd (false≢true h)
zero_is t Numbers (Struct x) h = absurd (false≢true h)
zero_is t Numbers (Array u n) h = absurd (false≢true h)
zero_is _ _ _ _ = refl

module _ (l : Layout) (level : Level) (x : Name) where
  pub c_zero : (vs : List C.Variable) (t : CType) → variable_type vs x ≡ Some t → R.zero_locals l vs x ≡ zero l.target t
  c_zero [] t e = absurd (none_some e)
  c_zero (v ∷ vs) t e =
      by_test (λ z. z ≡ zero l.target t) (same_name v.name x) (zero l.target v.type) (R.zero_locals l vs x)
      (λ b. ap (λ u. zero l.target u) (some_is (sym (where_true (same_name v.name x) (Some v.type) (variable_type vs x) b) ∙ e)))
      (λ b. c_zero vs t (sym (where_false (same_name v.name x) (Some v.type) (variable_type vs x) b) ∙ e))

  pub simpl_zero : (vs : List C.Variable) (bs : List Binder) (t : CType) → are_variables vs ≡ true → variable_type vs x ≡ Some t → X.zero_locals (variables l.target level vs ++ bs) x ≡ zero l.target t
  simpl_zero [] bs t own e = absurd (none_some e)
  simpl_zero (v ∷ vs) bs t own e =
      let p = all_of_three (is_scalar v.type) (is_own_name v.name) (are_variables vs) own in
      by_test (λ z. z ≡ zero l.target t) (same_name v.name x) (zero_word_at (kind_at l.target level v.type)) (X.zero_locals (variables l.target level vs ++ bs) x)
      (λ b. zero_is l.target level v.type p.0 ∙ ap (λ u. zero l.target u) (some_is (sym (where_true (same_name v.name x) (Some v.type) (variable_type vs x) b) ∙ e)))
      (λ b. simpl_zero vs bs t p.2 (sym (where_false (same_name v.name x) (Some v.type) (variable_type vs x) b) ∙ e))

  pub zero_behind : (vs : List C.Variable) (bs : List Binder) → variable_type vs x ≡ None → X.zero_locals (variables l.target level vs ++ bs) x ≡ X.zero_locals bs x
  zero_behind [] bs e = refl
  zero_behind (v ∷ vs) bs e =
      let k = none_further (same_name v.name x) v.type (variable_type vs x) e in
      where_false (same_name v.name x) (zero_word_at (kind_at l.target level v.type)) (X.zero_locals (variables l.target level vs ++ bs) x) k.0 ∙ zero_behind vs bs k.1

  pub kind_found : (vs : List C.Variable) (bs : List Binder) (t : CType) → variable_type vs x ≡ Some t → kind_of (variables l.target level vs ++ bs) x ≡ Some (kind_at l.target level t)
  kind_found [] bs t e = absurd (none_some e)
  kind_found (v ∷ vs) bs t e =
      by_test (λ o. o ≡ Some (kind_at l.target level t)) (same_name v.name x) (Some (kind_at l.target level v.type)) (kind_of (variables l.target level vs ++ bs) x)
      (λ b. ap (λ u. Some (kind_at l.target level u)) (some_is (sym (where_true (same_name v.name x) (Some v.type) (variable_type vs x) b) ∙ e)))
      (λ b. kind_found vs bs t (sym (where_false (same_name v.name x) (Some v.type) (variable_type vs x) b) ∙ e))

  pub kind_behind : (vs : List C.Variable) (bs : List Binder) → variable_type vs x ≡ None → kind_of (variables l.target level vs ++ bs) x ≡ kind_of bs x
  kind_behind [] bs e = refl
  kind_behind (v ∷ vs) bs e =
      let k = none_further (same_name v.name x) v.type (variable_type vs x) e in
      where_false (same_name v.name x) (Some (kind_at l.target level v.type)) (kind_of (variables l.target level vs ++ bs) x) k.0 ∙ kind_behind vs bs k.1

-- no local begins with a truth
zero_untrue : (k : Kind) → V.truth_in (zero_word_at k) ≡ false
zero_untrue (WordKind n) = refl
zero_untrue _ = refl

pub zeros_untrue : (bs : List Binder) (x : Name) → V.truth_in (X.zero_locals bs x) ≡ false
zeros_untrue [] x = refl
zeros_untrue (b ∷ bs) x =
    by_test (λ v. V.truth_in v ≡ false) (same_name b.name x) (zero_word_at b.kind) (X.zero_locals bs x) (λ e. zero_untrue b.kind) (λ e. zeros_untrue bs x)
