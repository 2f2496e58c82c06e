-- The machines of both sides: the same state, and the same values for the declared locals. What generation adds to the
-- locals begins with a `$`, and so is none of these.
use Rattle.std.proofs.Common.{◌≡◌, ℕ, Bool, true, false, List, [], ◌∷◌, Option, Some, None, refl, sym, subst, ap, ◌∙◌}
use Rattle.std.specs.Prelude.{◌==◌, not, ◌&&◌, if◌then◌else◌}
use Rattle.std.proofs.lemmas.Bool.{false≢true, false_from_ne_true}
use Rattle.c_values.specs.Name.{Name, same_name, with_name}
use Rattle.c_values.specs.Types.{CType}
use Rattle.c_values.specs.Value as V
use Rattle.c_values.specs.Layout.{is_scalar}
use Rattle.c_values.proofs.Laid.{name_is}
use Rattle.c_values.specs.CodeSameType.{type_is}
use Rattle.c_values.specs.Choice.{Choice}
use Rattle.c_values.proofs.Options.{none_some, some_is}
use Rattle.expression_lang.specs.Sort.{Level}
use Rattle.expression_lang.specs.Evaluation.{Env, State}
use Rattle.expression_lang.specs.Machine.{Machine, machine_with, with_local}
use Rattle.c_lang.specs.Typed as C
use Rattle.c_lang.specs.WellTyped.{Scope, variable_type, is_type, are_variables, is_own_name}
use Rattle.c_meaning.specs.CRun.{Setting, context}
use Rattle.c_meaning.specs.Fitting.{Fits, IsOfType, AgreeOn}
use Rattle.expression_lang.specs.States.{IsState}
use Rattle.generation.proofs.ExactTests.{all_of_three, by_test, by_cases, where_true, where_false}

abbrev second_byte : Name → ℕ
second_byte [] = 0
second_byte (c ∷ []) = 0
second_byte (c ∷ d ∷ cs) = d

-- the names that say whether a do-while is in front of its first turn begin with `$f`, and no others
abbrev pub is_first_name : Name → Bool
is_first_name x = not (is_own_name x) && (second_byte x == 102)

pub record Alike (g : Scope) (m n : Machine) : Type 0 where
  pub state : n.state ≡ m.state
  pub locals : AgreeOn g.variables m.locals n.locals
  pub typed : (x : Name) (t : CType) → variable_type g.variables x ≡ Some t → IsOfType g.layout t (m.locals x)
  pub can_be : IsState g.layout g.globals m.state
  -- no do-while is in front of its first turn
  pub quiet : (x : Name) → is_first_name x ≡ true → V.truth_in (n.locals x) ≡ false

pub own_not_first : (x : Name) → is_own_name x ≡ true → is_first_name x ≡ false
own_not_first x h = ap (λ b. not b && (second_byte x == 102)) h

abbrev pub setting : Scope → Choice → Level → Setting
setting g p level = record { layout = g.layout; choice = p; level = level }

pub fitting : (g : Scope) (p : Choice) (level : Level) (m n : Machine) → Alike g m n → Fits g (context (setting g p level) m)
fitting g p level m n a = record { layout = refl; variables = a.typed; state = a.can_be }

-- a declared name begins with no `$`, and has a scalar type
pub declared_scalar : (vs : List C.Variable) → are_variables vs ≡ true → (x : Name) (t : CType) → variable_type vs x ≡ Some t → (is_own_name x ≡ true) × (is_scalar t ≡ true)
declared_scalar [] h x t e = absurd (none_some e)
declared_scalar (v ∷ vs) h x t e =
    let p = all_of_three (is_scalar v.type) (is_own_name v.name) (are_variables vs) h in
    by_cases ((is_own_name x ≡ true) × (is_scalar t ≡ true)) (same_name v.name x)
    (λ b. (subst (λ y. is_own_name y ≡ true) (name_is v.name x b) p.1, subst (λ u. is_scalar u ≡ true) (some_is (sym (where_true (same_name v.name x) (Some v.type) (variable_type vs x) b) ∙ e)) p.0))
    (λ b. declared_scalar vs p.2 x t (sym (where_false (same_name v.name x) (Some v.type) (variable_type vs x) b) ∙ e))

-- the type that a name is said to have
pub is_declared : (o : Option CType) (t : CType) → is_type o t ≡ true → o ≡ Some t
is_declared None t h = absurd (false≢true h)
is_declared (Some u) t h = ap Some (type_is u t h)

-- a name that isn't a text's own is none of the declared ones
pub apart : (x y : Name) → is_own_name x ≡ false → is_own_name y ≡ true → same_name x y ≡ false
apart x y h k = false_from_ne_true (same_name x y) (λ e. false≢true (sym h ∙ ap (λ z. is_own_name z) (name_is x y e) ∙ k))

module _ (vs : List C.Variable) (own : are_variables vs ≡ true) (a b : Env) (agree : AgreeOn vs a b) where
  -- a local that is added leaves the declared ones
  pub added_agrees : (x : Name) (v : V.Value) → is_own_name x ≡ false → AgreeOn vs a (with_name x v b)
  added_agrees x v h y t e = where_false (same_name x y) v (b y) (apart x y h (declared_scalar vs own y t e).0) ∙ agree y t e

  pub declared_agrees : (x : Name) (v : V.Value) → AgreeOn vs (with_name x v a) (with_name x v b)
  declared_agrees x v y t e = ap (λ w. if same_name x y then v else w) (agree y t e)

module _ (g : Scope) (own : are_variables g.variables ≡ true) (m n : Machine) (a : Alike g m n) where
  -- an added local is set
  pub alike_added : (x : Name) (v : V.Value) → is_own_name x ≡ false → (is_first_name x ≡ true → V.truth_in v ≡ false) → Alike g m (with_local x v n)
  alike_added x v h k = record {
    state = a.state;
    locals = added_agrees g.variables own m.locals n.locals a.locals x v h;
    typed = a.typed;
    can_be = a.can_be;
    quiet = λ y e. by_test (λ w. V.truth_in w ≡ false) (same_name x y) v (n.locals y) (λ s. k (ap (λ z. is_first_name z) (name_is x y s) ∙ e)) (λ s. a.quiet y e);
  }

  -- a declared local gets the same value on both sides
  pub alike_declared : (x : Name) (t : CType) (v : V.Value) → variable_type g.variables x ≡ Some t → IsOfType g.layout t v → Alike g (with_local x v m) (with_local x v n)
  alike_declared x t v d h = record {
    state = a.state;
    locals = declared_agrees g.variables own m.locals n.locals a.locals x v;
    typed = λ y u e. by_test (λ w. IsOfType g.layout u w) (same_name x y) v (m.locals y)
        (λ s. subst (λ w. IsOfType g.layout w v) (some_is (sym d ∙ ap (λ z. variable_type g.variables z) (name_is x y s) ∙ e)) h) (λ s. a.typed y u e);
    can_be = a.can_be;
    quiet = λ y e. by_test (λ w. V.truth_in w ≡ false) (same_name x y) v (n.locals y)
        (λ s. absurd (false≢true (sym (own_not_first x (declared_scalar g.variables own x t d).0) ∙ ap (λ z. is_first_name z) (name_is x y s) ∙ e))) (λ s. a.quiet y e);
  }

  -- both go on from another state
  pub alike_at : (s : State) → IsState g.layout g.globals s → Alike g (machine_with m.locals s) (machine_with n.locals s)
  alike_at s h = record { state = refl; locals = a.locals; typed = a.typed; can_be = h; quiet = a.quiet }
