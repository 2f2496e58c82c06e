-- Calls, and right sides of assignments and returns.
use Rattle.std.proofs.Common.{◌≡◌, ℕ, suc, ◌==◌, true, not, ◌&&◌, List, [], ◌∷◌, length, map, Option, Some, None, refl, sym, subst}
use Rattle.std.proofs.lemmas.Bool.{false≢true, eqb-true}
use Rattle.c_values.specs.Name.{Name}
use Rattle.c_values.specs.Types.{CType, Integer, Ptr, same_type}
use Rattle.c_values.specs.Layout.{Layout, is_scalar}
use Rattle.c_values.specs.CodeSameType.{type_is, same_type-refl}
use Rattle.c_grammar.specs.Tree as tree
use Rattle.typing_rules.specs.Scope.{Scope, Entity, Enumerator, Global, Function, Local, Hidden, entity}
use Rattle.typing_rules.specs.Checked.{Good, rule}
use Rattle.typing_rules.specs.Operators.{converted}
use Rattle.typing_rules.specs.Expressions.{value}
use Rattle.typing_rules.specs.Calls.{Called, Callee, callee, passed, called, one_call_more, values, call, calls_for, ignored, goes_to, result_for, Right, Computed, Resulting, right, assigned, returned}
use Rattle.c_lang.specs.Typed as C
use Rattle.c_lang.specs.WellTyped.{has_type, is_type, is_typed, is_typed_target, are_arguments, is_use_of, is_call_of, is_statement}
use Rattle.c_lang.specs.WellTyped as W
use Rattle.typing_laws.specs.Written.{Each, IsExp, IsCall, IsRhs}
use Rattle.typing_laws.proofs.Tests as tests
use Rattle.typing_laws.proofs.Tests.{both, not_false}
use Rattle.typing_laws.proofs.Rulings.{Rules, ruled, refused, refused_or, rules_then}
use Rattle.typing_laws.proofs.Operators.{Has, IsTyped}
use Rattle.typing_laws.proofs.Binary.{converted_typed}
use Rattle.typing_laws.proofs.Scopes.{Variables, Fits, file_names, entity_fits}
use Rattle.typing_laws.proofs.Later.{IsFunction, IsWithin, within_before}
use Rattle.typing_laws.proofs.Steps.{Reaches, good, Judges, reach_then, reach_pure, reach_rule}
use Rattle.typing_laws.proofs.Growth.{grown_itself}
use Rattle.typing_laws.proofs.Operands.{value_reached}

abbrev pub AreTyped : W.Scope → List C.Expr → Type 0
AreTyped g [] = Unit {0}
AreTyped g (e ∷ es) = IsTyped g e × AreTyped g es

-- a call of a function of the unit, with arguments of its parameters' types
pub record IsCalled (g : W.Scope) (c : Called) : Type 0 where
  pub function : C.TypedFn
  pub found : C.typed_fn g.functions c.function ≡ Some function
  pub result : function.result ≡ c.result
  pub arguments : are_arguments g function.params c.arguments ≡ true

-- a statement that is one wherever it stands
abbrev pub IsPlain : W.Scope → C.Statement → Type 0
IsPlain g s = (r : W.Around) → is_statement g r s ≡ true

pub call_typed : (g : W.Scope) (c : Called) (use' : C.Use) → IsCalled g c → is_use_of g c.result use' ≡ true → IsPlain g (calls_for c use')
call_typed g c use' h k r =
    subst (λ o. is_call_of g o c.arguments use' ≡ true) (sym h.found) (both h.arguments (subst (λ t. is_use_of g t use' ≡ true) (sym h.result) k))

abbrev AreArguments : W.Scope → List CType → List C.Expr → Type 0
AreArguments g ts es = (vs : List C.Variable) → map (λ v. v.type) vs ≡ ts → are_arguments g vs es ≡ true

head_type : (t u : CType) (ts us : List CType) → t ∷ ts ≡ u ∷ us → t ≡ u
head_type t u ts us h = cc

tail_types : (t u : CType) (ts us : List CType) → t ∷ ts ≡ u ∷ us → ts ≡ us
tail_types t u ts us h = cc

no_arguments : (g : W.Scope) → AreArguments g [] []
no_arguments g [] h = refl
no_arguments g (v ∷ vs) h = absurd cc

more_arguments : (g : W.Scope) (t : CType) (ts : List CType) (e : C.Expr) (es : List C.Expr) → Has g t e → AreArguments g ts es → AreArguments g (t ∷ ts) (e ∷ es)
more_arguments g t ts e es h k [] c = absurd cc
more_arguments g t ts e es h k (v ∷ vs) c =
    both (subst (λ u. (has_type u e && is_typed g e) ≡ true) (sym (head_type v.type t (map (λ w. w.type) vs) ts c)) h) (k vs (tail_types v.type t (map (λ w. w.type) vs) ts c))

shorter : (m n : ℕ) → suc m ≡ suc n → m ≡ n
shorter m n h = cc

passed_typed : (g : W.Scope) (l : Layout) (ts : List CType) (es : List C.Expr) → length es ≡ length ts → AreTyped g es → Rules (AreArguments g ts) (passed l ts es)
passed_typed g l [] [] e h = ruled (no_arguments g)
passed_typed g l [] (x ∷ es) e h = absurd cc
passed_typed g l (t ∷ ts) [] e h = absurd cc
passed_typed g l (t ∷ ts) (x ∷ es) e h =
    rules_then (converted l t x) _ (converted_typed g x h.0 l t) (λ a k.
    rules_then (passed l ts es) _ (passed_typed g l ts es (shorter (length es) (length ts) e) h.1) (λ as' m. ruled (more_arguments g t ts a as' k m)))

callee_is : (o : Option Entity) → Rules (λ c. o ≡ Some (Function c.result c.params)) (callee o)
callee_is None = refused
callee_is (Some (Function r ps)) = ruled refl
callee_is (Some Hidden) = refused
callee_is (Some (Enumerator n)) = refused
callee_is (Some (Global t)) = refused
callee_is (Some (Local x t)) = refused

called_typed : (V : Variables) (s : Scope) (g : W.Scope) (f : Name) (es : List C.Expr) → Fits V s → IsWithin V s g → AreTyped g es → Rules (IsCalled g) (called f es s)
called_typed V s g f es h w k =
    rules_then (callee (entity s.blocks f)) _ (callee_is (entity s.blocks f)) (λ c e.
    refused_or (not (s.file.with_body f)) _ _ (λ b.
    refused_or (not (length es == length c.params)) _ _ (λ n.
    rules_then (passed s.layout c.params es) _ (passed_typed g s.layout c.params es (eqb-true (length es) (length c.params) (not_false (length es == length c.params) n)) k) (λ as' m.
    ruled (is_called c as' m (w.functions f c.result c.params (entity_fits V (file_names s.blocks) s.layout.target s.blocks f (Function c.result c.params) h.entities e) (not_false (s.file.with_body f) b)))))))
  where
    is_called : (c : Callee) (as' : List C.Expr) → AreArguments g c.params as' → IsFunction g.functions f c.result c.params →
        IsCalled g (record { number = suc s.progress.calls; function = f; result = c.result; arguments = as' })
    is_called c as' m i = record { function = i.function; found = i.found; result = i.result; arguments = m i.function.params i.params }

module _ (V : Variables) where
  values_reached : (es : List tree.Exp) → Each IsExp es → Judges V AreTyped (values es)
  values_reached [] i s h = reach_pure s [] h (λ g w. tt)
  values_reached (e ∷ es) i s h =
      reach_then (value e s) _ (value_reached V e i.0 s h) (λ a t k.
      reach_then (values es t) _ (values_reached es i.1 t k.fits) (λ as' u m.
      reach_pure u (a ∷ as') m.fits (λ g w. (k.typed g (within_before m.later w), m.typed g w))))

  counted : (c : Called) (s : Scope) → Fits V s → ((g : W.Scope) → IsWithin V s g → IsCalled g c) → Reaches V IsCalled s (Good (c, one_call_more s))
  counted c s h k = good (c, one_call_more s) (record {
    later = record { layout = grown_itself s.layout; outer = refl; some = λ b. b; names = λ x e b. b; here = λ x b. b; with_body = refl; so_far = λ x b. b };
    still = record { declared = refl; locals = refl };
    fits = h;
    typed = λ g w. k g (record { sound = w.sound; grown = w.grown; variables = w.variables; globals = w.globals; functions = w.functions });
  })

  pub call_reached : (c : tree.Call) → IsCall c → Judges V IsCalled (call c)
  call_reached (tree.Calls at f es) i s h =
      reach_then (values es s) _ (values_reached es i s h) (λ as' t k.
      reach_then (rule at (called f as') t) _ (reach_rule at t (called f as' t) k.fits (λ g w. called_typed V t g f as' k.fits w (k.typed g w))) (λ c u m.
      counted c u m.fits m.typed))

abbrev pub IsRight : W.Scope → Right → Type 0
IsRight g (Computed e) = IsTyped g e
IsRight g (Resulting c) = IsCalled g c

pub right_reached : (V : Variables) (r : tree.Rhs) → IsRhs r → Judges V IsRight (right r)
right_reached V (tree.Value e) i s h = reach_then (value e s) _ (value_reached V e i s h) (λ a t k. reach_pure t (Computed a) k.fits (λ g w. k.typed g w))
right_reached V (tree.Result c) i s h = reach_then (call c s) _ (call_reached V c i s h) (λ d t k. reach_pure t (Resulting d) k.fits (λ g w. k.typed g w))

pub ignored_typed : (g : W.Scope) (r : Option CType) → is_use_of g r (ignored r) ≡ true
ignored_typed g None = refl
ignored_typed g (Some t) = same_type-refl t

goes_to_scalar : (t u : CType) → goes_to t u ≡ true → is_scalar t ≡ true
goes_to_scalar (Integer i) u h = refl
goes_to_scalar (Ptr t) u h = refl
goes_to_scalar _ _ h = absurd (false≢true h)

result_typed : (t : CType) (o : Option CType) → Rules (λ u. (o ≡ Some u) × (is_scalar t ≡ true)) (result_for t o)
result_typed t None = refused
result_typed t (Some u) = refused_or (not (goes_to t u)) _ _ (λ e. ruled (refl, goes_to_scalar t u (not_false (goes_to t u) e)))

pub assigned_typed : (g : W.Scope) (l : Layout) (d : C.Destination) (r : Right) → is_typed_target g d ≡ true → IsRight g r → Rules (IsPlain g) (assigned l d r)
assigned_typed g l d (Computed e) h k = rules_then (converted l (C.target_type d) e) _ (converted_typed g e k l (C.target_type d)) (λ a m. ruled (λ r. both h m))
assigned_typed g l d (Resulting c) h k = rules_then (result_for (C.target_type d) c.result) _ (result_typed (C.target_type d) c.result) (λ u m.
    ruled (call_typed g c (C.Assigned u d) k (subst (λ o. is_use_of g o (C.Assigned u d) ≡ true) (sym m.0) (both (both (same_type-refl u) m.1) h))))

pub returned_typed : (g : W.Scope) (l : Layout) (t : CType) (r : Right) → g.result ≡ Some t → IsRight g r → Rules (IsPlain g) (returned l t r)
returned_typed g l t (Computed e) h k = rules_then (converted l t e) _ (converted_typed g e k l t) (λ a m. ruled (λ r. both (of_result a m) (tests.right (has_type t a) (is_typed g a) m)))
  where
    of_result : (a : C.Expr) → Has g t a → is_type g.result (C.type_of a) ≡ true
    of_result a m =
        let c = type_is (C.type_of a) t (tests.left (has_type t a) (is_typed g a) m) in
        subst (λ o. is_type o (C.type_of a) ≡ true) (sym h) (subst (λ u. same_type u (C.type_of a) ≡ true) c (same_type-refl (C.type_of a)))
returned_typed g l t (Resulting c) h k = rules_then (result_for t c.result) _ (result_typed t c.result) (λ u m.
    ruled (call_typed g c (C.Returned u t) k (subst (λ o. is_use_of g o (C.Returned u t) ≡ true) (sym m.0) (both (same_type-refl u) (subst (λ o. is_type o t ≡ true) (sym h) (same_type-refl t))))))
