-- Generation is exact for expressions, for places that are accessed, and for arguments, in each context that fits.
use Rattle.std.proofs.Common.{◌≡◌, true, ◌&&◌, List, [], ◌∷◌, Ok, refl, sym, ap₂, subst}
use Rattle.std.proofs.lemmas.Bool.{and_parts}
use Rattle.c_values.specs.Layout.{IsLayout, is_scalar}
use Rattle.expression_lang.specs.Evaluation.{Env}
use Rattle.expression_lang.specs.Signature.{values_of}
use Rattle.c_lang.specs.Typed as C
use Rattle.c_lang.specs.WellTyped.{Scope, has_type, is_typed, is_typed_at, is_typed_place, are_arguments, are_globals, are_variables, is_own_name}
use Rattle.c_meaning.specs.CValue.{Context, accessible, located, value, values}
use Rattle.generation.specs.Guards.{exps, guards, argument_guards, place_guards, accesses}
use Rattle.c_meaning.specs.Fitting.{Fits, AgreeOn, AreOfTypes}
use Rattle.generation.proofs.ExactValue.{IsValueOf, IsExactValue, IsAt, IsExactAccess, AreExactValues}
use Rattle.generation.proofs.FirstRefused.{same_bind, same_pair}
use Rattle.generation.proofs.ExactTruth.{scalar_bits}
use Rattle.generation.proofs.ExactPlaces.{context_of, access_exact}
use Rattle.generation.proofs.ExactOperations.{at_type}
use Rattle.generation.proofs.ExactExpressions.{value_exact, place_exact}

module _ (g : Scope) (c : Context) (env : Env) (layout : IsLayout g.layout) (globals : are_globals g.layout g.globals ≡ true) (variables : are_variables g.variables ≡ true) (fits : Fits g c) (agree : AgreeOn g.variables c.locals env) where
  pub values_exact : (e : C.Expr) → is_typed g e ≡ true → IsExactValue g c env e
  values_exact e h =
      subst (λ l. IsExactValue g (record { layout = l; level = c.level; locals = c.locals; state = c.state }) env e) (sym fits.layout)
      (value_exact g c.level c.locals c.state env layout globals variables fits.variables fits.state agree e h)

  pub places_exact : (p : C.Place) → is_typed_place g p ≡ true → IsExactAccess g c env p
  places_exact p h =
      subst (λ l. IsExactAccess g (record { layout = l; level = c.level; locals = c.locals; state = c.state }) env p) (sym fits.layout)
      (same_bind g.layout env c.state (located here p) (λ w. accessible here w (Ok w)) (place_guards g.layout c.level p) (accesses g.layout c.level p) (IsAt g env c.state p) (IsAt g env c.state p)
      (place_exact g c.level c.locals c.state env layout globals variables fits.variables fits.state agree p h)
      (λ w at. access_exact g c.level c.locals c.state env p w w (IsAt g env c.state p) at at))
    where
      here : Context
      here = context_of g c.level c.locals c.state

  pub arguments_exact : (params : List C.Variable) → are_variables params ≡ true → (es : List C.Expr) → are_arguments g params es ≡ true → AreExactValues g c env params es
  arguments_exact [] k [] h = (refl, (refl, tt))
  arguments_exact [] k (e ∷ es) h = absurd cc
  arguments_exact (x ∷ xs) k [] h = absurd cc
  arguments_exact (x ∷ xs) k (e ∷ es) h =
      let p = and_parts (is_typed_at g x.type e) (are_arguments g xs es) h in
      let q = and_parts (has_type x.type e) (is_typed g e) p.0 in
      let r = and_parts (is_scalar x.type && is_own_name x.name) (are_variables xs) k in
      let scalar = (and_parts (is_scalar x.type) (is_own_name x.name) r.0).0 in
      same_pair g.layout env c.state (value c e) (values c es) (λ v vs. v ∷ vs) (guards g.layout c.level e) (argument_guards g.layout c.level es)
      (IsValueOf g.layout env c.state e) (λ vs. (values_of g.layout env c.state (exps g.layout es) ≡ vs) × AreOfTypes g.layout xs vs)
      (λ vs. (values_of g.layout env c.state (exps g.layout (e ∷ es)) ≡ vs) × AreOfTypes g.layout (x ∷ xs) vs)
      (values_exact e q.1) (arguments_exact xs r.1 es p.1)
      (λ v vs is are. (ap₂ (λ a b. a ∷ b) is.is are.0, (scalar_bits g.layout x.type v scalar (at_type g.layout env c.state x.type e v q.0 is), are.1)))
