-- Steps keep values, said of one scope.
use Rattle.std.proofs.Common.{◌≡◌, List, Some, sym, subst, ap}
use Rattle.c_values.specs.Layout.{IsLayout, GlobalVar, global_type}
use Rattle.expression_lang.specs.Expression.{Exp}
use Rattle.expression_lang.specs.Evaluation.{Env, State, value}
use Rattle.expression_lang.specs.Sort.{Scope, Sort, sort_of}
use Rattle.expression_lang.specs.States.{IsEnvironment, IsState}
use Rattle.ac_expr.specs.Fact.{Fact, AllSay}
use Rattle.ac_expr.specs.Step.{IsStep, OneStepApart}
use Rattle.ac_expr.proofs.StepsHold.{step_holds}
use Rattle.ac_expr.proofs.PlacesHold.{apart_holds}

scope_is : (g : Scope) (vs : List GlobalVar) → g.globals ≡ global_type vs → ◌≡◌ {A = Scope} (record { layout = g.layout; names = g.names; globals = global_type vs }) g
scope_is g vs h = ap (λ f. let k : Scope = record { layout = g.layout; names = g.names; globals = f } in k) (sym h)

pub steps_exact : (g : Scope) (vs : List GlobalVar) (fs : List Fact) (a b : Exp) (o : Sort) (env : Env) (s : State) → IsLayout g.layout → g.globals ≡ global_type vs →
    IsEnvironment g env → IsState g.layout vs s → AllSay g.layout env s fs → sort_of g a ≡ Some o → IsStep g fs a b → value g.layout env s a ≡ value g.layout env s b
steps_exact g vs fs a b o env s laid known fits state said sorted k =
    step_holds g.layout laid vs env s state fs said g.names g.names fits fits a b o (subst (λ h. sort_of h a ≡ Some o) (sym (scope_is g vs known)) sorted) (subst (λ h. IsStep h fs a b) (sym (scope_is g vs known)) k)

pub places_exact : (g : Scope) (vs : List GlobalVar) (fs : List Fact) (a b : Exp) (o q : Sort) (env : Env) (s : State) → IsLayout g.layout → g.globals ≡ global_type vs →
    IsEnvironment g env → IsState g.layout vs s → AllSay g.layout env s fs → sort_of g a ≡ Some o → sort_of g b ≡ Some q → OneStepApart g fs a b → value g.layout env s b ≡ value g.layout env s a
places_exact g vs fs a b o q env s laid known fits state said sorted sorted' k =
    apart_holds g.layout laid vs env s state g.names g.names g.names fits fits fits fs a b (subst (λ h. OneStepApart h fs a b) (sym (scope_is g vs known)) k)
    (o, subst (λ h. sort_of h a ≡ Some o) (sym (scope_is g vs known)) sorted) (q, subst (λ h. sort_of h b ≡ Some q) (sym (scope_is g vs known)) sorted') said
