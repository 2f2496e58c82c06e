-- Functions that are called: what one asks is there, its body begins as the definitions say, and its result goes to the target.
use Rattle.std.proofs.Common.{◌≡◌, ℕ, true, List, map, Option, Some, None, Ok, Err, refl, sym, ap, ◌∙◌, subst}
use Rattle.std.proofs.lemmas.Bool.{false≢true}
use Rattle.std.specs.Option.{IsSome}
use Rattle.std.specs.Prelude.{IfNone}
use Rattle.correspondence.specs.Outcome.{Turns, Depth, Outcome, Done, Failed, Stopped, Then, goes_on, fails, stops}
use Rattle.c_values.specs.Name.{Name, are_distinct}
use Rattle.c_values.specs.Value.{Value}
use Rattle.c_values.specs.Choice.{Fill}
use Rattle.expression_lang.specs.declared.signatures.Signature as G
use Rattle.expression_lang.specs.Sort.{Scalar, Kind, Of, word_sort_of, are_kinds}
use Rattle.expression_lang.specs.States.{IsOfSort}
use Rattle.expression_lang.specs.GuardKind.{GuardKind}
use Rattle.expression_lang.specs.Machine.{Machine, machine_with, Returned}
use Rattle.expression_lang.specs.Signature.{names_of, kinds_of, signature, no_env, bound}
use Rattle.expression_lang.specs.Sorted.{result_scalars}
use Rattle.expression_lang.specs.CodeSignature.{binder_of, signature_of}
use Rattle.expression_lang.specs.CodeState.{Bindings, env_of}
use Rattle.simpl_lang.specs.declared.units.SimplFn as F
use Rattle.simpl_lang.specs.Command.{SimplFn, SimplUnit}
use Rattle.simpl_lang.specs.Command as K
use Rattle.simpl_lang.specs.Exec.{execs, ended, functions_below, simpl_runs, function_runs, result_into, result_local, result_of, zero_locals}
use Rattle.simpl_lang.specs.Sorted.{fits_target, is_sorted, scope_among, holds_result}
use Rattle.simpl_lang.specs.CodeCommand.{guard_kind_of, simpl_of, simpl_fn_of, simpl_unit_of}
use Rattle.command_runs.specs.declared.ends.Flow as W
use Rattle.command_runs.specs.declared.ends.Stop as P
use Rattle.command_runs.specs.declared.frame.Frame as R
use Rattle.command_runs.specs.declared.outcome.CState as C
use Rattle.narrow.specs.Narrow.{IsCommandNarrow}
use Rattle.command_runs.specs.Locals.{env_from, started, given_in, AreLocals}
use Rattle.command_runs.specs.CodeRun.{table_of, state_in, machine_in, locals_of, scope_for, ends_in, call_of, HasRun, HasReturned, CanRun, IsFrame, IsStateOf, Fits, CanRunIn, CanBeCalled, IsResult}
use Rattle.command_runs.proofs.LocalsLaws.{started_env, started_locals, sorts_length, kind_scalar}
use Rattle.command_runs.proofs.Evaluated.{table_env, environment}
use Rattle.command_runs.proofs.Formed.{IsBody, IsSigned, body_sorted, body_narrow, signed_fn, result_there}
use Rattle.command_runs.proofs.Given.{local_put}
use Rattle.command_runs.proofs.Places.{scalar_of_inv}

-- what is given goes to its target

pub record IsGiven (f : R.Frame) (bs bs' : Bindings) (s : C.CState) (x : Option Name) (v : Option Value) : Type 0 where
  pub fits : Fits f bs' s
  pub machine : machine_in f bs' s ≡ result_into x (record { result = v; state = state_in f.unit.now s }) (env_of bs)

pub given_to : (f : R.Frame) (bs bs' : Bindings) (s : C.CState) → IsFrame f → Fits f bs s → (x : Option Name) (k : Option Kind) (v : Option Value) →
    fits_target (scope_for f) x (Some (result_scalars word_sort_of k)) ≡ true → IsResult k v → table_of bs' ≡ given_in x v (table_of bs) → IsGiven f bs bs' s x v
given_to f bs bs' s frame fits None k v t r e = record {
  fits = record { locals = subst (λ q. AreLocals (locals_of f) q) (sym e) fits.locals; state = fits.state };
  machine = ap (λ env. machine_with env (state_in f.unit.now s)) (table_env bs' no_env ∙ ap (λ q. env_from q no_env) e ∙ sym (table_env bs no_env));
}
given_to f bs bs' s frame fits (Some x) None v t r e = absurd (false≢true t)
given_to f bs bs' s frame fits (Some x) (Some k) None t r e = absurd r
given_to f bs bs' s frame fits (Some x) (Some k) (Some v) t r e =
    let q = scalar_of_inv ((scope_for f).names x) (Some (Of (word_sort_of k))) t in
    let same : word_sort_of k ≡ q.0 = same_scalar q.2 in
    let put = local_put f bs bs' s frame fits x v q.0 q.1 (subst (λ c. IsOfSort c v) same r) e in
    record { fits = put.fits; machine = ap (λ env. machine_with env (state_in f.unit.now s)) put.env }
  where
    same_scalar : {c d : Scalar} → Some (Of c) ≡ Some (Of d) → c ≡ d
    same_scalar h = cc

-- what a body leaves in the local of the result is of the result's kind
pub result_left : (f : R.Frame) (bs : Bindings) (s : C.CState) → IsFrame f → Fits f bs s → (k : Option Kind) → holds_result k (locals_of f) ≡ true → IsResult k (result_of k (machine_in f bs s))
result_left f bs s frame fits None held = tt
result_left f bs s frame fits (Some k) held =
    environment f frame bs s fits result_local (word_sort_of k)
    (kind_scalar (locals_of f) (λ y. None) result_local k frame.distinct (result_there k (K.kind_of (locals_of f) result_local) held))

-- a function that is called

fn_some : (o : Option SimplFn) (f : SimplFn) → o ≡ Some f → o ≡ None → ⊥
fn_some o f h k = cc

pub function_there : {X : Type 0} (o : Option X) (p : Option SimplFn) (f : SimplFn) → p ≡ Some f → IfNone o (p ≡ None) → IsSome o
function_there (Some x) p f h k = refl
function_there None p f h k = absurd (fn_some p f h k)

-- the body of a called function

module _ (f : R.Frame) (h : F.SimplFn) (g : G.Signature) (vs : List Value) (unit : CanRun f.unit.now) (locals : f.locals.now ≡ h.locals.items) (called : CanBeCalled f.unit.now h g vs) where
  abbrev u : SimplUnit
  u = simpl_unit_of f.unit.now

  abbrev plain : SimplFn
  plain = simpl_fn_of h

  same_locals : locals_of f ≡ plain.locals
  same_locals = ap (map binder_of) locals

  body : IsBody u plain
  body = body_sorted u u.functions plain.name plain unit.formed.functions called.function

  pub body_kinds : are_kinds (kinds_of (locals_of f)) ≡ true
  body_kinds = subst (λ bs. are_kinds (kinds_of bs) ≡ true) (sym same_locals) body.kinds

  pub body_frame : IsFrame f
  body_frame = record { unit = unit; distinct = subst (λ bs. are_distinct (names_of bs) ≡ true) (sym same_locals) body.distinct; kinds = body_kinds }

  pub body_runs : CanRunIn f (simpl_of h.body)
  body_runs =
      record {
        sorted = subst (λ bs. is_sorted (scope_among u bs) u.signatures (simpl_of h.body) ≡ true) (sym same_locals) body.sorted;
        narrow = subst (λ bs. IsCommandNarrow (scope_among u bs) u.globals (simpl_of h.body)) (sym same_locals) (body_narrow u u.functions plain.name plain unit.narrow called.function);
      }

  signed : IsSigned plain (signature_of g)
  signed =
      let w = signed_fn plain.name (signature_of g) u.functions u.signatures unit.formed.signatures called.signature in
      subst (λ k. IsSigned k (signature_of g)) (same_fn (sym w.1 ∙ called.function)) w.2
    where
      same_fn : {a b : SimplFn} → ◌≡◌ {A = Option SimplFn} (Some a) (Some b) → a ≡ b
      same_fn q = cc

  pub holds_own_result : holds_result (signature_of g).result (locals_of f) ≡ true
  holds_own_result = subst (λ bs. holds_result (signature_of g).result bs ≡ true) (sym same_locals) signed.result

  module _ (bs : Bindings) (s : C.CState) (state : IsStateOf f.unit.now s) (begun : table_of bs ≡ started (locals_of f) vs) where
    pub body_fits : Fits f bs s
    body_fits = record {
      locals = subst (λ t. AreLocals (locals_of f) t) (sym begun)
          (subst (λ ls. AreLocals ls (started ls vs)) (sym same_locals) (started_locals (signature_of g).params plain.locals vs signed.params called.arguments));
      state = state;
    }

    begins : machine_in f bs s ≡ machine_with (bound (names_of (signature_of g).params) vs (zero_locals plain.locals)) (state_in f.unit.now s)
    begins =
        ap (λ env. machine_with env (state_in f.unit.now s))
        (table_env bs no_env ∙ ap (λ t. env_from t no_env) begun ∙ ap (λ ls. env_from (started ls vs) no_env) same_locals
        ∙ started_env (signature_of g).params plain.locals vs signed.params (sorts_length (signature_of g).params vs called.arguments) body.distinct)

    module _ (turns : ℕ) where
      pub function_ends : (o : Outcome Returned GuardKind) → Then (ends_in f (simpl_of h.body) turns (machine_in f bs s)) (ended (signature_of g).result) o →
          simpl_runs u (Fill f.fill) turns (Some f.depth) (call_of h vs (state_in f.unit.now s)) o
      function_ends o x =
          subst (λ q. function_runs u.layout (Fill f.fill) q (signature u.signatures plain.name) (Some f.depth) (functions_below u (Fill f.fill) turns) (call_of h vs (state_in f.unit.now s)) o) (sym called.function)
          (subst (λ q. function_runs u.layout (Fill f.fill) (Some plain) q (Some f.depth) (functions_below u (Fill f.fill) turns) (call_of h vs (state_in f.unit.now s)) o) (sym called.signature)
          (subst (λ m. Then (execs u.layout (Fill f.fill) plain.locals plain.body (Some f.depth) (functions_below u (Fill f.fill) turns) m) (ended (signature_of g).result) o) begins
          (subst (λ ls. Then (execs u.layout (Fill f.fill) ls plain.body (Some f.depth) (functions_below u (Fill f.fill) turns) (machine_in f bs s)) (ended (signature_of g).result) o) same_locals x)))

      pub body_done : (flow : W.Flow) (n : Machine) → HasRun (ends_in f (simpl_of h.body) turns (machine_in f bs s)) (Ok flow) n →
          simpl_runs u (Fill f.fill) turns (Some f.depth) (call_of h vs (state_in f.unit.now s)) (Done (record { result = result_of (signature_of g).result n; state = n.state }))
      body_done W.TheVariants.Normal n x = function_ends _ (goes_on x refl)
      body_done W.TheVariants.Abrupt n x = function_ends _ (goes_on x refl)

      pub body_stopped : (e : P.Stop) (n : Machine) (s' : C.CState) → HasRun (ends_in f (simpl_of h.body) turns (machine_in f bs s)) (Err e) n →
          HasReturned f.unit.now (simpl_runs u (Fill f.fill) turns (Some f.depth) (call_of h vs (state_in f.unit.now s))) (Err e) s'
      body_stopped (P.TheVariants.Guard k) n s' x = function_ends (Failed (guard_kind_of k)) (fails x)
      body_stopped P.TheVariants.OutOfTurns n s' x = function_ends (Stopped Turns) (stops x)
      body_stopped P.TheVariants.Deep n s' x = function_ends (Stopped Depth) (stops x)
      body_stopped P.TheVariants.Memory n s' x = tt
