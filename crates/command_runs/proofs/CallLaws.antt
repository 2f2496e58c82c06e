-- Steps of calls: the body of a function is next, and once it has ended its caller goes on.
use Rattle.std.proofs.Common.{◌≡◌, ℕ, suc, ◌+◌, ◌<◌, true, List, ◌∷◌, map, Option, Some, refl, sym, ap, ◌∙◌, subst, arith, add-one}
use Rattle.std.specs.Prelude.{string_bytes}
use Rattle.std.specs.Option.{option_map}
use Rattle.std.specs.Borrow.{Bor}
use Rattle.correspondence.specs.Outcome.{Turns, Depth, Outcome, Done, Stopped, Ends, done, goes_on, stops, Then}
use Rattle.correspondence.specs.Included.{Included}
use Rattle.correspondence.proofs.Included.{then_within, done_within}
use Rattle.c_values.specs.Name.{Name}
use Rattle.c_values.specs.Value.{Value}
use Rattle.c_values.specs.Choice.{Choice, Fill}
use Rattle.expression_lang.specs.declared.signatures.Binder as D
use Rattle.expression_lang.specs.Expression.{Exp}
use Rattle.expression_lang.specs.Sort.{Kind, word_sort_of}
use Rattle.expression_lang.specs.GuardKind.{GuardKind}
use Rattle.expression_lang.specs.Machine.{Machine, Returned}
use Rattle.expression_lang.specs.Signature.{Invocation, signature, kinds_of, values_of}
use Rattle.expression_lang.specs.CodeSignature.{binder_of, signature_of}
use Rattle.expression_lang.specs.CodeState.{Bindings, env_of}
use Rattle.expression_lang.specs.Sorted.{result_scalars}
use Rattle.simpl_lang.specs.declared.units.SimplFn as F
use Rattle.simpl_lang.specs.Command.{Call, SimplUnit, simpl_fn}
use Rattle.simpl_lang.specs.Exec as E
use Rattle.simpl_lang.specs.Exec.{ended, execs, functions_below, simpl_runs, result_into, result_of}
use Rattle.simpl_lang.specs.CodeCommand.{simpl_of, simpl_fn_of, simpl_unit_of}
use Rattle.simpl_lang.specs.Sorted.{fits_target}
use Rattle.simpl_lang.specs.CodeForms.{signatures_in}
use Rattle.command_runs.specs.declared.ends.Flow as W
use Rattle.command_runs.specs.declared.frame.Frame as R
use Rattle.command_runs.specs.declared.machine.Caller as K
use Rattle.command_runs.specs.declared.machine.Pending as P
use Rattle.command_runs.specs.declared.outcome.CState as C
use Rattle.command_runs.specs.Cost.{cost, costs_below}
use Rattle.command_runs.specs.Locals.{started, given_in, AreLocals, AreOfSorts}
use Rattle.command_runs.specs.CodeRun.{table_of, state_in, machine_in, ends_in, flow_of, locals_of, scope_for, CanBeCalled}
use Rattle.command_runs.specs.CodeMachine.{Running, Ended, Point, functions_of, stack_cost, returned, caller_frame, CanGoOn, Steps}
use Rattle.command_runs.proofs.Bodies.{given_to, result_left, body_frame, body_runs, body_fits, holds_own_result, function_ends}
use Rattle.command_runs.proofs.Costs.{cost_of_one}
use Rattle.command_runs.proofs.Formed.{same_signature, found_name}
use Rattle.command_runs.proofs.Parts.{CallParts, call_parts}
use Rattle.command_runs.proofs.Placed.{arguments_fit}
use Rattle.command_runs.proofs.Resumed.{resumed_within}

module _ (f : R.Frame) (bs : Bindings) (s : C.CState) (x : Option Name) (g : Name) (es : List Exp) where
  abbrev u : SimplUnit
  u = simpl_unit_of f.unit.now

  abbrev choice : Choice
  choice = Fill f.fill

  abbrev m : Machine
  m = machine_in f bs s

  abbrev arguments : List Value
  arguments = values_of u.layout m.locals m.state es

  abbrev invocation : Invocation
  invocation = record { name = g; arguments = arguments; state = m.state }

  abbrev taken : Returned → Ends E.Flow GuardKind
  taken r = done (E.Normal (result_into x r m.locals))

  pub call_out : (n : ℕ) → n ≡ 0 → ends_in f (Call x g es) n m (Stopped Turns)
  call_out n none = subst (λ i. ends_in f (Call x g es) i m (Stopped Turns)) (sym none) (stops refl)

  module _ (n k : ℕ) (one : k + 1 ≡ n) where
    next : suc k ≡ n
    next = sym (add-one k) ∙ one

    pub call_deep : f.depth ≡ 0 → ends_in f (Call x g es) n m (Stopped Depth)
    call_deep none =
        subst (λ d. execs u.layout choice (locals_of f) (Call x g es) (Some d) (functions_below u choice n) m (Stopped Depth)) (sym none)
        (subst (λ i. execs u.layout choice (locals_of f) (Call x g es) (Some 0) (functions_below u choice i) m (Stopped Depth)) next (stops refl))

    module _ (d : ℕ) (deeper : d + 1 ≡ f.depth) where
      call_goes : (o : Outcome E.Flow GuardKind) → Then (simpl_runs u choice k (Some d) invocation) taken o → ends_in f (Call x g es) n m o
      call_goes o y =
          subst (λ j. execs u.layout choice (locals_of f) (Call x g es) (Some j) (functions_below u choice n) m o) (sym (add-one d) ∙ deeper)
          (subst (λ i. execs u.layout choice (locals_of f) (Call x g es) (Some (suc d)) (functions_below u choice i) m o) next y)

      -- a function that is found, with its signature, and the locals with which its body begins
      module _ (fs : List P.Pending) (h : F.SimplFn) (c : K.Caller) (ls : Bor (List D.Binder)) (bs' : Bindings)
          (there : simpl_fn u.functions g ≡ Some (simpl_fn_of h)) (declared : signature (signatures_in f.unit.now) g ≡ Some (signature_of c.called.now))
          (own : ls.now ≡ h.locals.items) (here : option_map string_bytes c.target.now ≡ x) (moved : c.locals.items ≡ bs) (begun : table_of bs' ≡ started (map binder_of ls.now) arguments) where
        abbrev inner : R.Frame
        inner = record f { locals = ls; depth = d }

        abbrev caller : K.Caller
        caller = record c { binders = f.locals; depth = f.depth }

        abbrev before : Point
        before = record { stack = fs; now = Running f (Call x g es) n; locals = bs; state = s }

        abbrev after : Point
        after = record { stack = P.TheVariants.Return caller ∷ fs; now = Running inner (simpl_of h.body) k; locals = bs'; state = s }

        name : string_bytes h.name ≡ g
        name = found_name u.functions g (simpl_fn_of h) there

        module _ (can : CanGoOn before) where
          parts : CallParts f x g es
          parts = call_parts f x g es can.now

          known : parts.called ≡ signature_of c.called.now
          known = same_signature (sym parts.found ∙ declared)

          call : CanBeCalled f.unit.now h c.called.now arguments
          call = record {
            function = subst (λ i. simpl_fn u.functions i ≡ Some (simpl_fn_of h)) (sym name) there;
            signature = subst (λ i. signature (signatures_in f.unit.now) i ≡ Some (signature_of c.called.now)) (sym name) declared;
            arguments = subst (λ r. AreOfSorts (map word_sort_of (kinds_of r.params)) arguments) known
                (arguments_fit f can.frame bs s can.fits es (map word_sort_of (kinds_of parts.called.params)) parts.sorted);
          }

          body_within : Included (Then (ends_in inner (simpl_of h.body) k (machine_in inner bs' s)) (ended (signature_of c.called.now).result)) (simpl_runs u choice k (Some d) invocation)
          body_within = record {
            each = λ o y. subst (λ i. simpl_runs u choice k (Some d) i o) (ap (λ i. record { name = i; arguments = arguments; state = state_in f.unit.now s }) name)
                (function_ends inner h c.called.now arguments can.frame.unit own call bs' s can.fits.state begun k o y);
          }

          whole_within : Included (returned caller (ends_in inner (simpl_of h.body) k (machine_in inner bs' s))) (ends_in f (Call x g es) n m)
          whole_within = record {
            each = λ o y. call_goes o ((then_within _ _ taken body_within).each o
                (subst (λ q. Then (Then (ends_in inner (simpl_of h.body) k (machine_in inner bs' s)) (ended (signature_of c.called.now).result)) (λ r. done (E.Normal (result_into q r m.locals))) o) here
                (subst (λ q. Then (Then (ends_in inner (simpl_of h.body) k (machine_in inner bs' s)) (ended (signature_of c.called.now).result)) (λ r. done (E.Normal (result_into (option_map string_bytes c.target.now) r (env_of q)))) o) moved y)));
          }

          less : cost (simpl_of h.body) (costs_below (functions_of f) k) + (1 + stack_cost (functions_of f) fs) < cost (Call x g es) (costs_below (functions_of f) n) + stack_cost (functions_of f) fs
          less =
              let one_body = cost_of_one (functions_of f) g (simpl_fn_of h) (costs_below (functions_of f) k) there in
              subst (λ i. cost (simpl_of h.body) (costs_below (functions_of f) k) + (1 + stack_cost (functions_of f) fs) < cost (Call x g es) (costs_below (functions_of f) i) + stack_cost (functions_of f) fs) next (omega arith)

          pub call_step : Steps before after
          call_step = record {
            within = resumed_within f fs _ _ whole_within;
            less = less;
            sorted = record {
              frame = body_frame inner h c.called.now arguments can.frame.unit own call;
              fits = body_fits inner h c.called.now arguments can.frame.unit own call bs' s can.fits.state begun;
              now = body_runs inner h c.called.now arguments can.frame.unit own call;
              rest = (
                record {
                  frame = can.frame;
                  locals = subst (λ q. AreLocals (locals_of f) (table_of q)) (sym moved) can.fits.locals;
                  result = holds_own_result inner h c.called.now arguments can.frame.unit own call;
                  target = subst (λ q. fits_target (scope_for f) q (Some (result_scalars word_sort_of (signature_of c.called.now).result)) ≡ true) (sym here)
                      (subst (λ r. fits_target (scope_for f) x (Some (result_scalars word_sort_of r.result)) ≡ true) known parts.target);
                },
                can.rest,
              );
            };
            unit = refl;
          }

-- a body has ended

module _ (f : R.Frame) (c : K.Caller) (fs : List P.Pending) (bs bs' : Bindings) (s : C.CState) (w : W.Flow) where
  abbrev kind : Option Kind
  kind = (signature_of c.called.now).result

  abbrev ended_at : Point
  ended_at = record { stack = P.TheVariants.Return c ∷ fs; now = Ended f w; locals = bs; state = s }

  abbrev result : Option Value
  result = result_of kind (machine_in f bs s)

  body_ends : (v : W.Flow) → Then (done (flow_of v (machine_in f bs s))) (ended kind) (Done (record { result = result; state = state_in f.unit.now s }))
  body_ends W.TheVariants.Normal = goes_on refl refl
  body_ends W.TheVariants.Abrupt = goes_on refl refl

  pub return_step : CanGoOn ended_at → table_of bs' ≡ given_in (option_map string_bytes c.target.now) result (table_of c.locals.items) →
      Steps ended_at (record { stack = fs; now = Ended (caller_frame f c) W.TheVariants.Normal; locals = bs'; state = s })
  return_step can given =
      let own = can.rest.0 in
      let to = given_to (caller_frame f c) c.locals.items bs' s own.frame (record { locals = own.locals; state = can.fits.state }) (option_map string_bytes c.target.now) kind result own.target
      (result_left f bs s can.frame can.fits kind own.result) given in
      record {
        within = resumed_within (caller_frame f c) fs _ _ (done_within _ _ (subst (λ n. returned c (done (flow_of w (machine_in f bs s))) (Done (E.Normal n))) (sym to.machine) (goes_on (body_ends w) refl)));
        less = omega arith;
        sorted = record { frame = own.frame; fits = to.fits; now = tt; rest = can.rest.1 };
        unit = refl;
      }
