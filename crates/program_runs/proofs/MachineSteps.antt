-- Steps of a machine: each end of the whole after a step is one before it, less is to do, and it stays well-sorted.
use Rattle.std.proofs.Common.{◌≡◌, ℕ, zero, suc, ◌+◌, ◌&&◌, Bool, true, false, List, [], ◌∷◌, map, Some, None, refl, sym, ap, ◌∙◌, subst, inl, inr, ◌⊎◌, arith, add-one}
use Rattle.std.proofs.lemmas.Bool.{and_parts}
use Rattle.correspondence.specs.Outcome.{Limit, Turns as OutOfTurns, Depth, Outcome, Done, Failed, Stopped, Ends, done, fault, goes_on, fails, stops, Then, choose, continued}
use Rattle.correspondence.specs.Bound.{called}
use Rattle.correspondence.specs.Included.{Included}
use Rattle.correspondence.proofs.Included.{included_itself, then_within, done_within}
use Rattle.c_values.specs.Name.{Name, are_distinct}
use Rattle.c_values.specs.Value.{Value}
use Rattle.c_values.specs.Choice.{Fill}
use Rattle.c_values.proofs.Options.{some_is}
use Rattle.expression_lang.specs.Expression.{Exp}
use Rattle.expression_lang.specs.Sort.{Scalar, is_truth, sort_of_kind}
use Rattle.expression_lang.specs.Sorted.{program_sort}
use Rattle.expression_lang.specs.Evaluation.{Env, State, holds}
use Rattle.expression_lang.specs.Signature.{bound, values_of, names_of, kinds_of, no_env}
use Rattle.expression_lang.specs.Wide.{Operation, wide}
use Rattle.expression_lang.specs.CodeState.{Bindings, env_of}
use Rattle.monad_lang.specs.Program.{Start, Mon, Bind, If, Loop, Call, FinalFn, FinalUnit, final_fn}
use Rattle.monad_lang.specs.Run.{Answer, start_names, start_values}
use Rattle.monad_lang.specs.Sorted.{Setting, setting_with, scalars_given, start_scalars, are_scalars, where_fits, one_for_each, setting_of}
use Rattle.monad_lang.proofs.Given.{then_parts, fits_parts, given_there}
use Rattle.program_facts.specs.Lasting.{AreOfSorts}
use Rattle.program_runs.specs.WideRun.{Trouble, Fails, IsWide, wide_runs, wide_entered, wide_among, wide_at_starts, unless, wide_function_runs, wide_functions_below}
use Rattle.program_runs.specs.Bound.{Extends}
use Rattle.program_runs.specs.Machine.{Bound, Turns, Pending, Rest, Turn, Caller, Now, Running, Turning, Gave, Machine, runs_at, turns_at, resumed, whole, cost, costs_below, setting_at, IsLoop, Resumes, IsSorted, Steps}
use Rattle.program_runs.proofs.Bindings.{env_extended, scalars_extended, setting_extended}
use Rattle.program_runs.proofs.Costs.{turning_some, cost_some, cost_of_one}

abbrev machine : List Pending → Now → State → Machine
machine fs now s = record { stack = fs; now = now; state = s }

module _ (u : FinalUnit) (k : ℕ) where
  resumed_within : (fs : List Pending) (p q : Ends Answer Trouble) → Included p q → Included (resumed u k fs p) (resumed u k fs q)
  resumed_within [] p q h = h
  resumed_within (Rest bs xs n b ∷ fs) p q h = resumed_within fs _ _ (then_within p q _ h)
  resumed_within (Turn bs t ∷ fs) p q h = resumed_within fs _ _ (then_within p q _ h)
  resumed_within (Caller ∷ fs) p q h = resumed_within fs p q h

  pub resumed_fails : (fs : List Pending) (p : Ends Answer Trouble) (e : Trouble) → p (Failed e) → resumed u k fs p (Failed e)
  resumed_fails [] p e h = h
  resumed_fails (Rest bs xs n b ∷ fs) p e h = resumed_fails fs _ e (fails h)
  resumed_fails (Turn bs t ∷ fs) p e h = resumed_fails fs _ e (fails h)
  resumed_fails (Caller ∷ fs) p e h = resumed_fails fs p e h

  pub resumed_stops : (fs : List Pending) (p : Ends Answer Trouble) (w : Limit) → p (Stopped w) → resumed u k fs p (Stopped w)
  resumed_stops [] p w h = h
  resumed_stops (Rest bs xs n b ∷ fs) p w h = resumed_stops fs _ w (stops h)
  resumed_stops (Turn bs t ∷ fs) p w h = resumed_stops fs _ w (stops h)
  resumed_stops (Caller ∷ fs) p w h = resumed_stops fs p w h

  module _ (out : List Scalar) (fs : List Pending) (s : State) where
    -- a program gives its values at once
    pub gives : (bs : Bindings) (m : Mon) (b : Bound) (vs : List Value) (s' : State) (ss : List Scalar) → runs_at u k (env_of bs) m b s (Done (record { values = vs; state = s' })) →
        AreOfSorts ss vs → Resumes u fs ss out → Steps u k out (machine fs (Running bs m b) s) (machine fs (Gave vs) s')
    gives bs m b vs s' ss h sorted rest =
        let some = cost_some m (costs_below u.functions b.turns) in
        record {
          within = resumed_within fs _ _ (done_within _ _ h);
          less = omega arith;
          sorted = record { here = ss; now = sorted; rest = rest };
        }

    pub bind_begins : (bs : Bindings) (m n : Mon) (xs : List Name) (b : Bound) → IsSorted u (machine fs (Running bs (Bind m xs n) b) s) out →
        Steps u k out (machine fs (Running bs (Bind m xs n) b) s) (machine (Rest bs xs n b ∷ fs) (Running bs m b) s)
    bind_begins bs m n xs b h =
        let o = then_parts (scalars_given (setting_at u bs) m) (λ ss. where_fits (one_for_each xs ss && are_distinct xs) (scalars_given (setting_with xs ss (setting_at u bs)) n)) h.here h.now.gives in
        let f = fits_parts (one_for_each xs o.0 && are_distinct xs) (scalars_given (setting_with xs o.0 (setting_at u bs)) n) h.here o.2 in
        record {
          within = included_itself _;
          less = omega arith;
          sorted = record {
            here = o.0;
            now = record { bindings = h.now.bindings; gives = o.1 };
            rest = (h.here, record { bindings = h.now.bindings; gives = f.1 }, h.rest);
          };
        }

    if_sorted : (bs : Bindings) (e : Exp) (m n : Mon) (ss : List Scalar) → scalars_given (setting_at u bs) (If e m n) ≡ Some ss → (scalars_given (setting_at u bs) m ≡ Some ss) × (scalars_given (setting_at u bs) n ≡ Some ss)
    if_sorted bs e m n ss h =
        let o = then_parts (scalars_given (setting_at u bs) m) (λ cs. where_fits (is_truth (program_sort (setting_at u bs).scope e) && are_scalars cs (scalars_given (setting_at u bs) n)) (Some cs)) ss h in
        let f = fits_parts (is_truth (program_sort (setting_at u bs).scope e) && are_scalars o.0 (scalars_given (setting_at u bs) n)) (Some o.0) ss o.2 in
        let p = and_parts (is_truth (program_sort (setting_at u bs).scope e)) (are_scalars o.0 (scalars_given (setting_at u bs) n)) f.0 in
        (o.1 ∙ f.1, given_there o.0 (scalars_given (setting_at u bs) n) p.1 ∙ f.1)

    module _ (bs : Bindings) (e : Exp) (m n : Mon) (b : Bound) (narrow : wide u.layout (env_of bs) s e ≡ None) (h : IsSorted u (machine fs (Running bs (If e m n) b) s) out) where
      branch : (test : Bool) → holds u.layout (env_of bs) s e ≡ test → Included (choose test (runs_at u k (env_of bs) m b s) (runs_at u k (env_of bs) n b s)) (runs_at u k (env_of bs) (If e m n) b s)
      branch test h = record {
        each = λ o x. subst (λ w. unless w (choose (holds u.layout (env_of bs) s e) (runs_at u k (env_of bs) m b s) (runs_at u k (env_of bs) n b s)) o) (sym narrow)
            (subst (λ t. choose t (runs_at u k (env_of bs) m b s) (runs_at u k (env_of bs) n b s) o) (sym h) x);
      }

      pub if_holds : holds u.layout (env_of bs) s e ≡ true → Steps u k out (machine fs (Running bs (If e m n) b) s) (machine fs (Running bs m b) s)
      if_holds test = record {
        within = resumed_within fs _ _ (branch true test);
        less = omega arith;
        sorted = record { here = h.here; now = record { bindings = h.now.bindings; gives = (if_sorted bs e m n h.here h.now.gives).0 }; rest = h.rest };
      }

      pub if_not : holds u.layout (env_of bs) s e ≡ false → Steps u k out (machine fs (Running bs (If e m n) b) s) (machine fs (Running bs n b) s)
      if_not test = record {
        within = resumed_within fs _ _ (branch false test);
        less = omega arith;
        sorted = record { here = h.here; now = record { bindings = h.now.bindings; gives = (if_sorted bs e m n h.here h.now.gives).1 }; rest = h.rest };
      }

    pub rest_begins : (bs new : Bindings) (xs : List Name) (n : Mon) (b : Bound) (vs : List Value) → Extends bs xs vs new → IsSorted u (machine (Rest bs xs n b ∷ fs) (Gave vs) s) out →
        Steps u k out (machine (Rest bs xs n b ∷ fs) (Gave vs) s) (machine fs (Running new n b) s)
    rest_begins bs new xs n b vs x h = record {
      within = resumed_within fs _ _ (record { each = λ o e. goes_on refl (subst (λ env. runs_at u k env n b s o) (env_extended bs xs vs new x) e) });
      less = omega arith;
      sorted = record {
        here = h.rest.0;
        now = record {
          bindings = scalars_extended bs xs vs new x h.here h.now h.rest.1.bindings;
          gives = ap (λ t. scalars_given t n) (setting_extended bs xs vs new x h.here h.now u) ∙ h.rest.1.gives;
        };
        rest = h.rest.2;
      };
    }

    pub caller_goes_on : (vs : List Value) → IsSorted u (machine (Caller ∷ fs) (Gave vs) s) out → Steps u k out (machine (Caller ∷ fs) (Gave vs) s) (machine fs (Gave vs) s)
    caller_goes_on vs h = record { within = included_itself _; less = omega arith; sorted = record { here = h.here; now = h.now; rest = h.rest } }

    pub turn_comes : (bs : Bindings) (t : Turns) (vs : List Value) → IsSorted u (machine (Turn bs t ∷ fs) (Gave vs) s) out →
        Steps u k out (machine (Turn bs t ∷ fs) (Gave vs) s) (machine fs (Turning bs t vs) s)
    turn_comes bs t vs h = record {
      within = resumed_within fs _ _ (record { each = λ o e. goes_on refl e });
      less = omega arith;
      sorted = record { here = h.here; now = (h.rest.0, h.now); rest = h.rest.1 };
    }

    -- loops

    module _ (bs : Bindings) (starts : List Start) (guard test : Exp) (m : Mon) (b : Bound) (xs : List Name) where
      abbrev loop_of : Turns
      loop_of = record { names = xs; guard = guard; test = test; body = m; left = b }

      pub loop_begins : (vs : List Value) → start_names starts ≡ xs → wide_at_starts u.layout (env_of bs) s starts ≡ None → vs ≡ start_values u.layout (env_of bs) s starts →
          ((ss : List Scalar) → start_scalars (setting_at u bs).scope starts ≡ Some ss → AreOfSorts ss vs) →
          IsSorted u (machine fs (Running bs (Loop starts guard test m) b) s) out →
          Steps u k out (machine fs (Running bs (Loop starts guard test m) b) s) (machine fs (Turning bs loop_of vs) s)
      loop_begins vs named narrow same sorted h =
          let t = setting_at u bs in
          let inner : List Scalar → Setting = λ ss. setting_with (start_names starts) ss t in
          let i = then_parts (start_scalars t.scope starts)
          (λ ss. where_fits (are_distinct (start_names starts) && is_truth (program_sort (inner ss).scope guard) && is_truth (program_sort (inner ss).scope test) && are_scalars ss (scalars_given (inner ss) m)) (Some ss)) h.here h.now.gives in
          let two = are_distinct (start_names starts) && is_truth (program_sort (inner i.0).scope guard) in
          let all = two && is_truth (program_sort (inner i.0).scope test) in
          let j = fits_parts (all && are_scalars i.0 (scalars_given (inner i.0) m)) (Some i.0) h.here i.2 in
          let p = and_parts all (are_scalars i.0 (scalars_given (inner i.0) m)) j.0 in
          let q = and_parts two (is_truth (program_sort (inner i.0).scope test)) p.0 in
          let r = and_parts (are_distinct (start_names starts)) (is_truth (program_sort (inner i.0).scope guard)) q.0 in
          let made : IsLoop u bs (record { names = start_names starts; guard = guard; test = test; body = m; left = b }) i.0 =
          record { bindings = h.now.bindings; guard = r.1; test = q.1; body = given_there i.0 (scalars_given (inner i.0) m) p.1 } in
          record {
            within = resumed_within fs _ _ (record {
              each = λ o e. subst (λ w. unless w (turns_at u k (env_of bs) (record { names = start_names starts; guard = guard; test = test; body = m; left = b }) (record { values = start_values u.layout (env_of bs) s starts; state = s })) o) (sym narrow)
                  (subst (λ ns. turns_at u k (env_of bs) (record { names = ns; guard = guard; test = test; body = m; left = b }) (record { values = start_values u.layout (env_of bs) s starts; state = s }) o) (sym named)
                  (subst (λ ws. turns_at u k (env_of bs) loop_of (record { values = ws; state = s }) o) same e));
            });
            less = omega arith;
            sorted = record {
              here = i.0;
              now = (subst (λ ns. IsLoop u bs (record { names = ns; guard = guard; test = test; body = m; left = b }) i.0) named made, sorted i.0 i.1);
              rest = subst (λ cs. Resumes u fs cs out) (sym (some_is j.1)) h.rest;
            };
          }

    module _ (bs new : Bindings) (t : Turns) (vs : List Value) (x : Extends bs t.names vs new) where
      abbrev here : Answer
      here = record { values = vs; state = s }

      abbrev enters : Ends (Answer ⊎ Answer) Trouble
      enters = wide_entered u.layout t.guard t.test (λ a. bound t.names a.values (env_of bs)) here

      at_new : (P : Env → Type 0) → P (env_of new) → P (bound t.names vs (env_of bs))
      at_new P h = subst P (env_extended bs t.names vs new x) h

      module _ (narrow : wide u.layout (env_of new) s t.guard ≡ None) where
        guarded : (o : Outcome (Answer ⊎ Answer) Trouble) (test : Bool) → holds u.layout (env_of new) s t.guard ≡ test →
            choose test (unless (wide u.layout (env_of new) s t.test) (choose (holds u.layout (env_of new) s t.test) (done (inl here)) (done (inr here)))) (fault Fails) o → enters o
        guarded o test h e =
            at_new (λ env. unless (wide u.layout env s t.guard) (choose (holds u.layout env s t.guard) (unless (wide u.layout env s t.test) (choose (holds u.layout env s t.test) (done (inl here)) (done (inr here)))) (fault Fails)) o)
            (subst (λ w. unless w (choose (holds u.layout (env_of new) s t.guard) (unless (wide u.layout (env_of new) s t.test) (choose (holds u.layout (env_of new) s t.test) (done (inl here)) (done (inr here)))) (fault Fails)) o) (sym narrow)
            (subst (λ c. choose c (unless (wide u.layout (env_of new) s t.test) (choose (holds u.layout (env_of new) s t.test) (done (inl here)) (done (inr here)))) (fault Fails) o) (sym h) e))

        pub guard_fails : holds u.layout (env_of new) s t.guard ≡ false → whole u k (machine fs (Turning bs t vs) s) (Failed Fails)
        guard_fails h = resumed_fails fs _ Fails (at_turns t.left.turns (guarded (Failed Fails) false h refl))
          where
            at_turns : (n : ℕ) → enters (Failed Fails) → turns_at u k (env_of bs) (record { names = t.names; guard = t.guard; test = t.test; body = t.body; left = record { turns = n; depth = t.left.depth } }) here (Failed Fails)
            at_turns zero e = fails e
            at_turns (suc n) e = fails e

        module _ (on : holds u.layout (env_of new) s t.guard ≡ true) where
          pub test_wide : (o : Operation) → wide u.layout (env_of new) s t.test ≡ Some o → whole u k (machine fs (Turning bs t vs) s) (Failed (IsWide o))
          test_wide w h = resumed_fails fs _ (IsWide w) (at_turns t.left.turns (guarded (Failed (IsWide w)) true on (subst (λ p. unless p (choose (holds u.layout (env_of new) s t.test) (done (inl here)) (done (inr here))) (Failed (IsWide w))) (sym h) refl)))
            where
              at_turns : (n : ℕ) → enters (Failed (IsWide w)) → turns_at u k (env_of bs) (record { names = t.names; guard = t.guard; test = t.test; body = t.body; left = record { turns = n; depth = t.left.depth } }) here (Failed (IsWide w))
              at_turns zero e = fails e
              at_turns (suc n) e = fails e

          module _ (narrow_test : wide u.layout (env_of new) s t.test ≡ None) where
            tested : (o : Outcome (Answer ⊎ Answer) Trouble) (test : Bool) → holds u.layout (env_of new) s t.test ≡ test → choose test (done (inl here)) (done (inr here)) o → enters o
            tested o test h e =
                guarded o true on (subst (λ w. unless w (choose (holds u.layout (env_of new) s t.test) (done (inl here)) (done (inr here))) o) (sym narrow_test) (subst (λ c. choose c (done (inl here)) (done (inr here)) o) (sym h) e))

            pub loop_ends : holds u.layout (env_of new) s t.test ≡ false → IsSorted u (machine fs (Turning bs t vs) s) out → Steps u k out (machine fs (Turning bs t vs) s) (machine fs (Gave vs) s)
            loop_ends h sorted =
                let some = turning_some (cost t.body) (costs_below u.functions t.left.turns) in
                record {
                  within = resumed_within fs _ _ (done_within _ _ (at_turns t.left.turns (tested (Done (inr here)) false h refl)));
                  less = omega arith;
                  sorted = record { here = sorted.here; now = sorted.now.1; rest = sorted.rest };
                }
              where
                at_turns : (n : ℕ) → enters (Done (inr here)) → turns_at u k (env_of bs) (record { names = t.names; guard = t.guard; test = t.test; body = t.body; left = record { turns = n; depth = t.left.depth } }) here (Done here)
                at_turns zero e = goes_on e refl
                at_turns (suc n) e = goes_on e refl

            pub loop_out : holds u.layout (env_of new) s t.test ≡ true → t.left.turns ≡ 0 → whole u k (machine fs (Turning bs t vs) s) (Stopped OutOfTurns)
            loop_out h none =
                resumed_stops fs _ OutOfTurns
                (subst (λ n. turns_at u k (env_of bs) (record { names = t.names; guard = t.guard; test = t.test; body = t.body; left = record { turns = n; depth = t.left.depth } }) here (Stopped OutOfTurns)) (sym none)
                (goes_on (tested (Done (inl here)) true h refl) refl))

    -- a turn that is made takes one
    module _ (bs new : Bindings) (xs : List Name) (guard test : Exp) (m : Mon) (n d : ℕ) (vs : List Value) where
      abbrev loop_left : ℕ → Turns
      loop_left i = record { names = xs; guard = guard; test = test; body = m; left = record { turns = i; depth = d } }

      regroup : {A B F : Type 0} (p : Ends A F) (q : A → Ends B F) (o : Outcome B F) → Then p q o → Then (Then p (λ b. done (inl b))) (continued q) o
      regroup p q o (goes_on x y) = goes_on (goes_on x refl) y
      regroup p q (Failed f) (fails x) = fails (fails x)
      regroup p q (Stopped w) (stops x) = stops (stops x)

      turn_ends : Extends bs xs vs new → wide_entered u.layout guard test (λ a. bound xs a.values (env_of bs)) (record { values = vs; state = s }) (Done (inl (record { values = vs; state = s }))) →
          (o : Outcome Answer Trouble) → Then (runs_at u k (env_of new) m (record { turns = n; depth = d }) s) (turns_at u k (env_of bs) (loop_left n)) o →
          turns_at u k (env_of bs) (loop_left (suc n)) (record { values = vs; state = s }) o
      turn_ends x enter o e =
          goes_on enter (regroup (runs_at u k (bound xs vs (env_of bs)) m (record { turns = n; depth = d }) s) (turns_at u k (env_of bs) (loop_left n)) o
          (subst (λ env. Then (runs_at u k env m (record { turns = n; depth = d }) s) (turns_at u k (env_of bs) (loop_left n)) o) (env_extended bs xs vs new x) e))

      pub turn_begins : (all : ℕ) → n + 1 ≡ all → Extends bs xs vs new →
          wide u.layout (env_of new) s guard ≡ None → holds u.layout (env_of new) s guard ≡ true → wide u.layout (env_of new) s test ≡ None → holds u.layout (env_of new) s test ≡ true →
          IsSorted u (machine fs (Turning bs (loop_left all) vs) s) out →
          Steps u k out (machine fs (Turning bs (loop_left all) vs) s) (machine (Turn bs (loop_left n) ∷ fs) (Running new m (record { turns = n; depth = d })) s)
      turn_begins all one x narrow on narrow_test h sorted =
          let same : suc n ≡ all = sym (add-one n) ∙ one in
          subst (λ i. Steps u k out (machine fs (Turning bs (loop_left i) vs) s) (machine (Turn bs (loop_left n) ∷ fs) (Running new m (record { turns = n; depth = d })) s)) same
          (record {
            within = resumed_within fs _ _ (record { each = turn_ends x (tested bs new (loop_left all) vs x narrow on narrow_test (Done (inl (record { values = vs; state = s }))) true h refl) });
            less = omega arith;
            sorted = record {
              here = sorted.here;
              now = record {
                bindings = scalars_extended bs xs vs new x sorted.here sorted.now.1 sorted.now.0.bindings;
                gives = ap (λ t. scalars_given t m) (setting_extended bs xs vs new x sorted.here sorted.now.1 u) ∙ sorted.now.0.body;
              };
              rest = (record { bindings = sorted.now.0.bindings; guard = sorted.now.0.guard; test = sorted.now.0.test; body = sorted.now.0.body }, sorted.rest);
            };
          })

    -- a call takes a turn, and is one deeper
    module _ (bs new : Bindings) (f : Name) (es : List Exp) (n d : ℕ) (vs : List Value) (body : FinalFn) where
      abbrev call_at : ℕ → ℕ → Now
      call_at i j = Running bs (Call f es) (record { turns = i; depth = j })

      pub call_wide : (i j : ℕ) (o : Operation) → wide_among u.layout (env_of bs) s es ≡ Some o → whole u k (machine fs (call_at i j) s) (Failed (IsWide o))
      call_wide i j o h = resumed_fails fs _ (IsWide o) (subst (λ w. unless w (called (wide_functions_below u (Fill k) i) (Some j) (record { name = f; arguments = values_of u.layout (env_of bs) s es; state = s })) (Failed (IsWide o))) (sym h) refl)

      module _ (narrow : wide_among u.layout (env_of bs) s es ≡ None) where
        at_narrow : (i j : ℕ) (o : Outcome Answer Trouble) → called (wide_functions_below u (Fill k) i) (Some j) (record { name = f; arguments = values_of u.layout (env_of bs) s es; state = s }) o →
            runs_at u k (env_of bs) (Call f es) (record { turns = i; depth = j }) s o
        at_narrow i j o h = subst (λ w. unless w (called (wide_functions_below u (Fill k) i) (Some j) (record { name = f; arguments = values_of u.layout (env_of bs) s es; state = s })) o) (sym narrow) h

        pub call_out : (i j : ℕ) → i ≡ 0 → whole u k (machine fs (call_at i j) s) (Stopped OutOfTurns)
        call_out i j none = resumed_stops fs _ OutOfTurns (subst (λ q. runs_at u k (env_of bs) (Call f es) (record { turns = q; depth = j }) s (Stopped OutOfTurns)) (sym none) (at_narrow 0 j (Stopped OutOfTurns) refl))

        pub call_deep : (i j : ℕ) → n + 1 ≡ i → j ≡ 0 → whole u k (machine fs (call_at i j) s) (Stopped Depth)
        call_deep i j one none =
            resumed_stops fs _ Depth (subst (λ q. runs_at u k (env_of bs) (Call f es) (record { turns = q; depth = j }) s (Stopped Depth)) (sym (add-one n) ∙ one)
            (subst (λ q. runs_at u k (env_of bs) (Call f es) (record { turns = suc n; depth = q }) s (Stopped Depth)) (sym none) (at_narrow (suc n) 0 (Stopped Depth) refl)))

        call_ends : vs ≡ values_of u.layout (env_of bs) s es → final_fn u.functions f ≡ Some body → Extends [] (names_of body.params) vs new → (o : Outcome Answer Trouble) →
            runs_at u k (env_of new) body.body (record { turns = n; depth = d }) s o → runs_at u k (env_of bs) (Call f es) (record { turns = suc n; depth = suc d }) s o
        call_ends same there x o h =
            at_narrow (suc n) (suc d) o
            (subst (λ r. wide_function_runs u.layout (Fill k) r (Some d) (wide_functions_below u (Fill k) n) (record { name = f; arguments = values_of u.layout (env_of bs) s es; state = s }) o) (sym there)
            (subst (λ ws. wide_runs u.layout (Fill k) body.body (bound (names_of body.params) ws no_env) (Some d) (wide_functions_below u (Fill k) n) s o) same
            (subst (λ env. wide_runs u.layout (Fill k) body.body env (Some d) (wide_functions_below u (Fill k) n) s o) (env_extended [] (names_of body.params) vs new x) h)))

        pub call_begins : (i j : ℕ) → n + 1 ≡ i → d + 1 ≡ j → vs ≡ values_of u.layout (env_of bs) s es → final_fn u.functions f ≡ Some body → Extends [] (names_of body.params) vs new →
            AreOfSorts (map sort_of_kind (kinds_of body.params)) vs → (ss : List Scalar) → scalars_given (setting_of u body) body.body ≡ Some ss → Resumes u fs ss out →
            Steps u k out (machine fs (call_at i j) s) (machine (Caller ∷ fs) (Running new body.body (record { turns = n; depth = d })) s)
        call_begins i j one deeper same there x sorted ss gives rest =
            let less = cost_of_one u.functions f body (costs_below u.functions n) there in
            subst (λ q. Steps u k out (machine fs (call_at q j) s) (machine (Caller ∷ fs) (Running new body.body (record { turns = n; depth = d })) s)) (sym (add-one n) ∙ one)
            (subst (λ q. Steps u k out (machine fs (call_at (suc n) q) s) (machine (Caller ∷ fs) (Running new body.body (record { turns = n; depth = d })) s)) (sym (add-one d) ∙ deeper)
            (record {
              within = resumed_within fs _ _ (record { each = call_ends same there x });
              less = omega arith;
              sorted = record {
                here = ss;
                now = record {
                  bindings = scalars_extended [] (names_of body.params) vs new x (map sort_of_kind (kinds_of body.params)) sorted tt;
                  gives = ap (λ t. scalars_given t body.body) (setting_extended [] (names_of body.params) vs new x (map sort_of_kind (kinds_of body.params)) sorted u) ∙ gives;
                };
                rest = rest;
              };
            }))
