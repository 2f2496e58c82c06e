-- A loop that comes to its guard.
use Rattle.std.proofs.Common.{◌≡◌, ℕ, zero, suc, ◌+◌, true, false, List, [], ◌∷◌, ◌++◌, length, reverse, take, Option, Some, None, refl, sym, ap, ◌∙◌, subst, inl, inr, ◌⊎◌}
use Rattle.std.proofs.Math.Seq.{take-append_seam}
use Rattle.std.specs.Prelude.{IsSome}
use Rattle.correspondence.specs.Outcome.{Turns as OutOfTurns, Done, Failed, Stopped, Ends, done, fault, goes_on, fails, choose}
use Rattle.c_values.specs.Name.{Name}
use Rattle.c_values.specs.Value.{Value}
use Rattle.expression_lang.specs.Sort.{Scalar, sort_of, is_truth}
use Rattle.expression_lang.specs.Sorted.{program_sort}
use Rattle.expression_lang.specs.Evaluation.{Env, State, holds}
use Rattle.expression_lang.specs.Signature.{bound}
use Rattle.expression_lang.specs.Wide.{Operation, wide}
use Rattle.expression_lang.specs.CodeState.{Bindings, env_of, AreScalars}
use Rattle.monad_lang.specs.Program.{FinalUnit}
use Rattle.monad_lang.specs.Run.{Answer}
use Rattle.monad_lang.specs.CodeProgram.{mon_of}
use Rattle.program_runs.specs.declared.ends.Stop as P
use Rattle.program_runs.specs.declared.machine.Pending as W
use Rattle.program_runs.specs.declared.machine.Turns as T
use Rattle.program_runs.specs.WideRun.{Trouble, Fails, IsWide, unless}
use Rattle.program_runs.specs.Bound.{Extends}
use Rattle.program_runs.specs.Machine.{Turns, Turn, Running, Turning, Gave, turns_at, setting_at, IsSorted, Steps, CanTurn, Enters}
use Rattle.program_runs.specs.CodeRun.{IsMet, HasStopped, stack_of, machine_at, turns_of}
use Rattle.program_runs.proofs.Bindings.{env_extended, scalars_extended, setting_extended}
use Rattle.program_runs.proofs.Leading.{unless_none, choose_true, choose_false, truth_sorted}
use Rattle.program_runs.proofs.MachineSteps.{loop_ends, turn_begins}
use Rattle.program_runs.proofs.Stacks.{pushed_first}

module _ (u : FinalUnit) (bs new : Bindings) (t : Turns) (vs : List Value) (x : Extends bs t.names vs new) (h : CanTurn u bs t vs) where
  pub bindings_there : AreScalars new
  bindings_there = scalars_extended bs t.names vs new x h.scalars h.values h.loop.bindings

  pub guard_there : IsSome (sort_of (setting_at u new).scope t.guard)
  guard_there = truth_sorted (setting_at u new).scope t.guard (subst (λ g. is_truth (program_sort g.scope t.guard) ≡ true) (sym (setting_extended bs t.names vs new x h.scalars h.values u)) h.loop.guard)

  pub test_there : IsSome (sort_of (setting_at u new).scope t.test)
  test_there = truth_sorted (setting_at u new).scope t.test (subst (λ g. is_truth (program_sort g.scope t.test) ≡ true) (sym (setting_extended bs t.names vs new x h.scalars h.values u)) h.loop.test)

module _ (u : FinalUnit) (k : ℕ) (bs new : Bindings) (t : Turns) (vs : List Value) (x : Extends bs t.names vs new) (s : State) where
  abbrev here : Answer
  here = record { values = vs; state = s }

  abbrev enter_at : Env → Ends (Answer ⊎ Answer) Trouble
  enter_at env =
      unless (wide u.layout env s t.guard) (choose (holds u.layout env s t.guard) (unless (wide u.layout env s t.test) (choose (holds u.layout env s t.test) (done (inl here)) (done (inr here)))) (fault Fails))

  fails_at : (e : Trouble) → enter_at (env_of new) (Failed e) → turns_at u k (env_of bs) t here (Failed e)
  fails_at e h = at_turns t.left.turns (subst (λ env. enter_at env (Failed e)) (env_extended bs t.names vs new x) h)
    where
      at_turns : (n : ℕ) → enter_at (bound t.names vs (env_of bs)) (Failed e) → turns_at u k (env_of bs) (record { names = t.names; guard = t.guard; test = t.test; body = t.body; left = record { turns = n; depth = t.left.depth } }) here (Failed e)
      at_turns zero e = fails e
      at_turns (suc n) e = fails e

  pub guard_off : wide u.layout (env_of new) s t.guard ≡ None → holds u.layout (env_of new) s t.guard ≡ false → turns_at u k (env_of bs) t here (Failed Fails)
  guard_off narrow off = fails_at Fails (unless_none (wide u.layout (env_of new) s t.guard) _ _ narrow (choose_false (holds u.layout (env_of new) s t.guard) _ _ _ off refl))

  unless_some : {A : Type 0} (o : Option Operation) (p : Ends A Trouble) (w : Operation) → o ≡ Some w → unless o p (Failed (IsWide w))
  unless_some (Some v) p w h = let same : v ≡ w = cc in subst (λ y. IsWide w ≡ IsWide y) (sym same) refl
  unless_some None p w h = absurd cc

  pub guard_met : (p : P.Stop) → IsMet (wide u.layout (env_of new) s t.guard) p → HasStopped (turns_at u k (env_of bs) t here) p
  guard_met (P.TheVariants.Wide op a b) h = fails_at _ (unless_some (wide u.layout (env_of new) s t.guard) _ _ h)
  guard_met P.TheVariants.Memory h = tt
  guard_met _ h = absurd h

  module _ (narrow : wide u.layout (env_of new) s t.guard ≡ None) (on : holds u.layout (env_of new) s t.guard ≡ true) where
    pub test_met : (p : P.Stop) → IsMet (wide u.layout (env_of new) s t.test) p → HasStopped (turns_at u k (env_of bs) t here) p
    test_met (P.TheVariants.Wide op a b) h =
        fails_at _ (unless_none (wide u.layout (env_of new) s t.guard) _ _ narrow (choose_true (holds u.layout (env_of new) s t.guard) _ _ _ on (unless_some (wide u.layout (env_of new) s t.test) _ _ h)))
    test_met P.TheVariants.Memory h = tt
    test_met _ h = absurd h

  pub turns_out : Enters u new t s true → t.left.turns ≡ 0 → turns_at u k (env_of bs) t here (Stopped OutOfTurns)
  turns_out h none =
      subst (λ n. turns_at u k (env_of bs) (record { names = t.names; guard = t.guard; test = t.test; body = t.body; left = record { turns = n; depth = t.left.depth } }) here (Stopped OutOfTurns)) (sym none)
      (goes_on (subst (λ env. enter_at env (Done (inl here))) (env_extended bs t.names vs new x)
      (unless_none (wide u.layout (env_of new) s t.guard) _ _ h.narrow_guard (choose_true (holds u.layout (env_of new) s t.guard) _ _ _ h.guard
      (unless_none (wide u.layout (env_of new) s t.test) _ _ h.narrow_test (choose_true (holds u.layout (env_of new) s t.test) _ _ _ h.test refl))))) refl)

cut_back : (bs new : Bindings) (xs : List Name) (vs : List Value) → Extends bs xs vs new → take (length bs) new ≡ bs
cut_back bs new xs vs x = ap (take (length bs)) x.same ∙ take-append_seam bs x.more

module _ (u : FinalUnit) (k : ℕ) (out : List Scalar) (s : State) (bs new : Bindings) (items : List W.Pending) (vs : List Value) (mark : ℕ) (same : mark ≡ length bs) where
  pub turn_leaves : (t : _) (cut : Bindings) → Extends bs (turns_of t).names vs new → cut ≡ take mark new → Enters u new (turns_of t) s false → IsSorted u (machine_at bs items (Turning bs (turns_of t) vs) s) out →
      Steps u k out (machine_at bs items (Turning bs (turns_of t) vs) s) (machine_at cut items (Gave vs) s)
  turn_leaves t cut x is e h =
      subst (λ q. Steps u k out (machine_at bs items (Turning bs (turns_of t) vs) s) (machine_at q items (Gave vs) s)) (sym (is ∙ ap (λ i. take i new) same ∙ cut_back bs new (turns_of t).names vs x))
      (loop_ends u k out (stack_of bs (reverse items)) s bs new (turns_of t) vs x e.narrow_guard e.guard e.narrow_test e.test h)

  pub turn_pushed : (news : List W.Pending) (t : T.Turns) (n : ℕ) → news ≡ items ++ (W.TheVariants.Turn (record { starts = t.starts; guard = t.guard; test = t.test; body = t.body; left = record { turns = n; depth = t.left.depth } }) mark ∷ []) →
      n + 1 ≡ t.left.turns → Extends bs (turns_of t).names vs new → Enters u new (turns_of t) s true → IsSorted u (machine_at bs items (Turning bs (turns_of t) vs) s) out →
      Steps u k out (machine_at bs items (Turning bs (turns_of t) vs) s) (machine_at new news (Running new (mon_of t.body.now) (record { turns = n; depth = t.left.depth })) s)
  turn_pushed news t n grown one x e h =
      let left : Turns = record { names = (turns_of t).names; guard = (turns_of t).guard; test = (turns_of t).test; body = (turns_of t).body; left = record { turns = n; depth = t.left.depth } } in
      subst (λ st. Steps u k out (machine_at bs items (Turning bs (turns_of t) vs) s) (record { stack = st; now = Running new (mon_of t.body.now) (record { turns = n; depth = t.left.depth }); state = s }))
      (sym (pushed_first new items news _ grown ∙ ap (λ q. Turn q left ∷ stack_of q (reverse items)) (ap (λ i. take i new) same ∙ cut_back bs new (turns_of t).names vs x)))
      (turn_begins u k out (stack_of bs (reverse items)) s bs new (turns_of t).names (turns_of t).guard (turns_of t).test (turns_of t).body n t.left.depth vs t.left.turns one x e.narrow_guard e.guard e.narrow_test e.test h)
