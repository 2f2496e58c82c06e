-- The code's stack: what is pushed comes first, and bindings behind those that count change nothing.
use Rattle.std.proofs.Common.{◌≡◌, ℕ, ◌≤◌, List, [], ◌∷◌, ◌++◌, length, map, reverse, take, refl, sym, ap, ◌∙◌, subst, arith}
use Rattle.std.proofs.lemmas.List.{reverse-append, take-append-le, length-take-le}
use Rattle.std.proofs.Math.Seq.{take-length}
use Rattle.std.specs.Prelude.{string_bytes}
use Rattle.expression_lang.specs.Sort.{Scalar}
use Rattle.expression_lang.specs.Evaluation.{State}
use Rattle.c_values.specs.Name.{Name}
use Rattle.c_values.specs.Value.{Value}
use Rattle.expression_lang.specs.CodeState.{Bindings}
use Rattle.monad_lang.specs.Program.{Mon, Bind, FinalUnit}
use Rattle.monad_lang.specs.CodeProgram.{mon_of}
use Rattle.program_runs.specs.declared.machine.Pending as W
use Rattle.program_runs.specs.Bound.{Extends}
use Rattle.program_runs.specs.Machine.{Rest, Turn, Running, Turning, Gave, IsSorted, Steps}
use Rattle.program_runs.specs.CodeRun.{stack_of, AreMarked, machine_at, bound_of, turns_of}
use Rattle.program_runs.proofs.MachineSteps.{bind_begins, rest_begins, turn_comes}

pub pushed_first : (bs : Bindings) (items news : List W.Pending) (x : W.Pending) → news ≡ items ++ (x ∷ []) → stack_of bs (reverse news) ≡ stack_of bs (x ∷ reverse items)
pushed_first bs items news x h = ap (stack_of bs) (ap reverse h ∙ reverse-append items (x ∷ []))

pub stack_behind : (bs more : Bindings) (fs : List W.Pending) → AreMarked (length bs) fs → stack_of (bs ++ more) fs ≡ stack_of bs fs
stack_behind bs more [] h = refl
stack_behind bs more (W.TheVariants.Rest xs n mark b ∷ fs) h = ap (λ q. Rest q (map string_bytes xs.now) (mon_of n.now) (bound_of b) ∷ stack_of q fs) (take-append-le mark bs more h.0)
stack_behind bs more (W.TheVariants.Turn t mark ∷ fs) h = ap (λ q. Turn q (turns_of t) ∷ stack_of q fs) (take-append-le mark bs more h.0)
stack_behind bs more (W.TheVariants.Caller env ∷ fs) h = refl

pub marks_grow : (m n : ℕ) (fs : List W.Pending) → m ≤ n → AreMarked m fs → AreMarked n fs
marks_grow m n [] le h = tt
marks_grow m n (W.TheVariants.Rest xs p mark b ∷ fs) le h = (omega (arith, h.0), h.1)
marks_grow m n (W.TheVariants.Turn t mark ∷ fs) le h = (omega (arith, h.0), h.1)
marks_grow m n (W.TheVariants.Caller env ∷ fs) le h = h

pub length_grows : (bs more : Bindings) → length bs ≤ length (bs ++ more)
length_grows [] more = omega arith
length_grows (b ∷ bs) more = let h = length_grows bs more in omega arith

module _ (bs : Bindings) (xs : List Name) (vs : List Value) (new : Bindings) (x : Extends bs xs vs new) (fs : List W.Pending) (h : AreMarked (length bs) fs) where
  pub stack_extended : stack_of new fs ≡ stack_of bs fs
  stack_extended = ap (λ q. stack_of q fs) x.same ∙ stack_behind bs x.more fs h

  pub marks_extended : AreMarked (length new) fs
  marks_extended = subst (λ q. AreMarked (length q) fs) (sym x.same) (marks_grow (length bs) (length (bs ++ x.more)) fs (length_grows bs x.more) h)

module _ (u : FinalUnit) (k : ℕ) (out : List Scalar) (s : State) where
  pub rest_pushed : (bs : Bindings) (items news : List W.Pending) (m : Mon) (xs : _) (n : _) (mark : ℕ) (b : _) → mark ≡ length bs → news ≡ items ++ (W.TheVariants.Rest xs n mark b ∷ []) →
      IsSorted u (machine_at bs items (Running bs (Bind m (map string_bytes xs.now) (mon_of n.now)) (bound_of b)) s) out →
      Steps u k out (machine_at bs items (Running bs (Bind m (map string_bytes xs.now) (mon_of n.now)) (bound_of b)) s) (machine_at bs news (Running bs m (bound_of b)) s)
  rest_pushed bs items news m xs n mark b same grown h =
      subst (λ st. Steps u k out (machine_at bs items (Running bs (Bind m (map string_bytes xs.now) (mon_of n.now)) (bound_of b)) s) (record { stack = st; now = Running bs m (bound_of b); state = s }))
      (sym (pushed_first bs items news (W.TheVariants.Rest xs n mark b) grown ∙ ap (λ q. Rest q (map string_bytes xs.now) (mon_of n.now) (bound_of b) ∷ stack_of q (reverse items)) (ap (λ i. take i bs) same ∙ take-length bs)))
      (bind_begins u k out (stack_of bs (reverse items)) s bs m (mon_of n.now) (map string_bytes xs.now) (bound_of b) h)

  module _ (old cut : Bindings) (mark : ℕ) (is : cut ≡ take mark old) (fs : List W.Pending) where
    cut_marked : mark ≤ length old → AreMarked mark fs → AreMarked (length cut) fs
    cut_marked le marked = subst (λ i. AreMarked i fs) (sym (ap length is ∙ length-take-le mark old le)) marked

    pub rest_resumed : (xs : _) (n : _) (b : _) (vs : List Value) (new : Bindings) → AreMarked (length old) (W.TheVariants.Rest xs n mark b ∷ fs) → Extends cut (map string_bytes xs.now) vs new →
        IsSorted u (record { stack = stack_of old (W.TheVariants.Rest xs n mark b ∷ fs); now = Gave vs; state = s }) out →
        Steps u k out (record { stack = stack_of old (W.TheVariants.Rest xs n mark b ∷ fs); now = Gave vs; state = s }) (record { stack = stack_of new fs; now = Running new (mon_of n.now) (bound_of b); state = s })
    rest_resumed xs n b vs new marked x h =
        subst (λ st. Steps u k out (record { stack = stack_of old (W.TheVariants.Rest xs n mark b ∷ fs); now = Gave vs; state = s }) (record { stack = st; now = Running new (mon_of n.now) (bound_of b); state = s }))
        (sym (stack_extended cut (map string_bytes xs.now) vs new x fs (cut_marked marked.0 marked.1) ∙ ap (λ q. stack_of q fs) is))
        (rest_begins u k out (stack_of (take mark old) fs) s (take mark old) new (map string_bytes xs.now) (mon_of n.now) (bound_of b) vs (subst (λ q. Extends q (map string_bytes xs.now) vs new) is x) h)

    pub turn_resumed : (t : _) (vs : List Value) → IsSorted u (record { stack = stack_of old (W.TheVariants.Turn t mark ∷ fs); now = Gave vs; state = s }) out →
        Steps u k out (record { stack = stack_of old (W.TheVariants.Turn t mark ∷ fs); now = Gave vs; state = s }) (record { stack = stack_of cut fs; now = Turning cut (turns_of t) vs; state = s })
    turn_resumed t vs h =
        subst (λ q. Steps u k out (record { stack = stack_of old (W.TheVariants.Turn t mark ∷ fs); now = Gave vs; state = s }) (record { stack = stack_of q fs; now = Turning q (turns_of t) vs; state = s })) (sym is)
        (turn_comes u k out (stack_of (take mark old) fs) s (take mark old) (turns_of t) vs h)

module _ (old cut : Bindings) (mark : ℕ) (is : cut ≡ take mark old) (fs : List W.Pending) (le : mark ≤ length old) (marked : AreMarked mark fs) where
  pub turn_marked : AreMarked (length cut) fs
  turn_marked = subst (λ i. AreMarked i fs) (sym (ap length is ∙ length-take-le mark old le)) marked

  pub rest_marked : (xs : List Name) (vs : List Value) (new : Bindings) → Extends cut xs vs new → AreMarked (length new) fs
  rest_marked xs vs new x = marks_extended cut xs vs new x fs turn_marked
