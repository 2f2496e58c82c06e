-- A do-while: a local says whether it is in front of its first turn, and the test and its conditions wait for the second.
use Rattle.std.proofs.Common.{◌≡◌, ℕ, Bool, true, false, List, [], ◌∷◌, Option, ◌⊎◌, inl, inr, refl, sym, subst, ap, ◌∙◌}
use Rattle.std.specs.Prelude.{not, ◌||◌}
use Rattle.correspondence.specs.Outcome.{Ends, done, fault, Then, choose, loop}
use Rattle.correspondence.specs.Corresponds.{Corresponds, Either, Paired}
use Rattle.correspondence.proofs.Corresponds.{done_corresponds, then_corresponds, loop_corresponds}
use Rattle.c_values.specs.Name.{same_name, with_name}
use Rattle.c_values.specs.Value as V
use Rattle.c_values.specs.Layout.{Layout}
use Rattle.c_values.specs.Choice.{Choice}
use Rattle.c_values.proofs.Laid.{same_name-refl}
use Rattle.expression_lang.specs.Sort.{Level}
use Rattle.expression_lang.specs.Signature.{Binder}
use Rattle.expression_lang.specs.Expression as Exp
use Rattle.expression_lang.specs.GuardKind.{GuardKind}
use Rattle.simpl_lang.specs.Command.{Condition, Simpl, Set, Seq}
use Rattle.simpl_lang.specs.Exec as X
use Rattle.expression_lang.specs.Machine.{Machine, with_local}
use Rattle.simpl_lang.specs.Exec.{Normal, Abrupt, Runs, execs, entered, checked, holds_on}
use Rattle.c_lang.specs.Typed as C
use Rattle.c_lang.specs.WellTyped.{Scope, Around, in_a_loop, is_typed_test}
use Rattle.c_meaning.specs.CRun as R
use Rattle.c_meaning.specs.CRun.{Next, Broken, Continued, Returning, Ended, tested, turned, later, tested_after_first, turned_later}
use Rattle.generation.specs.Guards.{guards, truth}
use Rattle.generation.specs.Generate.{first_local, after_first, body_of_loop, looped, do_while}
use Rattle.generation.proofs.ExactTests.{by_test, where_true, where_false}
use Rattle.correspondence.proofs.Steps.{same_on_left, same_on_right, after_done, in_brackets, left_goes_on}
use Rattle.generation.proofs.ExactGuards.{SameKind}
use Rattle.generation.proofs.ExactMachines.{Alike, setting, alike_added, added_agrees}
use Rattle.generation.proofs.ExactEnds.{SameCalls, Stands}
use Rattle.generation.proofs.ExactLoops.{IsLoopEnd, IsBodyEnd, IsTurnEnd, looped_same, body_same, tested_same, SameRuns}

module _ (l : Layout) (k : ℕ) (e : Exp.Exp) (n : Machine) where
  -- in front of the first turn no condition is asked
  first_unchecked : {A : Type 0} (gs : List Condition) (next : Ends A GuardKind) → V.truth_in (n.locals (first_local k)) ≡ true → checked l (after_first k gs) n next ≡ next
  first_unchecked [] next h = refl
  first_unchecked (g ∷ gs) next h =
      ap (λ b. choose (not (not b) || holds_on l n g.exp) (checked l (after_first k gs) n next) (fault g.kind)) h ∙ first_unchecked gs next h

  later_checked : {A : Type 0} (gs : List Condition) (next : Ends A GuardKind) → V.truth_in (n.locals (first_local k)) ≡ false → checked l (after_first k gs) n next ≡ checked l gs n next
  later_checked [] next h = refl
  later_checked (g ∷ gs) next h =
      ap (λ b. choose (not (not b) || holds_on l n g.exp) (checked l (after_first k gs) n next) (fault g.kind)) h
      ∙ ap (λ q. choose (holds_on l n g.exp) q (fault g.kind)) (later_checked gs next h)

-- The C side remembers by a truth value what the local says.
abbrev IsTurn : Scope → ℕ → Bool × Machine → Machine → Type 0
IsTurn g k (true, m) n = Alike g m (with_local (first_local k) (V.Truth false) n) × (V.truth_in (n.locals (first_local k)) ≡ true)
IsTurn g k (false, m) n = Alike g m n

module _ (g : Scope) (level : Level) (p : Choice) (locals : List Binder) (h : Stands g level locals) (k : ℕ) (e : C.Expr) (t : is_typed_test g (C.Tested e) ≡ true) where
  abbrev AreTurns : (Bool × Machine) ⊎ R.Flow → Machine ⊎ X.Flow → Type 0
  AreTurns = Either (IsTurn g k) (IsLoopEnd g)

  later_same : (z : Machine ⊎ R.Flow) (z' : Machine ⊎ X.Flow) → IsTurnEnd g z z' → Corresponds AreTurns SameKind (later z) (done z')
  later_same (inl m) (inl n) a = done_corresponds AreTurns SameKind (inl (false, m)) (inl n) a
  later_same (inr f) (inr f') a = done_corresponds AreTurns SameKind (inr f) (inr f') a
  later_same _ _ a = absurd a

  abbrev entered_here : Machine → Ends (Machine ⊎ X.Flow) GuardKind
  entered_here n = entered g.layout (after_first k (guards g.layout level e)) (Exp.Or (Exp.Var (first_local k)) (truth g.layout e)) n

  enter_same : (x : Bool × Machine) (n : Machine) → IsTurn g k x n → Corresponds AreTurns SameKind (tested_after_first (setting g p level) (C.Tested e) x) (entered_here n)
  enter_same (true, m) n a =
      subst (λ q. Corresponds AreTurns SameKind (done (inl (true, m))) q)
      (sym (first_unchecked g.layout k (truth g.layout e) n (guards g.layout level e) (choose (V.truth_in (n.locals (first_local k)) || holds_on g.layout n (truth g.layout e)) (done (inl n)) (done (inr (Normal n)))) a.1
      ∙ ap (λ b. choose (b || holds_on g.layout n (truth g.layout e)) (done (inl n)) (done (inr (Normal n)))) a.1))
      (done_corresponds AreTurns SameKind (inl (true, m)) (inl n) a)
  enter_same (false, m) n a =
      subst (λ q. Corresponds AreTurns SameKind (Then (tested (setting g p level) (C.Tested e) m) later) q)
      (sym (later_checked g.layout k (truth g.layout e) n (guards g.layout level e) (choose (V.truth_in (n.locals (first_local k)) || holds_on g.layout n (truth g.layout e)) (done (inl n)) (done (inr (Normal n)))) (a.quiet (first_local k) refl)
      ∙ ap (λ b. checked g.layout (guards g.layout level e) n (choose (b || holds_on g.layout n (truth g.layout e)) (done (inl n)) (done (inr (Normal n))))) (a.quiet (first_local k) refl)))
      (left_goes_on (IsTurnEnd g) AreTurns SameKind (tested (setting g p level) (C.Tested e) m) later (entered g.layout (guards g.layout level e) (truth g.layout e) n)
      (tested_same g level p locals h (C.Tested e) t m n a) later_same)

  -- the body sets the local to false first
  body_begins : (x : Bool × Machine) (n : Machine) → IsTurn g k x n → Alike g x.1 (with_local (first_local k) (V.Truth false) n)
  body_begins (true, m) n a = a.0
  body_begins (false, m) n a = alike_added g h.own m n a (first_local k) (V.Truth false) refl (λ b. refl)

  turn_ends : (f : R.Flow) (f' : X.Flow) → IsBodyEnd g f f' → Corresponds AreTurns SameKind (turned_later f) (X.turned f')
  turn_ends (Next m) (Normal n) a = same_on_left (after_done (inl m) later) (done_corresponds AreTurns SameKind (inl (false, m)) (inl n) a)
  turn_ends (Continued m) (Normal n) a = same_on_left (after_done (inl m) later) (done_corresponds AreTurns SameKind (inl (false, m)) (inl n) a)
  turn_ends (Broken m) (Abrupt n) a = same_on_left (after_done (inr (Next m)) later) (done_corresponds AreTurns SameKind (inr (Next m)) (inr (Abrupt n)) a)
  turn_ends (Returning v m) (Abrupt n) a = same_on_left (after_done (inr (Returning v m)) later) (done_corresponds AreTurns SameKind (inr (Returning v m)) (inr (Abrupt n)) a)
  turn_ends _ _ a = absurd a

  -- the machine that the loop begins with
  first_set : (m n : Machine) → Alike g m n → IsTurn g k (true, m) (with_local (first_local k) (V.Truth true) n)
  first_set m n a =
      let x = first_local k in
      let env = with_name x (V.Truth true) n.locals in (
        record {
          state = a.state;
          locals = added_agrees g.variables h.own m.locals env (added_agrees g.variables h.own m.locals n.locals a.locals x (V.Truth true) refl) x (V.Truth false) refl;
          typed = a.typed;
          can_be = a.can_be;
          quiet = λ y q. by_test (λ w. V.truth_in w ≡ false) (same_name x y) (V.Truth false) (env y) (λ b. refl)
              (λ b. ap (λ w. V.truth_in w) (where_false (same_name x y) (V.Truth true) (n.locals y) b) ∙ a.quiet y q);
        },
        ap (λ w. V.truth_in w) (where_true (same_name x x) (V.Truth true) (n.locals x) (same_name-refl x)),
      )

  module _ (depth : Option ℕ) (a : List Runs → Machine → Ended) (s : Simpl) (same : SameRuns g level p locals h in_a_loop depth a s) (r : Around) where
    abbrev turn_command : Simpl
    turn_command = Seq (Set (first_local k) (Exp.TruthLit false)) (body_of_loop s)

    turn_same : (fs fs' : List Runs) → Paired (SameCalls g.layout g.globals g.functions) fs fs' → (x : Bool × Machine) (n : Machine) → IsTurn g k x n →
        Corresponds AreTurns SameKind (Then (a fs x.1) turned_later) (Then (execs g.layout p locals turn_command depth fs' n) X.turned)
    turn_same fs fs' paired x n alike =
        let o : Machine = with_local (first_local k) (V.Truth false) n in
        let behind : X.Flow → Ends X.Flow GuardKind = X.normally (λ q. execs g.layout p locals (body_of_loop s) depth fs' q) in
        same_on_right (in_brackets (done (Normal o)) behind X.turned)
        (same_on_right (after_done (Normal o) (λ f. Then (behind f) X.turned))
        (then_corresponds (IsBodyEnd g) AreTurns SameKind (a fs x.1) (execs g.layout p locals (body_of_loop s) depth fs' o) turned_later X.turned
        (body_same g p locals depth fs' s o (a fs x.1) (same fs fs' paired x.1 o (body_begins x n alike))) turn_ends))

    pub do_while_same : SameRuns g level p locals h r depth (λ fs m. loop (tested_after_first (setting g p level) (C.Tested e)) (λ gs x. Then (a gs x.1) turned_later) fs (true, m))
        (do_while k (guards g.layout level e) (truth g.layout e) s)
    do_while_same fs fs' paired m n alike =
        let o : Machine = with_local (first_local k) (V.Truth true) n in
        let q : Ended = loop (tested_after_first (setting g p level) (C.Tested e)) (λ gs x. Then (a gs x.1) turned_later) fs (true, m) in
        same_on_right (after_done (Normal o) (X.normally (λ z. execs g.layout p locals (looped (after_first k (guards g.layout level e)) (Exp.Or (Exp.Var (first_local k)) (truth g.layout e)) turn_command) depth fs' z)))
        (looped_same g p locals depth fs' r (after_first k (guards g.layout level e)) (Exp.Or (Exp.Var (first_local k)) (truth g.layout e)) turn_command o q
        (loop_corresponds (SameCalls g.layout g.globals g.functions) (IsTurn g k) (IsLoopEnd g) SameKind (tested_after_first (setting g p level) (C.Tested e)) entered_here
        (λ gs x. Then (a gs x.1) turned_later) (λ gs z. Then (execs g.layout p locals turn_command depth gs z) X.turned) enter_same turn_same fs fs' paired (true, m) o (first_set m n alike)))
