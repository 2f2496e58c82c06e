-- Under a fill number a C statement has exactly one end.
use Rattle.std.proofs.Common.{◌≡◌, sym, subst, ℕ, Bool, true, false, Option, Some, None, List, ◌⊎◌, inl, inr, ℤ}
use Rattle.correspondence.specs.Outcome.{Ends}
use Rattle.correspondence.specs.OneEnd.{OneEnd, HaveOneEnd}
use Rattle.correspondence.proofs.OneEnd.{done_once, fault_once, stop_once, given_once, choose_once, then_once, loop_once, called_once, below_once}
use Rattle.c_values.specs.Name.{Name}
use Rattle.c_values.specs.Types.{CType}
use Rattle.c_values.specs.Value as V
use Rattle.c_values.specs.Choice.{Choice, Fill, picked}
use Rattle.c_values.specs.Layout.{Layout}
use Rattle.expression_lang.specs.Sort.{Level}
use Rattle.expression_lang.specs.Signature.{Invocation}
use Rattle.expression_lang.proofs.Picked.{picked_once}
use Rattle.expression_lang.specs.GuardKind as K
use Rattle.expression_lang.specs.Machine.{Machine}
use Rattle.c_lang.specs.Typed as C
use Rattle.c_meaning.specs.CRun.{Flow, Next, Broken, Continued, Returning, Runs, Setting, Ended, and_next, assigned, used, tested, turned, stepped, later, tested_after_first, turned_later, switched, statement, statements, groups, ended, function_runs, bodies, functions_below, c_runs}

and_next_once : (rest : Machine → Ended) → ((m : Machine) → OneEnd (rest m)) → (f : Flow) → OneEnd (and_next rest f)
and_next_once rest h (Next m) = h m
and_next_once rest h (Broken m) = done_once _
and_next_once rest h (Continued m) = done_once _
and_next_once rest h (Returning v m) = done_once _

assigned_once : (t : Setting) (target : C.Destination) (v : V.Value) (m : Machine) → OneEnd (assigned t target v m)
assigned_once t (C.ToLocal x u) v m = done_once _
assigned_once t (C.ToPlace p) v m = then_once _ _ (λ s. done_once _) (given_once _)

used_once : (t : Setting) (use' : C.Use) (v : V.Value) (m : Machine) → OneEnd (used t use' v m)
used_once t C.NoResult v m = done_once _
used_once t (C.Ignored from) v m = done_once _
used_once t (C.Assigned from target) v m = assigned_once t target _ m
used_once t (C.Returned from to) v m = done_once _

tested_once : (t : Setting) (test : C.Test) (m : Machine) → OneEnd (tested t test m)
tested_once t C.Always m = done_once _
tested_once t (C.Tested e) m = then_once _ _ (λ v. choose_once _ _ _ (done_once _) (done_once _)) (given_once _)

turned_once : (rest : Machine → Ends (Machine ⊎ Flow) K.GuardKind) → ((m : Machine) → OneEnd (rest m)) → (f : Flow) → OneEnd (turned rest f)
turned_once rest h (Next m) = h m
turned_once rest h (Continued m) = h m
turned_once rest h (Broken m) = done_once _
turned_once rest h (Returning v m) = done_once _

stepped_once : (step : Machine → Ended) → ((m : Machine) → OneEnd (step m)) → (m : Machine) → OneEnd (stepped step m)
stepped_once step h m = then_once _ _ (turned_once _ (λ n. done_once _)) (h m)

later_once : (x : Machine ⊎ Flow) → OneEnd (later x)
later_once (inl m) = done_once _
later_once (inr f) = done_once _

tested_after_first_once : (t : Setting) (test : C.Test) (x : Bool × Machine) → OneEnd (tested_after_first t test x)
tested_after_first_once t test (true, m) = done_once _
tested_after_first_once t test (false, m) = then_once _ _ later_once (tested_once t test m)

turned_later_once : (f : Flow) → OneEnd (turned_later f)
turned_later_once f = then_once _ _ later_once (turned_once _ (λ n. done_once _) f)

switched_once : (f : Flow) → OneEnd (switched f)
switched_once (Next m) = done_once _
switched_once (Broken m) = done_once _
switched_once (Continued m) = done_once _
switched_once (Returning v m) = done_once _

ended_once : (result : Option CType) (f : Flow) → OneEnd (ended result f)
ended_once None (Next m) = done_once _
ended_once (Some u) (Next m) = fault_once _
ended_once None (Returning v m) = done_once _
ended_once (Some u) (Returning v m) = done_once _
ended_once None (Broken m) = fault_once _
ended_once (Some u) (Broken m) = fault_once _
ended_once None (Continued m) = fault_once _
ended_once (Some u) (Continued m) = fault_once _

-- one value is picked at each width
abbrev pub PicksOnce : Setting → Type 0
PicksOnce t = (width : ℕ) → OneEnd {F = K.GuardKind} (picked t.choice width)

pub picks_once : (k : ℕ) (t : Setting) → t.choice ≡ Fill k → PicksOnce t
picks_once k t e width = subst (λ (p : Choice). OneEnd {F = K.GuardKind} (picked p width)) (sym e) (picked_once k width)

mutual
  pub statement_once : (t : Setting) → PicksOnce t → (s : C.Statement) (depth : Option ℕ) (fs : List Runs) → HaveOneEnd fs → (m : Machine) → OneEnd (statement t s depth fs m)
  statement_once t q C.Empty depth fs h m = done_once _
  statement_once t q (C.Block ss) depth fs h m = statements_once t q ss depth fs h m
  statement_once t q (C.Declare x u) depth fs h m = then_once _ _ (λ w. done_once _) (q _)
  statement_once t q (C.Assign target e) depth fs h m = then_once _ _ (λ v. assigned_once t target v m) (given_once _)
  statement_once t q (C.Call n f es use') depth fs h m =
      then_once _ _ (λ vs. then_once _ _ (λ r. used_once t use' _ _) (called_once fs h depth _)) (given_once _)
  statement_once t q (C.If e a b) depth fs h m =
      then_once _ _ (λ v. choose_once _ _ _ (statement_once t q a depth fs h m) (statement_once t q b depth fs h m)) (given_once _)
  statement_once t q (C.While e a) depth fs h m =
      loop_once _ _ (tested_once t (C.Tested e)) (λ gs hs n. then_once _ _ (turned_once _ (λ j. done_once _)) (statement_once t q a depth gs hs n)) fs h m
  statement_once t q (C.DoWhile n a e) depth fs h m =
      loop_once _ _ (tested_after_first_once t (C.Tested e)) (λ gs hs x. then_once _ _ turned_later_once (statement_once t q a depth gs hs x.1)) fs h _
  statement_once t q (C.For init test step a) depth fs h m =
      then_once _ _ (and_next_once _ (loop_once _ _ (tested_once t test)
      (λ gs hs n. then_once _ _ (turned_once _ (stepped_once _ (statement_once t q step depth gs hs))) (statement_once t q a depth gs hs n)) fs h))
      (statements_once t q init depth fs h m)
  statement_once t q (C.Switch n i e gs) depth fs h m =
      then_once _ _ (λ v. then_once _ _ switched_once (groups_once t q _ _ gs depth fs h m)) (given_once _)
  statement_once t q C.Break depth fs h m = done_once _
  statement_once t q C.Continue depth fs h m = done_once _
  statement_once t q C.ReturnNothing depth fs h m = done_once _
  statement_once t q (C.Return e) depth fs h m = then_once _ _ (λ v. done_once _) (given_once _)

  pub statements_once : (t : Setting) → PicksOnce t → (ss : C.Statements) (depth : Option ℕ) (fs : List Runs) → HaveOneEnd fs → (m : Machine) → OneEnd (statements t ss depth fs m)
  statements_once t q C.no_statements depth fs h m = done_once _
  statements_once t q (C.next s ss) depth fs h m =
      then_once _ _ (and_next_once _ (statements_once t q ss depth fs h)) (statement_once t q s depth fs h m)

  pub groups_once : (t : Setting) → PicksOnce t → (n : ℤ) (labelled : Bool) (gs : C.Groups) (depth : Option ℕ) (fs : List Runs) → HaveOneEnd fs → (m : Machine) → OneEnd (groups t n labelled gs depth fs m)
  groups_once t q n labelled C.no_groups depth fs h m = done_once _
  groups_once t q n labelled (C.group labels is_default ss gs) depth fs h m =
      choose_once _ _ _ (statements_once t q ss depth fs h m) (groups_once t q n labelled gs depth fs h m)

function_once : (l : Layout) (k : ℕ) (levels : Name → Level) (f : Option C.TypedFn) (depth : Option ℕ) (fs : List Runs) → HaveOneEnd fs → (c : Invocation) → OneEnd (function_runs l (Fill k) levels f depth fs c)
function_once l k levels None depth fs h c = stop_once _
function_once l k levels (Some f) depth fs h c = then_once _ _ (ended_once f.result) (statements_once (record { layout = l; choice = Fill k; level = levels f.name }) (picked_once k) f.body depth fs h _)

module _ (u : C.TypedUnit) (levels : Name → Level) (k : ℕ) where
  bodies_once : (fs : List Runs) → HaveOneEnd fs → (depth : Option ℕ) (c : Invocation) → OneEnd (bodies u levels (Fill k) fs depth c)
  bodies_once fs h depth c = function_once u.layout k levels (C.typed_fn u.functions c.name) depth fs h c

  pub functions_once : (n : ℕ) → HaveOneEnd (functions_below u levels (Fill k) n)
  functions_once n = below_once (bodies u levels (Fill k)) bodies_once n

  pub call_once : (n : ℕ) (depth : Option ℕ) (c : Invocation) → OneEnd (c_runs u levels (Fill k) n depth c)
  call_once n depth c = bodies_once _ (functions_once n) depth c
