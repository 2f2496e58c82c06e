-- C statements at a larger bound, and with a deeper limit of nested calls.
use Rattle.std.proofs.Common.{ℕ, ◌≤◌, Bool, Option, Some, None, List, ◌⊎◌, ℤ}
use Rattle.correspondence.specs.Outcome.{Ends}
use Rattle.correspondence.specs.OneEnd.{Continues, Deeper, AllContinue}
use Rattle.correspondence.proofs.Continues.{continues_itself, then_continues, choose_continues, loop_continues, called_continues, below_continues}
use Rattle.c_values.specs.Name.{Name}
use Rattle.c_values.specs.Choice.{Choice}
use Rattle.c_values.specs.Layout.{Layout}
use Rattle.expression_lang.specs.Sort.{Level}
use Rattle.expression_lang.specs.Signature.{Invocation}
use Rattle.expression_lang.specs.GuardKind as K
use Rattle.expression_lang.specs.Machine.{Machine}
use Rattle.c_lang.specs.Typed as C
use Rattle.c_meaning.specs.CRun.{Flow, Next, Broken, Continued, Returning, Runs, Setting, Ended, and_next, turned, stepped, statement, statements, groups, function_runs, bodies, functions_below, c_runs}

and_next_continues : (r r' : Machine → Ended) → ((m : Machine) → Continues (r m) (r' m)) → (f : Flow) → Continues (and_next r f) (and_next r' f)
and_next_continues r r' h (Next m) = h m
and_next_continues r r' h (Broken m) = continues_itself _
and_next_continues r r' h (Continued m) = continues_itself _
and_next_continues r r' h (Returning v m) = continues_itself _

turned_continues : (r r' : Machine → Ends (Machine ⊎ Flow) K.GuardKind) → ((m : Machine) → Continues (r m) (r' m)) → (f : Flow) → Continues (turned r f) (turned r' f)
turned_continues r r' h (Next m) = h m
turned_continues r r' h (Continued m) = h m
turned_continues r r' h (Broken m) = continues_itself _
turned_continues r r' h (Returning v m) = continues_itself _

stepped_continues : (r r' : Machine → Ended) → ((m : Machine) → Continues (r m) (r' m)) → (m : Machine) → Continues (stepped r m) (stepped r' m)
stepped_continues r r' h m = then_continues _ _ _ _ (h m) (λ f. continues_itself _)

mutual
  pub statement_continues : (t : Setting) (s : C.Statement) (d e : Option ℕ) → Deeper d e → (fs gs : List Runs) → AllContinue fs gs → (m : Machine) → Continues (statement t s d fs m) (statement t s e gs m)
  statement_continues t C.Empty d e h fs gs k m = continues_itself _
  statement_continues t (C.Block ss) d e h fs gs k m = statements_continue t ss d e h fs gs k m
  statement_continues t (C.Declare x u) d e h fs gs k m = continues_itself _
  statement_continues t (C.Assign target x) d e h fs gs k m = continues_itself _
  statement_continues t (C.Call n f es use') d e h fs gs k m =
      then_continues _ _ _ _ (continues_itself _) (λ vs. then_continues _ _ _ _ (called_continues fs gs k d e h _) (λ r. continues_itself _))
  statement_continues t (C.If x a b) d e h fs gs k m =
      then_continues _ _ _ _ (continues_itself _) (λ v. choose_continues _ _ _ _ _ (statement_continues t a d e h fs gs k m) (statement_continues t b d e h fs gs k m))
  statement_continues t (C.While x a) d e h fs gs k m =
      loop_continues _ _ _ (λ fs' gs' k' n. then_continues _ _ _ _ (statement_continues t a d e h fs' gs' k' n) (λ f. continues_itself _)) fs gs k m
  statement_continues t (C.DoWhile n a x) d e h fs gs k m =
      loop_continues _ _ _ (λ fs' gs' k' y. then_continues _ _ _ _ (statement_continues t a d e h fs' gs' k' y.1) (λ f. continues_itself _)) fs gs k _
  statement_continues t (C.For init test step a) d e h fs gs k m =
      then_continues _ _ _ _ (statements_continue t init d e h fs gs k m)
      (and_next_continues _ _ (loop_continues _ _ _
      (λ fs' gs' k' n. then_continues _ _ _ _ (statement_continues t a d e h fs' gs' k' n) (turned_continues _ _ (stepped_continues _ _ (statement_continues t step d e h fs' gs' k')))) fs gs k))
  statement_continues t (C.Switch n i x hs) d e h fs gs k m =
      then_continues _ _ _ _ (continues_itself _) (λ v. then_continues _ _ _ _ (groups_continue t _ _ hs d e h fs gs k m) (λ f. continues_itself _))
  statement_continues t C.Break d e h fs gs k m = continues_itself _
  statement_continues t C.Continue d e h fs gs k m = continues_itself _
  statement_continues t C.ReturnNothing d e h fs gs k m = continues_itself _
  statement_continues t (C.Return x) d e h fs gs k m = continues_itself _

  pub statements_continue : (t : Setting) (ss : C.Statements) (d e : Option ℕ) → Deeper d e → (fs gs : List Runs) → AllContinue fs gs → (m : Machine) → Continues (statements t ss d fs m) (statements t ss e gs m)
  statements_continue t C.no_statements d e h fs gs k m = continues_itself _
  statements_continue t (C.next s ss) d e h fs gs k m =
      then_continues _ _ _ _ (statement_continues t s d e h fs gs k m) (and_next_continues _ _ (statements_continue t ss d e h fs gs k))

  pub groups_continue : (t : Setting) (n : ℤ) (labelled : Bool) (hs : C.Groups) (d e : Option ℕ) → Deeper d e → (fs gs : List Runs) → AllContinue fs gs → (m : Machine) → Continues (groups t n labelled hs d fs m) (groups t n labelled hs e gs m)
  groups_continue t n labelled C.no_groups d e h fs gs k m = continues_itself _
  groups_continue t n labelled (C.group labels is_default ss hs) d e h fs gs k m =
      choose_continues _ _ _ _ _ (statements_continue t ss d e h fs gs k m) (groups_continue t n labelled hs d e h fs gs k m)

function_continues : (l : Layout) (p : Choice) (levels : Name → Level) (f : Option C.TypedFn) (d e : Option ℕ) → Deeper d e → (fs gs : List Runs) → AllContinue fs gs → (c : Invocation) → Continues (function_runs l p levels f d fs c) (function_runs l p levels f e gs c)
function_continues l p levels None d e h fs gs k c = continues_itself _
function_continues l p levels (Some f) d e h fs gs k c = then_continues _ _ _ _ (statements_continue _ f.body d e h fs gs k _) (λ r. continues_itself _)

module _ (u : C.TypedUnit) (levels : Name → Level) (p : Choice) where
  bodies_continue : (fs gs : List Runs) → AllContinue fs gs → (d e : Option ℕ) (c : Invocation) → Deeper d e → Continues (bodies u levels p fs d c) (bodies u levels p gs e c)
  bodies_continue fs gs k d e c h = function_continues u.layout p levels (C.typed_fn u.functions c.name) d e h fs gs k c

  pub functions_continue : (m n : ℕ) → m ≤ n → AllContinue (functions_below u levels p m) (functions_below u levels p n)
  functions_continue m n h = below_continues (bodies u levels p) bodies_continue m n h

  pub call_continues : (m n : ℕ) → m ≤ n → (d e : Option ℕ) → Deeper d e → (c : Invocation) → Continues (c_runs u levels p m d c) (c_runs u levels p n e c)
  call_continues m n h d e k c = bodies_continue _ _ (functions_continue m n h) d e c k
