-- A C run that is watched by levels does what the plain run does, where it meets no extra undefined step.
use Rattle.std.proofs.Common.{◌≡◌, ℕ, Bool, true, false, Option, Some, None, List, ◌⊎◌, inr, ℤ, refl, sym, subst}
use Rattle.correspondence.specs.Outcome.{Failed, Ends, Then, given}
use Rattle.correspondence.specs.Corresponds.{Corresponds}
use Rattle.correspondence.proofs.Watches.{Watches, AllWatch, watches_itself, watches_same, then_watches, choose_watches, loop_watches, called_watches, below_watches}
use Rattle.c_values.specs.Name.{Name}
use Rattle.c_values.specs.Value as V
use Rattle.c_values.specs.Choice.{Choice}
use Rattle.c_values.specs.Layout.{Layout}
use Rattle.expression_lang.specs.Sort.{Level, Bytes}
use Rattle.expression_lang.specs.Signature.{Invocation}
use Rattle.expression_lang.specs.GuardKind as K
use Rattle.expression_lang.specs.Machine.{Machine}
use Rattle.c_lang.specs.Typed as C
use Rattle.c_meaning.specs.CValue.{Defined}
use Rattle.c_meaning.specs.CRun.{Flow, Next, Broken, Continued, Returning, Runs, Setting, Ended, context, and_next, assigned, used, tested, turned, stepped, tested_after_first, statement, statements, groups, function_runs, bodies, c_runs, plain}
use Rattle.c_meaning.proofs.WatchedValue.{IsExtra, tag, wrap, Watched, same, extra, bind_watched, accessible_watched, value_watched, located_watched, values_watched}

-- the same setting, where only the six hard kinds are watched
abbrev pub plain_setting : Setting → Setting
plain_setting t = record { layout = t.layout; choice = t.choice; level = Bytes }

itself : {A : Type 0} (p : Ends A K.GuardKind) → Watches IsExtra p p
itself p = watches_itself IsExtra p

given_watches : {A : Type 0} (r s : Defined A) → Watched r s → Watches IsExtra (given r) (given s)
given_watches _ _ (same {r}) = itself (given r)
given_watches {A} _ _ (extra {k} {r = s} e) = record {
  done = λ a h. absurd h;
  failed = failed;
  stopped = λ v h. absurd h;
  covered = λ o h. inr (k, e, refl);
}
  where
    failed : (f : K.GuardKind) → f ≡ k → given s (Failed f) ⊎ IsExtra f
    failed f h = inr (subst IsExtra (sym h) e)

-- the value of an expression, and then the rest
module _ {A B : Type 0} (r s : Defined A) (f g : A → Ends B K.GuardKind) where
  evaluated_watches : Watched r s → ((a : A) → Watches IsExtra (f a) (g a)) → Watches IsExtra (Then (given r) f) (Then (given s) g)
  evaluated_watches h k = then_watches IsExtra _ _ _ _ (given_watches r s h) k

and_next_watches : (r s : Machine → Ended) → ((m : Machine) → Watches IsExtra (r m) (s m)) → (f : Flow) → Watches IsExtra (and_next r f) (and_next s f)
and_next_watches r s h (Next m) = h m
and_next_watches r s h (Broken m) = itself _
and_next_watches r s h (Continued m) = itself _
and_next_watches r s h (Returning v m) = itself _

assigned_watches : (t : Setting) (target : C.Destination) (v : V.Value) (m : Machine) → Watches IsExtra (assigned t target v m) (assigned (plain_setting t) target v m)
assigned_watches t (C.ToLocal x u) v m = itself _
assigned_watches t (C.ToPlace p) v m =
    evaluated_watches _ _ _ _ (bind_watched _ _ _ _ (located_watched (context t m) p) (λ s. accessible_watched (context t m) s _ _ same)) (λ s. itself _)

used_watches : (t : Setting) (use' : C.Use) (v : V.Value) (m : Machine) → Watches IsExtra (used t use' v m) (used (plain_setting t) use' v m)
used_watches t C.NoResult v m = itself _
used_watches t (C.Ignored from) v m = itself _
used_watches t (C.Assigned from target) v m = assigned_watches t target _ m
used_watches t (C.Returned from to) v m = itself _

tested_watches : (t : Setting) (test : C.Test) (m : Machine) → Watches IsExtra (tested t test m) (tested (plain_setting t) test m)
tested_watches t C.Always m = itself _
tested_watches t (C.Tested e) m = evaluated_watches _ _ _ _ (value_watched (context t m) e) (λ v. itself _)

turned_watches : (r s : Machine → Ends (Machine ⊎ Flow) K.GuardKind) → ((m : Machine) → Watches IsExtra (r m) (s m)) → (f : Flow) → Watches IsExtra (turned r f) (turned s f)
turned_watches r s h (Next m) = h m
turned_watches r s h (Continued m) = h m
turned_watches r s h (Broken m) = itself _
turned_watches r s h (Returning v m) = itself _

stepped_watches : (r s : Machine → Ended) → ((m : Machine) → Watches IsExtra (r m) (s m)) → (m : Machine) → Watches IsExtra (stepped r m) (stepped s m)
stepped_watches r s h m = then_watches IsExtra _ _ _ _ (h m) (λ f. itself _)

tested_after_first_watches : (t : Setting) (test : C.Test) (x : Bool × Machine) → Watches IsExtra (tested_after_first t test x) (tested_after_first (plain_setting t) test x)
tested_after_first_watches t test (true, m) = itself _
tested_after_first_watches t test (false, m) = then_watches IsExtra _ _ _ _ (tested_watches t test m) (λ x. itself _)

mutual
  pub statement_watches : (t : Setting) (s : C.Statement) (depth : Option ℕ) (fs gs : List Runs) → AllWatch IsExtra fs gs → (m : Machine) → Watches IsExtra (statement t s depth fs m) (statement (plain_setting t) s depth gs m)
  statement_watches t C.Empty depth fs gs k m = itself _
  statement_watches t (C.Block ss) depth fs gs k m = statements_watch t ss depth fs gs k m
  statement_watches t (C.Declare x u) depth fs gs k m = itself _
  statement_watches t (C.Assign target e) depth fs gs k m = evaluated_watches _ _ _ _ (value_watched (context t m) e) (λ v. assigned_watches t target v m)
  statement_watches t (C.Call n f es use') depth fs gs k m =
      evaluated_watches _ _ _ _ (values_watched (context t m) es) (λ vs.
      then_watches IsExtra _ _ _ _ (called_watches IsExtra fs gs k depth _) (λ r. used_watches t use' _ _))
  statement_watches t (C.If e a b) depth fs gs k m =
      evaluated_watches _ _ _ _ (value_watched (context t m) e) (λ v.
      choose_watches IsExtra _ _ _ _ _ (statement_watches t a depth fs gs k m) (statement_watches t b depth fs gs k m))
  statement_watches t (C.While e a) depth fs gs k m =
      loop_watches IsExtra _ _ _ _ (tested_watches t (C.Tested e))
      (λ fs' gs' k' n. then_watches IsExtra _ _ _ _ (statement_watches t a depth fs' gs' k' n) (λ f. itself _)) fs gs k m
  statement_watches t (C.DoWhile n a e) depth fs gs k m =
      loop_watches IsExtra _ _ _ _ (tested_after_first_watches t (C.Tested e))
      (λ fs' gs' k' x. then_watches IsExtra _ _ _ _ (statement_watches t a depth fs' gs' k' x.1) (λ f. itself _)) fs gs k _
  statement_watches t (C.For init test step a) depth fs gs k m =
      then_watches IsExtra _ _ _ _ (statements_watch t init depth fs gs k m)
      (and_next_watches _ _ (loop_watches IsExtra _ _ _ _ (tested_watches t test)
      (λ fs' gs' k' n. then_watches IsExtra _ _ _ _ (statement_watches t a depth fs' gs' k' n) (turned_watches _ _ (stepped_watches _ _ (statement_watches t step depth fs' gs' k')))) fs gs k))
  statement_watches t (C.Switch n i e hs) depth fs gs k m =
      evaluated_watches _ _ _ _ (value_watched (context t m) e) (λ v.
      then_watches IsExtra _ _ _ _ (groups_watch t _ _ hs depth fs gs k m) (λ f. itself _))
  statement_watches t C.Break depth fs gs k m = itself _
  statement_watches t C.Continue depth fs gs k m = itself _
  statement_watches t C.ReturnNothing depth fs gs k m = itself _
  statement_watches t (C.Return e) depth fs gs k m = evaluated_watches _ _ _ _ (value_watched (context t m) e) (λ v. itself _)

  pub statements_watch : (t : Setting) (ss : C.Statements) (depth : Option ℕ) (fs gs : List Runs) → AllWatch IsExtra fs gs → (m : Machine) → Watches IsExtra (statements t ss depth fs m) (statements (plain_setting t) ss depth gs m)
  statements_watch t C.no_statements depth fs gs k m = itself _
  statements_watch t (C.next s ss) depth fs gs k m =
      then_watches IsExtra _ _ _ _ (statement_watches t s depth fs gs k m) (and_next_watches _ _ (statements_watch t ss depth fs gs k))

  pub groups_watch : (t : Setting) (n : ℤ) (labelled : Bool) (hs : C.Groups) (depth : Option ℕ) (fs gs : List Runs) → AllWatch IsExtra fs gs → (m : Machine) → Watches IsExtra (groups t n labelled hs depth fs m) (groups (plain_setting t) n labelled hs depth gs m)
  groups_watch t n labelled C.no_groups depth fs gs k m = itself _
  groups_watch t n labelled (C.group labels is_default ss hs) depth fs gs k m =
      choose_watches IsExtra _ _ _ _ _ (statements_watch t ss depth fs gs k m) (groups_watch t n labelled hs depth fs gs k m)

function_watches : (l : Layout) (p : Choice) (levels : Name → Level) (f : Option C.TypedFn) (depth : Option ℕ) (fs gs : List Runs) → AllWatch IsExtra fs gs → (c : Invocation) → Watches IsExtra (function_runs l p levels f depth fs c) (function_runs l p plain f depth gs c)
function_watches l p levels None depth fs gs k c = itself _
function_watches l p levels (Some f) depth fs gs k c = then_watches IsExtra _ _ _ _ (statements_watch _ f.body depth fs gs k _) (λ r. itself _)

module _ (u : C.TypedUnit) (levels : Name → Level) (p : Choice) where
  bodies_watch : (fs gs : List Runs) → AllWatch IsExtra fs gs → (depth : Option ℕ) (c : Invocation) → Watches IsExtra (bodies u levels p fs depth c) (bodies u plain p gs depth c)
  bodies_watch fs gs k depth c = function_watches u.layout p levels (C.typed_fn u.functions c.name) depth fs gs k c

  call_watches : (n : ℕ) (depth : Option ℕ) (c : Invocation) → Watches IsExtra (c_runs u levels p n depth c) (c_runs u plain p n depth c)
  call_watches n depth c = bodies_watch _ _ (below_watches IsExtra (bodies u levels p) (bodies u plain p) bodies_watch n) depth c

  pub watched_same : (n : ℕ) (depth : Option ℕ) (c : Invocation) → (c_runs u levels p n depth c (Failed K.Tag) → ⊥) → (c_runs u levels p n depth c (Failed K.Wrap) → ⊥) →
      Corresponds (λ a b. a ≡ b) (λ f g. f ≡ g) (c_runs u levels p n depth c) (c_runs u plain p n depth c)
  watched_same n depth c no_tag no_wrap = watches_same IsExtra _ _ (call_watches n depth c) none
    where
      none : (f : K.GuardKind) → IsExtra f → c_runs u levels p n depth c (Failed f) → ⊥
      none _ tag h = no_tag h
      none _ wrap h = no_wrap h
