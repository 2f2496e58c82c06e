-- What a C statement does under a fill number it may do under any choice.
use Rattle.std.proofs.Common.{ℕ, Option, Some, None, List, ◌⊎◌, ℤ, Bool}
use Rattle.correspondence.specs.Outcome.{Ends}
use Rattle.correspondence.specs.Included.{Included, AllIncluded}
use Rattle.correspondence.proofs.Included.{included_itself, then_included, choose_included, loop_included, called_included, below_included}
use Rattle.c_values.specs.Name.{Name}
use Rattle.c_values.specs.Choice.{Choice, Any, Fill}
use Rattle.c_values.specs.Layout.{Layout}
use Rattle.expression_lang.specs.GuardKind as K
use Rattle.expression_lang.specs.Machine.{Machine}
use Rattle.expression_lang.specs.Sort.{Level}
use Rattle.expression_lang.specs.Signature.{Invocation}
use Rattle.expression_lang.proofs.Filled.{picked_included}
use Rattle.c_lang.specs.Typed as C
use Rattle.c_meaning.specs.CRun.{Flow, Next, Broken, Continued, Returning, Runs, Setting, Ended, and_next, turned, stepped, local_width, statement, statements, groups, function_runs, bodies, functions_below, c_runs}

and_next_included : (r r' : Machine → Ended) → ((m : Machine) → Included (r m) (r' m)) → (f : Flow) → Included (and_next r f) (and_next r' f)
and_next_included r r' h (Next m) = h m
and_next_included r r' h (Broken m) = included_itself _
and_next_included r r' h (Continued m) = included_itself _
and_next_included r r' h (Returning v m) = included_itself _

turned_included : (r r' : Machine → Ends (Machine ⊎ Flow) K.GuardKind) → ((m : Machine) → Included (r m) (r' m)) → (f : Flow) → Included (turned r f) (turned r' f)
turned_included r r' h (Next m) = h m
turned_included r r' h (Continued m) = h m
turned_included r r' h (Broken m) = included_itself _
turned_included r r' h (Returning v m) = included_itself _

stepped_included : (r r' : Machine → Ended) → ((m : Machine) → Included (r m) (r' m)) → (m : Machine) → Included (stepped r m) (stepped r' m)
stepped_included r r' h m = then_included _ _ _ _ (h m) (λ f. included_itself _)

module _ (l : Layout) (level : Level) (n : ℕ) where
  abbrev at : Choice → Setting
  at p = record { layout = l; choice = p; level = level }

  mutual
    pub statement_included : (s : C.Statement) (d : Option ℕ) (fs gs : List Runs) → AllIncluded fs gs → (m : Machine) → Included (statement (at (Fill n)) s d fs m) (statement (at Any) s d gs m)
    statement_included C.Empty d fs gs k m = included_itself _
    statement_included (C.Block ss) d fs gs k m = statements_included ss d fs gs k m
    statement_included (C.Declare x u) d fs gs k m = then_included _ _ _ _ (picked_included n (local_width l u)) (λ w. included_itself _)
    statement_included (C.Assign target x) d fs gs k m = included_itself _
    statement_included (C.Call j f es use') d fs gs k m =
        then_included _ _ _ _ (included_itself _) (λ vs. then_included _ _ _ _ (called_included fs gs k d _) (λ r. included_itself _))
    statement_included (C.If x a b) d fs gs k m =
        then_included _ _ _ _ (included_itself _) (λ v. choose_included _ _ _ _ _ (statement_included a d fs gs k m) (statement_included b d fs gs k m))
    statement_included (C.While x a) d fs gs k m =
        loop_included _ _ _ _ (λ x. included_itself _) (λ fs' gs' k' y. then_included _ _ _ _ (statement_included a d fs' gs' k' y) (λ f. included_itself _)) fs gs k m
    statement_included (C.DoWhile j a x) d fs gs k m =
        loop_included _ _ _ _ (λ x. included_itself _) (λ fs' gs' k' y. then_included _ _ _ _ (statement_included a d fs' gs' k' y.1) (λ f. included_itself _)) fs gs k _
    statement_included (C.For init test step a) d fs gs k m =
        then_included _ _ _ _ (statements_included init d fs gs k m)
        (and_next_included _ _ (loop_included _ _ _ _ (λ x. included_itself _)
        (λ fs' gs' k' y. then_included _ _ _ _ (statement_included a d fs' gs' k' y) (turned_included _ _ (stepped_included _ _ (statement_included step d fs' gs' k')))) fs gs k))
    statement_included (C.Switch j i x hs) d fs gs k m =
        then_included _ _ _ _ (included_itself _) (λ v. then_included _ _ _ _ (groups_included _ _ hs d fs gs k m) (λ f. included_itself _))
    statement_included C.Break d fs gs k m = included_itself _
    statement_included C.Continue d fs gs k m = included_itself _
    statement_included C.ReturnNothing d fs gs k m = included_itself _
    statement_included (C.Return x) d fs gs k m = included_itself _

    pub statements_included : (ss : C.Statements) (d : Option ℕ) (fs gs : List Runs) → AllIncluded fs gs → (m : Machine) → Included (statements (at (Fill n)) ss d fs m) (statements (at Any) ss d gs m)
    statements_included C.no_statements d fs gs k m = included_itself _
    statements_included (C.next s ss) d fs gs k m =
        then_included _ _ _ _ (statement_included s d fs gs k m) (and_next_included _ _ (statements_included ss d fs gs k))

    pub groups_included : (j : ℤ) (labelled : Bool) (hs : C.Groups) (d : Option ℕ) (fs gs : List Runs) → AllIncluded fs gs → (m : Machine) → Included (groups (at (Fill n)) j labelled hs d fs m) (groups (at Any) j labelled hs d gs m)
    groups_included j labelled C.no_groups d fs gs k m = included_itself _
    groups_included j labelled (C.group labels is_default ss hs) d fs gs k m =
        choose_included _ _ _ _ _ (statements_included ss d fs gs k m) (groups_included j labelled hs d fs gs k m)

module _ (u : C.TypedUnit) (levels : Name → Level) (n : ℕ) where
  function_included : (f : Option C.TypedFn) (d : Option ℕ) (fs gs : List Runs) → AllIncluded fs gs → (c : Invocation) → Included (function_runs u.layout (Fill n) levels f d fs c) (function_runs u.layout Any levels f d gs c)
  function_included None d fs gs k c = included_itself _
  function_included (Some f) d fs gs k c = then_included _ _ _ _ (statements_included u.layout (levels f.name) n f.body d fs gs k _) (λ r. included_itself _)

  bodies_included : (fs gs : List Runs) → AllIncluded fs gs → (d : Option ℕ) (c : Invocation) → Included (bodies u levels (Fill n) fs d c) (bodies u levels Any gs d c)
  bodies_included fs gs h d c = function_included (C.typed_fn u.functions c.name) d fs gs h c

  pub functions_included : (k : ℕ) → AllIncluded (functions_below u levels (Fill n) k) (functions_below u levels Any k)
  functions_included k = below_included (bodies u levels (Fill n)) (bodies u levels Any) bodies_included k

  pub call_included : (k : ℕ) (d : Option ℕ) (c : Invocation) → Included (c_runs u levels (Fill n) k d c) (c_runs u levels Any k d c)
  call_included k d c = bodies_included _ _ (functions_included k) d c
