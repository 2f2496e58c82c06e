-- What a command does under a fill number it may do under any choice.
use Rattle.std.proofs.Common.{ℕ, Option, Some, None, List}
use Rattle.correspondence.specs.Outcome.{Ends, fault}
use Rattle.correspondence.specs.Included.{Included, AllIncluded}
use Rattle.correspondence.proofs.Included.{included_itself, then_included, choose_included, loop_included, called_included, below_included}
use Rattle.c_values.specs.Choice.{Any, Fill}
use Rattle.c_values.specs.Layout.{Layout}
use Rattle.expression_lang.specs.GuardKind.{GuardKind}
use Rattle.expression_lang.specs.Machine.{Machine}
use Rattle.expression_lang.specs.Sort.{Kind}
use Rattle.expression_lang.specs.Signature.{Binder, Signature, Invocation, signature}
use Rattle.expression_lang.proofs.Filled.{picked_word_at_included}
use Rattle.simpl_lang.specs.Command.{Simpl, Skip, Throw, Set, SetGlobal, Store, Pick, Seq, Cond, Guard, Catch, While, Call, SimplFn, SimplUnit, simpl_fn, kind_of}
use Rattle.simpl_lang.specs.Exec.{Flow, Normal, Abrupt, Runs, normally, handled, holds_on, picked_local, execs, function_runs, bodies, functions_below, simpl_runs}

picked_local_included : (k : ℕ) (kind : Option Kind) → Included (picked_local (Fill k) kind) (picked_local Any kind)
picked_local_included k None = included_itself _
picked_local_included k (Some kind) = picked_word_at_included k kind

normally_included : (r r' : Machine → Ends Flow GuardKind) → ((m : Machine) → Included (r m) (r' m)) → (f : Flow) → Included (normally r f) (normally r' f)
normally_included r r' h (Normal m) = h m
normally_included r r' h (Abrupt m) = included_itself _

handled_included : (r r' : Machine → Ends Flow GuardKind) → ((m : Machine) → Included (r m) (r' m)) → (f : Flow) → Included (handled r f) (handled r' f)
handled_included r r' h (Normal m) = included_itself _
handled_included r r' h (Abrupt m) = h m

module _ (l : Layout) (n : ℕ) where
  pub execs_included : (locals : List Binder) (a : Simpl) (d : Option ℕ) (fs gs : List Runs) → AllIncluded fs gs → (m : Machine) → Included (execs l (Fill n) locals a d fs m) (execs l Any locals a d gs m)
  execs_included locals Skip d fs gs k m = included_itself _
  execs_included locals Throw d fs gs k m = included_itself _
  execs_included locals (Set x v) d fs gs k m = included_itself _
  execs_included locals (SetGlobal x path v) d fs gs k m = included_itself _
  execs_included locals (Store t a path v) d fs gs k m = included_itself _
  execs_included locals (Pick x) d fs gs k m = then_included _ _ _ _ (picked_local_included n (kind_of locals x)) (λ v. included_itself _)
  execs_included locals (Seq a b) d fs gs k m =
      then_included _ _ _ _ (execs_included locals a d fs gs k m) (normally_included _ _ (execs_included locals b d fs gs k))
  execs_included locals (Cond t a b) d fs gs k m = choose_included _ _ _ _ _ (execs_included locals a d fs gs k m) (execs_included locals b d fs gs k m)
  execs_included locals (Guard c a) d fs gs k m = choose_included (holds_on l m c.exp) _ (fault c.kind) _ (fault c.kind) (execs_included locals a d fs gs k m) (included_itself _)
  execs_included locals (Catch a b) d fs gs k m =
      then_included _ _ _ _ (execs_included locals a d fs gs k m) (handled_included _ _ (execs_included locals b d fs gs k))
  execs_included locals (While cs t a) d fs gs k m =
      loop_included _ _ _ _ (λ x. included_itself _) (λ fs' gs' k' x. then_included _ _ _ _ (execs_included locals a d fs' gs' k' x) (λ f. included_itself _)) fs gs k m
  execs_included locals (Call x f es) d fs gs k m = then_included _ _ _ _ (called_included fs gs k d _) (λ r. included_itself _)

  function_included : (f : Option SimplFn) (s : Option Signature) (d : Option ℕ) (fs gs : List Runs) → AllIncluded fs gs → (c : Invocation) → Included (function_runs l (Fill n) f s d fs c) (function_runs l Any f s d gs c)
  function_included (Some f) (Some s) d fs gs k c = then_included _ _ _ _ (execs_included f.locals f.body d fs gs k _) (λ r. included_itself _)
  function_included (Some f) None d fs gs k c = included_itself _
  function_included None s d fs gs k c = included_itself _

module _ (u : SimplUnit) (k : ℕ) where
  bodies_included : (fs gs : List Runs) → AllIncluded fs gs → (d : Option ℕ) (c : Invocation) → Included (bodies u (Fill k) fs d c) (bodies u Any gs d c)
  bodies_included fs gs h d c = function_included u.layout k (simpl_fn u.functions c.name) (signature u.signatures c.name) d fs gs h c

  pub functions_included : (n : ℕ) → AllIncluded (functions_below u (Fill k) n) (functions_below u Any n)
  functions_included n = below_included (bodies u (Fill k)) (bodies u Any) bodies_included n

  pub call_included : (n : ℕ) (d : Option ℕ) (c : Invocation) → Included (simpl_runs u (Fill k) n d c) (simpl_runs u Any n d c)
  call_included n d c = bodies_included _ _ (functions_included n) d c
