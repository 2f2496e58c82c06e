-- What a program does in one step, whatever is pending.
use Rattle.std.proofs.Common.{◌≡◌, ℕ, ◌&&◌, Bool, true, false, List, [], ◌∷◌, map, Option, Some, None, refl, sym, ap, subst, pos}
use Rattle.std.proofs.lemmas.Bool.{and_parts, false≢true}
use Rattle.std.specs.Prelude.{IsSome, string_bytes}
use Rattle.c_values.specs.Name.{Name}
use Rattle.correspondence.specs.Outcome.{Outcome, Done, Failed, Ends, goes_on, choose}
use Rattle.c_values.specs.Value.{Value}
use Rattle.c_values.specs.Choice.{Fill}
use Rattle.c_values.specs.Layout.{IsLayout}
use Rattle.c_values.proofs.Options.{some_is}
use Rattle.c_memory.proofs.Indexed.{is_some_of}
use Rattle.expression_lang.specs.Expression.{Exp}
use Rattle.expression_lang.specs.Sort.{Scalar, Sort, Scope, sort_of, Kind, WordKind, NatKind, IntKind, BoolKind, is_kind, sort_of_kind, is_truth}
use Rattle.expression_lang.specs.Sorted.{program_sort, fits_place}
use Rattle.expression_lang.specs.Evaluation.{Env, State, value, holds}
use Rattle.expression_lang.specs.States.{IsOfSort, IsState}
use Rattle.expression_lang.specs.Signature.{values_of}
use Rattle.expression_lang.specs.Wide.{Operation, wide, or_else}
use Rattle.expression_lang.specs.View.{picked_at}
use Rattle.expression_lang.specs.CodeState.{Bindings, env_of, AreScalars}
use Rattle.expression_lang.proofs.Filled.{word_fits}
use Rattle.expression_lang.proofs.SortParts.{program_sort_inv}
use Rattle.monad_lang.specs.Program.{Place, Start, Mon, Ret, Guard, If, Write, Loop, Pick, FinalUnit}
use Rattle.monad_lang.specs.Run.{Answer, start_names, start_values, written}
use Rattle.monad_lang.specs.Sorted.{place_sort, where_fits, are_scalars, scalars_given}
use Rattle.monad_lang.specs.declared.program.Start as S
use Rattle.monad_lang.specs.CodeProgram.{start_of}
use Rattle.monad_lang.proofs.Given.{then_parts, fits_parts}
use Rattle.program_facts.specs.Lasting.{AreOfSorts}
use Rattle.program_facts.proofs.SortedValues.{values_sorted, starts_sorted}
use Rattle.program_runs.specs.WideRun.{Trouble, Fails, unless, wide_among, wide_at_place, wide_at_starts}
use Rattle.program_runs.specs.Machine.{Bound, Running, Turning, Gave, runs_at, setting_at, CanRun, Leads, Steps}
use Rattle.program_runs.specs.CodeRun.{picked_value}
use Rattle.program_runs.proofs.Bindings.{environment}
use Rattle.program_runs.proofs.MachineSteps.{gives, if_not, loop_begins}

pub unless_none : {A : Type 0} (o : Option Operation) (p : Ends A Trouble) (x : Outcome A Trouble) → o ≡ None → p x → unless o p x
unless_none None p x h k = k
unless_none (Some w) p x h k = absurd cc

pub choose_true : {A F : Type 0} (b : Bool) (p q : Ends A F) (x : Outcome A F) → b ≡ true → p x → choose b p q x
choose_true true p q x h k = k
choose_true false p q x h k = absurd cc

pub choose_false : {A F : Type 0} (b : Bool) (p q : Ends A F) (x : Outcome A F) → b ≡ false → q x → choose b p q x
choose_false false p q x h k = k
choose_false true p q x h k = absurd cc

pub names_of_starts : (ss : List S.Start) → start_names (map start_of ss) ≡ map (λ x. string_bytes x.name) ss
names_of_starts [] = refl
names_of_starts (x ∷ xs) = ap (λ ns. string_bytes x.name ∷ ns) (names_of_starts xs)

sort_there : (o : Option Sort) → is_truth o ≡ true → (c : Sort) × (o ≡ Some c)
sort_there (Some c) h = (c, refl)
sort_there None h = absurd (false≢true h)

pub truth_sorted : (g : Scope) (e : Exp) → is_truth (program_sort g e) ≡ true → IsSome (sort_of g e)
truth_sorted g e h = let p = sort_there (program_sort g e) h in is_some_of (sort_of g e) p.0 (program_sort_inv g e p.0 p.1)

module _ (u : FinalUnit) (bs : Bindings) where
  pub guard_sorted : (e : Exp) → CanRun u bs (Guard e) → IsSome (sort_of (setting_at u bs).scope e)
  guard_sorted e h = truth_sorted (setting_at u bs).scope e (fits_parts (is_truth (program_sort (setting_at u bs).scope e)) (Some []) h.scalars h.gives).0

  pub if_sorted : (e : Exp) (m n : Mon) → CanRun u bs (If e m n) → IsSome (sort_of (setting_at u bs).scope e)
  if_sorted e m n h =
      let g = (setting_at u bs).scope in
      let o = then_parts (scalars_given (setting_at u bs) m) (λ cs. where_fits (is_truth (program_sort g e) && are_scalars cs (scalars_given (setting_at u bs) n)) (Some cs)) h.scalars h.gives in
      let f = fits_parts (is_truth (program_sort g e) && are_scalars o.0 (scalars_given (setting_at u bs) n)) (Some o.0) h.scalars o.2 in
      truth_sorted g e (and_parts (is_truth (program_sort g e)) (are_scalars o.0 (scalars_given (setting_at u bs) n)) f.0).0

module _ (u : FinalUnit) (layout : IsLayout u.layout) (k : ℕ) (bs : Bindings) (all : AreScalars bs) (b : Bound) (s : State) (state : IsState u.layout u.globals s) where
  abbrev env : Env
  env = env_of bs

  same_values : {vs ws : List Value} → vs ≡ ws → ◌≡◌ {A = Answer} (record { values = vs; state = s }) (record { values = ws; state = s })
  same_values h = ap (λ ws. record { values = ws; state = s }) h

  same_state : {a b : State} → a ≡ b → ◌≡◌ {A = Answer} (record { values = []; state = a }) (record { values = []; state = b })
  same_state h = ap (λ t. record { values = []; state = t }) h

  pub ret_leads : (es : List Exp) (vs : List Value) → vs ≡ values_of u.layout env s es → wide_among u.layout env s es ≡ None → Leads u k bs (Ret es) b s (Gave vs) s
  ret_leads es vs same narrow fs out h =
      gives u k out fs s bs (Ret es) b vs s h.here
      (unless_none (wide_among u.layout env s es) _ _ narrow (same_values same))
      (subst (λ ws. AreOfSorts h.here ws) (sym same) (values_sorted (setting_at u bs).scope layout u.globals refl env (environment u bs all) s state es h.here h.now.gives)) h.rest

  nothing_given : (cs : List Scalar) → Some [] ≡ Some cs → AreOfSorts cs []
  nothing_given cs h = subst (λ ds. AreOfSorts ds []) (some_is h) tt

  pub guard_leads : (e : Exp) → wide u.layout env s e ≡ None → holds u.layout env s e ≡ true → Leads u k bs (Guard e) b s (Gave []) s
  guard_leads e narrow on fs out h =
      gives u k out fs s bs (Guard e) b [] s h.here
      (unless_none (wide u.layout env s e) _ _ narrow (choose_true (holds u.layout env s e) _ _ _ on refl))
      (nothing_given h.here (fits_parts (is_truth (program_sort (setting_at u bs).scope e)) (Some []) h.here h.now.gives).1) h.rest

  pub guard_fails : (e : Exp) → wide u.layout env s e ≡ None → holds u.layout env s e ≡ false → runs_at u k env (Guard e) b s (Failed Fails)
  guard_fails e narrow off =
      unless_none (wide u.layout env s e) _ _ narrow (choose_false (holds u.layout env s e) _ _ _ off refl)

  pub else_leads : (e : Exp) (m n : Mon) → wide u.layout env s e ≡ None → holds u.layout env s e ≡ false → Leads u k bs (If e m n) b s (Running bs n b) s
  else_leads e m n narrow off fs out h = if_not u k out fs s bs e m n b narrow h off

  pub write_leads : (place : Place) (e : Exp) (s' : State) → or_else (wide_at_place u.layout env s place) (wide u.layout env s e) ≡ None → s' ≡ written u.layout env s place (value u.layout env s e) →
      Leads u k bs (Write place e) b s (Gave []) s'
  write_leads place e s' narrow same fs out h =
      gives u k out fs s bs (Write place e) b [] s' h.here
      (unless_none (or_else (wide_at_place u.layout env s place) (wide u.layout env s e)) _ _ narrow (same_state same))
      (nothing_given h.here (fits_parts (fits_place (place_sort (setting_at u bs).scope place) (program_sort (setting_at u bs).scope e)) (Some []) h.here h.now.gives).1) h.rest

  pub loop_leads : (starts : List Start) (guard test : Exp) (m : Mon) (xs : List Name) (vs : List Value) → start_names starts ≡ xs → wide_at_starts u.layout env s starts ≡ None → vs ≡ start_values u.layout env s starts →
      Leads u k bs (Loop starts guard test m) b s (Turning bs (record { names = xs; guard = guard; test = test; body = m; left = b }) vs) s
  loop_leads starts guard test m xs vs named narrow same fs out h =
      loop_begins u k out fs s bs starts guard test m b xs vs named narrow same
      (λ ss e. subst (λ ws. AreOfSorts ss ws) (sym same) (starts_sorted (setting_at u bs).scope layout u.globals refl env (environment u bs all) s state starts ss e))
      h

-- picks

pub picked_is : (k : ℕ) (q : Kind) → picked_at {F = Trouble} (Fill k) q (Done (picked_value k q))
picked_is k (WordKind n) = goes_on refl refl
picked_is k (NatKind n) = goes_on refl refl
picked_is k (IntKind n) = goes_on refl refl
picked_is k BoolKind = refl

pub picked_fits : (k : ℕ) (q : Kind) → IsOfSort (sort_of_kind q) (picked_value k q)
picked_fits k (WordKind n) = word_fits n (pos k)
picked_fits _ _ = tt

pub kind_sorted : (u : FinalUnit) (bs : Bindings) (q : Kind) → CanRun u bs (Pick q) → is_kind q ≡ true
kind_sorted u bs q h = (fits_parts (is_kind q) (Some (sort_of_kind q ∷ [])) h.scalars h.gives).0

module _ (u : FinalUnit) (k : ℕ) (bs : Bindings) (b : Bound) (s : State) where
  pub pick_leads : (q : Kind) (vs : List Value) → vs ≡ picked_value k q ∷ [] → Leads u k bs (Pick q) b s (Gave vs) s
  pick_leads q vs same fs out h =
      subst (λ ws. Steps u k out (record { stack = fs; now = Running bs (Pick q) b; state = s }) (record { stack = fs; now = Gave ws; state = s })) (sym same)
      (gives u k out fs s bs (Pick q) b (picked_value k q ∷ []) s h.here (goes_on (picked_is k q) refl)
      (subst (λ ds. AreOfSorts ds (picked_value k q ∷ [])) (some_is (fits_parts (is_kind q) (Some (sort_of_kind q ∷ [])) h.here h.now.gives).1) (picked_fits k q, tt)) h.rest)
