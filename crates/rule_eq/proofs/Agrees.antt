-- A well-sorted program does the same in two environments that agree on its free names.
use Rattle.std.proofs.Common.{◌≡◌, ℕ, Bool, true, not, ◌&&◌, ◌||◌, List, [], ◌∷◌, map, Option, Some, None, refl, sym, ap, ap₂, ◌∙◌, subst}
use Rattle.std.proofs.lemmas.Bool.{and_parts, and_from}
use Rattle.correspondence.specs.Outcome.{Done}
use Rattle.c_values.specs.Name.{Name, is_among, are_distinct}
use Rattle.c_values.specs.Value.{Value, truth_in}
use Rattle.c_values.specs.Layout.{Layout, IsLayout, GlobalVar, global_type}
use Rattle.c_values.specs.Choice.{Choice}
use Rattle.c_values.proofs.Options.{some_is}
use Rattle.expression_lang.specs.Expression.{Exp, Path, Here, IntoField, IntoElement}
use Rattle.expression_lang.specs.Evaluation.{Env, State}
use Rattle.expression_lang.specs.Form.{path_has}
use Rattle.expression_lang.specs.Mentions as X
use Rattle.expression_lang.specs.Mentions.{is_name}
use Rattle.expression_lang.specs.Sort.{Scalar, Scope, sort_of_kind, is_truth}
use Rattle.expression_lang.specs.Sorted.{names_with, program_sort, scalar_in, with_scalar, scalars_of}
use Rattle.expression_lang.specs.Signature.{Signature, kinds_of, signature, values_of, bound}
use Rattle.expression_lang.specs.States.{IsEnvironment, IsState}
use Rattle.monad_lang.specs.Agree.{AgreeOn}
use Rattle.monad_lang.proofs.Agreeing.{agree_left, agree_right}
use Rattle.monad_lang.proofs.AgreeingValues.{value_agrees, values_agree}
use Rattle.ac_expr.specs.Heads.{path_children}
use Rattle.monad_lang.specs.Program as M
use Rattle.monad_lang.specs.Program.{Mon, Place, Start}
use Rattle.monad_lang.specs.Names.{is_free, is_in_start, is_in_place}
use Rattle.monad_lang.specs.Run.{Answer, Runs, runs, start_names, start_values}
use Rattle.monad_lang.specs.Sorted.{Setting, scalars_given, start_scalars, one_for_each, are_scalars}
use Rattle.monad_lang.proofs.Given.{then_parts, fits_parts, given_there}
use Rattle.program_facts.specs.Places.{place_children}
use Rattle.program_facts.specs.Lasting.{AreOfSorts, CanBeCalled}
use Rattle.program_facts.proofs.SortedValues.{bound_sorted, values_sorted, starts_sorted}
use Rattle.program_facts.proofs.RunsLast.{runs_last}
use Rattle.program_facts.proofs.Sorts.{call_parts}
use Rattle.rule_eq.proofs.Bound.{AsMany, as_many, bound_alike}
use Rattle.rule_eq.proofs.Together.{Respects, Pairs, lasts_left, Does, ret_does, guard_does, choice_does, bind_does, write_does, call_does, pick_does, loop_does}

-- behind a binder
pub behind_binder : (test : Name → Bool) (xs : List Name) (vs : List Value) (env env' : Env) → AsMany xs vs → AgreeOn (λ y. not (is_among y xs) && test y) env' env → AgreeOn test (bound xs vs env') (bound xs vs env)
behind_binder test xs vs env env' k h y i = bound_alike y xs vs env env' k (λ n. h y (and_from (not (is_among y xs)) (test y) (ap not n) i))

module _ (l : Layout) (env env' : Env) (s : State) where
  pub starts_agree : (xs : List Start) → AgreeOn (λ y. is_in_start y xs) env' env → start_values l env' s xs ≡ start_values l env s xs
  starts_agree [] h = refl
  starts_agree (x ∷ xs) h =
      ap₂ (λ v vs. v ∷ vs) (value_agrees l env' env s x.exp (agree_left (λ y. X.names y x.exp) (λ y. is_in_start y xs) env' env h)) (starts_agree xs (agree_right (λ y. X.names y x.exp) (λ y. is_in_start y xs) env' env h))

  path_agrees : (path : Path) → AgreeOn (λ y. path_has (is_name y) path) env' env → values_of l env' s (path_children path) ≡ values_of l env s (path_children path)
  path_agrees Here h = refl
  path_agrees (IntoField k path) h = path_agrees path h
  path_agrees (IntoElement e path) h =
      ap₂ (λ v vs. v ∷ vs) (value_agrees l env' env s e (agree_left (λ y. X.names y e) (λ y. path_has (is_name y) path) env' env h)) (path_agrees path (agree_right (λ y. X.names y e) (λ y. path_has (is_name y) path) env' env h))

  root_agrees : (e : Exp) (path : Path) → AgreeOn (λ y. X.names y e || path_has (is_name y) path) env' env → values_of l env' s (e ∷ path_children path) ≡ values_of l env s (e ∷ path_children path)
  root_agrees e path h = path_agrees (IntoElement e path) h

  pub place_agrees : (q : Place) → AgreeOn (λ y. is_in_place y q) env' env → values_of l env' s (place_children q) ≡ values_of l env s (place_children q)
  place_agrees (M.Stored t e path) h = root_agrees e path h
  place_agrees (M.Written t e path) h = root_agrees e path h
  place_agrees (M.Global x path) h = path_agrees path h

abbrev pub NamesInScope : Type 0
NamesInScope = Name → Option Scalar

module _ (l : Layout) (laid : IsLayout l) (p : Choice) (vs : List GlobalVar) (sigs : List Signature) (P : Mon → Env → State → Type 0) (respects : Respects l P) where
  abbrev pub scope : NamesInScope → Scope
  scope names = record { layout = l; names = names; globals = global_type vs }

  abbrev pub setting : NamesInScope → Setting
  setting names = record { scope = scope names; functions = sigs; sort_for = sort_of_kind }

  -- what the two parts of a Bind give, one value for each name, and the names are distinct
  pub record BindParts (names : NamesInScope) (m : Mon) (xs : List Name) (n : Mon) (cs : List Scalar) : Type 0 where
    pub given : List Scalar
    pub first : scalars_given (setting names) m ≡ Some given
    pub one_each : one_for_each xs given ≡ true
    pub distinct : are_distinct xs ≡ true
    pub second : scalars_given (setting (names_with xs given names)) n ≡ Some cs

  pub bind_parts : (names : NamesInScope) (m : Mon) (xs : List Name) (n : Mon) (cs : List Scalar) → scalars_given (setting names) (M.Bind m xs n) ≡ Some cs → BindParts names m xs n cs
  bind_parts names m xs n cs h =
      let o = then_parts _ _ cs h in
      let f = fits_parts (one_for_each xs o.0 && are_distinct xs) (scalars_given (setting (names_with xs o.0 names)) n) cs o.2 in
      let k = and_parts (one_for_each xs o.0) (are_distinct xs) f.0 in
      record { given = o.0; first = o.1; one_each = k.0; distinct = k.1; second = f.1 }

  -- where a program begins, on the left
  pub record Starts (names : NamesInScope) (env : Env) (fs gs : List Runs) (s : State) : Type 0 where
    pub functions : Pairs l p vs sigs P respects fs gs
    pub environment : IsEnvironment (scope names) env
    pub state : IsState l vs s

  -- where the second part of a Bind begins
  pub behind : (names : NamesInScope) (m : Mon) (xs : List Name) (n : Mon) (cs : List Scalar) (b : BindParts names m xs n cs) (env : Env) (depth : Option ℕ) (fs gs : List Runs) (s : State) → Starts names env fs gs s →
      (a : Answer) → runs l p m env depth fs s (Done a) → Starts (names_with xs b.given names) (bound xs a.values env) fs gs a.state × AsMany xs a.values
  behind names m xs n cs b env depth fs gs s w a r =
      let k = runs_last p vs m (setting names) b.given laid refl b.first env w.environment depth fs (lasts_left l p vs sigs P respects fs gs w.functions) s w.state a r in
      (record { functions = w.functions; environment = bound_sorted (scope names) xs b.given a.values env k.values w.environment; state = k.state }, as_many xs b.given a.values b.one_each k.values)

  scalars_inv : (c : Option Scalar) (o : Option (List Scalar)) (ss : List Scalar) → with_scalar c o ≡ Some ss → (d : Scalar) × (ds : List Scalar) × (o ≡ Some ds) × (d ∷ ds ≡ ss)
  scalars_inv (Some d) (Some ds) ss h = (d, ds, refl, some_is h)
  scalars_inv None (Some ds) ss h = absurd cc
  scalars_inv _ _ ss h = absurd cc

  one_more : (x : Name) (xs : List Name) (d : Scalar) (ds : List Scalar) → ((us : List Value) → AreOfSorts ds us → AsMany xs us) → (us : List Value) → AreOfSorts (d ∷ ds) us → AsMany (x ∷ xs) us
  one_more x xs d ds h [] k = absurd k
  one_more x xs d ds h (u ∷ us) k = h us k.1

  none_more : (us : List Value) → AreOfSorts [] us → AsMany [] us
  none_more [] k = tt
  none_more (u ∷ us) k = absurd k

  -- one value for each name of a loop
  pub starts_many : (g : Scope) (starts : List Start) (ss : List Scalar) → start_scalars g starts ≡ Some ss → (us : List Value) → AreOfSorts ss us → AsMany (start_names starts) us
  starts_many g [] ss h us k = none_more us (subst (λ ds. AreOfSorts ds us) (sym (some_is h)) k)
  starts_many g (x ∷ xs) ss h us k =
      let i = scalars_inv (scalar_in (program_sort g x.exp)) (start_scalars g xs) ss h in
      one_more x.name (start_names xs) i.0 i.1 (starts_many g xs i.1 i.2) us (subst (λ ds. AreOfSorts ds us) (sym i.3) k)

  -- where a turn of a loop may begin, on the left
  pub record Turning (ss : List Scalar) (a : Answer) : Type 0 where
    pub values : AreOfSorts ss a.values
    pub state : IsState l vs a.state

  pub turn_starts : (names : NamesInScope) (starts : List Start) (ss : List Scalar) (env : Env) (a : Answer) (fs gs : List Runs) → Pairs l p vs sigs P respects fs gs → IsEnvironment (scope names) env → Turning ss a →
      Starts (names_with (start_names starts) ss names) (bound (start_names starts) a.values env) fs gs a.state
  turn_starts names starts ss env a fs gs paired fits t =
      record { functions = paired; environment = bound_sorted (scope names) (start_names starts) ss a.values env t.values fits; state = t.state }

  pub next_turn : (names : NamesInScope) (starts : List Start) (ss : List Scalar) (m : Mon) → scalars_given (setting (names_with (start_names starts) ss names)) m ≡ Some ss → (env : Env) (depth : Option ℕ) (a : Answer) (fs gs : List Runs) →
      Pairs l p vs sigs P respects fs gs → IsEnvironment (scope names) env → Turning ss a → (b : Answer) → runs l p m (bound (start_names starts) a.values env) depth fs a.state (Done b) → Turning ss b
  next_turn names starts ss m sorted env depth a fs gs paired fits t b r =
      let w = turn_starts names starts ss env a fs gs paired fits t in
      let k = runs_last p vs m (setting (names_with (start_names starts) ss names)) ss laid refl sorted (bound (start_names starts) a.values env) w.environment depth fs (lasts_left l p vs sigs P respects fs gs paired) a.state t.state b r in
      record { values = k.values; state = k.state }

  -- what a well-sorted loop is made of
  pub record LoopParts (names : NamesInScope) (starts : List Start) (guard test : Exp) (m : Mon) : Type 0 where
    pub given : List Scalar
    pub starts_given : start_scalars (scope names) starts ≡ Some given
    pub guard_sorted : is_truth (program_sort (scope (names_with (start_names starts) given names)) guard) ≡ true
    pub test_sorted : is_truth (program_sort (scope (names_with (start_names starts) given names)) test) ≡ true
    pub body : scalars_given (setting (names_with (start_names starts) given names)) m ≡ Some given

  pub loop_parts : (names : NamesInScope) (starts : List Start) (guard test : Exp) (m : Mon) (cs : List Scalar) → scalars_given (setting names) (M.Loop starts guard test m) ≡ Some cs → LoopParts names starts guard test m
  loop_parts names starts guard test m cs h =
      let o = then_parts _ _ cs h in
      let f = fits_parts _ _ cs o.2 in
      let inner = setting (names_with (start_names starts) o.0 names) in
      let g = is_truth (program_sort inner.scope guard) in
      let t = is_truth (program_sort inner.scope test) in
      let k = and_parts (are_distinct (start_names starts) && g && t) (are_scalars o.0 (scalars_given inner m)) f.0 in
      let j = and_parts (are_distinct (start_names starts) && g) t k.0 in
      record { given = o.0; starts_given = o.1; guard_sorted = (and_parts (are_distinct (start_names starts)) g j.0).1; test_sorted = j.1; body = given_there o.0 (scalars_given inner m) k.1 }

  pub begun : (names : NamesInScope) (starts : List Start) (ss : List Scalar) → start_scalars (scope names) starts ≡ Some ss → (env : Env) (fs gs : List Runs) (s : State) → Starts names env fs gs s → Turning ss (record { values = start_values l env s starts; state = s })
  begun names starts ss h env fs gs s w = record { values = starts_sorted (scope names) laid vs refl env w.environment s w.state starts ss h; state = w.state }

  -- what a well-sorted choice is made of
  pub record ChoiceParts (names : NamesInScope) (e : Exp) (m n : Mon) (cs : List Scalar) : Type 0 where
    pub test_sorted : is_truth (program_sort (scope names) e) ≡ true
    pub first : scalars_given (setting names) m ≡ Some cs
    pub second : scalars_given (setting names) n ≡ Some cs

  pub choice_parts : (names : NamesInScope) (e : Exp) (m n : Mon) (cs : List Scalar) → scalars_given (setting names) (M.If e m n) ≡ Some cs → ChoiceParts names e m n cs
  choice_parts names e m n cs h =
      let o = then_parts _ _ cs h in
      let f = fits_parts _ _ cs o.2 in
      let k = and_parts (is_truth (program_sort (scope names) e)) (are_scalars o.0 (scalars_given (setting names) n)) f.0 in
      let same = some_is f.1 in
      record { test_sorted = k.0; first = o.1 ∙ ap (λ ss. Some ss) same; second = given_there o.0 (scalars_given (setting names) n) k.1 ∙ ap (λ ss. Some ss) same }

  pub can_call : (names : NamesInScope) (f : Name) (es : List Exp) (cs : List Scalar) → scalars_given (setting names) (M.Call f es) ≡ Some cs → (env : Env) (fs gs : List Runs) (s : State) → Starts names env fs gs s →
      CanBeCalled l vs sigs (record { name = f; arguments = values_of l env s es; state = s })
  can_call names f es cs sorted env fs gs s w =
      let k = call_parts sort_of_kind (signature sigs f) (scalars_of (scope names) es) cs sorted in
      record { function = k.0; found = k.1; sorted = values_sorted (scope names) laid vs refl env w.environment s w.state es (map sort_of_kind (kinds_of k.0.params)) k.2; state = w.state }

  abbrev DoesSame : Mon → Mon → Env → Env → Option ℕ → List Runs → List Runs → State → Type 0
  DoesSame = Does l p vs sigs P respects

  pub agrees : (m : Mon) (names : NamesInScope) (cs : List Scalar) → scalars_given (setting names) m ≡ Some cs → (env env' : Env) → AgreeOn (λ y. is_free y m) env' env → (depth : Option ℕ) (fs gs : List Runs) (s : State) → Starts names env fs gs s →
      DoesSame m m env env' depth fs gs s
  agrees (M.Ret es) names cs sorted env env' h depth fs gs s w = ret_does l p vs sigs P respects es es env env' depth fs gs s (values_agree l env' env s es h)
  agrees (M.Bind m xs n) names cs sorted env env' h depth fs gs s w =
      let b = bind_parts names m xs n cs sorted in
      bind_does l p vs sigs P respects m m xs n n env env' depth fs gs s
      (agrees m names b.given b.first env env' (agree_left (λ y. is_free y m) (λ y. not (is_among y xs) && is_free y n) env' env h) depth fs gs s w)
      (λ a r r'. let k = behind names m xs n cs b env depth fs gs s w a r in
      agrees n (names_with xs b.given names) cs b.second (bound xs a.values env) (bound xs a.values env')
      (behind_binder (λ y. is_free y n) xs a.values env env' k.1 (agree_right (λ y. is_free y m) (λ y. not (is_among y xs) && is_free y n) env' env h)) depth fs gs a.state k.0)
  agrees (M.Guard e) names cs sorted env env' h depth fs gs s w = guard_does l p vs sigs P respects e e env env' depth fs gs s (value_agrees l env' env s e h)
  agrees (M.If e m n) names cs sorted env env' h depth fs gs s w =
      let k = choice_parts names e m n cs sorted in
      let first = agree_left (λ y. X.names y e || is_free y m) (λ y. is_free y n) env' env h in
      choice_does l p vs sigs P respects e e m m n n env env' depth fs gs s (value_agrees l env' env s e (agree_left (λ y. X.names y e) (λ y. is_free y m) env' env first))
      (λ i. agrees m names cs k.first env env' (agree_right (λ y. X.names y e) (λ y. is_free y m) env' env first) depth fs gs s w)
      (λ i. agrees n names cs k.second env env' (agree_right (λ y. X.names y e || is_free y m) (λ y. is_free y n) env' env h) depth fs gs s w)
  agrees (M.Write q e) names cs sorted env env' h depth fs gs s w =
      write_does l p vs sigs P respects q q e e env env' depth fs gs s refl (place_agrees l env env' s q (agree_left (λ y. is_in_place y q) (λ y. X.names y e) env' env h))
      (value_agrees l env' env s e (agree_right (λ y. is_in_place y q) (λ y. X.names y e) env' env h))
  agrees (M.Loop starts guard test m) names cs sorted env env' h depth fs gs s w =
      let k = loop_parts names starts guard test m cs sorted in
      let xs = start_names starts in
      let inner : Name → Bool = λ y. X.names y guard || X.names y test || is_free y m in
      let behind' : (a : Answer) → Turning k.given a → AgreeOn inner (bound xs a.values env') (bound xs a.values env) = λ a t.
      behind_binder inner xs a.values env env' (starts_many (scope names) starts k.given k.starts_given a.values t.values) (agree_right (λ y. is_in_start y starts) (λ y. not (is_among y xs) && inner y) env' env h) in
      loop_does l p vs sigs P respects starts starts guard guard test test m m env env' depth (Turning k.given)
      (λ a t. ap truth_in (value_agrees l (bound xs a.values env') (bound xs a.values env) a.state guard
      (agree_left (λ y. X.names y guard) (λ y. X.names y test) (bound xs a.values env') (bound xs a.values env) (agree_left (λ y. X.names y guard || X.names y test) (λ y. is_free y m) (bound xs a.values env') (bound xs a.values env) (behind' a t)))))
      (λ a t i. ap truth_in (value_agrees l (bound xs a.values env') (bound xs a.values env) a.state test
      (agree_right (λ y. X.names y guard) (λ y. X.names y test) (bound xs a.values env') (bound xs a.values env) (agree_left (λ y. X.names y guard || X.names y test) (λ y. is_free y m) (bound xs a.values env') (bound xs a.values env) (behind' a t)))))
      (λ hs js paired a t i. agrees m (names_with xs k.given names) k.given k.body (bound xs a.values env) (bound xs a.values env')
      (agree_right (λ y. X.names y guard || X.names y test) (λ y. is_free y m) (bound xs a.values env') (bound xs a.values env) (behind' a t)) depth hs js a.state (turn_starts names starts k.given env a hs js paired w.environment t))
      (λ hs js paired a t b r r'. next_turn names starts k.given m k.body env depth a hs js paired w.environment t b r)
      fs gs w.functions s refl (starts_agree l env env' s starts (agree_left (λ y. is_in_start y starts) (λ y. not (is_among y xs) && inner y) env' env h)) (begun names starts k.given k.starts_given env fs gs s w)
  agrees (M.Call f es) names cs sorted env env' h depth fs gs s w =
      call_does l p vs sigs P respects f es es env env' depth fs gs s w.functions (can_call names f es cs sorted env fs gs s w) (values_agree l env' env s es h)
  agrees (M.Pick k) names cs sorted env env' h depth fs gs s w = pick_does l p vs sigs P respects k env env' depth fs gs s
