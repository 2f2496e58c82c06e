-- Runs of well-sorted programs give values of their scalars, and leave a state that can be, with its tags; so do the functions of a
-- unit, at every bound.
use Rattle.std.proofs.Common.{◌≡◌, ℕ, zero, suc, Bool, true, false, cond, ◌&&◌, List, [], ◌∷◌, map, ◌⊎◌, Option, Some, None, pos, inl, inr, refl, sym, ap, ◌∙◌, subst}
use Rattle.std.proofs.lemmas.Bool.{and_parts, and_from, false≢true}
use Rattle.correspondence.specs.Bound.{called}
use Rattle.correspondence.specs.Always.{Always}
use Rattle.correspondence.proofs.Always.{then_always}
use Rattle.c_values.specs.Name.{Name, same_name, are_distinct}
use Rattle.c_values.specs.Value.{Value, Truth}
use Rattle.c_values.specs.Word.{IsWord}
use Rattle.c_values.specs.Layout.{Layout, IsLayout, GlobalVar, global_type}
use Rattle.c_values.specs.Choice.{Choice, Any, Fill, picked}
use Rattle.c_values.proofs.Options.{some_is}
use Rattle.expression_lang.specs.Sort.{Scalar, WordSort, NumberSort, TruthSort, Kind, WordKind, NatKind, IntKind, BoolKind, Scope, is_truth, is_kind, are_kinds, sort_of_kind}
use Rattle.expression_lang.specs.Sorted.{program_sort, scalars_of, same_scalars, fits_place, result_scalars, call_scalars}
use Rattle.expression_lang.specs.Signature.{Signature, Invocation, names_of, kinds_of, signature, values_of, bound, no_env}
use Rattle.expression_lang.specs.Evaluation.{Env, State, value, holds}
use Rattle.expression_lang.specs.States.{IsOfSort, IsEnvironment, IsState}
use Rattle.expression_lang.specs.View.{IsTruth, picked_at}
use Rattle.expression_lang.proofs.SameScalars.{same_scalars_are}
use Rattle.expression_lang.proofs.Filled.{word_fits}
use Rattle.monad_lang.specs.Program.{Mon, Ret, Bind, Guard, If, Write, Loop, Call, Pick, FinalFn, FinalUnit, final_fn}
use Rattle.monad_lang.specs.Run.{Answer, Failure, Runs, start_names, start_values, runs, function_runs, bodies, functions_below}
use Rattle.monad_lang.specs.Sorted.{Setting, setting_with, start_scalars, are_scalars, place_sort, where_fits, one_for_each, scalars_given, signature_of, has_few, is_fn_sorted, are_fns_sorted, IsWellFormed}
use Rattle.monad_lang.proofs.Given.{then_parts, fits_parts, given_there}
use Rattle.program_facts.specs.Lasting.{AreOfSorts, Lasts, FunctionLasts, AllLast, setting_in, setting_for, is_sorted_for, are_sorted_for, UnitLasts}
use Rattle.program_facts.proofs.KeptAlong.{Keeps, loop_keeps, choose_always, done_always}
use Rattle.program_facts.proofs.KeepsTags.{place_keeps_tags}
use Rattle.program_facts.proofs.SortedValues.{bound_sorted, values_sorted, starts_sorted, place_written}

-- where a program has scalars

-- a call that fits its signature
pub record CallFits (sort_for : Kind → Scalar) (o : Option Signature) (es cs : List Scalar) : Type 0 where
  pub found : Signature
  pub there : o ≡ Some found
  pub arguments : map sort_for (kinds_of found.params) ≡ es
  pub result : result_scalars sort_for found.result ≡ cs

call_where : (sort_for : Kind → Scalar) (g : Signature) (es cs : List Scalar) (b : Bool) → same_scalars (map sort_for (kinds_of g.params)) es ≡ b →
    cond b (Some (result_scalars sort_for g.result)) None ≡ Some cs → CallFits sort_for (Some g) es cs
call_where sort_for g es cs true k h = record { found = g; there = refl; arguments = same_scalars_are (map sort_for (kinds_of g.params)) es k; result = some_is h }
call_where sort_for g es cs false k h = absurd cc

call_inv : (sort_for : Kind → Scalar) (o : Option Signature) (p : Option (List Scalar)) (cs : List Scalar) → call_scalars sort_for o p ≡ Some cs →
    (es : List Scalar) × (p ≡ Some es) × CallFits sort_for o es cs
call_inv sort_for (Some g) (Some es) cs h = (es, refl, call_where sort_for g es cs (same_scalars (map sort_for (kinds_of g.params)) es) refl h)
call_inv sort_for None (Some es) cs h = absurd cc
call_inv sort_for _ _ cs h = absurd cc

-- picks

picked_word : (p : Choice) (n : ℕ) → Always {F = Failure} (IsWord n) (picked p n)
picked_word Any n w h = h
picked_word (Fill k) n w h = subst (IsWord n) (sym h) (word_fits n (pos k))

truth_sorted : (v : Value) → IsTruth v → IsOfSort TruthSort v
truth_sorted (Truth b) h = tt
truth_sorted _ h = absurd h

picked_sorted : (p : Choice) (k : Kind) → Always {F = Failure} (IsOfSort (sort_of_kind k)) (picked_at p k)
picked_sorted p (WordKind n) = then_always (IsWord n) (IsOfSort (WordSort n)) _ _ (picked_word p n) (λ w h v e. subst (IsOfSort (WordSort n)) (sym e) h)
picked_sorted p (NatKind n) = then_always (IsWord n) (IsOfSort NumberSort) _ _ (picked_word p n) (λ w h v e. subst (IsOfSort NumberSort) (sym e) tt)
picked_sorted p (IntKind n) = then_always (IsWord n) (IsOfSort NumberSort) _ _ (picked_word p n) (λ w h v e. subst (IsOfSort NumberSort) (sym e) tt)
picked_sorted Any BoolKind = truth_sorted
picked_sorted (Fill n) BoolKind = λ v e. subst (IsOfSort TruthSort) (sym e) tt

-- calls

called_lasts : (l : Layout) (vs : List GlobalVar) (sort_for : Kind → Scalar) (fs : List Signature) (gs : List Runs) → AllLast l vs sort_for fs gs → (depth : Option ℕ) (c : Invocation) (g : Signature) →
    signature fs c.name ≡ Some g → AreOfSorts (map sort_for (kinds_of g.params)) c.arguments → IsState l vs c.state → Always (Lasts l vs (result_scalars sort_for g.result) c.state) (called gs depth c)
called_lasts l vs sort_for fs [] h depth c g e k s = λ a r. absurd r
called_lasts l vs sort_for fs (f ∷ gs) h None c g e k s = h.0 None c g e k s
called_lasts l vs sort_for fs (f ∷ gs) h (Some zero) c g e k s = λ a r. absurd r
called_lasts l vs sort_for fs (f ∷ gs) h (Some (suc depth)) c g e k s = h.0 (Some depth) c g e k s

module _ (p : Choice) (vs : List GlobalVar) where
  -- from the state s, with these scalars
  abbrev From : Setting → List Scalar → State → Answer → Type 0
  From t cs s a = Lasts t.scope.layout vs cs s a

  -- an answer of what began at an answer
  after : (t : Setting) (cs ds : List Scalar) (s : State) (a b : Answer) → From t cs s a → From t ds a.state b → From t ds s b
  after t cs ds s a b h k = record { values = k.values; state = k.state; tags = k.tags ∙ h.tags }

  pub runs_last : (m : Mon) (t : Setting) (cs : List Scalar) → IsLayout t.scope.layout → t.scope.globals ≡ global_type vs → scalars_given t m ≡ Some cs →
      (env : Env) → IsEnvironment t.scope env → (depth : Option ℕ) (gs : List Runs) → AllLast t.scope.layout vs t.sort_for t.functions gs → (s : State) → IsState t.scope.layout vs s →
      Always (Lasts t.scope.layout vs cs s) (runs t.scope.layout p m env depth gs s)
  runs_last (Ret es) t cs h known sorted env names depth gs k s state =
      done_always (From t cs s) _ (record { values = values_sorted t.scope h vs known env names s state es cs sorted; state = state; tags = refl })
  runs_last (Bind m xs n) t cs h known sorted env names depth gs k s state =
      let i = then_parts (scalars_given t m) (λ ss. where_fits (one_for_each xs ss && are_distinct xs) (scalars_given (setting_with xs ss t) n)) cs sorted in
      let j = fits_parts (one_for_each xs i.0 && are_distinct xs) (scalars_given (setting_with xs i.0 t) n) cs i.2 in
      then_always (From t i.0 s) (From t cs s) _ _ (runs_last m t i.0 h known i.1 env names depth gs k s state)
      (λ a r b e. after t i.0 cs s a b r
      (runs_last n (setting_with xs i.0 t) cs h known j.1 (bound xs a.values env) (bound_sorted t.scope xs i.0 a.values env r.values names) depth gs k a.state r.state b e))
  runs_last (Guard e) t cs h known sorted env names depth gs k s state =
      let i = fits_parts (is_truth (program_sort t.scope e)) (Some []) cs sorted in
      choose_always (From t cs s) (holds t.scope.layout env s e) _ _
      (λ j. done_always (From t cs s) _ (record { values = subst (λ ds. AreOfSorts ds []) (some_is i.1) tt; state = state; tags = refl })) (λ j a r. absurd r)
  runs_last (If e m n) t cs h known sorted env names depth gs k s state =
      let i = then_parts (scalars_given t m) (λ ss. where_fits (is_truth (program_sort t.scope e) && are_scalars ss (scalars_given t n)) (Some ss)) cs sorted in
      let j = fits_parts (is_truth (program_sort t.scope e) && are_scalars i.0 (scalars_given t n)) (Some i.0) cs i.2 in
      let same = some_is j.1 in
      let b = and_parts (is_truth (program_sort t.scope e)) (are_scalars i.0 (scalars_given t n)) j.0 in
      choose_always (From t cs s) (holds t.scope.layout env s e) _ _
      (λ q. runs_last m t cs h known (i.1 ∙ ap (λ ds. Some ds) same) env names depth gs k s state)
      (λ q. runs_last n t cs h known (given_there i.0 (scalars_given t n) b.1 ∙ ap (λ ds. Some ds) same) env names depth gs k s state)
  runs_last (Write place e) t cs h known sorted env names depth gs k s state =
      let i = fits_parts (fits_place (place_sort t.scope place) (program_sort t.scope e)) (Some []) cs sorted in
      done_always (From t cs s) _ (record {
        values = subst (λ ds. AreOfSorts ds []) (some_is i.1) tt;
        state = place_written t.scope h vs known env names s state place e i.0;
        tags = place_keeps_tags t.scope.layout env s place (value t.scope.layout env s e);
      })
  runs_last (Loop starts guard test m) t cs h known sorted env names depth gs k s state =
      let xs = start_names starts in
      let inner : List Scalar → Setting = λ ss. setting_with xs ss t in
      let i = then_parts (start_scalars t.scope starts)
      (λ ss. where_fits (are_distinct xs && is_truth (program_sort (inner ss).scope guard) && is_truth (program_sort (inner ss).scope test) && are_scalars ss (scalars_given (inner ss) m)) (Some ss)) cs sorted in
      let all = are_distinct xs && is_truth (program_sort (inner i.0).scope guard) && is_truth (program_sort (inner i.0).scope test) in
      let j = fits_parts (all && are_scalars i.0 (scalars_given (inner i.0) m)) (Some i.0) cs i.2 in
      let same = some_is j.1 in
      let body = given_there i.0 (scalars_given (inner i.0) m) (and_parts all (are_scalars i.0 (scalars_given (inner i.0) m)) j.0).1 in
      let F : Answer → Type 0 = From t i.0 s in
      let K : Answer ⊎ Answer → Type 0 = Keeps F F in
      subst (λ ds. Always (From t ds s) (runs t.scope.layout p (Loop starts guard test m) env depth gs s)) same
      (loop_keeps (AllLast t.scope.layout vs t.sort_for t.functions) (λ f fs q. q.1) F F _ _
      (λ a q. choose_always K (holds t.scope.layout (bound xs a.values env) a.state guard) _ _
      (λ w. choose_always K (holds t.scope.layout (bound xs a.values env) a.state test) _ _ (λ w. done_always K (inl a) q) (λ w. done_always K (inr a) q)) (λ w b r. absurd r))
      (λ fs q a r. then_always F K _ _
      (λ b e. after t i.0 i.0 s a b r (runs_last m (inner i.0) i.0 h known body (bound xs a.values env) (bound_sorted t.scope xs i.0 a.values env r.values names) depth fs q a.state r.state b e))
      (λ b w. done_always K (inl b) w))
      gs k (record { values = start_values t.scope.layout env s starts; state = s })
      (record { values = starts_sorted t.scope h vs known env names s state starts i.0 i.1; state = state; tags = refl }))
  runs_last (Call f es) t cs h known sorted env names depth gs k s state =
      let i = call_inv t.sort_for (signature t.functions f) (scalars_of t.scope es) cs sorted in
      let fit = i.2 in
      let given = subst (λ ds. AreOfSorts ds (values_of t.scope.layout env s es)) (sym fit.arguments) (values_sorted t.scope h vs known env names s state es i.0 i.1) in
      subst (λ ds. Always (From t ds s) (runs t.scope.layout p (Call f es) env depth gs s)) fit.result
      (called_lasts t.scope.layout vs t.sort_for t.functions gs k depth (record { name = f; arguments = values_of t.scope.layout env s es; state = s }) fit.found fit.there given state)
  runs_last (Pick q) t cs h known sorted env names depth gs k s state =
      let i = fits_parts (is_kind q) (Some (sort_of_kind q ∷ [])) cs sorted in
      then_always (IsOfSort (sort_of_kind q)) (From t cs s) _ _ (picked_sorted p q)
      (λ v r. done_always (From t cs s) _ (record { values = subst (λ ds. AreOfSorts ds (v ∷ [])) (some_is i.1) (r, tt); state = state; tags = refl }))

-- the functions of a unit

results_are : (sort_for : Kind → Scalar) (f : FinalFn) → has_few f.results ≡ true → map sort_for f.results ≡ result_scalars sort_for (signature_of f).result
results_are sort_for f h = of f.results h
  where
    of : (rs : List Kind) → has_few rs ≡ true → map sort_for rs ≡ result_scalars sort_for (signature_of (record { name = f.name; level = f.level; params = f.params; results = rs; body = f.body })).result
    of [] e = refl
    of (k ∷ []) e = refl
    of (k ∷ j ∷ ks) e = absurd (false≢true e)

module _ (sort_for : Kind → Scalar) (u : FinalUnit) where
  -- what a call finds
  pub record Found (o : Option FinalFn) (g : Signature) : Type 0 where
    pub function : FinalFn
    pub there : o ≡ Some function
    pub signed : signature_of function ≡ g
    pub sorted : is_sorted_for sort_for u function ≡ true

  pub found : (fs : List FinalFn) (x : Name) (g : Signature) → are_sorted_for sort_for u fs ≡ true → signature (map signature_of fs) x ≡ Some g → Found (final_fn fs x) g
  found [] x g h e = absurd cc
  found (f ∷ fs) x g h e = by_name (found fs x g both.1) (same_name f.name x) e
    where
      both : (is_sorted_for sort_for u f ≡ true) × (are_sorted_for sort_for u fs ≡ true)
      both = and_parts (is_sorted_for sort_for u f) (are_sorted_for sort_for u fs) h

      by_name : (signature (map signature_of fs) x ≡ Some g → Found (final_fn fs x) g) → (b : Bool) → cond b (Some (signature_of f)) (signature (map signature_of fs) x) ≡ Some g → Found (cond b (Some f) (final_fn fs x)) g
      by_name rest true k = record { function = f; there = refl; signed = some_is k; sorted = both.0 }
      by_name rest false k = rest k

  module _ (h : IsLayout u.layout) (all : are_sorted_for sort_for u u.functions ≡ true) (p : Choice) where
    abbrev signed : List Signature
    signed = map signature_of u.functions

    body_lasts : (f : FinalFn) → is_sorted_for sort_for u f ≡ true → (depth : Option ℕ) (gs : List Runs) → AllLast u.layout u.globals sort_for signed gs → (c : Invocation) →
        AreOfSorts (map sort_for (kinds_of f.params)) c.arguments → IsState u.layout u.globals c.state →
        Always (Lasts u.layout u.globals (result_scalars sort_for (signature_of f).result) c.state) (function_runs u.layout p (Some f) depth gs c)
    body_lasts f k depth gs q c given state =
        let b = and_parts (has_few f.results) (are_scalars (map sort_for f.results) (scalars_given (setting_for sort_for u f) f.body)) k in
        let gives = given_there (map sort_for f.results) (scalars_given (setting_for sort_for u f) f.body) b.1 in
        let start : Scope = record { layout = u.layout; names = λ x. None; globals = global_type u.globals } in
        runs_last p u.globals f.body (setting_for sort_for u f) (result_scalars sort_for (signature_of f).result) h refl (gives ∙ ap (λ ds. Some ds) (results_are sort_for f b.0))
        (bound (names_of f.params) c.arguments no_env) (bound_sorted start (names_of f.params) (map sort_for (kinds_of f.params)) c.arguments no_env given (λ x e n. absurd cc)) depth gs q c.state state

    bodies_last : (gs : List Runs) → AllLast u.layout u.globals sort_for signed gs → FunctionLasts u.layout u.globals sort_for signed (bodies u p gs)
    bodies_last gs q depth c g e given state =
        let f = found u.functions c.name g all e in
        subst (λ o. Always (Lasts u.layout u.globals (result_scalars sort_for g.result) c.state) (function_runs u.layout p o depth gs c)) (sym f.there)
        (subst (λ s. Always (Lasts u.layout u.globals (result_scalars sort_for s.result) c.state) (function_runs u.layout p (Some f.function) depth gs c)) f.signed
        (body_lasts f.function f.sorted depth gs q c (subst (λ s. AreOfSorts (map sort_for (kinds_of s.params)) c.arguments) (sym f.signed) given) state))

    below_last : (n : ℕ) → AllLast u.layout u.globals sort_for signed (functions_below u p n)
    below_last zero = tt
    below_last (suc n) = (bodies_last (functions_below u p n) (below_last n), below_last n)

pub units_last : (sort_for : Kind → Scalar) (u : FinalUnit) → IsLayout u.layout → are_sorted_for sort_for u u.functions ≡ true → UnitLasts sort_for u
units_last sort_for u h all = record {
  below = λ p n. below_last sort_for u h all p n;
  runs = λ p n. bodies_last sort_for u h all p (functions_below u p n) (below_last sort_for u h all p n);
}

-- a well-formed unit
pub sorted_at_kinds : (u : FinalUnit) (fs : List FinalFn) → are_fns_sorted u fs ≡ true → are_sorted_for sort_of_kind u fs ≡ true
sorted_at_kinds u [] h = refl
sorted_at_kinds u (f ∷ fs) h =
    let p = and_parts (is_fn_sorted u f) (are_fns_sorted u fs) h in
    let gives = are_scalars (map sort_of_kind f.results) (scalars_given (setting_for sort_of_kind u f) f.body) in
    let front = are_kinds (kinds_of f.params) && are_kinds f.results && are_distinct (names_of f.params) in
    let q = and_parts (front && has_few f.results) gives p.0 in
    and_from (is_sorted_for sort_of_kind u f) (are_sorted_for sort_of_kind u fs) (and_from (has_few f.results) gives (and_parts front (has_few f.results) q.0).1 q.1) (sorted_at_kinds u fs p.1)

pub formed_units_last : (u : FinalUnit) → IsWellFormed u → UnitLasts sort_of_kind u
formed_units_last u h = units_last sort_of_kind u h.layout (sorted_at_kinds u u.functions h.functions)

-- a well-sorted program that calls the functions of a unit
pub programs_last : (sort_for : Kind → Scalar) (u : FinalUnit) → IsLayout u.layout → are_sorted_for sort_for u u.functions ≡ true → (p : Choice) (n : ℕ) (names : Name → Option Scalar) (m : Mon) (cs : List Scalar) →
    scalars_given (setting_in sort_for u names) m ≡ Some cs → (env : Env) → IsEnvironment (setting_in sort_for u names).scope env → (depth : Option ℕ) (s : State) → IsState u.layout u.globals s →
    Always (Lasts u.layout u.globals cs s) (runs u.layout p m env depth (functions_below u p n) s)
programs_last sort_for u h all p n names m cs sorted env known depth s state =
    runs_last p u.globals m (setting_in sort_for u names) cs h refl sorted env known depth (functions_below u p n) (below_last sort_for u h all p n) s state
