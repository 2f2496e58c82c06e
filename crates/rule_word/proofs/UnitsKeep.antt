-- Units whose bodies the rules take to programs on what stands for their words keep what functions do.
use Rattle.std.proofs.Common.{◌≡◌, ℕ, zero, suc, Bool, true, false, cond, ◌&&◌, List, [], ◌∷◌, map, Option, Some, None, refl, sym, subst, ap, ap₂, ◌∙◌}
use Rattle.std.proofs.lemmas.Bool.{and_parts}
use Rattle.correspondence.specs.Outcome.{Turns, Done}
use Rattle.correspondence.specs.Corresponds.{Corresponds, Paired}
use Rattle.correspondence.specs.Related.{BothFail}
use Rattle.correspondence.proofs.Corresponds.{stop_corresponds, corresponds_weaker}
use Rattle.c_values.specs.Name.{Name, same_name, are_distinct}
use Rattle.c_values.specs.Choice.{Choice}
use Rattle.c_values.specs.Layout.{Layout, IsLayout, GlobalVar, global_type}
use Rattle.c_values.specs.Types.{CType}
use Rattle.c_values.specs.Value.{Value}
use Rattle.c_values.proofs.Options.{none_is}
use Rattle.expression_lang.specs.Evaluation.{State}
use Rattle.expression_lang.specs.Sort.{Scalar, Kind, Scope, sort_of_kind, word_sort_of, are_kinds}
use Rattle.expression_lang.specs.Sorted.{scope_with, result_scalars}
use Rattle.expression_lang.specs.Signature.{Signature, Invocation, signature, names_of, kinds_of, bound, no_env}
use Rattle.expression_lang.specs.View.{views_at}
use Rattle.expression_lang.specs.States.{IsState}
use Rattle.program_facts.specs.Lasting.{AreOfSorts, FunctionLasts, AllLast, Lasts, UnitLasts}
use Rattle.monad_lang.specs.Program.{FinalFn, FinalUnit, final_fn}
use Rattle.monad_lang.specs.Run.{Answer, Runs, runs, bodies, function_runs, functions_below}
use Rattle.monad_lang.specs.Sorted.{scalars_given, signature_of, setting_of, has_few, is_fn_sorted, are_fns_sorted, are_scalars, IsWellFormed}
use Rattle.rule_word.specs.Rule.{Context}
use Rattle.rule_word.specs.Scopes.{words, result_as_list}
use Rattle.rule_word.specs.Exact.{Meets, Views}
use Rattle.rule_word.specs.Kept.{context_of, WordsKept, AnswersAtItsKinds, kinds_taken, kinds_given, result_kinds}
use Rattle.rule_word.specs.Units.{in_scope, IsAbstractedTo, AreAbstractedTo, IsUnitAbstractedTo, UnitsKeepWords}
use Rattle.program_facts.proofs.KeepsTags.{units_keep_tags}
use Rattle.program_facts.proofs.RunsLast.{formed_units_last}
use Rattle.program_facts.proofs.SortedValues.{bound_sorted}
use Rattle.rule_word.proofs.ProgramSorts.{are_inv}
use Rattle.rule_word.proofs.ScopesAfter.{names_after, seen_after}
use Rattle.rule_word.proofs.SettingsAlike.{TakesAlike, SignedAlike, given_alike}
use Rattle.rule_word.proofs.SoundPrograms.{Function, taken_does}
use Rattle.rule_word.proofs.Standing.{Nothing}

-- what functions take and give in words, and as words of kinds

first_alike : (f g : FinalFn) (rs qs : List Kind) → map sort_of_kind rs ≡ map word_sort_of qs → result_scalars sort_of_kind (signature_of (record f { results = rs })).result ≡ result_scalars word_sort_of (signature_of (record g { results = qs })).result
first_alike f g [] [] h = refl
first_alike f g (r ∷ rs) (q ∷ qs) h = let e : sort_of_kind r ≡ word_sort_of q = cc in ap (λ c. c ∷ []) e
first_alike f g [] (q ∷ qs) h = absurd cc
first_alike f g (r ∷ rs) [] h = absurd cc

pub by_name : (a b : Signature) (o q : Option Signature) → TakesAlike sort_of_kind word_sort_of a b → SignedAlike sort_of_kind word_sort_of o q → (t : Bool) → SignedAlike sort_of_kind word_sort_of (cond t (Some a) o) (cond t (Some b) q)
by_name a b o q h k true = h
by_name a b o q h k false = k

signed_alike : (ctx : Context) (fs gs : List FinalFn) → AreAbstractedTo ctx fs gs → (x : Name) → SignedAlike sort_of_kind word_sort_of (signature (map signature_of fs) x) (signature (map signature_of gs) x)
signed_alike ctx [] [] h x = tt
signed_alike ctx (f ∷ fs) (g ∷ gs) h x =
    subst (λ y. SignedAlike sort_of_kind word_sort_of (cond (same_name f.name x) (Some (signature_of f)) (signature (map signature_of fs) x)) (cond (same_name y x) (Some (signature_of g)) (signature (map signature_of gs) x))) (sym h.0.name)
    (by_name (signature_of f) (signature_of g) (signature (map signature_of fs) x) (signature (map signature_of gs) x) (record { takes = h.0.words; gives = first_alike f g f.results g.results h.0.results }) (signed_alike ctx fs gs h.1 x) (same_name f.name x))
signed_alike ctx _ _ h x = absurd h

-- so the functions of words keep sorts at these kinds
last_alike : (l : Layout) (vs : List GlobalVar) (us ws : List Signature) → ((x : Name) → SignedAlike sort_of_kind word_sort_of (signature us x) (signature ws x)) → (f : Runs) → FunctionLasts l vs sort_of_kind us f → FunctionLasts l vs word_sort_of ws f
last_alike l vs us ws alike f h depth c b e args state = by_signature (signature us c.name) refl (alike c.name)
  where
    by_signature : (o : Option Signature) → signature us c.name ≡ o → SignedAlike sort_of_kind word_sort_of o (signature ws c.name) → (a : Answer) → f depth c (Done a) → Lasts l vs (result_scalars word_sort_of b.result) c.state a
    by_signature o q k = with_found o q (subst (λ w. SignedAlike sort_of_kind word_sort_of o w) e k)
      where
        with_found : (o : Option Signature) → signature us c.name ≡ o → SignedAlike sort_of_kind word_sort_of o (Some b) → (a : Answer) → f depth c (Done a) → Lasts l vs (result_scalars word_sort_of b.result) c.state a
        with_found None q k = λ a r. absurd k
        with_found (Some g) q k = λ a r. subst (λ cs. Lasts l vs cs c.state a) k.gives (h depth c g q (subst (λ cs. AreOfSorts cs c.arguments) (sym k.takes) args) state a r)

all_last_alike : (l : Layout) (vs : List GlobalVar) (us ws : List Signature) → ((x : Name) → SignedAlike sort_of_kind word_sort_of (signature us x) (signature ws x)) → (fs : List Runs) → AllLast l vs sort_of_kind us fs → AllLast l vs word_sort_of ws fs
all_last_alike l vs us ws alike [] h = tt
all_last_alike l vs us ws alike (f ∷ fs) h = (last_alike l vs us ws alike f h.0, all_last_alike l vs us ws alike fs h.1)

-- a body in words

-- of a function of a well-formed unit
pub fn_sorted : (u : FinalUnit) (f : FinalFn) → is_fn_sorted u f ≡ true → (scalars_given (setting_of u f) f.body ≡ Some (map sort_of_kind f.results)) × (has_few f.results ≡ true)
fn_sorted u f h =
    let a = and_parts (are_kinds (kinds_of f.params) && are_kinds f.results && are_distinct (names_of f.params) && has_few f.results) (are_scalars (map sort_of_kind f.results) (scalars_given (setting_of u f) f.body)) h in
    let b = and_parts (are_kinds (kinds_of f.params) && are_kinds f.results && are_distinct (names_of f.params)) (has_few f.results) a.0 in
    (are_inv (map sort_of_kind f.results) (scalars_given (setting_of u f) f.body) a.1, b.1)

few_alike : (g : FinalFn) (rs qs : List Kind) → map sort_of_kind rs ≡ map word_sort_of qs → has_few rs ≡ true → result_as_list (signature_of (record g { results = qs })).result ≡ qs
few_alike g [] [] h k = refl
few_alike g (r ∷ []) (q ∷ []) h k = refl
few_alike g (r ∷ r' ∷ rs) qs h k = absurd cc
few_alike g [] (q ∷ qs) h k = absurd cc
few_alike g (r ∷ []) [] h k = absurd cc
few_alike g (r ∷ []) (q ∷ q' ∷ qs) h k = absurd cc

abbrev scope_of : Layout → (Name → Option CType) → List Name → List Scalar → Scope
scope_of l globals xs cs = scope_with xs cs (record { layout = l; names = λ x. None; globals = globals })

module _ (u v : FinalUnit) (abstracted : IsUnitAbstractedTo u v) where
  alike : (x : Name) → SignedAlike sort_of_kind word_sort_of (signature (map signature_of u.functions) x) (signature (map signature_of v.functions) x)
  alike = signed_alike (context_of v) u.functions v.functions abstracted.functions

  scopes_alike : (f g : FinalFn) → IsAbstractedTo (context_of v) f g → (setting_of u f).scope ≡ (words (context_of v) (in_scope g)).scope
  scopes_alike f g h =
      ap₂ (λ xs cs. scope_of u.layout (global_type u.globals) xs cs) h.parameters h.words
      ∙ ap₂ (λ l vs. scope_of l (global_type vs) (names_of g.params) (map word_sort_of (kinds_of g.params))) (sym abstracted.layout) (sym abstracted.globals)
      ∙ ap (λ (ns : Name → Option Scalar). let s : Scope = record { layout = v.layout; names = ns; globals = global_type v.globals } in s) (names_after word_sort_of (names_of g.params) (kinds_of g.params) [])

  pub body_sorted : (f g : FinalFn) → IsAbstractedTo (context_of v) f g → is_fn_sorted u f ≡ true → scalars_given (words (context_of v) (in_scope g)) f.body ≡ Some (map word_sort_of g.results)
  body_sorted f g h k =
      sym (ap (λ s. scalars_given (record { scope = s; functions = map signature_of v.functions; sort_for = word_sort_of }) f.body) (scopes_alike f g h))
      ∙ sym (given_alike sort_of_kind word_sort_of (map signature_of u.functions) (map signature_of v.functions) alike f.body (setting_of u f).scope)
      ∙ (fn_sorted u f k).0 ∙ ap (λ cs. Some cs) h.results

-- what both have under a name
abbrev AllFound : FinalUnit → FinalUnit → Option FinalFn → Option FinalFn → Type 0
AllFound u v None None = Unit {0}
AllFound u v (Some f) (Some g) = IsAbstractedTo (context_of v) f g × (is_fn_sorted u f ≡ true)
AllFound u v _ _ = ⊥

found_by_name : (u v : FinalUnit) (f g : FinalFn) (fs gs : Option FinalFn) → AllFound u v (Some f) (Some g) → AllFound u v fs gs → (b : Bool) → AllFound u v (cond b (Some f) fs) (cond b (Some g) gs)
found_by_name u v f g fs gs h k true = h
found_by_name u v f g fs gs h k false = k

all_found : (u v : FinalUnit) (fs gs : List FinalFn) → AreAbstractedTo (context_of v) fs gs → are_fns_sorted u fs ≡ true → (x : Name) → AllFound u v (final_fn fs x) (final_fn gs x)
all_found u v [] [] h k x = tt
all_found u v (f ∷ fs) (g ∷ gs) h k x =
    let b = and_parts (is_fn_sorted u f) (are_fns_sorted u fs) k in
    subst (λ y. AllFound u v (cond (same_name f.name x) (Some f) (final_fn fs x)) (cond (same_name y x) (Some g) (final_fn gs x))) (sym h.0.name)
    (found_by_name u v f g (final_fn fs x) (final_fn gs x) (h.0, b.0) (all_found u v fs gs h.1 b.1 x) (same_name f.name x))
all_found u v _ _ h k x = absurd h

-- the signature of a function that is found
abbrev SignedAs : Option FinalFn → Option Signature → Type 0
SignedAs None None = Unit {0}
SignedAs (Some g) (Some s) = signature_of g ≡ s
SignedAs _ _ = ⊥

signed_by_name : (g : FinalFn) (o : Option FinalFn) (q : Option Signature) → SignedAs o q → (b : Bool) → SignedAs (cond b (Some g) o) (cond b (Some (signature_of g)) q)
signed_by_name g o q h true = refl
signed_by_name g o q h false = h

signed_as : (gs : List FinalFn) (x : Name) → SignedAs (final_fn gs x) (signature (map signature_of gs) x)
signed_as [] x = tt
signed_as (g ∷ gs) x = signed_by_name g (final_fn gs x) (signature (map signature_of gs) x) (signed_as gs x) (same_name g.name x)

module _ (u v : FinalUnit) (lay : IsLayout v.layout) (abstracted : IsUnitAbstractedTo u v) (p : Choice) where
  abbrev ctx : Context
  ctx = context_of v

  -- a function begins with its parameters alone
  begins : (g : FinalFn) (us : List Value) (s : State) → AreOfSorts (map word_sort_of (kinds_of g.params)) us → IsState v.layout v.globals s →
      Meets (context_of v) (record { facts = []; names = in_scope g }) (bound (names_of g.params) us no_env) (bound (names_of g.params) (views_at (kinds_of g.params) us) no_env) s
  begins g us s h i = record {
    environment = λ x c e. bound_sorted (words (context_of v) []).scope (names_of g.params) (map word_sort_of (kinds_of g.params)) us no_env h (λ y d q. none_is q) x c (ap (λ t. t x) (names_after word_sort_of (names_of g.params) (kinds_of g.params) []) ∙ e);
    names = seen_after (names_of g.params) (kinds_of g.params) us [] no_env no_env h (λ x w q. none_is q);
    facts = tt;
    state = i;
  }

  found_keeps : (f g : FinalFn) → IsAbstractedTo (context_of v) f g → is_fn_sorted u f ≡ true → (depth : Option ℕ) (fs gs : List Runs) → Paired (Function (context_of v) lay p) fs gs → (us us' : List Value) (s s' : State) →
      AreOfSorts (map word_sort_of (kinds_of g.params)) us → us' ≡ views_at (kinds_of g.params) us → s' ≡ s → IsState v.layout v.globals s →
      Corresponds (Views g.results) BothFail (runs v.layout p f.body (bound (names_of f.params) us no_env) depth fs s) (runs v.layout p g.body (bound (names_of g.params) us' no_env) depth gs s')
  found_keeps f g h sorted depth fs gs k us us' s s' words args state i =
      subst (λ xs. Corresponds (Views g.results) BothFail (runs v.layout p f.body (bound xs us no_env) depth fs s) (runs v.layout p g.body (bound (names_of g.params) us' no_env) depth gs s')) (sym h.parameters)
      (subst (λ vs. Corresponds (Views g.results) BothFail (runs v.layout p f.body (bound (names_of g.params) us no_env) depth fs s) (runs v.layout p g.body (bound (names_of g.params) vs no_env) depth gs s')) (sym args)
      (subst (λ t. Corresponds (Views g.results) BothFail (runs v.layout p f.body (bound (names_of g.params) us no_env) depth fs s) (runs v.layout p g.body (bound (names_of g.params) (views_at (kinds_of g.params) us) no_env) depth gs t)) (sym state)
      ((taken_does (context_of v) lay p Nothing Nothing (λ place place' e e' env env' s i j r. tt) (λ f g es es' env env' s i r j. tt) (record { facts = []; names = in_scope g }) h.tree f.body g.body g.results h.takes).same
      depth fs gs k (body_sorted u v abstracted f g h sorted) (bound (names_of g.params) us no_env) (bound (names_of g.params) (views_at (kinds_of g.params) us) no_env) s (begins g us s words i))))

  function_keeps : (o o' : Option FinalFn) (s : Option Signature) → AllFound u v o o' → SignedAs o' s → (depth : Option ℕ) (fs gs : List Runs) → Paired (Function (context_of v) lay p) fs gs → (c c' : Invocation) →
      AreOfSorts (map word_sort_of (kinds_taken s)) c.arguments → c'.arguments ≡ views_at (kinds_taken s) c.arguments → c'.state ≡ c.state → IsState v.layout v.globals c.state →
      Corresponds (Views (kinds_given s)) BothFail (function_runs v.layout p o depth fs c) (function_runs v.layout p o' depth gs c')
  function_keeps None None s h q depth fs gs k c c' words args state i = stop_corresponds (Views (kinds_given s)) BothFail Turns
  function_keeps (Some f) (Some g) (Some s) h q depth fs gs k c c' words args state i =
      subst (λ ks. Corresponds (Views ks) BothFail (runs v.layout p f.body (bound (names_of f.params) c.arguments no_env) depth fs c.state) (runs v.layout p g.body (bound (names_of g.params) c'.arguments no_env) depth gs c'.state))
      (sym (few_alike g f.results g.results h.0.results (fn_sorted u f h.1).1) ∙ ap (λ (r : Signature). result_as_list r.result) q)
      (found_keeps f g h.0 h.1 depth fs gs k c.arguments c'.arguments c.state c'.state
      (subst (λ (r : Signature). AreOfSorts (map word_sort_of (kinds_of r.params)) c.arguments) (sym q) words) (args ∙ ap (λ (r : Signature). views_at (kinds_of r.params) c.arguments) (sym q)) state i)
  function_keeps (Some f) (Some g) None h q depth fs gs k c c' words args state i = absurd q
  function_keeps _ _ _ h _ _ _ _ _ _ _ _ _ _ _ = absurd h

  bodies_keep : are_fns_sorted u u.functions ≡ true → (fs gs : List Runs) → Paired (Function (context_of v) lay p) fs gs → WordsKept (context_of v) (bodies u p fs) (bodies v p gs)
  bodies_keep sorted fs gs k depth c c' h =
      subst (λ l. Corresponds (AnswersAtItsKinds (context_of v) c) BothFail (function_runs l p (final_fn u.functions c.name) depth fs c) (bodies v p gs depth c')) abstracted.layout
      (subst (λ x. Corresponds (AnswersAtItsKinds (context_of v) c) BothFail (function_runs v.layout p (final_fn u.functions c.name) depth fs c) (function_runs v.layout p (final_fn v.functions x) depth gs c')) (sym h.name)
      (corresponds_weaker (Views (result_kinds (context_of v) c.name)) (AnswersAtItsKinds (context_of v) c) BothFail BothFail _ _ (λ a b r. record { values = r.values; state = r.state }) (λ x y t. t)
      (function_keeps (final_fn u.functions c.name) (final_fn v.functions c.name) (signature (map signature_of v.functions) c.name) (all_found u v u.functions v.functions abstracted.functions sorted c.name) (signed_as v.functions c.name)
      depth fs gs k c c' h.words h.arguments h.state h.can_be)))

  -- on the left, seen as words of the kinds
  lasts : UnitLasts sort_of_kind u → (n : ℕ) → AllLast v.layout v.globals word_sort_of (map signature_of v.functions) (functions_below u p n)
  lasts h n =
      subst (λ l. AllLast l v.globals word_sort_of (map signature_of v.functions) (functions_below u p n)) (sym abstracted.layout)
      (subst (λ vs. AllLast u.layout vs word_sort_of (map signature_of v.functions) (functions_below u p n)) (sym abstracted.globals)
      (all_last_alike u.layout u.globals (map signature_of u.functions) (map signature_of v.functions) (alike u v abstracted) (functions_below u p n) (h.below p n)))

  below_keep : UnitLasts sort_of_kind u → are_fns_sorted u u.functions ≡ true → (n : ℕ) → Paired (Function (context_of v) lay p) (functions_below u p n) (functions_below v p n)
  below_keep h sorted zero = tt
  below_keep h sorted (suc n) =
      let k : Paired (Function (context_of v) lay p) (functions_below u p n) (functions_below v p n) = below_keep h sorted n in
      (record { kept = bodies_keep sorted (functions_below u p n) (functions_below v p n) k; lasts = (lasts h (suc n)).0; tags = (units_keep_tags v p (suc n)).0 }, k)

kept_alone : (c : Context) (lay : IsLayout c.layout) (p : Choice) (fs gs : List Runs) → Paired (Function c lay p) fs gs → Paired (WordsKept c) fs gs
kept_alone c lay p [] [] k = tt
kept_alone c lay p (f ∷ fs) (g ∷ gs) k = (k.0.kept, kept_alone c lay p fs gs k.1)
kept_alone c lay p [] (g ∷ gs) k = absurd k
kept_alone c lay p (f ∷ fs) [] k = absurd k

pub units_keep_words : (u v : FinalUnit) → IsWellFormed u → IsUnitAbstractedTo u v → UnitsKeepWords u v
units_keep_words u v formed abstracted =
    let lay = subst IsLayout (sym abstracted.layout) formed.layout in
    let last = formed_units_last u formed in
    record {
      lasts = λ p n. lasts u v lay abstracted p last n;
      below = λ p n. kept_alone (context_of v) lay p (functions_below u p n) (functions_below v p n) (below_keep u v lay abstracted p last formed.functions n);
      runs = λ p n. bodies_keep u v lay abstracted p formed.functions (functions_below u p n) (functions_below v p n) (below_keep u v lay abstracted p last formed.functions n);
    }
