-- The rules of programs are sound: one lemma for each row of the table, and the induction over an accepted tree. From states that
-- are alike, where the facts hold on the right, both sides fail alike, give the same values in states that are alike, and stop alike.
use Rattle.std.proofs.Common.{◌≡◌, ℕ, suc, Bool, true, false, ◌||◌, List, [], ◌∷◌, ◌++◌, length, map, Option, Some, inl, inr, refl, sym, subst, ap, ap₂, ◌∙◌}
use Rattle.std.proofs.lemmas.Bool.{and_parts, or_parts, not_from_false, not-true}
use Rattle.correspondence.specs.Outcome.{Ends, done, fault, Then, choose, loop}
use Rattle.correspondence.specs.Corresponds.{Corresponds, Either, Paired, SameFunctions}
use Rattle.correspondence.specs.Related.{BothFail, Same}
use Rattle.correspondence.proofs.Corresponds.{done_corresponds, fault_corresponds, then_corresponds, choose_corresponds, called_corresponds}
use Rattle.correspondence.proofs.Steps.{same_on_right, same_on_left, after_done, after_fault}
use Rattle.correspondence.proofs.Turning.{turning_corresponds, Reached, reached}
use Rattle.c_values.specs.Name.{Name, with_name}
use Rattle.c_values.specs.Types.{CType}
use Rattle.c_values.specs.Value.{Value, word_in, truth_in}
use Rattle.c_values.specs.Layout.{Layout, IsLayout, GlobalVar, global_type, shape_of}
use Rattle.c_values.specs.Path.{Step, spot, upd}
use Rattle.c_values.specs.Choice.{Choice}
use Rattle.c_memory.specs.Heap.{write_heap}
use Rattle.expression_lang.specs.Expression as E
use Rattle.expression_lang.specs.Expression.{Exp, Path}
use Rattle.expression_lang.specs.Form.{has, path_has, is_load, is_read}
use Rattle.expression_lang.specs.Evaluation.{Env, State, value, steps, holds}
use Rattle.expression_lang.specs.Sort.{Scalar, Kind, Scope, sort_of_kind, is_truth}
use Rattle.expression_lang.specs.Sorted.{names_with, program_sort, typed_place, fits_place, scalar_in, with_scalar, scalars_of}
use Rattle.expression_lang.specs.Signature.{Signature, Invocation, signature, kinds_of, values_of, bound}
use Rattle.expression_lang.specs.States.{IsEnvironment, IsState, state_with}
use Rattle.expression_lang.specs.View.{picked_at}
use Rattle.ac_expr.specs.Heads.{path_children, path_head}
use Rattle.ac_expr.specs.Fact.{Fact, Whole, NotTrue, AllSay}
use Rattle.ac_expr.specs.Known.{IsKnown}
use Rattle.ac_expr.proofs.HeadsAgree.{SameValues, steps_same, path_as_many}
use Rattle.monad_lang.specs.Program as M
use Rattle.monad_lang.specs.Program.{Mon, Start}
use Rattle.monad_lang.specs.Form.{some_has, start_has, program_has, is_stored, is_written}
use Rattle.monad_lang.specs.Run.{Answer, Failure, Runs, runs, start_names, start_values, entered}
use Rattle.monad_lang.specs.Sorted.{Setting, scalars_given, are_scalars, start_scalars}
use Rattle.monad_lang.proofs.Given.{then_parts, fits_parts, given_there}
use Rattle.program_facts.specs.Lasting.{AreOfSorts, FunctionLasts, FunctionKeepsTags, AllLast, AllKeepTags}
use Rattle.program_facts.proofs.SortedValues.{bound_sorted, values_sorted, written_shaped}
use Rattle.program_facts.proofs.RunsLast.{runs_last}
use Rattle.program_facts.specs.Flow.{facts_after}
use Rattle.program_facts.proofs.FactsAfter.{facts_after_hold}
use Rattle.rule_trees.specs.RuleTree.{Tree, AllHold}
use Rattle.rule_trees.proofs.Induction.{holds as accepted_holds}
use Rattle.rule_heap.specs.Rule as R
use Rattle.rule_heap.specs.Rule.{Rule, Claim, OfProgram, OfExp}
use Rattle.rule_heap.specs.Table.{each, IsPlace, row, table, Takes}
use Rattle.rule_parts.specs.Starts.{start_exps}
use Rattle.monad_lang.specs.Calls.{calls_only}
use Rattle.rule_heap.proofs.Alike.{AreAlike}
use Rattle.rule_heap.proofs.InRange.{Leads, leads_there}
use Rattle.rule_heap.proofs.SoundValues.{SoundExp, covered_left, covered_ok, tagged, known, each_same, exp_sound}
use Rattle.rule_heap.proofs.StayingValues.{value_stays, path_stays}
use Rattle.program_facts.proofs.Sorts.{call_parts, bind_parts}
use Rattle.rule_heap.proofs.ExpForms.{has_some}

same_rest : {A : Type 0} {x y : A} {xs ys : List A} → ◌≡◌ {A = List A} (x ∷ xs) (y ∷ ys) → xs ≡ ys
same_rest h = cc

abbrev Names : Type 0
Names = Name → Option Scalar

-- what is in scope, and which functions and globals there are, stay; the names change
module _ (l : Layout) (laid : IsLayout l) (p : Choice) (vs : List GlobalVar) (sigs : List Signature) (callable : Name → Bool) (alike : State → State → Type 0) (laws : AreAlike l alike) where
  abbrev pub scope : Names → Scope
  scope names = record { layout = l; names = names; globals = global_type vs }

  abbrev pub setting : Names → Setting
  setting names = record { scope = scope names; functions = sigs; sort_for = sort_of_kind }

  -- calls from states that are alike
  pub record AlikeCalls (c c' : Invocation) : Type 0 where
    pub name : c'.name ≡ c.name
    pub arguments : c'.arguments ≡ c.arguments
    pub near : alike c.state c'.state
    pub state : IsState l vs c.state
    pub may_be : callable c.name ≡ true
    pub sorted : (g : Signature) × (signature sigs c.name ≡ Some g) × AreOfSorts (map sort_of_kind (kinds_of g.params)) c.arguments

  pub record AlikeAnswers (a b : Answer) : Type 0 where
    pub values : b.values ≡ a.values
    pub near : alike a.state b.state

  abbrev pub DoSame : Runs → Runs → Type 0
  DoSame = SameFunctions AlikeCalls AlikeAnswers BothFail

  -- functions of both sides, which last and keep the tags
  pub record AreFunctions (f g : Runs) : Type 0 where
    pub same : DoSame f g
    pub last : FunctionLasts l vs sort_of_kind sigs f
    pub tags : FunctionKeepsTags g

  all_same : (fs gs : List Runs) → Paired AreFunctions fs gs → Paired DoSame fs gs
  all_same [] [] h = tt
  all_same (f ∷ fs) (g ∷ gs) h = (h.0.same, all_same fs gs h.1)
  all_same [] (g ∷ gs) h = absurd h
  all_same (f ∷ fs) [] h = absurd h

  all_last : (fs gs : List Runs) → Paired AreFunctions fs gs → AllLast l vs sort_of_kind sigs fs
  all_last [] [] h = tt
  all_last (f ∷ fs) (g ∷ gs) h = (h.0.last, all_last fs gs h.1)
  all_last [] (g ∷ gs) h = absurd h
  all_last (f ∷ fs) [] h = absurd h

  all_tags : (fs gs : List Runs) → Paired AreFunctions fs gs → AllKeepTags gs
  all_tags [] [] h = tt
  all_tags (f ∷ fs) (g ∷ gs) h = (h.0.tags, all_tags fs gs h.1)
  all_tags [] (g ∷ gs) h = absurd h
  all_tags (f ∷ fs) [] h = absurd h

  abbrev pub AreSame : Ends Answer Failure → Ends Answer Failure → Type 0
  AreSame q r = Corresponds AlikeAnswers BothFail q r

  -- where both sides begin
  pub record Begins (names : Names) (fs : List Fact) (env : Env) (before after : List Runs) (s s' : State) : Type 0 where
    pub functions : Paired AreFunctions before after
    pub environment : IsEnvironment (scope names) env
    pub state : IsState l vs s
    pub near : alike s s'
    pub said : AllSay l env s' fs

  -- from there the right side does what the left side does
  abbrev pub Sound : List Fact → Mon → Mon → Type 1
  Sound fs m m' =
      (names : Names) (cs : List Scalar) → scalars_given (setting names) m ≡ Some cs → calls_only callable m ≡ true → (env : Env) (depth : Option ℕ) (before after : List Runs) (s s' : State) →
      Begins names fs env before after s s' → AreSame (runs l p m env depth before s) (runs l p m' env depth after s')

  abbrev pub Agrees : List Fact → Exp → Exp → Type 0
  Agrees = SoundExp l laid alike laws

  -- expressions in a row
  abbrev pub AgreeAll : List Fact → List Exp → List Exp → Type 0
  AgreeAll fs as' bs = (env : Env) (s s' : State) → alike s s' → AllSay l env s' fs → SameValues l env env s s' as' bs

  pub ret : (fs : List Fact) (es es' : List Exp) → AgreeAll fs es es' → Sound fs (M.Ret es) (M.Ret es')
  ret fs es es' sound names cs sorted calls env depth before after s s' b =
      done_corresponds AlikeAnswers BothFail _ _ (record { values = sound env s s' b.near b.said; near = b.near })

  pub guard : (fs : List Fact) (e e' : Exp) → Agrees fs e e' → Sound fs (M.Guard e) (M.Guard e')
  guard fs e e' sound names cs sorted calls env depth before after s s' b =
      choose_corresponds AlikeAnswers BothFail (holds l env s e) (holds l env s' e') _ _ _ _ (sym (ap truth_in (sound env s s' b.near b.said)))
      (λ h. done_corresponds AlikeAnswers BothFail _ _ (record { values = refl; near = b.near })) (λ h. fault_corresponds AlikeAnswers BothFail tt tt tt)

  -- with one fact more
  also : (names : Names) (fs : List Fact) (f : Fact) (env : Env) (before after : List Runs) (s s' : State) → Begins names fs env before after s s' → AllSay l env s' (f ∷ []) →
      Begins names (f ∷ fs) env before after s s'
  also names fs f env before after s s' b h = record { functions = b.functions; environment = b.environment; state = b.state; near = b.near; said = (h.0, b.said) }

  pub choice : (fs : List Fact) (e e' : Exp) (m m' n n' : Mon) → Agrees fs e e' → Sound (Whole e' ∷ fs) m m' → Sound (NotTrue e' ∷ fs) n n' → Sound fs (M.If e m n) (M.If e' m' n')
  choice fs e e' m m' n n' se sm sn names cs sorted calls env depth before after s s' b =
      let o = then_parts _ _ cs sorted in
      let f = fits_parts _ _ cs o.2 in
      let k = and_parts (is_truth (program_sort (scope names) e)) (are_scalars o.0 (scalars_given (setting names) n)) f.0 in
      let c = and_parts (calls_only callable m) (calls_only callable n) calls in
      let same : holds l env s' e' ≡ holds l env s e = ap truth_in (se env s s' b.near b.said) in
      choose_corresponds AlikeAnswers BothFail (holds l env s e) (holds l env s' e') _ _ _ _ (sym same)
      (λ h. sm names o.0 o.1 c.0 env depth before after s s' (also names fs (Whole e') env before after s s' b (same ∙ h, tt)))
      (λ h. sn names o.0 (given_there o.0 (scalars_given (setting names) n) k.1) c.1 env depth before after s s' (also names fs (NotTrue e') env before after s s' b (not_from_false (holds l env s' e') (same ∙ h), tt)))

  pub bind : (fs : List Fact) (m m' : Mon) (xs : List Name) (n n' : Mon) → Sound fs m m' → Sound (facts_after m' xs fs) n n' → Sound fs (M.Bind m xs n) (M.Bind m' xs n')
  bind fs m m' xs n n' sm sn names cs sorted calls env depth before after s s' b =
      let o = bind_parts (setting names) m xs n cs sorted in
      let c = and_parts (calls_only callable m) (calls_only callable n) calls in
      let first = sm names o.0 o.1 c.0 env depth before after s s' b in
      then_corresponds (Reached AlikeAnswers (runs l p m env depth before s) (runs l p m' env depth after s')) AlikeAnswers BothFail _ _ _ _
      (reached AlikeAnswers BothFail (runs l p m env depth before s) (runs l p m' env depth after s') first)
      (λ a a' r. rest o.0 o.1 o.2 c.1 a a' r)
    where
      rest : (ss : List Scalar) → scalars_given (setting names) m ≡ Some ss → scalars_given (setting (names_with xs ss names)) n ≡ Some cs → calls_only callable n ≡ true → (a a' : Answer) →
          Reached AlikeAnswers (runs l p m env depth before s) (runs l p m' env depth after s') a a' →
          AreSame (runs l p n (bound xs a.values env) depth before a.state) (runs l p n' (bound xs a'.values env) depth after a'.state)
      rest ss given sorted' calls' a a' r =
          let k = runs_last p vs m (setting names) ss laid refl given env b.environment depth before (all_last before after b.functions) s b.state a r.left in
          let said' : AllSay l (bound xs a'.values env) a'.state (facts_after m' xs fs) = facts_after_hold l p m' xs fs env depth after (all_tags before after b.functions) s' b.said a' r.right in
          subst (λ us. AreSame (runs l p n (bound xs a.values env) depth before a.state) (runs l p n' (bound xs us env) depth after a'.state)) (sym r.related.values)
          (sn (names_with xs ss names) cs sorted' calls' (bound xs a.values env) depth before after a.state a'.state
          (record {
            functions = b.functions;
            environment = bound_sorted (scope names) xs ss a.values env k.values b.environment;
            state = k.state;
            near = r.related.near;
            said = subst (λ us. AllSay l (bound xs us env) a'.state (facts_after m' xs fs)) r.related.values said';
          }))

  abbrev with_global : Name → (Name → Value) → List Step → Value → Name → Value
  with_global x globals ps v = with_name x (upd (globals x) ps v) globals

  pub global : (fs : List Fact) (x : Name) (path way : Path) (e e' : Exp) → path_head way ≡ path_head path → AgreeAll fs (path_children path) (path_children way) → Agrees fs e e' →
      Sound fs (M.Write (M.Global x path) e) (M.Write (M.Global x way) e')
  global fs x path way e e' heads sp se names cs sorted calls env depth before after s s' b =
      let ps = steps_same l env env s s' path way heads (sp env s s' b.near b.said) in
      let new = with_global x s.globals (steps l env s path) (value l env s e) in
      let same : with_global x s'.globals (steps l env s' way) (value l env s' e') ≡ new =
      ap (λ g. with_global x g (steps l env s' way) (value l env s' e')) (laws.globals s s' b.near) ∙ ap₂ (λ qs v. with_global x s.globals qs v) ps (se env s s' b.near b.said) in
      done_corresponds AlikeAnswers BothFail _ _ (record { values = refl; near = subst (λ g. alike (state_with s.heap new) (state_with s'.heap g)) (sym same) (laws.sets s s' b.near new) })

  write : (fs : List Fact) (t : CType) (q r : Exp) (path way : Path) (e e' : Exp) → path_head way ≡ path_head path → IsPlace l fs t r way → Agrees fs q r → AgreeAll fs (path_children path) (path_children way) → Agrees fs e e' →
      Sound fs (M.Write (M.Stored t q path) e) (M.Write (M.Written t r way) e')
  write fs t q r path way e e' heads place sq sp se names cs sorted calls env depth before after s s' b =
      let at : value l env s' r ≡ value l env s q = sq env s s' b.near b.said in
      let ps = steps_same l env env s s' path way heads (sp env s s' b.near b.said) in
      let leads : Leads (shape_of l t) (steps l env s' way) = leads_there l env s' fs b.said way (shape_of l t) place.1 in
      let fits = fits_parts (fits_place (typed_place (scope names) t q path) (program_sort (scope names) e)) (Some []) cs sorted in
      let shaped = written_shaped (scope names) laid vs refl env b.environment s b.state t q path e fits.0 leads.end (subst (λ qs. spot (shape_of l t) qs ≡ Some leads.end) ps leads.spot) in
      let new : List Step → Value → Value → State = λ qs a v. state_with (write_heap l s.heap t (word_in a).bits qs v) s.globals in
      let new' : Value → State = λ v. state_with (write_heap l s'.heap t (word_in (value l env s' r)).bits (steps l env s' way) v) s'.globals in
      done_corresponds AlikeAnswers BothFail _ _
      (record {
        values = refl;
        near = subst (λ v. alike (new (steps l env s path) (value l env s q) (value l env s e)) (new' v)) (sym (se env s s' b.near b.said))
            (subst (λ qs. alike (new qs (value l env s q) (value l env s e)) (new' (value l env s e))) ps
            (subst (λ a. alike (new (steps l env s' way) a (value l env s e)) (new' (value l env s e))) at
            (laws.writes s s' b.near t (word_in (value l env s' r)).bits (steps l env s' way) leads.end (value l env s e) (covered_left l alike laws fs t r env s s' b.near b.said place.0) leads.range leads.spot shaped)));
      })

  pub call : (fs : List Fact) (f : Name) (es es' : List Exp) → AgreeAll fs es es' → Sound fs (M.Call f es) (M.Call f es')
  call fs f es es' sound names cs sorted calls env depth before after s s' b =
      let k = call_parts sort_of_kind (signature sigs f) (scalars_of (scope names) es) cs sorted in
      called_corresponds AlikeCalls AlikeAnswers BothFail before after (all_same before after b.functions) depth _ _
      (record {
        name = refl;
        arguments = sound env s s' b.near b.said;
        near = b.near;
        state = b.state;
        may_be = calls;
        sorted = (k.0, k.1, values_sorted (scope names) laid vs refl env b.environment s b.state es (map sort_of_kind (kinds_of k.0.params)) k.2);
      })

  itself : {A F : Type 0} (q : Ends A F) → Corresponds Same BothFail q q
  itself q = record {
    done = λ a x. (a, refl, x);
    done_back = λ a x. (a, refl, x);
    failed = λ f x. (f, tt, x);
    failed_back = λ f x. (f, tt, x);
    stopped = λ w x. x;
    stopped_back = λ w x. x;
  }

  pub pick : (fs : List Fact) (k : Kind) → Sound fs (M.Pick k) (M.Pick k)
  pick fs k names cs sorted calls env depth before after s s' b =
      then_corresponds Same AlikeAnswers BothFail _ _ _ _ (itself (picked_at p k))
      (λ v v' e. done_corresponds AlikeAnswers BothFail _ _ (record { values = ap (λ u. u ∷ []) e; near = b.near }))

  -- a guard that was passed, and a second one after it, against the second one alone
  pointed : (x y y' : Bool) (a b' : Answer) (Y : Answer → Bool) (B : Answer → Answer) (q r : Answer → Ends Answer Failure) → Y a ≡ y → y' ≡ y → (y ≡ true → x ≡ true) → (y' ≡ true → AreSame (q (B a)) (r b')) →
      AreSame (Then (choose x (done a) (fault tt)) (λ c. Then (choose (Y c) (done (B c)) (fault tt)) q)) (Then (choose y' (done b') (fault tt)) r)
  pointed true true true a b' Y B q r e i ok k =
      same_on_left (after_done a _)
      (subst (λ z. AreSame (Then (choose z (done (B a)) (fault tt)) q) (Then (done b') r)) (sym e) (same_on_left (after_done (B a) q) (same_on_right (after_done b' r) (k refl))))
  pointed true false false a b' Y B q r e i ok k =
      same_on_left (after_done a _)
      (subst (λ z. AreSame (Then (choose z (done (B a)) (fault tt)) q) (Then (fault tt) r)) (sym e)
      (same_on_left (after_fault tt q) (same_on_right (after_fault tt r) (fault_corresponds AlikeAnswers BothFail tt tt tt))))
  pointed false false false a b' Y B q r e i ok k = same_on_left (after_fault tt _) (same_on_right (after_fault tt r) (fault_corresponds AlikeAnswers BothFail tt tt tt))
  pointed false true y' a b' Y B q r e i ok k = absurd (no_guard (ok refl))
    where
      no_guard : false ≡ true → ⊥
      no_guard h = absurd cc
  pointed true true false a b' Y B q r e i ok k = absurd cc
  pointed x false true a b' Y B q r e i ok k = absurd cc

  pointer : (fs : List Fact) (t : CType) (q r : Exp) (m m' : Mon) → Agrees fs q r → Sound (facts_after (M.Guard (E.Tagged t r)) [] fs) m m' →
      Sound fs (M.Bind (M.Guard (E.PtrOk t q)) [] (M.Bind (M.Guard (E.Tagged t q)) [] m)) (M.Bind (M.Guard (E.Tagged t r)) [] m')
  pointer fs t q r m m' sq sm names cs sorted calls env depth before after s s' b =
      let o = bind_parts (setting names) (M.Guard (E.PtrOk t q)) [] (M.Bind (M.Guard (E.Tagged t q)) [] m) cs sorted in
      let o' = bind_parts (setting names) (M.Guard (E.Tagged t q)) [] m cs o.2 in
      pointed (holds l env s (E.PtrOk t q)) (holds l env s (E.Tagged t q)) (holds l env s' (E.Tagged t r)) _ _ (λ a. holds l env a.state (E.Tagged t q)) (λ a. record { values = []; state = a.state })
      (λ a. runs l p m env depth before a.state) (λ a. runs l p m' env depth after a.state) refl (ap truth_in (tagged_same b.near b.said))
      (λ h. covered_ok l s t (word_in (value l env s q)).bits laid (laws.placed s s' b.near) h)
      (λ h. sm names cs o'.2 calls env depth before after s s' (also names fs (Whole (E.Tagged t r)) env before after s s' b (h, tt)))
    where
      tagged_same : alike s s' → AllSay l env s' fs → value l env s' (E.Tagged t r) ≡ value l env s (E.Tagged t q)
      tagged_same near said = tagged l laid alike laws fs t q r sq env s s' near said

  drop : (fs : List Fact) (t : CType) (q r : Exp) (m m' : Mon) → IsKnown fs (E.Tagged t r) → Agrees fs q r → Sound fs m m' → Sound fs (M.Bind (M.Guard (E.PtrOk t q)) [] m) m'
  drop fs t q r m m' k sq sm names cs sorted calls env depth before after s s' b =
      let o = bind_parts (setting names) (M.Guard (E.PtrOk t q)) [] m cs sorted in
      let empty : Answer = record { values = []; state = s } in
      let ok : holds l env s (E.PtrOk t q) ≡ true = ap truth_in (sym (known l laid alike laws fs t q r k sq env s s' b.near b.said)) in
      subst (λ z. AreSame (Then (choose z (done empty) (fault tt)) (λ a. runs l p m (bound [] a.values env) depth before a.state)) (runs l p m' env depth after s')) (sym ok)
      (same_on_left (after_done _ _) (sm names cs o.2 calls env depth before after s s' b))

  starts_are : (env : Env) (s : State) (starts : List Start) → start_values l env s starts ≡ values_of l env s (start_exps starts)
  starts_are env s [] = refl
  starts_are env s (x ∷ xs) = ap (λ vs. value l env s x.exp ∷ vs) (starts_are env s xs)

  start_scalars_are : (names : Names) (starts : List Start) → start_scalars (scope names) starts ≡ scalars_of (scope names) (start_exps starts)
  start_scalars_are names [] = refl
  start_scalars_are names (x ∷ xs) = ap (λ ss. with_scalar (scalar_in (program_sort (scope names) x.exp)) ss) (start_scalars_are names xs)

  -- loops

  -- between turns
  pub record Between (ss : List Scalar) (a a' : Answer) : Type 0 where
    pub related : AlikeAnswers a a'
    pub values : AreOfSorts ss a.values
    pub state : IsState l vs a.state

  -- where a turn is made: guard and test hold
  pub record Inside (env : Env) (xs : List Name) (fs : List Fact) (ss : List Scalar) (a a' : Answer) : Type 0 where
    pub between : Between ss a a'
    pub said : AllSay l (bound xs a'.values env) a'.state fs

  module _ (names : Names) (ss : List Scalar) (xs : List Name) (guard guard' test test' : Exp) (m m' : Mon) (sg : Agrees [] guard guard') (st : Agrees (Whole guard' ∷ []) test test')
      (sm : Sound (Whole test' ∷ Whole guard' ∷ []) m m') (sorted : scalars_given (setting (names_with xs ss names)) m ≡ Some ss) (calls : calls_only callable m ≡ true) (env : Env) (environment : IsEnvironment (scope names) env)
      (depth : Option ℕ) where
    abbrev turn_facts : List Fact
    turn_facts = Whole test' ∷ Whole guard' ∷ []

    abbrev env_of : Answer → Env
    env_of a = bound xs a.values env

    -- an expression of the loop, from answers that are related
    look : (fs : List Fact) (e e' : Exp) → Agrees fs e e' → (a a' : Answer) → AlikeAnswers a a' → AllSay l (env_of a') a'.state fs → holds l (env_of a) a.state e ≡ holds l (env_of a') a'.state e'
    look fs e e' s a a' r said =
        subst (λ us. AllSay l (bound xs us env) a'.state fs → holds l (env_of a) a.state e ≡ holds l (bound xs us env) a'.state e') (sym r.values)
        (λ k. sym (ap truth_in (s (env_of a) a.state a'.state r.near k))) said

    enters : (a a' : Answer) → Between ss a a' → Corresponds (Either (Inside env xs turn_facts ss) AlikeAnswers) BothFail (entered l guard test env_of a) (entered l guard' test' env_of a')
    enters a a' b =
        choose_corresponds (Either (Inside env xs turn_facts ss) AlikeAnswers) BothFail (holds l (env_of a) a.state guard) (holds l (env_of a') a'.state guard') _ _ _ _ guards
        (λ h. tested (sym guards ∙ h)) (λ h. fault_corresponds (Either (Inside env xs turn_facts ss) AlikeAnswers) BothFail tt tt tt)
      where
        guards : holds l (env_of a) a.state guard ≡ holds l (env_of a') a'.state guard'
        guards = look [] guard guard' sg a a' b.related tt

        tested : holds l (env_of a') a'.state guard' ≡ true →
            Corresponds {F = Failure} {G = Failure} (Either (Inside env xs turn_facts ss) AlikeAnswers) BothFail (choose (holds l (env_of a) a.state test) (done (inl a)) (done (inr a))) (choose (holds l (env_of a') a'.state test') (done (inl a')) (done (inr a')))
        tested g =
            let tests = look (Whole guard' ∷ []) test test' st a a' b.related (g, tt) in
            choose_corresponds (Either (Inside env xs turn_facts ss) AlikeAnswers) BothFail (holds l (env_of a) a.state test) (holds l (env_of a') a'.state test') _ _ _ _ tests
            (λ h. done_corresponds (Either (Inside env xs turn_facts ss) AlikeAnswers) BothFail (inl a) (inl a') (record { between = b; said = (sym tests ∙ h, (g, tt)) }))
            (λ h. done_corresponds (Either (Inside env xs turn_facts ss) AlikeAnswers) BothFail (inr a) (inr a') b.related)

    turn : (fs gs : List Runs) → Paired AreFunctions fs gs → (a a' : Answer) → Inside env xs turn_facts ss a a' →
        Corresponds (Either (Between ss) AlikeAnswers) BothFail (Then (runs l p m (env_of a) depth fs a.state) (λ b. done (inl b))) (Then (runs l p m' (env_of a') depth gs a'.state) (λ b. done (inl b)))
    turn fs gs paired a a' i =
        then_corresponds (Reached AlikeAnswers (runs l p m (env_of a) depth fs a.state) (runs l p m' (env_of a') depth gs a'.state)) (Either (Between ss) AlikeAnswers) BothFail _ _ _ _
        (reached AlikeAnswers BothFail (runs l p m (env_of a) depth fs a.state) (runs l p m' (env_of a') depth gs a'.state) body)
        (λ b b' r. done_corresponds (Either (Between ss) AlikeAnswers) BothFail (inl b) (inl b') (next b b' r))
      where
        there : IsEnvironment (scope (names_with xs ss names)) (env_of a)
        there = bound_sorted (scope names) xs ss a.values env i.between.values environment

        body : AreSame (runs l p m (env_of a) depth fs a.state) (runs l p m' (env_of a') depth gs a'.state)
        body =
            subst (λ us. AllSay l (bound xs us env) a'.state turn_facts → AreSame (runs l p m (env_of a) depth fs a.state) (runs l p m' (bound xs us env) depth gs a'.state)) (sym i.between.related.values)
            (λ said. sm (names_with xs ss names) ss sorted calls (env_of a) depth fs gs a.state a'.state
            (record { functions = paired; environment = there; state = i.between.state; near = i.between.related.near; said = said })) i.said

        next : (b b' : Answer) → Reached AlikeAnswers (runs l p m (env_of a) depth fs a.state) (runs l p m' (env_of a') depth gs a'.state) b b' → Between ss b b'
        next b b' r =
            let k = runs_last p vs m (setting (names_with xs ss names)) ss laid refl sorted (env_of a) there depth fs (all_last fs gs paired) a.state i.between.state b r.left in
            record { related = r.related; values = k.values; state = k.state }

    pub turns : (fs gs : List Runs) → Paired AreFunctions fs gs → (a a' : Answer) → Between ss a a' →
        AreSame (loop (entered l guard test env_of) (λ fs a. Then (runs l p m (env_of a) depth fs a.state) (λ b. done (inl b))) fs a)
        (loop (entered l guard' test' env_of) (λ gs a. Then (runs l p m' (env_of a) depth gs a.state) (λ b. done (inl b))) gs a')
    turns fs gs paired a a' b =
        turning_corresponds AreFunctions (Between ss) (Inside env xs turn_facts ss) AlikeAnswers BothFail (entered l guard test env_of) (entered l guard' test' env_of)
        (λ fs a. Then (runs l p m (env_of a) depth fs a.state) (λ b. done (inl b))) (λ gs a. Then (runs l p m' (env_of a) depth gs a.state) (λ b. done (inl b))) enters turn fs gs paired a a' b

  pub repeat : (fs : List Fact) (starts starts' : List Start) (guard guard' test test' : Exp) (m m' : Mon) → start_names starts' ≡ start_names starts → AgreeAll fs (start_exps starts) (start_exps starts') →
      Agrees [] guard guard' → Agrees (Whole guard' ∷ []) test test' → Sound (Whole test' ∷ Whole guard' ∷ []) m m' → Sound fs (M.Loop starts guard test m) (M.Loop starts' guard' test' m')
  repeat fs starts starts' guard guard' test test' m m' named ss sg st sm names cs sorted calls env depth before after s s' b =
      let o = then_parts _ _ cs sorted in
      let f = fits_parts _ _ cs o.2 in
      let xs = start_names starts in
      let inner = setting (names_with xs o.0 names) in
      let k = and_parts _ (are_scalars o.0 (scalars_given inner m)) f.0 in
      let begun : start_values l env s' starts' ≡ start_values l env s starts = starts_are env s' starts' ∙ ss env s s' b.near b.said ∙ sym (starts_are env s starts) in
      subst (λ ys. AreSame (runs l p (M.Loop starts guard test m) env depth before s)
      (loop (entered l guard' test' (λ a. bound ys a.values env)) (λ gs a. Then (runs l p m' (bound ys a.values env) depth gs a.state) (λ b. done (inl b))) after (record { values = start_values l env s' starts'; state = s' })))
      (sym named)
      (turns names o.0 xs guard guard' test test' m m' sg st sm (given_there o.0 (scalars_given inner m) k.1) calls env b.environment depth before after b.functions _ _
      (record { related = record { values = begun; near = b.near }; values = starts_sorted names env s starts o.0 b.environment b.state o.1; state = b.state }))
    where
      starts_sorted : (names : Names) (env : Env) (s : State) (starts : List Start) (ss : List Scalar) → IsEnvironment (scope names) env → IsState l vs s → start_scalars (scope names) starts ≡ Some ss → AreOfSorts ss (start_values l env s starts)
      starts_sorted names env s starts ss environment state given =
          subst (λ us. AreOfSorts ss us) (sym (starts_are env s starts))
          (values_sorted (scope names) laid vs refl env environment s state (start_exps starts) ss (sym (start_scalars_are names starts) ∙ given))

  -- a program without loads and stores, and without reads and writes, does the same as itself

  some_stay : (fs : List Fact) (es : List Exp) → some_has is_load es ≡ false → some_has is_read es ≡ false → AgreeAll fs es es
  some_stay fs [] h k env s s' near said = refl
  some_stay fs (e ∷ es) h k env s s' near said =
      let x = or_parts (has is_load e) (some_has is_load es) h in
      let y = or_parts (has is_read e) (some_has is_read es) k in
      ap₂ (λ v vs. v ∷ vs) (stays fs e x.0 y.0 env s s' near said) (some_stay fs es x.1 y.1 env s s' near said)
    where
      stays : (fs : List Fact) (e : Exp) → has is_load e ≡ false → has is_read e ≡ false → Agrees fs e e
      stays fs e h k env s s' near said = value_stays l env s s' (laws.tags s s' near) (laws.globals s s' near) e (record { loads = h; reads = k })

  one_stays : (fs : List Fact) (e : Exp) → has is_load e ≡ false → has is_read e ≡ false → Agrees fs e e
  one_stays fs e h k env s s' near said = value_stays l env s s' (laws.tags s s' near) (laws.globals s s' near) e (record { loads = h; reads = k })

  starts_stay : (fs : List Fact) (xs : List Start) → start_has is_load xs ≡ false → start_has is_read xs ≡ false → AgreeAll fs (start_exps xs) (start_exps xs)
  starts_stay fs [] h k env s s' near said = refl
  starts_stay fs (x ∷ xs) h k env s s' near said =
      let a = or_parts (has is_load x.exp) (start_has is_load xs) h in
      let b = or_parts (has is_read x.exp) (start_has is_read xs) k in
      ap₂ (λ v vs. v ∷ vs) (one_stays fs x.exp a.0 b.0 env s s' near said) (starts_stay fs xs a.1 b.1 env s s' near said)

  pub program_stays : (fs : List Fact) (m : Mon) → program_has is_load is_stored m ≡ false → program_has is_read is_written m ≡ false → Sound fs m m
  program_stays fs (M.Ret es) h k = ret fs es es (some_stay fs es h k)
  program_stays fs (M.Bind m xs n) h k =
      let a = or_parts (program_has is_load is_stored m) (program_has is_load is_stored n) h in
      let b = or_parts (program_has is_read is_written m) (program_has is_read is_written n) k in
      bind fs m m xs n n (program_stays fs m a.0 b.0) (program_stays (facts_after m xs fs) n a.1 b.1)
  program_stays fs (M.Guard e) h k = guard fs e e (one_stays fs e h k)
  program_stays fs (M.If e m n) h k =
      let a = or_parts (has is_load e || program_has is_load is_stored m) (program_has is_load is_stored n) h in
      let b = or_parts (has is_read e || program_has is_read is_written m) (program_has is_read is_written n) k in
      let c = or_parts (has is_load e) (program_has is_load is_stored m) a.0 in
      let d = or_parts (has is_read e) (program_has is_read is_written m) b.0 in
      choice fs e e m m n n (one_stays fs e c.0 d.0) (program_stays (Whole e ∷ fs) m c.1 d.1) (program_stays (NotTrue e ∷ fs) n a.1 b.1)
  program_stays fs (M.Write (M.Global x path) e) h k =
      let a = or_parts (path_has is_load path) (has is_load e) h in
      let b = or_parts (path_has is_read path) (has is_read e) k in
      global fs x path path e e refl (λ env s s' near said. path_stays l env s s' (laws.tags s s' near) (laws.globals s s' near) path (record { loads = a.0; reads = b.0 })) (one_stays fs e a.1 b.1)
  program_stays fs (M.Write (M.Stored t q path) e) h k = absurd (has_some (has is_load q || path_has is_load path) (has is_load e) h)
  program_stays fs (M.Write (M.Written t q path) e) h k = absurd (has_some (has is_read q || path_has is_read path) (has is_read e) k)
  program_stays fs (M.Loop starts g t m) h k =
      let a = or_parts (start_has is_load starts || has is_load g || has is_load t) (program_has is_load is_stored m) h in
      let b = or_parts (start_has is_read starts || has is_read g || has is_read t) (program_has is_read is_written m) k in
      let c = or_parts (start_has is_load starts || has is_load g) (has is_load t) a.0 in
      let d = or_parts (start_has is_read starts || has is_read g) (has is_read t) b.0 in
      let e = or_parts (start_has is_load starts) (has is_load g) c.0 in
      let f = or_parts (start_has is_read starts) (has is_read g) d.0 in
      repeat fs starts starts g g t t m m refl (starts_stay fs starts e.0 f.0) (one_stays [] g e.1 f.1) (one_stays (Whole g ∷ []) t c.1 d.1) (program_stays (Whole t ∷ Whole g ∷ []) m a.1 b.1)
  program_stays fs (M.Call f es) h k = call fs f es es (some_stay fs es h k)
  program_stays fs (M.Pick k) h i = pick fs k

  -- of every accepted tree, for a left side in bytes form

  abbrev pub IsSound : Claim → Type 1
  IsSound (OfProgram fs a b) = program_has is_read is_written a ≡ false → Sound fs a b
  IsSound (OfExp fs a b) = Unit {1} → Agrees fs a b

  of_exp : (fs : List Fact) (a b : Exp) → IsSound (OfExp fs a b) → Agrees fs a b
  of_exp fs a b h = h tt

  abbrev AllAre : List Claim → Type 1
  AllAre = AllHold IsSound

  agree_all : (fs : List Fact) (as' bs : List Exp) → length bs ≡ length as' → AllAre (each fs as' bs) → AgreeAll fs as' bs
  agree_all fs as' bs n h = each_same l laid alike laws IsSound of_exp fs as' bs n h

  -- claims in a row, and those behind them
  split : (cs ds : List Claim) → AllAre (cs ++ ds) → AllAre cs × AllAre ds
  split [] ds h = (tt, h)
  split (c ∷ cs) ds h = let k = split cs ds h.1 in ((h.0, k.0), k.1)

  as_many_starts : (xs ys : List Start) → start_names ys ≡ start_names xs → length (start_exps ys) ≡ length (start_exps xs)
  as_many_starts [] [] h = refl
  as_many_starts (x ∷ xs) (y ∷ ys) h = ap (λ n. suc n) (as_many_starts xs ys (same_rest h))
  as_many_starts [] (y ∷ ys) h = absurd cc
  as_many_starts (x ∷ xs) [] h = absurd cc

  row_sound : (fs : List Fact) (rule : Rule) (a b : Mon) → (row l fs rule a b).holds → AllAre (row l fs rule a b).parts → program_has is_read is_written a ≡ false → Sound fs a b
  row_sound fs R.Ret (M.Ret es) (M.Ret es') e h k = ret fs es es' (agree_all fs es es' e h)
  row_sound fs R.Bind (M.Bind m xs n) (M.Bind m' ys n') e h k =
      let o = or_parts (program_has is_read is_written m) (program_has is_read is_written n) k in
      subst (λ zs. Sound fs (M.Bind m xs n) (M.Bind m' zs n')) (sym e) (bind fs m m' xs n n' (h.0 o.0) (h.1.0 o.1))
  row_sound fs R.Guard (M.Guard v) (M.Guard v') e h k = guard fs v v' (of_exp fs v v' h.0)
  row_sound fs R.If (M.If v m n) (M.If v' m' n') e h k =
      let o = or_parts (has is_read v || program_has is_read is_written m) (program_has is_read is_written n) k in
      let o' = or_parts (has is_read v) (program_has is_read is_written m) o.0 in
      choice fs v v' m m' n n' (of_exp fs v v' h.0) (h.1.0 o'.1) (h.1.1.0 o.1)
  row_sound fs R.Global (M.Write (M.Global x path) v) (M.Write (M.Global y way) v') e h k =
      let parts = split (each fs (path_children path) (path_children way)) (OfExp fs v v' ∷ []) h in
      subst (λ z. Sound fs (M.Write (M.Global x path) v) (M.Write (M.Global z way) v')) (sym e.0)
      (global fs x path way v v' e.1 (agree_all fs (path_children path) (path_children way) (path_as_many path way e.1) parts.0) (of_exp fs v v' parts.1.0))
  row_sound fs R.Loop (M.Loop starts g t m) (M.Loop starts' g' t' m') e h k =
      let parts = split (each fs (start_exps starts) (start_exps starts')) (OfExp [] g g' ∷ OfExp (Whole g' ∷ []) t t' ∷ OfProgram (Whole t' ∷ Whole g' ∷ []) m m' ∷ []) h in
      let o = or_parts (start_has is_read starts || has is_read g || has is_read t) (program_has is_read is_written m) k in
      repeat fs starts starts' g g' t t' m m' e (agree_all fs (start_exps starts) (start_exps starts') (as_many_starts starts starts' e) parts.0)
      (of_exp [] g g' parts.1.0) (of_exp (Whole g' ∷ []) t t' parts.1.1.0) (parts.1.1.1.0 o.1)
  row_sound fs R.Call (M.Call f es) (M.Call g es') e h k =
      subst (λ z. Sound fs (M.Call f es) (M.Call z es')) (sym e.0) (call fs f es es' (agree_all fs es es' e.1 h))
  row_sound fs R.Pick (M.Pick i) (M.Pick j) e h k = subst (λ z. Sound fs (M.Pick i) (M.Pick z)) (sym e) (pick fs i)
  row_sound fs R.Write (M.Write (M.Stored t q path) v) (M.Write (M.Written u r way) v') e h k =
      let parts = split (each fs (path_children path) (path_children way)) (OfExp fs v v' ∷ []) h.1 in
      subst (λ z. IsPlace l fs z r way → Sound fs (M.Write (M.Stored t q path) v) (M.Write (M.Written z r way) v')) (sym e.0)
      (λ place. write fs t q r path way v v' e.1 place (of_exp fs q r h.0) (agree_all fs (path_children path) (path_children way) (path_as_many path way e.1) parts.0) (of_exp fs v v' parts.1.0))
      (subst (λ z. IsPlace l fs z r way) (sym e.0) e.2)
  row_sound fs R.Pointer (M.Bind (M.Guard (E.PtrOk t q)) [] (M.Bind (M.Guard (E.Tagged u r)) [] m)) (M.Bind (M.Guard (E.Tagged v q')) [] m') e h k =
      let o = or_parts (has is_read q) (has is_read r || program_has is_read is_written m) k in
      let o' = or_parts (has is_read r) (program_has is_read is_written m) o.1 in
      subst (λ z. Sound fs (M.Bind (M.Guard (E.PtrOk t q)) [] (M.Bind (M.Guard (E.Tagged z r)) [] m)) (M.Bind (M.Guard (E.Tagged v q')) [] m')) (sym e.0)
      (subst (λ z. Sound fs (M.Bind (M.Guard (E.PtrOk t q)) [] (M.Bind (M.Guard (E.Tagged t z)) [] m)) (M.Bind (M.Guard (E.Tagged v q')) [] m')) (sym e.1)
      (subst (λ z. Sound fs (M.Bind (M.Guard (E.PtrOk t q)) [] (M.Bind (M.Guard (E.Tagged t q)) [] m)) (M.Bind (M.Guard (E.Tagged z q')) [] m')) (sym e.2)
      (pointer fs t q q' m m' (of_exp fs q q' h.0) (h.1.0 o'.1))))
  row_sound fs (R.Drop r) (M.Bind (M.Guard (E.PtrOk t q)) [] m) m' e h k =
      let o = or_parts (has is_read q) (program_has is_read is_written m) k in drop fs t q r m m' e (of_exp fs q r h.0) (h.1.0 o.1)
  row_sound fs R.Same m m' e h k = subst (λ z. Sound fs m z) (sym e.1) (program_stays fs m (not-true (program_has is_load is_stored m) e.0) k)
  row_sound fs _ _ _ e h k = absurd e

  claim_sound : (rule : Rule) (c : Claim) → (table l rule c).holds → AllAre (table l rule c).parts → IsSound c
  claim_sound rule (OfProgram fs a b) e h = row_sound fs rule a b e h
  claim_sound rule (OfExp fs a b) e h = λ u. exp_sound l laid alike laws IsSound of_exp fs rule a b e h

  pub takes_sound : (fs : List Fact) (t : Tree Rule) (a b : Mon) → Takes l fs t a b → program_has is_read is_written a ≡ false → Sound fs a b
  takes_sound fs t a b h = accepted_holds (table l) IsSound claim_sound t (OfProgram fs a b) h
