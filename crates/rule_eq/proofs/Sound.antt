-- The rules are sound: one lemma for each row of the table, and the induction over an accepted tree. Where the facts hold, the right side
-- does what the left side does. Left and right are well-sorted, each in a scope that the environment fits; the rules speak of the right
-- side's.
use Rattle.std.proofs.Common.{◌≡◌, ℕ, true, false, List, [], ◌∷◌, ◌++◌, length, map, Option, Some, None, unwrap_or, ◌⊎◌, inl, inr, refl, sym, ap, ap₂, ◌∙◌, subst}
use Rattle.std.proofs.lemmas.Bool.{not_from_false, true≢false}
use Rattle.correspondence.specs.Outcome.{Done, Ends, done, fault, Then, goes_on, choose}
use Rattle.correspondence.specs.Corresponds.{Corresponds}
use Rattle.correspondence.specs.Related.{Same, BothFail}
use Rattle.correspondence.proofs.Corresponds.{done_corresponds, then_corresponds, corresponds_after, corresponds_weaker}
use Rattle.correspondence.proofs.Steps.{same_on_left, same_on_right, after_done, in_brackets, left_goes_on}
use Rattle.correspondence.proofs.Turning.{Reached, reached}
use Rattle.c_values.specs.Name.{Name}
use Rattle.c_values.specs.Value.{truth_in}
use Rattle.c_values.specs.Layout.{Layout, IsLayout, GlobalVar}
use Rattle.c_values.specs.Choice.{Choice}
use Rattle.expression_lang.specs.Expression.{Exp, Var, TruthLit}
use Rattle.expression_lang.specs.Evaluation.{Env, State, value, holds}
use Rattle.expression_lang.specs.Mentions.{reads}
use Rattle.expression_lang.specs.Sort.{Scalar, is_truth, sort_of_kind}
use Rattle.expression_lang.specs.Sorted.{names_with, program_sort, scalars_of, fits_place}
use Rattle.expression_lang.specs.Signature.{Signature, signature, values_of, bound}
use Rattle.expression_lang.specs.States.{IsEnvironment, IsState}
use Rattle.expression_lang.proofs.Bound.{bound_stays}
use Rattle.monad_lang.proofs.AgreeingValues.{value_agrees}
use Rattle.ac_expr.specs.Fact.{Fact, Whole, NotTrue, AllSay}
use Rattle.ac_expr.specs.Known.{IsKnown}
use Rattle.ac_expr.specs.Step.{OneStepApart, OneOfThem, at_each}
use Rattle.ac_expr.proofs.KnownHolds.{known_holds}
use Rattle.ac_expr.proofs.PartsSorted.{IsSorted, AreSorted}
use Rattle.ac_expr.proofs.PlacesHold.{apart_holds, all_same}
use Rattle.monad_lang.specs.Program as M
use Rattle.monad_lang.specs.Program.{Mon, Place, Start}
use Rattle.monad_lang.specs.Names.{is_free}
use Rattle.monad_lang.specs.Form.{all_kept}
use Rattle.program_facts.specs.Substituted.{program_substituted}
use Rattle.monad_lang.specs.Reach.{AtEach}
use Rattle.monad_lang.specs.Run.{Answer, Failure, Runs, runs, start_names, start_values}
use Rattle.monad_lang.specs.Sorted.{Setting, setting_with, scalars_given, start_scalars, place_sort}
use Rattle.monad_lang.proofs.Given.{fits_parts}
use Rattle.program_facts.specs.Flow.{facts_after}
use Rattle.program_facts.specs.Places.{place_children, place_head}
use Rattle.program_facts.proofs.FactsAfter.{facts_after_hold}
use Rattle.program_facts.proofs.SortedValues.{bound_sorted}
use Rattle.program_facts.proofs.RunsLast.{runs_last}
use Rattle.rule_trees.specs.RuleTree.{Tree, AllHold}
use Rattle.rule_trees.proofs.Induction.{holds as accepted_holds}
use Rattle.rule_eq.specs.Rule as R
use Rattle.rule_eq.specs.Rule.{Rule, Point, Claim, does}
use Rattle.rule_eq.specs.Table.{point, within, Taken, taken_at, CanStand, with_values, AreTaken, OneApart, StepApart, ExpApart, row, table, Takes}
use Rattle.rule_parts.specs.Starts.{start_exps}
use Rattle.program_facts.proofs.Sorts.{call_parts}
use Rattle.program_facts.proofs.PlacesAgree.{place_as_many, first_of, others_of}
use Rattle.rule_eq.proofs.Bound.{bound_alike, no_zero, one_less}
use Rattle.rule_eq.proofs.Together.{Respects, Pairs, lasts_right, keep_right, with_themselves, Does, ret_does, guard_does, choice_does, bind_does, write_does, call_does, loop_does}
use Rattle.rule_eq.proofs.Agrees.{NamesInScope, setting, Starts, bind_parts, behind, choice_parts, loop_parts, Turning, turn_starts, next_turn, begun, can_call, agrees}
use Rattle.rule_eq.proofs.SubstitutedRuns.{HeldAt, substituted_does}
use Rattle.rule_eq.proofs.PutIn.{kept_names, unnamed_apart, is_taken, bound_none, given_back}
use Rattle.rule_eq.proofs.Direct.{scalars_sorted, starts_are_sorted, truth_sorted, write_sorted}

module _ (l : Layout) (laid : IsLayout l) (p : Choice) (vs : List GlobalVar) (sigs : List Signature) (P : Mon → Env → State → Type 0) (respects : Respects l P) where
  abbrev Scoped : NamesInScope → Setting
  Scoped names = setting l laid p vs sigs P respects names

  abbrev DoesSame : Mon → Mon → Env → Env → Option ℕ → List Runs → List Runs → State → Type 0
  DoesSame = Does l p vs sigs P respects

  abbrev Paired' : List Runs → List Runs → Type 0
  Paired' = Pairs l p vs sigs P respects

  abbrev AreSame : Ends Answer Failure → Ends Answer Failure → Type 0
  AreSame q r = Corresponds Same BothFail q r

  -- where both sides begin
  pub record Begins (left right : NamesInScope) (fs : List Fact) (env : Env) (before after : List Runs) (s : State) : Type 0 where
    pub functions : Paired' before after
    pub on_left : IsEnvironment (Scoped left).scope env
    pub on_right : IsEnvironment (Scoped right).scope env
    pub state : IsState l vs s
    pub said : AllSay l env s fs

  -- from there the right side does what the left side does
  abbrev pub Sound : List Fact → NamesInScope → Mon → Mon → Type 1
  Sound fs right m m' =
      (left : NamesInScope) (cs ds : List Scalar) → scalars_given (Scoped left) m ≡ Some cs → scalars_given (Scoped right) m' ≡ Some ds → (env : Env) (depth : Option ℕ) (before after : List Runs) (s : State) →
      Begins left right fs env before after s → DoesSame m m' env env depth before after s

  abbrev pub IsSound : Claim → Type 1
  IsSound (does at m m') = (right : NamesInScope) → at.setting ≡ Scoped right → Sound at.facts right m m'

  on_the_left : (left right : NamesInScope) (fs : List Fact) (env : Env) (before after : List Runs) (s : State) → Begins left right fs env before after s → Starts l laid p vs sigs P respects left env before after s
  on_the_left left right fs env before after s b = record { functions = b.functions; environment = b.on_left; state = b.state }

  -- a program does as itself
  itself_does : (fs : List Fact) (right : NamesInScope) (m : Mon) → Sound fs right m m
  itself_does fs right m left cs ds sorted sorted' env depth before after s b =
      agrees l laid p vs sigs P respects m left cs sorted env env (λ y i. refl) depth before after s (on_the_left left right fs env before after s b)

  is_itself : (fs : List Fact) (right : NamesInScope) (m m' : Mon) → m' ≡ m → Sound fs right m m'
  is_itself fs right m m' e = subst (λ n. Sound fs right m n) (sym e) (itself_does fs right m)

  -- one after the other
  composed : (m n m' : Mon) (env : Env) (depth : Option ℕ) (before after : List Runs) (s : State) → DoesSame m n env env depth before after s → DoesSame n m' env env depth after after s → DoesSame m m' env env depth before after s
  composed m n m' env depth before after s h k = record {
    same = corresponds_weaker _ Same _ BothFail _ _ (λ a c r. r.2 ∙ r.1) (λ i j r. tt) (corresponds_after Same Same BothFail BothFail _ _ _ h.same k.same);
    reach = λ r. k.reach (h.reach r);
  }

  trans : (fs : List Fact) (right : NamesInScope) (m n m' : Mon) (ss : List Scalar) → scalars_given (Scoped right) n ≡ Some ss → Sound fs right m n → Sound fs right n m' → Sound fs right m m'
  trans fs right m n m' ss between h k left cs ds sorted sorted' env depth before after s b =
      composed m n m' env depth before after s (h left cs ss sorted between env depth before after s b)
      (k right ss ds between sorted' env depth after after s
      (record { functions = with_themselves l p vs sigs P respects before after b.functions; on_left = b.on_right; on_right = b.on_right; state = b.state; said = b.said }))

  bind : (fs : List Fact) (right : NamesInScope) (m m' : Mon) (xs : List Name) (n n' : Mon) → Sound fs right m m' →
      ((ss : List Scalar) → scalars_given (Scoped right) m' ≡ Some ss → Sound (facts_after m' xs fs) (names_with xs ss right) n n') → Sound fs right (M.Bind m xs n) (M.Bind m' xs n')
  bind fs right m m' xs n n' sm sn left cs ds sorted sorted' env depth before after s b =
      let i = bind_parts l laid p vs sigs P respects left m xs n cs sorted in
      let j = bind_parts l laid p vs sigs P respects right m' xs n' ds sorted' in
      bind_does l p vs sigs P respects m m' xs n n' env env depth before after s (sm left i.given j.given i.first j.first env depth before after s b)
      (λ a r r'.
      let w = (behind l laid p vs sigs P respects left m xs n cs i env depth before after s (on_the_left left right fs env before after s b) a r).0 in
      let k = runs_last p vs m' (Scoped right) j.given laid refl j.first env b.on_right depth after (lasts_right l p vs sigs P respects before after b.functions) s b.state a r' in
      sn j.given j.first (names_with xs i.given left) cs ds i.second j.second (bound xs a.values env) depth before after a.state
      (record {
        functions = b.functions;
        on_left = w.environment;
        on_right = bound_sorted (Scoped right).scope xs j.given a.values env k.values b.on_right;
        state = w.state;
        said = facts_after_hold l p m' xs fs env depth after (keep_right l p vs sigs P respects before after b.functions) s b.said a r';
      }))

  also : (left right : NamesInScope) (fs : List Fact) (f : Fact) (env : Env) (before after : List Runs) (s : State) → Begins left right fs env before after s → AllSay l env s (f ∷ []) → Begins left right (f ∷ fs) env before after s
  also left right fs f env before after s b h = record { functions = b.functions; on_left = b.on_left; on_right = b.on_right; state = b.state; said = (h.0, b.said) }

  choice : (fs : List Fact) (right : NamesInScope) (e : Exp) (m m' n n' : Mon) → Sound (Whole e ∷ fs) right m m' → Sound (NotTrue e ∷ fs) right n n' → Sound fs right (M.If e m n) (M.If e m' n')
  choice fs right e m m' n n' sm sn left cs ds sorted sorted' env depth before after s b =
      let i = choice_parts l laid p vs sigs P respects left e m n cs sorted in
      let j = choice_parts l laid p vs sigs P respects right e m' n' ds sorted' in
      choice_does l p vs sigs P respects e e m m' n n' env env depth before after s refl
      (λ h. sm left cs ds i.first j.first env depth before after s (also left right fs (Whole e) env before after s b (h, tt)))
      (λ h. sn left cs ds i.second j.second env depth before after s (also left right fs (NotTrue e) env before after s b (not_from_false (holds l env s e) h, tt)))

  -- between turns, on both sides
  record Both (ss ts : List Scalar) (a : Answer) : Type 0 where
    pub on_left : Turning l laid p vs sigs P respects ss a
    pub on_right : Turning l laid p vs sigs P respects ts a

  repeat : (fs : List Fact) (right : NamesInScope) (starts : List Start) (guard test : Exp) (m m' : Mon) →
      ((ss : List Scalar) → start_scalars (Scoped right).scope starts ≡ Some ss → Sound (Whole test ∷ Whole guard ∷ []) (names_with (start_names starts) ss right) m m') → Sound fs right (M.Loop starts guard test m) (M.Loop starts guard test m')
  repeat fs right starts guard test m m' sm left cs ds sorted sorted' env depth before after s b =
      let i = loop_parts l laid p vs sigs P respects left starts guard test m cs sorted in
      let j = loop_parts l laid p vs sigs P respects right starts guard test m' ds sorted' in
      let xs = start_names starts in
      loop_does l p vs sigs P respects starts starts guard guard test test m m' env env depth (Both i.given j.given) (λ a t. refl) (λ a t h. refl)
      (λ hs js paired a t turn.
      let w = turn_starts l laid p vs sigs P respects left starts i.given env a hs js paired b.on_left t.on_left in
      let w' = turn_starts l laid p vs sigs P respects right starts j.given env a hs js paired b.on_right t.on_right in
      sm j.given j.starts_given (names_with xs i.given left) i.given j.given i.body j.body (bound xs a.values env) depth hs js a.state
      (record { functions = paired; on_left = w.environment; on_right = w'.environment; state = w.state; said = (turn.1, (turn.0, tt)) }))
      (λ hs js paired a t c r r'.
      record {
        on_left = next_turn l laid p vs sigs P respects left starts i.given m i.body env depth a hs js paired b.on_left t.on_left c r;
        on_right = next_turn l laid p vs sigs P respects right starts j.given m' j.body env depth a js js (with_themselves l p vs sigs P respects hs js paired) b.on_right t.on_right c r';
      })
      before after b.functions s refl refl
      (record {
        on_left = begun l laid p vs sigs P respects left starts i.given i.starts_given env before after s (on_the_left left right fs env before after s b);
        on_right = begun l laid p vs sigs P respects right starts j.given j.starts_given env before after s (record { functions = b.functions; environment = b.on_right; state = b.state });
      })

  -- a first part that only gives values, on the left and on the right
  values_left : (es : List Exp) (xs : List Name) (m m' : Mon) (env env' : Env) (depth : Option ℕ) (fs gs : List Runs) (s : State) → DoesSame m m' (bound xs (values_of l env s es) env) env' depth fs gs s → DoesSame (M.Bind (M.Ret es) xs m) m' env env' depth fs gs s
  values_left es xs m m' env env' depth fs gs s d = record { same = same_on_left (after_done _ _) d.same; reach = λ h. d.reach (h.1 _ refl) }

  values_right : (es : List Exp) (xs : List Name) (m m' : Mon) (env env' : Env) (depth : Option ℕ) (fs gs : List Runs) (s : State) → DoesSame m m' env (bound xs (values_of l env' s es) env') depth fs gs s → DoesSame m (M.Bind (M.Ret es) xs m') env env' depth fs gs s
  values_right es xs m m' env env' depth fs gs s d = record {
    same = same_on_right (after_done _ _) d.same;
    reach = λ h. (tt, λ a e. subst (λ b. AtEach l p P m' (bound xs b.values env') depth gs b.state) (sym e) (d.reach h));
  }

  others_right : (es : List Exp) (xs : List Name) (m m' : Mon) (env env' : Env) (depth : Option ℕ) (fs gs : List Runs) (s : State) → DoesSame m m' env (bound xs (values_of l env' s es) env') depth fs gs s → DoesSame m (with_values es xs m') env env' depth fs gs s
  others_right [] xs m m' env env' depth fs gs s d = subst (λ f. DoesSame m m' env f depth fs gs s) (bound_none xs env') d
  others_right (e ∷ es) xs m m' env env' depth fs gs s d = values_right (e ∷ es) xs m m' env env' depth fs gs s d

  -- where the name is free, it holds what is put in
  free_held : (k : Taken) (m : Mon) (env env' : Env) (s : State) → (reads k.exp ≡ false) ⊎ (is_free k.name m ≡ false) → env' k.name ≡ value l env s k.exp → is_free k.name m ≡ true → HeldAt l laid p vs sigs P respects k.name k.exp env env' s
  free_held k m env env' s (inl h) e i = record { unread = h; held = e }
  free_held k m env env' s (inr h) e i = absurd (true≢false (sym i ∙ h))

  put_in : (fs : List Fact) (right : NamesInScope) (es : List Exp) (xs : List Name) (m : Mon) (i : ℕ) (k : Taken) → taken_at i es xs ≡ Some k → CanStand k m → Sound fs right (M.Bind (M.Ret es) xs m) (with_values k.exps k.names (program_substituted k.name k.exp m))
  put_in fs right es xs m i k h can left cs ds sorted sorted' env depth before after s b =
      let j = bind_parts l laid p vs sigs P respects left (M.Ret es) xs m cs sorted in
      let t = is_taken l s env i es xs k h in
      let inner = bound xs (values_of l env s es) env in
      let outer = bound k.names (values_of l env s k.exps) env in
      let w = (behind l laid p vs sigs P respects left (M.Ret es) xs m cs j env depth before after s (on_the_left left right fs env before after s b) (record { values = values_of l env s es; state = s }) refl).0 in
      let there : value l outer s k.exp ≡ value l env s k.exp = value_agrees l outer env s k.exp (λ y n. bound_stays y k.names (values_of l env s k.exps) env (unnamed_apart k.names k.exp can.others y n)) in
      values_left es xs m (with_values k.exps k.names (program_substituted k.name k.exp m)) env env depth before after s
      (others_right k.exps k.names m (program_substituted k.name k.exp m) inner env depth before after s
      (substituted_does l laid p vs sigs P respects k.name k.exp m (names_with xs j.given left) cs j.second outer inner depth before after s (t.others env)
      (free_held k m outer inner s can.state (t.one j.distinct env ∙ sym there)) can.captured w))

  -- what is given back as it was
  given : (fs : List Fact) (right : NamesInScope) (m : Mon) (xs : List Name) → Sound fs right (M.Bind m xs (M.Ret (map (λ x. Var x) xs))) m
  given fs right m xs left cs ds sorted sorted' env depth before after s b =
      let j = bind_parts l laid p vs sigs P respects left m xs (M.Ret (map (λ x. Var x) xs)) cs sorted in
      let w = on_the_left left right fs env before after s b in
      let d = agrees l laid p vs sigs P respects m left j.given j.first env env (λ y i. refl) depth before after s w in
      let q = runs l p m env depth before s in
      let r = runs l p m env depth after s in
      record {
        same = left_goes_on (Reached Same q r) Same BothFail q _ r (reached Same BothFail q r d.same)
            (λ a c k. done_corresponds Same BothFail _ _ (k.related ∙ ap (λ us. let x : Answer = record { values = us; state = a.state } in x) (sym (given_back l a.state xs a.values env j.distinct
            (behind l laid p vs sigs P respects left m xs (M.Ret (map (λ x. Var x) xs)) cs j env depth before after s w a k.left).1))));
        reach = λ h. d.reach h.0;
      }

  nothing : (fs : List Fact) (right : NamesInScope) (m : Mon) → Sound fs right (M.Bind (M.Ret []) [] m) m
  nothing fs right m left cs ds sorted sorted' env depth before after s b =
      let j = bind_parts l laid p vs sigs P respects left (M.Ret []) [] m cs sorted in
      values_left [] [] m m env env depth before after s (agrees l laid p vs sigs P respects m (names_with [] j.given left) cs j.second env env (λ y i. refl) depth before after s
      (behind l laid p vs sigs P respects left (M.Ret []) [] m cs j env depth before after s (on_the_left left right fs env before after s b) (record { values = []; state = s }) refl).0)

  assoc : (fs : List Fact) (right : NamesInScope) (a : Mon) (xs : List Name) (m : Mon) (ys : List Name) (c : Mon) → all_kept xs ys c ≡ true → Sound fs right (M.Bind (M.Bind a xs m) ys c) (M.Bind a xs (M.Bind m ys c))
  assoc fs right a xs m ys c h left cs ds sorted sorted' env depth before after s b =
      let w = on_the_left left right fs env before after s b in
      let i = bind_parts l laid p vs sigs P respects left (M.Bind a xs m) ys c cs sorted in
      let j = bind_parts l laid p vs sigs P respects left a xs m i.given i.first in
      let first = agrees l laid p vs sigs P respects a left j.given j.first env env (λ y k. refl) depth before after s w in
      let q = runs l p a env depth before s in
      let r = runs l p a env depth after s in
      let second : (u : Answer) → q (Done u) → DoesSame m m (bound xs u.values env) (bound xs u.values env) depth before after u.state = λ u k.
      agrees l laid p vs sigs P respects m (names_with xs j.given left) i.given j.second (bound xs u.values env) (bound xs u.values env) (λ y n. refl) depth before after u.state
      (behind l laid p vs sigs P respects left a xs m i.given j env depth before after s w u k).0 in
      let third : (u v : Answer) → q (Done u) → runs l p m (bound xs u.values env) depth before u.state (Done v) → DoesSame c c (bound ys v.values env) (bound ys v.values (bound xs u.values env)) depth before after v.state = λ u v k n.
      let o = behind l laid p vs sigs P respects left (M.Bind a xs m) ys c cs i env depth before after s w v (goes_on k n) in
      agrees l laid p vs sigs P respects c (names_with ys i.given left) cs i.second (bound ys v.values env) (bound ys v.values (bound xs u.values env))
      (λ y f. bound_alike y ys v.values env (bound xs u.values env) o.1 (λ e. bound_stays y xs u.values env (kept_names xs ys c h y f e))) depth before after v.state o.0 in
      record {
        same = same_on_left (in_brackets q _ _) (then_corresponds (Reached Same q r) Same BothFail q r _ _ (reached Same BothFail q r first.same) (λ u u' k. rest u u' k second third));
        reach = λ e. (
          first.reach e.0.0,
          λ u k.
              let n = first.same.done_back u k in
              let ku : q (Done u) = subst (λ x. q (Done x)) (sym n.1) n.2 in (
                (second u ku).reach (e.0.1 u ku),
                λ v k'.
                    let n' = (second u ku).same.done_back v k' in
                    let kv : runs l p m (bound xs u.values env) depth before u.state (Done v) = subst (λ x. runs l p m (bound xs u.values env) depth before u.state (Done x)) (sym n'.1) n'.2 in
                    (third u v ku kv).reach (e.1 v (goes_on ku kv)),
              ),
        );
      }
    where
      rest : (u u' : Answer) → Reached Same (runs l p a env depth before s) (runs l p a env depth after s) u u' →
          ((u : Answer) → runs l p a env depth before s (Done u) → DoesSame m m (bound xs u.values env) (bound xs u.values env) depth before after u.state) →
          ((u v : Answer) → runs l p a env depth before s (Done u) → runs l p m (bound xs u.values env) depth before u.state (Done v) → DoesSame c c (bound ys v.values env) (bound ys v.values (bound xs u.values env)) depth before after v.state) →
          AreSame (Then (runs l p m (bound xs u.values env) depth before u.state) (λ v. runs l p c (bound ys v.values env) depth before v.state)) (runs l p (M.Bind m ys c) (bound xs u'.values env) depth after u'.state)
      rest u u' k second third =
          subst (λ x. AreSame (Then (runs l p m (bound xs u.values env) depth before u.state) (λ v. runs l p c (bound ys v.values env) depth before v.state)) (runs l p (M.Bind m ys c) (bound xs x.values env) depth after x.state)) (sym k.related)
          (then_corresponds (Reached Same (runs l p m (bound xs u.values env) depth before u.state) (runs l p m (bound xs u.values env) depth after u.state)) Same BothFail _ _ _ _
          (reached Same BothFail (runs l p m (bound xs u.values env) depth before u.state) (runs l p m (bound xs u.values env) depth after u.state) (second u k.left).same)
          (λ v v' n. subst (λ x. AreSame (runs l p c (bound ys v.values env) depth before v.state) (runs l p c (bound ys x.values (bound xs u.values env)) depth after x.state)) (sym n.related) (third u v k.left n.left).same))

  chosen_first : (fs : List Fact) (right : NamesInScope) (m n : Mon) → Sound fs right (M.If (TruthLit true) m n) m
  chosen_first fs right m n left cs ds sorted sorted' env depth before after s b =
      let d = agrees l laid p vs sigs P respects m left cs (choice_parts l laid p vs sigs P respects left (TruthLit true) m n cs sorted).first env env (λ y i. refl) depth before after s (on_the_left left right fs env before after s b) in
      record { same = d.same; reach = λ h. d.reach h.0 }

  chosen_second : (fs : List Fact) (right : NamesInScope) (m n : Mon) → Sound fs right (M.If (TruthLit false) m n) n
  chosen_second fs right m n left cs ds sorted sorted' env depth before after s b =
      let d = agrees l laid p vs sigs P respects n left cs (choice_parts l laid p vs sigs P respects left (TruthLit false) m n cs sorted).second env env (λ y i. refl) depth before after s (on_the_left left right fs env before after s b) in
      record { same = d.same; reach = λ h. d.reach h.1 }

  guard_known : (fs : List Fact) (right : NamesInScope) (e : Exp) (m : Mon) → IsKnown fs e → Sound fs right (M.Bind (M.Guard e) [] m) m
  guard_known fs right e m known left cs ds sorted sorted' env depth before after s b =
      let j = bind_parts l laid p vs sigs P respects left (M.Guard e) [] m cs sorted in
      let w = on_the_left left right fs env before after s b in
      let empty : Answer = record { values = []; state = s } in
      let ok : holds l env s e ≡ true = known_holds l env s fs e b.said known in
      let reached : runs l p (M.Guard e) env depth before s (Done empty) = subst (λ z. choose {F = Failure} z (done empty) (fault tt) (Done empty)) (sym ok) refl in
      let d = agrees l laid p vs sigs P respects m (names_with [] j.given left) cs j.second env env (λ y i. refl) depth before after s (behind l laid p vs sigs P respects left (M.Guard e) [] m cs j env depth before after s w empty reached).0 in
      record {
        same = subst (λ z. AreSame (Then (choose z (done empty) (fault tt)) (λ a. runs l p m (bound [] a.values env) depth before a.state)) (runs l p m env depth after s)) (sym ok) (same_on_left (after_done empty _) d.same);
        reach = λ h. d.reach (h.1 empty reached);
      }

  -- expressions that are one step apart, in both scopes
  one_apart : (left right : NamesInScope) (fs : List Fact) (env : Env) (s : State) → IsEnvironment (Scoped left).scope env → IsEnvironment (Scoped right).scope env → IsState l vs s → AllSay l env s fs → (e e' : Exp) → IsSorted (Scoped left).scope e → IsSorted (Scoped right).scope e' →
      OneStepApart (Scoped right).scope fs e e' → value l env s e' ≡ value l env s e
  one_apart left right fs env s on_left on_right state said e e' h i k = apart_holds l laid vs env s state right left right on_right on_left on_right fs e e' k h i said

  rows_apart : (left right : NamesInScope) (fs : List Fact) (env : Env) (before after : List Runs) (s : State) → Begins left right fs env before after s → (es es' : List Exp) → AreSorted (Scoped left).scope es → AreSorted (Scoped right).scope es' →
      OneOfThem (Scoped right).scope (at_each fs es) es es' → values_of l env s es' ≡ values_of l env s es
  rows_apart left right fs env before after s b es es' h i k = all_same l laid vs env s b.state right left right b.on_right b.on_left b.on_right fs es es' k h i b.said

  ret : (fs : List Fact) (right : NamesInScope) (es es' : List Exp) → OneOfThem (Scoped right).scope (at_each fs es) es es' → Sound fs right (M.Ret es) (M.Ret es')
  ret fs right es es' k left cs ds sorted sorted' env depth before after s b =
      ret_does l p vs sigs P respects es es' env env depth before after s
      (rows_apart left right fs env before after s b es es' (scalars_sorted (Scoped left).scope es cs sorted) (scalars_sorted (Scoped right).scope es' ds sorted') k)

  guard : (fs : List Fact) (right : NamesInScope) (e e' : Exp) → OneStepApart (Scoped right).scope fs e e' → Sound fs right (M.Guard e) (M.Guard e')
  guard fs right e e' k left cs ds sorted sorted' env depth before after s b =
      guard_does l p vs sigs P respects e e' env env depth before after s
      (one_apart left right fs env s b.on_left b.on_right b.state b.said e e' (truth_sorted (Scoped left).scope e (fits_parts (is_truth (program_sort (Scoped left).scope e)) (Some []) cs sorted).0)
      (truth_sorted (Scoped right).scope e' (fits_parts (is_truth (program_sort (Scoped right).scope e')) (Some []) ds sorted').0) k)

  test : (fs : List Fact) (right : NamesInScope) (e e' : Exp) (m n : Mon) → OneStepApart (Scoped right).scope fs e e' → Sound fs right (M.If e m n) (M.If e' m n)
  test fs right e e' m n k left cs ds sorted sorted' env depth before after s b =
      let w = on_the_left left right fs env before after s b in
      let i = choice_parts l laid p vs sigs P respects left e m n cs sorted in
      let j = choice_parts l laid p vs sigs P respects right e' m n ds sorted' in
      choice_does l p vs sigs P respects e e' m m n n env env depth before after s
      (one_apart left right fs env s b.on_left b.on_right b.state b.said e e' (truth_sorted (Scoped left).scope e i.test_sorted) (truth_sorted (Scoped right).scope e' j.test_sorted) k)
      (λ h. agrees l laid p vs sigs P respects m left cs i.first env env (λ y i. refl) depth before after s w)
      (λ h. agrees l laid p vs sigs P respects n left cs i.second env env (λ y i. refl) depth before after s w)

  write : (fs : List Fact) (right : NamesInScope) (q q' : Place) (e e' : Exp) → place_head q' ≡ place_head q → OneOfThem (Scoped right).scope (at_each fs (place_children q ++ (e ∷ []))) (place_children q ++ (e ∷ [])) (place_children q' ++ (e' ∷ [])) →
      Sound fs right (M.Write q e) (M.Write q' e')
  write fs right q q' e e' heads k left cs ds sorted sorted' env depth before after s b =
      let i = fits_parts (fits_place (place_sort (Scoped left).scope q) (program_sort (Scoped left).scope e)) (Some []) cs sorted in
      let j = fits_parts (fits_place (place_sort (Scoped right).scope q') (program_sort (Scoped right).scope e')) (Some []) ds sorted' in
      let same = rows_apart left right fs env before after s b (place_children q ++ (e ∷ [])) (place_children q' ++ (e' ∷ [])) (write_sorted (Scoped left).scope q e i.0) (write_sorted (Scoped right).scope q' e' j.0) k in
      let o = parted env s (place_children q) (place_children q') e e' (place_as_many q q' heads) same in
      write_does l p vs sigs P respects q q' e e' env env depth before after s heads o.0 o.1
    where
      parted : (env : Env) (s : State) (as' bs : List Exp) (e e' : Exp) → length bs ≡ length as' → values_of l env s (bs ++ (e' ∷ [])) ≡ values_of l env s (as' ++ (e ∷ [])) → (values_of l env s bs ≡ values_of l env s as') × (value l env s e' ≡ value l env s e)
      parted env s [] [] e e' n h = (refl, ap first_of h)
      parted env s (a ∷ as') (b ∷ bs) e e' n h = let k = parted env s as' bs e e' (one_less _ _ n) (ap others_of h) in (ap₂ (λ v vs. v ∷ vs) (ap first_of h) k.0, k.1)
      parted env s [] (b ∷ bs) e e' n h = absurd (no_zero _ (sym n))
      parted env s (a ∷ as') [] e e' n h = absurd (no_zero _ n)

  call : (fs : List Fact) (right : NamesInScope) (f : Name) (es es' : List Exp) → OneOfThem (Scoped right).scope (at_each fs es) es es' → Sound fs right (M.Call f es) (M.Call f es')
  call fs right f es es' k left cs ds sorted sorted' env depth before after s b =
      let i = call_parts sort_of_kind (signature sigs f) (scalars_of (Scoped left).scope es) cs sorted in
      let j = call_parts sort_of_kind (signature sigs f) (scalars_of (Scoped right).scope es') ds sorted' in
      call_does l p vs sigs P respects f es es' env env depth before after s b.functions
      (can_call l laid p vs sigs P respects left f es cs sorted env before after s (on_the_left left right fs env before after s b))
      (rows_apart left right fs env before after s b es es' (scalars_sorted (Scoped left).scope es _ i.2) (scalars_sorted (Scoped right).scope es' _ j.2) k)

  starts_are : (env : Env) (s : State) (starts : List Start) → start_values l env s starts ≡ values_of l env s (start_exps starts)
  starts_are env s [] = refl
  starts_are env s (x ∷ xs) = ap (λ vs. value l env s x.exp ∷ vs) (starts_are env s xs)

  -- A loop and another one over the same names, whose guards and tests are the same wherever a turn may begin on both sides.
  looped : (fs : List Fact) (right : NamesInScope) (starts starts' : List Start) (guard guard' test test' : Exp) (m : Mon) → start_names starts' ≡ start_names starts →
      ((left : NamesInScope) (ss ts : List Scalar) → start_scalars (Scoped left).scope starts ≡ Some ss → start_scalars (Scoped right).scope starts' ≡ Some ts → (env : Env) (before after : List Runs) (s : State) → Begins left right fs env before after s →
      start_values l env s starts' ≡ start_values l env s starts) →
      ((left : NamesInScope) (ts : List Scalar) → start_scalars (Scoped right).scope starts' ≡ Some ts → (env : Env) (s : State) → IsEnvironment (Scoped left).scope env → IsEnvironment (Scoped (names_with (start_names starts') ts right)).scope env → IsState l vs s →
      is_truth (program_sort (Scoped left).scope guard) ≡ true → is_truth (program_sort (Scoped (names_with (start_names starts') ts right)).scope guard') ≡ true → holds l env s guard' ≡ holds l env s guard) →
      ((left : NamesInScope) (ts : List Scalar) → start_scalars (Scoped right).scope starts' ≡ Some ts → (env : Env) (s : State) → IsEnvironment (Scoped left).scope env → IsEnvironment (Scoped (names_with (start_names starts') ts right)).scope env → IsState l vs s →
      is_truth (program_sort (Scoped left).scope test) ≡ true → is_truth (program_sort (Scoped (names_with (start_names starts') ts right)).scope test') ≡ true → holds l env s guard ≡ true → holds l env s test' ≡ holds l env s test) →
      Sound fs right (M.Loop starts guard test m) (M.Loop starts' guard' test' m)
  looped fs right starts starts' guard guard' test test' m named same_starts same_guards same_tests left cs ds sorted sorted' env depth before after s b =
      let i = loop_parts l laid p vs sigs P respects left starts guard test m cs sorted in
      let j = loop_parts l laid p vs sigs P respects right starts' guard' test' m ds sorted' in
      let xs = start_names starts in
      let w = on_the_left left right fs env before after s b in
      let w' : Starts l laid p vs sigs P respects right env before after s = record { functions = b.functions; environment = b.on_right; state = b.state } in
      let begins = same_starts left i.given j.given i.starts_given j.starts_given env before after s b in
      let inner : (a : Answer) → Both i.given j.given a → IsEnvironment (Scoped (names_with (start_names starts') j.given right)).scope (bound xs a.values env) = λ a t.
      subst (λ ys. IsEnvironment (Scoped (names_with (start_names starts') j.given right)).scope (bound ys a.values env)) named (bound_sorted (Scoped right).scope (start_names starts') j.given a.values env t.on_right.values b.on_right) in
      let outer : (a : Answer) → Both i.given j.given a → IsEnvironment (Scoped (names_with xs i.given left)).scope (bound xs a.values env) = λ a t.
      bound_sorted (Scoped left).scope xs i.given a.values env t.on_left.values b.on_left in
      loop_does l p vs sigs P respects starts starts' guard guard' test test' m m env env depth (Both i.given j.given)
      (λ a t. same_guards (names_with xs i.given left) j.given j.starts_given (bound xs a.values env) a.state (outer a t) (inner a t) t.on_left.state i.guard_sorted j.guard_sorted)
      (λ a t h. same_tests (names_with xs i.given left) j.given j.starts_given (bound xs a.values env) a.state (outer a t) (inner a t) t.on_left.state i.test_sorted j.test_sorted h)
      (λ hs js paired a t turn. agrees l laid p vs sigs P respects m (names_with xs i.given left) i.given i.body (bound xs a.values env) (bound xs a.values env) (λ y n. refl) depth hs js a.state
      (turn_starts l laid p vs sigs P respects left starts i.given env a hs js paired b.on_left t.on_left))
      (λ hs js paired a t c r r'.
      record {
        on_left = next_turn l laid p vs sigs P respects left starts i.given m i.body env depth a hs js paired b.on_left t.on_left c r;
        on_right = next_turn l laid p vs sigs P respects right starts' j.given m j.body env depth a js js (with_themselves l p vs sigs P respects hs js paired) b.on_right t.on_right c
            (subst (λ ys. runs l p m (bound ys a.values env) depth js a.state (Done c)) (sym named) r');
      })
      before after b.functions s named begins
      (record {
        on_left = begun l laid p vs sigs P respects left starts i.given i.starts_given env before after s w;
        on_right = subst (λ us. Turning l laid p vs sigs P respects j.given (record { values = us; state = s })) begins (begun l laid p vs sigs P respects right starts' j.given j.starts_given env before after s w');
      })

  -- one of the start expressions, the guard, or the test
  by_starts : (fs : List Fact) (right : NamesInScope) (starts starts' : List Start) (guard test : Exp) (m : Mon) → start_names starts' ≡ start_names starts → OneOfThem (Scoped right).scope (at_each fs (start_exps starts)) (start_exps starts) (start_exps starts') →
      Sound fs right (M.Loop starts guard test m) (M.Loop starts' guard test m)
  by_starts fs right starts starts' guard test m named k =
      looped fs right starts starts' guard guard test test m named
      (λ left ss ts h i env before after s b. starts_are env s starts' ∙ rows_apart left right fs env before after s b (start_exps starts) (start_exps starts') (starts_are_sorted (Scoped left).scope starts ss h) (starts_are_sorted (Scoped right).scope starts' ts i) k ∙ sym (starts_are env s starts))
      (λ left ts h env s on_left on_right state i j. refl) (λ left ts h env s on_left on_right state i j g. refl)

  by_guard : (fs : List Fact) (right : NamesInScope) (starts : List Start) (guard guard' test : Exp) (m : Mon) →
      ((ts : List Scalar) → start_scalars (Scoped right).scope starts ≡ Some ts → OneStepApart (Scoped (names_with (start_names starts) ts right)).scope [] guard guard') → Sound fs right (M.Loop starts guard test m) (M.Loop starts guard' test m)
  by_guard fs right starts guard guard' test m k =
      looped fs right starts starts guard guard' test test m refl (λ left ss ts h i env before after s b. refl)
      (λ left ts h env s on_left on_right state i j. ap truth_in (one_apart left (names_with (start_names starts) ts right) [] env s on_left on_right state tt guard guard'
      (truth_sorted (Scoped left).scope guard i) (truth_sorted (Scoped (names_with (start_names starts) ts right)).scope guard' j) (k ts h)))
      (λ left ts h env s on_left on_right state i j g. refl)

  by_test : (fs : List Fact) (right : NamesInScope) (starts : List Start) (guard test test' : Exp) (m : Mon) →
      ((ts : List Scalar) → start_scalars (Scoped right).scope starts ≡ Some ts → OneStepApart (Scoped (names_with (start_names starts) ts right)).scope (Whole guard ∷ []) test test') → Sound fs right (M.Loop starts guard test m) (M.Loop starts guard test' m)
  by_test fs right starts guard test test' m k =
      looped fs right starts starts guard guard test test' m refl (λ left ss ts h i env before after s b. refl)
      (λ left ts h env s on_left on_right state i j. refl)
      (λ left ts h env s on_left on_right state i j g. ap truth_in (one_apart left (names_with (start_names starts) ts right) (Whole guard ∷ []) env s on_left on_right state (g, tt) test test'
      (truth_sorted (Scoped left).scope test i) (truth_sorted (Scoped (names_with (start_names starts) ts right)).scope test' j) (k ts h)))

  -- rows, at a point in the right side's setting

  abbrev LoopApart : Point → List Start → List Start → Exp → Exp → Exp → Exp → Type 0
  LoopApart at starts starts' g g' t t' =
      ((start_names starts' ≡ start_names starts) × (g' ≡ g) × (t' ≡ t) × OneApart at (start_exps starts) (start_exps starts'))
      ⊎ ((starts' ≡ starts) × (t' ≡ t) × StepApart (within starts' [] at) g g') ⊎ ((starts' ≡ starts) × (g' ≡ g) × StepApart (within starts' (Whole g ∷ []) at) t t')

  loop_sound : (fs : List Fact) (right : NamesInScope) (starts starts' : List Start) (g g' t t' : Exp) (m : Mon) → LoopApart (point fs (Scoped right)) starts starts' g g' t t' → Sound fs right (M.Loop starts g t m) (M.Loop starts' g' t' m)
  loop_sound fs right starts starts' g g' t t' m (inl h) =
      subst (λ a. Sound fs right (M.Loop starts g t m) (M.Loop starts' a t' m)) (sym h.1) (subst (λ c. Sound fs right (M.Loop starts g t m) (M.Loop starts' g c m)) (sym h.2) (by_starts fs right starts starts' g t m h.0 h.3))
  loop_sound fs right starts starts' g g' t t' m (inr (inl h)) =
      subst (λ c. Sound fs right (M.Loop starts g t m) (M.Loop starts' g' c m)) (sym h.1)
      (subst (λ xs. StepApart (within xs [] (point fs (Scoped right))) g g' → Sound fs right (M.Loop starts g t m) (M.Loop xs g' t m)) (sym h.0)
      (λ k. by_guard fs right starts g g' t m (λ ts e. subst (λ o. OneStepApart (Scoped (names_with (start_names starts) (unwrap_or o []) right)).scope [] g g') e k)) h.2)
  loop_sound fs right starts starts' g g' t t' m (inr (inr h)) =
      subst (λ a. Sound fs right (M.Loop starts g t m) (M.Loop starts' a t' m)) (sym h.1)
      (subst (λ xs. StepApart (within xs (Whole g ∷ []) (point fs (Scoped right))) t t' → Sound fs right (M.Loop starts g t m) (M.Loop xs g t' m)) (sym h.0)
      (λ k. by_test fs right starts g t t' m (λ ts e. subst (λ o. OneStepApart (Scoped (names_with (start_names starts) (unwrap_or o []) right)).scope (Whole g ∷ []) t t') e k)) h.2)

  exp_sound : (fs : List Fact) (right : NamesInScope) (m m' : Mon) → ExpApart (point fs (Scoped right)) m m' → Sound fs right m m'
  exp_sound fs right (M.Ret es) (M.Ret es') h = ret fs right es es' h
  exp_sound fs right (M.Guard e) (M.Guard e') h = guard fs right e e' h
  exp_sound fs right (M.If e m n) (M.If e' m' n') h =
      subst (λ a. Sound fs right (M.If e m n) (M.If e' a n')) (sym h.0) (subst (λ c. Sound fs right (M.If e m n) (M.If e' m c)) (sym h.1) (test fs right e e' m n h.2))
  exp_sound fs right (M.Write q e) (M.Write q' e') h = write fs right q q' e e' h.0 h.1
  exp_sound fs right (M.Loop starts g t m) (M.Loop starts' g' t' m') h =
      subst (λ a. Sound fs right (M.Loop starts g t m) (M.Loop starts' g' t' a)) (sym h.0) (loop_sound fs right starts starts' g g' t t' m h.1)
  exp_sound fs right (M.Call f es) (M.Call g es') h = subst (λ z. Sound fs right (M.Call f es) (M.Call z es')) (sym h.0) (call fs right f es es' h.1)
  exp_sound _ _ _ _ h = absurd h

  taken_sound : (fs : List Fact) (right : NamesInScope) (es : List Exp) (xs : List Name) (m m' : Mon) (i : ℕ) (o : Option Taken) → taken_at i es xs ≡ o → AreTaken o m m' → Sound fs right (M.Bind (M.Ret es) xs m) m'
  taken_sound fs right es xs m m' i None e h = absurd h
  taken_sound fs right es xs m m' i (Some k) e h = subst (λ n. Sound fs right (M.Bind (M.Ret es) xs m) n) (sym h.1) (put_in fs right es xs m i k e h.0)

  back_sound : (fs : List Fact) (right : NamesInScope) (m : Mon) (xs : List Name) (n m' : Mon) → ((n ≡ M.Ret (map (λ x. Var x) xs)) × (m' ≡ m)) ⊎ ((m ≡ M.Ret []) × (xs ≡ []) × (m' ≡ n)) → Sound fs right (M.Bind m xs n) m'
  back_sound fs right m xs n m' (inl h) = subst (λ a. Sound fs right (M.Bind m xs a) m') (sym h.0) (subst (λ c. Sound fs right (M.Bind m xs (M.Ret (map (λ x. Var x) xs))) c) (sym h.1) (given fs right m xs))
  back_sound fs right m xs n m' (inr h) =
      subst (λ a. Sound fs right (M.Bind a xs n) m') (sym h.0) (subst (λ ys. Sound fs right (M.Bind (M.Ret []) ys n) m') (sym h.1) (subst (λ c. Sound fs right (M.Bind (M.Ret []) [] n) c) (sym h.2) (nothing fs right n)))

  abbrev AllAre : List Claim → Type 1
  AllAre = AllHold IsSound

  -- with the right side's setting in place of the point's
  row_sound : (fs : List Fact) (right : NamesInScope) (rule : Rule) (m m' : Mon) → (row (point fs (Scoped right)) rule m m').holds → AllAre (row (point fs (Scoped right)) rule m m').parts → Sound fs right m m'
  row_sound fs right R.Refl m m' e h = is_itself fs right m m' e
  row_sound fs right (R.Trans n) m m' e h = trans fs right m n m' e.0 e.1 (h.0 right refl) (h.1.0 right refl)
  row_sound fs right R.Bind (M.Bind m xs n) (M.Bind m' ys n') e h =
      subst (λ zs. Sound fs right (M.Bind m xs n) (M.Bind m' zs n')) (sym e)
      (bind fs right m m' xs n n' (h.0 right refl)
      (λ ss g. subst (λ zs. Sound (facts_after m' zs fs) (names_with zs ss right) n n') e (h.1.0 (names_with ys ss right) (ap (λ o. setting_with ys (unwrap_or o []) (Scoped right)) g))))
  row_sound fs right R.If (M.If v m n) (M.If v' m' n') e h =
      subst (λ z. Sound (Whole z ∷ fs) right m m' → Sound (NotTrue z ∷ fs) right n n' → Sound fs right (M.If v m n) (M.If z m' n')) (sym e) (choice fs right v m m' n n') (h.0 right refl) (h.1.0 right refl)
  row_sound fs right R.Loop (M.Loop starts g t m) (M.Loop starts' g' t' m') e h =
      subst (λ xs. ((ss : List Scalar) → start_scalars (Scoped right).scope xs ≡ Some ss → Sound (Whole t' ∷ Whole g' ∷ []) (names_with (start_names xs) ss right) m m') → Sound fs right (M.Loop starts g t m) (M.Loop xs g' t' m')) (sym e.0)
      (subst (λ a. ((ss : List Scalar) → start_scalars (Scoped right).scope starts ≡ Some ss → Sound (Whole t' ∷ Whole a ∷ []) (names_with (start_names starts) ss right) m m') → Sound fs right (M.Loop starts g t m) (M.Loop starts a t' m')) (sym e.1)
      (subst (λ c. ((ss : List Scalar) → start_scalars (Scoped right).scope starts ≡ Some ss → Sound (Whole c ∷ Whole g ∷ []) (names_with (start_names starts) ss right) m m') → Sound fs right (M.Loop starts g t m) (M.Loop starts g c m')) (sym e.2)
      (repeat fs right starts g t m m')))
      (λ ss k. h.0 (names_with (start_names starts') ss right) (ap (λ o. setting_with (start_names starts') (unwrap_or o []) (Scoped right)) k))
  row_sound fs right (R.RetOne i) (M.Bind (M.Ret es) xs m) m' e h = taken_sound fs right es xs m m' i (taken_at i es xs) refl e
  row_sound fs right R.BindRet (M.Bind m xs n) m' e h = back_sound fs right m xs n m' e
  row_sound fs right R.Assoc (M.Bind (M.Bind a xs b) ys c) m' e h = subst (λ n. Sound fs right (M.Bind (M.Bind a xs b) ys c) n) (sym e.1) (assoc fs right a xs b ys c e.0)
  row_sound fs right R.IfConst (M.If (TruthLit true) m n) m' e h = subst (λ a. Sound fs right (M.If (TruthLit true) m n) a) (sym e) (chosen_first fs right m n)
  row_sound fs right R.IfConst (M.If (TruthLit false) m n) m' e h = subst (λ a. Sound fs right (M.If (TruthLit false) m n) a) (sym e) (chosen_second fs right m n)
  row_sound fs right R.GuardKnown (M.Bind (M.Guard v) [] m) m' e h = subst (λ a. Sound fs right (M.Bind (M.Guard v) [] m) a) (sym e.1) (guard_known fs right v m e.0)
  row_sound fs right R.Exp m m' e h = exp_sound fs right m m' e
  row_sound _ _ _ _ _ e h = absurd e

  preserved : (rule : Rule) (c : Claim) → (table rule c).holds → AllAre (table rule c).parts → IsSound c
  preserved rule (does at m m') e h = λ right there.
      subst (λ t. (row (point at.facts t) rule m m').holds → AllAre (row (point at.facts t) rule m m').parts → Sound at.facts right m m') (sym there) (row_sound at.facts right rule m m') e h

  -- what is taken does the same
  pub taken_sounds : (fs : List Fact) (right : NamesInScope) (t : Tree Rule) (m m' : Mon) → Takes (point fs (Scoped right)) t m m' → Sound fs right m m'
  taken_sounds fs right t m m' h = accepted_holds table IsSound preserved t (does (point fs (Scoped right)) m m') h right refl
