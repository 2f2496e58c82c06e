-- What a ready command is lifted to, on heaps, is ready to become a program on numbers, wherever the conditions around it are
-- there.
use Rattle.std.proofs.Common.{◌≡◌, Bool, true, false, not, cond, ◌&&◌, ◌||◌, List, [], ◌∷◌, ◌++◌, Option, Some, None, refl, sym, subst, ap, ◌∙◌}
use Rattle.std.proofs.lemmas.Bool.{and_parts, and_from, false≢true}
use Rattle.std.proofs.lemmas.List.{append-nil}
use Rattle.c_values.specs.Name.{Name, same_name, is_among}
use Rattle.c_values.specs.Layout.{global_type}
use Rattle.expression_lang.specs.Expression as X
use Rattle.expression_lang.specs.Expression.{Exp, Path}
use Rattle.expression_lang.specs.Mentions.{names as names_it}
use Rattle.expression_lang.specs.Sort.{Scalar, Kind, Scope, is_truth, word_sort_of}
use Rattle.expression_lang.specs.Signature.{Binder, Signature, names_of}
use Rattle.expression_lang.specs.Sorted.{names_with, program_sort}
use Rattle.simpl_lang.specs.Command.{Condition, Simpl, Skip, Throw, Set, SetGlobal, Store, Pick, Seq, Cond, Guard, Catch, While, Call, kind_of}
use Rattle.simpl_lang.specs.Names.{path_names}
use Rattle.simpl_lang.specs.Sorted.{is_sorted, are_conditions}
use Rattle.monad_lang.specs.Program as M
use Rattle.monad_lang.specs.Program.{Mon}
use Rattle.monad_lang.specs.Names.{is_free, is_in_some, is_in_start, is_in_place}
use Rattle.monad_lang.specs.Run.{start_names}
use Rattle.monad_lang.specs.Sorted.{scalars_given}
use Rattle.ac_expr.specs.Fact.{Fact, Whole}
use Rattle.monad_lang.specs.Agree.{AgreeOn}
use Rattle.rule_local.specs.Assigned.{assigns}
use Rattle.rule_local.specs.Table.{vars, vars_with, as_starts, conj, picked_kind}
use Rattle.rule_local.specs.Lifted.{chosen, kind_there, set_lifted, lifted}
use Rattle.monad_lang.proofs.Agreeing.{agree_left, agree_right}
use Rattle.rule_local.proofs.Parts.{free_after, starts_named}
use Rattle.rule_local.proofs.HandedOn.{chosen_passes}
use Rattle.rule_local.proofs.LiftedNames.{handed_on_assigned}
use Rattle.monad_lang.proofs.AgreeingSorts.{in_scope}
use Rattle.rule_local.proofs.LiftedSorted.{scalars_at, AllThere, names_are, agree_bound}
use Rattle.rule_heap.specs.ExpLifted.{exp_lifted, path_lifted}
use Rattle.rule_heap.specs.HeapLifted.{is_pair, is_ptrok, exps_lifted, starts_lifted, place_lifted, on_heaps}
use Rattle.rule_heap.proofs.HeapTaken.{starts_named as still_named}
use Rattle.rule_word.specs.Rule.{Context}
use Rattle.rule_word.specs.Table.{truth}
use Rattle.rule_word.specs.Scopes.{names_in, with_kinds}
use Rattle.rule_word.specs.Bases.{Surroundings, among}
use Rattle.rule_word.specs.ProgramsAbstracted.{exp_at, guard_at, kinds_for, scalars_there}
use Rattle.rule_word.specs.Ready.{path_ready, exp_ready, guard_ready, all_ready, starts_ready, place_ready, program_ready}
use Rattle.pipeline.specs.CommandReady.{Unless}
use Rattle.pipeline.proofs.ReadyWords.{IsReady, IsPathReady, tested, done, path_done}
use Rattle.pipeline.proofs.GivenRanges.{IsThere, AllThere as AllGiven, all_split, all_more, there_now}
use Rattle.pipeline.proofs.CommandReady.{is_and, AreSingle, AreReady, AreInOrder, IsCommandReady}
use Rattle.pipeline.proofs.AlikeSettings.{itself_alike, alike}
use Rattle.pipeline.proofs.ReadyAlike.{ready_alike, paths_alike}
use Rattle.pipeline.proofs.NamesStay.{name_stays, path_name_stays}
use Rattle.pipeline.proofs.ConditionFacts.{fact_of, facts_of, one_fact_alike}
use Rattle.pipeline.proofs.LiftedSorts.{Lifting, setting_at, local_there, gives, names_next, loop_names, loop_gives}
use Rattle.pipeline.proofs.LiftedForHeaps.{lifted_is_no_pair, pair_is_of_pointer}
use Rattle.pipeline.proofs.CommandsReady.{one_by_one}
use Rattle.pipeline.proofs.ExpressionsForHeaps.{unless_there}

module _ (same : Exp → Exp → Bool) (finds : (e : Exp) → same e e ≡ true) (ctx : Context) (ns : Name → Option Scalar)
    (ls : List Binder) (ss : List Signature) (known : Lifting ctx ns ls ss) (table : Name → Option Kind) where
  abbrev g : Scope
  g = in_scope ctx.layout (global_type ctx.globals) ns

  abbrev Agree : List Binder → (Name → Bool) → Type 0
  Agree bs test = AgreeOn test (names_in word_sort_of bs) ns

  abbrev Is : List Binder → List Fact → Exp → Type 0
  Is bs fs e = IsReady same g bs (among fs) e

  abbrev Given : List Binder → List Fact → List Condition → Type 0
  Given bs fs gs = AllGiven same finds g bs (among fs) gs

  abbrev ExpReady : List Binder → List Fact → Exp → Type 0
  ExpReady bs fs e = exp_ready same true ctx table fs bs (exp_lifted e) ≡ true

  abbrev ProgramReady : List Binder → List Fact → Mon → List Kind → Type 0
  ProgramReady bs fs m ks = program_ready same true ctx table fs bs (on_heaps m) ks ≡ true

  abbrev PlaceReady : List Binder → List Fact → M.Place → Type 0
  PlaceReady bs fs (M.Stored t p path) = Is bs fs p × IsPathReady same g bs (among fs) path
  PlaceReady bs fs (M.Written t p path) = ⊥
  PlaceReady bs fs (M.Global x path) = IsPathReady same g bs (among fs) path

  -- an expression, in the scope of the names that it has there

  lifted_agree : (bs : List Binder) (e : Exp) → Agree bs (λ y. names_it y e) → Agree bs (λ y. names_it y (exp_lifted e))
  lifted_agree bs e h y k = h y (sym (name_stays y e) ∙ k)

  there : (bs : List Binder) (fs : List Fact) (e : Exp) → Agree bs (λ y. names_it y e) → Is bs fs e → ExpReady bs fs e
  there bs fs e h r =
      ready_alike same ctx.layout (global_type ctx.globals) (names_in word_sort_of bs) ns bs (exp_lifted e) (lifted_agree bs e h)
      (among fs) (among fs) (itself_alike same (among fs))
      ∙ done same g bs (among fs) e r

  path_there : (bs : List Binder) (fs : List Fact) (path : Path) → Agree bs (λ y. path_names y path) →
      IsPathReady same g bs (among fs) path →
      path_ready same true (in_scope ctx.layout (global_type ctx.globals) (names_in word_sort_of bs)) bs (among fs)
      (path_lifted path) ≡ true
  path_there bs fs path h r =
      paths_alike same ctx.layout (global_type ctx.globals) (names_in word_sort_of bs) ns bs (path_lifted path)
      (λ y k. h y (sym (path_name_stays y path) ∙ k)) (among fs) (among fs) (itself_alike same (among fs))
      ∙ path_done same g bs (among fs) path r

  -- and what a test becomes
  became : (bs : List Binder) (fs : List Fact) (e : Exp) →
      Agree bs (λ y. names_it y e) → (exp_at same true ctx bs fs (exp_lifted e) truth).right ≡ tested same g bs (among fs) e
  became bs fs e h =
      ap (λ x. x.right)
      (alike same ctx.layout (global_type ctx.globals) (names_in word_sort_of bs) ns bs (exp_lifted e) (lifted_agree bs e h)
      (among fs) (among fs) (itself_alike same (among fs)) truth)

  -- a condition that has become a fact
  with_one : (bs : List Binder) (fs : List Fact) (gs : List Condition) (c : Condition) → Agree bs (λ y. names_it y c.exp) →
      Is bs fs c.exp → Given bs fs gs → Given bs (fact_of same ctx bs fs c.exp ∷ fs) (gs ++ (c ∷ []))
  with_one bs fs gs c h r k =
      let e = tested same g bs (among fs) c.exp in
      let more = among (Whole e ∷ fs) in
      subst (λ x. Given bs (Whole x ∷ fs) (gs ++ (c ∷ []))) (sym (became bs fs c.exp h))
      (all_split same finds g bs more gs (c ∷ []) (all_more same finds g bs (Whole e) (among fs) gs k) (
        unless_there (is_ptrok c.exp) (IsThere same finds g bs more c.exp) (there_now same finds g bs (among fs) fs c.exp refl r),
        tt,
      ))

  -- lists

  vars_ready : (bs : List Binder) (fs : List Fact) (vs : List Name) →
      all_ready same true ctx table fs bs (exps_lifted (vars vs)) ≡ true
  vars_ready bs fs [] = refl
  vars_ready bs fs (v ∷ vs) = vars_ready bs fs vs

  with_ready : (bs : List Binder) (fs : List Fact) (x : Name) (e : Exp) (vs : List Name) →
      Agree bs (λ y. is_in_some y (vars_with x e vs)) → Is bs fs e →
      all_ready same true ctx table fs bs (exps_lifted (vars_with x e vs)) ≡ true
  with_ready bs fs x e [] h r = refl
  with_ready bs fs x e (v ∷ vs) h r =
      and_from _ _ (one (same_name x v) (agree_left (λ y. names_it y (cond (same_name x v) e (X.Var v)))
      (λ y. is_in_some y (vars_with x e vs)) (names_in word_sort_of bs) ns h))
      (with_ready bs fs x e vs (agree_right (λ y. names_it y (cond (same_name x v) e (X.Var v)))
      (λ y. is_in_some y (vars_with x e vs)) (names_in word_sort_of bs) ns h) r)
    where
      one : (b : Bool) → Agree bs (λ y. names_it y (cond b e (X.Var v))) → ExpReady bs fs (cond b e (X.Var v))
      one true h = there bs fs e h r
      one false h = refl

  exps_ready : (bs : List Binder) (fs : List Fact) (es : List Exp) → Agree bs (λ y. is_in_some y es) →
      AreReady same finds g bs (among fs) es → all_ready same true ctx table fs bs (exps_lifted es) ≡ true
  exps_ready bs fs [] h r = refl
  exps_ready bs fs (e ∷ es) h r =
      and_from _ _ (there bs fs e (agree_left (λ y. names_it y e) (λ y. is_in_some y es) (names_in word_sort_of bs) ns h) r.0)
      (exps_ready bs fs es (agree_right (λ y. names_it y e) (λ y. is_in_some y es) (names_in word_sort_of bs) ns h) r.1)

  begins_ready : (bs : List Binder) (fs : List Fact) (us : List Name) →
      starts_ready same true ctx table fs bs (starts_lifted (as_starts us)) ≡ true
  begins_ready bs fs [] = refl
  begins_ready bs fs (u ∷ us) = begins_ready bs fs us

  -- what doesn't depend on what is known
  then_vars : (bs : List Binder) (fs : List Fact) (m : Mon) (xs : List Name) (vs : List Name) (ks : List Kind) →
      is_pair m xs (M.Ret (vars vs)) ≡ false →
      ((js : List Kind) → program_ready same true ctx table fs bs (on_heaps m) js ≡ true) →
      ProgramReady bs fs (M.Bind m xs (M.Ret (vars vs))) ks
  then_vars bs fs m xs vs ks alone h =
      subst (λ b. program_ready same true ctx table fs bs
      (cond b (on_heaps (M.Ret (vars vs))) (M.Bind (on_heaps m) xs (on_heaps (M.Ret (vars vs))))) ks ≡ true) (sym alone)
      (and_from _ _ (h _) (vars_ready _ _ vs))

  set_ready : (bs : List Binder) (fs : List Fact) (b : Bool) (x : Name) (e : Exp) (vs : List Name) (ks : List Kind) →
      Agree bs (λ y. is_free y (set_lifted b x e vs).right) → Is bs fs e → ProgramReady bs fs (set_lifted b x e vs).right ks
  set_ready bs fs true x e vs ks h r = with_ready bs fs x e vs h r
  set_ready bs fs false x e vs ks h r = vars_ready bs fs vs

  guarded_ready : (bs : List Binder) (fs : List Fact) (gs : List Condition) (c : Condition) (m : Mon) (ks : List Kind) →
      Agree bs (λ y. names_it y c.exp) → Is bs fs c.exp → Given bs fs gs →
      ((more : List Fact) → Given bs more (gs ++ (c ∷ [])) → ProgramReady bs more m ks) →
      ProgramReady bs fs (M.Bind (M.Guard c.exp) [] m) ks
  guarded_ready bs fs gs c m ks h r k inner = by_pair (is_pair (M.Guard c.exp) [] m) refl
    where
      by_pair : (b : Bool) → is_pair (M.Guard c.exp) [] m ≡ b →
          program_ready same true ctx table fs bs (cond b (on_heaps m) (M.Bind (M.Guard (exp_lifted c.exp)) [] (on_heaps m))) ks
          ≡ true
      by_pair true e =
          inner fs (all_split same finds g bs (among fs) gs (c ∷ []) k
          (subst (λ b. Unless b (IsThere same finds g bs (among fs) c.exp)) (sym (pair_is_of_pointer c.exp m e)) tt, tt))
      by_pair false e =
          and_from _ _ (there bs fs c.exp h r) (inner (fact_of same ctx bs fs c.exp ∷ fs) (with_one bs fs gs c h r k))

  -- a loop's conditions

  conj_ready : (bs : List Binder) (before cs : List Condition) (fs : List Fact) → AreInOrder same finds g before cs →
      AreSingle cs → Agree bs (λ y. names_it y (conj cs)) → Given bs fs before →
      guard_ready same true ctx table fs bs (exp_lifted (conj cs)) ≡ true
  conj_ready bs before [] fs i s h k = refl
  conj_ready bs before (c ∷ []) fs i s h k = single c.exp s.0 (there bs fs c.exp h (i.0 bs (among fs) k))
    where
      single : (e : Exp) → is_and e ≡ false → ExpReady bs fs e → guard_ready same true ctx table fs bs (exp_lifted e) ≡ true
      single (X.And a b) s r = absurd cc
      single e s r = r
  conj_ready bs before (c ∷ d ∷ cs) fs i s h k =
      let hc = agree_left (λ y. names_it y c.exp) (λ y. names_it y (conj (d ∷ cs))) (names_in word_sort_of bs) ns h in
      let hd = agree_right (λ y. names_it y c.exp) (λ y. names_it y (conj (d ∷ cs))) (names_in word_sort_of bs) ns h in
      let r = i.0 bs (among fs) k in
      and_from _ _ (there bs fs c.exp hc r) (conj_ready bs (before ++ (c ∷ [])) (d ∷ cs)
      (fact_of same ctx bs fs c.exp ∷ fs) i.1 s.1 hd (with_one bs fs before c hc r k))

  first_agree : (bs : List Binder) (c : Condition) (cs : List Condition) → Agree bs (λ y. names_it y (conj (c ∷ cs))) →
      Agree bs (λ y. names_it y c.exp) × Agree bs (λ y. names_it y (conj cs))
  first_agree bs c [] h = (h, λ y k. absurd (false≢true k))
  first_agree bs c (d ∷ cs) h = (
    agree_left (λ y. names_it y c.exp) (λ y. names_it y (conj (d ∷ cs))) (names_in word_sort_of bs) ns h,
    agree_right (λ y. names_it y c.exp) (λ y. names_it y (conj (d ∷ cs))) (names_in word_sort_of bs) ns h,
  )

  -- each of them, as facts one after the other
  facts_given : (bs : List Binder) (before cs : List Condition) (fs : List Fact) → AreInOrder same finds g before cs →
      Agree bs (λ y. names_it y (conj cs)) → Given bs fs before → Given bs (facts_of same ctx bs fs cs) (before ++ cs)
  facts_given bs before [] fs i h k = subst (λ gs. Given bs fs gs) (sym (append-nil before)) k
  facts_given bs before (c ∷ cs) fs i h k =
      let a = first_agree bs c cs h in
      subst (λ gs. Given bs (facts_of same ctx bs (fact_of same ctx bs fs c.exp ∷ fs) cs) gs) (one_by_one before c cs)
      (facts_given bs (before ++ (c ∷ [])) cs (fact_of same ctx bs fs c.exp ∷ fs) i.1 a.1
      (with_one bs fs before c a.0 (i.0 bs (among fs) k) k))

  -- a loop's test, where all its conditions are one fact
  test_ready : (bs : List Binder) (cs : List Condition) (e : Exp) → AreInOrder same finds g [] cs → AreSingle cs →
      Agree bs (λ y. names_it y (conj cs)) → Agree bs (λ y. names_it y e) →
      ((names : List Binder) (k : Surroundings) → AllGiven same finds g names k cs → IsReady same g names k e) →
      exp_ready same true ctx table (Whole (guard_at same true ctx bs [] (exp_lifted (conj cs))).right ∷ []) bs (exp_lifted e)
      ≡ true
  test_ready bs [] e i s h j r = there bs (Whole (guard_at same true ctx bs [] (exp_lifted (conj []))).right ∷ []) e j (r bs _ tt)
  test_ready bs (c ∷ cs) e i s h j r =
      let facts = facts_of same ctx bs [] (c ∷ cs) in
      ready_alike same ctx.layout (global_type ctx.globals) (names_in word_sort_of bs) ns bs (exp_lifted e) (lifted_agree bs e j)
      (among (Whole (guard_at same true ctx bs [] (exp_lifted (conj (c ∷ cs)))).right ∷ [])) (among facts)
      (one_fact_alike same ctx bs c cs s)
      ∙ done same g bs (among facts) e (r bs (among facts) (facts_given bs [] (c ∷ cs) [] i h tt))

  write_ready : (bs : List Binder) (fs : List Fact) (place : M.Place) (e : Exp) →
      Agree bs (λ y. is_in_place y place || names_it y e) → PlaceReady bs fs place → Is bs fs e →
      (js : List Kind) → ProgramReady bs fs (M.Write place e) js
  write_ready bs fs place e h p r js =
      let hp = agree_left (λ y. is_in_place y place) (λ y. names_it y e) (names_in word_sort_of bs) ns h in
      let he = agree_right (λ y. is_in_place y place) (λ y. names_it y e) (names_in word_sort_of bs) ns h in
      and_from _ _ (in_place place hp p) (there bs fs e he r)
    where
      in_place : (place : M.Place) → Agree bs (λ y. is_in_place y place) → PlaceReady bs fs place →
          place_ready same true ctx table fs bs (place_lifted place) ≡ true
      in_place (M.Stored t p path) h r =
          and_from _ _ (there bs fs p (agree_left (λ y. names_it y p) (λ y. path_names y path)
          (names_in word_sort_of bs) ns h) r.0)
          (path_there bs fs path (agree_right (λ y. names_it y p) (λ y. path_names y path) (names_in word_sort_of bs) ns h) r.1)
      in_place (M.Written t p path) h r = absurd r
      in_place (M.Global x path) h r = path_there bs fs path h r

  -- what a sequence and a loop hand on are locals
  chosen_there : (test : Name → Bool) → AllThere ns (chosen test (names_of ls))
  chosen_there test y k = local_there ctx ns ls ss known y (chosen_passes test y (names_of ls) k).1

  loop_there : (cs : List Condition) (e : Exp) (a : Simpl) (vs : List Name) →
      AllThere ns (loop_names ctx ns ls ss known cs e a vs)
  loop_there cs e a vs y k =
      local_there ctx ns ls ss known y (handed_on_assigned (names_of ls) cs e a (λ us. (lifted ls a us).right) vs y k).1

  -- the kinds that names get
  abbrev kinds_of : List Binder → List Name → Mon → List Kind
  kinds_of bs us m =
      kinds_for table us (scalars_there (scalars_given (setting_at ctx ns ls ss known (names_in word_sort_of bs)) (on_heaps m)))

  next_agree : (bs : List Binder) (us : List Name) (m : Mon) (test : Name → Bool) →
      scalars_given (setting_at ctx ns ls ss known (names_in word_sort_of bs)) (on_heaps m) ≡ Some (scalars_at ns us) →
      AgreeOn test (names_with us (scalars_at ns us) (names_in word_sort_of bs)) ns →
      Agree (with_kinds us (kinds_of bs us m) bs) test
  next_agree bs us m test e h =
      subst (λ ms. AgreeOn test ms ns) (sym
      (names_next ctx ns ls ss known table us bs (scalars_given (setting_at ctx ns ls ss known (names_in word_sort_of bs))
      (on_heaps m)) e)) h

  -- a loop and what comes behind it
  loop_ready : (cs : List Condition) (e : Exp) (m : Mon) (us vs : List Name) (bs : List Binder) (fs : List Fact)
      (ks : List Kind) →
      AreInOrder same finds g [] cs →
      AreSingle cs → ((names : List Binder) (k : Surroundings) → AllGiven same finds g names k cs →
      IsReady same g names k e) →
      Agree (with_kinds us (kinds_of bs us (M.Loop (as_starts us) (conj cs) e m)) bs)
      (λ y. names_it y (conj cs) || names_it y e) →
      ((more : List Fact) (js : List Kind) →
      ProgramReady (with_kinds us (kinds_of bs us (M.Loop (as_starts us) (conj cs) e m)) bs) more m js) →
      ProgramReady bs fs (M.Bind (M.Loop (as_starts us) (conj cs) e m) us (M.Ret (vars vs))) ks
  loop_ready cs e m us vs bs fs ks i s r h body =
      let inner = with_kinds us js bs in
      let hc = agree_left (λ y. names_it y (conj cs)) (λ y. names_it y e) (names_in word_sort_of inner) ns h in
      let he = agree_right (λ y. names_it y (conj cs)) (λ y. names_it y e) (names_in word_sort_of inner) ns h in
      and_from _ _
      (subst (λ xs. inside (with_kinds xs js bs) ≡ true) (sym (still_named (as_starts us) ∙ starts_named us))
      (and_from _ _ (and_from _ _ (and_from _ _ (begins_ready bs fs us) (conj_ready inner [] cs [] i s hc tt))
      (test_ready inner cs e i s hc he r)) (body _ js)))
      (vars_ready _ _ vs)
    where
      js : List Kind
      js = kinds_of bs us (M.Loop (as_starts us) (conj cs) e m)

      inside : List Binder → Bool
      inside names =
          let c = guard_at same true ctx names [] (exp_lifted (conj cs)) in
          let t = exp_at same true ctx names (Whole c.right ∷ []) (exp_lifted e) truth in
          starts_ready same true ctx table fs bs (starts_lifted (as_starts us))
          && guard_ready same true ctx table [] names (exp_lifted (conj cs))
          && exp_ready same true ctx table (Whole c.right ∷ []) names (exp_lifted e)
          && program_ready same true ctx table (Whole t.right ∷ Whole c.right ∷ []) names (on_heaps m) js

  pub lifted_ready : (a : Simpl) →
      is_sorted (in_scope ctx.layout (global_type ctx.globals) ns) ss a ≡ true → (gs : List Condition) →
      IsCommandReady same finds (in_scope ctx.layout (global_type ctx.globals) ns) gs a →
      (vs : List Name) → AllThere ns vs → (bs : List Binder) →
      AgreeOn (λ y. is_free y (lifted ls a vs).right) (names_in word_sort_of bs) ns → (fs : List Fact) →
      AllGiven same finds (in_scope ctx.layout (global_type ctx.globals) ns) bs (among fs) gs → (ks : List Kind) →
      program_ready same true ctx table fs bs (on_heaps (lifted ls a vs).right) ks ≡ true
  lifted_ready Skip w gs r vs t bs h fs k ks = vars_ready bs fs vs
  lifted_ready Throw w gs r vs t bs h fs k ks = vars_ready bs fs vs
  lifted_ready (Set x e) w gs r vs t bs h fs k ks = set_ready bs fs (is_among x vs) x e vs ks h (r bs (among fs) k)
  lifted_ready (SetGlobal x path e) w gs r vs t bs h fs k ks =
      let j = r bs (among fs) k in
      then_vars bs fs (M.Write (M.Global x path) e) [] vs ks refl
      (write_ready bs fs (M.Global x path) e (agree_left (λ y. is_in_place y (M.Global x path) || names_it y e)
      (λ y. is_in_some y (vars vs)) (names_in word_sort_of bs) ns h) j.0 j.1)
  lifted_ready (Store u p path e) w gs r vs t bs h fs k ks =
      let j = r bs (among fs) k in
      then_vars bs fs (M.Write (M.Stored u p path) e) [] vs ks refl
      (write_ready bs fs (M.Stored u p path) e (agree_left (λ y. is_in_place y (M.Stored u p path) || names_it y e)
      (λ y. is_in_some y (vars vs)) (names_in word_sort_of bs) ns h) j.0 j.1)
  lifted_ready (Pick x) w gs r vs t bs h fs k ks =
      then_vars bs fs (M.Pick (kind_there (picked_kind (kind_of ls x)))) (x ∷ []) vs ks refl (λ js. refl)
  lifted_ready (Seq a b) w gs r vs t bs h fs k ks =
      let p = and_parts (is_sorted g ss a) (is_sorted g ss b) w in
      let second = (lifted ls b vs).right in
      let us = chosen (λ y. assigns y a && is_free y second) (names_of ls) in
      let first = (lifted ls a us).right in
      let tu : AllThere ns us = chosen_there (λ y. assigns y a && is_free y second) in
      let ha = agree_left (λ y. is_free y first) (λ y. not (is_among y us) && is_free y second) (names_in word_sort_of bs) ns h in
      let given = gives ctx ns ls ss known a p.0 us tu (names_in word_sort_of bs) ha in
      let js = kinds_of bs us first in
      subst (λ c. program_ready same true ctx table fs bs
      (cond c (on_heaps second) (M.Bind (on_heaps first) us (on_heaps second))) ks ≡ true)
      (sym (lifted_is_no_pair ls a us us second))
      (and_from _ _ (lifted_ready a p.0 gs r.0 us tu bs ha fs k js)
      (lifted_ready b p.1 [] r.1 vs t (with_kinds us js bs)
      (next_agree bs us first (λ y. is_free y second) given
      (agree_bound ns (λ y. is_free y first) (λ y. is_free y second) us (names_in word_sort_of bs) tu h)) _ tt ks))
  lifted_ready (Cond e a b) w gs r vs t bs h fs k ks =
      let p = and_parts (is_truth (program_sort g e) && is_sorted g ss a) (is_sorted g ss b) w in
      let q = and_parts (is_truth (program_sort g e)) (is_sorted g ss a) p.0 in
      let m = (lifted ls a vs).right in
      let n = (lifted ls b vs).right in
      let c = agree_left (λ y. names_it y e || is_free y m) (λ y. is_free y n) (names_in word_sort_of bs) ns h in
      and_from _ _
      (and_from _ _ (there bs fs e (agree_left (λ y. names_it y e) (λ y. is_free y m) (names_in word_sort_of bs) ns c)
      (r.0 bs (among fs) k))
      (lifted_ready a q.1 [] r.1 vs t bs (agree_right (λ y. names_it y e) (λ y. is_free y m)
      (names_in word_sort_of bs) ns c) _ tt ks))
      (lifted_ready b p.1 [] r.2 vs t bs (agree_right (λ y. names_it y e || is_free y m) (λ y. is_free y n)
      (names_in word_sort_of bs) ns h) _ tt ks)
  lifted_ready (Guard c a) w gs r vs t bs h fs k ks =
      let p = and_parts (is_truth (program_sort g c.exp)) (is_sorted g ss a) w in
      let m = (lifted ls a vs).right in
      guarded_ready bs fs gs c m ks (agree_left (λ y. names_it y c.exp) (λ y. is_free y m) (names_in word_sort_of bs) ns h)
      (r.0 bs (among fs) k) k
      (λ more i. lifted_ready a p.1 (gs ++ (c ∷ [])) r.1 vs t bs
      (agree_right (λ y. names_it y c.exp) (λ y. is_free y m) (names_in word_sort_of bs) ns h) more i ks)
  lifted_ready (Catch a b) w gs r vs t bs h fs k ks =
      lifted_ready a (and_parts (is_sorted g ss a) (is_sorted g ss b) w).0 [] r.0 vs t bs h fs tt ks
  lifted_ready (While cs e a) w gs r vs t bs h fs k ks =
      let p = and_parts (are_conditions g cs && is_truth (program_sort g e)) (is_sorted g ss a) w in
      let us = loop_names ctx ns ls ss known cs e a vs in
      let m = (lifted ls a us).right in
      let loop = M.Loop (as_starts us) (conj cs) e m in
      let ms = names_in word_sort_of bs in
      let test = λ (y : Name). names_it y (conj cs) || names_it y e || is_free y m in
      let tu : AllThere ns us = loop_there cs e a vs in
      let of_loop : AgreeOn (λ y. is_in_start y (as_starts us) ||
      (not (is_among y (start_names (as_starts us))) && test y)) ms ns =
      agree_left (λ y. is_free y loop) (λ y. not (is_among y us) && is_in_some y (vars vs)) ms ns h in
      let starts = agree_left (λ y. is_in_start y (as_starts us))
      (λ y. not (is_among y (start_names (as_starts us))) && test y) ms ns of_loop in
      let within : AgreeOn test (names_with us (scalars_at ns us) ms) ns =
      λ y j. names_are ns y us ms tu (λ i. free_after (λ z. is_in_start z (as_starts us)) test
      (start_names (as_starts us)) ms ns of_loop y j (ap (is_among y) (starts_named us) ∙ i)) in
      let inner = next_agree bs us loop test (loop_gives ctx ns ls ss known cs e a vs w t tu ms h starts) within in
      let names = names_in word_sort_of (with_kinds us (kinds_of bs us loop) bs) in
      loop_ready cs e m us vs bs fs ks r.0 r.3 r.1 (agree_left (λ y. names_it y (conj cs) || names_it y e)
      (λ y. is_free y m) names ns inner)
      (λ more js. lifted_ready a p.1 [] r.2 us tu (with_kinds us (kinds_of bs us loop) bs)
      (agree_right (λ y. names_it y (conj cs) || names_it y e) (λ y. is_free y m) names ns inner) more tt js)
  lifted_ready (Call (Some x) f es) w gs r vs t bs h fs k ks =
      then_vars bs fs (M.Call f es) (x ∷ []) vs ks refl
      (λ js. exps_ready bs fs es (agree_left (λ y. is_in_some y es) (λ y. not (is_among y (x ∷ [])) && is_in_some y (vars vs))
      (names_in word_sort_of bs) ns h) (r bs (among fs) k))
  lifted_ready (Call None f es) w gs r vs t bs h fs k ks =
      then_vars bs fs (M.Call f es) [] vs ks refl
      (λ js. exps_ready bs fs es (agree_left (λ y. is_in_some y es) (λ y. is_in_some y (vars vs)) (names_in word_sort_of bs) ns h)
      (r bs (among fs) k))
