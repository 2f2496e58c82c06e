-- What a ready program is abstracted to is of its level's form.
use Rattle.std.proofs.Common.{◌≡◌, ◌==◌, ℕ, Bool, true, false, cond, ◌&&◌, ◌||◌, List, [], ◌∷◌, Option, Some, None, refl, subst}
use Rattle.std.proofs.lemmas.Bool.{and_parts, or_parts}
use Rattle.c_values.specs.Name.{Name}
use Rattle.c_values.specs.Types.{CType}
use Rattle.expression_lang.specs.Expression as X
use Rattle.expression_lang.specs.Expression.{Exp, Path}
use Rattle.expression_lang.specs.Form.{has, path_has, is_word_arithmetic}
use Rattle.expression_lang.specs.Sort.{Kind, WordKind, NatKind, IntKind, BoolKind}
use Rattle.expression_lang.specs.Signature.{Binder, signature}
use Rattle.ac_expr.specs.Fact.{Fact, Whole, NotTrue}
use Rattle.monad_lang.specs.Form.{program_has, some_has, start_has, place_has, no_place}
use Rattle.monad_lang.specs.Program as M
use Rattle.monad_lang.specs.Program.{Mon, Place, Start}
use Rattle.monad_lang.specs.Run.{start_names}
use Rattle.monad_lang.specs.Sorted.{scalars_given}
use Rattle.program_facts.specs.Flow.{facts_after}
use Rattle.rule_trees.specs.RuleTree.{Trees, node, no_trees}
use Rattle.rule_word.specs.Rule as R
use Rattle.rule_word.specs.Rule.{Rule, Context, View}
use Rattle.rule_word.specs.Scopes.{with_kinds, words, own}
use Rattle.rule_word.specs.Table.{truth, views_for, recast, recast_first, recasts}
use Rattle.rule_parts.specs.Starts.{start_exps}
use Rattle.rule_word.specs.Kept.{kinds_taken, kinds_given}
use Rattle.rule_word.specs.WordsAbstracted.{Abstracted, one, indices}
use Rattle.rule_word.specs.Bases.{among}
use Rattle.rule_word.specs.ProgramsAbstracted.{AbstractedProgram, rights, trees_before, restarted, kinds_for, scalars_there, same_kinds, recast_by, result_names, in_words, recast_or, recast_to, pick_at, exp_at, guard_at, all_at, place_at, program_abstracted}
use Rattle.rule_word.specs.Ready.{exp_ready, guard_ready, all_ready, starts_ready, place_ready, path_ready, program_ready}
use Rattle.rule_word.proofs.AbstractedForm.{Clean, CleanPath, two_clean, clean, clean_path, looks_at_heap, neither}

same_or : (b : Bool) (e a : Exp) → cond b (Some e) None ≡ Some a → e ≡ a
same_or true e a h = cc
same_or false e a h = absurd cc

module _ (test : Exp → Bool) (elsewhere : (e : Exp) → looks_at_heap e ≡ false → test e ≡ false)
    (loads : (t u : CType) (p q : Exp) (path way : Path) → test (X.Load t p path) ≡ false → test (X.Load u q way) ≡ false)
    (reads : (t u : CType) (p q : Exp) (path way : Path) → test (X.Read t p path) ≡ false → test (X.Read u q way) ≡ false)
    (place_test : Place → Bool)
    (stores : (t u : CType) (p q : Exp) (path way : Path) → place_test (M.Stored t p path) ≡ false → place_test (M.Stored u q way) ≡ false)
    (writes : (t u : CType) (p q : Exp) (path way : Path) → place_test (M.Written t p path) ≡ false → place_test (M.Written u q way) ≡ false)
    (globals : (x y : Name) (path way : Path) → place_test (M.Global x path) ≡ false → place_test (M.Global y way) ≡ false)
    (numbers : Bool) where
  abbrev C : Exp → Type 0
  C e = Clean test elsewhere loads reads numbers e

  pub record CleanProgram (m : Mon) : Type 0 where
    pub arithmetic : numbers ≡ true → program_has is_word_arithmetic no_place m ≡ false
    pub heap : program_has test place_test m ≡ false

  record CleanList (es : List Exp) : Type 0 where
    arithmetic : numbers ≡ true → some_has is_word_arithmetic es ≡ false
    heap : some_has test es ≡ false

  none_clean : CleanList []
  none_clean = record { arithmetic = λ n. refl; heap = refl }

  more_clean : (e : Exp) (es : List Exp) → C e → CleanList es → CleanList (e ∷ es)
  more_clean e es c d = record {
    arithmetic = λ n. neither (has is_word_arithmetic e) (some_has is_word_arithmetic es) (c.arithmetic n) (d.arithmetic n);
    heap = neither (has test e) (some_has test es) c.heap d.heap;
  }

  -- recasts
  var_clean : (y : Name) → C (X.Var y)
  var_clean y = record { arithmetic = λ n. refl; heap = elsewhere (X.Var y) refl }

  nat_clean : (y : Name) → C (X.ToNat (X.Var y))
  nat_clean y = record { arithmetic = λ n. refl; heap = neither (test (X.ToNat (X.Var y))) (test (X.Var y)) (elsewhere (X.ToNat (X.Var y)) refl) (elsewhere (X.Var y) refl) }

  int_clean : (y : Name) → C (X.ToInt (X.Var y))
  int_clean y = record { arithmetic = λ n. refl; heap = neither (test (X.ToInt (X.Var y))) (test (X.Var y)) (elsewhere (X.ToInt (X.Var y)) refl) (elsewhere (X.Var y) refl) }

  word_clean : (m : ℕ) (y : Name) → C (X.ToWord m (X.Var y))
  word_clean m y = record { arithmetic = λ n. refl; heap = neither (test (X.ToWord m (X.Var y))) (test (X.Var y)) (elsewhere (X.ToWord m (X.Var y)) refl) (elsewhere (X.Var y) refl) }

  recast_clean : (j k : Kind) (y : Name) (e : Exp) → recast j k (X.Var y) ≡ Some e → C e
  recast_clean (WordKind n) (WordKind m) y e h = subst C (same_or (m == n) (X.Var y) e h) (var_clean y)
  recast_clean (NatKind n) (NatKind m) y e h = subst C (same_or (m == n) (X.Var y) e h) (var_clean y)
  recast_clean (IntKind n) (IntKind m) y e h = subst C (same_or (m == n) (X.Var y) e h) (var_clean y)
  recast_clean BoolKind BoolKind y e h = subst C (same_or true (X.Var y) e h) (var_clean y)
  recast_clean (WordKind n) (NatKind m) y e h = subst C (same_or (m == n) (X.ToNat (X.Var y)) e h) (nat_clean y)
  recast_clean (WordKind n) (IntKind m) y e h = subst C (same_or (m == n) (X.ToInt (X.Var y)) e h) (int_clean y)
  recast_clean (NatKind n) (WordKind m) y e h = subst C (same_or (m == n) (X.ToWord m (X.Var y)) e h) (word_clean m y)
  recast_clean (IntKind n) (WordKind m) y e h = subst C (same_or (m == n) (X.ToWord m (X.Var y)) e h) (word_clean m y)
  recast_clean _ _ y e h = absurd cc

  first_inv : (o : Option Exp) (r : Option (List Exp)) (es : List Exp) → recast_first o r ≡ Some es → (e : Exp) × (as' : List Exp) × (o ≡ Some e) × (r ≡ Some as') × (e ∷ as' ≡ es)
  first_inv (Some e) (Some as') es h = (e, as', refl, refl, some_is h)
    where
      some_is : {a b : List Exp} → ◌≡◌ {A = Option (List Exp)} (Some a) (Some b) → a ≡ b
      some_is h = cc
  first_inv _ _ es h = absurd cc

  recasts_clean : (js ks : List Kind) (ys : List Name) (es : List Exp) → recasts js ks ys ≡ Some es → CleanList es
  recasts_clean [] [] [] es h = subst CleanList (some_is h) none_clean
    where
      some_is : {a b : List Exp} → ◌≡◌ {A = Option (List Exp)} (Some a) (Some b) → a ≡ b
      some_is h = cc
  recasts_clean (j ∷ js) (k ∷ ks) (y ∷ ys) es h =
      let f = first_inv (recast j k (X.Var y)) (recasts js ks ys) es h in subst CleanList f.4 (more_clean f.0 f.1 (recast_clean j k y f.0 f.2) (recasts_clean js ks ys f.1 f.3))
  recasts_clean [] [] (y ∷ ys) es h = absurd cc
  recasts_clean [] (k ∷ ks) ys es h = absurd cc
  recasts_clean (j ∷ js) [] ys es h = absurd cc
  recasts_clean (j ∷ js) (k ∷ ks) [] es h = absurd cc

  by_clean : (js ks : List Kind) (ys : List Name) (o : Option (List Exp)) (x : AbstractedProgram) → recasts js ks ys ≡ o → CleanProgram x.right → CleanProgram (recast_by js ys o x).right
  by_clean js ks ys None x e c = c
  by_clean js ks ys (Some es) x e c = let d = recasts_clean js ks ys es e in record {
    arithmetic = λ n. neither (program_has is_word_arithmetic no_place x.right) (some_has is_word_arithmetic es) (c.arithmetic n) (d.arithmetic n);
    heap = neither (program_has test place_test x.right) (some_has test es) c.heap d.heap;
  }

  or_clean : (js ks : List Kind) (ys : List Name) (o : Option (List Exp)) (x : AbstractedProgram) → recasts js ks ys ≡ o → CleanProgram x.right → CleanProgram (recast_or js ks ys o x).right
  or_clean js ks ys None x e c = by_clean (in_words js) ks ys (recasts (in_words js) ks ys) (recast_by js ys (recasts js (in_words js) ys) x) refl (by_clean js (in_words js) ys (recasts js (in_words js) ys) x refl c)
  or_clean js ks ys (Some es) x e c = by_clean js ks ys (Some es) x e c

  to_clean : (b : Bool) (js ks : List Kind) (x : AbstractedProgram) → CleanProgram x.right → CleanProgram (recast_to b js ks x).right
  to_clean true js ks x c = c
  to_clean false js ks x c = or_clean js ks (result_names js) (recasts js ks (result_names js)) x refl c

  pick_clean : (k : Kind) (ks : List Kind) → CleanProgram (pick_at k ks).right
  pick_clean (WordKind n) (NatKind m ∷ []) = record { arithmetic = λ n. refl; heap = refl }
  pick_clean (WordKind n) (IntKind m ∷ []) = record { arithmetic = λ n. refl; heap = refl }
  pick_clean k ks = record { arithmetic = λ n. refl; heap = refl }

  module _ (same : Exp → Exp → Bool) (ctx : Context) (table : Name → Option Kind) where
    abbrev E : List Binder → List Fact → Exp → View → Abstracted
    E names fs e v = exp_at same numbers ctx names fs e v

    exp_clean : (names : List Binder) (fs : List Fact) (e : Exp) → exp_ready same numbers ctx table fs names e ≡ true → has test e ≡ false → (v : View) → C (E names fs e v).right
    exp_clean names fs e r h v = clean test elsewhere loads reads numbers same (words ctx names).scope names (among fs) e r h v

    abbrev GA : List Binder → List Fact → Exp → Abstracted
    GA names fs e = guard_at same numbers ctx names fs e

    guard_clean : (names : List Binder) (fs : List Fact) (e : Exp) → guard_ready same numbers ctx table fs names e ≡ true → has test e ≡ false → C (GA names fs e).right
    guard_clean names fs (X.And a b) r h =
        let p = or_parts (test (X.And a b) || has test a) (has test b) h in
        let q = or_parts (test (X.And a b)) (has test a) p.0 in
        let t = E names fs a truth in
        let x = and_parts (exp_ready same numbers ctx table fs names a) (guard_ready same numbers ctx table (Whole t.right ∷ fs) names b) r in
        let u = GA names (Whole t.right ∷ fs) b in
        two_clean test elsewhere loads reads numbers (X.And t.right u.right) t.right u.right (exp_clean names fs a x.0 q.1 truth) (guard_clean names (Whole t.right ∷ fs) b x.1 p.1) refl refl refl
    guard_clean names fs e r h = exp_clean names fs e r h truth

    all_clean : (names : List Binder) (fs : List Fact) (es : List Exp) (vs : _) → all_ready same numbers ctx table fs names es ≡ true → some_has test es ≡ false → CleanList (rights (all_at same numbers ctx names fs es vs))
    all_clean names fs [] vs r h = none_clean
    all_clean names fs (e ∷ es) [] r h = none_clean
    all_clean names fs (e ∷ es) (v ∷ vs) r h =
        let x = and_parts (exp_ready same numbers ctx table fs names e) (all_ready same numbers ctx table fs names es) r in
        let q = or_parts (has test e) (some_has test es) h in more_clean (E names fs e v).right (rights (all_at same numbers ctx names fs es vs)) (exp_clean names fs e x.0 q.0 v) (all_clean names fs es vs x.1 q.1)

    record CleanStarts (xs : List Start) : Type 0 where
      arithmetic : numbers ≡ true → start_has is_word_arithmetic xs ≡ false
      heap : start_has test xs ≡ false

    starts_clean : (names : List Binder) (fs : List Fact) (xs : List Start) (vs : _) → starts_ready same numbers ctx table fs names xs ≡ true → start_has test xs ≡ false → CleanStarts (restarted xs (rights (all_at same numbers ctx names fs (start_exps xs) vs)))
    starts_clean names fs [] vs r h = record { arithmetic = λ n. refl; heap = refl }
    starts_clean names fs (x ∷ xs) [] r h = record { arithmetic = λ n. refl; heap = refl }
    starts_clean names fs (x ∷ xs) (v ∷ vs) r h =
        let y = and_parts (exp_ready same numbers ctx table fs names x.exp) (starts_ready same numbers ctx table fs names xs) r in
        let q = or_parts (has test x.exp) (start_has test xs) h in
        let c = exp_clean names fs x.exp y.0 q.0 v in
        let d = starts_clean names fs xs vs y.1 q.1 in
        let zs = restarted xs (rights (all_at same numbers ctx names fs (start_exps xs) vs)) in record {
          arithmetic = λ n. neither (has is_word_arithmetic (E names fs x.exp v).right) (start_has is_word_arithmetic zs) (c.arithmetic n) (d.arithmetic n);
          heap = neither (has test (E names fs x.exp v).right) (start_has test zs) c.heap d.heap;
        }

    abbrev PA : List Fact → List Binder → Mon → List Kind → AbstractedProgram
    PA fs names m ks = program_abstracted same numbers ctx table fs names m ks

    path_clean : (names : List Binder) (fs : List Fact) (path : Path) → path_ready same numbers (words ctx names).scope names (among fs) path ≡ true → path_has test path ≡ false → (ts : Trees Rule) →
        CleanPath test elsewhere loads reads numbers (indices same numbers (words ctx names).scope names (among fs) path ts).path
    path_clean names fs path r h ts = clean_path test elsewhere loads reads numbers same (words ctx names).scope names (among fs) path r h ts

    -- a root and a path
    record CleanPlace (q : Place) : Type 0 where
      arithmetic : numbers ≡ true → place_has is_word_arithmetic q ≡ false
      heap : place_has test q ≡ false
      place : place_test q ≡ false

    place_clean : (names : List Binder) (fs : List Fact) (q : Place) → place_ready same numbers ctx table fs names q ≡ true → place_has test q ≡ false → place_test q ≡ false → (ts : Trees Rule) → CleanPlace (place_at same numbers ctx names fs q ts).place
    place_clean names fs (M.Stored t p path) r h k ts =
        let x = and_parts (exp_ready same numbers ctx table fs names p) (path_ready same numbers (words ctx names).scope names (among fs) path) r in
        let y = or_parts (has test p) (path_has test path) h in
        let c = exp_clean names fs p x.0 y.0 (own (words ctx names).scope p) in
        let d = path_clean names fs path x.1 y.1 ts in record {
          arithmetic = λ n. neither (has is_word_arithmetic (E names fs p (own (words ctx names).scope p)).right) (path_has is_word_arithmetic (indices same numbers (words ctx names).scope names (among fs) path ts).path) (c.arithmetic n) (d.arithmetic n);
          heap = neither (has test (E names fs p (own (words ctx names).scope p)).right) (path_has test (indices same numbers (words ctx names).scope names (among fs) path ts).path) c.heap d.heap;
          place = stores t t p (E names fs p (own (words ctx names).scope p)).right path (indices same numbers (words ctx names).scope names (among fs) path ts).path k;
        }
    place_clean names fs (M.Written t p path) r h k ts =
        let x = and_parts (exp_ready same numbers ctx table fs names p) (path_ready same numbers (words ctx names).scope names (among fs) path) r in
        let y = or_parts (has test p) (path_has test path) h in
        let c = exp_clean names fs p x.0 y.0 (own (words ctx names).scope p) in
        let d = path_clean names fs path x.1 y.1 ts in record {
          arithmetic = λ n. neither (has is_word_arithmetic (E names fs p (own (words ctx names).scope p)).right) (path_has is_word_arithmetic (indices same numbers (words ctx names).scope names (among fs) path ts).path) (c.arithmetic n) (d.arithmetic n);
          heap = neither (has test (E names fs p (own (words ctx names).scope p)).right) (path_has test (indices same numbers (words ctx names).scope names (among fs) path ts).path) c.heap d.heap;
          place = writes t t p (E names fs p (own (words ctx names).scope p)).right path (indices same numbers (words ctx names).scope names (among fs) path ts).path k;
        }
    place_clean names fs (M.Global y path) r h k ts =
        let d = path_clean names fs path r h ts in record { arithmetic = d.arithmetic; heap = d.heap; place = globals y y path (indices same numbers (words ctx names).scope names (among fs) path ts).path k }

    pub program_clean : (fs : List Fact) (names : List Binder) (m : Mon) (ks : List Kind) → program_ready same numbers ctx table fs names m ks ≡ true → program_has test place_test m ≡ false →
        CleanProgram (program_abstracted same numbers ctx table fs names m ks).right
    program_clean fs names (M.Ret es) ks r h = let c = all_clean names fs es (views_for ks) r h in record { arithmetic = c.arithmetic; heap = c.heap }
    program_clean fs names (M.Guard e) ks r h = let c = exp_clean names fs e r h truth in record { arithmetic = c.arithmetic; heap = c.heap }
    program_clean fs names (M.Pick k) ks r h = pick_clean k ks
    program_clean fs names (M.Call f es) ks r h =
        let s = signature ctx.functions f in
        let xs = all_at same numbers ctx names fs es (views_for (kinds_taken s)) in
        let c = all_clean names fs es (views_for (kinds_taken s)) r h in
        to_clean (same_kinds (kinds_given s) ks) (kinds_given s) ks (record { right = M.Call f (rights xs); tree = node R.Call (trees_before xs no_trees) }) (record { arithmetic = c.arithmetic; heap = c.heap })
    program_clean fs names (M.Write q e) ks r h =
        let x = and_parts (place_ready same numbers ctx table fs names q) (exp_ready same numbers ctx table fs names e) r in
        let i = or_parts (place_test q || place_has test q) (has test e) h in
        let j = or_parts (place_test q) (place_has test q) i.0 in
        let y = E names fs e (own (words ctx names).scope e) in
        let c = exp_clean names fs e x.1 i.1 (own (words ctx names).scope e) in
        let d = place_clean names fs q x.0 j.1 j.0 (one y) in
        let q' = (place_at same numbers ctx names fs q (one y)).place in record {
          arithmetic = λ n. neither (place_has is_word_arithmetic q') (has is_word_arithmetic y.right) (d.arithmetic n) (c.arithmetic n);
          heap = neither (place_test q' || place_has test q') (has test y.right) (neither (place_test q') (place_has test q') d.place d.heap) c.heap;
        }
    program_clean fs names (M.If e m n) ks r h =
        let x = E names fs e truth in
        let i = and_parts (exp_ready same numbers ctx table fs names e && program_ready same numbers ctx table (Whole x.right ∷ fs) names m ks) (program_ready same numbers ctx table (NotTrue x.right ∷ fs) names n ks) r in
        let j = and_parts (exp_ready same numbers ctx table fs names e) (program_ready same numbers ctx table (Whole x.right ∷ fs) names m ks) i.0 in
        let o = or_parts (has test e || program_has test place_test m) (program_has test place_test n) h in
        let q = or_parts (has test e) (program_has test place_test m) o.0 in
        let c = exp_clean names fs e j.0 q.0 truth in
        let a = program_clean (Whole x.right ∷ fs) names m ks j.1 q.1 in
        let b = program_clean (NotTrue x.right ∷ fs) names n ks i.1 o.1 in
        let m' = (PA (Whole x.right ∷ fs) names m ks).right in
        let n' = (PA (NotTrue x.right ∷ fs) names n ks).right in record {
          arithmetic = λ l. neither (has is_word_arithmetic x.right || program_has is_word_arithmetic no_place m') (program_has is_word_arithmetic no_place n') (neither (has is_word_arithmetic x.right) (program_has is_word_arithmetic no_place m') (c.arithmetic l) (a.arithmetic l)) (b.arithmetic l);
          heap = neither (has test x.right || program_has test place_test m') (program_has test place_test n') (neither (has test x.right) (program_has test place_test m') c.heap a.heap) b.heap;
        }
    program_clean fs names (M.Bind m xs n) ks r h =
        let js = kinds_for table xs (scalars_there (scalars_given (words ctx names) m)) in
        let m' = (PA fs names m js).right in
        let fs' = facts_after m' xs fs in
        let names' = with_kinds xs js names in
        let n' = (PA fs' names' n ks).right in
        let i = and_parts (program_ready same numbers ctx table fs names m js) (program_ready same numbers ctx table fs' names' n ks) r in
        let o = or_parts (program_has test place_test m) (program_has test place_test n) h in
        let a = program_clean fs names m js i.0 o.0 in
        let b = program_clean fs' names' n ks i.1 o.1 in record {
          arithmetic = λ l. neither (program_has is_word_arithmetic no_place m') (program_has is_word_arithmetic no_place n') (a.arithmetic l) (b.arithmetic l);
          heap = neither (program_has test place_test m') (program_has test place_test n') a.heap b.heap;
        }
    program_clean fs names (M.Loop starts guard test' m) ks r h =
        let inner = with_kinds (start_names starts) ks names in
        let c = GA inner [] guard in
        let t = E inner (Whole c.right ∷ []) test' truth in
        let fs' = Whole t.right ∷ Whole c.right ∷ [] in
        let i = and_parts (starts_ready same numbers ctx table fs names starts && guard_ready same numbers ctx table [] inner guard && exp_ready same numbers ctx table (Whole c.right ∷ []) inner test') (program_ready same numbers ctx table fs' inner m ks) r in
        let j = and_parts (starts_ready same numbers ctx table fs names starts && guard_ready same numbers ctx table [] inner guard) (exp_ready same numbers ctx table (Whole c.right ∷ []) inner test') i.0 in
        let k = and_parts (starts_ready same numbers ctx table fs names starts) (guard_ready same numbers ctx table [] inner guard) j.0 in
        let o = or_parts (start_has test starts || has test guard || has test test') (program_has test place_test m) h in
        let q = or_parts (start_has test starts || has test guard) (has test test') o.0 in
        let s = or_parts (start_has test starts) (has test guard) q.0 in
        let d = starts_clean names fs starts (views_for ks) k.0 s.0 in
        let e = guard_clean inner [] guard k.1 s.1 in
        let f = exp_clean inner (Whole c.right ∷ []) test' j.1 q.1 truth in
        let a = program_clean fs' inner m ks i.1 o.1 in
        let zs = restarted starts (rights (all_at same numbers ctx names fs (start_exps starts) (views_for ks))) in
        let m' = (PA fs' inner m ks).right in record {
          arithmetic = λ l. neither (start_has is_word_arithmetic zs || has is_word_arithmetic c.right || has is_word_arithmetic t.right) (program_has is_word_arithmetic no_place m')
              (neither (start_has is_word_arithmetic zs || has is_word_arithmetic c.right) (has is_word_arithmetic t.right) (neither (start_has is_word_arithmetic zs) (has is_word_arithmetic c.right) (d.arithmetic l) (e.arithmetic l)) (f.arithmetic l)) (a.arithmetic l);
          heap = neither (start_has test zs || has test c.right || has test t.right) (program_has test place_test m')
              (neither (start_has test zs || has test c.right) (has test t.right) (neither (start_has test zs) (has test c.right) d.heap e.heap) f.heap) a.heap;
        }
