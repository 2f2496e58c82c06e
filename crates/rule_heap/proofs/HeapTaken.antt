-- The rules take a ready program to its lifted one.
use Rattle.std.proofs.Common.{◌≡◌, Bool, true, false, not, cond, ◌||◌, List, [], ◌∷◌, ◌++◌, length, suc, refl, sym, ap, ap₂, ◌∙◌, subst}
use Rattle.std.proofs.lemmas.Bool.{and_parts, or_parts, not-true, false≢true, true≢false}
use Rattle.c_values.specs.Name.{Name}
use Rattle.c_values.specs.Types.{CType, same_type}
use Rattle.c_values.specs.Layout.{Layout}
use Rattle.expression_lang.specs.Expression as E
use Rattle.expression_lang.specs.Expression.{Exp}
use Rattle.expression_lang.specs.Form.{has, path_has, is_load}
use Rattle.expression_lang.proofs.Decided.{type_is}
use Rattle.ac_expr.specs.Fact.{Fact, Whole, NotTrue}
use Rattle.ac_expr.specs.SameExp.{same_exp}
use Rattle.ac_expr.proofs.SameExps.{exp_is}
use Rattle.monad_lang.specs.Program as M
use Rattle.monad_lang.specs.Program.{Mon, Start}
use Rattle.monad_lang.specs.Run.{start_names}
use Rattle.monad_lang.specs.Form.{some_has, start_has, program_has, is_stored, is_heaps, no_place}
use Rattle.program_facts.specs.Flow.{facts_after}
use Rattle.rule_trees.specs.RuleTree.{Tree, Trees, node, no_trees, tree, Accepts, AcceptsAll}
use Rattle.rule_heap.specs.Rule as R
use Rattle.rule_heap.specs.Rule.{Rule, Claim, OfProgram, OfExp}
use Rattle.rule_heap.specs.Table.{each, table}
use Rattle.rule_parts.specs.Starts.{start_exps}
use Rattle.rule_heap.specs.ExpLifted.{exp_lifted, exp_tree, leaf, over_one, IsReady}
use Rattle.rule_heap.specs.HeapLifted.{exps_lifted, starts_lifted, place_lifted, is_pair, on_heaps, is_ptrok, is_plain, exp_trees, start_trees, place_tree, bind_tree, same_or, trees_of, AreReady, AreStartsReady, IsPlaceReady, Where, IsHeapReady}
use Rattle.rule_heap.proofs.ExpForms.{exp_stays, path_stays, has_some}
use Rattle.rule_heap.proofs.ExpTaken.{exp_taken, path_taken_with, path_head_stays}

-- a plain program is its own lifted one

exps_stay : (es : List Exp) → some_has is_load es ≡ false → exps_lifted es ≡ es
exps_stay [] h = refl
exps_stay (e ∷ es) h = let k = or_parts (has is_load e) (some_has is_load es) h in ap₂ (λ x xs. x ∷ xs) (exp_stays e k.0) (exps_stay es k.1)

starts_stay : (xs : List Start) → start_has is_load xs ≡ false → starts_lifted xs ≡ xs
starts_stay [] h = refl
starts_stay (x ∷ xs) h =
    let k = or_parts (has is_load x.exp) (start_has is_load xs) h in ap₂ (λ e ys. start x.name e ∷ ys) (exp_stays x.exp k.0) (starts_stay xs k.1)
  where
    start : Name → Exp → Start
    start y e = record { name = y; exp = e }

-- a pair has the test of a pointer in it
no_pair : (m : Mon) (xs : List Name) (n : Mon) → program_has is_ptrok no_place m ≡ false → is_pair m xs n ≡ false
no_pair (M.Guard (E.PtrOk t p)) xs n h = absurd (has_it (has is_ptrok p) h)
  where
    has_it : (x : Bool) → (true || x) ≡ false → ⊥
    has_it x h = absurd (true≢false h)
no_pair m xs n h = refl

program_stays : (m : Mon) → program_has is_load is_stored m ≡ false → program_has is_ptrok no_place m ≡ false → on_heaps m ≡ m
program_stays (M.Ret es) h k = ap (λ x. M.Ret x) (exps_stay es h)
program_stays (M.Bind m xs n) h k =
    let a = or_parts (program_has is_load is_stored m) (program_has is_load is_stored n) h in
    let b = or_parts (program_has is_ptrok no_place m) (program_has is_ptrok no_place n) k in
    ap (λ t. cond t (on_heaps n) (M.Bind (on_heaps m) xs (on_heaps n))) (no_pair m xs n b.0) ∙ ap₂ (λ x y. M.Bind x xs y) (program_stays m a.0 b.0) (program_stays n a.1 b.1)
program_stays (M.Guard e) h k = ap (λ x. M.Guard x) (exp_stays e h)
program_stays (M.If e m n) h k =
    let a = or_parts (has is_load e || program_has is_load is_stored m) (program_has is_load is_stored n) h in
    let b = or_parts (has is_ptrok e || program_has is_ptrok no_place m) (program_has is_ptrok no_place n) k in
    let c = or_parts (has is_load e) (program_has is_load is_stored m) a.0 in
    let d = or_parts (has is_ptrok e) (program_has is_ptrok no_place m) b.0 in
    ap₂ (λ x y. M.If x y (on_heaps n)) (exp_stays e c.0) (program_stays m c.1 d.1) ∙ ap (λ z. M.If e m z) (program_stays n a.1 b.1)
program_stays (M.Write (M.Stored t p path) e) h k = absurd (has_some (has is_load p || path_has is_load path) (has is_load e) h)
program_stays (M.Write (M.Written t p path) e) h k =
    let a = or_parts (has is_load p || path_has is_load path) (has is_load e) h in
    let b = or_parts (has is_load p) (path_has is_load path) a.0 in
    ap₂ (λ x y. M.Write (M.Written t x y) (exp_lifted e)) (exp_stays p b.0) (path_stays path b.1) ∙ ap (λ z. M.Write (M.Written t p path) z) (exp_stays e a.1)
program_stays (M.Write (M.Global x path) e) h k =
    let a = or_parts (path_has is_load path) (has is_load e) h in ap₂ (λ y z. M.Write (M.Global x y) z) (path_stays path a.0) (exp_stays e a.1)
program_stays (M.Loop starts g t m) h k =
    let a = or_parts (start_has is_load starts || has is_load g || has is_load t) (program_has is_load is_stored m) h in
    let b = or_parts (start_has is_ptrok starts || has is_ptrok g || has is_ptrok t) (program_has is_ptrok no_place m) k in
    let c = or_parts (start_has is_load starts || has is_load g) (has is_load t) a.0 in
    let d = or_parts (start_has is_load starts) (has is_load g) c.0 in
    ap₂ (λ x y. M.Loop x y (exp_lifted t) (on_heaps m)) (starts_stay starts d.0) (exp_stays g d.1) ∙ ap₂ (λ x y. M.Loop starts g x y) (exp_stays t c.1) (program_stays m a.1 b.1)
program_stays (M.Call f es) h k = ap (λ x. M.Call f x) (exps_stay es h)
program_stays (M.Pick i) h k = refl

as_many : (es : List Exp) → length (exps_lifted es) ≡ length es
as_many [] = refl
as_many (e ∷ es) = ap (λ n. suc n) (as_many es)

pub starts_named : (xs : List Start) → start_names (starts_lifted xs) ≡ start_names xs
starts_named [] = refl
starts_named (x ∷ xs) = ap (λ ys. x.name ∷ ys) (starts_named xs)

module _ (l : Layout) where
  abbrev Taken : List Fact → Mon → Type 0
  Taken fs m = Accepts (table l) (trees_of m).here (OfProgram fs m (on_heaps m))

  abbrev AllTaken : Trees Rule → List Claim → Type 0
  AllTaken ts cs = AcceptsAll (table l) ts cs

  exps_taken : (fs : List Fact) (es : List Exp) → AreReady l fs es → AllTaken (exp_trees es no_trees) (each fs es (exps_lifted es))
  exps_taken fs [] h = tt
  exps_taken fs (e ∷ es) h = (exp_taken l fs e h.0, exps_taken fs es h.1)

  starts_taken : (fs : List Fact) (xs : List Start) (ts : Trees Rule) (cs : List Claim) → AreStartsReady l fs xs → AllTaken ts cs →
      AllTaken (start_trees xs ts) (each fs (start_exps xs) (start_exps (starts_lifted xs)) ++ cs)
  starts_taken fs [] ts cs h k = k
  starts_taken fs (x ∷ xs) ts cs h k = (exp_taken l fs x.exp h.0, starts_taken fs xs ts cs h.1 k)

  -- by the rule, or as it is where it is plain
  or_same : (fs : List Fact) (m : Mon) (t : Tree Rule) → Accepts (table l) t (OfProgram fs m (on_heaps m)) → Accepts (table l) (same_or m t) (OfProgram fs m (on_heaps m))
  or_same fs m t h = by_test (is_plain m) refl
    where
      by_test : (b : Bool) → is_plain m ≡ b → Accepts (table l) (cond b (leaf R.Same) t) (OfProgram fs m (on_heaps m))
      by_test true e =
          let k = and_parts (is_heaps m) (not (program_has is_ptrok no_place m)) e in
          ((k.0, program_stays m (not-true (program_has is_load is_stored m) k.0) (not-true (program_has is_ptrok no_place m) k.1)), tt)
      by_test false e = h

  place_taken : (fs : List Fact) (place : M.Place) (e : Exp) → IsPlaceReady l fs place → IsReady l fs e → Accepts (table l) (place_tree place (exp_tree e)) (OfProgram fs (M.Write place e) (M.Write (place_lifted place) (exp_lifted e)))
  place_taken fs (M.Stored t p path) e h k =
      ((refl, path_head_stays path, h.0), (exp_taken l fs p h.1, path_taken_with l fs path (tree (exp_tree e) no_trees) (OfExp fs e (exp_lifted e) ∷ []) h.2 (exp_taken l fs e k, tt)))
  place_taken fs (M.Written t p path) e h k = absurd h
  place_taken fs (M.Global x path) e h k = ((refl, path_head_stays path), path_taken_with l fs path (tree (exp_tree e) no_trees) (OfExp fs e (exp_lifted e) ∷ []) h (exp_taken l fs e k, tt))

  -- the second part of a Bind
  abbrev SecondTaken : Mon → Type 0
  SecondTaken (M.Bind a xs b) = (fs : List Fact) → IsHeapReady l fs b → Taken fs b
  SecondTaken _ = Unit {0}

  pair_taken : (fs : List Fact) (m : Mon) (xs : List Name) (n : Mon) → is_pair m xs n ≡ true → SecondTaken n → IsHeapReady l fs n →
      Accepts (table l) (bind_tree true m (trees_of m).here (trees_of n)) (OfProgram fs (M.Bind m xs n) (on_heaps n))
  pair_taken fs (M.Guard (E.PtrOk t p)) [] (M.Bind (M.Guard (E.Tagged u q)) [] r) e k h =
      let s = and_parts (same_type u t) (same_exp q p) e in
      let types : u ≡ t = type_is u t s.0 in
      let roots : q ≡ p = exp_is q p s.1 in
      let facts : Exp → CType → List Fact = λ x v. facts_after (M.Guard (E.Tagged v x)) [] fs in
      let rest : Accepts (table l) (trees_of r).here (OfProgram (facts (exp_lifted q) u) r (on_heaps r)) = k (facts (exp_lifted q) u) h.1 in
      let root : Accepts (table l) (exp_tree p) (OfExp fs p (exp_lifted q)) = subst (λ x. Accepts (table l) (exp_tree p) (OfExp fs p (exp_lifted x))) (sym roots) (exp_taken l fs p (subst (λ x. IsReady l fs x) roots h.0)) in
      ((types, roots, types), (root, (subst (λ v. Accepts (table l) (trees_of r).here (OfProgram (facts (exp_lifted q) v) r (on_heaps r))) types rest, tt)))
  pair_taken fs _ _ _ e k h = absurd (false≢true e)

  bind_taken : (fs : List Fact) (m : Mon) (xs : List Name) (n : Mon) → SecondTaken n → ((gs : List Fact) → IsHeapReady l gs m → Taken gs m) → ((gs : List Fact) → IsHeapReady l gs n → Taken gs n) → IsHeapReady l fs (M.Bind m xs n) →
      Accepts (table l) (bind_tree (is_pair m xs n) m (trees_of m).here (trees_of n)) (OfProgram fs (M.Bind m xs n) (on_heaps (M.Bind m xs n)))
  bind_taken fs m xs n k hm hn h = by_pair (is_pair m xs n) refl h
    where
      by_pair : (b : Bool) → is_pair m xs n ≡ b → Where b (IsHeapReady l fs n) (IsHeapReady l fs m × IsHeapReady l (facts_after (on_heaps m) xs fs) n) →
          Accepts (table l) (bind_tree b m (trees_of m).here (trees_of n)) (OfProgram fs (M.Bind m xs n) (cond b (on_heaps n) (M.Bind (on_heaps m) xs (on_heaps n))))
      by_pair true e r = pair_taken fs m xs n e k r
      by_pair false e r = (refl, (hm fs r.0, (hn (facts_after (on_heaps m) xs fs) r.1, tt)))

  mutual
    pub program_taken : (m : Mon) (fs : List Fact) → IsHeapReady l fs m → Taken fs m
    program_taken (M.Ret es) fs h = or_same fs (M.Ret es) (node R.Ret (exp_trees es no_trees)) (as_many es, exps_taken fs es h)
    program_taken (M.Bind m xs n) fs h =
        or_same fs (M.Bind m xs n) (bind_tree (is_pair m xs n) m (trees_of m).here (trees_of n)) (bind_taken fs m xs n (second_taken n) (λ gs k. program_taken m gs k) (λ gs k. program_taken n gs k) h)
    program_taken (M.Guard e) fs h = or_same fs (M.Guard e) (over_one R.Guard (exp_tree e)) (tt, (exp_taken l fs e h, tt))
    program_taken (M.If e m n) fs h =
        or_same fs (M.If e m n) (node R.If (tree (exp_tree e) (tree (trees_of m).here (tree (trees_of n).here no_trees)))) (tt, (exp_taken l fs e h.0, (program_taken m (Whole (exp_lifted e) ∷ fs) h.1, (program_taken n (NotTrue (exp_lifted e) ∷ fs) h.2, tt))))
    program_taken (M.Write place e) fs h = or_same fs (M.Write place e) (place_tree place (exp_tree e)) (place_taken fs place e h.0 h.1)
    program_taken (M.Loop starts g t m) fs h =
        let g' = exp_lifted g in
        let t' = exp_lifted t in
        let inner : Trees Rule = tree (exp_tree g) (tree (exp_tree t) (tree (trees_of m).here no_trees)) in
        or_same fs (M.Loop starts g t m) (node R.Loop (start_trees starts inner)) (
          starts_named starts,
          starts_taken fs starts inner (OfExp [] g g' ∷ OfExp (Whole g' ∷ []) t t' ∷ OfProgram (Whole t' ∷ Whole g' ∷ []) m (on_heaps m) ∷ []) h.0
              (exp_taken l [] g h.1, (exp_taken l (Whole g' ∷ []) t h.2, (program_taken m (Whole t' ∷ Whole g' ∷ []) h.3, tt))),
        )
    program_taken (M.Call f es) fs h = or_same fs (M.Call f es) (node R.Call (exp_trees es no_trees)) ((refl, as_many es), exps_taken fs es h)
    program_taken (M.Pick k) fs h = or_same fs (M.Pick k) (leaf R.Pick) (refl, tt)

    second_taken : (m : Mon) → SecondTaken m
    second_taken (M.Bind a xs b) = λ fs h. program_taken b fs h
    second_taken _ = tt
