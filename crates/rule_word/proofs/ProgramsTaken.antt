-- The rules take each well-sorted program to what it is abstracted to, where each bound name is a word or a truth value.
use Rattle.std.proofs.Common.{◌≡◌, Bool, true, false, cond, ◌&&◌, List, [], ◌∷◌, ◌++◌, map, Option, Some, None, refl, sym, subst, ap, ap₂, ◌∙◌}
use Rattle.std.proofs.lemmas.Bool.{and_parts}
use Rattle.c_values.specs.Name.{Name, are_distinct}
use Rattle.c_values.specs.Types.{CType, address_width}
use Rattle.c_values.specs.Layout.{shape_of, is_object, global_type}
use Rattle.c_values.proofs.Options.{some_is}
use Rattle.expression_lang.specs.Expression as X
use Rattle.expression_lang.specs.Expression.{Exp, Path}
use Rattle.expression_lang.specs.Sort.{Scalar, WordSort, NumberSort, TruthSort, Sort, Of, Kind, WordKind, NatKind, IntKind, BoolKind, Scope, sort_of, is_truth, is_word_of, same_scalar, word_sort_of, sort_of_kind, is_kind, truth_sort}
use Rattle.expression_lang.specs.Sorted.{program_sort, scalar_in, with_scalar, scalars_of, typed_place, global_place, part_place, fits_place, call_scalars}
use Rattle.expression_lang.specs.Signature.{Binder, Signature, kinds_of, signature}
use Rattle.expression_lang.proofs.Inversion.{where_inv, truth_inv, word_of_inv}
use Rattle.expression_lang.proofs.SameScalars.{same_scalar_is}
use Rattle.expression_lang.proofs.SortParts.{program_sort_inv, fits_inv as fits_there, scalar_in_inv}
use Rattle.ac_expr.specs.Fact.{Fact, Whole, NotTrue}
use Rattle.ac_expr.specs.Heads.{hole}
use Rattle.ac_expr.proofs.ConstantsSound.{if_inv}
use Rattle.monad_lang.specs.Program as M
use Rattle.monad_lang.specs.Program.{Mon, Place, Start}
use Rattle.monad_lang.specs.Run.{start_names}
use Rattle.monad_lang.specs.Sorted.{setting_with, scalars_given, start_scalars, place_sort, one_for_each, are_scalars, where_fits}
use Rattle.program_facts.specs.Flow.{facts_after}
use Rattle.rule_trees.specs.RuleTree.{Trees, node, no_trees, tree, Accepts, AcceptsAll}
use Rattle.rule_word.specs.Rule as R
use Rattle.rule_word.specs.Rule.{Rule, Context, Point, View, Claim, expression, program}
use Rattle.rule_word.specs.Scopes.{with_kinds, words, own, view_for, result_as_list, sort_seen}
use Rattle.rule_word.specs.Table.{truth, each, views_for, AreMatched, table, call_row}
use Rattle.rule_parts.specs.Starts.{start_exps}
use Rattle.rule_word.specs.Kept.{kinds_taken, kinds_given}
use Rattle.rule_word.specs.Bases.{among}
use Rattle.rule_word.specs.WordsAbstracted.{Abstracted, one}
use Rattle.rule_word.specs.ProgramsAbstracted.{AbstractedProgram, rights, trees_before, restarted, word_kind_of, kind_for, kinds_for, scalars_there, same_kinds, recast_to, exp_at, guard_at, all_at, program_abstracted, is_word_or_truth, are_words_or_truths, binds_words}
use Rattle.rule_word.proofs.AbstractedTaken.{taken, indices_before, AllNumbers, all_numbers, path_head_kept}
use Rattle.rule_word.proofs.ProgramSorts.{then_inv, fits_inv, are_inv, part_there, call_inv, result_sorts}
use Rattle.rule_word.proofs.RecastsTaken.{recast_taken}
use Rattle.rule_word.proofs.ScopesAfter.{sort_of_view, setting_after}

-- kinds for scalars
pub word_kind_sort : (c : Scalar) → is_word_or_truth c ≡ true → word_sort_of (word_kind_of c) ≡ c
word_kind_sort NumberSort h = absurd cc
word_kind_sort _ _ = refl

pub kind_for_sort : (o : Option Kind) (c : Scalar) → is_word_or_truth c ≡ true → word_sort_of (kind_for o c) ≡ c
kind_for_sort None c h = word_kind_sort c h
kind_for_sort (Some k) c h = by_test (same_scalar (word_sort_of k) c) refl
  where
    by_test : (b : Bool) → same_scalar (word_sort_of k) c ≡ b → word_sort_of (cond b k (word_kind_of c)) ≡ c
    by_test true e = same_scalar_is (word_sort_of k) c e
    by_test false e = word_kind_sort c h

pub kinds_for_sorts : (table : Name → Option Kind) (xs : List Name) (cs : List Scalar) → are_words_or_truths cs ≡ true → map word_sort_of (kinds_for table xs cs) ≡ cs
kinds_for_sorts table xs [] h = refl
kinds_for_sorts table [] (c ∷ cs) h = let r = and_parts (is_word_or_truth c) (are_words_or_truths cs) h in ap₂ (λ d ds. d ∷ ds) (word_kind_sort c r.0) (kinds_for_sorts table [] cs r.1)
kinds_for_sorts table (x ∷ xs) (c ∷ cs) h =
    let r = and_parts (is_word_or_truth c) (are_words_or_truths cs) h in ap₂ (λ d ds. d ∷ ds) (kind_for_sort (table x) c r.0) (kinds_for_sorts table xs cs r.1)

scalars_first : (o : Option Scalar) (r : Option (List Scalar)) (c : Scalar) (cs : List Scalar) → with_scalar o r ≡ Some (c ∷ cs) → (o ≡ Some c) × (r ≡ Some cs)
scalars_first (Some d) (Some ds) c cs h = (ap head_of (some_is h), ap tail_of (some_is h))
  where
    head_of : List Scalar → Option Scalar
    head_of [] = None
    head_of (x ∷ xs) = Some x

    tail_of : List Scalar → Option (List Scalar)
    tail_of [] = None
    tail_of (x ∷ xs) = Some xs
scalars_first _ _ c cs h = absurd cc

no_scalars : (o : Option Scalar) (r : Option (List Scalar)) → with_scalar o r ≡ Some [] → ⊥
no_scalars (Some d) (Some ds) h = cc
no_scalars _ _ h = cc

module _ (ctx : Context) (same : Exp → Exp → Bool) (is_same : (a b : Exp) → same a b ≡ true → a ≡ b) (numbers : Bool) (table' : Name → Option Kind) where
  abbrev g_in : List Binder → Scope
  g_in names = (words ctx names).scope

  -- each has the sort of its kind's words
  abbrev AllSorted : Scope → List Exp → List Kind → Type 0
  AllSorted g [] [] = Unit {0}
  AllSorted g (e ∷ es) (k ∷ ks) = (sort_of g e ≡ Some (Of (word_sort_of k))) × AllSorted g es ks
  AllSorted g _ _ = ⊥

  all_sorted : (g : Scope) (es : List Exp) (ks : List Kind) → scalars_of g es ≡ Some (map word_sort_of ks) → AllSorted g es ks
  all_sorted g [] [] h = tt
  all_sorted g [] (k ∷ ks) h = absurd cc
  all_sorted g (e ∷ es) [] h = absurd (no_scalars (scalar_in (program_sort g e)) (scalars_of g es) h)
  all_sorted g (e ∷ es) (k ∷ ks) h =
      let r = scalars_first (scalar_in (program_sort g e)) (scalars_of g es) (word_sort_of k) (map word_sort_of ks) h in
      (program_sort_inv g e (Of (word_sort_of k)) (scalar_in_inv (program_sort g e) (word_sort_of k) r.0), all_sorted g es ks r.1)

  starts_sorted : (g : Scope) (xs : List Start) (ks : List Kind) → start_scalars g xs ≡ Some (map word_sort_of ks) → AllSorted g (start_exps xs) ks
  starts_sorted g [] [] h = tt
  starts_sorted g [] (k ∷ ks) h = absurd cc
  starts_sorted g (x ∷ xs) [] h = absurd (no_scalars (scalar_in (program_sort g x.exp)) (start_scalars g xs) h)
  starts_sorted g (x ∷ xs) (k ∷ ks) h =
      let r = scalars_first (scalar_in (program_sort g x.exp)) (start_scalars g xs) (word_sort_of k) (map word_sort_of ks) h in
      (program_sort_inv g x.exp (Of (word_sort_of k)) (scalar_in_inv (program_sort g x.exp) (word_sort_of k) r.0), starts_sorted g xs ks r.1)

  abbrev at_point : List Fact → List Binder → Point
  at_point fs names = record { facts = fs; names = names }

  abbrev E : List Binder → List Fact → Exp → View → Abstracted
  E names fs e v = exp_at same numbers ctx names fs e v

  abbrev Es : List Binder → List Fact → List Exp → List View → List Abstracted
  Es names fs es vs = all_at same numbers ctx names fs es vs

  exp_taken : (names : List Binder) (fs : List Fact) (e : Exp) (s : Sort) → sort_of (g_in names) e ≡ Some s → (v : View) → sort_seen v ≡ Some s → Accepts (table ctx) (E names fs e v).tree (expression (at_point fs names) e v (E names fs e v).right)
  exp_taken names fs e s q v w = taken ctx names same is_same numbers (among fs) e s q v w

  matched : (names : List Binder) (fs : List Fact) (es : List Exp) (ks : List Kind) → AllSorted (g_in names) es ks → AreMatched es ks (rights (Es names fs es (views_for ks)))
  matched names fs [] [] h = tt
  matched names fs (e ∷ es) (k ∷ ks) h = matched names fs es ks h.1
  matched names fs [] (k ∷ ks) h = absurd h
  matched names fs (e ∷ es) [] h = absurd h

  all_taken : (names : List Binder) (fs : List Fact) (es : List Exp) (ks : List Kind) → AllSorted (g_in names) es ks →
      AcceptsAll (table ctx) (trees_before (Es names fs es (views_for ks)) no_trees) (each (at_point fs names) es (views_for ks) (rights (Es names fs es (views_for ks))))
  all_taken names fs [] [] h = tt
  all_taken names fs (e ∷ es) (k ∷ ks) h = (exp_taken names fs e (Of (word_sort_of k)) h.0 (view_for k) (sort_of_view k), all_taken names fs es ks h.1)
  all_taken names fs [] (k ∷ ks) h = absurd h
  all_taken names fs (e ∷ es) [] h = absurd h

  all_before : (names : List Binder) (fs : List Fact) (es : List Exp) (ks : List Kind) (cs : List Claim) (ts : Trees Rule) → AllSorted (g_in names) es ks → AcceptsAll (table ctx) ts cs →
      AcceptsAll (table ctx) (trees_before (Es names fs es (views_for ks)) ts) (each (at_point fs names) es (views_for ks) (rights (Es names fs es (views_for ks))) ++ cs)
  all_before names fs [] [] cs ts h k = k
  all_before names fs (e ∷ es) (i ∷ ks) cs ts h k = (exp_taken names fs e (Of (word_sort_of i)) h.0 (view_for i) (sort_of_view i), all_before names fs es ks cs ts h.1 k)
  all_before names fs [] (i ∷ ks) cs ts h k = absurd h
  all_before names fs (e ∷ es) [] cs ts h k = absurd h

  -- tests
  truth_there : (names : List Binder) (e : Exp) → is_truth (program_sort (g_in names) e) ≡ true → sort_of (g_in names) e ≡ truth_sort
  truth_there names e h = program_sort_inv (g_in names) e (Of TruthSort) (truth_inv (program_sort (g_in names) e) h)

  test_taken : (names : List Binder) (fs : List Fact) (e : Exp) → is_truth (program_sort (g_in names) e) ≡ true → Accepts (table ctx) (E names fs e truth).tree (expression (at_point fs names) e truth (E names fs e truth).right)
  test_taken names fs e h = exp_taken names fs e (Of TruthSort) (truth_there names e h) truth refl

  -- a loop's guard
  abbrev GA : List Binder → List Fact → Exp → Abstracted
  GA names fs e = guard_at same numbers ctx names fs e

  whole_taken : (names : List Binder) (fs : List Fact) (e : Exp) → sort_of (g_in names) e ≡ truth_sort → Accepts (table ctx) (E names fs e truth).tree (expression (at_point fs names) e truth (E names fs e truth).right)
  whole_taken names fs e q = exp_taken names fs e (Of TruthSort) q truth refl

  guard_at_taken : (names : List Binder) (fs : List Fact) (e : Exp) → sort_of (g_in names) e ≡ truth_sort → Accepts (table ctx) (GA names fs e).tree (expression (at_point fs names) e truth (GA names fs e).right)
  guard_at_taken names fs (X.And a b) q =
      let g = g_in names in
      let r = and_parts (is_truth (sort_of g a)) (is_truth (sort_of g b)) (where_inv (is_truth (sort_of g a) && is_truth (sort_of g b)) truth_sort (Of TruthSort) q).0 in
      ((q, tt), (whole_taken names fs a (truth_inv (sort_of g a) r.0), (guard_at_taken names (Whole (E names fs a truth).right ∷ fs) b (truth_inv (sort_of g b) r.1), tt)))
  guard_at_taken names fs e q = whole_taken names fs e q

  -- names of starts
  restarted_names : (names : List Binder) (fs : List Fact) (xs : List Start) (ks : List Kind) → AllSorted (g_in names) (start_exps xs) ks → start_names (restarted xs (rights (Es names fs (start_exps xs) (views_for ks)))) ≡ start_names xs
  restarted_names names fs [] [] h = refl
  restarted_names names fs (x ∷ xs) (k ∷ ks) h = ap (λ ys. x.name ∷ ys) (restarted_names names fs xs ks h.1)
  restarted_names names fs [] (k ∷ ks) h = absurd h
  restarted_names names fs (x ∷ xs) [] h = absurd h

  restarted_exps : (names : List Binder) (fs : List Fact) (xs : List Start) (ks : List Kind) → AllSorted (g_in names) (start_exps xs) ks → start_exps (restarted xs (rights (Es names fs (start_exps xs) (views_for ks)))) ≡ rights (Es names fs (start_exps xs) (views_for ks))
  restarted_exps names fs [] [] h = refl
  restarted_exps names fs (x ∷ xs) (k ∷ ks) h = ap (λ es. (E names fs x.exp (view_for k)).right ∷ es) (restarted_exps names fs xs ks h.1)
  restarted_exps names fs [] (k ∷ ks) h = absurd h
  restarted_exps names fs (x ∷ xs) [] h = absurd h

  -- places
  abbrev PA : List Fact → List Binder → Mon → List Kind → AbstractedProgram
  PA fs names m ks = program_abstracted same numbers ctx table' fs names m ks

  abbrev IsTaken : List Fact → List Binder → Mon → List Kind → Type 0
  IsTaken fs names m ks = Accepts (table ctx) (PA fs names m ks).tree (program (at_point fs names) m (PA fs names m ks).right ks)

  abbrev IsSorted : List Binder → Mon → List Kind → Type 0
  IsSorted names m ks = scalars_given (words ctx names) m ≡ Some (map word_sort_of ks)

  none_given : (b : Bool) (ks : List Kind) → where_fits b (Some []) ≡ Some (map word_sort_of ks) → (b ≡ true) × (ks ≡ [])
  none_given true [] h = (refl, refl)
  none_given _ _ h = absurd cc

  guard_taken : (fs : List Fact) (names : List Binder) (e : Exp) (ks : List Kind) → IsSorted names (M.Guard e) ks → IsTaken fs names (M.Guard e) ks
  guard_taken fs names e ks q =
      let r = none_given (is_truth (program_sort (g_in names) e)) ks q in
      subst (λ z. IsTaken fs names (M.Guard e) z) (sym r.1) (tt, (test_taken names fs e r.0, tt))

  -- a root with a path, and what is written there
  root_sorted : (names : List Binder) (t : CType) (p : Exp) (path : Path) (s : Sort) → typed_place (g_in names) t p path ≡ Some s →
      (sort_of (g_in names) p ≡ Some (Of (WordSort (address_width ctx.layout.target)))) × AllNumbers ctx names same is_same numbers path
  root_sorted names t p path s h =
      let r = if_inv (is_object ctx.layout t && is_word_of (address_width ctx.layout.target) (program_sort (g_in names) p)) (part_place (g_in names) t path) s h in
      let d = and_parts (is_object ctx.layout t) (is_word_of (address_width ctx.layout.target) (program_sort (g_in names) p)) r.0 in
      let w = part_there (g_in names) t path s r.1 in (
        program_sort_inv (g_in names) p (Of (WordSort (address_width ctx.layout.target))) (word_of_inv (address_width ctx.layout.target) (program_sort (g_in names) p) d.1),
        all_numbers ctx names same is_same numbers path (shape_of ctx.layout t) w.0 w.1,
      )

  global_sorted : (names : List Binder) (o : Option CType) (path : Path) (s : Sort) → global_place (g_in names) o path ≡ Some s → AllNumbers ctx names same is_same numbers path
  global_sorted names None path s h = absurd cc
  global_sorted names (Some t) path s h =
      let r = if_inv (is_object ctx.layout t) (part_place (g_in names) t path) s h in
      let w = part_there (g_in names) t path s r.1 in all_numbers ctx names same is_same numbers path (shape_of ctx.layout t) w.0 w.1

  write_taken : (fs : List Fact) (names : List Binder) (place : Place) (e : Exp) → (s : Sort) → place_sort (g_in names) place ≡ Some s → sort_of (g_in names) e ≡ Some s → IsTaken fs names (M.Write place e) []
  write_taken fs names (M.Stored t p path) e s h q =
      let r = root_sorted names t p path s h in
      let y = E names fs e (own (g_in names) e) in (
        ap (λ z. M.Stored t hole z) (path_head_kept ctx names same is_same numbers (among fs) path (one y)),
        (
          exp_taken names fs p (Of (WordSort (address_width ctx.layout.target))) r.0 (own (g_in names) p) r.0,
          indices_before ctx names same is_same numbers (among fs) path r.1 (e ∷ []) (y.right ∷ []) (one y) (exp_taken names fs e s q (own (g_in names) e) q, tt),
        ),
      )
  write_taken fs names (M.Written t p path) e s h q =
      let r = root_sorted names t p path s h in
      let y = E names fs e (own (g_in names) e) in (
        ap (λ z. M.Written t hole z) (path_head_kept ctx names same is_same numbers (among fs) path (one y)),
        (
          exp_taken names fs p (Of (WordSort (address_width ctx.layout.target))) r.0 (own (g_in names) p) r.0,
          indices_before ctx names same is_same numbers (among fs) path r.1 (e ∷ []) (y.right ∷ []) (one y) (exp_taken names fs e s q (own (g_in names) e) q, tt),
        ),
      )
  write_taken fs names (M.Global x path) e s h q =
      let y = E names fs e (own (g_in names) e) in (
        ap (λ z. M.Global x z) (path_head_kept ctx names same is_same numbers (among fs) path (one y)),
        indices_before ctx names same is_same numbers (among fs) path (global_sorted names (global_type ctx.globals x) path s h) (e ∷ []) (y.right ∷ []) (one y) (exp_taken names fs e s q (own (g_in names) e) q, tt),
      )

  place_written : (fs : List Fact) (names : List Binder) (place : Place) (e : Exp) (ks : List Kind) → IsSorted names (M.Write place e) ks → IsTaken fs names (M.Write place e) ks
  place_written fs names place e ks q =
      let r = none_given (fits_place (place_sort (g_in names) place) (program_sort (g_in names) e)) ks q in
      let f = fits_there (place_sort (g_in names) place) (program_sort (g_in names) e) r.0 in
      subst (λ z. IsTaken fs names (M.Write place e) z) (sym r.1) (write_taken fs names place e f.0 f.1 (program_sort_inv (g_in names) e f.0 f.2))

  one_given : (b : Bool) (c : Scalar) (ks : List Kind) → where_fits b (Some (c ∷ [])) ≡ Some (map word_sort_of ks) → (k : Kind) × (ks ≡ k ∷ []) × (c ≡ word_sort_of k)
  one_given true c (k ∷ []) h = (k, refl, ap (first_of c) (some_is h))
    where
      first_of : Scalar → List Scalar → Scalar
      first_of d [] = d
      first_of d (x ∷ xs) = x
  one_given _ c _ h = absurd cc

  pick_one : (fs : List Fact) (names : List Binder) (j k : Kind) → sort_of_kind j ≡ word_sort_of k → IsTaken fs names (M.Pick j) (k ∷ [])
  pick_one fs names (WordKind n) (WordKind m) h = let e : n ≡ m = cc in ((refl, ap (λ i. WordKind i ∷ []) (sym e), refl), tt)
  pick_one fs names (WordKind n) (NatKind m) h = let e : n ≡ m = cc in ((refl, ap (λ i. NatKind i ∷ []) (sym e)), tt)
  pick_one fs names (WordKind n) (IntKind m) h = let e : n ≡ m = cc in ((refl, ap (λ i. IntKind i ∷ []) (sym e)), tt)
  pick_one fs names BoolKind BoolKind h = ((refl, refl, refl), tt)
  pick_one fs names (NatKind n) (WordKind m) h = absurd cc
  pick_one fs names (IntKind n) (WordKind m) h = absurd cc
  pick_one fs names _ _ h = absurd cc

  pick_taken : (fs : List Fact) (names : List Binder) (j : Kind) (ks : List Kind) → IsSorted names (M.Pick j) ks → IsTaken fs names (M.Pick j) ks
  pick_taken fs names j ks q = let r = one_given (is_kind j) (sort_of_kind j) ks q in subst (λ z. IsTaken fs names (M.Pick j) z) (sym r.1) (pick_one fs names j r.0 r.2)

  -- calls
  abbrev called : List Fact → List Binder → Name → List Exp → List Kind → Option Signature → AbstractedProgram
  called fs names f es ks s = let xs = Es names fs es (views_for (kinds_taken s)) in
      recast_to (same_kinds (kinds_given s) ks) (kinds_given s) ks (record { right = M.Call f (rights xs); tree = node R.Call (trees_before xs no_trees) })

  call_taken : (fs : List Fact) (names : List Binder) (f : Name) (es : List Exp) (ks : List Kind) (o : Option Signature) → signature ctx.functions f ≡ o → call_scalars word_sort_of o (scalars_of (g_in names) es) ≡ Some (map word_sort_of ks) →
      Accepts (table ctx) (called fs names f es ks o).tree (program (at_point fs names) (M.Call f es) (called fs names f es ks o).right ks)
  call_taken fs names f es ks None e q = absurd cc
  call_taken fs names f es ks (Some g) e q =
      let r = call_inv g (scalars_of (g_in names) es) (map word_sort_of ks) q in
      let s = all_sorted (g_in names) es (kinds_of g.params) r.0 in
      let xs = Es names fs es (views_for (kinds_of g.params)) in
      let js = result_as_list g.result in
      recast_taken ctx (at_point fs names) (M.Call f es) g.result ks (record { right = M.Call f (rights xs); tree = node R.Call (trees_before xs no_trees) }) (same_kinds js ks) refl (result_sorts g.result ∙ r.1) (
        (refl, subst (λ o. (call_row o (at_point fs names) es (rights xs) js).holds) (sym e) (refl, matched names fs es (kinds_of g.params) s)),
        subst (λ o. AcceptsAll (table ctx) (trees_before xs no_trees) (call_row o (at_point fs names) es (rights xs) js).parts) (sym e) (all_taken names fs es (kinds_of g.params) s),
      )

  -- what is left of a loop after its starts
  abbrev inner_trees : List Fact → List Binder → List Start → Exp → Exp → Mon → List Kind → Trees Rule
  inner_trees fs names starts guard test m ks =
      let inner = with_kinds (start_names starts) ks names in
      let c = GA inner [] guard in
      let t = E inner (Whole c.right ∷ []) test truth in
      let a = PA (Whole t.right ∷ Whole c.right ∷ []) inner m ks in tree c.tree (tree t.tree (tree a.tree no_trees))

  abbrev inner_claims : List Fact → List Binder → List Start → Exp → Exp → Mon → List Kind → List Claim
  inner_claims fs names starts guard test m ks =
      let inner = with_kinds (start_names starts) ks names in
      let c = GA inner [] guard in
      let t = E inner (Whole c.right ∷ []) test truth in
      let a = PA (Whole t.right ∷ Whole c.right ∷ []) inner m ks in
      expression (record { facts = []; names = inner }) guard truth c.right
      ∷ expression (record { facts = Whole c.right ∷ []; names = inner }) test truth t.right
      ∷ program (record { facts = Whole t.right ∷ Whole c.right ∷ []; names = inner }) m a.right ks ∷ []

  abbrev PA_trees : List Fact → List Binder → List Start → Exp → Exp → Mon → List Kind → Trees Rule
  PA_trees fs names starts guard test m ks = trees_before (Es names fs (start_exps starts) (views_for ks)) (inner_trees fs names starts guard test m ks)

  pub program_taken : (fs : List Fact) (names : List Binder) (m : Mon) (ks : List Kind) → IsSorted names m ks → binds_words (words ctx names) m ≡ true → IsTaken fs names m ks
  program_taken fs names (M.Ret es) ks q b = let s = all_sorted (g_in names) es ks q in (matched names fs es ks s, all_taken names fs es ks s)
  program_taken fs names (M.Guard e) ks q b = guard_taken fs names e ks q
  program_taken fs names (M.Write place e) ks q b = place_written fs names place e ks q
  program_taken fs names (M.Pick k) ks q b = pick_taken fs names k ks q
  program_taken fs names (M.Call f es) ks q b = call_taken fs names f es ks (signature ctx.functions f) refl q
  program_taken fs names (M.If e m n) ks q b =
      let r = then_inv (scalars_given (words ctx names) m) (λ ss. where_fits (is_truth (program_sort (g_in names) e) && are_scalars ss (scalars_given (words ctx names) n)) (Some ss)) (map word_sort_of ks) q in
      let f = fits_inv (is_truth (program_sort (g_in names) e) && are_scalars r.0 (scalars_given (words ctx names) n)) (Some r.0) (map word_sort_of ks) r.2 in
      let d = and_parts (is_truth (program_sort (g_in names) e)) (are_scalars r.0 (scalars_given (words ctx names) n)) f.0 in
      let c = and_parts (binds_words (words ctx names) m) (binds_words (words ctx names) n) b in
      let x = E names fs e truth in (
        tt,
        (
          test_taken names fs e d.0,
          (
            program_taken (Whole x.right ∷ fs) names m ks (r.1 ∙ f.1) c.0,
            (program_taken (NotTrue x.right ∷ fs) names n ks (are_inv r.0 (scalars_given (words ctx names) n) d.1 ∙ f.1) c.1, tt),
          ),
        ),
      )
  program_taken fs names (M.Bind m xs n) ks q b =
      let t = words ctx names in
      let r = then_inv (scalars_given t m) (λ ss. where_fits (one_for_each xs ss && are_distinct xs) (scalars_given (setting_with xs ss t) n)) (map word_sort_of ks) q in
      let f = fits_inv (one_for_each xs r.0 && are_distinct xs) (scalars_given (setting_with xs r.0 t) n) (map word_sort_of ks) r.2 in
      let cs = scalars_there (scalars_given t m) in
      let js = kinds_for table' xs cs in
      let c = and_parts (are_words_or_truths cs && binds_words t m) (binds_words (setting_with xs cs t) n) b in
      let d = and_parts (are_words_or_truths cs) (binds_words t m) c.0 in
      let sorts = kinds_for_sorts table' xs cs d.0 in
      let qm : scalars_given (words ctx names) m ≡ Some (map word_sort_of (kinds_for table' xs (scalars_there (scalars_given (words ctx names) m)))) = r.1 ∙ ap (λ z. Some z) (sym (sorts ∙ ap scalars_there r.1)) in
      let after = setting_after word_sort_of ctx xs js names in
      let a = PA fs names m js in (
        refl,
        (
          program_taken fs names m js qm d.1,
          (
            program_taken (facts_after a.right xs fs) (with_kinds xs js names) n ks
                (sym (ap (λ s. scalars_given s n) after) ∙ ap (λ ss. scalars_given (setting_with xs ss t) n) (sorts ∙ ap scalars_there r.1) ∙ f.1)
                (sym (ap (λ s. binds_words s n) after) ∙ ap (λ ss. binds_words (setting_with xs ss t) n) sorts ∙ c.1),
            tt,
          ),
        ),
      )
  program_taken fs names (M.Loop starts guard test m) ks q b =
      let t = words ctx names in
      let xs = start_names starts in
      let r = then_inv (start_scalars t.scope starts) (λ ss. let inner = setting_with xs ss t in
      where_fits (are_distinct xs && is_truth (program_sort inner.scope guard) && is_truth (program_sort inner.scope test) && are_scalars ss (scalars_given inner m)) (Some ss)) (map word_sort_of ks) q in
      let inner = setting_with xs r.0 t in
      let f = fits_inv (are_distinct xs && is_truth (program_sort inner.scope guard) && is_truth (program_sort inner.scope test) && are_scalars r.0 (scalars_given inner m)) (Some r.0) (map word_sort_of ks) r.2 in
      let same_scalars : r.0 ≡ map word_sort_of ks = some_is f.1 in
      let here : setting_with xs r.0 t ≡ words ctx (with_kinds xs ks names) = ap (λ ss. setting_with xs ss t) same_scalars ∙ setting_after word_sort_of ctx xs ks names in
      let d = and_parts (are_distinct xs && is_truth (program_sort inner.scope guard) && is_truth (program_sort inner.scope test)) (are_scalars r.0 (scalars_given inner m)) f.0 in
      let e = and_parts (are_distinct xs && is_truth (program_sort inner.scope guard)) (is_truth (program_sort inner.scope test)) d.0 in
      let h = and_parts (are_distinct xs) (is_truth (program_sort inner.scope guard)) e.0 in
      let qs = r.1 ∙ f.1 in
      let s = starts_sorted t.scope starts ks qs in
      let names' = with_kinds xs ks names in
      let c = GA names' [] guard in
      let u = E names' (Whole c.right ∷ []) test truth in
      let rest : AcceptsAll (table ctx) (inner_trees fs names starts guard test m ks) (inner_claims fs names starts guard test m ks) = (
        guard_at_taken names' [] guard (truth_there names' guard (sym (ap (λ z. is_truth (program_sort z.scope guard)) here) ∙ h.1)),
        (
          test_taken names' (Whole c.right ∷ []) test (sym (ap (λ z. is_truth (program_sort z.scope test)) here) ∙ e.1),
          (
            program_taken (Whole u.right ∷ Whole c.right ∷ []) names' m ks (sym (ap (λ z. scalars_given z m) here) ∙ are_inv r.0 (scalars_given inner m) d.1 ∙ f.1)
                (sym (ap (λ z. binds_words z m) here) ∙ ap (λ o. binds_words (setting_with xs o t) m) (ap scalars_there (sym r.1)) ∙ b),
            tt,
          ),
        ),
      ) in (
        (restarted_names names fs starts ks s, refl, subst (λ es. AreMatched (start_exps starts) ks es) (sym (restarted_exps names fs starts ks s)) (matched names fs (start_exps starts) ks s)),
        subst (λ es. AcceptsAll (table ctx) (PA_trees fs names starts guard test m ks) (each (at_point fs names) (start_exps starts) (views_for ks) es ++ inner_claims fs names starts guard test m ks)) (sym (restarted_exps names fs starts ks s))
            (all_before names fs (start_exps starts) ks (inner_claims fs names starts guard test m ks) (inner_trees fs names starts guard test m ks) s rest),
      )
