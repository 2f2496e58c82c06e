-- Where words stay words, every program is ready.
use Rattle.std.proofs.Common.{◌≡◌, Bool, true, false, ◌&&◌, List, [], ◌∷◌, Option, refl}
use Rattle.std.proofs.lemmas.Bool.{and_from}
use Rattle.c_values.specs.Name.{Name}
use Rattle.expression_lang.specs.Expression as X
use Rattle.expression_lang.specs.Expression.{Exp, Path}
use Rattle.expression_lang.specs.Sort.{Kind, Scope}
use Rattle.expression_lang.specs.Signature.{Binder}
use Rattle.ac_expr.specs.Fact.{Fact, Whole, NotTrue}
use Rattle.monad_lang.specs.Program as M
use Rattle.monad_lang.specs.Program.{Mon}
use Rattle.monad_lang.specs.Run.{start_names}
use Rattle.monad_lang.specs.Sorted.{scalars_given}
use Rattle.rule_word.specs.Rule.{Context}
use Rattle.program_facts.specs.Flow.{facts_after}
use Rattle.rule_word.specs.Scopes.{with_kinds, words}
use Rattle.rule_word.specs.Table.{truth}
use Rattle.rule_word.specs.ProgramsAbstracted.{kinds_for, scalars_there, exp_at, guard_at, program_abstracted}
use Rattle.rule_word.specs.Bases.{Surroundings, among}
use Rattle.rule_word.specs.Ready.{ready, path_ready, exp_ready, guard_ready, all_ready, starts_ready, place_ready, program_ready}

module _ (same : Exp → Exp → Bool) where
  module _ (g : Scope) (names : List Binder) where
    mutual
      pub exp_stays : (k : Surroundings) (e : Exp) → ready same false g names k e ≡ true
      exp_stays k (X.WordBinary op a b) = and_from _ _ (exp_stays k a) (exp_stays k b)
      exp_stays k (X.WordShift op a n) = and_from _ _ (exp_stays k a) (exp_stays k n)
      exp_stays k (X.WordUnary op a) = exp_stays k a
      exp_stays k (X.WordCompare test a b) = and_from _ _ (exp_stays k a) (exp_stays k b)
      exp_stays k (X.Cast op m a) = exp_stays k a
      exp_stays k (X.ToNat a) = exp_stays k a
      exp_stays k (X.ToInt a) = exp_stays k a
      exp_stays k (X.ToWord m a) = exp_stays k a
      exp_stays k (X.Arith op a b) = and_from _ _ (exp_stays k a) (exp_stays k b)
      exp_stays k (X.Negate a) = exp_stays k a
      exp_stays k (X.Lt a b) = and_from _ _ (exp_stays k a) (exp_stays k b)
      exp_stays k (X.Le a b) = and_from _ _ (exp_stays k a) (exp_stays k b)
      exp_stays k (X.Between low a high) = exp_stays k a
      exp_stays k (X.Eq a b) = and_from _ _ (exp_stays k a) (exp_stays k b)
      exp_stays k (X.And a b) = and_from _ _ (exp_stays k a) (exp_stays _ b)
      exp_stays k (X.Or a b) = and_from _ _ (exp_stays k a) (exp_stays _ b)
      exp_stays k (X.Imp a b) = and_from _ _ (exp_stays k a) (exp_stays _ b)
      exp_stays k (X.Not a) = exp_stays k a
      exp_stays k (X.If c a b) = and_from _ _ (and_from _ _ (exp_stays k c) (exp_stays _ a)) (exp_stays _ b)
      exp_stays k (X.Padd t p n) = and_from _ _ (exp_stays k p) (exp_stays k n)
      exp_stays k (X.At t p path) = and_from _ _ (exp_stays k p) (path_stays k path)
      exp_stays k (X.Load t p path) = and_from _ _ (exp_stays k p) (path_stays k path)
      exp_stays k (X.Read t p path) = and_from _ _ (exp_stays k p) (path_stays k path)
      exp_stays k (X.Tagged t p) = exp_stays k p
      exp_stays k (X.PtrOk t p) = exp_stays k p
      exp_stays k (X.Global x path) = path_stays k path
      exp_stays k (X.Sel e path) = and_from _ _ (exp_stays k e) (path_stays k path)
      exp_stays k (X.Upd e path v) = and_from _ _ (and_from _ _ (exp_stays k e) (path_stays k path)) (exp_stays k v)
      exp_stays _ _ = refl

      pub path_stays : (k : Surroundings) (path : Path) → path_ready same false g names k path ≡ true
      path_stays k X.Here = refl
      path_stays k (X.IntoField n path) = path_stays k path
      path_stays k (X.IntoElement e path) = and_from _ _ (exp_stays k e) (path_stays k path)

  module _ (ctx : Context) (table : Name → Option Kind) where
    there : (fs : List Fact) (names : List Binder) (e : Exp) → exp_ready same false ctx table fs names e ≡ true
    there fs names e = exp_stays (words ctx names).scope names (among fs) e

    guard_there : (fs : List Fact) (names : List Binder) (e : Exp) → guard_ready same false ctx table fs names e ≡ true
    guard_there fs names (X.And a b) =
        and_from _ _ (there fs names a) (guard_there (Whole (exp_at same false ctx names fs a truth).right ∷ fs) names b)
    guard_there fs names e = there fs names e

    all_there : (fs : List Fact) (names : List Binder) (es : List Exp) → all_ready same false ctx table fs names es ≡ true
    all_there fs names [] = refl
    all_there fs names (e ∷ es) = and_from _ _ (there fs names e) (all_there fs names es)

    starts_there : (fs : List Fact) (names : List Binder) (xs : List M.Start) →
        starts_ready same false ctx table fs names xs ≡ true
    starts_there fs names [] = refl
    starts_there fs names (x ∷ xs) = and_from _ _ (there fs names x.exp) (starts_there fs names xs)

    place_there : (fs : List Fact) (names : List Binder) (place : M.Place) →
        place_ready same false ctx table fs names place ≡ true
    place_there fs names (M.Stored t p path) =
        and_from _ _ (there fs names p) (path_stays (words ctx names).scope names (among fs) path)
    place_there fs names (M.Written t p path) =
        and_from _ _ (there fs names p) (path_stays (words ctx names).scope names (among fs) path)
    place_there fs names (M.Global x path) = path_stays (words ctx names).scope names (among fs) path

    pub program_stays : (fs : List Fact) (names : List Binder) (m : Mon) (ks : List Kind) →
        program_ready same false ctx table fs names m ks ≡ true
    program_stays fs names (M.Ret es) ks = all_there fs names es
    program_stays fs names (M.Bind m xs n) ks =
        let js = kinds_for table xs (scalars_there (scalars_given (words ctx names) m)) in
        let a = program_abstracted same false ctx table fs names m js in
        and_from (program_ready same false ctx table fs names m js)
        (program_ready same false ctx table (facts_after a.right xs fs) (with_kinds xs js names) n ks)
        (program_stays fs names m js) (program_stays (facts_after a.right xs fs) (with_kinds xs js names) n ks)
    program_stays fs names (M.Guard e) ks = there fs names e
    program_stays fs names (M.If e m n) ks =
        let x = exp_at same false ctx names fs e truth in
        and_from (exp_ready same false ctx table fs names e && program_ready same false ctx table (Whole x.right ∷ fs) names m ks)
        (program_ready same false ctx table (NotTrue x.right ∷ fs) names n ks)
        (and_from (exp_ready same false ctx table fs names e) (program_ready same false ctx table (Whole x.right ∷ fs) names m ks)
        (there fs names e) (program_stays (Whole x.right ∷ fs) names m ks)) (program_stays (NotTrue x.right ∷ fs) names n ks)
    program_stays fs names (M.Write place e) ks = and_from _ _ (place_there fs names place) (there fs names e)
    program_stays fs names (M.Loop starts guard test m) ks =
        let inner = with_kinds (start_names starts) ks names in
        let c = guard_at same false ctx inner [] guard in
        let t = exp_at same false ctx inner (Whole c.right ∷ []) test truth in
        let begins = starts_ready same false ctx table fs names starts in
        let guarded = guard_ready same false ctx table [] inner guard in
        let tested = exp_ready same false ctx table (Whole c.right ∷ []) inner test in
        let turned = program_ready same false ctx table (Whole t.right ∷ Whole c.right ∷ []) inner m ks in
        and_from (begins && guarded && tested) turned
        (and_from (begins && guarded) tested (and_from begins guarded (starts_there fs names starts) (guard_there [] inner guard))
        (there (Whole c.right ∷ []) inner test))
        (program_stays (Whole t.right ∷ Whole c.right ∷ []) inner m ks)
    program_stays fs names (M.Call f es) ks = all_there fs names es
    program_stays fs names (M.Pick k) ks = refl
