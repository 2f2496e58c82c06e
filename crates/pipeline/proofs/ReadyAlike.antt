-- An expression is ready alike in scopes that agree on its names, and by facts that give the same ranges.
use Rattle.std.proofs.Common.{◌≡◌, Bool, true, ◌&&◌, ◌||◌, List, Option, refl, ap, ap₂}
use Rattle.c_values.specs.Name.{Name}
use Rattle.c_values.specs.Types.{CType}
use Rattle.c_values.specs.Layout.{Layout}
use Rattle.expression_lang.specs.Expression as X
use Rattle.expression_lang.specs.Expression.{Exp, Path}
use Rattle.expression_lang.specs.Form.{is_arithmetic, is_negation}
use Rattle.expression_lang.specs.Mentions.{names as names_it}
use Rattle.expression_lang.specs.Sort.{Scalar, Scope}
use Rattle.expression_lang.specs.Signature.{Binder}
use Rattle.simpl_lang.specs.Names.{path_names}
use Rattle.ac_expr.specs.Fact.{Whole, NotTrue}
use Rattle.monad_lang.specs.Agree.{AgreeOn}
use Rattle.monad_lang.proofs.Agreeing.{agree_left, agree_right}
use Rattle.monad_lang.proofs.AgreeingSorts.{in_scope}
use Rattle.rule_word.specs.Table.{truth}
use Rattle.rule_word.specs.Bases.{Surroundings, under}
use Rattle.rule_word.specs.WordsAbstracted.{abstracted}
use Rattle.rule_word.specs.Ready.{is_exact, ready, path_ready}
use Rattle.pipeline.proofs.AlikeSettings.{AreAlike, under_alike, alike, binary_by, unary_by}

module _ (same : Exp → Exp → Bool) (l : Layout) (gs : Name → Option CType) (ms ns : Name → Option Scalar)
    (names : List Binder) where
  abbrev g : Scope
  g = in_scope l gs ms

  abbrev g' : Scope
  g' = in_scope l gs ns

  abbrev Agree : (Name → Bool) → Type 0
  Agree test = AgreeOn test ms ns

  abbrev OnExp : Exp → Type 0
  OnExp e = Agree (λ y. names_it y e)

  abbrev test : Surroundings → Exp → Exp
  test k e = (abstracted same true g names k e truth).right

  abbrev test' : Surroundings → Exp → Exp
  test' k e = (abstracted same true g' names k e truth).right

  same_test : (e : Exp) → OnExp e → (k k' : Surroundings) → AreAlike same k k' → test k e ≡ test' k' e
  same_test e h k k' i = ap (λ x. x.right) (alike same l gs ms ns names e h k k' i truth)

  yes : (e : Exp) → OnExp e → (k k' : Surroundings) → AreAlike same k k' →
      AreAlike same (under (Whole (test k e)) k) (under (Whole (test' k' e)) k')
  yes e h k k' i = under_alike same k k' i _ _ (ap (λ x. Whole x) (same_test e h k k' i))

  no' : (e : Exp) → OnExp e → (k k' : Surroundings) → AreAlike same k k' →
      AreAlike same (under (NotTrue (test k e)) k) (under (NotTrue (test' k' e)) k')
  no' e h k k' i = under_alike same k k' i _ _ (ap (λ x. NotTrue x) (same_test e h k k' i))

  left : (p q : Name → Bool) → Agree (λ y. p y || q y) → Agree p
  left p q h = agree_left p q ms ns h

  right : (p q : Name → Bool) → Agree (λ y. p y || q y) → Agree q
  right p q h = agree_right p q ms ns h

  on_left : (a b : Exp) → Agree (λ y. names_it y a || names_it y b) → OnExp a
  on_left a b h = left (λ y. names_it y a) (λ y. names_it y b) h

  on_right : (a b : Exp) → Agree (λ y. names_it y a || names_it y b) → OnExp b
  on_right a b h = right (λ y. names_it y a) (λ y. names_it y b) h

  abbrev ReadyAlike : Exp → Surroundings → Surroundings → Type 0
  ReadyAlike e k k' = ready same true g names k e ≡ ready same true g' names k' e

  both : (a b : Exp) → Agree (λ y. names_it y a || names_it y b) → (k k' : Surroundings) → (OnExp a → ReadyAlike a k k') →
      (OnExp b → ReadyAlike b k k') →
      (ready same true g names k a && ready same true g names k b)
      ≡ (ready same true g' names k' a && ready same true g' names k' b)
  both a b h k k' i j = ap₂ (λ x y. x && y) (i (on_left a b h)) (j (on_right a b h))

  mutual
    pub ready_alike : (e : Exp) → AgreeOn (λ y. names_it y e) ms ns → (k k' : Surroundings) → AreAlike same k k' →
        ready same true (in_scope l gs ms) names k e ≡ ready same true (in_scope l gs ns) names k' e
    ready_alike (X.WordBinary op a b) h k k' i =
        let ha = on_left a b h in
        let hb = on_right a b h in
        ap₂ (λ x y. x && y) (ap₂ (λ c r. is_exact true (is_arithmetic op) c && r)
        (binary_by same l gs ms ns names op a b h k k' i (λ v. alike same l gs ms ns names a ha k k' i v)
        (λ v. alike same l gs ms ns names b hb k k' i v)) (ready_alike a ha k k' i)) (ready_alike b hb k k' i)
    ready_alike (X.WordShift op a n) h k k' i = both a n h k k' (λ j. ready_alike a j k k' i) (λ j. ready_alike n j k k' i)
    ready_alike (X.WordUnary op a) h k k' i =
        ap₂ (λ c r. is_exact true (is_negation op) c && r)
        (unary_by same l gs ms ns names op a h k k' i (λ v. alike same l gs ms ns names a h k k' i v)) (ready_alike a h k k' i)
    ready_alike (X.WordCompare o a b) h k k' i = both a b h k k' (λ j. ready_alike a j k k' i) (λ j. ready_alike b j k k' i)
    ready_alike (X.Cast op m a) h k k' i = ready_alike a h k k' i
    ready_alike (X.ToNat a) h k k' i = ready_alike a h k k' i
    ready_alike (X.ToInt a) h k k' i = ready_alike a h k k' i
    ready_alike (X.ToWord m a) h k k' i = ready_alike a h k k' i
    ready_alike (X.Arith op a b) h k k' i = both a b h k k' (λ j. ready_alike a j k k' i) (λ j. ready_alike b j k k' i)
    ready_alike (X.Negate a) h k k' i = ready_alike a h k k' i
    ready_alike (X.Lt a b) h k k' i = both a b h k k' (λ j. ready_alike a j k k' i) (λ j. ready_alike b j k k' i)
    ready_alike (X.Le a b) h k k' i = both a b h k k' (λ j. ready_alike a j k k' i) (λ j. ready_alike b j k k' i)
    ready_alike (X.Between low a high) h k k' i = ready_alike a h k k' i
    ready_alike (X.Eq a b) h k k' i = both a b h k k' (λ j. ready_alike a j k k' i) (λ j. ready_alike b j k k' i)
    ready_alike (X.And a b) h k k' i =
        ap₂ (λ x y. x && y) (ready_alike a (on_left a b h) k k' i)
        (ready_alike b (on_right a b h) _ _ (yes a (on_left a b h) k k' i))
    ready_alike (X.Or a b) h k k' i =
        ap₂ (λ x y. x && y) (ready_alike a (on_left a b h) k k' i)
        (ready_alike b (on_right a b h) _ _ (no' a (on_left a b h) k k' i))
    ready_alike (X.Imp a b) h k k' i =
        ap₂ (λ x y. x && y) (ready_alike a (on_left a b h) k k' i)
        (ready_alike b (on_right a b h) _ _ (yes a (on_left a b h) k k' i))
    ready_alike (X.Not a) h k k' i = ready_alike a h k k' i
    ready_alike (X.If c a b) h k k' i =
        let p = left (λ y. names_it y c || names_it y a) (λ y. names_it y b) h in
        let hb = right (λ y. names_it y c || names_it y a) (λ y. names_it y b) h in
        let hc = on_left c a p in
        ap₂ (λ x y. x && y) (ap₂ (λ x y. x && y) (ready_alike c hc k k' i) (ready_alike a (on_right c a p) _ _ (yes c hc k k' i)))
        (ready_alike b hb _ _ (no' c hc k k' i))
    ready_alike (X.Padd t p n) h k k' i = both p n h k k' (λ j. ready_alike p j k k' i) (λ j. ready_alike n j k k' i)
    ready_alike (X.At t p path) h k k' i =
        ap₂ (λ x y. x && y) (ready_alike p (left (λ y. names_it y p) (λ y. path_names y path) h) k k' i)
        (paths_alike path (right (λ y. names_it y p) (λ y. path_names y path) h) k k' i)
    ready_alike (X.Load t p path) h k k' i =
        ap₂ (λ x y. x && y) (ready_alike p (left (λ y. names_it y p) (λ y. path_names y path) h) k k' i)
        (paths_alike path (right (λ y. names_it y p) (λ y. path_names y path) h) k k' i)
    ready_alike (X.Read t p path) h k k' i =
        ap₂ (λ x y. x && y) (ready_alike p (left (λ y. names_it y p) (λ y. path_names y path) h) k k' i)
        (paths_alike path (right (λ y. names_it y p) (λ y. path_names y path) h) k k' i)
    ready_alike (X.Tagged t p) h k k' i = ready_alike p h k k' i
    ready_alike (X.PtrOk t p) h k k' i = ready_alike p h k k' i
    ready_alike (X.Global x path) h k k' i = paths_alike path h k k' i
    ready_alike (X.Sel e path) h k k' i =
        ap₂ (λ x y. x && y) (ready_alike e (left (λ y. names_it y e) (λ y. path_names y path) h) k k' i)
        (paths_alike path (right (λ y. names_it y e) (λ y. path_names y path) h) k k' i)
    ready_alike (X.Upd e path d) h k k' i =
        let p = left (λ y. names_it y e || path_names y path) (λ y. names_it y d) h in
        let hd = right (λ y. names_it y e || path_names y path) (λ y. names_it y d) h in
        ap₂ (λ x y. x && y)
        (ap₂ (λ x y. x && y) (ready_alike e (left (λ y. names_it y e) (λ y. path_names y path) p) k k' i)
        (paths_alike path (right (λ y. names_it y e) (λ y. path_names y path) p) k k' i))
        (ready_alike d hd k k' i)
    ready_alike _ _ _ _ _ = refl

    pub paths_alike : (path : Path) → AgreeOn (λ y. path_names y path) ms ns → (k k' : Surroundings) → AreAlike same k k' →
        path_ready same true (in_scope l gs ms) names k path ≡ path_ready same true (in_scope l gs ns) names k' path
    paths_alike X.Here h k k' i = refl
    paths_alike (X.IntoField n path) h k k' i = paths_alike path h k k' i
    paths_alike (X.IntoElement e path) h k k' i =
        ap₂ (λ x y. x && y) (ready_alike e (left (λ y. names_it y e) (λ y. path_names y path) h) k k' i)
        (paths_alike path (right (λ y. names_it y e) (λ y. path_names y path) h) k k' i)
