-- What makes a program simpler keeps its form: where no expression of the left side has a subexpression that passes a test of heads, and no
-- write a place that passes one, none of the right side has.
use Rattle.std.proofs.Common.{◌≡◌, ℕ, zero, suc, Bool, true, false, cond, ◌||◌, List, [], ◌∷◌, map, Option, Some, None, unwrap_or, ◌⊎◌, inl, inr, refl, sym, ap, ◌∙◌, subst}
use Rattle.std.proofs.lemmas.Bool.{or_parts, or_from}
use Rattle.c_values.specs.Name.{Name, same_name, is_among}
use Rattle.expression_lang.specs.Expression.{Exp, Var, TruthLit, WordBinary, WordShift, WordUnary, WordCompare, Cast, ToNat, ToInt, ToWord, Arith, Negate, Lt, Le, Between, Eq, And, Or, Imp, Not, If, Padd, At, Load, Read, Tagged, PtrOk, Global, Sel, Upd, Path, Here, IntoField, IntoElement}
use Rattle.expression_lang.specs.Form.{has, path_has}
use Rattle.ac_expr.specs.Substituted.{substituted, path_substituted}
use Rattle.ac_expr.specs.Heads.{head, hole}
use Rattle.monad_lang.specs.Program as M
use Rattle.monad_lang.specs.Program.{Mon, Place, Start}
use Rattle.monad_lang.specs.Form.{some_has, start_has, place_has, program_has}
use Rattle.monad_lang.specs.Run.{start_names}
use Rattle.program_facts.specs.Substituted.{each_substituted, starts_substituted, place_substituted, program_substituted}
use Rattle.program_facts.specs.Places.{place_head}
use Rattle.rule_eq.specs.Rule as R
use Rattle.rule_eq.specs.Rule.{Rule, Point}
use Rattle.rule_eq.specs.Table.{Taken, before, taken_at, with_values, AreTaken, row}
use Rattle.rule_eq.specs.Tidy.{Simplifies}
use Rattle.rule_eq.proofs.PutIn.{some_taken}
use Rattle.rule_eq.proofs.SubstitutedRuns.{path_head_put, place_head_put}

-- tests that look at heads alone
module _ (test : Exp → Bool) (place_test : Place → Bool) (alike : (a b : Exp) → head b ≡ head a → test b ≡ test a) (place_alike : (q q' : Place) → place_head q' ≡ place_head q → place_test q' ≡ place_test q) where
  module _ (x : Name) (e : Exp) (free : has test e ≡ false) where
    abbrev put : Exp → Exp
    put a = substituted x e a

    abbrev path_put : Path → Path
    path_put path = path_substituted x e path

    name_free : (y : Name) (b : Bool) → test (Var y) ≡ false → has test (unwrap_or (cond b (Some e) None) (Var y)) ≡ false
    name_free y true h = free
    name_free y false h = h

    -- of a head and its parts
    one_free : (t t' a a' : Bool) → t' ≡ t → (t || a) ≡ false → (a ≡ false → a' ≡ false) → (t' || a') ≡ false
    one_free t t' a a' e h k = let p = or_parts t a h in or_from t' a' (e ∙ p.0) (k p.1)

    two_free : (t t' a a' b b' : Bool) → t' ≡ t → ((t || a) || b) ≡ false → (a ≡ false → a' ≡ false) → (b ≡ false → b' ≡ false) → ((t' || a') || b') ≡ false
    two_free t t' a a' b b' e h k m = let p = or_parts (t || a) b h in or_from (t' || a') b' (one_free t t' a a' e p.0 k) (m p.1)

    three_free : (t t' a a' b b' c c' : Bool) → t' ≡ t → (((t || a) || b) || c) ≡ false → (a ≡ false → a' ≡ false) → (b ≡ false → b' ≡ false) → (c ≡ false → c' ≡ false) → (((t' || a') || b') || c') ≡ false
    three_free t t' a a' b b' c c' e h k m n = let p = or_parts ((t || a) || b) c h in or_from ((t' || a') || b') c' (two_free t t' a a' b b' e p.0 k m) (n p.1)

    mutual
      pub has_put : (a : Exp) → has test a ≡ false → has test (put a) ≡ false
      has_put (Var y) h = name_free y (same_name x y) h
      has_put (WordBinary op a b) h = two_free _ _ _ _ _ _ (alike (WordBinary op a b) (WordBinary op (put a) (put b)) refl) h (has_put a) (has_put b)
      has_put (WordShift op a b) h = two_free _ _ _ _ _ _ (alike (WordShift op a b) (WordShift op (put a) (put b)) refl) h (has_put a) (has_put b)
      has_put (WordCompare op a b) h = two_free _ _ _ _ _ _ (alike (WordCompare op a b) (WordCompare op (put a) (put b)) refl) h (has_put a) (has_put b)
      has_put (Arith op a b) h = two_free _ _ _ _ _ _ (alike (Arith op a b) (Arith op (put a) (put b)) refl) h (has_put a) (has_put b)
      has_put (Lt a b) h = two_free _ _ _ _ _ _ (alike (Lt a b) (Lt (put a) (put b)) refl) h (has_put a) (has_put b)
      has_put (Le a b) h = two_free _ _ _ _ _ _ (alike (Le a b) (Le (put a) (put b)) refl) h (has_put a) (has_put b)
      has_put (Eq a b) h = two_free _ _ _ _ _ _ (alike (Eq a b) (Eq (put a) (put b)) refl) h (has_put a) (has_put b)
      has_put (And a b) h = two_free _ _ _ _ _ _ (alike (And a b) (And (put a) (put b)) refl) h (has_put a) (has_put b)
      has_put (Or a b) h = two_free _ _ _ _ _ _ (alike (Or a b) (Or (put a) (put b)) refl) h (has_put a) (has_put b)
      has_put (Imp a b) h = two_free _ _ _ _ _ _ (alike (Imp a b) (Imp (put a) (put b)) refl) h (has_put a) (has_put b)
      has_put (Padd t a b) h = two_free _ _ _ _ _ _ (alike (Padd t a b) (Padd t (put a) (put b)) refl) h (has_put a) (has_put b)
      has_put (WordUnary op a) h = one_free _ _ _ _ (alike (WordUnary op a) (WordUnary op (put a)) refl) h (has_put a)
      has_put (Cast op width a) h = one_free _ _ _ _ (alike (Cast op width a) (Cast op width (put a)) refl) h (has_put a)
      has_put (ToNat a) h = one_free _ _ _ _ (alike (ToNat a) (ToNat (put a)) refl) h (has_put a)
      has_put (ToInt a) h = one_free _ _ _ _ (alike (ToInt a) (ToInt (put a)) refl) h (has_put a)
      has_put (ToWord width a) h = one_free _ _ _ _ (alike (ToWord width a) (ToWord width (put a)) refl) h (has_put a)
      has_put (Negate a) h = one_free _ _ _ _ (alike (Negate a) (Negate (put a)) refl) h (has_put a)
      has_put (Between low a high) h = one_free _ _ _ _ (alike (Between low a high) (Between low (put a) high) refl) h (has_put a)
      has_put (Not a) h = one_free _ _ _ _ (alike (Not a) (Not (put a)) refl) h (has_put a)
      has_put (Tagged t a) h = one_free _ _ _ _ (alike (Tagged t a) (Tagged t (put a)) refl) h (has_put a)
      has_put (PtrOk t a) h = one_free _ _ _ _ (alike (PtrOk t a) (PtrOk t (put a)) refl) h (has_put a)
      has_put (If c a b) h = three_free _ _ _ _ _ _ _ _ (alike (If c a b) (If (put c) (put a) (put b)) refl) h (has_put c) (has_put a) (has_put b)
      has_put (At t a path) h = two_free _ _ _ _ _ _ (alike (At t a path) (At t (put a) (path_put path)) (ap (λ w. At t hole w) (path_head_put x e path))) h (has_put a) (path_free path)
      has_put (Load t a path) h = two_free _ _ _ _ _ _ (alike (Load t a path) (Load t (put a) (path_put path)) (ap (λ w. Load t hole w) (path_head_put x e path))) h (has_put a) (path_free path)
      has_put (Read t a path) h = two_free _ _ _ _ _ _ (alike (Read t a path) (Read t (put a) (path_put path)) (ap (λ w. Read t hole w) (path_head_put x e path))) h (has_put a) (path_free path)
      has_put (Global y path) h = one_free _ _ _ _ (alike (Global y path) (Global y (path_put path)) (ap (λ w. Global y w) (path_head_put x e path))) h (path_free path)
      has_put (Sel a path) h = two_free _ _ _ _ _ _ (alike (Sel a path) (Sel (put a) (path_put path)) (ap (λ w. Sel hole w) (path_head_put x e path))) h (has_put a) (path_free path)
      has_put (Upd a path v) h = three_free _ _ _ _ _ _ _ _ (alike (Upd a path v) (Upd (put a) (path_put path) (put v)) (ap (λ w. Upd hole w hole) (path_head_put x e path))) h (has_put a) (path_free path) (has_put v)
      has_put _ h = h

      pub path_free : (path : Path) → path_has test path ≡ false → path_has test (path_put path) ≡ false
      path_free Here h = h
      path_free (IntoField k path) h = path_free path h
      path_free (IntoElement a path) h = let p = or_parts (has test a) (path_has test path) h in or_from (has test (put a)) (path_has test (path_put path)) (has_put a p.0) (path_free path p.1)

    each_free : (es : List Exp) → some_has test es ≡ false → some_has test (each_substituted x e es) ≡ false
    each_free [] h = h
    each_free (a ∷ as') h = let p = or_parts (has test a) (some_has test as') h in or_from (has test (put a)) (some_has test (each_substituted x e as')) (has_put a p.0) (each_free as' p.1)

    starts_free : (xs : List Start) → start_has test xs ≡ false → start_has test (starts_substituted x e xs) ≡ false
    starts_free [] h = h
    starts_free (a ∷ as') h = let p = or_parts (has test a.exp) (start_has test as') h in or_from (has test (put a.exp)) (start_has test (starts_substituted x e as')) (has_put a.exp p.0) (starts_free as' p.1)

    place_free : (q : Place) → place_has test q ≡ false → place_has test (place_substituted x e q) ≡ false
    place_free (M.Stored t a path) h = let p = or_parts (has test a) (path_has test path) h in or_from (has test (put a)) (path_has test (path_put path)) (has_put a p.0) (path_free path p.1)
    place_free (M.Written t a path) h = let p = or_parts (has test a) (path_has test path) h in or_from (has test (put a)) (path_has test (path_put path)) (has_put a p.0) (path_free path p.1)
    place_free (M.Global y path) h = path_free path h

    either : (b : Bool) (m n : Mon) → program_has test place_test m ≡ false → program_has test place_test n ≡ false → program_has test place_test (cond b m n) ≡ false
    either true m n h k = h
    either false m n h k = k

    pub program_free : (m : Mon) → program_has test place_test m ≡ false → program_has test place_test (program_substituted x e m) ≡ false
    program_free (M.Ret es) h = each_free es h
    program_free (M.Bind m xs n) h =
        let p = or_parts (program_has test place_test m) (program_has test place_test n) h in
        or_from (program_has test place_test (program_substituted x e m)) _ (program_free m p.0) (either (is_among x xs) n (program_substituted x e n) p.1 (program_free n p.1))
    program_free (M.Guard a) h = has_put a h
    program_free (M.If a m n) h =
        let p = or_parts (has test a || program_has test place_test m) (program_has test place_test n) h in
        let q = or_parts (has test a) (program_has test place_test m) p.0 in
        or_from (has test (put a) || program_has test place_test (program_substituted x e m)) (program_has test place_test (program_substituted x e n))
        (or_from (has test (put a)) (program_has test place_test (program_substituted x e m)) (has_put a q.0) (program_free m q.1)) (program_free n p.1)
    program_free (M.Write q a) h = two_free _ _ _ _ _ _ (place_alike q (place_substituted x e q) (place_head_put x e q)) h (place_free q) (has_put a)
    program_free (M.Loop starts guard test' m) h =
        let p = or_parts (start_has test starts || has test guard || has test test') (program_has test place_test m) h in
        let q = or_parts (start_has test starts || has test guard) (has test test') p.0 in
        let r = or_parts (start_has test starts) (has test guard) q.0 in
        let s = starts_free starts r.0 in
        either (is_among x (start_names starts)) (M.Loop (starts_substituted x e starts) guard test' m) (M.Loop (starts_substituted x e starts) (put guard) (put test') (program_substituted x e m))
        (or_from _ (program_has test place_test m) (or_from _ (has test test') (or_from _ (has test guard) s r.1) q.1) p.1)
        (or_from _ (program_has test place_test (program_substituted x e m)) (or_from _ (has test (put test')) (or_from _ (has test (put guard)) s (has_put guard r.1)) (has_put test' q.1)) (program_free m p.1))
    program_free (M.Call f es) h = each_free es h
    program_free (M.Pick k) h = h

  -- rows

  abbrev Free : Mon → Type 0
  Free m = program_has test place_test m ≡ false

  record TakenFree (k : Taken) : Type 0 where
    pub exp : has test k.exp ≡ false
    pub exps : some_has test k.exps ≡ false

  from_before : (e : Exp) (x : Name) (o : Option Taken) (k : Taken) → has test e ≡ false → before e x o ≡ Some k → ((j : Taken) → o ≡ Some j → TakenFree j) → TakenFree k
  from_before e x None k h g r = absurd cc
  from_before e x (Some j) k h g r =
      let t = r j refl in subst (λ m. TakenFree m) (some_taken g) (record { exp = t.exp; exps = or_from (has test e) (some_has test j.exps) h t.exps })

  taken_free : (i : ℕ) (es : List Exp) (xs : List Name) (k : Taken) → taken_at i es xs ≡ Some k → some_has test es ≡ false → TakenFree k
  taken_free zero (e ∷ es) (x ∷ xs) k g h = let p = or_parts (has test e) (some_has test es) h in subst (λ m. TakenFree m) (some_taken g) (record { exp = p.0; exps = p.1 })
  taken_free (suc i) (e ∷ es) (x ∷ xs) k g h = let p = or_parts (has test e) (some_has test es) h in from_before e x (taken_at i es xs) k p.0 g (λ j n. taken_free i es xs j n p.1)
  taken_free zero [] xs k g h = absurd cc
  taken_free zero (e ∷ es) [] k g h = absurd cc
  taken_free (suc i) [] xs k g h = absurd cc
  taken_free (suc i) (e ∷ es) [] k g h = absurd cc

  others_free : (es : List Exp) (xs : List Name) (m : Mon) → some_has test es ≡ false → Free m → Free (with_values es xs m)
  others_free [] xs m h k = k
  others_free (e ∷ es) xs m h k = or_from (some_has test (e ∷ es)) (program_has test place_test m) h k

  put_free : (i : ℕ) (es : List Exp) (xs : List Name) (m m' : Mon) (o : Option Taken) → taken_at i es xs ≡ o → AreTaken o m m' → Free (M.Bind (M.Ret es) xs m) → Free m'
  put_free i es xs m m' None g h f = absurd h
  put_free i es xs m m' (Some k) g h f =
      let p = or_parts (some_has test es) (program_has test place_test m) f in
      let t = taken_free i es xs k g p.0 in
      subst (λ n. Free n) (sym h.1) (others_free k.exps k.names (program_substituted k.name k.exp m) t.exps (program_free k.name k.exp t.exp m p.1))

  second_free : (m n : Mon) (xs : List Name) → Free (M.Bind m xs n) → Free n
  second_free m n xs f = (or_parts (program_has test place_test m) (program_has test place_test n) f).1

  back_free : (m : Mon) (xs : List Name) (n m' : Mon) → ((n ≡ M.Ret (map (λ x. Var x) xs)) × (m' ≡ m)) ⊎ ((m ≡ M.Ret []) × (xs ≡ []) × (m' ≡ n)) → Free (M.Bind m xs n) → Free m'
  back_free m xs n m' (inl h) f = subst (λ a. Free a) (sym h.1) (or_parts (program_has test place_test m) (program_has test place_test n) f).0
  back_free m xs n m' (inr h) f = subst (λ a. Free a) (sym h.2) (second_free m n xs f)

  pub simpler_free : (at : Point) (rule : Rule) (m m' : Mon) → Simplifies rule → (row at rule m m').holds → Free m → Free m'
  simpler_free at (R.RetOne i) (M.Bind (M.Ret es) xs m) m' s h f = put_free i es xs m m' (taken_at i es xs) refl h f
  simpler_free at R.BindRet (M.Bind m xs n) m' s h f = back_free m xs n m' h f
  simpler_free at R.Assoc (M.Bind (M.Bind a xs b) ys c) m' s h f =
      let p = or_parts (program_has test place_test a || program_has test place_test b) (program_has test place_test c) f in
      let q = or_parts (program_has test place_test a) (program_has test place_test b) p.0 in
      subst (λ n. Free n) (sym h.1) (or_from (program_has test place_test a) _ q.0 (or_from (program_has test place_test b) (program_has test place_test c) q.1 p.1))
  simpler_free at R.IfConst (M.If (TruthLit true) m n) m' s h f =
      subst (λ a. Free a) (sym h) (or_parts (has test (TruthLit true)) (program_has test place_test m) (or_parts (has test (TruthLit true) || program_has test place_test m) (program_has test place_test n) f).0).1
  simpler_free at R.IfConst (M.If (TruthLit false) m n) m' s h f =
      subst (λ a. Free a) (sym h) (or_parts (has test (TruthLit false) || program_has test place_test m) (program_has test place_test n) f).1
  simpler_free at R.GuardKnown (M.Bind (M.Guard e) [] m) m' s h f = subst (λ a. Free a) (sym h.1) (second_free (M.Guard e) m [] f)
  simpler_free at R.Refl m m' s h f = absurd s
  simpler_free at (R.Trans n) m m' s h f = absurd s
  simpler_free at R.Bind m m' s h f = absurd s
  simpler_free at R.If m m' s h f = absurd s
  simpler_free at R.Loop m m' s h f = absurd s
  simpler_free at R.Exp m m' s h f = absurd s
  simpler_free _ _ _ _ s h f = absurd h
