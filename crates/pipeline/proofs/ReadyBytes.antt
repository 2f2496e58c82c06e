-- What is ready for typed heaps is in bytes form: no read and no write of typed heaps is ready.
use Rattle.std.proofs.Common.{◌≡◌, Bool, true, false, ◌||◌, List, [], ◌∷◌, refl, subst}
use Rattle.std.proofs.lemmas.Bool.{and_parts, or_parts, or_from, not_from_false}
use Rattle.c_values.specs.Name.{Name}
use Rattle.c_values.specs.Types.{same_type}
use Rattle.c_values.specs.Layout.{Layout}
use Rattle.expression_lang.specs.Expression as E
use Rattle.expression_lang.specs.Form.{has, path_has, is_read}
use Rattle.monad_lang.specs.Program as M
use Rattle.monad_lang.specs.Form.{some_has, start_has, place_has, program_has, is_written, is_bytes}
use Rattle.ac_expr.specs.Fact.{Fact}
use Rattle.program_facts.specs.Flow.{facts_after}
use Rattle.ac_expr.specs.SameExp.{same_exp}
use Rattle.ac_expr.proofs.SameExps.{exp_is}
use Rattle.rule_heap.specs.ExpLifted.{IsReady, IsPathReady}
use Rattle.rule_heap.specs.HeapLifted.{is_pair, on_heaps, Where, AreReady, AreStartsReady, IsPlaceReady, IsHeapReady}

abbrev HasNone : M.Mon → Type 0
HasNone m = program_has is_read is_written m ≡ false

-- the second of a pair has what the first has
pair_none : (m : M.Mon) (xs : List Name) (n : M.Mon) → is_pair m xs n ≡ true → HasNone n → HasNone m
pair_none (M.Guard (E.PtrOk t p)) [] (M.Bind (M.Guard (E.Tagged u q)) [] n) h k =
    subst (λ e. has is_read e ≡ false) (exp_is q p (and_parts (same_type u t) (same_exp q p) h).1) (or_parts (has is_read q) (program_has is_read is_written n) k).0
pair_none m xs n h k = absurd cc

module _ (l : Layout) where
  mutual
    exp_none : (fs : List Fact) (e : E.Exp) → IsReady l fs e → has is_read e ≡ false
    exp_none fs (E.WordBinary op a b) h = or_from (has is_read a) (has is_read b) (exp_none fs a h.0) (exp_none fs b h.1)
    exp_none fs (E.WordShift op a b) h = or_from (has is_read a) (has is_read b) (exp_none fs a h.0) (exp_none fs b h.1)
    exp_none fs (E.WordUnary op a) h = exp_none fs a h
    exp_none fs (E.WordCompare op a b) h = or_from (has is_read a) (has is_read b) (exp_none fs a h.0) (exp_none fs b h.1)
    exp_none fs (E.Cast op n a) h = exp_none fs a h
    exp_none fs (E.ToNat a) h = exp_none fs a h
    exp_none fs (E.ToInt a) h = exp_none fs a h
    exp_none fs (E.ToWord n a) h = exp_none fs a h
    exp_none fs (E.Arith op a b) h = or_from (has is_read a) (has is_read b) (exp_none fs a h.0) (exp_none fs b h.1)
    exp_none fs (E.Negate a) h = exp_none fs a h
    exp_none fs (E.Lt a b) h = or_from (has is_read a) (has is_read b) (exp_none fs a h.0) (exp_none fs b h.1)
    exp_none fs (E.Le a b) h = or_from (has is_read a) (has is_read b) (exp_none fs a h.0) (exp_none fs b h.1)
    exp_none fs (E.Between low a high) h = exp_none fs a h
    exp_none fs (E.Eq a b) h = or_from (has is_read a) (has is_read b) (exp_none fs a h.0) (exp_none fs b h.1)
    exp_none fs (E.And a b) h = or_from (has is_read a) (has is_read b) (exp_none fs a h.0) (exp_none _ b h.1)
    exp_none fs (E.Or a b) h = or_from (has is_read a) (has is_read b) (exp_none fs a h.0) (exp_none _ b h.1)
    exp_none fs (E.Imp a b) h = or_from (has is_read a) (has is_read b) (exp_none fs a h.0) (exp_none _ b h.1)
    exp_none fs (E.Not a) h = exp_none fs a h
    exp_none fs (E.If a b c) h =
        or_from (has is_read a || has is_read b) (has is_read c) (or_from (has is_read a) (has is_read b) (exp_none fs a h.0) (exp_none _ b h.1)) (exp_none _ c h.2)
    exp_none fs (E.Padd t a b) h = or_from (has is_read a) (has is_read b) (exp_none fs a h.0) (exp_none fs b h.1)
    exp_none fs (E.At t a path) h = or_from (has is_read a) (path_has is_read path) (exp_none fs a h.0) (path_none fs path h.1)
    exp_none fs (E.Load t a path) h = or_from (has is_read a) (path_has is_read path) (exp_none fs a h.1) (path_none fs path h.2)
    exp_none fs (E.Read t a path) h = absurd h
    exp_none fs (E.Tagged t a) h = exp_none fs a h
    exp_none fs (E.PtrOk t a) h = exp_none fs a h
    exp_none fs (E.Global x path) h = path_none fs path h
    exp_none fs (E.Sel a path) h = or_from (has is_read a) (path_has is_read path) (exp_none fs a h.0) (path_none fs path h.1)
    exp_none fs (E.Upd a path b) h =
        or_from (has is_read a || path_has is_read path) (has is_read b) (or_from (has is_read a) (path_has is_read path) (exp_none fs a h.0) (path_none fs path h.1)) (exp_none fs b h.2)
    exp_none _ _ _ = refl

    path_none : (fs : List Fact) (path : E.Path) → IsPathReady l fs path → path_has is_read path ≡ false
    path_none fs E.Here h = refl
    path_none fs (E.IntoField k path) h = path_none fs path h
    path_none fs (E.IntoElement e path) h = or_from (has is_read e) (path_has is_read path) (exp_none fs e h.0) (path_none fs path h.1)

  exps_none : (fs : List Fact) (es : List E.Exp) → AreReady l fs es → some_has is_read es ≡ false
  exps_none fs [] h = refl
  exps_none fs (e ∷ es) h = or_from (has is_read e) (some_has is_read es) (exp_none fs e h.0) (exps_none fs es h.1)

  starts_none : (fs : List Fact) (xs : List M.Start) → AreStartsReady l fs xs → start_has is_read xs ≡ false
  starts_none fs [] h = refl
  starts_none fs (x ∷ xs) h = or_from (has is_read x.exp) (start_has is_read xs) (exp_none fs x.exp h.0) (starts_none fs xs h.1)

  place_none : (fs : List Fact) (place : M.Place) → IsPlaceReady l fs place → (is_written place || place_has is_read place) ≡ false
  place_none fs (M.Stored t p path) h = or_from (has is_read p) (path_has is_read path) (exp_none fs p h.1) (path_none fs path h.2)
  place_none fs (M.Written t p path) h = absurd h
  place_none fs (M.Global x path) h = path_none fs path h

  program_none : (m : M.Mon) (fs : List Fact) → IsHeapReady l fs m → HasNone m
  program_none (M.Ret es) fs h = exps_none fs es h
  program_none (M.Bind m xs n) fs h = by_pair (λ gs k. program_none m gs k) (λ gs k. program_none n gs k) (is_pair m xs n) refl h
    where
      by_pair : ((gs : List Fact) → IsHeapReady l gs m → HasNone m) → ((gs : List Fact) → IsHeapReady l gs n → HasNone n) → (b : Bool) → is_pair m xs n ≡ b →
          Where b (IsHeapReady l fs n) (IsHeapReady l fs m × IsHeapReady l (facts_after (on_heaps m) xs fs) n) → HasNone (M.Bind m xs n)
      by_pair first second true e k = let i = second fs k in or_from (program_has is_read is_written m) (program_has is_read is_written n) (pair_none m xs n e i) i
      by_pair first second false e k = or_from (program_has is_read is_written m) (program_has is_read is_written n) (first fs k.0) (second _ k.1)
  program_none (M.Guard e) fs h = exp_none fs e h
  program_none (M.If e m n) fs h =
      or_from (has is_read e || program_has is_read is_written m) (program_has is_read is_written n)
      (or_from (has is_read e) (program_has is_read is_written m) (exp_none fs e h.0) (program_none m _ h.1)) (program_none n _ h.2)
  program_none (M.Write place e) fs h = or_from (is_written place || place_has is_read place) (has is_read e) (place_none fs place h.0) (exp_none fs e h.1)
  program_none (M.Loop starts guard test m) fs h =
      or_from (start_has is_read starts || has is_read guard || has is_read test) (program_has is_read is_written m)
      (or_from (start_has is_read starts || has is_read guard) (has is_read test)
      (or_from (start_has is_read starts) (has is_read guard) (starts_none fs starts h.0) (exp_none _ guard h.1))
      (exp_none _ test h.2)) (program_none m _ h.3)
  program_none (M.Call f es) fs h = exps_none fs es h
  program_none (M.Pick k) fs h = refl

  pub ready_is_bytes : (m : M.Mon) (fs : List Fact) → IsHeapReady l fs m → is_bytes m ≡ true
  ready_is_bytes m fs h = not_from_false (program_has is_read is_written m) (program_none m fs h)
