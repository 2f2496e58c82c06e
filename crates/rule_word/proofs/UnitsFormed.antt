-- Units that the rules take well-formed units to are well-formed.
use Rattle.std.proofs.Common.{◌≡◌, Bool, true, false, cond, ◌&&◌, List, [], ◌∷◌, map, Option, Some, None, refl, sym, subst, ap, ap₂, ◌∙◌}
use Rattle.std.proofs.lemmas.Bool.{and_parts, and_from}
use Rattle.c_values.specs.Name.{same_name, are_distinct}
use Rattle.c_values.specs.Layout.{IsLayout}
use Rattle.expression_lang.specs.Sort.{Scalar, Kind, WordKind, Of, sort_of_kind, word_sort_of, is_kind, are_kinds}
use Rattle.expression_lang.specs.Sorted.{call_scalars, result_scalars}
use Rattle.expression_lang.specs.Signature.{Signature, signature, names_of, kinds_of}
use Rattle.monad_lang.specs.Program.{FinalFn, FinalUnit}
use Rattle.monad_lang.specs.Sorted.{scalars_given, signature_of, setting_of, has_few, is_fn_sorted, are_fns_sorted, are_scalars, IsWellFormed}
use Rattle.rule_word.specs.Rule.{Context}
use Rattle.rule_word.specs.Scopes.{names_in}
use Rattle.rule_word.specs.Kept.{context_of}
use Rattle.rule_word.specs.Units.{in_scope, IsAbstractedTo, AreAbstractedTo, IsUnitAbstractedTo}
use Rattle.rule_word.proofs.ProgramSorts.{call_inv}
use Rattle.rule_word.proofs.ProgramWidths.{AllWide, WideNames, WideCalls, wide_after}
use Rattle.rule_word.proofs.RightPrograms.{program_sorted_right, are_there}
use Rattle.rule_word.proofs.ScopesAfter.{names_after, setting_after}
use Rattle.rule_word.proofs.UnitsKeep.{body_sorted}
use Rattle.rule_word.proofs.Widths.{IsWide}
use Rattle.rule_word.proofs.KindsStay.{word_kind}

kind_wide : (k : Kind) → is_kind k ≡ true → IsWide (Some (Of (sort_of_kind k)))
kind_wide (WordKind n) h = h
kind_wide _ _ = tt

kinds_wide : (ks : List Kind) → are_kinds ks ≡ true → AllWide (map sort_of_kind ks)
kinds_wide [] h = tt
kinds_wide (k ∷ ks) h = let r = and_parts (is_kind k) (are_kinds ks) h in (kind_wide k r.0, kinds_wide ks r.1)

wide_kinds : (ks : List Kind) → AllWide (map word_sort_of ks) → are_kinds ks ≡ true
wide_kinds [] h = refl
wide_kinds (k ∷ ks) h = and_from (is_kind k) (are_kinds ks) (word_kind k h.0) (wide_kinds ks h.1)

few_too : (rs qs : List Kind) → map sort_of_kind rs ≡ map word_sort_of qs → has_few rs ≡ true → has_few qs ≡ true
few_too rs [] h k = refl
few_too rs (q ∷ []) h k = refl
few_too [] (q ∷ q' ∷ qs) h k = absurd cc
few_too (r ∷ []) (q ∷ q' ∷ qs) h k = absurd cc
few_too (r ∷ r' ∷ rs) (q ∷ q' ∷ qs) h k = k

-- what is asked of a function of a well-formed unit
pub record FnSorted (f : FinalFn) : Type 0 where
  pub params : are_kinds (kinds_of f.params) ≡ true
  pub results : are_kinds f.results ≡ true
  pub distinct : are_distinct (names_of f.params) ≡ true
  pub few : has_few f.results ≡ true

fn_parts : (u : FinalUnit) (f : FinalFn) → is_fn_sorted u f ≡ true → FnSorted f
fn_parts u f h =
    let a = and_parts (are_kinds (kinds_of f.params) && are_kinds f.results && are_distinct (names_of f.params) && has_few f.results) (are_scalars (map sort_of_kind f.results) (scalars_given (setting_of u f) f.body)) h in
    let b = and_parts (are_kinds (kinds_of f.params) && are_kinds f.results && are_distinct (names_of f.params)) (has_few f.results) a.0 in
    let c = and_parts (are_kinds (kinds_of f.params) && are_kinds f.results) (are_distinct (names_of f.params)) b.0 in
    let d = and_parts (are_kinds (kinds_of f.params)) (are_kinds f.results) c.0 in
    record { params = d.0; results = d.1; distinct = c.1; few = b.1 }

-- results of calls
first_wide : (g : FinalFn) (qs : List Kind) → AllWide (map word_sort_of qs) → AllWide (result_scalars word_sort_of (signature_of (record g { results = qs })).result)
first_wide g [] h = tt
first_wide g (q ∷ qs) h = (h.0, tt)

one_call : (b : Bool) (s : Signature) (o : Option Signature) (p : Option (List Scalar)) (cs : List Scalar) → AllWide (result_scalars word_sort_of s.result) →
    (call_scalars word_sort_of o p ≡ Some cs → AllWide cs) → call_scalars word_sort_of (cond b (Some s) o) p ≡ Some cs → AllWide cs
one_call true s o p cs w h q = subst AllWide (call_inv s p cs q).1 w
one_call false s o p cs w h q = h q

calls_wide : (u : FinalUnit) (ctx : Context) (fs gs : List FinalFn) → AreAbstractedTo ctx fs gs → are_fns_sorted u fs ≡ true → WideCalls word_sort_of (map signature_of gs)
calls_wide u ctx [] [] h k x o cs q = absurd cc
calls_wide u ctx (f ∷ fs) (g ∷ gs) h k x o cs q =
    let b = and_parts (is_fn_sorted u f) (are_fns_sorted u fs) k in
    one_call (same_name g.name x) (signature_of g) (signature (map signature_of gs) x) o cs
    (first_wide g g.results (subst AllWide h.0.results (kinds_wide f.results (fn_parts u f b.0).results)))
    (calls_wide u ctx fs gs h.1 b.1 x o cs) q
calls_wide u ctx [] (g ∷ gs) h k x o cs q = absurd h
calls_wide u ctx (f ∷ fs) [] h k x o cs q = absurd h

same_names : (ctx : Context) (fs gs : List FinalFn) → AreAbstractedTo ctx fs gs → map (λ (f : FinalFn). f.name) gs ≡ map (λ (f : FinalFn). f.name) fs
same_names ctx [] [] h = refl
same_names ctx (f ∷ fs) (g ∷ gs) h = ap₂ (λ x xs. x ∷ xs) h.0.name (same_names ctx fs gs h.1)
same_names ctx [] (g ∷ gs) h = absurd h
same_names ctx (f ∷ fs) [] h = absurd h

module _ (u v : FinalUnit) (lay : IsLayout v.layout) (abstracted : IsUnitAbstractedTo u v) (calls : WideCalls word_sort_of (context_of v).functions) where
  fn_formed : (f g : FinalFn) → IsAbstractedTo (context_of v) f g → is_fn_sorted u f ≡ true → is_fn_sorted v g ≡ true
  fn_formed f g h k =
      let a = fn_parts u f k in
      let params_wide : AllWide (map word_sort_of (kinds_of g.params)) = subst AllWide h.words (kinds_wide (kinds_of f.params) a.params) in
      let wide : WideNames (names_in word_sort_of (in_scope g)) =
      subst WideNames (names_after word_sort_of (names_of g.params) (kinds_of g.params) [])
      (wide_after (names_of g.params) (map word_sort_of (kinds_of g.params)) (λ x. None) params_wide (λ x n q. absurd cc)) in
      let right = program_sorted_right (context_of v) lay calls (record { facts = []; names = in_scope g }) h.tree f.body g.body g.results wide h.takes (body_sorted u v abstracted f g h k) in
      and_from _ _
      (and_from _ _
      (and_from _ _
      (and_from _ _ (wide_kinds (kinds_of g.params) params_wide) (wide_kinds g.results (subst AllWide h.results (kinds_wide f.results a.results))))
      (ap are_distinct (sym h.parameters) ∙ a.distinct))
      (few_too f.results g.results h.results a.few))
      (are_there (scalars_given (setting_of v g) g.body) (map sort_of_kind g.results)
      (ap (λ t. scalars_given t g.body) (setting_after sort_of_kind (context_of v) (names_of g.params) (kinds_of g.params) []) ∙ right))

  fns_formed : (fs gs : List FinalFn) → AreAbstractedTo (context_of v) fs gs → are_fns_sorted u fs ≡ true → are_fns_sorted v gs ≡ true
  fns_formed [] [] h k = refl
  fns_formed (f ∷ fs) (g ∷ gs) h k =
      let b = and_parts (is_fn_sorted u f) (are_fns_sorted u fs) k in and_from _ _ (fn_formed f g h.0 b.0) (fns_formed fs gs h.1 b.1)
  fns_formed [] (g ∷ gs) h k = absurd h
  fns_formed (f ∷ fs) [] h k = absurd h

pub units_formed : (u v : FinalUnit) → IsWellFormed u → IsUnitAbstractedTo u v → IsWellFormed v
units_formed u v formed h =
    let lay = subst IsLayout (sym h.layout) formed.layout in
    record {
      layout = lay;
      globals = ap (λ vs. are_distinct (map (λ w. w.name) vs)) h.globals ∙ formed.globals;
      names = ap are_distinct (same_names (context_of v) u.functions v.functions h.functions) ∙ formed.names;
      functions = fns_formed u v lay h (calls_wide u (context_of v) u.functions v.functions h.functions formed.functions) u.functions v.functions h.functions formed.functions;
    }
