-- What a well-formed unit is lifted to is well-formed.
use Rattle.std.proofs.Common.{◌≡◌, Bool, true, false, not, cond, ◌&&◌, List, [], ◌∷◌, map, Option, Some, None, ◌⊎◌, inl, inr, refl, sym, subst, ap, ap₂, ◌∙◌}
use Rattle.std.specs.Option.{is_some}
use Rattle.std.proofs.lemmas.Bool.{false≢true, true≢false, and_parts, and_from, or_left, or_right, or_parts, cond_both, cond-true, not-true, not_from_false, false_from_ne_true}
use Rattle.c_values.specs.Name.{Name, same_name, with_name, is_among, are_distinct}
use Rattle.c_values.specs.Layout.{global_type}
use Rattle.c_values.proofs.Laid.{name_is, same_name-refl}
use Rattle.c_values.proofs.Options.{some_is, none_is}
use Rattle.expression_lang.specs.Sort.{Scalar, Kind, is_kind, are_kinds, word_sort_of, sort_of_kind}
use Rattle.expression_lang.specs.Signature.{Binder, Signature, names_of, kinds_of, signature}
use Rattle.expression_lang.specs.Sorted.{names_with, same_scalars, result_scalars, call_scalars}
use Rattle.expression_lang.proofs.SameScalars.{same_scalars-refl}
use Rattle.simpl_lang.specs.Command.{SimplFn, SimplUnit, kind_of}
use Rattle.simpl_lang.specs.Exec.{result_local}
use Rattle.simpl_lang.specs.Sorted as C
use Rattle.simpl_lang.specs.Sorted.{same_kind, same_level, come_first, is_kind_of, holds_result, are_signed, is_sorted, scope_of}
use Rattle.monad_lang.specs.Program.{FinalUnit}
use Rattle.monad_lang.specs.Sorted as M
use Rattle.monad_lang.specs.Sorted.{are_scalars, signature_of, has_few, setting_of, is_fn_sorted, scalars_given}
use Rattle.monad_lang.specs.Agree.{AgreeOn}
use Rattle.simpl_lang.proofs.SameKinds.{local_is_kind, same_kind_is}
use Rattle.rule_local.specs.Table.{word_kind}
use Rattle.rule_local.specs.Units.{outputs_of}
use Rattle.rule_local.specs.Lifted.{in_words, result_in_words, function_lifted, functions_lifted, unit_lifted}
use Rattle.rule_local.proofs.LiftedTaken.{local_kind}
use Rattle.rule_local.proofs.LiftedNames.{either}
use Rattle.rule_local.proofs.InScope.{local_in_scope}
use Rattle.rule_local.proofs.UnitsLifted.{outputs_local, words_named}
use Rattle.rule_local.proofs.LiftedSorted.{AllThere, scalar_there, scalars_at, word_sort_is, word_kind_is, Known, locals_lifted_sorted}

-- scopes of locals

pub others_stay : (y : Name) (bs : List Binder) (ms : Name → Option Scalar) → is_among y (names_of bs) ≡ false → names_with (names_of bs) (map word_sort_of (kinds_of bs)) ms y ≡ ms y
others_stay y [] ms h = refl
others_stay y (b ∷ bs) ms h =
    let p = or_parts (same_name y b.name) (is_among y (names_of bs)) h in
    others_stay y bs (with_name b.name (Some (word_sort_of b.kind)) ms) p.1 ∙ cond_both (same_name b.name y) (Some (word_sort_of b.kind)) (ms y) (λ o. o ≡ ms y) (λ e. absurd (true≢false (sym (swapped e) ∙ p.0))) (λ e. refl)
  where
    swapped : same_name b.name y ≡ true → same_name y b.name ≡ true
    swapped e = subst (λ z. same_name z b.name ≡ true) (name_is b.name y e) (same_name-refl b.name)

-- a local has the sort of its kind
pub local_scalar : (bs : List Binder) (ms : Name → Option Scalar) (x : Name) (k : Kind) → are_distinct (names_of bs) ≡ true → kind_of bs x ≡ Some k → names_with (names_of bs) (map word_sort_of (kinds_of bs)) ms x ≡ Some (word_sort_of k)
local_scalar [] ms x k d h = none_is h
local_scalar (b ∷ bs) ms x k d h =
    let p = and_parts (not (is_among b.name (names_of bs))) (are_distinct (names_of bs)) d in
    by_test (same_name b.name x) refl h (not-true (is_among b.name (names_of bs)) p.0) (λ e. local_scalar bs (with_name b.name (Some (word_sort_of b.kind)) ms) x k p.1 e)
  where
    by_test : (t : Bool) → same_name b.name x ≡ t → cond t (Some b.kind) (kind_of bs x) ≡ Some k → is_among b.name (names_of bs) ≡ false →
        (kind_of bs x ≡ Some k → names_with (names_of bs) (map word_sort_of (kinds_of bs)) (with_name b.name (Some (word_sort_of b.kind)) ms) x ≡ Some (word_sort_of k)) →
        names_with (names_of bs) (map word_sort_of (kinds_of bs)) (with_name b.name (Some (word_sort_of b.kind)) ms) x ≡ Some (word_sort_of k)
    by_test true e j n r =
        others_stay x bs (with_name b.name (Some (word_sort_of b.kind)) ms) (subst (λ z. is_among z (names_of bs) ≡ false) (name_is b.name x e) n) ∙ cond-true (same_name b.name x) (Some (word_sort_of b.kind)) (ms x) e
        ∙ ap (λ k. Some (word_sort_of k)) (some_is j)
    by_test false e j n r = r j

-- the parameters come first

module _ (p b : Binder) (ps bs : List Binder) where
  first_parts : come_first (p ∷ ps) (b ∷ bs) ≡ true → (p.name ≡ b.name) × (p.kind ≡ b.kind) × (come_first ps bs ≡ true)
  first_parts h =
      let q = and_parts (same_name p.name b.name && same_kind p.kind b.kind) (come_first ps bs) h in
      let r = and_parts (same_name p.name b.name) (same_kind p.kind b.kind) q.0 in (name_is p.name b.name r.0, same_kind_is p.kind b.kind r.1, q.1)

first_kind : (ps bs : List Binder) (y : Name) (k : Kind) → come_first ps bs ≡ true → kind_of ps y ≡ Some k → kind_of bs y ≡ Some k
first_kind [] bs y k h e = none_is e
first_kind (p ∷ ps) [] y k h e = absurd (false≢true h)
first_kind (p ∷ ps) (b ∷ bs) y k h e =
    let q = first_parts p b ps bs h in
    subst (λ x. cond (same_name x y) (Some b.kind) (kind_of bs y) ≡ Some k) q.0
    (subst (λ j. cond (same_name p.name y) (Some j) (kind_of bs y) ≡ Some k) q.1 (by_test (same_name p.name y) e (first_kind ps bs y k q.2)))
  where
    by_test : (t : Bool) → cond t (Some p.kind) (kind_of ps y) ≡ Some k → (kind_of ps y ≡ Some k → kind_of bs y ≡ Some k) → cond t (Some p.kind) (kind_of bs y) ≡ Some k
    by_test true j r = j
    by_test false j r = r j

first_among : (ps bs : List Binder) (y : Name) → come_first ps bs ≡ true → is_among y (names_of ps) ≡ true → is_among y (names_of bs) ≡ true
first_among [] bs y h e = absurd (false≢true e)
first_among (p ∷ ps) [] y h e = absurd (false≢true h)
first_among (p ∷ ps) (b ∷ bs) y h e =
    let q = first_parts p b ps bs h in
    either (same_name y p.name) (is_among y (names_of ps)) e (λ t. or_left (same_name y b.name) (is_among y (names_of bs)) (subst (λ x. same_name y x ≡ true) q.0 t))
    (λ t. or_right (same_name y b.name) (is_among y (names_of bs)) (first_among ps bs y q.2 t))

first_distinct : (ps bs : List Binder) → come_first ps bs ≡ true → are_distinct (names_of bs) ≡ true → are_distinct (names_of ps) ≡ true
first_distinct [] bs h d = refl
first_distinct (p ∷ ps) [] h d = absurd (false≢true h)
first_distinct (p ∷ ps) (b ∷ bs) h d =
    let q = first_parts p b ps bs h in
    let r = and_parts (not (is_among b.name (names_of bs))) (are_distinct (names_of bs)) d in
    and_from (not (is_among p.name (names_of ps))) (are_distinct (names_of ps))
    (not_from_false (is_among p.name (names_of ps))
    (false_from_ne_true (is_among p.name (names_of ps))
    (λ t. true≢false (sym (subst (λ x. is_among x (names_of bs) ≡ true) q.0 (first_among ps bs p.name q.2 t)) ∙ not-true (is_among b.name (names_of bs)) r.0))))
    (first_distinct ps bs q.2 r.1)

first_kinds : (ps bs : List Binder) → come_first ps bs ≡ true → are_kinds (kinds_of bs) ≡ true → are_kinds (kinds_of (in_words ps)) ≡ true
first_kinds [] bs h k = refl
first_kinds (p ∷ ps) [] h k = absurd (false≢true h)
first_kinds (p ∷ ps) (b ∷ bs) h k =
    let q = first_parts p b ps bs h in
    let r = and_parts (is_kind b.kind) (are_kinds (kinds_of bs)) k in
    and_from (is_kind (word_kind p.kind)) (are_kinds (kinds_of (in_words ps))) (word_kind_is p.kind (subst (λ j. is_kind j ≡ true) (sym q.1) r.0)) (first_kinds ps bs q.2 r.1)

pub sorts_in_words : (bs : List Binder) → map sort_of_kind (kinds_of (in_words bs)) ≡ map word_sort_of (kinds_of bs)
sorts_in_words [] = refl
sorts_in_words (b ∷ bs) = ap₂ (λ s ss. s ∷ ss) (word_sort_is b.kind) (sorts_in_words bs)

-- the scope of a lifted function, and that of its body's locals
params_agree : (ps bs : List Binder) → come_first ps bs ≡ true → are_distinct (names_of bs) ≡ true → (ms ns : Name → Option Scalar) →
    AgreeOn (λ y. is_among y (names_of ps)) (names_with (names_of (in_words ps)) (map sort_of_kind (kinds_of (in_words ps))) ms) (names_with (names_of bs) (map word_sort_of (kinds_of bs)) ns)
params_agree ps bs h d ms ns y t =
    let k = local_kind ps y t in
    ap₂ (λ xs ss. names_with xs ss ms y) (words_named ps) (sorts_in_words ps)
    ∙ local_scalar ps ms y k.0 (first_distinct ps bs h d) k.1 ∙ sym (local_scalar bs ns y k.0 d (first_kind ps bs y k.0 h k.1))

-- calls

result_first : (s : Signature) (f : SimplFn) → result_scalars sort_of_kind (signature_of (function_lifted f s)).result ≡ result_scalars word_sort_of s.result
result_first s f = of s.result
  where
    of : (r : Option Kind) → result_scalars sort_of_kind (signature_of (record { name = f.name; level = f.level; params = in_words s.params; results = result_in_words r; body = (function_lifted f s).body })).result ≡ result_scalars word_sort_of r
    of None = refl
    of (Some k) = ap (λ s. s ∷ []) (word_sort_is k)

same_call : (f : SimplFn) (s : Signature) (o : Option (List Scalar)) → call_scalars sort_of_kind (Some (signature_of (function_lifted f s))) o ≡ call_scalars word_sort_of (Some s) o
same_call f s None = refl
same_call f s (Some cs) = ap₂ (λ ds r. cond (same_scalars ds cs) (Some r) None) (sorts_in_words s.params) (result_first s f)

one_signed : (f : SimplFn) (s : Signature) (fs : List SimplFn) (ss : List Signature) → are_signed (f ∷ fs) (s ∷ ss) ≡ true →
    (same_name f.name s.name ≡ true) × (come_first s.params f.locals ≡ true) × (holds_result s.result f.locals ≡ true) × (are_signed fs ss ≡ true)
one_signed f s fs ss h =
    let q = and_parts (same_name f.name s.name && same_level f.level s.level && come_first s.params f.locals && holds_result s.result f.locals) (are_signed fs ss) h in
    let r = and_parts (same_name f.name s.name && same_level f.level s.level && come_first s.params f.locals) (holds_result s.result f.locals) q.0 in
    let t = and_parts (same_name f.name s.name && same_level f.level s.level) (come_first s.params f.locals) r.0 in
    ((and_parts (same_name f.name s.name) (same_level f.level s.level) t.0).0, t.1, r.1, q.1)

calls_same : (fs : List SimplFn) (ss : List Signature) → are_signed fs ss ≡ true → (x : Name) (o : Option (List Scalar)) →
    call_scalars sort_of_kind (signature (map signature_of (functions_lifted fs ss)) x) o ≡ call_scalars word_sort_of (signature ss x) o
calls_same [] [] h x o = refl
calls_same [] (s ∷ ss) h x o = absurd (false≢true h)
calls_same (f ∷ fs) [] h x o = absurd (false≢true h)
calls_same (f ∷ fs) (s ∷ ss) h x o =
    let q = one_signed f s fs ss h in
    subst (λ z. call_scalars sort_of_kind (cond (same_name f.name x) (Some (signature_of (function_lifted f s))) (signature (map signature_of (functions_lifted fs ss)) x)) o ≡ call_scalars word_sort_of (cond (same_name z x) (Some s) (signature ss x)) o)
    (name_is f.name s.name q.0) (by_test (same_name f.name x) (calls_same fs ss q.3 x o))
  where
    by_test : (t : Bool) → call_scalars sort_of_kind (signature (map signature_of (functions_lifted fs ss)) x) o ≡ call_scalars word_sort_of (signature ss x) o →
        call_scalars sort_of_kind (cond t (Some (signature_of (function_lifted f s))) (signature (map signature_of (functions_lifted fs ss)) x)) o ≡ call_scalars word_sort_of (cond t (Some s) (signature ss x)) o
    by_test true r = same_call f s o
    by_test false r = r

-- results

kind_held : (bs : List Binder) (k : Kind) (o : Option Kind) → kind_of bs result_local ≡ o → is_kind_of k o ≡ true → kind_of bs result_local ≡ Some k
kind_held bs k (Some j) e h = e ∙ ap (λ i. Some i) (sym (same_kind_is k j h))
kind_held bs k None e h = absurd (false≢true h)

pub few_results : (r : Option Kind) → has_few (result_in_words r) ≡ true
few_results None = refl
few_results (Some k) = refl

result_kinds : (bs : List Binder) (r : Option Kind) → are_kinds (kinds_of bs) ≡ true → holds_result r bs ≡ true → are_kinds (result_in_words r) ≡ true
result_kinds bs None h k = refl
result_kinds bs (Some j) h k = and_from (is_kind (word_kind j)) true (word_kind_is j (local_is_kind bs result_local j h (kind_held bs j (kind_of bs result_local) refl k))) refl

result_scalar : (bs : List Binder) (ms : Name → Option Scalar) (r : Option Kind) → are_distinct (names_of bs) ≡ true → holds_result r bs ≡ true →
    map sort_of_kind (result_in_words r) ≡ scalars_at (names_with (names_of bs) (map word_sort_of (kinds_of bs)) ms) (outputs_of r)
result_scalar bs ms None d h = refl
result_scalar bs ms (Some k) d h = ap (λ s. s ∷ []) (word_sort_is k ∙ sym (ap scalar_there (local_scalar bs ms result_local k d (kind_held bs k (kind_of bs result_local) refl h))))

module _ (u : SimplUnit) (formed : C.IsWellFormed u) where
  abbrev lifted_unit : FinalUnit
  lifted_unit = unit_lifted u

  scope_known : (f : SimplFn) → are_kinds (kinds_of f.locals) ≡ true → are_distinct (names_of f.locals) ≡ true → Known (scope_of u f).names f.locals u.signatures (map signature_of lifted_unit.functions)
  scope_known f h d = record {
    kinds = λ x k e. (local_scalar f.locals (λ x. None) x k d e, local_is_kind f.locals x k h e);
    locals = λ x t. local x (local_in_scope x f.locals (λ x. None) t);
    distinct = d;
    calls = calls_same u.functions u.signatures formed.signatures;
  }
    where
      local : (x : Name) → (false ≡ true) ⊎ (is_among x (names_of f.locals) ≡ true) → is_among x (names_of f.locals) ≡ true
      local x (inl t) = absurd (false≢true t)
      local x (inr t) = t

  outputs_there : (f : SimplFn) (r : Option Kind) → are_kinds (kinds_of f.locals) ≡ true → are_distinct (names_of f.locals) ≡ true → holds_result r f.locals ≡ true → AllThere (scope_of u f).names (outputs_of r)
  outputs_there f r h d k y t = let j = local_kind f.locals y (outputs_local r f.locals k y t) in ap is_some (local_scalar f.locals (λ x. None) y j.0 d j.1)

  function_sorted : (f : SimplFn) (s : Signature) → are_kinds (kinds_of f.locals) ≡ true → are_distinct (names_of f.locals) ≡ true → is_sorted (scope_of u f) u.signatures f.body ≡ true →
      come_first s.params f.locals ≡ true → holds_result s.result f.locals ≡ true → is_fn_sorted lifted_unit (function_lifted f s) ≡ true
  function_sorted f s h d sorted first held =
      let v = function_lifted f s in
      let gives = scalars_given (setting_of lifted_unit v) v.body in
      and_from (are_kinds (kinds_of v.params) && are_kinds v.results && are_distinct (names_of v.params) && has_few v.results) (are_scalars (map sort_of_kind v.results) gives)
      (and_from (are_kinds (kinds_of v.params) && are_kinds v.results && are_distinct (names_of v.params)) (has_few v.results)
      (and_from (are_kinds (kinds_of v.params) && are_kinds v.results) (are_distinct (names_of v.params))
      (and_from (are_kinds (kinds_of v.params)) (are_kinds v.results) (first_kinds s.params f.locals first h) (result_kinds f.locals s.result h held))
      (subst (λ xs. are_distinct xs ≡ true) (sym (words_named s.params)) (first_distinct s.params f.locals first d)))
      (few_results s.result))
      (ap₂ are_scalars (result_scalar f.locals (λ x. None) s.result d held)
      (locals_lifted_sorted u.layout (global_type u.globals) (scope_of u f).names f.locals u.signatures (map signature_of lifted_unit.functions) (scope_known f h d) (names_of s.params) f.body sorted (outputs_of s.result)
      (outputs_there f s.result h d held) (names_with (names_of (in_words s.params)) (map sort_of_kind (kinds_of (in_words s.params))) (λ x. None)) (params_agree s.params f.locals first d (λ x. None) (λ x. None)))
      ∙ same_scalars-refl (scalars_at (scope_of u f).names (outputs_of s.result)))

  functions_sorted : (fs : List SimplFn) (ss : List Signature) → C.are_fns_sorted u fs ≡ true → are_signed fs ss ≡ true → M.are_fns_sorted lifted_unit (functions_lifted fs ss) ≡ true
  functions_sorted [] [] h k = refl
  functions_sorted [] (s ∷ ss) h k = absurd (false≢true k)
  functions_sorted (f ∷ fs) [] h k = absurd (false≢true k)
  functions_sorted (f ∷ fs) (s ∷ ss) h k =
      let p = and_parts (are_kinds (kinds_of f.locals) && are_distinct (names_of f.locals) && is_sorted (scope_of u f) u.signatures f.body) (C.are_fns_sorted u fs) h in
      let q = and_parts (are_kinds (kinds_of f.locals) && are_distinct (names_of f.locals)) (is_sorted (scope_of u f) u.signatures f.body) p.0 in
      let r = and_parts (are_kinds (kinds_of f.locals)) (are_distinct (names_of f.locals)) q.0 in
      let t = one_signed f s fs ss k in
      and_from (is_fn_sorted lifted_unit (function_lifted f s)) (M.are_fns_sorted lifted_unit (functions_lifted fs ss)) (function_sorted f s r.0 r.1 q.1 t.1 t.2) (functions_sorted fs ss p.1 t.3)

named_same : (fs : List SimplFn) (ss : List Signature) → are_signed fs ss ≡ true → map (λ f. f.name) (functions_lifted fs ss) ≡ map (λ f. f.name) fs
named_same [] [] h = refl
named_same [] (s ∷ ss) h = absurd (false≢true h)
named_same (f ∷ fs) [] h = absurd (false≢true h)
named_same (f ∷ fs) (s ∷ ss) h = ap (λ xs. f.name ∷ xs) (named_same fs ss (one_signed f s fs ss h).3)

pub unit_formed : (u : SimplUnit) → C.IsWellFormed u → M.IsWellFormed (unit_lifted u)
unit_formed u h = record {
  layout = h.layout;
  globals = h.globals;
  names = ap are_distinct (named_same u.functions u.signatures h.signatures) ∙ h.names;
  functions = functions_sorted u h u.functions u.signatures h.functions h.signatures;
}
