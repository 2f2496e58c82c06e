-- What well-formed units have of what steps need.
use Rattle.std.proofs.Common.{◌≡◌, true, false, ◌&&◌, List, [], ◌∷◌, Option, Some, None, refl, sym, subst}
use Rattle.std.proofs.lemmas.Bool.{false≢true, and_parts, and_from, or_left}
use Rattle.c_values.specs.Name.{same_name, are_distinct}
use Rattle.c_values.proofs.Laid.{same_name-refl}
use Rattle.expression_lang.specs.Sort.{Kind, is_kind, are_kinds}
use Rattle.expression_lang.specs.Signature.{Binder, Signature, names_of, kinds_of}
use Rattle.simpl_lang.specs.Command.{SimplFn, SimplUnit, kind_of}
use Rattle.simpl_lang.specs.Exec.{result_local}
use Rattle.simpl_lang.specs.Sorted.{IsWellFormed, same_kind, same_level, come_first, is_kind_of, holds_result, are_signed, is_sorted, scope_of, are_fns_sorted}
use Rattle.simpl_lang.proofs.SameKinds.{local_is_kind, same_kind_is}
use Rattle.rule_local.proofs.UnitsLifted.{outputs_local}
use Rattle.rule_word.specs.CodeNames.{is_result, are_results}
use Rattle.acceptance.specs.CodeOutputs.{has_result}
use Rattle.acceptance.specs.CodeReady.{is_ready, are_ready}

-- the local that holds the result is there, and its kind is one
result_there : (k : Option Kind) (bs : List Binder) → holds_result k bs ≡ true → has_result bs k ≡ true
result_there None bs h = refl
result_there (Some k) bs h =
    outputs_local (Some k) bs h result_local (or_left (same_name result_local result_local) false (same_name-refl result_local))

result_kind : (k : Option Kind) (bs : List Binder) → holds_result k bs ≡ true → are_kinds (kinds_of bs) ≡ true → is_result k ≡ true
result_kind None bs h g = refl
result_kind (Some k) bs h g = by_kind (kind_of bs result_local) refl h
  where
    by_kind : (o : Option Kind) → kind_of bs result_local ≡ o → is_kind_of k o ≡ true → is_kind k ≡ true
    by_kind (Some j) e i = subst (λ z. is_kind z ≡ true) (sym (same_kind_is k j i)) (local_is_kind bs result_local j g e)
    by_kind None e i = absurd (false≢true i)

-- parameters have the kinds of the first locals
params_kinds : (ps bs : List Binder) → come_first ps bs ≡ true → are_kinds (kinds_of bs) ≡ true → are_kinds (kinds_of ps) ≡ true
params_kinds [] bs h g = refl
params_kinds (p ∷ ps) [] h g = absurd (false≢true h)
params_kinds (p ∷ ps) (b ∷ bs) h g =
    let q = and_parts (same_name p.name b.name && same_kind p.kind b.kind) (come_first ps bs) h in
    let r = and_parts (same_name p.name b.name) (same_kind p.kind b.kind) q.0 in
    let k = and_parts (is_kind b.kind) (are_kinds (kinds_of bs)) g in
    and_from (is_kind p.kind) (are_kinds (kinds_of ps))
    (subst (λ z. is_kind z ≡ true) (sym (same_kind_is p.kind b.kind r.1)) k.0) (params_kinds ps bs q.1 k.1)

first_signed : (f : SimplFn) (s : Signature) (fs : List SimplFn) (ss : List Signature) → are_signed (f ∷ fs) (s ∷ ss) ≡ true →
    (come_first s.params f.locals ≡ true) × (holds_result s.result f.locals ≡ true) × (are_signed fs ss ≡ true)
first_signed f s fs ss h =
    let q = and_parts (same_name f.name s.name && same_level f.level s.level && come_first s.params f.locals
    && holds_result s.result f.locals) (are_signed fs ss) h in
    let r = and_parts (same_name f.name s.name && same_level f.level s.level && come_first s.params f.locals)
    (holds_result s.result f.locals) q.0 in
    let t = and_parts (same_name f.name s.name && same_level f.level s.level) (come_first s.params f.locals) r.0 in
    (t.1, r.1, q.1)

first_sorted : (u : SimplUnit) (f : SimplFn) (fs : List SimplFn) → are_fns_sorted u (f ∷ fs) ≡ true →
    (are_kinds (kinds_of f.locals) ≡ true) × (are_fns_sorted u fs ≡ true)
first_sorted u f fs h =
    let p = and_parts (are_kinds (kinds_of f.locals) && are_distinct (names_of f.locals)
    && is_sorted (scope_of u f) u.signatures f.body) (are_fns_sorted u fs) h in
    let q = and_parts (are_kinds (kinds_of f.locals) && are_distinct (names_of f.locals))
    (is_sorted (scope_of u f) u.signatures f.body) p.0 in
    ((and_parts (are_kinds (kinds_of f.locals)) (are_distinct (names_of f.locals)) q.0).0, p.1)

ready_among : (u : SimplUnit) (fs : List SimplFn) (ss : List Signature) → are_fns_sorted u fs ≡ true → are_signed fs ss ≡ true →
    are_ready fs ss ≡ true
ready_among u [] [] h k = refl
ready_among u [] (s ∷ ss) h k = absurd (false≢true k)
ready_among u (f ∷ fs) [] h k = absurd (false≢true k)
ready_among u (f ∷ fs) (s ∷ ss) h k =
    let a = first_sorted u f fs h in
    let b = first_signed f s fs ss k in
    and_from (is_ready f s) (are_ready fs ss)
    (and_from (has_result f.locals s.result) (are_kinds (kinds_of s.params)) (result_there s.result f.locals b.1)
    (params_kinds s.params f.locals b.0 a.0)) (ready_among u fs ss a.1 b.2)

results_among : (u : SimplUnit) (fs : List SimplFn) (ss : List Signature) → are_fns_sorted u fs ≡ true → are_signed fs ss ≡ true →
    are_results ss ≡ true
results_among u [] [] h k = refl
results_among u [] (s ∷ ss) h k = absurd (false≢true k)
results_among u (f ∷ fs) [] h k = absurd (false≢true k)
results_among u (f ∷ fs) (s ∷ ss) h k =
    let a = first_sorted u f fs h in
    let b = first_signed f s fs ss k in
    and_from (is_result s.result) (are_results ss) (result_kind s.result f.locals b.1 a.0) (results_among u fs ss a.1 b.2)

pub ready_there : (u : SimplUnit) → IsWellFormed u → are_ready u.functions u.signatures ≡ true
ready_there u h = ready_among u u.functions u.signatures h.functions h.signatures

pub results_there : (u : SimplUnit) → IsWellFormed u → are_results u.signatures ≡ true
results_there u h = results_among u u.functions u.signatures h.functions h.signatures

pub ready_parts : (f : SimplFn) (s : Signature) (fs : List SimplFn) (ss : List Signature) → are_ready (f ∷ fs) (s ∷ ss) ≡ true →
    (has_result f.locals s.result ≡ true) × (are_kinds (kinds_of s.params) ≡ true) × (are_ready fs ss ≡ true)
ready_parts f s fs ss h =
    let p = and_parts (is_ready f s) (are_ready fs ss) h in
    let q = and_parts (has_result f.locals s.result) (are_kinds (kinds_of s.params)) p.0 in
    (q.0, q.1, p.1)
