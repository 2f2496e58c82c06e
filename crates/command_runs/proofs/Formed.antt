-- What well-formedness of a unit says of a function that is called.
use Rattle.std.proofs.Common.{◌≡◌, true, false, ◌&&◌, List, [], ◌∷◌, Option, Some, None, sym, ap, ◌∙◌, subst}
use Rattle.std.proofs.lemmas.Bool.{and_parts, false≢true, cond-true, cond-false}
use Rattle.c_values.specs.Name.{Name, same_name, are_distinct}
use Rattle.c_values.proofs.Laid.{name_is}
use Rattle.expression_lang.specs.Sort.{Kind, are_kinds}
use Rattle.expression_lang.specs.Signature.{Signature, names_of, kinds_of, signature}
use Rattle.simpl_lang.specs.Command.{SimplFn, SimplUnit, simpl_fn}
use Rattle.simpl_lang.specs.Sorted.{is_sorted, scope_of, are_fns_sorted, same_level, come_first, is_kind_of, holds_result, are_signed}
use Rattle.narrow.specs.Narrow.{IsCommandNarrow, AreFnsNarrow}
use Rattle.global_changes.proofs.Changed.{by_test}
use Rattle.simpl_lang.proofs.SameKinds.{same_kind_is}

same_fn : {f g : SimplFn} → ◌≡◌ {A = Option SimplFn} (Some f) (Some g) → f ≡ g
same_fn h = cc

pub same_signature : {s r : Signature} → ◌≡◌ {A = Option Signature} (Some s) (Some r) → s ≡ r
same_signature h = cc

pub found_name : (fs : List SimplFn) (x : Name) (f : SimplFn) → simpl_fn fs x ≡ Some f → f.name ≡ x
found_name [] x f e = absurd cc
found_name (g ∷ fs) x f e =
    by_test (same_name g.name x)
    (λ b. ap (λ h. h.name) (sym (same_fn (sym (cond-true (same_name g.name x) (Some g) (simpl_fn fs x) b) ∙ e))) ∙ name_is g.name x b)
    (λ b. found_name fs x f (sym (cond-false (same_name g.name x) (Some g) (simpl_fn fs x) b) ∙ e))

-- a function that is well-sorted
pub record IsBody (u : SimplUnit) (f : SimplFn) : Type 0 where
  pub kinds : are_kinds (kinds_of f.locals) ≡ true
  pub distinct : are_distinct (names_of f.locals) ≡ true
  pub sorted : is_sorted (scope_of u f) u.signatures f.body ≡ true

pub body_sorted : (u : SimplUnit) (fs : List SimplFn) (x : Name) (f : SimplFn) → are_fns_sorted u fs ≡ true → simpl_fn fs x ≡ Some f → IsBody u f
body_sorted u [] x f h e = absurd cc
body_sorted u (g ∷ fs) x f h e =
    let p = and_parts ((are_kinds (kinds_of g.locals) && are_distinct (names_of g.locals)) && is_sorted (scope_of u g) u.signatures g.body) (are_fns_sorted u fs) h in
    let q = and_parts (are_kinds (kinds_of g.locals) && are_distinct (names_of g.locals)) (is_sorted (scope_of u g) u.signatures g.body) p.0 in
    let r = and_parts (are_kinds (kinds_of g.locals)) (are_distinct (names_of g.locals)) q.0 in
    by_test (same_name g.name x)
    (λ b.
    let same : g ≡ f = same_fn (sym (cond-true (same_name g.name x) (Some g) (simpl_fn fs x) b) ∙ e) in
    let own : IsBody u g = record { kinds = r.0; distinct = r.1; sorted = q.1 } in
    subst (λ k. IsBody u k) same own)
    (λ b. body_sorted u fs x f p.1 (sym (cond-false (same_name g.name x) (Some g) (simpl_fn fs x) b) ∙ e))

pub body_narrow : (u : SimplUnit) (fs : List SimplFn) (x : Name) (f : SimplFn) → AreFnsNarrow u fs → simpl_fn fs x ≡ Some f → IsCommandNarrow (scope_of u f) u.globals f.body
body_narrow u [] x f h e = absurd cc
body_narrow u (g ∷ fs) x f h e =
    by_test (same_name g.name x)
    (λ b.
    let same : g ≡ f = same_fn (sym (cond-true (same_name g.name x) (Some g) (simpl_fn fs x) b) ∙ e) in
    subst (λ k. IsCommandNarrow (scope_of u k) u.globals k.body) same h.0)
    (λ b. body_narrow u fs x f h.1 (sym (cond-false (same_name g.name x) (Some g) (simpl_fn fs x) b) ∙ e))

-- a function with its signature
pub record IsSigned (f : SimplFn) (s : Signature) : Type 0 where
  pub params : come_first s.params f.locals ≡ true
  pub result : holds_result s.result f.locals ≡ true

module _ (x : Name) (s : Signature) where
  signed_here : (f : SimplFn) (fs : List SimplFn) (r : Signature) (ss : List Signature) → are_signed (f ∷ fs) (r ∷ ss) ≡ true →
      (same_name f.name r.name ≡ true) × IsSigned f r × (are_signed fs ss ≡ true)
  signed_here f fs r ss h =
      let p = and_parts (((same_name f.name r.name && same_level f.level r.level) && come_first r.params f.locals) && holds_result r.result f.locals) (are_signed fs ss) h in
      let q = and_parts ((same_name f.name r.name && same_level f.level r.level) && come_first r.params f.locals) (holds_result r.result f.locals) p.0 in
      let d = and_parts (same_name f.name r.name && same_level f.level r.level) (come_first r.params f.locals) q.0 in
      let n = and_parts (same_name f.name r.name) (same_level f.level r.level) d.0 in
      (n.0, record { params = d.1; result = q.1 }, p.1)

  pub signed_fn : (fs : List SimplFn) (ss : List Signature) → are_signed fs ss ≡ true → signature ss x ≡ Some s → (f : SimplFn) × (simpl_fn fs x ≡ Some f) × IsSigned f s
  signed_fn [] [] h e = absurd cc
  signed_fn [] (r ∷ ss) h e = absurd (false≢true h)
  signed_fn (f ∷ fs) [] h e = absurd (false≢true h)
  signed_fn (f ∷ fs) (r ∷ ss) h e =
      let w = signed_here f fs r ss h in
      let same : f.name ≡ r.name = name_is f.name r.name w.0 in
      by_test (same_name r.name x)
      (λ b.
      let own : r ≡ s = same_signature (sym (cond-true (same_name r.name x) (Some r) (signature ss x) b) ∙ e) in
      (f, cond-true (same_name f.name x) (Some f) (simpl_fn fs x) (subst (λ n. same_name n x ≡ true) (sym same) b), subst (λ q. IsSigned f q) own w.1))
      (λ b.
      let later = signed_fn fs ss w.2 (sym (cond-false (same_name r.name x) (Some r) (signature ss x) b) ∙ e) in
      (later.0, cond-false (same_name f.name x) (Some f) (simpl_fn fs x) (subst (λ n. same_name n x ≡ false) (sym same) b) ∙ later.1, later.2))

-- the kind of the local that holds the result
pub result_there : (k : Kind) (o : Option Kind) → is_kind_of k o ≡ true → o ≡ Some k
result_there k (Some j) h = ap (λ i. Some i) (sym (same_kind_is k j h))
result_there k None h = absurd (false≢true h)
