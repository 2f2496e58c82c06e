-- The kinds of parameters and results, of a well-formed unit, are kinds.
use Rattle.std.proofs.Common.{◌≡◌, Bool, true, false, cond, ◌&&◌, List, [], ◌∷◌, Option, Some, None, refl, sym, subst, eqb-true}
use Rattle.std.proofs.lemmas.Bool.{and_parts, and_from}
use Rattle.c_values.specs.Name.{Name, same_name, are_distinct}
use Rattle.expression_lang.specs.Sort.{Scalar, Kind, WordKind, NatKind, IntKind, BoolKind, is_kind, are_kinds, word_sort_of}
use Rattle.expression_lang.specs.Signature.{Binder, Signature, names_of, kinds_of, signature}
use Rattle.expression_lang.specs.Sorted.{call_scalars, result_scalars}
use Rattle.expression_text.specs.Lists.{each}
use Rattle.simpl_lang.specs.Command.{SimplFn, SimplUnit, kind_of}
use Rattle.simpl_lang.specs.Exec.{result_local}
use Rattle.simpl_lang.specs.Sorted.{same_kind, same_level, come_first, is_kind_of, holds_result, are_signed, is_sorted, scope_of, are_fns_sorted}
use Rattle.rule_word.specs.Scopes.{result_as_list}
use Rattle.rule_word.specs.Kept.{kinds_given}
use Rattle.rule_word.proofs.ProgramSorts.{call_inv}
use Rattle.rule_word.proofs.ProgramWidths.{AllWide, WideCalls}

same_is : (j k : Kind) → same_kind j k ≡ true → is_kind k ≡ true → is_kind j ≡ true
same_is (WordKind m) (WordKind n) e h = let i : m ≡ n = eqb-true m n e in subst (λ w. is_kind (WordKind w) ≡ true) (sym i) h
same_is (NatKind m) (NatKind n) e h = let i : m ≡ n = eqb-true m n e in subst (λ w. is_kind (NatKind w) ≡ true) (sym i) h
same_is (IntKind m) (IntKind n) e h = let i : m ≡ n = eqb-true m n e in subst (λ w. is_kind (IntKind w) ≡ true) (sym i) h
same_is BoolKind k e h = refl
same_is _ _ e h = absurd cc

-- parameters, among the locals
pub first_kinds : (ps bs : List Binder) → come_first ps bs ≡ true → are_kinds (kinds_of bs) ≡ true → each is_kind (kinds_of ps) ≡ true
first_kinds [] bs h k = refl
first_kinds (p ∷ ps) [] h k = absurd cc
first_kinds (p ∷ ps) (b ∷ bs) h k =
    let i = and_parts (same_name p.name b.name && same_kind p.kind b.kind) (come_first ps bs) h in
    let j = and_parts (same_name p.name b.name) (same_kind p.kind b.kind) i.0 in
    let l = and_parts (is_kind b.kind) (are_kinds (kinds_of bs)) k in
    and_from (is_kind p.kind) (each is_kind (kinds_of ps)) (same_is p.kind b.kind j.1 l.0) (first_kinds ps bs i.1 l.1)

-- the result, in a local
kind_held : (j : Kind) (bs : List Binder) (x : Name) → is_kind_of j (kind_of bs x) ≡ true → are_kinds (kinds_of bs) ≡ true →
    is_kind j ≡ true
kind_held j [] x h k = absurd cc
kind_held j (b ∷ bs) x h k =
    let l = and_parts (is_kind b.kind) (are_kinds (kinds_of bs)) k in
    by_test (same_name b.name x) h l.0 (λ i. kind_held j bs x i l.1)
  where
    by_test : (c : Bool) → is_kind_of j (cond c (Some b.kind) (kind_of bs x)) ≡ true → is_kind b.kind ≡ true →
        (is_kind_of j (kind_of bs x) ≡ true → is_kind j ≡ true) → is_kind j ≡ true
    by_test true i w r = same_is j b.kind i w
    by_test false i w r = r i

abbrev pub HasKind : Option Kind → Type 0
HasKind o = each is_kind (result_as_list o) ≡ true

pub result_kind : (o : Option Kind) (bs : List Binder) → holds_result o bs ≡ true → are_kinds (kinds_of bs) ≡ true → HasKind o
result_kind None bs h k = refl
result_kind (Some j) bs h k = and_from (is_kind j) true (kind_held j bs result_local h k) refl

-- of each signature
abbrev pub AllHaveKinds : List Signature → Type 0
AllHaveKinds [] = Unit {0}
AllHaveKinds (s ∷ ss) = HasKind s.result × AllHaveKinds ss

-- what a well-formed unit says of its first function
pub record First (f : SimplFn) (s : Signature) : Type 0 where
  pub kinds : are_kinds (kinds_of f.locals) ≡ true
  pub distinct : are_distinct (names_of f.locals) ≡ true
  pub parameters : come_first s.params f.locals ≡ true
  pub result : holds_result s.result f.locals ≡ true

pub first_and_rest : (u : SimplUnit) (f : SimplFn) (fs : List SimplFn) (s : Signature) (ss : List Signature) →
    are_fns_sorted u (f ∷ fs) ≡ true → are_signed (f ∷ fs) (s ∷ ss) ≡ true →
    First f s × (are_fns_sorted u fs ≡ true) × (are_signed fs ss ≡ true)
first_and_rest u f fs s ss h k =
    let a = and_parts (are_kinds (kinds_of f.locals) && are_distinct (names_of f.locals)
    && is_sorted (scope_of u f) u.signatures f.body) (are_fns_sorted u fs) h in
    let b = and_parts (are_kinds (kinds_of f.locals) && are_distinct (names_of f.locals))
    (is_sorted (scope_of u f) u.signatures f.body) a.0 in
    let c = and_parts (are_kinds (kinds_of f.locals)) (are_distinct (names_of f.locals)) b.0 in
    let p = and_parts (same_name f.name s.name && same_level f.level s.level && come_first s.params f.locals
    && holds_result s.result f.locals) (are_signed fs ss) k in
    let q = and_parts (same_name f.name s.name && same_level f.level s.level && come_first s.params f.locals)
    (holds_result s.result f.locals) p.0 in
    let r = and_parts (same_name f.name s.name && same_level f.level s.level) (come_first s.params f.locals) q.0 in
    (record { kinds = c.0; distinct = c.1; parameters = r.1; result = q.1 }, a.1, p.1)

pub all_have_kinds : (u : SimplUnit) (fs : List SimplFn) (ss : List Signature) → are_fns_sorted u fs ≡ true →
    are_signed fs ss ≡ true → AllHaveKinds ss
all_have_kinds u [] [] h k = tt
all_have_kinds u [] (s ∷ ss) h k = absurd cc
all_have_kinds u (f ∷ fs) [] h k = absurd cc
all_have_kinds u (f ∷ fs) (s ∷ ss) h k =
    let p = first_and_rest u f fs s ss h k in
    (result_kind s.result f.locals p.0.result p.0.kinds, all_have_kinds u fs ss p.1 p.2)

-- calls

wide_kind : (k : Kind) → is_kind k ≡ true → AllWide (word_sort_of k ∷ [])
wide_kind (WordKind n) h = (h, tt)
wide_kind (NatKind n) h = (h, tt)
wide_kind (IntKind n) h = (h, tt)
wide_kind BoolKind h = (tt, tt)

wide_result : (o : Option Kind) → HasKind o → AllWide (result_scalars word_sort_of o)
wide_result None h = tt
wide_result (Some k) h = wide_kind k (and_parts (is_kind k) true h).0

-- a call of a function whose result has a kind gives that
module _ (fs : List Signature) (h : AllHaveKinds fs) where
  abbrev Found : Option Signature → Type 0
  Found None = Unit {0}
  Found (Some s) = HasKind s.result

  found : (ss : List Signature) → AllHaveKinds ss → (x : Name) → Found (signature ss x)
  found [] k x = tt
  found (s ∷ ss) k x = by_test (same_name s.name x) k.0 (found ss k.1 x)
    where
      by_test : (c : Bool) → HasKind s.result → Found (signature ss x) → Found (cond c (Some s) (signature ss x))
      by_test true i r = i
      by_test false i r = r

  given_kinds : (o : Option Signature) → Found o → each is_kind (kinds_given o) ≡ true
  given_kinds None k = refl
  given_kinds (Some s) k = k

  pub given : (x : Name) → each is_kind (kinds_given (signature fs x)) ≡ true
  given x = given_kinds (signature fs x) (found fs h x)

  wide_call : (s : Signature) (o : Option (List Scalar)) (cs : List Scalar) → HasKind s.result →
      call_scalars word_sort_of (Some s) o ≡ Some cs → AllWide cs
  wide_call s o cs k e = subst AllWide (call_inv s o cs e).1 (wide_result s.result k)

  pub wide_calls : WideCalls word_sort_of fs
  wide_calls x o cs e = by_signature (signature fs x) (found fs h x) e
    where
      by_signature : (q : Option Signature) → Found q → call_scalars word_sort_of q o ≡ Some cs → AllWide cs
      by_signature None k i = absurd cc
      by_signature (Some s) k i = wide_call s o cs k i
