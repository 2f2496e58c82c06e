-- What the functions of a generated unit take and give: values of kinds that there are, under names that differ; and what
-- is found under a name among their signatures.
use Rattle.std.proofs.Common.{◌≡◌, Bool, true, false, cond, ◌&&◌, List, [], ◌∷◌, map, Option, Some, None, refl, sym, subst, ap, ap₂, ◌∙◌}
use Rattle.std.proofs.lemmas.Bool.{false≢true, and_parts}
use Rattle.c_values.specs.Name.{Name, same_name, are_distinct}
use Rattle.c_values.specs.Layout.{Layout}
use Rattle.c_values.proofs.Laid.{name_is}
use Rattle.expression_lang.specs.Sort.{Level, is_lifted, Kind, WordKind, is_kind, are_kinds, sort_of_kind}
use Rattle.expression_lang.specs.Signature.{Binder, Signature, names_of, kinds_of, signature}
use Rattle.simpl_lang.specs.Command.{SimplFn}
use Rattle.simpl_lang.specs.Sorted.{IsWellFormed}
use Rattle.monad_lang.specs.Program.{FinalFn, FinalUnit}
use Rattle.monad_lang.specs.Sorted.{has_few, are_scalars, scalars_given, setting_of, is_fn_sorted, are_fns_sorted}
use Rattle.rule_local.specs.Table.{word_kind}
use Rattle.rule_local.specs.Lifted.{in_words, result_in_words, function_lifted, functions_lifted, unit_lifted}
use Rattle.rule_local.proofs.UnitsSorted.{unit_formed}
use Rattle.rule_word.specs.Scopes.{result_as_list}
use Rattle.rule_local.proofs.UnitsLifted.{words_named}
use Rattle.c_lang.specs.Typed.{TypedFn, TypedUnit}
use Rattle.generation.specs.Generate.{function_of, signature_of, generated}
use Rattle.acceptance.specs.Accepted.{is_lifted_there}

pub record IsSigned (s : Signature) : Type 0 where
  pub params : are_kinds (kinds_of s.params) ≡ true
  pub results : are_kinds (result_as_list s.result) ≡ true
  pub distinct : are_distinct (names_of s.params) ≡ true

abbrev pub AreSigned : List Signature → Type 0
AreSigned [] = Unit {0}
AreSigned (s ∷ ss) = IsSigned s × AreSigned ss

-- a kind of words is there where the kind is

word_there : (k : Kind) → is_kind (word_kind k) ≡ is_kind k
word_there (WordKind n) = refl
word_there _ = refl

pub words_there : (bs : List Binder) → are_kinds (kinds_of (in_words bs)) ≡ are_kinds (kinds_of bs)
words_there [] = refl
words_there (b ∷ bs) = ap₂ (λ p q. p && q) (word_there b.kind) (words_there bs)

pub result_there : (r : Option Kind) → are_kinds (result_in_words r) ≡ are_kinds (result_as_list r)
result_there None = refl
result_there (Some k) = ap (λ b. b && true) (word_there k)

-- of a function that is lifted to a well-sorted one
signed_as_lifted : (v : FinalUnit) (f : FinalFn) (s : Signature) → f.params ≡ in_words s.params →
    f.results ≡ result_in_words s.result → is_fn_sorted v f ≡ true → IsSigned s
signed_as_lifted v f s ps rs h =
    let gives = are_scalars (map sort_of_kind f.results) (scalars_given (setting_of v f) f.body) in
    let p = and_parts (are_kinds (kinds_of f.params) && are_kinds f.results && are_distinct (names_of f.params)
    && has_few f.results) gives h in
    let q = and_parts (are_kinds (kinds_of f.params) && are_kinds f.results && are_distinct (names_of f.params))
    (has_few f.results) p.0 in
    let r = and_parts (are_kinds (kinds_of f.params) && are_kinds f.results) (are_distinct (names_of f.params)) q.0 in
    let t = and_parts (are_kinds (kinds_of f.params)) (are_kinds f.results) r.0 in
    record {
      params = sym (words_there s.params) ∙ ap (λ bs. are_kinds (kinds_of bs)) (sym ps) ∙ t.0;
      results = sym (result_there s.result) ∙ ap are_kinds (sym rs) ∙ t.1;
      distinct = ap are_distinct (sym (words_named s.params)) ∙ ap (λ bs. are_distinct (names_of bs)) (sym ps) ∙ r.1;
    }

-- what generation makes of functions over a layout, at levels
abbrev pub made : Layout → (Name → Level) → List TypedFn → List SimplFn
made l levels fs = map (λ f. function_of l (levels f.name) f) fs

abbrev pub signed : Layout → (Name → Level) → List TypedFn → List Signature
signed l levels fs = map (λ f. signature_of l (levels f.name) f) fs

module _ (l : Layout) (levels : Name → Level) where
  signed_in : (v : FinalUnit) (fs : List TypedFn) →
      are_fns_sorted v (functions_lifted (made l levels fs) (signed l levels fs)) ≡ true → AreSigned (signed l levels fs)
  signed_in v [] h = tt
  signed_in v (f ∷ fs) h =
      let s = signature_of l (levels f.name) f in
      let g = function_lifted (function_of l (levels f.name) f) s in
      let p = and_parts (is_fn_sorted v g) (are_fns_sorted v (functions_lifted (made l levels fs) (signed l levels fs))) h in
      (signed_as_lifted v g s refl refl p.0, signed_in v fs p.1)

  -- a function that is there and lifted is at a lifted level
  pub lifted_level : (fs : List TypedFn) (x : Name) → is_lifted_there (signature (signed l levels fs) x) ≡ true →
      is_lifted (levels x) ≡ true
  lifted_level [] x h = absurd (false≢true h)
  lifted_level (f ∷ fs) x h = by_test (same_name f.name x) refl h (lifted_level fs x)
    where
      by_test : (b : Bool) → same_name f.name x ≡ b →
          is_lifted_there (cond b (Some (signature_of l (levels f.name) f)) (signature (signed l levels fs) x)) ≡ true →
          (is_lifted_there (signature (signed l levels fs) x) ≡ true → is_lifted (levels x) ≡ true) →
          is_lifted (levels x) ≡ true
      by_test true e k rest = subst (λ y. is_lifted (levels y) ≡ true) (name_is f.name x e) k
      by_test false e k rest = rest k

pub generated_signed : (u : TypedUnit) (levels : Name → Level) → IsWellFormed (generated u levels) →
    AreSigned (generated u levels).signatures
generated_signed u levels formed =
    signed_in u.layout levels (unit_lifted (generated u levels)) u.functions
    (unit_formed (generated u levels) formed).functions
