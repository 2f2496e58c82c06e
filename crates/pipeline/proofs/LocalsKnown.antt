-- What is known of the locals of a generated function: the sort of each, and that its parameters are among them.
use Rattle.std.proofs.Common.{◌≡◌, Bool, true, false, not, cond, ◌||◌, List, [], ◌∷◌, ◌++◌, map, Option, Some, None, ◌⊎◌, inl, inr, refl, sym, ap, ◌∙◌}
use Rattle.std.proofs.lemmas.Bool.{false≢true, and_parts, and_from, not-true, not_from_false, cond_both, false_from_ne_true, true≢false}
use Rattle.c_values.specs.Name.{Name, same_name, with_name, is_among, are_distinct}
use Rattle.c_values.specs.Types.{Target, CType}
use Rattle.c_values.specs.Layout.{scalar_width}
use Rattle.c_values.proofs.Options.{some_is, none_is}
use Rattle.expression_lang.specs.Sort.{Level, Scalar, WordSort, Kind, WordKind, are_kinds, word_sort_of, sort_of_kind}
use Rattle.expression_lang.specs.Signature.{Binder, Signature, kind_at, names_of, kinds_of, signature}
use Rattle.expression_lang.specs.Sorted.{names_with, call_scalars}
use Rattle.simpl_lang.specs.Command.{kind_of}
use Rattle.monad_lang.specs.Agree.{AgreeOn}
use Rattle.simpl_lang.proofs.SameKinds.{local_is_kind}
use Rattle.rule_local.proofs.InScope.{local_in_scope}
use Rattle.rule_local.proofs.LiftedTaken.{local_kind}
use Rattle.rule_local.proofs.LiftedSorted.{scalar_there, Known}
use Rattle.rule_word.specs.Scopes.{names_in, with_kinds}
use Rattle.rule_word.specs.ProgramsAbstracted.{is_word_or_truth}
use Rattle.rule_word.proofs.ScopesAfter.{names_after}
use Rattle.c_lang.specs.Typed as C
use Rattle.c_lang.specs.WellTyped.{variable_type}
use Rattle.c_meaning.specs.Kinds.{variables}
use Rattle.generation.proofs.SortedCommands.{kind_word}
use Rattle.rule_local.proofs.UnitsSorted.{local_scalar}

abbrev pub scalars_among : List Binder → (Name → Option Scalar) → Name → Option Scalar
scalars_among bs ms = names_with (names_of bs) (map word_sort_of (kinds_of bs)) ms

-- of the first of two lists

first_kind : (ps bs : List Binder) (y : Name) (k : Kind) → kind_of ps y ≡ Some k → kind_of (ps ++ bs) y ≡ Some k
first_kind [] bs y k h = none_is h
first_kind (p ∷ ps) bs y k h = by_test (same_name p.name y) h (first_kind ps bs y k)
  where
    by_test : (t : Bool) → cond t (Some p.kind) (kind_of ps y)
        ≡ Some k → (kind_of ps y ≡ Some k → kind_of (ps ++ bs) y ≡ Some k) → cond t (Some p.kind) (kind_of (ps ++ bs) y) ≡ Some k
    by_test true j r = j
    by_test false j r = r j

first_among : (ps bs : List Binder) (y : Name) → is_among y (names_of ps) ≡ true → is_among y (names_of (ps ++ bs)) ≡ true
first_among [] bs y h = absurd (false≢true h)
first_among (p ∷ ps) bs y h = by_test (same_name y p.name) h (first_among ps bs y)
  where
    by_test : (t : Bool) → (t || is_among y (names_of ps))
        ≡ true → (is_among y (names_of ps) ≡ true → is_among y (names_of (ps ++ bs)) ≡ true) →
        (t || is_among y (names_of (ps ++ bs))) ≡ true
    by_test true j r = refl
    by_test false j r = r j

first_distinct : (ps bs : List Binder) → are_distinct (names_of (ps ++ bs)) ≡ true → are_distinct (names_of ps) ≡ true
first_distinct [] bs d = refl
first_distinct (p ∷ ps) bs d =
    let r = and_parts (not (is_among p.name (names_of (ps ++ bs)))) (are_distinct (names_of (ps ++ bs))) d in
    and_from (not (is_among p.name (names_of ps))) (are_distinct (names_of ps))
    (not_from_false (is_among p.name (names_of ps)) (false_from_ne_true (is_among p.name (names_of ps))
    (λ t. true≢false (sym (first_among ps bs p.name t) ∙ not-true (is_among p.name (names_of (ps ++ bs))) r.0))))
    (first_distinct ps bs r.1)

-- the scope of a function that has these parameters, and that of its body's locals
pub params_agree : (ps bs : List Binder) → are_distinct (names_of (ps ++ bs)) ≡ true →
    AgreeOn (λ y. is_among y (names_of ps)) (names_in word_sort_of (with_kinds (names_of ps) (kinds_of ps) []))
    (scalars_among (ps ++ bs) (λ x. None))
params_agree ps bs d y t =
    let k = local_kind ps y t in
    ap (λ (ms : Name → Option Scalar). ms y) (sym (names_after word_sort_of (names_of ps) (kinds_of ps) []))
    ∙ local_scalar ps (λ x. None) y k.0 (first_distinct ps bs d) k.1 ∙
    sym (local_scalar (ps ++ bs) (λ x. None) y k.0 d (first_kind ps bs y k.0 k.1))

-- variables of the text

variable_kind : (t : Target) (level : Level) (vs : List C.Variable) (y : Name) (u : CType) → variable_type vs y ≡ Some u →
    kind_of (variables t level vs) y ≡ Some (kind_at t level u)
variable_kind t level [] y u h = none_is h
variable_kind t level (v ∷ vs) y u h = by_test (same_name v.name y) h (variable_kind t level vs y u)
  where
    by_test : (b : Bool) → cond b (Some v.type) (variable_type vs y)
        ≡ Some u → (variable_type vs y ≡ Some u → kind_of (variables t level vs) y ≡ Some (kind_at t level u)) →
        cond b (Some (kind_at t level v.type)) (kind_of (variables t level vs) y) ≡ Some (kind_at t level u)
    by_test true j r = ap (λ w. Some (kind_at t level w)) (some_is j)
    by_test false j r = r j

pub variables_known : (t : Target) (level : Level) (vs : List C.Variable) (bs : List Binder) →
    are_distinct (names_of (variables t level vs ++ bs)) ≡ true →
    (x : Name) (u : CType) → variable_type vs x ≡ Some u →
    scalars_among (variables t level vs ++ bs) (λ x. None) x ≡ Some (WordSort (scalar_width t u))
variables_known t level vs bs d x u h =
    local_scalar (variables t level vs ++ bs) (λ x. None) x (kind_at t level u) d
    (first_kind (variables t level vs) bs x (kind_at t level u) (variable_kind t level vs x u h)) ∙
    ap (λ c. Some c) (kind_word t level u)

-- all locals are words or truth values

kind_word_or_truth : (k : Kind) → is_word_or_truth (word_sort_of k) ≡ true
kind_word_or_truth (WordKind n) = refl
kind_word_or_truth _ = refl

pub only_words : (bs : List Binder) (ms : Name → Option Scalar) → ((y : Name) → is_word_or_truth (scalar_there (ms y)) ≡ true) →
    (y : Name) → is_word_or_truth (scalar_there (scalars_among bs ms y)) ≡ true
only_words [] ms h y = h y
only_words (b ∷ bs) ms h y =
    only_words bs (with_name b.name (Some (word_sort_of b.kind)) ms)
    (λ z. cond_both (same_name b.name z) (Some (word_sort_of b.kind)) (ms z) (λ o. is_word_or_truth (scalar_there o) ≡ true)
    (λ e. kind_word_or_truth b.kind) (λ e. h z)) y

pub locals_known : (bs : List Binder) (ss calls : List Signature) → are_kinds (kinds_of bs) ≡ true →
    are_distinct (names_of bs) ≡ true →
    ((f : Name) (o : Option (List Scalar)) →
    call_scalars sort_of_kind (signature calls f) o ≡ call_scalars word_sort_of (signature ss f) o) →
    Known (scalars_among bs (λ x. None)) bs ss calls
locals_known bs ss calls h d same = record {
  kinds = λ x k e. (local_scalar bs (λ x. None) x k d e, local_is_kind bs x k h e);
  locals = λ x t. local x (local_in_scope x bs (λ x. None) t);
  distinct = d;
  calls = same;
}
  where
    local : (x : Name) → (false ≡ true) ⊎ (is_among x (names_of bs) ≡ true) → is_among x (names_of bs) ≡ true
    local x (inl t) = absurd (false≢true t)
    local x (inr t) = t
