-- Which programs on words become programs on numbers: each sum, negation and signed division stands where one of its ranges is known,
-- by facts as they flow on the right side. It walks as the translation does.
use Rattle.std.specs.Prelude.{Bool, true, false, not, ◌&&◌, ◌||◌, List, [], ◌∷◌, Option}
use Rattle.c_values.specs.Name.{Name}
use Rattle.expression_lang.specs.Expression as X
use Rattle.expression_lang.specs.Expression.{Exp, Path}
use Rattle.expression_lang.specs.Form.{is_arithmetic, is_negation}
use Rattle.expression_lang.specs.Sort.{Kind, Scope, Level, Bytes, Words as AtWords, Numbers}
use Rattle.expression_lang.specs.Signature.{Binder}
use Rattle.ac_expr.specs.Fact.{Fact, Whole, NotTrue}
use Rattle.monad_lang.specs.Form.{is_bytes, is_heaps, is_numbers}
use Rattle.monad_lang.specs.Program as M
use Rattle.monad_lang.specs.Program.{Mon, Place, Start}
use Rattle.monad_lang.specs.Run.{start_names}
use Rattle.monad_lang.specs.Sorted.{scalars_given}
use Rattle.program_facts.specs.Flow.{facts_after}
use Rattle.rule_word.specs.Rule.{Context, Unsigned, Signed}
use Rattle.rule_word.specs.Scopes.{with_kinds, words, own, width_in}
use Rattle.rule_word.specs.Table.{truth}
use Rattle.rule_word.specs.Bases.{Surroundings, under, among, Base, Words}
use Rattle.rule_word.specs.WordsAbstracted.{or_zero, operands, binary_base, negation_base, abstracted}
use Rattle.rule_word.specs.ProgramsAbstracted.{kinds_for, scalars_there, binds_words, exp_at, guard_at, program_abstracted}

abbrev pub is_numbers_level : Level → Bool
is_numbers_level Numbers = true
is_numbers_level level = false

abbrev pub is_no_word : Base → Bool
is_no_word Words = false
is_no_word b = true

-- where words are to be numbers, an operation that numbers have is one of numbers
abbrev pub is_exact : Bool → Bool → Base → Bool
is_exact numbers has_numbers b = not numbers || not has_numbers || is_no_word b

module _ (same : Exp → Exp → Bool) (numbers : Bool) (g : Scope) (names : List Binder) where
  abbrev mutual
    pub ready : Surroundings → Exp → Bool
    ready fs (X.Var x) = true
    ready fs (X.WordLit w) = true
    ready fs (X.NumberLit n) = true
    ready fs (X.TruthLit b) = true
    ready fs (X.WordBinary op a b) =
        let n = or_zero (width_in g a) in
        let os = operands (λ w. abstracted same numbers g names fs a w) (λ w. abstracted same numbers g names fs b w)
        (own g a) (own g b) n in
        is_exact numbers (is_arithmetic op) (binary_base same numbers fs n op os) && ready fs a && ready fs b
    ready fs (X.WordShift op a n) = ready fs a && ready fs n
    ready fs (X.WordUnary op a) =
        let n = or_zero (width_in g a) in
        is_exact numbers (is_negation op)
        (negation_base same numbers fs n op (abstracted same numbers g names fs a (Unsigned n))
        (abstracted same numbers g names fs a (Signed n))) && ready fs a
    ready fs (X.WordCompare test a b) = ready fs a && ready fs b
    ready fs (X.Cast op m a) = ready fs a
    ready fs (X.ToNat a) = ready fs a
    ready fs (X.ToInt a) = ready fs a
    ready fs (X.ToWord m a) = ready fs a
    ready fs (X.Arith op a b) = ready fs a && ready fs b
    ready fs (X.Negate a) = ready fs a
    ready fs (X.Lt a b) = ready fs a && ready fs b
    ready fs (X.Le a b) = ready fs a && ready fs b
    ready fs (X.Between low a high) = ready fs a
    ready fs (X.Eq a b) = ready fs a && ready fs b
    ready fs (X.And a b) = ready fs a && ready (under (Whole (abstracted same numbers g names fs a truth).right) fs) b
    ready fs (X.Or a b) = ready fs a && ready (under (NotTrue (abstracted same numbers g names fs a truth).right) fs) b
    ready fs (X.Imp a b) = ready fs a && ready (under (Whole (abstracted same numbers g names fs a truth).right) fs) b
    ready fs (X.Not a) = ready fs a
    ready fs (X.If c a b) =
        let t = abstracted same numbers g names fs c truth in ready fs c && ready (under (Whole t.right) fs) a && ready
        (under (NotTrue t.right) fs) b
    ready fs (X.Padd t p n) = ready fs p && ready fs n
    ready fs (X.At t p path) = ready fs p && path_ready fs path
    ready fs (X.Load t p path) = ready fs p && path_ready fs path
    ready fs (X.Read t p path) = ready fs p && path_ready fs path
    ready fs (X.Tagged t p) = ready fs p
    ready fs (X.PtrOk t p) = ready fs p
    ready fs (X.Global x path) = path_ready fs path
    ready fs (X.Sel e path) = ready fs e && path_ready fs path
    ready fs (X.Upd e path v) = ready fs e && path_ready fs path && ready fs v

    pub path_ready : Surroundings → Path → Bool
    path_ready fs X.Here = true
    path_ready fs (X.IntoField k path) = path_ready fs path
    path_ready fs (X.IntoElement e path) = ready fs e && path_ready fs path

module _ (same : Exp → Exp → Bool) (numbers : Bool) (ctx : Context) (table : Name → Option Kind) where
  abbrev pub exp_ready : List Fact → List Binder → Exp → Bool
  exp_ready fs names e = ready same numbers (words ctx names).scope names (among fs) e

  -- a loop's guard
  abbrev pub guard_ready : List Fact → List Binder → Exp → Bool
  guard_ready fs names (X.And a b) =
      exp_ready fs names a && guard_ready (Whole (exp_at same numbers ctx names fs a truth).right ∷ fs) names b
  guard_ready fs names e = exp_ready fs names e

  abbrev pub all_ready : List Fact → List Binder → List Exp → Bool
  all_ready fs names [] = true
  all_ready fs names (e ∷ es) = exp_ready fs names e && all_ready fs names es

  abbrev pub starts_ready : List Fact → List Binder → List Start → Bool
  starts_ready fs names [] = true
  starts_ready fs names (x ∷ xs) = exp_ready fs names x.exp && starts_ready fs names xs

  abbrev pub place_ready : List Fact → List Binder → Place → Bool
  place_ready fs names (M.Stored t p path) =
      exp_ready fs names p && path_ready same numbers (words ctx names).scope names (among fs) path
  place_ready fs names (M.Written t p path) =
      exp_ready fs names p && path_ready same numbers (words ctx names).scope names (among fs) path
  place_ready fs names (M.Global x path) = path_ready same numbers (words ctx names).scope names (among fs) path

  abbrev pub program_ready : List Fact → List Binder → Mon → List Kind → Bool
  program_ready fs names (M.Ret es) ks = all_ready fs names es
  program_ready fs names (M.Bind m xs n) ks =
      let js = kinds_for table xs (scalars_there (scalars_given (words ctx names) m)) in
      let a = program_abstracted same numbers ctx table fs names m js in
      program_ready fs names m js && program_ready (facts_after a.right xs fs) (with_kinds xs js names) n ks
  program_ready fs names (M.Guard e) ks = exp_ready fs names e
  program_ready fs names (M.If e m n) ks =
      let x = exp_at same numbers ctx names fs e truth in
      exp_ready fs names e && program_ready (Whole x.right ∷ fs) names m ks && program_ready (NotTrue x.right ∷ fs)
      names n ks
  program_ready fs names (M.Write place e) ks = place_ready fs names place && exp_ready fs names e
  program_ready fs names (M.Loop starts guard test m) ks =
      let inner = with_kinds (start_names starts) ks names in
      let c = guard_at same numbers ctx inner [] guard in
      let t = exp_at same numbers ctx inner (Whole c.right ∷ []) test truth in
      starts_ready fs names starts && guard_ready [] inner guard && exp_ready (Whole c.right ∷ []) inner test &&
      program_ready (Whole t.right ∷ Whole c.right ∷ []) inner m ks
  program_ready fs names (M.Call f es) ks = all_ready fs names es
  program_ready fs names (M.Pick k) ks = true

  -- a function's body, whose parameters and results have these kinds
  abbrev pub is_word_ready : List Binder → Mon → List Kind → Bool
  is_word_ready names m ks = binds_words (words ctx names) m && program_ready [] names m ks

-- the form of a level's programs after this phase
abbrev pub is_form_of : Level → Mon → Bool
is_form_of Bytes m = is_bytes m
is_form_of AtWords m = is_heaps m
is_form_of Numbers m = is_numbers m

-- and before it
abbrev pub is_heap_form_of : Level → Mon → Bool
is_heap_form_of Bytes m = is_bytes m
is_heap_form_of AtWords m = is_heaps m
is_heap_form_of Numbers m = is_heaps m
