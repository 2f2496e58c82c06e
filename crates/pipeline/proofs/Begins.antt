-- The calls with which the runs begin, one for each unit of the chain.
use Rattle.std.proofs.Common.{◌≡◌, Bool, true, false, cond, List, [], ◌∷◌, map, Option, Some, None}
use Rattle.std.proofs.Common.{refl, sym, subst, ap, ap₂, ◌∙◌}
use Rattle.c_values.specs.Name.{Name, same_name}
use Rattle.c_values.specs.Types.{Target}
use Rattle.c_values.specs.Value.{Value, Bits, Number, Truth}
use Rattle.c_values.specs.Layout.{Layout, IsLayout}
use Rattle.c_values.proofs.Laid.{name_is}
use Rattle.c_values.proofs.Options.{none_some, some_is}
use Rattle.c_memory.specs.Memory.{Memory}
use Rattle.c_memory.specs.Tags.{AreTags, IsWellTagged}
use Rattle.c_memory.specs.Heap.{IsHeap}
use Rattle.c_memory.specs.LevelHeap.{heap_for}
use Rattle.c_memory.proofs.Cells.{tags_viewed, view_fits}
use Rattle.expression_lang.specs.Sort.{Level, Kind, WordKind, NatKind, IntKind, BoolKind, sort_of_kind, word_sort_of}
use Rattle.expression_lang.specs.States.{IsOfSort}
use Rattle.expression_lang.specs.View.{IsOfKind, AreOfKinds, views_at}
use Rattle.expression_lang.specs.Signature.{Signature, kinds_of, signature}
use Rattle.program_facts.specs.Lasting.{AreOfSorts}
use Rattle.monad_lang.specs.Program.{FinalFn}
use Rattle.monad_lang.specs.Sorted.{signature_of}
use Rattle.rule_local.specs.Kept.{HasEach}
use Rattle.rule_word.specs.Scopes.{result_as_list}
use Rattle.rule_word.proofs.InRange.{views_fit}
use Rattle.c_lang.specs.Typed.{TypedFn, Variable, typed_fn}
use Rattle.c_meaning.specs.Fitting.{AreOfTypes}
use Rattle.c_meaning.specs.Kinds.{variables}
use Rattle.generation.proofs.SortedCommands.{kind_word}
use Rattle.exactness.specs.Exact.{results_of, IsProgramOf, ArePrograms}
use Rattle.pipeline.specs.Whole.{word_sorts, TakesWords, AllTakeWords}

-- Arguments

-- at whatever level, the kinds of variables are of words of their types
pub kinds_are_words : (t : Target) (level : Level) (xs : List Variable) →
    map word_sort_of (kinds_of (variables t level xs)) ≡ word_sorts t xs
kinds_are_words t level [] = refl
kinds_are_words t level (x ∷ xs) = ap₂ (λ s ss. s ∷ ss) (kind_word t level x.type) (kinds_are_words t level xs)

pub types_sorted : (l : Layout) (xs : List Variable) (vs : List Value) → AreOfTypes l xs vs →
    AreOfSorts (word_sorts l.target xs) vs
types_sorted l [] [] h = tt
types_sorted l (x ∷ xs) (v ∷ vs) h = (h.0, types_sorted l xs vs h.1)
types_sorted l [] (v ∷ vs) h = absurd h
types_sorted l (x ∷ xs) [] h = absurd h

pub types_fill : (l : Layout) (level : Level) (xs : List Variable) (vs : List Value) → AreOfTypes l xs vs →
    HasEach (variables l.target level xs) vs
types_fill l level [] vs h = tt
types_fill l level (x ∷ xs) (v ∷ vs) h = types_fill l level xs vs h.1
types_fill l level (x ∷ xs) [] h = absurd h

kind_sorted : (k : Kind) (v : Value) → IsOfKind k v → IsOfSort (sort_of_kind k) v
kind_sorted (WordKind n) (Bits w) h = h
kind_sorted (NatKind n) (Number z) h = tt
kind_sorted (IntKind n) (Number z) h = tt
kind_sorted BoolKind (Truth b) h = tt
kind_sorted _ _ h = absurd h

-- values of kinds are of the kinds' sorts
pub kinds_sorted : (ks : List Kind) (vs : List Value) → AreOfKinds ks vs → AreOfSorts (map sort_of_kind ks) vs
kinds_sorted [] [] h = tt
kinds_sorted (k ∷ ks) (v ∷ vs) h = (kind_sorted k v h.0, kinds_sorted ks vs h.1)
kinds_sorted [] (v ∷ vs) h = absurd h
kinds_sorted (k ∷ ks) [] h = absurd h

-- and what words stand for at the kinds is of the kinds
pub views_are_of_kinds : (l : Layout) (level : Level) (xs : List Variable) (vs : List Value) → AreOfTypes l xs vs →
    AreOfKinds (kinds_of (variables l.target level xs)) (views_at (kinds_of (variables l.target level xs)) vs)
views_are_of_kinds l level xs vs h =
    views_fit (kinds_of (variables l.target level xs)) vs
    (subst (λ ss. AreOfSorts ss vs) (sym (kinds_are_words l.target level xs)) (types_sorted l xs vs h))

-- Heaps

-- the heap of a level, for a well-tagged memory, can be
pub heap_can_be : (l : Layout) (lifted : Bool) (m : Memory) → IsLayout l → IsWellTagged l m → IsHeap l (heap_for l lifted m)
heap_can_be l true m lay h =
    (subst (λ ts. AreTags l ts) (sym (tags_viewed l m.bytes m.tags)) h.tags, view_fits l lay m.bytes h.bytes m.tags h.tags)
heap_can_be l false m lay h = h

-- Functions

pub found_name : (fs : List TypedFn) (x : Name) (f : TypedFn) → typed_fn fs x ≡ Some f → f.name ≡ x
found_name [] x f e = absurd (none_some e)
found_name (g ∷ fs) x f e = by_test (same_name g.name x) (λ b. name_is g.name x b) (found_name fs x f) e
  where
    by_test : (b : Bool) → (b ≡ true → g.name ≡ x) → (typed_fn fs x ≡ Some f → f.name ≡ x) →
        cond b (Some g) (typed_fn fs x) ≡ Some f → f.name ≡ x
    by_test true h rest i = ap (λ (k : TypedFn). k.name) (sym (some_is i)) ∙ h refl
    by_test false h rest i = rest i

module _ (t : Target) (x : Name) (f : TypedFn) where
  -- what a unit has under the name takes words of the function's parameters
  pub record WordsThere (o : Option Signature) : Type 0 where
    pub callee : Signature
    pub found : o ≡ Some callee
    pub sorts : map sort_of_kind (kinds_of callee.params) ≡ word_sorts t f.params

  words_by : (h : TypedFn) (g : FinalFn) → TakesWords t h g → (o : Option TypedFn) (q : Option Signature) →
      (o ≡ Some f → WordsThere q) → (b : Bool) → cond b (Some h) o ≡ Some f → WordsThere (cond b (Some (signature_of g)) q)
  words_by h g w o q rest true e = record {
    callee = signature_of g;
    found = refl;
    sorts = w.params ∙ ap (λ (k : TypedFn). word_sorts t k.params) (some_is e);
  }
  words_by h g w o q rest false e = rest e

  pub words_there : (fs : List TypedFn) (gs : List FinalFn) → AllTakeWords t fs gs → typed_fn fs x ≡ Some f →
      WordsThere (signature (map signature_of gs) x)
  words_there [] [] w e = absurd (none_some e)
  words_there (h ∷ fs) (g ∷ gs) w e =
      subst (λ y. WordsThere (cond (same_name y x) (Some (signature_of g)) (signature (map signature_of gs) x))) (sym w.0.name)
      (words_by h g w.0 (typed_fn fs x) (signature (map signature_of gs) x) (words_there fs gs w.1) (same_name h.name x) e)
  words_there [] (g ∷ gs) w e = absurd w
  words_there (h ∷ fs) [] w e = absurd w

  module _ (levels : Name → Level) where
    -- and it is the function's program
    pub record ProgramThere (o : Option Signature) : Type 0 where
      pub program : FinalFn
      pub found : o ≡ Some (signature_of program)
      pub is_program : IsProgramOf t (levels f.name) f program

    program_by : (h : TypedFn) (g : FinalFn) → IsProgramOf t (levels h.name) h g → (o : Option TypedFn) (q : Option Signature) →
        (o ≡ Some f → ProgramThere q) → (b : Bool) → cond b (Some h) o ≡ Some f → ProgramThere (cond b (Some (signature_of g)) q)
    program_by h g w o q rest true e =
        record { program = g; found = refl; is_program = subst (λ k. IsProgramOf t (levels k.name) k g) (some_is e) w }
    program_by h g w o q rest false e = rest e

    pub program_there : (fs : List TypedFn) (gs : List FinalFn) → ArePrograms t levels fs gs → typed_fn fs x ≡ Some f →
        ProgramThere (signature (map signature_of gs) x)
    program_there [] [] w e = absurd (none_some e)
    program_there (h ∷ fs) (g ∷ gs) w e =
        subst (λ y. ProgramThere (cond (same_name y x) (Some (signature_of g)) (signature (map signature_of gs) x)))
        (sym w.0.name)
        (program_by h g w.0 (typed_fn fs x) (signature (map signature_of gs) x) (program_there fs gs w.1) (same_name h.name x) e)
    program_there [] (g ∷ gs) w e = absurd w
    program_there (h ∷ fs) [] w e = absurd w

-- a program with these results gives these kinds
given_kinds : (g : FinalFn) (r : Option Kind) →
    result_as_list (signature_of (record g { results = results_of r })).result ≡ result_as_list r
given_kinds g None = refl
given_kinds g (Some k) = refl

pub results_there : (g : FinalFn) (r : Option Kind) → g.results ≡ results_of r →
    result_as_list (signature_of g).result ≡ result_as_list r
results_there g r e =
    subst (λ ks. result_as_list (signature_of (record g { results = ks })).result ≡ result_as_list r) (sym e) (given_kinds g r)
