-- What functions take and give, along the units that the rules take to each other.
use Rattle.std.proofs.Common.{◌≡◌, List, [], ◌∷◌, map, sym, ap, ap₂, ◌∙◌}
use Rattle.c_values.specs.Name.{Name}
use Rattle.c_values.specs.Types.{Target}
use Rattle.c_values.specs.Layout.{Layout, GlobalVar}
use Rattle.expression_lang.specs.Sort.{Level, sort_of_kind, word_sort_of}
use Rattle.expression_lang.specs.Signature.{Signature, kinds_of}
use Rattle.monad_lang.specs.Program.{FinalFn, FinalUnit}
use Rattle.monad_lang.specs.Sorted.{signature_of}
use Rattle.rule_heap.specs.Units as Heaps
use Rattle.rule_word.specs.Rule.{Context}
use Rattle.rule_word.specs.Kept.{context_of}
use Rattle.rule_word.specs.Units.{AreAbstractedTo}
use Rattle.rule_eq.specs.Exact.{AreAlike}
use Rattle.rule_eq.specs.Units as Equality
use Rattle.c_lang.specs.Typed.{TypedFn}
use Rattle.exactness.specs.Exact.{ArePrograms}
use Rattle.pipeline.specs.Whole.{word_sorts, AllTakeWords}
use Rattle.pipeline.proofs.Begins.{kinds_are_words}

pub same_context : (u v : FinalUnit) → AreAlike u v → context_of u ≡ context_of v
same_context u v h =
    let parts : Layout → List GlobalVar → List Signature → Context =
    λ l vs fs. record { layout = l; globals = vs; functions = fs } in
    sym (ap (λ l. parts l v.globals (map signature_of v.functions)) h.layout
    ∙ ap₂ (λ vs fs. parts u.layout vs fs) h.globals h.functions)

-- Words, from the last programs back to those on bytes

record IsAtKinds (t : Target) (f : TypedFn) (g : FinalFn) : Type 0 where
  pub name : g.name ≡ f.name
  pub params : map word_sort_of (kinds_of g.params) ≡ word_sorts t f.params

abbrev AreAtKinds : Target → List TypedFn → List FinalFn → Type 0
AreAtKinds t [] [] = Unit {0}
AreAtKinds t (f ∷ fs) (g ∷ gs) = IsAtKinds t f g × AreAtKinds t fs gs
AreAtKinds t _ _ = ⊥

module _ (t : Target) where
  before_last : (levels : Name → Level) (u : FinalUnit) (fs : List TypedFn) (hs gs : List FinalFn) → ArePrograms t levels fs hs →
      Equality.AreTakenTo u gs hs → AreAtKinds t fs gs
  before_last levels u [] [] [] p h = tt
  before_last levels u (f ∷ fs) (k ∷ hs) (g ∷ gs) p h = (
    record {
      name = sym h.0.name ∙ p.0.name;
      params = ap (λ bs. map word_sort_of (kinds_of bs)) (sym h.0.parameters ∙ p.0.params)
          ∙ kinds_are_words t (levels f.name) f.params;
    },
    before_last levels u fs hs gs p.1 h.1,
  )
  before_last levels u [] [] (g ∷ gs) p h = absurd h
  before_last levels u [] (k ∷ hs) gs p h = absurd p
  before_last levels u (f ∷ fs) [] gs p h = absurd p
  before_last levels u (f ∷ fs) (k ∷ hs) [] p h = absurd h

  before_numbers : (ctx : Context) (fs : List TypedFn) (hs gs : List FinalFn) → AreAtKinds t fs hs →
      AreAbstractedTo ctx gs hs → AllTakeWords t fs gs
  before_numbers ctx [] [] [] p h = tt
  before_numbers ctx (f ∷ fs) (k ∷ hs) (g ∷ gs) p h =
      (record { name = sym h.0.name ∙ p.0.name; params = h.0.words ∙ p.0.params }, before_numbers ctx fs hs gs p.1 h.1)
  before_numbers ctx [] [] (g ∷ gs) p h = absurd h
  before_numbers ctx [] (k ∷ hs) gs p h = absurd p
  before_numbers ctx (f ∷ fs) [] gs p h = absurd p
  before_numbers ctx (f ∷ fs) (k ∷ hs) [] p h = absurd h

  before_heaps : (l : Layout) (levels : Name → Level) (fs : List TypedFn) (hs gs : List FinalFn) → AllTakeWords t fs hs →
      Heaps.AreTakenTo l levels gs hs → AllTakeWords t fs gs
  before_heaps l levels [] [] [] p h = tt
  before_heaps l levels (f ∷ fs) (k ∷ hs) (g ∷ gs) p h = (
    record {
      name = sym h.0.name ∙ p.0.name;
      params = ap (λ bs. map sort_of_kind (kinds_of bs)) (sym h.0.parameters) ∙ p.0.params;
    },
    before_heaps l levels fs hs gs p.1 h.1,
  )
  before_heaps l levels [] [] (g ∷ gs) p h = absurd h
  before_heaps l levels [] (k ∷ hs) gs p h = absurd p
  before_heaps l levels (f ∷ fs) [] gs p h = absurd p
  before_heaps l levels (f ∷ fs) (k ∷ hs) [] p h = absurd h

  pub bytes_take_words : (levels : Name → Level) (l : Layout) (ctx : Context) (u : FinalUnit) (fs : List TypedFn)
      (locals heaps words lasts : List FinalFn) → Heaps.AreTakenTo l levels locals heaps → AreAbstractedTo ctx heaps words →
      Equality.AreTakenTo u words lasts → ArePrograms t levels fs lasts → AllTakeWords t fs locals
  bytes_take_words levels l ctx u fs locals heaps words lasts to_heaps to_words to_last p =
      before_heaps l levels fs heaps locals
      (before_numbers ctx fs words heaps (before_last levels u fs lasts words p to_last) to_words) to_heaps
