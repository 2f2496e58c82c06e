-- What is known of a place where both sides begin.
use Rattle.std.proofs.Common.{◌≡◌, ℕ, List, map, Option, Some, None, refl, sym, ap, subst, ◌∙◌}
use Rattle.std.specs.Prelude.{slice_get, get_or}
use Rattle.std.specs.Option.{option_map, IsSomeAnd}
use Rattle.std.proofs.lemmas.Option.{slice_get-map, get_or_from_slice_get}
use Rattle.c_values.specs.Name.{Name}
use Rattle.c_memory.specs.Tags.{AreTags, IsWellTagged}
use Rattle.c_memory.specs.Memory.{Memory}
use Rattle.c_memory.specs.CodeHeap as heaps
use Rattle.expression_lang.specs.Sort.{Level, sort_of_kind}
use Rattle.expression_lang.specs.Signature.{kinds_of}
use Rattle.expression_lang.specs.View.{views_at}
use Rattle.program_facts.specs.Lasting.{AreOfSorts}
use Rattle.c_lang.specs.Typed.{typed_fn}
use Rattle.c_lang.specs.CodeTyped.{function_of}
use Rattle.c_lang.specs.declared.tree.TypedFn as T
use Rattle.c_meaning.specs.Kinds.{variables}
use Rattle.exactness.specs.Exact.{IsBegin}
use Rattle.run_start.specs.Start.{bytes_in}
use Rattle.run_start.proofs.Begins as starts
use Rattle.pipeline.proofs.Begins.{found_name, kinds_sorted, views_are_of_kinds}
use Rattle.running.specs.declared.start.Start as S
use Rattle.running.specs.CodeRuns.{unit_at, function_at, memory_at, begin_at, IsStart}

-- what stands at a place of a mapped list is mapped from what stands there
pub some_behind : {A B : Type 0} (v : A → B) (o : Option A) (y : B) → option_map v o ≡ Some y → (x : A) × (o ≡ Some x) × (v x ≡ y)
some_behind v None y e = absurd cc
some_behind v (Some x) y e = (x, refl, cc)

pub behind_map : {A B : Type 0} (v : A → B) (xs : List A) (k : ℕ) (y : B) → slice_get (map v xs) k ≡ Some y → (x : A) × (slice_get xs k ≡ Some x) × (v x ≡ y)
behind_map v xs k y e = some_behind v (slice_get xs k) y (sym (slice_get-map v xs k) ∙ e)

pub mapped : {A B : Type 0} (v : A → B) (xs : List A) (k : ℕ) (x : A) → slice_get xs k ≡ Some x → slice_get (map v xs) k ≡ Some (v x)
mapped v xs k x e = slice_get-map v xs k ∙ ap (option_map v) e

some_there : {X : Type 0} (o : Option X) (P : X → Type 0) → IsSomeAnd o P → (x : X) × (o ≡ Some x) × P x
some_there None P h = absurd h
some_there (Some x) P h = (x, refl, h)

-- what is read at the place where a name was found is the function of that name
pub function_found : (fs gs : List T.TypedFn) (k : ℕ) (x y : Name) (f : T.TypedFn) → gs ≡ fs → x ≡ y →
    IsSomeAnd (slice_get gs k) (λ g. typed_fn (map function_of gs) x ≡ Some (function_of g)) → f ≡ get_or fs k f →
    (typed_fn (map function_of fs) y ≡ Some (function_of f)) × (slice_get (map function_of fs) k ≡ Some (function_of f))
function_found fs gs k x y f same name h read =
    let here = subst (λ hs. IsSomeAnd (slice_get hs k) (λ g. typed_fn (map function_of hs) y ≡ Some (function_of g))) same
    (subst (λ z. IsSomeAnd (slice_get gs k) (λ g. typed_fn (map function_of gs) z ≡ Some (function_of g))) name h) in
    let (g, there, found_here) = some_there (slice_get fs k) _ here in
    let is_it : f ≡ g = read ∙ get_or_from_slice_get fs k g f there in (
      subst (λ e. typed_fn (map function_of fs) y ≡ Some (function_of e)) (sym is_it) found_here,
      subst (λ e. slice_get (map function_of fs) k ≡ Some (function_of e)) (sym is_it) (mapped function_of fs k g there),
    )

module _ (s : S.Start) (is : IsStart s) where
  -- the function is found by its own name
  pub is_named : (function_at s).name ≡ (memory_at s).function
  is_named = found_name (unit_at s).functions (memory_at s).function (function_at s) is.named

  pub found : typed_fn (unit_at s).functions (function_at s).name ≡ Some (function_at s)
  found = subst (λ x. typed_fn (unit_at s).functions x ≡ Some (function_at s)) (sym is_named) is.named

  tags_there : AreTags (unit_at s).layout (memory_at s).tags
  tags_there = ap-tags (heaps.memory_of s.heap.now) (bytes_in (memory_at s)) is.heap is.tagged
    where
      ap-tags : (h m : Memory) → h ≡ m → IsWellTagged (unit_at s).layout h → AreTags (unit_at s).layout m.tags
      ap-tags h m e w = subst (λ (x : Memory). AreTags (unit_at s).layout x.tags) e w.tags

  pub is_begin : IsBegin (unit_at s) (function_at s) (begin_at s)
  is_begin = starts.begins (unit_at s) (function_at s) (memory_at s) is.typed is.named is.memory tags_there

  -- the arguments, at the kinds of the parameters at a level
  pub views_sorted : (level : Level) →
      AreOfSorts (map sort_of_kind (kinds_of (variables (unit_at s).layout.target level (function_at s).params)))
      (views_at (kinds_of (variables (unit_at s).layout.target level (function_at s).params)) (begin_at s).arguments)
  views_sorted level =
      kinds_sorted (kinds_of (variables (unit_at s).layout.target level (function_at s).params)) _
      (views_are_of_kinds (unit_at s).layout level (function_at s).params (begin_at s).arguments is_begin.arguments)
