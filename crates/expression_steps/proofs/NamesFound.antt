-- Names found among bindings, and bindings made of the names of a loop.
use Rattle.std.proofs.Common.{◌≡◌, Bool, true, false, List, [], ◌∷◌, ◌++◌, map, string_bytes, Option, Some, None, refl, sym, ap, ◌∙◌}
use Rattle.std.specs.Prelude.{if◌then◌else◌}
use Rattle.std.proofs.lemmas.List.{append_assoc, append-nil}
use Rattle.c_values.specs.Name.{Name, same_name, with_name}
use Rattle.expression_lang.specs.Sort.{Scalar, Scope}
use Rattle.expression_lang.specs.Sorted.{names_with, scalar_in, program_sort, with_scalar}
use Rattle.monad_lang.specs.Program.{Start}
use Rattle.monad_lang.specs.Sorted.{start_scalars}
use Rattle.expression_lang.specs.CodeSort.{scalar_of}
use Rattle.expression_steps.specs.declared.points.PassedPart as P
use Rattle.expression_steps.specs.CodePoint.{names_behind, after_scalars}

-- of the names around only the one that is asked for counts
only_there : (xs : List Name) (ss : List Scalar) (f : Name → Option Scalar) (y : Name) →
    names_with xs ss f y ≡ names_with xs ss (λ _. f y) y
only_there [] ss f y = refl
only_there (x ∷ xs) [] f y = refl
only_there (x ∷ xs) (s ∷ ss) f y =
    only_there xs ss (with_name x (Some s) f) y ∙ sym (only_there xs ss (with_name x (Some s) (λ _. f y)) y)

pub name_there : (x : Name) (xs : List Name) (s : Scalar) (ss : List Scalar) (o : Option Scalar) (y : Name) →
    same_name x y ≡ true → names_with (x ∷ xs) (s ∷ ss) (λ _. o) y ≡ names_with xs ss (λ _. Some s) y
name_there x xs s ss o y h =
    only_there xs ss (with_name x (Some s) (λ _. o)) y
    ∙ ap (λ (b : Bool). names_with xs ss (λ _. if b then Some s else o) y) h

pub name_elsewhere : (x : Name) (xs : List Name) (s : Scalar) (ss : List Scalar) (o : Option Scalar) (y : Name) →
    same_name x y ≡ false → names_with (x ∷ xs) (s ∷ ss) (λ _. o) y ≡ names_with xs ss (λ _. o) y
name_elsewhere x xs s ss o y h =
    only_there xs ss (with_name x (Some s) (λ _. o)) y
    ∙ ap (λ (b : Bool). names_with xs ss (λ _. if b then Some s else o) y) h

pub names_told : (x : Name) (xs : List Name) (o : Option Scalar) (y : Name) → names_with (x ∷ xs) [] (λ _. o) y ≡ o
names_told x xs o y = refl

parts_only_there : (ps : List P.PassedPart) (f : Name → Option Scalar) (y : Name) →
    names_behind ps f y ≡ names_behind ps (λ _. f y) y
parts_only_there [] f y = refl
parts_only_there (p ∷ ps) f y =
    let xs = map string_bytes p.names.items in
    let ss = map scalar_of p.scalars.items in
    parts_only_there ps (names_with xs ss f) y
    ∙ ap (λ (o : Option Scalar). names_behind ps (λ _. o) y) (only_there xs ss f y)
    ∙ sym (parts_only_there ps (names_with xs ss (λ _. f y)) y)

pub part_passed : (p : P.PassedPart) (ps : List P.PassedPart) (o : Option Scalar) (y : Name) →
    names_behind (p ∷ ps) (λ _. o) y
    ≡ names_behind ps (λ _. names_with (map string_bytes p.names.items) (map scalar_of p.scalars.items) (λ _. o) y) y
part_passed p ps o y =
    parts_only_there ps (names_with (map string_bytes p.names.items) (map scalar_of p.scalars.items) (λ _. o)) y

-- behind one part more
pub part_after : (p : P.PassedPart) (ps : List P.PassedPart) (o new : Option Scalar) (y : Name) →
    new ≡ names_with (map string_bytes p.names.items) (map scalar_of p.scalars.items) (λ _. o) y →
    names_behind ps (λ _. new) y ≡ names_behind (p ∷ ps) (λ _. o) y
part_after p ps o new y h = ap (λ (q : Option Scalar). names_behind ps (λ _. q) y) h ∙ sym (part_passed p ps o y)

-- what is found outside is found first
pub found_within : (xs : List Name) (ss : List Scalar) (f : Name → Option Scalar) (y : Name) (o new : Option Scalar) → o ≡ f y →
    new ≡ names_with xs ss (λ _. o) y → new ≡ names_with xs ss (λ x. f x) y
found_within xs ss f y o new h i =
    i ∙ ap (λ (q : Option Scalar). names_with xs ss (λ _. q) y) h ∙ sym (only_there xs ss f y)

pub found_behind : (ps : List P.PassedPart) (f : Name → Option Scalar) (y : Name) (o new : Option Scalar) → o ≡ f y →
    new ≡ names_behind ps (λ _. o) y → new ≡ names_behind ps (λ x. f x) y
found_behind ps f y o new h i =
    i ∙ ap (λ (q : Option Scalar). names_behind ps (λ _. q) y) h ∙ sym (parts_only_there ps f y)

-- where no scalars are told, nothing is bound
pub names_untold : (xs : List Name) (f : Name → Option Scalar) → names_with xs [] f ≡ f
names_untold [] f = refl
names_untold (x ∷ xs) f = refl

-- Bindings of a loop's names

module _ (g : Scope) where
  pub one_bound : (ss : List Scalar) (x : Start) (xs : List Start) (s : Scalar) → scalar_in (program_sort g x.exp) ≡ Some s →
      after_scalars ss (start_scalars g (x ∷ xs)) ≡ after_scalars (ss ++ s ∷ []) (start_scalars g xs)
  one_bound ss x xs s h =
      ap (λ (o : Option Scalar). after_scalars ss (with_scalar o (start_scalars g xs))) h ∙ one_more (start_scalars g xs)
    where
      one_more : (o : Option (List Scalar)) → after_scalars ss (with_scalar (Some s) o) ≡ after_scalars (ss ++ s ∷ []) o
      one_more None = refl
      one_more (Some ts) = ap (λ (ts : List Scalar). Some ts) (sym (append_assoc ss (s ∷ []) ts))

  pub none_bound : (ss : List Scalar) (x : Start) (xs : List Start) → scalar_in (program_sort g x.exp) ≡ None →
      after_scalars ss (start_scalars g (x ∷ xs)) ≡ None
  none_bound ss x xs h = ap (λ (o : Option Scalar). after_scalars ss (with_scalar o (start_scalars g xs))) h

pub all_bound : (ss : List Scalar) → after_scalars ss (Some []) ≡ Some ss
all_bound ss = ap (λ (ts : List Scalar). Some ts) (append-nil ss)

pub bound_push : {A B : Type 0} (f : A → B) (xs : List A) (x : A) (ys : List B) → map f (xs ++ x ∷ []) ++ ys ≡ map f xs ++ f x ∷ ys
bound_push f [] x ys = refl
bound_push f (a ∷ xs) x ys = ap (λ r. f a ∷ r) (bound_push f xs x ys)
