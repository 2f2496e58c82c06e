-- The steps of ways, one after the other.
use Rattle.std.proofs.Common.{◌≡◌, ◌<◌, List, [], ◌∷◌, ◌++◌, Option, Some, None, IfSome, IfNone, refl, sym, ap, ◌∙◌, subst, arith}
use Rattle.std.specs.Prelude.{IsSomeAnd}
use Rattle.std.specs.Option.{option_map}
use Rattle.c_values.specs.Value.{Value, nothing}
use Rattle.c_values.specs.Path.{Step, sel}
use Rattle.c_memory.specs.Tags.{prefixed}
use Rattle.c_values.specs.CodeFollow.{CanFollow}
use Rattle.typed_heap.specs.CodeWays.{many_steps}
use Rattle.c_values.proofs.Follow.{sel_cons, follow_first, follow_rest}

abbrev pub sel_found : Value → Option (List Step) → Value
sel_found v None = nothing
sel_found v (Some ps) = sel v ps

pub prefixed_mapped : (p : Step) (o : Option (List Step)) (qs : List Step) → option_map (λ ps. ps ++ qs) (prefixed p o) ≡ prefixed p (option_map (λ ps. ps ++ qs) o)
prefixed_mapped p None qs = refl
prefixed_mapped p (Some ps) qs = refl

-- at a first step
module _ (v : Value) (p : Step) where
  pub first_follows : (o : Option (List Step)) → IsSomeAnd (prefixed p o) (CanFollow v) → CanFollow v (p ∷ [])
  first_follows None h = absurd h
  first_follows (Some ps) h = follow_first v p ps h

  pub rest_follows : (o : Option (List Step)) (w : Value) → w ≡ sel v (p ∷ []) → IsSomeAnd (prefixed p o) (CanFollow v) → IsSomeAnd o (CanFollow w)
  rest_follows None w e h = absurd h
  rest_follows (Some ps) w e h = subst (λ u. CanFollow u ps) (sym e) (follow_rest v p ps h)

  pub rest_selects : (o : Option (List Step)) (w : Value) → w ≡ sel v (p ∷ []) → sel_found w o ≡ sel_found v (prefixed p o)
  rest_selects None w e = refl
  rest_selects (Some ps) w e = ap (λ u. sel u ps) e ∙ sym (sel_cons v p ps)

  pub rest_shorter : (o : Option (List Step)) → IsSomeAnd (prefixed p o) (CanFollow v) → many_steps o < many_steps (prefixed p o)
  rest_shorter None h = absurd h
  rest_shorter (Some ps) h = omega arith

-- at the end
pub end_selects : (v : Value) (o : Option (List Step)) → IfSome o (λ ps. ps ≡ []) → IsSomeAnd o (CanFollow v) → v ≡ sel_found v o
end_selects v None e h = absurd h
end_selects v (Some ps) e h = ap (λ qs. sel v qs) (sym e)

pub selected : (v w : Value) (o : Option (List Step)) → v ≡ sel_found w o → IfSome o (λ ps. v ≡ sel w ps)
selected v w None e = tt
selected v w (Some ps) e = e

pub if_none : {A P : Type 0} (o : Option A) → P → IfNone o P
if_none None p = p
if_none (Some x) p = tt

pub if_none_so : {A P Q : Type 0} (o : Option A) → (P → Q) → IfNone o P → IfNone o Q
if_none_so None f h = f h
if_none_so (Some x) f h = tt

pub if_some : {A : Type 0} (o : Option A) (P Q : A → Type 0) → ((x : A) → P x → Q x) → IfSome o P → IfSome o Q
if_some None P Q f h = tt
if_some (Some x) P Q f h = f x h

-- the root is the object itself
pub mapped_here : (o : Option (List Step)) (qs : List Step) → o ≡ Some [] → option_map (λ ps. ps ++ qs) o ≡ Some qs
mapped_here o qs e = ap (λ x. option_map (λ ps. ps ++ qs) x) e

pub each_some : {A : Type 0} (o : Option A) (P : A → Type 0) → ((x : A) → P x) → IfSome o P
each_some None P f = tt
each_some (Some x) P f = f x
