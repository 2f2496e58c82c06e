-- Settings with one scope, whose functions take and give the same scalars, give programs the same scalars.
use Rattle.std.proofs.Common.{◌≡◌, ◌&&◌, List, map, Option, Some, None, cond, refl, ap, ap₂, ◌∙◌}
use Rattle.c_values.specs.Name.{Name, are_distinct}
use Rattle.expression_lang.specs.Sort.{Scalar, Kind, Scope, is_truth}
use Rattle.expression_lang.specs.Sorted.{scope_with, program_sort, scalars_of, call_scalars, same_scalars, result_scalars}
use Rattle.expression_lang.specs.Signature.{Signature, signature, kinds_of}
use Rattle.monad_lang.specs.Program.{Mon, Bind, If, Loop, Call}
use Rattle.monad_lang.specs.Run.{start_names}
use Rattle.monad_lang.specs.Sorted.{Setting, scalars_given, start_scalars, and_then_scalars, where_fits, are_scalars, one_for_each}

then_same : (o o' : Option (List Scalar)) (f g : List Scalar → Option (List Scalar)) → o ≡ o' → ((ss : List Scalar) → f ss ≡ g ss) → and_then_scalars o f ≡ and_then_scalars o' g
then_same o o' f g e h = by_first o ∙ ap (λ z. and_then_scalars z g) e
  where
    by_first : (z : Option (List Scalar)) → and_then_scalars z f ≡ and_then_scalars z g
    by_first None = refl
    by_first (Some ss) = h ss

-- what a function takes and gives
pub record TakesAlike (f g : Kind → Scalar) (a b : Signature) : Type 0 where
  pub takes : map f (kinds_of a.params) ≡ map g (kinds_of b.params)
  pub gives : result_scalars f a.result ≡ result_scalars g b.result

abbrev pub SignedAlike : (Kind → Scalar) → (Kind → Scalar) → Option Signature → Option Signature → Type 0
SignedAlike f g None None = Unit {0}
SignedAlike f g (Some a) (Some b) = TakesAlike f g a b
SignedAlike f g _ _ = ⊥

calls_alike : (f g : Kind → Scalar) (a b : Option Signature) → SignedAlike f g a b → (o : Option (List Scalar)) → call_scalars f a o ≡ call_scalars g b o
calls_alike f g (Some a) (Some b) h (Some ss) = ap₂ (λ cs r. cond (same_scalars cs ss) (Some r) None) h.takes h.gives
calls_alike f g None (Some b) h o = absurd h
calls_alike f g (Some a) None h o = absurd h
calls_alike _ _ _ _ _ _ = refl

module _ (f g : Kind → Scalar) (fs gs : List Signature) (alike : (x : Name) → SignedAlike f g (signature fs x) (signature gs x)) where
  abbrev one : Scope → Setting
  one s = record { scope = s; functions = fs; sort_for = f }

  abbrev other : Scope → Setting
  other s = record { scope = s; functions = gs; sort_for = g }

  pub given_alike : (m : Mon) (s : Scope) → scalars_given (record { scope = s; functions = fs; sort_for = f }) m ≡ scalars_given (record { scope = s; functions = gs; sort_for = g }) m
  given_alike (Bind m xs n) s =
      then_same (scalars_given (one s) m) (scalars_given (other s) m) _ _ (given_alike m s)
      (λ ss. ap (where_fits (one_for_each xs ss && are_distinct xs)) (given_alike n (scope_with xs ss s)))
  given_alike (If e m n) s =
      then_same (scalars_given (one s) m) (scalars_given (other s) m) _ _ (given_alike m s)
      (λ ss. ap (λ o. where_fits (is_truth (program_sort s e) && are_scalars ss o) (Some ss)) (given_alike n s))
  given_alike (Loop starts guard test m) s =
      then_same (start_scalars s starts) (start_scalars s starts) _ _ refl
      (λ ss. let inner = scope_with (start_names starts) ss s in
      ap (λ o. where_fits (are_distinct (start_names starts) && is_truth (program_sort inner guard) && is_truth (program_sort inner test) && are_scalars ss o) (Some ss)) (given_alike m inner))
  given_alike (Call x es) s = calls_alike f g (signature fs x) (signature gs x) (alike x) (scalars_of s es)
  given_alike _ _ = refl
