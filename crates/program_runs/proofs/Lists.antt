-- Lists of expressions, one more at a time.
use Rattle.std.proofs.Common.{◌≡◌, List, Option, Some, None, refl}
use Rattle.std.proofs.lemmas.Bool.{false≢true}
use Rattle.std.specs.Prelude.{IsSome}
use Rattle.c_memory.proofs.Indexed.{is_some_of}
use Rattle.expression_lang.specs.Expression.{Exp}
use Rattle.expression_lang.specs.Sort.{Scalar, Of, Scope, sort_of}
use Rattle.expression_lang.specs.Sorted.{program_sort, scalar_in, with_scalar}
use Rattle.expression_lang.specs.Wide.{Operation, or_else}
use Rattle.expression_lang.proofs.SortParts.{scalar_in_inv, program_sort_inv}

-- what isn't wide is passed
pub passed : (o p : Option Operation) → o ≡ None → or_else o p ≡ p
passed None p h = refl
passed (Some x) p h = absurd cc

pub met : (o p : Option Operation) (x : Operation) → o ≡ Some x → or_else o p ≡ Some x
met (Some y) p x h = h
met None p x h = absurd cc

-- sorts of the first and of the others

pub both_there : (o : Option Scalar) (p : Option (List Scalar)) → IsSome (with_scalar o p) → (c : Scalar) × (o ≡ Some c) × IsSome p
both_there (Some c) (Some cs) h = (c, refl, refl)
both_there None (Some cs) h = absurd (false≢true h)
both_there _ _ h = absurd (false≢true h)

pub scalar_sorted : (g : Scope) (e : Exp) (c : Scalar) → scalar_in (program_sort g e) ≡ Some c → sort_of g e ≡ Some (Of c)
scalar_sorted g e c h = program_sort_inv g e (Of c) (scalar_in_inv (program_sort g e) c h)

pub first_sorted : (g : Scope) (e : Exp) (o : Option (List Scalar)) → IsSome (with_scalar (scalar_in (program_sort g e)) o) → IsSome (sort_of g e)
first_sorted g e o h =
    let p = both_there (scalar_in (program_sort g e)) o h in is_some_of (sort_of g e) (Of p.0) (scalar_sorted g e p.0 p.1)

pub others_sorted : (g : Scope) (e : Exp) (o : Option (List Scalar)) → IsSome (with_scalar (scalar_in (program_sort g e)) o) → IsSome o
others_sorted g e o h = (both_there (scalar_in (program_sort g e)) o h).2
