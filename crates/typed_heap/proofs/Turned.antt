-- Values turned inside out, and back.
use Rattle.std.proofs.Common.{◌≡◌, List, [], ◌∷◌, length, slice_set, Option, Some, None, IsSome, IfSome, refl, arith}
use Rattle.std.proofs.lemmas.Bool.{false≢true}
use Rattle.c_values.specs.declared.values.Value as V
use Rattle.c_values.specs.Path.{Step, upd}
use Rattle.c_values.specs.Value.{Value, Parts, part}
use Rattle.c_values.specs.CodeLone.{lone}
use Rattle.c_values.specs.CodeParts.{values_in}
use Rattle.c_values.specs.CodeValue.{value_of}
use Rattle.typed_heap.specs.CodeTurned.{replaced}

-- values of one part
pub one_part : (xs : List V.Value) → length xs ≡ 1 → Parts (values_in xs) ≡ lone (part (values_in xs) 0)
one_part [] h = absurd (omega arith)
one_part (x ∷ []) h = refl
one_part (x ∷ y ∷ ys) h = absurd (omega arith)

pub one_set : (xs : List V.Value) (v : V.Value) → length xs ≡ 1 → Parts (values_in (slice_set xs 0 v)) ≡ lone (value_of v)
one_set [] v h = absurd (omega arith)
one_set (x ∷ []) v h = refl
one_set (x ∷ y ∷ ys) v h = absurd (omega arith)

pub one_long : (xs : List V.Value) (v : Value) → Parts (values_in xs) ≡ lone v → length xs ≡ 1
one_long [] v h = absurd cc
one_long (x ∷ []) v h = refl
one_long (x ∷ y ∷ ys) v h = absurd cc

-- by steps that are there
pub found : (v w x : Value) (o : Option (List Step)) → x ≡ replaced v o w → IfSome o (λ steps. x ≡ upd v steps w)
found v w x None e = tt
found v w x (Some ps) e = e

pub as_replaced : (v w x : Value) (o : Option (List Step)) → IsSome o → IfSome o (λ steps. x ≡ upd v steps w) → x ≡ replaced v o w
as_replaced v w x None some e = absurd (false≢true some)
as_replaced v w x (Some ps) some e = e
