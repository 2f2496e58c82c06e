-- Names that are bound, one after the other.
use Rattle.std.proofs.Common.{◌≡◌, List, [], ◌∷◌, ◌++◌, map, string_bytes, refl}
use Rattle.expression_lang.specs.CodeExpression.{kind_of}
use Rattle.expression_lang.specs.CodeSignature.{binder_of}
use Rattle.expression_lang.specs.Signature.{Binder, names_of, kinds_of}
use Rattle.expression_lang.specs.declared.signatures.Binder as B
use Rattle.rule_word.specs.Scopes.{with_kinds}

pub bound_push : (xs : List B.Binder) (x : B.Binder) (bs : List Binder) →
    with_kinds (names_of (map binder_of (xs ++ x ∷ []))) (kinds_of (map binder_of (xs ++ x ∷ []))) bs
    ≡ record { name = string_bytes x.name; kind = kind_of x.kind } ∷ with_kinds (names_of (map binder_of xs)) (kinds_of (map binder_of xs)) bs
bound_push [] x bs = refl
bound_push (y ∷ xs) x bs = bound_push xs x (binder_of y ∷ bs)
