-- The names of binders are those of what they stand for.
use Rattle.std.proofs.Common.{◌≡◌, List, [], ◌∷◌, map, string_bytes, refl, ap}
use Rattle.expression_lang.specs.declared.signatures.Binder as B
use Rattle.expression_lang.specs.Signature.{names_of}
use Rattle.expression_lang.specs.CodeSignature.{binder_of}

pub names_are : (bs : List B.Binder) → map (λ b. string_bytes b.name) bs ≡ names_of (map binder_of bs)
names_are [] = refl
names_are (b ∷ bs) = ap (λ xs. string_bytes b.name ∷ xs) (names_are bs)
