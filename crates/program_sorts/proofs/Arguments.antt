-- What a call asks, argument by argument.
use Rattle.std.proofs.Common.{◌≡◌, false, ◌&&◌, List, [], ◌∷◌, map, Option, Some, None, refl, sym, length, ◌==◌, ◌∙◌, suc, eqb-true, arith}
use Rattle.std.proofs.lemmas.Bool.{false_from_ne_true}
use Rattle.std.proofs.Math.Bool.{and-false}
use Rattle.expression_lang.specs.declared.signatures.Binder as B
use Rattle.expression_lang.specs.declared.expression.Exp as R
use Rattle.expression_lang.specs.CodeExpression.{exp_of}
use Rattle.expression_lang.specs.CodeSignature.{binder_of}
use Rattle.expression_lang.specs.Expression.{Exp}
use Rattle.expression_lang.specs.Sort.{Scalar, Sort, Of, Kind, Scope, same_scalar}
use Rattle.expression_lang.specs.Signature.{kinds_of}
use Rattle.expression_lang.specs.Sorted.{program_sort, scalar_in, with_scalar, scalars_of}
use Rattle.program_sorts.specs.Sorts.{is_scalar_of, may_take}

-- one argument more
takes_sort : (f : Kind → Scalar) (k : Kind) (ks : List Kind) (o : Option Sort) (rest : Option (List Scalar)) →
    may_take f (k ∷ ks) (with_scalar (scalar_in o) rest) ≡ (is_scalar_of (Some (f k)) o && may_take f ks rest)
takes_sort f k ks (Some (Of s)) None = sym (and-false (same_scalar (f k) s))
takes_sort _ _ _ _ _ = refl

pub takes_one : (f : Kind → Scalar) (g : Scope) (k : Kind) (ks : List Kind) (e : Exp) (es : List Exp) →
    may_take f (k ∷ ks) (scalars_of g (e ∷ es)) ≡ (is_scalar_of (Some (f k)) (program_sort g e) && may_take f ks (scalars_of g es))
takes_one f g k ks e es = takes_sort f k ks (program_sort g e) (scalars_of g es)

too_many : (f : Kind → Scalar) (o : Option Sort) (rest : Option (List Scalar)) → may_take f [] (with_scalar (scalar_in o) rest) ≡ false
too_many f (Some (Of s)) None = refl
too_many _ _ _ = refl

pub takes_none : (f : Kind → Scalar) (g : Scope) (e : Exp) (es : List Exp) → may_take f [] (scalars_of g (e ∷ es)) ≡ false
takes_none f g e es = too_many f (program_sort g e) (scalars_of g es)

-- no parameter is left
pub takes_rest : (f : Kind → Scalar) (g : Scope) (left : List B.Binder) (es : List R.Exp) → length left ≡ 0 →
    (length es == 0) ≡ may_take f (kinds_of (map binder_of left)) (scalars_of g (map exp_of es))
takes_rest f g [] [] h = refl
takes_rest f g [] (e ∷ es) h =
    false_from_ne_true (length (e ∷ es) == 0) (λ k. let clash : suc (length es) ≡ 0 = eqb-true (suc (length es)) 0 k in omega arith)
    ∙ sym (takes_none f g (exp_of e) (map exp_of es))
takes_rest f g (b ∷ bs) es h = absurd (omega arith)
