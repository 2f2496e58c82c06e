-- Truth: a scalar is true where its word isn't zero, and an int of a truth value is true where that is.
use Rattle.std.proofs.Common.{◌≡◌, Bool, true, false, not, pos, refl, ap, ◌∙◌, subst, sym}
use Rattle.c_values.specs.Types.{CType, Integer, Int, Ptr}
use Rattle.c_values.specs.Word.{word}
use Rattle.c_values.specs.Value.{Value, Bits, same_value}
use Rattle.c_values.specs.Layout.{Layout, is_scalar, scalar_width, shape_of}
use Rattle.c_values.specs.Path.{HasShape, IsBits}
use Rattle.expression_lang.specs.Evaluation.{Env, State, holds, if_truth}
use Rattle.expression_lang.specs.Evaluation as E
use Rattle.expression_lang.specs.Expression as X
use Rattle.c_lang.specs.Typed as C
use Rattle.c_meaning.specs.CValue.{int_of, is_true}
use Rattle.generation.specs.Guards.{is_not_zero, of_truth, exp, truth}
use Rattle.generation.proofs.ExactValue.{IsValueOf}
use Rattle.expression_lang.proofs.Filled.{word_fits}
use Rattle.generation.proofs.ExactNumbers.{some_scalar, same_as_number, zero_between}

-- a value of a scalar type is a word
pub scalar_bits : (l : Layout) (t : CType) (v : Value) → is_scalar t ≡ true → HasShape (shape_of l t) v → IsBits (scalar_width l.target t) v
scalar_bits l (Integer i) v h k = k
scalar_bits l (Ptr t) v h k = k
scalar_bits l _ v h k = absurd cc

pub scalar_shaped : (l : Layout) (t : CType) (v : Value) → is_scalar t ≡ true → IsBits (scalar_width l.target t) v → HasShape (shape_of l t) v
scalar_shaped l (Integer i) v h k = k
scalar_shaped l (Ptr t) v h k = k
scalar_shaped l _ v h k = absurd cc

is_true_int : (l : Layout) (b : Bool) → is_true (int_of l b) ≡ b
is_true_int l true = refl
is_true_int l false = refl

module _ (l : Layout) (env : Env) (s : State) where
  not_zero : (t : CType) (e : X.Exp) (v : Value) → E.value l env s e ≡ v → IsBits (scalar_width l.target t) v → holds l env s (is_not_zero l.target t e) ≡ is_true v
  not_zero t e v h k =
      ap (λ u. not (same_value u (Bits (word (scalar_width l.target t) (pos 0))))) h
      ∙ ap not (same_as_number false (scalar_width l.target t) v (pos 0) (some_scalar l.target t) k (zero_between false (scalar_width l.target t)))

  -- an expression whose truth is that its value isn't zero
  pub plain_value : (e : C.Expr) (v : Value) → truth l e ≡ is_not_zero l.target (C.type_of e) (exp l e) → E.value l env s (exp l e) ≡ v → HasShape (shape_of l (C.type_of e)) v → IsValueOf l env s e v
  plain_value e v h is k = record {
    is = is;
    shaped = k;
    truth = λ scalar. ap (holds l env s) h ∙ not_zero (C.type_of e) (exp l e) v is (scalar_bits l (C.type_of e) v scalar k);
  }

  int_value : (b : Bool) → if_truth b (Bits (word 32 (pos 1))) (Bits (word 32 (pos 0))) ≡ int_of l b
  int_value true = refl
  int_value false = refl

  -- an expression that is an int of a truth value
  pub truth_value : (e : C.Expr) (b : Bool) → exp l e ≡ of_truth (truth l e) → C.type_of e ≡ Integer Int → holds l env s (truth l e) ≡ b → IsValueOf l env s e (int_of l b)
  truth_value e b h t k = record {
    is = ap (E.value l env s) h ∙ ap (λ x. if_truth x (Bits (word 32 (pos 1))) (Bits (word 32 (pos 0)))) k ∙ int_value b;
    shaped = subst (λ u. HasShape (shape_of l u) (int_of l b)) (sym t) (word_fits 32 _);
    truth = λ scalar. k ∙ sym (is_true_int l b);
  }
