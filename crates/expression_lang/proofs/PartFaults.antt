-- Where an operation is wide in a part, it is so in the whole.
use Rattle.std.proofs.Common.{◌≡◌}
use Rattle.std.specs.Prelude.{None}
use Rattle.c_values.specs.Layout.{Layout}
use Rattle.expression_lang.specs.declared.faults.EvalFault as F
use Rattle.expression_lang.specs.declared.arity.Arity.TheVariants.{Binary, Place, Part, Update}
use Rattle.expression_lang.specs.Expression.{Exp, WordBinary, WordShift, WordCompare, Arith, Lt, Le, Between, Eq, And, Or, Imp, If, Padd, At, Load, Read, Global, Sel, Upd}
use Rattle.expression_lang.specs.Evaluation.{Env, State}
use Rattle.expression_lang.specs.Wide.{wide, wide_in}
use Rattle.expression_lang.specs.CodeFault.{IsFault}
use Rattle.expression_lang.specs.CodeArity.{arity_of, first_part, second_part, path_part}
use Rattle.expression_lang.proofs.Meeting.{met_first, met_second, met_none}

module _ (l : Layout) (env : Env) (s : State) where
  -- in the first
  pub first_fault : (e : Exp) (f : F.EvalFault) → IsFault f (wide l env s (first_part e)) → IsFault f (wide l env s e)
  first_fault (WordBinary op a b) f h = met_first f _ _ h
  first_fault (WordShift op a n) f h = met_first f _ _ h
  first_fault (WordCompare op a b) f h = met_first f _ _ h
  first_fault (Arith op a b) f h = met_first f _ _ (met_first f _ _ h)
  first_fault (Lt a b) f h = met_first f _ _ h
  first_fault (Le a b) f h = met_first f _ _ h
  first_fault (Between low a high) f h = h
  first_fault (Eq a b) f h = met_first f _ _ h
  first_fault (And a b) f h = met_first f _ _ h
  first_fault (Or a b) f h = met_first f _ _ h
  first_fault (Imp a b) f h = met_first f _ _ h
  first_fault (If c a b) f h = met_first f _ _ h
  first_fault (Padd t p n) f h = met_first f _ _ h
  first_fault (At t p path) f h = met_first f _ _ h
  first_fault (Load t p path) f h = met_first f _ _ h
  first_fault (Read t p path) f h = met_first f _ _ h
  first_fault (Sel e path) f h = met_first f _ _ h
  first_fault (Upd e path v) f h = met_first f _ _ (met_first f _ _ h)
  first_fault _ _ h = h

  -- in the second, where there is none in the first
  pub second_fault : (e : Exp) (f : F.EvalFault) → arity_of e ≡ Binary → wide l env s (first_part e) ≡ None → IsFault f (wide l env s (second_part e)) → IsFault f (wide l env s e)
  second_fault (WordBinary op a b) f is none h = met_second f _ _ none h
  second_fault (WordShift op a n) f is none h = met_second f _ _ none h
  second_fault (WordCompare op a b) f is none h = met_second f _ _ none h
  second_fault (Arith op a b) f is none h = met_first f _ _ (met_second f _ _ none h)
  second_fault (Lt a b) f is none h = met_second f _ _ none h
  second_fault (Le a b) f is none h = met_second f _ _ none h
  second_fault (Eq a b) f is none h = met_second f _ _ none h
  second_fault (Padd t p n) f is none h = met_second f _ _ none h
  second_fault _ f is none h = absurd cc

  -- in the path of a place
  pub path_fault : (e : Exp) (f : F.EvalFault) → arity_of e ≡ Place → wide l env s (first_part e) ≡ None → IsFault f (wide_in l env s (path_part e)) → IsFault f (wide l env s e)
  path_fault (At t p path) f is none h = met_second f _ _ none h
  path_fault (Load t p path) f is none h = met_second f _ _ none h
  path_fault (Read t p path) f is none h = met_second f _ _ none h
  path_fault (Sel e path) f is none h = met_second f _ _ none h
  path_fault _ f is none h = absurd cc

  -- of a global
  pub part_fault : (e : Exp) (f : F.EvalFault) → arity_of e ≡ Part → IsFault f (wide_in l env s (path_part e)) → IsFault f (wide l env s e)
  part_fault (Global x path) f is h = h
  part_fault _ f is h = absurd cc

  pub put_fault : (e : Exp) (f : F.EvalFault) → arity_of e ≡ Update → wide l env s (first_part e) ≡ None → wide_in l env s (path_part e) ≡ None → IsFault f (wide l env s (second_part e)) → IsFault f (wide l env s e)
  put_fault (Upd e path v) f is first none h = met_second f _ _ (met_none _ _ first none) h
  put_fault _ f is first none h = absurd cc
