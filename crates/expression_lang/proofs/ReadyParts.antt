-- What is taken for granted at a whole is so at its parts.
use Rattle.std.proofs.Common.{◌≡◌, subst, sym}
use Rattle.c_values.specs.Layout.{Layout}
use Rattle.expression_lang.specs.Expression.{Exp, WordBinary, WordShift, WordCompare, Cast, ToWord, Arith, Lt, Le, Between, Eq, And, Or, Imp, If, Padd, At, Load, Read, Tagged, PtrOk, Global, Sel, Upd, Path}
use Rattle.expression_lang.specs.Evaluation.{Env, State}
use Rattle.expression_lang.specs.CodeArity.{first_part, second_part, path_part}
use Rattle.expression_lang.specs.CodeReady.{IsReady, AreReady}

module _ (l : Layout) (env : Env) (s : State) where
  first_is : (e : Exp) → IsReady l env s e → IsReady l env s (first_part e)
  first_is (WordBinary op a b) h = h.0
  first_is (WordShift op a n) h = h.0
  first_is (WordCompare op a b) h = h.0
  first_is (Cast op width a) h = h.0
  first_is (ToWord width a) h = h.0
  first_is (Arith op a b) h = h.0
  first_is (Lt a b) h = h.0
  first_is (Le a b) h = h.0
  first_is (Between low a high) h = h
  first_is (Eq a b) h = h.0
  first_is (And a b) h = h.0
  first_is (Or a b) h = h.0
  first_is (Imp a b) h = h.0
  first_is (If c a b) h = h.0
  first_is (Padd t p n) h = h.0
  first_is (At t p path) h = h.0
  first_is (Load t p path) h = h.0
  first_is (Read t p path) h = h.0
  first_is (Tagged t p) h = h.0
  first_is (PtrOk t p) h = h.0
  first_is (Sel e path) h = h.0
  first_is (Upd e path v) h = h.0
  first_is _ h = h

  second_is : (e : Exp) → IsReady l env s e → IsReady l env s (second_part e)
  second_is (WordBinary op a b) h = h.1
  second_is (WordShift op a n) h = h.1
  second_is (WordCompare op a b) h = h.1
  second_is (Arith op a b) h = h.1
  second_is (Lt a b) h = h.1
  second_is (Le a b) h = h.1
  second_is (Eq a b) h = h.1
  second_is (And a b) h = h.1
  second_is (Or a b) h = h.1
  second_is (Imp a b) h = h.1
  second_is (Padd t p n) h = h.1
  second_is (Upd e path v) h = h.2
  second_is _ h = h

  path_is : (e : Exp) → IsReady l env s e → AreReady l env s (path_part e)
  path_is (At t p path) h = h.1
  path_is (Load t p path) h = h.1
  path_is (Read t p path) h = h.1
  path_is (Global x path) h = h.0
  path_is (Sel e path) h = h.1
  path_is (Upd e path v) h = h.1
  path_is _ h = tt

  pub ready_first : (e x : Exp) → x ≡ first_part e → IsReady l env s e → IsReady l env s x
  ready_first e x same h = subst (λ y. IsReady l env s y) (sym same) (first_is e h)

  pub ready_second : (e x : Exp) → x ≡ second_part e → IsReady l env s e → IsReady l env s x
  ready_second e x same h = subst (λ y. IsReady l env s y) (sym same) (second_is e h)

  pub ready_path : (e : Exp) (x : Path) → x ≡ path_part e → IsReady l env s e → AreReady l env s x
  ready_path e x same h = subst (λ y. AreReady l env s y) (sym same) (path_is e h)
