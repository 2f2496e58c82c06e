-- What is known from facts, as a test.
use Rattle.std.specs.Prelude.{Bool, false, ◌&&◌, ◌||◌, List, [], ◌∷◌, true}
use Rattle.expression_lang.specs.Expression.{Exp, NumberLit, TruthLit, Le, Between, And, Imp}
use Rattle.ac_expr.specs.Fact.{Fact, stands_for}
use Rattle.ac_expr.specs.SameExp.{same_exp}

abbrev pub some_fact : (Exp → Bool) → List Fact → Bool
some_fact test [] = false
some_fact test (f ∷ fs) = test (stands_for f) || some_fact test fs

abbrev pub gives_at_once : Exp → Exp → Bool
gives_at_once (And a b) e = same_exp e (And a b) || (gives_at_once a e || gives_at_once b e)
gives_at_once (Between low x high) e =
    same_exp e (Between low x high) || (same_exp e (Le (NumberLit low) x) || same_exp e (Le x (NumberLit high)))
gives_at_once fact e = same_exp e fact

abbrev pub gives : List Fact → Exp → Exp → Bool
gives fs (And a b) e = same_exp e (And a b) || (gives fs a e || gives fs b e)
gives fs (Between low x high) e =
    same_exp e (Between low x high) || (same_exp e (Le (NumberLit low) x) || same_exp e (Le x (NumberLit high)))
gives fs (Imp c d) e = same_exp e (Imp c d) || (some_fact (λ fact. gives_at_once fact c) fs && gives fs d e)
gives fs fact e = same_exp e fact

abbrev pub is_known : List Fact → Exp → Bool
is_known fs e = same_exp e (TruthLit true) || some_fact (λ fact. gives fs fact e) fs
