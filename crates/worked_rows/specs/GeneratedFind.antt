-- The Simpl body of the function that docs/GENERATION.md shows line by line.
use Rattle.std.specs.Prelude.{◌≡◌, [], ◌∷◌, map, false, codes}
use Rattle.c_values.specs.Word.{Wadd, Wneg, Wslt}
use Rattle.c_values.specs.Number as N
use Rattle.expression_lang.specs.Expression.{Exp, Var, TruthLit, WordBinary, WordUnary, WordCompare, ToInt, Arith, Negate, Eq, Padd, Load, Tagged, PtrOk, Here}
use Rattle.expression_lang.specs.Sort.{Numbers}
use Rattle.expression_lang.specs.GuardKind.{Signed, Pointer, Tag, Unreached}
use Rattle.simpl_lang.specs.Command.{Simpl, Skip, Throw, Set, Pick, Seq, Cond, Guard, Catch, While}
use Rattle.generation.specs.Guards.{when}
use Rattle.generation.specs.Generate.{function_of}
use Rattle.worked_rows.specs.Trees.{uint}
use Rattle.worked_rows.specs.ExpressionRows.{word32, is_int}
use Rattle.worked_rows.specs.Find as find

abbrev i : Exp
i = Var (codes "i")

-- a + i
abbrev element : Exp
element = Padd uint (Var (codes "a")) (ToInt i)

-- if (a[i] == k) return i;
abbrev test : Simpl
test =
    Guard (when Pointer (PtrOk uint element))
    (Guard (when Tag (Tagged uint element))
    (Cond (Eq (Load uint element Here) (Var (codes "k")))
    (Seq (Set (codes "$ret") i) (Seq (Set (codes "$exn") (word32 1)) Throw))
    Skip))

-- for (i = 0; i < n; i++) ..
abbrev loop : Simpl
loop =
    Seq (Set (codes "i") (word32 0))
    (Catch
    (While [] (WordCompare Wslt i (Var (codes "n")))
    (Seq
    (Catch test (Cond (Eq (Var (codes "$exn")) (word32 3)) Skip Throw))
    (Guard (when Signed (is_int (Arith N.Add (ToInt i) (ToInt (word32 1))))) (Set (codes "i") (WordBinary Wadd i (word32 1))))))
    (Cond (Eq (Var (codes "$exn")) (word32 2)) Skip Throw))

-- return -1;
abbrev not_found : Simpl
not_found =
    Guard (when Signed (is_int (Negate (ToInt (word32 1)))))
    (Seq (Set (codes "$ret") (WordUnary Wneg (word32 1))) (Seq (Set (codes "$exn") (word32 1)) Throw))

abbrev pub Shown : Type 0
Shown =
    map (λ f. (function_of find.unit.layout Numbers f).body) find.unit.functions
    ≡ Catch (Seq (Seq (Pick (codes "i")) (Seq loop not_found)) (Guard (when Unreached (TruthLit false)) Skip)) Skip ∷ []
