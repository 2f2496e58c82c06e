-- unsigned f(void){return 7;} and the Simpl that is generated for it; and the guards of `p && p->x > 3`.
use Rattle.std.specs.Prelude.{List, [], ◌∷◌, Some, false, pos, codes}
use Rattle.c_values.specs.Types.{Struct}
use Rattle.c_values.specs.Word.{word}
use Rattle.expression_lang.specs.Expression.{Exp, Var, WordLit, TruthLit, Not, Eq, Imp, PtrOk, Tagged}
use Rattle.expression_lang.specs.GuardKind.{Pointer, Tag, Unreached}
use Rattle.simpl_lang.specs.Command.{Condition, Simpl, Skip, Throw, Set, Seq, Guard, Catch}
use Rattle.c_lang.specs.Typed.{Return, TypedFn}
use Rattle.worked_rows.specs.Trees.{uint, unsigned_literal, function}

abbrev pub f : TypedFn
f = function (codes "f") (Some uint) [] [] (Return (unsigned_literal 7) ∷ [])

-- (catch (seq (seq (set $ret (w 32 7)) (set $exn (w 32 1)) throw) (guard unreached #f skip)) skip)
abbrev pub body_of_f : Simpl
body_of_f = Catch
    (Seq (Seq (Set (codes "$ret") (WordLit (word 32 (pos 7)))) (Seq (Set (codes "$exn") (WordLit (word 32 (pos 1)))) Throw))
    (Guard (record { kind = Unreached; exp = TruthLit false }) Skip)) Skip

-- (not (eq p (w 32 0)))
abbrev pub is_not_null : Exp
is_not_null = Not (Eq (Var (codes "p")) (WordLit (word 32 (pos 0))))

-- (imp (not (eq p (w 32 0))) (ptrok (struct s) p)) and (imp (not (eq p (w 32 0))) (tagged (struct s) p))
abbrev pub guards_of_null_test : List Condition
guards_of_null_test =
    record { kind = Pointer; exp = Imp is_not_null (PtrOk (Struct (codes "s")) (Var (codes "p"))) }
    ∷ record { kind = Tag; exp = Imp is_not_null (Tagged (Struct (codes "s")) (Var (codes "p"))) } ∷ []
