-- Programs whose texts are worked out.
use Rattle.std.specs.Prelude.{List, [], ◌∷◌, ◌++◌, true, pos, codes}
use Rattle.c_values.specs.Types.{Integer, UInt, Struct, Ptr, Ilp32}
use Rattle.c_values.specs.Number.{Add}
use Rattle.expression_lang.specs.Expression.{Exp, Var, WordLit, TruthLit, Arith, Between, Imp, Not, Read, Here, IntoField, IntoElement}
use Rattle.expression_lang.specs.Sort.{Numbers, NatKind, BoolKind}
use Rattle.abs_print.specs.Texts.{Text}
use Rattle.monad_lang.specs.Program.{Written, Global, Mon, Ret, Bind, Guard, If, Write, Loop, Call, Pick, FinalFn, FinalUnit}

abbrev pub a : Exp
a = Var (codes "a")

abbrev pub b : Exp
b = Var (codes "b")

abbrev pub sum : Exp
sum = Arith Add a b

-- the sum of two naturals of 32 bits
abbrev pub f : FinalFn
f = record {
  name = codes "f";
  level = Numbers;
  params = record { name = codes "a"; kind = NatKind 32 } ∷ record { name = codes "b"; kind = NatKind 32 } ∷ [];
  results = NatKind 32 ∷ [];
  body = Bind (Guard (Between (pos 0) sum (pos 4294967295))) [] (Ret (sum ∷ []));
}

-- nothing from nothing
abbrev pub g : FinalFn
g = record { name = codes "g"; level = Numbers; params = []; results = []; body = Ret [] }

abbrev pub unit_of : List FinalFn → FinalUnit
unit_of fs = record { layout = record { target = Ilp32; structs = [] }; globals = []; functions = fs }

-- a sequence, a choice and loops as steps
abbrev pub nested : Mon
nested =
    Bind (Bind (Pick BoolKind) (codes "x" ∷ []) (If (Not a) (Ret (a ∷ b ∷ [])) (Call (codes "g") (a ∷ b ∷ [])))) (codes "y" ∷ codes "z" ∷ [])
    (Bind (Loop [] (TruthLit true) a (Bind (Write (Written (Struct (codes "node")) a (IntoField 0 (IntoElement sum Here))) (WordLit (record { width = 32; bits = 7 }))) [] (Ret []))) []
    (Bind (Loop (record { name = codes "i"; exp = b } ∷ record { name = codes "j"; exp = a } ∷ []) (Imp a b) a (Ret (a ∷ []))) (codes "k" ∷ [])
    (Write (Global (codes "g") Here) (Read (Ptr (Integer UInt)) a (IntoField 1 Here)))))

abbrev pub f_text : Text
f_text =
    codes "f (a : nat 32) (b : nat 32) : nat 32\n"
    ++ (codes "  guard (0 <= (a + b) <= 4294967295)\n"
    ++ codes "  return (a + b)\n")

abbrev pub g_text : Text
g_text = codes "g : unit\n" ++ codes "  return\n"

abbrev pub nested_text : Text
nested_text =
    codes "y, z <- do\n"
    ++ (codes "  x <- pick bool\n"
    ++ (codes "  if (not a)\n"
    ++ (codes "    return a, b\n"
    ++ (codes "  else\n"
    ++ (codes "    call g(a, b)\n"
    ++ (codes "loop guard #t test a\n"
    ++ (codes "  (struct node) a (f 0) (i (a + b)) := (w 32 7)\n"
    ++ (codes "  return\n"
    ++ (codes "k <- loop i = b, j = a guard (a ==> b) test a\n"
    ++ (codes "  return a\n"
    ++ codes "g := (read (ptr uint) a (f 1))\n"))))))))))
