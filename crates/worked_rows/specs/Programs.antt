-- The monadic programs of three small texts, as they are shown, and what is said of their runs.
use Rattle.std.specs.Prelude.{◌≡◌, List, [], ◌∷◌, Some, pos, codes}
use Rattle.correspondence.specs.Outcome.{Done, Failed, Ends}
use Rattle.c_values.specs.Name.{Name}
use Rattle.c_values.specs.Types.{Ilp32}
use Rattle.c_values.specs.Number.{Add, Sub, Div}
use Rattle.c_values.specs.Word.{Wadd}
use Rattle.c_values.specs.Value.{Value, nothing}
use Rattle.c_values.specs.Choice.{Fill}
use Rattle.c_memory.specs.Heap.{OnTypes}
use Rattle.expression_lang.specs.Expression.{Exp, Var, NumberLit, Arith, WordBinary, Between}
use Rattle.expression_lang.specs.Sort.{Level, Words, Numbers, Kind, WordKind, NatKind}
use Rattle.expression_lang.specs.Signature.{Binder}
use Rattle.monad_lang.specs.Program.{Mon, Ret, Bind, Guard, FinalUnit}
use Rattle.monad_lang.specs.Run.{Answer, Failure, program_runs}

abbrev pub guard_then : Exp → Mon → Mon
guard_then e m = Bind (Guard e) [] m

-- the number is one of an unsigned
abbrev pub fits : Exp → Exp
fits e = Between (pos 0) e (pos 4294967295)

abbrev pub a : Exp
a = Var (codes "a")

abbrev pub b : Exp
b = Var (codes "b")

abbrev pub l : Exp
l = Var (codes "l")

abbrev pub r : Exp
r = Var (codes "r")

abbrev pub unit_of : Level → Kind → List Name → Mon → FinalUnit
unit_of level k names m = record {
  layout = record { target = Ilp32; structs = [] };
  globals = [];
  functions = record { name = codes "f"; level = level; params = binders names; results = k ∷ []; body = m } ∷ [];
}
  where
    binders : List Name → List Binder
    binders [] = []
    binders (x ∷ xs) = record { name = x; kind = k } ∷ binders xs

-- (do () (guard (between 0 (add a b) 4294967295)) (ret (add a b)))
abbrev pub sum : FinalUnit
sum = unit_of Numbers (NatKind 32) (codes "a" ∷ codes "b" ∷ []) (guard_then (fits (Arith Add a b)) (Ret (Arith Add a b ∷ [])))

-- (ret (wadd a b))
abbrev pub word_sum : FinalUnit
word_sum = unit_of Words (WordKind 32) (codes "a" ∷ codes "b" ∷ []) (Ret (WordBinary Wadd a b ∷ []))

-- (do () (guard (between 0 (add a 1) 4294967295)) (ret (add a 1)))
abbrev pub increment : FinalUnit
increment = unit_of Numbers (NatKind 32) (codes "a" ∷ []) (guard_then (fits (Arith Add a (NumberLit (pos 1)))) (Ret (Arith Add a (NumberLit (pos 1)) ∷ [])))

abbrev pub half : Exp → Exp
half e = Arith Div e (NumberLit (pos 2))

-- (do () (guard (between 0 (add l r) 4294967295)) (ret (div (add l r) 2)))
abbrev pub half_of_sum : FinalUnit
half_of_sum = unit_of Numbers (NatKind 32) (codes "l" ∷ codes "r" ∷ []) (guard_then (fits (Arith Add l r)) (Ret (half (Arith Add l r) ∷ [])))

-- the same of l + (r - l) / 2
abbrev pub with_half_of_difference : FinalUnit
with_half_of_difference = unit_of Numbers (NatKind 32) (codes "l" ∷ codes "r" ∷ [])
    (guard_then (fits (Arith Sub r l)) (guard_then (fits (Arith Add l (half (Arith Sub r l)))) (Ret (Arith Add l (half (Arith Sub r l)) ∷ []))))

-- the ends of a call from an empty typed heap, at 100 turns and 256 nested calls
abbrev pub ends : FinalUnit → List Value → Ends Answer Failure
ends u vs = program_runs u (Fill 0) 100 (Some 256) (record { name = codes "f"; arguments = vs; state = record { heap = OnTypes []; globals = λ x. nothing } })

pub record Gives (u : FinalUnit) (vs : List Value) (results : List Value) : Type 0 where
  pub answer : Answer
  pub is_end : ends u vs (Done answer)
  pub has_values : answer.values ≡ results

pub record Fails (u : FinalUnit) (vs : List Value) : Type 0 where
  pub is_end : ends u vs (Failed tt)
