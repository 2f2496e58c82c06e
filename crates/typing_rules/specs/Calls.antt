-- Calls (C99 6.5.2.2), and what may stand on the right of an assignment, of an initialiser or of a return. A call's arguments
-- are converted as by assignment; its function has a body somewhere in the text.
use Rattle.std.specs.Prelude.{ℕ, suc, ◌==◌, Bool, true, false, not, List, [], ◌∷◌, length, Option, Some, None, ◌||◌}
use Rattle.c_values.specs.Name.{Name}
use Rattle.c_values.specs.Types.{CType, Integer, Void, Ptr, same_type}
use Rattle.c_values.specs.Layout.{Layout}
use Rattle.c_grammar.specs.Tree as tree
use Rattle.typing_rules.specs.declared.fault.TypeKind.TheVariants.{Unknown, Mismatch, NoBody, Arity, OutOfSubset}
use Rattle.typing_rules.specs.Checked.{Judgement, pure, ◌>>=◌, Ruling, Ruled, Refused, refuse, ◌>=>◌, rule, changed}
use Rattle.typing_rules.specs.Scope.{Scope, Entity, Enumerator, Global, Function, Local, Hidden, entity}
use Rattle.typing_rules.specs.Operators.{converted}
use Rattle.typing_rules.specs.Progress.{next_call}
use Rattle.typing_rules.specs.Expressions.{value}
use Rattle.c_lang.specs.Typed as C

-- what a call gives, and what it hands over
pub record Called : Type 0 where
  pub number : ℕ
  pub function : Name
  pub result : Option CType
  pub arguments : List C.Expr

-- the type of a function
pub record Callee : Type 0 where
  pub result : Option CType
  pub params : List CType

abbrev pub callee : Option Entity → Ruling Callee
callee None = Refused Unknown
callee (Some (Function result params)) = Ruled (record { result = result; params = params })
callee (Some Hidden) = Refused OutOfSubset
callee (Some (Enumerator n)) = Refused Mismatch
callee (Some (Global t)) = Refused Mismatch
callee (Some (Local x t)) = Refused Mismatch

-- as many as there are parameters
abbrev pub passed : Layout → List CType → List C.Expr → Ruling (List C.Expr)
passed l (t ∷ ts) (e ∷ es) = converted l t e >=> λ a. passed l ts es >=> λ as'. Ruled (a ∷ as')
passed l _ _ = Ruled []

abbrev pub called : Name → List C.Expr → Scope → Ruling Called
called f es s =
    callee (entity s.blocks f) >=> λ c.
    refuse (not (s.file.with_body f)) NoBody
    (refuse (not (length es == length c.params)) Arity
    (passed s.layout c.params es >=> λ as'.
    Ruled (record { number = suc s.progress.calls; function = f; result = c.result; arguments = as' })))

abbrev pub one_call_more : Scope → Scope
one_call_more s = record s { progress = next_call s.progress }

abbrev pub values : List tree.Exp → Judgement (List C.Expr)
values [] = pure []
values (e ∷ es) = value e >>= λ a. values es >>= λ as'. pure (a ∷ as')

-- the arguments, and then the call itself
abbrev pub call : tree.Call → Judgement Called
call (tree.Calls at f es) = values es >>= λ as'. rule at (called f as') >>= λ c. changed one_call_more c

-- a call with what becomes of its result
abbrev pub calls_for : Called → C.Use → C.Statement
calls_for c use' = C.Call c.number c.function c.arguments use'

abbrev pub ignored : Option CType → C.Use
ignored None = C.NoResult
ignored (Some t) = C.Ignored t

-- a value of the one type goes to the other as by assignment, also where it is no constant (C99 6.5.16.1)
abbrev pub goes_to : CType → CType → Bool
goes_to (Integer i) (Integer j) = true
goes_to (Ptr t) (Ptr u) = same_type t u || same_type t Void || same_type u Void
goes_to _ _ = false

-- the result of a call, where something of a type is wanted
abbrev pub result_for : CType → Option CType → Ruling CType
result_for t None = Refused Mismatch
result_for t (Some u) = refuse (not (goes_to t u)) Mismatch (Ruled u)

pub data Right : Type 0 where
  Computed : C.Expr → Right
  Resulting : Called → Right

abbrev pub right : tree.Rhs → Judgement Right
right (tree.Value e) = value e >>= λ a. pure (Computed a)
right (tree.Result c) = call c >>= λ d. pure (Resulting d)

-- a result to what it is assigned to
abbrev pub assigned_result : C.Destination → Called → Ruling C.Statement
assigned_result d c = result_for (C.target_type d) c.result >=> λ u. Ruled (calls_for c (C.Assigned u d))

-- and to the caller
abbrev pub returned_result : CType → Called → Ruling C.Statement
returned_result t c = result_for t c.result >=> λ u. Ruled (calls_for c (C.Returned u t))

-- a right side to what it is assigned to
abbrev pub assigned : Layout → C.Destination → Right → Ruling C.Statement
assigned l d (Computed e) = converted l (C.target_type d) e >=> λ a. Ruled (C.Assign d a)
assigned l d (Resulting c) = assigned_result d c

-- a right side to the caller
abbrev pub returned : Layout → CType → Right → Ruling C.Statement
returned l t (Computed e) = converted l t e >=> λ a. Ruled (C.Return a)
returned l t (Resulting c) = returned_result t c
