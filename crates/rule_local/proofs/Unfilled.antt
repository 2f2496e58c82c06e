-- Without an argument for each parameter the two sides differ: a parameter is zero on the left, and nothing on the right. So the
-- law on units is of calls that have their arguments.
use Rattle.std.proofs.Common.{◌≡◌, List, [], ◌∷◌, Some, codes, false}
use Rattle.c_values.specs.Name.{Name}
use Rattle.c_values.specs.Value.{Value, Truth, nothing}
use Rattle.c_values.specs.Layout.{Layout}
use Rattle.expression_lang.specs.Expression.{Var}
use Rattle.expression_lang.specs.Sort.{Bytes, BoolKind}
use Rattle.expression_lang.specs.Signature.{Signature, binder}
use Rattle.simpl_lang.specs.Command.{Set, SimplFn, SimplUnit}
use Rattle.simpl_lang.specs.Exec as Simpl
use Rattle.simpl_lang.specs.Exec.{result_local}
use Rattle.monad_lang.specs.Run as Mon

abbrev x : Name
x = codes "x"

-- it gives its parameter
abbrev identity : SimplFn
identity = record { name = codes "f"; locals = binder x BoolKind ∷ binder result_local BoolKind ∷ []; level = Bytes; body = Set result_local (Var x) }

abbrev signed : Signature
signed = record { name = codes "f"; level = Bytes; params = binder x BoolKind ∷ []; result = Some BoolKind }

abbrev unit_of : Layout → SimplUnit
unit_of l = record { layout = l; globals = []; functions = identity ∷ []; signatures = signed ∷ [] }

differ : (let vs : List Value = Truth false ∷ [] in vs) ≡ nothing ∷ [] → ⊥
differ h = cc
