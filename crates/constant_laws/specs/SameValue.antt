-- The value of a constant expression is defined twice: as a number, for the texts that ask for a constant, and as what an
-- expression gives where it is run. The two are the same.
use Rattle.std.specs.Prelude.{◌≡◌, Option, Some, None, Ok, Err, ℤ, true}
use Rattle.c_values.specs.Types.{CType}
use Rattle.c_values.specs.Word.{word}
use Rattle.c_values.specs.Value.{Value, Bits}
use Rattle.c_values.specs.Layout.{Layout, IsLayout, scalar_width}
use Rattle.expression_lang.specs.Sort.{Bytes}
use Rattle.expression_lang.specs.Evaluation.{Env, State}
use Rattle.c_lang.specs.Typed.{Expr, type_of}
use Rattle.c_lang.specs.WellTyped.{Scope, is_typed}
use Rattle.c_meaning.specs.CValue.{Context, Defined, number_of_type, value}
use Rattle.typing_rules.specs.Constant.{is_constant, constant_value}

-- no value on either side, or the word of a number that is the word's number at the type
abbrev pub IsSameValue : Layout → CType → Option ℤ → Defined Value → Type 0
IsSameValue l t None (Err k) = Unit {0}
IsSameValue l t (Some n) (Ok v) = (v ≡ Bits (word (scalar_width l.target t) n)) × (number_of_type t v ≡ n)
IsSameValue l t None (Ok v) = ⊥
IsSameValue l t (Some n) (Err k) = ⊥

-- nothing is watched but what is undefined in C
abbrev pub plain : Layout → Env → State → Context
plain l locals s = record { layout = l; level = Bytes; locals = locals; state = s }

-- Whatever the locals and the state are, a typed constant expression has a constant value exactly where no step of it is
-- undefined, and it is the same.
abbrev pub HasItsValue : Scope → Expr → Type 0
HasItsValue g e =
    IsLayout g.layout → is_typed g e ≡ true → is_constant e ≡ true → (locals : Env) (s : State) →
    IsSameValue g.layout (type_of e) (constant_value g.layout e) (value (plain g.layout locals s) e)
