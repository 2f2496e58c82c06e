-- What the code's faults say of a text.
use Rattle.std.specs.Prelude.{List}
use Rattle.c_values.specs.Types.{Target}
use Rattle.c_grammar.specs.Tree as tree
use Rattle.typing_rules.specs.declared.fault.TypeFault.{TypeFault}
use Rattle.typing_rules.specs.declared.fault.TypeFault.TheVariants as F
use Rattle.typing_rules.specs.Unit.{IsFirstBad}

-- a text isn't typed: its first bad node, or there is no memory
abbrev pub IsBadText : Target → List tree.External → TypeFault → Type 0
IsBadText t xs (F.Bad at kind) = IsFirstBad t xs at kind
IsBadText t xs F.Memory = Unit {0}
