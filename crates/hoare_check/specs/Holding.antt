-- What holds of triples: of a unit's programs, and of the C that they stand for.
use Rattle.std.specs.Prelude.{List, [], ◌∷◌}
use Rattle.c_values.specs.Name.{Name}
use Rattle.expression_lang.specs.Sort.{Level}
use Rattle.monad_lang.specs.Program.{FinalUnit}
use Rattle.c_lang.specs.Typed.{TypedUnit}
use Rattle.exactness.specs.Triple.{HoldsOfProgram, HoldsOfC}
use Rattle.triple_lang.specs.Triple.{Triple}

abbrev pub AllHold : FinalUnit → List Triple → Type 0
AllHold u [] = Unit {0}
AllHold u (t ∷ ts) = HoldsOfProgram u t.assertions × AllHold u ts

abbrev pub AllHoldOfC : TypedUnit → (Name → Level) → List Triple → Type 0
AllHoldOfC u levels [] = Unit {0}
AllHoldOfC u levels (t ∷ ts) = HoldsOfC u levels t.assertions × AllHoldOfC u levels ts
