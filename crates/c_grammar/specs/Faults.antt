-- What a refusal says.
use Rattle.std.specs.Prelude.{◌≡◌, ℕ}
use Rattle.c_grammar.specs.declared.fault.ScriptFault.{ScriptFault}
use Rattle.c_grammar.specs.declared.fault.ScriptFault.TheVariants.{Syntax, Memory}

-- the fact, unless memory ran out
abbrev pub IfSyntax : ScriptFault → Type 0 → Type 0
IfSyntax (Syntax at) P = P
IfSyntax (Memory error) P = Unit {0}

-- the place of a syntax fault
abbrev pub IsAt : ScriptFault → ℕ → Type 0
IsAt (Syntax at) place = at ≡ place
IsAt (Memory error) place = Unit {0}
