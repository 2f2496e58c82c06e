-- Values that lie as the one part in others, and those others turned inside out: the innermost is the outermost.
use Rattle.std.specs.Prelude.{◌≡◌, List, Option, Some, None}
use Rattle.c_values.specs.Path.{Step, place_of, upd}
use Rattle.c_values.specs.Value.{Value, Bits, Number, Truth, Parts, no_values, more, nothing}
use Rattle.c_values.specs.CodeLone.{lone}
use Rattle.c_memory.specs.Tags.{prefixed}

-- a value with the others back around it
abbrev pub turned_back : Value → Value → Value
turned_back (Parts (more v no_values)) w = turned_back v (lone w)
turned_back (Parts (more v (more u vs))) w = w
turned_back (Parts no_values) w = w
turned_back (Bits b) w = w
turned_back (Number n) w = w
turned_back (Truth t) w = w

-- a value with the part at the end of some steps replaced
abbrev pub replaced : Value → Option (List Step) → Value → Value
replaced v None w = nothing
replaced v (Some steps) w = upd v steps w

-- the first step leads to the one part of a value, and these are the others
pub record LeadToOne (steps rest : Option (List Step)) : Type 0 where
  pub step : Step
  pub is : steps ≡ prefixed step rest
  pub one : place_of step 1 ≡ Some 0
