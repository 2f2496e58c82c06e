-- What the code's parameters stand for.
use Rattle.std.specs.Prelude.{ℕ, Option, String, string_bytes}
use Rattle.std.specs.Option.{option_map}
use Rattle.std.specs.declared.alloc.Global.{Global as Heap}
use Rattle.c_values.specs.Name.{Name}
use Rattle.c_values.specs.CodeTypes.{type_of}
use Rattle.typing_declarations.specs.declared.parameters.Parameter as P
use Rattle.typing_rules.specs.Checked.{Judgement, changed, rule, ◌>>=◌}
use Rattle.typing_rules.specs.Functions.{Parameter, Written, parameter_rule, add_parameter}

abbrev pub parameter_of : P.Parameter → Parameter
parameter_of p = record { name = option_map string_bytes p.name; type = type_of p.ty }

-- a name as it is written, with its offset, and without
abbrev pub place_and_name : Option (ℕ × String Heap) → Option (ℕ × Name)
place_and_name x = option_map (λ n. (n.0, string_bytes n.1)) x

abbrev pub name_alone : Option (ℕ × String Heap) → Option Name
name_alone x = option_map (λ n. n.1) (place_and_name x)

-- a parameter by its rule, which is declared
abbrev pub parameter_at : ℕ → Written → Judgement Parameter
parameter_at at w = rule at (parameter_rule w) >>= λ p. changed (add_parameter p) p
