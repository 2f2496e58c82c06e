-- How many parts rules may have.
use Rattle.std.specs.Prelude.{ℕ, nat_le, Bool, true, ◌&&◌, Option, Some, None}
use Rattle.rule_text.specs.declared.arity.Arity.{Arity}

abbrev pub between : ℕ → ℕ → Arity
between m n = record { least = m; most = Some n }

abbrev pub exactly : ℕ → Arity
exactly n = between n n

abbrev pub at_least : ℕ → Arity
at_least n = record { least = n; most = None }

abbrev pub at_most : Option ℕ → ℕ → Bool
at_most None n = true
at_most (Some m) n = nat_le n m

-- a rule may have so many
abbrev pub fits : Arity → ℕ → Bool
fits a n = nat_le a.least n && at_most a.most n
