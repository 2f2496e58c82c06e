use Rattle.rule_eq.proofs.SubstitutionLaw.{values_substituted, runs_substituted}
use Rattle.rule_eq.proofs.laws.substitution_is_exact.Goals as goal

pub returns : goal.returns
returns c = record { values = values_substituted; programs = runs_substituted }
