use Rattle.rule_eq.proofs.FormsKept.{forms_kept}
use Rattle.rule_eq.proofs.SimplerKept.{simpler_gives}
use Rattle.rule_eq.proofs.laws.simplifying_keeps_sorts.Goals as goal

pub returns : goal.returns
returns c = record { sorts = simpler_gives; forms = forms_kept }
