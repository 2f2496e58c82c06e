use Rattle.program_facts.proofs.KeepsTags.{units_keep_tags}
use Rattle.program_facts.proofs.FactsAfter.{facts_after_hold}
use Rattle.program_facts.proofs.flow_laws.facts_hold_after.Goals as goal

pub returns : goal.returns
returns c u p n m xs fs env depth s h a r = facts_after_hold u.layout p m xs fs env depth _ (units_keep_tags u p n) s h a r
