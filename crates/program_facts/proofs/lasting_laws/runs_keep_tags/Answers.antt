use Rattle.program_facts.proofs.KeepsTags.{runs_keep_tags, units_keep_tags, calls_keep_tags}
use Rattle.program_facts.proofs.lasting_laws.runs_keep_tags.Goals as goal

pub returns : goal.returns
returns c = record {
  calls = λ u p n. calls_keep_tags u p n;
  programs = λ u p n depth m env s. runs_keep_tags u.layout p m env depth _ (units_keep_tags u p n) s;
}
