use Rattle.c_lex.proofs.Leads.{spans_ascend}
use Rattle.c_lex.proofs.laws.spans_ascend.Goals as goal

pub returns : goal.returns
returns c = spans_ascend
