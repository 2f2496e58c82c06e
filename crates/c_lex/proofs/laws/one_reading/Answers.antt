use Rattle.c_lex.proofs.Leads.{one_list, one_fault, tokens_or_fault}
use Rattle.c_lex.proofs.laws.one_reading.Goals as goal

pub returns : goal.returns
returns c = record { tokens = one_list; fault = one_fault; apart = tokens_or_fault }
