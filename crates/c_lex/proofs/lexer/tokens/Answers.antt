use Rattle.c_lex.specs.Front.{bad_byte, bad_number, open_comment, unsupported, long_name}
use Rattle.c_lex.proofs.Leads.{tokens_are_told, fault_is_told}
use Rattle.c_lex.proofs.lexer.tokens.Goals as goal

pub returns : goal.returns
returns c =
    let told = fault_is_told c.args.text.now c.read.result c.read.ensures.ok c.read.ensures.fault in
    record {
      found = c.read.ensures.ok;
      only = tokens_are_told c.args.text.now c.read.result c.read.ensures.ok c.read.ensures.fault;
      fault = c.read.ensures.fault;
      bad_byte = told bad_byte;
      bad_number = told bad_number;
      open_comment = told open_comment;
      unsupported = λ u. told (unsupported u);
      long_name = told long_name;
    }
