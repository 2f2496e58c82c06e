use Rattle.std.proofs.Common.{sym, subst}
use Rattle.c_lex.specs.Lexeme.{lexemes_of}
use Rattle.c_grammar.specs.Place.{IsPlace}
use Rattle.c_parse.specs.Answer.{IsFaultOf}
use Rattle.remarks.proofs.look.in_tokens.Goals as goal

pub returns-in-Err-Syntax : goal.returns-in-Err-Syntax
returns-in-Err-Syntax c =
    let ts = lexemes_of c.args.tokens.now in
    let h = subst (IsFaultOf ts) c.in-Err-Syntax.field-0-is c.in-Err-Syntax.ensures.fault in
    (h.0, subst (IsPlace ts) (sym c.in-Err-Syntax.at-is) h.1)
