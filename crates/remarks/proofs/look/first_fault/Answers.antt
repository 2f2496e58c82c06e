use Rattle.std.proofs.Common.{sym, subst}
use Rattle.c_lex.specs.Lexeme.{lexemes_of}
use Rattle.c_lex.specs.Tokens.{Tokens}
use Rattle.c_values.specs.CodeTypes.{target_of}
use Rattle.remarks.proofs.Faults.{text_found}
use Rattle.remarks.proofs.look.first_fault.Goals as goal

pub returns-in-Ok : goal.returns-in-Ok
returns-in-Ok c =
    text_found (target_of c.args.target) c.args.text.now (lexemes_of c.deref.result.now)
    (subst (λ ts. Tokens c.args.text.now (lexemes_of ts)) (sym c.deref.ensures.value) c.in-Ok.ensures.found)
    c.in_tokens.result c.in_tokens.ensures
