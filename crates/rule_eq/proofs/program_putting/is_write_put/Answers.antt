-- Other heads of places don't come of it.
use Rattle.ac_expr.proofs.ApartThere.{never}
use Rattle.expression_lang.specs.CodeExpression.{exp_of}
use Rattle.monad_lang.specs.CodeProgram.{place_of}
use Rattle.rule_eq.proofs.ProgramPutting.{write_put}
use Rattle.rule_eq.proofs.program_putting.is_write_put.Goals as goal

pub returns-else-same_place_head : goal.returns-else-same_place_head
returns-else-same_place_head c = (
  (λ yes. absurd cc),
  (λ h. absurd (never c.same_place_head.result c.same_place_head.ensures c.if-same_place_head.false
      ((write_put c.args.name.now (exp_of c.args.value.now) (place_of c.args.place.now) (place_of c.args.other_place.now) (exp_of c.args.e.now) (exp_of c.args.other.now)).1 h).0)),
)
