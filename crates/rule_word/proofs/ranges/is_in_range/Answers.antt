-- What is seen as a number is of one of the four widths.
use Rattle.std.proofs.Common.{subst}
use Rattle.expression_lang.specs.CodeExpression.{exp_of}
use Rattle.rule_word.specs.CodeRule.{context_in}
use Rattle.rule_word.specs.CodeKinds.{point_in}
use Rattle.rule_word.specs.CodeRows.{FitsAt}
use Rattle.rule_word.proofs.KindsStay.{unsigned_width, signed_width}
use Rattle.rule_word.proofs.ranges.is_in_range.Goals as goal

pub is_natural-requires : goal.is_natural-requires
is_natural-requires c =
    unsigned_width (context_in c.args.context) c.laid_out.ensures (point_in c.args.point) c.requires.kinds (exp_of c.args.left.now) c.in-Unsigned.width
    (subst (λ v. FitsAt c.args.context c.args.point (exp_of c.args.left.now) v) c.in-Unsigned.is c.requires.fits)

pub is_integer-requires : goal.is_integer-requires
is_integer-requires c =
    signed_width (context_in c.args.context) c.laid_out.ensures (point_in c.args.point) c.requires.kinds (exp_of c.args.left.now) c.in-Signed.width
    (subst (λ v. FitsAt c.args.context c.args.point (exp_of c.args.left.now) v) c.in-Signed.is c.requires.fits)
