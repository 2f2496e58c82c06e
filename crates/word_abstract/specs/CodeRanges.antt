-- What the code's ranges stand for, and what is known before a fact.
use Rattle.std.specs.Prelude.{◌≡◌, ◌<◌, ℕ, List, ◌∷◌, ◌++◌, if◌then◌else◌}
use Rattle.c_values.specs.CodeNumber.{number_op_of}
use Rattle.expression_lang.specs.declared.expression.Exp.{size-Exp}
use Rattle.expression_lang.specs.Expression as X
use Rattle.expression_lang.specs.Expression.{Exp}
use Rattle.expression_lang.specs.CodeExpression.{exp_of}
use Rattle.ac_expr.specs.Fact.{Fact, Whole}
use Rattle.rule_word.specs.Bases.{natural_range, integer_range}
use Rattle.word_abstract.specs.CodeMeaning.{Seen, AsNatural, AsInteger, meaning}
use Rattle.word_abstract.specs.CodeClaims.{IsOther}
use Rattle.word_abstract.specs.CodeStanding.{standing_in}
use Rattle.word_abstract.specs.CodeFacts.{known_in, conditions_in}
use Rattle.word_abstract.specs.declared.ranges.Sum as S
use Rattle.word_abstract.specs.declared.ranges.Ranges as R
use Rattle.word_abstract.specs.declared.ranges.Before as B
use Rattle.word_abstract.specs.declared.ranges.Claim as C

abbrev pub sum_in : S.Sum → Seen → Exp
sum_in (S.TheVariants.Arith op a b) v =
    X.Arith (number_op_of op) (meaning (standing_in a.now) v).right (meaning (standing_in b.now) v).right
sum_in (S.TheVariants.Negated a) v = X.Negate (meaning (standing_in a.now) v).right

-- the range of the sum, as numbers of the kind
abbrev pub seen_range : R.Ranges → Seen → Exp
seen_range r AsInteger = integer_range r.width (sum_in r.sum AsInteger)
seen_range r v = natural_range r.width (sum_in r.sum v)

abbrev pub natural_in : R.Ranges → Exp
natural_in r = if r.is_signed then seen_range r AsInteger else seen_range r AsNatural

abbrev pub integer_in : R.Ranges → Exp
integer_in r = seen_range r AsInteger

abbrev pub before_in : B.Before → List Fact
before_in (B.Older conditions known) = conditions_in conditions.now ++ known_in known
before_in (B.Also' p before e) = Whole (exp_of e.now) ∷ before_in before

abbrev pub IsShaped : C.Claim → Exp → Type 0
IsShaped (C.TheVariants.Both a b) e = e ≡ X.And (exp_of a.now) (exp_of b.now)
IsShaped (C.TheVariants.Range low x high) e = e ≡ X.Between low (exp_of x.now) high
IsShaped (C.TheVariants.Under c d) e = e ≡ X.Imp (exp_of c.now) (exp_of d.now)
IsShaped C.TheVariants.Other e = IsOther e

abbrev pub AreSmaller : C.Claim → ℕ → Type 0
AreSmaller (C.TheVariants.Both a b) n = (size-Exp a.now < n) × (size-Exp b.now < n)
AreSmaller (C.TheVariants.Range low x high) n = size-Exp x.now < n
AreSmaller (C.TheVariants.Under c d) n = (size-Exp c.now < n) × (size-Exp d.now < n)
AreSmaller C.TheVariants.Other n = Unit {0}
