-- A well-sorted expression is of a kind's sort exactly where the walk along first operands says so.
use Rattle.std.proofs.Common.{◌≡◌, ◌↔◌, IsTrue, sym, subst}
use Rattle.expression_lang.specs.Sort.{sort_of}
use Rattle.expression_lang.specs.CodeExpression.{exp_of, kind_of}
use Rattle.rule_word.specs.Scopes.{sort_seen, view_for}
use Rattle.rule_word.specs.CodeKinds.{scope_in}
use Rattle.rule_word.proofs.LeftSorts.{of_kind}
use Rattle.rule_word.proofs.sorts.is_of_kind.Goals as goal

pub returns : goal.returns
returns c =
    subst (λ b. IsTrue b ↔ (sort_of (scope_in c.args.context c.args.names.now) (exp_of c.args.e.now) ≡ sort_seen (view_for (kind_of c.args.kind)))) (sym c.has_left_kind.ensures)
    (of_kind (scope_in c.args.context c.args.names.now) (exp_of c.args.e.now) (kind_of c.args.kind) c.requires)
