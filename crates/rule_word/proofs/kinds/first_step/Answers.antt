-- What is passed of a tree and a program.
use Rattle.std.proofs.Common.{rules, ◌≡◌, [], ◌∷◌, length, map, string_bytes}
use Rattle.expression_lang.specs.CodeExpression.{kind_of}
use Rattle.monad_lang.specs.CodeProgram.{mon_of}
use Rattle.rule_word.proofs.PassedNames.{ends_rule, ends_parts, goes_on}
use Rattle.rule_word.proofs.Walked.{parts_at}
use Rattle.rule_word.proofs.kinds.first_step.Goals as goal

pub returns-in_default : goal.returns-in_default
returns-in_default c = record {
  some = λ n y found. tt;
  none = λ n y found. ends_rule c.args.tree.now n (mon_of c.args.parts.now) y found c.in_default.ensures.none;
}

pub returns-in_default-both : goal.returns-in_default-both
returns-in_default-both c =
    let other : length (parts_at c.args.tree.now) ≡ 2 → ⊥ = search rules in record {
      some = λ n y found. tt;
      none = λ n y found. ends_parts c.args.tree.now n (mon_of c.args.parts.now) y found other;
    }

pub returns-clause-some : goal.returns-clause-some
returns-clause-some c =
    let items : parts_at c.args.tree.now ≡ c.in-Some-both.field-0-0.now ∷ c.in-Some-both.last.now ∷ [] = search rules in
    λ n y found. goes_on c.args.tree.now n (mon_of c.args.parts.now) y found (map kind_of c.in-Some.kinds.now) c.in-Some-both.field-0-0.now c.in-Some-both.last.now c.in-Some.ensures.some items
    (mon_of c.in-Some-named.field-0-0.now) (mon_of c.in-Some-named.rest.now) (map string_bytes c.in-Some-named.names.now) c.in-Some-named.ensures.some
