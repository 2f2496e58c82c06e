use Rattle.std.proofs.Common.{refl}
use Rattle.rule_word.specs.CodeRule.{rule_of}
use Rattle.rule_text.specs.WordText.{word, plain_rules, is_plain}
use Rattle.rule_text.proofs.PlainFound.{plain_found}
use Rattle.rule_text.proofs.WordLaws.{rules_found}
use Rattle.rule_text.proofs.numbers.RuleRuleReading.plain.Goals as goal

pub returns : goal.returns
returns c = plain_found word is_plain plain_rules rule_of c.args.word.now c.plain_rule.result rules_found refl c.plain_rule.ensures.some c.plain_rule.ensures.none
