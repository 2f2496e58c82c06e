use Rattle.std.proofs.Common.{refl}
use Rattle.rule_heap.specs.CodeRule.{rule_of}
use Rattle.rule_text.specs.HeapText.{word, plain_rules, is_plain}
use Rattle.rule_text.proofs.PlainFound.{plain_found}
use Rattle.rule_text.proofs.HeapLaws.{rules_found}
use Rattle.rule_text.proofs.heaps.RuleRuleReading.plain.Goals as goal

pub returns : goal.returns
returns c = plain_found word is_plain plain_rules rule_of c.args.word.now c.plain_rule.result rules_found refl c.plain_rule.ensures.some c.plain_rule.ensures.none
