use Rattle.expression_text.proofs.LookedUp.{looked_up_from}
use Rattle.rule_local.specs.CodeRule.{rule_of}
use Rattle.rule_text.specs.LocalText.{word, all_rules}
use Rattle.rule_text.proofs.LocalLaws.{rules_found}
use Rattle.rule_text.proofs.locals.RuleRuleReading.plain.Goals as goal

pub returns : goal.returns
returns c = looked_up_from word all_rules rule_of c.args.word.now c.plain_rule.result rules_found c.plain_rule.ensures.some c.plain_rule.ensures.none
