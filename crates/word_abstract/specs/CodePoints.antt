-- Where the code's expressions stand: what is known there, and what is in scope.
use Rattle.std.specs.Prelude.{List, Bool}
use Rattle.expression_lang.specs.Expression.{Exp, Path}
use Rattle.expression_lang.specs.Sort.{Scope}
use Rattle.expression_lang.specs.Signature.{Binder}
use Rattle.ac_expr.specs.SameExp.{same_exp}
use Rattle.rule_trees.specs.RuleTree.{Trees}
use Rattle.rule_word.specs.Rule.{Rule}
use Rattle.rule_word.specs.Scopes.{words}
use Rattle.rule_word.specs.Bases.{Surroundings, under}
use Rattle.rule_word.specs.CodeRule.{context_in}
use Rattle.rule_word.specs.CodeKinds.{binders_in}
use Rattle.word_abstract.specs.CodeMeaning as S
use Rattle.word_abstract.specs.CodeMeaning.{Standing}
use Rattle.word_abstract.specs.CodeFacts.{fact_in, known_in, conditions_in}
use Rattle.word_abstract.specs.declared.facts.Fact as F
use Rattle.word_abstract.specs.declared.points.Point as P

abbrev pub names_at : P.Point → List Binder
names_at p = binders_in p.names.now

abbrev pub scope_at : P.Point → Scope
scope_at p = (words (context_in p.setting.now.context) (names_at p)).scope

abbrev pub known_at : P.Point → Surroundings
known_at p = record { conditions = conditions_in p.conditions.now; facts = known_in p.known }

abbrev pub numbers_at : P.Point → Bool
numbers_at p = p.setting.now.numbers

abbrev pub standing_at : P.Point → Exp → Standing
standing_at p e = S.standing same_exp (numbers_at p) (scope_at p) (names_at p) (known_at p) e

abbrev pub path_at : P.Point → Path → Path
path_at p path = S.path_standing same_exp (numbers_at p) (scope_at p) (names_at p) (known_at p) path

abbrev pub trees_at : P.Point → Path → Trees Rule → Trees Rule
trees_at p path more = S.path_trees same_exp (numbers_at p) (scope_at p) (names_at p) (known_at p) path more

-- where one condition more holds
abbrev pub standing_under : P.Point → F.Fact → Exp → Standing
standing_under p f e = S.standing same_exp (numbers_at p) (scope_at p) (names_at p) (under (fact_in f) (known_at p)) e
