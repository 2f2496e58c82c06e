-- Those that are made before those that are left are those of all.
use Rattle.std.proofs.Common.{◌≡◌, length, map, string_bytes}
use Rattle.expression_lang.specs.CodeExpression.{kind_of}
use Rattle.rule_word.specs.Table as T
use Rattle.word_abstract.specs.CodeRecasting.{before}
use Rattle.word_abstract.specs.CodeTranslated.{exps_in}
use Rattle.word_abstract.proofs.translated.recasts.Given as goal

abbrev pub invariant-along : goal.invariant-along
invariant-along l = before (exps_in l.made) (T.recasts (map kind_of l.js) (map kind_of l.ks) (map string_bytes l.ys)) ≡ T.recasts (map kind_of l.from) (map kind_of l.to) (map string_bytes l.names)

abbrev pub decreases-along : goal.decreases-along
decreases-along l = length l.js
