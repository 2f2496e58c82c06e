-- What stands in a program is seen as it is abstracted there.
use Rattle.std.proofs.Common.{◌≡◌, Bool, List, sym, ap, ◌∙◌}
use Rattle.expression_lang.specs.Expression.{Exp, Path}
use Rattle.expression_lang.specs.Sort.{Scope}
use Rattle.expression_lang.specs.Signature.{Binder}
use Rattle.rule_trees.specs.RuleTree.{Trees}
use Rattle.rule_word.specs.Rule.{Rule, View}
use Rattle.rule_word.specs.Bases.{Surroundings}
use Rattle.rule_word.specs.WordsAbstracted.{Indices, abstracted, indices}
use Rattle.word_abstract.specs.CodeMeaning.{Seen, seen_in, meaning, standing, path_standing, path_trees}
use Rattle.word_abstract.proofs.Meanings.{meaning_is, indices_is}

pub exp_seen : (same : Exp → Exp → Bool) (numbers : Bool) (g : Scope) (names : List Binder) (k : Surroundings) (e : Exp) (v : View) (s : Seen) → seen_in v ≡ s →
    meaning (standing same numbers g names k e) s ≡ abstracted same numbers g names k e v
exp_seen same numbers g names k e v s q = ap (meaning (standing same numbers g names k e)) (sym q) ∙ sym (meaning_is same numbers g names k e v)

pub path_seen : (same : Exp → Exp → Bool) (numbers : Bool) (g : Scope) (names : List Binder) (k : Surroundings) (path : Path) (ts : Trees Rule) →
    path_standing same numbers g names k path ≡ (indices same numbers g names k path ts).path
path_seen same numbers g names k path ts = ap (λ (i : Indices). i.path) (sym (indices_is same numbers g names k path ts))

pub path_trees_seen : (same : Exp → Exp → Bool) (numbers : Bool) (g : Scope) (names : List Binder) (k : Surroundings) (path : Path) (ts : Trees Rule) →
    path_trees same numbers g names k path ts ≡ (indices same numbers g names k path ts).trees
path_trees_seen same numbers g names k path ts = ap (λ (i : Indices). i.trees) (sym (indices_is same numbers g names k path ts))
