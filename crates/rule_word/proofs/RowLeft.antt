-- What is left of two programs by a rule, from what is left of its pairs.
use Rattle.std.proofs.Common.{◌≡◌, ℕ, true, List, ◌++◌, length, Result, Ok, Err, sym, subst, ◌∙◌}
use Rattle.expression_lang.specs.Sort.{Kind}
use Rattle.monad_lang.specs.Program.{Mon}
use Rattle.rule_trees.specs.declared.tree.Tree as T
use Rattle.rule_trees.specs.RuleTree.{AllChecked, next}
use Rattle.rule_trees.specs.CodeTree.{trees_in}
use Rattle.rule_word.specs.declared.rule.Rule as R
use Rattle.rule_word.specs.declared.rule.Context as C
use Rattle.rule_word.specs.declared.rule.Point as P
use Rattle.rule_word.specs.declared.kernel.Front as F
use Rattle.rule_word.specs.Rule.{Claim, program}
use Rattle.rule_word.specs.CodeFits.{AllFit, FitInTurn}
use Rattle.rule_word.specs.CodeNames.{are_binders}
use Rattle.rule_word.specs.CodeClaims.{inside}
use Rattle.rule_word.specs.CodeRule.{rule_of, rule_at, context_in, table_at}
use Rattle.rule_word.specs.CodeKinds.{point_in}
use Rattle.rule_word.specs.CodeRows.{program_row_at}
use Rattle.rule_word.specs.CodeFront.{Leaves, row_thens, RowLeaves}
use Rattle.rule_word.proofs.Walked.{parts_at, parts_less, decided, rest_count, nothing_more}
use Rattle.rule_word.proofs.Along.{le_less}

module _ (c : C.Context) (p : P.Point) (t : T.Tree R.Rule) (m m' : Mon) (ks : List Kind) (cs : List Claim) (ts : List (T.Tree R.Rule)) (at later : ℕ)
    (holds : (program_row_at c p (rule_at t) m m' ks).holds) (parts : (table_at c (rule_at t) (program (point_in p) m m' ks)).parts ≡ cs ++ row_thens p t m m' ks) (items : parts_at t ≡ ts)
    (count : length ts ≡ length (cs ++ row_thens p t m m' ks)) (number : later ≡ next at) (turn : AllFit (context_in c) cs → FitInTurn (context_in c) (cs ++ row_thens p t m m' ks))
    (names : AllFit (context_in c) cs → are_binders (inside (rule_at t) m (point_in p)).names ≡ true) where
  pub row_left : (q : Result F.Front ℕ) → Leaves c p ts cs later q → RowLeaves c p t m m' ks at q
  row_left (Ok (F.TheVariants.Behind rest n)) b = record {
    decides = λ r h. decided c t (program (point_in p) m m' ks) (cs ++ row_thens p t m m' ks) ts at later r holds parts items count number (b.decides (row_thens p t m m' ks) r h);
    fit = b.turn (row_thens p t m m' ks) (turn b.fit);
    count = rest_count cs (row_thens p t m m' ks) (length rest.now) (length ts) count b.count;
    names = names b.fit;
    fewer = le_less _ _ _ b.fewer (parts_less t ts items);
  }
  row_left (Ok (F.TheVariants.Last u e v a n)) k = record {
    decides = λ r h.
        decided c t (program (point_in p) m m' ks) (cs ++ row_thens p t m m' ks) ts at later r holds parts items count number
        (subst (λ ds. AllChecked (table_at c) (trees_in rule_of ts) ds later r) (sym (nothing_more cs (row_thens p t m m' ks) (k.count ∙ count))) (k.decides r h));
    fits = k.fits;
    fewer = le_less _ _ _ k.fewer (parts_less t ts items);
  }
  row_left (Err n) h = decided c t (program (point_in p) m m' ks) (cs ++ row_thens p t m m' ks) ts at later (Err n) holds parts items count number (h (row_thens p t m m' ks))
