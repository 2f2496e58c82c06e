-- Programs that are made of their parts, as they are made where they stand.
use Rattle.std.proofs.Common.{◌≡◌, Bool, List, [], ◌∷◌, Option, ap, ap₂, ◌∙◌}
use Rattle.c_values.specs.Name.{Name}
use Rattle.expression_lang.specs.Expression.{Exp}
use Rattle.expression_lang.specs.Sort.{Kind}
use Rattle.expression_lang.specs.Signature.{Binder}
use Rattle.ac_expr.specs.Fact.{Fact, Whole, NotTrue}
use Rattle.monad_lang.specs.Program as M
use Rattle.monad_lang.specs.Program.{Mon, Start}
use Rattle.monad_lang.specs.Run.{start_names}
use Rattle.monad_lang.specs.Sorted.{scalars_given}
use Rattle.program_facts.specs.Flow.{facts_after}
use Rattle.rule_trees.specs.RuleTree.{Tree, Trees, node, no_trees, tree}
use Rattle.rule_word.specs.Rule as R
use Rattle.rule_word.specs.Rule.{Rule, Context}
use Rattle.rule_word.specs.Scopes.{with_kinds, words}
use Rattle.rule_word.specs.Table.{truth, views_for}
use Rattle.rule_parts.specs.Starts.{start_exps}
use Rattle.rule_word.specs.WordsAbstracted.{Abstracted}
use Rattle.rule_word.specs.ProgramsAbstracted.{AbstractedProgram, rights, trees_before, restarted, kinds_for, scalars_there, exp_at, guard_at, all_at, program_abstracted}
use Rattle.word_abstract.specs.CodeWholes.{tested, looped, bound}

module _ (same : Exp → Exp → Bool) (numbers : Bool) (ctx : Context) (table : Name → Option Kind) where
  abbrev P : List Fact → List Binder → Mon → List Kind → AbstractedProgram
  P fs names m ks = program_abstracted same numbers ctx table fs names m ks

  pub bind_made : (fs : List Fact) (names : List Binder) (m : Mon) (xs : List Name) (n : Mon) (ks js : List Kind) (r : Mon) (t : Tree Rule) →
      js ≡ kinds_for table xs (scalars_there (scalars_given (words ctx names) m)) →
      r ≡ (program_abstracted same numbers ctx table fs names m js).right →
      t ≡ (program_abstracted same numbers ctx table fs names m js).tree →
      bound r xs js t (program_abstracted same numbers ctx table (facts_after r xs fs) (with_kinds xs js names) n ks) ≡ program_abstracted same numbers ctx table fs names (M.Bind m xs n) ks
  bind_made fs names m xs n ks js r t e i q =
      let G : List Kind → AbstractedProgram → AbstractedProgram = λ j a. bound a.right xs j a.tree (P (facts_after a.right xs fs) (with_kinds xs j names) n ks) in
      let whole : AbstractedProgram = record { right = r; tree = t } in
      let same_first : whole ≡ P fs names m js = ap₂ (λ (a : Mon) (b : Tree Rule). let x : AbstractedProgram = record { right = a; tree = b } in x) i q in
      ap (G js) same_first ∙ ap (λ j. G j (P fs names m j)) e

  pub if_made : (fs : List Fact) (names : List Binder) (e : Exp) (m n : Mon) (ks : List Kind) (x : Abstracted) (a b : AbstractedProgram) →
      x ≡ exp_at same numbers ctx names fs e truth →
      a ≡ program_abstracted same numbers ctx table (Whole x.right ∷ fs) names m ks →
      b ≡ program_abstracted same numbers ctx table (NotTrue x.right ∷ fs) names n ks →
      tested x a b ≡ program_abstracted same numbers ctx table fs names (M.If e m n) ks
  if_made fs names e m n ks x a b h i j =
      ap₂ (λ y z. tested x y z) i j ∙ ap (λ (x : Abstracted). tested x (P (Whole x.right ∷ fs) names m ks) (P (NotTrue x.right ∷ fs) names n ks)) h

  pub loop_made : (fs : List Fact) (names : List Binder) (starts : List Start) (guard test : Exp) (m : Mon) (ks : List Kind) (begun : List Start) (before : Trees Rule → Trees Rule) (c t : Abstracted) (a : AbstractedProgram) →
      begun ≡ restarted starts (rights (all_at same numbers ctx names fs (start_exps starts) (views_for ks))) →
      ((more : Trees Rule) → before more ≡ trees_before (all_at same numbers ctx names fs (start_exps starts) (views_for ks)) more) →
      c ≡ guard_at same numbers ctx (with_kinds (start_names starts) ks names) [] guard →
      t ≡ exp_at same numbers ctx (with_kinds (start_names starts) ks names) (Whole c.right ∷ []) test truth →
      a ≡ program_abstracted same numbers ctx table (Whole t.right ∷ Whole c.right ∷ []) (with_kinds (start_names starts) ks names) m ks →
      looped ks begun before c t a ≡ program_abstracted same numbers ctx table fs names (M.Loop starts guard test m) ks
  loop_made fs names starts guard test m ks begun before c t a e f h i j =
      let inner = with_kinds (start_names starts) ks names in
      let xs = all_at same numbers ctx names fs (start_exps starts) (views_for ks) in
      let N : Abstracted → Abstracted → AbstractedProgram = λ (c t : Abstracted). P (Whole t.right ∷ Whole c.right ∷ []) inner m ks in
      let T : Abstracted → Abstracted = λ (c : Abstracted). exp_at same numbers ctx inner (Whole c.right ∷ []) test truth in
      let whole : List Start → Trees Rule → Abstracted → Abstracted → AbstractedProgram → AbstractedProgram = λ (begun : List Start) (ts : Trees Rule) (c t : Abstracted) (a : AbstractedProgram).
      record { right = M.Loop begun c.right t.right a.right; tree = node (R.Loop ks) ts } in
      let all : Abstracted → Abstracted → AbstractedProgram → AbstractedProgram = λ (c t : Abstracted) (a : AbstractedProgram).
      whole (restarted starts (rights xs)) (trees_before xs (tree c.tree (tree t.tree (tree a.tree no_trees)))) c t a in
      ap₂ (λ (b : List Start) (ts : Trees Rule). whole b ts c t a) e (f (tree c.tree (tree t.tree (tree a.tree no_trees))))
      ∙ ap (all c t) j
      ∙ ap (λ (t : Abstracted). all c t (N c t)) i
      ∙ ap (λ (c : Abstracted). all c (T c) (N c (T c))) h
