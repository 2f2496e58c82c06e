-- One front more.
use Rattle.std.proofs.Common.{◌≡◌, List, [], ◌∷◌, ◌++◌, map, string_bytes, refl, sym, ap, ap₂, ◌∙◌}
use Rattle.c_values.specs.Name.{Name}
use Rattle.expression_lang.specs.CodeExpression.{kind_of}
use Rattle.expression_lang.specs.Sort.{Kind}
use Rattle.expression_lang.specs.Signature.{Binder}
use Rattle.ac_expr.specs.Fact.{Fact}
use Rattle.ac_expr.specs.SameExp.{same_exp}
use Rattle.monad_lang.specs.Program as M
use Rattle.monad_lang.specs.Program.{Mon}
use Rattle.monad_lang.specs.CodeProgram.{mon_of}
use Rattle.program_facts.specs.Flow.{facts_after}
use Rattle.rule_word.specs.Scopes.{with_kinds}
use Rattle.rule_word.specs.CodeRule.{tree_of, context_in}
use Rattle.rule_word.specs.ProgramsAbstracted.{AbstractedProgram, program_abstracted}
use Rattle.word_abstract.specs.CodeWholes.{bound}
use Rattle.word_abstract.specs.CodeFronts.{with_front, with_fronts}
use Rattle.word_abstract.specs.CodeFrontsAt.{IsFrontAt}
use Rattle.word_abstract.specs.CodeScenes.{context_at, binders_at, facts_at, local_kinds, program_there}
use Rattle.word_abstract.specs.CodePassing.{facts_passed, names_passed}
use Rattle.word_abstract.specs.CodeBehind.{program_behind}
use Rattle.word_abstract.specs.declared.points.Scene as P
use Rattle.word_abstract.specs.declared.points.Setting as S
use Rattle.word_abstract.specs.declared.passing.Passed as Q
use Rattle.word_abstract.specs.declared.passing.Front as F
use Rattle.word_abstract.proofs.WholeLaws.{bind_made}

pub with_fronts_push : (xs : List F.Front) (x : F.Front) (last : AbstractedProgram) → with_fronts (xs ++ x ∷ []) last ≡ with_fronts xs (with_front x last)
with_fronts_push [] x last = refl
with_fronts_push (y ∷ ys) x last = ap (λ m. with_front y m) (with_fronts_push ys x last)

-- a front around what is made behind it, by what is known and in scope there
pub front_made : (p : P.Scene) (m : Mon) (xs : List Name) (n : Mon) (ks : List Kind) (f : F.Front) (facts : List Fact) (names : List Binder) → IsFrontAt p m xs f →
    facts ≡ facts_after (mon_of f.right.value) (map string_bytes f.names.items) (facts_at p) →
    names ≡ with_kinds (map string_bytes f.names.items) (map kind_of f.kinds.items) (binders_at p) →
    with_front f (program_abstracted same_exp p.setting.now.numbers (context_at p) (λ x. local_kinds p.setting.now x) facts names n ks) ≡ program_there p (M.Bind m xs n) ks
front_made p m xs n ks f facts names h e i =
    let made : List Fact → List Binder → AbstractedProgram = λ fs bs. with_front f (program_abstracted same_exp p.setting.now.numbers (context_at p) (λ x. local_kinds p.setting.now x) fs bs n ks) in
    let r = mon_of f.right.value in
    let js = map kind_of f.kinds.items in
    let B : List Name → AbstractedProgram = λ ys. bound r ys js (tree_of f.tree) (program_abstracted same_exp p.setting.now.numbers (context_at p) (λ x. local_kinds p.setting.now x) (facts_after r ys (facts_at p)) (with_kinds ys js (binders_at p)) n ks) in
    ap₂ made e i ∙ ap B h.names
    ∙ bind_made same_exp p.setting.now.numbers (context_at p) (λ x. local_kinds p.setting.now x) (facts_at p) (binders_at p) m xs n ks js r (tree_of f.tree) h.kinds h.right h.tree

-- a scene behind parts that were passed
abbrev G : S.Setting → List Fact → List Binder → Mon → List Kind → AbstractedProgram
G s fs bs m ks = program_abstracted same_exp s.numbers (context_in s.context) (λ x. local_kinds s x) fs bs m ks

pub here_behind : (at p : P.Scene) (passed : Q.Passed) (m : Mon) (ks : List Kind) → p.setting.now ≡ at.setting.now → facts_at p ≡ facts_passed passed → binders_at p ≡ names_passed passed (binders_at at) →
    program_there p m ks ≡ program_behind at passed m ks
here_behind at p passed m ks s e i = ap (λ s. G s (facts_at p) (binders_at p) m ks) s ∙ ap₂ (λ fs bs. G at.setting.now fs bs m ks) e i

pub made_behind : (at : P.Scene) (passed : Q.Passed) (m : Mon) (ks : List Kind) (fs : List Fact) (bs : List Binder) → fs ≡ facts_passed passed → bs ≡ names_passed passed (binders_at at) →
    program_abstracted same_exp at.setting.now.numbers (context_in at.setting.now.context) (λ x. local_kinds at.setting.now x) fs bs m ks ≡ program_behind at passed m ks
made_behind at passed m ks fs bs e i = ap₂ (λ fs bs. G at.setting.now fs bs m ks) e i

pub front_behind : (at p : P.Scene) (passed passed' : Q.Passed) (m : Mon) (xs : List Name) (n : Mon) (ks : List Kind) (f : F.Front) → IsFrontAt p m xs f →
    p.setting.now ≡ at.setting.now → facts_at p ≡ facts_passed passed → binders_at p ≡ names_passed passed (binders_at at) →
    facts_passed passed' ≡ facts_after (mon_of f.right.value) (map string_bytes f.names.items) (facts_passed passed) →
    names_passed passed' (binders_at at) ≡ with_kinds (map string_bytes f.names.items) (map kind_of f.kinds.items) (names_passed passed (binders_at at)) →
    with_front f (program_behind at passed' n ks) ≡ program_behind at passed (M.Bind m xs n) ks
front_behind at p passed passed' m xs n ks f h s known names e i =
    ap (λ s. with_front f (G s (facts_passed passed') (names_passed passed' (binders_at at)) n ks)) (sym s)
    ∙ front_made p m xs n ks f (facts_passed passed') (names_passed passed' (binders_at at)) h
    (e ∙ ap (facts_after (mon_of f.right.value) (map string_bytes f.names.items)) (sym known))
    (i ∙ ap (with_kinds (map string_bytes f.names.items) (map kind_of f.kinds.items)) (sym names))
    ∙ here_behind at p passed (M.Bind m xs n) ks s known names
