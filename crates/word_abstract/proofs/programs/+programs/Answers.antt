use Rattle.std.proofs.Common.{rules, arith, ◌≡◌, [], ◌∷◌, ◌++◌, Option, IfOk, if◌then◌else◌, map, string_bytes, refl, sym, subst, ap, ap₂, ◌∙◌}
use Rattle.std.proofs.lemmas.Result.{IfOk-weaker}
use Rattle.c_values.specs.Name.{Name}
use Rattle.expression_lang.specs.Sort.{Kind}
use Rattle.expression_lang.specs.CodeExpression.{exp_of, kind_of}
use Rattle.expression_lang.specs.CodeSignature.{binder_of}
use Rattle.expression_lang.specs.Signature.{names_of, kinds_of}
use Rattle.ac_expr.specs.Fact.{Fact, Whole, NotTrue}
use Rattle.ac_expr.specs.SameExp.{same_exp}
use Rattle.monad_lang.specs.Program as M
use Rattle.monad_lang.specs.Program.{Mon}
use Rattle.monad_lang.specs.CodeProgram.{mon_of, start_of}
use Rattle.rule_word.specs.Scopes.{with_kinds}
use Rattle.rule_word.specs.Table.{truth}
use Rattle.rule_word.specs.ProgramsAbstracted.{exp_at, guard_at, program_abstracted}
use Rattle.word_abstract.specs.declared.facts.Fact as F
use Rattle.rule_word.specs.CodeKinds.{binders_in}
use Rattle.word_abstract.specs.CodeKnown.{newest_first}
use Rattle.word_abstract.specs.CodeAbstracted.{abstracted_in}
use Rattle.word_abstract.specs.CodeFacts.{fact_in, whole}
use Rattle.word_abstract.specs.CodeBehind.{program_behind}
use Rattle.word_abstract.specs.CodeTrees.{with_trees}
use Rattle.word_abstract.specs.CodeTranslated.{translated_in}
use Rattle.word_abstract.specs.CodeFronts.{with_fronts}
use Rattle.word_abstract.specs.CodeScenes.{context_at, binders_at, facts_at, local_kinds, program_there, program_under}
use Rattle.word_abstract.proofs.KnownLaws.{newest_push}
use Rattle.word_abstract.proofs.WholeLaws.{loop_made}
use Rattle.word_abstract.proofs.FrontLaws.{with_fronts_push, made_behind, front_behind}
use Rattle.word_abstract.proofs.programs.+programs.Goals as goal

pub last_at-returns-in-Loop : goal.last_at-returns-in-Loop
last_at-returns-in-Loop t c =
    let whole_loop : Mon = M.Loop (map start_of c.deref-in-Loop.result.now) (exp_of c.in-Loop.guard) (exp_of c.in-Loop.test) (mon_of c.deref-in-Loop-2.result.now) in
    let here : mon_of c.args.m.now ≡ whole_loop = search rules in
    subst (λ (m : Mon). IfOk c.turns.result (λ new. translated_in new.value ≡ program_there c.args.at.now m (map kind_of c.args.kinds.now))) (sym here) c.turns.ensures

pub program-returns-in_default : goal.program-returns-in_default
program-returns-in_default t c =
    let at = c.args.at.now in
    let ks = map kind_of c.args.kinds.now in
    let known = ap₂ (λ own outer. newest_first (map whole own) (newest_first (map fact_in outer) [])) c.deref-in-along-2.ensures.value c.deref-in-along.ensures.value in
    let names = c.push_all-names.ensures ∙ ap (λ bs. with_kinds (names_of (map binder_of bs)) (kinds_of (map binder_of bs)) (binders_at at)) c.deref.ensures.value in
    let last : translated_in c.in_ok-last.last.value ≡ program_behind at c.along.passed (mon_of c.along.rest.now) ks =
    c.in_ok-last.ensures ∙ made_behind at c.along.passed (mon_of c.along.rest.now) ks _ _ known names in
    IfOk-weaker c.closed.result (λ new. translated_in new.value ≡ with_fronts c.along.fronts.items (translated_in c.in_ok-last.last.value)) (λ new. translated_in new.value ≡ program_there at (mon_of c.args.m.now) ks)
    (λ new e. e ∙ ap (with_fronts c.along.fronts.items) last ∙ c.along.invariant.same) c.closed.ensures

pub program-along-preserved : goal.program-along-preserved
program-along-preserved t c = record {
  same =
      let at = c.args.at.now in
      let ks = map kind_of c.args.kinds.now in
      let known = ap₂ (λ own outer. newest_first (map whole own) (newest_first (map fact_in outer) [])) c.deref-in-along-2.ensures.value c.deref-in-along.ensures.value in
      let names = c.push_all-names.ensures ∙ ap (λ bs. with_kinds (names_of (map binder_of bs)) (kinds_of (map binder_of bs)) (binders_at at)) c.deref.ensures.value in
      let first : mon_of c.along.rest.now ≡ M.Bind (mon_of c.in-Some.parts.first.now) (map string_bytes c.in-Some.parts.names.now) (mon_of c.in-Some.parts.last.now) = search rules in
      let pushed : c.push.new.self.items ≡ c.along.fronts.items ++ c.in_ok-front.front ∷ [] = search rules in
      let behind = program_behind at c.in_ok-passed-2.passed (mon_of c.in-Some.parts.last.now) ks in
      ap (λ fs. with_fronts fs behind) pushed ∙ with_fronts_push c.along.fronts.items c.in_ok-front.front behind
      ∙ ap (with_fronts c.along.fronts.items)
      (front_behind at _ c.along.passed c.in_ok-passed-2.passed (mon_of c.in-Some.parts.first.now) (map string_bytes c.in-Some.parts.names.now) (mon_of c.in-Some.parts.last.now) ks c.in_ok-front.front c.in_ok-front.ensures refl known names
      c.in_ok-passed-2.ensures.facts (c.in_ok-passed-2.ensures.names (binders_at at)) ∙ ap (λ m. program_behind at c.along.passed m ks) (sym first))
      ∙ c.along.invariant.same;
  smaller = omega (arith, c.along.invariant.smaller, c.in-Some.ensures.last);
}

pub turns-returns : goal.turns-returns
turns-returns t c =
    let at = c.args.at.now in
    let s = at.setting.now in
    let ks = map kind_of c.args.kinds.now in
    let table : Name → Option Kind = λ x. local_kinds s x in
    let guard = exp_of c.args.guard.now in
    let test = exp_of c.args.test.now in
    let guarded = c.in_ok-guard.ensures ∙ ap (λ bs. guard_at same_exp s.numbers (context_at at) bs [] guard) c.start-names.ensures in
    let tested = c.in_ok-test.ensures ∙ ap₂ (λ bs e. exp_at same_exp s.numbers (context_at at) bs (Whole (exp_of e) ∷ []) test truth) c.start-names.ensures c.deref.ensures in
    let body = c.in_ok-a.ensures ∙ ap (λ d. program_abstracted same_exp s.numbers (context_at at) table (Whole (exp_of d) ∷ Whole (exp_of c.deref.result.now) ∷ []) (binders_in c.start-names.result) (mon_of c.args.body.now) ks) c.deref-2.ensures
    ∙ ap₂ (λ bs e. program_abstracted same_exp s.numbers (context_at at) table (Whole (exp_of c.in_ok-test.test.right.value) ∷ Whole (exp_of e) ∷ []) bs (mon_of c.args.body.now) ks) c.start-names.ensures c.deref.ensures in
    IfOk-weaker c.looped.result _ (λ new. translated_in new.value ≡ program_there at (M.Loop (map start_of c.args.starts.now) guard test (mon_of c.args.body.now)) ks)
    (λ new e. e ∙ loop_made same_exp s.numbers (context_at at) table (facts_at at) (binders_at at) (map start_of c.args.starts.now) guard test (mon_of c.args.body.now) ks (map start_of c.in_ok-begun.begun.starts.items)
    (λ more. with_trees c.in_ok-begun.begun.trees.items more) (abstracted_in c.in_ok-guard.guard) (abstracted_in c.in_ok-test.test) (translated_in c.in_ok-a.a.value) c.in_ok-begun.ensures.starts c.in_ok-begun.ensures.trees guarded tested body) c.looped.ensures

pub under-returns : goal.under-returns
under-returns t c =
    let at = c.args.at.now in
    let ks = map kind_of c.args.kinds.now in
    let more : F.Fact = record { exp = c.args.condition; holds = c.args.holds } in
    let pushed : c.push.new.self.items ≡ c.in_ok-facts.facts.items ++ more ∷ [] = search rules in
    let facts : newest_first (map fact_in c.deref.result.now) [] ≡ (if c.args.holds then Whole (exp_of c.args.condition.now) else NotTrue (exp_of c.args.condition.now)) ∷ facts_at at =
    ap (λ fs. newest_first (map fact_in fs) []) (c.deref.ensures.value ∙ pushed) ∙ newest_push fact_in c.in_ok-facts.facts.items more [] ∙ ap (λ fs. fact_in more ∷ fs) c.in_ok-facts.ensures in
    IfOk-weaker c.part.result _ (λ new. translated_in new.value ≡ program_under at c.args.holds (exp_of c.args.condition.now) (mon_of c.args.m.now) ks)
    (λ new e. e ∙ ap (λ fs. program_abstracted same_exp at.setting.now.numbers (context_at at) (λ x. local_kinds at.setting.now x) fs (binders_at at) (mon_of c.args.m.now) ks) facts) c.part.ensures
