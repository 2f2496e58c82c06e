use Rattle.std.proofs.Common.{rules, ◌≡◌, List, [], ◌∷◌, ◌++◌, map, sym, ap, ◌∙◌}
use Rattle.std.proofs.lemmas.Result.{IfOk-weaker}
use Rattle.expression_lang.specs.declared.expression.Exp as E
use Rattle.expression_lang.specs.Expression.{And}
use Rattle.expression_lang.specs.CodeExpression.{exp_of}
use Rattle.ac_expr.specs.Fact.{Whole}
use Rattle.ac_expr.specs.SameExp.{same_exp}
use Rattle.rule_word.specs.Table.{truth}
use Rattle.rule_word.specs.ProgramsAbstracted.{exp_at}
use Rattle.word_abstract.specs.CodeKnown.{newest_first}
use Rattle.word_abstract.specs.CodeGuards.{all_hold, IsNoAnd}
use Rattle.word_abstract.specs.CodeFacts.{fact_in, whole}
use Rattle.word_abstract.specs.CodeAbstracted.{abstracted_in}
use Rattle.word_abstract.specs.CodeScenes.{context_at, binders_at, guard_there, guard_behind}
use Rattle.word_abstract.specs.declared.abstracted.Abstracted as A
use Rattle.word_abstract.proofs.GuardLaws.{guard_last, guard_also}
use Rattle.word_abstract.proofs.lists.guard_at.Goals as goal

pub returns-in_default : goal.returns-in_default
returns-in_default c =
    let at = c.args.at.now in
    let numbers = at.setting.now.numbers in
    let rest = exp_of c.along.rest.now in
    let alone : IsNoAnd rest = search rules in
    let last : abstracted_in c.in_ok-last.last ≡ guard_behind at c.along.own.items rest =
    c.in_ok-last.ensures
    ∙ ap (λ (own : List E.Exp). exp_at same_exp numbers (context_at at) (binders_at at) (newest_first (map whole own) (newest_first (map fact_in at.known.outer.now) [])) rest truth) c.deref.ensures.value
    ∙ sym (guard_last same_exp numbers (context_at at) (binders_at at) (newest_first (map whole c.along.own.items) (newest_first (map fact_in at.known.outer.now) [])) rest alone) in
    IfOk-weaker c.all_hold.result (λ x. abstracted_in x ≡ all_hold (map abstracted_in c.along.before.items) (abstracted_in c.in_ok-last.last)) (λ x. abstracted_in x ≡ guard_there at (exp_of c.args.e.now))
    (λ x e. e ∙ ap (all_hold (map abstracted_in c.along.before.items)) last ∙ c.along.invariant) c.all_hold.ensures

pub along-preserved : goal.along-preserved
along-preserved c =
    let at = c.args.at.now in
    let numbers = at.setting.now.numbers in
    let outer = newest_first (map fact_in at.known.outer.now) [] in
    let first = exp_of c.in-Some.sides.first.now in
    let last = exp_of c.in-Some.sides.last.now in
    let here : exp_of c.along.rest.now ≡ And first last = search rules in
    let added : c.push.new.self.items ≡ c.along.own.items ++ c.in_ok-copy.field-0 ∷ [] = search rules in
    let listed : c.push-in-along.new.self.items ≡ c.along.before.items ++ c.in_ok-x.x ∷ [] = search rules in
    let made = c.in_ok-x.ensures ∙ ap (λ (own : List E.Exp). exp_at same_exp numbers (context_at at) (binders_at at) (newest_first (map whole own) outer) first truth) c.deref.ensures.value in
    let copied : exp_of c.in_ok-copy.field-0 ≡ exp_of c.in_ok-x.x.right.value = search rules in
    ap (λ (before : List A.Abstracted). all_hold (map abstracted_in before) (guard_behind at c.push.new.self.items last)) listed
    ∙ ap (λ (own : List E.Exp). all_hold (map abstracted_in (c.along.before.items ++ c.in_ok-x.x ∷ [])) (guard_behind at own last)) added
    ∙ guard_also same_exp numbers (context_at at) (binders_at at) abstracted_in whole c.along.before.items c.in_ok-x.x c.along.own.items c.in_ok-copy.field-0 outer first last (guard_there at (exp_of c.args.e.now))
    made (ap Whole copied) (ap (λ e. all_hold (map abstracted_in c.along.before.items) (guard_behind at c.along.own.items e)) (sym here) ∙ c.along.invariant)
