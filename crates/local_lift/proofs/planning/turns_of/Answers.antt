-- What is found of a loop, from the rows before its body of each local alone and of none.
use Rattle.std.proofs.Common.{rules, ◌≡◌, Bool, ◌||◌, List, [], ◌∷◌, ◌++◌, map, sym, subst, ap₂, ◌∙◌}
use Rattle.std.proofs.lemmas.Result.{IfOk-weaker}
use Rattle.c_values.specs.Name.{Name, same_name}
use Rattle.expression_lang.specs.CodeExpression.{exp_of}
use Rattle.expression_lang.specs.Mentions as mentions
use Rattle.simpl_lang.specs.CodeCommand.{condition_of}
use Rattle.rule_local.specs.Table.{conj}
use Rattle.local_lift.specs.declared.rows.Row.{Row}
use Rattle.local_lift.specs.Live.{none, live}
use Rattle.local_lift.specs.CodeNames.{names}
use Rattle.local_lift.specs.CodePlan.{command_of, IsTurns}
use Rattle.local_lift.specs.CodeRows.{either_row, MatrixAnd}
use Rattle.local_lift.proofs.RowLaws.{either_marks}
use Rattle.local_lift.proofs.MatrixLaws.{matrix_and_moves, matrix_apart, matrix_and_some}
use Rattle.local_lift.proofs.planning.turns_of.Goals as goal

pub unreachable-requires : goal.unreachable-requires
unreachable-requires c =
    let bs = c.args.locals.now in
    let a = command_of c.args.body.now in
    let all = matrix_and_moves bs same_name none (live (names bs) a) bs c.in_ok-singles.singles.items c.in_ok-leads.leads.items c.in_ok-singles.ensures c.in_ok-leads.ensures in
    let nothing : c.in_ok-leads.leads.items ≡ [] = search rules in
    matrix_and_some bs (λ z. live (names bs) a (same_name z)) (live (names bs) a none) bs
    (subst (λ (rs : List Row). MatrixAnd bs (λ z. live (names bs) a (same_name z)) (live (names bs) a none) bs rs) nothing all)

pub returns : goal.returns
returns c =
    let bs = c.args.locals.now in
    let a = command_of c.args.body.now in
    let gs = map condition_of c.args.conditions.now in
    let test = exp_of c.args.test.now in
    let leads : Name → Name → Bool = λ z. live (names bs) a (same_name z) in
    let named : Name → Bool = λ z. mentions.names z (conj gs) || mentions.names z test in
    let all = matrix_and_moves bs same_name none (live (names bs) a) bs c.in_ok-singles.singles.items c.in_ok-leads.leads.items c.in_ok-singles.ensures c.in_ok-leads.ensures in
    let apart : c.in_ok-leads.leads.items ≡ c.pop.new.self.items ++ c.in-Some.of_none ∷ [] = search rules in
    let q = matrix_apart bs leads (live (names bs) a none) bs c.pop.new.self.items c.in-Some.of_none (subst (λ (rs : List Row). MatrixAnd bs leads (live (names bs) a none) bs rs) apart all) in
    IfOk-weaker c.boxed_turns.result _ _
    (λ b e. subst (IsTurns bs gs test a) (sym e)
    (record { steps = c.in_ok-steps.ensures leads q.0; own = c.in_ok-own.ensures ∙ ap₂ either_row c.in_ok-named.ensures q.1 ∙ either_marks named (live (names bs) a none) bs })) c.boxed_turns.ensures
