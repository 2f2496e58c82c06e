-- The steps of the first chain, the one between, and those of the second one are all.
use Rattle.std.proofs.Common.{◌≡◌, [], ◌∷◌, ◌++◌, ap, ◌∙◌}
use Rattle.rule_eq.specs.CodeRule.{tree_of}
use Rattle.rule_walks.specs.declared.walks.Step as S
use Rattle.rule_walks.proofs.StepLists.{chained_made}
use Rattle.rule_walks.proofs.walks.chained.Goals as goal

pub returns : goal.returns
returns c =
    let ss = c.args.first.steps.items in
    let rs = c.args.then.steps.items in
    let s : S.Step = record { tree = c.args.first.last; program = c.args.program } in
    let e : c.append.new.self.items ≡ (ss ++ s ∷ []) ++ rs = c.in_ok-append.ensures.items ∙ ap (λ xs. xs ++ rs) c.in_ok-push.ensures.items in
    chained_made ss rs c.append.new.self.items s (tree_of c.args.then.last) e
