use Rattle.std.proofs.Common.{rules, arith, ◌≡◌, Some, map, sym, ap, ◌∙◌}
use Rattle.std.proofs.lemmas.List.{length-map}
use Rattle.c_values.specs.CodeValue.{value_of, global_of}
use Rattle.c_memory.specs.CodeStep.{step_of}
use Rattle.global_changes.specs.GlobalChange.{position_of, change_in}
use Rattle.global_changes.proofs.Changed.{changed_there, change_past}
use Rattle.global_changes.proofs.globals.change.Goals as goal

pub returns-then-k-len : goal.returns-then-k-len
returns-then-k-len c =
    let ps = map step_of c.args.path.now in
    let w = value_of c.args.value in
    let there : position_of c.args.name.now (map global_of c.args.vars.now) ≡ Some c.in-Some.k = search rules in
    changed_there ps w c.args.globals.now.items c.in-Some.k c.index_mut.result.now c.replace.new.whole (omega arith) c.index_mut.ensures.value c.replace.ensures
    ∙ ap (λ o. change_in o ps w (map value_of c.args.globals.now.items)) (sym there)

pub returns-else-k-len : goal.returns-else-k-len
returns-else-k-len c =
    let ps = map step_of c.args.path.now in
    let w = value_of c.args.value in
    let there : position_of c.args.name.now (map global_of c.args.vars.now) ≡ Some c.in-Some.k = search rules in
    change_past ps w c.in-Some.k (map value_of c.args.globals.now.items) (omega (arith, length-map c.args.globals.now.items value_of))
    ∙ ap (λ o. change_in o ps w (map value_of c.args.globals.now.items)) (sym there)
