-- At first no name is in scope, and then the locals are.
use Rattle.std.proofs.Common.{◌∙◌}
use Rattle.simpl_lang.specs.CodeCommand.{simpl_of}
use Rattle.simpl_lang.specs.CodeForms.{signatures_in}
use Rattle.simpl_lang.proofs.LocalNames.{locals_in_scope}
use Rattle.simpl_lang.proofs.well_formed.is_command_sorted.Goals as goal

pub returns : goal.returns
returns c =
    let u = c.args.u.now in
    c.is_sorted.ensures
    ∙ locals_in_scope u.layout c.push_all-inside.result c.new-outside.result u.globals.items c.args.locals.now (signatures_in u)
    (simpl_of c.args.c.now) c.push_all-inside.ensures c.new-outside.ensures
