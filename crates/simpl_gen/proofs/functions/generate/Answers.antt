-- The parts are those of the generated unit.
use Rattle.std.proofs.Common.{rules}
use Rattle.simpl_lang.specs.declared.units.SimplUnit as S
use Rattle.simpl_gen.proofs.GeneratedUnit.{IsMade, is_generated, has_ends}
use Rattle.simpl_gen.proofs.functions.generate.Goals as goal

pub returns : goal.returns
returns c =
    let made : S.SimplUnit = record { layout = c.in_ok-copy_of_layout.field-0; globals = c.in_ok-copy_of_globals.field-0; functions = c.in_ok-functions.field-0; signatures = c.in_ok-signatures.field-0 } in
    let parts : IsMade c.args.u.now c.args.modes.now made = record { layout = search rules; globals = search rules; functions = search rules; signatures = search rules } in
    record {
      generated = is_generated c.args.u.now c.args.modes.now made parts;
      exact = has_ends c.args.u.now c.args.modes.now made parts;
    }
