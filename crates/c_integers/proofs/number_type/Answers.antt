use Rattle.std.proofs.Common.{ap, ◌∙◌, pos}
use Rattle.std.specs.Prelude.{find}
use Rattle.std.specs.Option.{option_map}
use Rattle.c_values.specs.CodeTypes.{target_of, int_type_of}
use Rattle.c_values.specs.Number.{is_of_type}
use Rattle.c_integers.proofs.Finding.{find_seen}
use Rattle.c_integers.proofs.number_type.Goals as goal

pub returns : goal.returns
returns c =
    ap (option_map int_type_of) c.first_holding.ensures
    ∙ find_seen int_type_of (λ i. is_of_type (target_of c.args.target) i (pos c.args.value)) c.candidates.result.now
    ∙ ap (find (λ i. is_of_type (target_of c.args.target) i (pos c.args.value))) c.candidates.ensures
