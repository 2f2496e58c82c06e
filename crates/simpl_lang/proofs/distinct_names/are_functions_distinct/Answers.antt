-- The names of the functions are those of what they stand for.
use Rattle.std.proofs.Common.{ap, sym, ◌∙◌}
use Rattle.std.proofs.lemmas.Simd.{map-map}
use Rattle.c_values.specs.Name.{are_distinct}
use Rattle.simpl_lang.specs.Command.{SimplFn}
use Rattle.simpl_lang.specs.CodeCommand.{simpl_fn_of}
use Rattle.simpl_lang.proofs.distinct_names.are_functions_distinct.Goals as goal

pub returns : goal.returns
returns c = c.are_distinct.ensures ∙ ap are_distinct (sym (map-map (λ (f : SimplFn). f.name) simpl_fn_of c.args.functions.now))
