-- The names of the globals are those of what they stand for.
use Rattle.std.proofs.Common.{ap, sym, ◌∙◌}
use Rattle.std.proofs.lemmas.Simd.{map-map}
use Rattle.c_values.specs.Name.{are_distinct}
use Rattle.c_values.specs.Layout.{GlobalVar}
use Rattle.c_values.specs.CodeValue.{global_of}
use Rattle.expression_lang.proofs.distinct_names.are_globals_distinct.Goals as goal

pub returns : goal.returns
returns c = c.are_distinct.ensures ∙ ap are_distinct (sym (map-map (λ (v : GlobalVar). v.name) global_of c.args.globals.now))
