-- What the code's lists of added locals stand for.
use Rattle.std.specs.Prelude.{map}
use Rattle.expression_lang.specs.CodeSignature.{binder_of}
use Rattle.simpl_gen.specs.declared.locals.Added as A
use Rattle.generation.specs.Generate.{Added}

abbrev pub added_of : A.Added → Added
added_of a = record { calls = map binder_of a.calls.items; switches = map binder_of a.switches.items; firsts = map binder_of a.firsts.items }
