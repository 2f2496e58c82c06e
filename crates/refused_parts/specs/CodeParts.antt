-- What the code's parts stand for.
use Rattle.simpl_lang.specs.CodeCommand.{simpl_of}
use Rattle.monad_lang.specs.CodeProgram.{mon_of}
use Rattle.refused_parts.specs.declared.parts.Part as P
use Rattle.refused_parts.specs.Parts.{Part, Command, Program}

abbrev pub part_of : P.Part → Part
part_of (P.TheVariants.Command c) = Command (simpl_of c.now)
part_of (P.TheVariants.Program m) = Program (mon_of m.now)
