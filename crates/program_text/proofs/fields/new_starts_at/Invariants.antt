-- The starts so far, and those to come, are the whole.
use Rattle.std.proofs.Common.{◌≡◌, [], ◌++◌, drop, map}
use Rattle.ac_sx.specs.CodeSx.{trees_in}
use Rattle.expression_text.specs.Reading.{made}
use Rattle.expression_text.specs.Lists.{named_at}
use Rattle.monad_lang.specs.Program.{Start}
use Rattle.monad_lang.specs.CodeProgram.{start_of}
use Rattle.program_text.specs.MonReading.{start_at}
use Rattle.program_text.proofs.fields.new_starts_at.Given as goal

abbrev pub invariant-parts : goal.invariant-parts
invariant-parts l =
    made (λ xs. map start_of l.starts.items ++ xs) (named_at (λ (x : Start). x.name) start_at (map (λ s. (start_of s).name) l.starts.items) l.at (trees_in (drop l.part-index l.parts)))
    ≡ named_at (λ (x : Start). x.name) start_at [] l.fn.at (trees_in l.fn.parts)
