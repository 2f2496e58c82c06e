-- Those behind what is left have other names.
use Rattle.std.proofs.Common.{◌≡◌, map, string_bytes, length}
use Rattle.monad_lang.specs.CodeProgram.{mon_of}
use Rattle.monad_sorts.specs.CodeInside.{setting_in}
use Rattle.monad_sorts.specs.CodeTold.{names_given, values_told}
use Rattle.hoare_check.proofs.program_names.BehindScope.scalar.Given as goal

abbrev pub invariant-along : goal.invariant-along
invariant-along g l =
    let outer = λ (y : _). g.N.Scope.scalars l.self.outer.now y in
    let told = values_told (setting_in l.self.setting outer) (mon_of l.self.program.now) in
    names_given (map string_bytes l.rest) told outer l.name ≡ names_given (map string_bytes l.self.results.now) told outer l.name

abbrev pub decreases-along : goal.decreases-along
decreases-along g l = length l.rest
