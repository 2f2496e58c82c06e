-- What is known behind all of the parts that were passed.
use Rattle.std.proofs.Common.{◌≡◌, List, [], ◌∷◌, length, map, string_bytes, refl}
use Rattle.ac_expr.specs.Fact.{Fact}
use Rattle.ac_expr.specs.Passed.{passed}
use Rattle.monad_lang.specs.CodeProgram.{mon_of}
use Rattle.program_facts.specs.Flow.{facts_after}
use Rattle.expression_steps.specs.declared.points.PassedPart as P
use Rattle.expression_steps.specs.CodePoint.{part_of, facts_behind}

pub passed_behind : (ps : List P.PassedPart) (fs : List Fact) → passed (length ps) (map part_of ps) fs ≡ facts_behind ps fs
passed_behind [] fs = refl
passed_behind (p ∷ ps) fs = passed_behind ps (facts_after (mon_of p.first.value) (map string_bytes p.names.items) fs)
