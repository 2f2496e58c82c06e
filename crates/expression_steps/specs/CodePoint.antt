-- What the code's names in scope, its points and the parts of sequences that were passed stand for.
use Rattle.std.specs.Prelude.{Bool, false, List, [], ◌∷◌, ◌++◌, map, string_bytes, Option, Some, None}
use Rattle.c_values.specs.Name.{Name}
use Rattle.expression_lang.specs.Expression.{Exp}
use Rattle.expression_lang.specs.Sort.{Scalar, Scope}
use Rattle.expression_lang.specs.Sorted.{names_with}
use Rattle.expression_lang.specs.CodeSort.{scalar_of, scope_by}
use Rattle.ac_expr.specs.Fact.{Fact}
use Rattle.ac_expr.specs.Passed.{Part}
use Rattle.ac_expr.specs.CodeChain.{facts_of}
use Rattle.ac_expr.specs.declared.chain.Facts as F
use Rattle.monad_lang.specs.CodeProgram.{mon_of}
use Rattle.program_facts.specs.Flow.{part, guard_in, changes_state, facts_after}
use Rattle.expression_steps.specs.declared.points.Binding as B
use Rattle.expression_steps.specs.declared.points.Scoped as N
use Rattle.expression_steps.specs.declared.points.Context as C
use Rattle.expression_steps.specs.declared.points.PassedPart as P
use Rattle.expression_steps.specs.declared.points.Passed as S

abbrev pub names_of : List B.Binding → List Name
names_of bs = map (λ b. string_bytes b.name) bs

abbrev pub scalars_of : List B.Binding → List Scalar
scalars_of bs = map (λ b. scalar_of b.scalar) bs

-- with the names of parts that were passed, the last part's last
abbrev pub names_behind : List P.PassedPart → (Name → Option Scalar) → Name → Option Scalar
names_behind [] names = names
names_behind (p ∷ ps) names =
    names_behind ps (names_with (map string_bytes p.names.items) (map scalar_of p.scalars.items) names)

-- the scalars of names in scope
abbrev pub names_in : N.Scoped → Name → Option Scalar
names_in N.Empty x = None
names_in (N.Within' p outer bs) x = names_with (names_of bs.now) (scalars_of bs.now) (λ y. names_in outer y) x
names_in (N.Behind' p outer ps) x = names_behind ps.now (λ y. names_in outer y) x

abbrev pub scope_in : C.Context → Scope
scope_in c = scope_by c.layout.now (λ x. names_in c.scope.now x) c.globals.now

-- more scalars in front
abbrev pub after_scalars : List Scalar → Option (List Scalar) → Option (List Scalar)
after_scalars ss None = None
after_scalars ss (Some ts) = Some (ss ++ ts)

-- the parts that were passed
abbrev pub part_of : P.PassedPart → Part
part_of p = part (mon_of p.first.value) (map string_bytes p.names.items)

abbrev pub parts_in : S.Passed → List Part
parts_in (S.TheVariants.Parts ps) = map part_of ps.now
parts_in (S.TheVariants.Part p) = []

abbrev pub guard_at : S.Passed → Option Exp
guard_at (S.TheVariants.Parts ps) = None
guard_at (S.TheVariants.Part p) = guard_in (mon_of p.now.first.value)

abbrev pub changes_at : S.Passed → Bool
changes_at (S.TheVariants.Parts ps) = false
changes_at (S.TheVariants.Part p) = changes_state (mon_of p.now.first.value)

abbrev pub known_in : F.Facts S.Passed → List Fact
known_in fs = facts_of parts_in fs

-- what is known behind parts
abbrev pub facts_behind : List P.PassedPart → List Fact → List Fact
facts_behind [] fs = fs
facts_behind (p ∷ ps) fs = facts_behind ps (facts_after (mon_of p.first.value) (map string_bytes p.names.items) fs)
