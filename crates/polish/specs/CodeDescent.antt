-- What the code keeps of the loops down a program, and the points there.
use Rattle.std.specs.Prelude.{◌≡◌, ◌≤◌, List, [], ◌∷◌, map, length, string_bytes, unwrap_or}
use Rattle.ac_expr.specs.Fact.{Fact}
use Rattle.ac_expr.specs.declared.chain.Facts as F
use Rattle.expression_lang.specs.CodeSort.{scalar_of}
use Rattle.monad_lang.specs.Program as M
use Rattle.monad_lang.specs.Program.{Mon}
use Rattle.monad_lang.specs.CodeProgram.{mon_of}
use Rattle.monad_lang.specs.Sorted.{Setting, setting_with, scalars_given}
use Rattle.rule_eq.specs.Rule.{Point}
use Rattle.rule_eq.specs.Table.{point, behind}
use Rattle.rule_walks.specs.Walk.{Walked}
use Rattle.rule_walks.specs.CodeWalks.{walk_in, before_in}
use Rattle.expression_steps.specs.declared.points.Scoped as N
use Rattle.expression_steps.specs.declared.points.Passed as P
use Rattle.expression_steps.specs.declared.points.PassedPart as Q
use Rattle.expression_steps.specs.CodePoint.{names_in, names_behind, known_in, facts_behind}
use Rattle.given_scalars.specs.declared.unit.Unit as U
use Rattle.given_scalars.specs.CodeScalars.{setting_over, setting_in}
use Rattle.polish.specs.declared.descent.Level as L
use Rattle.polish.specs.declared.descent.Descent as D
use Rattle.polish.specs.Polished.{polished}
use Rattle.polish.specs.Weight.{weight}
use Rattle.polish.specs.Descent.{Stage, seen_raised, seen_climbed}

-- behind parts that were passed
abbrev pub setting_past : U.Unit → N.Scoped → List Q.PassedPart → Setting
setting_past u scope ps = setting_over u (names_behind ps (λ x. names_in scope x))

abbrev pub point_past : U.Unit → N.Scoped → List Fact → List Q.PassedPart → Point
point_past u scope fs ps = point (facts_behind ps fs) (setting_past u scope ps)

abbrev pub point_behind : U.Unit → N.Scoped → F.Facts P.Passed → List Q.PassedPart → Point
point_behind u scope fs ps = point_past u scope (known_in fs) ps

abbrev pub stage_in : L.Level → Q.PassedPart → Stage
stage_in v p = record {
  before = before_in v.before;
  walk = walk_in v.walk;
  first = mon_of p.first.value;
  names = map string_bytes p.names.items;
}

abbrev pub stages_in : List L.Level → List Q.PassedPart → List Stage
stages_in (v ∷ vs) (p ∷ ps) = stage_in v p ∷ stages_in vs ps
stages_in vs ps = []

-- behind a part, by the scalars that its names are kept with, and by what it gives

abbrev pub kept_names : Setting → Q.PassedPart → Setting
kept_names t p = setting_with (map string_bytes p.names.items) (map scalar_of p.scalars.items) t

abbrev pub given_names : Setting → Q.PassedPart → Setting
given_names t p =
    setting_with (map string_bytes p.names.items) (unwrap_or (scalars_given t (mon_of p.first.value)) []) t

-- the names of each part have the scalars of what it gives
abbrev pub AreTold : Setting → List Q.PassedPart → Type 0
AreTold t [] = Unit {0}
AreTold t (p ∷ ps) = (kept_names t p ≡ given_names t p) × AreTold (kept_names t p) ps

-- a level for each part
pub record IsKept (u : U.Unit) (scope : N.Scoped) (d : D.Descent) : Type 0 where
  pub even : length d.levels.items ≡ length d.parts.items
  pub told : AreTold (setting_in scope u) d.parts.items

-- up to the top from what is at the bottom
abbrev pub up_from : U.Unit → N.Scoped → List Fact → D.Descent → Walked → Walked
up_from u scope fs d s = seen_climbed polished (point_past u scope fs []) (stages_in d.levels.items d.parts.items) s

-- a program at the bottom, in the sequences that were entered
abbrev pub rebuilt : List Q.PassedPart → Mon → Mon
rebuilt [] m = m
rebuilt (p ∷ ps) m = M.Bind (mon_of p.first.value) (map string_bytes p.names.items) (rebuilt ps m)

-- a descent that has come a stage further
pub record IsDeeper (u : U.Unit) (scope : N.Scoped) (d : D.Descent) (v : Stage) (e : D.Descent) : Type 0 where
  pub kept : IsKept u scope e
  pub point : (fs : List Fact) →
      point_past u scope fs e.parts.items ≡ behind v.first v.names (point_past u scope fs d.parts.items)
  pub climbs : (fs : List Fact) (s : Walked) →
      up_from u scope fs e s ≡ up_from u scope fs d (seen_raised polished (point_past u scope fs d.parts.items) v s)
  pub whole : (m : Mon) → rebuilt e.parts.items m ≡ rebuilt d.parts.items (M.Bind v.first v.names m)

-- a descent that was climbed up to these levels and parts, with this made of what was at its bottom
pub record IsClimbed (u : U.Unit) (scope : N.Scoped) (fs : List Fact) (d : D.Descent) (s : Walked) (vs : List L.Level)
    (ps : List Q.PassedPart) (q : Walked) : Type 0 where
  pub even : length vs ≡ length ps
  pub told : AreTold (setting_in scope u) ps
  pub same : seen_climbed polished (point_past u scope fs []) (stages_in vs ps) q ≡ up_from u scope fs d s
  pub lighter : weight (rebuilt ps q.program) ≤ weight (rebuilt d.parts.items s.program)
