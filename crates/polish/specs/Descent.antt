-- The loops down a program and back, with what is kept of trees: a sequence whose second part was entered, and what a tidy program
-- at the bottom makes of those.
use Rattle.std.specs.Prelude.{List, [], ◌∷◌}
use Rattle.c_values.specs.Name.{Name}
use Rattle.monad_lang.specs.Program as M
use Rattle.monad_lang.specs.Program.{Mon}
use Rattle.rule_eq.specs.Rule.{Point}
use Rattle.rule_eq.specs.Table.{behind}
use Rattle.rule_walks.specs.Walk.{Walk, Walked, Before, over_bind, then_walked, after_before}
use Rattle.polish.specs.Polished.{Way, bound}
use Rattle.polish.specs.Seen.{seen}

pub record Stage : Type 0 where
  pub before : Before
  pub walk : Walk
  pub first : Mon
  pub names : List Name

-- the point at the bottom
abbrev pub below : List Stage → Point → Point
below [] at = at
below (v ∷ vs) at = below vs (behind v.first v.names at)

-- one stage up
abbrev pub seen_raised : Way → Point → Stage → Walked → Walked
seen_raised again at v q =
    after_before v.before
    (then_walked (over_bind v.walk q.walk) (M.Bind v.first v.names q.program) (seen (bound again at v.first v.names q.program)))

-- up to the top
abbrev pub seen_climbed : Way → Point → List Stage → Walked → Walked
seen_climbed again at [] q = q
seen_climbed again at (v ∷ vs) q = seen_raised again at v (seen_climbed again (behind v.first v.names at) vs q)
