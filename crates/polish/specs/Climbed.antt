-- How a program that was entered along its sequences is made tidy by one loop down and one loop back: the levels that were entered,
-- and what a tidy program at the bottom makes of them. So no sequence, however long, is gone along by recursion.
use Rattle.std.specs.Prelude.{ℕ, List, [], ◌∷◌, Option, Some, None, if◌then◌else◌}
use Rattle.c_values.specs.Name.{Name}
use Rattle.monad_lang.specs.Program as M
use Rattle.monad_lang.specs.Program.{Mon}
use Rattle.monad_lang.specs.Form.{is_bind_ret, all_kept}
use Rattle.rule_trees.specs.RuleTree.{Tree}
use Rattle.rule_eq.specs.Rule.{Rule, Point}
use Rattle.rule_eq.specs.Table.{behind}
use Rattle.expression_steps.specs.Known.{is_known}
use Rattle.polish.specs.Polished.{Polished, Way, bind_tree, and_then, first_constant, bound}

-- a tree, and the program that it leads to
pub record Made : Type 0 where
  pub tree : Tree Rule
  pub program : Mon

abbrev pub after : List Made → Polished → Polished
after [] p = p
after (s ∷ ss) p = and_then s.tree s.program (after ss p)

-- a sequence whose second part was entered: what was made of it before, and its first part with the tree that led there
pub record Level : Type 0 where
  pub before : List Made
  pub tree : Tree Rule
  pub first : Mon
  pub names : List Name

-- the point at the bottom
abbrev pub bottom : List Level → Point → Point
bottom [] at = at
bottom (v ∷ vs) at = bottom vs (behind v.first v.names at)

-- one level up
abbrev pub raised : Way → Point → Level → Polished → Polished
raised again at v q =
    after v.before
    (and_then (bind_tree v.tree q.tree) (M.Bind v.first v.names q.program) (bound again at v.first v.names q.program))

-- up to the top
abbrev pub climbed : Way → Point → List Level → Polished → Polished
climbed again at [] q = q
climbed again at (v ∷ vs) q = raised again at v (climbed again (behind v.first v.names at) vs q)

-- what is done at a sequence whose first part is tidy, before its second part is
pub data Next : Type 0 where
  -- the second part is entered
  Enters : Next
  -- the guard in first place goes
  Skips : Next
  -- the sequence in first place is all
  Stands : Next
  -- the sequence in first place, of these parts, is turned
  Turns : Mon → List Name → Mon → Next
  -- the value at this position is put in
  Puts : ℕ → Next

abbrev pub put_next : Option ℕ → Next
put_next None = Enters
put_next (Some i) = Puts i

abbrev pub next_of : Point → Mon → List Name → Mon → Next
next_of at (M.Bind a zs b) xs n =
    if is_bind_ret (M.Bind a zs b) xs n then Stands else if all_kept zs xs n then Turns a zs b else Enters
next_of at (M.Ret es) xs n = put_next (first_constant es xs n)
next_of at (M.Guard e) [] n = if is_known at.facts e then Skips else Enters
next_of at m xs n = Enters
