-- What is kept of a tree while it is made: that there is no step, that there is one in the second part of a sequence alone, or the
-- steps at its node, each balanced in its parts.
use Rattle.std.specs.Prelude.{ℕ, zero, suc, Bool, true, false, ◌&&◌, if◌then◌else◌}
use Rattle.monad_lang.specs.Program.{Mon}
use Rattle.rule_trees.specs.RuleTree.{Tree, Trees, node, no_trees, tree}
use Rattle.rule_eq.specs.Rule as R
use Rattle.rule_eq.specs.Rule.{Rule}
use Rattle.rule_walks.specs.Balanced.{Chain, single, chained, built, steps_of, all_balanced}

pub data Walk : Type 0 where
  Stays : Trees Rule → Walk
  Second : Trees Rule → Walk → Walk
  Goes : Chain → Walk

-- that of a tree
abbrev pub walk_of : Tree Rule → Walk
walk_of (node R.Refl ts) = Stays ts
walk_of (node R.Bind (tree (node R.Refl ts) (tree t no_trees))) = Second ts (walk_of t)
walk_of t = Goes (steps_of t)

abbrev pub stays : Walk
stays = Stays no_trees

abbrev pub one_walk : Tree Rule → Walk
one_walk t = Goes (single t)

abbrev pub has_stayed : Walk → Bool
has_stayed (Stays ts) = true
has_stayed (Second ts w) = false
has_stayed (Goes c) = false

-- the steps at the node
abbrev pub steps_in : Walk → Chain
steps_in (Stays ts) = single (node R.Refl (all_balanced ts))
steps_in (Second ts w) =
    single (node R.Bind (tree (node R.Refl (all_balanced ts)) (tree (built (steps_in w)) no_trees)))
steps_in (Goes c) = c

-- one and then another, with the program between
abbrev pub joined_walks : Walk → Mon → Walk → Walk
joined_walks w m v =
    if has_stayed w then v else if has_stayed v then w else Goes (chained (steps_in w) m (steps_in v))

-- in both parts of a sequence
abbrev pub over_bind : Walk → Walk → Walk
over_bind (Stays ts) v = if has_stayed v then stays else Second ts v
over_bind w v = one_walk (node R.Bind (tree (built (steps_in w)) (tree (built (steps_in v)) no_trees)))

-- in both parts of another program
abbrev pub over_two : Rule → Walk → Walk → Walk
over_two rule w v =
    if has_stayed w && has_stayed v then stays
    else one_walk (node rule (tree (built (steps_in w)) (tree (built (steps_in v)) no_trees)))

abbrev pub over_one : Rule → Walk → Walk
over_one rule w = if has_stayed w then stays else one_walk (node rule (tree (built (steps_in w)) no_trees))

-- in the second part of the second part, and so on, so many times
abbrev pub seconds : ℕ → Walk → Walk
seconds zero w = w
seconds (suc k) w = Second no_trees (seconds k w)

abbrev pub second_tree : Tree Rule → Tree Rule
second_tree t = node R.Bind (tree (node R.Refl no_trees) (tree t no_trees))

abbrev pub second_trees : ℕ → Tree Rule → Tree Rule
second_trees zero t = t
second_trees (suc k) t = second_tree (second_trees k t)

-- a program, and the walk there
pub record Walked : Type 0 where
  pub program : Mon
  pub walk : Walk

abbrev pub walked : Mon → Walk → Walked
walked m w = record { program = m; walk = w }

-- a walk to a program, and then what is done to that
abbrev pub then_walked : Walk → Mon → Walked → Walked
then_walked w m s = walked s.program (joined_walks w m s.walk)

-- What was done before at a place: nothing, or a walk to a program.
pub data Before : Type 0 where
  Nothing : Before
  Led : Walk → Mon → Before

abbrev pub after_before : Before → Walked → Walked
after_before Nothing s = s
after_before (Led w m) s = then_walked w m s

-- and then a walk to another program
abbrev pub and_led : Before → Walk → Mon → Before
and_led Nothing w m = if has_stayed w then Nothing else Led w m
and_led (Led v n) w m = if has_stayed w then Led v n else Led (joined_walks v n w) m
