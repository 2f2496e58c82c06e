-- What the code's walks stand for.
use Rattle.std.specs.Prelude.{Bool, true, false, List, [], ◌∷◌, Option, Some, None}
use Rattle.monad_lang.specs.CodeProgram.{mon_of}
use Rattle.rule_eq.specs.CodeRule.{tree_of}
use Rattle.rule_walks.specs.Balanced.{Chain, single, before}
use Rattle.rule_walks.specs.declared.walks.Step as S
use Rattle.rule_walks.specs.declared.walks.Chain as C
use Rattle.rule_walks.specs.declared.walks.Walk as W
use Rattle.rule_walks.specs.declared.walks.Ahead as A
use Rattle.rule_walks.specs.declared.walks.Walked as P
use Rattle.rule_walks.specs.Walk.{Walk, stays, Goes, seconds, Walked, walked, Before, Nothing, Led}

abbrev pub with_steps : List S.Step → Chain → Chain
with_steps [] c = c
with_steps (s ∷ ss) c = before (tree_of s.tree) (mon_of s.program.value) (with_steps ss c)

abbrev pub chain_in : C.Chain → Chain
chain_in c = with_steps c.steps.items (single (tree_of c.last))

abbrev pub walk_in : W.Walk → Walk
walk_in W.TheVariants.Stayed = stays
walk_in (W.TheVariants.Went c k) = seconds k (Goes (chain_in c))

abbrev pub before_in : A.Ahead → Before
before_in A.TheVariants.Stayed = Nothing
before_in (A.TheVariants.Went c k m) = Led (seconds k (Goes (chain_in c))) (mon_of m.value)

abbrev pub made_in : P.Walked → Walked
made_in p = walked (mon_of p.program.value) (walk_in p.walk)

-- behind one that waits for the next
abbrev pub with_waiting : Option S.Step → Chain → Chain
with_waiting None c = c
with_waiting (Some s) c = before (tree_of s.tree) (mon_of s.program.value) c

-- whether there is more than one tree
abbrev pub has_links : Chain → Bool
has_links (single t) = false
has_links (before t m c) = true
