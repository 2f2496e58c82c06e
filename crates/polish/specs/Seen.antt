-- What is made of programs, as it is kept while it is made: with the walk of each tree.
use Rattle.monad_lang.specs.Program as M
use Rattle.monad_lang.specs.Program.{Mon}
use Rattle.rule_eq.specs.Rule as R
use Rattle.rule_walks.specs.Walk.{Walk, Second, stays, over_one, over_two, Walked, walked, walk_of}
use Rattle.polish.specs.Polished.{Polished}

abbrev pub seen : Polished → Walked
seen p = walked p.program (walk_of p.tree)

-- an If of these branches, and a loop of this body

abbrev pub seen_branches : Mon → Walked → Walked → Walked
seen_branches (M.If e m n) a b = walked (M.If e a.program b.program) (over_two R.If a.walk b.walk)
seen_branches m a b = walked m stays

abbrev pub seen_body : Mon → Walked → Walked
seen_body (M.Loop starts guard test m) a = walked (M.Loop starts guard test a.program) (over_one R.Loop a.walk)
seen_body m a = walked m stays

-- what a walk does to a sequence before it is turned, and what is left to be done to its second part then
pub record SeenParted : Type 0 where
  pub before : Walk
  pub second : Mon
  pub walk : Walk

abbrev pub seen_parted : Walk → Mon → Mon → SeenParted
seen_parted (Second ts w) (M.Bind a zs b) c = record { before = stays; second = b; walk = w }
seen_parted w m c = record { before = w; second = c; walk = stays }
