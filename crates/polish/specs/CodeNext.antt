-- What is done next at a sequence, told before it is done: where its first part is tidy, and where both parts are.
use Rattle.std.specs.Prelude.{ℕ, Bool, true, false, ◌||◌, List, [], Option, Some, None, if◌then◌else◌}
use Rattle.c_values.specs.Name.{Name, same_name}
use Rattle.expression_lang.specs.Expression.{Exp, Var}
use Rattle.monad_lang.specs.Program as M
use Rattle.monad_lang.specs.Program.{Mon}
use Rattle.monad_lang.specs.Form.{are_vars, is_true_guard, all_kept}
use Rattle.rule_eq.specs.Rule as R
use Rattle.rule_eq.specs.Rule.{Point}
use Rattle.rule_eq.specs.Table.{taken_at, behind}
use Rattle.polish.specs.Polished.{Polished, Way, unchanged, at_once, what_is_bound, first_put, put_taken, turned, bound}

abbrev pub is_var : Name → Exp → Bool
is_var x (Var y) = same_name x y
is_var x e = false

abbrev pub is_nothing : Mon → List Name → Bool
is_nothing (M.Ret []) [] = true
is_nothing m xs = false

abbrev pub gives_names : List Name → Mon → Bool
gives_names xs (M.Ret es) = are_vars xs es
gives_names xs n = false

pub data Settling : Type 0 where
  Stays : Settling
  -- what it binds is all, or it binds nothing
  Gives : Settling
  -- the guard in first place goes
  Skips : Settling
  -- the sequence in first place is turned
  Turns : Settling
  -- the value at this position is put in
  Puts : ℕ → Settling

abbrev pub where_put : Option ℕ → Settling
where_put None = Stays
where_put (Some i) = Puts i

abbrev pub otherwise : Mon → List Name → Mon → Settling
otherwise (M.Bind a zs b) xs n = if all_kept zs xs n then Turns else Stays
otherwise (M.Ret es) xs n = where_put (first_put [] es xs n)
otherwise m xs n = Stays

abbrev pub settling_of : Mon → List Name → Mon → Settling
settling_of m xs n =
    if is_nothing m xs || gives_names xs n then Gives else if is_true_guard m xs then Skips else otherwise m xs n

-- the sequence after that step, and what comes then
abbrev pub stepped : Way → Point → Settling → Mon → List Name → Mon → Polished
stepped again at Gives m xs n = at_once R.BindRet (what_is_bound m xs n)
stepped again at Skips m xs n = at_once R.GuardKnown n
stepped again at Turns (M.Bind a zs b) xs n =
    turned a zs b xs n (bound again (behind a zs at) b xs n) (λ r. bound again at a zs r)
stepped again at (Puts i) (M.Ret es) xs n = put_taken again at (M.Bind (M.Ret es) xs n) i n (taken_at i es xs)
stepped again at next m xs n = unchanged (M.Bind m xs n)
