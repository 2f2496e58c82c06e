-- What a sequence whose first part is tidy leads to, as it is kept while it is made: with the walk that led to the first part, after
-- what was done before.
use Rattle.std.specs.Prelude.{Bool, false, List, if◌then◌else◌}
use Rattle.c_values.specs.Name.{Name}
use Rattle.monad_lang.specs.Program as M
use Rattle.monad_lang.specs.Program.{Mon}
use Rattle.monad_lang.specs.Form.{is_bind_ret, all_kept}
use Rattle.rule_eq.specs.Rule as R
use Rattle.rule_eq.specs.Rule.{Point}
use Rattle.rule_eq.specs.Table.{behind}
use Rattle.rule_walks.specs.Walk.{Walk, stays, one_walk, over_bind, Walked, walked, Before, Nothing, after_before, and_led}
use Rattle.polish.specs.Polished.{Way, leaf, at_once}
use Rattle.polish.specs.Climbed as C
use Rattle.polish.specs.Climbed.{Next, next_of}
use Rattle.polish.specs.CodeNext as S
use Rattle.polish.specs.CodeNext.{stepped}
use Rattle.polish.specs.Seen.{seen, SeenParted, seen_parted}
use Rattle.polish.specs.Descent.{Stage, seen_raised}

-- by the walk in its first part to the sequence
abbrev pub led_whole : Before → Walk → Mon → List Name → Mon → Before
led_whole b w m xs n = and_led b (over_bind w stays) (M.Bind m xs n)

abbrev pub stage : Before → Walk → Mon → List Name → Stage
stage b w m xs = record { before = b; walk = w; first = m; names = xs }

-- the sequence in first place is turned: what is left is the stage of its first part, and its second part as a first part
abbrev pub turn_stage : Before → SeenParted → Mon → List Name → List Name → Mon → Stage
turn_stage b k a zs xs n =
    stage (and_led (led_whole b k.before (M.Bind a zs k.second) xs n) (one_walk (leaf R.Assoc)) (M.Bind a zs (M.Bind k.second xs n)))
    stays a zs

-- where none is turned
abbrev pub at_bottom : Way → (Point → Walked) → Point → Before → Walk → Next → Mon → List Name → Mon → Walked
at_bottom again last at b w C.Enters m xs n = seen_raised again at (stage b w m xs) (last (behind m xs at))
at_bottom again last at b w C.Skips m xs n =
    after_before (and_led (led_whole b w m xs n) (one_walk (leaf R.GuardKnown)) n) (last at)
at_bottom again last at b w C.Stands m xs n = after_before (led_whole b w m xs n) (seen (at_once R.BindRet m))
at_bottom again last at b w (C.Puts i) m xs n =
    after_before (led_whole b w m xs n) (seen (stepped again at (S.Puts i) m xs n))
at_bottom again last at b w (C.Turns a zs c) m xs n = walked m stays

abbrev pub seen_followed : Way → (Point → Walked) → Point → Before → Walk → Mon → Mon → List Name → Mon → Walked
seen_followed again last at b w o (M.Bind a zs c) xs n =
    if is_bind_ret (M.Bind a zs c) xs n then at_bottom again last at b w C.Stands (M.Bind a zs c) xs n
    else if all_kept zs xs n then
    (let k = seen_parted w o c in
    seen_raised again at (turn_stage b k a zs xs n) (seen_followed again last (behind a zs at) Nothing k.walk k.second c xs n))
    else at_bottom again last at b w C.Enters (M.Bind a zs c) xs n
seen_followed again last at b w o m xs n = at_bottom again last at b w (next_of at m xs n) m xs n

-- whether the sequence in first place is turned
abbrev pub turns : Mon → List Name → Mon → Bool
turns (M.Bind a zs c) xs n = if is_bind_ret (M.Bind a zs c) xs n then false else all_kept zs xs n
turns m xs n = false
