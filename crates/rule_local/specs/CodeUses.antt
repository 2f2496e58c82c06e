-- What becomes of one name along a command and a program: whether a part loses it, which assigns it, doesn't hand it on, and has
-- it looked at behind it; whether the command assigns it; and whether it is free in the program.
use Rattle.std.specs.Prelude.{◌≡◌, Bool, true, false, not, ◌&&◌, ◌||◌, List}
use Rattle.c_values.specs.Name.{Name, is_among}
use Rattle.simpl_lang.specs.Command as C
use Rattle.simpl_lang.specs.Command.{Simpl}
use Rattle.monad_lang.specs.Program as M
use Rattle.monad_lang.specs.Program.{Mon}
use Rattle.monad_lang.specs.Names.{is_free}
use Rattle.rule_local.specs.Assigned.{assigns}
use Rattle.rule_local.specs.Rule.{Rule, Start}
use Rattle.rule_local.specs.Table.{is_needed}

pub record Uses : Type 0 where
  pub lost : Bool
  pub assigned : Bool
  pub free : Bool

abbrev pub loses : Name → Simpl → Mon → List Name → Bool
loses y (C.Seq a b) (M.Bind m us n) vs = loses y a m us || loses y b n vs || (not (is_among y us) && assigns y a && is_free y n)
loses y (C.Cond e a b) (M.If e' m n) vs = loses y a m vs || loses y b n vs
loses y (C.Guard g a) (M.Bind m us n) vs = loses y a n vs
loses y (C.While gs e a) (M.Bind (M.Loop starts guard e' m) us n) vs = loses y a m us || (not (is_among y us) && assigns y a && is_needed guard e' m vs y)
loses y a m vs = false

abbrev pub uses : Name → Simpl → Mon → List Name → Uses
uses y a m vs = record { lost = loses y a m vs; assigned = assigns y a; free = is_free y m }

-- of a whole function, whose program may begin with the zeros of locals
abbrev pub loses_in : Rule → Name → Simpl → Mon → List Name → Bool
loses_in Start y a (M.Bind m us n) vs = loses y a n vs
loses_in rule y a m vs = loses y a m vs

abbrev pub uses_in : Rule → Name → Simpl → Mon → List Name → Uses
uses_in rule y a m vs = record { lost = loses_in rule y a m vs; assigned = assigns y a; free = is_free y m }

-- no name that the command of a whole function assigns is lost
abbrev pub LosesNone : Rule → Simpl → Mon → List Name → Type 0
LosesNone rule a m vs = (y : Name) → assigns y a ≡ true → loses_in rule y a m vs ≡ false

-- In a whole function it isn't lost, and where it is free it is a parameter.
abbrev pub IsKept : Rule → List Name → Simpl → Mon → List Name → Name → Type 0
IsKept rule ps a m vs y = (loses_in rule y a m vs ≡ false) × (is_free y m ≡ true → is_among y ps ≡ true)

-- of a program that stands for no command
abbrev pub only_free : Bool → Uses
only_free free = record { lost = false; assigned = false; free = free }

-- under a test that has the name where the first says so
abbrev pub under : Bool → Uses → Uses
under in_test part = record { lost = part.lost; assigned = part.assigned; free = in_test || part.free }

-- What is known where some parts are passed: of them; whether one of them hides the name from what is left; and whether one of
-- them assigned it, and it wasn't handed on since.
pub record Passed : Type 0 where
  pub uses : Uses
  pub hidden : Bool
  pub dropped : Bool

abbrev pub none_passed : Passed
none_passed = record { uses = only_free false; hidden = false; dropped = false }

-- of the parts and what is left
abbrev pub ended : Passed → Uses → Uses
ended p last = record {
  lost = p.uses.lost || last.lost || (p.dropped && last.free);
  assigned = p.uses.assigned || last.assigned;
  free = p.uses.free || (not p.hidden && last.free);
}

-- one more part, after which nothing else is run
abbrev pub beside : Passed → Uses → Passed
beside p part = record { uses = ended p part; hidden = p.hidden; dropped = p.dropped }

-- one more part, and then what is left, to which it hands on names
abbrev pub after : Passed → Uses → Bool → Passed
after p part handed_on = record { uses = ended p part; hidden = p.hidden || handed_on; dropped = not handed_on && (p.dropped || part.assigned) }

-- a loop with this body, under its tests, and what comes behind it
abbrev pub looped : Uses → Bool → Bool → Bool → Bool → Bool → Uses
looped body in_starts started handed_on in_outputs in_rest = record {
  lost = body.lost || (not handed_on && body.assigned && (body.free || in_outputs));
  assigned = body.assigned;
  free = (in_starts || (not started && body.free)) || (not handed_on && in_rest);
}

-- a command and a program that have no parts, or none that belong together
abbrev pub at_once : Name → Simpl → Mon → Uses
at_once y a m = record { lost = false; assigned = assigns y a; free = is_free y m }
