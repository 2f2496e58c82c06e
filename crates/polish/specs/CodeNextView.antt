-- What the code does next.
use Rattle.polish.specs.declared.entering.Next as N
use Rattle.polish.specs.declared.settling.Settling as S
use Rattle.polish.specs.Climbed as C
use Rattle.polish.specs.Climbed.{Next}
use Rattle.polish.specs.CodeNext.{Settling, Stays, Gives, Skips, Turns, Puts}

abbrev pub next_in : N.Next → Next
next_in N.TheVariants.Enters = C.Enters
next_in N.TheVariants.Skips = C.Skips
next_in N.TheVariants.Stands = C.Stands
next_in (N.TheVariants.Puts i) = C.Puts i

abbrev pub settling_in : S.Settling → Settling
settling_in S.TheVariants.Stays = Stays
settling_in S.TheVariants.Gives = Gives
settling_in S.TheVariants.Skips = Skips
settling_in S.TheVariants.Turns = Turns
settling_in (S.TheVariants.Puts i) = Puts i
