-- By the level and the part that were pushed.
use Rattle.std.proofs.Common.{map, string_bytes, refl}
use Rattle.monad_lang.specs.CodeProgram.{mon_of}
use Rattle.polish.specs.CodeParted.{parted_in}
use Rattle.polish.proofs.Onward.{turned_by}
use Rattle.polish.proofs.following.turned_once.Goals as goal

pub returns-clause-leads : goal.returns-clause-leads
returns-clause-leads c =
    turned_by c.args.unit c.args.scope.now (map string_bytes c.args.it.names.now) (mon_of c.args.it.last.now) c.args.here _
    c.in_ok-level.level (parted_in c.parted_at-before.result) (mon_of c.args.inner.first.now)
    (map string_bytes c.args.inner.names.now) (mon_of c.args.inner.last.now) c.requires.parts c.requires.turns
    c.parted_at-before.ensures c.in_ok-level.ensures.before c.in_ok-level.ensures.walk c.in_ok-down.ensures refl refl refl
    refl
