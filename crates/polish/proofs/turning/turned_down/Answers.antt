-- Each sequence in first place that is turned is a stage more.
use Rattle.std.proofs.Common.{map, string_bytes}
use Rattle.monad_lang.specs.CodeProgram.{mon_of}
use Rattle.polish.proofs.Onward.{turned_first, turned_more}
use Rattle.polish.proofs.turning.turned_down.Goals as goal

pub down-init : goal.down-init
down-init c =
    turned_first c.args.unit c.args.scope.now (map string_bytes c.args.names.now) (mon_of c.args.rest.now) _ c.in_ok-down.down
    (mon_of c.args.inner.first.now) (map string_bytes c.args.inner.names.now) (mon_of c.args.inner.last.now)
    c.new-levels.ensures.items c.new-parts.ensures.items c.in_ok-down.ensures

pub down-preserved : goal.down-preserved
down-preserved c =
    turned_more c.args.unit c.args.scope.now (map string_bytes c.args.names.now) (mon_of c.args.rest.now) c.down.down
    c.in_ok-down-2.down (mon_of c.args.inner.first.now) (map string_bytes c.args.inner.names.now)
    (mon_of c.args.inner.last.now) (mon_of c.down.first.now) (mon_of c.in-Some.next.first.now)
    (map string_bytes c.in-Some.next.names.now) (mon_of c.in-Some.next.last.now) c.down.invariant c.in-Some.ensures.parts
    c.in-Some.ensures.turns c.in_ok-down-2.ensures
