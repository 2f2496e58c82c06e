-- Those that are left are kept where all are.
use Rattle.std.proofs.Common.{◌≡◌, map, length, string_bytes}
use Rattle.monad_lang.specs.Form.{all_kept}
use Rattle.monad_lang.specs.CodeProgram.{mon_of}
use Rattle.monad_lang.proofs.free_names.all_kept.Given as goal

abbrev pub invariant-along : goal.invariant-along
invariant-along l =
    all_kept (map string_bytes l.rest) (map string_bytes l.others) (mon_of l.m)
    ≡ all_kept (map string_bytes l.names) (map string_bytes l.others) (mon_of l.m)

abbrev pub decreases-along : goal.decreases-along
decreases-along l = length l.rest
