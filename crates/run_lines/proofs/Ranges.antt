-- Ranges of a memory end in the space of 64 bits, and its tags are objects that begin in the layout's.
use Rattle.std.proofs.Common.{◌≡◌, ℕ, true, List, [], ◌∷◌, arith}
use Rattle.c_values.specs.Layout.{Layout, space}
use Rattle.c_memory.specs.Ranges.{Run}
use Rattle.c_memory.proofs.Objects.{small_space}
use Rattle.memory_text.specs.MemoryText.{after_run, are_chained}
use Rattle.memory_text.proofs.RunLaws.{follows}
use Rattle.run_start.proofs.Runs.{gone_on}
use Rattle.run_lines.specs.CodeEnds.{EndInSpace}

pub ends_in_space : (l : Layout) (from : ℕ) (rs : List Run) → are_chained (after_run l) from rs ≡ true → EndInSpace rs
ends_in_space l from [] h = tt
ends_in_space l from (r ∷ rs) h =
    let (e, there, others) = gone_on (after_run l from r) (λ e. are_chained (after_run l) e rs) h in
    let f = follows l from r e there in
    let within = f.within in
    let room = small_space l.target in
    (omega (arith, within, room), ends_in_space l e rs others)
