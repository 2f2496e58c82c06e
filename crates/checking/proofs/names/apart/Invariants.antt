-- What is found from here on is what is found of all; and how many are left.
use Rattle.std.proofs.Common.{◌≡◌, ◌+◌, map, length}
use Rattle.checking.specs.Checked.{listed_apart}
use Rattle.checking.proofs.names.apart.Given as goal

abbrev pub invariant-functions : goal.invariant-functions
invariant-functions g l = record {
  same : listed_apart l.at (map g.F.Named.named l.left) (map g.C.Named.named l.right)
      ≡ listed_apart 0 (map g.F.Named.named l.functions) (map g.C.Named.named l.certificate);
  at : l.at + length l.left ≡ length l.functions;
}

abbrev pub decreases-functions : goal.decreases-functions
decreases-functions g l = length l.left
