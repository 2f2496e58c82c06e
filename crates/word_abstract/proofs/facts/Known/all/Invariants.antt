-- Those that are listed are those that were gone through.
use Rattle.std.proofs.Common.{◌≡◌, ◌-◌, ◌≤◌, [], length, map, take}
use Rattle.word_abstract.specs.CodeKnown.{newest_first}
use Rattle.word_abstract.specs.CodeFacts.{fact_in, whole}
use Rattle.word_abstract.proofs.facts.Known.all.Given as goal

abbrev pub invariant-outer : goal.invariant-outer
invariant-outer l = record {
  same : newest_first (map fact_in l.facts.items) [] ≡ newest_first (map fact_in (take l.count l.self.outer.now)) [];
  within : l.count ≤ length l.self.outer.now;
}

abbrev pub decreases-outer : goal.decreases-outer
decreases-outer l = length l.self.outer.now - l.count

abbrev pub invariant-own : goal.invariant-own
invariant-own l = record {
  same : newest_first (map fact_in l.facts.items) [] ≡ newest_first (map whole (take l.guards l.self.own.now)) (newest_first (map fact_in l.self.outer.now) []);
  within : l.guards ≤ length l.self.own.now;
}

abbrev pub decreases-own : goal.decreases-own
decreases-own l = length l.self.own.now - l.guards
