-- What the checker of derivations keeps: a program is well-sorted, its values have a name each, and the postcondition is a truth
-- value where they do.
use Rattle.std.specs.Prelude.{◌≡◌, true, List, length, Some, map}
use Rattle.c_values.specs.Name.{Name}
use Rattle.expression_lang.specs.Expression.{Exp}
use Rattle.expression_lang.specs.Sort.{Scalar, sort_of, is_truth}
use Rattle.expression_lang.specs.Sorted.{names_with}
use Rattle.monad_lang.specs.Program.{Mon}
use Rattle.monad_lang.specs.Sorted.{scalars_given}
use Rattle.monad_lang.specs.CodeProgram.{final_unit_of}
use Rattle.hoare_check.specs.declared.ground.Ground as G
use Rattle.triple_lang.specs.Triple.{Triple}
use Rattle.triple_lang.specs.CodeDeriv.{triple_of}
use Rattle.triple_lang.specs.Deriv.{Ground, Names}
use Rattle.hoare_check.specs.DeriveTable.{setting, scope}

abbrev pub ground_of : G.Ground → Ground
ground_of g = record {
  unit = final_unit_of g.unit.now;
  lifted = g.lifted;
  triples = map (λ (t : Triple). t.assertions) (map triple_of g.triples.now);
}

pub record IsPosed (k : Ground) (ns : Names) (m : Mon) (xs : List Name) (q : Exp) : Type 0 where
  pub given : List Scalar
  pub sorted : scalars_given (setting k ns) m ≡ Some given
  pub many : length xs ≡ length given
  pub truth : is_truth (sort_of (scope k (names_with xs given ns)) q) ≡ true
