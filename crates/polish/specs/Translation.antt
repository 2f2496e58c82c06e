-- The translation to tidy programs, and what its answer is to the program that it was made of.
use Rattle.std.specs.Prelude.{◌≡◌, true, List, Some}
use Rattle.expression_lang.specs.Sort.{Scalar}
use Rattle.monad_lang.specs.Program.{Mon}
use Rattle.monad_lang.specs.Form.{is_tidy}
use Rattle.monad_lang.specs.Sorted.{scalars_given}
use Rattle.rule_eq.specs.Rule.{Point}
use Rattle.rule_eq.specs.Table.{Takes}
use Rattle.rule_eq.specs.Tidy.{KeepsForms}
use Rattle.polish.specs.Polished.{Polished, polished}
use Rattle.rule_walks.specs.Balanced.{balanced}

-- made tidy by a balanced tree
abbrev pub translation : Point → Mon → Polished
translation at m = let p = polished at m in record { program = p.program; tree = balanced p.tree }

-- At a point where the program gives these scalars: the rules of the tree take it to a program that is tidy, gives the same
-- scalars and has its forms.
pub record IsTidyOf (at : Point) (cs : List Scalar) (m : Mon) (p : Polished) : Type 0 where
  pub takes : Takes at p.tree m p.program
  pub gives : scalars_given at.setting p.program ≡ Some cs
  pub tidy : is_tidy p.program ≡ true
  pub forms : KeepsForms m p.program
