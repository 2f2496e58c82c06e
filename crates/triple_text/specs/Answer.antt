-- Which text is whose, and what the readers' answers say of a text.
use Rattle.std.specs.Prelude.{◌≡◌, ◌≤◌, ℕ, true, List, ◌⊎◌, Result, Err, MatchResult}
use Rattle.ac_sx.specs.Tree.{Tree, IsTree, file, depth, deepest}
use Rattle.ac_sx.specs.Front.{OpensTooDeep}
use Rattle.ac_sx.specs.Answer.{IsNoText}
use Rattle.expression_text.specs.declared.fault.TextFault.{TextFault}
use Rattle.expression_text.specs.declared.fault.TextFault.TheVariants.{NotText, Deep, Shape, Memory}
use Rattle.rule_trees.specs.RuleTree as rules
use Rattle.triple_lang.specs.Entail as E
use Rattle.triple_lang.specs.Deriv as D
use Rattle.triple_lang.specs.Triple.{Triple}
use Rattle.triple_text.specs.EntailText.{entail_tree, is_entail}
use Rattle.triple_text.specs.DerivText.{deriv_tree, is_deriv}
use Rattle.triple_text.specs.TripleText.{triple_tree, is_triple, triples_tree, are_triples}
use Rattle.triple_text.specs.TripleReading.{triples_at}

abbrev pub IsEntailTree : Tree → rules.Tree E.Rule → Type 0
IsEntailTree t x = (t ≡ entail_tree x) × (is_entail x ≡ true)

abbrev pub IsDerivTree : Tree → rules.Tree D.Rule → Type 0
IsDerivTree t x = (t ≡ deriv_tree x) × (is_deriv x ≡ true)

abbrev pub IsTripleTree : Tree → Triple → Type 0
IsTripleTree t x = (t ≡ triple_tree x) × (is_triple x ≡ true)

abbrev pub AreTriplesTree : Tree → List Triple → Type 0
AreTriplesTree t xs = (t ≡ triples_tree xs) × (are_triples xs ≡ true)

-- the text of a tree that isn't too deep
pub record IsTextOf (text : List ℕ) (t : Tree) : Type 0 where
  pub atoms : IsTree t
  pub spelled : text ≡ file t
  pub depth : depth t ≤ deepest

abbrev pub AreTriplesText : List ℕ → List Triple → Type 0
AreTriplesText text xs = IsTextOf text (triples_tree xs) × (are_triples xs ≡ true)

-- the cause of a fault; of want of memory there is none
abbrev pub IsFaultOf : List ℕ → TextFault → Type 0
IsFaultOf text NotText = (at : ℕ) × IsNoText text at
IsFaultOf text Deep = (at : ℕ) × OpensTooDeep text at
IsFaultOf text (Shape n) = (t : Tree) × IsTextOf text t × (triples_at 0 t ≡ Err n)
IsFaultOf text Memory = Unit {0}

-- refused so, unless memory ran out
abbrev pub IsRefusedAs : {X : Type 0} → Result X TextFault → TextFault → Type 0
IsRefusedAs r fault = MatchResult r (λ _. ⊥) (λ e. (e ≡ fault) ⊎ (e ≡ Memory))
