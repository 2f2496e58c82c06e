-- What holds of a translation that is the definition's.
use Rattle.std.proofs.Common.{◌≡◌, true, List, Some, ap, sym, subst}
use Rattle.expression_lang.specs.Signature.{Signature}
use Rattle.expression_lang.specs.Sort.{Scope, TruthSort}
use Rattle.simpl_lang.specs.Command.{Simpl}
use Rattle.simpl_lang.specs.CodeCommand.{simpl_of}
use Rattle.simpl_lang.specs.Flag.{thrown_local}
use Rattle.simpl_lang.specs.Form.{is_flat}
use Rattle.simpl_lang.specs.Sorted.{is_sorted}
use Rattle.rule_exn.specs.Table.{Takes}
use Rattle.rule_exn.specs.Eliminated.{exceptions_eliminated}
use Rattle.rule_exn.specs.CodeRule.{tree_of}
use Rattle.rule_exn.proofs.EliminatedTaken.{eliminated_taken, eliminated_flat}
use Rattle.rule_exn.proofs.EliminatedSorted.{eliminated_sorted}
use Rattle.exception_elim.specs.declared.eliminated.Eliminated as E
use Rattle.exception_elim.specs.CodeDone.{Done, done, done_of}

pub right : (e : E.Eliminated) (c : Simpl) → done_of e ≡ done c → simpl_of e.right.value ≡ (exceptions_eliminated c).right
right e c h = ap (λ d. d.made.right) h

pub tree : (e : E.Eliminated) (c : Simpl) → done_of e ≡ done c → tree_of e.tree ≡ (exceptions_eliminated c).tree
tree e c h = ap (λ d. d.made.tree) h

pub taken : (e : E.Eliminated) (c : Simpl) → done_of e ≡ done c → Takes (tree_of e.tree) c (simpl_of e.right.value)
taken e c h = subst (λ (d : Done). Takes d.made.tree c d.made.right) (sym h) (eliminated_taken c)

pub flat : (e : E.Eliminated) (c : Simpl) → done_of e ≡ done c → is_flat (simpl_of e.right.value) ≡ true
flat e c h = subst (λ (d : Done). is_flat d.made.right ≡ true) (sym h) (eliminated_flat c)

pub sorted : (e : E.Eliminated) (c : Simpl) → done_of e ≡ done c → (g : Scope) (signatures : List Signature) → g.names thrown_local ≡ Some TruthSort → is_sorted g signatures c ≡ true → is_sorted g signatures (simpl_of e.right.value) ≡ true
sorted e c h g signatures k i = subst (λ (d : Done). is_sorted g signatures d.made.right ≡ true) (sym h) (eliminated_sorted g signatures k c i)
