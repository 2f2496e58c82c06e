-- Trees of the rules of assertions among those of programs.
use Rattle.std.proofs.Common.{◌≡◌, ℕ, true, Option, Some, None, Result, Ok, Err, refl, ap, ap₂, sym, subst, ◌∙◌}
use Rattle.std.specs.Option.{option_map}
use Rattle.std.proofs.lemmas.Bool.{false≢true}
use Rattle.ac_sx.specs.Tree.{Tree, more}
use Rattle.expression_text.specs.declared.fault.TextFault.{TextFault}
use Rattle.expression_text.specs.declared.fault.TextFault.TheVariants as F
use Rattle.expression_text.specs.CodeFault.{Gives}
use Rattle.expression_text.specs.Reading.{Read, made}
use Rattle.expression_text.proofs.Behind.{behind, IsReadAs}
use Rattle.rule_trees.specs.RuleTree as rules
use Rattle.triple_lang.specs.Entail as E
use Rattle.triple_lang.specs.Deriv as D
use Rattle.triple_lang.specs.CodeDeriv.{as_shown, all_as_shown}
use Rattle.triple_text.specs.EntailText.{entail_word, entail_row, word_with, entail_tree, entail_trees, is_entail}
use Rattle.triple_text.specs.DerivText.{deriv_tree, deriv_trees, with_part, entail_in, entails_in, is_some_entail, is_shown}
use Rattle.triple_text.specs.EntailReading.{entail_at}
use Rattle.triple_text.specs.DerivReading.{shown_at}
use Rattle.triple_text.proofs.EntailLaws.{made_ok, entail_reads, entail_spells}

-- the text is the same
mutual
  pub shown_text : (x : rules.Tree E.Rule) → deriv_tree (as_shown x) ≡ entail_tree x
  shown_text (rules.node r ts) = ap (λ us. word_with (entail_word r) (entail_row r us)) (shown_texts ts)

  shown_texts : (xs : rules.Trees E.Rule) → deriv_trees (all_as_shown xs) ≡ entail_trees xs
  shown_texts rules.no_trees = refl
  shown_texts (rules.tree t ts) = ap₂ more (shown_text t) (shown_texts ts)

-- a tree among those of programs is found again
mutual
  found_again : (x : rules.Tree E.Rule) → entail_in (as_shown x) ≡ Some x
  found_again (rules.node r ts) = ap (option_map (λ us. rules.node r us)) (all_found_again ts)

  all_found_again : (xs : rules.Trees E.Rule) → entails_in (all_as_shown xs) ≡ Some xs
  all_found_again rules.no_trees = refl
  all_found_again (rules.tree t ts) = ap₂ with_part (found_again t) (all_found_again ts)

pub shown_fine : (x : rules.Tree E.Rule) → is_shown (as_shown x) ≡ is_entail x
shown_fine x = ap is_some_entail (found_again x)

-- and is the one that was found
node_parts : {Rule : Type 0} (r : Rule) (o : Option (rules.Trees Rule)) (x : rules.Tree Rule) → option_map (λ us. rules.node r us) o ≡ Some x → (us : rules.Trees Rule) × (o ≡ Some us) × (x ≡ rules.node r us)
node_parts r None x e = absurd cc
node_parts r (Some us) x e = (us, refl, let h : rules.node r us ≡ x = cc in sym h)

tree_parts : (o : Option (rules.Tree E.Rule)) (p : Option (rules.Trees E.Rule)) (xs : rules.Trees E.Rule) → with_part o p ≡ Some xs → (u : rules.Tree E.Rule) × (us : rules.Trees E.Rule) × (o ≡ Some u) × (p ≡ Some us) × (xs ≡ rules.tree u us)
tree_parts (Some u) (Some us) xs e = (u, us, refl, refl, let h : rules.tree u us ≡ xs = cc in sym h)
tree_parts _ _ xs e = absurd cc

mutual
  is_found : (t : rules.Tree D.Rule) (x : rules.Tree E.Rule) → entail_in t ≡ Some x → t ≡ as_shown x
  is_found (rules.node (D.Shows r) ts) x e =
      let (us, found, same) = node_parts r (entails_in ts) x e in
      ap (rules.node (D.Shows r)) (are_found ts us found) ∙ ap as_shown (sym same)
  is_found _ x e = absurd cc

  are_found : (ts : rules.Trees D.Rule) (xs : rules.Trees E.Rule) → entails_in ts ≡ Some xs → ts ≡ all_as_shown xs
  are_found rules.no_trees xs e = let h : rules.no_trees ≡ xs = cc in ap all_as_shown h
  are_found (rules.tree t ts) xs e =
      let (u, us, first, others, same) = tree_parts (entail_in t) (entails_in ts) xs e in
      ap₂ rules.tree (is_found t u first) (are_found ts us others) ∙ ap all_as_shown (sym same)

pub shown_reads : (t : rules.Tree D.Rule) → is_shown t ≡ true → IsReadAs shown_at (deriv_tree t) t
shown_reads t is = by (entail_in t) refl is
  where
    by : (o : Option (rules.Tree E.Rule)) → entail_in t ≡ o → is_some_entail o ≡ true → IsReadAs shown_at (deriv_tree t) t
    by None found fine = absurd (false≢true fine)
    by (Some x) found fine = subst (λ s. IsReadAs shown_at (deriv_tree s) s) (sym (is_found t x found)) (λ at.
        ap (shown_at at) (shown_text x) ∙ ap (made as_shown) (entail_reads x fine at) ∙ ap (λ s. Ok (as_shown x, behind at s)) (sym (shown_text x)))

pub shown_spells : (t : Tree) (at : ℕ) (x : rules.Tree D.Rule) (n : ℕ) → shown_at at t ≡ Ok (x, n) → (t ≡ deriv_tree x) × (is_shown x ≡ true)
shown_spells t at x n read =
    let (y, first, same) = made_ok as_shown (entail_at at t) x n read in
    let h = entail_spells t at y n first in
    (h.0 ∙ sym (shown_text y) ∙ ap deriv_tree same, ap is_shown (sym same) ∙ shown_fine y ∙ h.1)

-- what is read as a derivation of an assertion is one among those of programs
pub shown_given : {X : Type 0} (view : X → rules.Tree E.Rule) (r : Result (X × ℕ) TextFault) (q : Read (rules.Tree E.Rule)) → Gives view r q → Gives (λ x. as_shown (view x)) r (made as_shown q)
shown_given view (Ok (x, n)) q given = ap (made as_shown) given
shown_given view (Err (F.Shape n)) q given = ap (made as_shown) given
shown_given view (Err F.Memory) q given = tt
shown_given view (Err F.NotText) q given = given
shown_given view (Err F.Deep) q given = given
