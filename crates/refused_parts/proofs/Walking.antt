-- Where the code comes is what the node is about.
use Rattle.std.proofs.Common.{◌≡◌, ℕ, zero, suc, List, [], ◌∷◌, Option, Some, None, refl, sym, subst, ap, ◌∙◌, arith}
use Rattle.std.specs.Prelude.{unwrap_or}
use Rattle.rule_trees.specs.RuleTree.{Tree, Trees, node, no_trees, tree, Table}
use Rattle.refused_parts.specs.About.{IsAbout}
use Rattle.refused_parts.specs.CodeWalks.{walked, walked_in, IsFound}
use Rattle.refused_parts.proofs.Positions.{IsAt}
use Rattle.refused_parts.proofs.Along.{Leads, LeadsIn, along, about_below, nothing_more}

module _ {Rule Claim Part : Type 0} (table : Table Rule Claim) (left : Claim → Option Part) (inside : Rule → Part → ℕ → Option Part)
    (steps : (r : Rule) (c d : Claim) (p : Part) (i : ℕ) → (table r c).holds → left c ≡ Some p → IsAt (table r c).parts i d → left d ≡ inside r p i)
    (stays : (r : Rule) (c d : Claim) (i : ℕ) → (table r c).holds → left c ≡ None → IsAt (table r c).parts i d → left d ≡ None) where
  mutual
    reached : (t : Tree Rule) (c : Claim) (p : Part) (way : List ℕ) (q : Part) → left c ≡ Some p → Leads table left t c p way q → q ≡ walked inside t p way
    reached (node r ts) c p [] q e h = h
    reached (node r ts) c p (i ∷ way) q e h = reached_in ts (table r c).parts p (inside r p i) i way q (λ d k. steps r c d p i h.0.holds e k) h.1

    reached_in : (ts : Trees Rule) (cs : List Claim) (p : Part) (o : Option Part) (i : ℕ) (way : List ℕ) (q : Part) → ((d : Claim) → IsAt cs i d → left d ≡ o) → LeadsIn table left ts cs p i way q →
        q ≡ walked_in inside ts p o i way
    reached_in no_trees cs p o i way q all h = absurd h
    reached_in (tree t ts) [] p o i way q all h = absurd h
    reached_in (tree t ts) (c ∷ cs) p None zero way q all h =
        let e = all c refl in
        nothing_more table left stays t c p way q e (subst (λ o. Leads table left t c (unwrap_or o p) way q) e h)
    reached_in (tree t ts) (c ∷ cs) p (Some m) zero way q all h =
        let e = all c refl in
        reached t c m way q e (subst (λ o. Leads table left t c (unwrap_or o p) way q) e h)
    reached_in (tree t ts) (c ∷ cs) p None (suc i) way q all h = reached_in ts cs p None i way q all h ∙ stays_put ts p i way
    reached_in (tree t ts) (c ∷ cs) p (Some m) (suc i) way q all h = reached_in ts cs p (Some m) i way q all h

    stays_put : (ts : Trees Rule) (p : Part) (i : ℕ) (way : List ℕ) → walked_in inside ts p None i way ≡ p
    stays_put no_trees p i way = refl
    stays_put (tree t ts) p i way = refl

  -- what is found at the number of a node that is about a part
  pub found_part : (t : Tree Rule) (c : Claim) (p : Part) (n : ℕ) (q : Part) (o : Option Part) → left c ≡ Some p → IsAbout table left t c p n q → IsFound inside t p n o → o ≡ Some q
  found_part t c p n q None e h k = let l = about_below table left t c p n q h in absurd (omega arith)
  found_part t c p n q (Some m) e h k = ap (λ x. Some x) (k.2 ∙ sym (reached t c p k.0 q e (along table left t c p k.0 n q k.1 h)))
