-- Along a way: what the node at its end is about, by the positions of the way.
use Rattle.std.proofs.Common.{◌≡◌, ◌<◌, ℕ, zero, suc, ◌+◌, List, [], ◌∷◌, Option, Some, None, inl, inr, refl, sym, subst, arith}
use Rattle.std.specs.Prelude.{unwrap_or}
use Rattle.std.specs.Option.{option_map}
use Rattle.rule_trees.specs.RuleTree.{Tree, Trees, node, no_trees, tree, Table, IsInstance}
use Rattle.rule_trees.specs.CodeNodes.{nodes, nodes_in}
use Rattle.refused_parts.specs.Ways.{number_at, number_in}
use Rattle.refused_parts.specs.About.{IsAbout, IsAboutIn}
use Rattle.refused_parts.proofs.Positions.{IsAt}

-- the tree at this position
abbrev pub IsTreeAt : {Rule : Type 0} → Trees Rule → ℕ → Tree Rule → Type 0
IsTreeAt no_trees i u = ⊥
IsTreeAt (tree t ts) zero u = u ≡ t
IsTreeAt (tree t ts) (suc i) u = IsTreeAt ts i u

mapped_some : (f : ℕ → ℕ) (o : Option ℕ) (n : ℕ) → option_map f o ≡ Some n → (k : ℕ) × (o ≡ Some k) × (n ≡ f k)
mapped_some f None n e = absurd cc
mapped_some f (Some k) n e = let s : n ≡ f k = cc in (k, refl, s)

mutual
  -- the numbers of a tree's nodes are below how many there are
  pub number_below : {Rule : Type 0} (t : Tree Rule) (way : List ℕ) (n : ℕ) → number_at t way ≡ Some n → n < nodes t
  number_below (node r ts) [] n h = let e : n ≡ 0 = cc in omega arith
  number_below (node r ts) (i ∷ way) n h =
      let m = mapped_some suc (number_in ts i way) n h in
      let l = numbers_below ts i way m.0 m.1 in
      let s = m.2 in
      omega arith

  numbers_below : {Rule : Type 0} (ts : Trees Rule) (i : ℕ) (way : List ℕ) (n : ℕ) → number_in ts i way ≡ Some n → n < nodes_in ts
  numbers_below no_trees i way n h = absurd cc
  numbers_below (tree t ts) zero way n h = let l = number_below t way n h in omega arith
  numbers_below (tree t ts) (suc i) way n h =
      let m = mapped_some (λ j. nodes t + j) (number_in ts i way) n h in
      let l = numbers_below ts i way m.0 m.1 in
      let s = m.2 in
      omega arith

module _ {Rule Claim Part : Type 0} (table : Table Rule Claim) (left : Claim → Option Part) where
  abbrev mutual
    -- the tree is checked for a claim, and the node at the end of the way is about the second part
    pub Leads : Tree Rule → Claim → Part → List ℕ → Part → Type 0
    Leads (node rule ts) c p [] q = q ≡ p
    Leads (node rule ts) c p (i ∷ way) q = IsInstance (table rule c) ts × LeadsIn ts (table rule c).parts p i way q

    pub LeadsIn : Trees Rule → List Claim → Part → ℕ → List ℕ → Part → Type 0
    LeadsIn (tree t ts) (c ∷ cs) p zero way q = Leads t c (unwrap_or (left c) p) way q
    LeadsIn (tree t ts) (c ∷ cs) p (suc i) way q = LeadsIn ts cs p i way q
    LeadsIn _ _ p i way q = ⊥

  mutual
    pub about_below : (t : Tree Rule) (c : Claim) (p : Part) (n : ℕ) (q : Part) → IsAbout table left t c p n q → n < nodes t
    about_below (node r ts) c p zero q h = omega arith
    about_below (node r ts) c p (suc n) q h = let l = abouts_below ts (table r c).parts p n q h.1 in omega arith

    abouts_below : (ts : Trees Rule) (cs : List Claim) (p : Part) (n : ℕ) (q : Part) → IsAboutIn table left ts cs p n q → n < nodes_in ts
    abouts_below no_trees cs p n q h = absurd h
    abouts_below (tree t ts) [] p n q h = absurd h
    abouts_below (tree t ts) (c ∷ cs) p n q (inl h) = let l = about_below t c (unwrap_or (left c) p) n q h in omega arith
    abouts_below (tree t ts) (c ∷ cs) p n q (inr h) = let l = abouts_below ts cs p h.0 q h.2 in let e = h.1 in omega arith

  mutual
    -- what the node with a number is about, the node at the end of the way with that number is about
    pub along : (t : Tree Rule) (c : Claim) (p : Part) (way : List ℕ) (n : ℕ) (q : Part) → number_at t way ≡ Some n → IsAbout table left t c p n q → Leads t c p way q
    along (node r ts) c p [] n q e h = let z : n ≡ 0 = cc in subst (λ k. IsAbout table left (node r ts) c p k q) z h
    along (node r ts) c p (i ∷ way) n q e h =
        let m = mapped_some suc (number_in ts i way) n e in
        let there : IsAbout table left (node r ts) c p (suc m.0) q = subst (λ j. IsAbout table left (node r ts) c p j q) m.2 h in
        (there.0, along_in ts (table r c).parts p i way m.0 q m.1 there.1)

    along_in : (ts : Trees Rule) (cs : List Claim) (p : Part) (i : ℕ) (way : List ℕ) (n : ℕ) (q : Part) → number_in ts i way ≡ Some n → IsAboutIn table left ts cs p n q → LeadsIn ts cs p i way q
    along_in no_trees cs p i way n q e h = absurd h
    along_in (tree t ts) [] p i way n q e h = absurd h
    along_in (tree t ts) (c ∷ cs) p zero way n q e (inl h) = along t c (unwrap_or (left c) p) way n q e h
    along_in (tree t ts) (c ∷ cs) p zero way n q e (inr h) = let l = number_below t way n e in let s = h.1 in absurd (omega arith)
    along_in (tree t ts) (c ∷ cs) p (suc i) way n q e (inl h) =
        let m = mapped_some (λ j. nodes t + j) (number_in ts i way) n e in
        let l = about_below t c (unwrap_or (left c) p) n q h in
        let s = m.2 in
        absurd (omega arith)
    along_in (tree t ts) (c ∷ cs) p (suc i) way n q e (inr h) =
        let m = mapped_some (λ j. nodes t + j) (number_in ts i way) n e in
        let same : h.0 ≡ m.0 = let s = m.2 in let f = h.1 in omega arith in
        along_in ts cs p i way m.0 q m.1 (subst (λ j. IsAboutIn table left ts cs p j q) same h.2)

  -- the next claim on a way
  pub record LeadsOn (u : Tree Rule) (cs : List Claim) (p : Part) (i : ℕ) (way : List ℕ) (q : Part) : Type 0 where
    pub claim : Claim
    pub is_at : IsAt cs i claim
    pub leads : Leads u claim (unwrap_or (left claim) p) way q

  pub leads_on : (ts : Trees Rule) (cs : List Claim) (u : Tree Rule) (p : Part) (i : ℕ) (way : List ℕ) (q : Part) → IsTreeAt ts i u → LeadsIn ts cs p i way q → LeadsOn u cs p i way q
  leads_on no_trees cs u p i way q e h = absurd h
  leads_on (tree t ts) [] u p i way q e h = absurd h
  leads_on (tree t ts) (c ∷ cs) u p zero way q e h = record { claim = c; is_at = refl; leads = subst (λ v. Leads v c (unwrap_or (left c) p) way q) (sym e) h }
  leads_on (tree t ts) (c ∷ cs) u p (suc i) way q e h = let k = leads_on ts cs u p i way q e h in record { claim = k.claim; is_at = k.is_at; leads = k.leads }

  -- where the parts of a claim without a part of the kind have none, the whole way is about one part
  module _ (stays : (r : Rule) (c d : Claim) (i : ℕ) → (table r c).holds → left c ≡ None → IsAt (table r c).parts i d → left d ≡ None) where
    mutual
      pub nothing_more : (t : Tree Rule) (c : Claim) (p : Part) (way : List ℕ) (q : Part) → left c ≡ None → Leads t c p way q → q ≡ p
      nothing_more (node r ts) c p [] q none h = h
      nothing_more (node r ts) c p (i ∷ way) q none h = nothing_in ts (table r c).parts p i way q (λ j d k. stays r c d j h.0.holds none k) h.1

      nothing_in : (ts : Trees Rule) (cs : List Claim) (p : Part) (i : ℕ) (way : List ℕ) (q : Part) → ((j : ℕ) (d : Claim) → IsAt cs j d → left d ≡ None) → LeadsIn ts cs p i way q → q ≡ p
      nothing_in no_trees cs p i way q none h = absurd h
      nothing_in (tree t ts) [] p i way q none h = absurd h
      nothing_in (tree t ts) (c ∷ cs) p zero way q none h =
          let e : left c ≡ None = none zero c refl in
          nothing_more t c p way q e (subst (λ o. Leads t c (unwrap_or o p) way q) e h)
      nothing_in (tree t ts) (c ∷ cs) p (suc i) way q none h = nothing_in ts cs p i way q (λ j d k. none (suc j) d k) h
