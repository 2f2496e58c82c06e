-- The first node of a checked tree that is no instance of its rule is about some part.
use Rattle.std.proofs.Common.{◌≡◌, ◌<◌, ℕ, suc, ◌+◌, List, [], ◌∷◌, Option, Ok, Err, inl, inr, refl, arith}
use Rattle.std.specs.Prelude.{unwrap_or}
use Rattle.rule_trees.specs.RuleTree.{Tree, Trees, node, no_trees, tree, Table, Checked, AllChecked, next, last_number}
use Rattle.rule_trees.specs.CodeNodes.{nodes, nodes_in}
use Rattle.rule_trees.proofs.Checking.{ok_is, err_is}
use Rattle.refused_parts.specs.About.{IsAbout, IsAboutIn}

-- before the last number, the next is one more
one_more : (at n k : ℕ) → n ≡ next at + k → n < last_number → n ≡ at + suc k
one_more at n k e l = omega arith

module _ {Rule Claim Part : Type 0} (table : Table Rule Claim) (left : Claim → Option Part) where
  mutual
    -- the number behind a tree that is accepted
    number_behind : (t : Tree Rule) (c : Claim) (at n : ℕ) → Checked table t c at (Ok n) → n < last_number → n ≡ at + nodes t
    number_behind (node r ts) c at n (inl h) l = let e = numbers_behind ts (table r c).parts (next at) n h.1 l in one_more at n (nodes_in ts) e l
    number_behind (node r ts) c at n (inr h) l = absurd cc

    numbers_behind : (ts : Trees Rule) (cs : List Claim) (at n : ℕ) → AllChecked table ts cs at (Ok n) → n < last_number → n ≡ at + nodes_in ts
    numbers_behind no_trees [] at n h l = let e = ok_is h in omega arith
    numbers_behind (tree t ts) (c ∷ cs) at n (inl h) l =
        let e = numbers_behind ts cs h.0 n h.2 l in
        let below : h.0 < last_number = omega arith in
        let f = number_behind t c at h.0 h.1 below in
        omega arith
    numbers_behind (tree t ts) (c ∷ cs) at n (inr h) l = absurd cc
    numbers_behind _ _ _ _ h _ = absurd h

  -- counted from a number, a node with this one is about a part
  pub record IsOfSome (at n : ℕ) (About : ℕ → Part → Type 0) : Type 0 where
    pub number : ℕ
    pub counted : n ≡ at + number
    pub part : Part
    pub about : About number part

  mutual
    pub some_part : (t : Tree Rule) (c : Claim) (p : Part) (at n : ℕ) → Checked table t c at (Err n) → n < last_number → IsOfSome at n (IsAbout table left t c p)
    some_part (node r ts) c p at n (inl h) l =
        let k = some_part_in ts (table r c).parts p (next at) n h.1 l in
        record { number = suc k.number; counted = one_more at n k.number k.counted l; part = k.part; about = (h.0, k.about) }
    some_part (node r ts) c p at n (inr h) l = record { number = 0; counted = let e = err_is h.1 in omega arith; part = p; about = refl }

    some_part_in : (ts : Trees Rule) (cs : List Claim) (p : Part) (at n : ℕ) → AllChecked table ts cs at (Err n) → n < last_number → IsOfSome at n (IsAboutIn table left ts cs p)
    some_part_in no_trees [] p at n h l = absurd cc
    some_part_in (tree t ts) (c ∷ cs) p at n (inl h) l =
        let k = some_part_in ts cs p h.0 n h.2 l in
        let counted = k.counted in
        let below : h.0 < last_number = omega arith in
        let f = number_behind t c at h.0 h.1 below in
        record { number = nodes t + k.number; counted = omega arith; part = k.part; about = inr (k.number, refl, k.about) }
    some_part_in (tree t ts) (c ∷ cs) p at n (inr h) l =
        let e = err_is h.2 in
        let below : h.0 < last_number = omega arith in
        let k = some_part t c (unwrap_or (left c) p) at h.0 h.1 below in
        record { number = k.number; counted = let f = k.counted in omega arith; part = k.part; about = inl k.about }
    some_part_in _ _ _ _ _ h _ = absurd h
