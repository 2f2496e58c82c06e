-- How a number is looked for along a node's parts: those that were passed have fewer nodes than are looked for.
use Rattle.std.proofs.Common.{◌≡◌, ◌<◌, ℕ, suc, ◌+◌, ◌-◌, List, [], ◌∷◌, ◌++◌, length, refl, sym, ap, subst, ◌∙◌, arith, reverse}
use Rattle.std.specs.Prelude.{Option, Some, None}
use Rattle.std.proofs.lemmas.List.{reverse-append}
use Rattle.std.proofs.Common.{Vec, Global}
use Rattle.refused_parts.specs.declared.ways.Sought.{Sought}
use Rattle.refused_parts.specs.declared.ways.Sought.TheVariants.{Within}
use Rattle.std.specs.Option.{option_map}
use Rattle.rule_trees.specs.declared.tree.Tree as T
use Rattle.rule_trees.specs.declared.tree.Tree.{out-Tree}
use Rattle.rule_trees.specs.RuleTree.{Tree, Trees, node}
use Rattle.rule_trees.specs.CodeTree.{trees_in}
use Rattle.rule_trees.specs.CodeNodes.{nodes, nodes_in}
use Rattle.rule_trees.proofs.Parts.{tree_parts}
use Rattle.refused_parts.specs.Ways.{number_at, number_in}
use Rattle.refused_parts.specs.CodeWays.{shape_of, IsSought}

both_added : (a b : ℕ) (o : Option ℕ) → option_map (λ n. a + n) (option_map (λ n. b + n) o) ≡ option_map (λ n. (a + b) + n) o
both_added a b None = refl
both_added a b (Some n) = ap (λ m. Some m) (omega arith)

nothing_added : (o : Option ℕ) → o ≡ option_map (λ n. 0 + n) o
nothing_added None = refl
nothing_added (Some n) = ap (λ m. Some m) (omega arith)

at_root : {Rule : Type 0} (t : Tree Rule) → number_at t [] ≡ Some 0
at_root (node r ts) = refl

-- the root has number 0
pub root_found : {Rule : Type 0} (t : Tree Rule) (way : List ℕ) (n : ℕ) → way ≡ [] → n ≡ 0 → number_at t (reverse way) ≡ Some n
root_found t way n none zero_is = ap (λ w. number_at t (reverse w)) none ∙ at_root t ∙ ap (λ m. Some m) (sym zero_is)

module _ {R : Type 0} where
  abbrev pub shapes_in : List (T.Tree R) → Trees R
  shapes_in ts = trees_in (λ r. r) ts

  -- of `whole` those before `rest` are passed, with a number of nodes; so much less is looked for
  pub record ArePassed (whole rest : List (T.Tree R)) (below left at : ℕ) : Type 0 where
    pub passed : ℕ
    pub sum : passed + left ≡ below
    pub counted : nodes_in (shapes_in whole) ≡ passed + nodes_in (shapes_in rest)
    pub places : at + length rest ≡ length whole
    pub same : (i : ℕ) (way : List ℕ) → number_in (shapes_in whole) (at + i) way ≡ option_map (λ n. passed + n) (number_in (shapes_in rest) i way)

  none_of_all : (whole : List (T.Tree R)) (n : ℕ) → ArePassed whole whole n n 0
  none_of_all whole n = record {
    passed = 0;
    sum = omega arith;
    counted = omega arith;
    places = omega arith;
    same = λ i way. let e : 0 + i ≡ i = omega arith in ap (λ j. number_in (shapes_in whole) j way) e ∙ nothing_added (number_in (shapes_in whole) i way);
  }

  pub none_passed : (whole rest : List (T.Tree R)) (n : ℕ) → rest ≡ whole → ArePassed whole rest n n 0
  none_passed whole rest n e = subst (λ ts. ArePassed ts rest n n 0) e (none_of_all rest n)

  pub one_passed : (whole rest others : List (T.Tree R)) (part : T.Tree R) (below left behind at : ℕ) → rest ≡ part ∷ others → left ≡ nodes (shape_of part) + behind →
      ArePassed whole rest below left at → ArePassed whole others below behind (at + 1)
  one_passed whole rest others part below left behind at split counted h =
      let k = nodes (shape_of part) in
      record {
        passed = h.passed + k;
        sum = let e = h.sum in omega arith;
        counted = let e = ap (λ ts. nodes_in (shapes_in ts)) split in let f = h.counted in omega arith;
        places = let e = ap length split in let f = h.places in omega arith;
        same = λ i way.
            let e : (at + 1) + i ≡ at + suc i = omega arith in
            ap (λ j. number_in (shapes_in whole) j way) e
            ∙ h.same (suc i) way
            ∙ ap (λ ts. option_map (λ n. h.passed + n) (number_in (shapes_in ts) (suc i) way)) split
            ∙ both_added h.passed k (number_in (shapes_in others) i way);
      }

  at_part : (t : T.Tree R) (whole : List (T.Tree R)) (i : ℕ) (way : List ℕ) → whole ≡ (out-Tree R t).parts.items → number_at (shape_of t) (i ∷ way) ≡ option_map suc (number_in (shapes_in whole) i way)
  at_part t whole i way e = ap (λ u. number_at u (i ∷ way)) (tree_parts (λ r. r) t) ∙ ap (λ ts. option_map suc (number_in (shapes_in ts) i way)) (sym e)

  -- a node in the next part is one of the tree
  pub found_in : (t : T.Tree R) (whole rest others : List (T.Tree R)) (part : T.Tree R) (n below left at : ℕ) (way : List ℕ) → whole ≡ (out-Tree R t).parts.items → rest ≡ part ∷ others → n ≡ suc below →
      number_at (shape_of part) way ≡ Some left → ArePassed whole rest below left at → number_at (shape_of t) (at ∷ way) ≡ Some n
  found_in t whole rest others part n below left at way e split is found h =
      let zero_more : at ≡ at + 0 = omega arith in
      let there : suc (h.passed + left) ≡ n = let s = h.sum in omega arith in
      at_part t whole at way e
      ∙ ap (λ j. option_map suc (number_in (shapes_in whole) j way)) zero_more
      ∙ ap (option_map suc) (h.same 0 way ∙ ap (λ ts. option_map (λ n. h.passed + n) (number_in (shapes_in ts) 0 way)) split ∙ ap (option_map (λ n. h.passed + n)) found)
      ∙ ap (λ m. Some m) there

  -- behind all parts
  pub all_passed : (t : T.Tree R) (whole rest : List (T.Tree R)) (n below left at : ℕ) → whole ≡ (out-Tree R t).parts.items → length rest ≡ 0 → n ≡ suc below → ArePassed whole rest below left at → n ≡ nodes (shape_of t) + left
  all_passed t whole (u ∷ us) n below left at e none is h = absurd cc
  all_passed t whole [] n below left at e none is h =
      let parts = ap nodes (tree_parts (λ r. r) t) in
      let same = ap (λ ts. nodes_in (shapes_in ts)) e in
      let counted = h.counted in
      let s = h.sum in
      omega arith

  -- a node has more nodes than its parts
  pub more_above : (t : T.Tree R) (whole : List (T.Tree R)) → whole ≡ (out-Tree R t).parts.items → nodes_in (shapes_in whole) < nodes (shape_of t)
  more_above t whole e =
      let parts = ap nodes (tree_parts (λ r. r) t) in
      let same = ap (λ ts. nodes_in (shapes_in ts)) e in
      omega arith

  pub fewer_behind : (rest others : List (T.Tree R)) (part : T.Tree R) → rest ≡ part ∷ others → nodes_in (shapes_in rest) ≡ nodes (shape_of part) + nodes_in (shapes_in others)
  fewer_behind rest others part e = ap (λ ts. nodes_in (shapes_in ts)) e

module _ {R : Type 0} (tree : T.Tree R) (n : ℕ) where
  -- what is found in the next part is found in the tree
  pub in_part : (sought : Sought) (way : Vec ℕ Global) (new : List ℕ) (part : T.Tree R) (rest others : List (T.Tree R)) (left at : ℕ) → sought ≡ Within way → new ≡ way.items ++ at ∷ [] →
      (n ≡ 0 → ⊥) → rest ≡ part ∷ others → IsSought (shape_of part) left sought → ArePassed (out-Tree R tree).parts.items rest (n - 1) left at → number_at (shape_of tree) (reverse new) ≡ Some n
  in_part sought way new part rest others left at is pushed some split found h =
      let there = subst (IsSought (shape_of part) left) is found in
      let e : n ≡ suc (n - 1) = omega arith in
      ap (λ w. number_at (shape_of tree) w) (ap reverse pushed ∙ reverse-append way.items (at ∷ []))
      ∙ found_in tree (out-Tree R tree).parts.items rest others part n (n - 1) left at (reverse way.items) refl split e there h
