-- What takes a tree in the order of its text: lists are entered, atoms put and lists left, each a change of a state.
use Rattle.std.specs.Prelude.{ℕ, List}
use Rattle.ac_sx.specs.Tree.{Tree, Trees, Atom, Node, no_trees, more}

pub record Writing (S : Type 0) : Type 0 where
  pub entered : S → S
  pub put : S → List ℕ → S
  pub left : S → S

abbrev mutual
  -- the state behind a tree
  pub written : {S : Type 0} → Writing S → S → Tree → S
  written w s (Atom word) = w.put s word
  written w s (Node ts) = w.left (all_written w (w.entered s) ts)

  pub all_written : {S : Type 0} → Writing S → S → Trees → S
  all_written w s no_trees = s
  all_written w s (more t ts) = all_written w (written w s t) ts
