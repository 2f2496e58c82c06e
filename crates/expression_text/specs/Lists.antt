-- Lists of parts of one kind, and of parts that begin with names of their own.
use Rattle.std.specs.Prelude.{ℕ, Bool, true, ◌&&◌, List, [], ◌∷◌, ◌++◌, Ok, Err, if◌then◌else◌}
use Rattle.c_values.specs.Name.{Name, is_among}
use Rattle.expression_lang.specs.Expression.{Exp}
use Rattle.ac_sx.specs.Tree.{Tree, Trees, Atom, Node, no_trees, more}
use Rattle.expression_text.specs.Reading.{Read, next, ◌>>=◌}
use Rattle.expression_text.specs.Names.{name_at}
use Rattle.expression_text.specs.ExpText.{exp_tree}
use Rattle.expression_text.specs.ExpReading.{exp_at}

abbrev pub each : {A : Type 0} → (A → Bool) → List A → Bool
each test [] = true
each test (x ∷ xs) = test x && each test xs

abbrev pub trees_for : {A : Type 0} → (A → Tree) → List A → Trees
trees_for tree [] = no_trees
trees_for tree (x ∷ xs) = more (tree x) (trees_for tree xs)

abbrev pub list_at : {A : Type 0} → (ℕ → Tree → Read A) → ℕ → Trees → Read (List A)
list_at read at no_trees = Ok ([], at)
list_at read at (more t ts) = do
  x ← read at t
  y ← list_at read x.1 ts
  Ok (x.0 ∷ y.0, y.1)

-- some trees, and then others
abbrev pub joined : Trees → Trees → Trees
joined no_trees us = us
joined (more t ts) us = more t (joined ts us)

-- expressions
abbrev pub exp_trees : List Exp → Trees
exp_trees = trees_for exp_tree

abbrev pub exps_at : ℕ → Trees → Read (List Exp)
exps_at = list_at exp_at

-- a name that is none of those before it
abbrev pub new_name_at : List Name → ℕ → Tree → Read Name
new_name_at before at t = do
  x ← name_at at t
  if is_among x.0 before then Err at else Ok x

-- parts that are read by what names are before them, and have a name each
abbrev pub named_at : {A : Type 0} → (A → Name) → (List Name → ℕ → Tree → Read A) → List Name → ℕ → Trees → Read (List A)
named_at name read before at no_trees = Ok ([], at)
named_at name read before at (more t ts) = do
  x ← read before at t
  y ← named_at name read (before ++ name x.0 ∷ []) x.1 ts
  Ok (x.0 ∷ y.0, y.1)

-- a list of names, no two the same
abbrev pub names_tree : List Name → Tree
names_tree xs = Node (trees_for Atom xs)

abbrev pub names_at : ℕ → Tree → Read (List Name)
names_at at (Atom word) = Err at
names_at at (Node ts) = named_at (λ x. x) new_name_at [] (next at) ts
