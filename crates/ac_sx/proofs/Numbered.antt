-- What the recogniser's answer, and what is built, say of the tree of a line.
use Rattle.std.proofs.Common.{◌≡◌, ℕ, ◌<◌, ◌≤◌, List, [], ◌∷◌, ◌++◌, length, slice_get, Option, None, Some, Ok, Err, ap, ◌∙◌, arith}
use Rattle.std.proofs.lemmas.List.{append_cancel_right}
use Rattle.std.proofs.lemmas.Option.{slice_get_within}
use Rattle.ac_sx.specs.declared.fault.SxFault.{SxFault}
use Rattle.ac_sx.specs.Tree.{Tree, IsTree, spelling, depth, deepest, line_end}
use Rattle.ac_sx.specs.CodeRecogniser.{recognised}
use Rattle.ac_sx.specs.CodeBuilder.{built}
use Rattle.ac_sx.specs.Table.{Entry, trees_of}
use Rattle.ac_sx.proofs.Built.{file_is_built}
use Rattle.ac_sx.proofs.Tabled.{length-trees_of}
use Rattle.ac_sx.proofs.Answered.{tree_there, not_refused}

pub found_term : (line : List ℕ) (u : Unit {0}) (x : Option Tree) → recognised (line ++ line_end ∷ []) ≡ Ok u → x ≡ built (line ++ line_end ∷ []) → (t : Tree) × IsTree t × (line ≡ spelling t) × (depth t ≤ deepest) × (x ≡ Some t)
found_term line u x e built_is =
    let (t, is, same, low, whole) = tree_there (line ++ line_end ∷ []) u e in
    (t, is, append_cancel_right line (spelling t) (line_end ∷ []) same, low, built_is ∙ whole)

pub spelt : (line : List ℕ) (u : Unit {0}) → recognised (line ++ line_end ∷ []) ≡ Ok u → (t : Tree) × IsTree t × (line ≡ spelling t) × (depth t ≤ deepest)
spelt line u e =
    let (t, is, same, low, whole) = tree_there (line ++ line_end ∷ []) u e in
    (t, is, append_cancel_right line (spelling t) (line_end ∷ []) same, low)

pub number_within : (line : List ℕ) (u : Unit {0}) (es : List Entry) (i : ℕ) → recognised (line ++ line_end ∷ []) ≡ Ok u → slice_get (trees_of es) i ≡ built (line ++ line_end ∷ []) → i < length es
number_within line u es i e built_is =
    let (t, is, same, low, at) = found_term line u (slice_get (trees_of es) i) e built_is in
    let within = slice_get_within (trees_of es) i t at in
    let long = length-trees_of es in
    omega (arith, within, long)

pub some_term : (line : List ℕ) (u : Unit {0}) → recognised (line ++ line_end ∷ []) ≡ Ok u → None ≡ built (line ++ line_end ∷ []) → ⊥
some_term line u e none = let (t, is, same, low, whole) = tree_there (line ++ line_end ∷ []) u e in absurd cc

pub only_term : (line : List ℕ) (t : Tree) (x : Option Tree) → IsTree t → line ≡ spelling t → x ≡ built (line ++ line_end ∷ []) → x ≡ Some t
only_term line t x is same built_is = built_is ∙ ap (λ text. built (text ++ line_end ∷ [])) same ∙ file_is_built t is

pub line_not_refused : (line : List ℕ) (t : Tree) (fault : SxFault) → recognised (line ++ line_end ∷ []) ≡ Err fault → IsTree t → depth t ≤ deepest → line ≡ spelling t → ⊥
line_not_refused line t fault e is low same = not_refused (line ++ line_end ∷ []) t fault e is low (ap (λ text. text ++ line_end ∷ []) same)
