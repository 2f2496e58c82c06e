-- What the recogniser's answer, and what is built, say of the reader's answer.
use Rattle.std.proofs.Common.{◌≡◌, ℕ, ◌≤◌, List, Some, None, Result, Ok, Err, ◌⊎◌, inl, inr, ap, sym, subst, ◌∙◌}
use Rattle.std.specs.Prelude.{IfErr}
use Rattle.std.specs.Result.{IsErrAnd}
use Rattle.ac_sx.specs.declared.fault.SxFault.{SxFault}
use Rattle.ac_sx.specs.declared.fault.SxFault.TheVariants.{NotText, Deep, Memory}
use Rattle.ac_sx.specs.Tree.{Tree, IsTree, file, depth, deepest}
use Rattle.ac_sx.specs.Front.{IsFile, IsShallow, OpensTooDeep}
use Rattle.ac_sx.specs.CodeRecogniser.{recognised}
use Rattle.ac_sx.specs.CodeBuilder.{built}
use Rattle.ac_sx.specs.Answer.{IsNoText, IsFaultOf, IsRefused}
use Rattle.ac_sx.proofs.Deepest.{shallow_file}
use Rattle.ac_sx.proofs.Told.{Told, told}
use Rattle.ac_sx.proofs.Causes.{IsFault, broken_is_told, deep_is_told, file_is_recognised}
use Rattle.ac_sx.proofs.Built.{file_is_built}

is_file : (text : List ℕ) (u : Unit {0}) → recognised text ≡ Ok u → IsFile text × IsShallow text
is_file text u e = subst (Told text) e (told text)

-- the tree of the text
pub tree_there : (text : List ℕ) (u : Unit {0}) → recognised text ≡ Ok u → (t : Tree) × IsTree t × (text ≡ file t) × (depth t ≤ deepest) × (built text ≡ Some t)
tree_there text u e =
    let ((t, is, same), shallow) = is_file text u e in
    (t, is, same, shallow_file t is (subst IsShallow same shallow), ap built same ∙ file_is_built t is)

pub found_tree : (text : List ℕ) (u : Unit {0}) (t : Tree) → recognised text ≡ Ok u → Some t ≡ built text → IsTree t × (text ≡ file t) × (depth t ≤ deepest)
found_tree text u t e built_is =
    let (v, is, same, low, whole) = tree_there text u e in
    let there : v ≡ t = cc in
    subst (λ w. IsTree w × (text ≡ file w) × (depth w ≤ deepest)) there (is, same, low)

pub some_tree : (text : List ℕ) (u : Unit {0}) → recognised text ≡ Ok u → None ≡ built text → ⊥
some_tree text u e none = let (v, is, same, low, whole) = tree_there text u e in absurd cc

pub only_tree : (text : List ℕ) (t found : Tree) → IsTree t → text ≡ file t → Some found ≡ built text → found ≡ t
only_tree text t found is same built_is = let whole = ap built same ∙ file_is_built t is in cc

pub not_broken : (text : List ℕ) (u : Unit {0}) (at : ℕ) → recognised text ≡ Ok u → IsNoText text at → ⊥
not_broken text u at e cause = subst (λ r. IsFault r (NotText at)) e (broken_is_told text (recognised text) at (told text) cause)

pub not_deep : (text : List ℕ) (u : Unit {0}) (at : ℕ) → recognised text ≡ Ok u → OpensTooDeep text at → ⊥
not_deep text u at e cause = subst (λ r. IsFault r (Deep at)) e (deep_is_told text (recognised text) at (told text) cause)

-- an error is the recogniser's
pub error_told : {T : Type 0} (r : Result T SxFault) (text : List ℕ) (fault : SxFault) → IsErrAnd r (λ e. e ≡ fault) → recognised text ≡ Err fault → IfErr r (IsFaultOf text)
error_told (Ok x) text fault h e = tt
error_told (Err f) text fault h e = subst (IsFaultOf text) (sym h) (subst (Told text) e (told text))

refused : {T : Type 0} (r : Result T SxFault) (fault cause : SxFault) → IsErrAnd r (λ e. e ≡ fault) → (fault ≡ cause) ⊎ (fault ≡ Memory) → IsRefused r cause
refused (Ok x) fault cause h is = absurd h
refused (Err f) fault cause h is = elim is [ inl same ↦ inl (h ∙ same) | inr memory ↦ inr (h ∙ memory) ]

pub broken_refused : {T : Type 0} (r : Result T SxFault) (text : List ℕ) (fault : SxFault) (at : ℕ) → IsErrAnd r (λ e. e ≡ fault) → recognised text ≡ Err fault → IsNoText text at → IsRefused r (NotText at)
broken_refused r text fault at h e cause = refused r fault (NotText at) h (subst (λ x. IsFault x (NotText at)) e (broken_is_told text (recognised text) at (told text) cause))

pub deep_refused : {T : Type 0} (r : Result T SxFault) (text : List ℕ) (fault : SxFault) (at : ℕ) → IsErrAnd r (λ e. e ≡ fault) → recognised text ≡ Err fault → OpensTooDeep text at → IsRefused r (Deep at)
deep_refused r text fault at h e cause = refused r fault (Deep at) h (subst (λ x. IsFault x (Deep at)) e (deep_is_told text (recognised text) at (told text) cause))

-- a file that isn't too deep isn't refused
pub not_refused : (text : List ℕ) (t : Tree) (fault : SxFault) → recognised text ≡ Err fault → IsTree t → depth t ≤ deepest → text ≡ file t → ⊥
not_refused text t fault e is low same = let passes = ap recognised same ∙ file_is_recognised t is low in absurd cc

pub file_is_shallow : (t : Tree) → IsTree t → depth t ≤ deepest → IsShallow (file t)
file_is_shallow t is low = (is_file (file t) tt (file_is_recognised t is low)).1
