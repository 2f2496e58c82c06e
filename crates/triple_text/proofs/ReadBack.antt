-- What the answers of the readers say of a tree.
use Rattle.std.proofs.Common.{◌≡◌, ℕ, Bool, true, Ok, refl, ap, sym, ◌∙◌}
use Rattle.ac_sx.specs.Tree.{Tree}
use Rattle.expression_text.specs.declared.fault.TextFault.{TextFault}
use Rattle.expression_text.specs.declared.fault.TextFault.TheVariants as F
use Rattle.expression_text.specs.CodeFault.{Fails}
use Rattle.expression_text.specs.Reading.{Read}
use Rattle.expression_text.proofs.Behind.{behind, IsReadAs, value_ok}
use Rattle.expression_text.proofs.ListLaws.{IsPart}

-- of a reader that reads the tree of each that has a text
module _ {A : Type 0} (read : ℕ → Tree → Read A) (tree : A → Tree) (test : A → Bool) (reads : (x : A) → test x ≡ true → IsReadAs read (tree x) x) where
  given_text : (x : A) (t : Tree) → IsPart tree test t x → read 0 t ≡ Ok (x, behind 0 (tree x))
  given_text x t is = ap (read 0) is.0 ∙ reads x is.1 0

  pub only : (t : Tree) (x : A) (n : ℕ) (y : A) → read 0 t ≡ Ok (x, n) → IsPart tree test t y → x ≡ y
  only t x n y found is = value_ok x n y (behind 0 (tree y)) (sym found ∙ given_text y t is)

  -- no text is refused
  pub not_refused : (x : A) (t : Tree) (fault : TextFault) → Fails fault (read 0 t) → IsPart tree test t x → fault ≡ F.Memory
  not_refused x t (F.Shape at) bad is = absurd (let found = sym bad ∙ given_text x t is in cc)
  not_refused x t F.Memory bad is = refl
  not_refused x t F.NotText bad is = absurd bad
  not_refused x t F.Deep bad is = absurd bad
