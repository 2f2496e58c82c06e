-- Lists in which each part is read by what the one before has left.
use Rattle.std.proofs.Common.{◌≡◌, ℕ, true, List, [], ◌∷◌, Option, Some, None, Ok, refl, ap, ap₂, sym, ◌∙◌}
use Rattle.ac_sx.specs.Tree.{Tree, Trees, no_trees, more}
use Rattle.expression_text.specs.Reading.{Read, ◌>>=◌}
use Rattle.expression_text.specs.Lists.{trees_for}
use Rattle.expression_text.proofs.Behind.{behind, AreReadAs, bind_ok, value_ok}
use Rattle.memory_text.specs.MemoryText.{goes_on, are_chained}
use Rattle.memory_text.specs.MemoryReading.{chained_at}

module _ {S A : Type 0} (read : S → ℕ → Tree → Read (A × S)) (tree : A → Tree) (after : S → A → Option S) where
  abbrev pub EachReads : Type 0
  EachReads = (s : S) (x : A) (r : S) → after s x ≡ Some r → (at : ℕ) → read s at (tree x) ≡ Ok ((x, r), behind at (tree x))

  abbrev pub EachSpells : Type 0
  EachSpells = (s : S) (t : Tree) (at : ℕ) (p : A × S) (n : ℕ) → read s at t ≡ Ok (p, n) → (t ≡ tree p.0) × (after s p.0 ≡ Some p.1)

  pub chained_reads : EachReads → (s : S) (xs : List A) → are_chained after s xs ≡ true → AreReadAs (chained_at read s) (trees_for tree xs) xs
  chained_reads h s [] is = λ at. refl
  chained_reads h s (x ∷ xs) is = by (after s x) refl is (λ r f. chained_reads h r xs f)
    where
      by : (o : Option S) → after s x ≡ o → goes_on o (λ r. are_chained after r xs) ≡ true → ((r : S) → are_chained after r xs ≡ true → AreReadAs (chained_at read r) (trees_for tree xs) xs) → AreReadAs (chained_at read s) (trees_for tree (x ∷ xs)) (x ∷ xs)
      by None e f others = absurd cc
      by (Some r) e f others = λ at.
          ap (λ q. q >>= λ y. chained_at read y.0.1 y.1 (trees_for tree xs) >>= λ z. Ok (y.0.0 ∷ z.0, z.1)) (h s x r e at)
          ∙ ap (λ q. q >>= λ z. Ok (x ∷ z.0, z.1)) (others r f (behind at (tree x)))

  abbrev AreChained : S → Trees → List A → Type 0
  AreChained s ts xs = (ts ≡ trees_for tree xs) × (are_chained after s xs ≡ true)

  chain_moved : (s : S) (ts : Trees) (xs ys : List A) → xs ≡ ys → AreChained s ts xs → AreChained s ts ys
  chain_moved s ts xs ys same is = (is.0 ∙ ap (trees_for tree) same, ap (are_chained after s) (sym same) ∙ is.1)

  pub chained_spells : EachSpells → (s : S) (ts : Trees) (at : ℕ) (xs : List A) (n : ℕ) → chained_at read s at ts ≡ Ok (xs, n) → AreChained s ts xs
  chained_spells h s no_trees at xs n e = chain_moved s no_trees [] xs (value_ok [] at xs n e) (refl, refl)
  chained_spells h s (more t ts) at xs n e =
      let (x, first, others) = bind_ok (read s at t) (λ x. chained_at read x.0.1 x.1 ts >>= λ y. Ok (x.0.0 ∷ y.0, y.1)) (xs, n) e in
      let (y, second, last) = bind_ok (chained_at read x.0.1 x.1 ts) (λ y. Ok (x.0.0 ∷ y.0, y.1)) (xs, n) others in
      let p = h s t at x.0 x.1 first in
      let q = chained_spells h x.0.1 ts x.1 y.0 y.1 second in
      chain_moved s (more t ts) (x.0.0 ∷ y.0) xs (value_ok (x.0.0 ∷ y.0) y.1 xs n last) (ap₂ more p.0 q.0, ap (λ o. goes_on o (λ r. are_chained after r y.0)) p.1 ∙ q.1)
