-- One part more of a list in which each is read by what the one before has left.
use Rattle.std.proofs.Common.{◌≡◌, ℕ, List, [], ◌∷◌, ◌++◌, map, Ok, ap, sym, ◌∙◌}
use Rattle.std.proofs.lemmas.List.{map_push, append-nil}
use Rattle.ac_sx.specs.Tree.{Tree, Trees, no_trees, more}
use Rattle.expression_text.specs.declared.fault.TextFault.TheVariants as F
use Rattle.expression_text.specs.Reading.{Read, ◌>>=◌, made}
use Rattle.expression_text.proofs.ListsRead.{made_more}
use Rattle.memory_text.specs.MemoryReading.{chained_at}

module _ {S A X : Type 0} (view : X → A) (read : S → ℕ → Tree → Read (A × S)) where
  -- what is read so far, and what is to come
  abbrev pub so_far : List X → S → ℕ → Trees → Read (List A)
  so_far xs s at ts = made (λ ys. map view xs ++ ys) (chained_at read s at ts)

  pub chain_more : (before now : List X) (x : X) (s r : S) (at behind : ℕ) (ts us : Trees) (t : Tree) (whole : Read (List A)) → ts ≡ more t us → now ≡ before ++ x ∷ [] → read s at t ≡ Ok ((view x, r), behind) →
      so_far before s at ts ≡ whole → so_far now r behind us ≡ whole
  chain_more before now x s r at behind ts us t whole there pushed given is =
      ap (λ bs. made (λ ys. bs ++ ys) (chained_at read r behind us)) (ap (map view) pushed ∙ map_push view before x)
      ∙ made_more (map view before) (view x) (chained_at read r behind us)
      ∙ ap (λ q. made (λ ys. map view before ++ ys) (q >>= λ z. chained_at read z.0.1 z.1 us >>= λ y. Ok (z.0.0 ∷ y.0, y.1))) (sym given)
      ∙ ap (so_far before s at) (sym there)
      ∙ is

  -- no part is left
  pub chain_ended : (xs : List X) (s : S) (at : ℕ) (ts : Trees) (whole : Read (List A)) → ts ≡ no_trees → so_far xs s at ts ≡ whole → whole ≡ Ok (map view xs, at)
  chain_ended xs s at ts whole none is = sym is ∙ ap (so_far xs s at) none ∙ ap (λ ys. Ok (ys, at)) (append-nil (map view xs))
