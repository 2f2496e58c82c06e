-- What is left of some bytes, and what a sink took of them, after the next call took k.
use Rattle.std.proofs.Common.{◌≡◌, ℕ, ◌+◌, ◌-◌, ◌≤◌, List, ◌++◌, length, take, drop, Option, sym, ap, ◌∙◌, arith}
use Rattle.std.proofs.lemmas.List.{take_all, drop-drop, length-drop}
use Rattle.std.proofs.Math.Seq.{take-add}
use Rattle.ac_base.specs.Sink.{grown}
use Rattle.ac_base.proofs.Taken.{grown-grown}

module _ (bytes rest : List ℕ) (k : ℕ) (within : length rest ≤ length bytes) (takes : k ≤ length rest) (is_rest : rest ≡ drop (length bytes - length rest) bytes) where
  abbrev taken : ℕ
  taken = length bytes - length rest

  next_length : length (take (length rest - k) (drop k rest)) ≡ length rest - k
  next_length = ap length next_is ∙ length-drop k rest
    where
      next_is : take (length rest - k) (drop k rest) ≡ drop k rest
      next_is = take_all _ _ (omega (arith, length-drop k rest))

  next_taken : length bytes - length (take (length rest - k) (drop k rest)) ≡ taken + k
  next_taken = omega (arith, next_length)

  pub next_within : length (take (length rest - k) (drop k rest)) ≤ length bytes
  next_within = omega (arith, next_length)

  pub next_is_rest : take (length rest - k) (drop k rest) ≡ drop (length bytes - length (take (length rest - k) (drop k rest))) bytes
  next_is_rest =
      take_all _ _ (omega (arith, length-drop k rest)) ∙ ap (drop k) is_rest ∙ drop-drop k taken bytes ∙ ap (λ (n : ℕ). drop n bytes) (sym next_taken)

  -- what was taken before the call, and what after it
  pub next_grown : (told before after : Option (List ℕ)) → before ≡ grown told (take taken bytes) → after ≡ grown before (take k rest) → after ≡ grown told (take (length bytes - length (take (length rest - k) (drop k rest))) bytes)
  next_grown told before after was grew =
      grew
      ∙ ap (λ (o : Option (List ℕ)). grown o (take k rest)) was
      ∙ grown-grown told (take taken bytes) (take k rest)
      ∙ ap (λ (l : List ℕ). grown told (take taken bytes ++ take k l)) is_rest
      ∙ ap (grown told) (sym (take-add taken k bytes))
      ∙ ap (λ (n : ℕ). grown told (take n bytes)) (sym next_taken)
