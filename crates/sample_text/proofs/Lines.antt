-- The first of the lines that are left comes behind those that stand.
use Rattle.std.proofs.Common.{◌≡◌, ℕ, suc, ◌+◌, ◌-◌, ◌<◌, ◌++◌, List, sym, ap, ◌∙◌, arith}
use Rattle.std.proofs.lemmas.List.{append_assoc}
use Rattle.sample_text.specs.Sample.{line, lines_from}

pub next_line : (text : List ℕ) (k n : ℕ) → k < n →
    (text ++ line k) ++ lines_from (k + 1) (n - (k + 1)) ≡ text ++ lines_from k (n - k)
next_line text k n h =
    let e : k + 1 ≡ suc k = omega arith in
    let f : n - k ≡ suc (n - (k + 1)) = omega (arith, h) in
    append_assoc text (line k) (lines_from (k + 1) (n - (k + 1)))
    ∙ ap (λ ls. text ++ ls) (ap (λ j. line k ++ lines_from j (n - (k + 1))) e ∙ sym (ap (lines_from k) f))
