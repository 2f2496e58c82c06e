-- A fill number leaves one value to pick.
use Rattle.std.proofs.Common.{ℕ}
use Rattle.correspondence.specs.OneEnd.{OneEnd}
use Rattle.correspondence.proofs.OneEnd.{done_once, then_once}
use Rattle.c_values.specs.Choice.{Fill, picked}
use Rattle.expression_lang.specs.Sort.{Kind, WordKind, NatKind, IntKind, BoolKind}
use Rattle.expression_lang.specs.View.{picked_at, picked_word_at}

pub picked_once : {F : Type 0} (n width : ℕ) → OneEnd {F = F} (picked (Fill n) width)
picked_once n width = done_once _

pub picked_at_once : {F : Type 0} (n : ℕ) (k : Kind) → OneEnd {F = F} (picked_at (Fill n) k)
picked_at_once n (WordKind m) = then_once _ _ (λ w. done_once _) (picked_once n m)
picked_at_once n (NatKind m) = then_once _ _ (λ w. done_once _) (picked_once n m)
picked_at_once n (IntKind m) = then_once _ _ (λ w. done_once _) (picked_once n m)
picked_at_once n BoolKind = done_once _

pub picked_word_at_once : {F : Type 0} (n : ℕ) (k : Kind) → OneEnd {F = F} (picked_word_at (Fill n) k)
picked_word_at_once n (WordKind m) = picked_at_once n (WordKind m)
picked_word_at_once n (NatKind m) = picked_at_once n (WordKind m)
picked_word_at_once n (IntKind m) = picked_at_once n (WordKind m)
picked_word_at_once n BoolKind = picked_at_once n BoolKind
