-- Lists of five parts, of six and of seven.
use Rattle.std.proofs.Common.{◌≡◌, Option, Some, None, refl, ap, ◌∙◌}
use Rattle.ac_sx.specs.Tree.{Tree, Trees, no_trees, more}
use Rattle.program_text.specs.MonText.{four}
use Rattle.program_text.specs.MonReading.{four_of}
use Rattle.program_text.proofs.PartLaws.{four_is, four_same}
use Rattle.triple_text.specs.Parts.{before_four, five_of, before_five, six_of}

abbrev pub five : Tree → Tree → Tree → Tree → Tree → Trees
five a b c d e = more a (four b c d e)

abbrev pub six : Tree → Tree → Tree → Tree → Tree → Tree → Trees
six a b c d e f = more a (five b c d e f)

abbrev pub seven : Tree → Tree → Tree → Tree → Tree → Tree → Tree → Trees
seven a b c d e f g = more a (six b c d e f g)

pub five_same : {a b c d e i j k l m : Tree} → a ≡ i → b ≡ j → c ≡ k → d ≡ l → e ≡ m → five a b c d e ≡ five i j k l m
five_same {b = b} {c = c} {d = d} {e = e} {i = i} p q r s t = ap (λ x. five x b c d e) p ∙ ap (λ xs. more i xs) (four_same q r s t)

pub six_same : {a b c d e f i j k l m n : Tree} → a ≡ i → b ≡ j → c ≡ k → d ≡ l → e ≡ m → f ≡ n → six a b c d e f ≡ six i j k l m n
six_same {b = b} {c = c} {d = d} {e = e} {f = f} {i = i} p q r s t u = ap (λ x. six x b c d e f) p ∙ ap (λ xs. more i xs) (five_same q r s t u)

pub seven_same : {a b c d e f g i j k l m n o : Tree} → a ≡ i → b ≡ j → c ≡ k → d ≡ l → e ≡ m → f ≡ n → g ≡ o → seven a b c d e f g ≡ seven i j k l m n o
seven_same {b = b} {c = c} {d = d} {e = e} {f = f} {g = g} {i = i} p q r s t u v = ap (λ x. seven x b c d e f g) p ∙ ap (λ xs. more i xs) (six_same q r s t u v)

pub five_is : (ts : Trees) (x : Tree × Tree × Tree × Tree × Tree) → five_of ts ≡ Some x → ts ≡ five x.0 x.1 x.2 x.3 x.4
five_is no_trees x e = absurd cc
five_is (more t ts) x e = by (four_of ts) refl e
  where
    by : (o : Option (Tree × Tree × Tree × Tree)) → four_of ts ≡ o → before_four t o ≡ Some x → more t ts ≡ five x.0 x.1 x.2 x.3 x.4
    by None found f = absurd cc
    by (Some y) found f =
        let same : ◌≡◌ {A = Tree × Tree × Tree × Tree × Tree} (t, y.0, y.1, y.2, y.3) x = cc in
        ap (λ us. more t us) (four_is ts y found) ∙ ap (λ (z : Tree × Tree × Tree × Tree × Tree). five z.0 z.1 z.2 z.3 z.4) same

pub six_is : (ts : Trees) (x : Tree × Tree × Tree × Tree × Tree × Tree) → six_of ts ≡ Some x → ts ≡ six x.0 x.1 x.2 x.3 x.4 x.5
six_is no_trees x e = absurd cc
six_is (more t ts) x e = by (five_of ts) refl e
  where
    by : (o : Option (Tree × Tree × Tree × Tree × Tree)) → five_of ts ≡ o → before_five t o ≡ Some x → more t ts ≡ six x.0 x.1 x.2 x.3 x.4 x.5
    by None found f = absurd cc
    by (Some y) found f =
        let same : ◌≡◌ {A = Tree × Tree × Tree × Tree × Tree × Tree} (t, y.0, y.1, y.2, y.3, y.4) x = cc in
        ap (λ us. more t us) (five_is ts y found) ∙ ap (λ (z : Tree × Tree × Tree × Tree × Tree × Tree). six z.0 z.1 z.2 z.3 z.4 z.5) same
