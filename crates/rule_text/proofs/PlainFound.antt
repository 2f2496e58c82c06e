-- Rules without data are looked up by their words.
use Rattle.std.proofs.Common.{◌≡◌, ◌≢◌, Bool, true, false, List, [], ◌∷◌, Option, Some, None, refl, ap, sym, ◌∙◌, if◌then◌else◌}
use Rattle.std.specs.Prelude.{IfSome, IfNone, option_map}
use Rattle.std.proofs.lemmas.Bool.{and_parts}
use Rattle.c_values.specs.Name.{Name, same_name}
use Rattle.expression_text.specs.Words.{looked_up}
use Rattle.expression_text.specs.Lists.{each}
use Rattle.expression_text.proofs.LookedUp.{looked_up_is}

-- what is looked up is among the rules
pub looked_up_among : {A : Type 0} (word : A → Name) (test : A → Bool) (all : List A) (w : Name) (a : A) → each test all ≡ true → looked_up word all w ≡ Some a → test a ≡ true
looked_up_among word test [] w a are e = absurd cc
looked_up_among {A} word test (b ∷ bs) w a are e =
    let p = and_parts (test b) (each test bs) are in
    at (same_name (word b) w) e p.0 (λ f. looked_up_among word test bs w a p.1 f)
  where
    at : (t : Bool) → (if t then Some b else looked_up word bs w) ≡ Some a → test b ≡ true → (looked_up word bs w ≡ Some a → test a ≡ true) → test a ≡ true
    at true f here others = let same : b ≡ a = cc in ap test (sym same) ∙ here
    at false f here others = others f

pub plain_found : {A X : Type 0} (word : A → Name) (test : A → Bool) (all : List A) (view : X → A) (w : Name) (o : Option X) → ((a : A) → test a ≡ true → looked_up word all (word a) ≡ Some a) → each test all ≡ true →
    IfSome o (λ x. (w ≡ word (view x)) × (test (view x) ≡ true)) → IfNone o ((a : A) → test a ≡ true → w ≢ word a) → option_map view o ≡ looked_up word all w
plain_found word test all view w (Some x) found are is none = sym (ap (looked_up word all) is.0 ∙ found (view x) is.1)
plain_found {A} word test all view w None found are is none = at (looked_up word all w) refl
  where
    at : (r : Option A) → looked_up word all w ≡ r → None ≡ r
    at None e = refl
    at (Some a) e = absurd (none a (looked_up_among word test all w a are e) (sym (looked_up_is word all w a e)))
