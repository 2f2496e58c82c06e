-- Words that are looked up.
use Rattle.std.proofs.Common.{◌≡◌, ◌≢◌, Bool, true, false, List, [], ◌∷◌, Option, Some, None, refl, ap, sym, ◌∙◌, if◌then◌else◌}
use Rattle.std.specs.Prelude.{IfSome, IfNone, option_map}
use Rattle.std.proofs.lemmas.Slice.Eq.{bytes_eq-Decides}
use Rattle.c_values.specs.Name.{Name, same_name}
use Rattle.expression_text.specs.Words.{looked_up}

pub name_is : (x y : Name) → same_name x y ≡ true → x ≡ y
name_is x y e = (bytes_eq-Decides x y).0 e

pub name_same : (x y : Name) → x ≡ y → same_name x y ≡ true
name_same x y e = (bytes_eq-Decides x y).1 e

looked_up_at : {A : Type 0} (word : A → Name) (b : A) (bs : List A) (w : Name) (a : A) (t : Bool) → same_name (word b) w ≡ t → (if t then Some b else looked_up word bs w) ≡ Some a → (looked_up word bs w ≡ Some a → word a ≡ w) → word a ≡ w
looked_up_at word b bs w a true s f again = let same : b ≡ a = cc in ap word (sym same) ∙ name_is (word b) w s
looked_up_at word b bs w a false s f again = again f

-- what is looked up has the word
pub looked_up_is : {A : Type 0} (word : A → Name) (all : List A) (w : Name) (a : A) → looked_up word all w ≡ Some a → word a ≡ w
looked_up_is word [] w a e = absurd cc
looked_up_is word (b ∷ bs) w a e = looked_up_at word b bs w a (same_name (word b) w) refl e (looked_up_is word bs w a)

-- each is looked up by its word
abbrev pub AreFound : {A : Type 0} → (A → Name) → List A → Type 0
AreFound {A} word all = (a : A) → looked_up word all (word a) ≡ Some a

-- a word is looked up where it is that of one, and there is none where it is that of none
pub looked_up_from : {A X : Type 0} (word : A → Name) (all : List A) (view : X → A) (w : Name) (o : Option X) → AreFound word all → IfSome o (λ x. w ≡ word (view x)) → IfNone o ((a : A) → w ≢ word a) → option_map view o ≡ looked_up word all w
looked_up_from word all view w (Some x) found is none = sym (ap (looked_up word all) is ∙ found (view x))
looked_up_from {A} word all view w None found is none = at (looked_up word all w) refl
  where
    at : (r : Option A) → looked_up word all w ≡ r → None ≡ r
    at None e = refl
    at (Some a) e = absurd (none a (sym (looked_up_is word all w a e)))
