-- The lines of functions, one after the other: those so far, and of the functions that are left.
use Rattle.std.proofs.Common.{◌≡◌, ℕ, zero, suc, ◌+◌, List, [], ◌∷◌, ◌++◌, map, length, ◌⊎◌, inl, inr, sym, ap, subst, ◌∙◌, arith, append_assoc}
use Rattle.std.specs.Prelude.{codes, if◌then◌else◌}
use Rattle.c_values.specs.Name.{Name}
use Rattle.expression_lang.specs.Sort.{Level}
use Rattle.expression_lang.specs.CodeExpression.{level_of}
use Rattle.expression_lang.specs.declared.sort.Level as E
use Rattle.c_lang.specs.Typed.{TypedFn}
use Rattle.c_levels.specs.CodeModes.{IsAt}
use Rattle.c_meaning.specs.Levels.{reason, is_on_bytes}
use Rattle.certificate_text.specs.CertificateText.{level_word}
use Rattle.checking.specs.Lines.{reason_text, function_line, function_lines}

-- these are the functions from a position on
abbrev pub AreFrom : List TypedFn → ℕ → List TypedFn → Type 0
AreFrom all zero rest = all ≡ rest
AreFrom [] (suc at) rest = ⊥
AreFrom (g ∷ gs) (suc at) rest = AreFrom gs at rest

head_is : (f g : TypedFn) (fs gs : List TypedFn) → g ∷ gs ≡ f ∷ fs → g ≡ f
head_is f g fs gs e = cc

pub first_is_at : (all : List TypedFn) (at : ℕ) (f : TypedFn) (rest : List TypedFn) → AreFrom all at (f ∷ rest) → IsAt all at f
first_is_at [] zero f rest e = absurd cc
first_is_at (g ∷ gs) zero f rest e = head_is f g rest gs e
first_is_at [] (suc at) f rest e = absurd e
first_is_at (g ∷ gs) (suc at) f rest e = first_is_at gs at f rest e

pub others_from : (all : List TypedFn) (at : ℕ) (f : TypedFn) (rest : List TypedFn) → AreFrom all at (f ∷ rest) → AreFrom all (suc at) rest
others_from [] zero f rest e = absurd cc
others_from (g ∷ gs) zero f rest e = cc
others_from [] (suc at) f rest e = absurd e
others_from (g ∷ gs) (suc at) f rest e = others_from gs at f rest e

pub next_from : (all : List TypedFn) (at : ℕ) (f : TypedFn) (rest : List TypedFn) → AreFrom all at (f ∷ rest) → AreFrom all (at + 1) rest
next_from all at f rest e = subst (λ k. AreFrom all k rest) (one at) (others_from all at f rest e)
  where
    one : (at : ℕ) → suc at ≡ at + 1
    one at = omega arith

pub length_from : (all : List TypedFn) (at : ℕ) (rest : List TypedFn) → AreFrom all at rest → at + length rest ≡ length all
length_from all zero rest e = let l = ap length e in omega (arith, l)
length_from [] (suc at) rest e = absurd e
length_from (g ∷ gs) (suc at) rest e = omega (arith, length_from gs at rest e)

-- what is written so far, and the levels of those that are left
pub record AreWritten (levels : Name → Level) (all rest : List TypedFn) (left : List Level) (lines : List ℕ) : Type 0 where
  pub left_are : map (λ (f : TypedFn). levels f.name) rest ≡ left
  pub whole : lines ++ function_lines levels rest ≡ function_lines levels all

pub level_is : {X : Type 0} (x y : X) (xs ys : List X) → x ∷ xs ≡ y ∷ ys → x ≡ y
level_is x y xs ys e = cc

pub levels_are : {X : Type 0} (x y : X) (xs ys : List X) → x ∷ xs ≡ y ∷ ys → xs ≡ ys
levels_are x y xs ys e = cc

module _ (levels : Name → Level) (all : List TypedFn) (f : TypedFn) (rest : List TypedFn) (k : Level) (ks : List Level) (lines : List ℕ) where
  pub one_more : AreWritten levels all (f ∷ rest) (k ∷ ks) lines → (more : List ℕ) → more ≡ lines ++ function_line levels f → AreWritten levels all rest ks more
  one_more h more e = record {
    left_are = levels_are (levels f.name) k (map (λ (g : TypedFn). levels g.name) rest) ks h.left_are;
    whole =
        ap (λ x. x ++ function_lines levels rest) e ∙ append_assoc lines (function_line levels f) (function_lines levels rest)
        ∙ h.whole;
  }

-- A function's line, piece by piece.

six : (a b c d e f : List ℕ) → ((((a ++ b) ++ c) ++ d) ++ e) ++ f ≡ a ++ (b ++ (c ++ (d ++ (e ++ f))))
six a b c d e f =
    append_assoc (((a ++ b) ++ c) ++ d) e f ∙ append_assoc ((a ++ b) ++ c) d (e ++ f) ∙ append_assoc (a ++ b) c (d ++ (e ++ f))
    ∙ append_assoc a b (c ++ (d ++ (e ++ f)))

-- what stands behind the word of a level
abbrev pub reason_at : (Name → Level) → TypedFn → Level → List ℕ
reason_at levels f k = if is_on_bytes k then reason_text (reason levels f) else []

pub line_whole : (levels : Name → Level) (f : TypedFn) (k : Level) (before named spaced worded reasoned after : List ℕ) → named ≡ before ++ f.name →
    spaced ≡ named ++ codes " " → worded ≡ spaced ++ level_word k → reasoned ≡ worded ++ reason_at levels f k → after ≡ reasoned ++ codes "\n" →
    levels f.name ≡ k → after ≡ before ++ function_line levels f
line_whole levels f k before named spaced worded reasoned after a b c d e level =
    e ∙ ap (λ x. x ++ codes "\n") (d ∙ ap (λ x. x ++ reason_at levels f k) (c ∙ ap (λ x. x ++ level_word k) (b ∙ ap (λ x. x ++ codes " ") a)))
    ∙ six before f.name (codes " ") (level_word k) (reason_at levels f k) (codes "\n")
    ∙ ap (λ l. before ++ (f.name ++ (codes " " ++ (level_word l ++ (reason_at levels f l ++ codes "\n"))))) (sym level)

pub with_reason : (levels : Name → Level) (f : TypedFn) (k : E.Level) → k ≡ E.TheVariants.Bytes → reason_text (reason levels f) ≡ reason_at levels f (level_of k)
with_reason levels f k e = ap (λ j. reason_at levels f (level_of j)) (sym e)

pub no_reason : (levels : Name → Level) (f : TypedFn) (k : E.Level) → (k ≡ E.TheVariants.Words) ⊎ (k ≡ E.TheVariants.Numbers) → [] ≡ reason_at levels f (level_of k)
no_reason levels f k (inl e) = ap (λ j. reason_at levels f (level_of j)) (sym e)
no_reason levels f k (inr e) = ap (λ j. reason_at levels f (level_of j)) (sym e)
