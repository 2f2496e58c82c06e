-- Lines at a margin: one after the other, two spaces deeper, and with names before the first.
use Rattle.std.proofs.Common.{◌≡◌, List, [], ◌∷◌, ◌++◌, refl, ap, sym, ◌∙◌, append_assoc}
use Rattle.std.specs.Prelude.{codes}
use Rattle.c_values.specs.Name.{Name}
use Rattle.monad_lang.specs.Program.{Mon, Ret, Bind, Guard, If, Write, Loop, Call, Pick}
use Rattle.abs_print.specs.Texts.{Text}
use Rattle.abs_print.specs.Programs.{names_text, deeper, named, as_step, lines, lines_text}
use Rattle.abs_print.specs.CodeLines.{at_margin, going_on, IsStep, IsPlain, first_line}

pub margin_append : (margin : Text) (ls ks : List Text) → at_margin margin (ls ++ ks) ≡ at_margin margin ls ++ at_margin margin ks
margin_append margin [] ks = refl
margin_append margin (l ∷ ls) ks =
    ap (λ t. margin ++ (l ++ (codes "\n" ++ t))) (margin_append margin ls ks)
    ∙ ap (λ t. margin ++ t) (sym (append_assoc l (codes "\n" ++ at_margin margin ls) (at_margin margin ks)))
    ∙ sym (append_assoc margin (l ++ (codes "\n" ++ at_margin margin ls)) (at_margin margin ks))

pub margin_deeper : (margin : Text) (ls : List Text) → at_margin margin (deeper ls) ≡ at_margin (margin ++ codes "  ") ls
margin_deeper margin [] = refl
margin_deeper margin (l ∷ ls) =
    ap (λ t. margin ++ (codes "  " ++ (l ++ (codes "\n" ++ t)))) (margin_deeper margin ls)
    ∙ sym (append_assoc margin (codes "  ") (l ++ (codes "\n" ++ at_margin (margin ++ codes "  ") ls)))

pub margin_none : (ls : List Text) → lines_text ls ≡ at_margin [] ls
margin_none [] = refl
margin_none (l ∷ ls) = ap (λ t. l ++ (codes "\n" ++ t)) (margin_none ls)

-- a first line
named_first : (margin : Text) (xs : List Name) (l : Text) (ls : List Text) →
    at_margin margin (named xs (l ∷ ls)) ≡ margin ++ (names_text xs ++ going_on margin (l ∷ ls))
named_first margin xs l ls = ap (λ t. margin ++ t) (append_assoc (names_text xs) l (codes "\n" ++ at_margin margin ls))

-- a step with names before it
pub margin_named : (margin : Text) (xs : List Name) (m : Mon) →
    at_margin margin (named xs (as_step m (lines m))) ≡ margin ++ (names_text xs ++ going_on margin (as_step m (lines m)))
margin_named margin xs (Ret es) = named_first margin xs _ []
margin_named margin xs (Bind m ys n) = named_first margin xs _ _
margin_named margin xs (Guard e) = named_first margin xs _ []
margin_named margin xs (If e m n) = named_first margin xs _ _
margin_named margin xs (Write place e) = named_first margin xs _ []
margin_named margin xs (Loop starts guard test m) = named_first margin xs _ _
margin_named margin xs (Call f es) = named_first margin xs _ []
margin_named margin xs (Pick k) = named_first margin xs _ []

-- a sequence: its first step, and what is left
pub margin_bind : (margin : Text) (m : Mon) (xs : List Name) (n : Mon) →
    at_margin margin (lines (Bind m xs n)) ≡ margin ++ (names_text xs ++ (going_on margin (as_step m (lines m)) ++ at_margin margin (lines n)))
margin_bind margin m xs n =
    margin_append margin (named xs (as_step m (lines m))) (lines n)
    ∙ ap (λ t. t ++ at_margin margin (lines n)) (margin_named margin xs m)
    ∙ append_assoc margin (names_text xs ++ going_on margin (as_step m (lines m))) (at_margin margin (lines n))
    ∙ ap (λ t. margin ++ t) (append_assoc (names_text xs) (going_on margin (as_step m (lines m))) (at_margin margin (lines n)))

-- the lines of a choice behind the first one
pub margin_choice : (margin : Text) (ls ks : List Text) →
    at_margin margin (deeper ls ++ codes "else" ∷ deeper ks) ≡ at_margin margin (deeper ls) ++ (margin ++ (codes "else\n" ++ at_margin margin (deeper ks)))
margin_choice margin ls ks = margin_append margin (deeper ls) (codes "else" ∷ deeper ks)

-- a program that is no sequence begins with one line
pub margin_step : (margin : Text) (m : Mon) → IsStep m → at_margin margin (lines m) ≡ margin ++ going_on margin (lines m)
margin_step margin (Bind m ys n) h = absurd h
margin_step _ _ _ = refl

-- one without programs inside is one line
pub plain_lines : (margin : Text) (m : Mon) → IsPlain m → going_on margin (lines m) ≡ first_line (lines m) ++ codes "\n"
plain_lines margin (Bind m ys n) h = absurd h
plain_lines margin (If e m n) h = absurd h
plain_lines margin (Loop starts guard test m) h = absurd h
plain_lines _ _ _ = refl

pub function_lines : (ls : List Text) → lines_text (deeper ls) ≡ at_margin (codes "  ") ls
function_lines ls = margin_none (deeper ls) ∙ margin_deeper [] ls

-- the first step of a sequence is written
pub step_written : (margin out with_margin with_names written whole new : Text) (m : Mon) (xs : List Name) (n : Mon) →
    out ++ at_margin margin (lines (Bind m xs n)) ≡ whole → with_margin ≡ out ++ margin → with_names ≡ with_margin ++ names_text xs →
    written ≡ with_names ++ going_on margin (as_step m (lines m)) → new ≡ margin → written ++ at_margin new (lines n) ≡ whole
step_written margin out with_margin with_names written whole new m xs n so_far e f g h =
    ap (λ t. written ++ at_margin t (lines n)) h
    ∙ ap (λ t. t ++ at_margin margin (lines n)) (g ∙ ap (λ t. t ++ going_on margin (as_step m (lines m))) (f ∙ ap (λ t. t ++ names_text xs) e))
    ∙ append_assoc ((out ++ margin) ++ names_text xs) (going_on margin (as_step m (lines m))) (at_margin margin (lines n))
    ∙ append_assoc (out ++ margin) (names_text xs) (going_on margin (as_step m (lines m)) ++ at_margin margin (lines n))
    ∙ append_assoc out margin (names_text xs ++ (going_on margin (as_step m (lines m)) ++ at_margin margin (lines n)))
    ∙ ap (λ t. out ++ t) (sym (margin_bind margin m xs n))
    ∙ so_far
