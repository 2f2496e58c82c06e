-- The length of a comment, as a loop over the text finds it.
use Rattle.std.proofs.Common.{◌≡◌, ℕ, suc, ◌+◌, ◌<◌, false, ◌&&◌, cond, eqb, List, length, drop, get_or, Option, Some, None, refl, sym, ap, ◌∙◌, arith}
use Rattle.std.specs.Option.{option_map}
use Rattle.std.proofs.lemmas.List.{at_drop_more, get_or-drop}
use Rattle.c_lex.specs.Gap.{comment_length}

-- so many bytes more
abbrev pub later : ℕ → Option ℕ → Option ℕ
later i o = option_map (λ n. n + i) o

later_suc : (i : ℕ) (o : Option ℕ) → later i (option_map suc o) ≡ later (i + 1) o
later_suc i None = refl
later_suc i (Some n) = ap Some (omega arith)

-- one byte on inside a comment
comment_length-drop : (text : List ℕ) (i : ℕ) → i < length text → comment_length (drop i text) ≡ cond (eqb (get_or text i 0) 42 && eqb (get_or text (i + 1) 0) 47) (Some 2) (option_map suc (comment_length (drop (i + 1) text)))
comment_length-drop text i h =
    at_drop_more comment_length text i 0 h
    ∙ ap (λ b. cond (eqb (get_or text i 0) 42 && eqb b 47) (Some 2) (option_map suc (comment_length (drop (i + 1) text)))) (get_or-drop (i + 1) text 0 0 ∙ ap (λ k. get_or text k 0) (omega arith))

pub goes_on : (text : List ℕ) (i : ℕ) → i < length text → (eqb (get_or text i 0) 42 && eqb (get_or text (i + 1) 0) 47) ≡ false → later (i + 1) (comment_length (drop (i + 1) text)) ≡ later i (comment_length (drop i text))
goes_on text i h e =
    sym (later_suc i (comment_length (drop (i + 1) text)))
    ∙ ap (later i) (sym (comment_length-drop text i h ∙ ap (λ b. cond b (Some 2) (option_map suc (comment_length (drop (i + 1) text)))) e))
