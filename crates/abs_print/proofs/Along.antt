-- What is written so far, and what is left.
use Rattle.std.proofs.Common.{◌≡◌, List, [], ◌∷◌, ◌++◌, ap, sym, ◌∙◌, append_assoc}
use Rattle.std.proofs.lemmas.List.{append-nil}
use Rattle.abs_print.specs.declared.endings.Ending as R
use Rattle.abs_print.specs.Texts.{Text}
use Rattle.abs_print.specs.CodeEndings.{ending_text, endings_text}

-- one ending more
pub endings_push : (xs : List R.Ending) (x : R.Ending) → endings_text (xs ++ x ∷ []) ≡ ending_text x ++ endings_text xs
endings_push [] x = sym (append-nil (ending_text x))
endings_push (y ∷ ys) x = ap (λ t. t ++ ending_text y) (endings_push ys x) ∙ append_assoc (ending_text x) (endings_text ys) (ending_text y)

-- an ending is written, and the others are left
pub ending_written : (out written whole : Text) (all rest : List R.Ending) (x : R.Ending) → out ++ endings_text all ≡ whole →
    all ≡ rest ++ x ∷ [] → written ≡ out ++ ending_text x → written ++ endings_text rest ≡ whole
ending_written out written whole all rest x so_far last e =
    ap (λ t. t ++ endings_text rest) e
    ∙ append_assoc out (ending_text x) (endings_text rest)
    ∙ ap (λ t. out ++ t) (sym (ap endings_text last ∙ endings_push rest x))
    ∙ so_far

-- a front is written, its last part is left, and its ending is put aside
pub ending_put_aside : (out written part last whole : Text) (others all : List R.Ending) (x : R.Ending) → out ++ (part ++ endings_text others) ≡ whole →
    all ≡ others ++ x ∷ [] → written ++ (last ++ ending_text x) ≡ out ++ part → written ++ (last ++ endings_text all) ≡ whole
ending_put_aside out written part last whole others all x so_far pushed e =
    ap (λ t. written ++ (last ++ t)) (ap endings_text pushed ∙ endings_push others x)
    ∙ ap (λ t. written ++ t) (sym (append_assoc last (ending_text x) (endings_text others)))
    ∙ sym (append_assoc written (last ++ ending_text x) (endings_text others))
    ∙ ap (λ t. t ++ endings_text others) e
    ∙ append_assoc out part (endings_text others)
    ∙ so_far

-- a front, with what stands behind it
pub front_written : (out written front behind part : Text) → written ≡ out ++ front → part ≡ front ++ behind → written ++ behind ≡ out ++ part
front_written out written front behind part e f = ap (λ t. t ++ behind) e ∙ append_assoc out front behind ∙ ap (λ t. out ++ t) (sym f)

-- all of it is written but for the endings put aside
pub all_written : (out written front part whole : Text) (all : List R.Ending) → out ++ (part ++ endings_text all) ≡ whole →
    written ≡ out ++ front → part ≡ front ++ [] → written ++ endings_text all ≡ whole
all_written out written front part whole all so_far e f =
    ap (λ t. t ++ endings_text all) e
    ∙ append_assoc out front (endings_text all)
    ∙ ap (λ t. out ++ (t ++ endings_text all)) (sym (f ∙ append-nil front))
    ∙ so_far

-- what stands behind a part that was written
pub behind_pushed : (old written part behind : Text) → written ≡ old ++ part → written ++ behind ≡ old ++ (part ++ behind)
behind_pushed old written part behind e = ap (λ t. t ++ behind) e ∙ append_assoc old part behind
