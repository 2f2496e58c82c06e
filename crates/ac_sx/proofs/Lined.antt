-- What the recogniser says of a text in two parts.
use Rattle.std.proofs.Common.{◌≡◌, ℕ, ◌+◌, ◌==◌, Bool, true, false, nat_lt, List, [], ◌∷◌, ◌++◌, length, Option, None, Some, Result, Ok, Err, is_some, ◌⊎◌, inl, inr, refl, ap, sym, ◌∙◌, true≢false, if◌then◌else◌, arith}
use Rattle.std.specs.Result.{IsErrAnd}
use Rattle.std.proofs.lemmas.List.{append-nil}
use Rattle.ac_sx.specs.declared.recogniser.Place.{Place}
use Rattle.ac_sx.specs.declared.recogniser.Place.TheVariants.{Begin, Word, Ended, Whole}
use Rattle.ac_sx.specs.declared.recogniser.Reading.{Reading}
use Rattle.ac_sx.specs.declared.fault.SxFault.{SxFault}
use Rattle.ac_sx.specs.declared.fault.SxFault.TheVariants.{NotText, Deep}
use Rattle.ac_sx.specs.Tree.{deepest, line_end}
use Rattle.ac_sx.specs.CodeRecogniser.{reading, step, step_at, ended, recognised_from, recognised}
use Rattle.ac_sx.specs.CodeLine.{reached_from, reached}

abbrev go_on : ℕ → List ℕ → Result Reading SxFault → Result (Unit {0}) SxFault
go_on at rest (Ok r) = recognised_from r at rest
go_on at rest (Err fault) = Err fault

recognised_on : (r : Reading) (at : ℕ) (bs rest : List ℕ) → recognised_from r at (bs ++ rest) ≡ go_on (at + length bs) rest (reached_from r at bs)
recognised_on r at [] rest = let none : at ≡ at + 0 = omega arith in ap (λ n. recognised_from r n rest) none
recognised_on r at (b ∷ bs) rest = by_step (step r b) (λ next. recognised_on next (at + 1) bs rest)
  where
    longer : at + 1 + length bs ≡ at + length (b ∷ bs)
    longer = omega arith

    by_depth : (next : Reading) → recognised_from next (at + 1) (bs ++ rest) ≡ go_on (at + 1 + length bs) rest (reached_from next (at + 1) bs) → (t : Bool) →
        (if t then Err (Deep at) else recognised_from next (at + 1) (bs ++ rest)) ≡ go_on (at + length (b ∷ bs)) rest (if t then Err (Deep at) else reached_from next (at + 1) bs)
    by_depth next h true = refl
    by_depth next h false = h ∙ ap (λ n. go_on n rest (reached_from next (at + 1) bs)) longer

    by_step : (o : Option Reading) → ((next : Reading) → recognised_from next (at + 1) (bs ++ rest) ≡ go_on (at + 1 + length bs) rest (reached_from next (at + 1) bs)) →
        (elim o as (λ _. Result (Unit {0}) SxFault) [ None ↦ Err (NotText at) | Some next ↦ if nat_lt deepest next.lists then Err (Deep at) else recognised_from next (at + 1) (bs ++ rest) ])
        ≡ go_on (at + length (b ∷ bs)) rest (elim o as (λ _. Result Reading SxFault) [ None ↦ Err (NotText at) | Some next ↦ if nat_lt deepest next.lists then Err (Deep at) else reached_from next (at + 1) bs ])
    by_step None h = refl
    by_step (Some next) h = by_depth next (h next) (nat_lt deepest next.lists)

err_is : (r x : Result (Unit {0}) SxFault) (fault : SxFault) → IsErrAnd r (λ e. e ≡ fault) → x ≡ Err fault → r ≡ x
err_is (Ok u) x fault h e = absurd h
err_is (Err f) x fault h e = ap (λ f. Err f) h ∙ sym e

reached_on : (text rest : List ℕ) (x : Result Reading SxFault) → x ≡ reached text → recognised (text ++ rest) ≡ go_on (length text) rest x
reached_on text rest x e =
    let none : 0 + length text ≡ length text = omega arith in
    recognised_on (reading Begin 0) 0 text rest ∙ ap (λ n. go_on n rest (reached text)) none ∙ ap (go_on (length text) rest) (sym e)

pub line_refused : (text rest : List ℕ) (x : Result Reading SxFault) (r : Result (Unit {0}) SxFault) (fault : SxFault) → x ≡ reached text → x ≡ Err fault → IsErrAnd r (λ e. e ≡ fault) → r ≡ recognised (text ++ rest)
line_refused text rest x r fault e is h = err_is r (recognised (text ++ rest)) fault h (reached_on text rest x e ∙ ap (go_on (length text) rest) is)

pub text_refused : (text : List ℕ) (x : Result Reading SxFault) (r : Result (Unit {0}) SxFault) (fault : SxFault) → x ≡ reached text → x ≡ Err fault → IsErrAnd r (λ e. e ≡ fault) → r ≡ recognised text
text_refused text x r fault e is h = line_refused text [] x r fault e is h ∙ ap recognised (append-nil text)

pub text_ended : (text : List ℕ) (x : Result Reading SxFault) (r : Reading) → x ≡ reached text → x ≡ Ok r → ended (length text) r.place ≡ recognised text
text_ended text x r e is = sym (ap (go_on (length text) []) is) ∙ sym (reached_on text [] x e) ∙ ap recognised (append-nil text)

-- what the line's end does
line_ends : (place : Place) (n : ℕ) → (step_at place n line_end ≡ None) ⊎ (step_at place n line_end ≡ Some (reading Whole 0))
line_ends place n = at_place place (n == 0)
  where
    ends_at : (t : Bool) → ((if t then Some (reading Whole 0) else None) ≡ None) ⊎ ((if t then Some (reading Whole 0) else None) ≡ Some (reading Whole 0))
    ends_at true = inr refl
    ends_at false = inl refl

    at_place : (p : Place) → Bool → (step_at p n line_end ≡ None) ⊎ (step_at p n line_end ≡ Some (reading Whole 0))
    at_place Word t = ends_at (n == 0)
    at_place Ended t = ends_at (n == 0)
    at_place _ _ = inl refl

abbrev stepped : Option Reading → ℕ → Result (Unit {0}) SxFault
stepped o at = elim o [ None ↦ Err (NotText at) | Some next ↦ if nat_lt deepest next.lists then Err (Deep at) else recognised_from next (at + 1) [] ]

pub line_ended : (text : List ℕ) (x : Result Reading SxFault) (r : Reading) → x ≡ reached text → x ≡ Ok r → is_some (step r line_end) ≡ true → Ok tt ≡ recognised (text ++ line_end ∷ [])
line_ended text x r e is some = elim (line_ends r.place r.lists) [
  | inl none ↦ absurd (true≢false (sym some ∙ ap is_some none))
  | inr whole ↦ sym (reached_on text (line_end ∷ []) x e ∙ ap (go_on (length text) (line_end ∷ [])) is ∙ ap (λ o. stepped o (length text)) whole)
]

pub line_broken : (text : List ℕ) (x : Result Reading SxFault) (r : Reading) → x ≡ reached text → x ≡ Ok r → is_some (step r line_end) ≡ false → Err (NotText (length text)) ≡ recognised (text ++ line_end ∷ [])
line_broken text x r e is none_there = elim (line_ends r.place r.lists) [
  | inl none ↦ sym (reached_on text (line_end ∷ []) x e ∙ ap (go_on (length text) (line_end ∷ [])) is ∙ ap (λ o. stepped o (length text)) none)
  | inr whole ↦ absurd (true≢false (sym (ap is_some whole) ∙ none_there))
]
