-- Of one text there is one cause alone, and where there is one, the recogniser tells it.
use Rattle.std.proofs.Common.{◌≡◌, ℕ, ◌+◌, ◌<◌, ◌≤◌, List, [], ◌∷◌, ◌++◌, length, take, drop, Option, None, Some, Result, Ok, Err, ◌⊎◌, inl, inr, refl, ap, sym, subst, ◌∙◌, arith}
use Rattle.std.specs.Prelude.{nat_lt, if◌then◌else◌}
use Rattle.std.proofs.lemmas.Bool.{cases_lt, cases_order, le-ltb, cond-false}
use Rattle.std.proofs.lemmas.List.{take-take, take-append-drop}
use Rattle.ac_sx.specs.declared.recogniser.Place.TheVariants.{Whole}
use Rattle.ac_sx.specs.declared.recogniser.Reading.{Reading}
use Rattle.ac_sx.specs.declared.fault.SxFault.{SxFault}
use Rattle.ac_sx.specs.declared.fault.SxFault.TheVariants.{NotText, Deep, Memory}
use Rattle.ac_sx.specs.Tree.{Tree, IsTree, file, depth, deepest}
use Rattle.ac_sx.specs.Front.{IsFront, nesting, OpensTooDeep}
use Rattle.ac_sx.specs.CodeRecogniser.{reading, step, ended, recognised_from, recognised}
use Rattle.ac_sx.specs.Answer.{IsNoText}
use Rattle.ac_sx.proofs.Walked.{after}
use Rattle.ac_sx.proofs.Fronts.{start, after_parts, file_passes, front_shorter}
use Rattle.ac_sx.proofs.Told.{Told}

front_up_to : (text : List ℕ) (m n : ℕ) → m ≤ n → IsFront (take n text) → IsFront (take m text)
front_up_to text m n le front =
    let parts : take m text ++ drop m (take n text) ≡ take n text = ap (λ x. x ++ drop m (take n text)) (sym (take-take m n text le)) ∙ take-append-drop m (take n text) in
    front_shorter (take m text) (drop m (take n text)) (subst IsFront (sym parts) front)

breaks_before : (text : List ℕ) (a b : ℕ) → IsNoText text a → IsNoText text b → a < b → ⊥
breaks_before text a b (x, _) (y, _) lt =
    let within = y.within in
    x.no_further (omega arith) (front_up_to text (a + 1) b (omega arith) y.front)

pub one_break : (text : List ℕ) (a b : ℕ) → IsNoText text a → IsNoText text b → a ≡ b
one_break text a b x y = elim (cases_order a b) [
  | inl same ↦ same
  | inr other ↦ elim other [ inl lt ↦ absurd (breaks_before text a b x y lt) | inr gt ↦ absurd (breaks_before text b a y x gt) ]
]

shallow_before : (text : List ℕ) (k n : ℕ) → k ≤ n → ((i : ℕ) → nesting (take i (take n text)) ≤ deepest) → nesting (take k text) ≤ deepest
shallow_before text k n le shallow = subst (λ x. nesting x ≤ deepest) (take-take k n text le) (shallow k)

pub break_or_deep : (text : List ℕ) (a b : ℕ) → IsNoText text a → OpensTooDeep text b → ⊥
break_or_deep text a b (x, shallow) y = elim (cases_lt b a) [
  | inl lt ↦ let here = shallow_before text (b + 1) a (omega arith) shallow in let deep = y.deep in omega (arith, here, deep)
  | inr le ↦ let within = y.within in x.no_further (omega arith) (front_up_to text (a + 1) (b + 1) (omega arith) y.front)
]

deep_before : (text : List ℕ) (a b : ℕ) → OpensTooDeep text a → OpensTooDeep text b → a < b → ⊥
deep_before text a b x y lt = let here = shallow_before text (a + 1) b (omega arith) y.shallow in let deep = x.deep in omega (arith, here, deep)

pub one_deep : (text : List ℕ) (a b : ℕ) → OpensTooDeep text a → OpensTooDeep text b → a ≡ b
one_deep text a b x y = elim (cases_order a b) [
  | inl same ↦ same
  | inr other ↦ elim other [ inl lt ↦ absurd (deep_before text a b x y lt) | inr gt ↦ absurd (deep_before text b a y x gt) ]
]

-- the answer is this fault, or want of memory
abbrev pub IsFault : Result (Unit {0}) SxFault → SxFault → Type 0
IsFault (Ok x) fault = ⊥
IsFault (Err e) fault = (e ≡ fault) ⊎ (e ≡ Memory)

pub broken_is_told : (text : List ℕ) (r : Result (Unit {0}) SxFault) (at : ℕ) → Told text r → IsNoText text at → IsFault r (NotText at)
broken_is_told text (Ok x) at told cause = cause.0.no_file told.0
broken_is_told text (Err (NotText k)) at told cause = inl (ap NotText (one_break text k at told cause))
broken_is_told text (Err (Deep k)) at told cause = absurd (break_or_deep text at k cause told)
broken_is_told text (Err Memory) at told cause = inr refl

pub deep_is_told : (text : List ℕ) (r : Result (Unit {0}) SxFault) (at : ℕ) → Told text r → OpensTooDeep text at → IsFault r (Deep at)
deep_is_told text (Ok x) at told cause = let here = told.1 (at + 1) in let deep = cause.deep in omega (arith, here, deep)
deep_is_told text (Err (NotText k)) at told cause = absurd (break_or_deep text k at told cause)
deep_is_told text (Err (Deep k)) at told cause = inl (ap Deep (one_deep text k at told cause))
deep_is_told text (Err Memory) at told cause = inr refl

recognised_step : (r : Reading) (at b : ℕ) (bs : List ℕ) (next : Reading) → step r b ≡ Some next → next.lists ≤ deepest → recognised_from r at (b ∷ bs) ≡ recognised_from next (at + 1) bs
recognised_step r at b bs next s le =
    ap (λ (o : Option Reading). elim o as (λ _. Result (Unit {0}) SxFault) [ None ↦ Err (NotText at) | Some x ↦ if nat_lt deepest x.lists then Err (Deep at) else recognised_from x (at + 1) bs ]) s
    ∙ cond-false (nat_lt deepest next.lists) (Err (Deep at)) (recognised_from next (at + 1) bs) (le-ltb deepest next.lists le)

passed_is_recognised : (r : Reading) (at : ℕ) (bs : List ℕ) (x : Reading) → after deepest r bs ≡ Some x → recognised_from r at bs ≡ ended (at + length bs) x.place
passed_is_recognised r at [] x e = let same : r ≡ x = cc in let none : at ≡ at + 0 = omega arith in ap (λ (z : Reading). ended at z.place) same ∙ ap (λ n. ended n x.place) none
passed_is_recognised r at (b ∷ bs) x e =
    let (next, s, le, rest) = after_parts deepest r b bs x e in
    let longer : at + 1 + length bs ≡ at + length (b ∷ bs) = omega arith in
    recognised_step r at b bs next s le ∙ passed_is_recognised next (at + 1) bs x rest ∙ ap (λ n. ended n x.place) longer

pub file_is_recognised : (t : Tree) → IsTree t → depth t ≤ deepest → recognised (file t) ≡ Ok tt
file_is_recognised t is le = passed_is_recognised start 0 (file t) (reading Whole 0) (file_passes deepest t is le)
