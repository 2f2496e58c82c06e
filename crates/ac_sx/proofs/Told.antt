-- The recogniser's answer has its cause, and of one text there is one cause alone.
use Rattle.std.proofs.Common.{◌≡◌, ℕ, ◌+◌, ◌<◌, ◌≤◌, Bool, true, false, List, [], ◌∷◌, ◌++◌, length, take, Option, Some, None, Result, Ok, Err, inl, inr, refl, ap, sym, subst, ◌∙◌, append_assoc, arith}
use Rattle.std.specs.Prelude.{nat_lt, if◌then◌else◌}
use Rattle.std.proofs.lemmas.Bool.{ltb-true, ltb-false, cases_lt}
use Rattle.std.proofs.lemmas.List.{append-nil, length-append, take_at, take_all, take-append-le}
use Rattle.ac_sx.specs.declared.recogniser.Place.{Place}
use Rattle.ac_sx.specs.declared.recogniser.Place.TheVariants.{Begin, Opened, Word, Ended, Whole}
use Rattle.ac_sx.specs.declared.recogniser.Reading.{Reading}
use Rattle.ac_sx.specs.declared.fault.SxFault.{SxFault}
use Rattle.ac_sx.specs.declared.fault.SxFault.TheVariants.{NotText, Deep}
use Rattle.ac_sx.specs.Tree.{depth, deepest}
use Rattle.ac_sx.specs.Front.{IsFile, IsFront, nesting, IsShallow, OpensTooDeep}
use Rattle.ac_sx.specs.CodeRecogniser.{reading, step, ended, recognised_from, recognised}
use Rattle.ac_sx.specs.Answer.{IsNoText, IsFaultOf}
use Rattle.ac_sx.proofs.Reached.{Reached, StandsAt, reached_next}
use Rattle.ac_sx.proofs.Walked.{after, after_step}
use Rattle.ac_sx.proofs.Fronts.{start, after_parts, after_front, after_agrees, file_passes, front_passes, reached, front_shorter, front_of_file, reached_front}

-- the recogniser gets there
abbrev pub Passes : List ℕ → Reading → Type 0
Passes text r = (most : ℕ) × (after most start text ≡ Some r)

one_more : (most : ℕ) (r s : Reading) (bs : List ℕ) (b : ℕ) (next : Reading) → after most s bs ≡ Some r → step r b ≡ Some next → next.lists ≤ most → after most s (bs ++ b ∷ []) ≡ Some next
one_more most r s [] b next e f le = let same : s ≡ r = cc in after_step most s b [] next (ap (λ z. step z b) same ∙ f) le
one_more most r s (c ∷ cs) b next e f le =
    let (t, g, within, rest) = after_parts most s c cs r e in
    after_step most s c (cs ++ b ∷ []) t g within ∙ one_more most r t cs b next rest f le

raised : (m k : ℕ) (r : Reading) (bs : List ℕ) (x : Reading) → m ≤ k → after m r bs ≡ Some x → after k r bs ≡ Some x
raised m k r [] x le e = e
raised m k r (b ∷ bs) x le e =
    let (next, s, within, rest) = after_parts m r b bs x e in
    after_step k r b bs next s (omega arith) ∙ raised m k next bs x le rest

passes_next : (text : List ℕ) (r : Reading) (b : ℕ) (next : Reading) → Passes text r → step r b ≡ Some next → Passes (text ++ b ∷ []) next
passes_next text r b next (most, e) f = (most + next.lists, one_more (most + next.lists) r start text b next (raised most (most + next.lists) start text r (omega arith) e) f (omega arith))

-- where no step leads on, no file does
no_front : (text : List ℕ) (r : Reading) (b : ℕ) → Passes text r → step r b ≡ None → IsFront (text ++ b ∷ []) → ⊥
no_front text r b (most, e) none front =
    let (m, x, passed) = front_passes (text ++ b ∷ []) front in
    let (y, there, last) = after_front m start text (b ∷ []) x passed in
    let same = after_agrees m most start text y r there e in
    let (next, s, le, rest) = after_parts m y b [] x last in
    let t : step r b ≡ Some next = ap (λ z. step z b) (sym same) ∙ s in
    absurd cc

no_whole : (text : List ℕ) (r : Reading) → Passes text r → (r.place ≡ Whole → ⊥) → IsFile text → ⊥
no_whole text r (most, e) other (t, is, same) =
    let whole = ap (after (depth t) start) same ∙ file_passes (depth t) t is (omega arith) in
    other (ap (λ (z : Reading). z.place) (after_agrees most (depth t) start text r (reading Whole 0) e whole))

nesting_is : (r : Reading) (text : List ℕ) → Reached r text → nesting text ≡ r.lists
nesting_is r text h = let c = h.counts in let l = h.lists in omega (arith, c, l)

-- the front before a byte, and with it
before_byte : (text rest : List ℕ) → take (length text) (text ++ rest) ≡ text
before_byte text rest = take_at text rest (length text) refl

with_byte : (text : List ℕ) (b : ℕ) (rest : List ℕ) → take (length text + 1) (text ++ b ∷ rest) ≡ text ++ b ∷ []
with_byte text b rest =
    ap (take (length text + 1)) (sym (append_assoc text (b ∷ []) rest))
    ∙ take_at (text ++ b ∷ []) rest (length text + 1) (let e = length-append text (b ∷ []) in omega (arith, e))

shallow_next : (text : List ℕ) (b : ℕ) → IsShallow text → nesting (text ++ b ∷ []) ≤ deepest → IsShallow (text ++ b ∷ [])
shallow_next text b shallow here = λ k. elim (cases_lt (length text) k) [
  | inl past ↦ let all = take_all k (text ++ b ∷ []) (let e = length-append text (b ∷ []) in omega (arith, e)) in subst (λ x. nesting x ≤ deepest) (sym all) here
  | inr within ↦ let front = take-append-le k text (b ∷ []) within in subst (λ x. nesting x ≤ deepest) (sym front) (shallow k)
]

-- what an answer says of a text
abbrev pub Told : List ℕ → Result (Unit {0}) SxFault → Type 0
Told text (Ok x) = IsFile text × IsShallow text
Told text (Err fault) = IsFaultOf text fault

told_at_end : (place : Place) (n : ℕ) (text : List ℕ) → Reached (reading place n) text → Passes text (reading place n) → IsShallow text → Told text (ended (length text) place)
told_at_end place n text h passes shallow = at_place place h.stack h.stands (no_whole text (reading place n) passes)
  where
    breaks : (IsFile text → ⊥) → IsNoText text (length text)
    breaks no_file = (
      record {
        within = omega arith;
        front = subst IsFront (sym (take_all (length text) text (omega arith))) (reached_front (reading place n) text h);
        no_further = λ lt _. absurd (omega arith);
        no_file = no_file;
      },
      subst IsShallow (sym (take_all (length text) text (omega arith))) shallow,
    )

    at_place : (p : Place) (stack : _) → StandsAt p stack text → ((p ≡ Whole → ⊥) → IsFile text → ⊥) → Told text (ended (length text) p)
    at_place Begin stack stands other = breaks (other (λ e. absurd cc))
    at_place Opened stack stands other = breaks (other (λ e. absurd cc))
    at_place Word stack stands other = breaks (other (λ e. absurd cc))
    at_place Ended stack stands other = breaks (other (λ e. absurd cc))
    at_place Whole stack stands other = (stands, shallow)

told_stuck : (r : Reading) (text : List ℕ) (b : ℕ) (bs : List ℕ) → Reached r text → Passes text r → IsShallow text → step r b ≡ None → IsNoText (text ++ b ∷ bs) (length text)
told_stuck r text b bs h passes shallow none =
    let no = no_front text r b passes none in (
      record {
        within = let e = length-append text (b ∷ bs) in omega (arith, e);
        front = subst IsFront (sym (before_byte text (b ∷ bs))) (reached_front r text h);
        no_further = λ _ front. no (subst IsFront (with_byte text b bs) front);
        no_file = λ whole. no (front_shorter (text ++ b ∷ []) bs (subst IsFront (sym (append_assoc text (b ∷ []) bs)) (front_of_file (text ++ b ∷ bs) whole)));
      },
      subst IsShallow (sym (before_byte text (b ∷ bs))) shallow,
    )

told_deep : (text : List ℕ) (b : ℕ) (bs : List ℕ) (next : Reading) → IsShallow text → Reached next (text ++ b ∷ []) → deepest < next.lists → OpensTooDeep (text ++ b ∷ bs) (length text)
told_deep text b bs next shallow h past = record {
  within = let e = length-append text (b ∷ bs) in omega (arith, e);
  front = subst IsFront (sym (with_byte text b bs)) (reached_front next (text ++ b ∷ []) h);
  shallow = subst IsShallow (sym (before_byte text (b ∷ bs))) shallow;
  deep = let n : nesting (take (length text + 1) (text ++ b ∷ bs)) ≡ next.lists = ap nesting (with_byte text b bs) ∙ nesting_is next (text ++ b ∷ []) h in omega (arith, n);
}

told_from : (r : Reading) (text bs : List ℕ) (at : ℕ) → at ≡ length text → Reached r text → Passes text r → IsShallow text → Told (text ++ bs) (recognised_from r at bs)
told_from r text [] at here h passes shallow =
    subst (λ x. Told x (ended at r.place)) (sym (append-nil text)) (subst (λ n. Told text (ended n r.place)) (sym here) (told_at_end r.place r.lists text h passes shallow))
told_from r text (b ∷ bs) at here h passes shallow =
    next_told (step r b) refl
    (λ next h' passes' shallow'. told_from next (text ++ b ∷ []) bs (at + 1) (let n = length-append text (b ∷ []) in omega (arith, n)) h' passes' shallow')
  where
    deeper : (next : Reading) → Reached next (text ++ b ∷ []) → Passes (text ++ b ∷ []) next → (t : Bool) → nat_lt deepest next.lists ≡ t →
        (IsShallow (text ++ b ∷ []) → Told ((text ++ b ∷ []) ++ bs) (recognised_from next (at + 1) bs)) → Told (text ++ b ∷ bs) (if t then Err (Deep at) else recognised_from next (at + 1) bs)
    deeper next h' passes' true e go = subst (OpensTooDeep (text ++ b ∷ bs)) (sym here) (told_deep text b bs next shallow h' (ltb-true deepest next.lists e))
    deeper next h' passes' false e go =
        let n = nesting_is next (text ++ b ∷ []) h' in
        let within = ltb-false deepest next.lists e in
        subst (λ x. Told x (recognised_from next (at + 1) bs)) (append_assoc text (b ∷ []) bs) (go (shallow_next text b shallow (omega (arith, n, within))))

    next_told : (o : Option Reading) → step r b ≡ o →
        ((next : Reading) → Reached next (text ++ b ∷ []) → Passes (text ++ b ∷ []) next → IsShallow (text ++ b ∷ []) → Told ((text ++ b ∷ []) ++ bs) (recognised_from next (at + 1) bs)) →
        Told (text ++ b ∷ bs) (elim o as (λ _. Result (Unit {0}) SxFault) [
          | None ↦ Err (NotText at)
          | Some next ↦ if nat_lt deepest next.lists then Err (Deep at) else recognised_from next (at + 1) bs
        ])
    next_told None e again = subst (IsNoText (text ++ b ∷ bs)) (sym here) (told_stuck r text b bs h passes shallow e)
    next_told (Some next) e again =
        let h' = reached_next r text b next h e in
        let passes' = passes_next text r b next passes e in
        deeper next h' passes' (nat_lt deepest next.lists) refl (again next h' passes')

nothing_nested : nesting [] ≤ deepest
nothing_nested = omega arith

pub told : (text : List ℕ) → Told text (recognised text)
told text = told_from start [] text 0 refl (reached 0 [] start refl) (0, refl) (λ k. nothing k)
  where
    nothing : (k : ℕ) → nesting (take k []) ≤ deepest
    nothing k = let empty : List ℕ = [] in let none : take k empty ≡ empty = take_all k empty (omega arith) in subst (λ (x : List ℕ). nesting x ≤ deepest) (sym none) nothing_nested
