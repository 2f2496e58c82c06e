-- What the recogniser passes are the fronts of files.
use Rattle.std.proofs.Common.{◌≡◌, ℕ, ◌≤◌, List, [], ◌∷◌, ◌++◌, Option, Some, None, inl, inr, refl, ap, sym, subst, ◌∙◌, append_assoc, arith}
use Rattle.std.specs.Prelude.{nat_lt, if◌then◌else◌}
use Rattle.std.proofs.lemmas.Bool.{ltb-false}
use Rattle.std.proofs.lemmas.List.{append-nil}
use Rattle.ac_sx.specs.declared.recogniser.Place.{Place}
use Rattle.ac_sx.specs.declared.recogniser.Place.TheVariants.{Begin, Opened, Word, Ended, Whole}
use Rattle.ac_sx.specs.declared.recogniser.Reading.{Reading}
use Rattle.ac_sx.specs.Tree.{Tree, Trees, Atom, Node, IsTree, spelling, file, depth, closing, line_end}
use Rattle.ac_sx.specs.Front.{IsFile, IsFront}
use Rattle.ac_sx.specs.CodeSx.{pushed}
use Rattle.ac_sx.specs.CodeRecogniser.{reading, step}
use Rattle.ac_sx.proofs.Spaced.{openings, AreTrees-pushed, openings-close}
use Rattle.ac_sx.proofs.Reached.{Reached, AreStack, StandsAt, reached_next, branches}
use Rattle.ac_sx.proofs.Walked.{after, after_step, behind, tree_walked}

abbrev pub start : Reading
start = reading Begin 0

-- the first step, and the others
pub after_parts : (most : ℕ) (r : Reading) (b : ℕ) (bs : List ℕ) (x : Reading) → after most r (b ∷ bs) ≡ Some x → (next : Reading) × (step r b ≡ Some next) × (next.lists ≤ most) × (after most next bs ≡ Some x)
after_parts most r b bs x e = go (step r b) refl e
  where
    go : (o : Option Reading) → step r b ≡ o → elim o as (λ _. Option Reading) [ None ↦ None | Some next ↦ if nat_lt most next.lists then None else after most next bs ] ≡ Some x →
        (next : Reading) × (step r b ≡ Some next) × (next.lists ≤ most) × (after most next bs ≡ Some x)
    go None s e = absurd cc
    go (Some next) s e = elim (branches (nat_lt most next.lists) None (after most next bs) (Some x) e) [
      | inl past ↦ absurd (let f = past.1 in cc)
      | inr within ↦ (next, s, ltb-false most next.lists within.0, within.1)
    ]

pub after_front : (most : ℕ) (r : Reading) (bs cs : List ℕ) (x : Reading) → after most r (bs ++ cs) ≡ Some x → (y : Reading) × (after most r bs ≡ Some y) × (after most y cs ≡ Some x)
after_front most r [] cs x e = (r, refl, e)
after_front most r (b ∷ bs) cs x e =
    let (next, s, le, rest) = after_parts most r b (bs ++ cs) x e in
    let (y, there, last) = after_front most next bs cs x rest in
    (y, after_step most r b bs next s le ∙ there, last)

-- how many lists may be open doesn't matter where both get there
pub after_agrees : (m k : ℕ) (r : Reading) (bs : List ℕ) (x y : Reading) → after m r bs ≡ Some x → after k r bs ≡ Some y → x ≡ y
after_agrees m k r [] x y e f = cc
after_agrees m k r (b ∷ bs) x y e f =
    let (p, s, le, rest) = after_parts m r b bs x e in
    let (q, t, le', rest') = after_parts k r b bs y f in
    let same : q ≡ p = cc in
    after_agrees m k p bs x y rest (subst (λ z. after k z bs ≡ Some y) same rest')

file_ends : (t : Tree) → step (behind t 0) line_end ≡ Some (reading Whole 0)
file_ends (Atom w) = refl
file_ends (Node ts) = refl

pub file_passes : (most : ℕ) (t : Tree) → IsTree t → depth t ≤ most → after most start (file t) ≡ Some (reading Whole 0)
file_passes most t is le =
    tree_walked most t is Begin tt 0 (omega arith) (line_end ∷ []) ∙ after_step most (behind t 0) line_end [] (reading Whole 0) (file_ends t) (omega arith)

pub front_passes : (text : List ℕ) → IsFront text → (most : ℕ) × (r : Reading) × (after most start text ≡ Some r)
front_passes text (t, is, rest, e) =
    let whole = ap (after (depth t) start) e ∙ file_passes (depth t) t is (omega arith) in
    let (y, there, last) = after_front (depth t) start text rest (reading Whole 0) whole in
    (depth t, y, there)

reached_on : (most : ℕ) (r : Reading) (text bs : List ℕ) (x : Reading) → Reached r text → after most r bs ≡ Some x → Reached x (text ++ bs)
reached_on most r text [] x h e = let same : r ≡ x = cc in subst (λ z. Reached z (text ++ [])) same (subst (Reached r) (sym (append-nil text)) h)
reached_on most r text (b ∷ bs) x h e =
    let (next, s, le, rest) = after_parts most r b bs x e in
    subst (Reached x) (append_assoc text (b ∷ []) bs) (reached_on most next (text ++ b ∷ []) bs x (reached_next r text b next h s) rest)

reached_start : Reached start []
reached_start = record { stack = []; trees = tt; lists = refl; stands = refl; counts = refl }

pub reached : (most : ℕ) (text : List ℕ) (r : Reading) → after most start text ≡ Some r → Reached r text
reached most text r e = reached_on most start [] text r reached_start e

pub front_shorter : (text rest : List ℕ) → IsFront (text ++ rest) → IsFront text
front_shorter text rest (t, is, others, e) = (t, is, rest ++ others, sym (append_assoc text rest others) ∙ e)

pub front_of_file : (text : List ℕ) → IsFile text → IsFront text
front_of_file text (t, is, e) = (t, is, [], append-nil text ∙ e)

-- lists that are open can be closed behind a tree
ended_front : (stack : List Trees) (t : Tree) (text : List ℕ) → AreStack stack → IsTree t → text ≡ openings stack ++ spelling t → IsFront text
ended_front [] t text trees is e = (t, is, line_end ∷ [], ap (λ bs. bs ++ line_end ∷ []) e)
ended_front (ts ∷ outer) t text trees is e =
    front_shorter text (closing ∷ []) (ended_front outer (Node (pushed ts t)) (text ++ closing ∷ []) trees.1 (AreTrees-pushed ts t trees.0 is) (ap (λ bs. bs ++ closing ∷ []) e ∙ openings-close ts outer t))

-- an atom may come before a tree
begun_front : (stack : List Trees) (text : List ℕ) → AreStack stack → text ≡ openings stack → IsFront text
begun_front stack text trees e = front_shorter text (97 ∷ []) (ended_front stack (Atom (97 ∷ [])) (text ++ 97 ∷ []) trees refl (ap (λ bs. bs ++ 97 ∷ []) e))

pub reached_front : (r : Reading) (text : List ℕ) → Reached r text → IsFront text
reached_front r text h = at_place r.place h.stack text h.trees h.stands
  where
    at_place : (place : Place) (stack : List Trees) (text : List ℕ) → AreStack stack → StandsAt place stack text → IsFront text
    at_place Begin stack text trees stands = begun_front stack text trees stands
    at_place Opened [] text trees stands = absurd stands
    at_place Opened (ts ∷ outer) text trees stands = begun_front (ts ∷ outer) text trees stands.1
    at_place Word stack text trees (w, is, e) = ended_front stack (Atom w) text trees is e
    at_place Ended stack text trees (t, is, e) = ended_front stack t text trees is e
    at_place Whole stack text trees stands = front_of_file text stands
