-- Marks that spread, one marked position after the other.
use Rattle.std.proofs.Common.{◌≡◌, ℕ, zero, suc, ◌+◌, ◌<◌, Bool, true, false, List, [], ◌∷◌, ◌++◌, length, ◌⊎◌, inl, inr, refl, sym, ap, ◌∙◌, subst, arith}
use Rattle.std.proofs.lemmas.List.{length_push}
use Rattle.c_levels.specs.CodeSpread.{Among, IsMarked, Reached, at_start, led_to, Marking, all_marked, IsSpread, positions_from}
use Rattle.c_levels.proofs.Marking.{unmarked, Marks, all_are_marked, among_left, among_parts, among_right}

-- Each marked position waits, or has spread.
pub record Spreading (leads : ℕ → List ℕ) (start : List Bool) (s : Marking) : Type 0 where
  pub count : length s.marks ≡ length start
  pub started : (k : ℕ) → IsMarked start k → IsMarked s.marks k
  pub sound : (k : ℕ) → IsMarked s.marks k → Reached leads start k
  pub waiting : (k : ℕ) → Among k s.work → Reached leads start k
  pub spread : (k : ℕ) → IsMarked s.marks k → Among k s.work ⊎ ((i : ℕ) → Among i (leads k) → i < length start → IsMarked s.marks i)

marks_have_positions : (j k : ℕ) (ms : List Bool) → IsMarked ms k → Among (j + k) (positions_from j ms)
marks_have_positions j k [] m = absurd cc
marks_have_positions j zero (true ∷ ms) m = inl (omega arith)
marks_have_positions j zero (false ∷ ms) m = absurd cc
marks_have_positions j (suc k) (true ∷ ms) m = inr (subst (λ i. Among i (positions_from (j + 1) ms)) (omega arith) (marks_have_positions (j + 1) k ms m))
marks_have_positions j (suc k) (false ∷ ms) m = subst (λ i. Among i (positions_from (j + 1) ms)) (omega arith) (marks_have_positions (j + 1) k ms m)

positions_have_marks : (i j : ℕ) (ms : List Bool) → Among i (positions_from j ms) → (k : ℕ) × ((i ≡ j + k) × IsMarked ms k)
positions_have_marks i j [] a = absurd a
positions_have_marks i j (true ∷ ms) (inl e) = (0, (omega arith, refl))
positions_have_marks i j (true ∷ ms) (inr a) = let h = positions_have_marks i (j + 1) ms a in (suc h.0, (omega (arith, h.1.0), h.1.1))
positions_have_marks i j (false ∷ ms) a = let h = positions_have_marks i (j + 1) ms a in (suc h.0, (omega (arith, h.1.0), h.1.1))

pub begun : (leads : ℕ → List ℕ) (start : List Bool) (w : List ℕ) → w ≡ positions_from 0 start → Spreading leads start (record { marks = start; work = w })
begun leads start w e = record {
  count = refl;
  started = λ k m. m;
  sound = λ k m. at_start m;
  waiting = λ k a. let h = positions_have_marks k 0 start (subst (λ v. Among k v) e a) in at_start (subst (λ x. IsMarked start x) (omega (arith, h.1.0)) h.1.1);
  spread = λ k m. inl (subst (λ v. Among k v) (sym e) (subst (λ x. Among x (positions_from 0 start)) (omega arith) (marks_have_positions 0 k start m)));
}

one_spread : (leads : ℕ → List ℕ) (start ms : List Bool) (w : List ℕ) (k : ℕ) (s : Marking) →
    Spreading leads start (record { marks = ms; work = w ++ (k ∷ []) }) → Marks (leads k) (record { marks = ms; work = w }) s → Spreading leads start s
one_spread leads start ms w k s h g = record {
  count = g.count ∙ h.count;
  started = λ j m. g.grown j (h.started j m);
  sound = λ j m. elim (g.only j m) [ inl o ↦ h.sound j o | inr o ↦ reached j o.1 ];
  waiting = reached;
  spread = λ j m. elim (g.only j m) [
    | inl o ↦ elim (h.spread j o) [
      | inl a ↦ elim (among_parts j w (k ∷ []) a) [
        | inl b ↦ inl (g.kept j b)
        | inr b ↦ elim b [ inl q ↦ inr (λ i n lt. g.all i (subst (λ x. Among i (leads x)) q n) (omega (arith, h.count))) | inr z ↦ absurd z ]
      ]
      | inr f ↦ inr (λ i n lt. g.grown i (f i n lt))
    ]
    | inr o ↦ inl o.1
  ];
}
  where
    reached : (j : ℕ) → Among j s.work → Reached leads start j
    reached j a = elim (g.put j a) [
      | inl b ↦ h.waiting j (among_left j w (k ∷ []) b)
      | inr b ↦ led_to (h.waiting k (among_right k w (k ∷ []) (inl refl))) b.0 (omega (arith, h.count))
    ]

-- one position spreads where it is led to
pub spreads_on : (leads : ℕ → List ℕ) (start ms : List Bool) (w v : List ℕ) (k : ℕ) (is : List ℕ) (s : Marking) →
    Spreading leads start (record { marks = ms; work = v }) → v ≡ w ++ (k ∷ []) → is ≡ leads k → s ≡ all_marked is (record { marks = ms; work = w }) → Spreading leads start s
spreads_on leads start ms w v k is s h e led made =
    let g : Marks (leads k) (record { marks = ms; work = w }) s =
    subst (λ t. Marks (leads k) (record { marks = ms; work = w }) t) (sym made) (subst (λ js. Marks js (record { marks = ms; work = w }) (all_marked is (record { marks = ms; work = w }))) led (all_are_marked is (record { marks = ms; work = w }))) in
    one_spread leads start ms w k s (subst (λ x. Spreading leads start (record { marks = ms; work = x })) e h) g

-- less is left
pub less_left : (ms : List Bool) (w v : List ℕ) (k : ℕ) (is : List ℕ) (s : Marking) →
    v ≡ w ++ (k ∷ []) → s ≡ all_marked is (record { marks = ms; work = w }) → unmarked s.marks + length s.work < unmarked ms + length v
less_left ms w v k is s e made =
    let h = (all_are_marked is (record { marks = ms; work = w })).left in
    let n = length_push w k in
    omega (arith, ap (λ x. length x) e, ap (λ t. unmarked t.marks + length t.work) made)

pub all_spread : (leads : ℕ → List ℕ) (start ms : List Bool) (w : List ℕ) → Spreading leads start (record { marks = ms; work = w }) → w ≡ [] → IsSpread leads start ms
all_spread leads start ms w h e = record { count = h.count; reached = h.sound; all = all }
  where
    all : (k : ℕ) → Reached leads start k → IsMarked ms k
    all k (at_start m) = h.started k m
    all k (led_to {k = j} r a lt) = elim (h.spread j (all j r)) [ inl z ↦ absurd (subst (λ v. Among j v) e z) | inr f ↦ f k a lt ]
