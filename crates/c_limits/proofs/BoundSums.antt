-- What bounds hold of the values on the stack, and of the parts of a production together.
use Rattle.std.proofs.Common.{ℕ, ◌≡◌, ◌∙◌, ◌+◌, ◌≤◌, nat_le, max, true, false, if◌then◌else◌, List, [], ◌∷◌, length, take, drop, None, zero, suc, map, refl, ap, ap₂, sym, arith, slice_get}
use Rattle.std.specs.Option.{option_map}
use Rattle.std.proofs.lemmas.List.{length-append, length-drop}
use Rattle.std.proofs.lemmas.Bool.{and_parts, and_from, leb-true, le-leb}
use Rattle.c_grammar.specs.CodeBuild.{Value, Tok}
use Rattle.c_limits.specs.declared.limits.Limit.{Limit}
use Rattle.c_limits.specs.declared.limits.bounds.Bounds.{Bounds}
use Rattle.c_limits.specs.Limits.{Measure, nothing, beside, leftmost, most, past, earlier}
use Rattle.c_limits.specs.CodeMeasure.{Part, empty, joined, gathered}
use Rattle.c_limits.specs.CodeBounds.{deepest}
use Rattle.c_limits.proofs.LimitsParts.{is_nested, nested_in, level, part, up_to, whole}

abbrev pub measure : Value → Measure
measure v = (part v).measure

-- the offsets for a limit in some values, one beside the other, and one above the other
abbrev Offsets : Type 0
Offsets = Measure → List ℕ

abbrev pub total : Offsets → List Value → ℕ
total f [] = 0
total f (v ∷ vs) = length (f (measure v)) + total f vs

abbrev pub highest : Offsets → List Value → ℕ
highest f [] = 0
highest f (v ∷ vs) = max (length (f (measure v))) (highest f vs)

-- and in those on top that stand no further out
abbrev pub total_within : Offsets → ℕ → List Value → ℕ
total_within f l [] = 0
total_within f l (v ∷ vs) = if nat_le (level v) l then length (f (measure v)) + total_within f l vs else 0

abbrev pub highest_within : Offsets → ℕ → List Value → ℕ
highest_within f l [] = 0
highest_within f l (v ∷ vs) = if nat_le (level v) l then max (length (f (measure v))) (highest_within f l vs) else 0

total_parts : (f : Offsets) (l k : ℕ) (vs : List Value) → up_to l (take k vs) ≡ true → total_within f l vs ≡ total f (take k vs) + total_within f l (drop k vs)
total_parts f l zero vs h = omega arith
total_parts f l (suc k) [] h = refl
total_parts f l (suc k) (v ∷ vs) h =
    let both = and_parts (nat_le (level v) l) (up_to l (take k vs)) h in
    let rest = total_parts f l k vs both.1 in
    ap (λ b. if b then length (f (measure v)) + total_within f l vs else 0) both.0 ∙ omega (arith, rest)

highest_parts : (f : Offsets) (l k : ℕ) (vs : List Value) → up_to l (take k vs) ≡ true → highest_within f l vs ≡ max (highest f (take k vs)) (highest_within f l (drop k vs))
highest_parts f l zero vs h = omega arith
highest_parts f l (suc k) [] h = refl
highest_parts f l (suc k) (v ∷ vs) h =
    let both = and_parts (nat_le (level v) l) (up_to l (take k vs)) h in
    let rest = highest_parts f l k vs both.1 in
    ap (λ b. if b then max (length (f (measure v))) (highest_within f l vs) else 0) both.0 ∙ omega (arith, rest)

total_apart : (f : Offsets) (k : ℕ) (vs : List Value) → total f vs ≡ total f (take k vs) + total f (drop k vs)
total_apart f zero vs = omega arith
total_apart f (suc k) [] = refl
total_apart f (suc k) (v ∷ vs) = let rest = total_apart f k vs in omega (arith, rest)

-- what gathers is beside what was gathered before

length_leftmost : (xs ys : List ℕ) → length (leftmost xs ys) ≡ max (length xs) (length ys)
length_leftmost xs ys =
    length-append xs (drop (length xs) ys)
    ∙ ap (λ n. length xs + n) (length-drop (length xs) ys)
    ∙ omega arith

abbrev pub gather : ℕ → List Value → Part → Measure
gather k vs sum = (gathered whole k (map part vs) sum).0.measure

gathered_total : (f : Offsets) → ((m n : Measure) → length (f (beside m n)) ≡ length (f m) + length (f n)) → (k : ℕ) (vs : List Value) (sum : Part) →
    length (f (gather k vs sum)) ≡ total f (take k vs) + length (f sum.measure)
gathered_total f law zero vs sum = omega arith
gathered_total f law (suc k) [] sum = omega arith
gathered_total f law (suc k) (v ∷ vs) sum =
    let rest = gathered_total f law k vs (joined whole (part v) sum) in
    let first = law (measure v) sum.measure in
    omega (arith, rest, first)

gathered_highest : (f : Offsets) → ((m n : Measure) → length (f (beside m n)) ≡ max (length (f m)) (length (f n))) → (k : ℕ) (vs : List Value) (sum : Part) →
    length (f (gather k vs sum)) ≡ max (highest f (take k vs)) (length (f sum.measure))
gathered_highest f law zero vs sum = omega arith
gathered_highest f law (suc k) [] sum = omega arith
gathered_highest f law (suc k) (v ∷ vs) sum =
    let rest = gathered_highest f law k vs (joined whole (part v) sum) in
    let first = law (measure v) sum.measure in
    omega (arith, rest, first)

-- no value has a fault
abbrev pub Faultless : List Value → Type 0
Faultless [] = Unit {0}
Faultless (v ∷ vs) = ((measure v).fault ≡ None) × Faultless vs

pub faultless_drop : (k : ℕ) (vs : List Value) → Faultless vs → Faultless (drop k vs)
faultless_drop zero vs h = h
faultless_drop (suc k) [] h = h
faultless_drop (suc k) (v ∷ vs) h = faultless_drop k vs h.1

gathered_faultless : (k : ℕ) (vs : List Value) (sum : Part) → Faultless vs → sum.measure.fault ≡ None → (gather k vs sum).fault ≡ None
gathered_faultless zero vs sum h s = s
gathered_faultless (suc k) [] sum h s = s
gathered_faultless (suc k) (v ∷ vs) sum h s = gathered_faultless k vs (joined whole (part v) sum) h.1 (ap₂ earlier h.0 s)

-- a value that has no statements in it has none that count, and none nest in a value that isn't on the stack of depths
abbrev pub IsPlain : Value → Type 0
IsPlain v = (nat_le (level v) 2 ≡ true → length (measure v).statements ≡ 0) × (is_nested v ≡ false → length (measure v).blocks ≡ 0)

abbrev pub ArePlain : List Value → Type 0
ArePlain [] = Unit {0}
ArePlain (v ∷ vs) = IsPlain v × ArePlain vs

pub plain_drop : (k : ℕ) (vs : List Value) → ArePlain vs → ArePlain (drop k vs)
plain_drop zero vs h = h
plain_drop (suc k) [] h = h
plain_drop (suc k) (v ∷ vs) h = plain_drop k vs h.1

plain_total : (k : ℕ) (vs : List Value) → ArePlain vs → up_to 2 (take k vs) ≡ true → total (λ m. m.statements) (take k vs) ≡ 0
plain_total zero vs h u = refl
plain_total (suc k) [] h u = refl
plain_total (suc k) (v ∷ vs) h u =
    let both = and_parts (nat_le (level v) 2) (up_to 2 (take k vs)) u in
    let first = h.0.0 both.0 in
    let rest = plain_total k vs h.1 both.1 in
    omega (arith, first, rest)

-- how deep statements nest in each value of the stack of depths
abbrev pub depths_of : List Value → List ℕ
depths_of [] = []
depths_of (v ∷ vs) = if is_nested v then length (measure v).blocks ∷ depths_of vs else depths_of vs

deepest_parts : (k : ℕ) (vs : List Value) (depth : ℕ) → ArePlain vs →
    deepest (nested_in (take k vs)) (depths_of vs) depth ≡ (max (highest (λ m. m.blocks) (take k vs)) depth, depths_of (drop k vs))
deepest_parts zero vs depth h = let same : depth ≡ max 0 depth = omega arith in ap (λ d. (d, depths_of vs)) same
deepest_parts (suc k) [] depth h = let same : depth ≡ max 0 depth = omega arith in ap (λ d. (d, [])) same
deepest_parts (suc k) (v ∷ vs) depth h =
    let b = length (measure v).blocks in
    let rest = highest (λ m. m.blocks) (take k vs) in
    let n = nested_in (take k vs) in
    (elim (is_nested v) as (λ c. is_nested v ≡ c → deepest (if c then suc n else n) (if c then b ∷ depths_of vs else depths_of vs) depth ≡ (max (max b rest) depth, depths_of (drop k vs))) [
      | true ↦ λ c.
          let same : max rest (max b depth) ≡ max (max b rest) depth = omega arith in
          deepest_parts k vs (max b depth) h.1 ∙ ap (λ d. (d, depths_of (drop k vs))) same
      | false ↦ λ c.
          let zero_here = h.0.1 c in
          let same : max rest depth ≡ max (max b rest) depth = omega (arith, zero_here) in
          deepest_parts k vs depth h.1 ∙ ap (λ d. (d, depths_of (drop k vs))) same
    ]) refl

abbrev pub Shallow : List ℕ → Type 0
Shallow [] = Unit {0}
Shallow (d ∷ ds) = (d ≤ 32) × Shallow ds

pub deepest_shallow : (n : ℕ) (ds : List ℕ) (depth : ℕ) → Shallow ds → depth ≤ 32 → ((deepest n ds depth).0 ≤ 32) × Shallow (deepest n ds depth).1
deepest_shallow zero ds depth h le = (le, h)
deepest_shallow (suc n) [] depth h le = (le, h)
deepest_shallow (suc n) (d ∷ ds) depth h le = let first = h.0 in deepest_shallow n ds (max d depth) h.1 (omega (arith, first, le))

pub up_to_more : (l m : ℕ) (vs : List Value) → l ≤ m → up_to l vs ≡ true → up_to m vs ≡ true
up_to_more l m [] le h = refl
up_to_more l m (v ∷ vs) le h =
    let both = and_parts (nat_le (level v) l) (up_to l vs) h in
    let first = leb-true (level v) l both.0 in
    and_from (nat_le (level v) m) (up_to m vs) (le-leb (level v) m (omega (arith, le, first))) (up_to_more l m vs le both.1)

-- a token has nothing that counts
token_nothing : (v : Value) → nat_le (level v) 0 ≡ true → measure v ≡ nothing
token_nothing (Tok t) h = refl
token_nothing v h = absurd cc

tokens_nothing : (k : ℕ) (vs : List Value) → up_to 0 (take k vs) ≡ true → (total (λ m. m.nodes) (take k vs) ≡ 0) × (highest (λ m. m.depth) (take k vs) ≡ 0)
tokens_nothing zero vs u = (refl, refl)
tokens_nothing (suc k) [] u = (refl, refl)
tokens_nothing (suc k) (v ∷ vs) u =
    let both = and_parts (nat_le (level v) 0) (up_to 0 (take k vs)) u in
    let first = token_nothing v both.0 in
    let nodes = ap (λ m. length m.nodes) first in
    let depth = ap (λ m. length m.depth) first in
    let rest = tokens_nothing k vs both.1 in
    (omega (arith, nodes, rest.0), omega (arith, depth, rest.1))

-- the fault of offsets that are few
get_none : (k : ℕ) (xs : List ℕ) → length xs ≤ k → slice_get xs k ≡ None
get_none zero [] h = refl
get_none zero (x ∷ xs) h = absurd (omega (arith, h))
get_none (suc k) [] h = refl
get_none (suc k) (x ∷ xs) h = get_none k xs (omega (arith, h))

pub none_past : (l : Limit) (xs : List ℕ) → length xs ≤ most l → past l xs ≡ None
none_past l xs h = ap (λ o. option_map (λ a. (l, a)) o) (get_none (most l) xs h)

-- what the bounds and the depths hold of the values on the stack
pub record Holds (b : Bounds) (ds : List ℕ) (vs : List Value) : Type 0 where
  pub faultless : Faultless vs
  pub plain : ArePlain vs
  pub functions : total (λ m. m.functions) vs ≤ b.functions
  pub statements : total_within (λ m. m.statements) 3 vs ≤ b.statements
  pub depths : ds ≡ depths_of vs
  pub shallow : Shallow ds
  pub nodes : total_within (λ m. m.nodes) 1 vs ≤ b.nodes
  pub depth : highest_within (λ m. m.depth) 1 vs ≤ b.operators + 1

-- what the parts of a production hold together
pub record Together (b : Bounds) (ds : List ℕ) (k : ℕ) (vs : List Value) (m : Measure) : Type 0 where
  pub faultless : m.fault ≡ None
  pub functions : length m.functions + total (λ m. m.functions) (drop k vs) ≤ b.functions
  pub statements : up_to 3 (take k vs) ≡ true → length m.statements + total_within (λ m. m.statements) 3 (drop k vs) ≤ b.statements
  pub blocks : deepest (nested_in (take k vs)) ds 0 ≡ (length m.blocks, depths_of (drop k vs))
  pub nodes : up_to 1 (take k vs) ≡ true → length m.nodes + total_within (λ m. m.nodes) 1 (drop k vs) ≤ b.nodes
  pub depth : up_to 1 (take k vs) ≡ true → max (length m.depth) (highest_within (λ m. m.depth) 1 (drop k vs)) ≤ b.operators + 1
  pub plain : up_to 2 (take k vs) ≡ true → length m.statements ≡ 0
  pub tokens : up_to 0 (take k vs) ≡ true → (length m.nodes ≡ 0) × (length m.depth ≡ 0)

pub together : (b : Bounds) (ds : List ℕ) (k : ℕ) (vs : List Value) → Holds b ds vs → Together b ds k vs (gather k vs empty)
together b ds k vs h =
    let functions = gathered_total (λ m. m.functions) (λ m n. length-append m.functions n.functions) k vs empty in
    let statements = gathered_total (λ m. m.statements) (λ m n. length-append m.statements n.statements) k vs empty in
    let nodes = gathered_total (λ m. m.nodes) (λ m n. length-append m.nodes n.nodes) k vs empty in
    let blocks = gathered_highest (λ m. m.blocks) (λ m n. length_leftmost m.blocks n.blocks) k vs empty in
    let depth = gathered_highest (λ m. m.depth) (λ m n. length_leftmost m.depth n.depth) k vs empty in
    record {
      faultless = gathered_faultless k vs empty h.faultless refl;
      functions =
          let all = total_apart (λ m. m.functions) k vs in
          let few = h.functions in
          omega (arith, functions, all, few);
      statements = λ u.
          let all = total_parts (λ m. m.statements) 3 k vs u in
          let few = h.statements in
          omega (arith, statements, all, few);
      blocks =
          ap (λ es. deepest (nested_in (take k vs)) es 0) h.depths
          ∙ deepest_parts k vs 0 h.plain
          ∙ ap (λ d. (d, depths_of (drop k vs))) (sym blocks);
      nodes = λ u.
          let all = total_parts (λ m. m.nodes) 1 k vs u in
          let few = h.nodes in
          omega (arith, nodes, all, few);
      depth = λ u.
          let all = highest_parts (λ m. m.depth) 1 k vs u in
          let few = h.depth in
          omega (arith, depth, all, few);
      plain = λ u. let none = plain_total k vs h.plain u in omega (arith, statements, none);
      tokens = λ u.
          let none = tokens_nothing k vs u in
          (omega (arith, nodes, none.0), omega (arith, depth, none.1));
    }
