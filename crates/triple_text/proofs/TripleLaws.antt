-- The tree of triples is read as the triples, and what is read as triples is their tree.
use Rattle.std.proofs.Common.{◌≡◌, ℕ, Bool, true, false, cond, ◌&&◌, List, Option, Some, None, Ok, Err, refl, ap, ap₂, sym, ◌∙◌}
use Rattle.std.proofs.lemmas.Bool.{and_parts, and_from}
use Rattle.c_values.specs.Name.{Name, same_name}
use Rattle.ac_sx.specs.Tree.{Tree, Trees, Atom, Node, more}
use Rattle.ac_sx.specs.CodeSx.{headed_in, one_of, two_of, first_of}
use Rattle.expression_lang.specs.Expression.{Exp}
use Rattle.expression_lang.specs.Sort.{Scalar, WordSort, NumberSort, TruthSort}
use Rattle.expression_text.specs.Reading.{Read, next, ◌>>=◌}
use Rattle.expression_text.specs.Names.{is_name, name_at}
use Rattle.expression_text.specs.ExpText.{exp_tree, is_exp}
use Rattle.expression_text.specs.ExpReading.{width_at, exp_at}
use Rattle.expression_text.specs.Lists.{each, trees_for, list_at}
use Rattle.expression_text.proofs.LookedUp.{name_is}
use Rattle.expression_text.proofs.Behind.{behind, IsReadAs, bind_ok, value_ok}
use Rattle.expression_text.proofs.TypesText.{name_reads, name_spells}
use Rattle.expression_text.proofs.LeavesText.{width_reads, width_spells}
use Rattle.expression_text.proofs.ExpsText.{exp_reads, exp_spells}
use Rattle.expression_text.proofs.ListLaws.{IsPart, list_reads, list_spells}
use Rattle.program_text.specs.MonText.{two}
use Rattle.program_text.proofs.KindLaws.{one_is}
use Rattle.program_text.proofs.PartLaws.{two_is}
use Rattle.rule_trees.specs.RuleTree as rules
use Rattle.exactness.specs.Triple.{Logical}
use Rattle.triple_lang.specs.Deriv as D
use Rattle.triple_lang.specs.Triple.{Triple}
use Rattle.triple_text.specs.Parts.{five_of}
use Rattle.triple_text.specs.DerivText.{deriv_tree, is_deriv}
use Rattle.triple_text.specs.DerivReading.{deriv_at}
use Rattle.triple_text.specs.TripleText.{number_word, truth_word, width_word, scalar_tree, logical_tree, triple_word, triple_tree, triples_word, version_word, triples_tree, is_scalar, is_logical, is_triple, are_triples}
use Rattle.triple_text.specs.TripleReading.{width_row, scalar_at, logical_row, logical_at, logicals_at, triple_row, triple_by, triple_at, version_row, triples_by, triples_at}
use Rattle.triple_text.specs.Answer.{IsTripleTree, AreTriplesTree}
use Rattle.triple_text.proofs.Parted.{five_same, five_is}
use Rattle.triple_text.proofs.EntailLaws.{one}
use Rattle.triple_text.proofs.DerivLaws.{deriv_reads, deriv_spells}

-- sorts
scalar_reads : (s : Scalar) → is_scalar s ≡ true → IsReadAs scalar_at (scalar_tree s) s
scalar_reads (WordSort n) is = λ at. ap (λ r. r >>= λ x. Ok (WordSort x.0, x.1)) (width_reads n is (next (next at)))
scalar_reads NumberSort is = λ at. refl
scalar_reads TruthSort is = λ at. refl

headed_is : (t : Tree) (word : Name) (ts : Trees) → headed_in t ≡ Some (word, ts) → t ≡ Node (more (Atom word) ts)
headed_is (Node (more (Atom w) us)) word ts e = let same : ◌≡◌ {A = Name × Trees} (w, us) (word, ts) = cc in ap (λ (x : Name × Trees). Node (more (Atom x.0) x.1)) same
headed_is _ word ts e = absurd cc

leaf_spells : (word : Name) (at : ℕ) (s : Scalar) (n : ℕ) (b c : Bool) → same_name word number_word ≡ b → same_name word truth_word ≡ c →
    cond {A = Read Scalar} b (Ok (NumberSort, next at)) (cond {A = Read Scalar} c (Ok (TruthSort, next at)) (Err at)) ≡ Ok (s, n) → IsPart scalar_tree is_scalar (Atom word) s
leaf_spells word at s n true c e f read = let same = value_ok NumberSort (next at) s n read in (ap Atom (name_is word number_word e) ∙ ap scalar_tree same, ap is_scalar (sym same))
leaf_spells word at s n false true e f read = let same = value_ok TruthSort (next at) s n read in (ap Atom (name_is word truth_word f) ∙ ap scalar_tree same, ap is_scalar (sym same))
leaf_spells word at s n false false e f read = absurd cc

width_spelt : (word : Name) (ts : Trees) (at inner : ℕ) (s : Scalar) (n : ℕ) (o : Option Tree) (b : Bool) → same_name word width_word ≡ b → one_of ts ≡ o → cond {A = Read Scalar} b (width_row at inner o) (Err at) ≡ Ok (s, n) →
    IsPart scalar_tree is_scalar (Node (more (Atom word) ts)) s
width_spelt word ts at inner s n o false e is read = absurd cc
width_spelt word ts at inner s n None true e is read = absurd cc
width_spelt word ts at inner s n (Some t) true e is read =
    let (x, first, last) = bind_ok (width_at inner t) (λ x. Ok (WordSort x.0, x.1)) (s, n) read in
    let p = width_spells t inner x.0 x.1 first in
    let same = value_ok (WordSort x.0) x.1 s n last in
    (ap₂ (λ w us. Node (more (Atom w) us)) (name_is word width_word e) (one_is ts t is ∙ ap one p.0) ∙ ap scalar_tree same, ap is_scalar (sym same) ∙ p.1)

scalar_spells : (t : Tree) (at : ℕ) (s : Scalar) (n : ℕ) → scalar_at at t ≡ Ok (s, n) → IsPart scalar_tree is_scalar t s
scalar_spells (Atom word) at s n read = leaf_spells word at s n (same_name word number_word) (same_name word truth_word) refl refl read
scalar_spells (Node (more (Atom word) ts)) at s n read = width_spelt word ts at (next (next at)) s n (one_of ts) (same_name word width_word) refl refl read
scalar_spells _ at s n read = absurd cc

-- logical variables
abbrev of_sort : Name → Scalar → Logical
of_sort x s = record { name = x; sort = s }

logical_reads : (x : Logical) → is_logical x ≡ true → IsReadAs logical_at (logical_tree x) x
logical_reads x is = λ at.
    let p = and_parts (is_name x.name) (is_scalar x.sort) is in
    ap (λ r. r >>= λ y. scalar_at y.1 (scalar_tree x.sort) >>= λ z. Ok (of_sort y.0 z.0, z.1)) (name_reads x.name p.0 (next at))
    ∙ ap (λ r. r >>= λ z. Ok (of_sort x.name z.0, z.1)) (scalar_reads x.sort p.1 (behind (next at) (Atom x.name)))

logical_spells : (t : Tree) (at : ℕ) (x : Logical) (n : ℕ) → logical_at at t ≡ Ok (x, n) → IsPart logical_tree is_logical t x
logical_spells (Atom word) at x n e = absurd cc
logical_spells (Node ts) at x n e = row (two_of ts) refl e
  where
    row : (o : Option (Tree × Tree)) → two_of ts ≡ o → logical_row at o ≡ Ok (x, n) → IsPart logical_tree is_logical (Node ts) x
    row None is read = absurd cc
    row (Some (t, u)) is read =
        let (y, read0, others0) = bind_ok (name_at (next at) t) (λ y. scalar_at y.1 u >>= λ z. Ok (of_sort y.0 z.0, z.1)) (x, n) read in
        let (z, read1, last) = bind_ok (scalar_at y.1 u) (λ z. Ok (of_sort y.0 z.0, z.1)) (x, n) others0 in
        let h0 = name_spells t (next at) y.0 y.1 read0 in
        let h1 = scalar_spells u y.1 z.0 z.1 read1 in
        let same = value_ok (of_sort y.0 z.0) z.1 x n last in
        (ap Node (two_is ts (t, u) is ∙ ap₂ two h0.0 h1.0) ∙ ap logical_tree same, ap is_logical (sym same) ∙ and_from (is_name y.0) (is_scalar z.0) h0.1 h1.1)

logicals_read : (xs : List Logical) → each is_logical xs ≡ true → IsReadAs logicals_at (Node (trees_for logical_tree xs)) xs
logicals_read xs is = λ at. list_reads logical_at logical_tree is_logical logical_reads xs is (next at)

logicals_spell : (t : Tree) (at : ℕ) (xs : List Logical) (n : ℕ) → logicals_at at t ≡ Ok (xs, n) → (t ≡ Node (trees_for logical_tree xs)) × (each is_logical xs ≡ true)
logicals_spell (Atom word) at xs n e = absurd cc
logicals_spell (Node ts) at xs n e = let p = list_spells logical_at logical_tree is_logical logical_spells ts (next at) xs n e in (ap Node p.0, p.1)

-- a triple
abbrev whole : Name → List Logical → Exp → Exp → rules.Tree D.Rule → Triple
whole f xs p q d = record { assertions = record { function = f; logicals = xs; before = p; after = q }; derivation = d }

pub triple_reads : (t : Triple) → is_triple t ≡ true → IsReadAs triple_at (triple_tree t) t
triple_reads t is = λ at.
    let p0 = and_parts (is_name t.assertions.function) (each is_logical t.assertions.logicals && (is_exp t.assertions.before && (is_exp t.assertions.after && is_deriv t.derivation))) is in
    let p1 = and_parts (each is_logical t.assertions.logicals) (is_exp t.assertions.before && (is_exp t.assertions.after && is_deriv t.derivation)) p0.1 in
    let p2 = and_parts (is_exp t.assertions.before) (is_exp t.assertions.after && is_deriv t.derivation) p1.1 in
    let p3 = and_parts (is_exp t.assertions.after) (is_deriv t.derivation) p2.1 in
    ap (λ r. r >>= λ x. logicals_at x.1 (Node (trees_for logical_tree t.assertions.logicals)) >>= λ y. exp_at y.1 (exp_tree t.assertions.before) >>= λ z. exp_at z.1 (exp_tree t.assertions.after) >>= λ w. deriv_at w.1 (deriv_tree t.derivation) >>= λ v. Ok (whole x.0 y.0 z.0 w.0 v.0, v.1)) (name_reads t.assertions.function p0.0 (next (next at)))
    ∙ ap (λ r. r >>= λ y. exp_at y.1 (exp_tree t.assertions.before) >>= λ z. exp_at z.1 (exp_tree t.assertions.after) >>= λ w. deriv_at w.1 (deriv_tree t.derivation) >>= λ v. Ok (whole t.assertions.function y.0 z.0 w.0 v.0, v.1)) (logicals_read t.assertions.logicals p1.0 (behind (next (next at)) (Atom t.assertions.function)))
    ∙ ap (λ r. r >>= λ z. exp_at z.1 (exp_tree t.assertions.after) >>= λ w. deriv_at w.1 (deriv_tree t.derivation) >>= λ v. Ok (whole t.assertions.function t.assertions.logicals z.0 w.0 v.0, v.1)) (exp_reads t.assertions.before p2.0 (behind (behind (next (next at)) (Atom t.assertions.function)) (Node (trees_for logical_tree t.assertions.logicals))))
    ∙ ap (λ r. r >>= λ w. deriv_at w.1 (deriv_tree t.derivation) >>= λ v. Ok (whole t.assertions.function t.assertions.logicals t.assertions.before w.0 v.0, v.1)) (exp_reads t.assertions.after p3.0 (behind (behind (behind (next (next at)) (Atom t.assertions.function)) (Node (trees_for logical_tree t.assertions.logicals))) (exp_tree t.assertions.before)))
    ∙ ap (λ r. r >>= λ v. Ok (whole t.assertions.function t.assertions.logicals t.assertions.before t.assertions.after v.0, v.1)) (deriv_reads t.derivation p3.1 (behind (behind (behind (behind (next (next at)) (Atom t.assertions.function)) (Node (trees_for logical_tree t.assertions.logicals))) (exp_tree t.assertions.before)) (exp_tree t.assertions.after)))

row_spells : (ts : Trees) (at inner : ℕ) (t : Triple) (n : ℕ) (o : Option (Tree × Tree × Tree × Tree × Tree)) → five_of ts ≡ o → triple_row at inner o ≡ Ok (t, n) → IsTripleTree (Node (more (Atom triple_word) ts)) t
row_spells ts at inner t n None is read = absurd cc
row_spells ts at inner t n (Some (f, xs, p, q, d)) is read =
    let (x, read0, others0) = bind_ok (name_at inner f) (λ x. logicals_at x.1 xs >>= λ y. exp_at y.1 p >>= λ z. exp_at z.1 q >>= λ w. deriv_at w.1 d >>= λ v. Ok (whole x.0 y.0 z.0 w.0 v.0, v.1)) (t, n) read in
    let (y, read1, others1) = bind_ok (logicals_at x.1 xs) (λ y. exp_at y.1 p >>= λ z. exp_at z.1 q >>= λ w. deriv_at w.1 d >>= λ v. Ok (whole x.0 y.0 z.0 w.0 v.0, v.1)) (t, n) others0 in
    let (z, read2, others2) = bind_ok (exp_at y.1 p) (λ z. exp_at z.1 q >>= λ w. deriv_at w.1 d >>= λ v. Ok (whole x.0 y.0 z.0 w.0 v.0, v.1)) (t, n) others1 in
    let (w, read3, others3) = bind_ok (exp_at z.1 q) (λ w. deriv_at w.1 d >>= λ v. Ok (whole x.0 y.0 z.0 w.0 v.0, v.1)) (t, n) others2 in
    let (v, read4, last) = bind_ok (deriv_at w.1 d) (λ v. Ok (whole x.0 y.0 z.0 w.0 v.0, v.1)) (t, n) others3 in
    let h0 = name_spells f inner x.0 x.1 read0 in
    let h1 = logicals_spell xs x.1 y.0 y.1 read1 in
    let h2 = exp_spells p y.1 z.0 z.1 read2 in
    let h3 = exp_spells q z.1 w.0 w.1 read3 in
    let h4 = deriv_spells d w.1 v.0 v.1 read4 in
    let same = value_ok (whole x.0 y.0 z.0 w.0 v.0) v.1 t n last in (
      ap (λ us. Node (more (Atom triple_word) us)) (five_is ts (f, xs, p, q, d) is ∙ five_same h0.0 h1.0 h2.0 h3.0 h4.0) ∙ ap triple_tree same,
      ap is_triple (sym same)
          ∙ and_from (is_name x.0) (each is_logical y.0 && (is_exp z.0 && (is_exp w.0 && is_deriv v.0))) h0.1
          (and_from (each is_logical y.0) (is_exp z.0 && (is_exp w.0 && is_deriv v.0)) h1.1
          (and_from (is_exp z.0) (is_exp w.0 && is_deriv v.0) h2.1 (and_from (is_exp w.0) (is_deriv v.0) h3.1 h4.1))),
    )

pub triple_spells : (t : Tree) (at : ℕ) (x : Triple) (n : ℕ) → triple_at at t ≡ Ok (x, n) → IsTripleTree t x
triple_spells t at x n read = by_head (headed_in t) refl read
  where
    by_word : (w : Name) (ts : Trees) (b : Bool) → headed_in t ≡ Some (w, ts) → same_name w triple_word ≡ b → cond {A = Read Triple} b (triple_row at (next (next at)) (five_of ts)) (Err at) ≡ Ok (x, n) → IsTripleTree t x
    by_word w ts false e f g = absurd cc
    by_word w ts true e f g = let h = row_spells ts at (next (next at)) x n (five_of ts) refl g in (headed_is t w ts e ∙ ap (λ v. Node (more (Atom v) ts)) (name_is w triple_word f) ∙ h.0, h.1)

    by_head : (o : Option (Name × Trees)) → headed_in t ≡ o → triple_by at o ≡ Ok (x, n) → IsTripleTree t x
    by_head None e g = absurd cc
    by_head (Some (w, ts)) e g = by_word w ts (same_name w triple_word) e refl g

-- triples
pub triples_read : (ts : List Triple) → are_triples ts ≡ true → IsReadAs triples_at (triples_tree ts) ts
triples_read ts is = λ at. list_reads triple_at triple_tree is_triple triple_reads ts is (next (next (next at)))

version_spells : (w : Name) (us : Trees) (at : ℕ) (ts : List Triple) (n : ℕ) (b : Bool) → same_name w version_word ≡ b → cond {A = Read (List Triple)} b (list_at triple_at (next at) us) (Err at) ≡ Ok (ts, n) →
    AreTriplesTree (Node (more (Atom triples_word) (more (Atom w) us))) ts
version_spells w us at ts n false e read = absurd cc
version_spells w us at ts n true e read =
    let h = list_spells triple_at triple_tree is_triple triple_spells us (next at) ts n read in
    (ap₂ (λ v vs. Node (more (Atom triples_word) (more (Atom v) vs))) (name_is w version_word e) h.0, h.1)

rows_spell : (us : Trees) (at : ℕ) (ts : List Triple) (n : ℕ) → version_row at (first_of us) ≡ Ok (ts, n) → AreTriplesTree (Node (more (Atom triples_word) us)) ts
rows_spell (more (Atom w) us) at ts n read = version_spells w us (next (next at)) ts n (same_name w version_word) refl read
rows_spell _ at ts n read = absurd cc

pub triples_spell : (t : Tree) (at : ℕ) (ts : List Triple) (n : ℕ) → triples_at at t ≡ Ok (ts, n) → AreTriplesTree t ts
triples_spell t at ts n read = by_head (headed_in t) refl read
  where
    by_word : (w : Name) (us : Trees) (b : Bool) → headed_in t ≡ Some (w, us) → same_name w triples_word ≡ b → cond {A = Read (List Triple)} b (version_row at (first_of us)) (Err at) ≡ Ok (ts, n) → AreTriplesTree t ts
    by_word w us false e f g = absurd cc
    by_word w us true e f g = let h = rows_spell us at ts n g in (headed_is t w us e ∙ ap (λ v. Node (more (Atom v) us)) (name_is w triples_word f) ∙ h.0, h.1)

    by_head : (o : Option (Name × Trees)) → headed_in t ≡ o → triples_by at o ≡ Ok (ts, n) → AreTriplesTree t ts
    by_head None e g = absurd cc
    by_head (Some (w, us)) e g = by_word w us (same_name w triples_word) e refl g
