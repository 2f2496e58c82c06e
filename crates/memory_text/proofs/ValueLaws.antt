-- A value is read from its tree, and what is read is the value whose tree it is.
use Rattle.std.proofs.Common.{◌≡◌, ℕ, suc, Bool, true, false, cond, ℤ, List, [], ◌∷◌, length, Option, Some, None, Ok, Err, refl, ap, ap₂, sym, ◌∙◌, eq-eqb, if◌then◌else◌}
use Rattle.std.specs.Prelude.{◌==◌}
use Rattle.std.proofs.lemmas.Bool.{and_parts, and_from, cond-true}
use Rattle.c_values.specs.Types.{Target, Integer, Ptr}
use Rattle.c_values.specs.Layout.{Shape, Scalar}
use Rattle.c_values.specs.Value as V
use Rattle.c_values.specs.Value.{Value, Values, Number, Parts, no_values}
use Rattle.ac_sx.specs.Tree.{Tree, Trees, Atom, Node, no_trees, more}
use Rattle.expression_text.specs.Reading.{Read, next, ◌>>=◌, made}
use Rattle.expression_text.specs.Numbers.{is_number, number_at}
use Rattle.expression_text.proofs.Behind.{behind, all_behind, IsReadAs, AreReadAs, bind_ok, kept_ok, value_ok}
use Rattle.expression_text.proofs.LeavesText.{number_reads, number_spells}
use Rattle.memory_text.specs.ValueText.{value_tree, value_trees, parts_of, is_number_of, where_parts, is_value, are_values}
use Rattle.memory_text.specs.ValueReading.{number_value_at, tree_count, counted, value_at, values_at}
use Rattle.memory_text.proofs.Ranges.{integer_number, address_number}

pub has_decimal : (g : Target) (s : Shape) (n : ℤ) → is_number_of g s n ≡ true → is_number n ≡ true
has_decimal g (Scalar (Integer i) width) n is = integer_number g i n is
has_decimal g (Scalar (Ptr t) width) n is = address_number g n is
has_decimal g _ n is = absurd cc

abbrev kept : Target → Shape → ℕ → ℤ × ℕ → Read Value
kept g s at x = if is_number_of g s x.0 then Ok (Number x.0, x.1) else Err at

-- there is one of each
pub as_many : (g : Target) (ss : List Shape) (vs : Values) → are_values g ss vs ≡ true → tree_count (value_trees vs) ≡ length ss
as_many g [] no_values is = refl
as_many g (s ∷ ss) (V.more v vs) is = ap suc (as_many g ss vs (and_parts (is_value g s v) (are_values g ss vs) is).1)
as_many g [] (V.more v vs) is = absurd cc
as_many g (s ∷ ss) no_values is = absurd cc

pub counted_as : {A : Type 0} (at : ℕ) (ts : Trees) (ss : List Shape) (read : List Shape → Read A) → tree_count ts ≡ length ss → counted at ts (Some ss) read ≡ read ss
counted_as at ts ss read same = cond-true (tree_count ts == length ss) (read ss) (Err at) (eq-eqb (tree_count ts) (length ss) same)

parts_read : (g : Target) (vs : Values) (at : ℕ) (o : Option (List Shape)) → where_parts o (λ ss. are_values g ss vs) ≡ true →
    ((ss : List Shape) → are_values g ss vs ≡ true → values_at g ss (next at) (value_trees vs) ≡ Ok (vs, all_behind (next at) (value_trees vs))) →
    made (λ ws. Parts ws) (counted at (value_trees vs) o (λ ss. values_at g ss (next at) (value_trees vs))) ≡ Ok (Parts vs, behind at (value_tree (Parts vs)))
parts_read g vs at None h read = absurd cc
parts_read g vs at (Some ss) h read = ap (made (λ ws. Parts ws)) (counted_as at (value_trees vs) ss (λ rs. values_at g rs (next at) (value_trees vs)) (as_many g ss vs h) ∙ read ss h)

mutual
  pub value_reads : (g : Target) (s : Shape) (v : Value) → is_value g s v ≡ true → IsReadAs (value_at g s) (value_tree v) v
  value_reads g s (Number n) is = λ at.
      ap (λ r. r >>= kept g s at) (number_reads n (has_decimal g s n is) at)
      ∙ cond-true (is_number_of g s n) (Ok (Number n, next at)) (Err at) is
  value_reads g s (Parts vs) is = λ at. parts_read g vs at (parts_of s) is (λ ss h. values_read g ss vs h (next at))
  value_reads g s _ is = absurd cc

  pub values_read : (g : Target) (ss : List Shape) (vs : Values) → are_values g ss vs ≡ true → AreReadAs (values_at g ss) (value_trees vs) vs
  values_read g [] no_values is = λ at. refl
  values_read g (s ∷ ss) (V.more v vs) is = λ at.
      let p = and_parts (is_value g s v) (are_values g ss vs) is in
      ap (λ r. r >>= λ x. values_at g ss x.1 (value_trees vs) >>= λ y. Ok (V.more x.0 y.0, y.1)) (value_reads g s v p.0 at)
      ∙ ap (λ r. r >>= λ y. Ok (V.more v y.0, y.1)) (values_read g ss vs p.1 (behind at (value_tree v)))
  values_read g [] (V.more v vs) is = absurd cc
  values_read g (s ∷ ss) no_values is = absurd cc

abbrev pub IsValueText : Target → Shape → Tree → Value → Type 0
IsValueText g s t v = (t ≡ value_tree v) × (is_value g s v ≡ true)

abbrev pub AreValueTexts : Target → List Shape → Trees → Values → Type 0
AreValueTexts g ss ts vs = (ts ≡ value_trees vs) × (are_values g ss vs ≡ true)

pub moved : (g : Target) (s : Shape) (t : Tree) (v w : Value) → v ≡ w → IsValueText g s t v → IsValueText g s t w
moved g s t v w same is = (is.0 ∙ ap value_tree same, ap (is_value g s) (sym same) ∙ is.1)

all_moved : (g : Target) (ss : List Shape) (ts : Trees) (vs ws : Values) → vs ≡ ws → AreValueTexts g ss ts vs → AreValueTexts g ss ts ws
all_moved g ss ts vs ws same is = (is.0 ∙ ap value_trees same, ap (are_values g ss) (sym same) ∙ is.1)

pub made_ok : {A B : Type 0} (f : A → B) (r : Read A) (y : B) (n : ℕ) → made f r ≡ Ok (y, n) → (x : A) × (r ≡ Ok (x, n)) × (f x ≡ y)
made_ok {A} {B} f (Ok (x, m)) y n e = let h : ◌≡◌ {A = B × ℕ} (f x, m) (y, n) = cc in (x, ap (λ (k : ℕ). Ok (x, k)) (ap (λ (p : B × ℕ). p.1) h), ap (λ (p : B × ℕ). p.0) h)
made_ok f (Err m) y n e = absurd cc

-- what is read of so many parts
pub counted_ok : {A : Type 0} (at : ℕ) (ts : Trees) (ss : List Shape) (read : List Shape → Read A) (x : A) (n : ℕ) → counted at ts (Some ss) read ≡ Ok (x, n) → read ss ≡ Ok (x, n)
counted_ok at ts ss read x n e = by (tree_count ts == length ss) e
  where
    by : (b : Bool) → cond b (read ss) (Err at) ≡ Ok (x, n) → read ss ≡ Ok (x, n)
    by true f = f
    by false f = absurd cc

number_value_spells : (g : Target) (s : Shape) (t : Tree) (at : ℕ) (v : Value) (n : ℕ) → number_value_at g s at t ≡ Ok (v, n) → IsValueText g s t v
number_value_spells g s t at v n e =
    let (x, first, last) = bind_ok (number_at at t) (kept g s at) (v, n) e in
    let p = kept_ok (is_number_of g s x.0) (Number x.0) x.1 at v n last in
    moved g s t (Number x.0) v p.1 ((number_spells t at x.0 x.1 first).0, p.0)

parts_spell : (g : Target) (s : Shape) (ts : Trees) (at : ℕ) (v : Value) (n : ℕ) (o : Option (List Shape)) → parts_of s ≡ o → made (λ ws. Parts ws) (counted at ts o (λ ss. values_at g ss (next at) ts)) ≡ Ok (v, n) →
    ((ss : List Shape) (vs : Values) → values_at g ss (next at) ts ≡ Ok (vs, n) → AreValueTexts g ss ts vs) → IsValueText g s (Node ts) v
parts_spell g s ts at v n None f h read = absurd cc
parts_spell g s ts at v n (Some ss) f h read =
    let (vs, there, same) = made_ok (λ ws. Parts ws) (counted at ts (Some ss) (λ rs. values_at g rs (next at) ts)) v n h in
    let p = read ss vs (counted_ok at ts ss (λ rs. values_at g rs (next at) ts) vs n there) in
    moved g s (Node ts) (Parts vs) v same (ap Node p.0, ap (λ o. where_parts o (λ rs. are_values g rs vs)) f ∙ p.1)

mutual
  pub value_spells : (g : Target) (s : Shape) (t : Tree) (at : ℕ) (v : Value) (n : ℕ) → value_at g s at t ≡ Ok (v, n) → IsValueText g s t v
  value_spells g s (Atom word) at v n e = number_value_spells g s (Atom word) at v n e
  value_spells g s (Node ts) at v n e = parts_spell g s ts at v n (parts_of s) refl e (λ ss vs read. values_spell g ss ts (next at) vs n read)

  pub values_spell : (g : Target) (ss : List Shape) (ts : Trees) (at : ℕ) (vs : Values) (n : ℕ) → values_at g ss at ts ≡ Ok (vs, n) → AreValueTexts g ss ts vs
  values_spell g [] no_trees at vs n e = all_moved g [] no_trees no_values vs (value_ok no_values at vs n e) (refl, refl)
  values_spell g (s ∷ ss) (more t ts) at vs n e =
      let (x, first, others) = bind_ok (value_at g s at t) (λ x. values_at g ss x.1 ts >>= λ y. Ok (V.more x.0 y.0, y.1)) (vs, n) e in
      let (y, second, last) = bind_ok (values_at g ss x.1 ts) (λ y. Ok (V.more x.0 y.0, y.1)) (vs, n) others in
      let p = value_spells g s t at x.0 x.1 first in
      let q = values_spell g ss ts x.1 y.0 y.1 second in
      all_moved g (s ∷ ss) (more t ts) (V.more x.0 y.0) vs (value_ok (V.more x.0 y.0) y.1 vs n last) (ap₂ more p.0 q.0, and_from (is_value g s x.0) (are_values g ss y.0) p.1 q.1)
  values_spell g [] (more t ts) at vs n e = absurd cc
  values_spell g (s ∷ ss) no_trees at vs n e = absurd cc
