-- Lists of parts are read as the parts that their trees are of.
use Rattle.std.proofs.Common.{◌≡◌, ℕ, Bool, true, false, cond, not, ◌&&◌, ◌||◌, List, [], ◌∷◌, ◌++◌, map, Ok, Err, refl, ap, ap₂, sym, ◌∙◌, if◌then◌else◌}
use Rattle.std.proofs.lemmas.Bool.{and_parts, and_from, cond-false, not-true, not_from_false}
use Rattle.std.proofs.lemmas.List.Folds.{list_any-append}
use Rattle.c_values.specs.Name.{Name, same_name, is_among, are_distinct}
use Rattle.ac_sx.specs.Tree.{Tree, Trees, Atom, Node, no_trees, more}
use Rattle.c_values.proofs.Names.{same_name_swapped}
use Rattle.expression_lang.specs.Expression.{Exp}
use Rattle.expression_text.specs.Reading.{Read, next, ◌>>=◌}
use Rattle.expression_text.specs.Names.{is_name, name_at}
use Rattle.expression_text.specs.ExpText.{exp_tree, is_exp}
use Rattle.expression_text.specs.ExpReading.{exp_at}
use Rattle.expression_text.specs.Lists.{each, trees_for, list_at, exp_trees, exps_at, new_name_at, named_at, names_tree, names_at}
use Rattle.expression_text.proofs.Behind.{behind, IsReadAs, AreReadAs, bind_ok, value_ok}
use Rattle.expression_text.proofs.TypesText.{name_reads, name_spells}
use Rattle.expression_text.proofs.ExpsText.{exp_reads, exp_spells}

-- the tree of such a part
abbrev pub IsPart : {A : Type 0} → (A → Tree) → (A → Bool) → Tree → A → Type 0
IsPart tree test t x = (t ≡ tree x) × (test x ≡ true)

abbrev pub AreParts : {A : Type 0} → (A → Tree) → (A → Bool) → Trees → List A → Type 0
AreParts tree test ts xs = (ts ≡ trees_for tree xs) × (each test xs ≡ true)

parts_moved : {A : Type 0} (tree : A → Tree) (test : A → Bool) (ts : Trees) (xs ys : List A) → xs ≡ ys → ts ≡ trees_for tree xs → each test xs ≡ true → AreParts tree test ts ys
parts_moved tree test ts xs ys same is fine = (is ∙ ap (trees_for tree) same, ap (each test) (sym same) ∙ fine)

pub list_reads : {A : Type 0} (read : ℕ → Tree → Read A) (tree : A → Tree) (test : A → Bool) → ((x : A) → test x ≡ true → IsReadAs read (tree x) x) → (xs : List A) → each test xs ≡ true → AreReadAs (list_at read) (trees_for tree xs) xs
list_reads read tree test h [] is = λ at. refl
list_reads read tree test h (x ∷ xs) is = λ at.
    let p = and_parts (test x) (each test xs) is in
    ap (λ r. r >>= λ y. list_at read y.1 (trees_for tree xs) >>= λ z. Ok (y.0 ∷ z.0, z.1)) (h x p.0 at)
    ∙ ap (λ r. r >>= λ z. Ok (x ∷ z.0, z.1)) (list_reads read tree test h xs p.1 (behind at (tree x)))

pub list_spells : {A : Type 0} (read : ℕ → Tree → Read A) (tree : A → Tree) (test : A → Bool) → ((t : Tree) (at : ℕ) (x : A) (n : ℕ) → read at t ≡ Ok (x, n) → IsPart tree test t x) → (ts : Trees) (at : ℕ) (xs : List A) (n : ℕ) → list_at read at ts ≡ Ok (xs, n) → AreParts tree test ts xs
list_spells read tree test h no_trees at xs n e = parts_moved tree test no_trees [] xs (value_ok [] at xs n e) refl refl
list_spells read tree test h (more t ts) at xs n e =
    let (x, first, others) = bind_ok (read at t) (λ x. list_at read x.1 ts >>= λ y. Ok (x.0 ∷ y.0, y.1)) (xs, n) e in
    let (y, second, last) = bind_ok (list_at read x.1 ts) (λ y. Ok (x.0 ∷ y.0, y.1)) (xs, n) others in
    let p = h t at x.0 x.1 first in
    let q = list_spells read tree test h ts x.1 y.0 y.1 second in
    parts_moved tree test (more t ts) (x.0 ∷ y.0) xs (value_ok (x.0 ∷ y.0) y.1 xs n last) (ap₂ more p.0 q.0) (and_from (test x.0) (each test y.0) p.1 q.1)

-- names that are none of those before them, nor of each other
abbrev pub are_new : List Name → List Name → Bool
are_new before [] = true
are_new before (x ∷ xs) = not (is_among x before) && are_new (before ++ x ∷ []) xs

abbrev none_among : List Name → List Name → Bool
none_among before [] = true
none_among before (x ∷ xs) = not (is_among x before) && none_among before xs

none_of_none : (xs : List Name) → none_among [] xs ≡ true
none_of_none [] = refl
none_of_none (x ∷ xs) = none_of_none xs

split : (a b c d : Bool) → (not (a || (b || false)) && (c && not d)) ≡ ((not a && c) && not (b || d))
split false true false d = refl
split false false false d = refl
split _ _ _ _ = refl

none_more : (before : List Name) (x : Name) (ys : List Name) → none_among (before ++ x ∷ []) ys ≡ (none_among before ys && not (is_among x ys))
none_more before x [] = refl
none_more before x (y ∷ ys) =
    ap₂ (λ a b. not a && b) (list_any-append (same_name y) before (x ∷ [])) (none_more before x ys)
    ∙ ap (λ s. not (is_among y before || (s || false)) && (none_among before ys && not (is_among x ys))) (same_name_swapped y x)
    ∙ split (is_among y before) (same_name x y) (none_among before ys) (is_among x ys)

regroup : (a b c d : Bool) → (a && ((b && c) && d)) ≡ ((a && b) && (c && d))
regroup true true c d = refl
regroup _ _ _ _ = refl

new_is : (before xs : List Name) → are_new before xs ≡ (none_among before xs && are_distinct xs)
new_is before [] = refl
new_is before (x ∷ xs) =
    ap (λ b. not (is_among x before) && b) (new_is (before ++ x ∷ []) xs)
    ∙ ap (λ b. not (is_among x before) && (b && are_distinct xs)) (none_more before x xs)
    ∙ regroup (not (is_among x before)) (none_among before xs) (not (is_among x xs)) (are_distinct xs)

pub new_distinct : (xs : List Name) → are_new [] xs ≡ are_distinct xs
new_distinct xs = new_is [] xs ∙ ap (λ b. b && are_distinct xs) (none_of_none xs)

pub named_reads : {A : Type 0} (name : A → Name) (read : List Name → ℕ → Tree → Read A) (tree : A → Tree) (test : A → Bool) → ((before : List Name) (x : A) → test x ≡ true → is_among (name x) before ≡ false → IsReadAs (read before) (tree x) x) →
    (before : List Name) (xs : List A) → each test xs ≡ true → are_new before (map name xs) ≡ true → AreReadAs (named_at name read before) (trees_for tree xs) xs
named_reads name read tree test h before [] is new = λ at. refl
named_reads name read tree test h before (x ∷ xs) is new = λ at.
    let p = and_parts (test x) (each test xs) is in
    let q = and_parts (not (is_among (name x) before)) (are_new (before ++ name x ∷ []) (map name xs)) new in
    ap (λ r. r >>= λ y. named_at name read (before ++ name y.0 ∷ []) y.1 (trees_for tree xs) >>= λ z. Ok (y.0 ∷ z.0, z.1)) (h before x p.0 (not-true (is_among (name x) before) q.0) at)
    ∙ ap (λ r. r >>= λ z. Ok (x ∷ z.0, z.1)) (named_reads name read tree test h (before ++ name x ∷ []) xs p.1 q.1 (behind at (tree x)))

abbrev pub AreNamed : {A : Type 0} → (A → Name) → (A → Tree) → (A → Bool) → List Name → Trees → List A → Type 0
AreNamed name tree test before ts xs = (ts ≡ trees_for tree xs) × (each test xs ≡ true) × (are_new before (map name xs) ≡ true)

named_moved : {A : Type 0} (name : A → Name) (tree : A → Tree) (test : A → Bool) (before : List Name) (ts : Trees) (xs ys : List A) → xs ≡ ys → AreNamed name tree test before ts xs → AreNamed name tree test before ts ys
named_moved {A} name tree test before ts xs ys same is = (is.0 ∙ ap (trees_for tree) same, ap (each test) (sym same) ∙ is.1, ap (λ (zs : List A). are_new before (map name zs)) (sym same) ∙ is.2)

pub named_spells : {A : Type 0} (name : A → Name) (read : List Name → ℕ → Tree → Read A) (tree : A → Tree) (test : A → Bool) →
    ((before : List Name) (t : Tree) (at : ℕ) (x : A) (n : ℕ) → read before at t ≡ Ok (x, n) → (t ≡ tree x) × (test x ≡ true) × (is_among (name x) before ≡ false)) →
    (before : List Name) (ts : Trees) (at : ℕ) (xs : List A) (n : ℕ) → named_at name read before at ts ≡ Ok (xs, n) → AreNamed name tree test before ts xs
named_spells name read tree test h before no_trees at xs n e = named_moved name tree test before no_trees [] xs (value_ok [] at xs n e) (refl, refl, refl)
named_spells name read tree test h before (more t ts) at xs n e =
    let (x, first, others) = bind_ok (read before at t) (λ x. named_at name read (before ++ name x.0 ∷ []) x.1 ts >>= λ y. Ok (x.0 ∷ y.0, y.1)) (xs, n) e in
    let (y, second, last) = bind_ok (named_at name read (before ++ name x.0 ∷ []) x.1 ts) (λ y. Ok (x.0 ∷ y.0, y.1)) (xs, n) others in
    let p = h before t at x.0 x.1 first in
    let q = named_spells name read tree test h (before ++ name x.0 ∷ []) ts x.1 y.0 y.1 second in
    named_moved name tree test before (more t ts) (x.0 ∷ y.0) xs (value_ok (x.0 ∷ y.0) y.1 xs n last) (
      ap₂ more p.0 q.0,
      and_from (test x.0) (each test y.0) p.1 q.1,
      and_from (not (is_among (name x.0) before)) (are_new (before ++ name x.0 ∷ []) (map name y.0)) (not_from_false (is_among (name x.0) before) p.2) q.2,
    )

-- expressions
pub exps_read : (es : List Exp) → each is_exp es ≡ true → AreReadAs exps_at (exp_trees es) es
exps_read es is = list_reads exp_at exp_tree is_exp exp_reads es is

pub exps_spell : (ts : Trees) (at : ℕ) (es : List Exp) (n : ℕ) → exps_at at ts ≡ Ok (es, n) → AreParts exp_tree is_exp ts es
exps_spell ts at es n e = list_spells exp_at exp_tree is_exp exp_spells ts at es n e

-- names
pub new_name_reads : (before : List Name) (x : Name) → is_name x ≡ true → is_among x before ≡ false → IsReadAs (new_name_at before) (Atom x) x
new_name_reads before x is new = λ at.
    ap (λ r. r >>= λ y. if is_among y.0 before then Err at else Ok y) (name_reads x is at)
    ∙ cond-false (is_among x before) (Err at) (Ok (x, next at)) new

pub new_name_spells : (before : List Name) (t : Tree) (at : ℕ) (x : Name) (n : ℕ) → new_name_at before at t ≡ Ok (x, n) → (t ≡ Atom x) × (is_name x ≡ true) × (is_among x before ≡ false)
new_name_spells before t at x n e =
    let (y, first, others) = bind_ok (name_at at t) (λ y. if is_among y.0 before then Err at else Ok y) (x, n) e in
    tested y (is_among y.0 before) refl first others
  where
    tested : (y : Name × ℕ) (b : Bool) → is_among y.0 before ≡ b → name_at at t ≡ Ok y → cond {A = Read Name} b (Err at) (Ok y) ≡ Ok (x, n) → (t ≡ Atom x) × (is_name x ≡ true) × (is_among x before ≡ false)
    tested y true new first g = absurd cc
    tested y false new first g =
        let same = value_ok y.0 y.1 x n g in
        let p = name_spells t at y.0 y.1 first in
        (p.0 ∙ ap Atom same, ap is_name (sym same) ∙ p.1, ap (λ z. is_among z before) (sym same) ∙ new)

pub names_read : (xs : List Name) → each is_name xs ≡ true → are_distinct xs ≡ true → IsReadAs names_at (names_tree xs) xs
names_read xs is apart = λ at. named_reads (λ x. x) new_name_at Atom is_name new_name_reads [] xs is (ap (are_new []) (itself xs) ∙ new_distinct xs ∙ apart) (next at)
  where
    itself : (ys : List Name) → map (λ y. y) ys ≡ ys
    itself [] = refl
    itself (y ∷ ys) = ap (λ zs. y ∷ zs) (itself ys)

pub names_spell : (t : Tree) (at : ℕ) (xs : List Name) (n : ℕ) → names_at at t ≡ Ok (xs, n) → (t ≡ names_tree xs) × (each is_name xs ≡ true) × (are_distinct xs ≡ true)
names_spell (Atom word) at xs n e = absurd cc
names_spell (Node ts) at xs n e =
    let p = named_spells (λ x. x) new_name_at Atom is_name new_name_spells [] ts (next at) xs n e in
    (ap Node p.0, p.1, sym (new_distinct xs) ∙ ap (are_new []) (sym (itself xs)) ∙ p.2)
  where
    itself : (ys : List Name) → map (λ y. y) ys ≡ ys
    itself [] = refl
    itself (y ∷ ys) = ap (λ zs. y ∷ zs) (itself ys)
