-- The lists that are being read, as their table grows.
use Rattle.std.proofs.Common.{◌≡◌, ℕ, ◌==◌, ◌≤◌, true, false, ◌&&◌, nat_lt, List, [], ◌∷◌, ◌++◌, length, map, reverse, get_or, slice_get, Some, refl, ap, ap₂, sym, ◌∙◌, arith}
use Rattle.std.specs.Prelude.{Vec}
use Rattle.std.specs.List.{list_all}
use Rattle.std.specs.declared.alloc.Global.{Global}
use Rattle.std.proofs.lemmas.Bool.{and_parts, and_from, ltb-true, lt-ltb}
use Rattle.std.proofs.lemmas.List.{length-append, map-append, reverse-append}
use Rattle.std.proofs.lemmas.List.Folds.{list_all-append}
use Rattle.std.proofs.lemmas.Option.{slice_get_within, get_or_from_slice_get}
use Rattle.ac_sx.specs.declared.terms.TermId.{TermId}
use Rattle.ac_sx.specs.Tree.{Tree, Trees, Atom, Node, no_trees, more}
use Rattle.ac_sx.specs.CodeSx.{pushed}
use Rattle.ac_sx.specs.Table.{Entry, trees_at, trees_of, are_below, Keeps}
use Rattle.ac_sx.specs.CodeBuilder.{Building, placed, left, left_to, flushed}
use Rattle.ac_sx.specs.CodeTermReader.{Open, numbers, with_part, building_in, are_open_below, Stands}
use Rattle.ac_sx.proofs.Tabled.{length-trees_of, trees_of-kept, trees_at-kept}

pub keeps_length : (old new : List Entry) → Keeps old new → length old ≤ length new
keeps_length old new (rest, same) = let n = ap length same in let m = length-append old rest in omega (arith, n, m)

pub raised : (m n : ℕ) (is : List ℕ) → m ≤ n → are_below m is ≡ true → are_below n is ≡ true
raised m n [] le below = refl
raised m n (i ∷ is) le below =
    let h = and_parts (nat_lt i m) (are_below m is) below in
    let lt = ltb-true i m h.0 in
    and_from (nat_lt i n) (are_below n is) (lt-ltb i n (omega arith)) (raised m n is le h.1)

all_raised : (m n : ℕ) (lists : List (List ℕ)) → m ≤ n → list_all (are_below m) lists ≡ true → list_all (are_below n) lists ≡ true
all_raised m n [] le below = refl
all_raised m n (is ∷ lists) le below =
    let h = and_parts (are_below m is) (list_all (are_below m) lists) below in
    and_from (are_below n is) (list_all (are_below n) lists) (raised m n is le h.0) (all_raised m n lists le h.1)

pub open_raised : (m n : ℕ) (o : Open) → m ≤ n → are_open_below m o ≡ true → are_open_below n o ≡ true
open_raised m n o le below =
    let h = and_parts (are_below m o.parts) (list_all (are_below m) o.around) below in
    and_from (are_below n o.parts) (list_all (are_below n) o.around) (raised m n o.parts le h.0) (all_raised m n o.around le h.1)

all_kept : (ts rest : List Tree) (lists : List (List ℕ)) → list_all (are_below (length ts)) lists ≡ true → map (trees_at (ts ++ rest)) lists ≡ map (trees_at ts) lists
all_kept ts rest [] below = refl
all_kept ts rest (is ∷ lists) below =
    let h = and_parts (are_below (length ts) is) (list_all (are_below (length ts)) lists) below in
    ap₂ (λ x xs. x ∷ xs) (trees_at-kept ts rest is h.0) (all_kept ts rest lists h.1)

abbrev building : Trees → List Trees → Building
building parts around = record { parts = parts; around = around }

building_kept : (ts rest : List Tree) (o : Open) → are_open_below (length ts) o ≡ true → building (trees_at (ts ++ rest) o.parts) (map (trees_at (ts ++ rest)) o.around) ≡ building (trees_at ts o.parts) (map (trees_at ts) o.around)
building_kept ts rest o below =
    let h = and_parts (are_below (length ts) o.parts) (list_all (are_below (length ts)) o.around) below in
    ap₂ building (trees_at-kept ts rest o.parts h.0) (all_kept ts rest o.around h.1)

-- the trees of the open lists stay
pub stands_kept : (old new : List Entry) (o : Open) → are_open_below (length old) o ≡ true → Keeps old new → building_in new o ≡ building_in old o
stands_kept old new o below kept =
    let (rest, same) = trees_of-kept old new kept in
    ap (λ ts. building (trees_at ts o.parts) (map (trees_at ts) o.around)) same
    ∙ building_kept (trees_of old) rest o (ap (λ n. are_open_below n o) (length-trees_of old) ∙ below)

pub trees_at-push : (ts : List Tree) (is : List ℕ) (i : ℕ) → trees_at ts (is ++ i ∷ []) ≡ pushed (trees_at ts is) (get_or ts i (Node no_trees))
trees_at-push ts [] i = refl
trees_at-push ts (x ∷ xs) i = ap (λ us. more (get_or ts x (Node no_trees)) us) (trees_at-push ts xs i)

-- one part more
pub stands_placed : (old new : List Entry) (o : Open) (i : ℕ) (t : Tree) → are_open_below (length old) o ≡ true → Keeps old new → slice_get (trees_of new) i ≡ Some t → Stands new (with_part o i) (placed (building_in old o) t)
stands_placed old new o i t below kept at =
    let up = open_raised (length old) (length new) o (keeps_length old new kept) below in
    let h = and_parts (are_below (length new) o.parts) (list_all (are_below (length new)) o.around) up in
    let within = slice_get_within (trees_of new) i t at in
    let long = length-trees_of new in
    let i_below : nat_lt i (length new) ≡ true = lt-ltb i (length new) (omega (arith, within, long)) in
    record {
      below =
          and_from (are_below (length new) (o.parts ++ i ∷ [])) (list_all (are_below (length new)) o.around)
          (list_all-append (λ x. nat_lt x (length new)) o.parts (i ∷ []) ∙ and_from (are_below (length new) o.parts) (nat_lt i (length new) && true) h.0 (and_from (nat_lt i (length new)) true i_below refl))
          h.1;
      same =
          ap (λ us. building us (map (trees_at (trees_of new)) o.around)) (trees_at-push (trees_of new) o.parts i ∙ ap (pushed (trees_at (trees_of new) o.parts)) (get_or_from_slice_get (trees_of new) i t (Node no_trees) at))
          ∙ ap (λ b. placed b t) (stands_kept old new o below kept);
    }

abbrev pub opened : List ℕ → List (List ℕ) → Open
opened parts around = record { parts = parts; around = around }

-- the end of a list
pub stands_left : (old new : List Entry) (o : Open) (outer : List ℕ) (rest : List (List ℕ)) (i : ℕ) → o.around ≡ outer ∷ rest → are_open_below (length old) o ≡ true → Keeps old new →
    slice_get (trees_of new) i ≡ Some (Node (trees_at (trees_of old) o.parts)) → Stands new (with_part (opened outer rest) i) (left (building_in old o))
stands_left old new o outer rest i popped below kept at =
    let h = and_parts (are_below (length old) o.parts) (list_all (are_below (length old)) o.around) below in
    let around : list_all (are_below (length old)) (outer ∷ rest) ≡ true = ap (list_all (are_below (length old))) (sym popped) ∙ h.1 in
    let stands = stands_placed old new (opened outer rest) i (Node (trees_at (trees_of old) o.parts)) around kept at in
    record {
      below = stands.below;
      same = stands.same ∙ ap (λ lists. left_to (trees_at (trees_of old) o.parts) (map (trees_at (trees_of old)) lists)) (sym popped);
    }

pub around-pop : (xs : List (Vec TermId Global)) (x : Vec TermId Global) → reverse (map (λ (v : Vec TermId Global). numbers v.items) (xs ++ x ∷ [])) ≡ numbers x.items ∷ reverse (map (λ (v : Vec TermId Global). numbers v.items) xs)
around-pop xs x =
    ap reverse (map-append (λ (v : Vec TermId Global). numbers v.items) xs (x ∷ []))
    ∙ reverse-append (map (λ (v : Vec TermId Global). numbers v.items) xs) (numbers x.items ∷ [])

pub flushed_some : (b : Building) (w : List ℕ) → (length w == 0) ≡ false → flushed b w ≡ placed b (Atom w)
flushed_some b [] e = absurd cc
flushed_some b (c ∷ cs) e = refl
