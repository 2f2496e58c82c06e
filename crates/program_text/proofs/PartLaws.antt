-- Lists of so many parts, and starts.
use Rattle.std.proofs.Common.{◌≡◌, ℕ, true, false, List, [], ◌∷◌, Option, Some, None, Ok, refl, ap, ap₂, sym, ◌∙◌, map}
use Rattle.std.proofs.lemmas.Bool.{and_parts, and_from}
use Rattle.c_values.specs.Name.{Name, is_among, are_distinct}
use Rattle.ac_sx.specs.Tree.{Tree, Trees, Atom, Node, no_trees, more}
use Rattle.ac_sx.specs.CodeSx.{two_of, three_of, first_of}
use Rattle.expression_lang.specs.Expression.{Exp}
use Rattle.expression_text.specs.Reading.{next, ◌>>=◌}
use Rattle.expression_text.specs.Names.{is_name}
use Rattle.expression_text.specs.ExpText.{exp_tree, is_exp}
use Rattle.expression_text.specs.ExpReading.{exp_at}
use Rattle.expression_text.specs.Lists.{each, trees_for, new_name_at}
use Rattle.expression_text.proofs.Behind.{IsReadAs, bind_ok, value_ok}
use Rattle.expression_text.proofs.ExpsText.{exp_reads, exp_spells}
use Rattle.expression_text.proofs.ListLaws.{are_new, new_distinct, named_reads, named_spells, new_name_reads, new_name_spells}
use Rattle.monad_lang.specs.Program.{Start}
use Rattle.monad_lang.specs.Run.{start_names}
use Rattle.program_text.specs.MonText.{two, three, four, start_tree, is_start}
use Rattle.program_text.specs.MonReading.{four_of, start_row, start_at, starts_at}

pub two_is : (ts : Trees) (x : Tree × Tree) → two_of ts ≡ Some x → ts ≡ two x.0 x.1
two_is (more t (more u no_trees)) x e = let same : ◌≡◌ {A = Tree × Tree} (t, u) x = cc in ap (λ (y : Tree × Tree). two y.0 y.1) same
two_is _ x e = absurd cc

pub three_is : (ts : Trees) (x : Tree × Tree × Tree) → three_of ts ≡ Some x → ts ≡ three x.0 x.1 x.2
three_is (more t (more u (more v no_trees))) x e = let same : ◌≡◌ {A = Tree × Tree × Tree} (t, u, v) x = cc in ap (λ (y : Tree × Tree × Tree). three y.0 y.1 y.2) same
three_is _ x e = absurd cc

pub four_is : (ts : Trees) (x : Tree × Tree × Tree × Tree) → four_of ts ≡ Some x → ts ≡ four x.0 x.1 x.2 x.3
four_is (more t (more u (more v (more w no_trees)))) x e = let same : ◌≡◌ {A = Tree × Tree × Tree × Tree} (t, u, v, w) x = cc in ap (λ (y : Tree × Tree × Tree × Tree). four y.0 y.1 y.2 y.3) same
four_is _ x e = absurd cc

pub first_is : (ts : Trees) (x : Tree × Trees) → first_of ts ≡ Some x → ts ≡ more x.0 x.1
first_is no_trees x e = absurd cc
first_is (more t us) x e = let same : ◌≡◌ {A = Tree × Trees} (t, us) x = cc in ap (λ (y : Tree × Trees). more y.0 y.1) same

pub three_same : {a b c d e f : Tree} → a ≡ d → b ≡ e → c ≡ f → three a b c ≡ three d e f
three_same {b = b} {c = c} {d = d} {e = e} p q r = ap (λ t. three t b c) p ∙ ap (λ t. three d t c) q ∙ ap (λ t. three d e t) r

pub four_same : {a b c d e f g h : Tree} → a ≡ e → b ≡ f → c ≡ g → d ≡ h → four a b c d ≡ four e f g h
four_same {b = b} {c = c} {d = d} {e = e} p q r s = ap (λ t. four t b c d) p ∙ ap (λ ts. more e ts) (three_same q r s)

-- starts
abbrev started : Name → Exp → Start
started x e = record { name = x; exp = e }

start_reads : (before : List Name) (x : Start) → is_start x ≡ true → is_among x.name before ≡ false → IsReadAs (start_at before) (start_tree x) x
start_reads before x is new = λ at.
    let p = and_parts (is_name x.name) (is_exp x.exp) is in
    ap (λ r. r >>= λ y. exp_at y.1 (exp_tree x.exp) >>= λ z. Ok (started y.0 z.0, z.1)) (new_name_reads before x.name p.0 new (next at))
    ∙ ap (λ r. r >>= λ z. Ok (started x.name z.0, z.1)) (exp_reads x.exp p.1 (next (next at)))

start_spells : (before : List Name) (t : Tree) (at : ℕ) (x : Start) (n : ℕ) → start_at before at t ≡ Ok (x, n) → (t ≡ start_tree x) × (is_start x ≡ true) × (is_among x.name before ≡ false)
start_spells before (Atom word) at x n e = absurd cc
start_spells before (Node ts) at x n e = row (two_of ts) refl e
  where
    row : (o : Option (Tree × Tree)) → two_of ts ≡ o → start_row at before o ≡ Ok (x, n) → (Node ts ≡ start_tree x) × (is_start x ≡ true) × (is_among x.name before ≡ false)
    row None is read = absurd cc
    row (Some (t, u)) is read =
        let (y, first, others) = bind_ok (new_name_at before (next at) t) (λ y. exp_at y.1 u >>= λ z. Ok (started y.0 z.0, z.1)) (x, n) read in
        let (z, second, last) = bind_ok (exp_at y.1 u) (λ z. Ok (started y.0 z.0, z.1)) (x, n) others in
        let p = new_name_spells before t (next at) y.0 y.1 first in
        let q = exp_spells u y.1 z.0 z.1 second in
        let same = value_ok (started y.0 z.0) z.1 x n last in (
          ap Node (two_is ts (t, u) is ∙ ap₂ two p.0 q.0) ∙ ap start_tree same,
          ap is_start (sym same) ∙ and_from (is_name y.0) (is_exp z.0) p.1 q.1,
          ap (λ (s : Start). is_among s.name before) (sym same) ∙ p.2,
        )

names_mapped : (xs : List Start) → map (λ (x : Start). x.name) xs ≡ start_names xs
names_mapped [] = refl
names_mapped (x ∷ xs) = ap (λ ns. x.name ∷ ns) (names_mapped xs)

pub starts_read : (xs : List Start) → each is_start xs ≡ true → are_distinct (start_names xs) ≡ true → IsReadAs starts_at (Node (trees_for start_tree xs)) xs
starts_read xs is apart = λ at.
    named_reads (λ (x : Start). x.name) start_at start_tree is_start start_reads [] xs is (ap (are_new []) (names_mapped xs) ∙ new_distinct (start_names xs) ∙ apart) (next at)

pub starts_spell : (t : Tree) (at : ℕ) (xs : List Start) (n : ℕ) → starts_at at t ≡ Ok (xs, n) → (t ≡ Node (trees_for start_tree xs)) × (each is_start xs ≡ true) × (are_distinct (start_names xs) ≡ true)
starts_spell (Atom word) at xs n e = absurd cc
starts_spell (Node ts) at xs n e =
    let p = named_spells (λ (x : Start). x.name) start_at start_tree is_start start_spells [] ts (next at) xs n e in
    (ap Node p.0, p.1, sym (new_distinct (start_names xs)) ∙ ap (are_new []) (sym (names_mapped xs)) ∙ p.2)
