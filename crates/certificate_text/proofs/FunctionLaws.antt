-- Functions of certificates are read from their texts, and what is read is the function whose text it is.
use Rattle.std.proofs.Common.{◌≡◌, ℕ, Bool, true, false, cond, ◌&&◌, Option, Some, None, Ok, Err, refl, ap, ap₂, sym, ◌∙◌}
use Rattle.std.specs.Prelude.{codes}
use Rattle.std.proofs.lemmas.Bool.{and_parts, and_from, cond-true}
use Rattle.c_values.specs.Name.{Name, same_name}
use Rattle.expression_lang.specs.Sort.{Level, Bytes, Words, Numbers}
use Rattle.ac_sx.specs.Tree.{Tree, Trees, Atom, Node, no_trees, more}
use Rattle.ac_sx.specs.CodeSx.{word_in, headed_in, first_of}
use Rattle.expression_text.specs.Reading.{Read, next, ◌>>=◌, made}
use Rattle.expression_text.specs.Names.{is_name, name_at}
use Rattle.expression_text.specs.Words.{looked_up}
use Rattle.expression_text.specs.ExpRows.{with_second}
use Rattle.expression_text.proofs.LookedUp.{looked_up_is, name_is}
use Rattle.expression_text.proofs.Behind.{behind, IsReadAs, bind_ok, value_ok}
use Rattle.expression_text.proofs.ListLaws.{IsPart}
use Rattle.expression_text.proofs.TypesText.{name_reads, name_spells}
use Rattle.simpl_lang.specs.Command.{Simpl}
use Rattle.monad_lang.specs.Program.{Mon}
use Rattle.program_text.specs.MonText.{mon_tree, is_mon}
use Rattle.program_text.specs.MonReading.{four_of, mon_at}
use Rattle.program_text.proofs.MonLaws.{mon_reads, mon_spells}
use Rattle.program_text.proofs.PartLaws.{four_is}
use Rattle.command_text.specs.CommandText.{command_tree, is_command}
use Rattle.command_text.specs.CommandReading.{command_at}
use Rattle.command_text.proofs.CommandLaws.{command_reads, command_spells}
use Rattle.rule_exn.specs.Rule as Exceptions
use Rattle.rule_local.specs.Rule as Locals
use Rattle.rule_heap.specs.Rule as Heaps
use Rattle.rule_word.specs.Rule as Words'
use Rattle.rule_eq.specs.Rule as Equality
use Rattle.rule_text.specs.ExceptionText as exceptions
use Rattle.rule_text.specs.LocalText as locals
use Rattle.rule_text.specs.HeapText as heaps
use Rattle.rule_text.specs.WordText as words
use Rattle.rule_text.specs.EqualityText as equality
use Rattle.rule_text.proofs.ExceptionLaws as exception_laws
use Rattle.rule_text.proofs.LocalLaws as local_laws
use Rattle.rule_text.proofs.HeapLaws as heap_laws
use Rattle.rule_text.proofs.WordLaws as word_laws
use Rattle.rule_text.proofs.EqualityLaws as equality_laws
use Rattle.acceptance.specs.Certificate.{Step, Steps}
use Rattle.certificate_text.specs.CertificateText.{level_word, levels, step_tree, heap_before, steps_trees, function_tree, is_heap, is_function}
use Rattle.certificate_text.specs.CertificateReading.{word_from, found_in, level_in, exception_at, local_at, heap_at, word_at, equal_at, Parts, five_from, five_in, parts_from, parts_in, fits, heap_from, steps_at, function_from, function_row, function_by, function_at}
use Rattle.certificate_text.proofs.StepLaws.{headed_is, step_reads, step_spells}
use Rattle.certificate_text.proofs.Parted.{levels_found}

mons : (t : Tree) (at : ℕ) (m : Mon) (n : ℕ) → mon_at at t ≡ Ok (m, n) → IsPart mon_tree is_mon t m
mons t at m n e = let p = mon_spells t at m n e in (p.0, p.1)

commands : (t : Tree) (at : ℕ) (c : Simpl) (n : ℕ) → command_at at t ≡ Ok (c, n) → IsPart command_tree is_command t c
commands t at c n e = let p = command_spells t at c n e in (p.0, p.1)

-- the text of each step, and whether it has one
abbrev exception_tree : Step Simpl Exceptions.Rule → Tree
exception_tree s = step_tree (codes "exception") (command_tree s.program) (exceptions.text_of s.tree)

abbrev local_tree : Step Mon Locals.Rule → Tree
local_tree s = step_tree (codes "local") (mon_tree s.program) (locals.text_of s.tree)

abbrev heap_tree : Step Mon Heaps.Rule → Tree
heap_tree s = step_tree (codes "heap") (mon_tree s.program) (heaps.text_of s.tree)

abbrev word_tree : Step Mon Words'.Rule → Tree
word_tree s = step_tree (codes "word") (mon_tree s.program) (words.text_of s.tree)

abbrev equal_tree : Step Mon Equality.Rule → Tree
equal_tree s = step_tree (codes "equal") (mon_tree s.program) (equality.text_of s.tree)

exception_reads : (s : Step Simpl Exceptions.Rule) → (is_command s.program && exceptions.is_tree s.tree) ≡ true → IsReadAs exception_at (exception_tree s) s
exception_reads = step_reads (codes "exception") command_at command_tree is_command exceptions.tree_at exceptions.text_of exceptions.is_tree command_reads exception_laws.tree_reads

local_reads : (s : Step Mon Locals.Rule) → (is_mon s.program && locals.is_tree s.tree) ≡ true → IsReadAs local_at (local_tree s) s
local_reads = step_reads (codes "local") mon_at mon_tree is_mon locals.tree_at locals.text_of locals.is_tree mon_reads local_laws.tree_reads

heap_reads : (s : Step Mon Heaps.Rule) → (is_mon s.program && heaps.is_tree s.tree) ≡ true → IsReadAs heap_at (heap_tree s) s
heap_reads = step_reads (codes "heap") mon_at mon_tree is_mon heaps.tree_at heaps.text_of heaps.is_tree mon_reads heap_laws.tree_reads

word_reads : (s : Step Mon Words'.Rule) → (is_mon s.program && words.is_tree s.tree) ≡ true → IsReadAs word_at (word_tree s) s
word_reads = step_reads (codes "word") mon_at mon_tree is_mon words.tree_at words.text_of words.is_tree mon_reads word_laws.tree_reads

equal_reads : (s : Step Mon Equality.Rule) → (is_mon s.program && equality.is_tree s.tree) ≡ true → IsReadAs equal_at (equal_tree s) s
equal_reads = step_reads (codes "equal") mon_at mon_tree is_mon equality.tree_at equality.text_of equality.is_tree mon_reads equality_laws.tree_reads

abbrev heap_part : Option (Step Mon Heaps.Rule) → Option Tree
heap_part None = None
heap_part (Some s) = Some (heap_tree s)

abbrev heap_behind : ℕ → Option Tree → ℕ
heap_behind at None = at
heap_behind at (Some t) = behind at t

heap_part_reads : (level : Level) (h : Option (Step Mon Heaps.Rule)) → is_heap level h ≡ true → (at : ℕ) → heap_from at (heap_part h) ≡ Ok (h, heap_behind at (heap_part h))
heap_part_reads level None is = λ at. refl
heap_part_reads Bytes (Some s) is = absurd cc
heap_part_reads Words (Some s) is = λ at. ap (made (λ t. Some t)) (heap_reads s is at)
heap_part_reads Numbers (Some s) is = λ at. ap (made (λ t. Some t)) (heap_reads s is at)

heap_part_fits : (level : Level) (h : Option (Step Mon Heaps.Rule)) → is_heap level h ≡ true → fits (Some level) (heap_part h) ≡ true
heap_part_fits Bytes (Some s) is = absurd cc
heap_part_fits Words None is = absurd cc
heap_part_fits Numbers None is = absurd cc
heap_part_fits _ _ _ = refl

abbrev function_parts : Steps → Parts
function_parts c = record { exception = exception_tree c.exception; local = local_tree c.local; heap = heap_part c.heap; word = word_tree c.word; equal = equal_tree c.equal }

abbrev steps_behind : ℕ → Parts → ℕ
steps_behind at p = behind (behind (heap_behind (behind (behind at p.exception) p.local) p.heap) p.word) p.equal

parted : (c : Steps) → parts_in (steps_trees c) ≡ Some (function_parts c)
parted c = by c.heap
  where
    by : (h : Option (Step Mon Heaps.Rule)) → parts_in (more (exception_tree c.exception) (more (local_tree c.local) (heap_before h (more (word_tree c.word) (more (equal_tree c.equal) no_trees)))))
        ≡ Some (record { exception = exception_tree c.exception; local = local_tree c.local; heap = heap_part h; word = word_tree c.word; equal = equal_tree c.equal })
    by None = refl
    by (Some s) = refl

-- where the steps end is where their list does
ended : (c : Steps) (at : ℕ) → behind at (function_tree c) ≡ steps_behind (next (next (next (next at)))) (function_parts c)
ended c at = by c.heap
  where
    by : (h : Option (Step Mon Heaps.Rule)) →
        behind at (Node (more (Atom (codes "fun")) (more (Atom c.name) (more (Atom (level_word c.level)) (more (exception_tree c.exception) (more (local_tree c.local) (heap_before h (more (word_tree c.word) (more (equal_tree c.equal) no_trees)))))))))
        ≡ steps_behind (next (next (next (next at)))) (record { exception = exception_tree c.exception; local = local_tree c.local; heap = heap_part h; word = word_tree c.word; equal = equal_tree c.equal })
    by None = refl
    by (Some s) = refl

abbrev with_steps : Name → Level → Step Simpl Exceptions.Rule → Step Mon Locals.Rule → Option (Step Mon Heaps.Rule) → Step Mon Words'.Rule → Step Mon Equality.Rule → Steps
with_steps name level e l h w q = record { name = name; level = level; exception = e; local = l; heap = h; word = w; equal = q }

steps_read : (c : Steps) → is_function c ≡ true → (at : ℕ) → steps_at c.name c.level at (function_parts c) ≡ Ok (c, steps_behind at (function_parts c))
steps_read c is at =
    let p = function_parts c in
    let all = and_parts (is_name c.name && is_heap c.level c.heap) _ is in
    let heap = (and_parts (is_name c.name) (is_heap c.level c.heap) all.0).1 in
    let e = and_parts (is_command c.exception.program && exceptions.is_tree c.exception.tree) _ all.1 in
    let l = and_parts (is_mon c.local.program && locals.is_tree c.local.tree) _ e.1 in
    let w = and_parts (is_mon c.word.program && words.is_tree c.word.tree) (is_mon c.equal.program && equality.is_tree c.equal.tree) l.1 in
    let here = behind (behind at p.exception) p.local in
    ap (λ r. r >>= λ e. local_at e.1 p.local >>= λ l. heap_from l.1 p.heap >>= λ h. word_at h.1 p.word >>= λ w. equal_at w.1 p.equal >>= λ q. Ok (with_steps c.name c.level e.0 l.0 h.0 w.0 q.0, q.1)) (exception_reads c.exception e.0 at)
    ∙ ap (λ r. r >>= λ l. heap_from l.1 p.heap >>= λ h. word_at h.1 p.word >>= λ w. equal_at w.1 p.equal >>= λ q. Ok (with_steps c.name c.level c.exception l.0 h.0 w.0 q.0, q.1)) (local_reads c.local l.0 (behind at p.exception))
    ∙ ap (λ r. r >>= λ h. word_at h.1 p.word >>= λ w. equal_at w.1 p.equal >>= λ q. Ok (with_steps c.name c.level c.exception c.local h.0 w.0 q.0, q.1)) (heap_part_reads c.level c.heap heap here)
    ∙ ap (λ r. r >>= λ w. equal_at w.1 p.equal >>= λ q. Ok (with_steps c.name c.level c.exception c.local c.heap w.0 q.0, q.1)) (word_reads c.word w.0 (heap_behind here p.heap))
    ∙ ap (λ r. r >>= λ q. Ok (with_steps c.name c.level c.exception c.local c.heap c.word q.0, q.1)) (equal_reads c.equal w.1 (behind (heap_behind here p.heap) p.word))

pub function_reads : (c : Steps) → is_function c ≡ true → IsReadAs function_at (function_tree c) c
function_reads c is = λ at.
    let p = function_parts c in
    let all = and_parts (is_name c.name && is_heap c.level c.heap) _ is in
    let both = and_parts (is_name c.name) (is_heap c.level c.heap) all.0 in
    let body = λ (o : Option Level). name_at (next (next at)) (Atom c.name) >>= λ x. word_from x.1 o >>= λ y. steps_at x.0 y.0 y.1 p in
    ap (function_from at (Atom c.name) (Atom (level_word c.level))) (parted c)
    ∙ ap (λ o. cond {A = Read Steps} (fits o p.heap) (body o) (Err at)) (levels_found c.level)
    ∙ cond-true (fits (Some c.level) p.heap) (body (Some c.level)) (Err at) (heap_part_fits c.level c.heap both.1)
    ∙ ap (λ r. r >>= λ x. word_from x.1 (Some c.level) >>= λ y. steps_at x.0 y.0 y.1 p) (name_reads c.name both.0 (next (next at)))
    ∙ steps_read c is (next (next (next (next at))))
    ∙ ap (λ n. Ok (c, n)) (sym (ended c at))

-- the other way round
named : (t : Tree) (at : ℕ) (l : Level) (n : ℕ) (o : Option Name) → word_in t ≡ o → word_from at (found_in level_word levels o) ≡ Ok (l, n) → (t ≡ Atom (level_word l)) × (found_in level_word levels o ≡ Some l)
named t at l n None e read = absurd cc
named (Node ts) at l n (Some w) e read = absurd cc
named (Atom v) at l n (Some w) e read = by (looked_up level_word levels w) refl read
  where
    by : (r : Option Level) → looked_up level_word levels w ≡ r → word_from at r ≡ Ok (l, n) → (Atom v ≡ Atom (level_word l)) × (looked_up level_word levels w ≡ Some l)
    by None f g = absurd cc
    by (Some k) f g =
        let same = value_ok k (next at) l n g in
        let word : v ≡ w = cc in
        (ap Atom (word ∙ sym (looked_up_is level_word levels w k f) ∙ ap level_word same), f ∙ ap (λ j. Some j) same)

-- the parts of a list that has them
abbrev heap_trees : Option Tree → Trees → Trees
heap_trees None ts = ts
heap_trees (Some h) ts = more h ts

abbrev parts_trees : Parts → Trees
parts_trees p = more p.exception (more p.local (heap_trees p.heap (more p.word (more p.equal no_trees))))

parts_are : (ts : Trees) (p : Parts) → parts_in ts ≡ Some p → ts ≡ parts_trees p
parts_are ts p e = by_four (four_of ts) refl e
  where
    some : (q : Parts) → ts ≡ parts_trees q → ◌≡◌ {A = Option Parts} (Some q) (Some p) → ts ≡ parts_trees p
    some q is f = let same : q ≡ p = cc in is ∙ ap parts_trees same

    by_rest : (e : Tree) (us : Trees) (o : Option (Tree × Tree × Tree × Tree)) → ts ≡ more e us → four_of us ≡ o → five_from e o ≡ Some p → ts ≡ parts_trees p
    by_rest e us None is f g = absurd cc
    by_rest e us (Some (l, h, w, q)) is f g = some (record { exception = e; local = l; heap = Some h; word = w; equal = q }) (is ∙ ap (more e) (four_is us (l, h, w, q) f)) g

    by_first : (vs : Trees) → ts ≡ vs → five_in (first_of vs) ≡ Some p → ts ≡ parts_trees p
    by_first no_trees is g = absurd cc
    by_first (more e us) is g = by_rest e us (four_of us) is refl g

    by_four : (o : Option (Tree × Tree × Tree × Tree)) → four_of ts ≡ o → parts_from o (first_of ts) ≡ Some p → ts ≡ parts_trees p
    by_four None f g = by_first ts refl g
    by_four (Some (e, l, w, q)) f g = some (record { exception = e; local = l; heap = None; word = w; equal = q }) (four_is ts (e, l, w, q) f) g

exception_spells : (t : Tree) (at : ℕ) (s : Step Simpl Exceptions.Rule) (n : ℕ) → exception_at at t ≡ Ok (s, n) → (t ≡ exception_tree s) × ((is_command s.program && exceptions.is_tree s.tree) ≡ true)
exception_spells = step_spells (codes "exception") command_at command_tree is_command exceptions.tree_at exceptions.text_of exceptions.is_tree commands exception_laws.tree_spells

local_spells : (t : Tree) (at : ℕ) (s : Step Mon Locals.Rule) (n : ℕ) → local_at at t ≡ Ok (s, n) → (t ≡ local_tree s) × ((is_mon s.program && locals.is_tree s.tree) ≡ true)
local_spells = step_spells (codes "local") mon_at mon_tree is_mon locals.tree_at locals.text_of locals.is_tree mons local_laws.tree_spells

heap_spells : (t : Tree) (at : ℕ) (s : Step Mon Heaps.Rule) (n : ℕ) → heap_at at t ≡ Ok (s, n) → (t ≡ heap_tree s) × ((is_mon s.program && heaps.is_tree s.tree) ≡ true)
heap_spells = step_spells (codes "heap") mon_at mon_tree is_mon heaps.tree_at heaps.text_of heaps.is_tree mons heap_laws.tree_spells

word_spells : (t : Tree) (at : ℕ) (s : Step Mon Words'.Rule) (n : ℕ) → word_at at t ≡ Ok (s, n) → (t ≡ word_tree s) × ((is_mon s.program && words.is_tree s.tree) ≡ true)
word_spells = step_spells (codes "word") mon_at mon_tree is_mon words.tree_at words.text_of words.is_tree mons word_laws.tree_spells

equal_spells : (t : Tree) (at : ℕ) (s : Step Mon Equality.Rule) (n : ℕ) → equal_at at t ≡ Ok (s, n) → (t ≡ equal_tree s) × ((is_mon s.program && equality.is_tree s.tree) ≡ true)
equal_spells = step_spells (codes "equal") mon_at mon_tree is_mon equality.tree_at equality.text_of equality.is_tree mons equality_laws.tree_spells

heap_part_spells : (level : Level) (o : Option Tree) (at : ℕ) (h : Option (Step Mon Heaps.Rule)) (n : ℕ) → fits (Some level) o ≡ true → heap_from at o ≡ Ok (h, n) → (o ≡ heap_part h) × (is_heap level h ≡ true)
heap_part_spells level None at h n fit read = none level h fit (value_ok {A = Option (Step Mon Heaps.Rule)} None at h n read)
  where
    none : (level : Level) (h : Option (Step Mon Heaps.Rule)) → fits (Some level) None ≡ true → None ≡ h → (None ≡ heap_part h) × (is_heap level h ≡ true)
    none Bytes None fit e = (refl, refl)
    none level (Some s) fit e = absurd cc
    none _ _ fit e = absurd cc
heap_part_spells level (Some t) at h n fit read = some (heap_at at t) refl read
  where
    lifted : (level : Level) (s : Step Mon Heaps.Rule) → fits (Some level) (Some t) ≡ true → (is_mon s.program && heaps.is_tree s.tree) ≡ true → is_heap level (Some s) ≡ true
    lifted Bytes s fit is = absurd cc
    lifted Words s fit is = is
    lifted Numbers s fit is = is

    some : (r : Read (Step Mon Heaps.Rule)) → heap_at at t ≡ r → made (λ s. Some s) r ≡ Ok (h, n) → (Some t ≡ heap_part h) × (is_heap level h ≡ true)
    some (Err m) e f = absurd cc
    some (Ok (s, m)) e f =
        let p = heap_spells t at s m e in
        let same = value_ok {A = Option (Step Mon Heaps.Rule)} (Some s) m h n f in
        (ap (λ u. Some u) p.0 ∙ ap heap_part same, ap (is_heap level) (sym same) ∙ lifted level s fit p.1)

abbrev IsFunctionText : Tree → Steps → Type 0
IsFunctionText t c = (t ≡ function_tree c) × (is_function c ≡ true)

-- the parts' trees as they were written
rewritten : (p q : Parts) → p.exception ≡ q.exception → p.local ≡ q.local → p.heap ≡ q.heap → p.word ≡ q.word → p.equal ≡ q.equal → parts_trees p ≡ parts_trees q
rewritten p q e l h w r =
    ap₂ (λ a b. more a (more b (heap_trees p.heap (more p.word (more p.equal no_trees))))) e l
    ∙ ap (λ o. more q.exception (more q.local (heap_trees o (more p.word (more p.equal no_trees))))) h
    ∙ ap₂ (λ a b. more q.exception (more q.local (heap_trees q.heap (more a (more b no_trees))))) w r

written : (c : Steps) → parts_trees (function_parts c) ≡ steps_trees c
written c = by c.heap
  where
    by : (h : Option (Step Mon Heaps.Rule)) → more (exception_tree c.exception) (more (local_tree c.local) (heap_trees (heap_part h) (more (word_tree c.word) (more (equal_tree c.equal) no_trees))))
        ≡ more (exception_tree c.exception) (more (local_tree c.local) (heap_before h (more (word_tree c.word) (more (equal_tree c.equal) no_trees))))
    by None = refl
    by (Some s) = refl

parts_moved : (p : Parts) (c d : Steps) → c ≡ d → p.exception ≡ exception_tree c.exception → p.local ≡ local_tree c.local → p.heap ≡ heap_part c.heap → p.word ≡ word_tree c.word → p.equal ≡ equal_tree c.equal → parts_trees p ≡ steps_trees d
parts_moved p c d same e l h w q = rewritten p (function_parts c) e l h w q ∙ written c ∙ ap steps_trees same

all_fine : (c : Steps) → (is_name c.name && is_heap c.level c.heap) ≡ true → (is_command c.exception.program && exceptions.is_tree c.exception.tree) ≡ true → (is_mon c.local.program && locals.is_tree c.local.tree) ≡ true →
    (is_mon c.word.program && words.is_tree c.word.tree) ≡ true → (is_mon c.equal.program && equality.is_tree c.equal.tree) ≡ true → is_function c ≡ true
all_fine c n e l w q =
    let last = and_from (is_mon c.word.program && words.is_tree c.word.tree) (is_mon c.equal.program && equality.is_tree c.equal.tree) w q in
    let three = and_from (is_mon c.local.program && locals.is_tree c.local.tree) ((is_mon c.word.program && words.is_tree c.word.tree) && (is_mon c.equal.program && equality.is_tree c.equal.tree)) l last in
    and_from (is_name c.name && is_heap c.level c.heap) ((is_command c.exception.program && exceptions.is_tree c.exception.tree) && ((is_mon c.local.program && locals.is_tree c.local.tree) && ((is_mon c.word.program && words.is_tree c.word.tree) && (is_mon c.equal.program && equality.is_tree c.equal.tree)))) n
    (and_from (is_command c.exception.program && exceptions.is_tree c.exception.tree) ((is_mon c.local.program && locals.is_tree c.local.tree) && ((is_mon c.word.program && words.is_tree c.word.tree) && (is_mon c.equal.program && equality.is_tree c.equal.tree))) e three)

fine_moved : (c d : Steps) → c ≡ d → is_function c ≡ true → is_function d ≡ true
fine_moved c d same is = ap is_function (sym same) ∙ is

spelled : (p : Parts) (c d : Steps) → c ≡ d → p.exception ≡ exception_tree c.exception → p.local ≡ local_tree c.local → p.heap ≡ heap_part c.heap → p.word ≡ word_tree c.word → p.equal ≡ equal_tree c.equal → is_function c ≡ true →
    (c.name ≡ d.name) × (c.level ≡ d.level) × (parts_trees p ≡ steps_trees d) × (is_function d ≡ true)
spelled p c d same e l h w q is = (ap (λ (s : Steps). s.name) same, ap (λ (s : Steps). s.level) same, parts_moved p c d same e l h w q, fine_moved c d same is)

steps_spell : (name : Name) (level : Level) (at : ℕ) (p : Parts) (c : Steps) (n : ℕ) → is_name name ≡ true → fits (Some level) p.heap ≡ true → steps_at name level at p ≡ Ok (c, n) →
    (name ≡ c.name) × (level ≡ c.level) × (parts_trees p ≡ steps_trees c) × (is_function c ≡ true)
steps_spell name level at p c n is fit read =
    let (e, read0, others0) = bind_ok (exception_at at p.exception) (λ e. local_at e.1 p.local >>= λ l. heap_from l.1 p.heap >>= λ h. word_at h.1 p.word >>= λ w. equal_at w.1 p.equal >>= λ q. Ok (with_steps name level e.0 l.0 h.0 w.0 q.0, q.1)) (c, n) read in
    let (l, read1, others1) = bind_ok (local_at e.1 p.local) (λ l. heap_from l.1 p.heap >>= λ h. word_at h.1 p.word >>= λ w. equal_at w.1 p.equal >>= λ q. Ok (with_steps name level e.0 l.0 h.0 w.0 q.0, q.1)) (c, n) others0 in
    let (h, read2, others2) = bind_ok (heap_from l.1 p.heap) (λ h. word_at h.1 p.word >>= λ w. equal_at w.1 p.equal >>= λ q. Ok (with_steps name level e.0 l.0 h.0 w.0 q.0, q.1)) (c, n) others1 in
    let (w, read3, others3) = bind_ok (word_at h.1 p.word) (λ w. equal_at w.1 p.equal >>= λ q. Ok (with_steps name level e.0 l.0 h.0 w.0 q.0, q.1)) (c, n) others2 in
    let (q, read4, last) = bind_ok (equal_at w.1 p.equal) (λ q. Ok (with_steps name level e.0 l.0 h.0 w.0 q.0, q.1)) (c, n) others3 in
    let d = with_steps name level e.0 l.0 h.0 w.0 q.0 in
    let same : d ≡ c = value_ok d q.1 c n last in
    let e' = exception_spells p.exception at e.0 e.1 read0 in
    let l' = local_spells p.local e.1 l.0 l.1 read1 in
    let h' = heap_part_spells level p.heap l.1 h.0 h.1 fit read2 in
    let w' = word_spells p.word h.1 w.0 w.1 read3 in
    let q' = equal_spells p.equal w.1 q.0 q.1 read4 in
    spelled p d c same e'.0 l'.0 h'.0 w'.0 q'.0 (all_fine d (and_from (is_name name) (is_heap level h.0) is h'.1) e'.1 l'.1 w'.1 q'.1)

kept : (b : Bool) (r : Read Steps) (at : ℕ) (c : Steps) (n : ℕ) → cond {A = Read Steps} b r (Err at) ≡ Ok (c, n) → (b ≡ true) × (r ≡ Ok (c, n))
kept true r at c n e = (refl, e)
kept false r at c n e = absurd cc

from_spells : (at : ℕ) (name level : Tree) (ts : Trees) (o : Option Parts) (c : Steps) (n : ℕ) → parts_in ts ≡ o → function_from at name level o ≡ Ok (c, n) → IsFunctionText (Node (more (Atom (codes "fun")) (more name (more level ts)))) c
from_spells at name level ts None c n e read = absurd cc
from_spells at name level ts (Some p) c n e read =
    let (fit, whole) = kept (fits (level_in level) p.heap) (name_at (next (next at)) name >>= λ x. word_from x.1 (level_in level) >>= λ y. steps_at x.0 y.0 y.1 p) at c n read in
    let (x, read0, others) = bind_ok (name_at (next (next at)) name) (λ x. word_from x.1 (level_in level) >>= λ y. steps_at x.0 y.0 y.1 p) (c, n) whole in
    let (y, read1, last) = bind_ok (word_from x.1 (level_in level)) (λ y. steps_at x.0 y.0 y.1 p) (c, n) others in
    let h = name_spells name (next (next at)) x.0 x.1 read0 in
    let k = named level x.1 y.0 y.1 (word_in level) refl read1 in
    let s = steps_spell x.0 y.0 y.1 p c n h.1 (ap (λ o. fits o p.heap) (sym k.1) ∙ fit) last in (
      ap₂ (λ a b. Node (more (Atom (codes "fun")) (more a (more b ts)))) (h.0 ∙ ap Atom s.0) (k.0 ∙ ap (λ l. Atom (level_word l)) s.1)
          ∙ ap (λ us. Node (more (Atom (codes "fun")) (more (Atom c.name) (more (Atom (level_word c.level)) us)))) (parts_are ts p e ∙ s.2),
      s.3,
    )

row_spells : (at : ℕ) (ts : Trees) (c : Steps) (n : ℕ) → function_row at (with_second (first_of ts)) ≡ Ok (c, n) → IsFunctionText (Node (more (Atom (codes "fun")) ts)) c
row_spells at no_trees c n read = absurd cc
row_spells at (more name no_trees) c n read = absurd cc
row_spells at (more name (more level ts)) c n read = from_spells at name level ts (parts_in ts) c n refl read

pub function_spells : (t : Tree) (at : ℕ) (c : Steps) (n : ℕ) → function_at at t ≡ Ok (c, n) → IsFunctionText t c
function_spells t at c n read = by_head (headed_in t) refl read
  where
    by_word : (w : Name) (ts : Trees) (b : Bool) → headed_in t ≡ Some (w, ts) → same_name w (codes "fun") ≡ b → cond {A = Read Steps} b (function_row at (with_second (first_of ts))) (Err at) ≡ Ok (c, n) → IsFunctionText t c
    by_word w ts false e f g = absurd cc
    by_word w ts true e f g = let h = row_spells at ts c n g in (headed_is t w ts e ∙ ap (λ v. Node (more (Atom v) ts)) (name_is w (codes "fun") f) ∙ h.0, h.1)

    by_head : (o : Option (Name × Trees)) → headed_in t ≡ o → function_by at o ≡ Ok (c, n) → IsFunctionText t c
    by_head None e g = absurd cc
    by_head (Some (w, ts)) e g = by_word w ts (same_name w (codes "fun")) e refl g
