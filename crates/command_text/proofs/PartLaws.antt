-- Conditions, and where results go, are read as those that their trees are of.
use Rattle.std.proofs.Common.{◌≡◌, ◌≢◌, ℕ, Bool, true, false, cond, List, Option, Some, None, Ok, Err, refl, ap, ap₂, sym, ◌∙◌}
use Rattle.std.proofs.lemmas.Bool.{cond-true, false≢true}
use Rattle.c_values.specs.Name.{Name, same_name}
use Rattle.ac_sx.specs.Tree.{Tree, Atom, Node}
use Rattle.ac_sx.specs.CodeSx.{word_in, two_of}
use Rattle.expression_lang.specs.Expression.{Exp}
use Rattle.expression_lang.specs.GuardKind.{GuardKind, Div}
use Rattle.expression_text.specs.Reading.{Read, next, ◌>>=◌}
use Rattle.expression_text.specs.Names.{is_name}
use Rattle.expression_text.specs.Words.{looked_up}
use Rattle.expression_text.specs.ExpText.{exp_tree, is_exp}
use Rattle.expression_text.specs.ExpReading.{exp_at}
use Rattle.expression_text.specs.Lists.{each, trees_for}
use Rattle.expression_text.proofs.LookedUp.{looked_up_is, looked_up_from, name_is, AreFound}
use Rattle.expression_text.proofs.Behind.{behind, IsReadAs, bind_ok, value_ok}
use Rattle.expression_text.proofs.ExpsText.{exp_reads, exp_spells}
use Rattle.expression_text.proofs.ListLaws.{list_reads, list_spells}
use Rattle.program_text.specs.MonText.{two}
use Rattle.program_text.proofs.PartLaws.{two_is}
use Rattle.simpl_lang.specs.Command.{Condition}
use Rattle.command_text.specs.CommandText.{guard_word, guard_kinds, condition_tree, no_target, target_tree, is_condition, is_target}
use Rattle.command_text.specs.CommandReading.{guard_kind_from, guard_kind_at, guarded_at, condition_row, condition_at, conditions_at, target_at}

pub guard_kinds_found : AreFound guard_word guard_kinds
guard_kinds_found Div = refl
guard_kinds_found _ = refl

guard_kind_reads : (k : GuardKind) → IsReadAs guard_kind_at (Atom (guard_word k)) k
guard_kind_reads k = λ at. ap (guard_kind_from at) (guard_kinds_found k)

guard_kind_spells : (t : Tree) (at : ℕ) (k : GuardKind) (n : ℕ) → guard_kind_at at t ≡ Ok (k, n) → t ≡ Atom (guard_word k)
guard_kind_spells (Node ts) at k n read = absurd cc
guard_kind_spells (Atom word) at k n read = from (looked_up guard_word guard_kinds word) refl read
  where
    from : (o : Option GuardKind) → looked_up guard_word guard_kinds word ≡ o → guard_kind_from at o ≡ Ok (k, n) → Atom word ≡ Atom (guard_word k)
    from None is e = absurd cc
    from (Some j) is e = ap Atom (sym (looked_up_is guard_word guard_kinds word j is) ∙ ap guard_word (value_ok j (next at) k n e))

kind_in : (t : Tree) (word : Name) (at : ℕ) → Some word ≡ word_in t → guard_kind_at at t ≡ guard_kind_from at (looked_up guard_word guard_kinds word)
kind_in (Node ts) word at e = absurd cc
kind_in (Atom v) word at e = let same : word ≡ v = cc in ap (λ w. guard_kind_from at (looked_up guard_word guard_kinds w)) (sym same)

pub guard_kind_refused : (t : Tree) (word : Name) (at : ℕ) → Some word ≡ word_in t → ((k : GuardKind) → word ≢ guard_word k) → guard_kind_at at t ≡ Err at
guard_kind_refused t word at e unknown =
    kind_in t word at e
    ∙ ap (λ (o : Option GuardKind). guard_kind_from at o) (sym (looked_up_from {X = GuardKind} guard_word guard_kinds (λ k. k) word None guard_kinds_found tt unknown))

abbrev conditioned : GuardKind → Exp → Condition
conditioned k e = record { kind = k; exp = e }

pub guarded_reads : (c : Condition) → is_exp c.exp ≡ true → (at : ℕ) → guarded_at at (Atom (guard_word c.kind)) (exp_tree c.exp) ≡ Ok (c, behind (next at) (exp_tree c.exp))
guarded_reads c is at =
    ap (λ r. r >>= λ x. exp_at x.1 (exp_tree c.exp) >>= λ y. Ok (conditioned x.0 y.0, y.1)) (guard_kind_reads c.kind at)
    ∙ ap (λ r. r >>= λ y. Ok (conditioned c.kind y.0, y.1)) (exp_reads c.exp is (next at))

pub guarded_spells : (k e : Tree) (at : ℕ) (c : Condition) (n : ℕ) → guarded_at at k e ≡ Ok (c, n) → (k ≡ Atom (guard_word c.kind)) × (e ≡ exp_tree c.exp) × (is_exp c.exp ≡ true)
guarded_spells k e at c n read =
    let (x, first, others) = bind_ok (guard_kind_at at k) (λ x. exp_at x.1 e >>= λ y. Ok (conditioned x.0 y.0, y.1)) (c, n) read in
    let (y, second, last) = bind_ok (exp_at x.1 e) (λ y. Ok (conditioned x.0 y.0, y.1)) (c, n) others in
    let h = exp_spells e x.1 y.0 y.1 second in
    let same = value_ok (conditioned x.0 y.0) y.1 c n last in (
      guard_kind_spells k at x.0 x.1 first ∙ ap (λ (d : Condition). Atom (guard_word d.kind)) same,
      h.0 ∙ ap (λ (d : Condition). exp_tree d.exp) same,
      ap (λ (d : Condition). is_exp d.exp) (sym same) ∙ h.1,
    )

condition_reads : (c : Condition) → is_condition c ≡ true → IsReadAs condition_at (condition_tree c) c
condition_reads c is = λ at. guarded_reads c is (next at)

condition_spells : (t : Tree) (at : ℕ) (c : Condition) (n : ℕ) → condition_at at t ≡ Ok (c, n) → (t ≡ condition_tree c) × (is_condition c ≡ true)
condition_spells (Atom word) at c n read = absurd cc
condition_spells (Node ts) at c n read = row (two_of ts) refl read
  where
    row : (o : Option (Tree × Tree)) → two_of ts ≡ o → condition_row at o ≡ Ok (c, n) → (Node ts ≡ condition_tree c) × (is_condition c ≡ true)
    row None is e = absurd cc
    row (Some (k, u)) is e = let h = guarded_spells k u (next at) c n e in (ap Node (two_is ts (k, u) is ∙ ap₂ two h.0 h.1), h.2)

pub conditions_read : (cs : List Condition) → each is_condition cs ≡ true → IsReadAs conditions_at (Node (trees_for condition_tree cs)) cs
conditions_read cs is = λ at. list_reads condition_at condition_tree is_condition condition_reads cs is (next at)

pub conditions_spell : (t : Tree) (at : ℕ) (cs : List Condition) (n : ℕ) → conditions_at at t ≡ Ok (cs, n) → (t ≡ Node (trees_for condition_tree cs)) × (each is_condition cs ≡ true)
conditions_spell (Atom word) at cs n read = absurd cc
conditions_spell (Node ts) at cs n read = let h = list_spells condition_at condition_tree is_condition condition_spells ts (next at) cs n read in (ap Node h.0, h.1)

-- where results go
name_reads_as : (x : Name) (at : ℕ) (b : Bool) → is_name x ≡ true → same_name x no_target ≡ b →
    cond {A = Read (Option Name)} b (Ok (None, next at)) (cond {A = Read (Option Name)} (is_name x) (Ok (Some x, next at)) (Err at)) ≡ Ok (Some x, next at)
name_reads_as x at true is e = absurd (false≢true (sym (ap is_name (name_is x no_target e)) ∙ is))
name_reads_as x at false is e = cond-true {A = Read (Option Name)} (is_name x) (Ok (Some x, next at)) (Err at) is

pub target_reads : (x : Option Name) → is_target x ≡ true → IsReadAs target_at (target_tree x) x
target_reads None is = λ at. refl
target_reads (Some x) is = λ at. name_reads_as x at (same_name x no_target) is refl

word_spells : (word : Name) (at : ℕ) (x : Option Name) (n : ℕ) (b d : Bool) → same_name word no_target ≡ b → is_name word ≡ d →
    cond {A = Read (Option Name)} b (Ok (None, next at)) (cond {A = Read (Option Name)} d (Ok (Some word, next at)) (Err at)) ≡ Ok (x, n) → (Atom word ≡ target_tree x) × (is_target x ≡ true)
word_spells word at x n true d e is read = let same = value_ok {A = Option Name} None (next at) x n read in (ap Atom (name_is word no_target e) ∙ ap target_tree same, ap is_target (sym same))
word_spells word at x n false true e is read = let same = value_ok (Some word) (next at) x n read in (ap target_tree same, ap is_target (sym same) ∙ is)
word_spells word at x n false false e is read = absurd cc

pub target_spells : (t : Tree) (at : ℕ) (x : Option Name) (n : ℕ) → target_at at t ≡ Ok (x, n) → (t ≡ target_tree x) × (is_target x ≡ true)
target_spells (Node ts) at x n read = absurd cc
target_spells (Atom word) at x n read = word_spells word at x n (same_name word no_target) (is_name word) refl refl read
