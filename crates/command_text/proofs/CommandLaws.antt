-- A command's tree is read as the command, and what is read as a command is its tree.
use Rattle.std.proofs.Common.{◌≡◌, ℕ, Bool, true, false, cond, ◌&&◌, Option, Some, None, Ok, Err, refl, ap, ap₂, sym, ◌∙◌}
use Rattle.std.proofs.lemmas.Bool.{and_parts, and_from, cond-false, false≢true}
use Rattle.c_values.specs.Name.{Name, same_name}
use Rattle.ac_sx.specs.Tree.{Tree, Trees, Atom, Node, no_trees, more}
use Rattle.ac_sx.specs.CodeSx.{one_of, two_of, three_of, first_of}
use Rattle.expression_text.specs.Reading.{Read, next, ◌>>=◌}
use Rattle.expression_text.specs.Names.{is_name, name_at}
use Rattle.expression_text.specs.Words.{looked_up}
use Rattle.expression_text.specs.TypeText.{type_tree, is_type}
use Rattle.expression_text.specs.TypeReading.{type_at}
use Rattle.expression_text.specs.ExpText.{exp_tree, step_trees, is_exp, is_path}
use Rattle.expression_text.specs.ExpReading.{exp_at, path_at}
use Rattle.expression_text.specs.ExpRows.{with_second}
use Rattle.expression_text.specs.Lists.{each, trees_for, exp_trees, exps_at}
use Rattle.expression_text.proofs.LookedUp.{looked_up_is, name_is}
use Rattle.expression_text.proofs.Behind.{behind, all_behind, IsReadAs, AreReadAs, bind_ok, value_ok}
use Rattle.expression_text.proofs.TypesText.{name_reads, name_spells, type_reads, type_spells}
use Rattle.expression_text.proofs.ExpsText.{exp_reads, exp_spells, path_reads, path_spells}
use Rattle.expression_text.proofs.ListLaws.{exps_read, exps_spell}
use Rattle.program_text.specs.MonText.{two, three, four}
use Rattle.program_text.specs.MonReading.{four_of}
use Rattle.program_text.proofs.KindLaws.{one_is}
use Rattle.program_text.proofs.PartLaws.{two_is, three_is, four_is, three_same, four_same}
use Rattle.simpl_lang.specs.Command.{Simpl, Skip, Throw, Set, SetGlobal, Store, Pick, Seq, Cond, Guard, Catch, While, Call}
use Rattle.command_text.specs.declared.heads.CommandHead.{CommandHead}
use Rattle.command_text.specs.declared.heads.CommandHead.TheVariants as H
use Rattle.command_text.specs.CommandText.{guard_word, command_word, command_heads, skip_word, throw_word, begins, condition_tree, target_tree, sequence, sequence_parts, command_tree, is_condition, is_target, is_command}
use Rattle.command_text.specs.CommandReading.{guarded_at, conditions_at, target_at, set_row, gset_row, store_row, pick_row, call_row, is_no_tree, begins_seq, command_at, built_command_at, sequence_at}
use Rattle.command_text.proofs.CommandRows.{command_heads_found}
use Rattle.command_text.proofs.PartLaws.{guarded_reads, guarded_spells, conditions_read, conditions_spell, target_reads, target_spells}

-- a sequence has parts
parts_there : (c : Simpl) → is_no_tree (sequence_parts c) ≡ false
parts_there Skip = refl
parts_there _ = refl

more_is : (t : Tree) (ts : Trees) → is_no_tree ts ≡ false → sequence (more t ts) ≡ begins H.Seq (more t ts)
more_is t no_trees e = absurd (false≢true (sym e))
more_is t (more u us) e = refl

pub seq_text : (c d : Simpl) → command_tree (Seq c d) ≡ begins H.Seq (more (command_tree c) (sequence_parts d))
seq_text c d = more_is (command_tree c) (sequence_parts d) (parts_there d)

-- a list with a head is read by its row
row_reads : (h : CommandHead) (ts : Trees) (at : ℕ) → command_at at (begins h ts) ≡ built_command_at at (next (next at)) (Some h) ts
row_reads h ts at = ap (λ o. built_command_at at (next (next at)) o ts) (command_heads_found h)

-- a command that is no sequence stands for itself
abbrev IsBoth : Tree → Trees → Simpl → Type 0
IsBoth t ts c = IsReadAs command_at t c × AreReadAs sequence_at ts c

alone : (t : Tree) (c : Simpl) → begins_seq t ≡ false → IsReadAs command_at t c → IsBoth t (more t no_trees) c
alone t c no_seq h = (h, λ at. cond-false (begins_seq t) (Err at) (command_at at t) no_seq ∙ h at)

both : (c : Simpl) → is_command c ≡ true → IsBoth (command_tree c) (sequence_parts c) c
both Skip is = alone (Atom skip_word) Skip refl (λ at. refl)
both Throw is = alone (Atom throw_word) Throw refl (λ at. refl)
both (Set x e) is =
    let p = and_parts (is_name x) (is_exp e) is in
    alone (command_tree (Set x e)) (Set x e) (refl {a = false}) (λ at.
    row_reads H.Set (two (Atom x) (exp_tree e)) at
    ∙ ap (λ r. r >>= λ y. exp_at y.1 (exp_tree e) >>= λ z. Ok (Set y.0 z.0, z.1)) (name_reads x p.0 (next (next at)))
    ∙ ap (λ r. r >>= λ z. Ok (Set x z.0, z.1)) (exp_reads e p.1 (next (next (next at)))))
both (SetGlobal x path e) is =
    let p = and_parts (is_name x) (is_path path && is_exp e) is in
    let q = and_parts (is_path path) (is_exp e) p.1 in
    alone (command_tree (SetGlobal x path e)) (SetGlobal x path e) (refl {a = false}) (λ at.
    row_reads H.Gset (three (Atom x) (Node (step_trees path)) (exp_tree e)) at
    ∙ ap (λ r. r >>= λ y. path_at y.1 (Node (step_trees path)) >>= λ z. exp_at z.1 (exp_tree e) >>= λ w. Ok (SetGlobal y.0 z.0 w.0, w.1)) (name_reads x p.0 (next (next at)))
    ∙ ap (λ r. r >>= λ z. exp_at z.1 (exp_tree e) >>= λ w. Ok (SetGlobal x z.0 w.0, w.1)) (path_reads path q.0 (next (next (next (next at)))))
    ∙ ap (λ r. r >>= λ w. Ok (SetGlobal x path w.0, w.1)) (exp_reads e q.1 (behind (next (next (next at))) (Node (step_trees path)))))
both (Store ty p path e) is =
    let q = and_parts (is_type ty) (is_exp p && (is_path path && is_exp e)) is in
    let s = and_parts (is_exp p) (is_path path && is_exp e) q.1 in
    let u = and_parts (is_path path) (is_exp e) s.1 in
    alone (command_tree (Store ty p path e)) (Store ty p path e) (refl {a = false}) (λ at.
    let inner = next (next at) in
    row_reads H.Store (four (type_tree ty) (exp_tree p) (Node (step_trees path)) (exp_tree e)) at
    ∙ ap (λ r. r >>= λ x. exp_at x.1 (exp_tree p) >>= λ y. path_at y.1 (Node (step_trees path)) >>= λ z. exp_at z.1 (exp_tree e) >>= λ w. Ok (Store x.0 y.0 z.0 w.0, w.1)) (type_reads ty q.0 inner)
    ∙ ap (λ r. r >>= λ y. path_at y.1 (Node (step_trees path)) >>= λ z. exp_at z.1 (exp_tree e) >>= λ w. Ok (Store ty y.0 z.0 w.0, w.1)) (exp_reads p s.0 (behind inner (type_tree ty)))
    ∙ ap (λ r. r >>= λ z. exp_at z.1 (exp_tree e) >>= λ w. Ok (Store ty p z.0 w.0, w.1)) (path_reads path u.0 (next (behind (behind inner (type_tree ty)) (exp_tree p))))
    ∙ ap (λ r. r >>= λ w. Ok (Store ty p path w.0, w.1)) (exp_reads e u.1 (behind (behind (behind inner (type_tree ty)) (exp_tree p)) (Node (step_trees path)))))
both (Pick x) is = alone (command_tree (Pick x)) (Pick x) (refl {a = false}) (λ at.
    row_reads H.Pick (more (Atom x) no_trees) at ∙ ap (λ r. r >>= λ y. Ok (Pick y.0, y.1)) (name_reads x is (next (next at))))
both (Seq c d) is =
    let p = and_parts (is_command c) (is_command d) is in
    let first = both c p.0 in
    let last = both d p.1 in
    let ts = sequence_parts d in
    let read : (at : ℕ) → (command_at at (command_tree c) >>= λ x. sequence_at x.1 ts >>= λ y. Ok (Seq x.0 y.0, y.1)) ≡ Ok (Seq c d, all_behind (behind at (command_tree c)) ts) = λ at.
    ap (λ r. r >>= λ x. sequence_at x.1 ts >>= λ y. Ok (Seq x.0 y.0, y.1)) (first.0 at)
    ∙ ap (λ r. r >>= λ y. Ok (Seq c y.0, y.1)) (last.1 (behind at (command_tree c)))
    in (
      λ at.
          ap (command_at at) (seq_text c d)
          ∙ row_reads H.Seq (more (command_tree c) ts) at
          ∙ cond-false (is_no_tree ts) (Err at) (command_at (next (next at)) (command_tree c) >>= λ x. sequence_at x.1 ts >>= λ y. Ok (Seq x.0 y.0, y.1)) (parts_there d)
          ∙ read (next (next at))
          ∙ ap (λ t. Ok (Seq c d, behind at t)) (sym (seq_text c d)),
      λ at.
          cond-false (is_no_tree ts) (cond {A = Read Simpl} (begins_seq (command_tree c)) (Err at) (command_at at (command_tree c)))
          (command_at at (command_tree c) >>= λ x. sequence_at x.1 ts >>= λ y. Ok (Seq x.0 y.0, y.1)) (parts_there d)
          ∙ read at,
    )
both (Cond e c d) is =
    let p = and_parts (is_exp e) (is_command c && is_command d) is in
    let q = and_parts (is_command c) (is_command d) p.1 in
    let first = (both c q.0).0 in
    let last = (both d q.1).0 in
    alone (command_tree (Cond e c d)) (Cond e c d) (refl {a = false}) (λ at.
    row_reads H.Cond (three (exp_tree e) (command_tree c) (command_tree d)) at
    ∙ ap (λ r. r >>= λ x. command_at x.1 (command_tree c) >>= λ y. command_at y.1 (command_tree d) >>= λ z. Ok (Cond x.0 y.0 z.0, z.1)) (exp_reads e p.0 (next (next at)))
    ∙ ap (λ r. r >>= λ y. command_at y.1 (command_tree d) >>= λ z. Ok (Cond e y.0 z.0, z.1)) (first (behind (next (next at)) (exp_tree e)))
    ∙ ap (λ r. r >>= λ z. Ok (Cond e c z.0, z.1)) (last (behind (behind (next (next at)) (exp_tree e)) (command_tree c))))
both (Guard a c) is =
    let p = and_parts (is_condition a) (is_command c) is in
    let last = (both c p.1).0 in
    alone (command_tree (Guard a c)) (Guard a c) (refl {a = false}) (λ at.
    row_reads H.Guard (three (Atom (guard_word a.kind)) (exp_tree a.exp) (command_tree c)) at
    ∙ ap (λ r. r >>= λ x. command_at x.1 (command_tree c) >>= λ y. Ok (Guard x.0 y.0, y.1)) (guarded_reads a p.0 (next (next at)))
    ∙ ap (λ r. r >>= λ y. Ok (Guard a y.0, y.1)) (last (behind (next (next (next at))) (exp_tree a.exp))))
both (Catch c d) is =
    let p = and_parts (is_command c) (is_command d) is in
    let first = (both c p.0).0 in
    let last = (both d p.1).0 in
    alone (command_tree (Catch c d)) (Catch c d) (refl {a = false}) (λ at.
    row_reads H.Catch (two (command_tree c) (command_tree d)) at
    ∙ ap (λ r. r >>= λ x. command_at x.1 (command_tree d) >>= λ y. Ok (Catch x.0 y.0, y.1)) (first (next (next at)))
    ∙ ap (λ r. r >>= λ y. Ok (Catch c y.0, y.1)) (last (behind (next (next at)) (command_tree c))))
both (While as' e c) is =
    let p = and_parts (each is_condition as') (is_exp e && is_command c) is in
    let q = and_parts (is_exp e) (is_command c) p.1 in
    let last = (both c q.1).0 in
    let t = Node (trees_for condition_tree as') in
    alone (command_tree (While as' e c)) (While as' e c) (refl {a = false}) (λ at.
    row_reads H.While (three t (exp_tree e) (command_tree c)) at
    ∙ ap (λ r. r >>= λ x. exp_at x.1 (exp_tree e) >>= λ y. command_at y.1 (command_tree c) >>= λ z. Ok (While x.0 y.0 z.0, z.1)) (conditions_read as' p.0 (next (next at)))
    ∙ ap (λ r. r >>= λ y. command_at y.1 (command_tree c) >>= λ z. Ok (While as' y.0 z.0, z.1)) (exp_reads e q.0 (behind (next (next at)) t))
    ∙ ap (λ r. r >>= λ z. Ok (While as' e z.0, z.1)) (last (behind (behind (next (next at)) t) (exp_tree e))))
both (Call x f es) is =
    let p = and_parts (is_target x) (is_name f && each is_exp es) is in
    let q = and_parts (is_name f) (each is_exp es) p.1 in
    alone (command_tree (Call x f es)) (Call x f es) (refl {a = false}) (λ at.
    row_reads H.Call (more (target_tree x) (more (Atom f) (exp_trees es))) at
    ∙ ap (λ r. r >>= λ y. name_at y.1 (Atom f) >>= λ z. exps_at z.1 (exp_trees es) >>= λ w. Ok (Call y.0 z.0 w.0, w.1)) (target_reads x p.0 (next (next at)))
    ∙ ap (λ r. r >>= λ z. exps_at z.1 (exp_trees es) >>= λ w. Ok (Call x z.0 w.0, w.1)) (name_reads f q.0 (behind (next (next at)) (target_tree x)))
    ∙ ap (λ r. r >>= λ w. Ok (Call x f w.0, w.1)) (exps_read es q.1 (next (behind (next (next at)) (target_tree x)))))

pub command_reads : (c : Simpl) → is_command c ≡ true → IsReadAs command_at (command_tree c) c
command_reads c is = (both c is).0

-- the other way round
abbrev is_seq : Simpl → Bool
is_seq (Seq c d) = true
is_seq _ = false

pub alone_parts : (c : Simpl) → is_seq c ≡ false → sequence_parts c ≡ more (command_tree c) no_trees
alone_parts (Seq c d) e = absurd (false≢true (sym e))
alone_parts _ _ = refl

-- the tree of a command, of one that is no sequence where the tree isn't
abbrev IsCommandText : Tree → Simpl → Type 0
IsCommandText t c = (t ≡ command_tree c) × (is_command c ≡ true) × (begins_seq t ≡ false → is_seq c ≡ false)

-- of a command that is no sequence
abbrev IsAlone : CommandHead → Trees → Simpl → Type 0
IsAlone h ts c = (begins h ts ≡ command_tree c) × (is_command c ≡ true) × (is_seq c ≡ false)

alone_moved : (h : CommandHead) (ts : Trees) (c d : Simpl) → c ≡ d → begins h ts ≡ command_tree c → is_command c ≡ true → is_seq c ≡ false → IsAlone h ts d
alone_moved h ts c d same is fine single = (is ∙ ap command_tree same, ap is_command (sym same) ∙ fine, ap is_seq (sym same) ∙ single)

word_moved : (word v : Name) (c d : Simpl) → c ≡ d → word ≡ v → Atom v ≡ command_tree c → is_command c ≡ true → is_seq c ≡ false → IsCommandText (Atom word) d
word_moved word v c d same e is fine single = (ap Atom e ∙ is ∙ ap command_tree same, ap is_command (sym same) ∙ fine, λ _. ap is_seq (sym same) ∙ single)

leaf_spells : (word : Name) (at : ℕ) (c : Simpl) (n : ℕ) (b d : Bool) → same_name word skip_word ≡ b → same_name word throw_word ≡ d →
    cond {A = Read Simpl} b (Ok (Skip, next at)) (cond {A = Read Simpl} d (Ok (Throw, next at)) (Err at)) ≡ Ok (c, n) → IsCommandText (Atom word) c
leaf_spells word at c n true d e f read = word_moved word skip_word Skip c (value_ok Skip (next at) c n read) (name_is word skip_word e) refl refl refl
leaf_spells word at c n false true e f read = word_moved word throw_word Throw c (value_ok Throw (next at) c n read) (name_is word throw_word f) refl refl refl
leaf_spells word at c n false false e f read = absurd cc

set_spells : (ts : Trees) (at inner : ℕ) (c : Simpl) (n : ℕ) (o : Option (Tree × Tree)) → two_of ts ≡ o → set_row at inner o ≡ Ok (c, n) → IsAlone H.Set ts c
set_spells ts at inner c n None is read = absurd cc
set_spells ts at inner c n (Some (t, u)) is read =
    let (x, first, others) = bind_ok (name_at inner t) (λ x. exp_at x.1 u >>= λ y. Ok (Set x.0 y.0, y.1)) (c, n) read in
    let (y, second, last) = bind_ok (exp_at x.1 u) (λ y. Ok (Set x.0 y.0, y.1)) (c, n) others in
    let h = name_spells t inner x.0 x.1 first in
    let k = exp_spells u x.1 y.0 y.1 second in
    alone_moved H.Set ts (Set x.0 y.0) c (value_ok (Set x.0 y.0) y.1 c n last) (ap (begins H.Set) (two_is ts (t, u) is ∙ ap₂ two h.0 k.0)) (and_from (is_name x.0) (is_exp y.0) h.1 k.1) (refl {a = false})

gset_spells : (ts : Trees) (at inner : ℕ) (c : Simpl) (n : ℕ) (o : Option (Tree × Tree × Tree)) → three_of ts ≡ o → gset_row at inner o ≡ Ok (c, n) → IsAlone H.Gset ts c
gset_spells ts at inner c n None is read = absurd cc
gset_spells ts at inner c n (Some (t, u, v)) is read =
    let (x, first, others) = bind_ok (name_at inner t) (λ x. path_at x.1 u >>= λ y. exp_at y.1 v >>= λ z. Ok (SetGlobal x.0 y.0 z.0, z.1)) (c, n) read in
    let (y, second, rest) = bind_ok (path_at x.1 u) (λ y. exp_at y.1 v >>= λ z. Ok (SetGlobal x.0 y.0 z.0, z.1)) (c, n) others in
    let (z, third, last) = bind_ok (exp_at y.1 v) (λ z. Ok (SetGlobal x.0 y.0 z.0, z.1)) (c, n) rest in
    let h = name_spells t inner x.0 x.1 first in
    let k = path_spells u x.1 y.0 y.1 second in
    let l = exp_spells v y.1 z.0 z.1 third in
    alone_moved H.Gset ts (SetGlobal x.0 y.0 z.0) c (value_ok (SetGlobal x.0 y.0 z.0) z.1 c n last)
    (ap (begins H.Gset) (three_is ts (t, u, v) is ∙ three_same h.0 k.0 l.0))
    (and_from (is_name x.0) (is_path y.0 && is_exp z.0) h.1 (and_from (is_path y.0) (is_exp z.0) k.1 l.1)) (refl {a = false})

store_spells : (ts : Trees) (at inner : ℕ) (c : Simpl) (n : ℕ) (o : Option (Tree × Tree × Tree × Tree)) → four_of ts ≡ o → store_row at inner o ≡ Ok (c, n) → IsAlone H.Store ts c
store_spells ts at inner c n None is read = absurd cc
store_spells ts at inner c n (Some (t, u, v, w)) is read =
    let (x, read0, others0) = bind_ok (type_at inner t) (λ x. exp_at x.1 u >>= λ y. path_at y.1 v >>= λ z. exp_at z.1 w >>= λ a. Ok (Store x.0 y.0 z.0 a.0, a.1)) (c, n) read in
    let (y, read1, others1) = bind_ok (exp_at x.1 u) (λ y. path_at y.1 v >>= λ z. exp_at z.1 w >>= λ a. Ok (Store x.0 y.0 z.0 a.0, a.1)) (c, n) others0 in
    let (z, read2, others2) = bind_ok (path_at y.1 v) (λ z. exp_at z.1 w >>= λ a. Ok (Store x.0 y.0 z.0 a.0, a.1)) (c, n) others1 in
    let (a, read3, last) = bind_ok (exp_at z.1 w) (λ a. Ok (Store x.0 y.0 z.0 a.0, a.1)) (c, n) others2 in
    let i = type_spells t inner x.0 x.1 read0 in
    let j = exp_spells u x.1 y.0 y.1 read1 in
    let k = path_spells v y.1 z.0 z.1 read2 in
    let l = exp_spells w z.1 a.0 a.1 read3 in
    alone_moved H.Store ts (Store x.0 y.0 z.0 a.0) c (value_ok (Store x.0 y.0 z.0 a.0) a.1 c n last)
    (ap (begins H.Store) (four_is ts (t, u, v, w) is ∙ four_same i.0 j.0 k.0 l.0))
    (and_from (is_type x.0) (is_exp y.0 && (is_path z.0 && is_exp a.0)) i.1 (and_from (is_exp y.0) (is_path z.0 && is_exp a.0) j.1 (and_from (is_path z.0) (is_exp a.0) k.1 l.1))) (refl {a = false})

pick_spells : (ts : Trees) (at inner : ℕ) (c : Simpl) (n : ℕ) (o : Option Tree) → one_of ts ≡ o → pick_row at inner o ≡ Ok (c, n) → IsAlone H.Pick ts c
pick_spells ts at inner c n None is read = absurd cc
pick_spells ts at inner c n (Some t) is read =
    let (x, first, last) = bind_ok (name_at inner t) (λ x. Ok (Pick x.0, x.1)) (c, n) read in
    let h = name_spells t inner x.0 x.1 first in
    alone_moved H.Pick ts (Pick x.0) c (value_ok (Pick x.0) x.1 c n last) (ap (begins H.Pick) (one_is ts t is ∙ ap (λ u. more u no_trees) h.0)) h.1 (refl {a = false})

second_is : (ts : Trees) (x : Tree × Tree × Trees) → with_second (first_of ts) ≡ Some x → ts ≡ more x.0 (more x.1 x.2)
second_is (more t (more u us)) x e = let same : ◌≡◌ {A = Tree × Tree × Trees} (t, u, us) x = cc in ap (λ (y : Tree × Tree × Trees). more y.0 (more y.1 y.2)) same
second_is _ x e = absurd cc

call_spells : (ts : Trees) (at inner : ℕ) (c : Simpl) (n : ℕ) (o : Option (Tree × Tree × Trees)) → with_second (first_of ts) ≡ o → call_row at inner o ≡ Ok (c, n) → IsAlone H.Call ts c
call_spells ts at inner c n None is read = absurd cc
call_spells ts at inner c n (Some (t, u, us)) is read =
    let (x, read0, others0) = bind_ok (target_at inner t) (λ x. name_at x.1 u >>= λ y. exps_at y.1 us >>= λ z. Ok (Call x.0 y.0 z.0, z.1)) (c, n) read in
    let (y, read1, others1) = bind_ok (name_at x.1 u) (λ y. exps_at y.1 us >>= λ z. Ok (Call x.0 y.0 z.0, z.1)) (c, n) others0 in
    let (z, read2, last) = bind_ok (exps_at y.1 us) (λ z. Ok (Call x.0 y.0 z.0, z.1)) (c, n) others1 in
    let h = target_spells t inner x.0 x.1 read0 in
    let k = name_spells u x.1 y.0 y.1 read1 in
    let l = exps_spell us y.1 z.0 z.1 read2 in
    alone_moved H.Call ts (Call x.0 y.0 z.0) c (value_ok (Call x.0 y.0 z.0) z.1 c n last)
    (ap (begins H.Call) (second_is ts (t, u, us) is ∙ ap (λ v. more v (more u us)) h.0 ∙ ap (more (target_tree x.0)) (ap₂ more k.0 l.0)))
    (and_from (is_target x.0) (is_name y.0 && each is_exp z.0) h.1 (and_from (is_name y.0) (each is_exp z.0) k.1 l.1)) (refl {a = false})

-- a list with this head
from_alone : (word : Name) (h : CommandHead) (ts : Trees) (c : Simpl) → command_word h ≡ word → IsAlone h ts c → IsCommandText (Node (more (Atom word) ts)) c
from_alone word h ts c e is = (ap (λ w. Node (more (Atom w) ts)) (sym e) ∙ is.0, is.1, λ _. is.2)

-- what the parts of a sequence are read as
abbrev AreParts : Trees → Simpl → Type 0
AreParts ts c = (ts ≡ sequence_parts c) × (is_command c ≡ true)

-- a command and the others, of a sequence
abbrev seq_at : ℕ → Tree → Trees → Read Simpl
seq_at at t us = do
  x ← command_at at t
  y ← sequence_at x.1 us
  Ok (Seq x.0 y.0, y.1)

seq_spells : (t : Tree) (us : Trees) (at : ℕ) (c : Simpl) (n : ℕ) →
    ((k : ℕ) (o : Simpl) (j : ℕ) → command_at k t ≡ Ok (o, j) → IsCommandText t o) →
    ((k : ℕ) (o : Simpl) (j : ℕ) → sequence_at k us ≡ Ok (o, j) → AreParts us o) →
    seq_at at t us ≡ Ok (c, n) → AreParts (more t us) c
seq_spells t us at c n first_spells others_spell read =
    let (x, first, others) = bind_ok (command_at at t) (λ x. sequence_at x.1 us >>= λ y. Ok (Seq x.0 y.0, y.1)) (c, n) read in
    let (y, second, last) = bind_ok (sequence_at x.1 us) (λ y. Ok (Seq x.0 y.0, y.1)) (c, n) others in
    let h = first_spells at x.0 x.1 first in
    let k = others_spell x.1 y.0 y.1 second in
    let same = value_ok (Seq x.0 y.0) y.1 c n last in
    (ap₂ more h.0 k.0 ∙ ap sequence_parts same, ap is_command (sym same) ∙ and_from (is_command x.0) (is_command y.0) h.1 k.1)

-- a list that begins with `seq`
list_spells : (word : Name) (t : Tree) (us : Trees) (at inner : ℕ) (c : Simpl) (n : ℕ) → command_word H.Seq ≡ word → (b : Bool) → is_no_tree us ≡ b →
    (seq_at inner t us ≡ Ok (c, n) → AreParts (more t us) c) →
    cond {A = Read Simpl} b (Err at) (seq_at inner t us) ≡ Ok (c, n) → IsCommandText (Node (more (Atom word) (more t us))) c
list_spells word t us at inner c n e true others spells read = absurd cc
list_spells word t us at inner c n e false others spells read =
    let h = spells read in (
      ap (λ w. Node (more (Atom w) (more t us))) (sym e) ∙ sym (more_is t us others) ∙ ap sequence h.0,
      h.1,
      λ no_seq. let begins_so : begins_seq (Node (more (Atom word) (more t us))) ≡ true = ap (λ w. same_name w (command_word H.Seq)) (sym e) in absurd (false≢true (sym no_seq ∙ begins_so)),
    )

none_is : (ts : Trees) → is_no_tree ts ≡ true → ts ≡ no_trees
none_is no_trees e = refl
none_is (more t ts) e = absurd (false≢true e)

parts_spell : (t : Tree) (us : Trees) (at : ℕ) (c : Simpl) (n : ℕ) (b d : Bool) → is_no_tree us ≡ b → begins_seq t ≡ d →
    ((o : Simpl) (j : ℕ) → command_at at t ≡ Ok (o, j) → IsCommandText t o) →
    (seq_at at t us ≡ Ok (c, n) → AreParts (more t us) c) →
    cond {A = Read Simpl} b (cond {A = Read Simpl} d (Err at) (command_at at t)) (seq_at at t us) ≡ Ok (c, n) → AreParts (more t us) c
parts_spell t us at c n true true others no_seq spells more_spell read = absurd cc
parts_spell t us at c n true false others no_seq spells more_spell read =
    let h = spells c n read in
    (ap (more t) (none_is us others) ∙ ap (λ u. more u no_trees) h.0 ∙ sym (alone_parts c (h.2 no_seq)), h.1)
parts_spell t us at c n false d others no_seq spells more_spell read = more_spell read

mutual
  pub command_spells : (t : Tree) (at : ℕ) (c : Simpl) (n : ℕ) → command_at at t ≡ Ok (c, n) → IsCommandText t c
  command_spells (Atom word) at c n read = leaf_spells word at c n (same_name word skip_word) (same_name word throw_word) refl refl read
  command_spells (Node (more (Atom word) ts)) at c n read =
      built_spells word (looked_up command_word command_heads word) ts at (next (next at)) c n (λ h found. looked_up_is command_word command_heads word h found) read
  command_spells _ at c n read = absurd cc

  built_spells : (word : Name) (o : Option CommandHead) (ts : Trees) (at inner : ℕ) (c : Simpl) (n : ℕ) → ((h : CommandHead) → o ≡ Some h → command_word h ≡ word) → built_command_at at inner o ts ≡ Ok (c, n) → IsCommandText (Node (more (Atom word) ts)) c
  built_spells word (Some H.Set) ts at inner c n found read = from_alone word H.Set ts c (found H.Set refl) (set_spells ts at inner c n (two_of ts) refl read)
  built_spells word (Some H.Gset) ts at inner c n found read = from_alone word H.Gset ts c (found H.Gset refl) (gset_spells ts at inner c n (three_of ts) refl read)
  built_spells word (Some H.Store) ts at inner c n found read = from_alone word H.Store ts c (found H.Store refl) (store_spells ts at inner c n (four_of ts) refl read)
  built_spells word (Some H.Pick) ts at inner c n found read = from_alone word H.Pick ts c (found H.Pick refl) (pick_spells ts at inner c n (one_of ts) refl read)
  built_spells word (Some H.Call) ts at inner c n found read = from_alone word H.Call ts c (found H.Call refl) (call_spells ts at inner c n (with_second (first_of ts)) refl read)
  built_spells word (Some H.Seq) (more t us) at inner c n found read =
      list_spells word t us at inner c n (found H.Seq refl) (is_no_tree us) refl
      (λ whole. seq_spells t us inner c n (λ k o j. command_spells t k o j) (λ k o j. sequence_spells us k o j) whole) read
  built_spells word (Some H.Cond) (more t (more u (more v no_trees))) at inner c n found read =
      let (x, read0, others0) = bind_ok (exp_at inner t) (λ x. command_at x.1 u >>= λ y. command_at y.1 v >>= λ z. Ok (Cond x.0 y.0 z.0, z.1)) (c, n) read in
      let (y, read1, others1) = bind_ok (command_at x.1 u) (λ y. command_at y.1 v >>= λ z. Ok (Cond x.0 y.0 z.0, z.1)) (c, n) others0 in
      let (z, read2, last) = bind_ok (command_at y.1 v) (λ z. Ok (Cond x.0 y.0 z.0, z.1)) (c, n) others1 in
      let h = exp_spells t inner x.0 x.1 read0 in
      let k = command_spells u x.1 y.0 y.1 read1 in
      let l = command_spells v y.1 z.0 z.1 read2 in
      from_alone word H.Cond (more t (more u (more v no_trees))) c (found H.Cond refl)
      (alone_moved H.Cond (more t (more u (more v no_trees))) (Cond x.0 y.0 z.0) c (value_ok (Cond x.0 y.0 z.0) z.1 c n last) (ap (begins H.Cond) (three_same h.0 k.0 l.0))
      (and_from (is_exp x.0) (is_command y.0 && is_command z.0) h.1 (and_from (is_command y.0) (is_command z.0) k.1 l.1)) (refl {a = false}))
  built_spells word (Some H.Guard) (more t (more u (more v no_trees))) at inner c n found read =
      let (x, read0, others0) = bind_ok (guarded_at inner t u) (λ x. command_at x.1 v >>= λ y. Ok (Guard x.0 y.0, y.1)) (c, n) read in
      let (y, read1, last) = bind_ok (command_at x.1 v) (λ y. Ok (Guard x.0 y.0, y.1)) (c, n) others0 in
      let h = guarded_spells t u inner x.0 x.1 read0 in
      let k = command_spells v x.1 y.0 y.1 read1 in
      from_alone word H.Guard (more t (more u (more v no_trees))) c (found H.Guard refl)
      (alone_moved H.Guard (more t (more u (more v no_trees))) (Guard x.0 y.0) c (value_ok (Guard x.0 y.0) y.1 c n last) (ap (begins H.Guard) (three_same h.0 h.1 k.0))
      (and_from (is_exp x.0.exp) (is_command y.0) h.2 k.1) (refl {a = false}))
  built_spells word (Some H.Catch) (more t (more u no_trees)) at inner c n found read =
      let (x, read0, others0) = bind_ok (command_at inner t) (λ x. command_at x.1 u >>= λ y. Ok (Catch x.0 y.0, y.1)) (c, n) read in
      let (y, read1, last) = bind_ok (command_at x.1 u) (λ y. Ok (Catch x.0 y.0, y.1)) (c, n) others0 in
      let h = command_spells t inner x.0 x.1 read0 in
      let k = command_spells u x.1 y.0 y.1 read1 in
      from_alone word H.Catch (more t (more u no_trees)) c (found H.Catch refl)
      (alone_moved H.Catch (more t (more u no_trees)) (Catch x.0 y.0) c (value_ok (Catch x.0 y.0) y.1 c n last) (ap (begins H.Catch) (ap₂ two h.0 k.0))
      (and_from (is_command x.0) (is_command y.0) h.1 k.1) (refl {a = false}))
  built_spells word (Some H.While) (more t (more u (more v no_trees))) at inner c n found read =
      let (x, read0, others0) = bind_ok (conditions_at inner t) (λ x. exp_at x.1 u >>= λ y. command_at y.1 v >>= λ z. Ok (While x.0 y.0 z.0, z.1)) (c, n) read in
      let (y, read1, others1) = bind_ok (exp_at x.1 u) (λ y. command_at y.1 v >>= λ z. Ok (While x.0 y.0 z.0, z.1)) (c, n) others0 in
      let (z, read2, last) = bind_ok (command_at y.1 v) (λ z. Ok (While x.0 y.0 z.0, z.1)) (c, n) others1 in
      let h = conditions_spell t inner x.0 x.1 read0 in
      let k = exp_spells u x.1 y.0 y.1 read1 in
      let l = command_spells v y.1 z.0 z.1 read2 in
      from_alone word H.While (more t (more u (more v no_trees))) c (found H.While refl)
      (alone_moved H.While (more t (more u (more v no_trees))) (While x.0 y.0 z.0) c (value_ok (While x.0 y.0 z.0) z.1 c n last) (ap (begins H.While) (three_same h.0 k.0 l.0))
      (and_from (each is_condition x.0) (is_exp y.0 && is_command z.0) h.1 (and_from (is_exp y.0) (is_command z.0) k.1 l.1)) (refl {a = false}))
  built_spells word _ _ at inner c n found read = absurd cc

  sequence_spells : (ts : Trees) (at : ℕ) (c : Simpl) (n : ℕ) → sequence_at at ts ≡ Ok (c, n) → AreParts ts c
  sequence_spells no_trees at c n read = absurd cc
  sequence_spells (more t us) at c n read =
      parts_spell t us at c n (is_no_tree us) (begins_seq t) refl refl (λ o j. command_spells t at o j)
      (λ whole. seq_spells t us at c n (λ k o j. command_spells t k o j) (λ k o j. sequence_spells us k o j) whole) read
