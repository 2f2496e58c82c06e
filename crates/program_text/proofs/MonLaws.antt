-- A program's tree is read as the program, and what is read as a program is its tree.
use Rattle.std.proofs.Common.{◌≡◌, ℕ, Bool, true, false, cond, ◌&&◌, Option, Some, None, Ok, Err, refl, ap, ap₂, sym, ◌∙◌}
use Rattle.std.proofs.lemmas.Bool.{and_parts, and_from, cond-true, cond-false, false≢true}
use Rattle.c_values.specs.Name.{Name, same_name, are_distinct}
use Rattle.c_values.specs.Types.{CType}
use Rattle.ac_sx.specs.Tree.{Tree, Trees, Atom, Node, no_trees, more}
use Rattle.ac_sx.specs.CodeSx.{one_of, three_of, first_of}
use Rattle.expression_lang.specs.Expression.{Exp, Path}
use Rattle.expression_text.specs.Reading.{Read, next, ◌>>=◌}
use Rattle.expression_text.specs.Names.{is_name, name_at}
use Rattle.expression_text.specs.Words.{looked_up}
use Rattle.expression_text.specs.TypeText.{type_tree, is_type}
use Rattle.expression_text.specs.TypeReading.{type_at}
use Rattle.expression_text.specs.ExpText.{exp_tree, step_trees, is_exp, is_path}
use Rattle.expression_text.specs.ExpReading.{exp_at, path_at}
use Rattle.expression_text.specs.Lists.{each, trees_for, exp_trees, exps_at, names_tree, names_at}
use Rattle.expression_text.proofs.LookedUp.{looked_up_is}
use Rattle.expression_text.proofs.Behind.{behind, all_behind, IsReadAs, AreReadAs, bind_ok, value_ok}
use Rattle.expression_text.proofs.TypesText.{name_reads, name_spells, type_reads, type_spells}
use Rattle.expression_text.proofs.ExpsText.{exp_reads, exp_spells, path_reads, path_spells}
use Rattle.expression_text.proofs.ListLaws.{exps_read, exps_spell, names_read, names_spell}
use Rattle.monad_lang.specs.Program.{Place, Stored, Written, Global, Mon, Ret, Bind, Guard, If, Write, Loop, Call, Pick}
use Rattle.monad_lang.specs.Run.{start_names}
use Rattle.program_text.specs.declared.heads.MonHead.{MonHead}
use Rattle.program_text.specs.declared.heads.MonHead.TheVariants as H
use Rattle.program_text.specs.Kinds.{kind_tree, kind_at}
use Rattle.program_text.specs.MonText.{mon_word, mon_heads, begins, three, four, start_tree, sequence, sequence_parts, mon_tree, is_place, is_start, is_mon}
use Rattle.program_text.specs.MonReading.{four_of, starts_at, ret_row, guard_row, write_row, gset_row, call_row, pick_row, is_odd, is_sequence, begins_do, mon_at, built_mon_at, sequence_at}
use Rattle.program_text.proofs.KindLaws.{one_is, kind_reads, kind_spells}
use Rattle.program_text.proofs.PartLaws.{three_is, four_is, first_is, three_same, four_same, starts_read, starts_spell}
use Rattle.program_text.proofs.MonRows.{mon_heads_found}

-- a list with a head is read by its row
row_reads : (h : MonHead) (ts : Trees) (at : ℕ) → mon_at at (begins h ts) ≡ built_mon_at at (next (next at)) (Some h) ts
row_reads h ts at = ap (λ o. built_mon_at at (next (next at)) o ts) (mon_heads_found h)

-- a program that is no sequence stands for itself
abbrev IsBoth : Tree → Trees → Mon → Type 0
IsBoth t ts m = IsReadAs mon_at t m × AreReadAs sequence_at ts m

alone : (t : Tree) (m : Mon) → begins_do t ≡ false → IsReadAs mon_at t m → IsBoth t (more t no_trees) m
alone t m no_do h = (h, λ at. cond-false (begins_do t) (Err at) (mon_at at t) no_do ∙ h at)

parts_are_odd : (m : Mon) → is_odd (sequence_parts m) ≡ true
parts_are_odd (Bind m xs n) = parts_are_odd n
parts_are_odd _ = refl

write_reads : (place : CType → Exp → Path → Place) (ty : CType) (p : Exp) (path : Path) (e : Exp) → (is_type ty && (is_exp p && is_path path)) ≡ true → is_exp e ≡ true → (at inner : ℕ) →
    write_row at inner place (Some (type_tree ty, exp_tree p, Node (step_trees path), exp_tree e)) ≡ Ok (Write (place ty p path) e, all_behind inner (four (type_tree ty) (exp_tree p) (Node (step_trees path)) (exp_tree e)))
write_reads place ty p path e is fine at inner =
    let q = and_parts (is_type ty) (is_exp p && is_path path) is in
    let s = and_parts (is_exp p) (is_path path) q.1 in
    ap (λ r. r >>= λ x. exp_at x.1 (exp_tree p) >>= λ y. path_at y.1 (Node (step_trees path)) >>= λ z. exp_at z.1 (exp_tree e) >>= λ w. Ok (Write (place x.0 y.0 z.0) w.0, w.1)) (type_reads ty q.0 inner)
    ∙ ap (λ r. r >>= λ y. path_at y.1 (Node (step_trees path)) >>= λ z. exp_at z.1 (exp_tree e) >>= λ w. Ok (Write (place ty y.0 z.0) w.0, w.1)) (exp_reads p s.0 (behind inner (type_tree ty)))
    ∙ ap (λ r. r >>= λ z. exp_at z.1 (exp_tree e) >>= λ w. Ok (Write (place ty p z.0) w.0, w.1)) (path_reads path s.1 (next (behind (behind inner (type_tree ty)) (exp_tree p))))
    ∙ ap (λ r. r >>= λ w. Ok (Write (place ty p path) w.0, w.1)) (exp_reads e fine (behind (behind (behind inner (type_tree ty)) (exp_tree p)) (Node (step_trees path))))

both : (m : Mon) → is_mon m ≡ true → IsBoth (mon_tree m) (sequence_parts m) m
both (Ret es) is = alone (mon_tree (Ret es)) (Ret es) (refl {a = false}) (λ at.
    row_reads H.Ret (exp_trees es) at ∙ ap (λ r. r >>= λ x. Ok (Ret x.0, x.1)) (exps_read es is (next (next at))))
both (Bind m xs n) is =
    let p = and_parts (each is_name xs && are_distinct xs) (is_mon m && is_mon n) is in
    let names = and_parts (each is_name xs) (are_distinct xs) p.0 in
    let q = and_parts (is_mon m) (is_mon n) p.1 in
    let first = both m q.0 in
    let last = both n q.1 in
    let parts : AreReadAs sequence_at (sequence_parts (Bind m xs n)) (Bind m xs n) = λ at.
    ap (λ r. r >>= λ x. mon_at x.1 (mon_tree m) >>= λ y. sequence_at y.1 (sequence_parts n) >>= λ z. Ok (Bind y.0 x.0 z.0, z.1)) (names_read xs names.0 names.1 at)
    ∙ ap (λ r. r >>= λ y. sequence_at y.1 (sequence_parts n) >>= λ z. Ok (Bind y.0 xs z.0, z.1)) (first.0 (behind at (names_tree xs)))
    ∙ ap (λ r. r >>= λ z. Ok (Bind m xs z.0, z.1)) (last.1 (behind (behind at (names_tree xs)) (mon_tree m)))
    in (
      λ at.
          row_reads H.Do (sequence_parts (Bind m xs n)) at
          ∙ cond-true (is_sequence (sequence_parts (Bind m xs n))) (sequence_at (next (next at)) (sequence_parts (Bind m xs n))) (Err at) (parts_are_odd n)
          ∙ parts (next (next at)),
      parts,
    )
both (Guard e) is = alone (mon_tree (Guard e)) (Guard e) (refl {a = false}) (λ at.
    row_reads H.Guard (more (exp_tree e) no_trees) at ∙ ap (λ r. r >>= λ x. Ok (Guard x.0, x.1)) (exp_reads e is (next (next at))))
both (If e m n) is =
    let p = and_parts (is_exp e) (is_mon m && is_mon n) is in
    let q = and_parts (is_mon m) (is_mon n) p.1 in
    let first = (both m q.0).0 in
    let last = (both n q.1).0 in
    alone (mon_tree (If e m n)) (If e m n) (refl {a = false}) (λ at.
    row_reads H.If (three (exp_tree e) (mon_tree m) (mon_tree n)) at
    ∙ ap (λ r. r >>= λ x. mon_at x.1 (mon_tree m) >>= λ y. mon_at y.1 (mon_tree n) >>= λ z. Ok (If x.0 y.0 z.0, z.1)) (exp_reads e p.0 (next (next at)))
    ∙ ap (λ r. r >>= λ y. mon_at y.1 (mon_tree n) >>= λ z. Ok (If e y.0 z.0, z.1)) (first (behind (next (next at)) (exp_tree e)))
    ∙ ap (λ r. r >>= λ z. Ok (If e m z.0, z.1)) (last (behind (behind (next (next at)) (exp_tree e)) (mon_tree m))))
both (Write (Stored ty p path) e) is =
    let q = and_parts (is_place (Stored ty p path)) (is_exp e) is in
    alone (mon_tree (Write (Stored ty p path) e)) (Write (Stored ty p path) e) (refl {a = false}) (λ at.
    row_reads H.Store (four (type_tree ty) (exp_tree p) (Node (step_trees path)) (exp_tree e)) at ∙ write_reads Stored ty p path e q.0 q.1 at (next (next at)))
both (Write (Written ty p path) e) is =
    let q = and_parts (is_place (Written ty p path)) (is_exp e) is in
    alone (mon_tree (Write (Written ty p path) e)) (Write (Written ty p path) e) (refl {a = false}) (λ at.
    row_reads H.Write (four (type_tree ty) (exp_tree p) (Node (step_trees path)) (exp_tree e)) at ∙ write_reads Written ty p path e q.0 q.1 at (next (next at)))
both (Write (Global x path) e) is =
    let q = and_parts (is_place (Global x path)) (is_exp e) is in
    let s = and_parts (is_name x) (is_path path) q.0 in
    alone (mon_tree (Write (Global x path) e)) (Write (Global x path) e) (refl {a = false}) (λ at.
    row_reads H.Gset (three (Atom x) (Node (step_trees path)) (exp_tree e)) at
    ∙ ap (λ r. r >>= λ y. path_at y.1 (Node (step_trees path)) >>= λ z. exp_at z.1 (exp_tree e) >>= λ w. Ok (Write (Global y.0 z.0) w.0, w.1)) (name_reads x s.0 (next (next at)))
    ∙ ap (λ r. r >>= λ z. exp_at z.1 (exp_tree e) >>= λ w. Ok (Write (Global x z.0) w.0, w.1)) (path_reads path s.1 (next (next (next (next at)))))
    ∙ ap (λ r. r >>= λ w. Ok (Write (Global x path) w.0, w.1)) (exp_reads e q.1 (behind (next (next (next at))) (Node (step_trees path)))))
both (Loop starts guard test m) is =
    let p = and_parts (each is_start starts && are_distinct (start_names starts)) (is_exp guard && (is_exp test && is_mon m)) is in
    let names = and_parts (each is_start starts) (are_distinct (start_names starts)) p.0 in
    let q = and_parts (is_exp guard) (is_exp test && is_mon m) p.1 in
    let s = and_parts (is_exp test) (is_mon m) q.1 in
    let body = (both m s.1).0 in
    let t = Node (trees_for start_tree starts) in
    alone (mon_tree (Loop starts guard test m)) (Loop starts guard test m) (refl {a = false}) (λ at.
    row_reads H.Loop (four t (exp_tree guard) (exp_tree test) (mon_tree m)) at
    ∙ ap (λ r. r >>= λ x. exp_at x.1 (exp_tree guard) >>= λ y. exp_at y.1 (exp_tree test) >>= λ z. mon_at z.1 (mon_tree m) >>= λ w. Ok (Loop x.0 y.0 z.0 w.0, w.1)) (starts_read starts names.0 names.1 (next (next at)))
    ∙ ap (λ r. r >>= λ y. exp_at y.1 (exp_tree test) >>= λ z. mon_at z.1 (mon_tree m) >>= λ w. Ok (Loop starts y.0 z.0 w.0, w.1)) (exp_reads guard q.0 (behind (next (next at)) t))
    ∙ ap (λ r. r >>= λ z. mon_at z.1 (mon_tree m) >>= λ w. Ok (Loop starts guard z.0 w.0, w.1)) (exp_reads test s.0 (behind (behind (next (next at)) t) (exp_tree guard)))
    ∙ ap (λ r. r >>= λ w. Ok (Loop starts guard test w.0, w.1)) (body (behind (behind (behind (next (next at)) t) (exp_tree guard)) (exp_tree test))))
both (Call f es) is =
    let p = and_parts (is_name f) (each is_exp es) is in
    alone (mon_tree (Call f es)) (Call f es) (refl {a = false}) (λ at.
    row_reads H.Call (more (Atom f) (exp_trees es)) at
    ∙ ap (λ r. r >>= λ x. exps_at x.1 (exp_trees es) >>= λ y. Ok (Call x.0 y.0, y.1)) (name_reads f p.0 (next (next at)))
    ∙ ap (λ r. r >>= λ y. Ok (Call f y.0, y.1)) (exps_read es p.1 (next (next (next at)))))
both (Pick k) is = alone (mon_tree (Pick k)) (Pick k) (refl {a = false}) (λ at.
    row_reads H.Pick (more (kind_tree k) no_trees) at ∙ ap (λ r. r >>= λ x. Ok (Pick x.0, x.1)) (kind_reads k is (next (next at))))

pub mon_reads : (m : Mon) → is_mon m ≡ true → IsReadAs mon_at (mon_tree m) m
mon_reads m is = (both m is).0

-- the other way round
abbrev is_bind : Mon → Bool
is_bind (Bind m xs n) = true
is_bind _ = false

alone_parts : (m : Mon) → is_bind m ≡ false → sequence_parts m ≡ more (mon_tree m) no_trees
alone_parts (Bind m xs n) e = absurd (false≢true (sym e))
alone_parts _ _ = refl

-- the tree of a program, of one that is no sequence where the tree isn't
abbrev IsMonText : Tree → Mon → Type 0
IsMonText t m = (t ≡ mon_tree m) × (is_mon m ≡ true) × (begins_do t ≡ false → is_bind m ≡ false)

-- of a program that is no sequence
abbrev IsAlone : MonHead → Trees → Mon → Type 0
IsAlone h ts m = (begins h ts ≡ mon_tree m) × (is_mon m ≡ true) × (is_bind m ≡ false)

alone_moved : (h : MonHead) (ts : Trees) (m o : Mon) → m ≡ o → begins h ts ≡ mon_tree m → is_mon m ≡ true → is_bind m ≡ false → IsAlone h ts o
alone_moved h ts m o same is fine single = (is ∙ ap mon_tree same, ap is_mon (sym same) ∙ fine, ap is_bind (sym same) ∙ single)

ret_spells : (ts : Trees) (inner : ℕ) (m : Mon) (n : ℕ) → ret_row inner ts ≡ Ok (m, n) → IsAlone H.Ret ts m
ret_spells ts inner m n read =
    let (x, first, last) = bind_ok (exps_at inner ts) (λ x. Ok (Ret x.0, x.1)) (m, n) read in
    let h = exps_spell ts inner x.0 x.1 first in
    alone_moved H.Ret ts (Ret x.0) m (value_ok (Ret x.0) x.1 m n last) (ap (begins H.Ret) h.0) h.1 (refl {a = false})

guard_spells : (ts : Trees) (at inner : ℕ) (m : Mon) (n : ℕ) (o : Option Tree) → one_of ts ≡ o → guard_row at inner o ≡ Ok (m, n) → IsAlone H.Guard ts m
guard_spells ts at inner m n None is read = absurd cc
guard_spells ts at inner m n (Some t) is read =
    let (x, first, last) = bind_ok (exp_at inner t) (λ x. Ok (Guard x.0, x.1)) (m, n) read in
    let h = exp_spells t inner x.0 x.1 first in
    alone_moved H.Guard ts (Guard x.0) m (value_ok (Guard x.0) x.1 m n last) (ap (begins H.Guard) (one_is ts t is ∙ ap (λ u. more u no_trees) h.0)) h.1 (refl {a = false})

pick_spells : (ts : Trees) (at inner : ℕ) (m : Mon) (n : ℕ) (o : Option Tree) → one_of ts ≡ o → pick_row at inner o ≡ Ok (m, n) → IsAlone H.Pick ts m
pick_spells ts at inner m n None is read = absurd cc
pick_spells ts at inner m n (Some t) is read =
    let (x, first, last) = bind_ok (kind_at inner t) (λ x. Ok (Pick x.0, x.1)) (m, n) read in
    let h = kind_spells t inner x.0 x.1 first in
    alone_moved H.Pick ts (Pick x.0) m (value_ok (Pick x.0) x.1 m n last) (ap (begins H.Pick) (one_is ts t is ∙ ap (λ u. more u no_trees) h.0)) h.1 (refl {a = false})

call_spells : (ts : Trees) (at inner : ℕ) (m : Mon) (n : ℕ) (o : Option (Tree × Trees)) → first_of ts ≡ o → call_row at inner o ≡ Ok (m, n) → IsAlone H.Call ts m
call_spells ts at inner m n None is read = absurd cc
call_spells ts at inner m n (Some (t, us)) is read =
    let (x, first, others) = bind_ok (name_at inner t) (λ x. exps_at x.1 us >>= λ y. Ok (Call x.0 y.0, y.1)) (m, n) read in
    let (y, second, last) = bind_ok (exps_at x.1 us) (λ y. Ok (Call x.0 y.0, y.1)) (m, n) others in
    let h = name_spells t inner x.0 x.1 first in
    let k = exps_spell us x.1 y.0 y.1 second in
    alone_moved H.Call ts (Call x.0 y.0) m (value_ok (Call x.0 y.0) y.1 m n last) (ap (begins H.Call) (first_is ts (t, us) is ∙ ap₂ more h.0 k.0)) (and_from (is_name x.0) (each is_exp y.0) h.1 k.1) (refl {a = false})

path_text : (t : Tree) (at : ℕ) (path : Path) (n : ℕ) → path_at at t ≡ Ok (path, n) → (t ≡ Node (step_trees path)) × (is_path path ≡ true)
path_text t at path n read = path_spells t at path n read

gset_spells : (ts : Trees) (at inner : ℕ) (m : Mon) (n : ℕ) (o : Option (Tree × Tree × Tree)) → three_of ts ≡ o → gset_row at inner o ≡ Ok (m, n) → IsAlone H.Gset ts m
gset_spells ts at inner m n None is read = absurd cc
gset_spells ts at inner m n (Some (t, u, v)) is read =
    let (x, first, others) = bind_ok (name_at inner t) (λ x. path_at x.1 u >>= λ y. exp_at y.1 v >>= λ z. Ok (Write (Global x.0 y.0) z.0, z.1)) (m, n) read in
    let (y, second, rest) = bind_ok (path_at x.1 u) (λ y. exp_at y.1 v >>= λ z. Ok (Write (Global x.0 y.0) z.0, z.1)) (m, n) others in
    let (z, third, last) = bind_ok (exp_at y.1 v) (λ z. Ok (Write (Global x.0 y.0) z.0, z.1)) (m, n) rest in
    let h = name_spells t inner x.0 x.1 first in
    let k = path_text u x.1 y.0 y.1 second in
    let l = exp_spells v y.1 z.0 z.1 third in
    alone_moved H.Gset ts (Write (Global x.0 y.0) z.0) m (value_ok (Write (Global x.0 y.0) z.0) z.1 m n last)
    (ap (begins H.Gset) (three_is ts (t, u, v) is ∙ three_same h.0 k.0 l.0))
    (and_from (is_name x.0 && is_path y.0) (is_exp z.0) (and_from (is_name x.0) (is_path y.0) h.1 k.1) l.1) (refl {a = false})

-- a write to a heap, of either kind
write_spells : (h : MonHead) (place : CType → Exp → Path → Place) →
    ((ty : CType) (p : Exp) (path : Path) (e : Exp) → begins h (four (type_tree ty) (exp_tree p) (Node (step_trees path)) (exp_tree e)) ≡ mon_tree (Write (place ty p path) e)) →
    ((ty : CType) (p : Exp) (path : Path) → is_place (place ty p path) ≡ (is_type ty && (is_exp p && is_path path))) →
    (ts : Trees) (at inner : ℕ) (m : Mon) (n : ℕ) (o : Option (Tree × Tree × Tree × Tree)) → four_of ts ≡ o → write_row at inner place o ≡ Ok (m, n) → IsAlone h ts m
write_spells h place text fine ts at inner m n None is read = absurd cc
write_spells h place text fine ts at inner m n (Some (t, u, v, w)) is read =
    let (x, read0, others0) = bind_ok (type_at inner t) (λ x. exp_at x.1 u >>= λ y. path_at y.1 v >>= λ z. exp_at z.1 w >>= λ a. Ok (Write (place x.0 y.0 z.0) a.0, a.1)) (m, n) read in
    let (y, read1, others1) = bind_ok (exp_at x.1 u) (λ y. path_at y.1 v >>= λ z. exp_at z.1 w >>= λ a. Ok (Write (place x.0 y.0 z.0) a.0, a.1)) (m, n) others0 in
    let (z, read2, others2) = bind_ok (path_at y.1 v) (λ z. exp_at z.1 w >>= λ a. Ok (Write (place x.0 y.0 z.0) a.0, a.1)) (m, n) others1 in
    let (a, read3, last) = bind_ok (exp_at z.1 w) (λ a. Ok (Write (place x.0 y.0 z.0) a.0, a.1)) (m, n) others2 in
    let i = type_spells t inner x.0 x.1 read0 in
    let j = exp_spells u x.1 y.0 y.1 read1 in
    let k = path_text v y.1 z.0 z.1 read2 in
    let l = exp_spells w z.1 a.0 a.1 read3 in
    alone_moved h ts (Write (place x.0 y.0 z.0) a.0) m (value_ok (Write (place x.0 y.0 z.0) a.0) a.1 m n last)
    (ap (begins h) (four_is ts (t, u, v, w) is ∙ four_same i.0 j.0 k.0 l.0) ∙ text x.0 y.0 z.0 a.0)
    (and_from (is_place (place x.0 y.0 z.0)) (is_exp a.0) (fine x.0 y.0 z.0 ∙ and_from (is_type x.0) (is_exp y.0 && is_path z.0) i.1 (and_from (is_exp y.0) (is_path z.0) j.1 k.1)) l.1) (refl {a = false})

-- a list with this head
from_alone : (word : Name) (h : MonHead) (ts : Trees) (m : Mon) → mon_word h ≡ word → IsAlone h ts m → IsMonText (Node (more (Atom word) ts)) m
from_alone word h ts m e is = (ap (λ w. Node (more (Atom w) ts)) (sym e) ∙ is.0, is.1, λ _. is.2)

-- what the parts of a sequence are read as
abbrev AreMonParts : Trees → Mon → Type 0
AreMonParts ts m = (ts ≡ sequence_parts m) × (is_mon m ≡ true)

bind_spells : (t u : Tree) (us : Trees) (at : ℕ) (m : Mon) (n : ℕ) →
    ((k : ℕ) (o : Mon) (j : ℕ) → mon_at k u ≡ Ok (o, j) → IsMonText u o) →
    ((k : ℕ) (o : Mon) (j : ℕ) → sequence_at k us ≡ Ok (o, j) → AreMonParts us o) →
    sequence_at at (more t (more u us)) ≡ Ok (m, n) → AreMonParts (more t (more u us)) m
bind_spells t u us at m n first_spells others_spell read =
    let (x, read0, others0) = bind_ok (names_at at t) (λ x. mon_at x.1 u >>= λ y. sequence_at y.1 us >>= λ z. Ok (Bind y.0 x.0 z.0, z.1)) (m, n) read in
    let (y, read1, others1) = bind_ok (mon_at x.1 u) (λ y. sequence_at y.1 us >>= λ z. Ok (Bind y.0 x.0 z.0, z.1)) (m, n) others0 in
    let (z, read2, last) = bind_ok (sequence_at y.1 us) (λ z. Ok (Bind y.0 x.0 z.0, z.1)) (m, n) others1 in
    let h = names_spell t at x.0 x.1 read0 in
    let k = first_spells x.1 y.0 y.1 read1 in
    let l = others_spell y.1 z.0 z.1 read2 in
    let same = value_ok (Bind y.0 x.0 z.0) z.1 m n last in (
      ap (λ v. more v (more u us)) h.0 ∙ ap (λ v. more (names_tree x.0) (more v us)) k.0 ∙ ap (λ vs. more (names_tree x.0) (more (mon_tree y.0) vs)) l.0 ∙ ap sequence_parts same,
      ap is_mon (sym same) ∙ and_from (each is_name x.0 && are_distinct x.0) (is_mon y.0 && is_mon z.0) (and_from (each is_name x.0) (are_distinct x.0) h.1 h.2) (and_from (is_mon y.0) (is_mon z.0) k.1 l.1),
    )

last_spells : (t : Tree) (at : ℕ) (m : Mon) (n : ℕ) (b : Bool) → ((o : Mon) (j : ℕ) → mon_at at t ≡ Ok (o, j) → IsMonText t o) →
    begins_do t ≡ b → cond {A = Read Mon} b (Err at) (mon_at at t) ≡ Ok (m, n) → AreMonParts (more t no_trees) m
last_spells t at m n true spells no_do read = absurd cc
last_spells t at m n false spells no_do read =
    let h = spells m n read in
    (ap (λ u. more u no_trees) h.0 ∙ sym (alone_parts m (h.2 no_do)), h.1)

-- a list that begins with `do`
do_spells : (word : Name) (t u : Tree) (us : Trees) (at inner : ℕ) (m : Mon) (n : ℕ) → mon_word H.Do ≡ word → (b : Bool) →
    (sequence_at inner (more t (more u us)) ≡ Ok (m, n) → AreMonParts (more t (more u us)) m) →
    cond {A = Read Mon} b (sequence_at inner (more t (more u us))) (Err at) ≡ Ok (m, n) → IsMonText (Node (more (Atom word) (more t (more u us)))) m
do_spells word t u us at inner m n e false spells read = absurd cc
do_spells word t u us at inner m n e true spells read =
    let h = spells read in (
      ap (λ w. Node (more (Atom w) (more t (more u us)))) (sym e) ∙ ap sequence h.0,
      h.1,
      λ no_do. let begins_so : begins_do (Node (more (Atom word) (more t (more u us)))) ≡ true = ap (λ w. same_name w (mon_word H.Do)) (sym e) in absurd (false≢true (sym no_do ∙ begins_so)),
    )

mutual
  pub mon_spells : (t : Tree) (at : ℕ) (m : Mon) (n : ℕ) → mon_at at t ≡ Ok (m, n) → IsMonText t m
  mon_spells (Node (more (Atom word) ts)) at m n read =
      built_spells word (looked_up mon_word mon_heads word) ts at (next (next at)) m n (λ h found. looked_up_is mon_word mon_heads word h found) read
  mon_spells _ at m n read = absurd cc

  built_spells : (word : Name) (o : Option MonHead) (ts : Trees) (at inner : ℕ) (m : Mon) (n : ℕ) → ((h : MonHead) → o ≡ Some h → mon_word h ≡ word) → built_mon_at at inner o ts ≡ Ok (m, n) → IsMonText (Node (more (Atom word) ts)) m
  built_spells word (Some H.Ret) ts at inner m n found read = from_alone word H.Ret ts m (found H.Ret refl) (ret_spells ts inner m n read)
  built_spells word (Some H.Guard) ts at inner m n found read = from_alone word H.Guard ts m (found H.Guard refl) (guard_spells ts at inner m n (one_of ts) refl read)
  built_spells word (Some H.Store) ts at inner m n found read =
      from_alone word H.Store ts m (found H.Store refl) (write_spells H.Store Stored (λ ty p path e. refl) (λ ty p path. refl) ts at inner m n (four_of ts) refl read)
  built_spells word (Some H.Write) ts at inner m n found read =
      from_alone word H.Write ts m (found H.Write refl) (write_spells H.Write Written (λ ty p path e. refl) (λ ty p path. refl) ts at inner m n (four_of ts) refl read)
  built_spells word (Some H.Gset) ts at inner m n found read = from_alone word H.Gset ts m (found H.Gset refl) (gset_spells ts at inner m n (three_of ts) refl read)
  built_spells word (Some H.Call) ts at inner m n found read = from_alone word H.Call ts m (found H.Call refl) (call_spells ts at inner m n (first_of ts) refl read)
  built_spells word (Some H.Pick) ts at inner m n found read = from_alone word H.Pick ts m (found H.Pick refl) (pick_spells ts at inner m n (one_of ts) refl read)
  built_spells word (Some H.Do) (more t (more u us)) at inner m n found read =
      do_spells word t u us at inner m n (found H.Do refl) (is_odd us)
      (λ whole. bind_spells t u us inner m n (λ k o j. mon_spells u k o j) (λ k o j. sequence_spells us k o j) whole) read
  built_spells word (Some H.If) (more t (more u (more v no_trees))) at inner m n found read =
      let (x, read0, others0) = bind_ok (exp_at inner t) (λ x. mon_at x.1 u >>= λ y. mon_at y.1 v >>= λ z. Ok (If x.0 y.0 z.0, z.1)) (m, n) read in
      let (y, read1, others1) = bind_ok (mon_at x.1 u) (λ y. mon_at y.1 v >>= λ z. Ok (If x.0 y.0 z.0, z.1)) (m, n) others0 in
      let (z, read2, last) = bind_ok (mon_at y.1 v) (λ z. Ok (If x.0 y.0 z.0, z.1)) (m, n) others1 in
      let h = exp_spells t inner x.0 x.1 read0 in
      let k = mon_spells u x.1 y.0 y.1 read1 in
      let l = mon_spells v y.1 z.0 z.1 read2 in
      from_alone word H.If (more t (more u (more v no_trees))) m (found H.If refl)
      (alone_moved H.If (more t (more u (more v no_trees))) (If x.0 y.0 z.0) m (value_ok (If x.0 y.0 z.0) z.1 m n last) (ap (begins H.If) (three_same h.0 k.0 l.0))
      (and_from (is_exp x.0) (is_mon y.0 && is_mon z.0) h.1 (and_from (is_mon y.0) (is_mon z.0) k.1 l.1)) (refl {a = false}))
  built_spells word (Some H.Loop) (more t (more u (more v (more w no_trees)))) at inner m n found read =
      let (x, read0, others0) = bind_ok (starts_at inner t) (λ x. exp_at x.1 u >>= λ y. exp_at y.1 v >>= λ z. mon_at z.1 w >>= λ a. Ok (Loop x.0 y.0 z.0 a.0, a.1)) (m, n) read in
      let (y, read1, others1) = bind_ok (exp_at x.1 u) (λ y. exp_at y.1 v >>= λ z. mon_at z.1 w >>= λ a. Ok (Loop x.0 y.0 z.0 a.0, a.1)) (m, n) others0 in
      let (z, read2, others2) = bind_ok (exp_at y.1 v) (λ z. mon_at z.1 w >>= λ a. Ok (Loop x.0 y.0 z.0 a.0, a.1)) (m, n) others1 in
      let (a, read3, last) = bind_ok (mon_at z.1 w) (λ a. Ok (Loop x.0 y.0 z.0 a.0, a.1)) (m, n) others2 in
      let h = starts_spell t inner x.0 x.1 read0 in
      let k = exp_spells u x.1 y.0 y.1 read1 in
      let l = exp_spells v y.1 z.0 z.1 read2 in
      let b = mon_spells w z.1 a.0 a.1 read3 in
      from_alone word H.Loop (more t (more u (more v (more w no_trees)))) m (found H.Loop refl)
      (alone_moved H.Loop (more t (more u (more v (more w no_trees)))) (Loop x.0 y.0 z.0 a.0) m (value_ok (Loop x.0 y.0 z.0 a.0) a.1 m n last) (ap (begins H.Loop) (four_same h.0 k.0 l.0 b.0))
      (and_from (each is_start x.0 && are_distinct (start_names x.0)) (is_exp y.0 && (is_exp z.0 && is_mon a.0)) (and_from (each is_start x.0) (are_distinct (start_names x.0)) h.1 h.2)
      (and_from (is_exp y.0) (is_exp z.0 && is_mon a.0) k.1 (and_from (is_exp z.0) (is_mon a.0) l.1 b.1))) (refl {a = false}))
  built_spells word _ _ at inner m n found read = absurd cc

  sequence_spells : (ts : Trees) (at : ℕ) (m : Mon) (n : ℕ) → sequence_at at ts ≡ Ok (m, n) → AreMonParts ts m
  sequence_spells no_trees at m n read = absurd cc
  sequence_spells (more t no_trees) at m n read = last_spells t at m n (begins_do t) (λ o j. mon_spells t at o j) refl read
  sequence_spells (more t (more u us)) at m n read = bind_spells t u us at m n (λ k o j. mon_spells u k o j) (λ k o j. sequence_spells us k o j) read
