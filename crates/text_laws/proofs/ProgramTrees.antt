-- The trees of programs and of commands that have texts are trees of atoms.
use Rattle.std.proofs.Common.{◌≡◌, true, ◌&&◌, List, Option, Some, None, refl}
use Rattle.std.proofs.lemmas.Bool.{and_parts}
use Rattle.c_values.specs.Name.{Name, are_distinct}
use Rattle.expression_lang.specs.GuardKind.{GuardKind, Div}
use Rattle.expression_lang.specs.Expression.{Exp}
use Rattle.expression_lang.specs.Sort.{Kind, WordKind, NatKind, IntKind, BoolKind, is_kind}
use Rattle.ac_sx.specs.Tree.{Trees, no_trees, more, Atom, IsTree, AreTrees, is_atom}
use Rattle.expression_text.specs.Names.{is_name}
use Rattle.expression_text.specs.TypeText.{is_type}
use Rattle.expression_text.specs.ExpText.{is_exp, is_path}
use Rattle.expression_text.specs.Lists.{each, names_tree}
use Rattle.expression_text.proofs.Atoms.{name_atom, type_is_tree}
use Rattle.monad_lang.specs.Program as M
use Rattle.monad_lang.specs.Program.{Mon, Start}
use Rattle.monad_lang.specs.Run.{start_names}
use Rattle.program_text.specs.Kinds.{kind_tree}
use Rattle.program_text.specs.MonText as P
use Rattle.program_text.specs.MonText.{write_tree, start_tree, mon_tree, is_place, is_start, is_mon}
use Rattle.simpl_lang.specs.Command as S
use Rattle.simpl_lang.specs.Command.{Simpl, Condition}
use Rattle.command_text.specs.CommandText as C
use Rattle.command_text.specs.CommandText.{guard_word, condition_tree, target_tree, command_tree, is_condition, is_target, is_command}
use Rattle.text_laws.proofs.ExpTrees.{atom_width, exp_is_tree, path_are_trees, each_is_tree, exps_are_trees}

-- Programs

pub kind_is_tree : (k : Kind) → is_kind k ≡ true → IsTree (kind_tree k)
kind_is_tree (WordKind n) h = (refl, (atom_width n h, tt))
kind_is_tree (NatKind n) h = (refl, (atom_width n h, tt))
kind_is_tree (IntKind n) h = (refl, (atom_width n h, tt))
kind_is_tree BoolKind h = refl

place_is_tree : (place : M.Place) (e : Exp) → is_place place ≡ true → is_exp e ≡ true → IsTree (write_tree place e)
place_is_tree (M.Stored t p path) e h k =
    let i = and_parts (is_type t) (is_exp p && is_path path) h in
    let j = and_parts (is_exp p) (is_path path) i.1 in
    (refl, (type_is_tree t i.0, (exp_is_tree p j.0, (path_are_trees path j.1, (exp_is_tree e k, tt)))))
place_is_tree (M.Written t p path) e h k =
    let i = and_parts (is_type t) (is_exp p && is_path path) h in
    let j = and_parts (is_exp p) (is_path path) i.1 in
    (refl, (type_is_tree t i.0, (exp_is_tree p j.0, (path_are_trees path j.1, (exp_is_tree e k, tt)))))
place_is_tree (M.Global x path) e h k =
    let i = and_parts (is_name x) (is_path path) h in
    (refl, (name_atom x i.0, (path_are_trees path i.1, (exp_is_tree e k, tt))))

start_is_tree : (x : Start) → is_start x ≡ true → IsTree (start_tree x)
start_is_tree x h =
    let p = and_parts (is_name x.name) (is_exp x.exp) h in (name_atom x.name p.0, (exp_is_tree x.exp p.1, tt))

names_are_tree : (xs : List Name) → each is_name xs ≡ true → IsTree (names_tree xs)
names_are_tree xs h = each_is_tree is_name Atom name_atom xs h

sequence_is_tree : (ts : Trees) → AreTrees ts → IsTree (P.sequence ts)
sequence_is_tree no_trees h = (refl, tt)
sequence_is_tree (more t no_trees) h = h.0
sequence_is_tree (more t (more u us)) h = (refl, h)

parts_are_trees : (m : Mon) → is_mon m ≡ true → AreTrees (P.sequence_parts m)
parts_are_trees (M.Bind m xs n) h =
    let p = and_parts (each is_name xs && are_distinct xs) (is_mon m && is_mon n) h in
    let q = and_parts (each is_name xs) (are_distinct xs) p.0 in
    let r = and_parts (is_mon m) (is_mon n) p.1 in (
      names_are_tree xs q.0,
      (sequence_is_tree (P.sequence_parts m) (parts_are_trees m r.0), parts_are_trees n r.1),
    )
parts_are_trees (M.Ret es) h = ((refl, exps_are_trees es h), tt)
parts_are_trees (M.Guard e) h = ((refl, (exp_is_tree e h, tt)), tt)
parts_are_trees (M.If e m n) h =
    let p = and_parts (is_exp e) (is_mon m && is_mon n) h in
    let r = and_parts (is_mon m) (is_mon n) p.1 in (
      (
        refl,
        (
          exp_is_tree e p.0,
          (
            sequence_is_tree (P.sequence_parts m) (parts_are_trees m r.0),
            (sequence_is_tree (P.sequence_parts n) (parts_are_trees n r.1), tt),
          ),
        ),
      ),
      tt,
    )
parts_are_trees (M.Write place e) h =
    let p = and_parts (is_place place) (is_exp e) h in (place_is_tree place e p.0 p.1, tt)
parts_are_trees (M.Loop starts guard test m) h =
    let p = and_parts (each is_start starts && are_distinct (start_names starts)) (is_exp guard && (is_exp test && is_mon m)) h in
    let s = and_parts (each is_start starts) (are_distinct (start_names starts)) p.0 in
    let q = and_parts (is_exp guard) (is_exp test && is_mon m) p.1 in
    let r = and_parts (is_exp test) (is_mon m) q.1 in (
      (
        refl,
        (
          each_is_tree is_start start_tree start_is_tree starts s.0,
          (
            exp_is_tree guard q.0,
            (
              exp_is_tree test r.0,
              (sequence_is_tree (P.sequence_parts m) (parts_are_trees m r.1), tt),
            ),
          ),
        ),
      ),
      tt,
    )
parts_are_trees (M.Call f es) h =
    let p = and_parts (is_name f) (each is_exp es) h in ((refl, (name_atom f p.0, exps_are_trees es p.1)), tt)
parts_are_trees (M.Pick k) h = ((refl, (kind_is_tree k h, tt)), tt)

pub mon_is_tree : (m : Mon) → is_mon m ≡ true → IsTree (mon_tree m)
mon_is_tree m h = sequence_is_tree (P.sequence_parts m) (parts_are_trees m h)

-- Commands

guard_atom : (k : GuardKind) → is_atom (guard_word k) ≡ true
guard_atom Div = refl
guard_atom _ = refl

condition_is_tree : (c : Condition) → is_condition c ≡ true → IsTree (condition_tree c)
condition_is_tree c h = (guard_atom c.kind, (exp_is_tree c.exp h, tt))

target_is_tree : (o : Option Name) → is_target o ≡ true → IsTree (target_tree o)
target_is_tree None h = refl
target_is_tree (Some x) h = name_atom x h

commands_are_tree : (ts : Trees) → AreTrees ts → IsTree (C.sequence ts)
commands_are_tree no_trees h = (refl, tt)
commands_are_tree (more t no_trees) h = h.0
commands_are_tree (more t (more u us)) h = (refl, h)

commands_are_trees : (c : Simpl) → is_command c ≡ true → AreTrees (C.sequence_parts c)
commands_are_trees (S.Set x e) h =
    let p = and_parts (is_name x) (is_exp e) h in ((refl, (name_atom x p.0, (exp_is_tree e p.1, tt))), tt)
commands_are_trees (S.SetGlobal x path e) h =
    let p = and_parts (is_name x) (is_path path && is_exp e) h in
    let q = and_parts (is_path path) (is_exp e) p.1 in
    ((refl, (name_atom x p.0, (path_are_trees path q.0, (exp_is_tree e q.1, tt)))), tt)
commands_are_trees (S.Store t p path e) h =
    let i = and_parts (is_type t) (is_exp p && (is_path path && is_exp e)) h in
    let j = and_parts (is_exp p) (is_path path && is_exp e) i.1 in
    let k = and_parts (is_path path) (is_exp e) j.1 in
    ((refl, (type_is_tree t i.0, (exp_is_tree p j.0, (path_are_trees path k.0, (exp_is_tree e k.1, tt))))), tt)
commands_are_trees (S.Pick x) h = ((refl, (name_atom x h, tt)), tt)
commands_are_trees (S.Seq c d) h =
    let p = and_parts (is_command c) (is_command d) h in
    (commands_are_tree (C.sequence_parts c) (commands_are_trees c p.0), commands_are_trees d p.1)
commands_are_trees (S.Cond e c d) h =
    let p = and_parts (is_exp e) (is_command c && is_command d) h in
    let q = and_parts (is_command c) (is_command d) p.1 in (
      (
        refl,
        (
          exp_is_tree e p.0,
          (
            commands_are_tree (C.sequence_parts c) (commands_are_trees c q.0),
            (commands_are_tree (C.sequence_parts d) (commands_are_trees d q.1), tt),
          ),
        ),
      ),
      tt,
    )
commands_are_trees (S.Guard a c) h =
    let p = and_parts (is_condition a) (is_command c) h in (
      (
        refl,
        (
          guard_atom a.kind,
          (
            exp_is_tree a.exp p.0,
            (commands_are_tree (C.sequence_parts c) (commands_are_trees c p.1), tt),
          ),
        ),
      ),
      tt,
    )
commands_are_trees (S.Catch c d) h =
    let q = and_parts (is_command c) (is_command d) h in (
      (
        refl,
        (
          commands_are_tree (C.sequence_parts c) (commands_are_trees c q.0),
          (commands_are_tree (C.sequence_parts d) (commands_are_trees d q.1), tt),
        ),
      ),
      tt,
    )
commands_are_trees (S.While as' e c) h =
    let p = and_parts (each is_condition as') (is_exp e && is_command c) h in
    let q = and_parts (is_exp e) (is_command c) p.1 in (
      (
        refl,
        (
          each_is_tree is_condition condition_tree condition_is_tree as' p.0,
          (
            exp_is_tree e q.0,
            (commands_are_tree (C.sequence_parts c) (commands_are_trees c q.1), tt),
          ),
        ),
      ),
      tt,
    )
commands_are_trees (S.Call x f es) h =
    let p = and_parts (is_target x) (is_name f && each is_exp es) h in
    let q = and_parts (is_name f) (each is_exp es) p.1 in
    ((refl, (target_is_tree x p.0, (name_atom f q.0, exps_are_trees es q.1))), tt)
commands_are_trees _ _ = (refl, tt)

pub command_is_tree : (c : Simpl) → is_command c ≡ true → IsTree (command_tree c)
command_is_tree c h = commands_are_tree (C.sequence_parts c) (commands_are_trees c h)
