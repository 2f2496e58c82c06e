-- The statements that tokens of a text spell are written, and have no more numbers than tokens.
use Rattle.std.proofs.Common.{ℕ, ◌+◌, ◌≤◌, Bool, List, length, Option, arith}
use Rattle.c_lex.specs.Lexeme.{Lexeme}
use Rattle.c_grammar.specs.declared.symbol.Seen.{Seen}
use Rattle.c_grammar.specs.Tree.{Name, Exp, Words, Declarator, Call, Rhs, Simple, Init, Local, Label, Start, Stmt, Items, Groups}
use Rattle.c_grammar.specs.Spells.{SpellsStars, SpellsExp, SpellsWords, SpellsDeclarator, declare, SpellsExps, last_argument, more_arguments, SpellsArguments, no_arguments, some_arguments, SpellsCall, calls, SpellsRhs, value, result_of, SpellsSimple, assign, update, after, before, invoke, SpellsInit, uninitialized, initialized, SpellsInits, last_init, more_inits, SpellsLocal, locals, SpellsLabel, case, default, SpellsLabels, no_labels, more_labels, SpellsStart, no_start, start_local, start_simple, SpellsTest, no_test, some_test, SpellsStep, no_step, some_step, SpellsStmt, empty, block, simply, break_out, continue_on, return_nothing, return_value, if_only, if_else, while_do, for_do, do_while, switch_on, SpellsItems, no_items, local_item, statement_item, SpellsGroups, no_groups, more_groups}
use Rattle.typing_laws.specs.Written.{Each, Where, IsExp, AreWords, IsDeclarator, IsCall, IsRhs, IsSimple, IsInit, IsLocal, IsLabel, IsStart, IsStmt, AreItems, AreGroups}
use Rattle.typing_laws.specs.Count.{calls_on_right, calls_in_simple, where_some, numbered_in_init, numbered_in_inits, numbered_in_local, numbered_at_start, numbered_within, numbered_among, numbered_in_groups}
use Rattle.typing_laws.proofs.Lexed.{AreKinds, Left}
use Rattle.typing_laws.proofs.SpelledExpressions as E

-- what stands at the front of tokens is written, and it has taken so many of them at least
abbrev pub Takes : Type 0 → ℕ → List Lexeme → List Lexeme → Type 0
Takes A n s t = A × AreKinds t × (n + length t ≤ length s)

all_left : {A : Type 0} (s t : List Lexeme) → A × Left (length s) t → Takes A 0 s t
all_left s t h = (h.0, h.1.kinds, omega (arith, h.1.few))

begin : (s : List Lexeme) → AreKinds s → Left (length s) s
begin s w = record { kinds = w; few = omega arith }

pub exp_taken : {ns : List Name} {b : Bool} {l : ℕ} {e : Exp} {s t : List Lexeme} → SpellsExp ns b l e s t → AreKinds s → Takes (IsExp e) 0 s t
exp_taken {s} {t} h w = all_left s t (E.exp_written (length s) h (begin s w))

pub words_taken : {ns : List Name} {b : Bool} {q : Seen} {ws : Words} {s t : List Lexeme} → SpellsWords ns b q ws s t → AreKinds s → Takes (AreWords ws) 0 s t
words_taken {s} {t} h w = all_left s t (E.words_written (length s) h (begin s w))

pub stars_taken : {f : Bool} {ats : List ℕ} {s t : List Lexeme} → SpellsStars f ats s t → AreKinds s → AreKinds t × (length t ≤ length s)
stars_taken {s} h w = let r = E.stars_kinds (length s) h (begin s w) in (r.kinds, r.few)

pub declarator_taken : {ns : List Name} {b : Bool} {d : Declarator} {s t : List Lexeme} → SpellsDeclarator ns b d s t → AreKinds s → Takes (IsDeclarator d) 1 s t
declarator_taken {s} (declare {t} {u} {n} {a} {z} h c k) w =
    let r = E.stars_kinds (length s) h (begin s w) in
    let p = E.dimensions_written (length t) k (record { kinds = r.kinds.1; few = omega arith }) in
    ((r.kinds.0, p.0), p.1.kinds, omega (arith, r.few, p.1.few))

exps_taken : {ns : List Name} {b : Bool} {es : List Exp} {s t : List Lexeme} → SpellsExps ns b es s t → AreKinds s → Takes (Each IsExp es) 0 s t
exps_taken (last_argument h) w = let r = exp_taken h w in ((r.0, tt), r.1.1, omega (arith, r.2))
exps_taken (more_arguments h k) w = let r = exp_taken h w in let p = exps_taken k r.1.1 in ((r.0, p.0), p.1, omega (arith, r.2, p.2))

arguments_taken : {ns : List Name} {b : Bool} {es : List Exp} {s t : List Lexeme} → SpellsArguments ns b es s t → AreKinds s → Takes (Each IsExp es) 0 s t
arguments_taken no_arguments w = (tt, w.1, omega arith)
arguments_taken (some_arguments h) w = exps_taken h w

call_taken : {ns : List Name} {b : Bool} {c : Call} {s t : List Lexeme} → SpellsCall ns b c s t → AreKinds s → Takes (IsCall c) 1 s t
call_taken (calls c h) w = let r = arguments_taken h w.1.1 in (r.0, r.1, omega (arith, r.2))

rhs_taken : {ns : List Name} {b : Bool} {r : Rhs} {s t : List Lexeme} → SpellsRhs ns b r s t → AreKinds s → Takes (IsRhs r) (calls_on_right r) s t
rhs_taken (value h) w = exp_taken h w
rhs_taken (result_of h) w = call_taken h w

simple_taken : {ns : List Name} {b : Bool} {a : Simple} {s t : List Lexeme} → SpellsSimple ns b a s t → AreKinds s → Takes (IsSimple a) (calls_in_simple a) s t
simple_taken (assign h k) w = let r = exp_taken h w in let p = rhs_taken k r.1.1 in ((r.0, p.0), p.1, omega (arith, r.2, p.2))
simple_taken (update c h k) w = let r = exp_taken h w in let p = exp_taken k r.1.1 in ((r.0, p.0), p.1, omega (arith, r.2, p.2))
simple_taken (after h) w = let r = exp_taken h w in (r.0, r.1.1, omega (arith, r.2))
simple_taken (before h) w = let r = exp_taken h w.1 in (r.0, r.1, omega (arith, r.2))
simple_taken (invoke h) w = call_taken h w

init_taken : {ns : List Name} {i : Init} {s t : List Lexeme} → SpellsInit ns i s t → AreKinds s → Takes (IsInit i) (numbered_in_init i) s t
init_taken (uninitialized h) w = let r = declarator_taken h w in ((r.0, tt), r.1, r.2)
init_taken (initialized h k) w = let r = declarator_taken h w in let p = rhs_taken k r.1.1 in ((r.0, p.0), p.1, omega (arith, r.2, p.2))

inits_taken : {ns : List Name} {is : List Init} {s t : List Lexeme} → SpellsInits ns is s t → AreKinds s → Takes (Each IsInit is) (numbered_in_inits is) s t
inits_taken (last_init h) w = let r = init_taken h w in ((r.0, tt), r.1.1, omega (arith, r.2))
inits_taken (more_inits h k) w = let r = init_taken h w in let p = inits_taken k r.1.1 in ((r.0, p.0), p.1, omega (arith, r.2, p.2))

local_taken : {ns : List Name} {l : Local} {s t : List Lexeme} → SpellsLocal ns l s t → AreKinds s → Takes (IsLocal l) (numbered_in_local l) s t
local_taken (locals h k) w = let r = words_taken h w in let p = inits_taken k r.1 in ((r.0, p.0), p.1, omega (arith, r.2, p.2))

label_taken : {ns : List Name} {l : Label} {s t : List Lexeme} → SpellsLabel ns l s t → AreKinds s → Takes (IsLabel l) 0 s t
label_taken (case h) w = let r = exp_taken h w.1 in (r.0, r.1.1, omega (arith, r.2))
label_taken default w = (tt, w.1.1, omega arith)

labels_taken : {ns : List Name} {ls : List Label} {s t : List Lexeme} → SpellsLabels ns ls s t → AreKinds s → Takes (Each IsLabel ls) 0 s t
labels_taken no_labels w = (tt, w, omega arith)
labels_taken (more_labels h k) w = let r = label_taken h w in let p = labels_taken k r.1 in ((r.0, p.0), p.1, omega (arith, r.2, p.2))

start_taken : {ns : List Name} {a : Start} {s t : List Lexeme} → SpellsStart ns a s t → AreKinds s → Takes (IsStart a) (numbered_at_start a) s t
start_taken no_start w = (tt, w.1, omega arith)
start_taken (start_local h) w = local_taken h w
start_taken (start_simple h) w = let r = simple_taken h w in (r.0, r.1.1, omega (arith, r.2))

test_taken : {ns : List Name} {e : Option Exp} {s t : List Lexeme} → SpellsTest ns e s t → AreKinds s → Takes (Where IsExp e) 0 s t
test_taken no_test w = (tt, w.1, omega arith)
test_taken (some_test h) w = let r = exp_taken h w in (r.0, r.1.1, omega (arith, r.2))

step_taken : {ns : List Name} {a : Option Simple} {s t : List Lexeme} → SpellsStep ns a s t → AreKinds s → Takes (Where IsSimple a) (where_some calls_in_simple a) s t
step_taken no_step w = (tt, w.1, omega arith)
step_taken (some_step h) w = let r = simple_taken h w in (r.0, r.1.1, omega (arith, r.2))

mutual
  stmt_taken : {ns : List Name} {m : Bool} {a : Stmt} {s t : List Lexeme} → SpellsStmt ns m a s t → AreKinds s → Takes (IsStmt a) (numbered_within a) s t
  stmt_taken empty w = (tt, w.1, omega arith)
  stmt_taken (block h) w = let r = items_taken h w.1 in (r.0, r.1.1, omega (arith, r.2))
  stmt_taken (simply h) w = let r = simple_taken h w in (r.0, r.1.1, omega (arith, r.2))
  stmt_taken break_out w = (tt, w.1.1, omega arith)
  stmt_taken continue_on w = (tt, w.1.1, omega arith)
  stmt_taken return_nothing w = (tt, w.1.1, omega arith)
  stmt_taken (return_value h) w = let r = rhs_taken h w.1 in (r.0, r.1.1, omega (arith, r.2))
  stmt_taken (if_only h k) w = let r = exp_taken h w.1.1 in let p = stmt_taken k r.1.1 in ((r.0, p.0), p.1, omega (arith, r.2, p.2))
  stmt_taken (if_else h k m) w = let r = exp_taken h w.1.1 in let p = stmt_taken k r.1.1 in let q = stmt_taken m p.1.1 in ((r.0, p.0, q.0), q.1, omega (arith, r.2, p.2, q.2))
  stmt_taken (while_do h k) w = let r = exp_taken h w.1.1 in let p = stmt_taken k r.1.1 in ((r.0, p.0), p.1, omega (arith, r.2, p.2))
  stmt_taken (for_do h k m n) w =
      let r = start_taken h w.1.1 in let p = test_taken k r.1 in let q = step_taken m p.1 in let o = stmt_taken n q.1 in ((r.0, p.0, q.0, o.0), o.1, omega (arith, r.2, p.2, q.2, o.2))
  stmt_taken (do_while h k) w = let r = stmt_taken h w.1 in let p = exp_taken k r.1.1.1 in ((r.0, p.0), p.1.1.1, omega (arith, r.2, p.2))
  stmt_taken (switch_on h k) w = let r = exp_taken h w.1.1 in let p = groups_taken k r.1.1.1 in ((r.0, p.0), p.1.1, omega (arith, r.2, p.2))

  pub items_taken : {ns : List Name} {is : Items} {s t : List Lexeme} → SpellsItems ns is s t → AreKinds s → Takes (AreItems is) (numbered_among is) s t
  items_taken no_items w = (tt, w, omega arith)
  items_taken (local_item h k) w = let r = local_taken h w in let p = items_taken k r.1 in ((r.0, p.0), p.1, omega (arith, r.2, p.2))
  items_taken (statement_item h k) w = let r = stmt_taken h w in let p = items_taken k r.1 in ((r.0, p.0), p.1, omega (arith, r.2, p.2))

  groups_taken : {ns : List Name} {gs : Groups} {s t : List Lexeme} → SpellsGroups ns gs s t → AreKinds s → Takes (AreGroups gs) (numbered_in_groups gs) s t
  groups_taken no_groups w = (tt, w, omega arith)
  groups_taken (more_groups h k m n o) w =
      let r = label_taken h w in let p = labels_taken k r.1 in let q = stmt_taken m p.1 in let i = items_taken n q.1 in let g = groups_taken o i.1 in
      ((r.0, p.0, q.0, i.0, g.0), g.1, omega (arith, r.2, p.2, q.2, i.2, g.2))
