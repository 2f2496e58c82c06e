-- No command that is generated reads a typed heap, and none does without exceptions.
use Rattle.std.proofs.Common.{◌≡◌, ℕ, Bool, true, false, ◌||◌, List, [], ◌∷◌, Option, Some, None, ℤ, refl}
use Rattle.std.proofs.lemmas.Bool.{or_from, or_parts, not_from_false}
use Rattle.c_values.specs.Name.{Name}
use Rattle.c_values.specs.Types.{Target, IntType, CType}
use Rattle.c_values.specs.Layout.{Layout}
use Rattle.expression_lang.specs.Expression as E
use Rattle.expression_lang.specs.Form.{has, is_read}
use Rattle.expression_lang.specs.Sort.{Level}
use Rattle.simpl_lang.specs.Command.{Condition, Simpl, Skip, Throw, Set, Seq, Cond, Guard, Catch, While, Call}
use Rattle.simpl_lang.specs.Exec.{result_local}
use Rattle.monad_lang.specs.Form.{some_has}
use Rattle.rule_local.specs.CommandForm.{conditions_have, command_has, is_bytes_command}
use Rattle.rule_exn.specs.Quiet.{quiet}
use Rattle.rule_exn.specs.Table.{unless_thrown}
use Rattle.rule_exn.specs.Eliminated.{Eliminated, exceptions_eliminated, in_sequence, caught, repeated}
use Rattle.c_lang.specs.Typed as C
use Rattle.generation.specs.Guards.{exp, exps, truth, conversion, argument_guards}
use Rattle.generation.specs.Generate.{call_local, switch_local, first_local, returned, broken, continued, jump, stops_at, body_of_loop, looped, guarded, assignment, target_guards, call, test_guards, test_truth, after_first, do_while, is_one_of, cases, in_order, is_empty, command, commands, before, cases_of, default_of, whole_body}
use Rattle.pipeline.proofs.UnreadExpressions.{Unread, AllUnread, no_conditions, more, parted, both, along, conversion_unread, expression_unread, path_unread, accesses_unread, guards_unread, place_guards_unread}

pub record Leaves (c : Simpl) : Type 0 where
  pub none : command_has is_read c ≡ false

skip_leaves : Leaves Skip
skip_leaves = record { none = refl }

set_leaves : (y : Name) (e : E.Exp) → Unread e → Leaves (Set y e)
set_leaves y e h = record { none = h.none }

seq_leaves : {a b : Simpl} → Leaves a → Leaves b → Leaves (Seq a b)
seq_leaves h k = record { none = or_from _ _ h.none k.none }

cond_leaves : {e : E.Exp} {a b : Simpl} → Unread e → Leaves a → Leaves b → Leaves (Cond e a b)
cond_leaves h k d = record { none = or_from _ _ (or_from _ _ h.none k.none) d.none }

catch_leaves : {a b : Simpl} → Leaves a → Leaves b → Leaves (Catch a b)
catch_leaves h k = record { none = or_from _ _ h.none k.none }

while_leaves : {cs : List Condition} {e : E.Exp} {a : Simpl} → AllUnread cs → Unread e → Leaves a → Leaves (While cs e a)
while_leaves h k d = record { none = or_from _ _ (or_from _ _ h.none k.none) d.none }

guarded_leaves : (gs : List Condition) (c : Simpl) → AllUnread gs → Leaves c → Leaves (guarded gs c)
guarded_leaves [] c h k = k
guarded_leaves (g ∷ gs) c h k =
    let p = parted h in record { none = or_from _ _ p.0.none (guarded_leaves gs c p.1 k).none }

jump_leaves : (k : ℤ) → Leaves (jump k)
jump_leaves k = record { none = refl }

stops_leaves : (k : ℤ) → Leaves (stops_at k)
stops_leaves k = record { none = refl }

-- a command in a loop's body, and a loop
body_leaves : {c : Simpl} → Leaves c → Leaves (body_of_loop c)
body_leaves h = catch_leaves h (stops_leaves continued)

loop_leaves : {gs : List Condition} {e : E.Exp} {c : Simpl} → AllUnread gs → Unread e → Leaves c → Leaves (looped gs e c)
loop_leaves h k d = catch_leaves (while_leaves h k d) (stops_leaves broken)

after_first_unread : (k : ℕ) (gs : List Condition) → AllUnread gs → AllUnread (after_first k gs)
after_first_unread k [] h = no_conditions
after_first_unread k (g ∷ gs) h =
    let p = parted h in more (record { none = p.0.none }) (after_first_unread k gs p.1)

do_while_leaves : (k : ℕ) (gs : List Condition) (e : E.Exp) (c : Simpl) → AllUnread gs → Unread e → Leaves c →
    Leaves (do_while k gs e c)
do_while_leaves k gs e c h j d =
    seq_leaves (set_leaves (first_local k) (E.TruthLit true) (record { none = refl }))
    (loop_leaves (after_first_unread k gs h) (record { none = j.none })
    (seq_leaves (set_leaves (first_local k) (E.TruthLit false) (record { none = refl })) (body_leaves d)))

label_unread : (t : Target) (i : IntType) (n : ℕ) (ks : List ℤ) → Unread (is_one_of t i n ks)
label_unread t i n [] = record { none = refl }
label_unread t i n (k ∷ []) = record { none = refl }
label_unread t i n (k ∷ j ∷ ks) = record { none = (label_unread t i n (j ∷ ks)).none }

-- what each case does, and its test
abbrev CasesLeave : List (E.Exp × Simpl) → Type 0
CasesLeave [] = Unit {0}
CasesLeave (c ∷ cs) = Unread c.0 × Leaves c.1 × CasesLeave cs

cases_leave : (d : Simpl) (cs : List (E.Exp × Simpl)) → Leaves d → CasesLeave cs → Leaves (cases d cs)
cases_leave d [] h k = h
cases_leave d (c ∷ cs) h k = cond_leaves k.0 k.1 (cases_leave d cs h k.2)

in_order_leaves : (s : Simpl) (last : Bool) (rest : Simpl) → Leaves s → Leaves rest → Leaves (in_order s last rest)
in_order_leaves s true rest h k = h
in_order_leaves s false rest h k = seq_leaves h k

module _ (l : Layout) (level : Level) where
  value_unread : (e : C.Expr) → Unread (exp l e)
  value_unread e = (expression_unread l e).0

  truth_unread : (e : C.Expr) → Unread (truth l e)
  truth_unread e = (expression_unread l e).1

  target_unread : (d : C.Destination) → AllUnread (target_guards l level d)
  target_unread (C.ToLocal y t) = no_conditions
  target_unread (C.ToPlace p) = both _ _ (place_guards_unread l level p) (accesses_unread l level p)

  assignment_leaves : (d : C.Destination) (e : E.Exp) → Unread e → Leaves (assignment l d e)
  assignment_leaves (C.ToLocal y t) e k = set_leaves y e k
  assignment_leaves (C.ToPlace (C.Through t p path u)) e k =
      record { none = or_from _ _ (along (value_unread p) (path_unread l path)) k.none }
  assignment_leaves (C.ToPlace (C.InGlobal y path u)) e k = record { none = or_from _ _ (path_unread l path).none k.none }

  arguments_unread : (es : List C.Expr) → some_has is_read (exps l es) ≡ false
  arguments_unread [] = refl
  arguments_unread (e ∷ es) = or_from _ _ (value_unread e).none (arguments_unread es)

  argument_conditions_unread : (es : List C.Expr) → AllUnread (argument_guards l level es)
  argument_conditions_unread [] = no_conditions
  argument_conditions_unread (e ∷ es) = both _ _ (guards_unread l level e) (argument_conditions_unread es)

  result_unread : (n : ℕ) (to from : CType) → Unread (conversion l.target to from (E.Var (call_local n)))
  result_unread n to from = conversion_unread l.target to from (E.Var (call_local n)) (record { none = refl })

  called_leaves : (x : Option Name) (f : Name) (es : List E.Exp) → some_has is_read es ≡ false → Leaves (Call x f es)
  called_leaves x f es h = record { none = h }

  use_leaves : (n : ℕ) (f : Name) (es : List E.Exp) (u : C.Use) → some_has is_read es ≡ false → Leaves (call l level n f es u)
  use_leaves n f es C.NoResult h = called_leaves None f es h
  use_leaves n f es (C.Ignored from) h = called_leaves (Some (call_local n)) f es h
  use_leaves n f es (C.Assigned from d) h =
      seq_leaves (called_leaves (Some (call_local n)) f es h)
      (guarded_leaves _ _ (target_unread d) (assignment_leaves d _ (result_unread n (C.target_type d) from)))
  use_leaves n f es (C.Returned from to) h =
      seq_leaves (called_leaves (Some (call_local n)) f es h)
      (seq_leaves (set_leaves result_local _ (result_unread n to from)) (jump_leaves returned))

  test_conditions_unread : (t : C.Test) → AllUnread (test_guards l level t)
  test_conditions_unread C.Always = no_conditions
  test_conditions_unread (C.Tested e) = guards_unread l level e

  test_unread : (t : C.Test) → Unread (test_truth l t)
  test_unread C.Always = record { none = refl }
  test_unread (C.Tested e) = truth_unread e

  mutual
    command_leaves : (s : C.Statement) → Leaves (command l level s)
    command_leaves C.Empty = skip_leaves
    command_leaves (C.Block ss) = commands_leave ss
    command_leaves (C.Declare y t) = record { none = refl }
    command_leaves (C.Assign d e) =
        guarded_leaves _ _ (both _ _ (guards_unread l level e) (target_unread d))
        (assignment_leaves d (exp l e) (value_unread e))
    command_leaves (C.Call n f es u) =
        guarded_leaves _ _ (argument_conditions_unread es) (use_leaves n f (exps l es) u (arguments_unread es))
    command_leaves (C.If e a b) =
        guarded_leaves _ _ (guards_unread l level e) (cond_leaves (truth_unread e) (command_leaves a) (command_leaves b))
    command_leaves (C.While e a) =
        loop_leaves (guards_unread l level e) (truth_unread e) (body_leaves (command_leaves a))
    command_leaves (C.DoWhile k a e) =
        do_while_leaves k _ _ _ (guards_unread l level e) (truth_unread e) (command_leaves a)
    command_leaves (C.For init test step a) =
        before_leaves init _ (loop_leaves (test_conditions_unread test) (test_unread test)
        (seq_leaves (body_leaves (command_leaves a)) (command_leaves step)))
    command_leaves (C.Switch n i e gs) =
        guarded_leaves _ _ (guards_unread l level e)
        (seq_leaves (set_leaves (switch_local n) _ (value_unread e))
        (catch_leaves (cases_leave _ _ (default_leaves gs) (groups_leave n i gs)) (stops_leaves broken)))
    command_leaves C.Break = jump_leaves broken
    command_leaves C.Continue = jump_leaves continued
    command_leaves C.ReturnNothing = jump_leaves returned
    command_leaves (C.Return e) =
        guarded_leaves _ _ (guards_unread l level e) (seq_leaves (set_leaves result_local _ (value_unread e)) (jump_leaves returned))

    pub commands_leave : (ss : C.Statements) → Leaves (commands l level ss)
    commands_leave C.no_statements = skip_leaves
    commands_leave (C.next s ss) = in_order_leaves _ (is_empty ss) _ (command_leaves s) (commands_leave ss)

    before_leaves : (ss : C.Statements) (rest : Simpl) → Leaves rest → Leaves (before l level ss rest)
    before_leaves C.no_statements rest k = k
    before_leaves (C.next s ss) rest k = seq_leaves (command_leaves s) (before_leaves ss rest k)

    groups_leave : (n : ℕ) (i : IntType) (gs : C.Groups) → CasesLeave (cases_of l level n i gs)
    groups_leave n i C.no_groups = tt
    groups_leave n i (C.group labels true ss gs) = groups_leave n i gs
    groups_leave n i (C.group labels false ss gs) = (label_unread l.target i n labels, commands_leave ss, groups_leave n i gs)

    default_leaves : (gs : C.Groups) → Leaves (default_of l level gs)
    default_leaves C.no_groups = skip_leaves
    default_leaves (C.group labels true ss gs) = commands_leave ss
    default_leaves (C.group labels false ss gs) = default_leaves gs

pub whole_leaves : (t : Option CType) (c : Simpl) → Leaves c → Leaves (whole_body t c)
whole_leaves None c h = catch_leaves h skip_leaves
whole_leaves (Some t) c h = catch_leaves (seq_leaves h (record { none = refl })) skip_leaves

-- Without exceptions

sequence_leaves : (q : Bool) (r s : Eliminated) → Leaves r.right → Leaves s.right → Leaves (in_sequence q r s).right
sequence_leaves true r s h k = seq_leaves h k
sequence_leaves false r s h k = seq_leaves h (cond_leaves (record { none = refl }) skip_leaves k)

caught_leaves : (q : Bool) (b : Simpl) (r s : Eliminated) → Leaves r.right → Leaves s.right → Leaves (caught q b r s).right
caught_leaves true b r s h k = h
caught_leaves false Skip r s h k = seq_leaves h (record { none = refl })
caught_leaves false b r s h k =
    seq_leaves h (cond_leaves (record { none = refl }) (seq_leaves (record { none = refl }) k) skip_leaves)

unless_thrown_unread : (cs : List Condition) → AllUnread cs → AllUnread (unless_thrown cs)
unless_thrown_unread [] h = no_conditions
unless_thrown_unread (c ∷ cs) h = let p = parted h in more (record { none = p.0.none }) (unless_thrown_unread cs p.1)

repeated_leaves : (q : Bool) (cs : List Condition) (e : E.Exp) (r : Eliminated) → AllUnread cs → Unread e → Leaves r.right →
    Leaves (repeated q cs e r).right
repeated_leaves true cs e r h k d = while_leaves h k d
repeated_leaves false cs e r h k d = while_leaves (unless_thrown_unread cs h) (record { none = k.none }) d

parts : (a b : Simpl) → (command_has is_read a || command_has is_read b) ≡ false → Leaves a × Leaves b
parts a b h =
    let p = or_parts (command_has is_read a) (command_has is_read b) h in (record { none = p.0 }, record { none = p.1 })

pub eliminated_leaves : (a : Simpl) → Leaves a → Leaves (exceptions_eliminated a).right
eliminated_leaves Throw h = record { none = refl }
eliminated_leaves (Seq a b) h =
    let p = parts a b h.none in sequence_leaves (quiet a) _ _ (eliminated_leaves a p.0) (eliminated_leaves b p.1)
eliminated_leaves (Cond e a b) h =
    let p = or_parts (has is_read e || command_has is_read a) (command_has is_read b) h.none in
    let q = or_parts (has is_read e) (command_has is_read a) p.0 in
    cond_leaves (record { none = q.0 }) (eliminated_leaves a (record { none = q.1 }))
    (eliminated_leaves b (record { none = p.1 }))
eliminated_leaves (Guard g a) h =
    let p = or_parts (has is_read g.exp) (command_has is_read a) h.none in
    record { none = or_from _ _ p.0 (eliminated_leaves a (record { none = p.1 })).none }
eliminated_leaves (Catch a b) h =
    let p = parts a b h.none in caught_leaves (quiet a) b _ _ (eliminated_leaves a p.0) (eliminated_leaves b p.1)
eliminated_leaves (While cs e a) h =
    let p = or_parts (conditions_have is_read cs || has is_read e) (command_has is_read a) h.none in
    let q = or_parts (conditions_have is_read cs) (has is_read e) p.0 in
    repeated_leaves (quiet a) cs e _ (record { none = q.0 }) (record { none = q.1 }) (eliminated_leaves a (record { none = p.1 }))
eliminated_leaves _ h = h

pub generated_on_bytes : (l : Layout) (level : Level) (t : Option CType) (ss : C.Statements) →
    is_bytes_command (exceptions_eliminated (whole_body t (commands l level ss))).right ≡ true
generated_on_bytes l level t ss =
    not_from_false _ (eliminated_leaves (whole_body t (commands l level ss)) (whole_leaves t _ (commands_leave l level ss))).none
