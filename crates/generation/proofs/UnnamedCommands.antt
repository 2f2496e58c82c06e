-- A name that is neither declared nor one of those that commands of statements use stands in no command that is generated.
use Rattle.std.proofs.Common.{◌≡◌, ℕ, Bool, true, false, List, [], ◌∷◌, Option, Some, None, ℤ, refl}
use Rattle.std.proofs.lemmas.Bool.{false≢true, or_from}
use Rattle.std.specs.Cmp.{first_so, second_so}
use Rattle.c_values.specs.Name.{Name, same_name}
use Rattle.c_values.specs.Types.{Target, IntType, CType}
use Rattle.c_values.specs.Layout.{Layout}
use Rattle.expression_lang.specs.Expression as E
use Rattle.expression_lang.specs.Sort.{Level}
use Rattle.simpl_lang.specs.Command.{Condition, Simpl, Skip, Set, Seq, Cond, Catch, While, Call}
use Rattle.simpl_lang.specs.Names.{command_names, some_names}
use Rattle.simpl_lang.specs.Exec.{result_local}
use Rattle.simpl_lang.specs.Flag.{thrown_local}
use Rattle.c_lang.specs.Typed as C
use Rattle.c_lang.specs.WellTyped.{Scope, Around, variable_type, is_typed, is_typed_target, is_typed_test, are_arguments, is_use_of, is_call_of, is_statement, are_statements, are_groups, nowhere, in_a_loop, in_a_switch}
use Rattle.generation.specs.Guards.{exp, exps, truth, conversion, guards, argument_guards}
use Rattle.generation.specs.Generate.{call_local, switch_local, first_local, returned, broken, continued, jump, stops_at, body_of_loop, looped, guarded, assignment, target_guards, call, call_of, test_guards, test_truth, after_first, do_while, is_one_of, cases, in_order, is_empty, command, commands, before, cases_of, default_of, whole_body}
use Rattle.generation.proofs.ExactMachines.{is_declared}
use Rattle.generation.proofs.UnnamedExpressions.{Free, AllFree, none_free, more_free, parted, free_append, along, conversion_free, expression_free, path_free, accesses_free, guards_free, place_guards_free}

-- the flag is named nowhere
pub record Leaves (c : Simpl) : Type 0 where
  pub unnamed : command_names thrown_local c ≡ false

abbrev x : Name
x = thrown_local

skip_leaves : Leaves Skip
skip_leaves = record { unnamed = refl }

set_leaves : (y : Name) (e : E.Exp) → same_name x y ≡ false → Free x e → Leaves (Set y e)
set_leaves y e h k = record { unnamed = or_from _ _ h k.unnamed }

seq_leaves : {a b : Simpl} → Leaves a → Leaves b → Leaves (Seq a b)
seq_leaves h k = record { unnamed = or_from _ _ h.unnamed k.unnamed }

cond_leaves : {e : E.Exp} {a b : Simpl} → Free x e → Leaves a → Leaves b → Leaves (Cond e a b)
cond_leaves h k d = record { unnamed = or_from _ _ (or_from _ _ h.unnamed k.unnamed) d.unnamed }

catch_leaves : {a b : Simpl} → Leaves a → Leaves b → Leaves (Catch a b)
catch_leaves h k = record { unnamed = or_from _ _ h.unnamed k.unnamed }

while_leaves : {cs : List Condition} {e : E.Exp} {a : Simpl} → AllFree x cs → Free x e → Leaves a → Leaves (While cs e a)
while_leaves h k d = record { unnamed = or_from _ _ (or_from _ _ h.unnamed k.unnamed) d.unnamed }

guarded_leaves : (gs : List Condition) (c : Simpl) → AllFree x gs → Leaves c → Leaves (guarded gs c)
guarded_leaves [] c h k = k
guarded_leaves (g ∷ gs) c h k = let p = parted h in record { unnamed = or_from _ _ p.0.unnamed (guarded_leaves gs c p.1 k).unnamed }

jump_leaves : (k : ℤ) → Leaves (jump k)
jump_leaves k = record { unnamed = refl }

stops_leaves : (k : ℤ) → Leaves (stops_at k)
stops_leaves k = record { unnamed = refl }

-- a command in a loop's body, and a loop
body_leaves : {c : Simpl} → Leaves c → Leaves (body_of_loop c)
body_leaves h = catch_leaves h (stops_leaves continued)

loop_leaves : {gs : List Condition} {e : E.Exp} {c : Simpl} → AllFree x gs → Free x e → Leaves c → Leaves (looped gs e c)
loop_leaves h k d = catch_leaves (while_leaves h k d) (stops_leaves broken)

after_first_free : (k : ℕ) (gs : List Condition) → AllFree x gs → AllFree x (after_first k gs)
after_first_free k [] h = none_free
after_first_free k (g ∷ gs) h = let p = parted h in more_free (record { unnamed = p.0.unnamed }) (after_first_free k gs p.1)

do_while_leaves : (k : ℕ) (gs : List Condition) (e : E.Exp) (c : Simpl) → AllFree x gs → Free x e → Leaves c → Leaves (do_while k gs e c)
do_while_leaves k gs e c h j d =
    seq_leaves (set_leaves (first_local k) (E.TruthLit true) refl (record { unnamed = refl }))
    (loop_leaves (after_first_free k gs h) (record { unnamed = j.unnamed }) (seq_leaves (set_leaves (first_local k) (E.TruthLit false) refl (record { unnamed = refl })) (body_leaves d)))

label_free : (t : Target) (i : IntType) (n : ℕ) (ks : List ℤ) → Free x (is_one_of t i n ks)
label_free t i n [] = record { unnamed = refl }
label_free t i n (k ∷ []) = record { unnamed = refl }
label_free t i n (k ∷ j ∷ ks) = record { unnamed = (label_free t i n (j ∷ ks)).unnamed }

-- what each case does, and its test
abbrev CasesLeave : List (E.Exp × Simpl) → Type 0
CasesLeave [] = Unit {0}
CasesLeave (c ∷ cs) = Free x c.0 × Leaves c.1 × CasesLeave cs

cases_leave : (d : Simpl) (cs : List (E.Exp × Simpl)) → Leaves d → CasesLeave cs → Leaves (cases d cs)
cases_leave d [] h k = h
cases_leave d (c ∷ cs) h k = cond_leaves k.0 k.1 (cases_leave d cs h k.2)

in_order_leaves : (s : Simpl) (last : Bool) (rest : Simpl) → Leaves s → Leaves rest → Leaves (in_order s last rest)
in_order_leaves s true rest h k = h
in_order_leaves s false rest h k = seq_leaves h k

module _ (g : Scope) (l : Layout) (level : Level) (undeclared : (y : Name) (t : CType) → variable_type g.variables y ≡ Some t → same_name x y ≡ false) where
  value_free : (e : C.Expr) → is_typed g e ≡ true → Free x (exp l e)
  value_free e h = (expression_free g l undeclared e h).0

  truth_free : (e : C.Expr) → is_typed g e ≡ true → Free x (truth l e)
  truth_free e h = (expression_free g l undeclared e h).1

  conditions_free : (e : C.Expr) → is_typed g e ≡ true → AllFree x (guards l level e)
  conditions_free e h = guards_free g l undeclared level e h

  target_free : (d : C.Destination) → is_typed_target g d ≡ true → AllFree x (target_guards l level d)
  target_free (C.ToLocal y t) h = none_free
  target_free (C.ToPlace p) h = free_append _ _ (place_guards_free g l undeclared level p h) (accesses_free g l undeclared level p h)

  assignment_leaves : (d : C.Destination) (e : E.Exp) → is_typed_target g d ≡ true → Free x e → Leaves (assignment l d e)
  assignment_leaves (C.ToLocal y t) e h k = set_leaves y e (undeclared y t (is_declared (variable_type g.variables y) t h)) k
  assignment_leaves (C.ToPlace (C.Through t p path u)) e h k =
      let root = value_free p (second_so _ _ (second_so _ _ (first_so _ _ (first_so _ _ h)))) in
      let steps = path_free {x = x} g l undeclared path (second_so _ _ (first_so _ _ h)) in
      record { unnamed = or_from _ _ (along root steps) k.unnamed }
  assignment_leaves (C.ToPlace (C.InGlobal y path u)) e h k =
      let steps = path_free {x = x} g l undeclared path (first_so _ _ h) in record { unnamed = or_from _ _ steps.unnamed k.unnamed }

  arguments_free : (vs : List C.Variable) (es : List C.Expr) → are_arguments g vs es ≡ true → some_names x (exps l es) ≡ false
  arguments_free [] [] h = refl
  arguments_free (v ∷ vs) (e ∷ es) h = or_from _ _ (value_free e (second_so _ _ (first_so _ _ h))).unnamed (arguments_free vs es (second_so _ _ h))
  arguments_free [] (e ∷ es) h = absurd (false≢true h)
  arguments_free (v ∷ vs) [] h = absurd (false≢true h)

  argument_conditions_free : (vs : List C.Variable) (es : List C.Expr) → are_arguments g vs es ≡ true → AllFree x (argument_guards l level es)
  argument_conditions_free [] [] h = none_free
  argument_conditions_free (v ∷ vs) (e ∷ es) h = free_append _ _ (conditions_free e (second_so _ _ (first_so _ _ h))) (argument_conditions_free vs es (second_so _ _ h))
  argument_conditions_free [] (e ∷ es) h = absurd (false≢true h)
  argument_conditions_free (v ∷ vs) [] h = absurd (false≢true h)

  result_free : (n : ℕ) (to from : CType) → Free x (conversion l.target to from (E.Var (call_local n)))
  result_free n to from = conversion_free l.target to from (E.Var (call_local n)) (record { unnamed = refl })

  called_leaves : (n : ℕ) (f : Name) (es : List E.Exp) → some_names x es ≡ false → Leaves (Call (Some (call_local n)) f es)
  called_leaves n f es h = record { unnamed = h }

  use_leaves : (result : Option CType) (n : ℕ) (f : Name) (es : List E.Exp) (u : C.Use) → some_names x es ≡ false → is_use_of g result u ≡ true → Leaves (call l level n f es u)
  use_leaves None n f es C.NoResult h k = record { unnamed = h }
  use_leaves (Some t) n f es (C.Ignored from) h k = called_leaves n f es h
  use_leaves (Some t) n f es (C.Assigned from d) h k =
      let typed = second_so _ _ k in
      seq_leaves (called_leaves n f es h) (guarded_leaves _ _ (target_free d typed) (assignment_leaves d _ typed (result_free n (C.target_type d) from)))
  use_leaves (Some t) n f es (C.Returned from to) h k =
      seq_leaves (called_leaves n f es h) (seq_leaves (set_leaves result_local _ refl (result_free n to from)) (jump_leaves returned))
  use_leaves _ n f es u h k = absurd (false≢true k)

  call_leaves : (o : Option C.TypedFn) (n : ℕ) (f : Name) (es : List C.Expr) (u : C.Use) → is_call_of g o es u ≡ true → Leaves (call_of l level n f es u)
  call_leaves None n f es u h = absurd (false≢true h)
  call_leaves (Some k) n f es u h =
      guarded_leaves _ _ (argument_conditions_free k.params es (first_so _ _ h)) (use_leaves k.result n f (exps l es) u (arguments_free k.params es (first_so _ _ h)) (second_so _ _ h))

  test_conditions_free : (t : C.Test) → is_typed_test g t ≡ true → AllFree x (test_guards l level t)
  test_conditions_free C.Always h = none_free
  test_conditions_free (C.Tested e) h = conditions_free e (second_so _ _ h)

  test_free : (t : C.Test) → is_typed_test g t ≡ true → Free x (test_truth l t)
  test_free C.Always h = record { unnamed = refl }
  test_free (C.Tested e) h = truth_free e (second_so _ _ h)

  mutual
    command_leaves : (r : Around) (s : C.Statement) → is_statement g r s ≡ true → Leaves (command l level s)
    command_leaves r C.Empty h = skip_leaves
    command_leaves r (C.Block ss) h = commands_leave r ss h
    command_leaves r (C.Declare y t) h = record { unnamed = undeclared y t (is_declared (variable_type g.variables y) t h) }
    command_leaves r (C.Assign d e) h =
        let typed = second_so _ _ (second_so _ _ h) in
        guarded_leaves _ _ (free_append _ _ (conditions_free e typed) (target_free d (first_so _ _ h))) (assignment_leaves d (exp l e) (first_so _ _ h) (value_free e typed))
    command_leaves r (C.Call n f es u) h = call_leaves (C.typed_fn g.functions f) n f es u h
    command_leaves r (C.If e a b) h =
        let typed = second_so _ _ (first_so _ _ (first_so _ _ h)) in
        guarded_leaves _ _ (conditions_free e typed) (cond_leaves (truth_free e typed) (command_leaves r a (second_so _ _ (first_so _ _ h))) (command_leaves r b (second_so _ _ h)))
    command_leaves r (C.While e a) h =
        let typed = second_so _ _ (first_so _ _ h) in loop_leaves (conditions_free e typed) (truth_free e typed) (body_leaves (command_leaves in_a_loop a (second_so _ _ h)))
    command_leaves r (C.DoWhile k a e) h =
        let typed = second_so _ _ (second_so _ _ h) in do_while_leaves k _ _ _ (conditions_free e typed) (truth_free e typed) (command_leaves in_a_loop a (first_so _ _ h))
    command_leaves r (C.For init test step a) h =
        let typed = second_so _ _ (first_so _ _ (first_so _ _ h)) in
        before_leaves init _ (first_so _ _ (first_so _ _ (first_so _ _ h)))
        (loop_leaves (test_conditions_free test typed) (test_free test typed) (seq_leaves (body_leaves (command_leaves in_a_loop a (second_so _ _ h))) (command_leaves nowhere step (second_so _ _ (first_so _ _ h)))))
    command_leaves r (C.Switch n i e gs) h =
        let typed = second_so _ _ (first_so _ _ (first_so _ _ (first_so _ _ (first_so _ _ h)))) in
        guarded_leaves _ _ (conditions_free e typed)
        (seq_leaves (set_leaves (switch_local n) _ refl (value_free e typed))
        (catch_leaves (cases_leave _ _ (default_leaves (in_a_switch r) gs (second_so _ _ h)) (groups_leave (in_a_switch r) n i gs (second_so _ _ h))) (stops_leaves broken)))
    command_leaves r C.Break h = jump_leaves broken
    command_leaves r C.Continue h = jump_leaves continued
    command_leaves r C.ReturnNothing h = jump_leaves returned
    command_leaves r (C.Return e) h =
        let typed = second_so _ _ h in guarded_leaves _ _ (conditions_free e typed) (seq_leaves (set_leaves result_local _ refl (value_free e typed)) (jump_leaves returned))

    pub commands_leave : (r : Around) (ss : C.Statements) → are_statements g r ss ≡ true → Leaves (commands l level ss)
    commands_leave r C.no_statements h = skip_leaves
    commands_leave r (C.next s ss) h = in_order_leaves _ (is_empty ss) _ (command_leaves r s (first_so _ _ h)) (commands_leave r ss (second_so _ _ h))

    before_leaves : (ss : C.Statements) (rest : Simpl) → are_statements g nowhere ss ≡ true → Leaves rest → Leaves (before l level ss rest)
    before_leaves C.no_statements rest h k = k
    before_leaves (C.next s ss) rest h k = seq_leaves (command_leaves nowhere s (first_so _ _ h)) (before_leaves ss rest (second_so _ _ h) k)

    groups_leave : (r : Around) (n : ℕ) (i : IntType) (gs : C.Groups) → are_groups g r gs ≡ true → CasesLeave (cases_of l level n i gs)
    groups_leave r n i C.no_groups h = tt
    groups_leave r n i (C.group labels true ss gs) h = groups_leave r n i gs (second_so _ _ h)
    groups_leave r n i (C.group labels false ss gs) h = (label_free l.target i n labels, commands_leave r ss (first_so _ _ h), groups_leave r n i gs (second_so _ _ h))

    default_leaves : (r : Around) (gs : C.Groups) → are_groups g r gs ≡ true → Leaves (default_of l level gs)
    default_leaves r C.no_groups h = skip_leaves
    default_leaves r (C.group labels true ss gs) h = commands_leave r ss (first_so _ _ h)
    default_leaves r (C.group labels false ss gs) h = default_leaves r gs (second_so _ _ h)

pub whole_leaves : (t : Option CType) (c : Simpl) → Leaves c → Leaves (whole_body t c)
whole_leaves None c h = catch_leaves h skip_leaves
whole_leaves (Some t) c h = catch_leaves (seq_leaves h (record { unnamed = refl })) skip_leaves
