-- What is generated for a statement has a text.
use Rattle.std.proofs.Common.{◌≡◌, ℕ, Bool, true, false, ◌&&◌, List, [], ◌∷◌, Option, Some, None, ℤ, inl, inr, refl}
use Rattle.std.proofs.lemmas.Bool.{false≢true, and_from}
use Rattle.std.specs.Cmp.{first_so, second_so}
use Rattle.c_values.specs.Name.{Name}
use Rattle.c_values.specs.Types.{Target, IntType, CType}
use Rattle.c_values.specs.Layout.{Layout}
use Rattle.expression_lang.specs.Expression as E
use Rattle.expression_lang.specs.Sort.{Level}
use Rattle.expression_text.specs.Names.{is_name}
use Rattle.expression_text.specs.ExpText.{is_exp}
use Rattle.expression_text.specs.Lists.{each}
use Rattle.command_text.specs.CommandText.{is_command}
use Rattle.simpl_lang.specs.Command.{Condition, Simpl, Skip, Set, Seq, Cond, Catch, While, Call}
use Rattle.simpl_lang.specs.Exec.{result_local}
use Rattle.c_values.specs.Word.{word}
use Rattle.c_lang.specs.Typed as C
use Rattle.c_lang.specs.WellTyped.{Scope, Around, is_typed, is_typed_target, is_typed_test, are_arguments, is_use_of, is_call_of, is_statement, are_statements, are_groups, nowhere, in_a_loop, in_a_switch}
use Rattle.unit_names.specs.HasNames.{has_types, target_has_types, use_has_types, test_has_types, statement_has_types, statements_have_types, groups_have_types}
use Rattle.generation.specs.Guards.{word_of, exp, exps, truth, conversion, guards, argument_guards}
use Rattle.generation.specs.Generate.{exception_local, call_local, switch_local, first_local, returned, broken, continued, jump, stops_at, body_of_loop, looped, guarded, assignment, target_guards, call, call_of, test_guards, test_truth, after_first, do_while, is_one_of, cases, in_order, is_empty, command, commands, before, cases_of, default_of, whole_body}
use Rattle.generated_texts.proofs.NumberTexts.{word_is, call_named, switch_named, first_named}
use Rattle.generated_texts.proofs.PathNumbers.{through_fits, global_fits}
use Rattle.generated_texts.proofs.ExpressionTexts.{HasText, AllHaveText, none, more, parted, append, two, word_literal, conversion_text, IsNamed, expression_text, path_text, accesses_text, guards_text, place_guards_text}

pub record CommandHasText (c : Simpl) : Type 0 where
  pub text : is_command c ≡ true

skip_text : CommandHasText Skip
skip_text = record { text = refl }

set_text : (y : Name) (e : E.Exp) → is_name y ≡ true → HasText e → CommandHasText (Set y e)
set_text y e h k = record { text = and_from _ _ h k.text }

seq_text : {a b : Simpl} → CommandHasText a → CommandHasText b → CommandHasText (Seq a b)
seq_text h k = record { text = and_from _ _ h.text k.text }

cond_text : {e : E.Exp} {a b : Simpl} → HasText e → CommandHasText a → CommandHasText b → CommandHasText (Cond e a b)
cond_text h k d = record { text = and_from _ _ h.text (and_from _ _ k.text d.text) }

catch_text : {a b : Simpl} → CommandHasText a → CommandHasText b → CommandHasText (Catch a b)
catch_text h k = record { text = and_from _ _ h.text k.text }

while_text : {cs : List Condition} {e : E.Exp} {a : Simpl} → AllHaveText cs → HasText e → CommandHasText a → CommandHasText (While cs e a)
while_text h k d = record { text = and_from _ _ h.text (and_from _ _ k.text d.text) }

guarded_text : (gs : List Condition) (c : Simpl) → AllHaveText gs → CommandHasText c → CommandHasText (guarded gs c)
guarded_text [] c h k = k
guarded_text (g ∷ gs) c h k = let p = parted h in record { text = and_from _ _ p.0.text (guarded_text gs c p.1 k).text }

-- why a command ended abruptly, as a word
reason : (k : ℤ) → HasText (E.WordLit (word 32 k))
reason k = record { text = word_is 32 k (inr (inr (inl refl))) }

jump_text : (k : ℤ) → CommandHasText (jump k)
jump_text k = seq_text (set_text exception_local _ refl (reason k)) (record { text = refl })

stops_text : (k : ℤ) → CommandHasText (stops_at k)
stops_text k = cond_text (record { text = (reason k).text }) skip_text (record { text = refl })

-- a command in a loop's body, and a loop
body_text : {c : Simpl} → CommandHasText c → CommandHasText (body_of_loop c)
body_text h = catch_text h (stops_text continued)

loop_text : {gs : List Condition} {e : E.Exp} {c : Simpl} → AllHaveText gs → HasText e → CommandHasText c → CommandHasText (looped gs e c)
loop_text h k d = catch_text (while_text h k d) (stops_text broken)

first_text : (k : ℕ) → HasText (E.Var (first_local k))
first_text k = record { text = first_named k }

after_first_text : (k : ℕ) (gs : List Condition) → AllHaveText gs → AllHaveText (after_first k gs)
after_first_text k [] h = none
after_first_text k (g ∷ gs) h = let p = parted h in more (record { text = and_from _ _ (first_text k).text p.0.text }) (after_first_text k gs p.1)

do_while_text : (k : ℕ) (gs : List Condition) (e : E.Exp) (c : Simpl) → AllHaveText gs → HasText e → CommandHasText c → CommandHasText (do_while k gs e c)
do_while_text k gs e c h j d =
    seq_text (set_text (first_local k) (E.TruthLit true) (first_named k) (record { text = refl }))
    (loop_text (after_first_text k gs h) (record { text = two (first_text k) j })
    (seq_text (set_text (first_local k) (E.TruthLit false) (first_named k) (record { text = refl })) (body_text d)))

is_label : (t : Target) (i : IntType) (n : ℕ) (k : ℤ) → HasText (E.Eq (E.Var (switch_local n)) (word_of t i k))
is_label t i n k = record { text = and_from _ _ (switch_named n) (word_literal t i k).text }

label_text : (t : Target) (i : IntType) (n : ℕ) (ks : List ℤ) → HasText (is_one_of t i n ks)
label_text t i n [] = record { text = refl }
label_text t i n (k ∷ []) = is_label t i n k
label_text t i n (k ∷ j ∷ ks) = record { text = two (is_label t i n k) (label_text t i n (j ∷ ks)) }

-- what each case does, and its test
abbrev CasesHaveText : List (E.Exp × Simpl) → Type 0
CasesHaveText [] = Unit {0}
CasesHaveText (c ∷ cs) = HasText c.0 × CommandHasText c.1 × CasesHaveText cs

cases_text : (d : Simpl) (cs : List (E.Exp × Simpl)) → CommandHasText d → CasesHaveText cs → CommandHasText (cases d cs)
cases_text d [] h k = h
cases_text d (c ∷ cs) h k = cond_text k.0 k.1 (cases_text d cs h k.2)

in_order_text : (s : Simpl) (last : Bool) (rest : Simpl) → CommandHasText s → CommandHasText rest → CommandHasText (in_order s last rest)
in_order_text s true rest h k = h
in_order_text s false rest h k = seq_text h k

module _ (g : Scope) (level : Level) (named : IsNamed g) (called : (f : Name) (k : C.TypedFn) → C.typed_fn g.functions f ≡ Some k → is_name f ≡ true) where
  abbrev l : Layout
  l = g.layout

  value_text : (e : C.Expr) → is_typed g e ≡ true → has_types e ≡ true → HasText (exp g.layout e)
  value_text e h k = (expression_text g named e h k).0

  truth_text : (e : C.Expr) → is_typed g e ≡ true → has_types e ≡ true → HasText (truth g.layout e)
  truth_text e h k = (expression_text g named e h k).1

  conditions_text : (e : C.Expr) → is_typed g e ≡ true → has_types e ≡ true → AllHaveText (guards g.layout level e)
  conditions_text e h k = guards_text g named level e h k

  target_text : (d : C.Destination) → is_typed_target g d ≡ true → target_has_types d ≡ true → AllHaveText (target_guards g.layout level d)
  target_text (C.ToLocal y t) h k = none
  target_text (C.ToPlace p) h k = append _ _ (place_guards_text g named level p h k) (accesses_text g named level p h k)

  assignment_text : (d : C.Destination) (e : E.Exp) → is_typed_target g d ≡ true → target_has_types d ≡ true → HasText e → CommandHasText (assignment g.layout d e)
  assignment_text (C.ToLocal y t) e h k j = set_text y e (named.variable y t h) j
  assignment_text (C.ToPlace (C.Through t p path u)) e h k j =
      let i = first_so _ _ k in
      let typed = first_so _ _ h in
      let root = value_text p (second_so _ _ (second_so _ _ (first_so _ _ typed))) (second_so _ _ (first_so _ _ i)) in
      let steps = path_text g named path (second_so _ _ typed) (second_so _ _ i) (through_fits g.layout named.layout t u path (first_so _ _ (first_so _ _ typed)) (second_so _ _ h)) in
      record { text = and_from _ _ (first_so _ _ (first_so _ _ i)) (and_from _ _ root.text (and_from _ _ steps.text j.text)) }
  assignment_text (C.ToPlace (C.InGlobal y path u)) e h k j =
      let found = global_fits g.layout named.layout g.globals named.globals y u path (second_so _ _ h) in
      let steps = path_text g named path (first_so _ _ h) (first_so _ _ k) found.0 in
      record { text = and_from _ _ (named.global y found.1.0 found.1.1) (and_from _ _ steps.text j.text) }

  arguments_text : (vs : List C.Variable) (es : List C.Expr) → are_arguments g vs es ≡ true → each has_types es ≡ true → each is_exp (exps g.layout es) ≡ true
  arguments_text [] [] h k = refl
  arguments_text (v ∷ vs) (e ∷ es) h k = and_from _ _ (value_text e (second_so _ _ (first_so _ _ h)) (first_so _ _ k)).text (arguments_text vs es (second_so _ _ h) (second_so _ _ k))
  arguments_text [] (e ∷ es) h k = absurd (false≢true h)
  arguments_text (v ∷ vs) [] h k = absurd (false≢true h)

  argument_conditions_text : (vs : List C.Variable) (es : List C.Expr) → are_arguments g vs es ≡ true → each has_types es ≡ true → AllHaveText (argument_guards g.layout level es)
  argument_conditions_text [] [] h k = none
  argument_conditions_text (v ∷ vs) (e ∷ es) h k = append _ _ (conditions_text e (second_so _ _ (first_so _ _ h)) (first_so _ _ k)) (argument_conditions_text vs es (second_so _ _ h) (second_so _ _ k))
  argument_conditions_text [] (e ∷ es) h k = absurd (false≢true h)
  argument_conditions_text (v ∷ vs) [] h k = absurd (false≢true h)

  result_text : (n : ℕ) (to from : CType) → HasText (conversion g.layout.target to from (E.Var (call_local n)))
  result_text n to from = conversion_text g.layout.target to from (E.Var (call_local n)) (record { text = call_named n })

  called_text : (n : ℕ) (f : Name) (es : List E.Exp) → is_name f ≡ true → each is_exp es ≡ true → CommandHasText (Call (Some (call_local n)) f es)
  called_text n f es h k = record { text = and_from _ _ (call_named n) (and_from _ _ h k) }

  use_text : (result : Option CType) (n : ℕ) (f : Name) (es : List E.Exp) (u : C.Use) → is_name f ≡ true → each is_exp es ≡ true → is_use_of g result u ≡ true → use_has_types u ≡ true → CommandHasText (call g.layout level n f es u)
  use_text None n f es C.NoResult name h k j = record { text = and_from _ _ name h }
  use_text (Some t) n f es (C.Ignored from) name h k j = called_text n f es name h
  use_text (Some t) n f es (C.Assigned from d) name h k j =
      let typed = second_so _ _ k in
      seq_text (called_text n f es name h) (guarded_text _ _ (target_text d typed j) (assignment_text d _ typed j (result_text n (C.target_type d) from)))
  use_text (Some t) n f es (C.Returned from to) name h k j =
      seq_text (called_text n f es name h) (seq_text (set_text result_local _ refl (result_text n to from)) (jump_text returned))
  use_text _ n f es u name h k j = absurd (false≢true k)

  call_text : (o : Option C.TypedFn) (n : ℕ) (f : Name) (es : List C.Expr) (u : C.Use) → C.typed_fn g.functions f ≡ o → is_call_of g o es u ≡ true → (each has_types es && use_has_types u) ≡ true →
      CommandHasText (call_of g.layout level n f es u)
  call_text None n f es u found h k = absurd (false≢true h)
  call_text (Some c) n f es u found h k =
      guarded_text _ _ (argument_conditions_text c.params es (first_so _ _ h) (first_so _ _ k))
      (use_text c.result n f (exps g.layout es) u (called f c found) (arguments_text c.params es (first_so _ _ h) (first_so _ _ k)) (second_so _ _ h) (second_so _ _ k))

  test_conditions_text : (t : C.Test) → is_typed_test g t ≡ true → test_has_types t ≡ true → AllHaveText (test_guards g.layout level t)
  test_conditions_text C.Always h k = none
  test_conditions_text (C.Tested e) h k = conditions_text e (second_so _ _ h) k

  test_text : (t : C.Test) → is_typed_test g t ≡ true → test_has_types t ≡ true → HasText (test_truth g.layout t)
  test_text C.Always h k = record { text = refl }
  test_text (C.Tested e) h k = truth_text e (second_so _ _ h) k

  mutual
    command_text : (r : Around) (s : C.Statement) → is_statement g r s ≡ true → statement_has_types s ≡ true → CommandHasText (command g.layout level s)
    command_text r C.Empty h k = skip_text
    command_text r (C.Block ss) h k = commands_text r ss h k
    command_text r (C.Declare y t) h k = record { text = named.variable y t h }
    command_text r (C.Assign d e) h k =
        let typed = second_so _ _ (second_so _ _ h) in
        guarded_text _ _ (append _ _ (conditions_text e typed (second_so _ _ k)) (target_text d (first_so _ _ h) (first_so _ _ k)))
        (assignment_text d (exp g.layout e) (first_so _ _ h) (first_so _ _ k) (value_text e typed (second_so _ _ k)))
    command_text r (C.Call n f es u) h k = call_text (C.typed_fn g.functions f) n f es u refl h k
    command_text r (C.If e a b) h k =
        let typed = second_so _ _ (first_so _ _ (first_so _ _ h)) in
        let named' = first_so _ _ (first_so _ _ k) in
        guarded_text _ _ (conditions_text e typed named')
        (cond_text (truth_text e typed named') (command_text r a (second_so _ _ (first_so _ _ h)) (second_so _ _ (first_so _ _ k))) (command_text r b (second_so _ _ h) (second_so _ _ k)))
    command_text r (C.While e a) h k =
        let typed = second_so _ _ (first_so _ _ h) in
        loop_text (conditions_text e typed (first_so _ _ k)) (truth_text e typed (first_so _ _ k)) (body_text (command_text in_a_loop a (second_so _ _ h) (second_so _ _ k)))
    command_text r (C.DoWhile n a e) h k =
        let typed = second_so _ _ (second_so _ _ h) in
        do_while_text n _ _ _ (conditions_text e typed (second_so _ _ k)) (truth_text e typed (second_so _ _ k)) (command_text in_a_loop a (first_so _ _ h) (first_so _ _ k))
    command_text r (C.For init test step a) h k =
        let typed = second_so _ _ (first_so _ _ (first_so _ _ h)) in
        let named' = second_so _ _ (first_so _ _ (first_so _ _ k)) in
        before_text init _ (first_so _ _ (first_so _ _ (first_so _ _ h))) (first_so _ _ (first_so _ _ (first_so _ _ k)))
        (loop_text (test_conditions_text test typed named') (test_text test typed named')
        (seq_text (body_text (command_text in_a_loop a (second_so _ _ h) (second_so _ _ k))) (command_text nowhere step (second_so _ _ (first_so _ _ h)) (second_so _ _ (first_so _ _ k)))))
    command_text r (C.Switch n i e gs) h k =
        let typed = second_so _ _ (first_so _ _ (first_so _ _ (first_so _ _ (first_so _ _ h)))) in
        guarded_text _ _ (conditions_text e typed (first_so _ _ k))
        (seq_text (set_text (switch_local n) _ (switch_named n) (value_text e typed (first_so _ _ k)))
        (catch_text (cases_text _ _ (default_text (in_a_switch r) gs (second_so _ _ h) (second_so _ _ k)) (groups_text (in_a_switch r) n i gs (second_so _ _ h) (second_so _ _ k))) (stops_text broken)))
    command_text r C.Break h k = jump_text broken
    command_text r C.Continue h k = jump_text continued
    command_text r C.ReturnNothing h k = jump_text returned
    command_text r (C.Return e) h k =
        let typed = second_so _ _ h in guarded_text _ _ (conditions_text e typed k) (seq_text (set_text result_local _ refl (value_text e typed k)) (jump_text returned))

    pub commands_text : (r : Around) (ss : C.Statements) → are_statements g r ss ≡ true → statements_have_types ss ≡ true → CommandHasText (commands g.layout level ss)
    commands_text r C.no_statements h k = skip_text
    commands_text r (C.next s ss) h k = in_order_text _ (is_empty ss) _ (command_text r s (first_so _ _ h) (first_so _ _ k)) (commands_text r ss (second_so _ _ h) (second_so _ _ k))

    before_text : (ss : C.Statements) (rest : Simpl) → are_statements g nowhere ss ≡ true → statements_have_types ss ≡ true → CommandHasText rest → CommandHasText (before g.layout level ss rest)
    before_text C.no_statements rest h k j = j
    before_text (C.next s ss) rest h k j = seq_text (command_text nowhere s (first_so _ _ h) (first_so _ _ k)) (before_text ss rest (second_so _ _ h) (second_so _ _ k) j)

    groups_text : (r : Around) (n : ℕ) (i : IntType) (gs : C.Groups) → are_groups g r gs ≡ true → groups_have_types gs ≡ true → CasesHaveText (cases_of g.layout level n i gs)
    groups_text r n i C.no_groups h k = tt
    groups_text r n i (C.group labels true ss gs) h k = groups_text r n i gs (second_so _ _ h) (second_so _ _ k)
    groups_text r n i (C.group labels false ss gs) h k =
        (label_text g.layout.target i n labels, commands_text r ss (first_so _ _ h) (first_so _ _ k), groups_text r n i gs (second_so _ _ h) (second_so _ _ k))

    default_text : (r : Around) (gs : C.Groups) → are_groups g r gs ≡ true → groups_have_types gs ≡ true → CommandHasText (default_of g.layout level gs)
    default_text r C.no_groups h k = skip_text
    default_text r (C.group labels true ss gs) h k = commands_text r ss (first_so _ _ h) (first_so _ _ k)
    default_text r (C.group labels false ss gs) h k = default_text r gs (second_so _ _ h) (second_so _ _ k)

pub whole_text : (t : Option CType) (c : Simpl) → CommandHasText c → CommandHasText (whole_body t c)
whole_text None c h = catch_text h skip_text
whole_text (Some t) c h = catch_text (seq_text h (record { text = refl })) skip_text
