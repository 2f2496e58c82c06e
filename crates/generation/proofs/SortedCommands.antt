-- The commands of a well-typed statement are well-sorted, where the locals that they add are in scope.
use Rattle.std.proofs.Common.{◌≡◌, ℕ, Bool, true, false, List, [], ◌∷◌, ◌++◌, map, Option, Some, None, ℤ, refl, sym, ap, ap₂, ◌∙◌, cond, subst, eq-eqb, inl, inr}
use Rattle.std.proofs.lemmas.Bool.{false≢true, and_from, cond-true, cond-false}
use Rattle.std.specs.Cmp.{first_so, second_so}
use Rattle.c_values.specs.Name.{Name}
use Rattle.c_values.specs.Types.{Target, IntType, CType, Integer, is_signed, width_of, address_width}
use Rattle.c_values.specs.Layout.{Layout, Shape, Incomplete, Scalar, Record, Row, type_of, shape_of, is_object, is_scalar, scalar_width}
use Rattle.c_values.specs.CodeSameType.{type_is, same_type-refl}
use Rattle.c_values.proofs.Laid.{IsLaid, structs_of}
use Rattle.c_values.proofs.Options.{none_some}
use Rattle.expression_lang.specs.Expression as E
use Rattle.expression_lang.specs.Form.{path_has, is_part_of_value}
use Rattle.expression_lang.specs.Sort as S
use Rattle.expression_lang.specs.Sort.{Level, Numbers, NatKind, IntKind, BoolKind, Of, WordSort, TruthSort, word_sort_of, is_word_of, scalar_sort, sort_at, shape_along}
use Rattle.expression_lang.specs.Signature.{Binder, Signature, signature, kinds_of, kind_at, result_kind, binder}
use Rattle.expression_lang.specs.Sorted.{program_sort, part_place, global_place, fits_place, sort_in, scalars_of, scalar_in, with_scalar, same_scalars, call_scalars, result_scalars}
use Rattle.expression_lang.proofs.SameScalars.{same_scalars-refl, same_scalar-refl}
use Rattle.simpl_lang.specs.Command.{Condition, Simpl, Skip, Throw, Set, SetGlobal, Store, Pick, Seq, Cond, Catch, While, Call}
use Rattle.program_sorts.specs.Sorts.{is_scalar_of}
use Rattle.simpl_lang.specs.Sorted.{is_sorted, is_local, fits_target}
use Rattle.simpl_lang.specs.Exec.{result_local}
use Rattle.c_lang.specs.Typed as C
use Rattle.c_lang.specs.WellTyped.{Scope, Around, variable_type, are_variables, is_result, is_typed_at, is_typed, is_typed_target, is_typed_test, are_arguments, is_use_of, is_call_of, is_statement, are_statements, are_groups, is_own_name, nowhere, in_a_loop, in_a_switch}
use Rattle.c_meaning.specs.Kinds.{variables}
use Rattle.generation.specs.Guards.{int_literal, conversion, exp, exps, guards, argument_guards}
use Rattle.generation.specs.Generate.{exception_local, call_local, switch_local, first_local, returned, broken, continued, jump, stops_at, body_of_loop, looped, guarded, assignment, target_guards, call, call_of, test_guards, test_truth, after_first, do_while, is_one_of, cases, in_order, is_empty, command, commands, before, cases_of, default_of, whole_body, use_binder, Added, both_added, added, added_in, added_of, signature_of}
use Rattle.generation.proofs.ExactTests.{by_test, all_of_three}
use Rattle.generation.proofs.ExactMachines.{is_declared, declared_scalar}
use Rattle.generation.proofs.SortedRows as R
use Rattle.generation.proofs.SortedRows.{Has, HasWord, HasTruth, HasPath, Truths, none, more, in_program, truth_in_program, conditions_sorted, truths_append}
use Rattle.generation.proofs.SortedExpressions as X
use Rattle.generation.proofs.SortedExpressions.{IsScope, simpl_scope, scalar_wide, conversion_sorted, expression_sorted, accesses_sorted, guards_sorted, place_guards_sorted}

-- kinds of scalar types

pub kind_word : (t : Target) (level : Level) (u : CType) → word_sort_of (kind_at t level u) ≡ WordSort (scalar_width t u)
kind_word t Numbers (Integer i) = by_test (λ k. word_sort_of k ≡ WordSort (width_of t i)) (is_signed i) (IntKind (width_of t i)) (NatKind (width_of t i)) (λ b. refl) (λ b. refl)
kind_word _ _ _ = refl

-- a part that is whole fits its place
part_fits : (t : Target) (structs : Name → Shape) (q : Shape) → IsLaid t structs q → fits_place (sort_at q) (sort_at q) ≡ true
part_fits t structs Incomplete h = absurd h
part_fits t structs (Scalar u n) h = eq-eqb n n refl
part_fits t structs (Record x n align fs) h = same_type-refl (type_of (Record x n align fs))
part_fits t structs (Row e n) h = same_type-refl (type_of (Row e n))

-- binders whose names are in scope
abbrev pub AreIn : (Name → Option S.Scalar) → List Binder → Type 0
AreIn names [] = Unit {0}
AreIn names (b ∷ bs) = (names b.name ≡ Some (word_sort_of b.kind)) × AreIn names bs

pub in_parts : (names : Name → Option S.Scalar) (bs cs : List Binder) → AreIn names (bs ++ cs) → AreIn names bs × AreIn names cs
in_parts names [] cs h = (tt, h)
in_parts names (b ∷ bs) cs h = let k = in_parts names bs cs h.1 in ((h.0, k.0), k.1)

pub record HasAdded (names : Name → Option S.Scalar) (a : Added) : Type 0 where
  pub calls : AreIn names a.calls
  pub switches : AreIn names a.switches
  pub firsts : AreIn names a.firsts

both_parts : (names : Name → Option S.Scalar) (a b : Added) → HasAdded names (both_added a b) → HasAdded names a × HasAdded names b
both_parts names a b h =
    let c = in_parts names a.calls b.calls h.calls in
    let s = in_parts names a.switches b.switches h.switches in
    let f = in_parts names a.firsts b.firsts h.firsts in
    (record { calls = c.0; switches = s.0; firsts = f.0 }, record { calls = c.1; switches = s.1; firsts = f.1 })

pub record IsSorted (s : S.Scope) (sigs : List Signature) (c : Simpl) : Type 0 where
  pub sorted : is_sorted s sigs c ≡ true

-- rows of commands

module _ (s : S.Scope) (sigs : List Signature) where
  skip_sorted : IsSorted s sigs Skip
  skip_sorted = record { sorted = refl }

  throw_sorted : IsSorted s sigs Throw
  throw_sorted = record { sorted = refl }

  variable : (x : Name) (r : S.Scalar) → s.names x ≡ Some r → Has s (Some (Of r)) (E.Var x)
  variable x r e = record { plain = refl; sort = ap scalar_sort e }

  set_sorted : (x : Name) (r : S.Scalar) (e : E.Exp) → s.names x ≡ Some r → Has s (Some (Of r)) e → IsSorted s sigs (Set x e)
  set_sorted x r e h k = record { sorted = ap₂ is_scalar_of h (in_program s (Some (Of r)) e k) ∙ same_scalar-refl r }

  pick_sorted : (x : Name) (r : S.Scalar) → s.names x ≡ Some r → IsSorted s sigs (Pick x)
  pick_sorted x r h = record { sorted = ap is_local h }

  seq_sorted : {a b : Simpl} → IsSorted s sigs a → IsSorted s sigs b → IsSorted s sigs (Seq a b)
  seq_sorted h k = record { sorted = and_from _ _ h.sorted k.sorted }

  cond_sorted : {e : E.Exp} {a b : Simpl} → HasTruth s e → IsSorted s sigs a → IsSorted s sigs b → IsSorted s sigs (Cond e a b)
  cond_sorted {e} h j k = record { sorted = and_from _ _ (and_from _ _ (truth_in_program s e h) j.sorted) k.sorted }

  catch_sorted : {a b : Simpl} → IsSorted s sigs a → IsSorted s sigs b → IsSorted s sigs (Catch a b)
  catch_sorted h k = record { sorted = and_from _ _ h.sorted k.sorted }

  while_sorted : {cs : List Condition} {e : E.Exp} {a : Simpl} → Truths s cs → HasTruth s e → IsSorted s sigs a → IsSorted s sigs (While cs e a)
  while_sorted {cs} {e} h j k = record { sorted = and_from _ _ (and_from _ _ (conditions_sorted s cs h) (truth_in_program s e j)) k.sorted }

  guarded_sorted : {gs : List Condition} {c : Simpl} → Truths s gs → IsSorted s sigs c → IsSorted s sigs (guarded gs c)
  guarded_sorted none k = k
  guarded_sorted (more {c} {cs} h r) k = record { sorted = and_from _ _ (truth_in_program s c.exp h) (guarded_sorted r k).sorted }

  -- a value of the part at the end of a path goes there
  place_fits : (q : Shape) (path : E.Path) (t : CType) → fits_place (sort_at q) (sort_at q) ≡ true → HasPath s path (shape_of s.layout t) q → (e : E.Exp) → Has s (sort_at q) e → fits_place (part_place s t path) (program_sort s e) ≡ true
  place_fits q path t f h e k =
      ap₂ fits_place (cond-false (path_has is_part_of_value path) _ (sort_in (shape_along s path (shape_of s.layout t))) h.plain ∙ ap sort_in h.along) (in_program s (sort_at q) e k) ∙ f

  store_sorted : (t : CType) (p : E.Exp) (path : E.Path) (q : Shape) (e : E.Exp) → is_object s.layout t ≡ true → HasWord s (address_width s.layout.target) p → HasPath s path (shape_of s.layout t) q →
      fits_place (sort_at q) (sort_at q) ≡ true → Has s (sort_at q) e → IsSorted s sigs (Store t p path e)
  store_sorted t p path q e o h way f k = record {
    sorted = ap (λ b. fits_place (cond b (part_place s t path) None) (program_sort s e))
        (and_from (is_object s.layout t) _ o (ap (λ r. is_word_of (address_width s.layout.target) r) (in_program s _ p h) ∙ eq-eqb (address_width s.layout.target) (address_width s.layout.target) refl))
        ∙ place_fits q path t f way e k;
  }

  set_global_sorted : (x : Name) (t : CType) (path : E.Path) (q : Shape) (e : E.Exp) → s.globals x ≡ Some t → is_object s.layout t ≡ true → HasPath s path (shape_of s.layout t) q →
      fits_place (sort_at q) (sort_at q) ≡ true → Has s (sort_at q) e → IsSorted s sigs (SetGlobal x path e)
  set_global_sorted x t path q e g o way f k = record {
    sorted = ap (λ r. fits_place (global_place s r path) (program_sort s e)) g ∙ ap (λ b. fits_place (cond b (part_place s t path) None) (program_sort s e)) o ∙ place_fits q path t f way e k;
  }

  -- jumps

  module _ (exception : s.names exception_local ≡ Some (WordSort 32)) where
    thirty_two : (k : ℤ) → HasWord s 32 (int_literal k)
    thirty_two k = R.literal s 32 k (inr (inr (inl refl)))

    jump_sorted : (k : ℤ) → IsSorted s sigs (jump k)
    jump_sorted k = seq_sorted (set_sorted exception_local (WordSort 32) (int_literal k) exception (thirty_two k)) throw_sorted

    stops_sorted : (k : ℤ) → IsSorted s sigs (stops_at k)
    stops_sorted k = cond_sorted (R.equal s 32 _ (variable exception_local (WordSort 32) exception) _ (thirty_two k)) skip_sorted throw_sorted

    body_sorted : {c : Simpl} → IsSorted s sigs c → IsSorted s sigs (body_of_loop c)
    body_sorted h = catch_sorted h (stops_sorted continued)

    loop_sorted : {gs : List Condition} {e : E.Exp} {c : Simpl} → Truths s gs → HasTruth s e → IsSorted s sigs c → IsSorted s sigs (looped gs e c)
    loop_sorted h j k = catch_sorted (while_sorted h j k) (stops_sorted broken)

    module _ (k : ℕ) (is_first : s.names (first_local k) ≡ Some TruthSort) where
      in_front : HasTruth s (E.Var (first_local k))
      in_front = variable (first_local k) TruthSort is_first

      after_first_sorted : {gs : List Condition} → Truths s gs → Truths s (after_first k gs)
      after_first_sorted none = none
      after_first_sorted (more {c} {cs} h r) = more (R.implied s _ (R.negated s _ in_front) _ h) (after_first_sorted r)

      set_first : (b : Bool) → IsSorted s sigs (Set (first_local k) (E.TruthLit b))
      set_first b = set_sorted (first_local k) TruthSort (E.TruthLit b) is_first (R.truth_literal s b)

      do_while_sorted : (gs : List Condition) (e : E.Exp) (c : Simpl) → Truths s gs → HasTruth s e → IsSorted s sigs c → IsSorted s sigs (do_while k gs e c)
      do_while_sorted gs e c h j d = seq_sorted (set_first true) (loop_sorted (after_first_sorted h) (R.either s _ in_front _ j) (seq_sorted (set_first false) (body_sorted d)))

  -- switches

  label_sorted : (t : Target) (i : IntType) (n : ℕ) → s.names (switch_local n) ≡ Some (WordSort (width_of t i)) → (ks : List ℤ) → HasTruth s (is_one_of t i n ks)
  label_sorted t i n h [] = R.truth_literal s false
  label_sorted t i n h (k ∷ []) = R.equal s (width_of t i) _ (variable (switch_local n) (WordSort (width_of t i)) h) _ (R.literal s (width_of t i) k (scalar_wide t (Integer i)))
  label_sorted t i n h (k ∷ j ∷ ks) =
      R.either s _ (R.equal s (width_of t i) _ (variable (switch_local n) (WordSort (width_of t i)) h) _ (R.literal s (width_of t i) k (scalar_wide t (Integer i)))) _ (label_sorted t i n h (j ∷ ks))

  abbrev CasesSorted : List (E.Exp × Simpl) → Type 0
  CasesSorted [] = Unit {0}
  CasesSorted (c ∷ cs) = HasTruth s c.0 × IsSorted s sigs c.1 × CasesSorted cs

  cases_sorted : (d : Simpl) (cs : List (E.Exp × Simpl)) → IsSorted s sigs d → CasesSorted cs → IsSorted s sigs (cases d cs)
  cases_sorted d [] h k = h
  cases_sorted d (c ∷ cs) h k = cond_sorted k.0 k.1 (cases_sorted d cs h k.2)

  in_order_sorted : (c : Simpl) (last : Bool) (rest : Simpl) → IsSorted s sigs c → IsSorted s sigs rest → IsSorted s sigs (in_order c last rest)
  in_order_sorted c true rest h k = h
  in_order_sorted c false rest h k = seq_sorted h k

-- what stands around the statements of a function: its scope, the functions that it calls, and the locals of its jumps
pub record IsBody (g : Scope) (names : Name → Option S.Scalar) (sigs : List Signature) (levels : Name → Level) : Type 0 where
  pub scope : IsScope g names
  pub signed : (x : Name) (f : C.TypedFn) → C.typed_fn g.functions x ≡ Some f → signature sigs x ≡ Some (signature_of g.layout (levels f.name) f)
  pub parameters : (x : Name) (f : C.TypedFn) → C.typed_fn g.functions x ≡ Some f → are_variables f.params ≡ true
  pub results : is_result g.result ≡ true
  pub result : (t : CType) → g.result ≡ Some t → names result_local ≡ Some (WordSort (scalar_width g.layout.target t))
  pub exception : names exception_local ≡ Some (WordSort 32)

module _ (g : Scope) (names : Name → Option S.Scalar) (sigs : List Signature) (levels : Name → Level) (level : Level) (is : IsBody g names sigs levels) where
  abbrev s : S.Scope
  s = simpl_scope g names

  abbrev l : Layout
  l = g.layout

  abbrev Good : Simpl → Type 0
  Good c = IsSorted s sigs c

  value : (e : C.Expr) → is_typed g e ≡ true → Has s (sort_at (shape_of g.layout (C.type_of e))) (exp g.layout e)
  value e h = (expression_sorted g names is.scope e h).0

  value_at : (t : CType) (e : C.Expr) → is_typed_at g t e ≡ true → Has s (sort_at (shape_of g.layout t)) (exp g.layout e)
  value_at t e h = X.typed_as g names is.scope t e _ (first_so _ _ h) (value e (second_so _ _ h))

  conditions : (e : C.Expr) → is_typed g e ≡ true → Truths s (guards g.layout level e)
  conditions e h = guards_sorted g names is.scope level e h

  -- assignments

  target_sorted : (d : C.Destination) → is_typed_target g d ≡ true → Truths s (target_guards g.layout level d)
  target_sorted (C.ToLocal y t) h = none
  target_sorted (C.ToPlace p) h = truths_append (place_guards_sorted g names is.scope level p h) (accesses_sorted g names is.scope level p h)

  assignment_sorted : (d : C.Destination) (e : E.Exp) → is_typed_target g d ≡ true → Has s (sort_at (shape_of g.layout (C.target_type d))) e → Good (assignment g.layout d e)
  assignment_sorted (C.ToLocal y t) e h k =
      let d = is_declared (variable_type g.variables y) t h in
      set_sorted s sigs y (WordSort (scalar_width l.target t)) e (is.scope.known y t d) (X.word_from g names is.scope t e (declared_scalar g.variables is.scope.own y t d).1 k)
  assignment_sorted (C.ToPlace (C.Through t p path u)) e h k =
      let j = first_so _ _ (first_so _ _ h) in
      let w = X.path_in_memory g names is.scope t p path u h in
      store_sorted s sigs t _ _ (shape_of l u) e (first_so _ _ j) (X.pointer g names is.scope t p (second_so _ _ j)) w.0 (part_fits l.target (structs_of l) (shape_of l u) w.1) k
  assignment_sorted (C.ToPlace (C.InGlobal x path u)) e h k =
      let w = X.path_in_global g names is.scope x path u h in set_global_sorted s sigs x w.0 _ (shape_of l u) e w.1 w.2 w.3.0 (part_fits l.target (structs_of l) (shape_of l u) w.3.1) k

  set_result : (t : CType) (e : E.Exp) → g.result ≡ Some t → HasWord s (scalar_width g.layout.target t) e → Good (Set result_local e)
  set_result t e h k = set_sorted s sigs result_local (WordSort (scalar_width l.target t)) e (is.result t h) k

  jumps : (k : ℤ) → Good (jump k)
  jumps k = jump_sorted s sigs is.exception k

  -- calls

  arguments_sorted : (t : Level) (vs : List C.Variable) (es : List C.Expr) → are_variables vs ≡ true → are_arguments g vs es ≡ true → scalars_of s (exps g.layout es) ≡ Some (map word_sort_of (kinds_of (variables g.layout.target t vs)))
  arguments_sorted t [] [] h k = refl
  arguments_sorted t (v ∷ vs) (e ∷ es) h k =
      let p = all_of_three (is_scalar v.type) (is_own_name v.name) (are_variables vs) h in
      ap₂ with_scalar
      (ap scalar_in (in_program s _ _ (X.word_from g names is.scope v.type _ p.0 (value_at v.type e (first_so _ _ k)))) ∙ ap Some (sym (kind_word l.target t v.type)))
      (arguments_sorted t vs es p.2 (second_so _ _ k))
  arguments_sorted t [] (e ∷ es) h k = absurd (false≢true k)
  arguments_sorted t (v ∷ vs) [] h k = absurd (false≢true k)

  argument_conditions : (vs : List C.Variable) (es : List C.Expr) → are_arguments g vs es ≡ true → Truths s (argument_guards g.layout level es)
  argument_conditions [] [] k = none
  argument_conditions (v ∷ vs) (e ∷ es) k = truths_append (conditions e (second_so _ _ (first_so _ _ k))) (argument_conditions vs es (second_so _ _ k))
  argument_conditions [] (e ∷ es) k = absurd (false≢true k)
  argument_conditions (v ∷ vs) [] k = absurd (false≢true k)

  -- what a call gives
  abbrev Gives : Name → List E.Exp → Option CType → Type 0
  Gives f es r = (t : Level) × (call_scalars word_sort_of (signature sigs f) (scalars_of s es) ≡ Some (result_scalars word_sort_of (result_kind g.layout.target t r)))

  call_gives : (f : Name) (k : C.TypedFn) (es : List C.Expr) → C.typed_fn g.functions f ≡ Some k → are_arguments g k.params es ≡ true → Gives f (exps g.layout es) k.result
  call_gives f k es e h =
      let kinds = map word_sort_of (kinds_of (variables l.target (levels k.name) k.params)) in (
        levels k.name,
        ap₂ (call_scalars word_sort_of) (is.signed f k e) (arguments_sorted (levels k.name) k.params es (is.parameters f k e) h)
            ∙ cond-true (same_scalars kinds kinds) (Some (result_scalars word_sort_of (result_kind l.target (levels k.name) k.result))) None (same_scalars-refl kinds),
      )

  called_into : (n : ℕ) (f : Name) (es : List E.Exp) (t from : CType) → Gives f es (Some t) → t ≡ from → names (call_local n) ≡ Some (word_sort_of (kind_at g.layout.target level from)) → Good (Call (Some (call_local n)) f es)
  called_into n f es t from h same e = record {
    sorted = ap (λ o. fits_target s (Some (call_local n)) o) h.1
        ∙ ap₂ (λ r q. is_scalar_of r (Some (Of q))) e (kind_word l.target h.0 t ∙ ap (λ u. WordSort (scalar_width l.target u)) same ∙ sym (kind_word l.target level from))
        ∙ same_scalar-refl (word_sort_of (kind_at l.target level from));
  }

  call_value : (n : ℕ) (from to : CType) → names (call_local n) ≡ Some (word_sort_of (kind_at g.layout.target level from)) → HasWord s (scalar_width g.layout.target to) (conversion g.layout.target to from (E.Var (call_local n)))
  call_value n from to e = conversion_sorted s l.target to from _ (variable s sigs (call_local n) _ (e ∙ ap Some (kind_word l.target level from)))

  use_sorted : (r : Option CType) (n : ℕ) (f : Name) (es : List E.Exp) (u : C.Use) → Gives f es r → is_use_of g r u ≡ true → AreIn names (use_binder g.layout.target level n u) → Good (call g.layout level n f es u)
  use_sorted None n f es C.NoResult h k d = record { sorted = ap (λ o. fits_target s None o) h.1 }
  use_sorted (Some t) n f es (C.Ignored from) h k d = called_into n f es t from h (type_is t from k) d.0
  use_sorted (Some t) n f es (C.Assigned from target) h k d =
      let j = first_so _ _ k in
      let typed = second_so _ _ k in
      seq_sorted s sigs (called_into n f es t from h (type_is t from (first_so _ _ j)) d.0)
      (guarded_sorted s sigs (target_sorted target typed) (assignment_sorted target _ typed (X.word_to g names is.scope (C.target_type target) _ (second_so _ _ j) (call_value n from (C.target_type target) d.0))))
  use_sorted (Some t) n f es (C.Returned from to) h k d =
      seq_sorted s sigs (called_into n f es t from h (type_is t from (first_so _ _ k)) d.0)
      (seq_sorted s sigs (set_result to _ (is_declared g.result to (second_so _ _ k)) (call_value n from to d.0)) (jumps returned))
  use_sorted _ _ _ _ _ _ k _ = absurd (false≢true k)

  call_sorted : (o : Option C.TypedFn) (n : ℕ) (f : Name) (es : List C.Expr) (u : C.Use) → C.typed_fn g.functions f ≡ o → is_call_of g o es u ≡ true → AreIn names (use_binder g.layout.target level n u) → Good (call_of g.layout level n f es u)
  call_sorted None n f es u e h d = absurd (false≢true h)
  call_sorted (Some k) n f es u e h d =
      guarded_sorted s sigs (argument_conditions k.params es (first_so _ _ h)) (use_sorted k.result n f (exps l es) u (call_gives f k es e (first_so _ _ h)) (second_so _ _ h) d)

  -- tests

  test_conditions : (t : C.Test) → is_typed_test g t ≡ true → Truths s (test_guards g.layout level t)
  test_conditions C.Always h = none
  test_conditions (C.Tested e) h = conditions e (second_so _ _ h)

  test_sorted : (t : C.Test) → is_typed_test g t ≡ true → HasTruth s (test_truth g.layout t)
  test_sorted C.Always h = R.truth_literal s true
  test_sorted (C.Tested e) h = X.test g names is.scope e h

  result_scalar : (r : Option CType) (t : CType) → is_result r ≡ true → r ≡ Some t → is_scalar t ≡ true
  result_scalar None t h e = absurd (none_some e)
  result_scalar (Some u) t h e = subst (λ o. is_result o ≡ true) e h

  mutual
    command_sorted : (r : Around) (c : C.Statement) → is_statement g r c ≡ true → HasAdded names (added g.layout.target level c) → Good (command g.layout level c)
    command_sorted r C.Empty h a = skip_sorted s sigs
    command_sorted r (C.Block ss) h a = commands_sorted r ss h a
    command_sorted r (C.Declare y t) h a = pick_sorted s sigs y _ (is.scope.known y t (is_declared (variable_type g.variables y) t h))
    command_sorted r (C.Assign d e) h a =
        guarded_sorted s sigs (truths_append (conditions e (second_so _ _ (second_so _ _ h))) (target_sorted d (first_so _ _ h))) (assignment_sorted d _ (first_so _ _ h) (value_at (C.target_type d) e (second_so _ _ h)))
    command_sorted r (C.Call n f es u) h a = call_sorted (C.typed_fn g.functions f) n f es u refl h a.calls
    command_sorted r (C.If e b c) h a =
        let k = first_so _ _ h in
        let d = both_parts names (added l.target level b) (added l.target level c) a in
        guarded_sorted s sigs (conditions e (second_so _ _ (first_so _ _ k)))
        (cond_sorted s sigs (X.test g names is.scope e (first_so _ _ k)) (command_sorted r b (second_so _ _ k) d.0) (command_sorted r c (second_so _ _ h) d.1))
    command_sorted r (C.While e b) h a =
        loop_sorted s sigs is.exception (conditions e (second_so _ _ (first_so _ _ h))) (X.test g names is.scope e (first_so _ _ h)) (body_sorted s sigs is.exception (command_sorted in_a_loop b (second_so _ _ h) a))
    command_sorted r (C.DoWhile k b e) h a =
        let d = both_parts names (record { calls = []; switches = []; firsts = binder (first_local k) BoolKind ∷ [] }) (added l.target level b) a in
        do_while_sorted s sigs is.exception k d.0.firsts.0 _ _ _ (conditions e (second_so _ _ (second_so _ _ h))) (X.test g names is.scope e (second_so _ _ h)) (command_sorted in_a_loop b (first_so _ _ h) d.1)
    command_sorted r (C.For init test step b) h a =
        let k = first_so _ _ h in
        let j = first_so _ _ k in
        let d = both_parts names (added_in l.target level init) (both_added (added l.target level step) (added l.target level b)) a in
        let c = both_parts names (added l.target level step) (added l.target level b) d.1 in
        before_sorted init _ (first_so _ _ j) d.0
        (loop_sorted s sigs is.exception (test_conditions test (second_so _ _ j)) (test_sorted test (second_so _ _ j))
        (seq_sorted s sigs (body_sorted s sigs is.exception (command_sorted in_a_loop b (second_so _ _ h) c.1)) (command_sorted nowhere step (second_so _ _ k) c.0)))
    command_sorted r (C.Switch n i e gs) h a =
        let typed = first_so _ _ (first_so _ _ (first_so _ _ (first_so _ _ h))) in
        let d = both_parts names (record { calls = []; switches = binder (switch_local n) (kind_at l.target level (Integer i)) ∷ []; firsts = [] }) (added_of l.target level gs) a in
        let known : names (switch_local n) ≡ Some (WordSort (width_of l.target i)) = d.0.switches.0 ∙ ap Some (kind_word l.target level (Integer i)) in
        guarded_sorted s sigs (conditions e (second_so _ _ typed))
        (seq_sorted s sigs (set_sorted s sigs (switch_local n) _ _ known (value_at (Integer i) e typed))
        (catch_sorted s sigs (cases_sorted s sigs _ _ (default_sorted (in_a_switch r) gs (second_so _ _ h) d.1) (groups_sorted (in_a_switch r) n i known gs (second_so _ _ h) d.1)) (stops_sorted s sigs is.exception broken)))
    command_sorted r C.Break h a = jumps broken
    command_sorted r C.Continue h a = jumps continued
    command_sorted r C.ReturnNothing h a = jumps returned
    command_sorted r (C.Return e) h a =
        let k = is_declared g.result (C.type_of e) (first_so _ _ h) in
        let typed = second_so _ _ h in
        guarded_sorted s sigs (conditions e typed)
        (seq_sorted s sigs (set_result (C.type_of e) _ k (X.word_from g names is.scope (C.type_of e) _ (result_scalar g.result (C.type_of e) is.results k) (value e typed))) (jumps returned))

    pub commands_sorted : (r : Around) (ss : C.Statements) → are_statements g r ss ≡ true → HasAdded names (added_in g.layout.target level ss) → Good (commands g.layout level ss)
    commands_sorted r C.no_statements h a = skip_sorted s sigs
    commands_sorted r (C.next c ss) h a =
        let d = both_parts names (added l.target level c) (added_in l.target level ss) a in
        in_order_sorted s sigs _ (is_empty ss) _ (command_sorted r c (first_so _ _ h) d.0) (commands_sorted r ss (second_so _ _ h) d.1)

    before_sorted : (ss : C.Statements) (rest : Simpl) → are_statements g nowhere ss ≡ true → HasAdded names (added_in g.layout.target level ss) → Good rest → Good (before g.layout level ss rest)
    before_sorted C.no_statements rest h a k = k
    before_sorted (C.next c ss) rest h a k =
        let d = both_parts names (added l.target level c) (added_in l.target level ss) a in
        seq_sorted s sigs (command_sorted nowhere c (first_so _ _ h) d.0) (before_sorted ss rest (second_so _ _ h) d.1 k)

    groups_sorted : (r : Around) (n : ℕ) (i : IntType) → names (switch_local n) ≡ Some (WordSort (width_of g.layout.target i)) → (gs : C.Groups) → are_groups g r gs ≡ true → HasAdded names (added_of g.layout.target level gs) →
        CasesSorted s sigs (cases_of g.layout level n i gs)
    groups_sorted r n i e C.no_groups h a = tt
    groups_sorted r n i e (C.group labels true ss gs) h a = groups_sorted r n i e gs (second_so _ _ h) (both_parts names (added_in l.target level ss) (added_of l.target level gs) a).1
    groups_sorted r n i e (C.group labels false ss gs) h a =
        let d = both_parts names (added_in l.target level ss) (added_of l.target level gs) a in
        (label_sorted s sigs l.target i n e labels, commands_sorted r ss (first_so _ _ h) d.0, groups_sorted r n i e gs (second_so _ _ h) d.1)

    default_sorted : (r : Around) (gs : C.Groups) → are_groups g r gs ≡ true → HasAdded names (added_of g.layout.target level gs) → Good (default_of g.layout level gs)
    default_sorted r C.no_groups h a = skip_sorted s sigs
    default_sorted r (C.group labels true ss gs) h a = commands_sorted r ss (first_so _ _ h) (both_parts names (added_in l.target level ss) (added_of l.target level gs) a).0
    default_sorted r (C.group labels false ss gs) h a = default_sorted r gs (second_so _ _ h) (both_parts names (added_in l.target level ss) (added_of l.target level gs) a).1

  pub whole_sorted : (t : Option CType) (c : Simpl) → Good c → Good (whole_body t c)
  whole_sorted None c h = catch_sorted s sigs h (skip_sorted s sigs)
  whole_sorted (Some t) c h = catch_sorted s sigs (seq_sorted s sigs h (guarded_sorted s sigs (more (R.truth_literal s false) none) (skip_sorted s sigs))) (skip_sorted s sigs)
