-- The Simpl unit of a well-typed unit is well-formed.
use Rattle.std.proofs.Common.{◌≡◌, ℕ, true, false, not, List, [], ◌∷◌, ◌++◌, map, Option, Some, None, refl, sym, ap, ◌∙◌, subst, eq-eqb}
use Rattle.std.proofs.lemmas.Bool.{and_from, or_from, or_parts, not-true, and_parts}
use Rattle.c_values.specs.Name.{Name, same_name, with_name, is_among, are_distinct}
use Rattle.c_values.specs.Types.{Target, CType, Integer, Void, Ptr, Struct, Array, is_signed, width_of}
use Rattle.c_values.specs.Layout.{is_scalar, scalar_width, global_type}
use Rattle.c_values.proofs.Laid.{name_is, other_name, same_name-refl}
use Rattle.c_values.proofs.Options.{none_some, some_is}
use Rattle.expression_lang.specs.Sort.{Level, Bytes, Words, Numbers, Scalar, Kind, WordKind, NatKind, IntKind, BoolKind, WordSort, word_sort_of, is_kind, are_kinds}
use Rattle.expression_lang.specs.Signature.{Binder, Signature, names_of, kinds_of, kind_at, binder, result_kind}
use Rattle.expression_lang.specs.Sorted.{names_with}
use Rattle.expression_lang.proofs.Sorting.{width_is}
use Rattle.simpl_lang.specs.Command.{kind_of}
use Rattle.simpl_lang.specs.Exec.{result_local}
use Rattle.simpl_lang.specs.Flag.{thrown_local}
use Rattle.simpl_lang.specs.Sorted.{are_fns_sorted, same_kind, come_first, is_kind_of, holds_result, are_signed, IsWellFormed}
use Rattle.simpl_lang.proofs.SameKinds.{same_level-refl}
use Rattle.c_lang.specs.Typed as C
use Rattle.c_lang.specs.WellTyped.{IsWellTyped, scope_in, variable_type, are_variables, is_own_name, is_result, is_function, are_functions, are_numbered, are_statements, nowhere}
use Rattle.c_lang.specs.Numbers.{are_numbers, numbers_in}
use Rattle.c_meaning.specs.Kinds.{variables}
use Rattle.generation.specs.Generate.{exception_local, call_local, switch_local, first_local, result_binder, use_binder, Added, none_added, both_added, added, added_in, added_of, locals, function_of, signature_of, generated}
use Rattle.generation.proofs.ExactTests.{all_of_three, all_of_four, by_test, by_cases, where_true, where_false}
use Rattle.generation.proofs.ExactMachines.{apart}
use Rattle.generation.proofs.UnitParts.{variables_apart, signature_found, function_typed, locals_are}
use Rattle.generation.proofs.LocalNames.{variables_append, locals_distinct}
use Rattle.generation.proofs.SortedExpressions.{scalar_wide}
use Rattle.generation.proofs.SortedCommands.{kind_word, AreIn, in_parts, HasAdded, IsBody, IsSorted, commands_sorted, whole_sorted}

-- the scope of locals with different names

abbrev scalars_among : List Binder → (Name → Option Scalar) → Name → Option Scalar
scalars_among bs names = names_with (names_of bs) (map word_sort_of (kinds_of bs)) names

pub other_scalar : (bs : List Binder) (names : Name → Option Scalar) (x : Name) → is_among x (names_of bs) ≡ false → scalars_among bs names x ≡ names x
other_scalar [] names x h = refl
other_scalar (b ∷ bs) names x h =
    let p = or_parts (same_name x b.name) (is_among x (names_of bs)) h in
    other_scalar bs (with_name b.name (Some (word_sort_of b.kind)) names) x p.1 ∙ where_false (same_name b.name x) (Some (word_sort_of b.kind)) (names x) (other_name x b.name p.0)

all_in : (bs : List Binder) (names : Name → Option Scalar) → are_distinct (names_of bs) ≡ true → AreIn (scalars_among bs names) bs
all_in [] names h = tt
all_in (b ∷ bs) names h =
    let p = and_parts (not (is_among b.name (names_of bs))) (are_distinct (names_of bs)) h in
    let more = with_name b.name (Some (word_sort_of b.kind)) names in
    (other_scalar bs more b.name (not-true (is_among b.name (names_of bs)) p.0) ∙ where_true (same_name b.name b.name) (Some (word_sort_of b.kind)) (names b.name) (same_name-refl b.name), all_in bs more p.1)

variables_known : (t : Target) (level : Level) (names : Name → Option Scalar) (vs : List C.Variable) → AreIn names (variables t level vs) → (x : Name) (u : CType) → variable_type vs x ≡ Some u → names x ≡ Some (WordSort (scalar_width t u))
variables_known t level names [] h x u e = absurd (none_some e)
variables_known t level names (v ∷ vs) h x u e =
    by_cases (names x ≡ Some (WordSort (scalar_width t u))) (same_name v.name x)
    (λ b. ap names (sym (name_is v.name x b)) ∙ h.0 ∙ ap Some (kind_word t level v.type) ∙ ap (λ w. Some (WordSort (scalar_width t w))) (some_is (sym (where_true (same_name v.name x) (Some v.type) (variable_type vs x) b) ∙ e)))
    (λ b. variables_known t level names vs h.1 x u (sym (where_false (same_name v.name x) (Some v.type) (variable_type vs x) b) ∙ e))

-- the kinds of locals

record HaveKinds (bs : List Binder) : Type 0 where
  pub kinds : are_kinds (kinds_of bs) ≡ true

kinds_append : {bs cs : List Binder} → HaveKinds bs → HaveKinds cs → HaveKinds (bs ++ cs)
kinds_append {bs = []} h k = k
kinds_append {bs = b ∷ bs} h k =
    let p = and_parts (is_kind b.kind) (are_kinds (kinds_of bs)) h.kinds in record { kinds = and_from _ _ p.0 (kinds_append {bs = bs} (record { kinds = p.1 }) k).kinds }

no_kinds : HaveKinds []
no_kinds = record { kinds = refl }

pub type_kind : (t : Target) (level : Level) (u : CType) → is_kind (kind_at t level u) ≡ true
type_kind t Bytes u = width_is (scalar_width t u) (scalar_wide t u)
type_kind t Words u = width_is (scalar_width t u) (scalar_wide t u)
type_kind t Numbers (Integer i) =
    let w = width_is (width_of t i) (scalar_wide t (Integer i)) in by_test (λ k. is_kind k ≡ true) (is_signed i) (IntKind (width_of t i)) (NatKind (width_of t i)) (λ b. w) (λ b. w)
type_kind t Numbers Void = width_is (scalar_width t Void) (scalar_wide t Void)
type_kind t Numbers (Ptr u) = width_is (scalar_width t (Ptr u)) (scalar_wide t (Ptr u))
type_kind t Numbers (Struct x) = width_is (scalar_width t (Struct x)) (scalar_wide t (Struct x))
type_kind t Numbers (Array u n) = width_is (scalar_width t (Array u n)) (scalar_wide t (Array u n))

module _ (t : Target) (level : Level) where
  one_kind : (x : Name) (u : CType) → HaveKinds (binder x (kind_at t level u) ∷ [])
  one_kind x u = record { kinds = and_from _ _ (type_kind t level u) refl }

  variable_kinds : (vs : List C.Variable) → HaveKinds (variables t level vs)
  variable_kinds [] = no_kinds
  variable_kinds (v ∷ vs) = record { kinds = and_from _ _ (type_kind t level v.type) (variable_kinds vs).kinds }

  result_kinds : (r : Option CType) → HaveKinds (result_binder t level r)
  result_kinds None = no_kinds
  result_kinds (Some u) = one_kind result_local u

  use_kinds : (n : ℕ) (u : C.Use) → HaveKinds (use_binder t level n u)
  use_kinds n C.NoResult = no_kinds
  use_kinds n (C.Ignored from) = one_kind (call_local n) from
  use_kinds n (C.Assigned from d) = one_kind (call_local n) from
  use_kinds n (C.Returned from to) = one_kind (call_local n) from

  record AddedKinds (a : Added) : Type 0 where
    pub calls : HaveKinds a.calls
    pub switches : HaveKinds a.switches
    pub firsts : HaveKinds a.firsts

  none_kinds : AddedKinds none_added
  none_kinds = record { calls = no_kinds; switches = no_kinds; firsts = no_kinds }

  both_kinds : {a b : Added} → AddedKinds a → AddedKinds b → AddedKinds (both_added a b)
  both_kinds h k = record {
    calls = kinds_append h.calls k.calls;
    switches = kinds_append h.switches k.switches;
    firsts = kinds_append h.firsts k.firsts;
  }

  mutual
    added_kinds : (s : C.Statement) → AddedKinds (added t level s)
    added_kinds C.Empty = none_kinds
    added_kinds (C.Block ss) = added_in_kinds ss
    added_kinds (C.Declare y u) = none_kinds
    added_kinds (C.Assign d e) = none_kinds
    added_kinds (C.Call n f es u) = record { calls = use_kinds n u; switches = no_kinds; firsts = no_kinds }
    added_kinds (C.If e a b) = both_kinds (added_kinds a) (added_kinds b)
    added_kinds (C.While e a) = added_kinds a
    added_kinds (C.DoWhile k a e) = both_kinds {a = record { calls = []; switches = []; firsts = binder (first_local k) BoolKind ∷ [] }} (record { calls = no_kinds; switches = no_kinds; firsts = record { kinds = refl } }) (added_kinds a)
    added_kinds (C.For init test step a) = both_kinds (added_in_kinds init) (both_kinds (added_kinds step) (added_kinds a))
    added_kinds (C.Switch n i e gs) =
        both_kinds {a = record { calls = []; switches = binder (switch_local n) (kind_at t level (Integer i)) ∷ []; firsts = [] }} (record { calls = no_kinds; switches = one_kind (switch_local n) (Integer i); firsts = no_kinds }) (added_of_kinds gs)
    added_kinds C.Break = none_kinds
    added_kinds C.Continue = none_kinds
    added_kinds C.ReturnNothing = none_kinds
    added_kinds (C.Return e) = none_kinds

    added_in_kinds : (ss : C.Statements) → AddedKinds (added_in t level ss)
    added_in_kinds C.no_statements = none_kinds
    added_in_kinds (C.next s ss) = both_kinds (added_kinds s) (added_in_kinds ss)

    added_of_kinds : (gs : C.Groups) → AddedKinds (added_of t level gs)
    added_of_kinds C.no_groups = none_kinds
    added_of_kinds (C.group labels d ss gs) = both_kinds (added_in_kinds ss) (added_of_kinds gs)

  locals_kinds : (f : C.TypedFn) → HaveKinds (locals t level f)
  locals_kinds f =
      let a = added_in_kinds f.body in
      kinds_append (kinds_append (kinds_append (kinds_append (kinds_append (kinds_append (kinds_append (variable_kinds f.params) (variable_kinds f.locals)) (result_kinds f.result)) (record { kinds = refl })) a.calls) a.switches) a.firsts)
      (record { kinds = refl })

-- signatures

same_kind-refl : (k : Kind) → same_kind k k ≡ true
same_kind-refl (WordKind n) = eq-eqb n n refl
same_kind-refl (NatKind n) = eq-eqb n n refl
same_kind-refl (IntKind n) = eq-eqb n n refl
same_kind-refl BoolKind = refl

first_come : (bs cs : List Binder) → come_first bs (bs ++ cs) ≡ true
first_come [] cs = refl
first_come (b ∷ bs) cs = and_from _ _ (and_from _ _ (same_name-refl b.name) (same_kind-refl b.kind)) (first_come bs cs)

kind_behind : (x : Name) (bs cs : List Binder) → is_among x (names_of bs) ≡ false → kind_of (bs ++ cs) x ≡ kind_of cs x
kind_behind x [] cs h = refl
kind_behind x (b ∷ bs) cs h =
    let p = or_parts (same_name x b.name) (is_among x (names_of bs)) h in where_false (same_name b.name x) (Some b.kind) (kind_of (bs ++ cs) x) (other_name x b.name p.0) ∙ kind_behind x bs cs p.1

module _ (t : Target) (level : Level) where
  not_own : (x : Name) (vs : List C.Variable) → is_own_name x ≡ false → are_variables vs ≡ true → is_among x (names_of (variables t level vs)) ≡ false
  not_own x [] e h = refl
  not_own x (v ∷ vs) e h =
      let p = all_of_three (is_scalar v.type) (is_own_name v.name) (are_variables vs) h in or_from _ _ (apart x v.name e p.1) (not_own x vs e p.2)

  -- the local that holds the result comes behind those of the text
  held_behind : (r : Option CType) (ps ls xs cs ss fs ts : List Binder) → is_among result_local (names_of ps) ≡ false → is_among result_local (names_of ls) ≡ false →
      holds_result (result_kind t level r) (ps ++ (ls ++ (result_binder t level r ++ xs ++ cs ++ ss ++ fs ++ ts))) ≡ true
  held_behind None ps ls xs cs ss fs ts h k = refl
  held_behind (Some u) ps ls xs cs ss fs ts h k =
      let rest = result_binder t level (Some u) ++ xs ++ cs ++ ss ++ fs ++ ts in
      ap (is_kind_of (kind_at t level u)) (kind_behind result_local ps (ls ++ rest) h ∙ kind_behind result_local ls rest k) ∙ same_kind-refl (kind_at t level u)

  result_held : (f : C.TypedFn) → are_variables (f.params ++ f.locals) ≡ true → holds_result (result_kind t level f.result) (locals t level f) ≡ true
  result_held f h =
      let v = variables_apart f.params f.locals h in
      let a = added_in t level f.body in
      ap (holds_result (result_kind t level f.result)) (locals_are t level f)
      ∙ held_behind f.result (variables t level f.params) (variables t level f.locals) (binder exception_local (WordKind 32) ∷ []) a.calls a.switches a.firsts (binder thrown_local BoolKind ∷ [])
      (not_own result_local f.params refl v.0) (not_own result_local f.locals refl v.1)

-- a function of the unit
module _ (u : C.TypedUnit) (w : IsWellTyped u) (levels : Name → Level) where
  abbrev t : Target
  t = u.layout.target

  abbrev sigs : List Signature
  sigs = (generated u levels).signatures

  module _ (f : C.TypedFn) (typed : is_function u f ≡ true) (numbers : are_numbers (numbers_in f.body) ≡ true) where
    abbrev level : Level
    level = levels f.name

    abbrev names : Name → Option Scalar
    names = scalars_among (locals u.layout.target (levels f.name) f) (λ x. None)

    parts : (are_variables (f.params ++ f.locals) ≡ true) × (are_distinct (C.variable_names (f.params ++ f.locals)) ≡ true) × (is_result f.result ≡ true) × (are_statements (scope_in u f) nowhere f.body ≡ true)
    parts = all_of_four (are_variables (f.params ++ f.locals)) (are_distinct (C.variable_names (f.params ++ f.locals))) (is_result f.result) (are_statements (scope_in u f) nowhere f.body) typed

    distinct : are_distinct (names_of (locals u.layout.target (levels f.name) f)) ≡ true
    distinct = locals_distinct t level f parts.0 parts.1 numbers

    abbrev a : Added
    a = added_in u.layout.target (levels f.name) f.body

    abbrev declared : List Binder
    declared = variables u.layout.target (levels f.name) f.params ++ variables u.layout.target (levels f.name) f.locals

    abbrev jumps : List Binder
    jumps = declared ++ result_binder u.layout.target (levels f.name) f.result ++ binder exception_local (WordKind 32) ∷ []

    in_scope : AreIn names jumps × HasAdded names a
    in_scope =
        let all = all_in (locals t level f) (λ x. None) distinct in
        let p6 = in_parts names (jumps ++ a.calls ++ a.switches ++ a.firsts) (binder thrown_local BoolKind ∷ []) all in
        let p5 = in_parts names (jumps ++ a.calls ++ a.switches) a.firsts p6.0 in
        let p4 = in_parts names (jumps ++ a.calls) a.switches p5.0 in
        let p3 = in_parts names jumps a.calls p4.0 in
        (p3.0, record { calls = p3.1; switches = p4.1; firsts = p5.1 })

    result_in : (r : Option CType) → AreIn names (result_binder u.layout.target (levels f.name) r) → (v : CType) → r ≡ Some v → names result_local ≡ Some (WordSort (scalar_width u.layout.target v))
    result_in None h v e = absurd (none_some e)
    result_in (Some x) h v e = h.0 ∙ ap Some (kind_word t level x) ∙ ap (λ y. Some (WordSort (scalar_width t y))) (some_is e)

    body : IsBody (scope_in u f) names sigs levels
    body =
        let p2 = in_parts names (declared ++ result_binder t level f.result) (binder exception_local (WordKind 32) ∷ []) in_scope.0 in
        let p1 = in_parts names declared (result_binder t level f.result) p2.0 in
        record {
          scope = record {
            layout = w.layout;
            globals = w.globals;
            own = parts.0;
            known = variables_known t level names (f.params ++ f.locals) (subst (λ bs. AreIn names bs) (sym (variables_append t level f.params f.locals)) p1.0);
          };
          signed = λ x k e. signature_found u.layout levels x k u.functions e;
          parameters = λ x k e. (variables_apart k.params k.locals (all_of_four (are_variables (k.params ++ k.locals)) _ _ _ (function_typed u.layout levels x k u u.functions w.functions e)).0).0;
          results = parts.2;
          result = result_in f.result p1.1;
          exception = p2.1.0;
        }

    body_is_sorted : IsSorted (record { layout = u.layout; names = names; globals = global_type u.globals }) sigs (function_of u.layout (levels f.name) f).body
    body_is_sorted = whole_sorted (scope_in u f) names sigs levels level body f.result _ (commands_sorted (scope_in u f) names sigs levels level body nowhere f.body parts.3 in_scope.1)

  functions_sorted : (fs : List C.TypedFn) → are_functions u fs ≡ true → are_numbered fs ≡ true → are_fns_sorted (generated u levels) (map (λ f. function_of u.layout (levels f.name) f) fs) ≡ true
  functions_sorted [] h n = refl
  functions_sorted (f ∷ fs) h n =
      let p = and_parts (is_function u f) (are_functions u fs) h in
      let q = and_parts (are_numbers (numbers_in f.body)) (are_numbered fs) n in
      and_from _ _ (and_from _ _ (and_from _ _ (locals_kinds t (levels f.name) f).kinds (distinct f p.0 q.0)) (body_is_sorted f p.0 q.0).sorted) (functions_sorted fs p.1 q.1)

  functions_signed : (fs : List C.TypedFn) → are_functions u fs ≡ true → are_signed (map (λ f. function_of u.layout (levels f.name) f) fs) (map (λ f. signature_of u.layout (levels f.name) f) fs) ≡ true
  functions_signed [] h = refl
  functions_signed (f ∷ fs) h =
      let p = and_parts (is_function u f) (are_functions u fs) h in
      let own = all_of_four (are_variables (f.params ++ f.locals)) _ _ _ p.0 in
      let params = variables t (levels f.name) f.params in
      let come : come_first params (locals t (levels f.name) f) ≡ true = ap (come_first params) (locals_are t (levels f.name) f) ∙ first_come params _ in
      and_from _ _ (and_from _ _ (and_from _ _ (and_from _ _ (same_name-refl f.name) (same_level-refl (levels f.name))) come) (result_held t (levels f.name) f own.0)) (functions_signed fs p.1)

  names_kept : (fs : List C.TypedFn) → map (λ f. f.name) (map (λ f. function_of u.layout (levels f.name) f) fs) ≡ map (λ f. f.name) fs
  names_kept [] = refl
  names_kept (f ∷ fs) = ap (λ xs. f.name ∷ xs) (names_kept fs)

  pub generated_is_well_formed : IsWellFormed (generated u levels)
  generated_is_well_formed = record {
    layout = w.layout;
    globals = w.global_names;
    names = ap are_distinct (names_kept u.functions) ∙ w.names;
    signatures = functions_signed u.functions w.functions;
    functions = functions_sorted u.functions w.functions w.numbers;
  }
