-- The functions of a generated unit have the flag as a local and leave it alone.
use Rattle.std.proofs.Common.{◌≡◌, ℕ, true, false, List, [], ◌∷◌, ◌++◌, map, Option, Some, None, refl, ◌∙◌}
use Rattle.std.proofs.lemmas.Bool.{and_parts, or_from, cond-false}
use Rattle.c_values.specs.Name.{Name, same_name, is_among, are_distinct}
use Rattle.c_values.specs.Types.{Target, CType, Integer}
use Rattle.c_values.proofs.Laid.{other_name}
use Rattle.expression_lang.specs.Sort.{Level, Kind, WordKind, BoolKind}
use Rattle.expression_lang.specs.Signature.{Binder, binder, kind_at, names_of}
use Rattle.simpl_lang.specs.Command.{kind_of}
use Rattle.simpl_lang.specs.Flag.{thrown_local, LeavesFlag, AllLeaveFlag, NoneTakesFlag, HasUnusedFlag}
use Rattle.c_lang.specs.Typed as C
use Rattle.c_lang.specs.WellTyped.{IsWellTyped, scope_in, are_variables, is_own_name, is_function, are_functions, is_result, are_statements, nowhere}
use Rattle.c_meaning.specs.Kinds.{variables}
use Rattle.generation.specs.Generate.{exception_local, switch_local, first_local, result_binder, use_binder, Added, none_added, both_added, added, added_in, added_of, function_of, signature_of, generated}
use Rattle.generation.proofs.ExactTests.{all_of_four}
use Rattle.generation.proofs.ExactMachines.{declared_scalar, apart}
use Rattle.generation.proofs.UnitParts.{variables_apart}
use Rattle.generation.proofs.UnnamedCommands.{commands_leave, whole_leaves}

-- none of the locals is the flag
abbrev OthersAlone : List Binder → Type 0
OthersAlone [] = Unit {0}
OthersAlone (b ∷ bs) = (same_name b.name thrown_local ≡ false) × OthersAlone bs

others_append : (bs cs : List Binder) → OthersAlone bs → OthersAlone cs → OthersAlone (bs ++ cs)
others_append [] cs h k = k
others_append (b ∷ bs) cs h k = (h.0, others_append bs cs h.1 k)

behind_others : (bs cs : List Binder) → OthersAlone bs → kind_of (bs ++ cs) thrown_local ≡ kind_of cs thrown_local
behind_others [] cs h = refl
behind_others (b ∷ bs) cs h = cond-false (same_name b.name thrown_local) (Some b.kind) (kind_of (bs ++ cs) thrown_local) h.0 ∙ behind_others bs cs h.1

not_the_flag : (y : Name) → is_own_name y ≡ true → same_name thrown_local y ≡ false
not_the_flag y h = apart thrown_local y refl h

variables_others : (t : Target) (level : Level) (vs : List C.Variable) → are_variables vs ≡ true → OthersAlone (variables t level vs)
variables_others t level [] h = tt
variables_others t level (v ∷ vs) h =
    let p = and_parts _ _ h in (other_name thrown_local v.name (not_the_flag v.name (and_parts _ _ p.0).1), variables_others t level vs p.1)

result_others : (t : Target) (level : Level) (r : Option CType) → OthersAlone (result_binder t level r)
result_others t level None = tt
result_others t level (Some u) = (refl, tt)

use_others : (t : Target) (level : Level) (n : ℕ) (u : C.Use) → OthersAlone (use_binder t level n u)
use_others t level n C.NoResult = tt
use_others _ _ _ _ = (refl, tt)

record AddedOthers (a : Added) : Type 0 where
  pub calls : OthersAlone a.calls
  pub switches : OthersAlone a.switches
  pub firsts : OthersAlone a.firsts

none_others : AddedOthers none_added
none_others = record { calls = tt; switches = tt; firsts = tt }

both_others : {a b : Added} → AddedOthers a → AddedOthers b → AddedOthers (both_added a b)
both_others {a} {b} h k = record {
  calls = others_append a.calls b.calls h.calls k.calls;
  switches = others_append a.switches b.switches h.switches k.switches;
  firsts = others_append a.firsts b.firsts h.firsts k.firsts;
}

first_others : (k : ℕ) → AddedOthers (record { calls = []; switches = []; firsts = binder (first_local k) BoolKind ∷ [] })
first_others k = record { calls = tt; switches = tt; firsts = (refl, tt) }

switch_others : (n : ℕ) (k : Kind) → AddedOthers (record { calls = []; switches = binder (switch_local n) k ∷ []; firsts = [] })
switch_others n k = record { calls = tt; switches = (refl, tt); firsts = tt }

module _ (t : Target) (level : Level) where
  mutual
    added_others : (s : C.Statement) → AddedOthers (added t level s)
    added_others C.Empty = none_others
    added_others (C.Block ss) = added_in_others ss
    added_others (C.Declare y u) = none_others
    added_others (C.Assign d e) = none_others
    added_others (C.Call n f es u) = record { calls = use_others t level n u; switches = tt; firsts = tt }
    added_others (C.If e a b) = both_others (added_others a) (added_others b)
    added_others (C.While e a) = added_others a
    added_others (C.DoWhile k a e) = both_others (first_others k) (added_others a)
    added_others (C.For init test step a) = both_others (added_in_others init) (both_others (added_others step) (added_others a))
    added_others (C.Switch n i e gs) = both_others (switch_others n (kind_at t level (Integer i))) (added_of_others gs)
    added_others C.Break = none_others
    added_others C.Continue = none_others
    added_others C.ReturnNothing = none_others
    added_others (C.Return e) = none_others

    added_in_others : (ss : C.Statements) → AddedOthers (added_in t level ss)
    added_in_others C.no_statements = none_others
    added_in_others (C.next s ss) = both_others (added_others s) (added_in_others ss)

    added_of_others : (gs : C.Groups) → AddedOthers (added_of t level gs)
    added_of_others C.no_groups = none_others
    added_of_others (C.group labels d ss gs) = both_others (added_in_others ss) (added_of_others gs)

no_flag_among : (t : Target) (level : Level) (vs : List C.Variable) → are_variables vs ≡ true → is_among thrown_local (names_of (variables t level vs)) ≡ false
no_flag_among t level [] h = refl
no_flag_among t level (v ∷ vs) h =
    let p = and_parts _ _ h in or_from _ _ (not_the_flag v.name (and_parts _ _ p.0).1) (no_flag_among t level vs p.1)

module _ (u : C.TypedUnit) (f : C.TypedFn) (h : is_function u f ≡ true) (level : Level) where
  parts : (are_variables (f.params ++ f.locals) ≡ true) × (are_distinct (C.variable_names (f.params ++ f.locals)) ≡ true) × (is_result f.result ≡ true) × (are_statements (scope_in u f) nowhere f.body ≡ true)
  parts = all_of_four (are_variables (f.params ++ f.locals)) (are_distinct (C.variable_names (f.params ++ f.locals))) (is_result f.result) (are_statements (scope_in u f) nowhere f.body) h

  function_leaves : LeavesFlag (function_of u.layout level f)
  function_leaves =
      let own = variables_apart f.params f.locals parts.0 in
      let t = u.layout.target in
      let a = added_in_others t level f.body in
      let e : Added = added_in t level f.body in
      record {
        is_truth =
            behind_others _ (binder thrown_local BoolKind ∷ [])
            (others_append _ e.firsts (others_append _ e.switches (others_append _ e.calls (others_append _ (binder exception_local (WordKind 32) ∷ []) (others_append _ (result_binder t level f.result)
            (others_append (variables t level f.params) (variables t level f.locals) (variables_others t level f.params own.0) (variables_others t level f.locals own.1))
            (result_others t level f.result)) (refl, tt)) a.calls) a.switches) a.firsts);
        unnamed =
            (whole_leaves f.result _ (commands_leave (scope_in u f) u.layout level (λ y t' e'. not_the_flag y (declared_scalar (f.params ++ f.locals) parts.0 y t' e').0) nowhere f.body parts.3)).unnamed;
      }

module _ (u : C.TypedUnit) (levels : Name → Level) where
  all_leave : (fs : List C.TypedFn) → are_functions u fs ≡ true → AllLeaveFlag (map (λ f. function_of u.layout (levels f.name) f) fs)
  all_leave [] h = tt
  all_leave (f ∷ fs) h = let p = and_parts _ _ h in (function_leaves u f p.0 (levels f.name), all_leave fs p.1)

  none_takes : (fs : List C.TypedFn) → are_functions u fs ≡ true → NoneTakesFlag (map (λ f. signature_of u.layout (levels f.name) f) fs)
  none_takes [] h = tt
  none_takes (f ∷ fs) h =
      let p = and_parts _ _ h in
      let own = all_of_four (are_variables (f.params ++ f.locals)) _ _ _ p.0 in
      (no_flag_among u.layout.target (levels f.name) f.params (variables_apart f.params f.locals own.0).0, none_takes fs p.1)

  pub generated_leaves_the_flag : IsWellTyped u → HasUnusedFlag (generated u levels)
  generated_leaves_the_flag w = record { functions = all_leave u.functions w.functions; signatures = none_takes u.functions w.functions }
