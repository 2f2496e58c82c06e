-- Whole texts: what is typed for them has names and types with texts.
use Rattle.std.proofs.Common.{◌≡◌, ℕ, ◌+◌, ◌==◌, Bool, true, false, not, cond, ◌&&◌, ◌||◌, List, [], ◌∷◌, ◌++◌, map, length, Option, Some, None, is_some, is_none, option_map, codes, decimal, ℤ, refl, sym, subst}
use Rattle.std.specs.Option.{option_map_or}
use Rattle.std.proofs.lemmas.Bool.{and_from}
use Rattle.c_grammar.specs.Tree as tree
use Rattle.c_values.specs.Name.{Name, same_name, with_name}
use Rattle.c_values.specs.Types.{Target, CType, Void, Array}
use Rattle.c_values.specs.Layout.{Layout, is_scalar}
use Rattle.expression_text.specs.Names.{is_name}
use Rattle.expression_text.specs.TypeText.{is_type}
use Rattle.expression_text.specs.Lists.{each}
use Rattle.unit_names.specs.HasNames.{HasNames, has_name, function_has_names, global_has_name, statements_have_types}
use Rattle.unit_names.proofs.NumberedNames.{decimal_goes_on, longer_name}
use Rattle.typing_rules.specs.declared.fault.TypeKind.{TypeKind}
use Rattle.typing_rules.specs.File.{GlobalSoFar, global_named}
use Rattle.typing_rules.specs.Progress.{numbered, at_start}
use Rattle.typing_rules.specs.Scope.{Scope, Global, Function, Local, declare, entity, is_declared_here}
use Rattle.typing_rules.specs.Checked.{Checked, Good, Bad, rule, changed, after, in_block}
use Rattle.typing_rules.specs.Constant.{constant_value}
use Rattle.typing_rules.specs.Declarations.{Base, Declared, pointers, is_incomplete, has_incomplete_elements, points_to_array, is_large}
use Rattle.typing_rules.specs.Expressions.{base, declarator, dimensions, value, first, constant_of, note}
use Rattle.typing_rules.specs.Statements.{items, listed}
use Rattle.typing_rules.specs.Functions.{Parameter, Written, adjusted, is_declared, parameter_rule, add_parameter, bracketed, parameter_start, parameter, parameters, types, result_type, agrees, is_result, function_rule, body_rule, add_function, add_body, variables, add_parameters, enter, around_body, body, finished, fresh, function}
use Rattle.typing_rules.specs.Globals.{has_type, is_defined, global_rule, declared_global, put_global, add_global, initial_rule, with_initial, set_initial, constant_expression, initialised, uninitialised, global, prototype, typedef_rule, add_typedef, typedef, prototype_parameters, declaration_of, top, tops, declaration}
use Rattle.typing_rules.specs.Unit.{external, externals, at_beginning, global_var, unit_in, whole, IsTyped}
use Rattle.c_lang.specs.Cast.{has_cast}
use Rattle.c_lang.specs.Typed as C
use Rattle.typing_laws.specs.Written as W
use Rattle.typing_laws.proofs.Tests.{none_some, some_same, left, right}
use Rattle.typing_laws.proofs.Variables.{AreNumbered}
use Rattle.typing_laws.proofs.NamedFunctions.{IsNamed, functions_named}
use Rattle.typing_laws.proofs.Rulings.{Rules, ruled, refused, refused_or}
use Rattle.typing_laws.proofs.Outcomes.{Gives, gives, fails}
use Rattle.named_texts.proofs.Types.{c_name, IsType, AreTypes, WhereType, pointers_are, arrays_are}
use Rattle.named_texts.proofs.Scopes.{IsTextual, AreGlobals, more_globals, declare_is, Keeps, keeps_then, keeps_pure, keeps_rule, keeps_changed, keeps_after, keeps_block}
use Rattle.named_texts.proofs.Declarations.{DeclaredIs, BaseIs}
use Rattle.named_texts.proofs.Trees.{Anything, any_rule, dimensions_kept, declarator_kept, base_kept, value_kept}
use Rattle.named_texts.proofs.Statements.{listed_are, items_kept}

-- parameters

abbrev ParameterIs : Parameter → Type 0
ParameterIs p = IsType p.type

abbrev AreParameters : List Parameter → Type 0
AreParameters [] = Unit {0}
AreParameters (p ∷ ps) = ParameterIs p × AreParameters ps

adjusted_is : (t : CType) → IsType t → IsType (adjusted t)
adjusted_is (Array t n) h = left (is_type t) _ h
adjusted_is _ h = h

parameter_is : (w : Written) (s : Scope) → IsType w.type → Rules ParameterIs (parameter_rule w s)
parameter_is w s h =
    refused_or (is_declared s w.name) _ _ (λ a. refused_or (is_incomplete s.layout w.type) _ _ (λ b.
    refused_or (points_to_array (adjusted w.type) || not (is_scalar (adjusted w.type)) || w.has_body && is_none w.name) _ _ (λ c. refused_or (is_large s.layout w.type) _ _ (λ d.
    ruled (adjusted_is w.type h)))))

add_parameter_is : (p : Parameter) (s : Scope) → ParameterIs p → IsTextual s → IsTextual (add_parameter p s)
add_parameter_is p s h k = by_name p.name
  where
    by_name : (o : Option Name) → IsTextual (option_map_or (λ x. declare x (Local x p.type) s) o s)
    by_name None = k
    by_name (Some x) = declare_is x (Local x p.type) s h k

add_parameters_are : (ps : List Parameter) (s : Scope) → AreParameters ps → IsTextual s → IsTextual (add_parameters ps s)
add_parameters_are [] s h k = k
add_parameters_are (p ∷ ps) s h k = add_parameters_are ps (add_parameter p s) h.1 (add_parameter_is p s h.0 k)

bracketed_kept : (t : CType) (b : tree.Bracket) → W.IsBracket b → IsType t → Keeps IsType (bracketed t b)
bracketed_kept t tree.NoBracket i h = keeps_pure t h
bracketed_kept t (tree.OpenBracket at) i h = keeps_pure (Array t 1) (and_from _ _ h refl)
bracketed_kept t (tree.SizedBracket at e) i h =
    keeps_then (dimensions [] (tree.MoreDimensions e tree.NoDimensions)) _ (dimensions_kept [] (tree.MoreDimensions e tree.NoDimensions) (i, tt) tt) (λ ns k. keeps_pure _ (arrays_are ns t k h))

parameter_kept : (has_body : Bool) (p : tree.Param) → W.IsParam p → Keeps ParameterIs (parameter has_body p)
parameter_kept has_body (tree.Parameter ws stars x b) i =
    keeps_then (base ws) _ (base_kept ws i.0) (λ b' k.
    keeps_then (bracketed (pointers (length stars) b'.type) b) _ (bracketed_kept (pointers (length stars) b'.type) b i.2 (pointers_are (length stars) b'.type k)) (λ t m.
    keeps_then (rule (parameter_start ws stars x b) (parameter_rule (record { has_body = has_body; name = option_map (λ n. n.1) x; type = t }))) _
    (keeps_rule {T = ParameterIs} (parameter_start ws stars x b) _ (λ s w. parameter_is (record { has_body = has_body; name = option_map (λ n. n.1) x; type = t }) s m)) (λ p n.
    keeps_changed (add_parameter p) p (λ s w. add_parameter_is p s n w) n)))

parameters_kept : (has_body : Bool) (ps : List tree.Param) → W.Each W.IsParam ps → Keeps AreParameters (parameters has_body ps)
parameters_kept has_body [] i = keeps_pure [] tt
parameters_kept has_body (p ∷ ps) i =
    keeps_then (parameter has_body p) _ (parameter_kept has_body p i.0) (λ a k. keeps_then (parameters has_body ps) _ (parameters_kept has_body ps i.1) (λ as' m. keeps_pure (a ∷ as') (k, m)))

types_are : (ps : List Parameter) → AreParameters ps → AreTypes (types ps)
types_are [] h = tt
types_are (p ∷ ps) h = (h.0, types_are ps h.1)

-- functions

result_is : (t : CType) → IsType t → WhereType (result_type t)
result_is Void h = tt
result_is _ h = h

function_rule_is : (d : Declared) (ps : List Parameter) (s : Scope) → DeclaredIs d → Rules WhereType (function_rule d ps s)
function_rule_is d ps s h =
    refused_or (is_some (s.typedefs d.name) || not (agrees (entity s.blocks d.name) (result_type d.type) (types ps))) _ _ (λ a.
    refused_or (has_incomplete_elements s.layout d.type) _ _ (λ b. refused_or (not (is_result d.type)) _ _ (λ c. ruled (result_is d.type h.1))))

body_rule_is : (d : Declared) (ps : List Parameter) (s : Scope) → DeclaredIs d → Rules WhereType (body_rule d ps s)
body_rule_is d ps s h = refused_or (s.file.with_body_so_far d.name) _ _ (λ a. function_rule_is d ps s h)

abbrev BodyIs : C.Statements → Type 0
BodyIs ss = statements_have_types ss ≡ true

body_kept : (r : Option CType) (ps : List Parameter) (is : tree.Items) → WhereType r → AreParameters ps → W.AreItems is → Keeps BodyIs (body r ps is)
body_kept r ps is h k i =
    keeps_then (in_block (after (enter ps) (items (around_body r) is))) _
    (keeps_block (after (enter ps) (items (around_body r) is)) (keeps_after (enter ps) (items (around_body r) is) (λ s w. add_parameters_are ps (record s { progress = at_start (C.variable_names (variables ps)) }) k w) (items_kept (around_body r) is h i)))
    (λ ss m. keeps_pure (listed ss) (listed_are ss m))

abbrev FunctionIs : C.TypedFn → Type 0
FunctionIs f = BodyIs f.body

finished_kept : (x : Name) (r : Option CType) (ps : List Parameter) (ss : C.Statements) → BodyIs ss → Keeps FunctionIs (finished x r ps ss)
finished_kept x r ps ss h s w = gives _ (w, h)

function_kept : (ws : tree.Words) (d : tree.Declarator) (ps : List tree.Param) (is : tree.Items) → W.IsExternal (tree.Function ws d ps is) → Keeps FunctionIs (function ws d ps is)
function_kept ws d ps is i =
    keeps_then (after fresh (base ws)) _ (keeps_after fresh (base ws) (λ s w. w) (base_kept ws i.0)) (λ b k.
    keeps_then (declarator b.type d) _ (declarator_kept b.type d i.1 k) (λ head m.
    keeps_then (in_block (parameters true ps)) _ (keeps_block (parameters true ps) (parameters_kept true ps i.2)) (λ qs n.
    keeps_then (rule head.at (body_rule head qs)) _ (keeps_rule {T = WhereType} head.at (body_rule head qs) (λ s w. body_rule_is head qs s m)) (λ r o.
    keeps_then (changed (λ s. add_body head.name (add_function head.name r (types qs) s)) r) _
    (keeps_changed {T = WhereType} (λ s. add_body head.name (add_function head.name r (types qs) s)) r
    (λ s w. let v = declare_is head.name (Function r (types qs)) s (types_are qs n) w in record { structs = v.structs; typedefs = v.typedefs; blocks = v.blocks; globals = v.globals }) o) (λ q p.
    keeps_then (body q qs is) _ (body_kept q qs is p n i.3) (λ ss v. finished_kept head.name q qs ss v))))))

-- globals and typedefs

global_rule_is : (is_extern : Bool) (d : Declared) (s : Scope) → DeclaredIs d → Rules IsType (global_rule is_extern d s)
global_rule_is is_extern d s h =
    refused_or (is_some (s.typedefs d.name) || not (has_type d.type (entity s.blocks d.name)) || not is_extern && is_defined (global_named s.file.globals d.name)) _ _ (λ a.
    refused_or (is_incomplete s.layout d.type) _ _ (λ b. refused_or (points_to_array d.type) _ _ (λ c. refused_or (is_large s.layout d.type) _ _ (λ e. ruled h.1))))

abbrev WhereGlobal : Option GlobalSoFar → Type 0
WhereGlobal None = Unit {0}
WhereGlobal (Some g) = is_name g.name ≡ true

global_is : (gs : List GlobalSoFar) (x : Name) → AreGlobals gs → WhereGlobal (global_named gs x)
global_is [] x h = tt
global_is (g ∷ gs) x h = by_cases (same_name g.name x) (global_is gs x h.1)
  where
    by_cases : (b : Bool) → WhereGlobal (global_named gs x) → WhereGlobal (cond b (Some g) (global_named gs x))
    by_cases true k = h.0
    by_cases false k = k

put_global_is : (g : GlobalSoFar) (s : Scope) → is_name g.name ≡ true → IsTextual s → IsTextual (put_global g s)
put_global_is g s h k = record { structs = k.structs; typedefs = k.typedefs; blocks = k.blocks; globals = more_globals g s.file.globals h k.globals }

declared_global_is : (is_extern : Bool) (x : Name) (t : CType) (o : Option GlobalSoFar) → is_name x ≡ true → WhereGlobal o → is_name (declared_global is_extern x t o).name ≡ true
declared_global_is is_extern x t None h k = h
declared_global_is is_extern x t (Some g) h k = k

add_global_is : (is_extern : Bool) (x : Name) (t : CType) (s : Scope) → is_name x ≡ true → IsType t → IsTextual s → IsTextual (add_global is_extern x t s)
add_global_is is_extern x t s n h k =
    let g = declared_global is_extern x t (global_named s.file.globals x) in
    declare_is x (Global t) (put_global g s) h (put_global_is g s (declared_global_is is_extern x t (global_named s.file.globals x) n (global_is s.file.globals x k.globals)) k)

with_initial_is : (n : ℤ) (o : Option GlobalSoFar) (s : Scope) → WhereGlobal o → IsTextual s → IsTextual (with_initial n o s)
with_initial_is n None s h k = k
with_initial_is n (Some g) s h k = put_global_is (record g { initial = Some n }) s h k

constant_kept : (e : tree.Exp) → W.IsExp e → Keeps Anything (constant_expression e)
constant_kept e i =
    keeps_then (value e) _ (value_kept e i) (λ a k.
    keeps_then (rule (first e) (λ s. constant_of a (constant_value s.layout a))) _ (keeps_rule {T = Anything} (first e) _ (λ s w. any_rule (constant_of a (constant_value s.layout a)))) (λ c m.
    keeps_changed (note (has_cast a)) a (λ s w. w) tt))

initialised_kept : (at : ℕ) (x : Name) (t : CType) (e : Option tree.Exp) → W.Where W.IsExp e → Keeps Anything (initialised at x t e)
initialised_kept at x t None i = keeps_pure tt tt
initialised_kept at x t (Some e) i =
    keeps_then (constant_expression e) _ (constant_kept e i) (λ a k.
    keeps_then (rule at (initial_rule x t a)) _ (keeps_rule {T = Anything} at (initial_rule x t a) (λ s w. any_rule (initial_rule x t a s))) (λ n m.
    keeps_changed (set_initial x n) tt (λ s w. with_initial_is n (global_named s.file.globals x) s (global_is s.file.globals x w.globals) w) tt))

uninitialised_kept : (at : ℕ) (e : Option tree.Exp) → W.Where W.IsExp e → Keeps Anything (uninitialised at e)
uninitialised_kept at None i = keeps_pure tt tt
uninitialised_kept at (Some e) i = keeps_then (value e) _ (value_kept e i) (λ a k. keeps_rule at _ (λ s w. refused))

global_kept : (is_extern : Bool) (d : Declared) (e : Option tree.Exp) → DeclaredIs d → W.Where W.IsExp e → Keeps Anything (global is_extern d e)
global_kept is_extern d e h i =
    keeps_then (rule d.at (global_rule is_extern d)) _ (keeps_rule {T = IsType} d.at (global_rule is_extern d) (λ s w. global_rule_is is_extern d s h)) (λ t k.
    keeps_then (changed (add_global is_extern d.name t) t) _ (keeps_changed {T = Anything} (add_global is_extern d.name t) t (λ s w. add_global_is is_extern d.name t s h.0 k w) tt) (λ u m.
    initialised_kept d.at d.name u e i))

prototype_kept : (d : Declared) (ps : List Parameter) (e : Option tree.Exp) → DeclaredIs d → AreParameters ps → W.Where W.IsExp e → Keeps Anything (prototype d ps e)
prototype_kept d ps e h k i =
    keeps_then (rule d.at (function_rule d ps)) _ (keeps_rule {T = Anything} d.at (function_rule d ps) (λ s w. any_rule (function_rule d ps s))) (λ r m.
    keeps_then (changed (add_function d.name r (types ps)) r) _ (keeps_changed {T = Anything} (add_function d.name r (types ps)) r (λ s w. declare_is d.name (Function r (types ps)) s (types_are ps k) w) tt) (λ q n.
    uninitialised_kept d.at e i))

typedef_rule_is : (of_function : Bool) (d : Declared) (s : Scope) → DeclaredIs d → Rules IsType (typedef_rule of_function d s)
typedef_rule_is of_function d s h =
    refused_or (is_some (s.typedefs d.name) || is_declared_here s.blocks d.name) _ _ (λ a. refused_or (has_incomplete_elements s.layout d.type) _ _ (λ b.
    refused_or (points_to_array d.type || of_function) _ _ (λ c. refused_or (is_large s.layout d.type) _ _ (λ e. ruled h.1))))

add_typedef_is : (x : Name) (t : CType) (s : Scope) → IsType t → IsTextual s → IsTextual (add_typedef x t s)
add_typedef_is x t s h k = record { structs = k.structs; typedefs = types_are'; blocks = k.blocks; globals = k.globals }
  where
    by_cases : (y : Name) (u : CType) (b : Bool) → cond b (Some t) (s.typedefs y) ≡ Some u → IsType u
    by_cases y u true c = subst (λ z. IsType z) (some_same c) h
    by_cases y u false c = k.typedefs y u c

    types_are' : (y : Name) (u : CType) → with_name x (Some t) s.typedefs y ≡ Some u → IsType u
    types_are' y u c = by_cases y u (same_name x y) c

typedef_kept : (d : Declared) (ps : Option (List Parameter)) (e : Option tree.Exp) → DeclaredIs d → W.Where W.IsExp e → Keeps Anything (typedef d ps e)
typedef_kept d ps e h i =
    keeps_then (rule d.at (typedef_rule (is_some ps) d)) _ (keeps_rule {T = IsType} d.at (typedef_rule (is_some ps) d) (λ s w. typedef_rule_is (is_some ps) d s h)) (λ t k.
    keeps_then (changed (add_typedef d.name t) t) _ (keeps_changed {T = Anything} (add_typedef d.name t) t (λ s w. add_typedef_is d.name t s k w) tt) (λ u m. uninitialised_kept d.at e i))

abbrev WhereParameters : Option (List Parameter) → Type 0
WhereParameters None = Unit {0}
WhereParameters (Some ps) = AreParameters ps

prototype_parameters_kept : (ps : Option (List tree.Param)) → W.Where (W.Each W.IsParam) ps → Keeps WhereParameters (prototype_parameters ps)
prototype_parameters_kept None i = keeps_pure None tt
prototype_parameters_kept (Some ps) i = keeps_then (in_block (parameters false ps)) _ (keeps_block (parameters false ps) (parameters_kept false ps i)) (λ qs k. keeps_pure (Some qs) k)

declaration_of_kept : (is_typedef : Bool) (b : Base) (d : Declared) (ps : Option (List Parameter)) (e : Option tree.Exp) → DeclaredIs d → WhereParameters ps → W.Where W.IsExp e →
    Keeps Anything (declaration_of is_typedef b d ps e)
declaration_of_kept true b d ps e h k i = typedef_kept d ps e h i
declaration_of_kept false b d None e h k i = global_kept b.is_extern d e h i
declaration_of_kept false b d (Some ps) e h k i = prototype_kept d ps e h k i

top_kept : (is_typedef : Bool) (b : Base) (t : tree.Top) → BaseIs b → W.IsTop t → Keeps Anything (top is_typedef b t)
top_kept is_typedef b (tree.Topmost d ps e) h i =
    keeps_then (declarator b.type d) _ (declarator_kept b.type d i.0 h) (λ head k.
    keeps_then (prototype_parameters ps) _ (prototype_parameters_kept ps i.1) (λ qs m. declaration_of_kept is_typedef b head qs e k m i.2))

tops_kept : (is_typedef : Bool) (b : Base) (ts : List tree.Top) → BaseIs b → W.Each W.IsTop ts → Keeps Anything (tops is_typedef b ts)
tops_kept is_typedef b [] h i = keeps_pure tt tt
tops_kept is_typedef b (t ∷ ts) h i = keeps_then (top is_typedef b t) _ (top_kept is_typedef b t h i.0) (λ u k. tops_kept is_typedef b ts h i.1)

declaration_kept : (is_typedef : Bool) (ws : tree.Words) (ts : List tree.Top) → W.AreWords ws → W.Each W.IsTop ts → Keeps Anything (declaration is_typedef ws ts)
declaration_kept is_typedef ws ts i j = keeps_then (base ws) _ (base_kept ws i) (λ b k. tops_kept is_typedef b ts k j)

-- texts

abbrev AreFunctions : List C.TypedFn → Type 0
AreFunctions [] = Unit {0}
AreFunctions (f ∷ fs) = FunctionIs f × AreFunctions fs

more_functions : (fs gs : List C.TypedFn) → AreFunctions fs → AreFunctions gs → AreFunctions (fs ++ gs)
more_functions [] gs h k = k
more_functions (f ∷ fs) gs h k = (h.0, more_functions fs gs h.1 k)

external_kept : (x : tree.External) → W.IsExternal x → Keeps AreFunctions (external x)
external_kept (tree.Function ws d ps is) i = keeps_then (function ws d ps is) _ (function_kept ws d ps is i) (λ f k. keeps_pure (f ∷ []) (k, tt))
external_kept (tree.Declaration at ws ts) i = keeps_then (declaration (is_some at) ws ts) _ (declaration_kept (is_some at) ws ts i.0 i.1) (λ u k. keeps_pure [] tt)

externals_kept : (xs : List tree.External) → W.Each W.IsExternal xs → Keeps AreFunctions (externals xs)
externals_kept [] i = keeps_pure [] tt
externals_kept (x ∷ xs) i = keeps_then (external x) _ (external_kept x i.0) (λ fs k. keeps_then (externals xs) _ (externals_kept xs i.1) (λ gs m. keeps_pure (fs ++ gs) (more_functions fs gs k m)))

beginning_is : (t : Target) (xs : List tree.External) → IsTextual (at_beginning t xs)
beginning_is t xs = record {
  structs = tt;
  typedefs = λ x u c. absurd (none_some c);
  blocks = (λ x e c. absurd (none_some c), tt);
  globals = tt;
}

-- names of variables

numbered_name : (x : Name) (k : ℕ) → W.IsName x → is_name (numbered x k) ≡ true
numbered_name x k h = by_cases (k == 0)
  where
    by_cases : (b : Bool) → is_name (cond b x (x ++ codes "$" ++ decimal (k + 1))) ≡ true
    by_cases true = c_name x h
    by_cases false = longer_name (x ++ codes "$") (decimal (k + 1)) (longer_name x (codes "$") (c_name x h) refl) (decimal_goes_on (k + 1))

numbered_are : (declared : List Name) (vs : List C.Variable) → AreNumbered declared vs → each has_name vs ≡ true
numbered_are declared [] h = refl
numbered_are declared (v ∷ vs) h =
    let w = h.0 in and_from _ _ (subst (λ x. is_name x ≡ true) (sym w.is) (numbered_name w.name w.number w.plain)) (numbered_are declared vs h.1)

apart : (vs ws : List C.Variable) → each has_name (vs ++ ws) ≡ true → (each has_name vs ≡ true) × (each has_name ws ≡ true)
apart [] ws h = (refl, h)
apart (v ∷ vs) ws h =
    let p = apart vs ws (right (is_name v.name) (each has_name (vs ++ ws)) h) in (and_from _ _ (left (is_name v.name) (each has_name (vs ++ ws)) h) p.0, p.1)

functions_are : (fs : List C.TypedFn) → W.Each IsNamed fs → AreFunctions fs → each function_has_names fs ≡ true
functions_are [] h k = refl
functions_are (f ∷ fs) h k =
    let n = h.0 in
    let p = apart f.params f.locals (numbered_are n.declared (f.params ++ f.locals) n.numbered) in
    and_from _ _ (and_from _ _ (and_from _ _ (and_from _ _ (c_name f.name n.name) p.0) p.1) k.0) (functions_are fs h.1 k.1)

globals_are : (l : Layout) (gs : List GlobalSoFar) → AreGlobals gs → each global_has_name (map (global_var l) gs) ≡ true
globals_are l [] h = refl
globals_are l (g ∷ gs) h = and_from _ _ h.0 (globals_are l gs h.1)

pub typed_units_have_names : (t : Target) (xs : List tree.External) (u : C.TypedUnit) → W.AreWritten xs → IsTyped t xs u → HasNames u
typed_units_have_names t xs u i e = by_outcome (externals xs (at_beginning t xs)) (externals_kept xs i.externals (at_beginning t xs) (beginning_is t xs)) e
  where
    never : (at : ℕ) (kind : TypeKind) → ◌≡◌ {A = Checked C.TypedUnit} (Bad at kind) (Good u) → ⊥
    never at kind k = cc

    same : (v : C.TypedUnit) → ◌≡◌ {A = Checked C.TypedUnit} (Good v) (Good u) → v ≡ u
    same v k = cc

    have_names : (v : C.TypedUnit) → AreFunctions v.functions → each global_has_name v.globals ≡ true → v ≡ u → HasNames u
    have_names v f g s = record {
      globals = subst (λ w. each global_has_name w.globals ≡ true) s g;
      functions = functions_are u.functions (functions_named t xs u i e) (subst (λ w. AreFunctions w.functions) s f);
    }

    by_outcome : (c : Checked (List C.TypedFn × Scope)) → Gives (λ fs z. IsTextual z × AreFunctions fs) c → whole c ≡ Good u → HasNames u
    by_outcome _ (gives p h) k = have_names (unit_in p.0 p.1) h.1 (globals_are p.1.layout p.1.file.globals h.0.globals) (same (unit_in p.0 p.1) k)
    by_outcome _ (fails {at} {kind}) k = absurd (never at kind k)
