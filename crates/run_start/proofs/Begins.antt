-- Where a run of a memory's function begins.
use Rattle.std.proofs.Common.{◌≡◌, ◌^◌, Bool, true, false, cond, ◌&&◌, List, [], ◌∷◌, ◌++◌, map, Some, refl, subst}
use Rattle.std.specs.Prelude.{nat_lt}
use Rattle.std.specs.Option.{option_map}
use Rattle.std.proofs.lemmas.Bool.{and_parts}
use Rattle.c_values.specs.Name.{Name, same_name, are_distinct}
use Rattle.c_values.specs.Types.{CType, Integer, Ptr}
use Rattle.c_values.specs.Value.{Value, Values, no_values, more}
use Rattle.c_values.specs.Layout.{Layout, shape_of, is_scalar}
use Rattle.c_values.specs.Path.{HasShape}
use Rattle.c_memory.specs.Tags.{AreTags}
use Rattle.expression_text.specs.Lists.{each}
use Rattle.expression_text.specs.Names.{is_name}
use Rattle.c_lang.specs.Typed.{Variable, TypedFn, TypedUnit, typed_fn, variable_names}
use Rattle.c_lang.specs.WellTyped.{IsWellTyped, is_function, are_functions, are_variables, is_own_name, is_result, are_statements, scope_in, nowhere}
use Rattle.c_meaning.specs.Fitting.{IsOfType, AreOfTypes}
use Rattle.exactness.specs.Exact.{IsBegin}
use Rattle.memory_text.specs.ValueText.{is_value, are_values, where_parts}
use Rattle.memory_text.specs.MemoryText.{Memory, parameter_shapes, is_call, after_run, is_tag, after_setting, are_chained, is_memory}
use Rattle.run_start.specs.Start.{as_words, all_as_words, listed, arguments_in, values_set, begin_of}
use Rattle.run_start.proofs.Shaped.{value_shaped}
use Rattle.run_start.proofs.Runs.{runs_of_bytes}
use Rattle.run_start.proofs.Settings.{AreShaped, values_shaped, typed_names}

-- what a memory of a unit is
pub record IsMemory (u : TypedUnit) (m : Memory) : Type 0 where
  pub call : is_call u m.function m.arguments ≡ true
  pub bytes : are_chained (after_run u.layout) 0 m.bytes ≡ true
  pub tags : each (is_tag u.layout) m.tags ≡ true
  pub globals : are_chained (after_setting u.layout) u.globals m.globals ≡ true

pub memory_parts : (u : TypedUnit) (m : Memory) → is_memory u m ≡ true → IsMemory u m
memory_parts u m h =
    let call = is_call u m.function m.arguments in
    let numbers = nat_lt m.turns (2 ^ 128) && nat_lt m.fill (2 ^ 64) in
    let bytes = are_chained (after_run u.layout) 0 m.bytes in
    let tags = each (is_tag u.layout) m.tags in
    let globals = are_chained (after_setting u.layout) u.globals m.globals in
    let p = and_parts (call && numbers) (bytes && (tags && globals)) h in
    let q = and_parts call numbers p.0 in
    let r = and_parts bytes (tags && globals) p.1 in
    let s = and_parts tags globals r.1 in
    record { call = q.0; bytes = r.0; tags = s.0; globals = s.1 }

-- a scalar's value is a word of its type
scalar_typed : (l : Layout) (t : CType) (v : Value) → is_scalar t ≡ true → HasShape (shape_of l t) v → IsOfType l t v
scalar_typed l (Integer i) v is h = h
scalar_typed l (Ptr t) v is h = h
scalar_typed l _ v is h = absurd cc

words_typed : (l : Layout) (xs : List Variable) (vs : Values) → are_variables xs ≡ true → are_values l.target (map (λ (v : Variable). shape_of l v.type) xs) vs ≡ true →
    AreOfTypes l xs (listed (all_as_words (map (λ (v : Variable). shape_of l v.type) xs) vs))
words_typed l [] no_values are is = tt
words_typed l (x ∷ xs) (more v vs) are is =
    let p = and_parts (is_scalar x.type && is_own_name x.name) (are_variables xs) are in
    let q = and_parts (is_scalar x.type) (is_own_name x.name) p.0 in
    let r = and_parts (is_value l.target (shape_of l x.type) v) (are_values l.target (map (λ (v : Variable). shape_of l v.type) xs) vs) is in
    (scalar_typed l x.type (as_words (shape_of l x.type) v) q.0 (value_shaped l.target (shape_of l x.type) v r.0), words_typed l xs vs p.1 r.1)
words_typed l [] (more v vs) are is = absurd cc
words_typed l (x ∷ xs) no_values are is = absurd cc

front_variables : (xs ys : List Variable) → are_variables (xs ++ ys) ≡ true → are_variables xs ≡ true
front_variables [] ys h = refl
front_variables (x ∷ xs) ys h =
    let scalar = is_scalar x.type && is_own_name x.name in
    by scalar (are_variables (xs ++ ys)) h (front_variables xs ys)
  where
    by : (a b : Bool) → (a && b) ≡ true → (b ≡ true → are_variables xs ≡ true) → (a && are_variables xs) ≡ true
    by true b k rest = rest k
    by false b k rest = absurd cc

-- a function of a well-typed unit is one of its functions
function_there : (u : TypedUnit) (fs : List TypedFn) (x : Name) (f : TypedFn) → are_functions u fs ≡ true → typed_fn fs x ≡ Some f → is_function u f ≡ true
function_there u [] x f h e = absurd cc
function_there u (g ∷ gs) x f h e =
    let p = and_parts (is_function u g) (are_functions u gs) h in
    by (same_name g.name x) p.0 (function_there u gs x f p.1) e
  where
    by : (b : Bool) → is_function u g ≡ true → (typed_fn gs x ≡ Some f → is_function u f ≡ true) → cond b (Some g) (typed_fn gs x) ≡ Some f → is_function u f ≡ true
    by true here others k = let same : g ≡ f = cc in subst (λ z. is_function u z ≡ true) same here
    by false here others k = others k

parameters_are : (u : TypedUnit) (f : TypedFn) → is_function u f ≡ true → are_variables f.params ≡ true
parameters_are u f h =
    let variables = are_variables (f.params ++ f.locals) in
    let distinct = are_distinct (variable_names (f.params ++ f.locals)) in
    let result = is_result f.result in
    let body = are_statements (scope_in u f) nowhere f.body in
    let p = and_parts (variables && distinct && result) body h in
    let q = and_parts (variables && distinct) result p.0 in
    let r = and_parts variables distinct q.0 in
    front_variables f.params f.locals r.0

call_values : (u : TypedUnit) (f : TypedFn) (x : Name) (vs : Values) → typed_fn u.functions x ≡ Some f → is_call u x vs ≡ true → are_values u.layout.target (parameter_shapes u.layout f) vs ≡ true
call_values u f x vs e h =
    let p = and_parts (is_name x) (where_parts (option_map (parameter_shapes u.layout) (typed_fn u.functions x)) (λ ss. are_values u.layout.target ss vs)) h in
    subst (λ o. where_parts (option_map (parameter_shapes u.layout) o) (λ ss. are_values u.layout.target ss vs) ≡ true) e p.1

pub arguments_typed : (u : TypedUnit) (f : TypedFn) (m : Memory) → IsWellTyped u → typed_fn u.functions m.function ≡ Some f → is_memory u m ≡ true → AreOfTypes u.layout f.params (arguments_in u.layout f m)
arguments_typed u f m typed there is =
    words_typed u.layout f.params m.arguments (parameters_are u f (function_there u u.functions m.function f typed.functions there))
    (call_values u f m.function m.arguments there (memory_parts u m is).call)

pub globals_shaped : (u : TypedUnit) (m : Memory) → IsWellTyped u → is_memory u m ≡ true → AreShaped u.layout u.globals (values_set u.layout u.globals m.globals)
globals_shaped u m typed is = values_shaped u.layout u.globals m.globals typed.initials (memory_parts u m is).globals

pub begins : (u : TypedUnit) (f : TypedFn) (m : Memory) → IsWellTyped u → typed_fn u.functions m.function ≡ Some f → is_memory u m ≡ true → AreTags u.layout m.tags → IsBegin u f (begin_of u f m)
begins u f m typed there is tags = record {
  tagged = record { bytes = runs_of_bytes u.layout 0 m.bytes (memory_parts u m is).bytes; tags = tags };
  globals = typed_names u.layout u.globals (values_set u.layout u.globals m.globals) (globals_shaped u m typed is);
  arguments = arguments_typed u f m typed there is;
}
