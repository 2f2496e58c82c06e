-- A lifted program is in heaps form, and gives the scalars that it gave; a lifted unit is well-formed, and the rules take the unit to
-- it where it is ready.
use Rattle.std.proofs.Common.{◌≡◌, Bool, true, false, cond, ◌&&◌, ◌||◌, List, [], ◌∷◌, map, Option, Some, None, refl, sym, ap, ap₂, ◌∙◌, subst}
use Rattle.std.proofs.lemmas.Bool.{and_parts, false≢true, not_from_false, or_from}
use Rattle.std.proofs.Math.Path.{fun_ext}
use Rattle.c_values.specs.Name.{Name, are_distinct}
use Rattle.c_values.specs.Types.{CType, same_type, address_width}
use Rattle.c_values.specs.Layout.{Layout, is_object}
use Rattle.expression_lang.specs.Expression as E
use Rattle.expression_lang.specs.Expression.{Exp}
use Rattle.expression_lang.specs.Form.{has, path_has, is_load}
use Rattle.expression_lang.specs.Sort.{Level, is_lifted, Scalar, Sort, Scope, is_truth, is_word_of, sort_of_kind, are_kinds}
use Rattle.expression_lang.specs.Sorted.{program_sort, scalar_in, with_scalar, scalars_of, sort_in, part_place, typed_place, global_place, fits_place, call_scalars}
use Rattle.expression_lang.specs.Signature.{Signature, signature, names_of, kinds_of}
use Rattle.expression_lang.proofs.Decided.{type_is}
use Rattle.ac_expr.specs.SameExp.{same_exp}
use Rattle.ac_expr.proofs.SameExps.{exp_is}
use Rattle.monad_lang.specs.Program as M
use Rattle.monad_lang.specs.Program.{Mon, Start, FinalFn, FinalUnit}
use Rattle.monad_lang.specs.Run.{start_names}
use Rattle.monad_lang.specs.Form.{some_has, start_has, place_has, program_has, is_stored, is_heaps}
use Rattle.monad_lang.specs.Sorted.{Setting, setting_with, start_scalars, are_scalars, place_sort, where_fits, and_then_scalars, one_for_each, scalars_given, signature_of, setting_of, is_fn_sorted, are_fns_sorted, has_few, IsWellFormed}
use Rattle.rule_heap.specs.ExpLifted.{exp_lifted, path_lifted}
use Rattle.rule_heap.specs.HeapLifted.{exps_lifted, starts_lifted, place_lifted, is_pair, on_heaps, heap_tree, function_on_heaps, functions_on_heaps, unit_on_heaps, IsLiftable, AreFunctionsReady}
use Rattle.rule_heap.specs.Units.{IsTakenWhere, AreTakenTo, IsUnitTakenTo, UnitsKeepHeaps}
use Rattle.rule_heap.proofs.ExpForms.{exp_free, path_free, path_parts_stay}
use Rattle.rule_heap.proofs.ExpSorts.{along_stays, program_sort_stays}
use Rattle.rule_heap.proofs.HeapTaken.{program_taken, starts_named}
use Rattle.rule_heap.proofs.UnitsKeep.{units_keep_heaps}

-- form

exps_free : (es : List Exp) → some_has is_load (exps_lifted es) ≡ false
exps_free [] = refl
exps_free (e ∷ es) = or_from (has is_load (exp_lifted e)) (some_has is_load (exps_lifted es)) (exp_free e) (exps_free es)

starts_free : (xs : List Start) → start_has is_load (starts_lifted xs) ≡ false
starts_free [] = refl
starts_free (x ∷ xs) = or_from (has is_load (exp_lifted x.exp)) (start_has is_load (starts_lifted xs)) (exp_free x.exp) (starts_free xs)

place_free : (place : M.Place) → (is_stored (place_lifted place) || place_has is_load (place_lifted place)) ≡ false
place_free (M.Stored t p path) = or_from (has is_load (exp_lifted p)) (path_has is_load (path_lifted path)) (exp_free p) (path_free path)
place_free (M.Written t p path) = or_from (has is_load (exp_lifted p)) (path_has is_load (path_lifted path)) (exp_free p) (path_free path)
place_free (M.Global x path) = path_free path

one_free : (b : Bool) (m n : Mon) → program_has is_load is_stored m ≡ false → program_has is_load is_stored n ≡ false → program_has is_load is_stored (cond b m n) ≡ false
one_free true m n h k = h
one_free false m n h k = k

program_free : (m : Mon) → program_has is_load is_stored (on_heaps m) ≡ false
program_free (M.Ret es) = exps_free es
program_free (M.Bind m xs n) =
    one_free (is_pair m xs n) (on_heaps n) (M.Bind (on_heaps m) xs (on_heaps n)) (program_free n)
    (or_from (program_has is_load is_stored (on_heaps m)) (program_has is_load is_stored (on_heaps n)) (program_free m) (program_free n))
program_free (M.Guard e) = exp_free e
program_free (M.If e m n) =
    or_from (has is_load (exp_lifted e) || program_has is_load is_stored (on_heaps m)) (program_has is_load is_stored (on_heaps n))
    (or_from (has is_load (exp_lifted e)) (program_has is_load is_stored (on_heaps m)) (exp_free e) (program_free m)) (program_free n)
program_free (M.Write place e) = or_from (is_stored (place_lifted place) || place_has is_load (place_lifted place)) (has is_load (exp_lifted e)) (place_free place) (exp_free e)
program_free (M.Loop starts g t m) =
    or_from (start_has is_load (starts_lifted starts) || has is_load (exp_lifted g) || has is_load (exp_lifted t)) (program_has is_load is_stored (on_heaps m))
    (or_from (start_has is_load (starts_lifted starts) || has is_load (exp_lifted g)) (has is_load (exp_lifted t))
    (or_from (start_has is_load (starts_lifted starts)) (has is_load (exp_lifted g)) (starts_free starts) (exp_free g)) (exp_free t)) (program_free m)
program_free (M.Call f es) = exps_free es
program_free (M.Pick k) = refl

pub lifted_is_heaps : (m : Mon) → is_heaps (on_heaps m) ≡ true
lifted_is_heaps m = not_from_false (program_has is_load is_stored (on_heaps m)) (program_free m)

-- sorts

exps_sorted : (g : Scope) (es : List Exp) → scalars_of g (exps_lifted es) ≡ scalars_of g es
exps_sorted g [] = refl
exps_sorted g (e ∷ es) = ap₂ (λ o p. with_scalar (scalar_in o) p) (program_sort_stays g e) (exps_sorted g es)

pub starts_sorted : (g : Scope) (xs : List Start) → start_scalars g (starts_lifted xs) ≡ start_scalars g xs
starts_sorted g [] = refl
starts_sorted g (x ∷ xs) = ap₂ (λ o p. with_scalar (scalar_in o) p) (program_sort_stays g x.exp) (starts_sorted g xs)

part_sorted : (g : Scope) (t : CType) (path : E.Path) → part_place g t (path_lifted path) ≡ part_place g t path
part_sorted g t path = ap₂ (λ b o. cond b None (sort_in o)) (path_parts_stay path) (along_stays g path _)

typed_sorted : (g : Scope) (t : CType) (p : Exp) (path : E.Path) → typed_place g t (exp_lifted p) (path_lifted path) ≡ typed_place g t p path
typed_sorted g t p path =
    ap₂ (λ o q. cond (is_object g.layout t && is_word_of (address_width g.layout.target) o) q None) (program_sort_stays g p) (part_sorted g t path)

global_sorted : (g : Scope) (o : Option CType) (path : E.Path) → global_place g o (path_lifted path) ≡ global_place g o path
global_sorted g None path = refl
global_sorted g (Some t) path = ap (λ q. cond (is_object g.layout t) q None) (part_sorted g t path)

place_sorted : (g : Scope) (place : M.Place) → place_sort g (place_lifted place) ≡ place_sort g place
place_sorted g (M.Stored t p path) = typed_sorted g t p path
place_sorted g (M.Written t p path) = typed_sorted g t p path
place_sorted g (M.Global x path) = global_sorted g (g.globals x) path

-- of a pair the second test stands for both
twice : (b : Bool) (F : List Scalar → Option (List Scalar)) → and_then_scalars (where_fits b (Some [])) (λ ss. where_fits (one_for_each [] ss && true) (and_then_scalars (where_fits b (Some [])) F)) ≡ and_then_scalars (where_fits b (Some [])) F
twice true F = refl
twice false F = refl

pair_scalars : (t : Setting) (m : Mon) (xs : List Name) (n : Mon) → is_pair m xs n ≡ true → scalars_given t n ≡ scalars_given t (M.Bind m xs n)
pair_scalars t (M.Guard (E.PtrOk u p)) [] (M.Bind (M.Guard (E.Tagged v q)) [] r) e =
    let s = and_parts (same_type v u) (same_exp q p) e in
    subst (λ w. scalars_given t (M.Bind (M.Guard (E.Tagged v q)) [] r) ≡ scalars_given t (M.Bind (M.Guard (E.PtrOk w p)) [] (M.Bind (M.Guard (E.Tagged v q)) [] r))) (type_is v u s.0)
    (subst (λ x. scalars_given t (M.Bind (M.Guard (E.Tagged v q)) [] r) ≡ scalars_given t (M.Bind (M.Guard (E.PtrOk v x)) [] (M.Bind (M.Guard (E.Tagged v q)) [] r))) (exp_is q p s.1)
    (sym (twice (is_truth (program_sort t.scope (E.Tagged v q))) (λ ss. where_fits (one_for_each [] ss && are_distinct []) (scalars_given (setting_with [] ss t) r)))))
pair_scalars t _ _ _ e = absurd (false≢true e)

bind_scalars : (b : Bool) (t : Setting) (m n r : Mon) → (b ≡ true → scalars_given t m ≡ scalars_given t r) → (b ≡ false → scalars_given t n ≡ scalars_given t r) → scalars_given t (cond b m n) ≡ scalars_given t r
bind_scalars true t m n r h k = h refl
bind_scalars false t m n r h k = k refl

-- what a loop asks, where its names have these scalars
abbrev loop_body : List Name → List Scalar → Option Sort → Option Sort → Option (List Scalar) → Option (List Scalar)
loop_body xs ss a b o = where_fits (are_distinct xs && is_truth a && is_truth b && are_scalars ss o) (Some ss)

abbrev loop_scalars : Setting → Option (List Scalar) → List Name → Exp → Exp → Mon → Option (List Scalar)
loop_scalars t o xs g u m = and_then_scalars o (λ ss. loop_body xs ss (program_sort (setting_with xs ss t).scope g) (program_sort (setting_with xs ss t).scope u) (scalars_given (setting_with xs ss t) m))

inner_scalars : (t : Setting) (g u : Exp) (m : Mon) (xs : List Name) (ss : List Scalar) → scalars_given (setting_with xs ss t) (on_heaps m) ≡ scalars_given (setting_with xs ss t) m →
    loop_body xs ss (program_sort (setting_with xs ss t).scope (exp_lifted g)) (program_sort (setting_with xs ss t).scope (exp_lifted u)) (scalars_given (setting_with xs ss t) (on_heaps m))
    ≡ loop_body xs ss (program_sort (setting_with xs ss t).scope g) (program_sort (setting_with xs ss t).scope u) (scalars_given (setting_with xs ss t) m)
inner_scalars t g u m xs ss h =
    ap₂ (λ a b. loop_body xs ss a b (scalars_given (setting_with xs ss t) (on_heaps m))) (program_sort_stays (setting_with xs ss t).scope g) (program_sort_stays (setting_with xs ss t).scope u)
    ∙ ap (λ o. loop_body xs ss (program_sort (setting_with xs ss t).scope g) (program_sort (setting_with xs ss t).scope u) o) h

pub scalars_stay : (t : Setting) (m : Mon) → scalars_given t (on_heaps m) ≡ scalars_given t m
scalars_stay t (M.Ret es) = exps_sorted t.scope es
scalars_stay t (M.Bind m xs n) =
    bind_scalars (is_pair m xs n) t (on_heaps n) (M.Bind (on_heaps m) xs (on_heaps n)) (M.Bind m xs n) (λ e. scalars_stay t n ∙ pair_scalars t m xs n e)
    (λ e. ap₂ (λ o f. and_then_scalars o f) (scalars_stay t m) (fun_ext (λ ss. ap (λ o. where_fits (one_for_each xs ss && are_distinct xs) o) (scalars_stay (setting_with xs ss t) n))))
scalars_stay t (M.Guard e) = ap (λ o. where_fits (is_truth o) (Some [])) (program_sort_stays t.scope e)
scalars_stay t (M.If e m n) =
    ap₂ (λ o f. and_then_scalars o f) (scalars_stay t m)
    (fun_ext (λ ss. ap₂ (λ o p. where_fits (is_truth o && are_scalars ss p) (Some ss)) (program_sort_stays t.scope e) (scalars_stay t n)))
scalars_stay t (M.Write place e) = ap₂ (λ o p. where_fits (fits_place o p) (Some [])) (place_sorted t.scope place) (program_sort_stays t.scope e)
scalars_stay t (M.Loop starts g u m) =
    ap₂ (λ o xs. loop_scalars t o xs (exp_lifted g) (exp_lifted u) (on_heaps m)) (starts_sorted t.scope starts) (starts_named starts)
    ∙ ap (λ f. and_then_scalars (start_scalars t.scope starts) f) (fun_ext (λ ss. inner_scalars t g u m (start_names starts) ss (scalars_stay (setting_with (start_names starts) ss t) m)))
scalars_stay t (M.Call f es) = ap (λ o. call_scalars t.sort_for (signature t.functions f) o) (exps_sorted t.scope es)
scalars_stay t (M.Pick k) = refl

-- units

signatures_stay : (fs : List FinalFn) → map signature_of (functions_on_heaps fs) ≡ map signature_of fs
signatures_stay [] = refl
signatures_stay (f ∷ fs) = ap (λ ss. signature_of f ∷ ss) (signatures_stay fs)

names_stay : (fs : List FinalFn) → map (λ f. f.name) (functions_on_heaps fs) ≡ map (λ f. f.name) fs
names_stay [] = refl
names_stay (f ∷ fs) = ap (λ xs. f.name ∷ xs) (names_stay fs)

module _ (u : FinalUnit) where
  setting_stays : (f : FinalFn) → setting_of (unit_on_heaps u) (function_on_heaps f) ≡ setting_of u f
  setting_stays f = ap (λ ss. with_functions ss) (signatures_stay u.functions)
    where
      with_functions : List Signature → Setting
      with_functions ss = record { scope = (setting_of u f).scope; functions = ss; sort_for = sort_of_kind }

  body_stays : (b : Bool) (t : Setting) (m : Mon) → scalars_given t (cond b (on_heaps m) m) ≡ scalars_given t m
  body_stays true t m = scalars_stay t m
  body_stays false t m = refl

  function_sorted : (f : FinalFn) → is_fn_sorted (unit_on_heaps u) (function_on_heaps f) ≡ is_fn_sorted u f
  function_sorted f =
      ap (λ o. are_kinds (kinds_of f.params) && are_kinds f.results && are_distinct (names_of f.params) && has_few f.results && are_scalars (map sort_of_kind f.results) o)
      (ap (λ t. scalars_given t (cond (is_lifted f.level) (on_heaps f.body) f.body)) (setting_stays f) ∙ body_stays (is_lifted f.level) (setting_of u f) f.body)

  functions_sorted : (fs : List FinalFn) → are_fns_sorted (unit_on_heaps u) (functions_on_heaps fs) ≡ are_fns_sorted u fs
  functions_sorted [] = refl
  functions_sorted (f ∷ fs) = ap₂ (λ a b. a && b) (function_sorted f) (functions_sorted fs)

pub unit_formed : (u : FinalUnit) → IsWellFormed u → IsWellFormed (unit_on_heaps u)
unit_formed u h = record {
  layout = h.layout;
  globals = h.globals;
  names = ap are_distinct (names_stay u.functions) ∙ h.names;
  functions = functions_sorted u u.functions ∙ h.functions;
}

body_taken : (l : Layout) (levels : Name → Level) (b : Bool) (m : Mon) → (b ≡ true → IsLiftable l levels m) → IsTakenWhere b l levels m (cond b (on_heaps m) m)
body_taken l levels true m h = let k = h refl in record { tree = heap_tree m; takes = program_taken l m [] k.ready; bytes = k.bytes; calls = k.calls }
body_taken l levels false m h = refl

functions_taken : (l : Layout) (levels : Name → Level) (fs : List FinalFn) → AreFunctionsReady l levels fs → AreTakenTo l levels fs (functions_on_heaps fs)
functions_taken l levels [] h = tt
functions_taken l levels (f ∷ fs) h =
    (record { level = h.0.0; name = refl; same_level = refl; parameters = refl; results = refl; body = body_taken l levels (is_lifted f.level) f.body h.0.1 }, functions_taken l levels fs h.1)

pub unit_taken : (levels : Name → Level) (u : FinalUnit) → AreFunctionsReady u.layout levels u.functions → IsUnitTakenTo levels u (unit_on_heaps u)
unit_taken levels u h = record { layout = refl; globals = refl; functions = functions_taken u.layout levels u.functions h }

pub unit_keeps : (levels : Name → Level) (u : FinalUnit) → IsWellFormed u → AreFunctionsReady u.layout levels u.functions → UnitsKeepHeaps levels u (unit_on_heaps u)
unit_keeps levels u formed h = units_keep_heaps levels u (unit_on_heaps u) formed (unit_taken levels u h)
