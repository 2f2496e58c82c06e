-- A loop is well-sorted but for its body where each test says so.
use Rattle.std.proofs.Common.{◌≡◌, Bool, true, false, ◌&&◌, map, refl, sym, ap, ◌∙◌}
use Rattle.c_values.specs.Name.{are_distinct}
use Rattle.expression_lang.specs.Sort.{is_truth}
use Rattle.expression_lang.specs.Sorted.{program_sort}
use Rattle.expression_lang.specs.CodeExpression.{exp_of}
use Rattle.monad_lang.specs.Run.{start_names}
use Rattle.monad_lang.specs.CodeProgram.{start_of, mon_of}
use Rattle.monad_sorts.specs.CodeTold.{values_told, names_into}
use Rattle.monad_sorts.specs.CodeSorted.{starts_scalars, same_told}
use Rattle.monad_sorts.specs.CodeInside.{setting_in, scalars_in, no_names}
use Rattle.monad_sorts.proofs.Passing.{turn_sorted}
use Rattle.monad_sorts.proofs.sorted.is_turn_sorted.Goals as goal

last_decides : (x z w v : Bool) → x ≡ true → z ≡ true → w ≡ true → v ≡ (x && z && w && v)
last_decides true true true v hx hz hw = refl
last_decides _ _ _ v hx hz hw = absurd cc

first_fails : (x z w v : Bool) → x ≡ false → false ≡ (x && z && w && v)
first_fails x z w v h = sym (ap (λ b. b && z && w && v) h)

second_fails : (x z w v : Bool) → z ≡ false → false ≡ (x && z && w && v)
second_fails true z w v h = sym (ap (λ b. b && w && v) h)
second_fails false z w v h = refl

third_fails : (x z w v : Bool) → w ≡ false → false ≡ (x && z && w && v)
third_fails true true w v h = sym (ap (λ b. b && v) h)
third_fails _ _ _ _ _ = refl

pub returns-then-not-are_starts_sorted : goal.returns-then-not-are_starts_sorted
returns-then-not-are_starts_sorted c =
    let s = setting_in c.args.setting no_names in
    let names = scalars_in c.args.inside.now in
    let m = mon_of c.args.m.now in
    let body = mon_of c.in-Loop.body.value in
    let turn = setting_in c.args.setting (names_into s names m) in
    let z = is_truth (program_sort turn.scope (exp_of c.in-Loop.guard)) in
    let w = is_truth (program_sort turn.scope (exp_of c.in-Loop.test)) in
    let v = same_told (values_told (setting_in c.args.setting names) m) (values_told turn body) in
    let starts =
    ap (λ xs. starts_scalars (setting_in c.args.setting names).scope (map start_of xs)
    && are_distinct (start_names (map start_of xs))) c.deref.ensures.value in
    first_fails c.are_starts_sorted.result z w v c.if-not-are_starts_sorted.true
    ∙ turn_sorted s names m (map start_of c.in-Loop.starts.items) (exp_of c.in-Loop.guard)
    (exp_of c.in-Loop.test) body c.are_starts_sorted.result z w v
    (ap mon_of c.in-Loop.is) (c.are_starts_sorted.ensures ∙ starts) refl refl refl

pub returns-then-not-is_test_in : goal.returns-then-not-is_test_in
returns-then-not-is_test_in c =
    let s = setting_in c.args.setting no_names in
    let names = scalars_in c.args.inside.now in
    let m = mon_of c.args.m.now in
    let body = mon_of c.in-Loop.body.value in
    let turn = setting_in c.args.setting (names_into s names m) in
    let w = is_truth (program_sort turn.scope (exp_of c.in-Loop.test)) in
    let v = same_told (values_told (setting_in c.args.setting names) m) (values_told turn body) in
    let starts =
    ap (λ xs. starts_scalars (setting_in c.args.setting names).scope (map start_of xs)
    && are_distinct (start_names (map start_of xs))) c.deref.ensures.value in
    second_fails c.are_starts_sorted.result c.is_test_in.result w v c.if-not-is_test_in.true
    ∙ turn_sorted s names m (map start_of c.in-Loop.starts.items) (exp_of c.in-Loop.guard)
    (exp_of c.in-Loop.test) body c.are_starts_sorted.result c.is_test_in.result w v
    (ap mon_of c.in-Loop.is) (c.are_starts_sorted.ensures ∙ starts) c.is_test_in.ensures refl refl

pub returns-then-not-is_test_in-2 : goal.returns-then-not-is_test_in-2
returns-then-not-is_test_in-2 c =
    let s = setting_in c.args.setting no_names in
    let names = scalars_in c.args.inside.now in
    let m = mon_of c.args.m.now in
    let body = mon_of c.in-Loop.body.value in
    let turn = setting_in c.args.setting (names_into s names m) in
    let v = same_told (values_told (setting_in c.args.setting names) m) (values_told turn body) in
    let starts =
    ap (λ xs. starts_scalars (setting_in c.args.setting names).scope (map start_of xs)
    && are_distinct (start_names (map start_of xs))) c.deref.ensures.value in
    third_fails c.are_starts_sorted.result c.is_test_in.result c.is_test_in-2.result v c.if-not-is_test_in-2.true
    ∙ turn_sorted s names m (map start_of c.in-Loop.starts.items) (exp_of c.in-Loop.guard)
    (exp_of c.in-Loop.test) body c.are_starts_sorted.result c.is_test_in.result c.is_test_in-2.result v
    (ap mon_of c.in-Loop.is) (c.are_starts_sorted.ensures ∙ starts) c.is_test_in.ensures c.is_test_in-2.ensures refl

pub returns : goal.returns
returns c =
    let s = setting_in c.args.setting no_names in
    let names = scalars_in c.args.inside.now in
    let m = mon_of c.args.m.now in
    let body = mon_of c.in-Loop.body.value in
    let turn = setting_in c.args.setting (names_into s names m) in
    let starts =
    ap (λ xs. starts_scalars (setting_in c.args.setting names).scope (map start_of xs)
    && are_distinct (start_names (map start_of xs))) c.deref.ensures.value in
    last_decides c.are_starts_sorted.result c.is_test_in.result c.is_test_in-2.result c.same_values.result
    c.if-not-are_starts_sorted.false c.if-not-is_test_in.false c.if-not-is_test_in-2.false
    ∙ turn_sorted s names m (map start_of c.in-Loop.starts.items) (exp_of c.in-Loop.guard) (exp_of c.in-Loop.test) body
    c.are_starts_sorted.result c.is_test_in.result c.is_test_in-2.result c.same_values.result
    (ap mon_of c.in-Loop.is) (c.are_starts_sorted.ensures ∙ starts) c.is_test_in.ensures c.is_test_in-2.ensures
    (c.same_values.ensures ∙ ap (λ b. same_told (values_told (setting_in c.args.setting names) m) (values_told turn (mon_of b)))
    c.deref-2.ensures)
