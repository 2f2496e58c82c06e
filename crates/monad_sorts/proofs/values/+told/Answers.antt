-- A look goes over the later half of the parts and then over the others, or through the last of them to the value that it binds.
use Rattle.std.proofs.Common.{◌≡◌, ◌+◌, ◌-◌, ◌/◌, ◌<◌, Option, map, string_bytes, sym, ap, ◌∙◌, subst, arith}
use Rattle.c_values.specs.Name.{Name}
use Rattle.expression_lang.specs.Sort.{Scalar}
use Rattle.monad_lang.specs.declared.program.Mon as M
use Rattle.monad_lang.specs.declared.program.Mon.{size-Mon}
use Rattle.monad_lang.specs.declared.program.Mon.TheBlock.{the_depth}
use Rattle.monad_lang.specs.CodeProgram.{mon_of}
use Rattle.monad_sorts.specs.CodeTold.{names_given, values_told, told_at, names_into, names_after}
use Rattle.monad_sorts.specs.CodeInside.{setting_in, scalar_by, no_names}
use Rattle.monad_sorts.proofs.Passing.{halves}
use Rattle.monad_sorts.proofs.Weights.{top, rank_falls, size_falls, weight_falls, below_top}
use Rattle.monad_sorts.proofs.values.+told.Goals as goal
use denote.Hole.Rolled.{depth}
use denote.Hole.Carrier.{fold}

after_first : (p : _) (m : M.Mon) (xs : _) (q : _) (n : M.Mon) → size-Mon m < size-Mon (M.Bind' p m xs q n)
unfolding the_depth depth fold
after_first p m xs q n = omega arith

first_is_smaller : (m : M.Mon) (first : _) (xs : _) (last : _) → m ≡ M.Bind first xs last → size-Mon first.value < size-Mon m
first_is_smaller m first xs last e =
    subst (λ r. size-Mon first.value < size-Mon r) (sym e) (after_first _ first.value xs _ last.value)

pub look_back-look_through-requires : goal.look_back-look_through-requires
look_back-look_through-requires t c =
    (omega (arith, c.decreases, rank_falls (size-Mon c.args.m.now) 0 (c.args.steps + 1) (omega arith)), tt)

pub look_back-look_back-later-requires : goal.look_back-look_back-later-requires
look_back-look_back-later-requires t c =
    let fewer : c.args.steps - c.args.steps / 2 + 1 < c.args.steps + 1 = omega arith in
    let falls =
    weight_falls (size-Mon c.part_after.result.now) (size-Mon c.args.m.now) (c.args.steps - c.args.steps / 2 + 1)
    (c.args.steps + 1)
    c.part_after.ensures.smaller fewer in
    (omega (arith, c.decreases, falls), tt)

pub look_back-look_back-requires : goal.look_back-look_back-requires
look_back-look_back-requires t c =
    let fewer : c.args.steps / 2 + 1 < c.args.steps + 1 = omega arith in
    (omega (arith, c.decreases, rank_falls (size-Mon c.args.m.now) (c.args.steps / 2 + 1) (c.args.steps + 1) fewer), tt)

pub look_back-returns : goal.look_back-returns
look_back-returns t c names =
    let s = setting_in c.args.setting no_names in
    let half = c.args.steps / 2 in
    c.look_back.ensures names
    ∙ c.look_back-later.ensures (names_after s half names (mon_of c.args.m.now))
    ∙ ap (λ (f : Name → Option Scalar). scalar_by f c.args.told)
    (halves s names half (c.args.steps - half) c.args.steps (mon_of c.args.m.now) (mon_of c.part_after.result.now)
    (omega arith) c.part_after.ensures.same)

pub look_through-tell_value-requires : goal.look_through-tell_value-requires
look_through-tell_value-requires t c =
    let first = first_is_smaller c.args.m.now c.in-Bind.first c.in-Bind.names c.in-Bind.field-2 c.in-Bind.is in
    let smaller : size-Mon c.deref-in-Some.result.now < size-Mon c.args.m.now = subst (λ m. size-Mon m < size-Mon c.args.m.now)
    (sym c.deref-in-Some.ensures) first in
    let falls = size_falls (size-Mon c.deref-in-Some.result.now) (size-Mon c.args.m.now) top 0 smaller (omega arith) in
    (omega (arith, falls), tt)

pub look_through-returns-in-Some : goal.look_through-returns-in-Some
look_through-returns-in-Some t c names =
    let s = setting_in c.args.setting no_names in
    c.tell_value.ensures names
    ∙ ap (λ m. told_at (values_told (setting_in c.args.setting names) (mon_of m)) c.in-Some.k) c.deref-in-Some.ensures
    ∙ sym (c.in-Some.ensures.some (values_told (setting_in c.args.setting names) (mon_of c.in-Bind.first.value)) names)
    ∙ ap (λ xs. names_given (map string_bytes xs)
    (values_told (setting_in c.args.setting names)
    (mon_of c.in-Bind.first.value)) names c.args.name.now) c.deref.ensures.value
    ∙ sym (ap (λ m. names_into s names (mon_of m) c.args.name.now) c.in-Bind.is)

pub look_through-returns-in-None : goal.look_through-returns-in-None
look_through-returns-in-None t c names =
    let s = setting_in c.args.setting no_names in
    sym (c.in-None.ensures.none (values_told (setting_in c.args.setting names) (mon_of c.in-Bind.first.value)) names)
    ∙ ap (λ xs. names_given (map string_bytes xs)
    (values_told (setting_in c.args.setting names)
    (mon_of c.in-Bind.first.value)) names c.args.name.now) c.deref.ensures.value
    ∙ sym (ap (λ m. names_into s names (mon_of m) c.args.name.now) c.in-Bind.is)

pub tell_value-tell_value-requires : goal.tell_value-tell_value-requires
tell_value-tell_value-requires t c =
    let smaller : size-Mon c.along.rest.now < size-Mon c.args.m.now = omega arith in
    (omega (arith, c.decreases, size_falls (size-Mon c.along.rest.now) (size-Mon c.args.m.now) top top smaller (omega arith)), tt)

pub tell_value-look_back-requires : goal.tell_value-look_back-requires
tell_value-look_back-requires t c = (
  omega (
    arith,
    c.decreases,
    rank_falls (size-Mon c.args.m.now) (c.along.steps + 1) top
        (below_top c.along.steps c.along.auto.steps-fits),
  ),
  tt,
)

pub tell_value-look_back-requires-2 : goal.tell_value-look_back-requires-2
tell_value-look_back-requires-2 t c = (
  omega (
    arith,
    c.decreases,
    rank_falls (size-Mon c.args.m.now) (c.along.steps + 1) top
        (below_top c.along.steps c.along.auto.steps-fits),
  ),
  tt,
)
