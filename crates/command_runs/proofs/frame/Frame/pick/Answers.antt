use Rattle.std.proofs.Common.{rules, ◌≡◌, true, Option, Some, None, refl, sym, ap, subst, ◌∙◌}
use Rattle.std.specs.Option.{option_map, IsSome}
use Rattle.c_values.specs.CodeValue.{value_of}
use Rattle.expression_lang.specs.Sort.{Kind, is_kind, word_sort_of}
use Rattle.expression_lang.specs.States.{IsOfSort}
use Rattle.expression_lang.specs.Machine.{machine_with}
use Rattle.expression_lang.specs.declared.sort.Kind as K
use Rattle.expression_lang.specs.CodeExpression.{kind_of}
use Rattle.simpl_lang.specs.Command as plain
use Rattle.simpl_lang.proofs.SameKinds.{local_is_kind}
use Rattle.command_runs.specs.CodeRun.{state_in, machine_in, locals_of, picked_value}
use Rattle.command_runs.proofs.Places.{pick_scalar}
use Rattle.command_runs.proofs.Given.{IsPut, local_put, known_kind, picked_sorted, picks}
use Rattle.command_runs.proofs.frame.Frame.pick.Goals as goal

is_there : (o : Option K.Kind) (p : Option Kind) (k : Kind) → option_map kind_of o ≡ p → p ≡ Some k → IsSome o
is_there (Some i) p k e h = refl
is_there None p k e h = absurd (none_some (e ∙ h))
  where
    none_some : ◌≡◌ {A = Option Kind} None (Some k) → ⊥
    none_some q = cc

kind_here : (o : Option K.Kind) (j : K.Kind) (p : Option Kind) (k : Kind) → option_map kind_of o ≡ p → p ≡ Some k → o ≡ Some j → k ≡ kind_of j
kind_here o j p k e h same = some_same (sym h ∙ sym e ∙ ap (option_map kind_of) same)
  where
    some_same : {a b : Kind} → ◌≡◌ {A = Option Kind} (Some a) (Some b) → a ≡ b
    some_same q = cc

pub unwrap-kind-requires : goal.unwrap-kind-requires
unwrap-kind-requires c =
    let f = c.args.self.now in
    let p = pick_scalar f c.args.name.now c.requires.sorted in
    let k = known_kind f c.requires.frame c.args.name.now p.0 p.1 in
    is_there c.kind_in.result _ k.0 c.kind_in.ensures k.1

pub picked-requires : goal.picked-requires
picked-requires c =
    let f = c.args.self.now in
    let p = pick_scalar f c.args.name.now c.requires.sorted in
    let k = known_kind f c.requires.frame c.args.name.now p.0 p.1 in
    let some : c.kind_in.result ≡ Some c.unwrap-kind.result = search rules in
    subst (λ j. is_kind j ≡ true) (kind_here c.kind_in.result c.unwrap-kind.result _ k.0 c.kind_in.ensures k.1 some) (local_is_kind (locals_of f) c.args.name.now k.0 c.requires.frame.kinds k.1)

put : (c : goal.After-put) → (k : Kind) × (plain.kind_of (locals_of c.args.self.now) c.args.name.now ≡ Some k) × IsPut c.args.self.now c.args.locals.now.items c.put.new.locals.items c.args.state.now c.args.name.now (picked_value c.args.self.now.fill k)
put c =
    let f = c.args.self.now in
    let p = pick_scalar f c.args.name.now c.requires.sorted in
    let k = known_kind f c.requires.frame c.args.name.now p.0 p.1 in
    let some : c.kind_in.result ≡ Some c.unwrap-kind.result = search rules in
    let same = kind_here c.kind_in.result c.unwrap-kind.result _ k.0 c.kind_in.ensures k.1 some in
    let v : value_of c.picked.result ≡ picked_value f.fill k.0 = c.picked.ensures ∙ ap (picked_value f.fill) (sym same) in (
      k.0,
      k.1,
      subst (λ w. IsPut f c.args.locals.now.items c.put.new.locals.items c.args.state.now c.args.name.now w) v
          (local_put f c.args.locals.now.items c.put.new.locals.items c.args.state.now c.requires.frame c.requires.fits c.args.name.now (value_of c.picked.result) p.0 p.1
          (subst (λ d. IsOfSort d (value_of c.picked.result)) k.2 (subst (λ w. IsOfSort (word_sort_of k.0) w) (sym v) (picked_sorted f.fill k.0)))
          c.put.ensures),
    )

pub returns-clause-fits : goal.returns-clause-fits
returns-clause-fits c = (put c).2.fits

pub returns-clause-run : goal.returns-clause-run
returns-clause-run c turns =
    let f = c.args.self.now in
    let q = put c in
    picks f.fill _ q.0 c.args.name.now (machine_in f c.args.locals.now.items c.args.state.now) (machine_in f c.put.new.locals.items c.args.state.now) q.1
    (ap (λ env. machine_with env (state_in f.unit.now c.args.state.now)) q.2.env)
