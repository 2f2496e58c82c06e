use Rattle.std.proofs.Common.{◌∙◌, is_some, arith, sym, ap}
use Rattle.c_values.specs.CodeTypes.{type_of}
use Rattle.c_memory.specs.CodeInner.{part_step}
use Rattle.c_memory.proofs.Inside.{step_lower, path_outside, root_here, root_in, root_in_none, some_prefixed}
use Rattle.c_memory.proofs.parts.has_part.Goals as goal

pub returns-then-offset-from-clause-found : goal.returns-then-offset-from-clause-found
returns-then-offset-from-clause-found c =
    sym (path_outside c.args.l.now c.size_of-size.ensures.layout (type_of c.args.whole.now) c.requires (type_of c.args.t.now) c.args.offset (omega (arith, c.size_of-size.ensures.value)))

pub loop-whole-smaller : goal.loop-whole-smaller
loop-whole-smaller c = step_lower _ _ _ c.in-Some.ensures.some.here

pub loop-whole-preserved : goal.loop-whole-preserved
loop-whole-preserved c =
    let l = c.args.l.now in
    let u = type_of c.loop-whole.whole.now in
    let t = type_of c.args.t.now in
    let p = c.in-Some.part in
    let lies = c.in-Some.ensures.some in
    let out = sym c.is_root_here.ensures ∙ c.loop-whole-test.true in
    record {
      object = lies.object;
      size = c.in-Some.ensures.size;
      path =
          sym (some_prefixed (part_step u p.index) _)
          ∙ sym (ap is_some (root_in l c.size_of-size.ensures.layout u c.loop-whole.invariant.object t c.loop-whole.offset p.index (type_of p.ty.now) p.offset out lies))
          ∙ c.loop-whole.invariant.path;
    }

pub returns-in-None-clause-found : goal.returns-in-None-clause-found
returns-in-None-clause-found c =
    let u = type_of c.loop-whole.whole.now in
    let t = type_of c.args.t.now in
    let out = sym c.is_root_here.ensures ∙ c.loop-whole-test.true in
    sym (ap is_some (root_in_none c.args.l.now c.size_of-size.ensures.layout u c.loop-whole.invariant.object t c.loop-whole.offset out c.in-None.ensures.none)) ∙ c.loop-whole.invariant.path

pub returns-clause-found : goal.returns-clause-found
returns-clause-found c =
    let u = type_of c.loop-whole.whole.now in
    let t = type_of c.args.t.now in
    let here = sym c.is_root_here.ensures ∙ c.loop-whole-test.false in
    sym (ap is_some (root_here c.args.l.now c.size_of-size.ensures.layout u c.loop-whole.invariant.object t c.loop-whole.offset here)) ∙ c.loop-whole.invariant.path
