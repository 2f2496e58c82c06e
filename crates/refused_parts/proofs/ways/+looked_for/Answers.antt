use Rattle.std.proofs.Common.{◌≡◌, ◌-◌, suc, refl, subst, arith}
use Rattle.refused_parts.proofs.Searching.{root_found, none_passed, one_passed, in_part, all_passed, more_above, fewer_behind}
use Rattle.refused_parts.specs.CodeWays.{shape_of, IsSought}
use Rattle.refused_parts.proofs.ways.+looked_for.Goals as goal

pub returns-then-node-eq0 : goal.returns-then-node-eq0
returns-then-node-eq0 g t c = root_found (shape_of c.args.tree.now) c.new.result.items c.args.node c.new.ensures.items c.if-node-eq0.true

pub parts-init : goal.parts-init
parts-init g t c = record {
  so_far = none_passed _ c.as_slice-rest.result.now (c.args.node - 1) c.as_slice-rest.ensures.value;
  smaller = more_above c.args.tree.now c.as_slice-rest.result.now c.as_slice-rest.ensures.value;
}

pub returns-in-Within : goal.returns-in-Within
returns-in-Within g t c =
    in_part c.args.tree.now c.args.node c.in_ok-way.field-0 c.in-Within.way c.push.new.self.items c.in-Some.part.now c.parts.rest.now c.in-Some.others.now c.parts.left c.parts.at
    c.in-Within.is c.in_ok-push-in-Within.ensures.items c.if-node-eq0.false c.in-Some.ensures.cases.0 c.in_ok-way.ensures c.parts.invariant.so_far

pub parts-preserved : goal.parts-preserved
parts-preserved g t c = record {
  so_far =
      one_passed _ c.parts.rest.now c.in-Some.others.now c.in-Some.part.now _ c.parts.left c.in-Behind.behind c.parts.at
      c.in-Some.ensures.cases.0 (subst (IsSought (shape_of c.in-Some.part.now) c.parts.left) c.in-Behind.is c.in_ok-way.ensures) c.parts.invariant.so_far;
  smaller =
      let e = fewer_behind c.parts.rest.now c.in-Some.others.now c.in-Some.part.now c.in-Some.ensures.cases.0 in
      let s = c.parts.invariant.smaller in
      omega arith;
}

pub returns : goal.returns
returns g t c =
    let e : c.args.node ≡ suc (c.args.node - 1) = omega arith in
    all_passed c.args.tree.now _ c.parts.rest.now c.args.node _ c.parts.left c.parts.at refl c.in_default.ensures.cases e c.parts.invariant.so_far
