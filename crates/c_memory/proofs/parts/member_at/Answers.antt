use Rattle.std.proofs.Common.{◌-◌, ◌<◌, ◌≤◌, arith, sym, subst}
use Rattle.c_values.specs.Types.{Struct}
use Rattle.c_values.specs.Layout.{size_of}
use Rattle.c_values.specs.CodeTypes.{type_of}
use Rattle.c_memory.specs.CodeInner.{LiesIn}
use Rattle.c_memory.proofs.Walks.{member_object}
use Rattle.c_memory.proofs.Rows.{member_number, before_member, after_member, lies_in_member, past_member, lies_in_no_member}
use Rattle.c_memory.proofs.parts.member_at.Goals as goal
use Rattle.c_memory.proofs.parts.member_at.Goals.{else-at-offset-via-then-at-offset+else-offset-at, else-at-offset-via-else-at-offset}

pub size_of-size-requires : goal.size_of-size-requires
size_of-size-requires c = member_object c.args.l.now c.args.name.now c.members.k c.in-Some.at (type_of c.in-Some.ty.now) c.in-Some.ensures.layout c.requires c.in-Some.ensures.some

pub returns-then-offset-at-clause-some : goal.returns-then-offset-at-clause-some
returns-then-offset-at-clause-some c =
    let u = type_of c.in-Some.ty.now in
    let at = c.from-at.ensures in
    let low : c.in-Some.at ≤ c.args.offset = omega arith in
    let high : c.args.offset - c.in-Some.at < size_of c.args.l.now u = omega (arith, c.size_of-size.ensures.value) in
    subst (λ n. LiesIn c.args.l.now (Struct c.args.name.now) c.args.offset c.members.k u (c.args.offset - n)) (sym at)
    (lies_in_member c.args.l.now c.in-Some.ensures.layout c.args.name.now c.requires c.args.offset c.members.k c.in-Some.at u c.in-Some.ensures.some c.members.invariant low high)

pub overflow_add-k : goal.overflow_add-k
overflow_add-k c =
    let few = member_number c.args.l.now (Struct c.args.name.now) c.members.k _ c.in-Some.ensures.layout c.requires c.in-Some.ensures.some in
    record { fits = omega (arith, few) }

pub members-smaller : goal.members-smaller
members-smaller c =
    let few = member_number c.args.l.now (Struct c.args.name.now) c.members.k _ c.in-Some.ensures.layout c.requires c.in-Some.ensures.some in
    omega (arith, few)

pub members-preserved : goal.members-preserved
members-preserved c =
    let u = type_of c.in-Some.ty.now in
    let l = c.args.l.now in
    let at = c.in-Some.at in
    past_member l c.in-Some.ensures.layout c.args.name.now c.requires c.args.offset c.members.k at u c.in-Some.ensures.some c.members.invariant
    (elim c.else-at-offset.branch [
      | else-at-offset-via-then-at-offset+else-offset-at w ↦ after_member at c.args.offset (size_of l u) (omega (arith, c.size_of-size.ensures.value))
      | else-at-offset-via-else-at-offset w ↦ before_member at c.args.offset (size_of l u) (omega arith)
    ])

pub returns-clause-none : goal.returns-clause-none
returns-clause-none c =
    lies_in_no_member c.args.l.now c.in_default.ensures.layout c.args.name.now c.requires c.args.offset c.members.k c.in_default.ensures.none c.members.invariant
