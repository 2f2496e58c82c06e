use Rattle.std.proofs.Common.{◌≡◌, true, refl, sym, ◌∙◌, map}
use Rattle.c_values.specs.Layout.{has_member}
use Rattle.c_values.specs.CodeLayout.{struct_def_of, member_of}
use Rattle.c_values.proofs.Following.{taken, free, has_some}
use Rattle.c_values.proofs.layouts.Layout.can_follow.Goals as goal

pub returns-in-Some : goal.returns-in-Some
returns-in-Some c =
    taken c.args.self.now (struct_def_of c.args.definition.now) (struct_def_of c.in-Some.field-0.now) (rw c.as_str.ensures.value at c.in-Some.ensures)

pub returns-else-is_empty : goal.returns-else-is_empty
returns-else-is_empty c =
    let ms = c.args.definition.now.members in
    let some : has_member (map member_of ms.items) ≡ true = has_some member_of ms.items _ ms.ok.0 (sym c.is_empty.ensures ∙ c.if-is_empty.false) in
    c.are_complete.ensures ∙ rw (c.deref.ensures.value, some) refl ∙ free c.args.self.now (struct_def_of c.args.definition.now) (rw c.as_str.ensures.value at c.in-None.ensures)
