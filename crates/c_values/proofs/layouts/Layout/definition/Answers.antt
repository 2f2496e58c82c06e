use Rattle.std.proofs.Common.{◌≡◌, arith, subst, Some, None, sym}
use Rattle.c_values.specs.Growth.{struct_named}
use Rattle.c_values.specs.Layout.{Layout}
use Rattle.c_values.specs.CodeTypes.{target_of}
use Rattle.c_values.specs.CodeLayout.{struct_def_of}
use Rattle.c_values.proofs.Members.{named}
use Rattle.c_values.proofs.Naming.{no_definition, own_definition}
use Rattle.c_values.proofs.layouts.Layout.definition.Goals as goal

pub returns-in-None : goal.returns-in-None
returns-in-None c =
    let f = c.self.inside in
    let x = c.args.name.now in
    subst (λ (l : Layout). None ≡ struct_named l.structs x) c.self.view_is
    (sym (no_definition (target_of f.target) f.structs.items f.table c.self.invariant x c.in-None.ensures.value))

pub index-requires : goal.index-requires
index-requires c =
    let f = c.self.inside in
    omega (arith, f.structs.ok.0, (named (target_of f.target) f.structs.items f.table c.self.invariant c.args.name.now c.in-Some.places.now c.in-Some.ensures.value).1)

pub returns-in-Some : goal.returns-in-Some
returns-in-Some c =
    let f = c.self.inside in
    let x = c.args.name.now in
    let d = c.index.result.now in
    subst (λ (l : Layout). Some (struct_def_of d) ≡ struct_named l.structs x) c.self.view_is
    (own_definition (target_of f.target) f.structs.items f.table c.self.invariant x c.in-Some.places.now c.in-Some.ensures.value d c.index.ensures)
