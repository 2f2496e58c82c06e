use Rattle.std.proofs.Common.{◌≡◌, map, cond, subst, sym, false, true, length, arith}
use Rattle.std.proofs.lemmas.Map.Text.{hash_map_updates_text}
use Rattle.std.specs.Prelude.{Some, string_bytes}
use Rattle.std.specs.Str.{bytes_eq}
use Rattle.std.specs.HashMap.{get_by_text}
use Rattle.c_values.specs.Name.{Name}
use Rattle.c_values.specs.Types.{Struct}
use Rattle.c_values.specs.Layout.{Layout, Incomplete, struct_shape, shapes_after, shape_of, is_object}
use Rattle.c_values.specs.Growth.{with_struct, can_follow}
use Rattle.c_values.specs.CodeTypes.{target_of}
use Rattle.c_values.specs.CodeLayout.{struct_def_of}
use Rattle.c_values.specs.CodeStructTable.{IsPlacement}
use Rattle.c_values.proofs.Growing.{complete_members, tabled_more, last_is_object, last_is_large}
use Rattle.c_values.proofs.layouts.Layout.define.Goals as goal

pub invariant_of-self-in_default : goal.invariant_of-self-in_default
invariant_of-self-in_default c =
    let f = c.self.inside in
    let d = c.args.definition in
    let l : Layout = record { target = target_of f.target; structs = map struct_def_of f.structs.items } in
    let can = subst (λ l'. can_follow l' (struct_def_of d) ≡ true) (sym c.self.view_is) c.requires in
    let placed = subst (λ found. IsPlacement found (struct_shape (shape_of l) (struct_def_of d)) c.len-position.result) c.in-Some.is (c.in_ok-found.ensures (shapes_after l.target (λ x. Incomplete) l.structs) c.self.invariant.describes (complete_members l (struct_def_of d) can)) in
    let at : c.len-position.result ≡ length f.structs.items = omega (arith, c.len-position.ensures, f.structs.ok.0) in
    let looked : (y : Name) → get_by_text c.insert.new.self y ≡ cond (bytes_eq (string_bytes d.name) y) (Some c.in-Some.found) (get_by_text f.table y) =
    λ y. rw (← c.in_ok-name-in-Some.ensures.cases) (hash_map_updates_text (string_bytes c.in_ok-name-in-Some.name) f.table c.insert.new.self (Some c.in-Some.found) c.in_default.ensures.updates y)
    in
    rw c.in_ok-push-in-Some.ensures.items
    (tabled_more l.target f.structs.items d f.table c.insert.new.self c.in-Some.found c.self.invariant can (subst (λ k. IsPlacement (Some c.in-Some.found) (struct_shape (shape_of l) (struct_def_of d)) k) at placed) looked)

pub invariant_of-self-in_default-2 : goal.invariant_of-self-in_default-2
invariant_of-self-in_default-2 c =
    let f = c.self.inside in
    let d = c.args.definition in
    let l : Layout = record { target = target_of f.target; structs = map struct_def_of f.structs.items } in
    let can = subst (λ l'. can_follow l' (struct_def_of d) ≡ true) (sym c.self.view_is) c.requires in
    let placed = subst (λ found. IsPlacement found (struct_shape (shape_of l) (struct_def_of d)) c.len-position.result) c.in-Some.is (c.in_ok-found.ensures (shapes_after l.target (λ x. Incomplete) l.structs) c.self.invariant.describes (complete_members l (struct_def_of d) can)) in
    let at : c.len-position.result ≡ length f.structs.items = omega (arith, c.len-position.ensures, f.structs.ok.0) in
    let looked : (y : Name) → get_by_text c.insert.new.self y ≡ cond (bytes_eq (string_bytes d.name) y) (Some c.in-Some.found) (get_by_text f.table y) =
    λ y. rw (← c.in_ok-name-in-Some.ensures.cases) (hash_map_updates_text (string_bytes c.in_ok-name-in-Some.name) f.table c.insert.new.self (Some c.in-Some.found) c.in_default.ensures.updates y)
    in
    rw c.in_ok-push-in-Some.ensures.items
    (tabled_more l.target f.structs.items d f.table c.insert.new.self c.in-Some.found c.self.invariant can (subst (λ k. IsPlacement (Some c.in-Some.found) (struct_shape (shape_of l) (struct_def_of d)) k) at placed) looked)

pub returns-in_default-clause-small : goal.returns-in_default-clause-small
returns-in_default-clause-small c =
    let f = c.self.inside in
    let d = c.args.definition in
    let l : Layout = record { target = target_of f.target; structs = map struct_def_of f.structs.items } in
    let can = subst (λ l'. can_follow l' (struct_def_of d) ≡ true) (sym c.self.view_is) c.requires in
    let placed = subst (λ found. IsPlacement found (struct_shape (shape_of l) (struct_def_of d)) c.len-position.result) c.in-Some.is (c.in_ok-found.ensures (shapes_after l.target (λ x. Incomplete) l.structs) c.self.invariant.describes (complete_members l (struct_def_of d) can)) in
    subst (λ l'. is_object (with_struct l' (struct_def_of d)) (Struct (string_bytes d.name)) ≡ true) c.self.view_is (last_is_object l (struct_def_of d) c.in-Some.found placed.0)

pub returns-in-None-clause-large : goal.returns-in-None-clause-large
returns-in-None-clause-large c k e =
    let f = c.self.inside in
    let d = c.args.definition in
    let l : Layout = record { target = target_of f.target; structs = map struct_def_of f.structs.items } in
    let can = subst (λ l'. can_follow l' (struct_def_of d) ≡ true) (sym c.self.view_is) c.requires in
    let placed = subst (λ found. IsPlacement found (struct_shape (shape_of l) (struct_def_of d)) c.len-position.result) c.in-None.is (c.in_ok-found.ensures (shapes_after l.target (λ x. Incomplete) l.structs) c.self.invariant.describes (complete_members l (struct_def_of d) can)) in
    subst (λ l'. is_object (with_struct l' (struct_def_of d)) (Struct (string_bytes d.name)) ≡ false) c.self.view_is (last_is_large l (struct_def_of d) placed)
