use Rattle.std.proofs.Common.{◌≡◌, ℕ, ◌<◌, map, length, cond, subst, sym, rules}
use Rattle.std.proofs.lemmas.Map.Text.{hash_map_updates_text}
use Rattle.std.specs.Prelude.{Some, string_bytes}
use Rattle.std.specs.Str.{bytes_eq}
use Rattle.std.specs.HashMap.{get_by_text}
use Rattle.c_values.specs.Name.{Name}
use Rattle.c_values.specs.Layout.{shape_from, struct_shape}
use Rattle.c_values.specs.CodeTypes.{target_of}
use Rattle.c_values.specs.CodeLayout.{struct_def_of, IsFirstLarge}
use Rattle.c_values.specs.CodeStructTable.{IsPlacement, IsNamed}
use Rattle.c_values.proofs.Tabulating.{after, members_complete, tabulating_more, tabulated, first_large, seen_here, seen_within, small_struct, describes_more, finds_more, named_here}
use Rattle.c_values.proofs.tabulation.tabulate.Goals as goal

pub returns-in-None-clause-large : goal.returns-in-None-clause-large
returns-in-None-clause-large c k e =
    let l = c.loop-position in
    let inv = l.invariant in
    let t = target_of c.args.target in
    let ds = c.args.structs.now in
    let d = c.index-structs-position.result in
    let within : l.position < length ds = search rules in
    let seen = seen_here ds l.position d within c.index-structs-position.is in
    let complete = members_complete t (map struct_def_of ds) l.position inv.structs (struct_def_of d) (seen_within ds l.position within) seen inv.done in
    let placed = c.in_ok-found.ensures inv.structs inv.describes complete in
    let large = subst (λ found. IsPlacement found (struct_shape (shape_from t inv.structs) (struct_def_of d)) l.position) c.in-None.is placed in
    let same : l.position ≡ k = cc in
    subst (λ (n : ℕ). IsFirstLarge t (map struct_def_of ds) n) same
    (first_large t (map struct_def_of ds) l.position inv.structs (struct_def_of d) (seen_within ds l.position within) seen inv.done large)

pub loop-position-preserved : goal.loop-position-preserved
loop-position-preserved c =
    let l = c.loop-position in
    let inv = l.invariant in
    let t = target_of c.args.target in
    let ds = c.args.structs.now in
    let all = map struct_def_of ds in
    let d = c.index-structs-position.result in
    let x = string_bytes d.name in
    let e = c.in-Some.found in
    let s = struct_shape (shape_from t inv.structs) (struct_def_of d) in
    let within : l.position < length ds = search rules in
    let seen = seen_here ds l.position d within c.index-structs-position.is in
    let seen_in = seen_within ds l.position within in
    let complete = members_complete t all l.position inv.structs (struct_def_of d) seen_in seen inv.done in
    let placed = subst (λ found. IsPlacement found s l.position) c.in-Some.is (c.in_ok-found.ensures inv.structs inv.describes complete) in
    let looked : (y : Name) → get_by_text c.insert.new.self y ≡ cond (bytes_eq x y) (Some e) (get_by_text l.table y) =
    λ y. rw (← c.in_ok-name-in-Some.ensures.cases) (hash_map_updates_text (string_bytes c.in_ok-name-in-Some.name) l.table c.insert.new.self (Some e) c.in_ok-insert-in-Some.ensures.updates y)
    in
    record {
      structs = after t all l.position inv.structs (struct_def_of d) seen_in seen inv.done;
      done = tabulating_more t all l.position inv.structs (struct_def_of d) seen_in seen inv.done (small_struct e (shape_from t inv.structs) (struct_def_of d) placed.0);
      describes = describes_more l.table c.insert.new.self inv.structs x e s inv.describes placed.0 looked;
      finds = finds_more l.table c.insert.new.self ds x e inv.finds (subst (λ (k : ℕ). IsNamed ds x k) (sym placed.1) (named_here ds l.position d within c.index-structs-position.is)) looked;
    }

pub returns-clause-tabled : goal.returns-clause-tabled
returns-clause-tabled c =
    let inv = c.loop-position.invariant in
    tabulated (target_of c.args.target) c.args.structs.now c.loop-position.position c.loop-position.table inv.structs (search rules) c.requires inv.done inv.describes inv.finds
