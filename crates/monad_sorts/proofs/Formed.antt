-- A unit is well-formed where its layout is one and its tests hold.
use Rattle.std.proofs.Common.{◌≡◌, ◌&&◌, true, map}
use Rattle.std.proofs.lemmas.Bool.{and_parts, and_from}
use Rattle.c_values.specs.Name.{are_distinct}
use Rattle.c_values.specs.Layout.{IsLayout}
use Rattle.monad_lang.specs.Program.{FinalUnit}
use Rattle.monad_lang.specs.Sorted.{IsWellFormed, are_fns_sorted}
use Rattle.monad_sorts.specs.CodeSorted.{is_formed}

pub formed_sound : (u : FinalUnit) → IsLayout u.layout → is_formed u ≡ true → IsWellFormed u
formed_sound u l h =
    let globals = are_distinct (map (λ v. v.name) u.globals) in
    let names = are_distinct (map (λ f. f.name) u.functions) in
    let p = and_parts (globals && names) (are_fns_sorted u u.functions) h in
    let q = and_parts globals names p.0 in
    record { layout = l; globals = q.0; names = q.1; functions = p.1 }

pub formed_complete : (u : FinalUnit) → IsWellFormed u → is_formed u ≡ true
formed_complete u w =
    let globals = are_distinct (map (λ v. v.name) u.globals) in
    let names = are_distinct (map (λ f. f.name) u.functions) in
    and_from (globals && names) (are_fns_sorted u u.functions) (and_from globals names w.globals w.names) w.functions
