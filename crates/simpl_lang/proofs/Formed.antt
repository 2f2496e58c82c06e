-- A unit is well-formed where its layout is one and its tests hold.
use Rattle.std.proofs.Common.{◌≡◌, ◌&&◌, true, map}
use Rattle.std.proofs.lemmas.Bool.{and_parts, and_from}
use Rattle.c_values.specs.Name.{are_distinct}
use Rattle.c_values.specs.Layout.{IsLayout}
use Rattle.simpl_lang.specs.Command.{SimplUnit}
use Rattle.simpl_lang.specs.Sorted.{IsWellFormed, are_signed, are_fns_sorted}
use Rattle.simpl_lang.specs.CodeForms.{is_formed}

pub formed_sound : (u : SimplUnit) → IsLayout u.layout → is_formed u ≡ true → IsWellFormed u
formed_sound u l h =
    let globals = are_distinct (map (λ v. v.name) u.globals) in
    let names = are_distinct (map (λ f. f.name) u.functions) in
    let signed = are_signed u.functions u.signatures in
    let p = and_parts (globals && names && signed) (are_fns_sorted u u.functions) h in
    let q = and_parts (globals && names) signed p.0 in
    let r = and_parts globals names q.0 in
    record { layout = l; globals = r.0; names = r.1; signatures = q.1; functions = p.1 }

pub formed_complete : (u : SimplUnit) → IsWellFormed u → is_formed u ≡ true
formed_complete u w =
    let globals = are_distinct (map (λ v. v.name) u.globals) in
    let names = are_distinct (map (λ f. f.name) u.functions) in
    let signed = are_signed u.functions u.signatures in
    and_from (globals && names && signed) (are_fns_sorted u u.functions)
    (and_from (globals && names) signed (and_from globals names w.globals w.names) w.signatures) w.functions
