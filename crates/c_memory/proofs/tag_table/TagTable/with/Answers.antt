use Rattle.std.proofs.Common.{◌≡◌, ◌++◌, ◌∷◌, [], ◌∙◌, List, map, ap, sym, subst, length, slice_get, Some, arith}
use Rattle.std.proofs.lemmas.List.{map-append, length-map}
use Rattle.c_values.specs.CodeTypes.{type_of}
use Rattle.c_memory.specs.Memory.{Tag}
use Rattle.c_memory.specs.CodeTag.{tag_of}
use Rattle.c_memory.specs.CodeTagIndex.{IsIndex}
use Rattle.c_memory.proofs.Indexed.{pushed}
use Rattle.c_memory.proofs.tag_table.TagTable.with.Goals as goal

pub invariant_of-result : goal.invariant_of-result
invariant_of-result c =
    let f = c.self.inside in
    let ts = map tag_of f.tags.items in
    let t : Tag = record { address = c.args.address; type = type_of c.args.ty } in
    let count : c.len.result ≡ length ts = omega (arith, c.len.ensures, f.tags.ok.0, length-map f.tags.items tag_of) in
    let same : map tag_of c.push.new.self.items ≡ ts ++ t ∷ [] = ap (λ ys. map tag_of ys) c.in_ok-push.ensures.items ∙ map-append tag_of f.tags.items ((c.args.address, c.args.ty) ∷ []) in
    let u = c.in_ok-insert.ensures.updates in
    subst (λ (ys : List Tag). IsIndex ys c.insert.new.self) (sym same)
    (pushed ts f.places c.insert.new.self t c.self.invariant
    (λ k v e. c.requires k v (subst (λ (ys : List Tag). slice_get ys k ≡ Some v) c.self.view_is e))
    (u.1 ∙ ap Some count) u.2)
