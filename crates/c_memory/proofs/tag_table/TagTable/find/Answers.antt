use Rattle.std.proofs.Common.{◌≡◌, ◌-◌, ◌∙◌, true, is_some, subst, sym, ap, arith}
use Rattle.c_values.specs.Layout.{is_object, shape_of}
use Rattle.c_values.specs.CodeTypes.{type_of}
use Rattle.c_memory.specs.Memory.{Tag}
use Rattle.c_memory.specs.Tags.{root_path}
use Rattle.c_memory.specs.CodeTag.{tag_of}
use Rattle.c_memory.proofs.Neighbours.{tag_at, item_at, within_list, path_of, none_covers, last_covers}
use Rattle.c_memory.proofs.tag_table.TagTable.find.Goals as goal

pub returns-in_default-clause-none : goal.returns-in_default-clause-none
returns-in_default-clause-none c = none_covers c.args.l.now c.args.self.now (type_of c.args.t.now) c.args.address c.in_default.ensures.none

pub bounds-tags-k : goal.bounds-tags-k
bounds-tags-k c = let last = c.in-Some.ensures.some in within_list tag_of c.tags.result.now c.args.self.now c.in-Some.k last.tag c.tags.ensures last.is

pub overflow_sub-address : goal.overflow_sub-address
overflow_sub-address c =
    let last = c.in-Some.ensures.some in
    let same = item_at tag_of c.tags.result.now c.args.self.now c.in-Some.k c.index-tags-k.result last.tag c.tags.ensures last.is c.index-tags-k.is in
    let start : c.index-tags-k.result.0 ≡ last.tag.address = ap (λ t. t.address) same in
    omega (arith, start, last.below)

pub has_part-requires : goal.has_part-requires
has_part-requires c =
    let last = c.in-Some.ensures.some in
    let same = item_at tag_of c.tags.result.now c.args.self.now c.in-Some.k c.index-tags-k.result last.tag c.tags.ensures last.is c.index-tags-k.is in
    subst (λ (t : Tag). is_object c.args.l.now t.type ≡ true) (sym same) (tag_at c.args.l.now c.args.self.now c.in-Some.k last.tag c.requires last.is).object

pub returns-then-has_part-clause-some : goal.returns-then-has_part-clause-some
returns-then-has_part-clause-some c =
    let last = c.in-Some.ensures.some in
    let same = item_at tag_of c.tags.result.now c.args.self.now c.in-Some.k c.index-tags-k.result last.tag c.tags.ensures last.is c.index-tags-k.is in
    record {
      tag = last.tag;
      is = last.is;
      path =
          ap is_some (path_of c.args.l.now last.tag (type_of c.args.t.now) c.args.address last.below)
          ∙ sym (ap (λ t. is_some (root_path (shape_of c.args.l.now t.type) (type_of c.args.t.now) (c.args.address - t.address))) same)
          ∙ sym c.has_part.ensures.found
          ∙ c.if-has_part.true;
    }

pub returns-else-has_part-clause-none : goal.returns-else-has_part-clause-none
returns-else-has_part-clause-none c =
    let last = c.in-Some.ensures.some in
    let same = item_at tag_of c.tags.result.now c.args.self.now c.in-Some.k c.index-tags-k.result last.tag c.tags.ensures last.is c.index-tags-k.is in
    last_covers c.args.l.now c.has_part.ensures.layout c.args.self.now c.requires (type_of c.args.t.now) c.args.address c.in-Some.k last
    (ap is_some (path_of c.args.l.now last.tag (type_of c.args.t.now) c.args.address last.below)
    ∙ sym (ap (λ t. is_some (root_path (shape_of c.args.l.now t.type) (type_of c.args.t.now) (c.args.address - t.address))) same)
    ∙ sym c.has_part.ensures.found
    ∙ c.if-has_part.false)
