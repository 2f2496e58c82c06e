-- By the read in the other one, or by the heads.
use Rattle.c_values.specs.CodeTypes.{type_of}
use Rattle.expression_lang.specs.CodeExpression.{exp_of, path_of}
use Rattle.expression_lang.specs.CodeSort.{scope_by}
use Rattle.assertion_walks.specs.CodePlace.{place_in}
use Rattle.assertion_walks.proofs.UnmadeParts.{own_parts_unmade}
use Rattle.assertion_walks.proofs.ReadsUnmade.{read_unmade, never_read, stays_no_read}
use Rattle.assertion_walks.proofs.heap_written.ScopedWritingRemaking.unmade.Goals as goal

pub returns-in_default-clause-some : goal.returns-in_default-clause-some
returns-in_default-clause-some g c =
    let it = c.args.self.now in
    own_parts_unmade _ (exp_of c.args.e.now) (exp_of c.args.other.now)
    (stays_no_read (scope_by it.layout.now (g.N.Scope.scalars it.names.now) it.globals.now) (place_in it.writing.place)
    (exp_of it.writing.value.now) (exp_of c.args.e.now) (exp_of c.args.other.now) c.in_default.ensures.none)
    c.own_parts.result c.own_parts.ensures.some

pub returns-in_default-of_read_in-clause-none : goal.returns-in_default-of_read_in-clause-none
returns-in_default-of_read_in-clause-none g c =
    let it = c.args.self.now in
    let is = c.in-Some.ensures.some in
    never_read (scope_by it.layout.now (g.N.Scope.scalars it.names.now) it.globals.now) (place_in it.writing.place)
    (exp_of it.writing.value.now) (exp_of c.args.e.now) (exp_of c.args.other.now) (type_of c.in-Some.ty.now) is.0
    (path_of c.in-Some.way.now) is.1 c.in_default-of_read_in.ensures.none

pub returns-then-is_read_before-clause-some : goal.returns-then-is_read_before-clause-some
returns-then-is_read_before-clause-some g c =
    let it = c.args.self.now in
    let is = c.in-Some.ensures.some in
    let read = c.in-Some-of_read_in.ensures.some in
    read_unmade (scope_by it.layout.now (g.N.Scope.scalars it.names.now) it.globals.now) (place_in it.writing.place)
    (exp_of it.writing.value.now) (exp_of c.args.e.now) (exp_of c.args.other.now) (type_of c.in-Some.ty.now) is.0
    (path_of c.in-Some.way.now) is.1 (place_in c.in-Some-of_read_in.read) read.0 read.1 read.2
    (c.is_read_before.ensures.0 c.if-is_read_before.true)
