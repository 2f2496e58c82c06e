use Rattle.std.proofs.Common.{◌≡◌, ◌<◌, rules, arith, map, string_bytes, sym, ap, subst, ◌∙◌}
use Rattle.ac_sx.specs.Writing.{written, all_written}
use Rattle.expression_text.specs.Lists.{names_tree}
use Rattle.monad_lang.specs.declared.program.Mon as M
use Rattle.monad_lang.specs.declared.program.Mon.{size-Mon}
use Rattle.monad_lang.specs.CodeProgram.{mon_of}
use Rattle.program_text.specs.MonText.{mon_tree, sequence_parts}
use Rattle.program_text.proofs.Writing.{sequence_written}
use Rattle.program_text.proofs.mon_writing.+written.Goals as goal

after_bind : (p : _) (m : M.Mon) (xs : _) (q : _) (n : M.Mon) → size-Mon n < size-Mon (M.Bind' p m xs q n)
after_bind p m xs q n = search (rules, M.the_lemmas)

last_is_smaller : (m : M.Mon) (first : _) (names : _) (last : _) → m ≡ M.Bind first names last → size-Mon last.value < size-Mon m
last_is_smaller m first names last e = subst (λ q. size-Mon last.value < size-Mon q) (sym e) (after_bind _ first.value names _ last.value)

pub binds_into-binds-preserved : goal.binds_into-binds-preserved
binds_into-binds-preserved g t c = record {
  same =
      let w = g.W.TreeWriter.writing in
      let old = g.W.TreeWriter.state c.binds.out in
      let mid = g.W.TreeWriter.state c.names_into.new.out in
      let new = g.W.TreeWriter.state c.mon_into.new.out in
      ap (λ m. all_written w new (sequence_parts (mon_of m))) c.deref-rest.ensures
      ∙ sequence_written w old mid new (mon_of c.in-Bind.first.value) (map string_bytes c.in-Bind.names.items) (mon_of c.in-Bind.last.value) (mon_of c.binds.rest.now) _
      (c.in_ok-names_into.ensures ∙ ap (λ ns. written w old (names_tree (map string_bytes ns))) c.deref.ensures.value)
      (c.in_ok-mon_into.ensures ∙ ap (λ m. written w mid (mon_tree (mon_of m))) c.deref-in-Bind.ensures) (ap mon_of c.in-Bind.is) c.binds.invariant.same;
  smaller = let h = last_is_smaller c.binds.rest.now c.in-Bind.first c.in-Bind.names c.in-Bind.last c.in-Bind.is in omega (arith, ap size-Mon c.deref-rest.ensures);
}
