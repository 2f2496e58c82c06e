use Rattle.std.proofs.Common.{ap, arith, sym, ◌∙◌}
use Rattle.c_grammar.proofs.Kept.{joined, kept_made, kept_next}
use Rattle.c_grammar.specs.Operators.{is_made}
use Rattle.c_grammar.proofs.names.Names.end.Goals as goal

pub invariant_of-self-in-loop-self : goal.invariant_of-self-in-loop-self
invariant_of-self-in-loop-self c = record {
  within = omega arith;
  same = λ n. joined (λ name. name.now) c.loop-self.self.all.items c.loop-self.self.made c.index-name.result.now n _ _ (omega arith) c.index-name.ensures (c.loop-self.self.same n) (c.in_ok-insert.ensures.updates.0 (record { ref_ptr = (0, 0); now = n }));
}

pub invariant_of-self-else-typedef : goal.invariant_of-self-else-typedef
invariant_of-self-else-typedef c = record {
  within = omega (arith, c.args.self.now.within, c.truncate.ensures.len);
  same = λ n. c.args.self.now.same n ∙ ap (λ names. is_made names n) (sym (kept_made (λ name. name.now) c.args.self.now.all.items c.truncate.new.self.items c.args.self.now.made c.truncate.ensures.items));
}

pub returns-else-typedef-clause-made : goal.returns-else-typedef-clause-made
returns-else-typedef-clause-made c = rw c.if-typedef.false (kept_made (λ name. name.now) c.args.self.now.all.items c.truncate.new.self.items c.args.self.now.made c.truncate.ensures.items)

pub returns-else-typedef-clause-next : goal.returns-else-typedef-clause-next
returns-else-typedef-clause-next c = rw c.if-typedef.false (kept_next (λ name. name.now) c.args.self.now.all.items c.truncate.new.self.items c.args.self.now.made c.truncate.ensures.items)
