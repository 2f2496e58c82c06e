use Rattle.c_integers.proofs.candidates.Goals as goal

pub returns-then-unsigned : goal.returns-then-unsigned
returns-then-unsigned c = rw c.if-unsigned.true (c.unsigned_candidates.ensures c.args.decimal)
