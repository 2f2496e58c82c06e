use Rattle.pipeline.proofs.TakenExact.{taken_is_chain, taken_is_whole, taken_is_exact}
use Rattle.pipeline.proofs.chains.taken_units_are_exact.Goals as goal

pub returns : goal.returns
returns c = record { chain = taken_is_chain; whole = taken_is_whole; exact = taken_is_exact }
