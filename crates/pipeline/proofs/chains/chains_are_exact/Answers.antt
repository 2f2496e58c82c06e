use Rattle.pipeline.proofs.ChainExact.{chain_is_exact}
use Rattle.pipeline.proofs.chains.chains_are_exact.Goals as goal

pub returns : goal.returns
returns c = chain_is_exact
