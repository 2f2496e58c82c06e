use Rattle.local_lift.proofs.LiveIsFree.{live_is_free}
use Rattle.local_lift.proofs.ByLive.{whole_by_live_is}
use Rattle.local_lift.proofs.laws.lifted_by_live.Goals as goal

pub returns : goal.returns
returns c = record { free = λ bs a vs o y. live_is_free bs a o vs y; whole = λ ctx a vs o. whole_by_live_is ctx a o vs }
