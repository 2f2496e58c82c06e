use Rattle.simpl_lang.specs.Exec.{functions_below}
use Rattle.rule_exn.proofs.Sound.{takes_sound}
use Rattle.rule_exn.proofs.laws.taken_is_exact.Goals as goal

pub returns : goal.returns
returns c = λ t left right h unnamed u v p n k locals depth m m' f. takes_sound u.layout p t left right h unnamed locals depth (functions_below u p n) (functions_below v p n) k m m' f
