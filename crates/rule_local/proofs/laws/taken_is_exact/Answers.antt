use Rattle.simpl_lang.specs.Exec as Simpl
use Rattle.monad_lang.specs.Run as Mon
use Rattle.rule_local.proofs.Signed.{below_signed}
use Rattle.rule_local.proofs.Sound.{takes_sound, takes_whole_sound}
use Rattle.rule_local.proofs.laws.taken_is_exact.Goals as goal

pub returns : goal.returns
returns c = record {
  part = λ ctx t left right vs h u v p n k fit depth m env a. takes_sound u.layout p ctx u.signatures t left right vs h depth (Simpl.functions_below u p n) (Mon.functions_below v p n) (below_signed u p n (Mon.functions_below v p n) k) fit m env a;
  body = λ ctx t left right vs h u v p n k fit depth m env a. takes_whole_sound u.layout p ctx u.signatures t left right vs h depth (Simpl.functions_below u p n) (Mon.functions_below v p n) (below_signed u p n (Mon.functions_below v p n) k) fit m env a;
}
