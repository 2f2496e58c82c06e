-- What a verdict on one function decides: whether its calls and its steps are accepted. (Its name and its level are compared
-- before.)
use Rattle.std.specs.Prelude.{◌≡◌, true, Result, Ok, Err}
use Rattle.expression_lang.specs.Sort.{is_lifted}
use Rattle.expression_lang.specs.Signature.{Signature}
use Rattle.simpl_lang.specs.Command.{SimplFn, SimplUnit}
use Rattle.acceptance.specs.Certificate.{Steps}
use Rattle.acceptance.specs.Accepted.{calls_lifted, IsExceptionStep, IsLocalStep, IsHeapStep, IsWordStep, IsEqualStep}
use Rattle.acceptance.specs.Verdict.{Place}

-- all that is asked of an accepted function but its name and its level
pub record AreStepsAccepted (u : SimplUnit) (f : SimplFn) (s : Signature) (c : Steps) : Type 0 where
  pub calls : calls_lifted u c.level f.body ≡ true
  pub exception : IsExceptionStep u f c
  pub local : IsLocalStep u f s c
  pub heap : IsHeapStep u s c.local.program (is_lifted c.level) c.heap
  pub word : IsWordStep u s c
  pub equal : IsEqualStep u s c

abbrev pub Decides : SimplUnit → SimplFn → Signature → Steps → Result (Unit {0}) Place → Type 0
Decides u f s c (Ok done) = AreStepsAccepted u f s c
Decides u f s c (Err place) = AreStepsAccepted u f s c → ⊥
