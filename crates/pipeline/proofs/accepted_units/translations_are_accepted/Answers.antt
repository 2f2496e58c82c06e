use Rattle.pipeline.proofs.MadeAccepted.{made_is_accepted, certificates_are_there, tidy_is_accepted, last_are_tidy}
use Rattle.generation.specs.Generate.{generated}
use Rattle.pipeline.proofs.accepted_units.translations_are_accepted.Goals as goal

pub returns : goal.returns
returns c = record {
  made = made_is_accepted;
  there = certificates_are_there;
  tidy = λ same is_same finds u typed levels calls. (
    tidy_is_accepted same is_same finds u typed levels calls,
    last_are_tidy same (generated u levels) (generated u levels).functions (generated u levels).signatures,
  );
}
