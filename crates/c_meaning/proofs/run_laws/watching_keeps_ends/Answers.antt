use Rattle.expression_lang.specs.GuardKind.{Tag, Wrap}
use Rattle.c_meaning.specs.CValue.{value}
use Rattle.c_meaning.proofs.WatchedValue.{plainly, value_watched, keeps_value}
use Rattle.c_meaning.proofs.WatchedRun.{watched_same}
use Rattle.c_meaning.proofs.run_laws.watching_keeps_ends.Goals as goal

pub returns : goal.returns
returns c = record {
  values = λ x e v h. keeps_value (value x e) (value (plainly x) e) v (value_watched x e) h;
  met_no_extra = watched_same;
  defined = λ u levels p n depth a none. watched_same u levels p n depth a (none Tag) (none Wrap);
}
