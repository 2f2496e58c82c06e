-- What the code's progress stands for.
use Rattle.std.specs.Prelude.{map, string_bytes}
use Rattle.typing_rules.specs.declared.progress.Progress as P
use Rattle.typing_rules.specs.Progress.{Progress}
use Rattle.c_lang.specs.CodeTyped.{variable_of}

abbrev pub progress_of : P.Progress → Progress
progress_of p = record {
  calls = p.calls;
  switches = p.switches;
  do_whiles = p.do_whiles;
  declared = map string_bytes p.declared.items;
  locals = map variable_of p.locals.items;
}
