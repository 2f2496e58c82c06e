use Rattle.std.specs.Prelude.{[]}
use Rattle.rule_word.proofs.LevelForm.{form_kept}
use Rattle.rule_word.proofs.ProgramsTaken.{program_taken}
use Rattle.rule_word.proofs.laws.words_are_abstracted.Goals as goal

pub returns : goal.returns
returns c = record {
  taken = λ same numbers ctx table names m kinds is_same sorted binds. program_taken ctx same is_same numbers table [] names m kinds sorted binds;
  formed = λ same level ctx table names m kinds ready form. form_kept same ctx table names m kinds level ready form;
}
