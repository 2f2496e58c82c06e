use Rattle.c_lex.proofs.GapReading.{gap_read, read_gap}
use Rattle.c_lex.proofs.Standing.{stands_read, read_stands}
use Rattle.c_lex.proofs.laws.longest_tokens.Goals as goal

pub returns : goal.returns
returns c = record {
  tokens = λ fresh text kind n. (read_stands fresh text kind n, stands_read fresh text kind n);
  gaps = λ fresh after text n. (read_gap fresh text n after, gap_read);
}
