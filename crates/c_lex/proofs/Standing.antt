-- A token is read at the front of a text exactly where it stands there.
use Rattle.std.proofs.Common.{◌≡◌, ℕ, Bool, List, length, subst}
use Rattle.c_lex.specs.Lexeme.{Kind, name, keyword, punct, character, number}
use Rattle.c_lex.specs.Front.{front, holds}
use Rattle.c_lex.specs.Spelling.{Stands}
use Rattle.c_lex.proofs.FrontFits.{Fits, front_fits}
use Rattle.c_lex.proofs.TokenSpelling.{told_spelled}
use Rattle.c_lex.proofs.TokenLength.{told_longest}
use Rattle.c_lex.proofs.TokenReading.{read_name, read_keyword, read_punct}
use Rattle.c_lex.proofs.ValueReading.{read_character, read_number}

-- what is read there stands there
pub read_stands : (fresh : Bool) (text : List ℕ) (kind : Kind) (n : ℕ) → front fresh text ≡ holds kind n → Stands kind n text
read_stands fresh text kind n e = record { spelled = told_spelled fresh text kind n e; within = (subst (Fits (length text)) e (front_fits fresh text)).1; longest = told_longest fresh text kind n e }

-- what stands there is read there
pub stands_read : (fresh : Bool) (text : List ℕ) (kind : Kind) (n : ℕ) → Stands kind n text → front fresh text ≡ holds kind n
stands_read fresh text (name s) n h = read_name fresh text s n h.spelled.0 h.spelled.1 h.within h.longest
stands_read fresh text (keyword k) n h = read_keyword fresh text k n h.spelled h.within h.longest
stands_read fresh text (punct x) n h = read_punct text x n h.spelled h.within h.longest fresh
stands_read fresh text (character v) n h = read_character fresh text h.spelled.0 v n h.spelled.1 h.spelled.2 h.within
stands_read fresh text (number v d u l) n h = read_number fresh text v d u l n h.spelled h.within h.longest
