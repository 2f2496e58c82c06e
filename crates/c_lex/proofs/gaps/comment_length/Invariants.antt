use Rattle.std.proofs.Common.{◌≡◌, drop}
use Rattle.c_lex.specs.Gap.{comment_length}
use Rattle.c_lex.proofs.CommentLength.{later}
use Rattle.c_lex.proofs.gaps.comment_length.Given as goal

abbrev pub invariant-loop-i : goal.invariant-loop-i
invariant-loop-i l = later l.i (comment_length (drop l.i l.text)) ≡ comment_length l.text
