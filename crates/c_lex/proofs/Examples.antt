-- What stands at the front of small texts, computed.
use Rattle.std.proofs.Common.{◌≡◌, true, false, refl}
use Rattle.std.specs.Prelude.{codes}
use Rattle.c_lex.specs.declared.token.Keyword.TheVariants.{Int}
use Rattle.c_lex.specs.declared.token.Punct.TheVariants.{PlusPlus, LessLessEqual}
use Rattle.c_lex.specs.declared.fault.Unsupported.TheVariants.{Goto, Ellipsis, Hash}
use Rattle.c_lex.specs.Keyword.{keyword_of}
use Rattle.c_lex.specs.Unsupported.{unsupported_of}
use Rattle.c_lex.specs.Punct.{punct_of, punct_at}
use Rattle.c_lex.specs.Number.{written, number_of}
use Rattle.c_lex.specs.Character.{numeric_escape, escape_of, character_of}
use Rattle.c_lex.specs.Lexeme.{name, keyword, punct, character, number}
use Rattle.c_lex.specs.Front.{front, ends, gap, holds, lacks, bad_byte, bad_number, open_comment, unsupported, word_front, number_front, character_front, comment_front, mark_front}

nothing : front true (codes "") ≡ ends
unfolding front
nothing = refl

a_keyword : front false (codes "int x") ≡ holds (keyword Int) 3
unfolding front word_front keyword_of
a_keyword = refl

a_name : front false (codes "int1;") ≡ holds (name (codes "int1")) 4
unfolding front word_front keyword_of unsupported_of
a_name = refl

a_refused_word : front false (codes "goto x") ≡ lacks (unsupported Goto)
unfolding front word_front keyword_of unsupported_of
a_refused_word = refl

the_longest : front false (codes "+++b") ≡ holds (punct PlusPlus) 2
unfolding front mark_front punct_at punct_of
the_longest = refl

three_bytes : front false (codes "<<=1") ≡ holds (punct LessLessEqual) 3
unfolding front mark_front punct_at punct_of
three_bytes = refl

an_ellipsis : front false (codes "...") ≡ lacks (unsupported Ellipsis)
unfolding front mark_front
an_ellipsis = refl

an_octal_number : front false (codes "017uL;") ≡ holds (number 15 false true 1) 5
unfolding front number_front number_of written
an_octal_number = refl

a_bad_number : front false (codes "08") ≡ lacks bad_number
unfolding front number_front number_of written
a_bad_number = refl

a_fraction : front false (codes "1.5") ≡ lacks bad_number
unfolding front number_front number_of written
a_fraction = refl

an_octal_escape : front false (codes "'\\377'") ≡ holds (character 255) 6
unfolding front character_front character_of escape_of numeric_escape
an_octal_escape = refl

a_large_escape : front false (codes "'\\400'") ≡ lacks bad_byte
unfolding front character_front character_of escape_of numeric_escape
a_large_escape = refl

a_comment : front false (codes "/* * /*/ 1") ≡ gap 8 false
unfolding front comment_front
a_comment = refl

an_open_comment : front false (codes "/*/") ≡ lacks open_comment
unfolding front comment_front
an_open_comment = refl

a_line_mark : front true (codes "# 1 x") ≡ gap 5 false
unfolding front
a_line_mark = refl

no_line_mark : front false (codes "# 1 x") ≡ lacks (unsupported Hash)
unfolding front mark_front
no_line_mark = refl
