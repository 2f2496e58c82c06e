-- What stands in parentheses for no parameters.
use Rattle.std.specs.Prelude.{Bool, true, false, [], None}
use Rattle.c_grammar.specs.Tree as tree
use Rattle.c_grammar.specs.Tree.{Words, Param}
use Rattle.c_lex.specs.declared.token.Keyword.TheVariants as key

-- `void` alone
abbrev pub is_void_word : Words → Bool
is_void_word (tree.MoreWords (tree.Reserved a key.Void) tree.NoWords) = true
is_void_word ws = false

abbrev pub is_void : Param → Bool
is_void (tree.Parameter ws [] None tree.NoBracket) = is_void_word ws
is_void pa = false
