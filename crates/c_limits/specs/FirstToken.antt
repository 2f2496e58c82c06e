-- Where a tree begins: the offset of its first token.
use Rattle.std.specs.Prelude.{ℕ, List, [], ◌∷◌, Option, Some, None, unwrap_or}
use Rattle.c_grammar.specs.Tree as tree
use Rattle.c_grammar.specs.Tree.{Exp, Words, Word, Declarator, Call, Simple}

abbrev pub first_of : Exp → ℕ
first_of (tree.Variable a n) = a
first_of (tree.Number a value decimal unsigned longs) = a
first_of (tree.Character a value) = a
first_of (tree.Parenthesis a e) = a
first_of (tree.Index e i) = first_of e
first_of (tree.Member e n) = first_of e
first_of (tree.PointerMember e n) = first_of e
first_of (tree.Unary a o e) = a
first_of (tree.SizeofValue a e) = a
first_of (tree.SizeofType a t) = a
first_of (tree.Cast a t e) = a
first_of (tree.Binary o x y) = first_of x
first_of (tree.Conditional c x y) = first_of c

abbrev pub first_of_call : Call → ℕ
first_of_call (tree.Calls a n es) = a

abbrev pub first_of_simple : Simple → ℕ
first_of_simple (tree.Assign e r) = first_of e
first_of_simple (tree.Update o e x) = first_of e
first_of_simple (tree.After o e) = first_of e
first_of_simple (tree.Before a o e) = a
first_of_simple (tree.Invoke c) = first_of_call c

abbrev pub first_of_stars : List ℕ → Option ℕ
first_of_stars [] = None
first_of_stars (a ∷ stars) = Some a

abbrev pub first_of_declarator : Declarator → ℕ
first_of_declarator (tree.Declare stars a n dims) = unwrap_or (first_of_stars stars) a

abbrev pub first_of_word : Word → ℕ
first_of_word (tree.Reserved a k) = a
first_of_word (tree.Named a n) = a
first_of_word (tree.StructTag a n) = a
first_of_word (tree.StructBody a n ms) = a
first_of_word (tree.EnumTag a n) = a
first_of_word (tree.EnumBody a n es) = a

abbrev pub first_of_words : Words → Option ℕ
first_of_words tree.NoWords = None
first_of_words (tree.MoreWords w ws) = Some (first_of_word w)

abbrev pub first_of_function : Words → Declarator → ℕ
first_of_function ws d = unwrap_or (first_of_words ws) (first_of_declarator d)
