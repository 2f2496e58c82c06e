-- What the code finds at the end of a path stands for.
use Rattle.typing_nodes.specs.declared.addresses.Tail.{Tail as CodeTail}
use Rattle.typing_nodes.specs.declared.addresses.Tail.TheVariants as T
use Rattle.typing_rules.specs.Expressions.{Tail, Nothing, LastMember, LastElement}
use Rattle.c_lang.specs.CodeTyped.{expr_of, path_of}

abbrev pub tail_of : CodeTail → Tail
tail_of T.Nothing = Nothing
tail_of (T.Member path) = LastMember (path_of path)
tail_of (T.Element path n i) = LastElement (path_of path) n (expr_of i.value)
