-- What is said of each kind of fault in a C text, for those who write C.
use Rattle.std.specs.Prelude.{ℕ, List, codes}
use Rattle.c_lex.specs.declared.fault.Unsupported.{Unsupported}
use Rattle.c_lex.specs.declared.fault.Unsupported.TheVariants as word
use Rattle.c_limits.specs.declared.limits.Limit.{Limit}
use Rattle.c_limits.specs.declared.limits.Limit.TheVariants as limit
use Rattle.typing_rules.specs.declared.fault.TypeKind.{TypeKind}
use Rattle.typing_rules.specs.declared.fault.TypeKind.TheVariants as kind
use Rattle.remarks.specs.declared.fault.Cause.{Cause}
use Rattle.remarks.specs.declared.fault.Cause.TheVariants as cause

-- a word or a mark that isn't taken
abbrev pub unsupported_sentence : Unsupported → List ℕ
unsupported_sentence word.Asm = codes "there is no assembly in the subset"
unsupported_sentence word.Auto = codes "`auto` isn't in the subset: leave it out"
unsupported_sentence word.Double = codes "there are no floating types in the subset: count in integers"
unsupported_sentence word.Float = codes "there are no floating types in the subset: count in integers"
unsupported_sentence word.Goto = codes "`goto` isn't in the subset: use a loop, `break`, `continue` or `return`"
unsupported_sentence word.Register = codes "`register` isn't in the subset: leave it out"
unsupported_sentence word.Restrict = codes "`restrict` isn't in the subset: leave it out"
unsupported_sentence word.Union = codes "`union` isn't in the subset: use a struct, or bytes"
unsupported_sentence word.Volatile = codes "`volatile` isn't in the subset: nothing but the program changes its objects"
unsupported_sentence word.Bool = codes "`_Bool` isn't in the subset: use `int` or `unsigned char`"
unsupported_sentence word.Complex = codes "there are no floating types in the subset: count in integers"
unsupported_sentence word.Imaginary = codes "there are no floating types in the subset: count in integers"
unsupported_sentence word.GnuAsm = codes "there is no assembly in the subset"
unsupported_sentence word.Attribute = codes "attributes aren't in the subset: leave it out"
unsupported_sentence word.Extension = codes "extensions aren't in the subset: leave it out"
unsupported_sentence word.StringQuote = codes "strings aren't in the subset: use an array of `char`"
unsupported_sentence word.Ellipsis = codes "functions have a fixed number of parameters in the subset"
unsupported_sentence word.Hash = codes "directives aren't read: run the preprocessor first, as `cc -E` does"

abbrev pub limit_sentence : Limit → List ℕ
limit_sentence limit.Functions = codes "a text has at most 1024 functions with bodies: part it into files"
limit_sentence limit.Statements = codes "a function has at most 200 statements, declared locals included: part it into functions"
limit_sentence limit.Blocks = codes "at most 32 statements stand one inside the other: make functions of the inner ones"
limit_sentence limit.Depth = codes "the parts of an expression nest at most 32 deep: name some of them by locals"
limit_sentence limit.Nodes = codes "an expression has at most 128 names, constants, operators and parentheses: name parts of it by locals"

abbrev pub kind_sentence : TypeKind → List ℕ
kind_sentence kind.Unknown = codes "this name, tag or member isn't declared before"
kind_sentence kind.Twice = codes "this is declared, defined, initialised or labelled a second time"
kind_sentence kind.Mismatch = codes "the types of the operands don't fit, or this isn't the constant or the statement that is needed here"
kind_sentence kind.NotLvalue = codes "this has no place in memory: `=`, `++`, `--` and `&` need a variable, a member, an element or `*p`"
kind_sentence kind.Incomplete = codes "an object is needed here, and this is `void` or a struct whose body hasn't stood yet"
kind_sentence kind.NoBody = codes "this function has no body in the text: give it one"
kind_sentence kind.Arity = codes "this call has more or fewer arguments than the function has parameters"
kind_sentence kind.FallThrough = codes "these cases run into the next ones: end them by `break`, `continue` or `return`"
kind_sentence kind.OutOfSubset = codes "this is C, but not in the subset that is read"
kind_sentence kind.Large = codes "an array has 1 to 4096 elements, and an array or a struct at most 65536 bytes"

abbrev pub sentence : Cause → List ℕ
sentence cause.BadByte = codes "no token begins here: this isn't a character of C outside comments, or its quote isn't that of one ASCII character"
sentence cause.BadNumber = codes "this is no integer constant, or none that 64 bits hold; there are no floating constants"
sentence cause.OpenComment = codes "this comment isn't ended: write */ behind it"
sentence (cause.Unsupported word) = unsupported_sentence word
sentence cause.LongName = codes "this name has more than 63 characters: choose a shorter one"
sentence cause.Syntax = codes "this can't stand here, or more has to follow: in the subset assignments, `++`, `--` and calls stand in no expression"
sentence (cause.Limit limit) = limit_sentence limit
sentence (cause.Typing kind) = kind_sentence kind
