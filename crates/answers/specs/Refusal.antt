-- The lines that refuse a C text.
use Rattle.std.specs.Prelude.{◌≡◌, ℕ, List, ◌++◌, codes}
use Rattle.std.specs.Fmt.{decimal}
use Rattle.c_lex.specs.Front.{Cause, bad_byte, bad_number, open_comment, unsupported, long_name}
use Rattle.c_lex.specs.Unsupported.{unsupported_text}
use Rattle.typing_rules.specs.declared.fault.TypeKind.{TypeKind}
use Rattle.typing_rules.specs.declared.fault.TypeKind.TheVariants as kind
use Rattle.c_limits.specs.declared.limits.Limit.{Limit}
use Rattle.c_parse.specs.declared.fault.ParseFault.{ParseFault}
use Rattle.c_parse.specs.declared.fault.ParseFault.TheVariants as parse
use Rattle.answers.specs.declared.status.Status.{Status}
use Rattle.answers.specs.declared.status.Status.TheVariants as ends
use Rattle.c_limits.specs.declared.limits.Limit.TheVariants.{Functions, Statements, Blocks, Depth, Nodes}

-- why no token stands at a place
abbrev pub cause_text : Cause → List ℕ
cause_text bad_byte = codes "bad byte"
cause_text bad_number = codes "bad number"
cause_text open_comment = codes "open comment"
cause_text (unsupported word) = codes "unsupported " ++ unsupported_text word
cause_text long_name = codes "long name"

-- what is wrong with a node that isn't typed
abbrev pub kind_text : TypeKind → List ℕ
kind_text kind.Unknown = codes "unknown"
kind_text kind.Twice = codes "twice"
kind_text kind.Mismatch = codes "mismatch"
kind_text kind.NotLvalue = codes "not an lvalue"
kind_text kind.Incomplete = codes "incomplete"
kind_text kind.NoBody = codes "no body"
kind_text kind.Arity = codes "arity"
kind_text kind.FallThrough = codes "fall through"
kind_text kind.OutOfSubset = codes "out of subset"
kind_text kind.Large = codes "too large"

-- a kind of refusal, and the offset of its place
abbrev pub source_line : List ℕ → ℕ → List ℕ
source_line kind at = codes "source: " ++ (kind ++ (codes " at " ++ (decimal at ++ codes "\n")))

abbrev pub limit_text : Limit → List ℕ
limit_text Functions = codes "functions"
limit_text Statements = codes "statements"
limit_text Blocks = codes "blocks"
limit_text Depth = codes "depth"
limit_text Nodes = codes "nodes"

abbrev pub limit_line : Limit → List ℕ
limit_line limit = codes "limit: " ++ (limit_text limit ++ codes "\n")

-- the status and the line for what the parser refuses
abbrev pub IsParseRefusal : ParseFault → Status → List ℕ → Type 0
IsParseRefusal (parse.Syntax at) status lines = (status ≡ ends.Source) × (lines ≡ source_line (codes "syntax") at)
IsParseRefusal (parse.Limit limit at) status lines = (status ≡ ends.Limit) × (lines ≡ limit_line limit)
IsParseRefusal parse.Memory status lines = ⊥
