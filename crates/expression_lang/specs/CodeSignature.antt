-- What the code's signatures stand for.
use Rattle.std.specs.Prelude.{map, string_bytes}
use Rattle.std.specs.Option.{option_map}
use Rattle.expression_lang.specs.declared.signatures.Binder as B
use Rattle.expression_lang.specs.declared.signatures.Signature as S
use Rattle.expression_lang.specs.Signature.{Binder, Signature}
use Rattle.expression_lang.specs.CodeExpression.{level_of, kind_of}

abbrev pub binder_of : B.Binder → Binder
binder_of b = record { name = string_bytes b.name; kind = kind_of b.kind }

abbrev pub signature_of : S.Signature → Signature
signature_of s = record { name = string_bytes s.name; level = level_of s.level; params = map binder_of s.params.items; result = option_map kind_of s.result }
