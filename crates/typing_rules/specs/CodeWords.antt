-- What the code finds of the words of a type and of declarators stands for.
use Rattle.c_values.specs.CodeTypes.{type_of}
use Rattle.typing_rules.specs.declared.specifiers.Part.{Part as CodePart}
use Rattle.typing_rules.specs.declared.specifiers.Part.TheVariants as P
use Rattle.typing_rules.specs.declared.specifiers.Named.{Named as CodeNamed}
use Rattle.typing_rules.specs.declared.specifiers.Named.TheVariants as N
use Rattle.typing_rules.specs.declared.specifiers.Specs.{Specs as CodeSpecs}
use Rattle.typing_rules.specs.declared.specifiers.Base.{Base as CodeBase}
use Rattle.typing_rules.specs.declared.specifiers.Signedness.{Signedness as CodeSignedness}
use Rattle.typing_rules.specs.declared.specifiers.Signedness.TheVariants as S
use Rattle.typing_rules.specs.Declarations.{Part, Word, Type', Named, NoType, OneType, MoreTypes, Specs, Base, Signedness, Plain, Signed, Unsigned}

abbrev pub part_of : CodePart → Part
part_of (P.Word k) = Word k
part_of (P.Type t) = Type' (type_of t)

abbrev pub named_of : CodeNamed → Named
named_of N.None = NoType
named_of (N.One t) = OneType (type_of t)
named_of N.Several = MoreTypes

abbrev pub specs_of : CodeSpecs → Specs
specs_of b =
    record {
      integers = b.integers;
      has_integers = b.has_integers;
      named = named_of b.named;
      is_static = b.is_static;
      is_extern = b.is_extern;
    }

abbrev pub base_of : CodeBase → Base
base_of b = record { type = type_of b.ty; is_static = b.is_static; is_extern = b.is_extern }

abbrev pub signedness_of : CodeSignedness → Signedness
signedness_of S.Plain = Plain
signedness_of S.Signed = Signed
signedness_of S.Unsigned = Unsigned
