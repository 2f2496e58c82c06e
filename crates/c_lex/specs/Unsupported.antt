-- The words and marks of C that are refused, as they are written.
use Rattle.std.specs.Prelude.{ℕ, List, [], ◌∷◌, Option, codes, find}
use Rattle.std.specs.Str.{bytes_eq}
use Rattle.c_lex.specs.declared.fault.Unsupported.{Unsupported}
use Rattle.c_lex.specs.declared.fault.Unsupported.TheVariants.{Asm, Auto, Double, Float, Goto, Register, Restrict, Union, Volatile, Bool, Complex, Imaginary, GnuAsm, Attribute, Extension, StringQuote, Ellipsis, Hash}

abbrev pub unsupported_text : Unsupported → List ℕ
unsupported_text Asm = codes "asm"
unsupported_text Auto = codes "auto"
unsupported_text Double = codes "double"
unsupported_text Float = codes "float"
unsupported_text Goto = codes "goto"
unsupported_text Register = codes "register"
unsupported_text Restrict = codes "restrict"
unsupported_text Union = codes "union"
unsupported_text Volatile = codes "volatile"
unsupported_text Bool = codes "_Bool"
unsupported_text Complex = codes "_Complex"
unsupported_text Imaginary = codes "_Imaginary"
unsupported_text GnuAsm = codes "__asm__"
unsupported_text Attribute = codes "__attribute__"
unsupported_text Extension = codes "__extension__"
unsupported_text StringQuote = codes "\""
unsupported_text Ellipsis = codes "..."
unsupported_text Hash = codes "#"

-- each of them
abbrev pub all_unsupported : List Unsupported
all_unsupported = Asm ∷ Auto ∷ Double ∷ Float ∷ Goto ∷ Register ∷ Restrict ∷ Union ∷ Volatile ∷ Bool ∷ Complex ∷ Imaginary ∷ GnuAsm ∷ Attribute ∷ Extension ∷ StringQuote ∷ Ellipsis ∷ Hash ∷ []

-- the refused word or mark that the bytes are
unfoldable pub unsupported_of : List ℕ → Option Unsupported
unsupported_of bytes = find (λ x. bytes_eq (unsupported_text x) bytes) all_unsupported
