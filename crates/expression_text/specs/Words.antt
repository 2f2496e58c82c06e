-- Words that stand for one thing each.
use Rattle.std.specs.Prelude.{List, [], ◌∷◌, Option, Some, None, codes, if◌then◌else◌}
use Rattle.c_values.specs.Name.{Name, same_name}
use Rattle.c_values.specs.Types.{IntType, Char, SChar, UChar, Short, UShort, Int, UInt, Long, ULong, LLong, ULLong}

-- the first of these whose word this is
abbrev pub looked_up : {A : Type 0} → (A → Name) → List A → Name → Option A
looked_up word [] w = None
looked_up word (a ∷ as') w = if same_name (word a) w then Some a else looked_up word as' w

abbrev pub int_type_word : IntType → Name
int_type_word Char = codes "char"
int_type_word SChar = codes "schar"
int_type_word UChar = codes "uchar"
int_type_word Short = codes "short"
int_type_word UShort = codes "ushort"
int_type_word Int = codes "int"
int_type_word UInt = codes "uint"
int_type_word Long = codes "long"
int_type_word ULong = codes "ulong"
int_type_word LLong = codes "llong"
int_type_word ULLong = codes "ullong"

abbrev pub int_types : List IntType
int_types = Char ∷ SChar ∷ UChar ∷ Short ∷ UShort ∷ Int ∷ UInt ∷ Long ∷ ULong ∷ LLong ∷ ULLong ∷ []

-- what a list that is a type begins with
pub data TypeHead : Type 0 where
  PtrHead : TypeHead
  StructHead : TypeHead
  ArrayHead : TypeHead

abbrev pub type_head_word : TypeHead → Name
type_head_word PtrHead = codes "ptr"
type_head_word StructHead = codes "struct"
type_head_word ArrayHead = codes "array"

abbrev pub type_heads : List TypeHead
type_heads = PtrHead ∷ StructHead ∷ ArrayHead ∷ []
