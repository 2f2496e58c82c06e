-- What the code's heads stand for.
use Rattle.expression_text.specs.declared.words.TypeHead as T
use Rattle.expression_text.specs.Words.{TypeHead, PtrHead, StructHead, ArrayHead}

abbrev pub type_head_of : T.TypeHead → TypeHead
type_head_of T.TheVariants.Ptr = PtrHead
type_head_of T.TheVariants.Struct = StructHead
type_head_of T.TheVariants.Array = ArrayHead
