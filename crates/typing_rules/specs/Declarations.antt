-- Declarations of types, members, enumerators and tags: the rules (C99 6.7.2, 6.7.5).
use Rattle.std.specs.Prelude.{ℕ, zero, suc, ◌+◌, ◌==◌, length, nat_le, Bool, true, false, not, ◌&&◌, ◌||◌, List, [], ◌∷◌, ◌++◌, map, Option, Some, None, option_and_then, is_some, is_none, ℤ, pos, negsuc, codes, ◌+ℤ◌, if◌then◌else◌}
use Rattle.std.specs.Fmt.{decimal}
use Rattle.c_lex.specs.declared.token.Keyword.{Keyword}
use Rattle.c_lex.specs.declared.token.Keyword.TheVariants as K
use Rattle.typing_rules.specs.declared.specifiers.Times.{Times}
use Rattle.typing_rules.specs.declared.specifiers.Times.TheVariants as N
use Rattle.typing_rules.specs.declared.specifiers.Integers.{Integers}
use Rattle.c_values.specs.Name.{Name, with_name, is_among}
use Rattle.c_values.specs.Types.{IntType, Char, SChar, UChar, Short, UShort, Int, UInt, Long, ULong, LLong, ULLong, CType, Integer, Void, Ptr, Struct, Array}
use Rattle.c_values.specs.Number.{is_of_type}
use Rattle.c_values.specs.Growth.{with_struct, can_follow, struct_named}
use Rattle.c_values.specs.Layout.{Layout, Member, StructDef, is_object}
use Rattle.typing_rules.specs.declared.fault.TypeKind.TheVariants.{Unknown, Twice, Mismatch, Incomplete, OutOfSubset, Large}
use Rattle.typing_rules.specs.Scope.{Scope, Tag, StructTag, EnumTag, Enumerator, is_declared_here, declare}
use Rattle.typing_rules.specs.Checked.{Ruling, Ruled, Refused, refuse, ◌>=>◌}
use Rattle.typing_rules.specs.Operand.{is_array}

-- no `signed` or `unsigned`, or one of these
pub data Signedness : Type 0 where
  Plain : Signedness
  Signed : Signedness
  Unsigned : Signedness

abbrev pub signedness : Times → Times → Option Signedness
signedness N.Never N.Never = Some Plain
signedness N.Once N.Never = Some Signed
signedness N.Never N.Once = Some Unsigned
signedness _ _ = None

abbrev pub char_type : Signedness → IntType
char_type Plain = Char
char_type Signed = SChar
char_type Unsigned = UChar

abbrev pub short_type : Signedness → IntType
short_type Unsigned = UShort
short_type _ = Short

abbrev pub int_type : Signedness → IntType
int_type Unsigned = UInt
int_type _ = Int

abbrev pub long_type : Signedness → IntType
long_type Unsigned = ULong
long_type _ = Long

abbrev pub long_long_type : Signedness → IntType
long_long_type Unsigned = ULLong
long_long_type _ = LLong

-- by how often `char`, `short` and `long` stand
abbrev pub sized : Signedness → Times → Times → Times → Option IntType
sized s N.Never N.Never N.Never = Some (int_type s)
sized s N.Once N.Never N.Never = Some (char_type s)
sized s N.Never N.Once N.Never = Some (short_type s)
sized s N.Never N.Never N.Once = Some (long_type s)
sized s N.Never N.Never N.Twice = Some (long_long_type s)
sized s _ _ _ = None

-- `int` stands at most once, and not beside `char`
abbrev pub fits_int : Times → Times → Bool
fits_int N.Never chars = true
fits_int N.Once N.Never = true
fits_int _ _ = false

-- the type that integer words write (C99 6.7.2p2)
abbrev pub integer_type : Integers → Option IntType
integer_type n =
    option_and_then (λ s. if fits_int n.ints n.chars then sized s n.chars n.shorts n.longs else None)
    (signedness n.signeds n.unsigneds)

-- what one word says: a keyword, or a type
pub data Part : Type 0 where
  Word : Keyword → Part
  Type' : CType → Part

-- the types that aren't made of integer words
pub data Named : Type 0 where
  NoType : Named
  OneType : CType → Named
  MoreTypes : Named

-- what the words of a type and its storage say: how often each integer word stands, and whether any does
pub record Specs : Type 0 where
  pub integers : Integers
  pub has_integers : Bool
  pub named : Named
  pub is_static : Bool
  pub is_extern : Bool

abbrev pub no_specs : Specs
no_specs =
    record {
      integers = record { chars = N.Never; shorts = N.Never; ints = N.Never; longs = N.Never; signeds = N.Never; unsigneds = N.Never };
      has_integers = false;
      named = NoType;
      is_static = false;
      is_extern = false;
    }

abbrev pub again : Times → Times
again N.Never = N.Once
again N.Once = N.Twice
again _ = N.More

abbrev pub with_integers : Specs → Integers → Specs
with_integers b n = record b { integers = n; has_integers = true }

abbrev pub with_named : Named → CType → Named
with_named NoType t = OneType t
with_named _ t = MoreTypes

abbrev pub with_type : Specs → CType → Specs
with_type b t = record b { named = with_named b.named t }

abbrev pub with_storage : Specs → Bool → Bool → Specs
with_storage b is_static is_extern = record b { is_static = b.is_static || is_static; is_extern = b.is_extern || is_extern }

abbrev pub with_keyword : Specs → Keyword → Specs
with_keyword b K.Char = with_integers b (record b.integers { chars = again b.integers.chars })
with_keyword b K.Short = with_integers b (record b.integers { shorts = again b.integers.shorts })
with_keyword b K.Int = with_integers b (record b.integers { ints = again b.integers.ints })
with_keyword b K.Long = with_integers b (record b.integers { longs = again b.integers.longs })
with_keyword b K.Signed = with_integers b (record b.integers { signeds = again b.integers.signeds })
with_keyword b K.Unsigned = with_integers b (record b.integers { unsigneds = again b.integers.unsigneds })
with_keyword b K.Void = with_type b Void
with_keyword b K.Static = with_storage b true false
with_keyword b K.Extern = with_storage b false true
with_keyword b _ = b

abbrev pub with_part : Specs → Part → Specs
with_part b (Word k) = with_keyword b k
with_part b (Type' t) = with_type b t

-- a type, and whether `static` or `extern` stands beside it
pub record Base : Type 0 where
  pub type : CType
  pub is_static : Bool
  pub is_extern : Bool

abbrev pub integer_base : Option IntType → Ruling CType
integer_base None = Refused OutOfSubset
integer_base (Some i) = Ruled (Integer i)

-- one type, or integer words that write one
abbrev pub base_type : Bool → Integers → Named → Ruling CType
base_type false n (OneType t) = Ruled t
base_type true n NoType = integer_base (integer_type n)
base_type _ n _ = Refused OutOfSubset

abbrev pub base : Specs → Ruling Base
base b = base_type b.has_integers b.integers b.named >=> λ t. Ruled (record { type = t; is_static = b.is_static; is_extern = b.is_extern })

-- stars around a type
abbrev pub pointers : ℕ → CType → CType
pointers zero t = t
pointers (suc n) t = Ptr (pointers n t)

-- arrays of a type, the length of the outermost first
abbrev pub arrays : List ℕ → CType → CType
arrays [] t = t
arrays (n ∷ ns) t = Array (arrays ns t) n

-- a length; one outside 1 to 4,096 is 0, and no object has it
abbrev pub length_at : ℤ → ℕ
length_at (pos n) = if nat_le n 4096 then n else 0
length_at (negsuc n) = 0

abbrev pub is_void : CType → Bool
is_void Void = true
is_void _ = false

-- what the elements of an array are in the end
abbrev pub element : CType → CType
element (Array t n) = element t
element t = t

-- `void` or a struct without a body, or an array of such
abbrev pub is_incomplete : Layout → CType → Bool
is_incomplete l t = not (is_object l (element t))

-- an array of what is incomplete
abbrev pub has_incomplete_elements : Layout → CType → Bool
has_incomplete_elements l t = is_array t && is_incomplete l t

-- there is no pointer to an array
abbrev pub points_to_array : CType → Bool
points_to_array (Ptr t) = is_array t || points_to_array t
points_to_array (Array t n) = points_to_array t
points_to_array _ = false

-- an array with a length outside 1 to 4,096, or of more than 65,536 bytes
abbrev pub is_large : Layout → CType → Bool
is_large l t = is_array t && not (is_object l t)

-- a declarator: its offset, its name, and its type
pub record Declared : Type 0 where
  pub at : ℕ
  pub name : Name
  pub type : CType

abbrev pub member_names : List Member → List Name
member_names ms = map (λ m. m.name) ms

-- a member behind others: its name is new, and it is an object
abbrev pub joined : Layout → List Member → Declared → Ruling (List Member)
joined l ms d =
    refuse (is_among d.name (member_names ms)) Twice
    (refuse (is_incomplete l d.type) Incomplete
    (refuse (points_to_array d.type) OutOfSubset
    (refuse (is_large l d.type) Large
    (Ruled (ms ++ (record { name = d.name; type = d.type } ∷ []))))))

abbrev pub is_enum_tag : Option Tag → Bool
is_enum_tag (Some EnumTag) = true
is_enum_tag _ = false

-- a tag without a name has the number of its struct
abbrev pub tag_name : ℕ → Option Name → Name
tag_name k (Some x) = x
tag_name k None = codes "$" ++ decimal (k + 1)

-- names a tag where none has the name
abbrev pub with_tag : Tag → Name → Scope → Scope
with_tag t x s = record s { tags = with_name x (Some t) s.tags }

abbrev pub mention : Option Name → Scope → Scope
mention None s = s
mention (Some x) s = if is_some (s.tags x) then s else with_tag StructTag x s

-- a struct's body: its tag has no other one and is no enum's, its members are complete, as each is where it is declared, and
-- it isn't too large
abbrev pub defined : StructDef → Scope → Ruling Scope
defined d s =
    refuse (is_enum_tag (s.tags d.name) || is_some (struct_named s.layout.structs d.name)) Twice
    (refuse (not (can_follow s.layout d)) Incomplete
    (refuse (not (is_object (with_struct s.layout d) (Struct d.name))) Large
    (Ruled (record s { layout = with_struct s.layout d }))))

-- a struct without a tag counts
abbrev pub counted : Option Name → Scope → Scope
counted x s = record s { unnamed = if is_none x then s.unnamed + 1 else s.unnamed }

-- a struct by its tag, which is no enum's
abbrev pub struct_tag : Name → Scope → Ruling (CType × Scope)
struct_tag x s = refuse (is_enum_tag (s.tags x)) Twice (Ruled (Struct x, mention (Some x) s))

-- a struct with its members
abbrev pub struct_body : Option Name → List Member → Scope → Ruling (CType × Scope)
struct_body x ms s =
    let x' = tag_name s.unnamed x in
    defined (record { name = x'; members = ms }) s >=> λ t. Ruled (Struct x', counted x t)

-- an enum by its tag, which is declared
abbrev pub enum_tag : Name → Scope → Ruling CType
enum_tag x s = refuse (not (is_enum_tag (s.tags x))) Unknown (Ruled (Integer Int))

abbrev pub is_tagged : Option Name → Scope → Bool
is_tagged None s = false
is_tagged (Some x) s = is_some (s.tags x)

abbrev pub enumerate : Option Name → Scope → Scope
enumerate None s = s
enumerate (Some x) s = with_tag EnumTag x s

-- an enum with its enumerators: its tag is new
abbrev pub enum_body : Option Name → Scope → Ruling (CType × Scope)
enum_body x s = refuse (is_tagged x s) Twice (Ruled (Integer Int, enumerate x s))

-- the value that is written for an enumerator is an int
abbrev pub enumerator_value : ℤ → Scope → Ruling ℤ
enumerator_value n s = refuse (not (is_of_type s.layout.target Int n)) Mismatch (Ruled n)

-- the innermost block has the name; outside functions a type may have it
abbrev pub has_name_here : Scope → Name → Bool
has_name_here s x = is_declared_here s.blocks x || length s.blocks == 1 && is_some (s.typedefs x)

-- an enumerator: its name is new in its block, and its value is an int; with the value of the next one
abbrev pub enumerator : Name → ℤ → Scope → Ruling (ℤ × Scope)
enumerator x n s =
    refuse (has_name_here s x) Twice
    (refuse (not (is_of_type s.layout.target Int n)) Mismatch
    (Ruled (n +ℤ pos 1, declare x (Enumerator n) s)))
