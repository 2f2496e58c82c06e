-- Which expressions, types and declarators are typed, and how (C99 6.5, 6.6, 6.7.2, 6.7.5, 6.7.6): a judgement for each kind of
-- node.
use Rattle.std.specs.Prelude.{ℕ, ◌+◌, Bool, true, false, not, ◌||◌, List, [], ◌∷◌, ◌++◌, length, Option, Some, None, ℤ, pos, if◌then◌else◌}
use Rattle.std.specs.Option.{option_map_or}
use Rattle.c_lex.specs.declared.token.Keyword.TheVariants as K
use Rattle.c_grammar.specs.Tree as tree
use Rattle.c_grammar.specs.declared.operator.UnaryOperator.{UnaryOperator}
use Rattle.c_grammar.specs.declared.operator.UnaryOperator.TheVariants as U
use Rattle.c_values.specs.Name.{Name, same_name}
use Rattle.c_values.specs.Types.{IntType, Int, CType, Integer, Ptr, Struct, Array, size_type}
use Rattle.c_values.specs.Growth.{struct_named}
use Rattle.c_values.specs.Layout.{Layout, Member, StructDef, is_object, size_of}
use Rattle.typing_rules.specs.declared.fault.TypeKind.TheVariants.{Unknown, Mismatch, NotLvalue, Incomplete, OutOfSubset}
use Rattle.typing_rules.specs.Scope.{Scope, Entity, Enumerator, Global, Function, Local, Hidden, entity}
use Rattle.typing_rules.specs.Checked.{Judgement, pure, rule, changed, after, declares, ◌>>=◌, Ruling, Ruled, Refused, refuse, ◌>=>◌}
use Rattle.c_integers.specs.Integers.{number_type}
use Rattle.typing_rules.specs.Constant.{constant_value}
use Rattle.typing_rules.specs.Operand.{Operand, Valued, Variable, At, Demand, ForValue, ForElement, ForPlace, value_in, operand_type, operand_has_cast, used, place_then, is_array}
use Rattle.typing_rules.specs.Operators.{promoting, with_scalar, binary, chosen, cast, is_integer}
use Rattle.typing_rules.specs.Declarations as D
use Rattle.c_lang.specs.Cast.{has_cast}
use Rattle.c_lang.specs.Typed as C

-- the offset of the first token
abbrev pub first : tree.Exp → ℕ
first (tree.Variable at x) = at
first (tree.Number at n decimal u longs) = at
first (tree.Character at n) = at
first (tree.Parenthesis at e) = at
first (tree.Index e i) = first e
first (tree.Member e x) = first e
first (tree.PointerMember e x) = first e
first (tree.Unary at op e) = at
first (tree.SizeofValue at e) = at
first (tree.SizeofType at t) = at
first (tree.Cast at t e) = at
first (tree.Binary op a b) = first a
first (tree.Conditional c a b) = first c

abbrev pub word_start : tree.Word → ℕ
word_start (tree.Reserved at k) = at
word_start (tree.Named at x) = at
word_start (tree.StructTag at x) = at
word_start (tree.StructBody at x ms) = at
word_start (tree.EnumTag at x) = at
word_start (tree.EnumBody at x es) = at

abbrev pub words_start : tree.Words → ℕ
words_start tree.NoWords = 0
words_start (tree.MoreWords w ws) = word_start w

abbrev pub is_storage : tree.Word → Bool
is_storage (tree.Reserved at K.Const) = true
is_storage (tree.Reserved at K.Static) = true
is_storage (tree.Reserved at K.Inline) = true
is_storage (tree.Reserved at K.Extern) = true
is_storage _ = false

-- of the type among the words: of the first that isn't of storage
abbrev pub type_start : tree.Words → ℕ
type_start tree.NoWords = 0
type_start (tree.MoreWords w ws) = if is_storage w then type_start ws else word_start w

-- of a declarator: its first star, or its name
abbrev pub declarator_start : List ℕ → ℕ → ℕ
declarator_start [] at = at
declarator_start (star ∷ stars) at = star

abbrev pub variable : Demand → Name → Option Entity → Ruling Operand
variable d x None = Refused Unknown
variable d x (Some (Enumerator n)) = Ruled (Valued (C.Constant Int n))
variable d x (Some (Global t)) = used d (C.InGlobal x C.Here t)
variable d x (Some (Local own t)) = Ruled (Variable own t)
variable d x (Some (Function r ps)) = Refused Mismatch
variable d x (Some Hidden) = Refused OutOfSubset

abbrev pub number_at : ℕ → Option IntType → Ruling Operand
number_at n None = Refused Mismatch
number_at n (Some i) = Ruled (Valued (C.Constant i (pos n)))

-- the object that a pointer points to
abbrev pub target : Layout → CType → Ruling CType
target l (Ptr t) = refuse (not (is_object l t)) Incomplete (Ruled t)
target l _ = Refused Mismatch

abbrev pub followed : Layout → C.Expr → CType → Ruling C.Place
followed l e p = target l p >=> λ t. Ruled (C.Through t e C.Here t)

-- `p[i]` is `*(p + i)`
abbrev pub stepped : Layout → C.Expr → C.Expr → CType → Ruling C.Place
stepped l e i p =
    target l p >=> λ t.
    refuse (not (is_integer (C.type_of i))) Mismatch (Ruled (C.Through t (C.Move C.Plus t e i) C.Here t))

-- an element of an array place
abbrev pub element_at : C.Place → C.Expr → CType → ℕ → Ruling C.Place
element_at p i t n = refuse (not (is_integer (C.type_of i))) Mismatch (Ruled (place_then p (C.Element n i C.Here) t))

abbrev pub array_of : CType → Option (CType × ℕ)
array_of (Array t n) = Some (t, n)
array_of _ = None

abbrev pub indexed_at : Layout → C.Place → C.Expr → Option (CType × ℕ) → Ruling C.Place
indexed_at l p i (Some a) = element_at p i a.0 a.1
indexed_at l p i None = stepped l (C.Value p) i (C.place_type p)

-- `a[i]`: an element of an array place, or `*(a + i)`
abbrev pub indexed : Layout → Operand → C.Expr → Ruling C.Place
indexed l (At p) i = indexed_at l p i (array_of (C.place_type p))
indexed l a i = stepped l (value_in a) i (C.type_of (value_in a))

-- the number of the first member of a name, and its type
abbrev pub member_from : ℕ → List Member → Name → Ruling (ℕ × CType)
member_from k [] x = Refused Unknown
member_from k (m ∷ ms) x = if same_name m.name x then Ruled (k, m.type) else member_from (k + 1) ms x

abbrev pub member_among : List Member → Name → Ruling (ℕ × CType)
member_among ms x = member_from 0 ms x

abbrev pub member_in_struct : Option StructDef → Name → Ruling (ℕ × CType)
member_in_struct None x = Refused Unknown
member_in_struct (Some d) x = member_among d.members x

abbrev pub member_of : Layout → Name → CType → Ruling (ℕ × CType)
member_of l x (Struct s) = member_in_struct (struct_named l.structs s) x
member_of l x _ = Refused Mismatch

-- a member of a struct that lies at a place
abbrev pub member_in : Layout → Name → C.Place → Ruling C.Place
member_in l x p =
    member_of l x (C.place_type p) >=> λ m. Ruled (place_then p (C.Member m.0 C.Here) m.1)

-- a member of what a pointer points to
abbrev pub pointer_member : Layout → Name → C.Expr → Ruling C.Place
pointer_member l x e = followed l e (C.type_of e) >=> member_in l x

abbrev pub member_of_operand : Layout → Name → Operand → Ruling C.Place
member_of_operand l x (At p) = member_in l x p
member_of_operand l x _ = Refused Mismatch

-- what a path ends with: nothing, a member, or an element, behind the path before it
pub data Tail : Type 0 where
  Nothing : Tail
  -- the whole path
  LastMember : C.Path → Tail
  LastElement : C.Path → ℕ → C.Expr → Tail

abbrev pub behind : (C.Path → C.Path) → Tail → Tail → Tail
behind step own Nothing = own
behind step own (LastMember path) = LastMember (step path)
behind step own (LastElement path n i) = LastElement (step path) n i

abbrev pub tail : C.Path → Tail
tail C.Here = Nothing
tail (C.Member k path) = behind (C.Member k) (LastMember (C.Member k C.Here)) (tail path)
tail (C.Element n i path) = behind (C.Element n i) (LastElement C.Here n i) (tail path)

-- the address of a place: `&*p` is `p`, and `&a[i]` is `a + i` (C99 6.5.3.2p3)
abbrev pub address : CType → C.Expr → CType → Tail → C.Expr
address r p t Nothing = p
address r p t (LastMember path) = C.Address (C.Through r p path t) t
address r p t (LastElement before n i) = C.Move C.Plus t (C.Decay (C.Through r p before (Array t n)) t) i

-- of a place through a pointer alone
abbrev pub addressed : Operand → Ruling C.Expr
addressed (Valued e) = Refused NotLvalue
addressed (Variable x t) = Refused OutOfSubset
addressed (At (C.InGlobal x path t)) = Refused OutOfSubset
addressed (At (C.Through r p path t)) = refuse (is_array t) OutOfSubset (Ruled (address r p t (tail path)))

abbrev pub valued : Ruling C.Expr → Ruling Operand
valued r = r >=> λ e. Ruled (Valued e)

abbrev pub unary_demand : UnaryOperator → Demand
unary_demand U.Address = ForPlace
unary_demand _ = ForValue

abbrev pub unary : Demand → Layout → UnaryOperator → Operand → Ruling Operand
unary d l U.Negate a = valued (promoting C.Negate (value_in a))
unary d l U.Plus a = valued (promoting (λ i e. C.Convert (Integer i) e) (value_in a))
unary d l U.Complement a = valued (promoting C.Complement (value_in a))
unary d l U.Not a = valued (with_scalar (value_in a) (C.Not (value_in a)))
unary d l U.Dereference a = followed l (value_in a) (C.type_of (value_in a)) >=> used d
unary d l U.Address a = valued (addressed a)

-- the bytes of an object, a constant
abbrev pub size_constant : Layout → CType → Ruling Operand
size_constant l t =
    refuse (not (is_object l t)) Incomplete (Ruled (Valued (C.Constant (size_type l.target) (pos (size_of l t)))))

-- of an operand whose value isn't taken a conversion is noted
abbrev pub note : Bool → Scope → Scope
note has s = record s { folds_cast = s.folds_cast || has }

-- a constant expression's value, with its type
pub record Constant : Type 0 where
  pub type : CType
  pub value : ℤ

abbrev pub constant_of : C.Expr → Option ℤ → Ruling Constant
constant_of e None = Refused Mismatch
constant_of e (Some n) = Ruled (record { type = C.type_of e; value = n })

-- the value of what was typed
abbrev pub taken : Judgement Operand → Judgement C.Expr
taken j = j >>= λ a. pure (value_in a)

abbrev pub constant_at : ℕ → Judgement Operand → Judgement Constant
constant_at at j =
    taken j >>= λ e. rule at (λ s. constant_of e (constant_value s.layout e)) >>= λ c. changed (note (has_cast e)) c

-- of an integer type
abbrev pub integer_of : C.Expr → Option ℤ → Ruling ℤ
integer_of e None = Refused Mismatch
integer_of e (Some n) = refuse (not (is_integer (C.type_of e))) Mismatch (Ruled n)

abbrev pub integer_at : ℕ → Judgement Operand → Judgement ℤ
integer_at at j =
    taken j >>= λ e. rule at (λ s. integer_of e (constant_value s.layout e)) >>= λ n. changed (note (has_cast e)) n

-- stars around a type; there is no pointer to an array
abbrev pub starred : ℕ → CType → Ruling CType
starred n t = refuse (D.points_to_array (D.pointers n t)) OutOfSubset (Ruled (D.pointers n t))

-- the type that words say
abbrev pub based : tree.Words → Judgement D.Specs → Judgement D.Base
based ws j = j >>= λ b. rule (type_start ws) (λ s. D.base b)

abbrev mutual
  pub operand : Demand → tree.Exp → Judgement Operand
  operand d (tree.Variable at x) = rule at (λ s. variable d x (entity s.blocks x))
  operand d (tree.Number at n decimal u longs) = rule at (λ s. number_at n (number_type s.layout.target n decimal u longs))
  operand d (tree.Character at n) = pure (Valued (C.Constant Int (pos n)))
  operand d (tree.Parenthesis at e) = operand d e
  operand d (tree.Index e i) =
      operand ForElement e >>= λ a. taken (operand ForValue i) >>= λ b.
      rule (first e) (λ s. indexed s.layout a b >=> used d)
  operand d (tree.Member e x) =
      operand ForPlace e >>= λ a. rule (first e) (λ s. member_of_operand s.layout x a >=> used d)
  operand d (tree.PointerMember e x) =
      taken (operand ForValue e) >>= λ a.
      rule (first e) (λ s. pointer_member s.layout x a >=> used d)
  operand d (tree.Unary at op e) = operand (unary_demand op) e >>= λ a. rule at (λ s. unary d s.layout op a)
  operand d (tree.SizeofValue at e) =
      operand ForPlace e >>= λ a. rule at (λ s. size_constant s.layout (operand_type a)) >>= changed (note (operand_has_cast a))
  operand d (tree.SizeofType at t) = type_name t >>= λ u. rule at (λ s. size_constant s.layout u)
  operand d (tree.Cast at t e) =
      type_name t >>= λ u. taken (operand ForValue e) >>= λ a. rule at (λ s. valued (cast s.layout u a))
  operand d (tree.Binary op x y) =
      taken (operand ForValue x) >>= λ a. taken (operand ForValue y) >>= λ b.
      rule (first x) (λ s. valued (binary s.layout op a b))
  operand d (tree.Conditional c x y) =
      taken (operand ForValue c) >>= λ e. taken (operand ForValue x) >>= λ a. taken (operand ForValue y) >>= λ b.
      rule (first c) (λ s. valued (chosen s.layout e a b))

  pub type_name : tree.TypeName → Judgement CType
  type_name (tree.Typed ws stars) =
      based ws (words D.no_specs ws) >>= λ b.
      rule (words_start ws) (λ s. starred (length stars) b.type)

  -- behind what the words before them say
  pub words : D.Specs → tree.Words → Judgement D.Specs
  words b tree.NoWords = pure b
  words b (tree.MoreWords w ws) = word w >>= λ p. words (D.with_part b p) ws

  pub word : tree.Word → Judgement D.Part
  word (tree.Reserved at k) = pure (D.Word k)
  word (tree.Named at x) = rule at (λ s. option_map_or (λ t. Ruled (D.Type' t)) (s.typedefs x) (Refused Unknown))
  word (tree.StructTag at x) = declares at (D.struct_tag x) >>= λ t. pure (D.Type' t)
  word (tree.StructBody at x ms) =
      after (D.mention x) (members [] ms) >>= λ list. declares at (D.struct_body x list) >>= λ t. pure (D.Type' t)
  word (tree.EnumTag at x) = rule at (D.enum_tag x) >>= λ t. pure (D.Type' t)
  word (tree.EnumBody at x es) =
      enumerators (pos 0) es >>= λ _. declares at (D.enum_body x) >>= λ t. pure (D.Type' t)

  -- behind the members before them
  pub members : List Member → tree.Members → Judgement (List Member)
  members ms (tree.LastMember ws ds) =
      based ws (words D.no_specs ws) >>= λ b. declarators b.type ms ds
  members ms (tree.MoreMembers ws ds rest) =
      based ws (words D.no_specs ws) >>= λ b.
      declarators b.type ms ds >>= λ now. members now rest

  pub declarators : CType → List Member → tree.Declarators → Judgement (List Member)
  declarators t ms (tree.LastDeclarator d) = declarator t d >>= λ m. rule m.at (λ s. D.joined s.layout ms m)
  declarators t ms (tree.MoreDeclarators d ds) =
      declarator t d >>= λ m. rule m.at (λ s. D.joined s.layout ms m) >>= λ now. declarators t now ds

  -- its faults are those of what it declares, beside others there
  pub declarator : CType → tree.Declarator → Judgement D.Declared
  declarator t (tree.Declare stars at x ns) =
      dimensions [] ns >>= λ lengths.
      pure (record { at = declarator_start stars at; name = x; type = D.arrays lengths (D.pointers (length stars) t) })

  -- behind the lengths before them
  pub dimensions : List ℕ → tree.Dimensions → Judgement (List ℕ)
  dimensions ns tree.NoDimensions = pure ns
  dimensions ns (tree.MoreDimensions e rest) =
      integer_at (first e) (operand ForValue e) >>= λ n. dimensions (ns ++ (D.length_at n ∷ [])) rest

  -- from this value on
  pub enumerators : ℤ → tree.Enumerators → Judgement ℤ
  enumerators n (tree.LastEnumerator e) = enumerator n e
  enumerators n (tree.MoreEnumerators e es) = enumerator n e >>= λ next. enumerators next es

  -- the value behind it
  pub enumerator : ℤ → tree.Enumerator → Judgement ℤ
  enumerator n (tree.Implicit at x) = declares at (D.enumerator x n)
  enumerator n (tree.Explicit at x e) =
      integer_at (first e) (operand ForValue e) >>= λ m. rule (first e) (D.enumerator_value m) >>= λ k.
      declares at (D.enumerator x k)

-- the value of an expression
abbrev pub value : tree.Exp → Judgement C.Expr
value e = taken (operand ForValue e)

-- an operand that stays a place, as of `=`, `++` and `--`
abbrev pub place : tree.Exp → Judgement Operand
place e = operand ForPlace e

abbrev pub constant : tree.Exp → Judgement Constant
constant e = constant_at (first e) (operand ForValue e)

abbrev pub integer_constant : tree.Exp → Judgement ℤ
integer_constant e = integer_at (first e) (operand ForValue e)

-- a type, and whether `static` or `extern` stands beside it
abbrev pub base : tree.Words → Judgement D.Base
base ws = based ws (words D.no_specs ws)
