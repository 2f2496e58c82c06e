-- Typed units as plain trees (C99 6.3, 6.5, 6.8). Conversions, promotions, the decay of array places and the operation of a
-- compound assignment are explicit; locals have names of their own, so that no scope is left; calls, switches and
-- do-whiles have numbers from 1 on, each in the order of the text of its function.
use Rattle.std.specs.Prelude.{ℕ, ℤ, Bool, List, [], ◌∷◌, Option}
use Rattle.c_values.specs.Name.{Name}
use Rattle.c_values.specs.Types.{IntType, Int, CType, Integer, Ptr}
use Rattle.c_values.specs.Program.{Program, function_named}

pub data Arithmetic : Type 0 where
  Add : Arithmetic
  Subtract : Arithmetic
  Multiply : Arithmetic
  Divide : Arithmetic
  Remainder : Arithmetic

pub data Bitwise : Type 0 where
  BitAnd : Bitwise
  BitOr : Bitwise
  BitXor : Bitwise

pub data Direction : Type 0 where
  Left : Direction
  Right : Direction

pub data Relation : Type 0 where
  Less : Relation
  LessEqual : Relation
  Greater : Relation
  GreaterEqual : Relation

pub data Equality : Type 0 where
  Equal : Equality
  NotEqual : Equality

pub data Sign : Type 0 where
  Plus : Sign
  Minus : Sign

mutual
  pub data Expr : Type 0 where
    -- a value of an integer type
    Constant : IntType → ℤ → Expr
    Local : Name → CType → Expr
    -- what lies at a place
    Value : Place → Expr
    -- to a scalar type; a cast and a unary `+` have this node also where the type is there already
    Convert : CType → Expr → Expr
    -- the same of a null pointer constant
    ConvertNull : CType → Expr → Expr
    Negate : IntType → Expr → Expr
    Complement : IntType → Expr → Expr
    -- both operands and the result have the type
    Compute : Arithmetic → IntType → Expr → Expr → Expr
    Combine : Bitwise → IntType → Expr → Expr → Expr
    -- the left operand and the result have the type
    Shift : Direction → IntType → Expr → Expr → Expr
    -- both operands have the type; the result is an int
    Compare : Relation → IntType → Expr → Expr → Expr
    Equate : Equality → CType → Expr → Expr → Expr
    Not : Expr → Expr
    And : Expr → Expr → Expr
    Or : Expr → Expr → Expr
    -- both branches have the type
    Choose : CType → Expr → Expr → Expr → Expr
    -- a pointer to a type, and then an integer
    Move : Sign → CType → Expr → Expr → Expr
    -- an integer, and then a pointer to a type
    MoveBy : CType → Expr → Expr → Expr
    -- `&` of a place through a pointer, whose type the place has
    Address : Place → CType → Expr
    -- an array place as a pointer to its first element, whose type this is
    Decay : Place → CType → Expr

  -- a place in memory, by the type of its root, the pointer, the path and the type at its end; or in a global
  pub data Place : Type 0 where
    Through : CType → Expr → Path → CType → Place
    InGlobal : Name → Path → CType → Place

  pub data Path : Type 0 where
    Here : Path
    Member : ℕ → Path → Path
    -- the length of the array, and the index
    Element : ℕ → Expr → Path → Path

-- what is assigned
pub data Destination : Type 0 where
  ToLocal : Name → CType → Destination
  ToPlace : Place → Destination

-- what becomes of a called function's result: each has its type, and a returned one the type that it is returned as
pub data Use : Type 0 where
  NoResult : Use
  Ignored : CType → Use
  Assigned : CType → Destination → Use
  Returned : CType → CType → Use

-- a loop's test; an absent one is true
pub data Test : Type 0 where
  Always : Test
  Tested : Expr → Test

mutual
  pub data Statement : Type 0 where
    Empty : Statement
    Block : Statements → Statement
    -- a declaration without initialiser
    Declare : Name → CType → Statement
    -- the right side has the target's type
    Assign : Destination → Expr → Statement
    -- the call's number, the function, its arguments at the parameters' types
    Call : ℕ → Name → List Expr → Use → Statement
    If : Expr → Statement → Statement → Statement
    While : Expr → Statement → Statement
    -- the loop's number
    DoWhile : ℕ → Statement → Expr → Statement
    -- what is done first, the test, the step, and the body
    For : Statements → Test → Statement → Statement → Statement
    -- the switch's number, its promoted operand and the type of that
    Switch : ℕ → IntType → Expr → Groups → Statement
    Break : Statement
    Continue : Statement
    ReturnNothing : Statement
    Return : Expr → Statement

  pub data Statements : Type 0 where
    no_statements : Statements
    next : Statement → Statements → Statements

  -- the labels of a group, as values of the switch's type, and whether `default` is one of them
  pub data Groups : Type 0 where
    no_groups : Groups
    group : List ℤ → Bool → Statements → Groups → Groups

pub record Variable : Type 0 where
  pub name : Name
  pub type : CType

pub record TypedFn : Type 0 where
  pub name : Name
  pub result : Option CType
  pub params : List Variable
  -- those that are declared, in the order of the text
  pub locals : List Variable
  -- where only a value is left, in an operand of `sizeof` or in a constant, a conversion stood to a pointer to a type that
  -- isn't void, from another type, and not of a null pointer constant
  pub folds_cast : Bool
  pub body : Statements

-- each with a body once, in the order of the bodies
abbrev pub TypedUnit : Type 0
TypedUnit = Program TypedFn

abbrev pub place_type : Place → CType
place_type (Through root p path t) = t
place_type (InGlobal x path t) = t

abbrev pub type_of : Expr → CType
type_of (Constant i n) = Integer i
type_of (Local x t) = t
type_of (Value p) = place_type p
type_of (Convert t a) = t
type_of (ConvertNull t a) = t
type_of (Negate i a) = Integer i
type_of (Complement i a) = Integer i
type_of (Compute op i a b) = Integer i
type_of (Combine op i a b) = Integer i
type_of (Shift d i a b) = Integer i
type_of (Compare r i a b) = Integer Int
type_of (Equate q t a b) = Integer Int
type_of (Not a) = Integer Int
type_of (And a b) = Integer Int
type_of (Or a b) = Integer Int
type_of (Choose t c a b) = t
type_of (Move s t p a) = Ptr t
type_of (MoveBy t a p) = Ptr t
type_of (Address p t) = Ptr t
type_of (Decay p t) = Ptr t

abbrev pub target_type : Destination → CType
target_type (ToLocal x t) = t
target_type (ToPlace p) = place_type p

abbrev pub typed_fn : List TypedFn → Name → Option TypedFn
typed_fn = function_named (λ f. f.name)

abbrev pub variable_names : List Variable → List Name
variable_names [] = []
variable_names (v ∷ vs) = v.name ∷ variable_names vs
