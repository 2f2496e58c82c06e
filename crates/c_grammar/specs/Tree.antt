-- The trees of the C subset, as plain data: a variant for each production (C99 6.5, 6.7, 6.8, 6.9).
-- A node keeps the offset of its first token, as its first field, unless that token is its first part's.
use Rattle.std.specs.Prelude.{ℕ, Bool, List, Option}
use Rattle.c_lex.specs.declared.token.Keyword.{Keyword}
use Rattle.c_grammar.specs.declared.operator.UnaryOperator.{UnaryOperator}
use Rattle.c_grammar.specs.declared.operator.BinaryOperator.{BinaryOperator}
use Rattle.c_grammar.specs.declared.operator.StepOperator.{StepOperator}

-- the bytes of a name
abbrev pub Name : Type 0
Name = List ℕ

mutual
  pub data Exp : Type 0 where
    Variable : ℕ → Name → Exp
    -- the value, whether it is decimal, whether it has the suffix `u`, and how many `l`
    Number : ℕ → ℕ → Bool → Bool → ℕ → Exp
    Character : ℕ → ℕ → Exp
    Parenthesis : ℕ → Exp → Exp
    Index : Exp → Exp → Exp
    Member : Exp → Name → Exp
    PointerMember : Exp → Name → Exp
    Unary : ℕ → UnaryOperator → Exp → Exp
    SizeofValue : ℕ → Exp → Exp
    SizeofType : ℕ → TypeName → Exp
    Cast : ℕ → TypeName → Exp → Exp
    Binary : BinaryOperator → Exp → Exp → Exp
    Conditional : Exp → Exp → Exp → Exp

  -- the words of the type, and the offset of each star
  pub data TypeName : Type 0 where
    Typed : Words → List ℕ → TypeName

  -- the words of a type and its storage, in their order
  pub data Words : Type 0 where
    NoWords : Words
    MoreWords : Word → Words → Words

  pub data Word : Type 0 where
    Reserved : ℕ → Keyword → Word
    Named : ℕ → Name → Word
    StructTag : ℕ → Name → Word
    StructBody : ℕ → Option Name → Members → Word
    EnumTag : ℕ → Name → Word
    EnumBody : ℕ → Option Name → Enumerators → Word

  pub data Members : Type 0 where
    LastMember : Words → Declarators → Members
    MoreMembers : Words → Declarators → Members → Members

  pub data Declarators : Type 0 where
    LastDeclarator : Declarator → Declarators
    MoreDeclarators : Declarator → Declarators → Declarators

  -- the offset of each star, the name and its offset, and the array lengths
  pub data Declarator : Type 0 where
    Declare : List ℕ → ℕ → Name → Dimensions → Declarator

  pub data Dimensions : Type 0 where
    NoDimensions : Dimensions
    MoreDimensions : Exp → Dimensions → Dimensions

  pub data Enumerators : Type 0 where
    LastEnumerator : Enumerator → Enumerators
    MoreEnumerators : Enumerator → Enumerators → Enumerators

  pub data Enumerator : Type 0 where
    Implicit : ℕ → Name → Enumerator
    Explicit : ℕ → Name → Exp → Enumerator

-- a call: the name and its offset, and the arguments
pub data Call : Type 0 where
  Calls : ℕ → Name → List Exp → Call

-- what may stand on the right of an assignment
pub data Rhs : Type 0 where
  Value : Exp → Rhs
  Result : Call → Rhs

pub data Simple : Type 0 where
  Assign : Exp → Rhs → Simple
  Update : BinaryOperator → Exp → Exp → Simple
  After : StepOperator → Exp → Simple
  Before : ℕ → StepOperator → Exp → Simple
  Invoke : Call → Simple

pub data Init : Type 0 where
  Initialized : Declarator → Option Rhs → Init

pub data Local : Type 0 where
  Locals : Words → List Init → Local

pub data Label : Type 0 where
  Case : ℕ → Exp → Label
  Default : ℕ → Label

-- the first part of the head of a `for`
pub data Start : Type 0 where
  NoStart : Start
  StartLocal : Local → Start
  StartSimple : Simple → Start

mutual
  pub data Stmt : Type 0 where
    Empty : ℕ → Stmt
    Block : ℕ → Items → Stmt
    Simply : Simple → Stmt
    Break : ℕ → Stmt
    Continue : ℕ → Stmt
    Return : ℕ → Option Rhs → Stmt
    If : ℕ → Exp → Stmt → Stmt
    IfElse : ℕ → Exp → Stmt → Stmt → Stmt
    While : ℕ → Exp → Stmt → Stmt
    For : ℕ → Start → Option Exp → Option Simple → Stmt → Stmt
    Do : ℕ → Stmt → Exp → Stmt
    Switch : ℕ → Exp → Groups → Stmt

  pub data Items : Type 0 where
    NoItems : Items
    LocalItem : Local → Items → Items
    StatementItem : Stmt → Items → Items

  -- the labels of a group, its first statement, and what follows
  pub data Groups : Type 0 where
    NoGroups : Groups
    MoreGroups : Label → List Label → Stmt → Items → Groups → Groups

pub data Bracket : Type 0 where
  NoBracket : Bracket
  OpenBracket : ℕ → Bracket
  SizedBracket : ℕ → Exp → Bracket

-- the words, the offset of each star, the name with its offset, and the brackets
pub data Param : Type 0 where
  Parameter : Words → List ℕ → Option (ℕ × Name) → Bracket → Param

pub data Top : Type 0 where
  Topmost : Declarator → Option (List Param) → Option Exp → Top

-- a declaration has the offset of its `typedef` where it begins with that word
pub data External : Type 0 where
  Function : Words → Declarator → List Param → Items → External
  Declaration : Option ℕ → Words → List Top → External

abbrev pub Unit' : Type 0
Unit' = List External
