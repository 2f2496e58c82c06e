-- The grammar of the C subset (C99 6.5, 6.7, 6.8, 6.9): which tree spells which tokens. One rule for each production.
-- A tree spells what stands at the front of a list of tokens, up to the rest of that list: the last two arguments are the
-- list and the rest. `ns` are the names that earlier typedefs made. The Bool of an expression, a type or a declarator says
-- whether a struct or an enum may have its body there: not in functions, members and parameters.
use Rattle.std.specs.Prelude.{ℕ, ◌≡◌, Bool, true, false, List, [], ◌∷◌, Option, Some, None, suc}
use Rattle.c_lex.specs.declared.token.Keyword.{Keyword}
use Rattle.c_lex.specs.declared.token.Keyword.TheVariants as word
use Rattle.c_lex.specs.declared.token.Punct.{Punct}
use Rattle.c_lex.specs.declared.token.Punct.TheVariants as sign
use Rattle.c_lex.specs.Lexeme.{Lexeme, Kind, name, keyword, punct, character, number}
use Rattle.c_grammar.specs.declared.operator.UnaryOperator.{UnaryOperator}
use Rattle.c_grammar.specs.declared.operator.BinaryOperator.{BinaryOperator}
use Rattle.c_grammar.specs.declared.operator.StepOperator.{StepOperator}
use Rattle.c_grammar.specs.declared.symbol.Seen.{Seen}
use Rattle.c_grammar.specs.declared.symbol.Seen.TheVariants as seen
use Rattle.c_grammar.specs.Levels as levels
use Rattle.c_grammar.specs.Tree as tree
use Rattle.c_grammar.specs.Tree.{Name, Exp, TypeName, Words, Members, Declarators, Declarator, Dimensions, Enumerators, Enumerator, Call, Rhs, Simple, Init, Local, Label, Start, Stmt, Items, Groups, Bracket, Param, Top, External}
use Rattle.c_grammar.specs.Operators.{unary_sign, binary_sign, update_of, step_sign, level, add, complete, is_made}

-- the kinds of tokens, from one offset to another
abbrev pub token : Kind → ℕ → ℕ → Lexeme
token k a z = record { kind = k; from = a; to = z }

abbrev pub mark : Punct → ℕ → ℕ → Lexeme
mark p = token (punct p)

abbrev pub reserved : Keyword → ℕ → ℕ → Lexeme
reserved k = token (keyword k)

abbrev pub named : Name → ℕ → ℕ → Lexeme
named n = token (name n)

-- stars, each with `const`s behind it; the Bool says that a star stands before
pub data SpellsStars : Bool → List ℕ → List Lexeme → List Lexeme → Type 0 where
  no_stars : {f : Bool} {s : List Lexeme} → SpellsStars f [] s s
  star : {ats : List ℕ} {s t : List Lexeme} {f : Bool} {a z : ℕ} → SpellsStars true ats s t → SpellsStars f (a ∷ ats) (mark sign.Star a z ∷ s) t
  star_const : {ats : List ℕ} {s t : List Lexeme} {a z : ℕ} → SpellsStars true ats s t → SpellsStars true ats (reserved word.Const a z ∷ s) t

mutual
  -- an expression of a level or a tighter one
  pub data SpellsExp (ns : List Name) : Bool → ℕ → Exp → List Lexeme → List Lexeme → Type 0 where
    looser : {b : Bool} {l : ℕ} {e : Exp} {s t : List Lexeme} → SpellsExp ns b (suc l) e s t → SpellsExp ns b l e s t
    variable : {n : Name} {b : Bool} {a z : ℕ} {s : List Lexeme} → is_made ns n ≡ false → SpellsExp ns b levels.name (tree.Variable a n) (named n a z ∷ s) s
    number_constant : {b decimal unsigned : Bool} {a value longs z : ℕ} {s : List Lexeme} → SpellsExp ns b levels.primary (tree.Number a value decimal unsigned longs) (token (number value decimal unsigned longs) a z ∷ s) s
    character_constant : {b : Bool} {a value z : ℕ} {s : List Lexeme} → SpellsExp ns b levels.primary (tree.Character a value) (token (character value) a z ∷ s) s
    parenthesis : {b : Bool} {e : Exp} {s t : List Lexeme} {a1 z1 a z : ℕ} → SpellsExp ns b levels.any e s (mark sign.RightParenthesis a1 z1 ∷ t) → SpellsExp ns b levels.primary (tree.Parenthesis a e) (mark sign.LeftParenthesis a z ∷ s) t
    index : {b : Bool} {e x : Exp} {s t u : List Lexeme} {a z a1 z1 : ℕ} → SpellsExp ns b levels.postfix e s (mark sign.LeftBracket a z ∷ t) → SpellsExp ns b levels.any x t (mark sign.RightBracket a1 z1 ∷ u) → SpellsExp ns b levels.postfix (tree.Index e x) s u
    member : {b : Bool} {e : Exp} {s t : List Lexeme} {a z a1 z1 : ℕ} {n : Name} → SpellsExp ns b levels.postfix e s (mark sign.Dot a z ∷ named n a1 z1 ∷ t) → is_made ns n ≡ false → SpellsExp ns b levels.postfix (tree.Member e n) s t
    pointer_member : {b : Bool} {e : Exp} {s t : List Lexeme} {a z a1 z1 : ℕ} {n : Name} → SpellsExp ns b levels.postfix e s (mark sign.Arrow a z ∷ named n a1 z1 ∷ t) → is_made ns n ≡ false → SpellsExp ns b levels.postfix (tree.PointerMember e n) s t
    unary : {b : Bool} {e : Exp} {s t : List Lexeme} {a z : ℕ} {un : UnaryOperator} → SpellsExp ns b levels.cast e s t → SpellsExp ns b levels.unary (tree.Unary a un e) (mark (unary_sign un) a z ∷ s) t
    sizeof_value : {b : Bool} {e : Exp} {s t : List Lexeme} {a z : ℕ} → SpellsExp ns b levels.unary e s t → SpellsExp ns b levels.unary (tree.SizeofValue a e) (reserved word.Sizeof a z ∷ s) t
    sizeof_type : {b : Bool} {ty : TypeName} {s t : List Lexeme} {a1 z1 a z a2 z2 : ℕ} → SpellsType ns b ty s (mark sign.RightParenthesis a1 z1 ∷ t) → SpellsExp ns b levels.unary (tree.SizeofType a ty) (reserved word.Sizeof a z ∷ mark sign.LeftParenthesis a2 z2 ∷ s) t
    cast : {b : Bool} {ty : TypeName} {s t u : List Lexeme} {a1 z1 a z : ℕ} {e : Exp} → SpellsType ns b ty s (mark sign.RightParenthesis a1 z1 ∷ t) → SpellsExp ns b levels.cast e t u → SpellsExp ns b levels.cast (tree.Cast a ty e) (mark sign.LeftParenthesis a z ∷ s) u
    binary : {b : Bool} {op : BinaryOperator} {x y : Exp} {s t u : List Lexeme} {a z : ℕ} → SpellsExp ns b (level op) x s (mark (binary_sign op) a z ∷ t) → SpellsExp ns b (suc (level op)) y t u → SpellsExp ns b (level op) (tree.Binary op x y) s u
    conditional : {b : Bool} {c x y : Exp} {s t u v : List Lexeme} {a z a1 z1 : ℕ} → SpellsExp ns b levels.disjunction c s (mark sign.Question a z ∷ t) → SpellsExp ns b levels.any x t (mark sign.Colon a1 z1 ∷ u) → SpellsExp ns b levels.any y u v → SpellsExp ns b levels.any (tree.Conditional c x y) s v

  pub data SpellsType (ns : List Name) : Bool → TypeName → List Lexeme → List Lexeme → Type 0 where
    typed : {b : Bool} {ws : Words} {s t u : List Lexeme} {ats : List ℕ} → SpellsWords ns b seen.Nothing ws s t → SpellsStars false ats t u → SpellsType ns b (tree.Typed ws ats) s u

  -- the words of one type and its storage, after those that have been seen
  pub data SpellsWords (ns : List Name) : Bool → Seen → Words → List Lexeme → List Lexeme → Type 0 where
    no_words : {q : Seen} {b : Bool} {s : List Lexeme} → complete q ≡ true → SpellsWords ns b q tree.NoWords s s
    plain_word : {q q1 : Seen} {w0 : Keyword} {b : Bool} {ws : Words} {s t : List Lexeme} {a z : ℕ} → add q w0 ≡ Some q1 → SpellsWords ns b q1 ws s t → SpellsWords ns b q (tree.MoreWords (tree.Reserved a w0) ws) (reserved w0 a z ∷ s) t
    type_name : {n : Name} {b : Bool} {ws : Words} {s t : List Lexeme} {a z : ℕ} → is_made ns n ≡ true → SpellsWords ns b seen.Whole ws s t → SpellsWords ns b seen.Nothing (tree.MoreWords (tree.Named a n) ws) (named n a z ∷ s) t
    struct_tag : {n : Name} {b : Bool} {ws : Words} {s t : List Lexeme} {a z a1 z1 : ℕ} → is_made ns n ≡ false → SpellsWords ns b seen.Whole ws s t → SpellsWords ns b seen.Nothing (tree.MoreWords (tree.StructTag a n) ws) (reserved word.Struct a z ∷ named n a1 z1 ∷ s) t
    struct_body : {ms : Members} {s t u : List Lexeme} {ws : Words} {a z a1 z1 : ℕ} → SpellsMembers ns ms s t → SpellsWords ns true seen.Whole ws t u → SpellsWords ns true seen.Nothing (tree.MoreWords (tree.StructBody a None ms) ws) (reserved word.Struct a z ∷ mark sign.LeftBrace a1 z1 ∷ s) u
    tagged_struct : {n : Name} {ms : Members} {s t u : List Lexeme} {ws : Words} {a z a1 z1 a2 z2 : ℕ} → is_made ns n ≡ false → SpellsMembers ns ms s t → SpellsWords ns true seen.Whole ws t u → SpellsWords ns true seen.Nothing (tree.MoreWords (tree.StructBody a (Some n) ms) ws) (reserved word.Struct a z ∷ named n a1 z1 ∷ mark sign.LeftBrace a2 z2 ∷ s) u
    enum_tag : {n : Name} {b : Bool} {ws : Words} {s t : List Lexeme} {a z a1 z1 : ℕ} → is_made ns n ≡ false → SpellsWords ns b seen.Whole ws s t → SpellsWords ns b seen.Nothing (tree.MoreWords (tree.EnumTag a n) ws) (reserved word.Enum a z ∷ named n a1 z1 ∷ s) t
    enum_body : {ens : Enumerators} {s t u : List Lexeme} {ws : Words} {a z a1 z1 : ℕ} → SpellsEnumerators ns ens s t → SpellsWords ns true seen.Whole ws t u → SpellsWords ns true seen.Nothing (tree.MoreWords (tree.EnumBody a None ens) ws) (reserved word.Enum a z ∷ mark sign.LeftBrace a1 z1 ∷ s) u
    tagged_enum : {n : Name} {ens : Enumerators} {s t u : List Lexeme} {ws : Words} {a z a1 z1 a2 z2 : ℕ} → is_made ns n ≡ false → SpellsEnumerators ns ens s t → SpellsWords ns true seen.Whole ws t u → SpellsWords ns true seen.Nothing (tree.MoreWords (tree.EnumBody a (Some n) ens) ws) (reserved word.Enum a z ∷ named n a1 z1 ∷ mark sign.LeftBrace a2 z2 ∷ s) u

  -- the members of a struct, and the `}` behind them
  pub data SpellsMembers (ns : List Name) : Members → List Lexeme → List Lexeme → Type 0 where
    last_member : {ws : Words} {s t u : List Lexeme} {ds : Declarators} {a z : ℕ} → SpellsWords ns false seen.Nothing ws s t → SpellsDeclarators ns ds t (mark sign.RightBrace a z ∷ u) → SpellsMembers ns (tree.LastMember ws ds) s u
    more_members : {ws : Words} {s t u v : List Lexeme} {ds : Declarators} {ms : Members} → SpellsWords ns false seen.Nothing ws s t → SpellsDeclarators ns ds t u → SpellsMembers ns ms u v → SpellsMembers ns (tree.MoreMembers ws ds ms) s v

  -- the declarators of a member, and the `;` behind them
  pub data SpellsDeclarators (ns : List Name) : Declarators → List Lexeme → List Lexeme → Type 0 where
    last_declarator : {d : Declarator} {s t : List Lexeme} {a z : ℕ} → SpellsDeclarator ns false d s (mark sign.Semicolon a z ∷ t) → SpellsDeclarators ns (tree.LastDeclarator d) s t
    more_declarators : {d : Declarator} {s t u : List Lexeme} {a z : ℕ} {ds : Declarators} → SpellsDeclarator ns false d s (mark sign.Comma a z ∷ t) → SpellsDeclarators ns ds t u → SpellsDeclarators ns (tree.MoreDeclarators d ds) s u

  pub data SpellsDeclarator (ns : List Name) : Bool → Declarator → List Lexeme → List Lexeme → Type 0 where
    declare : {ats : List ℕ} {s t u : List Lexeme} {n : Name} {a z : ℕ} {b : Bool} {dims : Dimensions} → SpellsStars false ats s (named n a z ∷ t) → is_made ns n ≡ false → SpellsDimensions ns b dims t u → SpellsDeclarator ns b (tree.Declare ats a n dims) s u

  pub data SpellsDimensions (ns : List Name) : Bool → Dimensions → List Lexeme → List Lexeme → Type 0 where
    no_dimensions : {b : Bool} {s : List Lexeme} → SpellsDimensions ns b tree.NoDimensions s s
    more_dimensions : {b : Bool} {e : Exp} {s t u : List Lexeme} {a1 z1 a z : ℕ} {dims : Dimensions} → SpellsExp ns b levels.any e s (mark sign.RightBracket a1 z1 ∷ t) → SpellsDimensions ns b dims t u → SpellsDimensions ns b (tree.MoreDimensions e dims) (mark sign.LeftBracket a z ∷ s) u

  -- the enumerators of an enum, and the `}` behind them
  pub data SpellsEnumerators (ns : List Name) : Enumerators → List Lexeme → List Lexeme → Type 0 where
    last_enumerator : {en : Enumerator} {s t : List Lexeme} {a z : ℕ} → SpellsEnumerator ns en s (mark sign.RightBrace a z ∷ t) → SpellsEnumerators ns (tree.LastEnumerator en) s t
    last_enumerator_comma : {en : Enumerator} {s t : List Lexeme} {a z a1 z1 : ℕ} → SpellsEnumerator ns en s (mark sign.Comma a z ∷ mark sign.RightBrace a1 z1 ∷ t) → SpellsEnumerators ns (tree.LastEnumerator en) s t
    more_enumerators : {en : Enumerator} {s t u : List Lexeme} {a z : ℕ} {ens : Enumerators} → SpellsEnumerator ns en s (mark sign.Comma a z ∷ t) → SpellsEnumerators ns ens t u → SpellsEnumerators ns (tree.MoreEnumerators en ens) s u

  pub data SpellsEnumerator (ns : List Name) : Enumerator → List Lexeme → List Lexeme → Type 0 where
    implicit : {n : Name} {a z : ℕ} {s : List Lexeme} → is_made ns n ≡ false → SpellsEnumerator ns (tree.Implicit a n) (named n a z ∷ s) s
    explicit : {n : Name} {e : Exp} {s t : List Lexeme} {a z a1 z1 : ℕ} → is_made ns n ≡ false → SpellsExp ns true levels.any e s t → SpellsEnumerator ns (tree.Explicit a n e) (named n a z ∷ mark sign.Equal a1 z1 ∷ s) t

-- arguments, one at least, and the `)` behind them
pub data SpellsExps (ns : List Name) : Bool → List Exp → List Lexeme → List Lexeme → Type 0 where
  last_argument : {b : Bool} {e : Exp} {s t : List Lexeme} {a z : ℕ} → SpellsExp ns b levels.any e s (mark sign.RightParenthesis a z ∷ t) → SpellsExps ns b (e ∷ []) s t
  more_arguments : {b : Bool} {e : Exp} {s t u : List Lexeme} {a z : ℕ} {es : List Exp} → SpellsExp ns b levels.any e s (mark sign.Comma a z ∷ t) → SpellsExps ns b es t u → SpellsExps ns b (e ∷ es) s u

pub data SpellsArguments (ns : List Name) : Bool → List Exp → List Lexeme → List Lexeme → Type 0 where
  no_arguments : {b : Bool} {a z : ℕ} {s : List Lexeme} → SpellsArguments ns b [] (mark sign.RightParenthesis a z ∷ s) s
  some_arguments : {b : Bool} {es : List Exp} {s t : List Lexeme} → SpellsExps ns b es s t → SpellsArguments ns b es s t

pub data SpellsCall (ns : List Name) : Bool → Call → List Lexeme → List Lexeme → Type 0 where
  calls : {n : Name} {b : Bool} {es : List Exp} {s t : List Lexeme} {a z a1 z1 : ℕ} → is_made ns n ≡ false → SpellsArguments ns b es s t → SpellsCall ns b (tree.Calls a n es) (named n a z ∷ mark sign.LeftParenthesis a1 z1 ∷ s) t

pub data SpellsRhs (ns : List Name) : Bool → Rhs → List Lexeme → List Lexeme → Type 0 where
  value : {b : Bool} {e : Exp} {s t : List Lexeme} → SpellsExp ns b levels.any e s t → SpellsRhs ns b (tree.Value e) s t
  result_of : {b : Bool} {call : Call} {s t : List Lexeme} → SpellsCall ns b call s t → SpellsRhs ns b (tree.Result call) s t

pub data SpellsSimple (ns : List Name) : Bool → Simple → List Lexeme → List Lexeme → Type 0 where
  assign : {b : Bool} {e : Exp} {s t u : List Lexeme} {a z : ℕ} {rhs : Rhs} → SpellsExp ns b levels.unary e s (mark sign.Equal a z ∷ t) → SpellsRhs ns b rhs t u → SpellsSimple ns b (tree.Assign e rhs) s u
  update : {p : Punct} {op : BinaryOperator} {b : Bool} {e x : Exp} {s t u : List Lexeme} {a z : ℕ} → update_of p ≡ Some op → SpellsExp ns b levels.unary e s (mark p a z ∷ t) → SpellsExp ns b levels.any x t u → SpellsSimple ns b (tree.Update op e x) s u
  after : {b : Bool} {e : Exp} {s t : List Lexeme} {st : StepOperator} {a z : ℕ} → SpellsExp ns b levels.postfix e s (mark (step_sign st) a z ∷ t) → SpellsSimple ns b (tree.After st e) s t
  before : {b : Bool} {e : Exp} {s t : List Lexeme} {a z : ℕ} {st : StepOperator} → SpellsExp ns b levels.unary e s t → SpellsSimple ns b (tree.Before a st e) (mark (step_sign st) a z ∷ s) t
  invoke : {b : Bool} {call : Call} {s t : List Lexeme} → SpellsCall ns b call s t → SpellsSimple ns b (tree.Invoke call) s t

pub data SpellsInit (ns : List Name) : Init → List Lexeme → List Lexeme → Type 0 where
  uninitialized : {d : Declarator} {s t : List Lexeme} → SpellsDeclarator ns false d s t → SpellsInit ns (tree.Initialized d None) s t
  initialized : {d : Declarator} {s t u : List Lexeme} {a z : ℕ} {rhs : Rhs} → SpellsDeclarator ns false d s (mark sign.Equal a z ∷ t) → SpellsRhs ns false rhs t u → SpellsInit ns (tree.Initialized d (Some rhs)) s u

-- the locals of one declaration, and the `;` behind them
pub data SpellsInits (ns : List Name) : List Init → List Lexeme → List Lexeme → Type 0 where
  last_init : {ini : Init} {s t : List Lexeme} {a z : ℕ} → SpellsInit ns ini s (mark sign.Semicolon a z ∷ t) → SpellsInits ns (ini ∷ []) s t
  more_inits : {ini : Init} {s t u : List Lexeme} {a z : ℕ} {inis : List Init} → SpellsInit ns ini s (mark sign.Comma a z ∷ t) → SpellsInits ns inis t u → SpellsInits ns (ini ∷ inis) s u

pub data SpellsLocal (ns : List Name) : Local → List Lexeme → List Lexeme → Type 0 where
  locals : {ws : Words} {s t u : List Lexeme} {inis : List Init} → SpellsWords ns false seen.Nothing ws s t → SpellsInits ns inis t u → SpellsLocal ns (tree.Locals ws inis) s u

pub data SpellsLabel (ns : List Name) : Label → List Lexeme → List Lexeme → Type 0 where
  case : {e : Exp} {s t : List Lexeme} {a1 z1 a z : ℕ} → SpellsExp ns false levels.any e s (mark sign.Colon a1 z1 ∷ t) → SpellsLabel ns (tree.Case a e) (reserved word.Case a z ∷ s) t
  default : {a z a1 z1 : ℕ} {s : List Lexeme} → SpellsLabel ns (tree.Default a) (reserved word.Default a z ∷ mark sign.Colon a1 z1 ∷ s) s

pub data SpellsLabels (ns : List Name) : List Label → List Lexeme → List Lexeme → Type 0 where
  no_labels : {s : List Lexeme} → SpellsLabels ns [] s s
  more_labels : {la : Label} {s t u : List Lexeme} {las : List Label} → SpellsLabel ns la s t → SpellsLabels ns las t u → SpellsLabels ns (la ∷ las) s u

-- the first part of the head of a `for`, and its `;`
pub data SpellsStart (ns : List Name) : Start → List Lexeme → List Lexeme → Type 0 where
  no_start : {a z : ℕ} {s : List Lexeme} → SpellsStart ns tree.NoStart (mark sign.Semicolon a z ∷ s) s
  start_local : {loc : Local} {s t : List Lexeme} → SpellsLocal ns loc s t → SpellsStart ns (tree.StartLocal loc) s t
  start_simple : {sim : Simple} {s t : List Lexeme} {a z : ℕ} → SpellsSimple ns false sim s (mark sign.Semicolon a z ∷ t) → SpellsStart ns (tree.StartSimple sim) s t

-- the test in the head of a `for`, and its `;`
pub data SpellsTest (ns : List Name) : Option Exp → List Lexeme → List Lexeme → Type 0 where
  no_test : {a z : ℕ} {s : List Lexeme} → SpellsTest ns None (mark sign.Semicolon a z ∷ s) s
  some_test : {e : Exp} {s t : List Lexeme} {a z : ℕ} → SpellsExp ns false levels.any e s (mark sign.Semicolon a z ∷ t) → SpellsTest ns (Some e) s t

-- the last part of the head of a `for`, and its `)`
pub data SpellsStep (ns : List Name) : Option Simple → List Lexeme → List Lexeme → Type 0 where
  no_step : {a z : ℕ} {s : List Lexeme} → SpellsStep ns None (mark sign.RightParenthesis a z ∷ s) s
  some_step : {sim : Simple} {s t : List Lexeme} {a z : ℕ} → SpellsSimple ns false sim s (mark sign.RightParenthesis a z ∷ t) → SpellsStep ns (Some sim) s t

mutual
  -- A statement. The Bool asks that it is matched: that no `if` without an `else` stands at its end, so that an `else` behind it
  -- is not its own.
  pub data SpellsStmt (ns : List Name) : Bool → Stmt → List Lexeme → List Lexeme → Type 0 where
    empty : {m : Bool} {a z : ℕ} {s : List Lexeme} → SpellsStmt ns m (tree.Empty a) (mark sign.Semicolon a z ∷ s) s
    block : {its : Items} {s t : List Lexeme} {a1 z1 a z : ℕ} {m : Bool} → SpellsItems ns its s (mark sign.RightBrace a1 z1 ∷ t) → SpellsStmt ns m (tree.Block a its) (mark sign.LeftBrace a z ∷ s) t
    simply : {sim : Simple} {s t : List Lexeme} {a z : ℕ} {m : Bool} → SpellsSimple ns false sim s (mark sign.Semicolon a z ∷ t) → SpellsStmt ns m (tree.Simply sim) s t
    break_out : {m : Bool} {a z a1 z1 : ℕ} {s : List Lexeme} → SpellsStmt ns m (tree.Break a) (reserved word.Break a z ∷ mark sign.Semicolon a1 z1 ∷ s) s
    continue_on : {m : Bool} {a z a1 z1 : ℕ} {s : List Lexeme} → SpellsStmt ns m (tree.Continue a) (reserved word.Continue a z ∷ mark sign.Semicolon a1 z1 ∷ s) s
    return_nothing : {m : Bool} {a z a1 z1 : ℕ} {s : List Lexeme} → SpellsStmt ns m (tree.Return a None) (reserved word.Return a z ∷ mark sign.Semicolon a1 z1 ∷ s) s
    return_value : {rhs : Rhs} {s t : List Lexeme} {a1 z1 a z : ℕ} {m : Bool} → SpellsRhs ns false rhs s (mark sign.Semicolon a1 z1 ∷ t) → SpellsStmt ns m (tree.Return a (Some rhs)) (reserved word.Return a z ∷ s) t
    if_only : {e : Exp} {s t u : List Lexeme} {a2 z2 a z a1 z1 : ℕ} {g : Stmt} → SpellsExp ns false levels.any e s (mark sign.RightParenthesis a2 z2 ∷ t) → SpellsStmt ns false g t u → SpellsStmt ns false (tree.If a e g) (reserved word.If a z ∷ mark sign.LeftParenthesis a1 z1 ∷ s) u
    if_else : {e : Exp} {s t u v : List Lexeme} {a2 z2 a3 z3 a z a1 z1 : ℕ} {g h : Stmt} {m : Bool} → SpellsExp ns false levels.any e s (mark sign.RightParenthesis a2 z2 ∷ t) → SpellsStmt ns true g t (reserved word.Else a3 z3 ∷ u) → SpellsStmt ns m h u v → SpellsStmt ns m (tree.IfElse a e g h) (reserved word.If a z ∷ mark sign.LeftParenthesis a1 z1 ∷ s) v
    while_do : {e : Exp} {s t u : List Lexeme} {a2 z2 a z a1 z1 : ℕ} {m : Bool} {g : Stmt} → SpellsExp ns false levels.any e s (mark sign.RightParenthesis a2 z2 ∷ t) → SpellsStmt ns m g t u → SpellsStmt ns m (tree.While a e g) (reserved word.While a z ∷ mark sign.LeftParenthesis a1 z1 ∷ s) u
    for_do : {start : Start} {s t u v w : List Lexeme} {te : Option Exp} {sp : Option Simple} {m : Bool} {g : Stmt} {a z a1 z1 : ℕ} → SpellsStart ns start s t → SpellsTest ns te t u → SpellsStep ns sp u v → SpellsStmt ns m g v w → SpellsStmt ns m (tree.For a start te sp g) (reserved word.For a z ∷ mark sign.LeftParenthesis a1 z1 ∷ s) w
    do_while : {g : Stmt} {s t u : List Lexeme} {a1 z1 a2 z2 a3 z3 a4 z4 a z : ℕ} {e : Exp} {m : Bool} → SpellsStmt ns false g s (reserved word.While a1 z1 ∷ mark sign.LeftParenthesis a2 z2 ∷ t) → SpellsExp ns false levels.any e t (mark sign.RightParenthesis a3 z3 ∷ mark sign.Semicolon a4 z4 ∷ u) → SpellsStmt ns m (tree.Do a g e) (reserved word.Do a z ∷ s) u
    switch_on : {e : Exp} {s t u : List Lexeme} {a2 z2 a3 z3 a4 z4 a z a1 z1 : ℕ} {gs : Groups} {m : Bool} → SpellsExp ns false levels.any e s (mark sign.RightParenthesis a2 z2 ∷ mark sign.LeftBrace a3 z3 ∷ t) → SpellsGroups ns gs t (mark sign.RightBrace a4 z4 ∷ u) → SpellsStmt ns m (tree.Switch a e gs) (reserved word.Switch a z ∷ mark sign.LeftParenthesis a1 z1 ∷ s) u

  -- locals and statements
  pub data SpellsItems (ns : List Name) : Items → List Lexeme → List Lexeme → Type 0 where
    no_items : {s : List Lexeme} → SpellsItems ns tree.NoItems s s
    local_item : {loc : Local} {s t u : List Lexeme} {its : Items} → SpellsLocal ns loc s t → SpellsItems ns its t u → SpellsItems ns (tree.LocalItem loc its) s u
    statement_item : {g : Stmt} {s t u : List Lexeme} {its : Items} → SpellsStmt ns false g s t → SpellsItems ns its t u → SpellsItems ns (tree.StatementItem g its) s u

  -- the groups of a switch
  pub data SpellsGroups (ns : List Name) : Groups → List Lexeme → List Lexeme → Type 0 where
    no_groups : {s : List Lexeme} → SpellsGroups ns tree.NoGroups s s
    more_groups : {la : Label} {s t u v w r : List Lexeme} {las : List Label} {g : Stmt} {its : Items} {gs : Groups} → SpellsLabel ns la s t → SpellsLabels ns las t u → SpellsStmt ns false g u v → SpellsItems ns its v w → SpellsGroups ns gs w r → SpellsGroups ns (tree.MoreGroups la las g its gs) s r

pub data SpellsBracket (ns : List Name) : Bracket → List Lexeme → List Lexeme → Type 0 where
  no_bracket : {s : List Lexeme} → SpellsBracket ns tree.NoBracket s s
  open_bracket : {a z a1 z1 : ℕ} {s : List Lexeme} → SpellsBracket ns (tree.OpenBracket a) (mark sign.LeftBracket a z ∷ mark sign.RightBracket a1 z1 ∷ s) s
  sized_bracket : {e : Exp} {s t : List Lexeme} {a1 z1 a z : ℕ} → SpellsExp ns false levels.any e s (mark sign.RightBracket a1 z1 ∷ t) → SpellsBracket ns (tree.SizedBracket a e) (mark sign.LeftBracket a z ∷ s) t

pub data SpellsParam (ns : List Name) : Param → List Lexeme → List Lexeme → Type 0 where
  unnamed : {ws : Words} {s t u v : List Lexeme} {ats : List ℕ} {br : Bracket} → SpellsWords ns false seen.Nothing ws s t → SpellsStars false ats t u → SpellsBracket ns br u v → SpellsParam ns (tree.Parameter ws ats None br) s v
  parameter : {ws : Words} {s t u v : List Lexeme} {ats : List ℕ} {n : Name} {a z : ℕ} {br : Bracket} → SpellsWords ns false seen.Nothing ws s t → SpellsStars false ats t (named n a z ∷ u) → is_made ns n ≡ false → SpellsBracket ns br u v → SpellsParam ns (tree.Parameter ws ats (Some (a, n)) br) s v

-- parameters, one at least, and the `)` behind them
pub data SpellsParams (ns : List Name) : List Param → List Lexeme → List Lexeme → Type 0 where
  last_parameter : {pa : Param} {s t : List Lexeme} {a z : ℕ} → SpellsParam ns pa s (mark sign.RightParenthesis a z ∷ t) → SpellsParams ns (pa ∷ []) s t
  more_parameters : {pa : Param} {s t u : List Lexeme} {a z : ℕ} {pas : List Param} → SpellsParam ns pa s (mark sign.Comma a z ∷ t) → SpellsParams ns pas t u → SpellsParams ns (pa ∷ pas) s u

-- `(void)` has no parameters
abbrev pub parameters : List Param → List Param
parameters (tree.Parameter (tree.MoreWords (tree.Reserved a word.Void) tree.NoWords) [] None tree.NoBracket ∷ []) = []
parameters pas = pas

-- parameters in parentheses
pub data SpellsParameters (ns : List Name) : List Param → List Lexeme → List Lexeme → Type 0 where
  no_parameters : {a z a1 z1 : ℕ} {s : List Lexeme} → SpellsParameters ns [] (mark sign.LeftParenthesis a z ∷ mark sign.RightParenthesis a1 z1 ∷ s) s
  some_parameters : {pas : List Param} {s t : List Lexeme} {a z : ℕ} → SpellsParams ns pas s t → SpellsParameters ns (parameters pas) (mark sign.LeftParenthesis a z ∷ s) t

pub data SpellsTop (ns : List Name) : Top → List Lexeme → List Lexeme → Type 0 where
  object : {d : Declarator} {s t : List Lexeme} → SpellsDeclarator ns true d s t → SpellsTop ns (tree.Topmost d None None) s t
  object_value : {d : Declarator} {s t u : List Lexeme} {a z : ℕ} {e : Exp} → SpellsDeclarator ns true d s (mark sign.Equal a z ∷ t) → SpellsExp ns true levels.any e t u → SpellsTop ns (tree.Topmost d None (Some e)) s u
  prototype : {d : Declarator} {s t u : List Lexeme} {pas : List Param} → SpellsDeclarator ns true d s t → SpellsParameters ns pas t u → SpellsTop ns (tree.Topmost d (Some pas) None) s u
  prototype_value : {d : Declarator} {s t u v : List Lexeme} {pas : List Param} {a z : ℕ} {e : Exp} → SpellsDeclarator ns true d s t → SpellsParameters ns pas t (mark sign.Equal a z ∷ u) → SpellsExp ns true levels.any e u v → SpellsTop ns (tree.Topmost d (Some pas) (Some e)) s v

-- declarators outside functions, one at least, and the `;` behind them
pub data SpellsTops (ns : List Name) : List Top → List Lexeme → List Lexeme → Type 0 where
  last_top : {top : Top} {s t : List Lexeme} {a z : ℕ} → SpellsTop ns top s (mark sign.Semicolon a z ∷ t) → SpellsTops ns (top ∷ []) s t
  more_tops : {top : Top} {s t u : List Lexeme} {a z : ℕ} {tops : List Top} → SpellsTop ns top s (mark sign.Comma a z ∷ t) → SpellsTops ns tops t u → SpellsTops ns (top ∷ tops) s u

-- the declarators of a declaration, or none
pub data SpellsDeclared (ns : List Name) : List Top → List Lexeme → List Lexeme → Type 0 where
  no_tops : {a z : ℕ} {s : List Lexeme} → SpellsDeclared ns [] (mark sign.Semicolon a z ∷ s) s
  some_tops : {tops : List Top} {s t : List Lexeme} → SpellsTops ns tops s t → SpellsDeclared ns tops s t

pub data SpellsExternal (ns : List Name) : External → List Lexeme → List Lexeme → Type 0 where
  function : {ws : Words} {s t u v w : List Lexeme} {d : Declarator} {pas : List Param} {a z a1 z1 : ℕ} {its : Items} → SpellsWords ns true seen.Nothing ws s t → SpellsDeclarator ns true d t u → SpellsParameters ns pas u (mark sign.LeftBrace a z ∷ v) → SpellsItems ns its v (mark sign.RightBrace a1 z1 ∷ w) → SpellsExternal ns (tree.Function ws d pas its) s w
  declaration : {ws : Words} {s t u : List Lexeme} {tops : List Top} → SpellsWords ns true seen.Nothing ws s t → SpellsDeclared ns tops t u → SpellsExternal ns (tree.Declaration None ws tops) s u
  typedef : {ws : Words} {s t u : List Lexeme} {tops : List Top} {a z : ℕ} → SpellsWords ns true seen.Nothing ws s t → SpellsDeclared ns tops t u → SpellsExternal ns (tree.Declaration (Some a) ws tops) (reserved word.Typedef a z ∷ s) u

abbrev pub declared : Declarator → Name
declared (tree.Declare ats a n dims) = n

abbrev pub name_of : Top → Name
name_of (tree.Topmost d ops i) = declared d

-- the names that were made before, and those of the declarators
abbrev pub names_of : List Top → List Name → List Name
names_of [] ns = ns
names_of (top ∷ tops) ns = names_of tops (name_of top ∷ ns)

-- the names of types behind an external: a typedef's names are made at its end
abbrev pub names_after : External → List Name → List Name
names_after (tree.Declaration (Some a) ws tops) ns = names_of tops ns
names_after ext ns = ns

-- the externals of a text, up to its end
pub data SpellsUnit : List Name → List External → List Lexeme → Type 0 where
  no_externals : {ns : List Name} → SpellsUnit ns [] []
  more_externals : {ns : List Name} {ext : External} {exts : List External} {s t : List Lexeme} → SpellsExternal ns ext s t → SpellsUnit (names_after ext ns) exts t → SpellsUnit ns (ext ∷ exts) s

-- the tree of a whole text
abbrev pub Spells : List External → List Lexeme → Type 0
Spells exts s = SpellsUnit [] exts s
