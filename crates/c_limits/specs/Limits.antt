-- The limits of a text's tree, and the first place where one is passed. A text counts its functions, a function its
-- statements and the declarators of its locals, and how deep they nest; an expression counts its nodes, and how deep they
-- nest. An expression (C99 6.5) is one that stands in no other: the array lengths and enumerators of a type name are parts of
-- the `sizeof` or the cast that it stands in, and arguments of a call are expressions of their own.
--
-- A limit is passed at the first token of the first node, in preorder, that brings its count over the number.
use Rattle.std.specs.Prelude.{ℕ, Bool, if◌then◌else◌, ◌||◌, ◌&&◌, nat_lt, nat_le, nat_eq, List, [], ◌∷◌, ◌++◌, Option, Some, None, length, drop, slice_get}
use Rattle.std.specs.Option.{option_map}
use Rattle.c_grammar.specs.Tree as tree
use Rattle.c_grammar.specs.Tree.{Exp, TypeName, Words, Word, Members, Declarators, Declarator, Dimensions, Enumerators, Enumerator, Call, Rhs, Simple, Init, Local, Label, Start, Stmt, Items, Groups, Bracket, Param, Top, External}
use Rattle.c_limits.specs.FirstToken.{first_of, first_of_simple, first_of_declarator, first_of_function}
use Rattle.c_limits.specs.declared.limits.Limit.{Limit}
use Rattle.c_limits.specs.declared.limits.Limit.TheVariants as limit

-- how many of its kind a limit allows
abbrev pub most : Limit → ℕ
most limit.Functions = 1024
most limit.Statements = 200
most limit.Blocks = 32
most limit.Depth = 32
most limit.Nodes = 128

-- the order of the limits that are passed at one place
abbrev pub rank : Limit → ℕ
rank limit.Functions = 0
rank limit.Statements = 1
rank limit.Blocks = 2
rank limit.Depth = 3
rank limit.Nodes = 4

-- a limit that is passed, and the offset at which it is
abbrev pub Fault : Type 0
Fault = Limit × ℕ

-- whether a fault comes no later than another
abbrev pub precedes : Fault → Fault → Bool
precedes f g = nat_lt f.1 g.1 || (nat_eq f.1 g.1 && nat_le (rank f.0) (rank g.0))

-- the one that comes first, if there is one
abbrev pub earlier : Option Fault → Option Fault → Option Fault
earlier None g = g
earlier (Some f) None = Some f
earlier (Some f) (Some g) = if precedes f g then Some f else Some g

-- the fault of the nodes that count for a limit, whose offsets these are in preorder: it is at the first one too many
abbrev pub past : Limit → List ℕ → Option Fault
past l offsets = option_map (λ a. (l, a)) (slice_get offsets (most l))

-- of two trees side by side, the first node on each level, where each of them has these
abbrev pub leftmost : List ℕ → List ℕ → List ℕ
leftmost xs ys = xs ++ drop (length xs) ys

-- What counts in a part of a text, by the offsets of first tokens in preorder: the functions; the statements of no function
-- and the declarators of locals, and of these statements the first one on each level of nesting; the nodes of the outermost
-- expressions, and of these the first one on each level. And the first fault in it, if its outermost expressions stand in
-- no other.
pub record Measure : Type 0 where
  pub functions : List ℕ
  pub statements : List ℕ
  pub blocks : List ℕ
  pub nodes : List ℕ
  pub depth : List ℕ
  pub fault : Option Fault

abbrev pub nothing : Measure
nothing = record { functions = []; statements = []; blocks = []; nodes = []; depth = []; fault = None }

abbrev pub beside : Measure → Measure → Measure
beside m n =
    record {
      functions = m.functions ++ n.functions;
      statements = m.statements ++ n.statements;
      blocks = leftmost m.blocks n.blocks;
      nodes = m.nodes ++ n.nodes;
      depth = leftmost m.depth n.depth;
      fault = earlier m.fault n.fault;
    }

-- parts side by side
abbrev pub all : List Measure → Measure
all [] = nothing
all (m ∷ ms) = beside m (all ms)

-- a node of an expression above its parts
abbrev pub node : ℕ → Measure → Measure
node a parts =
    record parts {
      nodes = a ∷ parts.nodes;
      depth = a ∷ parts.depth;
      fault = earlier (past limit.Depth (a ∷ parts.depth)) (past limit.Nodes (a ∷ parts.nodes));
    }

-- expressions and types that stand in no other expression
abbrev pub outermost : Measure → Measure
outermost parts = record parts { nodes = []; depth = [] }

-- a statement above its parts
abbrev pub statement : ℕ → Measure → Measure
statement a parts = record parts { statements = a ∷ parts.statements; blocks = a ∷ parts.blocks; nodes = []; depth = [] }

-- the declarator of a local, which counts as a statement and doesn't nest
abbrev pub local : ℕ → Measure → Measure
local a parts = record parts { statements = a ∷ parts.statements; nodes = []; depth = [] }

-- a function around its parts
abbrev pub function : ℕ → Measure → Measure
function a parts =
    record {
      functions = a ∷ [];
      statements = [];
      blocks = [];
      nodes = [];
      depth = [];
      fault = earlier (past limit.Statements parts.statements) (earlier (past limit.Blocks parts.blocks) parts.fault);
    }

-- the measure of each tree

abbrev mutual
  pub exp : Exp → Measure
  exp (tree.Variable a n) = node a nothing
  exp (tree.Number a value decimal unsigned longs) = node a nothing
  exp (tree.Character a value) = node a nothing
  exp (tree.Parenthesis a e) = node a (all (exp e ∷ []))
  exp (tree.Index e i) = node (first_of e) (all (exp e ∷ exp i ∷ []))
  exp (tree.Member e n) = node (first_of e) (all (exp e ∷ []))
  exp (tree.PointerMember e n) = node (first_of e) (all (exp e ∷ []))
  exp (tree.Unary a o e) = node a (all (exp e ∷ []))
  exp (tree.SizeofValue a e) = node a (all (exp e ∷ []))
  exp (tree.SizeofType a t) = node a (all (type t ∷ []))
  exp (tree.Cast a t e) = node a (all (type t ∷ exp e ∷ []))
  exp (tree.Binary o x y) = node (first_of x) (all (exp x ∷ exp y ∷ []))
  exp (tree.Conditional c x y) = node (first_of c) (all (exp c ∷ exp x ∷ exp y ∷ []))

  pub type : TypeName → Measure
  type (tree.Typed ws stars) = all (words ws ∷ [])

  pub words : Words → Measure
  words tree.NoWords = nothing
  words (tree.MoreWords w ws) = all (word w ∷ words ws ∷ [])

  pub word : Word → Measure
  word (tree.Reserved a k) = nothing
  word (tree.Named a n) = nothing
  word (tree.StructTag a n) = nothing
  word (tree.StructBody a n ms) = all (members ms ∷ [])
  word (tree.EnumTag a n) = nothing
  word (tree.EnumBody a n es) = all (enumerators es ∷ [])

  pub members : Members → Measure
  members (tree.LastMember ws ds) = all (words ws ∷ declarators ds ∷ [])
  members (tree.MoreMembers ws ds ms) = all (words ws ∷ declarators ds ∷ members ms ∷ [])

  pub declarators : Declarators → Measure
  declarators (tree.LastDeclarator d) = all (declarator d ∷ [])
  declarators (tree.MoreDeclarators d ds) = all (declarator d ∷ declarators ds ∷ [])

  pub declarator : Declarator → Measure
  declarator (tree.Declare stars a n dims) = all (dimensions dims ∷ [])

  pub dimensions : Dimensions → Measure
  dimensions tree.NoDimensions = nothing
  dimensions (tree.MoreDimensions e dims) = all (exp e ∷ dimensions dims ∷ [])

  pub enumerators : Enumerators → Measure
  enumerators (tree.LastEnumerator e) = all (enumerator e ∷ [])
  enumerators (tree.MoreEnumerators e es) = all (enumerator e ∷ enumerators es ∷ [])

  pub enumerator : Enumerator → Measure
  enumerator (tree.Implicit a n) = nothing
  enumerator (tree.Explicit a n e) = all (exp e ∷ [])

abbrev pub arguments : List Exp → Measure
arguments [] = nothing
arguments (e ∷ es) = outermost (all (exp e ∷ arguments es ∷ []))

abbrev pub call : Call → Measure
call (tree.Calls a n es) = outermost (all (arguments es ∷ []))

abbrev pub rhs : Rhs → Measure
rhs (tree.Value e) = outermost (all (exp e ∷ []))
rhs (tree.Result c) = all (call c ∷ [])

abbrev pub simple : Simple → Measure
simple (tree.Assign e r) = outermost (all (exp e ∷ rhs r ∷ []))
simple (tree.Update o e x) = outermost (all (exp e ∷ exp x ∷ []))
simple (tree.After o e) = outermost (all (exp e ∷ []))
simple (tree.Before a o e) = outermost (all (exp e ∷ []))
simple (tree.Invoke c) = outermost (all (call c ∷ []))

abbrev pub initial : Option Rhs → Measure
initial None = nothing
initial (Some r) = all (rhs r ∷ [])

abbrev pub inits : List Init → Measure
inits [] = nothing
inits (tree.Initialized d r ∷ is) = local (first_of_declarator d) (all (declarator d ∷ initial r ∷ inits is ∷ []))

abbrev pub locals : Local → Measure
locals (tree.Locals ws is) = outermost (all (words ws ∷ inits is ∷ []))

abbrev pub label : Label → Measure
label (tree.Case a e) = outermost (all (exp e ∷ []))
label (tree.Default a) = nothing

abbrev pub labels : List Label → Measure
labels [] = nothing
labels (l ∷ ls) = all (label l ∷ labels ls ∷ [])

abbrev pub start : Start → Measure
start tree.NoStart = nothing
start (tree.StartLocal l) = all (locals l ∷ [])
start (tree.StartSimple s) = all (simple s ∷ [])

abbrev pub test : Option Exp → Measure
test None = nothing
test (Some e) = outermost (all (exp e ∷ []))

abbrev pub step : Option Simple → Measure
step None = nothing
step (Some s) = all (simple s ∷ [])

abbrev mutual
  pub stmt : Stmt → Measure
  stmt (tree.Empty a) = statement a nothing
  stmt (tree.Block a is) = statement a (all (items is ∷ []))
  stmt (tree.Simply s) = statement (first_of_simple s) (all (simple s ∷ []))
  stmt (tree.Break a) = statement a nothing
  stmt (tree.Continue a) = statement a nothing
  stmt (tree.Return a r) = statement a (initial r)
  stmt (tree.If a e s) = statement a (all (exp e ∷ stmt s ∷ []))
  stmt (tree.IfElse a e s t) = statement a (all (exp e ∷ stmt s ∷ stmt t ∷ []))
  stmt (tree.While a e s) = statement a (all (exp e ∷ stmt s ∷ []))
  stmt (tree.For a h c u s) = statement a (all (start h ∷ test c ∷ step u ∷ stmt s ∷ []))
  stmt (tree.Do a s e) = statement a (all (stmt s ∷ exp e ∷ []))
  stmt (tree.Switch a e gs) = statement a (all (exp e ∷ groups gs ∷ []))

  pub items : Items → Measure
  items tree.NoItems = nothing
  items (tree.LocalItem l is) = all (locals l ∷ items is ∷ [])
  items (tree.StatementItem s is) = all (stmt s ∷ items is ∷ [])

  pub groups : Groups → Measure
  groups tree.NoGroups = nothing
  groups (tree.MoreGroups l ls s is gs) = all (label l ∷ labels ls ∷ stmt s ∷ items is ∷ groups gs ∷ [])

abbrev pub bracket : Bracket → Measure
bracket tree.NoBracket = nothing
bracket (tree.OpenBracket a) = nothing
bracket (tree.SizedBracket a e) = outermost (all (exp e ∷ []))

abbrev pub param : Param → Measure
param (tree.Parameter ws stars n b) = outermost (all (words ws ∷ bracket b ∷ []))

abbrev pub params : List Param → Measure
params [] = nothing
params (p ∷ ps) = all (param p ∷ params ps ∷ [])

abbrev pub parameters : Option (List Param) → Measure
parameters None = nothing
parameters (Some ps) = all (params ps ∷ [])

abbrev pub top : Top → Measure
top (tree.Topmost d ps e) = outermost (all (declarator d ∷ parameters ps ∷ test e ∷ []))

abbrev pub tops : List Top → Measure
tops [] = nothing
tops (t ∷ ts) = all (top t ∷ tops ts ∷ [])

abbrev pub external : External → Measure
external (tree.Function ws d ps is) = function (first_of_function ws d) (all (words ws ∷ declarator d ∷ parameters (Some ps) ∷ items is ∷ []))
external (tree.Declaration a ws ts) = outermost (all (words ws ∷ tops ts ∷ []))

abbrev pub unit : List External → Measure
unit [] = nothing
unit (x ∷ xs) = all (external x ∷ unit xs ∷ [])

-- the first limit that a text's tree passes, and where
abbrev pub first_limit : List External → Option Fault
first_limit xs = earlier (past limit.Functions (unit xs).functions) (unit xs).fault
