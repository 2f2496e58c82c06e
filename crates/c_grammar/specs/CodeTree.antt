-- The plain trees of the parser's own trees.
use Rattle.std.specs.Prelude.{List, map, string_bytes}
use Rattle.std.specs.Option.{option_map}
use Rattle.c_grammar.specs.Tree as tree
use Rattle.c_grammar.specs.declared.tree.CExp as E
use Rattle.c_grammar.specs.declared.tree.Words as Ws
use Rattle.c_grammar.specs.declared.tree.Word as W
use Rattle.c_grammar.specs.declared.tree.Members as M
use Rattle.c_grammar.specs.declared.tree.Declarators as Ds
use Rattle.c_grammar.specs.declared.tree.Declarator as D
use Rattle.c_grammar.specs.declared.tree.Dimensions as Dim
use Rattle.c_grammar.specs.declared.tree.Enumerators as Ens
use Rattle.c_grammar.specs.declared.tree.Enumerator as En
use Rattle.c_grammar.specs.declared.tree.Call.{Call}
use Rattle.c_grammar.specs.declared.tree.Rhs.TheVariants as R
use Rattle.c_grammar.specs.declared.tree.Simple.TheVariants as S
use Rattle.c_grammar.specs.declared.tree.Init.{Init}
use Rattle.c_grammar.specs.declared.tree.Local.{Local}
use Rattle.c_grammar.specs.declared.tree.Label.TheVariants as L
use Rattle.c_grammar.specs.declared.tree.Start.TheVariants as St
use Rattle.c_grammar.specs.declared.tree.Stmt as G
use Rattle.c_grammar.specs.declared.tree.Items as I
use Rattle.c_grammar.specs.declared.tree.Groups as Gs
use Rattle.c_grammar.specs.declared.tree.Bracket.TheVariants as B
use Rattle.c_grammar.specs.declared.tree.Param.{Param}
use Rattle.c_grammar.specs.declared.tree.Top.{Top}
use Rattle.c_grammar.specs.declared.tree.Decl.TheVariants as X
use Rattle.c_grammar.specs.declared.tree.Rhs.{Rhs}
use Rattle.c_grammar.specs.declared.tree.Simple.{Simple}
use Rattle.c_grammar.specs.declared.tree.Label.{Label}
use Rattle.c_grammar.specs.declared.tree.Start.{Start}
use Rattle.c_grammar.specs.declared.tree.Bracket.{Bracket}
use Rattle.c_grammar.specs.declared.tree.Decl.{Decl}
use Rattle.c_grammar.specs.declared.tree.Unit.{Unit as Text}

abbrev mutual
  pub exp_of : E.CExp → tree.Exp
  exp_of (E.Name a n) = tree.Variable a (string_bytes n)
  exp_of (E.Number a v d u l) = tree.Number a v d u l
  exp_of (E.Character a v) = tree.Character a v
  exp_of (E.Parenthesis' a p e) = tree.Parenthesis a (exp_of e)
  exp_of (E.Index' p e q i) = tree.Index (exp_of e) (exp_of i)
  exp_of (E.Member' p e n) = tree.Member (exp_of e) (string_bytes n)
  exp_of (E.PointerMember' p e n) = tree.PointerMember (exp_of e) (string_bytes n)
  exp_of (E.Unary' a o p e) = tree.Unary a o (exp_of e)
  exp_of (E.SizeofValue' a p e) = tree.SizeofValue a (exp_of e)
  exp_of (E.SizeofType' a p ws stars) = tree.SizeofType a (tree.Typed (words_of ws) stars.items)
  exp_of (E.Cast' a p ws stars q e) = tree.Cast a (tree.Typed (words_of ws) stars.items) (exp_of e)
  exp_of (E.Binary' o p x q y) = tree.Binary o (exp_of x) (exp_of y)
  exp_of (E.Conditional' p c q x r y) = tree.Conditional (exp_of c) (exp_of x) (exp_of y)

  pub words_of : Ws.Words → tree.Words
  words_of Ws.None = tree.NoWords
  words_of (Ws.More' p w q ws) = tree.MoreWords (word_of w) (words_of ws)

  pub word_of : W.Word → tree.Word
  word_of (W.Reserved a k) = tree.Reserved a k
  word_of (W.Named a n) = tree.Named a (string_bytes n)
  word_of (W.StructTag a n) = tree.StructTag a (string_bytes n)
  word_of (W.StructBody' a n p ms) = tree.StructBody a (option_map string_bytes n) (members_of ms)
  word_of (W.EnumTag a n) = tree.EnumTag a (string_bytes n)
  word_of (W.EnumBody' a n p es) = tree.EnumBody a (option_map string_bytes n) (enumerators_of es)

  pub members_of : M.Members → tree.Members
  members_of (M.Last' p ws q ds) = tree.LastMember (words_of ws) (declarators_of ds)
  members_of (M.More' p ws q ds r ms) = tree.MoreMembers (words_of ws) (declarators_of ds) (members_of ms)

  pub declarators_of : Ds.Declarators → tree.Declarators
  declarators_of (Ds.Last' p d) = tree.LastDeclarator (declarator_of d)
  declarators_of (Ds.More' p d q ds) = tree.MoreDeclarators (declarator_of d) (declarators_of ds)

  pub declarator_of : D.Declarator → tree.Declarator
  declarator_of (D.Declare' stars a n p dims) = tree.Declare stars.items a (string_bytes n) (dimensions_of dims)

  pub dimensions_of : Dim.Dimensions → tree.Dimensions
  dimensions_of Dim.None = tree.NoDimensions
  dimensions_of (Dim.More' p e q dims) = tree.MoreDimensions (exp_of e) (dimensions_of dims)

  pub enumerators_of : Ens.Enumerators → tree.Enumerators
  enumerators_of (Ens.Last' p e) = tree.LastEnumerator (enumerator_of e)
  enumerators_of (Ens.More' p e q es) = tree.MoreEnumerators (enumerator_of e) (enumerators_of es)

  pub enumerator_of : En.Enumerator → tree.Enumerator
  enumerator_of (En.Implicit a n) = tree.Implicit a (string_bytes n)
  enumerator_of (En.Explicit' a n p e) = tree.Explicit a (string_bytes n) (exp_of e)

abbrev pub call_of : Call → tree.Call
call_of c = tree.Calls c.at (string_bytes c.name) (map exp_of c.arguments.items)

abbrev pub rhs_of : Rhs → tree.Rhs
rhs_of (R.Value e) = tree.Value (exp_of e)
rhs_of (R.Call c) = tree.Result (call_of c)

abbrev pub simple_of : Simple → tree.Simple
simple_of (S.Assign e r) = tree.Assign (exp_of e) (rhs_of r)
simple_of (S.Update o e x) = tree.Update o (exp_of e) (exp_of x)
simple_of (S.After o e) = tree.After o (exp_of e)
simple_of (S.Before a o e) = tree.Before a o (exp_of e)
simple_of (S.Call c) = tree.Invoke (call_of c)

abbrev pub init_of : Init → tree.Init
init_of i = tree.Initialized (declarator_of i.declarator) (option_map rhs_of i.value)

abbrev pub local_of : Local → tree.Local
local_of l = tree.Locals (words_of l.words) (map init_of l.inits.items)

abbrev pub label_of : Label → tree.Label
label_of (L.Case a e) = tree.Case a (exp_of e)
label_of (L.Default a) = tree.Default a

abbrev pub start_of : Start → tree.Start
start_of St.None = tree.NoStart
start_of (St.Local l) = tree.StartLocal (local_of l)
start_of (St.Simple s) = tree.StartSimple (simple_of s)

abbrev mutual
  pub stmt_of : G.Stmt → tree.Stmt
  stmt_of (G.Empty a) = tree.Empty a
  stmt_of (G.Block' a p is) = tree.Block a (items_of is)
  stmt_of (G.Simple s) = tree.Simply (simple_of s)
  stmt_of (G.Break a) = tree.Break a
  stmt_of (G.Continue a) = tree.Continue a
  stmt_of (G.Return a r) = tree.Return a (option_map rhs_of r)
  stmt_of (G.If' a e p s) = tree.If a (exp_of e) (stmt_of s)
  stmt_of (G.IfElse' a e p s q t) = tree.IfElse a (exp_of e) (stmt_of s) (stmt_of t)
  stmt_of (G.While' a e p s) = tree.While a (exp_of e) (stmt_of s)
  stmt_of (G.For' a start test step p s) = tree.For a (start_of start) (option_map exp_of test) (option_map simple_of step) (stmt_of s)
  stmt_of (G.Do' a p s e) = tree.Do a (stmt_of s) (exp_of e)
  stmt_of (G.Switch' a e p gs) = tree.Switch a (exp_of e) (groups_of gs)

  pub items_of : I.Items → tree.Items
  items_of I.None = tree.NoItems
  items_of (I.Local' l p is) = tree.LocalItem (local_of l) (items_of is)
  items_of (I.Statement' p s q is) = tree.StatementItem (stmt_of s) (items_of is)

  pub groups_of : Gs.Groups → tree.Groups
  groups_of Gs.None = tree.NoGroups
  groups_of (Gs.More' l ls p s q is r gs) = tree.MoreGroups (label_of l) (map label_of ls.items) (stmt_of s) (items_of is) (groups_of gs)

abbrev pub bracket_of : Bracket → tree.Bracket
bracket_of B.None = tree.NoBracket
bracket_of (B.Open a) = tree.OpenBracket a
bracket_of (B.Length a e) = tree.SizedBracket a (exp_of e)

abbrev pub param_of : Param → tree.Param
param_of p =
    tree.Parameter (words_of p.words) p.stars.items (option_map (λ n. (n.0, string_bytes n.1)) p.name) (bracket_of p.bracket)

abbrev pub top_of : Top → tree.Top
top_of t =
    tree.Topmost (declarator_of t.declarator) (option_map (λ ps. map param_of ps.items) t.parameters) (option_map exp_of t.value)

abbrev pub decl_of : Decl → tree.External
decl_of (X.Function ws d ps is) = tree.Function (words_of ws) (declarator_of d) (map param_of ps.items) (items_of is)
decl_of (X.Declaration a ws ts) = tree.Declaration a (words_of ws) (map top_of ts.items)

-- the tree of a text
abbrev pub unit_of : Text → List tree.External
unit_of u = map decl_of u.externals.items
