-- The plain trees of the code's typed trees.
use Rattle.std.specs.Prelude.{map, string_bytes}
use Rattle.std.specs.Option.{option_map}
use Rattle.c_values.specs.CodeTypes.{int_type_of, type_of}
use Rattle.c_values.specs.CodeValue.{global_of}
use Rattle.c_lang.specs.Typed as typed
use Rattle.c_lang.specs.declared.tree.Arithmetic.{Arithmetic}
use Rattle.c_lang.specs.declared.tree.Arithmetic.TheVariants as A
use Rattle.c_lang.specs.declared.tree.Bitwise.{Bitwise}
use Rattle.c_lang.specs.declared.tree.Bitwise.TheVariants as B
use Rattle.c_lang.specs.declared.tree.Direction.{Direction}
use Rattle.c_lang.specs.declared.tree.Direction.TheVariants as D
use Rattle.c_lang.specs.declared.tree.Relation.{Relation}
use Rattle.c_lang.specs.declared.tree.Relation.TheVariants as R
use Rattle.c_lang.specs.declared.tree.Equality.{Equality}
use Rattle.c_lang.specs.declared.tree.Equality.TheVariants as Q
use Rattle.c_lang.specs.declared.tree.Sign.{Sign}
use Rattle.c_lang.specs.declared.tree.Sign.TheVariants as S
use Rattle.c_lang.specs.declared.tree.Expr as E
use Rattle.c_lang.specs.declared.tree.Place as P
use Rattle.c_lang.specs.declared.tree.Path as W
use Rattle.c_lang.specs.declared.tree.Destination.{Destination}
use Rattle.c_lang.specs.declared.tree.Destination.TheVariants as T
use Rattle.c_lang.specs.declared.tree.Use.{Use}
use Rattle.c_lang.specs.declared.tree.Use.TheVariants as U
use Rattle.c_lang.specs.declared.tree.Test.{Test}
use Rattle.c_lang.specs.declared.tree.Test.TheVariants as L
use Rattle.c_lang.specs.declared.tree.Statement as G
use Rattle.c_lang.specs.declared.tree.Statements as I
use Rattle.c_lang.specs.declared.tree.Groups as Gs
use Rattle.c_lang.specs.declared.tree.Variable.{Variable}
use Rattle.c_lang.specs.declared.tree.TypedFn.{TypedFn}
use Rattle.c_values.specs.declared.program.Program as program

abbrev pub arithmetic_of : Arithmetic → typed.Arithmetic
arithmetic_of A.Add = typed.Add
arithmetic_of A.Subtract = typed.Subtract
arithmetic_of A.Multiply = typed.Multiply
arithmetic_of A.Divide = typed.Divide
arithmetic_of A.Remainder = typed.Remainder

abbrev pub bitwise_of : Bitwise → typed.Bitwise
bitwise_of B.BitAnd = typed.BitAnd
bitwise_of B.BitOr = typed.BitOr
bitwise_of B.BitXor = typed.BitXor

abbrev pub direction_of : Direction → typed.Direction
direction_of D.Left = typed.Left
direction_of D.Right = typed.Right

abbrev pub relation_of : Relation → typed.Relation
relation_of R.Less = typed.Less
relation_of R.LessEqual = typed.LessEqual
relation_of R.Greater = typed.Greater
relation_of R.GreaterEqual = typed.GreaterEqual

abbrev pub equality_of : Equality → typed.Equality
equality_of Q.Equal = typed.Equal
equality_of Q.NotEqual = typed.NotEqual

abbrev pub sign_of : Sign → typed.Sign
sign_of S.Plus = typed.Plus
sign_of S.Minus = typed.Minus

abbrev mutual
  pub expr_of : E.Expr → typed.Expr
  expr_of (E.Constant i n) = typed.Constant (int_type_of i) n
  expr_of (E.Local x t) = typed.Local (string_bytes x) (type_of t)
  expr_of (E.Value' p a) = typed.Value (place_of a)
  expr_of (E.Convert' t p a) = typed.Convert (type_of t) (expr_of a)
  expr_of (E.ConvertNull' t p a) = typed.ConvertNull (type_of t) (expr_of a)
  expr_of (E.Negate' i p a) = typed.Negate (int_type_of i) (expr_of a)
  expr_of (E.Complement' i p a) = typed.Complement (int_type_of i) (expr_of a)
  expr_of (E.Compute' o i p a q b) = typed.Compute (arithmetic_of o) (int_type_of i) (expr_of a) (expr_of b)
  expr_of (E.Combine' o i p a q b) = typed.Combine (bitwise_of o) (int_type_of i) (expr_of a) (expr_of b)
  expr_of (E.Shift' o i p a q b) = typed.Shift (direction_of o) (int_type_of i) (expr_of a) (expr_of b)
  expr_of (E.Compare' o i p a q b) = typed.Compare (relation_of o) (int_type_of i) (expr_of a) (expr_of b)
  expr_of (E.Equate' o t p a q b) = typed.Equate (equality_of o) (type_of t) (expr_of a) (expr_of b)
  expr_of (E.Not' p a) = typed.Not (expr_of a)
  expr_of (E.And' p a q b) = typed.And (expr_of a) (expr_of b)
  expr_of (E.Or' p a q b) = typed.Or (expr_of a) (expr_of b)
  expr_of (E.Choose' t p c q a r b) = typed.Choose (type_of t) (expr_of c) (expr_of a) (expr_of b)
  expr_of (E.Move' s t p a q b) = typed.Move (sign_of s) (type_of t) (expr_of a) (expr_of b)
  expr_of (E.MoveBy' t p a q b) = typed.MoveBy (type_of t) (expr_of a) (expr_of b)
  expr_of (E.Address' p a t) = typed.Address (place_of a) (type_of t)
  expr_of (E.Decay' p a t) = typed.Decay (place_of a) (type_of t)

  pub place_of : P.Place → typed.Place
  place_of (P.Through' root p a q path t) = typed.Through (type_of root) (expr_of a) (path_of path) (type_of t)
  place_of (P.InGlobal' x p path t) = typed.InGlobal (string_bytes x) (path_of path) (type_of t)

  pub path_of : W.Path → typed.Path
  path_of W.Here = typed.Here
  path_of (W.Member' k p path) = typed.Member k (path_of path)
  path_of (W.Element' n p a q path) = typed.Element n (expr_of a) (path_of path)

abbrev pub destination_of : Destination → typed.Destination
destination_of (T.ToLocal x t) = typed.ToLocal (string_bytes x) (type_of t)
destination_of (T.ToPlace p) = typed.ToPlace (place_of p)

abbrev pub use_of : Use → typed.Use
use_of U.NoResult = typed.NoResult
use_of (U.Ignored t) = typed.Ignored (type_of t)
use_of (U.Assigned t d) = typed.Assigned (type_of t) (destination_of d)
use_of (U.Returned t u) = typed.Returned (type_of t) (type_of u)

abbrev pub test_of : Test → typed.Test
test_of L.Always = typed.Always
test_of (L.Tested e) = typed.Tested (expr_of e)

abbrev mutual
  pub statement_of : G.Statement → typed.Statement
  statement_of G.Empty = typed.Empty
  statement_of (G.Block' p is) = typed.Block (statements_of is)
  statement_of (G.Declare x t) = typed.Declare (string_bytes x) (type_of t)
  statement_of (G.Assign d e) = typed.Assign (destination_of d) (expr_of e)
  statement_of (G.Call n f args u) = typed.Call n (string_bytes f) (map expr_of args.items) (use_of u)
  statement_of (G.If' e p s q t) = typed.If (expr_of e) (statement_of s) (statement_of t)
  statement_of (G.While' e p s) = typed.While (expr_of e) (statement_of s)
  statement_of (G.DoWhile' n p s e) = typed.DoWhile n (statement_of s) (expr_of e)
  statement_of (G.For' p is test q step r s) =
      typed.For (statements_of is) (test_of test) (statement_of step) (statement_of s)
  statement_of (G.Switch' n i e p gs) = typed.Switch n (int_type_of i) (expr_of e) (groups_of gs)
  statement_of G.Break = typed.Break
  statement_of G.Continue = typed.Continue
  statement_of G.ReturnNothing = typed.ReturnNothing
  statement_of (G.Return e) = typed.Return (expr_of e)

  pub statements_of : I.Statements → typed.Statements
  statements_of I.None = typed.no_statements
  statements_of (I.Next' p s q is) = typed.next (statement_of s) (statements_of is)

  pub groups_of : Gs.Groups → typed.Groups
  groups_of Gs.None = typed.no_groups
  groups_of (Gs.Next' labels default p is q gs) = typed.group labels.items default (statements_of is) (groups_of gs)

abbrev pub variable_of : Variable → typed.Variable
variable_of v = record { name = string_bytes v.name; type = type_of v.ty }

abbrev pub function_of : TypedFn → typed.TypedFn
function_of f =
    record {
      name = string_bytes f.name;
      result = option_map type_of f.result;
      params = map variable_of f.params.items;
      locals = map variable_of f.locals.items;
      folds_cast = f.folds_cast;
      body = statements_of f.body;
    }

abbrev pub unit_of : program.Program TypedFn → typed.TypedUnit
unit_of u =
    record {
      layout = u.layout;
      globals = map global_of u.globals.items;
      functions = map function_of u.functions.items;
    }
