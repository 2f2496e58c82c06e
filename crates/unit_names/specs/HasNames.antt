-- Which typed units speak of nothing that has no text: what they declare has a name as texts have them, and so has each type that an
-- expression names (structs by such names, arrays of lengths below 2^32).
use Rattle.std.specs.Prelude.{◌≡◌, ◌^◌, nat_lt, Bool, true, ◌&&◌}
use Rattle.c_values.specs.Layout.{GlobalVar}
use Rattle.c_lang.specs.Typed as C
use Rattle.expression_text.specs.Names.{is_name}
use Rattle.expression_text.specs.TypeText.{is_type}
use Rattle.expression_text.specs.Lists.{each}

abbrev mutual
  -- each type in an expression
  pub has_types : C.Expr → Bool
  has_types (C.Constant i n) = true
  has_types (C.Local x t) = is_type t
  has_types (C.Value p) = place_has_types p
  has_types (C.Convert t a) = is_type t && has_types a
  has_types (C.ConvertNull t a) = is_type t && has_types a
  has_types (C.Negate i a) = has_types a
  has_types (C.Complement i a) = has_types a
  has_types (C.Compute op i a b) = has_types a && has_types b
  has_types (C.Combine op i a b) = has_types a && has_types b
  has_types (C.Shift d i a b) = has_types a && has_types b
  has_types (C.Compare r i a b) = has_types a && has_types b
  has_types (C.Equate q t a b) = has_types a && has_types b
  has_types (C.Not a) = has_types a
  has_types (C.And a b) = has_types a && has_types b
  has_types (C.Or a b) = has_types a && has_types b
  has_types (C.Choose t c a b) = is_type t && has_types c && has_types a && has_types b
  has_types (C.Move s t p a) = is_type t && has_types p && has_types a
  has_types (C.MoveBy t a p) = is_type t && has_types a && has_types p
  has_types (C.Address p t) = is_type t && place_has_types p
  has_types (C.Decay p t) = is_type t && place_has_types p

  pub place_has_types : C.Place → Bool
  place_has_types (C.Through t p path u) = is_type t && has_types p && path_has_types path && is_type u
  place_has_types (C.InGlobal x path u) = path_has_types path && is_type u

  pub path_has_types : C.Path → Bool
  path_has_types C.Here = true
  path_has_types (C.Member k path) = path_has_types path
  path_has_types (C.Element n e path) = nat_lt n (2 ^ 32) && has_types e && path_has_types path

abbrev pub target_has_types : C.Destination → Bool
target_has_types (C.ToLocal x t) = is_type t
target_has_types (C.ToPlace p) = place_has_types p

abbrev pub use_has_types : C.Use → Bool
use_has_types C.NoResult = true
use_has_types (C.Ignored t) = true
use_has_types (C.Assigned t d) = target_has_types d
use_has_types (C.Returned t u) = true

abbrev pub test_has_types : C.Test → Bool
test_has_types C.Always = true
test_has_types (C.Tested e) = has_types e

abbrev mutual
  -- and in a statement
  pub statement_has_types : C.Statement → Bool
  statement_has_types C.Empty = true
  statement_has_types (C.Block ss) = statements_have_types ss
  statement_has_types (C.Declare x t) = true
  statement_has_types (C.Assign d e) = target_has_types d && has_types e
  statement_has_types (C.Call n f es use') = each has_types es && use_has_types use'
  statement_has_types (C.If e a b) = has_types e && statement_has_types a && statement_has_types b
  statement_has_types (C.While e a) = has_types e && statement_has_types a
  statement_has_types (C.DoWhile k a e) = statement_has_types a && has_types e
  statement_has_types (C.For init test step a) = statements_have_types init && test_has_types test && statement_has_types step && statement_has_types a
  statement_has_types (C.Switch n i e gs) = has_types e && groups_have_types gs
  statement_has_types C.Break = true
  statement_has_types C.Continue = true
  statement_has_types C.ReturnNothing = true
  statement_has_types (C.Return e) = has_types e

  pub statements_have_types : C.Statements → Bool
  statements_have_types C.no_statements = true
  statements_have_types (C.next s ss) = statement_has_types s && statements_have_types ss

  pub groups_have_types : C.Groups → Bool
  groups_have_types C.no_groups = true
  groups_have_types (C.group labels is_default ss gs) = statements_have_types ss && groups_have_types gs

-- a variable has a name, and a function's own variables have, and its body has types
abbrev pub has_name : C.Variable → Bool
has_name v = is_name v.name

abbrev pub function_has_names : C.TypedFn → Bool
function_has_names f = is_name f.name && each has_name f.params && each has_name f.locals && statements_have_types f.body

abbrev pub global_has_name : GlobalVar → Bool
global_has_name v = is_name v.name

pub record HasNames (u : C.TypedUnit) : Type 0 where
  pub globals : each global_has_name u.globals ≡ true
  pub functions : each function_has_names u.functions ≡ true
