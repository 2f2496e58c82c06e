-- Well-typed trees (C99 6.5, 6.7, 6.8): what each node asks of the types of its parts, and each name of its declaration.
-- The checker makes no others. Here the types stand in the tree already; which they are is for the checker's rules to say.
use Rattle.std.specs.Prelude.{◌≡◌, ℕ, zero, suc, ◌==◌, Bool, true, false, not, ◌&&◌, ◌||◌, List, [], ◌∷◌, ◌++◌, map, Option, Some, None, ℤ, if◌then◌else◌}
use Rattle.c_values.specs.Name.{Name, same_name, are_distinct}
use Rattle.c_values.specs.Types.{Target, IntType, CType, Integer, Ptr, Array, same_type}
use Rattle.c_values.specs.Number.{is_of_type}
use Rattle.c_values.specs.Path.{HasShape}
use Rattle.c_values.specs.Layout as L
use Rattle.c_values.specs.Layout.{Layout, IsLayout, GlobalVar, Shape, Record, Row, Fields, no_fields, field, shape_of, is_object, is_scalar, global_type}
use Rattle.c_lang.specs.Typed as C
use Rattle.c_lang.specs.Labels.{is_label}
use Rattle.c_lang.specs.Numbers.{numbers_in, are_numbers}

-- what stands around an expression or a statement
pub record Scope : Type 0 where
  pub layout : Layout
  pub globals : List GlobalVar
  pub functions : List C.TypedFn
  -- the parameters and the locals of the function
  pub variables : List C.Variable
  -- what the function gives
  pub result : Option CType

abbrev pub variable_type : List C.Variable → Name → Option CType
variable_type [] x = None
variable_type (v ∷ vs) x = if same_name v.name x then Some v.type else variable_type vs x

abbrev pub is_type : Option CType → CType → Bool
is_type (Some u) t = same_type u t
is_type None t = false

abbrev pub is_integer : CType → Bool
is_integer (Integer i) = true
is_integer _ = false

abbrev pub member_shape : Fields → ℕ → Option Shape
member_shape no_fields k = None
member_shape (field at s fs) zero = Some s
member_shape (field at s fs) (suc k) = member_shape fs k

-- the shape at the end of a path
abbrev pub shape_along : Option Shape → C.Path → Option Shape
shape_along s C.Here = s
shape_along (Some (Record x bytes align fs)) (C.Member k path) = shape_along (member_shape fs k) path
shape_along (Some (Row e m)) (C.Element n i path) = if n == m then shape_along (Some e) path else None
shape_along _ _ = None

abbrev pub leads_to : Option Shape → CType → Bool
leads_to (Some s) t = same_type (L.type_of s) t
leads_to None t = false

abbrev pub shape_in : Layout → Option CType → Option Shape
shape_in l (Some t) = Some (shape_of l t)
shape_in l None = None

abbrev pub is_in_memory : C.Place → Bool
is_in_memory (C.Through t p path u) = true
is_in_memory (C.InGlobal x path u) = false

abbrev pub is_array_of : CType → CType → Bool
is_array_of t (Array u n) = same_type u t
is_array_of t _ = false

-- what the type of an expression is
abbrev pub has_type : CType → C.Expr → Bool
has_type t a = same_type (C.type_of a) t

abbrev pub has_scalar_type : C.Expr → Bool
has_scalar_type a = is_scalar (C.type_of a)

abbrev pub has_integer_type : C.Expr → Bool
has_integer_type a = is_integer (C.type_of a)

abbrev mutual
  pub is_typed : Scope → C.Expr → Bool
  is_typed g (C.Constant i n) = is_of_type g.layout.target i n
  is_typed g (C.Local x t) = is_type (variable_type g.variables x) t
  is_typed g (C.Value p) = is_typed_place g p
  is_typed g (C.Convert t a) = is_scalar t && (has_scalar_type a && is_typed g a)
  is_typed g (C.ConvertNull t a) = is_scalar t && (has_scalar_type a && is_typed g a)
  is_typed g (C.Negate i a) = has_type (Integer i) a && is_typed g a
  is_typed g (C.Complement i a) = has_type (Integer i) a && is_typed g a
  is_typed g (C.Compute op i a b) = (has_type (Integer i) a && is_typed g a) && (has_type (Integer i) b && is_typed g b)
  is_typed g (C.Combine op i a b) = (has_type (Integer i) a && is_typed g a) && (has_type (Integer i) b && is_typed g b)
  is_typed g (C.Shift d i a b) = (has_type (Integer i) a && is_typed g a) && (has_integer_type b && is_typed g b)
  is_typed g (C.Compare r i a b) = (has_type (Integer i) a && is_typed g a) && (has_type (Integer i) b && is_typed g b)
  is_typed g (C.Equate q t a b) = is_scalar t && (has_type t a && is_typed g a) && (has_type t b && is_typed g b)
  is_typed g (C.Not a) = has_scalar_type a && is_typed g a
  is_typed g (C.And a b) = (has_scalar_type a && is_typed g a) && (has_scalar_type b && is_typed g b)
  is_typed g (C.Or a b) = (has_scalar_type a && is_typed g a) && (has_scalar_type b && is_typed g b)
  is_typed g (C.Choose t c a b) = is_scalar t && (has_scalar_type c && is_typed g c) && (has_type t a && is_typed g a) && (has_type t b && is_typed g b)
  is_typed g (C.Move s t p a) = is_object g.layout t && (has_type (Ptr t) p && is_typed g p) && (has_integer_type a && is_typed g a)
  is_typed g (C.MoveBy t a p) = is_object g.layout t && (has_integer_type a && is_typed g a) && (has_type (Ptr t) p && is_typed g p)
  is_typed g (C.Address p t) = is_in_memory p && is_typed_place g p && same_type (C.place_type p) t
  is_typed g (C.Decay p t) = is_in_memory p && is_typed_place g p && is_array_of t (C.place_type p)

  -- the root is an object, and the path leads to the type
  pub is_typed_place : Scope → C.Place → Bool
  is_typed_place g (C.Through t p path u) =
      is_object g.layout t && (has_type (Ptr t) p && is_typed g p) && are_typed_indices g path && leads_to (shape_along (Some (shape_of g.layout t)) path) u
  is_typed_place g (C.InGlobal x path u) =
      are_typed_indices g path && leads_to (shape_along (shape_in g.layout (global_type g.globals x)) path) u

  pub are_typed_indices : Scope → C.Path → Bool
  are_typed_indices g C.Here = true
  are_typed_indices g (C.Member k path) = are_typed_indices g path
  are_typed_indices g (C.Element n e path) = (has_integer_type e && is_typed g e) && are_typed_indices g path

abbrev pub is_typed_at : Scope → CType → C.Expr → Bool
is_typed_at g t a = has_type t a && is_typed g a

abbrev pub is_typed_scalar : Scope → C.Expr → Bool
is_typed_scalar g a = has_scalar_type a && is_typed g a

abbrev pub is_typed_target : Scope → C.Destination → Bool
is_typed_target g (C.ToLocal x t) = is_type (variable_type g.variables x) t
is_typed_target g (C.ToPlace p) = is_typed_place g p

-- the arguments have the parameters' types
abbrev pub are_arguments : Scope → List C.Variable → List C.Expr → Bool
are_arguments g [] [] = true
are_arguments g (v ∷ vs) (e ∷ es) = is_typed_at g v.type e && are_arguments g vs es
are_arguments g _ _ = false

-- what becomes of a result of the type
abbrev pub is_use_of : Scope → Option CType → C.Use → Bool
is_use_of g None C.NoResult = true
is_use_of g (Some t) (C.Ignored from) = same_type t from
is_use_of g (Some t) (C.Assigned from target) = same_type t from && is_scalar (C.target_type target) && is_typed_target g target
is_use_of g (Some t) (C.Returned from to) = same_type t from && is_type g.result to
is_use_of g _ _ = false

abbrev pub is_call_of : Scope → Option C.TypedFn → List C.Expr → C.Use → Bool
is_call_of g None es use' = false
is_call_of g (Some f) es use' = are_arguments g f.params es && is_use_of g f.result use'

abbrev pub gives_nothing : Option CType → Bool
gives_nothing None = true
gives_nothing (Some t) = false

abbrev pub is_typed_test : Scope → C.Test → Bool
is_typed_test g C.Always = true
is_typed_test g (C.Tested e) = is_typed_scalar g e

abbrev pub all_labels : C.Groups → List ℤ
all_labels C.no_groups = []
all_labels (C.group labels is_default ss gs) = labels ++ all_labels gs

abbrev pub are_values : Target → IntType → List ℤ → Bool
are_values t i [] = true
are_values t i (n ∷ ns) = is_of_type t i n && are_values t i ns

abbrev pub are_different : List ℤ → Bool
are_different [] = true
are_different (n ∷ ns) = not (is_label n ns) && are_different ns

abbrev pub has_default : C.Groups → Bool
has_default C.no_groups = false
has_default (C.group labels is_default ss gs) = is_default || has_default gs

abbrev pub has_one_default : C.Groups → Bool
has_one_default C.no_groups = true
has_one_default (C.group labels is_default ss gs) = not (is_default && has_default gs) && has_one_default gs

-- which jumps have somewhere to go
pub record Around : Type 0 where
  pub in_loop : Bool
  pub in_switch : Bool

abbrev pub nowhere : Around
nowhere = record { in_loop = false; in_switch = false }

abbrev pub in_a_loop : Around
in_a_loop = record { in_loop = true; in_switch = false }

abbrev pub in_a_switch : Around → Around
in_a_switch a = record { in_loop = a.in_loop; in_switch = true }

abbrev mutual
  pub is_statement : Scope → Around → C.Statement → Bool
  is_statement g r C.Empty = true
  is_statement g r (C.Block ss) = are_statements g r ss
  is_statement g r (C.Declare x t) = is_type (variable_type g.variables x) t
  is_statement g r (C.Assign target e) = is_typed_target g target && is_typed_at g (C.target_type target) e
  is_statement g r (C.Call n f es use') = is_call_of g (C.typed_fn g.functions f) es use'
  is_statement g r (C.If e a b) = is_typed_scalar g e && is_statement g r a && is_statement g r b
  is_statement g r (C.While e a) = is_typed_scalar g e && is_statement g in_a_loop a
  is_statement g r (C.DoWhile k a e) = is_statement g in_a_loop a && is_typed_scalar g e
  is_statement g r (C.For init test step a) = are_statements g nowhere init && is_typed_test g test && is_statement g nowhere step && is_statement g in_a_loop a
  is_statement g r (C.Switch n i e gs) =
      is_typed_at g (Integer i) e && are_values g.layout.target i (all_labels gs) && are_different (all_labels gs) && has_one_default gs
      && are_groups g (in_a_switch r) gs
  is_statement g r C.Break = r.in_loop || r.in_switch
  is_statement g r C.Continue = r.in_loop
  is_statement g r C.ReturnNothing = gives_nothing g.result
  is_statement g r (C.Return e) = is_type g.result (C.type_of e) && is_typed g e

  pub are_statements : Scope → Around → C.Statements → Bool
  are_statements g r C.no_statements = true
  are_statements g r (C.next s ss) = is_statement g r s && are_statements g r ss

  pub are_groups : Scope → Around → C.Groups → Bool
  are_groups g r C.no_groups = true
  are_groups g r (C.group labels is_default ss gs) = are_statements g r ss && are_groups g r gs

-- a `$`, with which the names begin that generation adds
abbrev pub dollar : ℕ
dollar = 36

abbrev pub is_own_name : Name → Bool
is_own_name [] = true
is_own_name (c ∷ cs) = not (c == dollar)

-- each of a scalar type, under a name that isn't one of generation's
abbrev pub are_variables : List C.Variable → Bool
are_variables [] = true
are_variables (v ∷ vs) = is_scalar v.type && is_own_name v.name && are_variables vs

abbrev pub is_result : Option CType → Bool
is_result None = true
is_result (Some t) = is_scalar t

abbrev pub scope_in : C.TypedUnit → C.TypedFn → Scope
scope_in u f = record { layout = u.layout; globals = u.globals; functions = u.functions; variables = f.params ++ f.locals; result = f.result }

abbrev pub is_function : C.TypedUnit → C.TypedFn → Bool
is_function u f =
    are_variables (f.params ++ f.locals) && are_distinct (C.variable_names (f.params ++ f.locals)) && is_result f.result
    && are_statements (scope_in u f) nowhere f.body

abbrev pub are_functions : C.TypedUnit → List C.TypedFn → Bool
are_functions u [] = true
are_functions u (f ∷ fs) = is_function u f && are_functions u fs

abbrev pub are_globals : Layout → List GlobalVar → Bool
are_globals l [] = true
are_globals l (v ∷ vs) = is_object l v.type && are_globals l vs

-- each begins with a value of its type
abbrev pub AreInitialised : Layout → List GlobalVar → Type 0
AreInitialised l [] = Unit {0}
AreInitialised l (v ∷ vs) = HasShape (shape_of l v.type) v.initial × AreInitialised l vs

-- no two calls of a body have one number, and no two switches and no two do-whiles
abbrev pub are_numbered : List C.TypedFn → Bool
are_numbered [] = true
are_numbered (f ∷ fs) = are_numbers (numbers_in f.body) && are_numbered fs

pub record IsWellTyped (u : C.TypedUnit) : Type 0 where
  pub layout : IsLayout u.layout
  pub globals : are_globals u.layout u.globals ≡ true
  pub initials : AreInitialised u.layout u.globals
  pub global_names : are_distinct (map (λ v. v.name) u.globals) ≡ true
  pub names : are_distinct (map (λ f. f.name) u.functions) ≡ true
  pub functions : are_functions u u.functions ≡ true
  pub numbers : are_numbered u.functions ≡ true
