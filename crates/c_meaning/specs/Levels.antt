-- The level of each function. By default a function works on bytes where it, or a function that it calls, makes a pointer
-- to a type that isn't void from something of another type, null pointer constants apart, or where it is named so; every
-- other one works on typed heaps. The least set with three rules; the code marks the functions that are in it by
-- themselves, and from each marked one its callers, once.
use Rattle.std.specs.Prelude.{◌≡◌, Bool, true, false, ◌||◌, List, [], ◌∷◌, ◌++◌, Option, Some, None, if◌then◌else◌}
use Rattle.c_values.specs.Name.{Name, is_among}
use Rattle.expression_lang.specs.Sort.{Level, Bytes, Words, Numbers}
use Rattle.c_lang.specs.Cast.{casts_to, has_cast, place_has_cast}
use Rattle.c_lang.specs.Typed as C

abbrev pub some_has_cast : List C.Expr → Bool
some_has_cast [] = false
some_has_cast (e ∷ es) = has_cast e || some_has_cast es

abbrev pub target_has_cast : C.Destination → Bool
target_has_cast (C.ToLocal x t) = false
target_has_cast (C.ToPlace p) = place_has_cast p

-- a result that is converted on its way
abbrev pub use_has_cast : C.Use → Bool
use_has_cast C.NoResult = false
use_has_cast (C.Ignored from) = false
use_has_cast (C.Assigned from target) = casts_to (C.target_type target) from || target_has_cast target
use_has_cast (C.Returned from to) = casts_to to from

abbrev pub test_has_cast : C.Test → Bool
test_has_cast C.Always = false
test_has_cast (C.Tested e) = has_cast e

abbrev mutual
  pub statement_has_cast : C.Statement → Bool
  statement_has_cast C.Empty = false
  statement_has_cast (C.Block ss) = statements_have_cast ss
  statement_has_cast (C.Declare x t) = false
  statement_has_cast (C.Assign target e) = has_cast e || target_has_cast target
  statement_has_cast (C.Call n f es use') = some_has_cast es || use_has_cast use'
  statement_has_cast (C.If e a b) = has_cast e || statement_has_cast a || statement_has_cast b
  statement_has_cast (C.While e a) = has_cast e || statement_has_cast a
  statement_has_cast (C.DoWhile k a e) = statement_has_cast a || has_cast e
  statement_has_cast (C.For init test step a) = statements_have_cast init || test_has_cast test || statement_has_cast step || statement_has_cast a
  statement_has_cast (C.Switch n i e gs) = has_cast e || groups_have_cast gs
  statement_has_cast C.Break = false
  statement_has_cast C.Continue = false
  statement_has_cast C.ReturnNothing = false
  statement_has_cast (C.Return e) = has_cast e

  pub statements_have_cast : C.Statements → Bool
  statements_have_cast C.no_statements = false
  statements_have_cast (C.next s ss) = statement_has_cast s || statements_have_cast ss

  pub groups_have_cast : C.Groups → Bool
  groups_have_cast C.no_groups = false
  groups_have_cast (C.group labels is_default ss gs) = statements_have_cast ss || groups_have_cast gs

  -- the functions that are called, in the order of the text
  pub callees : C.Statement → List Name
  callees C.Empty = []
  callees (C.Block ss) = callees_in ss
  callees (C.Declare x t) = []
  callees (C.Assign target e) = []
  callees (C.Call n f es use') = f ∷ []
  callees (C.If e a b) = callees a ++ callees b
  callees (C.While e a) = callees a
  callees (C.DoWhile k a e) = callees a
  callees (C.For init test step a) = callees_in init ++ callees step ++ callees a
  callees (C.Switch n i e gs) = callees_of gs
  callees C.Break = []
  callees C.Continue = []
  callees C.ReturnNothing = []
  callees (C.Return e) = []

  pub callees_in : C.Statements → List Name
  callees_in C.no_statements = []
  callees_in (C.next s ss) = callees s ++ callees_in ss

  pub callees_of : C.Groups → List Name
  callees_of C.no_groups = []
  callees_of (C.group labels is_default ss gs) = callees_in ss ++ callees_of gs

abbrev pub casts : C.TypedFn → Bool
casts f = f.folds_cast || statements_have_cast f.body

-- The least set with each function that casts, each that is named, and each that calls one of these.
pub data OnBytes (u : C.TypedUnit) (chosen : List Name) : Name → Type 0 where
  by_cast : {x : Name} {f : C.TypedFn} → C.typed_fn u.functions x ≡ Some f → casts f ≡ true → OnBytes u chosen x
  by_choice : {x : Name} → is_among x chosen ≡ true → OnBytes u chosen x
  by_call : {x y : Name} {f : C.TypedFn} → C.typed_fn u.functions x ≡ Some f → is_among y (callees_in f.body) ≡ true → OnBytes u chosen y → OnBytes u chosen x

-- the level of a function by the names in `bytes=` and `words=`; `bytes=` wins
pub record HasDefaultLevel (u : C.TypedUnit) (chosen worded : List Name) (x : Name) (level : Level) : Type 0 where
  pub bytes : level ≡ Bytes → OnBytes u chosen x
  pub bytes_back : OnBytes u chosen x → level ≡ Bytes
  pub words : level ≡ Words → is_among x worded ≡ true
  pub numbers : level ≡ Numbers → is_among x worded ≡ false

-- each function of the unit has the level
abbrev pub AreDefaultLevels : C.TypedUnit → List Name → List Name → (Name → Level) → Type 0
AreDefaultLevels u chosen worded levels = (x : Name) (f : C.TypedFn) → C.typed_fn u.functions x ≡ Some f → HasDefaultLevel u chosen worded x (levels x)

-- why a function works on bytes
pub data Reason : Type 0 where
  ByCast : Reason
  ByCall : Name → Reason
  ByChoice : Reason

abbrev pub is_on_bytes : Level → Bool
is_on_bytes Bytes = true
is_on_bytes _ = false

-- the first of these that works on bytes
abbrev pub first_on_bytes : (Name → Level) → List Name → Option Name
first_on_bytes levels [] = None
first_on_bytes levels (x ∷ xs) = if is_on_bytes (levels x) then Some x else first_on_bytes levels xs

abbrev pub call_or_choice : Option Name → Reason
call_or_choice (Some x) = ByCall x
call_or_choice None = ByChoice

-- the first of the reasons that holds
abbrev pub reason : (Name → Level) → C.TypedFn → Reason
reason levels f = if casts f then ByCast else call_or_choice (first_on_bytes levels (callees_in f.body))
