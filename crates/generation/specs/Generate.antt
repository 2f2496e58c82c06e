-- Generation, for statements, functions and units (after Norrish's C parser): the Simpl program of a typed unit at the levels
-- of its functions. The conditions of a statement's own expressions stand around its command, the first outermost; break,
-- continue and return are exceptions that `$exn` tells apart.
use Rattle.std.specs.Prelude.{ℕ, Bool, true, false, List, [], ◌∷◌, ◌++◌, map, Option, Some, None, ℤ, pos, codes}
use Rattle.std.specs.Fmt.{decimal}
use Rattle.c_values.specs.Name.{Name}
use Rattle.c_values.specs.Types.{Target, IntType, CType, Integer}
use Rattle.c_values.specs.Layout.{Layout}
use Rattle.expression_lang.specs.Expression as E
use Rattle.expression_lang.specs.Sort.{Level, WordKind, BoolKind}
use Rattle.expression_lang.specs.Signature.{Binder, Signature, kind_at, binder, result_kind}
use Rattle.c_meaning.specs.Kinds.{variables}
use Rattle.expression_lang.specs.GuardKind as K
use Rattle.simpl_lang.specs.Command.{Condition, Simpl, Skip, Throw, Set, SetGlobal, Store, Pick, Seq, Cond, Guard, Catch, While, Call, SimplFn, SimplUnit}
use Rattle.simpl_lang.specs.Exec.{result_local}
use Rattle.simpl_lang.specs.Flag.{thrown_local}
use Rattle.c_lang.specs.Typed as C
use Rattle.generation.specs.Guards.{when, word_of, int_literal, conversion, exp, exps, truth, path_of, guards, argument_guards, place_guards, accesses}

abbrev pub exception_local : Name
exception_local = codes "$exn"

-- where call n leaves its result, switch n its operand, and do-while n whether it is in front of its first turn
abbrev pub call_local : ℕ → Name
call_local n = codes "$r" ++ decimal n

abbrev pub switch_local : ℕ → Name
switch_local n = codes "$sw" ++ decimal n

abbrev pub first_local : ℕ → Name
first_local n = codes "$first" ++ decimal n

-- why a command ended abruptly
abbrev pub returned : ℤ
returned = pos 1

abbrev pub broken : ℤ
broken = pos 2

abbrev pub continued : ℤ
continued = pos 3

abbrev pub jump : ℤ → Simpl
jump k = Seq (Set exception_local (int_literal k)) Throw

abbrev pub is_exception : ℤ → E.Exp
is_exception k = E.Eq (E.Var exception_local) (int_literal k)

-- goes on after a break, or after a continue, and throws anything else on
abbrev pub stops_at : ℤ → Simpl
stops_at k = Cond (is_exception k) Skip Throw

abbrev pub body_of_loop : Simpl → Simpl
body_of_loop s = Catch s (stops_at continued)

abbrev pub looped : List Condition → E.Exp → Simpl → Simpl
looped gs e s = Catch (While gs e s) (stops_at broken)

abbrev pub guarded : List Condition → Simpl → Simpl
guarded [] s = s
guarded (g ∷ gs) s = Guard g (guarded gs s)

-- a value that has been computed goes to its target
abbrev pub assignment : Layout → C.Destination → E.Exp → Simpl
assignment l (C.ToLocal x t) e = Set x e
assignment l (C.ToPlace (C.Through t p path u)) e = Store t (exp l p) (path_of l path) e
assignment l (C.ToPlace (C.InGlobal x path u)) e = SetGlobal x (path_of l path) e

abbrev pub target_guards : Layout → Level → C.Destination → List Condition
target_guards l level (C.ToLocal x t) = []
target_guards l level (C.ToPlace p) = place_guards l level p ++ accesses l level p

-- a call, and what becomes of its result
abbrev pub call : Layout → Level → ℕ → Name → List E.Exp → C.Use → Simpl
call l level n f es C.NoResult = Call None f es
call l level n f es (C.Ignored from) = Call (Some (call_local n)) f es
call l level n f es (C.Assigned from target) =
    Seq (Call (Some (call_local n)) f es) (guarded (target_guards l level target) (assignment l target (conversion l.target (C.target_type target) from (E.Var (call_local n)))))
call l level n f es (C.Returned from to) =
    Seq (Call (Some (call_local n)) f es) (Seq (Set result_local (conversion l.target to from (E.Var (call_local n)))) (jump returned))

abbrev pub call_of : Layout → Level → ℕ → Name → List C.Expr → C.Use → Simpl
call_of l level n f es use' = guarded (argument_guards l level es) (call l level n f (exps l es) use')

abbrev pub test_guards : Layout → Level → C.Test → List Condition
test_guards l level C.Always = []
test_guards l level (C.Tested e) = guards l level e

abbrev pub test_truth : Layout → C.Test → E.Exp
test_truth l C.Always = E.TruthLit true
test_truth l (C.Tested e) = truth l e

abbrev pub after_first : ℕ → List Condition → List Condition
after_first k [] = []
after_first k (g ∷ gs) = when g.kind (E.Imp (E.Not (E.Var (first_local k))) g.exp) ∷ after_first k gs

abbrev pub do_while : ℕ → List Condition → E.Exp → Simpl → Simpl
do_while k gs e s =
    Seq (Set (first_local k) (E.TruthLit true))
    (looped (after_first k gs) (E.Or (E.Var (first_local k)) e) (Seq (Set (first_local k) (E.TruthLit false)) (body_of_loop s)))

-- the operand of a switch is one of the labels
abbrev pub is_one_of : Target → IntType → ℕ → List ℤ → E.Exp
is_one_of t i n [] = E.TruthLit false
is_one_of t i n (k ∷ []) = E.Eq (E.Var (switch_local n)) (word_of t i k)
is_one_of t i n (k ∷ ks) = E.Or (E.Eq (E.Var (switch_local n)) (word_of t i k)) (is_one_of t i n ks)

abbrev pub cases : Simpl → List (E.Exp × Simpl) → Simpl
cases default' [] = default'
cases default' (c ∷ cs) = Cond c.0 c.1 (cases default' cs)

-- commands in order; none is skip
abbrev pub in_order : Simpl → Bool → Simpl → Simpl
in_order s true rest = s
in_order s false rest = Seq s rest

abbrev pub is_empty : C.Statements → Bool
is_empty C.no_statements = true
is_empty (C.next s ss) = false

abbrev mutual
  pub command : Layout → Level → C.Statement → Simpl
  command l level C.Empty = Skip
  command l level (C.Block ss) = commands l level ss
  command l level (C.Declare x t) = Pick x
  command l level (C.Assign target e) = guarded (guards l level e ++ target_guards l level target) (assignment l target (exp l e))
  command l level (C.Call n f es use') = call_of l level n f es use'
  command l level (C.If e a b) = guarded (guards l level e) (Cond (truth l e) (command l level a) (command l level b))
  command l level (C.While e a) = looped (guards l level e) (truth l e) (body_of_loop (command l level a))
  command l level (C.DoWhile k a e) = do_while k (guards l level e) (truth l e) (command l level a)
  command l level (C.For init test step a) =
      before l level init (looped (test_guards l level test) (test_truth l test) (Seq (body_of_loop (command l level a)) (command l level step)))
  command l level (C.Switch n i e gs) =
      guarded (guards l level e) (Seq (Set (switch_local n) (exp l e)) (Catch (cases (default_of l level gs) (cases_of l level n i gs)) (stops_at broken)))
  command l level C.Break = jump broken
  command l level C.Continue = jump continued
  command l level C.ReturnNothing = jump returned
  command l level (C.Return e) = guarded (guards l level e) (Seq (Set result_local (exp l e)) (jump returned))

  pub commands : Layout → Level → C.Statements → Simpl
  commands l level C.no_statements = Skip
  commands l level (C.next s ss) = in_order (command l level s) (is_empty ss) (commands l level ss)

  -- what a `for` does first stands in one list with its loop
  pub before : Layout → Level → C.Statements → Simpl → Simpl
  before l level C.no_statements rest = rest
  before l level (C.next s ss) rest = Seq (command l level s) (before l level ss rest)

  -- the groups that have case labels alone
  pub cases_of : Layout → Level → ℕ → IntType → C.Groups → List (E.Exp × Simpl)
  cases_of l level n i C.no_groups = []
  cases_of l level n i (C.group labels true ss gs) = cases_of l level n i gs
  cases_of l level n i (C.group labels false ss gs) = (is_one_of l.target i n labels, commands l level ss) ∷ cases_of l level n i gs

  pub default_of : Layout → Level → C.Groups → Simpl
  default_of l level C.no_groups = Skip
  default_of l level (C.group labels true ss gs) = commands l level ss
  default_of l level (C.group labels false ss gs) = default_of l level gs

abbrev pub whole_body : Option CType → Simpl → Simpl
whole_body None s = Catch s Skip
whole_body (Some t) s = Catch (Seq s (Guard (when K.Unreached (E.TruthLit false)) Skip)) Skip

abbrev pub result_binder : Target → Level → Option CType → List Binder
result_binder t level None = []
result_binder t level (Some u) = binder result_local (kind_at t level u) ∷ []

abbrev pub use_binder : Target → Level → ℕ → C.Use → List Binder
use_binder t level n C.NoResult = []
use_binder t level n (C.Ignored from) = binder (call_local n) (kind_at t level from) ∷ []
use_binder t level n (C.Assigned from target) = binder (call_local n) (kind_at t level from) ∷ []
use_binder t level n (C.Returned from to) = binder (call_local n) (kind_at t level from) ∷ []

-- the locals that generation adds: of calls, of switches, and of do-whiles
pub record Added : Type 0 where
  pub calls : List Binder
  pub switches : List Binder
  pub firsts : List Binder

abbrev pub none_added : Added
none_added = record { calls = []; switches = []; firsts = [] }

abbrev pub both_added : Added → Added → Added
both_added a b = record { calls = a.calls ++ b.calls; switches = a.switches ++ b.switches; firsts = a.firsts ++ b.firsts }

abbrev mutual
  pub added : Target → Level → C.Statement → Added
  added t level C.Empty = none_added
  added t level (C.Block ss) = added_in t level ss
  added t level (C.Declare x u) = none_added
  added t level (C.Assign target e) = none_added
  added t level (C.Call n f es use') = record { calls = use_binder t level n use'; switches = []; firsts = [] }
  added t level (C.If e a b) = both_added (added t level a) (added t level b)
  added t level (C.While e a) = added t level a
  added t level (C.DoWhile k a e) = both_added (record { calls = []; switches = []; firsts = binder (first_local k) BoolKind ∷ [] }) (added t level a)
  added t level (C.For init test step a) = both_added (added_in t level init) (both_added (added t level step) (added t level a))
  added t level (C.Switch n i e gs) = both_added (record { calls = []; switches = binder (switch_local n) (kind_at t level (Integer i)) ∷ []; firsts = [] }) (added_of t level gs)
  added t level C.Break = none_added
  added t level C.Continue = none_added
  added t level C.ReturnNothing = none_added
  added t level (C.Return e) = none_added

  pub added_in : Target → Level → C.Statements → Added
  added_in t level C.no_statements = none_added
  added_in t level (C.next s ss) = both_added (added t level s) (added_in t level ss)

  pub added_of : Target → Level → C.Groups → Added
  added_of t level C.no_groups = none_added
  added_of t level (C.group labels is_default ss gs) = both_added (added_in t level ss) (added_of t level gs)

-- parameters, declared locals, and then those that are added
abbrev pub locals : Target → Level → C.TypedFn → List Binder
locals t level f =
    let a = added_in t level f.body in
    variables t level f.params ++ variables t level f.locals ++ result_binder t level f.result
    ++ binder exception_local (WordKind 32) ∷ [] ++ a.calls ++ a.switches ++ a.firsts ++ binder thrown_local BoolKind ∷ []

abbrev pub function_of : Layout → Level → C.TypedFn → SimplFn
function_of l level f = record { name = f.name; locals = locals l.target level f; level = level; body = whole_body f.result (commands l level f.body) }

abbrev pub signature_of : Layout → Level → C.TypedFn → Signature
signature_of l level f = record { name = f.name; level = level; params = variables l.target level f.params; result = result_kind l.target level f.result }

-- the Simpl unit of a typed unit and the levels of its functions
abbrev pub generated : C.TypedUnit → (Name → Level) → SimplUnit
generated u levels = record {
  layout = u.layout;
  globals = u.globals;
  functions = map (λ f. function_of u.layout (levels f.name) f) u.functions;
  signatures = map (λ f. signature_of u.layout (levels f.name) f) u.functions;
}
