-- Statements (C99 6.8). A test is a scalar; `break` stands in a loop or a switch, `continue` in a loop; `return` has an operand
-- exactly where the function has a result. Each block is a scope, and so is a `for` (C99 6.8.5p5).
use Rattle.std.specs.Prelude.{ℕ, suc, Bool, true, false, not, ◌||◌, List, [], ◌∷◌, ◌++◌, Option, Some, None, ℤ}
use Rattle.std.specs.List.{list_any}
use Rattle.std.specs.Ordering.{int_eq}
use Rattle.c_values.specs.Types.{IntType, Int, CType, Integer}
use Rattle.c_values.specs.Layout.{Layout, is_scalar}
use Rattle.c_grammar.specs.Tree as tree
use Rattle.typing_rules.specs.declared.fault.TypeKind.TheVariants.{Twice, Mismatch, FallThrough, OutOfSubset}
use Rattle.typing_rules.specs.Checked.{Judgement, Good, in_block, pure, ◌>>=◌, Ruling, Ruled, Refused, refuse, rule, changed}
use Rattle.typing_rules.specs.Scope.{hide_locals}
use Rattle.c_integers.specs.Integers.{promoted}
use Rattle.typing_rules.specs.Operators.{to_integer}
use Rattle.typing_rules.specs.Expressions.{value, integer_constant}
use Rattle.typing_rules.specs.Constant.{number_at}
use Rattle.typing_rules.specs.Progress.{next_do_while, next_switch}
use Rattle.typing_rules.specs.Calls.{Right, right, returned}
use Rattle.typing_rules.specs.Simple.{simple}
use Rattle.typing_rules.specs.Locals.{local}
use Rattle.c_lang.specs.Typed as C

-- what a statement stands in: the function's result, and whether there is a loop or a switch around it
pub record Around : Type 0 where
  pub result : Option CType
  pub in_loop : Bool
  pub in_switch : Bool

abbrev pub inside_loop : Around → Around
inside_loop c = record c { in_loop = true }

abbrev pub inside_switch : Around → Around
inside_switch c = record c { in_switch = true }

-- a statement whose test is a scalar
abbrev pub tested : C.Expr → C.Statement → Ruling C.Statement
tested a s = refuse (not (is_scalar (C.type_of a))) Mismatch (Ruled s)

abbrev pub loop_tested : C.Test → C.Statement → Ruling C.Statement
loop_tested C.Always s = Ruled s
loop_tested (C.Tested a) s = tested a s

abbrev pub breaks : Around → Ruling C.Statement
breaks c = refuse (not (c.in_loop || c.in_switch)) OutOfSubset (Ruled C.Break)

abbrev pub continues : Around → Ruling C.Statement
continues c = refuse (not c.in_loop) OutOfSubset (Ruled C.Continue)

abbrev pub returns : Layout → Option CType → Option Right → Ruling C.Statement
returns l None None = Ruled C.ReturnNothing
returns l (Some t) (Some a) = returned l t a
returns l _ _ = Refused Mismatch

-- the type of a switch's operand, promoted; where that is no integer, its labels are ints
abbrev pub switch_type : CType → IntType
switch_type (Integer i) = promoted i
switch_type _ = Int

abbrev pub switches : ℕ → C.Expr → CType → C.Groups → Ruling C.Statement
switches n a (Integer i) gs = Ruled (C.Switch n (promoted i) (to_integer (promoted i) a) gs)
switches n a _ gs = Refused Mismatch

-- labels, by their values at the switch's type
pub record Labels : Type 0 where
  pub values : List ℤ
  pub has_default : Bool

abbrev pub no_labels : Labels
no_labels = record { values = []; has_default = false }

abbrev pub both : Labels → Labels → Labels
both a b = record { values = a.values ++ b.values; has_default = a.has_default || b.has_default }

-- a label behind those: no value, and no `default`, comes twice
abbrev pub case_label : Labels → ℤ → Ruling Labels
case_label seen n = refuse (list_any (int_eq n) seen.values) Twice (Ruled (record { values = n ∷ []; has_default = false }))

abbrev pub default_label : Labels → Ruling Labels
default_label seen = refuse seen.has_default Twice (Ruled (record { values = []; has_default = true }))

abbrev pub label : IntType → Labels → tree.Label → Judgement Labels
label i seen (tree.Case at e) = integer_constant e >>= λ n. rule at (λ s. case_label seen (number_at s.layout (Integer i) n))
label i seen (tree.Default at) = rule at (λ s. default_label seen)

abbrev pub labels : IntType → Labels → List tree.Label → Judgement Labels
labels i seen [] = pure no_labels
labels i seen (l ∷ ls) = label i seen l >>= λ a. labels i (both seen a) ls >>= λ b. pure (both a b)

abbrev pub label_at : tree.Label → ℕ
label_at (tree.Case at e) = at
label_at (tree.Default at) = at

-- the last of a group's statements is itself a jump
abbrev pub is_jump : tree.Stmt → Bool
is_jump (tree.Break at) = true
is_jump (tree.Continue at) = true
is_jump (tree.Return at r) = true
is_jump _ = false

abbrev pub ends_by_jump : Bool → tree.Items → Bool
ends_by_jump last tree.NoItems = last
ends_by_jump last (tree.LocalItem l is) = ends_by_jump false is
ends_by_jump last (tree.StatementItem s is) = ends_by_jump (is_jump s) is

abbrev pub is_last : tree.Groups → Bool
is_last tree.NoGroups = true
is_last (tree.MoreGroups l ls s is gs) = false

-- a group other than the last ends by a jump
abbrev pub separate : Bool → Bool → List C.Statement → Ruling (List C.Statement)
separate last jumps ss = refuse (not (last || jumps)) FallThrough (Ruled ss)

-- statements in front of others
abbrev pub onto : List C.Statement → C.Statements → C.Statements
onto [] ts = ts
onto (s ∷ ss) ts = C.next s (onto ss ts)

abbrev pub listed : List C.Statement → C.Statements
listed ss = onto ss C.no_statements

abbrev pub start : tree.Start → Judgement (List C.Statement)
start tree.NoStart = pure []
start (tree.StartLocal l) = local l
start (tree.StartSimple s) = simple s >>= λ a. pure (a ∷ [])

abbrev pub loop_test : Option tree.Exp → Judgement C.Test
loop_test None = pure C.Always
loop_test (Some e) = value e >>= λ a. pure (C.Tested a)

abbrev pub loop_step : Option tree.Simple → Judgement C.Statement
loop_step None = pure C.Empty
loop_step (Some s) = simple s

abbrev pub optional_right : Option tree.Rhs → Judgement (Option Right)
optional_right None = pure None
optional_right (Some r) = right r >>= λ a. pure (Some a)

-- the numbers of a switch and of a do-while, before those inside
abbrev pub switch_number : Judgement ℕ
switch_number s = Good (suc s.progress.switches, record s { progress = next_switch s.progress })

abbrev pub do_while_number : Judgement ℕ
do_while_number s = Good (suc s.progress.do_whiles, record s { progress = next_do_while s.progress })

abbrev mutual
  pub statement : Around → tree.Stmt → Judgement C.Statement
  statement c (tree.Empty at) = pure C.Empty
  statement c (tree.Block at is) = in_block (items c is) >>= λ ss. pure (C.Block (listed ss))
  statement c (tree.Simply s) = simple s
  statement c (tree.Break at) = rule at (λ s. breaks c)
  statement c (tree.Continue at) = rule at (λ s. continues c)
  statement c (tree.Return at r) = optional_right r >>= λ a. rule at (λ sc. returns sc.layout c.result a)
  statement c (tree.If at e s) =
      value e >>= λ a. statement c s >>= λ x. rule at (λ sc. tested a (C.If a x C.Empty))
  statement c (tree.IfElse at e s t) =
      value e >>= λ a. statement c s >>= λ x. statement c t >>= λ y. rule at (λ sc. tested a (C.If a x y))
  statement c (tree.While at e s) =
      value e >>= λ a. statement (inside_loop c) s >>= λ x. rule at (λ sc. tested a (C.While a x))
  statement c (tree.Do at s e) =
      do_while_number >>= λ n. statement (inside_loop c) s >>= λ x. value e >>= λ a. rule at (λ sc. tested a (C.DoWhile n x a))
  statement c (tree.For at init test step s) =
      in_block
      (start init >>= λ ss. loop_test test >>= λ a. loop_step step >>= λ y. statement (inside_loop c) s >>= λ x.
      rule at (λ sc. loop_tested a (C.For (listed ss) a y x)))
  statement c (tree.Switch at e gs) =
      switch_number >>= λ n. value e >>= λ a.
      in_block (groups (inside_switch c) (switch_type (C.type_of a)) no_labels gs) >>= λ xs.
      rule at (λ sc. switches n a (C.type_of a) xs)

  pub items : Around → tree.Items → Judgement (List C.Statement)
  items c tree.NoItems = pure []
  items c (tree.LocalItem l is) = local l >>= λ ss. items c is >>= λ ts. pure (ss ++ ts)
  items c (tree.StatementItem s is) = statement c s >>= λ x. items c is >>= λ ts. pure (x ∷ ts)

  -- the labels that stand before; a local of a group isn't named in the others
  pub groups : Around → IntType → Labels → tree.Groups → Judgement C.Groups
  groups c i seen tree.NoGroups = pure C.no_groups
  groups c i seen (tree.MoreGroups l ls s is gs) =
      labels i seen (l ∷ ls) >>= λ found. statement c s >>= λ x. items c is >>= λ ts.
      rule (label_at l) (λ sc. separate (is_last gs) (ends_by_jump (is_jump s) is) (x ∷ ts)) >>= λ ss.
      changed hide_locals ss >>= λ ss'.
      groups c i (both seen found) gs >>= λ xs. pure (C.group found.values found.has_default (listed ss') xs)
