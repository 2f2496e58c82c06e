-- How much of a text's functions has a number or a numbered name: their parameters, locals, calls, switches and do-whiles.
use Rattle.std.specs.Prelude.{ℕ, ◌+◌, List, [], ◌∷◌, length, Option, Some, None}
use Rattle.c_grammar.specs.Tree.{Rhs, Simple, Init, Local, Start, Stmt, Items, Groups, External}
use Rattle.c_grammar.specs.Tree as tree

abbrev pub calls_on_right : Rhs → ℕ
calls_on_right (tree.Value e) = 0
calls_on_right (tree.Result c) = 1

abbrev pub calls_in_simple : Simple → ℕ
calls_in_simple (tree.Assign e r) = calls_on_right r
calls_in_simple (tree.Update op e x) = 0
calls_in_simple (tree.After op e) = 0
calls_in_simple (tree.Before at op e) = 0
calls_in_simple (tree.Invoke c) = 1

-- where it stands
abbrev pub where_some : {A : Type 0} → (A → ℕ) → Option A → ℕ
where_some count None = 0
where_some count (Some a) = count a

abbrev pub numbered_in_init : Init → ℕ
numbered_in_init (tree.Initialized d r) = 1 + where_some calls_on_right r

abbrev pub numbered_in_inits : List Init → ℕ
numbered_in_inits [] = 0
numbered_in_inits (i ∷ is) = numbered_in_init i + numbered_in_inits is

abbrev pub numbered_in_local : Local → ℕ
numbered_in_local (tree.Locals ws is) = numbered_in_inits is

abbrev pub numbered_at_start : Start → ℕ
numbered_at_start tree.NoStart = 0
numbered_at_start (tree.StartLocal l) = numbered_in_local l
numbered_at_start (tree.StartSimple s) = calls_in_simple s

abbrev mutual
  pub numbered_within : Stmt → ℕ
  numbered_within (tree.Empty at) = 0
  numbered_within (tree.Block at is) = numbered_among is
  numbered_within (tree.Simply s) = calls_in_simple s
  numbered_within (tree.Break at) = 0
  numbered_within (tree.Continue at) = 0
  numbered_within (tree.Return at r) = where_some calls_on_right r
  numbered_within (tree.If at e s) = numbered_within s
  numbered_within (tree.IfElse at e s t) = numbered_within s + numbered_within t
  numbered_within (tree.While at e s) = numbered_within s
  numbered_within (tree.For at init test step s) = numbered_at_start init + (where_some calls_in_simple step + numbered_within s)
  numbered_within (tree.Do at s e) = 1 + numbered_within s
  numbered_within (tree.Switch at e gs) = 1 + numbered_in_groups gs

  pub numbered_among : Items → ℕ
  numbered_among tree.NoItems = 0
  numbered_among (tree.LocalItem l is) = numbered_in_local l + numbered_among is
  numbered_among (tree.StatementItem s is) = numbered_within s + numbered_among is

  pub numbered_in_groups : Groups → ℕ
  numbered_in_groups tree.NoGroups = 0
  numbered_in_groups (tree.MoreGroups l ls s is gs) = numbered_within s + (numbered_among is + numbered_in_groups gs)

abbrev pub numbered_of : External → ℕ
numbered_of (tree.Function ws d ps is) = length ps + numbered_among is
numbered_of (tree.Declaration at ws ts) = 0

abbrev pub numbered_in : List External → ℕ
numbered_in [] = 0
numbered_in (x ∷ xs) = numbered_of x + numbered_in xs
