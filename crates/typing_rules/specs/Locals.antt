-- Locals (C99 6.7, 6.7.8): scalars, each with a name of its own, that are given a value or take any. A name counts from behind
-- its declarator on, and isn't used in its own initialiser.
use Rattle.std.specs.Prelude.{not, ◌||◌, List, [], ◌∷◌, Option, Some, None}
use Rattle.c_values.specs.Name.{Name}
use Rattle.c_values.specs.Types.{CType}
use Rattle.c_values.specs.Layout.{is_scalar}
use Rattle.c_grammar.specs.Tree as tree
use Rattle.typing_rules.specs.declared.fault.TypeKind.TheVariants.{Twice, Incomplete, OutOfSubset}
use Rattle.typing_rules.specs.Checked.{Judgement, pure, ◌>>=◌, Ruling, Ruled, refuse, rule, changed}
use Rattle.typing_rules.specs.Scope.{Scope, Hidden, Local, declare, is_declared_here}
use Rattle.typing_rules.specs.Progress.{own_name, with_local}
use Rattle.typing_rules.specs.Declarations.{Declared, is_incomplete, points_to_array}
use Rattle.typing_rules.specs.Expressions.{base, declarator, words_start}
use Rattle.typing_rules.specs.Calls.{right, assigned}
use Rattle.c_lang.specs.Typed as C

-- a local: a scalar under a name that is new in its block
abbrev pub local_name : Declared → Scope → Ruling Name
local_name d s =
    refuse (is_declared_here s.blocks d.name) Twice
    (refuse (is_incomplete s.layout d.type) Incomplete
    (refuse (not (is_scalar d.type) || points_to_array d.type) OutOfSubset
    (Ruled (own_name s.progress d.name))))

-- declared, and not to be used yet
abbrev pub add_local : Name → Declared → Scope → Scope
add_local own d s = declare d.name Hidden (record s { progress = with_local own d.name d.type s.progress })

-- to be used from here on
abbrev pub name_local : Name → Declared → Scope → Scope
name_local own d s = declare d.name (Local own d.type) s

-- the value that it begins with, or any
abbrev pub initial : Name → Declared → Option tree.Rhs → Judgement C.Statement
initial own d None = pure (C.Declare own d.type)
initial own d (Some r) = right r >>= λ a. rule d.at (λ s. assigned s.layout (C.ToLocal own d.type) a)

abbrev pub declared : Declared → Option tree.Rhs → Judgement C.Statement
declared d r =
    rule d.at (local_name d) >>= λ own. changed (add_local own d) own >>= λ x.
    initial x d r >>= λ a. changed (name_local x d) a

abbrev pub init : CType → tree.Init → Judgement C.Statement
init t (tree.Initialized d r) = declarator t d >>= λ head. declared head r

abbrev pub inits : CType → List tree.Init → Judgement (List C.Statement)
inits t [] = pure []
inits t (i ∷ is) = init t i >>= λ a. inits t is >>= λ ss. pure (a ∷ ss)

-- the locals of a declaration, none of them in another place than the function's own
abbrev pub local : tree.Local → Judgement (List C.Statement)
local (tree.Locals ws is) =
    base ws >>= λ b. inits b.type is >>= λ ss.
    rule (words_start ws) (λ s. refuse (b.is_static || b.is_extern) OutOfSubset (Ruled ss))
