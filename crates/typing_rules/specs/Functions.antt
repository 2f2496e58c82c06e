-- Functions (C99 6.7.5.3, 6.9.1): scalar parameters, an array among them being a pointer; a scalar result or none; declarations
-- of one type may repeat, and a body comes once.
use Rattle.std.specs.Prelude.{ℕ, Bool, true, false, not, ◌&&◌, ◌||◌, List, [], ◌∷◌, map, length, Option, Some, None, is_none, is_some}
use Rattle.std.specs.Option.{option_map_or, option_map}
use Rattle.std.specs.List.{filter_map}
use Rattle.c_values.specs.Name.{Name, with_name}
use Rattle.c_values.specs.Types.{CType, Void, Ptr, Array, same_type}
use Rattle.c_values.specs.Layout.{is_scalar}
use Rattle.c_grammar.specs.Tree as tree
use Rattle.typing_rules.specs.declared.fault.TypeKind.TheVariants.{Twice, Incomplete, OutOfSubset, Large}
use Rattle.typing_rules.specs.Checked.{Judgement, Good, in_block, after, pure, ◌>>=◌, Ruling, Ruled, refuse, rule, changed}
use Rattle.typing_rules.specs.Scope.{Scope, Entity, Enumerator, Global, Function, Local, Hidden, declare, is_declared_here, entity}
use Rattle.typing_rules.specs.Progress.{at_start}
use Rattle.typing_rules.specs.Declarations.{Declared, pointers, arrays, is_incomplete, has_incomplete_elements, points_to_array, is_large}
use Rattle.typing_rules.specs.Expressions.{base, declarator, dimensions, words_start}
use Rattle.typing_rules.specs.Statements.{Around, items, listed}
use Rattle.c_lang.specs.Typed as C

-- a parameter, maybe without a name
pub record Parameter : Type 0 where
  pub name : Option Name
  pub type : CType

-- a parameter as it is written: whether its function has a body, its name, and its type
pub record Written : Type 0 where
  pub has_body : Bool
  pub name : Option Name
  pub type : CType

-- an array as a parameter
abbrev pub adjusted : CType → CType
adjusted (Array t n) = Ptr t
adjusted t = t

abbrev pub is_declared : Scope → Option Name → Bool
is_declared s None = false
is_declared s (Some x) = is_declared_here s.blocks x

abbrev pub parameter_rule : Written → Scope → Ruling Parameter
parameter_rule w s =
    refuse (is_declared s w.name) Twice
    (refuse (is_incomplete s.layout w.type) Incomplete
    (refuse (points_to_array (adjusted w.type) || not (is_scalar (adjusted w.type)) || w.has_body && is_none w.name) OutOfSubset
    (refuse (is_large s.layout w.type) Large
    (Ruled (record { name = w.name; type = adjusted w.type })))))

abbrev pub add_parameter : Parameter → Scope → Scope
add_parameter p s = option_map_or (λ x. declare x (Local x p.type) s) p.name s

-- an array without a length is written as one of one element
abbrev pub bracketed : CType → tree.Bracket → Judgement CType
bracketed t tree.NoBracket = pure t
bracketed t (tree.OpenBracket at) = pure (Array t 1)
bracketed t (tree.SizedBracket at e) = dimensions [] (tree.MoreDimensions e tree.NoDimensions) >>= λ ns. pure (arrays ns t)

-- its first star, or its name, or its bracket; a parameter with none of them begins with its words
abbrev pub parameter_start : tree.Words → List ℕ → Option (ℕ × Name) → tree.Bracket → ℕ
parameter_start ws (star ∷ stars) x b = star
parameter_start ws [] (Some x) b = x.0
parameter_start ws [] None (tree.OpenBracket at) = at
parameter_start ws [] None (tree.SizedBracket at e) = at
parameter_start ws [] None tree.NoBracket = words_start ws

abbrev pub parameter : Bool → tree.Param → Judgement Parameter
parameter has_body (tree.Parameter ws stars x b) =
    base ws >>= λ b'. bracketed (pointers (length stars) b'.type) b >>= λ t.
    rule (parameter_start ws stars x b)
    (parameter_rule (record { has_body = has_body; name = option_map (λ n. n.1) x; type = t })) >>= λ p.
    changed (add_parameter p) p

abbrev pub parameters : Bool → List tree.Param → Judgement (List Parameter)
parameters has_body [] = pure []
parameters has_body (p ∷ ps) = parameter has_body p >>= λ a. parameters has_body ps >>= λ as'. pure (a ∷ as')

abbrev pub types : List Parameter → List CType
types ps = map (λ p. p.type) ps

-- a function's result: `void` is none
abbrev pub result_type : CType → Option CType
result_type Void = None
result_type t = Some t

abbrev pub same_result : Option CType → Option CType → Bool
same_result None None = true
same_result (Some t) (Some u) = same_type t u
same_result _ _ = false

abbrev pub same_types : List CType → List CType → Bool
same_types [] [] = true
same_types (t ∷ ts) (u ∷ us) = same_type t u && same_types ts us
same_types _ _ = false

-- a function of the type may be declared where the name stands for this
abbrev pub agrees : Option Entity → Option CType → List CType → Bool
agrees None r ps = true
agrees (Some (Function q qs)) r ps = same_result q r && same_types qs ps
agrees (Some (Enumerator n)) r ps = false
agrees (Some (Global t)) r ps = false
agrees (Some (Local x t)) r ps = false
agrees (Some Hidden) r ps = false

-- `void`, or a scalar
abbrev pub is_result : CType → Bool
is_result Void = true
is_result t = is_scalar t && not (points_to_array t)

-- the declarator of a function
abbrev pub function_rule : Declared → List Parameter → Scope → Ruling (Option CType)
function_rule d ps s =
    refuse (is_some (s.typedefs d.name) || not (agrees (entity s.blocks d.name) (result_type d.type) (types ps))) Twice
    (refuse (has_incomplete_elements s.layout d.type) Incomplete
    (refuse (not (is_result d.type)) OutOfSubset (Ruled (result_type d.type))))

-- and of one with a body, of which there is one
abbrev pub body_rule : Declared → List Parameter → Scope → Ruling (Option CType)
body_rule d ps s = refuse (s.file.with_body_so_far d.name) Twice (function_rule d ps s)

abbrev pub add_function : Name → Option CType → List CType → Scope → Scope
add_function x r ts s = declare x (Function r ts) s

abbrev pub add_body : Name → Scope → Scope
add_body x s = record s { file = record s.file { with_body_so_far = with_name x true s.file.with_body_so_far } }

abbrev pub variables : List Parameter → List C.Variable
variables ps = filter_map (λ p. option_map (λ x. record { name = x; type = p.type }) p.name) ps

abbrev pub add_parameters : List Parameter → Scope → Scope
add_parameters [] s = s
add_parameters (p ∷ ps) s = add_parameters ps (add_parameter p s)

-- the body begins: nothing has a number or is declared but the parameters
abbrev pub enter : List Parameter → Scope → Scope
enter ps s = add_parameters ps (record s { progress = at_start (C.variable_names (variables ps)) })

abbrev pub around_body : Option CType → Around
around_body r = record { result = r; in_loop = false; in_switch = false }

abbrev pub body : Option CType → List Parameter → tree.Items → Judgement C.Statements
body r ps is = in_block (after (enter ps) (items (around_body r) is)) >>= λ ss. pure (listed ss)

abbrev pub function_of : Name → Option CType → List Parameter → C.Statements → Scope → C.TypedFn
function_of x r ps ss s =
    record { name = x; result = r; params = variables ps; locals = s.progress.locals; folds_cast = s.folds_cast; body = ss }

abbrev pub finished : Name → Option CType → List Parameter → C.Statements → Judgement C.TypedFn
finished x r ps ss s = Good (function_of x r ps ss s, s)

-- no conversion has been folded yet
abbrev pub fresh : Scope → Scope
fresh s = record s { folds_cast = false }

-- a function with its body: its parameters, its declarator, its block
abbrev pub function : tree.Words → tree.Declarator → List tree.Param → tree.Items → Judgement C.TypedFn
function ws d ps is =
    after fresh (base ws) >>= λ b. declarator b.type d >>= λ head. in_block (parameters true ps) >>= λ qs.
    rule head.at (body_rule head qs) >>= λ r.
    changed (λ s. add_body head.name (add_function head.name r (types qs) s)) r >>= λ q.
    body q qs is >>= λ ss. finished head.name q qs ss
