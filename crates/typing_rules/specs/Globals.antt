-- Declarations outside functions (C99 6.7, 6.7.7, 6.9.2): globals, prototypes and typedefs. A global's declarations have one
-- type; at most one of them is without `extern`, and at most one has an initialiser, which is a constant.
use Rattle.std.specs.Prelude.{ℕ, Bool, true, false, not, ◌&&◌, ◌||◌, List, [], ◌∷◌, Option, Some, None, ℤ, is_some}
use Rattle.std.specs.Option.{option_map_or}
use Rattle.c_values.specs.Name.{Name, with_name}
use Rattle.c_values.specs.Types.{CType, same_type}
use Rattle.c_values.specs.Layout.{is_scalar}
use Rattle.c_grammar.specs.Tree as tree
use Rattle.typing_rules.specs.declared.fault.TypeKind.TheVariants.{Twice, Mismatch, Incomplete, OutOfSubset, Large}
use Rattle.typing_rules.specs.Checked.{Judgement, in_block, pure, ◌>>=◌, Ruling, Ruled, Refused, refuse, ◌>=>◌, rule, changed}
use Rattle.typing_rules.specs.Scope.{Scope, Entity, Enumerator, Global, Function, Local, Hidden, declare, is_declared_here, entity}
use Rattle.typing_rules.specs.File.{GlobalSoFar, global_named, with_global}
use Rattle.typing_rules.specs.Constant.{constant_value}
use Rattle.c_lang.specs.Cast.{has_cast}
use Rattle.typing_rules.specs.Operators.{converted}
use Rattle.typing_rules.specs.Declarations.{Base, Declared, is_incomplete, has_incomplete_elements, points_to_array, is_large}
use Rattle.typing_rules.specs.Expressions.{base, declarator, value, first, constant_of, note}
use Rattle.typing_rules.specs.Functions.{Parameter, parameters, types, function_rule, add_function}
use Rattle.c_lang.specs.Typed as C

-- a global of the type may be declared where the name stands for this
abbrev pub has_type : CType → Option Entity → Bool
has_type t None = true
has_type t (Some (Global u)) = same_type u t
has_type t (Some (Function r ps)) = false
has_type t (Some (Enumerator n)) = false
has_type t (Some (Local x u)) = false
has_type t (Some Hidden) = false

abbrev pub is_defined : Option GlobalSoFar → Bool
is_defined g = option_map_or (λ h. h.is_defined) g false

abbrev pub is_initialised : Option GlobalSoFar → Bool
is_initialised g = option_map_or (λ h. is_some h.initial) g false

-- the declarator of a global
abbrev pub global_rule : Bool → Declared → Scope → Ruling CType
global_rule is_extern d s =
    refuse (is_some (s.typedefs d.name) || not (has_type d.type (entity s.blocks d.name))
    || not is_extern && is_defined (global_named s.file.globals d.name)) Twice
    (refuse (is_incomplete s.layout d.type) Incomplete
    (refuse (points_to_array d.type) OutOfSubset
    (refuse (is_large s.layout d.type) Large (Ruled d.type))))

-- a global behind one of its declarations
abbrev pub declared_global : Bool → Name → CType → Option GlobalSoFar → GlobalSoFar
declared_global is_extern x t None = record { name = x; type = t; is_defined = not is_extern; initial = None }
declared_global is_extern x t (Some g) = record g { is_defined = g.is_defined || not is_extern }

abbrev pub put_global : GlobalSoFar → Scope → Scope
put_global g s = record s { file = record s.file { globals = with_global g s.file.globals } }

abbrev pub add_global : Bool → Name → CType → Scope → Scope
add_global is_extern x t s =
    declare x (Global t) (put_global (declared_global is_extern x t (global_named s.file.globals x)) s)

-- the constant that a global begins with, at its type, which is a scalar
abbrev pub known_value : Option ℤ → Ruling ℤ
known_value None = Refused Mismatch
known_value (Some n) = Ruled n

abbrev pub initial_rule : Name → CType → C.Expr → Scope → Ruling ℤ
initial_rule x t e s =
    refuse (is_initialised (global_named s.file.globals x)) Twice
    (refuse (not (is_scalar t)) Mismatch
    (converted s.layout t e >=> λ a. known_value (constant_value s.layout a)))

abbrev pub with_initial : ℤ → Option GlobalSoFar → Scope → Scope
with_initial n None s = s
with_initial n (Some g) s = put_global (record g { initial = Some n }) s

abbrev pub set_initial : Name → ℤ → Scope → Scope
set_initial x n s = with_initial n (global_named s.file.globals x) s

-- a constant expression, as an expression
abbrev pub constant_expression : tree.Exp → Judgement C.Expr
constant_expression e =
    value e >>= λ a. rule (first e) (λ s. constant_of a (constant_value s.layout a)) >>= λ c. changed (note (has_cast a)) a

abbrev pub initialised : ℕ → Name → CType → Option tree.Exp → Judgement (Unit {0})
initialised at x t None = pure tt
initialised at x t (Some e) =
    constant_expression e >>= λ a. rule at (initial_rule x t a) >>= λ n. changed (set_initial x n) tt

-- what is no global has no initialiser
abbrev pub uninitialised : ℕ → Option tree.Exp → Judgement (Unit {0})
uninitialised at None = pure tt
uninitialised at (Some e) = value e >>= λ a. rule at (λ s. Refused Mismatch)

abbrev pub global : Bool → Declared → Option tree.Exp → Judgement (Unit {0})
global is_extern d e =
    rule d.at (global_rule is_extern d) >>= λ t. changed (add_global is_extern d.name t) t >>= λ u.
    initialised d.at d.name u e

abbrev pub prototype : Declared → List Parameter → Option tree.Exp → Judgement (Unit {0})
prototype d ps e =
    rule d.at (function_rule d ps) >>= λ r. changed (add_function d.name r (types ps)) r >>= λ q. uninitialised d.at e

-- the declarator of a typedef; one of a function has no place in the subset
abbrev pub typedef_rule : Bool → Declared → Scope → Ruling CType
typedef_rule of_function d s =
    refuse (is_some (s.typedefs d.name) || is_declared_here s.blocks d.name) Twice
    (refuse (has_incomplete_elements s.layout d.type) Incomplete
    (refuse (points_to_array d.type || of_function) OutOfSubset
    (refuse (is_large s.layout d.type) Large (Ruled d.type))))

abbrev pub add_typedef : Name → CType → Scope → Scope
add_typedef x t s = record s { typedefs = with_name x (Some t) s.typedefs }

abbrev pub typedef : Declared → Option (List Parameter) → Option tree.Exp → Judgement (Unit {0})
typedef d ps e =
    rule d.at (typedef_rule (is_some ps) d) >>= λ t. changed (add_typedef d.name t) t >>= λ u. uninitialised d.at e

abbrev pub prototype_parameters : Option (List tree.Param) → Judgement (Option (List Parameter))
prototype_parameters None = pure None
prototype_parameters (Some ps) = in_block (parameters false ps) >>= λ qs. pure (Some qs)

abbrev pub declaration_of : Bool → Base → Declared → Option (List Parameter) → Option tree.Exp → Judgement (Unit {0})
declaration_of true b d ps e = typedef d ps e
declaration_of false b d None e = global b.is_extern d e
declaration_of false b d (Some ps) e = prototype d ps e

abbrev pub top : Bool → Base → tree.Top → Judgement (Unit {0})
top is_typedef b (tree.Topmost d ps e) =
    declarator b.type d >>= λ head. prototype_parameters ps >>= λ qs. declaration_of is_typedef b head qs e

abbrev pub tops : Bool → Base → List tree.Top → Judgement (Unit {0})
tops is_typedef b [] = pure tt
tops is_typedef b (t ∷ ts) = top is_typedef b t >>= λ u. tops is_typedef b ts

abbrev pub declaration : Bool → tree.Words → List tree.Top → Judgement (Unit {0})
declaration is_typedef ws ts = base ws >>= λ b. tops is_typedef b ts
