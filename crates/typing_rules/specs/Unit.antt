-- Which texts are typed, and how (C99 6.9): their functions and declarations in order. A text has one typed unit, or a first bad
-- node.
use Rattle.std.specs.Prelude.{ℕ, ◌≡◌, false, List, [], ◌∷◌, ◌++◌, map, Option, Some, None, ℤ, is_some}
use Rattle.std.specs.List.{filter_map}
use Rattle.c_values.specs.Name.{Name, is_among}
use Rattle.c_values.specs.Types.{Target, CType}
use Rattle.c_values.specs.Value.{Value, Bits}
use Rattle.c_values.specs.Word.{word}
use Rattle.c_values.specs.Layout.{Layout, GlobalVar, scalar_width, shape_of}
use Rattle.c_values.specs.Path.{zeros}
use Rattle.c_grammar.specs.Tree as tree
use Rattle.typing_rules.specs.declared.fault.TypeKind.{TypeKind}
use Rattle.typing_rules.specs.Checked.{Checked, Good, Bad, Judgement, pure, ◌>>=◌}
use Rattle.typing_rules.specs.Scope.{Scope}
use Rattle.typing_rules.specs.File.{GlobalSoFar}
use Rattle.typing_rules.specs.Progress.{at_start}
use Rattle.typing_rules.specs.Functions.{function}
use Rattle.typing_rules.specs.Globals.{declaration}
use Rattle.c_lang.specs.Typed as C

abbrev pub external : tree.External → Judgement (List C.TypedFn)
external (tree.Function ws d ps is) = function ws d ps is >>= λ f. pure (f ∷ [])
external (tree.Declaration at ws ts) = declaration (is_some at) ws ts >>= λ u. pure []

abbrev pub externals : List tree.External → Judgement (List C.TypedFn)
externals [] = pure []
externals (x ∷ xs) = external x >>= λ fs. externals xs >>= λ gs. pure (fs ++ gs)

-- the name of a function with a body
abbrev pub declared_name : tree.Declarator → Name
declared_name (tree.Declare stars at x ns) = x

abbrev pub body_name : tree.External → Option Name
body_name (tree.Function ws d ps is) = Some (declared_name d)
body_name (tree.Declaration at ws ts) = None

-- in front of a text nothing is declared
abbrev pub at_beginning : Target → List tree.External → Scope
at_beginning t xs = record {
  layout = record { target = t; structs = [] };
  tags = λ x. None;
  unnamed = 0;
  typedefs = λ x. None;
  blocks = (λ x. None) ∷ [];
  file = record { with_body = λ x. is_among x (filter_map body_name xs); with_body_so_far = λ x. false; globals = [] };
  progress = at_start [];
  folds_cast = false;
}

-- the value that a global begins with: that of its initialiser, or zeros
abbrev pub initial_value : Layout → CType → Option ℤ → Value
initial_value l t None = zeros (shape_of l t)
initial_value l t (Some n) = Bits (word (scalar_width l.target t) n)

abbrev pub global_var : Layout → GlobalSoFar → GlobalVar
global_var l g = record { name = g.name; type = g.type; initial = initial_value l g.type g.initial }

abbrev pub unit_in : List C.TypedFn → Scope → C.TypedUnit
unit_in fs s = record { layout = s.layout; globals = map (global_var s.layout) s.file.globals; functions = fs }

abbrev pub whole : Checked (List C.TypedFn × Scope) → Checked C.TypedUnit
whole (Good p) = Good (unit_in p.0 p.1)
whole (Bad at kind) = Bad at kind

-- the answer of the type checker for a target and a text
abbrev pub checked : Target → List tree.External → Checked C.TypedUnit
checked t xs = whole (externals xs (at_beginning t xs))

-- a typed text, and the first bad node of one that isn't
abbrev pub IsTyped : Target → List tree.External → C.TypedUnit → Type 0
IsTyped t xs u = checked t xs ≡ Good u

abbrev pub IsFirstBad : Target → List tree.External → ℕ → TypeKind → Type 0
IsFirstBad t xs at kind = checked t xs ≡ Bad at kind
