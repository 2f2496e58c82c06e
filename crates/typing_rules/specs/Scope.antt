-- What is declared at a place of the text (C99 6.2.1, 6.2.3, 6.7.2.3): the structs that are complete, the tags, the types that
-- have names, and the other names, by blocks.
use Rattle.std.specs.Prelude.{ℕ, ℤ, Bool, false, List, [], ◌∷◌, Option, Some, None, is_some, if◌then◌else◌}
use Rattle.std.specs.Option.{option_map}
use Rattle.c_values.specs.Name.{Name, with_name}
use Rattle.c_values.specs.Types.{CType}
use Rattle.c_values.specs.Layout.{Layout}
use Rattle.typing_rules.specs.File.{File}
use Rattle.typing_rules.specs.Progress.{Progress}

-- struct and enum tags share one name space; a struct's is declared by its first mention, an enum's by its body
pub data Tag : Type 0 where
  StructTag : Tag
  EnumTag : Tag

-- what an ordinary name stands for
pub data Entity : Type 0 where
  Enumerator : ℤ → Entity
  Global : CType → Entity
  -- its result, none where that is void, and its parameters
  Function : Option CType → List CType → Entity
  -- a name of its own in the function, and its type
  Local : Name → CType → Entity
  -- a local that may not be named here: in its own initialiser, or in another group of its switch
  Hidden : Entity

abbrev pub Names : Type 0
Names = Name → Option Entity

pub record Scope : Type 0 where
  -- the target, and the structs that are complete, in the order of their completion
  pub layout : Layout
  pub tags : Name → Option Tag
  -- how many structs without a name there were
  pub unnamed : ℕ
  pub typedefs : Name → Option CType
  -- the innermost block first, the file last
  pub blocks : List Names
  pub file : File
  -- of the function
  pub progress : Progress
  -- of the function: see TypedFn
  pub folds_cast : Bool

-- the innermost of the name
abbrev pub entity : List Names → Name → Option Entity
entity [] x = None
entity (names ∷ blocks) x = if is_some (names x) then names x else entity blocks x

-- the innermost block has the name
abbrev pub is_declared_here : List Names → Name → Bool
is_declared_here [] x = false
is_declared_here (names ∷ blocks) x = is_some (names x)

abbrev pub with_entity : Name → Entity → List Names → List Names
with_entity x e [] = []
with_entity x e (names ∷ blocks) = with_name x (Some e) names ∷ blocks

-- declares a name in the innermost block
abbrev pub declare : Name → Entity → Scope → Scope
declare x e s = record s { blocks = with_entity x e s.blocks }

-- a block begins, and ends
abbrev pub opened : Scope → Scope
opened s = record s { blocks = (λ x. None) ∷ s.blocks }

abbrev pub outer : List Names → List Names
outer [] = []
outer (names ∷ blocks) = blocks

abbrev pub closed : Scope → Scope
closed s = record s { blocks = outer s.blocks }

-- what is declared in the innermost block isn't to be named any more, but still has its name
abbrev pub hidden : List Names → List Names
hidden [] = []
hidden (names ∷ blocks) = (λ x. option_map (λ e. Hidden) (names x)) ∷ blocks

abbrev pub hide_locals : Scope → Scope
hide_locals s = record s { blocks = hidden s.blocks }
