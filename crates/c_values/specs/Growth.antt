-- A layout with one struct more, and the struct of a name (C99 6.7.2.3).
use Rattle.std.specs.Prelude.{Bool, not, ◌&&◌, List, [], ◌∷◌, ◌++◌, map, Option, Some, None, if◌then◌else◌}
use Rattle.c_values.specs.Name.{Name, same_name, is_among}
use Rattle.c_values.specs.Layout.{Layout, StructDef, shape_of, has_member, all_members_complete}

abbrev pub with_struct : Layout → StructDef → Layout
with_struct l d = record { target = l.target; structs = l.structs ++ (d ∷ []) }

abbrev pub struct_names : Layout → List Name
struct_names l = map (λ d. d.name) l.structs

-- its name is new, and it has members, each of a complete type
abbrev pub can_follow : Layout → StructDef → Bool
can_follow l d =
    not (is_among d.name (struct_names l)) && has_member d.members && all_members_complete (shape_of l) d.members

-- the struct of the name, where it has a body
abbrev pub struct_named : List StructDef → Name → Option StructDef
struct_named [] x = None
struct_named (d ∷ ds) x = if same_name d.name x then Some d else struct_named ds x
