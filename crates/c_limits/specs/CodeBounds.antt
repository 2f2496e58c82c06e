-- How much of each limit's kind can stand in one function and in one expression, by the ends of productions alone. No part of an
-- expression ends a run of those productions that may stand in one, so an expression has no more nodes than end in a run; and it
-- nests no deeper than as many of them have others below, and one more. Statements are counted from one function to the next, and
-- how deep they nest is kept for each that isn't in another yet.
use Rattle.std.specs.Prelude.{ℕ, zero, suc, ◌+◌, max, Bool, true, false, nat_le, nat_lt, ◌&&◌, if◌then◌else◌, List, [], ◌∷◌, drop, Option, Some, None}
use Rattle.c_grammar.specs.declared.scripts.Step.{Step}
use Rattle.c_grammar.specs.declared.scripts.Step.TheVariants.{Shift, Reduce}
use Rattle.c_limits.specs.declared.limits.Limit.TheVariants as limit
use Rattle.c_limits.specs.declared.limits.role.Role.{Role}
use Rattle.c_limits.specs.declared.limits.role.Role.TheVariants as roles
use Rattle.c_limits.specs.declared.limits.bounds.Bounds.{Bounds}
use Rattle.c_limits.specs.CodeRoles.{role_of}
use Rattle.c_limits.specs.Limits.{most}

abbrev pub none : Bounds
none = record { functions = 0; statements = 0; nodes = 0; operators = 0 }

-- behind a part that stands in no expression
abbrev pub apart : Bounds → Bounds
apart b = record b { nodes = 0; operators = 0 }

-- behind the end of a production of this role
abbrev pub behind : Role → Bounds → Bounds
behind roles.Nothing b = b
behind roles.Leaf b = record b { nodes = b.nodes + 1 }
behind roles.Node b = record b { nodes = b.nodes + 1; operators = b.operators + 1 }
behind roles.Specifier b = b
behind roles.TypePart b = b
behind roles.Part b = apart b
behind roles.Simple b = apart b
behind roles.Outermost b = apart b
behind roles.Statement b = record (apart b) { statements = b.statements + 1 }
behind (roles.Compound n) b = record (apart b) { statements = b.statements + 1 }
behind (roles.Sequence n) b = apart b
behind roles.Local b = record (apart b) { statements = b.statements + 1 }
behind roles.Function b = record none { functions = b.functions + 1 }

-- whether no limit can be passed yet
abbrev pub is_within : Bounds → Bool
is_within b =
    nat_le b.functions (most limit.Functions)
    && (nat_le b.statements (most limit.Statements) && (nat_le b.nodes (most limit.Nodes) && nat_lt b.operators (most limit.Depth)))

-- how deep statements nest in so many of the last ones, or deeper than so before, and those before them
abbrev pub deepest : ℕ → List ℕ → ℕ → ℕ × List ℕ
deepest zero ds depth = (depth, ds)
deepest (suc n) [] depth = (depth, [])
deepest (suc n) (d ∷ ds) depth = deepest n ds (max d depth)

-- how deep they nest behind the end of a production of this role, if not too deep
abbrev pub nested : Role → List ℕ → Option (List ℕ)
nested roles.Statement ds = Some (1 ∷ ds)
nested (roles.Compound n) ds = let g = deepest n ds 0 in if nat_lt g.0 (most limit.Blocks) then Some ((g.0 + 1) ∷ g.1) else None
nested (roles.Sequence n) ds = let g = deepest n ds 0 in Some (g.0 ∷ g.1)
nested roles.Function ds = Some (drop 1 ds)
nested role ds = Some ds

-- whether the bounds stay within the limits along a script
unfoldable pub stay_within : Bounds → List ℕ → List Step → Bool
stay_within b ds [] = true
stay_within b ds (Shift ∷ ss) = stay_within b ds ss
stay_within b ds (Reduce p ∷ ss) =
    let c = behind (role_of p) b in
    is_within c && elim (nested (role_of p) ds) [ None ↦ false | Some es ↦ stay_within c es ss ]
