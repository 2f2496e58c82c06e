-- What the code's surroundings of a statement, and its groups of a switch, stand for.
use Rattle.std.specs.Prelude.{List, [], ◌∷◌}
use Rattle.std.specs.Option.{option_map}
use Rattle.c_values.specs.CodeTypes.{type_of}
use Rattle.typing_statements.specs.declared.statements.Around as A
use Rattle.typing_statements.specs.declared.switches.Group as G
use Rattle.c_grammar.specs.Tree as tree
use Rattle.typing_rules.specs.Checked.{Judgement, in_block, pure, ◌>>=◌}
use Rattle.typing_rules.specs.Statements.{Around, statement, items, listed}
use Rattle.c_lang.specs.Typed as C
use Rattle.c_lang.specs.CodeTyped.{statements_of}

abbrev pub around_of : A.Around → Around
around_of a = record { result = option_map type_of a.result.now; in_loop = a.in_loop; in_switch = a.in_switch }

-- groups in front of others
abbrev pub in_front : List G.Group → C.Groups → C.Groups
in_front [] gs = gs
in_front (g ∷ rest) gs = C.group g.labels.values.items g.labels.has_default (statements_of g.statements) (in_front rest gs)

-- groups that are found, behind others
abbrev pub in_groups : List G.Group → Judgement C.Groups → Judgement C.Groups
in_groups before j = j >>= λ gs. pure (in_front before gs)

-- statements as a list, and as a block
abbrev pub as_list : Judgement (List C.Statement) → Judgement C.Statements
as_list j = j >>= λ ss. pure (listed ss)

abbrev pub as_block : Judgement (List C.Statement) → Judgement C.Statement
as_block j = in_block j >>= λ ss. pure (C.Block (listed ss))

-- the statements of a group
abbrev pub group_listed : Around → tree.Stmt → tree.Items → Judgement C.Statements
group_listed c s is = statement c s >>= λ x. items c is >>= λ ts. pure (listed (x ∷ ts))
