-- Lists that are built from their ends.
use Rattle.std.proofs.Common.{◌≡◌, List, [], ◌∷◌, ◌++◌, map, refl, ap}
use Rattle.c_lang.specs.declared.tree.Statement as S
use Rattle.typing_rules.specs.Statements.{onto}
use Rattle.c_lang.specs.CodeTyped.{statement_of, statements_of}
use Rattle.c_lang.specs.Typed as C
use Rattle.typing_statements.specs.declared.switches.Group as G
use Rattle.typing_statements.specs.CodeStatements.{in_front}

-- the last statement is in front of what follows
pub onto_behind : (ss : List S.Statement) (s : S.Statement) (ts : C.Statements) → onto (map statement_of (ss ++ (s ∷ []))) ts ≡ onto (map statement_of ss) (C.next (statement_of s) ts)
onto_behind [] s ts = refl
onto_behind (x ∷ ss) s ts = ap (C.next (statement_of x)) (onto_behind ss s ts)

-- the last group is in front of what follows
pub in_front_behind : (gs : List G.Group) (g : G.Group) (rest : C.Groups) → in_front (gs ++ (g ∷ [])) rest ≡ in_front gs (C.group g.labels.values.items g.labels.has_default (statements_of g.statements) rest)
in_front_behind [] g rest = refl
in_front_behind (h ∷ gs) g rest = ap (C.group h.labels.values.items h.labels.has_default (statements_of h.statements)) (in_front_behind gs g rest)
