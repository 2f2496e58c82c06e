-- The parameters that have a name: one more behind others.
use Rattle.std.proofs.Common.{◌≡◌, List, [], ◌∷◌, ◌++◌, map, refl, ap, ◌∙◌}
use Rattle.std.proofs.lemmas.List.{map-append}
use Rattle.std.proofs.lemmas.List.Elements.{filter_map-append}
use Rattle.typing_declarations.specs.declared.parameters.Parameter as P
use Rattle.typing_declarations.specs.CodeParameters.{parameter_of}
use Rattle.typing_rules.specs.Functions.{variables, add_parameter, add_parameters}
use Rattle.typing_rules.specs.Scope.{Scope}
use Rattle.c_lang.specs.Typed as C

pub variables_behind : (ps : List P.Parameter) (p : P.Parameter) → variables (map parameter_of (ps ++ (p ∷ []))) ≡ variables (map parameter_of ps) ++ variables (parameter_of p ∷ [])
variables_behind ps p = simp (map-append, filter_map-append)

pub declared_behind : (ps : List P.Parameter) (p : P.Parameter) (s : Scope) → add_parameters (map parameter_of (ps ++ (p ∷ []))) s ≡ add_parameter (parameter_of p) (add_parameters (map parameter_of ps) s)
declared_behind [] p s = refl
declared_behind (q ∷ ps) p s = declared_behind ps p (add_parameter (parameter_of q) s)

pub names_append : (vs ws : List C.Variable) → C.variable_names (vs ++ ws) ≡ C.variable_names vs ++ C.variable_names ws
names_append [] ws = refl
names_append (v ∷ vs) ws = ap (λ xs. v.name ∷ xs) (names_append vs ws)

pub names_behind : (ps : List P.Parameter) (p : P.Parameter) → C.variable_names (variables (map parameter_of (ps ++ (p ∷ [])))) ≡ C.variable_names (variables (map parameter_of ps)) ++ C.variable_names (variables (parameter_of p ∷ []))
names_behind ps p = ap C.variable_names (variables_behind ps p) ∙ names_append (variables (map parameter_of ps)) (variables (parameter_of p ∷ []))
