-- Locals as a list of names with values, in the order of the function's locals.
use Rattle.std.specs.Prelude.{◌≡◌, List, [], ◌∷◌, map, Option, Some, None, if◌then◌else◌}
use Rattle.c_values.specs.Name.{Name, same_name, with_name}
use Rattle.c_values.specs.Value.{Value}
use Rattle.expression_lang.specs.Sort.{Scalar, word_sort_of}
use Rattle.expression_lang.specs.Evaluation.{Env}
use Rattle.expression_lang.specs.States.{IsOfSort}
use Rattle.expression_lang.specs.View.{zero_word_at}
use Rattle.expression_lang.specs.Signature.{Binder}

abbrev pub Table : Type 0
Table = List (Name × Value)

abbrev pub names_in : Table → List Name
names_in = map (λ p. p.0)

-- the values under the names
abbrev pub env_from : Table → Env → Env
env_from [] env = env
env_from (p ∷ ps) env = env_from ps (with_name p.0 p.1 env)

-- the first of the name takes the value
abbrev pub put_in : Name → Value → Table → Table
put_in x v [] = []
put_in x v (p ∷ ps) = if same_name p.0 x then (p.0, v) ∷ ps else p ∷ put_in x v ps

-- the first locals with the arguments, the others with zeros
abbrev pub started : List Binder → List Value → Table
started [] vs = []
started (b ∷ bs) [] = (b.name, zero_word_at b.kind) ∷ started bs []
started (b ∷ bs) (v ∷ vs) = (b.name, v) ∷ started bs vs

-- each local has a value of its kind's words
abbrev pub AreLocals : List Binder → Table → Type 0
AreLocals [] [] = Unit {0}
AreLocals (b ∷ bs) (p ∷ ps) = (p.0 ≡ b.name) × IsOfSort (word_sort_of b.kind) p.1 × AreLocals bs ps
AreLocals [] (p ∷ ps) = ⊥
AreLocals (b ∷ bs) [] = ⊥

-- one value of each scalar
abbrev pub AreOfSorts : List Scalar → List Value → Type 0
AreOfSorts [] [] = Unit {0}
AreOfSorts (c ∷ cs) (v ∷ vs) = IsOfSort c v × AreOfSorts cs vs
AreOfSorts [] (v ∷ vs) = ⊥
AreOfSorts (c ∷ cs) [] = ⊥

-- a target takes what is given
abbrev pub given_in : Option Name → Option Value → Table → Table
given_in (Some x) (Some v) ps = put_in x v ps
given_in _ _ ps = ps

-- where there is a target, something is given
abbrev pub IsTaken : Option Name → Option Value → Type 0
IsTaken (Some x) None = ⊥
IsTaken _ _ = Unit {0}
