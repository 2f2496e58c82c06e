-- Locals of a row that are assigned, and conditions before an expression.
use Rattle.std.specs.Prelude.{Bool, not, ◌&&◌, List, [], ◌∷◌, string_bytes, if◌then◌else◌}
use Rattle.c_values.specs.Name.{Name, is_among}
use Rattle.expression_lang.specs.Expression.{Exp, And}
use Rattle.expression_lang.specs.declared.signatures.Binder as B
use Rattle.simpl_lang.specs.Command.{Condition}

-- of the locals those of two rows
abbrev pub carried_in : List B.Binder → List Bool → List Bool → List Name
carried_in (b ∷ bs) (a ∷ as') (f ∷ fs) = if a && f then string_bytes b.name ∷ carried_in bs as' fs else carried_in bs as' fs
carried_in _ _ _ = []

abbrev pub conj_before : List Condition → Exp → Exp
conj_before [] e = e
conj_before (c ∷ cs) e = And c.exp (conj_before cs e)

-- locals of a row that are no parameters
abbrev pub begun_in : List Name → List B.Binder → List Bool → List Name
begun_in ps (b ∷ bs) (f ∷ fs) = if f && not (is_among (string_bytes b.name) ps) then string_bytes b.name ∷ begun_in ps bs fs else begun_in ps bs fs
begun_in ps _ _ = []
