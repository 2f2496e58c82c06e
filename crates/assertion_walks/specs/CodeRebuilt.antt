-- What the code's walk asks of how expressions are made anew, and the parts of a chain of steps.
use Rattle.std.specs.Prelude.{◌≡◌, ◌==◌, ℕ, List, [], ◌∷◌, ◌++◌, Option, Some, None, if◌then◌else◌}
use Rattle.expression_lang.specs.Expression.{Exp, Sel, Path, Here, IntoField, IntoElement}
use Rattle.expression_lang.specs.CodeExpression.{exp_of, path_of}
use Rattle.ac_expr.specs.Heads.{head, children}
use Rattle.ac_expr.specs.CodeHeads.{children_in}
use Rattle.assertion_walks.specs.declared.rebuilding.Parts as P

-- the children that an expression has to have, with the head of the first, to become the second
pub record IsUnmade (changes : Exp → Exp → Type 0) (e e' : Exp) (es : List Exp) : Type 0 where
  pub only : (made : Exp) → head made ≡ head e → changes made e' → children made ≡ es
  pub some : (made : Exp) × (head made ≡ head e) × (children made ≡ es) × changes made e'

-- nothing with the head of the first becomes the second
abbrev pub IsNever : (Exp → Exp → Type 0) → Exp → Exp → Type 0
IsNever changes e e' = (made : Exp) → head made ≡ head e → changes made e' → ⊥

-- Steps, one around the other

abbrev pub out_of_field : ℕ → Option Exp → Option Exp
out_of_field k (Some (Sel e (IntoField j Here))) = if j == k then Some e else None
out_of_field k _ = None

abbrev pub out_of_element : Option Exp → Option Exp
out_of_element (Some (Sel e (IntoElement i Here))) = Some e
out_of_element _ = None

abbrev pub index_in : Option Exp → List Exp
index_in (Some (Sel e (IntoElement i Here))) = i ∷ []
index_in _ = []

-- that of which an expression is the part at a path, but for the path's indexes
abbrev pub peeled : Path → Exp → Option Exp
peeled Here e = Some e
peeled (IntoField k way) e = out_of_field k (peeled way e)
peeled (IntoElement i way) e = out_of_element (peeled way e)

-- the indexes on the way
abbrev pub indexes_in : Path → Exp → List Exp
indexes_in Here e = []
indexes_in (IntoField k way) e = indexes_in way e
indexes_in (IntoElement i way) e = index_in (peeled way e) ++ indexes_in way e

abbrev pub parts_in : P.Parts → List Exp
parts_in (P.TheVariants.Children es) = children_in es
parts_in (P.TheVariants.Steps way e) = indexes_in (path_of way.now) (exp_of e.now)
