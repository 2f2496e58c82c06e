-- The value of a part of an expression, and of an expression with a part replaced.
use Rattle.std.proofs.Common.{◌≡◌, refl, sym, ◌∙◌}
use Rattle.c_values.specs.Value.{number_in}
use Rattle.c_values.specs.Layout.{Layout}
use Rattle.c_values.specs.Path.{Field, Index, sel, upd}
use Rattle.c_values.proofs.Follow.{sel_cons}
use Rattle.expression_lang.specs.Expression.{Exp, Sel, Path, Here, IntoField, IntoElement}
use Rattle.expression_lang.specs.Evaluation.{Env, State, value, steps}
use Rattle.assertion_walks.specs.Written.{part_of, replaced}

module _ (l : Layout) (env : Env) (s : State) where
  pub part_value : (e : Exp) (path : Path) → value l env s (part_of e path) ≡ sel (value l env s e) (steps l env s path)
  part_value e Here = refl
  part_value e (IntoField k path) = part_value (Sel e (IntoField k Here)) path ∙ sym (sel_cons (value l env s e) (Field k) (steps l env s path))
  part_value e (IntoElement i path) =
      part_value (Sel e (IntoElement i Here)) path ∙ sym (sel_cons (value l env s e) (Index (number_in (value l env s i))) (steps l env s path))

  pub replaced_value : (whole : Exp) (path : Path) (e : Exp) →
      value l env s (replaced whole path e) ≡ upd (value l env s whole) (steps l env s path) (value l env s e)
  replaced_value whole Here e = refl
  replaced_value whole _ e = refl
