-- An expression with another one in place of some of its parts, wherever they stand: in steps of paths too.
use Rattle.std.specs.Prelude.{◌≡◌, List, [], ◌∷◌}
use Rattle.expression_lang.specs.Expression.{Exp}
use Rattle.ac_expr.specs.Heads.{head, children}

mutual
  -- the second is the first with some of a made b
  pub data IsRewritten (a b : Exp) : Exp → Exp → Type 0 where
    kept : {e : Exp} → IsRewritten a b e e
    made : IsRewritten a b a b
    inside : {e e' : Exp} → head e' ≡ head e → AreRewritten a b (children e) (children e') → IsRewritten a b e e'

  pub data AreRewritten (a b : Exp) : List Exp → List Exp → Type 0 where
    none : AreRewritten a b [] []
    each : {e e' : Exp} {es es' : List Exp} → IsRewritten a b e e' → AreRewritten a b es es' → AreRewritten a b (e ∷ es) (e' ∷ es')
