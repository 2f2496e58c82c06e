-- An expression that is made anew from its parts: each part is made anew, and then what they make together is changed.
use Rattle.std.specs.Prelude.{◌≡◌, List, [], ◌∷◌}
use Rattle.expression_lang.specs.Expression.{Exp}
use Rattle.ac_expr.specs.Heads.{head, children}

mutual
  -- the second is the first made anew, where `changes` takes what has its new parts to what it becomes
  pub data IsRebuilt (changes : Exp → Exp → Type 0) : Exp → Exp → Type 0 where
    rebuilt : {e made e' : Exp} → head made ≡ head e → AreRebuilt changes (children e) (children made) → changes made e' →
        IsRebuilt changes e e'

  pub data AreRebuilt (changes : Exp → Exp → Type 0) : List Exp → List Exp → Type 0 where
    none : AreRebuilt changes [] []
    each : {e e' : Exp} {es es' : List Exp} → IsRebuilt changes e e' → AreRebuilt changes es es' → AreRebuilt changes (e ∷ es) (e' ∷ es')
