-- What agrees where one of two tests tells agrees where either does.
use Rattle.std.proofs.Common.{Bool, ◌||◌}
use Rattle.std.proofs.lemmas.Bool.{or_left, or_right}
use Rattle.c_values.specs.Name.{Name}
use Rattle.monad_lang.specs.Agree.{AgreeOn}

pub agree_left : {A : Type 0} (test more : Name → Bool) (f g : Name → A) → AgreeOn (λ y. test y || more y) f g → AgreeOn test f g
agree_left test more f g h y k = h y (or_left (test y) (more y) k)

pub agree_right : {A : Type 0} (test more : Name → Bool) (f g : Name → A) → AgreeOn (λ y. test y || more y) f g → AgreeOn more f g
agree_right test more f g h y k = h y (or_right (test y) (more y) k)
