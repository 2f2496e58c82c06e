-- The first step in lists, by its position, and in a loop's guard and its test.
use Rattle.std.specs.Prelude.{ℕ, zero, suc, ◌+◌, List, [], ◌∷◌, Option, Some, None}
use Rattle.c_values.specs.Types.{CType}
use Rattle.expression_lang.specs.Expression.{Exp, Path}
use Rattle.expression_lang.specs.Sort.{Scope}
use Rattle.ac_expr.specs.Fact.{Fact, Whole}
use Rattle.monad_lang.specs.Program.{Start, Place, Stored, Written, Mon, Loop}
use Rattle.expression_steps.specs.Rewritten.{Choice, in_two, first_step}
use Rattle.expression_steps.specs.Shortened.{shortened}

pub record Placed : Type 0 where
  pub position : ℕ
  pub exp : Exp

abbrev pub put_at : ℕ → Exp → Placed
put_at i e = record { position = i; exp = e }

abbrev pub later : ℕ → Option Placed → Option Placed
later k None = None
later k (Some p) = Some (put_at (k + p.position) p.exp)

abbrev pub or_later : Option Exp → Option Placed → Option Placed
or_later (Some e) o = Some (put_at 0 e)
or_later None o = later 1 o

abbrev pub first_in : Choice → List Fact → List Exp → Option Placed
first_in f fs [] = None
first_in f fs (e ∷ es) = or_later (first_step f fs e) (first_in f fs es)

abbrev pub first_start : Choice → List Fact → List Start → Option Placed
first_start f fs [] = None
first_start f fs (s ∷ ss) = or_later (first_step f fs s.exp) (first_start f fs ss)

abbrev pub with_exp : ℕ → Exp → List Exp → List Exp
with_exp i new [] = []
with_exp zero new (e ∷ es) = new ∷ es
with_exp (suc i) new (e ∷ es) = e ∷ with_exp i new es

abbrev pub with_start : ℕ → Exp → List Start → List Start
with_start i new [] = []
with_start zero new (s ∷ ss) = record { name = s.name; exp = new } ∷ ss
with_start (suc i) new (s ∷ ss) = s ∷ with_start i new ss

-- how an object is written to
pub data Object : Type 0 where
  StoredAt : Object
  WrittenAt : Object

abbrev pub object_at : Object → CType → Exp → Path → Place
object_at StoredAt t p path = Stored t p path
object_at WrittenAt t p path = Written t p path

-- a loop after the first step in its guard or its test, in a scope
abbrev pub turned_in : List Start → Exp → Exp → Mon → Scope → Option Mon
turned_in starts guard test m g =
    in_two (λ x y. Loop starts x y m) guard test (first_step (shortened g) [] guard)
    (first_step (shortened g) (Whole guard ∷ []) test)
