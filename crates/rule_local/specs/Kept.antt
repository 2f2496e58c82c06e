-- What the phase keeps of functions: to the same call, with an argument for each parameter, flat commands and the programs that
-- bind what their locals hold have the same result and state, fail alike and stop alike. The kind of a fault is no longer told.
use Rattle.std.specs.Prelude.{◌≡◌, List, [], ◌∷◌, Option, Some, None}
pub use Rattle.correspondence.specs.Related.{Related, BothFail}
use Rattle.c_values.specs.Name.{Name}
use Rattle.c_values.specs.Value.{Value}
use Rattle.expression_lang.specs.Sort.{Kind}
use Rattle.expression_lang.specs.Expression.{Exp}
use Rattle.expression_lang.specs.Machine.{Returned}
use Rattle.expression_lang.specs.Signature.{Signature, Invocation, signature}
use Rattle.simpl_lang.specs.Command.{Simpl, Skip, Throw, Set, SetGlobal, Store, Pick, Seq, Cond, Guard, Catch, While, Call}
use Rattle.simpl_lang.specs.Exec as Simpl
use Rattle.monad_lang.specs.Run as Mon
use Rattle.monad_lang.specs.Run.{Answer}

-- the result of a function as a list
abbrev pub as_values : Option Value → List Value
as_values None = []
as_values (Some v) = v ∷ []

pub record SameResult (r : Returned) (a : Answer) : Type 0 where
  pub values : a.values ≡ as_values r.result
  pub state : a.state ≡ r.state

-- one at least for each
abbrev pub HasEach : {A B : Type 0} → List A → List B → Type 0
HasEach [] bs = Unit {0}
HasEach (a ∷ as') [] = ⊥
HasEach (a ∷ as') (b ∷ bs) = HasEach as' bs

abbrev pub IsFilled : Option Signature → List Value → Type 0
IsFilled None vs = Unit {0}
IsFilled (Some s) vs = HasEach s.params vs

-- the same call, with an argument for each parameter
pub record SameFilled (signatures : List Signature) (c c' : Invocation) : Type 0 where
  pub same : c' ≡ c
  pub filled : IsFilled (signature signatures c.name) c.arguments

abbrev pub LocalsKept : List Signature → Simpl.Runs → Mon.Runs → Type 0
LocalsKept signatures f g = Related (SameFilled signatures) (λ c. SameResult) BothFail f g

abbrev pub FitsTarget : Option Name → Option Kind → Type 0
FitsTarget None k = Unit {0}
FitsTarget (Some x) None = ⊥
FitsTarget (Some x) (Some k) = Unit {0}

-- a call has an argument for each parameter, and a target only where there is a result
abbrev pub FitsCall : Option Signature → Option Name → List Exp → Type 0
FitsCall None x es = ⊥
FitsCall (Some s) x es = HasEach s.params es × FitsTarget x s.result

abbrev pub CallsFit : List Signature → Simpl → Type 0
CallsFit ss Skip = Unit {0}
CallsFit ss Throw = Unit {0}
CallsFit ss (Set x e) = Unit {0}
CallsFit ss (SetGlobal x path e) = Unit {0}
CallsFit ss (Store t p path e) = Unit {0}
CallsFit ss (Pick x) = Unit {0}
CallsFit ss (Seq a b) = CallsFit ss a × CallsFit ss b
CallsFit ss (Cond e a b) = CallsFit ss a × CallsFit ss b
CallsFit ss (Guard c a) = CallsFit ss a
CallsFit ss (Catch a b) = CallsFit ss a × CallsFit ss b
CallsFit ss (While cs e a) = CallsFit ss a
CallsFit ss (Call x f es) = FitsCall (signature ss f) x es
