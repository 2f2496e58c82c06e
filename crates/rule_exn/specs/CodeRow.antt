-- The rows of the table by their parts: how many there are, and where they stand in the two commands.
use Rattle.std.specs.Prelude.{◌≡◌, ℕ, zero, suc, Bool, true, false, List, [], ◌∷◌}
use Rattle.simpl_lang.specs.Command as C
use Rattle.simpl_lang.specs.Command.{Simpl}
use Rattle.rule_exn.specs.declared.rule.Parts as P
use Rattle.rule_exn.specs.Rule.{Rule, Skip, Set, Pick, Call, Throw, SeqPlain, SeqTest, Cond, Guard, WhilePlain, WhileTest, CatchPlain, CatchTest, CatchSkip, Claim, ◌to◌}
use Rattle.rule_exn.specs.Table.{is_thrown, cleared}

abbrev pub arity : Rule → ℕ
arity Skip = 0
arity Set = 0
arity Pick = 0
arity Call = 0
arity Throw = 0
arity SeqPlain = 2
arity SeqTest = 2
arity Cond = 2
arity Guard = 1
arity WhilePlain = 1
arity WhileTest = 1
arity CatchPlain = 1
arity CatchTest = 2
arity CatchSkip = 1

abbrev pub parts_of : P.Parts → ℕ
parts_of P.TheVariants.None = 0
parts_of P.TheVariants.One = 1
parts_of P.TheVariants.Two = 2

abbrev pub has_parts : Simpl → Bool
has_parts (C.Seq a b) = true
has_parts (C.Cond e a b) = true
has_parts (C.Guard c a) = true
has_parts (C.Catch a b) = true
has_parts (C.While cs e a) = true
has_parts _ = false

-- the first part of a command, and the last; of one without parts the command itself
abbrev pub first_of : Simpl → Simpl
first_of (C.Seq a b) = a
first_of (C.Cond e a b) = a
first_of (C.Guard c a) = a
first_of (C.Catch a b) = a
first_of (C.While cs e a) = a
first_of c = c

abbrev pub last_of : Simpl → Simpl
last_of (C.Seq a b) = b
last_of (C.Cond e a b) = b
last_of (C.Guard c a) = a
last_of (C.Catch a b) = b
last_of (C.While cs e a) = a
last_of c = c

-- what stands for the first part on the right side, and for the last
abbrev pub first_right : Rule → Simpl → Simpl
first_right CatchPlain c = c
first_right _ c = first_of c

abbrev pub last_right : Rule → Simpl → Simpl
last_right SeqTest c = last_of (last_of c)
last_right CatchTest c = last_of (first_of (last_of c))
last_right _ c = last_of c

abbrev pub claims : ℕ → Rule → Simpl → Simpl → List Claim
claims zero rule a c = []
claims (suc zero) rule a c = first_of a to first_right rule c ∷ []
claims (suc (suc n)) rule a c = first_of a to first_right rule c ∷ last_of a to last_right rule c ∷ []

-- does nothing where something was thrown
abbrev pub IsSkippedWhereThrown : Simpl → Type 0
IsSkippedWhereThrown (C.Cond e c b) = (e ≡ is_thrown) × (c ≡ C.Skip)
IsSkippedWhereThrown _ = ⊥

-- clears the flag first
abbrev pub BeginsCleared : Simpl → Type 0
BeginsCleared (C.Seq c b) = c ≡ cleared
BeginsCleared _ = ⊥

-- clears the flag where something was thrown and goes on then, and does nothing else
abbrev pub IsHandled : Simpl → Type 0
IsHandled (C.Cond e c d) = (e ≡ is_thrown) × BeginsCleared c × (d ≡ C.Skip)
IsHandled _ = ⊥

-- whether the first part of an instance's left side is known to be quiet, and the last
abbrev pub first_is_quiet : Rule → Bool → Bool
first_is_quiet SeqPlain known = true
first_is_quiet WhilePlain known = true
first_is_quiet CatchPlain known = true
first_is_quiet CatchTest known = false
first_is_quiet CatchSkip known = false
first_is_quiet _ known = known

abbrev pub last_is_quiet : Rule → Bool → Bool
last_is_quiet CatchPlain known = false
last_is_quiet CatchTest known = false
last_is_quiet CatchSkip known = false
last_is_quiet _ known = known
