-- The rows of the table by their parts.
use Rattle.std.proofs.Common.{◌≡◌, ℕ, suc, Bool, true, refl}
use Rattle.std.proofs.lemmas.Bool.{and_parts}
use Rattle.simpl_lang.specs.Command as C
use Rattle.simpl_lang.specs.Command.{Simpl}
use Rattle.rule_exn.specs.Quiet.{quiet}
use Rattle.rule_exn.specs.Rule.{Rule, Skip, Set, Pick, Call, Throw, SeqPlain, SeqTest, Cond, Guard, WhilePlain, WhileTest, CatchPlain, CatchTest, CatchSkip}
use Rattle.rule_exn.specs.Table.{row}
use Rattle.rule_exn.specs.CodeRow.{arity, has_parts, claims, first_of, last_of, first_is_quiet, last_is_quiet}

-- an instance leaves what its rule's number of parts says
pub parts_are_claims : (rule : Rule) (a c : Simpl) → (row rule a c).holds → (row rule a c).parts ≡ claims (arity rule) rule a c
parts_are_claims Skip C.Skip c h = refl
parts_are_claims Set (C.Set x e) c h = refl
parts_are_claims Set (C.SetGlobal x path e) c h = refl
parts_are_claims Set (C.Store t p path e) c h = refl
parts_are_claims Pick (C.Pick x) c h = refl
parts_are_claims Call (C.Call x f es) c h = refl
parts_are_claims Throw C.Throw c h = refl
parts_are_claims SeqPlain (C.Seq a b) (C.Seq a' b') h = refl
parts_are_claims SeqTest (C.Seq a b) (C.Seq a' (C.Cond e c b')) h = refl
parts_are_claims Cond (C.Cond e a b) (C.Cond e' a' b') h = refl
parts_are_claims Guard (C.Guard g a) (C.Guard g' a') h = refl
parts_are_claims WhilePlain (C.While gs e a) (C.While gs' e' a') h = refl
parts_are_claims WhileTest (C.While gs e a) (C.While gs' e' a') h = refl
parts_are_claims CatchPlain (C.Catch a b) a' h = refl
parts_are_claims CatchTest (C.Catch a b) (C.Seq a' (C.Cond e (C.Seq c b') d)) h = refl
parts_are_claims CatchSkip (C.Catch a C.Skip) (C.Seq a' c) h = refl
parts_are_claims rule a c h = absurd h

pub some_parts : (rule : Rule) (a c : Simpl) (n : ℕ) → (row rule a c).holds → arity rule ≡ suc n → has_parts a ≡ true
some_parts SeqPlain (C.Seq a b) c n h e = refl
some_parts SeqTest (C.Seq a b) c n h e = refl
some_parts Cond (C.Cond e' a b) c n h e = refl
some_parts Guard (C.Guard g a) c n h e = refl
some_parts WhilePlain (C.While gs e' a) c n h e = refl
some_parts WhileTest (C.While gs e' a) c n h e = refl
some_parts CatchPlain (C.Catch a b) c n h e = refl
some_parts CatchTest (C.Catch a b) c n h e = refl
some_parts CatchSkip (C.Catch a b) c n h e = refl
some_parts Skip a c n h e = cc
some_parts Set a c n h e = cc
some_parts Pick a c n h e = cc
some_parts Call a c n h e = cc
some_parts Throw a c n h e = cc
some_parts rule a c n h e = absurd h

-- the parts of an instance that are known to be quiet are so
pub first_quiet : (rule : Rule) (a c : Simpl) (known : Bool) → (row rule a c).holds → (known ≡ true → quiet a ≡ true) → first_is_quiet rule known ≡ true → quiet (first_of a) ≡ true
first_quiet SeqPlain (C.Seq a b) (C.Seq a' b') known h k e = h
first_quiet SeqTest (C.Seq a b) c known h k e = (and_parts (quiet a) (quiet b) (k e)).0
first_quiet Cond (C.Cond e' a b) c known h k e = (and_parts (quiet a) (quiet b) (k e)).0
first_quiet Guard (C.Guard g a) c known h k e = k e
first_quiet WhilePlain (C.While gs e' a) (C.While gs' e'' a') known h k e = h.0
first_quiet WhileTest (C.While gs e' a) c known h k e = k e
first_quiet CatchPlain (C.Catch a b) c known h k e = h
first_quiet CatchTest (C.Catch a b) c known h k e = cc
first_quiet CatchSkip (C.Catch a b) c known h k e = cc
first_quiet Skip C.Skip c known h k e = k e
first_quiet Set (C.Set x v) c known h k e = k e
first_quiet Set (C.SetGlobal x path v) c known h k e = k e
first_quiet Set (C.Store t p path v) c known h k e = k e
first_quiet Pick (C.Pick x) c known h k e = k e
first_quiet Call (C.Call x f es) c known h k e = k e
first_quiet Throw C.Throw c known h k e = k e
first_quiet rule a c known h k e = absurd h

pub last_quiet : (rule : Rule) (a c : Simpl) (known : Bool) → (row rule a c).holds → (known ≡ true → quiet a ≡ true) → last_is_quiet rule known ≡ true → quiet (last_of a) ≡ true
last_quiet SeqPlain (C.Seq a b) c known h k e = (and_parts (quiet a) (quiet b) (k e)).1
last_quiet SeqTest (C.Seq a b) c known h k e = (and_parts (quiet a) (quiet b) (k e)).1
last_quiet Cond (C.Cond e' a b) c known h k e = (and_parts (quiet a) (quiet b) (k e)).1
last_quiet Guard (C.Guard g a) c known h k e = k e
last_quiet WhilePlain (C.While gs e' a) c known h k e = k e
last_quiet WhileTest (C.While gs e' a) c known h k e = k e
last_quiet Skip C.Skip c known h k e = k e
last_quiet Set (C.Set x v) c known h k e = k e
last_quiet Set (C.SetGlobal x path v) c known h k e = k e
last_quiet Set (C.Store t p path v) c known h k e = k e
last_quiet Pick (C.Pick x) c known h k e = k e
last_quiet Call (C.Call x f es) c known h k e = k e
last_quiet Throw C.Throw c known h k e = k e
last_quiet CatchPlain (C.Catch a b) c known h k e = cc
last_quiet CatchTest (C.Catch a b) c known h k e = cc
last_quiet CatchSkip (C.Catch a b) c known h k e = cc
last_quiet rule a c known h k e = absurd h
