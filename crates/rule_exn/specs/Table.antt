-- The table of the rules that take exceptions out of commands: an exception becomes a flag, the local `$thrown`, which is
-- tested wherever a command may have thrown. One clause for each row (`set` has one for each command that sets): the rule, the
-- left side, the right side, and then what is asked and the claims of the parts.
use Rattle.std.specs.Prelude.{◌≡◌, true, false, List, [], ◌∷◌}
use Rattle.expression_lang.specs.Expression.{Exp, Var, TruthLit, And, Imp, Not}
use Rattle.simpl_lang.specs.Command as C
use Rattle.simpl_lang.specs.Flag.{thrown_local}
use Rattle.rule_trees.specs.RuleTree.{Row, asks, no_row, Table, Tree, Accepts}
use Rattle.rule_exn.specs.Quiet.{quiet}
use Rattle.rule_exn.specs.Rule.{Rule, Skip, Set, Pick, Call, Throw, SeqPlain, SeqTest, Cond, Guard, WhilePlain, WhileTest, CatchPlain, CatchTest, CatchSkip, Claim, ◌to◌}

-- something was thrown
abbrev pub is_thrown : Exp
is_thrown = Var thrown_local

abbrev pub raised : C.Simpl
raised = C.Set thrown_local (TruthLit true)

abbrev pub cleared : C.Simpl
cleared = C.Set thrown_local (TruthLit false)

-- each condition is asked where nothing was thrown
abbrev pub asked_unless_thrown : C.Condition → C.Condition
asked_unless_thrown c = record { kind = c.kind; exp = Imp (Not is_thrown) c.exp }

abbrev pub unless_thrown : List C.Condition → List C.Condition
unless_thrown [] = []
unless_thrown (c ∷ cs) = asked_unless_thrown c ∷ unless_thrown cs

abbrev pub row : Rule → C.Simpl → C.Simpl → Row Claim
row Skip C.Skip c = asks (c ≡ C.Skip) []
row Set (C.Set x e) c = asks (c ≡ C.Set x e) []
row Set (C.SetGlobal x path e) c = asks (c ≡ C.SetGlobal x path e) []
row Set (C.Store t p path e) c = asks (c ≡ C.Store t p path e) []
row Pick (C.Pick x) c = asks (c ≡ C.Pick x) []
row Call (C.Call x f es) c = asks (c ≡ C.Call x f es) []
row Throw C.Throw c = asks (c ≡ raised) []
row SeqPlain (C.Seq a b) (C.Seq a' b') = asks (quiet a ≡ true) (a to a' ∷ b to b' ∷ [])
row SeqTest (C.Seq a b) (C.Seq a' (C.Cond e c b')) = asks ((e ≡ is_thrown) × (c ≡ C.Skip)) (a to a' ∷ b to b' ∷ [])
row Cond (C.Cond e a b) (C.Cond e' a' b') = asks (e' ≡ e) (a to a' ∷ b to b' ∷ [])
row Guard (C.Guard g a) (C.Guard g' a') = asks (g' ≡ g) (a to a' ∷ [])
row WhilePlain (C.While gs e a) (C.While gs' e' a') = asks ((quiet a ≡ true) × (gs' ≡ gs) × (e' ≡ e)) (a to a' ∷ [])
row WhileTest (C.While gs e a) (C.While gs' e' a') = asks ((gs' ≡ unless_thrown gs) × (e' ≡ And (Not is_thrown) e)) (a to a' ∷ [])
row CatchPlain (C.Catch a b) a' = asks (quiet a ≡ true) (a to a' ∷ [])
row CatchTest (C.Catch a b) (C.Seq a' (C.Cond e (C.Seq c b') d)) = asks ((e ≡ is_thrown) × (c ≡ cleared) × (d ≡ C.Skip)) (a to a' ∷ b to b' ∷ [])
row CatchSkip (C.Catch a C.Skip) (C.Seq a' c) = asks (c ≡ cleared) (a to a' ∷ [])
row _ _ _ = no_row

abbrev pub table : Table Rule Claim
table rule c = row rule c.left c.right

-- the rules of the tree take the left side to the right side
abbrev pub Takes : Tree Rule → C.Simpl → C.Simpl → Type 0
Takes t left right = Accepts table t (left to right)
