-- Commands that are ready to become programs on typed heaps: each load and each store stands where the conditions
-- around its command give that its root is covered and its indices are in range. A command behind another, in a branch,
-- in a handler or in a loop's body has its own conditions, and counts on no other.
use Rattle.std.specs.Prelude.{Bool, true, false, List, [], ◌∷◌, ◌++◌}
use Rattle.c_values.specs.Layout.{Layout}
use Rattle.simpl_lang.specs.Command.{Condition, Simpl, Skip, Throw, Set, SetGlobal, Store, Pick, Seq, Cond, Guard, Catch, While, Call}
use Rattle.monad_lang.specs.Program.{Stored}
use Rattle.ac_expr.specs.Fact.{Fact}
use Rattle.ac_expr.specs.Known.{SomeFact, Gives}
use Rattle.rule_heap.specs.ExpLifted.{exp_lifted, IsReady, IsPathReady}
use Rattle.rule_heap.specs.HeapLifted.{is_ptrok, AreReady, IsPlaceReady}

abbrev pub Unless : Bool → Type 0 → Type 0
Unless true P = Unit {0}
Unless false P = P

-- Each condition is given, on the right side. A test that a pointer may point need not be: it is gone where its tag's
-- stands behind it.
abbrev pub AllGiven : List Fact → List Condition → Type 0
AllGiven fs [] = Unit {0}
AllGiven fs (g ∷ gs) =
    Unless (is_ptrok g.exp) (SomeFact (λ fact. Gives fs fact (exp_lifted g.exp)) fs) × AllGiven fs gs

-- wherever these conditions are given
abbrev pub Under : List Condition → (List Fact → Type 0) → Type 0
Under gs P = (fs : List Fact) → AllGiven fs gs → P fs

-- conditions in order: each is ready wherever those before it are given
abbrev pub AreInOrder : Layout → List Condition → List Condition → Type 0
AreInOrder l before [] = Unit {0}
AreInOrder l before (c ∷ cs) = Under before (λ fs. IsReady l fs c.exp) × AreInOrder l (before ++ (c ∷ [])) cs

-- the conditions around a command, and the command
abbrev pub IsCommandReady : Layout → List Condition → Simpl → Type 0
IsCommandReady l gs Skip = Unit {0}
IsCommandReady l gs Throw = Unit {0}
IsCommandReady l gs (Set x e) = Under gs (λ fs. IsReady l fs e)
IsCommandReady l gs (SetGlobal x path e) = Under gs (λ fs. IsPathReady l fs path × IsReady l fs e)
IsCommandReady l gs (Store t p path e) = Under gs (λ fs. IsPlaceReady l fs (Stored t p path) × IsReady l fs e)
IsCommandReady l gs (Pick x) = Unit {0}
IsCommandReady l gs (Seq a b) = IsCommandReady l gs a × IsCommandReady l [] b
IsCommandReady l gs (Cond e a b) =
    Under gs (λ fs. IsReady l fs e) × IsCommandReady l [] a × IsCommandReady l [] b
IsCommandReady l gs (Guard g a) = Under gs (λ fs. IsReady l fs g.exp) × IsCommandReady l (gs ++ (g ∷ [])) a
IsCommandReady l gs (Catch a b) = IsCommandReady l [] a × IsCommandReady l [] b
IsCommandReady l gs (While cs e a) =
    AreInOrder l [] cs × Under cs (λ fs. IsReady l fs e) × IsCommandReady l [] a
IsCommandReady l gs (Call x f es) = Under gs (λ fs. AreReady l fs es)
