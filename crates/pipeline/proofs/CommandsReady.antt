-- Ready commands: conditions nested around one, and more conditions around one.
use Rattle.std.proofs.Common.{◌≡◌, List, [], ◌∷◌, ◌++◌, refl, sym, ap, subst}
use Rattle.std.proofs.lemmas.List.{append-nil}
use Rattle.c_values.specs.Layout.{Layout}
use Rattle.simpl_lang.specs.Command.{Condition, Simpl, Set, SetGlobal, Store, Seq, Cond, Guard, Catch, While, Call}
use Rattle.ac_expr.specs.Fact.{Fact}
use Rattle.generation.specs.Generate.{guarded}
use Rattle.pipeline.specs.CommandReady.{AllGiven, AreInOrder, IsCommandReady}
use Rattle.pipeline.proofs.ExpressionsForHeaps.{split, all_split}

pub one_by_one : {A : Type 0} (xs : List A) (y : A) (ys : List A) → (xs ++ (y ∷ [])) ++ ys ≡ xs ++ (y ∷ ys)
one_by_one [] y ys = refl
one_by_one (x ∷ xs) y ys = ap (λ zs. x ∷ zs) (one_by_one xs y ys)

-- a command under conditions in order, which are nested around it
pub guarded_ready : (l : Layout) (before gs : List Condition) (c : Simpl) → AreInOrder l before gs → IsCommandReady l (before ++ gs) c → IsCommandReady l before (guarded gs c)
guarded_ready l before [] c h k = subst (λ hs. IsCommandReady l hs c) (append-nil before) k
guarded_ready l before (g ∷ gs) c h k = (h.0, guarded_ready l (before ++ (g ∷ [])) gs c h.1 (subst (λ hs. IsCommandReady l hs c) (sym (one_by_one before g gs)) k))

-- what is ready from some conditions is ready from any that give them
pub command_from_more : (l : Layout) (before now : List Condition) → ((fs : List Fact) → AllGiven fs now → AllGiven fs before) → (a : Simpl) → IsCommandReady l before a → IsCommandReady l now a
command_from_more l before now k (Set x e) h = λ fs g. h fs (k fs g)
command_from_more l before now k (SetGlobal x path e) h = λ fs g. h fs (k fs g)
command_from_more l before now k (Store t p path e) h = λ fs g. h fs (k fs g)
command_from_more l before now k (Seq a b) h = (command_from_more l before now k a h.0, h.1)
command_from_more l before now k (Cond e a b) h = ((λ fs g. h.0 fs (k fs g)), h.1, h.2)
command_from_more l before now k (Guard c a) h = (
  (λ fs g. h.0 fs (k fs g)),
  command_from_more l (before ++ (c ∷ [])) (now ++ (c ∷ [])) (λ fs g. let s = split fs now (c ∷ []) g in all_split fs before (c ∷ []) (k fs s.0) s.1) a h.1,
)
command_from_more l before now k (Catch a b) h = h
command_from_more l before now k (While cs e a) h = h
command_from_more l before now k (Call x f es) h = λ fs g. h fs (k fs g)
command_from_more _ _ _ _ _ _ = tt
