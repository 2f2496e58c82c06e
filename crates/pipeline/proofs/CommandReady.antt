-- Commands that are ready to become programs on numbers: each sum, negation and signed division stands where the conditions
-- around its command give its range. A command behind another, in a branch, in a handler or in a loop's body has its own
-- conditions, and counts on no other.
use Rattle.std.proofs.Common.{Bool, List, [], ◌∷◌, ◌++◌, ◌≡◌, true, false, sym, subst}
use Rattle.std.proofs.lemmas.List.{append-nil}
use Rattle.expression_lang.specs.Expression.{Exp, And}
use Rattle.expression_lang.specs.Sort.{Scope}
use Rattle.expression_lang.specs.Signature.{Binder}
use Rattle.simpl_lang.specs.Command.{Condition, Simpl, Skip, Throw, Set, SetGlobal, Store, Pick, Seq, Cond, Guard, Catch, While, Call}
use Rattle.rule_word.specs.Bases.{Surroundings}
use Rattle.generation.specs.Generate.{guarded}
use Rattle.pipeline.proofs.CommandsReady.{one_by_one}
use Rattle.pipeline.proofs.ReadyWords.{IsReady, IsPathReady}
use Rattle.pipeline.proofs.GivenRanges.{AllThere, split, all_split}

-- no condition is itself a list of conditions
abbrev pub is_and : Exp → Bool
is_and (And a b) = true
is_and _ = false

abbrev pub AreSingle : List Condition → Type 0
AreSingle [] = Unit {0}
AreSingle (c ∷ cs) = (is_and c.exp ≡ false) × AreSingle cs

module _ (same : Exp → Exp → Bool) (finds : (e : Exp) → same e e ≡ true) (g : Scope) where
  abbrev All : List Binder → Surroundings → List Condition → Type 0
  All names k cs = AllThere same finds g names k cs

  -- wherever these conditions are there
  abbrev pub Under : List Condition → (List Binder → Surroundings → Type 0) → Type 0
  Under gs P = (names : List Binder) (k : Surroundings) → AllThere same finds g names k gs → P names k

  -- conditions in order: each is ready wherever those before it are there
  abbrev pub AreInOrder : List Condition → List Condition → Type 0
  AreInOrder before [] = Unit {0}
  AreInOrder before (c ∷ cs) = Under before (λ names k. IsReady same g names k c.exp) × AreInOrder (before ++ (c ∷ [])) cs

  abbrev pub AreReady : List Binder → Surroundings → List Exp → Type 0
  AreReady names k [] = Unit {0}
  AreReady names k (e ∷ es) = IsReady same g names k e × AreReady names k es

  -- the conditions around a command, and the command
  abbrev pub IsCommandReady : List Condition → Simpl → Type 0
  IsCommandReady gs Skip = Unit {0}
  IsCommandReady gs Throw = Unit {0}
  IsCommandReady gs (Set x e) = Under gs (λ names k. IsReady same g names k e)
  IsCommandReady gs (SetGlobal x path e) = Under gs (λ names k. IsPathReady same g names k path × IsReady same g names k e)
  IsCommandReady gs (Store t p path e) =
      Under gs (λ names k. (IsReady same g names k p × IsPathReady same g names k path) × IsReady same g names k e)
  IsCommandReady gs (Pick x) = Unit {0}
  IsCommandReady gs (Seq a b) = IsCommandReady gs a × IsCommandReady [] b
  IsCommandReady gs (Cond e a b) = Under gs (λ names k. IsReady same g names k e) × IsCommandReady [] a × IsCommandReady [] b
  IsCommandReady gs (Guard c a) = Under gs (λ names k. IsReady same g names k c.exp) × IsCommandReady (gs ++ (c ∷ [])) a
  IsCommandReady gs (Catch a b) = IsCommandReady [] a × IsCommandReady [] b
  IsCommandReady gs (While cs e a) =
      AreInOrder [] cs × Under cs (λ names k. IsReady same g names k e) × IsCommandReady [] a × AreSingle cs
  IsCommandReady gs (Call x f es) = Under gs (λ names k. AreReady names k es)

  -- what gives the conditions before gives them with more of both
  one_more : (before now : List Condition) (c : Condition) →
      ((names : List Binder) (k : Surroundings) → All names k now → All names k before) →
      (names : List Binder) (k : Surroundings) → All names k (now ++ (c ∷ [])) → All names k (before ++ (c ∷ []))
  one_more before now c h names k a =
      let s = split same finds g names k now (c ∷ []) a in all_split same finds g names k before (c ∷ []) (h names k s.0) s.1

  -- what is ready from fewer conditions is ready from more: those before it are given by what is before
  pub from_more : (before now : List Condition) → ((names : List Binder) (k : Surroundings) → AllThere same finds g names k now →
      AllThere same finds g names k before) → (cs : List Condition) →
      AreInOrder before cs → AreInOrder now cs
  from_more before now h [] i = tt
  from_more before now h (c ∷ cs) i = (
    (λ names k a. i.0 names k (h names k a)),
    from_more (before ++ (c ∷ [])) (now ++ (c ∷ [])) (one_more before now c h) cs i.1,
  )

  -- one list after another
  pub in_order_after : (before gs hs : List Condition) → AreInOrder before gs → AreInOrder (before ++ gs) hs →
      AreInOrder before (gs ++ hs)
  in_order_after before [] hs h i =
      from_more (before ++ []) before (λ names k a. all_split same finds g names k before [] a tt) hs i
  in_order_after before (c ∷ cs) hs h i = (
    h.0,
    in_order_after (before ++ (c ∷ [])) cs hs h.1
        (from_more (before ++ (c ∷ cs)) ((before ++ (c ∷ [])) ++ cs)
        (λ names k a.
        let s = split same finds g names k (before ++ (c ∷ [])) cs a in
        let t = split same finds g names k before (c ∷ []) s.0 in
        all_split same finds g names k before (c ∷ cs) t.0 (t.1.0, s.1)) hs i),
  )

  -- a command under conditions in order, which are nested around it
  pub guarded_ready : (before gs : List Condition) (c : Simpl) → AreInOrder before gs → IsCommandReady (before ++ gs) c →
      IsCommandReady before (guarded gs c)
  guarded_ready before [] c h i = subst (λ hs. IsCommandReady hs c) (append-nil before) i
  guarded_ready before (d ∷ ds) c h i =
      (h.0, guarded_ready (before ++ (d ∷ [])) ds c h.1 (subst (λ hs. IsCommandReady hs c) (sym (one_by_one before d ds)) i))

  -- what is ready from some conditions is ready from any that give them
  pub command_from_more : (before now : List Condition) →
      ((names : List Binder) (k : Surroundings) → AllThere same finds g names k now → AllThere same finds g names k before) →
      (a : Simpl) →
      IsCommandReady before a → IsCommandReady now a
  command_from_more before now h (Set x e) i = λ names k a. i names k (h names k a)
  command_from_more before now h (SetGlobal x path e) i = λ names k a. i names k (h names k a)
  command_from_more before now h (Store t p path e) i = λ names k a. i names k (h names k a)
  command_from_more before now h (Seq a b) i = (command_from_more before now h a i.0, i.1)
  command_from_more before now h (Cond e a b) i = ((λ names k r. i.0 names k (h names k r)), i.1, i.2)
  command_from_more before now h (Guard c a) i = (
    (λ names k r. i.0 names k (h names k r)),
    command_from_more (before ++ (c ∷ [])) (now ++ (c ∷ [])) (one_more before now c h) a i.1,
  )
  command_from_more before now h (Catch a b) i = i
  command_from_more before now h (While cs e a) i = i
  command_from_more before now h (Call x f es) i = λ names k a. i names k (h names k a)
  command_from_more _ _ _ _ _ = tt
