-- What the rules of the first two phases take a command to calls no function but those that the command calls.
use Rattle.std.proofs.Common.{◌≡◌, Bool, true, ◌&&◌, List, [], ◌∷◌, Some, None, refl, ap, ◌∙◌}
use Rattle.std.proofs.lemmas.Bool.{and_parts, and_from}
use Rattle.c_values.specs.Name.{Name}
use Rattle.simpl_lang.specs.Command as C
use Rattle.simpl_lang.specs.Command.{Simpl}
use Rattle.monad_lang.specs.Program as M
use Rattle.monad_lang.specs.Program.{Mon}
use Rattle.rule_trees.specs.RuleTree.{Tree, AllHold}
use Rattle.rule_trees.proofs.Induction.{holds as accepted_holds}
use Rattle.rule_exn.specs.Rule as X
use Rattle.rule_exn.specs.Table as Exceptions
use Rattle.rule_local.specs.Rule as L
use Rattle.rule_local.specs.Rule.{Context}
use Rattle.rule_local.specs.Table as Locals
use Rattle.monad_lang.specs.Calls as Programs
use Rattle.acceptance.specs.Accepted.{calls_only}

-- where the one test passes, the other one does
module _ (asked passes : Name → Bool) (implies : (x : Name) → asked x ≡ true → passes x ≡ true) where
  -- Exceptions

  record IsFlatCalls (a a' : Simpl) : Type 1 where
    pub calls : calls_only asked a ≡ true → calls_only passes a' ≡ true

  abbrev AllFlatCalls : List X.Claim → Type 1
  AllFlatCalls cs = AllHold (λ c. IsFlatCalls c.left c.right) cs

  -- one that calls nothing
  no_calls : (a b c : Simpl) → c ≡ b → calls_only passes b ≡ true → IsFlatCalls a c
  no_calls a b c e h = record { calls = λ k. ap (calls_only passes) e ∙ h }

  both_calls : (a b a' b' : Simpl) → IsFlatCalls a a' → IsFlatCalls b b' → calls_only asked a && calls_only asked b ≡ true →
      calls_only passes a' && calls_only passes b' ≡ true
  both_calls a b a' b' p q h =
      let k = and_parts (calls_only asked a) (calls_only asked b) h in and_from _ _ (p.calls k.0) (q.calls k.1)

  exception_row : (rule : X.Rule) (a a' : Simpl) → (Exceptions.row rule a a').holds →
      AllFlatCalls (Exceptions.row rule a a').parts → IsFlatCalls a a'
  exception_row X.Skip C.Skip c e s = no_calls C.Skip C.Skip c e refl
  exception_row X.Set (C.Set x v) c e s = no_calls (C.Set x v) (C.Set x v) c e refl
  exception_row X.Set (C.SetGlobal x path v) c e s = no_calls (C.SetGlobal x path v) (C.SetGlobal x path v) c e refl
  exception_row X.Set (C.Store t p path v) c e s = no_calls (C.Store t p path v) (C.Store t p path v) c e refl
  exception_row X.Pick (C.Pick x) c e s = no_calls (C.Pick x) (C.Pick x) c e refl
  exception_row X.Call (C.Call x f es) c e s = record { calls = λ h. ap (calls_only passes) e ∙ implies f h }
  exception_row X.Throw C.Throw c e s = no_calls C.Throw Exceptions.raised c e refl
  exception_row X.SeqPlain (C.Seq a b) (C.Seq a' b') e s = record { calls = both_calls a b a' b' s.0 s.1.0 }
  exception_row X.SeqTest (C.Seq a b) (C.Seq a' (C.Cond v c b')) e s = record {
    calls = λ h.
        let k = and_parts (calls_only asked a) (calls_only asked b) h in
        and_from _ _ (s.0.calls k.0) (and_from _ _ (ap (calls_only passes) e.1) (s.1.0.calls k.1));
  }
  exception_row X.Cond (C.Cond v a b) (C.Cond v' a' b') e s = record { calls = both_calls a b a' b' s.0 s.1.0 }
  exception_row X.Guard (C.Guard g a) (C.Guard g' a') e s = record { calls = s.0.calls }
  exception_row X.WhilePlain (C.While gs v a) (C.While gs' v' a') e s = record { calls = s.0.calls }
  exception_row X.WhileTest (C.While gs v a) (C.While gs' v' a') e s = record { calls = s.0.calls }
  exception_row X.CatchPlain (C.Catch a b) a' e s =
      record { calls = λ h. s.0.calls (and_parts (calls_only asked a) (calls_only asked b) h).0 }
  exception_row X.CatchTest (C.Catch a b) (C.Seq a' (C.Cond v (C.Seq c b') d)) e s = record {
    calls = λ h.
        let k = and_parts (calls_only asked a) (calls_only asked b) h in
        and_from _ _ (s.0.calls k.0)
        (and_from _ _ (and_from _ _ (ap (calls_only passes) e.1) (s.1.0.calls k.1)) (ap (calls_only passes) e.2));
  }
  exception_row X.CatchSkip (C.Catch a C.Skip) (C.Seq a' c) e s = record {
    calls = λ h. and_from _ _ (s.0.calls (and_parts (calls_only asked a) true h).0) (ap (calls_only passes) e);
  }
  exception_row _ _ _ e s = absurd e

  pub flat_calls : (t : Tree X.Rule) (a a' : Simpl) → Exceptions.Takes t a a' → calls_only asked a ≡ true →
      calls_only passes a' ≡ true
  flat_calls t a a' h =
      (accepted_holds Exceptions.table (λ c. IsFlatCalls c.left c.right)
      (λ rule c e s. exception_row rule c.left c.right e s) t (record { left = a; right = a' }) h).calls

-- Locals

module _ (test : Name → Bool) where
  record IsProgramCalls (a : Simpl) (m : Mon) : Type 1 where
    pub calls : calls_only test a ≡ true → Programs.calls_only test m ≡ true

  abbrev AllProgramCalls : List L.Claim → Type 1
  AllProgramCalls cs = AllHold (λ c. IsProgramCalls c.left c.right) cs

  both_program_calls : (a b : Simpl) (m n : Mon) → IsProgramCalls a m → IsProgramCalls b n →
      calls_only test a && calls_only test b ≡ true → Programs.calls_only test m && Programs.calls_only test n ≡ true
  both_program_calls a b m n p q h =
      let k = and_parts (calls_only test a) (calls_only test b) h in and_from _ _ (p.calls k.0) (q.calls k.1)

  same_calls : (f g : Name) → g ≡ f → test f ≡ true → test g && true ≡ true
  same_calls f g e h = and_from _ _ (ap test e ∙ h) refl

  local_row : (ctx : Context) (w : Bool) (vs : List Name) (rule : L.Rule) (a : Simpl) (m : Mon) →
      (Locals.row ctx w vs rule a m).holds → AllProgramCalls (Locals.row ctx w vs rule a m).parts → IsProgramCalls a m
  local_row ctx w vs L.Skip C.Skip (M.Ret es) e s = record { calls = λ h. refl }
  local_row ctx w vs L.Set (C.Set x v) (M.Ret es) e s = record { calls = λ h. refl }
  local_row ctx w vs L.Dead (C.Set x v) (M.Ret es) e s = record { calls = λ h. refl }
  local_row ctx w vs L.Global (C.SetGlobal x path v) (M.Bind (M.Write place v') [] (M.Ret es)) e s =
      record { calls = λ h. refl }
  local_row ctx w vs L.Memory (C.Store t p path v) (M.Bind (M.Write place v') [] (M.Ret es)) e s =
      record { calls = λ h. refl }
  local_row ctx w vs L.Pick (C.Pick x) (M.Bind (M.Pick k) (y ∷ []) (M.Ret es)) e s = record { calls = λ h. refl }
  local_row ctx w vs L.Seq (C.Seq a b) (M.Bind a' us b') e s = record { calls = both_program_calls a b a' b' s.0 s.1.0 }
  local_row ctx w vs L.Cond (C.Cond v a b) (M.If v' a' b') e s =
      record { calls = both_program_calls a b a' b' s.0 s.1.0 }
  local_row ctx w vs L.Guard (C.Guard g a) (M.Bind (M.Guard v) [] a') e s = record { calls = s.0.calls }
  local_row ctx w vs L.While (C.While gs v a) (M.Bind (M.Loop starts guard v' a') us (M.Ret es)) e s =
      record { calls = λ h. and_from _ _ (s.0.calls h) refl }
  local_row ctx w vs L.Call (C.Call (Some x) f es) (M.Bind (M.Call g es') (y ∷ []) (M.Ret os)) e s =
      record { calls = same_calls f g e.0 }
  local_row ctx w vs L.Void (C.Call None f es) (M.Bind (M.Call g es') [] (M.Ret os)) e s =
      record { calls = same_calls f g e.0 }
  local_row ctx w vs L.Start a (M.Bind (M.Ret zs) xs a') e s = record { calls = s.0.calls }
  local_row _ _ _ _ _ _ e s = absurd e

  pub local_calls : (ctx : Context) (t : Tree L.Rule) (a : Simpl) (m : Mon) (vs : List Name) →
      Locals.TakesWhole ctx t a m vs → calls_only test a ≡ true → Programs.calls_only test m ≡ true
  local_calls ctx t a m vs h =
      (accepted_holds (Locals.table ctx) (λ c. IsProgramCalls c.left c.right)
      (λ rule c e s. local_row ctx c.is_whole c.outputs rule c.left c.right e.0 s) t (L.whole a m vs) h).calls
