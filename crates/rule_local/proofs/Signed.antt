-- A function's results are as its signature says: there is one where the signature has one.
use Rattle.std.proofs.Common.{ℕ, zero, suc, List, [], ◌∷◌, Option, Some, None, sym, subst}
use Rattle.correspondence.specs.Outcome.{Ends}
use Rattle.correspondence.specs.Always.{Always}
use Rattle.correspondence.specs.Bound.{below}
use Rattle.correspondence.specs.Corresponds.{Corresponds, Paired}
use Rattle.correspondence.proofs.Always.{then_always}
use Rattle.correspondence.proofs.Corresponds.{corresponds_weaker}
use Rattle.c_values.specs.Value.{Value}
use Rattle.c_values.specs.Layout.{Layout}
use Rattle.c_values.specs.Choice.{Choice}
use Rattle.expression_lang.specs.Sort.{Kind}
use Rattle.expression_lang.specs.Machine.{Returned}
use Rattle.expression_lang.specs.Signature.{Signature, Invocation, signature}
use Rattle.simpl_lang.specs.Command.{SimplFn, SimplUnit, simpl_fn}
use Rattle.simpl_lang.specs.Exec as Simpl
use Rattle.simpl_lang.specs.Exec.{Flow, Normal, Abrupt, ended, function_runs, bodies}
use Rattle.monad_lang.specs.Run as Mon
use Rattle.monad_lang.specs.Run.{Answer}
use Rattle.rule_local.specs.Kept.{Related, BothFail, SameResult, SameFilled, LocalsKept}

abbrev pub HasResult : Option Kind → Option Value → Type 0
HasResult None r = Unit {0}
HasResult (Some k) None = ⊥
HasResult (Some k) (Some v) = Unit {0}

-- there is a result where the signature has one
abbrev pub IsSigned : Option Signature → Option Value → Type 0
IsSigned None r = Unit {0}
IsSigned (Some s) r = HasResult s.result r

pub record SameSigned (signatures : List Signature) (c : Invocation) (r : Returned) (a : Answer) : Type 0 where
  pub same : SameResult r a
  pub signed : IsSigned (signature signatures c.name) r.result

-- the same, and results are as the signatures say
abbrev pub KeptAsSigned : List Signature → Simpl.Runs → Mon.Runs → Type 0
KeptAsSigned signatures f g = Related (SameFilled signatures) (SameSigned signatures) BothFail f g

-- what holds of each answer of the left side besides
pub also : {A B F G : Type 0} {answers : A → B → Type 0} {faults : F → G → Type 0} {p : Ends A F} {q : Ends B G} (P : A → Type 0) → Corresponds answers faults p q → Always P p →
    Corresponds (λ a b. answers a b × P a) faults p q
also P c k = record {
  done = λ a h. let x = c.done a h in (x.0, (x.1, k a h), x.2);
  done_back = λ b h. let x = c.done_back b h in (x.0, (x.1, k x.0 x.2), x.2);
  failed = c.failed;
  failed_back = c.failed_back;
  stopped = c.stopped;
  stopped_back = c.stopped_back;
}

pub kept : (signatures : List Signature) (f : Simpl.Runs) (g : Mon.Runs) → KeptAsSigned signatures f g → LocalsKept signatures f g
kept signatures f g h depth c c' e = corresponds_weaker (SameSigned signatures c) SameResult BothFail BothFail _ _ (λ r a k. k.same) (λ k j t. t) (h depth c c' e)

ended_signed : (k : Option Kind) (f : Flow) → Always (λ r. HasResult k r.result) (ended k f)
ended_signed None f r e = tt
ended_signed (Some k) (Normal m) r e = subst (λ z. HasResult (Some k) z.result) (sym e) tt
ended_signed (Some k) (Abrupt m) r e = subst (λ z. HasResult (Some k) z.result) (sym e) tt

results_signed : (l : Layout) (p : Choice) (o : Option SimplFn) (s : Option Signature) (depth : Option ℕ) (fs : List Simpl.Runs) (c : Invocation) → Always (λ r. IsSigned s r.result) (function_runs l p o s depth fs c)
results_signed l p (Some f) (Some s) depth fs c = then_always (λ f. Unit {0}) (λ r. HasResult s.result r.result) _ _ (λ a e. tt) (λ f t. ended_signed s.result f)
results_signed l p o None depth fs c = λ r e. tt
results_signed l p None (Some s) depth fs c = λ r e. absurd e

module _ (u : SimplUnit) (p : Choice) where
  body_signed : (fs : List Simpl.Runs) (g : Mon.Runs) → LocalsKept u.signatures (bodies u p fs) g → KeptAsSigned u.signatures (bodies u p fs) g
  body_signed fs g h depth c c' e =
      corresponds_weaker (λ r a. SameResult r a × IsSigned (signature u.signatures c.name) r.result) (SameSigned u.signatures c) BothFail BothFail _ _ (λ r a k. record { same = k.0; signed = k.1 }) (λ k j t. t)
      (also (λ r. IsSigned (signature u.signatures c.name) r.result) (h depth c c' e) (results_signed u.layout p (simpl_fn u.functions c.name) (signature u.signatures c.name) depth fs c))

  pub below_signed : (n : ℕ) (gs : List Mon.Runs) → Paired (LocalsKept u.signatures) (below (bodies u p) n) gs → Paired (KeptAsSigned u.signatures) (below (bodies u p) n) gs
  below_signed zero [] h = tt
  below_signed zero (g ∷ gs) h = absurd h
  below_signed (suc n) [] h = absurd h
  below_signed (suc n) (g ∷ gs) h = (body_signed (below (bodies u p) n) g h.0, below_signed n gs h.1)
