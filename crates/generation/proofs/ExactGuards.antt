-- Conditions around a command: the first that doesn't hold ends the run, as the undefined value does on the C side.
use Rattle.std.proofs.Common.{◌≡◌, ◌++◌, Bool, true, false, List, [], ◌∷◌, Option, Some, None, Ok, Err, refl, sym, subst, ap, ◌∙◌}
use Rattle.std.specs.Prelude.{ℕ, if◌then◌else◌}
use Rattle.correspondence.specs.Outcome.{Ends, fault, given, Then, choose}
use Rattle.correspondence.specs.Corresponds.{Corresponds}
use Rattle.correspondence.proofs.Corresponds.{fault_corresponds}
use Rattle.c_values.specs.Choice.{Choice}
use Rattle.c_values.specs.Layout.{Layout}
use Rattle.expression_lang.specs.Signature.{Binder}
use Rattle.expression_lang.specs.GuardKind.{GuardKind}
use Rattle.simpl_lang.specs.Command.{Condition, Simpl}
use Rattle.expression_lang.specs.Machine.{Machine}
use Rattle.simpl_lang.specs.Exec.{Runs, Flow, checked, execs, holds_on}
use Rattle.c_meaning.specs.CValue.{Defined}
use Rattle.generation.specs.Generate.{guarded}
use Rattle.generation.specs.Refused.{refused}
use Rattle.generation.proofs.ExactValue.{Same}
use Rattle.correspondence.proofs.Steps.{same_on_left, after_done, after_fault}

-- undefined by the kind, where one is refused
abbrev pub refusing : {A : Type 0} → Option GuardKind → Ends A GuardKind → Ends A GuardKind
refusing None p = p
refusing (Some k) p = fault k

module _ {A : Type 0} (l : Layout) (m : Machine) where
  one_checked : (b : Bool) (k : GuardKind) (r : Option GuardKind) (p q : Ends A GuardKind) → p ≡ refusing r q → choose b p (fault k) ≡ refusing (if b then r else Some k) q
  one_checked true k r p q h = h
  one_checked false k r p q h = refl

  pub checked_refuses : (gs : List Condition) (next : Ends A GuardKind) → checked l gs m next ≡ refusing (refused l m.locals m.state gs) next
  checked_refuses [] next = refl
  checked_refuses (g ∷ gs) next =
      one_checked (holds_on l m g.exp) g.kind (refused l m.locals m.state gs) (checked l gs m next) next (checked_refuses gs next)

  pub checked_in_parts : (gs hs : List Condition) (next : Ends A GuardKind) → checked l (gs ++ hs) m next ≡ checked l gs m (checked l hs m next)
  checked_in_parts [] hs next = refl
  checked_in_parts (g ∷ gs) hs next = ap (λ p. choose (holds_on l m g.exp) p (fault g.kind)) (checked_in_parts gs hs next)

pub guarded_checks : (l : Layout) (p : Choice) (locals : List Binder) (gs : List Condition) (s : Simpl) (depth : Option ℕ) (fs : List Runs) (m : Machine) →
    execs l p locals (guarded gs s) depth fs m ≡ checked l gs m (execs l p locals s depth fs m)
guarded_checks l p locals [] s depth fs m = refl
guarded_checks l p locals (g ∷ gs) s depth fs m = ap (λ q. choose (holds_on l m g.exp) q (fault g.kind)) (guarded_checks l p locals gs s depth fs m)

-- faults of the same kind
abbrev pub SameKind : GuardKind → GuardKind → Type 0
SameKind k j = j ≡ k

module _ {A B D : Type 0} (answers : B → D → Type 0) where
  evaluated_or_refused : (d : Defined A) (o : Option GuardKind) (P : A → Type 0) (rest : A → Ends B GuardKind) (q : Ends D GuardKind) → Same d o P →
      ((a : A) → P a → Corresponds answers SameKind (rest a) q) → Corresponds answers SameKind (Then (given d) rest) (refusing o q)
  evaluated_or_refused (Ok a) o P rest q h k =
      subst (λ z. Corresponds answers SameKind (Then (given (Ok a)) rest) (refusing z q)) (sym h.0) (same_on_left (after_done a rest) (k a h.1))
  evaluated_or_refused (Err e) o P rest q h k =
      subst (λ z. Corresponds answers SameKind (Then (given (Err e)) rest) (refusing z q)) (sym h)
      (same_on_left (after_fault {A = A} e rest) (fault_corresponds answers SameKind e e refl))

  -- an evaluation, and what comes behind its conditions
  pub evaluated_checked : (l : Layout) (m : Machine) (gs : List Condition) (d : Defined A) (P : A → Type 0) (rest : A → Ends B GuardKind) (q : Ends D GuardKind) →
      Same d (refused l m.locals m.state gs) P → ((a : A) → P a → Corresponds answers SameKind (rest a) q) → Corresponds answers SameKind (Then (given d) rest) (checked l gs m q)
  evaluated_checked l m gs d P rest q h k =
      subst (λ z. Corresponds answers SameKind (Then (given d) rest) z) (sym (checked_refuses l m gs q)) (evaluated_or_refused d (refused l m.locals m.state gs) P rest q h k)

module _ {A B : Type 0} (answers : B → Flow → Type 0) (l : Layout) (p : Choice) (locals : List Binder) (depth : Option ℕ) (fs : List Runs) (m : Machine) where
  -- an evaluation, and a command behind its conditions
  pub evaluated_guarded : (gs : List Condition) (s : Simpl) (d : Defined A) (P : A → Type 0) (rest : A → Ends B GuardKind) → Same d (refused l m.locals m.state gs) P →
      ((a : A) → P a → Corresponds answers SameKind (rest a) (execs l p locals s depth fs m)) →
      Corresponds answers SameKind (Then (given d) rest) (execs l p locals (guarded gs s) depth fs m)
  evaluated_guarded gs s d P rest h k =
      subst (λ z. Corresponds answers SameKind (Then (given d) rest) z) (sym (guarded_checks l p locals gs s depth fs m))
      (evaluated_checked answers l m gs d P rest (execs l p locals s depth fs m) h k)

  -- behind the conditions of two evaluations
  pub evaluated_twice_guarded : (gs hs : List Condition) (s : Simpl) (d : Defined A) (P : A → Type 0) (rest : A → Ends B GuardKind) → Same d (refused l m.locals m.state gs) P →
      ((a : A) → P a → Corresponds answers SameKind (rest a) (execs l p locals (guarded hs s) depth fs m)) →
      Corresponds answers SameKind (Then (given d) rest) (execs l p locals (guarded (gs ++ hs) s) depth fs m)
  evaluated_twice_guarded gs hs s d P rest h k =
      subst (λ z. Corresponds answers SameKind (Then (given d) rest) z)
      (sym (guarded_checks l p locals (gs ++ hs) s depth fs m ∙ checked_in_parts l m gs hs (execs l p locals s depth fs m)))
      (evaluated_checked answers l m gs d P rest (checked l hs m (execs l p locals s depth fs m)) h
      (λ a x. subst (λ z. Corresponds answers SameKind (rest a) z) (guarded_checks l p locals hs s depth fs m) (k a x)))
