-- Units whose bodies the rules take to programs keep what functions do.
use Rattle.std.proofs.Common.{◌≡◌, ℕ, Bool, true, false, cond, List, [], ◌∷◌, Option, Some, None, refl, sym, subst, ap, ◌∙◌}
use Rattle.std.proofs.lemmas.Bool.{true≢false}
use Rattle.correspondence.specs.Outcome.{Turns, done}
use Rattle.correspondence.specs.Corresponds.{Corresponds, Paired}
use Rattle.correspondence.proofs.Corresponds.{done_corresponds, stop_corresponds, corresponds_weaker}
use Rattle.correspondence.proofs.Steps.{left_goes_on}
use Rattle.c_values.specs.Name.{Name, same_name}
use Rattle.c_values.specs.Value.{Value}
use Rattle.c_values.specs.Layout.{Layout}
use Rattle.c_values.specs.Choice.{Choice}
use Rattle.c_values.proofs.Options.{some_is, none_is}
use Rattle.expression_lang.specs.Sort.{Kind}
use Rattle.expression_lang.specs.GuardKind.{GuardKind}
use Rattle.expression_lang.specs.View.{zero_word_at}
use Rattle.expression_lang.specs.Machine.{Returned, machine_with}
use Rattle.expression_lang.specs.Signature.{Binder, Signature, Invocation, names_of, signature, bound, no_env}
use Rattle.expression_lang.proofs.Bound.{bound_stays}
use Rattle.simpl_lang.specs.Command.{SimplFn, SimplUnit, simpl_fn, kind_of}
use Rattle.simpl_lang.specs.Exec as Simpl
use Rattle.simpl_lang.specs.Exec.{Flow, Normal, Abrupt, zero_locals, ended}
use Rattle.simpl_lang.specs.Sorted.{IsWellFormed}
use Rattle.monad_lang.specs.Program.{FinalFn, FinalUnit, final_fn}
use Rattle.monad_lang.specs.Run as Mon
use Rattle.monad_lang.specs.Run.{Answer, Failure, runs}
use Rattle.rule_local.specs.Agree.{GivesAt, Begins}
use Rattle.rule_local.specs.Kept.{BothFail, SameResult, IsFilled, HasEach, SameFilled, LocalsKept, CallsFit}
use Rattle.rule_local.proofs.Signed.{HasResult, IsSigned, SameSigned, KeptAsSigned, kept}
use Rattle.rule_local.specs.Units.{outputs_of, context_of, IsLiftedTo, AreLiftedTo, IsUnitLiftedTo, UnitsKeepLocals}
use Rattle.rule_local.proofs.Bound.{bound_alike}
use Rattle.rule_local.proofs.Parts.{below_related}
use Rattle.rule_local.proofs.Sound.{takes_whole_sound}
use Rattle.rule_local.proofs.Fitting.{AllFit, all_fit}

-- a local begins with the zero of its kind
zero_by_name : (x : Name) (j k : Kind) (bs : List Binder) → (kind_of bs x ≡ Some k → zero_locals bs x ≡ zero_word_at k) → (t : Bool) →
    cond t (Some j) (kind_of bs x) ≡ Some k → cond t (zero_word_at j) (zero_locals bs x) ≡ zero_word_at k
zero_by_name x j k bs h true e = ap zero_word_at (some_is e)
zero_by_name x j k bs h false e = h e

zero_local : (bs : List Binder) (x : Name) (k : Kind) → kind_of bs x ≡ Some k → zero_locals bs x ≡ zero_word_at k
zero_local [] x k h = none_is h
zero_local (b ∷ bs) x k h = zero_by_name x b.kind k bs (zero_local bs x k) (same_name b.name x) h

begins : (f : SimplFn) (s : Signature) (vs : List Value) → HasEach s.params vs → Begins (context_of f s) (bound (names_of s.params) vs no_env) (bound (names_of s.params) vs (zero_locals f.locals))
begins f s vs h = record {
  parameters = λ y t. bound_alike y s.params vs no_env (zero_locals f.locals) h (λ n. absurd (true≢false (sym t ∙ n)));
  others = λ x k n e. bound_stays x (names_of s.params) vs (zero_locals f.locals) n ∙ zero_local f.locals x k e;
}

-- what both have under a name
abbrev AllFound : List Signature → Option SimplFn → Option Signature → Option FinalFn → Type 0
AllFound ss None None None = Unit {0}
AllFound ss (Some f) (Some s) (Some g) = CallsFit ss f.body × IsLiftedTo f s g
AllFound ss _ _ _ = ⊥

by_name : (sigs : List Signature) (f : SimplFn) (s : Signature) (g : FinalFn) (fs : Option SimplFn) (ss : Option Signature) (gs : Option FinalFn) → AllFound sigs (Some f) (Some s) (Some g) → AllFound sigs fs ss gs →
    (b : Bool) → AllFound sigs (cond b (Some f) fs) (cond b (Some s) ss) (cond b (Some g) gs)
by_name sigs f s g fs ss gs h k true = h
by_name sigs f s g fs ss gs h k false = k

all_found : (sigs : List Signature) (fs : List SimplFn) (ss : List Signature) (gs : List FinalFn) → AllFit sigs fs → AreLiftedTo fs ss gs → (x : Name) → AllFound sigs (simpl_fn fs x) (signature ss x) (final_fn gs x)
all_found sigs [] [] [] h k x = tt
all_found sigs (f ∷ fs) (s ∷ ss) (g ∷ gs) h k x =
    let found : Bool → Name → Name → Type 0 = λ b y z. AllFound sigs (cond b (Some f) (simpl_fn fs x)) (cond (same_name y x) (Some s) (signature ss x)) (cond (same_name z x) (Some g) (final_fn gs x)) in
    subst (λ y. found (same_name f.name x) y g.name) (sym k.0.signed)
    (subst (λ z. found (same_name f.name x) f.name z) (sym k.0.name)
    (by_name sigs f s g (simpl_fn fs x) (signature ss x) (final_fn gs x) (h.0, k.0) (all_found sigs fs ss gs h.1 k.1 x) (same_name f.name x)))
all_found sigs _ _ _ h k x = absurd k

-- the result, which is there where the signature has one
pub record SameAs (s : Option Signature) (r : Returned) (a : Answer) : Type 0 where
  pub same : SameResult r a
  pub signed : IsSigned s r.result

ended_same : (s : Signature) (k : Option Kind) → s.result ≡ k → (f : Flow) (a : Answer) → GivesAt (outputs_of k) f a → Corresponds {F = GuardKind} {G = Failure} (SameAs (Some s)) BothFail (ended k f) (done a)
ended_same s None e (Normal m) a h = done_corresponds (SameAs (Some s)) BothFail _ _ (record { same = record { values = h.values; state = h.state }; signed = subst (λ k. HasResult k None) (sym e) tt })
ended_same s (Some k) e (Normal m) a h =
    done_corresponds (SameAs (Some s)) BothFail _ _
    (record { same = record { values = h.values; state = h.state }; signed = subst (λ j. HasResult j (Some (m.locals Simpl.result_local))) (sym e) tt })
ended_same s k e (Abrupt m) a h = absurd h

module _ (l : Layout) (p : Choice) (sigs : List Signature) where
  function_keeps : (o : Option SimplFn) (s : Option Signature) (o' : Option FinalFn) → AllFound sigs o s o' → (depth : Option ℕ) (fs : List Simpl.Runs) (gs : List Mon.Runs) →
      Paired (KeptAsSigned sigs) fs gs → (c : Invocation) → IsFilled s c.arguments →
      Corresponds (SameAs s) BothFail (Simpl.function_runs l p o s depth fs c) (Mon.function_runs l p o' depth gs c)
  function_keeps (Some f) (Some s) (Some g) h depth fs gs k c full =
      subst (λ xs. Corresponds (SameAs (Some s)) BothFail (Simpl.function_runs l p (Some f) (Some s) depth fs c) (runs l p g.body (bound xs c.arguments no_env) depth gs c.state)) (sym h.1.parameters)
      (left_goes_on (GivesAt (outputs_of s.result)) (SameAs (Some s)) BothFail _ _ _
      (takes_whole_sound l p (context_of f s) sigs h.1.tree f.body g.body (outputs_of s.result) h.1.takes depth fs gs k h.0
      (machine_with (bound (names_of s.params) c.arguments (zero_locals f.locals)) c.state) (bound (names_of s.params) c.arguments no_env) (begins f s c.arguments full))
      (ended_same s s.result refl))
  function_keeps None None None h depth fs gs k c full = stop_corresponds (SameAs None) BothFail Turns
  function_keeps _ _ _ h depth fs gs k c full = absurd h

  pub signed_as : (c : Invocation) (r : Returned) (a : Answer) → SameAs (signature sigs c.name) r a → SameSigned sigs c r a
  signed_as c r a h = record { same = h.same; signed = h.signed }

paired_weaker : {Function Function' : Type 1} (R S : Function → Function' → Type 0) → ((f : Function) (g : Function') → R f g → S f g) → (fs : List Function) (gs : List Function') → Paired R fs gs → Paired S fs gs
paired_weaker R S h [] [] k = tt
paired_weaker R S h (f ∷ fs) (g ∷ gs) k = (h f g k.0, paired_weaker R S h fs gs k.1)
paired_weaker R S h [] (g ∷ gs) k = absurd k
paired_weaker R S h (f ∷ fs) [] k = absurd k

module _ (u : SimplUnit) (v : FinalUnit) (fit : AllFit u.signatures u.functions) (lifted : IsUnitLiftedTo u v) (p : Choice) where
  bodies_keep : (fs : List Simpl.Runs) (gs : List Mon.Runs) → Paired (KeptAsSigned u.signatures) fs gs → KeptAsSigned u.signatures (Simpl.bodies u p fs) (Mon.bodies v p gs)
  bodies_keep fs gs k depth c c' e =
      subst (λ d. Corresponds (SameSigned u.signatures c) BothFail (Simpl.bodies u p fs depth c) (Mon.bodies v p gs depth d)) (sym e.same)
      (subst (λ l. Corresponds (SameSigned u.signatures c) BothFail (Simpl.bodies u p fs depth c) (Mon.function_runs l p (final_fn v.functions c.name) depth gs c)) (sym lifted.layout)
      (corresponds_weaker (SameAs (signature u.signatures c.name)) (SameSigned u.signatures c) BothFail BothFail _ _ (signed_as u.layout p u.signatures c) (λ j i t. t)
      (function_keeps u.layout p u.signatures (simpl_fn u.functions c.name) (signature u.signatures c.name) (final_fn v.functions c.name)
      (all_found u.signatures u.functions u.signatures v.functions fit lifted.functions c.name) depth fs gs k c e.filled)))

  pub below_keep : (n : ℕ) → Paired (KeptAsSigned u.signatures) (Simpl.functions_below u p n) (Mon.functions_below v p n)
  below_keep n = below_related (SameFilled u.signatures) (SameSigned u.signatures) BothFail (Simpl.bodies u p) (Mon.bodies v p) bodies_keep n

pub units_keep_locals : (u : SimplUnit) (v : FinalUnit) → IsWellFormed u → IsUnitLiftedTo u v → UnitsKeepLocals u v
units_keep_locals u v formed lifted = record {
  below = λ p n. paired_weaker (KeptAsSigned u.signatures) (LocalsKept u.signatures) (kept u.signatures) _ _ (below_keep u v (all_fit u u.functions formed.functions) lifted p n);
  runs = λ p n.
      kept u.signatures _ _ (bodies_keep u v (all_fit u u.functions formed.functions) lifted p _ _ (below_keep u v (all_fit u u.functions formed.functions) lifted p n));
}
