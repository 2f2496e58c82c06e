-- Units whose bodies the rules take to others run alike.
use Rattle.std.proofs.Common.{◌≡◌, ℕ, Bool, true, false, cond, List, [], ◌∷◌, Option, Some, None, refl, sym, subst, ap, ap₂, ◌∙◌}
use Rattle.std.proofs.lemmas.Bool.{or_parts}
use Rattle.correspondence.specs.Outcome.{Turns, Then}
use Rattle.correspondence.specs.Corresponds.{Corresponds, Paired}
use Rattle.correspondence.proofs.Corresponds.{done_corresponds, stop_corresponds, then_corresponds, below_corresponds}
use Rattle.c_values.specs.Name.{Name, same_name, with_name, is_among}
use Rattle.c_values.specs.Value.{Value, Truth}
use Rattle.c_values.specs.Layout.{Layout}
use Rattle.c_values.specs.Choice.{Choice}
use Rattle.c_values.proofs.Options.{some_is, none_is}
use Rattle.expression_lang.specs.Sort.{Kind, BoolKind}
use Rattle.expression_lang.specs.Evaluation.{Env, State}
use Rattle.expression_lang.specs.View.{zero_word_at}
use Rattle.expression_lang.specs.Machine.{Machine, Returned, machine_with}
use Rattle.expression_lang.specs.Signature.{Binder, Signature, Invocation, names_of, signature, bound}
use Rattle.simpl_lang.specs.Command.{SimplFn, SimplUnit, simpl_fn, kind_of}
use Rattle.simpl_lang.specs.Exec.{Flow, Normal, Abrupt, Runs, execs, zero_locals, result_of, ended, function_runs, bodies, functions_below}
use Rattle.simpl_lang.specs.Flag.{thrown_local, LeavesFlag, AllLeaveFlag, NoneTakesFlag, HasUnusedFlag}
use Rattle.rule_exn.specs.Flagged.{Flagged, Shows}
use Rattle.rule_exn.specs.Units.{IsTakenTo, AreTakenTo, IsUnitTakenTo, RunAlike, UnitsRunAlike}
use Rattle.rule_exn.proofs.KeepsFlag.{flag_stays}
use Rattle.rule_exn.proofs.SoundParts.{SameKind}
use Rattle.rule_exn.proofs.Sound.{takes_sound}

-- the flag begins as `#f`
zero_by_name : (k : Kind) (bs : List Binder) → (kind_of bs thrown_local ≡ Some BoolKind → zero_locals bs thrown_local ≡ Truth false) → (t : Bool) →
    cond t (Some k) (kind_of bs thrown_local) ≡ Some BoolKind → cond t (zero_word_at k) (zero_locals bs thrown_local) ≡ Truth false
zero_by_name k bs h true e = ap zero_word_at (some_is e)
zero_by_name k bs h false e = h e

zero_flag : (bs : List Binder) → kind_of bs thrown_local ≡ Some BoolKind → zero_locals bs thrown_local ≡ Truth false
zero_flag [] h = none_is h
zero_flag (b ∷ bs) h = zero_by_name b.kind bs (zero_flag bs) (same_name b.name thrown_local) h

bound_flag : (xs : List Name) (vs : List Value) (env : Env) → is_among thrown_local xs ≡ false → bound xs vs env thrown_local ≡ env thrown_local
bound_flag [] vs env h = refl
bound_flag (x ∷ xs) [] env h = refl
bound_flag (x ∷ xs) (v ∷ vs) env h =
    let d = or_parts (same_name thrown_local x) (is_among thrown_local xs) h in
    bound_flag xs vs (with_name x v env) d.1 ∙ flag_stays x v env d.0

returned_alike : (k : Option Kind) (m n : Machine) → (b : Bool) → Flagged b m n → (let r : Returned = record { result = result_of k n; state = n.state } in r) ≡ record { result = result_of k m; state = m.state }
returned_alike None m n b f = ap (λ (s : State). let r : Returned = record { result = None; state = s } in r) f.others.state
returned_alike (Some k) m n b f =
    ap₂ (λ (v : Value) (s : State). let r : Returned = record { result = Some v; state = s } in r) (f.others.locals _ refl) f.others.state

ended_alike : (k : Option Kind) (f f' : Flow) → Shows f f' → Corresponds (λ a b. b ≡ a) SameKind (ended k f) (ended k f')
ended_alike k (Normal m) (Normal n) h = done_corresponds (λ a b. b ≡ a) SameKind _ _ (returned_alike k m n false h)
ended_alike k (Abrupt m) (Normal n) h = done_corresponds (λ a b. b ≡ a) SameKind _ _ (returned_alike k m n true h)
ended_alike _ _ _ h = absurd h

-- what both units have under a name
abbrev BothFound : Option SimplFn → Option SimplFn → Type 0
BothFound None None = Unit {0}
BothFound (Some f) (Some g) = LeavesFlag f × IsTakenTo f g
BothFound None (Some g) = ⊥
BothFound (Some f) None = ⊥

by_name : (f g : SimplFn) (fs gs : List SimplFn) (x : Name) → BothFound (Some f) (Some g) → BothFound (simpl_fn fs x) (simpl_fn gs x) → (b : Bool) →
    BothFound (cond b (Some f) (simpl_fn fs x)) (cond b (Some g) (simpl_fn gs x))
by_name f g fs gs x h k true = h
by_name f g fs gs x h k false = k

both_found : (fs gs : List SimplFn) → AllLeaveFlag fs → AreTakenTo fs gs → (x : Name) → BothFound (simpl_fn fs x) (simpl_fn gs x)
both_found [] [] h k x = tt
both_found [] (g ∷ gs) h k x = absurd k
both_found (f ∷ fs) [] h k x = absurd k
both_found (f ∷ fs) (g ∷ gs) h k x =
    let found : Bool → Name → Type 0 = λ b y. BothFound (cond b (Some f) (simpl_fn fs x)) (cond (same_name y x) (Some g) (simpl_fn gs x)) in
    subst (found (same_name f.name x)) (sym k.0.name) (by_name f g fs gs x (h.0, k.0) (both_found fs gs h.1 k.1 x) (same_name f.name x))

abbrev TakesNoFlag : Option Signature → Type 0
TakesNoFlag None = Unit {0}
TakesNoFlag (Some s) = is_among thrown_local (names_of s.params) ≡ false

one_or_rest : (b : Bool) (s o : Option Signature) → TakesNoFlag s → TakesNoFlag o → TakesNoFlag (cond b s o)
one_or_rest true s o h k = h
one_or_rest false s o h k = k

no_flag_taken : (ss : List Signature) → NoneTakesFlag ss → (x : Name) → TakesNoFlag (signature ss x)
no_flag_taken [] h x = tt
no_flag_taken (s ∷ ss) h x = one_or_rest (same_name s.name x) (Some s) (signature ss x) h.0 (no_flag_taken ss h.1 x)

module _ (l : Layout) (p : Choice) where
  begins : (f : SimplFn) (s : Signature) → LeavesFlag f → is_among thrown_local (names_of s.params) ≡ false → (c : Invocation) →
      let m : Machine = machine_with (bound (names_of s.params) c.arguments (zero_locals f.locals)) c.state in Flagged false m m
  begins f s h k c = record {
    others = record { locals = λ y e. refl; state = refl };
    flag = bound_flag (names_of s.params) c.arguments (zero_locals f.locals) k ∙ zero_flag f.locals h.is_truth;
  }

  function_alike : (o o' : Option SimplFn) → BothFound o o' → (s : Option Signature) → TakesNoFlag s → (depth : Option ℕ) (fs gs : List Runs) → Paired RunAlike fs gs → (c : Invocation) →
      Corresponds (λ a b. b ≡ a) SameKind (function_runs l p o s depth fs c) (function_runs l p o' s depth gs c)
  function_alike (Some f) (Some g) h (Some s) k depth fs gs r c =
      subst (λ bs. Corresponds (λ a b. b ≡ a) SameKind (function_runs l p (Some f) (Some s) depth fs c)
      (Then (execs l p bs g.body depth gs (machine_with (bound (names_of s.params) c.arguments (zero_locals bs)) c.state)) (ended s.result))) (sym h.1.locals)
      (then_corresponds Shows (λ a b. b ≡ a) SameKind _ _ _ _ (takes_sound l p h.1.tree f.body g.body h.1.takes h.0.unnamed f.locals depth fs gs r _ _ (begins f s h.0 k c)) (ended_alike s.result))
  function_alike (Some f) (Some g) h None k depth fs gs r c = stop_corresponds (λ a b. b ≡ a) SameKind Turns
  function_alike None None h s k depth fs gs r c = stop_corresponds (λ a b. b ≡ a) SameKind Turns
  function_alike _ _ h _ _ _ _ _ _ _ = absurd h

module _ (u v : SimplUnit) (flag : HasUnusedFlag u) (taken : IsUnitTakenTo u v) (p : Choice) where
  bodies_alike : (fs gs : List Runs) → Paired RunAlike fs gs → RunAlike (bodies u p fs) (bodies v p gs)
  bodies_alike fs gs r depth c c' e =
      subst (λ d. Corresponds (λ a b. b ≡ a) SameKind (bodies u p fs depth c) (bodies v p gs depth d)) (sym e)
      (subst (λ l. Corresponds (λ a b. b ≡ a) SameKind (bodies u p fs depth c) (function_runs l p (simpl_fn v.functions c.name) (signature v.signatures c.name) depth gs c)) (sym taken.layout)
      (subst (λ ss. Corresponds (λ a b. b ≡ a) SameKind (bodies u p fs depth c) (function_runs u.layout p (simpl_fn v.functions c.name) (signature ss c.name) depth gs c)) (sym taken.signatures)
      (function_alike u.layout p (simpl_fn u.functions c.name) (simpl_fn v.functions c.name) (both_found u.functions v.functions flag.functions taken.functions c.name) (signature u.signatures c.name)
      (no_flag_taken u.signatures flag.signatures c.name) depth fs gs r c)))

  below_alike : (n : ℕ) → Paired RunAlike (functions_below u p n) (functions_below v p n)
  below_alike n = below_corresponds (λ c d. d ≡ c) (λ a b. b ≡ a) SameKind (bodies u p) (bodies v p) bodies_alike n

pub units_run_alike : (u v : SimplUnit) → HasUnusedFlag u → IsUnitTakenTo u v → UnitsRunAlike u v
units_run_alike u v flag taken = record {
  below = below_alike u v flag taken;
  runs = λ p n. bodies_alike u v flag taken p _ _ (below_alike u v flag taken p n);
}
