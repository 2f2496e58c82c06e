-- How the rest of a run follows, where the right side binds what the left side's locals hold.
use Rattle.std.proofs.Common.{◌≡◌, ℕ, zero, suc, Bool, true, false, not, ◌&&◌, ◌||◌, List, [], ◌∷◌, Option, Some, None, refl, sym, subst, ap, ap₂, ◌∙◌}
use Rattle.std.proofs.lemmas.Bool.{true≢false, false_from_ne_true, and_from, or_left, or_right, not_from_false, cond-true}
use Rattle.correspondence.specs.Outcome.{Ends, Turns, Depth, done, fault, Then, choose}
use Rattle.correspondence.specs.Bound.{Functions, called, below}
use Rattle.correspondence.specs.Corresponds.{Corresponds, Paired}
use Rattle.correspondence.proofs.Corresponds.{done_corresponds, fault_corresponds, stop_corresponds, choose_corresponds, then_corresponds, any_corresponds}
use Rattle.correspondence.proofs.Steps.{same_on_right, after_done, after_fault}
use Rattle.c_values.specs.Name.{Name, same_name, with_name, is_among}
use Rattle.c_values.specs.Choice.{Choice, Any, Fill, picked}
use Rattle.c_values.specs.Value.{Value, Bits}
use Rattle.c_values.specs.Word.{IsWord}
use Rattle.c_values.specs.Layout.{Layout}
use Rattle.c_values.proofs.Laid.{same_name-refl}
use Rattle.c_values.proofs.Options.{some_is, none_is}
use Rattle.expression_lang.specs.Expression.{Exp}
use Rattle.expression_lang.specs.Evaluation.{Env, State, value}
use Rattle.expression_lang.specs.GuardKind.{GuardKind}
use Rattle.expression_lang.specs.Sort.{Kind, WordKind, NatKind, IntKind, BoolKind}
use Rattle.expression_lang.specs.View.{IsTruth, picked_at, picked_word_at, zero_word_at}
use Rattle.expression_lang.specs.Machine.{Machine, machine_with, Returned}
use Rattle.expression_lang.specs.Signature.{Binder, Signature, values_of, bound}
use Rattle.simpl_lang.specs.Command.{Condition, Simpl, kind_of}
use Rattle.simpl_lang.specs.Exec.{Flow, holds_on, checked, picked_local, result_into}
use Rattle.monad_lang.specs.Run.{Answer, Failure, start_names, start_values}
use Rattle.monad_lang.specs.Names.{is_in_some, is_in_start}
use Rattle.rule_local.specs.Assigned.{assigns, Carries}
use Rattle.rule_local.specs.Table.{vars, as_starts, conj, word_kind, picked_kind, zero_exp, zero_first, zeros}
use Rattle.monad_lang.specs.Agree.{AgreeOn}
use Rattle.rule_local.specs.Agree.{held, GivesAt}
use Rattle.rule_local.specs.Kept.{Related, BothFail, HasEach, IsFilled, FitsCall, FitsTarget}
use Rattle.monad_lang.proofs.Agreeing.{agree_left, agree_right}
use Rattle.rule_local.proofs.Bound.{bound_is}
use Rattle.rule_local.proofs.Stays.{HasAt}
use Rattle.rule_local.proofs.Signed.{HasResult, IsSigned}

abbrev pub Same : {A : Type 0} → A → A → Type 0
Same a b = b ≡ a

-- what the command doesn't assign is as it was
abbrev pub Stays : Simpl → Machine → Flow → Type 0
Stays a m f = (y : Name) → assigns y a ≡ false → HasAt y (m.locals y) f

-- calls, where how answers are related depends on the call
module _ {Call A B F G : Type 0} (calls : Call → Call → Type 0) (answers : Call → A → B → Type 0) (faults : F → G → Type 0) where
  abbrev Alike : Functions Call A F → Functions Call B G → Type 0
  Alike = Related calls answers faults

  pub called_related : (fs : List (Functions Call A F)) (gs : List (Functions Call B G)) → Paired Alike fs gs → (depth : Option ℕ) (c c' : Call) → calls c c' →
      Corresponds (answers c) faults (called fs depth c) (called gs depth c')
  called_related [] [] p depth c c' h = stop_corresponds (answers c) faults Turns
  called_related (f ∷ fs) (g ∷ gs) p None c c' h = p.0 None c c' h
  called_related (f ∷ fs) (g ∷ gs) p (Some zero) c c' h = stop_corresponds (answers c) faults Depth
  called_related (f ∷ fs) (g ∷ gs) p (Some (suc depth)) c c' h = p.0 (Some depth) c c' h
  called_related [] (g ∷ gs) p depth c c' h = absurd p
  called_related (f ∷ fs) [] p depth c c' h = absurd p

  pub below_related : (bodies : List (Functions Call A F) → Functions Call A F) (bodies' : List (Functions Call B G) → Functions Call B G) →
      ((fs : List (Functions Call A F)) (gs : List (Functions Call B G)) → Paired Alike fs gs → Alike (bodies fs) (bodies' gs)) → (n : ℕ) → Paired Alike (below bodies n) (below bodies' n)
  below_related bodies bodies' h zero = tt
  below_related bodies bodies' h (suc n) = let p : Paired Alike (below bodies n) (below bodies' n) = below_related bodies bodies' h n in (h _ _ p, p)

-- picks

picked_alike : (p : Choice) (n : ℕ) → Corresponds {F = GuardKind} {G = Failure} Same BothFail (picked p n) (picked p n)
picked_alike Any n = any_corresponds Same BothFail (IsWord n) (IsWord n) (λ w h. (w, refl, h)) (λ w h. (w, refl, h))
picked_alike (Fill k) n = done_corresponds Same BothFail _ _ refl

words_alike : (p : Choice) (n : ℕ) → Corresponds {F = GuardKind} {G = Failure} Same BothFail (picked_at p (WordKind n)) (picked_at p (WordKind n))
words_alike p n = then_corresponds Same Same BothFail _ _ _ _ (picked_alike p n) (λ w w' e. done_corresponds Same BothFail (Bits w) (Bits w') (ap (λ u. Bits u) e))

truths_alike : (p : Choice) → Corresponds {F = GuardKind} {G = Failure} Same BothFail (picked_at p BoolKind) (picked_at p BoolKind)
truths_alike Any = any_corresponds Same BothFail IsTruth IsTruth (λ w h. (w, refl, h)) (λ w h. (w, refl, h))
truths_alike (Fill k) = done_corresponds Same BothFail _ _ refl

kind_alike : (p : Choice) (k : Kind) → Corresponds {F = GuardKind} {G = Failure} Same BothFail (picked_word_at p k) (picked_at p (word_kind k))
kind_alike p (WordKind n) = words_alike p n
kind_alike p (NatKind n) = words_alike p n
kind_alike p (IntKind n) = words_alike p n
kind_alike p BoolKind = truths_alike p

pub picks_alike : (p : Choice) (o : Option Kind) (k : Kind) → picked_kind o ≡ Some k → Corresponds {F = GuardKind} {G = Failure} Same BothFail (picked_local p o) (picked_at p k)
picks_alike p None k h = none_is h
picks_alike p (Some j) k h = subst (λ i. Corresponds {F = GuardKind} {G = Failure} Same BothFail (picked_word_at p j) (picked_at p i)) (some_is h) (kind_alike p j)

-- guards

pub guarded : (vs : List Name) (b b' : Bool) (k : GuardKind) (x : Answer) (p : Ends Flow GuardKind) (r : Answer → Ends Answer Failure) → b' ≡ b → Corresponds (GivesAt vs) BothFail p (r x) →
    Corresponds (GivesAt vs) BothFail (choose b p (fault k)) (Then (choose b' (done x) (fault tt)) r)
guarded vs b b' k x p r e c = subst (λ t. Corresponds (GivesAt vs) BothFail (choose b p (fault k)) (Then (choose t (done x) (fault tt)) r)) (sym e) (by_test b)
  where
    by_test : (t : Bool) → Corresponds (GivesAt vs) BothFail (choose t p (fault k)) (Then (choose t (done x) (fault tt)) r)
    by_test true = same_on_right (after_done x r) c
    by_test false = same_on_right (after_fault tt r) (fault_corresponds (GivesAt vs) BothFail k tt tt)

module _ {A B : Type 0} (answers : A → B → Type 0) (l : Layout) (m : Machine) (p : Ends A GuardKind) (q : Ends B Failure) (c : Corresponds answers BothFail p q) where
  both_hold : (b b' : Bool) (k : GuardKind) (o : Ends A GuardKind) → Corresponds answers BothFail o (choose b' q (fault tt)) →
      Corresponds answers BothFail (choose b o (fault k)) (choose (b && b') q (fault tt))
  both_hold true b' k o d = d
  both_hold false b' k o d = fault_corresponds answers BothFail k tt tt

  -- conditions in order, and all of them as one
  pub checked_at_once : (gs : List Condition) → Corresponds answers BothFail (checked l gs m p) (choose (holds_on l m (conj gs)) q (fault tt))
  checked_at_once [] = c
  checked_at_once (g ∷ []) = choose_corresponds answers BothFail (holds_on l m g.exp) (holds_on l m g.exp) _ _ _ _ refl (λ t. c) (λ t. fault_corresponds answers BothFail g.kind tt tt)
  checked_at_once (g ∷ h ∷ gs) = both_hold (holds_on l m g.exp) (holds_on l m (conj (h ∷ gs))) g.kind _ (checked_at_once (h ∷ gs))

-- what is bound

module _ (us : List Name) (given : List Value) (env after : Env) (h : given ≡ held us after) where
  pub rebound : (test : Name → Bool) → ((y : Name) → test y ≡ true → is_among y us ≡ false → env y ≡ after y) → AgreeOn test (bound us given env) after
  rebound test k y t = subst (λ vs. bound us vs env y ≡ after y) (sym h) (bound_is after y us env (k y t))

-- a free name of what follows that isn't bound again
pub free_after : {A : Type 0} (p q : Name → Bool) (us : List Name) (env before : Name → A) → AgreeOn (λ y. p y || (not (is_among y us) && q y)) env before → (y : Name) → q y ≡ true → is_among y us ≡ false → env y ≡ before y
free_after p q us env before h y k d = h y (or_right (p y) (not (is_among y us) && q y) (and_from (not (is_among y us)) (q y) (not_from_false (is_among y us) d) k))

-- what is needed and isn't handed on isn't assigned
pub unassigned : (us : List Name) (a : Simpl) (needed : Name → Bool) → Carries us a needed → (y : Name) → needed y ≡ true → is_among y us ≡ false → assigns y a ≡ false
unassigned us a needed c y k d = false_from_ne_true (assigns y a) (λ t. true≢false (sym (c y t k) ∙ d))

pub set_held : (x : Name) (v v' : Value) (env : Env) → v' ≡ v → (let vs : List Value = v' ∷ [] in vs) ≡ held (x ∷ []) (with_name x v env)
set_held x v v' env e = ap (λ u. u ∷ []) (e ∙ sym (cond-true (same_name x x) v (env x) (same_name-refl x)))

pub in_vars : (y : Name) (vs : List Name) → is_in_some y (vars vs) ≡ is_among y vs
in_vars y [] = refl
in_vars y (x ∷ xs) = ap (λ b. same_name y x || b) (in_vars y xs)

pub starts_named : (us : List Name) → start_names (as_starts us) ≡ us
starts_named [] = refl
starts_named (x ∷ xs) = ap (λ ys. x ∷ ys) (starts_named xs)

pub starts_held : (l : Layout) (s : State) (us : List Name) (env env' : Env) → AgreeOn (λ y. is_in_start y (as_starts us)) env env' → start_values l env s (as_starts us) ≡ held us env'
starts_held l s [] env env' h = refl
starts_held l s (x ∷ xs) env env' h =
    ap₂ (λ u us. u ∷ us) (agree_left (λ y. same_name y x) (λ y. is_in_start y (as_starts xs)) env env' h x (same_name-refl x))
    (starts_held l s xs env env' (agree_right (λ y. same_name y x) (λ y. is_in_start y (as_starts xs)) env env' h))

-- zeros

module _ (l : Layout) (s : State) (env locals : Env) where
  zero_is : (k : Kind) → value l env s (zero_exp k) ≡ zero_word_at k
  zero_is (WordKind n) = refl
  zero_is _ = refl

  one_more : (x : Name) (xs : List Name) (o : Option Kind) (r : Option (List Exp)) (zs : List Exp) → zero_first o r ≡ Some zs →
      ((k : Kind) → o ≡ Some k → locals x ≡ zero_word_at k) → ((es : List Exp) → r ≡ Some es → values_of l env s es ≡ held xs locals) → values_of l env s zs ≡ held (x ∷ xs) locals
  one_more x xs (Some k) (Some es) zs e h j =
      subst (λ z. values_of l env s z ≡ held (x ∷ xs) locals) (some_is e) (ap₂ (λ v vs. v ∷ vs) (zero_is k ∙ sym (h k refl)) (j es refl))
  one_more x xs None r zs e h j = none_is e
  one_more x xs (Some k) None zs e h j = none_is e

  pub zeros_held : (bs : List Binder) (xs : List Name) (zs : List Exp) → zeros bs xs ≡ Some zs → ((x : Name) (k : Kind) → is_among x xs ≡ true → kind_of bs x ≡ Some k → locals x ≡ zero_word_at k) →
      values_of l env s zs ≡ held xs locals
  zeros_held bs [] zs e h = subst (λ z. values_of l env s z ≡ []) (some_is e) refl
  zeros_held bs (x ∷ xs) zs e h =
      one_more x xs (kind_of bs x) (zeros bs xs) zs e (λ k. h x k (or_left (same_name x x) (is_among x xs) (same_name-refl x)))
      (λ es e'. zeros_held bs xs es e' (λ y k t. h y k (or_right (same_name y x) (is_among y xs) t)))

-- calls

each_filled : (l : Layout) (env : Env) (s : State) (bs : List Binder) (es : List Exp) → HasEach bs es → HasEach bs (values_of l env s es)
each_filled l env s [] es h = tt
each_filled l env s (b ∷ bs) [] h = absurd h
each_filled l env s (b ∷ bs) (e ∷ es) h = each_filled l env s bs es h

pub call_filled : (l : Layout) (env : Env) (s : State) (sig : Option Signature) (x : Option Name) (es : List Exp) → FitsCall sig x es → IsFilled sig (values_of l env s es)
call_filled l env s None x es h = absurd h
call_filled l env s (Some sig) x es h = each_filled l env s sig.params es h.0

-- where the call has a target there is a result
pub result_there : (sig : Option Signature) (x : Name) (es : List Exp) (r : Option Value) → FitsCall sig (Some x) es → IsSigned sig r → (v : Value) × (r ≡ Some v)
result_there None x es r h k = absurd h
result_there (Some sig) x es r h k = there sig.result r h.1 k
  where
    there : (o : Option Kind) (r : Option Value) → FitsTarget (Some x) o → HasResult o r → (v : Value) × (r ≡ Some v)
    there None r h k = absurd h
    there (Some j) None h k = absurd k
    there (Some j) (Some v) h k = (v, refl)

pub into_target : (x : Name) (r : Returned) (v : Value) (locals : Env) → r.result ≡ Some v → result_into (Some x) r locals ≡ machine_with (with_name x v locals) r.state
into_target x r v locals h = subst (λ o. result_into (Some x) (record { result = o; state = r.state }) locals ≡ machine_with (with_name x v locals) r.state) (sym h) refl
