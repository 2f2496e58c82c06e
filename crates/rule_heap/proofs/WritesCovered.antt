-- Each write of a right side that a run reaches has a covered root and a path in range, wherever the facts hold: on either heap.
use Rattle.std.proofs.Common.{◌≡◌, ℕ, Bool, true, false, ◌||◌, List, [], ◌∷◌, ◌++◌, Option, refl, sym, subst}
use Rattle.std.proofs.lemmas.Bool.{or_parts, not_from_false}
use Rattle.correspondence.specs.Outcome.{Done}
use Rattle.c_values.specs.Name.{Name}
use Rattle.c_values.specs.Types.{CType}
use Rattle.c_values.specs.Layout.{Layout, shape_of}
use Rattle.c_values.specs.Choice.{Choice}
use Rattle.expression_lang.specs.Expression as E
use Rattle.expression_lang.specs.Expression.{Exp, Path}
use Rattle.expression_lang.specs.Form.{has, path_has, is_read}
use Rattle.expression_lang.specs.Evaluation.{Env, State, holds}
use Rattle.expression_lang.specs.Signature.{bound}
use Rattle.ac_expr.specs.Fact.{Fact, Whole, NotTrue, AllSay}
use Rattle.ac_expr.proofs.KnownHolds.{known_holds}
use Rattle.monad_lang.specs.Program as M
use Rattle.monad_lang.specs.Program.{Mon, Start}
use Rattle.monad_lang.specs.Form.{start_has, program_has, is_written}
use Rattle.monad_lang.specs.Run.{Answer, Runs, runs, start_names, start_values}
use Rattle.monad_lang.specs.Reach.{AtEach, EachTurn, IsTurn, IfTrue, IfFalse}
use Rattle.monad_lang.specs.Steady.{WriteCovered}
use Rattle.program_facts.specs.Lasting.{AllKeepTags}
use Rattle.program_facts.specs.Flow.{facts_after}
use Rattle.program_facts.proofs.FactsAfter.{facts_after_hold}
use Rattle.rule_trees.specs.RuleTree.{Tree, AllHold}
use Rattle.rule_trees.proofs.Induction.{holds as accepted_holds}
use Rattle.rule_heap.specs.Rule as R
use Rattle.rule_heap.specs.Rule.{Rule, Claim, OfProgram, OfExp}
use Rattle.rule_heap.specs.Table.{each, IsPlace, row, table, Takes}
use Rattle.rule_parts.specs.Starts.{start_exps}
use Rattle.rule_heap.proofs.InRange.{leads_there}
use Rattle.rule_heap.proofs.ExpForms.{has_some}

if_true : (b : Bool) (P : Type 0) → (b ≡ true → P) → IfTrue b P
if_true true P h = h refl
if_true false P h = tt

if_false : (b : Bool) (P : Type 0) → (b ≡ false → P) → IfFalse b P
if_false true P h = tt
if_false false P h = h refl

-- each turn that is made, over functions of which something is known
turns_have : (K : List Runs → Type 0) → ((f : Runs) (fs : List Runs) → K (f ∷ fs) → K fs) → (turns : Answer → Type 0) (P : List Runs → Answer → Type 0) (next : List Runs → Answer → Answer → Type 0) →
    ((fs : List Runs) → K fs → (a : Answer) → turns a → P fs a) → (fs : List Runs) → K fs → (a : Answer) → EachTurn turns P next fs a
turns_have K rest turns P next h [] k a = tt
turns_have K rest turns P next h (f ∷ fs) k a = λ t. (h fs (rest f fs k) a t, λ b e. turns_have K rest turns P next h fs (rest f fs k) b)

module _ (l : Layout) (p : Choice) where
  abbrev pub AreCovered : Mon → Env → Option ℕ → List Runs → State → Type 0
  AreCovered m env depth gs s = AtEach l p (WriteCovered l) m env depth gs s

  abbrev pub Covers : List Fact → Mon → Type 1
  Covers fs m = (env : Env) (depth : Option ℕ) (gs : List Runs) (s : State) → AllKeepTags gs → AllSay l env s fs → AreCovered m env depth gs s

  bind : (fs : List Fact) (m n : Mon) (xs : List Name) → Covers fs m → Covers (facts_after m xs fs) n → Covers fs (M.Bind m xs n)
  bind fs m n xs hm hn env depth gs s tags said =
      (hm env depth gs s tags said, λ a e. hn (bound xs a.values env) depth gs a.state tags (facts_after_hold l p m xs fs env depth gs tags s said a e))

  choice : (fs : List Fact) (e : Exp) (m n : Mon) → Covers (Whole e ∷ fs) m → Covers (NotTrue e ∷ fs) n → Covers fs (M.If e m n)
  choice fs e m n hm hn env depth gs s tags said =
      (if_true (holds l env s e) _ (λ h. hm env depth gs s tags (h, said)), if_false (holds l env s e) _ (λ h. hn env depth gs s tags (not_from_false (holds l env s e) h, said)))

  repeat : (fs : List Fact) (starts : List Start) (g t : Exp) (m : Mon) → Covers (Whole t ∷ Whole g ∷ []) m → Covers fs (M.Loop starts g t m)
  repeat fs starts g t m hm env depth gs s tags said =
      turns_have AllKeepTags (λ f fs k. k.1) (λ a. IsTurn l g t (bound (start_names starts) a.values env) a.state) (λ fs a. AreCovered m (bound (start_names starts) a.values env) depth fs a.state)
      (λ fs a b. runs l p m (bound (start_names starts) a.values env) depth fs a.state (Done b))
      (λ fs k a turn. hm (bound (start_names starts) a.values env) depth fs a.state k (turn.1, (turn.0, tt))) gs tags (record { values = start_values l env s starts; state = s })

  write : (fs : List Fact) (t : CType) (q : Exp) (path : Path) (e : Exp) → IsPlace l fs t q path → Covers fs (M.Write (M.Written t q path) e)
  write fs t q path e place env depth gs s tags said =
      let leads = leads_there l env s fs said path (shape_of l t) place.1 in (known_holds l env s fs (E.Tagged t q) said place.0, leads.range)

  -- a program that writes no typed heap
  writes_nothing : (m : Mon) → program_has is_read is_written m ≡ false → (env : Env) (depth : Option ℕ) (gs : List Runs) (s : State) → AreCovered m env depth gs s
  writes_nothing (M.Bind m xs n) h env depth gs s =
      let o = or_parts (program_has is_read is_written m) (program_has is_read is_written n) h in
      (writes_nothing m o.0 env depth gs s, λ a e. writes_nothing n o.1 (bound xs a.values env) depth gs a.state)
  writes_nothing (M.If e m n) h env depth gs s =
      let o = or_parts (has is_read e || program_has is_read is_written m) (program_has is_read is_written n) h in
      let o' = or_parts (has is_read e) (program_has is_read is_written m) o.0 in
      (if_true (holds l env s e) _ (λ k. writes_nothing m o'.1 env depth gs s), if_false (holds l env s e) _ (λ k. writes_nothing n o.1 env depth gs s))
  writes_nothing (M.Write (M.Written t q path) e) h env depth gs s = absurd (has_some (has is_read q || path_has is_read path) (has is_read e) h)
  writes_nothing (M.Loop starts g t m) h env depth gs s =
      let o = or_parts (start_has is_read starts || has is_read g || has is_read t) (program_has is_read is_written m) h in
      turns_have (λ fs. Unit {0}) (λ f fs k. tt) (λ a. IsTurn l g t (bound (start_names starts) a.values env) a.state) (λ fs a. AreCovered m (bound (start_names starts) a.values env) depth fs a.state)
      (λ fs a b. runs l p m (bound (start_names starts) a.values env) depth fs a.state (Done b))
      (λ fs k a turn. writes_nothing m o.1 (bound (start_names starts) a.values env) depth fs a.state) gs tt (record { values = start_values l env s starts; state = s })
  writes_nothing _ _ _ _ _ _ = tt

  abbrev IsCovered : Claim → Type 1
  IsCovered (OfProgram fs a b) = program_has is_read is_written a ≡ false → Covers fs b
  IsCovered (OfExp fs a b) = Unit {1}

  abbrev AllAre : List Claim → Type 1
  AllAre = AllHold IsCovered

  -- the claims behind those of expressions
  behind : (fs : List Fact) (as' bs : List Exp) (ds : List Claim) → AllAre (each fs as' bs ++ ds) → AllAre ds
  behind fs (a ∷ as') (b ∷ bs) ds h = behind fs as' bs ds h.1
  behind fs [] bs ds h = h
  behind fs (a ∷ as') [] ds h = h

  row_covers : (fs : List Fact) (rule : Rule) (a b : Mon) → (row l fs rule a b).holds → AllAre (row l fs rule a b).parts → program_has is_read is_written a ≡ false → Covers fs b
  row_covers fs R.Ret (M.Ret es) (M.Ret es') e h k = λ env depth gs s tags said. tt
  row_covers fs R.Bind (M.Bind m xs n) (M.Bind m' ys n') e h k =
      let o = or_parts (program_has is_read is_written m) (program_has is_read is_written n) k in
      subst (λ zs. Covers fs (M.Bind m' zs n')) (sym e) (bind fs m' n' xs (h.0 o.0) (h.1.0 o.1))
  row_covers fs R.Guard (M.Guard v) (M.Guard v') e h k = λ env depth gs s tags said. tt
  row_covers fs R.If (M.If v m n) (M.If v' m' n') e h k =
      let o = or_parts (has is_read v || program_has is_read is_written m) (program_has is_read is_written n) k in
      let o' = or_parts (has is_read v) (program_has is_read is_written m) o.0 in choice fs v' m' n' (h.1.0 o'.1) (h.1.1.0 o.1)
  row_covers fs R.Global (M.Write (M.Global x path) v) (M.Write (M.Global y way) v') e h k = λ env depth gs s tags said. tt
  row_covers fs R.Loop (M.Loop starts g t m) (M.Loop starts' g' t' m') e h k =
      let o = or_parts (start_has is_read starts || has is_read g || has is_read t) (program_has is_read is_written m) k in
      let parts = behind fs (start_exps starts) (start_exps starts') (OfExp [] g g' ∷ OfExp (Whole g' ∷ []) t t' ∷ OfProgram (Whole t' ∷ Whole g' ∷ []) m m' ∷ []) h in
      repeat fs starts' g' t' m' (parts.1.1.0 o.1)
  row_covers fs R.Call (M.Call f es) (M.Call g es') e h k = λ env depth gs s tags said. tt
  row_covers fs R.Pick (M.Pick i) (M.Pick j) e h k = λ env depth gs s tags said. tt
  row_covers fs R.Write (M.Write (M.Stored t q path) v) (M.Write (M.Written u r way) v') e h k =
      subst (λ z. IsPlace l fs z r way → Covers fs (M.Write (M.Written z r way) v')) (sym e.0) (write fs t r way v') (subst (λ z. IsPlace l fs z r way) (sym e.0) e.2)
  row_covers fs R.Pointer (M.Bind (M.Guard (E.PtrOk t q)) [] (M.Bind (M.Guard (E.Tagged u r)) [] m)) (M.Bind (M.Guard (E.Tagged v q')) [] m') e h k =
      let o = or_parts (has is_read q) (has is_read r || program_has is_read is_written m) k in
      let o' = or_parts (has is_read r) (program_has is_read is_written m) o.1 in
      subst (λ z. Covers fs (M.Bind (M.Guard (E.Tagged z q')) [] m')) (sym e.2) (bind fs (M.Guard (E.Tagged t q')) m' [] (λ env depth gs s tags said. tt) (h.1.0 o'.1))
  row_covers fs (R.Drop r) (M.Bind (M.Guard (E.PtrOk t q)) [] m) m' e h k =
      let o = or_parts (has is_read q) (program_has is_read is_written m) k in h.1.0 o.1
  row_covers fs R.Same m m' e h k = subst (λ z. Covers fs z) (sym e.1) (λ env depth gs s tags said. writes_nothing m k env depth gs s)
  row_covers fs _ _ _ e h k = absurd e

  claim_covers : (rule : Rule) (c : Claim) → (table l rule c).holds → AllAre (table l rule c).parts → IsCovered c
  claim_covers rule (OfProgram fs a b) e h = row_covers fs rule a b e h
  claim_covers rule (OfExp fs a b) e h = tt

  pub takes_covers : (fs : List Fact) (t : Tree Rule) (a b : Mon) → Takes l fs t a b → program_has is_read is_written a ≡ false → Covers fs b
  takes_covers fs t a b h = accepted_holds (table l) IsCovered claim_covers t (OfProgram fs a b) h
