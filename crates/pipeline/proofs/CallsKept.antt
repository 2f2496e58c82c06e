-- What the rules of the last three steps take a program to calls no function but those that the
-- program calls.
use Rattle.std.proofs.Common.{◌≡◌, Bool, true, false, cond, ◌&&◌, List, [], ◌∷◌, ◌++◌, map, Option, Some, None, ◌⊎◌, inl, inr, refl, ap, ap₂, ◌∙◌}
use Rattle.std.proofs.lemmas.Bool.{and_parts, and_from}
use Rattle.c_values.specs.Name.{Name, is_among}
use Rattle.c_values.specs.Layout.{Layout}
use Rattle.expression_lang.specs.Expression as E
use Rattle.expression_lang.specs.Expression.{Exp}
use Rattle.expression_lang.specs.Sort.{Kind, WordKind}
use Rattle.ac_expr.specs.Fact.{Fact}
use Rattle.ac_expr.specs.Substituted.{substituted}
use Rattle.monad_lang.specs.Program as M
use Rattle.monad_lang.specs.Program.{Mon}
use Rattle.monad_lang.specs.Run.{start_names}
use Rattle.program_facts.specs.Substituted.{starts_substituted, program_substituted}
use Rattle.rule_parts.specs.Starts.{start_exps}
use Rattle.rule_trees.specs.RuleTree.{Tree, Accepts, AllHold}
use Rattle.rule_trees.proofs.Induction.{holds as accepted_holds}
use Rattle.monad_lang.specs.Calls.{calls_only}
use Rattle.rule_heap.specs.Rule as H
use Rattle.rule_heap.specs.Table as Heaps
use Rattle.rule_word.specs.Rule as W
use Rattle.rule_word.specs.Table as Words
use Rattle.rule_eq.specs.Rule as R
use Rattle.rule_eq.specs.Table as Equality

module _ (test : Name → Bool) where
  abbrev CallsPass : Mon → Type 0
  CallsPass m = calls_only test m ≡ true

  record KeepsCalls (m m' : Mon) : Type 1 where
    pub calls : CallsPass m → CallsPass m'

  -- of one that calls nothing
  no_calls : (m m' : Mon) → CallsPass m' → KeepsCalls m m'
  no_calls m m' h = record { calls = λ k. h }

  same_calls : (m m' : Mon) → m' ≡ m → KeepsCalls m m'
  same_calls m m' e = record { calls = λ h. ap (calls_only test) e ∙ h }

  same_function : (f g : Name) (es es' : List Exp) → g ≡ f → KeepsCalls (M.Call f es) (M.Call g es')
  same_function f g es es' e = record { calls = λ h. ap test e ∙ h }

  both : (m n : Mon) → calls_only test m && calls_only test n ≡ true → CallsPass m × CallsPass n
  both m n h = and_parts (calls_only test m) (calls_only test n) h

  in_bind : (m n m' n' : Mon) (xs xs' : List Name) → KeepsCalls m m' → KeepsCalls n n' →
      KeepsCalls (M.Bind m xs n) (M.Bind m' xs' n')
  in_bind m n m' n' xs xs' p q = record {
    calls = λ h. let k = both m n h in and_from _ _ (p.calls k.0) (q.calls k.1);
  }

  in_if : (e e' : Exp) (m n m' n' : Mon) → KeepsCalls m m' → KeepsCalls n n' →
      KeepsCalls (M.If e m n) (M.If e' m' n')
  in_if e e' m n m' n' p q = record {
    calls = λ h. let k = both m n h in and_from _ _ (p.calls k.0) (q.calls k.1);
  }

  behind : {Claim : Type 0} (P : Claim → Type 1) (cs ds : List Claim) → AllHold P (cs ++ ds) →
      AllHold P ds
  behind P [] ds h = h
  behind P (c ∷ cs) ds h = behind P cs ds h.1

  -- Heaps

  abbrev HeapsKeep : H.Claim → Type 1
  HeapsKeep (H.OfProgram fs m m') = KeepsCalls m m'
  HeapsKeep (H.OfExp fs a b) = Unit {1}

  module _ (l : Layout) where
    heap_row : (fs : List Fact) (rule : H.Rule) (m m' : Mon) → (Heaps.row l fs rule m m').holds →
        AllHold HeapsKeep (Heaps.row l fs rule m m').parts → KeepsCalls m m'
    heap_row fs H.Ret (M.Ret es) (M.Ret es') e s = no_calls (M.Ret es) (M.Ret es') refl
    heap_row fs H.Bind (M.Bind m xs n) (M.Bind m' xs' n') e s =
        in_bind m n m' n' xs xs' s.0 s.1.0
    heap_row fs H.Guard (M.Guard v) (M.Guard v') e s = no_calls (M.Guard v) (M.Guard v') refl
    heap_row fs H.If (M.If v m n) (M.If v' m' n') e s = in_if v v' m n m' n' s.1.0 s.1.1.0
    heap_row fs H.Global (M.Write (M.Global x path) v) (M.Write (M.Global y way) v') e s =
        no_calls (M.Write (M.Global x path) v) (M.Write (M.Global y way) v') refl
    heap_row fs H.Loop (M.Loop starts g t m) (M.Loop starts' g' t' m') e s =
        let each = Heaps.each fs (start_exps starts) (start_exps starts') in
        record { calls = (behind HeapsKeep each _ s).1.1.0.calls }
    heap_row fs H.Call (M.Call f es) (M.Call g es') e s = same_function f g es es' e.0
    heap_row fs H.Pick (M.Pick k) (M.Pick j) e s = no_calls (M.Pick k) (M.Pick j) refl
    heap_row fs H.Write (M.Write (M.Stored t p path) v) (M.Write (M.Written u q way) v') e s =
        no_calls (M.Write (M.Stored t p path) v) (M.Write (M.Written u q way) v') refl
    heap_row fs H.Pointer
        (M.Bind (M.Guard (E.PtrOk t p)) [] (M.Bind (M.Guard (E.Tagged u q)) [] m))
        (M.Bind (M.Guard (E.Tagged v p')) [] m') e s =
        record { calls = s.1.0.calls }
    heap_row fs (H.Drop q) (M.Bind (M.Guard (E.PtrOk t p)) [] m) m' e s =
        record { calls = s.1.0.calls }
    heap_row fs H.Same m m' e s = same_calls m m' e.1
    heap_row _ _ _ _ e s = absurd e

    heap_claim : (rule : H.Rule) (c : H.Claim) → (Heaps.table l rule c).holds →
        AllHold HeapsKeep (Heaps.table l rule c).parts → HeapsKeep c
    heap_claim rule (H.OfProgram fs m m') e s = heap_row fs rule m m' e s
    heap_claim rule (H.OfExp fs a b) e s = tt

    pub heap_calls : (fs : List Fact) (t : Tree H.Rule) (m m' : Mon) → Heaps.Takes l fs t m m' →
        calls_only test m ≡ true → calls_only test m' ≡ true
    heap_calls fs t m m' h =
        (accepted_holds (Heaps.table l) HeapsKeep heap_claim t (H.OfProgram fs m m') h).calls

  -- Words

  abbrev WordsKeep : W.Claim → Type 1
  WordsKeep (W.program at m m' ks) = KeepsCalls m m'
  WordsKeep (W.expression at e v a) = Unit {1}

  module _ (ctx : W.Context) where
    word_row : (at : W.Point) (rule : W.Rule) (m m' : Mon) (ks : List Kind) →
        (Words.program_row ctx at rule m m' ks).holds →
        AllHold WordsKeep (Words.program_row ctx at rule m m' ks).parts → KeepsCalls m m'
    word_row at W.Ret (M.Ret es) (M.Ret es') ks e s = no_calls (M.Ret es) (M.Ret es') refl
    word_row at W.Guard (M.Guard v) (M.Guard v') [] e s = no_calls (M.Guard v) (M.Guard v') refl
    word_row at W.If (M.If v m n) (M.If v' m' n') ks e s = in_if v v' m n m' n' s.1.0 s.1.1.0
    word_row at W.Global (M.Write (M.Global x path) v) (M.Write q v') [] e s =
        no_calls (M.Write (M.Global x path) v) (M.Write q v') refl
    word_row at W.Write (M.Write (M.Stored t p path) v) (M.Write q v') [] e s =
        no_calls (M.Write (M.Stored t p path) v) (M.Write q v') refl
    word_row at W.Write (M.Write (M.Written t p path) v) (M.Write q v') [] e s =
        no_calls (M.Write (M.Written t p path) v) (M.Write q v') refl
    word_row at W.Pick (M.Pick k) (M.Pick j) ks e s = no_calls (M.Pick k) (M.Pick j) refl
    word_row at W.PickNat (M.Pick (WordKind w)) (M.Pick j) ks e s =
        no_calls (M.Pick (WordKind w)) (M.Pick j) refl
    word_row at W.PickInt (M.Pick (WordKind w)) (M.Pick j) ks e s =
        no_calls (M.Pick (WordKind w)) (M.Pick j) refl
    word_row at (W.Bind js) (M.Bind m xs n) (M.Bind m' xs' n') ks e s =
        in_bind m n m' n' xs xs' s.0 s.1.0
    word_row at (W.Loop js) (M.Loop starts g t m) (M.Loop starts' g' t' m') ks e s =
        let es = start_exps starts in
        let each = Words.each at es (Words.views_for js) (start_exps starts') in
        record { calls = (behind WordsKeep each _ s).1.1.0.calls }
    word_row at W.Call (M.Call f es) (M.Call g es') ks e s = same_function f g es es' e.0
    word_row at (W.Recast js) m (M.Bind m' ys (M.Ret es)) ks e s =
        record { calls = λ h. and_from _ _ (s.0.calls h) refl }
    word_row _ _ _ _ _ e s = absurd e

    word_claim : (rule : W.Rule) (c : W.Claim) → (Words.table ctx rule c).holds →
        AllHold WordsKeep (Words.table ctx rule c).parts → WordsKeep c
    word_claim rule (W.program at m m' ks) e s = word_row at rule m m' ks e s
    word_claim rule (W.expression at v w a) e s = tt

    pub word_calls : (at : W.Point) (t : Tree W.Rule) (m m' : Mon) (ks : List Kind) →
        Accepts (Words.table ctx) t (W.program at m m' ks) → calls_only test m ≡ true →
        calls_only test m' ≡ true
    word_calls at t m m' ks h =
        (accepted_holds (Words.table ctx) WordsKeep word_claim t (W.program at m m' ks) h).calls

  -- Equality

  by_choice : (b : Bool) (m m' : Mon) (c : Bool) → calls_only test m ≡ c →
      calls_only test m' ≡ c → calls_only test (cond b m m') ≡ c
  by_choice true m m' c h k = h
  by_choice false m m' c h k = k

  -- what is put in place of a name calls nothing
  put_in : (x : Name) (e : Exp) (m : Mon) →
      calls_only test (program_substituted x e m) ≡ calls_only test m
  put_in x e (M.Bind m xs n) =
      let n' = program_substituted x e n in
      ap₂ (λ a b. a && b) (put_in x e m)
      (by_choice (is_among x xs) n n' (calls_only test n) refl (put_in x e n))
  put_in x e (M.If a m n) = ap₂ (λ a b. a && b) (put_in x e m) (put_in x e n)
  put_in x e (M.Loop starts guard test' m) =
      let begins = starts_substituted x e starts in
      let m' = program_substituted x e m in
      by_choice (is_among x (start_names starts)) (M.Loop begins guard test' m)
      (M.Loop begins (substituted x e guard) (substituted x e test') m')
      (calls_only test m) refl (put_in x e m)
  put_in _ _ _ = refl

  with_values_calls : (es : List Exp) (xs : List Name) (m : Mon) →
      calls_only test (Equality.with_values es xs m) ≡ calls_only test m
  with_values_calls [] xs m = refl
  with_values_calls (e ∷ es) xs m = refl

  taken_calls : (o : Option Equality.Taken) (es : List Exp) (xs : List Name) (m m' : Mon) →
      Equality.AreTaken o m m' → KeepsCalls (M.Bind (M.Ret es) xs m) m'
  taken_calls (Some k) es xs m m' h = record {
    calls = λ i.
        ap (calls_only test) h.1
        ∙ with_values_calls k.exps k.names (program_substituted k.name k.exp m)
        ∙ put_in k.name k.exp m ∙ i;
  }
  taken_calls None es xs m m' h = absurd h

  back_calls : (m : Mon) (xs : List Name) (n m' : Mon) →
      ((n ≡ M.Ret (map (λ x. E.Var x) xs)) × (m' ≡ m))
      ⊎ ((m ≡ M.Ret []) × (xs ≡ []) × (m' ≡ n)) →
      KeepsCalls (M.Bind m xs n) m'
  back_calls m xs n m' (inl h) =
      record { calls = λ i. ap (calls_only test) h.1 ∙ (both m n i).0 }
  back_calls m xs n m' (inr h) =
      record { calls = λ i. ap (calls_only test) h.2 ∙ (both m n i).1 }

  assoc_calls : (a b c : Mon) (xs ys : List Name) (m' : Mon) →
      m' ≡ M.Bind a xs (M.Bind b ys c) → KeepsCalls (M.Bind (M.Bind a xs b) ys c) m'
  assoc_calls a b c xs ys m' e = record {
    calls = λ i.
        let k = both (M.Bind a xs b) c i in
        let j = both a b k.0 in
        ap (calls_only test) e ∙ and_from _ _ j.0 (and_from _ _ j.1 k.1);
  }

  -- the same but for an expression
  apart_calls : (at : R.Point) (m m' : Mon) → Equality.ExpApart at m m' → KeepsCalls m m'
  apart_calls at (M.Ret es) (M.Ret es') h = no_calls (M.Ret es) (M.Ret es') refl
  apart_calls at (M.Guard e) (M.Guard e') h = no_calls (M.Guard e) (M.Guard e') refl
  apart_calls at (M.If e m n) (M.If e' m' n') h =
      in_if e e' m n m' n' (same_calls m m' h.0) (same_calls n n' h.1)
  apart_calls at (M.Write place e) (M.Write place' e') h =
      no_calls (M.Write place e) (M.Write place' e') refl
  apart_calls at (M.Loop starts g t m) (M.Loop starts' g' t' m') h =
      record { calls = (same_calls m m' h.0).calls }
  apart_calls at (M.Call f es) (M.Call g es') h = same_function f g es es' h.0
  apart_calls _ _ _ h = absurd h

  abbrev EqualKeep : R.Claim → Type 1
  EqualKeep (R.does at m m') = KeepsCalls m m'

  equal_row : (at : R.Point) (rule : R.Rule) (m m' : Mon) → (Equality.row at rule m m').holds →
      AllHold EqualKeep (Equality.row at rule m m').parts → KeepsCalls m m'
  equal_row at R.Refl m m' e s = same_calls m m' e
  equal_row at (R.Trans n) m m' e s = record { calls = λ h. s.1.0.calls (s.0.calls h) }
  equal_row at R.Bind (M.Bind m xs n) (M.Bind m' xs' n') e s = in_bind m n m' n' xs xs' s.0 s.1.0
  equal_row at R.If (M.If v m n) (M.If v' m' n') e s = in_if v v' m n m' n' s.0 s.1.0
  equal_row at R.Loop (M.Loop starts g t m) (M.Loop starts' g' t' m') e s =
      record { calls = s.0.calls }
  equal_row at (R.RetOne i) (M.Bind (M.Ret es) xs m) m' e s =
      taken_calls (Equality.taken_at i es xs) es xs m m' e
  equal_row at R.BindRet (M.Bind m xs n) m' e s = back_calls m xs n m' e
  equal_row at R.Assoc (M.Bind (M.Bind a xs b) ys c) m' e s = assoc_calls a b c xs ys m' e.1
  equal_row at R.IfConst (M.If (E.TruthLit true) m n) m' e s =
      record { calls = λ h. ap (calls_only test) e ∙ (both m n h).0 }
  equal_row at R.IfConst (M.If (E.TruthLit false) m n) m' e s =
      record { calls = λ h. ap (calls_only test) e ∙ (both m n h).1 }
  equal_row at R.GuardKnown (M.Bind (M.Guard v) [] m) m' e s =
      record { calls = λ h. ap (calls_only test) e.1 ∙ h }
  equal_row at R.Exp m m' e s = apart_calls at m m' e
  equal_row _ _ _ _ e s = absurd e

  equal_claim : (rule : R.Rule) (c : R.Claim) → (Equality.table rule c).holds →
      AllHold EqualKeep (Equality.table rule c).parts → EqualKeep c
  equal_claim rule (R.does at m m') e s = equal_row at rule m m' e s

  pub equal_calls : (at : R.Point) (t : Tree R.Rule) (m m' : Mon) → Equality.Takes at t m m' →
      calls_only test m ≡ true → calls_only test m' ≡ true
  equal_calls at t m m' h =
      (accepted_holds Equality.table EqualKeep equal_claim t (R.does at m m') h).calls
