-- A verdict on a function decides whether its steps are accepted, and there is one.
use Rattle.std.proofs.Common.{◌≡◌, ℕ, Bool, true, false, ◌&&◌, [], Option, Some, None, inl, inr, Result, Ok, Err, refl, sym, ap, ◌∙◌}
use Rattle.std.proofs.lemmas.Bool.{false≢true}
use Rattle.expression_lang.specs.Sort.{is_lifted, sort_of_kind}
use Rattle.expression_lang.specs.Signature.{Signature, names_of, kinds_of}
use Rattle.simpl_lang.specs.Command.{SimplFn, SimplUnit}
use Rattle.simpl_lang.specs.Form.{is_flat}
use Rattle.monad_lang.specs.Program.{Mon}
use Rattle.monad_lang.specs.Form.{is_bytes, is_heaps}
use Rattle.monad_lang.specs.Sorted.{setting_signed}
use Rattle.rule_trees.specs.RuleTree.{Tree, Table, Accepts, IsVerdict}
use Rattle.rule_trees.proofs.Checking.{accepted_is_never_bad, one_verdict}
use Rattle.rule_exn.specs.Rule.{◌to◌}
use Rattle.rule_exn.specs.Table as Exceptions
use Rattle.rule_local.specs.Rule.{whole}
use Rattle.rule_local.specs.Table as Locals
use Rattle.rule_local.specs.Units.{context_of, outputs_of}
use Rattle.rule_heap.specs.Rule as H
use Rattle.rule_heap.specs.Rule.{OfProgram}
use Rattle.rule_heap.specs.Table as Heaps
use Rattle.rule_word.specs.Rule.{program}
use Rattle.rule_word.specs.Table as Words
use Rattle.rule_word.specs.Ready.{is_form_of}
use Rattle.rule_word.specs.Scopes.{with_kinds, result_as_list}
use Rattle.rule_eq.specs.Rule.{does}
use Rattle.rule_eq.specs.Table as Equality
use Rattle.rule_eq.specs.Table.{point}
use Rattle.acceptance.specs.Certificate.{Step, Steps, before_words}
use Rattle.acceptance.specs.Accepted.{calls_lifted, is_command, is_on_words, is_on_numbers, word_context, IsExceptionStep, IsLocalStep, IsHeapStep, IsWordStep, IsEqualStep, IsFunctionAccepted}
use Rattle.acceptance.specs.Verdict.{Phase, Place, Level, Exception, Local, Heap, Word, Equal, Answer, ◌at◌, IsTest, IsFormed, Before, IsDone, IsExceptionVerdict, IsLocalVerdict, IsHeapVerdict, IsWordVerdict, IsEqualVerdict, IsFunctionVerdict}
use Rattle.acceptance.specs.Decided.{AreStepsAccepted, Decides}

-- One step after the other

-- an answer decides a fact, and so does what comes behind
record Tells (V : Answer → Type 0) (P : Type 0) : Type 0 where
  pub yes : V (Ok tt) → P
  pub no : (n : ℕ) → V (Err n) → P → ⊥

record TellsAll (V : Result (Unit {0}) Place → Type 0) (P : Type 0) : Type 0 where
  pub yes : V (Ok tt) → P
  pub no : (p : Place) → V (Err p) → P → ⊥

pub ok_err : {E P : Type 0} {e : E} → ◌≡◌ {A = Result (Unit {0}) E} (Ok tt) (Err e) → P
ok_err h = cc

before_tells : (p : Phase) (V : Answer → Type 0) (P : Type 0) (Rest : Result (Unit {0}) Place → Type 0) (Q : Type 0) →
    Tells V P → TellsAll Rest Q → TellsAll (Before p V Rest) (P × Q)
before_tells p V P Rest Q h k = record { yes = yes; no = no }
  where
    yes : Before p V Rest (Ok tt) → P × Q
    yes (inl x) = ok_err x.2
    yes (inr x) = (h.yes x.0, k.yes x.1)

    no : (q : Place) → Before p V Rest (Err q) → P × Q → ⊥
    no q (inl x) y = h.no x.0 x.1 y.0
    no q (inr x) y = k.no q x.1 y.1

done_tells : TellsAll IsDone (Unit {0})
done_tells = record { yes = λ h. tt; no = λ p h k. ok_err (sym h) }

-- Of one step

test_tells : (b : Bool) → Tells (IsTest b) (b ≡ true)
test_tells true = record { yes = λ h. refl; no = λ n h k. ok_err (sym h) }
test_tells false = record { yes = λ h. ok_err h; no = λ n h k. false≢true k }

formed_tells : (b : Bool) (V : Answer → Type 0) (P : Type 0) → Tells V P → Tells (IsFormed b V) ((b ≡ true) × P)
formed_tells true V P t = record { yes = λ h. (refl, t.yes h); no = λ n h k. t.no n h k.1 }
formed_tells false V P t = record { yes = λ h. ok_err h; no = λ n h k. false≢true k.0 }

-- a program that is formed so, and a tree that takes what was before to it
step_tells : {Rule Claim : Type 0} (b : Bool) (table : Table Rule Claim) (t : Tree Rule) (c : Claim) →
    Tells (IsFormed b (IsVerdict table t c)) ((b ≡ true) × Accepts table t c)
step_tells b table t c =
    formed_tells b (IsVerdict table t c) (Accepts table t c)
    (record { yes = λ h. h; no = λ n h k. accepted_is_never_bad table t c 0 n k h })

heap_tells : (u : SimplUnit) (s : Signature) (left : Mon) (b : Bool) (o : Option (Step Mon H.Rule)) →
    Tells (IsHeapVerdict u s left b o) (IsHeapStep u s left b o)
heap_tells u s left true (Some step) =
    step_tells (is_on_words u s step.program && is_heaps step.program) (Heaps.table u.layout) step.tree
    (OfProgram [] left step.program)
heap_tells u s left false None = record { yes = λ h. tt; no = λ n h k. ok_err (sym h) }
heap_tells u s left true None = record { yes = λ h. ok_err h; no = λ n h k. k }
heap_tells u s left false (Some step) = record { yes = λ h. ok_err h; no = λ n h k. k }

-- Of a function

module _ (u : SimplUnit) (f : SimplFn) (s : Signature) (c : Steps) where
  exception_tells : Tells (IsExceptionVerdict u f c) (IsExceptionStep u f c)
  exception_tells =
      let a = c.exception.program in
      let t = step_tells (is_command u f a && is_flat a) Exceptions.table c.exception.tree (f.body to a) in
      record {
        yes = λ h. record { formed = (t.yes h).0; takes = (t.yes h).1 };
        no = λ n h k. t.no n h (k.formed, k.takes);
      }

  local_tells : Tells (IsLocalVerdict u f s c) (IsLocalStep u f s c)
  local_tells =
      let m = c.local.program in
      let t = step_tells (is_on_words u s m && is_bytes m) (Locals.table (context_of f s)) c.local.tree
      (whole c.exception.program m (outputs_of s.result)) in
      record {
        yes = λ h. record { formed = (t.yes h).0; takes = (t.yes h).1 };
        no = λ n h k. t.no n h (k.formed, k.takes);
      }

  word_tells : Tells (IsWordVerdict u s c) (IsWordStep u s c)
  word_tells =
      let m = c.word.program in
      let names = with_kinds (names_of s.params) (kinds_of s.params) [] in
      let t = step_tells (is_on_numbers u s m && is_form_of c.level m) (Words.table (word_context u)) c.word.tree
      (program (record { facts = []; names = names }) (before_words c) m (result_as_list s.result)) in
      record {
        yes = λ h. record { formed = (t.yes h).0; takes = (t.yes h).1 };
        no = λ n h k. t.no n h (k.formed, k.takes);
      }

  equal_tells : Tells (IsEqualVerdict u s c) (IsEqualStep u s c)
  equal_tells =
      let m = c.equal.program in
      let t = step_tells (is_on_numbers u s m && is_form_of c.level m) Equality.table c.equal.tree
      (does (point [] (setting_signed sort_of_kind u.layout u.globals u.signatures s)) c.word.program m) in
      record {
        yes = λ h. record { formed = (t.yes h).0; takes = (t.yes h).1 };
        no = λ n h k. t.no n h (k.formed, k.takes);
      }

  tells : TellsAll (IsFunctionVerdict u f s c) ((calls_lifted u c.level f.body ≡ true)
      × (IsExceptionStep u f c × (IsLocalStep u f s c × (IsHeapStep u s c.local.program (is_lifted c.level) c.heap
      × (IsWordStep u s c × (IsEqualStep u s c × Unit {0}))))))
  tells =
      before_tells Level _ _ _ _ (test_tells (calls_lifted u c.level f.body))
      (before_tells Exception _ _ _ _ exception_tells
      (before_tells Local _ _ _ _ local_tells
      (before_tells Heap _ _ _ _ (heap_tells u s c.local.program (is_lifted c.level) c.heap)
      (before_tells Word _ _ _ _ word_tells
      (before_tells Equal _ _ _ _ equal_tells done_tells)))))

  pub verdicts_decide : (r : Result (Unit {0}) Place) → IsFunctionVerdict u f s c r → Decides u f s c r
  verdicts_decide (Ok done) h =
      let t = tells.yes h in
      record {
        calls = t.0;
        exception = t.1.0;
        local = t.1.1.0;
        heap = t.1.1.1.0;
        word = t.1.1.1.1.0;
        equal = t.1.1.1.1.1.0;
      }
  verdicts_decide (Err place) h = λ k. tells.no place h (k.calls, (k.exception, (k.local, (k.heap, (k.word, (k.equal, tt))))))

  -- a function is accepted exactly where its steps are, and its name and its level are the certificate's
  pub accepted_by_steps : c.name ≡ f.name → c.level ≡ f.level → AreStepsAccepted u f s c → IsFunctionAccepted u f s c
  accepted_by_steps name level h = record {
    name = name;
    level = level;
    calls = h.calls;
    exception = h.exception;
    local = h.local;
    heap = h.heap;
    word = h.word;
    equal = h.equal;
  }

  pub accepted_steps : IsFunctionAccepted u f s c → AreStepsAccepted u f s c
  accepted_steps h = record {
    calls = h.calls;
    exception = h.exception;
    local = h.local;
    heap = h.heap;
    word = h.word;
    equal = h.equal;
  }

-- A function has one verdict.

record Once {E : Type 0} (V : Result (Unit {0}) E → Type 0) : Type 0 where
  pub same : (r r' : Result (Unit {0}) E) → V r → V r' → r ≡ r'

err_is : {m n : ℕ} → ◌≡◌ {A = Answer} (Err m) (Err n) → m ≡ n
err_is h = cc

equal_once : {E : Type 0} (a : Result (Unit {0}) E) → Once (λ r. r ≡ a)
equal_once a = record { same = λ r r' h k. h ∙ sym k }

test_once : (b : Bool) → Once (IsTest b)
test_once true = equal_once (Ok tt)
test_once false = equal_once (Err 0)

before_once : (p : Phase) (V : Answer → Type 0) (Rest : Result (Unit {0}) Place → Type 0) → Once V → Once Rest →
    Once (Before p V Rest)
before_once p V Rest h k = record { same = same }
  where
    same : (r r' : Result (Unit {0}) Place) → Before p V Rest r → Before p V Rest r' → r ≡ r'
    same r r' (inl x) (inl y) =
        x.2 ∙ ap (λ n. Err (p at n)) (err_is (h.same (Err x.0) (Err y.0) x.1 y.1)) ∙ sym y.2
    same r r' (inl x) (inr y) = ok_err (h.same (Ok tt) (Err x.0) y.0 x.1)
    same r r' (inr x) (inl y) = ok_err (h.same (Ok tt) (Err y.0) x.0 y.1)
    same r r' (inr x) (inr y) = k.same r r' x.1 y.1

step_once : {Rule Claim : Type 0} (b : Bool) (table : Table Rule Claim) (t : Tree Rule) (c : Claim) →
    Once (IsFormed b (IsVerdict table t c))
step_once true table t c = record { same = one_verdict table t c }
step_once false table t c = equal_once (Err 0)

heap_once : (u : SimplUnit) (s : Signature) (left : Mon) (b : Bool) (o : Option (Step Mon H.Rule)) →
    Once (IsHeapVerdict u s left b o)
heap_once u s left true (Some step) =
    step_once (is_on_words u s step.program && is_heaps step.program) (Heaps.table u.layout) step.tree
    (OfProgram [] left step.program)
heap_once u s left false None = equal_once (Ok tt)
heap_once u s left true None = equal_once (Err 0)
heap_once u s left false (Some step) = equal_once (Err 0)

module _ (u : SimplUnit) (f : SimplFn) (s : Signature) (c : Steps) where
  exception_once : Once (IsExceptionVerdict u f c)
  exception_once =
      let a = c.exception.program in
      step_once (is_command u f a && is_flat a) Exceptions.table c.exception.tree (f.body to a)

  local_once : Once (IsLocalVerdict u f s c)
  local_once =
      let m = c.local.program in
      step_once (is_on_words u s m && is_bytes m) (Locals.table (context_of f s)) c.local.tree
      (whole c.exception.program m (outputs_of s.result))

  word_once : Once (IsWordVerdict u s c)
  word_once =
      let m = c.word.program in
      let names = with_kinds (names_of s.params) (kinds_of s.params) [] in
      step_once (is_on_numbers u s m && is_form_of c.level m) (Words.table (word_context u)) c.word.tree
      (program (record { facts = []; names = names }) (before_words c) m (result_as_list s.result))

  last_once : Once (IsEqualVerdict u s c)
  last_once =
      let m = c.equal.program in
      step_once (is_on_numbers u s m && is_form_of c.level m) Equality.table c.equal.tree
      (does (point [] (setting_signed sort_of_kind u.layout u.globals u.signatures s)) c.word.program m)

  pub verdicts_are_one : (r r' : Result (Unit {0}) Place) → IsFunctionVerdict u f s c r → IsFunctionVerdict u f s c r' → r ≡ r'
  verdicts_are_one =
      (before_once Level _ _ (test_once (calls_lifted u c.level f.body))
      (before_once Exception _ _ exception_once
      (before_once Local _ _ local_once
      (before_once Heap _ _ (heap_once u s c.local.program (is_lifted c.level) c.heap)
      (before_once Word _ _ word_once
      (before_once Equal _ _ last_once (equal_once (Ok tt)))))))).same
