-- What a checker answers of a certificate: it is accepted, or this is the first bad place. Functions come in their order; of each,
-- first its calls, and then its steps; of a step, node 0 where the program isn't formed as it should be, and then the first
-- node of the tree that is no instance of its rule.
use Rattle.std.specs.Prelude.{◌≡◌, ℕ, Bool, true, false, ◌&&◌, [], Option, Some, None, ◌⊎◌, Result, Ok, Err}
use Rattle.expression_lang.specs.Sort.{is_lifted, sort_of_kind}
use Rattle.expression_lang.specs.Signature.{Signature, names_of, kinds_of}
use Rattle.simpl_lang.specs.Command.{SimplFn, SimplUnit}
use Rattle.simpl_lang.specs.Form.{is_flat}
use Rattle.monad_lang.specs.Program.{Mon}
use Rattle.monad_lang.specs.Form.{is_bytes, is_heaps}
use Rattle.monad_lang.specs.Sorted.{setting_signed}
use Rattle.rule_trees.specs.RuleTree.{IsVerdict}
use Rattle.rule_exn.specs.Rule.{◌to◌}
use Rattle.rule_exn.specs.Table as Exceptions
use Rattle.rule_local.specs.Rule.{whole}
use Rattle.rule_local.specs.Table as Locals
use Rattle.rule_local.specs.Units.{context_of, outputs_of}
use Rattle.rule_heap.specs.Rule as H
use Rattle.rule_heap.specs.Rule.{OfProgram}
use Rattle.rule_heap.specs.Table as Heaps
use Rattle.rule_word.specs.Rule.{program}
use Rattle.rule_word.specs.Table as Words
use Rattle.rule_word.specs.Ready.{is_form_of}
use Rattle.rule_word.specs.Scopes.{with_kinds, result_as_list}
use Rattle.rule_eq.specs.Rule.{does}
use Rattle.rule_eq.specs.Table as Equality
use Rattle.rule_eq.specs.Table.{point}
use Rattle.acceptance.specs.Certificate.{Step, Steps, before_words}
use Rattle.acceptance.specs.Accepted.{calls_lifted, is_command, is_on_words, is_on_numbers, word_context}

pub data Phase : Type 0 where
  Level Exception Local Heap Word Equal : Phase

infixl 70 ◌at◌
pub record Place : Type 0 where
  pub phase : Phase
  pub node : ℕ

abbrev pub ◌at◌ : Phase → ℕ → Place
p at n = record { phase = p; node = n }

-- an answer of one step, at a node or none
abbrev pub Answer : Type 0
Answer = Result (Unit {0}) ℕ

abbrev pub IsTest : Bool → Answer → Type 0
IsTest true r = r ≡ Ok tt
IsTest false r = r ≡ Err 0

abbrev pub IsFormed : Bool → (Answer → Type 0) → Answer → Type 0
IsFormed true V r = V r
IsFormed false V r = r ≡ Err 0

-- an answer of this phase, or where it accepts, of those behind
abbrev pub Before : Phase → (Answer → Type 0) → (Result (Unit {0}) Place → Type 0) → Result (Unit {0}) Place → Type 0
Before p V Rest r = ((n : ℕ) × V (Err n) × (r ≡ Err (p at n))) ⊎ (V (Ok tt) × Rest r)

abbrev pub IsDone : Result (Unit {0}) Place → Type 0
IsDone r = r ≡ Ok tt

-- Steps

abbrev pub IsExceptionVerdict : SimplUnit → SimplFn → Steps → Answer → Type 0
IsExceptionVerdict u f c =
    let a = c.exception.program in
    IsFormed (is_command u f a && is_flat a) (IsVerdict Exceptions.table c.exception.tree (f.body to a))

abbrev pub IsLocalVerdict : SimplUnit → SimplFn → Signature → Steps → Answer → Type 0
IsLocalVerdict u f s c =
    let m = c.local.program in
    IsFormed (is_on_words u s m && is_bytes m)
    (IsVerdict (Locals.table (context_of f s)) c.local.tree (whole c.exception.program m (outputs_of s.result)))

abbrev pub IsHeapVerdict : SimplUnit → Signature → Mon → Bool → Option (Step Mon H.Rule) → Answer → Type 0
IsHeapVerdict u s left true (Some step) =
    IsFormed (is_on_words u s step.program && is_heaps step.program)
    (IsVerdict (Heaps.table u.layout) step.tree (OfProgram [] left step.program))
IsHeapVerdict u s left false None = IsTest true
IsHeapVerdict u s left _ _ = IsTest false

abbrev pub IsWordVerdict : SimplUnit → Signature → Steps → Answer → Type 0
IsWordVerdict u s c =
    let m = c.word.program in
    IsFormed (is_on_numbers u s m && is_form_of c.level m)
    (IsVerdict (Words.table (word_context u)) c.word.tree
    (program (record { facts = []; names = with_kinds (names_of s.params) (kinds_of s.params) [] }) (before_words c) m (result_as_list s.result)))

abbrev pub IsEqualVerdict : SimplUnit → Signature → Steps → Answer → Type 0
IsEqualVerdict u s c =
    let m = c.equal.program in
    IsFormed (is_on_numbers u s m && is_form_of c.level m)
    (IsVerdict Equality.table c.equal.tree
    (does (point [] (setting_signed sort_of_kind u.layout u.globals u.signatures s)) c.word.program m))

-- Functions

abbrev pub IsFunctionVerdict : SimplUnit → SimplFn → Signature → Steps → Result (Unit {0}) Place → Type 0
IsFunctionVerdict u f s c =
    Before Level (IsTest (calls_lifted u c.level f.body))
    (Before Exception (IsExceptionVerdict u f c)
    (Before Local (IsLocalVerdict u f s c)
    (Before Heap (IsHeapVerdict u s c.local.program (is_lifted c.level) c.heap)
    (Before Word (IsWordVerdict u s c)
    (Before Equal (IsEqualVerdict u s c) IsDone)))))
