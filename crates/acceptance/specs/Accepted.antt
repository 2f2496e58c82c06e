-- Which certificates are accepted for a unit that was generated at their levels: the functions are the unit's in its order, no lifted
-- function calls one on bytes, and of each function each program is well-sorted and of its step's form, and each node of each
-- tree is an instance of its rule.
use Rattle.std.specs.Prelude.{◌≡◌, Bool, true, false, ◌&&◌, List, [], ◌∷◌, Option, Some, None, if◌then◌else◌}
use Rattle.c_values.specs.Name.{Name}
use Rattle.expression_lang.specs.Sort.{Level, word_sort_of, sort_of_kind, is_lifted}
use Rattle.expression_lang.specs.Signature.{Signature, signature, names_of, kinds_of}
use Rattle.simpl_lang.specs.Command as C
use Rattle.simpl_lang.specs.Command.{Simpl, SimplFn, SimplUnit}
use Rattle.simpl_lang.specs.Form.{is_flat}
use Rattle.simpl_lang.specs.Sorted as Simpl
use Rattle.monad_lang.specs.Program.{Mon}
use Rattle.monad_lang.specs.Form.{is_bytes, is_heaps}
use Rattle.monad_lang.specs.Sorted.{is_body_sorted, setting_signed}
use Rattle.rule_exn.specs.Table as Exceptions
use Rattle.rule_local.specs.Table as Locals
use Rattle.rule_local.specs.Units.{context_of, outputs_of}
use Rattle.rule_heap.specs.Rule as H
use Rattle.rule_heap.specs.Table as Heaps
use Rattle.rule_word.specs.Rule as W
use Rattle.rule_word.specs.Table as Words
use Rattle.rule_word.specs.Ready.{is_form_of}
use Rattle.rule_word.specs.Scopes.{with_kinds, result_as_list}
use Rattle.rule_eq.specs.Table as Equality
use Rattle.rule_eq.specs.Table.{point}
use Rattle.acceptance.specs.Certificate.{Step, Steps, before_words}

-- Calls

-- each function that a command calls passes the test
abbrev pub calls_only : (Name → Bool) → Simpl → Bool
calls_only test (C.Call x f es) = test f
calls_only test (C.Seq a b) = calls_only test a && calls_only test b
calls_only test (C.Cond e a b) = calls_only test a && calls_only test b
calls_only test (C.Catch a b) = calls_only test a && calls_only test b
calls_only test (C.Guard c a) = calls_only test a
calls_only test (C.While cs e a) = calls_only test a
calls_only test a = true

-- there is a function of the name, and it is on typed heaps
abbrev pub is_lifted_there : Option Signature → Bool
is_lifted_there None = false
is_lifted_there (Some s) = is_lifted s.level

abbrev pub calls_lifted : SimplUnit → Level → Simpl → Bool
calls_lifted u level a = if is_lifted level then calls_only (λ x. is_lifted_there (signature u.signatures x)) a else true

-- Steps

-- A command of a function is well-sorted; a program of it gives its result, where names have words at their kinds, or where they have what
-- their kinds say.
abbrev pub is_command : SimplUnit → SimplFn → Simpl → Bool
is_command u f a = Simpl.is_sorted (Simpl.scope_of u f) u.signatures a

abbrev pub is_on_words : SimplUnit → Signature → Mon → Bool
is_on_words u s m = is_body_sorted word_sort_of u.layout u.globals u.signatures s m

abbrev pub is_on_numbers : SimplUnit → Signature → Mon → Bool
is_on_numbers u s m = is_body_sorted sort_of_kind u.layout u.globals u.signatures s m

pub record IsExceptionStep (u : SimplUnit) (f : SimplFn) (c : Steps) : Type 0 where
  pub formed : (is_command u f c.exception.program && is_flat c.exception.program) ≡ true
  pub takes : Exceptions.Takes c.exception.tree f.body c.exception.program

pub record IsLocalStep (u : SimplUnit) (f : SimplFn) (s : Signature) (c : Steps) : Type 0 where
  pub formed : (is_on_words u s c.local.program && is_bytes c.local.program) ≡ true
  pub takes : Locals.TakesWhole (context_of f s) c.local.tree c.exception.program c.local.program (outputs_of s.result)

-- there where the function is lifted, and absent where it isn't
abbrev pub IsHeapStep : SimplUnit → Signature → Mon → Bool → Option (Step Mon H.Rule) → Type 0
IsHeapStep u s left true (Some step) =
    ((is_on_words u s step.program && is_heaps step.program) ≡ true) × Heaps.Takes u.layout [] step.tree left step.program
IsHeapStep u s left false None = Unit {0}
IsHeapStep _ _ _ _ _ = ⊥

abbrev pub word_context : SimplUnit → W.Context
word_context u = record { layout = u.layout; globals = u.globals; functions = u.signatures }

pub record IsWordStep (u : SimplUnit) (s : Signature) (c : Steps) : Type 0 where
  pub formed : (is_on_numbers u s c.word.program && is_form_of c.level c.word.program) ≡ true
  pub takes : Words.Takes (word_context u) (with_kinds (names_of s.params) (kinds_of s.params) []) c.word.tree
      (before_words c) c.word.program (result_as_list s.result)

pub record IsEqualStep (u : SimplUnit) (s : Signature) (c : Steps) : Type 0 where
  pub formed : (is_on_numbers u s c.equal.program && is_form_of c.level c.equal.program) ≡ true
  pub takes : Equality.Takes (point [] (setting_signed sort_of_kind u.layout u.globals u.signatures s)) c.equal.tree
      c.word.program c.equal.program

-- Functions and units

pub record IsFunctionAccepted (u : SimplUnit) (f : SimplFn) (s : Signature) (c : Steps) : Type 0 where
  pub name : c.name ≡ f.name
  pub level : c.level ≡ f.level
  pub calls : calls_lifted u c.level f.body ≡ true
  pub exception : IsExceptionStep u f c
  pub local : IsLocalStep u f s c
  pub heap : IsHeapStep u s c.local.program (is_lifted c.level) c.heap
  pub word : IsWordStep u s c
  pub equal : IsEqualStep u s c

abbrev pub AreFunctionsAccepted : SimplUnit → List SimplFn → List Signature → List Steps → Type 0
AreFunctionsAccepted u [] [] [] = Unit {0}
AreFunctionsAccepted u (f ∷ fs) (s ∷ ss) (c ∷ cs) = IsFunctionAccepted u f s c × AreFunctionsAccepted u fs ss cs
AreFunctionsAccepted u _ _ _ = ⊥

abbrev pub IsAccepted : SimplUnit → List Steps → Type 0
IsAccepted u cs = AreFunctionsAccepted u u.functions u.signatures cs
