-- The steps that the translations make of a function, each with its tree: exceptions eliminated, locals lifted, loads made
-- reads where the function is lifted, and words abstracted. The last step, which makes the program tidier, may be any that is
-- accepted behind them, as one that changes nothing.
use Rattle.std.specs.Prelude.{◌≡◌, Bool, true, false, List, [], ◌∷◌, Option, Some, None, if◌then◌else◌}
use Rattle.expression_lang.specs.Expression.{Exp}
use Rattle.expression_lang.specs.Sort.{is_lifted, sort_of_kind}
use Rattle.expression_lang.specs.Signature.{Signature, names_of, kinds_of}
use Rattle.simpl_lang.specs.Command.{Simpl, SimplFn, SimplUnit}
use Rattle.monad_lang.specs.Program.{Mon, FinalFn}
use Rattle.monad_lang.specs.Form.{is_tidy}
use Rattle.monad_lang.specs.Sorted.{setting_signed}
use Rattle.rule_trees.specs.RuleTree.{node, no_trees}
use Rattle.rule_exn.specs.Rule as Exceptions
use Rattle.rule_exn.specs.Eliminated.{exceptions_eliminated}
use Rattle.rule_local.specs.Rule as Locals
use Rattle.rule_local.specs.Units.{context_of, outputs_of}
use Rattle.rule_local.specs.Lifted.{locals_lifted}
use Rattle.rule_heap.specs.Rule as Heaps
use Rattle.rule_heap.specs.HeapLifted.{on_heaps, heap_tree}
use Rattle.rule_word.specs.Rule as Words
use Rattle.rule_word.specs.Scopes.{names_in, with_kinds, result_as_list}
use Rattle.rule_word.specs.ProgramsAbstracted.{program_abstracted}
use Rattle.rule_word.specs.Ready.{is_numbers_level}
use Rattle.rule_eq.specs.Rule as Equality
use Rattle.rule_eq.specs.Rule.{Point}
use Rattle.rule_eq.specs.Table.{point}
use Rattle.polish.specs.Translation.{translation}
use Rattle.acceptance.specs.Certificate.{Step, Steps, before_words}
use Rattle.acceptance.specs.Accepted.{word_context, IsWordStep, IsEqualStep}

abbrev pub exception_made : SimplFn → Step Simpl Exceptions.Rule
exception_made f = let a = exceptions_eliminated f.body in record { program = a.right; tree = a.tree }

abbrev pub local_made : SimplFn → Signature → Step Mon Locals.Rule
local_made f s =
    let a = locals_lifted (context_of f s) (exceptions_eliminated f.body).right (outputs_of s.result) in
    record { program = a.right; tree = a.tree }

-- of a lifted function
abbrev pub heap_made : Bool → Mon → Option (Step Mon Heaps.Rule)
heap_made true m = Some (record { program = on_heaps m; tree = heap_tree m })
heap_made false m = None

-- by a test that finds equal expressions
abbrev pub word_made : (Exp → Exp → Bool) → SimplUnit → SimplFn → Signature → Mon → Step Mon Words.Rule
word_made same u f s m =
    let a = program_abstracted same (is_numbers_level f.level) (word_context u) (names_in (λ k. k) f.locals) []
    (with_kinds (names_of s.params) (kinds_of s.params) []) m (result_as_list s.result) in
    record { program = a.right; tree = a.tree }

pub record IsMade (same : Exp → Exp → Bool) (u : SimplUnit) (f : SimplFn) (s : Signature) (c : Steps) : Type 0 where
  pub name : c.name ≡ f.name
  pub level : c.level ≡ f.level
  pub exception : c.exception ≡ exception_made f
  pub local : c.local ≡ local_made f s
  pub heap : c.heap ≡ heap_made (is_lifted f.level) c.local.program
  pub word : c.word ≡ word_made same u f s (before_words c)
  pub equal : IsWordStep u s c → IsEqualStep u s c

abbrev pub AreMade : (Exp → Exp → Bool) → SimplUnit → List SimplFn → List Signature → List Steps → Type 0
AreMade same u [] [] [] = Unit {0}
AreMade same u (f ∷ fs) (s ∷ ss) (c ∷ cs) = IsMade same u f s c × AreMade same u fs ss cs
AreMade same u _ _ _ = ⊥

-- Certificates, by what the last steps are.

abbrev pub LastStep : Type 0
LastStep = SimplUnit → Signature → Mon → Step Mon Equality.Rule

abbrev pub steps_with : LastStep → (Exp → Exp → Bool) → SimplUnit → SimplFn → Signature → Steps
steps_with last same u f s =
    let local = local_made f s in
    let word = word_made same u f s (if is_lifted f.level then on_heaps local.program else local.program) in
    record {
      name = f.name;
      level = f.level;
      exception = exception_made f;
      local = local;
      heap = heap_made (is_lifted f.level) local.program;
      word = word;
      equal = last u s word.program;
    }

abbrev pub all_steps_with : LastStep → (Exp → Exp → Bool) → SimplUnit → List SimplFn → List Signature → List Steps
all_steps_with last same u (f ∷ fs) (s ∷ ss) = steps_with last same u f s ∷ all_steps_with last same u fs ss
all_steps_with last same u _ _ = []

abbrev pub certificate_with : LastStep → (Exp → Exp → Bool) → SimplUnit → List Steps
certificate_with last same u = all_steps_with last same u u.functions u.signatures

-- A certificate whose last steps change nothing.

abbrev pub unchanged : Mon → Step Mon Equality.Rule
unchanged m = record { program = m; tree = node Equality.Refl no_trees }

abbrev pub unchanged_last : LastStep
unchanged_last u s m = unchanged m

abbrev pub certificate_made : (Exp → Exp → Bool) → SimplUnit → List Steps
certificate_made same u = certificate_with unchanged_last same u

-- A certificate whose last steps make programs tidy.

abbrev pub begins_at : SimplUnit → Signature → Point
begins_at u s = point [] (setting_signed sort_of_kind u.layout u.globals u.signatures s)

abbrev pub tidy_last : LastStep
tidy_last u s m = let p = translation (begins_at u s) m in record { program = p.program; tree = p.tree }

abbrev pub tidy_certificate : (Exp → Exp → Bool) → SimplUnit → List Steps
tidy_certificate same u = certificate_with tidy_last same u

-- each program is tidy
abbrev pub AreTidy : List FinalFn → Type 0
AreTidy [] = Unit {0}
AreTidy (f ∷ fs) = (is_tidy f.body ≡ true) × AreTidy fs
