-- The chain from a C unit to its last programs: six units, one after the other, and what each of the five phases keeps. A phase
-- relates functions of two units at one bound: to calls that are related, and whatever the limit of nested calls, they have
-- related answers, fail alike and stop alike. Exactness follows from the five phases and from the theorem on generation, by
-- composition alone (docs/CHAIN.md).
use Rattle.std.specs.Prelude.{ℕ}
use Rattle.correspondence.specs.Related.{Related, Same}
use Rattle.c_values.specs.Name.{Name}
use Rattle.c_values.specs.Choice.{Choice}
use Rattle.expression_lang.specs.Sort.{Level}
use Rattle.simpl_lang.specs.Command.{SimplUnit}
use Rattle.simpl_lang.specs.Exec as Simpl
use Rattle.monad_lang.specs.Program.{FinalUnit}
use Rattle.monad_lang.specs.Run as Mon
use Rattle.rule_local.specs.Kept.{LocalsKept}
use Rattle.rule_heap.specs.Kept.{HeapsKept}
use Rattle.rule_word.specs.Kept.{context_of, WordsKept}
use Rattle.rule_eq.specs.Kept.{EqualKept}
use Rattle.c_lang.specs.Typed.{TypedUnit}
use Rattle.generation.specs.SameEnds.{HasEndsOf}

-- 1. Exceptions: commands with throws, and flat ones. Everything stays.
abbrev pub ExceptionsKept : Simpl.Runs → Simpl.Runs → Type 0
ExceptionsKept f g = Related Same (λ c. Same) Same f g

-- 2. Locals: `LocalsKept`, of flat commands on machines and programs that bind what the locals hold, at calls with an argument for
-- each parameter. The kind of a fault is no longer told.

-- 3. Heaps: `HeapsKept`, of programs on bytes and programs on typed heaps where the function is lifted: from the heap of the level, and
-- from one state, bytes among them. Calls have arguments of the parameters' sorts and a state that can be.

-- 4. Words: `WordsKept`, of programs on words and programs on what stands for the words at each kind; at calls with words of the
-- parameters' kinds, in a state that can be. On either heap.

-- 5. Equality: `EqualKept`, of programs and tidier ones; at the same calls, of functions that there are, with arguments of the
-- parameters' sorts, in a state that can be. On either heap.

-- The five phases over a generated unit. Each is a law on whole units, at every choice and bound.
pub record IsChain (u : TypedUnit) (levels : Name → Level) (generated flat : SimplUnit) (local heap word last : FinalUnit) : Type 0 where
  pub generation : HasEndsOf u levels generated
  pub exceptions : (p : Choice) (n : ℕ) → ExceptionsKept (Simpl.simpl_runs generated p n) (Simpl.simpl_runs flat p n)
  pub locals : (p : Choice) (n : ℕ) → LocalsKept flat.signatures (Simpl.simpl_runs flat p n) (Mon.program_runs local p n)
  pub heaps : (p : Choice) (n : ℕ) → HeapsKept local levels (Mon.program_runs local p n) (Mon.program_runs heap p n)
  pub words : (p : Choice) (n : ℕ) → WordsKept (context_of last) (Mon.program_runs heap p n) (Mon.program_runs word p n)
  pub equality : (p : Choice) (n : ℕ) → EqualKept word (Mon.program_runs word p n) (Mon.program_runs last p n)
