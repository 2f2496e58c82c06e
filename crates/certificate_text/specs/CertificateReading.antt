-- Trees read as certificates. A function's list is bad where it has too many or too few steps for its level; at a word that is no level it may have as
-- many as any level has, and then the word is bad.
use Rattle.std.specs.Prelude.{ℕ, Bool, true, false, List, Option, Some, None, Ok, Err, codes, if◌then◌else◌}
use Rattle.c_values.specs.Name.{Name, same_name}
use Rattle.c_values.specs.Types.{Target}
use Rattle.expression_lang.specs.Sort.{Level, Bytes}
use Rattle.ac_sx.specs.Tree.{Tree, Trees}
use Rattle.ac_sx.specs.CodeSx.{word_in, headed_in, two_of, first_of}
use Rattle.expression_text.specs.Reading.{Read, next, made, ◌>>=◌}
use Rattle.expression_text.specs.Names.{name_at}
use Rattle.expression_text.specs.Words.{looked_up}
use Rattle.expression_text.specs.Lists.{list_at}
use Rattle.expression_text.specs.ExpRows.{with_second}
use Rattle.simpl_lang.specs.Command.{Simpl}
use Rattle.monad_lang.specs.Program.{Mon}
use Rattle.program_text.specs.MonReading.{four_of, mon_at}
use Rattle.command_text.specs.CommandReading.{command_at}
use Rattle.rule_trees.specs.RuleTree as rules
use Rattle.rule_exn.specs.Rule as Exceptions
use Rattle.rule_local.specs.Rule as Locals
use Rattle.rule_heap.specs.Rule as Heaps
use Rattle.rule_word.specs.Rule as Words
use Rattle.rule_eq.specs.Rule as Equality
use Rattle.rule_text.specs.ExceptionText as exceptions
use Rattle.rule_text.specs.LocalText as locals
use Rattle.rule_text.specs.HeapText as heaps
use Rattle.rule_text.specs.WordText as words
use Rattle.rule_text.specs.EqualityText as equality
use Rattle.acceptance.specs.Certificate.{Step, Steps}
use Rattle.certificate_text.specs.CertificateText.{target_word, targets, level_word, levels, Version, One, Two, Certificate}

-- a word of a list of them
abbrev pub word_from : {A : Type 0} → ℕ → Option A → Read A
word_from at None = Err at
word_from at (Some a) = Ok (a, next at)

abbrev pub found_in : {A : Type 0} → (A → Name) → List A → Option Name → Option A
found_in word all None = None
found_in word all (Some w) = looked_up word all w

abbrev pub target_at : ℕ → Tree → Read Target
target_at at t = word_from at (found_in target_word targets (word_in t))

abbrev pub level_in : Tree → Option Level
level_in t = found_in level_word levels (word_in t)

-- a list of a word, a program and a tree of rules
abbrev pub step_parts : Name → Option (Name × Trees) → Option (Tree × Tree)
step_parts step None = None
step_parts step (Some (head, ts)) = if same_name head step then two_of ts else None

abbrev pub step_row : {Program Rule : Type 0} → (ℕ → Tree → Read Program) → (ℕ → Tree → Read (rules.Tree Rule)) → ℕ → Option (Tree × Tree) → Read (Step Program Rule)
step_row program tree at None = Err at
step_row program tree at (Some (p, r)) = do
  x ← program (next (next at)) p
  y ← tree x.1 r
  Ok (record { program = x.0; tree = y.0 }, y.1)

abbrev pub step_at : {Program Rule : Type 0} → Name → (ℕ → Tree → Read Program) → (ℕ → Tree → Read (rules.Tree Rule)) → ℕ → Tree → Read (Step Program Rule)
step_at step program tree at t = step_row program tree at (step_parts step (headed_in t))

abbrev pub exception_at : ℕ → Tree → Read (Step Simpl Exceptions.Rule)
exception_at = step_at (codes "exception") command_at exceptions.tree_at

abbrev pub local_at : ℕ → Tree → Read (Step Mon Locals.Rule)
local_at = step_at (codes "local") mon_at locals.tree_at

abbrev pub heap_at : ℕ → Tree → Read (Step Mon Heaps.Rule)
heap_at = step_at (codes "heap") mon_at heaps.tree_at

abbrev pub word_at : ℕ → Tree → Read (Step Mon Words.Rule)
word_at = step_at (codes "word") mon_at words.tree_at

abbrev pub equal_at : ℕ → Tree → Read (Step Mon Equality.Rule)
equal_at = step_at (codes "equal") mon_at equality.tree_at

-- the steps of a function, where they are four or five
pub record Parts : Type 0 where
  pub exception : Tree
  pub local : Tree
  pub heap : Option Tree
  pub word : Tree
  pub equal : Tree

abbrev pub five_from : Tree → Option (Tree × Tree × Tree × Tree) → Option Parts
five_from e None = None
five_from e (Some (l, h, w, q)) = Some (record { exception = e; local = l; heap = Some h; word = w; equal = q })

abbrev pub five_in : Option (Tree × Trees) → Option Parts
five_in None = None
five_in (Some (e, ts)) = five_from e (four_of ts)

abbrev pub parts_from : Option (Tree × Tree × Tree × Tree) → Option (Tree × Trees) → Option Parts
parts_from (Some (e, l, w, q)) ts = Some (record { exception = e; local = l; heap = None; word = w; equal = q })
parts_from None ts = five_in ts

abbrev pub parts_in : Trees → Option Parts
parts_in ts = parts_from (four_of ts) (first_of ts)

abbrev pub fits : Option Level → Option Tree → Bool
fits None h = true
fits (Some Bytes) None = true
fits (Some Bytes) (Some h) = false
fits (Some level) None = false
fits (Some level) (Some h) = true

abbrev pub heap_from : ℕ → Option Tree → Read (Option (Step Mon Heaps.Rule))
heap_from at None = Ok (None, at)
heap_from at (Some h) = made (λ s. Some s) (heap_at at h)

abbrev pub steps_at : Name → Level → ℕ → Parts → Read Steps
steps_at name level at p = do
  e ← exception_at at p.exception
  l ← local_at e.1 p.local
  h ← heap_from l.1 p.heap
  w ← word_at h.1 p.word
  q ← equal_at w.1 p.equal
  Ok (record { name = name; level = level; exception = e.0; local = l.0; heap = h.0; word = w.0; equal = q.0 }, q.1)

-- of a list at this number
abbrev pub function_from : ℕ → Tree → Tree → Option Parts → Read Steps
function_from at name level None = Err at
function_from at name level (Some p) =
    if fits (level_in level) p.heap then (do
      x ← name_at (next (next at)) name
      y ← word_from x.1 (level_in level)
      steps_at x.0 y.0 y.1 p) else Err at

abbrev pub function_row : ℕ → Option (Tree × Tree × Trees) → Read Steps
function_row at None = Err at
function_row at (Some (name, level, ts)) = function_from at name level (parts_in ts)

abbrev pub function_by : ℕ → Option (Name × Trees) → Read Steps
function_by at None = Err at
function_by at (Some (head, ts)) = if same_name head (codes "fun") then function_row at (with_second (first_of ts)) else Err at

abbrev pub function_at : ℕ → Tree → Read Steps
function_at at t = function_by at (headed_in t)

-- the functions of a certificate
abbrev pub functions_at : Version → ℕ → Trees → Read Certificate
functions_at version at ts = do
  x ← list_at function_at at ts
  Ok (record { version = version; functions = x.0 }, x.1)

-- of a list at this number, whose target is at that one
abbrev pub second_row : ℕ → ℕ → Option (Tree × Trees) → Read Certificate
second_row at inner None = Err at
second_row at inner (Some (t, ts)) = do
  x ← target_at inner t
  functions_at (Two x.0) x.1 ts

abbrev pub version_by : ℕ → Option Name → Trees → Read Certificate
version_by at None ts = Err (next (next at))
version_by at (Some v) ts =
    if same_name v (codes "1") then functions_at One (next (next (next at))) ts
    else if same_name v (codes "2") then second_row at (next (next (next at))) (first_of ts)
    else Err (next (next at))

abbrev pub certificate_row : ℕ → Option (Tree × Trees) → Read Certificate
certificate_row at None = Err at
certificate_row at (Some (v, ts)) = version_by at (word_in v) ts

abbrev pub certificate_by : ℕ → Option (Name × Trees) → Read Certificate
certificate_by at None = Err at
certificate_by at (Some (head, ts)) = if same_name head (codes "cert") then certificate_row at (first_of ts) else Err at

abbrev pub certificate_at : ℕ → Tree → Read Certificate
certificate_at at t = certificate_by at (headed_in t)
