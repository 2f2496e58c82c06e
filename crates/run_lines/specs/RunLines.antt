-- The lines that say how the run of a C function and the run of its program end, from one memory: what each gives, and what its state
-- has at the memory's tags, in the globals and, on bytes, in the memory's ranges; or why it gives nothing; and the verdict on both.
use Rattle.std.specs.Prelude.{ℕ, zero, suc, ◌+◌, List, [], ◌∷◌, ◌++◌, length, Option, Some, None, codes}
use Rattle.std.specs.Fmt.{decimal}
use Rattle.hex.specs.Hex.{encode_lower}
use Rattle.correspondence.specs.Outcome.{Outcome, Done, Failed, Stopped, Limit, Turns, Depth}
use Rattle.c_values.specs.Name.{Name}
use Rattle.c_values.specs.Types.{CType}
use Rattle.c_values.specs.Value.{Value}
use Rattle.c_values.specs.Layout.{Layout, GlobalVar}
use Rattle.c_memory.specs.Memory.{Tag}
use Rattle.c_memory.specs.Ranges.{Run}
use Rattle.c_memory.specs.Heap.{Heap, OnBytes, OnTypes, read_heap}
use Rattle.expression_lang.specs.Evaluation.{State}
use Rattle.expression_lang.specs.GuardKind.{GuardKind}
use Rattle.expression_lang.specs.Machine.{Returned}
use Rattle.expression_lang.specs.Wide.{Operation}
use Rattle.expression_text.specs.Head.{head_word}
use Rattle.expression_text.specs.Numbers.{number_text}
use Rattle.expression_text.specs.Row.{number_op_head}
use Rattle.monad_lang.specs.Run.{Answer}
use Rattle.command_text.specs.CommandText.{guard_word}
use Rattle.c_lang.specs.Typed.{TypedUnit, TypedFn}
use Rattle.memory_text.specs.MemoryText.{Memory}
use Rattle.run_lines.specs.Shown.{value_text}

abbrev pub line_end : List ℕ
line_end = codes "\n"

-- the value of a function that has a result
abbrev pub result_text : Layout → Option CType → Option Value → List ℕ
result_text l (Some t) (Some v) = codes " " ++ value_text l t v
result_text l _ _ = []

-- Each line begins with the word of its group.

abbrev pub result_line : Name → Layout → Option CType → Option Value → List ℕ
result_line who l t v = who ++ (codes " value" ++ (result_text l t v ++ line_end))

-- what the heap has at a tag
abbrev pub tag_line : Name → Layout → Heap → Tag → List ℕ
tag_line who l h t =
    who ++ (codes " at " ++ (decimal t.address ++ (codes " " ++ (value_text l t.type (read_heap l h t.type t.address []) ++ line_end))))

abbrev pub tag_lines : Name → Layout → Heap → List Tag → List ℕ
tag_lines who l h [] = []
tag_lines who l h (t ∷ ts) = tag_line who l h t ++ tag_lines who l h ts

abbrev pub global_line : Name → Layout → GlobalVar → Value → List ℕ
global_line who l g v = who ++ (codes " global " ++ (g.name ++ (codes " " ++ (value_text l g.type v ++ line_end))))

abbrev pub global_lines : Name → Layout → List GlobalVar → (Name → Value) → List ℕ
global_lines who l [] globals = []
global_lines who l (g ∷ gs) globals = global_line who l g (globals g.name) ++ global_lines who l gs globals

-- so many bytes from an address on
abbrev pub bytes_from : (ℕ → ℕ) → ℕ → ℕ → List ℕ
bytes_from bytes a zero = []
bytes_from bytes a (suc n) = bytes a ∷ bytes_from bytes (a + 1) n

abbrev pub range_line : Name → (ℕ → ℕ) → Run → List ℕ
range_line who bytes r =
    who ++ (codes " bytes " ++ (decimal r.address ++ (codes " " ++ (encode_lower (bytes_from bytes r.address (length r.bytes)) ++ line_end))))

-- as many bytes as each range has
abbrev pub range_lines : Name → (ℕ → ℕ) → List Run → List ℕ
range_lines who bytes [] = []
range_lines who bytes (r ∷ rs) = range_line who bytes r ++ range_lines who bytes rs

-- a typed heap has no bytes
abbrev pub bytes_lines : Name → Heap → List Run → List ℕ
bytes_lines who (OnBytes m) rs = range_lines who m.bytes rs
bytes_lines who (OnTypes cells) rs = []

abbrev pub state_lines : Name → TypedUnit → Memory → State → List ℕ
state_lines who u m s =
    tag_lines who u.layout s.heap m.tags ++ (global_lines who u.layout u.globals s.globals ++ bytes_lines who s.heap m.bytes)

abbrev pub limit_text : Limit → List ℕ
limit_text Turns = codes " out of turns"
limit_text Depth = codes " deep"

abbrev pub c_word : Name
c_word = codes "c"

abbrev pub program_word : Name
program_word = codes "abstract"

abbrev pub c_lines : TypedUnit → TypedFn → Memory → Outcome Returned GuardKind → List ℕ
c_lines u f m (Done r) = result_line c_word u.layout f.result r.result ++ state_lines c_word u m r.state
c_lines u f m (Failed k) = c_word ++ (codes " guard " ++ (guard_word k ++ line_end))
c_lines u f m (Stopped limit) = c_word ++ (limit_text limit ++ line_end)

-- Of a program the trouble is an operation that is wide, or none: it fails.

-- a program gives one value or none
abbrev pub first_of : List Value → Option Value
first_of [] = None
first_of (v ∷ vs) = Some v

abbrev pub wide_text : Operation → List ℕ
wide_text o = codes " wide " ++ (head_word (number_op_head o.op) ++ (codes " " ++ (number_text o.first ++ (codes " " ++ number_text o.second))))

abbrev pub trouble_text : Option Operation → List ℕ
trouble_text None = codes " fails"
trouble_text (Some o) = wide_text o

abbrev pub program_lines : TypedUnit → TypedFn → Memory → Outcome Answer (Option Operation) → List ℕ
program_lines u f m (Done a) = result_line program_word u.layout f.result (first_of a.values) ++ state_lines program_word u m a.state
program_lines u f m (Failed trouble) = program_word ++ (trouble_text trouble ++ line_end)
program_lines u f m (Stopped limit) = program_word ++ (limit_text limit ++ line_end)

pub data Verdict : Type 0 where
  Agree : Verdict
  Fail : Verdict
  Open : Verdict

-- both give values; or the program fails; or neither
abbrev pub verdict : Outcome Returned GuardKind → Outcome Answer (Option Operation) → Verdict
verdict c (Failed None) = Fail
verdict (Done r) (Done a) = Agree
verdict c p = Open

abbrev pub verdict_text : Verdict → List ℕ
verdict_text Agree = codes "agree"
verdict_text Fail = codes "failed"
verdict_text Open = codes "open"

abbrev pub run_lines : TypedUnit → TypedFn → Memory → Outcome Returned GuardKind → Outcome Answer (Option Operation) → List ℕ
run_lines u f m c p = c_lines u f m c ++ (program_lines u f m p ++ (verdict_text (verdict c p) ++ line_end))
