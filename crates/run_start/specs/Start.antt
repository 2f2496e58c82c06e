-- Where the run of a C function begins, by the text of a memory: its numbers as words of the widths that the types have, its bytes and
-- its tags, and the globals, of which those that the text doesn't name have their initial values. 256 calls may be nested, and the
-- choice is the fill number's.
use Rattle.std.specs.Prelude.{ℕ, ℤ, List, [], ◌∷◌, Some, unwrap_or, if◌then◌else◌}
use Rattle.c_values.specs.Name.{Name, same_name}
use Rattle.c_values.specs.Word.{word}
use Rattle.c_values.specs.Value.{Value, Values, Bits, Number, Truth, Parts, no_values, more, nothing}
use Rattle.c_values.specs.Layout.{Layout, Shape, Scalar, GlobalVar, shape_of}
use Rattle.c_values.specs.Choice.{Fill}
use Rattle.c_memory.specs.Memory as bytes
use Rattle.c_memory.specs.Ranges.{run_byte}
use Rattle.c_lang.specs.Typed.{TypedUnit, TypedFn}
use Rattle.exactness.specs.Exact.{Begin}
use Rattle.memory_text.specs.ValueText.{parts_of}
use Rattle.memory_text.specs.MemoryText.{Setting, Memory, parameter_shapes}

-- a scalar's number becomes a word
abbrev pub word_at : Shape → ℤ → Value
word_at (Scalar t width) n = Bits (word width n)
word_at s n = Number n

abbrev mutual
  -- a value of a shape, each of its numbers being a word of the width that the shape has there
  pub as_words : Shape → Value → Value
  as_words s (Number n) = word_at s n
  as_words s (Parts vs) = Parts (all_as_words (unwrap_or (parts_of s) []) vs)
  as_words s (Bits w) = Bits w
  as_words s (Truth b) = Truth b

  -- one of each shape
  pub all_as_words : List Shape → Values → Values
  all_as_words (s ∷ ss) (more v vs) = more (as_words s v) (all_as_words ss vs)
  all_as_words _ _ = no_values

abbrev pub listed : Values → List Value
listed no_values = []
listed (more v vs) = v ∷ listed vs

-- the arguments of a function
abbrev pub arguments_in : Layout → TypedFn → Memory → List Value
arguments_in l f m = listed (all_as_words (parameter_shapes l f) m.arguments)

-- the bytes in ranges, the others being 0, and the tags
abbrev pub bytes_in : Memory → bytes.Memory
bytes_in m = record { bytes = run_byte m.bytes; tags = m.tags }

-- The value that a global begins with: the first one that is set, where that is its own, else the initial one. And what is set of the
-- globals behind it.
abbrev pub value_set : Layout → GlobalVar → List Setting → Value × List Setting
value_set l g [] = (g.initial, [])
value_set l g (s ∷ ss) = if same_name g.name s.name then (as_words (shape_of l g.type) s.value, ss) else (g.initial, s ∷ ss)

-- those of all globals; what is set comes in their order
abbrev pub values_set : Layout → List GlobalVar → List Setting → List Value
values_set l [] ss = []
values_set l (g ∷ gs) ss = (value_set l g ss).0 ∷ values_set l gs (value_set l g ss).1

-- the values under the names of globals, one for each
abbrev pub named : List GlobalVar → List Value → Name → Value
named (g ∷ gs) (v ∷ vs) x = if same_name g.name x then v else named gs vs x
named _ _ x = nothing

abbrev pub globals_in : TypedUnit → Memory → Name → Value
globals_in u m = named u.globals (values_set u.layout u.globals m.globals)

-- how many calls may be nested in the first
abbrev pub nested_calls : ℕ
nested_calls = 256

abbrev pub begin_of : TypedUnit → TypedFn → Memory → Begin
begin_of u f m = record {
  turns = m.turns;
  depth = Some nested_calls;
  choice = Fill m.fill;
  memory = bytes_in m;
  globals = globals_in u m;
  arguments = arguments_in u.layout f m;
}
