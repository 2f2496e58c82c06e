-- What programs give of objects in objects, on bytes, and on the typed heap that is their view.
-- struct inner { int x; int y; }; struct outer { struct inner a; struct inner b[3]; };
use Rattle.std.specs.Prelude.{◌≡◌, ℕ, List, [], ◌∷◌, Some, pos, codes}
use Rattle.correspondence.specs.Outcome.{Done, Ends}
use Rattle.c_values.specs.Types.{CType, Struct, Array}
use Rattle.c_values.specs.Word.{word}
use Rattle.c_values.specs.Value.{Value, nothing}
use Rattle.c_values.specs.Layout.{Layout, StructDef}
use Rattle.c_values.specs.Choice.{Fill}
use Rattle.c_memory.specs.Memory.{Memory}
use Rattle.c_memory.specs.TypedHeap.{view}
use Rattle.c_memory.specs.Heap.{Heap, OnBytes, OnTypes}
use Rattle.expression_lang.specs.Expression.{Exp, WordLit, NumberLit, Load, Read, Path, Here, IntoField, IntoElement}
use Rattle.expression_lang.specs.Sort.{Words, WordKind}
use Rattle.monad_lang.specs.Program.{Mon, Ret, Bind, Write, Stored, Written, FinalUnit}
use Rattle.monad_lang.specs.Run.{Answer, Failure, program_runs}
use Rattle.worked_rows.specs.Trees.{int, value, layout}
use Rattle.worked_rows.specs.Claims.{bytes_from, zeros, tag}

abbrev pub inner : CType
inner = Struct (codes "inner")

abbrev pub outer : CType
outer = Struct (codes "outer")

abbrev pub structs : List StructDef
structs =
    record { name = codes "inner"; members = record { name = codes "x"; type = int } ∷ record { name = codes "y"; type = int } ∷ [] }
    ∷ record { name = codes "outer"; members = record { name = codes "a"; type = inner } ∷ record { name = codes "b"; type = Array inner 3 } ∷ [] }
    ∷ []

abbrev pub l : Layout
l = layout structs

-- an `outer` at 4096, of the bytes from 1 to 32
abbrev pub memory : Memory
memory = record {
  bytes = bytes_from 4096 (1 ∷ 2 ∷ 3 ∷ 4 ∷ 5 ∷ 6 ∷ 7 ∷ 8 ∷ 9 ∷ 10 ∷ 11 ∷ 12 ∷ 13 ∷ 14 ∷ 15 ∷ 16
      ∷ 17 ∷ 18 ∷ 19 ∷ 20 ∷ 21 ∷ 22 ∷ 23 ∷ 24 ∷ 25 ∷ 26 ∷ 27 ∷ 28 ∷ 29 ∷ 30 ∷ 31 ∷ 32 ∷ []) zeros;
  tags = tag 4096 outer ∷ [];
}

abbrev pub address : ℕ → Exp
address a = WordLit (word 32 (pos a))

-- .a.x and .b[2].y; the second is at 4124
abbrev pub first : Path
first = IntoField 0 (IntoField 0 Here)

abbrev pub last : Path
last = IntoField 1 (IntoElement (NumberLit (pos 2)) (IntoField 1 Here))

-- a program on bytes, and what the step to typed heaps makes of it
pub record Step : Type 0 where
  pub left : Mon
  pub right : Mon

-- the value at a place
abbrev pub given : CType → ℕ → Path → Step
given t a path = record { left = Ret (Load t (address a) path ∷ []); right = Ret (Read t (address a) path ∷ []) }

-- a value to a place, and then what comes after it
abbrev pub storing : CType → ℕ → Path → Exp → Exp → Step → Step
storing t a path e e' rest = record {
  left = Bind (Write (Stored t (address a) path) e) [] rest.left;
  right = Bind (Write (Written t (address a) path) e') [] rest.right;
}

abbrev pub unit_of : Mon → FinalUnit
unit_of m = record {
  layout = l;
  globals = [];
  functions = record { name = codes "f"; level = Words; params = []; results = WordKind 32 ∷ []; body = m } ∷ [];
}

abbrev pub ends : Heap → Mon → Ends Answer Failure
ends h m = program_runs (unit_of m) (Fill 0) 0 (Some 0)
    (record { name = codes "f"; arguments = []; state = record { heap = h; globals = λ x. nothing } })

pub record Gives (h : Heap) (m : Mon) (v : Value) : Type 0 where
  pub answer : Answer
  pub is_end : ends h m (Done answer)
  pub has_value : answer.values ≡ v ∷ []

-- The program on bytes gives the value, and so does the other one, on the view of the bytes and on the bytes.
pub record GiveBoth (s : Step) (v : Value) : Type 0 where
  pub left : Gives (OnBytes memory) s.left v
  pub right : Gives (OnTypes (view l memory)) s.right v
  pub on_bytes : Gives (OnBytes memory) s.right v
