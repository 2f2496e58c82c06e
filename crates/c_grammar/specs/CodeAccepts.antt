-- The parser as a machine that only says whether the tokens are those of some tree: a stack of symbols that are still to
-- come, and the names of types: those that were made, and those that will be at the external's end.
use Rattle.std.specs.Prelude.{ℕ, Bool, true, false, List, [], ◌∷◌, ◌++◌, Option, Some, None}
use Rattle.c_lex.specs.Lexeme.{Lexeme}
use Rattle.c_grammar.specs.declared.symbol.Symbol.{Symbol}
use Rattle.c_grammar.specs.declared.symbol.Symbol.TheVariants as symbol
use Rattle.c_grammar.specs.Tree.{Name}
use Rattle.c_grammar.specs.CodeChoice.{Refuse, Pass, Take, choice_of}
use Rattle.c_grammar.specs.CodeStack.{is_type, made_behind, next_behind, noted, ended}

pub record Stage : Type 0 where
  pub stack : List Symbol
  pub made : List Name
  pub next : List Name

-- the stack without the productions that end on top of it
abbrev pub drop_ends : List Symbol → List Symbol
drop_ends [] = []
drop_ends (s ∷ stack) = elim (ended s) [ Some p ↦ drop_ends stack | None ↦ s ∷ stack ]

-- a token is taken
abbrev pub forward : List Name → List Name → Lexeme → List Symbol → Option Stage
forward ns next t [] = None
forward ns next t (s ∷ stack) =
    elim (choice_of s (is_type ns t.kind) t.kind) [
      | Refuse ↦ None
      | Pass before ↦ forward (made_behind s ns next) (next_behind s ns next) t stack
      | Take before more ↦ Some (record { stack = drop_ends (more ++ stack); made = ns; next = noted s t.kind next })
    ]

-- nothing is still to come but further externals, of which there need be none
abbrev pub is_complete : List Symbol → Bool
is_complete [] = true
is_complete (symbol.Externals ∷ stack) = is_complete stack
is_complete (symbol.Made f ∷ stack) = is_complete stack
is_complete (symbol.End p ∷ stack) = is_complete stack
is_complete (s ∷ stack) = false

abbrev pub accepts : Option Stage → List Lexeme → Bool
accepts None ts = false
accepts (Some st) [] = is_complete st.stack
accepts (Some st) (t ∷ ts) = accepts (forward st.made st.next t st.stack) ts

-- before the first token
abbrev pub first_stage : Stage
first_stage = record { stack = symbol.Externals ∷ []; made = []; next = [] }

-- where the machine stops: at the start of the token that it refuses, or at the end of the last one, here `at` so far
abbrev pub stop : ℕ → Stage → List Lexeme → ℕ
stop at st [] = at
stop at st (t ∷ ts) = elim (forward st.made st.next t st.stack) [ None ↦ t.from | Some later ↦ stop t.to later ts ]
