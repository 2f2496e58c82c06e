-- The parser as a machine that takes one token after the other: a stack of symbols that are still to come, the values of
-- those that have been read, and the names of types: those that were made, and those that will be at the external's end.
use Rattle.std.specs.Prelude.{Bool, true, false, List, [], ◌∷◌, ◌++◌, Option, Some, None}
use Rattle.c_lex.specs.Lexeme.{Lexeme, Kind, name}
use Rattle.c_grammar.specs.declared.symbol.Production.{Production}
use Rattle.c_grammar.specs.declared.symbol.Symbol.{Symbol}
use Rattle.c_grammar.specs.declared.symbol.Symbol.TheVariants as symbol
use Rattle.c_grammar.specs.Tree.{Name}
use Rattle.c_grammar.specs.Operators.{is_made}
use Rattle.c_grammar.specs.CodeChoice.{Refuse, Pass, Take, choice_of}
use Rattle.c_grammar.specs.CodeBuild.{Value, Tok, OfUnit, act, acts}

-- the token is a name that a typedef made
abbrev pub is_type : List Name → Kind → Bool
is_type ns (name n) = is_made ns n
is_type ns _ = false

-- the names of types behind a symbol that is complete: those made before, and those at the end of the external
abbrev pub made_behind : Symbol → List Name → List Name → List Name
made_behind (symbol.Made true) ns next = next
made_behind s ns next = ns

abbrev pub next_behind : Symbol → List Name → List Name → List Name
next_behind (symbol.Made false) ns next = ns
next_behind s ns next = next

-- the names at the end of the external, behind a token that was taken
abbrev pub noted : Symbol → Kind → List Name → List Name
noted symbol.NewName (name n) next = n ∷ next
noted (symbol.Tops f) (name n) next = n ∷ next
noted s k next = next

pub record State : Type 0 where
  pub stack : List Symbol
  pub made : List Name
  pub next : List Name
  pub values : List Value

-- the production that a symbol ends
abbrev pub ended : Symbol → Option Production
ended (symbol.End p) = Some p
ended s = None

-- a state in which no production ends on top of the stack
abbrev pub settle : List Name → List Name → List Symbol → Option (List Value) → Option State
settle ns next stack None = None
settle ns next [] (Some vs) = Some (record { stack = []; made = ns; next = next; values = vs })
settle ns next (s ∷ stack) (Some vs) =
    elim (ended s) [
      | Some p ↦ settle ns next stack (act p vs)
      | None ↦ Some (record { stack = s ∷ stack; made = ns; next = next; values = vs })
    ]

-- a token is taken
abbrev pub advance : List Name → List Name → Lexeme → List Symbol → Option (List Value) → Option State
advance ns next t stack None = None
advance ns next t [] (Some vs) = None
advance ns next t (s ∷ stack) (Some vs) =
    elim (choice_of s (is_type ns t.kind) t.kind) [
      | Refuse ↦ None
      | Pass before ↦ advance (made_behind s ns next) (next_behind s ns next) t stack (acts before (Some vs))
      | Take before more ↦
          elim (acts before (Some vs)) [
            | None ↦ None
            | Some ws ↦ settle ns (noted s t.kind next) (more ++ stack) (Some (Tok t ∷ ws))
          ]
    ]

-- the end of the text
abbrev pub finish : List Symbol → Option (List Value) → Option (List Value)
finish stack None = None
finish [] (Some vs) = Some vs
finish (symbol.Externals ∷ stack) (Some vs) = finish stack (Some (OfUnit [] ∷ vs))
finish (symbol.Made f ∷ stack) (Some vs) = finish stack (Some vs)
finish (symbol.End p ∷ stack) (Some vs) = finish stack (act p vs)
finish (s ∷ stack) (Some vs) = None

abbrev pub run : Option State → List Lexeme → Option (List Value)
run None ts = None
run (Some st) [] = finish st.stack (Some st.values)
run (Some st) (t ∷ ts) = run (advance st.made st.next t st.stack (Some st.values)) ts

-- a run from a stack and values
unfoldable pub go : List Name → List Name → List Symbol → List Value → List Lexeme → Option (List Value)
go ns next stack vs = run (settle ns next stack (Some vs))

-- what is read of a whole text
unfoldable pub read : List Lexeme → Option (List Value)
read = go [] [] (symbol.Externals ∷ []) []
