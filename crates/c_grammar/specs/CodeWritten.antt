-- The script that the machine of Accepts writes: each step where it comes.
use Rattle.std.specs.Prelude.{List, [], ◌∷◌, ◌++◌, Option, Some, None, map}
use Rattle.c_lex.specs.declared.token.Punct.TheVariants as sign
use Rattle.c_lex.specs.Lexeme.{Lexeme, Kind, name, punct}
use Rattle.c_grammar.specs.declared.scripts.Step.{Step}
use Rattle.c_grammar.specs.declared.scripts.Step.TheVariants.{Shift, Reduce}
use Rattle.c_grammar.specs.declared.symbol.Production.{Production}
use Rattle.c_grammar.specs.declared.symbol.Production.TheVariants as ends
use Rattle.c_grammar.specs.declared.symbol.Symbol.{Symbol}
use Rattle.c_grammar.specs.declared.symbol.Symbol.TheVariants as symbol
use Rattle.c_grammar.specs.declared.symbol.Wanted.TheVariants as wanted
use Rattle.c_grammar.specs.Tree.{Name}
use Rattle.c_grammar.specs.CodeChoice.{Refuse, Pass, Take, choice_of}
use Rattle.c_grammar.specs.CodeStack.{is_type, made_behind, next_behind, ended}
use Rattle.c_grammar.specs.CodeAccepts.{Stage, forward}

-- the production that ends where a symbol goes away without a token
abbrev pub ended_by : Symbol → Option Production
ended_by (symbol.Words b q) = Some ends.NoWords
ended_by (symbol.Tail b wanted.Right r) = Some ends.Value
ended_by (symbol.Tail b wanted.Sized r) = Some ends.SizeofValue
ended_by (symbol.StructBody b) = Some ends.StructTag
ended_by (symbol.EnumBody b) = Some ends.EnumTag
ended_by symbol.EnumValue = Some ends.Implicit
ended_by (symbol.Stars f) = Some ends.NoStars
ended_by (symbol.Dimensions b) = Some ends.NoDimensions
ended_by symbol.Else = Some ends.If
ended_by symbol.Items = Some ends.NoItems
ended_by symbol.InitValue = Some ends.NoInit
ended_by symbol.Groups = Some ends.NoGroups
ended_by symbol.Labels = Some ends.NoLabels
ended_by symbol.TopParameters = Some ends.NoParameters
ended_by symbol.TopValue = Some ends.NoValue
ended_by symbol.ParameterName = Some ends.NoParameterName
ended_by symbol.ParameterBracket = Some ends.NoBracket
ended_by (symbol.End p) = Some p
ended_by s = None

-- the productions that end before a token that a symbol takes
abbrev pub ended_before : Symbol → Kind → List Production
ended_before (symbol.Tops f) (name n) = ends.NoStars ∷ []
ended_before symbol.FirstParameters (punct sign.Equal) = ends.NoParameters ∷ []
ended_before symbol.FirstParameters (punct sign.Comma) = ends.NoParameters ∷ ends.NoValue ∷ ends.Top ∷ []
ended_before symbol.FirstParameters (punct sign.Semicolon) = ends.NoParameters ∷ ends.NoValue ∷ ends.Top ∷ []
ended_before symbol.FirstRest (punct sign.Comma) = ends.NoValue ∷ ends.Top ∷ []
ended_before symbol.FirstRest (punct sign.Semicolon) = ends.NoValue ∷ ends.Top ∷ []
ended_before s k = []

abbrev pub reduces : List Production → List Step
reduces ps = map Reduce ps

abbrev pub reduces_one : Option Production → List Step
reduces_one None = []
reduces_one (Some p) = Reduce p ∷ []

-- the ends of productions on top of the stack
abbrev pub end_steps : List Symbol → List Step
end_steps [] = []
end_steps (s ∷ stack) = elim (ended s) [ Some p ↦ Reduce p ∷ end_steps stack | None ↦ [] ]

-- a token is taken
abbrev pub token_steps : List Name → List Name → Lexeme → List Symbol → List Step
token_steps ns next t [] = []
token_steps ns next t (s ∷ stack) =
    elim (choice_of s (is_type ns t.kind) t.kind) [
      | Refuse ↦ []
      | Pass before ↦ reduces_one (ended_by s) ++ token_steps (made_behind s ns next) (next_behind s ns next) t stack
      | Take before more ↦ reduces (ended_before s t.kind) ++ Shift ∷ end_steps (more ++ stack)
    ]

-- the end of the text
abbrev pub last_steps : List Symbol → List Step
last_steps [] = []
last_steps (symbol.Externals ∷ stack) = Reduce ends.NoExternals ∷ last_steps stack
last_steps (symbol.Made f ∷ stack) = last_steps stack
last_steps (symbol.End p ∷ stack) = Reduce p ∷ last_steps stack
last_steps (s ∷ stack) = []

-- the tokens from a stage on
abbrev pub script : Option Stage → List Lexeme → List Step
script None ts = []
script (Some st) [] = last_steps st.stack
script (Some st) (t ∷ ts) = token_steps st.made st.next t st.stack ++ script (forward st.made st.next t st.stack) ts
