-- What contracts see of the values on the builder's stack, and what is taken from there, put there and built there.
use Rattle.std.specs.Prelude.{◌≡◌, Bool, false, List, ◌∷◌, Result, Ok, Err, Some, map, string_bytes}
use Rattle.std.specs.Option.{option_map}
use Rattle.c_lex.specs.Lexeme.{lexeme_of}
use Rattle.c_grammar.specs.Tree.{Typed}
use Rattle.c_grammar.specs.declared.symbol.Production.{Production}
use Rattle.c_grammar.specs.CodeBuild as plain
use Rattle.c_grammar.specs.CodeBuild.{act}
use Rattle.c_grammar.specs.CodeTree.{exp_of, words_of, word_of, members_of, declarators_of, declarator_of, dimensions_of, enumerators_of, enumerator_of, call_of, rhs_of, simple_of, init_of, local_of, label_of, start_of, stmt_of, items_of, groups_of, bracket_of, param_of, top_of, decl_of}
use Rattle.c_build.specs.Parts.{top_is, fits, parts}
use Rattle.c_build.specs.declared.build.stack.BuildFault.{BuildFault}
use Rattle.c_build.specs.declared.build.stack.BuildFault.TheVariants.{Missing, Memory}
use Rattle.c_build.specs.declared.build.value.Value.{Value}
use Rattle.c_build.specs.declared.build.value.Value.TheVariants as of

abbrev pub value_of : Value → plain.Value
value_of (of.Token t) = plain.Tok (lexeme_of t.now)
value_of (of.Expression e) = plain.OfExp (exp_of e.value)
value_of (of.TypeName ws stars) = plain.OfType (Typed (words_of ws.value) stars.items)
value_of (of.Word w) = plain.OfWord (word_of w.value)
value_of (of.Words ws) = plain.OfWords (words_of ws.value)
value_of (of.Members ms) = plain.OfMembers (members_of ms.value)
value_of (of.Declarators ds) = plain.OfDeclarators (declarators_of ds.value)
value_of (of.Declarator d) = plain.OfDeclarator (declarator_of d.value)
value_of (of.Dimensions ds) = plain.OfDimensions (dimensions_of ds.value)
value_of (of.Stars stars) = plain.OfStars stars
value_of (of.Enumerators es) = plain.OfEnumerators (enumerators_of es.value)
value_of (of.Enumerator e) = plain.OfEnumerator (enumerator_of e.value)
value_of (of.Arguments x) = plain.OfExps (map exp_of x)
value_of (of.Call c) = plain.OfCall (call_of c.value)
value_of (of.Right r) = plain.OfRhs (rhs_of r.value)
value_of (of.Simple s) = plain.OfSimple (simple_of s.value)
value_of (of.Initial x) = plain.OfInit (option_map (λ r. rhs_of r.value) x)
value_of (of.Inits x) = plain.OfInits (map init_of x)
value_of (of.Local l) = plain.OfLocal (local_of l.value)
value_of (of.Label l) = plain.OfLabel (label_of l.value)
value_of (of.Labels x) = plain.OfLabels (map label_of x)
value_of (of.Start s) = plain.OfStart (start_of s.value)
value_of (of.Test x) = plain.OfTest (option_map (λ e. exp_of e.value) x)
value_of (of.Step x) = plain.OfStep (option_map (λ s. simple_of s.value) x)
value_of (of.Statement s) = plain.OfStmt (stmt_of s.value)
value_of (of.Items is) = plain.OfItems (items_of is.value)
value_of (of.Groups gs) = plain.OfGroups (groups_of gs.value)
value_of (of.Bracket b) = plain.OfBracket (bracket_of b.value)
value_of (of.ParameterName x) = plain.OfParamName (option_map (λ n. (n.0, string_bytes n.1)) x)
value_of (of.Parameter p) = plain.OfParam (param_of p.value)
value_of (of.ParameterList x) = plain.OfParams (map param_of x)
value_of (of.Parameters x) = plain.OfParameters (option_map (λ ps. map param_of ps.items) x)
value_of (of.Top t) = plain.OfTop (top_of t.value)
value_of (of.Tops x) = plain.OfTops (map top_of x)
value_of (of.External d) = plain.OfExternal (decl_of d.value)
value_of (of.Text x) = plain.OfUnit (map decl_of x)

-- the values of a stack, the last one first
unfoldable pub values_of : List Value → List plain.Value
values_of vs = map value_of vs

-- a part of this form is taken from the top; it is missing only where the top isn't of this form
abbrev pub Takes : {A T : Type 0} → (A → plain.Value) → (plain.Value → Bool) → (T → A) → List plain.Value → Result T BuildFault → List plain.Value → Type 0
Takes form is_form part_of vs (Ok part) ws = vs ≡ form (part_of part) ∷ ws
Takes form is_form part_of vs (Err e) ws = (e ≡ Missing) × (top_is is_form vs ≡ false)

-- this value is put on top, or memory runs out
abbrev pub Puts : {U : Type 0} → plain.Value → List plain.Value → Result U BuildFault → List plain.Value → Type 0
Puts v vs (Ok done) ws = ws ≡ v ∷ vs
Puts v vs (Err e) ws = e ≡ Memory

-- what the end of a production makes of the values: a part is missing only where they do not fit its parts
abbrev pub Acts : {U : Type 0} → Production → List plain.Value → Result U BuildFault → List plain.Value → Type 0
Acts p vs (Ok done) ws = act p vs ≡ Some ws
Acts p vs (Err Missing) ws = fits (parts p) vs ≡ false
Acts p vs (Err Memory) ws = Unit {0}
