-- How the trees are built: the values of the symbols that have been read stand on a stack, the last one first, and where a
-- production ends, its parts are taken from there and its tree is put there.
use Rattle.std.specs.Prelude.{ℕ, true, false, List, [], ◌∷◌, Option, Some, None}
use Rattle.c_lex.specs.declared.token.Keyword.{Keyword}
use Rattle.c_lex.specs.declared.token.Keyword.TheVariants as word
use Rattle.c_lex.specs.Lexeme.{Lexeme, Kind, name, keyword, character, number}
use Rattle.c_grammar.specs.declared.symbol.Production.{Production}
use Rattle.c_grammar.specs.declared.symbol.Production.TheVariants as ends
use Rattle.c_grammar.specs.Tree as tree
use Rattle.c_grammar.specs.Tree.{Name, Exp, TypeName, Words, Word, Members, Declarators, Declarator, Dimensions, Enumerators, Enumerator, Call, Rhs, Simple, Init, Local, Label, Start, Stmt, Items, Groups, Bracket, Param, Top, External}
use Rattle.c_grammar.specs.Spells.{parameters}

pub data Value : Type 0 where
  Tok : Lexeme → Value
  OfExp : Exp → Value
  OfType : TypeName → Value
  OfWord : Word → Value
  OfWords : Words → Value
  OfMembers : Members → Value
  OfDeclarators : Declarators → Value
  OfDeclarator : Declarator → Value
  OfDimensions : Dimensions → Value
  OfStars : List ℕ → Value
  OfEnumerators : Enumerators → Value
  OfEnumerator : Enumerator → Value
  OfExps : List Exp → Value
  OfCall : Call → Value
  OfRhs : Rhs → Value
  OfSimple : Simple → Value
  OfInit : Option Rhs → Value
  OfInits : List Init → Value
  OfLocal : Local → Value
  OfLabel : Label → Value
  OfLabels : List Label → Value
  OfStart : Start → Value
  OfTest : Option Exp → Value
  OfStep : Option Simple → Value
  OfStmt : Stmt → Value
  OfItems : Items → Value
  OfGroups : Groups → Value
  OfBracket : Bracket → Value
  OfParamName : Option (ℕ × Name) → Value
  OfParam : Param → Value
  OfParams : List Param → Value
  OfParameters : Option (List Param) → Value
  OfTop : Top → Value
  OfTops : List Top → Value
  OfExternal : External → Value
  OfUnit : List External → Value

abbrev pub name_in : Kind → Name
name_in (name n) = n
name_in _ = []

abbrev pub keyword_in : Kind → Keyword
keyword_in (keyword k) = k
keyword_in _ = word.Void

abbrev pub constant : ℕ → Kind → Exp
constant a (number value decimal unsigned longs) = tree.Number a value decimal unsigned longs
constant a (character value) = tree.Character a value
constant a _ = tree.Variable a []

unfoldable pub act : Production → List Value → Option (List Value)
act ends.Name (Tok t ∷ vs) = Some (OfExp (tree.Variable t.from (name_in t.kind)) ∷ vs)
act ends.Number (Tok t ∷ vs) = Some (OfExp (constant t.from t.kind) ∷ vs)
act ends.Character (Tok t ∷ vs) = Some (OfExp (constant t.from t.kind) ∷ vs)
act ends.Parenthesis (Tok t1 ∷ OfExp e ∷ Tok t ∷ vs) = Some (OfExp (tree.Parenthesis t.from e) ∷ vs)
act ends.Index (Tok t1 ∷ OfExp x ∷ Tok t ∷ OfExp e ∷ vs) = Some (OfExp (tree.Index e x) ∷ vs)
act ends.Member (Tok t1 ∷ Tok t ∷ OfExp e ∷ vs) = Some (OfExp (tree.Member e (name_in t1.kind)) ∷ vs)
act ends.PointerMember (Tok t1 ∷ Tok t ∷ OfExp e ∷ vs) = Some (OfExp (tree.PointerMember e (name_in t1.kind)) ∷ vs)
act (ends.Unary un) (OfExp e ∷ Tok t ∷ vs) = Some (OfExp (tree.Unary t.from un e) ∷ vs)
act ends.SizeofValue (OfExp e ∷ Tok t ∷ vs) = Some (OfExp (tree.SizeofValue t.from e) ∷ vs)
act ends.SizeofType (Tok t2 ∷ OfType ty ∷ Tok t1 ∷ Tok t ∷ vs) = Some (OfExp (tree.SizeofType t.from ty) ∷ vs)
act ends.Cast (OfExp e ∷ Tok t1 ∷ OfType ty ∷ Tok t ∷ vs) = Some (OfExp (tree.Cast t.from ty e) ∷ vs)
act (ends.Binary op) (OfExp y ∷ Tok t ∷ OfExp x ∷ vs) = Some (OfExp (tree.Binary op x y) ∷ vs)
act ends.Conditional (OfExp y ∷ Tok t1 ∷ OfExp x ∷ Tok t ∷ OfExp c ∷ vs) = Some (OfExp (tree.Conditional c x y) ∷ vs)
act ends.Value (OfExp e ∷ vs) = Some (OfRhs (tree.Value e) ∷ vs)
act ends.Call (OfExps es ∷ Tok t ∷ OfExp (tree.Variable a n) ∷ vs) = Some (OfCall (tree.Calls a n es) ∷ vs)
act ends.CallValue (OfCall call ∷ vs) = Some (OfRhs (tree.Result call) ∷ vs)
act ends.NoArguments (Tok t ∷ vs) = Some (OfExps [] ∷ vs)
act ends.LastArgument (Tok t ∷ OfExp e ∷ vs) = Some (OfExps (e ∷ []) ∷ vs)
act ends.MoreArguments (OfExps es ∷ Tok t ∷ OfExp e ∷ vs) = Some (OfExps (e ∷ es) ∷ vs)
act ends.TypeName (OfStars ats ∷ OfWords ws ∷ vs) = Some (OfType (tree.Typed ws ats) ∷ vs)
act ends.NoWords vs = Some (OfWords tree.NoWords ∷ vs)
act ends.MoreWords (OfWords ws ∷ OfWord w0 ∷ vs) = Some (OfWords (tree.MoreWords w0 ws) ∷ vs)
act ends.Reserved (Tok t ∷ vs) = Some (OfWord (tree.Reserved t.from (keyword_in t.kind)) ∷ vs)
act ends.Named (Tok t ∷ vs) = Some (OfWord (tree.Named t.from (name_in t.kind)) ∷ vs)
act ends.StructTag (Tok t1 ∷ Tok t ∷ vs) = Some (OfWord (tree.StructTag t.from (name_in t1.kind)) ∷ vs)
act ends.StructBody (OfMembers ms ∷ Tok t1 ∷ Tok t ∷ vs) = Some (OfWord (tree.StructBody t.from None ms) ∷ vs)
act ends.TaggedStruct (OfMembers ms ∷ Tok t2 ∷ Tok t1 ∷ Tok t ∷ vs) = Some (OfWord (tree.StructBody t.from (Some (name_in t1.kind)) ms) ∷ vs)
act ends.EnumTag (Tok t1 ∷ Tok t ∷ vs) = Some (OfWord (tree.EnumTag t.from (name_in t1.kind)) ∷ vs)
act ends.EnumBody (OfEnumerators ens ∷ Tok t1 ∷ Tok t ∷ vs) = Some (OfWord (tree.EnumBody t.from None ens) ∷ vs)
act ends.TaggedEnum (OfEnumerators ens ∷ Tok t2 ∷ Tok t1 ∷ Tok t ∷ vs) = Some (OfWord (tree.EnumBody t.from (Some (name_in t1.kind)) ens) ∷ vs)
act ends.LastMember (Tok t ∷ OfDeclarators ds ∷ OfWords ws ∷ vs) = Some (OfMembers (tree.LastMember ws ds) ∷ vs)
act ends.MoreMembers (OfMembers ms ∷ OfDeclarators ds ∷ OfWords ws ∷ vs) = Some (OfMembers (tree.MoreMembers ws ds ms) ∷ vs)
act ends.LastDeclarator (Tok t ∷ OfDeclarator d ∷ vs) = Some (OfDeclarators (tree.LastDeclarator d) ∷ vs)
act ends.MoreDeclarators (OfDeclarators ds ∷ Tok t ∷ OfDeclarator d ∷ vs) = Some (OfDeclarators (tree.MoreDeclarators d ds) ∷ vs)
act ends.NoStars vs = Some (OfStars [] ∷ vs)
act ends.MoreStars (OfStars ats ∷ Tok t ∷ vs) = Some (OfStars (t.from ∷ ats) ∷ vs)
act ends.StarConst (Tok t ∷ vs) = Some vs
act ends.Declarator (OfDimensions dims ∷ Tok t ∷ OfStars ats ∷ vs) = Some (OfDeclarator (tree.Declare ats t.from (name_in t.kind) dims) ∷ vs)
act ends.NoDimensions vs = Some (OfDimensions tree.NoDimensions ∷ vs)
act ends.MoreDimensions (OfDimensions dims ∷ Tok t1 ∷ OfExp e ∷ Tok t ∷ vs) = Some (OfDimensions (tree.MoreDimensions e dims) ∷ vs)
act ends.Implicit (Tok t ∷ vs) = Some (OfEnumerator (tree.Implicit t.from (name_in t.kind)) ∷ vs)
act ends.Explicit (OfExp e ∷ Tok t1 ∷ Tok t ∷ vs) = Some (OfEnumerator (tree.Explicit t.from (name_in t.kind) e) ∷ vs)
act ends.LastEnumerator (Tok t ∷ OfEnumerator en ∷ vs) = Some (OfEnumerators (tree.LastEnumerator en) ∷ vs)
act ends.LastEnumeratorComma (Tok t1 ∷ Tok t ∷ OfEnumerator en ∷ vs) = Some (OfEnumerators (tree.LastEnumerator en) ∷ vs)
act ends.MoreEnumerators (OfEnumerators ens ∷ Tok t ∷ OfEnumerator en ∷ vs) = Some (OfEnumerators (tree.MoreEnumerators en ens) ∷ vs)
act ends.Empty (Tok t ∷ vs) = Some (OfStmt (tree.Empty t.from) ∷ vs)
act ends.Block (Tok t1 ∷ OfItems its ∷ Tok t ∷ vs) = Some (OfStmt (tree.Block t.from its) ∷ vs)
act ends.Break (Tok t1 ∷ Tok t ∷ vs) = Some (OfStmt (tree.Break t.from) ∷ vs)
act ends.Continue (Tok t1 ∷ Tok t ∷ vs) = Some (OfStmt (tree.Continue t.from) ∷ vs)
act ends.Return (Tok t1 ∷ Tok t ∷ vs) = Some (OfStmt (tree.Return t.from None) ∷ vs)
act ends.ReturnValue (Tok t1 ∷ OfRhs rhs ∷ Tok t ∷ vs) = Some (OfStmt (tree.Return t.from (Some rhs)) ∷ vs)
act ends.If (OfStmt g ∷ Tok t2 ∷ OfExp e ∷ Tok t1 ∷ Tok t ∷ vs) = Some (OfStmt (tree.If t.from e g) ∷ vs)
act ends.IfElse (OfStmt h ∷ Tok t3 ∷ OfStmt g ∷ Tok t2 ∷ OfExp e ∷ Tok t1 ∷ Tok t ∷ vs) = Some (OfStmt (tree.IfElse t.from e g h) ∷ vs)
act ends.While (OfStmt g ∷ Tok t2 ∷ OfExp e ∷ Tok t1 ∷ Tok t ∷ vs) = Some (OfStmt (tree.While t.from e g) ∷ vs)
act ends.Do (Tok t4 ∷ Tok t3 ∷ OfExp e ∷ Tok t2 ∷ Tok t1 ∷ OfStmt g ∷ Tok t ∷ vs) = Some (OfStmt (tree.Do t.from g e) ∷ vs)
act ends.For (OfStmt g ∷ OfStep sp ∷ OfTest te ∷ OfStart start ∷ Tok t1 ∷ Tok t ∷ vs) = Some (OfStmt (tree.For t.from start te sp g) ∷ vs)
act ends.Switch (Tok t4 ∷ OfGroups gs ∷ Tok t3 ∷ Tok t2 ∷ OfExp e ∷ Tok t1 ∷ Tok t ∷ vs) = Some (OfStmt (tree.Switch t.from e gs) ∷ vs)
act ends.Simple (Tok t ∷ OfSimple sim ∷ vs) = Some (OfStmt (tree.Simply sim) ∷ vs)
act ends.Assign (OfRhs rhs ∷ Tok t ∷ OfExp e ∷ vs) = Some (OfSimple (tree.Assign e rhs) ∷ vs)
act (ends.Update op) (OfExp x ∷ Tok t ∷ OfExp e ∷ vs) = Some (OfSimple (tree.Update op e x) ∷ vs)
act (ends.After st) (Tok t ∷ OfExp e ∷ vs) = Some (OfSimple (tree.After st e) ∷ vs)
act (ends.Before st) (OfExp e ∷ Tok t ∷ vs) = Some (OfSimple (tree.Before t.from st e) ∷ vs)
act ends.Invoke (OfCall call ∷ vs) = Some (OfSimple (tree.Invoke call) ∷ vs)
act ends.NoItems vs = Some (OfItems tree.NoItems ∷ vs)
act ends.LocalItem (OfItems its ∷ OfLocal loc ∷ vs) = Some (OfItems (tree.LocalItem loc its) ∷ vs)
act ends.StatementItem (OfItems its ∷ OfStmt g ∷ vs) = Some (OfItems (tree.StatementItem g its) ∷ vs)
act ends.Local (OfInits inis ∷ OfWords ws ∷ vs) = Some (OfLocal (tree.Locals ws inis) ∷ vs)
act ends.Init (OfRhs rhs ∷ Tok t ∷ vs) = Some (OfInit (Some rhs) ∷ vs)
act ends.NoInit vs = Some (OfInit None ∷ vs)
act ends.LastInit (Tok t ∷ OfInit i ∷ OfDeclarator d ∷ vs) = Some (OfInits (tree.Initialized d i ∷ []) ∷ vs)
act ends.MoreInits (OfInits inis ∷ Tok t ∷ OfInit i ∷ OfDeclarator d ∷ vs) = Some (OfInits (tree.Initialized d i ∷ inis) ∷ vs)
act ends.NoStart (Tok t ∷ vs) = Some (OfStart tree.NoStart ∷ vs)
act ends.StartLocal (OfLocal loc ∷ vs) = Some (OfStart (tree.StartLocal loc) ∷ vs)
act ends.StartSimple (Tok t ∷ OfSimple sim ∷ vs) = Some (OfStart (tree.StartSimple sim) ∷ vs)
act ends.NoTest (Tok t ∷ vs) = Some (OfTest None ∷ vs)
act ends.Test (Tok t ∷ OfExp e ∷ vs) = Some (OfTest (Some e) ∷ vs)
act ends.NoStep (Tok t ∷ vs) = Some (OfStep None ∷ vs)
act ends.Step (Tok t ∷ OfSimple sim ∷ vs) = Some (OfStep (Some sim) ∷ vs)
act ends.NoGroups vs = Some (OfGroups tree.NoGroups ∷ vs)
act ends.MoreGroups (OfGroups gs ∷ OfItems its ∷ OfStmt g ∷ OfLabels las ∷ OfLabel la ∷ vs) = Some (OfGroups (tree.MoreGroups la las g its gs) ∷ vs)
act ends.Case (Tok t1 ∷ OfExp e ∷ Tok t ∷ vs) = Some (OfLabel (tree.Case t.from e) ∷ vs)
act ends.Default (Tok t1 ∷ Tok t ∷ vs) = Some (OfLabel (tree.Default t.from) ∷ vs)
act ends.NoLabels vs = Some (OfLabels [] ∷ vs)
act ends.MoreLabels (OfLabels las ∷ OfLabel la ∷ vs) = Some (OfLabels (la ∷ las) ∷ vs)
act ends.Function (Tok t1 ∷ OfItems its ∷ Tok t ∷ OfParameters (Some pas) ∷ OfDeclarator d ∷ OfWords ws ∷ vs) = Some (OfExternal (tree.Function ws d pas its) ∷ vs)
act (ends.Declaration true) (OfTops tops ∷ OfWords ws ∷ Tok t ∷ vs) = Some (OfExternal (tree.Declaration (Some t.from) ws tops) ∷ vs)
act (ends.Declaration false) (OfTops tops ∷ OfWords ws ∷ vs) = Some (OfExternal (tree.Declaration None ws tops) ∷ vs)
act ends.NoTops (Tok t ∷ vs) = Some (OfTops [] ∷ vs)
act ends.LastTop (Tok t ∷ OfTop top ∷ vs) = Some (OfTops (top ∷ []) ∷ vs)
act ends.MoreTops (OfTops tops ∷ Tok t ∷ OfTop top ∷ vs) = Some (OfTops (top ∷ tops) ∷ vs)
act ends.Top (OfTest te ∷ OfParameters ops ∷ OfDeclarator d ∷ vs) = Some (OfTop (tree.Topmost d ops te) ∷ vs)
act ends.NoParameters vs = Some (OfParameters None ∷ vs)
act ends.SomeParameters (OfParams pas ∷ Tok t ∷ vs) = Some (OfParameters (Some (parameters pas)) ∷ vs)
act ends.NoValue vs = Some (OfTest None ∷ vs)
act ends.SomeValue (OfExp e ∷ Tok t ∷ vs) = Some (OfTest (Some e) ∷ vs)
act ends.EmptyParameters (Tok t ∷ vs) = Some (OfParams [] ∷ vs)
act ends.LastParameter (Tok t ∷ OfParam pa ∷ vs) = Some (OfParams (pa ∷ []) ∷ vs)
act ends.MoreParameters (OfParams pas ∷ Tok t ∷ OfParam pa ∷ vs) = Some (OfParams (pa ∷ pas) ∷ vs)
act ends.Parameter (OfBracket br ∷ OfParamName pn ∷ OfStars ats ∷ OfWords ws ∷ vs) = Some (OfParam (tree.Parameter ws ats pn br) ∷ vs)
act ends.ParameterName (Tok t ∷ vs) = Some (OfParamName (Some (t.from, name_in t.kind)) ∷ vs)
act ends.NoParameterName vs = Some (OfParamName None ∷ vs)
act ends.NoBracket vs = Some (OfBracket tree.NoBracket ∷ vs)
act ends.OpenBracket (Tok t1 ∷ Tok t ∷ vs) = Some (OfBracket (tree.OpenBracket t.from) ∷ vs)
act ends.SizedBracket (Tok t1 ∷ OfExp e ∷ Tok t ∷ vs) = Some (OfBracket (tree.SizedBracket t.from e) ∷ vs)
act ends.NoExternals vs = Some (OfUnit [] ∷ vs)
act ends.MoreExternals (OfUnit exts ∷ OfExternal ext ∷ vs) = Some (OfUnit (ext ∷ exts) ∷ vs)
act _ _ = None

abbrev pub acts : List Production → Option (List Value) → Option (List Value)
acts [] vs = vs
acts (p ∷ ps) None = None
acts (p ∷ ps) (Some vs) = acts ps (act p vs)
