-- A production ends only on values that fit its parts.
use Rattle.std.proofs.Common.{◌≡◌, true, false, List, ◌∷◌, Option, Some, None, IfSome, Bool, refl}
use Rattle.c_grammar.specs.declared.symbol.Production.{Production}
use Rattle.c_grammar.specs.declared.symbol.Production.TheVariants as ends
use Rattle.c_grammar.specs.Tree as tree
use Rattle.c_grammar.specs.CodeBuild.{Value, act, OfBracket, OfCall, OfDeclarator, OfDeclarators, OfDimensions, OfEnumerator, OfEnumerators, OfExp, OfExps, OfExternal, OfGroups, OfInit, OfInits, OfItems, OfLabel, OfLabels, OfLocal, OfMembers, OfParam, OfParamName, OfParameters, OfParams, OfRhs, OfSimple, OfStars, OfStart, OfStep, OfStmt, OfTest, OfTop, OfTops, OfType, OfUnit, OfWord, OfWords, Tok}
use Rattle.c_build.specs.Parts.{fits, parts}

fitted : (p : Production) (vs : List Value) → IfSome (act p vs) (λ us. fits (parts p) vs ≡ true)
unfolding act
fitted ends.Name (Tok t ∷ vs) = refl
fitted ends.Number (Tok t ∷ vs) = refl
fitted ends.Character (Tok t ∷ vs) = refl
fitted ends.Parenthesis (Tok t1 ∷ OfExp e ∷ Tok t ∷ vs) = refl
fitted ends.Index (Tok t1 ∷ OfExp x ∷ Tok t ∷ OfExp e ∷ vs) = refl
fitted ends.Member (Tok t1 ∷ Tok t ∷ OfExp e ∷ vs) = refl
fitted ends.PointerMember (Tok t1 ∷ Tok t ∷ OfExp e ∷ vs) = refl
fitted (ends.Unary un) (OfExp e ∷ Tok t ∷ vs) = refl
fitted ends.SizeofValue (OfExp e ∷ Tok t ∷ vs) = refl
fitted ends.SizeofType (Tok t2 ∷ OfType ty ∷ Tok t1 ∷ Tok t ∷ vs) = refl
fitted ends.Cast (OfExp e ∷ Tok t1 ∷ OfType ty ∷ Tok t ∷ vs) = refl
fitted (ends.Binary op) (OfExp y ∷ Tok t ∷ OfExp x ∷ vs) = refl
fitted ends.Conditional (OfExp y ∷ Tok t1 ∷ OfExp x ∷ Tok t ∷ OfExp c ∷ vs) = refl
fitted ends.Value (OfExp e ∷ vs) = refl
fitted ends.Call (OfExps es ∷ Tok t ∷ OfExp (tree.Variable a n) ∷ vs) = refl
fitted ends.CallValue (OfCall call ∷ vs) = refl
fitted ends.NoArguments (Tok t ∷ vs) = refl
fitted ends.LastArgument (Tok t ∷ OfExp e ∷ vs) = refl
fitted ends.MoreArguments (OfExps es ∷ Tok t ∷ OfExp e ∷ vs) = refl
fitted ends.TypeName (OfStars ats ∷ OfWords ws ∷ vs) = refl
fitted ends.NoWords vs = refl
fitted ends.MoreWords (OfWords ws ∷ OfWord w0 ∷ vs) = refl
fitted ends.Reserved (Tok t ∷ vs) = refl
fitted ends.Named (Tok t ∷ vs) = refl
fitted ends.StructTag (Tok t1 ∷ Tok t ∷ vs) = refl
fitted ends.StructBody (OfMembers ms ∷ Tok t1 ∷ Tok t ∷ vs) = refl
fitted ends.TaggedStruct (OfMembers ms ∷ Tok t2 ∷ Tok t1 ∷ Tok t ∷ vs) = refl
fitted ends.EnumTag (Tok t1 ∷ Tok t ∷ vs) = refl
fitted ends.EnumBody (OfEnumerators ens ∷ Tok t1 ∷ Tok t ∷ vs) = refl
fitted ends.TaggedEnum (OfEnumerators ens ∷ Tok t2 ∷ Tok t1 ∷ Tok t ∷ vs) = refl
fitted ends.LastMember (Tok t ∷ OfDeclarators ds ∷ OfWords ws ∷ vs) = refl
fitted ends.MoreMembers (OfMembers ms ∷ OfDeclarators ds ∷ OfWords ws ∷ vs) = refl
fitted ends.LastDeclarator (Tok t ∷ OfDeclarator d ∷ vs) = refl
fitted ends.MoreDeclarators (OfDeclarators ds ∷ Tok t ∷ OfDeclarator d ∷ vs) = refl
fitted ends.NoStars vs = refl
fitted ends.MoreStars (OfStars ats ∷ Tok t ∷ vs) = refl
fitted ends.StarConst (Tok t ∷ vs) = refl
fitted ends.Declarator (OfDimensions dims ∷ Tok t ∷ OfStars ats ∷ vs) = refl
fitted ends.NoDimensions vs = refl
fitted ends.MoreDimensions (OfDimensions dims ∷ Tok t1 ∷ OfExp e ∷ Tok t ∷ vs) = refl
fitted ends.Implicit (Tok t ∷ vs) = refl
fitted ends.Explicit (OfExp e ∷ Tok t1 ∷ Tok t ∷ vs) = refl
fitted ends.LastEnumerator (Tok t ∷ OfEnumerator en ∷ vs) = refl
fitted ends.LastEnumeratorComma (Tok t1 ∷ Tok t ∷ OfEnumerator en ∷ vs) = refl
fitted ends.MoreEnumerators (OfEnumerators ens ∷ Tok t ∷ OfEnumerator en ∷ vs) = refl
fitted ends.Empty (Tok t ∷ vs) = refl
fitted ends.Block (Tok t1 ∷ OfItems its ∷ Tok t ∷ vs) = refl
fitted ends.Break (Tok t1 ∷ Tok t ∷ vs) = refl
fitted ends.Continue (Tok t1 ∷ Tok t ∷ vs) = refl
fitted ends.Return (Tok t1 ∷ Tok t ∷ vs) = refl
fitted ends.ReturnValue (Tok t1 ∷ OfRhs rhs ∷ Tok t ∷ vs) = refl
fitted ends.If (OfStmt g ∷ Tok t2 ∷ OfExp e ∷ Tok t1 ∷ Tok t ∷ vs) = refl
fitted ends.IfElse (OfStmt h ∷ Tok t3 ∷ OfStmt g ∷ Tok t2 ∷ OfExp e ∷ Tok t1 ∷ Tok t ∷ vs) = refl
fitted ends.While (OfStmt g ∷ Tok t2 ∷ OfExp e ∷ Tok t1 ∷ Tok t ∷ vs) = refl
fitted ends.Do (Tok t4 ∷ Tok t3 ∷ OfExp e ∷ Tok t2 ∷ Tok t1 ∷ OfStmt g ∷ Tok t ∷ vs) = refl
fitted ends.For (OfStmt g ∷ OfStep sp ∷ OfTest te ∷ OfStart start ∷ Tok t1 ∷ Tok t ∷ vs) = refl
fitted ends.Switch (Tok t4 ∷ OfGroups gs ∷ Tok t3 ∷ Tok t2 ∷ OfExp e ∷ Tok t1 ∷ Tok t ∷ vs) = refl
fitted ends.Simple (Tok t ∷ OfSimple sim ∷ vs) = refl
fitted ends.Assign (OfRhs rhs ∷ Tok t ∷ OfExp e ∷ vs) = refl
fitted (ends.Update op) (OfExp x ∷ Tok t ∷ OfExp e ∷ vs) = refl
fitted (ends.After st) (Tok t ∷ OfExp e ∷ vs) = refl
fitted (ends.Before st) (OfExp e ∷ Tok t ∷ vs) = refl
fitted ends.Invoke (OfCall call ∷ vs) = refl
fitted ends.NoItems vs = refl
fitted ends.LocalItem (OfItems its ∷ OfLocal loc ∷ vs) = refl
fitted ends.StatementItem (OfItems its ∷ OfStmt g ∷ vs) = refl
fitted ends.Local (OfInits inis ∷ OfWords ws ∷ vs) = refl
fitted ends.Init (OfRhs rhs ∷ Tok t ∷ vs) = refl
fitted ends.NoInit vs = refl
fitted ends.LastInit (Tok t ∷ OfInit i ∷ OfDeclarator d ∷ vs) = refl
fitted ends.MoreInits (OfInits inis ∷ Tok t ∷ OfInit i ∷ OfDeclarator d ∷ vs) = refl
fitted ends.NoStart (Tok t ∷ vs) = refl
fitted ends.StartLocal (OfLocal loc ∷ vs) = refl
fitted ends.StartSimple (Tok t ∷ OfSimple sim ∷ vs) = refl
fitted ends.NoTest (Tok t ∷ vs) = refl
fitted ends.Test (Tok t ∷ OfExp e ∷ vs) = refl
fitted ends.NoStep (Tok t ∷ vs) = refl
fitted ends.Step (Tok t ∷ OfSimple sim ∷ vs) = refl
fitted ends.NoGroups vs = refl
fitted ends.MoreGroups (OfGroups gs ∷ OfItems its ∷ OfStmt g ∷ OfLabels las ∷ OfLabel la ∷ vs) = refl
fitted ends.Case (Tok t1 ∷ OfExp e ∷ Tok t ∷ vs) = refl
fitted ends.Default (Tok t1 ∷ Tok t ∷ vs) = refl
fitted ends.NoLabels vs = refl
fitted ends.MoreLabels (OfLabels las ∷ OfLabel la ∷ vs) = refl
fitted ends.Function (Tok t1 ∷ OfItems its ∷ Tok t ∷ OfParameters (Some pas) ∷ OfDeclarator d ∷ OfWords ws ∷ vs) = refl
fitted (ends.Declaration true) (OfTops tops ∷ OfWords ws ∷ Tok t ∷ vs) = refl
fitted (ends.Declaration false) (OfTops tops ∷ OfWords ws ∷ vs) = refl
fitted ends.NoTops (Tok t ∷ vs) = refl
fitted ends.LastTop (Tok t ∷ OfTop top ∷ vs) = refl
fitted ends.MoreTops (OfTops tops ∷ Tok t ∷ OfTop top ∷ vs) = refl
fitted ends.Top (OfTest te ∷ OfParameters ops ∷ OfDeclarator d ∷ vs) = refl
fitted ends.NoParameters vs = refl
fitted ends.SomeParameters (OfParams pas ∷ Tok t ∷ vs) = refl
fitted ends.NoValue vs = refl
fitted ends.SomeValue (OfExp e ∷ Tok t ∷ vs) = refl
fitted ends.EmptyParameters (Tok t ∷ vs) = refl
fitted ends.LastParameter (Tok t ∷ OfParam pa ∷ vs) = refl
fitted ends.MoreParameters (OfParams pas ∷ Tok t ∷ OfParam pa ∷ vs) = refl
fitted ends.Parameter (OfBracket br ∷ OfParamName pn ∷ OfStars ats ∷ OfWords ws ∷ vs) = refl
fitted ends.ParameterName (Tok t ∷ vs) = refl
fitted ends.NoParameterName vs = refl
fitted ends.NoBracket vs = refl
fitted ends.OpenBracket (Tok t1 ∷ Tok t ∷ vs) = refl
fitted ends.SizedBracket (Tok t1 ∷ OfExp e ∷ Tok t ∷ vs) = refl
fitted ends.NoExternals vs = refl
fitted ends.MoreExternals (OfUnit exts ∷ OfExternal ext ∷ vs) = refl
fitted p vs = tt

none_of : (o : Option (List Value)) (b : Bool) → IfSome o (λ us. b ≡ true) → b ≡ false → o ≡ None
none_of None b h e = refl
none_of (Some us) b h e = cc

pub misfits : (p : Production) (vs : List Value) → fits (parts p) vs ≡ false → act p vs ≡ None
misfits p vs e = none_of (act p vs) (fits (parts p) vs) (fitted p vs) e
