-- The parts of the stack of measures, against the trees of the stack of values: what a production makes of parts is the part of
-- the tree that it makes.
use Rattle.std.proofs.Common.{ℕ, ◌≡◌, ◌==◌, nat_le, Bool, true, false, ◌&&◌, if◌then◌else◌, suc, List, [], ◌∷◌, Option, Some, None, map, take, drop, ◌⊎◌, inl, inr, refl, ap}
use Rattle.c_lex.specs.declared.token.Keyword.TheVariants as word
use Rattle.c_lex.specs.Lexeme.{Kind, character, number}
use Rattle.c_grammar.specs.declared.symbol.Production.{Production}
use Rattle.c_grammar.specs.declared.symbol.Production.TheVariants as ends
use Rattle.c_grammar.specs.Tree as tree
use Rattle.c_grammar.specs.Tree.{TypeName, Declarator, Call, Simple, Init, Local, Param, Top}
use Rattle.c_grammar.specs.Spells as spells
use Rattle.c_grammar.specs.CodeBuild.{Value, Tok, OfExp, OfType, OfWord, OfWords, OfMembers, OfDeclarators, OfDeclarator, OfDimensions, OfStars, OfEnumerators, OfEnumerator, OfExps, OfCall, OfRhs, OfSimple, OfInit, OfInits, OfLocal, OfLabel, OfLabels, OfStart, OfTest, OfStep, OfStmt, OfItems, OfGroups, OfBracket, OfParamName, OfParam, OfParams, OfParameters, OfTop, OfTops, OfExternal, OfUnit, constant, act}
use Rattle.c_limits.specs.declared.limits.role.Role.{Role}
use Rattle.c_limits.specs.declared.limits.role.Role.TheVariants as roles
use Rattle.c_limits.specs.FirstToken.{first_of, first_of_call, first_of_declarator, first_of_simple, first_of_stars, first_of_word, first_of_words}
use Rattle.c_limits.specs.Limits as limits
use Rattle.c_limits.specs.Limits.{Measure, nothing}
use Rattle.c_limits.specs.CodeRoles.{arity, role_of}
use Rattle.c_limits.specs.CodeMeasure.{Part, token, reduced}

abbrev pub plain : Measure → Part
plain m = record { first = None; measure = m }

abbrev pub at : ℕ → Measure → Part
at a m = record { first = Some a; measure = m }

-- the part of a value
abbrev pub part : Value → Part
part (Tok t) = token t.from
part (OfExp e) = at (first_of e) (limits.exp e)
part (OfType t) = plain (limits.type t)
part (OfWord w) = at (first_of_word w) (limits.word w)
part (OfWords ws) = record { first = first_of_words ws; measure = limits.words ws }
part (OfMembers ms) = plain (limits.members ms)
part (OfDeclarators ds) = plain (limits.declarators ds)
part (OfDeclarator d) = at (first_of_declarator d) (limits.declarator d)
part (OfDimensions dims) = plain (limits.dimensions dims)
part (OfStars stars) = record { first = first_of_stars stars; measure = nothing }
part (OfEnumerators es) = plain (limits.enumerators es)
part (OfEnumerator e) = plain (limits.enumerator e)
part (OfExps es) = plain (limits.arguments es)
part (OfCall c) = at (first_of_call c) (limits.call c)
part (OfRhs r) = plain (limits.rhs r)
part (OfSimple s) = at (first_of_simple s) (limits.simple s)
part (OfInit r) = plain (limits.initial r)
part (OfInits is) = plain (limits.inits is)
part (OfLocal l) = plain (limits.locals l)
part (OfLabel l) = plain (limits.label l)
part (OfLabels ls) = plain (limits.labels ls)
part (OfStart s) = plain (limits.start s)
part (OfTest e) = plain (limits.test e)
part (OfStep s) = plain (limits.step s)
part (OfStmt s) = plain (limits.stmt s)
part (OfItems is) = plain (limits.items is)
part (OfGroups gs) = plain (limits.groups gs)
part (OfBracket b) = plain (limits.bracket b)
part (OfParamName n) = plain nothing
part (OfParam p) = plain (limits.param p)
part (OfParams ps) = plain (limits.params ps)
part (OfParameters ps) = plain (limits.parameters ps)
part (OfTop t) = plain (limits.top t)
part (OfTops ts) = plain (limits.tops ts)
part (OfExternal x) = plain (limits.external x)
part (OfUnit xs) = plain (limits.unit xs)

abbrev pub whole : Measure → Measure
whole m = m

constant_part : (a : ℕ) (k : Kind) → at a (limits.node a nothing) ≡ part (OfExp (constant a k))
constant_part a (character value) = refl
constant_part a (number value decimal unsigned longs) = refl
constant_part _ _ = refl

-- a lone `void` has nothing that counts
parameters_measure : (ps : List Param) → limits.params ps ≡ limits.params (spells.parameters ps)
parameters_measure (tree.Parameter (tree.MoreWords (tree.Reserved a word.Void) tree.NoWords) [] None tree.NoBracket ∷ []) = refl
parameters_measure ps = refl

-- how far out a value stands: a token; what may stand in an expression; what has no statements in it; what may have; a text's
abbrev pub level : Value → ℕ
level (Tok t) = 0
level (OfExp x) = 1
level (OfType x) = 1
level (OfWord x) = 1
level (OfWords x) = 1
level (OfMembers x) = 1
level (OfDeclarators x) = 1
level (OfDeclarator x) = 1
level (OfDimensions x) = 1
level (OfStars x) = 1
level (OfEnumerators x) = 1
level (OfEnumerator x) = 1
level (OfExps x) = 2
level (OfCall x) = 2
level (OfRhs x) = 2
level (OfSimple x) = 2
level (OfInit x) = 2
level (OfLabel x) = 2
level (OfLabels x) = 2
level (OfTest x) = 2
level (OfStep x) = 2
level (OfBracket x) = 2
level (OfParamName x) = 2
level (OfParam x) = 2
level (OfParams x) = 2
level (OfParameters x) = 2
level (OfTop x) = 2
level (OfTops x) = 2
level (OfInits x) = 3
level (OfLocal x) = 3
level (OfStart x) = 3
level (OfStmt x) = 3
level (OfItems x) = 3
level (OfGroups x) = 3
level (OfExternal x) = 4
level (OfUnit x) = 4

-- whether no value stands further out
abbrev pub up_to : ℕ → List Value → Bool
up_to l [] = true
up_to l (v ∷ vs) = nat_le (level v) l && up_to l vs

-- whether a role makes values of a level
abbrev pub suits : Role → ℕ → Bool
suits roles.Nothing l = false
suits roles.Leaf l = l == 1
suits roles.Node l = l == 1
suits roles.Specifier l = l == 1
suits roles.TypePart l = l == 1
suits roles.Part l = nat_le 2 l
suits roles.Simple l = nat_le 2 l
suits roles.Outermost l = nat_le 2 l
suits roles.Statement l = l == 3
suits (roles.Compound n) l = l == 3
suits (roles.Sequence n) l = l == 3
suits roles.Local l = l == 3
suits roles.Function l = l == 4

-- how far out the parts of a value of this level stand at most
abbrev pub ceiling : Role → ℕ → ℕ
ceiling roles.Nothing l = 0
ceiling roles.Leaf l = 0
ceiling roles.Node l = 1
ceiling roles.Specifier l = 1
ceiling roles.TypePart l = 1
ceiling roles.Part l = l
ceiling roles.Simple l = l
ceiling roles.Outermost l = l
ceiling roles.Statement l = 2
ceiling (roles.Compound n) l = 3
ceiling (roles.Sequence n) l = 3
ceiling roles.Local l = 3
ceiling roles.Function l = 3

-- whether statements nest in a value as they do on the stack of depths, and in how many of some values
abbrev pub is_nested : Value → Bool
is_nested (OfStmt g) = true
is_nested (OfItems is) = true
is_nested (OfGroups gs) = true
is_nested v = false

abbrev pub nested_in : List Value → ℕ
nested_in [] = 0
nested_in (v ∷ vs) = if is_nested v then suc (nested_in vs) else nested_in vs

-- how many such parts a role has, and whether it makes such a value
abbrev pub takes : Role → ℕ
takes (roles.Compound n) = n
takes (roles.Sequence n) = n
takes roles.Function = 1
takes role = 0

abbrev pub puts : Role → Bool
puts roles.Statement = true
puts (roles.Compound n) = true
puts (roles.Sequence n) = true
puts role = false

-- a production puts a value in place of its parts, on its own level, and they aren't further out than they may be
abbrev pub Puts : Role → ℕ → List Value → List Value → Type 0
Puts role k vs [] = ⊥
Puts role k vs (w ∷ ws) =
    (ws ≡ drop k vs)
    × ((suits role (level w) && up_to (ceiling role (level w)) (take k vs)) ≡ true)
    × (nested_in (take k vs) ≡ takes role)
    × (is_nested w ≡ puts role)

-- or takes tokens away
abbrev pub TakesAway : Role → ℕ → List Value → List Value → Type 0
TakesAway role k vs ws = (role ≡ roles.Nothing) × (ws ≡ drop k vs) × (up_to 0 (take k vs) ≡ true) × (nested_in (take k vs) ≡ 0)

abbrev pub Settles : Role → ℕ → List Value → List Value → Type 0
Settles role k vs ws = TakesAway role k vs ws ⊎ Puts role k vs ws

abbrev pub Agrees : Production → List Value → Option (List Value) → Type 0
Agrees p vs None = Unit {0}
Agrees p vs (Some ws) = (reduced whole p (map part vs) ≡ map part ws) × Settles (role_of p) (arity p) vs ws

-- a production makes of the parts of values the part of what it makes of the values
pub reduces : (p : Production) (vs : List Value) → Agrees p vs (act p vs)
unfolding act reduced
reduces ends.Name (Tok t ∷ vs) = (refl, inr (refl, refl, refl, refl))
reduces ends.Number (Tok t ∷ vs) = (ap (λ p. p ∷ map part vs) (constant_part t.from t.kind), inr (refl, refl, refl, refl))
reduces ends.Character (Tok t ∷ vs) = (ap (λ p. p ∷ map part vs) (constant_part t.from t.kind), inr (refl, refl, refl, refl))
reduces ends.Parenthesis (Tok t1 ∷ OfExp e ∷ Tok t ∷ vs) = (refl, inr (refl, refl, refl, refl))
reduces ends.Index (Tok t1 ∷ OfExp x ∷ Tok t ∷ OfExp e ∷ vs) = (refl, inr (refl, refl, refl, refl))
reduces ends.Member (Tok t1 ∷ Tok t ∷ OfExp e ∷ vs) = (refl, inr (refl, refl, refl, refl))
reduces ends.PointerMember (Tok t1 ∷ Tok t ∷ OfExp e ∷ vs) = (refl, inr (refl, refl, refl, refl))
reduces (ends.Unary un) (OfExp e ∷ Tok t ∷ vs) = (refl, inr (refl, refl, refl, refl))
reduces ends.SizeofValue (OfExp e ∷ Tok t ∷ vs) = (refl, inr (refl, refl, refl, refl))
reduces ends.SizeofType (Tok t2 ∷ OfType ty ∷ Tok t1 ∷ Tok t ∷ vs) = (refl, inr (refl, refl, refl, refl))
reduces ends.Cast (OfExp e ∷ Tok t1 ∷ OfType ty ∷ Tok t ∷ vs) = (refl, inr (refl, refl, refl, refl))
reduces (ends.Binary op) (OfExp y ∷ Tok t ∷ OfExp x ∷ vs) = (refl, inr (refl, refl, refl, refl))
reduces ends.Conditional (OfExp y ∷ Tok t1 ∷ OfExp x ∷ Tok t ∷ OfExp c ∷ vs) = (refl, inr (refl, refl, refl, refl))
reduces ends.Value (OfExp e ∷ vs) = (refl, inr (refl, refl, refl, refl))
reduces ends.Call (OfExps es ∷ Tok t ∷ OfExp (tree.Variable a n) ∷ vs) = (refl, inr (refl, refl, refl, refl))
reduces ends.CallValue (OfCall call ∷ vs) = (refl, inr (refl, refl, refl, refl))
reduces ends.NoArguments (Tok t ∷ vs) = (refl, inr (refl, refl, refl, refl))
reduces ends.LastArgument (Tok t ∷ OfExp e ∷ vs) = (refl, inr (refl, refl, refl, refl))
reduces ends.MoreArguments (OfExps es ∷ Tok t ∷ OfExp e ∷ vs) = (refl, inr (refl, refl, refl, refl))
reduces ends.TypeName (OfStars ats ∷ OfWords ws ∷ vs) = (refl, inr (refl, refl, refl, refl))
reduces ends.NoWords vs = (refl, inr (refl, refl, refl, refl))
reduces ends.MoreWords (OfWords ws ∷ OfWord w0 ∷ vs) = (refl, inr (refl, refl, refl, refl))
reduces ends.Reserved (Tok t ∷ vs) = (refl, inr (refl, refl, refl, refl))
reduces ends.Named (Tok t ∷ vs) = (refl, inr (refl, refl, refl, refl))
reduces ends.StructTag (Tok t1 ∷ Tok t ∷ vs) = (refl, inr (refl, refl, refl, refl))
reduces ends.StructBody (OfMembers ms ∷ Tok t1 ∷ Tok t ∷ vs) = (refl, inr (refl, refl, refl, refl))
reduces ends.TaggedStruct (OfMembers ms ∷ Tok t2 ∷ Tok t1 ∷ Tok t ∷ vs) = (refl, inr (refl, refl, refl, refl))
reduces ends.EnumTag (Tok t1 ∷ Tok t ∷ vs) = (refl, inr (refl, refl, refl, refl))
reduces ends.EnumBody (OfEnumerators ens ∷ Tok t1 ∷ Tok t ∷ vs) = (refl, inr (refl, refl, refl, refl))
reduces ends.TaggedEnum (OfEnumerators ens ∷ Tok t2 ∷ Tok t1 ∷ Tok t ∷ vs) = (refl, inr (refl, refl, refl, refl))
reduces ends.LastMember (Tok t ∷ OfDeclarators ds ∷ OfWords ws ∷ vs) = (refl, inr (refl, refl, refl, refl))
reduces ends.MoreMembers (OfMembers ms ∷ OfDeclarators ds ∷ OfWords ws ∷ vs) = (refl, inr (refl, refl, refl, refl))
reduces ends.LastDeclarator (Tok t ∷ OfDeclarator d ∷ vs) = (refl, inr (refl, refl, refl, refl))
reduces ends.MoreDeclarators (OfDeclarators ds ∷ Tok t ∷ OfDeclarator d ∷ vs) = (refl, inr (refl, refl, refl, refl))
reduces ends.NoStars vs = (refl, inr (refl, refl, refl, refl))
reduces ends.MoreStars (OfStars ats ∷ Tok t ∷ vs) = (refl, inr (refl, refl, refl, refl))
reduces ends.StarConst (Tok t ∷ vs) = (refl, inl (refl, refl, refl, refl))
reduces ends.Declarator (OfDimensions dims ∷ Tok t ∷ OfStars [] ∷ vs) = (refl, inr (refl, refl, refl, refl))
reduces ends.Declarator (OfDimensions dims ∷ Tok t ∷ OfStars (a ∷ ats) ∷ vs) = (refl, inr (refl, refl, refl, refl))
reduces ends.NoDimensions vs = (refl, inr (refl, refl, refl, refl))
reduces ends.MoreDimensions (OfDimensions dims ∷ Tok t1 ∷ OfExp e ∷ Tok t ∷ vs) = (refl, inr (refl, refl, refl, refl))
reduces ends.Implicit (Tok t ∷ vs) = (refl, inr (refl, refl, refl, refl))
reduces ends.Explicit (OfExp e ∷ Tok t1 ∷ Tok t ∷ vs) = (refl, inr (refl, refl, refl, refl))
reduces ends.LastEnumerator (Tok t ∷ OfEnumerator en ∷ vs) = (refl, inr (refl, refl, refl, refl))
reduces ends.LastEnumeratorComma (Tok t1 ∷ Tok t ∷ OfEnumerator en ∷ vs) = (refl, inr (refl, refl, refl, refl))
reduces ends.MoreEnumerators (OfEnumerators ens ∷ Tok t ∷ OfEnumerator en ∷ vs) = (refl, inr (refl, refl, refl, refl))
reduces ends.Empty (Tok t ∷ vs) = (refl, inr (refl, refl, refl, refl))
reduces ends.Block (Tok t1 ∷ OfItems its ∷ Tok t ∷ vs) = (refl, inr (refl, refl, refl, refl))
reduces ends.Break (Tok t1 ∷ Tok t ∷ vs) = (refl, inr (refl, refl, refl, refl))
reduces ends.Continue (Tok t1 ∷ Tok t ∷ vs) = (refl, inr (refl, refl, refl, refl))
reduces ends.Return (Tok t1 ∷ Tok t ∷ vs) = (refl, inr (refl, refl, refl, refl))
reduces ends.ReturnValue (Tok t1 ∷ OfRhs rhs ∷ Tok t ∷ vs) = (refl, inr (refl, refl, refl, refl))
reduces ends.If (OfStmt g ∷ Tok t2 ∷ OfExp e ∷ Tok t1 ∷ Tok t ∷ vs) = (refl, inr (refl, refl, refl, refl))
reduces ends.IfElse (OfStmt h ∷ Tok t3 ∷ OfStmt g ∷ Tok t2 ∷ OfExp e ∷ Tok t1 ∷ Tok t ∷ vs) = (refl, inr (refl, refl, refl, refl))
reduces ends.While (OfStmt g ∷ Tok t2 ∷ OfExp e ∷ Tok t1 ∷ Tok t ∷ vs) = (refl, inr (refl, refl, refl, refl))
reduces ends.Do (Tok t4 ∷ Tok t3 ∷ OfExp e ∷ Tok t2 ∷ Tok t1 ∷ OfStmt g ∷ Tok t ∷ vs) = (refl, inr (refl, refl, refl, refl))
reduces ends.For (OfStmt g ∷ OfStep sp ∷ OfTest te ∷ OfStart start ∷ Tok t1 ∷ Tok t ∷ vs) = (refl, inr (refl, refl, refl, refl))
reduces ends.Switch (Tok t4 ∷ OfGroups gs ∷ Tok t3 ∷ Tok t2 ∷ OfExp e ∷ Tok t1 ∷ Tok t ∷ vs) = (refl, inr (refl, refl, refl, refl))
reduces ends.Simple (Tok t ∷ OfSimple sim ∷ vs) = (refl, inr (refl, refl, refl, refl))
reduces ends.Assign (OfRhs rhs ∷ Tok t ∷ OfExp e ∷ vs) = (refl, inr (refl, refl, refl, refl))
reduces (ends.Update op) (OfExp x ∷ Tok t ∷ OfExp e ∷ vs) = (refl, inr (refl, refl, refl, refl))
reduces (ends.After st) (Tok t ∷ OfExp e ∷ vs) = (refl, inr (refl, refl, refl, refl))
reduces (ends.Before st) (OfExp e ∷ Tok t ∷ vs) = (refl, inr (refl, refl, refl, refl))
reduces ends.Invoke (OfCall call ∷ vs) = (refl, inr (refl, refl, refl, refl))
reduces ends.NoItems vs = (refl, inr (refl, refl, refl, refl))
reduces ends.LocalItem (OfItems its ∷ OfLocal loc ∷ vs) = (refl, inr (refl, refl, refl, refl))
reduces ends.StatementItem (OfItems its ∷ OfStmt g ∷ vs) = (refl, inr (refl, refl, refl, refl))
reduces ends.Local (OfInits inis ∷ OfWords ws ∷ vs) = (refl, inr (refl, refl, refl, refl))
reduces ends.Init (OfRhs rhs ∷ Tok t ∷ vs) = (refl, inr (refl, refl, refl, refl))
reduces ends.NoInit vs = (refl, inr (refl, refl, refl, refl))
reduces ends.LastInit (Tok t ∷ OfInit i ∷ OfDeclarator d ∷ vs) = (refl, inr (refl, refl, refl, refl))
reduces ends.MoreInits (OfInits inis ∷ Tok t ∷ OfInit i ∷ OfDeclarator d ∷ vs) = (refl, inr (refl, refl, refl, refl))
reduces ends.NoStart (Tok t ∷ vs) = (refl, inr (refl, refl, refl, refl))
reduces ends.StartLocal (OfLocal loc ∷ vs) = (refl, inr (refl, refl, refl, refl))
reduces ends.StartSimple (Tok t ∷ OfSimple sim ∷ vs) = (refl, inr (refl, refl, refl, refl))
reduces ends.NoTest (Tok t ∷ vs) = (refl, inr (refl, refl, refl, refl))
reduces ends.Test (Tok t ∷ OfExp e ∷ vs) = (refl, inr (refl, refl, refl, refl))
reduces ends.NoStep (Tok t ∷ vs) = (refl, inr (refl, refl, refl, refl))
reduces ends.Step (Tok t ∷ OfSimple sim ∷ vs) = (refl, inr (refl, refl, refl, refl))
reduces ends.NoGroups vs = (refl, inr (refl, refl, refl, refl))
reduces ends.MoreGroups (OfGroups gs ∷ OfItems its ∷ OfStmt g ∷ OfLabels las ∷ OfLabel la ∷ vs) = (refl, inr (refl, refl, refl, refl))
reduces ends.Case (Tok t1 ∷ OfExp e ∷ Tok t ∷ vs) = (refl, inr (refl, refl, refl, refl))
reduces ends.Default (Tok t1 ∷ Tok t ∷ vs) = (refl, inr (refl, refl, refl, refl))
reduces ends.NoLabels vs = (refl, inr (refl, refl, refl, refl))
reduces ends.MoreLabels (OfLabels las ∷ OfLabel la ∷ vs) = (refl, inr (refl, refl, refl, refl))
reduces ends.Function (Tok t1 ∷ OfItems its ∷ Tok t ∷ OfParameters (Some pas) ∷ OfDeclarator d ∷ OfWords tree.NoWords ∷ vs) = (refl, inr (refl, refl, refl, refl))
reduces ends.Function (Tok t1 ∷ OfItems its ∷ Tok t ∷ OfParameters (Some pas) ∷ OfDeclarator d ∷ OfWords (tree.MoreWords w ws) ∷ vs) = (refl, inr (refl, refl, refl, refl))
reduces (ends.Declaration true) (OfTops tops ∷ OfWords ws ∷ Tok t ∷ vs) = (refl, inr (refl, refl, refl, refl))
reduces (ends.Declaration false) (OfTops tops ∷ OfWords ws ∷ vs) = (refl, inr (refl, refl, refl, refl))
reduces ends.NoTops (Tok t ∷ vs) = (refl, inr (refl, refl, refl, refl))
reduces ends.LastTop (Tok t ∷ OfTop top ∷ vs) = (refl, inr (refl, refl, refl, refl))
reduces ends.MoreTops (OfTops tops ∷ Tok t ∷ OfTop top ∷ vs) = (refl, inr (refl, refl, refl, refl))
reduces ends.Top (OfTest te ∷ OfParameters ops ∷ OfDeclarator d ∷ vs) = (refl, inr (refl, refl, refl, refl))
reduces ends.NoParameters vs = (refl, inr (refl, refl, refl, refl))
reduces ends.SomeParameters (OfParams pas ∷ Tok t ∷ vs) = (ap (λ m. plain (limits.all (m ∷ [])) ∷ map part vs) (parameters_measure pas), inr (refl, refl, refl, refl))
reduces ends.NoValue vs = (refl, inr (refl, refl, refl, refl))
reduces ends.SomeValue (OfExp e ∷ Tok t ∷ vs) = (refl, inr (refl, refl, refl, refl))
reduces ends.EmptyParameters (Tok t ∷ vs) = (refl, inr (refl, refl, refl, refl))
reduces ends.LastParameter (Tok t ∷ OfParam pa ∷ vs) = (refl, inr (refl, refl, refl, refl))
reduces ends.MoreParameters (OfParams pas ∷ Tok t ∷ OfParam pa ∷ vs) = (refl, inr (refl, refl, refl, refl))
reduces ends.Parameter (OfBracket br ∷ OfParamName pn ∷ OfStars ats ∷ OfWords ws ∷ vs) = (refl, inr (refl, refl, refl, refl))
reduces ends.ParameterName (Tok t ∷ vs) = (refl, inr (refl, refl, refl, refl))
reduces ends.NoParameterName vs = (refl, inr (refl, refl, refl, refl))
reduces ends.NoBracket vs = (refl, inr (refl, refl, refl, refl))
reduces ends.OpenBracket (Tok t1 ∷ Tok t ∷ vs) = (refl, inr (refl, refl, refl, refl))
reduces ends.SizedBracket (Tok t1 ∷ OfExp e ∷ Tok t ∷ vs) = (refl, inr (refl, refl, refl, refl))
reduces ends.NoExternals vs = (refl, inr (refl, refl, refl, refl))
reduces ends.MoreExternals (OfUnit exts ∷ OfExternal ext ∷ vs) = (refl, inr (refl, refl, refl, refl))
reduces p vs = tt
