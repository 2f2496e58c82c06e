-- What trees of texts have, and plain trees need not: a character's value is that of a byte, the name of a declarator, a parameter
-- or a struct is a letter or `_`, then letters, digits and `_` (C99 6.4.2, 6.4.4.4), and what has a number can be counted.
use Rattle.std.specs.Prelude.{ℕ, ◌≡◌, ◌<◌, ◌^◌, Bool, true, false, ◌&&◌, List, [], ◌∷◌, Option, Some, None}
use Rattle.c_lex.specs.Bytes.{is_letter, is_word}
use Rattle.c_grammar.specs.Tree.{Name, Exp, TypeName, Words, Word, Members, Declarators, Declarator, Dimensions, Enumerators, Enumerator, Call, Rhs, Simple, Init, Local, Label, Start, Stmt, Items, Groups, Bracket, Param, Top, External}
use Rattle.c_grammar.specs.Tree as tree
use Rattle.typing_laws.specs.Count.{numbered_in}

abbrev pub are_words : List ℕ → Bool
are_words [] = true
are_words (c ∷ cs) = is_word c && are_words cs

abbrev pub is_name : Name → Bool
is_name [] = false
is_name (c ∷ cs) = is_letter c && are_words cs

abbrev pub IsName : Name → Type 0
IsName x = is_name x ≡ true

abbrev pub Each : {A : Type 0} → (A → Type 0) → List A → Type 0
Each P [] = Unit {0}
Each P (a ∷ as') = P a × Each P as'

abbrev pub Where : {A : Type 0} → (A → Type 0) → Option A → Type 0
Where P None = Unit {0}
Where P (Some a) = P a

abbrev mutual
  pub IsExp : Exp → Type 0
  IsExp (tree.Variable at x) = Unit {0}
  IsExp (tree.Number at n decimal u longs) = Unit {0}
  IsExp (tree.Character at n) = n < 256
  IsExp (tree.Parenthesis at e) = IsExp e
  IsExp (tree.Index e i) = IsExp e × IsExp i
  IsExp (tree.Member e x) = IsExp e
  IsExp (tree.PointerMember e x) = IsExp e
  IsExp (tree.Unary at op e) = IsExp e
  IsExp (tree.SizeofValue at e) = IsExp e
  IsExp (tree.SizeofType at t) = IsTypeName t
  IsExp (tree.Cast at t e) = IsTypeName t × IsExp e
  IsExp (tree.Binary op a b) = IsExp a × IsExp b
  IsExp (tree.Conditional c a b) = IsExp c × IsExp a × IsExp b

  pub IsTypeName : TypeName → Type 0
  IsTypeName (tree.Typed ws stars) = AreWords ws

  pub AreWords : Words → Type 0
  AreWords tree.NoWords = Unit {0}
  AreWords (tree.MoreWords w ws) = IsWord w × AreWords ws

  pub IsWord : Word → Type 0
  IsWord (tree.Reserved at k) = Unit {0}
  IsWord (tree.Named at x) = Unit {0}
  IsWord (tree.StructTag at x) = IsName x
  IsWord (tree.StructBody at x ms) = Where IsName x × AreMembers ms
  IsWord (tree.EnumTag at x) = Unit {0}
  IsWord (tree.EnumBody at x es) = AreEnumerators es

  pub AreMembers : Members → Type 0
  AreMembers (tree.LastMember ws ds) = AreWords ws × AreDeclarators ds
  AreMembers (tree.MoreMembers ws ds rest) = AreWords ws × AreDeclarators ds × AreMembers rest

  pub AreDeclarators : Declarators → Type 0
  AreDeclarators (tree.LastDeclarator d) = IsDeclarator d
  AreDeclarators (tree.MoreDeclarators d ds) = IsDeclarator d × AreDeclarators ds

  pub IsDeclarator : Declarator → Type 0
  IsDeclarator (tree.Declare stars at x ns) = IsName x × AreDimensions ns

  pub AreDimensions : Dimensions → Type 0
  AreDimensions tree.NoDimensions = Unit {0}
  AreDimensions (tree.MoreDimensions e ns) = IsExp e × AreDimensions ns

  pub AreEnumerators : Enumerators → Type 0
  AreEnumerators (tree.LastEnumerator e) = IsEnumerator e
  AreEnumerators (tree.MoreEnumerators e es) = IsEnumerator e × AreEnumerators es

  pub IsEnumerator : Enumerator → Type 0
  IsEnumerator (tree.Implicit at x) = Unit {0}
  IsEnumerator (tree.Explicit at x e) = IsExp e

abbrev pub IsCall : Call → Type 0
IsCall (tree.Calls at f es) = Each IsExp es

abbrev pub IsRhs : Rhs → Type 0
IsRhs (tree.Value e) = IsExp e
IsRhs (tree.Result c) = IsCall c

abbrev pub IsSimple : Simple → Type 0
IsSimple (tree.Assign e r) = IsExp e × IsRhs r
IsSimple (tree.Update op e x) = IsExp e × IsExp x
IsSimple (tree.After op e) = IsExp e
IsSimple (tree.Before at op e) = IsExp e
IsSimple (tree.Invoke c) = IsCall c

abbrev pub IsInit : Init → Type 0
IsInit (tree.Initialized d r) = IsDeclarator d × Where IsRhs r

abbrev pub IsLocal : Local → Type 0
IsLocal (tree.Locals ws is) = AreWords ws × Each IsInit is

abbrev pub IsLabel : Label → Type 0
IsLabel (tree.Case at e) = IsExp e
IsLabel (tree.Default at) = Unit {0}

abbrev pub IsStart : Start → Type 0
IsStart tree.NoStart = Unit {0}
IsStart (tree.StartLocal l) = IsLocal l
IsStart (tree.StartSimple s) = IsSimple s

abbrev mutual
  pub IsStmt : Stmt → Type 0
  IsStmt (tree.Empty at) = Unit {0}
  IsStmt (tree.Block at is) = AreItems is
  IsStmt (tree.Simply s) = IsSimple s
  IsStmt (tree.Break at) = Unit {0}
  IsStmt (tree.Continue at) = Unit {0}
  IsStmt (tree.Return at r) = Where IsRhs r
  IsStmt (tree.If at e s) = IsExp e × IsStmt s
  IsStmt (tree.IfElse at e s t) = IsExp e × IsStmt s × IsStmt t
  IsStmt (tree.While at e s) = IsExp e × IsStmt s
  IsStmt (tree.For at init test step s) = IsStart init × Where IsExp test × Where IsSimple step × IsStmt s
  IsStmt (tree.Do at s e) = IsStmt s × IsExp e
  IsStmt (tree.Switch at e gs) = IsExp e × AreGroups gs

  pub AreItems : Items → Type 0
  AreItems tree.NoItems = Unit {0}
  AreItems (tree.LocalItem l is) = IsLocal l × AreItems is
  AreItems (tree.StatementItem s is) = IsStmt s × AreItems is

  pub AreGroups : Groups → Type 0
  AreGroups tree.NoGroups = Unit {0}
  AreGroups (tree.MoreGroups l ls s is gs) = IsLabel l × Each IsLabel ls × IsStmt s × AreItems is × AreGroups gs

abbrev pub IsBracket : Bracket → Type 0
IsBracket tree.NoBracket = Unit {0}
IsBracket (tree.OpenBracket a) = Unit {0}
IsBracket (tree.SizedBracket a e) = IsExp e

abbrev pub IsParam : Param → Type 0
IsParam (tree.Parameter ws stars x b) = AreWords ws × Where (λ n. IsName n.1) x × IsBracket b

abbrev pub IsTop : Top → Type 0
IsTop (tree.Topmost d ps e) = IsDeclarator d × Where (Each IsParam) ps × Where IsExp e

abbrev pub IsExternal : External → Type 0
IsExternal (tree.Function ws d ps is) = AreWords ws × IsDeclarator d × Each IsParam ps × AreItems is
IsExternal (tree.Declaration at ws ts) = AreWords ws × Each IsTop ts

-- Of a whole text. Own names number a function's variables of one name, calls, switches and do-whiles have numbers: of 64 bits.
pub record AreWritten (xs : List External) : Type 0 where
  pub externals : Each IsExternal xs
  pub few : numbered_in xs < 2 ^ 64
