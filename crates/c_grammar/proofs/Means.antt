-- What each symbol of the parser's stack means: which tokens it stands for. A symbol that goes on with something, as the
-- operator behind an operand, means that whatever stood before, the two together are spelled.
use Rattle.std.proofs.Common.{ℕ, ◌≡◌, ◌+◌, ◌-◌, Bool, true, false, if◌then◌else◌, List, [], ◌∷◌, ◌++◌, Option, zero, suc, nat_le, refl, subst, arith}
use Rattle.std.proofs.lemmas.Bool.{leb-true}
use Rattle.c_lex.specs.declared.token.Keyword.{Keyword}
use Rattle.c_lex.specs.declared.token.Keyword.TheVariants as word
use Rattle.c_lex.specs.declared.token.Punct.{Punct}
use Rattle.c_lex.specs.declared.token.Punct.TheVariants as sign
use Rattle.c_lex.specs.Lexeme.{Lexeme, Kind, keyword}
use Rattle.c_grammar.specs.declared.symbol.Seen.TheVariants as seen
use Rattle.c_grammar.specs.declared.symbol.Wanted.{Wanted}
use Rattle.c_grammar.specs.declared.symbol.Wanted.TheVariants as wanted
use Rattle.c_grammar.specs.declared.symbol.Symbol.{Symbol}
use Rattle.c_grammar.specs.declared.symbol.Symbol.TheVariants as symbol
use Rattle.c_grammar.specs.Tree.{Name, Exp, Words, Members, Declarators, Declarator, Dimensions, Enumerators, Enumerator, Rhs, Simple, Init, Label, Start, Stmt, Items, Groups, Bracket, Param, Top, External}
use Rattle.c_grammar.specs.Operators.{is_made}
use Rattle.c_grammar.specs.Spells as spells
use Rattle.c_grammar.specs.Spells.{token, named, mark, reserved, names_of, names_after, SpellsStars, SpellsExp, SpellsWords, SpellsMembers, SpellsDeclarators, SpellsDeclarator, SpellsDimensions, SpellsEnumerators, SpellsEnumerator, SpellsExps, SpellsArguments, SpellsRhs, SpellsSimple, SpellsInit, SpellsInits, SpellsLabels, SpellsStart, SpellsTest, SpellsStep, SpellsStmt, SpellsItems, SpellsGroups, SpellsBracket, SpellsParam, SpellsParams, SpellsParameters, SpellsTop, SpellsTops, SpellsDeclared, SpellsExternal, SpellsUnit}
use Rattle.c_grammar.specs.CodeChoice.{Choice, Refuse, Pass, Take, least, and_then, only_if}
use Rattle.c_grammar.specs.CodeStack.{noted, made_behind, next_behind}

pub data IsMark (p : Punct) : List Lexeme → List Lexeme → Type 0 where
  is_mark : {a z : ℕ} {s : List Lexeme} → IsMark p (mark p a z ∷ s) s

pub data IsWord (k : Keyword) : List Lexeme → List Lexeme → Type 0 where
  is_word : {a z : ℕ} {s : List Lexeme} → IsWord k (reserved k a z ∷ s) s

pub data IsName (ns : List Name) : List Lexeme → List Lexeme → Type 0 where
  is_name : {n : Name} {a z : ℕ} {s : List Lexeme} → is_made ns n ≡ false → IsName ns (named n a z ∷ s) s

pub data Same : List Lexeme → List Lexeme → Type 0 where
  same : {s : List Lexeme} → Same s s

pub data MayHaveParameters (ns : List Name) : List Lexeme → List Lexeme → Type 0 where
  without_parameters : {s : List Lexeme} → MayHaveParameters ns s s
  with_parameters : {pas : List Param} {s t : List Lexeme} → SpellsParameters ns pas s t → MayHaveParameters ns s t

pub data MayHaveValue (ns : List Name) : List Lexeme → List Lexeme → Type 0 where
  without_value : {s : List Lexeme} → MayHaveValue ns s s
  with_value : {e : Exp} {a z : ℕ} {s t : List Lexeme} → SpellsExp ns true 0 e s t → MayHaveValue ns (mark sign.Equal a z ∷ s) t

pub data MayHaveName (ns : List Name) : List Lexeme → List Lexeme → Type 0 where
  without_name : {s : List Lexeme} → MayHaveName ns s s
  with_name : {n : Name} {a z : ℕ} {s : List Lexeme} → is_made ns n ≡ false → MayHaveName ns (named n a z ∷ s) s

abbrev pub is_else : Kind → Bool
is_else (keyword word.Else) = true
is_else k = false

abbrev pub begins_else : List Lexeme → Bool
begins_else [] = false
begins_else (x ∷ t) = is_else x.kind

-- what an expression is wanted for
abbrev pub Wants : List Name → Bool → Wanted → List Lexeme → List Lexeme → Type 0
Wants ns b (wanted.Level l) s t = (e : Exp) × SpellsExp ns b l e s t
Wants ns b wanted.Right s t = (rhs : Rhs) × SpellsRhs ns b rhs s t
Wants ns b wanted.Place s t = (sim : Simple) × SpellsSimple ns b sim s t
Wants ns b wanted.Sized s t = (a z : ℕ) → (e : Exp) × SpellsExp ns b 12 e (reserved word.Sizeof a z ∷ s) t

abbrev pub Meaning : List Name → Symbol → List Lexeme → List Lexeme → Type 0
Meaning ns symbol.LeftParenthesis s t = IsMark sign.LeftParenthesis s t
Meaning ns symbol.RightParenthesis s t = IsMark sign.RightParenthesis s t
Meaning ns symbol.RightBracket s t = IsMark sign.RightBracket s t
Meaning ns symbol.LeftBrace s t = IsMark sign.LeftBrace s t
Meaning ns symbol.RightBrace s t = IsMark sign.RightBrace s t
Meaning ns symbol.Semicolon s t = IsMark sign.Semicolon s t
Meaning ns symbol.Colon s t = IsMark sign.Colon s t
Meaning ns symbol.While s t = IsWord word.While s t
Meaning ns symbol.Identifier s t = IsName ns s t
Meaning ns (symbol.Expression b w) s t = nat_le (least w) 12 ≡ true → Wants ns b w s t
Meaning ns (symbol.Open b w) s t = nat_le (least w) 12 ≡ true → (a z : ℕ) → Wants ns b w (mark sign.LeftParenthesis a z ∷ s) t
Meaning ns (symbol.Tail b w r) s t = nat_le (least w) 12 ≡ true → nat_le (least w) r ≡ true → (x : Exp) (u : List Lexeme) → SpellsExp ns b r x u s → Wants ns b w u t
Meaning ns (symbol.Arguments b) s t = (es : List Exp) × SpellsArguments ns b es s t
Meaning ns (symbol.ArgumentsMore b) s t = (x : Exp) (u : List Lexeme) → SpellsExp ns b 0 x u s → (es : List Exp) × SpellsExps ns b es u t
Meaning ns (symbol.Words b q) s t = (ws : Words) × SpellsWords ns b q ws s t
Meaning ns (symbol.StructTag b) s t = (a z : ℕ) (ws : Words) (u : List Lexeme) → SpellsWords ns b seen.Whole ws t u → (all : Words) × SpellsWords ns b seen.Nothing all (reserved word.Struct a z ∷ s) u
Meaning ns (symbol.StructBody b) s t = (n : Name) (a z a1 z1 : ℕ) (ws : Words) (u : List Lexeme) → is_made ns n ≡ false → SpellsWords ns b seen.Whole ws t u → (all : Words) × SpellsWords ns b seen.Nothing all (reserved word.Struct a z ∷ named n a1 z1 ∷ s) u
Meaning ns symbol.Members s t = (ms : Members) × SpellsMembers ns ms s t
Meaning ns symbol.MembersMore s t = (ws : Words) (ds : Declarators) (u v : List Lexeme) → SpellsWords ns false seen.Nothing ws u v → SpellsDeclarators ns ds v s → (ms : Members) × SpellsMembers ns ms u t
Meaning ns symbol.DeclaratorsMore s t = (d : Declarator) (u : List Lexeme) → SpellsDeclarator ns false d u s → (ds : Declarators) × SpellsDeclarators ns ds u t
Meaning ns (symbol.Stars f) s t = (ats : List ℕ) × SpellsStars f ats s t
Meaning ns (symbol.Dimensions b) s t = (dims : Dimensions) × SpellsDimensions ns b dims s t
Meaning ns (symbol.EnumTag b) s t = (a z : ℕ) (ws : Words) (u : List Lexeme) → SpellsWords ns b seen.Whole ws t u → (all : Words) × SpellsWords ns b seen.Nothing all (reserved word.Enum a z ∷ s) u
Meaning ns (symbol.EnumBody b) s t = (n : Name) (a z a1 z1 : ℕ) (ws : Words) (u : List Lexeme) → is_made ns n ≡ false → SpellsWords ns b seen.Whole ws t u → (all : Words) × SpellsWords ns b seen.Nothing all (reserved word.Enum a z ∷ named n a1 z1 ∷ s) u
Meaning ns symbol.Enumerators s t = (ens : Enumerators) × SpellsEnumerators ns ens s t
Meaning ns symbol.EnumValue s t = (n : Name) (a z : ℕ) → is_made ns n ≡ false → (en : Enumerator) × SpellsEnumerator ns en (named n a z ∷ s) t
Meaning ns symbol.EnumMore s t = (en : Enumerator) (u : List Lexeme) → SpellsEnumerator ns en u s → (ens : Enumerators) × SpellsEnumerators ns ens u t
Meaning ns symbol.EnumNext s t = (en : Enumerator) (u : List Lexeme) (a z : ℕ) → SpellsEnumerator ns en u (mark sign.Comma a z ∷ s) → (ens : Enumerators) × SpellsEnumerators ns ens u t
Meaning ns symbol.Statement s t = (g : Stmt) × SpellsStmt ns (begins_else t) g s t
Meaning ns symbol.ReturnValue s t = (m : Bool) (a z : ℕ) → (g : Stmt) × SpellsStmt ns m g (reserved word.Return a z ∷ s) t
Meaning ns symbol.Else s t = (e : Exp) (g : Stmt) (a z a1 z1 a2 z2 : ℕ) (u v : List Lexeme) → SpellsExp ns false 0 e u (mark sign.RightParenthesis a2 z2 ∷ v) → SpellsStmt ns (begins_else s) g v s → (h : Stmt) × SpellsStmt ns (begins_else t) h (reserved word.If a z ∷ mark sign.LeftParenthesis a1 z1 ∷ u) t
Meaning ns symbol.Items s t = (its : Items) × SpellsItems ns its s t
Meaning ns symbol.InitValue s t = (d : Declarator) (u : List Lexeme) → SpellsDeclarator ns false d u s → (ini : Init) × SpellsInit ns ini u t
Meaning ns symbol.InitMore s t = (ini : Init) (u : List Lexeme) → SpellsInit ns ini u s → (inis : List Init) × SpellsInits ns inis u t
Meaning ns symbol.ForStart s t = (start : Start) × SpellsStart ns start s t
Meaning ns symbol.ForTest s t = (te : Option Exp) × SpellsTest ns te s t
Meaning ns symbol.ForStep s t = (sp : Option Simple) × SpellsStep ns sp s t
Meaning ns symbol.Groups s t = (gs : Groups) × SpellsGroups ns gs s t
Meaning ns symbol.Labels s t = (las : List Label) × SpellsLabels ns las s t
Meaning ns symbol.TopParameters s t = MayHaveParameters ns s t
Meaning ns symbol.TopValue s t = MayHaveValue ns s t
Meaning ns symbol.Parameters s t = (a z : ℕ) → (pas : List Param) × SpellsParameters ns pas (mark sign.LeftParenthesis a z ∷ s) t
Meaning ns symbol.ParametersMore s t = (pa : Param) (u : List Lexeme) → SpellsParam ns pa u s → (pas : List Param) × SpellsParams ns pas u t
Meaning ns symbol.ParameterName s t = MayHaveName ns s t
Meaning ns symbol.ParameterBracket s t = (br : Bracket) × SpellsBracket ns br s t
Meaning ns symbol.BracketRest s t = (a z : ℕ) → (br : Bracket) × SpellsBracket ns br (mark sign.LeftBracket a z ∷ s) t
Meaning ns (symbol.End p) s t = Same s t
Meaning ns x s t = ⊥

-- A symbol, with the names of types before it and behind it: those that were made, and those at the external's end.
pub data Means : List Name → List Name → Symbol → List Lexeme → List Lexeme → List Name → List Name → Type 0 where
  plain : {ns next : List Name} {x : Symbol} {s t : List Lexeme} → Meaning ns x s t → Means ns next x s t ns next
  new_name : {ns next : List Name} {n : Name} {a z : ℕ} {s : List Lexeme} → is_made ns n ≡ false → Means ns next symbol.NewName (named n a z ∷ s) s ns (n ∷ next)
  top_more : {ns next next1 : List Name} {s t : List Lexeme} → ((top : Top) (u : List Lexeme) → SpellsTop ns top u s → (tops : List Top) × SpellsTops ns (top ∷ tops) u t × (names_of tops next ≡ next1)) → Means ns next symbol.TopMore s t ns next1
  typedef_tops : {ns next next1 : List Name} {s t : List Lexeme} (tops : List Top) → SpellsDeclared ns tops s t → names_of tops next ≡ next1 → Means ns next (symbol.Tops true) s t ns next1
  first_tops : {ns next next1 : List Name} {s t : List Lexeme} → ((ws : Words) (u : List Lexeme) → SpellsWords ns true seen.Nothing ws u s → (ext : External) × SpellsExternal ns ext u t × (names_after ext ns ≡ ns)) → Means ns next (symbol.Tops false) s t ns next1
  first_parameters : {ns next next1 : List Name} {s t : List Lexeme} → ((ws : Words) (d : Declarator) (u v : List Lexeme) → SpellsWords ns true seen.Nothing ws u v → SpellsDeclarator ns true d v s → (ext : External) × SpellsExternal ns ext u t × (names_after ext ns ≡ ns)) → Means ns next symbol.FirstParameters s t ns next1
  first_rest : {ns next next1 : List Name} {s t : List Lexeme} → ((ws : Words) (d : Declarator) (pas : List Param) (u v w : List Lexeme) → SpellsWords ns true seen.Nothing ws u v → SpellsDeclarator ns true d v w → SpellsParameters ns pas w s → (ext : External) × SpellsExternal ns ext u t × (names_after ext ns ≡ ns)) → Means ns next symbol.FirstRest s t ns next1
  made_true : {ns next : List Name} {s : List Lexeme} → Means ns next (symbol.Made true) s s next next
  made_false : {ns next : List Name} {s : List Lexeme} → Means ns next (symbol.Made false) s s ns ns
  externals : {ns next ns1 next1 : List Name} {s : List Lexeme} → (next ≡ ns → (exts : List External) × SpellsUnit ns exts s) → Means ns next symbol.Externals s [] ns1 next1

-- symbols one after another
pub data All : List Name → List Name → List Symbol → List Lexeme → List Lexeme → List Name → List Name → Type 0 where
  nil : {ns next : List Name} {s : List Lexeme} → All ns next [] s s ns next
  cons : {ns next ns1 next1 ns2 next2 : List Name} {x : Symbol} {xs : List Symbol} {s t u : List Lexeme} → Means ns next x s t ns1 next1 → All ns1 next1 xs t u ns2 next2 → All ns next (x ∷ xs) s u ns2 next2

-- two parts of a list of symbols
pub record Parts (ns next : List Name) (xs ys : List Symbol) (s u : List Lexeme) (ns2 next2 : List Name) : Type 0 where
  pub middle : List Lexeme
  pub made : List Name
  pub later : List Name
  pub front : All ns next xs s middle made later
  pub back : All made later ys middle u ns2 next2

pub parts : {ns next ns2 next2 : List Name} (xs : List Symbol) {ys : List Symbol} {s u : List Lexeme} → All ns next (xs ++ ys) s u ns2 next2 → Parts ns next xs ys s u ns2 next2
parts {ns = ns} {next = next} [] {s = s} all = record { middle = s; made = ns; later = next; front = nil; back = all }
parts (x ∷ xs) (cons m all) = let p = parts xs all in record { middle = p.middle; made = p.made; later = p.later; front = cons m p.front; back = p.back }

-- what a choice has to keep: the symbols that come next, behind the token, are the symbol
abbrev pub Sound : List Name → List Name → Symbol → Lexeme → Choice → Type 0
Sound ns next x t Refuse = Unit {0}
Sound ns next x t (Pass before) = (s : List Lexeme) → Means ns next x (t ∷ s) (t ∷ s) (made_behind x ns next) (next_behind x ns next)
Sound ns next x t (Take before more) = (s u : List Lexeme) (ns2 next2 : List Name) → All ns (noted x t.kind next) more s u ns2 next2 → Means ns next x (t ∷ s) u ns2 next2

-- a choice with more behind it
pub then_sound : (ns next : List Name) (x y : Symbol) (t : Lexeme) (choice : Choice) (more : List Symbol) → Sound ns next y t choice → noted x t.kind next ≡ noted y t.kind next → ((s m u : List Lexeme) (ns1 next1 ns2 next2 : List Name) → Means ns next y (t ∷ s) m ns1 next1 → All ns1 next1 more m u ns2 next2 → Means ns next x (t ∷ s) u ns2 next2) → Sound ns next x t (and_then choice more)
then_sound ns next x y t Refuse more h n f = tt
then_sound ns next x y t (Pass before) more h n f = tt
then_sound ns next x y t (Take before after) more h n f = λ s u ns2 next2 all. let p = parts after (subst (λ v. All ns v (after ++ more) s u ns2 next2) n all) in f s p.middle u p.made p.later ns2 next2 (h s p.middle p.made p.later p.front) p.back

pub if_sound : (ns next : List Name) (x : Symbol) (t : Lexeme) (c : Bool) (first second : Choice) → (c ≡ true → Sound ns next x t first) → (c ≡ false → Sound ns next x t second) → Sound ns next x t (if c then first else second)
if_sound ns next x t true first second f g = f refl
if_sound ns next x t false first second f g = g refl

pub only_sound : (ns next : List Name) (x : Symbol) (t : Lexeme) (c : Bool) (first : Choice) → (c ≡ true → Sound ns next x t first) → Sound ns next x t (only_if c first)
only_sound ns next x t true first f = f refl
only_sound ns next x t false first f = tt

-- an expression is also one of each looser level
loosen_by : {ns : List Name} {b : Bool} {x : Exp} {s t : List Lexeme} (k l r : ℕ) → r ≡ k + l → SpellsExp ns b r x s t → SpellsExp ns b l x s t
loosen_by {ns = ns} {b = b} {x = x} {s = s} {t = t} zero l r e d = let f : r ≡ l = omega arith in subst (λ n. SpellsExp ns b n x s t) f d
loosen_by {ns = ns} {b = b} {x = x} {s = s} {t = t} (suc k) l r e d = let f : r ≡ suc (k + l) = omega arith in loosen_by k l (k + l) refl (spells.looser (subst (λ n. SpellsExp ns b n x s t) f d))

pub loosen : {ns : List Name} {b : Bool} {x : Exp} {s t : List Lexeme} (l r : ℕ) → nat_le l r ≡ true → SpellsExp ns b r x s t → SpellsExp ns b l x s t
loosen l r h d = let k = leb-true l r h in let e : r ≡ (r - l) + l = omega arith in loosen_by (r - l) l r e d

-- a matched statement is a statement
pub any : {ns : List Name} {m : Bool} {g : Stmt} {s t : List Lexeme} → SpellsStmt ns m g s t → SpellsStmt ns false g s t
any spells.empty = spells.empty
any (spells.block f) = spells.block f
any (spells.simply d) = spells.simply d
any spells.break_out = spells.break_out
any spells.continue_on = spells.continue_on
any spells.return_nothing = spells.return_nothing
any (spells.return_value d) = spells.return_value d
any (spells.if_only d f) = spells.if_only d f
any (spells.if_else d f g) = spells.if_else d f (any g)
any (spells.while_do d f) = spells.while_do d (any f)
any (spells.for_do d f g i) = spells.for_do d f g (any i)
any (spells.do_while f d) = spells.do_while f d
any (spells.switch_on d f) = spells.switch_on d f
