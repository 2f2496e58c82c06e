-- The steps of the parser: what it does with a token, and which tokens may follow.
use Rattle.std.proofs.Common.{append_assoc, ℕ, ◌≡◌, Bool, true, false, List, [], ◌∷◌, ◌++◌, Option, Some, None, suc, nat_le, ◌&&◌, not, refl, sym, ap, ◌∙◌, arith}
use Rattle.std.proofs.lemmas.Bool.{leb-true, le-leb, leb-false, lt-leb}
use Rattle.c_lex.specs.declared.token.Keyword.TheVariants as word
use Rattle.c_lex.specs.declared.token.Keyword.{Keyword}
use Rattle.c_lex.specs.declared.token.Punct.TheVariants as sign
use Rattle.c_lex.specs.Lexeme.{Lexeme, Kind, name, keyword, punct}
use Rattle.c_grammar.specs.declared.operator.UnaryOperator.{UnaryOperator}
use Rattle.c_grammar.specs.declared.operator.UnaryOperator.TheVariants as unary
use Rattle.c_grammar.specs.declared.operator.BinaryOperator.{BinaryOperator}
use Rattle.c_grammar.specs.declared.operator.BinaryOperator.TheVariants as binary
use Rattle.c_grammar.specs.declared.symbol.Seen.{Seen}
use Rattle.c_grammar.specs.declared.symbol.Seen.TheVariants as seen
use Rattle.c_grammar.specs.declared.symbol.Wanted.{Wanted}
use Rattle.c_grammar.specs.declared.symbol.Wanted.TheVariants as wanted
use Rattle.c_grammar.specs.declared.symbol.Production.{Production}
use Rattle.c_grammar.specs.declared.symbol.Production.TheVariants as ends
use Rattle.c_grammar.specs.declared.symbol.Symbol.{Symbol}
use Rattle.c_grammar.specs.declared.symbol.Symbol.TheVariants as symbol
use Rattle.c_grammar.specs.Tree as tree
use Rattle.c_grammar.specs.Tree.{Name, Exp, TypeName, Words, Members, Declarators, Declarator, Dimensions, Enumerators, Enumerator}
use Rattle.c_grammar.specs.Operators.{unary_sign, binary_sign, level, add, complete, is_made}
use Rattle.c_grammar.specs.Spells.{SpellsExp, SpellsType, SpellsWords, SpellsStars, SpellsMembers, SpellsDeclarators, SpellsDeclarator, SpellsEnumerators, SpellsEnumerator, looser, variable, number_constant, character_constant, parenthesis, index, member, pointer_member, unary, sizeof_value, sizeof_type, cast, binary, conditional, typed, no_words, plain_word, type_name, struct_tag, struct_body, tagged_struct, enum_tag, enum_body, tagged_enum, last_member, more_members, last_declarator, more_declarators, declare, last_enumerator, last_enumerator_comma, more_enumerators, implicit, explicit, no_stars, star, star_const, named, mark, reserved}
use Rattle.c_grammar.specs.CodeChoice.{Choice, Refuse, Pass, Take, choice_of, least, starts_type, tail, tail_end, operand, expression, end, unary_choice, binary_choice, declarator, words, stars, dimensions, struct_body as struct_choice, enum_body as enum_choice, enum_value, members_more, word_choice, pass_words, and_then, only_if, may_open_type, open_rest}
use Rattle.c_grammar.specs.CodeBuild.{Value, Tok, OfExp, OfWord, OfWords, OfDimensions, OfStars, OfEnumerator, act, acts, name_in}
use Rattle.c_grammar.specs.CodeStack.{go, run, advance, settle, is_type, made_behind, next_behind, noted}

-- settling is what the next token would do first
pub settled : (ns next : List Name) (stack : List Symbol) (vs : Option (List Value)) (x : Lexeme) (t : List Lexeme) → run (settle ns next stack vs) (x ∷ t) ≡ run (advance ns next x stack vs) t
unfolding choice_of go
settled ns next stack None x t = refl
settled ns next [] (Some vs) x t = refl
settled ns next (symbol.End p ∷ stack) (Some vs) x t = settled ns next stack (act p vs) x t
settled ns next (s ∷ stack) (Some vs) x t = refl

-- a symbol that is complete goes away
pub passes : (ns next : List Name) (s : Symbol) (stack : List Symbol) (vs ws : List Value) (x : Lexeme) (t : List Lexeme) (before : List Production) → choice_of s (is_type ns x.kind) x.kind ≡ Pass before → acts before (Some vs) ≡ Some ws → go ns next (s ∷ stack) vs (x ∷ t) ≡ go (made_behind s ns next) (next_behind s ns next) stack ws (x ∷ t)
unfolding go
passes ns next s stack vs ws x t before e f =
    settled ns next (s ∷ stack) (Some vs) x t ∙ rw (e, advance, f) (sym (settled (made_behind s ns next) (next_behind s ns next) stack (Some ws) x t))

-- a production ends
pub ended_by : (ns next : List Name) (p : Production) (stack : List Symbol) (vs ws : List Value) (t : List Lexeme) → act p vs ≡ Some ws → go ns next (symbol.End p ∷ stack) vs t ≡ go ns next stack ws t
unfolding go
ended_by ns next p stack vs ws t e = ap (λ o. run (settle ns next stack o) t) e

-- the level of an expression
abbrev pub rank : Exp → ℕ
rank (tree.Variable a n) = 15
rank (tree.Number a value decimal unsigned longs) = 14
rank (tree.Character a value) = 14
rank (tree.Parenthesis a e) = 14
rank (tree.Index e x) = 13
rank (tree.Member e n) = 13
rank (tree.PointerMember e n) = 13
rank (tree.Unary a op e) = 12
rank (tree.SizeofValue a e) = 12
rank (tree.SizeofType a ty) = 12
rank (tree.Cast a ty e) = 11
rank (tree.Binary op x y) = level op
rank (tree.Conditional c x y) = 0

pub weaken : (l r : ℕ) → nat_le (suc l) r ≡ true → nat_le l r ≡ true
weaken l r h = let a = leb-true (suc l) r h in le-leb l r (omega arith)

pub same_level : (l : ℕ) → nat_le l l ≡ true
same_level l = le-leb l l (omega arith)

-- an expression is no looser than it spells
pub rank_least : {ns : List Name} {b : Bool} {l : ℕ} {e : Exp} {s t : List Lexeme} → SpellsExp ns b l e s t → nat_le l (rank e) ≡ true
rank_least (looser {l = l} {e = e} d) = weaken l (rank e) (rank_least d)
rank_least (variable p) = refl
rank_least number_constant = refl
rank_least character_constant = refl
rank_least (parenthesis d) = refl
rank_least (index d f) = refl
rank_least (member d p) = refl
rank_least (pointer_member d p) = refl
rank_least (unary d) = refl
rank_least (sizeof_value d) = refl
rank_least (sizeof_type d) = refl
rank_least (cast d f) = refl
rank_least (binary {op = op} d f) = same_level (level op)
rank_least (conditional d f g) = refl

-- how tight an expression must be for a token behind it to go on with it
abbrev pub needs_kind : Kind → ℕ
needs_kind (punct sign.LeftBracket) = 13
needs_kind (punct sign.Dot) = 13
needs_kind (punct sign.Arrow) = 13
needs_kind (punct sign.LeftParenthesis) = 16
needs_kind (punct sign.Question) = 1
needs_kind (punct sign.Star) = 10
needs_kind (punct sign.Slash) = 10
needs_kind (punct sign.Percent) = 10
needs_kind (punct sign.Plus) = 9
needs_kind (punct sign.Minus) = 9
needs_kind (punct sign.LessLess) = 8
needs_kind (punct sign.GreaterGreater) = 8
needs_kind (punct sign.Less) = 7
needs_kind (punct sign.Greater) = 7
needs_kind (punct sign.LessEqual) = 7
needs_kind (punct sign.GreaterEqual) = 7
needs_kind (punct sign.EqualEqual) = 6
needs_kind (punct sign.ExclamationEqual) = 6
needs_kind (punct sign.Ampersand) = 5
needs_kind (punct sign.Caret) = 4
needs_kind (punct sign.Bar) = 3
needs_kind (punct sign.AmpersandAmpersand) = 2
needs_kind (punct sign.BarBar) = 1
needs_kind k = 0

abbrev pub needs : List Lexeme → ℕ
needs [] = 16
needs (x ∷ t) = needs_kind x.kind

-- a type begins here
abbrev pub starts : List Name → List Lexeme → Bool
starts ns [] = false
starts ns (x ∷ t) = starts_type (is_type ns x.kind) x.kind

-- a token is taken
pub takes : (ns next : List Name) (s : Symbol) (stack : List Symbol) (vs ws : List Value) (x : Lexeme) (t : List Lexeme) (before : List Production) (more : List Symbol) → choice_of s (is_type ns x.kind) x.kind ≡ Take before more → acts before (Some vs) ≡ Some ws → go ns next (s ∷ stack) vs (x ∷ t) ≡ go ns (noted s x.kind next) (more ++ stack) (Tok x ∷ ws) t
unfolding go
takes ns next s stack vs ws x t before more e f = settled ns next (s ∷ stack) (Some vs) x t ∙ rw (e, advance, f) refl

pub false≢true : {A : Type 0} → false ≡ true → A
false≢true e = absurd cc

-- Numbers.

pub le_more : (a l : ℕ) → nat_le a l ≡ true → nat_le a (suc l) ≡ true
le_more a l h = let k = leb-true a l h in le-leb a (suc l) (omega arith)

pub le_trans : (a b c : ℕ) → nat_le a b ≡ true → nat_le b c ≡ true → nat_le a c ≡ true
le_trans a b c h j = let k = leb-true a b h in let m = leb-true b c j in le-leb a c (omega arith)

pub le_zero : (a : ℕ) → nat_le 0 a ≡ true
le_zero a = le-leb 0 a (omega arith)

pub le_next : (a b c : ℕ) → nat_le a b ≡ true → nat_le (suc b) c ≡ true → nat_le a c ≡ true
le_next a b c h j = let k = leb-true a b h in let m = leb-true (suc b) c j in le-leb a c (omega arith)

pub not_below : (l : ℕ) → nat_le (suc l) l ≡ false
not_below l = lt-leb (suc l) l (omega arith)

pub below_false : (a m l : ℕ) → nat_le a m ≡ false → nat_le l m ≡ true → nat_le a l ≡ false
below_false a m l h j = let k = leb-false a m h in let n = leb-true l m j in lt-leb a l (omega arith)

pub level_small : (op : BinaryOperator) → nat_le (level op) 12 ≡ true
level_small binary.Multiply = refl
level_small _ = refl

-- Signs.

pub needs_sign : (op : BinaryOperator) → needs_kind (punct (binary_sign op)) ≡ level op
needs_sign binary.Multiply = refl
needs_sign _ = refl

pub unary_takes : (b : Bool) (w : Wanted) (op : UnaryOperator) → operand b w false (punct (unary_sign op)) ≡ unary_choice b w op
unary_takes b w unary.Negate = refl
unary_takes b w _ = refl

pub binary_takes : (b : Bool) (w : Wanted) (r : ℕ) (op : BinaryOperator) → tail b w r (punct (binary_sign op)) ≡ binary_choice b w r op (punct (binary_sign op))
binary_takes b w r binary.Multiply = refl
binary_takes b w r _ = refl

-- the gap between an operator and a part of a place
pub needs_gap : (k : Kind) → nat_le (needs_kind k) 12 ≡ true → nat_le (needs_kind k) 10 ≡ true
needs_gap (punct sign.LeftBracket) h = h
needs_gap (punct sign.Dot) h = h
needs_gap (punct sign.Arrow) h = h
needs_gap (punct sign.LeftParenthesis) h = h
needs_gap k h = refl

pub gap : (t : List Lexeme) → nat_le (needs t) 12 ≡ true → nat_le (needs t) 10 ≡ true
gap [] h = h
gap (x ∷ t) h = needs_gap x.kind h

-- The end of an expression.

pub closes_binary : (b : Bool) (w : Wanted) (r : ℕ) (op : BinaryOperator) (k : Kind) → nat_le (least w) (level op) ≡ false → binary_choice b w r op k ≡ tail_end b w r k
closes_binary b w r op k h = rw (h) refl

pub closes : (b : Bool) (w : Wanted) (r m : ℕ) (k : Kind) → nat_le (needs_kind k) m ≡ true → nat_le m 12 ≡ true → nat_le (least w) m ≡ false → tail b w r k ≡ tail_end b w r k
closes b w r m (punct sign.LeftBracket) h i j = false≢true (le_trans 13 m 12 h i)
closes b w r m (punct sign.Dot) h i j = false≢true (le_trans 13 m 12 h i)
closes b w r m (punct sign.Arrow) h i j = false≢true (le_trans 13 m 12 h i)
closes b w r m (punct sign.Question) h i j = rw (below_false (least w) m 0 j (le_zero m)) refl
closes b w r m (punct sign.Star) h i j = closes_binary b w r binary.Multiply (punct sign.Star) (below_false (least w) m (level binary.Multiply) j h)
closes b w r m (punct sign.Slash) h i j = closes_binary b w r binary.Divide (punct sign.Slash) (below_false (least w) m (level binary.Divide) j h)
closes b w r m (punct sign.Percent) h i j = closes_binary b w r binary.Remainder (punct sign.Percent) (below_false (least w) m (level binary.Remainder) j h)
closes b w r m (punct sign.Plus) h i j = closes_binary b w r binary.Add (punct sign.Plus) (below_false (least w) m (level binary.Add) j h)
closes b w r m (punct sign.Minus) h i j = closes_binary b w r binary.Subtract (punct sign.Minus) (below_false (least w) m (level binary.Subtract) j h)
closes b w r m (punct sign.LessLess) h i j = closes_binary b w r binary.ShiftLeft (punct sign.LessLess) (below_false (least w) m (level binary.ShiftLeft) j h)
closes b w r m (punct sign.GreaterGreater) h i j = closes_binary b w r binary.ShiftRight (punct sign.GreaterGreater) (below_false (least w) m (level binary.ShiftRight) j h)
closes b w r m (punct sign.Ampersand) h i j = closes_binary b w r binary.And (punct sign.Ampersand) (below_false (least w) m (level binary.And) j h)
closes b w r m (punct sign.Caret) h i j = closes_binary b w r binary.ExclusiveOr (punct sign.Caret) (below_false (least w) m (level binary.ExclusiveOr) j h)
closes b w r m (punct sign.Bar) h i j = closes_binary b w r binary.Or (punct sign.Bar) (below_false (least w) m (level binary.Or) j h)
closes b w r m (punct sign.Less) h i j = closes_binary b w r binary.Less (punct sign.Less) (below_false (least w) m (level binary.Less) j h)
closes b w r m (punct sign.Greater) h i j = closes_binary b w r binary.Greater (punct sign.Greater) (below_false (least w) m (level binary.Greater) j h)
closes b w r m (punct sign.LessEqual) h i j = closes_binary b w r binary.LessEqual (punct sign.LessEqual) (below_false (least w) m (level binary.LessEqual) j h)
closes b w r m (punct sign.GreaterEqual) h i j = closes_binary b w r binary.GreaterEqual (punct sign.GreaterEqual) (below_false (least w) m (level binary.GreaterEqual) j h)
closes b w r m (punct sign.EqualEqual) h i j = closes_binary b w r binary.Equal (punct sign.EqualEqual) (below_false (least w) m (level binary.Equal) j h)
closes b w r m (punct sign.ExclamationEqual) h i j = closes_binary b w r binary.NotEqual (punct sign.ExclamationEqual) (below_false (least w) m (level binary.NotEqual) j h)
closes b w r m (punct sign.AmpersandAmpersand) h i j = closes_binary b w r binary.LogicalAnd (punct sign.AmpersandAmpersand) (below_false (least w) m (level binary.LogicalAnd) j h)
closes b w r m (punct sign.BarBar) h i j = closes_binary b w r binary.LogicalOr (punct sign.BarBar) (below_false (least w) m (level binary.LogicalOr) j h)
closes b w r m k h i j = refl

pub closes_zero : (b : Bool) (w : Wanted) (r : ℕ) (k : Kind) → nat_le (needs_kind k) 0 ≡ true → tail b w r k ≡ tail_end b w r k
closes_zero b w r (punct sign.LeftBracket) h = false≢true h
closes_zero b w r (punct sign.Dot) h = false≢true h
closes_zero b w r (punct sign.Arrow) h = false≢true h
closes_zero b w r (punct sign.Question) h = false≢true h
closes_zero b w r (punct sign.Star) h = false≢true h
closes_zero b w r (punct sign.Slash) h = false≢true h
closes_zero b w r (punct sign.Percent) h = false≢true h
closes_zero b w r (punct sign.Plus) h = false≢true h
closes_zero b w r (punct sign.Minus) h = false≢true h
closes_zero b w r (punct sign.LessLess) h = false≢true h
closes_zero b w r (punct sign.GreaterGreater) h = false≢true h
closes_zero b w r (punct sign.Ampersand) h = false≢true h
closes_zero b w r (punct sign.Caret) h = false≢true h
closes_zero b w r (punct sign.Bar) h = false≢true h
closes_zero b w r (punct sign.Less) h = false≢true h
closes_zero b w r (punct sign.Greater) h = false≢true h
closes_zero b w r (punct sign.LessEqual) h = false≢true h
closes_zero b w r (punct sign.GreaterEqual) h = false≢true h
closes_zero b w r (punct sign.EqualEqual) h = false≢true h
closes_zero b w r (punct sign.ExclamationEqual) h = false≢true h
closes_zero b w r (punct sign.AmpersandAmpersand) h = false≢true h
closes_zero b w r (punct sign.BarBar) h = false≢true h
closes_zero b w r k h = refl

-- behind an expression of some level nothing goes on with it that binds less tightly
pub tail_level : (ns next : List Name) (b : Bool) (l r m : ℕ) (stack : List Symbol) (vs : List Value) (t : List Lexeme) → nat_le (needs t) m ≡ true → nat_le m 12 ≡ true → nat_le l m ≡ false → go ns next (symbol.Tail b (wanted.Level l) r ∷ stack) vs t ≡ go ns next stack vs t
unfolding choice_of go
tail_level ns next b l r m stack vs [] h i j = false≢true (le_trans 16 m 12 h i)
tail_level ns next b l r m stack vs (x ∷ t) h i j = passes ns next (symbol.Tail b (wanted.Level l) r) stack vs vs x t [] (closes b (wanted.Level l) r m x.kind h i j) refl

pub tail_nothing : (ns next : List Name) (b : Bool) (l r : ℕ) (stack : List Symbol) (vs : List Value) (t : List Lexeme) → nat_le (needs t) 0 ≡ true → go ns next (symbol.Tail b (wanted.Level l) r ∷ stack) vs t ≡ go ns next stack vs t
unfolding choice_of go
tail_nothing ns next b l r stack vs [] h = false≢true h
tail_nothing ns next b l r stack vs (x ∷ t) h = passes ns next (symbol.Tail b (wanted.Level l) r) stack vs vs x t [] (closes_zero b (wanted.Level l) r x.kind h) refl

pub tail_sized : (ns next : List Name) (b : Bool) (r : ℕ) (e : Exp) (x0 : Lexeme) (stack : List Symbol) (vs : List Value) (t : List Lexeme) → nat_le (needs t) 10 ≡ true → go ns next (symbol.Tail b wanted.Sized r ∷ stack) (OfExp e ∷ Tok x0 ∷ vs) t ≡ go ns next stack (OfExp (tree.SizeofValue x0.from e) ∷ vs) t
unfolding choice_of act go
tail_sized ns next b r e x0 stack vs [] h = false≢true h
tail_sized ns next b r e x0 stack vs (x ∷ t) h = passes ns next (symbol.Tail b wanted.Sized r) stack (OfExp e ∷ Tok x0 ∷ vs) (OfExp (tree.SizeofValue x0.from e) ∷ vs) x t (ends.SizeofValue ∷ []) (closes b wanted.Sized r 10 x.kind h refl refl) refl

-- Steps of single symbols.

pub takes_identifier : (ns next : List Name) (n : Name) (a z : ℕ) (K : List Symbol) (vs : List Value) (t : List Lexeme) → is_made ns n ≡ false → go ns next (symbol.Identifier ∷ K) vs (named n a z ∷ t) ≡ go ns next K (Tok (named n a z) ∷ vs) t
unfolding choice_of go
takes_identifier ns next n a z K vs t h = takes ns next symbol.Identifier K vs vs (named n a z) t [] [] (rw h refl) refl

pub takes_variable : (ns next : List Name) (b : Bool) (w : Wanted) (n : Name) (a z : ℕ) (K : List Symbol) (vs : List Value) (t : List Lexeme) → is_made ns n ≡ false → go ns next (symbol.Expression b w ∷ K) vs (named n a z ∷ t) ≡ go ns next (symbol.Tail b w 15 ∷ K) (OfExp (tree.Variable a n) ∷ vs) t
unfolding choice_of act go
takes_variable ns next b w n a z K vs t h = takes ns next (symbol.Expression b w) K vs vs (named n a z) t [] (end ends.Name ∷ symbol.Tail b w 15 ∷ []) (rw h refl) refl

pub takes_unary : (ns next : List Name) (b : Bool) (w : Wanted) (op : UnaryOperator) (a z : ℕ) (K : List Symbol) (vs : List Value) (t : List Lexeme) → nat_le (least w) 12 ≡ true → go ns next (symbol.Expression b w ∷ K) vs (mark (unary_sign op) a z ∷ t) ≡ go ns next (expression b 11 ∷ end (ends.Unary op) ∷ symbol.Tail b w 12 ∷ K) (Tok (mark (unary_sign op) a z) ∷ vs) t
unfolding choice_of go
takes_unary ns next b w op a z K vs t h = takes ns next (symbol.Expression b w) K vs vs (mark (unary_sign op) a z) t [] (expression b 11 ∷ end (ends.Unary op) ∷ symbol.Tail b w 12 ∷ []) (unary_takes b w op ∙ rw h refl) refl

pub takes_sizeof : (ns next : List Name) (b : Bool) (w : Wanted) (a z : ℕ) (K : List Symbol) (vs : List Value) (t : List Lexeme) → nat_le (least w) 12 ≡ true → go ns next (symbol.Expression b w ∷ K) vs (reserved word.Sizeof a z ∷ t) ≡ go ns next (symbol.Expression b wanted.Sized ∷ symbol.Tail b w 12 ∷ K) (Tok (reserved word.Sizeof a z) ∷ vs) t
unfolding choice_of go
takes_sizeof ns next b w a z K vs t h = takes ns next (symbol.Expression b w) K vs vs (reserved word.Sizeof a z) t [] (symbol.Expression b wanted.Sized ∷ symbol.Tail b w 12 ∷ []) (rw h refl) refl

pub takes_index : (ns next : List Name) (b : Bool) (w : Wanted) (r a z : ℕ) (K : List Symbol) (vs : List Value) (t : List Lexeme) → nat_le 13 r ≡ true → go ns next (symbol.Tail b w r ∷ K) vs (mark sign.LeftBracket a z ∷ t) ≡ go ns next (expression b 0 ∷ symbol.RightBracket ∷ end ends.Index ∷ symbol.Tail b w 13 ∷ K) (Tok (mark sign.LeftBracket a z) ∷ vs) t
unfolding choice_of go
takes_index ns next b w r a z K vs t h = takes ns next (symbol.Tail b w r) K vs vs (mark sign.LeftBracket a z) t [] (expression b 0 ∷ symbol.RightBracket ∷ end ends.Index ∷ symbol.Tail b w 13 ∷ []) (rw h refl) refl

pub takes_dot : (ns next : List Name) (b : Bool) (w : Wanted) (r a z : ℕ) (K : List Symbol) (vs : List Value) (t : List Lexeme) → nat_le 13 r ≡ true → go ns next (symbol.Tail b w r ∷ K) vs (mark sign.Dot a z ∷ t) ≡ go ns next (symbol.Identifier ∷ end ends.Member ∷ symbol.Tail b w 13 ∷ K) (Tok (mark sign.Dot a z) ∷ vs) t
unfolding choice_of go
takes_dot ns next b w r a z K vs t h = takes ns next (symbol.Tail b w r) K vs vs (mark sign.Dot a z) t [] (symbol.Identifier ∷ end ends.Member ∷ symbol.Tail b w 13 ∷ []) (rw h refl) refl

pub takes_arrow : (ns next : List Name) (b : Bool) (w : Wanted) (r a z : ℕ) (K : List Symbol) (vs : List Value) (t : List Lexeme) → nat_le 13 r ≡ true → go ns next (symbol.Tail b w r ∷ K) vs (mark sign.Arrow a z ∷ t) ≡ go ns next (symbol.Identifier ∷ end ends.PointerMember ∷ symbol.Tail b w 13 ∷ K) (Tok (mark sign.Arrow a z) ∷ vs) t
unfolding choice_of go
takes_arrow ns next b w r a z K vs t h = takes ns next (symbol.Tail b w r) K vs vs (mark sign.Arrow a z) t [] (symbol.Identifier ∷ end ends.PointerMember ∷ symbol.Tail b w 13 ∷ []) (rw h refl) refl

pub takes_binary : (ns next : List Name) (b : Bool) (w : Wanted) (r : ℕ) (op : BinaryOperator) (a z : ℕ) (K : List Symbol) (vs : List Value) (t : List Lexeme) → nat_le (least w) (level op) ≡ true → nat_le (level op) r ≡ true → go ns next (symbol.Tail b w r ∷ K) vs (mark (binary_sign op) a z ∷ t) ≡ go ns next (expression b (suc (level op)) ∷ end (ends.Binary op) ∷ symbol.Tail b w (level op) ∷ K) (Tok (mark (binary_sign op) a z) ∷ vs) t
unfolding choice_of go
takes_binary ns next b w r op a z K vs t h j = takes ns next (symbol.Tail b w r) K vs vs (mark (binary_sign op) a z) t [] (expression b (suc (level op)) ∷ end (ends.Binary op) ∷ symbol.Tail b w (level op) ∷ []) (binary_takes b w r op ∙ rw (h, j) refl) refl

pub takes_question : (ns next : List Name) (b : Bool) (w : Wanted) (r a z : ℕ) (K : List Symbol) (vs : List Value) (t : List Lexeme) → nat_le (least w) 0 ≡ true → nat_le 1 r ≡ true → go ns next (symbol.Tail b w r ∷ K) vs (mark sign.Question a z ∷ t) ≡ go ns next (expression b 0 ∷ symbol.Colon ∷ expression b 0 ∷ end ends.Conditional ∷ symbol.Tail b w 0 ∷ K) (Tok (mark sign.Question a z) ∷ vs) t
unfolding choice_of go
takes_question ns next b w r a z K vs t h j = takes ns next (symbol.Tail b w r) K vs vs (mark sign.Question a z) t [] (expression b 0 ∷ symbol.Colon ∷ expression b 0 ∷ end ends.Conditional ∷ symbol.Tail b w 0 ∷ []) (rw (h, j) refl) refl

-- A symbol whose choice is that of another one, with more behind it.

abbrev pub never_passes : Choice → Bool
never_passes (Pass before) = false
never_passes choice = true

pub expands : (ns next : List Name) (s0 s : Symbol) (more K : List Symbol) (vs : List Value) (x : Lexeme) (t : List Lexeme) (choice : Choice) → choice_of s0 (is_type ns x.kind) x.kind ≡ and_then choice more → choice_of s (is_type ns x.kind) x.kind ≡ choice → never_passes choice ≡ true → noted s0 x.kind next ≡ noted s x.kind next → go ns next (s0 ∷ K) vs (x ∷ t) ≡ go ns next (s ∷ (more ++ K)) vs (x ∷ t)
unfolding go
expands ns next s0 s more K vs x t Refuse e f h n = settled ns next (s0 ∷ K) (Some vs) x t ∙ rw (e, advance) (sym (settled ns next (s ∷ (more ++ K)) (Some vs) x t ∙ rw (f, advance) refl))
expands ns next s0 s more K vs x t (Pass before) e f h n = false≢true h
expands ns next s0 s more K vs x t (Take before after) e f h n =
    let F : List Name → List Symbol → Option (List Value) = λ p q. run (elim (acts before (Some vs)) [ None ↦ None | Some ws ↦ settle ns p q (Some (Tok x ∷ ws)) ]) t in
    let left : go ns next (s0 ∷ K) vs (x ∷ t) ≡ F (noted s0 x.kind next) ((after ++ more) ++ K) = settled ns next (s0 ∷ K) (Some vs) x t ∙ rw (e, advance) refl in
    let right : go ns next (s ∷ (more ++ K)) vs (x ∷ t) ≡ F (noted s x.kind next) (after ++ (more ++ K)) = settled ns next (s ∷ (more ++ K)) (Some vs) x t ∙ rw (f, advance) refl in
    left ∙ ap (λ p. F p ((after ++ more) ++ K)) n ∙ ap (λ q. F (noted s x.kind next) q) (append_assoc after more K) ∙ sym right

pub only_if_takes : (c : Bool) (choice : Choice) → never_passes choice ≡ true → never_passes (only_if c choice) ≡ true
only_if_takes true choice h = h
only_if_takes false choice h = refl

pub operand_takes : (b : Bool) (w : Wanted) (y : Bool) (k : Kind) → never_passes (operand b w y k) ≡ true
operand_takes b w true (name n) = refl
operand_takes b w y (punct sign.Minus) = only_if_takes (nat_le (least w) 12) _ refl
operand_takes b w y (punct sign.Plus) = only_if_takes (nat_le (least w) 12) _ refl
operand_takes b w y (punct sign.Tilde) = only_if_takes (nat_le (least w) 12) _ refl
operand_takes b w y (punct sign.Exclamation) = only_if_takes (nat_le (least w) 12) _ refl
operand_takes b w y (punct sign.Star) = only_if_takes (nat_le (least w) 12) _ refl
operand_takes b w y (punct sign.Ampersand) = only_if_takes (nat_le (least w) 12) _ refl
operand_takes b w y (keyword word.Sizeof) = only_if_takes (nat_le (least w) 12) _ refl
operand_takes _ _ _ _ = refl

pub first_words_take : (b y : Bool) (k : Kind) → never_passes (words b seen.Nothing y k) ≡ true
first_words_take b y (keyword word.Break) = refl
first_words_take b true (name n) = refl
first_words_take _ _ _ = refl

-- `(` and no type: an expression in parentheses
pub opens_value : (ns next : List Name) (b : Bool) (w : Wanted) (K : List Symbol) (vs : List Value) (s : List Lexeme) → starts ns s ≡ false → go ns next (symbol.Open b w ∷ K) vs s ≡ go ns next (expression b 0 ∷ symbol.RightParenthesis ∷ end ends.Parenthesis ∷ symbol.Tail b w 14 ∷ K) vs s
unfolding choice_of go
opens_value ns next b w K vs [] h = refl
opens_value ns next b w K vs (x ∷ t) h =
    expands ns next (symbol.Open b w) (expression b 0) (symbol.RightParenthesis ∷ end ends.Parenthesis ∷ symbol.Tail b w 14 ∷ []) K vs x t (operand b (wanted.Level 0) (is_type ns x.kind) x.kind) (rw h refl) refl (operand_takes b (wanted.Level 0) (is_type ns x.kind) x.kind) refl

-- `(` and a type: a cast, or the operand of `sizeof`
pub opens_type : (ns next : List Name) (b : Bool) (w : Wanted) (K : List Symbol) (vs : List Value) (s : List Lexeme) → may_open_type w ≡ true → starts ns s ≡ true → go ns next (symbol.Open b w ∷ K) vs s ≡ go ns next (symbol.Words b seen.Nothing ∷ symbol.Stars false ∷ end ends.TypeName ∷ symbol.RightParenthesis ∷ (open_rest b w ++ K)) vs s
unfolding choice_of go
opens_type ns next b w K vs [] m h = refl
opens_type ns next b w K vs (x ∷ t) m h =
    expands ns next (symbol.Open b w) (symbol.Words b seen.Nothing) (symbol.Stars false ∷ end ends.TypeName ∷ symbol.RightParenthesis ∷ open_rest b w) K vs x t (words b seen.Nothing (is_type ns x.kind) x.kind) (rw (h, m) refl) refl (first_words_take b (is_type ns x.kind) x.kind) refl

pub opens_cast : (w : Wanted) → nat_le (least w) 11 ≡ true → may_open_type w ≡ true
opens_cast wanted.Sized h = refl
opens_cast w h = h

pub cast_rest : (b : Bool) (w : Wanted) → nat_le (least w) 11 ≡ true → open_rest b w ≡ expression b 11 ∷ end ends.Cast ∷ symbol.Tail b w 11 ∷ []
cast_rest b wanted.Sized h = false≢true h
cast_rest _ _ _ = refl

-- Where a type begins, and where it ends.

pub add_starts : (q q1 : Seen) (k : Keyword) → add q k ≡ Some q1 → starts_type false (keyword k) ≡ true
add_starts q q1 word.Break h = absurd cc
add_starts q q1 word.Case h = absurd cc
add_starts q q1 word.Continue h = absurd cc
add_starts q q1 word.Default h = absurd cc
add_starts q q1 word.Do h = absurd cc
add_starts q q1 word.Else h = absurd cc
add_starts q q1 word.For h = absurd cc
add_starts q q1 word.If h = absurd cc
add_starts q q1 word.Return h = absurd cc
add_starts q q1 word.Sizeof h = absurd cc
add_starts q q1 word.Switch h = absurd cc
add_starts q q1 word.Typedef h = absurd cc
add_starts q q1 word.While h = absurd cc
add_starts q q1 k h = refl

pub words_start : {ns : List Name} {b : Bool} {q : Seen} {ws : Words} {s t : List Lexeme} → SpellsWords ns b q ws s t → complete q ≡ false → starts ns s ≡ true
words_start (no_words h) c = absurd cc
words_start (plain_word {q = q} {q1 = q1} {w0 = w0} h d) c = add_starts q q1 w0 h
words_start (type_name h d) c = h
words_start (struct_tag h d) c = refl
words_start (struct_body f d) c = refl
words_start (tagged_struct h f d) c = refl
words_start (enum_tag h d) c = refl
words_start (enum_body f d) c = refl
words_start (tagged_enum h f d) c = refl

pub type_starts : {ns : List Name} {b : Bool} {ty : TypeName} {s t : List Lexeme} → SpellsType ns b ty s t → starts ns s ≡ true
type_starts (typed d f) = words_start d refl

pub value_starts : {ns : List Name} {b : Bool} {l : ℕ} {e : Exp} {s t : List Lexeme} → SpellsExp ns b l e s t → starts ns s ≡ false
value_starts (looser d) = value_starts d
value_starts (variable h) = h
value_starts (index d f) = value_starts d
value_starts (member d h) = value_starts d
value_starts (pointer_member d h) = value_starts d
value_starts (binary d f) = value_starts d
value_starts (conditional d f g) = value_starts d
value_starts _ = refl

abbrev pub is_brace : Kind → Bool
is_brace (punct sign.LeftBrace) = true
is_brace k = false

-- what may follow the words of a type
abbrev pub ends_words : List Name → List Lexeme → Bool
ends_words ns [] = false
ends_words ns (x ∷ t) = not (starts_type (is_type ns x.kind) x.kind) && not (is_brace x.kind)

-- a token that goes on with stars
abbrev pub is_star : Kind → Bool
is_star (punct sign.Star) = true
is_star (keyword word.Const) = true
is_star k = false

abbrev pub opens_brace : List Lexeme → Bool
opens_brace [] = true
opens_brace (x ∷ t) = is_brace x.kind

pub ends_brace : (ns : List Name) (t : List Lexeme) → ends_words ns t ≡ true → opens_brace t ≡ false
ends_brace ns [] h = absurd cc
ends_brace ns (x ∷ t) h = second (starts_type (is_type ns x.kind) x.kind) (is_brace x.kind) h
  where
    second : (c d : Bool) → (not c && not d) ≡ true → d ≡ false
    second false false e = refl
    second _ _ e = absurd cc

-- what may follow the stars behind a type
abbrev pub ends_stars : List Lexeme → Bool
ends_stars [] = false
ends_stars (x ∷ t) = not (is_star x.kind)

pub stars_end : (ns : List Name) {f : Bool} {ats : List ℕ} {s t : List Lexeme} → SpellsStars f ats s t → f ≡ false → ends_words ns t ≡ true → ends_words ns s ≡ true
stars_end ns no_stars e h = h
stars_end ns (star d) e h = refl
stars_end ns (star_const d) e h = absurd cc

pub declarator_ends : {ns : List Name} {b : Bool} {d : Declarator} {s t : List Lexeme} → SpellsDeclarator ns b d s t → ends_words ns s ≡ true
declarator_ends {ns = ns} (declare d h f) = stars_end ns d refl (rw h refl)

pub declarators_end : {ns : List Name} {ds : Declarators} {s t : List Lexeme} → SpellsDeclarators ns ds s t → ends_words ns s ≡ true
declarators_end (last_declarator d) = declarator_ends d
declarators_end (more_declarators d f) = declarator_ends d

pub words_are_no_brace : {ns : List Name} {b : Bool} {q : Seen} {ws : Words} {s t : List Lexeme} → SpellsWords ns b q ws s t → ends_words ns t ≡ true → opens_brace s ≡ false
words_are_no_brace {ns = ns} {t = t} (no_words h) e = ends_brace ns t e
words_are_no_brace (plain_word h d) e = refl
words_are_no_brace (type_name h d) e = refl
words_are_no_brace (struct_tag h d) e = refl
words_are_no_brace (struct_body f d) e = refl
words_are_no_brace (tagged_struct h f d) e = refl
words_are_no_brace (enum_tag h d) e = refl
words_are_no_brace (enum_body f d) e = refl
words_are_no_brace (tagged_enum h f d) e = refl

-- where a declarator has no further star
pub stars_pass : (f : Bool) (k : Kind) → not (is_star k) ≡ true → stars f k ≡ Pass (ends.NoStars ∷ [])
stars_pass f (punct sign.Star) h = absurd cc
stars_pass f (keyword word.Const) h = absurd cc
stars_pass f k h = refl

-- where a struct or an enum has no body
pub struct_pass : (b : Bool) (k : Kind) → is_brace k ≡ false → struct_choice b k ≡ Pass (ends.StructTag ∷ [])
struct_pass b (punct sign.LeftBrace) h = absurd cc
struct_pass b k h = refl

pub enum_pass : (b : Bool) (k : Kind) → is_brace k ≡ false → enum_choice b k ≡ Pass (ends.EnumTag ∷ [])
enum_pass b (punct sign.LeftBrace) h = absurd cc
enum_pass b k h = refl

abbrev pub is_bracket : Kind → Bool
is_bracket (punct sign.LeftBracket) = true
is_bracket k = false

pub dimensions_pass : (b : Bool) (k : Kind) → not (is_bracket k) ≡ true → dimensions b k ≡ Pass (ends.NoDimensions ∷ [])
dimensions_pass b (punct sign.LeftBracket) h = absurd cc
dimensions_pass b k h = refl

-- `,` or `}`
abbrev pub is_enum_end : Kind → Bool
is_enum_end (punct sign.Comma) = true
is_enum_end (punct sign.RightBrace) = true
is_enum_end k = false

pub enum_needs : (k : Kind) → is_enum_end k ≡ true → nat_le (needs_kind k) 0 ≡ true
enum_needs (punct sign.Comma) h = refl
enum_needs (punct sign.RightBrace) h = refl
enum_needs k h = absurd cc

pub enum_value_pass : (k : Kind) → is_enum_end k ≡ true → enum_value k ≡ Pass (ends.Implicit ∷ [])
enum_value_pass (punct sign.Equal) h = absurd cc
enum_value_pass k h = refl

-- where a type has no further word
pub words_pass : (b : Bool) (q : Seen) (y : Bool) (k : Kind) → starts_type y k ≡ false → words b q y k ≡ pass_words q
words_pass b q y (keyword word.Const) h = absurd cc
words_pass b q y (keyword word.Static) h = absurd cc
words_pass b q y (keyword word.Inline) h = absurd cc
words_pass b q y (keyword word.Extern) h = absurd cc
words_pass b q y (keyword word.Char) h = absurd cc
words_pass b q y (keyword word.Enum) h = absurd cc
words_pass b q y (keyword word.Int) h = absurd cc
words_pass b q y (keyword word.Long) h = absurd cc
words_pass b q y (keyword word.Short) h = absurd cc
words_pass b q y (keyword word.Signed) h = absurd cc
words_pass b q y (keyword word.Struct) h = absurd cc
words_pass b q y (keyword word.Unsigned) h = absurd cc
words_pass b q y (keyword word.Void) h = absurd cc
words_pass b q true (name n) h = absurd cc
words_pass _ _ _ _ _ = refl

pub both_true : (c d : Bool) → (not c && d) ≡ true → c ≡ false
both_true true d h = absurd cc
both_true false d h = refl

pub passes_words : (ns next : List Name) (b : Bool) (q : Seen) (K : List Symbol) (vs : List Value) (t : List Lexeme) → complete q ≡ true → ends_words ns t ≡ true → go ns next (symbol.Words b q ∷ K) vs t ≡ go ns next K (OfWords tree.NoWords ∷ vs) t
unfolding choice_of act go
passes_words ns next b q K vs [] c h = absurd cc
passes_words ns next b q K vs (x ∷ t) c h = passes ns next (symbol.Words b q) K vs (OfWords tree.NoWords ∷ vs) x t (ends.NoWords ∷ []) (words_pass b q (is_type ns x.kind) x.kind (both_true (starts_type (is_type ns x.kind) x.kind) (not (is_brace x.kind)) h) ∙ rw c refl) refl

pub passes_stars : (ns next : List Name) (f : Bool) (K : List Symbol) (vs : List Value) (t : List Lexeme) → ends_stars t ≡ true → go ns next (symbol.Stars f ∷ K) vs t ≡ go ns next K (OfStars [] ∷ vs) t
unfolding choice_of act go
passes_stars ns next f K vs [] h = absurd cc
passes_stars ns next f K vs (x ∷ t) h = passes ns next (symbol.Stars f) K vs (OfStars [] ∷ vs) x t (ends.NoStars ∷ []) (stars_pass f x.kind h) refl

pub passes_struct : (ns next : List Name) (b : Bool) (n t0 : Lexeme) (K : List Symbol) (vs : List Value) (t : List Lexeme) → opens_brace t ≡ false → go ns next (symbol.StructBody b ∷ K) (Tok n ∷ Tok t0 ∷ vs) t ≡ go ns next K (OfWord (tree.StructTag t0.from (name_in n.kind)) ∷ vs) t
unfolding choice_of act go
passes_struct ns next b n t0 K vs [] h = absurd cc
passes_struct ns next b n t0 K vs (x ∷ t) h = passes ns next (symbol.StructBody b) K (Tok n ∷ Tok t0 ∷ vs) (OfWord (tree.StructTag t0.from (name_in n.kind)) ∷ vs) x t (ends.StructTag ∷ []) (struct_pass b x.kind h) refl

pub passes_enum : (ns next : List Name) (b : Bool) (n t0 : Lexeme) (K : List Symbol) (vs : List Value) (t : List Lexeme) → opens_brace t ≡ false → go ns next (symbol.EnumBody b ∷ K) (Tok n ∷ Tok t0 ∷ vs) t ≡ go ns next K (OfWord (tree.EnumTag t0.from (name_in n.kind)) ∷ vs) t
unfolding choice_of act go
passes_enum ns next b n t0 K vs [] h = absurd cc
passes_enum ns next b n t0 K vs (x ∷ t) h = passes ns next (symbol.EnumBody b) K (Tok n ∷ Tok t0 ∷ vs) (OfWord (tree.EnumTag t0.from (name_in n.kind)) ∷ vs) x t (ends.EnumTag ∷ []) (enum_pass b x.kind h) refl

-- the name of a struct or an enum
pub takes_tag : (ns next : List Name) (b : Bool) (n : Name) (a z : ℕ) (K : List Symbol) (vs : List Value) (t : List Lexeme) → is_made ns n ≡ false → go ns next (symbol.StructTag b ∷ K) vs (named n a z ∷ t) ≡ go ns next (symbol.StructBody b ∷ K) (Tok (named n a z) ∷ vs) t
unfolding choice_of go
takes_tag ns next b n a z K vs t h = takes ns next (symbol.StructTag b) K vs vs (named n a z) t [] (symbol.StructBody b ∷ []) (rw h refl) refl

pub takes_enum_tag : (ns next : List Name) (b : Bool) (n : Name) (a z : ℕ) (K : List Symbol) (vs : List Value) (t : List Lexeme) → is_made ns n ≡ false → go ns next (symbol.EnumTag b ∷ K) vs (named n a z ∷ t) ≡ go ns next (symbol.EnumBody b ∷ K) (Tok (named n a z) ∷ vs) t
unfolding choice_of go
takes_enum_tag ns next b n a z K vs t h = takes ns next (symbol.EnumTag b) K vs vs (named n a z) t [] (symbol.EnumBody b ∷ []) (rw h refl) refl

pub takes_word : (ns next : List Name) (b : Bool) (q q1 : Seen) (k : Keyword) (a z : ℕ) (K : List Symbol) (vs : List Value) (t : List Lexeme) → add q k ≡ Some q1 → go ns next (symbol.Words b q ∷ K) vs (reserved k a z ∷ t) ≡ go ns next (symbol.Words b q1 ∷ end ends.MoreWords ∷ K) (OfWord (tree.Reserved a k) ∷ vs) t
unfolding choice_of act go
takes_word ns next b q q1 k a z K vs t h = takes ns next (symbol.Words b q) K vs vs (reserved k a z) t [] (end ends.Reserved ∷ symbol.Words b q1 ∷ end ends.MoreWords ∷ []) (rw (h, word_choice) refl) refl

pub takes_type_name : (ns next : List Name) (b : Bool) (n : Name) (a z : ℕ) (K : List Symbol) (vs : List Value) (t : List Lexeme) → is_made ns n ≡ true → go ns next (symbol.Words b seen.Nothing ∷ K) vs (named n a z ∷ t) ≡ go ns next (symbol.Words b seen.Whole ∷ end ends.MoreWords ∷ K) (OfWord (tree.Named a n) ∷ vs) t
unfolding choice_of act go
takes_type_name ns next b n a z K vs t h = takes ns next (symbol.Words b seen.Nothing) K vs vs (named n a z) t [] (end ends.Named ∷ symbol.Words b seen.Whole ∷ end ends.MoreWords ∷ []) (rw h refl) refl

pub opens_members : (ns next : List Name) (K : List Symbol) (vs : List Value) (s : List Lexeme) → go ns next (symbol.Members ∷ K) vs s ≡ go ns next (symbol.Words false seen.Nothing ∷ declarator false (symbol.DeclaratorsMore ∷ symbol.MembersMore ∷ K)) vs s
unfolding choice_of go
opens_members ns next K vs [] = refl
opens_members ns next K vs (x ∷ t) = expands ns next symbol.Members (symbol.Words false seen.Nothing) (declarator false (symbol.DeclaratorsMore ∷ symbol.MembersMore ∷ [])) K vs x t (words false seen.Nothing (is_type ns x.kind) x.kind) refl refl (first_words_take false (is_type ns x.kind) x.kind) refl

pub members_go_on : (y : Bool) (k : Kind) → starts_type y k ≡ true → members_more y k ≡ and_then (words false seen.Nothing y k) (declarator false (symbol.DeclaratorsMore ∷ symbol.MembersMore ∷ end ends.MoreMembers ∷ []))
members_go_on y (punct sign.RightBrace) h = absurd cc
members_go_on y k h = refl

pub opens_more_members : (ns next : List Name) (K : List Symbol) (vs : List Value) (s : List Lexeme) → starts ns s ≡ true → go ns next (symbol.MembersMore ∷ K) vs s ≡ go ns next (symbol.Words false seen.Nothing ∷ declarator false (symbol.DeclaratorsMore ∷ symbol.MembersMore ∷ end ends.MoreMembers ∷ K)) vs s
unfolding choice_of go
opens_more_members ns next K vs [] h = refl
opens_more_members ns next K vs (x ∷ t) h = expands ns next symbol.MembersMore (symbol.Words false seen.Nothing) (declarator false (symbol.DeclaratorsMore ∷ symbol.MembersMore ∷ end ends.MoreMembers ∷ [])) K vs x t (words false seen.Nothing (is_type ns x.kind) x.kind) (members_go_on (is_type ns x.kind) x.kind h) refl (first_words_take false (is_type ns x.kind) x.kind) refl

pub members_start : {ns : List Name} {ms : Members} {s t : List Lexeme} → SpellsMembers ns ms s t → starts ns s ≡ true
members_start (last_member d f) = words_start d refl
members_start (more_members d f g) = words_start d refl

-- what may follow a declarator
abbrev pub ends_dimensions : List Lexeme → Bool
ends_dimensions [] = false
ends_dimensions (x ∷ t) = not (is_bracket x.kind)

pub passes_dimensions : (ns next : List Name) (b : Bool) (K : List Symbol) (vs : List Value) (t : List Lexeme) → ends_dimensions t ≡ true → go ns next (symbol.Dimensions b ∷ K) vs t ≡ go ns next K (OfDimensions tree.NoDimensions ∷ vs) t
unfolding choice_of act go
passes_dimensions ns next b K vs [] h = absurd cc
passes_dimensions ns next b K vs (x ∷ t) h = passes ns next (symbol.Dimensions b) K vs (OfDimensions tree.NoDimensions ∷ vs) x t (ends.NoDimensions ∷ []) (dimensions_pass b x.kind h) refl

-- enumerators
pub takes_enumerator : (ns next : List Name) (n : Name) (a z : ℕ) (K : List Symbol) (vs : List Value) (t : List Lexeme) → is_made ns n ≡ false → go ns next (symbol.Enumerators ∷ K) vs (named n a z ∷ t) ≡ go ns next (symbol.EnumValue ∷ symbol.EnumMore ∷ K) (Tok (named n a z) ∷ vs) t
unfolding choice_of go
takes_enumerator ns next n a z K vs t h = takes ns next symbol.Enumerators K vs vs (named n a z) t [] (symbol.EnumValue ∷ symbol.EnumMore ∷ []) (rw h refl) refl

pub takes_next : (ns next : List Name) (n : Name) (a z : ℕ) (K : List Symbol) (vs : List Value) (t : List Lexeme) → is_made ns n ≡ false → go ns next (symbol.EnumNext ∷ K) vs (named n a z ∷ t) ≡ go ns next (symbol.EnumValue ∷ symbol.EnumMore ∷ end ends.MoreEnumerators ∷ K) (Tok (named n a z) ∷ vs) t
unfolding choice_of go
takes_next ns next n a z K vs t h = takes ns next symbol.EnumNext K vs vs (named n a z) t [] (symbol.EnumValue ∷ symbol.EnumMore ∷ end ends.MoreEnumerators ∷ []) (rw h refl) refl

-- what may follow an enumerator
abbrev pub ends_enumerator : List Lexeme → Bool
ends_enumerator [] = false
ends_enumerator (x ∷ t) = is_enum_end x.kind

pub enumerator_needs : (t : List Lexeme) → ends_enumerator t ≡ true → nat_le (needs t) 0 ≡ true
enumerator_needs [] h = absurd cc
enumerator_needs (x ∷ t) h = enum_needs x.kind h

pub passes_enum_value : (ns next : List Name) (n : Lexeme) (K : List Symbol) (vs : List Value) (t : List Lexeme) → ends_enumerator t ≡ true → go ns next (symbol.EnumValue ∷ K) (Tok n ∷ vs) t ≡ go ns next K (OfEnumerator (tree.Implicit n.from (name_in n.kind)) ∷ vs) t
unfolding choice_of act go
passes_enum_value ns next n K vs [] h = absurd cc
passes_enum_value ns next n K vs (x ∷ t) h = passes ns next symbol.EnumValue K (Tok n ∷ vs) (OfEnumerator (tree.Implicit n.from (name_in n.kind)) ∷ vs) x t (ends.Implicit ∷ []) (enum_value_pass x.kind h) refl

pub goes_to_next : {ns : List Name} {en : Enumerator} {s t : List Lexeme} → SpellsEnumerator ns en s t → (next : List Name) (K : List Symbol) (vs : List Value) → go ns next (symbol.EnumNext ∷ K) vs s ≡ go ns next (symbol.Enumerators ∷ end ends.MoreEnumerators ∷ K) vs s
goes_to_next {ns = ns} (implicit h) next K vs = takes_next ns next _ _ _ K vs _ h ∙ sym (takes_enumerator ns next _ _ _ (end ends.MoreEnumerators ∷ K) vs _ h)
goes_to_next {ns = ns} (explicit {s = s} {a1 = a1} {z1 = z1} h d) next K vs = takes_next ns next _ _ _ K vs (mark sign.Equal a1 z1 ∷ s) h ∙ sym (takes_enumerator ns next _ _ _ (end ends.MoreEnumerators ∷ K) vs (mark sign.Equal a1 z1 ∷ s) h)

pub enumerators_next : {ns : List Name} {ens : Enumerators} {s t : List Lexeme} → SpellsEnumerators ns ens s t → (next : List Name) (K : List Symbol) (vs : List Value) → go ns next (symbol.EnumNext ∷ K) vs s ≡ go ns next (symbol.Enumerators ∷ end ends.MoreEnumerators ∷ K) vs s
enumerators_next (last_enumerator d) = goes_to_next d
enumerators_next (last_enumerator_comma d) = goes_to_next d
enumerators_next (more_enumerators d f) = goes_to_next d
