-- The choices of expressions keep what the stack means.
use Rattle.std.proofs.Common.{ℕ, ◌≡◌, Bool, true, false, ◌&&◌, ◌==◌, List, [], ◌∷◌, Option, Some, None, suc, nat_le, refl, sym, subst, arith}
use Rattle.std.proofs.lemmas.Bool.{leb-true, le-leb, eqb-true, and_parts}
use Rattle.c_lex.specs.declared.token.Keyword.{Keyword}
use Rattle.c_lex.specs.declared.token.Keyword.TheVariants as word
use Rattle.c_lex.specs.declared.token.Punct.{Punct}
use Rattle.c_lex.specs.declared.token.Punct.TheVariants as sign
use Rattle.c_lex.specs.Lexeme.{Lexeme, Kind, name, keyword, punct, character, number}
use Rattle.c_grammar.specs.declared.operator.UnaryOperator.{UnaryOperator}
use Rattle.c_grammar.specs.declared.operator.UnaryOperator.TheVariants as unary
use Rattle.c_grammar.specs.declared.operator.BinaryOperator.{BinaryOperator}
use Rattle.c_grammar.specs.declared.operator.BinaryOperator.TheVariants as binary
use Rattle.c_grammar.specs.declared.operator.StepOperator.TheVariants as step
use Rattle.c_grammar.specs.declared.symbol.Seen.{Seen}
use Rattle.c_grammar.specs.declared.symbol.Seen.TheVariants as seen
use Rattle.c_grammar.specs.declared.symbol.Wanted.{Wanted}
use Rattle.c_grammar.specs.declared.symbol.Wanted.TheVariants as wanted
use Rattle.c_grammar.specs.declared.symbol.Production.TheVariants as ends
use Rattle.c_grammar.specs.declared.symbol.Symbol.TheVariants as symbol
use Rattle.c_grammar.specs.Tree as tree
use Rattle.c_grammar.specs.Tree.{Name, Exp, Words, Call}
use Rattle.c_grammar.specs.Operators.{unary_sign, binary_sign, update_of, level, add, complete, is_made}
use Rattle.c_grammar.specs.Spells as spells
use Rattle.c_grammar.specs.Spells.{token, named, mark, reserved, SpellsExp, SpellsArguments, SpellsCall}
use Rattle.c_grammar.specs.CodeChoice as choice
use Rattle.c_grammar.specs.CodeChoice.{Refuse, Pass, take, least, expression}
use Rattle.c_grammar.specs.CodeStack.{is_type}
use Rattle.c_grammar.proofs.Steps.{false≢true, le_trans, le_zero, level_small}
use Rattle.c_grammar.proofs.Means.{IsName, is_mark, is_name, same, Means, plain, All, nil, cons, Sound, then_sound, if_sound, only_sound, loosen}

-- Words of a type.

pub pass_words_sound : (ns next : List Name) (b : Bool) (q : Seen) (x : Lexeme) → Sound ns next (symbol.Words b q) x (choice.pass_words q)
pass_words_sound ns next b q x = if_sound ns next (symbol.Words b q) x (complete q) (Pass (ends.NoWords ∷ [])) Refuse (λ h s. plain (tree.NoWords, spells.no_words h)) (λ h. tt)

plain_word_row : {ns next ns2 next2 : List Name} {s u : List Lexeme} (b : Bool) (q q1 : Seen) (k : Keyword) (a z : ℕ) → add q k ≡ Some q1 → All ns next (symbol.End ends.Reserved ∷ symbol.Words b q1 ∷ symbol.End ends.MoreWords ∷ []) s u ns2 next2 → Means ns next (symbol.Words b q) (reserved k a z ∷ s) u ns2 next2
plain_word_row b q q1 k a z h (cons (plain same) (cons (plain (ws, d)) (cons (plain same) nil))) = plain (tree.MoreWords (tree.Reserved a k) ws, spells.plain_word h d)

struct_word_row : {ns next ns2 next2 : List Name} {s u : List Lexeme} (b : Bool) (a z : ℕ) → All ns next (symbol.StructTag b ∷ symbol.Words b seen.Whole ∷ symbol.End ends.MoreWords ∷ []) s u ns2 next2 → Means ns next (symbol.Words b seen.Nothing) (reserved word.Struct a z ∷ s) u ns2 next2
struct_word_row b a z (cons (plain m) (cons (plain (ws, d)) (cons (plain same) nil))) = plain (m a z ws _ d)

enum_word_row : {ns next ns2 next2 : List Name} {s u : List Lexeme} (b : Bool) (a z : ℕ) → All ns next (symbol.EnumTag b ∷ symbol.Words b seen.Whole ∷ symbol.End ends.MoreWords ∷ []) s u ns2 next2 → Means ns next (symbol.Words b seen.Nothing) (reserved word.Enum a z ∷ s) u ns2 next2
enum_word_row b a z (cons (plain m) (cons (plain (ws, d)) (cons (plain same) nil))) = plain (m a z ws _ d)

named_word_row : {ns next ns2 next2 : List Name} {s u : List Lexeme} (b : Bool) (n : Name) (a z : ℕ) → is_made ns n ≡ true → All ns next (symbol.End ends.Named ∷ symbol.Words b seen.Whole ∷ symbol.End ends.MoreWords ∷ []) s u ns2 next2 → Means ns next (symbol.Words b seen.Nothing) (named n a z ∷ s) u ns2 next2
named_word_row b n a z h (cons (plain same) (cons (plain (ws, d)) (cons (plain same) nil))) = plain (tree.MoreWords (tree.Named a n) ws, spells.type_name h d)

pub tag_sound : (ns next : List Name) (b : Bool) (q : Seen) (k : Keyword) (a z : ℕ) → Sound ns next (symbol.Words b q) (reserved k a z) (choice.tag_word b q k)
tag_sound ns next b seen.Nothing word.Struct a z = λ s u ns2 next2 all. struct_word_row b a z all
tag_sound ns next b (seen.Integer g i j) word.Struct a z = tt
tag_sound ns next b seen.Whole word.Struct a z = tt
tag_sound ns next b seen.Nothing word.Enum a z = λ s u ns2 next2 all. enum_word_row b a z all
tag_sound ns next b (seen.Integer g i j) word.Enum a z = tt
tag_sound ns next b seen.Whole word.Enum a z = tt
tag_sound ns next b q k a z = pass_words_sound ns next b q (reserved k a z)

pub keyword_sound : (ns next : List Name) (b : Bool) (q : Seen) (k : Keyword) (a z : ℕ) (o : Option Seen) → add q k ≡ o → Sound ns next (symbol.Words b q) (reserved k a z) (choice.word_choice b q k o)
keyword_sound ns next b q k a z (Some q1) e = λ s u ns2 next2 all. plain_word_row b q q1 k a z e all
keyword_sound ns next b q k a z None e = tag_sound ns next b q k a z

pub name_sound : (ns next : List Name) (b : Bool) (q : Seen) (n : Name) (a z : ℕ) (y : Bool) → is_made ns n ≡ y → Sound ns next (symbol.Words b q) (named n a z) (choice.words b q y (name n))
name_sound ns next b seen.Nothing n a z true e = λ s u ns2 next2 all. named_word_row b n a z e all
name_sound ns next b q n a z false e = pass_words_sound ns next b q (named n a z)
name_sound _ _ _ _ _ _ _ _ _ = tt

pub words_sound : (ns next : List Name) (b : Bool) (q : Seen) (k : Kind) (a z : ℕ) → Sound ns next (symbol.Words b q) (token k a z) (choice.words b q (is_type ns k) k)
words_sound ns next b q (keyword k) a z = keyword_sound ns next b q k a z (add q k) refl
words_sound ns next b q (name n) a z = name_sound ns next b q n a z (is_made ns n) refl
words_sound ns next b q k a z = pass_words_sound ns next b q (token k a z)

-- Expressions.

name_row : {ns next ns2 next2 : List Name} {s u : List Lexeme} (b : Bool) (w : Wanted) (n : Name) (a z : ℕ) → is_made ns n ≡ false → All ns next (symbol.End ends.Name ∷ symbol.Tail b w 15 ∷ []) s u ns2 next2 → Means ns next (symbol.Expression b w) (named n a z ∷ s) u ns2 next2
name_row b w n a z h (cons (plain same) (cons (plain tail) nil)) = plain (λ l. tail l (le_trans (least w) 12 15 l refl) (tree.Variable a n) _ (spells.variable h))

number_row : {ns next ns2 next2 : List Name} {s u : List Lexeme} (b : Bool) (w : Wanted) (value : ℕ) (decimal unsigned : Bool) (longs : ℕ) (a z : ℕ) → All ns next (symbol.End ends.Number ∷ symbol.Tail b w 14 ∷ []) s u ns2 next2 → Means ns next (symbol.Expression b w) (token (number value decimal unsigned longs) a z ∷ s) u ns2 next2
number_row b w value decimal unsigned longs a z (cons (plain same) (cons (plain tail) nil)) = plain (λ l. tail l (le_trans (least w) 12 14 l refl) (tree.Number a value decimal unsigned longs) _ spells.number_constant)

character_row : {ns next ns2 next2 : List Name} {s u : List Lexeme} (b : Bool) (w : Wanted) (value : ℕ) (a z : ℕ) → All ns next (symbol.End ends.Character ∷ symbol.Tail b w 14 ∷ []) s u ns2 next2 → Means ns next (symbol.Expression b w) (token (character value) a z ∷ s) u ns2 next2
character_row b w value a z (cons (plain same) (cons (plain tail) nil)) = plain (λ l. tail l (le_trans (least w) 12 14 l refl) (tree.Character a value) _ spells.character_constant)

open_row : {ns next ns2 next2 : List Name} {s u : List Lexeme} (b : Bool) (w : Wanted) (a z : ℕ) → All ns next (symbol.Open b w ∷ []) s u ns2 next2 → Means ns next (symbol.Expression b w) (mark sign.LeftParenthesis a z ∷ s) u ns2 next2
open_row b w a z (cons (plain m) nil) = plain (λ l. m l a z)

unary_row : {ns next ns2 next2 : List Name} {s u : List Lexeme} (b : Bool) (w : Wanted) (op : UnaryOperator) (a z : ℕ) → All ns next (expression b 11 ∷ symbol.End (ends.Unary op) ∷ symbol.Tail b w 12 ∷ []) s u ns2 next2 → Means ns next (symbol.Expression b w) (mark (unary_sign op) a z ∷ s) u ns2 next2
unary_row b w op a z (cons (plain f) (cons (plain same) (cons (plain tail) nil))) = plain (λ l. let p = f refl in tail l l (tree.Unary a op p.0) _ (spells.unary p.1))

sizeof_row : {ns next ns2 next2 : List Name} {s u : List Lexeme} (b : Bool) (w : Wanted) (a z : ℕ) → All ns next (symbol.Expression b wanted.Sized ∷ symbol.Tail b w 12 ∷ []) s u ns2 next2 → Means ns next (symbol.Expression b w) (reserved word.Sizeof a z ∷ s) u ns2 next2
sizeof_row b w a z (cons (plain f) (cons (plain tail) nil)) = plain (λ l. let p = f refl a z in tail l l p.0 _ p.1)

pub operand_sound : (ns next : List Name) (b : Bool) (w : Wanted) (k : Kind) (a z : ℕ) → Sound ns next (symbol.Expression b w) (token k a z) (choice.operand b w (is_type ns k) k)
operand_sound ns next b w (name n) a z = if_sound ns next (symbol.Expression b w) (named n a z) (is_made ns n) Refuse (take (symbol.End ends.Name ∷ symbol.Tail b w 15 ∷ [])) (λ h. tt) (λ h s u ns2 next2 all. name_row b w n a z h all)
operand_sound ns next b w (number value decimal unsigned longs) a z = λ s u ns2 next2 all. number_row b w value decimal unsigned longs a z all
operand_sound ns next b w (character value) a z = λ s u ns2 next2 all. character_row b w value a z all
operand_sound ns next b w (punct sign.LeftParenthesis) a z = λ s u ns2 next2 all. open_row b w a z all
operand_sound ns next b w (punct sign.Minus) a z = only_sound ns next (symbol.Expression b w) (mark sign.Minus a z) (nat_le (least w) 12) (take (expression b 11 ∷ symbol.End (ends.Unary unary.Negate) ∷ symbol.Tail b w 12 ∷ [])) (λ h s u ns2 next2 all. unary_row b w unary.Negate a z all)
operand_sound ns next b w (punct sign.Plus) a z = only_sound ns next (symbol.Expression b w) (mark sign.Plus a z) (nat_le (least w) 12) (take (expression b 11 ∷ symbol.End (ends.Unary unary.Plus) ∷ symbol.Tail b w 12 ∷ [])) (λ h s u ns2 next2 all. unary_row b w unary.Plus a z all)
operand_sound ns next b w (punct sign.Tilde) a z = only_sound ns next (symbol.Expression b w) (mark sign.Tilde a z) (nat_le (least w) 12) (take (expression b 11 ∷ symbol.End (ends.Unary unary.Complement) ∷ symbol.Tail b w 12 ∷ [])) (λ h s u ns2 next2 all. unary_row b w unary.Complement a z all)
operand_sound ns next b w (punct sign.Exclamation) a z = only_sound ns next (symbol.Expression b w) (mark sign.Exclamation a z) (nat_le (least w) 12) (take (expression b 11 ∷ symbol.End (ends.Unary unary.Not) ∷ symbol.Tail b w 12 ∷ [])) (λ h s u ns2 next2 all. unary_row b w unary.Not a z all)
operand_sound ns next b w (punct sign.Star) a z = only_sound ns next (symbol.Expression b w) (mark sign.Star a z) (nat_le (least w) 12) (take (expression b 11 ∷ symbol.End (ends.Unary unary.Dereference) ∷ symbol.Tail b w 12 ∷ [])) (λ h s u ns2 next2 all. unary_row b w unary.Dereference a z all)
operand_sound ns next b w (punct sign.Ampersand) a z = only_sound ns next (symbol.Expression b w) (mark sign.Ampersand a z) (nat_le (least w) 12) (take (expression b 11 ∷ symbol.End (ends.Unary unary.Address) ∷ symbol.Tail b w 12 ∷ [])) (λ h s u ns2 next2 all. unary_row b w unary.Address a z all)
operand_sound ns next b w (keyword word.Sizeof) a z = only_sound ns next (symbol.Expression b w) (reserved word.Sizeof a z) (nat_le (least w) 12) (take (symbol.Expression b wanted.Sized ∷ symbol.Tail b w 12 ∷ [])) (λ h s u ns2 next2 all. sizeof_row b w a z all)
operand_sound ns next b w k a z = tt

parenthesis_row : {ns next ns1 next1 ns2 next2 : List Name} {s m u : List Lexeme} (b : Bool) (w : Wanted) (x : Lexeme) → Means ns next (expression b 0) (x ∷ s) m ns1 next1 → All ns1 next1 (symbol.RightParenthesis ∷ symbol.End ends.Parenthesis ∷ symbol.Tail b w 14 ∷ []) m u ns2 next2 → Means ns next (symbol.Open b w) (x ∷ s) u ns2 next2
parenthesis_row b w x (plain f) (cons (plain is_mark) (cons (plain same) (cons (plain tail) nil))) = plain (λ l a z. let p = f refl in tail l (le_trans (least w) 12 14 l refl) (tree.Parenthesis a p.0) _ (spells.parenthesis p.1))

cast_row : {ns next ns1 next1 ns2 next2 : List Name} {s m u : List Lexeme} (b : Bool) (w : Wanted) (x : Lexeme) → nat_le (least w) 11 ≡ true → Means ns next (symbol.Words b seen.Nothing) (x ∷ s) m ns1 next1 → All ns1 next1 (symbol.Stars false ∷ symbol.End ends.TypeName ∷ symbol.RightParenthesis ∷ expression b 11 ∷ symbol.End ends.Cast ∷ symbol.Tail b w 11 ∷ []) m u ns2 next2 → Means ns next (symbol.Open b w) (x ∷ s) u ns2 next2
cast_row b w x h (plain (ws, d)) (cons (plain (ats, g)) (cons (plain same) (cons (plain is_mark) (cons (plain f) (cons (plain same) (cons (plain tail) nil)))))) = plain (λ l a z. let p = f refl in tail l h (tree.Cast a (tree.Typed ws ats) p.0) _ (spells.cast (spells.typed d g) p.1))

sizeof_type_row : {ns next ns1 next1 ns2 next2 : List Name} {s m u : List Lexeme} (b : Bool) (x : Lexeme) → Means ns next (symbol.Words b seen.Nothing) (x ∷ s) m ns1 next1 → All ns1 next1 (symbol.Stars false ∷ symbol.End ends.TypeName ∷ symbol.RightParenthesis ∷ symbol.End ends.SizeofType ∷ []) m u ns2 next2 → Means ns next (symbol.Open b wanted.Sized) (x ∷ s) u ns2 next2
sizeof_type_row b x (plain (ws, d)) (cons (plain (ats, g)) (cons (plain same) (cons (plain is_mark) (cons (plain same) nil)))) = plain (λ l a z a1 z1. (tree.SizeofType a1 (tree.Typed ws ats), spells.sizeof_type (spells.typed d g)))

open_type_row : {ns next ns1 next1 ns2 next2 : List Name} {s m u : List Lexeme} (b : Bool) (w : Wanted) (x : Lexeme) → choice.may_open_type w ≡ true → Means ns next (symbol.Words b seen.Nothing) (x ∷ s) m ns1 next1 → All ns1 next1 (symbol.Stars false ∷ symbol.End ends.TypeName ∷ symbol.RightParenthesis ∷ choice.open_rest b w) m u ns2 next2 → Means ns next (symbol.Open b w) (x ∷ s) u ns2 next2
open_type_row b wanted.Sized x h first all = sizeof_type_row b x first all
open_type_row b (wanted.Level l) x h first all = cast_row b (wanted.Level l) x h first all
open_type_row b wanted.Right x h first all = cast_row b wanted.Right x h first all
open_type_row b wanted.Place x h first all = cast_row b wanted.Place x h first all

pub opened_sound : (ns next : List Name) (b : Bool) (w : Wanted) (k : Kind) (a z : ℕ) → Sound ns next (symbol.Open b w) (token k a z) (choice.opened b w (is_type ns k) k)
opened_sound ns next b w k a z =
    if_sound ns next (symbol.Open b w) (token k a z) (choice.starts_type (is_type ns k) k) (choice.open_type b w (is_type ns k) k) (choice.open_value b w (is_type ns k) k)
    (λ c. only_sound ns next (symbol.Open b w) (token k a z) (choice.may_open_type w) (choice.and_then (choice.words b seen.Nothing (is_type ns k) k) (symbol.Stars false ∷ symbol.End ends.TypeName ∷ symbol.RightParenthesis ∷ choice.open_rest b w))
    (λ h. then_sound ns next (symbol.Open b w) (symbol.Words b seen.Nothing) (token k a z) (choice.words b seen.Nothing (is_type ns k) k) (symbol.Stars false ∷ symbol.End ends.TypeName ∷ symbol.RightParenthesis ∷ choice.open_rest b w) (words_sound ns next b seen.Nothing k a z) refl (λ s m u ns1 next1 ns2 next2 first all. open_type_row b w (token k a z) h first all)))
    (λ c. then_sound ns next (symbol.Open b w) (expression b 0) (token k a z) (choice.operand b (wanted.Level 0) (is_type ns k) k) (symbol.RightParenthesis ∷ symbol.End ends.Parenthesis ∷ symbol.Tail b w 14 ∷ []) (operand_sound ns next b (wanted.Level 0) k a z) refl (λ s m u ns1 next1 ns2 next2 first all. parenthesis_row b w (token k a z) first all))

-- What follows an operand.

name_only : {ns : List Name} {b : Bool} {l : ℕ} {e : Exp} {s t : List Lexeme} → SpellsExp ns b l e s t → nat_le 15 l ≡ true → IsName ns s t
name_only (spells.looser {l = l} d) h = name_only d (wider l h)
  where
    wider : (l : ℕ) → nat_le 15 l ≡ true → nat_le 15 (suc l) ≡ true
    wider l h = let k = leb-true 15 l h in le-leb 15 (suc l) (omega arith)
name_only (spells.variable q) h = is_name q
name_only spells.number_constant h = false≢true h
name_only spells.character_constant h = false≢true h
name_only (spells.parenthesis d) h = false≢true h
name_only (spells.index d f) h = false≢true h
name_only (spells.member d q) h = false≢true h
name_only (spells.pointer_member d q) h = false≢true h
name_only (spells.unary d) h = false≢true h
name_only (spells.sizeof_value d) h = false≢true h
name_only (spells.sizeof_type d) h = false≢true h
name_only (spells.cast d f) h = false≢true h
name_only (spells.binary {op = op} d f) h = false≢true (le_trans 15 (level op) 12 h (level_small op))
name_only (spells.conditional d f g) h = false≢true h

called : {ns : List Name} {b : Bool} {es : List Exp} {s t v : List Lexeme} (a z : ℕ) → IsName ns s t → t ≡ mark sign.LeftParenthesis a z ∷ v → {u : List Lexeme} → SpellsArguments ns b es v u → (call : Call) × SpellsCall ns b call s u
called {ns = ns} {b = b} {es = es} {v = v} a z (is_name {n = n} {a = a0} {z = z0} h) e {u = u} d = (tree.Calls a0 n es, subst (λ t. SpellsCall ns b (tree.Calls a0 n es) (named n a0 z0 ∷ t) u) (sym e) (spells.calls h d))

fifteen : (r : ℕ) → (r == 15) ≡ true → nat_le 15 r ≡ true
fifteen r h = let e = eqb-true r 15 h in le-leb 15 r (omega arith)

level_next : (op : BinaryOperator) → nat_le (suc (level op)) 12 ≡ true
level_next binary.Multiply = refl
level_next _ = refl

call_value_row : {ns next ns2 next2 : List Name} {s u : List Lexeme} (b : Bool) (r : ℕ) (a z : ℕ) → (r == 15) ≡ true → All ns next (symbol.Arguments b ∷ symbol.End ends.Call ∷ symbol.End ends.CallValue ∷ []) s u ns2 next2 → Means ns next (symbol.Tail b wanted.Right r) (mark sign.LeftParenthesis a z ∷ s) u ns2 next2
call_value_row b r a z h (cons (plain (es, d)) (cons (plain same) (cons (plain same) nil))) = plain (λ l i e v f. let p = called a z (name_only f (fifteen r h)) refl d in (tree.Result p.0, spells.result_of p.1))

invoke_row : {ns next ns2 next2 : List Name} {s u : List Lexeme} (b : Bool) (r : ℕ) (a z : ℕ) → (r == 15) ≡ true → All ns next (symbol.Arguments b ∷ symbol.End ends.Call ∷ symbol.End ends.Invoke ∷ []) s u ns2 next2 → Means ns next (symbol.Tail b wanted.Place r) (mark sign.LeftParenthesis a z ∷ s) u ns2 next2
invoke_row b r a z h (cons (plain (es, d)) (cons (plain same) (cons (plain same) nil))) = plain (λ l i e v f. let p = called a z (name_only f (fifteen r h)) refl d in (tree.Invoke p.0, spells.invoke p.1))

increment_row : {ns next ns2 next2 : List Name} {s u : List Lexeme} (b : Bool) (r : ℕ) (a z : ℕ) → nat_le 13 r ≡ true → All ns next (symbol.End (ends.After step.Increment) ∷ []) s u ns2 next2 → Means ns next (symbol.Tail b wanted.Place r) (mark sign.PlusPlus a z ∷ s) u ns2 next2
increment_row b r a z h (cons (plain same) nil) = plain (λ l i e v f. (tree.After step.Increment e, spells.after (loosen 13 r h f)))

decrement_row : {ns next ns2 next2 : List Name} {s u : List Lexeme} (b : Bool) (r : ℕ) (a z : ℕ) → nat_le 13 r ≡ true → All ns next (symbol.End (ends.After step.Decrement) ∷ []) s u ns2 next2 → Means ns next (symbol.Tail b wanted.Place r) (mark sign.MinusMinus a z ∷ s) u ns2 next2
decrement_row b r a z h (cons (plain same) nil) = plain (λ l i e v f. (tree.After step.Decrement e, spells.after (loosen 13 r h f)))

assign_row : {ns next ns2 next2 : List Name} {s u : List Lexeme} (b : Bool) (r : ℕ) (a z : ℕ) → nat_le 12 r ≡ true → All ns next (symbol.Expression b wanted.Right ∷ symbol.End ends.Assign ∷ []) s u ns2 next2 → Means ns next (symbol.Tail b wanted.Place r) (mark sign.Equal a z ∷ s) u ns2 next2
assign_row b r a z h (cons (plain g) (cons (plain same) nil)) = plain (λ l i e v f. let p = g refl in (tree.Assign e p.0, spells.assign (loosen 12 r h f) p.1))

update_row : {ns next ns2 next2 : List Name} {s u : List Lexeme} (b : Bool) (r : ℕ) (p0 : Punct) (op : BinaryOperator) (a z : ℕ) → update_of p0 ≡ Some op → nat_le 12 r ≡ true → All ns next (expression b 0 ∷ symbol.End (ends.Update op) ∷ []) s u ns2 next2 → Means ns next (symbol.Tail b wanted.Place r) (mark p0 a z ∷ s) u ns2 next2
update_row b r p0 op a z j h (cons (plain g) (cons (plain same) nil)) = plain (λ l i e v f. let p = g refl in (tree.Update op e p.0, spells.update j (loosen 12 r h f) p.1))

pub tail_end_sound : (ns next : List Name) (b : Bool) (w : Wanted) (r : ℕ) (k : Kind) (a z : ℕ) → Sound ns next (symbol.Tail b w r) (token k a z) (choice.tail_end b w r k)
tail_end_sound ns next b (wanted.Level l) r k a z = λ s. plain (λ i h e v f. (e, loosen l r h f))
tail_end_sound ns next b wanted.Sized r k a z = λ s. plain (λ i h e v f. λ a1 z1. (tree.SizeofValue a1 e, spells.sizeof_value (loosen 12 r h f)))
tail_end_sound ns next b wanted.Right r (punct sign.LeftParenthesis) a z = if_sound ns next (symbol.Tail b wanted.Right r) (mark sign.LeftParenthesis a z) (r == 15) (take (symbol.Arguments b ∷ symbol.End ends.Call ∷ symbol.End ends.CallValue ∷ [])) Refuse (λ h s u ns2 next2 all. call_value_row b r a z h all) (λ h. tt)
tail_end_sound ns next b wanted.Right r k a z = λ s. plain (λ i h e v f. (tree.Value e, spells.value (loosen 0 r (le_zero r) f)))
tail_end_sound ns next b wanted.Place r (punct sign.LeftParenthesis) a z = only_sound ns next (symbol.Tail b wanted.Place r) (mark sign.LeftParenthesis a z) (r == 15) (take (symbol.Arguments b ∷ symbol.End ends.Call ∷ symbol.End ends.Invoke ∷ [])) (λ h s u ns2 next2 all. invoke_row b r a z h all)
tail_end_sound ns next b wanted.Place r (punct sign.PlusPlus) a z = only_sound ns next (symbol.Tail b wanted.Place r) (mark sign.PlusPlus a z) (nat_le 13 r) (take (symbol.End (ends.After step.Increment) ∷ [])) (λ h s u ns2 next2 all. increment_row b r a z h all)
tail_end_sound ns next b wanted.Place r (punct sign.MinusMinus) a z = only_sound ns next (symbol.Tail b wanted.Place r) (mark sign.MinusMinus a z) (nat_le 13 r) (take (symbol.End (ends.After step.Decrement) ∷ [])) (λ h s u ns2 next2 all. decrement_row b r a z h all)
tail_end_sound ns next b wanted.Place r (punct sign.Equal) a z = only_sound ns next (symbol.Tail b wanted.Place r) (mark sign.Equal a z) (nat_le 12 r) (take (symbol.Expression b wanted.Right ∷ symbol.End ends.Assign ∷ [])) (λ h s u ns2 next2 all. assign_row b r a z h all)
tail_end_sound ns next b wanted.Place r (punct sign.StarEqual) a z = only_sound ns next (symbol.Tail b wanted.Place r) (mark sign.StarEqual a z) (nat_le 12 r) (take (expression b 0 ∷ symbol.End (ends.Update binary.Multiply) ∷ [])) (λ h s u ns2 next2 all. update_row b r sign.StarEqual binary.Multiply a z refl h all)
tail_end_sound ns next b wanted.Place r (punct sign.SlashEqual) a z = only_sound ns next (symbol.Tail b wanted.Place r) (mark sign.SlashEqual a z) (nat_le 12 r) (take (expression b 0 ∷ symbol.End (ends.Update binary.Divide) ∷ [])) (λ h s u ns2 next2 all. update_row b r sign.SlashEqual binary.Divide a z refl h all)
tail_end_sound ns next b wanted.Place r (punct sign.PercentEqual) a z = only_sound ns next (symbol.Tail b wanted.Place r) (mark sign.PercentEqual a z) (nat_le 12 r) (take (expression b 0 ∷ symbol.End (ends.Update binary.Remainder) ∷ [])) (λ h s u ns2 next2 all. update_row b r sign.PercentEqual binary.Remainder a z refl h all)
tail_end_sound ns next b wanted.Place r (punct sign.PlusEqual) a z = only_sound ns next (symbol.Tail b wanted.Place r) (mark sign.PlusEqual a z) (nat_le 12 r) (take (expression b 0 ∷ symbol.End (ends.Update binary.Add) ∷ [])) (λ h s u ns2 next2 all. update_row b r sign.PlusEqual binary.Add a z refl h all)
tail_end_sound ns next b wanted.Place r (punct sign.MinusEqual) a z = only_sound ns next (symbol.Tail b wanted.Place r) (mark sign.MinusEqual a z) (nat_le 12 r) (take (expression b 0 ∷ symbol.End (ends.Update binary.Subtract) ∷ [])) (λ h s u ns2 next2 all. update_row b r sign.MinusEqual binary.Subtract a z refl h all)
tail_end_sound ns next b wanted.Place r (punct sign.LessLessEqual) a z = only_sound ns next (symbol.Tail b wanted.Place r) (mark sign.LessLessEqual a z) (nat_le 12 r) (take (expression b 0 ∷ symbol.End (ends.Update binary.ShiftLeft) ∷ [])) (λ h s u ns2 next2 all. update_row b r sign.LessLessEqual binary.ShiftLeft a z refl h all)
tail_end_sound ns next b wanted.Place r (punct sign.GreaterGreaterEqual) a z = only_sound ns next (symbol.Tail b wanted.Place r) (mark sign.GreaterGreaterEqual a z) (nat_le 12 r) (take (expression b 0 ∷ symbol.End (ends.Update binary.ShiftRight) ∷ [])) (λ h s u ns2 next2 all. update_row b r sign.GreaterGreaterEqual binary.ShiftRight a z refl h all)
tail_end_sound ns next b wanted.Place r (punct sign.AmpersandEqual) a z = only_sound ns next (symbol.Tail b wanted.Place r) (mark sign.AmpersandEqual a z) (nat_le 12 r) (take (expression b 0 ∷ symbol.End (ends.Update binary.And) ∷ [])) (λ h s u ns2 next2 all. update_row b r sign.AmpersandEqual binary.And a z refl h all)
tail_end_sound ns next b wanted.Place r (punct sign.CaretEqual) a z = only_sound ns next (symbol.Tail b wanted.Place r) (mark sign.CaretEqual a z) (nat_le 12 r) (take (expression b 0 ∷ symbol.End (ends.Update binary.ExclusiveOr) ∷ [])) (λ h s u ns2 next2 all. update_row b r sign.CaretEqual binary.ExclusiveOr a z refl h all)
tail_end_sound ns next b wanted.Place r (punct sign.BarEqual) a z = only_sound ns next (symbol.Tail b wanted.Place r) (mark sign.BarEqual a z) (nat_le 12 r) (take (expression b 0 ∷ symbol.End (ends.Update binary.Or) ∷ [])) (λ h s u ns2 next2 all. update_row b r sign.BarEqual binary.Or a z refl h all)
tail_end_sound ns next b wanted.Place r k a z = tt

index_row : {ns next ns2 next2 : List Name} {s u : List Lexeme} (b : Bool) (w : Wanted) (r : ℕ) (a z : ℕ) → nat_le 13 r ≡ true → All ns next (expression b 0 ∷ symbol.RightBracket ∷ symbol.End ends.Index ∷ symbol.Tail b w 13 ∷ []) s u ns2 next2 → Means ns next (symbol.Tail b w r) (mark sign.LeftBracket a z ∷ s) u ns2 next2
index_row b w r a z h (cons (plain g) (cons (plain is_mark) (cons (plain same) (cons (plain tail) nil)))) = plain (λ l i e v f. let p = g refl in tail l (le_trans (least w) 12 13 l refl) (tree.Index e p.0) v (spells.index (loosen 13 r h f) p.1))

member_row : {ns next ns2 next2 : List Name} {s u : List Lexeme} (b : Bool) (w : Wanted) (r : ℕ) (a z : ℕ) → nat_le 13 r ≡ true → All ns next (symbol.Identifier ∷ symbol.End ends.Member ∷ symbol.Tail b w 13 ∷ []) s u ns2 next2 → Means ns next (symbol.Tail b w r) (mark sign.Dot a z ∷ s) u ns2 next2
member_row b w r a z h (cons (plain (is_name {n = n} q)) (cons (plain same) (cons (plain tail) nil))) = plain (λ l i e v f. tail l (le_trans (least w) 12 13 l refl) (tree.Member e n) v (spells.member (loosen 13 r h f) q))

arrow_row : {ns next ns2 next2 : List Name} {s u : List Lexeme} (b : Bool) (w : Wanted) (r : ℕ) (a z : ℕ) → nat_le 13 r ≡ true → All ns next (symbol.Identifier ∷ symbol.End ends.PointerMember ∷ symbol.Tail b w 13 ∷ []) s u ns2 next2 → Means ns next (symbol.Tail b w r) (mark sign.Arrow a z ∷ s) u ns2 next2
arrow_row b w r a z h (cons (plain (is_name {n = n} q)) (cons (plain same) (cons (plain tail) nil))) = plain (λ l i e v f. tail l (le_trans (least w) 12 13 l refl) (tree.PointerMember e n) v (spells.pointer_member (loosen 13 r h f) q))

question_row : {ns next ns2 next2 : List Name} {s u : List Lexeme} (b : Bool) (w : Wanted) (r : ℕ) (a z : ℕ) → nat_le (least w) 0 ≡ true → nat_le 1 r ≡ true → All ns next (expression b 0 ∷ symbol.Colon ∷ expression b 0 ∷ symbol.End ends.Conditional ∷ symbol.Tail b w 0 ∷ []) s u ns2 next2 → Means ns next (symbol.Tail b w r) (mark sign.Question a z ∷ s) u ns2 next2
question_row b w r a z h j (cons (plain g) (cons (plain is_mark) (cons (plain g1) (cons (plain same) (cons (plain tail) nil))))) = plain (λ l i e v f. let p = g refl in let q = g1 refl in tail l h (tree.Conditional e p.0 q.0) v (spells.conditional (loosen 1 r j f) p.1 q.1))

binary_row : {ns next ns2 next2 : List Name} {s u : List Lexeme} (b : Bool) (w : Wanted) (r : ℕ) (op : BinaryOperator) (a z : ℕ) → nat_le (least w) (level op) ≡ true → nat_le (level op) r ≡ true → All ns next (expression b (suc (level op)) ∷ symbol.End (ends.Binary op) ∷ symbol.Tail b w (level op) ∷ []) s u ns2 next2 → Means ns next (symbol.Tail b w r) (mark (binary_sign op) a z ∷ s) u ns2 next2
binary_row b w r op a z h j (cons (plain g) (cons (plain same) (cons (plain tail) nil))) = plain (λ l i e v f. let p = g (level_next op) in tail l h (tree.Binary op e p.0) v (spells.binary (loosen (level op) r j f) p.1))

pub binary_sound : (ns next : List Name) (b : Bool) (w : Wanted) (r : ℕ) (op : BinaryOperator) (a z : ℕ) → Sound ns next (symbol.Tail b w r) (mark (binary_sign op) a z) (choice.binary_choice b w r op (punct (binary_sign op)))
binary_sound ns next b w r op a z = if_sound ns next (symbol.Tail b w r) (mark (binary_sign op) a z) (nat_le (least w) (level op) && nat_le (level op) r) (take (expression b (suc (level op)) ∷ symbol.End (ends.Binary op) ∷ symbol.Tail b w (level op) ∷ [])) (choice.tail_end b w r (punct (binary_sign op))) (λ h s u ns2 next2 all. let p = and_parts (nat_le (least w) (level op)) (nat_le (level op) r) h in binary_row b w r op a z p.0 p.1 all) (λ h. tail_end_sound ns next b w r (punct (binary_sign op)) a z)

pub tail_sound : (ns next : List Name) (b : Bool) (w : Wanted) (r : ℕ) (k : Kind) (a z : ℕ) → Sound ns next (symbol.Tail b w r) (token k a z) (choice.tail b w r k)
tail_sound ns next b w r (punct sign.LeftBracket) a z = if_sound ns next (symbol.Tail b w r) (mark sign.LeftBracket a z) (nat_le 13 r) (take (expression b 0 ∷ symbol.RightBracket ∷ symbol.End ends.Index ∷ symbol.Tail b w 13 ∷ [])) (choice.tail_end b w r (punct sign.LeftBracket)) (λ h s u ns2 next2 all. index_row b w r a z h all) (λ h. tail_end_sound ns next b w r (punct sign.LeftBracket) a z)
tail_sound ns next b w r (punct sign.Dot) a z = if_sound ns next (symbol.Tail b w r) (mark sign.Dot a z) (nat_le 13 r) (take (symbol.Identifier ∷ symbol.End ends.Member ∷ symbol.Tail b w 13 ∷ [])) (choice.tail_end b w r (punct sign.Dot)) (λ h s u ns2 next2 all. member_row b w r a z h all) (λ h. tail_end_sound ns next b w r (punct sign.Dot) a z)
tail_sound ns next b w r (punct sign.Arrow) a z = if_sound ns next (symbol.Tail b w r) (mark sign.Arrow a z) (nat_le 13 r) (take (symbol.Identifier ∷ symbol.End ends.PointerMember ∷ symbol.Tail b w 13 ∷ [])) (choice.tail_end b w r (punct sign.Arrow)) (λ h s u ns2 next2 all. arrow_row b w r a z h all) (λ h. tail_end_sound ns next b w r (punct sign.Arrow) a z)
tail_sound ns next b w r (punct sign.Question) a z = if_sound ns next (symbol.Tail b w r) (mark sign.Question a z) (nat_le (least w) 0 && nat_le 1 r) (take (expression b 0 ∷ symbol.Colon ∷ expression b 0 ∷ symbol.End ends.Conditional ∷ symbol.Tail b w 0 ∷ [])) (choice.tail_end b w r (punct sign.Question)) (λ h s u ns2 next2 all. let p = and_parts (nat_le (least w) 0) (nat_le 1 r) h in question_row b w r a z p.0 p.1 all) (λ h. tail_end_sound ns next b w r (punct sign.Question) a z)
tail_sound ns next b w r (punct sign.Star) a z = binary_sound ns next b w r binary.Multiply a z
tail_sound ns next b w r (punct sign.Slash) a z = binary_sound ns next b w r binary.Divide a z
tail_sound ns next b w r (punct sign.Percent) a z = binary_sound ns next b w r binary.Remainder a z
tail_sound ns next b w r (punct sign.Plus) a z = binary_sound ns next b w r binary.Add a z
tail_sound ns next b w r (punct sign.Minus) a z = binary_sound ns next b w r binary.Subtract a z
tail_sound ns next b w r (punct sign.LessLess) a z = binary_sound ns next b w r binary.ShiftLeft a z
tail_sound ns next b w r (punct sign.GreaterGreater) a z = binary_sound ns next b w r binary.ShiftRight a z
tail_sound ns next b w r (punct sign.Ampersand) a z = binary_sound ns next b w r binary.And a z
tail_sound ns next b w r (punct sign.Caret) a z = binary_sound ns next b w r binary.ExclusiveOr a z
tail_sound ns next b w r (punct sign.Bar) a z = binary_sound ns next b w r binary.Or a z
tail_sound ns next b w r (punct sign.Less) a z = binary_sound ns next b w r binary.Less a z
tail_sound ns next b w r (punct sign.Greater) a z = binary_sound ns next b w r binary.Greater a z
tail_sound ns next b w r (punct sign.LessEqual) a z = binary_sound ns next b w r binary.LessEqual a z
tail_sound ns next b w r (punct sign.GreaterEqual) a z = binary_sound ns next b w r binary.GreaterEqual a z
tail_sound ns next b w r (punct sign.EqualEqual) a z = binary_sound ns next b w r binary.Equal a z
tail_sound ns next b w r (punct sign.ExclamationEqual) a z = binary_sound ns next b w r binary.NotEqual a z
tail_sound ns next b w r (punct sign.AmpersandAmpersand) a z = binary_sound ns next b w r binary.LogicalAnd a z
tail_sound ns next b w r (punct sign.BarBar) a z = binary_sound ns next b w r binary.LogicalOr a z
tail_sound ns next b w r k a z = tail_end_sound ns next b w r k a z

-- The arguments of a call.

no_arguments_row : {ns next ns2 next2 : List Name} {s u : List Lexeme} (b : Bool) (a z : ℕ) → All ns next (symbol.End ends.NoArguments ∷ []) s u ns2 next2 → Means ns next (symbol.Arguments b) (mark sign.RightParenthesis a z ∷ s) u ns2 next2
no_arguments_row b a z (cons (plain same) nil) = plain ([], spells.no_arguments)

some_arguments_row : {ns next ns1 next1 ns2 next2 : List Name} {s m u : List Lexeme} (b : Bool) (x : Lexeme) → Means ns next (expression b 0) (x ∷ s) m ns1 next1 → All ns1 next1 (symbol.ArgumentsMore b ∷ []) m u ns2 next2 → Means ns next (symbol.Arguments b) (x ∷ s) u ns2 next2
some_arguments_row b x (plain f) (cons (plain g) nil) = let p = f refl in let q = g p.0 _ p.1 in plain (q.0, spells.some_arguments q.1)

pub arguments_sound : (ns next : List Name) (b : Bool) (k : Kind) (a z : ℕ) → Sound ns next (symbol.Arguments b) (token k a z) (choice.arguments b (is_type ns k) k)
arguments_sound ns next b (punct sign.RightParenthesis) a z = λ s u ns2 next2 all. no_arguments_row b a z all
arguments_sound ns next b k a z = then_sound ns next (symbol.Arguments b) (expression b 0) (token k a z) (choice.operand b (wanted.Level 0) (is_type ns k) k) (symbol.ArgumentsMore b ∷ []) (operand_sound ns next b (wanted.Level 0) k a z) refl (λ s m u ns1 next1 ns2 next2 first all. some_arguments_row b (token k a z) first all)

last_argument_row : {ns next ns2 next2 : List Name} {s u : List Lexeme} (b : Bool) (a z : ℕ) → All ns next (symbol.End ends.LastArgument ∷ []) s u ns2 next2 → Means ns next (symbol.ArgumentsMore b) (mark sign.RightParenthesis a z ∷ s) u ns2 next2
last_argument_row b a z (cons (plain same) nil) = plain (λ x v d. (x ∷ [], spells.last_argument d))

more_arguments_row : {ns next ns2 next2 : List Name} {s u : List Lexeme} (b : Bool) (a z : ℕ) → All ns next (expression b 0 ∷ symbol.ArgumentsMore b ∷ symbol.End ends.MoreArguments ∷ []) s u ns2 next2 → Means ns next (symbol.ArgumentsMore b) (mark sign.Comma a z ∷ s) u ns2 next2
more_arguments_row b a z (cons (plain f) (cons (plain g) (cons (plain same) nil))) = plain (λ x v d. let p = f refl in let q = g p.0 _ p.1 in (x ∷ q.0, spells.more_arguments d q.1))

pub arguments_more_sound : (ns next : List Name) (b : Bool) (k : Kind) (a z : ℕ) → Sound ns next (symbol.ArgumentsMore b) (token k a z) (choice.arguments_more b k)
arguments_more_sound ns next b (punct sign.RightParenthesis) a z = λ s u ns2 next2 all. last_argument_row b a z all
arguments_more_sound ns next b (punct sign.Comma) a z = λ s u ns2 next2 all. more_arguments_row b a z all
arguments_more_sound ns next b k a z = tt
