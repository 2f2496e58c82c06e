-- What bytes spell, from how each keyword, each refused word and each punctuator is written.
use Rattle.std.proofs.Common.{◌≡◌, ◌≢◌, ℕ, Bool, true, false, cond, List, [], ◌∷◌, Option, Some, None, IfSome, IfNone, find, take, refl, sym, ap, ◌∙◌}
use Rattle.std.specs.Option.{option_or}
use Rattle.std.specs.Str.{bytes_eq}
use Rattle.std.proofs.lemmas.Slice.Eq.{bytes_eq-Decides}
use Rattle.c_lex.specs.declared.token.Keyword.{Keyword}
use Rattle.c_lex.specs.declared.token.Keyword.TheVariants as keywords
use Rattle.c_lex.specs.declared.fault.Unsupported.{Unsupported}
use Rattle.c_lex.specs.declared.fault.Unsupported.TheVariants as unsupporteds
use Rattle.c_lex.specs.declared.token.Punct.{Punct}
use Rattle.c_lex.specs.declared.token.Punct.TheVariants as puncts
use Rattle.c_lex.specs.Keyword.{keyword_text, keywords, keyword_of}
use Rattle.c_lex.specs.Unsupported.{unsupported_text, all_unsupported, unsupported_of}
use Rattle.c_lex.specs.Punct.{punct_text, puncts, punct_of, punct_at}

cond_not : {A : Type 0} (b : Bool) (x y : A) → (b ≡ true → ⊥) → cond b x y ≡ y
cond_not true x y h = absurd (h refl)
cond_not false x y h = refl

-- nothing is found where no text is these bytes
find_none : {X : Type 0} (text_of : X → List ℕ) (bytes : List ℕ) (xs : List X) → ((x : X) → bytes ≢ text_of x) → find (λ x. bytes_eq (text_of x) bytes) xs ≡ None
find_none text_of bytes [] h = refl
find_none text_of bytes (x ∷ xs) h = cond_not _ _ _ (λ e. h x (sym ((bytes_eq-Decides _ _).0 e))) ∙ find_none text_of bytes xs h

pub keyword_of-text : (x : Keyword) → keyword_of (keyword_text x) ≡ Some x
unfolding keyword_of
keyword_of-text keywords.Break = refl
keyword_of-text keywords.Case = refl
keyword_of-text keywords.Char = refl
keyword_of-text keywords.Const = refl
keyword_of-text keywords.Continue = refl
keyword_of-text keywords.Default = refl
keyword_of-text keywords.Do = refl
keyword_of-text keywords.Else = refl
keyword_of-text keywords.Enum = refl
keyword_of-text keywords.Extern = refl
keyword_of-text keywords.For = refl
keyword_of-text keywords.If = refl
keyword_of-text keywords.Inline = refl
keyword_of-text keywords.Int = refl
keyword_of-text keywords.Long = refl
keyword_of-text keywords.Return = refl
keyword_of-text keywords.Short = refl
keyword_of-text keywords.Signed = refl
keyword_of-text keywords.Sizeof = refl
keyword_of-text keywords.Static = refl
keyword_of-text keywords.Struct = refl
keyword_of-text keywords.Switch = refl
keyword_of-text keywords.Typedef = refl
keyword_of-text keywords.Unsigned = refl
keyword_of-text keywords.Void = refl
keyword_of-text keywords.While = refl

pub keyword_of_is : (bytes : List ℕ) (o : Option Keyword) → IfSome o (λ x. bytes ≡ keyword_text x) → IfNone o ((x : Keyword) → bytes ≢ keyword_text x) → keyword_of bytes ≡ o
unfolding keyword_of
keyword_of_is bytes (Some x) h n = ap keyword_of h ∙ keyword_of-text x
keyword_of_is bytes None h n = find_none keyword_text bytes keywords n

pub unsupported_of-text : (x : Unsupported) → unsupported_of (unsupported_text x) ≡ Some x
unfolding unsupported_of
unsupported_of-text unsupporteds.Asm = refl
unsupported_of-text unsupporteds.Auto = refl
unsupported_of-text unsupporteds.Double = refl
unsupported_of-text unsupporteds.Float = refl
unsupported_of-text unsupporteds.Goto = refl
unsupported_of-text unsupporteds.Register = refl
unsupported_of-text unsupporteds.Restrict = refl
unsupported_of-text unsupporteds.Union = refl
unsupported_of-text unsupporteds.Volatile = refl
unsupported_of-text unsupporteds.Bool = refl
unsupported_of-text unsupporteds.Complex = refl
unsupported_of-text unsupporteds.Imaginary = refl
unsupported_of-text unsupporteds.GnuAsm = refl
unsupported_of-text unsupporteds.Attribute = refl
unsupported_of-text unsupporteds.Extension = refl
unsupported_of-text unsupporteds.StringQuote = refl
unsupported_of-text unsupporteds.Ellipsis = refl
unsupported_of-text unsupporteds.Hash = refl

pub unsupported_of_is : (bytes : List ℕ) (o : Option Unsupported) → IfSome o (λ x. bytes ≡ unsupported_text x) → IfNone o ((x : Unsupported) → bytes ≢ unsupported_text x) → unsupported_of bytes ≡ o
unfolding unsupported_of
unsupported_of_is bytes (Some x) h n = ap unsupported_of h ∙ unsupported_of-text x
unsupported_of_is bytes None h n = find_none unsupported_text bytes all_unsupported n

pub punct_of-text : (x : Punct) → punct_of (punct_text x) ≡ Some x
unfolding punct_of
punct_of-text puncts.LeftBrace = refl
punct_of-text puncts.RightBrace = refl
punct_of-text puncts.LeftParenthesis = refl
punct_of-text puncts.RightParenthesis = refl
punct_of-text puncts.LeftBracket = refl
punct_of-text puncts.RightBracket = refl
punct_of-text puncts.Semicolon = refl
punct_of-text puncts.Comma = refl
punct_of-text puncts.Colon = refl
punct_of-text puncts.Question = refl
punct_of-text puncts.Dot = refl
punct_of-text puncts.Arrow = refl
punct_of-text puncts.PlusPlus = refl
punct_of-text puncts.MinusMinus = refl
punct_of-text puncts.Ampersand = refl
punct_of-text puncts.Star = refl
punct_of-text puncts.Plus = refl
punct_of-text puncts.Minus = refl
punct_of-text puncts.Tilde = refl
punct_of-text puncts.Exclamation = refl
punct_of-text puncts.Slash = refl
punct_of-text puncts.Percent = refl
punct_of-text puncts.LessLess = refl
punct_of-text puncts.GreaterGreater = refl
punct_of-text puncts.Less = refl
punct_of-text puncts.Greater = refl
punct_of-text puncts.LessEqual = refl
punct_of-text puncts.GreaterEqual = refl
punct_of-text puncts.EqualEqual = refl
punct_of-text puncts.ExclamationEqual = refl
punct_of-text puncts.Caret = refl
punct_of-text puncts.Bar = refl
punct_of-text puncts.AmpersandAmpersand = refl
punct_of-text puncts.BarBar = refl
punct_of-text puncts.Equal = refl
punct_of-text puncts.StarEqual = refl
punct_of-text puncts.SlashEqual = refl
punct_of-text puncts.PercentEqual = refl
punct_of-text puncts.PlusEqual = refl
punct_of-text puncts.MinusEqual = refl
punct_of-text puncts.LessLessEqual = refl
punct_of-text puncts.GreaterGreaterEqual = refl
punct_of-text puncts.AmpersandEqual = refl
punct_of-text puncts.CaretEqual = refl
punct_of-text puncts.BarEqual = refl

pub punct_of_is : (bytes : List ℕ) (o : Option Punct) → IfSome o (λ x. bytes ≡ punct_text x) → IfNone o ((x : Punct) → bytes ≢ punct_text x) → punct_of bytes ≡ o
unfolding punct_of
punct_of_is bytes (Some x) h n = ap punct_of h ∙ punct_of-text x
punct_of_is bytes None h n = find_none punct_text bytes puncts n

-- the longest that fits, as it is sought
pub three_fit : (text : List ℕ) (p : Punct) → punct_of (take 3 text) ≡ Some p → punct_at text ≡ Some p
unfolding punct_at
three_fit text p h = ap (λ o. option_or o (option_or (punct_of (take 2 text)) (punct_of (take 1 text)))) h

pub two_fit : (text : List ℕ) (p : Punct) → punct_of (take 3 text) ≡ None → punct_of (take 2 text) ≡ Some p → punct_at text ≡ Some p
unfolding punct_at
two_fit text p g h = ap (λ o. option_or o (option_or (punct_of (take 2 text)) (punct_of (take 1 text)))) g ∙ ap (λ o. option_or o (punct_of (take 1 text))) h

pub one_fits : (text : List ℕ) → punct_of (take 3 text) ≡ None → punct_of (take 2 text) ≡ None → punct_at text ≡ punct_of (take 1 text)
unfolding punct_at
one_fits text g h = ap (λ o. option_or o (option_or (punct_of (take 2 text)) (punct_of (take 1 text)))) g ∙ ap (λ o. option_or o (punct_of (take 1 text))) h
