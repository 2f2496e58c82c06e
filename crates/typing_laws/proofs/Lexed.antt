-- The names and characters of a text's tokens.
use Rattle.std.proofs.Common.{◌≡◌, ℕ, suc, ◌<◌, ◌≤◌, ◌==◌, Bool, true, false, cond, ◌||◌, List, [], ◌∷◌, length, Option, Some, None, refl, subst, arith}
use Rattle.std.proofs.lemmas.Bool.{false≢true}
use Rattle.std.proofs.lemmas.Bool.Decides.{nat_tests}
use Rattle.std.specs.List.{AllPass}
use Rattle.std.specs.Str.Parse.{IsNumeral, digits_value}
use Rattle.c_lex.specs.Bytes.{is_word}
use Rattle.c_lex.specs.Character.{is_plain, simple_escape}
use Rattle.c_lex.specs.Lexeme.{Kind, Lexeme, name, keyword, punct, character, number}
use Rattle.c_lex.specs.Spelling.{IsCharacter, plain, simple, octal_escape, hexadecimal_escape, Spells}
use Rattle.c_lex.specs.Spelling as spelling
use Rattle.c_lex.specs.Tokens.{Leads, here, past_gap, past_token, Tokens}
use Rattle.typing_laws.specs.Written.{are_words, IsName}
use Rattle.typing_laws.proofs.Tests.{both, right, none_some, some_same}

-- of a token as trees have it
abbrev pub IsKind : Kind → Type 0
IsKind (name s) = IsName s
IsKind (character value) = value < 256
IsKind (keyword k) = Unit {0}
IsKind (punct p) = Unit {0}
IsKind (number value decimal unsigned longs) = Unit {0}

abbrev pub AreKinds : List Lexeme → Type 0
AreKinds [] = Unit {0}
AreKinds (t ∷ ts) = IsKind t.kind × AreKinds ts

all_words : (s : List ℕ) → AllPass is_word s → are_words s ≡ true
all_words [] h = refl
all_words (c ∷ cs) h = both (h 0 0 (omega arith)) (all_words cs (λ k d lt. h (suc k) d (omega arith)))

name_is_name : (s : List ℕ) → spelling.IsName s → IsName s
name_is_name [] h = absurd (false≢true h.begins)
name_is_name (c ∷ cs) h = both h.begins (right (is_word c) (are_words cs) (all_words (c ∷ cs) h.goes_on))

plain_small : (c : ℕ) → is_plain c ≡ true → c < 256
plain_small c h = grind (arith, nat_tests)

from_cond : (b : Bool) (x : ℕ) (o : Option ℕ) (v : ℕ) → x < 256 → (o ≡ Some v → v < 256) → cond b (Some x) o ≡ Some v → v < 256
from_cond true x o v small k h = subst (λ y. y < 256) (some_same h) small
from_cond false x o v small k h = k h

itself_small : (c : ℕ) → (c == 92 || c == 39 || c == 34 || c == 63) ≡ true → c < 256
itself_small c h = grind (arith, nat_tests)

itself : (b : Bool) (c v : ℕ) → (b ≡ true → c < 256) → cond b (Some c) None ≡ Some v → v < 256
itself true c v k h = subst (λ y. y < 256) (some_same h) (k refl)
itself false c v k h = absurd (none_some h)

simple_small : (c v : ℕ) → simple_escape c ≡ Some v → v < 256
simple_small c v h =
    from_cond (c == 110) 10 _ v (omega arith) (λ e.
    from_cond (c == 116) 9 _ v (omega arith) (λ f.
    from_cond (c == 114) 13 _ v (omega arith) (λ g.
    from_cond (c == 97) 7 _ v (omega arith) (λ i.
    from_cond (c == 98) 8 _ v (omega arith) (λ j.
    from_cond (c == 102) 12 _ v (omega arith) (λ k.
    from_cond (c == 118) 11 _ v (omega arith) (λ l.
    itself (c == 92 || c == 39 || c == 34 || c == 63) c v (itself_small c) l) k) j) i) g) f) e) h

two_digits : (digits : List ℕ) → IsNumeral 16 digits → length digits ≤ 2 → digits_value 16 digits < 256
two_digits [] h few = absurd (omega (arith, h.0))
two_digits (a ∷ []) h few = let one = h.1.0 in omega arith
two_digits (a ∷ b ∷ []) h few = let one = h.1.0 in let two = h.1.1.0 in omega arith
two_digits (a ∷ b ∷ c ∷ cs) h few = absurd (omega arith)

character_small : (body : List ℕ) (v : ℕ) → IsCharacter body v → v < 256
character_small _ v (plain h) = plain_small v h
character_small _ v (simple {c} h) = simple_small c v h
character_small _ _ (octal_escape h few small) = omega (arith, small)
character_small _ _ (hexadecimal_escape {digits} h few) = two_digits digits h few

kind_of_text : (k : Kind) (bytes : List ℕ) → Spells k bytes → IsKind k
kind_of_text (name s) bytes h = name_is_name s h.1
kind_of_text (character value) bytes h = character_small h.0 value h.2
kind_of_text (number value decimal unsigned longs) bytes h = tt
kind_of_text _ _ _ = tt

leads_kinds : {text : List ℕ} {p q : _} {ts : List Lexeme} → Leads text p ts q → AreKinds ts
leads_kinds here = tt
leads_kinds (past_gap g h) = leads_kinds h
leads_kinds (past_token {kind} s h) = (kind_of_text kind _ s.spelled, leads_kinds h)

pub tokens_kinds : (text : List ℕ) (ts : List Lexeme) → Tokens text ts → AreKinds ts
tokens_kinds text ts h = leads_kinds h.leads

-- tokens of a text of which so many are left at most
pub record Left (n : ℕ) (ts : List Lexeme) : Type 0 where
  pub kinds : AreKinds ts
  pub few : length ts ≤ n

pub first_left : {n : ℕ} {x : Lexeme} {ts : List Lexeme} → Left n (x ∷ ts) → IsKind x.kind
first_left w = w.kinds.0

pub rest_left : {n : ℕ} {x : Lexeme} {ts : List Lexeme} → Left n (x ∷ ts) → Left n ts
rest_left w = record { kinds = w.kinds.1; few = omega (arith, w.few) }
