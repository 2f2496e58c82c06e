-- Types that have texts: those of expressions whose types have, and those that are made of such.
use Rattle.std.proofs.Common.{◌≡◌, ℕ, zero, suc, ◌^◌, ◌≤◌, ◌==◌, ◌||◌, Bool, true, false, cond, ◌&&◌, List, [], ◌∷◌, ◌++◌, Option, Some, None, refl, pos, negsuc, ℤ, arith}
use Rattle.std.specs.Prelude.{nat_lt, nat_le}
use Rattle.std.specs.List.{list_all}
use Rattle.std.specs.Char.{is_ascii_digit}
use Rattle.std.proofs.lemmas.Bool.{false≢true, and_from, lt-ltb, leb-true, or_left}
use Rattle.c_lex.specs.Bytes.{is_letter, is_word}
use Rattle.c_values.specs.Name.{Name}
use Rattle.c_values.specs.Types.{CType}
use Rattle.expression_text.specs.Names.{is_name, goes_on_name}
use Rattle.expression_text.specs.TypeText.{is_type}
use Rattle.unit_names.specs.HasNames.{has_types, place_has_types, path_has_types}
use Rattle.c_lang.specs.Typed as C
use Rattle.typing_rules.specs.Declarations as D
use Rattle.typing_laws.specs.Written as W
use Rattle.typing_laws.proofs.Tests.{both, left, right}

-- a name of C is a name of the text

or_between : (l d s : Bool) → (l || d) ≡ true → (l || s || d) ≡ true
or_between false d false h = h
or_between _ _ _ _ = refl

words_go_on : (cs : List ℕ) → W.are_words cs ≡ true → list_all goes_on_name cs ≡ true
words_go_on [] h = refl
words_go_on (c ∷ cs) h =
    both (or_between (is_letter c) (is_ascii_digit c) (c == 36) (left (is_word c) (W.are_words cs) h)) (words_go_on cs (right (is_word c) (W.are_words cs) h))

pub c_name : (x : Name) → W.IsName x → is_name x ≡ true
c_name [] h = absurd (false≢true h)
c_name (c ∷ cs) h = both (or_left (is_letter c) (c == 36) (left (is_letter c) (W.are_words cs) h)) (words_go_on cs (right (is_letter c) (W.are_words cs) h))

-- what has texts

abbrev pub IsType : CType → Type 0
IsType t = is_type t ≡ true

abbrev pub IsExp : C.Expr → Type 0
IsExp e = has_types e ≡ true

abbrev pub IsPlace : C.Place → Type 0
IsPlace p = place_has_types p ≡ true

abbrev pub IsPath : C.Path → Type 0
IsPath path = path_has_types path ≡ true

abbrev pub AreTypes : List CType → Type 0
AreTypes [] = Unit {0}
AreTypes (t ∷ ts) = IsType t × AreTypes ts

abbrev pub AreExps : List C.Expr → Type 0
AreExps [] = Unit {0}
AreExps (e ∷ es) = IsExp e × AreExps es

abbrev pub WhereType : Option CType → Type 0
WhereType None = Unit {0}
WhereType (Some t) = IsType t

pub place_type_is : (p : C.Place) → IsPlace p → IsType (C.place_type p)
place_type_is (C.Through r p path t) h = right (is_type r && has_types p && path_has_types path) (is_type t) h
place_type_is (C.InGlobal x path t) h = right (path_has_types path) (is_type t) h

pub type_is : (e : C.Expr) → IsExp e → IsType (C.type_of e)
type_is (C.Local x t) h = h
type_is (C.Value p) h = place_type_is p h
type_is (C.Convert t a) h = left (is_type t) (has_types a) h
type_is (C.ConvertNull t a) h = left (is_type t) (has_types a) h
type_is (C.Choose t c a b) h = left (is_type t) (has_types c) (left (is_type t && has_types c) (has_types a) (left (is_type t && has_types c && has_types a) (has_types b) h))
type_is (C.Move s t p a) h = left (is_type t) (has_types p) (left (is_type t && has_types p) (has_types a) h)
type_is (C.MoveBy t a p) h = left (is_type t) (has_types a) (left (is_type t && has_types a) (has_types p) h)
type_is (C.Address p t) h = left (is_type t) (place_has_types p) h
type_is (C.Decay p t) h = left (is_type t) (place_has_types p) h
type_is _ _ = refl

-- types made of others

pub pointers_are : (n : ℕ) (t : CType) → IsType t → IsType (D.pointers n t)
pointers_are zero t h = h
pointers_are (suc n) t h = pointers_are n t h

abbrev pub IsLength : ℕ → Type 0
IsLength n = nat_lt n (2 ^ 32) ≡ true

abbrev pub AreLengths : List ℕ → Type 0
AreLengths [] = Unit {0}
AreLengths (n ∷ ns) = IsLength n × AreLengths ns

pub length_is : (n : ℤ) → IsLength (D.length_at n)
length_is (negsuc n) = refl
length_is (pos n) = by_test (nat_le n 4096) (λ b. b)
  where
    small : (n ≤ 4096) → IsLength n
    small h = lt-ltb n (2 ^ 32) (omega arith)

    by_test : (b : Bool) → (b ≡ true → nat_le n 4096 ≡ true) → IsLength (cond b n 0)
    by_test true k = small (leb-true n 4096 (k refl))
    by_test false k = refl

pub more_lengths : (ns : List ℕ) (n : ℕ) → AreLengths ns → IsLength n → AreLengths (ns ++ (n ∷ []))
more_lengths [] n h k = (k, tt)
more_lengths (m ∷ ns) n h k = (h.0, more_lengths ns n h.1 k)

pub arrays_are : (ns : List ℕ) (t : CType) → AreLengths ns → IsType t → IsType (D.arrays ns t)
arrays_are [] t h k = k
arrays_are (n ∷ ns) t h k = and_from _ _ (arrays_are ns t h.1 k) h.0
