-- Programs, and what they are polished to.
use Rattle.std.proofs.Common.{◌≡◌, ℕ, ◌^◌, ◌-◌, Some, None, true, false, [], ◌∷◌, codes, pos, refl}
use Rattle.c_values.specs.Name.{Name}
use Rattle.c_values.specs.Number.{Add}
use Rattle.c_values.specs.Types.{CType, Integer, UInt, Ilp32}
use Rattle.expression_lang.specs.Expression.{Exp, Var, WordLit, NumberLit, TruthLit, ToNat, ToWord, Cast, Sext, Arith, Between, Lt, Eq, And, Not, If, Read, Tagged, Here}
use Rattle.expression_lang.specs.Sort.{WordSort, NatKind, sort_of_kind}
use Rattle.monad_lang.specs.Program as M
use Rattle.monad_lang.specs.Program.{Mon}
use Rattle.monad_lang.specs.Sorted.{Setting}
use Rattle.rule_eq.specs.Rule as R
use Rattle.rule_eq.specs.Table.{point}
use Rattle.polish.specs.Polished.{leaf, bind_tree, unchanged, polished}
use Rattle.polish.specs.Translation.{translation}

abbrev a : Name
a = codes "a"

abbrev b : Name
b = codes "b"

abbrev result : Name
result = codes "$ret"

abbrev thrown : Name
thrown = codes "$thrown"

abbrev gives : Exp → Mon
gives e = M.Ret (e ∷ [])

-- do $ret, $thrown <- (do $ret <- m; do <- ret; ret $ret #t); if $thrown then ret $ret else (do <- guard #f; ret $ret): a body
-- that returns, with what is left of its exceptions
abbrev returning : Mon → Mon
returning m =
    M.Bind (M.Bind (M.Bind m (result ∷ []) (M.Bind (M.Ret []) [] (M.Ret (Var result ∷ TruthLit true ∷ []))))
    (result ∷ thrown ∷ [])
    (M.If (Var thrown) (gives (Var result)) (M.Bind (M.Guard (TruthLit false)) [] (gives (Var result))))) (result ∷ [])
    (gives (Var result))

-- return a + b, in range
abbrev sum : Exp
sum = Arith Add (Var a) (Var b)

abbrev in_range : Exp → Mon → Mon
in_range e m = M.Bind (M.Guard (Between (pos 0) e (pos 4294967295))) [] m

-- the same as a function of a, with the constant as C has it: of 32 bits, widened
abbrev one : Exp
one = ToNat (Cast Sext 64 (WordLit (record { width = 32; bits = 1 })))

abbrev next : Exp → Exp
next e = Arith Add (Var a) e

-- return 7
constant_body : (t : Setting) → (polished (point [] t) (returning (gives (NumberLit (pos 7))))).program ≡ gives
    (NumberLit (pos 7))
constant_body t = refl

-- the guard stays before the sum: guard (0 <= a + b <= 4294967295); ret (a + b)
sum_body : (t : Setting) → (polished (point [] t) (returning (in_range sum (gives sum)))).program ≡ in_range sum (gives sum)
sum_body t = refl

-- constants alone are folded, in guards too: guard (0 <= a + 1 <= 4294967295); ret (a + 1)
folded_body : (t : Setting) →
    (polished (point [] t) (returning (in_range (next one) (gives (next one))))).program ≡ in_range (next (NumberLit (pos 1)))
    (gives (next (NumberLit (pos 1))))
folded_body t = refl

-- a name that a binder would capture stays: do a <- ret b; b <- (do <- guard ..; ret 1 + a); ret a + b
captured_stays : (t : Setting) →
    (polished (point [] t) (M.Bind (gives (Var b)) (a ∷ [])
    (M.Bind (in_range sum (gives (next (NumberLit (pos 1))))) (b ∷ []) (gives sum)))).program
    ≡ M.Bind (gives (Var b)) (a ∷ []) (in_range sum (M.Bind (gives (next (NumberLit (pos 1)))) (b ∷ []) (gives sum)))
captured_stays t = refl

-- a guard that is #t goes, and so does a branch that isn't taken
true_guard : (t : Setting) →
    (polished (point [] t) (M.Bind (M.Guard (Between (pos 0) one (pos 9))) [] (gives (Var a)))).program ≡ gives (Var a)
true_guard t = refl

-- Trees.

-- do a <- ret b; ret a + b: one rule, with no program between
put_tree : (t : Setting) → (polished (point [] t) (M.Bind (gives (Var b)) (a ∷ []) (gives sum))).tree ≡ leaf (R.RetOne 0)
put_tree t = refl

-- do <- (do <- guard ..; ret); m: the rule in the first part alone
inner_tree : (t : Setting) →
    (polished (point [] t) (M.Bind (M.Bind (M.Ret []) [] (M.Guard (Var thrown))) [] (gives sum))).tree ≡ bind_tree
    (leaf R.BindRet)
    (leaf R.Refl)
inner_tree t = refl

-- what is tidy stays, by the rule refl
tidy_stays : (t : Setting) → translation (point [] t) (in_range sum (gives sum)) ≡ unchanged (in_range sum (gives sum))
tidy_stays t = refl

-- What is known goes.

abbrev p : Name
p = codes "p"

abbrev unsigned_int : CType
unsigned_int = Integer UInt

abbrev stands : Exp
stands = Tagged unsigned_int (Var p)

abbrev increased : Exp
increased = Arith Add (ToNat (Read unsigned_int (Var p) Here)) (NumberLit (pos 1))

abbrev written : Mon
written = M.Write (M.Written unsigned_int (Var p) Here) (ToWord 32 increased)

-- *p += 1 asks for its place twice, to read and to write: guard *p; guard (0 <= *p + 1 <= 4294967295); guard *p; *p := *p + 1
increment : (t : Setting) →
    (polished (point [] t) (M.Bind (M.Bind (M.Guard stands) [] (in_range increased (M.Guard stands))) [] written)).program
    ≡ M.Bind (M.Guard stands) [] (in_range increased written)
increment t = refl

-- a sum that was made a word and a number again, behind its guard: guard (0 <= a + b <= 4294967295); ret (a + b)
there_and_back : (t : Setting) →
    (polished (point [] t) (in_range sum (gives (ToNat (ToWord 32 sum))))).program ≡ in_range sum (gives sum)
there_and_back t = refl

-- with no guard before it the conversion stays
stays_modulo : (t : Setting) → (polished (point [] t) (gives (ToNat (ToWord 32 sum)))).program ≡ gives (ToNat (ToWord 32 sum))
stays_modulo t = refl

-- after a write what was read is no longer known: the second guard on what is read stays
abbrev read_guard : Exp
read_guard = Between (pos 0) increased (pos 9)

after_write : (t : Setting) →
    (polished (point [] t)
    (M.Bind (M.Guard read_guard) [] (M.Bind written [] (M.Bind (M.Guard read_guard) [] written)))).program
    ≡ M.Bind (M.Guard read_guard) [] (M.Bind written [] (M.Bind (M.Guard read_guard) [] written))
after_write t = refl

-- Cascades.

abbrev x : Name
x = codes "x"

abbrev y : Name
y = codes "y"

abbrev bound_to : Name → Exp → Mon → Mon
bound_to z e m = M.Bind (gives e) (z ∷ []) m

abbrev number : ℕ → Exp
number n = NumberLit (pos n)

-- constants go through a program in one pass: x = 1; y = x + 2; if (y == 3) return x + y; return 0
constants_go : (t : Setting) →
    (polished (point [] t)
    (bound_to x (number 1)
    (bound_to y (Arith Add (Var x) (number 2))
    (M.If (Eq (Var y) (number 3)) (gives (Arith Add (Var x) (Var y))) (gives (number 0)))))).program
    ≡ gives (number 4)
constants_go t = refl

-- t = a; a = 1; return t + a: the a that is returned isn't the one that t stood for, until that one has gone
freed_goes : (t : Setting) →
    (polished (point [] t)
    (bound_to x (Var a) (bound_to a (number 1) (gives (Arith Add (Var x) (Var a)))))).program
    ≡ gives (Arith Add (Var a) (number 1))
freed_goes t = refl

-- Steps of expressions.

abbrev flag : Exp → Exp
flag c = If c (WordLit (record { width = 32; bits = 1 })) (WordLit (record { width = 32; bits = 0 }))

abbrev is_set : Exp → Exp
is_set e = Not (Eq e (WordLit (record { width = 32; bits = 0 })))

-- if ((a < b) != 0 && 1): the test is a < b
truth_word : (t : Setting) →
    (polished (point [] t)
    (M.If (And (is_set (flag (Lt (Var a) (Var b)))) (TruthLit true)) (gives (Var a)) (gives (Var b)))).program
    ≡ M.If (Lt (Var a) (Var b)) (gives (Var a)) (gives (Var b))
truth_word t = refl

-- what is the same either way, and a sum with 0
either_way : (t : Setting) →
    (polished (point [] t) (gives (If (Var x) (Arith Add (Var a) (number 0)) (Var a)))).program ≡ gives (Var a)
either_way t = refl

-- a number of 128 bits stays in its sum
abbrev large : Exp
large = NumberLit (pos (2 ^ 128 - 1))

wide_stays : (t : Setting) →
    (polished (point [] t) (gives (Arith Add large (number 1)))).program ≡ gives (Arith Add large (number 1))
wide_stays t = refl

-- a word of the width that is asked for
abbrev words : Setting
words = record {
  scope = record { layout = record { target = Ilp32; structs = [] }; names = λ z. Some (WordSort 32); globals = λ z. None };
  functions = [];
  sort_for = sort_of_kind;
}

word_back : (polished (point [] words) (gives (ToWord 32 (ToNat (Var a))))).program ≡ gives (Var a)
word_back = refl

narrower_stays : (polished (point [] words) (gives (ToWord 8 (ToNat (Var a))))).program ≡ gives (ToWord 8 (ToNat (Var a)))
narrower_stays = refl

-- What is known.

-- a test is a fact in its branch, and its negation in the other: if x then (guard x; ret a) else (guard (not x); ret b)
known_in_branches : (t : Setting) →
    (polished (point [] t)
    (M.If (Var x) (M.Bind (M.Guard (Var x)) [] (gives (Var a))) (M.Bind (M.Guard (Not (Var x))) [] (gives (Var b))))).program
    ≡ M.If (Var x) (gives (Var a)) (gives (Var b))
known_in_branches t = refl

-- a name that is bound again takes its facts away: guard (0 <= a + b ..); a <- pick; guard (0 <= a + b ..); ret (a + b)
bound_again : (t : Setting) →
    (polished (point [] t)
    (in_range sum (M.Bind (M.Pick (NatKind 32)) (a ∷ []) (in_range sum (gives sum))))).program
    ≡ in_range sum (M.Bind (M.Pick (NatKind 32)) (a ∷ []) (in_range sum (gives sum)))
bound_again t = refl

-- in a loop's body its guard and its test are known
looping : (t : Setting) →
    (polished (point [] t)
    (M.Loop (record { name = a; exp = number 0 } ∷ []) (Between (pos 0) sum (pos 4294967295)) (Lt (Var a) (number 9))
    (in_range sum (gives sum)))).program
    ≡ M.Loop (record { name = a; exp = number 0 } ∷ []) (Between (pos 0) sum (pos 4294967295)) (Lt (Var a) (number 9))
    (gives sum)
looping t = refl
