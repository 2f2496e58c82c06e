-- Steps: which expression is another one, made simpler by one row of a table; and which two expressions differ in one place,
-- where a step holds either way with the facts that are known there.
use Rattle.std.specs.Prelude.{◌≡◌, ℕ, ◌^◌, nat_le, Bool, true, false, ◌||◌, List, [], ◌∷◌, Option, Some, None, ◌⊎◌, pos, unsigned_abs}
use Rattle.c_values.specs.Word.{Word}
use Rattle.c_values.specs.Number.{Add, least, greatest}
use Rattle.c_values.specs.Value.{Value, Bits, Number, Truth, Parts, nothing}
use Rattle.c_values.specs.Layout.{Layout}
use Rattle.c_memory.specs.Heap.{OnTypes}
use Rattle.expression_lang.specs.Expression.{Exp, Var, WordLit, NumberLit, TruthLit, ToNat, ToInt, ToWord, Arith, Between, Eq, And, Or, Imp, Not, If, Load, Read, Tagged, Global, Sel, Upd}
use Rattle.expression_lang.specs.Form.{has}
use Rattle.expression_lang.specs.Evaluation.{State, value}
use Rattle.expression_lang.specs.Signature.{no_env}
use Rattle.expression_lang.specs.States.{state_with}
use Rattle.expression_lang.specs.Sort.{Scope, sort_of, word_width}
use Rattle.ac_expr.specs.Fact.{Fact, Whole, NotTrue}
use Rattle.ac_expr.specs.Heads.{head, children}
use Rattle.ac_expr.specs.Known.{IsKnown}

-- Constants alone

-- its value hangs on the environment or the state, or it is of assertions alone
abbrev pub is_open : Exp → Bool
is_open (Var x) = true
is_open (Load t p path) = true
is_open (Read t p path) = true
is_open (Tagged t p) = true
is_open (Global x path) = true
is_open (Sel e path) = true
is_open (Upd e path v) = true
is_open e = false

-- where nothing is known
abbrev pub no_state : State
no_state = state_with (OnTypes []) (λ x. nothing)

abbrev pub constant_value : Layout → Exp → Value
constant_value l e = value l no_env no_state e

-- a number of more than 128 bits
abbrev pub is_wide : Value → Bool
is_wide (Number n) = nat_le (2 ^ 128) (unsigned_abs n)
is_wide v = false

-- each subexpression is of constants alone, and its value isn't wide
abbrev pub AreConstants : Layout → Exp → Type 0
AreConstants l e = has (λ x. is_open x || is_wide (constant_value l x)) e ≡ false

abbrev pub constant : Value → Option Exp
constant (Bits w) = Some (WordLit w)
constant (Number n) = Some (NumberLit n)
constant (Truth b) = Some (TruthLit b)
constant (Parts vs) = None

-- constants alone, and their value
abbrev pub IsItsValue : Layout → Exp → Exp → Type 0
IsItsValue l a b = AreConstants l a × (constant (constant_value l a) ≡ Some b)

-- Steps

-- 1, 0 and 0 of one width
pub record IsFlag (u v w : Word) : Type 0 where
  pub one : u ≡ record { width = w.width; bits = 1 }
  pub zero : v ≡ w
  pub bits : w.bits ≡ 0

-- the number is known to be one that a word of the width is, by its unsigned or its signed value
abbrev pub IsInWord : List Fact → Bool → ℕ → Exp → Type 0
IsInWord fs sign n a = IsKnown fs (Between (least sign n) a (greatest sign n))

-- what a head gives where one of its parts decides it, or where it undoes another one
abbrev pub Shortens : Scope → List Fact → Exp → Exp → Type 0
Shortens g fs (Not (Not a)) e = e ≡ a
Shortens g fs (And a b) e =
    ((a ≡ TruthLit true) × (e ≡ b)) ⊎ ((b ≡ TruthLit true) × (e ≡ a)) ⊎ ((a ≡ TruthLit false) × (e ≡ TruthLit false))
Shortens g fs (Or a b) e = ((a ≡ TruthLit false) × (e ≡ b)) ⊎ ((a ≡ TruthLit true) × (e ≡ TruthLit true))
Shortens g fs (Imp a b) e = ((a ≡ TruthLit true) × (e ≡ b)) ⊎ ((a ≡ TruthLit false) × (e ≡ TruthLit true))
Shortens g fs (If c a b) e =
    ((c ≡ TruthLit true) × (e ≡ a)) ⊎ ((c ≡ TruthLit false) × (e ≡ b)) ⊎ ((b ≡ a) × (e ≡ a))
Shortens g fs (Eq a b) e = (b ≡ a) × (e ≡ TruthLit true)
Shortens g fs (Arith Add a b) e = (b ≡ NumberLit (pos 0)) × (e ≡ a)
Shortens g fs (Not (Eq (If c (WordLit u) (WordLit v)) (WordLit w))) e = IsFlag u v w × (e ≡ c)
Shortens g fs (ToWord n (ToNat a)) e = (word_width (sort_of g a) ≡ Some n) × (e ≡ a)
Shortens g fs (ToWord n (ToInt a)) e = (word_width (sort_of g a) ≡ Some n) × (e ≡ a)
Shortens g fs (ToNat (ToWord n a)) e = IsInWord fs false n a × (e ≡ a)
Shortens g fs (ToInt (ToWord n a)) e = IsInWord fs true n a × (e ≡ a)
Shortens g fs _ _ = ⊥

abbrev pub IsStep : Scope → List Fact → Exp → Exp → Type 0
IsStep g fs a b = Shortens g fs a b ⊎ IsItsValue g.layout a b

-- Places

-- the facts that are known at each of these
abbrev pub at_each : List Fact → List Exp → List (List Fact)
at_each fs [] = []
at_each fs (e ∷ es) = fs ∷ at_each fs es

-- the facts that are known at each child
abbrev pub child_facts : List Fact → Exp → List (List Fact)
child_facts fs (And a b) = fs ∷ (Whole a ∷ fs) ∷ []
child_facts fs (Or a b) = fs ∷ (NotTrue a ∷ fs) ∷ []
child_facts fs (Imp a b) = fs ∷ (Whole a ∷ fs) ∷ []
child_facts fs (If c a b) = fs ∷ (Whole c ∷ fs) ∷ (NotTrue c ∷ fs) ∷ []
child_facts fs e = at_each fs (children e)

mutual
  -- a step either way, here or in one child
  pub data OneStepApart (g : Scope) : List Fact → Exp → Exp → Type 0 where
    shorter : {fs : List Fact} {a b : Exp} → IsStep g fs a b → OneStepApart g fs a b
    longer : {fs : List Fact} {a b : Exp} → IsStep g fs b a → OneStepApart g fs a b
    inside : {fs : List Fact} {a b : Exp} → head b ≡ head a →
        OneOfThem g (child_facts fs a) (children a) (children b) → OneStepApart g fs a b

  -- one of the expressions, and all others are the same
  pub data OneOfThem (g : Scope) : List (List Fact) → List Exp → List Exp → Type 0 where
    this : {fs : List Fact} {fss : List (List Fact)} {a b : Exp} {es : List Exp} →
        OneStepApart g fs a b → OneOfThem g (fs ∷ fss) (a ∷ es) (b ∷ es)
    later : {fs : List Fact} {fss : List (List Fact)} {e : Exp} {as' bs : List Exp} →
        OneOfThem g fss as' bs → OneOfThem g (fs ∷ fss) (e ∷ as') (e ∷ bs)
