-- The rules of statements over typed parts.
use Rattle.std.proofs.Common.{◌≡◌, true, not, ◌&&◌, ◌||◌, List, [], ◌∷◌, ◌++◌, Option, Some, None, refl, sym, subst}
use Rattle.std.proofs.lemmas.Bool.{or_right}
use Rattle.c_values.specs.Types.{CType}
use Rattle.c_values.specs.Layout.{Layout, is_scalar}
use Rattle.typing_rules.specs.Checked.{Ruling, Ruled, Refused}
use Rattle.typing_rules.specs.Calls.{Right, returned}
use Rattle.typing_rules.specs.Statements.{Around, inside_loop, inside_switch, tested, loop_tested, breaks, continues, returns, listed}
use Rattle.c_lang.specs.Typed as C
use Rattle.c_lang.specs.WellTyped.{has_scalar_type, is_typed, is_typed_test, is_statement, are_statements, gives_nothing, in_a_loop, in_a_switch}
use Rattle.c_lang.specs.WellTyped as W
use Rattle.typing_laws.proofs.Tests as tests
use Rattle.typing_laws.proofs.Tests.{not_false}
use Rattle.typing_laws.proofs.Rulings.{Rules, ruled, refused, refused_or, rules_value}
use Rattle.typing_laws.proofs.Operators.{IsTyped}
use Rattle.typing_laws.proofs.Calls.{IsPlain, IsRight, returned_typed}
use Rattle.typing_laws.proofs.Locals.{ArePlain}

-- what a statement stands in, as the checker sees it and as typed trees do
pub record Matches (c : Around) (r : W.Around) : Type 0 where
  pub in_loop : c.in_loop ≡ true → r.in_loop ≡ true
  pub in_either : (c.in_loop || c.in_switch) ≡ true → (r.in_loop || r.in_switch) ≡ true

pub in_loop : (c : Around) → Matches (inside_loop c) in_a_loop
in_loop c = record { in_loop = λ h. refl; in_either = λ h. refl }

pub in_switch : (c : Around) (r : W.Around) → Matches c r → Matches (inside_switch c) (in_a_switch r)
in_switch c r h = record { in_loop = h.in_loop; in_either = λ k. or_right r.in_loop true refl }

-- a statement of a function with the result
abbrev pub IsSt : Around → W.Scope → C.Statement → Type 0
IsSt c g s = g.result ≡ c.result → (r : W.Around) → Matches c r → is_statement g r s ≡ true

abbrev pub AreSt : Around → W.Scope → List C.Statement → Type 0
AreSt c g [] = Unit {0}
AreSt c g (s ∷ ss) = IsSt c g s × AreSt c g ss

pub plain_st : (c : Around) (g : W.Scope) (ss : List C.Statement) → ArePlain g ss → AreSt c g ss
plain_st c g [] h = tt
plain_st c g (s ∷ ss) h = ((λ e r m. h.0 r), plain_st c g ss h.1)

pub st_append : (c : Around) (g : W.Scope) (ss ts : List C.Statement) → AreSt c g ss → AreSt c g ts → AreSt c g (ss ++ ts)
st_append c g [] ts h k = k
st_append c g (s ∷ ss) ts h k = (h.0, st_append c g ss ts h.1 k)

pub listed_st : (c : Around) (g : W.Scope) (ss : List C.Statement) → AreSt c g ss → g.result ≡ c.result → (r : W.Around) → Matches c r → are_statements g r (listed ss) ≡ true
listed_st c g [] h e r m = refl
listed_st c g (s ∷ ss) h e r m = tests.both (h.0 e r m) (listed_st c g ss h.1 e r m)

pub listed_plain : (g : W.Scope) (ss : List C.Statement) → ArePlain g ss → (r : W.Around) → are_statements g r (listed ss) ≡ true
listed_plain g [] h r = refl
listed_plain g (s ∷ ss) h r = tests.both (h.0 r) (listed_plain g ss h.1 r)

pub tested_st : (c : Around) (g : W.Scope) (a : C.Expr) (s : C.Statement) → ((has_scalar_type a && is_typed g a) ≡ true → IsSt c g s) → IsTyped g a → Rules (IsSt c g) (tested a s)
tested_st c g a s k h = refused_or (not (is_scalar (C.type_of a))) _ _ (λ e. ruled (k (tests.both (not_false (is_scalar (C.type_of a)) e) h)))

abbrev pub IsTest : W.Scope → C.Test → Type 0
IsTest g C.Always = Unit {0}
IsTest g (C.Tested e) = IsTyped g e

pub loop_tested_st : (c : Around) (g : W.Scope) (a : C.Test) (s : C.Statement) → (is_typed_test g a ≡ true → IsSt c g s) → IsTest g a → Rules (IsSt c g) (loop_tested a s)
loop_tested_st c g C.Always s k h = ruled (k refl)
loop_tested_st c g (C.Tested a) s k h = tested_st c g a s k h

pub breaks_st : (c : Around) (g : W.Scope) → Rules (IsSt c g) (breaks c)
breaks_st c g = refused_or (not (c.in_loop || c.in_switch)) _ _ (λ e. ruled (λ k r m. m.in_either (not_false (c.in_loop || c.in_switch) e)))

pub continues_st : (c : Around) (g : W.Scope) → Rules (IsSt c g) (continues c)
continues_st c g = refused_or (not c.in_loop) _ _ (λ e. ruled (λ k r m. m.in_loop (not_false c.in_loop e)))

abbrev pub IsOptional : W.Scope → Option Right → Type 0
IsOptional g None = Unit {0}
IsOptional g (Some a) = IsRight g a

-- what is returned, where the function has the result
abbrev pub IsReturn : Option CType → W.Scope → C.Statement → Type 0
IsReturn o g s = g.result ≡ o → (r : W.Around) → is_statement g r s ≡ true

pub returns_typed : (g : W.Scope) (l : Layout) (o : Option CType) (a : Option Right) → IsOptional g a → Rules (IsReturn o g) (returns l o a)
returns_typed g l None None h = ruled (λ e r. subst (λ p. gives_nothing p ≡ true) (sym e) refl)
returns_typed g l None (Some a) h = refused
returns_typed g l (Some t) None h = refused
returns_typed g l (Some t) (Some a) h = by_result (returned l t a) (λ e. returned_typed g l t a e h)
  where
    by_result : (r : Ruling C.Statement) → (g.result ≡ Some t → Rules (IsPlain g) r) → Rules (IsReturn (Some t) g) r
    by_result (Ruled s) k = ruled (λ e. rules_value (k e))
    by_result (Refused kind) k = refused
