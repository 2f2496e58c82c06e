-- The first reason that holds.
use Rattle.std.proofs.Common.{◌≡◌, ℕ, zero, suc, min, true, false, List, [], ◌∷◌, get_or, map, Option, Some, None, refl, sym, ap, ◌∙◌, subst}
use Rattle.std.specs.List.{list_all}
use Rattle.std.proofs.lemmas.Bool.{cond-true, cond-false}
use Rattle.c_values.specs.Name.{Name, is_among}
use Rattle.expression_lang.specs.Sort.{Level}
use Rattle.expression_lang.specs.CodeExpression.{level_of}
use Rattle.c_lang.specs.Typed.{TypedFn}
use Rattle.c_lang.specs.CodeTyped.{function_of, unit_of}
use Rattle.c_lang.specs.declared.tree.TypedFn as F
use Rattle.c_values.specs.declared.program.Program as P
use Rattle.c_levels.specs.declared.modes.Modes.{Modes}
use Rattle.c_levels.specs.declared.modes.Reason.TheVariants as R
use Rattle.c_meaning.specs.Levels.{ByCast, casts, callees_in, reason, call_or_choice, first_on_bytes}
use Rattle.c_levels.specs.CodeCalls.{AreTogether, function_names}
use Rattle.c_levels.specs.CodeModes.{AreLevels, IsAt}
use Rattle.c_levels.specs.CodeReason.{IsReason, first_position}
use Rattle.c_levels.proofs.OnBytes.{all_at}
use Rattle.c_levels.proofs.FirstPosition.{Tells, first_tells}

at_index : (fs : List F.TypedFn) (k : ℕ) (x : F.TypedFn) (g : TypedFn) → x ≡ get_or fs k x → IsAt (map function_of fs) k g → function_of x ≡ g
at_index [] k x g e a = absurd a
at_index (f ∷ fs) zero x g e a = ap function_of e ∙ a
at_index (f ∷ fs) (suc k) x g e a = at_index fs k x g e a

pub by_cast : (u : P.Program F.TypedFn) (k : ℕ) (x : F.TypedFn) (levels : Name → Level) (g : TypedFn) → x ≡ get_or u.functions.items k x → casts (function_of x) ≡ true →
    IsAt (map function_of u.functions.items) k g → IsReason (function_names (unit_of u)) R.Cast (reason levels g)
by_cast u k x levels g e c a =
    let h : casts g ≡ true = ap casts (sym (at_index u.functions.items k x g e a)) ∙ c in
    subst (IsReason (function_names (unit_of u)) R.Cast) (sym (cond-true (casts g) ByCast (call_or_choice (first_on_bytes levels (callees_in g.body))) h)) tt

told : (u : P.Program F.TypedFn) (m : Modes) (k : ℕ) (x : F.TypedFn) (levels : Name → Level) (g : TypedFn) → x ≡ get_or u.functions.items k x →
    AreTogether (unit_of u) → AreLevels (unit_of u) m levels → IsAt (map function_of u.functions.items) k g →
    Tells (function_names (unit_of u)) (first_position (map function_of u.functions.items) (map level_of m.levels.items) (callees_in (function_of x).body)) (first_on_bytes levels (callees_in g.body))
told u m k x levels g e t l a =
    let fs = map function_of u.functions.items in
    let known = all_at (λ h. list_all (λ y. is_among y (function_names (unit_of u))) (callees_in h.body)) fs k g t.calls a in
    subst (λ ls. Tells (function_names (unit_of u)) (first_position fs ls (callees_in (function_of x).body)) (first_on_bytes levels (callees_in g.body))) l
    (subst (λ (h : TypedFn). Tells (function_names (unit_of u)) (first_position fs (map (λ f. levels f.name) fs) (callees_in h.body)) (first_on_bytes levels (callees_in g.body)))
    (sym (at_index u.functions.items k x g e a)) (first_tells levels fs (callees_in g.body) known))

by_call_or_choice : (names : List Name) (r : R.the_data) (q : Option ℕ) (x : Option Name) → Tells names q x → ((n : ℕ) → q ≡ Some n → (j : ℕ) × ((r ≡ R.Calls j) × (j ≡ min n 4294967295))) → (q ≡ None → r ≡ R.Chosen) →
    IsReason names r (call_or_choice x)
by_call_or_choice names r (Some n) (Some x) t f g = let h = f n refl in subst (λ s. IsReason names s (call_or_choice (Some x))) (sym h.1.0) (n, (h.1.1, t))
by_call_or_choice names r None None t f g = subst (λ s. IsReason names s (call_or_choice None)) (sym (g refl)) tt
by_call_or_choice _ _ _ _ t _ _ = absurd t

pub otherwise : (u : P.Program F.TypedFn) (m : Modes) (k : ℕ) (x : F.TypedFn) (levels : Name → Level) (g : TypedFn) (q : Option ℕ) (r : R.the_data) → x ≡ get_or u.functions.items k x → casts (function_of x) ≡ false →
    q ≡ first_position (map function_of u.functions.items) (map level_of m.levels.items) (callees_in (function_of x).body) →
    ((n : ℕ) → q ≡ Some n → (j : ℕ) × ((r ≡ R.Calls j) × (j ≡ min n 4294967295))) → (q ≡ None → r ≡ R.Chosen) →
    AreTogether (unit_of u) → AreLevels (unit_of u) m levels → IsAt (map function_of u.functions.items) k g → IsReason (function_names (unit_of u)) r (reason levels g)
otherwise u m k x levels g q r e c s f h t l a =
    let no : casts g ≡ false = ap casts (sym (at_index u.functions.items k x g e a)) ∙ c in
    subst (IsReason (function_names (unit_of u)) r) (sym (cond-false (casts g) ByCast (call_or_choice (first_on_bytes levels (callees_in g.body))) no))
    (by_call_or_choice (function_names (unit_of u)) r q (first_on_bytes levels (callees_in g.body))
    (subst (λ p. Tells (function_names (unit_of u)) p (first_on_bytes levels (callees_in g.body))) (sym s) (told u m k x levels g e t l a)) f h)
