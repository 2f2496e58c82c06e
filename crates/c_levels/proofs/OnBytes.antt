-- The functions that marks spread to are those that work on bytes.
use Rattle.std.proofs.Common.{◌≡◌, ℕ, zero, suc, ◌+◌, ◌<◌, ◌≤◌, Bool, true, false, List, [], ◌∷◌, length, get_or, map, Some, ◌⊎◌, inl, inr, sym, ap, ◌∙◌, subst, arith, ltb}
use Rattle.std.specs.List.{list_all}
use Rattle.std.proofs.lemmas.Bool.{and_parts, or_cases, or_left, or_right, cases_lt, true≢false, cond-true, cond-false, lt-ltb}
use Rattle.std.proofs.lemmas.List.{length-map}
use Rattle.c_values.specs.Name.{Name, same_name, is_among}
use Rattle.c_values.proofs.Laid.{name_is}
use Rattle.c_lang.specs.Typed.{TypedFn, TypedUnit, typed_fn}
use Rattle.c_meaning.specs.Levels.{OnBytes, by_cast, by_choice, by_call, casts, callees_in}
use Rattle.c_levels.specs.CodeSpread.{Among, Reached, at_start, led_to, leads_by}
use Rattle.c_levels.specs.CodeCalls.{AreTogether, calls_from, function_names, is_start}
use Rattle.c_levels.specs.CodeModes.{IsAt}
use Rattle.c_levels.proofs.Positions.{there, same_at, below, made_at, found, named, plain_callers, calls_it, is_caller}

-- where the marks of a unit lead
abbrev pub leads_in : TypedUnit → ℕ → List ℕ
leads_in u = leads_by (function_names u) (plain_callers (calls_from 0 u.functions))

abbrev pub starts : TypedUnit → List Name → List Bool
starts u chosen = map (is_start (λ x. is_among x chosen)) u.functions

led : (u : TypedUnit) (k : ℕ) (f : TypedFn) → IsAt u.functions k f → leads_in u k ≡ plain_callers (calls_from 0 u.functions) f.name
led u k f a =
    let lt : k < length (function_names u) = let b = below u.functions k f a in simp length-map (omega arith) in
    cond-true (ltb k (length (function_names u))) (plain_callers (calls_from 0 u.functions) (get_or (function_names u) k [])) [] (lt-ltb k (length (function_names u)) lt)
    ∙ ap (plain_callers (calls_from 0 u.functions)) (made_at (λ h. h.name) [] u.functions k f a)

leads_below : (u : TypedUnit) (k i : ℕ) → Among i (leads_in u k) → k < length u.functions
leads_below u k i a = by_cases (cases_lt k (length (function_names u)))
  where
    by_cases : (k < length (function_names u)) ⊎ (length (function_names u) ≤ k) → k < length u.functions
    by_cases (inl lt) = simp length-map at lt
    by_cases (inr le) = absurd (subst (Among i) (cond-false (ltb k (length (function_names u))) (plain_callers (calls_from 0 u.functions) (get_or (function_names u) k [])) [] (is_not_less k (length (function_names u)) le)) a)
      where
        is_not_less : (m n : ℕ) → n ≤ m → ltb m n ≡ false
        is_not_less m n h = grind arith

pub reached_on_bytes : (u : TypedUnit) (chosen : List Name) → AreTogether u → (k : ℕ) → Reached (leads_in u) (starts u chosen) k → (f : TypedFn) → IsAt u.functions k f → OnBytes u chosen f.name
reached_on_bytes u chosen t k (at_start m) f a =
    elim (or_cases (casts f) (is_among f.name chosen) (sym (made_at (is_start (λ x. is_among x chosen)) false u.functions k f a) ∙ m)) [
      | inl c ↦ by_cast (found u.functions k f t.names a) c
      | inr c ↦ by_choice c
    ]
reached_on_bytes u chosen t k (led_to {k = j} r n lt) f a =
    let g = there u.functions j (leads_below u j k n) in
    let h = calls_it 0 u.functions g.0.name k (subst (λ is. Among k is) (led u j g.0 g.1) n) in
    let here : IsAt u.functions k h.1.0 = subst (λ i. IsAt u.functions i h.1.0) (omega (arith, h.1.1.0)) h.1.1.1.0 in
    by_call (found u.functions k f t.names a)
    (ap (λ e. is_among g.0.name (callees_in e.body)) (same_at u.functions k f h.1.0 a here) ∙ h.1.1.1.1)
    (reached_on_bytes u chosen t j r g.0 g.1)

pub all_at : (p : TypedFn → Bool) (fs : List TypedFn) (k : ℕ) (f : TypedFn) → list_all p fs ≡ true → IsAt fs k f → p f ≡ true
all_at p [] k f h a = absurd a
all_at p (g ∷ gs) zero f h a = ap p (sym a) ∙ (and_parts (p g) (list_all p gs) h).0
all_at p (g ∷ gs) (suc k) f h a = all_at p gs k f (and_parts (p g) (list_all p gs) h).1 a

all_among : (ns ys : List Name) (y : Name) → list_all (λ z. is_among z ns) ys ≡ true → is_among y ys ≡ true → is_among y ns ≡ true
all_among ns [] y h e = absurd (true≢false (sym e))
all_among ns (z ∷ ys) y h e =
    let p = and_parts (is_among z ns) (list_all (λ x. is_among x ns) ys) h in
    elim (or_cases (same_name y z) (is_among y ys) e) [
      | inl s ↦ ap (λ x. is_among x ns) (name_is y z s) ∙ p.0
      | inr m ↦ all_among ns ys y p.1 m
    ]

-- it is the function that is found by its name
the_found : (u : TypedUnit) → AreTogether u → (x : Name) (k : ℕ) (f h : TypedFn) → IsAt u.functions k f → f.name ≡ x → typed_fn u.functions x ≡ Some h → f ≡ h
the_found u t x k f h a n e =
    let q : Some f ≡ Some h = sym (found u.functions k f t.names a) ∙ ap (typed_fn u.functions) n ∙ e in
    cc

pub on_bytes_reached : (u : TypedUnit) (chosen : List Name) → AreTogether u → (x : Name) → OnBytes u chosen x → (k : ℕ) (f : TypedFn) → IsAt u.functions k f → f.name ≡ x → Reached (leads_in u) (starts u chosen) k
on_bytes_reached u chosen t x (by_cast {f = h} e c) k f a n =
    at_start (made_at (is_start (λ x. is_among x chosen)) false u.functions k f a ∙ or_left (casts f) (is_among f.name chosen) (ap casts (the_found u t x k f h a n e) ∙ c))
on_bytes_reached u chosen t x (by_choice c) k f a n =
    at_start (made_at (is_start (λ x. is_among x chosen)) false u.functions k f a ∙ or_right (casts f) (is_among f.name chosen) (ap (λ z. is_among z chosen) n ∙ c))
on_bytes_reached u chosen t x (by_call {y = y} {f = h} e m o) k f a n =
    let same = the_found u t x k f h a n e in
    let calls : is_among y (callees_in f.body) ≡ true = ap (λ g. is_among y (callees_in g.body)) same ∙ m in
    let known = all_among (function_names u) (callees_in f.body) y (all_at (λ g. list_all (λ z. is_among z (function_names u)) (callees_in g.body)) u.functions k f t.calls a) calls in
    let g = named u.functions y known in
    let r = on_bytes_reached u chosen t y o g.0 g.1.0 g.1.1.0 g.1.1.1 in
    let caller : Among (0 + k) (plain_callers (calls_from 0 u.functions) g.1.0.name) =
    is_caller 0 u.functions g.1.0.name k f a (ap (λ z. is_among z (callees_in f.body)) g.1.1.1 ∙ calls) in
    led_to r (subst (λ is. Among k is) (sym (led u g.0 g.1.0 g.1.1.0)) (subst (λ i. Among i (plain_callers (calls_from 0 u.functions) g.1.0.name)) (omega arith) caller))
    (let b = below u.functions k f a in simp length-map (omega arith))
