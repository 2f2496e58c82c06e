-- Levels by marks are the default levels.
use Rattle.std.proofs.Common.{◌≡◌, ℕ, zero, suc, ltb, Bool, true, false, cond, ◌||◌, List, [], ◌∷◌, length, get_or, map, refl, sym, ap, ◌∙◌, subst, arith}
use Rattle.std.specs.List.{filter}
use Rattle.std.specs.Prelude.{String, string_bytes}
use Rattle.std.specs.declared.alloc.Global.{Global}
use Rattle.std.proofs.lemmas.Bool.{true≢false, cond-true, cond-false}
use Rattle.std.proofs.lemmas.List.{length-map}
use Rattle.c_values.specs.Name.{Name, same_name, is_among}
use Rattle.expression_lang.specs.Sort.{Level, Bytes, Words, Numbers}
use Rattle.c_lang.specs.Typed.{TypedFn, TypedUnit}
use Rattle.c_meaning.specs.Levels.{OnBytes, HasDefaultLevel, AreDefaultLevels, casts}
use Rattle.c_levels.specs.CodeSpread.{Among, Reached, at_start, led_to, IsSpread, leads_by}
use Rattle.c_levels.specs.CodeCalls.{AreTogether, is_start, call_of, calls_from, callers_of, function_names}
use Rattle.c_levels.specs.CodeModes.{IsAt, AreLevels, default_level, default_levels}
use Rattle.expression_lang.specs.CodeExpression.{level_of}
use Rattle.c_lang.specs.CodeTyped.{function_of, unit_of}
use Rattle.c_lang.specs.declared.tree.TypedFn as F
use Rattle.c_values.specs.declared.program.Program as P
use Rattle.c_lang.specs.WellTyped.{IsWellTyped}
use Rattle.c_levels.specs.declared.modes.Modes.{Modes}
use Rattle.c_levels.proofs.Positions.{stands, plain_callers}
use Rattle.c_levels.proofs.Together.{are_together}
use Rattle.c_levels.proofs.OnBytes.{leads_in, starts, reached_on_bytes, on_bytes_reached}

-- the code's calls stand for plain ones
pub plain : (cs : List (String Global × ℕ)) (y : Name) → callers_of cs y ≡ plain_callers (map call_of cs) y
plain [] y = refl
plain (c ∷ cs) y = by_cases (plain cs y) (same_name y (string_bytes c.0))
  where
    by_cases : callers_of cs y ≡ plain_callers (map call_of cs) y → (b : Bool) → map (λ e. e.1) (cond b (c ∷ filter (λ e. same_name y (string_bytes e.0)) cs) (filter (λ e. same_name y (string_bytes e.0)) cs))
        ≡ map (λ e. e.1) (cond b (call_of c ∷ filter (λ e. same_name y e.0) (map call_of cs)) (filter (λ e. same_name y e.0) (map call_of cs)))
    by_cases later true = ap (λ ks. c.1 ∷ ks) later
    by_cases later false = later

reached_alike : (f g : ℕ → List ℕ) (start : List Bool) → ((k : ℕ) → f k ≡ g k) → (k : ℕ) → Reached f start k → Reached g start k
reached_alike f g start e k (at_start m) = at_start m
reached_alike f g start e k (led_to {k = j} r n lt) = led_to (reached_alike f g start e j r) (subst (Among k) (e j) n) lt

leads_alike : (names : List Name) (s t : Name → List ℕ) → ((q : Name) → s q ≡ t q) → (k : ℕ) → leads_by names s k ≡ leads_by names t k
leads_alike names s t e k = ap (λ is. cond (ltb k (length names)) is []) (e (get_or names k []))

default_at : (levels : Name → Level) (is_worded : Name → Bool) (marks : List Bool) (fs : List TypedFn) (k : ℕ) (f : TypedFn) → IsAt fs k f → length marks ≡ length fs →
    map (λ g. levels g.name) fs ≡ default_levels is_worded fs marks → levels f.name ≡ default_level is_worded (get_or marks k false) f.name
default_at levels is_worded marks [] k f a n e = absurd a
default_at levels is_worded [] (g ∷ gs) k f a n e = absurd (omega (arith, n))
default_at levels is_worded (m ∷ ms) (g ∷ gs) zero f a n e =
    let here : levels g.name ≡ default_level is_worded m g.name = cc in
    subst (λ h. levels h.name ≡ default_level is_worded m h.name) a here
default_at levels is_worded (m ∷ ms) (g ∷ gs) (suc k) f a n e =
    let rest : map (λ h. levels h.name) gs ≡ default_levels is_worded gs ms = cc in
    default_at levels is_worded ms gs k f a (omega (arith, n)) rest

pub counted : (is_worded : Name → Bool) (fs : List TypedFn) (marks : List Bool) → length marks ≡ length fs → length (default_levels is_worded fs marks) ≡ length fs
counted is_worded [] marks e = refl
counted is_worded (f ∷ fs) [] e = e
counted is_worded (f ∷ fs) (m ∷ ms) e = ap suc (counted is_worded fs ms (omega (arith, e)))

-- the code's tests of names
starts_alike : (p q : Name → Bool) → ((x : Name) → p x ≡ q x) → (fs : List TypedFn) → map (is_start p) fs ≡ map (is_start q) fs
starts_alike p q e [] = refl
starts_alike p q e (f ∷ fs) = ap (λ b. (casts f || b) ∷ map (is_start p) fs) (e f.name) ∙ ap (λ bs. is_start q f ∷ bs) (starts_alike p q e fs)

level_alike : (p q : Name → Bool) → ((x : Name) → p x ≡ q x) → (m : Bool) (x : Name) → default_level p m x ≡ default_level q m x
level_alike p q e true x = refl
level_alike p q e false x = ap (λ b. cond b Words Numbers) (e x)

levels_alike : (p q : Name → Bool) → ((x : Name) → p x ≡ q x) → (fs : List TypedFn) (marks : List Bool) → default_levels p fs marks ≡ default_levels q fs marks
levels_alike p q e [] marks = refl
levels_alike p q e (f ∷ fs) [] = refl
levels_alike p q e (f ∷ fs) (m ∷ ms) = ap (λ k. k ∷ default_levels p fs ms) (level_alike p q e m f.name) ∙ ap (λ ks. default_level q m f.name ∷ ks) (levels_alike p q e fs ms)

by_mark : (u : TypedUnit) (chosen worded : List Name) (x : Name) (m : Bool) (level : Level) → (m ≡ true → OnBytes u chosen x) → (OnBytes u chosen x → m ≡ true) →
    level ≡ default_level (λ y. is_among y worded) m x → HasDefaultLevel u chosen worded x level
by_mark u chosen worded x true level on back e = record {
  bytes = λ _. on refl;
  bytes_back = λ _. e;
  words = λ h. let clash : Bytes ≡ Words = sym e ∙ h in absurd cc;
  numbers = λ h. let clash : Bytes ≡ Numbers = sym e ∙ h in absurd cc;
}
by_mark u chosen worded x false level on back e = by_cases (is_among x worded) refl
  where
    by_cases : (b : Bool) → is_among x worded ≡ b → HasDefaultLevel u chosen worded x level
    by_cases true w =
        let here : level ≡ Words = e ∙ cond-true (is_among x worded) Words Numbers w in
        record {
          bytes = λ h. let clash : Words ≡ Bytes = sym here ∙ h in absurd cc;
          bytes_back = λ o. absurd (true≢false (sym (back o)));
          words = λ _. w;
          numbers = λ h. let clash : Words ≡ Numbers = sym here ∙ h in absurd cc;
        }
    by_cases false w =
        let here : level ≡ Numbers = e ∙ cond-false (is_among x worded) Words Numbers w in
        record {
          bytes = λ h. let clash : Numbers ≡ Bytes = sym here ∙ h in absurd cc;
          bytes_back = λ o. absurd (true≢false (sym (back o)));
          words = λ h. let clash : Numbers ≡ Words = sym here ∙ h in absurd cc;
          numbers = λ _. w;
        }

pub defaults : (u : TypedUnit) (chosen worded : List Name) (levels : Name → Level) (table : Name → List ℕ) (start marks : List Bool) → AreTogether u →
    ((q : Name) → table q ≡ plain_callers (calls_from 0 u.functions) q) → start ≡ starts u chosen → IsSpread (leads_by (function_names u) table) start marks →
    map (λ f. levels f.name) u.functions ≡ default_levels (λ y. is_among y worded) u.functions marks → AreDefaultLevels u chosen worded levels
defaults u chosen worded levels table start marks t same begun s e x f g =
    let p = stands u.functions x f g in
    let k = p.0 in
    let alike = leads_alike (function_names u) table (plain_callers (calls_from 0 u.functions)) same in
    let back = leads_alike (function_names u) (plain_callers (calls_from 0 u.functions)) table (λ q. sym (same q)) in
    let count : length marks ≡ length u.functions = s.count ∙ ap length begun ∙ simp length-map in
    subst (λ y. HasDefaultLevel u chosen worded y (levels y)) p.1.1
    (by_mark u chosen worded f.name (get_or marks k false) (levels f.name)
    (λ m. reached_on_bytes u chosen t k (subst (λ b. Reached (leads_in u) b k) begun (reached_alike _ (leads_in u) start alike k (s.reached k m))) f p.1.0)
    (λ o. s.all k (reached_alike (leads_in u) _ start back k (subst (λ b. Reached (leads_in u) b k) (sym begun) (on_bytes_reached u chosen t f.name o k f p.1.0 refl))))
    (default_at levels (λ y. is_among y worded) marks u.functions k f p.1.0 count e))

same_names : (fs : List F.TypedFn) → map (λ f. string_bytes f.name) fs ≡ map (λ f. f.name) (map function_of fs)
same_names [] = refl
same_names (f ∷ fs) = ap (λ xs. string_bytes f.name ∷ xs) (same_names fs)

-- what the code makes of a unit
pub record MadeLevels (u : P.Program F.TypedFn) (chosen worded : List Name) (m : Modes) : Type 0 where
  pub is_chosen : Name → Bool
  pub is_worded : Name → Bool
  pub calls : List (String Global × ℕ)
  pub table : Name → List ℕ
  pub start : List Bool
  pub marks : List Bool
  pub chosen_are : (x : Name) → is_chosen x ≡ is_among x chosen
  pub worded_are : (x : Name) → is_worded x ≡ is_among x worded
  pub started : start ≡ map (is_start is_chosen) (map function_of u.functions.items)
  pub called : map call_of calls ≡ calls_from 0 (map function_of u.functions.items)
  pub listed : (q : Name) → table q ≡ callers_of calls q
  pub spread : IsSpread (leads_by (map (λ f. string_bytes f.name) u.functions.items) table) start marks
  pub made : map level_of m.levels.items ≡ default_levels is_worded (map function_of u.functions.items) marks

pub made_defaults : (u : P.Program F.TypedFn) (chosen worded : List Name) (m : Modes) → MadeLevels u chosen worded m → (levels : Name → Level) →
    IsWellTyped (unit_of u) → AreLevels (unit_of u) m levels → AreDefaultLevels (unit_of u) chosen worded levels
made_defaults u chosen worded m h levels t e =
    defaults (unit_of u) chosen worded levels h.table h.start h.marks (are_together (unit_of u) t)
    (λ q. h.listed q ∙ plain h.calls q ∙ ap (λ cs. plain_callers cs q) h.called)
    (h.started ∙ starts_alike h.is_chosen (λ x. is_among x chosen) h.chosen_are (map function_of u.functions.items))
    (subst (λ ns. IsSpread (leads_by ns h.table) h.start h.marks) (same_names u.functions.items) h.spread)
    (e ∙ h.made ∙ levels_alike h.is_worded (λ x. is_among x worded) h.worded_are (map function_of u.functions.items) h.marks)

pub made_count : (u : P.Program F.TypedFn) (chosen worded : List Name) (m : Modes) → MadeLevels u chosen worded m → length m.levels.items ≡ length u.functions.items
made_count u chosen worded m h =
    let n : length h.marks ≡ length (map function_of u.functions.items) = h.spread.count ∙ ap length h.started ∙ simp length-map in
    let k = counted h.is_worded (map function_of u.functions.items) h.marks n in
    let a : length m.levels.items ≡ length (map level_of m.levels.items) = simp length-map in
    let b : length (map function_of u.functions.items) ≡ length u.functions.items = simp length-map in
    a ∙ ap length h.made ∙ k ∙ b
