-- The first function that works on bytes, among those that are called.
use Rattle.std.proofs.Common.{◌≡◌, ℕ, ◌+◌, Bool, true, false, cond, ◌||◌, List, [], ◌∷◌, ◌++◌, length, get_or, map, subst, append_assoc, Option, Some, None, refl, sym, ap, ◌∙◌}
use Rattle.std.specs.List.{list_all}
use Rattle.std.proofs.lemmas.List.{length_push}
use Rattle.std.proofs.Math.Seq.{get_or-append_seam}
use Rattle.std.proofs.lemmas.Bool.{and_parts, true≢false}
use Rattle.c_values.specs.Name.{Name, same_name, is_among}
use Rattle.c_values.proofs.Laid.{name_is, other_name}
use Rattle.expression_lang.specs.Sort.{Level}
use Rattle.c_lang.specs.Typed.{TypedFn}
use Rattle.c_meaning.specs.Levels.{is_on_bytes, first_on_bytes}
use Rattle.c_levels.specs.CodeReason.{position_from, first_position, or_later}

or_later-assoc : (a b c : Option ℕ) → or_later (or_later a b) c ≡ or_later a (or_later b c)
or_later-assoc (Some k) b c = refl
or_later-assoc None b c = refl

pub of_both : (fs : List TypedFn) (ls : List Level) (ys zs : List Name) → first_position fs ls (ys ++ zs) ≡ or_later (first_position fs ls ys) (first_position fs ls zs)
of_both fs ls [] zs = refl
of_both fs ls (y ∷ ys) zs = ap (or_later (position_from 0 fs ls y)) (of_both fs ls ys zs) ∙ sym (or_later-assoc (position_from 0 fs ls y) (first_position fs ls ys) (first_position fs ls zs))

-- a position tells a name, or there is none
abbrev pub Tells : List Name → Option ℕ → Option Name → Type 0
Tells names (Some k) (Some x) = get_or names k [] ≡ x
Tells names None None = Unit {0}
Tells names _ _ = ⊥

abbrev found_at : (Name → Level) → Name → Option Name
found_at levels y = cond (is_on_bytes (levels y)) (Some y) None

-- the names before, and then those of the functions
position_tells : (levels : Name → Level) (before : List Name) (fs : List TypedFn) (y : Name) → is_among y (map (λ f. f.name) fs) ≡ true →
    Tells (before ++ map (λ f. f.name) fs) (position_from (length before) fs (map (λ f. levels f.name) fs) y) (found_at levels y)
position_tells levels before [] y e = absurd (true≢false (sym e))
position_tells levels before (f ∷ fs) y e = by_cases (position_tells levels (before ++ (f.name ∷ [])) fs y) (same_name f.name y) refl
  where
    here : (b : Bool) → Tells (before ++ (f.name ∷ map (λ g. g.name) fs)) (cond b (Some (length before)) None) (cond b (Some f.name) None)
    here true = get_or-append_seam before f.name (map (λ g. g.name) fs) []
    here false = tt

    later_among : same_name f.name y ≡ false → is_among y (map (λ g. g.name) fs) ≡ true
    later_among s = sym (ap (λ b. b || is_among y (map (λ g. g.name) fs)) (other_name f.name y s)) ∙ e

    by_cases : (is_among y (map (λ g. g.name) fs) ≡ true → Tells ((before ++ (f.name ∷ [])) ++ map (λ g. g.name) fs) (position_from (length (before ++ (f.name ∷ []))) fs (map (λ g. levels g.name) fs) y) (found_at levels y)) →
        (b : Bool) → same_name f.name y ≡ b →
        Tells (before ++ (f.name ∷ map (λ g. g.name) fs)) (cond b (cond (is_on_bytes (levels f.name)) (Some (length before)) None) (position_from (length before + 1) fs (map (λ g. levels g.name) fs) y)) (found_at levels y)
    by_cases later true s =
        subst (λ z. Tells (before ++ (f.name ∷ map (λ g. g.name) fs)) (cond (is_on_bytes (levels f.name)) (Some (length before)) None) (found_at levels z)) (name_is f.name y s) (here (is_on_bytes (levels f.name)))
    by_cases later false s =
        subst (λ ns. Tells ns (position_from (length before + 1) fs (map (λ g. levels g.name) fs) y) (found_at levels y)) (append_assoc before (f.name ∷ []) (map (λ g. g.name) fs))
        (subst (λ n. Tells ((before ++ (f.name ∷ [])) ++ map (λ g. g.name) fs) (position_from n fs (map (λ g. levels g.name) fs) y) (found_at levels y)) (length_push before f.name) (later (later_among s)))

pub first_tells : (levels : Name → Level) (fs : List TypedFn) (ys : List Name) → list_all (λ y. is_among y (map (λ f. f.name) fs)) ys ≡ true →
    Tells (map (λ f. f.name) fs) (first_position fs (map (λ f. levels f.name) fs) ys) (first_on_bytes levels ys)
first_tells levels fs [] e = tt
first_tells levels fs (y ∷ ys) e =
    let p = and_parts (is_among y (map (λ f. f.name) fs)) (list_all (λ z. is_among z (map (λ f. f.name) fs)) ys) e in
    by_cases (first_tells levels fs ys p.1) (position_from 0 fs (map (λ f. levels f.name) fs) y) (is_on_bytes (levels y)) (position_tells levels [] fs y p.0)
  where
    by_cases : Tells (map (λ f. f.name) fs) (first_position fs (map (λ f. levels f.name) fs) ys) (first_on_bytes levels ys) → (q : Option ℕ) (b : Bool) → Tells (map (λ f. f.name) fs) q (cond b (Some y) None) →
        Tells (map (λ f. f.name) fs) (or_later q (first_position fs (map (λ f. levels f.name) fs) ys)) (cond b (Some y) (first_on_bytes levels ys))
    by_cases later (Some k) true h = h
    by_cases later None false h = later
    by_cases _ _ _ h = absurd h
