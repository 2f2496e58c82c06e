-- In a well-typed unit each function that is called is there.
use Rattle.std.proofs.Common.{◌≡◌, ℕ, zero, suc, Bool, true, ◌&&◌, List, [], ◌∷◌, ◌++◌, map, Option, Some, None, refl, sym, ap, ◌∙◌}
use Rattle.std.specs.List.{list_all}
use Rattle.std.proofs.lemmas.Bool.{and_parts, or_left, or_right}
use Rattle.c_values.specs.Name.{Name, same_name, is_among, are_distinct}
use Rattle.c_values.proofs.Laid.{same_name-refl}
use Rattle.c_lang.specs.Typed as C
use Rattle.c_lang.specs.WellTyped as W
use Rattle.c_meaning.specs.Levels.{callees, callees_in, callees_of}
use Rattle.c_levels.specs.CodeModes.{IsAt}
use Rattle.c_levels.specs.CodeCalls.{AreTogether, function_names}
use Rattle.c_levels.proofs.Positions.{stands}

among_at : (fs : List C.TypedFn) (k : ℕ) (f : C.TypedFn) → IsAt fs k f → is_among f.name (map (λ g. g.name) fs) ≡ true
among_at [] k f a = absurd a
among_at (g ∷ gs) zero f a = or_left (same_name f.name g.name) (is_among f.name (map (λ h. h.name) gs)) (ap (λ h. same_name f.name h.name) a ∙ same_name-refl f.name)
among_at (g ∷ gs) (suc k) f a = or_right (same_name f.name g.name) (is_among f.name (map (λ h. h.name) gs)) (among_at gs k f a)

-- a call of a function of the unit
called : (g : W.Scope) (x : Name) (q : Option C.TypedFn) (es : List C.Expr) (use' : C.Use) → C.typed_fn g.functions x ≡ q → W.is_call_of g q es use' ≡ true →
    is_among x (map (λ f. f.name) g.functions) ≡ true
called g x None es use' e h = absurd cc
called g x (Some f) es use' e h =
    let p = stands g.functions x f e in
    ap (λ z. is_among z (map (λ h'. h'.name) g.functions)) (sym p.1.1) ∙ among_at g.functions p.0 f p.1.0

both : (p : Name → Bool) (xs ys : List Name) → list_all p xs ≡ true → list_all p ys ≡ true → list_all p (xs ++ ys) ≡ true
both p [] ys h k = k
both p (x ∷ xs) ys h k =
    let q = and_parts (p x) (list_all p xs) h in
    ap (λ b. b && list_all p (xs ++ ys)) q.0 ∙ both p xs ys q.1 k

module _ (g : W.Scope) where
  abbrev there : Name → Bool
  there y = is_among y (map (λ f. f.name) g.functions)

  mutual
    calls_there : (r : W.Around) (s : C.Statement) → W.is_statement g r s ≡ true → list_all there (callees s) ≡ true
    calls_there r (C.Block ss) h = calls_in_there r ss h
    calls_there r (C.Call n f es use') h = ap (λ b. b && true) (called g f (C.typed_fn g.functions f) es use' refl h)
    calls_there r (C.If e a b) h =
        let p = and_parts (W.is_typed_scalar g e && W.is_statement g r a) (W.is_statement g r b) h in
        both there (callees a) (callees b) (calls_there r a (and_parts (W.is_typed_scalar g e) (W.is_statement g r a) p.0).1) (calls_there r b p.1)
    calls_there r (C.While e a) h = calls_there W.in_a_loop a (and_parts (W.is_typed_scalar g e) (W.is_statement g W.in_a_loop a) h).1
    calls_there r (C.DoWhile k a e) h = calls_there W.in_a_loop a (and_parts (W.is_statement g W.in_a_loop a) (W.is_typed_scalar g e) h).0
    calls_there r (C.For init test step a) h =
        let p = and_parts (W.are_statements g W.nowhere init && W.is_typed_test g test && W.is_statement g W.nowhere step) (W.is_statement g W.in_a_loop a) h in
        let q = and_parts (W.are_statements g W.nowhere init && W.is_typed_test g test) (W.is_statement g W.nowhere step) p.0 in
        let i = and_parts (W.are_statements g W.nowhere init) (W.is_typed_test g test) q.0 in
        both there (callees_in init ++ callees step) (callees a)
        (both there (callees_in init) (callees step) (calls_in_there W.nowhere init i.0) (calls_there W.nowhere step q.1)) (calls_there W.in_a_loop a p.1)
    calls_there r (C.Switch n i e gs) h = calls_of_there (W.in_a_switch r) gs (and_parts _ (W.are_groups g (W.in_a_switch r) gs) h).1
    calls_there _ _ _ = refl

    calls_in_there : (r : W.Around) (ss : C.Statements) → W.are_statements g r ss ≡ true → list_all there (callees_in ss) ≡ true
    calls_in_there r C.no_statements h = refl
    calls_in_there r (C.next s ss) h =
        let p = and_parts (W.is_statement g r s) (W.are_statements g r ss) h in
        both there (callees s) (callees_in ss) (calls_there r s p.0) (calls_in_there r ss p.1)

    calls_of_there : (r : W.Around) (gs : C.Groups) → W.are_groups g r gs ≡ true → list_all there (callees_of gs) ≡ true
    calls_of_there r C.no_groups h = refl
    calls_of_there r (C.group labels is_default ss gs) h =
        let p = and_parts (W.are_statements g r ss) (W.are_groups g r gs) h in
        both there (callees_in ss) (callees_of gs) (calls_in_there r ss p.0) (calls_of_there r gs p.1)

in_functions : (u : C.TypedUnit) (fs : List C.TypedFn) → W.are_functions u fs ≡ true → list_all (λ f. list_all (λ y. is_among y (function_names u)) (callees_in f.body)) fs ≡ true
in_functions u [] h = refl
in_functions u (f ∷ fs) h =
    let p = and_parts (W.is_function u f) (W.are_functions u fs) h in
    let q = and_parts (W.are_variables (f.params ++ f.locals) && are_distinct (C.variable_names (f.params ++ f.locals)) && W.is_result f.result) (W.are_statements (W.scope_in u f) W.nowhere f.body) p.0 in
    ap (λ b. b && list_all (λ g. list_all (λ y. is_among y (function_names u)) (callees_in g.body)) fs) (calls_in_there (W.scope_in u f) W.nowhere f.body q.1) ∙ in_functions u fs p.1

pub are_together : (u : C.TypedUnit) → W.IsWellTyped u → AreTogether u
are_together u h = record { names = h.names; calls = in_functions u u.functions h.functions }
