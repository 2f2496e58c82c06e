-- By default a function on typed heaps calls such functions alone: each function that is called is one of the unit, and one that calls a
-- function on bytes is on bytes itself.
use Rattle.std.proofs.Common.{◌≡◌, true, false, not, ◌&&◌, List, [], ◌∷◌, ◌++◌, map, Option, Some, None, refl, sym, ap, ◌∙◌}
use Rattle.std.specs.List.{list_all}
use Rattle.std.proofs.lemmas.Bool.{and_parts, and_from, or_parts, or_left, or_right, not-true, cond-true, cond-false, false≢true}
use Rattle.c_values.specs.Name.{Name, same_name, is_among, are_distinct}
use Rattle.c_values.proofs.Laid.{same_name-refl}
use Rattle.expression_lang.specs.Sort.{Level, Bytes, Words, Numbers, is_lifted}
use Rattle.c_lang.specs.Typed as C
use Rattle.c_lang.specs.WellTyped as W
use Rattle.c_meaning.specs.Levels.{callees, callees_in, callees_of, by_call, AreDefaultLevels}
use Rattle.pipeline.specs.Ready.{CallsLifted}

abbrev IsThere : List C.TypedFn → Name → Type 0
IsThere fs x = (f : C.TypedFn) × (C.typed_fn fs x ≡ Some f)

abbrev AreThere : List C.TypedFn → List Name → Type 0
AreThere fs [] = Unit {0}
AreThere fs (x ∷ xs) = IsThere fs x × AreThere fs xs

both : (fs : List C.TypedFn) (xs ys : List Name) → AreThere fs xs → AreThere fs ys → AreThere fs (xs ++ ys)
both fs [] ys h k = k
both fs (x ∷ xs) ys h k = (h.0, both fs xs ys h.1 k)

-- what is called is there

module _ (g : W.Scope) where
  abbrev There : List Name → Type 0
  There xs = AreThere g.functions xs

  called_there : (x : Name) (o : Option C.TypedFn) (es : List C.Expr) (u : C.Use) → C.typed_fn g.functions x ≡ o → W.is_call_of g o es u ≡ true → IsThere g.functions x
  called_there x None es u e h = absurd (false≢true h)
  called_there x (Some f) es u e h = (f, e)

  mutual
    calls_there : (r : W.Around) (s : C.Statement) → W.is_statement g r s ≡ true → There (callees s)
    calls_there r (C.Block ss) h = all_there r ss h
    calls_there r (C.Call n f es u) h = (called_there f (C.typed_fn g.functions f) es u refl h, tt)
    calls_there r (C.If e a b) h =
        let p = and_parts (W.is_typed_scalar g e && W.is_statement g r a) (W.is_statement g r b) h in
        both g.functions (callees a) (callees b) (calls_there r a (and_parts (W.is_typed_scalar g e) (W.is_statement g r a) p.0).1) (calls_there r b p.1)
    calls_there r (C.While e a) h = calls_there W.in_a_loop a (and_parts (W.is_typed_scalar g e) (W.is_statement g W.in_a_loop a) h).1
    calls_there r (C.DoWhile k a e) h = calls_there W.in_a_loop a (and_parts (W.is_statement g W.in_a_loop a) (W.is_typed_scalar g e) h).0
    calls_there r (C.For init test step a) h =
        let p = and_parts (W.are_statements g W.nowhere init && W.is_typed_test g test && W.is_statement g W.nowhere step) (W.is_statement g W.in_a_loop a) h in
        let q = and_parts (W.are_statements g W.nowhere init && W.is_typed_test g test) (W.is_statement g W.nowhere step) p.0 in
        let i = and_parts (W.are_statements g W.nowhere init) (W.is_typed_test g test) q.0 in
        both g.functions (callees_in init ++ callees step) (callees a)
        (both g.functions (callees_in init) (callees step) (all_there W.nowhere init i.0) (calls_there W.nowhere step q.1)) (calls_there W.in_a_loop a p.1)
    calls_there r (C.Switch n i e gs) h = groups_there (W.in_a_switch r) gs (and_parts _ (W.are_groups g (W.in_a_switch r) gs) h).1
    calls_there _ _ _ = tt

    all_there : (r : W.Around) (ss : C.Statements) → W.are_statements g r ss ≡ true → There (callees_in ss)
    all_there r C.no_statements h = tt
    all_there r (C.next s ss) h =
        let p = and_parts (W.is_statement g r s) (W.are_statements g r ss) h in both g.functions (callees s) (callees_in ss) (calls_there r s p.0) (all_there r ss p.1)

    groups_there : (r : W.Around) (gs : C.Groups) → W.are_groups g r gs ≡ true → There (callees_of gs)
    groups_there r C.no_groups h = tt
    groups_there r (C.group labels is_default ss gs) h =
        let p = and_parts (W.are_statements g r ss) (W.are_groups g r gs) h in both g.functions (callees_in ss) (callees_of gs) (all_there r ss p.0) (groups_there r gs p.1)

-- each function is found by its name

abbrev AreFound : List C.TypedFn → List C.TypedFn → Type 0
AreFound fs [] = Unit {0}
AreFound fs (g ∷ gs) = (C.typed_fn fs g.name ≡ Some g) × AreFound fs gs

found_later : (f : C.TypedFn) (fs gs : List C.TypedFn) → is_among f.name (map (λ h. h.name) gs) ≡ false → AreFound fs gs → AreFound (f ∷ fs) gs
found_later f fs [] a h = tt
found_later f fs (g ∷ gs) a h =
    let p = or_parts (same_name f.name g.name) (is_among f.name (map (λ h. h.name) gs)) a in
    (cond-false (same_name f.name g.name) (Some f) (C.typed_fn fs g.name) p.0 ∙ h.0, found_later f fs gs p.1 h.1)

all_found : (fs : List C.TypedFn) → are_distinct (map (λ f. f.name) fs) ≡ true → AreFound fs fs
all_found [] h = tt
all_found (f ∷ fs) h =
    let others = is_among f.name (map (λ g. g.name) fs) in
    let p = and_parts (not others) (are_distinct (map (λ g. g.name) fs)) h in
    (cond-true (same_name f.name f.name) (Some f) (C.typed_fn fs f.name) (same_name-refl f.name), found_later f fs fs (not-true others p.0) (all_found fs p.1))

-- levels

module _ (u : C.TypedUnit) (chosen worded : List Name) (levels : Name → Level) (default' : AreDefaultLevels u chosen worded levels) where
  callee_lifted : (f : C.TypedFn) → C.typed_fn u.functions f.name ≡ Some f → is_lifted (levels f.name) ≡ true → (y : Name) → is_among y (callees_in f.body) ≡ true → IsThere u.functions y →
      is_lifted (levels y) ≡ true
  callee_lifted f found lifted y calls there = by_level (levels y) refl
    where
      by_level : (k : Level) → levels y ≡ k → is_lifted (levels y) ≡ true
      by_level Bytes e =
          let bytes = (default' f.name f found).bytes_back (by_call found calls ((default' y there.0 there.1).bytes e)) in absurd (false≢true (sym (ap (λ k. is_lifted k) bytes) ∙ lifted))
      by_level Words e = ap (λ k. is_lifted k) e
      by_level Numbers e = ap (λ k. is_lifted k) e

  all_lifted : (ys : List Name) → ((y : Name) → is_among y ys ≡ true → IsThere u.functions y → is_lifted (levels y) ≡ true) → AreThere u.functions ys →
      list_all (λ y. is_lifted (levels y)) ys ≡ true
  all_lifted [] h t = refl
  all_lifted (y ∷ ys) h t =
      and_from (is_lifted (levels y)) (list_all (λ z. is_lifted (levels z)) ys) (h y (or_left (same_name y y) (is_among y ys) (same_name-refl y)) t.0)
      (all_lifted ys (λ z a. h z (or_right (same_name z y) (is_among z ys) a)) t.1)

  functions_lifted : (fs : List C.TypedFn) → W.are_functions u fs ≡ true → AreFound u.functions fs → CallsLifted levels fs
  functions_lifted [] w h = tt
  functions_lifted (f ∷ fs) w h =
      let p = and_parts (W.is_function u f) (W.are_functions u fs) w in
      let typed = (and_parts (W.are_variables (f.params ++ f.locals) && are_distinct (C.variable_names (f.params ++ f.locals)) && W.is_result f.result) (W.are_statements (W.scope_in u f) W.nowhere f.body) p.0).1 in (
        (λ lifted. all_lifted (callees_in f.body) (callee_lifted f h.0 lifted) (all_there (W.scope_in u f) W.nowhere f.body typed)),
        functions_lifted fs p.1 h.1,
      )

  pub default_calls_lifted : W.IsWellTyped u → CallsLifted levels u.functions
  default_calls_lifted w = functions_lifted u.functions w.functions (all_found u.functions w.names)
