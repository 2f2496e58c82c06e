-- Two lists of names that are bound one after the other: in either order, and from no name or from others.
use Rattle.std.proofs.Common.{◌≡◌, Bool, true, false, cond, not, ◌||◌, List, [], ◌∷◌, ◌++◌, Some, None, refl, sym, ap, ◌∙◌}
use Rattle.std.specs.Option.{is_some}
use Rattle.std.proofs.lemmas.Bool.{and_parts, or_parts, not-true, true≢false, false≢true}
use Rattle.c_values.specs.Name.{Name, same_name, with_name, is_among, are_distinct}
use Rattle.c_values.specs.Value.{Value}
use Rattle.c_values.specs.Layout.{Layout}
use Rattle.c_values.proofs.Laid.{name_is, other_name}
use Rattle.expression_lang.specs.Expression.{Exp}
use Rattle.expression_lang.specs.Evaluation.{Env, State, value}
use Rattle.expression_lang.specs.Sort.{Scalar}
use Rattle.expression_lang.specs.Sorted.{names_with}
use Rattle.expression_lang.specs.Signature.{values_of, bound, no_env}
use Rattle.expression_lang.proofs.Bound.{bound_stays}
use Rattle.ac_expr.specs.Lasting.{is_unnamed}
use Rattle.ac_expr.proofs.SameValues.{unnamed_same}
use Rattle.triple_lang.specs.Deriv.{Names}
use Rattle.hoare_check.proofs.Naming.{AsMany, bound_alike}

pub among_joined : (y : Name) (xs ys : List Name) → is_among y (xs ++ ys) ≡ (is_among y xs || is_among y ys)
among_joined y [] ys = refl
among_joined y (x ∷ xs) ys = joined (same_name y x) (is_among y xs) (is_among y ys) (among_joined y xs ys)
  where
    joined : (a b c : Bool) → is_among y (xs ++ ys) ≡ (b || c) → (a || is_among y (xs ++ ys)) ≡ ((a || b) || c)
    joined true b c h = refl
    joined false b c h = h

-- a name of the first list isn't in the second
pub first_alone : (y : Name) (xs ys : List Name) → are_distinct (xs ++ ys) ≡ true → is_among y xs ≡ true → is_among y ys ≡ false
first_alone y [] ys h i = absurd (false≢true i)
first_alone y (x ∷ xs) ys h i =
    let p = and_parts (not (is_among x (xs ++ ys))) (are_distinct (xs ++ ys)) h in
    by_test (first_alone y xs ys p.1) (or_parts (is_among x xs) (is_among x ys) (sym (among_joined x xs ys) ∙ not-true (is_among x (xs ++ ys)) p.0)).1
    (same_name y x) refl i
  where
    by_test : (is_among y xs ≡ true → is_among y ys ≡ false) → is_among x ys ≡ false → (b : Bool) → same_name y x ≡ b → (b || is_among y xs) ≡ true →
        is_among y ys ≡ false
    by_test rest none true e j = ap (λ z. is_among z ys) (name_is y x e) ∙ none
    by_test rest none false e j = rest j

pub distinct_second : (xs ys : List Name) → are_distinct (xs ++ ys) ≡ true → are_distinct ys ≡ true
distinct_second [] ys h = h
distinct_second (x ∷ xs) ys h = distinct_second xs ys (and_parts (not (is_among x (xs ++ ys))) (are_distinct (xs ++ ys)) h).1

pub bound_joined : (xs ys : List Name) (vs ws : List Value) (env : Env) → AsMany xs vs → bound (xs ++ ys) (vs ++ ws) env ≡ bound ys ws (bound xs vs env)
bound_joined [] ys [] ws env h = refl
bound_joined (x ∷ xs) ys (v ∷ vs) ws env h = bound_joined xs ys vs ws (with_name x v env) h
bound_joined [] ys (v ∷ vs) ws env h = absurd h
bound_joined (x ∷ xs) ys [] ws env h = absurd h

pub values_joined : (l : Layout) (env : Env) (s : State) (es ds : List Exp) → values_of l env s (es ++ ds) ≡ values_of l env s es ++ values_of l env s ds
values_joined l env s [] ds = refl
values_joined l env s (e ∷ es) ds = ap (λ vs. value l env s e ∷ vs) (values_joined l env s es ds)

-- a name in scope is among the names, or was in scope before
pub known_among : (y : Name) (xs : List Name) (cs : List Scalar) (ns : Names) → is_some (names_with xs cs ns y) ≡ true → is_among y xs ≡ false → is_some
    (ns y) ≡ true
known_among y [] cs ns h n = h
known_among y (x ∷ xs) [] ns h n = h
known_among y (x ∷ xs) (c ∷ cs) ns h n =
    let p = or_parts (same_name y x) (is_among y xs) n in
    not_here (same_name x y) refl (known_among y xs cs (with_name x (Some c) ns) h p.1) p.0
  where
    not_here : (b : Bool) → same_name x y ≡ b → is_some (cond b (Some c) (ns y)) ≡ true → same_name y x ≡ false → is_some (ns y) ≡ true
    not_here true e k f = absurd (true≢false (sym e ∙ other_name y x f))
    not_here false e k f = k

pub known_name : (y : Name) (xs : List Name) (cs : List Scalar) → is_some (names_with xs cs (λ x. None) y) ≡ true → is_among y xs ≡ true
known_name y xs cs h = by_test (is_among y xs) refl
  where
    by_test : (b : Bool) → is_among y xs ≡ b → b ≡ true
    by_test true e = refl
    by_test false e = absurd (false≢true (known_among y xs cs (λ x. None) h e))

-- the names of both lists have the same values where the second comes last, over any names, and where the first does, over none
pub either_order : (xs ys : List Name) (vs ws : List Value) (env : Env) → are_distinct (xs ++ ys) ≡ true → AsMany xs vs → AsMany ys ws →
    (y : Name) → is_among y (xs ++ ys) ≡ true → bound (xs ++ ys) (vs ++ ws) env y ≡ bound xs vs (bound ys ws no_env) y
either_order xs ys vs ws env h many some y i = ap (λ f. f y) (bound_joined xs ys vs ws env many) ∙ by_test (is_among y xs) refl
  where
    by_test : (b : Bool) → is_among y xs ≡ b → bound ys ws (bound xs vs env) y ≡ bound xs vs (bound ys ws no_env) y
    by_test true e =
        bound_stays y ys ws (bound xs vs env) (first_alone y xs ys h e)
        ∙ bound_alike y xs vs (bound ys ws no_env) env many (λ n. absurd (true≢false (sym e ∙ n)))
    by_test false e =
        let j : is_among y ys ≡ true = sym (ap (λ b. b || is_among y ys) e) ∙ sym (among_joined y xs ys) ∙ i in
        bound_alike y ys ws no_env (bound xs vs env) some (λ n. absurd (true≢false (sym j ∙ n)))
        ∙ sym (bound_stays y xs vs (bound ys ws no_env) e)

-- an expression without the names
pub unnamed_value : (l : Layout) (xs : List Name) (vs : List Value) (env : Env) (s : State) (e : Exp) → is_unnamed xs e ≡ true → value l env s e ≡ value l
    (bound xs vs env) s e
unnamed_value l [] vs env s e h = refl
unnamed_value l (x ∷ xs) [] env s e h = refl
unnamed_value l (x ∷ xs) (v ∷ vs) env s e h =
    let p = and_parts _ (is_unnamed xs e) h in
    unnamed_same l x v env s e (not-true _ p.0) ∙ unnamed_value l xs vs (with_name x v env) s e p.1
