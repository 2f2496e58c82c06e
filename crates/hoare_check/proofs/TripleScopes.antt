-- The names that a triple's derivation begins with: the function's own, and the logical variables.
use Rattle.std.proofs.Common.{◌≡◌, Bool, true, false, ◌||◌, List, [], ◌∷◌, ◌++◌, Some, None, refl, sym, ap, ◌∙◌}
use Rattle.std.specs.Option.{is_some}
use Rattle.std.proofs.lemmas.Bool.{true≢false}
use Rattle.c_values.specs.Name.{Name, with_name, is_among, are_distinct}
use Rattle.c_values.specs.Value.{Value}
use Rattle.expression_lang.specs.Sort.{Scalar}
use Rattle.expression_lang.specs.Sorted.{names_with}
use Rattle.expression_lang.specs.Signature.{bound, no_env}
use Rattle.expression_lang.proofs.Bound.{bound_stays}
use Rattle.triple_lang.specs.Deriv.{Names}
use Rattle.hoare_check.proofs.Naming.{AsMany, bound_alike, names_alike, named_else}
use Rattle.hoare_check.proofs.JoinedNames.{among_joined, first_alone, bound_joined, known_name}
use Rattle.hoare_check.proofs.KnownPrograms.{KnownIn}

-- no name is in scope
abbrev pub nowhere : Names
nowhere x = None

pub names_joined : (xs ys : List Name) (cs ds : List Scalar) (ns : Names) → AsMany xs cs → names_with (xs ++ ys) (cs ++ ds) ns ≡ names_with ys ds
    (names_with xs cs ns)
names_joined [] ys [] ds ns h = refl
names_joined (x ∷ xs) ys (c ∷ cs) ds ns h = names_joined xs ys cs ds (with_name x (Some c) ns) h
names_joined [] ys (c ∷ cs) ds ns h = absurd h
names_joined (x ∷ xs) ys [] ds ns h = absurd h

second_then : (y : Name) (xs ys : List Name) → is_among y (xs ++ ys) ≡ true → is_among y xs ≡ false → is_among y ys ≡ true
second_then y xs ys h n = sym (ap (λ b. b || is_among y ys) n) ∙ sym (among_joined y xs ys) ∙ h

module _ (xs ys : List Name) (cs ds : List Scalar) (distinct : are_distinct (xs ++ ys) ≡ true) (many : AsMany xs cs) (some : AsMany ys ds) where
  -- the first names are in scope under both as under the first alone
  pub first_known : KnownIn (names_with xs cs nowhere) (names_with (xs ++ ys) (cs ++ ds) nowhere)
  first_known y h =
      let among = known_name y xs cs h in
      sym (ap (λ f. f y) (names_joined xs ys cs ds nowhere many) ∙ named_else y ys ds (names_with xs cs nowhere) (first_alone y xs ys distinct among) some)

  -- other names in place of the first, before the second
  pub others_first : (ws : List Name) (es : List Scalar) → AsMany ws es → (y : Name) → is_some (names_with (xs ++ ys) (cs ++ ds) nowhere y) ≡ true →
      names_with (xs ++ ys) (cs ++ ds) nowhere y ≡ names_with xs cs (names_with (ws ++ ys) (es ++ ds) nowhere) y
  others_first ws es more y h = ap (λ f. f y) (names_joined xs ys cs ds nowhere many) ∙ by_test (is_among y xs) refl
    where
      by_test : (b : Bool) → is_among y xs ≡ b → names_with ys ds (names_with xs cs nowhere) y ≡ names_with xs cs (names_with (ws ++ ys) (es ++ ds) nowhere) y
      by_test true e =
          named_else y ys ds (names_with xs cs nowhere) (first_alone y xs ys distinct e) some
          ∙ names_alike y xs cs (names_with (ws ++ ys) (es ++ ds) nowhere) nowhere many (λ n. absurd (true≢false (sym e ∙ n)))
      by_test false e =
          let i = second_then y xs ys (known_name y (xs ++ ys) (cs ++ ds) h) e in
          names_alike y ys ds (names_with ws es nowhere) (names_with xs cs nowhere) some (λ n. absurd (true≢false (sym i ∙ n)))
          ∙ sym (named_else y xs cs (names_with (ws ++ ys) (es ++ ds) nowhere) e many ∙ ap (λ f. f y) (names_joined ws ys es ds nowhere more))

module _ (xs ys : List Name) (distinct : are_distinct (xs ++ ys) ≡ true) (vs us : List Value) (many : AsMany xs vs) (some : AsMany ys us) where
  -- the first names have the values that they have alone
  pub first_values : (y : Name) → is_among y xs ≡ true → bound xs vs no_env y ≡ bound (xs ++ ys) (vs ++ us) no_env y
  first_values y h = sym (ap (λ f. f y) (bound_joined xs ys vs us no_env many) ∙ bound_stays y ys us (bound xs vs no_env) (first_alone y xs ys distinct h))

  -- over other names and the second, or over the second alone
  pub others_values : (ws : List Name) (os : List Value) → AsMany ws os → (y : Name) → is_among y (xs ++ ys) ≡ true →
      bound xs vs (bound (ws ++ ys) (os ++ us) no_env) y ≡ bound xs vs (bound ys us no_env) y
  others_values ws os more y h =
      bound_alike y xs vs (bound ys us no_env) (bound (ws ++ ys) (os ++ us) no_env) many
      (λ n. ap (λ f. f y) (bound_joined ws ys os us no_env more)
      ∙ bound_alike y ys us no_env (bound ws os no_env) some (λ e. absurd (true≢false (sym (second_then y xs ys h n) ∙ e))))
