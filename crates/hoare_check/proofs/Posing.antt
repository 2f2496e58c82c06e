-- The parts of what is posed to the checker of derivations are posed to it, and the names in scope there.
use Rattle.std.proofs.Common.{◌≡◌, ℕ, suc, length, Bool, true, false, not, cond, ◌&&◌, ◌||◌, List, [], ◌∷◌, Option, Some, None, unwrap_or, refl, sym, ap, ap₂, ◌∙◌, subst, arith}
use Rattle.std.proofs.lemmas.Bool.{and_parts, or_parts, or_from, eqb-true, false≢true, cond-false}
use Rattle.c_values.specs.Name.{Name, same_name, with_name, is_among, are_distinct}
use Rattle.c_values.proofs.Laid.{name_is, other_name}
use Rattle.c_values.proofs.Options.{some_is}
use Rattle.expression_lang.specs.Expression.{Exp}
use Rattle.expression_lang.specs.Mentions.{names}
use Rattle.expression_lang.specs.Form.{has, is_part_of_value}
use Rattle.expression_lang.specs.Sort.{Scalar, Sort, sort_of, is_truth}
use Rattle.expression_lang.specs.Sorted.{names_with, program_sort}
use Rattle.monad_lang.specs.Program as M
use Rattle.monad_lang.specs.Program.{Mon, Start}
use Rattle.monad_lang.specs.Run.{start_names}
use Rattle.monad_lang.specs.Sorted.{Setting, setting_with, scalars_given, start_scalars, are_scalars, one_for_each, where_fits}
use Rattle.monad_lang.proofs.Given.{then_parts, given_there, fits_parts}
use Rattle.monad_lang.proofs.AgreeingSorts.{sort_agrees}
use Rattle.monad_sorts.specs.CodeInside.{no_names}
use Rattle.monad_sorts.specs.CodeTold.{starts_told, values_told, names_after}
use Rattle.monad_sorts.proofs.ToldSorts.{starts_are}
use Rattle.monad_sorts.proofs.ValuesTold.{names_length, somes_length, setting_is, values_are}
use Rattle.triple_lang.specs.Deriv.{Ground, Names}
use Rattle.hoare_check.specs.DeriveTable.{setting, scope, Asserts, behind, within, are_free_for}
use Rattle.hoare_check.specs.CodePosed.{IsPosed}
use Rattle.entailment.proofs.Sorts.{assertion_sorted}

given_is : (o : Option (List Scalar)) (ss : List Scalar) → o ≡ Some ss → unwrap_or o [] ≡ ss
given_is o ss h = ap (λ p. unwrap_or p []) h

-- names that are bound

either_way : {A : Type 0} (x y : Name) (v : A) (f g : Name → A) → (same_name y x ≡ false → f y ≡ g y) → (b : Bool) → same_name x y ≡ b →
    cond b v (f y) ≡ cond b v (g y)
either_way x y v f g h true e = refl
either_way x y v f g h false e = h (other_name x y e)

one_less : (n k : ℕ) → suc n ≡ suc k → n ≡ k
one_less n k h = omega arith

-- one of the names, or a name that is the same before
names_alike : (y : Name) (xs : List Name) (ss : List Scalar) (f g : Names) → length xs ≡ length ss → (is_among y xs ≡ false → f y ≡ g y) →
    names_with xs ss f y ≡ names_with xs ss g y
names_alike y [] ss f g k h = h refl
names_alike y (x ∷ xs) [] f g k h = absurd cc
names_alike y (x ∷ xs) (s ∷ ss) f g k h =
    names_alike y xs ss (with_name x (Some s) f) (with_name x (Some s) g) (one_less (length xs) (length ss) k)
    (λ n. either_way x y (Some s) f g (λ e. h (or_from (same_name y x) (is_among y xs) e n)) (same_name x y) refl)

names_stay : (y : Name) (xs : List Name) (ss : List Scalar) (f : Names) → is_among y xs ≡ false → names_with xs ss f y ≡ f y
names_stay y [] ss f h = refl
names_stay y (x ∷ xs) [] f h = refl
names_stay y (x ∷ xs) (s ∷ ss) f h =
    let d = or_parts (same_name y x) (is_among y xs) h in
    names_stay y xs ss (with_name x (Some s) f) d.1 ∙ cond-false (same_name x y) (Some s) (f y) (other_name y x d.0)

free_among : (y : Name) (ys xs : List Name) (q : Exp) → are_free_for ys xs q ≡ true → is_among y xs ≡ false → names y q ≡ true →
    is_among y ys ≡ false
free_among y [] xs q h n i = refl
free_among y (z ∷ ys) xs q h n i =
    let p = and_parts (is_among z xs || not (names z q)) (are_free_for ys xs q) h in
    or_from (same_name y z) (is_among y ys) (apart (same_name y z) refl p.0) (free_among y ys xs q p.1 n i)
  where
    apart : (b : Bool) → same_name y z ≡ b → (is_among z xs || not (names z q)) ≡ true → b ≡ false
    apart false e k = refl
    apart true e k =
        let same : y ≡ z = name_is y z e in
        let m : is_among z xs ≡ false = subst (λ x. is_among x xs ≡ false) same n in
        let j : names z q ≡ true = subst (λ x. names x q ≡ true) same i in
        absurd (false≢true (sym (ap₂ (λ b c. b || not c) m j) ∙ k))

-- a truth value of a program is one
plain_truth : (b : Bool) (o : Option Sort) → is_truth (cond b None o) ≡ true → is_truth o ≡ true
plain_truth true o h = absurd (false≢true h)
plain_truth false o h = h

module _ (k : Ground) (ns : Names) where
  abbrev here : Setting
  here = setting k ns

  -- names in scope behind a program

  pub behind_is : (m : Mon) (xs : List Name) (ss : List Scalar) → scalars_given here m ≡ Some ss → behind k m xs ns ≡ names_with xs ss ns
  behind_is m xs ss h = ap (λ ts. names_with xs ts ns) (given_is (scalars_given here m) ss h)

  pub truth_behind : (m : Mon) (xs : List Name) (q : Exp) → IsPosed k ns m xs q → is_truth (sort_of (scope k (behind k m xs ns)) q) ≡ true
  truth_behind m xs q p = subst (λ (ms : Names). is_truth (sort_of (scope k ms) q) ≡ true) (sym (behind_is m xs p.given p.sorted)) p.truth

  -- of one program after another

  record BindParts (m : Mon) (ys : List Name) (n : Mon) (cs : List Scalar) : Type 0 where
    pub first : List Scalar
    pub sorted : scalars_given here m ≡ Some first
    pub many : length ys ≡ length first
    pub rest : scalars_given (setting_with ys first here) n ≡ Some cs

  bind_parts : (m : Mon) (ys : List Name) (n : Mon) (cs : List Scalar) → scalars_given here (M.Bind m ys n) ≡ Some cs → BindParts m ys n cs
  bind_parts m ys n cs h =
      let o = then_parts (scalars_given here m) (λ ss. where_fits (one_for_each ys ss && are_distinct ys) (scalars_given (setting_with ys ss here) n)) cs h in
      let f = fits_parts (one_for_each ys o.0 && are_distinct ys) (scalars_given (setting_with ys o.0 here) n) cs o.2 in
      record {
        first = o.0;
        sorted = o.1;
        many = eqb-true (length ys) (length o.0) (and_parts (one_for_each ys o.0) (are_distinct ys) f.0).0;
        rest = f.1;
      }

  module _ (m : Mon) (ys : List Name) (n : Mon) (xs : List Name) (q : Exp) (posed : IsPosed k ns (M.Bind m ys n) xs q) where
    parts : BindParts m ys n posed.given
    parts = bind_parts m ys n posed.given posed.sorted

    pub bind_first : (e : Exp) → Asserts k (behind k m ys ns) e → IsPosed k ns m ys e
    bind_first e h =
        let truth = assertion_sorted (scope k (behind k m ys ns)) k.lifted e h in
        record {
          given = parts.first;
          sorted = parts.sorted;
          many = parts.many;
          truth = subst (λ (ms : Names). is_truth (sort_of (scope k ms) e) ≡ true) (behind_is m ys parts.first parts.sorted) truth;
        }

    bind_agrees : are_free_for ys xs q ≡ true → (y : Name) → names y q ≡ true →
        names_with xs posed.given ns y ≡ names_with xs posed.given (names_with ys parts.first ns) y
    bind_agrees free y i =
        names_alike y xs posed.given ns (names_with ys parts.first ns) posed.many
        (λ n. sym (names_stay y ys parts.first ns (free_among y ys xs q free n i)))

    bind_rest : are_free_for ys xs q ≡ true → IsPosed k (names_with ys parts.first ns) n xs q
    bind_rest free =
        let same = sort_agrees here.scope.layout here.scope.globals (names_with xs posed.given ns)
        (names_with xs posed.given (names_with ys parts.first ns)) q (bind_agrees free) in
        record { given = posed.given; sorted = parts.rest; many = posed.many; truth = sym (ap is_truth same) ∙ posed.truth }

    pub bind_last : are_free_for ys xs q ≡ true → IsPosed k (behind k m ys ns) n xs q
    bind_last free = subst (λ (ms : Names). IsPosed k ms n xs q) (sym (behind_is m ys parts.first parts.sorted)) (bind_rest free)

    pub bind_names : names_after (setting k no_names) 1 ns (M.Bind m ys n) ≡ behind k m ys ns
    bind_names =
        ap (λ (t : Setting). t.scope.names) (setting_is here ys (values_told here m) parts.first (values_are m here parts.first parts.sorted) parts.many)
        ∙ sym (behind_is m ys parts.first parts.sorted)

  -- of a guard, and of a choice

  pub guard_posed : (e : Exp) (xs : List Name) (q : Exp) → IsPosed k ns (M.Guard e) xs q →
      (is_truth (sort_of (scope k ns) e) ≡ true) × (is_truth (sort_of (scope k ns) q) ≡ true)
  guard_posed e xs q p =
      let f = fits_parts (is_truth (program_sort here.scope e)) (Some []) p.given p.sorted in (
        plain_truth (has is_part_of_value e) (sort_of here.scope e) f.0,
        subst (λ (ms : Names). is_truth (sort_of (scope k ms) q) ≡ true) (none_bound xs p.given (sym (some_is f.1))) p.truth,
      )
    where
      none_bound : (xs : List Name) (ss : List Scalar) → ss ≡ [] → names_with xs ss ns ≡ ns
      none_bound [] ss h = refl
      none_bound (x ∷ xs) ss h = ap (λ ts. names_with (x ∷ xs) ts ns) h

  pub choice_posed : (e : Exp) (m n : Mon) (xs : List Name) (q : Exp) → IsPosed k ns (M.If e m n) xs q → IsPosed k ns m xs q × IsPosed k ns n xs q
  choice_posed e m n xs q p =
      let o = then_parts (scalars_given here m)
      (λ ss. where_fits (is_truth (program_sort here.scope e) && are_scalars ss (scalars_given here n)) (Some ss)) p.given p.sorted in
      let f = fits_parts (is_truth (program_sort here.scope e) && are_scalars o.0 (scalars_given here n)) (Some o.0) p.given o.2 in
      let both = and_parts (is_truth (program_sort here.scope e)) (are_scalars o.0 (scalars_given here n)) f.0 in
      let same : o.0 ≡ p.given = some_is f.1 in (
        record { given = p.given; sorted = o.1 ∙ f.1; many = p.many; truth = p.truth },
        record { given = p.given; sorted = given_there o.0 (scalars_given here n) both.1 ∙ f.1; many = p.many; truth = p.truth },
      )

  -- of a loop

  module _ (starts : List Start) (guard test : Exp) (m : Mon) (xs : List Name) (q : Exp) (posed : IsPosed k ns (M.Loop starts guard test m) xs q) where
    abbrev names_there : List Name
    names_there = start_names starts

    record TurnParts (ss : List Scalar) : Type 0 where
      pub begin : start_scalars here.scope starts ≡ Some ss
      pub guard_sorted : is_truth (program_sort (setting_with names_there ss here).scope guard) ≡ true
      pub body : scalars_given (setting_with names_there ss here) m ≡ Some ss
      pub many : length names_there ≡ length ss

    turn_parts : TurnParts posed.given
    turn_parts =
        let o = then_parts (start_scalars here.scope starts) (λ ss.
        let inner = setting_with names_there ss here in
        where_fits (are_distinct names_there && is_truth (program_sort inner.scope guard)
        && is_truth (program_sort inner.scope test) && are_scalars ss (scalars_given inner m)) (Some ss)) posed.given posed.sorted in
        let inner = setting_with names_there o.0 here in
        let before = are_distinct names_there && is_truth (program_sort inner.scope guard) in
        let tests = before && is_truth (program_sort inner.scope test) in
        let body = are_scalars o.0 (scalars_given inner m) in
        let f = fits_parts (tests && body) (Some o.0) posed.given o.2 in
        let p = and_parts tests body f.0 in
        let b = and_parts before (is_truth (program_sort inner.scope test)) p.0 in
        let r = and_parts (are_distinct names_there) (is_truth (program_sort inner.scope guard)) b.0 in
        let are = starts_are here.scope starts o.0 o.1 in
        subst (λ ss. TurnParts ss) (some_is f.1) (record {
          begin = o.1;
          guard_sorted = r.1;
          body = given_there o.0 (scalars_given inner m) p.1;
          many = names_length here.scope starts ∙ ap length are ∙ somes_length o.0;
        })

    within_is : within k starts ns ≡ names_with names_there posed.given ns
    within_is = ap (λ ts. names_with names_there ts ns) (given_is (start_scalars here.scope starts) posed.given turn_parts.begin)

    pub turn_guard : is_truth (sort_of (scope k (within k starts ns)) guard) ≡ true
    turn_guard =
        let g = (setting_with names_there posed.given here).scope in
        subst (λ (ms : Names). is_truth (sort_of (scope k ms) guard) ≡ true) (sym within_is)
        (plain_truth (has is_part_of_value guard) (sort_of g guard) turn_parts.guard_sorted)

    pub turn_posed : (inv : Exp) → Asserts k (within k starts ns) inv → IsPosed k (within k starts ns) m names_there inv
    turn_posed inv h =
        let truth = assertion_sorted (scope k (within k starts ns)) k.lifted inv h in
        let there : Names = names_with names_there posed.given ns in
        let body = turn_parts.body in
        subst (λ (ms : Names). IsPosed k ms m names_there inv) (sym within_is) (record {
          given = posed.given;
          sorted = body;
          many = turn_parts.many;
          truth = again_truth inv (subst (λ (ms : Names). is_truth (sort_of (scope k ms) inv) ≡ true) within_is truth);
        })
      where
        again_truth : (inv : Exp) → is_truth (sort_of (scope k (names_with names_there posed.given ns)) inv) ≡ true →
            is_truth (sort_of (scope k (names_with names_there posed.given (names_with names_there posed.given ns))) inv) ≡ true
        again_truth inv t =
            let there : Names = names_with names_there posed.given ns in
            let same = sort_agrees here.scope.layout here.scope.globals there (names_with names_there posed.given there) inv
            (λ y i. twice y) in
            sym (ap is_truth same) ∙ t
          where
            twice : (y : Name) → names_with names_there posed.given ns y ≡ names_with names_there posed.given (names_with names_there posed.given ns) y
            twice y = names_alike y names_there posed.given ns (names_with names_there posed.given ns) turn_parts.many
                (λ n. sym (names_stay y names_there posed.given ns n))

    pub turn_names : names_after (setting k no_names) 1 ns (M.Loop starts guard test m) ≡ within k starts ns
    turn_names =
        let are = starts_are here.scope starts posed.given turn_parts.begin in
        ap (λ (t : Setting). t.scope.names) (setting_is here names_there (starts_told here.scope starts) posed.given are turn_parts.many) ∙ sym within_is
