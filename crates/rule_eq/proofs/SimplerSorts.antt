-- What makes a program simpler keeps what it gives: the left side of bind_ret, assoc, if_const, guard_known or ret_one and its right side
-- give the same scalars.
use Rattle.std.proofs.Common.{◌≡◌, ℕ, zero, suc, length, Bool, true, false, not, cond, ◌&&◌, List, [], ◌∷◌, map, Option, Some, None, refl, sym, ap, ap₂, ◌∙◌, subst}
use Rattle.std.proofs.lemmas.Bool.{and_parts, and_from, or_parts, or_from, not-true, cond-false, eqb-true}
use Rattle.std.proofs.lemmas.Bool.Decides.{Decides-eqb}
use Rattle.c_values.specs.Name.{Name, same_name, with_name, is_among, are_distinct}
use Rattle.c_values.specs.Types.{CType}
use Rattle.c_values.specs.Layout.{Layout}
use Rattle.c_values.proofs.Laid.{same_name-refl}
use Rattle.c_values.proofs.Options.{some_is, none_is}
use Rattle.expression_lang.specs.Expression.{Exp, Var}
use Rattle.expression_lang.specs.Form.{has, is_part_of_value}
use Rattle.expression_lang.specs.Sort.{Scalar, Sort, Of, Kind, is_truth, scalar_sort, sort_of}
use Rattle.expression_lang.specs.Sorted.{names_with, program_sort, scalar_in, with_scalar, scalars_of}
use Rattle.expression_lang.specs.Signature.{Signature}
use Rattle.monad_lang.specs.Program as M
use Rattle.monad_lang.specs.Program.{Mon}
use Rattle.monad_lang.specs.Form.{all_kept}
use Rattle.program_facts.specs.Substituted.{program_substituted}
use Rattle.monad_lang.specs.Sorted.{scalars_given, one_for_each, are_scalars, and_then_scalars, where_fits}
use Rattle.rule_eq.specs.Table.{Taken, before, taken_at, CanStand, with_values}
use Rattle.rule_eq.proofs.Bound.{no_zero, one_less}
use Rattle.rule_eq.proofs.PutIn.{unnamed_apart, kept_names, some_taken}
use Rattle.monad_lang.proofs.AgreeingSorts.{in_scope, sort_agrees}
use Rattle.monad_lang.proofs.Given.{then_parts, fits_parts, given_there}
use Rattle.rule_eq.proofs.GivenAgrees.{names_alike, setting_at, given_agrees}
use Rattle.rule_eq.proofs.GivenSubstituted.{names_stay, names_still, given_substituted}

fewer : (xs : List Name) (ss : List Scalar) (x : Name) (s : Scalar) → one_for_each (x ∷ xs) (s ∷ ss) ≡ true → one_for_each xs ss ≡ true
fewer xs ss x s h = (Decides-eqb (length xs) (length ss)).1 (one_less (length xs) (length ss) (eqb-true (suc (length xs)) (suc (length ss)) h))

more : (xs : List Name) (ss : List Scalar) (x : Name) (s : Scalar) → one_for_each xs ss ≡ true → one_for_each (x ∷ xs) (s ∷ ss) ≡ true
more xs ss x s h = (Decides-eqb (suc (length xs)) (suc (length ss))).1 (ap (λ n. suc n) (eqb-true (length xs) (length ss) h))

just_named : (x : Name) (s : Scalar) (f : Name → Option Scalar) → with_name x (Some s) f x ≡ Some s
just_named x s f = ap (λ b. cond b (Some s) (f x)) (same_name-refl x)

module _ (l : Layout) (gs : Name → Option CType) (sigs : List Signature) (sort_for : Kind → Scalar) where
  abbrev Names : Type 0
  Names = Name → Option Scalar

  abbrev given : Names → Mon → Option (List Scalar)
  given ns m = scalars_given (setting_at l gs sigs sort_for ns) m

  record Parts (ns : Names) (m : Mon) (xs : List Name) (n : Mon) (cs : List Scalar) : Type 0 where
    pub scalars : List Scalar
    pub first : given ns m ≡ Some scalars
    pub one_each : one_for_each xs scalars ≡ true
    pub distinct : are_distinct xs ≡ true
    pub second : given (names_with xs scalars ns) n ≡ Some cs

  parts : (ns : Names) (m : Mon) (xs : List Name) (n : Mon) (cs : List Scalar) → given ns (M.Bind m xs n) ≡ Some cs → Parts ns m xs n cs
  parts ns m xs n cs h =
      let o = then_parts _ _ cs h in
      let f = fits_parts (one_for_each xs o.0 && are_distinct xs) (given (names_with xs o.0 ns) n) cs o.2 in
      let k = and_parts (one_for_each xs o.0) (are_distinct xs) f.0 in
      record { scalars = o.0; first = o.1; one_each = k.0; distinct = k.1; second = f.1 }

  -- and back
  together : (ns : Names) (m : Mon) (xs : List Name) (n : Mon) (ss : List Scalar) (o : Option (List Scalar)) → given ns m ≡ Some ss → one_for_each xs ss ≡ true → are_distinct xs ≡ true → given (names_with xs ss ns) n ≡ o → given ns (M.Bind m xs n) ≡ o
  together ns m xs n ss o h one d k =
      ap (λ q. and_then_scalars q (λ ts. where_fits (one_for_each xs ts && are_distinct xs) (given (names_with xs ts ns) n))) h
      ∙ ap (λ b. where_fits b (given (names_with xs ss ns) n)) (and_from (one_for_each xs ss) (are_distinct xs) one d) ∙ k

  -- names give their own scalars
  own_scalars : (xs : List Name) (ss : List Scalar) (ns : Names) → one_for_each xs ss ≡ true → are_distinct xs ≡ true → scalars_of (in_scope l gs (names_with xs ss ns)) (map (λ x. Var x) xs) ≡ Some ss
  own_scalars [] [] ns h d = refl
  own_scalars (x ∷ xs) (s ∷ ss) ns h d =
      let k = and_parts (not (is_among x xs)) (are_distinct xs) d in
      ap₂ (λ o r. with_scalar (scalar_in (scalar_sort o)) r) (names_stay x xs ss (with_name x (Some s) ns) (not-true (is_among x xs) k.0) ∙ just_named x s ns) (own_scalars xs ss (with_name x (Some s) ns) (fewer xs ss x s h) k.1)
  own_scalars [] (s ∷ ss) ns h d = absurd (no_zero (length ss) (eqb-true 0 (suc (length ss)) h))
  own_scalars (x ∷ xs) [] ns h d = absurd (no_zero (length xs) (sym (eqb-true (suc (length xs)) 0 h)))

  pub given_back_keeps : (ns : Names) (m : Mon) (xs : List Name) (cs : List Scalar) → given ns (M.Bind m xs (M.Ret (map (λ x. Var x) xs))) ≡ Some cs → given ns m ≡ Some cs
  given_back_keeps ns m xs cs h = let k = parts ns m xs (M.Ret (map (λ x. Var x) xs)) cs h in k.first ∙ sym (own_scalars xs k.scalars ns k.one_each k.distinct) ∙ k.second

  pub nothing_keeps : (ns : Names) (m : Mon) (cs : List Scalar) → given ns (M.Bind (M.Ret []) [] m) ≡ Some cs → given ns m ≡ Some cs
  nothing_keeps ns m cs h = (parts ns (M.Ret []) [] m cs h).second

  pub guard_keeps : (ns : Names) (e : Exp) (m : Mon) (cs : List Scalar) → given ns (M.Bind (M.Guard e) [] m) ≡ Some cs → given ns m ≡ Some cs
  guard_keeps ns e m cs h = (parts ns (M.Guard e) [] m cs h).second

  pub choice_keeps : (ns : Names) (e : Exp) (m n : Mon) (cs : List Scalar) → given ns (M.If e m n) ≡ Some cs → (given ns m ≡ Some cs) × (given ns n ≡ Some cs)
  choice_keeps ns e m n cs h =
      let o = then_parts _ _ cs h in
      let f = fits_parts _ _ cs o.2 in
      let k = and_parts (is_truth (program_sort (in_scope l gs ns) e)) (are_scalars o.0 (given ns n)) f.0 in
      let same = some_is f.1 in
      (o.1 ∙ ap (λ ss. Some ss) same, given_there o.0 (given ns n) k.1 ∙ ap (λ ss. Some ss) same)

  pub assoc_keeps : (ns : Names) (a : Mon) (xs : List Name) (b : Mon) (ys : List Name) (c : Mon) (cs : List Scalar) → all_kept xs ys c ≡ true → given ns (M.Bind (M.Bind a xs b) ys c) ≡ Some cs → given ns (M.Bind a xs (M.Bind b ys c)) ≡ Some cs
  assoc_keeps ns a xs b ys c cs kept h =
      let k = parts ns (M.Bind a xs b) ys c cs h in
      let j = parts ns a xs b k.scalars k.first in
      together ns a xs (M.Bind b ys c) j.scalars (Some cs) j.first j.one_each j.distinct
      (together (names_with xs j.scalars ns) b ys c k.scalars (Some cs) j.second k.one_each k.distinct
      (given_agrees l gs sigs sort_for c (names_with ys k.scalars (names_with xs j.scalars ns)) (names_with ys k.scalars ns)
      (λ y f. names_alike y ys k.scalars (names_with xs j.scalars ns) ns k.one_each (λ n. names_stay y xs j.scalars ns (kept_names xs ys c kept y f n))) ∙ k.second))

  -- a value and its name, taken out

  record TakenSorts (ns : Names) (es : List Exp) (xs : List Name) (ss : List Scalar) (k : Taken) : Type 0 where
    pub scalar : Scalar
    pub rest : List Scalar
    pub of_exp : scalar_in (program_sort (in_scope l gs ns) k.exp) ≡ Some scalar
    pub of_rest : scalars_of (in_scope l gs ns) k.exps ≡ Some rest
    pub one_each : one_for_each k.names rest ≡ true
    pub distinct : are_distinct k.names ≡ true
    pub subset : (y : Name) → is_among y xs ≡ false → is_among y k.names ≡ false
    pub others : (f : Names) (y : Name) → same_name k.name y ≡ false → names_with k.names rest f y ≡ names_with xs ss f y
    pub named : (f : Names) → names_with xs ss f k.name ≡ Some scalar

  record First (c : Option Scalar) (o : Option (List Scalar)) (ss : List Scalar) : Type 0 where
    pub head : Scalar
    pub tail : List Scalar
    pub one : c ≡ Some head
    pub rest : o ≡ Some tail
    pub all : head ∷ tail ≡ ss

  first_of : (c : Option Scalar) (o : Option (List Scalar)) (ss : List Scalar) → with_scalar c o ≡ Some ss → First c o ss
  first_of (Some d) (Some ds) ss h = record { head = d; tail = ds; one = refl; rest = refl; all = some_is h }
  first_of (Some d) None ss h = none_is h
  first_of None (Some ds) ss h = none_is h
  first_of None None ss h = none_is h

  from_before : (ns : Names) (e : Exp) (x : Name) (es : List Exp) (xs : List Name) (d : Scalar) (ds : List Scalar) (o : Option Taken) (k : Taken) → scalar_in (program_sort (in_scope l gs ns) e) ≡ Some d → is_among x xs ≡ false →
      before e x o ≡ Some k → ((j : Taken) → o ≡ Some j → TakenSorts ns es xs ds j) → TakenSorts ns (e ∷ es) (x ∷ xs) (d ∷ ds) k
  from_before ns e x es xs d ds None k c away h r = none_is h
  from_before ns e x es xs d ds (Some j) k c away h r =
      let t = r j refl in
      subst (λ m. TakenSorts ns (e ∷ es) (x ∷ xs) (d ∷ ds) m) (some_taken h)
      (record {
        scalar = t.scalar;
        rest = d ∷ t.rest;
        of_exp = t.of_exp;
        of_rest = ap₂ (λ a b. with_scalar a b) c t.of_rest;
        one_each = more j.names t.rest x d t.one_each;
        distinct = and_from (not (is_among x j.names)) (are_distinct j.names) (ap not (t.subset x away)) t.distinct;
        subset = λ y n. let p = or_parts (same_name y x) (is_among y xs) n in or_from (same_name y x) (is_among y j.names) p.0 (t.subset y p.1);
        others = λ f y n. t.others (with_name x (Some d) f) y n;
        named = λ f. t.named (with_name x (Some d) f);
      })

  taken_sorts : (ns : Names) (i : ℕ) (es : List Exp) (xs : List Name) (ss : List Scalar) (k : Taken) → taken_at i es xs ≡ Some k → scalars_of (in_scope l gs ns) es ≡ Some ss → one_for_each xs ss ≡ true → are_distinct xs ≡ true → TakenSorts ns es xs ss k
  taken_sorts ns zero (e ∷ es) (x ∷ xs) ss k h g one d =
      let q = first_of (scalar_in (program_sort (in_scope l gs ns) e)) (scalars_of (in_scope l gs ns) es) ss g in
      let p = and_parts (not (is_among x xs)) (are_distinct xs) d in
      let away = not-true (is_among x xs) p.0 in
      subst (λ ts. TakenSorts ns (e ∷ es) (x ∷ xs) ts k) q.all (subst (λ m. TakenSorts ns (e ∷ es) (x ∷ xs) (q.head ∷ q.tail) m) (some_taken h)
      (record {
        scalar = q.head;
        rest = q.tail;
        of_exp = q.one;
        of_rest = q.rest;
        one_each = fewer xs q.tail x q.head (subst (λ ts. one_for_each (x ∷ xs) ts ≡ true) (sym q.all) one);
        distinct = p.1;
        subset = λ y n. (or_parts (same_name y x) (is_among y xs) n).1;
        others = λ f y n. names_still y xs q.tail f (with_name x (Some q.head) f) (sym (cond-false (same_name x y) (Some q.head) (f y) n));
        named = λ f. names_stay x xs q.tail (with_name x (Some q.head) f) away ∙ just_named x q.head f;
      }))
  taken_sorts ns (suc i) (e ∷ es) (x ∷ xs) ss k h g one d =
      let q = first_of (scalar_in (program_sort (in_scope l gs ns) e)) (scalars_of (in_scope l gs ns) es) ss g in
      let p = and_parts (not (is_among x xs)) (are_distinct xs) d in
      subst (λ ts. TakenSorts ns (e ∷ es) (x ∷ xs) ts k) q.all
      (from_before ns e x es xs q.head q.tail (taken_at i es xs) k q.one (not-true (is_among x xs) p.0) h
      (λ j n. taken_sorts ns i es xs q.tail j n q.rest (fewer xs q.tail x q.head (subst (λ ts. one_for_each (x ∷ xs) ts ≡ true) (sym q.all) one)) p.1))
  taken_sorts ns zero [] xs ss k h g one d = absurd cc
  taken_sorts ns zero (e ∷ es) [] ss k h g one d = absurd cc
  taken_sorts ns (suc i) [] xs ss k h g one d = absurd cc
  taken_sorts ns (suc i) (e ∷ es) [] ss k h g one d = absurd cc

  -- an expression of a program that is a scalar
  of_program : (ns : Names) (e : Exp) (s : Scalar) (b : Bool) → has is_part_of_value e ≡ b → scalar_in (cond b None (sort_of (in_scope l gs ns) e)) ≡ Some s → (sort_of (in_scope l gs ns) e ≡ Some (Of s)) × (has is_part_of_value e ≡ false)
  of_program ns e s true i h = absurd cc
  of_program ns e s false i h = (by_sort (sort_of (in_scope l gs ns) e) h, i)
    where
      by_sort : (o : Option Sort) → scalar_in o ≡ Some s → o ≡ Some (Of s)
      by_sort (Some (Of c)) h = ap (λ d. Some (Of d)) (scalar_is h)
        where
          scalar_is : ◌≡◌ {A = Option Scalar} (Some c) (Some s) → c ≡ s
          scalar_is h = cc
      by_sort _ h = absurd cc

  names_none : (xs : List Name) (ns : Names) → names_with xs [] ns ≡ ns
  names_none [] ns = refl
  names_none (x ∷ xs) ns = refl

  others_given : (ns : Names) (es : List Exp) (xs : List Name) (rest : List Scalar) (m : Mon) (cs : List Scalar) → scalars_of (in_scope l gs ns) es ≡ Some rest → one_for_each xs rest ≡ true → are_distinct xs ≡ true →
      given (names_with xs rest ns) m ≡ Some cs → given ns (with_values es xs m) ≡ Some cs
  others_given ns [] xs rest m cs h one d k = subst (λ f. given f m ≡ Some cs) (names_none xs ns) (subst (λ ts. given (names_with xs ts ns) m ≡ Some cs) (sym (some_is h)) k)
  others_given ns (e ∷ es) xs rest m cs h one d k = together ns (M.Ret (e ∷ es)) xs m rest (Some cs) h one d k

  pub put_keeps : (ns : Names) (i : ℕ) (es : List Exp) (xs : List Name) (m : Mon) (k : Taken) (cs : List Scalar) → taken_at i es xs ≡ Some k → CanStand k m → given ns (M.Bind (M.Ret es) xs m) ≡ Some cs →
      given ns (with_values k.exps k.names (program_substituted k.name k.exp m)) ≡ Some cs
  put_keeps ns i es xs m k cs h can g =
      let j = parts ns (M.Ret es) xs m cs g in
      let t = taken_sorts ns i es xs j.scalars k h j.first j.one_each j.distinct in
      let p = of_program ns k.exp t.scalar (has is_part_of_value k.exp) refl t.of_exp in
      let inner = names_with k.names t.rest ns in
      others_given ns k.exps k.names t.rest (program_substituted k.name k.exp m) cs t.of_rest t.one_each t.distinct
      (given_substituted l gs sigs sort_for k.name k.exp m inner (names_with xs j.scalars ns) (t.others ns)
      (λ n. record {
        sort = sort_agrees l gs inner ns k.exp (λ y q. names_stay y k.names t.rest ns (unnamed_apart k.names k.exp can.others y q)) ∙ p.0 ∙ ap scalar_sort (sym (t.named ns));
        whole = p.1;
      }) can.captured ∙ j.second)
