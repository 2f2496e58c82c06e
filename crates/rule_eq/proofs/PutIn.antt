-- One of the values that are bound to names, and the others; and names that are given back.
use Rattle.std.proofs.Common.{◌≡◌, ℕ, zero, suc, Bool, true, false, not, cond, ◌||◌, List, [], ◌∷◌, map, Option, Some, None, refl, sym, ap, ap₂, ◌∙◌, subst}
use Rattle.std.proofs.lemmas.Bool.{and_parts, not-true, cond-false, true≢false}
use Rattle.c_values.specs.Name.{Name, same_name, with_name, is_among, are_distinct}
use Rattle.c_values.specs.Value.{Value}
use Rattle.c_values.specs.Layout.{Layout}
use Rattle.c_values.proofs.Laid.{name_is, same_name-refl}
use Rattle.expression_lang.specs.Expression.{Exp, Var}
use Rattle.expression_lang.specs.Evaluation.{Env, State, value}
use Rattle.expression_lang.specs.Mentions as X
use Rattle.expression_lang.specs.Signature.{values_of, bound}
use Rattle.expression_lang.proofs.Bound.{bound_stays}
use Rattle.ac_expr.specs.Lasting.{is_unnamed}
use Rattle.monad_lang.specs.Program.{Mon}
use Rattle.monad_lang.specs.Names.{is_free}
use Rattle.monad_lang.specs.Form.{all_kept}
use Rattle.rule_eq.specs.Table.{Taken, before, taken_at}
use Rattle.rule_eq.proofs.Bound.{AsMany, bound_still}

-- what a name that was bound last holds
pub just_bound : (x : Name) (v : Value) (env : Env) → with_name x v env x ≡ v
just_bound x v env = ap (λ b. cond b v (env x)) (same_name-refl x)

-- no name of an expression is among these
pub unnamed_apart : (xs : List Name) (e : Exp) → is_unnamed xs e ≡ true → (y : Name) → X.names y e ≡ true → is_among y xs ≡ false
unnamed_apart [] e h y i = refl
unnamed_apart (x ∷ xs) e h y i =
    let k = and_parts (not (X.names x e)) (is_unnamed xs e) h in
    either (same_name y x) refl (unnamed_apart xs e k.1 y i) k.0
  where
    either : (b : Bool) → same_name y x ≡ b → is_among y xs ≡ false → not (X.names x e) ≡ true → (b || is_among y xs) ≡ false
    either true j n m = absurd (true≢false (sym i ∙ ap (λ z. X.names z e) (name_is y x j) ∙ not-true (X.names x e) m))
    either false j n m = n

pub some_taken : {a b : Taken} → ◌≡◌ {A = Option Taken} (Some a) (Some b) → a ≡ b
some_taken h = cc

module _ (l : Layout) (s : State) (env : Env) where
  abbrev values : List Exp → List Value
  values es = values_of l env s es

  -- the value, and the others with it
  pub record IsTaken (es : List Exp) (xs : List Name) (k : Taken) : Type 0 where
    pub others : (f : Env) (y : Name) → same_name k.name y ≡ false → bound xs (values es) f y ≡ bound k.names (values k.exps) f y
    pub one : are_distinct xs ≡ true → (f : Env) → bound xs (values es) f k.name ≡ value l env s k.exp
    pub among : is_among k.name xs ≡ true

  from_before : (e : Exp) (x : Name) (es : List Exp) (xs : List Name) (o : Option Taken) (k : Taken) → before e x o ≡ Some k → ((j : Taken) → o ≡ Some j → IsTaken es xs j) → IsTaken (e ∷ es) (x ∷ xs) k
  from_before e x es xs None k h r = absurd cc
  from_before e x es xs (Some j) k h r =
      let t = r j refl in
      subst (λ m. IsTaken (e ∷ es) (x ∷ xs) m) (some_taken h)
      (record {
        others = λ f y n. t.others (with_name x (value l env s e) f) y n;
        one = λ d f. t.one (and_parts (not (is_among x xs)) (are_distinct xs) d).1 (with_name x (value l env s e) f);
        among = ap (λ b. same_name j.name x || b) t.among ∙ or_true (same_name j.name x);
      })
    where
      or_true : (b : Bool) → (b || true) ≡ true
      or_true true = refl
      or_true false = refl

  pub is_taken : (i : ℕ) (es : List Exp) (xs : List Name) (k : Taken) → taken_at i es xs ≡ Some k → IsTaken es xs k
  is_taken zero (e ∷ es) (x ∷ xs) k h =
      subst (λ m. IsTaken (e ∷ es) (x ∷ xs) m) (some_taken h)
      (record {
        others = λ f y n. bound_still y xs (values es) f (with_name x (value l env s e) f) (cond-false (same_name x y) (value l env s e) (f y) n);
        one = λ d f. bound_stays x xs (values es) (with_name x (value l env s e) f) (not-true (is_among x xs) (and_parts (not (is_among x xs)) (are_distinct xs) d).0) ∙ just_bound x (value l env s e) f;
        among = ap (λ b. b || is_among x xs) (same_name-refl x);
      })
  is_taken (suc i) (e ∷ es) (x ∷ xs) k h = from_before e x es xs (taken_at i es xs) k h (λ j n. is_taken i es xs j n)
  is_taken zero [] xs k h = absurd cc
  is_taken zero (e ∷ es) [] k h = absurd cc
  is_taken (suc i) [] xs k h = absurd cc
  is_taken (suc i) (e ∷ es) [] k h = absurd cc

pub bound_none : (xs : List Name) (env : Env) → bound xs [] env ≡ env
bound_none [] env = refl
bound_none (x ∷ xs) env = refl

-- what names give back that were bound
pub given_back : (l : Layout) (s : State) (xs : List Name) (us : List Value) (env : Env) → are_distinct xs ≡ true → AsMany xs us → values_of l (bound xs us env) s (map (λ x. Var x) xs) ≡ us
given_back l s [] [] env d k = refl
given_back l s (x ∷ xs) (u ∷ us) env d k =
    let o = and_parts (not (is_among x xs)) (are_distinct xs) d in
    ap₂ (λ v vs. v ∷ vs) (bound_stays x xs us (with_name x u env) (not-true (is_among x xs) o.0) ∙ just_bound x u env) (given_back l s xs us (with_name x u env) o.1 k)
given_back l s [] (u ∷ us) env d k = absurd k
given_back l s (x ∷ xs) [] env d k = absurd k

-- the names of the inner program that are free behind it are bound again
pub kept_names : (xs ys : List Name) (c : Mon) → all_kept xs ys c ≡ true → (y : Name) → is_free y c ≡ true → is_among y ys ≡ false → is_among y xs ≡ false
kept_names [] ys c h y f n = refl
kept_names (x ∷ xs) ys c h y f n =
    let k = and_parts (not (is_free x c) || is_among x ys) (all_kept xs ys c) h in either (same_name y x) refl k.0 (kept_names xs ys c k.1 y f n)
  where
    either : (b : Bool) → same_name y x ≡ b → (not (is_free x c) || is_among x ys) ≡ true → is_among y xs ≡ false → (b || is_among y xs) ≡ false
    either true e i m = absurd (none (is_free x c) (is_among x ys) i (sym (ap (λ z. is_free z c) (name_is y x e)) ∙ f) (sym (ap (λ z. is_among z ys) (name_is y x e)) ∙ n))
      where
        none : (a b : Bool) → (not a || b) ≡ true → a ≡ true → b ≡ false → ⊥
        none true true i j k = true≢false k
        none true false i j k = absurd (true≢false (sym i))
        none false b i j k = true≢false (sym j)
    either false e i m = m
