-- Locals as a list have the values that they have under their names.
use Rattle.std.proofs.Common.{◌≡◌, suc, Bool, true, false, not, cond, ◌&&◌, ◌||◌, List, [], ◌∷◌, length, map, Option, Some, None, refl, sym, ap, ap₂, ◌∙◌, subst}
use Rattle.std.proofs.lemmas.Nat.{pow_pos}
use Rattle.std.proofs.Math.Path.{fun_ext}
use Rattle.std.proofs.lemmas.Bool.{and_parts, or_parts, false≢true, not-true, cond-true, cond-false}
use Rattle.c_values.specs.Name.{Name, same_name, with_name, is_among, are_distinct}
use Rattle.c_values.specs.Value.{Value}
use Rattle.c_values.proofs.Laid.{name_is, other_name, same_name-refl}
use Rattle.expression_lang.specs.Sort.{Scalar, Kind, WordKind, NatKind, IntKind, BoolKind, word_sort_of}
use Rattle.expression_lang.specs.Evaluation.{Env}
use Rattle.expression_lang.specs.States.{IsOfSort}
use Rattle.expression_lang.specs.View.{zero_word_at}
use Rattle.expression_lang.specs.Signature.{Binder, names_of, kinds_of, bound, no_env}
use Rattle.expression_lang.specs.Sorted.{names_with}
use Rattle.simpl_lang.specs.Command.{kind_of}
use Rattle.simpl_lang.specs.Exec.{zero_locals}
use Rattle.simpl_lang.specs.Sorted.{same_kind, come_first}
use Rattle.global_changes.proofs.Changed.{by_test}
use Rattle.simpl_lang.proofs.SameKinds.{same_kind_is}
use Rattle.command_runs.specs.Locals.{Table, names_in, env_from, put_in, started, AreOfSorts, AreLocals}

cond_swap : (a b : Bool) (v w : Value) (r : Value) → ((a ≡ true) → b ≡ false) → cond a v (cond b w r) ≡ cond b w (cond a v r)
cond_swap true true v w r h = absurd (false≢true (sym (h refl)))
cond_swap false true v w r h = refl
cond_swap _ _ _ _ _ _ = refl

cond_twice : (a : Bool) (v w r : Value) → cond a v (cond a w r) ≡ cond a v r
cond_twice true v w r = refl
cond_twice false v w r = refl

swapped : (x y : Name) (v w : Value) (env : Env) → same_name x y ≡ false → with_name x v (with_name y w env) ≡ with_name y w (with_name x v env)
swapped x y v w env h =
    fun_ext (λ z. cond_swap (same_name x z) (same_name y z) v w (env z) (λ e. other_name z y (subst (λ n. same_name n y ≡ false) (name_is x z e) h)))

again : (x : Name) (v w : Value) (env : Env) → with_name x v (with_name x w env) ≡ with_name x v env
again x v w env = fun_ext (λ z. cond_twice (same_name x z) v w (env z))

pub through : (x : Name) (v : Value) (ps : Table) (env : Env) → is_among x (names_in ps) ≡ false → with_name x v (env_from ps env) ≡ env_from ps (with_name x v env)
through x v [] env h = refl
through x v (p ∷ ps) env h =
    let q = or_parts (same_name x p.0) (is_among x (names_in ps)) h in
    through x v ps (with_name p.0 p.1 env) q.1 ∙ ap (env_from ps) (swapped x p.0 v p.1 env q.0)

-- a local takes a value

other_among : (x y : Name) (xs : List Name) → same_name x y ≡ false → is_among x (y ∷ xs) ≡ true → is_among x xs ≡ true
other_among x y xs h k = or_left (same_name x y) (is_among x xs) h k
  where
    or_left : (a b : Bool) → a ≡ false → (a || b) ≡ true → b ≡ true
    or_left true b e f = absurd (false≢true (sym e))
    or_left false b e f = f

pub put_env : (x : Name) (v : Value) (ps : Table) (env : Env) → are_distinct (names_in ps) ≡ true → is_among x (names_in ps) ≡ true → env_from (put_in x v ps) env ≡ with_name x v (env_from ps env)
put_env x v [] env h k = absurd (false≢true k)
put_env x v (p ∷ ps) env h k =
    let q = and_parts (not (is_among p.0 (names_in ps))) (are_distinct (names_in ps)) h in
    by_test (same_name p.0 x)
    (λ e.
    let same : p.0 ≡ x = name_is p.0 x e in
    let fresh : is_among x (names_in ps) ≡ false = subst (λ n. is_among n (names_in ps) ≡ false) same (not-true (is_among p.0 (names_in ps)) q.0) in
    ap (λ t. env_from t env) (cond-true (same_name p.0 x) ((p.0, v) ∷ ps) (p ∷ put_in x v ps) e)
    ∙ ap (λ n. env_from ps (with_name n v env)) same
    ∙ ap (env_from ps) (sym (again x v p.1 env))
    ∙ sym (through x v ps (with_name x p.1 env) fresh)
    ∙ ap (λ n. with_name x v (env_from ps (with_name n p.1 env))) (sym same))
    (λ e.
    ap (λ t. env_from t env) (cond-false (same_name p.0 x) ((p.0, v) ∷ ps) (p ∷ put_in x v ps) e)
    ∙ put_env x v ps (with_name p.0 p.1 env) q.1 (other_among x p.0 (names_in ps) (other_name p.0 x e) k))

some_is : {A : Type 0} {a b : A} → Some a ≡ Some b → a ≡ b
some_is h = cc

pub put_locals : (x : Name) (v : Value) (k : Kind) (bs : List Binder) (ps : Table) → AreLocals bs ps → kind_of bs x ≡ Some k → IsOfSort (word_sort_of k) v → AreLocals bs (put_in x v ps)
put_locals x v k [] [] h e o = tt
put_locals x v k [] (p ∷ ps) h e o = absurd h
put_locals x v k (b ∷ bs) [] h e o = absurd h
put_locals x v k (b ∷ bs) (p ∷ ps) h e o =
    by_test (same_name p.0 x)
    (λ t.
    let same : same_name b.name x ≡ true = subst (λ n. same_name n x ≡ true) h.0 t in
    let kind : b.kind ≡ k = some_is (sym (cond-true (same_name b.name x) (Some b.kind) (kind_of bs x) same) ∙ e) in
    subst (λ q. AreLocals (b ∷ bs) q) (sym (cond-true (same_name p.0 x) ((p.0, v) ∷ ps) (p ∷ put_in x v ps) t))
    (h.0, subst (λ j. IsOfSort (word_sort_of j) v) (sym kind) o, h.2))
    (λ t.
    let other : same_name b.name x ≡ false = subst (λ n. same_name n x ≡ false) h.0 t in
    subst (λ q. AreLocals (b ∷ bs) q) (sym (cond-false (same_name p.0 x) ((p.0, v) ∷ ps) (p ∷ put_in x v ps) t))
    (h.0, h.1, put_locals x v k bs ps h.2 (sym (cond-false (same_name b.name x) (Some b.kind) (kind_of bs x) other) ∙ e) o))

pub locals_names : (bs : List Binder) (ps : Table) → AreLocals bs ps → names_in ps ≡ names_of bs
locals_names [] [] h = refl
locals_names [] (p ∷ ps) h = absurd h
locals_names (b ∷ bs) [] h = absurd h
locals_names (b ∷ bs) (p ∷ ps) h = ap₂ (λ n ns. n ∷ ns) h.0 (locals_names bs ps h.2)

-- what is in scope

either_of : (b : Bool) (d : Scalar) (o : Option Scalar) (v w : Value) (c : Scalar) → IsOfSort d v → (o ≡ Some c → IsOfSort c w) → cond b (Some d) o ≡ Some c → IsOfSort c (cond b v w)
either_of true d o v w c h k e = subst (λ t. IsOfSort t v) (some_is e) h
either_of false d o v w c h k e = k e

abbrev pub scalars_among : List Binder → (Name → Option Scalar) → Name → Option Scalar
scalars_among bs names = names_with (names_of bs) (map word_sort_of (kinds_of bs)) names

pub locals_sorted : (bs : List Binder) (ps : Table) (names : Name → Option Scalar) (env : Env) → AreLocals bs ps → ((x : Name) (c : Scalar) → names x ≡ Some c → IsOfSort c (env x)) →
    (x : Name) (c : Scalar) → scalars_among bs names x ≡ Some c → IsOfSort c (env_from ps env x)
locals_sorted [] [] names env h k x c e = k x c e
locals_sorted [] (p ∷ ps) names env h k x c e = absurd h
locals_sorted (b ∷ bs) [] names env h k x c e = absurd h
locals_sorted (b ∷ bs) (p ∷ ps) names env h k x c e =
    locals_sorted bs ps (with_name b.name (Some (word_sort_of b.kind)) names) (with_name p.0 p.1 env) h.2
    (λ y d. subst (λ n. with_name b.name (Some (word_sort_of b.kind)) names y ≡ Some d → IsOfSort d (with_name n p.1 env y)) (sym h.0)
    (either_of (same_name b.name y) (word_sort_of b.kind) (names y) p.1 (env y) d h.1 (k y d)))
    x c e

pub not_among : (bs : List Binder) (names : Name → Option Scalar) (x : Name) → is_among x (names_of bs) ≡ false → scalars_among bs names x ≡ names x
not_among [] names x h = refl
not_among (b ∷ bs) names x h =
    let q = or_parts (same_name x b.name) (is_among x (names_of bs)) h in
    not_among bs (with_name b.name (Some (word_sort_of b.kind)) names) x q.1 ∙ cond-false (same_name b.name x) (Some (word_sort_of b.kind)) (names x) (other_name x b.name q.0)

-- a name in scope is one of the locals, and has a kind of this sort

pub scalar_kind : (bs : List Binder) (names : Name → Option Scalar) (x : Name) (c : Scalar) → are_distinct (names_of bs) ≡ true → names x ≡ None → scalars_among bs names x ≡ Some c →
    (k : Kind) × (kind_of bs x ≡ Some k) × (word_sort_of k ≡ c) × (is_among x (names_of bs) ≡ true)
scalar_kind [] names x c d h e = absurd cc
scalar_kind (b ∷ bs) names x c d h e =
    let q = and_parts (not (is_among b.name (names_of bs))) (are_distinct (names_of bs)) d in
    by_test (same_name b.name x)
    (λ t.
    let same : b.name ≡ x = name_is b.name x t in
    let fresh : is_among x (names_of bs) ≡ false = subst (λ n. is_among n (names_of bs) ≡ false) same (not-true (is_among b.name (names_of bs)) q.0) in
    let here : Some (word_sort_of b.kind) ≡ Some c =
    sym (cond-true (same_name b.name x) (Some (word_sort_of b.kind)) (names x) t) ∙ sym (not_among bs (with_name b.name (Some (word_sort_of b.kind)) names) x fresh) ∙ e in (
      b.kind,
      cond-true (same_name b.name x) (Some b.kind) (kind_of bs x) t,
      some_is here,
      subst (λ n. is_among x (n ∷ names_of bs) ≡ true) (sym same) (or_true (same_name x x) (is_among x (names_of bs)) (same_name-refl x)),
    ))
    (λ t.
    let r = scalar_kind bs (with_name b.name (Some (word_sort_of b.kind)) names) x c q.1 (cond-false (same_name b.name x) (Some (word_sort_of b.kind)) (names x) t ∙ h) e in
    (r.0, cond-false (same_name b.name x) (Some b.kind) (kind_of bs x) t ∙ r.1, r.2, or_also (same_name x b.name) (is_among x (names_of bs)) r.3))
  where
    or_true : (a b : Bool) → a ≡ true → (a || b) ≡ true
    or_true true b e = refl
    or_true false b e = absurd (false≢true e)

    or_also : (a b : Bool) → b ≡ true → (a || b) ≡ true
    or_also true b e = refl
    or_also false b e = e

pub kind_scalar : (bs : List Binder) (names : Name → Option Scalar) (x : Name) (k : Kind) → are_distinct (names_of bs) ≡ true → kind_of bs x ≡ Some k → scalars_among bs names x ≡ Some (word_sort_of k)
kind_scalar [] names x k d e = absurd cc
kind_scalar (b ∷ bs) names x k d e =
    let q = and_parts (not (is_among b.name (names_of bs))) (are_distinct (names_of bs)) d in
    let more = with_name b.name (Some (word_sort_of b.kind)) names in
    by_test (same_name b.name x)
    (λ t.
    let same : b.name ≡ x = name_is b.name x t in
    let fresh : is_among x (names_of bs) ≡ false = subst (λ n. is_among n (names_of bs) ≡ false) same (not-true (is_among b.name (names_of bs)) q.0) in
    let kind : b.kind ≡ k = some_is (sym (cond-true (same_name b.name x) (Some b.kind) (kind_of bs x) t) ∙ e) in
    not_among bs more x fresh ∙ cond-true (same_name b.name x) (Some (word_sort_of b.kind)) (names x) t ∙ ap (λ j. Some (word_sort_of j)) kind)
    (λ t. kind_scalar bs more x k q.1 (sym (cond-false (same_name b.name x) (Some b.kind) (kind_of bs x) t) ∙ e))

-- where a body begins

abbrev with_zeros : List Binder → Env → Env
with_zeros [] env = env
with_zeros (b ∷ bs) env = with_name b.name (zero_word_at b.kind) (with_zeros bs env)

zeros_through : (x : Name) (v : Value) (bs : List Binder) (env : Env) → is_among x (names_of bs) ≡ false → with_name x v (with_zeros bs env) ≡ with_zeros bs (with_name x v env)
zeros_through x v [] env h = refl
zeros_through x v (b ∷ bs) env h =
    let q = or_parts (same_name x b.name) (is_among x (names_of bs)) h in
    swapped x b.name v (zero_word_at b.kind) (with_zeros bs env) q.0 ∙ ap (with_name b.name (zero_word_at b.kind)) (zeros_through x v bs env q.1)

zeros_are : (bs : List Binder) → zero_locals bs ≡ with_zeros bs no_env
zeros_are [] = refl
zeros_are (b ∷ bs) = ap (with_name b.name (zero_word_at b.kind)) (zeros_are bs)

zeros_started : (bs : List Binder) (env : Env) → are_distinct (names_of bs) ≡ true → env_from (started bs []) env ≡ with_zeros bs env
zeros_started [] env h = refl
zeros_started (b ∷ bs) env h =
    let q = and_parts (not (is_among b.name (names_of bs))) (are_distinct (names_of bs)) h in
    zeros_started bs (with_name b.name (zero_word_at b.kind) env) q.1
    ∙ sym (zeros_through b.name (zero_word_at b.kind) bs env (not-true (is_among b.name (names_of bs)) q.0))

started_from : (ps bs : List Binder) (vs : List Value) (env : Env) → come_first ps bs ≡ true → length vs ≡ length ps → are_distinct (names_of bs) ≡ true →
    env_from (started bs vs) env ≡ bound (names_of ps) vs (with_zeros bs env)
started_from [] bs [] env c n d = zeros_started bs env d
started_from [] bs (v ∷ vs) env c n d = absurd cc
started_from (p ∷ ps) [] vs env c n d = absurd (false≢true c)
started_from (p ∷ ps) (b ∷ bs) [] env c n d = absurd cc
started_from (p ∷ ps) (b ∷ bs) (v ∷ vs) env c n d =
    let r = and_parts3 (same_name p.name b.name) (same_kind p.kind b.kind) (come_first ps bs) c in
    let q = and_parts (not (is_among b.name (names_of bs))) (are_distinct (names_of bs)) d in
    let same : p.name ≡ b.name = name_is p.name b.name r.0 in
    let shorter : length vs ≡ length ps = cc in
    started_from ps bs vs (with_name b.name v env) r.1 shorter q.1
    ∙ ap (bound (names_of ps) vs)
    (sym (zeros_through b.name v bs env (not-true (is_among b.name (names_of bs)) q.0))
    ∙ sym (again b.name v (zero_word_at b.kind) (with_zeros bs env))
    ∙ ap (λ n. with_name n v (with_name b.name (zero_word_at b.kind) (with_zeros bs env))) (sym same))
  where
    and_parts3 : (a b c : Bool) → ((a && b) && c) ≡ true → (a ≡ true) × (c ≡ true)
    and_parts3 a b c h = let p = and_parts (a && b) c h in ((and_parts a b p.0).0, p.1)

pub started_env : (ps bs : List Binder) (vs : List Value) → come_first ps bs ≡ true → length vs ≡ length ps → are_distinct (names_of bs) ≡ true →
    env_from (started bs vs) no_env ≡ bound (names_of ps) vs (zero_locals bs)
started_env ps bs vs c n d = started_from ps bs vs no_env c n d ∙ ap (bound (names_of ps) vs) (sym (zeros_are bs))

zero_sorted : (k : Kind) → IsOfSort (word_sort_of k) (zero_word_at k)
zero_sorted (WordKind n) = record { has_width = refl; fits = pow_pos n }
zero_sorted (NatKind n) = record { has_width = refl; fits = pow_pos n }
zero_sorted (IntKind n) = record { has_width = refl; fits = pow_pos n }
zero_sorted BoolKind = tt

pub started_locals : (ps bs : List Binder) (vs : List Value) → come_first ps bs ≡ true → AreOfSorts (map word_sort_of (kinds_of ps)) vs → AreLocals bs (started bs vs)
started_locals [] [] [] c h = tt
started_locals [] (b ∷ bs) [] c h = (refl, zero_sorted b.kind, started_locals [] bs [] refl tt)
started_locals [] bs (v ∷ vs) c h = absurd h
started_locals (p ∷ ps) [] vs c h = absurd (false≢true c)
started_locals (p ∷ ps) (b ∷ bs) [] c h = absurd h
started_locals (p ∷ ps) (b ∷ bs) (v ∷ vs) c h =
    let r = and_parts (same_name p.name b.name && same_kind p.kind b.kind) (come_first ps bs) c in
    let k = and_parts (same_name p.name b.name) (same_kind p.kind b.kind) r.0 in
    (refl, subst (λ j. IsOfSort (word_sort_of j) v) (same_kind_is p.kind b.kind k.1) h.0, started_locals ps bs vs r.1 h.1)

pub sorts_length : (bs : List Binder) (vs : List Value) → AreOfSorts (map word_sort_of (kinds_of bs)) vs → length vs ≡ length bs
sorts_length [] [] h = refl
sorts_length [] (v ∷ vs) h = absurd h
sorts_length (b ∷ bs) [] h = absurd h
sorts_length (b ∷ bs) (v ∷ vs) h = ap suc (sorts_length bs vs h.1)
