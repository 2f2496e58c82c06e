-- The locals of a generated function have different names: those of the text, which begin with no `$`, and those that are added,
-- each of a family by its first letters, in which numbers tell them apart.
use Rattle.std.proofs.Common.{◌≡◌, ℕ, ◌+◌, ◌==◌, ◌^◌, ◌<◌, Bool, true, false, not, ◌||◌, cond, List, [], ◌∷◌, ◌++◌, map, Option, Some, None, decimal, ◌⊎◌, inl, inr, refl, sym, ap, ◌∙◌, subst, arith, length, pos}
use Rattle.std.specs.Prelude.{nat_lt}
use Rattle.std.specs.List.{list_any, list_all}
use Rattle.std.specs.Str.Parse.{AllDigits}
use Rattle.std.proofs.lemmas.Bool.{false≢true, true≢false, ltb-true, or_cases, or_from, not_from_false, not-true, false_from_ne_true, eq-eqb, eqb-true, and_parts}
use Rattle.std.proofs.lemmas.Fmt.{decimal_injective, decimal_is_IsNumeral}
use Rattle.std.proofs.lemmas.Str.Parse.{digit_at}
use Rattle.std.proofs.lemmas.List.Folds.{list_any-append}
use Rattle.std.specs.Cmp.Derive.{both_true}
use Rattle.c_values.specs.Name.{Name, same_name, is_among, are_distinct}
use Rattle.c_values.specs.Types.{Target, CType}
use Rattle.c_values.specs.Layout.{is_scalar}
use Rattle.c_values.proofs.Laid.{name_is, same_name-refl}
use Rattle.expression_lang.specs.Sort.{Level, WordKind, BoolKind}
use Rattle.expression_lang.specs.Signature.{Binder, names_of, binder, kind_at}
use Rattle.c_lang.specs.Typed as C
use Rattle.c_lang.specs.Numbers.{Numbers, numbers_of, numbers_in, numbers_among, are_apart, are_numbers}
use Rattle.c_lang.specs.WellTyped.{IsWellTyped, is_own_name, is_result, are_variables, are_statements, nowhere, scope_in, is_function, are_functions, are_numbered}
use Rattle.c_meaning.specs.Kinds.{variables}
use Rattle.simpl_lang.specs.Flag.{thrown_local}
use Rattle.generation.specs.Generate.{call_local, switch_local, first_local, exception_local, result_binder, use_binder, Added, added, added_in, added_of, locals, function_of, generated}
use Rattle.generation.proofs.ExactTests.{all_of_three, all_of_four}
use Rattle.generation.proofs.ExactEntry.{names_are}

-- the second and the third byte of a name
abbrev second : Name → ℕ
second [] = 0
second (c ∷ []) = 0
second (c ∷ d ∷ cs) = d

abbrev third : Name → ℕ
third [] = 0
third (c ∷ []) = 0
third (c ∷ d ∷ []) = 0
third (c ∷ d ∷ e ∷ cs) = e

-- `$ret` alone has an `e` there
abbrev family : Name → ℕ
family x = cond (is_own_name x) 0 (second x + cond (third x == 101) 1000 0)

abbrev AreOf : ℕ → List Name → Type 0
AreOf k [] = Unit {0}
AreOf k (x ∷ xs) = (family x ≡ k) × AreOf k xs

abbrev Avoids : ℕ → List Name → Type 0
Avoids k xs = (x : Name) → is_among x xs ≡ true → family x ≡ k → ⊥

family_of : (k : ℕ) (xs : List Name) (x : Name) → AreOf k xs → is_among x xs ≡ true → family x ≡ k
family_of k [] x h c = absurd (false≢true c)
family_of k (y ∷ ys) x h c = by_cases (or_cases (same_name x y) (is_among x ys) c) (family_of k ys x h.1)
  where
    by_cases : (same_name x y ≡ true) ⊎ (is_among x ys ≡ true) → (is_among x ys ≡ true → family x ≡ k) → family x ≡ k
    by_cases (inl e) r = ap (λ z. family z) (name_is x y e) ∙ h.0
    by_cases (inr e) r = r e

others : (k j : ℕ) (xs : List Name) → (k ≡ j → ⊥) → AreOf k xs → Avoids j xs
others k j xs apart h x c e = apart (sym (family_of k xs x h c) ∙ e)

among_append : (x : Name) (xs ys : List Name) → is_among x (xs ++ ys) ≡ true → (is_among x xs ≡ true) ⊎ (is_among x ys ≡ true)
among_append x xs ys h = or_cases (is_among x xs) (is_among x ys) (sym (list_any-append (same_name x) xs ys) ∙ h)

avoids_append : (k : ℕ) (xs ys : List Name) → Avoids k xs → Avoids k ys → Avoids k (xs ++ ys)
avoids_append k xs ys h m x c e = by_cases (among_append x xs ys c)
  where
    by_cases : (is_among x xs ≡ true) ⊎ (is_among x ys ≡ true) → ⊥
    by_cases (inl a) = h x a e
    by_cases (inr a) = m x a e

distinct_append : (k : ℕ) (xs ys : List Name) → are_distinct xs ≡ true → are_distinct ys ≡ true → Avoids k xs → AreOf k ys → are_distinct (xs ++ ys) ≡ true
distinct_append k [] ys h m a o = m
distinct_append k (x ∷ xs) ys h m a o =
    let p = and_parts (not (is_among x xs)) (are_distinct xs) h in
    both_true (not_from_false (is_among x (xs ++ ys)) (list_any-append (same_name x) xs ys ∙ or_from (is_among x xs) (is_among x ys) (not-true (is_among x xs) p.0) (false_from_ne_true (is_among x ys) (λ e. a x (here (same_name x x) (is_among x xs) (same_name-refl x)) (family_of k ys x o e)))))
    (distinct_append k xs ys p.1 m (λ y b e. a y (there (same_name y x) (is_among y xs) b) e) o)
  where
    here : (b c : Bool) → b ≡ true → (b || c) ≡ true
    here true c e = refl
    here false c e = absurd (false≢true e)

    there : (b c : Bool) → c ≡ true → (b || c) ≡ true
    there true c e = refl
    there false c e = e

names_append : (bs cs : List Binder) → names_of (bs ++ cs) ≡ names_of bs ++ names_of cs
names_append [] cs = refl
names_append (b ∷ bs) cs = ap (λ xs. b.name ∷ xs) (names_append bs cs)

-- more locals, of another family
more_distinct : (k : ℕ) (bs cs : List Binder) → are_distinct (names_of bs) ≡ true → are_distinct (names_of cs) ≡ true → Avoids k (names_of bs) → AreOf k (names_of cs) → are_distinct (names_of (bs ++ cs)) ≡ true
more_distinct k bs cs h m a o = ap are_distinct (names_append bs cs) ∙ distinct_append k (names_of bs) (names_of cs) h m a o

more_avoid : (k : ℕ) (bs cs : List Binder) → Avoids k (names_of bs) → Avoids k (names_of cs) → Avoids k (names_of (bs ++ cs))
more_avoid k bs cs h m = subst (λ xs. Avoids k xs) (sym (names_append bs cs)) (avoids_append k (names_of bs) (names_of cs) h m)

-- names of some of the numbers, in order
data Named (name : ℕ → Name) : List Binder → List ℕ → Type 0 where
  none : Named name [] []
  skipped : (n : ℕ) {bs : List Binder} {ns : List ℕ} → Named name bs ns → Named name bs (n ∷ ns)
  taken : (b : Binder) (n : ℕ) {bs : List Binder} {ns : List ℕ} → b.name ≡ name n → Named name bs ns → Named name (b ∷ bs) (n ∷ ns)

named_append : {name : ℕ → Name} {bs cs : List Binder} {ns ms : List ℕ} → Named name bs ns → Named name cs ms → Named name (bs ++ cs) (ns ++ ms)
named_append none k = k
named_append (skipped n h) k = skipped n (named_append h k)
named_append (taken b n e h) k = taken b n e (named_append h k)

module _ (name : ℕ → Name) (injective : (m n : ℕ) → m < 2 ^ 64 → n < 2 ^ 64 → name m ≡ name n → m ≡ n) where
  not_named : {bs : List Binder} {ns : List ℕ} (n : ℕ) → Named name bs ns → are_apart ns ≡ true → n < 2 ^ 64 → list_any (λ k. k == n) ns ≡ false → is_among (name n) (names_of bs) ≡ false
  not_named n none a small h = refl
  not_named n (skipped m {bs} {ns} r) a small h =
      let p = all_of_three (nat_lt m (2 ^ 64)) (not (list_any (λ k. k == m) ns)) (are_apart ns) a in
      not_named n r p.2 small (neither_right (m == n) (list_any (λ k. k == n) ns) h)
    where
      neither_right : (b c : Bool) → (b || c) ≡ false → c ≡ false
      neither_right true c e = absurd (true≢false e)
      neither_right false c e = e
  not_named n (taken b m {bs} {ns} e r) a small h =
      let p = all_of_three (nat_lt m (2 ^ 64)) (not (list_any (λ k. k == m) ns)) (are_apart ns) a in
      or_from (same_name (name n) b.name) (is_among (name n) (names_of bs))
      (false_from_ne_true (same_name (name n) b.name) (λ s. true≢false (sym (eq-eqb m n (sym (injective n m small (ltb-true m (2 ^ 64) p.0) (name_is (name n) b.name s ∙ e)))) ∙ neither_left (m == n) (list_any (λ k. k == n) ns) h)))
      (not_named n r p.2 small (neither_right (m == n) (list_any (λ k. k == n) ns) h))
    where
      neither_right : (b' c : Bool) → (b' || c) ≡ false → c ≡ false
      neither_right true c s = absurd (true≢false s)
      neither_right false c s = s

      neither_left : (b' c : Bool) → (b' || c) ≡ false → b' ≡ false
      neither_left true c s = s
      neither_left false c s = refl

  named_distinct : {bs : List Binder} {ns : List ℕ} → Named name bs ns → are_apart ns ≡ true → are_distinct (names_of bs) ≡ true
  named_distinct none a = refl
  named_distinct (skipped m {bs} {ns} r) a = named_distinct r (all_of_three (nat_lt m (2 ^ 64)) (not (list_any (λ k. k == m) ns)) (are_apart ns) a).2
  named_distinct (taken b m {bs} {ns} e r) a =
      let p = all_of_three (nat_lt m (2 ^ 64)) (not (list_any (λ k. k == m) ns)) (are_apart ns) a in
      both_true (not_from_false (is_among b.name (names_of bs)) (subst (λ x. is_among x (names_of bs) ≡ false) (sym e) (not_named m r p.2 (ltb-true m (2 ^ 64) p.0) (not-true (list_any (λ k. k == m) ns) p.1)))) (named_distinct r p.2)

  named_of : (k : ℕ) {bs : List Binder} {ns : List ℕ} → ((n : ℕ) → n < 2 ^ 64 → family (name n) ≡ k) → Named name bs ns → are_apart ns ≡ true → AreOf k (names_of bs)
  named_of k f none a = tt
  named_of k f (skipped m {bs} {ns} r) a = named_of k f r (all_of_three (nat_lt m (2 ^ 64)) (not (list_any (λ i. i == m) ns)) (are_apart ns) a).2
  named_of k f (taken b m {bs} {ns} e r) a =
      let p = all_of_three (nat_lt m (2 ^ 64)) (not (list_any (λ i. i == m) ns)) (are_apart ns) a in
      (ap (λ z. family z) e ∙ f m (ltb-true m (2 ^ 64) p.0), named_of k f r p.2)

-- the added locals of statements are named by their numbers
record AreNamed (a : Added) (cs ss fs : List ℕ) : Type 0 where
  calls : Named call_local a.calls cs
  switches : Named switch_local a.switches ss
  firsts : Named first_local a.firsts fs

nothing_named : AreNamed (record { calls = []; switches = []; firsts = [] }) [] [] []
nothing_named = record { calls = none; switches = none; firsts = none }

both_named : {a b : Added} {cs ss fs ds ts gs : List ℕ} → AreNamed a cs ss fs → AreNamed b ds ts gs → AreNamed (record { calls = a.calls ++ b.calls; switches = a.switches ++ b.switches; firsts = a.firsts ++ b.firsts }) (cs ++ ds) (ss ++ ts) (fs ++ gs)
both_named h k = record { calls = named_append h.calls k.calls; switches = named_append h.switches k.switches; firsts = named_append h.firsts k.firsts }

use_named : (t : Target) (level : Level) (n : ℕ) (use' : C.Use) → Named call_local (use_binder t level n use') (n ∷ [])
use_named t level n C.NoResult = skipped n none
use_named t level n (C.Ignored from) = taken (binder (call_local n) (kind_at t level from)) n refl none
use_named t level n (C.Assigned from target) = taken (binder (call_local n) (kind_at t level from)) n refl none
use_named t level n (C.Returned from to) = taken (binder (call_local n) (kind_at t level from)) n refl none

module _ (t : Target) (level : Level) where
  abbrev Has : Added → (n : Numbers) → Type 0
  Has a n = AreNamed a n.calls n.switches n.do_whiles

  mutual
    named : (s : C.Statement) → Has (added t level s) (numbers_of s)
    named C.Empty = nothing_named
    named (C.Block ss) = named_in ss
    named (C.Declare x u) = nothing_named
    named (C.Assign target e) = nothing_named
    named (C.Call n f es use') = record { calls = use_named t level n use'; switches = none; firsts = none }
    named (C.If e a b) = both_named (named a) (named b)
    named (C.While e a) = named a
    named (C.DoWhile k a e) = both_named {a = record { calls = []; switches = []; firsts = binder (first_local k) BoolKind ∷ [] }} {cs = []} {ss = []} {fs = k ∷ []} (record { calls = none; switches = none; firsts = taken (binder (first_local k) BoolKind) k refl none }) (named a)
    named (C.For init test step a) = both_named (named_in init) (both_named (named step) (named a))
    named (C.Switch n i e gs) = both_named {a = record { calls = []; switches = binder (switch_local n) (kind_at t level (C.type_of (C.Constant i (pos 0)))) ∷ []; firsts = [] }} {cs = []} {ss = n ∷ []} {fs = []}
        (record { calls = none; switches = taken (binder (switch_local n) (kind_at t level (C.type_of (C.Constant i (pos 0))))) n refl none; firsts = none }) (named_among gs)
    named C.Break = nothing_named
    named C.Continue = nothing_named
    named C.ReturnNothing = nothing_named
    named (C.Return e) = nothing_named

    named_in : (ss : C.Statements) → Has (added_in t level ss) (numbers_in ss)
    named_in C.no_statements = nothing_named
    named_in (C.next s ss) = both_named (named s) (named_in ss)

    named_among : (gs : C.Groups) → Has (added_of t level gs) (numbers_among gs)
    named_among C.no_groups = nothing_named
    named_among (C.group labels is_default ss gs) = both_named (named_in ss) (named_among gs)

-- the families
tail : (c d : ℕ) (xs ys : List ℕ) → c ∷ xs ≡ d ∷ ys → xs ≡ ys
tail c d xs ys h = cc

call_injective : (m n : ℕ) → m < 2 ^ 64 → n < 2 ^ 64 → call_local m ≡ call_local n → m ≡ n
call_injective m n small little e = decimal_injective m n small little (tail 114 114 (decimal m) (decimal n) (tail 36 36 (114 ∷ decimal m) (114 ∷ decimal n) e))

switch_injective : (m n : ℕ) → m < 2 ^ 64 → n < 2 ^ 64 → switch_local m ≡ switch_local n → m ≡ n
switch_injective m n small little e =
    decimal_injective m n small little (tail 119 119 (decimal m) (decimal n) (tail 115 115 (119 ∷ decimal m) (119 ∷ decimal n) (tail 36 36 (115 ∷ 119 ∷ decimal m) (115 ∷ 119 ∷ decimal n) e)))

first_injective : (m n : ℕ) → m < 2 ^ 64 → n < 2 ^ 64 → first_local m ≡ first_local n → m ≡ n
first_injective m n small little e =
    decimal_injective m n small little (tail 116 116 (decimal m) (decimal n) (tail 115 115 (116 ∷ decimal m) (116 ∷ decimal n) (tail 114 114 (115 ∷ 116 ∷ decimal m) (115 ∷ 116 ∷ decimal n)
    (tail 105 105 (114 ∷ 115 ∷ 116 ∷ decimal m) (114 ∷ 115 ∷ 116 ∷ decimal n) (tail 102 102 (105 ∷ 114 ∷ 115 ∷ 116 ∷ decimal m) (105 ∷ 114 ∷ 115 ∷ 116 ∷ decimal n)
    (tail 36 36 (102 ∷ 105 ∷ 114 ∷ 115 ∷ 116 ∷ decimal m) (102 ∷ 105 ∷ 114 ∷ 115 ∷ 116 ∷ decimal n) e))))))

no_letter : (ds : List ℕ) → 0 < length ds → AllDigits 10 ds → (third (36 ∷ 114 ∷ ds) == 101) ≡ false
no_letter [] h k = absurd (omega arith)
no_letter (c ∷ cs) h k = let r = digit_at (c ∷ cs) 0 k h in false_from_ne_true (c == 101) (λ e. let s = eqb-true c 101 e in let high = r.1 in omega (arith, s, high))

call_family : (n : ℕ) → n < 2 ^ 64 → family (call_local n) ≡ 114
call_family n small = let d = decimal_is_IsNumeral n small in ap (λ b. 114 + cond b 1000 0) (no_letter (decimal n) d.0.0 d.0.1)

different : (a b : ℕ) → (a == b) ≡ false → a ≡ b → ⊥
different a b h e = true≢false (sym (eq-eqb a b e) ∙ h)

module _ (t : Target) (level : Level) where
  pub variables_append : (vs ws : List C.Variable) → variables t level (vs ++ ws) ≡ variables t level vs ++ variables t level ws
  variables_append [] ws = refl
  variables_append (v ∷ vs) ws = ap (λ bs. binder v.name (kind_at t level v.type) ∷ bs) (variables_append vs ws)

  own_family : (vs : List C.Variable) → are_variables vs ≡ true → AreOf 0 (names_of (variables t level vs))
  own_family [] h = tt
  own_family (v ∷ vs) h =
      let p = all_of_three (is_scalar v.type) (is_own_name v.name) (are_variables vs) h in
      (ap (λ b. cond b 0 (second v.name + cond (third v.name == 101) 1000 0)) p.1, own_family vs p.2)

  result_family : (o : Option CType) → AreOf 1114 (names_of (result_binder t level o))
  result_family None = tt
  result_family (Some u) = (refl, tt)

  result_distinct : (o : Option CType) → are_distinct (names_of (result_binder t level o)) ≡ true
  result_distinct None = refl
  result_distinct (Some u) = refl

  module _ (f : C.TypedFn) (own : are_variables (f.params ++ f.locals) ≡ true) (apart : are_distinct (C.variable_names (f.params ++ f.locals)) ≡ true) (numbers : are_numbers (numbers_in f.body) ≡ true) where
    abbrev a : Added
    a = added_in t level f.body

    abbrev declared : List Binder
    declared = variables t level f.params ++ variables t level f.locals

    abbrev result : List Binder
    result = result_binder t level f.result

    abbrev exn : List Binder
    exn = binder exception_local (WordKind 32) ∷ []

    n : AreNamed a (numbers_in f.body).calls (numbers_in f.body).switches (numbers_in f.body).do_whiles
    n = named_in t level f.body

    p : (are_apart (numbers_in f.body).calls ≡ true) × (are_apart (numbers_in f.body).switches ≡ true) × (are_apart (numbers_in f.body).do_whiles ≡ true)
    p = all_of_three (are_apart (numbers_in f.body).calls) (are_apart (numbers_in f.body).switches) (are_apart (numbers_in f.body).do_whiles) numbers

    calls_family : AreOf 114 (names_of a.calls)
    calls_family = named_of call_local call_injective 114 call_family n.calls p.0

    switches_family : AreOf 115 (names_of a.switches)
    switches_family = named_of switch_local switch_injective 115 (λ k s. refl) n.switches p.1

    firsts_family : AreOf 102 (names_of a.firsts)
    firsts_family = named_of first_local first_injective 102 (λ k s. refl) n.firsts p.2

    declared_family : AreOf 0 (names_of declared)
    declared_family = subst (λ bs. AreOf 0 (names_of bs)) (variables_append f.params f.locals) (own_family (f.params ++ f.locals) own)

    declared_distinct : are_distinct (names_of declared) ≡ true
    declared_distinct = subst (λ bs. are_distinct (names_of bs) ≡ true) (variables_append f.params f.locals) (ap are_distinct (names_are t level (f.params ++ f.locals)) ∙ apart)

    module _ (k : ℕ) (own' : (0 == k) ≡ false) (result' : (1114 == k) ≡ false) where
      avoids2 : Avoids k (names_of (declared ++ result))
      avoids2 = more_avoid k declared result (others 0 k (names_of declared) (different 0 k own') declared_family) (others 1114 k (names_of result) (different 1114 k result') (result_family f.result))

      module _ (exn' : (101 == k) ≡ false) where
        avoids3 : Avoids k (names_of (declared ++ result ++ exn))
        avoids3 = more_avoid k (declared ++ result) exn avoids2 (others 101 k (names_of exn) (different 101 k exn') (refl, tt))

        module _ (calls' : (114 == k) ≡ false) where
          avoids4 : Avoids k (names_of (declared ++ result ++ exn ++ a.calls))
          avoids4 = more_avoid k (declared ++ result ++ exn) a.calls avoids3 (others 114 k (names_of a.calls) (different 114 k calls') calls_family)

          module _ (switches' : (115 == k) ≡ false) where
            avoids5 : Avoids k (names_of (declared ++ result ++ exn ++ a.calls ++ a.switches))
            avoids5 = more_avoid k (declared ++ result ++ exn ++ a.calls) a.switches avoids4 (others 115 k (names_of a.switches) (different 115 k switches') switches_family)

            avoids6 : (102 == k) ≡ false → Avoids k (names_of (declared ++ result ++ exn ++ a.calls ++ a.switches ++ a.firsts))
            avoids6 firsts' = more_avoid k (declared ++ result ++ exn ++ a.calls ++ a.switches) a.firsts avoids5 (others 102 k (names_of a.firsts) (different 102 k firsts') firsts_family)

    pub locals_distinct : are_distinct (names_of (locals t level f)) ≡ true
    locals_distinct =
        let d2 = more_distinct 1114 declared result declared_distinct (result_distinct f.result) (others 0 1114 (names_of declared) (different 0 1114 refl) declared_family) (result_family f.result) in
        let d3 = more_distinct 101 (declared ++ result) exn d2 refl (avoids2 101 refl refl) (refl, tt) in
        let d4 = more_distinct 114 (declared ++ result ++ exn) a.calls d3 (named_distinct call_local call_injective n.calls p.0) (avoids3 114 refl refl refl) calls_family in
        let d5 = more_distinct 115 (declared ++ result ++ exn ++ a.calls) a.switches d4 (named_distinct switch_local switch_injective n.switches p.1) (avoids4 115 refl refl refl refl) switches_family in
        let d6 = more_distinct 102 (declared ++ result ++ exn ++ a.calls ++ a.switches) a.firsts d5 (named_distinct first_local first_injective n.firsts p.2) (avoids5 102 refl refl refl refl refl) firsts_family in
        more_distinct 116 (declared ++ result ++ exn ++ a.calls ++ a.switches ++ a.firsts) (binder thrown_local BoolKind ∷ []) d6 refl (avoids6 116 refl refl refl refl refl refl) (refl, tt)

-- of each function of a unit
functions_different : (u : C.TypedUnit) (levels : Name → Level) (fs : List C.TypedFn) → are_functions u fs ≡ true → are_numbered fs ≡ true → list_all (λ f. are_distinct (names_of f.locals)) (map (λ f. function_of u.layout (levels f.name) f) fs) ≡ true
functions_different u levels [] h k = refl
functions_different u levels (f ∷ fs) h k =
    let p = and_parts (is_function u f) (are_functions u fs) h in
    let q = and_parts (are_numbers (numbers_in f.body)) (are_numbered fs) k in
    let r = all_of_four (are_variables (f.params ++ f.locals)) (are_distinct (C.variable_names (f.params ++ f.locals))) (is_result f.result) (are_statements (scope_in u f) nowhere f.body) p.0 in
    both_true (locals_distinct u.layout.target (levels f.name) f r.0 r.1 q.0) (functions_different u levels fs p.1 q.1)

pub locals_are_different : (u : C.TypedUnit) → IsWellTyped u → (levels : Name → Level) → list_all (λ f. are_distinct (names_of f.locals)) (generated u levels).functions ≡ true
locals_are_different u h levels = functions_different u levels u.functions h.functions h.numbers
