-- Whole texts.
use Rattle.std.proofs.Common.{ℕ, ◌≡◌, true, false, not, List, [], ◌∷◌, ◌++◌, map, Option, Some, None, is_some, filter_map, ◌⊎◌, inl, inr, refl, sym, ap, ap₂, ◌∙◌, subst, ◌+◌, ◌^◌, ◌<◌, ◌≤◌, length, arith, le_trans, lt_of_le_of_lt}
use Rattle.std.proofs.lemmas.Bool.{false≢true, true≢false, or_cases, or_left, or_right, or_from, not_from_false, not-true, false_from_ne_true}
use Rattle.std.proofs.lemmas.List.Folds.{list_any-append}
use Rattle.std.specs.List.{cons_option}
use Rattle.c_values.specs.Name.{Name, same_name, is_among, are_distinct}
use Rattle.c_grammar.specs.Tree as tree
use Rattle.typing_rules.specs.Scope.{Scope}
use Rattle.typing_rules.specs.Unit.{external, externals, declared_name, body_name}
use Rattle.c_lang.specs.Typed as C
use Rattle.c_lang.specs.Numbers.{numbers_in, are_numbers}
use Rattle.typing_laws.specs.Written.{Each, IsExternal}
use Rattle.typing_laws.specs.Count.{numbered_of, numbered_in}
use Rattle.typing_laws.proofs.Tests.{both, left, right, name_is, name_itself}
use Rattle.typing_laws.proofs.Later.{IsLater, later_itself, not_before}
use Rattle.typing_laws.proofs.Outcomes.{Gives, gives, gives_then}
use Rattle.typing_laws.proofs.Files.{IsFile, IsNext, next_twice}
use Rattle.typing_laws.proofs.Functions.{IsDone, done_later, HasDone, function_given}
use Rattle.typing_laws.proofs.Tops.{declaration_given}

abbrev pub function_names : List C.TypedFn → List Name
function_names fs = map (λ f. f.name) fs

-- at most so many variables and numbers
abbrev pub HasAtMost : ℕ → C.TypedFn → Type 0
HasAtMost n f = (length (f.params ++ f.locals) ≤ n) × (n < 2 ^ 64 → are_numbers (numbers_in f.body) ≡ true)

-- functions behind a scope, those of a text
pub record HasFunctions (bodies : List Name) (n : ℕ) (s : Scope) (fs : List C.TypedFn) (t : Scope) : Type 0 where
  pub next : IsNext s t
  pub done : Each (IsDone t) fs
  pub new : (x : Name) → is_among x (function_names fs) ≡ true → s.file.with_body_so_far x ≡ false
  pub distinct : are_distinct (function_names fs) ≡ true
  pub names : function_names fs ≡ bodies
  pub few : Each (HasAtMost n) fs

no_functions : (s t : Scope) → IsNext s t → HasFunctions [] 0 s [] t
no_functions s t h = record { next = h; done = tt; new = λ x c. absurd (false≢true c); distinct = refl; names = refl; few = tt }

one_function : (x : Name) (n : ℕ) (s : Scope) (f : C.TypedFn) (t : Scope) → HasDone x n s f t → HasFunctions (x ∷ []) n s (f ∷ []) t
one_function x n s f t h = record {
  next = h.next;
  done = (h.done, tt);
  new = λ y c. by_cases y (or_cases (same_name y f.name) false c);
  distinct = refl;
  names = ap (λ y. y ∷ []) h.name;
  few = ((h.few, h.numbers), tt);
}
  where
    by_cases : (y : Name) → (same_name y f.name ≡ true) ⊎ (false ≡ true) → s.file.with_body_so_far y ≡ false
    by_cases y (inl c) = subst (λ z. s.file.with_body_so_far z ≡ false) (sym (name_is y f.name c)) h.new
    by_cases y (inr c) = absurd (false≢true c)

abbrev pub names_of : tree.External → List Name
names_of x = cons_option (body_name x) []

external_given : (x : tree.External) → IsExternal x → (s : Scope) → IsFile s → Gives (HasFunctions (names_of x) (numbered_of x) s) (external x s)
external_given (tree.Function ws d ps is) i s h =
    gives_then _ _ (function_given ws d ps is i.0 i.1 i.2 i.3 s h) (λ f t k. gives (f ∷ [], t) (one_function (declared_name d) (numbered_of (tree.Function ws d ps is)) s f t k))
external_given (tree.Declaration at ws ts) i s h =
    gives_then _ _ (declaration_given (is_some at) ws ts i.0 i.1 s h) (λ u t k. gives ([], t) (no_functions s t k))

each_later : (s t : Scope) (fs : List C.TypedFn) → IsLater s t → Each (IsDone s) fs → Each (IsDone t) fs
each_later s t [] h k = tt
each_later s t (f ∷ fs) h k = (done_later s t f h k.0, each_later s t fs h k.1)

each_append : {A : Type 0} (P : A → Type 0) (xs ys : List A) → Each P xs → Each P ys → Each P (xs ++ ys)
each_append P [] ys h k = k
each_append P (x ∷ xs) ys h k = (h.0, each_append P xs ys h.1 k)

among_append : (x : Name) (xs ys : List Name) → is_among x (xs ++ ys) ≡ true → (is_among x xs ≡ true) ⊎ (is_among x ys ≡ true)
among_append x xs ys h = or_cases (is_among x xs) (is_among x ys) (sym (list_any-append (same_name x) xs ys) ∙ h)

distinct_append : (xs ys : List Name) → are_distinct xs ≡ true → are_distinct ys ≡ true → ((x : Name) → is_among x xs ≡ true → is_among x ys ≡ true → ⊥) → are_distinct (xs ++ ys) ≡ true
distinct_append [] ys h k apart = k
distinct_append (x ∷ xs) ys h k apart =
    let new = not-true (is_among x xs) (left (not (is_among x xs)) (are_distinct xs) h) in
    both (not_from_false (is_among x (xs ++ ys)) (list_any-append (same_name x) xs ys ∙ or_from (is_among x xs) (is_among x ys) new (false_from_ne_true (is_among x ys) (apart x (or_left (same_name x x) (is_among x xs) (name_itself x))))))
    (distinct_append xs ys (right (not (is_among x xs)) (are_distinct xs) h) k (λ y a b. apart y (or_right (same_name y x) (is_among y xs) a) b))

so_far_of : (t : Scope) (fs : List C.TypedFn) (x : Name) → Each (IsDone t) fs → is_among x (function_names fs) ≡ true → t.file.with_body_so_far x ≡ true
so_far_of t [] x h c = absurd (false≢true c)
so_far_of t (f ∷ fs) x h c = by_cases (or_cases (same_name x f.name) (is_among x (function_names fs)) c) (so_far_of t fs x h.1)
  where
    by_cases : (same_name x f.name ≡ true) ⊎ (is_among x (function_names fs) ≡ true) → (is_among x (function_names fs) ≡ true → t.file.with_body_so_far x ≡ true) → t.file.with_body_so_far x ≡ true
    by_cases (inl e) r = subst (λ y. t.file.with_body_so_far y ≡ true) (sym (name_is x f.name e)) h.0.so_far
    by_cases (inr e) r = r e

names_append : (fs gs : List C.TypedFn) → function_names (fs ++ gs) ≡ function_names fs ++ function_names gs
names_append [] gs = refl
names_append (f ∷ fs) gs = ap (λ xs. f.name ∷ xs) (names_append fs gs)

at_most : (n m : ℕ) (fs : List C.TypedFn) → n ≤ m → Each (HasAtMost n) fs → Each (HasAtMost m) fs
at_most n m [] le h = tt
at_most n m (f ∷ fs) le h = ((le_trans h.0.0 le, λ small. h.0.1 (lt_of_le_of_lt le small)), at_most n m fs le h.1)

functions_append : (bodies more : List Name) (n m : ℕ) (s t u : Scope) (fs gs : List C.TypedFn) → HasFunctions bodies n s fs t → HasFunctions more m t gs u → HasFunctions (bodies ++ more) (n + m) s (fs ++ gs) u
functions_append bodies more n m s t u fs gs h k = record {
  next = next_twice h.next k.next;
  done = each_append (IsDone u) fs gs (each_later t u fs k.next.later h.done) k.done;
  new = λ x c. by_cases x (among_append x (function_names fs) (function_names gs) (subst (λ xs. is_among x xs ≡ true) (names_append fs gs) c));
  distinct = subst (λ xs. are_distinct xs ≡ true) (sym (names_append fs gs))
      (distinct_append (function_names fs) (function_names gs) h.distinct k.distinct (λ x a b. true≢false (sym (so_far_of t fs x h.done a) ∙ k.new x b)));
  names = names_append fs gs ∙ ap₂ (λ xs ys. xs ++ ys) h.names k.names;
  few = each_append (HasAtMost (n + m)) fs gs (at_most n (n + m) fs (omega arith) h.few) (at_most m (n + m) gs (omega arith) k.few);
}
  where
    by_cases : (x : Name) → (is_among x (function_names fs) ≡ true) ⊎ (is_among x (function_names gs) ≡ true) → s.file.with_body_so_far x ≡ false
    by_cases x (inl c) = h.new x c
    by_cases x (inr c) = not_before s t x h.next.later (k.new x c)

bodies_append : (x : tree.External) (xs : List tree.External) → names_of x ++ filter_map body_name xs ≡ filter_map body_name (x ∷ xs)
bodies_append x xs = by_name (body_name x)
  where
    by_name : (o : Option Name) → cons_option o [] ++ filter_map body_name xs ≡ cons_option o (filter_map body_name xs)
    by_name None = refl
    by_name (Some y) = refl

pub externals_given : (xs : List tree.External) → Each IsExternal xs → (s : Scope) → IsFile s → Gives (HasFunctions (filter_map body_name xs) (numbered_in xs) s) (externals xs s)
externals_given [] i s h = gives ([], s) (no_functions s s (record { later = later_itself s; file = h }))
externals_given (x ∷ xs) i s h =
    gives_then (external x s) _ (external_given x i.0 s h) (λ fs t k.
    gives_then (externals xs t) _ (externals_given xs i.1 t k.next.file) (λ gs u m.
    gives (fs ++ gs, u) (subst (λ names. HasFunctions names (numbered_of x + numbered_in xs) s (fs ++ gs) u) (bodies_append x xs) (functions_append (names_of x) (filter_map body_name xs) (numbered_of x) (numbered_in xs) s t u fs gs k m))))
