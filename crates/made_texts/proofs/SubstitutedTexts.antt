-- An expression or a program with an expression in place of a name has a text where both have, and binds as few names at a time.
use Rattle.std.proofs.Common.{◌≡◌, nat_le, Bool, true, false, cond, ◌&&◌, List, [], ◌∷◌, length, Some, None, refl, sym, ap, subst, ◌∙◌}
use Rattle.std.specs.Prelude.{unwrap_or}
use Rattle.std.proofs.lemmas.Bool.{and_parts, and_from}
use Rattle.c_values.specs.Name.{Name, same_name, is_among, are_distinct}
use Rattle.expression_lang.specs.Expression.{Exp, Var, WordBinary, WordShift, WordUnary, WordCompare, Cast, ToNat, ToInt, ToWord, Arith, Negate, Lt, Le, Between, Eq, And, Or, Imp, Not, If, Padd, At, Load, Read, Tagged, PtrOk, Global, Sel, Upd, Path, Here, IntoField, IntoElement}
use Rattle.expression_text.specs.Names.{is_name}
use Rattle.expression_text.specs.ExpText.{is_one_step, is_exp, is_path}
use Rattle.expression_text.specs.Lists.{each}
use Rattle.ac_expr.specs.Substituted.{substituted, path_substituted}
use Rattle.monad_lang.specs.Program as M
use Rattle.monad_lang.specs.Program.{Mon, Start}
use Rattle.monad_lang.specs.Run.{start_names}
use Rattle.program_text.specs.MonText.{is_mon, is_start, is_place}
use Rattle.program_facts.specs.Substituted.{each_substituted, starts_substituted, place_substituted, program_substituted}
use Rattle.made_texts.specs.Few.{most_names, binds_few}
use Rattle.made_texts.proofs.Conjunctions.{both}

module _ (x : Name) (e : Exp) (text : is_exp e ≡ true) where
  name_put : (b : Bool) (y : Name) → is_name y ≡ true → is_exp (unwrap_or (cond b (Some e) None) (Var y)) ≡ true
  name_put true y h = text
  name_put false y h = h

  one_step_put : (path : Path) → is_one_step (path_substituted x e path) ≡ is_one_step path
  one_step_put (IntoField k Here) = refl
  one_step_put (IntoElement a Here) = refl
  one_step_put _ = refl

  mutual
    pub exp_put : (a : Exp) → is_exp a ≡ true → is_exp (substituted x e a) ≡ true
    exp_put (Var y) h = name_put (same_name x y) y h
    exp_put (WordBinary op a b) h = both _ _ _ _ (λ i. exp_put a i) (λ i. exp_put b i) h
    exp_put (WordShift op a b) h = both _ _ _ _ (λ i. exp_put a i) (λ i. exp_put b i) h
    exp_put (WordUnary op a) h = exp_put a h
    exp_put (WordCompare op a b) h = both _ _ _ _ (λ i. exp_put a i) (λ i. exp_put b i) h
    exp_put (Cast op width a) h = both _ _ _ _ (λ i. i) (λ i. exp_put a i) h
    exp_put (ToNat a) h = exp_put a h
    exp_put (ToInt a) h = exp_put a h
    exp_put (ToWord width a) h = both _ _ _ _ (λ i. i) (λ i. exp_put a i) h
    exp_put (Arith op a b) h = both _ _ _ _ (λ i. i) (both _ _ _ _ (λ i. exp_put a i) (λ i. exp_put b i)) h
    exp_put (Negate a) h = exp_put a h
    exp_put (Lt a b) h = both _ _ _ _ (λ i. exp_put a i) (λ i. exp_put b i) h
    exp_put (Le a b) h = both _ _ _ _ (λ i. exp_put a i) (λ i. exp_put b i) h
    exp_put (Between low a high) h = both _ _ _ _ (λ i. i) (both _ _ _ _ (λ i. exp_put a i) (λ i. i)) h
    exp_put (Eq a b) h = both _ _ _ _ (λ i. exp_put a i) (λ i. exp_put b i) h
    exp_put (And a b) h = both _ _ _ _ (λ i. exp_put a i) (λ i. exp_put b i) h
    exp_put (Or a b) h = both _ _ _ _ (λ i. exp_put a i) (λ i. exp_put b i) h
    exp_put (Imp a b) h = both _ _ _ _ (λ i. exp_put a i) (λ i. exp_put b i) h
    exp_put (Not a) h = exp_put a h
    exp_put (If c a b) h = both _ _ _ _ (λ i. exp_put c i) (both _ _ _ _ (λ i. exp_put a i) (λ i. exp_put b i)) h
    exp_put (Padd t a b) h = both _ _ _ _ (λ i. i) (both _ _ _ _ (λ i. exp_put a i) (λ i. exp_put b i)) h
    exp_put (At t a path) h = both _ _ _ _ (λ i. i) (both _ _ _ _ (λ i. exp_put a i) (λ i. path_put path i)) h
    exp_put (Load t a path) h = both _ _ _ _ (λ i. i) (both _ _ _ _ (λ i. exp_put a i) (λ i. path_put path i)) h
    exp_put (Read t a path) h = both _ _ _ _ (λ i. i) (both _ _ _ _ (λ i. exp_put a i) (λ i. path_put path i)) h
    exp_put (Tagged t a) h = both _ _ _ _ (λ i. i) (λ i. exp_put a i) h
    exp_put (PtrOk t a) h = both _ _ _ _ (λ i. i) (λ i. exp_put a i) h
    exp_put (Global x path) h = both _ _ _ _ (λ i. i) (λ i. path_put path i) h
    exp_put (Sel a path) h = both _ _ _ _ (λ i. exp_put a i) (both _ _ _ _ (λ i. one_step_put path ∙ i) (λ i. path_put path i)) h
    exp_put (Upd a path b) h = both _ _ _ _ (λ i. exp_put a i) (both _ _ _ _ (λ i. path_put path i) (λ i. exp_put b i)) h
    exp_put _ h = h

    pub path_put : (path : Path) → is_path path ≡ true → is_path (path_substituted x e path) ≡ true
    path_put Here h = h
    path_put (IntoField k path) h = both _ _ _ _ (λ i. i) (λ i. path_put path i) h
    path_put (IntoElement a path) h = both _ _ _ _ (λ i. exp_put a i) (λ i. path_put path i) h

  exps_put : (es : List Exp) → each is_exp es ≡ true → each is_exp (each_substituted x e es) ≡ true
  exps_put [] h = refl
  exps_put (a ∷ as') h =
      let p = and_parts (is_exp a) (each is_exp as') h in
      and_from (is_exp (substituted x e a)) (each is_exp (each_substituted x e as')) (exp_put a p.0) (exps_put as' p.1)

  starts_put : (xs : List Start) → each is_start xs ≡ true → each is_start (starts_substituted x e xs) ≡ true
  starts_put [] h = refl
  starts_put (s ∷ ss) h =
      let p = and_parts (is_start s) (each is_start ss) h in
      let q = and_parts (is_name s.name) (is_exp s.exp) p.0 in
      and_from (is_name s.name && is_exp (substituted x e s.exp)) (each is_start (starts_substituted x e ss))
      (and_from (is_name s.name) (is_exp (substituted x e s.exp)) q.0 (exp_put s.exp q.1)) (starts_put ss p.1)

  names_put : (xs : List Start) → start_names (starts_substituted x e xs) ≡ start_names xs
  names_put [] = refl
  names_put (s ∷ ss) = ap (λ ys. s.name ∷ ys) (names_put ss)

  place_put : (place : M.Place) → is_place place ≡ true → is_place (place_substituted x e place) ≡ true
  place_put (M.Stored t p path) h = both _ _ _ _ (λ i. i) (both _ _ _ _ (λ i. exp_put p i) (λ i. path_put path i)) h
  place_put (M.Written t p path) h = both _ _ _ _ (λ i. i) (both _ _ _ _ (λ i. exp_put p i) (λ i. path_put path i)) h
  place_put (M.Global y path) h = both _ _ _ _ (λ i. i) (λ i. path_put path i) h

  either : (test : Mon → Bool) (b : Bool) (m n : Mon) → test m ≡ true → test n ≡ true → test (cond b m n) ≡ true
  either test true m n h k = h
  either test false m n h k = k

  pub program_put : (m : Mon) → is_mon m ≡ true → is_mon (program_substituted x e m) ≡ true
  program_put (M.Ret es) h = exps_put es h
  program_put (M.Bind m xs n) h =
      let p = and_parts (each is_name xs && are_distinct xs) (is_mon m && is_mon n) h in
      let q = and_parts (is_mon m) (is_mon n) p.1 in
      and_from _ _ p.0
      (and_from _ _ (program_put m q.0) (either is_mon (is_among x xs) n (program_substituted x e n) q.1 (program_put n q.1)))
  program_put (M.Guard a) h = exp_put a h
  program_put (M.If a m n) h =
      both _ _ _ _ (λ i. exp_put a i) (both _ _ _ _ (λ i. program_put m i) (λ i. program_put n i)) h
  program_put (M.Write place a) h = both _ _ _ _ (λ i. place_put place i) (λ i. exp_put a i) h
  program_put (M.Loop starts guard test m) h =
      let p = and_parts (each is_start starts && are_distinct (start_names starts)) (is_exp guard && (is_exp test && is_mon m)) h in
      let s = and_parts (each is_start starts) (are_distinct (start_names starts)) p.0 in
      let begun = and_from _ _ (starts_put starts s.0) (subst (λ xs. are_distinct xs ≡ true) (sym (names_put starts)) s.1) in
      either is_mon (is_among x (start_names starts)) (M.Loop (starts_substituted x e starts) guard test m)
      (M.Loop (starts_substituted x e starts) (substituted x e guard) (substituted x e test) (program_substituted x e m))
      (and_from _ _ begun p.1)
      (and_from _ _ begun
      (both _ _ _ _ (λ i. exp_put guard i) (both _ _ _ _ (λ i. exp_put test i) (λ i. program_put m i)) p.1))
  program_put (M.Call f es) h = both _ _ _ _ (λ i. i) (λ i. exps_put es i) h
  program_put (M.Pick k) h = h

  pub few_put : (m : Mon) → binds_few m ≡ true → binds_few (program_substituted x e m) ≡ true
  few_put (M.Bind m xs n) h =
      let p = and_parts (nat_le (length xs) most_names) (binds_few m && binds_few n) h in
      let q = and_parts (binds_few m) (binds_few n) p.1 in
      and_from _ _ p.0
      (and_from _ _ (few_put m q.0) (either binds_few (is_among x xs) n (program_substituted x e n) q.1 (few_put n q.1)))
  few_put (M.If a m n) h = both _ _ _ _ (λ i. few_put m i) (λ i. few_put n i) h
  few_put (M.Loop starts guard test m) h =
      either binds_few (is_among x (start_names starts)) (M.Loop (starts_substituted x e starts) guard test m)
      (M.Loop (starts_substituted x e starts) (substituted x e guard) (substituted x e test) (program_substituted x e m)) h
      (few_put m h)
  few_put _ _ = refl
