-- The law of substitution: a program with an expression in place of a name does what the program does where the name holds the expression's
-- value, if the expression doesn't look at a state that may have changed and none of its names is captured.
use Rattle.std.proofs.Common.{◌≡◌, ℕ, Bool, true, false, not, cond, ◌&&◌, ◌||◌, List, [], ◌∷◌, Option, Some, refl, sym, ap, ap₂, ◌∙◌}
use Rattle.std.proofs.lemmas.Bool.{or_parts, or_left, or_right, true≢false}
use Rattle.correspondence.specs.Outcome.{Done}
use Rattle.c_values.specs.Name.{Name, same_name, is_among}
use Rattle.c_values.specs.Value.{Value, truth_in}
use Rattle.c_values.specs.Layout.{Layout, IsLayout, GlobalVar}
use Rattle.c_values.specs.Choice.{Choice}
use Rattle.c_values.proofs.Laid.{name_is}
use Rattle.c_memory.specs.Heap.{heap_tags}
use Rattle.expression_lang.specs.Expression.{Exp, Path, Here, IntoField, IntoElement}
use Rattle.expression_lang.specs.Evaluation.{Env, State, value}
use Rattle.expression_lang.specs.Form.{path_has}
use Rattle.expression_lang.specs.Mentions as X
use Rattle.expression_lang.specs.Mentions.{is_name, reads}
use Rattle.ac_expr.specs.Substituted.{substituted, path_substituted}
use Rattle.expression_lang.specs.Sort.{Scalar}
use Rattle.expression_lang.specs.Sorted.{names_with}
use Rattle.expression_lang.specs.Signature.{Signature, values_of, bound}
use Rattle.expression_lang.proofs.Bound.{bound_stays}
use Rattle.monad_lang.specs.Agree.{AgreeOn}
use Rattle.monad_lang.proofs.AgreeingValues.{value_agrees}
use Rattle.ac_expr.proofs.SubstitutedValues.{held_left, held_right, value_put}
use Rattle.ac_expr.specs.Heads.{hole, path_children, path_head}
use Rattle.ac_expr.proofs.SameValues.{unread_same}
use Rattle.monad_lang.specs.Program as M
use Rattle.monad_lang.specs.Program.{Mon, Place, Start}
use Rattle.monad_lang.specs.Names.{is_free, is_captured, is_in_some, is_in_start, is_in_place}
use Rattle.program_facts.specs.Substituted.{each_substituted, starts_substituted, place_substituted, program_substituted}
use Rattle.monad_lang.specs.Run.{Answer, Runs, runs, start_names, start_values}
use Rattle.monad_lang.specs.Sorted.{scalars_given}
use Rattle.program_facts.specs.Places.{place_children, place_head}
use Rattle.program_facts.proofs.KeepsTags.{runs_keep_tags}
use Rattle.rule_eq.proofs.Bound.{AsMany, bound_still, bound_alike}
use Rattle.rule_eq.proofs.Together.{Respects, Pairs, keep_left, Does, ret_does, guard_does, choice_does, bind_does, write_does, call_does, pick_does, loop_does}
use Rattle.rule_eq.proofs.Agrees.{NamesInScope, scope, setting, Starts, bind_parts, behind, choice_parts, LoopParts, loop_parts, Turning, turn_starts, next_turn, starts_many, begun, can_call, agrees}

pub right_false : (a b : Bool) → a ≡ true → (a && b) ≡ false → b ≡ false
right_false true b e h = h
right_false false b e h = absurd cc

pub left_false : (a b : Bool) → b ≡ true → (a && b) ≡ false → a ≡ false
left_false true b e h = absurd (true≢false (sym e ∙ h))
left_false false b e h = refl

-- what is not among the names is not the one that is
pub other_one : (x y : Name) (xs : List Name) → is_among x xs ≡ true → is_among y xs ≡ false → same_name x y ≡ false
other_one x y xs h k = by_test (same_name x y) refl
  where
    by_test : (b : Bool) → same_name x y ≡ b → b ≡ false
    by_test true e = absurd (true≢false (sym h ∙ ap (λ z. is_among z xs) (name_is x y e) ∙ k))
    by_test false e = refl

module _ (x : Name) (e : Exp) where
  pub path_head_put : (path : Path) → path_head (path_substituted x e path) ≡ path_head path
  path_head_put Here = refl
  path_head_put (IntoField k path) = ap (λ q. IntoField k q) (path_head_put path)
  path_head_put (IntoElement a path) = ap (λ q. IntoElement hole q) (path_head_put path)

  pub place_head_put : (q : Place) → place_head (place_substituted x e q) ≡ place_head q
  place_head_put (M.Stored t a path) = ap (λ w. M.Stored t hole w) (path_head_put path)
  place_head_put (M.Written t a path) = ap (λ w. M.Written t hole w) (path_head_put path)
  place_head_put (M.Global y path) = ap (λ w. M.Global y w) (path_head_put path)

  pub start_names_put : (xs : List Start) → start_names (starts_substituted x e xs) ≡ start_names xs
  start_names_put [] = refl
  start_names_put (s ∷ ss) = ap (λ ys. s.name ∷ ys) (start_names_put ss)

  module _ (l : Layout) (env env' : Env) (s : State) (others : (y : Name) → same_name x y ≡ false → env' y ≡ env y) where
    abbrev Held : Bool → Type 0
    Held b = b ≡ true → env' x ≡ value l env s e

    left : (a b : Bool) → Held (a || b) → Held a
    left = held_left l x e env env' s others

    right : (a b : Bool) → Held (a || b) → Held b
    right = held_right l x e env env' s others

    pub one_put : (a : Exp) → Held (X.names x a) → value l env s (substituted x e a) ≡ value l env' s a
    one_put = value_put l x e env env' s others

    pub each_put : (es : List Exp) → Held (is_in_some x es) → values_of l env s (each_substituted x e es) ≡ values_of l env' s es
    each_put [] h = refl
    each_put (a ∷ as') h = ap₂ (λ v vs. v ∷ vs) (one_put a (left (X.names x a) (is_in_some x as') h)) (each_put as' (right (X.names x a) (is_in_some x as') h))

    pub starts_put : (xs : List Start) → Held (is_in_start x xs) → start_values l env s (starts_substituted x e xs) ≡ start_values l env' s xs
    starts_put [] h = refl
    starts_put (a ∷ as') h = ap₂ (λ v vs. v ∷ vs) (one_put a.exp (left (X.names x a.exp) (is_in_start x as') h)) (starts_put as' (right (X.names x a.exp) (is_in_start x as') h))

    path_put : (path : Path) → Held (path_has (is_name x) path) → values_of l env s (path_children (path_substituted x e path)) ≡ values_of l env' s (path_children path)
    path_put Here h = refl
    path_put (IntoField k path) h = path_put path h
    path_put (IntoElement a path) h =
        ap₂ (λ v vs. v ∷ vs) (one_put a (left (X.names x a) (path_has (is_name x) path) h)) (path_put path (right (X.names x a) (path_has (is_name x) path) h))

    pub place_put : (q : Place) → Held (is_in_place x q) → values_of l env s (place_children (place_substituted x e q)) ≡ values_of l env' s (place_children q)
    place_put (M.Stored t a path) h = path_put (IntoElement a path) h
    place_put (M.Written t a path) h = path_put (IntoElement a path) h
    place_put (M.Global y path) h = path_put path h

module _ (l : Layout) (laid : IsLayout l) (p : Choice) (vs : List GlobalVar) (sigs : List Signature) (P : Mon → Env → State → Type 0) (respects : Respects l P) (x : Name) (e : Exp) where
  abbrev DoesSame : Mon → Mon → Env → Env → Option ℕ → List Runs → List Runs → State → Type 0
  DoesSame = Does l p vs sigs P respects

  abbrev Sorted : NamesInScope → Mon → Option (List Scalar)
  Sorted names m = scalars_given (setting l laid p vs sigs P respects names) m

  abbrev Begun : NamesInScope → Env → List Runs → List Runs → State → Type 0
  Begun = Starts l laid p vs sigs P respects

  -- all names but one are the same
  abbrev pub Others : Env → Env → Type 0
  Others env env' = (y : Name) → same_name x y ≡ false → env' y ≡ env y

  -- and this one holds the expression's value, whatever the state
  pub record HeldAt (env env' : Env) (s : State) : Type 0 where
    pub unread : reads e ≡ false
    pub held : env' x ≡ value l env s e

  abbrev Where : Bool → Env → Env → State → Type 0
  Where b env env' s = b ≡ true → HeldAt env env' s

  first : (a b : Bool) (env env' : Env) (s : State) → Where (a || b) env env' s → Where a env env' s
  first a b env env' s h k = h (or_left a b k)

  second : (a b : Bool) (env env' : Env) (s : State) → Where (a || b) env env' s → Where b env env' s
  second a b env env' s h k = h (or_right a b k)

  -- inside a binder of other names, none of which is captured, and in a state with the same tags
  under : (xs : List Name) (us : List Value) (b : Bool) (env env' : Env) (s t : State) → heap_tags t.heap ≡ heap_tags s.heap → is_among x xs ≡ false → (b ≡ true → (y : Name) → X.names y e ≡ true → is_among y xs ≡ false) →
      Where b env env' s → Where b (bound xs us env) (bound xs us env') t
  under xs us b env env' s t tags away apart h k =
      let w = h k in
      record {
        unread = w.unread;
        held = bound_stays x xs us env' away ∙ w.held ∙ unread_same l env s t tags e w.unread ∙ sym (value_agrees l (bound xs us env) env t e (λ y i. bound_stays y xs us env (apart k y i)));
      }

  abbrev NotCaptured : Mon → Type 0
  NotCaptured m = (y : Name) → X.names y e ≡ true → is_captured y x m ≡ false

  -- what a binder says that captures nothing
  abbrev Binds : List Name → Bool → (Name → Bool) → Type 0
  Binds xs free captured = (y : Name) → X.names y e ≡ true → (not (is_among x xs) && ((is_among y xs && free) || captured y)) ≡ false

  away_from : (xs : List Name) (free : Bool) (captured : Name → Bool) → Binds xs free captured → is_among x xs ≡ false → free ≡ true → (y : Name) → X.names y e ≡ true → is_among y xs ≡ false
  away_from xs free captured h away f y i =
      left_false (is_among y xs) free f (or_parts (is_among y xs && free) (captured y) (right_false (not (is_among x xs)) ((is_among y xs && free) || captured y) (ap not away) (h y i))).0

  inside_of : (xs : List Name) (free : Bool) (captured : Name → Bool) → Binds xs free captured → is_among x xs ≡ false → (y : Name) → X.names y e ≡ true → captured y ≡ false
  inside_of xs free captured h away y i =
      (or_parts (is_among y xs && free) (captured y) (right_false (not (is_among x xs)) ((is_among y xs && free) || captured y) (ap not away) (h y i))).1

  -- free inside a binder of other names, and so free
  within : (xs : List Name) (b : Bool) (env env' : Env) (s : State) → is_among x xs ≡ false → Where (not (is_among x xs) && b) env env' s → Where b env env' s
  within xs b env env' s away h k = h (ap (λ a. not a && b) away ∙ k)

  -- inside a binder of the name both are the same
  same_inside : (test : Name → Bool) (xs : List Name) (us : List Value) (env env' : Env) → AsMany xs us → is_among x xs ≡ true → Others env env' → AgreeOn test (bound xs us env) (bound xs us env')
  same_inside test xs us env env' many here others y i = bound_alike y xs us env' env many (λ n. sym (others y (other_one x y xs here n)))

  still : (xs : List Name) (us : List Value) (env env' : Env) → Others env env' → Others (bound xs us env) (bound xs us env')
  still xs us env env' others y n = bound_still y xs us env env' (others y n)

  -- what is to be shown of a program where these names are in scope
  abbrev pub Law : NamesInScope → Mon → Type 1
  Law names m = (env env' : Env) (depth : Option ℕ) (fs gs : List Runs) (s : State) → Others env env' → Where (is_free x m) env env' s → NotCaptured m → Begun names env' fs gs s → DoesSame m (program_substituted x e m) env' env depth fs gs s

  -- behind a binder, whether or not it binds the name
  second_does : (xs : List Name) (n : Mon) (names : NamesInScope) (cs : List Scalar) → Sorted names n ≡ Some cs → Law names n → Binds xs (is_free x n) (λ y. is_captured y x n) → (d : Bool) → is_among x xs ≡ d →
      (env env' : Env) (depth : Option ℕ) (fs gs : List Runs) (s t : State) (us : List Value) → AsMany xs us → heap_tags t.heap ≡ heap_tags s.heap → Others env env' → Where (not (is_among x xs) && is_free x n) env env' s →
      Begun names (bound xs us env') fs gs t → DoesSame n (cond d n (program_substituted x e n)) (bound xs us env') (bound xs us env) depth fs gs t
  second_does xs n names cs sorted law binds true i env env' depth fs gs s t us many tags others h w =
      agrees l laid p vs sigs P respects n names cs sorted (bound xs us env') (bound xs us env) (same_inside (λ y. is_free y n) xs us env env' many i others) depth fs gs t w
  second_does xs n names cs sorted law binds false i env env' depth fs gs s t us many tags others h w =
      law (bound xs us env) (bound xs us env') depth fs gs t (still xs us env env' others)
      (under xs us (is_free x n) env env' s t tags i (away_from xs (is_free x n) (λ y. is_captured y x n) binds i) (within xs (is_free x n) env env' s i h)) (inside_of xs (is_free x n) (λ y. is_captured y x n) binds i) w

  -- a turn may begin, and the tags are those of the start
  record TurningWith (ss : List Scalar) (s : State) (a : Answer) : Type 0 where
    pub turning : Turning l laid p vs sigs P respects ss a
    pub tags : heap_tags a.state.heap ≡ heap_tags s.heap

  -- a loop, whether or not it binds the name
  module _ (starts : List Start) (guard test : Exp) (m : Mon) (names : NamesInScope) (k : LoopParts l laid p vs sigs P respects names starts guard test m)
      (law : Law (names_with (start_names starts) k.given names) m) (binds : Binds (start_names starts) (X.names x guard || X.names x test || is_free x m) (λ y. is_captured y x m))
      (env env' : Env) (depth : Option ℕ) (fs gs : List Runs) (s : State) (others : Others env env')
      (h : Where (is_in_start x starts || (not (is_among x (start_names starts)) && (X.names x guard || X.names x test || is_free x m))) env env' s) (w : Begun names env' fs gs s) where
    abbrev xs : List Name
    xs = start_names starts

    abbrev some_free : Bool
    some_free = X.names x guard || X.names x test || is_free x m

    abbrev loop_names : NamesInScope
    loop_names = names_with xs k.given names

    begins : start_values l env s (starts_substituted x e starts) ≡ start_values l env' s starts
    begins = starts_put x e l env env' s others starts (λ j. (first (is_in_start x starts) (not (is_among x xs) && some_free) env env' s h j).held)

    begins_with : TurningWith k.given s (record { values = start_values l env' s starts; state = s })
    begins_with = record { turning = begun l laid p vs sigs P respects names starts k.given k.starts_given env' fs gs s w; tags = refl }

    starts_there : (hs js : List Runs) → Pairs l p vs sigs P respects hs js → (a : Answer) → TurningWith k.given s a → Begun loop_names (bound xs a.values env') hs js a.state
    starts_there hs js paired a t = turn_starts l laid p vs sigs P respects names starts k.given env' a hs js paired w.environment t.turning

    next : (guard' test' : Exp) (hs js : List Runs) → Pairs l p vs sigs P respects hs js → (a : Answer) → TurningWith k.given s a → (b : Answer) → runs l p m (bound xs a.values env') depth hs a.state (Done b) → TurningWith k.given s b
    next guard' test' hs js paired a t b r =
        record {
          turning = next_turn l laid p vs sigs P respects names starts k.given m k.body env' depth a hs js paired w.environment t.turning b r;
          tags = runs_keep_tags l p m (bound xs a.values env') depth hs (keep_left l p vs sigs P respects hs js paired) a.state b r ∙ t.tags;
        }

    many : (a : Answer) → TurningWith k.given s a → AsMany xs a.values
    many a t = starts_many l laid p vs sigs P respects (scope l laid p vs sigs P respects names) starts k.given k.starts_given a.values t.turning.values

    bound_does : is_among x xs ≡ true → DoesSame (M.Loop starts guard test m) (M.Loop (starts_substituted x e starts) guard test m) env' env depth fs gs s
    bound_does i =
        loop_does l p vs sigs P respects starts (starts_substituted x e starts) guard guard test test m m env' env depth (TurningWith k.given s)
        (λ a t. ap truth_in (value_agrees l (bound xs a.values env) (bound xs a.values env') a.state guard (same_inside (λ y. X.names y guard) xs a.values env env' (many a t) i others)))
        (λ a t j. ap truth_in (value_agrees l (bound xs a.values env) (bound xs a.values env') a.state test (same_inside (λ y. X.names y test) xs a.values env env' (many a t) i others)))
        (λ hs js paired a t j. agrees l laid p vs sigs P respects m loop_names k.given k.body (bound xs a.values env') (bound xs a.values env) (same_inside (λ y. is_free y m) xs a.values env env' (many a t) i others) depth hs js a.state (starts_there hs js paired a t))
        (λ hs js paired a t b r r'. next guard test hs js paired a t b r)
        fs gs w.functions s (start_names_put x e starts) begins begins_with

    -- inside, where the name is another one
    inside_held : is_among x xs ≡ false → (a : Answer) → TurningWith k.given s a → Where some_free (bound xs a.values env) (bound xs a.values env') a.state
    inside_held i a t =
        under xs a.values some_free env env' s a.state t.tags i (away_from xs some_free (λ y. is_captured y x m) binds i)
        (within xs some_free env env' s i (second (is_in_start x starts) (not (is_among x xs) && some_free) env env' s h))

    free_does : is_among x xs ≡ false → DoesSame (M.Loop starts guard test m) (M.Loop (starts_substituted x e starts) (substituted x e guard) (substituted x e test) (program_substituted x e m)) env' env depth fs gs s
    free_does i =
        loop_does l p vs sigs P respects starts (starts_substituted x e starts) guard (substituted x e guard) test (substituted x e test) m (program_substituted x e m) env' env depth (TurningWith k.given s)
        (λ a t. ap truth_in (one_put x e l (bound xs a.values env) (bound xs a.values env') a.state (still xs a.values env env' others) guard (λ j. (tested a t (X.names x guard) (X.names x test) (is_free x m) (inside_held i a t)).0 j)))
        (λ a t j. ap truth_in (one_put x e l (bound xs a.values env) (bound xs a.values env') a.state (still xs a.values env env' others) test (λ j. (tested a t (X.names x guard) (X.names x test) (is_free x m) (inside_held i a t)).1 j)))
        (λ hs js paired a t j. law (bound xs a.values env) (bound xs a.values env') depth hs js a.state (still xs a.values env env' others)
        (second (X.names x guard || X.names x test) (is_free x m) (bound xs a.values env) (bound xs a.values env') a.state (inside_held i a t)) (inside_of xs some_free (λ y. is_captured y x m) binds i) (starts_there hs js paired a t))
        (λ hs js paired a t b r r'. next guard test hs js paired a t b r)
        fs gs w.functions s (start_names_put x e starts) begins begins_with
      where
        tested : (a : Answer) → TurningWith k.given s a → (b c d : Bool) → Where ((b || c) || d) (bound xs a.values env) (bound xs a.values env') a.state →
            (b ≡ true → bound xs a.values env' x ≡ value l (bound xs a.values env) a.state e) × (c ≡ true → bound xs a.values env' x ≡ value l (bound xs a.values env) a.state e)
        tested a t b c d g =
            let f = first (b || c) d (bound xs a.values env) (bound xs a.values env') a.state g in
            (λ j. (first b c (bound xs a.values env) (bound xs a.values env') a.state f j).held, λ j. (second b c (bound xs a.values env) (bound xs a.values env') a.state f j).held)

    pub whole_does : (d : Bool) → is_among x xs ≡ d →
        DoesSame (M.Loop starts guard test m) (cond d (M.Loop (starts_substituted x e starts) guard test m) (M.Loop (starts_substituted x e starts) (substituted x e guard) (substituted x e test) (program_substituted x e m))) env' env depth fs gs s
    whole_does true i = bound_does i
    whole_does false i = free_does i

  pub substituted_does : (m : Mon) (names : NamesInScope) (cs : List Scalar) → Sorted names m ≡ Some cs → Law names m
  substituted_does (M.Ret es) names cs sorted env env' depth fs gs s others h c w =
      ret_does l p vs sigs P respects es (each_substituted x e es) env' env depth fs gs s (each_put x e l env env' s others es (λ k. (h k).held))
  substituted_does (M.Guard a) names cs sorted env env' depth fs gs s others h c w =
      guard_does l p vs sigs P respects a (substituted x e a) env' env depth fs gs s (one_put x e l env env' s others a (λ k. (h k).held))
  substituted_does (M.If a m n) names cs sorted env env' depth fs gs s others h c w =
      let k = choice_parts l laid p vs sigs P respects names a m n cs sorted in
      let f = first (X.names x a || is_free x m) (is_free x n) env env' s h in
      choice_does l p vs sigs P respects a (substituted x e a) m (program_substituted x e m) n (program_substituted x e n) env' env depth fs gs s
      (one_put x e l env env' s others a (λ i. (first (X.names x a) (is_free x m) env env' s f i).held))
      (λ i. substituted_does m names cs k.first env env' depth fs gs s others (second (X.names x a) (is_free x m) env env' s f) (λ y j. (or_parts (is_captured y x m) (is_captured y x n) (c y j)).0) w)
      (λ i. substituted_does n names cs k.second env env' depth fs gs s others (second (X.names x a || is_free x m) (is_free x n) env env' s h) (λ y j. (or_parts (is_captured y x m) (is_captured y x n) (c y j)).1) w)
  substituted_does (M.Write q a) names cs sorted env env' depth fs gs s others h c w =
      write_does l p vs sigs P respects q (place_substituted x e q) a (substituted x e a) env' env depth fs gs s (place_head_put x e q)
      (place_put x e l env env' s others q (λ k. (first (is_in_place x q) (X.names x a) env env' s h k).held)) (one_put x e l env env' s others a (λ k. (second (is_in_place x q) (X.names x a) env env' s h k).held))
  substituted_does (M.Call f es) names cs sorted env env' depth fs gs s others h c w =
      call_does l p vs sigs P respects f es (each_substituted x e es) env' env depth fs gs s w.functions (can_call l laid p vs sigs P respects names f es cs sorted env' fs gs s w)
      (each_put x e l env env' s others es (λ k. (h k).held))
  substituted_does (M.Pick k) names cs sorted env env' depth fs gs s others h c w = pick_does l p vs sigs P respects k env' env depth fs gs s
  substituted_does (M.Bind m xs n) names cs sorted env env' depth fs gs s others h c w =
      let b = bind_parts l laid p vs sigs P respects names m xs n cs sorted in
      let inner = not (is_among x xs) && is_free x n in
      bind_does l p vs sigs P respects m (program_substituted x e m) xs n (cond (is_among x xs) n (program_substituted x e n)) env' env depth fs gs s
      (substituted_does m names b.given b.first env env' depth fs gs s others (first (is_free x m) inner env env' s h) (λ y i. (or_parts (is_captured y x m) _ (c y i)).0) w)
      (λ a r r'. let k = behind l laid p vs sigs P respects names m xs n cs b env' depth fs gs s w a r in
      second_does xs n (names_with xs b.given names) cs b.second (substituted_does n (names_with xs b.given names) cs b.second) (λ y i. (or_parts (is_captured y x m) _ (c y i)).1) (is_among x xs) refl
      env env' depth fs gs s a.state a.values k.1 (runs_keep_tags l p m env' depth fs (keep_left l p vs sigs P respects fs gs w.functions) s a r) others (second (is_free x m) inner env env' s h) k.0)
  substituted_does (M.Loop starts guard test m) names cs sorted env env' depth fs gs s others h c w =
      let k = loop_parts l laid p vs sigs P respects names starts guard test m cs sorted in
      whole_does starts guard test m names k (substituted_does m (names_with (start_names starts) k.given names) k.given k.body) c env env' depth fs gs s others h w (is_among x (start_names starts)) refl
