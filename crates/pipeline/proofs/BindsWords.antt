-- Each name that a lifted program binds is a word or a truth value, on bytes and on heaps.
use Rattle.std.proofs.Common.{◌≡◌, Bool, true, false, not, cond, ◌&&◌, ◌||◌, List, [], ◌∷◌, map, Option, Some, None, refl, sym, subst, ap, ◌∙◌}
use Rattle.std.proofs.lemmas.Bool.{and_parts, and_from}
use Rattle.c_values.specs.Name.{Name, is_among}
use Rattle.c_values.specs.Layout.{global_type}
use Rattle.expression_lang.specs.Expression as X
use Rattle.expression_lang.specs.Expression.{Exp}
use Rattle.expression_lang.specs.Mentions.{names as names_it}
use Rattle.expression_lang.specs.Sort.{Scalar, Kind, WordKind, Scope, is_truth, is_kind, word_sort_of, sort_of_kind}
use Rattle.expression_lang.specs.Signature.{Binder, Signature, signature, names_of, kinds_of}
use Rattle.expression_lang.specs.Sorted.{names_with, program_sort, same_scalars, result_scalars, call_scalars}
use Rattle.simpl_lang.specs.Command.{Simpl, Set, SetGlobal, Store, Pick, Seq, Cond, Guard, Catch, While, Call, kind_of}
use Rattle.simpl_lang.specs.Sorted.{is_sorted, are_conditions}
use Rattle.monad_lang.specs.Program as M
use Rattle.monad_lang.specs.Program.{Mon}
use Rattle.monad_lang.specs.Names.{is_free, is_in_some, is_in_start}
use Rattle.monad_lang.specs.Run.{start_names}
use Rattle.monad_lang.specs.Sorted.{Setting, setting_with, scalars_given, start_scalars, where_fits}
use Rattle.monad_lang.specs.Agree.{AgreeOn}
use Rattle.rule_local.specs.Assigned.{assigns}
use Rattle.rule_local.specs.Table.{vars, as_starts, conj, picked_kind}
use Rattle.rule_local.specs.Lifted.{chosen, kind_there, set_lifted, lifted}
use Rattle.monad_lang.proofs.Agreeing.{agree_left, agree_right}
use Rattle.rule_local.proofs.Parts.{free_after, starts_named}
use Rattle.rule_local.proofs.HandedOn.{chosen_passes}
use Rattle.rule_local.proofs.LiftedNames.{handed_on_assigned}
use Rattle.monad_lang.proofs.AgreeingSorts.{in_scope}
use Rattle.rule_local.proofs.LiftedSorted.{scalars_at, AllThere, names_are, agree_bound}
use Rattle.rule_heap.specs.HeapLifted.{is_pair, starts_lifted, on_heaps}
use Rattle.rule_heap.proofs.HeapTaken.{starts_named as still_named}
use Rattle.rule_heap.proofs.HeapFormed.{scalars_stay, starts_sorted}
use Rattle.rule_word.specs.Rule.{Context}
use Rattle.rule_word.specs.ProgramsAbstracted.{scalars_there, are_words_or_truths, binds_words}
use Rattle.pipeline.proofs.LiftedSorts.{Lifting, setting_at, local_there, words_there, gives_before, starts_give, loop_names, loop_gives}

-- what gives nothing, what picks, and what calls

nothing_words : (b : Bool) → are_words_or_truths (scalars_there (where_fits b (Some []))) ≡ true
nothing_words true = refl
nothing_words false = refl

picked_words : (o : Option Kind) (b : Bool) →
    are_words_or_truths (scalars_there (where_fits b (Some (sort_of_kind (kind_there (picked_kind o)) ∷ [])))) ≡ true
picked_words o false = refl
picked_words (Some (WordKind n)) true = refl
picked_words _ _ = refl

kind_words : (k : Kind) → are_words_or_truths (word_sort_of k ∷ []) ≡ true
kind_words (WordKind n) = refl
kind_words _ = refl

call_words : (o : Option Signature) (p : Option (List Scalar)) →
    are_words_or_truths (scalars_there (call_scalars word_sort_of o p)) ≡ true
call_words (Some s) (Some cs) = by_test (same_scalars (map word_sort_of (kinds_of s.params)) cs) s.result
  where
    by_test : (b : Bool) (r : Option Kind) →
        are_words_or_truths (scalars_there (cond b (Some (result_scalars word_sort_of r)) None)) ≡ true
    by_test true (Some k) = kind_words k
    by_test _ _ = refl
call_words _ _ = refl

-- on heaps as on bytes

pair_binds : (t : Setting) (m : Mon) (xs : List Name) (n : Mon) → is_pair m xs n ≡ true → binds_words t (M.Bind m xs n) ≡ true →
    binds_words t n ≡ true
pair_binds t (M.Guard (X.PtrOk u p)) [] (M.Bind (M.Guard (X.Tagged v q)) [] r) e h = (and_parts _ _ h).1
pair_binds t m xs n e h = absurd cc

starts_stay : (us : List Name) → starts_lifted (as_starts us) ≡ as_starts us
starts_stay [] = refl
starts_stay (u ∷ us) = ap (λ xs. record { name = u; exp = X.Var u } ∷ xs) (starts_stay us)

module _ (ctx : Context) (ns : Name → Option Scalar) (ls : List Binder) (ss : List Signature) (known : Lifting ctx ns ls ss) where
  abbrev g : Scope
  g = in_scope ctx.layout (global_type ctx.globals) ns

  abbrev at : (Name → Option Scalar) → Setting
  at ms = setting_at ctx ns ls ss known ms

  abbrev Binds : (Name → Option Scalar) → Mon → Type 0
  Binds ms m = binds_words (at ms) m ≡ true

  -- a part that gives words, and then the outputs
  then_vars : (ms : Name → Option Scalar) (m : Mon) (xs vs : List Name) →
      are_words_or_truths (scalars_there (scalars_given (at ms) m)) ≡ true → Binds ms m → Binds ms (M.Bind m xs (M.Ret (vars vs)))
  then_vars ms m xs vs h i = and_from _ _ (and_from _ _ h i) refl

  set_binds : (ms : Name → Option Scalar) (b : Bool) (x : Name) (e : Exp) (vs : List Name) → Binds ms (set_lifted b x e vs).right
  set_binds ms true x e vs = refl
  set_binds ms false x e vs = refl

  -- names that are handed on
  hand_on : (ms : Name → Option Scalar) (m n : Mon) (us : List Name) → scalars_given (at ms) m ≡ Some (scalars_at ns us) →
      Binds ms m → Binds (names_with us (scalars_at ns us) ms) n → Binds ms (M.Bind m us n)
  hand_on ms m n us e h i =
      and_from _ _ (and_from _ _ (ap (λ o. are_words_or_truths (scalars_there o)) e ∙ words_there ctx ns ls ss known us) h)
      (subst (λ o. Binds (names_with us (scalars_there o) ms) n) (sym e) i)

  loop_binds : (ms : Name → Option Scalar) (guard test : Exp) (m : Mon) (us : List Name) →
      start_scalars (at ms).scope (starts_lifted (as_starts us)) ≡ Some (scalars_at ns us) →
      Binds (names_with us (scalars_at ns us) ms) m → Binds ms (M.Loop (as_starts us) guard test m)
  loop_binds ms guard test m us e h =
      subst (λ xs. Binds (names_with xs (scalars_there (start_scalars (at ms).scope (as_starts us))) ms) m)
      (sym (starts_named us))
      (subst (λ o. Binds (names_with us (scalars_there o) ms) m)
      (sym (ap (λ xs. start_scalars (at ms).scope xs) (sym (starts_stay us)) ∙ e)) h)

  pub lifted_binds : (a : Simpl) → is_sorted (in_scope ctx.layout (global_type ctx.globals) ns) ss a ≡ true → (vs : List Name) →
      AllThere ns vs → (ms : Name → Option Scalar) → AgreeOn (λ y. is_free y (lifted ls a vs).right) ms ns →
      binds_words (setting_at ctx ns ls ss known ms) (lifted ls a vs).right ≡ true
  lifted_binds (Set x e) w vs t ms h = set_binds ms (is_among x vs) x e vs
  lifted_binds (SetGlobal x path e) w vs t ms h = then_vars ms (M.Write (M.Global x path) e) [] vs (nothing_words _) refl
  lifted_binds (Store u p path e) w vs t ms h = then_vars ms (M.Write (M.Stored u p path) e) [] vs (nothing_words _) refl
  lifted_binds (Pick x) w vs t ms h =
      then_vars ms (M.Pick (kind_there (picked_kind (kind_of ls x)))) (x ∷ []) vs
      (picked_words (kind_of ls x) (is_kind (kind_there (picked_kind (kind_of ls x))))) refl
  lifted_binds (Seq a b) w vs t ms h =
      let p = and_parts (is_sorted g ss a) (is_sorted g ss b) w in
      let second = (lifted ls b vs).right in
      let us = chosen (λ y. assigns y a && is_free y second) (names_of ls) in
      let first = (lifted ls a us).right in
      let tu : AllThere ns us =
      λ y j. local_there ctx ns ls ss known y (chosen_passes (λ z. assigns z a && is_free z second) y (names_of ls) j).1 in
      let ha = agree_left (λ y. is_free y first) (λ y. not (is_among y us) && is_free y second) ms ns h in
      hand_on ms first second us (gives_before ctx ns ls ss known a p.0 us tu ms ha) (lifted_binds a p.0 us tu ms ha)
      (lifted_binds b p.1 vs t (names_with us (scalars_at ns us) ms)
      (agree_bound ns (λ y. is_free y first) (λ y. is_free y second) us ms tu h))
  lifted_binds (Cond e a b) w vs t ms h =
      let p = and_parts (is_truth (program_sort g e) && is_sorted g ss a) (is_sorted g ss b) w in
      let q = and_parts (is_truth (program_sort g e)) (is_sorted g ss a) p.0 in
      let m = (lifted ls a vs).right in
      let n = (lifted ls b vs).right in
      let c = agree_left (λ y. names_it y e || is_free y m) (λ y. is_free y n) ms ns h in
      and_from _ _ (lifted_binds a q.1 vs t ms (agree_right (λ y. names_it y e) (λ y. is_free y m) ms ns c))
      (lifted_binds b p.1 vs t ms (agree_right (λ y. names_it y e || is_free y m) (λ y. is_free y n) ms ns h))
  lifted_binds (Guard c a) w vs t ms h =
      let p = and_parts (is_truth (program_sort g c.exp)) (is_sorted g ss a) w in
      let m = (lifted ls a vs).right in
      and_from _ _ (and_from _ _ (nothing_words (is_truth (program_sort (at ms).scope c.exp))) refl)
      (lifted_binds a p.1 vs t ms (agree_right (λ y. names_it y c.exp) (λ y. is_free y m) ms ns h))
  lifted_binds (Catch a b) w vs t ms h = lifted_binds a (and_parts (is_sorted g ss a) (is_sorted g ss b) w).0 vs t ms h
  lifted_binds (While cs e a) w vs t ms h =
      let p = and_parts (are_conditions g cs && is_truth (program_sort g e)) (is_sorted g ss a) w in
      let us = loop_names ctx ns ls ss known cs e a vs in
      let m = (lifted ls a us).right in
      let loop = M.Loop (as_starts us) (conj cs) e m in
      let test = λ (y : Name). names_it y (conj cs) || names_it y e || is_free y m in
      let tu : AllThere ns us =
      λ y j. local_there ctx ns ls ss known y (handed_on_assigned (names_of ls) cs e a (λ vs. (lifted ls a vs).right) vs y j).1 in
      let of_loop : AgreeOn (λ y. is_in_start y (as_starts us) ||
      (not (is_among y (start_names (as_starts us))) && test y)) ms ns =
      agree_left (λ y. is_free y loop) (λ y. not (is_among y us) && is_in_some y (vars vs)) ms ns h in
      let starts = agree_left (λ y. is_in_start y (as_starts us))
      (λ y. not (is_among y (start_names (as_starts us))) && test y) ms ns of_loop in
      let inner = names_with us (scalars_at ns us) ms in
      let within : AgreeOn test inner ns =
      λ y j. names_are ns y us ms tu (λ i. free_after (λ z. is_in_start z (as_starts us)) test
      (start_names (as_starts us)) ms ns of_loop y j (ap (is_among y) (starts_named us) ∙ i)) in
      let given = sym (scalars_stay (at ms) loop) ∙ loop_gives ctx ns ls ss known cs e a vs w t tu ms h starts in
      hand_on ms loop (M.Ret (vars vs)) us given
      (loop_binds ms (conj cs) e m us (starts_give ctx ns ls ss known ms us tu starts)
      (lifted_binds a p.1 us tu inner (agree_right (λ y. names_it y (conj cs) || names_it y e)
      (λ y. is_free y m) inner ns within))) refl
  lifted_binds (Call (Some x) f es) w vs t ms h =
      then_vars ms (M.Call f es) (x ∷ []) vs (call_words (signature ctx.functions f) _) refl
  lifted_binds (Call None f es) w vs t ms h = then_vars ms (M.Call f es) [] vs (call_words (signature ctx.functions f) _) refl
  lifted_binds _ _ _ _ _ _ = refl

pub binds_stay : (t : Setting) (m : Mon) → binds_words t m ≡ true → binds_words t (on_heaps m) ≡ true
binds_stay t (M.Bind m xs n) h = by_pair (is_pair m xs n) refl (λ i. binds_stay t m i) (λ t i. binds_stay t n i)
  where
    by_pair : (b : Bool) → is_pair m xs n
        ≡ b → (binds_words t m ≡ true → binds_words t (on_heaps m) ≡ true) →
        ((t : Setting) → binds_words t n ≡ true → binds_words t (on_heaps n) ≡ true) →
        binds_words t (cond b (on_heaps n) (M.Bind (on_heaps m) xs (on_heaps n))) ≡ true
    by_pair true e first second = second t (pair_binds t m xs n e h)
    by_pair false e first second =
        let cs = scalars_there (scalars_given t m) in
        let p = and_parts (are_words_or_truths cs && binds_words t m) (binds_words (setting_with xs cs t) n) h in
        let q = and_parts (are_words_or_truths cs) (binds_words t m) p.0 in
        subst (λ o. (are_words_or_truths (scalars_there o) && binds_words t (on_heaps m)
        && binds_words (setting_with xs (scalars_there o) t) (on_heaps n)) ≡ true) (sym (scalars_stay t m))
        (and_from _ _ (and_from _ _ q.0 (first q.1)) (second (setting_with xs cs t) p.1))
binds_stay t (M.If e m n) h =
    let p = and_parts (binds_words t m) (binds_words t n) h in and_from _ _ (binds_stay t m p.0) (binds_stay t n p.1)
binds_stay t (M.Loop starts guard test m) h =
    subst (λ xs. binds_words (setting_with xs (scalars_there (start_scalars t.scope (starts_lifted starts))) t) (on_heaps m)
    ≡ true) (sym (still_named starts))
    (subst (λ o. binds_words (setting_with (start_names starts) (scalars_there o) t) (on_heaps m) ≡ true)
    (sym (starts_sorted t.scope starts)) (binds_stay _ m h))
binds_stay _ _ _ = refl
