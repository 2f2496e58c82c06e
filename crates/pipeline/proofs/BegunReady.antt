-- The body of a function: what begins with zeros, and the rest. Where words stay words, all is ready.
use Rattle.std.proofs.Common.{◌≡◌, ℕ, ◌==◌, ◌^◌, nat_lt, Bool, true, false, not, ◌&&◌, ◌||◌, List, [], ◌∷◌, Option, Some, None, ◌⊎◌, inl, inr, refl, sym, subst, ap, ap₂, ◌∙◌, eqb-true}
use Rattle.std.proofs.lemmas.Bool.{false≢true, and_from, or_left, or_right, not_from_false, cases_Bool}
use Rattle.c_values.specs.Name.{Name, same_name, is_among}
use Rattle.c_values.specs.Layout.{global_type}
use Rattle.c_values.proofs.Laid.{same_name-refl}
use Rattle.expression_lang.specs.Expression.{Exp}
use Rattle.expression_lang.specs.Sort.{Scalar, WordSort, Of, Kind, WordKind, NatKind, IntKind, BoolKind, is_kind, is_width, where_holds, word_sort_of}
use Rattle.expression_lang.specs.Signature.{Binder, Signature, names_of}
use Rattle.expression_lang.specs.Sorted.{names_with, program_sort, scalar_in, with_scalar, scalars_of}
use Rattle.simpl_lang.specs.Command.{Simpl, kind_of}
use Rattle.simpl_lang.specs.Names.{command_names}
use Rattle.simpl_lang.specs.Sorted.{is_sorted}
use Rattle.monad_lang.specs.Program as M
use Rattle.monad_lang.specs.Program.{Mon}
use Rattle.monad_lang.specs.Names.{is_free}
use Rattle.monad_lang.specs.Sorted.{scalars_given}
use Rattle.ac_expr.specs.Fact.{Fact}
use Rattle.monad_lang.specs.Agree.{AgreeOn}
use Rattle.rule_local.specs.Table.{zero_exp, zero_first, zeros}
use Rattle.rule_local.specs.Lifted.{Lifted, chosen, lifted, zeros_there, begun, locals_lifted}
use Rattle.rule_local.proofs.HandedOn.{among_chosen, chosen_passes}
use Rattle.rule_local.proofs.LiftedTaken.{local_kind}
use Rattle.rule_local.proofs.LiftedNames.{lifted_names}
use Rattle.rule_local.proofs.InScope.{command_in_scope}
use Rattle.monad_lang.proofs.AgreeingSorts.{in_scope}
use Rattle.rule_local.proofs.LiftedSorted.{scalar_there, scalars_at, AllThere, names_are}
use Rattle.rule_heap.specs.HeapLifted.{exps_lifted, on_heaps}
use Rattle.rule_heap.proofs.HeapFormed.{scalars_stay}
use Rattle.rule_word.specs.Rule.{Context}
use Rattle.rule_word.specs.Scopes.{names_in, with_kinds}
use Rattle.rule_word.specs.ProgramsAbstracted.{kinds_for, scalars_there, are_words_or_truths, binds_words}
use Rattle.rule_word.specs.Ready.{all_ready, program_ready}
use Rattle.pipeline.proofs.CommandReady.{IsCommandReady}
use Rattle.pipeline.proofs.LiftedSorts.{Lifting, setting_at, local_there, words_there, names_next}
use Rattle.pipeline.proofs.LiftedForNumbers.{lifted_ready}
use Rattle.pipeline.proofs.BindsWords.{lifted_binds}

either : (p q : Bool) (P : Type 0) → (p || q) ≡ true → (p ≡ true → P) → (q ≡ true → P) → P
either true q P h i j = i refl
either false q P h i j = j h

positive : (n : ℕ) → is_width n ≡ true → nat_lt 0 (2 ^ n) ≡ true
positive n h =
    either ((n == 8) || (n == 16) || (n == 32)) (n == 64) _ h
    (λ h. either ((n == 8) || (n == 16)) (n == 32) _ h (λ h. either (n == 8) (n == 16) _ h (at 8 refl) (at 16 refl)) (at 32 refl))
    (at 64 refl)
  where
    at : (m : ℕ) → nat_lt 0 (2 ^ m) ≡ true → (n == m) ≡ true → nat_lt 0 (2 ^ n) ≡ true
    at m h e = subst (λ k. nat_lt 0 (2 ^ k) ≡ true) (sym (eqb-true n m e)) h

module _ (ctx : Context) (ns : Name → Option Scalar) (ls : List Binder) (ss : List Signature) (known : Lifting ctx ns ls ss) where
  zero_sorted : (ms : Name → Option Scalar) (k : Kind) → is_kind k ≡ true →
      program_sort (in_scope ctx.layout (global_type ctx.globals) ms) (zero_exp k) ≡ Some (Of (word_sort_of k))
  zero_sorted ms (WordKind n) h =
      ap (λ b. where_holds b (Some (Of (WordSort n)))) (and_from (is_width n) (nat_lt 0 (2 ^ n)) h (positive n h))
  zero_sorted ms (NatKind n) h =
      ap (λ b. where_holds b (Some (Of (WordSort n)))) (and_from (is_width n) (nat_lt 0 (2 ^ n)) h (positive n h))
  zero_sorted ms (IntKind n) h =
      ap (λ b. where_holds b (Some (Of (WordSort n)))) (and_from (is_width n) (nat_lt 0 (2 ^ n)) h (positive n h))
  zero_sorted ms BoolKind h = refl

  abbrev AreLocal : List Name → Type 0
  AreLocal xs = (y : Name) → is_among y xs ≡ true → is_among y (names_of ls) ≡ true

  zeros_sorted : (ms : Name → Option Scalar) (xs : List Name) → AreLocal xs →
      (zs : List Exp) × (zeros ls xs ≡ Some zs)
      × (scalars_of (in_scope ctx.layout (global_type ctx.globals) ms) zs ≡ Some (scalars_at ns xs))
  zeros_sorted ms [] h = ([], refl, refl)
  zeros_sorted ms (x ∷ xs) h =
      let k = local_kind ls x (h x (or_left (same_name x x) (is_among x xs) (same_name-refl x))) in
      let j = known.known.kinds x k.0 k.1 in
      let r = zeros_sorted ms xs (λ y t. h y (or_right (same_name y x) (is_among y xs) t)) in (
        zero_exp k.0 ∷ r.0,
        ap₂ zero_first k.1 r.1,
        ap₂ with_scalar (ap scalar_in (zero_sorted ms k.0 j.1) ∙ ap (λ o. Some (scalar_there o)) (sym j.0)) r.2,
      )

  abbrev zeros_of : List Name → Mon
  zeros_of xs = M.Ret (zeros_there (zeros ls xs))

  zeros_give : (ms : Name → Option Scalar) (xs : List Name) → AreLocal xs →
      scalars_given (setting_at ctx ns ls ss known ms) (zeros_of xs) ≡ Some (scalars_at ns xs)
  zeros_give ms xs own =
      let z = zeros_sorted ms xs own in
      subst (λ o. scalars_of (in_scope ctx.layout (global_type ctx.globals) ms) (zeros_there o) ≡ Some (scalars_at ns xs))
      (sym z.1) z.2

  -- the names of a body are its parameters and those that begin with zeros

  module _ (params : List Name) (a : Simpl) (sorted : is_sorted (in_scope ctx.layout (global_type ctx.globals) ns) ss a ≡ true)
      (vs : List Name) (t : AllThere ns vs) where
    abbrev inner : Lifted
    inner = lifted ls a vs

    abbrev test : Name → Bool
    test y = is_free y inner.right && not (is_among y params)

    local : (y : Name) → (command_names y a ≡ true) ⊎ (is_among y vs ≡ true) → is_among y (names_of ls) ≡ true
    local y (inl k) = known.known.locals y (command_in_scope (in_scope ctx.layout (global_type ctx.globals) ns) y ss a sorted k)
    local y (inr k) = known.known.locals y (t y k)

    free_there : (ms : Name → Option Scalar) → AgreeOn (λ y. is_among y params) ms ns → (y : Name) →
        is_free y inner.right ≡ true → is_among y (chosen test (names_of ls)) ≡ false → ms y ≡ ns y
    free_there ms ag y f n = by_test (cases_Bool (is_among y params))
      where
        by_test : (is_among y params ≡ true) ⊎ (is_among y params ≡ false) → ms y ≡ ns y
        by_test (inl k) = ag y k
        by_test (inr k) =
            absurd (false≢true (sym n ∙
            among_chosen test y (names_of ls) (local y (lifted_names y ls a vs f))
            (and_from (is_free y inner.right) (not (is_among y params)) f (not_from_false (is_among y params) k))))

    own_names : AreLocal (chosen test (names_of ls))
    own_names y j = (chosen_passes test y (names_of ls) j).1

    -- each name that is bound

    begun_binds : (ms : Name → Option Scalar) (xs : List Name) →
        AreLocal xs → ((y : Name) → is_free y inner.right ≡ true → is_among y xs ≡ false → ms y ≡ ns y) →
        binds_words (setting_at ctx ns ls ss known ms) (begun (record { locals = ls; parameters = params }) xs inner).right ≡ true
    begun_binds ms [] own rest = lifted_binds ctx ns ls ss known a sorted vs t ms (λ y f. rest y f refl)
    begun_binds ms (x ∷ xs) own rest =
        let e = zeros_give ms (x ∷ xs) own in
        let tu : AllThere ns (x ∷ xs) = λ y j. local_there ctx ns ls ss known y (own y j) in
        and_from _ _ (and_from _ _ (ap (λ o. are_words_or_truths (scalars_there o)) e ∙ words_there ctx ns ls ss known
        (x ∷ xs)) refl)
        (subst (λ o. binds_words (setting_at ctx ns ls ss known (names_with (x ∷ xs) (scalars_there o) ms)) inner.right ≡ true)
        (sym e)
        (lifted_binds ctx ns ls ss known a sorted vs t (names_with (x ∷ xs) (scalars_at ns (x ∷ xs)) ms)
        (λ y f. names_are ns y (x ∷ xs) ms tu (rest y f))))

    pub body_binds : (ms : Name → Option Scalar) → AgreeOn (λ y. is_among y params) ms ns →
        binds_words (setting_at ctx ns ls ss known ms) (locals_lifted (record { locals = ls; parameters = params }) a vs).right
        ≡ true
    body_binds ms ag = begun_binds ms (chosen test (names_of ls)) own_names (free_there ms ag)

    -- and what is ready

    module _ (same : Exp → Exp → Bool) (finds : (e : Exp) → same e e ≡ true) (table : Name → Option Kind)
        (ready : IsCommandReady same finds (in_scope ctx.layout (global_type ctx.globals) ns) [] a) where
      zeros_ready : (fs : List Fact) (bs : List Binder) (xs : List Name) →
          all_ready same true ctx table fs bs (exps_lifted (zeros_there (zeros ls xs))) ≡ true
      zeros_ready fs bs [] = refl
      zeros_ready fs bs (x ∷ xs) = first (kind_of ls x) (zeros ls xs) (zeros_ready fs bs xs)
        where
          first : (o : Option Kind) (r : Option (List Exp)) →
              all_ready same true ctx table fs bs (exps_lifted (zeros_there r)) ≡ true →
              all_ready same true ctx table fs bs (exps_lifted (zeros_there (zero_first o r))) ≡ true
          first (Some (WordKind n)) (Some es) h = h
          first (Some k) None h = refl
          first None r h = refl
          first _ _ h = h

      begun_ready : (bs : List Binder) (xs : List Name) →
          AreLocal xs → ((y : Name) → is_free y inner.right ≡ true → is_among y xs ≡ false → names_in word_sort_of bs y ≡ ns y) →
          (ks : List Kind) →
          program_ready same true ctx table [] bs (on_heaps
          (begun (record { locals = ls; parameters = params }) xs inner).right) ks ≡ true
      begun_ready bs [] own rest ks =
          lifted_ready same finds ctx ns ls ss known table a sorted [] ready vs t bs (λ y f. rest y f refl) [] tt ks
      begun_ready bs (x ∷ xs) own rest ks =
          let ms = names_in word_sort_of bs in
          let given = scalars_given (setting_at ctx ns ls ss known ms) (on_heaps (zeros_of (x ∷ xs))) in
          let e = scalars_stay (setting_at ctx ns ls ss known ms) (zeros_of (x ∷ xs)) ∙ zeros_give ms (x ∷ xs) own in
          let tu : AllThere ns (x ∷ xs) = λ y j. local_there ctx ns ls ss known y (own y j) in
          let more = with_kinds (x ∷ xs) (kinds_for table (x ∷ xs) (scalars_there given)) bs in
          and_from _ _ (zeros_ready [] bs (x ∷ xs))
          (lifted_ready same finds ctx ns ls ss known table a sorted [] ready vs t more
          (subst (λ ms. AgreeOn (λ y. is_free y inner.right) ms ns)
          (sym (names_next ctx ns ls ss known table (x ∷ xs) bs given e))
          (λ y f. names_are ns y (x ∷ xs) ms tu (rest y f))) _ tt ks)

      pub body_ready : (bs : List Binder) → AgreeOn (λ y. is_among y params) (names_in word_sort_of bs) ns → (ks : List Kind) →
          program_ready same true ctx table [] bs (on_heaps
          (locals_lifted (record { locals = ls; parameters = params }) a vs).right) ks ≡ true
      body_ready bs ag ks = begun_ready bs (chosen test (names_of ls)) own_names (free_there (names_in word_sort_of bs) ag) ks
