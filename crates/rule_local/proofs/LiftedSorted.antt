-- What a well-sorted command is lifted to is well-sorted, and gives values of its outputs' sorts.
use Rattle.std.proofs.Common.{◌≡◌, ℕ, suc, ◌==◌, ◌^◌, nat_lt, Bool, true, false, not, cond, ◌&&◌, ◌||◌, List, [], ◌∷◌, length, Option, Some, None, ◌⊎◌, inl, inr, refl, sym, subst, ap, ap₂, ◌∙◌}
use Rattle.std.specs.Option.{is_some}
use Rattle.std.proofs.lemmas.Bool.{false≢true, true≢false, and_parts, and_from, or_left, or_right, or_from, false_from_ne_true, cond_both, not-true, not_from_false, eq-eqb, eqb-true, cases_Bool}
use Rattle.c_values.specs.Name.{Name, same_name, with_name, is_among, are_distinct}
use Rattle.c_values.specs.Types.{CType}
use Rattle.c_values.specs.Layout.{Layout}
use Rattle.c_values.proofs.Laid.{name_is, other_name, same_name-refl}
use Rattle.expression_lang.specs.Expression.{Exp, Var, And}
use Rattle.expression_lang.specs.Mentions.{names}
use Rattle.expression_lang.specs.Form.{has, is_part_of_value}
use Rattle.expression_lang.specs.Sort.{Scalar, WordSort, TruthSort, Sort, Of, Kind, WordKind, NatKind, IntKind, BoolKind, Scope, is_truth, truth_sort, where_holds, scalar_sort, sort_of, is_kind, is_width, word_sort_of, sort_of_kind}
use Rattle.expression_lang.specs.Signature.{Binder, Signature, names_of, signature}
use Rattle.expression_lang.specs.Sorted.{names_with, program_sort, scalar_in, with_scalar, scalars_of, fits_place, call_scalars}
use Rattle.expression_lang.proofs.Inversion.{same_inv}
use Rattle.expression_lang.proofs.SameScalars.{same_scalars-refl}
use Rattle.simpl_lang.specs.Command.{Condition, Simpl, Skip, Throw, Set, SetGlobal, Store, Pick, Seq, Cond, Guard, Catch, While, Call, kind_of}
use Rattle.simpl_lang.specs.Names.{command_names}
use Rattle.program_sorts.specs.Sorts.{is_scalar_of}
use Rattle.simpl_lang.specs.Sorted.{is_sorted, is_local, are_conditions, fits_target}
use Rattle.monad_lang.specs.Program as M
use Rattle.monad_lang.specs.Program.{Mon, Place}
use Rattle.monad_lang.specs.Run.{start_names}
use Rattle.monad_lang.specs.Names.{is_free, is_in_some, is_in_start, is_in_place}
use Rattle.monad_lang.specs.Sorted.{Setting, setting_with, start_scalars, are_scalars, place_sort, where_fits, and_then_scalars, one_for_each, scalars_given}
use Rattle.monad_lang.specs.Agree.{AgreeOn}
use Rattle.rule_local.specs.Assigned.{assigns}
use Rattle.rule_local.specs.Table.{vars, vars_with, as_starts, conj, word_kind, picked_kind, zero_exp, zero_first, zeros, is_needed}
use Rattle.rule_local.specs.Lifted.{Lifted, chosen, handed_on, kind_there, set_lifted, lifted, zeros_there, begun, locals_lifted}
use Rattle.monad_lang.proofs.Agreeing.{agree_left, agree_right}
use Rattle.rule_local.proofs.Parts.{free_after, starts_named}
use Rattle.rule_local.proofs.HandedOn.{among_chosen, chosen_passes, settled_has}
use Rattle.rule_local.proofs.LiftedTaken.{local_kind}
use Rattle.rule_local.proofs.LiftedNames.{either, handed_on_assigned, lifted_names}
use Rattle.rule_local.proofs.InScope.{command_in_scope}
use Rattle.monad_lang.proofs.AgreeingSorts.{in_scope, program_agrees, scalars_agree, place_agrees}

-- names that are chosen from distinct ones are distinct

chosen_not : (test : Name → Bool) (x : Name) (xs : List Name) → is_among x xs ≡ false → is_among x (chosen test xs) ≡ false
chosen_not test x xs h = false_from_ne_true (is_among x (chosen test xs)) (λ t. true≢false (sym (chosen_passes test x xs t).1 ∙ h))

pub chosen_distinct : (test : Name → Bool) (xs : List Name) → are_distinct xs ≡ true → are_distinct (chosen test xs) ≡ true
chosen_distinct test [] h = refl
chosen_distinct test (x ∷ xs) h =
    let p = and_parts (not (is_among x xs)) (are_distinct xs) h in
    cond_both (test x) (x ∷ chosen test xs) (chosen test xs) (λ us. are_distinct us ≡ true)
    (λ e. and_from (not (is_among x (chosen test xs))) (are_distinct (chosen test xs)) (not_from_false (is_among x (chosen test xs)) (chosen_not test x xs (not-true (is_among x xs) p.0))) (chosen_distinct test xs p.1))
    (λ e. chosen_distinct test xs p.1)

pub handed_on_distinct : (xs : List Name) (gs : List Condition) (e : Exp) (a : Simpl) (body : List Name → Mon) (vs : List Name) → are_distinct xs ≡ true → are_distinct (handed_on xs gs e a body vs) ≡ true
handed_on_distinct xs gs e a body vs h =
    settled_has (λ us. are_distinct us ≡ true) (λ us. chosen (λ y. assigns y a && is_needed (conj gs) e (body us) vs y) xs) (chosen (λ y. assigns y a) xs) (chosen_distinct (λ y. assigns y a) xs h)
    (λ us k. chosen_distinct (λ y. assigns y a && is_needed (conj gs) e (body us) vs y) xs h) (suc (length xs)) [] refl

-- scalars of names

abbrev pub scalar_there : Option Scalar → Scalar
scalar_there (Some s) = s
scalar_there None = TruthSort

abbrev pub scalars_at : (Name → Option Scalar) → List Name → List Scalar
scalars_at ns [] = []
scalars_at ns (x ∷ xs) = scalar_there (ns x) ∷ scalars_at ns xs

there_is : (o : Option Scalar) → is_some o ≡ true → Some (scalar_there o) ≡ o
there_is (Some s) h = refl
there_is None h = absurd (false≢true h)

pub there_in : (o : Option Scalar) → is_some o ≡ true → scalar_in (scalar_sort o) ≡ Some (scalar_there o)
there_in (Some s) h = refl
there_in None h = absurd (false≢true h)

-- the scalar of what fits
fitting : (o : Option Scalar) (p : Option Sort) → is_scalar_of o p ≡ true → scalar_in p ≡ Some (scalar_there o)
fitting (Some s) (Some (Of t)) h = sym (ap scalar_in (same (same_inv (Some (Of s)) (Some (Of t)) h)))
  where
    same : ((o : Sort) × ((let p : Option Sort = Some (Of s) in p) ≡ Some o) × ((let p : Option Sort = Some (Of t) in p) ≡ Some o)) → (let p : Option Sort = Some (Of s) in p) ≡ Some (Of t)
    same q = q.1 ∙ sym q.2
fitting _ _ h = absurd (false≢true h)

module _ (ns : Name → Option Scalar) where
  abbrev pub AllThere : List Name → Type 0
  AllThere vs = (y : Name) → is_among y vs ≡ true → is_some (ns y) ≡ true

  first_there : (x : Name) (xs : List Name) → AllThere (x ∷ xs) → is_some (ns x) ≡ true
  first_there x xs h = h x (or_left (same_name x x) (is_among x xs) (same_name-refl x))

  others_there : (x : Name) (xs : List Name) → AllThere (x ∷ xs) → AllThere xs
  others_there x xs h y k = h y (or_right (same_name y x) (is_among y xs) k)

  pub one_each : (xs : List Name) → one_for_each xs (scalars_at ns xs) ≡ true
  one_each xs = eq-eqb (length xs) (length (scalars_at ns xs)) (lengths xs)
    where
      lengths : (xs : List Name) → length xs ≡ length (scalars_at ns xs)
      lengths [] = refl
      lengths (x ∷ xs) = ap suc (lengths xs)

  -- names in scope with the scalars that they have elsewhere
  pub names_are : (y : Name) (xs : List Name) (ms : Name → Option Scalar) → AllThere xs → (is_among y xs ≡ false → ms y ≡ ns y) → names_with xs (scalars_at ns xs) ms y ≡ ns y
  names_are y [] ms t h = h refl
  names_are y (x ∷ xs) ms t h =
      names_are y xs (with_name x (Some (scalar_there (ns x))) ms) (others_there x xs t)
      (λ n. cond_both (same_name x y) (Some (scalar_there (ns x))) (ms y) (λ o. o ≡ ns y) (λ e. there_is (ns x) (first_there x xs t) ∙ ap ns (name_is x y e))
      (λ e. h (or_from (same_name y x) (is_among y xs) (other_name x y e) n)))

  pub agree_bound : (p q : Name → Bool) (us : List Name) (ms : Name → Option Scalar) → AllThere us → AgreeOn (λ y. p y || (not (is_among y us) && q y)) ms ns → AgreeOn q (names_with us (scalars_at ns us) ms) ns
  agree_bound p q us ms t h y k = names_are y us ms t (λ n. free_after p q us ms ns h y k n)

pub word_sort_is : (k : Kind) → sort_of_kind (word_kind k) ≡ word_sort_of k
word_sort_is (WordKind n) = refl
word_sort_is _ = refl

pub word_kind_is : (k : Kind) → is_kind k ≡ true → is_kind (word_kind k) ≡ true
word_kind_is (WordKind n) h = h
word_kind_is _ h = h

-- What is known of a function: its scope, its locals, the signatures, and the signatures of what its calls are lifted to.
pub record Known (ns : Name → Option Scalar) (bs : List Binder) (ss signatures : List Signature) : Type 0 where
  pub kinds : (x : Name) (k : Kind) → kind_of bs x ≡ Some k → (ns x ≡ Some (word_sort_of k)) × (is_kind k ≡ true)
  pub locals : (x : Name) → is_some (ns x) ≡ true → is_among x (names_of bs) ≡ true
  pub distinct : are_distinct (names_of bs) ≡ true
  pub calls : (f : Name) (o : Option (List Scalar)) → call_scalars sort_of_kind (signature signatures f) o ≡ call_scalars word_sort_of (signature ss f) o

module _ (l : Layout) (gs : Name → Option CType) (ns : Name → Option Scalar) (bs : List Binder) (ss signatures : List Signature) (known : Known ns bs ss signatures) where
  abbrev g : Scope
  g = in_scope l gs ns

  abbrev pub setting : (Name → Option Scalar) → Setting
  setting ms = record { scope = in_scope l gs ms; functions = signatures; sort_for = sort_of_kind }

  abbrev There : List Name → Type 0
  There = AllThere ns

  -- the program gives values of the outputs' sorts
  abbrev pub GivesSorts : (Name → Option Scalar) → Mon → List Name → Type 0
  GivesSorts ms m vs = scalars_given (setting ms) m ≡ Some (scalars_at ns vs)

  var_scalars : (vs : List Name) → There vs → scalars_of g (vars vs) ≡ Some (scalars_at ns vs)
  var_scalars [] t = refl
  var_scalars (x ∷ xs) t =
      ap₂ with_scalar (there_in (ns x) (first_there ns x xs t)) (var_scalars xs (others_there ns x xs t))

  vars_sorted : (vs : List Name) (ms : Name → Option Scalar) → There vs → AgreeOn (λ y. is_in_some y (vars vs)) ms ns → GivesSorts ms (M.Ret (vars vs)) vs
  vars_sorted vs ms t h = scalars_agree l gs ms ns (vars vs) h ∙ var_scalars vs t

  set_scalars : (x : Name) (e : Exp) (vs : List Name) → is_scalar_of (ns x) (program_sort g e) ≡ true → There vs → scalars_of g (vars_with x e vs) ≡ Some (scalars_at ns vs)
  set_scalars x e [] h t = refl
  set_scalars x e (y ∷ ys) h t = ap₂ with_scalar (one (same_name x y) refl) (set_scalars x e ys h (others_there ns y ys t))
    where
      one : (b : Bool) → same_name x y ≡ b → scalar_in (program_sort g (cond b e (Var y))) ≡ Some (scalar_there (ns y))
      one true k = fitting (ns x) (program_sort g e) h ∙ ap (λ z. Some (scalar_there (ns z))) (name_is x y k)
      one false k = there_in (ns y) (first_there ns y ys t)

  set_sorted : (x : Name) (e : Exp) (vs : List Name) (b : Bool) (ms : Name → Option Scalar) → is_scalar_of (ns x) (program_sort g e) ≡ true → There vs →
      AgreeOn (λ y. is_free y (set_lifted b x e vs).right) ms ns → GivesSorts ms (set_lifted b x e vs).right vs
  set_sorted x e vs true ms h t a = scalars_agree l gs ms ns (vars_with x e vs) a ∙ set_scalars x e vs h t
  set_sorted x e vs false ms h t a = vars_sorted vs ms t a

  -- a Bind gives what its second part gives
  bind_gives : (ms : Name → Option Scalar) (m n : Mon) (us vs : List Name) (cs : List Scalar) → scalars_given (setting ms) m ≡ Some cs → one_for_each us cs ≡ true → are_distinct us ≡ true →
      GivesSorts (names_with us cs ms) n vs → GivesSorts ms (M.Bind m us n) vs
  bind_gives ms m n us vs cs h j d k =
      ap (λ o. and_then_scalars o (λ ds. where_fits (one_for_each us ds && are_distinct us) (scalars_given (setting_with us ds (setting ms)) n))) h
      ∙ ap (λ b. where_fits b (scalars_given (setting (names_with us cs ms)) n)) (and_from (one_for_each us cs) (are_distinct us) j d) ∙ k

  -- of names that are handed on
  hand_on : (ms : Name → Option Scalar) (m n : Mon) (us vs : List Name) → GivesSorts ms m us → are_distinct us ≡ true → GivesSorts (names_with us (scalars_at ns us) ms) n vs → GivesSorts ms (M.Bind m us n) vs
  hand_on ms m n us vs h d k = bind_gives ms m n us vs (scalars_at ns us) h (one_each ns us) d k

  -- a part that gives nothing, and then the outputs
  then_outputs : (ms : Name → Option Scalar) (m : Mon) (q : Name → Bool) (vs : List Name) → scalars_given (setting ms) m ≡ Some [] → There vs → AgreeOn (λ y. q y || is_in_some y (vars vs)) ms ns →
      GivesSorts ms (M.Bind m [] (M.Ret (vars vs))) vs
  then_outputs ms m q vs h t a = bind_gives ms m (M.Ret (vars vs)) [] vs [] h refl refl (vars_sorted vs ms t (agree_right q (λ y. is_in_some y (vars vs)) ms ns a))

  -- one that gives a local, and then the outputs
  then_one : (ms : Name → Option Scalar) (m : Mon) (x : Name) (q : Name → Bool) (vs : List Name) → is_some (ns x) ≡ true → GivesSorts ms m (x ∷ []) → There vs →
      AgreeOn (λ y. q y || (not (is_among y (x ∷ [])) && is_in_some y (vars vs))) ms ns → GivesSorts ms (M.Bind m (x ∷ []) (M.Ret (vars vs))) vs
  then_one ms m x q vs j h t a =
      hand_on ms m (M.Ret (vars vs)) (x ∷ []) vs h refl
      (vars_sorted vs (names_with (x ∷ []) (scalars_at ns (x ∷ [])) ms) t (agree_bound ns q (λ y. is_in_some y (vars vs)) (x ∷ []) ms alone a))
    where
      alone : There (x ∷ [])
      alone y n = subst (λ z. is_some (ns z) ≡ true) (sym (name_is y x (only (same_name y x) n))) j
        where
          only : (b : Bool) → (b || false) ≡ true → b ≡ true
          only true k = refl
          only false k = k

  write_sorted : (ms : Name → Option Scalar) (place : Place) (e : Exp) → fits_place (place_sort g place) (program_sort g e) ≡ true → AgreeOn (λ y. is_in_place y place || names y e) ms ns →
      scalars_given (setting ms) (M.Write place e) ≡ Some []
  write_sorted ms place e h a =
      ap (λ b. where_fits b (Some []))
      (ap₂ fits_place (place_agrees l gs ms ns place (agree_left (λ y. is_in_place y place) (λ y. names y e) ms ns a)) (program_agrees l gs ms ns e (agree_right (λ y. is_in_place y place) (λ y. names y e) ms ns a)) ∙ h)

  pick_sorted : (ms : Name → Option Scalar) (x : Name) (k : Kind) (o : Option Kind) → o ≡ Some k → ns x ≡ Some (word_sort_of k) → is_kind k ≡ true → GivesSorts ms (M.Pick (kind_there (picked_kind o))) (x ∷ [])
  pick_sorted ms x k o e h j =
      subst (λ p. GivesSorts ms (M.Pick (kind_there (picked_kind p))) (x ∷ [])) (sym e)
      (ap (λ b. where_fits b (Some (sort_of_kind (word_kind k) ∷ []))) (word_kind_is k j) ∙ ap (λ s. Some (s ∷ [])) (word_sort_is k ∙ sym (ap scalar_there h)))

  local_there : (y : Name) → is_among y (names_of bs) ≡ true → is_some (ns y) ≡ true
  local_there y h = let k = local_kind bs y h in ap is_some (known.kinds y k.0 k.1).0

  test_sorted : (ms : Name → Option Scalar) (e : Exp) → is_truth (program_sort g e) ≡ true → AgreeOn (λ y. names y e) ms ns → is_truth (program_sort (in_scope l gs ms) e) ≡ true
  test_sorted ms e h a = ap is_truth (program_agrees l gs ms ns e a) ∙ h

  -- the conjunction of conditions is a truth value
  conj_sorted : (cs : List Condition) → are_conditions g cs ≡ true → is_truth (program_sort g (conj cs)) ≡ true
  conj_sorted [] h = refl
  conj_sorted (c ∷ []) h = (and_parts (is_truth (program_sort g c.exp)) true h).0
  conj_sorted (c ∷ d ∷ cs) h =
      let p = and_parts (is_truth (program_sort g c.exp)) (are_conditions g (d ∷ cs)) h in both_true c.exp (conj (d ∷ cs)) p.0 (conj_sorted (d ∷ cs) p.1)
    where
      joined : (b t : Bool) (o p : Option Sort) → is_truth (cond b None o) ≡ true → is_truth (cond t None p) ≡ true → is_truth (cond (b || t) None (where_holds (is_truth o && is_truth p) truth_sort)) ≡ true
      joined true t o p h k = h
      joined false true o p h k = k
      joined false false o p h k = ap (λ b. is_truth (where_holds b truth_sort)) (and_from (is_truth o) (is_truth p) h k)

      both_true : (a b : Exp) → is_truth (program_sort g a) ≡ true → is_truth (program_sort g b) ≡ true → is_truth (program_sort g (And a b)) ≡ true
      both_true a b h k = joined (has is_part_of_value a) (has is_part_of_value b) (sort_of g a) (sort_of g b) h k

  start_sorts : (ms : Name → Option Scalar) (us : List Name) → There us → AgreeOn (λ y. is_in_start y (as_starts us)) ms ns → start_scalars (in_scope l gs ms) (as_starts us) ≡ Some (scalars_at ns us)
  start_sorts ms [] t a = refl
  start_sorts ms (x ∷ xs) t a =
      ap₂ with_scalar (ap (λ o. scalar_in (scalar_sort o)) (agree_left (λ y. same_name y x) (λ y. is_in_start y (as_starts xs)) ms ns a x (same_name-refl x)) ∙ there_in (ns x) (first_there ns x xs t))
      (start_sorts ms xs (others_there ns x xs t) (agree_right (λ y. same_name y x) (λ y. is_in_start y (as_starts xs)) ms ns a))

  call_sorted : (ms : Name → Option Scalar) (f : Name) (es : List Exp) → AgreeOn (λ y. is_in_some y es) ms ns → scalars_given (setting ms) (M.Call f es) ≡ call_scalars word_sort_of (signature ss f) (scalars_of g es)
  call_sorted ms f es a = ap (λ o. call_scalars sort_of_kind (signature signatures f) o) (scalars_agree l gs ms ns es a) ∙ known.calls f (scalars_of g es)

  target_gives : (x : Name) (o : Option (List Scalar)) → fits_target g (Some x) o ≡ true → (o ≡ Some (scalars_at ns (x ∷ []))) × (is_some (ns x) ≡ true)
  target_gives x None h = absurd (false≢true h)
  target_gives x (Some []) h = absurd (false≢true h)
  target_gives x (Some (s ∷ [])) h = (ap one (fitting (ns x) (Some (Of s)) h), some (ns x) h)
    where
      one : Option Scalar → Option (List Scalar)
      one None = None
      one (Some s) = Some (s ∷ [])

      some : (o : Option Scalar) → is_scalar_of o (Some (Of s)) ≡ true → is_some o ≡ true
      some (Some t) h = refl
      some None h = absurd (false≢true h)
  target_gives x (Some (s ∷ t ∷ cs)) h = absurd (false≢true h)

  no_target_gives : (o : Option (List Scalar)) → fits_target g None o ≡ true → o ≡ Some []
  no_target_gives None h = absurd (false≢true h)
  no_target_gives (Some []) h = refl
  no_target_gives (Some (s ∷ cs)) h = absurd (false≢true h)

  if_gives : (ms : Name → Option Scalar) (e : Exp) (m n : Mon) (vs : List Name) → is_truth (program_sort (in_scope l gs ms) e) ≡ true → GivesSorts ms m vs → GivesSorts ms n vs → GivesSorts ms (M.If e m n) vs
  if_gives ms e m n vs h j k =
      ap (λ o. and_then_scalars o (λ cs. where_fits (is_truth (program_sort (in_scope l gs ms) e) && are_scalars cs (scalars_given (setting ms) n)) (Some cs))) j
      ∙ ap (λ b. where_fits b (Some (scalars_at ns vs)))
      (and_from (is_truth (program_sort (in_scope l gs ms) e)) (are_scalars (scalars_at ns vs) (scalars_given (setting ms) n)) h (ap (are_scalars (scalars_at ns vs)) k ∙ same_scalars-refl (scalars_at ns vs)))

  guard_gives : (ms : Name → Option Scalar) (e : Exp) → is_truth (program_sort (in_scope l gs ms) e) ≡ true → scalars_given (setting ms) (M.Guard e) ≡ Some []
  guard_gives ms e h = ap (λ b. where_fits b (Some [])) h

  -- inside the names are in scope with the sorts of their locals
  loop_gives : (ms : Name → Option Scalar) (guard test : Exp) (m : Mon) (us : List Name) → There us → are_distinct us ≡ true → AgreeOn (λ y. is_in_start y (as_starts us)) ms ns →
      is_truth (program_sort g guard) ≡ true → is_truth (program_sort g test) ≡ true → AgreeOn (λ y. names y guard || names y test || is_free y m) (names_with us (scalars_at ns us) ms) ns →
      GivesSorts (names_with us (scalars_at ns us) ms) m us → GivesSorts ms (M.Loop (as_starts us) guard test m) us
  loop_gives ms guard test m us t d a h j b k =
      ap (λ o. and_then_scalars o (λ cs. inside (start_names (as_starts us)) cs)) (start_sorts ms us t a)
      ∙ ap (λ xs. inside xs (scalars_at ns us)) (starts_named us)
      ∙ ap (λ q. where_fits q (Some (scalars_at ns us)))
      (and_from (are_distinct us && is_truth (program_sort here guard) && is_truth (program_sort here test)) (are_scalars (scalars_at ns us) (scalars_given (setting within) m))
      (and_from (are_distinct us && is_truth (program_sort here guard)) (is_truth (program_sort here test))
      (and_from (are_distinct us) (is_truth (program_sort here guard)) d (test_sorted within guard h (agree_left (λ y. names y guard) (λ y. names y test) within ns tests)))
      (test_sorted within test j (agree_right (λ y. names y guard) (λ y. names y test) within ns tests)))
      (ap (are_scalars (scalars_at ns us)) k ∙ same_scalars-refl (scalars_at ns us)))
    where
      within : Name → Option Scalar
      within = names_with us (scalars_at ns us) ms

      here : Scope
      here = in_scope l gs within

      tests : AgreeOn (λ y. names y guard || names y test) within ns
      tests = agree_left (λ y. names y guard || names y test) (λ y. is_free y m) within ns b

      inside : List Name → List Scalar → Option (List Scalar)
      inside xs cs =
          where_fits (are_distinct xs && is_truth (program_sort (in_scope l gs (names_with xs cs ms)) guard) && is_truth (program_sort (in_scope l gs (names_with xs cs ms)) test)
          && are_scalars cs (scalars_given (setting (names_with xs cs ms)) m)) (Some cs)

  pub lifted_sorted : (a : Simpl) → is_sorted g ss a ≡ true → (vs : List Name) → There vs → (ms : Name → Option Scalar) → AgreeOn (λ y. is_free y (lifted bs a vs).right) ms ns → GivesSorts ms (lifted bs a vs).right vs
  lifted_sorted Skip h vs t ms a = vars_sorted vs ms t a
  lifted_sorted Throw h vs t ms a = vars_sorted vs ms t a
  lifted_sorted (Set x e) h vs t ms a = set_sorted x e vs (is_among x vs) ms h t a
  lifted_sorted (SetGlobal x path e) h vs t ms a =
      let q = λ (y : Name). is_in_place y (M.Global x path) || names y e in
      then_outputs ms (M.Write (M.Global x path) e) q vs (write_sorted ms (M.Global x path) e h (agree_left q (λ y. is_in_some y (vars vs)) ms ns a)) t a
  lifted_sorted (Store u p path e) h vs t ms a =
      let q = λ (y : Name). is_in_place y (M.Stored u p path) || names y e in
      then_outputs ms (M.Write (M.Stored u p path) e) q vs (write_sorted ms (M.Stored u p path) e h (agree_left q (λ y. is_in_some y (vars vs)) ms ns a)) t a
  lifted_sorted (Pick x) h vs t ms a =
      let j = local_some (ns x) h in
      let k = local_kind bs x (known.locals x j) in
      then_one ms (M.Pick (kind_there (picked_kind (kind_of bs x)))) x (λ y. false) vs j (pick_sorted ms x k.0 (kind_of bs x) k.1 (known.kinds x k.0 k.1).0 (known.kinds x k.0 k.1).1) t a
    where
      local_some : (o : Option Scalar) → is_local o ≡ true → is_some o ≡ true
      local_some (Some s) h = refl
      local_some None h = absurd (false≢true h)
  lifted_sorted (Seq a b) h vs t ms ag =
      let p = and_parts (is_sorted g ss a) (is_sorted g ss b) h in
      let second = (lifted bs b vs).right in
      let us = chosen (λ y. assigns y a && is_free y second) (names_of bs) in
      let tu : There us = λ y j. local_there y (chosen_passes (λ z. assigns z a && is_free z second) y (names_of bs) j).1 in
      hand_on ms (lifted bs a us).right second us vs (lifted_sorted a p.0 us tu ms (agree_left (λ y. is_free y (lifted bs a us).right) (λ y. not (is_among y us) && is_free y second) ms ns ag))
      (chosen_distinct (λ y. assigns y a && is_free y second) (names_of bs) known.distinct)
      (lifted_sorted b p.1 vs t (names_with us (scalars_at ns us) ms) (agree_bound ns (λ y. is_free y (lifted bs a us).right) (λ y. is_free y second) us ms tu ag))
  lifted_sorted (Cond e a b) h vs t ms ag =
      let p = and_parts (is_truth (program_sort g e) && is_sorted g ss a) (is_sorted g ss b) h in
      let q = and_parts (is_truth (program_sort g e)) (is_sorted g ss a) p.0 in
      let m = (lifted bs a vs).right in
      let n = (lifted bs b vs).right in
      let c = agree_left (λ y. names y e || is_free y m) (λ y. is_free y n) ms ns ag in
      if_gives ms e m n vs (test_sorted ms e q.0 (agree_left (λ y. names y e) (λ y. is_free y m) ms ns c)) (lifted_sorted a q.1 vs t ms (agree_right (λ y. names y e) (λ y. is_free y m) ms ns c))
      (lifted_sorted b p.1 vs t ms (agree_right (λ y. names y e || is_free y m) (λ y. is_free y n) ms ns ag))
  lifted_sorted (Guard c a) h vs t ms ag =
      let p = and_parts (is_truth (program_sort g c.exp)) (is_sorted g ss a) h in
      let m = (lifted bs a vs).right in
      bind_gives ms (M.Guard c.exp) m [] vs [] (guard_gives ms c.exp (test_sorted ms c.exp p.0 (agree_left (λ y. names y c.exp) (λ y. is_free y m) ms ns ag))) refl refl
      (lifted_sorted a p.1 vs t ms (agree_right (λ y. names y c.exp) (λ y. is_free y m) ms ns ag))
  lifted_sorted (Catch a b) h vs t ms ag = lifted_sorted a (and_parts (is_sorted g ss a) (is_sorted g ss b) h).0 vs t ms ag
  lifted_sorted (While cs e a) h vs t ms ag =
      let p = and_parts (are_conditions g cs && is_truth (program_sort g e)) (is_sorted g ss a) h in
      let q = and_parts (are_conditions g cs) (is_truth (program_sort g e)) p.0 in
      let us = handed_on (names_of bs) cs e a (λ ws. (lifted bs a ws).right) vs in
      let m = (lifted bs a us).right in
      let test = λ (y : Name). names y (conj cs) || names y e || is_free y m in
      let tu : There us = λ y j. local_there y (handed_on_assigned (names_of bs) cs e a (λ ws. (lifted bs a ws).right) vs y j).1 in
      let d = handed_on_distinct (names_of bs) cs e a (λ ws. (lifted bs a ws).right) vs known.distinct in
      let of_loop : AgreeOn (λ y. is_in_start y (as_starts us) || (not (is_among y (start_names (as_starts us))) && test y)) ms ns =
      agree_left (λ y. is_free y (M.Loop (as_starts us) (conj cs) e m)) (λ y. not (is_among y us) && is_in_some y (vars vs)) ms ns ag in
      let within : AgreeOn test (names_with us (scalars_at ns us) ms) ns =
      λ y k. names_are ns y us ms tu (λ n. free_after (λ z. is_in_start z (as_starts us)) test (start_names (as_starts us)) ms ns of_loop y k (ap (is_among y) (starts_named us) ∙ n)) in
      hand_on ms (M.Loop (as_starts us) (conj cs) e m) (M.Ret (vars vs)) us vs
      (loop_gives ms (conj cs) e m us tu d (agree_left (λ y. is_in_start y (as_starts us)) (λ y. not (is_among y (start_names (as_starts us))) && test y) ms ns of_loop) (conj_sorted cs q.0) q.1 within
      (lifted_sorted a p.1 us tu (names_with us (scalars_at ns us) ms) (agree_right (λ y. names y (conj cs) || names y e) (λ y. is_free y m) (names_with us (scalars_at ns us) ms) ns within))) d
      (vars_sorted vs (names_with us (scalars_at ns us) ms) t (agree_bound ns (λ y. is_free y (M.Loop (as_starts us) (conj cs) e m)) (λ y. is_in_some y (vars vs)) us ms tu ag))
  lifted_sorted (Call (Some x) f es) h vs t ms ag =
      let p = target_gives x (call_scalars word_sort_of (signature ss f) (scalars_of g es)) h in
      then_one ms (M.Call f es) x (λ y. is_in_some y es) vs p.1
      (call_sorted ms f es (agree_left (λ y. is_in_some y es) (λ y. not (is_among y (x ∷ [])) && is_in_some y (vars vs)) ms ns ag) ∙ p.0) t ag
  lifted_sorted (Call None f es) h vs t ms ag =
      then_outputs ms (M.Call f es) (λ y. is_in_some y es) vs
      (call_sorted ms f es (agree_left (λ y. is_in_some y es) (λ y. is_in_some y (vars vs)) ms ns ag) ∙ no_target_gives (call_scalars word_sort_of (signature ss f) (scalars_of g es)) h) t ag

  -- zeros have their locals' sorts

  positive : (n : ℕ) → is_width n ≡ true → nat_lt 0 (2 ^ n) ≡ true
  positive n h =
      either ((n == 8) || (n == 16) || (n == 32)) (n == 64) h
      (λ h. either ((n == 8) || (n == 16)) (n == 32) h (λ h. either (n == 8) (n == 16) h (at 8 refl) (at 16 refl)) (at 32 refl)) (at 64 refl)
    where
      at : (m : ℕ) → nat_lt 0 (2 ^ m) ≡ true → (n == m) ≡ true → nat_lt 0 (2 ^ n) ≡ true
      at m h e = subst (λ k. nat_lt 0 (2 ^ k) ≡ true) (sym (eqb-true n m e)) h

  zero_sorted : (ms : Name → Option Scalar) (k : Kind) → is_kind k ≡ true → program_sort (in_scope l gs ms) (zero_exp k) ≡ Some (Of (word_sort_of k))
  zero_sorted ms (WordKind n) h = ap (λ b. where_holds b (Some (Of (WordSort n)))) (and_from (is_width n) (nat_lt 0 (2 ^ n)) h (positive n h))
  zero_sorted ms (NatKind n) h = ap (λ b. where_holds b (Some (Of (WordSort n)))) (and_from (is_width n) (nat_lt 0 (2 ^ n)) h (positive n h))
  zero_sorted ms (IntKind n) h = ap (λ b. where_holds b (Some (Of (WordSort n)))) (and_from (is_width n) (nat_lt 0 (2 ^ n)) h (positive n h))
  zero_sorted ms BoolKind h = refl

  zeros_sorted : (ms : Name → Option Scalar) (xs : List Name) → ((y : Name) → is_among y xs ≡ true → is_among y (names_of bs) ≡ true) →
      (zs : List Exp) × (zeros bs xs ≡ Some zs) × (scalars_of (in_scope l gs ms) zs ≡ Some (scalars_at ns xs))
  zeros_sorted ms [] h = ([], refl, refl)
  zeros_sorted ms (x ∷ xs) h =
      let k = local_kind bs x (h x (or_left (same_name x x) (is_among x xs) (same_name-refl x))) in
      let j = known.kinds x k.0 k.1 in
      let r = zeros_sorted ms xs (λ y t. h y (or_right (same_name y x) (is_among y xs) t)) in
      (zero_exp k.0 ∷ r.0, ap₂ zero_first k.1 r.1, ap₂ with_scalar (ap scalar_in (zero_sorted ms k.0 j.1) ∙ ap (λ o. Some (scalar_there o)) (sym j.0)) r.2)

  begun_sorted : (params : List Name) (inner : Lifted) (vs : List Name) (ms : Name → Option Scalar) → There vs →
      ((ms : Name → Option Scalar) → AgreeOn (λ y. is_free y inner.right) ms ns → GivesSorts ms inner.right vs) → (xs : List Name) → are_distinct xs ≡ true → ((y : Name) → is_among y xs ≡ true → is_among y (names_of bs) ≡ true) →
      ((y : Name) → is_free y inner.right ≡ true → is_among y xs ≡ false → ms y ≡ ns y) → GivesSorts ms (begun (record { locals = bs; parameters = params }) xs inner).right vs
  begun_sorted params inner vs ms t h [] d own rest = h ms (λ y f. rest y f refl)
  begun_sorted params inner vs ms t h (x ∷ xs) d own rest =
      let z = zeros_sorted ms (x ∷ xs) own in
      hand_on ms (M.Ret (zeros_there (zeros bs (x ∷ xs)))) inner.right (x ∷ xs) vs (subst (λ o. scalars_of (in_scope l gs ms) (zeros_there o) ≡ Some (scalars_at ns (x ∷ xs))) (sym z.1) z.2) d
      (h (names_with (x ∷ xs) (scalars_at ns (x ∷ xs)) ms) (λ y f. names_are ns y (x ∷ xs) ms (λ y j. local_there y (own y j)) (rest y f)))

  pub locals_lifted_sorted : (params : List Name) (a : Simpl) → is_sorted g ss a ≡ true → (vs : List Name) → There vs → (ms : Name → Option Scalar) → AgreeOn (λ y. is_among y params) ms ns →
      GivesSorts ms (locals_lifted (record { locals = bs; parameters = params }) a vs).right vs
  locals_lifted_sorted params a h vs t ms ag =
      begun_sorted params (lifted bs a vs) vs ms t (lifted_sorted a h vs t) (chosen test (names_of bs)) (chosen_distinct test (names_of bs) known.distinct) (λ y j. (chosen_passes test y (names_of bs) j).1)
      (λ y f n. by_test y f n (cases_Bool (is_among y params)))
    where
      test : Name → Bool
      test y = is_free y (lifted bs a vs).right && not (is_among y params)

      local : (y : Name) → (command_names y a ≡ true) ⊎ (is_among y vs ≡ true) → is_among y (names_of bs) ≡ true
      local y (inl k) = known.locals y (command_in_scope g y ss a h k)
      local y (inr k) = known.locals y (t y k)

      by_test : (y : Name) → is_free y (lifted bs a vs).right ≡ true → is_among y (chosen test (names_of bs)) ≡ false → (is_among y params ≡ true) ⊎ (is_among y params ≡ false) → ms y ≡ ns y
      by_test y f n (inl k) = ag y k
      by_test y f n (inr k) =
          absurd (false≢true (sym n
          ∙ among_chosen test y (names_of bs) (local y (lifted_names y bs a vs f)) (and_from (is_free y (lifted bs a vs).right) (not (is_among y params)) f (not_from_false (is_among y params) k))))
