-- What the rules take a well-sorted program to is well-sorted: it gives what stands for words at the kinds.
use Rattle.std.proofs.Common.{◌≡◌, ◌==◌, ℕ, suc, Bool, true, false, not, ◌&&◌, List, [], ◌∷◌, ◌++◌, length, map, Option, Some, None, refl, sym, subst, ap, ap₂, ◌∙◌}
use Rattle.std.proofs.lemmas.Bool.{and_parts, and_from, or_parts, cond-true, cond-false, not-true}
use Rattle.std.proofs.lemmas.Bool.Decides.{Decides-eqb}
use Rattle.c_values.specs.Name.{Name, same_name, with_name, is_among, are_distinct}
use Rattle.c_values.specs.Layout.{IsLayout, global_type}
use Rattle.c_values.proofs.Laid.{same_name-refl, other_name}
use Rattle.expression_lang.specs.Expression as X
use Rattle.expression_lang.specs.Expression.{Exp}
use Rattle.expression_lang.specs.Form.{has, is_part_of_value}
use Rattle.expression_lang.specs.Sort.{Scalar, WordSort, NumberSort, TruthSort, Sort, Of, Kind, WordKind, NatKind, IntKind, BoolKind, Scope, sort_of, sort_of_kind, word_sort_of, is_width, is_kind, is_truth, is_number, word_width, of_word, number_sort, where_holds, word_sort, scalar_sort}
use Rattle.expression_lang.specs.Sorted.{names_with, scope_with, program_sort, scalar_in, with_scalar, scalars_of, same_scalars, fits_place, call_scalars, result_scalars}
use Rattle.expression_lang.specs.Signature.{Signature, kinds_of, signature}
use Rattle.expression_lang.proofs.Inversion.{truth_inv}
use Rattle.expression_lang.proofs.SameScalars.{same_scalars-refl}
use Rattle.expression_lang.proofs.SortParts.{fits_inv as fits_there, scalar_in_inv}
use Rattle.ac_expr.specs.Fact.{Fact, Whole}
use Rattle.program_facts.specs.Flow.{facts_after}
use Rattle.monad_lang.specs.Program as M
use Rattle.monad_lang.specs.Program.{Mon, Place, Start}
use Rattle.monad_lang.specs.Run.{start_names}
use Rattle.monad_lang.specs.Sorted.{Setting, setting_with, scalars_given, start_scalars, place_sort, one_for_each, are_scalars, where_fits, and_then_scalars}
use Rattle.program_facts.specs.Places.{place_children, place_head}
use Rattle.rule_trees.specs.RuleTree.{AllHold, Tree, Accepts}
use Rattle.rule_trees.proofs.Induction.{holds as accepted_holds}
use Rattle.rule_word.specs.Rule as R
use Rattle.rule_word.specs.Rule.{Rule, Context, Point, View, AsIs, Claim, expression, program}
use Rattle.rule_word.specs.Scopes.{names_in, with_kinds, words, numbers, view_for, result_as_list}
use Rattle.rule_word.specs.Table.{truth, each, owns, AreMatched, views_for, recast, recasts, call_row, program_row, table}
use Rattle.rule_parts.specs.Starts.{start_exps}
use Rattle.rule_word.proofs.HeadSorts.{heads_sorted, sorts_in, IsNoName}
use Rattle.rule_word.proofs.NoParts.{ArePlain, StaysPlain, PlainThere, claim_plain, plain_children, heads_plain}
use Rattle.rule_word.proofs.PlaceSorts.{looking_at, same_children, heads_looking, place_looked_at, place_plain, plain_there, program_sort_plain}
use Rattle.program_facts.proofs.PlacesAgree.{place_as_many}
use Rattle.rule_word.proofs.ProgramSorts.{some_is, then_inv, fits_inv, are_inv, scalar_first, call_inv}
use Rattle.rule_word.proofs.ProgramsGive.{Gives, GivesThere, claim_gives, starts_given}
use Rattle.rule_word.proofs.ProgramWidths.{AllWide, WideNames, WideCalls, wide_after, given_wide}
use Rattle.rule_word.proofs.Recasts.{same_widths, first_inv, recast_sorts}
use Rattle.rule_word.proofs.RightSorted.{HasWidths, sort_given, There, SortedThere, claim_sorted, given_kind}
use Rattle.rule_word.proofs.ScopesAfter.{names_after, setting_after}
use Rattle.rule_word.proofs.SoundExpressions.{one_less}
use Rattle.rule_word.proofs.Widths.{IsWide, has_widths}

then_is : (o : Option (List Scalar)) (f : List Scalar → Option (List Scalar)) (cs ds : List Scalar) → o ≡ Some cs → f cs ≡ Some ds → and_then_scalars o f ≡ Some ds
then_is o f cs ds h k = ap (λ z. and_then_scalars z f) h ∙ k

fits_is : (b : Bool) (o : Option (List Scalar)) (cs : List Scalar) → b ≡ true → o ≡ Some cs → where_fits b o ≡ Some cs
fits_is b o cs h k = ap (λ c. where_fits c o) h ∙ k

pub are_there : (o : Option (List Scalar)) (cs : List Scalar) → o ≡ Some cs → are_scalars cs o ≡ true
are_there o cs h = ap (are_scalars cs) h ∙ same_scalars-refl cs

same_length : (f g : Kind → Scalar) (ks : List Kind) → length (map f ks) ≡ length (map g ks)
same_length f g [] = refl
same_length f g (k ∷ ks) = ap (λ n. suc n) (same_length f g ks)

still_one : (xs : List Name) (ks : List Kind) → one_for_each xs (map word_sort_of ks) ≡ true → one_for_each xs (map sort_of_kind ks) ≡ true
still_one xs ks h = ap (λ n. length xs == n) (same_length sort_of_kind word_sort_of ks) ∙ h

-- names that are recast
abbrev AreNamed : (Name → Option Scalar) → List Name → List Kind → Type 0
AreNamed names (y ∷ ys) (j ∷ js) = (names y ≡ Some (sort_of_kind j)) × AreNamed names ys js
AreNamed names _ _ = Unit {0}

stays : (y : Name) (xs : List Name) (ss : List Scalar) (names : Name → Option Scalar) → is_among y xs ≡ false → names_with xs ss names y ≡ names y
stays y [] ss names h = refl
stays y (x ∷ xs) [] names h = refl
stays y (x ∷ xs) (s ∷ ss) names h =
    let d = or_parts (same_name y x) (is_among y xs) h in
    stays y xs ss (with_name x (Some s) names) d.1 ∙ cond-false (same_name x y) (Some s) (names y) (other_name y x d.0)

are_named : (ys : List Name) (js : List Kind) (names : Name → Option Scalar) → are_distinct ys ≡ true → AreNamed (names_with ys (map sort_of_kind js) names) ys js
are_named (y ∷ ys) (j ∷ js) names h =
    let d = and_parts (not (is_among y ys)) (are_distinct ys) h in (
      stays y ys (map sort_of_kind js) (with_name y (Some (sort_of_kind j)) names) (not-true (is_among y ys) d.0) ∙ cond-true (same_name y y) (Some (sort_of_kind j)) (names y) (same_name-refl y),
      are_named ys js (with_name y (Some (sort_of_kind j)) names) d.1,
    )
are_named [] js names h = tt
are_named (y ∷ ys) [] names h = tt

module _ (g : Scope) where
  var_is : (e : Exp) (y : Name) (c : Scalar) → X.Var y ≡ e → g.names y ≡ Some c → program_sort g e ≡ Some (Of c)
  var_is e y c h k = subst (λ z. program_sort g z ≡ Some (Of c)) h (ap scalar_sort k)

  word_is : (e : Exp) (y : Name) (n m : ℕ) → X.ToWord m (X.Var y) ≡ e → g.names y ≡ Some NumberSort → m ≡ n → is_width n ≡ true → program_sort g e ≡ Some (Of (WordSort m))
  word_is e y n m h k i w =
      subst (λ z. program_sort g z ≡ Some (Of (WordSort m))) h (ap₂ (λ b o. where_holds (b && is_number (scalar_sort o)) (word_sort m)) (ap is_width i ∙ w) k)

  recast_right : (j k : Kind) (y : Name) (a : Exp) → recast j k (X.Var y) ≡ Some a → g.names y ≡ Some (sort_of_kind j) → IsWide (Some (Of (word_sort_of j))) → program_sort g a ≡ Some (Of (sort_of_kind k))
  recast_right (WordKind n) (WordKind m) y a h q w = let r = same_widths m n (X.Var y) a h in var_is a y (WordSort m) r.1 (q ∙ ap (λ i. Some (WordSort i)) (sym r.0))
  recast_right (NatKind n) (NatKind m) y a h q w = var_is a y NumberSort (same_widths m n (X.Var y) a h).1 q
  recast_right (IntKind n) (IntKind m) y a h q w = var_is a y NumberSort (same_widths m n (X.Var y) a h).1 q
  recast_right BoolKind BoolKind y a h q w = var_is a y TruthSort (some_is h) q
  recast_right (WordKind n) (NatKind m) y a h q w =
      subst (λ z. program_sort g z ≡ Some (Of NumberSort)) (same_widths m n (X.ToNat (X.Var y)) a h).1 (ap (λ o. of_word (word_width (scalar_sort o)) (λ i. number_sort)) q)
  recast_right (WordKind n) (IntKind m) y a h q w =
      subst (λ z. program_sort g z ≡ Some (Of NumberSort)) (same_widths m n (X.ToInt (X.Var y)) a h).1 (ap (λ o. of_word (word_width (scalar_sort o)) (λ i. number_sort)) q)
  recast_right (NatKind n) (WordKind m) y a h q w = let r = same_widths m n (X.ToWord m (X.Var y)) a h in word_is a y n m r.1 q r.0 w
  recast_right (IntKind n) (WordKind m) y a h q w = let r = same_widths m n (X.ToWord m (X.Var y)) a h in word_is a y n m r.1 q r.0 w
  recast_right _ _ y a h q w = absurd cc

  recasts_right : (js ks : List Kind) (ys : List Name) (es : List Exp) → recasts js ks ys ≡ Some es → AreNamed g.names ys js → AllWide (map word_sort_of js) → scalars_of g es ≡ Some (map sort_of_kind ks)
  recasts_right [] [] [] es h n w = ap (scalars_of g) (sym (some_is h))
  recasts_right (j ∷ js) (k ∷ ks) (y ∷ ys) es h n w =
      let f = first_inv (recast j k (X.Var y)) (recasts js ks ys) es h in
      ap (scalars_of g) f.4
      ∙ ap₂ (λ o r. with_scalar (scalar_in o) r) (recast_right j k y f.0 f.2 n.0 w.0) (recasts_right js ks ys f.1 f.3 n.1 w.1)
  recasts_right [] [] (y ∷ ys) es h n w = absurd cc
  recasts_right [] (k ∷ ks) ys es h n w = absurd cc
  recasts_right (j ∷ js) [] ys es h n w = absurd cc
  recasts_right (j ∷ js) (k ∷ ks) [] es h n w = absurd cc

recasts_one : (js ks : List Kind) (ys : List Name) (es : List Exp) → recasts js ks ys ≡ Some es → length ys ≡ length (map sort_of_kind js)
recasts_one [] [] [] es h = refl
recasts_one (j ∷ js) (k ∷ ks) (y ∷ ys) es h =
    let f = first_inv (recast j k (X.Var y)) (recasts js ks ys) es h in ap (λ n. suc n) (recasts_one js ks ys f.1 f.3)
recasts_one [] [] (y ∷ ys) es h = absurd cc
recasts_one [] (k ∷ ks) ys es h = absurd cc
recasts_one (j ∷ js) [] ys es h = absurd cc
recasts_one (j ∷ js) (k ∷ ks) [] es h = absurd cc

module _ (ctx : Context) (lay : IsLayout ctx.layout) (calls : WideCalls word_sort_of ctx.functions) where
  abbrev G : Point → Scope
  G at = (words ctx at.names).scope

  abbrev H : Point → Scope
  H at = (numbers ctx at.names).scope

  -- names in scope are of words of the four widths
  abbrev pub AreWide : Point → Type 0
  AreWide at = WideNames (names_in word_sort_of at.names)

  abbrev IsLeft : Point → Mon → List Kind → Type 0
  IsLeft at m ks = scalars_given (words ctx at.names) m ≡ Some (map word_sort_of ks)

  abbrev IsRight : Point → Mon → List Kind → Type 0
  IsRight at m' ks = scalars_given (numbers ctx at.names) m' ≡ Some (map sort_of_kind ks)

  pub record ExpRight (at : Point) (e : Exp) (v : View) (a : Exp) : Type 1 where
    pub sorted : There ctx at e v a
    pub plain : StaysPlain ctx e a

  pub record MonRight (at : Point) (m m' : Mon) (ks : List Kind) : Type 1 where
    pub gives : Gives ctx at m ks
    pub right : WideNames (names_in word_sort_of at.names) → scalars_given (words ctx at.names) m ≡ Some (map word_sort_of ks) → scalars_given (numbers ctx at.names) m' ≡ Some (map sort_of_kind ks)

  abbrev Holds : Claim → Type 1
  Holds (expression at e v a) = ExpRight at e v a
  Holds (program at m m' ks) = MonRight at m m' ks

  sorted_of : (c : Claim) → Holds c → SortedThere ctx c
  sorted_of (expression at e v a) h = h.sorted
  sorted_of (program at m m' ks) h = tt

  plain_of : (c : Claim) → Holds c → PlainThere ctx c
  plain_of (expression at e v a) h = h.plain
  plain_of (program at m m' ks) h = tt

  gives_of : (c : Claim) → Holds c → GivesThere ctx c
  gives_of (expression at e v a) h = record { sort = h.sorted.there.left }
  gives_of (program at m m' ks) h = h.gives

  all_weaker : (P : Claim → Type 1) → ((c : Claim) → Holds c → P c) → (cs : List Claim) → AllHold Holds cs → AllHold P cs
  all_weaker P f [] h = tt
  all_weaker P f (c ∷ cs) h = (f c h.0, all_weaker P f cs h.1)

  wide_at : (at : Point) → AreWide at → HasWidths (G at)
  wide_at at w = has_widths (G at) lay w

  exp_right : (at : Point) (e : Exp) (v : View) (a : Exp) (s : Sort) → AreWide at → ExpRight at e v a → program_sort (G at) e ≡ Some s → program_sort (H at) a ≡ sort_given v
  exp_right at e v a s w h q =
      program_sort_plain (H at) a (h.plain.stays (plain_there (has is_part_of_value e) (sort_of (G at) e) s q)) ∙ h.sorted.there.right (wide_at at w)

  test_right : (at : Point) (e a : Exp) → AreWide at → ExpRight at e truth a → is_truth (program_sort (G at) e) ≡ true → is_truth (program_sort (H at) a) ≡ true
  test_right at e a w h q = ap is_truth (exp_right at e truth a (Of TruthSort) w h (truth_inv (program_sort (G at) e) q))

  abbrev tail_of : List Scalar → List Scalar
  tail_of [] = []
  tail_of (c ∷ cs) = cs

  each_right : (at : Point) (es : List Exp) (ks : List Kind) (es' : List Exp) → AreWide at → AreMatched es ks es' → AllHold Holds (each at es (views_for ks) es') → scalars_of (G at) es ≡ Some (map word_sort_of ks) → scalars_of (H at) es' ≡ Some (map sort_of_kind ks)
  each_right at [] [] [] w n s q = refl
  each_right at (e ∷ es) (k ∷ ks) (a ∷ as') w n s q =
      let r = scalar_first (scalar_in (program_sort (G at) e)) (scalars_of (G at) es) (word_sort_of k ∷ map word_sort_of ks) q in
      ap₂ (λ o z. with_scalar (scalar_in o) z)
      (exp_right at e (view_for k) a (Of r.0) w s.0 (scalar_in_inv (program_sort (G at) e) r.0 r.4) ∙ sym (given_kind k))
      (each_right at es ks as' w n s.1 (r.3 ∙ ap (λ cs. Some cs) (sym (ap tail_of r.2))))
  each_right at _ _ _ w n s q = absurd n

  first_hold : (cs ds : List Claim) → AllHold Holds (cs ++ ds) → AllHold Holds cs
  first_hold [] ds h = tt
  first_hold (c ∷ cs) ds h = (h.0, first_hold cs ds h.1)

  others_hold : (cs ds : List Claim) → AllHold Holds (cs ++ ds) → AllHold Holds ds
  others_hold [] ds h = h
  others_hold (c ∷ cs) ds h = others_hold cs ds h.1

  -- a write
  place_parts : (at : Point) (es as' : List Exp) (e e' : Exp) → length as' ≡ length es → AllHold Holds (each at (es ++ (e ∷ [])) (owns (G at) (es ++ (e ∷ []))) (as' ++ (e' ∷ []))) →
      AllHold Holds (each at es (owns (G at) es) as') × ExpRight at e (AsIs (sort_of (G at) e)) e'
  place_parts at [] [] e e' n s = (tt, s.0)
  place_parts at (d ∷ es) (a ∷ as') e e' n s = let r = place_parts at es as' e e' (one_less (length as') (length es) n) s.1 in ((s.0, r.0), r.1)
  place_parts at [] (a ∷ as') e e' n s = absurd cc
  place_parts at (d ∷ es) [] e e' n s = absurd cc

  same_sorts : (at : Point) (es as' : List Exp) → AreWide at → length as' ≡ length es → AllHold Holds (each at es (owns (G at) es) as') →
      sorts_in ctx.layout (global_type ctx.globals) (names_in word_sort_of at.names) (names_in sort_of_kind at.names) (H at) as'
      ≡ sorts_in ctx.layout (global_type ctx.globals) (names_in word_sort_of at.names) (names_in sort_of_kind at.names) (G at) es
  same_sorts at [] [] w n s = refl
  same_sorts at (e ∷ es) (a ∷ as') w n s = ap₂ (λ o os. o ∷ os) (s.0.sorted.there.right (wide_at at w)) (same_sorts at es as' w (one_less (length as') (length es) n) s.1)
  same_sorts at [] (a ∷ as') w n s = absurd cc
  same_sorts at (e ∷ es) [] w n s = absurd cc

  all_plain : (at : Point) (es as' : List Exp) → length as' ≡ length es → AllHold Holds (each at es (owns (G at) es) as') → ArePlain es → ArePlain as'
  all_plain at [] [] n s h = tt
  all_plain at (e ∷ es) (a ∷ as') n s h = (s.0.plain.stays h.0, all_plain at es as' (one_less (length as') (length es) n) s.1 h.1)
  all_plain at [] (a ∷ as') n s h = absurd cc
  all_plain at (e ∷ es) [] n s h = absurd cc

  no_name : (p : Place) → IsNoName ctx.layout (global_type ctx.globals) (λ x. None) (λ x. None) (looking_at p)
  no_name (M.Stored t p path) = tt
  no_name _ = tt

  place_right : (at : Point) (p p' : Place) (s : Sort) → AreWide at → place_head p' ≡ place_head p → AllHold Holds (each at (place_children p) (owns (G at) (place_children p)) (place_children p')) →
      place_sort (G at) p ≡ Some s → place_sort (H at) p' ≡ Some s
  place_right at p p' s w h k q =
      let i = place_plain (G at) p s q in
      let n = place_as_many p p' h in
      let plain : ArePlain (place_children p) = subst ArePlain (same_children p) (plain_children (looking_at p) i) in
      let i' = heads_plain (looking_at p) (looking_at p') (heads_looking p p' h) i (subst ArePlain (sym (same_children p')) (all_plain at (place_children p) (place_children p') n k plain)) in
      let same = ap (sorts_in ctx.layout (global_type ctx.globals) (names_in word_sort_of at.names) (names_in sort_of_kind at.names) (H at)) (same_children p')
      ∙ same_sorts at (place_children p) (place_children p') w n k
      ∙ ap (sorts_in ctx.layout (global_type ctx.globals) (names_in word_sort_of at.names) (names_in sort_of_kind at.names) (G at)) (sym (same_children p)) in
      place_looked_at (H at) p' i'
      ∙ heads_sorted ctx.layout (global_type ctx.globals) (names_in word_sort_of at.names) (names_in sort_of_kind at.names) (looking_at p) (looking_at p') (no_name p) (heads_looking p p' h) same
      ∙ sym (place_looked_at (G at) p i) ∙ q

  write_right : (at : Point) (p p' : Place) (e e' : Exp) → AreWide at → place_head p' ≡ place_head p →
      AllHold Holds (each at (place_children p ++ (e ∷ [])) (owns (G at) (place_children p ++ (e ∷ []))) (place_children p' ++ (e' ∷ []))) → IsLeft at (M.Write p e) [] → IsRight at (M.Write p' e') []
  write_right at p p' e e' w h s q =
      let f = fits_inv (fits_place (place_sort (G at) p) (program_sort (G at) e)) (Some []) [] q in
      let r = fits_there (place_sort (G at) p) (program_sort (G at) e) f.0 in
      let parts = place_parts at (place_children p) (place_children p') e e' (place_as_many p p' h) s in
      let plain = plain_there (has is_part_of_value e) (sort_of (G at) e) r.0 r.2 in
      fits_is _ (Some []) []
      (ap₂ fits_place (place_right at p p' r.0 w h parts.0 r.1 ∙ sym r.1) (exp_right at e (AsIs (sort_of (G at) e)) e' r.0 w parts.1 r.2 ∙ sym (program_sort_plain (G at) e plain)) ∙ f.0)
      refl

  pick_right : (at : Point) (k j : Kind) (ks : List Kind) → is_kind j ≡ is_kind k → IsLeft at (M.Pick k) ks → IsRight at (M.Pick j) (j ∷ [])
  pick_right at k j ks e q = fits_is (is_kind j) (Some (sort_of_kind j ∷ [])) (sort_of_kind j ∷ []) (e ∙ (fits_inv (is_kind k) (Some (sort_of_kind k ∷ [])) (map word_sort_of ks) q).0) refl

  result_kinds : (r : Option Kind) → result_scalars sort_of_kind r ≡ map sort_of_kind (result_as_list r)
  result_kinds None = refl
  result_kinds (Some k) = refl

  call_right : (at : Point) (o : Option Signature) (es es' : List Exp) (ks : List Kind) → AreWide at → (call_row o at es es' ks).holds → AllHold Holds (call_row o at es es' ks).parts →
      call_scalars word_sort_of o (scalars_of (G at) es) ≡ Some (map word_sort_of ks) → call_scalars sort_of_kind o (scalars_of (H at) es') ≡ Some (map sort_of_kind ks)
  call_right at None es es' ks w h s q = absurd h
  call_right at (Some f) es es' ks w h s q =
      let c = call_inv f (scalars_of (G at) es) (map word_sort_of ks) q in
      ap (call_scalars sort_of_kind (Some f)) (each_right at es (kinds_of f.params) es' w h.1 s c.0)
      ∙ cond-true (same_scalars (map sort_of_kind (kinds_of f.params)) (map sort_of_kind (kinds_of f.params))) (Some (result_scalars sort_of_kind f.result)) None (same_scalars-refl (map sort_of_kind (kinds_of f.params)))
      ∙ ap (λ cs. Some cs) (result_kinds f.result ∙ ap (map sort_of_kind) (sym h.0))

  -- names that are bound have words of the four widths
  wide_inner : (at : Point) (xs : List Name) (js : List Kind) → AreWide at → AllWide (map word_sort_of js) → WideNames (names_in word_sort_of (with_kinds xs js at.names))
  wide_inner at xs js w h = subst WideNames (names_after word_sort_of xs js at.names) (wide_after xs (map word_sort_of js) (names_in word_sort_of at.names) h w)

  gives_wide : (at : Point) (m : Mon) (ks : List Kind) → AreWide at → IsLeft at m ks → AllWide (map word_sort_of ks)
  gives_wide at m ks w q = given_wide word_sort_of ctx.functions calls m (G at) lay w (map word_sort_of ks) q

  module _ (at : Point) (js : List Kind) (starts starts' : List Start) (guard test guard' test' : Exp) (m m' : Mon) where
    abbrev inside : List Fact → Point
    inside fs = record { facts = fs; names = with_kinds (start_names starts) js at.names }

    loop_right : AreWide at → start_names starts' ≡ start_names starts → AreMatched (start_exps starts) js (start_exps starts') → AllHold Holds (each at (start_exps starts) (views_for js) (start_exps starts')) →
        ExpRight (inside []) guard truth guard' → ExpRight (inside (Whole guard' ∷ [])) test truth test' → MonRight (inside (Whole test' ∷ Whole guard' ∷ [])) m m' js →
        IsLeft at (M.Loop starts guard test m) js → IsRight at (M.Loop starts' guard' test' m') js
    loop_right w e n s cg ct body q =
        let t = words ctx at.names in
        let u = numbers ctx at.names in
        let xs = start_names starts in
        let r = then_inv (start_scalars t.scope starts) (λ ss. let inner = setting_with xs ss t in
        where_fits (are_distinct xs && is_truth (program_sort inner.scope guard) && is_truth (program_sort inner.scope test) && are_scalars ss (scalars_given inner m)) (Some ss)) (map word_sort_of js) q in
        let inner = setting_with xs r.0 t in
        let i = fits_inv (are_distinct xs && is_truth (program_sort inner.scope guard) && is_truth (program_sort inner.scope test) && are_scalars r.0 (scalars_given inner m)) (Some r.0) (map word_sort_of js) r.2 in
        let d = and_parts (are_distinct xs && is_truth (program_sort inner.scope guard) && is_truth (program_sort inner.scope test)) (are_scalars r.0 (scalars_given inner m)) i.0 in
        let f = and_parts (are_distinct xs && is_truth (program_sort inner.scope guard)) (is_truth (program_sort inner.scope test)) d.0 in
        let c = and_parts (are_distinct xs) (is_truth (program_sort inner.scope guard)) f.0 in
        let same : r.0 ≡ map word_sort_of js = some_is i.1 in
        let here : inner ≡ words ctx (with_kinds xs js at.names) = ap (λ ss. setting_with xs ss t) same ∙ setting_after word_sort_of ctx xs js at.names in
        let there : setting_with xs (map sort_of_kind js) u ≡ numbers ctx (with_kinds xs js at.names) = setting_after sort_of_kind ctx xs js at.names in
        let w' : AreWide (inside []) = wide_inner at xs js w (gives_wide at (M.Loop starts guard test m) js w q) in
        let qs : start_scalars u.scope starts' ≡ Some (map sort_of_kind js) = starts_given ctx u.scope starts' ∙ each_right at (start_exps starts) js (start_exps starts') w n s (sym (starts_given ctx t.scope starts) ∙ r.1 ∙ i.1) in
        let body_left : scalars_given (words ctx (with_kinds xs js at.names)) m ≡ Some (map word_sort_of js) = sym (ap (λ z. scalars_given z m) here) ∙ are_inv r.0 (scalars_given inner m) d.1 ∙ i.1 in
        let guard_right = test_right (inside []) guard guard' w' cg (sym (ap (λ z. is_truth (program_sort z.scope guard)) here) ∙ c.1) in
        let tested = test_right (inside (Whole guard' ∷ [])) test test' w' ct (sym (ap (λ z. is_truth (program_sort z.scope test)) here) ∙ f.1) in
        let body_right = body.right w' body_left in
        ap (λ ys. and_then_scalars (start_scalars u.scope starts') (λ ss. let inner = setting_with ys ss u in
        where_fits (are_distinct ys && is_truth (program_sort inner.scope guard') && is_truth (program_sort inner.scope test') && are_scalars ss (scalars_given inner m')) (Some ss))) e
        ∙ then_is (start_scalars u.scope starts') _ (map sort_of_kind js) (map sort_of_kind js) qs
        (ap (λ (z : Setting). where_fits (are_distinct xs && is_truth (program_sort z.scope guard') && is_truth (program_sort z.scope test') && are_scalars (map sort_of_kind js) (scalars_given z m')) (Some (map sort_of_kind js))) there
        ∙ fits_is _ (Some (map sort_of_kind js)) (map sort_of_kind js)
        (and_from _ _ (and_from _ _ (and_from _ _ c.0 guard_right) tested) (are_there (scalars_given (numbers ctx (with_kinds xs js at.names)) m') (map sort_of_kind js) body_right)) refl)

  bind_right : (at : Point) (js ks : List Kind) (xs xs' : List Name) (fs : List Fact) (m m' n n' : Mon) → AreWide at → xs' ≡ xs → MonRight at m m' js → MonRight (record { facts = fs; names = with_kinds xs js at.names }) n n' ks →
      IsLeft at (M.Bind m xs n) ks → IsRight at (M.Bind m' xs' n') ks
  bind_right at js ks xs xs' fs m m' n n' w e a b q =
      let t = words ctx at.names in
      let u = numbers ctx at.names in
      let r = then_inv (scalars_given t m) (λ ss. where_fits (one_for_each xs ss && are_distinct xs) (scalars_given (setting_with xs ss t) n)) (map word_sort_of ks) q in
      let i = fits_inv (one_for_each xs r.0 && are_distinct xs) (scalars_given (setting_with xs r.0 t) n) (map word_sort_of ks) r.2 in
      let same = a.gives.gives r.0 r.1 in
      let left : IsLeft at m js = r.1 ∙ ap (λ ss. Some ss) same in
      let c = and_parts (one_for_each xs r.0) (are_distinct xs) i.0 in
      let w' = wide_inner at xs js w (gives_wide at m js w left) in
      let here = ap (λ ss. setting_with xs ss t) same ∙ setting_after word_sort_of ctx xs js at.names in
      let right = b.right w' (sym (ap (λ z. scalars_given z n) here) ∙ i.1) in
      ap (λ ys. and_then_scalars (scalars_given u m') (λ ss. where_fits (one_for_each ys ss && are_distinct ys) (scalars_given (setting_with ys ss u) n'))) e
      ∙ then_is (scalars_given u m') (λ ss. where_fits (one_for_each xs ss && are_distinct xs) (scalars_given (setting_with xs ss u) n')) (map sort_of_kind js) (map sort_of_kind ks) (a.right w left)
      (fits_is _ _ (map sort_of_kind ks) (and_from _ _ (still_one xs js (sym (ap (one_for_each xs) same) ∙ c.0)) c.1) (ap (λ z. scalars_given z n') (setting_after sort_of_kind ctx xs js at.names) ∙ right))

  recast_program : (at : Point) (js ks : List Kind) (ys : List Name) (es : List Exp) (m m' : Mon) → AreWide at → recasts js ks ys ≡ Some es → are_distinct ys ≡ true → MonRight at m m' js → IsLeft at m ks → IsRight at (M.Bind m' ys (M.Ret es)) ks
  recast_program at js ks ys es m m' w h d a q =
      let u = numbers ctx at.names in
      let left : IsLeft at m js = q ∙ ap (λ cs. Some cs) (sym (recast_sorts js ks ys es h)) in
      then_is (scalars_given u m') (λ ss. where_fits (one_for_each ys ss && are_distinct ys) (scalars_given (setting_with ys ss u) (M.Ret es))) (map sort_of_kind js) (map sort_of_kind ks) (a.right w left)
      (fits_is _ _ (map sort_of_kind ks) (and_from _ _ ((Decides-eqb (length ys) (length (map sort_of_kind js))).1 (recasts_one js ks ys es h)) d)
      (recasts_right (scope_with ys (map sort_of_kind js) u.scope) js ks ys es h (are_named ys js u.scope.names d) (gives_wide at m js w left)))

  -- one case for each row
  row_right : (at : Point) (rule : Rule) (m m' : Mon) (ks : List Kind) → (program_row ctx at rule m m' ks).holds → AllHold Holds (program_row ctx at rule m m' ks).parts → AreWide at → IsLeft at m ks → IsRight at m' ks
  row_right at R.Ret (M.Ret es) (M.Ret es') ks h s w q = each_right at es ks es' w h s q
  row_right at R.Guard (M.Guard e) (M.Guard e') [] h s w q =
      fits_is _ (Some []) [] (test_right at e e' w s.0 (fits_inv (is_truth (program_sort (G at) e)) (Some []) [] q).0) refl
  row_right at R.If (M.If e m n) (M.If e' m' n') ks h s w q =
      let t = words ctx at.names in
      let u = numbers ctx at.names in
      let r = then_inv (scalars_given t m) (λ ss. where_fits (is_truth (program_sort (G at) e) && are_scalars ss (scalars_given t n)) (Some ss)) (map word_sort_of ks) q in
      let i = fits_inv (is_truth (program_sort (G at) e) && are_scalars r.0 (scalars_given t n)) (Some r.0) (map word_sort_of ks) r.2 in
      let d = and_parts (is_truth (program_sort (G at) e)) (are_scalars r.0 (scalars_given t n)) i.0 in
      then_is (scalars_given u m') (λ ss. where_fits (is_truth (program_sort (H at) e') && are_scalars ss (scalars_given u n')) (Some ss)) (map sort_of_kind ks) (map sort_of_kind ks) (s.1.0.right w (r.1 ∙ i.1))
      (fits_is _ (Some (map sort_of_kind ks)) (map sort_of_kind ks)
      (and_from _ _ (test_right at e e' w s.0 d.0) (are_there (scalars_given u n') (map sort_of_kind ks) (s.1.1.0.right w (are_inv r.0 (scalars_given t n) d.1 ∙ i.1)))) refl)
  row_right at R.Global (M.Write (M.Global x path) e) (M.Write p' e') [] h s w q = write_right at (M.Global x path) p' e e' w h s q
  row_right at R.Write (M.Write (M.Stored t p path) e) (M.Write p' e') [] h s w q = write_right at (M.Stored t p path) p' e e' w h s q
  row_right at R.Write (M.Write (M.Written t p path) e) (M.Write p' e') [] h s w q = write_right at (M.Written t p path) p' e e' w h s q
  row_right at R.Pick (M.Pick k) (M.Pick k') ks h s w q =
      subst (λ js. IsRight at (M.Pick k') js) (ap (λ j. j ∷ []) h.0 ∙ sym h.1) (pick_right at k k' ks (ap is_kind h.0) q)
  row_right at R.PickNat (M.Pick (WordKind n)) (M.Pick k') ks h s w q =
      subst (λ js. IsRight at (M.Pick k') js) (ap (λ j. j ∷ []) h.0 ∙ sym h.1) (pick_right at (WordKind n) k' ks (ap is_kind h.0) q)
  row_right at R.PickInt (M.Pick (WordKind n)) (M.Pick k') ks h s w q =
      subst (λ js. IsRight at (M.Pick k') js) (ap (λ j. j ∷ []) h.0 ∙ sym h.1) (pick_right at (WordKind n) k' ks (ap is_kind h.0) q)
  row_right at (R.Bind js) (M.Bind m xs n) (M.Bind m' xs' n') ks h s w q = bind_right at js ks xs xs' (facts_after m' xs at.facts) m m' n n' w h s.0 s.1.0 q
  row_right at (R.Loop js) (M.Loop starts guard test m) (M.Loop starts' guard' test' m') ks h s w q =
      let first = each at (start_exps starts) (views_for js) (start_exps starts') in
      let t = others_hold first _ s in
      subst (λ is. IsRight at (M.Loop starts' guard' test' m') is) (sym h.1)
      (loop_right at js starts starts' guard test guard' test' m m' w h.0 h.2 (first_hold first _ s) t.0 t.1.0 t.1.1.0 (q ∙ ap (λ is. Some (map word_sort_of is)) h.1))
  row_right at R.Call (M.Call f es) (M.Call g es') ks h s w q =
      ap (λ x. scalars_given (numbers ctx at.names) (M.Call x es')) h.0 ∙ call_right at (signature ctx.functions f) es es' ks w h.1 s q
  row_right at (R.Recast js) m (M.Bind m' ys (M.Ret es)) ks h s w q = recast_program at js ks ys es m m' w h.0 h.1 s.0 q
  row_right _ _ _ _ _ h s w q = absurd h

  claim_right : (rule : Rule) (c : Claim) → (table ctx rule c).holds → AllHold Holds (table ctx rule c).parts → Holds c
  claim_right rule (expression at e v a) h s = record {
    sorted = claim_sorted ctx rule (expression at e v a) h (all_weaker (SortedThere ctx) sorted_of (table ctx rule (expression at e v a)).parts s);
    plain = claim_plain ctx rule (expression at e v a) h (all_weaker (PlainThere ctx) plain_of (table ctx rule (expression at e v a)).parts s);
  }
  claim_right rule (program at m m' ks) h s = record {
    gives = claim_gives ctx rule (program at m m' ks) h (all_weaker (GivesThere ctx) gives_of (table ctx rule (program at m m' ks)).parts s);
    right = row_right at rule m m' ks h s;
  }

  pub program_sorted_right : (at : Point) (t : Tree Rule) (m m' : Mon) (ks : List Kind) → WideNames (names_in word_sort_of at.names) → Accepts (table ctx) t (program at m m' ks) →
      scalars_given (words ctx at.names) m ≡ Some (map word_sort_of ks) → scalars_given (numbers ctx at.names) m' ≡ Some (map sort_of_kind ks)
  program_sorted_right at t m m' ks w h q = (accepted_holds (table ctx) Holds claim_right t (program at m m' ks) h).right w q
