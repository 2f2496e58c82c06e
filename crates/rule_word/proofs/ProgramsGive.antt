-- What the rules take a well-sorted program to at kinds gives words of these kinds: each part's claim says its sorts.
use Rattle.std.proofs.Common.{◌≡◌, ◌&&◌, List, [], ◌∷◌, ◌++◌, map, Option, Some, None, refl, sym, ap, ap₂, ◌∙◌}
use Rattle.c_values.specs.Name.{are_distinct}
use Rattle.expression_lang.specs.Expression.{Exp}
use Rattle.expression_lang.specs.Sort.{Scalar, Of, Kind, WordKind, NatKind, IntKind, Scope, sort_of, is_truth, is_kind, sort_of_kind, word_sort_of}
use Rattle.expression_lang.specs.Sorted.{program_sort, scalar_in, with_scalar, scalars_of, fits_place, call_scalars}
use Rattle.expression_lang.specs.Signature.{Signature, signature}
use Rattle.expression_lang.proofs.SortParts.{program_sort_inv, scalar_in_inv}
use Rattle.monad_lang.specs.Program as M
use Rattle.monad_lang.specs.Program.{Mon, Place, Start}
use Rattle.monad_lang.specs.Run.{start_names}
use Rattle.monad_lang.specs.Sorted.{setting_with, scalars_given, start_scalars, place_sort, one_for_each, where_fits}
use Rattle.rule_trees.specs.RuleTree.{AllHold, Tree, Accepts}
use Rattle.rule_trees.proofs.Induction.{holds as accepted_holds}
use Rattle.rule_word.specs.Rule as R
use Rattle.rule_word.specs.Rule.{Rule, Context, Point, View, Claim, expression, program}
use Rattle.rule_word.specs.Scopes.{words, sort_seen, view_for}
use Rattle.rule_word.specs.Table.{each, AreMatched, views_for, call_row, program_row, table}
use Rattle.rule_parts.specs.Starts.{start_exps}
use Rattle.rule_word.proofs.ProgramSorts.{some_is, then_inv, fits_inv, if_inv, call_inv, result_sorts, scalar_first, loop_parts}
use Rattle.rule_word.proofs.Recasts.{recast_sorts}
use Rattle.rule_word.proofs.ScopesAfter.{sort_of_view, setting_after}

module _ (ctx : Context) where
  -- what holds of the claims of an accepted tree
  pub record HasSort (at : Point) (e : Exp) (v : View) : Type 1 where
    pub sort : sort_of (words ctx at.names).scope e ≡ sort_seen v

  pub record Gives (at : Point) (m : Mon) (ks : List Kind) : Type 1 where
    pub gives : (cs : List Scalar) → scalars_given (words ctx at.names) m ≡ Some cs → cs ≡ map word_sort_of ks

  abbrev pub GivesThere : Claim → Type 1
  GivesThere (expression at e v a) = HasSort at e v
  GivesThere (program at m m' ks) = Gives at m ks

  nothing_given : (cs : List Scalar) → Some [] ≡ Some cs → cs ≡ []
  nothing_given cs h = sym (some_is h)

  same_sort : (c : Scalar) (k : Kind) (g : Scope) (e : Exp) → sort_of g e ≡ Some (Of c) → sort_of g e ≡ sort_seen (view_for k) → c ≡ word_sort_of k
  same_sort c k g e h s = of_is (sym h ∙ s ∙ sort_of_view k)
    where
      of_is : {a b : Scalar} → Some (Of a) ≡ Some (Of b) → a ≡ b
      of_is h = cc

  -- expressions, each of its kind's sort
  pub each_gives : (at : Point) (es : List Exp) (ks : List Kind) (es' : List Exp) → AreMatched es ks es' → AllHold GivesThere (each at es (views_for ks) es') →
      (cs : List Scalar) → scalars_of (words ctx at.names).scope es ≡ Some cs → cs ≡ map word_sort_of ks
  each_gives at [] [] [] n s cs h = nothing_given cs h
  each_gives at (e ∷ es) (k ∷ ks) (a ∷ as') n s cs h =
      let g = (words ctx at.names).scope in
      let r = scalar_first (scalar_in (program_sort g e)) (scalars_of g es) cs h in
      r.2 ∙ ap₂ (λ d ds. d ∷ ds)
      (same_sort r.0 k g e (program_sort_inv g e (Of r.0) (scalar_in_inv (program_sort g e) r.0 r.4)) s.0.sort)
      (each_gives at es ks as' n s.1 r.1 r.3)
  each_gives at _ _ _ n s cs h = absurd n

  pub starts_given : (g : Scope) (xs : List Start) → start_scalars g xs ≡ scalars_of g (start_exps xs)
  starts_given g [] = refl
  starts_given g (x ∷ xs) = ap (λ o. with_scalar (scalar_in (program_sort g x.exp)) o) (starts_given g xs)

  first_hold : (cs ds : List Claim) → AllHold GivesThere (cs ++ ds) → AllHold GivesThere cs
  first_hold [] ds h = tt
  first_hold (c ∷ cs) ds h = (h.0, first_hold cs ds h.1)

  call_gives : (at : Point) (o : Option Signature) (es es' : List Exp) (ks : List Kind) → (call_row o at es es' ks).holds → (cs : List Scalar) → call_scalars word_sort_of o (scalars_of (words ctx at.names).scope es) ≡ Some cs → cs ≡ map word_sort_of ks
  call_gives at None es es' ks h cs q = absurd h
  call_gives at (Some g) es es' ks h cs q =
      sym (call_inv g (scalars_of (words ctx at.names).scope es) cs q).1 ∙ sym (result_sorts g.result) ∙ ap (map word_sort_of) (sym h.0)

  write_gives : (at : Point) (place : Place) (e : Exp) (cs : List Scalar) → scalars_given (words ctx at.names) (M.Write place e) ≡ Some cs → cs ≡ []
  write_gives at place e cs q =
      nothing_given cs (fits_inv (fits_place (place_sort (words ctx at.names).scope place) (program_sort (words ctx at.names).scope e)) (Some []) cs q).1

  pick_gives : (k : Kind) (d : Scalar) (ks : List Kind) → sort_of_kind k ≡ d → map word_sort_of ks ≡ d ∷ [] → (cs : List Scalar) → where_fits (is_kind k) (Some (sort_of_kind k ∷ [])) ≡ Some cs → cs ≡ map word_sort_of ks
  pick_gives k d ks e i cs q = sym (some_is (fits_inv (is_kind k) (Some (sort_of_kind k ∷ [])) cs q).1) ∙ ap (λ c. c ∷ []) e ∙ sym i

  -- one case for each row
  row_gives : (at : Point) (rule : Rule) (m m' : Mon) (ks : List Kind) → (program_row ctx at rule m m' ks).holds → AllHold GivesThere (program_row ctx at rule m m' ks).parts → (cs : List Scalar) → scalars_given (words ctx at.names) m ≡ Some cs → cs ≡ map word_sort_of ks
  row_gives at R.Ret (M.Ret es) (M.Ret es') ks h s cs q = each_gives at es ks es' h s cs q
  row_gives at R.Guard (M.Guard e) (M.Guard e') [] h s cs q = nothing_given cs (fits_inv (is_truth (program_sort (words ctx at.names).scope e)) (Some []) cs q).1
  row_gives at R.If (M.If e m n) (M.If e' m' n') ks h s cs q =
      s.1.0.gives cs (if_inv (scalars_given (words ctx at.names) m) (scalars_given (words ctx at.names) n) (is_truth (program_sort (words ctx at.names).scope e)) cs q).0
  row_gives at R.Global (M.Write (M.Global x path) e) (M.Write p' e') [] h s cs q = write_gives at (M.Global x path) e cs q
  row_gives at R.Write (M.Write (M.Stored t p path) e) (M.Write p' e') [] h s cs q = write_gives at (M.Stored t p path) e cs q
  row_gives at R.Write (M.Write (M.Written t p path) e) (M.Write p' e') [] h s cs q = write_gives at (M.Written t p path) e cs q
  row_gives at R.Pick (M.Pick k) (M.Pick k') ks h s cs q = pick_gives k (word_sort_of k) ks h.2 (ap (map word_sort_of) h.1) cs q
  row_gives at R.PickNat (M.Pick (WordKind n)) (M.Pick k') ks h s cs q = pick_gives (WordKind n) (word_sort_of (NatKind n)) ks refl (ap (map word_sort_of) h.1) cs q
  row_gives at R.PickInt (M.Pick (WordKind n)) (M.Pick k') ks h s cs q = pick_gives (WordKind n) (word_sort_of (IntKind n)) ks refl (ap (map word_sort_of) h.1) cs q
  row_gives at (R.Bind js) (M.Bind m xs n) (M.Bind m' xs' n') ks h s cs q =
      let t = words ctx at.names in
      let r = then_inv (scalars_given t m) (λ ss. where_fits (one_for_each xs ss && are_distinct xs) (scalars_given (setting_with xs ss t) n)) cs q in
      let f = fits_inv (one_for_each xs r.0 && are_distinct xs) (scalars_given (setting_with xs r.0 t) n) cs r.2 in
      s.1.0.gives cs (sym (ap (λ z. scalars_given z n) (ap (λ ss. setting_with xs ss t) (s.0.gives r.0 r.1) ∙ setting_after word_sort_of ctx xs js at.names)) ∙ f.1)
  row_gives at (R.Loop js) (M.Loop starts guard test m) (M.Loop starts' guard' test' m') ks h s cs q =
      let t = words ctx at.names in
      let r = loop_parts (start_scalars t.scope starts) _ (λ ss. scalars_given (setting_with (start_names starts) ss t) m) cs q in
      each_gives at (start_exps starts) js (start_exps starts') h.2 (first_hold (each at (start_exps starts) (views_for js) (start_exps starts')) _ s) cs (sym (starts_given t.scope starts) ∙ r)
      ∙ ap (map word_sort_of) (sym h.1)
  row_gives at R.Call (M.Call f es) (M.Call g es') ks h s cs q = call_gives at (signature ctx.functions f) es es' ks h.1 cs q
  row_gives at (R.Recast js) m (M.Bind m' ys (M.Ret es)) ks h s cs q = s.0.gives cs q ∙ recast_sorts js ks ys es h.0
  row_gives _ _ _ _ _ h s cs q = absurd h

  pub claim_gives : (rule : Rule) (c : Claim) → (table ctx rule c).holds → AllHold GivesThere (table ctx rule c).parts → GivesThere c
  claim_gives rule (expression at e v a) h s = record { sort = h.0 }
  claim_gives rule (program at m m' ks) h s = record { gives = row_gives at rule m m' ks h s }

  pub accepted_gives : (at : Point) (t : Tree Rule) (m m' : Mon) (ks : List Kind) (cs : List Scalar) → Accepts (table ctx) t (program at m m' ks) → scalars_given (words ctx at.names) m ≡ Some cs → cs ≡ map word_sort_of ks
  accepted_gives at t m m' ks cs h q = (accepted_holds (table ctx) GivesThere claim_gives t (program at m m' ks) h).gives cs q
