-- The same of programs: each part is well-sorted once those before it are taken. What is to be looked at are the values that are returned
-- and those that a loop starts from, whose kinds are wanted or are data.
use Rattle.std.proofs.Common.{◌≡◌, true, ◌&&◌, List, [], ◌∷◌, ◌++◌, map, Option, Some, None, refl, sym, ap, ◌∙◌}
use Rattle.std.proofs.lemmas.Bool.{and_parts}
use Rattle.c_values.specs.Name.{are_distinct}
use Rattle.c_values.specs.Types.{CType, address_width}
use Rattle.c_values.specs.Layout.{shape_of, is_object, global_type}
use Rattle.expression_lang.specs.Expression.{Exp, Path}
use Rattle.expression_lang.specs.Sort.{Scalar, Sort, Of, WordSort, TruthSort, Kind, WordKind, BoolKind, Scope, is_truth, is_word_of, word_sort_of}
use Rattle.expression_lang.specs.Sorted.{program_sort, scalar_in, scalars_of, typed_place, global_place, part_place, fits_place, call_scalars}
use Rattle.expression_lang.specs.Signature.{Signature, signature, kinds_of}
use Rattle.expression_lang.proofs.Inversion.{truth_inv, word_of_inv}
use Rattle.expression_lang.proofs.SortParts.{program_sort_inv, fits_inv as fits_there, scalar_in_inv}
use Rattle.ac_expr.specs.Heads.{path_children}
use Rattle.ac_expr.proofs.ConstantsSound.{if_inv}
use Rattle.monad_lang.specs.Program as M
use Rattle.monad_lang.specs.Program.{Mon, Place}
use Rattle.monad_lang.specs.Run.{start_names}
use Rattle.monad_lang.specs.Sorted.{setting_with, scalars_given, start_scalars, place_sort, one_for_each, are_scalars, where_fits}
use Rattle.program_facts.specs.Places.{place_children}
use Rattle.rule_trees.specs.RuleTree.{AllHold}
use Rattle.rule_word.specs.Rule as R
use Rattle.rule_word.specs.Rule.{Rule, Context, Point, Claim, expression, program}
use Rattle.rule_word.specs.Scopes.{with_kinds, words, view_for}
use Rattle.rule_word.specs.Table.{each, owns, views_for, call_row, program_row, table}
use Rattle.rule_parts.specs.Starts.{start_exps}
use Rattle.rule_word.proofs.ChildrenSorted.{AreSorted, path_sorted, and_one}
use Rattle.rule_word.proofs.PartsFit.{Fits, ClaimFits, AllFit, FitInTurn, all_in_turn, looked_at, owns_fit, children_fit}
use Rattle.rule_word.proofs.ProgramsGive.{GivesThere, each_gives, starts_given, accepted_gives}
use Rattle.rule_word.proofs.ProgramSorts.{then_inv, fits_inv, are_inv, scalar_first, part_there, call_inv}
use Rattle.rule_word.proofs.ScopesAfter.{sort_of_view, setting_after}

module _ (ctx : Context) where
  abbrev pub looked_at_in : Rule → Claim → List Claim → List Claim
  looked_at_in rule (expression at e v a) cs = looked_at ctx rule cs
  looked_at_in R.Ret (program at m m' ks) cs = cs
  looked_at_in (R.Loop js) (program at (M.Loop starts guard test m) (M.Loop starts' guard' test' m') ks) cs = each at (start_exps starts) (views_for js) (start_exps starts')
  looked_at_in rule (program at m m' ks) cs = []

  abbrev g_at : Point → Scope
  g_at at = (words ctx at.names).scope

  pub test_fits : (at : Point) (e : Exp) → is_truth (program_sort (g_at at) e) ≡ true → Fits ctx at e (view_for BoolKind)
  test_fits at e h = (Of TruthSort, program_sort_inv (g_at at) e (Of TruthSort) (truth_inv (program_sort (g_at at) e) h), refl)

  -- arguments
  each_fits : (at : Point) (es : List Exp) (ks : List Kind) (es' : List Exp) → scalars_of (g_at at) es ≡ Some (map word_sort_of ks) → AllFit ctx (each at es (views_for ks) es')
  each_fits at [] ks es' h = tt
  each_fits at (e ∷ es) [] es' h = tt
  each_fits at (e ∷ es) (k ∷ ks) [] h = tt
  each_fits at (e ∷ es) (k ∷ ks) (a ∷ as') h =
      let g = g_at at in
      let r = scalar_first (scalar_in (program_sort g e)) (scalars_of g es) (word_sort_of k ∷ map word_sort_of ks) h in
      let same : word_sort_of k ≡ r.0 = first_is r.2 in (
        (Of (word_sort_of k), program_sort_inv g e (Of r.0) (scalar_in_inv (program_sort g e) r.0 r.4) ∙ ap (λ c. Some (Of c)) (sym same), sort_of_view k),
        each_fits at es ks as' (r.3 ∙ ap (λ cs. Some cs) (sym (others_are r.2))),
      )
    where
      first_is : {c d : Scalar} {cs ds : List Scalar} → ◌≡◌ {A = List Scalar} (c ∷ cs) (d ∷ ds) → c ≡ d
      first_is h = cc

      others_are : {c d : Scalar} {cs ds : List Scalar} → ◌≡◌ {A = List Scalar} (c ∷ cs) (d ∷ ds) → cs ≡ ds
      others_are h = cc

  call_fits : (at : Point) (o : Option Signature) (es es' : List Exp) (ks : List Kind) (cs : List Scalar) → call_scalars word_sort_of o (scalars_of (g_at at) es) ≡ Some cs → AllFit ctx (call_row o at es es' ks).parts
  call_fits at None es es' ks cs q = tt
  call_fits at (Some f) es es' ks cs q = each_fits at es (kinds_of f.params) es' (call_inv f (scalars_of (g_at at) es) cs q).0

  -- places
  typed_sorted : (at : Point) (t : CType) (p : Exp) (path : Path) (s : Sort) → typed_place (g_at at) t p path ≡ Some s → AreSorted (g_at at) (p ∷ path_children path)
  typed_sorted at t p path s h =
      let g = g_at at in
      let w = address_width ctx.layout.target in
      let r = if_inv (is_object ctx.layout t && is_word_of w (program_sort g p)) (part_place g t path) s h in
      let d = and_parts (is_object ctx.layout t) (is_word_of w (program_sort g p)) r.0 in
      let q = part_there g t path s r.1 in
      ((Of (WordSort w), program_sort_inv g p (Of (WordSort w)) (word_of_inv w (program_sort g p) d.1)), path_sorted g path (shape_of ctx.layout t) q.0 q.1)

  global_sorted : (at : Point) (o : Option CType) (path : Path) (s : Sort) → global_place (g_at at) o path ≡ Some s → AreSorted (g_at at) (path_children path)
  global_sorted at None path s h = absurd cc
  global_sorted at (Some t) path s h =
      let r = if_inv (is_object ctx.layout t) (part_place (g_at at) t path) s h in
      let q = part_there (g_at at) t path s r.1 in path_sorted (g_at at) path (shape_of ctx.layout t) q.0 q.1

  place_sorted : (at : Point) (place : Place) (s : Sort) → place_sort (g_at at) place ≡ Some s → AreSorted (g_at at) (place_children place)
  place_sorted at (M.Stored t p path) s h = typed_sorted at t p path s h
  place_sorted at (M.Written t p path) s h = typed_sorted at t p path s h
  place_sorted at (M.Global x path) s h = global_sorted at (global_type ctx.globals x) path s h

  pub write_fits : (at : Point) (place : Place) (e : Exp) (as' : List Exp) (cs : List Scalar) → scalars_given (words ctx at.names) (M.Write place e) ≡ Some cs →
      AllFit ctx (each at (place_children place ++ (e ∷ [])) (owns (g_at at) (place_children place ++ (e ∷ []))) as')
  write_fits at place e as' cs q =
      let g = g_at at in
      let f = fits_inv (fits_place (place_sort g place) (program_sort g e)) (Some []) cs q in
      let r = fits_there (place_sort g place) (program_sort g e) f.0 in
      owns_fit ctx at (place_children place ++ (e ∷ [])) as' (and_one g (place_children place) e (place_sorted at place r.0 r.1) (r.0, program_sort_inv g e r.0 r.2))

  -- the starts of a loop say its sorts
  sorts_there : (at : Point) (es : List Exp) (ks : List Kind) (es' : List Exp) → AllFit ctx (each at es (views_for ks) es') → AllHold (GivesThere ctx) (each at es (views_for ks) es')
  sorts_there at [] ks es' h = tt
  sorts_there at (e ∷ es) [] es' h = tt
  sorts_there at (e ∷ es) (k ∷ ks) [] h = tt
  sorts_there at (e ∷ es) (k ∷ ks) (a ∷ as') h = (record { sort = h.0.1 ∙ sym h.0.2 }, sorts_there at es ks as' h.1)

  in_turn_after : (cs ds : List Claim) → AllFit ctx cs → FitInTurn ctx ds → FitInTurn ctx (cs ++ ds)
  in_turn_after [] ds h k = k
  in_turn_after (c ∷ cs) ds h k = (h.0, λ t i. in_turn_after cs ds h.1 k)

  program_parts : (rule : Rule) (at : Point) (m m' : Mon) (ks : List Kind) → ClaimFits ctx (program at m m' ks) → (program_row ctx at rule m m' ks).holds →
      AllFit ctx (looked_at_in rule (program at m m' ks) (program_row ctx at rule m m' ks).parts) → FitInTurn ctx (program_row ctx at rule m m' ks).parts
  program_parts R.Ret at (M.Ret es) (M.Ret es') ks f h k = all_in_turn ctx (each at es (views_for ks) es') k
  program_parts R.Guard at (M.Guard e) (M.Guard e') [] f h k =
      (test_fits at e (fits_inv (is_truth (program_sort (g_at at) e)) (Some []) f.0 f.1).0, λ t i. tt)
  program_parts R.If at (M.If e m n) (M.If e' m' n') ks f h k =
      let t = words ctx at.names in
      let r = then_inv (scalars_given t m) (λ ss. where_fits (is_truth (program_sort (g_at at) e) && are_scalars ss (scalars_given t n)) (Some ss)) f.0 f.1 in
      let i = fits_inv (is_truth (program_sort (g_at at) e) && are_scalars r.0 (scalars_given t n)) (Some r.0) f.0 r.2 in
      let d = and_parts (is_truth (program_sort (g_at at) e)) (are_scalars r.0 (scalars_given t n)) i.0 in
      (test_fits at e d.0, λ x y. ((r.0, r.1), λ x y. ((r.0, are_inv r.0 (scalars_given t n) d.1), λ x y. tt)))
  program_parts R.Global at (M.Write (M.Global x path) e) (M.Write p' e') [] f h k = all_in_turn ctx _ (write_fits at (M.Global x path) e (place_children p' ++ (e' ∷ [])) f.0 f.1)
  program_parts R.Write at (M.Write (M.Stored t p path) e) (M.Write p' e') [] f h k = all_in_turn ctx _ (write_fits at (M.Stored t p path) e (place_children p' ++ (e' ∷ [])) f.0 f.1)
  program_parts R.Write at (M.Write (M.Written t p path) e) (M.Write p' e') [] f h k = all_in_turn ctx _ (write_fits at (M.Written t p path) e (place_children p' ++ (e' ∷ [])) f.0 f.1)
  program_parts R.Pick at (M.Pick j) (M.Pick j') ks f h k = tt
  program_parts R.PickNat at (M.Pick (WordKind n)) (M.Pick j') ks f h k = tt
  program_parts R.PickInt at (M.Pick (WordKind n)) (M.Pick j') ks f h k = tt
  program_parts (R.Bind js) at (M.Bind m xs n) (M.Bind m' xs' n') ks f h k =
      let t = words ctx at.names in
      let r = then_inv (scalars_given t m) (λ ss. where_fits (one_for_each xs ss && are_distinct xs) (scalars_given (setting_with xs ss t) n)) f.0 f.1 in
      let i = fits_inv (one_for_each xs r.0 && are_distinct xs) (scalars_given (setting_with xs r.0 t) n) f.0 r.2 in (
        (r.0, r.1),
        λ d y.
            let e = accepted_gives ctx at d m m' js r.0 y r.1 in
            ((f.0, sym (ap (λ z. scalars_given z n) (ap (λ ss. setting_with xs ss t) e ∙ setting_after word_sort_of ctx xs js at.names)) ∙ i.1), λ x z. tt),
      )
  program_parts (R.Loop js) at (M.Loop starts guard test m) (M.Loop starts' guard' test' m') ks f h k =
      let t = words ctx at.names in
      let xs = start_names starts in
      let r = then_inv (start_scalars t.scope starts) (λ ss. let inner = setting_with xs ss t in
      where_fits (are_distinct xs && is_truth (program_sort inner.scope guard) && is_truth (program_sort inner.scope test) && are_scalars ss (scalars_given inner m)) (Some ss)) f.0 f.1 in
      let inner = setting_with xs r.0 t in
      let i = fits_inv (are_distinct xs && is_truth (program_sort inner.scope guard) && is_truth (program_sort inner.scope test) && are_scalars r.0 (scalars_given inner m)) (Some r.0) f.0 r.2 in
      let d = and_parts (are_distinct xs && is_truth (program_sort inner.scope guard) && is_truth (program_sort inner.scope test)) (are_scalars r.0 (scalars_given inner m)) i.0 in
      let e = and_parts (are_distinct xs && is_truth (program_sort inner.scope guard)) (is_truth (program_sort inner.scope test)) d.0 in
      let c = and_parts (are_distinct xs) (is_truth (program_sort inner.scope guard)) e.0 in
      let same = each_gives ctx at (start_exps starts) js (start_exps starts') h.2 (sorts_there at (start_exps starts) js (start_exps starts') k) r.0 (sym (starts_given ctx t.scope starts) ∙ r.1) in
      let here : inner ≡ words ctx (with_kinds xs js at.names) = ap (λ ss. setting_with xs ss t) same ∙ setting_after word_sort_of ctx xs js at.names in
      in_turn_after (each at (start_exps starts) (views_for js) (start_exps starts')) _ k (
        test_fits (record { facts = []; names = with_kinds xs js at.names }) guard (sym (ap (λ z. is_truth (program_sort z.scope guard)) here) ∙ c.1),
        λ x y. (
          test_fits (record { facts = []; names = with_kinds xs js at.names }) test (sym (ap (λ z. is_truth (program_sort z.scope test)) here) ∙ e.1),
          λ x y. ((r.0, sym (ap (λ z. scalars_given z m) here) ∙ are_inv r.0 (scalars_given inner m) d.1), λ x y. tt),
        ),
      )
  program_parts R.Call at (M.Call x es) (M.Call y es') ks f h k = all_in_turn ctx _ (call_fits at (signature ctx.functions x) es es' ks f.0 f.1)
  program_parts (R.Recast js) at m (M.Bind m' ys (M.Ret es)) ks f h k = (f, λ x y. tt)
  program_parts _ at m m' ks f h k = absurd h

  pub parts_fit : (rule : Rule) (c : Claim) → ClaimFits ctx c → (table ctx rule c).holds → AllFit ctx (looked_at_in rule c (table ctx rule c).parts) → FitInTurn ctx (table ctx rule c).parts
  parts_fit rule (expression at e v a) f h k = all_in_turn ctx _ (children_fit ctx at rule e v a f h.1 k)
  parts_fit rule (program at m m' ks) f h k = program_parts rule at m m' ks f h k
