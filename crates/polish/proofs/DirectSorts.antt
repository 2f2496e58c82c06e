-- A program in whose expressions a step is made gives the scalars that it gave.
use Rattle.std.proofs.Common.{◌≡◌, Bool, true, false, cond, ◌&&◌, List, [], ◌∷◌, Option, Some, None, unwrap_or, refl, sym, ap, ap₂, ◌∙◌, subst}
use Rattle.std.proofs.lemmas.Bool.{and_parts}
use Rattle.c_values.specs.Name.{Name, are_distinct}
use Rattle.c_values.specs.Types.{CType, address_width}
use Rattle.c_values.specs.Layout.{Layout, Shape, is_object, shape_of}
use Rattle.c_values.proofs.Options.{none_is}
use Rattle.expression_lang.specs.Expression.{Exp, Sel, Path}
use Rattle.expression_lang.specs.Form.{has, path_has, is_part_of_value}
use Rattle.expression_lang.specs.Sort.{Scalar, Sort, Of, PartsSort, Scope, sort_of, shape_along, is_truth, is_word_of}
use Rattle.expression_lang.specs.Sorted.{program_sort, scalar_in, with_scalar, scalars_of, sort_in, part_place, global_place, fits_place, call_scalars}
use Rattle.expression_lang.specs.Signature.{signature}
use Rattle.expression_lang.proofs.Inversion.{truth_inv, word_of_inv}
use Rattle.expression_lang.proofs.SortParts.{only_where}
use Rattle.ac_expr.specs.Fact.{Fact, Whole}
use Rattle.ac_expr.specs.Heads.{head}
use Rattle.ac_expr.proofs.PartsSorted.{path_sorted}
use Rattle.monad_lang.specs.Program as M
use Rattle.monad_lang.specs.Program.{Mon, Place, Start}
use Rattle.monad_lang.specs.Run.{start_names}
use Rattle.monad_lang.specs.Sorted.{setting_with, start_scalars, place_sort, scalars_given, and_then_scalars, where_fits, are_scalars}
use Rattle.monad_lang.proofs.Given.{then_parts, fits_parts}
use Rattle.program_facts.proofs.Sorts.{call_parts}
use Rattle.rule_eq.specs.Rule.{Point}
use Rattle.rule_eq.specs.Table.{within}
use Rattle.expression_steps.specs.Rewritten.{Choice, first_step, path_step, list_step, start_step, place_step}
use Rattle.polish.specs.Direct.{direct_step}
use Rattle.polish.proofs.Cases.{one_case, two_case, three_case}
use Rattle.polish.proofs.SortsKept.{KeepsSorts, step_sort, path_along}
use Rattle.polish.proofs.TestsKept.{KeepsFree, step_has, path_has_step}

part_head : (e : Exp) → is_part_of_value (head e) ≡ is_part_of_value e
part_head (Sel e path) = refl
part_head _ = refl

parts_alike : (a b : Exp) → head b ≡ head a → is_part_of_value b ≡ is_part_of_value a
parts_alike a b e = sym (part_head b) ∙ ap is_part_of_value e ∙ part_head a

-- what is well-sorted

scalar_sorted : (o : Option Sort) (q : Option (List Scalar)) (ss : List Scalar) → with_scalar (scalar_in o) q ≡ Some ss →
    ((r : Sort) × (o ≡ Some r)) × ((ds : List Scalar) × (q ≡ Some ds))
scalar_sorted (Some (Of c)) (Some ds) ss h = ((Of c, refl), (ds, refl))
scalar_sorted (Some (Of c)) None ss h = none_is h
scalar_sorted (Some (PartsSort t)) q ss h = none_is h
scalar_sorted None q ss h = none_is h

both_fit : (o q : Option Sort) → fits_place o q ≡ true → ((r : Sort) × (o ≡ Some r)) × ((r : Sort) × (q ≡ Some r))
both_fit (Some r) (Some t) h = ((r, refl), (t, refl))
both_fit _ _ h = absurd cc

only_false : (b : Bool) (o : Option Sort) (r : Sort) → cond b None o ≡ Some r → (b ≡ false) × (o ≡ Some r)
only_false true o r h = absurd cc
only_false false o r h = (refl, h)

module _ (g : Scope) (f : Choice) (keeps : KeepsSorts g f) (whole : KeepsFree is_part_of_value f) where
  pub program_step : (fs : List Fact) (a r : Exp) → first_step f fs a ≡ Some r → (o : Sort) → program_sort g a ≡ Some o →
      program_sort g r ≡ program_sort g a
  program_step fs a r h o c =
      let k = only_false (has is_part_of_value a) (sort_of g a) o c in
      ap₂ (λ b q. cond b None q) (step_has is_part_of_value parts_alike f whole fs a r h k.0 ∙ sym k.0)
      (step_sort g f keeps fs a r h (o, k.1))

  truth_step : (fs : List Fact) (a r : Exp) → first_step f fs a ≡ Some r → is_truth (program_sort g a) ≡ true →
      program_sort g r ≡ program_sort g a
  truth_step fs a r h c = program_step fs a r h _ (truth_inv (program_sort g a) c)

  list_scalars : (fs : List Fact) (es r : List Exp) → list_step f fs es ≡ Some r → (ss : List Scalar) →
      scalars_of g es ≡ Some ss → scalars_of g r ≡ scalars_of g es
  list_scalars fs [] r h ss c = absurd cc
  list_scalars fs (e ∷ es) r h ss c =
      let k = scalar_sorted (program_sort g e) (scalars_of g es) ss c in
      two_case r (λ q. scalars_of g q ≡ scalars_of g (e ∷ es)) (λ x xs. x ∷ xs) e es _ _ h
      (λ x j. ap (λ o. with_scalar (scalar_in o) (scalars_of g es)) (program_step fs e x j k.0.0 k.0.1))
      (λ y j. ap (λ q. with_scalar (scalar_in (program_sort g e)) q) (list_scalars fs es y j k.1.0 k.1.1))

  start_scalars_kept : (fs : List Fact) (ss r : List Start) → start_step f fs ss ≡ Some r → (cs : List Scalar) →
      start_scalars g ss ≡ Some cs → (start_scalars g r ≡ start_scalars g ss) × (start_names r ≡ start_names ss)
  start_scalars_kept fs [] r h cs c = absurd cc
  start_scalars_kept fs (s ∷ ss) r h cs c =
      let k = scalar_sorted (program_sort g s.exp) (start_scalars g ss) cs c in
      two_case r (λ q. (start_scalars g q ≡ start_scalars g (s ∷ ss)) × (start_names q ≡ start_names (s ∷ ss)))
      (λ x xs. record { name = s.name; exp = x } ∷ xs) s.exp ss _ _ h
      (λ x j. (ap (λ o. with_scalar (scalar_in o) (start_scalars g ss)) (program_step fs s.exp x j k.0.0 k.0.1), refl))
      (λ y j.
      let i = start_scalars_kept fs ss y j k.1.0 k.1.1 in
      (ap (λ q. with_scalar (scalar_in (program_sort g s.exp)) q) i.0, ap (λ xs. s.name ∷ xs) i.1))

  sort_in_inv : (o : Option Shape) (r : Sort) → sort_in o ≡ Some r → (q : Shape) × (o ≡ Some q)
  sort_in_inv (Some q) r h = (q, refl)
  sort_in_inv None r h = absurd cc

  part_step : (fs : List Fact) (t : CType) (path r : Path) → path_step f fs path ≡ Some r → (o : Sort) →
      part_place g t path ≡ Some o → part_place g t r ≡ part_place g t path
  part_step fs t path r h o c =
      let k = only_false (path_has is_part_of_value path) (sort_in (shape_along g path (shape_of g.layout t))) o c in
      let q = sort_in_inv (shape_along g path (shape_of g.layout t)) o k.1 in
      ap₂ (λ b s. cond b None (sort_in s)) ((path_has_step is_part_of_value parts_alike f whole fs path r h).1 k.0 ∙ sym k.0)
      (path_along g f keeps fs path r h (path_sorted g path (shape_of g.layout t) q.0 q.1) (shape_of g.layout t))

  abbrev width : Option Sort → Bool
  width o = is_word_of (address_width g.layout.target) o

  rooted_step : (fs : List Fact) (t : CType) (p : Exp) (path : Path) (k : Exp → Path → Place) →
      ((x : Exp) (y : Path) → place_sort g (k x y) ≡ cond (is_object g.layout t && width (program_sort g x)) (part_place g t y)
      None) →
      (o : Sort) → place_sort g (k p path) ≡ Some o →
      ((x : Exp) → first_step f fs p ≡ Some x → place_sort g (k x path) ≡ place_sort g (k p path)) ×
      ((y : Path) → path_step f fs path ≡ Some y → place_sort g (k p y) ≡ place_sort g (k p path))
  rooted_step fs t p path k i o c =
      let j = only_where (is_object g.layout t && width (program_sort g p)) (part_place g t path) o (sym (i p path) ∙ c) in
      let w = and_parts (is_object g.layout t) (width (program_sort g p)) j.0 in (
        λ x h.
            i x path ∙ ap (λ q. cond (is_object g.layout t && width q) (part_place g t path) None)
            (program_step fs p x h _ (word_of_inv (address_width g.layout.target) (program_sort g p) w.1)) ∙ sym (i p path),
        λ y h.
            i p y ∙ ap (λ q. cond (is_object g.layout t && width (program_sort g p)) q None)
            (part_step fs t path y h o j.1) ∙ sym
            (i p path),
      )

  global_step : (fs : List Fact) (q : Option CType) (path r : Path) → path_step f fs path ≡ Some r → (o : Sort) →
      global_place g q path ≡ Some o → global_place g q r ≡ global_place g q path
  global_step fs None path r h o c = refl
  global_step fs (Some t) path r h o c =
      let j = only_where (is_object g.layout t) (part_place g t path) o c in
      ap (λ q. cond (is_object g.layout t) q None) (part_step fs t path r h o j.1)

  place_kept : (fs : List Fact) (place r : Place) → place_step f fs place ≡ Some r → (o : Sort) → place_sort g place ≡ Some o →
      place_sort g r ≡ place_sort g place
  place_kept fs (M.Stored t p path) r h o c =
      let k = rooted_step fs t p path (λ x y. M.Stored t x y) (λ x y. refl) o c in
      two_case r (λ q. place_sort g q ≡ place_sort g (M.Stored t p path)) (λ x y. M.Stored t x y) p path _ _ h k.0 k.1
  place_kept fs (M.Written t p path) r h o c =
      let k = rooted_step fs t p path (λ x y. M.Written t x y) (λ x y. refl) o c in
      two_case r (λ q. place_sort g q ≡ place_sort g (M.Written t p path)) (λ x y. M.Written t x y) p path _ _ h k.0 k.1
  place_kept fs (M.Global x path) r h o c =
      one_case r (λ q. place_sort g q ≡ place_sort g (M.Global x path)) (λ y. M.Global x y) _ h
      (λ y j. global_step fs (g.globals x) path y j o c)

module _ (f : Scope → Choice) (whole : (g : Scope) → KeepsFree is_part_of_value (f g)) (l : Layout)
    (keeps : (g : Scope) → g.layout ≡ l → KeepsSorts g (f g)) where
  -- a step in a truth value of the scope of a loop's names
  inner_step : (at : Point) → at.setting.scope.layout ≡ l → (starts : List Start) (cs : List Scalar) →
      start_scalars at.setting.scope starts ≡ Some cs → (fs : List Fact) (a r : Exp) →
      first_step (f (within starts [] at).setting.scope) fs a ≡ Some r →
      is_truth (program_sort (setting_with (start_names starts) cs at.setting).scope a) ≡ true →
      program_sort (setting_with (start_names starts) cs at.setting).scope r
      ≡ program_sort (setting_with (start_names starts) cs at.setting).scope a
  inner_step at same starts cs e fs a r h k =
      let inner = setting_with (start_names starts) cs at.setting in
      truth_step inner.scope (f inner.scope) (keeps inner.scope same) (whole inner.scope) fs a r
      (subst (λ o. first_step (f (setting_with (start_names starts) (unwrap_or o []) at.setting).scope) fs a ≡ Some r) e h) k

  abbrev here : Point → Scope
  here at = at.setting.scope

  pub direct_gives : (at : Point) → (here at).layout ≡ l → (m r : Mon) → direct_step f at m ≡ Some r →
      (cs : List Scalar) → scalars_given at.setting m ≡ Some cs → scalars_given at.setting r ≡ Some cs
  direct_gives at same (M.Ret es) r h cs c =
      one_case r (λ q. scalars_given at.setting q ≡ Some cs) (λ xs. M.Ret xs) _ h
      (λ x j. list_scalars (here at) (f (here at)) (keeps (here at) same) (whole (here at)) at.facts es x j cs c ∙ c)
  direct_gives at same (M.Bind m xs n) r h cs c = absurd cc
  direct_gives at same (M.Guard e) r h cs c =
      let k = fits_parts (is_truth (program_sort (here at) e)) (Some []) cs c in
      one_case r (λ q. scalars_given at.setting q ≡ Some cs) (λ x. M.Guard x) _ h
      (λ x j. ap (λ o. where_fits (is_truth o) (Some []))
      (truth_step (here at) (f (here at)) (keeps (here at) same) (whole (here at)) at.facts e x j k.0) ∙ c)
  direct_gives at same (M.If e m n) r h cs c =
      let o = then_parts (scalars_given at.setting m)
      (λ ss. where_fits (is_truth (program_sort (here at) e) && are_scalars ss (scalars_given at.setting n)) (Some ss)) cs c in
      let k = fits_parts (is_truth (program_sort (here at) e) && are_scalars o.0 (scalars_given at.setting n))
      (Some o.0) cs o.2 in
      let b = and_parts (is_truth (program_sort (here at) e)) (are_scalars o.0 (scalars_given at.setting n)) k.0 in
      one_case r (λ q. scalars_given at.setting q ≡ Some cs) (λ x. M.If x m n) _ h
      (λ x j.
      ap
      (λ q.
      and_then_scalars (scalars_given at.setting m)
      (λ ss. where_fits (is_truth q && are_scalars ss (scalars_given at.setting n)) (Some ss)))
      (truth_step (here at) (f (here at)) (keeps (here at) same) (whole (here at)) at.facts e x j b.0) ∙ c)
  direct_gives at same (M.Write place e) r h cs c =
      let k = fits_parts (fits_place (place_sort (here at) place) (program_sort (here at) e)) (Some []) cs c in
      let b = both_fit (place_sort (here at) place) (program_sort (here at) e) k.0 in
      two_case r (λ q. scalars_given at.setting q ≡ Some cs) (λ x y. M.Write x y) place e _ _ h
      (λ x j.
      ap (λ q. where_fits (fits_place q (program_sort (here at) e)) (Some []))
      (place_kept (here at) (f (here at)) (keeps (here at) same) (whole (here at)) at.facts place x j b.0.0 b.0.1) ∙ c)
      (λ y j.
      ap (λ q. where_fits (fits_place (place_sort (here at) place) q) (Some []))
      (program_step (here at) (f (here at)) (keeps (here at) same) (whole (here at)) at.facts e y j b.1.0 b.1.1) ∙ c)
  direct_gives at same (M.Loop starts guard test m) r h cs c =
      let o = then_parts (start_scalars (here at) starts) (turn starts guard test) cs c in
      let inner = setting_with (start_names starts) o.0 at.setting in
      let k = fits_parts
      (are_distinct (start_names starts) && is_truth (program_sort inner.scope guard) && is_truth
      (program_sort inner.scope test)
      && are_scalars o.0 (scalars_given inner m))
      (Some o.0) cs o.2 in
      let b = and_parts
      (are_distinct (start_names starts) && is_truth (program_sort inner.scope guard) && is_truth
      (program_sort inner.scope test))
      (are_scalars o.0 (scalars_given inner m)) k.0 in
      let d = and_parts (are_distinct (start_names starts) && is_truth (program_sort inner.scope guard))
      (is_truth (program_sort inner.scope test)) b.0 in
      let a = and_parts (are_distinct (start_names starts)) (is_truth (program_sort inner.scope guard)) d.0 in
      three_case r (λ q. scalars_given at.setting q ≡ Some cs) (λ x y z. M.Loop x y z m) starts guard test _ _ _ h
      (λ x j.
      let i = start_scalars_kept (here at) (f (here at)) (keeps (here at) same) (whole (here at)) at.facts starts x j o.0 o.1 in
      ap₂ (λ q xs. and_then_scalars q (λ ss. turn_named xs guard test ss)) i.0 i.1 ∙ c)
      (λ y j. ap (λ q. and_then_scalars q (turn starts y test)) o.1
      ∙ ap
      (λ q.
      where_fits
      (are_distinct (start_names starts) && is_truth q && is_truth (program_sort inner.scope test) && are_scalars o.0
      (scalars_given inner m))
      (Some o.0))
      (inner_step at same starts o.0 o.1 [] guard y j a.1) ∙ o.2)
      (λ z j. ap (λ q. and_then_scalars q (turn starts guard z)) o.1
      ∙ ap
      (λ q.
      where_fits
      (are_distinct (start_names starts) && is_truth (program_sort inner.scope guard) && is_truth q && are_scalars o.0
      (scalars_given inner m))
      (Some o.0))
      (inner_step at same starts o.0 o.1 (Whole guard ∷ []) test z j d.1) ∙ o.2)
    where
      turn_named : List Name → Exp → Exp → List Scalar → Option (List Scalar)
      turn_named xs a b ss =
          let inner = setting_with xs ss at.setting in
          where_fits
          (are_distinct xs && is_truth (program_sort inner.scope a) && is_truth (program_sort inner.scope b) && are_scalars ss
          (scalars_given inner m))
          (Some ss)

      turn : List Start → Exp → Exp → List Scalar → Option (List Scalar)
      turn ss a b cs = turn_named (start_names ss) a b cs
  direct_gives at same (M.Call g es) r h cs c =
      let p = call_parts at.setting.sort_for (signature at.setting.functions g) (scalars_of (here at) es) cs c in
      one_case r (λ q. scalars_given at.setting q ≡ Some cs) (λ xs. M.Call g xs) _ h
      (λ x j.
      ap (λ q. call_scalars at.setting.sort_for (signature at.setting.functions g) q)
      (list_scalars (here at) (f (here at)) (keeps (here at) same) (whole (here at)) at.facts es x j _ p.2) ∙ c)
  direct_gives at same (M.Pick k) r h cs c = absurd cc
