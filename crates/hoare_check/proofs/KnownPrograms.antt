-- A program that is well-sorted under names is so under more names, and gives the same.
use Rattle.std.proofs.Common.{◌≡◌, Bool, true, false, cond, ◌&&◌, List, [], ◌∷◌, Option, Some, None, refl, sym, ap, ap₂, ◌∙◌}
use Rattle.std.specs.Option.{is_some}
use Rattle.std.proofs.lemmas.Bool.{and_parts, and_from, false≢true}
use Rattle.c_values.specs.Name.{Name, are_distinct}
use Rattle.c_values.specs.Types.{CType, address_width}
use Rattle.c_values.specs.Layout.{global_type, is_object, shape_of}
use Rattle.expression_lang.specs.Expression.{Exp, Path}
use Rattle.expression_lang.specs.Form.{has, path_has, is_part_of_value}
use Rattle.expression_lang.specs.Sort.{Scalar, Sort, sort_of, sort_of_kind, shape_along, is_truth, is_word_of}
use Rattle.expression_lang.specs.Sorted.{names_with, program_sort, scalar_in, scalars_of, with_scalar, fits_place, sort_in, part_place, typed_place, global_place, call_scalars}
use Rattle.expression_lang.specs.Signature.{signature}
use Rattle.expression_lang.proofs.SortParts.{with_scalar_inv, scalar_in_inv, fits_inv, only_where}
use Rattle.monad_lang.proofs.AgreeingSorts.{sort_agrees, shape_agrees}
use Rattle.monad_lang.specs.Program as M
use Rattle.monad_lang.specs.Program.{Mon, Place, Start}
use Rattle.monad_lang.specs.Run.{start_names}
use Rattle.monad_lang.specs.Sorted.{scalars_given, start_scalars, place_sort, are_scalars, one_for_each, where_fits, and_then_scalars}
use Rattle.monad_lang.proofs.Given.{then_parts, fits_parts, given_there}
use Rattle.program_facts.proofs.Sorts.{call_parts}
use Rattle.triple_lang.specs.Deriv.{Ground, Names}
use Rattle.hoare_check.specs.DeriveTable.{setting, scope}
use Rattle.hoare_check.proofs.Naming.{AsMany, as_many, names_alike}
use Rattle.hoare_check.proofs.JoinedNames.{known_among}
use Rattle.rule_local.proofs.InScope.{exp_in_scope, path_in_scope}
use Rattle.hoare_check.proofs.LoopStarts.{one_start_each}

-- what is in scope in the first is so in the second
abbrev pub KnownIn : Names → Names → Type 0
KnownIn ns ns' = (y : Name) → is_some (ns y) ≡ true → ns y ≡ ns' y

pub known_behind : (xs : List Name) (cs : List Scalar) (ns ns' : Names) → AsMany xs cs → KnownIn ns ns' → KnownIn (names_with xs cs ns) (names_with xs cs ns')
known_behind xs cs ns ns' many h y i = sym (names_alike y xs cs ns ns' many (λ n. sym (h y (known_among y xs cs ns i n))))

some_there : {A : Type 0} (o : Option A) (a : A) → o ≡ Some a → is_some o ≡ true
some_there o a h = ap is_some h

module _ (k : Ground) where
  abbrev DoSort : Names → Exp → Type 0
  DoSort ns e = is_some (program_sort (scope k ns) e) ≡ true

  pub whole_some : (ns : Names) (e : Exp) → DoSort ns e → is_some (sort_of (scope k ns) e) ≡ true
  whole_some ns e h = of (has is_part_of_value e) h
    where
      of : (b : Bool) → is_some (cond b None (sort_of (scope k ns) e)) ≡ true → is_some (sort_of (scope k ns) e) ≡ true
      of true i = absurd (false≢true i)
      of false i = i

  module _ (ns ns' : Names) (h : KnownIn ns ns') where
    same_sort : (e : Exp) → DoSort ns e → program_sort (scope k ns) e ≡ program_sort (scope k ns') e
    same_sort e i =
        ap (λ o. cond (has is_part_of_value e) None o)
        (sort_agrees k.unit.layout (global_type k.unit.globals) ns ns' e (λ y n. h y (exp_in_scope (scope k ns) y e (whole_some ns e i) n)))

    same_truth : (e : Exp) → is_truth (program_sort (scope k ns) e) ≡ true → is_truth (program_sort (scope k ns') e) ≡ true
    same_truth e i = ap is_truth (sym (same_sort e (truth_some (program_sort (scope k ns) e) i))) ∙ i
      where
        truth_some : (o : Option Sort) → is_truth o ≡ true → is_some o ≡ true
        truth_some (Some o) j = refl
        truth_some None j = absurd (false≢true j)

    scalar_some : (e : Exp) (c : Scalar) → scalar_in (program_sort (scope k ns) e) ≡ Some c → DoSort ns e
    scalar_some e c i = some_there (program_sort (scope k ns) e) _ (scalar_in_inv (program_sort (scope k ns) e) c i)

    same_scalars : (es : List Exp) (cs : List Scalar) → scalars_of (scope k ns) es ≡ Some cs → scalars_of (scope k ns') es ≡ Some cs
    same_scalars [] cs i = i
    same_scalars (e ∷ es) cs i =
        let p = with_scalar_inv (scalar_in (program_sort (scope k ns) e)) (scalars_of (scope k ns) es) cs i in
        ap₂ (λ o r. with_scalar o r) (ap scalar_in (sym (same_sort e (scalar_some e p.0 p.2))) ∙ p.2) (same_scalars es p.1 p.3) ∙ ap (λ ds. Some ds) p.4

    same_starts : (xs : List Start) (cs : List Scalar) → start_scalars (scope k ns) xs ≡ Some cs → start_scalars (scope k ns') xs ≡ Some cs
    same_starts [] cs i = i
    same_starts (x ∷ xs) cs i =
        let p = with_scalar_inv (scalar_in (program_sort (scope k ns) x.exp)) (start_scalars (scope k ns) xs) cs i in
        ap₂ (λ o r. with_scalar o r) (ap scalar_in (sym (same_sort x.exp (scalar_some x.exp p.0 p.2))) ∙ p.2) (same_starts xs p.1 p.3) ∙ ap (λ ds. Some ds) p.4

    same_part : (t : CType) (path : Path) (o : Sort) → part_place (scope k ns) t path ≡ Some o → part_place (scope k ns') t path ≡ Some o
    same_part t path o i = ap (λ q. cond (path_has is_part_of_value path) None (sort_in q)) (sym along) ∙ i
      where
        shape_some : (b : Bool) → cond b None (sort_in (shape_along (scope k ns) path (shape_of k.unit.layout t))) ≡ Some o → is_some
            (shape_along (scope k ns) path (shape_of k.unit.layout t)) ≡ true
        shape_some true j = absurd cc
        shape_some false j = of (shape_along (scope k ns) path (shape_of k.unit.layout t)) j
          where
            of : (q : _) → sort_in q ≡ Some o → is_some q ≡ true
            of (Some q) l = refl
            of None l = absurd cc

        along : shape_along (scope k ns) path (shape_of k.unit.layout t) ≡ shape_along (scope k ns') path (shape_of k.unit.layout t)
        along = shape_agrees k.unit.layout (global_type k.unit.globals) ns ns' path (shape_of k.unit.layout t)
            (λ y n. h y (path_in_scope (scope k ns) y path (shape_of k.unit.layout t) (shape_some (path_has is_part_of_value path) i) n))

    same_typed : (t : CType) (p : Exp) (path : Path) (o : Sort) → typed_place (scope k ns) t p path ≡ Some o → typed_place (scope k ns') t p path ≡ Some o
    same_typed t p path o i =
        let w = only_where (is_object k.unit.layout t && is_word_of (address_width k.unit.layout.target) (program_sort (scope k ns) p))
        (part_place (scope k ns) t path) o i in
        let j = and_parts (is_object k.unit.layout t) (is_word_of (address_width k.unit.layout.target) (program_sort (scope k ns) p)) w.0 in
        ap₂ (λ b r. cond b r None)
        (and_from (is_object k.unit.layout t) (is_word_of (address_width k.unit.layout.target) (program_sort (scope k ns') p)) j.0
        (ap (λ q. is_word_of (address_width k.unit.layout.target) q) (sym (same_sort p (word_some (program_sort (scope k ns) p) j.1))) ∙ j.1))
        (same_part t path o w.1)
      where
        word_some : (q : Option Sort) → is_word_of (address_width k.unit.layout.target) q ≡ true → is_some q ≡ true
        word_some (Some q) l = refl
        word_some None l = absurd (false≢true l)

    same_global : (c : Option CType) (path : Path) (o : Sort) → global_place (scope k ns) c path ≡ Some o → global_place (scope k ns') c path ≡ Some o
    same_global None path o i = absurd cc
    same_global (Some t) path o i =
        let w = only_where (is_object k.unit.layout t) (part_place (scope k ns) t path) o i in
        ap₂ (λ b r. cond b r None) w.0 (same_part t path o w.1)

    same_place : (place : Place) (o : Sort) → place_sort (scope k ns) place ≡ Some o → place_sort (scope k ns') place ≡ Some o
    same_place (M.Stored t p path) o i = same_typed t p path o i
    same_place (M.Written t p path) o i = same_typed t p path o i
    same_place (M.Global x path) o i = same_global (global_type k.unit.globals x) path o i

    same_write : (place : Place) (e : Exp) → fits_place (place_sort (scope k ns) place) (program_sort (scope k ns) e) ≡ true → fits_place
        (place_sort (scope k ns') place) (program_sort (scope k ns') e) ≡ true
    same_write place e i =
        let f = fits_inv (place_sort (scope k ns) place) (program_sort (scope k ns) e) i in
        ap₂ fits_place (same_place place f.0 f.1 ∙ sym f.1) (sym (same_sort e (some_there (program_sort (scope k ns) e) f.0 f.2))) ∙ i

  -- a program gives the same under more names
  pub given_wider : (m : Mon) (ns ns' : Names) → KnownIn ns ns' → (cs : List Scalar) → scalars_given (setting k ns) m ≡ Some cs → scalars_given
      (setting k ns') m ≡ Some cs
  given_wider (M.Ret es) ns ns' h cs i = same_scalars ns ns' h es cs i
  given_wider (M.Bind m xs n) ns ns' h cs i =
      let o = then_parts (scalars_given (setting k ns) m) _ cs i in
      let f = fits_parts (one_for_each xs o.0 && are_distinct xs) (scalars_given (setting k (names_with xs o.0 ns)) n) cs o.2 in
      let many = as_many xs o.0 (and_parts (one_for_each xs o.0) (are_distinct xs) f.0).0 in
      ap (λ r. and_then_scalars r (λ ss. where_fits (one_for_each xs ss && are_distinct xs) (scalars_given (setting k (names_with xs ss ns')) n)))
      (given_wider m ns ns' h o.0 o.1)
      ∙ ap₂ where_fits f.0 (given_wider n (names_with xs o.0 ns) (names_with xs o.0 ns') (known_behind xs o.0 ns ns' many h) cs f.1)
  given_wider (M.Guard e) ns ns' h cs i =
      let f = fits_parts (is_truth (program_sort (scope k ns) e)) (Some []) cs i in ap (λ b. where_fits b (Some [])) (same_truth ns ns' h e f.0) ∙ f.1
  given_wider (M.If e m n) ns ns' h cs i =
      let o = then_parts (scalars_given (setting k ns) m) _ cs i in
      let f = fits_parts (is_truth (program_sort (scope k ns) e) && are_scalars o.0 (scalars_given (setting k ns) n)) (Some o.0) cs o.2 in
      let j = and_parts (is_truth (program_sort (scope k ns) e)) (are_scalars o.0 (scalars_given (setting k ns) n)) f.0 in
      let there = given_there o.0 (scalars_given (setting k ns) n) j.1 in
      ap (λ r. and_then_scalars r (λ ss. where_fits (is_truth (program_sort (scope k ns') e) && are_scalars ss (scalars_given (setting k ns') n)) (Some ss)))
      (given_wider m ns ns' h o.0 o.1)
      ∙ ap (λ b. where_fits b (Some o.0))
      (and_from (is_truth (program_sort (scope k ns') e)) (are_scalars o.0 (scalars_given (setting k ns') n)) (same_truth ns ns' h e j.0)
      (ap (are_scalars o.0) (given_wider n ns ns' h o.0 there ∙ sym there) ∙ j.1))
      ∙ f.1
  given_wider (M.Write place e) ns ns' h cs i =
      let f = fits_parts (fits_place (place_sort (scope k ns) place) (program_sort (scope k ns) e)) (Some []) cs i in ap (λ b. where_fits b (Some []))
      (same_write ns ns' h place e f.0) ∙ f.1
  given_wider (M.Loop starts guard test m) ns ns' h cs i =
      let ys = start_names starts in
      let o = then_parts (start_scalars (scope k ns) starts) _ cs i in
      let inner : Names = names_with ys o.0 ns in
      let inner' : Names = names_with ys o.0 ns' in
      let wider = known_behind ys o.0 ns ns' (as_many ys o.0 (one_start_each (scope k ns) starts o.0 o.1)) h in
      let f = fits_parts (are_distinct ys && is_truth (program_sort (scope k inner) guard) && is_truth (program_sort (scope k inner) test) && are_scalars o.0
      (scalars_given (setting k inner) m)) (Some o.0) cs o.2 in
      let a = and_parts (are_distinct ys && is_truth (program_sort (scope k inner) guard) && is_truth (program_sort (scope k inner) test))
      (are_scalars o.0 (scalars_given (setting k inner) m)) f.0 in
      let b = and_parts (are_distinct ys && is_truth (program_sort (scope k inner) guard)) (is_truth (program_sort (scope k inner) test)) a.0 in
      let c = and_parts (are_distinct ys) (is_truth (program_sort (scope k inner) guard)) b.0 in
      let there = given_there o.0 (scalars_given (setting k inner) m) a.1 in
      ap (λ r. and_then_scalars r (λ ss.
      where_fits (are_distinct ys && is_truth (program_sort (scope k (names_with ys ss ns')) guard) && is_truth
      (program_sort (scope k (names_with ys ss ns')) test)
      && are_scalars ss (scalars_given (setting k (names_with ys ss ns')) m)) (Some ss))) (same_starts ns ns' h starts o.0 o.1)
      ∙ ap (λ b. where_fits b (Some o.0))
      (and_from (are_distinct ys && is_truth (program_sort (scope k inner') guard) && is_truth (program_sort (scope k inner') test))
      (are_scalars o.0 (scalars_given (setting k inner') m))
      (and_from (are_distinct ys && is_truth (program_sort (scope k inner') guard)) (is_truth (program_sort (scope k inner') test))
      (and_from (are_distinct ys) (is_truth (program_sort (scope k inner') guard)) c.0 (same_truth inner inner' wider guard c.1))
      (same_truth inner inner' wider test b.1))
      (ap (are_scalars o.0) (given_wider m inner inner' wider o.0 there ∙ sym there) ∙ a.1))
      ∙ f.1
  given_wider (M.Call f es) ns ns' h cs i =
      let p = call_parts sort_of_kind (signature (setting k ns).functions f) (scalars_of (scope k ns) es) cs i in
      ap (λ o. call_scalars sort_of_kind (signature (setting k ns).functions f) o) (same_scalars ns ns' h es _ p.2 ∙ sym p.2) ∙ i
  given_wider (M.Pick kind) ns ns' h cs i = i
