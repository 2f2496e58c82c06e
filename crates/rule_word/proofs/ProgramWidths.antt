-- The words that a well-sorted program gives have one of the four widths, where those of names and of functions' results have.
use Rattle.std.proofs.Common.{◌≡◌, ℕ, Bool, true, false, cond, ◌&&◌, List, [], ◌∷◌, Option, Some, sym, subst}
use Rattle.c_values.specs.Name.{Name, same_name, with_name, are_distinct}
use Rattle.c_values.specs.Layout.{IsLayout}
use Rattle.expression_lang.specs.Expression.{Exp}
use Rattle.expression_lang.specs.Sort.{Scalar, WordSort, Of, Kind, WordKind, NatKind, IntKind, BoolKind, Scope, is_width, is_truth, is_kind, sort_of_kind}
use Rattle.expression_lang.specs.Sorted.{names_with, scope_with, program_sort, scalar_in, scalars_of, fits_place, call_scalars}
use Rattle.expression_lang.specs.Signature.{Signature, signature}
use Rattle.expression_lang.proofs.SortParts.{program_sort_inv, scalar_in_inv}
use Rattle.monad_lang.specs.Program as M
use Rattle.monad_lang.specs.Program.{Mon, Start}
use Rattle.monad_lang.specs.Run.{start_names}
use Rattle.monad_lang.specs.Sorted.{Setting, setting_with, scalars_given, start_scalars, place_sort, one_for_each, where_fits}
use Rattle.rule_word.proofs.ProgramSorts.{some_is, then_inv, fits_inv, if_inv, scalar_first, loop_parts}
use Rattle.rule_word.proofs.Widths.{IsWide, expression_wide}

abbrev pub AllWide : List Scalar → Type 0
AllWide [] = Unit {0}
AllWide (c ∷ cs) = IsWide (Some (Of c)) × AllWide cs

abbrev pub WideNames : (Name → Option Scalar) → Type 0
WideNames names = (x : Name) (n : ℕ) → names x ≡ Some (WordSort n) → is_width n ≡ true

abbrev pub WideCalls : (Kind → Scalar) → List Signature → Type 0
WideCalls f fs = (x : Name) (o : Option (List Scalar)) (cs : List Scalar) → call_scalars f (signature fs x) o ≡ Some cs → AllWide cs

with_wide : (b : Bool) (c : Scalar) (o : Option Scalar) (n : ℕ) → IsWide (Some (Of c)) → (o ≡ Some (WordSort n) → is_width n ≡ true) → cond b (Some c) o ≡ Some (WordSort n) → is_width n ≡ true
with_wide true c o n w h q = subst (λ s. IsWide (Some (Of s))) (some_is q) w
with_wide false c o n w h q = h q

pub wide_after : (xs : List Name) (ss : List Scalar) (names : Name → Option Scalar) → AllWide ss → WideNames names → WideNames (names_with xs ss names)
wide_after (x ∷ xs) (s ∷ ss) names w h = wide_after xs ss (with_name x (Some s) names) w.1 (λ y n q. with_wide (same_name x y) s (names y) n w.0 (h y n) q)
wide_after [] ss names w h = h
wide_after (x ∷ xs) [] names w h = h

module _ (f : Kind → Scalar) (fs : List Signature) (calls : WideCalls f fs) where
  abbrev t : Scope → Setting
  t g = record { scope = g; functions = fs; sort_for = f }

  each_wide : (g : Scope) → IsLayout g.layout → WideNames g.names → (es : List Exp) (cs : List Scalar) → scalars_of g es ≡ Some cs → AllWide cs
  each_wide g lay w [] cs h = subst AllWide (some_is h) tt
  each_wide g lay w (e ∷ es) cs h =
      let r = scalar_first (scalar_in (program_sort g e)) (scalars_of g es) cs h in
      subst AllWide (sym r.2) (
        subst IsWide (program_sort_inv g e (Of r.0) (scalar_in_inv (program_sort g e) r.0 r.4)) (expression_wide g lay w e),
        each_wide g lay w es r.1 r.3,
      )

  starts_wide : (g : Scope) → IsLayout g.layout → WideNames g.names → (xs : List Start) (cs : List Scalar) → start_scalars g xs ≡ Some cs → AllWide cs
  starts_wide g lay w [] cs h = subst AllWide (some_is h) tt
  starts_wide g lay w (x ∷ xs) cs h =
      let r = scalar_first (scalar_in (program_sort g x.exp)) (start_scalars g xs) cs h in
      subst AllWide (sym r.2) (
        subst IsWide (program_sort_inv g x.exp (Of r.0) (scalar_in_inv (program_sort g x.exp) r.0 r.4)) (expression_wide g lay w x.exp),
        starts_wide g lay w xs r.1 r.3,
      )

  kind_wide : (k : Kind) → is_kind k ≡ true → AllWide (sort_of_kind k ∷ [])
  kind_wide (WordKind n) h = (h, tt)
  kind_wide (NatKind n) h = (tt, tt)
  kind_wide (IntKind n) h = (tt, tt)
  kind_wide BoolKind h = (tt, tt)

  pub given_wide : (m : Mon) (g : Scope) → IsLayout g.layout → WideNames g.names → (cs : List Scalar) → scalars_given (record { scope = g; functions = fs; sort_for = f }) m ≡ Some cs → AllWide cs
  given_wide (M.Ret es) g lay w cs q = each_wide g lay w es cs q
  given_wide (M.Guard e) g lay w cs q = subst AllWide (some_is (fits_inv (is_truth (program_sort g e)) (Some []) cs q).1) tt
  given_wide (M.Write place e) g lay w cs q = subst AllWide (some_is (fits_inv (fits_place (place_sort g place) (program_sort g e)) (Some []) cs q).1) tt
  given_wide (M.If e m n) g lay w cs q = given_wide m g lay w cs (if_inv (scalars_given (t g) m) (scalars_given (t g) n) (is_truth (program_sort g e)) cs q).0
  given_wide (M.Bind m xs n) g lay w cs q =
      let r = then_inv (scalars_given (t g) m) (λ ss. where_fits (one_for_each xs ss && are_distinct xs) (scalars_given (setting_with xs ss (t g)) n)) cs q in
      let i = fits_inv (one_for_each xs r.0 && are_distinct xs) (scalars_given (setting_with xs r.0 (t g)) n) cs r.2 in
      given_wide n (scope_with xs r.0 g) lay (wide_after xs r.0 g.names (given_wide m g lay w r.0 r.1) w) cs i.1
  given_wide (M.Loop starts guard test m) g lay w cs q =
      starts_wide g lay w starts cs (loop_parts (start_scalars g starts) _ (λ ss. scalars_given (setting_with (start_names starts) ss (t g)) m) cs q)
  given_wide (M.Call x es) g lay w cs q = calls x (scalars_of g es) cs q
  given_wide (M.Pick k) g lay w cs q =
      let i = fits_inv (is_kind k) (Some (sort_of_kind k ∷ [])) cs q in subst AllWide (some_is i.1) (kind_wide k i.0)
