-- What a well-sorted and narrow command asks of its parts.
use Rattle.std.proofs.Common.{◌≡◌, Bool, true, false, cond, ◌&&◌, List, ◌∷◌, map, Option, Some, None, refl, sym, subst}
use Rattle.std.proofs.lemmas.Bool.{and_parts, false≢true}
use Rattle.c_values.specs.Name.{Name}
use Rattle.c_values.specs.Layout.{Shape, Incomplete, Scalar as WordShape, Record, Row}
use Rattle.c_values.specs.Path.{Spot, member_spot}
use Rattle.expression_lang.specs.Expression.{Exp, Path, IntoField, IntoElement}
use Rattle.expression_lang.specs.Sort.{Scalar, Of, NumberSort, TruthSort, Scope, sort_of, shape_along, shape_in, is_number, is_truth, truth_sort, word_sort_of}
use Rattle.expression_lang.specs.Signature.{Signature, signature, kinds_of}
use Rattle.expression_lang.specs.Sorted.{program_sort, scalar_in, scalars_of, same_scalars, result_scalars, call_scalars}
use Rattle.expression_lang.proofs.Inversion.{number_inv, truth_inv}
use Rattle.expression_lang.proofs.SameScalars.{same_scalars_are}
use Rattle.expression_lang.proofs.SortParts.{scalar_in_inv, with_scalar_inv, program_sort_inv}
use Rattle.simpl_lang.specs.Command.{Condition, Simpl, Seq, Cond, Guard, Catch, While, Call}
use Rattle.simpl_lang.specs.Sorted.{are_conditions, is_sorted, fits_target}
use Rattle.simpl_lang.specs.CodeForms.{signatures_in}
use Rattle.command_runs.specs.declared.frame.Frame as R
use Rattle.command_runs.specs.CodeRun.{scope_for, HasSortIn, LeadsIn, HaveSortsIn, HaveTruthsIn, CanRunIn}

member_some : (o : Option Spot) (f : Shape → Option Shape) (q : Shape) → shape_in o f ≡ Some q → (r : Shape) × (f r ≡ Some q)
member_some None f q h = absurd cc
member_some (Some s) f q h = (s.shape, h)

element_some : (b : Bool) (o : Option Shape) (q : Shape) → cond b o None ≡ Some q → (b ≡ true) × (o ≡ Some q)
element_some true o q h = (refl, h)
element_some false o q h = absurd cc

module _ (f : R.Frame) where
  abbrev g : Scope
  g = scope_for f

  pub first_argument : (e : Exp) (es : List Exp) (cs : List Scalar) → HaveSortsIn f (e ∷ es) cs → (c : Scalar) × HasSortIn f e (Of c)
  first_argument e es cs h =
      let p = with_scalar_inv (scalar_in (program_sort g e)) (scalars_of g es) cs h.sorted in
      (p.0, record { sorted = program_sort_inv g e (Of p.0) (scalar_in_inv (program_sort g e) p.0 p.2); narrow = h.narrow.0 })

  pub other_arguments : (e : Exp) (es : List Exp) (cs : List Scalar) → HaveSortsIn f (e ∷ es) cs → (ds : List Scalar) × HaveSortsIn f es ds
  other_arguments e es cs h =
      let p = with_scalar_inv (scalar_in (program_sort g e)) (scalars_of g es) cs h.sorted in
      (p.1, record { sorted = p.3; narrow = h.narrow.1 })

  pub leads_field : (k : _) (path : Path) (r q : Shape) → LeadsIn f (IntoField k path) r q → (s : Shape) × LeadsIn f path s q
  leads_field k path Incomplete q h = absurd (none_leads h.along)
    where
      none_leads : ◌≡◌ {A = Option Shape} None (Some q) → ⊥
      none_leads e = cc
  leads_field k path (WordShape t n) q h = absurd (none_leads h.along)
    where
      none_leads : ◌≡◌ {A = Option Shape} None (Some q) → ⊥
      none_leads e = cc
  leads_field k path (Row s n) q h = absurd (none_leads h.along)
    where
      none_leads : ◌≡◌ {A = Option Shape} None (Some q) → ⊥
      none_leads e = cc
  leads_field k path (Record x n align fs) q h =
      let m = member_some (member_spot fs k) (λ s. shape_along g path s) q h.along in (m.0, record { along = m.1; narrow = h.narrow })

  pub leads_element : (e : Exp) (path : Path) (r q : Shape) → LeadsIn f (IntoElement e path) r q → (s : Shape) × HasSortIn f e (Of NumberSort) × LeadsIn f path s q
  leads_element e path Incomplete q h = absurd (none_leads h.along)
    where
      none_leads : ◌≡◌ {A = Option Shape} None (Some q) → ⊥
      none_leads e = cc
  leads_element e path (WordShape t n) q h = absurd (none_leads h.along)
    where
      none_leads : ◌≡◌ {A = Option Shape} None (Some q) → ⊥
      none_leads e = cc
  leads_element e path (Record x n align fs) q h = absurd (none_leads h.along)
    where
      none_leads : ◌≡◌ {A = Option Shape} None (Some q) → ⊥
      none_leads e = cc
  leads_element e path (Row s n) q h =
      let m = element_some (is_number (sort_of g e)) (shape_along g path s) q h.along in
      (s, record { sorted = number_inv (sort_of g e) m.0; narrow = h.narrow.0 }, record { along = m.1; narrow = h.narrow.1 })

  truth_here : (e : Exp) → is_truth (program_sort g e) ≡ true → sort_of g e ≡ truth_sort
  truth_here e h = program_sort_inv g e (Of TruthSort) (truth_inv (program_sort g e) h)

  pub first_condition : (c : Condition) (cs : List Condition) → HaveTruthsIn f (c ∷ cs) → HasSortIn f c.exp (Of TruthSort)
  first_condition c cs h =
      let p = and_parts (is_truth (program_sort g c.exp)) (are_conditions g cs) h.sorted in
      record { sorted = truth_here c.exp p.0; narrow = h.narrow.0 }

  pub other_conditions : (c : Condition) (cs : List Condition) → HaveTruthsIn f (c ∷ cs) → HaveTruthsIn f cs
  other_conditions c cs h =
      let p = and_parts (is_truth (program_sort g c.exp)) (are_conditions g cs) h.sorted in
      record { sorted = p.1; narrow = h.narrow.1 }

  -- a call

  pub record CallParts (x : Option Name) (h : Name) (es : List Exp) : Type 0 where
    pub called : Signature
    pub found : signature (signatures_in f.unit.now) h ≡ Some called
    pub sorted : HaveSortsIn f es (map word_sort_of (kinds_of called.params))
    pub target : fits_target g x (Some (result_scalars word_sort_of called.result)) ≡ true

  pub call_parts : (x : Option Name) (h : Name) (es : List Exp) → CanRunIn f (Call x h es) → CallParts x h es
  call_parts x h es c = by_parts (signature (signatures_in f.unit.now) h) (scalars_of g es) refl refl c.sorted
    where
      by_same : (s : Signature) (cs : List Scalar) (b : Bool) → b ≡ same_scalars (map word_sort_of (kinds_of s.params)) cs → signature (signatures_in f.unit.now) h ≡ Some s → scalars_of g es ≡ Some cs →
          fits_target g x (cond b (Some (result_scalars word_sort_of s.result)) None) ≡ true → CallParts x h es
      by_same s cs true q e o t = record {
        called = s;
        found = e;
        sorted = record { sorted = subst (λ ds. scalars_of g es ≡ Some ds) (sym (same_scalars_are (map word_sort_of (kinds_of s.params)) cs (sym q))) o; narrow = c.narrow };
        target = t;
      }
      by_same s cs false q e o t = absurd (no_target x t)
        where
          no_target : (y : Option Name) → fits_target g y None ≡ true → ⊥
          no_target (Some y) r = false≢true r
          no_target None r = false≢true r

      by_parts : (o : Option Signature) (p : Option (List Scalar)) → signature (signatures_in f.unit.now) h ≡ o → scalars_of g es ≡ p → fits_target g x (call_scalars word_sort_of o p) ≡ true → CallParts x h es
      by_parts (Some s) (Some cs) e o t = by_same s cs (same_scalars (map word_sort_of (kinds_of s.params)) cs) refl e o t
      by_parts (Some s) None e o t = absurd (no_target x t)
        where
          no_target : (y : Option Name) → fits_target g y None ≡ true → ⊥
          no_target (Some y) r = false≢true r
          no_target None r = false≢true r
      by_parts None p e o t = absurd (no_target x t)
        where
          no_target : (y : Option Name) → fits_target g y None ≡ true → ⊥
          no_target (Some y) r = false≢true r
          no_target None r = false≢true r

  -- commands

  module _ (a b : Simpl) where
    pub seq_first : CanRunIn f (Seq a b) → CanRunIn f a
    seq_first h = record { sorted = (and_parts (is_sorted g (signatures_in f.unit.now) a) (is_sorted g (signatures_in f.unit.now) b) h.sorted).0; narrow = h.narrow.0 }

    pub seq_last : CanRunIn f (Seq a b) → CanRunIn f b
    seq_last h = record { sorted = (and_parts (is_sorted g (signatures_in f.unit.now) a) (is_sorted g (signatures_in f.unit.now) b) h.sorted).1; narrow = h.narrow.1 }

    pub catch_first : CanRunIn f (Catch a b) → CanRunIn f a
    catch_first h = record { sorted = (and_parts (is_sorted g (signatures_in f.unit.now) a) (is_sorted g (signatures_in f.unit.now) b) h.sorted).0; narrow = h.narrow.0 }

    pub catch_last : CanRunIn f (Catch a b) → CanRunIn f b
    catch_last h = record { sorted = (and_parts (is_sorted g (signatures_in f.unit.now) a) (is_sorted g (signatures_in f.unit.now) b) h.sorted).1; narrow = h.narrow.1 }

    module _ (e : Exp) (h : CanRunIn f (Cond e a b)) where
      pub cond_test : HasSortIn f e (Of TruthSort)
      cond_test =
          let p = and_parts (is_truth (program_sort g e) && is_sorted g (signatures_in f.unit.now) a) (is_sorted g (signatures_in f.unit.now) b) h.sorted in
          let q = and_parts (is_truth (program_sort g e)) (is_sorted g (signatures_in f.unit.now) a) p.0 in
          record { sorted = truth_here e q.0; narrow = h.narrow.0 }

      pub cond_first : CanRunIn f a
      cond_first =
          let p = and_parts (is_truth (program_sort g e) && is_sorted g (signatures_in f.unit.now) a) (is_sorted g (signatures_in f.unit.now) b) h.sorted in
          let q = and_parts (is_truth (program_sort g e)) (is_sorted g (signatures_in f.unit.now) a) p.0 in
          record { sorted = q.1; narrow = h.narrow.1 }

      pub cond_last : CanRunIn f b
      cond_last =
          let p = and_parts (is_truth (program_sort g e) && is_sorted g (signatures_in f.unit.now) a) (is_sorted g (signatures_in f.unit.now) b) h.sorted in
          record { sorted = p.1; narrow = h.narrow.2 }

  module _ (c : Condition) (a : Simpl) (h : CanRunIn f (Guard c a)) where
    pub guard_test : HasSortIn f c.exp (Of TruthSort)
    guard_test = record { sorted = truth_here c.exp (and_parts (is_truth (program_sort g c.exp)) (is_sorted g (signatures_in f.unit.now) a) h.sorted).0; narrow = h.narrow.0 }

    pub guard_last : CanRunIn f a
    guard_last = record { sorted = (and_parts (is_truth (program_sort g c.exp)) (is_sorted g (signatures_in f.unit.now) a) h.sorted).1; narrow = h.narrow.1 }

  module _ (cs : List Condition) (e : Exp) (a : Simpl) (h : CanRunIn f (While cs e a)) where
    while_parts : (are_conditions g cs ≡ true) × (is_truth (program_sort g e) ≡ true) × (is_sorted g (signatures_in f.unit.now) a ≡ true)
    while_parts =
        let p = and_parts (are_conditions g cs && is_truth (program_sort g e)) (is_sorted g (signatures_in f.unit.now) a) h.sorted in
        let q = and_parts (are_conditions g cs) (is_truth (program_sort g e)) p.0 in
        (q.0, q.1, p.1)

    pub while_test : HasSortIn f e (Of TruthSort)
    while_test = record { sorted = truth_here e while_parts.1; narrow = h.narrow.1 }

    pub while_body : CanRunIn f a
    while_body = record { sorted = while_parts.2; narrow = h.narrow.2 }
