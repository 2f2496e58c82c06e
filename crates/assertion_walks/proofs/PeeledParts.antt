-- A part at a path, and the same part without its steps.
use Rattle.std.proofs.Common.{◌≡◌, ◌==◌, ℕ, Bool, true, false, [], ◌∷◌, ◌++◌, Option, Some, None, if◌then◌else◌, refl, sym, ap, ap₂, ◌∙◌, eqb-true}
use Rattle.std.proofs.lemmas.Bool.{eq-eqb}
use Rattle.expression_lang.specs.Expression.{Exp, Global, Sel, Path, Here, IntoField, IntoElement}
use Rattle.ac_expr.specs.Heads.{hole, path_head, path_children}
use Rattle.c_values.proofs.Options.{some_is, none_some}
use Rattle.ac_expr.proofs.HeadsAgree.{filled, whole}
use Rattle.assertion_walks.specs.Written.{part_of}
use Rattle.assertion_walks.specs.CodeRebuilt.{out_of_field, out_of_element, index_in, peeled, indexes_in}

-- a part of the whole, along a path that has the steps of this one but for the indexes
pub record IsPartAlong (way : Path) (e whole : Exp) : Type 0 where
  pub path : Path
  pub same : path_head path ≡ path_head way
  pub indexes : path_children path ≡ indexes_in way e
  pub part : e ≡ part_of whole path

-- a member, from what it is a member of
pub record IsField (k : ℕ) (o : Option Exp) (whole : Exp) : Type 0 where
  pub is : o ≡ Some (Sel whole (IntoField k Here))

pub record IsElement (o : Option Exp) (whole : Exp) : Type 0 where
  pub index : Exp
  pub is : o ≡ Some (Sel whole (IntoElement index Here))

field_by : (j k : ℕ) (e whole : Exp) (b : Bool) → (j == k) ≡ b → (if b then Some e else None) ≡ Some whole →
    ◌≡◌ {A = Option Exp} (Some (Sel e (IntoField j Here))) (Some (Sel whole (IntoField k Here)))
field_by j k e whole true h i = let same : e ≡ whole = cc in ap₂ (λ a n. Some (Sel a (IntoField n Here))) same (eqb-true j k h)
field_by j k e whole false h i = absurd cc

field_out : (k : ℕ) (o : Option Exp) (whole : Exp) → out_of_field k o ≡ Some whole → IsField k o whole
field_out k (Some (Sel e (IntoField j Here))) whole h = record { is = field_by j k e whole (j == k) refl h }
field_out k o whole h = absurd cc

element_out : (o : Option Exp) (whole : Exp) → out_of_element o ≡ Some whole → IsElement o whole
element_out (Some (Sel e (IntoElement i Here))) whole h =
    let same : e ≡ whole = cc in record { index = i; is = ap (λ a. Some (Sel a (IntoElement i Here))) same }
element_out o whole h = absurd cc

pub part_peeled : (way : Path) (e whole : Exp) → peeled way e ≡ Some whole → IsPartAlong way e whole
part_peeled Here e whole h = record { path = Here; same = refl; indexes = refl; part = cc }
part_peeled (IntoField k way) e whole h =
    let field = field_out k (peeled way e) whole h in
    let more = part_peeled way e (Sel whole (IntoField k Here)) field.is in
    record { path = IntoField k more.path; same = ap (λ p. IntoField k p) more.same; indexes = more.indexes; part = more.part }
part_peeled (IntoElement i way) e whole h =
    let element = element_out (peeled way e) whole h in
    let more = part_peeled way e (Sel whole (IntoElement element.index Here)) element.is in
    record {
      path = IntoElement element.index more.path;
      same = ap (λ p. IntoElement hole p) more.same;
      indexes = ap (λ es. element.index ∷ es) more.indexes ∙ sym (ap (λ o. index_in o ++ indexes_in way e) element.is);
      part = more.part;
    }

-- the whole of a part along such a path, and the indexes of that
pub record IsPeeled (way path : Path) (whole : Exp) : Type 0 where
  pub is : peeled way (part_of whole path) ≡ Some whole
  pub indexes : indexes_in way (part_of whole path) ≡ path_children path

pub peeled_part : (way path : Path) (whole : Exp) → path_head path ≡ path_head way → IsPeeled way path whole
peeled_part Here Here whole h = record { is = refl; indexes = refl }
peeled_part (IntoField k way) (IntoField j path) whole h =
    let same : j ≡ k = cc in
    let rest : path_head path ≡ path_head way = cc in
    let more = peeled_part way path (Sel whole (IntoField j Here)) rest in
    record {
      is = ap (λ o. out_of_field k o) more.is ∙ ap (λ b. if b then Some whole else None) (eq-eqb j k same);
      indexes = more.indexes;
    }
peeled_part (IntoElement i way) (IntoElement j path) whole h =
    let rest : path_head path ≡ path_head way = cc in
    let more = peeled_part way path (Sel whole (IntoElement j Here)) rest in
    record {
      is = ap out_of_element more.is;
      indexes = ap (λ o. index_in o ++ indexes_in way (part_of (Sel whole (IntoElement j Here)) path)) more.is
          ∙ ap (λ es. j ∷ es) more.indexes;
    }
peeled_part _ _ whole h = absurd cc

-- with the indexes that the path itself has

path_alike : (p q : Path) → path_head p ≡ path_head q → path_children p ≡ path_children q → p ≡ q
path_alike p q h k =
    let same : Global [] p ≡ Global [] q =
    sym (whole (Global [] p)) ∙ ap₂ (λ r es. filled (Global [] r) es) h k ∙ whole (Global [] q) in
    cc

pub part_exactly : (way : Path) (e core : Exp) → Some core ≡ peeled way e → indexes_in way e ≡ path_children way → e ≡ part_of core way
part_exactly way e core h i =
    let along = part_peeled way e core (sym h) in
    along.part ∙ ap (λ p. part_of core p) (path_alike along.path way along.same (along.indexes ∙ i))

pub never_part : (way : Path) (e core : Exp) → None ≡ peeled way e → e ≡ part_of core way → ⊥
never_part way e core h i = none_some (h ∙ ap (λ a. peeled way a) i ∙ (peeled_part way way core refl).is)

pub other_indexes : (way : Path) (e core : Exp) → (indexes_in way e ≡ path_children way → ⊥) → e ≡ part_of core way → ⊥
other_indexes way e core h i = h (ap (λ a. indexes_in way a) i ∙ (peeled_part way way core refl).indexes)

-- of one whole alone
pub one_whole : (way : Path) (core core' : Exp) → part_of core way ≡ part_of core' way → core ≡ core'
one_whole way core core' h =
    some_is (sym (peeled_part way way core refl).is ∙ ap (λ a. peeled way a) h ∙ (peeled_part way way core' refl).is)
