-- The parts that an expression has to have, where a change leaves it as it is, and where it is a part of the global that is written.
use Rattle.std.proofs.Common.{◌≡◌, ◌≢◌, ◌↔◌, true, false, List, Option, Some, None, IfSome, if◌then◌else◌, refl, sym, ap, ◌∙◌}
use Rattle.c_values.specs.Name.{Name}
use Rattle.expression_lang.specs.Expression.{Exp, Global, Path, Here}
use Rattle.ac_expr.specs.Heads.{head, children, path_head}
use Rattle.assertion_walks.specs.declared.rebuilding.Parts as P
use Rattle.assertion_walks.specs.CodeRebuilt.{IsUnmade, IsNever, peeled, indexes_in, parts_in}
use Rattle.assertion_walks.specs.CodeWritten.{is_of_global}
use Rattle.assertion_walks.specs.Written.{part_of, replaced, global_before}
use Rattle.assertion_walks.proofs.PeeledParts.{part_peeled, peeled_part}

-- a change that leaves all expressions with this head as they are
module _ (changes : Exp → Exp → Type 0) (e e' : Exp) (stays : (made : Exp) → head made ≡ head e → changes made e' ↔ (e' ≡ made)) where
  own_unmade : (es : List Exp) → head e' ≡ head e → es ≡ children e' → IsUnmade changes e e' es
  own_unmade es h i = record {
    only = λ made k c. sym (ap children ((stays made k).0 c)) ∙ sym i;
    some = (e', h, sym i, (stays e' h).1 refl);
  }

  pub own_parts_unmade : (o : Option P.Parts) → IfSome o (λ parts. (head e' ≡ head e) × (parts_in parts ≡ children e')) →
      IfSome o (λ parts. IsUnmade changes e e' (parts_in parts))
  own_parts_unmade None h = tt
  own_parts_unmade (Some parts) h = own_unmade (parts_in parts) h.0 h.1

-- parts of globals

pub record IsPartOfGlobal (made : Exp) (y : Name) (p : Path) : Type 0 where
  pub path : Path
  pub is : made ≡ Global y path
  pub same : path_head path ≡ p

global_made : (made : Exp) (y : Name) (p : Path) → head made ≡ Global y p → IsPartOfGlobal made y p
global_made (Global z path) y p h =
    let name : z ≡ y = cc in record { path = path; is = ap (λ x. Global x path) name; same = cc }
global_made made y p h = absurd cc

module _ (x : Name) (path : Path) (v : Exp) where
  abbrev changes : Exp → Exp → Type 0
  changes a b = b ≡ global_before x path v a

  abbrev after : Exp
  after = replaced (Global x Here) path v

  before_is : (y : Name) (way : Path) → is_of_global x (Global y way) ≡ true → global_before x path v (Global y way) ≡ part_of after way
  before_is y way h = ap (λ b. if b then part_of after way else Global y way) h

  module _ (e b : Exp) (y : Name) (way : Path) (is : e ≡ Global y way) (own : is_of_global x e ≡ true) where
    made_before : (made : Exp) → head made ≡ head e → (g : IsPartOfGlobal made y (path_head way)) → global_before x path v made ≡ part_of after g.path
    made_before made h g =
        ap (λ a. global_before x path v a) g.is ∙ before_is y g.path (sym (ap (λ a. is_of_global x a) is) ∙ own)

    pub global_unmade : (whole : Exp) → Some whole ≡ peeled way b → whole ≡ after → IsUnmade changes e b (indexes_in way b)
    global_unmade whole h i =
        let along = part_peeled way b whole (sym h) in
        let made = Global y along.path in
        record {
          only = λ made k c.
              let g = global_made made y (path_head way) (k ∙ ap head is) in
              ap children g.is ∙ sym (peeled_part way g.path after g.same).indexes
              ∙ sym (ap (λ a. indexes_in way a) (c ∙ made_before made k g));
          some = (
            made,
            ap (λ p. Global y p) along.same ∙ sym (ap head is),
            along.indexes,
            along.part ∙ ap (λ a. part_of a along.path) i ∙ sym (before_is y along.path (sym (ap (λ a. is_of_global x a) is) ∙ own)),
          );
        }

    pub never_global : (o : Option Exp) → o ≡ peeled way b → ((whole : Exp) → o ≡ Some whole → whole ≢ after) → IsNever changes e b
    never_global o h other = λ made k c.
        let g = global_made made y (path_head way) (k ∙ ap head is) in
        let from : b ≡ part_of after g.path = c ∙ made_before made k g in
        other after (h ∙ ap (λ a. peeled way a) from ∙ (peeled_part way g.path after g.same).is) refl

  -- where an expression is no part of it
  of_global_head : (a : Exp) → is_of_global x (head a) ≡ is_of_global x a
  of_global_head (Global y way) = refl
  of_global_head a = refl

  before_other : (a : Exp) → is_of_global x a ≡ false → global_before x path v a ≡ a
  before_other (Global y way) h = ap (λ b. if b then part_of after way else Global y way) h
  before_other a h = refl

  pub stays_other : (e b : Exp) → is_of_global x e ≡ false → (made : Exp) → head made ≡ head e → changes made b ↔ (b ≡ made)
  stays_other e b other made h =
      let same = before_other made (sym (of_global_head made) ∙ ap (λ a. is_of_global x a) h ∙ of_global_head e ∙ other) in
      ((λ k. k ∙ same), (λ k. k ∙ sym same))
