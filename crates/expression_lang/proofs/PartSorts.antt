-- The sorts of parts, from the sorts and shapes that the code has at hand.
use Rattle.std.proofs.Common.{◌≡◌, Bool, true, ◌&&◌, Option, Some, None, refl, sym, ap, ap₂, ◌∙◌}
use Rattle.std.specs.Prelude.{IfSome}
use Rattle.std.proofs.lemmas.Bool.{and_parts}
use Rattle.c_values.specs.Name.{Name}
use Rattle.c_values.specs.Types.{CType, address_width}
use Rattle.c_values.specs.Layout.{IsLayout, Shape, shape_of, is_complete, is_object}
use Rattle.expression_lang.specs.Expression.{Exp, Path, Load, Global, Sel, Upd}
use Rattle.expression_lang.specs.Sort.{Scope, Sort, sort_of, sort_at, shape_along, where_holds, of_shape, of_type, parts_shape, are_same, is_word_of, is_one_step}
use Rattle.expression_lang.specs.CodeAlong.{parts_type}
use Rattle.expression_lang.proofs.Sorting.{some_complete, object_whole}
use Rattle.expression_lang.proofs.WholeShapes.{parts_complete, parts_are}

-- what the code's rule for the sort of a part says of its answer
abbrev pub IsPartSort : Bool → Option Shape → Option Sort → Type 0
IsPartSort b o r = (b ≡ true → IfSome o (λ s. is_complete s ≡ true)) → r ≡ where_holds b (of_shape o sort_at)

pub root_sorted : (g : Scope) (t : CType) (p : Exp) (path : Path) (b : Bool) (o : Option Shape) (r : Option Sort) →
    b ≡ (is_object g.layout t && is_word_of (address_width g.layout.target) (sort_of g p)) → o ≡ shape_along g path (shape_of g.layout t) → IsPartSort b o r → r ≡ sort_of g (Load t p path)
root_sorted g t p path b o r root along sorted =
    sorted (λ e. some_complete g path (shape_of g.layout t) o along
    (object_whole g.layout t (and_parts (is_object g.layout t) (is_word_of (address_width g.layout.target) (sort_of g p)) (sym root ∙ e)).0))
    ∙ ap₂ (λ c s. where_holds c (of_shape s sort_at)) root along

pub global_sorted : (g : Scope) (x : Name) (path : Path) (t : CType) (b : Bool) (o : Option Shape) (r : Option Sort) →
    Some t ≡ g.globals x → b ≡ is_object g.layout t → o ≡ shape_along g path (shape_of g.layout t) → IsPartSort b o r → r ≡ sort_of g (Global x path)
global_sorted g x path t b o r at object along sorted =
    sorted (λ e. some_complete g path (shape_of g.layout t) o along (object_whole g.layout t (sym object ∙ e)))
    ∙ ap₂ (λ c s. where_holds c (of_shape s sort_at)) object along
    ∙ ap (λ u. of_type u (λ v. where_holds (is_object g.layout v) (of_shape (shape_along g path (shape_of g.layout v)) sort_at))) at

pub sel_sorted : (g : Scope) (e : Exp) (path : Path) (t : CType) (b : Bool) (o : Option Shape) (r : Option Sort) →
    IsLayout g.layout → Some t ≡ parts_type (sort_of g e) → b ≡ is_one_step path → o ≡ shape_along g path (shape_of g.layout t) → IsPartSort b o r → r ≡ sort_of g (Sel e path)
sel_sorted g e path t b o r h of one along sorted =
    let is = parts_are (sort_of g e) t of in
    sorted (λ k. some_complete g path (shape_of g.layout t) o along (parts_complete g h e t is))
    ∙ ap₂ (λ c s. where_holds c (of_shape s sort_at)) one along
    ∙ ap (λ u. where_holds (is_one_step path) (of_shape (parts_shape g.layout u) (λ s. of_shape (shape_along g path s) sort_at))) (sym is)

of_same : (o : Option Shape) (w m : Option Sort) → where_holds (are_same (of_shape o sort_at) w) m ≡ of_shape o (λ q. where_holds (are_same (sort_at q) w) m)
of_same None w m = refl
of_same (Some s) w m = refl

pub upd_sorted : (g : Scope) (e v : Exp) (path : Path) (t : CType) (o : Option Shape) (p w m r : Option Sort) →
    IsLayout g.layout → m ≡ sort_of g e → Some t ≡ parts_type m → o ≡ shape_along g path (shape_of g.layout t) → IsPartSort true o p →
    w ≡ sort_of g v → r ≡ where_holds (are_same p w) m → r ≡ sort_of g (Upd e path v)
upd_sorted g e v path t o p w m r h whole of along sorted new same =
    let is = parts_are (sort_of g e) t (of ∙ ap parts_type whole) in
    let part = sorted (λ k. some_complete g path (shape_of g.layout t) o along (parts_complete g h e t is)) ∙ ap (λ s. of_shape s sort_at) along in
    same
    ∙ ap₂ (λ q u. where_holds (are_same q w) u) part whole
    ∙ ap (λ u. where_holds (are_same (of_shape (shape_along g path (shape_of g.layout t)) sort_at) u) (sort_of g e)) new
    ∙ of_same (shape_along g path (shape_of g.layout t)) (sort_of g v) (sort_of g e)
    ∙ ap (λ u. of_shape (parts_shape g.layout u) (λ s. of_shape (shape_along g path s) (λ q. where_holds (are_same (sort_at q) (sort_of g v)) (sort_of g e)))) (sym is)
