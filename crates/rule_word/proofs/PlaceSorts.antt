-- Places with one head have one sort where their children do: a place is as the expression that looks there.
use Rattle.std.proofs.Common.{◌≡◌, Bool, true, false, cond, ◌&&◌, ◌||◌, Option, Some, None, refl, sym, ap, ap₂, ◌∙◌}
use Rattle.std.proofs.lemmas.Bool.{and_parts, or_parts, or_from}
use Rattle.c_values.specs.Types.{CType, address_width}
use Rattle.c_values.specs.Layout.{Shape, shape_of, is_object}
use Rattle.expression_lang.specs.Expression as X
use Rattle.expression_lang.specs.Expression.{Exp, Path}
use Rattle.expression_lang.specs.Form.{has, path_has, is_part_of_value}
use Rattle.expression_lang.specs.Sort.{WordSort, Sort, Of, Scope, sort_of, sort_at, shape_along, is_word_of, where_holds, of_shape, of_type}
use Rattle.expression_lang.specs.Sorted.{program_sort, typed_place, global_place, part_place, sort_in}
use Rattle.expression_lang.proofs.Inversion.{word_of_inv}
use Rattle.ac_expr.specs.Heads.{head, children}
use Rattle.ac_expr.proofs.ConstantsSound.{if_inv}
use Rattle.monad_lang.specs.Program as M
use Rattle.monad_lang.specs.Program.{Place}
use Rattle.monad_lang.specs.Sorted.{place_sort}
use Rattle.program_facts.specs.Places.{place_children, place_head}
use Rattle.rule_word.proofs.NoParts.{IsPlain}

abbrev pub looking_at : Place → Exp
looking_at (M.Stored t p path) = X.Load t p path
looking_at (M.Written t p path) = X.Read t p path
looking_at (M.Global x path) = X.Global x path

pub same_children : (p : Place) → children (looking_at p) ≡ place_children p
same_children (M.Stored t p path) = refl
same_children _ = refl

abbrev looks : Place → Exp
looks (M.Stored t p path) = X.Load t p path
looks (M.Written t p path) = X.Read t p path
looks (M.Global x path) = X.Global x path

same_head : (p : Place) → head (looking_at p) ≡ looks (place_head p)
same_head (M.Stored t p path) = refl
same_head _ = refl

pub heads_looking : (p q : Place) → place_head q ≡ place_head p → head (looking_at q) ≡ head (looking_at p)
heads_looking p q h = same_head q ∙ ap looks h ∙ sym (same_head p)

pub program_sort_plain : (g : Scope) (e : Exp) → IsPlain e → program_sort g e ≡ sort_of g e
program_sort_plain g e h = ap (λ b. cond b None (sort_of g e)) h

shape_sort : (o : Option Shape) → sort_in o ≡ of_shape o sort_at
shape_sort None = refl
shape_sort (Some s) = refl

where_cond : (b : Bool) (o : Option Sort) → cond b o None ≡ where_holds b o
where_cond true o = refl
where_cond false o = refl

part_plain : (g : Scope) (t : CType) (path : Path) → path_has is_part_of_value path ≡ false → part_place g t path ≡ of_shape (shape_along g path (shape_of g.layout t)) sort_at
part_plain g t path h = ap (λ b. cond b None (sort_in (shape_along g path (shape_of g.layout t)))) h ∙ shape_sort (shape_along g path (shape_of g.layout t))

typed_plain : (g : Scope) (t : CType) (p : Exp) (path : Path) → (has is_part_of_value p ≡ false) × (path_has is_part_of_value path ≡ false) →
    typed_place g t p path ≡ where_holds (is_object g.layout t && is_word_of (address_width g.layout.target) (sort_of g p)) (of_shape (shape_along g path (shape_of g.layout t)) sort_at)
typed_plain g t p path h =
    ap₂ (λ o q. cond (is_object g.layout t && is_word_of (address_width g.layout.target) o) q None) (program_sort_plain g p h.0) (part_plain g t path h.1)
    ∙ where_cond (is_object g.layout t && is_word_of (address_width g.layout.target) (sort_of g p)) (of_shape (shape_along g path (shape_of g.layout t)) sort_at)

global_plain : (g : Scope) (o : Option CType) (path : Path) → path_has is_part_of_value path ≡ false →
    global_place g o path ≡ of_type o (λ t. where_holds (is_object g.layout t) (of_shape (shape_along g path (shape_of g.layout t)) sort_at))
global_plain g None path h = refl
global_plain g (Some t) path h =
    ap (λ q. cond (is_object g.layout t) q None) (part_plain g t path h) ∙ where_cond (is_object g.layout t) (of_shape (shape_along g path (shape_of g.layout t)) sort_at)

pub place_looked_at : (g : Scope) (p : Place) → IsPlain (looking_at p) → place_sort g p ≡ sort_of g (looking_at p)
place_looked_at g (M.Stored t p path) h = typed_plain g t p path (or_parts (has is_part_of_value p) (path_has is_part_of_value path) h)
place_looked_at g (M.Written t p path) h = typed_plain g t p path (or_parts (has is_part_of_value p) (path_has is_part_of_value path) h)
place_looked_at g (M.Global x path) h = global_plain g (g.globals x) path h

-- a place that has a sort selects no part of a value
pub plain_there : {A : Type 0} (b : Bool) (o : Option A) (a : A) → cond b None o ≡ Some a → b ≡ false
plain_there false o a h = refl
plain_there true o a h = absurd cc

typed_there : (g : Scope) (t : CType) (p : Exp) (path : Path) (s : Sort) → typed_place g t p path ≡ Some s → (has is_part_of_value p || path_has is_part_of_value path) ≡ false
typed_there g t p path s h =
    let w = address_width g.layout.target in
    let r = if_inv (is_object g.layout t && is_word_of w (program_sort g p)) (part_place g t path) s h in
    let d = and_parts (is_object g.layout t) (is_word_of w (program_sort g p)) r.0 in
    or_from _ _ (plain_there (has is_part_of_value p) (sort_of g p) (Of (WordSort w)) (word_of_inv w (program_sort g p) d.1))
    (plain_there (path_has is_part_of_value path) (sort_in (shape_along g path (shape_of g.layout t))) s r.1)

global_there : (g : Scope) (o : Option CType) (path : Path) (s : Sort) → global_place g o path ≡ Some s → path_has is_part_of_value path ≡ false
global_there g None path s h = absurd cc
global_there g (Some t) path s h =
    let r = if_inv (is_object g.layout t) (part_place g t path) s h in plain_there (path_has is_part_of_value path) (sort_in (shape_along g path (shape_of g.layout t))) s r.1

pub place_plain : (g : Scope) (p : Place) (s : Sort) → place_sort g p ≡ Some s → IsPlain (looking_at p)
place_plain g (M.Stored t p path) s h = typed_there g t p path s h
place_plain g (M.Written t p path) s h = typed_there g t p path s h
place_plain g (M.Global x path) s h = global_there g (g.globals x) path s h
