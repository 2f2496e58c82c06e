-- The function at a place is the first one of its name.
use Rattle.std.proofs.Common.{◌≡◌, ℕ, ◌+◌, ◌<◌, true, List, ◌∷◌, length, get_or, drop, map, Some, refl, ap, sym, subst, ◌∙◌}
use Rattle.std.specs.Prelude.{slice_get, string_bytes}
use Rattle.std.specs.Option.{IsSomeAnd}
use Rattle.std.proofs.lemmas.Bool.{cond-true}
use Rattle.std.proofs.lemmas.List.{at_drop_more}
use Rattle.std.proofs.lemmas.Option.{slice_get_read}
use Rattle.c_values.specs.Name.{Name, same_name}
use Rattle.c_lang.specs.declared.tree.TypedFn.{TypedFn}
use Rattle.c_lang.specs.CodeTyped.{function_of}
use Rattle.c_lang.specs.Typed.{typed_fn}

pub found_at : (fs : List TypedFn) (k : ℕ) (f : TypedFn) (x : Name) → k < length fs → f ≡ get_or fs k f → true ≡ same_name (string_bytes f.name) x →
    typed_fn (map function_of fs) x ≡ typed_fn (map function_of (drop k fs)) x →
    IsSomeAnd (slice_get fs k) (λ g. typed_fn (map function_of fs) x ≡ Some (function_of g))
found_at fs k f x lt is same before =
    let here = slice_get_read fs (length fs) k f refl lt is in
    let rest = typed_fn (map function_of (drop (k + 1) fs)) x in
    let found : typed_fn (map function_of fs) x ≡ Some (function_of f) =
    before
    ∙ at_drop_more (λ gs. typed_fn (map function_of gs) x) fs k f lt
    ∙ ap (λ g. typed_fn (map function_of (g ∷ drop (k + 1) fs)) x) (sym is)
    ∙ cond-true (same_name (string_bytes f.name) x) (Some (function_of f)) rest (sym same) in
    subst (λ o. IsSomeAnd o (λ g. typed_fn (map function_of fs) x ≡ Some (function_of g))) (sym here) found
