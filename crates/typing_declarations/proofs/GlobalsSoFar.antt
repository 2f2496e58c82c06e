-- The globals so far: what one of a name is, and those with one changed.
use Rattle.std.proofs.Common.{◌≡◌, Bool, true, false, cond, List, [], ◌∷◌, map, refl, sym, ap, ◌∙◌, String, string_bytes}
use Rattle.std.specs.Prelude.{Some}
use Rattle.std.specs.Option.{option_map}
use Rattle.std.specs.Map.{lookup}
use Rattle.std.specs.Str.{bytes_eq}
use Rattle.std.specs.String.{string_eq}
use Rattle.std.specs.declared.alloc.Global.{Global as Heap}
use Rattle.indexmap.specs.IndexMap.{insert_entry}
use Rattle.c_values.specs.Name.{Name, same_name}
use Rattle.c_values.proofs.Laid.{name_is}
use Rattle.c_values.proofs.Names.{either_way}
use Rattle.typing_scope.specs.declared.file.GlobalSoFar as G
use Rattle.typing_scope.specs.CodeScope.{global_of}
use Rattle.typing_declarations.specs.CodeGlobals.{global_at}
use Rattle.typing_rules.specs.File.{global_named, with_global}

pub named_global : (es : List (String Heap × G.GlobalSoFar)) (x : Name) → global_named (map global_of es) x ≡ option_map (global_at x) (lookup (λ k. bytes_eq x (string_bytes k)) es)
named_global [] x = refl
named_global (e ∷ es) x = by_cases (named_global es x) (same_name x (string_bytes e.0)) refl
  where
    by_cases : global_named (map global_of es) x ≡ option_map (global_at x) (lookup (λ k. bytes_eq x (string_bytes k)) es) → (b : Bool) → same_name x (string_bytes e.0) ≡ b → cond (same_name (string_bytes e.0) x) (Some (global_of e)) (global_named (map global_of es) x) ≡ option_map (global_at x) (cond (bytes_eq x (string_bytes e.0)) (Some e.1) (lookup (λ k. bytes_eq x (string_bytes k)) es))
    by_cases rest true h =
        ap (λ b. cond b (Some (global_of e)) (global_named (map global_of es) x)) (either_way x (string_bytes e.0) true h)
        ∙ ap (λ y. Some (global_at y e.1)) (sym (name_is x (string_bytes e.0) h))
        ∙ ap (λ b. option_map (global_at x) (cond b (Some e.1) (lookup (λ k. bytes_eq x (string_bytes k)) es))) (sym h)
    by_cases rest false h =
        ap (λ b. cond b (Some (global_of e)) (global_named (map global_of es) x)) (either_way x (string_bytes e.0) false h)
        ∙ rest
        ∙ ap (λ b. option_map (global_at x) (cond b (Some e.1) (lookup (λ k. bytes_eq x (string_bytes k)) es))) (sym h)

pub put_behind : (es : List (String Heap × G.GlobalSoFar)) (k : String Heap) (v : G.GlobalSoFar) → map global_of (insert_entry string_eq es k v) ≡ with_global (global_at (string_bytes k) v) (map global_of es)
put_behind [] k v = refl
put_behind (e ∷ es) k v = by_cases (put_behind es k v) (same_name (string_bytes k) (string_bytes e.0)) refl
  where
    by_cases : map global_of (insert_entry string_eq es k v) ≡ with_global (global_at (string_bytes k) v) (map global_of es) → (b : Bool) → same_name (string_bytes k) (string_bytes e.0) ≡ b → map global_of (cond (bytes_eq (string_bytes k) (string_bytes e.0)) ((e.0, v) ∷ es) (e ∷ insert_entry string_eq es k v)) ≡ cond (same_name (string_bytes e.0) (string_bytes k)) (global_at (string_bytes k) v ∷ map global_of es) (global_of e ∷ with_global (global_at (string_bytes k) v) (map global_of es))
    by_cases rest true h =
        ap (λ b. map global_of (cond b ((e.0, v) ∷ es) (e ∷ insert_entry string_eq es k v))) h
        ∙ ap (λ y. global_at y v ∷ map global_of es) (sym (name_is (string_bytes k) (string_bytes e.0) h))
        ∙ ap (λ b. cond b (global_at (string_bytes k) v ∷ map global_of es) (global_of e ∷ with_global (global_at (string_bytes k) v) (map global_of es))) (sym (either_way (string_bytes k) (string_bytes e.0) true h))
    by_cases rest false h =
        ap (λ b. map global_of (cond b ((e.0, v) ∷ es) (e ∷ insert_entry string_eq es k v))) h
        ∙ ap (λ gs. global_of e ∷ gs) rest
        ∙ ap (λ b. cond b (global_at (string_bytes k) v ∷ map global_of es) (global_of e ∷ with_global (global_at (string_bytes k) v) (map global_of es))) (sym (either_way (string_bytes k) (string_bytes e.0) false h))
