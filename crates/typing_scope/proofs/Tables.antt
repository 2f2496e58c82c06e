-- Tables by texts.
use Rattle.std.proofs.Common.{◌≡◌, ℕ, Bool, cond, if◌then◌else◌, List, Some, true, false, refl, String, string_bytes}
use Rattle.std.proofs.Math.Path.{fun_ext}
use Rattle.std.proofs.lemmas.Map.Text.{hash_map_updates_text}
use Rattle.std.specs.HashMap.{HashMap, UpdatesBy, get_by_text}
use Rattle.std.specs.String.{string_eq}
use Rattle.std.specs.Str.{bytes_eq}
use Rattle.std.specs.Option.{option_map}
use Rattle.std.specs.declared.alloc.Global.{Global as Heap}
use Rattle.std.specs.declared.hash.FoldHasher.{FoldHasher}
use Rattle.std.specs.declared.hash.BuildHasherDefault.{BuildHasherDefault}
use Rattle.c_values.specs.Name.{with_name}

-- a table with one more, seen by what its values stand for
pub seen_declared : {A B : Type 0} (view : A → B) (m n : HashMap (String Heap) A (BuildHasherDefault FoldHasher)) (k : String Heap) (v : A) (x : List ℕ) → string_bytes k ≡ x → UpdatesBy string_eq (λ y. bytes_eq (string_bytes k) (string_bytes y)) m n (Some v) → (λ q. option_map view (get_by_text n q)) ≡ with_name x (Some (view v)) (λ q. option_map view (get_by_text m q))
seen_declared view m n k v x e u = fun_ext (λ q. rw (hash_map_updates_text (string_bytes k) m n (Some v) u q, e) (by_cases q (bytes_eq x q)))
  where
    by_cases : (q : List ℕ) (b : Bool) → option_map view (cond b (Some v) (get_by_text m q)) ≡ (if b then Some (view v) else option_map view (get_by_text m q))
    by_cases q true = refl
    by_cases q false = refl
