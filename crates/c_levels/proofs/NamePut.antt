-- A set that has one name more.
use Rattle.std.proofs.Common.{◌≡◌, Bool, true, cond, ◌||◌, List, refl, ap, ◌∙◌, String, string_bytes}
use Rattle.std.proofs.lemmas.Map.Text.{hash_set_updates_text}
use Rattle.std.specs.HashSet as bag
use Rattle.std.specs.HashSet.{HashSet, contains_text}
use Rattle.std.specs.String.{string_eq}
use Rattle.std.specs.Str.{bytes_eq}
use Rattle.std.specs.declared.alloc.Global.{Global as Heap}
use Rattle.std.specs.declared.hash.FoldHasher.{FoldHasher}
use Rattle.std.specs.declared.hash.BuildHasherDefault.{BuildHasherDefault}
use Rattle.c_values.specs.Name.{Name, same_name, is_among}
use Rattle.c_values.proofs.Names.{same_name_swapped}

moved : (a r b : Bool) → (r || cond a true b) ≡ ((a || r) || b)
moved true true b = refl
moved _ _ _ = refl

-- the first of those that are left is put into the set
pub name_put : (q first : Name) (rest : List Name) (m n : HashSet (String Heap) (BuildHasherDefault FoldHasher)) (k : String Heap) → string_bytes k ≡ first →
    bag.UpdatesBy string_eq (λ y. bytes_eq (string_bytes k) (string_bytes y)) m n true → (is_among q rest || contains_text n q) ≡ ((same_name q first || is_among q rest) || contains_text m q)
name_put q first rest m n k e u =
    ap (λ b. is_among q rest || b) (hash_set_updates_text (string_bytes k) m n true u q)
    ∙ ap (λ z. is_among q rest || cond (same_name z q) true (contains_text m q)) e
    ∙ ap (λ b. is_among q rest || cond b true (contains_text m q)) (same_name_swapped first q)
    ∙ moved (same_name q first) (is_among q rest) (contains_text m q)
