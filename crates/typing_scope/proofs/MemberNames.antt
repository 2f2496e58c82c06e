-- The members so far: which names there are, and one more behind them.
use Rattle.std.proofs.Common.{◌≡◌, ℕ, Bool, cond, ◌||◌, List, [], ◌∷◌, ◌++◌, map, Option, Some, None, is_some, true, false, refl, ap, ◌∙◌, String, string_bytes}
use Rattle.std.proofs.lemmas.List.{map-append}
use Rattle.std.specs.HashMap.{HashMap, get_by_text}
use Rattle.std.specs.Map.{lookup}
use Rattle.std.specs.Str.{bytes_eq}
use Rattle.std.specs.String.{string_eq}
use Rattle.std.specs.declared.alloc.Global.{Global as Heap}
use Rattle.std.specs.declared.hash.FoldHasher.{FoldHasher}
use Rattle.std.specs.declared.hash.BuildHasherDefault.{BuildHasherDefault}
use Rattle.indexmap.specs.IndexMap.{insert_entry}
use Rattle.indexmap.proofs.CallerLemmas.{insert_entry-new}
use Rattle.c_values.specs.declared.types.CType as C
use Rattle.c_values.specs.CodeLayout.{member_of}
use Rattle.c_values.specs.Name.{is_among}
use Rattle.typing_rules.specs.Declarations.{member_names}

or_found : {A : Type 0} (b : Bool) (v : A) (f : Option A) (g : Bool) → is_some f ≡ g → is_some (cond b (Some v) f) ≡ (b || g)
or_found true v f g h = refl
or_found false v f g h = h

-- a name is found where it is among the members'
found_among : (x : List ℕ) (es : List (String Heap × C.CType)) → is_some (lookup (λ k. bytes_eq x (string_bytes k)) es) ≡ is_among x (member_names (map member_of es))
found_among x [] = refl
found_among x (e ∷ es) = or_found (bytes_eq x (string_bytes e.0)) e.1 _ _ (found_among x es)

pub name_found : (m : HashMap (String Heap) C.CType (BuildHasherDefault FoldHasher)) (x : List ℕ) → is_some (get_by_text m x) ≡ is_among x (member_names (map member_of m.entries))
name_found m x = found_among x m.entries

none_from_false : {A : Type 0} (r : Option A) → is_some r ≡ false → r ≡ None
none_from_false None h = refl
none_from_false (Some v) h = cc

-- a member of a new name is the last
pub member_behind : (m n : HashMap (String Heap) C.CType (BuildHasherDefault FoldHasher)) (k : String Heap) (t : C.CType) → is_some (get_by_text m (string_bytes k)) ≡ false → n.entries ≡ insert_entry string_eq m.entries k t → map member_of n.entries ≡ map member_of m.entries ++ (member_of (k, t) ∷ [])
member_behind m n k t new e = ap (map member_of) (e ∙ insert_entry-new string_eq m k t (none_from_false _ new)) ∙ map-append member_of m.entries ((k, t) ∷ [])
