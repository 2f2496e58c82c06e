-- A search for a member by its name goes on behind a member of another name.
use Rattle.std.proofs.Common.{◌≡◌, ℕ, ◌+◌, ◌<◌, ◌≤◌, true, false, List, ◌∷◌, map, length, get_or, drop, sym, ap, ◌∙◌, String, string_bytes}
use Rattle.std.proofs.lemmas.List.{at_drop_more, at_drop_all}
use Rattle.std.specs.declared.alloc.Global.{Global as Heap}
use Rattle.c_values.specs.Name.{Name, same_name}
use Rattle.c_values.specs.declared.types.CType as C
use Rattle.c_values.specs.CodeLayout.{member_of}
use Rattle.c_values.specs.CodeTypes.{type_of}
use Rattle.c_values.specs.Layout.{Member}
use Rattle.typing_rules.specs.declared.fault.TypeKind.TheVariants.{Unknown}
use Rattle.typing_rules.specs.Checked.{Ruled, Refused}
use Rattle.typing_rules.specs.Expressions.{member_from}

-- at a member of the name
here : (k : ℕ) (m : Member) (ms : List Member) (x : Name) → same_name m.name x ≡ true → member_from k (m ∷ ms) x ≡ Ruled (k, m.type)
here k m ms x h = simp h

-- at one of another name
further : (k : ℕ) (m : Member) (ms : List Member) (x : Name) → same_name m.name x ≡ false → member_from k (m ∷ ms) x ≡ member_from (k + 1) ms x
further k m ms x h = simp h

-- the first of what is left has the name
pub found_here : (ms : List (String Heap × C.CType)) (k : ℕ) (m : String Heap × C.CType) (x : Name) → k < length ms → m ≡ get_or ms k m → same_name (string_bytes m.0) x ≡ true → member_from k (map member_of (drop k ms)) x ≡ Ruled (k, type_of m.1)
found_here ms k m x within is named =
    at_drop_more (λ ys. member_from k (map member_of ys) x) ms k m within ∙ ap (λ y. member_from k (member_of y ∷ map member_of (drop (k + 1) ms)) x) (sym is) ∙ here k (member_of m) (map member_of (drop (k + 1) ms)) x named

-- it has another name
pub found_further : (ms : List (String Heap × C.CType)) (k : ℕ) (m : String Heap × C.CType) (x : Name) → k < length ms → m ≡ get_or ms k m → same_name (string_bytes m.0) x ≡ false → member_from k (map member_of (drop k ms)) x ≡ member_from (k + 1) (map member_of (drop (k + 1) ms)) x
found_further ms k m x within is other =
    at_drop_more (λ ys. member_from k (map member_of ys) x) ms k m within ∙ ap (λ y. member_from k (member_of y ∷ map member_of (drop (k + 1) ms)) x) (sym is) ∙ further k (member_of m) (map member_of (drop (k + 1) ms)) x other

-- nothing is left
pub found_nowhere : (ms : List (String Heap × C.CType)) (k : ℕ) (x : Name) → length ms ≤ k → member_from k (map member_of (drop k ms)) x ≡ Refused Unknown
found_nowhere ms k x past = at_drop_all (λ ys. member_from k (map member_of ys) x) ms k past
