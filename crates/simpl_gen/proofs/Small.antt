-- Structs of a layout that can be are small, the first ones too.
use Rattle.std.proofs.Common.{◌≡◌, ℕ, zero, suc, true, List, [], ◌∷◌, take, refl, sym, ap, ◌∙◌}
use Rattle.std.specs.Prelude.{nat_le, ◌&&◌}
use Rattle.std.proofs.lemmas.Bool.{and_parts, true≢false}
use Rattle.c_values.specs.Name.{Name, with_name}
use Rattle.c_values.specs.Types.{Target}
use Rattle.c_values.specs.Layout.{Shape, Incomplete, StructDef, Layout, IsLayout, are_small, struct_shape, shape_from, size, largest_size}
use Rattle.c_values.specs.CodeLayout.{IsFirstLarge}

first_small : (t : Target) (structs : Name → Shape) (ds : List StructDef) (n : ℕ) → are_small t structs ds ≡ true → are_small t structs (take n ds) ≡ true
first_small t structs ds zero h = refl
first_small t structs [] (suc n) h = refl
first_small t structs (d ∷ ds) (suc n) h =
    let s = struct_shape (shape_from t structs) d in
    let p = and_parts (nat_le (size s) largest_size) (are_small t (with_name d.name s structs) ds) h in
    ap (λ b. b && are_small t (with_name d.name s structs) (take n ds)) p.0 ∙ first_small t (with_name d.name s structs) ds n p.1

-- none of them is the first that is too large
pub none_large : (l : Layout) → IsLayout l → (t : Target) (ds : List StructDef) (k : ℕ) → t ≡ l.target → ds ≡ l.structs → IsFirstLarge t ds k → ⊥
none_large l h t ds k same these large =
    true≢false (sym (ap (λ u. are_small u (λ x. Incomplete) (take (suc k) ds)) same ∙ ap (λ es. are_small l.target (λ x. Incomplete) (take (suc k) es)) these
    ∙ first_small l.target (λ x. Incomplete) l.structs (suc k) h.small) ∙ large.large)
