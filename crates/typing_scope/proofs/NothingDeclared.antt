-- Nothing is declared in front of a text.
use Rattle.std.proofs.Common.{◌≡◌, Bool, false, List, [], ◌∷◌, Option, None, ap, String, string_bytes}
use Rattle.std.specs.HashMap.{HashMap, get_by_text}
use Rattle.std.specs.Map.{lookup}
use Rattle.std.specs.Option.{option_map}
use Rattle.std.specs.Str.{bytes_eq}
use Rattle.std.specs.declared.alloc.Global.{Global as Heap}
use Rattle.std.specs.declared.hash.FoldHasher.{FoldHasher}
use Rattle.std.specs.declared.hash.BuildHasherDefault.{BuildHasherDefault}
use Rattle.c_values.specs.Name.{Name}
use Rattle.c_values.specs.Types.{Target, CType}
use Rattle.c_values.specs.Layout.{Layout}
use Rattle.typing_rules.specs.File.{File}
use Rattle.typing_rules.specs.Progress.{Progress, at_start}
use Rattle.typing_rules.specs.Scope.{Scope, Names, Tag}
use Rattle.typing_scope.specs.CodeInFront.{in_front}

pub beginning : (t : Target) (w : Name → Bool) (l : Layout) (tags : Name → Option Tag) (typedefs : Name → Option CType) (bs : List Names) (f : File) (p : Progress) → l ≡ record { target = t; structs = [] } → tags ≡ (λ x. None) → typedefs ≡ (λ x. None) → bs ≡ (λ x. None) ∷ [] → f ≡ record { with_body = w; with_body_so_far = λ x. false; globals = [] } → p ≡ at_start [] → ◌≡◌ {A = Scope} (record { layout = l; tags = tags; unnamed = 0; typedefs = typedefs; blocks = bs; file = f; progress = p; folds_cast = false }) (in_front t w)
beginning t w l tags typedefs bs f p e1 e2 e3 e4 e5 e6 = λ i. record { layout = e1 i; tags = e2 i; unnamed = 0; typedefs = e3 i; blocks = e4 i; file = e5 i; progress = e6 i; folds_cast = false }

-- a table without entries has no name
pub no_names : {A B : Type 0} (view : A → B) (m : HashMap (String Heap) A (BuildHasherDefault FoldHasher)) → m.entries ≡ [] → ◌≡◌ {A = Name → Option B} (λ x. option_map view (get_by_text m x)) (λ x. None)
no_names {A = A} {B = B} view m e =
    let at : List (String Heap × A) → Name → Option B = λ es x. option_map view (lookup (λ k. bytes_eq x (string_bytes k)) es) in
    ap at e
