-- The blocks of the code's scope: the last one is the innermost.
use Rattle.std.proofs.Common.{◌≡◌, List, [], ◌∷◌, ◌++◌, map, Option, Some, None, refl, ap, ◌∙◌, String, string_bytes}
use Rattle.std.proofs.Math.Path.{fun_ext}
use Rattle.std.proofs.lemmas.List.{map-append, reverse-append}
use Rattle.std.proofs.lemmas.Map.Made.{lookup-map_values}
use Rattle.std.specs.HashMap.{HashMap, get_by_text}
use Rattle.std.specs.Str.{bytes_eq}
use Rattle.std.specs.Map.{lookup}
use Rattle.std.specs.Option.{option_map}
use Rattle.std.specs.declared.alloc.Global.{Global as Heap}
use Rattle.std.specs.declared.hash.FoldHasher.{FoldHasher}
use Rattle.std.specs.declared.hash.BuildHasherDefault.{BuildHasherDefault}
use Rattle.typing_scope.specs.declared.scope.Entity as E
use Rattle.typing_scope.specs.declared.scope.Entity.TheVariants as V
use Rattle.typing_rules.specs.Scope.{Hidden}
use Rattle.typing_scope.specs.CodeScope.{blocks_of, entity_of, names_of}

pub blocks_behind : (bs : List (HashMap (String Heap) E.Entity (BuildHasherDefault FoldHasher))) (b : HashMap (String Heap) E.Entity (BuildHasherDefault FoldHasher)) → blocks_of (bs ++ (b ∷ [])) ≡ names_of b ∷ blocks_of bs
blocks_behind bs b = simp (map-append, reverse-append)

-- names that stand for what is hidden
pub names_hidden : (m n : HashMap (String Heap) E.Entity (BuildHasherDefault FoldHasher)) → n.entries ≡ map (λ e. (e.0, V.Hidden)) m.entries → names_of n ≡ (λ x. option_map (λ e. Hidden) (names_of m x))
names_hidden m n e = fun_ext (λ q. ap (λ es. option_map entity_of (lookup (λ k. bytes_eq q (string_bytes k)) es)) e ∙ ap (option_map entity_of) (lookup-map_values (λ v. V.Hidden) (λ k. bytes_eq q (string_bytes k)) m.entries) ∙ by_cases (get_by_text m q))
  where
    by_cases : (r : Option E.Entity) → option_map entity_of (option_map (λ v. V.Hidden) r) ≡ option_map (λ e. Hidden) (option_map entity_of r)
    by_cases (Some v) = refl
    by_cases None = refl
