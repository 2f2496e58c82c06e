-- The innermost block, which is the last one, with other names.
use Rattle.std.proofs.Common.{◌≡◌, ℕ, ◌+◌, ◌-◌, ◌<◌, ◌≤◌, List, [], ◌∷◌, ◌++◌, length, get_or, take, sym, ap, ◌∙◌, arith, String}
use Rattle.std.proofs.Math.ListN.{set}
use Rattle.std.proofs.lemmas.List.{length-set, take_all, take_more, take_more_set}
use Rattle.std.specs.HashMap.{HashMap}
use Rattle.std.specs.Option.{option_map}
use Rattle.std.specs.declared.alloc.Global.{Global as Heap}
use Rattle.std.specs.declared.hash.FoldHasher.{FoldHasher}
use Rattle.std.specs.declared.hash.BuildHasherDefault.{BuildHasherDefault}
use Rattle.typing_scope.specs.declared.scope.Entity as E
use Rattle.typing_scope.specs.CodeScope.{blocks_of, names_of}
use Rattle.typing_rules.specs.Scope.{Hidden, hidden}
use Rattle.typing_scope.proofs.Blocks.{blocks_behind}

-- the innermost block's names stand for what is hidden
pub last_hidden : (bs : List (HashMap (String Heap) E.Entity (BuildHasherDefault FoldHasher))) (k : ℕ) (m n : HashMap (String Heap) E.Entity (BuildHasherDefault FoldHasher)) → k ≡ length bs → 0 < k → m ≡ get_or bs (k - 1) m → names_of n ≡ (λ x. option_map (λ e. Hidden) (names_of m x)) → blocks_of (set bs (k - 1) n) ≡ hidden (blocks_of bs)
last_hidden bs k m n count l e h =
    let i : k - 1 < length bs = omega arith in
    let all : length bs ≤ k - 1 + 1 = omega arith in
    let still : length (set bs (k - 1) n) ≤ k - 1 + 1 = omega (arith, length-set bs (k - 1) n) in
    let outer = take (k - 1) bs in
    let before : bs ≡ outer ++ (m ∷ []) = sym (take_all (k - 1 + 1) bs all) ∙ take_more bs (k - 1) m i ∙ ap (λ x. outer ++ (x ∷ [])) (sym e) in
    let after : set bs (k - 1) n ≡ outer ++ (n ∷ []) = sym (take_all (k - 1 + 1) (set bs (k - 1) n) still) ∙ take_more_set bs (k - 1) n i in
    ap blocks_of after ∙ blocks_behind outer n ∙ ap (λ f. f ∷ blocks_of outer) h ∙ ap hidden (sym (ap blocks_of before ∙ blocks_behind outer m))
