-- Names in scope at kinds, as the code finds them: those of a sequence's first parts, and the last that is a name.
use Rattle.std.specs.Prelude.{ℕ, suc, Bool, true, ◌&&◌, List, [], ◌∷◌, Option, Some, None, if◌then◌else◌}
use Rattle.c_values.specs.Name.{Name, same_name}
use Rattle.expression_lang.specs.Sort.{Kind, is_kind}
use Rattle.expression_lang.specs.Signature.{Binder, Signature}
use Rattle.monad_lang.specs.Program as M
use Rattle.monad_lang.specs.Program.{Mon}
use Rattle.rule_trees.specs.RuleTree.{Tree, node, tree, no_trees}
use Rattle.rule_word.specs.Rule.{Rule, Bind}
use Rattle.rule_word.specs.Scopes.{names_in, with_kinds}

-- the names of the first so many parts of a sequence, at the kinds of their rules
abbrev pub with_passed : ℕ → Tree Rule → Mon → List Binder → List Binder
with_passed (suc n) (node (Bind js) (tree t (tree u no_trees))) (M.Bind m xs rest) bs = with_passed n u rest (with_kinds xs js bs)
with_passed _ t m bs = bs

-- the kind of the last of the names that is this one, or else this
abbrev pub kind_among : List Name → List Kind → Name → Option Kind → Option Kind
kind_among (x ∷ xs) (k ∷ ks) y found = kind_among xs ks y (if same_name x y then Some k else found)
kind_among _ _ y found = found

abbrev pub kind_passed : ℕ → Tree Rule → Mon → Name → Option Kind → Option Kind
kind_passed (suc n) (node (Bind js) (tree t (tree u no_trees))) (M.Bind m xs rest) y found = kind_passed n u rest y (kind_among xs js y found)
kind_passed _ t m y found = found

-- the kind of a name
abbrev pub kind_in : List Binder → Name → Option Kind
kind_in bs x = names_in (λ k. k) bs x

-- all names have kinds that can be
abbrev pub are_binders : List Binder → Bool
are_binders [] = true
are_binders (b ∷ bs) = is_kind b.kind && are_binders bs

abbrev pub is_result : Option Kind → Bool
is_result None = true
is_result (Some k) = is_kind k

-- and so have what functions give
abbrev pub are_results : List Signature → Bool
are_results [] = true
are_results (f ∷ fs) = is_result f.result && are_results fs
