-- What is answered to triples and to the derivation of one program: that they are accepted, or which is the first that isn't and at
-- which node.
use Rattle.std.specs.Prelude.{◌≡◌, ℕ, zero, suc, List, [], ◌∷◌, ◌⊎◌, Some, None, Result, Ok, Err}
use Rattle.c_values.specs.Name.{Name}
use Rattle.expression_lang.specs.Expression.{Exp}
use Rattle.ac_expr.specs.Fact.{Fact, Whole}
use Rattle.monad_lang.specs.Program.{Mon, FinalFn, FinalUnit, final_fn}
use Rattle.rule_trees.specs.RuleTree.{Tree, Accepts, Checked}
use Rattle.exactness.specs.Triple.{AreAssertions, result_names}
use Rattle.triple_lang.specs.Triple.{Triple}
use Rattle.triple_lang.specs.Deriv.{Rule, Ground, Names, derived}
use Rattle.hoare_check.specs.DeriveTable.{Asserts, behind, table}
use Rattle.hoare_check.specs.Accepted.{ground, names_before, IsAccepted}

-- a triple isn't accepted: there is no such function, or its assertions aren't ones of the function, where the node is 0; or the node
-- is the first of the derivation that is no instance of its rule
abbrev pub IsFaultAt : FinalUnit → List Triple → Triple → ℕ → Type 0
IsFaultAt u all t n =
    ((final_fn u.functions t.assertions.function ≡ None) × (n ≡ 0))
    ⊎ ((f : FinalFn) × (final_fn u.functions t.assertions.function ≡ Some f)
    × (((AreAssertions u f t.assertions → ⊥) × (n ≡ 0))
    ⊎ (AreAssertions u f t.assertions
    × Checked (table (ground u all f)) t.derivation
    (derived (names_before f t.assertions) (Whole t.assertions.before ∷ []) f.body (result_names f.results) t.assertions.after) 0 (Err n))))

-- all before the position are accepted, and the one there isn't
abbrev pub IsFirstFault : FinalUnit → List Triple → List Triple → ℕ → ℕ → Type 0
IsFirstFault u all [] k n = ⊥
IsFirstFault u all (t ∷ ts) zero n = IsFaultAt u all t n
IsFirstFault u all (t ∷ ts) (suc k) n = IsAccepted u all t × IsFirstFault u all ts k n

-- One program

-- The assertion is one behind the program, under the names of its values, and the tree derives it; or it isn't one, where the node is
-- 0; or the node is the first that is no instance of its rule.
abbrev pub IsDerivVerdict : Ground → Names → List Fact → Mon → List Name → Exp → Tree Rule → Result (Unit {0}) ℕ → Type 0
IsDerivVerdict k ns fs m xs q t (Ok done) = Asserts k (behind k m xs ns) q × Accepts (table k) t (derived ns fs m xs q)
IsDerivVerdict k ns fs m xs q t (Err n) =
    ((Asserts k (behind k m xs ns) q → ⊥) × (n ≡ 0))
    ⊎ (Asserts k (behind k m xs ns) q × Checked (table k) t (derived ns fs m xs q) 0 (Err n))
