-- The table of the rules by which a program is shown to give what an assertion says. One clause for each row: the rule and the claim;
-- then what is asked, and the claims of the parts, in text order.
use Rattle.std.specs.Prelude.{◌≡◌, ℕ, zero, suc, Bool, true, false, not, ◌&&◌, ◌||◌, List, [], ◌∷◌, ◌++◌, map, Option, Some, None, unwrap_or}
use Rattle.c_values.specs.Name.{Name, is_among}
use Rattle.expression_lang.specs.Expression.{Exp, Var}
use Rattle.expression_lang.specs.Mentions.{names, reads}
use Rattle.expression_lang.specs.Sort.{Scalar, Sort, Of, Scope, same_sort, sort_of, sort_of_kind}
use Rattle.expression_lang.specs.Sorted.{names_with}
use Rattle.expression_lang.specs.Signature.{names_of}
use Rattle.ac_expr.specs.Fact.{Fact, Whole, NotTrue}
use Rattle.ac_expr.specs.Facts.{without_reads}
use Rattle.ac_expr.specs.Passed.{without_names}
use Rattle.ac_expr.specs.Lasting.{is_unnamed}
use Rattle.monad_lang.specs.Program as M
use Rattle.monad_lang.specs.Program.{Mon, Start, FinalFn, final_fn}
use Rattle.monad_lang.specs.Run.{start_names}
use Rattle.monad_lang.specs.Sorted.{Setting, scalars_given, start_scalars}
use Rattle.program_facts.specs.Lasting.{setting_in}
use Rattle.rule_parts.specs.Starts.{start_exps}
use Rattle.rule_trees.specs.RuleTree.{Row, asks, no_row, Table}
use Rattle.exactness.specs.Triple.{Assertions, logical_names, logical_sorts, result_names}
use Rattle.triple_lang.specs.Entail as E
use Rattle.entailment.specs.Table as T
use Rattle.entailment.specs.Table.{IsAssertion}
use Rattle.assertion_walks.specs.Put.{put}
use Rattle.assertion_walks.specs.Written.{IsBeforeGlobal, IsBeforeWrite}
use Rattle.triple_lang.specs.Deriv as R
use Rattle.triple_lang.specs.Deriv.{Rule, Ground, Names, Claim, entailed, derived}

-- Scopes

-- what is in scope, and what may be called
abbrev pub setting : Ground → Names → Setting
setting k ns = setting_in sort_of_kind k.unit ns

abbrev pub scope : Ground → Names → Scope
scope k ns = (setting k ns).scope

abbrev pub Asserts : Ground → Names → Exp → Type 0
Asserts k ns e = IsAssertion k.lifted (scope k ns) e

-- where the program's values have these names
abbrev pub behind : Ground → Mon → List Name → Names → Names
behind k m xs ns = names_with xs (unwrap_or (scalars_given (setting k ns) m) []) ns

-- in a loop
abbrev pub within : Ground → List Start → Names → Names
within k starts ns = names_with (start_names starts) (unwrap_or (start_scalars (scope k ns) starts) []) ns

abbrev pub variables : List Name → List Exp
variables xs = map (λ x. Var x) xs

-- no name is in the assertion, but those of the results
abbrev pub are_free_for : List Name → List Name → Exp → Bool
are_free_for [] xs e = true
are_free_for (y ∷ ys) xs e = (is_among y xs || not (names y e)) && are_free_for ys xs e

-- Calls

abbrev pub triple_at : ℕ → List Assertions → Option Assertions
triple_at n [] = None
triple_at zero (t ∷ ts) = Some t
triple_at (suc n) (t ∷ ts) = triple_at n ts

abbrev pub is_scalar_of : Scalar → Option Sort → Bool
is_scalar_of s None = false
is_scalar_of s (Some o) = same_sort o (Of s)

-- the values of logical variables: one of each sort, which looks at no state and has none of the names
abbrev pub AreLogicalValues : Scope → List Name → List Scalar → List Exp → Type 0
AreLogicalValues g xs [] [] = Unit {0}
AreLogicalValues g xs (s ∷ ss) (e ∷ es) =
    (is_scalar_of s (sort_of g e) ≡ true) × (reads e ≡ false) × (is_unnamed xs e ≡ true) × AreLogicalValues g xs ss es
AreLogicalValues g xs _ _ = ⊥

-- the triple's function, its precondition of the arguments and the logical values, and its postcondition of the result and those
pub record IsCall (k : Ground) (ns : Names) (t : Assertions) (f : FinalFn) (g : Name) (es : List Exp) (xs : List Name) (ls : List Exp) (before after : Exp) : Type 0 where
  pub function : t.function ≡ g
  pub found : final_fn k.unit.functions g ≡ Some f
  pub logicals : AreLogicalValues (scope k ns) xs (logical_sorts t.logicals) ls
  pub before_is : before ≡ put (names_of f.params ++ logical_names t.logicals) (es ++ ls) t.before
  pub before_asserts : Asserts k ns before
  pub after_is : after ≡ put (result_names f.results ++ logical_names t.logicals) (variables xs ++ ls) t.after
  pub after_asserts : Asserts k (behind k (M.Call g es) xs ns) after

abbrev pub Calls : Ground → Names → Option Assertions → Name → List Exp → List Name → List Exp → Exp → Exp → Type 0
Calls k ns None g es xs ls before after = ⊥
Calls k ns (Some t) g es xs ls before after = (f : FinalFn) × IsCall k ns t f g es xs ls before after

-- Rows

abbrev pub in_names : Names → E.Claim → Claim
in_names ns (E.shown fs q) = entailed ns fs q

abbrev pub shown_row : Ground → Names → List Fact → E.Rule → Exp → Row Claim
shown_row k ns fs r q = asks (T.row k.lifted (scope k ns) fs r q).holds (map (in_names ns) (T.row k.lifted (scope k ns) fs r q).parts)

abbrev pub row : Ground → Names → List Fact → Rule → Mon → List Name → Exp → Row Claim
row k ns fs (R.Ret e) (M.Ret es) xs q = asks (Asserts k ns e × (e ≡ put xs es q)) (entailed ns fs e ∷ [])
row k ns fs (R.Bind e) (M.Bind m ys n) xs q =
    asks (Asserts k (behind k m ys ns) e × (are_free_for ys xs q ≡ true)) (derived ns fs m ys e ∷ derived (behind k m ys ns) (Whole e ∷ []) n xs q ∷ [])
row k ns fs R.Guard (M.Guard e) xs q = asks (Unit {0}) (entailed ns fs e ∷ entailed ns (Whole e ∷ fs) q ∷ [])
row k ns fs R.If (M.If e m n) xs q = asks (Unit {0}) (derived ns (Whole e ∷ fs) m xs q ∷ derived ns (NotTrue e ∷ fs) n xs q ∷ [])
row k ns fs (R.Loop inv first last) (M.Loop starts guard test m) xs q =
    let ys = start_names starts in
    let inner = within k starts ns in
    asks (Asserts k inner inv × Asserts k ns first × (first ≡ put ys (start_exps starts) inv)
    × Asserts k inner last × (last ≡ put xs (variables ys) q) × (are_free_for ys xs q ≡ true))
    (entailed ns fs first ∷ entailed inner (Whole inv ∷ []) guard
    ∷ derived inner (Whole test ∷ Whole guard ∷ Whole inv ∷ []) m ys inv
    ∷ entailed inner (NotTrue test ∷ Whole guard ∷ Whole inv ∷ []) last ∷ [])
row k ns fs (R.Call i ls before after) (M.Call g es) xs q =
    asks (Calls k ns (triple_at i k.triples) g es xs ls before after)
    (entailed ns fs before ∷ entailed (behind k (M.Call g es) xs ns) (Whole after ∷ without_names xs (without_reads fs)) q ∷ [])
row k ns fs R.Pick (M.Pick kind) xs q = asks (Unit {0}) (entailed (behind k (M.Pick kind) xs ns) (without_names xs fs) q ∷ [])
row k ns fs (R.Write e) (M.Write (M.Written t p path) v) xs q =
    asks ((k.lifted ≡ true) × Asserts k ns e × IsBeforeWrite (scope k ns) (record { type = t; address = p; path = path }) v q e) (entailed ns fs e ∷ [])
row k ns fs (R.Gset e) (M.Write (M.Global x path) v) xs q = asks (Asserts k ns e × IsBeforeGlobal x path v q e) (entailed ns fs e ∷ [])
row _ _ _ _ _ _ _ = no_row

abbrev pub table : Ground → Table Rule Claim
table k (R.Shows r) (entailed ns fs q) = shown_row k ns fs r q
table k rule (derived ns fs m xs q) = row k ns fs rule m xs q
table k rule (entailed ns fs q) = no_row
