-- Which claims a checker need look at no sort of: the left side is well-sorted, and of the sort that is seen.
use Rattle.std.specs.Prelude.{◌≡◌, Bool, true, false, List, [], ◌∷◌, Some}
use Rattle.expression_lang.specs.Expression.{Exp}
use Rattle.expression_lang.specs.Sort.{Scalar, Sort, Scope, sort_of}
use Rattle.monad_lang.specs.Sorted.{scalars_given}
use Rattle.rule_trees.specs.RuleTree.{Tree, Accepts}
use Rattle.rule_word.specs.Rule.{Rule, Context, View, Claim, expression, program}
use Rattle.rule_word.specs.Scopes.{words, sort_seen}
use Rattle.rule_word.specs.Table.{table}

abbrev pub IsSorted : Scope → Exp → Type 0
IsSorted g e = (s : Sort) × (sort_of g e ≡ Some s)

abbrev pub AreSorted : Scope → List Exp → Type 0
AreSorted g [] = Unit {0}
AreSorted g (e ∷ es) = IsSorted g e × AreSorted g es

-- well-sorted, of the sort that is seen
abbrev pub Fits : Scope → Exp → View → Type 0
Fits g e v = (s : Sort) × (sort_of g e ≡ Some s) × (sort_seen v ≡ Some s)

abbrev pub ClaimFits : Context → Claim → Type 0
ClaimFits ctx (expression at e v a) = Fits (words ctx at.names).scope e v
ClaimFits ctx (program at m m' ks) = (cs : List Scalar) × (scalars_given (words ctx at.names) m ≡ Some cs)

abbrev pub AllFit : Context → List Claim → Type 0
AllFit ctx [] = Unit {0}
AllFit ctx (c ∷ cs) = ClaimFits ctx c × AllFit ctx cs

-- each, where those before it are taken
abbrev pub FitInTurn : Context → List Claim → Type 0
FitInTurn ctx [] = Unit {0}
FitInTurn ctx (c ∷ cs) = ClaimFits ctx c × ((t : Tree Rule) → Accepts (table ctx) t c → FitInTurn ctx cs)

-- claims whose sorts are to be looked at, or aren't
abbrev pub AreReady : Context → Scope → Bool → List Exp → List Claim → Type 0
AreReady ctx g true es cs = AreSorted g es
AreReady ctx g false es cs = AllFit ctx cs
