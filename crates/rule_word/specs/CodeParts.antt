-- The parts of two sides as the code goes along them: expressions in pairs, and then what is under more facts.
use Rattle.std.specs.Prelude.{Bool, true, false, List, [], ◌∷◌, map}
use Rattle.expression_lang.specs.Expression.{Exp}
use Rattle.expression_lang.specs.Sort.{Scope}
use Rattle.expression_lang.specs.Signature.{kinds_of}
use Rattle.expression_lang.specs.CodeExpression.{exp_of, kind_of}
use Rattle.expression_lang.specs.CodeSignature.{binder_of}
use Rattle.ac_expr.specs.Fact.{Whole, NotTrue}
use Rattle.monad_lang.specs.CodeProgram.{mon_of}
use Rattle.rule_parts.specs.declared.exps.Exps as X
use Rattle.rule_parts.specs.CodeExps.{exps_in}
use Rattle.rule_word.specs.declared.claims.Seen as S
use Rattle.rule_word.specs.declared.claims.Views as W
use Rattle.rule_word.specs.declared.claims.Given as G
use Rattle.rule_word.specs.declared.claims.Sight as I
use Rattle.rule_word.specs.declared.claims.Claim as C
use Rattle.rule_word.specs.declared.claims.Then as T
use Rattle.rule_word.specs.Rule.{Context, Point, View, Claim, expression, program}
use Rattle.rule_word.specs.Scopes.{view_for, words}
use Rattle.rule_word.specs.Table.{knowing, each, views_for, truth}
use Rattle.rule_word.specs.CodeRule.{view_at}

abbrev pub seen_in : Scope → Exp → S.Seen → View
seen_in g e (S.TheVariants.As v) = view_at g e v
seen_in g e (S.TheVariants.At k) = view_for (kind_of k)

abbrev pub looks_at : S.Seen → Bool
looks_at (S.TheVariants.As v) = false
looks_at (S.TheVariants.At k) = true

abbrev pub views_in : Scope → List Exp → W.Views → List View
views_in g es (W.TheVariants.Each s) = map (λ e. seen_in g e s) es
views_in g es (W.TheVariants.Kinds ks) = views_for (map kind_of ks.now)
views_in g es (W.TheVariants.Params bs) = views_for (kinds_of (map binder_of bs.now))

abbrev pub looks_in : W.Views → Bool
looks_in (W.TheVariants.Each s) = looks_at s
looks_in (W.TheVariants.Kinds ks) = true
looks_in (W.TheVariants.Params bs) = true

abbrev pub pairs_at : Context → Point → X.Exps → W.Views → X.Exps → List Claim
pairs_at ctx at l w r = each at (exps_in l) (views_in (words ctx at.names).scope (exps_in l) w) (exps_in r)

abbrev pub given_at : Point → G.Given → Point
given_at at G.TheVariants.Nothing = at
given_at at (G.TheVariants.Whole e) = knowing (Whole (exp_of e.now)) at
given_at at (G.TheVariants.Not e) = knowing (NotTrue (exp_of e.now)) at
given_at at (G.TheVariants.Both e f) = knowing (Whole (exp_of e.now)) (knowing (Whole (exp_of f.now)) at)

abbrev pub given_in : C.Claim → G.Given
given_in (C.TheVariants.Exp g e v a) = g
given_in (C.TheVariants.Program g m n ks) = g

abbrev pub sight_in : Scope → Exp → I.Sight → View
sight_in g e (I.TheVariants.As v) = view_at g e v
sight_in g e I.TheVariants.Truth = truth

-- the claim, where what is known at the part is known already
abbrev pub claim_here : Context → Point → C.Claim → Claim
claim_here ctx at (C.TheVariants.Exp given e s a) = expression at (exp_of e.now) (sight_in (words ctx at.names).scope (exp_of e.now) s) (exp_of a.now)
claim_here ctx at (C.TheVariants.Program given m n ks) = program at (mon_of m.now.value) (mon_of n.now.value) (map kind_of ks.now)

abbrev pub claim_in : Context → Point → C.Claim → Claim
claim_in ctx at c = claim_here ctx (given_at at (given_in c)) c

abbrev pub thens_at : Context → Point → T.Then → List Claim
thens_at ctx at T.TheVariants.Nothing = []
thens_at ctx at (T.TheVariants.Last c) = claim_in ctx at c ∷ []
thens_at ctx at (T.TheVariants.Branches e m m' n n' ks) =
    program (knowing (Whole (exp_of e.now)) at) (mon_of m.now.value) (mon_of m'.now.value) (map kind_of ks.now)
    ∷ program (knowing (NotTrue (exp_of e.now)) at) (mon_of n.now.value) (mon_of n'.now.value) (map kind_of ks.now) ∷ []
thens_at ctx at (T.TheVariants.Cases c v a a' b b') =
    expression (knowing (Whole (exp_of c.now.value)) at) (exp_of a.now.value) (view_at (words ctx at.names).scope (exp_of a.now.value) v) (exp_of a'.now.value)
    ∷ expression (knowing (NotTrue (exp_of c.now.value)) at) (exp_of b.now.value) (view_at (words ctx at.names).scope (exp_of b.now.value) v) (exp_of b'.now.value) ∷ []
thens_at ctx at (T.TheVariants.Test f t t' m m' ks) =
    expression (knowing (Whole (exp_of f.now)) at) (exp_of t.now) truth (exp_of t'.now)
    ∷ program (knowing (Whole (exp_of t'.now)) (knowing (Whole (exp_of f.now)) at)) (mon_of m.now.value) (mon_of m'.now.value) (map kind_of ks.now) ∷ []
thens_at ctx at (T.TheVariants.Turn e f t t' m m' ks) =
    expression at (exp_of e.now) truth (exp_of f.now)
    ∷ expression (knowing (Whole (exp_of f.now)) at) (exp_of t.now) truth (exp_of t'.now)
    ∷ program (knowing (Whole (exp_of t'.now)) (knowing (Whole (exp_of f.now)) at)) (mon_of m.now.value) (mon_of m'.now.value) (map kind_of ks.now) ∷ []
