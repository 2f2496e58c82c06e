-- The claims of the parts in the step to numbers: their left sides are where the code goes on.
use Rattle.std.proofs.Common.{◌≡◌, ℕ, suc, List, [], ◌∷◌, ◌++◌, length, Option, Some, None, refl, ap, ◌∙◌}
use Rattle.c_values.specs.Word.{Wadd, Wsub, Wmul, Wudiv, Wumod, Wsdiv, Wsmod, Wneg, Wult, Wule, Wslt, Wsle}
use Rattle.c_values.specs.Number as N
use Rattle.expression_lang.specs.Expression as X
use Rattle.expression_lang.specs.Expression.{Exp}
use Rattle.expression_lang.specs.Sort.{Kind, WordKind, Scope}
use Rattle.expression_lang.specs.Signature.{Signature, signature}
use Rattle.ac_expr.specs.Heads.{children}
use Rattle.monad_lang.specs.Program as M
use Rattle.program_facts.specs.Places.{place_children}
use Rattle.monad_lang.specs.Program.{Mon}
use Rattle.rule_word.specs.Rule as W
use Rattle.rule_word.specs.Rule.{Claim, Context, Point, View, AsIs, Unsigned, Signed, program, expression}
use Rattle.rule_word.specs.Scopes.{words, width_in}
use Rattle.rule_word.specs.Table as Words
use Rattle.rule_word.specs.Table.{each, of_width, expression_row, program_row, call_row, write_row, AreMatched, owns, views_for}
use Rattle.rule_parts.specs.Starts.{start_exps}
use Rattle.rule_word.proofs.AskedPrograms.{start_count}
use Rattle.refused_parts.specs.CodeInside.{word_inside}
use Rattle.refused_parts.specs.Lefts.{word_left}
use Rattle.refused_parts.proofs.Positions.{IsAt, AreBare, no_claims, one_more, of_one, of_two, two_behind, last_of}

abbrev AreExps : List Claim → Type 0
AreExps cs = AreBare word_left cs

no_exps : AreExps []
no_exps = no_claims word_left

only : (c : Claim) → word_left c ≡ None → AreExps (c ∷ [])
only c e = one_more word_left c [] e no_exps

both : (b c : Claim) → word_left b ≡ None → word_left c ≡ None → AreExps (b ∷ c ∷ [])
both b c e f = one_more word_left b (c ∷ []) e (only c f)

three : (a b c : Claim) → word_left a ≡ None → word_left b ≡ None → word_left c ≡ None → AreExps (a ∷ b ∷ c ∷ [])
three a b c d e f = one_more word_left a (b ∷ c ∷ []) d (both b c e f)

each_exps : (at : Point) (es : List Exp) (vs : List View) (as' : List Exp) → AreExps (each at es vs as')
each_exps at (e ∷ es) (v ∷ vs) (a ∷ as') = one_more word_left (expression at e v a) (each at es vs as') refl (each_exps at es vs as')
each_exps at [] vs as' = no_exps
each_exps at (e ∷ es) [] as' = no_exps
each_exps at (e ∷ es) (v ∷ vs) [] = no_exps

by_width : (o : Option ℕ) (f : ℕ → List Claim) → ((n : ℕ) → AreExps (f n)) → (of_width o f).holds → AreExps (of_width o f).parts
by_width None f h k = absurd k
by_width (Some n) f h k = h n

expression_exps : (g : Scope) (at : Point) (r : W.Rule) (e : Exp) (v : View) (a : Exp) → (expression_row g at r e v a).holds → AreExps (expression_row g at r e v a).parts
expression_exps g at W.Var (X.Var x) v (X.Var y) h = no_exps
expression_exps g at W.Const e v a h = no_exps
expression_exps g at W.Nat (X.ToNat e) (AsIs o) a h = by_width (width_in g e) _ (λ n. only _ refl) h
expression_exps g at W.Int (X.ToInt e) (AsIs o) a h = by_width (width_in g e) _ (λ n. only _ refl) h
expression_exps g at (W.Word k) e (AsIs o) (X.ToWord n a) h = only _ refl
expression_exps g at W.Unat e (Unsigned n) (X.ToNat a) h = only _ refl
expression_exps g at W.Sint e (Signed n) (X.ToInt a) h = only _ refl
expression_exps g at W.Add (X.WordBinary Wadd a b) v (X.Arith N.Add a' b') h = both _ _ refl refl
expression_exps g at W.Sub (X.WordBinary Wsub a b) v (X.Arith N.Sub a' b') h = both _ _ refl refl
expression_exps g at W.Mul (X.WordBinary Wmul a b) v (X.Arith N.Mul a' b') h = both _ _ refl refl
expression_exps g at W.Neg (X.WordUnary Wneg a) v (X.Negate a') h = only _ refl
expression_exps g at W.Udiv (X.WordBinary Wudiv a b) (Unsigned n) (X.Arith N.Div a' b') h = both _ _ refl refl
expression_exps g at W.Umod (X.WordBinary Wumod a b) (Unsigned n) (X.Arith N.Mod a' b') h = both _ _ refl refl
expression_exps g at W.Sdiv (X.WordBinary Wsdiv a b) (Signed n) (X.Arith N.Div a' b') h = both _ _ refl refl
expression_exps g at W.Smod (X.WordBinary Wsmod a b) (Signed n) (X.Arith N.Mod a' b') h = both _ _ refl refl
expression_exps g at W.Order (X.WordCompare Wult a b) (AsIs o) (X.Lt a' b') h = by_width (width_in g a) _ (λ n. both _ _ refl refl) h
expression_exps g at W.Order (X.WordCompare Wule a b) (AsIs o) (X.Le a' b') h = by_width (width_in g a) _ (λ n. both _ _ refl refl) h
expression_exps g at W.Order (X.WordCompare Wslt a b) (AsIs o) (X.Lt a' b') h = by_width (width_in g a) _ (λ n. both _ _ refl refl) h
expression_exps g at W.Order (X.WordCompare Wsle a b) (AsIs o) (X.Le a' b') h = by_width (width_in g a) _ (λ n. both _ _ refl refl) h
expression_exps g at (W.Eq k) (X.Eq a b) (AsIs o) (X.Eq a' b') h = both _ _ refl refl
expression_exps g at W.Zext (X.Cast X.Zext m e) (Unsigned k) a h = by_width (width_in g e) _ (λ n. only _ refl) h
expression_exps g at W.Zext (X.Cast X.Zext m e) (Signed k) a h = by_width (width_in g e) _ (λ n. only _ refl) h
expression_exps g at W.Sext (X.Cast X.Sext m e) (Signed k) a h = by_width (width_in g e) _ (λ n. only _ refl) h
expression_exps g at W.Logic (X.And a b) (AsIs o) (X.And a' b') h = both _ _ refl refl
expression_exps g at W.Logic (X.Or a b) (AsIs o) (X.Or a' b') h = both _ _ refl refl
expression_exps g at W.Logic (X.Imp a b) (AsIs o) (X.Imp a' b') h = both _ _ refl refl
expression_exps g at W.Logic (X.Not a) (AsIs o) (X.Not a') h = only _ refl
expression_exps g at W.Cond (X.If c a b) v (X.If c' a' b') h = three _ _ _ refl refl refl
expression_exps g at W.Op e (AsIs o) a h = each_exps at (children e) _ (children a)
expression_exps g at r e v a h = absurd h

-- as many claims as expressions
matched : (at : Point) (es : List Exp) (ks : List Kind) (as' : List Exp) → AreMatched es ks as' → length (each at es (views_for ks) as') ≡ length es
matched at [] [] [] h = refl
matched at (e ∷ es) (k ∷ ks) (a ∷ as') h = ap suc (matched at es ks as' h)
matched at es ks as' h = absurd h

of_call : (o : Option Signature) (at : Point) (es es' : List Exp) (ks : List Kind) → (call_row o at es es' ks).holds → AreExps (call_row o at es es' ks).parts
of_call None at es es' ks h = absurd h
of_call (Some f) at es es' ks h = each_exps at es _ es'

write_exps : (g : Scope) (at : Point) (p : M.Place) (e : Exp) (p' : M.Place) (e' : Exp) → AreExps (write_row g at p e p' e').parts
write_exps g at p e p' e' = each_exps at (place_children p ++ (e ∷ [])) (owns g (place_children p ++ (e ∷ []))) (place_children p' ++ (e' ∷ []))

word_row : (ctx : Context) (at : Point) (r : W.Rule) (a b : Mon) (ks : List Kind) (i : ℕ) (d : Claim) → (program_row ctx at r a b ks).holds → IsAt (program_row ctx at r a b ks).parts i d → word_left d ≡ word_inside r a i
word_row ctx at W.Ret (M.Ret es) (M.Ret es') ks i d h k = (each_exps at es _ es').none i d k
word_row ctx at W.Guard (M.Guard e) (M.Guard e') [] i d h k = (only _ refl).none i d k
word_row ctx at W.If (M.If e m n) (M.If e' m' n') ks i d h k = two_behind word_left m n _ _ _ d i refl refl refl k
word_row ctx at W.Global (M.Write (M.Global x path) e) (M.Write p' e') [] i d h k = (write_exps (words ctx at.names).scope at (M.Global x path) e p' e').none i d k
word_row ctx at W.Write (M.Write (M.Stored t p path) e) (M.Write p' e') [] i d h k = (write_exps (words ctx at.names).scope at (M.Stored t p path) e p' e').none i d k
word_row ctx at W.Write (M.Write (M.Written t p path) e) (M.Write p' e') [] i d h k = (write_exps (words ctx at.names).scope at (M.Written t p path) e p' e').none i d k
word_row ctx at W.Pick (M.Pick j) (M.Pick j') ks i d h k = absurd k
word_row ctx at W.PickNat (M.Pick (WordKind n)) (M.Pick j') ks i d h k = absurd k
word_row ctx at W.PickInt (M.Pick (WordKind n)) (M.Pick j') ks i d h k = absurd k
word_row ctx at (W.Bind js) (M.Bind m xs n) (M.Bind m' xs' n') ks i d h k = of_two word_left m n _ _ d i refl refl k
word_row ctx at (W.Loop js) (M.Loop starts guard test m) (M.Loop starts' guard' test' m') ks i d h k =
    last_of word_left (each at (start_exps starts) (views_for js) (start_exps starts')) _ _ _ m (length starts) i d (each_exps at (start_exps starts) (views_for js) (start_exps starts'))
    (matched at (start_exps starts) js (start_exps starts') h.2 ∙ start_count starts) refl refl refl k
word_row ctx at W.Call (M.Call f es) (M.Call g es') ks i d h k = (of_call (signature ctx.functions f) at es es' ks h.1).none i d k
word_row ctx at (W.Recast js) m (M.Bind m' ys (M.Ret es)) ks i d h k = of_one word_left m _ d i refl k
word_row ctx at r a b ks i d h k = absurd h

module _ (ctx : Context) where
  pub word_steps : (r : W.Rule) (c d : Claim) (p : Mon) (i : ℕ) → (Words.table ctx r c).holds → word_left c ≡ Some p → IsAt (Words.table ctx r c).parts i d → word_left d ≡ word_inside r p i
  word_steps r (program at a b ks) d p i h e k = let same : a ≡ p = cc in word_row ctx at r a b ks i d h k ∙ ap (λ m. word_inside r m i) same
  word_steps r (expression at a v b) d p i h e k = absurd cc

  pub word_stays : (r : W.Rule) (c d : Claim) (i : ℕ) → (Words.table ctx r c).holds → word_left c ≡ None → IsAt (Words.table ctx r c).parts i d → word_left d ≡ None
  word_stays r (program at a b ks) d i h e k = absurd cc
  word_stays r (expression at a v b) d i h e k = (expression_exps (words ctx at.names).scope at r a v b h.1).none i d k
