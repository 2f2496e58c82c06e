-- The table of the rules that make numbers of words (the word abstraction of AutoCorres): words become what stands for them at a
-- kind, unsigned or signed numbers, where the range that makes this exact is known. One clause for each row: the rule, the left
-- side, how it is seen, the right side; then what is asked and the claims of the parts. Facts are of the right side.
use Rattle.std.specs.Prelude.{◌≡◌, ℕ, ◌==◌, Bool, true, false, List, [], ◌∷◌, ◌++◌, Option, Some, None, if◌then◌else◌}
use Rattle.c_values.specs.Name.{Name, are_distinct}
use Rattle.c_values.specs.Word.{unsigned, signed, Wadd, Wsub, Wmul, Wudiv, Wumod, Wsdiv, Wsmod, Wneg, Wult, Wule, Wslt, Wsle}
use Rattle.c_values.specs.Number as N
use Rattle.c_values.specs.Number.{least, greatest}
use Rattle.expression_lang.specs.Expression as X
use Rattle.expression_lang.specs.Expression.{Exp}
use Rattle.ac_expr.specs.Fact.{Whole, NotTrue, Fact}
use Rattle.ac_expr.specs.Heads.{head, children}
use Rattle.ac_expr.specs.Known.{IsKnown}
use Rattle.expression_lang.specs.Sort.{Kind, WordKind, NatKind, IntKind, BoolKind, Scope, sort_of, word_sort, truth_sort, word_sort_of, sort_of_kind}
use Rattle.expression_lang.specs.Signature.{Binder, Signature, kinds_of, signature}
use Rattle.program_facts.specs.Flow.{facts_after}
use Rattle.program_facts.specs.Places.{place_children, place_head}
use Rattle.monad_lang.specs.Program as M
use Rattle.monad_lang.specs.Program.{Mon}
use Rattle.monad_lang.specs.Run.{start_names}
use Rattle.rule_trees.specs.RuleTree.{Row, asks, no_row, Table, Tree, Accepts}
use Rattle.rule_parts.specs.Starts.{start_exps}
use Rattle.rule_word.specs.Rule.{Rule, Ret, Guard, If, Global, Pick, Write, Bind, Loop, Call, PickNat, PickInt, Recast, Var, Const, Nat, Int, Word, Unat, Sint, Add, Sub, Mul, Neg, Udiv, Umod, Sdiv, Smod, Order, Eq, Zext, Sext, Logic, Cond, Op, Context, Point, View, AsIs, Unsigned, Signed, Claim, expression, program}
use Rattle.rule_word.specs.Scopes.{names_in, with_kinds, words, sort_seen, view_for, own, width_in, result_as_list}

-- where one fact more is known
abbrev pub knowing : Fact → Point → Point
knowing f at = record { facts = f ∷ at.facts; names = at.names }

abbrev pub truth : View
truth = AsIs truth_sort

abbrev pub view_in : Option Kind → Option View
view_in None = None
view_in (Some k) = Some (view_for k)

-- a constant, seen so
abbrev pub constant : View → Exp → Option Exp
constant (AsIs o) (X.WordLit w) = Some (X.WordLit w)
constant (AsIs o) (X.NumberLit n) = Some (X.NumberLit n)
constant (AsIs o) (X.TruthLit b) = Some (X.TruthLit b)
constant (Unsigned n) (X.WordLit w) = Some (X.NumberLit (unsigned w))
constant (Signed n) (X.WordLit w) = Some (X.NumberLit (signed w))
constant _ _ = None

-- the width of a kind whose names are numbers
abbrev pub number_width : Kind → Option ℕ
number_width (NatKind n) = Some n
number_width (IntKind n) = Some n
number_width _ = None

-- the number is known to be one that a word of the width is
abbrev pub IsInRange : List Fact → View → Exp → Type 0
IsInRange fs (AsIs o) r = ⊥
IsInRange fs (Unsigned n) r = IsKnown fs (X.Between (least false n) r (greatest false n))
IsInRange fs (Signed n) r = IsKnown fs (X.Between (least true n) r (greatest true n))

abbrev pub of_width : Option ℕ → (ℕ → List Claim) → Row Claim
of_width None f = no_row
of_width (Some n) f = asks (Unit {0}) (f n)

-- expressions, each seen so
abbrev pub each : Point → List Exp → List View → List Exp → List Claim
each at (e ∷ es) (v ∷ vs) (a ∷ as') = expression at e v a ∷ each at es vs as'
each at _ _ _ = []

abbrev pub pair : Point → Exp → Exp → View → Exp → Exp → List Claim
pair at a b v a' b' = expression at a v a' ∷ expression at b v b' ∷ []

-- as many of each
abbrev pub AreMatched : {A B C : Type 0} → List A → List B → List C → Type 0
AreMatched [] [] [] = Unit {0}
AreMatched (a ∷ as') (b ∷ bs) (c ∷ cs) = AreMatched as' bs cs
AreMatched _ _ _ = ⊥

abbrev pub owns : Scope → List Exp → List View
owns g [] = []
owns g (e ∷ es) = own g e ∷ owns g es

abbrev pub views_for : List Kind → List View
views_for [] = []
views_for (k ∷ ks) = view_for k ∷ views_for ks

-- it has a head that no other rule is for
abbrev pub is_operator : Exp → Bool
is_operator (X.Var x) = false
is_operator (X.WordLit w) = false
is_operator (X.NumberLit n) = false
is_operator (X.TruthLit b) = false
is_operator (X.And a b) = false
is_operator (X.Or a b) = false
is_operator (X.Imp a b) = false
is_operator (X.Not a) = false
is_operator (X.If c a b) = false
is_operator e = true

abbrev pub expression_row : Scope → Point → Rule → Exp → View → Exp → Row Claim
expression_row g at Var (X.Var x) v (X.Var y) = asks ((y ≡ x) × (names_in view_for at.names x ≡ Some v)) []
expression_row g at Const e v a = asks (constant v e ≡ Some a) []
expression_row g at Nat (X.ToNat e) (AsIs o) a = of_width (width_in g e) (λ n. expression at e (Unsigned n) a ∷ [])
expression_row g at Int (X.ToInt e) (AsIs o) a = of_width (width_in g e) (λ n. expression at e (Signed n) a ∷ [])
expression_row g at (Word k) e (AsIs o) (X.ToWord n a) =
    asks ((number_width k ≡ Some n) × (o ≡ word_sort n)) (expression at e (view_for k) a ∷ [])
expression_row g at Unat e (Unsigned n) (X.ToNat a) = asks (Unit {0}) (expression at e (AsIs (word_sort n)) a ∷ [])
expression_row g at Sint e (Signed n) (X.ToInt a) = asks (Unit {0}) (expression at e (AsIs (word_sort n)) a ∷ [])
expression_row g at Add (X.WordBinary Wadd a b) v (X.Arith N.Add a' b') =
    asks (IsInRange at.facts v (X.Arith N.Add a' b')) (pair at a b v a' b')
expression_row g at Sub (X.WordBinary Wsub a b) v (X.Arith N.Sub a' b') =
    asks (IsInRange at.facts v (X.Arith N.Sub a' b')) (pair at a b v a' b')
expression_row g at Mul (X.WordBinary Wmul a b) v (X.Arith N.Mul a' b') =
    asks (IsInRange at.facts v (X.Arith N.Mul a' b')) (pair at a b v a' b')
expression_row g at Neg (X.WordUnary Wneg a) v (X.Negate a') =
    asks (IsInRange at.facts v (X.Negate a')) (expression at a v a' ∷ [])
expression_row g at Udiv (X.WordBinary Wudiv a b) (Unsigned n) (X.Arith N.Div a' b') =
    asks (Unit {0}) (pair at a b (Unsigned n) a' b')
expression_row g at Umod (X.WordBinary Wumod a b) (Unsigned n) (X.Arith N.Mod a' b') =
    asks (Unit {0}) (pair at a b (Unsigned n) a' b')
expression_row g at Sdiv (X.WordBinary Wsdiv a b) (Signed n) (X.Arith N.Div a' b') =
    asks (IsInRange at.facts (Signed n) (X.Arith N.Div a' b')) (pair at a b (Signed n) a' b')
expression_row g at Smod (X.WordBinary Wsmod a b) (Signed n) (X.Arith N.Mod a' b') =
    asks (Unit {0}) (pair at a b (Signed n) a' b')
expression_row g at Order (X.WordCompare Wult a b) (AsIs o) (X.Lt a' b') =
    of_width (width_in g a) (λ n. pair at a b (Unsigned n) a' b')
expression_row g at Order (X.WordCompare Wule a b) (AsIs o) (X.Le a' b') =
    of_width (width_in g a) (λ n. pair at a b (Unsigned n) a' b')
expression_row g at Order (X.WordCompare Wslt a b) (AsIs o) (X.Lt a' b') =
    of_width (width_in g a) (λ n. pair at a b (Signed n) a' b')
expression_row g at Order (X.WordCompare Wsle a b) (AsIs o) (X.Le a' b') =
    of_width (width_in g a) (λ n. pair at a b (Signed n) a' b')
expression_row g at (Eq k) (X.Eq a b) (AsIs o) (X.Eq a' b') = asks (Unit {0}) (pair at a b (view_for k) a' b')
expression_row g at Zext (X.Cast X.Zext m e) (Unsigned k) a =
    of_width (width_in g e) (λ n. expression at e (Unsigned n) a ∷ [])
expression_row g at Zext (X.Cast X.Zext m e) (Signed k) a =
    of_width (width_in g e) (λ n. expression at e (Unsigned n) a ∷ [])
expression_row g at Sext (X.Cast X.Sext m e) (Signed k) a =
    of_width (width_in g e) (λ n. expression at e (Signed n) a ∷ [])
expression_row g at Logic (X.And a b) (AsIs o) (X.And a' b') =
    asks (Unit {0}) (expression at a truth a' ∷ expression (knowing (Whole a') at) b truth b' ∷ [])
expression_row g at Logic (X.Or a b) (AsIs o) (X.Or a' b') =
    asks (Unit {0}) (expression at a truth a' ∷ expression (knowing (NotTrue a') at) b truth b' ∷ [])
expression_row g at Logic (X.Imp a b) (AsIs o) (X.Imp a' b') =
    asks (Unit {0}) (expression at a truth a' ∷ expression (knowing (Whole a') at) b truth b' ∷ [])
expression_row g at Logic (X.Not a) (AsIs o) (X.Not a') = asks (Unit {0}) (expression at a truth a' ∷ [])
expression_row g at Cond (X.If c a b) v (X.If c' a' b') =
    asks (Unit {0})
    (expression at c truth c' ∷ expression (knowing (Whole c') at) a v a' ∷ expression (knowing (NotTrue c') at) b v b' ∷ [])
expression_row g at Op e (AsIs o) a =
    asks ((is_operator e ≡ true) × (head a ≡ head e)) (each at (children e) (owns g (children e)) (children a))
expression_row _ _ _ _ _ _ = no_row

-- a value that is bound at one kind, at another kind of the same words
abbrev pub recast : Kind → Kind → Exp → Option Exp
recast (WordKind n) (WordKind m) e = if m == n then Some e else None
recast (NatKind n) (NatKind m) e = if m == n then Some e else None
recast (IntKind n) (IntKind m) e = if m == n then Some e else None
recast BoolKind BoolKind e = Some e
recast (WordKind n) (NatKind m) e = if m == n then Some (X.ToNat e) else None
recast (WordKind n) (IntKind m) e = if m == n then Some (X.ToInt e) else None
recast (NatKind n) (WordKind m) e = if m == n then Some (X.ToWord m e) else None
recast (IntKind n) (WordKind m) e = if m == n then Some (X.ToWord m e) else None
recast _ _ e = None

abbrev pub recast_first : Option Exp → Option (List Exp) → Option (List Exp)
recast_first (Some e) (Some es) = Some (e ∷ es)
recast_first _ _ = None

abbrev pub recasts : List Kind → List Kind → List Name → Option (List Exp)
recasts [] [] [] = Some []
recasts (j ∷ js) (k ∷ ks) (y ∷ ys) = recast_first (recast j k (X.Var y)) (recasts js ks ys)
recasts _ _ _ = None

-- a call of a function of the unit, whose arguments and result are at its kinds
abbrev pub call_row : Option Signature → Point → List Exp → List Exp → List Kind → Row Claim
call_row None at es es' ks = no_row
call_row (Some f) at es es' ks =
    asks ((ks ≡ result_as_list f.result) × AreMatched es (kinds_of f.params) es')
    (each at es (views_for (kinds_of f.params)) es')

-- a place and what is written there, all words as they are
abbrev pub write_row : Scope → Point → M.Place → Exp → M.Place → Exp → Row Claim
write_row g at p e p' e' =
    let es = place_children p ++ (e ∷ []) in
    asks (place_head p' ≡ place_head p) (each at es (owns g es) (place_children p' ++ (e' ∷ [])))

abbrev pub program_row : Context → Point → Rule → Mon → Mon → List Kind → Row Claim
program_row ctx at Ret (M.Ret es) (M.Ret es') ks = asks (AreMatched es ks es') (each at es (views_for ks) es')
program_row ctx at Guard (M.Guard e) (M.Guard e') [] = asks (Unit {0}) (expression at e truth e' ∷ [])
program_row ctx at If (M.If e m n) (M.If e' m' n') ks =
    asks (Unit {0}) (expression at e truth e' ∷ program (knowing (Whole e') at) m m' ks ∷ program
    (knowing (NotTrue e') at) n n' ks ∷ [])
program_row ctx at Global (M.Write (M.Global x path) e) (M.Write p' e') [] =
    write_row (words ctx at.names).scope at (M.Global x path) e p' e'
program_row ctx at Write (M.Write (M.Stored t p path) e) (M.Write p' e') [] =
    write_row (words ctx at.names).scope at (M.Stored t p path) e p' e'
program_row ctx at Write (M.Write (M.Written t p path) e) (M.Write p' e') [] =
    write_row (words ctx at.names).scope at (M.Written t p path) e p' e'
program_row ctx at Pick (M.Pick k) (M.Pick k') ks = asks ((k' ≡ k) × (ks ≡ k ∷ []) × (sort_of_kind k ≡ word_sort_of k)) []
program_row ctx at PickNat (M.Pick (WordKind n)) (M.Pick k') ks = asks ((k' ≡ NatKind n) × (ks ≡ NatKind n ∷ [])) []
program_row ctx at PickInt (M.Pick (WordKind n)) (M.Pick k') ks = asks ((k' ≡ IntKind n) × (ks ≡ IntKind n ∷ [])) []
program_row ctx at (Bind js) (M.Bind m xs n) (M.Bind m' xs' n') ks =
    asks (xs' ≡ xs)
    (program at m m' js ∷ program (record { facts = facts_after m' xs at.facts; names = with_kinds xs js at.names }) n
    n' ks ∷ [])
program_row ctx at (Loop js) (M.Loop starts guard test m) (M.Loop starts' guard' test' m') ks =
    let xs = start_names starts in
    let names = with_kinds xs js at.names in
    asks ((start_names starts' ≡ xs) × (ks ≡ js) × AreMatched (start_exps starts) js (start_exps starts'))
    (each at (start_exps starts) (views_for js) (start_exps starts')
    ++ (expression (record { facts = []; names = names }) guard truth guard'
    ∷ expression (record { facts = Whole guard' ∷ []; names = names }) test truth test'
    ∷ program (record { facts = Whole test' ∷ Whole guard' ∷ []; names = names }) m m' js ∷ []))
program_row ctx at Call (M.Call f es) (M.Call g es') ks =
    let r = call_row (signature ctx.functions f) at es es' ks in asks ((g ≡ f) × r.holds) r.parts
program_row ctx at (Recast js) m (M.Bind m' ys (M.Ret es)) ks =
    asks ((recasts js ks ys ≡ Some es) × (are_distinct ys ≡ true)) (program at m m' js ∷ [])
program_row _ _ _ _ _ _ = no_row

-- and what is seen at a kind has the sort of it
abbrev pub table : Context → Table Rule Claim
table ctx rule (expression at e v a) =
    let g = (words ctx at.names).scope in
    let r = expression_row g at rule e v a in asks ((sort_of g e ≡ sort_seen v) × r.holds) r.parts
table ctx rule (program at m m' ks) = program_row ctx at rule m m' ks

-- the rules of the tree take the left side to the right side, which gives the values at these kinds; no fact is known before
abbrev pub Takes : Context → List Binder → Tree Rule → Mon → Mon → List Kind → Type 0
Takes ctx names t left right ks = Accepts (table ctx) t (program (record { facts = []; names = names }) left right ks)
