-- The table of the rules that lift locals: a command on locals becomes a program that binds what the locals hold, and gives what
-- the command leaves in the locals that are looked at afterwards, its outputs. One clause for each row: the rule, the left side,
-- the right side, and then what is asked and the claims of the parts. The names that a sequence or a loop hands on are any,
-- in any order, among which is all that its part assigns and that is looked at afterwards; they are distinct in every well-sorted
-- program.
use Rattle.std.specs.Prelude.{◌≡◌, Bool, true, false, ◌||◌, List, [], ◌∷◌, Option, Some, None, if◌then◌else◌}
use Rattle.c_values.specs.Name.{Name, same_name, is_among}
use Rattle.expression_lang.specs.Expression.{Exp, Var, WordLit, TruthLit, And}
use Rattle.expression_lang.specs.Mentions.{names}
use Rattle.expression_lang.specs.Sort.{Kind, WordKind, NatKind, IntKind, BoolKind}
use Rattle.expression_lang.specs.Signature.{Binder}
use Rattle.simpl_lang.specs.Command as C
use Rattle.simpl_lang.specs.Command.{kind_of}
use Rattle.monad_lang.specs.Program as M
use Rattle.monad_lang.specs.Names.{is_free}
use Rattle.monad_lang.specs.Reach.{IfTrue}
use Rattle.rule_trees.specs.RuleTree.{Row, asks, no_row, Table, Tree, Accepts}
use Rattle.rule_local.specs.Assigned.{Carries}
use Rattle.rule_local.specs.Rule.{Rule, Skip, Set, Dead, Global, Memory, Pick, Seq, Cond, Guard, While, Call, Void, Start, Context, Claim, ◌to◌giving◌, whole}

abbrev pub vars : List Name → List Exp
vars [] = []
vars (x ∷ xs) = Var x ∷ vars xs

-- the same with an expression for one of them
abbrev pub vars_with : Name → Exp → List Name → List Exp
vars_with x e [] = []
vars_with x e (y ∷ ys) = (if same_name x y then e else Var y) ∷ vars_with x e ys

-- each name begins with what it holds
abbrev pub as_starts : List Name → List M.Start
as_starts [] = []
as_starts (x ∷ xs) = record { name = x; exp = Var x } ∷ as_starts xs

-- conditions as one, nested to the right
abbrev pub conj : List C.Condition → Exp
conj [] = TruthLit true
conj (c ∷ []) = c.exp
conj (c ∷ d ∷ cs) = And c.exp (conj (d ∷ cs))

-- a local holds a word or a truth value, whatever the word's kind says of it
abbrev pub word_kind : Kind → Kind
word_kind (WordKind n) = WordKind n
word_kind (NatKind n) = WordKind n
word_kind (IntKind n) = WordKind n
word_kind BoolKind = BoolKind

abbrev pub picked_kind : Option Kind → Option Kind
picked_kind None = None
picked_kind (Some k) = Some (word_kind k)

abbrev pub zero_exp : Kind → Exp
zero_exp (WordKind n) = WordLit (record { width = n; bits = 0 })
zero_exp (NatKind n) = WordLit (record { width = n; bits = 0 })
zero_exp (IntKind n) = WordLit (record { width = n; bits = 0 })
zero_exp BoolKind = TruthLit false

abbrev pub zero_first : Option Kind → Option (List Exp) → Option (List Exp)
zero_first (Some k) (Some es) = Some (zero_exp k ∷ es)
zero_first _ _ = None

-- the zeros of locals
abbrev pub zeros : List Binder → List Name → Option (List Exp)
zeros bs [] = Some []
zeros bs (x ∷ xs) = zero_first (kind_of bs x) (zeros bs xs)

-- what a loop looks at again: in its guard, its test and its body, or afterwards
abbrev pub is_needed : Exp → Exp → M.Mon → List Name → Name → Bool
is_needed guard test m vs y = (names y guard || names y test || is_free y m) || is_among y vs

abbrev pub AreNone : List Name → List Name → Type 0
AreNone xs ps = (y : Name) → is_among y xs ≡ true → is_among y ps ≡ false

abbrev pub AllFreeAmong : List Name → M.Mon → Type 0
AllFreeAmong ps m = (y : Name) → is_free y m ≡ true → is_among y ps ≡ true

abbrev pub row : Context → Bool → List Name → Rule → C.Simpl → M.Mon → Row Claim
row ctx at_root vs Skip C.Skip (M.Ret es) = asks (es ≡ vars vs) []
row ctx at_root vs Set (C.Set x e) (M.Ret es) = asks ((is_among x vs ≡ true) × (es ≡ vars_with x e vs)) []
row ctx at_root vs Dead (C.Set x e) (M.Ret es) = asks ((is_among x vs ≡ false) × (es ≡ vars vs)) []
row ctx at_root vs Global (C.SetGlobal x path e) (M.Bind (M.Write place e') [] (M.Ret es)) = asks ((place ≡ M.Global x path) × (e' ≡ e) × (es ≡ vars vs)) []
row ctx at_root vs Memory (C.Store t p path e) (M.Bind (M.Write place e') [] (M.Ret es)) = asks ((place ≡ M.Stored t p path) × (e' ≡ e) × (es ≡ vars vs)) []
row ctx at_root vs Pick (C.Pick x) (M.Bind (M.Pick k) (y ∷ []) (M.Ret es)) = asks ((picked_kind (kind_of ctx.locals x) ≡ Some k) × (y ≡ x) × (es ≡ vars vs)) []
row ctx at_root vs Seq (C.Seq a b) (M.Bind a' us b') = asks (Carries us a (λ y. is_free y b')) (a to a' giving us ∷ b to b' giving vs ∷ [])
row ctx at_root vs Cond (C.Cond e a b) (M.If e' a' b') = asks (e' ≡ e) (a to a' giving vs ∷ b to b' giving vs ∷ [])
row ctx at_root vs Guard (C.Guard g a) (M.Bind (M.Guard e) [] a') = asks (e ≡ g.exp) (a to a' giving vs ∷ [])
row ctx at_root vs While (C.While gs e a) (M.Bind (M.Loop starts guard e' a') us (M.Ret es)) =
    asks ((starts ≡ as_starts us) × (guard ≡ conj gs) × (e' ≡ e) × (es ≡ vars vs) × Carries us a (is_needed guard e' a' vs)) (a to a' giving us ∷ [])
row ctx at_root vs Call (C.Call (Some x) f es) (M.Bind (M.Call g es') (y ∷ []) (M.Ret os)) = asks ((g ≡ f) × (es' ≡ es) × (y ≡ x) × (os ≡ vars vs)) []
row ctx at_root vs Void (C.Call None f es) (M.Bind (M.Call g es') [] (M.Ret os)) = asks ((g ≡ f) × (es' ≡ es) × (os ≡ vars vs)) []
row ctx at_root vs Start d (M.Bind (M.Ret zs) xs d') = asks ((at_root ≡ true) × (zeros ctx.locals xs ≡ Some zs) × AreNone xs ctx.parameters) (d to d' giving vs ∷ [])
row _ _ _ _ _ _ = no_row

-- and the free names of a whole function's program are parameters
abbrev pub table : Context → Table Rule Claim
table ctx rule c = let r = row ctx c.is_whole c.outputs rule c.left c.right in asks (r.holds × IfTrue c.is_whole (AllFreeAmong ctx.parameters c.right)) r.parts

-- the rules of the tree take the left side to the right side, which gives the outputs
abbrev pub Takes : Context → Tree Rule → C.Simpl → M.Mon → List Name → Type 0
Takes ctx t left right vs = Accepts (table ctx) t (left to right giving vs)

abbrev pub TakesWhole : Context → Tree Rule → C.Simpl → M.Mon → List Name → Type 0
TakesWhole ctx t left right vs = Accepts (table ctx) t (whole left right vs)
