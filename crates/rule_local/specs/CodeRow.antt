-- The rows of the table by what is asked of the parts of the two sides, and by where the claims of their parts stand.
use Rattle.std.specs.Prelude.{◌≡◌, ℕ, zero, suc, Bool, true, false, List, [], ◌∷◌, Option, Some, None}
use Rattle.c_values.specs.Name.{Name, is_among}
use Rattle.expression_lang.specs.Expression.{Exp}
use Rattle.expression_lang.specs.Sort.{Kind}
use Rattle.simpl_lang.specs.Command as C
use Rattle.simpl_lang.specs.Command.{kind_of}
use Rattle.monad_lang.specs.Program as M
use Rattle.monad_lang.specs.Names.{is_free}
use Rattle.rule_trees.specs.RuleTree.{Table, asks}
use Rattle.rule_local.specs.declared.rule.Parts as P
use Rattle.rule_local.specs.declared.rule.Asks as A
use Rattle.rule_local.specs.Assigned.{Carries}
use Rattle.rule_local.specs.Rule.{Rule, Skip, Set, Dead, Global, Memory, Pick, Seq, Cond, Guard, While, Call, Void, Start, Context, Claim}
use Rattle.rule_local.specs.Table.{vars, vars_with, as_starts, conj, picked_kind, zero_exp, zeros, is_needed, AreNone, table}

abbrev pub arity : Rule → ℕ
arity Skip = 0
arity Set = 0
arity Dead = 0
arity Global = 0
arity Memory = 0
arity Pick = 0
arity Seq = 2
arity Cond = 2
arity Guard = 1
arity While = 1
arity Call = 0
arity Void = 0
arity Start = 1

abbrev pub parts_of : P.Parts → ℕ
parts_of P.TheVariants.None = 0
parts_of P.TheVariants.One = 1
parts_of P.TheVariants.Two = 2

abbrev pub has_parts : M.Mon → Bool
has_parts (M.Bind m xs n) = true
has_parts (M.If e m n) = true
has_parts (M.Loop starts guard test m) = true
has_parts _ = false

-- the first part of a program, and the last; of one without parts the program itself
abbrev pub first_of : M.Mon → M.Mon
first_of (M.Bind m xs n) = m
first_of (M.If e m n) = m
first_of (M.Loop starts guard test m) = m
first_of m = m

abbrev pub last_of : M.Mon → M.Mon
last_of (M.Bind m xs n) = n
last_of (M.If e m n) = n
last_of (M.Loop starts guard test m) = m
last_of m = m

-- the same of a command
abbrev pub first_command : C.Simpl → C.Simpl
first_command (C.Seq a b) = a
first_command (C.Cond e a b) = a
first_command (C.Guard g a) = a
first_command (C.While gs e a) = a
first_command a = a

abbrev pub last_command : C.Simpl → C.Simpl
last_command (C.Seq a b) = b
last_command (C.Cond e a b) = b
last_command a = a

-- where the first part stands in the two sides, and what it gives
abbrev pub first_left : Rule → C.Simpl → C.Simpl
first_left Start a = a
first_left _ a = first_command a

abbrev pub first_right : Rule → M.Mon → M.Mon
first_right Seq m = first_of m
first_right Cond m = first_of m
first_right While m = last_of (first_of m)
first_right _ m = last_of m

abbrev pub bound_names : M.Mon → List Name → List Name
bound_names (M.Bind m xs n) vs = xs
bound_names m vs = vs

abbrev pub first_outputs : Rule → M.Mon → List Name → List Name
first_outputs Seq m vs = bound_names m vs
first_outputs While m vs = bound_names m vs
first_outputs _ m vs = vs

abbrev pub claim : C.Simpl → M.Mon → List Name → Bool → Claim
claim a m vs at_root = record { left = a; right = m; outputs = vs; is_whole = at_root }

abbrev pub first_claim : Rule → Claim → Claim
first_claim rule c = claim (first_left rule c.left) (first_right rule c.right) (first_outputs rule c.right c.outputs) false

abbrev pub last_claim : Claim → Claim
last_claim c = claim (last_command c.left) (last_of c.right) c.outputs false

abbrev pub claims : ℕ → Rule → Claim → List Claim
claims zero rule c = []
claims (suc zero) rule c = first_claim rule c ∷ []
claims (suc (suc n)) rule c = first_claim rule c ∷ last_claim c ∷ []

-- the zero of a kind, where there is one
abbrev pub IsZeroOf : Option Kind → Exp → Type 0
IsZeroOf (Some k) e = e ≡ zero_exp k
IsZeroOf None e = ⊥

abbrev pub IsSkip : List Name → C.Simpl → M.Mon → Type 0
IsSkip vs C.Skip m = m ≡ M.Ret (vars vs)
IsSkip vs _ m = ⊥

abbrev pub IsSet : List Name → C.Simpl → M.Mon → Type 0
IsSet vs (C.Set x e) m = (is_among x vs ≡ true) × (m ≡ M.Ret (vars_with x e vs))
IsSet vs _ m = ⊥

abbrev pub IsDead : List Name → C.Simpl → M.Mon → Type 0
IsDead vs (C.Set x e) m = (is_among x vs ≡ false) × (m ≡ M.Ret (vars vs))
IsDead vs _ m = ⊥

-- the first program, its values under these names, and then the outputs
abbrev pub IsStep : (M.Mon → Type 0) → List Name → List Name → M.Mon → Type 0
IsStep first xs vs (M.Bind m ys n) = first m × (ys ≡ xs) × (n ≡ M.Ret (vars vs))
IsStep first xs vs _ = ⊥

abbrev pub IsGlobal : List Name → C.Simpl → M.Mon → Type 0
IsGlobal vs (C.SetGlobal x path e) m = IsStep (λ first. first ≡ M.Write (M.Global x path) e) [] vs m
IsGlobal vs _ m = ⊥

abbrev pub IsMemory : List Name → C.Simpl → M.Mon → Type 0
IsMemory vs (C.Store t p path e) m = IsStep (λ first. first ≡ M.Write (M.Stored t p path) e) [] vs m
IsMemory vs _ m = ⊥

abbrev pub IsPickOf : Option Kind → M.Mon → Type 0
IsPickOf picked (M.Pick k) = picked ≡ Some k
IsPickOf picked _ = ⊥

abbrev pub IsPick : Context → List Name → C.Simpl → M.Mon → Type 0
IsPick ctx vs (C.Pick x) m = IsStep (IsPickOf (picked_kind (kind_of ctx.locals x))) (x ∷ []) vs m
IsPick ctx vs _ m = ⊥

abbrev pub IsSeq : C.Simpl → M.Mon → Type 0
IsSeq (C.Seq a b) (M.Bind m us n) = Unit {0}
IsSeq _ _ = ⊥

abbrev pub IsCond : C.Simpl → M.Mon → Type 0
IsCond (C.Cond e a b) (M.If e' m n) = e' ≡ e
IsCond _ _ = ⊥

abbrev pub IsGuard : C.Simpl → M.Mon → Type 0
IsGuard (C.Guard g a) (M.Bind m xs n) = (m ≡ M.Guard g.exp) × (xs ≡ [])
IsGuard _ _ = ⊥

abbrev pub IsLoop : List Name → List C.Condition → Exp → M.Mon → Type 0
IsLoop us gs e (M.Loop starts guard e' m) = (starts ≡ as_starts us) × (guard ≡ conj gs) × (e' ≡ e)
IsLoop us gs e _ = ⊥

abbrev pub IsWhile : List Name → C.Simpl → M.Mon → Type 0
IsWhile vs (C.While gs e a) (M.Bind m us n) = IsLoop us gs e m × (n ≡ M.Ret (vars vs))
IsWhile vs _ _ = ⊥

abbrev pub IsCall : List Name → C.Simpl → M.Mon → Type 0
IsCall vs (C.Call (Some x) f es) m = IsStep (λ first. first ≡ M.Call f es) (x ∷ []) vs m
IsCall vs _ m = ⊥

abbrev pub IsVoid : List Name → C.Simpl → M.Mon → Type 0
IsVoid vs (C.Call None f es) m = IsStep (λ first. first ≡ M.Call f es) [] vs m
IsVoid vs _ m = ⊥

abbrev pub GivesZeros : Context → List Name → M.Mon → Type 0
GivesZeros ctx xs (M.Ret zs) = zeros ctx.locals xs ≡ Some zs
GivesZeros ctx xs _ = ⊥

abbrev pub IsStart : Context → Bool → M.Mon → Type 0
IsStart ctx at_root (M.Bind m xs n) = (at_root ≡ true) × GivesZeros ctx xs m × AreNone xs ctx.parameters
IsStart ctx at_root _ = ⊥

-- what a rule asks of the two sides, but for the names that the first part hands on
abbrev pub Fits : Context → Bool → List Name → Rule → C.Simpl → M.Mon → Type 0
Fits ctx at_root vs Skip a m = IsSkip vs a m
Fits ctx at_root vs Set a m = IsSet vs a m
Fits ctx at_root vs Dead a m = IsDead vs a m
Fits ctx at_root vs Global a m = IsGlobal vs a m
Fits ctx at_root vs Memory a m = IsMemory vs a m
Fits ctx at_root vs Pick a m = IsPick ctx vs a m
Fits ctx at_root vs Seq a m = IsSeq a m
Fits ctx at_root vs Cond a m = IsCond a m
Fits ctx at_root vs Guard a m = IsGuard a m
Fits ctx at_root vs While a m = IsWhile vs a m
Fits ctx at_root vs Call a m = IsCall vs a m
Fits ctx at_root vs Void a m = IsVoid vs a m
Fits ctx at_root vs Start a m = IsStart ctx at_root m

-- among the names that the first part hands on is all that it assigns and that is looked at afterwards
abbrev pub CarriesInTurns : List Name → C.Simpl → List Name → M.Mon → Type 0
CarriesInTurns us a vs (M.Loop starts guard e' m) = Carries us a (is_needed guard e' m vs)
CarriesInTurns us a vs m = Unit {0}

abbrev pub HandsOn : List Name → Rule → C.Simpl → M.Mon → Type 0
HandsOn vs Seq (C.Seq a b) (M.Bind m us n) = Carries us a (λ y. is_free y n)
HandsOn vs While (C.While gs e a) (M.Bind m us n) = CarriesInTurns us a vs m
HandsOn vs rule a m = Unit {0}

-- what a rule asks
abbrev pub Asked : Context → Bool → List Name → Rule → C.Simpl → M.Mon → Type 0
Asked ctx at_root vs rule a m = Fits ctx at_root vs rule a m × HandsOn vs rule a m

-- the table without the names that are handed on, and without those that are free
abbrev pub forms : Context → Table Rule Claim
forms ctx rule c = asks (Fits ctx c.is_whole c.outputs rule c.left c.right) (claims (arity rule) rule c)

-- the table that is asked
abbrev pub table_of : A.Asks → Context → Table Rule Claim
table_of A.TheVariants.All ctx = table ctx
table_of A.TheVariants.Forms ctx = forms ctx
