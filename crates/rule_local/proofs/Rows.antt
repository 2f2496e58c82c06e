-- What is asked of the parts of two sides is what the table's row asks, and the row's claims are those of the parts.
use Rattle.std.proofs.Common.{◌≡◌, ℕ, suc, Bool, true, List, [], ◌∷◌, Some, None, refl, sym, subst, ap, ap₂}
use Rattle.c_values.specs.Name.{Name}
use Rattle.expression_lang.specs.Expression.{Exp}
use Rattle.simpl_lang.specs.Command as C
use Rattle.simpl_lang.specs.Command.{Simpl}
use Rattle.monad_lang.specs.Program as M
use Rattle.monad_lang.specs.Program.{Mon}
use Rattle.rule_local.specs.Rule.{Rule, Skip, Set, Dead, Global, Memory, Pick, Seq, Cond, Guard, While, Call, Void, Start, Context}
use Rattle.rule_local.specs.Table.{vars, row}
use Rattle.rule_local.specs.CodeRow.{arity, has_parts, claims, claim, Fits, HandsOn, Asked}

abbrev Holds : Context → Bool → List Name → Rule → Simpl → Mon → Type 0
Holds ctx w vs rule a m = (row ctx w vs rule a m).holds

-- what the row asks is what is asked of the parts: of the form of the two sides, and of the names that are handed on
pub fits_of : (ctx : Context) (w : Bool) (vs : List Name) (rule : Rule) (a : Simpl) (m : Mon) → Holds ctx w vs rule a m → Fits ctx w vs rule a m
fits_of ctx w vs Skip C.Skip (M.Ret es) h = ap (λ x. M.Ret x) h
fits_of ctx w vs Set (C.Set x e) (M.Ret es) h = (h.0, ap (λ x. M.Ret x) h.1)
fits_of ctx w vs Dead (C.Set x e) (M.Ret es) h = (h.0, ap (λ x. M.Ret x) h.1)
fits_of ctx w vs Global (C.SetGlobal x path e) (M.Bind (M.Write place e') [] (M.Ret es)) h = (ap₂ (λ p v. M.Write p v) h.0 h.1, refl, ap (λ x. M.Ret x) h.2)
fits_of ctx w vs Memory (C.Store t p path e) (M.Bind (M.Write place e') [] (M.Ret es)) h = (ap₂ (λ p v. M.Write p v) h.0 h.1, refl, ap (λ x. M.Ret x) h.2)
fits_of ctx w vs Pick (C.Pick x) (M.Bind (M.Pick k) (y ∷ []) (M.Ret es)) h = (h.0, ap (λ z. z ∷ []) h.1, ap (λ x. M.Ret x) h.2)
fits_of ctx w vs Seq (C.Seq a b) (M.Bind m us n) h = tt
fits_of ctx w vs Cond (C.Cond e a b) (M.If e' m n) h = h
fits_of ctx w vs Guard (C.Guard g a) (M.Bind (M.Guard e) [] m) h = (ap (λ x. M.Guard x) h, refl)
fits_of ctx w vs While (C.While gs e a) (M.Bind (M.Loop starts guard e' m) us (M.Ret es)) h = ((h.0, h.1, h.2), ap (λ x. M.Ret x) h.3)
fits_of ctx w vs Call (C.Call (Some x) f es) (M.Bind (M.Call g es') (y ∷ []) (M.Ret os)) h = (ap₂ (λ p v. M.Call p v) h.0 h.1, ap (λ z. z ∷ []) h.2, ap (λ x. M.Ret x) h.3)
fits_of ctx w vs Void (C.Call None f es) (M.Bind (M.Call g es') [] (M.Ret os)) h = (ap₂ (λ p v. M.Call p v) h.0 h.1, refl, ap (λ x. M.Ret x) h.2)
fits_of ctx w vs Start a (M.Bind (M.Ret zs) xs m) h = h
fits_of ctx w vs rule a m h = absurd h

hands_of : (ctx : Context) (w : Bool) (vs : List Name) (rule : Rule) (a : Simpl) (m : Mon) → Holds ctx w vs rule a m → HandsOn vs rule a m
hands_of ctx w vs Seq (C.Seq a b) (M.Bind m us n) h = h
hands_of ctx w vs While (C.While gs e a) (M.Bind (M.Loop starts guard e' m) us (M.Ret es)) h = h.4
hands_of ctx w vs Seq a m h = absurd h
hands_of ctx w vs While a m h = absurd h
hands_of ctx w vs rule a m h = tt

pub asked_of : (ctx : Context) (w : Bool) (vs : List Name) (rule : Rule) (a : Simpl) (m : Mon) → Holds ctx w vs rule a m → Asked ctx w vs rule a m
asked_of ctx w vs rule a m h = (fits_of ctx w vs rule a m h, hands_of ctx w vs rule a m h)

-- the other way round
step_from : (P : Mon → Mon → List Name → Type 0) (m n first : Mon) (xs ys : List Name) (es : List Exp) → m ≡ first → ys ≡ xs → n ≡ M.Ret es → P first (M.Ret es) xs → P m n ys
step_from P m n first xs ys es h j k p = subst (λ z. P m n z) (sym j) (subst (λ z. P m z xs) (sym k) (subst (λ z. P z (M.Ret es) xs) (sym h) p))

pub row_of : (ctx : Context) (w : Bool) (vs : List Name) (rule : Rule) (a : Simpl) (m : Mon) → Fits ctx w vs rule a m → HandsOn vs rule a m → Holds ctx w vs rule a m
row_of ctx w vs Skip C.Skip m h hands = subst (λ z. Holds ctx w vs Skip C.Skip z) (sym h) refl
row_of ctx w vs Set (C.Set x e) m h hands = subst (λ z. Holds ctx w vs Set (C.Set x e) z) (sym h.1) (h.0, refl)
row_of ctx w vs Dead (C.Set x e) m h hands = subst (λ z. Holds ctx w vs Dead (C.Set x e) z) (sym h.1) (h.0, refl)
row_of ctx w vs Global (C.SetGlobal x path e) (M.Bind m ys n) h hands =
    step_from (λ m n ys. Holds ctx w vs Global (C.SetGlobal x path e) (M.Bind m ys n)) m n (M.Write (M.Global x path) e) [] ys (vars vs) h.0 h.1 h.2 (refl, refl, refl)
row_of ctx w vs Memory (C.Store t p path e) (M.Bind m ys n) h hands =
    step_from (λ m n ys. Holds ctx w vs Memory (C.Store t p path e) (M.Bind m ys n)) m n (M.Write (M.Stored t p path) e) [] ys (vars vs) h.0 h.1 h.2 (refl, refl, refl)
row_of ctx w vs Pick (C.Pick x) (M.Bind (M.Pick k) ys n) h hands =
    step_from (λ m n ys. Holds ctx w vs Pick (C.Pick x) (M.Bind m ys n)) (M.Pick k) n (M.Pick k) (x ∷ []) ys (vars vs) refl h.1 h.2 (h.0, refl, refl)
row_of ctx w vs Seq (C.Seq a b) (M.Bind m us n) h hands = hands
row_of ctx w vs Cond (C.Cond e a b) (M.If e' m n) h hands = h
row_of ctx w vs Guard (C.Guard g a) (M.Bind m xs n) h hands =
    subst (λ z. Holds ctx w vs Guard (C.Guard g a) (M.Bind m z n)) (sym h.1) (subst (λ z. Holds ctx w vs Guard (C.Guard g a) (M.Bind z [] n)) (sym h.0) refl)
row_of ctx w vs While (C.While gs e a) (M.Bind (M.Loop starts guard e' m) us n) h hands =
    subst (λ z. Holds ctx w vs While (C.While gs e a) (M.Bind (M.Loop starts guard e' m) us z)) (sym h.1) (h.0.0, h.0.1, h.0.2, refl, hands)
row_of ctx w vs Call (C.Call (Some x) f es) (M.Bind m ys n) h hands =
    step_from (λ m n ys. Holds ctx w vs Call (C.Call (Some x) f es) (M.Bind m ys n)) m n (M.Call f es) (x ∷ []) ys (vars vs) h.0 h.1 h.2 (refl, refl, refl, refl)
row_of ctx w vs Void (C.Call None f es) (M.Bind m ys n) h hands =
    step_from (λ m n ys. Holds ctx w vs Void (C.Call None f es) (M.Bind m ys n)) m n (M.Call f es) [] ys (vars vs) h.0 h.1 h.2 (refl, refl, refl)
row_of ctx w vs Start a (M.Bind (M.Ret zs) xs m) h hands = h
row_of ctx w vs Pick (C.Pick x) (M.Bind m ys n) h hands = absurd h.0
row_of ctx w vs While (C.While gs e a) (M.Bind m us n) h hands = absurd h.0
row_of ctx w vs Start a (M.Bind m xs n) h hands = absurd h.1
row_of ctx w vs rule a m h hands = absurd h

-- an instance leaves what its rule's number of parts says
pub parts_are_claims : (ctx : Context) (w : Bool) (vs : List Name) (rule : Rule) (a : Simpl) (m : Mon) → Holds ctx w vs rule a m → (row ctx w vs rule a m).parts ≡ claims (arity rule) rule (claim a m vs w)
parts_are_claims ctx w vs Skip C.Skip (M.Ret es) h = refl
parts_are_claims ctx w vs Set (C.Set x e) (M.Ret es) h = refl
parts_are_claims ctx w vs Dead (C.Set x e) (M.Ret es) h = refl
parts_are_claims ctx w vs Global (C.SetGlobal x path e) (M.Bind (M.Write place e') [] (M.Ret es)) h = refl
parts_are_claims ctx w vs Memory (C.Store t p path e) (M.Bind (M.Write place e') [] (M.Ret es)) h = refl
parts_are_claims ctx w vs Pick (C.Pick x) (M.Bind (M.Pick k) (y ∷ []) (M.Ret es)) h = refl
parts_are_claims ctx w vs Seq (C.Seq a b) (M.Bind m us n) h = refl
parts_are_claims ctx w vs Cond (C.Cond e a b) (M.If e' m n) h = refl
parts_are_claims ctx w vs Guard (C.Guard g a) (M.Bind (M.Guard e) [] m) h = refl
parts_are_claims ctx w vs While (C.While gs e a) (M.Bind (M.Loop starts guard e' m) us (M.Ret es)) h = refl
parts_are_claims ctx w vs Call (C.Call (Some x) f es) (M.Bind (M.Call g es') (y ∷ []) (M.Ret os)) h = refl
parts_are_claims ctx w vs Void (C.Call None f es) (M.Bind (M.Call g es') [] (M.Ret os)) h = refl
parts_are_claims ctx w vs Start a (M.Bind (M.Ret zs) xs m) h = refl
parts_are_claims ctx w vs rule a m h = absurd h

pub some_parts : (ctx : Context) (w : Bool) (vs : List Name) (rule : Rule) (a : Simpl) (m : Mon) (n : ℕ) → Fits ctx w vs rule a m → arity rule ≡ suc n → has_parts m ≡ true
some_parts ctx w vs Seq (C.Seq a b) (M.Bind m us n') n h e = refl
some_parts ctx w vs Cond (C.Cond e' a b) (M.If e'' m n') n h e = refl
some_parts ctx w vs Guard (C.Guard g a) (M.Bind m xs n') n h e = refl
some_parts ctx w vs While (C.While gs e' a) (M.Bind m us n') n h e = refl
some_parts ctx w vs Start a (M.Bind m xs n') n h e = refl
some_parts ctx w vs Skip a m n h e = cc
some_parts ctx w vs Set a m n h e = cc
some_parts ctx w vs Dead a m n h e = cc
some_parts ctx w vs Global a m n h e = cc
some_parts ctx w vs Memory a m n h e = cc
some_parts ctx w vs Pick a m n h e = cc
some_parts ctx w vs Call a m n h e = cc
some_parts ctx w vs Void a m n h e = cc
some_parts ctx w vs rule a m n h e = absurd h
