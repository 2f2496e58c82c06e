-- What becomes of a name in parts that are passed one by one is what becomes of it in the whole.
use Rattle.std.proofs.Common.{◌≡◌, Bool, true, false, not, ◌&&◌, ◌||◌, List, refl, sym, ap, ap₂, ◌∙◌}
use Rattle.std.proofs.Math.Bool.{or-false, or-true}
use Rattle.c_values.specs.Name.{Name, is_among}
use Rattle.expression_lang.specs.Expression.{Exp}
use Rattle.expression_lang.specs.Mentions.{names}
use Rattle.simpl_lang.specs.Command as C
use Rattle.simpl_lang.specs.Command.{Simpl}
use Rattle.monad_lang.specs.Program as M
use Rattle.monad_lang.specs.Program.{Mon}
use Rattle.monad_lang.specs.Run.{start_names}
use Rattle.monad_lang.specs.Names.{is_in_start, is_free}
use Rattle.rule_local.specs.CodeUses.{Uses, uses, only_free, under, Passed, ended, beside, after, looped}

-- with the values of its parts
abbrev made : Bool → Bool → Bool → Uses
made l a f = record { lost = l; assigned = a; free = f }

same_made : (l l' a a' f f' : Bool) → l ≡ l' → a ≡ a' → f ≡ f' → made l a f ≡ made l' a' f'
same_made l l' a a' f f' e g h = cc

pub either : (a b c : Bool) → ((a || b) || c) ≡ (a || (b || c))
either true b c = refl
either false b c = refl

lost_beside : (l pl r d pf rf : Bool) → ((l || pl || (d && pf)) || r || (d && rf)) ≡ (l || (pl || r) || (d && (pf || rf)))
lost_beside false false true true true rf = refl
lost_beside false false r true false rf = refl
lost_beside _ _ _ _ _ _ = refl

free_beside : (f hidden pf rf : Bool) → ((f || (not hidden && pf)) || (not hidden && rf)) ≡ (f || (not hidden && (pf || rf)))
free_beside false true pf rf = refl
free_beside _ _ _ _ = refl

pub beside_then : (p : Passed) (y : Name) (e e' : Exp) (a b : Simpl) (m n : Mon) (vs : List Name) →
    ended (beside p (under (names y e') (uses y a m vs))) (uses y b n vs) ≡ ended p (uses y (C.Cond e a b) (M.If e' m n) vs)
beside_then p y e e' a b m n vs = same_made _ _ _ _ _ _
    (lost_beside p.uses.lost (uses y a m vs).lost (uses y b n vs).lost p.dropped (names y e' || is_free y m) (is_free y n))
    (either p.uses.assigned (uses y a m vs).assigned (uses y b n vs).assigned)
    (free_beside p.uses.free p.hidden (names y e' || is_free y m) (is_free y n))

lost_after : (l pl r d pa h pf rf : Bool) → ((l || pl || (d && pf)) || r || (not h && (d || pa) && rf)) ≡ (l || (pl || r || (not h && pa && rf)) || (d && (pf || (not h && rf))))
lost_after false false true true pa h true rf = refl
lost_after false false false true pa h true rf = sym (or-true (not h && pa && rf))
lost_after false false false true pa true false rf = refl
lost_after false false false true true false false true = refl
lost_after false false false false pa h pf rf = sym (or-false (not h && pa && rf))
lost_after _ _ _ _ _ _ _ _ = refl

free_after : (f hidden h pf rf : Bool) → ((f || (not hidden && pf)) || (not (hidden || h) && rf)) ≡ (f || (not hidden && (pf || (not h && rf))))
free_after false true h pf rf = refl
free_after _ _ _ _ _ = refl

pub after_then : (p : Passed) (y : Name) (a b : Simpl) (m n : Mon) (us vs : List Name) →
    ended (after p (uses y a m us) (is_among y us)) (uses y b n vs) ≡ ended p (uses y (C.Seq a b) (M.Bind m us n) vs)
after_then p y a b m n us vs = same_made _ _ _ _ _ _
    (lost_after p.uses.lost (uses y a m us).lost (uses y b n vs).lost p.dropped (uses y a m us).assigned (is_among y us) (is_free y m) (is_free y n))
    (either p.uses.assigned (uses y a m us).assigned (uses y b n vs).assigned)
    (free_after p.uses.free p.hidden (is_among y us) (is_free y m) (is_free y n))

no_more : (r h f : Bool) → (r || (not h && false && f)) ≡ r
no_more false true f = refl
no_more _ _ _ = refl

-- a guard assigns nothing
pub guard_then : (p : Passed) (y : Name) (g : C.Condition) (a : Simpl) (m n : Mon) (us vs : List Name) →
    ended (after p (only_free (is_free y m)) (is_among y us)) (uses y a n vs) ≡ ended p (uses y (C.Guard g a) (M.Bind m us n) vs)
guard_then p y g a m n us vs = same_made _ _ _ _ _ _
    (lost_after p.uses.lost false (uses y a n vs).lost p.dropped false (is_among y us) (is_free y m) (is_free y n)
    ∙ ap (λ r. p.uses.lost || r || (p.dropped && (is_free y m || (not (is_among y us) && is_free y n)))) (no_more (uses y a n vs).lost (is_among y us) (is_free y n)))
    (either p.uses.assigned false (uses y a n vs).assigned)
    (free_after p.uses.free p.hidden (is_among y us) (is_free y m) (is_free y n))

-- The same where the parts are read from the code. What is given of them is what the code's calls say.
module _ (p p' : Passed) (u : Uses) (y : Name) (vs : List Name) (b b' c : Simpl) (n n' d : Mon) (w : Uses) (same_b : b' ≡ b) (same_n : n' ≡ n) (whole : ended p (uses y c d vs) ≡ w) where
  of_whole : (c' : Simpl) (d' : Mon) → c ≡ c' → d ≡ d' → ended p (uses y c' d' vs) ≡ w
  of_whole c' d' e f = sym (ap (λ z. ended p (uses y z d vs)) e ∙ ap (λ z. ended p (uses y c' z vs)) f) ∙ whole

  of_rest : ended p' (uses y b' n' vs) ≡ ended p' (uses y b n vs)
  of_rest = ap (λ z. ended p' (uses y z n' vs)) same_b ∙ ap (λ z. ended p' (uses y b z vs)) same_n

  pub after_step : (h : Bool) (us : List Name) (a : Simpl) (m : Mon) → p' ≡ after p u h → u ≡ uses y a m us → h ≡ is_among y us → c ≡ C.Seq a b → d ≡ M.Bind m us n → ended p' (uses y b' n' vs) ≡ w
  after_step h us a m e f g i j =
      of_rest ∙ ap (λ q. ended q (uses y b n vs)) (e ∙ ap₂ (λ v t. after p v t) f g) ∙ after_then p y a b m n us vs ∙ of_whole (C.Seq a b) (M.Bind m us n) i j

  pub guard_step : (h : Bool) (us : List Name) (g : C.Condition) (m : Mon) → p' ≡ after p u h → u ≡ only_free (is_free y m) → h ≡ is_among y us → c ≡ C.Guard g b → d ≡ M.Bind m us n → ended p' (uses y b' n' vs) ≡ w
  guard_step h us g m e f k i j =
      of_rest ∙ ap (λ q. ended q (uses y b n vs)) (e ∙ ap₂ (λ v t. after p v t) f k) ∙ guard_then p y g b m n us vs ∙ of_whole (C.Guard g b) (M.Bind m us n) i j

  pub beside_step : (x x' : Exp) (a : Simpl) (m : Mon) → p' ≡ beside p u → u ≡ under (names y x') (uses y a m vs) → c ≡ C.Cond x a b → d ≡ M.If x' m n → ended p' (uses y b' n' vs) ≡ w
  beside_step x x' a m e f i j =
      of_rest ∙ ap (λ q. ended q (uses y b n vs)) (e ∙ ap (λ v. beside p v) f) ∙ beside_then p y x x' a b m n vs ∙ of_whole (C.Cond x a b) (M.If x' m n) i j

-- a loop ends a walk
pub loop_step : (p : Passed) (r l : Uses) (y : Name) (vs us : List Name) (gs : List C.Condition) (e guard turn : Exp) (starts : List M.Start) (a c : Simpl) (m n d : Mon) (w : Uses) (ub u : Uses) (tests is st ho out rest : Bool) →
    r ≡ ended p l → l ≡ looped ub is st ho out rest → ub ≡ under tests u → tests ≡ (names y guard || names y turn) → u ≡ uses y a m us →
    is ≡ is_in_start y starts → st ≡ is_among y (start_names starts) → ho ≡ is_among y us → out ≡ is_among y vs → rest ≡ is_free y n →
    c ≡ C.While gs e a → d ≡ M.Bind (M.Loop starts guard turn m) us n → ended p (uses y c d vs) ≡ w → r ≡ w
loop_step p r l y vs us gs e guard turn starts a c m n d w ub u tests is st ho out rest h1 h2 h3 h4 h5 h6 h7 h8 h9 h10 h11 h12 whole =
    h1 ∙ ap (λ z. ended p z) (h2
    ∙ ap (λ z. looped z is st ho out rest) (h3 ∙ ap₂ (λ t z. under t z) h4 h5)
    ∙ ap (λ z. looped body z st ho out rest) h6
    ∙ ap (λ z. looped body (is_in_start y starts) z ho out rest) h7
    ∙ ap (λ z. looped body (is_in_start y starts) (is_among y (start_names starts)) z out rest) h8
    ∙ ap (λ z. looped body (is_in_start y starts) (is_among y (start_names starts)) (is_among y us) z rest) h9
    ∙ ap (λ z. looped body (is_in_start y starts) (is_among y (start_names starts)) (is_among y us) (is_among y vs) z) h10)
    ∙ sym (ap (λ z. ended p (uses y z d vs)) h11 ∙ ap (λ z. ended p (uses y (C.While gs e a) z vs)) h12) ∙ whole
  where
    body : Uses
    body = under (names y guard || names y turn) (uses y a m us)
