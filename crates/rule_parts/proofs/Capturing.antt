-- Where a name isn't free nothing is captured for it, so a binder of a name of the expression captures where the name is free behind it.
use Rattle.std.proofs.Common.{◌≡◌, Bool, true, false, not, ◌&&◌, ◌||◌, List, refl, ap, ap₂, ◌∙◌}
use Rattle.std.proofs.lemmas.Bool.{or_parts}
use Rattle.c_values.specs.Name.{Name, is_among}
use Rattle.expression_lang.specs.Expression.{Exp}
use Rattle.expression_lang.specs.Mentions as X
use Rattle.ac_expr.specs.Lasting.{is_unnamed}
use Rattle.monad_lang.specs.Program as M
use Rattle.monad_lang.specs.Program.{Mon, Start}
use Rattle.monad_lang.specs.Names.{is_free, is_in_start}
use Rattle.monad_lang.specs.Run.{start_names}
use Rattle.rule_parts.specs.Captures.{captures}

-- behind a binder that may bind the name
bound_none : (among named free inner : Bool) → (not among && free) ≡ false → (free ≡ false → inner ≡ false) →
    (not among && ((not named && free) || inner)) ≡ false
bound_none true named free inner h k = refl
bound_none false true free inner h k = k h
bound_none false false free inner h k = ap₂ (λ b c. b || c) h (k h)

pub unfree_none : (e : Exp) (x : Name) (m : Mon) → is_free x m ≡ false → captures e x m ≡ false
unfree_none e x (M.If a m n) h =
    let o = or_parts (X.names x a || is_free x m) (is_free x n) h in
    let q = or_parts (X.names x a) (is_free x m) o.0 in
    ap₂ (λ b c. b || c) (unfree_none e x m q.1) (unfree_none e x n o.1)
unfree_none e x (M.Bind m xs n) h =
    let o = or_parts (is_free x m) (not (is_among x xs) && is_free x n) h in
    ap₂ (λ b c. b || c) (unfree_none e x m o.0)
    (bound_none (is_among x xs) (is_unnamed xs e) (is_free x n) (captures e x n) o.1 (unfree_none e x n))
unfree_none e x (M.Loop starts guard test m) h =
    let among = is_among x (start_names starts) in
    let inside = X.names x guard || X.names x test || is_free x m in
    let o = or_parts (is_in_start x starts) (not among && inside) h in
    bound_none among (is_unnamed (start_names starts) e) inside (captures e x m) o.1
    (λ i. unfree_none e x m (or_parts (X.names x guard || X.names x test) (is_free x m) i).1)
unfree_none _ _ _ _ = refl

-- a binder of a name of the expression alone
captured_alone : (among named free inner : Bool) → among ≡ false → named ≡ false → (free ≡ false → inner ≡ false) →
    (not among && ((not named && free) || inner)) ≡ free
captured_alone false false true inner h i k = refl
captured_alone false false false inner h i k = k refl
captured_alone _ _ free inner h i k = absurd cc

pub bind_captures : (e : Exp) (x : Name) (m : Mon) (xs : List Name) (n : Mon) → captures e x m ≡ false → is_among x xs ≡ false →
    is_unnamed xs e ≡ false → captures e x (M.Bind m xs n) ≡ is_free x n
bind_captures e x m xs n h i k =
    ap (λ b. b || (not (is_among x xs) && ((not (is_unnamed xs e) && is_free x n) || captures e x n))) h
    ∙ captured_alone (is_among x xs) (is_unnamed xs e) (is_free x n) (captures e x n) i k (unfree_none e x n)

pub turn_captures : (e : Exp) (x : Name) (starts : List Start) (guard test : Exp) (m : Mon) → is_among x (start_names starts) ≡ false →
    is_unnamed (start_names starts) e ≡ false →
    captures e x (M.Loop starts guard test m) ≡ (X.names x guard || X.names x test || is_free x m)
turn_captures e x starts guard test m i k =
    captured_alone (is_among x (start_names starts)) (is_unnamed (start_names starts) e)
    (X.names x guard || X.names x test || is_free x m) (captures e x m) i k
    (λ o. unfree_none e x m (or_parts (X.names x guard || X.names x test) (is_free x m) o).1)
