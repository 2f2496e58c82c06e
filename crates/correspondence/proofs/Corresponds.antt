-- Runs that correspond, put together.
use Rattle.std.proofs.Common.{◌≡◌, ℕ, zero, suc, Option, Some, None, Bool, true, false, List, [], ◌∷◌, ◌⊎◌, inl, inr, refl, sym, subst}
use Rattle.correspondence.specs.Outcome.{Limit, Turns, Depth, Done, Failed, Stopped, Ends, done, any, fault, stop, Then, goes_on, fails, stops, choose, continued, loop}
use Rattle.correspondence.specs.Bound.{Functions, called, below}
use Rattle.correspondence.specs.Corresponds.{Corresponds, After, Either, Leaving, Paired, SameFunctions}

-- one side alone: each end of the one has its twin
pub record Within {A B F G : Type 0} (answers : A → B → Type 0) (faults : F → G → Type 0) (p : Ends A F) (q : Ends B G) : Type 0 where
  pub ends : (a : A) → p (Done a) → (b : B) × answers a b × q (Done b)
  pub faulty : (f : F) → p (Failed f) → (g : G) × faults f g × q (Failed g)
  pub halts : (w : Limit) → p (Stopped w) → q (Stopped w)

abbrev pub turned : {A B : Type 0} → (A → B → Type 0) → B → A → Type 0
turned r b a = r a b

pub there : {A B F G : Type 0} {answers : A → B → Type 0} {faults : F → G → Type 0} {p : Ends A F} {q : Ends B G} → Corresponds answers faults p q → Within answers faults p q
there c = record { ends = c.done; faulty = c.failed; halts = c.stopped }

pub back : {A B F G : Type 0} {answers : A → B → Type 0} {faults : F → G → Type 0} {p : Ends A F} {q : Ends B G} → Corresponds answers faults p q → Within (turned answers) (turned faults) q p
back c = record { ends = c.done_back; faulty = c.failed_back; halts = c.stopped_back }

pub both : {A B F G : Type 0} {answers : A → B → Type 0} {faults : F → G → Type 0} {p : Ends A F} {q : Ends B G} → Within answers faults p q → Within (turned answers) (turned faults) q p → Corresponds answers faults p q
both v w = record { done = v.ends; failed = v.faulty; stopped = v.halts; done_back = w.ends; failed_back = w.faulty; stopped_back = w.halts }

module _ {A A' B B' F F' : Type 0} (before : A → A' → Type 0) (after : B → B' → Type 0) (faults : F → F' → Type 0)
    (p : Ends A F) (p' : Ends A' F') (r : A → Ends B F) (r' : A' → Ends B' F')
    (first : Within before faults p p') (rest : (a : A) (a' : A') → before a a' → Within after faults (r a) (r' a')) where
  then_ends : (b : B) → Then p r (Done b) → (b' : B') × after b b' × Then p' r' (Done b')
  then_ends b (goes_on {a} h k) =
      let x = first.ends a h in
      let y = (rest a x.0 x.1).ends b k in
      (y.0, y.1, goes_on x.2 y.2)

  then_faulty : (f : F) → Then p r (Failed f) → (f' : F') × faults f f' × Then p' r' (Failed f')
  then_faulty f (goes_on {a} h k) =
      let x = first.ends a h in
      let y = (rest a x.0 x.1).faulty f k in
      (y.0, y.1, goes_on x.2 y.2)
  then_faulty f (fails h) = let x = first.faulty f h in (x.0, x.1, fails x.2)

  then_halts : (w : Limit) → Then p r (Stopped w) → Then p' r' (Stopped w)
  then_halts w (goes_on {a} h k) = let x = first.ends a h in goes_on x.2 ((rest a x.0 x.1).halts w k)
  then_halts w (stops h) = stops (first.halts w h)

  pub then_within : Within after faults (Then p r) (Then p' r')
  then_within = record { ends = then_ends; faulty = then_faulty; halts = then_halts }

pub then_corresponds : {A A' B B' F F' : Type 0} (before : A → A' → Type 0) (after : B → B' → Type 0) (faults : F → F' → Type 0)
    (p : Ends A F) (p' : Ends A' F') (r : A → Ends B F) (r' : A' → Ends B' F') →
    Corresponds before faults p p' → ((a : A) (a' : A') → before a a' → Corresponds after faults (r a) (r' a')) → Corresponds after faults (Then p r) (Then p' r')
then_corresponds before after faults p p' r r' c k =
    both (then_within before after faults p p' r r' (there c) (λ a a' h. there (k a a' h)))
    (then_within (turned before) (turned after) (turned faults) p' p r' r (back c) (λ a' a h. back (k a a' h)))

pub done_corresponds : {A B F G : Type 0} (answers : A → B → Type 0) (faults : F → G → Type 0) (a : A) (b : B) → answers a b → Corresponds answers faults (done a) (done b)
done_corresponds answers faults a b h = record {
  done = λ a' e. (b, subst (λ x. answers x b) (sym e) h, refl);
  done_back = λ b' e. (a, subst (λ y. answers a y) (sym e) h, refl);
  failed = λ f e. absurd e;
  failed_back = λ g e. absurd e;
  stopped = λ w e. absurd e;
  stopped_back = λ w e. absurd e;
}

pub fault_corresponds : {A B F G : Type 0} (answers : A → B → Type 0) (faults : F → G → Type 0) (f : F) (g : G) → faults f g → Corresponds answers faults (fault f) (fault g)
fault_corresponds answers faults f g h = record {
  done = λ a e. absurd e;
  done_back = λ b e. absurd e;
  failed = λ f' e. (g, subst (λ x. faults x g) (sym e) h, refl);
  failed_back = λ g' e. (f, subst (λ y. faults f y) (sym e) h, refl);
  stopped = λ w e. absurd e;
  stopped_back = λ w e. absurd e;
}

pub stop_corresponds : {A B F G : Type 0} (answers : A → B → Type 0) (faults : F → G → Type 0) (w : Limit) → Corresponds answers faults (stop w) (stop w)
stop_corresponds answers faults w = record {
  done = λ a e. absurd e;
  done_back = λ b e. absurd e;
  failed = λ f e. absurd e;
  failed_back = λ g e. absurd e;
  stopped = λ v e. e;
  stopped_back = λ v e. e;
}

choose_one : {A B F G : Type 0} (answers : A → B → Type 0) (faults : F → G → Type 0) (t : Bool) (p q : Ends A F) (p' q' : Ends B G) →
    (t ≡ true → Corresponds answers faults p p') → (t ≡ false → Corresponds answers faults q q') → Corresponds answers faults (choose t p q) (choose t p' q')
choose_one answers faults true p q p' q' h k = h refl
choose_one answers faults false p q p' q' h k = k refl

pub choose_corresponds : {A B F G : Type 0} (answers : A → B → Type 0) (faults : F → G → Type 0) (t t' : Bool) (p q : Ends A F) (p' q' : Ends B G) →
    t ≡ t' → (t ≡ true → Corresponds answers faults p p') → (t ≡ false → Corresponds answers faults q q') → Corresponds answers faults (choose t p q) (choose t' p' q')
choose_corresponds answers faults t t' p q p' q' e h k =
    subst (λ u. Corresponds answers faults (choose t p q) (choose u p' q')) e (choose_one answers faults t p q p' q' h k)

module _ {Function Function' : Type 1} {X Y A B F G : Type 0} (same : Function → Function' → Type 0) (next : X → Y → Type 0) (answers : A → B → Type 0) (faults : F → G → Type 0)
    (enter : X → Ends (X ⊎ A) F) (enter' : Y → Ends (Y ⊎ B) G) (body : List Function → X → Ends (X ⊎ A) F) (body' : List Function' → Y → Ends (Y ⊎ B) G)
    (enters : (x : X) (y : Y) → next x y → Corresponds (Either next answers) faults (enter x) (enter' y))
    (turn : (fs : List Function) (gs : List Function') → Paired same fs gs → (x : X) (y : Y) → next x y → Corresponds (Either next answers) faults (body fs x) (body' gs y)) where
  continue_corresponds : (r : X → Ends A F) (r' : Y → Ends B G) → ((x : X) (y : Y) → next x y → Corresponds answers faults (r x) (r' y)) →
      (z : X ⊎ A) (z' : Y ⊎ B) → Either next answers z z' → Corresponds answers faults (continued r z) (continued r' z')
  continue_corresponds r r' h (inl x) (inl y) e = h x y e
  continue_corresponds r r' h (inr a) (inr b) e = done_corresponds answers faults a b e
  continue_corresponds _ _ _ _ _ e = absurd e

  pub loop_corresponds : (fs : List Function) (gs : List Function') → Paired same fs gs → (x : X) (y : Y) → next x y → Corresponds answers faults (loop enter body fs x) (loop enter' body' gs y)
  loop_corresponds [] [] p x y h =
      then_corresponds (Either next answers) answers faults _ _ _ _ (enters x y h) (continue_corresponds _ _ (λ x' y' h'. stop_corresponds answers faults Turns))
  loop_corresponds (f ∷ fs) (g ∷ gs) p x y h =
      then_corresponds (Either next answers) answers faults _ _ _ _ (enters x y h) (continue_corresponds _ _ (λ x' y' h'.
      then_corresponds (Either next answers) answers faults _ _ _ _ (turn fs gs p.1 x' y' h') (continue_corresponds _ _ (loop_corresponds fs gs p.1))))
  loop_corresponds [] (g ∷ gs) p x y h = absurd p
  loop_corresponds (f ∷ fs) [] p x y h = absurd p

module _ {Function Function' : Type 1} {X Y A B F G : Type 0} (same : Function → Function' → Type 0) (next : X → Y → Type 0) (answers : A → B → Type 0) (leaves : A → Y → Type 0) (faults : F → G → Type 0)
    (enter : X → Ends (X ⊎ A) F) (enter' : Y → Ends (Y ⊎ B) G) (body : List Function → X → Ends (X ⊎ A) F) (body' : List Function' → Y → Ends (Y ⊎ B) G)
    (enters : (x : X) (y : Y) → next x y → Corresponds (Either next answers) faults (enter x) (enter' y))
    (turn : (fs : List Function) (gs : List Function') → Paired same fs gs → (x : X) (y : Y) → next x y → Corresponds (Leaving next answers leaves) faults (body fs x) (body' gs y))
    (early : (a : A) (y : Y) → leaves a y → (gs : List Function') → Corresponds answers faults (done a) (loop enter' body' gs y)) where
  leave_corresponds : (r : X → Ends A F) (gs : List Function') → ((x : X) (y : Y) → next x y → Corresponds answers faults (r x) (loop enter' body' gs y)) →
      (z : X ⊎ A) (z' : Y ⊎ B) → Leaving next answers leaves z z' → Corresponds answers faults (continued r z) (continued (loop enter' body' gs) z')
  leave_corresponds r gs h (inl x) (inl y) e = h x y e
  leave_corresponds r gs h (inr a) (inr b) e = done_corresponds answers faults a b e
  leave_corresponds r gs h (inr a) (inl y) e = early a y e gs
  leave_corresponds r gs h (inl x) (inr b) e = absurd e

  enter_corresponds : (r : X → Ends A F) (r' : Y → Ends B G) → ((x : X) (y : Y) → next x y → Corresponds answers faults (r x) (r' y)) →
      (z : X ⊎ A) (z' : Y ⊎ B) → Either next answers z z' → Corresponds answers faults (continued r z) (continued r' z')
  enter_corresponds r r' h (inl x) (inl y) e = h x y e
  enter_corresponds r r' h (inr a) (inr b) e = done_corresponds answers faults a b e
  enter_corresponds _ _ _ _ _ e = absurd e

  pub leaving_corresponds : (fs : List Function) (gs : List Function') → Paired same fs gs → (x : X) (y : Y) → next x y → Corresponds answers faults (loop enter body fs x) (loop enter' body' gs y)
  leaving_corresponds [] [] p x y h =
      then_corresponds (Either next answers) answers faults _ _ _ _ (enters x y h) (enter_corresponds _ _ (λ x' y' h'. stop_corresponds answers faults Turns))
  leaving_corresponds (f ∷ fs) (g ∷ gs) p x y h =
      then_corresponds (Either next answers) answers faults _ _ _ _ (enters x y h) (enter_corresponds _ _ (λ x' y' h'.
      then_corresponds (Leaving next answers leaves) answers faults _ _ _ _ (turn fs gs p.1 x' y' h') (leave_corresponds _ gs (leaving_corresponds fs gs p.1))))
  leaving_corresponds [] (g ∷ gs) p x y h = absurd p
  leaving_corresponds (f ∷ fs) [] p x y h = absurd p

-- What corresponds to one, which corresponds to another, corresponds to the other.
pub corresponds_after : {A B C F G H : Type 0} (answers : A → B → Type 0) (answers' : B → C → Type 0) (faults : F → G → Type 0) (faults' : G → H → Type 0) (p : Ends A F) (q : Ends B G) (r : Ends C H) →
    Corresponds answers faults p q → Corresponds answers' faults' q r → Corresponds (After answers answers') (After faults faults') p r
corresponds_after answers answers' faults faults' p q r h k = record {
  done = λ a x. let y = h.done a x in let z = k.done y.0 y.2 in (z.0, (y.0, y.1, z.1), z.2);
  done_back = λ c x. let y = k.done_back c x in let z = h.done_back y.0 y.2 in (z.0, (y.0, z.1, y.1), z.2);
  failed = λ f x. let y = h.failed f x in let z = k.failed y.0 y.2 in (z.0, (y.0, y.1, z.1), z.2);
  failed_back = λ c x. let y = k.failed_back c x in let z = h.failed_back y.0 y.2 in (z.0, (y.0, z.1, y.1), z.2);
  stopped = λ w x. k.stopped w (h.stopped w x);
  stopped_back = λ w x. h.stopped_back w (k.stopped_back w x);
}

-- Weaker relations hold too.
pub corresponds_weaker : {A B F G : Type 0} (answers answers' : A → B → Type 0) (faults faults' : F → G → Type 0) (p : Ends A F) (q : Ends B G) →
    ((a : A) (b : B) → answers a b → answers' a b) → ((f : F) (g : G) → faults f g → faults' f g) → Corresponds answers faults p q → Corresponds answers' faults' p q
corresponds_weaker answers answers' faults faults' p q u v h = record {
  done = λ a x. let y = h.done a x in (y.0, u a y.0 y.1, y.2);
  done_back = λ b x. let y = h.done_back b x in (y.0, u y.0 b y.1, y.2);
  failed = λ f x. let y = h.failed f x in (y.0, v f y.0 y.1, y.2);
  failed_back = λ g x. let y = h.failed_back g x in (y.0, v y.0 g y.1, y.2);
  stopped = h.stopped;
  stopped_back = h.stopped_back;
}

-- Any answers that have their twins.
pub any_corresponds : {A B F G : Type 0} (answers : A → B → Type 0) (faults : F → G → Type 0) (P : A → Type 0) (Q : B → Type 0) →
    ((a : A) → P a → (b : B) × answers a b × Q b) → ((b : B) → Q b → (a : A) × answers a b × P a) → Corresponds answers faults (any P) (any Q)
any_corresponds answers faults P Q h k = record {
  done = h;
  done_back = k;
  failed = λ f e. absurd e;
  failed_back = λ g e. absurd e;
  stopped = λ w e. absurd e;
  stopped_back = λ w e. absurd e;
}

-- calls of functions that correspond
module _ {Call Call' A B F G : Type 0} (calls : Call → Call' → Type 0) (answers : A → B → Type 0) (faults : F → G → Type 0) where
  abbrev Same : Functions Call A F → Functions Call' B G → Type 0
  Same = SameFunctions calls answers faults

  pub called_corresponds : (fs : List (Functions Call A F)) (gs : List (Functions Call' B G)) → Paired Same fs gs → (depth : Option ℕ) (c : Call) (c' : Call') → calls c c' → Corresponds answers faults (called fs depth c) (called gs depth c')
  called_corresponds [] [] p depth c c' h = stop_corresponds answers faults Turns
  called_corresponds (f ∷ fs) (g ∷ gs) p None c c' h = p.0 None c c' h
  called_corresponds (f ∷ fs) (g ∷ gs) p (Some zero) c c' h = stop_corresponds answers faults Depth
  called_corresponds (f ∷ fs) (g ∷ gs) p (Some (suc depth)) c c' h = p.0 (Some depth) c c' h
  called_corresponds [] (g ∷ gs) p depth c c' h = absurd p
  called_corresponds (f ∷ fs) [] p depth c c' h = absurd p

  -- Functions whose bodies correspond over corresponding functions correspond at every bound.
  pub below_corresponds : (bodies : List (Functions Call A F) → Functions Call A F) (bodies' : List (Functions Call' B G) → Functions Call' B G) →
      ((fs : List (Functions Call A F)) (gs : List (Functions Call' B G)) → Paired Same fs gs → Same (bodies fs) (bodies' gs)) → (n : ℕ) → Paired Same (below bodies n) (below bodies' n)
  below_corresponds bodies bodies' h zero = tt
  below_corresponds bodies bodies' h (suc n) =
      let p : Paired Same (below bodies n) (below bodies' n) = below_corresponds bodies bodies' h n in (h _ _ p, p)
