-- What names lead to, in steps; and that liveness grows, is the sum of what it is for each name, and passes what isn't assigned.
use Rattle.std.proofs.Common.{◌≡◌, Bool, true, false, not, ◌&&◌, ◌||◌, List, [], ◌∷◌, ◌⊎◌, inl, inr, sym, subst, ◌∙◌}
use Rattle.std.proofs.lemmas.Bool.{false≢true, true≢false, and_parts, and_from, or_parts, or_left, or_right, not_from_false}
use Rattle.c_values.specs.Name.{Name, same_name, is_among}
use Rattle.c_values.proofs.Laid.{name_is, same_name-refl}
use Rattle.expression_lang.specs.Mentions.{names}
use Rattle.simpl_lang.specs.Command.{Simpl, Skip, Throw, Set, SetGlobal, Store, Pick, Seq, Cond, Guard, Catch, While, Call}
use Rattle.simpl_lang.specs.Names.{path_names, is_target}
use Rattle.monad_lang.specs.Names.{is_in_some}
use Rattle.rule_local.specs.Assigned.{assigns}
use Rattle.rule_local.specs.Table.{conj}
use Rattle.rule_local.proofs.LiftedNames.{either}
use Rattle.local_lift.specs.Live.{none, some_of, through, spread, live}

pub some_has : (test : Name → Bool) (xs : List Name) (z : Name) → is_among z xs ≡ true → test z ≡ true → some_of test xs ≡ true
some_has test [] z h t = absurd (false≢true h)
some_has test (x ∷ xs) z h t =
    either (same_name z x) (is_among z xs) h (λ e. or_left (test x) (some_of test xs) (subst (λ y. test y ≡ true) (name_is z x e) t)) (λ k. or_right (test x) (some_of test xs) (some_has test xs z k t))

pub record OneOf (test : Name → Bool) (xs : List Name) : Type 0 where
  pub name : Name
  pub there : is_among name xs ≡ true
  pub passes : test name ≡ true

pub one_of : (test : Name → Bool) (xs : List Name) → some_of test xs ≡ true → OneOf test xs
one_of test [] h = absurd (false≢true h)
one_of test (x ∷ xs) h =
    either (test x) (some_of test xs) h (λ t. record { name = x; there = or_left (same_name x x) (is_among x xs) (same_name-refl x); passes = t })
    (λ k. let o = one_of test xs k in record { name = o.name; there = or_right (same_name o.name x) (is_among o.name xs) o.there; passes = o.passes })

abbrev pub Leads : Type 0
Leads = Name → Name → Bool

abbrev pub by_way : Name → Leads → Leads
by_way k leads x y = leads x y || (leads x k && leads k y)

-- a step is among the steps
pub through_has : (ks : List Name) (leads : Leads) (x y : Name) → leads x y ≡ true → through ks leads x y ≡ true
through_has [] leads x y h = h
through_has (k ∷ ks) leads x y h = through_has ks (by_way k leads) x y (or_left (leads x y) (leads x k && leads k y) h)

-- what is kept by a step from one of these names is kept by steps by way of them
module _ (P : Name → Type 0) (xs : List Name) where
  abbrev Keeps : Leads → Type 0
  Keeps leads = (x y : Name) → is_among x xs ≡ true → P x → leads x y ≡ true → P y

  pub through_keeps : (ks : List Name) → ((k : Name) → is_among k ks ≡ true → is_among k xs ≡ true) → (leads : Leads) → Keeps leads → Keeps (through ks leads)
  through_keeps [] s leads c = c
  through_keeps (k ∷ ks) s leads c =
      through_keeps ks (λ z m. s z (or_right (same_name z k) (is_among z ks) m)) (by_way k leads)
      (λ x y i p h. either (leads x y) (leads x k && leads k y) h (c x y i p)
      (λ j. let q = and_parts (leads x k) (leads k y) j in c k y (s k (or_left (same_name k k) (is_among k ks) (same_name-refl k))) (c x k i p q.0) q.1))

-- steps to a name and from it on
abbrev pub Joins : Leads → Name → Type 0
Joins leads s = (x y : Name) → leads x s ≡ true → leads s y ≡ true → leads x y ≡ true

module _ (k : Name) (leads : Leads) where
  to_way : (x : Name) → by_way k leads x k ≡ true → leads x k ≡ true
  to_way x h = either (leads x k) (leads x k && leads k k) h (λ t. t) (λ t. (and_parts (leads x k) (leads k k) t).0)

  from_way : (y : Name) → by_way k leads k y ≡ true → leads k y ≡ true
  from_way y h = either (leads k y) (leads k k && leads k y) h (λ t. t) (λ t. (and_parts (leads k k) (leads k y) t).1)

  pub joins_way : Joins (by_way k leads) k
  joins_way x y h j = or_right (leads x y) (leads x k && leads k y) (and_from (leads x k) (leads k y) (to_way x h) (from_way y j))

  pub joins_kept : (s : Name) → Joins leads s → Joins (by_way k leads) s
  joins_kept s c x y h j =
      either (leads x s) (leads x k && leads k s) h
      (λ t. either (leads s y) (leads s k && leads k y) j (λ u. or_left (leads x y) (leads x k && leads k y) (c x y t u))
      (λ u. let q = and_parts (leads s k) (leads k y) u in or_right (leads x y) (leads x k && leads k y) (and_from (leads x k) (leads k y) (c x k t q.0) q.1)))
      (λ t. let p = and_parts (leads x k) (leads k s) t in
      or_right (leads x y) (leads x k && leads k y)
      (and_from (leads x k) (leads k y) p.0
      (either (leads s y) (leads s k && leads k y) j (λ u. c k y p.1 u) (λ u. (and_parts (leads s k) (leads k y) u).1))))

pub joins_further : (ks : List Name) (leads : Leads) (s : Name) → Joins leads s → Joins (through ks leads) s
joins_further [] leads s c = c
joins_further (k ∷ ks) leads s c = joins_further ks (by_way k leads) s (joins_kept k leads s c)

pub through_joins : (ks : List Name) (leads : Leads) (s : Name) → is_among s ks ≡ true → Joins (through ks leads) s
through_joins [] leads s h = absurd (false≢true h)
through_joins (k ∷ ks) leads s h =
    either (same_name s k) (is_among s ks) h (λ e. subst (λ z. Joins (through ks (by_way k leads)) z) (sym (name_is s k e)) (joins_further ks (by_way k leads) k (joins_way k leads)))
    (λ j. through_joins ks (by_way k leads) s j)

module _ (xs : List Name) (leads : Leads) (from : Name → Bool) where
  pub spread_from : (y : Name) → from y ≡ true → spread xs leads from y ≡ true
  spread_from y h = or_left (from y) (some_of (λ z. from z && through xs leads z y) xs) h

  -- a step from one of the list's names leads no further
  pub spread_closed : (z y : Name) → is_among z xs ≡ true → spread xs leads from z ≡ true → leads z y ≡ true → spread xs leads from y ≡ true
  spread_closed z y m h l =
      either (from z) (some_of (λ w. from w && through xs leads w z) xs) h
      (λ f. there z m (and_from (from z) (through xs leads z y) f (through_has xs leads z y l)))
      (λ s. let o = one_of (λ w. from w && through xs leads w z) xs s in
      let p = and_parts (from o.name) (through xs leads o.name z) o.passes in
      there o.name o.there (and_from (from o.name) (through xs leads o.name y) p.0 (through_joins xs leads z m o.name y p.1 (through_has xs leads z y l))))
    where
      there : (w : Name) → is_among w xs ≡ true → (from w && through xs leads w y) ≡ true → spread xs leads from y ≡ true
      there w n t = or_right (from y) (some_of (λ z. from z && through xs leads z y) xs) (some_has (λ z. from z && through xs leads z y) xs w n t)

  -- what holds where one begins, and is kept by a step
  pub spread_keeps : (P : Name → Type 0) → ((y : Name) → from y ≡ true → P y) → ((x y : Name) → is_among x xs ≡ true → P x → leads x y ≡ true → P y) → (y : Name) → spread xs leads from y ≡ true → P y
  spread_keeps P b c y h =
      either (from y) (some_of (λ z. from z && through xs leads z y) xs) h (b y)
      (λ s. let o = one_of (λ z. from z && through xs leads z y) xs s in
      let p = and_parts (from o.name) (through xs leads o.name y) o.passes in through_keeps P xs xs (λ k m. m) leads c o.name y o.there (b o.name p.0) p.1)

abbrev pub Within : (Name → Bool) → (Name → Bool) → Type 0
Within p q = (y : Name) → p y ≡ true → q y ≡ true

pub or_both : (p q p' q' : Bool) → (p ≡ true → p' ≡ true) → (q ≡ true → q' ≡ true) → (p || q) ≡ true → (p' || q') ≡ true
or_both p q p' q' f g h = either p q h (λ t. or_left p' q' (f t)) (λ t. or_right p' q' (g t))

pub and_both : (p q p' q' : Bool) → (p ≡ true → p' ≡ true) → (q ≡ true → q' ≡ true) → (p && q) ≡ true → (p' && q') ≡ true
and_both p q p' q' f g h = let t = and_parts p q h in and_from p' q' (f t.0) (g t.1)

pub spread_grows : (xs : List Name) (leads : Leads) (from more : Name → Bool) → Within from more → Within (spread xs leads from) (spread xs leads more)
spread_grows xs leads from more w y h =
    either (from y) (some_of (λ z. from z && through xs leads z y) xs) h (λ f. spread_from xs leads more y (w y f))
    (λ s. let o = one_of (λ z. from z && through xs leads z y) xs s in
    or_right (more y) (some_of (λ z. more z && through xs leads z y) xs)
    (some_has (λ z. more z && through xs leads z y) xs o.name o.there (and_both (from o.name) (through xs leads o.name y) (more o.name) (through xs leads o.name y) (w o.name) (λ t. t) o.passes)))

module _ (xs : List Name) where
  pub live_grows : (a : Simpl) (p q : Name → Bool) → Within p q → Within (live xs a p) (live xs a q)
  live_grows Skip p q w y h = w y h
  live_grows Throw p q w y h = w y h
  live_grows (Set x e) p q w y h =
      or_both ((is_among x xs && p x) && names y e) (not (same_name y x) && p y) ((is_among x xs && q x) && names y e) (not (same_name y x) && q y)
      (and_both (is_among x xs && p x) (names y e) (is_among x xs && q x) (names y e) (and_both (is_among x xs) (p x) (is_among x xs) (q x) (λ t. t) (w x)) (λ t. t))
      (and_both (not (same_name y x)) (p y) (not (same_name y x)) (q y) (λ t. t) (w y)) h
  live_grows (SetGlobal x path e) p q w y h = let r = path_names y path || names y e in or_both r (p y) r (q y) (λ t. t) (w y) h
  live_grows (Store t a path e) p q w y h = let r = names y a || path_names y path || names y e in or_both r (p y) r (q y) (λ t. t) (w y) h
  live_grows (Pick x) p q w y h = and_both (not (same_name y x)) (p y) (not (same_name y x)) (q y) (λ t. t) (w y) h
  live_grows (Seq a b) p q w y h = live_grows a (live xs b p) (live xs b q) (live_grows b p q w) y h
  live_grows (Cond e a b) p q w y h =
      or_both (names y e || live xs a p y) (live xs b p y) (names y e || live xs a q y) (live xs b q y)
      (or_both (names y e) (live xs a p y) (names y e) (live xs a q y) (λ t. t) (live_grows a p q w y)) (live_grows b p q w y) h
  live_grows (Guard g a) p q w y h = or_both (names y g.exp) (live xs a p y) (names y g.exp) (live xs a q y) (λ t. t) (live_grows a p q w y) h
  live_grows (Catch a b) p q w y h = live_grows a p q w y h
  live_grows (While gs e a) p q w y h =
      let own = λ (z : Name). (names z (conj gs) || names z e) || live xs a none z in
      spread_grows xs (λ z. live xs a (same_name z)) (λ z. own z || p z) (λ z. own z || q z) (λ z. or_both (own z) (p z) (own z) (q z) (λ t. t) (w z)) y h
  live_grows (Call x f es) p q w y h =
      or_both (is_in_some y es) (not (is_target y x) && p y) (is_in_some y es) (not (is_target y x) && q y) (λ t. t)
      (and_both (not (is_target y x)) (p y) (not (is_target y x)) (q y) (λ t. t) (w y)) h

  -- a name is live for no other, or for one of those that are live afterwards
  pub record LiveFor (a : Simpl) (p : Name → Bool) (y : Name) : Type 0 where
    pub name : Name
    pub after : p name ≡ true
    pub before : live xs a (same_name name) y ≡ true

  abbrev pub Summed : Simpl → (Name → Bool) → Name → Type 0
  Summed a p y = (live xs a none y ≡ true) ⊎ LiveFor a p y

  nothing_more : (p : Name → Bool) → Within none p
  nothing_more p y h = absurd (false≢true h)

  one_more : (p : Name → Bool) (z : Name) → p z ≡ true → Within (same_name z) p
  one_more p z h y e = subst (λ w. p w ≡ true) (name_is z y e) h

  pub live_from_none : (a : Simpl) (p : Name → Bool) (y : Name) → live xs a none y ≡ true → live xs a p y ≡ true
  live_from_none a p y h = live_grows a none p (nothing_more p) y h

  pub live_from_one : (a : Simpl) (p : Name → Bool) (z y : Name) → p z ≡ true → live xs a (same_name z) y ≡ true → live xs a p y ≡ true
  live_from_one a p z y t h = live_grows a (same_name z) p (one_more p z t) y h

  self : (a : Simpl) (p : Name → Bool) (y : Name) → p y ≡ true → live xs a (same_name y) y ≡ true → Summed a p y
  self a p y h k = inr (record { name = y; after = h; before = k })

  -- the same of another command
  pub into : {P : Type 0} (a : Simpl) (p : Name → Bool) (y : Name) → (live xs a none y ≡ true → P) → ((z : Name) → p z ≡ true → live xs a (same_name z) y ≡ true → P) → Summed a p y → P
  into a p y f g (inl h) = f h
  into a p y f g (inr r) = g r.name r.after r.before

  pub live_is_sum : (a : Simpl) (p : Name → Bool) (y : Name) → live xs a p y ≡ true → Summed a p y
  live_is_sum Skip p y h = self Skip p y h (same_name-refl y)
  live_is_sum Throw p y h = self Throw p y h (same_name-refl y)
  live_is_sum (Set x e) p y h =
      either ((is_among x xs && p x) && names y e) (not (same_name y x) && p y) h
      (λ k. let s = and_parts (is_among x xs && p x) (names y e) k in
      let t = and_parts (is_among x xs) (p x) s.0 in
      inr (record {
        name = x;
        after = t.1;
        before =
            or_left ((is_among x xs && same_name x x) && names y e) (not (same_name y x) && same_name x y)
            (and_from (is_among x xs && same_name x x) (names y e) (and_from (is_among x xs) (same_name x x) t.0 (same_name-refl x)) s.1);
      }))
      (λ k. let s = and_parts (not (same_name y x)) (p y) k in
      self (Set x e) p y s.1
      (or_right ((is_among x xs && same_name y x) && names y e) (not (same_name y x) && same_name y y) (and_from (not (same_name y x)) (same_name y y) s.0 (same_name-refl y))))
  live_is_sum (SetGlobal x path e) p y h =
      let r = path_names y path || names y e in
      either r (p y) h (λ k. inl (or_left r false k)) (λ k. self (SetGlobal x path e) p y k (or_right r (same_name y y) (same_name-refl y)))
  live_is_sum (Store t a path e) p y h =
      let r = names y a || path_names y path || names y e in
      either r (p y) h (λ k. inl (or_left r false k)) (λ k. self (Store t a path e) p y k (or_right r (same_name y y) (same_name-refl y)))
  live_is_sum (Pick x) p y h =
      let s = and_parts (not (same_name y x)) (p y) h in self (Pick x) p y s.1 (and_from (not (same_name y x)) (same_name y y) s.0 (same_name-refl y))
  live_is_sum (Seq a b) p y h =
      into a (live xs b p) y (λ k. inl (live_from_none a (live xs b none) y k))
      (λ z m k. into b p z (λ j. inl (live_from_one a (live xs b none) z y j k)) (λ w n j. inr (record { name = w; after = n; before = live_from_one a (live xs b (same_name w)) z y j k }))
      (live_is_sum b p z m)) (live_is_sum a (live xs b p) y h)
  live_is_sum (Cond e a b) p y h =
      let l = λ (q : Name → Bool). names y e || live xs a q y in
      let r = λ (q : Name → Bool). live xs b q y in
      either (l p) (r p) h
      (λ k. either (names y e) (live xs a p y) k (λ j. inl (or_left (l none) (r none) (or_left (names y e) (live xs a none y) j)))
      (λ j. into a p y (λ i. inl (or_left (l none) (r none) (or_right (names y e) (live xs a none y) i)))
      (λ z m i. inr (record { name = z; after = m; before = or_left (l (same_name z)) (r (same_name z)) (or_right (names y e) (live xs a (same_name z) y) i) })) (live_is_sum a p y j)))
      (λ k. into b p y (λ i. inl (or_right (l none) (r none) i)) (λ z m i. inr (record { name = z; after = m; before = or_right (l (same_name z)) (r (same_name z)) i })) (live_is_sum b p y k))
  live_is_sum (Guard g a) p y h =
      either (names y g.exp) (live xs a p y) h (λ k. inl (or_left (names y g.exp) (live xs a none y) k))
      (λ k. into a p y (λ i. inl (or_right (names y g.exp) (live xs a none y) i))
      (λ z m i. inr (record { name = z; after = m; before = or_right (names y g.exp) (live xs a (same_name z) y) i })) (live_is_sum a p y k))
  live_is_sum (Catch a b) p y h = into a p y inl (λ z m i. inr (record { name = z; after = m; before = i })) (live_is_sum a p y h)
  live_is_sum (While gs e a) p y h =
      let leads : Leads = λ z. live xs a (same_name z) in
      let own = λ (z : Name). (names z (conj gs) || names z e) || live xs a none z in
      let from = λ (q : Name → Bool) (z : Name). own z || q z in
      either (from p y) (some_of (λ z. from p z && through xs leads z y) xs) h
      (λ k. either (own y) (p y) k (λ j. inl (spread_from xs leads (from none) y (or_left (own y) false j)))
      (λ j. self (While gs e a) p y j (spread_from xs leads (from (same_name y)) y (or_right (own y) (same_name y y) (same_name-refl y)))))
      (λ k. let o = one_of (λ z. from p z && through xs leads z y) xs k in
      let s = and_parts (from p o.name) (through xs leads o.name y) o.passes in
      let on : (q : Name → Bool) → from q o.name ≡ true → spread xs leads (from q) y ≡ true =
      λ q t. or_right (from q y) (some_of (λ z. from q z && through xs leads z y) xs)
      (some_has (λ z. from q z && through xs leads z y) xs o.name o.there (and_from (from q o.name) (through xs leads o.name y) t s.1)) in
      either (own o.name) (p o.name) s.0 (λ j. inl (on none (or_left (own o.name) false j)))
      (λ j. inr (record { name = o.name; after = j; before = on (same_name o.name) (or_right (own o.name) (same_name o.name o.name) (same_name-refl o.name)) })))
  live_is_sum (Call x f es) p y h =
      either (is_in_some y es) (not (is_target y x) && p y) h (λ k. inl (or_left (is_in_some y es) (not (is_target y x) && false) k))
      (λ k. let s = and_parts (not (is_target y x)) (p y) k in
      self (Call x f es) p y s.1 (or_right (is_in_some y es) (not (is_target y x) && same_name y y) (and_from (not (is_target y x)) (same_name y y) s.0 (same_name-refl y))))

  -- what isn't assigned stays live
  pub live_stays : (a : Simpl) (p : Name → Bool) (y : Name) → assigns y a ≡ false → p y ≡ true → live xs a p y ≡ true
  live_stays (Set x e) p y n h = or_right ((is_among x xs && p x) && names y e) (not (same_name y x) && p y) (and_from (not (same_name y x)) (p y) (not_from_false (same_name y x) n) h)
  live_stays (SetGlobal x path e) p y n h = or_right (path_names y path || names y e) (p y) h
  live_stays (Store t a path e) p y n h = or_right (names y a || path_names y path || names y e) (p y) h
  live_stays (Pick x) p y n h = and_from (not (same_name y x)) (p y) (not_from_false (same_name y x) n) h
  live_stays (Seq a b) p y n h = let m = or_parts (assigns y a) (assigns y b) n in live_stays a (live xs b p) y m.0 (live_stays b p y m.1 h)
  live_stays (Cond e a b) p y n h = or_right (names y e || live xs a p y) (live xs b p y) (live_stays b p y (or_parts (assigns y a) (assigns y b) n).1 h)
  live_stays (Guard g a) p y n h = or_right (names y g.exp) (live xs a p y) (live_stays a p y n h)
  live_stays (Catch a b) p y n h = live_stays a p y (or_parts (assigns y a) (assigns y b) n).0 h
  live_stays (While gs e a) p y n h =
      let own = λ (z : Name). (names z (conj gs) || names z e) || live xs a none z in
      spread_from xs (λ z. live xs a (same_name z)) (λ z. own z || p z) y (or_right (own y) (p y) h)
  live_stays (Call x f es) p y n h = or_right (is_in_some y es) (not (is_target y x) && p y) (and_from (not (is_target y x)) (p y) (not_from_false (is_target y x) n) h)
  live_stays _ _ _ _ h = h

  -- and nothing else is live for it, nor for what is no local
  abbrev pub OnlyItself : Simpl → Name → Name → Type 0
  OnlyItself a z y = (live xs a none y ≡ true) ⊎ (same_name z y ≡ true)

  not_only : {P : Type 0} (a : Simpl) (z y : Name) → (live xs a none y ≡ true → P) → OnlyItself a z y → P ⊎ (same_name z y ≡ true)
  not_only a z y f (inl h) = inl (f h)
  not_only a z y f (inr h) = inr h

  either_part : (a b : Simpl) (z : Name) → (is_among z xs ≡ true → (assigns z a || assigns z b) ≡ false) → (is_among z xs ≡ true → assigns z a ≡ false) × (is_among z xs ≡ true → assigns z b ≡ false)
  either_part a b z n = ((λ i. (or_parts (assigns z a) (assigns z b) (n i)).0), (λ i. (or_parts (assigns z a) (assigns z b) (n i)).1))

  pub live_for_unassigned : (a : Simpl) (z y : Name) → (is_among z xs ≡ true → assigns z a ≡ false) → live xs a (same_name z) y ≡ true → OnlyItself a z y
  live_for_unassigned Skip z y n h = inr h
  live_for_unassigned Throw z y n h = inr h
  live_for_unassigned (Set x e) z y n h =
      either ((is_among x xs && same_name z x) && names y e) (not (same_name y x) && same_name z y) h
      (λ k. let p = and_parts (is_among x xs) (same_name z x) (and_parts (is_among x xs && same_name z x) (names y e) k).0 in
      absurd (true≢false (sym p.1 ∙ n (subst (λ w. is_among w xs ≡ true) (sym (name_is z x p.1)) p.0)))) (λ k. inr (and_parts (not (same_name y x)) (same_name z y) k).1)
  live_for_unassigned (SetGlobal x path e) z y n h = let r = path_names y path || names y e in either r (same_name z y) h (λ k. inl (or_left r false k)) inr
  live_for_unassigned (Store t a path e) z y n h = let r = names y a || path_names y path || names y e in either r (same_name z y) h (λ k. inl (or_left r false k)) inr
  live_for_unassigned (Pick x) z y n h = inr (and_parts (not (same_name y x)) (same_name z y) h).1
  live_for_unassigned (Seq a b) z y n h =
      let m = either_part a b z n in
      into a (live xs b (same_name z)) y (λ k. inl (live_from_none a (live xs b none) y k)) (λ w t k. second (λ j. live_for_unassigned a z y m.0 j) w k (live_for_unassigned b z w m.1 t)) (live_is_sum a (live xs b (same_name z)) y h)
    where
      first : OnlyItself a z y → OnlyItself (Seq a b) z y
      first (inl j) = inl (live_from_none a (live xs b none) y j)
      first (inr j) = inr j

      second : (live xs a (same_name z) y ≡ true → OnlyItself a z y) → (w : Name) → live xs a (same_name w) y ≡ true → OnlyItself b z w → OnlyItself (Seq a b) z y
      second r w k (inl j) = inl (live_from_one a (live xs b none) w y j k)
      second r w k (inr j) = first (r (subst (λ v. live xs a (same_name v) y ≡ true) (sym (name_is z w j)) k))
  live_for_unassigned (Cond e a b) z y n h =
      let m = either_part a b z n in
      let l = λ (q : Name → Bool). names y e || live xs a q y in
      let r = λ (q : Name → Bool). live xs b q y in
      either (l (same_name z)) (r (same_name z)) h
      (λ k. either (names y e) (live xs a (same_name z) y) k (λ j. inl (or_left (l none) (r none) (or_left (names y e) (live xs a none y) j)))
      (λ j. not_only a z y (λ i. or_left (l none) (r none) (or_right (names y e) (live xs a none y) i)) (live_for_unassigned a z y m.0 j)))
      (λ k. not_only b z y (λ i. or_right (l none) (r none) i) (live_for_unassigned b z y m.1 k))
  live_for_unassigned (Guard g a) z y n h =
      either (names y g.exp) (live xs a (same_name z) y) h (λ k. inl (or_left (names y g.exp) (live xs a none y) k))
      (λ k. not_only a z y (or_right (names y g.exp) (live xs a none y)) (live_for_unassigned a z y n k))
  live_for_unassigned (Catch a b) z y n h = live_for_unassigned a z y (either_part a b z n).0 h
  live_for_unassigned (While gs e a) z y n h =
      spread_keeps xs leads (λ w. own w || same_name z w) (OnlyItself (While gs e a) z)
      (λ w t. either (own w) (same_name z w) t (λ k. inl (spread_from xs leads (λ v. own v || false) w (or_left (own w) false k))) inr) (λ v w. kept v w (λ k. live_for_unassigned a z w n k)) y h
    where
      leads : Leads
      leads v = live xs a (same_name v)

      own : Name → Bool
      own v = (names v (conj gs) || names v e) || live xs a none v

      of_none : (v : Name) → live xs a none v ≡ true → live xs (While gs e a) none v ≡ true
      of_none v k = spread_from xs leads (λ u. own u || false) v (or_left (own v) false (or_right (names v (conj gs) || names v e) (live xs a none v) k))

      kept : (v w : Name) → (live xs a (same_name z) w ≡ true → OnlyItself a z w) → is_among v xs ≡ true → OnlyItself (While gs e a) z v → leads v w ≡ true → OnlyItself (While gs e a) z w
      kept v w r m (inl k) l = inl (spread_closed xs leads (λ u. own u || false) v w m k l)
      kept v w r m (inr k) l = not_only a z w (of_none w) (r (subst (λ u. live xs a (same_name u) w ≡ true) (sym (name_is z v k)) l))
  live_for_unassigned (Call x f es) z y n h =
      either (is_in_some y es) (not (is_target y x) && same_name z y) h (λ k. inl (or_left (is_in_some y es) (not (is_target y x) && false) k)) (λ k. inr (and_parts (not (is_target y x)) (same_name z y) k).1)
