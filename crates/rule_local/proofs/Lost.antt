-- Nothing that a command assigns is lost exactly where what is needed of it is handed on.
use Rattle.std.proofs.Common.{◌≡◌, ◌↔◌, Bool, true, false, not, ◌||◌, List, Option, Some, None, refl, sym, subst, ap, ap₂, ◌∙◌}
use Rattle.std.proofs.lemmas.Bool.{false≢true, not-true, false_from_ne_true, and_parts, and_from, or_left, or_right}
use Rattle.c_values.specs.Name.{Name, same_name, is_among}
use Rattle.c_values.proofs.Laid.{name_is, same_name-refl}
use Rattle.simpl_lang.specs.Command.{Simpl, Set, Pick, Seq, Cond, Guard, Catch, While, Call}
use Rattle.simpl_lang.specs.Names.{is_target}
use Rattle.rule_local.specs.Assigned.{assigns, Carries}
use Rattle.rule_local.specs.CodeAssigned.{target_passes, assigns_some, is_lost}

-- a name that passes
record Passes (test : Name → Bool) (is_assigned : Name → Bool) : Type 0 where
  name : Name
  assigned : is_assigned name ≡ true
  passes : test name ≡ true

this_one : (test : Name → Bool) (x : Name) → test x ≡ true → Passes test (λ y. same_name y x)
this_one test x h = record { name = x; assigned = same_name-refl x; passes = h }

in_first : (test f g : Name → Bool) → Passes test f → Passes test (λ y. f y || g y)
in_first test f g p = record { name = p.name; assigned = or_left (f p.name) (g p.name) p.assigned; passes = p.passes }

in_second : (test f g : Name → Bool) → Passes test g → Passes test (λ y. f y || g y)
in_second test f g p = record { name = p.name; assigned = or_right (f p.name) (g p.name) p.assigned; passes = p.passes }

in_either : (test f g : Name → Bool) (p q : Bool) → (p ≡ true → Passes test f) → (q ≡ true → Passes test g) → (p || q) ≡ true → Passes test (λ y. f y || g y)
in_either test f g true q h k e = in_first test f g (h refl)
in_either test f g false q h k e = in_second test f g (k e)

in_target : (test : Name → Bool) (x : Option Name) → target_passes test x ≡ true → Passes test (λ y. is_target y x)
in_target test None h = absurd (false≢true h)
in_target test (Some x) h = this_one test x h

some_passes : (test : Name → Bool) (a : Simpl) → assigns_some test a ≡ true → Passes test (λ y. assigns y a)
some_passes test (Set x e) h = this_one test x h
some_passes test (Pick x) h = this_one test x h
some_passes test (Seq a b) h = in_either test (λ y. assigns y a) (λ y. assigns y b) (assigns_some test a) (assigns_some test b) (some_passes test a) (some_passes test b) h
some_passes test (Cond e a b) h = in_either test (λ y. assigns y a) (λ y. assigns y b) (assigns_some test a) (assigns_some test b) (some_passes test a) (some_passes test b) h
some_passes test (Guard c a) h = some_passes test a h
some_passes test (Catch a b) h = in_either test (λ y. assigns y a) (λ y. assigns y b) (assigns_some test a) (assigns_some test b) (some_passes test a) (some_passes test b) h
some_passes test (While cs e a) h = some_passes test a h
some_passes test (Call x f es) h = in_target test x h
some_passes _ _ h = absurd (false≢true h)

here : (test : Name → Bool) (y x : Name) → same_name y x ≡ true → test y ≡ true → test x ≡ true
here test y x h k = subst (λ z. test z ≡ true) (name_is y x h) k

pub either_there : (p q f g : Bool) → (f ≡ true → p ≡ true) → (g ≡ true → q ≡ true) → (f || g) ≡ true → (p || q) ≡ true
either_there p q true g h k e = or_left p q (h refl)
either_there p q false g h k e = or_right p q (k e)

target_there : (test : Name → Bool) (y : Name) (x : Option Name) → is_target y x ≡ true → test y ≡ true → target_passes test x ≡ true
target_there test y None h k = absurd (false≢true h)
target_there test y (Some x) h k = here test y x h k

there : (test : Name → Bool) (y : Name) (a : Simpl) → assigns y a ≡ true → test y ≡ true → assigns_some test a ≡ true
there test y (Set x e) h k = here test y x h k
there test y (Pick x) h k = here test y x h k
there test y (Seq a b) h k = either_there (assigns_some test a) (assigns_some test b) (assigns y a) (assigns y b) (λ e. there test y a e k) (λ e. there test y b e k) h
there test y (Cond e' a b) h k = either_there (assigns_some test a) (assigns_some test b) (assigns y a) (assigns y b) (λ e. there test y a e k) (λ e. there test y b e k) h
there test y (Guard c a) h k = there test y a h k
there test y (Catch a b) h k = either_there (assigns_some test a) (assigns_some test b) (assigns y a) (assigns y b) (λ e. there test y a e k) (λ e. there test y b e k) h
there test y (While cs e a) h k = there test y a h k
there test y (Call x f es) h k = target_there test y x h k
there _ _ _ h _ = absurd (false≢true h)

carried : (us : List Name) (needed : Name → Bool) (a : Simpl) → assigns_some (is_lost us needed) a ≡ false → Carries us a needed
carried us needed a h y k n = by_place (is_among y us) refl
  where
    by_place : (b : Bool) → is_among y us ≡ b → is_among y us ≡ true
    by_place true e = e
    by_place false e = absurd (false≢true (sym h ∙ there (is_lost us needed) y a k (and_from (not (is_among y us)) (needed y) (ap not e) n)))

none_is_lost : (us : List Name) (needed : Name → Bool) (a : Simpl) → Carries us a needed → assigns_some (is_lost us needed) a ≡ false
none_is_lost us needed a h = false_from_ne_true (assigns_some (is_lost us needed) a) (λ e. clash (some_passes (is_lost us needed) a e))
  where
    clash : Passes (is_lost us needed) (λ y. assigns y a) → ⊥
    clash p =
        let parts = and_parts (not (is_among p.name us)) (needed p.name) p.passes in
        false≢true (ap not (sym (h p.name p.assigned parts.1)) ∙ parts.0)

pub none_lost : (us : List Name) (needed : Name → Bool) (a : Simpl) (b : Bool) → b ≡ assigns_some (is_lost us needed) a → (not b ≡ true) ↔ Carries us a needed
none_lost us needed a b e = (
  (λ h. carried us needed a (sym e ∙ not-true b h)),
  (λ h. ap not (e ∙ none_is_lost us needed a h)),
)

target_is : (y : Name) (x : Option Name) → target_passes (same_name y) x ≡ is_target y x
target_is y None = refl
target_is y (Some x) = refl

-- the test whether a name is this one passes where the command assigns it
pub assigns_is : (y : Name) (a : Simpl) → assigns_some (same_name y) a ≡ assigns y a
assigns_is y (Seq a b) = ap₂ (λ p q. p || q) (assigns_is y a) (assigns_is y b)
assigns_is y (Cond e a b) = ap₂ (λ p q. p || q) (assigns_is y a) (assigns_is y b)
assigns_is y (Guard c a) = assigns_is y a
assigns_is y (Catch a b) = ap₂ (λ p q. p || q) (assigns_is y a) (assigns_is y b)
assigns_is y (While cs e a) = assigns_is y a
assigns_is y (Call x f es) = target_is y x
assigns_is _ _ = refl
