-- Kinds and levels that are found to be the same.
use Rattle.std.proofs.Common.{◌≡◌, true, refl, ap, Bool, false, cond, List, [], ◌∷◌, Some, subst}
use Rattle.std.proofs.lemmas.Bool.{false≢true, eqb-true, and_parts}
use Rattle.c_values.specs.Name.{Name, same_name}
use Rattle.c_values.proofs.Options.{some_is, none_is}
use Rattle.expression_lang.specs.Sort.{Kind, WordKind, NatKind, IntKind, BoolKind, is_kind, are_kinds, Level, Bytes, Words, Numbers}
use Rattle.expression_lang.specs.Signature.{Binder, kinds_of}
use Rattle.simpl_lang.specs.Sorted.{same_kind, same_level}
use Rattle.simpl_lang.specs.Command.{kind_of}

pub same_kind_is : (k j : Kind) → same_kind k j ≡ true → k ≡ j
same_kind_is (WordKind m) (WordKind n) h = ap (λ i. WordKind i) (eqb-true m n h)
same_kind_is (NatKind m) (NatKind n) h = ap (λ i. NatKind i) (eqb-true m n h)
same_kind_is (IntKind m) (IntKind n) h = ap (λ i. IntKind i) (eqb-true m n h)
same_kind_is BoolKind BoolKind h = refl
same_kind_is _ _ h = absurd (false≢true h)

pub local_is_kind : (bs : List Binder) (x : Name) (k : Kind) → are_kinds (kinds_of bs) ≡ true → kind_of bs x ≡ Some k → is_kind k ≡ true
local_is_kind [] x k h e = none_is e
local_is_kind (b ∷ bs) x k h e = let p = and_parts (is_kind b.kind) (are_kinds (kinds_of bs)) h in by_test (same_name b.name x) e p.0 (local_is_kind bs x k p.1)
  where
    by_test : (t : Bool) → cond t (Some b.kind) (kind_of bs x) ≡ Some k → is_kind b.kind ≡ true → (kind_of bs x ≡ Some k → is_kind k ≡ true) → is_kind k ≡ true
    by_test true j h r = subst (λ i. is_kind i ≡ true) (some_is j) h
    by_test false j h r = r j

pub same_level-refl : (level : Level) → same_level level level ≡ true
same_level-refl Bytes = refl
same_level-refl _ = refl

pub level_is : (a b : Level) → same_level a b ≡ true → a ≡ b
level_is Bytes Bytes h = refl
level_is Words Words h = refl
level_is Numbers Numbers h = refl
level_is _ _ h = absurd (false≢true h)
