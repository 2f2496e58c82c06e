-- What a walk does to a sequence before it is turned, by how many times it goes to a second part.
use Rattle.std.proofs.Common.{◌≡◌, ℕ, zero, suc, ◌-◌, refl, ap, arith}
use Rattle.c_values.specs.Name.{Name}
use Rattle.std.specs.Prelude.{List}
use Rattle.monad_lang.specs.Program as M
use Rattle.monad_lang.specs.Program.{Mon}
use Rattle.rule_walks.specs.Balanced.{Chain}
use Rattle.rule_walks.specs.Walk.{Walk, Second, Goes, stays, seconds}
use Rattle.polish.specs.Seen.{SeenParted, seen_parted}

abbrev pub all_before : Walk → Mon → SeenParted
all_before w c = record { before = w; second = c; walk = stays }

pub none_parted : (m c : Mon) → all_before stays c ≡ seen_parted stays m c
none_parted m c = refl

pub first_parted : (k : ℕ) (d : Chain) (m c : Mon) → k ≡ 0 → all_before (seconds k (Goes d)) c ≡ seen_parted (seconds k (Goes d)) m c
first_parted zero d m c h = refl
first_parted (suc k) d m c h = absurd (omega (arith, h))

pub second_parted : (k : ℕ) (d : Chain) (a : Mon) (zs : List Name) (b c : Mon) → (k ≡ 0 → ⊥) →
    ◌≡◌ {A = SeenParted} (record { before = stays; second = b; walk = seconds (k - 1) (Goes d) })
    (seen_parted (seconds k (Goes d)) (M.Bind a zs b) c)
second_parted zero d a zs b c h = absurd (h refl)
second_parted (suc k) d a zs b c h = ap there (omega arith)
  where
    there : ℕ → SeenParted
    there j = record { before = stays; second = b; walk = seconds j (Goes d) }

abbrev pub IsOther : Mon → Type 0
IsOther (M.Bind a zs b) = ⊥
IsOther m = Unit {0}

pub other_parted : (w : Walk) (m c : Mon) → IsOther m → all_before w c ≡ seen_parted w m c
other_parted (Second ts w) (M.Bind a zs b) c h = absurd h
other_parted _ _ _ _ = refl
