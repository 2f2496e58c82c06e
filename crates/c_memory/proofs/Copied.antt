-- A copy of pages has the same bytes.
use Rattle.std.proofs.Common.{◌≡◌, ℕ, ◌/◌, ◌%◌, ◌<◌, nat_eq, List, Option, Some, None, MatchOption, slice_index, ap, arith}
use Rattle.std.specs.Prelude.{IsSomeAnd}
use Rattle.std.proofs.Math.Path.{fun_ext}
use Rattle.std.proofs.lemmas.Nat.{mod_below}
use Rattle.std.proofs.lemmas.Map.Entries.{lookup_clone}
use Rattle.std.specs.HashMap.{IsClone, get}
use Rattle.c_memory.specs.CodePages.{Pages, page_size, page_byte, byte_at}

pub same_bytes : (C : ℕ → ℕ → Type 0) (D : List ℕ → List ℕ → Type 0) → ((x y : ℕ) → C x y → y ≡ x) → ((xs ys : List ℕ) → D xs ys → (i : ℕ) → i < 256 → slice_index ys i ≡ slice_index xs i) →
    (old new : Pages) → IsClone C D old new → byte_at new ≡ byte_at old
same_bytes C D keys pages old new clone = fun_ext (λ a. by_page (a % page_size) (mod_below a 256 (omega arith)) (get nat_eq old (a / page_size)) (get nat_eq new (a / page_size))
    (lookup_clone C D (λ k. nat_eq (a / page_size) k) (λ x y c. ap (λ k. nat_eq (a / page_size) k) (keys x y c)) old.entries new.entries clone))
  where
    by_page : (i : ℕ) → i < 256 → (o p : Option (List ℕ)) → MatchOption o (p ≡ None) (λ v. IsSomeAnd p (D v)) → page_byte p i ≡ page_byte o i
    by_page i lt None p h = ap (λ q. page_byte q i) h
    by_page i lt (Some xs) None h = absurd h
    by_page i lt (Some xs) (Some ys) h = pages xs ys h i lt
