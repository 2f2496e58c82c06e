-- A page of zeros is as good as none.
use Rattle.std.proofs.Common.{◌≡◌, ℕ, suc, ◌/◌, ◌%◌, nat_eq, cond, Bool, true, false, Option, Some, None, is_some, replicate, slice_index, refl, sym, ap, ◌∙◌, eqb-true}
use Rattle.std.proofs.Math.Path.{fun_ext}
use Rattle.std.specs.HashMap.{get}
use Rattle.c_memory.specs.CodePages.{Pages, page_size, page_byte, byte_at}

zero_in : (n i : ℕ) → slice_index (replicate n 0) i ≡ 0
zero_in (suc n) (suc i) = zero_in n i
zero_in _ _ = refl

no_byte : (o : Option _) (i : ℕ) → is_some o ≡ false → page_byte o i ≡ 0
no_byte None i h = refl
no_byte (Some page) i h = absurd cc

pub page_taken : (old new : Pages) (n : ℕ) → is_some (get nat_eq old n) ≡ false → ((q : ℕ) → get nat_eq new q ≡ cond (nat_eq n q) (Some (replicate 256 0)) (get nat_eq old q)) → byte_at new ≡ byte_at old
page_taken old new n absent updates = fun_ext (λ x. ap (λ o. page_byte o (x % page_size)) (updates (x / page_size)) ∙ by_page (x / page_size) (x % page_size) (nat_eq n (x / page_size)) refl)
  where
    by_page : (q i : ℕ) (b : Bool) → nat_eq n q ≡ b → page_byte (cond b (Some (replicate 256 0)) (get nat_eq old q)) i ≡ page_byte (get nat_eq old q) i
    by_page q i true e =
        let same : n ≡ q = eqb-true n q e in
        zero_in 256 i ∙ sym (no_byte (get nat_eq old q) i (ap (λ k. is_some (get nat_eq old k)) (sym same) ∙ absent))
    by_page q i false e = refl
