-- Which values have a type, worked out from the table.
use Rattle.std.proofs.Common.{◌≡◌, ℕ, zero, suc, ◌^◌, ◌<◌, ◌≤◌, Bool, true, false, not, ◌||◌, ltb, sym, ◌∙◌, ⊎_elim, arith}
use Rattle.std.proofs.str.Laws.{order}
use Rattle.std.proofs.lemmas.Bool.Decides.{nat_tests}
use Rattle.c_lex.specs.Number.{Target, ilp32, lp64, has_type}

pub has_type_is : (target : Target) (decimal unsigned : Bool) (longs value : ℕ) → value < 2 ^ 64 → has_type target decimal unsigned longs value ≡ (ltb value (2 ^ 63) || not decimal || unsigned)
has_type_is ilp32 true false zero v h = grind (arith, nat_tests)
has_type_is ilp32 true false (suc zero) v h = grind (arith, nat_tests)
has_type_is ilp32 true false (suc (suc n)) v h = grind (arith, nat_tests)
has_type_is ilp32 false false zero v h = grind (arith, nat_tests)
has_type_is ilp32 false false (suc zero) v h = grind (arith, nat_tests)
has_type_is ilp32 false false (suc (suc n)) v h = grind (arith, nat_tests)
has_type_is ilp32 true true zero v h = grind (arith, nat_tests)
has_type_is ilp32 true true (suc zero) v h = grind (arith, nat_tests)
has_type_is ilp32 true true (suc (suc n)) v h = grind (arith, nat_tests)
has_type_is ilp32 false true zero v h = grind (arith, nat_tests)
has_type_is ilp32 false true (suc zero) v h = grind (arith, nat_tests)
has_type_is ilp32 false true (suc (suc n)) v h = grind (arith, nat_tests)
has_type_is lp64 true false zero v h = grind (arith, nat_tests)
has_type_is lp64 true false (suc zero) v h = grind (arith, nat_tests)
has_type_is lp64 true false (suc (suc n)) v h = grind (arith, nat_tests)
has_type_is lp64 false false zero v h = grind (arith, nat_tests)
has_type_is lp64 false false (suc zero) v h = grind (arith, nat_tests)
has_type_is lp64 false false (suc (suc n)) v h = grind (arith, nat_tests)
has_type_is lp64 true true zero v h = grind (arith, nat_tests)
has_type_is lp64 true true (suc zero) v h = grind (arith, nat_tests)
has_type_is lp64 true true (suc (suc n)) v h = grind (arith, nat_tests)
has_type_is lp64 false true zero v h = grind (arith, nat_tests)
has_type_is lp64 false true (suc zero) v h = grind (arith, nat_tests)
has_type_is lp64 false true (suc (suc n)) v h = grind (arith, nat_tests)

pub has_type_past : (target : Target) (decimal unsigned : Bool) (longs value : ℕ) → 2 ^ 64 ≤ value → has_type target decimal unsigned longs value ≡ false
has_type_past ilp32 true false zero v h = grind (arith, nat_tests)
has_type_past ilp32 true false (suc zero) v h = grind (arith, nat_tests)
has_type_past ilp32 true false (suc (suc n)) v h = grind (arith, nat_tests)
has_type_past ilp32 false false zero v h = grind (arith, nat_tests)
has_type_past ilp32 false false (suc zero) v h = grind (arith, nat_tests)
has_type_past ilp32 false false (suc (suc n)) v h = grind (arith, nat_tests)
has_type_past ilp32 true true zero v h = grind (arith, nat_tests)
has_type_past ilp32 true true (suc zero) v h = grind (arith, nat_tests)
has_type_past ilp32 true true (suc (suc n)) v h = grind (arith, nat_tests)
has_type_past ilp32 false true zero v h = grind (arith, nat_tests)
has_type_past ilp32 false true (suc zero) v h = grind (arith, nat_tests)
has_type_past ilp32 false true (suc (suc n)) v h = grind (arith, nat_tests)
has_type_past lp64 true false zero v h = grind (arith, nat_tests)
has_type_past lp64 true false (suc zero) v h = grind (arith, nat_tests)
has_type_past lp64 true false (suc (suc n)) v h = grind (arith, nat_tests)
has_type_past lp64 false false zero v h = grind (arith, nat_tests)
has_type_past lp64 false false (suc zero) v h = grind (arith, nat_tests)
has_type_past lp64 false false (suc (suc n)) v h = grind (arith, nat_tests)
has_type_past lp64 true true zero v h = grind (arith, nat_tests)
has_type_past lp64 true true (suc zero) v h = grind (arith, nat_tests)
has_type_past lp64 true true (suc (suc n)) v h = grind (arith, nat_tests)
has_type_past lp64 false true zero v h = grind (arith, nat_tests)
has_type_past lp64 false true (suc zero) v h = grind (arith, nat_tests)
has_type_past lp64 false true (suc (suc n)) v h = grind (arith, nat_tests)

pub targets_agree : (decimal unsigned : Bool) (longs value : ℕ) → has_type ilp32 decimal unsigned longs value ≡ has_type lp64 decimal unsigned longs value
targets_agree d u n v =
    ⊎_elim
    (λ below. has_type_is ilp32 d u n v below ∙ sym (has_type_is lp64 d u n v below))
    (λ past. has_type_past ilp32 d u n v past ∙ sym (has_type_past lp64 d u n v past))
    (order v (2 ^ 64))
