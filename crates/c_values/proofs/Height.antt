-- No type contains itself: a part of a shape is less high than the whole.
use Rattle.std.proofs.Common.{ℕ, suc, ◌≤◌, max, List, arith, le_refl}
use Rattle.c_values.specs.Layout.{Shape, Incomplete, Scalar, Record, Row, Fields, no_fields, field}
use Rattle.c_values.specs.Path.{Step}
use Rattle.c_values.proofs.Leads.{IsNth, first, next, Leads, ends, by_member, by_element}

abbrev mutual
  pub height : Shape → ℕ
  height Incomplete = 0
  height (Scalar t width) = 0
  height (Record x n align fs) = suc (highest fs)
  height (Row e n) = suc (height e)

  pub highest : Fields → ℕ
  highest no_fields = 0
  highest (field at s fs) = max (height s) (highest fs)

pub nth_lower : {k at : ℕ} {s : Shape} {fs : Fields} → IsNth fs k at s → height s ≤ highest fs
nth_lower (first {at} {s} {fs}) = omega arith
nth_lower (next {s} {s' = t} {fs} m) = let h = nth_lower m in omega (arith, h)

pub leads_lower : {s s' : Shape} {ps : List Step} {d : ℕ} → Leads s ps d s' → height s' ≤ height s
leads_lower (ends {s}) = le_refl (height s)
leads_lower (by_member m p) = omega (arith, nth_lower m, leads_lower p)
leads_lower (by_element m p) = omega (arith, leads_lower p)
