-- Where paths of C lead.
use Rattle.std.proofs.Common.{◌≡◌, None, refl, ℕ, zero, suc, Some, subst, true}
use Rattle.std.proofs.lemmas.Bool.{false≢true}
use Rattle.c_values.specs.Layout.{Shape, Fields, no_fields, field}
use Rattle.c_values.proofs.Leads.{IsNth, first, next}
use Rattle.c_values.proofs.Options.{some_is}
use Rattle.c_values.specs.Types.{CType}
use Rattle.c_lang.specs.WellTyped.{shape_along, member_shape, leads_to}
use Rattle.c_lang.specs.Typed as C

pub none_along : (path : C.Path) → shape_along None path ≡ None
none_along C.Here = refl
none_along _ = refl

pub nth_member : (fs : Fields) (k : ℕ) (s : Shape) → member_shape fs k ≡ Some s → (at : ℕ) × IsNth fs k at s
nth_member no_fields k s e = absurd cc
nth_member (field at s' fs) zero s e = (at, subst (λ r. IsNth (field at s' fs) zero at r) (some_is e) first)
nth_member (field at s' fs) (suc k) s e = let r = nth_member fs k s e in (r.0, next r.1)

pub no_way : (path : C.Path) (u : CType) → leads_to (shape_along None path) u ≡ true → ⊥
no_way C.Here u h = false≢true h
no_way _ _ h = false≢true h
