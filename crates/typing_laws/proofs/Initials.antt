-- What a global begins with has the shape of its type.
use Rattle.std.proofs.Common.{◌≡◌, ℕ, ◌+◌, ◌^◌, ◌<◌, true, List, [], ◌∷◌, map, Option, Some, None, ℤ, pos, negsuc, refl, arith}
use Rattle.std.proofs.lemmas.Bool.{false≢true}
use Rattle.std.proofs.lemmas.Nat.{mod_below, pow_pos}
use Rattle.std.specs.Int.{int_rem_euclid}
use Rattle.c_values.specs.Types.{CType, Integer, Ptr}
use Rattle.c_values.specs.Number.{natural}
use Rattle.c_values.specs.Word.{IsWord, word}
use Rattle.c_values.specs.Value.{Bits}
use Rattle.c_values.specs.Layout.{Layout, IsLayout, Shape, Incomplete, Scalar, Record, Row, Fields, no_fields, field, size, shape_of, is_complete, is_object, is_scalar, scalar_width}
use Rattle.c_values.specs.Path.{zeros, member_zeros, HasShape, AreMembers}
use Rattle.c_values.proofs.Formed.{IsFormed, AreFormed}
use Rattle.c_values.proofs.Laid.{shape_good}
use Rattle.c_values.proofs.Shaped.{copies_shaped}
use Rattle.typing_rules.specs.File.{GlobalSoFar}
use Rattle.typing_rules.specs.Scope.{Names}
use Rattle.typing_rules.specs.Unit.{initial_value, global_var}
use Rattle.c_lang.specs.WellTyped.{AreInitialised}
use Rattle.typing_laws.proofs.Tests.{left}
use Rattle.typing_laws.proofs.Scopes.{GlobalsFit, AreScalars}

remainder_below : (z : ℤ) (m : ℕ) → 0 < m → natural (int_rem_euclid z (pos m)) < m
remainder_below (pos a) m h = mod_below a m h
remainder_below (negsuc a) m h = omega (arith, mod_below a m h)

is_word : (n : ℕ) (z : ℤ) → IsWord n (word n z)
is_word n z = record { has_width = refl; fits = remainder_below z (2 ^ n) (pow_pos n) }

mutual
  zeros_shaped : (s : Shape) → IsFormed s → HasShape s (zeros s)
  zeros_shaped Incomplete f = absurd f
  zeros_shaped (Scalar t width) f = is_word width (pos 0)
  zeros_shaped (Record x n align fs) f = member_zeros_shaped fs align n 0 f.members
  zeros_shaped (Row e n) f = copies_shaped (λ v. HasShape e v) n (zeros e) (zeros_shaped e f.element)

  member_zeros_shaped : (fs : Fields) (align n at : ℕ) → AreFormed align n at fs → AreMembers fs (member_zeros fs)
  member_zeros_shaped no_fields align n at f = tt
  member_zeros_shaped (field offset s fs) align n at f = (zeros_shaped s f.first, member_zeros_shaped fs align n (offset + size s) f.others)

number_shaped : (l : Layout) (t : CType) (n : ℤ) → is_scalar t ≡ true → HasShape (shape_of l t) (Bits (word (scalar_width l.target t) n))
number_shaped l (Integer i) n h = is_word (scalar_width l.target (Integer i)) n
number_shaped l (Ptr t) n h = is_word (scalar_width l.target (Ptr t)) n
number_shaped _ _ _ h = absurd (false≢true h)

begins : (l : Layout) (t : CType) → IsLayout l → is_object l t ≡ true → (o : Option ℤ) → ((n : ℤ) → o ≡ Some n → is_scalar t ≡ true) → HasShape (shape_of l t) (initial_value l t o)
begins l t i h None s = zeros_shaped (shape_of l t) (shape_good l i t (left (is_complete (shape_of l t)) _ h)).formed
begins l t i h (Some n) s = number_shaped l t n (s n refl)

pub globals_begin : (l : Layout) → IsLayout l → (file : Names) (gs : List GlobalSoFar) → GlobalsFit l file gs → AreScalars gs → AreInitialised l (map (global_var l) gs)
globals_begin l i file [] h s = tt
globals_begin l i file (g ∷ gs) h s = (begins l g.type i h.1 g.initial s.0, globals_begin l i file gs h.2 s.1)
