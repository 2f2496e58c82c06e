-- A layout stored as plain data. A type is a chain of pointers and arrays around a last type.
use Rattle.std.specs.Prelude.{◌≡◌, ℕ, ◌==◌, Bool, true, false, List, [], ◌∷◌, Option, Some, None, if◌then◌else◌, refl}
use Rattle.std.specs.Coded.{Coded, code_by, coded×, coded_ℕ, coded_bool, coded_list, coded_option}
use Rattle.std.proofs.Common.{ap}
use Rattle.c_values.specs.Name.{Name}
use Rattle.c_values.specs.Types.{Target, Ilp32, Lp64, IntType, Char, SChar, UChar, Short, UShort, Int, UInt, Long, ULong, LLong, ULLong, number_of, CType, Integer, Void, Ptr, Struct, Array}
use Rattle.c_values.specs.Layout.{Layout, Member, StructDef}

abbrev int_type_at : ℕ → IntType
int_type_at n =
    if n == 0 then Char else (if n == 1 then SChar else (if n == 2 then UChar else (if n == 3 then Short else (if n == 4 then UShort else
    (if n == 5 then Int else (if n == 6 then UInt else (if n == 7 then Long else (if n == 8 then ULong else (if n == 9 then LLong else ULLong)))))))))

-- the pointers and the arrays' lengths around the last type
abbrev around : CType → List (Option ℕ)
around (Ptr t) = None ∷ around t
around (Array t n) = Some n ∷ around t
around (Integer i) = []
around Void = []
around (Struct x) = []

abbrev last : CType → ℕ × Name
last (Ptr t) = last t
last (Array t n) = last t
last (Integer i) = (number_of i, [])
last Void = (11, [])
last (Struct x) = (12, x)

abbrev last_type : ℕ × Name → CType
last_type p = if p.0 == 12 then Struct p.1 else (if p.0 == 11 then Void else Integer (int_type_at p.0))

abbrev wrapped : List (Option ℕ) → CType → CType
wrapped [] t = t
wrapped (None ∷ os) t = Ptr (wrapped os t)
wrapped (Some n ∷ os) t = Array (wrapped os t) n

last_integer : (i : IntType) → last_type (number_of i, []) ≡ Integer i
last_integer Char = refl
last_integer SChar = refl
last_integer UChar = refl
last_integer Short = refl
last_integer UShort = refl
last_integer Int = refl
last_integer UInt = refl
last_integer Long = refl
last_integer ULong = refl
last_integer LLong = refl
last_integer ULLong = refl

pub wrapped_around : (t : CType) → wrapped (around t) (last_type (last t)) ≡ t
wrapped_around (Integer i) = last_integer i
wrapped_around Void = refl
wrapped_around (Struct x) = refl
wrapped_around (Ptr t) = ap (λ u. Ptr u) (wrapped_around t)
wrapped_around (Array t n) = ap (λ u. Array u n) (wrapped_around t)

abbrev pub type_code : Coded CType
type_code = code_by (List (Option ℕ) × (ℕ × Name)) (coded× (coded_list (coded_option coded_ℕ)) (coded× coded_ℕ (coded_list coded_ℕ))) (λ t. (around t, last t)) (λ p. wrapped p.0 (last_type p.1)) wrapped_around

abbrev member_code : Coded Member
member_code = code_by (Name × CType) (coded× (coded_list coded_ℕ) type_code) (λ m. (m.name, m.type)) (λ p. record { name = p.0; type = p.1 }) (λ _. refl)

abbrev struct_code : Coded StructDef
struct_code = code_by (Name × List Member) (coded× (coded_list coded_ℕ) (coded_list member_code)) (λ d. (d.name, d.members)) (λ p. record { name = p.0; members = p.1 }) (λ _. refl)

abbrev is_lp64 : Target → Bool
is_lp64 Ilp32 = false
is_lp64 Lp64 = true

abbrev target_where : Bool → Target
target_where false = Ilp32
target_where true = Lp64

pub target_where_lp64 : (t : Target) → target_where (is_lp64 t) ≡ t
target_where_lp64 Ilp32 = refl
target_where_lp64 Lp64 = refl

abbrev pub layout_code : Coded Layout
layout_code = code_by (Bool × List StructDef) (coded× coded_bool (coded_list struct_code)) (λ l. (is_lp64 l.target, l.structs)) (λ p. record { target = target_where p.0; structs = p.1 })
    (λ l. ap (λ t. record { target = t; structs = l.structs }) (target_where_lp64 l.target))
