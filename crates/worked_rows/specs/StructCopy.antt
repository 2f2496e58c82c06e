-- struct p{unsigned char a; unsigned b;}; void cp(struct p *d, struct p *s){*d=*s;}
-- void bc(struct p *d, unsigned *s){cp(d, (struct p *)s);}
use Rattle.std.specs.Prelude.{ℕ, List, [], ◌∷◌, None, pos, codes, if◌then◌else◌}
use Rattle.c_values.specs.Types.{UChar, CType, Integer, Ptr, Struct}
use Rattle.c_values.specs.Name.{Name, same_name}
use Rattle.c_values.specs.Value.{Value as V, Parts, more, no_values}
use Rattle.c_values.specs.Layout.{StructDef}
use Rattle.c_memory.specs.Memory.{Memory}
use Rattle.expression_lang.specs.Sort.{Level, Bytes, Numbers}
use Rattle.c_lang.specs.Typed.{Expr, Local, Value, Convert, Place, Through, Here, ToPlace, Assign, NoResult, Call, TypedUnit}
use Rattle.worked_rows.specs.Trees.{uint, value, char_value, variable, function, unit_of}
use Rattle.worked_rows.specs.Claims.{Case, call, bytes_from, zeros, tag}

abbrev pub p : CType
p = Struct (codes "p")

abbrev pub p_struct : StructDef
p_struct = record { name = codes "p"; members = record { name = codes "a"; type = Integer UChar } ∷ record { name = codes "b"; type = uint } ∷ [] }

abbrev pub pointer : Name → Expr
pointer x = Local x (Ptr p)

abbrev pub behind : Name → Place
behind x = Through p (pointer x) Here p

abbrev pub unit : TypedUnit
unit = unit_of (p_struct ∷ [])
    (function (codes "cp") None (variable (codes "d") (Ptr p) ∷ variable (codes "s") (Ptr p) ∷ []) []
    (Assign (ToPlace (behind (codes "d"))) (Value (behind (codes "s"))) ∷ [])
    ∷ function (codes "bc") None (variable (codes "d") (Ptr p) ∷ variable (codes "s") (Ptr uint) ∷ []) []
    (Call 1 (codes "cp") (pointer (codes "d") ∷ Convert (Ptr p) (Local (codes "s") (Ptr uint)) ∷ []) NoResult ∷ []) ∷ [])

-- (1, 2) at 4096 and (3, 4) at 4104, with padding of their own
abbrev pub memory : Memory
memory = record {
  bytes = bytes_from 4096 (1 ∷ 170 ∷ 170 ∷ 170 ∷ 2 ∷ 0 ∷ 0 ∷ 0 ∷ 3 ∷ 187 ∷ 187 ∷ 187 ∷ 4 ∷ 0 ∷ 0 ∷ 0 ∷ []) zeros;
  tags = tag 4096 p ∷ tag 4104 p ∷ [];
}

abbrev pub copying : Name → Case
copying f = call unit f (value (pos 4104) ∷ value (pos 4096) ∷ []) memory

-- the second function converts a pointer, so it is on bytes
abbrev pub levels : Name → Level
levels x = if same_name x (codes "bc") then Bytes else Numbers

-- the copy keeps the padding where it goes
abbrev pub copied : List ℕ
copied = 1 ∷ 170 ∷ 170 ∷ 170 ∷ 2 ∷ 0 ∷ 0 ∷ 0 ∷ 1 ∷ 187 ∷ 187 ∷ 187 ∷ 2 ∷ 0 ∷ 0 ∷ 0 ∷ []

abbrev pub one_and_two : V
one_and_two = Parts (more (char_value (pos 1)) (more (value (pos 2)) no_values))
