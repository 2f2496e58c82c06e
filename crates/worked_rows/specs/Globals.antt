-- int g[4]; int put(int i, int v){g[i]=v; return g[i];}
use Rattle.std.specs.Prelude.{[], ◌∷◌, Some, ℤ, pos, codes}
use Rattle.c_values.specs.Types.{Array}
use Rattle.c_values.specs.Value.{Parts, more, no_values}
use Rattle.c_lang.specs.Typed.{Local, Value, Place, InGlobal, Element, Here, ToPlace, Assign, Return, TypedUnit}
use Rattle.worked_rows.specs.Trees.{int, value, variable, function, layout}
use Rattle.worked_rows.specs.Claims.{Case, call, no_memory}

abbrev pub place : Place
place = InGlobal (codes "g") (Element 4 (Local (codes "i") int) Here) int

abbrev pub unit : TypedUnit
unit = record {
  layout = layout [];
  globals = record { name = codes "g"; type = Array int 4; initial = Parts (more (value (pos 0)) (more (value (pos 0)) (more (value (pos 0)) (more (value (pos 0)) no_values)))) } ∷ [];
  functions = function (codes "put") (Some int) (variable (codes "i") int ∷ variable (codes "v") int ∷ []) []
      (Assign (ToPlace place) (Local (codes "v") int) ∷ Return (Value place) ∷ []) ∷ [];
}

abbrev pub putting : ℤ → ℤ → Case
putting i v = call unit (codes "put") (value i ∷ value v ∷ []) no_memory
