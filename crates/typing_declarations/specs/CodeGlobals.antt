-- What the code's globals so far stand for.
use Rattle.std.specs.Prelude.{List, map, Some, ℤ, String}
use Rattle.indexmap.specs.IndexMap.{IndexMap}
use Rattle.std.specs.declared.alloc.Global.{Global as Heap}
use Rattle.std.specs.declared.hash.FoldHasher.{FoldHasher}
use Rattle.std.specs.declared.hash.BuildHasherDefault.{BuildHasherDefault}
use Rattle.c_values.specs.Name.{Name}
use Rattle.c_values.specs.CodeTypes.{type_of}
use Rattle.typing_scope.specs.declared.file.GlobalSoFar as G
use Rattle.typing_scope.specs.CodeScope.{global_of}
use Rattle.typing_rules.specs.File.{GlobalSoFar}

-- a global of this name
abbrev pub global_at : Name → G.GlobalSoFar → GlobalSoFar
global_at x g = record { name = x; type = type_of g.ty; is_defined = g.is_defined; initial = g.initial }

abbrev pub globals_of : IndexMap (String Heap) G.GlobalSoFar (BuildHasherDefault FoldHasher) → List GlobalSoFar
globals_of m = map global_of m.entries

-- the same with a value that it begins with
abbrev pub initialised_with : ℤ → GlobalSoFar → GlobalSoFar
initialised_with n g = record g { initial = Some n }
