-- What the code's scope stands for: its tables as functions, its blocks from the innermost on.
use Rattle.std.specs.Prelude.{List, map, reverse, string_bytes, String}
use Rattle.std.specs.Option.{option_map}
use Rattle.std.specs.HashMap.{HashMap, get_by_text}
use Rattle.std.specs.declared.hash.FoldHasher.{FoldHasher}
use Rattle.std.specs.declared.hash.BuildHasherDefault.{BuildHasherDefault}
use Rattle.std.specs.HashSet.{contains_text}
use Rattle.std.specs.declared.alloc.Global.{Global as Heap}
use Rattle.c_values.specs.CodeTypes.{type_of}
use Rattle.typing_scope.specs.declared.scope.Scope as S
use Rattle.typing_scope.specs.declared.scope.Entity as E
use Rattle.typing_scope.specs.declared.scope.Entity.TheVariants as V
use Rattle.typing_scope.specs.declared.scope.Tag as T
use Rattle.typing_scope.specs.declared.scope.Tag.TheVariants as W
use Rattle.typing_scope.specs.declared.file.File as D
use Rattle.typing_scope.specs.declared.file.GlobalSoFar as G
use Rattle.typing_rules.specs.Scope.{Scope, Names, Entity, Enumerator, Global, Function, Local, Hidden, Tag, StructTag, EnumTag}
use Rattle.typing_rules.specs.File.{File, GlobalSoFar}
use Rattle.typing_rules.specs.CodeProgress.{progress_of}

abbrev pub tag_of : T.Tag → Tag
tag_of W.Struct = StructTag
tag_of W.Enum = EnumTag

abbrev pub entity_of : E.Entity → Entity
entity_of (V.Enumerator n) = Enumerator n
entity_of (V.Global t) = Global (type_of t)
entity_of (V.Function r ps) = Function (option_map type_of r) (map type_of ps.items)
entity_of (V.Local x t) = Local (string_bytes x) (type_of t)
entity_of V.Hidden = Hidden

abbrev pub global_of : String Heap × G.GlobalSoFar → GlobalSoFar
global_of g = record { name = string_bytes g.0; type = type_of g.1.ty; is_defined = g.1.is_defined; initial = g.1.initial }

abbrev pub file_of : D.File → File
file_of f = record {
  with_body = λ x. contains_text f.with_body x;
  with_body_so_far = λ x. contains_text f.with_body_so_far x;
  globals = map global_of f.globals.entries;
}

-- the names of a block
abbrev pub names_of : HashMap (String Heap) E.Entity (BuildHasherDefault FoldHasher) → Names
names_of m x = option_map entity_of (get_by_text m x)

-- the blocks, from the innermost on
abbrev pub blocks_of : List (HashMap (String Heap) E.Entity (BuildHasherDefault FoldHasher)) → List Names
blocks_of bs = reverse (map names_of bs)

abbrev pub scope_of : S.Scope → Scope
scope_of s = record {
  layout = s.layout;
  tags = λ x. option_map tag_of (get_by_text s.tags x);
  unnamed = s.unnamed;
  typedefs = λ x. option_map type_of (get_by_text s.typedefs x);
  blocks = blocks_of s.blocks.items;
  file = file_of s.file;
  progress = progress_of s.progress;
  folds_cast = s.folds_cast;
}
