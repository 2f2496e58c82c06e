-- What the members that the code has gathered stand for.
use Rattle.std.specs.Prelude.{List, map}
use Rattle.c_values.specs.CodeLayout.{member_of}
use Rattle.c_values.specs.Layout.{Member}
use Rattle.typing_scope.specs.declared.members.Fields.{Fields}

abbrev pub members_of : Fields → List Member
members_of fs = map member_of fs.members.entries
