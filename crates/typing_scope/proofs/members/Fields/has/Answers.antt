-- The keys of the map are the names of the members.
use Rattle.std.proofs.Common.{◌∙◌}
use Rattle.typing_scope.proofs.MemberNames.{name_found}
use Rattle.typing_scope.proofs.members.Fields.has.Goals as goal

pub returns : goal.returns
returns c = c.contains_key.ensures ∙ name_found c.args.self.now.members c.args.name.now
