-- A key that isn't there goes last.
use Rattle.std.proofs.Common.{◌∙◌, string_bytes}
use Rattle.typing_scope.proofs.MemberNames.{member_behind, name_found}
use Rattle.typing_scope.proofs.members.Fields.with.Goals as goal

pub returns : goal.returns
returns c =
    member_behind c.args.self.members c.insert.new.self c.args.name c.args.ty
    (name_found c.args.self.members (string_bytes c.args.name) ∙ c.requires)
    c.in_ok-insert.ensures.entries
