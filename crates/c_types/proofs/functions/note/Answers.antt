-- A set that has one name more.
use Rattle.std.proofs.Common.{true, string_bytes}
use Rattle.std.proofs.Math.Path.{fun_ext}
use Rattle.std.proofs.lemmas.Map.Text.{hash_set_updates_text}
use Rattle.c_types.proofs.functions.note.Goals as goal

pub returns : goal.returns
returns c =
    fun_ext (hash_set_updates_text (string_bytes c.args.name) c.args.names.now c.insert.new.self true c.in_ok-insert.ensures.updates)
