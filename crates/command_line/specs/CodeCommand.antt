-- What the code's commands stand for.
use Rattle.std.specs.Prelude.{map, string_bytes}
use Rattle.c_values.specs.CodeTypes.{target_of}
use Rattle.command_line.specs.Words as W
use Rattle.command_line.specs.Words.{Form, AsTree, AsLines, AsCertificate}
use Rattle.command_line.specs.declared.command.Writing.{Writing}
use Rattle.command_line.specs.declared.command.Writing.TheVariants as F
use Rattle.command_line.specs.declared.command.Command.{Command}
use Rattle.command_line.specs.declared.command.Command.TheVariants as C

abbrev pub form_in : Writing → Form
form_in F.Tree = AsTree
form_in F.Notation = AsLines
form_in F.Certificate = AsCertificate

abbrev pub command_in : Command → W.Command
command_in (C.Write writing file options) = W.Write (form_in writing) file.now (map string_bytes options.now)
command_in (C.Check file certificate target) = W.Check file.now certificate.now (target_of target)
command_in (C.Run file certificate memory target) = W.Run file.now certificate.now memory.now (target_of target)
command_in (C.Prove file certificate triples target) = W.Prove file.now certificate.now triples.now (target_of target)
command_in (C.Sample n) = W.Sample n
command_in (C.Trial n target) = W.Trial n (target_of target)
