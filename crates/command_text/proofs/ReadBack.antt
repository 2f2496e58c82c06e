-- What the answers of the reader say of a tree.
use Rattle.std.proofs.Common.{◌≡◌, ℕ, Ok, refl, ap, sym, ◌∙◌}
use Rattle.ac_sx.specs.Tree.{Tree}
use Rattle.expression_text.specs.declared.fault.TextFault.{TextFault}
use Rattle.expression_text.specs.declared.fault.TextFault.TheVariants as F
use Rattle.expression_text.specs.CodeFault.{Fails}
use Rattle.expression_text.proofs.Behind.{behind, value_ok}
use Rattle.simpl_lang.specs.Command.{Simpl}
use Rattle.command_text.specs.CommandText.{command_tree}
use Rattle.command_text.specs.CommandReading.{command_at}
use Rattle.command_text.specs.Answer.{IsCommandText}
use Rattle.command_text.proofs.CommandLaws.{command_reads, command_spells}

pub command_found : {c : Simpl} {n : ℕ} (t : Tree) → command_at 0 t ≡ Ok (c, n) → IsCommandText t c
command_found {c = c} {n = n} t read = let h = command_spells t 0 c n read in (h.0, h.1)

command_given_text : (c : Simpl) (t : Tree) → IsCommandText t c → command_at 0 t ≡ Ok (c, behind 0 (command_tree c))
command_given_text c t is = ap (command_at 0) is.0 ∙ command_reads c is.1 0

pub command_only : {d : Simpl} {n : ℕ} (c : Simpl) (t : Tree) → command_at 0 t ≡ Ok (d, n) → IsCommandText t c → d ≡ c
command_only {d = d} {n = n} c t read is = value_ok d n c (behind 0 (command_tree c)) (sym read ∙ command_given_text c t is)

-- no text of a command is refused
pub command_not_refused : (c : Simpl) (t : Tree) (fault : TextFault) → Fails fault (command_at 0 t) → IsCommandText t c → fault ≡ F.Memory
command_not_refused c t (F.Shape at) bad is = absurd (let read = sym bad ∙ command_given_text c t is in cc)
command_not_refused c t F.Memory bad is = refl
command_not_refused c t F.NotText bad is = absurd bad
command_not_refused c t F.Deep bad is = absurd bad
