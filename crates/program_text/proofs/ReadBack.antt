-- What the answers of the readers say of a tree.
use Rattle.std.proofs.Common.{◌≡◌, ℕ, Ok, refl, ap, sym, ◌∙◌}
use Rattle.ac_sx.specs.Tree.{Tree}
use Rattle.expression_text.specs.declared.fault.TextFault.{TextFault}
use Rattle.expression_text.specs.declared.fault.TextFault.TheVariants as F
use Rattle.expression_text.specs.CodeFault.{Fails}
use Rattle.expression_text.proofs.Behind.{behind, value_ok}
use Rattle.monad_lang.specs.Program.{Mon}
use Rattle.program_text.specs.MonText.{mon_tree}
use Rattle.program_text.specs.MonReading.{mon_at}
use Rattle.program_text.specs.Answer.{IsMonText}
use Rattle.program_text.proofs.MonLaws.{mon_reads, mon_spells}

pub mon_found : {m : Mon} {n : ℕ} (t : Tree) → mon_at 0 t ≡ Ok (m, n) → IsMonText t m
mon_found {m = m} {n = n} t read = let h = mon_spells t 0 m n read in (h.0, h.1)

pub mon_given_text : (m : Mon) (t : Tree) → IsMonText t m → mon_at 0 t ≡ Ok (m, behind 0 (mon_tree m))
mon_given_text m t is = ap (mon_at 0) is.0 ∙ mon_reads m is.1 0

pub mon_only : {o : Mon} {n : ℕ} (m : Mon) (t : Tree) → mon_at 0 t ≡ Ok (o, n) → IsMonText t m → o ≡ m
mon_only {o = o} {n = n} m t read is = value_ok o n m (behind 0 (mon_tree m)) (sym read ∙ mon_given_text m t is)

-- no text of a program is refused
pub mon_not_refused : (m : Mon) (t : Tree) (fault : TextFault) → Fails fault (mon_at 0 t) → IsMonText t m → fault ≡ F.Memory
mon_not_refused m t (F.Shape at) bad is = absurd (let read = sym bad ∙ mon_given_text m t is in cc)
mon_not_refused m t F.Memory bad is = refl
mon_not_refused m t F.NotText bad is = absurd bad
mon_not_refused m t F.Deep bad is = absurd bad
