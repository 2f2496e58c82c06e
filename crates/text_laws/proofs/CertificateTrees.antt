-- The tree of a certificate that has a text is a tree of atoms; so the text is its text, and no other certificate's.
use Rattle.std.proofs.Common.{◌≡◌, ◌≤◌, true, ◌&&◌, Option, Some, None, refl, sym, ap, ◌∙◌}
use Rattle.std.proofs.lemmas.Bool.{and_parts}
use Rattle.c_values.specs.Types.{Target, Ilp32, Lp64}
use Rattle.expression_lang.specs.Sort.{Level, Bytes, Words, Numbers}
use Rattle.ac_sx.specs.Tree.{Trees, IsTree, AreTrees, is_atom, depth, deepest}
use Rattle.ac_sx.proofs.Built.{one_file}
use Rattle.expression_text.specs.Names.{is_name}
use Rattle.expression_text.specs.Lists.{trees_for}
use Rattle.expression_text.proofs.Behind.{behind, value_ok}
use Rattle.expression_text.proofs.Atoms.{name_atom}
use Rattle.monad_lang.specs.Program.{Mon}
use Rattle.program_text.specs.MonText.{is_mon}
use Rattle.command_text.specs.CommandText.{is_command}
use Rattle.rule_heap.specs.Rule as H
use Rattle.rule_text.specs.ExceptionText as exceptions
use Rattle.rule_text.specs.LocalText as locals
use Rattle.rule_text.specs.HeapText as heaps
use Rattle.rule_text.specs.WordText as words
use Rattle.rule_text.specs.EqualityText as equality
use Rattle.acceptance.specs.Certificate.{Step, Steps}
use Rattle.certificate_text.specs.CertificateText.{target_word, level_word, heap_before, function_tree, is_heap, is_function, Version, One, Two, Certificate, version_trees, certificate_tree, certificate_text, is_certificate}
use Rattle.certificate_text.specs.CertificateReading.{certificate_at}
use Rattle.certificate_text.specs.Answer.{IsCertificateText}
use Rattle.certificate_text.proofs.CertificateLaws.{certificate_reads}
use Rattle.text_laws.proofs.ExpTrees.{each_is_tree}
use Rattle.text_laws.proofs.ProgramTrees.{mon_is_tree, command_is_tree}
use Rattle.text_laws.proofs.RuleTrees.{exception_is_tree, local_is_tree, heap_is_tree, word_is_tree, equality_is_tree}

level_atom : (l : Level) → is_atom (level_word l) ≡ true
level_atom Bytes = refl
level_atom _ = refl

target_atom : (t : Target) → is_atom (target_word t) ≡ true
target_atom Ilp32 = refl
target_atom Lp64 = refl

heap_are_trees : (l : Level) (o : Option (Step Mon H.Rule)) (ts : Trees) → is_heap l o ≡ true → AreTrees ts →
    AreTrees (heap_before o ts)
heap_are_trees l None ts h k = k
heap_are_trees Bytes (Some s) ts h k = absurd cc
heap_are_trees Words (Some s) ts h k =
    let p = and_parts (is_mon s.program) (heaps.is_tree s.tree) h in
    ((refl, (mon_is_tree s.program p.0, (heap_is_tree s.tree p.1, tt))), k)
heap_are_trees Numbers (Some s) ts h k =
    let p = and_parts (is_mon s.program) (heaps.is_tree s.tree) h in
    ((refl, (mon_is_tree s.program p.0, (heap_is_tree s.tree p.1, tt))), k)

function_is_tree : (c : Steps) → is_function c ≡ true → IsTree (function_tree c)
function_is_tree c h =
    let exception = is_command c.exception.program && exceptions.is_tree c.exception.tree in
    let local = is_mon c.local.program && locals.is_tree c.local.tree in
    let word = is_mon c.word.program && words.is_tree c.word.tree in
    let equal = is_mon c.equal.program && equality.is_tree c.equal.tree in
    let a = and_parts (is_name c.name && is_heap c.level c.heap) (exception && (local && (word && equal))) h in
    let b = and_parts (is_name c.name) (is_heap c.level c.heap) a.0 in
    let d = and_parts exception (local && (word && equal)) a.1 in
    let e = and_parts local (word && equal) d.1 in
    let f = and_parts word equal e.1 in
    let x = and_parts (is_command c.exception.program) (exceptions.is_tree c.exception.tree) d.0 in
    let l = and_parts (is_mon c.local.program) (locals.is_tree c.local.tree) e.0 in
    let w = and_parts (is_mon c.word.program) (words.is_tree c.word.tree) f.0 in
    let q = and_parts (is_mon c.equal.program) (equality.is_tree c.equal.tree) f.1 in (
      refl,
      (
        name_atom c.name b.0,
        (
          level_atom c.level,
          (
            (refl, (command_is_tree c.exception.program x.0, (exception_is_tree c.exception.tree x.1, tt))),
            (
              (refl, (mon_is_tree c.local.program l.0, (local_is_tree c.local.tree l.1, tt))),
              heap_are_trees c.level c.heap _ b.1 (
                (refl, (mon_is_tree c.word.program w.0, (word_is_tree c.word.tree w.1, tt))),
                ((refl, (mon_is_tree c.equal.program q.0, (equality_is_tree c.equal.tree q.1, tt))), tt),
              ),
            ),
          ),
        ),
      ),
    )

version_are_trees : (v : Version) (ts : Trees) → AreTrees ts → AreTrees (version_trees v ts)
version_are_trees One ts h = (refl, h)
version_are_trees (Two t) ts h = (refl, (target_atom t, h))

pub certificate_is_tree : (c : Certificate) → is_certificate c ≡ true → IsTree (certificate_tree c)
certificate_is_tree c h = (
  refl,
  version_are_trees c.version (trees_for function_tree c.functions)
      (each_is_tree is_function function_tree function_is_tree c.functions h),
)

-- its text is its text
pub certificate_spelled : (c : Certificate) → is_certificate c ≡ true → depth (certificate_tree c) ≤ deepest →
    IsCertificateText (certificate_text c) c
certificate_spelled c h d = (record { atoms = certificate_is_tree c h; spelled = refl; depth = d }, h)

-- and no other certificate's
pub one_certificate : (c d : Certificate) → is_certificate c ≡ true → is_certificate d ≡ true →
    certificate_text c ≡ certificate_text d → c ≡ d
one_certificate c d h k e =
    let same = one_file (certificate_tree c) (certificate_tree d) (certificate_is_tree c h) (certificate_is_tree d k) e in
    value_ok c (behind 0 (certificate_tree c)) d (behind 0 (certificate_tree d))
    (sym (certificate_reads c h 0) ∙ ap (certificate_at 0) same ∙ certificate_reads d k 0)
