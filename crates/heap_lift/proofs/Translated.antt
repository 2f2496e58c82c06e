-- What holds of a translation that is the definition's.
use Rattle.std.proofs.Common.{◌≡◌, true, List, sym, subst}
use Rattle.c_values.specs.Layout.{Layout}
use Rattle.ac_expr.specs.Fact.{Fact}
use Rattle.monad_lang.specs.Program.{Mon}
use Rattle.monad_lang.specs.CodeProgram.{mon_of}
use Rattle.monad_lang.specs.Form.{is_heaps}
use Rattle.monad_lang.specs.Sorted.{Setting, scalars_given}
use Rattle.rule_heap.specs.Table.{Takes}
use Rattle.rule_heap.specs.HeapLifted.{IsHeapReady}
use Rattle.rule_heap.specs.CodeRule.{tree_of}
use Rattle.rule_heap.proofs.HeapTaken.{program_taken}
use Rattle.rule_heap.proofs.HeapFormed.{lifted_is_heaps, scalars_stay}
use Rattle.heap_lift.specs.declared.programs.Lifted as L
use Rattle.heap_lift.specs.Lifted.{Lifted, lifted}
use Rattle.heap_lift.specs.CodeLifted.{lifted_in}

pub taken : (x : L.Lifted) (m : Mon) → lifted_in x ≡ lifted m → (l : Layout) (facts : List Fact) → IsHeapReady l facts m → Takes l facts (tree_of x.tree) m (mon_of x.right.value)
taken x m h l facts k = subst (λ (d : Lifted). Takes l facts d.tree m d.right) (sym h) (program_taken l m facts k)

pub form : (x : L.Lifted) (m : Mon) → lifted_in x ≡ lifted m → is_heaps (mon_of x.right.value) ≡ true
form x m h = subst (λ (d : Lifted). is_heaps d.right ≡ true) (sym h) (lifted_is_heaps m)

pub sorts : (x : L.Lifted) (m : Mon) → lifted_in x ≡ lifted m → (t : Setting) → scalars_given t (mon_of x.right.value) ≡ scalars_given t m
sorts x m h t = subst (λ (d : Lifted). scalars_given t d.right ≡ scalars_given t m) (sym h) (scalars_stay t m)
