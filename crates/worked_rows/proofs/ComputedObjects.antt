-- Claims about objects in objects, from the computed ends.
use Rattle.std.proofs.Common.{◌≡◌, true, [], ◌∷◌, Some, subst}
use Rattle.std.specs.Prelude.{codes}
use Rattle.correspondence.specs.Outcome.{Outcome}
use Rattle.c_values.specs.Value.{Value, nothing}
use Rattle.c_memory.specs.TypedHeap.{view}
use Rattle.c_memory.specs.Heap.{Heap, OnBytes, OnTypes}
use Rattle.expression_lang.specs.Signature.{Invocation}
use Rattle.monad_lang.specs.Program.{Mon}
use Rattle.monad_lang.specs.Run.{Answer, Failure}
use Rattle.worked_rows.specs.Objects.{Step, unit_of, ends, Gives, GiveBoth, l, memory}
use Rattle.worked_rows.proofs.Computed.{is_done}
use Rattle.worked_rows.proofs.ComputedProgram.{answer, as_done}
use Rattle.worked_rows.proofs.ProgramEnd.{program_end, program_ends}

abbrev call : Heap → Invocation
call h = record { name = codes "f"; arguments = []; state = record { heap = h; globals = λ x. nothing } }

abbrev end_of : Heap → Mon → Outcome Answer Failure
end_of h m = program_end (unit_of m) 0 0 (Some 0) (call h)

module _ (h : Heap) (m : Mon) (v : Value) where
  gives : is_done (end_of h m) ≡ true → (answer (end_of h m)).values ≡ v ∷ [] → Gives h m v
  gives d e = record {
    answer = answer (end_of h m);
    is_end = subst (ends h m) (as_done _ d) (program_ends (unit_of m) 0 0 (Some 0) (call h));
    has_value = e;
  }

pub both : (s : Step) (v : Value) →
    is_done (end_of (OnBytes memory) s.left) ≡ true → (answer (end_of (OnBytes memory) s.left)).values ≡ v ∷ [] →
    is_done (end_of (OnTypes (view l memory)) s.right) ≡ true → (answer (end_of (OnTypes (view l memory)) s.right)).values ≡ v ∷ [] →
    is_done (end_of (OnBytes memory) s.right) ≡ true → (answer (end_of (OnBytes memory) s.right)).values ≡ v ∷ [] →
    GiveBoth s v
both s v d e d' e' d'' e'' = record {
  left = gives (OnBytes memory) s.left v d e;
  right = gives (OnTypes (view l memory)) s.right v d' e';
  on_bytes = gives (OnBytes memory) s.right v d'' e'';
}
