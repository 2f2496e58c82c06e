-- Claims about programs, from the computed end.
use Rattle.std.proofs.Common.{◌≡◌, true, false, List, [], Some, refl, subst}
use Rattle.std.specs.Prelude.{codes}
use Rattle.correspondence.specs.Outcome.{Outcome, Done, Failed, Stopped}
use Rattle.c_values.specs.Value.{Value, nothing}
use Rattle.c_memory.specs.Heap.{OnTypes}
use Rattle.expression_lang.specs.Evaluation.{State}
use Rattle.monad_lang.specs.Program.{FinalUnit}
use Rattle.monad_lang.specs.Run.{Answer, Failure}
use Rattle.worked_rows.specs.Programs.{ends, Gives, Fails}
use Rattle.worked_rows.proofs.Computed.{is_done}
use Rattle.worked_rows.proofs.ProgramEnd.{program_end, program_ends}

abbrev pub no_state : State
no_state = record { heap = OnTypes []; globals = λ x. nothing }

abbrev pub end_of : FinalUnit → List Value → Outcome Answer Failure
end_of u vs = program_end u 0 100 (Some 256) (record { name = codes "f"; arguments = vs; state = no_state })

-- the answer; of another end, nothing
abbrev pub answer : Outcome Answer Failure → Answer
answer (Done a) = a
answer _ = record { values = []; state = no_state }

pub as_done : (o : Outcome Answer Failure) → is_done o ≡ true → o ≡ Done (answer o)
as_done (Done a) h = refl
as_done (Failed f) h = absurd (let e : false ≡ true = h in cc)
as_done (Stopped w) h = absurd (let e : false ≡ true = h in cc)

module _ (u : FinalUnit) (vs : List Value) where
  has_end : (o : Outcome Answer Failure) → end_of u vs ≡ o → ends u vs o
  has_end o h = subst (ends u vs) h (program_ends u 0 100 (Some 256) (record { name = codes "f"; arguments = vs; state = no_state }))

  pub gives : (results : List Value) → is_done (end_of u vs) ≡ true → (answer (end_of u vs)).values ≡ results → Gives u vs results
  gives results d e = record { answer = answer (end_of u vs); is_end = has_end _ (as_done _ d); has_values = e }

  pub fails : end_of u vs ≡ Failed tt → Fails u vs
  fails h = record { is_end = has_end _ h }
