-- What the phase keeps of functions: called with the same arguments, of the parameters' sorts, in one state that can be, a
-- function has the same answers, fails alike and stops alike. On either heap.
use Rattle.std.specs.Prelude.{◌≡◌, List, map}
use Rattle.correspondence.specs.Related.{Related, Same, BothFail}
use Rattle.c_values.specs.Layout.{Layout, GlobalVar}
use Rattle.expression_lang.specs.Signature.{Signature, Invocation}
use Rattle.monad_lang.specs.Program.{FinalUnit}
use Rattle.monad_lang.specs.Run.{Runs}
use Rattle.monad_lang.specs.Sorted.{signature_of}
use Rattle.program_facts.specs.Lasting.{CanBeCalled}

pub record SameCall (l : Layout) (vs : List GlobalVar) (fs : List Signature) (c c' : Invocation) : Type 0 where
  pub same : c' ≡ c
  pub call : CanBeCalled l vs fs c

abbrev pub EqualKept : FinalUnit → Runs → Runs → Type 0
EqualKept u f g = Related (SameCall u.layout u.globals (map signature_of u.functions)) (λ c. Same) BothFail f g
