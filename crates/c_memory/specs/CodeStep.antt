-- What the code's steps stand for.
use Rattle.c_memory.specs.declared.steps.Step as S
use Rattle.c_values.specs.Path.{Step, Field, Index}

abbrev pub step_of : S.Step → Step
step_of (S.TheVariants.Field k) = Field k
step_of (S.TheVariants.Index n) = Index n
