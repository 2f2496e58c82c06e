-- No struct is a scalar.
use Rattle.std.proofs.Common.{◌≡◌, ℤ, refl, sym}
use Rattle.c_values.specs.Name.{Name}
use Rattle.c_values.specs.Types.{Struct}
use Rattle.c_values.specs.Layout.{Layout, shape_of}
use Rattle.c_values.specs.Value.{Number}
use Rattle.memory_text.proofs.Shapes.{any_struct}
use Rattle.run_start.specs.Start.{word_at}

pub no_word : (l : Layout) (x : Name) (n : ℤ) → Number n ≡ word_at (shape_of l (Struct x)) n
no_word l x n = sym (any_struct (λ s. word_at s n) (Number n) refl (λ y bytes align fs. refl) l x)
