-- No struct is a signed integer.
use Rattle.std.proofs.Common.{◌≡◌, refl, sym}
use Rattle.c_values.specs.Name.{Name}
use Rattle.c_values.specs.Types.{Struct}
use Rattle.c_values.specs.Layout.{Layout, shape_of, type_of}
use Rattle.c_values.specs.Value.{Bits}
use Rattle.c_values.specs.Word.{Word, unsigned}
use Rattle.c_meaning.specs.CValue.{number_of_type}
use Rattle.memory_text.proofs.Shapes.{any_struct}

pub no_sign : (l : Layout) (x : Name) (w : Word) → unsigned w ≡ number_of_type (type_of (shape_of l (Struct x))) (Bits w)
no_sign l x w = sym (any_struct (λ s. number_of_type (type_of s) (Bits w)) (unsigned w) refl (λ y bytes align fs. refl) l x)
