-- What is chosen where nothing says which value (C99 6.2.6.1, an indeterminate value without trap): any word of the width,
-- or that of one fill number.
use Rattle.std.specs.Prelude.{ℕ, pos}
use Rattle.correspondence.specs.Outcome.{Ends, any, done}
use Rattle.c_values.specs.Word.{Word, IsWord, word}

pub data Choice : Type 0 where
  Any : Choice
  Fill : ℕ → Choice

abbrev pub picked : {F : Type 0} → Choice → ℕ → Ends Word F
picked Any width = any (IsWord width)
picked (Fill n) width = done (word width (pos n))
