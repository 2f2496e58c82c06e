-- What is left of a list that was gone through from the front; and the first position that passes a test, behind what was passed.
use Rattle.std.specs.Prelude.{◌≡◌, ◌-◌, List, [], ◌++◌, map, length, take}
use Rattle.c_values.specs.Name.{Name}
use Rattle.expression_lang.specs.Expression.{Exp}
use Rattle.monad_lang.specs.Program.{Mon}
use Rattle.polish.specs.Polished.{first_put, first_constant}
use Rattle.polish.specs.CodePutting.{put_later, put_behind}

abbrev pub IsLeft : {A : Type 0} → List A → List A → Type 0
IsLeft all rest = take (length all - length rest) all ++ rest ≡ all

module _ {A E : Type 0} (f : A → Name) (g : E → Exp) (values : List E) (names : List A) (n : Mon) (left : List E) (right : List A)
  where
    -- the first value that can be put in, of what is left and of all
    pub record IsPutLeft : Type 0 where
      pub names_left : IsLeft names right
      pub found :
          put_later (length names - length right)
          (put_behind (map f (take (length names - length right) names)) (map g left) (map f right) n)
          ≡ first_put [] (map g values) (map f names) n

    -- the first constant
    pub record IsConstantLeft : Type 0 where
      pub names_left : IsLeft names right
      pub found :
          put_later (length names - length right) (first_constant (map g left) (map f right) n)
          ≡ first_constant (map g values) (map f names) n
