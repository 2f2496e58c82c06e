-- The last of names, and of parameters, comes first.
use Rattle.std.proofs.Common.{◌≡◌, suc, Bool, true, false, cond, List, [], ◌∷◌, ◌++◌, map, length, Option, Some, string_bytes, refl, ap, ◌∙◌}
use Rattle.c_values.specs.Name.{Name, same_name, with_name}
use Rattle.expression_lang.specs.declared.signatures.Binder as B
use Rattle.expression_lang.specs.CodeExpression.{kind_of}
use Rattle.expression_lang.specs.Sort.{Scalar}
use Rattle.program_sorts.specs.declared.phases.Phase as P
use Rattle.program_sorts.specs.CodeSorts.{sort_for}
use Rattle.monad_lang.specs.declared.program.Start as S
use Rattle.monad_lang.specs.declared.program.FinalFn as F
use Rattle.monad_lang.specs.Run.{start_names}
use Rattle.monad_lang.specs.CodeProgram.{start_of, final_fn_of}
use Rattle.monad_sorts.specs.CodeTold.{names_given, told_at}
use Rattle.monad_sorts.specs.CodeInside.{IsAt, parameters_in}
use Rattle.monad_sorts.proofs.Passing.{last_given}

-- names of items of any kind
module _ {T : Type 0} (named : T → Name) where
  names_push : (others : List T) (t : T) → map named (others ++ (t ∷ [])) ≡ map named others ++ (named t ∷ [])
  names_push [] t = refl
  names_push (o ∷ others) t = ap (λ xs. named o ∷ xs) (names_push others t)

  names_length : (xs : List T) → length (map named xs) ≡ length xs
  names_length [] = refl
  names_length (x ∷ xs) = ap suc (names_length xs)

  last_is : (xs others : List T) (t : T) (x : Name) (os : List (Option Scalar)) (names : Name → Option Scalar) →
      xs ≡ others ++ (t ∷ []) →
      names_given (map named xs) os names x
      ≡ cond (same_name (named t) x) (told_at os (length others)) (names_given (map named others) os names x)
  last_is xs others t x os names e =
      ap (λ ys. names_given (map named ys) os names x) e
      ∙ ap (λ ys. names_given ys os names x) (names_push others t)
      ∙ ap (λ (f : Name → Option Scalar). f x) (last_given (map named others) (named t) os names)
      ∙ ap (λ k. cond (same_name (named t) x) (told_at os k) (names_given (map named others) os names x)) (names_length others)

  pub name_here : (xs others : List T) (t : T) (x : Name) → xs ≡ others ++ (t ∷ []) → same_name (named t) x ≡ true →
      IsAt (map named xs) x (length others)
  name_here xs others t x e here os names =
      last_is xs others t x os names e
      ∙ ap (λ b. cond b (told_at os (length others)) (names_given (map named others) os names x)) here

  pub name_left_out : (xs others : List T) (t : T) (x : Name) (os : List (Option Scalar)) (names : Name → Option Scalar) →
      xs ≡ others ++ (t ∷ []) → same_name (named t) x ≡ false →
      names_given (map named xs) os names x ≡ names_given (map named others) os names x
  name_left_out xs others t x os names e other =
      last_is xs others t x os names e
      ∙ ap (λ b. cond b (told_at os (length others)) (names_given (map named others) os names x)) other

-- parameters
last_parameter : (phase : P.Phase) (bs : List B.Binder) (b : B.Binder) (names : Name → Option Scalar) →
    parameters_in phase (bs ++ (b ∷ [])) names
    ≡ with_name (string_bytes b.name) (Some (sort_for phase (kind_of b.kind))) (parameters_in phase bs names)
last_parameter phase [] b names = refl
last_parameter phase (a ∷ bs) b names =
    last_parameter phase bs b (with_name (string_bytes a.name) (Some (sort_for phase (kind_of a.kind))) names)

pub parameter_is : (phase : P.Phase) (bs others : List B.Binder) (b : B.Binder) (x : Name) (names : Name → Option Scalar)
    (h : Bool) → bs ≡ others ++ (b ∷ []) → same_name (string_bytes b.name) x ≡ h →
    parameters_in phase bs names x ≡ cond h (Some (sort_for phase (kind_of b.kind))) (parameters_in phase others names x)
parameter_is phase bs others b x names h e here =
    ap (λ cs. parameters_in phase cs names x) e ∙ ap (λ (f : Name → Option Scalar). f x) (last_parameter phase others b names)
    ∙ ap (λ c. cond c (Some (sort_for phase (kind_of b.kind))) (parameters_in phase others names x)) here

-- the names of what the code has are those of what it stands for

pub start_names_are : (xs : List S.Start) → map (λ x. string_bytes x.name) xs ≡ start_names (map start_of xs)
start_names_are [] = refl
start_names_are (x ∷ xs) = ap (λ ys. string_bytes x.name ∷ ys) (start_names_are xs)

pub function_names_are : (fs : List F.FinalFn) → map (λ f. string_bytes f.name) fs ≡ map (λ f. f.name) (map final_fn_of fs)
function_names_are [] = refl
function_names_are (f ∷ fs) = ap (λ ys. string_bytes f.name ∷ ys) (function_names_are fs)
