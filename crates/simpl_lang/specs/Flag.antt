-- The flag, a local that stands for an exception once commands are free of them. No command has its name before that.
use Rattle.std.specs.Prelude.{◌≡◌, false, List, [], ◌∷◌, Some, codes}
use Rattle.c_values.specs.Name.{Name, is_among}
use Rattle.expression_lang.specs.Sort.{BoolKind}
use Rattle.expression_lang.specs.Signature.{Signature, names_of}
use Rattle.simpl_lang.specs.Command.{SimplFn, SimplUnit, kind_of}
use Rattle.simpl_lang.specs.Names.{command_names}

abbrev pub thrown_local : Name
thrown_local = codes "$thrown"

-- the flag is a truth value, and the body doesn't name it
pub record LeavesFlag (f : SimplFn) : Type 0 where
  pub is_truth : kind_of f.locals thrown_local ≡ Some BoolKind
  pub unnamed : command_names thrown_local f.body ≡ false

abbrev pub AllLeaveFlag : List SimplFn → Type 0
AllLeaveFlag [] = Unit {0}
AllLeaveFlag (f ∷ fs) = LeavesFlag f × AllLeaveFlag fs

-- the flag is no parameter
abbrev pub NoneTakesFlag : List Signature → Type 0
NoneTakesFlag [] = Unit {0}
NoneTakesFlag (s ∷ ss) = (is_among thrown_local (names_of s.params) ≡ false) × NoneTakesFlag ss

-- the functions of the unit have the flag as a local, and leave it alone
pub record HasUnusedFlag (u : SimplUnit) : Type 0 where
  pub functions : AllLeaveFlag u.functions
  pub signatures : NoneTakesFlag u.signatures
