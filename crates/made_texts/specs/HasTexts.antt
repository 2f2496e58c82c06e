-- What is asked of a generated unit, so that the certificates that are made of it have texts: that its commands have texts, and that its
-- functions and their locals, among which are the parameters, have names as texts have them. The locals of a function are so few that each
-- position among them has 32 bits.
use Rattle.std.specs.Prelude.{◌≡◌, nat_le, true, List, [], ◌∷◌, length}
use Rattle.expression_lang.specs.Signature.{names_of}
use Rattle.expression_text.specs.Names.{is_name}
use Rattle.expression_text.specs.Lists.{each}
use Rattle.simpl_lang.specs.Command.{SimplFn, SimplUnit}
use Rattle.command_text.specs.CommandText.{is_command}
use Rattle.made_texts.specs.Few.{most_names}

pub record HasTexts (f : SimplFn) : Type 0 where
  pub name : is_name f.name ≡ true
  pub locals : each is_name (names_of f.locals) ≡ true
  pub few : nat_le (length (names_of f.locals)) most_names ≡ true
  pub body : is_command f.body ≡ true

abbrev pub AllHaveTexts : List SimplFn → Type 0
AllHaveTexts [] = Unit {0}
AllHaveTexts (f ∷ fs) = HasTexts f × AllHaveTexts fs

abbrev pub UnitHasTexts : SimplUnit → Type 0
UnitHasTexts u = AllHaveTexts u.functions
