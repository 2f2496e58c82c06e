-- Which Simpl units speak of nothing that has no text: what they declare has a name as texts have them and is of a width, and their
-- bodies are commands that have a text.
use Rattle.std.specs.Prelude.{◌≡◌, Bool, true, ◌&&◌, Option, Some, None}
use Rattle.c_values.specs.Layout.{GlobalVar}
use Rattle.expression_lang.specs.Sort.{Kind, is_kind}
use Rattle.expression_lang.specs.Signature.{Binder, Signature}
use Rattle.expression_text.specs.Names.{is_name}
use Rattle.expression_text.specs.Lists.{each}
use Rattle.command_text.specs.CommandText.{is_command}
use Rattle.simpl_lang.specs.Command.{SimplFn, SimplUnit}

abbrev pub is_binder : Binder → Bool
is_binder b = is_name b.name && is_kind b.kind

abbrev pub is_result : Option Kind → Bool
is_result None = true
is_result (Some k) = is_kind k

abbrev pub global_has_text : GlobalVar → Bool
global_has_text v = is_name v.name

abbrev pub function_has_text : SimplFn → Bool
function_has_text f = is_name f.name && each is_binder f.locals && is_command f.body

abbrev pub signature_has_text : Signature → Bool
signature_has_text s = is_name s.name && each is_binder s.params && is_result s.result

pub record HasTexts (u : SimplUnit) : Type 0 where
  pub globals : each global_has_text u.globals ≡ true
  pub functions : each function_has_text u.functions ≡ true
  pub signatures : each signature_has_text u.signatures ≡ true
