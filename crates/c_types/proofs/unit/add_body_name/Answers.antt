-- One name more, or none.
use Rattle.std.proofs.Common.{ap, sym, ◌∙◌, true, rules, string_bytes}
use Rattle.std.specs.HashSet.{contains_text}
use Rattle.std.specs.Option.{option_map}
use Rattle.std.specs.Prelude.{Some}
use Rattle.c_grammar.specs.CodeTree.{decl_of}
use Rattle.c_values.specs.Name.{with_name}
use Rattle.c_types.proofs.BodyNames.{body_added}
use Rattle.c_types.proofs.unit.add_body_name.Goals as goal

pub returns-in_ok-note-in-Some : goal.returns-in_ok-note-in-Some
returns-in_ok-note-in-Some c =
    body_added (decl_of c.args.external.now) (Some (string_bytes c.in-Some.name.now)) (λ q. contains_text c.args.names.now q) (λ q. contains_text c.note.new.names q)
    (ap (option_map (λ name. string_bytes name.now)) (sym c.in-Some.is) ∙ c.body_name.ensures)
    (c.in_ok-note-in-Some.ensures ∙ ap (λ k. with_name k true (λ q. contains_text c.args.names.now q)) (search rules))
