-- The names of the functions are those of what they stand for.
use Rattle.std.proofs.Common.{map, sym, ap, ◌∙◌}
use Rattle.std.specs.Prelude.{Err}
use Rattle.c_lang.specs.CodeTyped.{function_of}
use Rattle.checking.specs.Checked.{function_names, listed_apart}
use Rattle.checking.specs.declared.levels.ListFault.TheVariants as F
use Rattle.checking.proofs.Named.{typed_names}
use Rattle.checking.proofs.Told.{told_apart, told_levels, told_memory}
use Rattle.checking.proofs.levels.listed_levels.Goals as goal

pub returns-in-Some : goal.returns-in-Some
returns-in-Some g c =
    told_apart (listed_apart 0 (function_names (map function_of c.args.functions.now)) (map g.C.Named.named c.args.certificate.now))
    (map g.C.Levelled.at_level c.args.certificate.now) c.in-Some.at c.in-Some._name.now (Err (F.Differs c.told.result))
    (ap (λ xs. listed_apart 0 xs (map g.C.Named.named c.args.certificate.now)) (sym (typed_names c.args.functions.now)) ∙ sym c.in-Some.ensures)
    (ap (λ k. Err (F.Differs k)) c.told.ensures)

pub returns-in_err-levels-in-None : goal.returns-in_err-levels-in-None
returns-in_err-levels-in-None g c =
    told_memory (listed_apart 0 (function_names (map function_of c.args.functions.now)) (map g.C.Named.named c.args.certificate.now))
    (map g.C.Levelled.at_level c.args.certificate.now) c.from_residual.result
    (ap (λ xs. listed_apart 0 xs (map g.C.Named.named c.args.certificate.now)) (sym (typed_names c.args.functions.now)) ∙ sym c.in-None.ensures)
    c.from_residual.ensures.1

pub returns-in_ok-levels-in-None : goal.returns-in_ok-levels-in-None
returns-in_ok-levels-in-None g c =
    told_levels (listed_apart 0 (function_names (map function_of c.args.functions.now)) (map g.C.Named.named c.args.certificate.now))
    (map g.C.Levelled.at_level c.args.certificate.now) c.in_ok-levels-in-None.field-0
    (ap (λ xs. listed_apart 0 xs (map g.C.Named.named c.args.certificate.now)) (sym (typed_names c.args.functions.now)) ∙ sym c.in-None.ensures)
    c.in_ok-levels-in-None.ensures
