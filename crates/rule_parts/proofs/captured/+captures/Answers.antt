-- In a loop that binds a name of the expression the name is captured where it is free.
use Rattle.std.proofs.Common.{rules, ◌≡◌, ◌||◌, false, map, sym, ap, ◌∙◌}
use Rattle.c_values.specs.Name.{is_among}
use Rattle.expression_lang.specs.CodeExpression.{exp_of}
use Rattle.expression_lang.specs.Mentions.{names}
use Rattle.ac_expr.specs.Lasting.{is_unnamed}
use Rattle.monad_lang.specs.Program as M
use Rattle.monad_lang.specs.Names.{is_free}
use Rattle.monad_lang.specs.Run.{start_names}
use Rattle.monad_lang.specs.CodeProgram.{start_of, mon_of}
use Rattle.rule_parts.specs.Captures.{captures}
use Rattle.rule_parts.proofs.Capturing.{turn_captures}
use Rattle.rule_parts.proofs.captured.+captures.Goals as goal

pub returns-then-not-is_start_unnamed : goal.returns-then-not-is_start_unnamed
returns-then-not-is_start_unnamed t c =
    let starts = map start_of c.in-Loop.starts.items in
    let among : is_among c.args.name.now (start_names (map start_of c.in-Loop.starts.items)) ≡ false = search rules in
    let named : is_unnamed (start_names (map start_of c.in-Loop.starts.items)) (exp_of c.args.e.now) ≡ false = search rules in
    let free : c.is_free_inside.result ≡ (names c.args.name.now (exp_of c.in-Loop.guard) || names c.args.name.now (exp_of c.in-Loop.test) || is_free c.args.name.now (mon_of c.in-Loop.last.value)) = search rules in
    let here : mon_of c.along.rest.now ≡ M.Loop starts (exp_of c.in-Loop.guard) (exp_of c.in-Loop.test) (mon_of c.in-Loop.last.value) = ap mon_of c.in-Loop.is in
    free
    ∙ sym (turn_captures (exp_of c.args.e.now) c.args.name.now starts (exp_of c.in-Loop.guard) (exp_of c.in-Loop.test) (mon_of c.in-Loop.last.value) among named)
    ∙ sym (ap (λ q. captures (exp_of c.args.e.now) c.args.name.now q) here)
    ∙ c.along.invariant.same
