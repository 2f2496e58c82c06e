use Rattle.std.proofs.Common.{◌≡◌, ◌<◌, ℕ, List, ◌++◌, OnOk, map, string_bytes, arith, subst, ap, sym, ◌∙◌}
use Rattle.std.specs.Prelude.{codes}
use Rattle.expression_lang.specs.CodeExpression.{exp_of}
use Rattle.monad_lang.specs.declared.program.Mon as M
use Rattle.monad_lang.specs.declared.program.Mon.{size-Mon}
use Rattle.monad_lang.specs.declared.program.Mon.TheBlock.{the_depth}
use Rattle.monad_lang.specs.CodeProgram.{mon_of}
use Rattle.abs_print.specs.Programs.{names_text, if_text, deeper, as_step, lines}
use Rattle.abs_print.specs.CodeLines.{at_margin, going_on}
use Rattle.abs_print.proofs.Along.{behind_pushed}
use Rattle.abs_print.proofs.Margins.{margin_choice, step_written}
use Rattle.abs_print.proofs.programs.+programs.Goals as goal
use denote.Hole.Rolled.{depth}
use denote.Hole.Carrier.{fold}

after_bind : (p : _) (m : M.Mon) (xs : _) (q : _) (n : M.Mon) → size-Mon n < size-Mon (M.Bind' p m xs q n)
unfolding the_depth depth fold
after_bind p m xs q n = omega arith

last_is_smaller : (m : M.Mon) (first : _) (names : _) (last : _) → m ≡ M.Bind first names last → size-Mon last.value < size-Mon m
last_is_smaller m first names last e = subst (λ q. size-Mon last.value < size-Mon q) (sym e) (after_bind _ first.value names _ last.value)

pub push_lines-along-preserved : goal.push_lines-along-preserved
push_lines-along-preserved t c =
    let margin = c.along.margin.items in
    let out = c.along.out.items in
    let with_margin = c.extend_from_slice.new.self.items in
    let with_names = c.push_names.new.out.items in
    let written = c.push_first.new.out.items in
    let first = c.in-Bind.first.value in
    let names = c.in-Bind.names.items in
    let last = c.in-Bind.last.value in
    record {
      same =
          ap (λ p. written ++ at_margin c.push_first.new.margin.items (lines (mon_of p))) c.deref-rest.ensures
          ∙ step_written margin out with_margin with_names written _ c.push_first.new.margin.items (mon_of first) (map string_bytes names) (mon_of last)
          (ap (λ p. out ++ at_margin margin (lines p)) (sym (ap mon_of c.in-Bind.is)) ∙ c.along.invariant.same)
          (c.in_ok-extend_from_slice.ensures.items ∙ ap (λ s. out ++ s) c.as_slice.ensures.value)
          (c.in_ok-push_names-in-Bind.ensures ∙ ap (λ ns. with_margin ++ names_text (map string_bytes ns)) c.deref.ensures.value)
          (c.in_ok-push_first-in-Bind.ensures.text ∙ ap (λ p. with_names ++ going_on margin (as_step (mon_of p) (lines (mon_of p)))) c.deref-in-Bind.ensures)
          c.in_ok-push_first-in-Bind.ensures.margin;
      margin = c.in_ok-push_first-in-Bind.ensures.margin ∙ c.along.invariant.margin;
      smaller = let h = last_is_smaller c.along.rest.now c.in-Bind.first c.in-Bind.names c.in-Bind.last c.in-Bind.is in omega (arith, ap size-Mon c.deref-rest.ensures);
    }

pub push_if-returns-clause-text : goal.push_if-returns-clause-text
push_if-returns-clause-text t c =
    let old = c.args.out.now.items in
    let margin = c.args.margin.now.items in
    let test = if_text (exp_of c.args.test.now) in
    let first = lines (mon_of c.args.first.now) in
    let last = lines (mon_of c.args.last.now) in
    let inner = at_margin margin (deeper first) in
    let ending = codes "else\n" ++ at_margin margin (deeper last) in
    subst (λ (r : List ℕ). OnOk c.push_deeper-2.result (c.push_deeper-2.new.out.items ≡ r))
    (ap (λ g. c.push-2.new.out.items ++ at_margin g (deeper last)) c.in_ok-push_deeper.ensures.margin
    ∙ behind_pushed c.extend_from_slice.new.self.items c.push-2.new.out.items (codes "else\n") (at_margin margin (deeper last)) c.in_ok-push-2.ensures
    ∙ behind_pushed c.push_deeper.new.out.items c.extend_from_slice.new.self.items margin ending
    (c.in_ok-extend_from_slice.ensures.items ∙ ap (λ s. c.push_deeper.new.out.items ++ s) (c.as_slice.ensures.value ∙ c.in_ok-push_deeper.ensures.margin))
    ∙ behind_pushed c.push.new.out.items c.push_deeper.new.out.items inner (margin ++ ending) c.in_ok-push_deeper.ensures.text
    ∙ behind_pushed c.push_test.new.out.items c.push.new.out.items (codes "\n") (inner ++ (margin ++ ending)) c.in_ok-push.ensures
    ∙ behind_pushed old c.push_test.new.out.items test (codes "\n" ++ (inner ++ (margin ++ ending))) c.in_ok-push_test.ensures
    ∙ ap (λ r. old ++ (test ++ (codes "\n" ++ r))) (sym (margin_choice margin first last)))
    c.push_deeper-2.ensures.text
