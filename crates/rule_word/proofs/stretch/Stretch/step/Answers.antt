-- What is kept of a stretch that is a part longer.
use Rattle.std.proofs.Common.{rules, ◌≡◌, ◌+◌, true, refl, subst, ap, ◌∙◌}
use Rattle.monad_lang.specs.CodeProgram.{mon_of}
use Rattle.rule_word.specs.CodeNames.{with_passed}
use Rattle.rule_word.specs.CodeClaims.{names_bound, behind}
use Rattle.rule_word.specs.CodeRule.{tree_of}
use Rattle.rule_word.specs.CodeStretch.{tree_in, parts_in, are_names_marked}
use Rattle.rule_word.proofs.Stretches.{first_stays, between_stays, late_longer, first_longer, onward_there}
use Rattle.rule_word.proofs.stretch.Stretch.step.Goals as goal

pub returns-in-None-clause-kept : goal.returns-in-None-clause-kept
returns-in-None-clause-kept c =
    let xs = names_bound (mon_of c.args.program.now) in
    let rest = behind (mon_of c.args.program.now) in
    let last = tree_of c.args.last.now in
    let more = c.with_names-marks.result in
    let own : are_names_marked more xs ≡ true = subst (λ ys. are_names_marked more ys ≡ true) c.named.ensures c.with_names-marks.ensures.names in
    record {
      first = first_stays c.args.self c.requires.kept xs c.requires.next.0 last rest c.requires.next.1 more c.with_names-marks.ensures.kept own;
      between = between_stays c.args.self c.requires.kept xs c.requires.next.0 last rest c.requires.next.1 more c.with_names-marks.ensures.kept own;
      late = late_longer c.args.self c.requires.kept xs c.requires.next.0 last rest c.requires.next.1 more c.with_names-marks.ensures.kept own;
      to_middle = c.requires.kept.to_middle;
      to_late = c.requires.kept.to_late;
    }

pub returns-in-Some-clause-kept : goal.returns-in-Some-clause-kept
returns-in-Some-clause-kept c =
    let xs = names_bound (mon_of c.args.program.now) in
    let rest = behind (mon_of c.args.program.now) in
    let last = tree_of c.args.last.now in
    let more = c.with_names-marks.result in
    let own : are_names_marked more xs ≡ true = subst (λ ys. are_names_marked more ys ≡ true) c.named.ensures c.with_names-marks.ensures.names in
    let there : mon_of c.in-Some.rest.now.value ≡ rest = search rules in
    record {
      first = first_longer c.args.self c.requires.kept xs c.requires.next.0 last rest c.requires.next.1 more c.with_names-marks.ensures.kept own;
      between = late_longer c.args.self c.requires.kept xs c.requires.next.0 last rest c.requires.next.1 more c.with_names-marks.ensures.kept own;
      late = refl;
      to_middle = c.requires.kept.to_late;
      to_late = λ k bs.
          ap (λ m. with_passed k last m (with_passed (c.args.self.before + c.args.self.between + (c.args.self.since + 1)) (tree_in c.args.self) (parts_in c.args.self) bs)) there
          ∙ onward_there c.args.self c.requires.kept xs c.requires.next.0 last rest c.requires.next.1 more c.with_names-marks.ensures.kept own k bs;
    }
