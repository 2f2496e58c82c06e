-- A name of the first isn't behind it, so that it is decided by the others.
use Rattle.std.proofs.Common.{◌≡◌, true, not, ◌&&◌, ◌++◌, List, sym, subst, ap, ◌∙◌}
use Rattle.std.proofs.lemmas.Bool.{and_parts}
use Rattle.c_values.specs.Name.{Name, is_among, are_distinct}
use Rattle.hoare_check.specs.CodeResults.{names_of}
use Rattle.hoare_check.proofs.LogicalNames.{first_joined}
use Rattle.hoare_check.proofs.triple_names.are_distinct_together.Goals as goal

pub along-preserved : goal.along-preserved
along-preserved c =
    let x = c.in-Some.name.now in
    let xs = names_of c.in-Some.behind in
    let ys = names_of c.args.others in
    let left = subst (λ (zs : List Name). are_distinct zs ≡ true) c.in-Some.ensures.some c.along.invariant.left in
    record {
      left = (and_parts (not (is_among x xs)) (are_distinct xs) left).1;
      same =
          ap (λ b. not b && are_distinct (xs ++ ys)) (sym (sym c.has.ensures ∙ c.if-has.false))
          ∙ sym (first_joined x xs ys left)
          ∙ ap (λ (zs : List Name). are_distinct (zs ++ ys)) (sym c.in-Some.ensures.some)
          ∙ c.along.invariant.same;
    }
