-- This name's mark is set beside those that were.
use Rattle.std.proofs.Common.{rules, ◌≡◌, ◌∷◌, ◌<◌, map, string_bytes, subst, ap, ◌∙◌}
use Rattle.rule_word.specs.CodeStretch.{mark, is_marked, are_names_marked}
use Rattle.rule_word.proofs.Stretches.{stays_set, more_marked, set}
use Rattle.rule_word.proofs.stretch.with_names.Goals as goal

pub names-preserved : goal.names-preserved
names-preserved c =
    let same : c.mark.result ≡ mark (string_bytes c.in-Some.name.now) = search rules in
    let few : mark (string_bytes c.in-Some.name.now) < 64 = subst (λ k. k < 64) same c.mark.ensures.few in
    let items : c.names.rest.now ≡ c.in-Some.name.now ∷ c.in-Some.others.now = search rules in
    record {
      kept = λ x h. stays_set c.names.found c.mark.result (mark x) (c.names.invariant.kept x h);
      all = λ m more h.
          c.names.invariant.all m (λ x g. more x (stays_set c.names.found c.mark.result (mark x) g))
          (ap (λ ns. are_names_marked m (map string_bytes ns)) items
          ∙ more_marked c.names.found (string_bytes c.in-Some.name.now) (map string_bytes c.in-Some.others.now) few m (λ y g. more y (ap (λ k. is_marked (set c.names.found k) y) same ∙ g)) h);
    }
