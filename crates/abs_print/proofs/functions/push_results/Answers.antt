use Rattle.std.proofs.Common.{◌≡◌, ℕ, List, ◌++◌, OnOk, subst, sym, ◌∙◌}
use Rattle.abs_print.proofs.Seen.{results_seen}
use Rattle.abs_print.proofs.functions.push_results.Goals as goal

pub returns-else-is_empty : goal.returns-else-is_empty
returns-else-is_empty c =
    subst (λ (t : List ℕ). OnOk c.push_parted.result (c.push_parted.new.out.items ≡ c.args.out.now.items ++ t))
    (sym (results_seen c.args.results.now (sym c.is_empty.ensures ∙ c.if-is_empty.false)))
    c.push_parted.ensures
