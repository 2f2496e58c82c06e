-- Commands cost something, and a function's body no more than all of them.
use Rattle.std.proofs.Common.{◌≡◌, ℕ, ◌+◌, ◌<◌, ◌≤◌, List, [], ◌∷◌, Option, Some, sym, ◌∙◌, subst, arith}
use Rattle.std.proofs.lemmas.Bool.{cond-true, cond-false}
use Rattle.c_values.specs.Name.{Name, same_name}
use Rattle.simpl_lang.specs.Command.{Simpl, While, Call, SimplFn, simpl_fn}
use Rattle.command_runs.specs.Cost.{turning, calling, cost, cost_of_all}
use Rattle.global_changes.proofs.Changed.{by_test}

turning_some : (body : List ℕ → ℕ) (gs : List ℕ) → 0 < turning body gs
turning_some body [] = omega arith
turning_some body (g ∷ gs) = omega arith

calling_some : (gs : List ℕ) → 0 < calling gs
calling_some [] = omega arith
calling_some (g ∷ gs) = omega arith

pub cost_some : (c : Simpl) (gs : List ℕ) → 0 < cost c gs
cost_some (While cs e a) gs = turning_some (cost a) gs
cost_some (Call x f es) gs = calling_some gs
cost_some _ gs = omega arith

pub cost_of_one : (fs : List SimplFn) (x : Name) (f : SimplFn) (gs : List ℕ) → simpl_fn fs x ≡ Some f → cost f.body gs ≤ cost_of_all fs gs
cost_of_one [] x f gs e = absurd cc
cost_of_one (g ∷ fs) x f gs e =
    by_test (same_name g.name x)
    (λ b.
    let same : g ≡ f = same_fn (sym (cond-true (same_name g.name x) (Some g) (simpl_fn fs x) b) ∙ e) in
    subst (λ k. cost k.body gs ≤ cost g.body gs + cost_of_all fs gs) same (omega arith))
    (λ b.
    let less = cost_of_one fs x f gs (sym (cond-false (same_name g.name x) (Some g) (simpl_fn fs x) b) ∙ e) in
    omega arith)
  where
    same_fn : {h k : SimplFn} → ◌≡◌ {A = Option SimplFn} (Some h) (Some k) → h ≡ k
    same_fn q = cc
