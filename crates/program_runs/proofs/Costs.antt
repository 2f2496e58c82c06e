-- Programs cost something, and a function's program no more than all of them.
use Rattle.std.proofs.Common.{◌≡◌, ℕ, ◌+◌, ◌<◌, ◌≤◌, Bool, true, false, cond, List, [], ◌∷◌, Some, subst, arith}
use Rattle.c_values.specs.Name.{Name, same_name}
use Rattle.c_values.proofs.Options.{some_is, none_is}
use Rattle.monad_lang.specs.Program.{Mon, Call, FinalFn, final_fn}
use Rattle.program_runs.specs.Machine.{turning, calling, cost, cost_of_all}

pub turning_some : (body : List ℕ → ℕ) (gs : List ℕ) → 0 < turning body gs
turning_some body [] = omega arith
turning_some body (g ∷ gs) = omega arith

calling_some : (gs : List ℕ) → 0 < calling gs
calling_some [] = omega arith
calling_some (g ∷ gs) = omega arith

pub cost_some : (m : Mon) (gs : List ℕ) → 0 < cost m gs
cost_some (Call f es) gs = calling_some gs
cost_some _ gs = omega arith

pub cost_of_one : (fs : List FinalFn) (x : Name) (f : FinalFn) (gs : List ℕ) → final_fn fs x ≡ Some f → cost f.body gs ≤ cost_of_all fs gs
cost_of_one [] x f gs e = none_is e
cost_of_one (g ∷ fs) x f gs e = by_name (same_name g.name x) (cost_of_one fs x f gs) e
  where
    by_name : (b : Bool) → (final_fn fs x ≡ Some f → cost f.body gs ≤ cost_of_all fs gs) → cond b (Some g) (final_fn fs x) ≡ Some f → cost f.body gs ≤ cost g.body gs + cost_of_all fs gs
    by_name true rest h = subst (λ k. cost k.body gs ≤ cost g.body gs + cost_of_all fs gs) (some_is h) (omega arith)
    by_name false rest h = let less = rest h in omega arith
