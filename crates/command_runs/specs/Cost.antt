-- How many steps a command takes at most, by the same of all functions at each smaller bound.
use Rattle.std.specs.Prelude.{ℕ, zero, suc, ◌+◌, List, [], ◌∷◌}
use Rattle.simpl_lang.specs.Command.{Simpl, Skip, Throw, Set, SetGlobal, Store, Pick, Seq, Cond, Guard, Catch, While, Call, SimplFn}

abbrev pub turning : (List ℕ → ℕ) → List ℕ → ℕ
turning body [] = 1
turning body (g ∷ gs) = 2 + (body gs + turning body gs)

abbrev pub calling : List ℕ → ℕ
calling [] = 1
calling (g ∷ gs) = 2 + g

abbrev pub cost : Simpl → List ℕ → ℕ
cost Skip gs = 1
cost Throw gs = 1
cost (Set x e) gs = 1
cost (SetGlobal x path e) gs = 1
cost (Store t p path e) gs = 1
cost (Pick x) gs = 1
cost (Seq a b) gs = 2 + (cost a gs + cost b gs)
cost (Cond e a b) gs = 1 + (cost a gs + cost b gs)
cost (Guard c a) gs = 1 + cost a gs
cost (Catch a b) gs = 2 + (cost a gs + cost b gs)
cost (While cs e a) gs = turning (cost a) gs
cost (Call x f es) gs = calling gs

abbrev pub cost_of_all : List SimplFn → List ℕ → ℕ
cost_of_all [] gs = 0
cost_of_all (f ∷ fs) gs = cost f.body gs + cost_of_all fs gs

abbrev pub costs_below : List SimplFn → ℕ → List ℕ
costs_below fs zero = []
costs_below fs (suc n) = cost_of_all fs (costs_below fs n) ∷ costs_below fs n

abbrev pub cost_at : List SimplFn → Simpl → ℕ → ℕ
cost_at fs c n = cost c (costs_below fs n)
