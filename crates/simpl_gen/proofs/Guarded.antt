-- One guard more around a command.
use Rattle.std.proofs.Common.{◌≡◌, List, [], ◌∷◌, ◌++◌, map, refl, ap}
use Rattle.simpl_lang.specs.declared.command.Condition.{Condition}
use Rattle.simpl_lang.specs.Command.{Simpl, Guard}
use Rattle.simpl_lang.specs.CodeCommand.{condition_of}
use Rattle.generation.specs.Generate.{guarded}

pub one_guard_put : (gs : List Condition) (g : Condition) (s : Simpl) → guarded (map condition_of (gs ++ g ∷ [])) s ≡ guarded (map condition_of gs) (Guard (condition_of g) s)
one_guard_put [] g s = refl
one_guard_put (h ∷ gs) g s = ap (λ t. Guard (condition_of h) t) (one_guard_put gs g s)
