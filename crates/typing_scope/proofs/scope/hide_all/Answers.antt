-- Each name stays, and what it stands for is hidden.
use Rattle.std.proofs.Common.{rules}
use Rattle.std.proofs.lemmas.Map.Made.{map_same_pairs}
use Rattle.typing_scope.specs.declared.scope.Entity.TheVariants as V
use Rattle.typing_scope.proofs.Blocks.{names_hidden}
use Rattle.typing_scope.proofs.scope.hide_all.Goals as goal

pub returns : goal.returns
returns c = names_hidden c.args.names.now c.retain.new.self (map_same_pairs _ (λ v. V.Hidden) _ (λ k v b w f' t. search rules) _ _ c.retain.ensures.filtered)
