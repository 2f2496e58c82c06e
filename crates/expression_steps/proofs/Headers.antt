-- Steps in a loop's guard and its test, which stand where its names are in scope.
use Rattle.std.proofs.Common.{◌≡◌, List, [], Option, Some, None, sym, ap, ap₂, ◌∙◌}
use Rattle.std.specs.Prelude.{unwrap_or}
use Rattle.c_values.specs.Name.{Name}
use Rattle.expression_lang.specs.Sort.{Scalar, Scope}
use Rattle.expression_lang.specs.Sorted.{scope_with}
use Rattle.monad_lang.specs.Program.{Start}
use Rattle.monad_lang.specs.Run.{start_names}
use Rattle.monad_lang.specs.Sorted.{start_scalars}
use Rattle.expression_steps.specs.Rewritten.{scope_started}
use Rattle.expression_steps.proofs.NamesFound.{names_untold}

-- where some start has no scalar, no name of the loop has one
pub none_started : (starts : List Start) (g : Scope) → None ≡ start_scalars g starts → g ≡ scope_started starts g
none_started starts g h =
    sym (ap (λ (f : Name → Option Scalar). let s : Scope = record { layout = g.layout; names = f; globals = g.globals } in s)
    (names_untold (start_names starts) g.names))
    ∙ ap (λ (o : Option (List Scalar)). scope_with (start_names starts) (unwrap_or o []) g) h

pub some_started : (starts : List Start) (g : Scope) (xs : List Name) (ss : List Scalar) → xs ≡ start_names starts →
    Some ss ≡ start_scalars g starts → scope_with xs ss g ≡ scope_started starts g
some_started starts g xs ss e h =
    ap₂ (λ (ys : List Name) (o : Option (List Scalar)). scope_with ys (unwrap_or o []) g) e h
