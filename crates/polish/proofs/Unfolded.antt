-- What is made tidy, by the program's head and with nothing that counts: the equations that the code follows.
use Rattle.std.proofs.Common.{◌≡◌, List, sym, ap, ap₂, ◌∙◌}
use Rattle.std.proofs.Math.Path.{fun_ext}
use Rattle.c_values.specs.Name.{Name}
use Rattle.expression_lang.specs.Expression.{Exp}
use Rattle.monad_lang.specs.Program as M
use Rattle.monad_lang.specs.Program.{Mon, Start}
use Rattle.rule_eq.specs.Rule.{Point}
use Rattle.polish.specs.Polished.{Polished, shortened_in, followed, in_choice, in_loop, polished_with, polished}
use Rattle.polish.proofs.Alike.{IsLeaf}
use Rattle.polish.proofs.Fixed.{polished_fixed}

-- a part, wherever it stands
part : (n : Mon) → ◌≡◌ {A = Point → Polished} (polished_with polished n) (λ a. polished a n)
part n = fun_ext (λ a. sym (polished_fixed a n))

pub of_sequence : (at : Point) (m : Mon) (xs : List Name) (n : Mon) →
    polished at (M.Bind m xs n)
    ≡ followed polished (λ a. polished a n) at (polished at m).tree m (polished at m).program xs n
of_sequence at m xs n =
    polished_fixed at (M.Bind m xs n)
    ∙ ap₂ (λ p f. followed polished f at p.tree m p.program xs n) (sym (polished_fixed at m)) (part n)

pub of_choice : (at : Point) (e : Exp) (m n : Mon) →
    polished at (M.If e m n) ≡ in_choice (shortened_in at (M.If e m n)) at (λ a. polished a m) (λ a. polished a n)
of_choice at e m n =
    polished_fixed at (M.If e m n)
    ∙ ap₂ (λ f g. in_choice (shortened_in at (M.If e m n)) at f g) (part m) (part n)

pub of_loop : (at : Point) (starts : List Start) (guard test : Exp) (m : Mon) →
    polished at (M.Loop starts guard test m)
    ≡ in_loop (shortened_in at (M.Loop starts guard test m)) at (λ a. polished a m)
of_loop at starts guard test m =
    polished_fixed at (M.Loop starts guard test m)
    ∙ ap (λ f. in_loop (shortened_in at (M.Loop starts guard test m)) at f) (part m)

pub of_leaf : (at : Point) (m : Mon) → IsLeaf m → polished at m ≡ shortened_in at m
of_leaf at (M.Bind m xs n) h = absurd h
of_leaf at (M.If e m n) h = absurd h
of_leaf at (M.Loop starts guard test m) h = absurd h
of_leaf at m h = polished_fixed at m
