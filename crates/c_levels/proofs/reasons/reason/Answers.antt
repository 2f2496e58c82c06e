-- The first reason that holds.
use Rattle.std.proofs.Common.{◌≡◌, Some, None, refl, sym, ap, ◌∙◌, min, rules}
use Rattle.c_levels.proofs.Together.{are_together}
use Rattle.c_levels.proofs.FirstReason.{by_cast, otherwise}
use Rattle.c_levels.proofs.reasons.reason.Goals as goal

pub returns-then-casts : goal.returns-then-casts
returns-then-casts c = λ levels g t l a. by_cast c.args.u.now c.args.f c.index-function.result.now levels g c.index-function.ensures (search rules) a

pub returns-in-Some : goal.returns-in-Some
returns-in-Some c = λ levels g t l a.
    otherwise c.args.u.now c.args.modes.now c.args.f c.index-function.result.now levels g c.first_in.result _ c.index-function.ensures (search rules) (search rules)
    (λ n e. let same : Some n ≡ Some c.in-Some.k = sym e ∙ c.in-Some.is in let here : c.in-Some.k ≡ n = cc in (c.told.result, (refl, c.told.ensures ∙ ap (λ k. min k 4294967295) here)))
    (λ e. let clash : Some c.in-Some.k ≡ None = sym c.in-Some.is ∙ e in absurd cc) (are_together _ t) l a

pub returns-in-None : goal.returns-in-None
returns-in-None c = λ levels g t l a.
    otherwise c.args.u.now c.args.modes.now c.args.f c.index-function.result.now levels g c.first_in.result _ c.index-function.ensures (search rules) (search rules)
    (λ n e. let clash : Some n ≡ None = sym e ∙ c.in-None.is in absurd cc)
    (λ e. refl) (are_together _ t) l a
