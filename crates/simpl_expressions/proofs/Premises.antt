-- One condition more under a premise.
use Rattle.std.proofs.Common.{◌≡◌, ℕ, List, [], ◌∷◌, ◌++◌, map, append_assoc, refl, sym, ap, ◌∙◌}
use Rattle.expression_lang.specs.Expression.{Exp, Imp, Not, Var}
use Rattle.expression_lang.specs.CodeExpression.{exp_of}
use Rattle.simpl_lang.specs.declared.command.Condition.{Condition}
use Rattle.simpl_lang.specs.Command as P
use Rattle.simpl_lang.specs.CodeCommand.{condition_of, guard_kind_of}
use Rattle.generation.specs.Guards.{when, under}
use Rattle.generation.specs.Generate.{after_first, first_local}

pub one_more_under : (c : Exp) (gs : List Condition) (g : Condition) →
    under c (map condition_of (gs ++ g ∷ [])) ≡ under c (map condition_of gs) ++ (when (guard_kind_of g.kind) (Imp c (exp_of g.exp)) ∷ [])
one_more_under c [] g = refl
one_more_under c (h ∷ gs) g = ap (λ cs. when (guard_kind_of h.kind) (Imp c (exp_of h.exp)) ∷ cs) (one_more_under c gs g)

pub one_more_later : (n : ℕ) (gs : List Condition) (g : Condition) →
    after_first n (map condition_of (gs ++ g ∷ [])) ≡ after_first n (map condition_of gs) ++ (when (guard_kind_of g.kind) (Imp (Not (Var (first_local n))) (exp_of g.exp)) ∷ [])
one_more_later n [] g = refl
one_more_later n (h ∷ gs) g = ap (λ cs. when (guard_kind_of h.kind) (Imp (Not (Var (first_local n))) (exp_of h.exp)) ∷ cs) (one_more_later n gs g)

mapped_put : (xs : List Condition) (y : Condition) → map condition_of (xs ++ y ∷ []) ≡ map condition_of xs ++ (condition_of y ∷ [])
mapped_put [] y = refl
mapped_put (x ∷ xs) y = ap (λ cs. condition_of x ∷ cs) (mapped_put xs y)

-- one condition more is put under a premise
pub put_under : (c : Exp) (before : List P.Condition) (out new gs : List Condition) (g y : Condition) → map condition_of out ≡ before ++ under c (map condition_of gs) → new ≡ out ++ (y ∷ []) →
    condition_of y ≡ when (guard_kind_of g.kind) (Imp c (exp_of g.exp)) → map condition_of new ≡ before ++ under c (map condition_of (gs ++ (g ∷ [])))
put_under c before out new gs g y e pushed same =
    ap (map condition_of) pushed ∙ mapped_put out y ∙ ap (λ cs. cs ++ (condition_of y ∷ [])) e ∙ append_assoc before (under c (map condition_of gs)) (condition_of y ∷ [])
    ∙ ap (λ d. before ++ (under c (map condition_of gs) ++ (d ∷ []))) same ∙ ap (λ cs. before ++ cs) (sym (one_more_under c gs g))

pub put_later : (n : ℕ) (out new gs : List Condition) (g y : Condition) → map condition_of out ≡ after_first n (map condition_of gs) → new ≡ out ++ (y ∷ []) →
    condition_of y ≡ when (guard_kind_of g.kind) (Imp (Not (Var (first_local n))) (exp_of g.exp)) → map condition_of new ≡ after_first n (map condition_of (gs ++ (g ∷ [])))
put_later n out new gs g y e pushed same =
    ap (map condition_of) pushed ∙ mapped_put out y ∙ ap (λ cs. cs ++ (condition_of y ∷ [])) e
    ∙ ap (λ d. after_first n (map condition_of gs) ++ (d ∷ [])) same ∙ sym (one_more_later n gs g)
