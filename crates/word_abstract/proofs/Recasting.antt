-- Values that are recast one after the other.
use Rattle.std.proofs.Common.{◌≡◌, List, [], ◌∷◌, ◌++◌, Option, Some, None, refl, ap, ◌∙◌}
use Rattle.c_values.specs.Name.{Name}
use Rattle.expression_lang.specs.Expression.{Exp, Var}
use Rattle.expression_lang.specs.Sort.{Kind}
use Rattle.rule_word.specs.Table.{recast, recasts, recast_first}
use Rattle.word_abstract.specs.CodeRecasting.{before}

append_one : (xs : List Exp) (x : Exp) (ys : List Exp) → (xs ++ x ∷ []) ++ ys ≡ xs ++ x ∷ ys
append_one [] x ys = refl
append_one (y ∷ xs) x ys = ap (λ r. y ∷ r) (append_one xs x ys)

append_none : (xs : List Exp) → xs ++ [] ≡ xs
append_none [] = refl
append_none (x ∷ xs) = ap (λ r. x ∷ r) (append_none xs)

before_push : (xs : List Exp) (e : Exp) (o : Option (List Exp)) → before (xs ++ e ∷ []) o ≡ before xs (recast_first (Some e) o)
before_push xs e None = refl
before_push xs e (Some ys) = ap Some (append_one xs e ys)

pub one_more : (xs : List Exp) (e : Exp) (j : Kind) (js : List Kind) (k : Kind) (ks : List Kind) (y : Name) (ys : List Name) (whole : Option (List Exp)) →
    Some e ≡ recast j k (Var y) → before xs (recasts (j ∷ js) (k ∷ ks) (y ∷ ys)) ≡ whole → before (xs ++ e ∷ []) (recasts js ks ys) ≡ whole
one_more xs e j js k ks y ys whole q h = before_push xs e (recasts js ks ys) ∙ ap (λ o. before xs (recast_first o (recasts js ks ys))) q ∙ h

pub none_there : (j : Kind) (js : List Kind) (k : Kind) (ks : List Kind) (y : Name) (ys : List Name) (xs : List Exp) (whole : Option (List Exp)) →
    None ≡ recast j k (Var y) → before xs (recasts (j ∷ js) (k ∷ ks) (y ∷ ys)) ≡ whole → None ≡ whole
none_there j js k ks y ys xs whole q h = ap (λ o. before xs (recast_first o (recasts js ks ys))) q ∙ h

pub all_made : (xs : List Exp) → before xs (Some []) ≡ Some xs
all_made xs = ap Some (append_none xs)
