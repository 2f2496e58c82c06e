-- A variable is captured where a binder of its name is, and can be put in where it is none of the names before and after.
use Rattle.std.proofs.Common.{◌≡◌, Bool, true, false, not, ◌&&◌, ◌||◌, List, [], ◌∷◌, ◌++◌, refl, sym, ap, ap₂, ◌∙◌}
use Rattle.c_values.specs.Name.{Name, same_name, is_among}
use Rattle.c_values.proofs.Names.{same_name_swapped}
use Rattle.expression_lang.specs.Expression.{Var}
use Rattle.expression_lang.specs.Mentions as X
use Rattle.ac_expr.specs.Lasting.{is_unnamed}
use Rattle.monad_lang.specs.Program as M
use Rattle.monad_lang.specs.Program.{Mon}
use Rattle.monad_lang.specs.Names.{is_free, is_captured}
use Rattle.monad_lang.specs.Run.{start_names}
use Rattle.monad_lang.specs.Form.{can_be_put}
use Rattle.rule_parts.specs.Captures.{captures}

unnamed_variable : (y : Name) (xs : List Name) → not (is_unnamed xs (Var y)) ≡ is_among y xs
unnamed_variable y [] = refl
unnamed_variable y (x ∷ xs) =
    by (same_name x y) (is_unnamed xs (Var y)) ∙ ap₂ (λ a b. a || b) (same_name_swapped x y) (unnamed_variable y xs)
  where
    by : (a b : Bool) → not (not a && b) ≡ (a || not b)
    by true b = refl
    by false b = refl

-- a binder
at_binder : (y x : Name) (xs : List Name) (free inner captured : Bool) → inner ≡ captured →
    (not (is_among x xs) && ((not (is_unnamed xs (Var y)) && free) || inner)) ≡ (not (is_among x xs) && ((is_among y xs && free) || captured))
at_binder y x xs free inner captured h =
    ap₂ (λ a b. not (is_among x xs) && ((a && free) || b)) (unnamed_variable y xs) h

variable_captured : (y x : Name) (m : Mon) → captures (Var y) x m ≡ is_captured y x m
variable_captured y x (M.Bind m xs n) =
    ap₂ (λ a b. a || b) (variable_captured y x m) (at_binder y x xs (is_free x n) _ _ (variable_captured y x n))
variable_captured y x (M.If e m n) = ap₂ (λ a b. a || b) (variable_captured y x m) (variable_captured y x n)
variable_captured y x (M.Loop starts guard test m) =
    at_binder y x (start_names starts) (X.names x guard || X.names x test || is_free x m) _ _ (variable_captured y x m)
variable_captured _ _ _ = refl

pub or_assoc : (a b c : Bool) → ((a || b) || c) ≡ (a || (b || c))
or_assoc true b c = refl
or_assoc false b c = refl

pub among_both : (y : Name) (xs ys : List Name) → is_among y (xs ++ ys) ≡ (is_among y xs || is_among y ys)
among_both y [] ys = refl
among_both y (x ∷ xs) ys = ap (λ b. same_name y x || b) (among_both y xs ys) ∙ sym (or_assoc (same_name y x) (is_among y xs) (is_among y ys))

pub variable_put : (y x : Name) (before after : List Name) (n : Mon) →
    can_be_put (Var y) x (before ++ after) n ≡ (not (is_among y before) && not (is_among y after) && not (captures (Var y) x n))
variable_put y x before after n =
    ap₂ (λ a b. not a && not b) (among_both y before after) (sym (variable_captured y x n))
    ∙ by (is_among y before) (is_among y after) (not (captures (Var y) x n))
  where
    by : (a b c : Bool) → (not (a || b) && c) ≡ (not a && not b && c)
    by true b c = refl
    by false b c = refl
