-- What programs give, by what their parts give.
use Rattle.std.proofs.Common.{◌≡◌, Bool, true, false, ◌&&◌, List, [], ◌∷◌, ◌++◌, length, Option, Some, None, refl, sym, ap, ap₂, ◌∙◌, arith, eq-eqb}
use Rattle.c_values.specs.Name.{Name, are_distinct, with_name}
use Rattle.expression_lang.specs.Expression.{Exp}
use Rattle.expression_lang.specs.Sort.{Scalar, is_truth}
use Rattle.expression_lang.specs.Sorted.{names_with, program_sort}
use Rattle.monad_lang.specs.Program as M
use Rattle.monad_lang.specs.Program.{Mon, Start}
use Rattle.monad_lang.specs.Run.{start_names}
use Rattle.monad_lang.specs.Sorted.{Setting, setting_with, scalars_given, start_scalars, and_then_scalars, where_fits, are_scalars, one_for_each}

pub names_apart : (xs ys : List Name) (ss ts : List Scalar) (others : Name → Option Scalar) → length xs ≡ length ss → names_with (xs ++ ys) (ss ++ ts) others ≡ names_with ys ts (names_with xs ss others)
names_apart [] ys [] ts others h = refl
names_apart [] ys (s ∷ ss) ts others h = absurd cc
names_apart (x ∷ xs) ys [] ts others h = absurd cc
names_apart (x ∷ xs) ys (s ∷ ss) ts others h = names_apart xs ys ss ts (with_name x (Some s) others) (omega arith)

-- behind a first part
pub bind_given : (t : Setting) (m : Mon) (xs : List Name) (n : Mon) (ss : List Scalar) → scalars_given t m ≡ Some ss → length xs ≡ length ss → are_distinct xs ≡ true →
    scalars_given t (M.Bind m xs n) ≡ scalars_given (setting_with xs ss t) n
bind_given t m xs n ss h l d =
    ap (λ o. and_then_scalars o (λ ss. where_fits (one_for_each xs ss && are_distinct xs) (scalars_given (setting_with xs ss t) n))) h
    ∙ ap₂ (λ a b. where_fits (a && b) (scalars_given (setting_with xs ss t) n)) (eq-eqb (length xs) (length ss) l) d

pub bind_none : (t : Setting) (m : Mon) (xs : List Name) (n : Mon) → scalars_given t m ≡ None → scalars_given t (M.Bind m xs n) ≡ None
bind_none t m xs n h = ap (λ o. and_then_scalars o (λ ss. where_fits (one_for_each xs ss && are_distinct xs) (scalars_given (setting_with xs ss t) n))) h

module _ (t : Setting) (starts : List Start) (guard test : Exp) (m : Mon) where
  abbrev inner : List Scalar → Setting
  inner ss = setting_with (start_names starts) ss t

  abbrev pub is_turn_in : Setting → Bool
  is_turn_in s = are_distinct (start_names starts) && is_truth (program_sort s.scope guard) && is_truth (program_sort s.scope test)

  whole : List Scalar → Bool → Option (List Scalar) → Option (List Scalar)
  whole ss b o = where_fits (b && are_scalars ss o) (Some ss)

  pub loop_given : (ss : List Scalar) (s : Setting) (b : Bool) (o : Option (List Scalar)) → start_scalars t.scope starts ≡ Some ss → s ≡ setting_with (start_names starts) ss t →
      b ≡ is_turn_in s → o ≡ scalars_given s m → where_fits (b && are_scalars ss o) (Some ss) ≡ scalars_given t (M.Loop starts guard test m)
  loop_given ss s b o h e i j =
      ap₂ (λ b o. where_fits (b && are_scalars ss o) (Some ss)) i j
      ∙ ap (λ s. where_fits (is_turn_in s && are_scalars ss (scalars_given s m)) (Some ss)) e
      ∙ sym (ap (λ o. and_then_scalars o (λ ss. where_fits (is_turn_in (inner ss) && are_scalars ss (scalars_given (inner ss) m)) (Some ss))) h)

-- a first part more, by the names behind it
pub further : (T : (Name → Option Scalar) → Setting) (names next : Name → Option Scalar) (m : Mon) (xs : List Name) (n : Mon) (ss : List Scalar) →
    T (names_with xs ss names) ≡ setting_with xs ss (T names) → next ≡ names_with xs ss names → scalars_given (T names) m ≡ Some ss → length xs ≡ length ss → are_distinct xs ≡ true →
    scalars_given (T next) n ≡ scalars_given (T names) (M.Bind m xs n)
further T names next m xs n ss w e h l d = ap (λ N. scalars_given (T N) n) e ∙ ap (λ s. scalars_given s n) w ∙ sym (bind_given (T names) m xs n ss h l d)

pub bind_where : (t : Setting) (m : Mon) (xs : List Name) (n : Mon) (ss : List Scalar) → scalars_given t m ≡ Some ss →
    scalars_given t (M.Bind m xs n) ≡ where_fits (one_for_each xs ss && are_distinct xs) (scalars_given (setting_with xs ss t) n)
bind_where t m xs n ss h = ap (λ o. and_then_scalars o (λ ss. where_fits (one_for_each xs ss && are_distinct xs) (scalars_given (setting_with xs ss t) n))) h

-- with the names behind a first part
pub further_on : (T : (Name → Option Scalar) → Setting) (names next : Name → Option Scalar) (m : Mon) (xs : List Name) (n : Mon) (ss : List Scalar) (whole : Option (List Scalar)) →
    T (names_with xs ss names) ≡ setting_with xs ss (T names) → next ≡ names_with xs ss names → Some ss ≡ scalars_given (T names) m → true ≡ (one_for_each xs ss && are_distinct xs) →
    scalars_given (T names) (M.Bind m xs n) ≡ whole → scalars_given (T next) n ≡ whole
further_on T names next m xs n ss whole w e h b i =
    ap (λ N. scalars_given (T N) n) e ∙ ap (λ s. scalars_given s n) w ∙ ap (λ c. where_fits c (scalars_given (setting_with xs ss (T names)) n)) b ∙ sym (bind_where (T names) m xs n ss (sym h)) ∙ i

pub not_further : (t : Setting) (m : Mon) (xs : List Name) (n : Mon) (ss : List Scalar) (whole : Option (List Scalar)) → Some ss ≡ scalars_given t m → false ≡ (one_for_each xs ss && are_distinct xs) →
    scalars_given t (M.Bind m xs n) ≡ whole → None ≡ whole
not_further t m xs n ss whole h b i = ap (λ c. where_fits c (scalars_given (setting_with xs ss t) n)) b ∙ sym (bind_where t m xs n ss (sym h)) ∙ i
