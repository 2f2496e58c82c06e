-- The first position that passes a test, where some names were passed.
use Rattle.std.proofs.Common.{◌≡◌, ℕ, ◌+◌, ◌-◌, true, false, ◌&&◌, List, [], ◌∷◌, ◌++◌, map, length, take, Option, Some, None, sym, ap, ap₂, ◌∙◌, arith}
use Rattle.std.proofs.lemmas.List.{map_push}
use Rattle.c_values.specs.Name.{Name}
use Rattle.expression_lang.specs.Expression.{Exp}
use Rattle.monad_lang.specs.Program.{Mon}
use Rattle.monad_lang.specs.Form.{can_be_put}
use Rattle.monad_lang.specs.Names.{is_free}
use Rattle.polish.specs.Polished.{is_literal, first_put, first_constant}
use Rattle.polish.specs.CodePutting.{put_later, put_behind}
use Rattle.polish.specs.Passing.{IsPutLeft, IsConstantLeft}
use Rattle.polish.proofs.FirstPut.{put_begun, put_here, put_next, constant_begun, constant_here, constant_next}
use Rattle.polish.proofs.Passed.{all_left, one_more_taken, one_less_left, one_further}

no_more : (k : ℕ) → k - k ≡ 0
no_more k = omega arith

module _ {A E : Type 0} (f : A → Name) (g : E → Exp) (values : List E) (names : List A) (n : Mon) where
  -- Values that can be put in

  pub put_first : IsPutLeft f g values names n values names
  put_first = record {
    names_left = all_left names;
    found =
        ap (λ k. put_later k (put_behind (map f (take k names)) (map g values) (map f names) n)) (no_more (length names))
        ∙ put_begun (map g values) (map f names) n;
  }

  pub put_none : (left : List E) (right : List A) → left ≡ [] → IsPutLeft f g values names n left right →
      ◌≡◌ {A = Option ℕ} None (first_put [] (map g values) (map f names) n)
  put_none [] right e h = h.found
  put_none (v ∷ left) right e h = absurd cc

  pub put_no_name : (left : List E) (right : List A) → right ≡ [] → IsPutLeft f g values names n left right →
      ◌≡◌ {A = Option ℕ} None (first_put [] (map g values) (map f names) n)
  put_no_name [] right e h = h.found
  put_no_name (v ∷ left) [] e h = h.found
  put_no_name (v ∷ left) (x ∷ right) e h = absurd cc

  module _ (left others : List E) (right after : List A) (v : E) (x : A) (d : left ≡ v ∷ others) (e : right ≡ x ∷ after) where
    abbrev passed : List Name
    passed = map f (take (length names - length right) names)

    module _ (h : IsPutLeft f g values names n left right) where
      here : put_later (length names - length right) (put_behind passed (g v ∷ map g others) (f x ∷ map f after) n)
          ≡ first_put [] (map g values) (map f names) n
      here =
          ap₂ (λ vs xs. put_later (length names - length right) (put_behind passed (map g vs) (map f xs) n)) (sym d) (sym e)
          ∙ h.found

      pub put_found : can_be_put (g v) (f x) (passed ++ map f after) n ≡ true →
          ◌≡◌ {A = Option ℕ} (Some (length names - length right)) (first_put [] (map g values) (map f names) n)
      put_found i =
          sym (put_here (length names - length right) passed (g v) (map g others) (f x) (map f after) n i) ∙ here

      pub put_further : can_be_put (g v) (f x) (passed ++ map f after) n ≡ false → IsPutLeft f g values names n others after
      put_further i = record {
        names_left = one_less_left names right x after h.names_left e;
        found =
            ap₂ (λ k xs. put_later k (put_behind (map f xs) (map g others) (map f after) n))
            (one_further names right x after h.names_left e) (one_more_taken names right x after h.names_left e)
            ∙ ap (λ xs. put_later (length names - length right + 1) (put_behind xs (map g others) (map f after) n))
            (map_push f (take (length names - length right) names) x)
            ∙ sym (put_next (length names - length right) passed (g v) (map g others) (f x) (map f after) n i)
            ∙ here;
      }

    module _ (h : IsConstantLeft f g values names n left right) where
      constant : put_later (length names - length right) (first_constant (g v ∷ map g others) (f x ∷ map f after) n)
          ≡ first_constant (map g values) (map f names) n
      constant =
          ap₂ (λ vs xs. put_later (length names - length right) (first_constant (map g vs) (map f xs) n)) (sym d) (sym e)
          ∙ h.found

      pub constant_found : (is_literal (g v) && is_free (f x) n) ≡ true →
          ◌≡◌ {A = Option ℕ} (Some (length names - length right)) (first_constant (map g values) (map f names) n)
      constant_found i =
          sym (constant_here n (length names - length right) (g v) (map g others) (f x) (map f after) i) ∙ constant

      pub constant_further : (is_literal (g v) && is_free (f x) n) ≡ false → IsConstantLeft f g values names n others after
      constant_further i = record {
        names_left = one_less_left names right x after h.names_left e;
        found =
            ap (λ k. put_later k (first_constant (map g others) (map f after) n)) (one_further names right x after h.names_left e)
            ∙ sym (constant_next n (length names - length right) (g v) (map g others) (f x) (map f after) i)
            ∙ constant;
      }

  -- Constants

  pub constant_first : IsConstantLeft f g values names n values names
  constant_first = record {
    names_left = all_left names;
    found =
        ap (λ k. put_later k (first_constant (map g values) (map f names) n)) (no_more (length names))
        ∙ constant_begun n (map g values) (map f names);
  }

  pub constant_none : (left : List E) (right : List A) → left ≡ [] → IsConstantLeft f g values names n left right →
      ◌≡◌ {A = Option ℕ} None (first_constant (map g values) (map f names) n)
  constant_none [] right e h = h.found
  constant_none (v ∷ left) right e h = absurd cc

  pub constant_no_name : (left : List E) (right : List A) → right ≡ [] → IsConstantLeft f g values names n left right →
      ◌≡◌ {A = Option ℕ} None (first_constant (map g values) (map f names) n)
  constant_no_name [] right e h = h.found
  constant_no_name (v ∷ left) [] e h = h.found
  constant_no_name (v ∷ left) (x ∷ right) e h = absurd cc
