-- Programs with an expression in place of a name, by all but their last parts.
use Rattle.std.proofs.Common.{◌≡◌, ◌↔◌, ◌==◌, suc, Bool, true, false, List, [], ◌∷◌, ◌++◌, map, length, if◌then◌else◌, refl, sym, ap, ap₂, ◌∙◌, eqb-true, arith}
use Rattle.c_values.specs.Name.{Name, is_among}
use Rattle.expression_lang.specs.Expression.{Exp, Path, Here, IntoField, IntoElement}
use Rattle.ac_expr.specs.Heads.{hole, path_head, path_children}
use Rattle.ac_expr.specs.Substituted.{substituted}
use Rattle.ac_expr.proofs.HeadsAgree.{first, others, path_filled, left_by}
use Rattle.monad_lang.specs.Program as M
use Rattle.monad_lang.specs.Program.{Mon, Place, Stored, Written, Global, Start}
use Rattle.monad_lang.specs.Run.{start_names}
use Rattle.program_facts.specs.Places.{place_head, place_children}
use Rattle.program_facts.specs.Substituted.{each_substituted, starts_substituted, place_substituted, program_substituted}
use Rattle.rule_eq.specs.declared.program_putting.Looked as L
use Rattle.rule_eq.specs.CodePutting.{exp_behind, put_behind, turn_put}
use Rattle.rule_eq.proofs.PutParts.{path_head_put, put_before}

-- one program of another's parts is so where its own last part is

module _ (x : Name) (e : Exp) where
  pub write_iff : (place place' : Place) (a a' : Exp) (m right : Mon) → m ≡ M.Write place a → right ≡ M.Write place' a' →
      ((place' ≡ place_substituted x e place) × (a' ≡ substituted x e a)) ↔ (right ≡ program_substituted x e m)
  write_iff place place' a a' m right h k = (
    (λ s. k ∙ ap₂ (λ p b. M.Write p b) s.0 s.1 ∙ sym (ap (λ q. program_substituted x e q) h)),
    (λ s.
        let same : M.Write place' a' ≡ M.Write (place_substituted x e place) (substituted x e a) =
        sym k ∙ s ∙ ap (λ q. program_substituted x e q) h in
        let there : place' ≡ place_substituted x e place = cc in
        let given : a' ≡ substituted x e a = cc in
        (there, given)),
  )

  pub loop_put : (starts : List Start) (guard test : Exp) (m : Mon) →
      turn_put x e starts guard test m ≡ program_substituted x e (M.Loop starts guard test m)
  loop_put starts guard test m = by (is_among x (start_names starts))
    where
      by : (b : Bool) →
          M.Loop (starts_substituted x e starts) (exp_behind x e b guard) (exp_behind x e b test) (put_behind x e b m)
          ≡ (if b then M.Loop (starts_substituted x e starts) guard test m
          else M.Loop (starts_substituted x e starts) (substituted x e guard) (substituted x e test) (program_substituted x e m))
      by true = refl
      by false = refl

  -- starts, of which the first ones are at their end, or both have a first

  module _ {A : Type 0} (f : A → Start) where
    pub starts_end : (xs ys : List A) → length xs ≡ 0 → ((length ys == 0) ≡ true) ↔ (map f ys ≡ starts_substituted x e (map f xs))
    starts_end [] [] h = ((λ i. refl), (λ i. refl))
    starts_end [] (y ∷ ys) h = (
      (λ i. let clash : suc (length ys) ≡ 0 = eqb-true (suc (length ys)) 0 i in absurd (omega arith)),
      (λ i. let same : map f (y ∷ ys) ≡ [] = i in cc),
    )
    starts_end (z ∷ xs) ys h = absurd (omega arith)

    pub starts_go_on : (z y : A) (xs ys : List A) → (f z).name ≡ (f y).name → (f y).exp ≡ substituted x e (f z).exp →
        (map f ys ≡ starts_substituted x e (map f xs)) ↔ (map f (y ∷ ys) ≡ starts_substituted x e (map f (z ∷ xs)))
    starts_go_on z y xs ys h k =
        let one : f y ≡ record { name = (f z).name; exp = substituted x e (f z).exp } =
        ap₂ (λ n a. record { name = n; exp = a }) (sym h) k in (
          (λ i. ap₂ (λ a b. a ∷ b) one i),
          (λ i. let same : f y ∷ map f ys
              ≡ record { name = (f z).name; exp = substituted x e (f z).exp } ∷ starts_substituted x e (map f xs) = i in cc),
        )

  -- what is written, and where

  abbrev exps : Place → Exp → List Exp
  exps place a = place_children place ++ (a ∷ [])

  path_before : (path : Path) (es : List Exp) → path_filled (path_head path) (path_children path ++ es) ≡ path
  path_before Here es = refl
  path_before (IntoField k path) es = ap (λ p. IntoField k p) (path_before path es)
  path_before (IntoElement a path) es = ap (λ p. IntoElement a p) (path_before path es)

  left_after : (path : Path) (es : List Exp) → left_by (path_head path) (path_children path ++ es) ≡ es
  left_after Here es = refl
  left_after (IntoField k path) es = left_after path es
  left_after (IntoElement a path) es = left_after path es

  abbrev place_filled : Place → List Exp → Place
  place_filled (Stored t p path) es = Stored t (first es) (path_filled path (others es))
  place_filled (Written t p path) es = Written t (first es) (path_filled path (others es))
  place_filled (Global y path) es = Global y (path_filled path es)

  abbrev value_left : Place → List Exp → Exp
  value_left (Stored t p path) es = first (left_by path (others es))
  value_left (Written t p path) es = first (left_by path (others es))
  value_left (Global y path) es = first (left_by path es)

  place_whole : (place : Place) (a : Exp) → place_filled (place_head place) (exps place a) ≡ place
  place_whole (Stored t p path) a = ap (λ q. Stored t p q) (path_before path (a ∷ []))
  place_whole (Written t p path) a = ap (λ q. Written t p q) (path_before path (a ∷ []))
  place_whole (Global y path) a = ap (λ q. Global y q) (path_before path (a ∷ []))

  value_whole : (place : Place) (a : Exp) → value_left (place_head place) (exps place a) ≡ a
  value_whole (Stored t p path) a = ap first (left_after path (a ∷ []))
  value_whole (Written t p path) a = ap first (left_after path (a ∷ []))
  value_whole (Global y path) a = ap first (left_after path (a ∷ []))

  head_put : (place : Place) → place_head (place_substituted x e place) ≡ place_head place
  head_put (Stored t p path) = ap (λ q. Stored t hole q) (path_head_put x e path)
  head_put (Written t p path) = ap (λ q. Written t hole q) (path_head_put x e path)
  head_put (Global y path) = ap (λ q. Global y q) (path_head_put x e path)

  exps_put : (place : Place) (a : Exp) → exps (place_substituted x e place) (substituted x e a) ≡ each_substituted x e (exps place a)
  exps_put (Stored t p path) a = ap (λ es. substituted x e p ∷ es) (put_before x e path a)
  exps_put (Written t p path) a = ap (λ es. substituted x e p ∷ es) (put_before x e path a)
  exps_put (Global y path) a = put_before x e path a

  pub write_put : (place place' : Place) (a a' : Exp) →
      ((place_head place' ≡ place_head place) × (exps place' a' ≡ each_substituted x e (exps place a)))
      ↔ ((place' ≡ place_substituted x e place) × (a' ≡ substituted x e a))
  write_put place place' a a' = (
    (λ h.
        let head = h.0 ∙ sym (head_put place) in
        let row = h.1 ∙ sym (exps_put place a) in (
          sym (place_whole place' a') ∙ ap₂ place_filled head row ∙ place_whole (place_substituted x e place) (substituted x e a),
          sym (value_whole place' a') ∙ ap₂ value_left head row ∙ value_whole (place_substituted x e place) (substituted x e a),
        )),
    (λ h. (ap place_head h.0 ∙ head_put place, ap₂ exps h.0 h.1 ∙ exps_put place a)),
  )
