-- An expression with another one in place of a name has the head that it had, and its children with that in place of the name, but
-- where it is the name itself.
use Rattle.std.proofs.Common.{◌≡◌, ◌↔◌, ◌<◌, ◌≤◌, ℕ, ◌+◌, ◌*◌, true, false, List, [], ◌∷◌, ◌++◌, Some, None, unwrap_or, if◌then◌else◌, refl, sym, ap, ap₂, ◌∙◌, arith}
use Rattle.c_values.specs.Name.{Name}
use Rattle.expression_lang.specs.Expression.{Exp, Var, Between, At, Load, Read, Global, Sel, Upd, Path, Here, IntoField, IntoElement}
use Rattle.ac_expr.specs.Heads.{hole, head, children, path_head, path_children}
use Rattle.ac_expr.specs.Substituted.{substituted, path_substituted}
use Rattle.ac_expr.specs.CodeApart.{size, path_size}
use Rattle.ac_expr.proofs.HeadsAgree.{filled, whole}
use Rattle.program_facts.specs.Substituted.{each_substituted}
use Rattle.rule_eq.specs.CodeTaken.{is_it}

module _ (x : Name) (e : Exp) where
  pub path_head_put : (path : Path) → path_head (path_substituted x e path) ≡ path_head path
  path_head_put Here = refl
  path_head_put (IntoField k path) = ap (λ p. IntoField k p) (path_head_put path)
  path_head_put (IntoElement a path) = ap (λ p. IntoElement hole p) (path_head_put path)

  path_children_put : (path : Path) → path_children (path_substituted x e path) ≡ each_substituted x e (path_children path)
  path_children_put Here = refl
  path_children_put (IntoField k path) = path_children_put path
  path_children_put (IntoElement a path) = ap (λ es. substituted x e a ∷ es) (path_children_put path)

  pub put_before : (path : Path) (v : Exp) →
      (path_children (path_substituted x e path) ++ (substituted x e v ∷ [])) ≡ each_substituted x e (path_children path ++ (v ∷ []))
  put_before Here v = refl
  put_before (IntoField k path) v = put_before path v
  put_before (IntoElement a path) v = ap (λ es. substituted x e a ∷ es) (put_before path v)

  pub named : (a : Exp) → is_it x a ≡ true → substituted x e a ≡ e
  named (Var y) h = ap (λ b. unwrap_or (if b then Some e else None) (Var y)) h
  named a h = cc

  pub head_put : (a : Exp) → is_it x a ≡ false → head (substituted x e a) ≡ head a
  head_put (Var y) h = ap (λ b. head (unwrap_or (if b then Some e else None) (Var y))) h
  head_put (At t p path) h = ap (λ q. At t hole q) (path_head_put path)
  head_put (Load t p path) h = ap (λ q. Load t hole q) (path_head_put path)
  head_put (Read t p path) h = ap (λ q. Read t hole q) (path_head_put path)
  head_put (Global y path) h = ap (λ q. Global y q) (path_head_put path)
  head_put (Sel a path) h = ap (λ q. Sel hole q) (path_head_put path)
  head_put (Upd a path v) h = ap (λ q. Upd hole q hole) (path_head_put path)
  head_put a h = refl

  pub children_put : (a : Exp) → is_it x a ≡ false → children (substituted x e a) ≡ each_substituted x e (children a)
  children_put (Var y) h = ap (λ b. children (unwrap_or (if b then Some e else None) (Var y))) h
  children_put (At t p path) h = ap (λ es. substituted x e p ∷ es) (path_children_put path)
  children_put (Load t p path) h = ap (λ es. substituted x e p ∷ es) (path_children_put path)
  children_put (Read t p path) h = ap (λ es. substituted x e p ∷ es) (path_children_put path)
  children_put (Global y path) h = path_children_put path
  children_put (Sel a path) h = ap (λ es. substituted x e a ∷ es) (path_children_put path)
  children_put (Upd a path v) h = ap (λ es. substituted x e a ∷ es) (put_before path v)
  children_put a h = refl

  pub put_by_children : (a b : Exp) → is_it x a ≡ false → head b ≡ head a →
      (children b ≡ each_substituted x e (children a)) ↔ (b ≡ substituted x e a)
  put_by_children a b h i = (
    (λ k. sym (whole b) ∙ ap₂ filled (i ∙ sym (head_put a h)) (k ∙ sym (children_put a h)) ∙ whole (substituted x e a)),
    (λ k. ap children k ∙ children_put a h),
  )

  pub other_head : (a b : Exp) → is_it x a ≡ false → (head b ≡ head a → ⊥) → b ≡ substituted x e a → ⊥
  other_head a b h i k = i (ap head k ∙ head_put a h)

  -- by rows that are the children of both
  pub row_put : (a b : Exp) (as' bs : List Exp) → is_it x a ≡ false → head b ≡ head a → as' ≡ children a → bs ≡ children b →
      (bs ≡ each_substituted x e as') ↔ (b ≡ substituted x e a)
  row_put a b as' bs h i r s =
      let put = put_by_children a b h i in
      let row = ap (λ es. each_substituted x e es) r in
      ((λ j. put.0 (sym s ∙ j ∙ row)), (λ j. s ∙ put.1 j ∙ sym row))

  -- what is left of two rows, behind the first of both
  pub rest_put : (a b : Exp) (as' bs ones others ls rs : List Exp) → ones ≡ a ∷ as' → others ≡ b ∷ bs → b ≡ substituted x e a →
      (others ≡ each_substituted x e ones) ↔ (rs ≡ each_substituted x e ls) → (bs ≡ each_substituted x e as') ↔ (rs ≡ each_substituted x e ls)
  rest_put a b as' bs ones others ls rs h i k same =
      let row = ap (λ es. each_substituted x e es) h in (
        (λ j. same.0 (i ∙ ap₂ (λ c cs. c ∷ cs) k j ∙ sym row)),
        (λ j. let all : b ∷ bs ≡ substituted x e a ∷ each_substituted x e as' = sym i ∙ same.1 j ∙ row in cc),
      )

-- how many heads there are in expressions
abbrev pub sizes : List Exp → ℕ
sizes [] = 0
sizes (e ∷ es) = size e + sizes es

path_sizes : (path : Path) → sizes (path_children path) ≡ path_size path
path_sizes Here = refl
path_sizes (IntoField k path) = path_sizes path
path_sizes (IntoElement e path) = ap (λ n. size e + n) (path_sizes path)

sizes_before : (path : Path) (v : Exp) → sizes (path_children path ++ (v ∷ [])) ≡ path_size path + size v
sizes_before Here v = omega arith
sizes_before (IntoField k path) v = sizes_before path v
sizes_before (IntoElement e path) v = let h = sizes_before path v in omega arith

pub children_smaller : (e : Exp) → sizes (children e) < size e
children_smaller (Between low a high) = omega arith
children_smaller (At t p path) = let h = path_sizes path in omega arith
children_smaller (Load t p path) = let h = path_sizes path in omega arith
children_smaller (Read t p path) = let h = path_sizes path in omega arith
children_smaller (Global x path) = let h = path_sizes path in omega arith
children_smaller (Sel e path) = let h = path_sizes path in omega arith
children_smaller (Upd e path v) = let h = sizes_before path v in omega arith
children_smaller _ = omega arith

-- the children of what is left of an expression
pub children_less : (a e : Exp) (es : List Exp) → es ≡ children a → size a ≤ size e → 2 * sizes es + 1 < 2 * size e
children_less a e es h k =
    let less = children_smaller a in
    let many : sizes es ≡ sizes (children a) = ap sizes h in
    omega arith

-- behind the first of a row
pub rest_less : (a : Exp) (as' ones ls : List Exp) → ones ≡ a ∷ as' → sizes ones ≤ sizes ls → sizes as' ≤ sizes ls
rest_less a as' ones ls h k =
    let many : sizes ones ≡ size a + sizes as' = ap sizes h in
    omega arith
