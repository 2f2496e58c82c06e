-- An expression that is changed has the head that it had and its children changed, but where something stands in its place.
use Rattle.std.proofs.Common.{◌≡◌, ◌↔◌, List, [], ◌∷◌, ◌++◌, map, Option, None, refl, sym, ap, ap₂, ◌∙◌}
use Rattle.expression_lang.specs.Expression.{Exp, Path, Here, IntoField, IntoElement}
use Rattle.expression_lang.specs.Changed.{changed, changed_path}
use Rattle.expression_lang.specs.CodeShape.{Shape, LeafShape, OneShape, TwoShape, BetweenShape, IfShape, PaddShape, RootShape, PlaceShape, GlobalShape, SelShape, UpdShape, UnaryOne, CastOne, ToNatOne, ToIntOne, ToWordOne, NegateOne, NotOne, BinaryTwo, ShiftTwo, CompareTwo, ArithTwo, LtTwo, LeTwo, EqTwo, AndTwo, OrTwo, ImpTwo, TaggedRoot, PtrOkRoot, AtPlace, LoadPlace, ReadPlace, VarLeaf, WordLeaf, NumberLeaf, TruthLeaf, shape_of, whole as whole_of}
use Rattle.expression_lang.proofs.ChangedShape.{shape_changed, changed_shape}
use Rattle.ac_expr.specs.Heads.{hole, head, children, path_head, path_children}
use Rattle.ac_expr.specs.CodeHeads.{bare, shape_children}
use Rattle.ac_expr.proofs.HeadShapes.{heads_same, children_by_shape}
use Rattle.ac_expr.proofs.HeadsAgree.{filled, whole}

-- a shape's own shape
shape_whole : (s : Shape) → shape_of (whole_of s) ≡ s
shape_whole (LeafShape (VarLeaf x)) = refl
shape_whole (LeafShape (WordLeaf w)) = refl
shape_whole (LeafShape (NumberLeaf n)) = refl
shape_whole (LeafShape (TruthLeaf b)) = refl
shape_whole (OneShape (UnaryOne op) a) = refl
shape_whole (OneShape (CastOne op width) a) = refl
shape_whole (OneShape ToNatOne a) = refl
shape_whole (OneShape ToIntOne a) = refl
shape_whole (OneShape (ToWordOne width) a) = refl
shape_whole (OneShape NegateOne a) = refl
shape_whole (OneShape NotOne a) = refl
shape_whole (TwoShape (BinaryTwo op) a b) = refl
shape_whole (TwoShape (ShiftTwo op) a b) = refl
shape_whole (TwoShape (CompareTwo op) a b) = refl
shape_whole (TwoShape (ArithTwo op) a b) = refl
shape_whole (TwoShape LtTwo a b) = refl
shape_whole (TwoShape LeTwo a b) = refl
shape_whole (TwoShape EqTwo a b) = refl
shape_whole (TwoShape AndTwo a b) = refl
shape_whole (TwoShape OrTwo a b) = refl
shape_whole (TwoShape ImpTwo a b) = refl
shape_whole (BetweenShape low a high) = refl
shape_whole (IfShape c a b) = refl
shape_whole (PaddShape t p n) = refl
shape_whole (RootShape TaggedRoot t p) = refl
shape_whole (RootShape PtrOkRoot t p) = refl
shape_whole (PlaceShape AtPlace t p path) = refl
shape_whole (PlaceShape LoadPlace t p path) = refl
shape_whole (PlaceShape ReadPlace t p path) = refl
shape_whole (GlobalShape x path) = refl
shape_whole (SelShape e path) = refl
shape_whole (UpdShape e path v) = refl

module _ (f : Exp → Option Exp) where
  abbrev pub each_changed : List Exp → List Exp
  each_changed es = map (λ e. changed f e) es

  path_head_changed : (path : Path) → path_head (changed_path f path) ≡ path_head path
  path_head_changed Here = refl
  path_head_changed (IntoField k path) = ap (λ p. IntoField k p) (path_head_changed path)
  path_head_changed (IntoElement a path) = ap (λ p. IntoElement hole p) (path_head_changed path)

  path_children_changed : (path : Path) → path_children (changed_path f path) ≡ each_changed (path_children path)
  path_children_changed Here = refl
  path_children_changed (IntoField k path) = path_children_changed path
  path_children_changed (IntoElement a path) = ap (λ es. changed f a ∷ es) (path_children_changed path)

  changed_before : (path : Path) (v : Exp) →
      (path_children (changed_path f path) ++ (changed f v ∷ [])) ≡ each_changed (path_children path ++ (v ∷ []))
  changed_before Here v = refl
  changed_before (IntoField k path) v = changed_before path v
  changed_before (IntoElement a path) v = ap (λ es. changed f a ∷ es) (changed_before path v)

  bare_changed : (s : Shape) → bare (shape_changed f s) ≡ bare s
  bare_changed (PlaceShape h t p path) = ap (λ q. PlaceShape h t hole q) (path_head_changed path)
  bare_changed (GlobalShape x path) = ap (λ q. GlobalShape x q) (path_head_changed path)
  bare_changed (SelShape e path) = ap (λ q. SelShape hole q) (path_head_changed path)
  bare_changed (UpdShape e path v) = ap (λ q. UpdShape hole q hole) (path_head_changed path)
  bare_changed s = refl

  shape_children_changed : (s : Shape) → shape_children (shape_changed f s) ≡ each_changed (shape_children s)
  shape_children_changed (PlaceShape h t p path) = ap (λ es. changed f p ∷ es) (path_children_changed path)
  shape_children_changed (GlobalShape x path) = path_children_changed path
  shape_children_changed (SelShape e path) = ap (λ es. changed f e ∷ es) (path_children_changed path)
  shape_children_changed (UpdShape e path v) = ap (λ es. changed f e ∷ es) (changed_before path v)
  shape_children_changed s = refl

  changed_whole : (e : Exp) → f e ≡ None → shape_of (changed f e) ≡ shape_changed f (shape_of e)
  changed_whole e h = ap shape_of (changed_shape f e (shape_of e) h refl) ∙ shape_whole (shape_changed f (shape_of e))

  head_changed : (e : Exp) → f e ≡ None → head (changed f e) ≡ head e
  head_changed e h = heads_same e (changed f e) (ap bare (changed_whole e h) ∙ bare_changed (shape_of e))

  children_changed : (e : Exp) → f e ≡ None → children (changed f e) ≡ each_changed (children e)
  children_changed e h =
      sym (children_by_shape (changed f e)) ∙ ap shape_children (changed_whole e h) ∙ shape_children_changed (shape_of e)
      ∙ ap each_changed (children_by_shape e)

  pub other_head : (a b : Exp) → f a ≡ None → (head b ≡ head a → ⊥) → b ≡ changed f a → ⊥
  other_head a b h differ k = differ (ap head k ∙ head_changed a h)

  -- an expression is another one changed where the heads are the same and so are the children, changed
  pub changed_by_children : (a b : Exp) (as' bs : List Exp) → f a ≡ None → head b ≡ head a → as' ≡ children a → bs ≡ children b →
      (bs ≡ each_changed as') ↔ (b ≡ changed f a)
  changed_by_children a b as' bs h i r s = (
    (λ k.
        sym (whole b) ∙ ap₂ filled (i ∙ sym (head_changed a h)) (sym s ∙ k ∙ ap each_changed r ∙ sym (children_changed a h))
        ∙ whole (changed f a)),
    (λ k. s ∙ ap children k ∙ children_changed a h ∙ sym (ap each_changed r)),
  )

  -- what is left of two rows, behind the first of both
  pub rest_changed : {P : Type 0} (a b : Exp) (as' bs ones others : List Exp) → ones ≡ a ∷ as' → others ≡ b ∷ bs → b ≡ changed f a →
      (others ≡ each_changed ones) ↔ P → (bs ≡ each_changed as') ↔ P
  rest_changed a b as' bs ones others h i k same =
      let row = ap each_changed h in (
        (λ j. same.0 (i ∙ ap₂ (λ c cs. c ∷ cs) k j ∙ sym row)),
        (λ j. let all : b ∷ bs ≡ changed f a ∷ each_changed as' = sym i ∙ same.1 j ∙ row in cc),
      )
