-- An expression without a load and without a read has one value in states that are alike.
use Rattle.std.proofs.Common.{◌≡◌, false, ◌||◌, List, [], ◌∷◌, ◌++◌, refl, ap, ap₂}
use Rattle.std.proofs.lemmas.Bool.{or_parts}
use Rattle.c_values.specs.Value.{Value}
use Rattle.c_values.specs.Layout.{Layout}
use Rattle.c_memory.specs.Heap.{heap_tags}
use Rattle.expression_lang.specs.Expression.{Exp, WordBinary, WordShift, WordUnary, WordCompare, Cast, ToNat, ToInt, ToWord, Arith, Negate, Lt, Le, Between, Eq, And, Or, Imp, Not, If, Padd, At, Load, Read, Tagged, PtrOk, Global, Sel, Upd, Path, Here, IntoField, IntoElement}
use Rattle.expression_lang.specs.Form.{has, path_has, is_load, is_read}
use Rattle.expression_lang.specs.Evaluation.{Env, State, value}
use Rattle.ac_expr.specs.Heads.{children, path_children}
use Rattle.ac_expr.proofs.HeadsAgree.{SameValues, SameValue, LooksAlike, heads_agree}
use Rattle.rule_heap.proofs.ExpForms.{has_some}

-- neither passes in an expression, in a path
pub record IsFree (e : Exp) : Type 0 where
  pub loads : has is_load e ≡ false
  pub reads : has is_read e ≡ false

pub record IsPathFree (path : Path) : Type 0 where
  pub loads : path_has is_load path ≡ false
  pub reads : path_has is_read path ≡ false

abbrev first_of : Value → List Value → Value
first_of u [] = u
first_of u (v ∷ vs) = v

abbrev others_of : List Value → List Value
others_of [] = []
others_of (v ∷ vs) = vs

module _ (l : Layout) (env : Env) (s s' : State) (tags : heap_tags s'.heap ≡ heap_tags s.heap) (globals : s'.globals ≡ s.globals) where
  abbrev Stays : Exp → Type 0
  Stays e = SameValue l env env s s' e e

  abbrev AllStay : List Exp → Type 0
  AllStay es = SameValues l env env s s' es es

  from_children : (e : Exp) → LooksAlike l env env s s' e → AllStay (children e) → Stays e
  from_children e h k = heads_agree l env env s s' tags globals e e refl h k

  more : (e : Exp) (es : List Exp) → Stays e → AllStay es → AllStay (e ∷ es)
  more e es h k = ap₂ (λ v vs. v ∷ vs) h k

  before : (es : List Exp) (e : Exp) → AllStay es → Stays e → AllStay (es ++ (e ∷ []))
  before [] e h k = more e [] k refl
  before (a ∷ es) e h k = more a (es ++ (e ∷ [])) (ap (first_of (value l env s a)) h) (before es e (ap others_of h) k)

  mutual
    pub value_stays : (e : Exp) → IsFree e → Stays e
    value_stays (WordUnary op a) f = from_children (WordUnary op a) tt (more a [] (value_stays a (record { loads = f.loads; reads = f.reads })) refl)
    value_stays (Cast op width a) f = from_children (Cast op width a) tt (more a [] (value_stays a (record { loads = f.loads; reads = f.reads })) refl)
    value_stays (ToNat a) f = from_children (ToNat a) tt (more a [] (value_stays a (record { loads = f.loads; reads = f.reads })) refl)
    value_stays (ToInt a) f = from_children (ToInt a) tt (more a [] (value_stays a (record { loads = f.loads; reads = f.reads })) refl)
    value_stays (ToWord width a) f = from_children (ToWord width a) tt (more a [] (value_stays a (record { loads = f.loads; reads = f.reads })) refl)
    value_stays (Negate a) f = from_children (Negate a) tt (more a [] (value_stays a (record { loads = f.loads; reads = f.reads })) refl)
    value_stays (Not a) f = from_children (Not a) tt (more a [] (value_stays a (record { loads = f.loads; reads = f.reads })) refl)
    value_stays (Tagged t a) f = from_children (Tagged t a) tt (more a [] (value_stays a (record { loads = f.loads; reads = f.reads })) refl)
    value_stays (PtrOk t a) f = from_children (PtrOk t a) tt (more a [] (value_stays a (record { loads = f.loads; reads = f.reads })) refl)
    value_stays (Between low a high) f = from_children (Between low a high) tt (more a [] (value_stays a (record { loads = f.loads; reads = f.reads })) refl)
    value_stays (WordBinary op a b) f =
        let x = or_parts (has is_load a) (has is_load b) f.loads in
        let y = or_parts (has is_read a) (has is_read b) f.reads in
        from_children (WordBinary op a b) tt (more a (b ∷ []) (value_stays a (record { loads = x.0; reads = y.0 })) (more b [] (value_stays b (record { loads = x.1; reads = y.1 })) refl))
    value_stays (WordShift op a b) f =
        let x = or_parts (has is_load a) (has is_load b) f.loads in
        let y = or_parts (has is_read a) (has is_read b) f.reads in
        from_children (WordShift op a b) tt (more a (b ∷ []) (value_stays a (record { loads = x.0; reads = y.0 })) (more b [] (value_stays b (record { loads = x.1; reads = y.1 })) refl))
    value_stays (WordCompare op a b) f =
        let x = or_parts (has is_load a) (has is_load b) f.loads in
        let y = or_parts (has is_read a) (has is_read b) f.reads in
        from_children (WordCompare op a b) tt (more a (b ∷ []) (value_stays a (record { loads = x.0; reads = y.0 })) (more b [] (value_stays b (record { loads = x.1; reads = y.1 })) refl))
    value_stays (Arith op a b) f =
        let x = or_parts (has is_load a) (has is_load b) f.loads in
        let y = or_parts (has is_read a) (has is_read b) f.reads in
        from_children (Arith op a b) tt (more a (b ∷ []) (value_stays a (record { loads = x.0; reads = y.0 })) (more b [] (value_stays b (record { loads = x.1; reads = y.1 })) refl))
    value_stays (Lt a b) f =
        let x = or_parts (has is_load a) (has is_load b) f.loads in
        let y = or_parts (has is_read a) (has is_read b) f.reads in
        from_children (Lt a b) tt (more a (b ∷ []) (value_stays a (record { loads = x.0; reads = y.0 })) (more b [] (value_stays b (record { loads = x.1; reads = y.1 })) refl))
    value_stays (Le a b) f =
        let x = or_parts (has is_load a) (has is_load b) f.loads in
        let y = or_parts (has is_read a) (has is_read b) f.reads in
        from_children (Le a b) tt (more a (b ∷ []) (value_stays a (record { loads = x.0; reads = y.0 })) (more b [] (value_stays b (record { loads = x.1; reads = y.1 })) refl))
    value_stays (Eq a b) f =
        let x = or_parts (has is_load a) (has is_load b) f.loads in
        let y = or_parts (has is_read a) (has is_read b) f.reads in
        from_children (Eq a b) tt (more a (b ∷ []) (value_stays a (record { loads = x.0; reads = y.0 })) (more b [] (value_stays b (record { loads = x.1; reads = y.1 })) refl))
    value_stays (And a b) f =
        let x = or_parts (has is_load a) (has is_load b) f.loads in
        let y = or_parts (has is_read a) (has is_read b) f.reads in
        from_children (And a b) tt (more a (b ∷ []) (value_stays a (record { loads = x.0; reads = y.0 })) (more b [] (value_stays b (record { loads = x.1; reads = y.1 })) refl))
    value_stays (Or a b) f =
        let x = or_parts (has is_load a) (has is_load b) f.loads in
        let y = or_parts (has is_read a) (has is_read b) f.reads in
        from_children (Or a b) tt (more a (b ∷ []) (value_stays a (record { loads = x.0; reads = y.0 })) (more b [] (value_stays b (record { loads = x.1; reads = y.1 })) refl))
    value_stays (Imp a b) f =
        let x = or_parts (has is_load a) (has is_load b) f.loads in
        let y = or_parts (has is_read a) (has is_read b) f.reads in
        from_children (Imp a b) tt (more a (b ∷ []) (value_stays a (record { loads = x.0; reads = y.0 })) (more b [] (value_stays b (record { loads = x.1; reads = y.1 })) refl))
    value_stays (Padd t a b) f =
        let x = or_parts (has is_load a) (has is_load b) f.loads in
        let y = or_parts (has is_read a) (has is_read b) f.reads in
        from_children (Padd t a b) tt (more a (b ∷ []) (value_stays a (record { loads = x.0; reads = y.0 })) (more b [] (value_stays b (record { loads = x.1; reads = y.1 })) refl))
    value_stays (If c a b) f =
        let x = or_parts (has is_load c || has is_load a) (has is_load b) f.loads in
        let y = or_parts (has is_read c || has is_read a) (has is_read b) f.reads in
        let v = or_parts (has is_load c) (has is_load a) x.0 in
        let w = or_parts (has is_read c) (has is_read a) y.0 in
        from_children (If c a b) tt
        (more c (a ∷ b ∷ []) (value_stays c (record { loads = v.0; reads = w.0 })) (more a (b ∷ []) (value_stays a (record { loads = v.1; reads = w.1 })) (more b [] (value_stays b (record { loads = x.1; reads = y.1 })) refl)))
    value_stays (At t p path) f =
        let x = or_parts (has is_load p) (path_has is_load path) f.loads in
        let y = or_parts (has is_read p) (path_has is_read path) f.reads in
        from_children (At t p path) tt (more p (path_children path) (value_stays p (record { loads = x.0; reads = y.0 })) (path_stays path (record { loads = x.1; reads = y.1 })))
    value_stays (Load t p path) f = absurd (has_some (has is_load p) (path_has is_load path) f.loads)
    value_stays (Read t p path) f = absurd (has_some (has is_read p) (path_has is_read path) f.reads)
    value_stays (Global x path) f = from_children (Global x path) tt (path_stays path (record { loads = f.loads; reads = f.reads }))
    value_stays (Sel e path) f =
        let x = or_parts (has is_load e) (path_has is_load path) f.loads in
        let y = or_parts (has is_read e) (path_has is_read path) f.reads in
        from_children (Sel e path) tt (more e (path_children path) (value_stays e (record { loads = x.0; reads = y.0 })) (path_stays path (record { loads = x.1; reads = y.1 })))
    value_stays (Upd e path w) f =
        let x = or_parts (has is_load e || path_has is_load path) (has is_load w) f.loads in
        let y = or_parts (has is_read e || path_has is_read path) (has is_read w) f.reads in
        let x' = or_parts (has is_load e) (path_has is_load path) x.0 in
        let y' = or_parts (has is_read e) (path_has is_read path) y.0 in
        from_children (Upd e path w) tt
        (more e (path_children path ++ (w ∷ [])) (value_stays e (record { loads = x'.0; reads = y'.0 }))
        (before (path_children path) w (path_stays path (record { loads = x'.1; reads = y'.1 })) (value_stays w (record { loads = x.1; reads = y.1 }))))
    value_stays _ _ = refl

    pub path_stays : (path : Path) → IsPathFree path → AllStay (path_children path)
    path_stays Here f = refl
    path_stays (IntoField k path) f = path_stays path (record { loads = f.loads; reads = f.reads })
    path_stays (IntoElement e path) f =
        let x = or_parts (has is_load e) (path_has is_load path) f.loads in
        let y = or_parts (has is_read e) (path_has is_read path) f.reads in
        more e (path_children path) (value_stays e (record { loads = x.0; reads = y.0 })) (path_stays path (record { loads = x.1; reads = y.1 }))
