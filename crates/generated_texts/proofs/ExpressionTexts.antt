-- What is generated for an expression, and its conditions, have texts.
use Rattle.std.specs.Prelude.{nat_lt}
use Rattle.std.proofs.Common.{◌≡◌, ◌==◌, ◌^◌, ◌-◌, ℕ, ℤ, pos, Bool, true, ◌&&◌, List, [], ◌∷◌, ◌++◌, Some, refl}
use Rattle.std.proofs.lemmas.Bool.{and_parts, and_from, lt-ltb}
use Rattle.std.specs.Cmp.{first_so, second_so}
use Rattle.c_values.specs.Name.{Name}
use Rattle.c_values.specs.Types.{Target, IntType, CType, Integer, Ptr, is_signed, width_of}
use Rattle.c_values.specs.Width.{IsWidth}
use Rattle.c_values.specs.Layout.{Layout, IsLayout, scalar_width, global_type}
use Rattle.c_values.specs.Word.{word, Wsshr, Wushr}
use Rattle.c_values.specs.Number.{NumberOp, Add, Sub, Mul, greatest_of}
use Rattle.expression_lang.specs.Expression as E
use Rattle.expression_lang.specs.Sort.{Level, Bytes, Words, Numbers, is_lifted}
use Rattle.expression_text.specs.Names.{is_name}
use Rattle.expression_text.specs.TypeText as T
use Rattle.expression_text.specs.ExpText.{is_exp, is_path, is_of_two}
use Rattle.expression_text.specs.Lists.{each}
use Rattle.command_text.specs.CommandText.{is_condition}
use Rattle.simpl_lang.specs.Command.{Condition}
use Rattle.c_lang.specs.Typed as C
use Rattle.c_lang.specs.WellTyped.{Scope, are_globals, variable_type, is_type, is_typed, is_typed_place, are_typed_indices}
use Rattle.unit_names.specs.HasNames.{has_types, place_has_types, path_has_types}
use Rattle.generation.specs.Guards.{is_signed_type, number, cast_to, conversion, in_type, fits, divides, computes, shifts, shift, comparison, equation, is_not_zero, of_truth, moved_by, under, exp, truth, content, address, path_of, bounds, accesses, guards, place_guards, index_guards}
use Rattle.generation.proofs.ExactTests.{by_test}
use Rattle.generation.proofs.SortedExpressions.{scalar_wide}
use Rattle.generated_texts.proofs.NumberTexts.{width_is, least_of_is, greatest_of_is, last_is, index_is, word_is}
use Rattle.generated_texts.proofs.PathNumbers.{PathFits, through_fits, global_fits}

pub record HasText (e : E.Exp) : Type 0 where
  pub text : is_exp e ≡ true

pub record PathHasText (path : E.Path) : Type 0 where
  pub text : is_path path ≡ true

pub record AllHaveText (cs : List Condition) : Type 0 where
  pub text : each is_condition cs ≡ true

pub none : AllHaveText []
none = record { text = refl }

pub more : {c : Condition} {cs : List Condition} → HasText c.exp → AllHaveText cs → AllHaveText (c ∷ cs)
more h k = record { text = and_from _ _ h.text k.text }

pub parted : {c : Condition} {cs : List Condition} → AllHaveText (c ∷ cs) → HasText c.exp × AllHaveText cs
parted {c} {cs} h = let p = and_parts (is_exp c.exp) (each is_condition cs) h.text in (record { text = p.0 }, record { text = p.1 })

pub append : (cs ds : List Condition) → AllHaveText cs → AllHaveText ds → AllHaveText (cs ++ ds)
append [] ds h k = k
append (c ∷ cs) ds h k = let p = parted h in more p.0 (append cs ds p.1 k)

pub two : {a b : E.Exp} → HasText a → HasText b → (is_exp a && is_exp b) ≡ true
two h k = and_from _ _ h.text k.text

-- a type, a pointer and a path
pub along : (t : CType) {a : E.Exp} {path : E.Path} → T.is_type t ≡ true → HasText a → PathHasText path → (T.is_type t && (is_exp a && is_path path)) ≡ true
along t h k p = and_from _ _ h (and_from _ _ k.text p.text)

-- words of expressions

literal : (n : ℕ) (k : ℤ) → IsWidth n → HasText (E.WordLit (word n k))
literal n k w = record { text = word_is n k w }

pub word_literal : (t : Target) (i : IntType) (k : ℤ) → HasText (E.WordLit (word (width_of t i) k))
word_literal t i k = literal (width_of t i) k (scalar_wide t (Integer i))

number_text : (t : CType) (e : E.Exp) → HasText e → HasText (number t e)
number_text t e h = by_test HasText (is_signed_type t) (E.ToInt e) (E.ToNat e) (λ b. record { text = h.text }) (λ b. record { text = h.text })

cast_text : (to from : ℕ) (s : Bool) (e : E.Exp) → IsWidth to → HasText e → HasText (cast_to to from s e)
cast_text to from s e w h =
    let whole = and_from _ _ (width_is to w) h.text in
    by_test HasText (to == from) e _ (λ b. h) (λ b. by_test HasText (nat_lt to from) (E.Cast E.Trunc to e) _ (λ c. record { text = whole })
    (λ c. by_test HasText s (E.Cast E.Sext to e) (E.Cast E.Zext to e) (λ d. record { text = whole }) (λ d. record { text = whole })))

pub conversion_text : (t : Target) (to from : CType) (e : E.Exp) → HasText e → HasText (conversion t to from e)
conversion_text t to from e h = cast_text (scalar_width t to) (scalar_width t from) (is_signed_type from) e (scalar_wide t to) h

comparison_text : (r : C.Relation) (s : Bool) (a b : E.Exp) → HasText a → HasText b → HasText (comparison r s a b)
comparison_text C.Less s a b h k = record { text = two h k }
comparison_text C.LessEqual s a b h k = record { text = two h k }
comparison_text C.Greater s a b h k = record { text = two k h }
comparison_text C.GreaterEqual s a b h k = record { text = two k h }

equation_text : (q : C.Equality) (a b : E.Exp) → HasText a → HasText b → HasText (equation q a b)
equation_text C.Equal a b h k = record { text = two h k }
equation_text C.NotEqual a b h k = record { text = two h k }

shift_text : (i : IntType) (d : C.Direction) (a n : E.Exp) → HasText a → HasText n → HasText (shift i d a n)
shift_text i C.Left a n h k = record { text = two h k }
shift_text i C.Right a n h k = by_test HasText (is_signed i) (E.WordShift Wsshr a n) (E.WordShift Wushr a n) (λ b. record { text = two h k }) (λ b. record { text = two h k })

moved_text : (s : C.Sign) (n : E.Exp) → HasText n → HasText (moved_by s n)
moved_text C.Plus n h = h
moved_text C.Minus n h = record { text = h.text }

in_type_text : (t : Target) (i : IntType) (n : E.Exp) → HasText n → HasText (in_type t i n)
in_type_text t i n h = record { text = and_from _ _ (least_of_is t i) (and_from _ _ h.text (greatest_of_is t i)) }

-- conditions

under_text : (c : E.Exp) (gs : List Condition) → HasText c → AllHaveText gs → AllHaveText (under c gs)
under_text c [] h k = none
under_text c (g ∷ gs) h k = let p = parted k in more (record { text = two h p.0 }) (under_text c gs h p.1)

fits_text : (t : Target) (level : Level) (i : IntType) (n : E.Exp) → HasText n → AllHaveText (fits t level i n)
fits_text t Bytes i n h = by_test AllHaveText (is_signed i) _ _ (λ b. more (in_type_text t i n h) none) (λ b. none)
fits_text t Words i n h = by_test AllHaveText (is_signed i) _ _ (λ b. more (in_type_text t i n h) none) (λ b. none)
fits_text t Numbers i n h = by_test AllHaveText (is_signed i) _ _ (λ b. more (in_type_text t i n h) none) (λ b. more (in_type_text t i n h) none)

divides_text : (t : Target) (i : IntType) (a b : E.Exp) → HasText a → HasText b → AllHaveText (divides t i a b)
divides_text t i a b h k =
    more (record { text = two k (word_literal t i (pos 0)) })
    (by_test AllHaveText (is_signed i) _ _ (λ c. more (in_type_text t i _ (record { text = two h k })) none) (λ c. none))

sum_text : (t : Target) (level : Level) (i : IntType) (op : NumberOp) → is_of_two op ≡ true → (a b : E.Exp) → HasText a → HasText b → AllHaveText (fits t level i (E.Arith op (number (Integer i) a) (number (Integer i) b)))
sum_text t level i op o a b h k =
    fits_text t level i (E.Arith op (number (Integer i) a) (number (Integer i) b)) (record { text = and_from _ _ o (two (number_text (Integer i) a h) (number_text (Integer i) b k)) })

computes_text : (t : Target) (level : Level) (i : IntType) (op : C.Arithmetic) (a b : E.Exp) → HasText a → HasText b → AllHaveText (computes t level i op a b)
computes_text t level i C.Add a b h k = sum_text t level i Add refl a b h k
computes_text t level i C.Subtract a b h k = sum_text t level i Sub refl a b h k
computes_text t level i C.Multiply a b h k = sum_text t level i Mul refl a b h k
computes_text t level i C.Divide a b h k = divides_text t i a b h k
computes_text t level i C.Remainder a b h k = divides_text t i a b h k

count_text : (t : Target) (i : IntType) (n : E.Exp) → HasText n → HasText (E.Between (pos 0) n (pos (width_of t i - 1)))
count_text t i n h = record { text = and_from _ _ h.text (last_is t i) }

shifts_text : (t : Target) (i : IntType) (d : C.Direction) (a n : E.Exp) → HasText a → HasText n → AllHaveText (shifts t i d a n)
shifts_text t i C.Left a n h k =
    let greatest = word_literal t i (greatest_of t i) in
    more (count_text t i n k)
    (by_test AllHaveText (is_signed i) _ _
    (λ b. more (record { text = and_from _ _ h.text (greatest_of_is t i) }) (more (record { text = and_from _ _ h.text (two greatest k) }) none)) (λ b. none))
shifts_text t i C.Right a n h k = more (count_text t i n k) none

-- a value, and the truth of what isn't zero
valued : (l : Layout) (t : CType) (e : E.Exp) → HasText e → HasText e × HasText (is_not_zero l.target t e)
valued l t e h = (h, record { text = two h (literal (scalar_width l.target t) (pos 0) (scalar_wide l.target t)) })

-- a truth, and the int that stands for it
truthful : (b : E.Exp) → HasText b → HasText (of_truth b) × HasText b
truthful b h = (record { text = and_from _ _ h.text refl }, h)

-- what stands around an expression: a layout that can be, and names of texts
pub record IsNamed (g : Scope) : Type 0 where
  pub layout : IsLayout g.layout
  pub globals : are_globals g.layout g.globals ≡ true
  pub variable : (x : Name) (t : CType) → is_type (variable_type g.variables x) t ≡ true → is_name x ≡ true
  pub global : (x : Name) (t : CType) → global_type g.globals x ≡ Some t → is_name x ≡ true

module _ (g : Scope) (named : IsNamed g) where
  mutual
    -- the value and the truth of an expression
    pub expression_text : (e : C.Expr) → is_typed g e ≡ true → has_types e ≡ true → HasText (exp g.layout e) × HasText (truth g.layout e)
    expression_text (C.Constant i n) h k = valued g.layout (Integer i) _ (word_literal g.layout.target i n)
    expression_text (C.Local x t) h k = valued g.layout t (E.Var x) (record { text = named.variable x t h })
    expression_text (C.Value p) h k = valued g.layout _ _ (place_text p h k).0
    expression_text (C.Convert t a) h k = valued g.layout t _ (conversion_text g.layout.target t (C.type_of a) _ (expression_text a (second_so _ _ (second_so _ _ h)) (second_so _ _ k)).0)
    expression_text (C.ConvertNull t a) h k = valued g.layout t _ (conversion_text g.layout.target t (C.type_of a) _ (expression_text a (second_so _ _ (second_so _ _ h)) (second_so _ _ k)).0)
    expression_text (C.Negate i a) h k = valued g.layout (Integer i) _ (record { text = (expression_text a (second_so _ _ h) k).0.text })
    expression_text (C.Complement i a) h k = valued g.layout (Integer i) _ (record { text = (expression_text a (second_so _ _ h) k).0.text })
    expression_text (C.Compute op i a b) h k =
        valued g.layout (Integer i) _ (record { text = two (expression_text a (second_so _ _ (first_so _ _ h)) (first_so _ _ k)).0 (expression_text b (second_so _ _ (second_so _ _ h)) (second_so _ _ k)).0 })
    expression_text (C.Combine op i a b) h k =
        valued g.layout (Integer i) _ (record { text = two (expression_text a (second_so _ _ (first_so _ _ h)) (first_so _ _ k)).0 (expression_text b (second_so _ _ (second_so _ _ h)) (second_so _ _ k)).0 })
    expression_text (C.Shift d i a b) h k =
        valued g.layout (Integer i) _ (shift_text i d _ _ (expression_text a (second_so _ _ (first_so _ _ h)) (first_so _ _ k)).0 (number_text (C.type_of b) _ (expression_text b (second_so _ _ (second_so _ _ h)) (second_so _ _ k)).0))
    expression_text (C.Compare r i a b) h k =
        truthful _ (comparison_text r (is_signed i) _ _ (expression_text a (second_so _ _ (first_so _ _ h)) (first_so _ _ k)).0 (expression_text b (second_so _ _ (second_so _ _ h)) (second_so _ _ k)).0)
    expression_text (C.Equate q t a b) h k =
        truthful _ (equation_text q _ _ (expression_text a (second_so _ _ (second_so _ _ (first_so _ _ h))) (first_so _ _ k)).0 (expression_text b (second_so _ _ (second_so _ _ h)) (second_so _ _ k)).0)
    expression_text (C.Not a) h k = truthful _ (record { text = (expression_text a (second_so _ _ h) k).1.text })
    expression_text (C.And a b) h k = truthful _ (record { text = two (expression_text a (second_so _ _ (first_so _ _ h)) (first_so _ _ k)).1 (expression_text b (second_so _ _ (second_so _ _ h)) (second_so _ _ k)).1 })
    expression_text (C.Or a b) h k = truthful _ (record { text = two (expression_text a (second_so _ _ (first_so _ _ h)) (first_so _ _ k)).1 (expression_text b (second_so _ _ (second_so _ _ h)) (second_so _ _ k)).1 })
    expression_text (C.Choose t c a b) h k =
        let j = first_so _ _ h in
        let test = (expression_text c (second_so _ _ (second_so _ _ (first_so _ _ j))) (second_so _ _ (first_so _ _ (first_so _ _ k)))).1 in
        let left = (expression_text a (second_so _ _ (second_so _ _ j)) (second_so _ _ (first_so _ _ k))).0 in
        let right = (expression_text b (second_so _ _ (second_so _ _ h)) (second_so _ _ k)).0 in
        valued g.layout t _ (record { text = and_from _ _ test.text (two left right) })
    expression_text (C.Move s t p a) h k =
        let root = (expression_text p (second_so _ _ (second_so _ _ (first_so _ _ h))) (second_so _ _ (first_so _ _ k))).0 in
        let index = (expression_text a (second_so _ _ (second_so _ _ h)) (second_so _ _ k)).0 in
        valued g.layout (Ptr t) _ (record { text = and_from _ _ (first_so _ _ (first_so _ _ k)) (two root (moved_text s _ (number_text (C.type_of a) _ index))) })
    expression_text (C.MoveBy t a p) h k =
        let root = (expression_text p (second_so _ _ (second_so _ _ h)) (second_so _ _ k)).0 in
        let index = (expression_text a (second_so _ _ (second_so _ _ (first_so _ _ h))) (second_so _ _ (first_so _ _ k))).0 in
        valued g.layout (Ptr t) _ (record { text = and_from _ _ (first_so _ _ (first_so _ _ k)) (two root (number_text (C.type_of a) _ index)) })
    expression_text (C.Address p t) h k = valued g.layout (Ptr t) _ (place_text p (second_so _ _ (first_so _ _ h)) (second_so _ _ k)).1
    expression_text (C.Decay p t) h k = valued g.layout (Ptr t) _ (place_text p (second_so _ _ (first_so _ _ h)) (second_so _ _ k)).1

    -- what lies at a place, and its address
    pub place_text : (p : C.Place) → is_typed_place g p ≡ true → place_has_types p ≡ true → HasText (content g.layout p) × HasText (address g.layout p)
    place_text (C.Through t p path u) h k =
        let j = first_so _ _ h in
        let i = first_so _ _ k in
        let root = (expression_text p (second_so _ _ (second_so _ _ (first_so _ _ j))) (second_so _ _ (first_so _ _ i))).0 in
        let steps = path_text path (second_so _ _ j) (second_so _ _ i) (through_fits g.layout named.layout t u path (first_so _ _ (first_so _ _ j)) (second_so _ _ h)) in
        (record { text = along t (first_so _ _ (first_so _ _ i)) root steps }, record { text = along t (first_so _ _ (first_so _ _ i)) root steps })
    place_text (C.InGlobal x path u) h k =
        let found = global_fits g.layout named.layout g.globals named.globals x u path (second_so _ _ h) in
        let steps = path_text path (first_so _ _ h) (first_so _ _ k) found.0 in
        let name = named.global x found.1.0 found.1.1 in
        (record { text = and_from _ _ name steps.text }, record { text = and_from _ _ name steps.text })

    pub path_text : (path : C.Path) → are_typed_indices g path ≡ true → path_has_types path ≡ true → PathFits path → PathHasText (path_of g.layout path)
    path_text C.Here h k f = record { text = refl }
    path_text (C.Member n path) h k f = record { text = and_from _ _ (lt-ltb n (2 ^ 32) f.0) (path_text path h k f.1).text }
    path_text (C.Element n e path) h k f =
        let index = number_text (C.type_of e) _ (expression_text e (second_so _ _ (first_so _ _ h)) (second_so _ _ (first_so _ _ k))).0 in
        record { text = and_from _ _ index.text (path_text path (second_so _ _ h) (second_so _ _ k) f.1).text }

  bounds_text : (path : C.Path) → are_typed_indices g path ≡ true → path_has_types path ≡ true → PathFits path → AllHaveText (bounds g.layout path)
  bounds_text C.Here h k f = none
  bounds_text (C.Member n path) h k f = bounds_text path h k f.1
  bounds_text (C.Element n e path) h k f =
      let index = number_text (C.type_of e) _ (expression_text e (second_so _ _ (first_so _ _ h)) (second_so _ _ (first_so _ _ k))).0 in
      more (record { text = and_from _ _ index.text (index_is n f.0) }) (bounds_text path (second_so _ _ h) (second_so _ _ k) f.1)

  pub accesses_text : (level : Level) (p : C.Place) → is_typed_place g p ≡ true → place_has_types p ≡ true → AllHaveText (accesses g.layout level p)
  accesses_text level (C.Through t p path u) h k =
      let i = first_so _ _ (first_so _ _ k) in
      let root = (expression_text p (second_so _ _ (second_so _ _ (first_so _ _ (first_so _ _ h)))) (second_so _ _ i)).0 in
      let ok = and_from _ _ (first_so _ _ i) root.text in
      more (record { text = ok }) (by_test AllHaveText (is_lifted level) _ _ (λ b. more (record { text = ok }) none) (λ b. none))
  accesses_text level (C.InGlobal y path u) h k = none

  module _ (level : Level) where
    mutual
      pub guards_text : (e : C.Expr) → is_typed g e ≡ true → has_types e ≡ true → AllHaveText (guards g.layout level e)
      guards_text (C.Constant i n) h k = none
      guards_text (C.Local y t) h k = none
      guards_text (C.Value p) h k = append _ _ (place_guards_text p h k) (accesses_text level p h k)
      guards_text (C.Convert t a) h k = guards_text a (second_so _ _ (second_so _ _ h)) (second_so _ _ k)
      guards_text (C.ConvertNull t a) h k = guards_text a (second_so _ _ (second_so _ _ h)) (second_so _ _ k)
      guards_text (C.Negate i a) h k =
          let j = second_so _ _ h in
          append _ _ (guards_text a j k) (fits_text g.layout.target level i (E.Negate _) (record { text = (number_text (Integer i) _ (expression_text a j k).0).text }))
      guards_text (C.Complement i a) h k = guards_text a (second_so _ _ h) k
      guards_text (C.Compute op i a b) h k =
          let ja = second_so _ _ (first_so _ _ h) in
          let jb = second_so _ _ (second_so _ _ h) in
          append _ _ (append _ _ (guards_text a ja (first_so _ _ k)) (guards_text b jb (second_so _ _ k)))
          (computes_text g.layout.target level i op _ _ (expression_text a ja (first_so _ _ k)).0 (expression_text b jb (second_so _ _ k)).0)
      guards_text (C.Combine op i a b) h k = append _ _ (guards_text a (second_so _ _ (first_so _ _ h)) (first_so _ _ k)) (guards_text b (second_so _ _ (second_so _ _ h)) (second_so _ _ k))
      guards_text (C.Shift d i a b) h k =
          let ja = second_so _ _ (first_so _ _ h) in
          let jb = second_so _ _ (second_so _ _ h) in
          append _ _ (append _ _ (guards_text a ja (first_so _ _ k)) (guards_text b jb (second_so _ _ k)))
          (shifts_text g.layout.target i d _ _ (expression_text a ja (first_so _ _ k)).0 (number_text (C.type_of b) _ (expression_text b jb (second_so _ _ k)).0))
      guards_text (C.Compare r i a b) h k = append _ _ (guards_text a (second_so _ _ (first_so _ _ h)) (first_so _ _ k)) (guards_text b (second_so _ _ (second_so _ _ h)) (second_so _ _ k))
      guards_text (C.Equate q t a b) h k = append _ _ (guards_text a (second_so _ _ (second_so _ _ (first_so _ _ h))) (first_so _ _ k)) (guards_text b (second_so _ _ (second_so _ _ h)) (second_so _ _ k))
      guards_text (C.Not a) h k = guards_text a (second_so _ _ h) k
      guards_text (C.And a b) h k =
          let j = second_so _ _ (first_so _ _ h) in
          append _ _ (guards_text a j (first_so _ _ k)) (under_text _ _ (expression_text a j (first_so _ _ k)).1 (guards_text b (second_so _ _ (second_so _ _ h)) (second_so _ _ k)))
      guards_text (C.Or a b) h k =
          let j = second_so _ _ (first_so _ _ h) in
          append _ _ (guards_text a j (first_so _ _ k))
          (under_text (E.Not (truth g.layout a)) _ (record { text = (expression_text a j (first_so _ _ k)).1.text }) (guards_text b (second_so _ _ (second_so _ _ h)) (second_so _ _ k)))
      guards_text (C.Choose t c a b) h k =
          let i = first_so _ _ h in
          let j = second_so _ _ (second_so _ _ (first_so _ _ i)) in
          let kc = second_so _ _ (first_so _ _ (first_so _ _ k)) in
          append _ _ (append _ _ (guards_text c j kc) (under_text _ _ (expression_text c j kc).1 (guards_text a (second_so _ _ (second_so _ _ i)) (second_so _ _ (first_so _ _ k)))))
          (under_text (E.Not (truth g.layout c)) _ (record { text = (expression_text c j kc).1.text }) (guards_text b (second_so _ _ (second_so _ _ h)) (second_so _ _ k)))
      guards_text (C.Move s t p a) h k = append _ _ (guards_text p (second_so _ _ (second_so _ _ (first_so _ _ h))) (second_so _ _ (first_so _ _ k))) (guards_text a (second_so _ _ (second_so _ _ h)) (second_so _ _ k))
      guards_text (C.MoveBy t a p) h k = append _ _ (guards_text a (second_so _ _ (second_so _ _ (first_so _ _ h))) (second_so _ _ (first_so _ _ k))) (guards_text p (second_so _ _ (second_so _ _ h)) (second_so _ _ k))
      guards_text (C.Address p t) h k = place_guards_text p (second_so _ _ (first_so _ _ h)) (second_so _ _ k)
      guards_text (C.Decay p t) h k = place_guards_text p (second_so _ _ (first_so _ _ h)) (second_so _ _ k)

      pub place_guards_text : (p : C.Place) → is_typed_place g p ≡ true → place_has_types p ≡ true → AllHaveText (place_guards g.layout level p)
      place_guards_text (C.Through t p path u) h k =
          let j = first_so _ _ h in
          let i = first_so _ _ k in
          let f = through_fits g.layout named.layout t u path (first_so _ _ (first_so _ _ j)) (second_so _ _ h) in
          append _ _ (append _ _ (guards_text p (second_so _ _ (second_so _ _ (first_so _ _ j))) (second_so _ _ (first_so _ _ i))) (index_guards_text path (second_so _ _ j) (second_so _ _ i)))
          (bounds_text path (second_so _ _ j) (second_so _ _ i) f)
      place_guards_text (C.InGlobal y path u) h k =
          let f = (global_fits g.layout named.layout g.globals named.globals y u path (second_so _ _ h)).0 in
          append _ _ (index_guards_text path (first_so _ _ h) (first_so _ _ k)) (bounds_text path (first_so _ _ h) (first_so _ _ k) f)

      index_guards_text : (path : C.Path) → are_typed_indices g path ≡ true → path_has_types path ≡ true → AllHaveText (index_guards g.layout level path)
      index_guards_text C.Here h k = none
      index_guards_text (C.Member n path) h k = index_guards_text path h k
      index_guards_text (C.Element n e path) h k = append _ _ (guards_text e (second_so _ _ (first_so _ _ h)) (second_so _ _ (first_so _ _ k))) (index_guards_text path (second_so _ _ h) (second_so _ _ k))
