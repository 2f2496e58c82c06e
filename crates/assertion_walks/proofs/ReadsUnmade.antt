-- What a read is before a place in a typed heap is written, and the parts that it has to have.
use Rattle.std.proofs.Common.{◌≡◌, ◌↔◌, ◌∷◌, Bool, true, false, if◌then◌else◌, refl, sym, ap, ap₂, ◌∙◌, subst}
use Rattle.std.proofs.lemmas.Bool.{false≢true}
use Rattle.c_values.specs.Types.{CType, same_type}
use Rattle.c_values.proofs.Options.{some_is}
use Rattle.expression_lang.specs.Expression.{Exp, Read, Path}
use Rattle.expression_lang.specs.Sort.{Scope}
use Rattle.ac_expr.specs.Heads.{hole, head, children, path_head, path_children}
use Rattle.assertion_walks.specs.Written.{Place, AreRelated, IsBefore, ReadBefore, same, unrelated, related, of_same_root, of_same_scalar, read_at}
use Rattle.assertion_walks.specs.CodeRebuilt.{IsUnmade, IsNever}
use Rattle.assertion_walks.specs.CodePlace.{is_a_read, read_in, AreScalars}

module _ (g : Scope) (w : Place) (e : Exp) where
  abbrev Before : Place → Exp → Type 0
  Before r b = ReadBefore g w e r b

  -- by whether the types are the same or related

  pub of_type : (r : Place) (b : Exp) → same_type r.type w.type ≡ true → (b ≡ of_same_root w e r) ↔ Before r b
  of_type r b h = ((λ i. subst (λ a. Before r a) (sym i) (same h)), (λ k. forth h b k))
    where
      forth : same_type r.type w.type ≡ true → (a : Exp) → Before r a → a ≡ of_same_root w e r
      forth i _ (same k) = refl
      forth i _ (unrelated k n) = absurd (false≢true (sym k ∙ i))
      forth i _ (related k n a c d) = absurd (false≢true (sym k ∙ i))

  pub of_unrelated : (r : Place) (b : Exp) → same_type r.type w.type ≡ false → (AreRelated g.layout w.type r.type → ⊥) → (b ≡ read_at r) ↔ Before r b
  of_unrelated r b h apart = ((λ i. subst (λ a. Before r a) (sym i) (unrelated h apart)), (λ k. forth h b k))
    where
      forth : same_type r.type w.type ≡ false → (a : Exp) → Before r a → a ≡ read_at r
      forth i _ (same k) = absurd (false≢true (sym i ∙ k))
      forth i _ (unrelated k n) = refl
      forth i _ (related k n a c d) = absurd (apart n)

  -- what a read of a related type is
  abbrev by_scalars : Place → Bool → Exp
  by_scalars r b = if b then of_same_scalar w e r else read_at r

  pub record IsByScalars (r : Place) (b : Exp) : Type 0 where
    pub same : Bool
    pub scalars : AreScalars g w r same
    pub is : b ≡ by_scalars r same

  of_related : (r : Place) (b : Exp) → same_type r.type w.type ≡ false → AreRelated g.layout w.type r.type → Before r b → IsByScalars r b
  of_related r _ h n (same k) = absurd (false≢true (sym h ∙ k))
  of_related r _ h n (unrelated k apart) = absurd (apart n)
  of_related r _ h n (related {t} {u} k m a c d) = record {
    same = same_type u t;
    scalars = record { written = t; read = u; written_is = a; read_is = c; indexes = d; same_is = refl };
    is = refl;
  }

  pub no_scalars : (r : Place) (b : Exp) → same_type r.type w.type ≡ false → AreRelated g.layout w.type r.type →
      ((one : Bool) → AreScalars g w r one → ⊥) → Before r b → ⊥
  no_scalars r b h n none k = let by = of_related r b h n k in none by.same by.scalars

  one_answer : (r : Place) (a b : Bool) → AreScalars g w r a → AreScalars g w r b → a ≡ b
  one_answer r a b x y =
      let written : x.written ≡ y.written = some_is (sym x.written_is ∙ y.written_is) in
      let read : x.read ≡ y.read = some_is (sym x.read_is ∙ y.read_is) in
      x.same_is ∙ ap₂ same_type read written ∙ sym y.same_is

  by_scalars_before : (r : Place) (one : Bool) → same_type r.type w.type ≡ false → AreRelated g.layout w.type r.type → AreScalars g w r one →
      Before r (by_scalars r one)
  by_scalars_before r one h n x =
      subst (λ b. Before r (by_scalars r b)) (sym x.same_is) (related h n x.written_is x.read_is x.indexes)

  pub of_scalars : (r : Place) (b : Exp) (one : Bool) → same_type r.type w.type ≡ false → AreRelated g.layout w.type r.type → AreScalars g w r one →
      (b ≡ by_scalars r one) ↔ Before r b
  of_scalars r b one h n x = (
    (λ i. subst (λ a. Before r a) (sym i) (by_scalars_before r one h n x)),
    (λ k. let by = of_related r b h n k in by.is ∙ ap (λ c. by_scalars r c) (one_answer r by.same one by.scalars x)),
  )

  -- the read in it

  by_scalars_read : (r : Place) (one : Bool) → read_in (by_scalars r one) ≡ read_at r
  by_scalars_read r true = refl
  by_scalars_read r false = refl

  read_inside : (r : Place) (b : Exp) → Before r b → read_in b ≡ read_at r
  read_inside r _ (same k) = refl
  read_inside r _ (unrelated k n) = refl
  read_inside r _ (related {t} {u} k n a c d) = by_scalars_read r (same_type u t)

  -- what is made with the head of a read is one
  record IsReadMade (made : Exp) (t : CType) (p : Path) : Type 0 where
    place : Place
    is : made ≡ read_at place
    type : place.type ≡ t
    path : path_head place.path ≡ p

  read_made : (made : Exp) (t : CType) (p : Path) → head made ≡ Read t hole p → IsReadMade made t p
  read_made (Read u a path) t p h = record { place = record { type = u; address = a; path = path }; is = refl; type = cc; path = cc }
  read_made made t p h = absurd cc

  abbrev changes : Exp → Exp → Type 0
  changes a b = IsBefore g w e a b

  module _ (a b : Exp) (t : CType) (p : Exp) (way : Path) (is : a ≡ Read t p way) where
    made_read : (made : Exp) → head made ≡ head a → IsReadMade made t (path_head way)
    made_read made h = read_made made t (path_head way) (h ∙ ap head is)

    made_before : (made : Exp) → (m : IsReadMade made t (path_head way)) → changes made b → Before m.place b
    made_before made m c = subst (λ x. changes x b) m.is c

    pub read_unmade : (r : Place) → read_in b ≡ read_at r → r.type ≡ t → path_head r.path ≡ path_head way → Before r b →
        IsUnmade changes a b (r.address ∷ path_children r.path)
    read_unmade r h i j k = record {
      only = λ made n c.
          let m = made_read made n in
          let same : read_at m.place ≡ read_at r = sym (read_inside m.place b (made_before made m c)) ∙ h in
          ap children (m.is ∙ same);
      some = (read_at r, ap₂ (λ u q. Read u hole q) i j ∙ sym (ap head is), refl, k);
    }

    pub never_read : ((u : CType) (x : Exp) (path : Path) → read_in b ≡ Read u x path → u ≡ t → path_head path ≡ path_head way → ⊥) →
        IsNever changes a b
    never_read none made n c =
        let m = made_read made n in
        none m.place.type m.place.address m.place.path (read_inside m.place b (made_before made m c)) m.type m.path

  -- what is no read stays

  read_head : (a : Exp) → is_a_read (head a) ≡ is_a_read a
  read_head (Read t p path) = refl
  read_head a = refl

  before_other : (a b : Exp) → is_a_read a ≡ false → changes a b ↔ (b ≡ a)
  before_other (Read t p path) b h = absurd (false≢true (sym h))
  before_other a b h = ((λ k. k), (λ k. k))

  pub stays_no_read : (a b : Exp) → is_a_read a ≡ false → (made : Exp) → head made ≡ head a → changes made b ↔ (b ≡ made)
  stays_no_read a b h made k = before_other made b (sym (read_head made) ∙ ap is_a_read k ∙ read_head a ∙ h)
