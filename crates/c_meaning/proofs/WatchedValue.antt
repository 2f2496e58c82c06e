-- What a level watches beside the six hard kinds adds undefined steps, and changes no value.
use Rattle.std.proofs.Common.{◌≡◌, Bool, true, false, List, [], ◌∷◌, ℤ, Ok, Err}
use Rattle.std.specs.Prelude.{not, ◌||◌, if◌then◌else◌}
use Rattle.c_values.specs.Types.{IntType, is_signed}
use Rattle.c_values.specs.Number.{is_of_type}
use Rattle.c_values.specs.Value as V
use Rattle.c_values.specs.Layout.{Layout}
use Rattle.c_memory.specs.Heap.{is_tagged}
use Rattle.c_memory.specs.Tags.{is_pointer_ok}
use Rattle.expression_lang.specs.Sort.{Level, Bytes, Words, Numbers, is_lifted}
use Rattle.expression_lang.specs.GuardKind as K
use Rattle.c_lang.specs.Typed as C
use Rattle.c_meaning.specs.CValue.{Context, Defined, ◌>>=◌, unless, Located, InMemory, InGlobal, value_at, int_of, is_true, fitted, computed, accessible, content, value, located, indexed, values}

-- the kinds that a level alone watches
pub data IsExtra : K.GuardKind → Type 0 where
  tag : IsExtra K.Tag
  wrap : IsExtra K.Wrap

-- the same, or an extra undefined step
pub data Watched {A : Type 0} : Defined A → Defined A → Type 0 where
  same : {r : Defined A} → Watched r r
  extra : {k : K.GuardKind} {r : Defined A} → IsExtra k → Watched (Err k) r

pub bind_watched : {A B : Type 0} (r s : Defined A) (f g : A → Defined B) → Watched r s → ((a : A) → Watched (f a) (g a)) → Watched (r >>= f) (s >>= g)
bind_watched _ _ f g (same {r = Ok a}) h = h a
bind_watched _ _ f g (same {r = Err k}) h = same
bind_watched _ _ f g (extra e) h = extra e

unless_watched : {A : Type 0} (t : Bool) (k : K.GuardKind) (r s : Defined A) → Watched r s → Watched (unless t k r) (unless t k s)
unless_watched true k r s h = h
unless_watched false k r s h = same

if_watched : {A : Type 0} (t : Bool) (r s r' s' : Defined A) → Watched r s → Watched r' s' → Watched (if t then r else r') (if t then s else s')
if_watched true r s r' s' h k = h
if_watched false r s r' s' h k = k

-- the same context, where only the six hard kinds are watched
abbrev pub plainly : Context → Context
plainly c = record { layout = c.layout; level = Bytes; locals = c.locals; state = c.state }

by_sign : {A : Type 0} (t s : Bool) (r : Defined A) → Watched (unless t (if s then K.Signed else K.Wrap) r) (unless (t || not s) K.Signed r)
by_sign true s r = same
by_sign false true r = same
by_sign false false r = extra wrap

fitted_watched : (l : Layout) (level : Level) (i : IntType) (n : ℤ) → Watched (fitted l level i n) (fitted l Bytes i n)
fitted_watched l Bytes i n = same
fitted_watched l Words i n = same
fitted_watched l Numbers i n = by_sign (is_of_type l.target i n) (is_signed i) (Ok (value_at l i n))

computed_watched : (l : Layout) (level : Level) (i : IntType) (op : C.Arithmetic) (a b : ℤ) → Watched (computed l level i op a b) (computed l Bytes i op a b)
computed_watched l level i C.Add a b = fitted_watched l level i _
computed_watched l level i C.Subtract a b = fitted_watched l level i _
computed_watched l level i C.Multiply a b = fitted_watched l level i _
computed_watched l level i C.Divide a b = same
computed_watched l level i C.Remainder a b = same

tag_watched : {A : Type 0} (t : Bool) (r s : Defined A) → Watched r s → Watched (unless t K.Tag r) s
tag_watched true r s h = h
tag_watched false r s h = extra tag

pub accessible_watched : {A : Type 0} (c : Context) (s : Located) (r r' : Defined A) → Watched r r' → Watched (accessible c s r) (accessible (plainly c) s r')
accessible_watched c (InMemory t p ps) r r' h =
    unless_watched (is_pointer_ok c.layout t p.bits) K.Pointer _ _ (tag_watched (not (is_lifted c.level) || is_tagged c.layout c.state.heap t p.bits) r r' h)
accessible_watched c (InGlobal x ps) r r' h = h

read_watched : (c : Context) (s : Located) → Watched (accessible c s (Ok (content c s))) (accessible (plainly c) s (Ok (content (plainly c) s)))
read_watched c (InMemory t p ps) = accessible_watched c (InMemory t p ps) _ _ same
read_watched c (InGlobal x ps) = same

-- an operand's truth as an int
abbrev int : Context → Bool → Defined V.Value
int c t = Ok (int_of c.layout t)

truth_watched : (c : Context) (r s : Defined V.Value) → Watched r s → Watched (r >>= λ w. int c (is_true w)) (s >>= λ w. int c (is_true w))
truth_watched c r s h = bind_watched r s (λ w. int c (is_true w)) (λ w. int c (is_true w)) h (λ w. same)

mutual
  pub value_watched : (c : Context) (e : C.Expr) → Watched (value c e) (value (plainly c) e)
  value_watched c (C.Constant i n) = same
  value_watched c (C.Local x t) = same
  value_watched c (C.Value p) = bind_watched _ _ _ _ (located_watched c p) (read_watched c)
  value_watched c (C.Convert t a) = bind_watched _ _ _ _ (value_watched c a) (λ v. same)
  value_watched c (C.ConvertNull t a) = bind_watched _ _ _ _ (value_watched c a) (λ v. same)
  value_watched c (C.Negate i a) = bind_watched _ _ _ _ (value_watched c a) (λ v. fitted_watched c.layout c.level i _)
  value_watched c (C.Complement i a) = bind_watched _ _ _ _ (value_watched c a) (λ v. same)
  value_watched c (C.Compute op i a b) =
      bind_watched _ _ _ _ (value_watched c a) (λ v. bind_watched _ _ _ _ (value_watched c b) (λ w. computed_watched c.layout c.level i op _ _))
  value_watched c (C.Combine op i a b) = bind_watched _ _ _ _ (value_watched c a) (λ v. bind_watched _ _ _ _ (value_watched c b) (λ w. same))
  value_watched c (C.Shift d i a b) = bind_watched _ _ _ _ (value_watched c a) (λ v. bind_watched _ _ _ _ (value_watched c b) (λ w. same))
  value_watched c (C.Compare r i a b) = bind_watched _ _ _ _ (value_watched c a) (λ v. bind_watched _ _ _ _ (value_watched c b) (λ w. same))
  value_watched c (C.Equate q t a b) = bind_watched _ _ _ _ (value_watched c a) (λ v. bind_watched _ _ _ _ (value_watched c b) (λ w. same))
  value_watched c (C.Not a) = bind_watched _ _ _ _ (value_watched c a) (λ v. same)
  value_watched c (C.And a b) =
      bind_watched _ _ _ _ (value_watched c a) (λ v. if_watched (is_true v) _ _ (int c false) (int c false) (truth_watched c _ _ (value_watched c b)) same)
  value_watched c (C.Or a b) =
      bind_watched _ _ _ _ (value_watched c a) (λ v. if_watched (is_true v) (int c true) (int c true) _ _ same (truth_watched c _ _ (value_watched c b)))
  value_watched c (C.Choose t e a b) =
      bind_watched _ _ _ _ (value_watched c e) (λ v. if_watched _ _ _ _ _ (value_watched c a) (value_watched c b))
  value_watched c (C.Move s t p a) = bind_watched _ _ _ _ (value_watched c p) (λ v. bind_watched _ _ _ _ (value_watched c a) (λ w. same))
  value_watched c (C.MoveBy t a p) = bind_watched _ _ _ _ (value_watched c a) (λ w. bind_watched _ _ _ _ (value_watched c p) (λ v. same))
  value_watched c (C.Address p t) = bind_watched _ _ _ _ (located_watched c p) (λ s. same)
  value_watched c (C.Decay p t) = bind_watched _ _ _ _ (located_watched c p) (λ s. same)

  pub located_watched : (c : Context) (p : C.Place) → Watched (located c p) (located (plainly c) p)
  located_watched c (C.Through t p path u) = bind_watched _ _ _ _ (value_watched c p) (λ v. bind_watched _ _ _ _ (indexed_watched c path) (λ ps. same))
  located_watched c (C.InGlobal x path u) = bind_watched _ _ _ _ (indexed_watched c path) (λ ps. same)

  pub indexed_watched : (c : Context) (path : C.Path) → Watched (indexed c path) (indexed (plainly c) path)
  indexed_watched c C.Here = same
  indexed_watched c (C.Member k path) = bind_watched _ _ _ _ (indexed_watched c path) (λ ps. same)
  indexed_watched c (C.Element n e path) = bind_watched _ _ _ _ (value_watched c e) (λ v. bind_watched _ _ _ _ (indexed_watched c path) (λ ps. same))

pub values_watched : (c : Context) (es : List C.Expr) → Watched (values c es) (values (plainly c) es)
values_watched c [] = same
values_watched c (e ∷ es) = bind_watched _ _ _ _ (value_watched c e) (λ v. bind_watched _ _ _ _ (values_watched c es) (λ vs. same))

-- A value that is watched is the plain value.
pub keeps_value : {A : Type 0} (r s : Defined A) (a : A) → Watched r s → r ≡ Ok a → s ≡ Ok a
keeps_value _ _ a same e = e
keeps_value {A} _ _ a (extra {k} x) e = absurd (let h : ◌≡◌ {A = Defined A} (Err k) (Ok a) = e in cc)
