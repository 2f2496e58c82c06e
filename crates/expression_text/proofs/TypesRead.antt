-- Steps of the reader of types.
use Rattle.std.proofs.Common.{◌≡◌, ◌≢◌, ℕ, false, Option, Some, None, Ok, Err, refl, ap, ap₂, sym, ◌∙◌}
use Rattle.std.specs.Prelude.{codes}
use Rattle.std.proofs.lemmas.Bool.{cond-false}
use Rattle.c_values.specs.Name.{Name, same_name}
use Rattle.c_values.specs.Types.{Void, IntType, Char}
use Rattle.ac_sx.specs.Tree.{Tree, Trees, Atom, Node, no_trees, more}
use Rattle.ac_sx.specs.CodeSx.{word_in, headed_in}
use Rattle.expression_text.specs.Words.{looked_up, int_type_word, int_types, TypeHead, PtrHead, StructHead, ArrayHead, type_head_word, type_heads}
use Rattle.expression_text.specs.TypeReading.{type_at, plain_type_at, built_type_at, type_by, built_by}
use Rattle.expression_text.specs.Reading.{next}
use Rattle.expression_text.proofs.LookedUp.{AreFound, looked_up_from}

pub int_types_found : AreFound int_type_word int_types
int_types_found Char = refl
int_types_found _ = refl

pub type_heads_found : AreFound type_head_word type_heads
type_heads_found PtrHead = refl
type_heads_found _ = refl

built_is : (at inner : ℕ) (h : Option TypeHead) (ts : Trees) → built_type_at at inner h ts ≡ built_by at inner h ts
built_is at inner None ts = none ts
  where
    none : (ts : Trees) → built_type_at at inner None ts ≡ built_by at inner None ts
    none (more t (more u no_trees)) = refl
    none _ = refl
built_is at inner (Some PtrHead) (more t (more u no_trees)) = refl
built_is at inner (Some StructHead) (more t (more u no_trees)) = refl
built_is at inner (Some ArrayHead) (more t (more u no_trees)) = refl
built_is _ _ _ _ = refl

pub type_is : (at : ℕ) (t : Tree) → type_at at t ≡ type_by at (word_in t) (headed_in t)
type_is at (Node (more (Atom head) ts)) = built_is at (next (next at)) (looked_up type_head_word type_heads head) ts
type_is _ _ = refl

-- no type has this word
pub plain_bad : (at : ℕ) (word : Name) → ((i : IntType) → word ≢ int_type_word i) → same_name word (codes "void") ≡ false → plain_type_at at word (looked_up int_type_word int_types word) ≡ Err at
plain_bad at word none void =
    ap (plain_type_at at word) (sym (looked_up_from {X = IntType} int_type_word int_types (λ i. i) word None int_types_found tt none))
    ∙ cond-false (same_name word (codes "void")) (Ok (Void, next at)) (Err at) void

pub word_given : (at : ℕ) (word : Name) (t : Tree) → Some word ≡ word_in t → plain_type_at at word (looked_up int_type_word int_types word) ≡ type_at at t
word_given at word t e = ap (λ (o : Option Name). type_by at o (headed_in t)) e ∙ sym (type_is at t)

pub list_given : (at inner : ℕ) (head : Name) (ts : Trees) (t : Tree) (h : TypeHead) → None ≡ word_in t → Some (head, ts) ≡ headed_in t → head ≡ type_head_word h → inner ≡ next (next at) → built_by at inner (Some h) ts ≡ type_at at t
list_given at inner head ts t h none e is there =
    ap (λ n. built_by at n (Some h) ts) there
    ∙ ap (λ (o : Option TypeHead). built_by at (next (next at)) o ts) (sym (ap (looked_up type_head_word type_heads) is ∙ type_heads_found h))
    ∙ ap₂ (λ (o : Option Name) (p : Option (Name × Trees)). type_by at o p) none e
    ∙ sym (type_is at t)

pub list_refused : (at : ℕ) (head : Name) (ts : Trees) (t : Tree) → None ≡ word_in t → Some (head, ts) ≡ headed_in t → ((h : TypeHead) → head ≢ type_head_word h) → type_at at t ≡ Err at
list_refused at head ts t none e no_head =
    type_is at t
    ∙ ap₂ (λ (o : Option Name) (p : Option (Name × Trees)). type_by at o p) (sym none) (sym e)
    ∙ ap (λ (o : Option TypeHead). built_by at (next (next at)) o ts) (sym (looked_up_from {X = TypeHead} type_head_word type_heads (λ h. h) head None type_heads_found tt no_head))
