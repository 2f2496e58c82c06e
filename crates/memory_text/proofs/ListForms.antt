-- Lists that begin with a word, and lists of two parts.
use Rattle.std.proofs.Common.{◌≡◌, Bool, true, false, cond, [], ◌∷◌, Option, Some, None, refl, ap, ◌∙◌}
use Rattle.std.proofs.lemmas.Bool.{cond-true}
use Rattle.c_values.specs.Name.{Name, same_name}
use Rattle.ac_sx.specs.Tree.{Tree, Trees, Atom, Node, no_trees, more}
use Rattle.ac_sx.specs.CodeSx.{headed_in, one_of}
use Rattle.expression_text.specs.TypeText.{row}
use Rattle.expression_text.proofs.LookedUp.{name_is, name_same}
use Rattle.memory_text.specs.MemoryReading.{behind_word, parts_behind, pair_in, Parts, seven_of}

pub behind_itself : (w : Name) (ts : Trees) → parts_behind w (Node (more (Atom w) ts)) ≡ Some ts
behind_itself w ts = cond-true (same_name w w) (Some ts) None (name_same w w refl)

headed_is : (t : Tree) (w : Name) (ts : Trees) → headed_in t ≡ Some (w, ts) → t ≡ Node (more (Atom w) ts)
headed_is (Node (more (Atom v) vs)) w ts e = let h : ◌≡◌ {A = Name × Trees} (v, vs) (w, ts) = cc in ap (λ (p : Name × Trees). Node (more (Atom p.0) p.1)) h
headed_is _ w ts e = absurd cc

pub behind_is : (w : Name) (t : Tree) (ts : Trees) → parts_behind w t ≡ Some ts → t ≡ Node (more (Atom w) ts)
behind_is w t ts e = by_head (headed_in t) refl e
  where
    by_word : (v : Name) (us : Trees) (b : Bool) → headed_in t ≡ Some (v, us) → same_name v w ≡ b → cond {A = Option Trees} b (Some us) None ≡ Some ts → t ≡ Node (more (Atom w) ts)
    by_word v us false f g h = absurd cc
    by_word v us true f g h = let same : us ≡ ts = cc in headed_is t v us f ∙ ap (λ x. Node (more (Atom x) us)) (name_is v w g) ∙ ap (λ vs. Node (more (Atom w) vs)) same

    by_head : (o : Option (Name × Trees)) → headed_in t ≡ o → behind_word w o ≡ Some ts → t ≡ Node (more (Atom w) ts)
    by_head None f h = absurd cc
    by_head (Some (v, us)) f h = by_word v us (same_name v w) f refl h

pub one_is : (ts : Trees) (t : Tree) → one_of ts ≡ Some t → ts ≡ row (t ∷ [])
one_is (more u no_trees) t e = let same : u ≡ t = cc in ap (λ v. more v no_trees) same
one_is _ t e = absurd cc

pub pair_is : (t : Tree) (x : Tree × Tree) → pair_in t ≡ Some x → t ≡ Node (row (x.0 ∷ x.1 ∷ []))
pair_is (Node (more t (more u no_trees))) x e = let same : ◌≡◌ {A = Tree × Tree} (t, u) x = cc in ap (λ (y : Tree × Tree). Node (row (y.0 ∷ y.1 ∷ []))) same
pair_is _ x e = absurd cc

abbrev pub all_parts : Parts → Trees
all_parts p = row (p.version ∷ p.call ∷ p.turns ∷ p.fill ∷ p.bytes ∷ p.tags ∷ p.globals ∷ [])

pub seven_are : (ts : Trees) (p : Parts) → seven_of ts ≡ Some p → ts ≡ all_parts p
seven_are (more v (more c (more t (more f (more b (more g (more s no_trees))))))) p e =
    let same : record { version = v; call = c; turns = t; fill = f; bytes = b; tags = g; globals = s } ≡ p = cc in ap all_parts same
seven_are _ p e = absurd cc
