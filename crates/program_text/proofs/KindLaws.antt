-- Kinds are read as those that their trees are of.
use Rattle.std.proofs.Common.{◌≡◌, ◌≢◌, ℕ, Option, Some, None, Ok, Err, refl, ap, ap₂, sym, ◌∙◌, true}
use Rattle.std.specs.Fmt.{decimal}
use Rattle.c_values.specs.Name.{Name, same_name}
use Rattle.ac_sx.specs.Tree.{Tree, Trees, Atom, Node, no_trees, more}
use Rattle.ac_sx.specs.CodeSx.{word_in, headed_in, one_of}
use Rattle.expression_lang.specs.Sort.{Kind, WordKind, NatKind, IntKind, BoolKind, is_kind}
use Rattle.expression_text.specs.declared.fault.TextFault.{TextFault}
use Rattle.expression_text.specs.declared.fault.TextFault.TheVariants as F
use Rattle.expression_text.specs.CodeFault.{Fails}
use Rattle.expression_text.specs.Reading.{next, ◌>>=◌}
use Rattle.expression_text.specs.Words.{looked_up}
use Rattle.expression_text.specs.ExpText.{is_width}
use Rattle.expression_text.specs.ExpReading.{width_at}
use Rattle.expression_text.proofs.LookedUp.{looked_up_is, looked_up_from, name_is, AreFound}
use Rattle.expression_text.proofs.Behind.{behind, IsReadAs, bind_ok, kept_ok, value_ok}
use Rattle.expression_text.proofs.LeavesText.{width_reads, width_spells}
use Rattle.program_text.specs.declared.kinds.KindHead.{KindHead}
use Rattle.program_text.specs.declared.kinds.KindHead.TheVariants as H
use Rattle.program_text.specs.Kinds.{kind_head_word, kind_heads, of_width, bool_word, sized_kind, kind_tree, sized_kind_at, kind_by, kind_at}
use Rattle.program_text.specs.Answer.{IsKindText}

pub one_is : (ts : Trees) (t : Tree) → one_of ts ≡ Some t → ts ≡ more t no_trees
one_is (more u no_trees) t e = let same : u ≡ t = cc in ap (λ v. more v no_trees) same
one_is _ t e = absurd cc

pub kind_heads_found : AreFound kind_head_word kind_heads
kind_heads_found H.Word = refl
kind_heads_found _ = refl

sized_reads : (h : KindHead) (n : ℕ) → is_width n ≡ true → IsReadAs kind_at (sized_kind h n) (of_width h n)
sized_reads h n is = λ at.
    ap (λ o. sized_kind_at at (next (next at)) o (Some (Atom (decimal n)))) (kind_heads_found h)
    ∙ ap (λ r. r >>= λ x. Ok (of_width h x.0, x.1)) (width_reads n is (next (next at)))

pub kind_reads : (k : Kind) → is_kind k ≡ true → IsReadAs kind_at (kind_tree k) k
kind_reads (WordKind n) is = sized_reads H.Word n is
kind_reads (NatKind n) is = sized_reads H.Nat n is
kind_reads (IntKind n) is = sized_reads H.Int n is
kind_reads BoolKind is = λ at. refl

sized_text : (h : KindHead) (n : ℕ) → is_width n ≡ true → (sized_kind h n ≡ kind_tree (of_width h n)) × (is_kind (of_width h n) ≡ true)
sized_text H.Word n is = (refl, is)
sized_text _ _ is = (refl, is)

sized_spells : (word : Name) (ts : Trees) (at inner : ℕ) (k : Kind) (n : ℕ) (h : Option KindHead) (o : Option Tree) → looked_up kind_head_word kind_heads word ≡ h → one_of ts ≡ o → sized_kind_at at inner h o ≡ Ok (k, n) →
    (Node (more (Atom word) ts) ≡ kind_tree k) × (is_kind k ≡ true)
sized_spells word ts at inner k n (Some h) (Some t) found is read =
    let (x, first, last) = bind_ok (width_at inner t) (λ x. Ok (of_width h x.0, x.1)) (k, n) read in
    let p = width_spells t inner x.0 x.1 first in
    let same = value_ok (of_width h x.0) x.1 k n last in
    let q = sized_text h x.0 p.1 in (
      ap₂ (λ w us. Node (more (Atom w) us)) (sym (looked_up_is kind_head_word kind_heads word h found)) (one_is ts t is ∙ ap (λ u. more u no_trees) p.0) ∙ q.0 ∙ ap kind_tree same,
      ap is_kind (sym same) ∙ q.1,
    )
sized_spells word ts at inner k n _ _ found is read = absurd cc

pub kind_spells : (t : Tree) (at : ℕ) (k : Kind) (n : ℕ) → kind_at at t ≡ Ok (k, n) → (t ≡ kind_tree k) × (is_kind k ≡ true)
kind_spells (Atom word) at k n read =
    let p = kept_ok (same_name word bool_word) BoolKind (next at) at k n read in
    (ap Atom (name_is word bool_word p.0) ∙ ap kind_tree p.1, ap is_kind (sym p.1))
kind_spells (Node (more (Atom word) ts)) at k n read = sized_spells word ts at (next (next at)) k n (looked_up kind_head_word kind_heads word) (one_of ts) refl refl read
kind_spells _ at k n read = absurd cc

-- of a list that begins with another word
pub kind_refused : (at : ℕ) (word : Name) (ts : Trees) (t : Tree) → None ≡ word_in t → Some (word, ts) ≡ headed_in t → ((h : KindHead) → word ≢ kind_head_word h) → kind_at at t ≡ Err at
kind_refused at word ts t none e no_head =
    ap₂ (λ (o : Option Name) (p : Option (Name × Trees)). kind_by at o p) (sym none) (sym e)
    ∙ ap (λ (o : Option KindHead). sized_kind_at at (next (next at)) o (one_of ts)) (sym (looked_up_from {X = KindHead} kind_head_word kind_heads (λ h. h) word None kind_heads_found tt no_head))

pub kind_found : {k : Kind} {n : ℕ} (t : Tree) → kind_at 0 t ≡ Ok (k, n) → IsKindText t k
kind_found {k = k} {n = n} t read = kind_spells t 0 k n read

pub kind_given_text : (k : Kind) (t : Tree) → IsKindText t k → kind_at 0 t ≡ Ok (k, behind 0 (kind_tree k))
kind_given_text k t is = ap (kind_at 0) is.0 ∙ kind_reads k is.1 0

pub kind_only : {j : Kind} {n : ℕ} (k : Kind) (t : Tree) → kind_at 0 t ≡ Ok (j, n) → IsKindText t k → j ≡ k
kind_only {j = j} {n = n} k t read is = value_ok j n k (behind 0 (kind_tree k)) (sym read ∙ kind_given_text k t is)

-- no text of a kind is refused
pub kind_not_refused : (k : Kind) (t : Tree) (fault : TextFault) → Fails fault (kind_at 0 t) → IsKindText t k → fault ≡ F.Memory
kind_not_refused k t (F.Shape at) bad is = absurd (let read = sym bad ∙ kind_given_text k t is in cc)
kind_not_refused k t F.Memory bad is = refl
kind_not_refused k t F.NotText bad is = absurd bad
kind_not_refused k t F.Deep bad is = absurd bad
