-- The rows of programs, of parts in whatever number.
use Rattle.std.proofs.Common.{◌≡◌, ◌≢◌, ℕ, Option, Some, None, Err, refl, ap, sym, ◌∙◌}
use Rattle.c_values.specs.Name.{Name}
use Rattle.ac_sx.specs.Tree.{Tree, Trees, Atom, Node, no_trees, more}
use Rattle.ac_sx.specs.CodeSx.{headed_in, three_of}
use Rattle.expression_text.specs.Reading.{next}
use Rattle.expression_text.specs.Words.{looked_up}
use Rattle.expression_text.proofs.LookedUp.{AreFound, looked_up_from}
use Rattle.program_text.specs.declared.heads.MonHead.{MonHead}
use Rattle.program_text.specs.declared.heads.MonHead.TheVariants as H
use Rattle.program_text.specs.MonText.{mon_word, mon_heads}
use Rattle.program_text.specs.MonReading.{four_of, mon_at, built_mon_at}
use Rattle.program_text.specs.CodeMonRows.{do_row, if_row, loop_row, row_at, list_at, mon_by}

pub mon_heads_found : AreFound mon_word mon_heads
mon_heads_found H.Ret = refl
mon_heads_found _ = refl

pub if_is : (at inner : ℕ) (ts : Trees) → built_mon_at at inner (Some H.If) ts ≡ if_row at inner (three_of ts)
if_is at inner (more t (more u (more v no_trees))) = refl
if_is _ _ _ = refl

pub loop_is : (at inner : ℕ) (ts : Trees) → built_mon_at at inner (Some H.Loop) ts ≡ loop_row at inner (four_of ts)
loop_is at inner (more t (more u (more v (more w no_trees)))) = refl
loop_is _ _ _ = refl

do_is : (at inner : ℕ) (ts : Trees) → built_mon_at at inner (Some H.Do) ts ≡ do_row at inner ts
do_is at inner (more t no_trees) = refl
do_is _ _ _ = refl

row_is : (at inner : ℕ) (h : MonHead) (ts : Trees) → built_mon_at at inner (Some h) ts ≡ row_at at inner h ts
row_is at inner H.Do ts = do_is at inner ts
row_is at inner H.If ts = if_is at inner ts
row_is at inner H.Loop ts = loop_is at inner ts
row_is _ _ _ _ = refl

list_is : (at : ℕ) (o : Option MonHead) (ts : Trees) → built_mon_at at (next (next at)) o ts ≡ list_at at o ts
list_is at None ts = refl
list_is at (Some h) ts = row_is at (next (next at)) h ts

mon_is : (at : ℕ) (t : Tree) → mon_at at t ≡ mon_by at (headed_in t)
mon_is at (Node (more (Atom head) ts)) = list_is at (looked_up mon_word mon_heads head) ts
mon_is _ _ = refl

pub mon_given : (at inner : ℕ) (word : Name) (ts : Trees) (t : Tree) (h : MonHead) → Some (word, ts) ≡ headed_in t → word ≡ mon_word h → inner ≡ next (next at) → row_at at inner h ts ≡ mon_at at t
mon_given at inner word ts t h e is there =
    ap (λ n. row_at at n h ts) there
    ∙ ap (λ o. list_at at o ts) (sym (ap (looked_up mon_word mon_heads) is ∙ mon_heads_found h))
    ∙ ap (mon_by at) e
    ∙ sym (mon_is at t)

pub mon_refused : (at : ℕ) (word : Name) (ts : Trees) (t : Tree) → Some (word, ts) ≡ headed_in t → ((h : MonHead) → word ≢ mon_word h) → mon_at at t ≡ Err at
mon_refused at word ts t e no_head =
    mon_is at t
    ∙ ap (mon_by at) (sym e)
    ∙ ap (λ (o : Option MonHead). list_at at o ts) (sym (looked_up_from {X = MonHead} mon_word mon_heads (λ h. h) word None mon_heads_found tt no_head))

pub mon_headless : (at : ℕ) (t : Tree) → None ≡ headed_in t → mon_at at t ≡ Err at
mon_headless at t e = mon_is at t ∙ ap (mon_by at) (sym e)
