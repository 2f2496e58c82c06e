-- The rows of commands, of parts in whatever number.
use Rattle.std.proofs.Common.{◌≡◌, ◌≢◌, ℕ, Option, Some, None, Err, refl, ap, ap₂, sym, ◌∙◌}
use Rattle.c_values.specs.Name.{Name}
use Rattle.ac_sx.specs.Tree.{Tree, Trees, Atom, Node, no_trees, more}
use Rattle.ac_sx.specs.CodeSx.{word_in, headed_in, two_of, three_of}
use Rattle.expression_text.specs.Reading.{next}
use Rattle.expression_text.specs.Words.{looked_up}
use Rattle.expression_text.proofs.LookedUp.{AreFound, looked_up_from}
use Rattle.command_text.specs.declared.heads.CommandHead.{CommandHead}
use Rattle.command_text.specs.declared.heads.CommandHead.TheVariants as H
use Rattle.command_text.specs.CommandText.{command_word, command_heads}
use Rattle.command_text.specs.CommandReading.{leaf_at, command_at, built_command_at}
use Rattle.command_text.specs.CodeCommandRows.{seq_row, cond_row, guard_row, catch_row, while_row, row_at, list_at, command_by}

pub command_heads_found : AreFound command_word command_heads
command_heads_found H.Set = refl
command_heads_found _ = refl

seq_is : (at inner : ℕ) (ts : Trees) → built_command_at at inner (Some H.Seq) ts ≡ seq_row at inner ts
seq_is at inner (more t no_trees) = refl
seq_is _ _ _ = refl

cond_is : (at inner : ℕ) (ts : Trees) → built_command_at at inner (Some H.Cond) ts ≡ cond_row at inner (three_of ts)
cond_is at inner (more t (more u (more v no_trees))) = refl
cond_is _ _ _ = refl

guard_is : (at inner : ℕ) (ts : Trees) → built_command_at at inner (Some H.Guard) ts ≡ guard_row at inner (three_of ts)
guard_is at inner (more t (more u (more v no_trees))) = refl
guard_is _ _ _ = refl

catch_is : (at inner : ℕ) (ts : Trees) → built_command_at at inner (Some H.Catch) ts ≡ catch_row at inner (two_of ts)
catch_is at inner (more t (more u no_trees)) = refl
catch_is _ _ _ = refl

while_is : (at inner : ℕ) (ts : Trees) → built_command_at at inner (Some H.While) ts ≡ while_row at inner (three_of ts)
while_is at inner (more t (more u (more v no_trees))) = refl
while_is _ _ _ = refl

row_is : (at inner : ℕ) (h : CommandHead) (ts : Trees) → built_command_at at inner (Some h) ts ≡ row_at at inner h ts
row_is at inner H.Seq ts = seq_is at inner ts
row_is at inner H.Cond ts = cond_is at inner ts
row_is at inner H.Guard ts = guard_is at inner ts
row_is at inner H.Catch ts = catch_is at inner ts
row_is at inner H.While ts = while_is at inner ts
row_is _ _ _ _ = refl

list_is : (at : ℕ) (o : Option CommandHead) (ts : Trees) → built_command_at at (next (next at)) o ts ≡ list_at at o ts
list_is at None ts = refl
list_is at (Some h) ts = row_is at (next (next at)) h ts

command_is : (at : ℕ) (t : Tree) → command_at at t ≡ command_by at (word_in t) (headed_in t)
command_is at (Node (more (Atom head) ts)) = list_is at (looked_up command_word command_heads head) ts
command_is _ _ = refl

pub word_given : (at : ℕ) (word : Name) (t : Tree) → Some word ≡ word_in t → leaf_at at word ≡ command_at at t
word_given at word t e = ap (λ (o : Option Name). command_by at o (headed_in t)) e ∙ sym (command_is at t)

pub command_given : (at inner : ℕ) (word : Name) (ts : Trees) (t : Tree) (h : CommandHead) → None ≡ word_in t → Some (word, ts) ≡ headed_in t → word ≡ command_word h → inner ≡ next (next at) → row_at at inner h ts ≡ command_at at t
command_given at inner word ts t h none e is there =
    ap (λ n. row_at at n h ts) there
    ∙ ap (λ o. list_at at o ts) (sym (ap (looked_up command_word command_heads) is ∙ command_heads_found h))
    ∙ ap₂ (λ (o : Option Name) (p : Option (Name × Trees)). command_by at o p) none e
    ∙ sym (command_is at t)

pub command_refused : (at : ℕ) (word : Name) (ts : Trees) (t : Tree) → None ≡ word_in t → Some (word, ts) ≡ headed_in t → ((h : CommandHead) → word ≢ command_word h) → command_at at t ≡ Err at
command_refused at word ts t none e no_head =
    command_is at t
    ∙ ap₂ (λ (o : Option Name) (p : Option (Name × Trees)). command_by at o p) (sym none) (sym e)
    ∙ ap (λ (o : Option CommandHead). list_at at o ts) (sym (looked_up_from {X = CommandHead} command_word command_heads (λ h. h) word None command_heads_found tt no_head))

-- of neither a word nor a list with a head
pub command_headless : (at : ℕ) (t : Tree) → None ≡ word_in t → None ≡ headed_in t → command_at at t ≡ Err at
command_headless at t none no_head = command_is at t ∙ ap₂ (λ (o : Option Name) (p : Option (Name × Trees)). command_by at o p) (sym none) (sym no_head)
