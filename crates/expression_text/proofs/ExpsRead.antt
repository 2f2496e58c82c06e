-- The rows of expressions, of parts in whatever number, and steps of the reader.
use Rattle.std.proofs.Common.{◌≡◌, ◌≢◌, ℕ, zero, suc, ◌+◌, ◌<◌, ◌≤◌, true, false, List, [], ◌∷◌, ◌++◌, length, get_or, drop, Option, Some, None, Ok, Err, refl, ap, ap₂, sym, ◌∙◌, arith, if◌then◌else◌}
use Rattle.std.proofs.lemmas.Bool.{cond-true, cond-false}
use Rattle.std.proofs.lemmas.List.{at_drop_more}
use Rattle.c_values.specs.Name.{Name, same_name}
use Rattle.ac_sx.specs.declared.sx.Sx as S
use Rattle.ac_sx.specs.Tree.{Tree, Trees, Atom, Node, no_trees, more, nodes, all_nodes}
use Rattle.ac_sx.specs.CodeSx.{tree_of, trees_in, word_in, headed_in, one_of}
use Rattle.expression_lang.specs.Expression.{Path}
use Rattle.expression_lang.specs.declared.shape.PathFront as G
use Rattle.expression_lang.specs.CodeShapeView.{with_step, with_steps}
use Rattle.expression_lang.proofs.Fronts.{with_steps_push}
use Rattle.expression_text.specs.declared.heads.Head.{Head}
use Rattle.expression_text.specs.declared.heads.Head.TheVariants as H
use Rattle.expression_text.specs.Reading.{Read, next, ◌>>=◌, made}
use Rattle.expression_text.specs.Words.{looked_up}
use Rattle.expression_text.specs.Head.{head_word, heads}
use Rattle.expression_text.specs.Row.{Row, WordRow, UnaryRow, SizedRow, TwoRow, BetweenRow, IfRow, PaddRow, RootRow, PlaceRow, GlobalRow, SelRow, UpdRow, row_of}
use Rattle.expression_text.specs.ExpText.{field_word, element_word}
use Rattle.expression_text.specs.ExpReading.{leaf_at, row_in, StepHead, FieldStep, ElementStep, step_head, exp_at, built_exp_at, steps_at, step_at, built_step_at}
use Rattle.expression_text.specs.ExpRows.{row_at, list_at, exp_by, field_step, element_step, step_list_at, step_by}
use Rattle.expression_text.proofs.LookedUp.{AreFound, looked_up_from}

row_is : (at inner : ℕ) (r : Row) (ts : Trees) → built_exp_at at inner (Some r) ts ≡ row_at at inner r ts
row_is at inner WordRow (more t (more u no_trees)) = refl
row_is at inner (UnaryRow one) (more t no_trees) = refl
row_is at inner (SizedRow sized) (more t (more u no_trees)) = refl
row_is at inner (TwoRow two) (more t (more u no_trees)) = refl
row_is at inner BetweenRow (more t (more u (more v no_trees))) = refl
row_is at inner IfRow (more t (more u (more v no_trees))) = refl
row_is at inner PaddRow (more t (more u (more v no_trees))) = refl
row_is at inner (RootRow root) (more t (more u no_trees)) = refl
row_is at inner (PlaceRow place) (more t no_trees) = refl
row_is at inner GlobalRow no_trees = refl
row_is at inner SelRow (more t (more u no_trees)) = refl
row_is at inner UpdRow (more t (more u (more v no_trees))) = refl
row_is _ _ _ _ = refl

none_is : (at inner : ℕ) (ts : Trees) → built_exp_at at inner None ts ≡ Err at
none_is at inner (more t (more u (more v no_trees))) = refl
none_is _ _ _ = refl

list_is : (at : ℕ) (r : Option Row) (ts : Trees) → built_exp_at at (next (next at)) r ts ≡ list_at at r ts
list_is at None ts = none_is at (next (next at)) ts
list_is at (Some r) ts = row_is at (next (next at)) r ts

pub exp_is : (at : ℕ) (t : Tree) → exp_at at t ≡ exp_by at (word_in t) (headed_in t)
exp_is at (Node (more (Atom head) ts)) = list_is at (row_in (looked_up head_word heads head)) ts
exp_is _ _ = refl

step_list_is : (at : ℕ) (h : Option StepHead) (ts : Trees) → built_step_at at (next (next at)) h ts ≡ step_list_at at h ts
step_list_is at None (more t no_trees) = refl
step_list_is at (Some FieldStep) (more t no_trees) = refl
step_list_is at (Some ElementStep) (more t no_trees) = refl
step_list_is _ _ _ = refl

pub step_is : (at : ℕ) (t : Tree) → step_at at t ≡ step_by at (headed_in t)
step_is at (Node (more (Atom head) ts)) = step_list_is at (step_head head) ts
step_is _ _ = refl

pub heads_found : AreFound head_word heads
heads_found H.Word = refl
heads_found _ = refl

pub word_given : (at : ℕ) (word : Name) (t : Tree) → Some word ≡ word_in t → leaf_at at word ≡ exp_at at t
word_given at word t e = ap (λ (o : Option Name). exp_by at o (headed_in t)) e ∙ sym (exp_is at t)

pub list_given : (at inner : ℕ) (word : Name) (ts : Trees) (t : Tree) (h : Head) (r : Row) → None ≡ word_in t → Some (word, ts) ≡ headed_in t → word ≡ head_word h → inner ≡ next (next at) → r ≡ row_of h → row_at at inner r ts ≡ exp_at at t
list_given at inner word ts t h r none e is there same =
    ap₂ (λ n (x : Row). row_at at n x ts) there same
    ∙ ap (λ (o : Option Head). list_at at (row_in o) ts) (sym (ap (looked_up head_word heads) is ∙ heads_found h))
    ∙ ap₂ (λ (o : Option Name) (p : Option (Name × Trees)). exp_by at o p) none e
    ∙ sym (exp_is at t)

pub list_refused : (at : ℕ) (word : Name) (ts : Trees) (t : Tree) → None ≡ word_in t → Some (word, ts) ≡ headed_in t → ((h : Head) → word ≢ head_word h) → exp_at at t ≡ Err at
list_refused at word ts t none e no_head =
    exp_is at t
    ∙ ap₂ (λ (o : Option Name) (p : Option (Name × Trees)). exp_by at o p) (sym none) (sym e)
    ∙ ap (λ (o : Option Head). list_at at (row_in o) ts) (sym (looked_up_from {X = Head} head_word heads (λ h. h) word None heads_found tt no_head))

step_given : (at : ℕ) (word : Name) (ts : Trees) (t : Tree) (o : Option StepHead) → Some (word, ts) ≡ headed_in t → step_head word ≡ o → step_list_at at o ts ≡ step_at at t
step_given at word ts t o e is = ap (λ x. step_list_at at x ts) (sym is) ∙ ap (λ (p : Option (Name × Trees)). step_by at p) e ∙ sym (step_is at t)

pub field_given : (at inner : ℕ) (word : Name) (ts : Trees) (t : Tree) → Some (word, ts) ≡ headed_in t → same_name word field_word ≡ true → inner ≡ next (next at) → field_step at inner (one_of ts) ≡ step_at at t
field_given at inner word ts t e is there =
    ap (λ n. field_step at n (one_of ts)) there
    ∙ step_given at word ts t (Some FieldStep) e (cond-true (same_name word field_word) (Some FieldStep) (if same_name word element_word then Some ElementStep else None) is)

element_is : (word : Name) → same_name word field_word ≡ false → step_head word ≡ (if same_name word element_word then Some ElementStep else None)
element_is word no_field = cond-false (same_name word field_word) (Some FieldStep) (if same_name word element_word then Some ElementStep else None) no_field

pub element_given : (at inner : ℕ) (word : Name) (ts : Trees) (t : Tree) → Some (word, ts) ≡ headed_in t → same_name word field_word ≡ false → same_name word element_word ≡ true → inner ≡ next (next at) → element_step at inner (one_of ts) ≡ step_at at t
element_given at inner word ts t e no_field is there =
    ap (λ n. element_step at n (one_of ts)) there
    ∙ step_given at word ts t (Some ElementStep) e (element_is word no_field ∙ cond-true (same_name word element_word) (Some ElementStep) None is)

pub step_refused : (at : ℕ) (word : Name) (ts : Trees) (t : Tree) → Some (word, ts) ≡ headed_in t → same_name word field_word ≡ false → same_name word element_word ≡ false → step_at at t ≡ Err at
step_refused at word ts t e no_field no_element =
    sym (step_given at word ts t None e (element_is word no_field ∙ cond-false (same_name word element_word) (Some ElementStep) None no_element))

more_made : (fronts : List G.PathFront) (front : G.PathFront) (r : Read Path) → made (with_steps (fronts ++ front ∷ [])) r ≡ made (with_steps fronts) (r >>= λ y. Ok (with_step front y.0, y.1))
more_made fronts front (Ok (p, n)) = ap (λ q. Ok (q, n)) (with_steps_push fronts front p)
more_made fronts front (Err n) = refl

-- one step more
pub step_more : (fronts now : List G.PathFront) (front : G.PathFront) (at behind : ℕ) (xs : List S.Sx) (k : ℕ) (x : S.Sx) (whole : Read Path) → k < length xs → x ≡ get_or xs k x → now ≡ fronts ++ front ∷ [] → step_at at (tree_of x) ≡ Ok (with_step front, behind) →
    made (with_steps fronts) (steps_at at (trees_in (drop k xs))) ≡ whole → made (with_steps now) (steps_at behind (trees_in (drop (k + 1) xs))) ≡ whole
step_more fronts now front at behind xs k x whole lt is pushed given before =
    let others = trees_in (drop (k + 1) xs) in
    let there : trees_in (drop k xs) ≡ more (tree_of x) others = at_drop_more trees_in xs k x lt ∙ ap (λ y. more (tree_of y) others) (sym is) in
    ap (λ fs. made (with_steps fs) (steps_at behind others)) pushed
    ∙ more_made fronts front (steps_at behind others)
    ∙ ap (λ r. made (with_steps fronts) (r >>= λ z. steps_at z.1 others >>= λ y. Ok (z.0 y.0, y.1))) (sym given)
    ∙ ap (λ ts. made (with_steps fronts) (steps_at at ts)) (sym there)
    ∙ before

pub nodes_in : (xs : List S.Sx) (k : ℕ) (x : S.Sx) → k < length xs → x ≡ get_or xs k x → nodes (tree_of x) ≤ all_nodes (trees_in xs)
nodes_in [] k x lt e = absurd (omega arith)
nodes_in (y ∷ ys) zero x lt e = let same = ap (λ z. nodes (tree_of z)) e in omega (arith, same)
nodes_in (y ∷ ys) (suc k) x lt e = let h = nodes_in ys k x (omega arith) e in omega (arith, h)
