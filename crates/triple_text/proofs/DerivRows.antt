-- The rows of derivations of programs, of parts in whatever number.
use Rattle.std.proofs.Common.{◌≡◌, ◌≢◌, ℕ, Option, Some, None, Err, refl, ap, sym, ◌∙◌}
use Rattle.c_values.specs.Name.{Name}
use Rattle.ac_sx.specs.Tree.{Tree, Trees, Atom, Node, no_trees, more}
use Rattle.ac_sx.specs.CodeSx.{headed_in}
use Rattle.expression_text.specs.Reading.{next}
use Rattle.expression_text.specs.Words.{looked_up}
use Rattle.expression_text.proofs.LookedUp.{AreFound, looked_up_from}
use Rattle.triple_text.specs.declared.deriv_heads.DerivHead.{DerivHead}
use Rattle.triple_text.specs.declared.deriv_heads.DerivHead.TheVariants as H
use Rattle.triple_text.specs.Words.{deriv_head_word, deriv_heads}
use Rattle.triple_text.specs.DerivReading.{deriv_at, built_deriv_at}
use Rattle.triple_text.specs.CodeDerivRows.{row_at, list_at, deriv_by}

pub heads_found : AreFound deriv_head_word deriv_heads
heads_found H.Ret = refl
heads_found _ = refl

row_is : (at inner : ℕ) (h : DerivHead) (ts : Trees) → built_deriv_at at inner (Some h) ts ≡ row_at at inner h ts
row_is at inner H.Bind (more t (more u (more v no_trees))) = refl
row_is at inner H.If (more t (more u no_trees)) = refl
row_is at inner H.Loop (more t (more u (more v (more w (more x (more y (more z no_trees))))))) = refl
row_is _ _ _ _ = refl

list_is : (at : ℕ) (o : Option DerivHead) (ts : Trees) → built_deriv_at at (next (next at)) o ts ≡ list_at at o ts
list_is at None ts = refl
list_is at (Some h) ts = row_is at (next (next at)) h ts

deriv_is : (at : ℕ) (t : Tree) → deriv_at at t ≡ deriv_by at (headed_in t)
deriv_is at (Node (more (Atom head) ts)) = list_is at (looked_up deriv_head_word deriv_heads head) ts
deriv_is _ _ = refl

pub deriv_given : (at inner : ℕ) (word : Name) (ts : Trees) (t : Tree) (h : DerivHead) → Some (word, ts) ≡ headed_in t → word ≡ deriv_head_word h → inner ≡ next (next at) → row_at at inner h ts ≡ deriv_at at t
deriv_given at inner word ts t h e is there =
    ap (λ n. row_at at n h ts) there
    ∙ ap (λ o. list_at at o ts) (sym (ap (looked_up deriv_head_word deriv_heads) is ∙ heads_found h))
    ∙ ap (deriv_by at) e
    ∙ sym (deriv_is at t)

pub deriv_refused : (at : ℕ) (word : Name) (ts : Trees) (t : Tree) → Some (word, ts) ≡ headed_in t → ((h : DerivHead) → word ≢ deriv_head_word h) → deriv_at at t ≡ Err at
deriv_refused at word ts t e no_head =
    deriv_is at t
    ∙ ap (deriv_by at) (sym e)
    ∙ ap (λ (o : Option DerivHead). list_at at o ts) (sym (looked_up_from {X = DerivHead} deriv_head_word deriv_heads (λ h. h) word None heads_found tt no_head))

pub deriv_headless : (at : ℕ) (t : Tree) → None ≡ headed_in t → deriv_at at t ≡ Err at
deriv_headless at t e = deriv_is at t ∙ ap (deriv_by at) (sym e)
