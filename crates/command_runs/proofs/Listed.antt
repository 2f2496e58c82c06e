-- Locals in the code's list: where a name is found, what is written there, and what the last of a name is.
use Rattle.std.proofs.Common.{◌≡◌, ℕ, suc, ◌+◌, ◌<◌, ◌≤◌, true, false, [], ◌∷◌, ◌++◌, length, get_or, set, take, drop, refl, sym, ap, ap₂, ◌∙◌, add-one, drop-cons}
use Rattle.std.proofs.lemmas.Bool.{cond-true, cond-false}
use Rattle.std.proofs.lemmas.List.{take-append-drop, take-set, take_all, map-append}
use Rattle.std.proofs.lemmas.Grind.{drop-set_at}
use Rattle.std.proofs.Math.ListN.{drop_of_length-le}
use Rattle.std.specs.Prelude.{String, string_bytes}
use Rattle.std.specs.declared.alloc.Global.{Global}
use Rattle.c_values.specs.declared.values.Value as V
use Rattle.c_values.specs.Name.{Name, same_name, with_name}
use Rattle.c_values.specs.Value.{Value}
use Rattle.c_values.specs.CodeValue.{value_of}
use Rattle.expression_lang.specs.CodeState.{Bindings, env_of}
use Rattle.expression_lang.proofs.ScalarValues.{env_behind}
use Rattle.command_runs.specs.Locals.{Table, put_in}
use Rattle.command_runs.specs.CodeRun.{table_of}

abbrev Binding : Type 0
Binding = String Global × V.Value

entry : Binding → Name × Value
entry b = (string_bytes b.0, value_of b.1)

-- the last of a name

last_value : (bs cs all : Bindings) (b : Binding) (x : Name) → env_of bs x ≡ env_of all x → bs ≡ cs ++ (b ∷ []) → with_name (string_bytes b.0) (value_of b.1) (env_of cs) x ≡ env_of all x
last_value bs cs all b x h e = sym (ap (λ env. env x) (ap env_of e ∙ env_behind cs (b ∷ []) (λ y. _))) ∙ h

pub last_found : (bs cs all : Bindings) (b : Binding) (x : Name) → env_of bs x ≡ env_of all x → bs ≡ cs ++ (b ∷ []) → same_name (string_bytes b.0) x ≡ true → value_of b.1 ≡ env_of all x
last_found bs cs all b x h e k = sym (cond-true (same_name (string_bytes b.0) x) (value_of b.1) (env_of cs x) k) ∙ last_value bs cs all b x h e

pub last_passed : (bs cs all : Bindings) (b : Binding) (x : Name) → env_of bs x ≡ env_of all x → bs ≡ cs ++ (b ∷ []) → same_name (string_bytes b.0) x ≡ false → env_of cs x ≡ env_of all x
last_passed bs cs all b x h e k = sym (cond-false (same_name (string_bytes b.0) x) (value_of b.1) (env_of cs x) k) ∙ last_value bs cs all b x h e

-- the first of a name

pub one_element : (bs : Bindings) (k : ℕ) (a b : Binding) → k < length bs → a ≡ get_or bs k a → b ≡ get_or bs k b → a ≡ b
one_element bs k a b lt h e =
    let first : a ∷ drop (suc k) bs ≡ b ∷ drop (suc k) bs =
    ap (λ y. y ∷ drop (suc k) bs) h ∙ sym (drop-cons bs k a lt) ∙ drop-cons bs k b lt ∙ ap (λ y. y ∷ drop (suc k) bs) (sym e) in
    cc

module _ (bs : Bindings) (k : ℕ) (x : Name) (v : V.Value) (passed : put_in x (value_of v) (table_of bs) ≡ table_of (take k bs) ++ put_in x (value_of v) (table_of (drop k bs))) where
  pub put_found : (b : Binding) → k < length bs → b ≡ get_or bs k b → same_name (string_bytes b.0) x ≡ true → table_of (set bs k (b.0, v)) ≡ put_in x (value_of v) (table_of bs)
  put_found b lt at here =
      let new : Binding = (b.0, v) in
      let rest : drop k bs ≡ b ∷ drop (k + 1) bs = rw (add-one, drop-cons bs k b) (ap (λ y. y ∷ drop (suc k) bs) (sym at)) in
      let whole : set bs k new ≡ take k bs ++ (new ∷ drop (k + 1) bs) =
      sym (take-append-drop k (set bs k new)) ∙ ap₂ (λ s t. s ++ t) (take-set bs k new) (drop-set_at bs k k new refl lt) in
      let found : put_in x (value_of v) (table_of (drop k bs)) ≡ table_of (new ∷ drop (k + 1) bs) =
      ap (λ t. put_in x (value_of v) (table_of t)) rest ∙ cond-true (same_name (string_bytes b.0) x) _ _ here in
      ap table_of whole ∙ map-append _ (take k bs) (new ∷ drop (k + 1) bs) ∙ ap (λ t. table_of (take k bs) ++ t) (sym found) ∙ sym passed

  pub put_missed : length bs ≤ k → table_of bs ≡ put_in x (value_of v) (table_of bs)
  put_missed le =
      let none : drop k bs ≡ [] = drop_of_length-le bs le in
      sym (passed ∙ ap₂ (λ s t. table_of s ++ put_in x (value_of v) (table_of t)) (take_all k bs le) none ∙ nothing_more (table_of bs))
    where
      nothing_more : (t : Table) → t ++ [] ≡ t
      nothing_more [] = refl
      nothing_more (p ∷ ps) = ap (λ q. p ∷ q) (nothing_more ps)
