-- The value of a name among others: of two with one name the last counts, and globals come in their order.
use Rattle.std.proofs.Common.{◌≡◌, ℕ, zero, suc, ◌+◌, ◌-◌, ◌<◌, ◌≤◌, true, false, cond, List, [], ◌∷◌, length, get_or, take, drop, Option, Some, ◌++◌, refl, sym, ap, ◌∙◌, arith}
use Rattle.std.proofs.lemmas.Bool.{cond-false}
use Rattle.std.specs.Prelude.{String, string_bytes}
use Rattle.std.specs.declared.alloc.Global.{Global}
use Rattle.c_values.specs.declared.values.Value as V
use Rattle.c_values.specs.declared.values.GlobalVar as G
use Rattle.c_values.specs.Name.{Name, same_name, with_name}
use Rattle.c_values.specs.Value.{nothing}
use Rattle.c_values.specs.CodeValue.{value_of}
use Rattle.expression_lang.specs.declared.signatures.Binder as B
use Rattle.expression_lang.specs.Sort.{Scalar, word_sort_of}
use Rattle.expression_lang.specs.CodeExpression.{kind_of}
use Rattle.expression_lang.specs.CodeSort.{names_with_all, IsScalarAmong}
use Rattle.expression_lang.specs.Evaluation.{Env}
use Rattle.expression_lang.specs.CodeState.{Bindings, env_with, env_of, globals_of}

pub last_named : (bs : Bindings) (env : Env) (k : ℕ) (b : String Global × V.Value) (x : Name) → k < length bs → b ≡ get_or bs k b →
    env_with (take (k + 1) bs) env x ≡ cond (same_name (string_bytes b.0) x) (value_of b.1) (env_with (take k bs) env x)
last_named [] env k b x lt e = absurd (omega arith)
last_named (a ∷ bs) env zero b x lt e = ap (λ (p : String Global × V.Value). cond (same_name (string_bytes p.0) x) (value_of p.1) (env x)) (sym e)
last_named (a ∷ bs) env (suc k) b x lt e =
    let n : suc k + 1 ≡ suc (k + 1) = omega arith in
    ap (λ m. env_with (take m (a ∷ bs)) env x) n ∙ last_named bs (with_name (string_bytes a.0) (value_of a.1) env) k b x (omega arith) e

-- and of the names that are left
pub named_here : (bs : Bindings) (k : ℕ) (b : String Global × V.Value) (x : Name) → 0 < k → k ≤ length bs → b ≡ get_or bs (k - 1) b →
    env_of (take k bs) x ≡ cond (same_name (string_bytes b.0) x) (value_of b.1) (env_of (take (k - 1) bs) x)
named_here bs k b x some le e =
    let n : k ≡ k - 1 + 1 = omega arith in
    ap (λ m. env_of (take m bs) x) n ∙ last_named bs (λ y. nothing) (k - 1) b x (omega arith) e

-- a global of another name is left out
pub global_after : (gs : List G.GlobalVar) (vs : List V.Value) (k : ℕ) (g : G.GlobalVar) (x : Name) → k < length gs → k < length vs → g ≡ get_or gs k g → same_name (string_bytes g.name) x ≡ false →
    globals_of (drop (k + 1) gs) (drop (k + 1) vs) x ≡ globals_of (drop k gs) (drop k vs) x
global_after [] vs k g x lt lt' e other = absurd (omega arith)
global_after (h ∷ gs) [] k g x lt lt' e other = absurd (omega arith)
global_after (h ∷ gs) (v ∷ vs) zero g x lt lt' e other =
    sym (cond-false (same_name (string_bytes h.name) x) (value_of v) (globals_of gs vs x) (ap (λ (r : G.GlobalVar). same_name (string_bytes r.name) x) (sym e) ∙ other))
global_after (h ∷ gs) (v ∷ vs) (suc k) g x lt lt' e other =
    let n : suc k + 1 ≡ suc (k + 1) = omega arith in
    ap (λ m. globals_of (drop m (h ∷ gs)) (drop m (v ∷ vs)) x) n ∙ global_after gs vs k g x (omega arith) (omega arith) e other

-- the last of binders comes first
pub last_binder : (bs : List B.Binder) (b : B.Binder) (names : Name → Option Scalar) →
    names_with_all (bs ++ (b ∷ [])) names ≡ with_name (string_bytes b.name) (Some (word_sort_of (kind_of b.kind))) (names_with_all bs names)
last_binder [] b names = refl
last_binder (a ∷ bs) b names = last_binder bs b (with_name (string_bytes a.name) (Some (word_sort_of (kind_of a.kind))) names)

pub binder_here : (bs others : List B.Binder) (b : B.Binder) (x : Name) → bs ≡ others ++ (b ∷ []) → same_name (string_bytes b.name) x ≡ true →
    IsScalarAmong bs x (word_sort_of (kind_of b.kind))
binder_here bs others b x e here names =
    ap (λ cs. names_with_all cs names x) e ∙ ap (λ (f : Name → Option Scalar). f x) (last_binder others b names)
    ∙ ap (λ h. cond h (Some (word_sort_of (kind_of b.kind))) (names_with_all others names x)) here

-- a binder of another name is left out
pub binder_left_out : (bs others : List B.Binder) (b : B.Binder) (x : Name) (names : Name → Option Scalar) → bs ≡ others ++ (b ∷ []) → same_name (string_bytes b.name) x ≡ false →
    names_with_all bs names x ≡ names_with_all others names x
binder_left_out bs others b x names e other =
    ap (λ cs. names_with_all cs names x) e ∙ ap (λ (f : Name → Option Scalar). f x) (last_binder others b names)
    ∙ ap (λ h. cond h (Some (word_sort_of (kind_of b.kind))) (names_with_all others names x)) other
