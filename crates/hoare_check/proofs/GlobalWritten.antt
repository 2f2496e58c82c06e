-- What an assertion says before a part of a global is written holds before the write where the assertion holds after it.
use Rattle.std.proofs.Common.{◌≡◌, Bool, true, false, List, [], ◌∷◌, refl, sym, ap, ◌∙◌}
use Rattle.std.specs.Prelude.{if◌then◌else◌}
use Rattle.c_values.specs.Name.{Name, same_name}
use Rattle.c_values.specs.Value.{truth_in}
use Rattle.c_values.specs.Layout.{Layout}
use Rattle.c_values.specs.Path.{sel, upd}
use Rattle.expression_lang.specs.Expression.{Exp, Load, Read, Global, Path, Here}
use Rattle.expression_lang.specs.Evaluation.{Env, State, value, steps, holds}
use Rattle.expression_lang.specs.Signature.{values_of}
use Rattle.ac_expr.specs.Heads.{head, children}
use Rattle.monad_lang.specs.Program as M
use Rattle.monad_lang.specs.Run.{written}
use Rattle.assertion_walks.specs.Written.{part_of, replaced, global_before, IsBeforeGlobal}
use Rattle.hoare_check.proofs.HeadValues.{steps_of_children, same_head, alike_value}
use Rattle.hoare_check.proofs.PartValues.{part_value, replaced_value}
use Rattle.hoare_check.proofs.RebuiltValues.{AllAre, rebuilt_value}

module _ (l : Layout) (env : Env) (s : State) where
  module _ (x : Name) (path : Path) (e : Exp) where
    abbrev after : State
    after = written l env s (M.Global x path) (value l env s e)

    abbrev Anything : Exp → Type 0
    Anything a = Unit {0}

    anything : (es : List Exp) → AllAre Anything es
    anything [] = tt
    anything (a ∷ es) = (tt, anything es)

    -- another global is as it was, and of this one the part is written
    global_value : (y : Name) (way : Path) (b : Bool) → same_name x y ≡ b →
        value l env s (if b then part_of (replaced (Global x Here) path e) way else Global y way) ≡ sel (after.globals y) (steps l env s way)
    global_value y way true h =
        part_value l env s (replaced (Global x Here) path e) way
        ∙ ap (λ v. sel v (steps l env s way))
        (replaced_value l env s (Global x Here) path e ∙ sym (ap (λ b. if b then upd (s.globals x) (steps l env s path) (value l env s e) else s.globals y) h))
    global_value y way false h = ap (λ v. sel v (steps l env s way))
        (sym (ap (λ b. if b then upd (s.globals x) (steps l env s path) (value l env s e) else s.globals y) h))

    keeps : (a made : Exp) → Unit {0} → head made ≡ head a → values_of l env s (children made) ≡ values_of l env after (children a) → (b : Exp) →
        b ≡ global_before x path e made →
        value l env s b ≡ value l env after a
    keeps a (Global y way) u h k b c =
        ap (λ d. value l env s d) c ∙ global_value y way (same_name x y) refl ∙ ap (λ ps. sel (after.globals y) ps) (sym (steps_of_children l env s way))
        ∙ same_head l env s after refl a (Global y way) h k
    keeps a (Load t p way) u h k b c = ap (λ d. value l env s d) c ∙ alike_value l env s after refl a (Load t p way) h k refl
    keeps a (Read t p way) u h k b c = ap (λ d. value l env s d) c ∙ alike_value l env s after refl a (Read t p way) h k refl
    keeps a made u h k b c = ap (λ d. value l env s d) c ∙ alike_value l env s after refl a made h k tt

pub before_global : (l : Layout) (env : Env) (s : State) (x : Name) (path : Path) (e q b : Exp) → IsBeforeGlobal x path e q b →
    holds l env s b ≡ holds l env (written l env s (M.Global x path) (value l env s e)) q
before_global l env s x path e q b h =
    ap truth_in (rebuilt_value l env s (written l env s (M.Global x path) (value l env s e)) (λ a d. d ≡ global_before x path e a) (Anything l env s x path e)
    (λ a u. anything l env s x path e (children a)) (keeps l env s x path e) q b h tt)
