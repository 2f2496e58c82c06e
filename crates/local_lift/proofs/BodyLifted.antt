-- The body of a function lifted, where its command is and its start is made; and what holds of it.
use Rattle.std.proofs.Common.{◌≡◌, Bool, true, not, ◌&&◌, List, [], ◌∷◌, Some, refl, sym, subst, ap, ap₂, ◌∙◌}
use Rattle.c_values.specs.Name.{Name, is_among}
use Rattle.expression_lang.specs.Expression.{Exp}
use Rattle.expression_lang.specs.Signature.{names_of}
use Rattle.simpl_lang.specs.Command.{Simpl}
use Rattle.simpl_lang.specs.Form.{is_flat}
use Rattle.monad_lang.specs.Program as M
use Rattle.monad_lang.specs.Program.{Mon}
use Rattle.monad_lang.specs.Form.{is_bytes}
use Rattle.rule_trees.specs.RuleTree.{Tree}
use Rattle.rule_local.specs.CommandForm.{is_bytes_command}
use Rattle.rule_local.specs.Rule.{Rule, Start, Context}
use Rattle.rule_local.specs.Table.{zeros, TakesWhole}
use Rattle.rule_local.specs.Lifted.{Lifted, over_one, chosen, zeros_there, begun, locals_lifted}
use Rattle.rule_local.proofs.HandedOn.{chosen_passes}
use Rattle.rule_local.proofs.LiftedNames.{assigned_named}
use Rattle.rule_local.proofs.LiftedWhole.{have_zeros, locals_lifted_taken}
use Rattle.rule_local.proofs.LiftedBytes.{locals_lifted_bytes}
use Rattle.local_lift.specs.Live.{live}
use Rattle.local_lift.specs.LiftedByLive.{among, by_live, whole_by_live}
use Rattle.local_lift.specs.Ready.{IsReady, SameLifted}
use Rattle.local_lift.proofs.ByLive.{whole_by_live_is}

abbrev pub begins : Context → Simpl → List Name → Name → Bool
begins ctx a vs y = live (names_of ctx.locals) a (among vs) y && not (is_among y ctx.parameters)

begun_some : (ctx : Context) (us : List Name) (inner : Lifted) (es : List Exp) → (us ≡ [] → ⊥) → zeros ctx.locals us ≡ Some es → over_one Start (M.Bind (M.Ret es) us inner.right) inner ≡ begun ctx us inner
begun_some ctx [] inner es n h = absurd (n refl)
begun_some ctx (x ∷ xs) inner es n h = ap (λ r. over_one Start (M.Bind (M.Ret (zeros_there r)) (x ∷ xs) inner.right) inner) (sym h)

pub body_started : (ctx : Context) (a : Simpl) (vs us : List Name) (es : List Exp) (inner whole : Lifted) → inner ≡ by_live ctx.locals a vs → us ≡ chosen (begins ctx a vs) (names_of ctx.locals) → (us ≡ [] → ⊥) →
    ((zs : List Exp) → zeros ctx.locals us ≡ Some zs → es ≡ zs) → whole ≡ over_one Start (M.Bind (M.Ret es) us inner.right) inner → whole ≡ whole_by_live ctx a vs
body_started ctx a vs us es inner whole i u n z e =
    let h = have_zeros ctx.locals us (λ y t. (chosen_passes (begins ctx a vs) y (names_of ctx.locals) (subst (λ ws. is_among y ws ≡ true) u t)).1) in
    e ∙ ap (λ zs. over_one Start (M.Bind (M.Ret zs) us inner.right) inner) (z h.all h.are) ∙ begun_some ctx us inner h.all n h.are ∙ ap₂ (begun ctx) u i

pub body_unstarted : (ctx : Context) (a : Simpl) (vs us : List Name) (inner : Lifted) → inner ≡ by_live ctx.locals a vs → us ≡ chosen (begins ctx a vs) (names_of ctx.locals) → us ≡ [] → inner ≡ whole_by_live ctx a vs
body_unstarted ctx a vs us inner i u n = ap (λ ws. begun ctx ws inner) (sym n) ∙ ap₂ (begun ctx) u i

module _ (ctx : Context) (a : Simpl) (vs : List Name) (m : Mon) (t : Tree Rule) where
  abbrev pub IsMade : Type 0
  IsMade = record { right = m; tree = t } ≡ whole_by_live ctx a vs

  pub is_lifted : IsMade → IsReady ctx a vs → record { right = m; tree = t } ≡ locals_lifted ctx a vs
  is_lifted h r = h ∙ whole_by_live_is ctx a (λ y k. r.names y (assigned_named y a k)) vs

  pub same_lifted : IsMade → IsReady ctx a vs → SameLifted m t (locals_lifted ctx a vs)
  same_lifted h r = let e = is_lifted h r in record { right = ap (λ (l : Lifted). l.right) e; tree = ap (λ (l : Lifted). l.tree) e }

  pub lifted_is_taken : IsMade → IsReady ctx a vs → is_flat a ≡ true → TakesWhole ctx t a m vs
  lifted_is_taken h r f = subst (λ (l : Lifted). TakesWhole ctx l.tree a l.right vs) (sym (is_lifted h r)) (locals_lifted_taken ctx a vs f r.names r.outputs)

  pub lifted_is_bytes : IsMade → IsReady ctx a vs → is_bytes_command a ≡ true → is_bytes m ≡ true
  lifted_is_bytes h r f = subst (λ (l : Lifted). is_bytes l.right ≡ true) (sym (is_lifted h r)) (locals_lifted_bytes ctx a vs f)
