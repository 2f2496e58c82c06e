-- What locals are lifted to is accepted.
use Rattle.std.proofs.Common.{◌≡◌, Bool, true, false, cond, ◌||◌, List, [], ◌∷◌, Option, Some, None, refl, sym, subst}
use Rattle.std.proofs.lemmas.Bool.{false≢true, and_parts, or_left, or_right}
use Rattle.c_values.specs.Name.{Name, same_name, is_among}
use Rattle.c_values.proofs.Laid.{same_name-refl, other_name}
use Rattle.expression_lang.specs.Expression.{Exp}
use Rattle.expression_lang.specs.Sort.{Kind}
use Rattle.expression_lang.specs.Signature.{Binder, names_of}
use Rattle.simpl_lang.specs.Command as C
use Rattle.simpl_lang.specs.Command.{Simpl, kind_of}
use Rattle.simpl_lang.specs.Form.{is_flat}
use Rattle.monad_lang.specs.Names.{is_free}
use Rattle.rule_local.specs.Assigned.{assigns}
use Rattle.rule_local.specs.Rule.{Context}
use Rattle.rule_local.specs.Table.{picked_kind, Takes}
use Rattle.rule_local.specs.Lifted.{Lifted, kind_there, set_lifted, lifted}
use Rattle.rule_local.proofs.HandedOn.{chosen_carries, handed_on_carries}

-- what the command assigns is among the locals
abbrev pub AssignsThese : List Binder → Simpl → Type 0
AssignsThese bs a = (y : Name) → assigns y a ≡ true → is_among y (names_of bs) ≡ true

kind_found : (x : Name) (b : Binder) (bs : List Binder) → (is_among x (names_of bs) ≡ true → (k : Kind) × (kind_of bs x ≡ Some k)) → (t : Bool) → same_name b.name x ≡ t → is_among x (names_of (b ∷ bs)) ≡ true →
    (k : Kind) × (cond t (Some b.kind) (kind_of bs x) ≡ Some k)
kind_found x b bs h true e k = (b.kind, refl)
kind_found x b bs h false e k = h (subst (λ t. (t || is_among x (names_of bs)) ≡ true) (other_name b.name x e) k)

-- a local has a kind
pub local_kind : (bs : List Binder) (x : Name) → is_among x (names_of bs) ≡ true → (k : Kind) × (kind_of bs x ≡ Some k)
local_kind [] x h = absurd (false≢true h)
local_kind (b ∷ bs) x h = kind_found x b bs (local_kind bs x) (same_name b.name x) refl h

picked_there : (o : Option Kind) (k : Kind) → o ≡ Some k → picked_kind o ≡ Some (kind_there (picked_kind o))
picked_there o k h = subst (λ p. picked_kind p ≡ Some (kind_there (picked_kind p))) (sym h) refl

module _ (ctx : Context) where
  abbrev Taken : Simpl → Lifted → List Name → Type 0
  Taken a r vs = Takes ctx r.tree a r.right vs

  set_taken : (x : Name) (e : Exp) (vs : List Name) (b : Bool) → is_among x vs ≡ b → Taken (C.Set x e) (set_lifted b x e vs) vs
  set_taken x e vs true h = (((h, refl), tt), tt)
  set_taken x e vs false h = (((h, refl), tt), tt)

  pub lifted_taken : (a : Simpl) → is_flat a ≡ true → AssignsThese ctx.locals a → (vs : List Name) → Taken a (lifted ctx.locals a vs) vs
  lifted_taken C.Skip f h vs = ((refl, tt), tt)
  lifted_taken (C.Set x e) f h vs = set_taken x e vs (is_among x vs) refl
  lifted_taken (C.SetGlobal x path e) f h vs = (((refl, refl, refl), tt), tt)
  lifted_taken (C.Store t p path e) f h vs = (((refl, refl, refl), tt), tt)
  lifted_taken (C.Pick x) f h vs =
      let k = local_kind ctx.locals x (h x (same_name-refl x)) in (((picked_there (kind_of ctx.locals x) k.0 k.1, refl, refl), tt), tt)
  lifted_taken (C.Seq a b) f h vs =
      let d = and_parts (is_flat a) (is_flat b) f in
      let left : AssignsThese ctx.locals a = λ y k. h y (or_left (assigns y a) (assigns y b) k) in (
        (chosen_carries (names_of ctx.locals) a left (λ y. is_free y (lifted ctx.locals b vs).right), tt),
        (lifted_taken a d.0 left _, (lifted_taken b d.1 (λ y k. h y (or_right (assigns y a) (assigns y b) k)) vs, tt)),
      )
  lifted_taken (C.Cond e a b) f h vs =
      let d = and_parts (is_flat a) (is_flat b) f in
      ((refl, tt), (lifted_taken a d.0 (λ y k. h y (or_left (assigns y a) (assigns y b) k)) vs, (lifted_taken b d.1 (λ y k. h y (or_right (assigns y a) (assigns y b) k)) vs, tt)))
  lifted_taken (C.Guard g a) f h vs = ((refl, tt), (lifted_taken a f h vs, tt))
  lifted_taken (C.While gs e a) f h vs =
      (((refl, refl, refl, refl, handed_on_carries (names_of ctx.locals) a h gs e (λ us. (lifted ctx.locals a us).right) vs), tt), (lifted_taken a f h _, tt))
  lifted_taken (C.Call (Some x) g es) f h vs = (((refl, refl, refl, refl), tt), tt)
  lifted_taken (C.Call None g es) f h vs = (((refl, refl, refl), tt), tt)
  lifted_taken _ f _ _ = absurd (false≢true f)
