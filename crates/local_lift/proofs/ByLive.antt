-- Lifted by what is live is lifted.
use Rattle.std.proofs.Common.{◌≡◌, not, ◌&&◌, List, [], Some, refl, sym, ap, ap₂, ◌∙◌}
use Rattle.c_values.specs.Name.{Name, is_among}
use Rattle.expression_lang.specs.Signature.{Binder, names_of}
use Rattle.simpl_lang.specs.Command as C
use Rattle.simpl_lang.specs.Command.{Simpl}
use Rattle.monad_lang.specs.Program as M
use Rattle.monad_lang.specs.Names.{is_free}
use Rattle.rule_local.specs.Rule.{Context, Seq, Cond, Guard}
use Rattle.rule_local.specs.Lifted.{over_one, over_two, seq_lifted, while_lifted, lifted, begun, locals_lifted}
use Rattle.rule_local.proofs.LiftedTaken.{AssignsThese}
use Rattle.local_lift.specs.Live.{live}
use Rattle.local_lift.specs.LiftedByLive.{among, carried, by_live, whole_by_live}
use Rattle.local_lift.proofs.LiveIsFree.{chosen_same, first_owned, second_owned, live_is_free, seq_hands_on, loop_hands_on}

module _ (bs : List Binder) where
  pub by_live_is : (a : Simpl) → AssignsThese bs a → (vs : List Name) → by_live bs a vs ≡ lifted bs a vs
  by_live_is (C.Seq a b) o vs =
      let first = first_owned bs a b o in
      let us = carried (names_of bs) a (live (names_of bs) b (among vs)) in
      ap (λ l. over_two Seq (M.Bind l.right us (by_live bs b vs).right) l (by_live bs b vs)) (by_live_is a first us) ∙ ap (λ l. seq_lifted us (λ ws. lifted bs a ws) l) (by_live_is b (second_owned bs a b o) vs)
      ∙ ap (λ ws. seq_lifted ws (λ w. lifted bs a w) (lifted bs b vs)) (sym (seq_hands_on bs a b first (second_owned bs a b o) vs))
  by_live_is (C.Cond e a b) o vs = ap₂ (λ l r. over_two Cond (M.If e l.right r.right) l r) (by_live_is a (first_owned bs a b o) vs) (by_live_is b (second_owned bs a b o) vs)
  by_live_is (C.Guard g a) o vs = ap (λ l. over_one Guard (M.Bind (M.Guard g.exp) [] l.right) l) (by_live_is a o vs)
  by_live_is (C.Catch a b) o vs = by_live_is a (first_owned bs a b o) vs
  by_live_is (C.While gs e a) o vs =
      let us = carried (names_of bs) a (live (names_of bs) (C.While gs e a) (among vs)) in
      ap (λ l. while_lifted gs e vs us (λ ws. l)) (by_live_is a o us) ∙ ap (λ ws. while_lifted gs e vs ws (λ w. lifted bs a w)) (sym (loop_hands_on bs gs e a o vs))
  by_live_is (C.Call (Some x) f es) o vs = refl
  by_live_is _ _ _ = refl

pub whole_by_live_is : (ctx : Context) (a : Simpl) → AssignsThese ctx.locals a → (vs : List Name) → whole_by_live ctx a vs ≡ locals_lifted ctx a vs
whole_by_live_is ctx a o vs =
    ap₂ (begun ctx)
    (chosen_same (λ y. live (names_of ctx.locals) a (among vs) y && not (is_among y ctx.parameters)) (λ y. is_free y (lifted ctx.locals a vs).right && not (is_among y ctx.parameters)) (names_of ctx.locals)
    (λ y m. ap (λ b. b && not (is_among y ctx.parameters)) (sym (live_is_free ctx.locals a o vs y)))) (by_live_is ctx.locals a o vs)
