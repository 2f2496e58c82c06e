-- A sequence and a loop lifted, where their parts are.
use Rattle.std.proofs.Common.{◌≡◌, List, ap, ap₂, ◌∙◌}
use Rattle.c_values.specs.Name.{Name}
use Rattle.expression_lang.specs.Expression.{Exp}
use Rattle.expression_lang.specs.Signature.{Binder, names_of}
use Rattle.simpl_lang.specs.Command as C
use Rattle.simpl_lang.specs.Command.{Condition, Simpl}
use Rattle.monad_lang.specs.Program as M
use Rattle.rule_local.specs.Rule.{Seq}
use Rattle.rule_local.specs.Lifted.{Lifted, over_two, seq_lifted, while_lifted}
use Rattle.local_lift.specs.Live.{live}
use Rattle.local_lift.specs.LiftedByLive.{among, carried, by_live}

pub seq_step : (bs : List Binder) (a b : Simpl) (vs us : List Name) (part second whole : Lifted) → whole ≡ over_two Seq (M.Bind part.right us second.right) part second → part ≡ by_live bs a us → second ≡ by_live bs b vs →
    us ≡ carried (names_of bs) a (live (names_of bs) b (among vs)) → whole ≡ by_live bs (C.Seq a b) vs
seq_step bs a b vs us part second whole e h k u =
    e ∙ ap₂ (λ p s. over_two Seq (M.Bind p.right us s.right) p s) h k ∙ ap (λ ws. seq_lifted ws (λ w. by_live bs a w) (by_live bs b vs)) u

pub while_step : (bs : List Binder) (gs : List Condition) (test : Exp) (a : Simpl) (vs us : List Name) (part whole : Lifted) → whole ≡ while_lifted gs test vs us (λ ws. part) → part ≡ by_live bs a us →
    us ≡ carried (names_of bs) a (live (names_of bs) (C.While gs test a) (among vs)) → whole ≡ by_live bs (C.While gs test a) vs
while_step bs gs test a vs us part whole e h u =
    e ∙ ap (λ p. while_lifted gs test vs us (λ ws. p)) h ∙ ap (λ ws. while_lifted gs test vs ws (λ w. by_live bs a w)) u
