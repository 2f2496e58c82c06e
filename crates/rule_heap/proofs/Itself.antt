-- A program does the same as itself from one state, over functions that do.
use Rattle.std.proofs.Common.{◌≡◌, Bool, true, List, [], ◌∷◌, refl, sym, ap, subst}
use Rattle.std.proofs.lemmas.Bool.{and_from}
use Rattle.correspondence.proofs.Corresponds.{done_corresponds}
use Rattle.correspondence.specs.Related.{BothFail}
use Rattle.c_values.specs.Name.{Name}
use Rattle.c_values.specs.Choice.{Choice}
use Rattle.c_values.specs.Layout.{Layout, IsLayout, GlobalVar}
use Rattle.c_memory.specs.Tags.{AreTags}
use Rattle.expression_lang.specs.Expression.{Exp}
use Rattle.expression_lang.specs.Evaluation.{State, value}
use Rattle.expression_lang.specs.Signature.{Signature, values_of}
use Rattle.ac_expr.specs.Fact.{Fact, Whole, NotTrue}
use Rattle.monad_lang.specs.Program as M
use Rattle.monad_lang.specs.Program.{Mon, Place}
use Rattle.monad_lang.specs.Run.{written}
use Rattle.program_facts.proofs.KeepsTags.{place_keeps_tags}
use Rattle.program_facts.specs.Flow.{facts_after}
use Rattle.rule_parts.specs.Starts.{start_exps}
use Rattle.monad_lang.specs.Calls.{calls_only}
use Rattle.rule_heap.proofs.Viewed.{IsSame, same_alike}
use Rattle.rule_heap.proofs.Sound.{Sound, Agrees, AgreeAll, AlikeAnswers, ret, guard, choice, bind, call, pick, repeat}

pub calls_any : (m : Mon) → calls_only (λ x. true) m ≡ true
calls_any (M.Bind m xs n) = and_from (calls_only (λ x. true) m) (calls_only (λ x. true) n) (calls_any m) (calls_any n)
calls_any (M.If e m n) = and_from (calls_only (λ x. true) m) (calls_only (λ x. true) n) (calls_any m) (calls_any n)
calls_any (M.Loop starts g t m) = calls_any m
calls_any _ = refl

module _ (l : Layout) (laid : IsLayout l) (p : Choice) (vs : List GlobalVar) (sigs : List Signature) where
  abbrev Like : State → State → Type 0
  Like = IsSame l

  abbrev any_call : Name → Bool
  any_call x = true

  abbrev SoundHere : List Fact → Mon → Mon → Type 1
  SoundHere fs a b = Sound l laid p vs sigs any_call Like (same_alike l) fs a b

  one : (fs : List Fact) (e : Exp) → Agrees l laid p vs sigs any_call Like (same_alike l) fs e e
  one fs e env s s' near said = ap (λ x. value l env x e) near.same

  all : (fs : List Fact) (es : List Exp) → AgreeAll l laid p vs sigs any_call Like (same_alike l) fs es es
  all fs es env s s' near said = ap (λ x. values_of l env x es) near.same

  write : (fs : List Fact) (place : Place) (e : Exp) → SoundHere fs (M.Write place e) (M.Write place e)
  write fs place e names cs sorted calls env depth before after s s' b =
      done_corresponds (AlikeAnswers l laid p vs sigs any_call Like (same_alike l)) BothFail _ _
      (record {
        values = refl;
        near = record {
          same = ap (λ x. written l env x place (value l env x e)) b.near.same;
          placed = subst (λ ts. AreTags l ts) (sym (place_keeps_tags l env s place (value l env s e))) b.near.placed;
        };
      })

  pub program_itself : (fs : List Fact) (m : Mon) → SoundHere fs m m
  program_itself fs (M.Ret es) = ret l laid p vs sigs any_call Like (same_alike l) fs es es (all fs es)
  program_itself fs (M.Bind m xs n) = bind l laid p vs sigs any_call Like (same_alike l) fs m m xs n n (program_itself fs m) (program_itself (facts_after m xs fs) n)
  program_itself fs (M.Guard e) = guard l laid p vs sigs any_call Like (same_alike l) fs e e (one fs e)
  program_itself fs (M.If e m n) = choice l laid p vs sigs any_call Like (same_alike l) fs e e m m n n (one fs e) (program_itself (Whole e ∷ fs) m) (program_itself (NotTrue e ∷ fs) n)
  program_itself fs (M.Write place e) = write fs place e
  program_itself fs (M.Loop starts g t m) =
      repeat l laid p vs sigs any_call Like (same_alike l) fs starts starts g g t t m m refl (all fs (start_exps starts)) (one [] g) (one (Whole g ∷ []) t) (program_itself (Whole t ∷ Whole g ∷ []) m)
  program_itself fs (M.Call f es) = call l laid p vs sigs any_call Like (same_alike l) fs f es es (all fs es)
  program_itself fs (M.Pick k) = pick l laid p vs sigs any_call Like (same_alike l) fs k
