-- What commands that don't name the flag do beside it.
use Rattle.std.proofs.Common.{◌≡◌, false, cond, List, Option, Some, None, refl, ap, ◌∙◌}
use Rattle.std.proofs.lemmas.Bool.{cond-false}
use Rattle.c_values.specs.Name.{Name, same_name, with_name}
use Rattle.c_values.specs.Value.{Value, truth_in}
use Rattle.c_values.specs.Layout.{Layout}
use Rattle.c_values.proofs.Laid.{other_name}
use Rattle.expression_lang.specs.Expression.{Exp, Path}
use Rattle.expression_lang.specs.Evaluation.{Env, State, value, steps}
use Rattle.expression_lang.specs.Mentions.{names}
use Rattle.expression_lang.specs.Machine.{Machine, machine_with, with_local, Returned}
use Rattle.expression_lang.specs.Signature.{values_of}
use Rattle.simpl_lang.specs.Exec.{value_on, holds_on, result_into}
use Rattle.simpl_lang.specs.Names.{AgreeBut, path_names, some_names, is_target}
use Rattle.simpl_lang.specs.Flag.{thrown_local}
use Rattle.simpl_lang.proofs.Unnamed.{value_same, steps_same, values_same}
use Rattle.rule_exn.specs.Flagged.{SameButFlag, Flagged}

-- a local of both is set
pub local_set : (x : Name) (v v' : Value) (env env' : Env) → v' ≡ v → AgreeBut thrown_local env env' → AgreeBut thrown_local (with_name x v env) (with_name x v' env')
local_set x v v' env env' e h y k = ap (λ w. cond (same_name x y) w (env' y)) e ∙ ap (λ w. cond (same_name x y) v w) (h y k)

-- the flag of the right side is set
pub flag_set : (v : Value) (m n : Machine) → SameButFlag m n → SameButFlag m (with_local thrown_local v n)
flag_set v m n h = record { locals = λ y k. cond-false (same_name thrown_local y) v (n.locals y) k ∙ h.locals y k; state = h.state }

-- another local leaves the flag
pub flag_stays : (x : Name) (v : Value) (env : Env) → same_name thrown_local x ≡ false → with_name x v env thrown_local ≡ env thrown_local
flag_stays x v env h = cond-false (same_name x thrown_local) v (env thrown_local) (other_name thrown_local x h)

pub both_set : (x : Name) (v v' : Value) (m n : Machine) → same_name thrown_local x ≡ false → v' ≡ v → Flagged false m n → Flagged false (with_local x v m) (with_local x v' n)
both_set x v v' m n h e f = record {
  others = record { locals = local_set x v v' m.locals n.locals e f.others.locals; state = f.others.state };
  flag = flag_stays x v' n.locals h ∙ f.flag;
}

-- the state changes alike
pub state_set : (s s' : State) (m n : Machine) → s' ≡ s → Flagged false m n → Flagged false (machine_with m.locals s) (machine_with n.locals s')
state_set s s' m n e f = record { others = record { locals = f.others.locals; state = e }; flag = f.flag }

module _ (l : Layout) (m n : Machine) (h : SameButFlag m n) where
  pub value_alike : (e : Exp) → names thrown_local e ≡ false → value_on l n e ≡ value_on l m e
  value_alike e k = ap (λ s. value l n.locals s e) h.state ∙ value_same l thrown_local m.locals n.locals h.locals m.state e k

  pub holds_alike : (e : Exp) → names thrown_local e ≡ false → holds_on l n e ≡ holds_on l m e
  holds_alike e k = ap truth_in (value_alike e k)

  pub steps_alike : (path : Path) → path_names thrown_local path ≡ false → steps l n.locals n.state path ≡ steps l m.locals m.state path
  steps_alike path k = ap (λ s. steps l n.locals s path) h.state ∙ steps_same l thrown_local m.locals n.locals h.locals m.state path k

  pub values_alike : (es : List Exp) → some_names thrown_local es ≡ false → values_of l n.locals n.state es ≡ values_of l m.locals m.state es
  values_alike es k = ap (λ s. values_of l n.locals s es) h.state ∙ values_same l thrown_local m.locals n.locals h.locals m.state es k

-- a call's result goes where it does on the left
pub result_alike : (x : Option Name) (r : Returned) (m n : Machine) → is_target thrown_local x ≡ false → Flagged false m n → Flagged false (result_into x r m.locals) (result_into x r n.locals)
result_alike None r m n h f = state_set r.state r.state m n refl f
result_alike (Some x) r m n h f = both_set x _ _ (machine_with m.locals r.state) (machine_with n.locals r.state) h refl (state_set r.state r.state m n refl f)
