-- The claims of the parts of commands: their left sides are where the code goes on.
use Rattle.c_values.specs.Name.{Name}
use Rattle.std.proofs.Common.{◌≡◌, Bool, ℕ, List, [], ◌∷◌, Some, None, refl, ap, ◌∙◌}
use Rattle.simpl_lang.specs.Command as C
use Rattle.simpl_lang.specs.Command.{Simpl}
use Rattle.monad_lang.specs.Program as M
use Rattle.rule_exn.specs.Rule as X
use Rattle.rule_exn.specs.Table as Exceptions
use Rattle.rule_local.specs.Rule as L
use Rattle.rule_local.specs.Table as Locals
use Rattle.refused_parts.specs.CodeInside.{command_inside, exception_inside, local_inside}
use Rattle.refused_parts.specs.Lefts.{exception_left, local_left}
use Rattle.refused_parts.proofs.Positions.{IsAt, of_one, of_first, of_two}

exception_row : (r : X.Rule) (a b : Simpl) (d : X.Claim) (i : ℕ) → (Exceptions.row r a b).holds → IsAt (Exceptions.row r a b).parts i d → Some d.left ≡ command_inside a i
exception_row X.Skip C.Skip c d i h k = absurd k
exception_row X.Set (C.Set x e) c d i h k = absurd k
exception_row X.Set (C.SetGlobal x path e) c d i h k = absurd k
exception_row X.Set (C.Store t p path e) c d i h k = absurd k
exception_row X.Pick (C.Pick x) c d i h k = absurd k
exception_row X.Call (C.Call x f es) c d i h k = absurd k
exception_row X.Throw C.Throw c d i h k = absurd k
exception_row X.SeqPlain (C.Seq a b) (C.Seq a' b') d i h k = of_two exception_left a b _ _ d i refl refl k
exception_row X.SeqTest (C.Seq a b) (C.Seq a' (C.Cond e c b')) d i h k = of_two exception_left a b _ _ d i refl refl k
exception_row X.Cond (C.Cond e a b) (C.Cond e' a' b') d i h k = of_two exception_left a b _ _ d i refl refl k
exception_row X.Guard (C.Guard g a) (C.Guard g' a') d i h k = of_one exception_left a _ d i refl k
exception_row X.WhilePlain (C.While gs e a) (C.While gs' e' a') d i h k = of_one exception_left a _ d i refl k
exception_row X.WhileTest (C.While gs e a) (C.While gs' e' a') d i h k = of_one exception_left a _ d i refl k
exception_row X.CatchPlain (C.Catch a b) a' d i h k = of_first exception_left a _ _ d i refl k
exception_row X.CatchTest (C.Catch a b) (C.Seq a' (C.Cond e (C.Seq c b') d')) d i h k = of_two exception_left a b _ _ d i refl refl k
exception_row X.CatchSkip (C.Catch a C.Skip) (C.Seq a' c) d i h k = of_first exception_left a _ _ d i refl k
exception_row r a b d i h k = absurd h

some_is : {A : Type 0} {a b : A} → Some a ≡ Some b → a ≡ b
some_is h = cc

-- exceptions
pub exception_steps : (r : X.Rule) (c d : X.Claim) (p : Simpl) (i : ℕ) → (Exceptions.table r c).holds → exception_left c ≡ Some p → IsAt (Exceptions.table r c).parts i d → exception_left d ≡ exception_inside r p i
exception_steps r c d p i h e k = exception_row r c.left c.right d i h k ∙ ap (λ q. command_inside q i) (some_is e)

pub exception_stays : (r : X.Rule) (c d : X.Claim) (i : ℕ) → (Exceptions.table r c).holds → exception_left c ≡ None → IsAt (Exceptions.table r c).parts i d → exception_left d ≡ None
exception_stays r c d i h e k = absurd cc

module _ (ctx : L.Context) where
  local_row : (at_root : Bool) (vs : List Name) (r : L.Rule) (a : Simpl) (m : M.Mon) (d : L.Claim) (i : ℕ) → (Locals.row ctx at_root vs r a m).holds → IsAt (Locals.row ctx at_root vs r a m).parts i d → Some d.left ≡ local_inside r a i
  local_row at_root vs L.Skip C.Skip (M.Ret es) d i h k = absurd k
  local_row at_root vs L.Set (C.Set x e) (M.Ret es) d i h k = absurd k
  local_row at_root vs L.Dead (C.Set x e) (M.Ret es) d i h k = absurd k
  local_row at_root vs L.Global (C.SetGlobal x path e) (M.Bind (M.Write place e') [] (M.Ret es)) d i h k = absurd k
  local_row at_root vs L.Memory (C.Store t p path e) (M.Bind (M.Write place e') [] (M.Ret es)) d i h k = absurd k
  local_row at_root vs L.Pick (C.Pick x) (M.Bind (M.Pick j) (y ∷ []) (M.Ret es)) d i h k = absurd k
  local_row at_root vs L.Seq (C.Seq a b) (M.Bind a' us b') d i h k = of_two local_left a b _ _ d i refl refl k
  local_row at_root vs L.Cond (C.Cond e a b) (M.If e' a' b') d i h k = of_two local_left a b _ _ d i refl refl k
  local_row at_root vs L.Guard (C.Guard g a) (M.Bind (M.Guard e) [] a') d i h k = of_one local_left a _ d i refl k
  local_row at_root vs L.While (C.While gs e a) (M.Bind (M.Loop starts guard e' a') us (M.Ret es)) d i h k = of_one local_left a _ d i refl k
  local_row at_root vs L.Call (C.Call (Some x) f es) (M.Bind (M.Call g es') (y ∷ []) (M.Ret os)) d i h k = absurd k
  local_row at_root vs L.Void (C.Call None f es) (M.Bind (M.Call g es') [] (M.Ret os)) d i h k = absurd k
  local_row at_root vs L.Start c (M.Bind (M.Ret zs) xs d') d i h k = of_one local_left c _ d i refl k
  local_row at_root vs r a m d i h k = absurd h

  -- locals
  pub local_steps : (r : L.Rule) (c d : L.Claim) (p : Simpl) (i : ℕ) → (Locals.table ctx r c).holds → local_left c ≡ Some p → IsAt (Locals.table ctx r c).parts i d → local_left d ≡ local_inside r p i
  local_steps r c d p i h e k = local_row c.is_whole c.outputs r c.left c.right d i h.0 k ∙ ap (λ q. local_inside r q i) (some_is e)

  pub local_stays : (r : L.Rule) (c d : L.Claim) (i : ℕ) → (Locals.table ctx r c).holds → local_left c ≡ None → IsAt (Locals.table ctx r c).parts i d → local_left d ≡ None
  local_stays r c d i h e k = absurd cc
