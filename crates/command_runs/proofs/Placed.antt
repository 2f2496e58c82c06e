-- Where a part of an object takes a value: the spot is there, and the value is of its shape.
use Rattle.std.proofs.Common.{◌≡◌, List, [], ◌∷◌, Option, Some, Result, Ok, Err, sym, subst}
use Rattle.std.specs.Prelude.{OnOk}
use Rattle.c_values.specs.Types.{CType}
use Rattle.c_values.specs.Layout.{Layout, shape_of}
use Rattle.c_values.specs.Path.{Spot, spot, upd, HasShape}
use Rattle.c_values.specs.Value.{Value}
use Rattle.expression_lang.specs.Expression.{Exp, Path}
use Rattle.expression_lang.specs.Sort.{Scalar, Of}
use Rattle.expression_lang.specs.Evaluation.{value, steps}
use Rattle.expression_lang.specs.Signature.{values_of}
use Rattle.expression_lang.specs.Sorted.{program_sort, scalar_in, scalars_of}
use Rattle.expression_lang.specs.CodeState.{Bindings, env_of}
use Rattle.expression_lang.proofs.Good.{Good, good_object, good_spot, upd_put}
use Rattle.expression_lang.proofs.SortParts.{scalar_in_inv, value_shaped, with_scalar_inv, program_sort_inv}
use Rattle.command_runs.specs.declared.frame.Frame as R
use Rattle.command_runs.specs.declared.outcome.CState as C
use Rattle.command_runs.specs.Locals.{AreOfSorts}
use Rattle.command_runs.specs.CodeRun.{state_in, scope_for, IsFrame, Fits, HasSortIn, HaveSortsIn}
use Rattle.command_runs.proofs.Evaluated.{value_fits, path_fits}
use Rattle.command_runs.proofs.Places.{IsPlace}

pub on_ok : {T E : Type 0} {P Q : Type 0} (r : Result T E) → OnOk r P → (P → Q) → OnOk r Q
on_ok (Ok x) h f = f h
on_ok (Err e) h f = tt

module _ (f : R.Frame) (frame : IsFrame f) (bs : Bindings) (s : C.CState) (fits : Fits f bs s) where
  abbrev l : Layout
  l = f.unit.now.layout

  pub record Placed (t : CType) (path : Path) (e : Exp) : Type 0 where
    pub end : Spot
    pub leads : spot (shape_of l t) (steps l (env_of bs) (state_in f.unit.now s) path) ≡ Some end
    pub shaped : HasShape end.shape (value l (env_of bs) (state_in f.unit.now s) e)

  pub placed : (t : CType) (path : Path) (e : Exp) → IsPlace f t path e → Placed t path e
  placed t path e p =
      let a = path_fits f frame bs s fits path (shape_of l t) p.shape p.leads in
      let good = good_spot l (shape_of l t) (steps l (env_of bs) (state_in f.unit.now s) path) a.end (good_object l t frame.unit.formed.layout p.object) a.leads in
      let v = value_fits f frame bs s fits e p.sort p.value in
      record {
        end = a.end;
        leads = a.leads;
        shaped = subst (λ q. HasShape q (value l (env_of bs) (state_in f.unit.now s) e)) (sym a.shape)
            (value_shaped l p.shape p.sort (value l (env_of bs) (state_in f.unit.now s) e) (subst (λ q. Good l q) a.shape good) p.at v);
      }

  pub part_put : (t : CType) (path : Path) (e : Exp) → IsPlace f t path e → (v : Value) → HasShape (shape_of l t) v →
      HasShape (shape_of l t) (upd v (steps l (env_of bs) (state_in f.unit.now s) path) (value l (env_of bs) (state_in f.unit.now s) e))
  part_put t path e p v h =
      let q = placed t path e p in
      upd_put (steps l (env_of bs) (state_in f.unit.now s) path) (value l (env_of bs) (state_in f.unit.now s) e) (shape_of l t) v q.end h q.leads q.shaped

  pub arguments_fit : (es : List Exp) (cs : List Scalar) → HaveSortsIn f es cs → AreOfSorts cs (values_of l (env_of bs) (state_in f.unit.now s) es)
  arguments_fit [] cs h = subst (λ ds. AreOfSorts ds []) (same_lists h.sorted) tt
    where
      same_lists : {as' ds : List Scalar} → ◌≡◌ {A = Option (List Scalar)} (Some as') (Some ds) → as' ≡ ds
      same_lists q = cc
  arguments_fit (e ∷ es) cs h =
      let p = with_scalar_inv (scalar_in (program_sort (scope_for f) e)) (scalars_of (scope_for f) es) cs h.sorted in
      let others : HaveSortsIn f es p.1 = record { sorted = p.3; narrow = h.narrow.1 } in
      let own : HasSortIn f e (Of p.0) = record { sorted = program_sort_inv (scope_for f) e (Of p.0) (scalar_in_inv (program_sort (scope_for f) e) p.0 p.2); narrow = h.narrow.0 } in
      subst (λ ds. AreOfSorts ds (values_of l (env_of bs) (state_in f.unit.now s) (e ∷ es))) p.4 (value_fits f frame bs s fits e (Of p.0) own, arguments_fit es p.1 others)
