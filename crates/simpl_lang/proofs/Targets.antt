-- What a call asks of what it calls and of where its result goes.
use Rattle.std.proofs.Common.{◌≡◌, Bool, true, false, ◌&&◌, List, map, Option, Some, None, cond, refl}
use Rattle.c_values.specs.Name.{Name}
use Rattle.expression_lang.specs.Sort.{Scalar, Kind, Scope, word_sort_of}
use Rattle.expression_lang.specs.Signature.{Signature, kinds_of}
use Rattle.expression_lang.specs.Sorted.{same_scalars, call_scalars, result_scalars}
use Rattle.program_sorts.specs.Sorts.{may_take}
use Rattle.simpl_lang.specs.Sorted.{fits_target}
use Rattle.simpl_lang.specs.CodeForms.{may_go_to}

-- a call of what isn't in the unit
pub calls_none : (g : Scope) (x : Option Name) (o : Option (List Scalar)) → fits_target g x (call_scalars word_sort_of None o) ≡ false
calls_none g None o = refl
calls_none g (Some x) o = refl

goes_to : (g : Scope) (x : Option Name) (r : Option Kind) → fits_target g x (Some (result_scalars word_sort_of r)) ≡ may_go_to g.names x r
goes_to g None None = refl
goes_to g (Some x) None = refl
goes_to _ _ _ = refl

nowhere : (g : Scope) (x : Option Name) → fits_target g x None ≡ false
nowhere g None = refl
nowhere g (Some x) = refl

pub calls_one : (g : Scope) (x : Option Name) (s : Signature) (o : Option (List Scalar)) →
    fits_target g x (call_scalars word_sort_of (Some s) o) ≡ (may_take word_sort_of (kinds_of s.params) o && may_go_to g.names x s.result)
calls_one g x s None = nowhere g x
calls_one g x s (Some ss) = by_test (same_scalars (map word_sort_of (kinds_of s.params)) ss)
  where
    by_test : (b : Bool) → fits_target g x (cond b (Some (result_scalars word_sort_of s.result)) None) ≡ (b && may_go_to g.names x s.result)
    by_test true = goes_to g x s.result
    by_test false = nowhere g x
