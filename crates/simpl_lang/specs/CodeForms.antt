-- Words of the code that asks whether a unit is well-formed: what is in scope in a body, what a call asks, and what one
-- function's signature is asked.
use Rattle.std.specs.Prelude.{Bool, true, false, ◌&&◌, List, map, Option, Some, None}
use Rattle.c_values.specs.Name.{Name, same_name, are_distinct}
use Rattle.expression_lang.specs.declared.names.Names as N
use Rattle.expression_lang.specs.CodeSignature.{signature_of}
use Rattle.expression_lang.specs.CodeSort.{scope_of}
use Rattle.expression_lang.specs.Sort.{Scope, Scalar, Of, Kind, word_sort_of, are_kinds}
use Rattle.expression_lang.specs.Signature.{Signature, names_of, kinds_of}
use Rattle.simpl_lang.specs.Command.{SimplFn, SimplUnit}
use Rattle.simpl_lang.specs.Sorted as Sorted
use Rattle.program_sorts.specs.Sorts.{is_scalar_of}
use Rattle.simpl_lang.specs.Sorted.{same_level, come_first, holds_result, is_sorted, are_fns_sorted, are_signed}
use Rattle.simpl_lang.specs.declared.units.SimplUnit as U

-- the names, with the layout and the globals of the unit
abbrev pub scope_in : U.SimplUnit → N.Names → Scope
scope_in u names = scope_of u.layout names u.globals.items

abbrev pub signatures_in : U.SimplUnit → List Signature
signatures_in u = map signature_of u.signatures.items

-- a result may go to a local of its kind, or nowhere where there is none
abbrev pub may_go_to : (Name → Option Scalar) → Option Name → Option Kind → Bool
may_go_to names None None = true
may_go_to names (Some x) (Some k) = is_scalar_of (names x) (Some (Of (word_sort_of k)))
may_go_to names _ _ = false

-- a signature is the function's
abbrev pub is_signed : SimplFn → Signature → Bool
is_signed f s = same_name f.name s.name && same_level f.level s.level && come_first s.params f.locals && holds_result s.result f.locals

-- one function's locals are distinct and of kinds that are, and its body is well-sorted
abbrev pub is_fn_sorted : SimplUnit → SimplFn → Bool
is_fn_sorted u f = are_kinds (kinds_of f.locals) && are_distinct (names_of f.locals) && is_sorted (Sorted.scope_of u f) u.signatures f.body

-- all that is asked of a unit but of its layout
abbrev pub is_formed : SimplUnit → Bool
is_formed u =
    are_distinct (map (λ v. v.name) u.globals) && are_distinct (map (λ f. f.name) u.functions) && are_signed u.functions u.signatures
    && are_fns_sorted u u.functions
