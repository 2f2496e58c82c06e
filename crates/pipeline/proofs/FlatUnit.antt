-- The unit of flat commands that an accepted certificate makes: the rules take the unit there, and it is well-formed if the
-- unit is.
use Rattle.std.proofs.Common.{◌≡◌, true, ◌&&◌, List, [], ◌∷◌, map, refl, ap, ◌∙◌}
use Rattle.std.proofs.lemmas.Bool.{and_parts, and_from}
use Rattle.c_values.specs.Name.{same_name, are_distinct}
use Rattle.expression_lang.specs.Sort.{are_kinds}
use Rattle.expression_lang.specs.Signature.{Signature, names_of, kinds_of}
use Rattle.simpl_lang.specs.Command.{SimplFn, SimplUnit}
use Rattle.simpl_lang.specs.Form.{is_flat}
use Rattle.simpl_lang.specs.Sorted.{same_level, come_first, holds_result, is_sorted, scope_of, are_fns_sorted, are_signed, IsWellFormed}
use Rattle.rule_exn.specs.Units.{AreTakenTo, IsUnitTakenTo}
use Rattle.acceptance.specs.Certificate.{Steps}
use Rattle.acceptance.specs.Accepted.{is_command, AreFunctionsAccepted, IsAccepted}
use Rattle.pipeline.specs.Units.{flat_functions, flat_unit}

module _ (u : SimplUnit) where
  functions_taken : (fs : List SimplFn) (ss : List Signature) (cs : List Steps) → AreFunctionsAccepted u fs ss cs →
      AreTakenTo fs (flat_functions fs cs)
  functions_taken [] [] [] h = tt
  functions_taken (f ∷ fs) (s ∷ ss) (c ∷ cs) h = (
    record {
      name = refl;
      locals = refl;
      level = refl;
      tree = c.exception.tree;
      takes = h.0.exception.takes;
    },
    functions_taken fs ss cs h.1,
  )
  functions_taken _ _ _ h = absurd h

  names_stay : (fs : List SimplFn) (ss : List Signature) (cs : List Steps) → AreFunctionsAccepted u fs ss cs →
      map (λ f. f.name) (flat_functions fs cs) ≡ map (λ f. f.name) fs
  names_stay [] [] [] h = refl
  names_stay (f ∷ fs) (s ∷ ss) (c ∷ cs) h = ap (λ xs. f.name ∷ xs) (names_stay fs ss cs h.1)
  names_stay _ _ _ h = absurd h

  still_signed : (fs : List SimplFn) (ss : List Signature) (cs : List Steps) → AreFunctionsAccepted u fs ss cs →
      are_signed (flat_functions fs cs) ss ≡ are_signed fs ss
  still_signed [] [] [] h = refl
  still_signed (f ∷ fs) (s ∷ ss) (c ∷ cs) h =
      ap (λ b. same_name f.name s.name && same_level f.level s.level && come_first s.params f.locals
      && holds_result s.result f.locals && b) (still_signed fs ss cs h.1)
  still_signed _ _ _ h = absurd h

  still_sorted : (all : List Steps) (fs : List SimplFn) (ss : List Signature) (cs : List Steps) →
      AreFunctionsAccepted u fs ss cs → are_fns_sorted u fs ≡ true →
      are_fns_sorted (flat_unit u all) (flat_functions fs cs) ≡ true
  still_sorted all [] [] [] h k = refl
  still_sorted all (f ∷ fs) (s ∷ ss) (c ∷ cs) h k =
      let p = and_parts (are_kinds (kinds_of f.locals) && are_distinct (names_of f.locals)
      && is_sorted (scope_of u f) u.signatures f.body) (are_fns_sorted u fs) k in
      let q = and_parts (are_kinds (kinds_of f.locals) && are_distinct (names_of f.locals))
      (is_sorted (scope_of u f) u.signatures f.body) p.0 in
      let a = and_parts (is_command u f c.exception.program) (is_flat c.exception.program) h.0.exception.formed in
      and_from _ _ (and_from _ _ q.0 a.0) (still_sorted all fs ss cs h.1 p.1)
  still_sorted all _ _ _ h k = absurd h

pub flat_taken : (u : SimplUnit) (cs : List Steps) → IsAccepted u cs → IsUnitTakenTo u (flat_unit u cs)
flat_taken u cs h = record {
  layout = refl;
  globals = refl;
  signatures = refl;
  functions = functions_taken u u.functions u.signatures cs h;
}

pub flat_formed : (u : SimplUnit) (cs : List Steps) → IsAccepted u cs → IsWellFormed u → IsWellFormed (flat_unit u cs)
flat_formed u cs h formed = record {
  layout = formed.layout;
  globals = formed.globals;
  names = ap are_distinct (names_stay u u.functions u.signatures cs h) ∙ formed.names;
  signatures = still_signed u u.functions u.signatures cs h ∙ formed.signatures;
  functions = still_sorted u cs u.functions u.signatures cs h formed.functions;
}
