-- Units whose exceptions are eliminated: the rules take a unit there, and what a well-formed unit becomes is flat and
-- well-formed.
use Rattle.std.proofs.Common.{◌≡◌, true, ◌&&◌, List, [], ◌∷◌, map, refl, ap, ◌∙◌}
use Rattle.std.proofs.lemmas.Bool.{and_parts, and_from}
use Rattle.c_values.specs.Name.{same_name, are_distinct}
use Rattle.expression_lang.specs.Sort.{BoolKind, are_kinds}
use Rattle.expression_lang.specs.Signature.{Signature, names_of, kinds_of}
use Rattle.simpl_lang.specs.Command.{SimplFn, SimplUnit}
use Rattle.simpl_lang.specs.Flag.{thrown_local, LeavesFlag, AllLeaveFlag, HasUnusedFlag}
use Rattle.simpl_lang.specs.Sorted.{is_sorted, scope_of, are_fns_sorted, are_signed, IsWellFormed}
use Rattle.simpl_lang.specs.Sorted.{same_level, come_first, holds_result}
use Rattle.rule_exn.specs.Eliminated.{exceptions_eliminated}
use Rattle.rule_exn.specs.Units.{AreTakenTo, IsUnitTakenTo}
use Rattle.rule_exn.proofs.EliminatedTaken.{eliminated_taken, eliminated_flat}
use Rattle.rule_exn.proofs.EliminatedSorted.{eliminated_sorted}
use Rattle.rule_local.specs.Lifted.{AllFlat}
use Rattle.pipeline.specs.Ready.{function_eliminated, unit_eliminated}
use Rattle.pipeline.proofs.LocalsKnown.{locals_known}

functions_taken : (fs : List SimplFn) → AreTakenTo fs (map function_eliminated fs)
functions_taken [] = tt
functions_taken (f ∷ fs) = (
  record {
    name = refl;
    locals = refl;
    level = refl;
    tree = (exceptions_eliminated f.body).tree;
    takes = eliminated_taken f.body;
  },
  functions_taken fs,
)

pub unit_taken : (g : SimplUnit) → IsUnitTakenTo g (unit_eliminated g)
unit_taken g = record { layout = refl; globals = refl; signatures = refl; functions = functions_taken g.functions }

all_flat : (fs : List SimplFn) → AllFlat (map function_eliminated fs)
all_flat [] = tt
all_flat (f ∷ fs) = (eliminated_flat f.body, all_flat fs)

pub unit_flat : (g : SimplUnit) → AllFlat (unit_eliminated g).functions
unit_flat g = all_flat g.functions

names_stay : (fs : List SimplFn) → map (λ f. f.name) (map function_eliminated fs) ≡ map (λ f. f.name) fs
names_stay [] = refl
names_stay (f ∷ fs) = ap (λ xs. f.name ∷ xs) (names_stay fs)

still_signed : (fs : List SimplFn) (ss : List Signature) → are_signed (map function_eliminated fs) ss ≡ are_signed fs ss
still_signed [] [] = refl
still_signed [] (s ∷ ss) = refl
still_signed (f ∷ fs) [] = refl
still_signed (f ∷ fs) (s ∷ ss) =
    ap (λ b. same_name f.name s.name && same_level f.level s.level && come_first s.params f.locals
    && holds_result s.result f.locals && b) (still_signed fs ss)

module _ (g : SimplUnit) where
  body_sorted : (f : SimplFn) → are_kinds (kinds_of f.locals) ≡ true → are_distinct (names_of f.locals) ≡ true →
      is_sorted (scope_of g f) g.signatures f.body ≡ true → LeavesFlag f →
      is_sorted (scope_of g f) g.signatures (exceptions_eliminated f.body).right ≡ true
  body_sorted f kinds distinct sorted leaves =
      eliminated_sorted (scope_of g f) g.signatures
      ((locals_known f.locals [] [] kinds distinct (λ x o. refl)).kinds thrown_local BoolKind leaves.is_truth).0 f.body sorted

  still_sorted : (fs : List SimplFn) → are_fns_sorted g fs ≡ true → AllLeaveFlag fs →
      are_fns_sorted (unit_eliminated g) (map function_eliminated fs) ≡ true
  still_sorted [] h leave = refl
  still_sorted (f ∷ fs) h leave =
      let p = and_parts (are_kinds (kinds_of f.locals) && are_distinct (names_of f.locals)
      && is_sorted (scope_of g f) g.signatures f.body) (are_fns_sorted g fs) h in
      let q = and_parts (are_kinds (kinds_of f.locals) && are_distinct (names_of f.locals))
      (is_sorted (scope_of g f) g.signatures f.body) p.0 in
      let r = and_parts (are_kinds (kinds_of f.locals)) (are_distinct (names_of f.locals)) q.0 in
      and_from _ _ (and_from _ _ q.0 (body_sorted f r.0 r.1 q.1 leave.0)) (still_sorted fs p.1 leave.1)

pub unit_formed : (g : SimplUnit) → IsWellFormed g → HasUnusedFlag g → IsWellFormed (unit_eliminated g)
unit_formed g h flag = record {
  layout = h.layout;
  globals = h.globals;
  names = ap are_distinct (names_stay g.functions) ∙ h.names;
  signatures = still_signed g.functions g.signatures ∙ h.signatures;
  functions = still_sorted g g.functions h.functions flag.functions;
}
