-- The rules take a well-formed flat unit to what its locals are lifted to.
use Rattle.std.proofs.Common.{◌≡◌, Bool, true, false, cond, ◌&&◌, List, [], ◌∷◌, Option, Some, None, refl, sym, subst, ap}
use Rattle.std.proofs.lemmas.Bool.{false≢true, and_parts, or_left, or_right}
use Rattle.c_values.specs.Name.{Name, same_name, is_among, are_distinct}
use Rattle.c_values.proofs.Laid.{name_is, same_name-refl}
use Rattle.expression_lang.specs.Sort.{Kind, are_kinds}
use Rattle.expression_lang.specs.Signature.{Binder, Signature, names_of, kinds_of}
use Rattle.simpl_lang.specs.Command.{SimplFn, SimplUnit, kind_of}
use Rattle.simpl_lang.specs.Exec.{result_local}
use Rattle.simpl_lang.specs.Sorted.{same_level, come_first, is_kind_of, holds_result, are_signed, is_sorted, scope_of, are_fns_sorted, IsWellFormed}
use Rattle.rule_local.specs.Units.{outputs_of, context_of, IsLiftedTo, AreLiftedTo, IsUnitLiftedTo}
use Rattle.rule_local.specs.Lifted.{in_words, locals_lifted, function_lifted, functions_lifted, unit_lifted, AllFlat}
use Rattle.rule_local.proofs.LiftedNames.{either}
use Rattle.rule_local.proofs.LiftedWhole.{locals_lifted_taken}
use Rattle.rule_local.proofs.InScope.{sorted_names_locals}

-- what has a kind is a local
kind_among : (bs : List Binder) (x : Name) (k : Kind) → is_kind_of k (kind_of bs x) ≡ true → is_among x (names_of bs) ≡ true
kind_among [] x k h = absurd (false≢true h)
kind_among (b ∷ bs) x k h = of (same_name b.name x) refl h (kind_among bs x k)
  where
    of : (t : Bool) → same_name b.name x ≡ t → is_kind_of k (cond t (Some b.kind) (kind_of bs x)) ≡ true → (is_kind_of k (kind_of bs x) ≡ true → is_among x (names_of bs) ≡ true) → is_among x (names_of (b ∷ bs)) ≡ true
    of true e j r = or_left (same_name x b.name) (is_among x (names_of bs)) (subst (λ z. same_name z b.name ≡ true) (name_is b.name x e) (same_name-refl b.name))
    of false e j r = or_right (same_name x b.name) (is_among x (names_of bs)) (r j)

-- the result is in a local
pub outputs_local : (k : Option Kind) (bs : List Binder) → holds_result k bs ≡ true → (y : Name) → is_among y (outputs_of k) ≡ true → is_among y (names_of bs) ≡ true
outputs_local None bs h y n = absurd (false≢true n)
outputs_local (Some k) bs h y n =
    either (same_name y result_local) false n (λ e. subst (λ z. is_among z (names_of bs) ≡ true) (sym (name_is y result_local e)) (kind_among bs result_local k h)) (λ e. absurd (false≢true e))

pub words_named : (bs : List Binder) → names_of (in_words bs) ≡ names_of bs
words_named [] = refl
words_named (b ∷ bs) = ap (λ xs. b.name ∷ xs) (words_named bs)

function_taken : (u : SimplUnit) (f : SimplFn) (s : Signature) → is_sorted (scope_of u f) u.signatures f.body ≡ true → AllFlat (f ∷ []) → same_name f.name s.name ≡ true → holds_result s.result f.locals ≡ true → IsLiftedTo f s (function_lifted f s)
function_taken u f s sorted flat named result = record {
  signed = sym (name_is f.name s.name named);
  name = refl;
  parameters = words_named s.params;
  tree = (locals_lifted (context_of f s) f.body (outputs_of s.result)).tree;
  takes = locals_lifted_taken (context_of f s) f.body (outputs_of s.result) flat.0 (λ y. sorted_names_locals u f y sorted) (outputs_local s.result f.locals result);
}

functions_taken : (u : SimplUnit) (fs : List SimplFn) (ss : List Signature) → are_fns_sorted u fs ≡ true → AllFlat fs → are_signed fs ss ≡ true → AreLiftedTo fs ss (functions_lifted fs ss)
functions_taken u [] [] h k j = tt
functions_taken u (f ∷ fs) (s ∷ ss) h k j =
    let p = and_parts (are_kinds (kinds_of f.locals) && are_distinct (names_of f.locals) && is_sorted (scope_of u f) u.signatures f.body) (are_fns_sorted u fs) h in
    let q = and_parts (same_name f.name s.name && same_level f.level s.level && come_first s.params f.locals && holds_result s.result f.locals) (are_signed fs ss) j in
    let r = and_parts (same_name f.name s.name && same_level f.level s.level && come_first s.params f.locals) (holds_result s.result f.locals) q.0 in
    let t = and_parts (same_name f.name s.name && same_level f.level s.level) (come_first s.params f.locals) r.0 in (
      function_taken u f s (and_parts (are_kinds (kinds_of f.locals) && are_distinct (names_of f.locals)) (is_sorted (scope_of u f) u.signatures f.body) p.0).1 (k.0, tt)
          (and_parts (same_name f.name s.name) (same_level f.level s.level) t.0).0 r.1,
      functions_taken u fs ss p.1 k.1 q.1,
    )
functions_taken u [] (s ∷ ss) h k j = absurd (false≢true j)
functions_taken u (f ∷ fs) [] h k j = absurd (false≢true j)

pub unit_is_taken : (u : SimplUnit) → IsWellFormed u → AllFlat u.functions → IsUnitLiftedTo u (unit_lifted u)
unit_is_taken u h k = record {
  layout = refl;
  globals = refl;
  functions = functions_taken u u.functions u.signatures h.functions k h.signatures;
}
