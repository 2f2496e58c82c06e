-- The function and the signature at one position are of one name, and are found by it.
use Rattle.std.proofs.Common.{◌≡◌, ℕ, zero, suc, ◌<◌, Bool, true, false, not, ◌&&◌, ◌||◌, List, [], ◌∷◌, length, get_or, map, Option, Some, refl, sym, ap, ◌∙◌, subst, arith}
use Rattle.std.proofs.lemmas.Bool.{and_parts, false≢true, not-true, cond-true, cond-false}
use Rattle.std.specs.Prelude.{string_bytes, Result, Ok, Err, IfOk}
use Rattle.std.specs.Option.{IsSomeAnd}
use Rattle.correspondence.specs.Outcome.{Ends}
use Rattle.c_values.specs.declared.values.Value as V
use Rattle.expression_lang.specs.GuardKind.{GuardKind}
use Rattle.expression_lang.specs.Machine.{Returned}
use Rattle.simpl_lang.specs.declared.units.SimplUnit as U
use Rattle.command_runs.specs.declared.ends.Stop as P
use Rattle.command_runs.specs.declared.outcome.CState as C
use Rattle.c_values.specs.Name.{same_name, is_among, are_distinct}
use Rattle.c_values.proofs.Laid.{name_is, same_name-refl}
use Rattle.expression_lang.specs.declared.signatures.Signature as G
use Rattle.expression_lang.specs.Signature.{Signature, signature}
use Rattle.expression_lang.specs.CodeSignature.{signature_of}
use Rattle.simpl_lang.specs.declared.units.SimplFn as F
use Rattle.simpl_lang.specs.Command.{SimplFn, simpl_fn}
use Rattle.simpl_lang.specs.Sorted.{same_level, come_first, holds_result, are_signed}
use Rattle.simpl_lang.specs.CodeCommand.{simpl_fn_of}
use Rattle.command_runs.specs.CodeRun.{HasReturned, IsStateOf, outcome_of, IsEnd, OnLasting}
use Rattle.global_changes.proofs.Indexed.{apart}

-- a name that stands at a place is among the names

among_at : (fs : List F.SimplFn) (k : ℕ) (f : F.SimplFn) → k < length fs → f ≡ get_or fs k f → is_among (string_bytes f.name) (map (λ h. h.name) (map simpl_fn_of fs)) ≡ true
among_at [] k f lt e = absurd (omega arith)
among_at (g ∷ fs) zero f lt e =
    let same : same_name (string_bytes f.name) (string_bytes g.name) ≡ true = ap (λ h. same_name (string_bytes f.name) (string_bytes h.name)) (sym e) ∙ same_name-refl (string_bytes f.name) in
    either (same_name (string_bytes f.name) (string_bytes g.name)) _ same
  where
    either : (a b : Bool) → a ≡ true → (a || b) ≡ true
    either true b h = refl
    either false b h = absurd (false≢true h)
among_at (g ∷ fs) (suc k) f lt e = later (same_name (string_bytes f.name) (string_bytes g.name)) _ (among_at fs k f (omega arith) e)
  where
    later : (a b : Bool) → b ≡ true → (a || b) ≡ true
    later true b h = refl
    later false b h = h

pub function_at : (fs : List F.SimplFn) (k : ℕ) (f : F.SimplFn) → are_distinct (map (λ h. h.name) (map simpl_fn_of fs)) ≡ true → k < length fs → f ≡ get_or fs k f →
    simpl_fn (map simpl_fn_of fs) (string_bytes f.name) ≡ Some (simpl_fn_of f)
function_at [] k f d lt e = absurd (omega arith)
function_at (g ∷ fs) zero f d lt e =
    cond-true (same_name (string_bytes g.name) (string_bytes f.name)) (Some (simpl_fn_of g)) (simpl_fn (map simpl_fn_of fs) (string_bytes f.name)) (ap (λ h. same_name (string_bytes h.name) (string_bytes f.name)) (sym e) ∙ same_name-refl (string_bytes f.name))
    ∙ ap (λ h. Some (simpl_fn_of h)) (sym e)
function_at (g ∷ fs) (suc k) f d lt e =
    let p = and_parts (not (is_among (string_bytes g.name) (map (λ h. h.name) (map simpl_fn_of fs)))) (are_distinct (map (λ h. h.name) (map simpl_fn_of fs))) d in
    let lt' : k < length fs = omega arith in
    cond-false (same_name (string_bytes g.name) (string_bytes f.name)) (Some (simpl_fn_of g)) (simpl_fn (map simpl_fn_of fs) (string_bytes f.name))
    (apart (string_bytes g.name) (string_bytes f.name) (map (λ h. h.name) (map simpl_fn_of fs)) (not-true _ p.0) (among_at fs k f lt' e))
    ∙ function_at fs k f p.1 lt' e

first_signed : (f : SimplFn) (fs : List SimplFn) (r : Signature) (ss : List Signature) → are_signed (f ∷ fs) (r ∷ ss) ≡ true → (same_name f.name r.name ≡ true) × (are_signed fs ss ≡ true)
first_signed f fs r ss h =
    let p = and_parts (((same_name f.name r.name && same_level f.level r.level) && come_first r.params f.locals) && holds_result r.result f.locals) (are_signed fs ss) h in
    let q = and_parts ((same_name f.name r.name && same_level f.level r.level) && come_first r.params f.locals) (holds_result r.result f.locals) p.0 in
    let d = and_parts (same_name f.name r.name && same_level f.level r.level) (come_first r.params f.locals) q.0 in
    ((and_parts (same_name f.name r.name) (same_level f.level r.level) d.0).0, p.1)

pub signature_at : (fs : List F.SimplFn) (ss : List G.Signature) (k : ℕ) (f : F.SimplFn) (s : G.Signature) → are_distinct (map (λ h. h.name) (map simpl_fn_of fs)) ≡ true →
    are_signed (map simpl_fn_of fs) (map signature_of ss) ≡ true → k < length fs → f ≡ get_or fs k f → s ≡ get_or ss k s → signature (map signature_of ss) (string_bytes f.name) ≡ Some (signature_of s)
signature_at [] ss k f s d h lt e q = absurd (omega arith)
signature_at (g ∷ fs) [] k f s d h lt e q = absurd (false≢true h)
signature_at (g ∷ fs) (r ∷ ss) zero f s d h lt e q =
    let w = first_signed (simpl_fn_of g) (map simpl_fn_of fs) (signature_of r) (map signature_of ss) h in
    let same : string_bytes f.name ≡ string_bytes r.name = ap (λ i. string_bytes i.name) e ∙ name_is (string_bytes g.name) (string_bytes r.name) w.0 in
    cond-true (same_name (string_bytes r.name) (string_bytes f.name)) (Some (signature_of r)) (signature (map signature_of ss) (string_bytes f.name))
    (subst (λ n. same_name (string_bytes r.name) n ≡ true) (sym same) (same_name-refl (string_bytes r.name)))
    ∙ ap (λ i. Some (signature_of i)) (sym q)
signature_at (g ∷ fs) (r ∷ ss) (suc k) f s d h lt e q =
    let w = first_signed (simpl_fn_of g) (map simpl_fn_of fs) (signature_of r) (map signature_of ss) h in
    let p = and_parts (not (is_among (string_bytes g.name) (map (λ i. i.name) (map simpl_fn_of fs)))) (are_distinct (map (λ i. i.name) (map simpl_fn_of fs))) d in
    let lt' : k < length fs = omega arith in
    let other = apart (string_bytes g.name) (string_bytes f.name) (map (λ i. i.name) (map simpl_fn_of fs)) (not-true _ p.0) (among_at fs k f lt' e) in
    cond-false (same_name (string_bytes r.name) (string_bytes f.name)) (Some (signature_of r)) (signature (map signature_of ss) (string_bytes f.name))
    (subst (λ n. same_name n (string_bytes f.name) ≡ false) (name_is (string_bytes g.name) (string_bytes r.name) w.0) other)
    ∙ signature_at fs ss k f s p.1 w.1 lt' e q

pub same_count : (fs : List SimplFn) (ss : List Signature) → are_signed fs ss ≡ true → length fs ≡ length ss
same_count [] [] h = refl
same_count [] (s ∷ ss) h = absurd (false≢true h)
same_count (f ∷ fs) [] h = absurd (false≢true h)
same_count (f ∷ fs) (s ∷ ss) h =
    ap suc (same_count fs ss (and_parts (((same_name f.name s.name && same_level f.level s.level) && come_first s.params f.locals) && holds_result s.result f.locals) (are_signed fs ss) h).1)

-- what lies at a place of a list

pub some_and : {X : Type 0} (P : X → Type 0) (o : Option X) (x : X) → o ≡ Some x → P x → IsSomeAnd o P
some_and P o x e h = subst (λ q. IsSomeAnd q P) (sym e) h

pub and_some : {X : Type 0} (P : X → Type 0) (o : Option X) (x : X) → o ≡ Some x → IsSomeAnd o P → P x
and_some P o x e h = subst (λ q. IsSomeAnd q P) e h

pub returned_lasts : (u : U.SimplUnit) (r : Result (Option V.Value) P.Stop) (s : C.CState) → IfOk r (λ v. IsStateOf u s) → OnLasting u (outcome_of r s)
returned_lasts u (Ok v) s h = h
returned_lasts u (Err (P.TheVariants.Guard k)) s h = tt
returned_lasts _ _ _ _ = tt

pub returned_end : (u : U.SimplUnit) (ends : Ends Returned GuardKind) (r : Result (Option V.Value) P.Stop) (s : C.CState) → HasReturned u ends r s → IsEnd u ends (outcome_of r s)
returned_end u ends (Err P.TheVariants.Memory) s h = tt
returned_end _ _ _ _ h = h
