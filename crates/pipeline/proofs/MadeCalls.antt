-- A generated function that calls lifted functions alone calls functions of the unit that are lifted.
use Rattle.std.proofs.Common.{◌≡◌, Bool, true, false, cond, ◌&&◌, List, [], ◌∷◌, Option, Some, None, refl, sym, ap, ◌∙◌}
use Rattle.std.proofs.lemmas.Bool.{false≢true, and_parts, and_from}
use Rattle.c_values.specs.Name.{Name, same_name}
use Rattle.c_values.specs.Layout.{Layout}
use Rattle.c_values.proofs.Laid.{name_is}
use Rattle.c_values.proofs.Options.{some_is, none_is}
use Rattle.expression_lang.specs.Sort.{Level, is_lifted, Scalar, Scope, is_truth, word_sort_of}
use Rattle.expression_lang.specs.Signature.{Signature, signature}
use Rattle.expression_lang.specs.Sorted.{program_sort, scalars_of, call_scalars}
use Rattle.simpl_lang.specs.Command.{Simpl, Seq, Cond, Guard, Catch, While, Call}
use Rattle.simpl_lang.specs.Sorted.{are_conditions, fits_target, is_sorted}
use Rattle.c_lang.specs.Typed.{TypedFn}
use Rattle.generation.specs.Generate.{signature_of}
use Rattle.pipeline.proofs.CallsForHeaps.{CallsOnly}
use Rattle.acceptance.specs.Accepted.{calls_only, is_lifted_there}
use Rattle.pipeline.proofs.Signed.{signed}

-- a generated signature is at the level of its name
pub level_there : (l : Layout) (levels : Name → Level) (fs : List TypedFn) (x : Name) (s : Signature) →
    signature (signed l levels fs) x ≡ Some s → is_lifted s.level ≡ is_lifted (levels x)
level_there l levels [] x s e = none_is e
level_there l levels (f ∷ fs) x s e = by_test (same_name f.name x) refl e (level_there l levels fs x s)
  where
    by_test : (b : Bool) → same_name f.name x ≡ b →
        cond b (Some (signature_of l (levels f.name) f)) (signature (signed l levels fs) x) ≡ Some s →
        (signature (signed l levels fs) x ≡ Some s → is_lifted s.level ≡ is_lifted (levels x)) →
        is_lifted s.level ≡ is_lifted (levels x)
    by_test true n h rest =
        ap (λ (t : Signature). is_lifted t.level) (sym (some_is h)) ∙ ap (λ y. is_lifted (levels y)) (name_is f.name x n)
    by_test false n h rest = rest h

module _ (g : Scope) (sigs : List Signature) (levels : Name → Level)
    (there : (x : Name) (s : Signature) → signature sigs x ≡ Some s → is_lifted s.level ≡ is_lifted (levels x)) where
  callee : (x : Option Name) (f : Name) (ss : Option (List Scalar)) (o : Option Signature) → signature sigs f ≡ o →
      fits_target g x (call_scalars word_sort_of o ss) ≡ true → is_lifted (levels f) ≡ true → is_lifted_there o ≡ true
  callee x f ss (Some s) e h k = there f s e ∙ k
  callee None f ss None e h k = absurd (false≢true h)
  callee (Some x) f ss None e h k = absurd (false≢true h)

  -- each call of a well-sorted command is of a function that is there
  pub calls_there : (a : Simpl) → is_sorted g sigs a ≡ true → CallsOnly (λ x. is_lifted (levels x)) a →
      calls_only (λ x. is_lifted_there (signature sigs x)) a ≡ true
  calls_there (Seq a b) h k =
      let p = and_parts (is_sorted g sigs a) (is_sorted g sigs b) h in
      and_from _ _ (calls_there a p.0 k.0) (calls_there b p.1 k.1)
  calls_there (Cond e a b) h k =
      let p = and_parts (is_truth (program_sort g e) && is_sorted g sigs a) (is_sorted g sigs b) h in
      let q = and_parts (is_truth (program_sort g e)) (is_sorted g sigs a) p.0 in
      and_from _ _ (calls_there a q.1 k.0) (calls_there b p.1 k.1)
  calls_there (Guard c a) h k = calls_there a (and_parts (is_truth (program_sort g c.exp)) (is_sorted g sigs a) h).1 k
  calls_there (Catch a b) h k =
      let p = and_parts (is_sorted g sigs a) (is_sorted g sigs b) h in
      and_from _ _ (calls_there a p.0 k.0) (calls_there b p.1 k.1)
  calls_there (While cs e a) h k =
      calls_there a (and_parts (are_conditions g cs && is_truth (program_sort g e)) (is_sorted g sigs a) h).1 k
  calls_there (Call x f es) h k = callee x f (scalars_of g es) (signature sigs f) refl h k
  calls_there _ _ _ = refl
