-- What takes exceptions out is well-sorted where the command was and the flag is a truth value.
use Rattle.std.proofs.Common.{◌≡◌, Bool, true, false, cond, ◌&&◌, List, [], ◌∷◌, Option, Some, None, refl, ap, ◌∙◌}
use Rattle.std.proofs.lemmas.Bool.{and_parts, and_from}
use Rattle.expression_lang.specs.Expression.{Exp, TruthLit, And, Imp, Not}
use Rattle.expression_lang.specs.Form.{has, is_part_of_value}
use Rattle.expression_lang.specs.Sort.{Scope, TruthSort, Sort, is_truth, truth_sort, scalar_sort, sort_of, where_holds}
use Rattle.expression_lang.specs.Sorted.{program_sort}
use Rattle.expression_lang.specs.Signature.{Signature}
use Rattle.simpl_lang.specs.Command.{Condition, Simpl, Skip, Throw, Set, Seq, Cond, Guard, Catch, While}
use Rattle.simpl_lang.specs.Flag.{thrown_local}
use Rattle.program_sorts.specs.Sorts.{is_scalar_of}
use Rattle.simpl_lang.specs.Sorted.{is_sorted, are_conditions}
use Rattle.rule_exn.specs.Quiet.{quiet}
use Rattle.rule_exn.specs.Table.{is_thrown, cleared, unless_thrown}
use Rattle.rule_exn.specs.Eliminated.{Eliminated, exceptions_eliminated, in_sequence, caught, repeated}

-- what joins a truth value to one that is there is one, too
joined_truth : (b : Bool) (o : Option Sort) → is_truth (cond b None o) ≡ true → is_truth (cond b None (where_holds (is_truth o) truth_sort)) ≡ true
joined_truth true o h = h
joined_truth false o h = ap (λ t. is_truth (where_holds t truth_sort)) h

module _ (g : Scope) (sigs : List Signature) (flag : g.names thrown_local ≡ Some TruthSort) where
  thrown_sorted : is_truth (program_sort g is_thrown) ≡ true
  thrown_sorted = ap (λ o. is_truth (scalar_sort o)) flag

  set_sorted : (b : Bool) → is_sorted g sigs (Set thrown_local (TruthLit b)) ≡ true
  set_sorted b = ap (λ o. is_scalar_of o truth_sort) flag

  imp_sorted : (e : Exp) → is_truth (program_sort g e) ≡ true → is_truth (program_sort g (Imp (Not is_thrown) e)) ≡ true
  imp_sorted e h =
      ap (λ o. is_truth (cond (has is_part_of_value e) None (where_holds (is_truth (where_holds (is_truth (scalar_sort o)) truth_sort) && is_truth (sort_of g e)) truth_sort))) flag
      ∙ joined_truth (has is_part_of_value e) (sort_of g e) h

  and_sorted : (e : Exp) → is_truth (program_sort g e) ≡ true → is_truth (program_sort g (And (Not is_thrown) e)) ≡ true
  and_sorted e h =
      ap (λ o. is_truth (cond (has is_part_of_value e) None (where_holds (is_truth (where_holds (is_truth (scalar_sort o)) truth_sort) && is_truth (sort_of g e)) truth_sort))) flag
      ∙ joined_truth (has is_part_of_value e) (sort_of g e) h

  unless_sorted : (cs : List Condition) → are_conditions g cs ≡ true → are_conditions g (unless_thrown cs) ≡ true
  unless_sorted [] h = refl
  unless_sorted (c ∷ cs) h =
      let p = and_parts (is_truth (program_sort g c.exp)) (are_conditions g cs) h in
      and_from (is_truth (program_sort g (Imp (Not is_thrown) c.exp))) (are_conditions g (unless_thrown cs)) (imp_sorted c.exp p.0) (unless_sorted cs p.1)

  abbrev IsSorted : Simpl → Type 0
  IsSorted a = is_sorted g sigs a ≡ true

  pair_sorted : (a b : Simpl) → IsSorted a → IsSorted b → IsSorted (Seq a b)
  pair_sorted a b h k = and_from (is_sorted g sigs a) (is_sorted g sigs b) h k

  choice_sorted : (e : Exp) (a b : Simpl) → is_truth (program_sort g e) ≡ true → IsSorted a → IsSorted b → IsSorted (Cond e a b)
  choice_sorted e a b h k d =
      and_from (is_truth (program_sort g e) && is_sorted g sigs a) (is_sorted g sigs b) (and_from (is_truth (program_sort g e)) (is_sorted g sigs a) h k) d

  loop_sorted : (cs : List Condition) (e : Exp) (a : Simpl) → are_conditions g cs ≡ true → is_truth (program_sort g e) ≡ true → IsSorted a → IsSorted (While cs e a)
  loop_sorted cs e a h k d =
      and_from (are_conditions g cs && is_truth (program_sort g e)) (is_sorted g sigs a) (and_from (are_conditions g cs) (is_truth (program_sort g e)) h k) d

  seq_sorted : (q : Bool) (r s : Eliminated) → IsSorted r.right → IsSorted s.right → IsSorted (in_sequence q r s).right
  seq_sorted true r s h k = pair_sorted r.right s.right h k
  seq_sorted false r s h k = pair_sorted r.right (Cond is_thrown Skip s.right) h (choice_sorted is_thrown Skip s.right thrown_sorted refl k)

  catch_sorted : (q : Bool) (b : Simpl) (r s : Eliminated) → IsSorted r.right → IsSorted s.right → IsSorted (caught q b r s).right
  catch_sorted true b r s h k = h
  catch_sorted false Skip r s h k = pair_sorted r.right cleared h (set_sorted false)
  catch_sorted false b r s h k =
      pair_sorted r.right (Cond is_thrown (Seq cleared s.right) Skip) h
      (choice_sorted is_thrown (Seq cleared s.right) Skip thrown_sorted (pair_sorted cleared s.right (set_sorted false) k) refl)

  while_sorted : (q : Bool) (cs : List Condition) (e : Exp) (r : Eliminated) → are_conditions g cs ≡ true → is_truth (program_sort g e) ≡ true → IsSorted r.right → IsSorted (repeated q cs e r).right
  while_sorted true cs e r h k d = loop_sorted cs e r.right h k d
  while_sorted false cs e r h k d = loop_sorted (unless_thrown cs) (And (Not is_thrown) e) r.right (unless_sorted cs h) (and_sorted e k) d

  pub eliminated_sorted : (a : Simpl) → IsSorted a → IsSorted (exceptions_eliminated a).right
  eliminated_sorted Skip h = refl
  eliminated_sorted Throw h = set_sorted true
  eliminated_sorted (Seq a b) h =
      let p = and_parts (is_sorted g sigs a) (is_sorted g sigs b) h in seq_sorted (quiet a) _ _ (eliminated_sorted a p.0) (eliminated_sorted b p.1)
  eliminated_sorted (Cond e a b) h =
      let p = and_parts (is_truth (program_sort g e) && is_sorted g sigs a) (is_sorted g sigs b) h in
      let q = and_parts (is_truth (program_sort g e)) (is_sorted g sigs a) p.0 in
      choice_sorted e (exceptions_eliminated a).right (exceptions_eliminated b).right q.0 (eliminated_sorted a q.1) (eliminated_sorted b p.1)
  eliminated_sorted (Guard c a) h =
      let p = and_parts (is_truth (program_sort g c.exp)) (is_sorted g sigs a) h in
      and_from (is_truth (program_sort g c.exp)) (is_sorted g sigs (exceptions_eliminated a).right) p.0 (eliminated_sorted a p.1)
  eliminated_sorted (Catch a b) h =
      let p = and_parts (is_sorted g sigs a) (is_sorted g sigs b) h in catch_sorted (quiet a) b _ _ (eliminated_sorted a p.0) (eliminated_sorted b p.1)
  eliminated_sorted (While cs e a) h =
      let p = and_parts (are_conditions g cs && is_truth (program_sort g e)) (is_sorted g sigs a) h in
      let q = and_parts (are_conditions g cs) (is_truth (program_sort g e)) p.0 in
      while_sorted (quiet a) cs e _ q.0 q.1 (eliminated_sorted a p.1)
  eliminated_sorted _ h = h
