-- The ends of lists that are left, and sequences, a pair of their parts more.
use Rattle.std.proofs.Common.{◌≡◌, List, [], ◌∷◌, ◌++◌, refl, ap, sym, ◌∙◌}
use Rattle.c_values.specs.Name.{Name}
use Rattle.ac_sx.specs.Writing.{Writing, written, all_written}
use Rattle.expression_text.specs.Lists.{names_tree}
use Rattle.monad_lang.specs.Program.{Mon, Bind}
use Rattle.program_text.specs.MonText.{mon_tree, sequence_parts}
use Rattle.program_text.specs.CodeWriting.{lists_left}

module _ {S : Type 0} (w : Writing S) where
  pub lists_left_push : {A : Type 0} (xs : List A) (x : A) (s : S) → lists_left w (xs ++ x ∷ []) s ≡ lists_left w xs (w.left s)
  lists_left_push [] x s = refl
  lists_left_push (y ∷ ys) x s = ap w.left (lists_left_push ys x s)

  pub sequence_written : (old mid new : S) (first : Mon) (ns : List Name) (last rest : Mon) (whole : S) → mid ≡ written w old (names_tree ns) → new ≡ written w mid (mon_tree first) → rest ≡ Bind first ns last →
      all_written w old (sequence_parts rest) ≡ whole → all_written w new (sequence_parts last) ≡ whole
  sequence_written old mid new first ns last rest whole named run is so_far =
      ap (λ s. all_written w s (sequence_parts last)) (run ∙ ap (λ s. written w s (mon_tree first)) named)
      ∙ ap (λ m. all_written w old (sequence_parts m)) (sym is)
      ∙ so_far
