-- The same of programs.
use Rattle.std.proofs.Common.{◌≡◌, true, false, List, [], ◌∷◌, ◌++◌, map, Option, Some, None, refl, sym, subst, ap, ◌∙◌}
use Rattle.expression_lang.specs.Expression.{Exp}
use Rattle.expression_lang.specs.Sort.{Scalar, Of, Kind, WordKind, Scope, truth_sort, word_sort_of}
use Rattle.expression_lang.specs.Sorted.{program_sort, scalar_in, scalars_of, call_scalars}
use Rattle.expression_lang.specs.Signature.{Signature, signature}
use Rattle.expression_lang.proofs.SortParts.{program_sort_inv, scalar_in_inv}
use Rattle.monad_lang.specs.Program as M
use Rattle.monad_lang.specs.Program.{Mon, Start}
use Rattle.monad_lang.specs.Sorted.{scalars_given, start_scalars}
use Rattle.program_facts.specs.Places.{place_children}
use Rattle.rule_word.specs.Rule as R
use Rattle.rule_word.specs.Rule.{Rule, Context, Point, View, expression, program}
use Rattle.rule_word.specs.Scopes.{words, own}
use Rattle.rule_word.specs.Table.{each, owns, views_for, program_row, call_row}
use Rattle.rule_parts.specs.Starts.{start_exps}
use Rattle.rule_word.specs.CodeFits.{AreSorted, ClaimFits, AllFit, FitInTurn}
use Rattle.rule_word.specs.CodeClaims.{program_exps, program_looks, program_pairs, inside, program_thens, kinds_taken, is_flat}
use Rattle.rule_word.proofs.ProgramPartsFit.{parts_fit, looked_at_in, write_fits}
use Rattle.rule_word.proofs.ProgramsGive.{starts_given}
use Rattle.rule_word.proofs.ProgramSorts.{call_inv, loop_parts, scalar_first}
use Rattle.rule_word.proofs.Rows.{no_more, owns_map, own_is, AreReady}

module _ (ctx : Context) (at : Point) where
  abbrev g : Scope
  g = (words ctx at.names).scope

  each_none : (es : List Exp) (vs : List View) → [] ≡ each at es vs []
  each_none [] vs = refl
  each_none (e ∷ es) [] = refl
  each_none (e ∷ es) (v ∷ vs) = refl

  abbrev pub Parts : Rule → Mon → Mon → List Kind → Type 0
  Parts rule m m' ks = (program_row ctx at rule m m' ks).parts ≡ program_pairs ctx at rule m m' ks ++ program_thens (inside rule m at) rule m m' ks

  write_parts : (place place' : M.Place) (e e' : Exp) (ks : List Kind) →
      each at (place_children place ++ (e ∷ [])) (owns g (place_children place ++ (e ∷ []))) (place_children place' ++ (e' ∷ []))
      ≡ each at (place_children place ++ (e ∷ [])) (map (λ d. own g d) (place_children place ++ (e ∷ []))) (place_children place' ++ (e' ∷ [])) ++ []
  write_parts place place' e e' ks = ap (λ vs. each at (place_children place ++ (e ∷ [])) vs (place_children place' ++ (e' ∷ []))) (owns_map g (place_children place ++ (e ∷ []))) ∙ no_more _

  call_parts : (o : Option Signature) (es es' : List Exp) (ks : List Kind) → (call_row o at es es' ks).holds → (call_row o at es es' ks).parts ≡ each at es (views_for (kinds_taken o)) es' ++ []
  call_parts None es es' ks h = absurd h
  call_parts (Some f) es es' ks h = no_more _

  pub program_parts : (rule : Rule) (m m' : Mon) (ks : List Kind) → is_flat rule ≡ true → ClaimFits ctx (program at m m' ks) → (program_row ctx at rule m m' ks).holds → Parts rule m m' ks
  program_parts R.Ret (M.Ret es) (M.Ret es') ks i f h = no_more _
  program_parts R.Guard (M.Guard e) (M.Guard e') [] i f h = ap (λ v. expression at e v e' ∷ []) (sym (own_is g e truth_sort (parts_fit ctx R.Guard (program at (M.Guard e) (M.Guard e') []) f h tt).0))
  program_parts R.If (M.If e m n) (M.If e' m' n') ks i f h =
      ap (λ v. expression at e v e' ∷ program_thens at R.If (M.If e m n) (M.If e' m' n') ks) (sym (own_is g e truth_sort (parts_fit ctx R.If (program at (M.If e m n) (M.If e' m' n') ks) f h tt).0))
  program_parts R.Global (M.Write (M.Global x path) e) (M.Write p' e') [] i f h = write_parts (M.Global x path) p' e e' []
  program_parts R.Write (M.Write (M.Stored t p path) e) (M.Write p' e') [] i f h = write_parts (M.Stored t p path) p' e e' []
  program_parts R.Write (M.Write (M.Written t p path) e) (M.Write p' e') [] i f h = write_parts (M.Written t p path) p' e e' []
  program_parts R.Pick (M.Pick j) (M.Pick j') ks i f h = refl
  program_parts R.PickNat (M.Pick (WordKind n)) (M.Pick j') ks i f h = refl
  program_parts R.PickInt (M.Pick (WordKind n)) (M.Pick j') ks i f h = refl
  program_parts (R.Loop js) (M.Loop starts guard test m) (M.Loop starts' guard' test' m') ks i f h = refl
  program_parts R.Call (M.Call x es) (M.Call y es') ks i f h = call_parts (signature ctx.functions x) es es' ks h.1
  program_parts (R.Bind js) m m' ks i f h = absurd cc
  program_parts (R.Recast js) m m' ks i f h = absurd cc
  program_parts _ m m' ks i f h = absurd h

  each_sorted : (es : List Exp) (cs : List Scalar) → scalars_of g es ≡ Some cs → AreSorted g es
  each_sorted [] cs h = tt
  each_sorted (e ∷ es) cs h =
      let r = scalar_first (scalar_in (program_sort g e)) (scalars_of g es) cs h in
      ((Of r.0, program_sort_inv g e (Of r.0) (scalar_in_inv (program_sort g e) r.0 r.4)), each_sorted es r.1 r.3)

  call_sorted : (o : Option Signature) (es : List Exp) (cs : List Scalar) → call_scalars word_sort_of o (scalars_of g es) ≡ Some cs → AreSorted g es
  call_sorted None es cs q = absurd cc
  call_sorted (Some f) es cs q = each_sorted es _ (call_inv f (scalars_of g es) cs q).0

  write_ready : (place place' : M.Place) (e e' : Exp) → ClaimFits ctx (program at (M.Write place e) (M.Write place' e') []) →
      AllFit ctx (each at (place_children place ++ (e ∷ [])) (map (λ d. own g d) (place_children place ++ (e ∷ []))) (place_children place' ++ (e' ∷ [])))
  write_ready place place' e e' f =
      subst (λ vs. AllFit ctx (each at (place_children place ++ (e ∷ [])) vs (place_children place' ++ (e' ∷ [])))) (owns_map g (place_children place ++ (e ∷ [])))
      (write_fits ctx at place e (place_children place' ++ (e' ∷ [])) f.0 f.1)

  starts_sorted : (starts : List Start) (guard test : Exp) (m : Mon) (cs : List Scalar) → scalars_given (words ctx at.names) (M.Loop starts guard test m) ≡ Some cs → AreSorted g (start_exps starts)
  starts_sorted starts guard test m cs q =
      each_sorted (start_exps starts) cs (sym (starts_given ctx g starts) ∙ loop_parts (start_scalars g starts) _ _ cs q)

  pub program_ready : (rule : Rule) (m m' : Mon) (ks : List Kind) → is_flat rule ≡ true → ClaimFits ctx (program at m m' ks) → (program_row ctx at rule m m' ks).holds →
      AreReady ctx at (program_looks rule) (program_exps m) (program_pairs ctx at rule m m' ks)
  program_ready R.Ret (M.Ret es) (M.Ret es') ks i f h = each_sorted es f.0 f.1
  program_ready R.Guard (M.Guard e) (M.Guard e') [] i f h = let r = (parts_fit ctx R.Guard (program at (M.Guard e) (M.Guard e') []) f h tt).0 in ((r.0, r.1, r.1), tt)
  program_ready R.If (M.If e m n) (M.If e' m' n') ks i f h = let r = (parts_fit ctx R.If (program at (M.If e m n) (M.If e' m' n') ks) f h tt).0 in ((r.0, r.1, r.1), tt)
  program_ready R.Global (M.Write (M.Global x path) e) (M.Write p' e') [] i f h = write_ready (M.Global x path) p' e e' f
  program_ready R.Write (M.Write (M.Stored t p path) e) (M.Write p' e') [] i f h = write_ready (M.Stored t p path) p' e e' f
  program_ready R.Write (M.Write (M.Written t p path) e) (M.Write p' e') [] i f h = write_ready (M.Written t p path) p' e e' f
  program_ready R.Pick (M.Pick j) (M.Pick j') ks i f h = tt
  program_ready R.PickNat (M.Pick (WordKind n)) (M.Pick j') ks i f h = tt
  program_ready R.PickInt (M.Pick (WordKind n)) (M.Pick j') ks i f h = tt
  program_ready (R.Loop js) (M.Loop starts guard test m) (M.Loop starts' guard' test' m') ks i f h = starts_sorted starts guard test m f.0 f.1
  program_ready R.Call (M.Call x es) (M.Call y es') ks i f h = call_sorted (signature ctx.functions x) es f.0 f.1
  program_ready (R.Bind js) m m' ks i f h = absurd cc
  program_ready (R.Recast js) m m' ks i f h = absurd cc
  program_ready _ m m' ks i f h = absurd h

  in_turn : (rule : Rule) (m m' : Mon) (ks : List Kind) → is_flat rule ≡ true → ClaimFits ctx (program at m m' ks) → (program_row ctx at rule m m' ks).holds →
      AllFit ctx (looked_at_in ctx rule (program at m m' ks) (program_row ctx at rule m m' ks).parts) →
      FitInTurn ctx (program_pairs ctx at rule m m' ks ++ program_thens (inside rule m at) rule m m' ks)
  in_turn rule m m' ks i f h k = subst (λ cs. FitInTurn ctx cs) (program_parts rule m m' ks i f h) (parts_fit ctx rule (program at m m' ks) f h k)

  pub program_in_turn : (rule : Rule) (m m' : Mon) (ks : List Kind) → is_flat rule ≡ true → ClaimFits ctx (program at m m' ks) → (program_row ctx at rule m m' ks).holds →
      AllFit ctx (program_pairs ctx at rule m m' ks) → FitInTurn ctx (program_pairs ctx at rule m m' ks ++ program_thens (inside rule m at) rule m m' ks)
  program_in_turn R.Ret (M.Ret es) (M.Ret es') ks i f h k = in_turn R.Ret (M.Ret es) (M.Ret es') ks i f h k
  program_in_turn (R.Loop js) (M.Loop starts guard test m) (M.Loop starts' guard' test' m') ks i f h k =
      in_turn (R.Loop js) (M.Loop starts guard test m) (M.Loop starts' guard' test' m') ks i f h k
  program_in_turn R.Ret m m' ks i f h k = absurd h
  program_in_turn (R.Loop js) m m' ks i f h k = absurd h
  program_in_turn rule m m' ks i f h k = in_turn rule m m' ks i f h tt

  -- of a rule that goes along a sequence
  pub step_in_turn : (rule : Rule) (m m' : Mon) (ks : List Kind) → is_flat rule ≡ false → ClaimFits ctx (program at m m' ks) → (program_row ctx at rule m m' ks).holds →
      FitInTurn ctx (program_row ctx at rule m m' ks).parts
  step_in_turn (R.Bind js) m m' ks i f h = parts_fit ctx (R.Bind js) (program at m m' ks) f h tt
  step_in_turn (R.Recast js) m m' ks i f h = parts_fit ctx (R.Recast js) (program at m m' ks) f h tt
  step_in_turn _ m m' ks i f h = absurd cc
