-- What lifted programs on heaps give in a setting of words, and which sorts their names have then.
use Rattle.std.proofs.Common.{◌≡◌, Bool, true, false, List, [], ◌∷◌, Option, Some, refl, sym, ap, ap₂, ◌∙◌}
use Rattle.std.specs.Option.{is_some}
use Rattle.std.proofs.lemmas.Bool.{and_from, or_left, or_right}
use Rattle.c_values.specs.Name.{Name, same_name, is_among}
use Rattle.c_values.specs.Layout.{global_type}
use Rattle.c_values.proofs.Laid.{same_name-refl}
use Rattle.expression_lang.specs.Expression.{Exp}
use Rattle.expression_lang.specs.Sort.{Scalar, Kind, Scope, scalar_sort, word_sort_of, sort_of_kind}
use Rattle.expression_lang.specs.Signature.{Binder, Signature, names_of}
use Rattle.expression_lang.specs.Sorted.{names_with, scalar_in, with_scalar}
use Rattle.simpl_lang.specs.Command.{Condition, Simpl, While}
use Rattle.simpl_lang.specs.Sorted.{is_sorted}
use Rattle.monad_lang.specs.Program as M
use Rattle.monad_lang.specs.Program.{Mon}
use Rattle.monad_lang.specs.Names.{is_free, is_in_start}
use Rattle.monad_lang.specs.Sorted.{Setting, scalars_given, start_scalars, where_fits}
use Rattle.monad_lang.specs.Agree.{AgreeOn}
use Rattle.rule_local.specs.Table.{vars, as_starts, conj}
use Rattle.rule_local.specs.Lifted.{handed_on, lifted}
use Rattle.monad_lang.proofs.Agreeing.{agree_left, agree_right}
use Rattle.rule_local.proofs.LiftedTaken.{local_kind}
use Rattle.monad_lang.proofs.AgreeingSorts.{in_scope}
use Rattle.monad_lang.proofs.Given.{then_parts}
use Rattle.rule_local.proofs.LiftedSorted.{scalar_there, scalars_at, AllThere, Known, lifted_sorted}
use Rattle.rule_heap.specs.ExpLifted.{exp_lifted}
use Rattle.rule_heap.specs.HeapLifted.{starts_lifted, on_heaps}
use Rattle.rule_heap.proofs.HeapFormed.{scalars_stay}
use Rattle.rule_word.specs.Rule.{Context}
use Rattle.rule_word.specs.Scopes.{names_in, with_kinds}
use Rattle.rule_word.specs.ProgramsAbstracted.{kinds_for, scalars_there, is_word_or_truth, are_words_or_truths}
use Rattle.rule_word.proofs.ScopesAfter.{names_after}
use Rattle.rule_word.proofs.ProgramsTaken.{kinds_for_sorts}
use Rattle.rule_local.proofs.LiftedSorted.{there_in}

-- What is known of a function: its locals have sorts of words and truth values, and its calls give words of the kinds in the
-- context.
pub record Lifting (ctx : Context) (ns : Name → Option Scalar) (ls : List Binder) (ss : List Signature) : Type 0 where
  pub calls : List Signature
  pub known : Known ns ls ss calls
  pub given : (m : Mon) (s : Scope) →
      scalars_given (record { scope = s; functions = ctx.functions; sort_for = word_sort_of }) m
      ≡ scalars_given (record { scope = s; functions = calls; sort_for = sort_of_kind }) m
  pub only : (y : Name) → is_word_or_truth (scalar_there (ns y)) ≡ true

-- kinds of sorts

-- what is given, where something is

fits_some : (b : Bool) (o : Option (List Scalar)) (r : List Scalar) → where_fits b o ≡ Some r → o ≡ Some r
fits_some true o r h = h
fits_some false o r h = absurd cc

-- of a part of a sequence, and of what a loop begins with
bind_some : (t : Setting) (m n : Mon) (xs : List Name) (r : List Scalar) →
    scalars_given t (M.Bind m xs n) ≡ Some r → (cs : List Scalar) × (scalars_given t m ≡ Some cs)
bind_some t m n xs r h = let w = then_parts (scalars_given t m) _ r h in (w.0, w.1)

loop_some : (t : Setting) (starts : List M.Start) (guard test : Exp) (m : Mon) (r : List Scalar) →
    scalars_given t (M.Loop starts guard test m) ≡ Some r → start_scalars t.scope starts ≡ Some r
loop_some t starts guard test m r h = let w = then_parts (start_scalars t.scope starts) _ r h in w.1 ∙ fits_some _ (Some w.0) r w.2

module _ (ctx : Context) (ns : Name → Option Scalar) (ls : List Binder) (ss : List Signature) (known : Lifting ctx ns ls ss) where
  abbrev pub scope_at : (Name → Option Scalar) → Scope
  scope_at ms = in_scope ctx.layout (global_type ctx.globals) ms

  abbrev pub setting_at : (Name → Option Scalar) → Setting
  setting_at ms = record { scope = scope_at ms; functions = ctx.functions; sort_for = word_sort_of }

  pub local_there : (y : Name) → is_among y (names_of ls) ≡ true → is_some (ns y) ≡ true
  local_there y h = let k = local_kind ls y h in ap is_some (known.known.kinds y k.0 k.1).0

  pub words_there : (us : List Name) → are_words_or_truths (scalars_at ns us) ≡ true
  words_there [] = refl
  words_there (u ∷ us) =
      and_from (is_word_or_truth (scalar_there (ns u))) (are_words_or_truths (scalars_at ns us)) (known.only u) (words_there us)

  -- of names that are handed on, with the kinds that a table has for them
  pub names_next : (table : Name → Option Kind) (us : List Name) (bs : List Binder) (o : Option (List Scalar)) →
      o ≡ Some (scalars_at ns us) →
      names_in word_sort_of (with_kinds us (kinds_for table us (scalars_there o)) bs)
      ≡ names_with us (scalars_at ns us) (names_in word_sort_of bs)
  names_next table us bs o e =
      ap (λ p. names_in word_sort_of (with_kinds us (kinds_for table us (scalars_there p)) bs)) e
      ∙ sym (names_after word_sort_of us (kinds_for table us (scalars_at ns us)) bs)
      ∙ ap (λ cs. names_with us cs (names_in word_sort_of bs)) (kinds_for_sorts table us (scalars_at ns us) (words_there us))

  -- on bytes
  pub gives_before : (a : Simpl) → is_sorted (scope_at ns) ss a ≡ true → (vs : List Name) →
      AllThere ns vs → (ms : Name → Option Scalar) → AgreeOn (λ y. is_free y (lifted ls a vs).right) ms ns →
      scalars_given (setting_at ms) (lifted ls a vs).right ≡ Some (scalars_at ns vs)
  gives_before a h vs t ms ag =
      known.given (lifted ls a vs).right (scope_at ms) ∙
      lifted_sorted ctx.layout (global_type ctx.globals) ns ls ss known.calls known.known a h vs t ms ag

  pub gives : (a : Simpl) → is_sorted (scope_at ns) ss a ≡ true → (vs : List Name) →
      AllThere ns vs → (ms : Name → Option Scalar) → AgreeOn (λ y. is_free y (lifted ls a vs).right) ms ns →
      scalars_given (setting_at ms) (on_heaps (lifted ls a vs).right) ≡ Some (scalars_at ns vs)
  gives a h vs t ms ag =
      scalars_stay (setting_at ms) (lifted ls a vs).right ∙ gives_before a h vs t ms ag

  pub starts_give : (ms : Name → Option Scalar) (us : List Name) → AllThere ns us →
      AgreeOn (λ y. is_in_start y (as_starts us)) ms ns →
      start_scalars (scope_at ms) (starts_lifted (as_starts us)) ≡ Some (scalars_at ns us)
  starts_give ms [] t a = refl
  starts_give ms (x ∷ xs) t a =
      ap₂ with_scalar
      (ap (λ o. scalar_in (scalar_sort o)) (agree_left (λ y. same_name y x) (λ y. is_in_start y (as_starts xs)) ms ns a x
      (same_name-refl x))
      ∙ there_in (ns x) (t x (or_left (same_name x x) (is_among x xs) (same_name-refl x))))
      (starts_give ms xs (λ y k. t y (or_right (same_name y x) (is_among y xs) k))
      (agree_right (λ y. same_name y x) (λ y. is_in_start y (as_starts xs)) ms ns a))

  module _ (cs : List Condition) (e : Exp) (a : Simpl) (vs : List Name) where
    abbrev pub loop_names : List Name
    loop_names = handed_on (names_of ls) cs e a (λ us. (lifted ls a us).right) vs

    abbrev pub loop_at : Mon
    loop_at = M.Loop (as_starts loop_names) (conj cs) e (lifted ls a loop_names).right

    pub loop_gives : is_sorted (scope_at ns) ss (While cs e a) ≡ true → AllThere ns vs →
        AllThere ns loop_names → (ms : Name → Option Scalar) →
        AgreeOn (λ y. is_free y (lifted ls (While cs e a) vs).right) ms ns →
        AgreeOn (λ y. is_in_start y (as_starts loop_names)) ms ns →
        scalars_given (setting_at ms) (on_heaps loop_at) ≡ Some (scalars_at ns loop_names)
    loop_gives h t tu ms ag starts =
        let loop = on_heaps loop_at in
        let given = bind_some (setting_at ms) loop (on_heaps (M.Ret (vars vs))) loop_names (scalars_at ns vs)
        (gives (While cs e a) h vs t ms ag) in
        let begun = loop_some (setting_at ms) (starts_lifted (as_starts loop_names)) (exp_lifted (conj cs)) (exp_lifted e)
        (on_heaps (lifted ls a loop_names).right) given.0 given.1 in
        given.1 ∙ sym begun ∙ starts_give ms loop_names tu starts
