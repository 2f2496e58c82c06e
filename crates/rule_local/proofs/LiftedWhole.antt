-- What the body of a function is lifted to is accepted, from a function's start.
use Rattle.std.proofs.Common.{◌≡◌, true, false, not, ◌&&◌, ◌||◌, List, [], ◌∷◌, Some, None, ◌⊎◌, inl, inr, refl, sym, subst, ap, ◌∙◌}
use Rattle.std.proofs.lemmas.Bool.{false≢true, and_parts, and_from, or_left, or_right, not-true, not_from_false, cases_Bool}
use Rattle.std.specs.Cmp.{second_so}
use Rattle.c_values.specs.Name.{Name, same_name, is_among}
use Rattle.c_values.proofs.Laid.{same_name-refl}
use Rattle.expression_lang.specs.Expression.{Exp}
use Rattle.expression_lang.specs.Mentions.{names}
use Rattle.expression_lang.specs.Sort.{Kind, WordKind}
use Rattle.expression_lang.specs.Signature.{Binder, names_of}
use Rattle.simpl_lang.specs.Command as C
use Rattle.simpl_lang.specs.Command.{Simpl, kind_of}
use Rattle.simpl_lang.specs.Form.{is_flat}
use Rattle.simpl_lang.specs.Names.{command_names}
use Rattle.monad_lang.specs.Program as M
use Rattle.monad_lang.specs.Program.{Mon}
use Rattle.monad_lang.specs.Names.{is_free, is_in_some}
use Rattle.rule_trees.specs.RuleTree.{Tree, node, Trees, AcceptsAll}
use Rattle.rule_local.specs.Rule as R
use Rattle.rule_local.specs.Rule.{Rule, Context}
use Rattle.rule_local.specs.Table.{zero_exp, zero_first, zeros, AllFreeAmong, row, table, Takes, TakesWhole}
use Rattle.rule_local.specs.Lifted.{Lifted, chosen, zeros_there, lifted, begun, locals_lifted}
use Rattle.rule_local.proofs.HandedOn.{among_chosen, chosen_passes}
use Rattle.rule_local.proofs.LiftedTaken.{local_kind, lifted_taken}
use Rattle.rule_local.proofs.LiftedNames.{assigned_named, either, lifted_names}

module _ (ctx : Context) where
  -- a part whose free names are parameters is a whole body
  row_whole : (rule : Rule) (trees : Trees Rule) (a : Simpl) (m : Mon) (vs : List Name) → (row ctx false vs rule a m).holds → AcceptsAll (table ctx) trees (row ctx false vs rule a m).parts →
      (row ctx true vs rule a m).holds × AcceptsAll (table ctx) trees (row ctx true vs rule a m).parts
  row_whole R.Skip ts C.Skip (M.Ret es) vs h k = (h, k)
  row_whole R.Set ts (C.Set x e) (M.Ret es) vs h k = (h, k)
  row_whole R.Dead ts (C.Set x e) (M.Ret es) vs h k = (h, k)
  row_whole R.Global ts (C.SetGlobal x path e) (M.Bind (M.Write place e') [] (M.Ret es)) vs h k = (h, k)
  row_whole R.Memory ts (C.Store t p path e) (M.Bind (M.Write place e') [] (M.Ret es)) vs h k = (h, k)
  row_whole R.Pick ts (C.Pick x) (M.Bind (M.Pick j) (y ∷ []) (M.Ret es)) vs h k = (h, k)
  row_whole R.Seq ts (C.Seq a b) (M.Bind a' us b') vs h k = (h, k)
  row_whole R.Cond ts (C.Cond e a b) (M.If e' a' b') vs h k = (h, k)
  row_whole R.Guard ts (C.Guard g a) (M.Bind (M.Guard e) [] a') vs h k = (h, k)
  row_whole R.While ts (C.While gs e a) (M.Bind (M.Loop starts guard e' a') us (M.Ret es)) vs h k = (h, k)
  row_whole R.Call ts (C.Call (Some x) f es) (M.Bind (M.Call g es') (y ∷ []) (M.Ret os)) vs h k = (h, k)
  row_whole R.Void ts (C.Call None f es) (M.Bind (M.Call g es') [] (M.Ret os)) vs h k = (h, k)
  row_whole R.Start ts d (M.Bind (M.Ret zs) xs d') vs h k = absurd (false≢true h.0)
  row_whole _ ts _ _ vs h k = absurd h

  as_whole : (t : Tree Rule) (a : Simpl) (m : Mon) (vs : List Name) → AllFreeAmong ctx.parameters m → Takes ctx t a m vs → TakesWhole ctx t a m vs
  as_whole (node rule trees) a m vs f h = let p = row_whole rule trees a m vs h.0.0 h.1 in ((p.0, f), p.1)

zero_unnamed : (y : Name) (k : Kind) → names y (zero_exp k) ≡ false
zero_unnamed y (WordKind n) = refl
zero_unnamed _ _ = refl

-- locals have zeros, which name nothing
pub record HaveZeros (bs : List Binder) (xs : List Name) : Type 0 where
  pub all : List Exp
  pub are : zeros bs xs ≡ Some all
  pub unnamed : (y : Name) → is_in_some y all ≡ false

more_zeros : (bs : List Binder) (x : Name) (xs : List Name) (k : Kind) → kind_of bs x ≡ Some k → HaveZeros bs xs → HaveZeros bs (x ∷ xs)
more_zeros bs x xs k e h = record {
  all = zero_exp k ∷ h.all;
  are = ap (λ o. zero_first o (zeros bs xs)) e ∙ ap (λ r. zero_first (Some k) r) h.are;
  unnamed = λ y. ap (λ b. b || is_in_some y h.all) (zero_unnamed y k) ∙ h.unnamed y;
}

pub have_zeros : (bs : List Binder) (xs : List Name) → ((y : Name) → is_among y xs ≡ true → is_among y (names_of bs) ≡ true) → HaveZeros bs xs
have_zeros bs [] h = record { all = []; are = refl; unnamed = λ y. refl }
have_zeros bs (x ∷ xs) h =
    let k = local_kind bs x (h x (or_left (same_name x x) (is_among x xs) (same_name-refl x))) in
    more_zeros bs x xs k.0 k.1 (have_zeros bs xs (λ y t. h y (or_right (same_name y x) (is_among y xs) t)))

module _ (ctx : Context) (a : Simpl) (vs : List Name) (inner : Lifted) (taken : Takes ctx inner.tree a inner.right vs) where
  begun_taken : (xs : List Name) → ((y : Name) → is_among y xs ≡ true → (is_among y ctx.parameters ≡ false) × (is_among y (names_of ctx.locals) ≡ true)) →
      ((y : Name) → is_free y inner.right ≡ true → is_among y xs ≡ false → is_among y ctx.parameters ≡ true) → TakesWhole ctx (begun ctx xs inner).tree a (begun ctx xs inner).right vs
  begun_taken [] own rest = as_whole ctx inner.tree a inner.right vs (λ y f. rest y f refl) taken
  begun_taken (x ∷ xs) own rest =
      let z = have_zeros ctx.locals (x ∷ xs) (λ y t. (own y t).1) in
      ((((refl, there z.all z.are, (λ y t. (own y t).0)), (λ y f. free y z.all z.are (z.unnamed y) f))), (taken, tt))
    where
      there : (zs : List Exp) → zeros ctx.locals (x ∷ xs) ≡ Some zs → zeros ctx.locals (x ∷ xs) ≡ Some (zeros_there (zeros ctx.locals (x ∷ xs)))
      there zs e = subst (λ r. r ≡ Some (zeros_there r)) (sym e) refl

      free : (y : Name) (zs : List Exp) → zeros ctx.locals (x ∷ xs) ≡ Some zs → is_in_some y zs ≡ false → is_free y (M.Bind (M.Ret (zeros_there (zeros ctx.locals (x ∷ xs)))) (x ∷ xs) inner.right) ≡ true →
          is_among y ctx.parameters ≡ true
      free y zs e n f =
          either (is_in_some y (zeros_there (zeros ctx.locals (x ∷ xs)))) (not (is_among y (x ∷ xs)) && is_free y inner.right) f
          (λ k. absurd (false≢true (sym (ap (λ r. is_in_some y (zeros_there r)) e ∙ n) ∙ k)))
          (λ k. let p = and_parts (not (is_among y (x ∷ xs))) (is_free y inner.right) k in rest y p.1 (not-true (is_among y (x ∷ xs)) p.0))

-- what the command names is among the locals
abbrev pub NamesThese : List Binder → Simpl → Type 0
NamesThese bs a = (y : Name) → command_names y a ≡ true → is_among y (names_of bs) ≡ true

pub locals_lifted_taken : (ctx : Context) (a : Simpl) (vs : List Name) → is_flat a ≡ true → NamesThese ctx.locals a → ((y : Name) → is_among y vs ≡ true → is_among y (names_of ctx.locals) ≡ true) →
    TakesWhole ctx (locals_lifted ctx a vs).tree a (locals_lifted ctx a vs).right vs
locals_lifted_taken ctx a vs flat own outputs =
    begun_taken ctx a vs (lifted ctx.locals a vs) (lifted_taken ctx a flat (λ y h. own y (assigned_named y a h)) vs)
    (chosen (λ y. is_free y (lifted ctx.locals a vs).right && not (is_among y ctx.parameters)) (names_of ctx.locals))
    (λ y h. let p = chosen_passes (λ z. is_free z (lifted ctx.locals a vs).right && not (is_among z ctx.parameters)) y (names_of ctx.locals) h in
    (not-true (is_among y ctx.parameters) (second_so (is_free y (lifted ctx.locals a vs).right) (not (is_among y ctx.parameters)) p.0), p.1))
    (λ y f n. by_test y f n (cases_Bool (is_among y ctx.parameters)))
  where
    known : (y : Name) → (command_names y a ≡ true) ⊎ (is_among y vs ≡ true) → is_among y (names_of ctx.locals) ≡ true
    known y (inl h) = own y h
    known y (inr h) = outputs y h

    by_test : (y : Name) → is_free y (lifted ctx.locals a vs).right ≡ true → is_among y (chosen (λ z. is_free z (lifted ctx.locals a vs).right && not (is_among z ctx.parameters)) (names_of ctx.locals)) ≡ false →
        (is_among y ctx.parameters ≡ true) ⊎ (is_among y ctx.parameters ≡ false) → is_among y ctx.parameters ≡ true
    by_test y f n (inl h) = h
    by_test y f n (inr h) =
        absurd (false≢true (sym n
        ∙ among_chosen (λ z. is_free z (lifted ctx.locals a vs).right && not (is_among z ctx.parameters)) y (names_of ctx.locals) (known y (lifted_names y ctx.locals a vs f))
        (and_from (is_free y (lifted ctx.locals a vs).right) (not (is_among y ctx.parameters)) f (not_from_false (is_among y ctx.parameters) h))))
