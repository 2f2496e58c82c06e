-- Names stay of kinds that can be: those that a bind or a loop brings into scope have the kinds of words that are there.
use Rattle.std.proofs.Common.{◌≡◌, ℕ, Bool, true, false, cond, List, [], ◌∷◌, map, Option, Some, None, refl, sym, subst, ◌∙◌}
use Rattle.std.proofs.lemmas.Bool.{and_parts, and_from}
use Rattle.c_values.specs.Name.{Name, same_name}
use Rattle.c_values.specs.Layout.{IsLayout}
use Rattle.expression_lang.specs.Expression.{Exp}
use Rattle.expression_lang.specs.Sort.{Scalar, WordSort, Of, Kind, WordKind, NatKind, IntKind, BoolKind, is_width, is_kind, word_sort_of}
use Rattle.expression_lang.specs.Sorted.{call_scalars, result_scalars}
use Rattle.expression_lang.specs.Signature.{Binder, binder, Signature, signature}
use Rattle.monad_lang.specs.Program as M
use Rattle.monad_lang.specs.Program.{Mon}
use Rattle.monad_lang.specs.Run.{start_names}
use Rattle.rule_trees.specs.RuleTree.{Tree, Accepts}
use Rattle.rule_word.specs.Rule as R
use Rattle.rule_word.specs.Rule.{Rule, Context, Point, Unsigned, Signed, program}
use Rattle.rule_word.specs.Scopes.{names_in, with_kinds, words}
use Rattle.rule_word.specs.Table.{each, AreMatched, views_for, program_row, table}
use Rattle.rule_parts.specs.Starts.{start_exps}
use Rattle.rule_word.specs.CodeFits.{Fits, ClaimFits, AllFit}
use Rattle.rule_word.specs.CodeClaims.{program_pairs, inside}
use Rattle.rule_word.specs.CodeNames.{are_binders, are_results, is_result}
use Rattle.rule_word.proofs.ProgramSorts.{some_is, call_inv}
use Rattle.rule_word.proofs.ProgramsGive.{accepted_gives}
use Rattle.rule_word.proofs.ScopesAfter.{sort_of_view}
use Rattle.rule_word.proofs.Widths.{IsWide, expression_wide, has_widths}
use Rattle.rule_word.proofs.ProgramWidths.{AllWide, WideNames, WideCalls, given_wide}

-- a word's kind is of its width
pub word_kind : (k : Kind) → IsWide (Some (Of (word_sort_of k))) → is_kind k ≡ true
word_kind BoolKind h = refl
word_kind _ h = h

pub kind_word : (k : Kind) (n : ℕ) → is_kind k ≡ true → word_sort_of k ≡ WordSort n → is_width n ≡ true
kind_word (WordKind m) n h q = let e : m ≡ n = cc in subst (λ j. is_width j ≡ true) e h
kind_word (NatKind m) n h q = let e : m ≡ n = cc in subst (λ j. is_width j ≡ true) e h
kind_word (IntKind m) n h q = let e : m ≡ n = cc in subst (λ j. is_width j ≡ true) e h
kind_word BoolKind n h q = absurd cc

one_name : (b : Bool) (k : Kind) (o : Option Scalar) (n : ℕ) → is_kind k ≡ true → (o ≡ Some (WordSort n) → is_width n ≡ true) → cond b (Some (word_sort_of k)) o ≡ Some (WordSort n) → is_width n ≡ true
one_name true k o n h f q = kind_word k n h (some_is q)
one_name false k o n h f q = f q

pub names_wide : (bs : List Binder) → are_binders bs ≡ true → WideNames (names_in word_sort_of bs)
names_wide [] h x n q = absurd cc
names_wide (b ∷ bs) h x n q =
    let r = and_parts (is_kind b.kind) (are_binders bs) h in one_name (same_name b.name x) b.kind (names_in word_sort_of bs x) n r.0 (λ i. names_wide bs r.1 x n i) q

result_wide : (o : Option Kind) → is_result o ≡ true → AllWide (result_scalars word_sort_of o)
result_wide None h = tt
result_wide (Some (WordKind n)) h = (h, tt)
result_wide (Some (NatKind n)) h = (h, tt)
result_wide (Some (IntKind n)) h = (h, tt)
result_wide (Some BoolKind) h = (tt, tt)

call_wide : (o : Option Signature) (os : Option (List Scalar)) (cs : List Scalar) → ((f : Signature) → o ≡ Some f → is_result f.result ≡ true) → call_scalars word_sort_of o os ≡ Some cs → AllWide cs
call_wide None os cs h q = absurd cc
call_wide (Some f) os cs h q = subst AllWide (call_inv f os cs q).1 (result_wide f.result (h f refl))

found_result : (fs : List Signature) → are_results fs ≡ true → (x : Name) (f : Signature) → signature fs x ≡ Some f → is_result f.result ≡ true
found_result [] h x f q = absurd cc
found_result (g ∷ gs) h x f q =
    let r = and_parts (is_result g.result) (are_results gs) h in by_name (same_name g.name x) q r.0 (λ i. found_result gs r.1 x f i)
  where
    by_name : (b : Bool) → cond b (Some g) (signature gs x) ≡ Some f → is_result g.result ≡ true → (signature gs x ≡ Some f → is_result f.result ≡ true) → is_result f.result ≡ true
    by_name true i j rest = subst (λ d. is_result d.result ≡ true) (some_is i) j
    by_name false i j rest = rest i

pub results_wide : (fs : List Signature) → are_results fs ≡ true → WideCalls word_sort_of fs
results_wide fs h x os cs q = call_wide (signature fs x) os cs (found_result fs h x) q

stay : (xs : List Name) (ks : List Kind) (bs : List Binder) → AllWide (map word_sort_of ks) → are_binders bs ≡ true → are_binders (with_kinds xs ks bs) ≡ true
stay (x ∷ xs) (k ∷ ks) bs w h = stay xs ks (binder x k ∷ bs) w.1 (and_from (is_kind k) (are_binders bs) (word_kind k w.0) h)
stay [] ks bs w h = h
stay (x ∷ xs) [] bs w h = h

module _ (ctx : Context) (lay : IsLayout ctx.layout) (results : are_results ctx.functions ≡ true) (at : Point) (kinds : are_binders at.names ≡ true) where
  -- behind a part that is taken
  pub bound_stay : (xs : List Name) (js : List Kind) (m m' : Mon) (t : Tree Rule) → ClaimFits ctx (program at m m' js) → Accepts (table ctx) t (program at m m' js) → are_binders (with_kinds xs js at.names) ≡ true
  bound_stay xs js m m' t f h =
      stay xs js at.names (subst AllWide (accepted_gives ctx at t m m' js f.0 h f.1)
      (given_wide word_sort_of ctx.functions (results_wide ctx.functions results) m (words ctx at.names).scope lay (names_wide at.names kinds) f.0 f.1)) kinds

  starts_wide : (es : List Exp) (js : List Kind) (es' : List Exp) → AreMatched es js es' → AllFit ctx (each at es (views_for js) es') → AllWide (map word_sort_of js)
  starts_wide [] [] [] m f = tt
  starts_wide (e ∷ es) (j ∷ js) (a ∷ as') m f = (
    subst IsWide (f.0.1 ∙ sym f.0.2 ∙ sort_of_view j) (expression_wide (words ctx at.names).scope lay (names_wide at.names kinds) e),
    starts_wide es js as' m f.1,
  )
  starts_wide _ _ _ m f = absurd m

  -- and in a loop
  pub started_stay : (xs : List Name) (es : List Exp) (js : List Kind) (es' : List Exp) → AreMatched es js es' → AllFit ctx (each at es (views_for js) es') → are_binders (with_kinds xs js at.names) ≡ true
  started_stay xs es js es' m f = stay xs js at.names (starts_wide es js es' m f) kinds

  -- behind the pairs of a rule
  pub inside_stay : (rule : Rule) (m m' : Mon) (ks : List Kind) → (program_row ctx at rule m m' ks).holds → AllFit ctx (program_pairs ctx at rule m m' ks) → are_binders (inside rule m at).names ≡ true
  inside_stay (R.Loop js) (M.Loop starts guard test m) (M.Loop starts' guard' test' m') ks h f = started_stay (start_names starts) (start_exps starts) js (start_exps starts') h.2 f
  inside_stay (R.Loop js) (M.Loop starts guard test m) m' ks h f = absurd h
  inside_stay rule m m' ks h f = kinds

module _ (ctx : Context) (lay : IsLayout ctx.layout) (at : Point) (kinds : are_binders at.names ≡ true) where
  -- what is seen as a number is of one of the four widths
  pub unsigned_width : (e : Exp) (n : ℕ) → Fits (words ctx at.names).scope e (Unsigned n) → is_width n ≡ true
  unsigned_width e n h = has_widths (words ctx at.names).scope lay (names_wide at.names kinds) e n (h.1 ∙ sym h.2)

  pub signed_width : (e : Exp) (n : ℕ) → Fits (words ctx at.names).scope e (Signed n) → is_width n ≡ true
  signed_width e n h = has_widths (words ctx at.names).scope lay (names_wide at.names kinds) e n (h.1 ∙ sym h.2)
