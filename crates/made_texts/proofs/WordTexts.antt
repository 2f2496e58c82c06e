-- A program on what stands for words has a text where the program on words has one, is well-sorted and its names have kinds; and so has
-- the tree of rules that leads there, and it binds few names at a time where that does.
use Rattle.std.proofs.Common.{◌≡◌, ◌≤◌, ◌==◌, nat_le, Bool, true, false, not, cond, ◌&&◌, List, [], ◌∷◌, ◌++◌, length, map, Option, Some, None, refl, sym, ap, subst, ◌∙◌, arith}
use Rattle.std.proofs.lemmas.Bool.{and_parts, and_from, or_parts, or_from}
use Rattle.c_values.specs.Name.{Name, same_name, is_among, are_distinct}
use Rattle.c_values.specs.Types.{CType, address_width}
use Rattle.c_values.specs.Layout.{IsLayout, shape_of, is_object, global_type}
use Rattle.c_values.proofs.Options.{some_is}
use Rattle.expression_lang.specs.Expression as X
use Rattle.expression_lang.specs.Expression.{Exp, Path}
use Rattle.expression_lang.specs.Sort.{Scalar, WordSort, TruthSort, Sort, Of, Kind, WordKind, NatKind, IntKind, BoolKind, Scope, is_truth, is_word_of, is_width, same_scalar, word_sort_of, is_kind, are_kinds}
use Rattle.expression_lang.specs.Sorted.{program_sort, scalar_in, scalars_of, typed_place, global_place, part_place, fits_place, call_scalars}
use Rattle.expression_lang.specs.Signature.{Binder, binder, Signature, kinds_of, signature}
use Rattle.expression_lang.proofs.Inversion.{truth_inv, word_of_inv}
use Rattle.expression_lang.proofs.SortParts.{program_sort_inv, fits_inv as fits_there, scalar_in_inv}
use Rattle.expression_text.specs.Names.{is_name}
use Rattle.expression_text.specs.TypeText.{is_type}
use Rattle.expression_text.specs.ExpText.{is_exp, is_path}
use Rattle.expression_text.specs.Lists.{each}
use Rattle.ac_expr.specs.Fact.{Fact, Whole, NotTrue}
use Rattle.ac_expr.specs.Heads.{path_children}
use Rattle.ac_expr.proofs.PartsSorted.{IsSorted, AreSorted, children_sorted, path_sorted}
use Rattle.monad_lang.specs.Program as M
use Rattle.monad_lang.specs.Program.{Mon, Place, Start}
use Rattle.monad_lang.specs.Run.{start_names}
use Rattle.monad_lang.specs.Sorted.{setting_with, scalars_given, start_scalars, place_sort, one_for_each, are_scalars, where_fits}
use Rattle.program_text.specs.MonText.{is_mon, is_start, is_place}
use Rattle.ac_expr.proofs.ConstantsSound.{if_inv}
use Rattle.program_facts.specs.Flow.{facts_after}
use Rattle.rule_trees.specs.RuleTree.{Tree, Trees, node, no_trees, tree, count, Accepts, AcceptsAll}
use Rattle.rule_word.specs.Rule as R
use Rattle.rule_word.specs.Rule.{Rule, Context, View, Claim, expression, program}
use Rattle.rule_word.specs.Scopes.{names_in, with_kinds, words, own}
use Rattle.rule_word.specs.Table.{truth, views_for, recast, recast_first, recasts, table, each as claims}
use Rattle.rule_parts.specs.Starts.{start_exps}
use Rattle.rule_word.specs.Kept.{kinds_taken, kinds_given}
use Rattle.rule_word.specs.Bases.{among}
use Rattle.rule_word.specs.WordsAbstracted.{Abstracted, indices}
use Rattle.rule_word.specs.ProgramsAbstracted.{AbstractedProgram, rights, trees_before, restarted, word_kind_of, kind_for, kinds_for, scalars_there, same_kinds, recast_by, result_names, in_words, recast_or, recast_to, pick_at, PlaceAt, place_rule, place_at, exp_at, guard_at, all_at, program_abstracted}
use Rattle.rule_word.proofs.ProgramSorts.{then_inv, fits_inv, are_inv, scalar_first, part_there}
use Rattle.rule_word.proofs.ProgramWidths.{AllWide, WideNames, WideCalls, given_wide}
use Rattle.rule_word.proofs.ProgramsGive.{accepted_gives}
use Rattle.rule_word.proofs.ScopesAfter.{setting_after}
use Rattle.rule_word.proofs.KindsStay.{kind_word}
use Rattle.rule_text.specs.WordText.{is_tree}
use Rattle.made_texts.specs.Few.{most_names, binds_few}
use Rattle.made_texts.proofs.WordExpTexts as E
use Rattle.made_texts.proofs.WordExpTexts.{are_trees, by_two}
use Rattle.made_texts.proofs.HeapTexts.{least}

pub record HaveTexts (x : AbstractedProgram) : Type 0 where
  pub program : is_mon x.right ≡ true
  pub few : binds_few x.right ≡ true
  pub rules : is_tree x.tree ≡ true

-- Kinds

wide_kind : (c : Scalar) → AllWide (c ∷ []) → is_kind (word_kind_of c) ≡ true
wide_kind (WordSort n) h = h.0
wide_kind _ _ = refl

kind_text : (o : Option Kind) (c : Scalar) → ((k : Kind) → o ≡ Some k → is_kind k ≡ true) → AllWide (c ∷ []) →
    is_kind (kind_for o c) ≡ true
kind_text None c h w = wide_kind c w
kind_text (Some k) c h w = by_test (same_scalar (word_sort_of k) c)
  where
    by_test : (b : Bool) → is_kind (cond b k (word_kind_of c)) ≡ true
    by_test true = h k refl
    by_test false = wide_kind c w

kinds_text : (of_name : Name → Option Kind) → ((x : Name) (k : Kind) → of_name x ≡ Some k → is_kind k ≡ true) → (xs : List Name)
    (cs : List Scalar) → AllWide cs → each is_kind (kinds_for of_name xs cs) ≡ true
kinds_text of_name h xs [] w = refl
kinds_text of_name h [] (c ∷ cs) w = and_from _ _ (wide_kind c (w.0, tt)) (kinds_text of_name h [] cs w.1)
kinds_text of_name h (x ∷ xs) (c ∷ cs) w = and_from _ _ (kind_text (of_name x) c (h x) (w.0, tt)) (kinds_text of_name h xs cs w.1)

-- the names in scope have kinds
abbrev pub HaveKinds : List Binder → Type 0
HaveKinds bs = are_kinds (kinds_of bs) ≡ true

pub kind_there : (bs : List Binder) → HaveKinds bs → (x : Name) (k : Kind) → names_in (λ j. j) bs x ≡ Some k → is_kind k ≡ true
kind_there [] h x k e = absurd cc
kind_there (b ∷ bs) h x k e =
    let p = and_parts (is_kind b.kind) (are_kinds (kinds_of bs)) h in by_test (same_name b.name x) p.0 (kind_there bs p.1 x k) e
  where
    by_test : (c : Bool) → is_kind b.kind ≡ true → (names_in (λ j. j) bs x ≡ Some k → is_kind k ≡ true) →
        cond c (Some b.kind) (names_in (λ j. j) bs x) ≡ Some k → is_kind k ≡ true
    by_test true i r q = subst (λ j. is_kind j ≡ true) (some_is q) i
    by_test false i r q = r q

wide_there : (bs : List Binder) → HaveKinds bs → WideNames (names_in word_sort_of bs)
wide_there [] h x n e = absurd cc
wide_there (b ∷ bs) h x n e =
    let p = and_parts (is_kind b.kind) (are_kinds (kinds_of bs)) h in by_test (same_name b.name x) p.0 (wide_there bs p.1 x n) e
  where
    by_test : (c : Bool) → is_kind b.kind ≡ true → (names_in word_sort_of bs x ≡ Some (WordSort n) → is_width n ≡ true) →
        cond c (Some (word_sort_of b.kind)) (names_in word_sort_of bs x) ≡ Some (WordSort n) → is_width n ≡ true
    by_test true i r q = kind_word b.kind n i (some_is q)
    by_test false i r q = r q

more_kinds : (xs : List Name) (ks : List Kind) (bs : List Binder) → each is_kind ks ≡ true → HaveKinds bs →
    HaveKinds (with_kinds xs ks bs)
more_kinds [] ks bs h k = k
more_kinds (x ∷ xs) [] bs h k = k
more_kinds (x ∷ xs) (j ∷ ks) bs h k =
    let p = and_parts (is_kind j) (each is_kind ks) h in
    more_kinds xs ks (binder x j ∷ bs) p.1 (and_from (is_kind j) (are_kinds (kinds_of bs)) p.0 k)

-- Recasts

recast_text : (j k : Kind) (x : Name) (e : Exp) → is_name x ≡ true → is_kind k ≡ true → recast j k (X.Var x) ≡ Some e →
    is_exp e ≡ true
recast_text (WordKind n) (WordKind m) x e h w q = by_test (m == n) q
  where
    by_test : (b : Bool) → cond b (Some (X.Var x)) None ≡ Some e → is_exp e ≡ true
    by_test true i = subst (λ a. is_exp a ≡ true) (some_is i) h
    by_test false i = absurd cc
recast_text (NatKind n) (NatKind m) x e h w q = by_test (m == n) q
  where
    by_test : (b : Bool) → cond b (Some (X.Var x)) None ≡ Some e → is_exp e ≡ true
    by_test true i = subst (λ a. is_exp a ≡ true) (some_is i) h
    by_test false i = absurd cc
recast_text (IntKind n) (IntKind m) x e h w q = by_test (m == n) q
  where
    by_test : (b : Bool) → cond b (Some (X.Var x)) None ≡ Some e → is_exp e ≡ true
    by_test true i = subst (λ a. is_exp a ≡ true) (some_is i) h
    by_test false i = absurd cc
recast_text BoolKind BoolKind x e h w q = subst (λ a. is_exp a ≡ true) (some_is q) h
recast_text (WordKind n) (NatKind m) x e h w q = by_test (m == n) q
  where
    by_test : (b : Bool) → cond b (Some (X.ToNat (X.Var x))) None ≡ Some e → is_exp e ≡ true
    by_test true i = subst (λ a. is_exp a ≡ true) (some_is i) h
    by_test false i = absurd cc
recast_text (WordKind n) (IntKind m) x e h w q = by_test (m == n) q
  where
    by_test : (b : Bool) → cond b (Some (X.ToInt (X.Var x))) None ≡ Some e → is_exp e ≡ true
    by_test true i = subst (λ a. is_exp a ≡ true) (some_is i) h
    by_test false i = absurd cc
recast_text (NatKind n) (WordKind m) x e h w q = by_test (m == n) q
  where
    by_test : (b : Bool) → cond b (Some (X.ToWord m (X.Var x))) None ≡ Some e → is_exp e ≡ true
    by_test true i = subst (λ a. is_exp a ≡ true) (some_is i) (and_from (is_width m) (is_name x) w h)
    by_test false i = absurd cc
recast_text (IntKind n) (WordKind m) x e h w q = by_test (m == n) q
  where
    by_test : (b : Bool) → cond b (Some (X.ToWord m (X.Var x))) None ≡ Some e → is_exp e ≡ true
    by_test true i = subst (λ a. is_exp a ≡ true) (some_is i) (and_from (is_width m) (is_name x) w h)
    by_test false i = absurd cc
recast_text _ _ x e h w q = absurd cc

first_recast : (o : Option Exp) (q : Option (List Exp)) (es : List Exp) → recast_first o q ≡ Some es →
    ((e : Exp) → o ≡ Some e → is_exp e ≡ true) → ((fs : List Exp) → q ≡ Some fs → each is_exp fs ≡ true) →
    each is_exp es ≡ true
first_recast (Some e) (Some fs) es i h k =
    subst (λ zs. each is_exp zs ≡ true) (some_is i) (and_from (is_exp e) (each is_exp fs) (h e refl) (k fs refl))
first_recast _ _ es i h k = absurd cc

recasts_text : (js ks : List Kind) (ys : List Name) (es : List Exp) → recasts js ks ys ≡ Some es → each is_name ys ≡ true →
    each is_kind ks ≡ true → each is_exp es ≡ true
recasts_text [] [] [] es e h k = subst (λ zs. each is_exp zs ≡ true) (some_is e) refl
recasts_text (j ∷ js) (i ∷ ks) (y ∷ ys) es e h k =
    let p = and_parts (is_name y) (each is_name ys) h in
    let q = and_parts (is_kind i) (each is_kind ks) k in
    first_recast (recast j i (X.Var y)) (recasts js ks ys) es e (λ a m. recast_text j i y a p.0 q.0 m)
    (λ fs m. recasts_text js ks ys fs m p.1 q.1)
recasts_text [] [] (y ∷ ys) es e h k = absurd cc
recasts_text [] (i ∷ ks) ys es e h k = absurd cc
recasts_text (j ∷ js) [] ys es e h k = absurd cc
recasts_text (j ∷ js) (i ∷ ks) [] es e h k = absurd cc

-- a result's name
record AreResultNames (ys : List Name) : Type 0 where
  names : each is_name ys ≡ true
  distinct : are_distinct ys ≡ true
  few : nat_le (length ys) most_names ≡ true

names_of_result : (ks : List Kind) → AreResultNames (result_names ks)
names_of_result [] = record { names = refl; distinct = refl; few = refl }
names_of_result (k ∷ ks) = record { names = refl; distinct = refl; few = refl }

by_texts : (js ks : List Kind) (ys : List Name) (o : Option (List Exp)) (x : AbstractedProgram) → o ≡ recasts js ks ys →
    AreResultNames ys → each is_kind js ≡ true → each is_kind ks ≡ true → HaveTexts x → HaveTexts (recast_by js ys o x)
by_texts js ks ys None x e n h k l = l
by_texts js ks ys (Some es) x e n h k l = record {
  program = and_from _ _ (and_from _ _ n.names n.distinct) (and_from _ _ l.program (recasts_text js ks ys es (sym e) n.names k));
  few = and_from _ _ n.few (and_from _ _ l.few refl);
  rules = and_from _ _ h (and_from _ _ l.rules refl);
}

word_kind_again : (k : Kind) → is_kind k ≡ true → is_kind (word_kind_of (word_sort_of k)) ≡ true
word_kind_again BoolKind h = refl
word_kind_again _ h = h

words_kinds : (ks : List Kind) → each is_kind ks ≡ true → each is_kind (in_words ks) ≡ true
words_kinds [] h = refl
words_kinds (k ∷ ks) h =
    let p = and_parts (is_kind k) (each is_kind ks) h in and_from _ _ (word_kind_again k p.0) (words_kinds ks p.1)

or_texts : (js ks : List Kind) (ys : List Name) (o : Option (List Exp)) (x : AbstractedProgram) → o ≡ recasts js ks ys →
    AreResultNames ys → each is_kind js ≡ true → each is_kind ks ≡ true → HaveTexts x → HaveTexts (recast_or js ks ys o x)
or_texts js ks ys None x e n h k l =
    let w = words_kinds js h in
    by_texts (in_words js) ks ys (recasts (in_words js) ks ys) (recast_by js ys (recasts js (in_words js) ys) x) refl n w k
    (by_texts js (in_words js) ys (recasts js (in_words js) ys) x refl n h w l)
or_texts js ks ys (Some es) x e n h k l = by_texts js ks ys (Some es) x e n h k l

to_texts : (b : Bool) (js ks : List Kind) (x : AbstractedProgram) → each is_kind js ≡ true → each is_kind ks ≡ true →
    HaveTexts x → HaveTexts (recast_to b js ks x)
to_texts true js ks x h k l = l
to_texts false js ks x h k l =
    or_texts js ks (result_names js) (recasts js ks (result_names js)) x refl (names_of_result js) h k l

pick_texts : (k : Kind) (ks : List Kind) → is_kind k ≡ true → HaveTexts (pick_at k ks)
pick_texts (WordKind n) (NatKind m ∷ []) h = record { program = h; few = refl; rules = refl }
pick_texts (WordKind n) (IntKind m ∷ []) h = record { program = h; few = refl; rules = refl }
pick_texts k ks h = record { program = h; few = refl; rules = refl }

-- Starts

module _ where
  start_among : (y : Name) (xs : List Start) (es : List Exp) → is_among y (start_names xs) ≡ false →
      is_among y (start_names (restarted xs es)) ≡ false
  start_among y [] es h = refl
  start_among y (x ∷ xs) [] h = refl
  start_among y (x ∷ xs) (e ∷ es) h =
      let p = or_parts (same_name y x.name) (is_among y (start_names xs)) h in
      or_from (same_name y x.name) (is_among y (start_names (restarted xs es))) p.0 (start_among y xs es p.1)

  apart : (b : Bool) → not b ≡ true → b ≡ false
  apart true h = absurd cc
  apart false h = refl

  still_distinct : (xs : List Start) (es : List Exp) → are_distinct (start_names xs) ≡ true →
      are_distinct (start_names (restarted xs es)) ≡ true
  still_distinct [] es h = refl
  still_distinct (x ∷ xs) [] h = refl
  still_distinct (x ∷ xs) (e ∷ es) h =
      let p = and_parts (not (is_among x.name (start_names xs))) (are_distinct (start_names xs)) h in
      and_from (not (is_among x.name (start_names (restarted xs es)))) (are_distinct (start_names (restarted xs es)))
      (ap not (start_among x.name xs es (apart (is_among x.name (start_names xs)) p.0))) (still_distinct xs es p.1)

  started : (xs : List Start) (es : List Exp) → each is_start xs ≡ true → each is_exp es ≡ true →
      each is_start (restarted xs es) ≡ true
  started [] es h k = refl
  started (x ∷ xs) [] h k = refl
  started (x ∷ xs) (e ∷ es) h k =
      let p = and_parts (is_start x) (each is_start xs) h in
      let q = and_parts (is_exp e) (each is_exp es) k in
      and_from (is_name x.name && is_exp e) (each is_start (restarted xs es))
      (and_from (is_name x.name) (is_exp e) (and_parts (is_name x.name) (is_exp x.exp) p.0).0 q.0) (started xs es p.1 q.1)

  exps_of_starts : (xs : List Start) → each is_start xs ≡ true → each is_exp (start_exps xs) ≡ true
  exps_of_starts [] h = refl
  exps_of_starts (x ∷ xs) h =
      let p = and_parts (is_start x) (each is_start xs) h in
      and_from (is_exp x.exp) (each is_exp (start_exps xs)) (and_parts (is_name x.name) (is_exp x.exp) p.0).1 (exps_of_starts xs p.1)

-- Sorts

each_sorted : (g : Scope) (es : List Exp) (cs : List Scalar) → scalars_of g es ≡ Some cs → AreSorted g es
each_sorted g [] cs h = tt
each_sorted g (e ∷ es) cs h =
    let r = scalar_first (scalar_in (program_sort g e)) (scalars_of g es) cs h in
    ((_, program_sort_inv g e (Of r.0) (scalar_in_inv (program_sort g e) r.0 r.4)), each_sorted g es r.1 r.3)

starts_sorted : (g : Scope) (xs : List Start) (cs : List Scalar) → start_scalars g xs ≡ Some cs → AreSorted g (start_exps xs)
starts_sorted g [] cs h = tt
starts_sorted g (x ∷ xs) cs h =
    let r = scalar_first (scalar_in (program_sort g x.exp)) (start_scalars g xs) cs h in
    ((_, program_sort_inv g x.exp (Of r.0) (scalar_in_inv (program_sort g x.exp) r.0 r.4)), starts_sorted g xs r.1 r.3)

truth_sorted : (g : Scope) (e : Exp) → is_truth (program_sort g e) ≡ true → IsSorted g e
truth_sorted g e h = (_, program_sort_inv g e (Of TruthSort) (truth_inv (program_sort g e) h))

called_sorted : (g : Scope) (f : Kind → Scalar) (o : Option Signature) (es : List Exp) (cs : List Scalar) →
    call_scalars f o (scalars_of g es) ≡ Some cs → AreSorted g es
called_sorted g f o es cs h = by_scalars (scalars_of g es) refl o h
  where
    by_scalars : (q : Option (List Scalar)) → scalars_of g es ≡ q → (o : Option Signature) → call_scalars f o q ≡ Some cs →
        AreSorted g es
    by_scalars (Some ss) e o i = each_sorted g es ss e
    by_scalars None e None i = absurd cc
    by_scalars None e (Some s) i = absurd cc

root_sorted : (g : Scope) (t : CType) (p : Exp) (path : Path) (s : Sort) → typed_place g t p path ≡ Some s →
    IsSorted g p × AreSorted g (path_children path)
root_sorted g t p path s h =
    let r = if_inv (is_object g.layout t && is_word_of (address_width g.layout.target) (program_sort g p)) (part_place g t path) s h in
    let d = and_parts (is_object g.layout t) (is_word_of (address_width g.layout.target) (program_sort g p)) r.0 in
    let w = part_there g t path s r.1 in (
      (
        _,
        program_sort_inv g p (Of (WordSort (address_width g.layout.target)))
            (word_of_inv (address_width g.layout.target) (program_sort g p) d.1),
      ),
      path_sorted g path (shape_of g.layout t) w.0 w.1,
    )

global_sorted : (g : Scope) (o : Option CType) (path : Path) (s : Sort) → global_place g o path ≡ Some s →
    AreSorted g (path_children path)
global_sorted g None path s h = absurd cc
global_sorted g (Some t) path s h =
    let r = if_inv (is_object g.layout t) (part_place g t path) s h in
    let w = part_there g t path s r.1 in path_sorted g path (shape_of g.layout t) w.0 w.1

-- Programs

module _ (same : Exp → Exp → Bool) (numbers : Bool) (ctx : Context) (lay : IsLayout ctx.layout)
    (calls : WideCalls word_sort_of ctx.functions)
    (given : (x : Name) → each is_kind (kinds_given (signature ctx.functions x)) ≡ true) where
  abbrev g_in : List Binder → Scope
  g_in names = (words ctx names).scope

  module _ (names : List Binder) (kinds : HaveKinds names) where
    exp_texts : (fs : List Fact) (e : Exp) → is_exp e ≡ true → IsSorted (g_in names) e → (v : View) →
        E.HaveTexts (exp_at same numbers ctx names fs e v)
    exp_texts fs e h s v =
        E.exp_texts same numbers (g_in names) names lay (wide_there names kinds) (kind_there names kinds) (among fs) e h s v

    path_texts : (fs : List Fact) (path : Path) → is_path path ≡ true → AreSorted (g_in names) (path_children path) →
        (ts : Trees Rule) → are_trees ts ≡ true →
        E.IndicesHaveTexts path (indices same numbers (g_in names) names (among fs) path ts)
    path_texts fs path h s ts k =
        E.path_texts same numbers (g_in names) names lay (wide_there names kinds) (kind_there names kinds) (among fs) path h s ts k

    guard_texts : (fs : List Fact) (e : Exp) → is_exp e ≡ true → IsSorted (g_in names) e →
        E.HaveTexts (guard_at same numbers ctx names fs e)
    guard_texts fs (X.And a b) h s =
        let p = and_parts (is_exp a) (is_exp b) h in
        let c = children_sorted (g_in names) (X.And a b) s in
        let x = exp_texts fs a p.0 c.0 truth in
        let y = guard_texts (Whole (exp_at same numbers ctx names fs a truth).right ∷ fs) b p.1 c.1.0 in
        by_two R.Logic _ _ _ refl (and_from _ _ x.program y.program) x y
    guard_texts fs e h s = exp_texts fs e h s truth

    all_texts : (fs : List Fact) (es : List Exp) (vs : List View) → each is_exp es ≡ true → AreSorted (g_in names) es →
        each is_exp (rights (all_at same numbers ctx names fs es vs)) ≡ true
    all_texts fs [] vs h s = refl
    all_texts fs (e ∷ es) [] h s = refl
    all_texts fs (e ∷ es) (v ∷ vs) h s =
        let p = and_parts (is_exp e) (each is_exp es) h in
        and_from _ _ (exp_texts fs e p.0 s.0 v).program (all_texts fs es vs p.1 s.1)

    trees_texts : (fs : List Fact) (es : List Exp) (vs : List View) (ts : Trees Rule) → each is_exp es ≡ true →
        AreSorted (g_in names) es → are_trees ts ≡ true →
        are_trees (trees_before (all_at same numbers ctx names fs es vs) ts) ≡ true
    trees_texts fs [] vs ts h s k = k
    trees_texts fs (e ∷ es) [] ts h s k = k
    trees_texts fs (e ∷ es) (v ∷ vs) ts h s k =
        let p = and_parts (is_exp e) (each is_exp es) h in
        and_from _ _ (exp_texts fs e p.0 s.0 v).rules (trees_texts fs es vs ts p.1 s.1 k)

    record PlaceHasText (p : PlaceAt) (left : Place) : Type 0 where
      program : is_place p.place ≡ true
      rules : is_tree (node (place_rule left) p.trees) ≡ true

    -- how many trees there are
    more_indices : (fs : List Fact) (path : Path) (ts : Trees Rule) →
        count ts ≤ count (indices same numbers (g_in names) names (among fs) path ts).trees
    more_indices fs X.Here ts = omega arith
    more_indices fs (X.IntoField k path) ts = more_indices fs path ts
    more_indices fs (X.IntoElement e path) ts = omega (arith, more_indices fs path ts)

    place_texts : (fs : List Fact) (place : Place) (t : Tree Rule) → (s : Sort) → place_sort (g_in names) place ≡ Some s →
        is_place place ≡ true → is_tree t ≡ true →
        PlaceHasText (place_at same numbers ctx names fs place (tree t no_trees)) place
    place_texts fs (M.Stored u p path) t s q h k =
        let r = root_sorted (g_in names) u p path s q in
        let i = and_parts (is_type u) (is_exp p && is_path path) h in
        let j = and_parts (is_exp p) (is_path path) i.1 in
        let x = exp_texts fs p j.0 r.0 (own (g_in names) p) in
        let y = path_texts fs path j.1 r.1 (tree t no_trees) (and_from (is_tree t) true k refl) in
        let more = more_indices fs path (tree t no_trees) in
        let parts = and_from _ _ x.rules y.rules in
        record {
          program = and_from _ _ i.0 (and_from _ _ x.program y.program);
          rules = and_from _ _ (and_from _ _ (least 2 _ (omega (arith, more))) refl) parts;
        }
    place_texts fs (M.Written u p path) t s q h k =
        let r = root_sorted (g_in names) u p path s q in
        let i = and_parts (is_type u) (is_exp p && is_path path) h in
        let j = and_parts (is_exp p) (is_path path) i.1 in
        let x = exp_texts fs p j.0 r.0 (own (g_in names) p) in
        let y = path_texts fs path j.1 r.1 (tree t no_trees) (and_from (is_tree t) true k refl) in
        let more = more_indices fs path (tree t no_trees) in
        let parts = and_from _ _ x.rules y.rules in
        record {
          program = and_from _ _ i.0 (and_from _ _ x.program y.program);
          rules = and_from _ _ (and_from _ _ (least 2 _ (omega (arith, more))) refl) parts;
        }
    place_texts fs (M.Global x path) t s q h k =
        let r = global_sorted (g_in names) (global_type ctx.globals x) path s q in
        let i = and_parts (is_name x) (is_path path) h in
        let y = path_texts fs path i.1 r (tree t no_trees) (and_from (is_tree t) true k refl) in
        let more = more_indices fs path (tree t no_trees) in
        record {
          program = and_from _ _ i.0 y.program;
          rules = and_from _ _ (and_from _ _ (least 1 _ (omega (arith, more))) refl) y.rules;
        }

  more_trees : (xs : List Abstracted) (ts : Trees Rule) → count ts ≤ count (trees_before xs ts)
  more_trees [] ts = omega arith
  more_trees (x ∷ xs) ts = omega (arith, more_trees xs ts)

  module _ (of_name : Name → Option Kind) (kinds : (x : Name) (k : Kind) → of_name x ≡ Some k → is_kind k ≡ true) where
    abbrev PA : List Fact → List Binder → Mon → List Kind → AbstractedProgram
    PA fs names m ks = program_abstracted same numbers ctx of_name fs names m ks

    -- the rules of the tree take it there
    abbrev pub IsTaken : List Fact → List Binder → Mon → List Kind → Type 0
    IsTaken fs names m ks =
        Accepts (table ctx) (PA fs names m ks).tree
        (program (record { facts = fs; names = names }) m (PA fs names m ks).right ks)

    -- of the trees of a loop, those behind the starts'
    abbrev begun : List Fact → List Binder → List Start → List Kind → List Abstracted
    begun fs names xs ks = all_at same numbers ctx names fs (start_exps xs) (views_for ks)

    behind_starts : (fs : List Fact) (names : List Binder) (xs : List Start) (ks : List Kind) (ts : Trees Rule) (cs : List Claim) →
        AcceptsAll (table ctx) (trees_before (begun fs names xs ks) ts)
        (claims (record { facts = fs; names = names }) (start_exps xs) (views_for ks)
        (start_exps (restarted xs (rights (begun fs names xs ks)))) ++ cs) → AcceptsAll (table ctx) ts cs
    behind_starts fs names [] ks ts cs h = h
    behind_starts fs names (x ∷ xs) [] ts cs h = h
    behind_starts fs names (x ∷ xs) (k ∷ ks) ts cs h = behind_starts fs names xs ks ts cs h.1

    pub program_texts : (fs : List Fact) (names : List Binder) (m : Mon) (ks : List Kind) → HaveKinds names → is_mon m ≡ true →
        binds_few m ≡ true → each is_kind ks ≡ true → scalars_given (words ctx names) m ≡ Some (map word_sort_of ks) →
        IsTaken fs names m ks → HaveTexts (PA fs names m ks)
    program_texts fs names (M.Ret es) ks n h w k q b =
        let s = each_sorted (g_in names) es (map word_sort_of ks) q in
        record {
          program = all_texts names n fs es (views_for ks) h s;
          few = refl;
          rules = and_from _ _ (and_from _ _ (least 0 _ (omega arith)) refl) (trees_texts names n fs es (views_for ks) no_trees h s refl);
        }
    program_texts fs names (M.Guard e) ks n h w k q b =
        let i = fits_inv (is_truth (program_sort (g_in names) e)) (Some []) (map word_sort_of ks) q in
        let x = exp_texts names n fs e h (truth_sorted (g_in names) e i.0) truth in
        record { program = x.program; few = refl; rules = and_from _ _ refl (and_from _ _ x.rules refl) }
    program_texts fs names (M.Write place e) ks n h w k q b =
        let i = fits_inv (fits_place (place_sort (g_in names) place) (program_sort (g_in names) e)) (Some []) (map word_sort_of ks) q in
        let f = fits_there (place_sort (g_in names) place) (program_sort (g_in names) e) i.0 in
        let p = and_parts (is_place place) (is_exp e) h in
        let y = exp_texts names n fs e p.1 (f.0, program_sort_inv (g_in names) e f.0 f.2) (own (g_in names) e) in
        let x = place_texts names n fs place (exp_at same numbers ctx names fs e (own (g_in names) e)).tree f.0 f.1 p.0 y.rules in
        record { program = and_from _ _ x.program y.program; few = refl; rules = x.rules }
    program_texts fs names (M.Pick j) ks n h w k q b = pick_texts j ks h
    program_texts fs names (M.Call f es) ks n h w k q b =
        let p = and_parts (is_name f) (each is_exp es) h in
        let s = signature ctx.functions f in
        let o = called_sorted (g_in names) word_sort_of s es (map word_sort_of ks) q in
        let vs = views_for (kinds_taken s) in
        let xs = all_at same numbers ctx names fs es vs in
        to_texts (same_kinds (kinds_given s) ks) (kinds_given s) ks
        (record { right = M.Call f (rights xs); tree = node R.Call (trees_before xs no_trees) }) (given f) k
        (record {
          program = and_from _ _ p.0 (all_texts names n fs es vs p.1 o);
          few = refl;
          rules = and_from _ _ (and_from _ _ (least 0 _ (omega arith)) refl) (trees_texts names n fs es vs no_trees p.1 o refl);
        })
    program_texts fs names (M.If e m m') ks n h w k q b =
        let t = words ctx names in
        let i = and_parts (is_exp e) (is_mon m && is_mon m') h in
        let j = and_parts (is_mon m) (is_mon m') i.1 in
        let l = and_parts (binds_few m) (binds_few m') w in
        let r = then_inv (scalars_given t m)
        (λ ss. where_fits (is_truth (program_sort (g_in names) e) && are_scalars ss (scalars_given t m')) (Some ss))
        (map word_sort_of ks) q in
        let f = fits_inv (is_truth (program_sort (g_in names) e) && are_scalars r.0 (scalars_given t m')) (Some r.0)
        (map word_sort_of ks) r.2 in
        let d = and_parts (is_truth (program_sort (g_in names) e)) (are_scalars r.0 (scalars_given t m')) f.0 in
        let x = exp_texts names n fs e i.0 (truth_sorted (g_in names) e d.0) truth in
        let e' = exp_at same numbers ctx names fs e truth in
        let y = program_texts (Whole e'.right ∷ fs) names m ks n j.0 l.0 k (r.1 ∙ f.1) b.1.1.0 in
        let z = program_texts (NotTrue e'.right ∷ fs) names m' ks n j.1 l.1 k (are_inv r.0 (scalars_given t m') d.1 ∙ f.1) b.1.1.1.0 in
        record {
          program = and_from _ _ x.program (and_from _ _ y.program z.program);
          few = and_from _ _ y.few z.few;
          rules = and_from _ _ refl (and_from _ _ x.rules (and_from _ _ y.rules (and_from _ _ z.rules refl)));
        }
    program_texts fs names (M.Bind m xs m') ks n h w k q b =
        let t = words ctx names in
        let i = and_parts (each is_name xs && are_distinct xs) (is_mon m && is_mon m') h in
        let j = and_parts (is_mon m) (is_mon m') i.1 in
        let l = and_parts (nat_le (length xs) most_names) (binds_few m && binds_few m') w in
        let o = and_parts (binds_few m) (binds_few m') l.1 in
        let r = then_inv (scalars_given t m)
        (λ ss. where_fits (one_for_each xs ss && are_distinct xs) (scalars_given (setting_with xs ss t) m'))
        (map word_sort_of ks) q in
        let f = fits_inv (one_for_each xs r.0 && are_distinct xs) (scalars_given (setting_with xs r.0 t) m')
        (map word_sort_of ks) r.2 in
        let cs = scalars_there (scalars_given t m) in
        let js = kinds_for of_name xs cs in
        let a = PA fs names m js in
        let sorts : r.0 ≡ map word_sort_of js =
        accepted_gives ctx (record { facts = fs; names = names }) a.tree m a.right js r.0 b.1.0 r.1 in
        let wide = subst AllWide (sym (ap scalars_there r.1))
        (given_wide word_sort_of ctx.functions calls m (g_in names) lay (wide_there names n) r.0 r.1) in
        let its_kinds = kinds_text of_name kinds xs cs wide in
        let y = program_texts fs names m js n j.0 o.0 its_kinds (r.1 ∙ ap (λ z. Some z) sorts) b.1.0 in
        let z = program_texts (facts_after a.right xs fs) (with_kinds xs js names) m' ks (more_kinds xs js names its_kinds n) j.1 o.1 k
        (sym (ap (λ s. scalars_given s m') (setting_after word_sort_of ctx xs js names))
        ∙ ap (λ ss. scalars_given (setting_with xs ss t) m') (sym sorts) ∙ f.1) b.1.1.0 in
        record {
          program = and_from _ _ i.0 (and_from _ _ y.program z.program);
          few = and_from _ _ l.0 (and_from _ _ y.few z.few);
          rules = and_from _ _ its_kinds (and_from _ _ y.rules (and_from _ _ z.rules refl));
        }
    program_texts fs names (M.Loop starts guard test m) ks n h w k q b =
        let t = words ctx names in
        let xs = start_names starts in
        let i = and_parts (each is_start starts && are_distinct xs) (is_exp guard && (is_exp test && is_mon m)) h in
        let i' = and_parts (each is_start starts) (are_distinct xs) i.0 in
        let j = and_parts (is_exp guard) (is_exp test && is_mon m) i.1 in
        let l = and_parts (is_exp test) (is_mon m) j.1 in
        let r = then_inv (start_scalars t.scope starts)
        (λ ss. let inner = setting_with xs ss t in
        where_fits (are_distinct xs && is_truth (program_sort inner.scope guard) && is_truth (program_sort inner.scope test)
        && are_scalars ss (scalars_given inner m)) (Some ss)) (map word_sort_of ks) q in
        let inner = setting_with xs r.0 t in
        let f = fits_inv (are_distinct xs && is_truth (program_sort inner.scope guard) && is_truth (program_sort inner.scope test)
        && are_scalars r.0 (scalars_given inner m)) (Some r.0) (map word_sort_of ks) r.2 in
        let same_scalars : r.0 ≡ map word_sort_of ks = some_is f.1 in
        let here : setting_with xs r.0 t ≡ words ctx (with_kinds xs ks names) =
        ap (λ ss. setting_with xs ss t) same_scalars ∙ setting_after word_sort_of ctx xs ks names in
        let d = and_parts (are_distinct xs && is_truth (program_sort inner.scope guard) && is_truth (program_sort inner.scope test))
        (are_scalars r.0 (scalars_given inner m)) f.0 in
        let e = and_parts (are_distinct xs && is_truth (program_sort inner.scope guard)) (is_truth (program_sort inner.scope test)) d.0 in
        let o = and_parts (are_distinct xs) (is_truth (program_sort inner.scope guard)) e.0 in
        let s = starts_sorted t.scope starts r.0 r.1 in
        let es = exps_of_starts starts i'.0 in
        let names' = with_kinds xs ks names in
        let n' = more_kinds xs ks names k n in
        let c = guard_at same numbers ctx names' [] guard in
        let u = exp_at same numbers ctx names' (Whole c.right ∷ []) test truth in
        let vs = views_for ks in
        let as' = all_at same numbers ctx names fs (start_exps starts) vs in
        let a = PA (Whole u.right ∷ Whole c.right ∷ []) names' m ks in
        let ts = tree c.tree (tree u.tree (tree a.tree no_trees)) in
        let rest = behind_starts fs names starts ks ts
        (expression (record { facts = []; names = names' }) guard truth c.right
        ∷ expression (record { facts = Whole c.right ∷ []; names = names' }) test truth u.right
        ∷ program (record { facts = Whole u.right ∷ Whole c.right ∷ []; names = names' }) m a.right ks ∷ []) b.1 in
        let x = guard_texts names' n' [] guard j.0
        (truth_sorted (g_in names') guard (sym (ap (λ z. is_truth (program_sort z.scope guard)) here) ∙ o.1)) in
        let y = exp_texts names' n' (Whole c.right ∷ []) test l.0
        (truth_sorted (g_in names') test (sym (ap (λ z. is_truth (program_sort z.scope test)) here) ∙ e.1)) truth in
        let z = program_texts (Whole u.right ∷ Whole c.right ∷ []) names' m ks n' l.1 w k
        (sym (ap (λ z. scalars_given z m) here) ∙ are_inv r.0 (scalars_given inner m) d.1 ∙ f.1) rest.1.1.0 in
        record {
          program = and_from _ _
              (and_from _ _ (started starts (rights as') i'.0 (all_texts names n fs (start_exps starts) vs es s))
              (still_distinct starts (rights as') i'.1))
              (and_from _ _ x.program (and_from _ _ y.program z.program));
          few = z.few;
          rules = and_from _ _ (and_from _ _ (least 3 _ (omega (arith, more_trees as' ts))) k)
              (trees_texts names n fs (start_exps starts) vs ts es s
              (and_from _ _ x.rules (and_from _ _ y.rules (and_from _ _ z.rules refl))));
        }
