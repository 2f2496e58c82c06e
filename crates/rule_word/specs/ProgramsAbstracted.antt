-- Programs on words made programs on what stands for them: names have the kinds that a table of the function's locals says, and a
-- call whose result isn't of the kind that is wanted is recast, through words where there is no direct way.
use Rattle.std.specs.Prelude.{◌==◌, Bool, true, false, ◌&&◌, List, [], ◌∷◌, Option, Some, None, if◌then◌else◌}
use Rattle.c_values.specs.Name.{Name}
use Rattle.expression_lang.specs.Expression as X
use Rattle.expression_lang.specs.Expression.{Exp}
use Rattle.expression_lang.specs.Sort.{Scalar, WordSort, NumberSort, TruthSort, Kind, WordKind, NatKind, IntKind, BoolKind, same_scalar, word_sort_of}
use Rattle.expression_lang.specs.Signature.{Binder, signature}
use Rattle.ac_expr.specs.Fact.{Fact, Whole, NotTrue}
use Rattle.monad_lang.specs.Program as M
use Rattle.monad_lang.specs.Program.{Mon, Place, Start}
use Rattle.monad_lang.specs.Run.{start_names}
use Rattle.monad_lang.specs.Sorted.{Setting, setting_with, scalars_given, start_scalars}
use Rattle.program_facts.specs.Flow.{facts_after}
use Rattle.rule_trees.specs.RuleTree.{Tree, Trees, node, no_trees, tree}
use Rattle.rule_word.specs.Rule as R
use Rattle.rule_word.specs.Rule.{Rule, Context, View}
use Rattle.rule_word.specs.Scopes.{with_kinds, words, own}
use Rattle.rule_word.specs.Table.{truth, views_for, recasts}
use Rattle.rule_parts.specs.Starts.{start_exps}
use Rattle.rule_word.specs.Kept.{kinds_taken, kinds_given}
use Rattle.rule_word.specs.Bases.{among}
use Rattle.rule_word.specs.WordsAbstracted.{Abstracted, made, one, two, abstracted, indices}

pub record AbstractedProgram : Type 0 where
  pub right : Mon
  pub tree : Tree Rule

abbrev pub rights : List Abstracted → List Exp
rights [] = []
rights (x ∷ xs) = x.right ∷ rights xs

abbrev pub trees_before : List Abstracted → Trees Rule → Trees Rule
trees_before [] ts = ts
trees_before (x ∷ xs) ts = tree x.tree (trees_before xs ts)

abbrev pub restarted : List Start → List Exp → List Start
restarted (x ∷ xs) (e ∷ es) = record { name = x.name; exp = e } ∷ restarted xs es
restarted _ _ = []

-- the kind of a name: that of the table where it is of the sort, else a word's or a truth value's
abbrev pub word_kind_of : Scalar → Kind
word_kind_of (WordSort n) = WordKind n
word_kind_of NumberSort = BoolKind
word_kind_of TruthSort = BoolKind

abbrev pub kind_for : Option Kind → Scalar → Kind
kind_for None c = word_kind_of c
kind_for (Some k) c = if same_scalar (word_sort_of k) c then k else word_kind_of c

abbrev pub kinds_for : (Name → Option Kind) → List Name → List Scalar → List Kind
kinds_for table xs [] = []
kinds_for table [] (c ∷ cs) = word_kind_of c ∷ kinds_for table [] cs
kinds_for table (x ∷ xs) (c ∷ cs) = kind_for (table x) c ∷ kinds_for table xs cs

abbrev pub scalars_there : Option (List Scalar) → List Scalar
scalars_there None = []
scalars_there (Some cs) = cs

abbrev pub same_kind : Kind → Kind → Bool
same_kind (WordKind m) (WordKind n) = m == n
same_kind (NatKind m) (NatKind n) = m == n
same_kind (IntKind m) (IntKind n) = m == n
same_kind BoolKind BoolKind = true
same_kind _ _ = false

abbrev pub same_kinds : List Kind → List Kind → Bool
same_kinds [] [] = true
same_kinds (j ∷ js) (k ∷ ks) = same_kind j k && same_kinds js ks
same_kinds _ _ = false

-- what is at the kinds js, under names, at the kinds ks
abbrev pub recast_by : List Kind → List Name → Option (List Exp) → AbstractedProgram → AbstractedProgram
recast_by js ys None x = x
recast_by js ys (Some es) x =
    record { right = M.Bind x.right ys (M.Ret es); tree = node (R.Recast js) (tree x.tree no_trees) }

-- a result has the one name `$r`
abbrev pub result_names : List Kind → List Name
result_names [] = []
result_names (k ∷ ks) = (36 ∷ 114 ∷ []) ∷ []

abbrev pub in_words : List Kind → List Kind
in_words [] = []
in_words (k ∷ ks) = word_kind_of (word_sort_of k) ∷ in_words ks

abbrev pub through_words : List Kind → List Kind → List Name → AbstractedProgram → AbstractedProgram
through_words js ks ys x =
    recast_by (in_words js) ys (recasts (in_words js) ks ys) (recast_by js ys (recasts js (in_words js) ys) x)

abbrev pub recast_or : List Kind → List Kind → List Name → Option (List Exp) → AbstractedProgram → AbstractedProgram
recast_or js ks ys None x = through_words js ks ys x
recast_or js ks ys (Some es) x = recast_by js ys (Some es) x

abbrev pub recast_to : Bool → List Kind → List Kind → AbstractedProgram → AbstractedProgram
recast_to true js ks x = x
recast_to false js ks x = let ys = result_names js in recast_or js ks ys (recasts js ks ys) x

abbrev pub pick_at : Kind → List Kind → AbstractedProgram
pick_at (WordKind n) (NatKind m ∷ []) = record { right = M.Pick (NatKind n); tree = node R.PickNat no_trees }
pick_at (WordKind n) (IntKind m ∷ []) = record { right = M.Pick (IntKind n); tree = node R.PickInt no_trees }
pick_at k ks = record { right = M.Pick k; tree = node R.Pick no_trees }

-- a place, and the trees of its children before others
pub record PlaceAt : Type 0 where
  pub place : Place
  pub trees : Trees Rule

abbrev pub place_rule : Place → Rule
place_rule (M.Stored t p path) = R.Write
place_rule (M.Written t p path) = R.Write
place_rule (M.Global x path) = R.Global

module _ (same : Exp → Exp → Bool) (numbers : Bool) (ctx : Context) where
  abbrev pub exp_at : List Binder → List Fact → Exp → View → Abstracted
  exp_at names fs e v = abstracted same numbers (words ctx names).scope names (among fs) e v

  -- A loop's guard is conditions one after the other: each is known where the next stands, as after a guard of a program.
  abbrev pub guard_at : List Binder → List Fact → Exp → Abstracted
  guard_at names fs (X.And a b) =
      let x = exp_at names fs a truth in
      let y = guard_at names (Whole x.right ∷ fs) b in made R.Logic (X.And x.right y.right) (two x y)
  guard_at names fs e = exp_at names fs e truth

  abbrev pub all_at : List Binder → List Fact → List Exp → List View → List Abstracted
  all_at names fs (e ∷ es) (v ∷ vs) = exp_at names fs e v ∷ all_at names fs es vs
  all_at names fs _ _ = []

  abbrev pub place_at : List Binder → List Fact → Place → Trees Rule → PlaceAt
  place_at names fs (M.Stored t p path) ts =
      let x = exp_at names fs p (own (words ctx names).scope p) in
      let i = indices same numbers (words ctx names).scope names (among fs) path ts in record
      { place = M.Stored t x.right i.path; trees = tree x.tree i.trees }
  place_at names fs (M.Written t p path) ts =
      let x = exp_at names fs p (own (words ctx names).scope p) in
      let i = indices same numbers (words ctx names).scope names (among fs) path ts in record
      { place = M.Written t x.right i.path; trees = tree x.tree i.trees }
  place_at names fs (M.Global x path) ts =
      let i = indices same numbers (words ctx names).scope names (among fs) path ts in record
      { place = M.Global x i.path; trees = i.trees }

module _ (same : Exp → Exp → Bool) (numbers : Bool) (ctx : Context) (table : Name → Option Kind) where
  -- the program, where these facts are known, the names in scope have these kinds, and these kinds are wanted
  abbrev pub program_abstracted : List Fact → List Binder → Mon → List Kind → AbstractedProgram
  program_abstracted fs names (M.Ret es) ks =
      let xs = all_at same numbers ctx names fs es (views_for ks) in record
      { right = M.Ret (rights xs); tree = node R.Ret (trees_before xs no_trees) }
  program_abstracted fs names (M.Bind m xs n) ks =
      let js = kinds_for table xs (scalars_there (scalars_given (words ctx names) m)) in
      let a = program_abstracted fs names m js in
      let b = program_abstracted (facts_after a.right xs fs) (with_kinds xs js names) n ks in record
      { right = M.Bind a.right xs b.right; tree = node (R.Bind js) (tree a.tree (tree b.tree no_trees)) }
  program_abstracted fs names (M.Guard e) ks =
      let x = exp_at same numbers ctx names fs e truth in record { right = M.Guard x.right; tree = node R.Guard (one x) }
  program_abstracted fs names (M.If e m n) ks =
      let x = exp_at same numbers ctx names fs e truth in
      let a = program_abstracted (Whole x.right ∷ fs) names m ks in
      let b = program_abstracted (NotTrue x.right ∷ fs) names n ks in record
      { right = M.If x.right a.right b.right; tree = node R.If (tree x.tree (tree a.tree (tree b.tree no_trees))) }
  program_abstracted fs names (M.Write place e) ks =
      let y = exp_at same numbers ctx names fs e (own (words ctx names).scope e) in
      let p = place_at same numbers ctx names fs place (one y) in record
      { right = M.Write p.place y.right; tree = node (place_rule place) p.trees }
  program_abstracted fs names (M.Loop starts guard test m) ks =
      let xs = all_at same numbers ctx names fs (start_exps starts) (views_for ks) in
      let inner = with_kinds (start_names starts) ks names in
      let c = guard_at same numbers ctx inner [] guard in
      let t = exp_at same numbers ctx inner (Whole c.right ∷ []) test truth in
      let a = program_abstracted (Whole t.right ∷ Whole c.right ∷ []) inner m ks in
      record {
        right = M.Loop (restarted starts (rights xs)) c.right t.right a.right;
        tree = node (R.Loop ks)
            (trees_before xs (tree c.tree (tree t.tree (tree a.tree no_trees))));
      }
  program_abstracted fs names (M.Call f es) ks =
      let s = signature ctx.functions f in
      let xs = all_at same numbers ctx names fs es (views_for (kinds_taken s)) in
      recast_to (same_kinds (kinds_given s) ks) (kinds_given s) ks
      (record { right = M.Call f (rights xs); tree = node R.Call (trees_before xs no_trees) })
  program_abstracted fs names (M.Pick k) ks = pick_at k ks

-- each bound name is a word or a truth value
abbrev pub is_word_or_truth : Scalar → Bool
is_word_or_truth (WordSort n) = true
is_word_or_truth NumberSort = false
is_word_or_truth TruthSort = true

abbrev pub are_words_or_truths : List Scalar → Bool
are_words_or_truths [] = true
are_words_or_truths (c ∷ cs) = is_word_or_truth c && are_words_or_truths cs

abbrev pub binds_words : Setting → Mon → Bool
binds_words t (M.Bind m xs n) =
    let cs = scalars_there (scalars_given t m) in are_words_or_truths cs && binds_words t m && binds_words
    (setting_with xs cs t) n
binds_words t (M.If e m n) = binds_words t m && binds_words t n
binds_words t (M.Loop starts guard test m) =
    binds_words (setting_with (start_names starts) (scalars_there (start_scalars t.scope starts)) t) m
binds_words t m = true
