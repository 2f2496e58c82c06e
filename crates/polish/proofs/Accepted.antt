-- What programs are made tidy by is accepted.
use Rattle.std.proofs.Common.{◌≡◌, ℕ, zero, suc, Bool, true, false, cond, ◌&&◌, List, [], ◌∷◌, ◌++◌, map, Option, Some, None, unwrap_or, inl, inr, refl, sym, ap, ap₂, ◌∙◌, subst}
use Rattle.std.proofs.lemmas.Bool.{and_parts, cond_both, true≢false}
use Rattle.c_values.specs.Name.{Name, same_name, are_distinct}
use Rattle.c_values.specs.Layout.{IsLayout}
use Rattle.c_values.proofs.Laid.{name_is}
use Rattle.c_values.proofs.Options.{some_is}
use Rattle.expression_lang.specs.Expression.{Exp, Var, WordLit, NumberLit, TruthLit}
use Rattle.expression_lang.specs.Form.{is_part_of_value}
use Rattle.expression_lang.specs.Sort.{Scalar, is_truth}
use Rattle.expression_lang.specs.Sorted.{program_sort}
use Rattle.ac_expr.specs.Fact.{Whole, NotTrue}
use Rattle.monad_lang.specs.Program as M
use Rattle.monad_lang.specs.Program.{Mon, Start}
use Rattle.monad_lang.specs.Run.{start_names}
use Rattle.monad_lang.specs.Names.{is_free}
use Rattle.monad_lang.specs.Form.{are_vars, is_bind_ret, all_kept, is_true_guard, can_be_put}
use Rattle.monad_lang.specs.Sorted.{Setting, setting_with, start_scalars, scalars_given, one_for_each, are_scalars, and_then_scalars, where_fits}
use Rattle.monad_lang.proofs.Given.{then_parts, fits_parts, given_there}
use Rattle.program_facts.specs.Substituted.{program_substituted}
use Rattle.rule_trees.specs.RuleTree.{Tree, Trees, node, no_trees, tree}
use Rattle.rule_eq.specs.Rule as R
use Rattle.rule_eq.specs.Rule.{Rule, Point}
use Rattle.rule_eq.specs.Table.{Taken, before, taken_at, AreTaken, Takes, knowing, behind, within, with_values, row}
use Rattle.rule_eq.proofs.SimplerKept.{simpler_gives}
use Rattle.rule_eq.proofs.TidyPlaces.{put_stands, put_alike, one_in}
use Rattle.expression_steps.specs.Rewritten.{direct_nodes}
use Rattle.polish.specs.Direct.{direct_step, more, direct_steps}
use Rattle.expression_steps.specs.Shortened.{shortened}
use Rattle.expression_steps.specs.Known.{is_known}
use Rattle.polish.specs.Polished.{Polished, Way, leaf, exp_tree, bind_tree, if_tree, last_of, unchanged, at_once, and_then, shortened_in, what_is_bound, one_later, first_put, is_literal, first_constant, put_taken, put_at, turned, or_shorter, bound, then_all, settled, put_or_settled, parted, followed, chosen, turning, polished_with, polished_within, positions, polished}
use Rattle.polish.proofs.Trees.{Gives, nothing_taken, joined_taken, bind_taken, if_taken, loop_taken}
use Rattle.polish.proofs.Apart.{direct_apart}
use Rattle.polish.proofs.Folds.{whole_constant}
use Rattle.polish.proofs.Shortened.{shortened_steps, shortened_sorts, shortened_free}
use Rattle.expression_steps.proofs.KnownIs.{known_exactly}
use Rattle.polish.proofs.DirectSorts.{direct_gives}
use Rattle.polish.specs.Parts.{IsIf, IsLoop}
use Rattle.polish.proofs.Alike.{steps_alike}

-- the tree takes a program there, and it gives the same scalars
pub record Reaches (at : Point) (t : Tree Rule) (m n : Mon) (cs : List Scalar) : Type 0 where
  pub takes : Takes at t m n
  pub gives : Gives at n cs

-- at a point where the program is well-sorted
abbrev pub IsReached : Point → Mon → Polished → Type 0
IsReached at m p = (cs : List Scalar) → Gives at m cs → Reaches at p.tree m p.program cs

abbrev pub IsLaid : Point → Type 0
IsLaid at = IsLayout at.setting.scope.layout

-- a way that leads wherever a program is well-sorted
abbrev pub Leads : Way → Type 0
Leads way = (at : Point) → IsLaid at → (m : Mon) → IsReached at m (way at m)

abbrev pub and_tree : Tree Rule → Mon → Polished
and_tree t m = record { program = m; tree = t }

pub then_reached : (at : Point) (t : Tree Rule) (m n : Mon) (cs : List Scalar) (p : Polished) → Reaches at t m n cs →
    IsReached at n p → Reaches at (and_then t n p).tree m (and_then t n p).program cs
then_reached at t m n cs p h k =
    let j = k cs h.gives in
    record { takes = joined_taken at t p.tree m n p.program cs h.takes j.takes h.gives j.gives; gives = j.gives }

pub itself_reached : (at : Point) (m : Mon) → IsReached at m (unchanged m)
itself_reached at m cs g = record { takes = nothing_taken at m; gives = g }

-- Sorts of programs with other parts

pub bind_gives : (t : Setting) (m m' : Mon) (xs : List Name) (n : Mon) (cs : List Scalar) →
    scalars_given t (M.Bind m xs n) ≡ Some cs →
    (ss : List Scalar) × (scalars_given t m ≡ Some ss) × (scalars_given (setting_with xs ss t) n ≡ Some cs)
    ×
    (scalars_given t m' ≡ Some ss → (n' : Mon) → scalars_given (setting_with xs ss t) n' ≡ Some cs → scalars_given t
    (M.Bind m' xs n') ≡ Some cs)
bind_gives t m m' xs n cs h =
    let o = then_parts (scalars_given t m)
    (λ ss. where_fits (one_for_each xs ss && are_distinct xs) (scalars_given (setting_with xs ss t) n)) cs h in
    let f = fits_parts (one_for_each xs o.0 && are_distinct xs) (scalars_given (setting_with xs o.0 t) n) cs o.2 in (
      o.0,
      o.1,
      f.1,
      λ i n' j.
          ap
          (λ q.
          and_then_scalars q
          (λ ss. where_fits (one_for_each xs ss && are_distinct xs) (scalars_given (setting_with xs ss t) n')))
          i
          ∙ ap (λ b. where_fits b (scalars_given (setting_with xs o.0 t) n')) f.0 ∙ j,
    )

pub behind_gives : (at : Point) (m : Mon) (xs : List Name) (n : Mon) (ss cs : List Scalar) → Gives at m ss →
    scalars_given (setting_with xs ss at.setting) n ≡ Some cs → Gives (behind m xs at) n cs
behind_gives at m xs n ss cs h k = ap (λ o. scalars_given (setting_with xs (unwrap_or o []) at.setting) n) h ∙ k

pub gives_behind : (at : Point) (m : Mon) (xs : List Name) (n : Mon) (ss cs : List Scalar) → Gives at m ss →
    Gives (behind m xs at) n cs → scalars_given (setting_with xs ss at.setting) n ≡ Some cs
gives_behind at m xs n ss cs h k = sym (ap (λ o. scalars_given (setting_with xs (unwrap_or o []) at.setting) n) h) ∙ k

pub if_gives : (t : Setting) (e : Exp) (m n : Mon) (cs : List Scalar) → scalars_given t (M.If e m n) ≡ Some cs →
    (scalars_given t m ≡ Some cs) × (scalars_given t n ≡ Some cs)
    × ((m' n' : Mon) → scalars_given t m' ≡ Some cs → scalars_given t n' ≡ Some cs → scalars_given t (M.If e m' n') ≡ Some cs)
if_gives t e m n cs h =
    let o = then_parts (scalars_given t m)
    (λ ss. where_fits (is_truth (program_sort t.scope e) && are_scalars ss (scalars_given t n)) (Some ss)) cs h in
    let f = fits_parts (is_truth (program_sort t.scope e) && are_scalars o.0 (scalars_given t n)) (Some o.0) cs o.2 in
    let b = and_parts (is_truth (program_sort t.scope e)) (are_scalars o.0 (scalars_given t n)) f.0 in
    let same = some_is f.1 in
    let second = given_there o.0 (scalars_given t n) b.1 ∙ ap (λ ss. Some ss) same in (
      o.1 ∙ ap (λ ss. Some ss) same,
      second,
      λ m' n' i j.
          ap₂ (λ q r. and_then_scalars q (λ ss. where_fits (is_truth (program_sort t.scope e) && are_scalars ss r) (Some ss)))
          (i ∙ sym (o.1 ∙ ap (λ ss. Some ss) same)) (j ∙ sym second) ∙ h,
    )

pub loop_gives : (t : Setting) (starts : List Start) (guard test : Exp) (m : Mon) (cs : List Scalar) →
    scalars_given t (M.Loop starts guard test m) ≡ Some cs →
    (start_scalars t.scope starts ≡ Some cs) × (scalars_given (setting_with (start_names starts) cs t) m ≡ Some cs)
    ×
    ((m' : Mon) → scalars_given (setting_with (start_names starts) cs t) m' ≡ Some cs → scalars_given t
    (M.Loop starts guard test m') ≡ Some cs)
loop_gives t starts guard test m cs h =
    let o = then_parts (start_scalars t.scope starts) (λ ss. turn m ss) cs h in
    let f = fits_parts (tests o.0 && are_scalars o.0 (scalars_given (inner o.0) m)) (Some o.0) cs o.2 in
    let b = and_parts (tests o.0) (are_scalars o.0 (scalars_given (inner o.0) m)) f.0 in
    let same = some_is f.1 in
    let body = subst (λ ss. scalars_given (inner ss) m ≡ Some ss) same (given_there o.0 (scalars_given (inner o.0) m) b.1) in
    let begin = o.1 ∙ ap (λ ss. Some ss) same in (
      begin,
      body,
      λ m' i.
          ap (λ q. and_then_scalars q (λ ss. turn m' ss)) begin
          ∙ ap (λ r. where_fits (tests cs && are_scalars cs r) (Some cs)) (i ∙ sym body) ∙ sym
          (ap (λ q. and_then_scalars q (λ ss. turn m ss)) begin) ∙ h,
    )
  where
    inner : List Scalar → Setting
    inner ss = setting_with (start_names starts) ss t

    tests : List Scalar → Bool
    tests ss =
        are_distinct (start_names starts) && is_truth (program_sort (inner ss).scope guard) && is_truth
        (program_sort (inner ss).scope test)

    turn : Mon → List Scalar → Option (List Scalar)
    turn n ss = where_fits (tests ss && are_scalars ss (scalars_given (inner ss) n)) (Some ss)

-- Steps of expressions

pub steps_reach : (at : Point) → IsLaid at → (n : ℕ) (m : Mon) →
    IsReached at m (and_tree (exp_tree (direct_steps shortened at n m)) (last_of m (direct_steps shortened at n m)))
steps_reach at laid zero m cs g = record { takes = nothing_taken at m; gives = g }
steps_reach at laid (suc n) m cs g = by_step (direct_step shortened at m) refl (λ x. steps_reach at laid n x)
  where
    by_step : (o : Option Mon) → direct_step shortened at m ≡ o →
        ((x : Mon) → IsReached at x
        (and_tree (exp_tree (direct_steps shortened at n x)) (last_of x (direct_steps shortened at n x)))) →
        Reaches at (exp_tree (more o (λ x. direct_steps shortened at n x))) m
        (last_of m (more o (λ x. direct_steps shortened at n x))) cs
    by_step None e r = record { takes = nothing_taken at m; gives = g }
    by_step (Some x) e r =
        let i = direct_gives shortened (λ h. shortened_free is_part_of_value whole_constant h) at.setting.scope.layout
        (λ h q. shortened_sorts h (subst IsLayout (sym q) laid)) at refl m x e cs g in
        let j = r x cs i in
        record {
          takes =
              joined_taken at (leaf R.Exp) (exp_tree (direct_steps shortened at n x)) m x
              (last_of x (direct_steps shortened at n x)) cs (direct_apart shortened shortened_steps at m x e, tt) j.takes i
              j.gives;
          gives = j.gives;
        }

pub shortened_reached : (at : Point) → IsLaid at → (m : Mon) → IsReached at m (shortened_in at m)
shortened_reached at laid m = steps_reach at laid (direct_nodes m) m

-- Steps at a sequence

-- what is tried first
vars_are : (xs : List Name) (es : List Exp) → are_vars xs es ≡ true → es ≡ map (λ x. Var x) xs
vars_are [] [] h = refl
vars_are (x ∷ xs) (Var y ∷ es) h =
    let p = and_parts (same_name x y) (are_vars xs es) h in ap₂ (λ z zs. Var z ∷ zs) (sym (name_is x y p.0))
    (vars_are xs es p.1)
vars_are _ _ h = absurd (true≢false (sym h))

pub bound_holds : (at : Point) (m : Mon) (xs : List Name) (n : Mon) → is_bind_ret m xs n ≡ true →
    (row at R.BindRet (M.Bind m xs n) (what_is_bound m xs n)).holds
bound_holds at (M.Ret []) [] n h = inr (refl, refl, refl)
bound_holds at m xs (M.Ret es) h = inl (ap (λ q. M.Ret q) (vars_are xs es h), refl)
bound_holds at m xs n h = absurd (true≢false (sym h))

guard_reaches : (at : Point) (m : Mon) (xs : List Name) (n : Mon) (cs : List Scalar) → is_true_guard m xs ≡ true →
    Gives at (M.Bind m xs n) cs → Reaches at (leaf R.GuardKnown) (M.Bind m xs n) n cs
guard_reaches at (M.Guard (TruthLit true)) [] n cs h g =
    record {
      takes = ((inl refl, refl), tt);
      gives = simpler_gives at R.GuardKnown (M.Bind (M.Guard (TruthLit true)) [] n) n cs tt
          (inl refl, refl) g;
    }
guard_reaches at m xs n cs h g = absurd (true≢false (sym h))

shorter_reached : (at : Point) (m : Mon) (xs : List Name) (n : Mon) (p : Polished) → IsReached at (M.Bind m xs n) p →
    IsReached at (M.Bind m xs n) (or_shorter m xs n p)
shorter_reached at m xs n p h cs g =
    cond_both (is_bind_ret m xs n) (at_once R.BindRet (what_is_bound m xs n))
    (cond (is_true_guard m xs) (at_once R.GuardKnown n) p) (λ q. Reaches at q.tree (M.Bind m xs n) q.program cs)
    (λ e.
    let k = bound_holds at m xs n e in
    record { takes = (k, tt); gives = simpler_gives at R.BindRet (M.Bind m xs n) (what_is_bound m xs n) cs tt k g })
    (λ e.
    cond_both (is_true_guard m xs) (at_once R.GuardKnown n) p (λ q. Reaches at q.tree (M.Bind m xs n) q.program cs)
    (λ i. guard_reaches at m xs n cs i g) (λ i. h cs g))

-- the value at the first position that can be put in
pub record Put (front : List Name) (i : ℕ) (es : List Exp) (xs : List Name) (n : Mon) : Type 0 where
  pub value : Taken
  pub taken : taken_at i es xs ≡ Some value
  pub put : can_be_put value.exp value.name (front ++ value.names) n ≡ true

later_put : (o : Option ℕ) (i : ℕ) → one_later o ≡ Some i → (j : ℕ) × (o ≡ Some j) × (suc j ≡ i)
later_put None i h = absurd cc
later_put (Some j) i h = let e : suc j ≡ i = cc in (j, refl, e)

pub first_is_put : (front : List Name) (i : ℕ) (es : List Exp) (xs : List Name) (n : Mon) → first_put front es xs n ≡ Some i →
    Put front i es xs n
first_is_put front i (e ∷ es) (x ∷ xs) n h =
    by_test (can_be_put e x (front ++ xs) n) refl h (λ j k. first_is_put (x ∷ front) j es xs n k)
  where
    by_test : (b : Bool) → can_be_put e x (front ++ xs) n ≡ b →
        cond b (Some zero) (one_later (first_put (x ∷ front) es xs n)) ≡ Some i →
        ((j : ℕ) → first_put (x ∷ front) es xs n ≡ Some j → Put (x ∷ front) j es xs n) → Put front i (e ∷ es) (x ∷ xs) n
    by_test true c k r =
        let z : zero ≡ i = cc in
        subst (λ j. Put front j (e ∷ es) (x ∷ xs) n) z
        (record { value = record { exp = e; name = x; exps = es; names = xs }; taken = refl; put = c })
    by_test false c k r =
        let q = later_put (first_put (x ∷ front) es xs n) i k in
        let f = r q.0 q.1 in
        subst (λ j. Put front j (e ∷ es) (x ∷ xs) n) q.2
        (record {
          value = record { exp = f.value.exp; name = f.value.name; exps = e ∷ f.value.exps; names = x ∷ f.value.names };
          taken = ap (λ o. before e x o) f.taken;
          put =
              sym
              (put_alike f.value.exp f.value.name (x ∷ (front ++ f.value.names)) (front ++ (x ∷ f.value.names)) n
              (λ y. one_in y x front f.value.names))
              ∙ f.put;
        })
first_is_put front i [] xs n h = absurd cc
first_is_put front i (e ∷ es) [] n h = absurd cc

-- a constant can be put in anywhere

pub literal_put : (e : Exp) (x : Name) (others : List Name) (n : Mon) → is_literal e ≡ true → can_be_put e x others n ≡ true
literal_put (WordLit w) x others n h = refl
literal_put (NumberLit k) x others n h = refl
literal_put (TruthLit b) x others n h = refl
literal_put e x others n h = absurd cc

record Literal (i : ℕ) (es : List Exp) (xs : List Name) : Type 0 where
  pub value : Taken
  pub taken : taken_at i es xs ≡ Some value
  pub literal : is_literal value.exp ≡ true

first_is_literal : (i : ℕ) (es : List Exp) (xs : List Name) (n : Mon) → first_constant es xs n ≡ Some i → Literal i es xs
first_is_literal i (e ∷ es) (x ∷ xs) n h =
    by_test (is_literal e && is_free x n) refl h (λ j k. first_is_literal j es xs n k)
  where
    by_test : (b : Bool) → (is_literal e && is_free x n) ≡ b →
        cond b (Some zero) (one_later (first_constant es xs n)) ≡ Some i →
        ((j : ℕ) → first_constant es xs n ≡ Some j → Literal j es xs) → Literal i (e ∷ es) (x ∷ xs)
    by_test true c k r =
        let z : zero ≡ i = cc in
        subst (λ j. Literal j (e ∷ es) (x ∷ xs)) z
        (record {
          value = record { exp = e; name = x; exps = es; names = xs };
          taken = refl;
          literal = (and_parts (is_literal e) (is_free x n) c).0;
        })
    by_test false c k r =
        let q = later_put (first_constant es xs n) i k in
        let f = r q.0 q.1 in
        subst (λ j. Literal j (e ∷ es) (x ∷ xs)) q.2
        (record {
          value = record { exp = f.value.exp; name = f.value.name; exps = e ∷ f.value.exps; names = x ∷ f.value.names };
          taken = ap (λ o. before e x o) f.taken;
          literal = f.literal;
        })
first_is_literal i [] xs n h = absurd cc
first_is_literal i (e ∷ es) [] n h = absurd cc

pub constant_put : (i : ℕ) (es : List Exp) (xs : List Name) (n : Mon) → first_constant es xs n ≡ Some i → Put [] i es xs n
constant_put i es xs n h =
    let f = first_is_literal i es xs n h in
    record { value = f.value; taken = f.taken; put = literal_put f.value.exp f.value.name f.value.names n f.literal }

-- a sequence of names that are given back

whole_reached : (at : Point) (a : Mon) (zs : List Name) (b : Mon) (xs : List Name) (n : Mon) →
    is_bind_ret (M.Bind a zs b) xs n ≡ true →
    IsReached at (M.Bind (M.Bind a zs b) xs n) (at_once R.BindRet (M.Bind a zs b))
whole_reached at a zs b xs n e cs g =
    let k = bound_holds at (M.Bind a zs b) xs n e in
    record {
      takes = (k, tt);
      gives = simpler_gives at R.BindRet (M.Bind (M.Bind a zs b) xs n) (M.Bind a zs b) cs tt k g;
    }

-- A tree that goes to the second part of a sequence alone: the first part is the same, and it goes from the one second part to
-- the other.

same_first : (at : Point) (ts : Trees Rule) (t : Tree Rule) (ra : Mon) (rs : List Name) (rb a : Mon) (zs : List Name) (b : Mon) →
    Takes at (node R.Bind (tree (node R.Refl ts) (tree t no_trees))) (M.Bind ra rs rb) (M.Bind a zs b) →
    (M.Bind a zs rb ≡ M.Bind ra rs rb) × (Takes (behind a zs at) t rb b)
same_first at ts t ra rs rb a zs b h = (ap₂ (λ x ys. M.Bind x ys rb) h.1.0.0 h.0, h.1.1.0)

first_parted : (at : Point) (t : Tree Rule) (m a : Mon) (zs : List Name) (b : Mon) → IsReached at m (and_tree t (M.Bind a zs b)) →
    IsReached at m (and_tree (parted t m b).before (M.Bind a zs (parted t m b).second))
first_parted at (node R.Bind (tree (node R.Refl ts) (tree t no_trees))) (M.Bind ra rs rb) a zs b h cs g =
    let k = same_first at ts t ra rs rb a zs b (h cs g).takes in
    record { takes = (k.0, tt); gives = ap (λ m. scalars_given at.setting m) k.0 ∙ g }
first_parted at t m a zs b h cs g = h cs g

second_parted : (at : Point) (t : Tree Rule) (m a : Mon) (zs : List Name) (b : Mon) (cs : List Scalar) → Gives at m cs →
    IsReached at m (and_tree t (M.Bind a zs b)) →
    IsReached (behind a zs at) (parted t m b).second (and_tree (parted t m b).tree b)
second_parted at (node R.Bind (tree (node R.Refl ts) (tree t no_trees))) (M.Bind ra rs rb) a zs b cs g h cs' g' =
    let i = h cs g in
    let k = same_first at ts t ra rs rb a zs b i.takes in
    let o = bind_gives at.setting a a zs rb cs (ap (λ m. scalars_given at.setting m) k.0 ∙ g) in
    let q = bind_gives at.setting a a zs b cs i.gives in
    let there = behind_gives at a zs b q.0 cs q.1 q.2 in
    let same = some_is (sym (behind_gives at a zs rb o.0 cs o.1 o.2) ∙ g') in
    record { takes = k.1; gives = there ∙ ap (λ ss. Some ss) same }
second_parted at t m a zs b cs g h cs' g' = itself_reached (behind a zs at) b cs' g'

module _ (again : Way) (leads : Leads again) where
  put_reached : (at : Point) → IsLaid at → (es : List Exp) (xs : List Name) (n : Mon) (i : ℕ) → Put [] i es xs n →
      IsReached at (M.Bind (M.Ret es) xs n) (put_taken again at (M.Bind (M.Ret es) xs n) i n (taken_at i es xs))
  put_reached at laid es xs n i k =
      subst (λ o. IsReached at (M.Bind (M.Ret es) xs n) (put_taken again at (M.Bind (M.Ret es) xs n) i n o)) (sym k.taken)
      (λ cs g.
      let m' = with_values k.value.exps k.value.names (program_substituted k.value.name k.value.exp n) in
      let s = put_stands k.value.exp k.value.name k.value.exps k.value.names n k.put in
      let h : AreTaken (taken_at i es xs) n m' = subst (λ o. AreTaken o n m') (sym k.taken) (s.1, refl) in
      then_reached at (leaf (R.RetOne i)) (M.Bind (M.Ret es) xs n) m' cs (again at m')
      (record { takes = (h, tt); gives = simpler_gives at (R.RetOne i) (M.Bind (M.Ret es) xs n) m' cs tt h g })
      (leads at laid m'))

  at_reached : (at : Point) → IsLaid at → (es : List Exp) (xs : List Name) (n : Mon) (o : Option ℕ) →
      first_put [] es xs n ≡ o → IsReached at (M.Bind (M.Ret es) xs n) (put_at again at es xs n o)
  at_reached at laid es xs n None e = itself_reached at (M.Bind (M.Ret es) xs n)
  at_reached at laid es xs n (Some i) e = put_reached at laid es xs n i (first_is_put [] i es xs n e)

  second_reached : (at : Point) (a : Mon) (zs : List Name) (m : Mon) (r : Polished) (first : Mon → Polished) →
      IsReached (behind a zs at) m r →
      ((n : Mon) → IsReached at (M.Bind a zs n) (first n)) →
      IsReached at (M.Bind a zs m) (and_then (bind_tree (leaf R.Refl) r.tree) (M.Bind a zs r.program) (first r.program))
  second_reached at a zs m r first h k cs g =
      let p = bind_gives at.setting a a zs m cs g in
      let i = h cs (behind_gives at a zs m p.0 cs p.1 p.2) in
      then_reached at (bind_tree (leaf R.Refl) r.tree) (M.Bind a zs m) (M.Bind a zs r.program) cs (first r.program)
      (record {
        takes = bind_taken at (leaf R.Refl) r.tree a a zs m r.program (nothing_taken at a) i.takes;
        gives = p.3 p.1 r.program (gives_behind at a zs r.program p.0 cs p.1 i.gives);
      }) (k r.program)

  turned_reached : (at : Point) (a : Mon) (zs : List Name) (b : Mon) (xs : List Name) (n : Mon) (r : Polished)
      (first : Mon → Polished) → all_kept zs xs n ≡ true →
      IsReached (behind a zs at) (M.Bind b xs n) r → ((m : Mon) → IsReached at (M.Bind a zs m) (first m)) →
      IsReached at (M.Bind (M.Bind a zs b) xs n) (turned a zs b xs n r first)
  turned_reached at a zs b xs n r first kept h k cs g =
      let m = M.Bind a zs (M.Bind b xs n) in
      then_reached at (leaf R.Assoc) (M.Bind (M.Bind a zs b) xs n) m cs
      (and_then (bind_tree (leaf R.Refl) r.tree) (M.Bind a zs r.program) (first r.program))
      (record
      { takes = ((kept, refl), tt); gives = simpler_gives at R.Assoc (M.Bind (M.Bind a zs b) xs n) m cs tt (kept, refl) g })
      (second_reached at a zs (M.Bind b xs n) r first h k)

  bound_reached : (at : Point) → IsLaid at → (m : Mon) (xs : List Name) (n : Mon) →
      IsReached at (M.Bind m xs n) (bound again at m xs n)
  bound_reached at laid (M.Bind a zs b) xs n =
      let r = bound again (behind a zs at) b xs n in
      shorter_reached at (M.Bind a zs b) xs n
      (cond (all_kept zs xs n) (turned a zs b xs n r (λ r. bound again at a zs r)) (unchanged (M.Bind (M.Bind a zs b) xs n)))
      (cond_both (all_kept zs xs n) (turned a zs b xs n r (λ r. bound again at a zs r))
      (unchanged (M.Bind (M.Bind a zs b) xs n)) (λ q. IsReached at (M.Bind (M.Bind a zs b) xs n) q)
      (λ e.
      turned_reached at a zs b xs n r (λ r. bound again at a zs r) e (bound_reached (behind a zs at) laid b xs n)
      (λ r. bound_reached at laid a zs r))
      (λ e. itself_reached at (M.Bind (M.Bind a zs b) xs n)))
  bound_reached at laid (M.Ret es) xs n =
      shorter_reached at (M.Ret es) xs n (put_at again at es xs n (first_put [] es xs n))
      (at_reached at laid es xs n (first_put [] es xs n) refl)
  bound_reached at laid m xs n = shorter_reached at m xs n (unchanged (M.Bind m xs n)) (itself_reached at (M.Bind m xs n))

  -- a sequence whose first part was reached

  then_all_reached : (at : Point) (t : Tree Rule) (m p : Mon) (xs : List Name) (n : Mon) (q : Polished) →
      IsReached at m (and_tree t p) → IsReached at (M.Bind p xs n) q → IsReached at (M.Bind m xs n) (then_all t p xs n q)
  then_all_reached at t m p xs n q h k cs g =
      let w = bind_gives at.setting m p xs n cs g in
      let i = h w.0 w.1 in
      then_reached at (bind_tree t (leaf R.Refl)) (M.Bind m xs n) (M.Bind p xs n) cs q
      (record {
        takes = bind_taken at t (leaf R.Refl) m p xs n n i.takes (nothing_taken (behind p xs at) n);
        gives = w.3 i.gives n w.2;
      }) k

  module _ (last : Point → Polished) (n : Mon) (lasts : (at : Point) → IsLaid at → IsReached at n (last at)) where
    settled_reached : (at : Point) → IsLaid at → (t : Tree Rule) (m p : Mon) (xs : List Name) → IsReached at m (and_tree t p) →
        IsReached at (M.Bind m xs n) (settled again last at t p xs)
    settled_reached at laid t m p xs h cs g =
        let q = last (behind p xs at) in
        let w = bind_gives at.setting m p xs n cs g in
        let i = h w.0 w.1 in
        let j = lasts (behind p xs at) laid cs (behind_gives at p xs n w.0 cs i.gives w.2) in
        then_reached at (bind_tree t q.tree) (M.Bind m xs n) (M.Bind p xs q.program) cs (bound again at p xs q.program)
        (record {
          takes = bind_taken at t q.tree m p xs n q.program i.takes j.takes;
          gives = w.3 i.gives q.program (gives_behind at p xs q.program w.0 cs i.gives j.gives);
        }) (bound_reached at laid p xs q.program)

    guard_reached : (at : Point) → IsLaid at → (e : Exp) → is_known at.facts e ≡ true →
        IsReached at (M.Bind (M.Guard e) [] n) (and_then (leaf R.GuardKnown) n (last at))
    guard_reached at laid e known cs g =
        let k = (known_exactly at.facts e).0 known in
        then_reached at (leaf R.GuardKnown) (M.Bind (M.Guard e) [] n) n cs (last at)
        (record {
          takes = ((k, refl), tt);
          gives = simpler_gives at R.GuardKnown (M.Bind (M.Guard e) [] n) n cs tt
              (k, refl) g;
        })
        (lasts at laid)

    put_or_settled_reached : (at : Point) → IsLaid at → (t : Tree Rule) (m : Mon) (es : List Exp) (xs : List Name)
        (o : Option ℕ) →
        first_constant es xs n ≡ o → IsReached at m (and_tree t (M.Ret es)) →
        IsReached at (M.Bind m xs n) (put_or_settled again last at t es xs n o)
    put_or_settled_reached at laid t m es xs None e h = settled_reached at laid t m (M.Ret es) xs h
    put_or_settled_reached at laid t m es xs (Some i) e h =
        then_all_reached at t m (M.Ret es) xs n (put_at again at es xs n (Some i)) h (put_reached at laid es xs n i (constant_put i es xs n e))

    pub followed_reached : (at : Point) → IsLaid at → (t : Tree Rule) (m p : Mon) (xs : List Name) →
        IsReached at m (and_tree t p) → IsReached at (M.Bind m xs n) (followed again last at t m p xs n)
    followed_reached at laid t m (M.Bind a zs b) xs h =
        let k = parted t m b in
        let r = followed again last (behind a zs at) k.tree k.second b xs n in
        let w = turned a zs k.second xs n r (λ r. bound again at a zs r) in
        cond_both (is_bind_ret (M.Bind a zs b) xs n) (then_all t (M.Bind a zs b) xs n (at_once R.BindRet (M.Bind a zs b)))
        (cond (all_kept zs xs n) (then_all k.before (M.Bind a zs k.second) xs n w) (settled again last at t (M.Bind a zs b) xs))
        (λ q. IsReached at (M.Bind m xs n) q)
        (λ e. then_all_reached at t m (M.Bind a zs b) xs n (at_once R.BindRet (M.Bind a zs b)) h (whole_reached at a zs b xs n e))
        (λ e.
        cond_both (all_kept zs xs n) (then_all k.before (M.Bind a zs k.second) xs n w)
        (settled again last at t (M.Bind a zs b) xs)
        (λ q. IsReached at (M.Bind m xs n) q)
        (λ i cs g.
        let o = bind_gives at.setting m m xs n cs g in
        then_all_reached at k.before m (M.Bind a zs k.second) xs n w (first_parted at t m a zs b h)
        (turned_reached at a zs k.second xs n r (λ r. bound again at a zs r) i
        (followed_reached (behind a zs at) laid k.tree k.second b xs (second_parted at t m a zs b o.0 o.1 h))
        (λ r. bound_reached at laid a zs r)) cs g)
        (λ i. settled_reached at laid t m (M.Bind a zs b) xs h))
    followed_reached at laid t m (M.Ret es) xs h = put_or_settled_reached at laid t m es xs (first_constant es xs n) refl h
    followed_reached at laid t m (M.Guard e) [] h =
        cond_both (is_known at.facts e) (then_all t (M.Guard e) [] n (and_then (leaf R.GuardKnown) n (last at)))
        (settled again last at t (M.Guard e) [])
        (λ q. IsReached at (M.Bind m [] n) q)
        (λ k.
        then_all_reached at t m (M.Guard e) [] n (and_then (leaf R.GuardKnown) n (last at)) h (guard_reached at laid e k))
        (λ k. settled_reached at laid t m (M.Guard e) [] h)
    followed_reached at laid t m p xs h = settled_reached at laid t m p xs h

  -- whole programs

  choice_reached : (at : Point) (e : Exp) (m n : Mon) (p q : Polished) → IsReached (knowing (Whole e) at) m p →
      IsReached (knowing (NotTrue e) at) n q →
      IsReached at (M.If e m n) (record { program = M.If e p.program q.program; tree = if_tree p.tree q.tree })
  choice_reached at e m n p q h k cs g =
      let w = if_gives at.setting e m n cs g in
      let i = h cs w.0 in
      let j = k cs w.1 in
      record {
        takes = if_taken at p.tree q.tree e m p.program n q.program i.takes j.takes;
        gives = w.2 p.program q.program i.gives
            j.gives;
      }

  chosen_reached : (at : Point) → IsLaid at → (x m n : Mon) (first second : Point → Polished) → IsIf m n x →
      ((a : Point) → IsLaid a → IsReached a m (first a)) → ((a : Point) → IsLaid a → IsReached a n (second a)) →
      IsReached at x (chosen at x first second)
  chosen_reached at laid (M.If (TruthLit true) a b) m n first second i h k cs g =
      then_reached at (leaf R.IfConst) (M.If (TruthLit true) a b) a cs (first at)
      (record { takes = (refl, tt); gives = simpler_gives at R.IfConst (M.If (TruthLit true) a b) a cs tt refl g })
      (subst (λ z. IsReached at z (first at)) (sym i.0) (h at laid))
  chosen_reached at laid (M.If (TruthLit false) a b) m n first second i h k cs g =
      then_reached at (leaf R.IfConst) (M.If (TruthLit false) a b) b cs (second at)
      (record { takes = (refl, tt); gives = simpler_gives at R.IfConst (M.If (TruthLit false) a b) b cs tt refl g })
      (subst (λ z. IsReached at z (second at)) (sym i.1) (k at laid))
  chosen_reached at laid (M.If e a b) m n first second i h k cs g =
      choice_reached at e a b (first (knowing (Whole e) at)) (second (knowing (NotTrue e) at))
      (subst (λ z. IsReached (knowing (Whole e) at) z (first (knowing (Whole e) at))) (sym i.0) (h (knowing (Whole e) at) laid))
      (subst (λ z. IsReached (knowing (NotTrue e) at) z (second (knowing (NotTrue e) at))) (sym i.1)
      (k (knowing (NotTrue e) at) laid)) cs g
  chosen_reached at laid x m n first second i h k cs g = absurd i

  turning_reached : (at : Point) → IsLaid at → (x m : Mon) (body : Point → Polished) → IsLoop m x →
      ((a : Point) → IsLaid a → IsReached a m (body a)) → IsReached at x (turning at x body)
  turning_reached at laid (M.Loop starts guard test a) m body i h cs g =
      let w = loop_gives at.setting starts guard test a cs g in
      let inner = within starts (Whole test ∷ Whole guard ∷ []) at in
      let p = body inner in
      let shift = ap (λ o. setting_with (start_names starts) (unwrap_or o []) at.setting) w.0 in
      let j = subst (λ z. IsReached inner z p) (sym i) (h inner laid) cs (ap (λ t. scalars_given t a) shift ∙ w.1) in
      record {
        takes = loop_taken at p.tree starts guard test a p.program j.takes;
        gives = w.2 p.program (sym (ap (λ t. scalars_given t p.program) shift) ∙ j.gives);
      }
  turning_reached at laid x m body i h cs g = absurd i

  polished_reached : (m : Mon) (at : Point) → IsLaid at → IsReached at m (polished_with again m at)
  polished_reached (M.Bind m xs n) at laid =
      let p = polished_with again m at in
      followed_reached (polished_with again n) n (polished_reached n) at laid p.tree m p.program xs (polished_reached m at laid)
  polished_reached (M.If e m n) at laid =
      λ cs g.
      let f = shortened_in at (M.If e m n) in
      then_reached at f.tree (M.If e m n) f.program cs
      (chosen at f.program (polished_with again m) (polished_with again n)) (shortened_reached at laid (M.If e m n) cs g)
      (chosen_reached at laid f.program m n (polished_with again m) (polished_with again n)
      (steps_alike shortened at (direct_nodes (M.If e m n)) (M.If e m n)) (polished_reached m) (polished_reached n))
  polished_reached (M.Loop starts guard test m) at laid =
      λ cs g.
      let w = M.Loop starts guard test m in
      let f = shortened_in at w in
      then_reached at f.tree w f.program cs (turning at f.program (polished_with again m))
      (shortened_reached at laid w cs g)
      (turning_reached at laid f.program m (polished_with again m) (steps_alike shortened at (direct_nodes w) w)
      (polished_reached m))
  polished_reached m at laid = shortened_reached at laid m

within_reached : (k : ℕ) → Leads (polished_within k)
within_reached zero at laid m = polished_reached (λ a n. unchanged n) (λ a h n. itself_reached a n) m at laid
within_reached (suc k) at laid m = polished_reached (polished_within k) (within_reached k) m at laid

-- A program is taken to the tidy one, at every point where it is well-sorted, and that gives the same scalars.
pub program_reached : Leads polished
program_reached at laid m = within_reached (positions m) at laid m
