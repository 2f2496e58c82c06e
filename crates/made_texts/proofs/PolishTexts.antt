-- A program that was made tidy has a text where the program had one and binds few names at a time; and so has the tree of rules that leads
-- there, with the programs between and the positions of values.
use Rattle.std.proofs.Common.{◌≡◌, ℕ, zero, suc, ◌<◌, ◌≤◌, nat_lt, nat_le, Bool, true, false, not, cond, ◌&&◌, List, [], ◌∷◌, length, Option, Some, None, refl, ap, subst, arith}
use Rattle.std.proofs.lemmas.Bool.{and_parts, and_from, or_parts, or_from, le-leb, leb-true, lt-ltb, cond_both, not-true}
use Rattle.c_values.specs.Name.{Name, same_name, is_among, are_distinct}
use Rattle.expression_lang.specs.Expression.{Exp, TruthLit}
use Rattle.expression_text.specs.Names.{is_name}
use Rattle.expression_text.specs.ExpText.{is_exp}
use Rattle.expression_text.specs.Lists.{each}
use Rattle.ac_expr.specs.Fact.{Whole, NotTrue}
use Rattle.monad_lang.specs.Program as M
use Rattle.monad_lang.specs.Program.{Mon}
use Rattle.monad_lang.specs.Run.{start_names}
use Rattle.monad_lang.specs.Form.{is_bind_ret, all_kept, is_true_guard}
use Rattle.program_text.specs.MonText.{is_mon, is_start}
use Rattle.program_facts.specs.Substituted.{program_substituted}
use Rattle.rule_trees.specs.RuleTree.{Tree, node, no_trees, tree}
use Rattle.rule_eq.specs.Rule as R
use Rattle.rule_eq.specs.Rule.{Rule, Point}
use Rattle.rule_eq.specs.Table.{Taken, before, taken_at, with_values, knowing, behind, within}
use Rattle.expression_steps.specs.Rewritten.{direct_nodes}
use Rattle.expression_steps.specs.Shortened.{shortened}
use Rattle.expression_steps.specs.Known.{is_known}
use Rattle.polish.specs.Direct.{direct_step, more, direct_steps}
use Rattle.polish.specs.Polished.{Polished, Way, leaf, is_refl, joined, bind_tree, if_tree, loop_tree, exp_tree, last_of, unchanged, at_once, and_then, shortened_in, what_is_bound, first_put, first_constant, put_taken, put_at, turned, or_shorter, bound, then_all, settled, put_or_settled, Parted, parted, followed, chosen, turning, polished_with, polished_within, positions, polished}
use Rattle.rule_text.specs.Arities.{fits}
use Rattle.rule_text.specs.EqualityText.{arity, has_text, is_tree}
use Rattle.made_texts.specs.Few.{most_names, binds_few}
use Rattle.made_texts.proofs.NamesChosen.{AreNames}
use Rattle.made_texts.proofs.SubstitutedTexts.{program_put, few_put}
use Rattle.made_texts.proofs.StepTexts.{shortened_texts, direct_text, direct_few}

-- it has a text, and binds few names at a time
pub record Fits (m : Mon) : Type 0 where
  pub text : is_mon m ≡ true
  pub few : binds_few m ≡ true

pub record HaveTexts (p : Polished) : Type 0 where
  pub program : Fits p.program
  pub rules : is_tree p.tree ≡ true

-- Sequences

record BindParts (m : Mon) (xs : List Name) (n : Mon) : Type 0 where
  first : Fits m
  names : AreNames xs
  second : Fits n

parts_of : (m : Mon) (xs : List Name) (n : Mon) → Fits (M.Bind m xs n) → BindParts m xs n
parts_of m xs n h =
    let p = and_parts (each is_name xs && are_distinct xs) (is_mon m && is_mon n) h.text in
    let q = and_parts (each is_name xs) (are_distinct xs) p.0 in
    let r = and_parts (is_mon m) (is_mon n) p.1 in
    let s = and_parts (nat_le (length xs) most_names) (binds_few m && binds_few n) h.few in
    let t = and_parts (binds_few m) (binds_few n) s.1 in
    record {
      first = record { text = r.0; few = t.0 };
      names = record { names = q.0; distinct = q.1; few = s.0 };
      second = record { text = r.1; few = t.1 };
    }

bind_fits : (m : Mon) (xs : List Name) (n : Mon) → Fits m → AreNames xs → Fits n → Fits (M.Bind m xs n)
bind_fits m xs n h k l = record {
  text = and_from _ _ (and_from _ _ k.names k.distinct) (and_from _ _ h.text l.text);
  few = and_from _ _ k.few (and_from _ _ h.few l.few);
}

-- Trees

pair_text : (rule : Rule) (t u : Tree Rule) → fits (arity rule) 2 && has_text rule ≡ true → is_tree t ≡ true →
    is_tree u ≡ true → is_tree (node rule (tree t (tree u no_trees))) ≡ true
pair_text rule t u f h k = and_from _ _ f (and_from (is_tree t) _ h (and_from (is_tree u) true k refl))

where_text : (b : Bool) (t u : Tree Rule) → is_tree t ≡ true → is_tree u ≡ true → is_tree (cond b t u) ≡ true
where_text true t u h k = h
where_text false t u h k = k

joined_text : (m : Mon) (t u : Tree Rule) → is_mon m ≡ true → is_tree t ≡ true → is_tree u ≡ true → is_tree (joined m t u) ≡ true
joined_text m t u l h k =
    where_text (is_refl t) u (cond (is_refl u) t (node (R.Trans m) (tree t (tree u no_trees)))) k
    (where_text (is_refl u) t (node (R.Trans m) (tree t (tree u no_trees))) h (pair_text (R.Trans m) t u l h k))

bind_text : (t u : Tree Rule) → is_tree t ≡ true → is_tree u ≡ true → is_tree (bind_tree t u) ≡ true
bind_text t u h k =
    where_text (is_refl t && is_refl u) (leaf R.Refl) (node R.Bind (tree t (tree u no_trees))) refl (pair_text R.Bind t u refl h k)

if_text : (t u : Tree Rule) → is_tree t ≡ true → is_tree u ≡ true → is_tree (if_tree t u) ≡ true
if_text t u h k =
    where_text (is_refl t && is_refl u) (leaf R.Refl) (node R.If (tree t (tree u no_trees))) refl (pair_text R.If t u refl h k)

loop_text : (t : Tree Rule) → is_tree t ≡ true → is_tree (loop_tree t) ≡ true
loop_text t h =
    where_text (is_refl t) (leaf R.Refl) (node R.Loop (tree t no_trees)) refl (and_from (is_tree t) true h refl)

-- Steps at a node

same_texts : (m : Mon) → Fits m → HaveTexts (unchanged m)
same_texts m h = record { program = h; rules = refl }

once_texts : (rule : Rule) (m : Mon) → is_tree (leaf rule) ≡ true → Fits m → HaveTexts (at_once rule m)
once_texts rule m f h = record { program = h; rules = f }

then_texts : (t : Tree Rule) (m : Mon) (p : Polished) → is_tree t ≡ true → Fits m → HaveTexts p → HaveTexts (and_then t m p)
then_texts t m p h k l = record { program = l.program; rules = joined_text m t p.tree k.text h l.rules }

step_fits : (at : Point) (m r : Mon) → direct_step shortened at m ≡ Some r → Fits m → Fits r
step_fits at m r e h = record {
  text = direct_text shortened shortened_texts at.setting.scope at.facts m r e h.text;
  few = direct_few shortened shortened_texts at.setting.scope at.facts m r e h.few;
}

record StepsHaveTexts (m : Mon) (ms : List Mon) : Type 0 where
  last : Fits (last_of m ms)
  rules : is_tree (exp_tree ms) ≡ true

steps_texts : (at : Point) (n : ℕ) (m : Mon) → Fits m → StepsHaveTexts m (direct_steps shortened at n m)
steps_texts at zero m h = record { last = h; rules = refl }
steps_texts at (suc n) m h = by_step (direct_step shortened at m) refl (λ x i. steps_texts at n x i)
  where
    by_step : (o : Option Mon) → direct_step shortened at m ≡ o →
        ((x : Mon) → Fits x → StepsHaveTexts x (direct_steps shortened at n x)) →
        StepsHaveTexts m (more o (λ x. direct_steps shortened at n x))
    by_step None e r = record { last = h; rules = refl }
    by_step (Some x) e r =
        let k = step_fits at m x e h in
        let l = r x k in
        record {
          last = l.last;
          rules = joined_text x (leaf R.Exp) (exp_tree (direct_steps shortened at n x)) k.text refl l.rules;
        }

short_texts : (at : Point) (m : Mon) → Fits m → HaveTexts (shortened_in at m)
short_texts at m h =
    let s = steps_texts at (direct_nodes m) m h in record { program = s.last; rules = s.rules }

what_fits : (m : Mon) (xs : List Name) (n : Mon) → Fits m → Fits n → Fits (what_is_bound m xs n)
what_fits (M.Ret []) [] n h k = k
what_fits m xs n h k = h

shorter_texts : (m : Mon) (xs : List Name) (n : Mon) (p : Polished) → Fits m → Fits n → HaveTexts p →
    HaveTexts (or_shorter m xs n p)
shorter_texts m xs n p h k l =
    cond_both (is_bind_ret m xs n) (at_once R.BindRet (what_is_bound m xs n))
    (cond (is_true_guard m xs) (at_once R.GuardKnown n) p) HaveTexts
    (λ e. once_texts R.BindRet (what_is_bound m xs n) refl (what_fits m xs n h k))
    (λ e. cond_both (is_true_guard m xs) (at_once R.GuardKnown n) p HaveTexts (λ i. once_texts R.GuardKnown n refl k) (λ i. l))

-- Values that are put in

record TakenFits (i : ℕ) (xs : List Name) (k : Taken) : Type 0 where
  exp : is_exp k.exp ≡ true
  exps : each is_exp k.exps ≡ true
  names : each is_name k.names ≡ true
  distinct : are_distinct k.names ≡ true
  fewer : length k.names ≤ length xs
  place : i < length xs
  among : (y : Name) → is_among y xs ≡ false → is_among y k.names ≡ false

before_fits : (i : ℕ) (e : Exp) (x : Name) (xs : List Name) (o : Option Taken) (k : Taken) → before e x o ≡ Some k →
    is_exp e ≡ true → is_name x ≡ true → is_among x xs ≡ false → ((j : Taken) → o ≡ Some j → TakenFits i xs j) →
    TakenFits (suc i) (x ∷ xs) k
before_fits i e x xs None k q h l a r = absurd cc
before_fits i e x xs (Some j) k q h l a r =
    let t = r j refl in
    let made : Taken = record { exp = j.exp; name = j.name; exps = e ∷ j.exps; names = x ∷ j.names } in
    let same : made ≡ k = some_same made k q in
    subst (λ z. TakenFits (suc i) (x ∷ xs) z) same (record {
      exp = t.exp;
      exps = and_from (is_exp e) (each is_exp j.exps) h t.exps;
      names = and_from (is_name x) (each is_name j.names) l t.names;
      distinct = and_from (not (is_among x j.names)) (are_distinct j.names) (ap not (t.among x a)) t.distinct;
      fewer = omega (arith, t.fewer);
      place = omega (arith, t.place);
      among = λ y m.
          let p = or_parts (same_name y x) (is_among y xs) m in
          or_from (same_name y x) (is_among y j.names) p.0 (t.among y p.1);
    })
  where
    some_same : (a b : Taken) → ◌≡◌ {A = Option Taken} (Some a) (Some b) → a ≡ b
    some_same a b h = cc

taken_fits : (i : ℕ) (es : List Exp) (xs : List Name) (k : Taken) → taken_at i es xs ≡ Some k → each is_exp es ≡ true →
    each is_name xs ≡ true → are_distinct xs ≡ true → TakenFits i xs k
taken_fits zero (e ∷ es) (x ∷ xs) k q h l d =
    let p = and_parts (is_exp e) (each is_exp es) h in
    let n = and_parts (is_name x) (each is_name xs) l in
    let s = and_parts (not (is_among x xs)) (are_distinct xs) d in
    let made : Taken = record { exp = e; name = x; exps = es; names = xs } in
    subst (λ z. TakenFits zero (x ∷ xs) z) (some_same made k q) (record {
      exp = p.0;
      exps = p.1;
      names = n.1;
      distinct = s.1;
      fewer = omega arith;
      place = omega arith;
      among = λ y m. (or_parts (same_name y x) (is_among y xs) m).1;
    })
  where
    some_same : (a b : Taken) → ◌≡◌ {A = Option Taken} (Some a) (Some b) → a ≡ b
    some_same a b h = cc
taken_fits (suc i) (e ∷ es) (x ∷ xs) k q h l d =
    let p = and_parts (is_exp e) (each is_exp es) h in
    let n = and_parts (is_name x) (each is_name xs) l in
    let s = and_parts (not (is_among x xs)) (are_distinct xs) d in
    before_fits i e x xs (taken_at i es xs) k q p.0 n.0 (not-true (is_among x xs) s.0) (λ j m. taken_fits i es xs j m p.1 n.1 s.1)
taken_fits zero [] xs k q h l d = absurd cc
taken_fits zero (e ∷ es) [] k q h l d = absurd cc
taken_fits (suc i) [] xs k q h l d = absurd cc
taken_fits (suc i) (e ∷ es) [] k q h l d = absurd cc

values_fit : (es : List Exp) (xs : List Name) (m : Mon) → each is_exp es ≡ true → AreNames xs → Fits m → Fits (with_values es xs m)
values_fit [] xs m h k l = l
values_fit (e ∷ es) xs m h k l = bind_fits (M.Ret (e ∷ es)) xs m (record { text = h; few = refl }) k l

-- Ways

abbrev Keeps : Mon → Polished → Type 0
Keeps m p = Fits m → HaveTexts p

module _ (again : Way) (keeps : (at : Point) (m : Mon) → Keeps m (again at m)) where
  taken_texts : (at : Point) (es : List Exp) (xs : List Name) (n : Mon) (i : ℕ) (o : Option Taken) → taken_at i es xs ≡ o →
      Keeps (M.Bind (M.Ret es) xs n) (put_taken again at (M.Bind (M.Ret es) xs n) i n o)
  taken_texts at es xs n i None e h = same_texts (M.Bind (M.Ret es) xs n) h
  taken_texts at es xs n i (Some k) e h =
      let b = parts_of (M.Ret es) xs n h in
      let t = taken_fits i es xs k e b.first.text b.names.names b.names.distinct in
      let l = leb-true (length xs) most_names b.names.few in
      let rest : AreNames k.names = record {
        names = t.names;
        distinct = t.distinct;
        few = le-leb (length k.names) most_names (omega (arith, t.fewer));
      } in
      let put : Fits (program_substituted k.name k.exp n) = record {
        text = program_put k.name k.exp t.exp n b.second.text;
        few = few_put k.name k.exp t.exp n b.second.few;
      } in
      let m' = with_values k.exps k.names (program_substituted k.name k.exp n) in
      let fit = values_fit k.exps k.names (program_substituted k.name k.exp n) t.exps rest put in
      let position : nat_lt i most_names ≡ true = lt-ltb i most_names (omega (arith, t.place)) in
      then_texts (leaf (R.RetOne i)) m' (again at m') (and_from _ _ position refl) fit (keeps at m' fit)

  put_texts : (at : Point) (es : List Exp) (xs : List Name) (n : Mon) (o : Option ℕ) →
      Keeps (M.Bind (M.Ret es) xs n) (put_at again at es xs n o)
  put_texts at es xs n None h = same_texts (M.Bind (M.Ret es) xs n) h
  put_texts at es xs n (Some i) h = taken_texts at es xs n i (taken_at i es xs) refl h

  turned_texts : (a : Mon) (zs : List Name) (b : Mon) (xs : List Name) (n : Mon) (r : Polished) (first : Mon → Polished) →
      Keeps (M.Bind b xs n) r → ((m : Mon) → Keeps (M.Bind a zs m) (first m)) →
      Keeps (M.Bind (M.Bind a zs b) xs n) (turned a zs b xs n r first)
  turned_texts a zs b xs n r first h k l =
      let p = parts_of (M.Bind a zs b) xs n l in
      let q = parts_of a zs b p.first in
      let inner = bind_fits b xs n q.second p.names p.second in
      let s = h inner in
      let whole = bind_fits a zs r.program q.first q.names s.program in
      then_texts (leaf R.Assoc) (M.Bind a zs (M.Bind b xs n))
      (and_then (bind_tree (leaf R.Refl) r.tree) (M.Bind a zs r.program) (first r.program)) refl
      (bind_fits a zs (M.Bind b xs n) q.first q.names inner)
      (then_texts (bind_tree (leaf R.Refl) r.tree) (M.Bind a zs r.program) (first r.program)
      (bind_text (leaf R.Refl) r.tree refl s.rules) whole (k r.program whole))

  bound_texts : (at : Point) (m : Mon) (xs : List Name) (n : Mon) → Keeps (M.Bind m xs n) (bound again at m xs n)
  bound_texts at (M.Bind a zs b) xs n h =
      let p = parts_of (M.Bind a zs b) xs n h in
      let r = bound again (behind a zs at) b xs n in
      shorter_texts (M.Bind a zs b) xs n
      (cond (all_kept zs xs n) (turned a zs b xs n r (λ r. bound again at a zs r)) (unchanged (M.Bind (M.Bind a zs b) xs n)))
      p.first p.second
      (cond_both (all_kept zs xs n) (turned a zs b xs n r (λ r. bound again at a zs r))
      (unchanged (M.Bind (M.Bind a zs b) xs n)) HaveTexts
      (λ e.
      turned_texts a zs b xs n r (λ r. bound again at a zs r) (bound_texts (behind a zs at) b xs n)
      (λ r. bound_texts at a zs r) h)
      (λ e. same_texts (M.Bind (M.Bind a zs b) xs n) h))
  bound_texts at (M.Ret es) xs n h =
      let p = parts_of (M.Ret es) xs n h in
      shorter_texts (M.Ret es) xs n (put_at again at es xs n (first_put [] es xs n)) p.first p.second
      (put_texts at es xs n (first_put [] es xs n) h)
  bound_texts at m xs n h =
      let p = parts_of m xs n h in
      shorter_texts m xs n (unchanged (M.Bind m xs n)) p.first p.second (same_texts (M.Bind m xs n) h)

  -- a sequence whose first part was reached by a tree
  all_texts : (t : Tree Rule) (m : Mon) (xs : List Name) (n : Mon) (p : Polished) → is_tree t ≡ true → Fits (M.Bind m xs n) →
      HaveTexts p → HaveTexts (then_all t m xs n p)
  all_texts t m xs n p h k l =
      then_texts (bind_tree t (leaf R.Refl)) (M.Bind m xs n) p (bind_text t (leaf R.Refl) h refl) k l

  record PartedFits (k : Parted) : Type 0 where
    before : is_tree k.before ≡ true
    second : Fits k.second
    rules : is_tree k.tree ≡ true

  parted_fits : (t : Tree Rule) (m c : Mon) → is_tree t ≡ true → Fits m → Fits c → PartedFits (parted t m c)
  parted_fits (node R.Bind (tree (node R.Refl ts) (tree t no_trees))) (M.Bind a zs b) c h k l =
      let p = parts_of a zs b k in
      let q = and_parts (is_tree (node R.Refl ts)) (is_tree t && true) h in
      record { before = refl; second = p.second; rules = (and_parts (is_tree t) true q.1).0 }
  parted_fits t m c h k l = record { before = h; second = l; rules = refl }

  module _ (last : Point → Polished) (n : Mon) (lasts : (at : Point) → Keeps n (last at)) where
    settled_texts : (at : Point) (t : Tree Rule) (m : Mon) (xs : List Name) → is_tree t ≡ true →
        Keeps (M.Bind m xs n) (settled again last at t m xs)
    settled_texts at t m xs h k =
        let p = parts_of m xs n k in
        let q = last (behind m xs at) in
        let s = lasts (behind m xs at) p.second in
        let fit = bind_fits m xs q.program p.first p.names s.program in
        then_texts (bind_tree t q.tree) (M.Bind m xs q.program) (bound again at m xs q.program) (bind_text t q.tree h s.rules) fit
        (bound_texts at m xs q.program fit)

    put_or_texts : (at : Point) (t : Tree Rule) (es : List Exp) (xs : List Name) (o : Option ℕ) → is_tree t ≡ true →
        Keeps (M.Bind (M.Ret es) xs n) (put_or_settled again last at t es xs n o)
    put_or_texts at t es xs None h k = settled_texts at t (M.Ret es) xs h k
    put_or_texts at t es xs (Some i) h k =
        all_texts t (M.Ret es) xs n (put_at again at es xs n (Some i)) h k (put_texts at es xs n (Some i) k)

    followed_texts : (at : Point) (t : Tree Rule) (o m : Mon) (xs : List Name) → is_tree t ≡ true → Fits o →
        Keeps (M.Bind m xs n) (followed again last at t o m xs n)
    followed_texts at t o (M.Bind a zs b) xs h f k =
        let p = parts_of (M.Bind a zs b) xs n k in
        let q = parts_of a zs b p.first in
        let part = parted t o b in
        let fit = parted_fits t o b h f q.second in
        let r = followed again last (behind a zs at) part.tree part.second b xs n in
        let turn = then_all part.before (M.Bind a zs part.second) xs n
        (turned a zs part.second xs n r (λ r. bound again at a zs r)) in
        let first = bind_fits a zs part.second q.first q.names fit.second in
        let whole = bind_fits (M.Bind a zs part.second) xs n first p.names p.second in
        cond_both (is_bind_ret (M.Bind a zs b) xs n)
        (then_all t (M.Bind a zs b) xs n (at_once R.BindRet (M.Bind a zs b)))
        (cond (all_kept zs xs n) turn (settled again last at t (M.Bind a zs b) xs)) HaveTexts
        (λ e. all_texts t (M.Bind a zs b) xs n (at_once R.BindRet (M.Bind a zs b)) h k (once_texts R.BindRet (M.Bind a zs b) refl p.first))
        (λ e.
        cond_both (all_kept zs xs n) turn (settled again last at t (M.Bind a zs b) xs) HaveTexts
        (λ i.
        all_texts part.before (M.Bind a zs part.second) xs n (turned a zs part.second xs n r (λ r. bound again at a zs r)) fit.before
        whole
        (turned_texts a zs part.second xs n r (λ r. bound again at a zs r)
        (λ l. followed_texts (behind a zs at) part.tree part.second b xs fit.rules fit.second (bind_fits b xs n q.second p.names p.second))
        (λ r. bound_texts at a zs r) whole))
        (λ i. settled_texts at t (M.Bind a zs b) xs h k))
    followed_texts at t o (M.Ret es) xs h f k = put_or_texts at t es xs (first_constant es xs n) h k
    followed_texts at t o (M.Guard e) [] h f k =
        let p = parts_of (M.Guard e) [] n k in
        cond_both (is_known at.facts e) (then_all t (M.Guard e) [] n (and_then (leaf R.GuardKnown) n (last at)))
        (settled again last at t (M.Guard e) []) HaveTexts
        (λ i.
        all_texts t (M.Guard e) [] n (and_then (leaf R.GuardKnown) n (last at)) h k
        (then_texts (leaf R.GuardKnown) n (last at) refl p.second (lasts at p.second)))
        (λ i. settled_texts at t (M.Guard e) [] h k)
    followed_texts at t o m xs h f k = settled_texts at t m xs h k

  -- choices and loops

  if_fits : (e : Exp) (m n : Mon) → is_exp e ≡ true → Fits m → Fits n → Fits (M.If e m n)
  if_fits e m n h k l = record { text = and_from _ _ h (and_from _ _ k.text l.text); few = and_from _ _ k.few l.few }

  module _ (at : Point) where
    branches_texts : (e : Exp) (m n : Mon) (first second : Point → Polished) → Fits (M.If e m n) →
        ((at : Point) → HaveTexts (first at)) → ((at : Point) → HaveTexts (second at)) →
        HaveTexts (record {
          program = M.If e (first (knowing (Whole e) at)).program (second (knowing (NotTrue e) at)).program;
          tree = if_tree (first (knowing (Whole e) at)).tree (second (knowing (NotTrue e) at)).tree;
        })
    branches_texts e m n first second h k l =
        let p = and_parts (is_exp e) (is_mon m && is_mon n) h.text in
        let x = k (knowing (Whole e) at) in
        let y = l (knowing (NotTrue e) at) in
        let u = first (knowing (Whole e) at) in
        let v = second (knowing (NotTrue e) at) in
        record {
          program = if_fits e u.program v.program p.0 x.program y.program;
          rules = if_text u.tree v.tree x.rules y.rules;
        }

    first_fits : (e : Exp) (m n : Mon) → Fits (M.If e m n) → Fits m
    first_fits e m n h =
        let p = and_parts (is_exp e) (is_mon m && is_mon n) h.text in
        let q = and_parts (is_mon m) (is_mon n) p.1 in
        record { text = q.0; few = (and_parts (binds_few m) (binds_few n) h.few).0 }

    second_fits : (e : Exp) (m n : Mon) → Fits (M.If e m n) → Fits n
    second_fits e m n h =
        let p = and_parts (is_exp e) (is_mon m && is_mon n) h.text in
        let q = and_parts (is_mon m) (is_mon n) p.1 in
        record { text = q.1; few = (and_parts (binds_few m) (binds_few n) h.few).1 }

    chosen_texts : (m : Mon) (first second : Point → Polished) → Fits m → ((at : Point) → HaveTexts (first at)) →
        ((at : Point) → HaveTexts (second at)) → HaveTexts (chosen at m first second)
    chosen_texts (M.If (TruthLit true) m n) first second h k l =
        then_texts (leaf R.IfConst) m (first at) refl (first_fits (TruthLit true) m n h) (k at)
    chosen_texts (M.If (TruthLit false) m n) first second h k l =
        then_texts (leaf R.IfConst) n (second at) refl (second_fits (TruthLit false) m n h) (l at)
    chosen_texts (M.If e m n) first second h k l = branches_texts e m n first second h k l
    chosen_texts m first second h k l = same_texts m h

    turning_texts : (m : Mon) (body : Point → Polished) → Fits m → ((at : Point) → HaveTexts (body at)) →
        HaveTexts (turning at m body)
    turning_texts (M.Loop starts guard test m) body h k =
        let p = body (within starts (Whole test ∷ Whole guard ∷ []) at) in
        let x = k (within starts (Whole test ∷ Whole guard ∷ []) at) in
        let q = and_parts (each is_start starts && are_distinct (start_names starts)) (is_exp guard && (is_exp test && is_mon m)) h.text in
        let r = and_parts (is_exp guard) (is_exp test && is_mon m) q.1 in
        let s = and_parts (is_exp test) (is_mon m) r.1 in
        record {
          program = record {
            text = and_from _ _ q.0 (and_from _ _ r.0 (and_from _ _ s.0 x.program.text));
            few = x.program.few;
          };
          rules = loop_text p.tree x.rules;
        }
    turning_texts m body h k = same_texts m h

  with_texts : (m : Mon) (at : Point) → Keeps m (polished_with again m at)
  with_texts (M.Bind m xs n) at h =
      let p = parts_of m xs n h in
      let q = polished_with again m at in
      let s = with_texts m at p.first in
      followed_texts (polished_with again n) n (with_texts n) at q.tree m q.program xs s.rules p.first
      (bind_fits q.program xs n s.program p.names p.second)
  with_texts (M.If e m n) at h =
      let f = shortened_in at (M.If e m n) in
      let s = short_texts at (M.If e m n) h in
      then_texts f.tree f.program (chosen at f.program (polished_with again m) (polished_with again n)) s.rules s.program
      (chosen_texts at f.program (polished_with again m) (polished_with again n) s.program
      (λ a. with_texts m a (first_fits at e m n h)) (λ a. with_texts n a (second_fits at e m n h)))
  with_texts (M.Loop starts guard test m) at h =
      let f = shortened_in at (M.Loop starts guard test m) in
      let s = short_texts at (M.Loop starts guard test m) h in
      let q = and_parts (each is_start starts && are_distinct (start_names starts)) (is_exp guard && (is_exp test && is_mon m)) h.text in
      let r = and_parts (is_exp guard) (is_exp test && is_mon m) q.1 in
      let body : Fits m = record { text = (and_parts (is_exp test) (is_mon m) r.1).1; few = h.few } in
      then_texts f.tree f.program (turning at f.program (polished_with again m)) s.rules s.program
      (turning_texts at f.program (polished_with again m) s.program (λ a. with_texts m a body))
  with_texts m at h = short_texts at m h

within_texts : (k : ℕ) (at : Point) (m : Mon) → Keeps m (polished_within k at m)
within_texts zero at m h = with_texts (λ a n. unchanged n) (λ a n k. same_texts n k) m at h
within_texts (suc k) at m h = with_texts (polished_within k) (within_texts k) m at h

pub polished_texts : (at : Point) (m : Mon) → Keeps m (polished at m)
polished_texts at m h = within_texts (positions m) at m h
