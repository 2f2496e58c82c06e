-- A condition is there where it is a fact, was ready when it became one, and stands under the conditions that stand around now.
use Rattle.std.proofs.Common.{◌≡◌, Bool, true, List, [], ◌∷◌, ◌++◌, map, refl, sym, subst, ap, ap₂, ◌∙◌}
use Rattle.std.proofs.lemmas.Bool.{and_parts}
use Rattle.expression_lang.specs.Expression as X
use Rattle.expression_lang.specs.Expression.{Exp}
use Rattle.expression_lang.specs.Sort.{Scope}
use Rattle.expression_lang.specs.Signature.{Binder}
use Rattle.simpl_lang.specs.Command.{Condition}
use Rattle.ac_expr.specs.Fact.{Fact, Whole, NotTrue, stands_for}
use Rattle.rule_heap.specs.ExpLifted.{exp_lifted}
use Rattle.rule_heap.specs.HeapLifted.{is_ptrok}
use Rattle.rule_word.specs.Table.{truth}
use Rattle.rule_word.specs.Bases.{Surroundings, under, among}
use Rattle.rule_word.specs.Ready.{ready}
use Rattle.rule_word.proofs.AbstractedStays.{IsLater, stays}
use Rattle.pipeline.specs.CommandReady.{Unless}
use Rattle.generation.specs.Guards.{under as conditions_under}
use Rattle.pipeline.proofs.ExpressionsForHeaps.{unless_there, unless_map}
use Rattle.pipeline.proofs.GuardsStand.{under_all, become, under_each}
use Rattle.pipeline.proofs.SumsBased.{at_guard, behind}
use Rattle.pipeline.proofs.ReadyWords.{tested, IsReady, done}

under_last : (cs : List Exp) (c e : Exp) → under_all (cs ++ (c ∷ [])) e ≡ under_all cs (X.Imp c e)
under_last [] c e = refl
under_last (d ∷ cs) c e = ap (λ r. X.Imp d r) (under_last cs c e)

module _ (same : Exp → Exp → Bool) (finds : (e : Exp) → same e e ≡ true) (g : Scope) (names : List Binder) where
  abbrev Done : Surroundings → Exp → Type 0
  Done k e = ready same true g names k e ≡ true

  past_all : (k : Surroundings) (cs : List Exp) (e : Exp) → Done k (under_all cs e) → Done (under_each same finds g names k cs) e
  past_all k [] e h = h
  past_all k (c ∷ cs) e h =
      let next = under (Whole (become same finds g names k c)) k in
      past_all next cs e (and_parts (ready same true g names k c) (ready same true g names next (under_all cs e)) h).1

  each_last : (k : Surroundings) (cs : List Exp) (c : Exp) →
      under_each same finds g names k (cs ++ (c ∷ []))
      ≡ under (Whole (become same finds g names (under_each same finds g names k cs) c)) (under_each same finds g names k cs)
  each_last k [] c = refl
  each_last k (d ∷ cs) c = each_last (under (Whole (become same finds g names k d)) k) cs c

  pub record IsThere (k : Surroundings) (e : Exp) : Type 0 where
    pub older : List Fact
    pub newer : List Fact
    pub cs : List Exp
    pub facts : k.facts ≡ newer ++ (Whole (become same finds g names (among older) (under_all cs (exp_lifted e))) ∷ older)
    pub conditions : map stands_for k.conditions ≡ map stands_for (at_guard same finds g names older cs).conditions
    pub ready : Done (among older) (under_all cs (exp_lifted e))

  pub at_its_guard : (k : Surroundings) (e : Exp) → (h : IsThere k e) →
      Done (at_guard same finds g names h.older h.cs) (exp_lifted e)
  at_its_guard k e h = past_all (among h.older) h.cs (exp_lifted e) h.ready

  pub is_later : (k : Surroundings) (e : Exp) → (h : IsThere k e) → IsLater (at_guard same finds g names h.older h.cs) k
  is_later k e h = behind same finds g names h.older h.newer h.cs (exp_lifted e) k h.conditions h.facts

  -- each condition is there; a test that a pointer may point need not be
  abbrev pub AllThere : Surroundings → List Condition → Type 0
  AllThere k [] = Unit {0}
  AllThere k (c ∷ cs) = Unless (is_ptrok c.exp) (IsThere k c.exp) × AllThere k cs

  pub split : (k : Surroundings) (gs hs : List Condition) → AllThere k (gs ++ hs) → AllThere k gs × AllThere k hs
  split k [] hs h = (tt, h)
  split k (c ∷ cs) hs h = let r = split k cs hs h.1 in ((h.0, r.0), r.1)

  pub all_split : (k : Surroundings) (gs hs : List Condition) → AllThere k gs → AllThere k hs → AllThere k (gs ++ hs)
  all_split k [] hs h i = i
  all_split k (c ∷ cs) hs h i = (h.0, all_split k cs hs h.1 i)

  -- with one fact more
  abbrev pub knowing : Fact → Surroundings → Surroundings
  knowing f k = record { conditions = k.conditions; facts = f ∷ k.facts }

  there_more : (f : Fact) (k : Surroundings) (e : Exp) → IsThere k e → IsThere (knowing f k) e
  there_more f k e h = record {
    older = h.older;
    newer = f ∷ h.newer;
    cs = h.cs;
    facts = ap (λ fs. f ∷ fs) h.facts;
    conditions = h.conditions;
    ready = h.ready;
  }

  pub all_more : (f : Fact) (k : Surroundings) (gs : List Condition) → AllThere k gs → AllThere (knowing f k) gs
  all_more f k [] h = tt
  all_more f k (c ∷ cs) h = (
    unless_map (is_ptrok c.exp) (IsThere k c.exp) (IsThere (knowing f k) c.exp) (there_more f k c.exp) h.0,
    all_more f k cs h.1,
  )

  -- a condition under which the others stand becomes one that stands around
  there_under : (f : Fact) (k : Surroundings) (c e : Exp) → stands_for f ≡ tested same g names k c → IsThere k (X.Imp c e) →
      IsThere (under f k) e
  there_under f k c e is h =
      let old = at_guard same finds g names h.older h.cs in
      let there = and_parts (ready same true g names old (exp_lifted c)) _ (at_its_guard k (X.Imp c e) h) in
      let stay = stays same true g names old k (is_later k (X.Imp c e) h) (exp_lifted c) there.0 truth in
      let last = under_last h.cs (exp_lifted c) (exp_lifted e) in record {
        older = h.older;
        newer = h.newer;
        cs = h.cs ++ (exp_lifted c ∷ []);
        facts = h.facts ∙ ap (λ r. h.newer ++ (Whole (become same finds g names (among h.older) r) ∷ h.older)) (sym last);
        conditions = ap₂ (λ r rs. r ∷ rs) (is ∙ ap (λ x. x.right) stay) h.conditions
            ∙ ap (λ o. map stands_for o.conditions) (sym (each_last (among h.older) h.cs (exp_lifted c)));
        ready = subst (λ r. Done (among h.older) r) (sym last) h.ready;
      }

  pub all_under : (f : Fact) (k : Surroundings) (c : Exp) (gs : List Condition) → stands_for f ≡ tested same g names k c →
      AllThere k (conditions_under c gs) → AllThere (under f k) gs
  all_under f k c [] is h = tt
  all_under f k c (d ∷ ds) is h =
      (unless_there (is_ptrok d.exp) (IsThere (under f k) d.exp) (there_under f k c d.exp is h.0), all_under f k c ds is h.1)

  pub all_under_whole : (k : Surroundings) (c : Exp) (gs : List Condition) → AllThere k (conditions_under c gs) →
      AllThere (under (Whole (tested same g names k c)) k) gs
  all_under_whole k c gs h = all_under (Whole (tested same g names k c)) k c gs refl h

  pub all_under_not : (k : Surroundings) (c : Exp) (gs : List Condition) → AllThere k (conditions_under (X.Not c) gs) →
      AllThere (under (NotTrue (tested same g names k c)) k) gs
  all_under_not k c gs h = all_under (NotTrue (tested same g names k c)) k (X.Not c) gs refl h

  -- a condition that becomes a fact here
  pub there_now : (k : Surroundings) (fs : List Fact) (e : Exp) → k ≡ among fs → IsReady same g names k e →
      IsThere (among (Whole (tested same g names (among fs) e) ∷ fs)) e
  there_now k fs e is h = record {
    older = fs;
    newer = [];
    cs = [];
    facts = refl;
    conditions = refl;
    ready = done same g names (among fs) e (subst (λ j. IsReady same g names j e) is h);
  }
