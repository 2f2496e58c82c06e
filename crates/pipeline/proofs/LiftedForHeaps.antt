-- What a ready command is lifted to is ready for typed heaps, wherever the conditions around it are given. Nothing is lifted to a bare
-- guard, so a test that a pointer may point and that of its tag are a pair only where one stands directly around the other.
use Rattle.std.proofs.Common.{◌≡◌, Bool, true, false, cond, List, [], ◌∷◌, ◌++◌, Option, Some, None, inl, inr, refl, sym, subst}
use Rattle.c_values.specs.Name.{Name, same_name, is_among}
use Rattle.c_values.specs.Layout.{Layout}
use Rattle.expression_lang.specs.Expression as E
use Rattle.expression_lang.specs.Sort.{Kind, WordKind}
use Rattle.expression_lang.specs.Signature.{Binder}
use Rattle.simpl_lang.specs.Command.{Condition, Simpl, Skip, Throw, Set, SetGlobal, Store, Pick, Seq, Cond, Guard, Catch, While, Call, kind_of}
use Rattle.monad_lang.specs.Program as M
use Rattle.ac_expr.specs.Fact.{Fact, Whole}
use Rattle.ac_expr.specs.Known.{Gives}
use Rattle.ac_expr.proofs.GivenFacts.{IsGiven, first_given}
use Rattle.ac_expr.proofs.GivesLaws.{gives_itself}
use Rattle.rule_heap.specs.ExpLifted.{exp_lifted, IsReady}
use Rattle.rule_heap.specs.HeapLifted.{is_pair, is_ptrok, Where, AreReady, AreStartsReady, IsHeapReady}
use Rattle.rule_local.specs.Rule.{Context}
use Rattle.rule_local.specs.Table.{vars, vars_with, as_starts, conj, zero_exp, zero_first, zeros}
use Rattle.rule_local.specs.Lifted.{Lifted, set_lifted, lifted, zeros_there, begun, locals_lifted}
use Rattle.pipeline.specs.CommandReady.{Unless, AllGiven, AreInOrder, IsCommandReady}
use Rattle.pipeline.proofs.ExpressionsForHeaps.{unless_there, all_more, all_split}

-- no pair begins with what is lifted

set_is_no_pair : (b : Bool) (x : Name) (e : E.Exp) (us vs : List Name) (n : M.Mon) → is_pair (set_lifted b x e us).right vs n ≡ false
set_is_no_pair true x e us vs n = refl
set_is_no_pair false x e us vs n = refl

pub lifted_is_no_pair : (bs : List Binder) (a : Simpl) (us vs : List Name) (n : M.Mon) → is_pair (lifted bs a us).right vs n ≡ false
lifted_is_no_pair bs (Set x e) us vs n = set_is_no_pair (is_among x us) x e us vs n
lifted_is_no_pair bs (Catch a b) us vs n = lifted_is_no_pair bs a us vs n
lifted_is_no_pair bs (Call (Some x) f es) us vs n = refl
lifted_is_no_pair _ _ _ _ _ = refl

pub pair_is_of_pointer : (e : E.Exp) (m : M.Mon) → is_pair (M.Guard e) [] m ≡ true → is_ptrok e ≡ true
pair_is_of_pointer (E.PtrOk t p) m h = refl
pair_is_of_pointer e m h = absurd cc

where_not : (b : Bool) (P Q : Type 0) → b ≡ false → Q → Where b P Q
where_not true P Q e q = absurd cc
where_not false P Q e q = q

-- one condition more

with_one : (fs : List Fact) (gs : List Condition) (g : Condition) → AllGiven fs gs → AllGiven (Whole (exp_lifted g.exp) ∷ fs) (gs ++ (g ∷ []))
with_one fs gs g h =
    let more = Whole (exp_lifted g.exp) ∷ fs in
    all_split more gs (g ∷ []) (all_more (Whole (exp_lifted g.exp)) fs gs h) (unless_there (is_ptrok g.exp) (IsGiven more (exp_lifted g.exp)) (first_given (Whole (exp_lifted g.exp)) fs), tt)

-- conditions as one give each

conj_given : (fs : List Fact) (cs : List Condition) → ((e : E.Exp) → Gives fs (exp_lifted (conj cs)) e → IsGiven fs e) → AllGiven fs cs
conj_given fs [] k = tt
conj_given fs (c ∷ []) k = (unless_there (is_ptrok c.exp) (IsGiven fs (exp_lifted c.exp)) (k (exp_lifted c.exp) (gives_itself fs (exp_lifted c.exp) (exp_lifted c.exp) refl)), tt)
conj_given fs (c ∷ d ∷ cs) k = (
  unless_there (is_ptrok c.exp) (IsGiven fs (exp_lifted c.exp)) (k (exp_lifted c.exp) (inr (inl (gives_itself fs (exp_lifted c.exp) (exp_lifted c.exp) refl)))),
  conj_given fs (d ∷ cs) (λ e h. k e (inr (inr h))),
)

module _ (l : Layout) where
  conj_ready : (before cs : List Condition) (fs : List Fact) → AreInOrder l before cs → AllGiven fs before → IsReady l fs (conj cs)
  conj_ready before [] fs h k = tt
  conj_ready before (c ∷ []) fs h k = h.0 fs k
  conj_ready before (c ∷ d ∷ cs) fs h k = (h.0 fs k, conj_ready (before ++ (c ∷ [])) (d ∷ cs) (Whole (exp_lifted c.exp) ∷ fs) h.1 (with_one fs before c k))

  -- names and zeros

  vars_ready : (fs : List Fact) (vs : List Name) → AreReady l fs (vars vs)
  vars_ready fs [] = tt
  vars_ready fs (v ∷ vs) = (tt, vars_ready fs vs)

  with_ready : (fs : List Fact) (x : Name) (e : E.Exp) (vs : List Name) → IsReady l fs e → AreReady l fs (vars_with x e vs)
  with_ready fs x e [] h = tt
  with_ready fs x e (v ∷ vs) h = (one (same_name x v), with_ready fs x e vs h)
    where
      one : (b : Bool) → IsReady l fs (cond b e (E.Var v))
      one true = h
      one false = tt

  starts_ready : (fs : List Fact) (us : List Name) → AreStartsReady l fs (as_starts us)
  starts_ready fs [] = tt
  starts_ready fs (u ∷ us) = (tt, starts_ready fs us)

  zero_ready : (fs : List Fact) (k : Kind) → IsReady l fs (zero_exp k)
  zero_ready fs (WordKind n) = tt
  zero_ready _ _ = tt

  zeros_ready : (fs : List Fact) (bs : List Binder) (xs : List Name) → AreReady l fs (zeros_there (zeros bs xs))
  zeros_ready fs bs [] = tt
  zeros_ready fs bs (x ∷ xs) = first (kind_of bs x) (zeros bs xs) (zeros_ready fs bs xs)
    where
      first : (o : Option Kind) (r : Option (List E.Exp)) → AreReady l fs (zeros_there r) → AreReady l fs (zeros_there (zero_first o r))
      first (Some k) (Some es) h = (zero_ready fs k, h)
      first _ _ _ = tt

  -- a program around which a condition stands

  guard_ready : (fs : List Fact) (gs : List Condition) (g : Condition) (m : M.Mon) → AllGiven fs gs → IsReady l fs g.exp → ((more : List Fact) → AllGiven more (gs ++ (g ∷ [])) → IsHeapReady l more m) →
      IsHeapReady l fs (M.Bind (M.Guard g.exp) [] m)
  guard_ready fs gs g m given ready inner = by_pair (is_pair (M.Guard g.exp) [] m) refl
    where
      by_pair : (b : Bool) → is_pair (M.Guard g.exp) [] m ≡ b → Where b (IsHeapReady l fs m) (IsReady l fs g.exp × IsHeapReady l (Whole (exp_lifted g.exp) ∷ fs) m)
      by_pair true e = inner fs (all_split fs gs (g ∷ []) given (subst (λ b. Unless b (IsGiven fs (exp_lifted g.exp))) (sym (pair_is_of_pointer g.exp m e)) tt, tt))
      by_pair false e = (ready, inner (Whole (exp_lifted g.exp) ∷ fs) (with_one fs gs g given))

  set_ready : (fs : List Fact) (b : Bool) (x : Name) (e : E.Exp) (vs : List Name) → IsReady l fs e → IsHeapReady l fs (set_lifted b x e vs).right
  set_ready fs true x e vs h = with_ready fs x e vs h
  set_ready fs false x e vs h = vars_ready fs vs

  pub lifted_ready : (bs : List Binder) (gs : List Condition) (a : Simpl) (vs : List Name) → IsCommandReady l gs a → (fs : List Fact) → AllGiven fs gs → IsHeapReady l fs (lifted bs a vs).right
  lifted_ready bs gs Skip vs h fs k = vars_ready fs vs
  lifted_ready bs gs Throw vs h fs k = vars_ready fs vs
  lifted_ready bs gs (Set x e) vs h fs k = set_ready fs (is_among x vs) x e vs (h fs k)
  lifted_ready bs gs (SetGlobal x path e) vs h fs k = (h fs k, vars_ready _ vs)
  lifted_ready bs gs (Store t p path e) vs h fs k = (h fs k, vars_ready _ vs)
  lifted_ready bs gs (Pick x) vs h fs k = (tt, vars_ready _ vs)
  lifted_ready bs gs (Seq a b) vs h fs k =
      where_not _ _ _ (lifted_is_no_pair bs a _ _ (lifted bs b vs).right) (lifted_ready bs gs a _ h.0 fs k, lifted_ready bs [] b vs h.1 _ tt)
  lifted_ready bs gs (Cond e a b) vs h fs k = (h.0 fs k, lifted_ready bs [] a vs h.1 _ tt, lifted_ready bs [] b vs h.2 _ tt)
  lifted_ready bs gs (Guard g a) vs h fs k = guard_ready fs gs g (lifted bs a vs).right k (h.0 fs k) (λ more i. lifted_ready bs (gs ++ (g ∷ [])) a vs h.1 more i)
  lifted_ready bs gs (Catch a b) vs h fs k = lifted_ready bs [] a vs h.0 fs tt
  lifted_ready bs gs (While cs e a) vs h fs k = (
    (
      starts_ready fs _,
      conj_ready [] cs [] h.0 tt,
      h.1 (Whole (exp_lifted (conj cs)) ∷ []) (conj_given (Whole (exp_lifted (conj cs)) ∷ []) cs (λ e i. inl i)),
      lifted_ready bs [] a _ h.2 _ tt,
    ),
    vars_ready _ vs,
  )
  lifted_ready bs gs (Call (Some x) f es) vs h fs k = (h fs k, vars_ready _ vs)
  lifted_ready bs gs (Call None f es) vs h fs k = (h fs k, vars_ready _ vs)

  begun_ready : (ctx : Context) (xs : List Name) (inner : Lifted) → ((fs : List Fact) → IsHeapReady l fs inner.right) → IsHeapReady l [] (begun ctx xs inner).right
  begun_ready ctx [] inner h = h []
  begun_ready ctx (x ∷ xs) inner h = (zeros_ready [] ctx.locals (x ∷ xs), h _)

  -- the body of a function
  pub locals_lifted_ready : (ctx : Context) (a : Simpl) (vs : List Name) → IsCommandReady l [] a → IsHeapReady l [] (locals_lifted ctx a vs).right
  locals_lifted_ready ctx a vs h = begun_ready ctx _ (lifted ctx.locals a vs) (λ fs. lifted_ready ctx.locals [] a vs h fs tt)
