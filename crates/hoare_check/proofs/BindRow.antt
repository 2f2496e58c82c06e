-- The rule of one program after another.
use Rattle.std.proofs.Common.{◌≡◌, ℕ, true, not, ◌&&◌, List, [], ◌∷◌, Some, sym, ap, ◌∙◌, subst, if◌then◌else◌}
use Rattle.std.specs.Prelude.{unwrap_or}
use Rattle.std.proofs.lemmas.Bool.{and_parts}
use Rattle.correspondence.specs.Outcome.{Done, Failed, goes_on, fails}
use Rattle.c_values.specs.Name.{Name, are_distinct}
use Rattle.c_values.specs.Choice.{Choice}
use Rattle.c_values.specs.Layout.{global_type}
use Rattle.expression_lang.specs.Expression.{Exp}
use Rattle.expression_lang.specs.Evaluation.{holds}
use Rattle.expression_lang.specs.Mentions.{names}
use Rattle.expression_lang.specs.Form.{has, is_load, is_read}
use Rattle.expression_lang.specs.Sort.{Scalar, is_truth}
use Rattle.expression_lang.specs.Sorted.{names_with}
use Rattle.expression_lang.specs.Signature.{bound}
use Rattle.ac_expr.specs.Fact.{Fact, Whole}
use Rattle.monad_lang.specs.Agree.{AgreeOn}
use Rattle.monad_lang.proofs.AgreeingSorts.{sort_agrees}
use Rattle.monad_lang.proofs.AgreeingValues.{holds_agrees}
use Rattle.monad_lang.specs.Program as M
use Rattle.monad_lang.specs.Program.{Mon}
use Rattle.monad_lang.specs.Run.{Answer, runs, functions_below}
use Rattle.monad_lang.specs.Sorted.{scalars_given, one_for_each, IsWellFormed}
use Rattle.monad_lang.proofs.Given.{then_parts, fits_parts}
use Rattle.triple_lang.specs.Deriv.{Ground, Names}
use Rattle.hoare_check.specs.DeriveTable.{setting, behind, Asserts, are_free_for}
use Rattle.hoare_check.specs.Accepted.{Begins, Meets, IsDerived}
use Rattle.hoare_check.proofs.Naming.{as_many, bound_past, named_past}
use Rattle.hoare_check.proofs.Claims.{Fits}
use Rattle.hoare_check.proofs.Begun.{ended, begins_there}

-- an assertion is one under all names that agree on its own
pub asserts_alike : (k : Ground) (ns ns' : Names) (q : Exp) → AgreeOn (λ y. names y q) ns ns' → Asserts k ns q → Asserts k ns' q
asserts_alike k ns ns' q h =
    subst (λ o. (is_truth o && not (has (if k.lifted then is_load else is_read) q)) ≡ true) (sort_agrees k.unit.layout (global_type k.unit.globals) ns ns' q h)

pub scoped_behind : (k : Ground) (ns : Names) (m : Mon) (xs : List Name) (cs : List Scalar) → scalars_given (setting k ns) m ≡ Some cs →
    behind k m xs ns ≡ names_with xs cs ns
scoped_behind k ns m xs cs h = ap (λ o. names_with xs (unwrap_or o []) ns) h

-- what the two parts ask
pub record BindFits (k : Ground) (ns : Names) (m : Mon) (ys : List Name) (m' : Mon) (xs : List Name) (q e : Exp) : Type 0 where
  pub first : Fits k ns m ys e
  pub second : Fits k (behind k m ys ns) m' xs q

module _ (k : Ground) (ns : Names) (m : Mon) (ys : List Name) (m' : Mon) (xs : List Name) (q e : Exp) where
  pub bind_fits : Asserts k (behind k m ys ns) e → are_free_for ys xs q ≡ true → Fits k ns (M.Bind m ys m') xs q → BindFits k ns m ys m' xs q e
  bind_fits asserts free fit =
      let o = then_parts (scalars_given (setting k ns) m) _ fit.given fit.sorted in
      let inner : Names = names_with ys o.0 ns in
      let f = fits_parts (one_for_each ys o.0 && are_distinct ys) (scalars_given (setting k inner) m') fit.given o.2 in
      let i = and_parts (one_for_each ys o.0) (are_distinct ys) f.0 in
      let scoped = scoped_behind k ns m ys o.0 o.1 in
      let past = named_past ys xs q free o.0 fit.given ns (as_many ys o.0 i.0) (as_many xs fit.given fit.one_each) in
      record {
        first = record {
          given = o.0;
          sorted = o.1;
          one_each = i.0;
          distinct = i.1;
          asserts = subst (λ ms. Asserts k ms e) scoped asserts;
          calls = λ c. (and_parts _ _ (fit.calls c)).0;
        };
        second = subst (λ ms. Fits k ms m' xs q) (sym scoped) (record {
          given = fit.given;
          sorted = f.1;
          one_each = fit.one_each;
          distinct = fit.distinct;
          asserts = asserts_alike k (names_with xs fit.given ns) (names_with xs fit.given inner) q (λ y h. sym (past y h)) fit.asserts;
          calls = λ c. (and_parts _ _ (fit.calls c)).1;
        });
      }

  module _ (formed : IsWellFormed k.unit) (p : Choice) (n : ℕ) (fs : List Fact) where
    pub bind_holds : are_free_for ys xs q ≡ true → BindFits k ns m ys m' xs q e → IsDerived k p n ns fs m ys e →
        IsDerived k p n (behind k m ys ns) (Whole e ∷ []) m' xs q → IsDerived k p n ns fs (M.Bind m ys m') xs q
    bind_holds free fit first second env depth s begun each =
        record { lasts = λ r. no_fault r; gives = λ a r. gives a r }
      where
        one : Meets k p n m ys e env depth s
        one = first env depth s begun each.0

        starts : (c : Answer) → runs k.unit.layout p m env depth (functions_below k.unit p n) s (Done c) → Begins k (behind k m ys ns) (Whole e ∷ [])
            (bound ys c.values env) c.state
        starts c r =
            let many = as_many ys fit.first.given fit.first.one_each in
            let end = ended k formed p n ns fs m ys fit.first.given fit.first.sorted many env depth s begun c r in
            subst (λ ms. Begins k ms (Whole e ∷ []) (bound ys c.values env) c.state) (sym (scoped_behind k ns m ys fit.first.given fit.first.sorted))
            (begins_there k formed ns ys fit.first.given env s c end (Whole e ∷ []) (one.gives c r, tt))

        two : (c : Answer) → runs k.unit.layout p m env depth (functions_below k.unit p n) s (Done c) → Meets k p n m' xs q
            (bound ys c.values env) depth c.state
        two c r = second (bound ys c.values env) depth c.state (starts c r) (each.1 c r)

        no_fault : runs k.unit.layout p (M.Bind m ys m') env depth (functions_below k.unit p n) s (Failed tt) → ⊥
        no_fault (goes_on {a} h r) = (two a h).lasts r
        no_fault (fails h) = one.lasts h

        gives : (b : Answer) → runs k.unit.layout p (M.Bind m ys m') env depth (functions_below k.unit p n) s (Done b) → holds k.unit.layout
            (bound xs b.values env) b.state q ≡ true
        gives b (goes_on {a} h r) =
            let many = as_many xs fit.second.given fit.second.one_each in
            let end = ended k formed p n (behind k m ys ns) (Whole e ∷ []) m' xs fit.second.given fit.second.sorted many (bound ys a.values env) depth a.state
            (starts a h) b r in
            sym (holds_agrees k.unit.layout (bound xs b.values (bound ys a.values env)) (bound xs b.values env) b.state q
            (bound_past ys xs q free a.values b.values env end.many))
            ∙ (two a h).gives b r
