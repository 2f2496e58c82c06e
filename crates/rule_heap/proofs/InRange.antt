-- A path whose indices are known to be in range leads somewhere, and is in range.
use Rattle.std.proofs.Common.{◌≡◌, ℕ, suc, true, ◌&&◌, List, ◌∷◌, Option, Some, None, ℤ, pos, negsuc, refl, sym, ap, ◌∙◌, arith}
use Rattle.std.specs.Prelude.{int_le}
use Rattle.std.proofs.lemmas.Bool.{and_parts, leb-true, lt-ltb}
use Rattle.c_values.specs.Number.{is_between}
use Rattle.c_values.specs.Value.{number_in}
use Rattle.c_values.specs.Layout.{Layout, Shape, Record, Row as Elements}
use Rattle.c_values.specs.Path.{Step, Field, Index, Spot, spot, in_range, member_spot, and_then_spot, further, where_some, is_index}
use Rattle.expression_lang.specs.Expression.{Path, Here, IntoField, IntoElement, Between}
use Rattle.expression_lang.specs.Evaluation.{Env, State, value, steps}
use Rattle.ac_expr.specs.Fact.{Fact, AllSay}
use Rattle.ac_expr.proofs.KnownHolds.{known_holds}
use Rattle.rule_heap.specs.Table.{AreInRange, InMember}

pub record Leads (s : Shape) (path : List Step) : Type 0 where
  pub end : Spot
  pub range : in_range s path ≡ true
  pub spot : spot s path ≡ Some end

below_it : (i : ℤ) (n : ℕ) → is_between (pos 0) i (pos n) ≡ true → is_index i (suc n) ≡ true
below_it (pos i) n h = let k = leb-true i n (and_parts (int_le (pos 0) (pos i)) (int_le (pos i) (pos n)) h).1 in lt-ltb i (suc n) (omega (arith, k))
below_it (negsuc i) n h = absurd cc

-- a path goes on from where its first step leads
goes_on : (s : Shape) (p : Step) (ps : List Step) (q : Spot) → Leads q.shape ps → further q.offset (spot q.shape ps) ≡ spot s (p ∷ ps) → in_range s (p ∷ ps) ≡ in_range q.shape ps → Leads s (p ∷ ps)
goes_on s p ps q h there range = record { end = _; range = range ∙ h.range; spot = sym there ∙ ap (λ o. further q.offset o) h.spot }

module _ (l : Layout) (env : Env) (s : State) (fs : List Fact) (said : AllSay l env s fs) where
  pub leads_there : (path : Path) (shape : Shape) → AreInRange fs path shape → Leads shape (steps l env s path)
  leads_there Here shape h = record { end = record { offset = pos 0; shape = shape }; range = refl; spot = refl }
  leads_there (IntoField k path) (Record x n align members) h = by_member (member_spot members k) refl h (λ r. leads_there path r)
    where
      by_member : (o : Option Spot) → member_spot members k ≡ o → InMember o (λ r. AreInRange fs path r) → ((r : Shape) → AreInRange fs path r → Leads r (steps l env s path)) →
          Leads (Record x n align members) (Field k ∷ steps l env s path)
      by_member None e h rest = absurd h
      by_member (Some q) e h rest =
          goes_on (Record x n align members) (Field k) (steps l env s path) q (rest q.shape h)
          (ap (λ o. and_then_spot o (λ r. further r.offset (spot r.shape (steps l env s path)))) (sym e)) (ap (λ o. where_some o (λ r. in_range r (steps l env s path))) e)
  leads_there (IntoElement e path) (Elements r (suc n)) h =
      let i : ℤ = number_in (value l env s e) in
      let there : is_index i (suc n) ≡ true = below_it i n (known_holds l env s fs (Between (pos 0) e (pos n)) said h.0) in
      goes_on (Elements r (suc n)) (Index i) (steps l env s path) _ (leads_there path r h.1) refl (ap (λ b. b && in_range r (steps l env s path)) there)
  leads_there _ _ h = absurd h
