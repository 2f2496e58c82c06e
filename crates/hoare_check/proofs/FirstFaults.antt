-- What is known of triples as they are checked one after the other: those so far are accepted, and the first fault of those that are
-- left is the first of all.
use Rattle.std.proofs.Common.{◌≡◌, ℕ, suc, ◌+◌, min, List, [], ◌∷◌, refl, sym, subst, ◌∙◌, arith}
use Rattle.monad_lang.specs.Program.{FinalUnit}
use Rattle.rule_trees.specs.RuleTree.{last_number, next}
use Rattle.triple_lang.specs.Triple.{Triple}
use Rattle.hoare_check.specs.Accepted.{IsAccepted, AllAccepted}
use Rattle.hoare_check.specs.Verdict.{IsFaultAt, IsFirstFault}

-- all before those that are left are accepted, and the first of these has the number
pub record SoFar (u : FinalUnit) (all rest : List Triple) (number : ℕ) : Type 0 where
  pub passed : ℕ
  pub number_is : number ≡ min passed last_number
  pub accepts : AllAccepted u all rest → AllAccepted u all all
  pub faults : (k n : ℕ) → IsFirstFault u all rest k n → IsFirstFault u all all (passed + k) n

pub none_so_far : (u : FinalUnit) (all : List Triple) → SoFar u all all 0
none_so_far u all = record {
  passed = 0;
  number_is = refl;
  accepts = λ h. h;
  faults = λ k n h. let same : k ≡ 0 + k = omega arith in subst (λ i. IsFirstFault u all all i n) same h;
}

next_number : (passed number : ℕ) → number ≡ min passed last_number → next number ≡ min (suc passed) last_number
next_number passed number h = omega (arith, h)

module _ (u : FinalUnit) (all : List Triple) (t : Triple) (rest : List Triple) (number : ℕ) (so_far : SoFar u all (t ∷ rest) number) where
  pub one_more : IsAccepted u all t → (more : ℕ) → more ≡ next number → SoFar u all rest more
  one_more accepted more is = record {
    passed = suc so_far.passed;
    number_is = is ∙ next_number so_far.passed number so_far.number_is;
    accepts = λ h. so_far.accepts (accepted, h);
    faults = λ k n h.
        let same : so_far.passed + suc k ≡ suc so_far.passed + k = omega arith in
        subst (λ i. IsFirstFault u all all i n) same (so_far.faults (suc k) n (accepted, h));
  }

  -- the first that is left isn't accepted
  pub first_here : (n : ℕ) → IsFaultAt u all t n → (k : ℕ) × (number ≡ min k last_number) × IsFirstFault u all all k n
  first_here n h =
      let same : so_far.passed + 0 ≡ so_far.passed = omega arith in
      (so_far.passed, so_far.number_is, subst (λ i. IsFirstFault u all all i n) same (so_far.faults 0 n h))

-- none is left
pub all_so_far : (u : FinalUnit) (all rest : List Triple) (number : ℕ) → SoFar u all rest number → rest ≡ [] → AllAccepted u all all
all_so_far u all rest number h e = h.accepts (subst (λ ts. AllAccepted u all ts) (sym e) tt)
