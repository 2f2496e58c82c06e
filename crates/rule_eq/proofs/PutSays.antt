-- What is said of the rows that are left is said of the whole ones.
use Rattle.std.proofs.Common.{◌≡◌, ◌↔◌, List, [], sym, subst}
use Rattle.c_values.specs.Name.{Name}
use Rattle.expression_lang.specs.Expression.{Exp}
use Rattle.program_facts.specs.Substituted.{each_substituted}
use Rattle.rule_eq.specs.declared.putting.Putting as P
use Rattle.rule_eq.specs.CodePutting.{Says}

module _ (x : Name) (e : Exp) where
  says_so : (p : P.Putting) (ones others ls rs : List Exp) →
      (others ≡ each_substituted x e ones) ↔ (rs ≡ each_substituted x e ls) → Says x e p ones others → Says x e p ls rs
  says_so P.TheVariants.Differ ones others ls rs same says = λ so. says (same.1 so)
  says_so P.TheVariants.Same ones others ls rs same says = same.0 says
  says_so (P.TheVariants.AsLast a b) ones others ls rs same says = ((λ i. same.0 (says.0 i)), (λ i. says.1 (same.1 i)))

  -- where none of the first ones is left
  pub says_by : (p : P.Putting) (ones others ls rs : List Exp) → ones ≡ [] →
      (others ≡ each_substituted x e ones) ↔ (rs ≡ each_substituted x e ls) → Says x e p [] others → Says x e p ls rs
  says_by p ones others ls rs none same says =
      says_so p ones others ls rs same (subst (λ es. Says x e p es others) (sym none) says)
