-- What is told of levels, and what follows from it.
use Rattle.std.proofs.Common.{◌≡◌, ℕ, List, length, Option, Some, None, refl, sym, ap, subst, arith}
use Rattle.std.specs.Prelude.{Result, Ok, Err, IfOk}
use Rattle.std.specs.Result.{IsErrAnd}
use Rattle.std.proofs.lemmas.List.{length-map}
use Rattle.c_values.specs.Name.{Name}
use Rattle.expression_lang.specs.Sort.{Level}
use Rattle.expression_lang.specs.CodeExpression.{level_of}
use Rattle.c_levels.specs.declared.modes.Modes.{Modes}
use Rattle.c_levels.specs.CodeModes.{levels_in}
use Rattle.checking.specs.declared.levels.ListFault.{ListFault}
use Rattle.checking.specs.declared.levels.ListFault.TheVariants as F
use Rattle.checking.specs.Checked.{listed_apart}
use Rattle.checking.specs.Refused.{told}
use Rattle.checking.specs.CodeLevels.{AreTold}
use Rattle.checking.proofs.Listed.{names_agree}

module _ (o : Option (ℕ × Name)) (levels : List Level) where
  pub told_apart : (at : ℕ) (name : Name) (r : Result Modes ListFault) → o ≡ Some (at, name) → r ≡ Err (F.Differs (told at)) → AreTold o levels r
  told_apart at name r e h = subst (λ (x : Option (ℕ × Name)). AreTold x levels r) (sym e) h

  pub told_levels : (m : Modes) → o ≡ None → levels_in m ≡ levels → AreTold o levels (Ok m)
  told_levels m e h = subst (λ (x : Option (ℕ × Name)). AreTold x levels (Ok m)) (sym e) h

  pub told_memory : (r : Result Modes ListFault) → o ≡ None → IsErrAnd r (λ fault. fault ≡ F.Memory) → AreTold o levels r
  told_memory (Ok m) e h = absurd h
  told_memory (Err fault) e h = subst (λ (x : Option (ℕ × Name)). AreTold x levels (Err fault)) (sym e) h

pub told_for : (fs gs xs ys : List Name) (ks ls : List Level) (r : Result Modes ListFault) → fs ≡ gs → xs ≡ ys → ks ≡ ls →
    AreTold (listed_apart 0 fs xs) ks r → AreTold (listed_apart 0 gs ys) ls r
told_for fs gs xs ys ks ls r p q e h =
    subst (λ (zs : List Name). AreTold (listed_apart 0 zs ys) ls r) p
    (subst (λ (zs : List Name). AreTold (listed_apart 0 fs zs) ls r) q (subst (λ (zs : List Level). AreTold (listed_apart 0 fs xs) zs r) e h))

given : (o : Option (ℕ × Name)) (levels : List Level) (m : Modes) → AreTold o levels (Ok m) → (o ≡ None) × (levels_in m ≡ levels)
given None levels m h = (refl, h)
given (Some p) levels m h = absurd cc

pub if_given : (o : Option (ℕ × Name)) (levels : List Level) (r : Result Modes ListFault) (P : Modes → Type 0) → AreTold o levels r →
    ((m : Modes) → o ≡ None → levels_in m ≡ levels → P m) → IfOk r P
if_given o levels (Ok m) P h f = let (none, same) = given o levels m h in f m none same
if_given o levels (Err fault) P h f = tt

pub one_each : (names others : List Name) (levels : List Level) (r : Result Modes ListFault) (n : ℕ) → length levels ≡ length others → length names ≡ n →
    AreTold (listed_apart 0 names others) levels r → IfOk r (λ m. length m.levels.items ≡ n)
one_each names others levels r n as_many all h =
    if_given (listed_apart 0 names others) levels r (λ m. length m.levels.items ≡ n) h
    (λ m none same.
    let a = length-map m.levels.items level_of in
    let b = ap length same in
    let c = ap length (names_agree 0 names others none) in
    omega (arith, a, b, c, as_many, all))
