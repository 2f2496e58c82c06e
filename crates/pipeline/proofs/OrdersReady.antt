-- Conditions under one that is ready from those before are in order, where they are in order by themselves.
use Rattle.std.proofs.Common.{◌≡◌, Bool, true, List, [], ◌∷◌, ◌++◌}
use Rattle.expression_lang.specs.Expression.{Exp, Imp}
use Rattle.expression_lang.specs.Sort.{Scope}
use Rattle.expression_lang.specs.Signature.{Binder}
use Rattle.simpl_lang.specs.Command.{Condition}
use Rattle.ac_expr.specs.Fact.{Whole}
use Rattle.rule_word.specs.Bases.{Surroundings, under as under_fact}
use Rattle.generation.specs.Guards.{when, under}
use Rattle.pipeline.proofs.ReadyWords.{IsReady, tested}
use Rattle.pipeline.proofs.GivenRanges.{AllThere, split, all_split, all_under_whole}
use Rattle.pipeline.proofs.CommandReady.{Under, AreInOrder}

module _ (same : Exp → Exp → Bool) (finds : (e : Exp) → same e e ≡ true) (g : Scope) (c : Exp) (outer : List Condition)
    (ready : Under same finds g outer (λ names k. IsReady same g names k c)) where
  abbrev yes : List Binder → Surroundings → Surroundings
  yes names k = under_fact (Whole (tested same g names k c)) k

  pub under_order : (before now : List Condition) →
      ((names : List Binder) (k : Surroundings) → AllThere same finds g names k now → AllThere same finds g names k outer ×
      AllThere same finds g names (under_fact (Whole (tested same g names k c)) k) before) →
      (gs : List Condition) → AreInOrder same finds g before gs → AreInOrder same finds g now (under c gs)
  under_order before now h [] i = tt
  under_order before now h (d ∷ ds) i = (
    (λ names k a. (ready names k (h names k a).0, i.0 names (yes names k) (h names k a).1)),
    under_order (before ++ (d ∷ [])) (now ++ (when d.kind (Imp c d.exp) ∷ []))
        (λ names k a.
        let s = split same finds g names k now (when d.kind (Imp c d.exp) ∷ []) a in
        let o = h names k s.0 in (
          o.0,
          all_split same finds g names (yes names k) before (d ∷ []) o.1
              (all_under_whole same finds g names k c (d ∷ []) s.1),
        )) ds i.1,
  )
