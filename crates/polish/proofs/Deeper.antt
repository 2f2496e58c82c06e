-- Descents, and one stage more or less.
use Rattle.std.proofs.Common.{◌≡◌, suc, ◌≤◌, List, [], ◌∷◌, ◌++◌, map, length, string_bytes, refl, sym, ap, ap₂, ◌∙◌, subst, arith}
use Rattle.c_values.specs.Name.{Name}
use Rattle.expression_lang.specs.Sort.{Scalar}
use Rattle.ac_expr.specs.Fact.{Fact}
use Rattle.std.specs.Prelude.{Option}
use Rattle.monad_lang.specs.Program as M
use Rattle.monad_lang.specs.Program.{Mon}
use Rattle.monad_lang.specs.CodeProgram.{mon_of}
use Rattle.monad_lang.specs.Sorted.{Setting, setting_with}
use Rattle.program_facts.specs.Flow.{facts_after}
use Rattle.rule_eq.specs.Table.{point}
use Rattle.rule_walks.specs.Walk.{Walk, Walked, Before}
use Rattle.expression_steps.specs.declared.points.Scoped as N
use Rattle.expression_steps.specs.declared.points.PassedPart as Q
use Rattle.expression_steps.specs.CodePoint.{names_in, names_behind, facts_behind}
use Rattle.given_scalars.specs.declared.unit.Unit as U
use Rattle.given_scalars.specs.CodeScalars.{setting_over, setting_in}
use Rattle.polish.specs.declared.descent.Level as L
use Rattle.polish.specs.declared.descent.Descent as D
use Rattle.polish.specs.Polished.{polished}
use Rattle.polish.specs.Weight.{weight}
use Rattle.polish.specs.Descent.{below, seen_raised, seen_climbed}
use Rattle.polish.specs.CodeDescent.{setting_past, point_past, stage_in, stages_in, kept_names, given_names, AreTold, IsKept, up_from, rebuilt, IsDeeper, IsClimbed}
use Rattle.polish.specs.SeenFollowed.{stage}
use Rattle.polish.proofs.Descending.{climbed_push}
use Rattle.polish.proofs.Lightened.{raised_lighter}

facts_push : (ps : List Q.PassedPart) (p : Q.PassedPart) (fs : List Fact) →
    facts_behind (ps ++ p ∷ []) fs ≡ facts_after (mon_of p.first.value) (map string_bytes p.names.items) (facts_behind ps fs)
facts_push [] p fs = refl
facts_push (q ∷ ps) p fs = facts_push ps p (facts_after (mon_of q.first.value) (map string_bytes q.names.items) fs)

module _ (u : U.Unit) where
  setting_push : (ps : List Q.PassedPart) (p : Q.PassedPart) (names : Name → Option Scalar) →
      setting_over u (names_behind (ps ++ p ∷ []) names) ≡ kept_names (setting_over u (names_behind ps names)) p
  setting_push [] p names = refl
  setting_push (q ∷ ps) p names = setting_push ps p _

  told_push : (ps : List Q.PassedPart) (p : Q.PassedPart) (names : Name → Option Scalar) → AreTold (setting_over u names) ps →
      kept_names (setting_over u (names_behind ps names)) p ≡ given_names (setting_over u (names_behind ps names)) p →
      AreTold (setting_over u names) (ps ++ p ∷ [])
  told_push [] p names h i = (i, tt)
  told_push (q ∷ ps) p names h i = (h.0, told_push ps p _ h.1 i)

  told_front : (ps : List Q.PassedPart) (p : Q.PassedPart) (names : Name → Option Scalar) →
      AreTold (setting_over u names) (ps ++ p ∷ []) → AreTold (setting_over u names) ps
  told_front [] p names h = tt
  told_front (q ∷ ps) p names h = (h.0, told_front ps p _ h.1)

  below_told : (vs : List L.Level) (ps : List Q.PassedPart) (fs : List Fact) (names : Name → Option Scalar) →
      length vs ≡ length ps → AreTold (setting_over u names) ps →
      below (stages_in vs ps) (point fs (setting_over u names))
      ≡ point (facts_behind ps fs) (setting_over u (names_behind ps names))
  below_told [] [] fs names e h = refl
  below_told [] (p ∷ ps) fs names e h = absurd (omega (arith, e))
  below_told (v ∷ vs) [] fs names e h = absurd (omega (arith, e))
  below_told (v ∷ vs) (p ∷ ps) fs names e h =
      ap (λ t. below (stages_in vs ps) (point (facts_after (mon_of p.first.value) (map string_bytes p.names.items) fs) t)) (sym h.0)
      ∙ below_told vs ps (facts_after (mon_of p.first.value) (map string_bytes p.names.items) fs) _ (omega (arith, e)) h.1

stages_push : (vs : List L.Level) (v : L.Level) (ps : List Q.PassedPart) (p : Q.PassedPart) → length vs ≡ length ps →
    stages_in (vs ++ v ∷ []) (ps ++ p ∷ []) ≡ stages_in vs ps ++ stage_in v p ∷ []
stages_push [] v [] p e = refl
stages_push [] v (q ∷ ps) p e = absurd (omega (arith, e))
stages_push (w ∷ vs) v [] p e = absurd (omega (arith, e))
stages_push (w ∷ vs) v (q ∷ ps) p e = ap (λ r. stage_in w q ∷ r) (stages_push vs v ps p (omega (arith, e)))

-- Weights

rebuilt_push : (ps : List Q.PassedPart) (p : Q.PassedPart) (m : Mon) →
    rebuilt (ps ++ p ∷ []) m ≡ rebuilt ps (M.Bind (mon_of p.first.value) (map string_bytes p.names.items) m)
rebuilt_push [] p m = refl
rebuilt_push (q ∷ ps) p m =
    ap (λ r. M.Bind (mon_of q.first.value) (map string_bytes q.names.items) r) (rebuilt_push ps p m)

pub rebuilt_lighter : (ps : List Q.PassedPart) (m n : Mon) → weight m ≤ weight n → weight (rebuilt ps m) ≤ weight (rebuilt ps n)
rebuilt_lighter [] m n h = h
rebuilt_lighter (p ∷ ps) m n h = omega (arith, rebuilt_lighter ps m n h)

pub at_bottom_lighter : (ps : List Q.PassedPart) (m : Mon) → weight m ≤ weight (rebuilt ps m)
at_bottom_lighter [] m = omega arith
at_bottom_lighter (p ∷ ps) m = omega (arith, at_bottom_lighter ps m)

-- One stage further down

length_more : {A : Type 0} (xs : List A) (x : A) → length (xs ++ x ∷ []) ≡ suc (length xs)
length_more [] x = refl
length_more (y ∷ xs) x = ap suc (length_more xs x)

module _ (u : U.Unit) (scope : N.Scoped) where
  climbs_push : (vs : List L.Level) (v : L.Level) (ps : List Q.PassedPart) (p : Q.PassedPart) (fs : List Fact) (s : Walked) →
      length vs ≡ length ps → AreTold (setting_in scope u) ps →
      seen_climbed polished (point_past u scope fs []) (stages_in (vs ++ v ∷ []) (ps ++ p ∷ [])) s
      ≡ seen_climbed polished (point_past u scope fs []) (stages_in vs ps)
      (seen_raised polished (point_past u scope fs ps) (stage_in v p) s)
  climbs_push vs v ps p fs s e h =
      ap (λ r. seen_climbed polished (point_past u scope fs []) r s) (stages_push vs v ps p e)
      ∙ climbed_push polished (stages_in vs ps) (stage_in v p) (point_past u scope fs []) s
      ∙ ap
      (λ a. seen_climbed polished (point_past u scope fs []) (stages_in vs ps) (seen_raised polished a (stage_in v p) s))
      (below_told u vs ps fs (λ x. names_in scope x) e h)

  pub one_deeper : (d e : D.Descent) (v : L.Level) (p : Q.PassedPart) (m : Mon) (xs : List Name) → IsKept u scope d →
      e.levels.items ≡ d.levels.items ++ v ∷ [] → e.parts.items ≡ d.parts.items ++ p ∷ [] →
      mon_of p.first.value ≡ m → map string_bytes p.names.items ≡ xs →
      kept_names (setting_past u scope d.parts.items) p ≡ given_names (setting_past u scope d.parts.items) p →
      IsDeeper u scope d (stage (stage_in v p).before (stage_in v p).walk m xs) e
  one_deeper d e v p m xs k f g h i t =
      subst (λ w. IsDeeper u scope d w e) (ap₂ (λ a b. stage (stage_in v p).before (stage_in v p).walk a b) h i)
      (record {
        kept = record {
          even = ap length f ∙ length_more d.levels.items v ∙ ap suc k.even ∙ sym (length_more d.parts.items p) ∙ sym (ap length g);
          told = subst (λ ps. AreTold (setting_in scope u) ps) (sym g)
              (told_push u d.parts.items p (λ x. names_in scope x) k.told t);
        };
        point = λ fs.
            ap (λ ps. point_past u scope fs ps) g
            ∙ ap₂ (λ a b. point a b) (facts_push d.parts.items p fs) (setting_push u d.parts.items p (λ x. names_in scope x) ∙ t);
        climbs = λ fs s.
            ap₂ (λ vs ps. seen_climbed polished (point_past u scope fs []) (stages_in vs ps) s) f g
            ∙ climbs_push d.levels.items v d.parts.items p fs s k.even k.told;
        whole = λ r. ap (λ ps. rebuilt ps r) g ∙ rebuilt_push d.parts.items p r;
      })

  pub none_kept : (d : D.Descent) → d.levels.items ≡ [] → d.parts.items ≡ [] → IsKept u scope d
  none_kept d f g = record {
    even = ap length f ∙ sym (ap length g);
    told = subst (λ ps. AreTold (setting_in scope u) ps) (sym g) tt;
  }

  pub same_stage : (d e : D.Descent) (b c : Before) (w v : Walk) (m : Mon) (xs : List Name) → b ≡ c → w ≡ v →
      IsDeeper u scope d (stage b w m xs) e → IsDeeper u scope d (stage c v m xs) e
  same_stage d e b c w v m xs f g i = subst (λ s. IsDeeper u scope d s e) (ap₂ (λ p q. stage p q m xs) f g) i

-- Back up

module _ (u : U.Unit) (scope : N.Scoped) (fs : List Fact) (d : D.Descent) (s : Walked) where
  pub at_the_bottom : IsKept u scope d → IsClimbed u scope fs d s d.levels.items d.parts.items s
  at_the_bottom k = record { even = k.even; told = k.told; same = refl; lighter = omega arith }

  pub at_the_top : (vs : List L.Level) (ps : List Q.PassedPart) (q : Walked) → ps ≡ [] → IsClimbed u scope fs d s vs ps q →
      q ≡ up_from u scope fs d s
  at_the_top [] [] q e c = c.same
  at_the_top (v ∷ vs) [] q e c = absurd (omega (arith, c.even))
  at_the_top vs (p ∷ ps) q e c = absurd cc

  module _ (vs : List L.Level) (v : L.Level) (ps : List Q.PassedPart) (p : Q.PassedPart) (ws : List L.Level)
      (qs : List Q.PassedPart) (q : Walked) (g : qs ≡ ps ++ p ∷ []) (c : IsClimbed u scope fs d s ws qs q) where
    pub no_level : ws ≡ [] → ⊥
    no_level f = omega (arith, c.even, ap length f, ap length g, length_more ps p)

    pub part_lighter : weight (M.Bind (mon_of p.first.value) (map string_bytes p.names.items) q.program)
        ≤ weight (rebuilt d.parts.items s.program)
    part_lighter =
        omega (
          arith,
          c.lighter,
          ap (λ r. weight (rebuilt r q.program)) g,
          ap weight (rebuilt_push ps p q.program),
          at_bottom_lighter ps (M.Bind (mon_of p.first.value) (map string_bytes p.names.items) q.program),
        )

    pub one_higher : ws ≡ vs ++ v ∷ [] → (r : Walked) → r ≡ seen_raised polished (point_past u scope fs ps) (stage_in v p) q →
        IsClimbed u scope fs d s vs ps r
    one_higher f r e =
        let even : length vs ≡ length ps =
        omega (arith, length_more vs v, length_more ps p, c.even, ap length f, ap length g) in
        let told : AreTold (setting_in scope u) ps =
        told_front u ps p (λ x. names_in scope x) (subst (λ q. AreTold (setting_in scope u) q) g c.told) in
        record {
          even = even;
          told = told;
          same =
              ap (λ a. seen_climbed polished (point_past u scope fs []) (stages_in vs ps) a) e
              ∙ sym (climbs_push u scope vs v ps p fs q even told)
              ∙ sym (ap₂ (λ a b. seen_climbed polished (point_past u scope fs []) (stages_in a b) q) f g)
              ∙ c.same;
          lighter =
              omega (
                arith,
                c.lighter,
                ap (λ r. weight (rebuilt r q.program)) g,
                ap weight (rebuilt_push ps p q.program),
                rebuilt_lighter ps r.program (M.Bind (mon_of p.first.value) (map string_bytes p.names.items) q.program)
                    (omega (arith, ap (λ a. weight a.program) e, raised_lighter (point_past u scope fs ps) (stage_in v p) q)),
              );
        }

pub no_names : (ss rs : List Scalar) (t : Setting) → setting_with [] ss t ≡ setting_with [] rs t
no_names ss rs t = refl
