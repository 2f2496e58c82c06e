-- What judgements within a function's body give: variables may become more.
use Rattle.std.proofs.Common.{◌≡◌, ℕ, true, List, ◌++◌, sym, ap, ◌∙◌, subst}
use Rattle.c_values.specs.Name.{Name}
use Rattle.c_values.specs.Types.{CType}
use Rattle.c_lang.specs.Typed as C
use Rattle.c_lang.specs.WellTyped as W
use Rattle.typing_rules.specs.declared.fault.TypeKind.{TypeKind}
use Rattle.typing_rules.specs.Scope.{Scope, opened, closed, outer}
use Rattle.typing_rules.specs.Checked.{Checked, Good, Bad, Judgement, then, Ruling, Ruled, Refused, ruled, in_block}
use Rattle.typing_laws.proofs.Rulings.{Rules, rules_value}
use Rattle.typing_laws.proofs.Scopes.{Variables, Fits, fits_more, has_block}
use Rattle.typing_laws.proofs.Later.{IsLater, later_itself, later_twice, IsWithin, within_before, within_fewer, opened_later, block_opened, block_closed, within_closed}
use Rattle.typing_laws.proofs.Steps.{Fact, IsStep, Reaches}
use Rattle.typing_laws.proofs.Steps as S
use Rattle.typing_laws.proofs.Variables.{IsProgress, Among}

module _ (params : List C.Variable) where
  -- the parameters and the locals so far
  abbrev pub all_in : Scope → List C.Variable
  all_in s = params ++ s.progress.locals

  abbrev pub Vars : Scope → Variables
  Vars s = Among (all_in s)

  -- a scope in a body
  pub record IsReady (s : Scope) : Type 0 where
    pub fits : Fits (Vars s) s
    pub progress : IsProgress s.progress.declared (all_in s)
    pub inside : has_block (outer s.blocks) ≡ true

  pub record IsTurn {A : Type 0} (T : Fact A) (s : Scope) (a : A) (t : Scope) : Type 0 where
    pub later : IsLater s t
    pub more : (x : Name) (u : CType) → Vars s x u → Vars t x u
    pub ready : IsReady t
    pub typed : (g : W.Scope) → IsWithin (Vars t) t g → T g a

  pub data Turns {A : Type 0} (T : Fact A) (s : Scope) : Checked (A × Scope) → Type 0 where
    good : (p : A × Scope) → IsTurn T s p.0 p.1 → Turns T s (Good p)
    bad : {at : ℕ} {kind : TypeKind} → Turns T s (Bad at kind)

  abbrev pub Runs : {A : Type 0} → Fact A → Judgement A → Type 0
  Runs T j = (s : Scope) → IsReady s → Turns T s (j s)

  -- in a whole that has the later scope
  pub whole_before : {A : Type 0} {T : Fact A} {s t : Scope} {a : A} {g : W.Scope} → IsTurn T s a t → IsWithin (Vars t) t g → IsWithin (Vars s) s g
  whole_before h w = within_before h.later (within_fewer h.more w)

  pub turned_later : {A B : Type 0} {T : Fact A} {U : Fact B} {s t : Scope} {a : A} (c : Checked (B × Scope)) → IsTurn T s a t → Turns U t c → Turns U s c
  turned_later {s} {t} _ h (good p k) = good p (record { later = later_twice s t p.1 h.later k.later; more = λ x u v. k.more x u (h.more x u v); ready = k.ready; typed = k.typed })
  turned_later _ h bad = bad

  pub turn_then : {A B : Type 0} {T : Fact A} {U : Fact B} {s : Scope} (c : Checked (A × Scope)) (f : A → Judgement B) → Turns T s c →
      ((a : A) (t : Scope) → IsTurn T s a t → Turns U t (f a t)) → Turns U s (then c f)
  turn_then _ f (good p h) k = turned_later (f p.0 p.1) h (k p.0 p.1 h)
  turn_then _ f bad k = bad

  pub turn_pure : {A : Type 0} {T : Fact A} (s : Scope) (a : A) → IsReady s → ((g : W.Scope) → IsWithin (Vars s) s g → T g a) → Turns T s (Good (a, s))
  turn_pure s a h k = good (a, s) (record { later = later_itself s; more = λ x u v. v; ready = h; typed = k })

  pub turn_rule : {A : Type 0} {T : Fact A} (at : ℕ) (s : Scope) (r : Ruling A) → IsReady s → ((g : W.Scope) → IsWithin (Vars s) s g → Rules (T g) r) → Turns T s (ruled at s r)
  turn_rule at s (Ruled a) h k = turn_pure s a h (λ g w. rules_value (k g w))
  turn_rule at s (Refused kind) h k = bad

  pub turn_weaker : {A : Type 0} {T U : Fact A} {s : Scope} (c : Checked (A × Scope)) → Turns T s c → ((g : W.Scope) (a : A) → T g a → U g a) → Turns U s c
  turn_weaker _ (good p h) k = good p (record { later = h.later; more = h.more; ready = h.ready; typed = λ g w. k g p.0 (h.typed g w) })
  turn_weaker _ bad k = bad

  -- a step that declares no variable
  pub turn_of_step : {A : Type 0} {T : Fact A} {a : A} (s t : Scope) → IsReady s → IsStep (Vars s) T s a t → IsTurn T s a t
  turn_of_step {A} {T} {a} s t h k =
      let same : all_in t ≡ all_in s = ap (λ vs. params ++ vs) k.still.locals in
      record {
        later = k.later;
        more = λ x u v. subst (λ vs. Among vs x u) (sym same) v;
        ready = record {
          fits = fits_more (Vars s) (Vars t) t.layout t.blocks t.file.globals (λ x u v. subst (λ vs. Among vs x u) (sym same) v) k.fits;
          progress = subst (λ names. IsProgress names (all_in t)) (sym k.still.declared) (subst (IsProgress s.progress.declared) (sym same) h.progress);
          inside = ap has_block k.later.outer ∙ h.inside;
        };
        typed = λ g w. k.typed g (within_fewer (λ x u v. subst (λ vs. Among vs x u) (sym same) v) w);
      }

  pub turn_of : {A : Type 0} {T : Fact A} (s : Scope) (c : Checked (A × Scope)) → IsReady s → Reaches (Vars s) T s c → Turns T s c
  turn_of s _ h (S.good p k) = good p (turn_of_step s p.1 h k)
  turn_of s _ h S.bad = bad

  pub inner_ready : (s : Scope) → IsReady s → IsReady (opened s)
  inner_ready s h = record { fits = block_opened (Vars s) s h.fits; progress = h.progress; inside = h.fits.some }

  pub turn_in_block : {A : Type 0} {T : Fact A} (s : Scope) (j : Judgement A) → IsReady s → ((t : Scope) → IsReady t → Turns T t (j t)) → Turns T s (in_block j s)
  turn_in_block {A} {T} s j h r = of_inner (j (opened s)) (r (opened s) (inner_ready s h))
    where
      of_inner : (c : Checked (A × Scope)) → Turns T (opened s) c → Turns T s (then c (λ a t. Good (a, closed t)))
      of_inner _ (good p k) = good (p.0, closed p.1) (record {
        later = opened_later s p.1 h.fits.some k.later;
        more = k.more;
        ready = record {
          fits = block_closed (Vars p.1) s p.1 h.fits.some k.later k.ready.fits;
          progress = k.ready.progress;
          inside = ap (λ bs. has_block (outer bs)) k.later.outer ∙ h.inside;
        };
        typed = λ g w. k.typed g (within_closed s p.1 h.fits.some k.later w);
      })
      of_inner _ bad = bad
