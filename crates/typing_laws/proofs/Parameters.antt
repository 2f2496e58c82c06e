-- Parameters: scalars under different names.
use Rattle.std.proofs.Common.{◌≡◌, ℕ, suc, Bool, true, false, not, cond, ◌&&◌, ◌||◌, List, [], ◌∷◌, length, Option, Some, None, is_some, is_none, option_map, ◌⊎◌, inl, inr, refl, sym, ap, ◌∙◌, subst}
use Rattle.std.proofs.lemmas.Bool.{false≢true, true≢false, false_from_ne_true, or_cases, not_from_false}
use Rattle.std.specs.Option.{option_map_or}
use Rattle.std.specs.List.{cons_option}
use Rattle.c_values.specs.Name.{Name, same_name, is_among, are_distinct}
use Rattle.c_values.specs.Types.{CType, Array}
use Rattle.c_values.specs.Layout.{is_scalar}
use Rattle.c_grammar.specs.Tree as tree
use Rattle.typing_rules.specs.Scope.{Scope, Entity, Global, Local, Names, is_declared_here, with_entity, declare}
use Rattle.typing_rules.specs.Checked.{Good, rule}
use Rattle.typing_rules.specs.Declarations.{pointers, arrays, is_incomplete, points_to_array, is_large}
use Rattle.typing_rules.specs.Expressions.{base, dimensions}
use Rattle.typing_rules.specs.Functions.{Parameter, Written, adjusted, is_declared, parameter_rule, add_parameter, bracketed, parameter_start, parameter, parameters, variables}
use Rattle.c_lang.specs.Typed as C
use Rattle.typing_laws.specs.Written.{IsName, Each, Where, IsBracket, IsParam}
use Rattle.typing_laws.proofs.Tests.{both, neither, not_false, name_is, name_itself}
use Rattle.typing_laws.proofs.Rulings.{Rules, refused_or}
use Rattle.typing_laws.proofs.Rulings as R
use Rattle.typing_laws.proofs.Scopes.{Variables, Fits, has_block}
use Rattle.typing_laws.proofs.Later.{IsLater, later_itself, later_twice}
use Rattle.typing_laws.proofs.Steps.{IsStill, still_itself, still_twice, IsStep, Judges, Anything, reach_then, reach_pure}
use Rattle.typing_laws.proofs.Declared.{Follows, follows_itself, declare_follows}
use Rattle.typing_laws.proofs.Operands.{base_reached, dimensions_reached}
use Rattle.typing_laws.proofs.Outcomes.{Gives, gives, gives_then, gives_rule, gives_step}

-- every name may stand for a variable
abbrev pub Every : Variables
Every x t = Unit {0}

abbrev pub parameter_names : List Parameter → List Name
parameter_names ps = C.variable_names (variables ps)

pub record IsParameter (has_body : Bool) (s : Scope) (p : Parameter) : Type 0 where
  pub scalar : is_scalar p.type ≡ true
  pub named : has_body ≡ true → is_some p.name ≡ true
  pub plain : (x : Name) → p.name ≡ Some x → IsName x
  pub fresh : (x : Name) → p.name ≡ Some x → is_declared_here s.blocks x ≡ false

abbrev pub Own : Bool → Parameter → Type 0
Own has_body p = (is_scalar p.type ≡ true) × (has_body ≡ true → is_some p.name ≡ true) × ((x : Name) → p.name ≡ Some x → IsName x)

-- parameters with names that the block didn't have
pub record AreParameters (has_body : Bool) (s : Scope) (ps : List Parameter) : Type 0 where
  pub own : Each (Own has_body) ps
  pub fresh : (x : Name) → is_among x (parameter_names ps) ≡ true → is_declared_here s.blocks x ≡ false
  pub distinct : are_distinct (parameter_names ps) ≡ true

fresh_before : (s t : Scope) (x : Name) → IsLater s t → is_declared_here t.blocks x ≡ false → is_declared_here s.blocks x ≡ false
fresh_before s t x h c = false_from_ne_true (is_declared_here s.blocks x) (λ e. true≢false (sym (h.here x e) ∙ c))

written_rule : (w : Written) (s : Scope) → ((x : Name) → w.name ≡ Some x → IsName x) → Rules (IsParameter w.has_body s) (parameter_rule w s)
written_rule w s n =
    refused_or (is_declared s w.name) _ _ (λ a.
    refused_or (is_incomplete s.layout w.type) _ _ (λ b.
    refused_or (points_to_array (adjusted w.type) || not (is_scalar (adjusted w.type)) || w.has_body && is_none w.name) _ _ (λ c.
    refused_or (is_large s.layout w.type) _ _ (λ d.
    let p = neither (points_to_array (adjusted w.type) || not (is_scalar (adjusted w.type))) (w.has_body && is_none w.name) c in
    R.ruled (record {
      scalar = not_false (is_scalar (adjusted w.type)) (neither (points_to_array (adjusted w.type)) (not (is_scalar (adjusted w.type))) p.0).1;
      named = λ e. is_named w.name w.has_body e p.1;
      plain = n;
      fresh = λ x e. subst (λ o. is_declared s o ≡ false) e a;
    })))))
  where
    is_named : (o : Option Name) (b : Bool) → b ≡ true → (b && is_none o) ≡ false → is_some o ≡ true
    is_named (Some x) b e k = refl
    is_named None true e k = absurd (true≢false k)
    is_named None false e k = absurd (false≢true e)

bracketed_reached : (V : Variables) (t : CType) (b : tree.Bracket) → IsBracket b → Judges V Anything (bracketed t b)
bracketed_reached V t tree.NoBracket i s h = reach_pure s t h (λ g w. tt)
bracketed_reached V t (tree.OpenBracket a) i s h = reach_pure s (Array t 1) h (λ g w. tt)
bracketed_reached V t (tree.SizedBracket a e) i s h =
    reach_then (dimensions [] (tree.MoreDimensions e tree.NoDimensions) s) _ (dimensions_reached V [] (tree.MoreDimensions e tree.NoDimensions) (i, tt) s h) (λ ns u k. reach_pure u (arrays ns t) k.fits (λ g w. tt))

-- what declaring a parameter does
record Adds (s : Scope) (p : Parameter) (t : Scope) : Type 0 where
  follows : Follows Every s t
  declared : (x : Name) → p.name ≡ Some x → is_declared_here t.blocks x ≡ true

here_now : (bs : List Names) (x : Name) (e : Entity) → has_block bs ≡ true → is_declared_here (with_entity x e bs) x ≡ true
here_now [] x e h = absurd (false≢true h)
here_now (names ∷ bs) x e h = subst (λ b. is_some (cond b (Some e) (names x)) ≡ true) (sym (name_itself x)) refl

adds : (s : Scope) (p : Parameter) (o : Option Name) → p.name ≡ o → Fits Every s → ((x : Name) → o ≡ Some x → is_declared_here s.blocks x ≡ false) → Adds s p (add_parameter p s)
adds s p None e h k = subst (Adds s p) (sym (ap (λ o. option_map_or (λ x. declare x (Local x p.type) s) o s) e)) (record { follows = follows_itself Every s h; declared = λ x c. absurd (no_name x (sym e ∙ c)) })
  where
    no_name : (x : Name) → ◌≡◌ {A = Option Name} None (Some x) → ⊥
    no_name x c = cc
adds s p (Some y) e h k = subst (Adds s p) (sym (ap (λ o. option_map_or (λ x. declare x (Local x p.type) s) o s) e)) (record {
  follows = declare_follows Every y (Local y p.type) s (k y refl) no_global (λ file. tt) h;
  declared = λ x c. subst (λ z. is_declared_here (with_entity y (Local y p.type) s.blocks) z ≡ true) (same_name' x (sym e ∙ c)) (here_now s.blocks y (Local y p.type) h.some);
})
  where
    no_global : (t : CType) → Local y p.type ≡ Global t → ⊥
    no_global t c = cc

    same_name' : (x : Name) → ◌≡◌ {A = Option Name} (Some y) (Some x) → y ≡ x
    same_name' x c = cc

-- a parameter behind a scope
record IsOne (has_body : Bool) (s : Scope) (p : Parameter) (t : Scope) : Type 0 where
  step : IsStep Every Anything s p t
  is : IsParameter has_body s p
  declared : (x : Name) → p.name ≡ Some x → is_declared_here t.blocks x ≡ true

written_name : (x : Option (ℕ × Name)) → Where (λ n. IsName n.1) x → (y : Name) → option_map (λ n. n.1) x ≡ Some y → IsName y
written_name None h y e = absurd cc
written_name (Some n) h y e = let c : n.1 ≡ y = cc in subst IsName c h

parameter_given : (has_body : Bool) (p : tree.Param) → IsParam p → (s : Scope) → Fits Every s → Gives (IsOne has_body s) (parameter has_body p s)
parameter_given has_body (tree.Parameter ws stars x b) i s h =
    gives_then (base ws s) _ (gives_step (base ws s) (base_reached Every ws i.0 s h)) (λ b' t k.
    gives_then (bracketed (pointers (length stars) b'.type) b t) _ (gives_step _ (bracketed_reached Every (pointers (length stars) b'.type) b i.2 t k.fits)) (λ a u m.
    gives_then (rule (parameter_start ws stars x b) (parameter_rule (record { has_body = has_body; name = option_map (λ n. n.1) x; type = a })) u) _
    (gives_rule {P = λ p v. IsParameter has_body u p × (u ≡ v)} (parameter_start ws stars x b) u _ (written_rule (record { has_body = has_body; name = option_map (λ n. n.1) x; type = a }) u (written_name x i.1)) (λ p c. (c, refl)))
    (λ p v c. subst (λ z. Gives (IsOne has_body s) (Good (p, add_parameter p z))) c.1 (one p u (later_twice s t u k.later m.later) (still_twice k.still m.still) m.fits c.0))))
  where
    one : (p : Parameter) (u : Scope) → IsLater s u → IsStill s.progress u.progress → Fits Every u → IsParameter has_body u p → Gives (IsOne has_body s) (Good (p, add_parameter p u))
    one p u l q f c =
        let a = adds u p p.name refl f c.fresh in
        gives (p, add_parameter p u) (record {
          step = record { later = later_twice s u (add_parameter p u) l a.follows.later; still = still_twice q a.follows.still; fits = a.follows.fits; typed = λ g w. tt };
          is = record { scalar = c.scalar; named = c.named; plain = c.plain; fresh = λ x e. fresh_before s u x l (c.fresh x e) };
          declared = a.declared;
        })

-- parameters behind a scope
pub record AreGiven (has_body : Bool) (n : ℕ) (s : Scope) (ps : List Parameter) (t : Scope) : Type 0 where
  pub step : IsStep Every Anything s ps t
  pub are : AreParameters has_body s ps
  pub as_many : length ps ≡ n

more_parameters : (has_body : Bool) (s t : Scope) (p : Parameter) (ps : List Parameter) (o : Option Name) → p.name ≡ o → IsOne has_body s p t → AreParameters has_body t ps → AreParameters has_body s (p ∷ ps)
more_parameters has_body s t p ps None e h k = record {
  own = ((h.is.scalar, h.is.named, h.is.plain), k.own);
  fresh = λ x c. fresh_before s t x h.step.later (k.fresh x (subst (λ o. is_among x (C.variable_names (cons_option (option_map (λ z. record { name = z; type = p.type }) o) (variables ps))) ≡ true) e c));
  distinct = subst (λ o. are_distinct (C.variable_names (cons_option (option_map (λ z. record { name = z; type = p.type }) o) (variables ps))) ≡ true) (sym e) k.distinct;
}
more_parameters has_body s t p ps (Some y) e h k = record {
  own = ((h.is.scalar, h.is.named, h.is.plain), k.own);
  fresh = λ x c. by_cases x (or_cases (same_name x y) (is_among x (parameter_names ps))
      (subst (λ o. is_among x (C.variable_names (cons_option (option_map (λ z. record { name = z; type = p.type }) o) (variables ps))) ≡ true) e c));
  distinct = subst (λ o. are_distinct (C.variable_names (cons_option (option_map (λ z. record { name = z; type = p.type }) o) (variables ps))) ≡ true) (sym e)
      (both (not_from_false (is_among y (parameter_names ps)) (false_from_ne_true (is_among y (parameter_names ps)) (λ c. true≢false (sym (h.declared y e) ∙ k.fresh y c)))) k.distinct);
}
  where
    by_cases : (x : Name) → (same_name x y ≡ true) ⊎ (is_among x (parameter_names ps) ≡ true) → is_declared_here s.blocks x ≡ false
    by_cases x (inl c) = subst (λ z. is_declared_here s.blocks z ≡ false) (sym (name_is x y c)) (h.is.fresh y e)
    by_cases x (inr c) = fresh_before s t x h.step.later (k.fresh x c)

pub parameters_given : (has_body : Bool) (ps : List tree.Param) → Each IsParam ps → (s : Scope) → Fits Every s → Gives (AreGiven has_body (length ps) s) (parameters has_body ps s)
parameters_given has_body [] i s h = gives ([], s) (record {
  step = record { later = later_itself s; still = still_itself s.progress; fits = h; typed = λ g w. tt };
  are = record { own = tt; fresh = λ x c. absurd (false≢true c); distinct = refl };
  as_many = refl;
})
parameters_given has_body (p ∷ ps) i s h =
    gives_then (parameter has_body p s) _ (parameter_given has_body p i.0 s h) (λ a t k.
    gives_then (parameters has_body ps t) _ (parameters_given has_body ps i.1 t k.step.fits) (λ as' u m.
    gives (a ∷ as', u) (record {
      step = record { later = later_twice s t u k.step.later m.step.later; still = still_twice k.step.still m.step.still; fits = m.step.fits; typed = λ g w. tt };
      are = more_parameters has_body s t a as' a.name refl k m.are;
      as_many = ap suc m.as_many;
    })))
