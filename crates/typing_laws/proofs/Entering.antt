-- The scope in which a body begins: its parameters are variables.
use Rattle.std.proofs.Common.{◌≡◌, suc, ◌+◌, ◌<◌, ◌≤◌, Bool, true, false, not, cond, List, [], ◌∷◌, ◌++◌, map, length, Option, Some, None, is_some, option_map, ◌⊎◌, inl, inr, refl, sym, ap, ◌∙◌, subst, arith, append-nil, zero-add}
use Rattle.std.proofs.lemmas.Bool.{false≢true, true≢false, or_cases, or_left, or_right, cond-true, not-true}
use Rattle.std.proofs.lemmas.List.Sums.{sum_by-append}
use Rattle.std.specs.Option.{option_map_or}
use Rattle.std.specs.List.{cons_option}
use Rattle.c_values.specs.Name.{Name, same_name, is_among, are_distinct}
use Rattle.c_values.specs.CodeSameType.{same_type-refl}
use Rattle.typing_rules.specs.Scope.{Scope, Local, declare, outer, opened}
use Rattle.typing_rules.specs.Progress.{at_start}
use Rattle.typing_rules.specs.Functions.{Parameter, variables, types, add_parameter, add_parameters, enter}
use Rattle.c_lang.specs.Typed as C
use Rattle.c_lang.specs.WellTyped.{variable_type, is_type, are_variables, is_own_name}
use Rattle.typing_laws.specs.Written.{IsName, Each}
use Rattle.typing_laws.proofs.Tests.{both, left, right, name_is, name_itself}
use Rattle.typing_laws.proofs.Numbered.{numbered_own}
use Rattle.typing_laws.proofs.Scopes.{Variables, Fits, has_block, fits_more}
use Rattle.typing_laws.proofs.Later.{IsLater, later_itself, later_twice, block_opened}
use Rattle.typing_laws.proofs.Variables.{IsProgress, AreNumbered, times}
use Rattle.typing_laws.proofs.Bodies.{all_in, Vars, IsReady}
use Rattle.typing_laws.proofs.Inner.{local_named}
use Rattle.typing_laws.proofs.Parameters.{parameter_names, Own, AreParameters}
use Rattle.typing_laws.proofs.Files.{Nothing, IsFile}

each_weaker : {A : Type 0} (P Q : A → Type 0) (as' : List A) → Each P as' → ((a : A) → P a → Q a) → Each Q as'
each_weaker P Q [] h k = tt
each_weaker P Q (a ∷ as') h k = (k a h.0, each_weaker P Q as' h.1 k)

-- a parameter that is a variable of its type
abbrev IsIn : List C.Variable → Parameter → Type 0
IsIn vs p = (x : Name) → p.name ≡ Some x → (is_type (variable_type vs x) p.type ≡ true) × (is_among x (C.variable_names vs) ≡ true)

in_more : (v : C.Variable) (vs : List C.Variable) (p : Parameter) → is_among v.name (C.variable_names vs) ≡ false → IsIn vs p → IsIn (v ∷ vs) p
in_more v vs p new h x e =
    let k = h x e in
    (by_cases (same_name v.name x) refl k.0 k.1, or_right (same_name x v.name) (is_among x (C.variable_names vs)) k.1)
  where
    by_cases : (b : Bool) → same_name v.name x ≡ b → is_type (variable_type vs x) p.type ≡ true → is_among x (C.variable_names vs) ≡ true → is_type (cond b (Some v.type) (variable_type vs x)) p.type ≡ true
    by_cases true c t a = absurd (true≢false (sym a ∙ ap (λ z. is_among z (C.variable_names vs)) (sym (name_is v.name x c)) ∙ new))
    by_cases false c t a = t

in_first : (vs : List C.Variable) (p : Parameter) (y : Name) → p.name ≡ Some y → IsIn (record { name = y; type = p.type } ∷ vs) p
in_first vs p y e x c =
    let same : y ≡ x = cc in
    subst (λ z. (is_type (variable_type (record { name = y; type = p.type } ∷ vs) z) p.type ≡ true) × (is_among z (C.variable_names (record { name = y; type = p.type } ∷ vs)) ≡ true)) same
    (subst (λ o. is_type o p.type ≡ true) (sym (cond-true (same_name y y) (Some p.type) (variable_type vs y) (name_itself y))) (same_type-refl p.type), or_left (same_name y y) (is_among y (C.variable_names vs)) (name_itself y))

all_are_in : (ps : List Parameter) → are_distinct (parameter_names ps) ≡ true → Each (IsIn (variables ps)) ps
all_are_in [] h = tt
all_are_in (p ∷ ps) h = by_name p.name refl h (all_are_in ps)
  where
    no_name : (x : Name) → ◌≡◌ {A = Option Name} None (Some x) → ⊥
    no_name x c = cc

    by_name : (o : Option Name) → p.name ≡ o → are_distinct (C.variable_names (cons_option (option_map (λ z. record { name = z; type = p.type }) o) (variables ps))) ≡ true →
        (are_distinct (parameter_names ps) ≡ true → Each (IsIn (variables ps)) ps) →
        Each (IsIn (cons_option (option_map (λ z. record { name = z; type = p.type }) o) (variables ps))) (p ∷ ps)
    by_name None e k r = ((λ x c. absurd (no_name x (sym e ∙ c))), r k)
    by_name (Some y) e k r =
        let new = not-true (is_among y (parameter_names ps)) (left (not (is_among y (parameter_names ps))) (are_distinct (parameter_names ps)) k) in (
          in_first (variables ps) p y e,
          each_weaker (IsIn (variables ps)) (IsIn (record { name = y; type = p.type } ∷ variables ps)) ps (r (right (not (is_among y (parameter_names ps))) (are_distinct (parameter_names ps)) k)) (λ q i. in_more (record { name = y; type = p.type }) (variables ps) q new i),
        )

-- parameters are declared in a block within the file's
record Enters (V : Variables) (s t : Scope) : Type 0 where
  later : IsLater s t
  fits : Fits V t
  progress : t.progress ≡ s.progress

one_entered : (V : Variables) (p : Parameter) (s : Scope) (o : Option Name) → has_block (outer s.blocks) ≡ true → ((x : Name) → o ≡ Some x → V x p.type) → Fits V s →
    Enters V s (option_map_or (λ x. declare x (Local x p.type) s) o s)
one_entered V p s None b v h = record { later = later_itself s; fits = h; progress = refl }
one_entered V p s (Some x) b v h = let n = local_named V s x x p.type b (v x refl) h in record { later = n.0; fits = n.1; progress = refl }

all_entered : (V : Variables) (ps : List Parameter) (s : Scope) → has_block (outer s.blocks) ≡ true → Each (λ p. (x : Name) → p.name ≡ Some x → V x p.type) ps → Fits V s → Enters V s (add_parameters ps s)
all_entered V [] s b v h = record { later = later_itself s; fits = h; progress = refl }
all_entered V (p ∷ ps) s b v h =
    let k = one_entered V p s p.name b v.0 h in
    let m = all_entered V ps (add_parameter p s) (ap has_block k.later.outer ∙ b) v.1 k.fits in
    record { later = later_twice s (add_parameter p s) (add_parameters ps (add_parameter p s)) k.later m.later; fits = m.fits; progress = m.progress ∙ k.progress }

-- the parameters as the variables so far
own_name_of : (x : Name) → IsName x → is_own_name x ≡ true
own_name_of x h = numbered_own x 0 h

params_scalar : (b : Bool) (ps : List Parameter) → Each (Own b) ps → are_variables (variables ps) ≡ true
params_scalar b [] h = refl
params_scalar b (p ∷ ps) h = by_name p.name refl (params_scalar b ps h.1)
  where
    by_name : (o : Option Name) → p.name ≡ o → are_variables (variables ps) ≡ true → are_variables (cons_option (option_map (λ z. record { name = z; type = p.type }) o) (variables ps)) ≡ true
    by_name None e r = r
    by_name (Some x) e r = both (both h.0.0 (own_name_of x (h.0.2 x e))) r

names_length : (vs : List C.Variable) → length (C.variable_names vs) ≡ length vs
names_length [] = refl
names_length (v ∷ vs) = ap suc (names_length vs)

times_first : (x y : Name) (ys : List Name) → times x (y ∷ ys) ≡ cond (same_name y x) 1 0 + times x ys
times_first x y ys = sum_by-append (λ z. cond (same_name z x) 1 0) (y ∷ []) ys ∙ ap (λ k. k + times x ys) (zero-add (cond (same_name y x) 1 0))

some_times : (x : Name) (ys : List Name) → is_among x ys ≡ true → 0 < times x ys
some_times x [] h = absurd (false≢true h)
some_times x (y ∷ ys) h = by_cases (or_cases (same_name x y) (is_among x ys) h) (some_times x ys)
  where
    by_cases : (same_name x y ≡ true) ⊎ (is_among x ys ≡ true) → (is_among x ys ≡ true → 0 < times x ys) → 0 < times x (y ∷ ys)
    by_cases (inl c) r =
        let same : same_name y x ≡ true = ap (λ z. same_name z x) (sym (name_is x y c)) ∙ name_itself x in
        let e = times_first x y ys ∙ ap (λ b. cond b 1 0 + times x ys) same in
        omega (arith, e)
    by_cases (inr c) r = let e = times_first x y ys in let k = r c in omega (arith, e, k)

params_numbered : (b : Bool) (names : List Name) (ps : List Parameter) → Each (Own b) ps → ((x : Name) → is_among x (parameter_names ps) ≡ true → is_among x names ≡ true) → AreNumbered names (variables ps)
params_numbered b names [] h k = tt
params_numbered b names (p ∷ ps) h k = by_name p.name refl k (params_numbered b names ps h.1)
  where
    by_name : (o : Option Name) → p.name ≡ o → ((x : Name) → is_among x (C.variable_names (cons_option (option_map (λ z. record { name = z; type = p.type }) o) (variables ps))) ≡ true → is_among x names ≡ true) →
        (((x : Name) → is_among x (parameter_names ps) ≡ true → is_among x names ≡ true) → AreNumbered names (variables ps)) →
        AreNumbered names (cons_option (option_map (λ z. record { name = z; type = p.type }) o) (variables ps))
    by_name None e i r = r i
    by_name (Some y) e i r = (
      record { name = y; number = 0; is = refl; below = some_times y names (i y (or_left (same_name y y) (is_among y (parameter_names ps)) (name_itself y))); plain = h.0.2 y e },
      r (λ x c. i x (or_right (same_name x y) (is_among x (parameter_names ps)) c)),
    )

params_progress : (b : Bool) (s : Scope) (ps : List Parameter) → AreParameters b s ps → IsProgress (parameter_names ps) (variables ps)
params_progress b s ps h = record {
  scalars = params_scalar b ps h.own;
  as_many = names_length (variables ps);
  numbered = params_numbered b (parameter_names ps) ps h.own (λ x c. c);
  distinct = λ few. h.distinct;
}

pub types_are : (ps : List Parameter) → Each (λ p. is_some p.name ≡ true) ps → types ps ≡ map (λ v. v.type) (variables ps)
types_are [] h = refl
types_are (p ∷ ps) h = by_name p.name h.0 (types_are ps h.1)
  where
    by_name : (o : Option Name) → is_some o ≡ true → types ps ≡ map (λ v. v.type) (variables ps) →
        p.type ∷ types ps ≡ map (λ v. v.type) (cons_option (option_map (λ z. record { name = z; type = p.type }) o) (variables ps))
    by_name None c r = absurd (false≢true c)
    by_name (Some x) c r = ap (λ ts. p.type ∷ ts) r

-- no more variables than parameters
pub fewer_variables : (ps : List Parameter) → length (variables ps) ≤ length ps
fewer_variables [] = omega arith
fewer_variables (p ∷ ps) = by_name p.name (fewer_variables ps)
  where
    by_name : (o : Option Name) → length (variables ps) ≤ length ps → length (cons_option (option_map (λ z. record { name = z; type = p.type }) o) (variables ps)) ≤ length (p ∷ ps)
    by_name None h = omega (arith, h)
    by_name (Some x) h = omega (arith, h)

-- a body begins
pub record Begins (ps : List Parameter) (s : Scope) : Type 0 where
  pub later : IsLater (opened s) (enter ps (opened s))
  pub ready : IsReady (variables ps) (enter ps (opened s))
  pub progress : (enter ps (opened s)).progress ≡ at_start (parameter_names ps)

pub body_begins : (b : Bool) (u : Scope) (ps : List Parameter) (s : Scope) → AreParameters b u ps → IsFile s → Begins ps s
body_begins b u ps s p h =
    let own = variables ps in
    let before = record (opened s) { progress = at_start (parameter_names ps) } in
    let V : Variables = λ x t. is_type (variable_type own x) t ≡ true in
    let declared : Each (λ q. (x : Name) → q.name ≡ Some x → V x q.type) ps = each_weaker (IsIn own) (λ q. (x : Name) → q.name ≡ Some x → V x q.type) ps (all_are_in ps p.distinct) (λ q i x e. (i x e).0) in
    let k = all_entered V ps before h.fits.some declared (block_opened V s (fits_more Nothing V s.layout s.blocks s.file.globals (λ x t v. absurd v) h.fits)) in
    let t = enter ps (opened s) in
    let same : all_in own t ≡ own = ap (λ q. own ++ q.locals) k.progress ∙ append-nil own in
    record {
      later = record { layout = k.later.layout; outer = k.later.outer; some = k.later.some; names = k.later.names; here = k.later.here; with_body = k.later.with_body; so_far = k.later.so_far };
      ready = record {
        fits = fits_more V (Vars own t) t.layout t.blocks t.file.globals (λ x u' v few. subst (λ vs. is_type (variable_type vs x) u' ≡ true) (sym same) v) k.fits;
        progress = subst (λ names. IsProgress names (all_in own t)) (sym (ap (λ q. q.declared) k.progress)) (subst (IsProgress (parameter_names ps)) (sym same) (params_progress b u ps p));
        inside = ap has_block k.later.outer ∙ h.fits.some;
      };
      progress = k.progress;
    }
