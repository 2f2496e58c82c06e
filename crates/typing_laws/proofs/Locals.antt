-- Locals of a body.
use Rattle.std.proofs.Common.{◌≡◌, ℕ, true, false, not, ◌||◌, List, [], ◌∷◌, length, Option, Some, None, refl, sym, ap, ◌∙◌, subst, append_assoc}
use Rattle.c_values.specs.Name.{Name}
use Rattle.c_values.specs.Types.{CType}
use Rattle.c_values.specs.Layout.{is_scalar}
use Rattle.c_grammar.specs.Tree as tree
use Rattle.typing_rules.specs.Scope.{Scope, Global, Hidden, is_declared_here}
use Rattle.typing_rules.specs.Checked.{Checked, Good, Judgement, then, Ruling, ruled}
use Rattle.typing_rules.specs.Progress.{own_name, with_local}
use Rattle.typing_rules.specs.Declarations.{Declared, is_incomplete, points_to_array, pointers, arrays}
use Rattle.typing_rules.specs.Expressions.{base, declarator, dimensions, words_start, declarator_start}
use Rattle.typing_rules.specs.Calls.{right}
use Rattle.typing_rules.specs.Locals.{local_name, add_local, name_local, initial, declared, init, inits, local}
use Rattle.c_lang.specs.Typed as C
use Rattle.c_lang.specs.WellTyped as W
use Rattle.typing_laws.specs.Written.{IsName, Each, Where, IsDeclarator, IsRhs, IsInit, IsLocal}
use Rattle.typing_laws.proofs.Tests.{neither, not_false}
use Rattle.typing_laws.proofs.Rulings.{Rules, refused_or}
use Rattle.typing_laws.proofs.Rulings as R
use Rattle.typing_laws.proofs.Scopes.{Variables, has_block, fits_more}
use Rattle.typing_laws.proofs.Later.{IsWithin, within_before}
use Rattle.typing_laws.proofs.Steps.{Fact, Judges, Anything, reach_then, reach_pure, reach_rule}
use Rattle.typing_laws.proofs.Declared.{declare_follows}
use Rattle.typing_laws.proofs.Operands.{base_reached, dimensions_reached}
use Rattle.typing_laws.proofs.Calls.{IsPlain, right_reached, assigned_typed}
use Rattle.typing_laws.proofs.Variables.{IsProgress, Among, among_more, among_new, with_variable, progress_more}
use Rattle.typing_laws.proofs.Bodies.{all_in, Vars, IsReady, IsTurn, Turns, good, bad, Runs, whole_before, turned_later, turn_then, turn_pure, turn_rule, turn_of}
use Rattle.typing_laws.proofs.Inner.{local_named}

-- statements that are some wherever they stand
abbrev pub ArePlain : W.Scope → List C.Statement → Type 0
ArePlain g [] = Unit {0}
ArePlain g (s ∷ ss) = IsPlain g s × ArePlain g ss

-- what the rule of a local says
pub record IsNew (d : Declared) (s : Scope) (own : Name) : Type 0 where
  pub is : own ≡ own_name s.progress d.name
  pub new : is_declared_here s.blocks d.name ≡ false
  pub scalar : is_scalar d.type ≡ true

pub local_rule : (d : Declared) (s : Scope) → Rules (IsNew d s) (local_name d s)
local_rule d s =
    refused_or (is_declared_here s.blocks d.name) _ _ (λ n.
    refused_or (is_incomplete s.layout d.type) _ _ (λ c.
    refused_or (not (is_scalar d.type) || points_to_array d.type) _ _ (λ e.
    R.ruled (record { is = refl; new = n; scalar = not_false (is_scalar d.type) (neither (not (is_scalar d.type)) (points_to_array d.type) e).0 }))))

module _ (params : List C.Variable) where
  rule_then : {A B : Type 0} {P : A → Type 0} {U : Fact B} (at : ℕ) (s : Scope) (r : Ruling A) (f : A → Judgement B) → Rules P r → ((a : A) → P a → Turns params U s (f a s)) → Turns params U s (then (ruled at s r) f)
  rule_then at s _ f (R.ruled {a} h) k = k a h
  rule_then at s _ f R.refused k = bad

  -- a local more, that isn't to be named yet
  pub local_added : (d : Declared) (s : Scope) → IsReady params s → IsName d.name → is_declared_here s.blocks d.name ≡ false → is_scalar d.type ≡ true →
      IsTurn params Anything s (own_name s.progress d.name) (add_local (own_name s.progress d.name) d s)
  local_added d s h n new scalar =
      let own = own_name s.progress d.name in
      let u = add_local own d s in
      let same : with_variable (all_in params s) own d.type ≡ all_in params u = append_assoc params s.progress.locals (record { name = own; type = d.type } ∷ []) in
      let more : (x : Name) (v : CType) → Vars params s x v → Vars params u x v = λ x v c. subst (λ vs. Among vs x v) same (among_more (all_in params s) own d.type x v c) in
      let before = record s { progress = with_local own d.name d.type s.progress } in
      let f = declare_follows (Vars params u) d.name Hidden before new no_global (λ file. tt) (fits_more (Vars params s) (Vars params u) s.layout s.blocks s.file.globals more h.fits) in
      record {
        later = record { layout = f.later.layout; outer = f.later.outer; some = f.later.some; names = f.later.names; here = f.later.here; with_body = f.later.with_body; so_far = f.later.so_far };
        more = more;
        ready = record {
          fits = f.fits;
          progress = subst (λ vs. IsProgress u.progress.declared vs) same (progress_more s.progress.declared (all_in params s) d.name d.type h.progress n scalar);
          inside = ap has_block f.later.outer ∙ h.inside;
        };
        typed = λ g w. tt;
      }
    where
      no_global : (t : CType) → Hidden ≡ Global t → ⊥
      no_global t e = cc

  pub added_is : (d : Declared) (s : Scope) → IsReady params s → IsName d.name → Vars params (add_local (own_name s.progress d.name) d s) (own_name s.progress d.name) d.type
  added_is d s h n = subst (λ vs. Among vs (own_name s.progress d.name) d.type) (append_assoc params s.progress.locals (record { name = own_name s.progress d.name; type = d.type } ∷ []))
      (among_new s.progress.declared (all_in params s) d.name d.type h.progress n)

  pub initial_reached : (V : Variables) (own : Name) (d : Declared) (r : Option tree.Rhs) → Where IsRhs r → V own d.type → Judges V IsPlain (initial own d r)
  initial_reached V own d None i v s h = reach_pure s (C.Declare own d.type) h (λ g w r. w.variables own d.type v)
  initial_reached V own d (Some r) i v s h =
      reach_then (right r s) _ (right_reached V r i s h) (λ a t k.
      reach_rule d.at t _ k.fits (λ g w. assigned_typed g t.layout (C.ToLocal own d.type) a (w.variables own d.type v) (k.typed g w)))

  named : (own : Name) (d : Declared) (a : C.Statement) (s : Scope) → IsReady params s → Vars params s own d.type → ((g : W.Scope) → IsWithin (Vars params s) s g → IsPlain g a) →
      Turns params IsPlain s (Good (a, name_local own d s))
  named own d a s h v k =
      let n = local_named (Vars params s) s d.name own d.type h.inside v h.fits in
      good (a, name_local own d s) (record {
        later = n.0;
        more = λ x u c. c;
        ready = record { fits = n.1; progress = h.progress; inside = ap has_block n.0.outer ∙ h.inside };
        typed = λ g w. k g (within_before n.0 w);
      })

  declared_turns : (d : Declared) (r : Option tree.Rhs) → Where IsRhs r → IsName d.name → Runs params IsPlain (declared d r)
  declared_turns d r i n s h = rule_then d.at s (local_name d s) _ (local_rule d s) (λ own c. subst (λ o. Turns params IsPlain s (rest o s)) (sym c.is) (begun c.new c.scalar))
    where
      rest : Name → Judgement C.Statement
      rest own t = then (initial own d r (add_local own d t)) (λ a u. Good (a, name_local own d u))

      begun : is_declared_here s.blocks d.name ≡ false → is_scalar d.type ≡ true → Turns params IsPlain s (rest (own_name s.progress d.name) s)
      begun new scalar =
          let own = own_name s.progress d.name in
          let t = add_local own d s in
          let b = local_added d s h n new scalar in
          turned_later params (rest own s) b
          (turn_then params (initial own d r t) _ (turn_of params t (initial own d r t) b.ready (initial_reached (Vars params t) own d r i (added_is d s h n) t b.ready.fits)) (λ a u k.
          named own d a u k.ready (k.more own d.type (added_is d s h n)) k.typed))

  -- a declarator, and what follows it
  declarator_then : {B : Type 0} {U : Fact B} (t : CType) (stars : List ℕ) (at : ℕ) (x : Name) (ns : tree.Dimensions) (f : Declared → Judgement B) (s : Scope) → IsDeclarator (tree.Declare stars at x ns) → IsReady params s →
      ((head : Declared) → IsName head.name → (u : Scope) → IsReady params u → Turns params U u (f head u)) → Turns params U s (then (declarator t (tree.Declare stars at x ns) s) f)
  declarator_then {B} {U} t stars at x ns f s i h k = of_lengths (dimensions [] ns s) (turn_of params s (dimensions [] ns s) h (dimensions_reached (Vars params s) [] ns i.1 s h.fits))
    where
      head_of : List ℕ → Declared
      head_of lengths = record { at = declarator_start stars at; name = x; type = arrays lengths (pointers (length stars) t) }

      of_lengths : (c : Checked (List ℕ × Scope)) → Turns params Anything s c → Turns params U s (then (then c (λ lengths u. Good (head_of lengths, u))) f)
      of_lengths _ (good p m) = turned_later params (f (head_of p.0) p.1) m (k (head_of p.0) i.0 p.1 m.ready)
      of_lengths _ bad = bad

  pub init_turns : (t : CType) (a : tree.Init) → IsInit a → Runs params IsPlain (init t a)
  init_turns t (tree.Initialized (tree.Declare stars at x ns) r) i s h =
      declarator_then t stars at x ns (declared_by r) s i.0 h (λ head n u k. declared_turns head r i.1 n u k)
    where
      declared_by : Option tree.Rhs → Declared → Judgement C.Statement
      declared_by r' head = declared head r'

  pub inits_turn : (t : CType) (is : List tree.Init) → Each IsInit is → Runs params ArePlain (inits t is)
  inits_turn t [] i s h = turn_pure params s [] h (λ g w. tt)
  inits_turn t (x ∷ xs) i s h =
      turn_then params (init t x s) _ (init_turns t x i.0 s h) (λ a u k.
      turn_then params (inits t xs u) _ (inits_turn t xs i.1 u k.ready) (λ ss v m.
      turn_pure params v (a ∷ ss) m.ready (λ g w. (k.typed g (whole_before params m w), m.typed g w))))

  pub local_turns : (l : tree.Local) → IsLocal l → Runs params ArePlain (local l)
  local_turns (tree.Locals ws is) i s h =
      turn_then params (base ws s) _ (turn_of params s (base ws s) h (base_reached (Vars params s) ws i.0 s h.fits)) (λ b t k.
      turn_then params (inits b.type is t) _ (inits_turn b.type is i.1 t k.ready) (λ ss u m.
      turn_rule params (words_start ws) u _ m.ready (λ g w. refused_or (b.is_static || b.is_extern) _ _ (λ e. R.ruled (m.typed g w)))))
