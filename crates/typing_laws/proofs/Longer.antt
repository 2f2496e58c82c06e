-- How many locals a body has more behind a judgement.
use Rattle.std.proofs.Common.{◌≡◌, ℕ, ◌+◌, ◌≤◌, List, [], ◌∷◌, length, Option, ap, subst, sym, arith, length-append, le_of_eq}
use Rattle.c_values.specs.Name.{Name}
use Rattle.c_values.specs.Types.{CType}
use Rattle.c_grammar.specs.Tree as tree
use Rattle.c_lang.specs.Typed as C
use Rattle.typing_rules.specs.declared.fault.TypeKind.{TypeKind}
use Rattle.typing_rules.specs.Scope.{Scope, opened, closed}
use Rattle.typing_rules.specs.Checked.{Checked, Good, Bad, Judgement, then, Ruling, Ruled, Refused, ruled, in_block}
use Rattle.typing_rules.specs.Progress.{own_name}
use Rattle.typing_rules.specs.Declarations.{Declared, arrays, pointers}
use Rattle.typing_rules.specs.Expressions.{base, dimensions, declarator_start, words_start}
use Rattle.typing_rules.specs.Locals.{local_name, add_local, name_local, initial, declared, init, inits, local}
use Rattle.typing_laws.specs.Written.{IsName, Each, Where, IsRhs, IsInit, IsLocal}
use Rattle.typing_laws.specs.Count.{calls_on_right, where_some, numbered_in_init, numbered_in_inits, numbered_in_local}
use Rattle.typing_laws.proofs.Rulings.{Rules}
use Rattle.typing_laws.proofs.Rulings as R
use Rattle.typing_laws.proofs.Steps.{Fact, Reaches}
use Rattle.typing_laws.proofs.Steps as S
use Rattle.typing_laws.proofs.Scopes.{Variables}
use Rattle.typing_laws.proofs.Operands.{base_reached, dimensions_reached}
use Rattle.typing_laws.proofs.Bodies.{Vars, IsReady, Turns, turn_of}
use Rattle.typing_laws.proofs.Bodies as B
use Rattle.typing_laws.proofs.Locals.{IsNew, local_rule, local_added, added_is, initial_reached, inits_turn, init_turns}

abbrev pub locals_so_far : Scope → ℕ
locals_so_far s = length s.progress.locals

-- so many locals more at most
pub data Longer {A : Type 0} (n : ℕ) (s : Scope) : Checked (A × Scope) → Type 0 where
  longer : (p : A × Scope) → locals_so_far p.1 ≤ locals_so_far s + n → Longer n s (Good p)
  none : {at : ℕ} {kind : TypeKind} → Longer n s (Bad at kind)

pub longer_more : {A : Type 0} {s : Scope} (n m : ℕ) (c : Checked (A × Scope)) → n ≤ m → Longer n s c → Longer m s c
longer_more n m _ le (longer p h) = longer p (omega (arith, h))
longer_more n m _ le none = none

pub longer_after : {B : Type 0} {s t : Scope} (n m : ℕ) (c : Checked (B × Scope)) → locals_so_far t ≤ locals_so_far s + n → Longer m t c → Longer (n + m) s c
longer_after n m _ h (longer p k) = longer p (omega (arith, h, k))
longer_after n m _ h none = none

pub longer_itself : {A : Type 0} (s : Scope) (a : A) → Longer 0 s (Good (a, s))
longer_itself s a = longer (a, s) (omega arith)

pub longer_rule : {A : Type 0} (at : ℕ) (s : Scope) (r : Ruling A) → Longer 0 s (ruled at s r)
longer_rule at s (Ruled a) = longer_itself s a
longer_rule at s (Refused kind) = none

still_longer : (vs ws : List C.Variable) → ws ≡ vs → length ws ≤ length vs + 0
still_longer vs ws e = let k = ap length e in omega (arith, k)

pub longer_reached : {A : Type 0} {V : Variables} {T : Fact A} {s : Scope} (c : Checked (A × Scope)) → Reaches V T s c → Longer 0 s c
longer_reached {s} _ (S.good p k) = longer p (still_longer s.progress.locals p.1.progress.locals k.still.locals)
longer_reached _ S.bad = none

pub longer_in_block : {A : Type 0} (n : ℕ) (s : Scope) (j : Judgement A) → Longer n (opened s) (j (opened s)) → Longer n s (in_block j s)
longer_in_block {A} n s j h = of_inner (j (opened s)) h
  where
    of_inner : (c : Checked (A × Scope)) → Longer n (opened s) c → Longer n s (then c (λ a t. Good (a, closed t)))
    of_inner _ (longer p k) = longer (p.0, closed p.1) k
    of_inner _ none = none

module _ (params : List C.Variable) where
  pub longer_then : {A B : Type 0} {T : Fact A} {s : Scope} (n m : ℕ) (c : Checked (A × Scope)) (f : A → Judgement B) → Turns params T s c → Longer n s c → ((a : A) (t : Scope) → IsReady params t → Longer m t (f a t)) → Longer (n + m) s (then c f)
  longer_then n m _ f (B.good p h) (longer q k) r = longer_after n m (f p.0 p.1) k (r p.0 p.1 h.ready)
  longer_then n m _ f B.bad k r = none

  -- behind a judgement that declares no local
  pub longer_behind : {A B : Type 0} {T : Fact A} (s : Scope) (m : ℕ) (c : Checked (A × Scope)) (f : A → Judgement B) → IsReady params s → Reaches (Vars params s) T s c → ((a : A) (t : Scope) → IsReady params t → Longer m t (f a t)) → Longer m s (then c f)
  longer_behind s m c f h k r = longer_more (0 + m) m (then c f) (omega arith) (longer_then 0 m c f (turn_of params s c h k) (longer_reached c k) r)

  declared_longer : (d : Declared) (r : Option tree.Rhs) → Where IsRhs r → IsName d.name → (s : Scope) → IsReady params s → Longer 1 s (declared d r s)
  declared_longer d r i n s h = of_rule (local_name d s) (local_rule d s)
    where
      rest : Name → Judgement C.Statement
      rest own t = then (initial own d r (add_local own d t)) (λ a u. Good (a, name_local own d u))

      named : (own : Name) (t : Scope) (c : Checked (C.Statement × Scope)) → Longer 0 t c → Longer 0 t (then c (λ a u. Good (a, name_local own d u)))
      named own t _ (longer p k) = longer (p.0, name_local own d p.1) k
      named own t _ none = none

      begun : (own : Name) → IsNew d s own → Longer 1 s (rest own s)
      begun own c = subst (λ o. Longer 1 s (rest o s)) (sym c.is) (of_own c)
        where
          of_own : IsNew d s own → Longer 1 s (rest (own_name s.progress d.name) s)
          of_own e =
              let x = own_name s.progress d.name in
              let t = add_local x d s in
              let b = local_added params d s h n e.new e.scalar in
              let more : locals_so_far t ≤ locals_so_far s + 1 = le_of_eq (length-append s.progress.locals (record { name = x; type = d.type } ∷ [])) in
              longer_more (1 + 0) 1 (rest x s) (omega arith) (longer_after 1 0 (rest x s) more
              (named x t (initial x d r t) (longer_reached (initial x d r t) (initial_reached params (Vars params t) x d r i (added_is params d s h n) t b.ready.fits))))

      of_rule : (o : Ruling Name) → Rules (IsNew d s) o → Longer 1 s (then (ruled d.at s o) rest)
      of_rule _ (R.ruled {a} c) = begun a c
      of_rule _ R.refused = none

  init_longer : (t : CType) (a : tree.Init) → IsInit a → (s : Scope) → IsReady params s → Longer (numbered_in_init a) s (init t a s)
  init_longer t (tree.Initialized (tree.Declare stars at x ns) r) i s h =
      longer_more 1 (1 + where_some calls_on_right r) _ (omega arith) (of_lengths (dimensions [] ns s) (turn_of params s (dimensions [] ns s) h dims) (longer_reached (dimensions [] ns s) dims))
    where
      head_of : List ℕ → Declared
      head_of lengths = record { at = declarator_start stars at; name = x; type = arrays lengths (pointers (length stars) t) }

      dims : Reaches (Vars params s) S.Anything s (dimensions [] ns s)
      dims = dimensions_reached (Vars params s) [] ns i.0.1 s h.fits

      of_lengths : (c : Checked (List ℕ × Scope)) → Turns params S.Anything s c → Longer 0 s c → Longer 1 s (then (then c (λ lengths u. Good (head_of lengths, u))) (λ head. declared head r))
      of_lengths _ (B.good p m) (longer q k) = longer_more (0 + 1) 1 (declared (head_of p.0) r p.1) (omega arith) (longer_after 0 1 (declared (head_of p.0) r p.1) k (declared_longer (head_of p.0) r i.1 i.0.0 p.1 m.ready))
      of_lengths _ B.bad k = none

  inits_longer : (t : CType) (is : List tree.Init) → Each IsInit is → (s : Scope) → IsReady params s → Longer (numbered_in_inits is) s (inits t is s)
  inits_longer t [] i s h = longer_itself s []
  inits_longer t (x ∷ xs) i s h =
      longer_more (numbered_in_init x + (numbered_in_inits xs + 0)) (numbered_in_inits (x ∷ xs)) (inits t (x ∷ xs) s) (omega arith)
      (longer_then (numbered_in_init x) (numbered_in_inits xs + 0) (init t x s) _ (init_turns params t x i.0 s h) (init_longer t x i.0 s h) (λ a u k.
      longer_then (numbered_in_inits xs) 0 (inits t xs u) _ (inits_turn params t xs i.1 u k) (inits_longer t xs i.1 u k) (λ ss v m. longer_itself v (a ∷ ss))))

  pub local_longer : (l : tree.Local) → IsLocal l → (s : Scope) → IsReady params s → Longer (numbered_in_local l) s (local l s)
  local_longer (tree.Locals ws is) i s h =
      longer_behind s (numbered_in_inits is) (base ws s) _ h (base_reached (Vars params s) ws i.0 s h.fits) (λ b t k.
      longer_more (numbered_in_inits is + 0) (numbered_in_inits is) _ (omega arith)
      (longer_then (numbered_in_inits is) 0 (inits b.type is t) _ (inits_turn params b.type is i.1 t k) (inits_longer b.type is i.1 t k) (λ ss u m. longer_rule (words_start ws) u _)))
