-- How a check goes through a tree: the parts of a node from left to right, then the node itself. The first bad node decides,
-- by the offset of its first token and by what is wrong with it. What is declared on the way counts for what follows.
use Rattle.std.specs.Prelude.{ℕ, min, Bool, true, false}
use Rattle.typing_rules.specs.declared.fault.TypeKind.{TypeKind}
use Rattle.typing_rules.specs.Scope.{Scope, opened, closed}

pub data Checked (A : Type 0) : Type 0 where
  Good : A → Checked A
  Bad : ℕ → TypeKind → Checked A

-- from the scope before a node: what the node is typed as, with the scope behind it
abbrev pub Judgement : Type 0 → Type 0
Judgement A = Scope → Checked (A × Scope)

-- what is typed needs nothing more
abbrev pub pure : {A : Type 0} → A → Judgement A
pure a s = Good (a, s)

-- the parts first
abbrev pub then : {A B : Type 0} → Checked (A × Scope) → (A → Judgement B) → Checked (B × Scope)
then (Good p) f = f p.0 p.1
then (Bad at kind) f = Bad at kind

infixl 10 ◌>>=◌
abbrev pub ◌>>=◌ : {A B : Type 0} → Judgement A → (A → Judgement B) → Judgement B
(j >>= f) s = then (j s) f

-- what a node's rule says, where the parts are typed
pub data Ruling (A : Type 0) : Type 0 where
  Ruled : A → Ruling A
  Refused : TypeKind → Ruling A

-- a kind, unless the test says no; the tests of a rule stand in the order of the kinds
abbrev pub refuse : {A : Type 0} → Bool → TypeKind → Ruling A → Ruling A
refuse true kind r = Refused kind
refuse false kind r = r

-- one rule after the other, of the same node
infixl 10 ◌>=>◌
abbrev pub ◌>=>◌ : {A B : Type 0} → Ruling A → (A → Ruling B) → Ruling B
(Ruled a) >=> f = f a
(Refused kind) >=> f = Refused kind

-- an offset, or the last one of 32 bits past that
abbrev pub saturated : ℕ → ℕ
saturated at = min at 4294967295

abbrev pub ruled : {A : Type 0} → ℕ → Scope → Ruling A → Checked (A × Scope)
ruled at s (Ruled a) = Good (a, s)
ruled at s (Refused kind) = Bad (saturated at) kind

-- the node itself, by its offset and its rule in the scope behind its parts
abbrev pub rule : {A : Type 0} → ℕ → (Scope → Ruling A) → Judgement A
rule at r s = ruled at s (r s)

-- the same where the node declares something: with the scope behind it
abbrev pub declaring : {A : Type 0} → ℕ → Ruling (A × Scope) → Checked (A × Scope)
declaring at (Ruled p) = Good p
declaring at (Refused kind) = Bad (saturated at) kind

abbrev pub declares : {A : Type 0} → ℕ → (Scope → Ruling (A × Scope)) → Judgement A
declares at r s = declaring at (r s)

-- a change of the scope
abbrev pub changed : {A : Type 0} → (Scope → Scope) → A → Judgement A
changed f a s = Good (a, f s)

-- the same before the parts
abbrev pub after : {A : Type 0} → (Scope → Scope) → Judgement A → Judgement A
after f j s = j (f s)

-- the same in a block of its own
abbrev pub in_block : {A : Type 0} → Judgement A → Judgement A
in_block j = after opened j >>= λ a. changed closed a
