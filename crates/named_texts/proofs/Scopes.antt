-- Scopes in which what is declared has types with texts, and what judgements keep of them.
use Rattle.std.proofs.Common.{◌≡◌, ℕ, Bool, true, false, cond, List, [], ◌∷◌, ◌++◌, Option, Some, None, is_some, option_map, refl, subst}
use Rattle.c_values.specs.Name.{Name, same_name, with_name}
use Rattle.c_values.specs.Types.{CType}
use Rattle.c_values.specs.Growth.{struct_named}
use Rattle.c_values.specs.Layout.{Member, StructDef}
use Rattle.expression_text.specs.Names.{is_name}
use Rattle.typing_rules.specs.File.{GlobalSoFar, with_global}
use Rattle.typing_rules.specs.Scope.{Scope, Entity, Enumerator, Global, Function, Local, Hidden, Names, entity, with_entity, declare, opened, closed, outer, hidden, hide_locals}
use Rattle.typing_rules.specs.Checked.{Judgement, pure, ◌>>=◌, Ruling, rule, declaring, declares, changed, after, in_block}
use Rattle.typing_laws.proofs.Tests.{none_some, some_same}
use Rattle.typing_laws.proofs.Rulings.{Rules, ruled, refused}
use Rattle.typing_laws.proofs.Outcomes.{Gives, gives, fails, gives_then, gives_rule}
use Rattle.named_texts.proofs.Types.{IsType, AreTypes}

abbrev pub EntityIs : Entity → Type 0
EntityIs (Enumerator n) = Unit {0}
EntityIs (Global t) = IsType t
EntityIs (Function r ps) = AreTypes ps
EntityIs (Local own t) = IsType t
EntityIs Hidden = Unit {0}

abbrev pub NamesAre : Names → Type 0
NamesAre names = (x : Name) (e : Entity) → names x ≡ Some e → EntityIs e

abbrev pub BlocksAre : List Names → Type 0
BlocksAre [] = Unit {0}
BlocksAre (names ∷ blocks) = NamesAre names × BlocksAre blocks

abbrev pub AreMembers : List Member → Type 0
AreMembers [] = Unit {0}
AreMembers (m ∷ ms) = IsType m.type × AreMembers ms

abbrev pub AreStructs : List StructDef → Type 0
AreStructs [] = Unit {0}
AreStructs (d ∷ ds) = AreMembers d.members × AreStructs ds

abbrev pub AreGlobals : List GlobalSoFar → Type 0
AreGlobals [] = Unit {0}
AreGlobals (g ∷ gs) = (is_name g.name ≡ true) × AreGlobals gs

pub record AreDeclared (ds : List StructDef) (types : Name → Option CType) (names : List Names) (gs : List GlobalSoFar) : Type 0 where
  pub structs : AreStructs ds
  pub typedefs : (x : Name) (t : CType) → types x ≡ Some t → IsType t
  pub blocks : BlocksAre names
  pub globals : AreGlobals gs

abbrev pub IsTextual : Scope → Type 0
IsTextual s = AreDeclared s.layout.structs s.typedefs s.blocks s.file.globals

-- what a name stands for

abbrev pub WhereEntity : Option Entity → Type 0
WhereEntity None = Unit {0}
WhereEntity (Some e) = EntityIs e

from_names : (names : Names) (x : Name) → NamesAre names → WhereEntity (names x)
from_names names x h = by_cases (names x) refl
  where
    by_cases : (o : Option Entity) → names x ≡ o → WhereEntity o
    by_cases None e = tt
    by_cases (Some k) e = h x k e

pub entity_is : (blocks : List Names) (x : Name) → BlocksAre blocks → WhereEntity (entity blocks x)
entity_is [] x h = tt
entity_is (names ∷ blocks) x h = by_cases (is_some (names x)) (from_names names x h.0) (entity_is blocks x h.1)
  where
    by_cases : (b : Bool) → WhereEntity (names x) → WhereEntity (entity blocks x) → WhereEntity (cond b (names x) (entity blocks x))
    by_cases true k m = k
    by_cases false k m = m

with_name_is : (x : Name) (e : Entity) (names : Names) → EntityIs e → NamesAre names → NamesAre (with_name x (Some e) names)
with_name_is x e names h k y f = by_cases (same_name x y)
  where
    by_cases : (b : Bool) → cond b (Some e) (names y) ≡ Some f → EntityIs f
    by_cases true c = subst (λ z. EntityIs z) (some_same c) h
    by_cases false c = k y f c

pub declare_is : (x : Name) (e : Entity) (s : Scope) → EntityIs e → IsTextual s → IsTextual (declare x e s)
declare_is x e s h k = record { structs = k.structs; typedefs = k.typedefs; blocks = blocks_are s.blocks k.blocks; globals = k.globals }
  where
    blocks_are : (blocks : List Names) → BlocksAre blocks → BlocksAre (with_entity x e blocks)
    blocks_are [] w = tt
    blocks_are (names ∷ blocks) w = (with_name_is x e names h w.0, w.1)

pub opened_is : (s : Scope) → IsTextual s → IsTextual (opened s)
opened_is s h = record { structs = h.structs; typedefs = h.typedefs; blocks = (λ x e c. absurd (none_some c), h.blocks); globals = h.globals }

pub closed_is : (s : Scope) → IsTextual s → IsTextual (closed s)
closed_is s h = record { structs = h.structs; typedefs = h.typedefs; blocks = outer_are s.blocks h.blocks; globals = h.globals }
  where
    outer_are : (blocks : List Names) → BlocksAre blocks → BlocksAre (outer blocks)
    outer_are [] w = tt
    outer_are (names ∷ blocks) w = w.1

pub hidden_is : (s : Scope) → IsTextual s → IsTextual (hide_locals s)
hidden_is s h = record { structs = h.structs; typedefs = h.typedefs; blocks = hidden_are s.blocks h.blocks; globals = h.globals }
  where
    is_hidden : (o : Option Entity) (f : Entity) → option_map (λ e. Hidden) o ≡ Some f → EntityIs f
    is_hidden None f c = absurd (none_some c)
    is_hidden (Some e) f c = subst (λ z. EntityIs z) (some_same c) tt

    hidden_are : (blocks : List Names) → BlocksAre blocks → BlocksAre (hidden blocks)
    hidden_are [] w = tt
    hidden_are (names ∷ blocks) w = (λ x f c. is_hidden (names x) f c, w.1)

-- structs and members

pub more_members : (ms : List Member) (m : Member) → AreMembers ms → IsType m.type → AreMembers (ms ++ (m ∷ []))
more_members [] m h k = (k, tt)
more_members (n ∷ ms) m h k = (h.0, more_members ms m h.1 k)

pub more_structs : (ds : List StructDef) (d : StructDef) → AreStructs ds → AreMembers d.members → AreStructs (ds ++ (d ∷ []))
more_structs [] d h k = (k, tt)
more_structs (e ∷ ds) d h k = (h.0, more_structs ds d h.1 k)

abbrev pub WhereStruct : Option StructDef → Type 0
WhereStruct None = Unit {0}
WhereStruct (Some d) = AreMembers d.members

pub struct_is : (ds : List StructDef) (x : Name) → AreStructs ds → WhereStruct (struct_named ds x)
struct_is [] x h = tt
struct_is (d ∷ ds) x h = by_cases (same_name d.name x) (struct_is ds x h.1)
  where
    by_cases : (b : Bool) → WhereStruct (struct_named ds x) → WhereStruct (cond b (Some d) (struct_named ds x))
    by_cases true k = h.0
    by_cases false k = k

-- globals

pub more_globals : (g : GlobalSoFar) (gs : List GlobalSoFar) → is_name g.name ≡ true → AreGlobals gs → AreGlobals (with_global g gs)
more_globals g [] h k = (h, tt)
more_globals g (f ∷ gs) h k = by_cases (same_name f.name g.name) (more_globals g gs h k.1)
  where
    by_cases : (b : Bool) → AreGlobals (with_global g gs) → AreGlobals (cond b (g ∷ gs) (f ∷ with_global g gs))
    by_cases true w = (h, k.1)
    by_cases false w = (k.0, w)

-- judgements that keep such scopes, and of what they give this holds

abbrev pub Keeps : {A : Type 0} → (A → Type 0) → Judgement A → Type 0
Keeps T j = (s : Scope) → IsTextual s → Gives (λ a t. IsTextual t × T a) (j s)

pub keeps_then : {A B : Type 0} {T : A → Type 0} {U : B → Type 0} (j : Judgement A) (f : A → Judgement B) → Keeps T j → ((a : A) → T a → Keeps U (f a)) → Keeps U (j >>= f)
keeps_then j f h k s w = gives_then (j s) f (h s w) (λ a t m. k a m.1 t m.0)

pub keeps_pure : {A : Type 0} {T : A → Type 0} (a : A) → T a → Keeps T (pure a)
keeps_pure a h s w = gives (a, s) (w, h)

pub keeps_rule : {A : Type 0} {T : A → Type 0} (at : ℕ) (r : Scope → Ruling A) → ((s : Scope) → IsTextual s → Rules T (r s)) → Keeps T (rule at r)
keeps_rule at r h s w = gives_rule at s (r s) (h s w) (λ a k. (w, k))

declaring_keeps : {A : Type 0} {T : A → Type 0} (at : ℕ) (r : Ruling (A × Scope)) → Rules (λ p. IsTextual p.1 × T p.0) r → Gives (λ a t. IsTextual t × T a) (declaring at r)
declaring_keeps at _ (ruled {a} h) = gives a h
declaring_keeps at _ refused = fails

pub keeps_declares : {A : Type 0} {T : A → Type 0} (at : ℕ) (r : Scope → Ruling (A × Scope)) → ((s : Scope) → IsTextual s → Rules (λ p. IsTextual p.1 × T p.0) (r s)) → Keeps T (declares at r)
keeps_declares at r h s w = declaring_keeps at (r s) (h s w)

pub keeps_changed : {A : Type 0} {T : A → Type 0} (f : Scope → Scope) (a : A) → ((s : Scope) → IsTextual s → IsTextual (f s)) → T a → Keeps T (changed f a)
keeps_changed f a h k s w = gives (a, f s) (h s w, k)

pub keeps_after : {A : Type 0} {T : A → Type 0} (f : Scope → Scope) (j : Judgement A) → ((s : Scope) → IsTextual s → IsTextual (f s)) → Keeps T j → Keeps T (after f j)
keeps_after f j h k s w = k (f s) (h s w)

pub keeps_block : {A : Type 0} {T : A → Type 0} (j : Judgement A) → Keeps T j → Keeps T (in_block j)
keeps_block j h = keeps_then (after opened j) _ (keeps_after opened j opened_is h) (λ a k. keeps_changed closed a closed_is k)
