-- What the rules of declarations within types keep, and give.
use Rattle.std.proofs.Common.{◌≡◌, ℕ, ◌+◌, Bool, true, false, not, cond, ◌||◌, List, Option, Some, None, is_some, ℤ, refl}
use Rattle.c_lex.specs.declared.token.Keyword.{Keyword}
use Rattle.c_lex.specs.declared.token.Keyword.TheVariants as K
use Rattle.c_values.specs.Name.{Name, is_among}
use Rattle.c_values.specs.Types.{IntType, Int, CType, Void, Struct}
use Rattle.c_values.specs.Number.{is_of_type}
use Rattle.c_values.specs.Growth.{with_struct, can_follow, struct_named}
use Rattle.c_values.specs.Layout.{Layout, Member, StructDef, is_object}
use Rattle.expression_text.specs.Names.{is_name}
use Rattle.unit_names.proofs.NumberedNames.{decimal_goes_on}
use Rattle.typing_rules.specs.declared.specifiers.Integers.{Integers}
use Rattle.typing_rules.specs.Scope.{Scope, StructTag, Enumerator}
use Rattle.typing_rules.specs.Declarations as D
use Rattle.typing_laws.specs.Written as W
use Rattle.typing_laws.proofs.Rulings.{Rules, ruled, refused, refused_or, rules_then}
use Rattle.named_texts.proofs.Types.{c_name, IsType}
use Rattle.named_texts.proofs.Scopes.{IsTextual, AreMembers, more_members, more_structs, declare_is}

-- words of types

abbrev pub NamedIs : D.Named → Type 0
NamedIs D.NoType = Unit {0}
NamedIs (D.OneType t) = IsType t
NamedIs D.MoreTypes = Unit {0}

abbrev pub SpecsAre : D.Specs → Type 0
SpecsAre b = NamedIs b.named

abbrev pub PartIs : D.Part → Type 0
PartIs (D.Word k) = Unit {0}
PartIs (D.Type' t) = IsType t

abbrev pub BaseIs : D.Base → Type 0
BaseIs b = IsType b.type

named_is : (n : D.Named) (t : CType) → NamedIs n → IsType t → NamedIs (D.with_named n t)
named_is D.NoType t h k = k
named_is _ _ _ _ = tt

keyword_is : (b : D.Specs) (k : Keyword) → SpecsAre b → SpecsAre (D.with_keyword b k)
keyword_is b K.Void h = named_is b.named Void h refl
keyword_is b _ h = h

pub part_is : (b : D.Specs) (p : D.Part) → SpecsAre b → PartIs p → SpecsAre (D.with_part b p)
part_is b (D.Word k) h w = keyword_is b k h
part_is b (D.Type' t) h w = named_is b.named t h w

integer_base_is : (o : Option IntType) → Rules IsType (D.integer_base o)
integer_base_is None = refused
integer_base_is (Some i) = ruled refl

base_type_is : (has : Bool) (n : Integers) (m : D.Named) → NamedIs m → Rules IsType (D.base_type has n m)
base_type_is false n (D.OneType t) h = ruled h
base_type_is true n D.NoType h = integer_base_is (D.integer_type n)
base_type_is false n D.NoType h = refused
base_type_is false n D.MoreTypes h = refused
base_type_is true n (D.OneType t) h = refused
base_type_is true n D.MoreTypes h = refused

pub base_is : (b : D.Specs) → SpecsAre b → Rules BaseIs (D.base b)
base_is b h = rules_then (D.base_type b.has_integers b.integers b.named) _ (base_type_is b.has_integers b.integers b.named h) (λ t k. ruled k)

-- declarators and members

abbrev pub DeclaredIs : D.Declared → Type 0
DeclaredIs d = (is_name d.name ≡ true) × IsType d.type

pub joined_are : (l : Layout) (ms : List Member) (d : D.Declared) → AreMembers ms → DeclaredIs d → Rules AreMembers (D.joined l ms d)
joined_are l ms d h k =
    refused_or (is_among d.name (D.member_names ms)) _ _ (λ a. refused_or (D.is_incomplete l d.type) _ _ (λ b. refused_or (D.points_to_array d.type) _ _ (λ c. refused_or (D.is_large l d.type) _ _ (λ e.
    ruled (more_members ms (record { name = d.name; type = d.type }) h k.1)))))

-- tags

tag_is : (k : ℕ) (x : Option Name) → W.Where W.IsName x → is_name (D.tag_name k x) ≡ true
tag_is k (Some x) h = c_name x h
tag_is k None h = decimal_goes_on (k + 1)

pub mention_is : (x : Option Name) (s : Scope) → IsTextual s → IsTextual (D.mention x s)
mention_is None s h = h
mention_is (Some x) s h = by_cases (is_some (s.tags x))
  where
    by_cases : (b : Bool) → IsTextual (cond b s (D.with_tag StructTag x s))
    by_cases true = h
    by_cases false = h

abbrev pub TypeIn : CType × Scope → Type 0
TypeIn p = IsTextual p.1 × IsType p.0

pub struct_tag_is : (x : Name) (s : Scope) → W.IsName x → IsTextual s → Rules TypeIn (D.struct_tag x s)
struct_tag_is x s n h = refused_or (D.is_enum_tag (s.tags x)) _ _ (λ e. ruled (mention_is (Some x) s h, c_name x n))

defined_is : (d : StructDef) (s : Scope) → AreMembers d.members → IsTextual s → Rules IsTextual (D.defined d s)
defined_is d s h k =
    refused_or (D.is_enum_tag (s.tags d.name) || is_some (struct_named s.layout.structs d.name)) _ _ (λ a.
    refused_or (not (can_follow s.layout d)) _ _ (λ b.
    refused_or (not (is_object (with_struct s.layout d) (Struct d.name))) _ _ (λ c.
    ruled (record { structs = more_structs s.layout.structs d k.structs h; typedefs = k.typedefs; blocks = k.blocks; globals = k.globals }))))

pub struct_body_is : (x : Option Name) (ms : List Member) (s : Scope) → W.Where W.IsName x → AreMembers ms → IsTextual s → Rules TypeIn (D.struct_body x ms s)
struct_body_is x ms s n h k =
    let d : StructDef = record { name = D.tag_name s.unnamed x; members = ms } in rules_then (D.defined d s) _ (defined_is d s h k) (λ t w. ruled (w, tag_is s.unnamed x n))

enumerate_is : (x : Option Name) (s : Scope) → IsTextual s → IsTextual (D.enumerate x s)
enumerate_is None s h = h
enumerate_is (Some x) s h = h

pub enum_tag_is : (x : Name) (s : Scope) → Rules IsType (D.enum_tag x s)
enum_tag_is x s = refused_or (not (D.is_enum_tag (s.tags x))) _ _ (λ e. ruled refl)

pub enum_body_is : (x : Option Name) (s : Scope) → IsTextual s → Rules TypeIn (D.enum_body x s)
enum_body_is x s h = refused_or (D.is_tagged x s) _ _ (λ e. ruled (enumerate_is x s h, refl))

pub enumerator_is : (x : Name) (n : ℤ) (s : Scope) → IsTextual s → Rules (λ p. IsTextual p.1 × Unit {0}) (D.enumerator x n s)
enumerator_is x n s h =
    refused_or (D.has_name_here s x) _ _ (λ a. refused_or (not (is_of_type s.layout.target Int n)) _ _ (λ b. ruled (declare_is x (Enumerator n) s tt h, tt)))
