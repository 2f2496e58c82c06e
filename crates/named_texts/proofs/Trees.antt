-- The trees of expressions, types and declarators, where tags and declarators have names: what is typed for them has types with texts.
use Rattle.std.proofs.Common.{◌≡◌, ℕ, pos, ℤ, List, [], ◌∷◌, ◌++◌, length, Option, Some, None, refl}
use Rattle.std.specs.Option.{option_map_or}
use Rattle.c_values.specs.Name.{Name}
use Rattle.c_values.specs.Types.{Int, CType}
use Rattle.c_values.specs.Layout.{Member}
use Rattle.c_grammar.specs.Tree as tree
use Rattle.c_integers.specs.Integers.{number_type}
use Rattle.typing_rules.specs.declared.fault.TypeKind.TheVariants.{Unknown}
use Rattle.typing_rules.specs.Scope.{Scope, entity}
use Rattle.typing_rules.specs.Checked.{Judgement, Ruling, Ruled, Refused, rule, declares, after}
use Rattle.typing_rules.specs.Constant.{constant_value}
use Rattle.typing_rules.specs.Operand.{Operand, Valued, Demand, ForValue, ForElement, ForPlace, value_in, operand_type, operand_has_cast}
use Rattle.typing_rules.specs.Declarations as D
use Rattle.typing_rules.specs.Expressions.{first, type_start, words_start, size_constant, unary_demand, taken, integer_at, integer_of, note, starred, based, operand, type_name, words, word, members, declarators, declarator, dimensions, enumerators, enumerator, value, place, base}
use Rattle.c_lang.specs.Cast.{has_cast}
use Rattle.c_lang.specs.Typed as C
use Rattle.typing_laws.specs.Written as W
use Rattle.typing_laws.proofs.Rulings.{Rules, ruled, refused, refused_or}
use Rattle.named_texts.proofs.Types.{c_name, IsType, IsExp, AreLengths, length_is, more_lengths, pointers_are, arrays_are}
use Rattle.named_texts.proofs.Operators.{binary_is, chosen_is, cast_is}
use Rattle.named_texts.proofs.Scopes.{IsTextual, AreMembers, entity_is, Keeps, keeps_then, keeps_pure, keeps_rule, keeps_declares, keeps_changed, keeps_after}
use Rattle.named_texts.proofs.Operands.{IsOperand, value_is, variable_is, number_is, index_used, member_used, pointer_member_used, unary_is, size_is, valued_is}
use Rattle.named_texts.proofs.Declarations.{SpecsAre, PartIs, BaseIs, part_is, base_is, DeclaredIs, joined_are, mention_is, struct_tag_is, struct_body_is, enum_tag_is, enum_body_is, enumerator_is}

-- nothing is claimed of it
abbrev pub Anything : {A : Type 0} → A → Type 0
Anything a = Unit {0}

pub any_rule : {A : Type 0} (r : Ruling A) → Rules Anything r
any_rule (Ruled a) = ruled tt
any_rule (Refused k) = refused

keeps_taken : (j : Judgement Operand) → Keeps IsOperand j → Keeps IsExp (taken j)
keeps_taken j h = keeps_then j _ h (λ a k. keeps_pure (value_in a) (value_is a k))

pub keeps_integer : (at : ℕ) (j : Judgement Operand) → Keeps IsOperand j → Keeps Anything (integer_at at j)
keeps_integer at j h =
    keeps_then (taken j) _ (keeps_taken j h) (λ e k.
    keeps_then (rule at (λ s. integer_of e (constant_value s.layout e))) _ (keeps_rule {T = Anything} at _ (λ s w. any_rule (integer_of e (constant_value s.layout e)))) (λ n m.
    keeps_changed (note (has_cast e)) n (λ s w. w) tt))

keeps_based : (ws : tree.Words) (j : Judgement D.Specs) → Keeps SpecsAre j → Keeps BaseIs (based ws j)
keeps_based ws j h = keeps_then j _ h (λ b k. keeps_rule (type_start ws) _ (λ s w. base_is b k))

starred_is : (n : ℕ) (t : CType) → IsType t → Rules IsType (starred n t)
starred_is n t h = refused_or (D.points_to_array (D.pointers n t)) _ _ (λ e. ruled (pointers_are n t h))

typedef_is : (x : Name) (s : Scope) → IsTextual s → Rules PartIs (option_map_or (λ t. Ruled (D.Type' t)) (s.typedefs x) (Refused Unknown))
typedef_is x s h = by_cases (s.typedefs x) (h.typedefs x)
  where
    by_cases : (o : Option CType) → ((t : CType) → o ≡ Some t → IsType t) → Rules PartIs (option_map_or (λ t. Ruled (D.Type' t)) o (Refused Unknown))
    by_cases None k = refused
    by_cases (Some t) k = ruled (k t refl)

mutual
  pub operand_kept : (d : Demand) (e : tree.Exp) → W.IsExp e → Keeps IsOperand (operand d e)
  operand_kept d (tree.Variable at x) i = keeps_rule at _ (λ s w. variable_is d x (entity s.blocks x) (entity_is s.blocks x w.blocks))
  operand_kept d (tree.Number at n decimal u longs) i = keeps_rule at _ (λ s w. number_is n (number_type s.layout.target n decimal u longs))
  operand_kept d (tree.Character at n) i = keeps_pure (Valued (C.Constant Int (pos n))) refl
  operand_kept d (tree.Parenthesis at e) i = operand_kept d e i
  operand_kept d (tree.Index e x) i =
      keeps_then (operand ForElement e) _ (operand_kept ForElement e i.0) (λ a k.
      keeps_then (taken (operand ForValue x)) _ (keeps_taken (operand ForValue x) (operand_kept ForValue x i.1)) (λ b m.
      keeps_rule (first e) _ (λ s w. index_used s.layout d a b k m)))
  operand_kept d (tree.Member e x) i =
      keeps_then (operand ForPlace e) _ (operand_kept ForPlace e i) (λ a k. keeps_rule (first e) _ (λ s w. member_used s.layout d x a w.structs k))
  operand_kept d (tree.PointerMember e x) i =
      keeps_then (taken (operand ForValue e)) _ (keeps_taken (operand ForValue e) (operand_kept ForValue e i)) (λ a k.
      keeps_rule (first e) _ (λ s w. pointer_member_used s.layout d x a w.structs k))
  operand_kept d (tree.Unary at op e) i =
      keeps_then (operand (unary_demand op) e) _ (operand_kept (unary_demand op) e i) (λ a k. keeps_rule at _ (λ s w. unary_is d s.layout op a k))
  operand_kept d (tree.SizeofValue at e) i =
      keeps_then (operand ForPlace e) _ (operand_kept ForPlace e i) (λ a k.
      keeps_then (rule at (λ s. size_constant s.layout (operand_type a))) _ (keeps_rule {T = IsOperand} at _ (λ s w. size_is s.layout (operand_type a))) (λ c m.
      keeps_changed (note (operand_has_cast a)) c (λ s w. w) m))
  operand_kept d (tree.SizeofType at n) i = keeps_then (type_name n) _ (type_name_kept n i) (λ u k. keeps_rule at _ (λ s w. size_is s.layout u))
  operand_kept d (tree.Cast at n e) i =
      keeps_then (type_name n) _ (type_name_kept n i.0) (λ u k.
      keeps_then (taken (operand ForValue e)) _ (keeps_taken (operand ForValue e) (operand_kept ForValue e i.1)) (λ a m.
      keeps_rule at _ (λ s w. valued_is _ (cast_is s.layout u a k m))))
  operand_kept d (tree.Binary op x y) i =
      keeps_then (taken (operand ForValue x)) _ (keeps_taken (operand ForValue x) (operand_kept ForValue x i.0)) (λ a k.
      keeps_then (taken (operand ForValue y)) _ (keeps_taken (operand ForValue y) (operand_kept ForValue y i.1)) (λ b m.
      keeps_rule (first x) _ (λ s w. valued_is _ (binary_is s.layout op a b k m))))
  operand_kept d (tree.Conditional c x y) i =
      keeps_then (taken (operand ForValue c)) _ (keeps_taken (operand ForValue c) (operand_kept ForValue c i.0)) (λ e k.
      keeps_then (taken (operand ForValue x)) _ (keeps_taken (operand ForValue x) (operand_kept ForValue x i.1)) (λ a m.
      keeps_then (taken (operand ForValue y)) _ (keeps_taken (operand ForValue y) (operand_kept ForValue y i.2)) (λ b n.
      keeps_rule (first c) _ (λ s w. valued_is _ (chosen_is s.layout e a b k m n)))))

  type_name_kept : (n : tree.TypeName) → W.IsTypeName n → Keeps IsType (type_name n)
  type_name_kept (tree.Typed ws stars) i =
      keeps_then (based ws (words D.no_specs ws)) _ (keeps_based ws (words D.no_specs ws) (words_kept D.no_specs ws i tt)) (λ b k.
      keeps_rule (words_start ws) _ (λ s w. starred_is (length stars) b.type k))

  words_kept : (b : D.Specs) (ws : tree.Words) → W.AreWords ws → SpecsAre b → Keeps SpecsAre (words b ws)
  words_kept b tree.NoWords i h = keeps_pure b h
  words_kept b (tree.MoreWords w ws) i h = keeps_then (word w) _ (word_kept w i.0) (λ p k. words_kept (D.with_part b p) ws i.1 (part_is b p h k))

  word_kept : (w : tree.Word) → W.IsWord w → Keeps PartIs (word w)
  word_kept (tree.Reserved at k) i = keeps_pure (D.Word k) tt
  word_kept (tree.Named at x) i = keeps_rule at _ (λ s w. typedef_is x s w)
  word_kept (tree.StructTag at x) i = keeps_then (declares at (D.struct_tag x)) _ (keeps_declares {T = IsType} at (D.struct_tag x) (λ s w. struct_tag_is x s i w)) (λ t k. keeps_pure (D.Type' t) k)
  word_kept (tree.StructBody at x ms) i =
      keeps_then (after (D.mention x) (members [] ms)) _ (keeps_after (D.mention x) (members [] ms) (mention_is x) (members_kept [] ms i.1 tt)) (λ list k.
      keeps_then (declares at (D.struct_body x list)) _ (keeps_declares {T = IsType} at (D.struct_body x list) (λ s w. struct_body_is x list s i.0 k w)) (λ t m. keeps_pure (D.Type' t) m))
  word_kept (tree.EnumTag at x) i = keeps_then (rule at (D.enum_tag x)) _ (keeps_rule {T = IsType} at _ (λ s w. enum_tag_is x s)) (λ t k. keeps_pure (D.Type' t) k)
  word_kept (tree.EnumBody at x es) i =
      keeps_then (enumerators (pos 0) es) _ (enumerators_kept (pos 0) es i) (λ n k.
      keeps_then (declares at (D.enum_body x)) _ (keeps_declares {T = IsType} at (D.enum_body x) (λ s w. enum_body_is x s w)) (λ t m. keeps_pure (D.Type' t) m))

  members_kept : (list : List Member) (ms : tree.Members) → W.AreMembers ms → AreMembers list → Keeps AreMembers (members list ms)
  members_kept list (tree.LastMember ws ds) i h =
      keeps_then (based ws (words D.no_specs ws)) _ (keeps_based ws (words D.no_specs ws) (words_kept D.no_specs ws i.0 tt)) (λ b k. declarators_kept b.type list ds i.1 k h)
  members_kept list (tree.MoreMembers ws ds rest) i h =
      keeps_then (based ws (words D.no_specs ws)) _ (keeps_based ws (words D.no_specs ws) (words_kept D.no_specs ws i.0 tt)) (λ b k.
      keeps_then (declarators b.type list ds) _ (declarators_kept b.type list ds i.1 k h) (λ now m. members_kept now rest i.2 m))

  declarators_kept : (t : CType) (list : List Member) (ds : tree.Declarators) → W.AreDeclarators ds → IsType t → AreMembers list → Keeps AreMembers (declarators t list ds)
  declarators_kept t list (tree.LastDeclarator d) i h k = keeps_then (declarator t d) _ (declarator_kept t d i h) (λ m w. keeps_rule m.at _ (λ s z. joined_are s.layout list m k w))
  declarators_kept t list (tree.MoreDeclarators d ds) i h k =
      keeps_then (declarator t d) _ (declarator_kept t d i.0 h) (λ m w.
      keeps_then (rule m.at (λ s. D.joined s.layout list m)) _ (keeps_rule {T = AreMembers} m.at _ (λ s z. joined_are s.layout list m k w)) (λ now v. declarators_kept t now ds i.1 h v))

  pub declarator_kept : (t : CType) (d : tree.Declarator) → W.IsDeclarator d → IsType t → Keeps DeclaredIs (declarator t d)
  declarator_kept t (tree.Declare stars at x ns) i h =
      keeps_then (dimensions [] ns) _ (dimensions_kept [] ns i.1 tt) (λ lengths k. keeps_pure _ (c_name x i.0, arrays_are lengths _ k (pointers_are (length stars) t h)))

  pub dimensions_kept : (ls : List ℕ) (ns : tree.Dimensions) → W.AreDimensions ns → AreLengths ls → Keeps AreLengths (dimensions ls ns)
  dimensions_kept ls tree.NoDimensions i h = keeps_pure ls h
  dimensions_kept ls (tree.MoreDimensions e rest) i h =
      keeps_then (integer_at (first e) (operand ForValue e)) _ (keeps_integer (first e) (operand ForValue e) (operand_kept ForValue e i.0)) (λ n k.
      dimensions_kept (ls ++ (D.length_at n ∷ [])) rest i.1 (more_lengths ls (D.length_at n) h (length_is n)))

  enumerators_kept : (n : ℤ) (es : tree.Enumerators) → W.AreEnumerators es → Keeps Anything (enumerators n es)
  enumerators_kept n (tree.LastEnumerator e) i = enumerator_kept n e i
  enumerators_kept n (tree.MoreEnumerators e es) i = keeps_then (enumerator n e) _ (enumerator_kept n e i.0) (λ next k. enumerators_kept next es i.1)

  enumerator_kept : (n : ℤ) (e : tree.Enumerator) → W.IsEnumerator e → Keeps Anything (enumerator n e)
  enumerator_kept n (tree.Implicit at x) i = keeps_declares {T = Anything} at (D.enumerator x n) (λ s w. enumerator_is x n s w)
  enumerator_kept n (tree.Explicit at x e) i =
      keeps_then (integer_at (first e) (operand ForValue e)) _ (keeps_integer (first e) (operand ForValue e) (operand_kept ForValue e i)) (λ m k.
      keeps_then (rule (first e) (D.enumerator_value m)) _ (keeps_rule {T = Anything} (first e) _ (λ s w. any_rule (D.enumerator_value m s))) (λ v z.
      keeps_declares {T = Anything} at (D.enumerator x v) (λ s w. enumerator_is x v s w)))

pub base_kept : (ws : tree.Words) → W.AreWords ws → Keeps BaseIs (base ws)
base_kept ws i = keeps_based ws (words D.no_specs ws) (words_kept D.no_specs ws i tt)

pub value_kept : (e : tree.Exp) → W.IsExp e → Keeps IsExp (value e)
value_kept e i = keeps_taken (operand ForValue e) (operand_kept ForValue e i)

pub place_kept : (e : tree.Exp) → W.IsExp e → Keeps IsOperand (place e)
place_kept e i = operand_kept ForPlace e i
