-- Expressions and types of a written text, judged in a scope that fits: what is typed is well-typed.
use Rattle.std.proofs.Common.{◌≡◌, ℕ, ◌<◌, Bool, true, false, cond, ◌&&◌, List, [], ◌∷◌, ◌++◌, Option, Some, None, find, arith, ℤ, pos, refl, sym, ap, ◌∙◌, subst}
use Rattle.c_values.specs.Name.{Name}
use Rattle.c_values.specs.Types.{Target, IntType, Int, CType, same_type}
use Rattle.c_values.specs.Number.{is_of_type}
use Rattle.c_values.specs.Layout.{Member, type_of, shape_of, global_type}
use Rattle.c_values.specs.CodeSameType.{same_type-refl}
use Rattle.c_grammar.specs.Tree as tree
use Rattle.typing_rules.specs.Scope.{Scope, Entity, Enumerator, Global, Function, Local, Hidden, entity}
use Rattle.typing_rules.specs.Checked.{Good, Judgement, rule, declaring}
use Rattle.c_integers.specs.Integers.{number_type}
use Rattle.typing_rules.specs.Constant.{constant_value}
use Rattle.typing_rules.specs.Operand.{Operand, Valued, Demand, ForValue, ForElement, ForPlace, value_in, operand_type, operand_has_cast}
use Rattle.typing_rules.specs.Expressions.{first, words_start, type_start, size_constant, integer_of, variable, number_at, unary_demand, note, taken, operand, type_name, words, word, members, declarators, declarator, dimensions, enumerators, enumerator, based, integer_at, base, value}
use Rattle.typing_rules.specs.Declarations as D
use Rattle.c_lang.specs.Cast.{has_cast}
use Rattle.c_lang.specs.Typed as C
use Rattle.c_lang.specs.WellTyped.{leads_to, shape_along, shape_in}
use Rattle.c_lang.specs.WellTyped as W
use Rattle.typing_laws.specs.Written.{IsExp, IsTypeName, AreWords, IsWord, AreMembers, AreDeclarators, IsDeclarator, AreDimensions, AreEnumerators, IsEnumerator}
use Rattle.typing_laws.proofs.Tests.{some_same, none_some}
use Rattle.typing_laws.proofs.Rulings.{Rules, ruled, refused}
use Rattle.typing_laws.proofs.Parts.{object_type}
use Rattle.typing_laws.proofs.Integers.{small_is_int}
use Rattle.typing_laws.proofs.Operators.{IsTyped}
use Rattle.typing_laws.proofs.Binary.{binary_typed, chosen_typed, cast_typed}
use Rattle.typing_laws.proofs.Expressions.{IsOperand, value_typed, valued_typed, used_typed, unary_typed, index_typed, member_used, pointer_member_used, size_typed}
use Rattle.typing_laws.proofs.Scopes.{Variables, Fits, EntityFits, file_names, entity_fits}
use Rattle.typing_laws.proofs.Later.{IsWithin, within_before}
use Rattle.typing_laws.proofs.Steps.{Reaches, good, Judges, Anything, reach_then, reach_pure, reach_rule, reach_any_rule, reached_later}
use Rattle.typing_laws.proofs.Declared.{Follows, same_names, reach_declaring, reach_changed, mention_follows, struct_tag_follows, struct_body_follows, enum_body_follows, enumerator_follows}

-- a global as a place
global_typed : (g : W.Scope) (x : Name) (t : CType) → global_type g.globals x ≡ Some t → type_of (shape_of g.layout t) ≡ t →
    (true && leads_to (shape_along (shape_in g.layout (global_type g.globals x)) C.Here) t) ≡ true
global_typed g x t e own = subst (λ o. leads_to (shape_in g.layout o) t ≡ true) (sym e) (subst (λ u. same_type (type_of (shape_of g.layout t)) u ≡ true) own (same_type-refl (type_of (shape_of g.layout t))))

variable_typed : (V : Variables) (s : Scope) (g : W.Scope) (d : Demand) (x : Name) (o : Option Entity) → IsWithin V s g → ((e : Entity) → o ≡ Some e → EntityFits V (file_names s.blocks) s.layout.target x e) →
    Rules (IsOperand g) (variable d x o)
variable_typed V s g d x None w h = refused
variable_typed V s g d x (Some (Enumerator n)) w h = ruled (subst (λ t. is_of_type t Int n ≡ true) (sym w.grown.target) (h (Enumerator n) refl))
variable_typed V s g d x (Some (Global t)) w h =
    let e = w.globals x t (h (Global t) refl) in
    used_typed g d (C.InGlobal x C.Here t) (global_typed g x t e (object_type g.layout t w.sound.layout (w.sound.objects x t e)))
variable_typed V s g d x (Some (Local own t)) w h = ruled (w.variables own t (h (Local own t) refl))
variable_typed V s g d x (Some (Function r ps)) w h = refused
variable_typed V s g d x (Some Hidden) w h = refused

found_holds : {A : Type 0} (f : A → Bool) (xs : List A) (a : A) → find f xs ≡ Some a → f a ≡ true
found_holds f [] a h = absurd (none_some h)
found_holds f (x ∷ xs) a h = by_cases (f x) refl (found_holds f xs a) h
  where
    by_cases : (b : Bool) → f x ≡ b → (find f xs ≡ Some a → f a ≡ true) → cond b (Some x) (find f xs) ≡ Some a → f a ≡ true
    by_cases true c k e = ap f (sym (some_same e)) ∙ c
    by_cases false c k e = k e

number_typed : (g : W.Scope) (t : Target) (n : ℕ) (o : Option IntType) → g.layout.target ≡ t → ((i : IntType) → o ≡ Some i → is_of_type t i (pos n) ≡ true) → Rules (IsOperand g) (number_at n o)
number_typed g t n None e h = refused
number_typed g t n (Some i) e h = ruled (subst (λ u. is_of_type u i (pos n) ≡ true) (sym e) (h i refl))

reach_noted : {V : Variables} (b : Bool) (a : Operand) (s : Scope) → Fits V s → ((g : W.Scope) → IsWithin V s g → IsOperand g a) → Reaches V IsOperand s (Good (a, note b s))
reach_noted {V} b a s h k =
    let n = same_names V s (note b s) refl refl refl refl h in
    good (a, note b s) (record { later = n.later; still = n.still; fits = n.fits; typed = λ g w. k g (within_before n.later w) })

char_is_int : (t : Target) (n : ℕ) → n < 256 → is_of_type t Int (pos n) ≡ true
char_is_int t n h = small_is_int t n (omega arith)

-- the value of what was typed
pub reach_taken : {V : Variables} (s : Scope) (j : Judgement Operand) → Reaches V IsOperand s (j s) → Reaches V IsTyped s (taken j s)
reach_taken s j h = reach_then (j s) _ h (λ a t k. reach_pure t (value_in a) k.fits (λ g w. value_typed g a (k.typed g w)))

noted : (V : Variables) (b : Bool) (s : Scope) → Fits V s → Follows V s (note b s)
noted V b s h = same_names V s (note b s) refl refl refl refl h

pub reach_integer : {V : Variables} (at : ℕ) (s : Scope) (j : Judgement Operand) → Reaches V IsOperand s (j s) → Reaches V Anything s (integer_at at j s)
reach_integer {V} at s j h =
    reach_then (taken j s) _ (reach_taken s j h) (λ e t k.
    reach_then (rule at (λ u. integer_of e (constant_value u.layout e)) t) _ (reach_any_rule at t _ k.fits) (λ n u m.
    reach_changed u (note (has_cast e) u) n (noted V (has_cast e) u m.fits)))

module _ (V : Variables) where
  reach_based : (ws : tree.Words) (s : Scope) (j : Judgement D.Specs) → Reaches V Anything s (j s) → Reaches V Anything s (based ws j s)
  reach_based ws s j h = reach_then (j s) _ h (λ b t k. reach_any_rule (type_start ws) t _ k.fits)

  mutual
    pub operand_typed : (d : Demand) (e : tree.Exp) → IsExp e → Judges V IsOperand (operand d e)
    operand_typed d (tree.Variable at x) i s h =
        reach_rule at s _ h (λ g w. variable_typed V s g d x (entity s.blocks x) w (λ e c. entity_fits V (file_names s.blocks) s.layout.target s.blocks x e h.entities c))
    operand_typed d (tree.Number at n decimal u longs) i s h =
        reach_rule at s _ h (λ g w. number_typed g s.layout.target n (number_type s.layout.target n decimal u longs) w.grown.target (λ i' c. found_holds (λ k. is_of_type s.layout.target k (pos n)) _ i' c))
    operand_typed d (tree.Character at n) i s h = reach_pure s (Valued (C.Constant Int (pos n))) h (λ g w. char_is_int g.layout.target n i)
    operand_typed d (tree.Parenthesis at e) i s h = operand_typed d e i s h
    operand_typed d (tree.Index e x) i s h =
        reach_then (operand ForElement e s) _ (operand_typed ForElement e i.0 s h) (λ a t k.
        reach_then (taken (operand ForValue x) t) _ (reach_taken t (operand ForValue x) (operand_typed ForValue x i.1 t k.fits)) (λ b u m.
        reach_rule (first e) u _ m.fits (λ g w. index_typed g w.sound u.layout w.grown d a b (k.typed g (within_before m.later w)) (m.typed g w))))
    operand_typed d (tree.Member e x) i s h =
        reach_then (operand ForPlace e s) _ (operand_typed ForPlace e i s h) (λ a t k.
        reach_rule (first e) t _ k.fits (λ g w. member_used g w.sound t.layout w.grown d x a (k.typed g w)))
    operand_typed d (tree.PointerMember e x) i s h =
        reach_then (taken (operand ForValue e) s) _ (reach_taken s (operand ForValue e) (operand_typed ForValue e i s h)) (λ a t k.
        reach_rule (first e) t _ k.fits (λ g w. pointer_member_used g w.sound t.layout w.grown d x a (k.typed g w)))
    operand_typed d (tree.Unary at op e) i s h =
        reach_then (operand (unary_demand op) e s) _ (operand_typed (unary_demand op) e i s h) (λ a t k.
        reach_rule at t _ k.fits (λ g w. unary_typed g w.sound t.layout w.grown d op a (k.typed g w)))
    operand_typed d (tree.SizeofValue at e) i s h =
        reach_then (operand ForPlace e s) _ (operand_typed ForPlace e i s h) (λ a t k.
        reach_then (rule at (λ u. size_constant u.layout (operand_type a)) t) _ (reach_rule at t _ k.fits (λ g w. size_typed g w.sound t.layout w.grown (operand_type a))) (λ c u m.
        reach_noted (operand_has_cast a) c u m.fits (λ g w. m.typed g w)))
    operand_typed d (tree.SizeofType at n) i s h =
        reach_then (type_name n s) _ (type_name_reached n i s h) (λ a t k.
        reach_rule at t _ k.fits (λ g w. size_typed g w.sound t.layout w.grown a))
    operand_typed d (tree.Cast at n e) i s h =
        reach_then (type_name n s) _ (type_name_reached n i.0 s h) (λ a t k.
        reach_then (taken (operand ForValue e) t) _ (reach_taken t (operand ForValue e) (operand_typed ForValue e i.1 t k.fits)) (λ b u m.
        reach_rule at u _ m.fits (λ g w. valued_typed g _ (cast_typed g b (m.typed g w) u.layout a))))
    operand_typed d (tree.Binary op x y) i s h =
        reach_then (taken (operand ForValue x) s) _ (reach_taken s (operand ForValue x) (operand_typed ForValue x i.0 s h)) (λ a t k.
        reach_then (taken (operand ForValue y) t) _ (reach_taken t (operand ForValue y) (operand_typed ForValue y i.1 t k.fits)) (λ b u m.
        reach_rule (first x) u _ m.fits (λ g w. valued_typed g _ (binary_typed g u.layout w.grown a b (k.typed g (within_before m.later w)) (m.typed g w) op))))
    operand_typed d (tree.Conditional c x y) i s h =
        reach_then (taken (operand ForValue c) s) _ (reach_taken s (operand ForValue c) (operand_typed ForValue c i.0 s h)) (λ e t k.
        reach_then (taken (operand ForValue x) t) _ (reach_taken t (operand ForValue x) (operand_typed ForValue x i.1 t k.fits)) (λ a u m.
        reach_then (taken (operand ForValue y) u) _ (reach_taken u (operand ForValue y) (operand_typed ForValue y i.2 u m.fits)) (λ b v n.
        reach_rule (first c) v _ n.fits (λ g w. valued_typed g _ (chosen_typed g v.layout w.grown a b (m.typed g (within_before n.later w)) (n.typed g w) e
        (k.typed g (within_before m.later (within_before n.later w))))))))

    pub type_name_reached : (n : tree.TypeName) → IsTypeName n → Judges V Anything (type_name n)
    type_name_reached (tree.Typed ws stars) i s h =
        reach_then (based ws (words D.no_specs ws) s) _ (reach_based ws s (words D.no_specs ws) (words_reached D.no_specs ws i s h)) (λ b t k.
        reach_any_rule (words_start ws) t _ k.fits)

    pub words_reached : (b : D.Specs) (ws : tree.Words) → AreWords ws → Judges V Anything (words b ws)
    words_reached b tree.NoWords i s h = reach_pure s b h (λ g w. tt)
    words_reached b (tree.MoreWords w ws) i s h = reach_then (word w s) _ (word_reached w i.0 s h) (λ p t k. words_reached (D.with_part b p) ws i.1 t k.fits)

    word_reached : (w : tree.Word) → IsWord w → Judges V Anything (word w)
    word_reached (tree.Reserved at k) i s h = reach_pure s (D.Word k) h (λ g w. tt)
    word_reached (tree.Named at x) i s h = reach_any_rule at s _ h
    word_reached (tree.StructTag at x) i s h =
        reach_then (declaring at (D.struct_tag x s)) _ (reach_declaring at s _ (struct_tag_follows V x s h)) (λ a t k. reach_pure t (D.Type' a) k.fits (λ g w. tt))
    word_reached (tree.StructBody at x ms) i s h =
        let m = mention_follows V x s h in
        reach_then (members [] ms (D.mention x s)) _ (reached_later (members [] ms (D.mention x s)) m.later m.still (members_reached [] ms i.1 (D.mention x s) m.fits)) (λ list t k.
        reach_then (declaring at (D.struct_body x list t)) _ (reach_declaring at t _ (struct_body_follows V x list t k.fits)) (λ a u n. reach_pure u (D.Type' a) n.fits (λ g w. tt)))
    word_reached (tree.EnumTag at x) i s h = reach_then (rule at (D.enum_tag x) s) _ (reach_any_rule at s _ h) (λ a t k. reach_pure t (D.Type' a) k.fits (λ g w. tt))
    word_reached (tree.EnumBody at x es) i s h =
        reach_then (enumerators (pos 0) es s) _ (enumerators_reached (pos 0) es i s h) (λ n t k.
        reach_then (declaring at (D.enum_body x t)) _ (reach_declaring at t _ (enum_body_follows V x t k.fits)) (λ a u m. reach_pure u (D.Type' a) m.fits (λ g w. tt)))

    members_reached : (list : List Member) (ms : tree.Members) → AreMembers ms → Judges V Anything (members list ms)
    members_reached list (tree.LastMember ws ds) i s h =
        reach_then (based ws (words D.no_specs ws) s) _ (reach_based ws s (words D.no_specs ws) (words_reached D.no_specs ws i.0 s h)) (λ b t k. declarators_reached b.type list ds i.1 t k.fits)
    members_reached list (tree.MoreMembers ws ds rest) i s h =
        reach_then (based ws (words D.no_specs ws) s) _ (reach_based ws s (words D.no_specs ws) (words_reached D.no_specs ws i.0 s h)) (λ b t k.
        reach_then (declarators b.type list ds t) _ (declarators_reached b.type list ds i.1 t k.fits) (λ now u m. members_reached now rest i.2 u m.fits))

    declarators_reached : (a : CType) (list : List Member) (ds : tree.Declarators) → AreDeclarators ds → Judges V Anything (declarators a list ds)
    declarators_reached a list (tree.LastDeclarator d) i s h = reach_then (declarator a d s) _ (declarator_reached a d i s h) (λ m t k. reach_any_rule m.at t _ k.fits)
    declarators_reached a list (tree.MoreDeclarators d ds) i s h =
        reach_then (declarator a d s) _ (declarator_reached a d i.0 s h) (λ m t k.
        reach_then (rule m.at (λ u. D.joined u.layout list m) t) _ (reach_any_rule m.at t _ k.fits) (λ now u n. declarators_reached a now ds i.1 u n.fits))

    pub declarator_reached : (a : CType) (d : tree.Declarator) → IsDeclarator d → Judges V Anything (declarator a d)
    declarator_reached a (tree.Declare stars at x ns) i s h = reach_then (dimensions [] ns s) _ (dimensions_reached [] ns i.1 s h) (λ ls t k. reach_pure t _ k.fits (λ g w. tt))

    pub dimensions_reached : (ls : List ℕ) (ns : tree.Dimensions) → AreDimensions ns → Judges V Anything (dimensions ls ns)
    dimensions_reached ls tree.NoDimensions i s h = reach_pure s ls h (λ g w. tt)
    dimensions_reached ls (tree.MoreDimensions e rest) i s h =
        reach_then (integer_at (first e) (operand ForValue e) s) _ (reach_integer (first e) s (operand ForValue e) (operand_typed ForValue e i.0 s h)) (λ n t k.
        dimensions_reached (ls ++ (D.length_at n ∷ [])) rest i.1 t k.fits)

    enumerators_reached : (n : ℤ) (es : tree.Enumerators) → AreEnumerators es → Judges V Anything (enumerators n es)
    enumerators_reached n (tree.LastEnumerator e) i s h = enumerator_reached n e i s h
    enumerators_reached n (tree.MoreEnumerators e es) i s h = reach_then (enumerator n e s) _ (enumerator_reached n e i.0 s h) (λ m t k. enumerators_reached m es i.1 t k.fits)

    enumerator_reached : (n : ℤ) (e : tree.Enumerator) → IsEnumerator e → Judges V Anything (enumerator n e)
    enumerator_reached n (tree.Implicit at x) i s h = reach_declaring at s _ (enumerator_follows V x n s h)
    enumerator_reached n (tree.Explicit at x e) i s h =
        reach_then (integer_at (first e) (operand ForValue e) s) _ (reach_integer (first e) s (operand ForValue e) (operand_typed ForValue e i s h)) (λ m t k.
        reach_then (rule (first e) (D.enumerator_value m) t) _ (reach_any_rule (first e) t (D.enumerator_value m t) k.fits) (λ n u q.
        reach_declaring at u _ (enumerator_follows V x n u q.fits)))

  pub base_reached : (ws : tree.Words) → AreWords ws → Judges V Anything (base ws)
  base_reached ws i s h = reach_based ws s (words D.no_specs ws) (words_reached D.no_specs ws i s h)

  pub value_reached : (e : tree.Exp) → IsExp e → Judges V IsTyped (value e)
  value_reached e i s h = reach_taken s (operand ForValue e) (operand_typed ForValue e i s h)
