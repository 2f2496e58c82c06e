-- Judgements that give no number: those of expressions, types, declarators and labels.
use Rattle.std.proofs.Common.{ℕ, pos, ℤ, Bool, true, false, not, cond, ◌||◌, List, [], ◌∷◌, ◌++◌, Option, Some, None, is_some}
use Rattle.c_values.specs.Name.{Name}
use Rattle.c_values.specs.Types.{IntType, Int, CType, Struct}
use Rattle.c_values.specs.Number.{is_of_type}
use Rattle.c_values.specs.Growth.{with_struct, can_follow, struct_named}
use Rattle.c_values.specs.Layout.{Member, StructDef, is_object}
use Rattle.c_grammar.specs.Tree as tree
use Rattle.typing_rules.specs.Scope.{Scope, StructTag}
use Rattle.typing_rules.specs.Checked.{Checked, Judgement, ◌>>=◌, pure, Ruling, Ruled, Refused, ruled, rule, declaring, declares, changed, after}
use Rattle.typing_rules.specs.Constant.{constant_value}
use Rattle.typing_rules.specs.Operand.{Operand, Demand, ForValue, ForElement, ForPlace, value_in, operand_type, operand_has_cast}
use Rattle.typing_rules.specs.Declarations as D
use Rattle.typing_rules.specs.Expressions.{first, type_start, words_start, size_constant, unary_demand, taken, integer_at, integer_of, note, based, operand, type_name, words, word, members, declarators, declarator, dimensions, enumerators, enumerator, value, integer_constant, base}
use Rattle.typing_rules.specs.Calls.{values}
use Rattle.typing_rules.specs.Statements.{Labels, both, label, labels}
use Rattle.c_lang.specs.Cast.{has_cast}
use Rattle.c_lang.specs.Numbers.{no_numbers}
use Rattle.typing_laws.proofs.Rulings.{Rules}
use Rattle.typing_laws.proofs.Rulings as R
use Rattle.typing_laws.proofs.Outcomes.{Gives, gives, fails, gives_then, gives_weaker}
use Rattle.typing_laws.proofs.Numbering.{AreNumbered, numbered_itself, numbered_behind}

-- a scope with the same numbers
abbrev pub Still : Scope → Scope → Type 0
Still s t = AreNumbered no_numbers 0 s.progress t.progress

abbrev pub IsQuiet : {A : Type 0} → Judgement A → Type 0
IsQuiet j = (s : Scope) → Gives (λ a t. Still s t) (j s)

pub quiet_then : {A B : Type 0} (j : Judgement A) (f : A → Judgement B) → IsQuiet j → ((a : A) → IsQuiet (f a)) → IsQuiet (j >>= f)
quiet_then j f h k s =
    gives_then (j s) f (h s) (λ a t m. gives_weaker (f a t) (k a t) (λ b u n. numbered_behind no_numbers 0 s.progress t.progress u.progress m n))

pub quiet_pure : {A : Type 0} (a : A) → IsQuiet (pure a)
quiet_pure a s = gives (a, s) (numbered_itself s.progress)

pub quiet_ruled : {A : Type 0} (at : ℕ) (s : Scope) (r : Ruling A) → Gives (λ a t. Still s t) (ruled at s r)
quiet_ruled at s (Ruled a) = gives (a, s) (numbered_itself s.progress)
quiet_ruled at s (Refused kind) = fails

pub quiet_rule : {A : Type 0} (at : ℕ) (r : Scope → Ruling A) → IsQuiet (rule at r)
quiet_rule at r s = quiet_ruled at s (r s)

quiet_note : {A : Type 0} (f : Scope → Scope) (a : A) → ((s : Scope) → Still s (f s)) → IsQuiet (changed f a)
quiet_note f a h s = gives (a, f s) (h s)

-- what a rule that declares something keeps
abbrev Keeps : {A : Type 0} → Scope → Ruling (A × Scope) → Type 0
Keeps s r = Rules (λ p. Still s p.1) r

quiet_declaring : {A : Type 0} (at : ℕ) (s : Scope) (r : Ruling (A × Scope)) → Keeps s r → Gives (λ a t. Still s t) (declaring at r)
quiet_declaring at s _ (R.ruled {a} h) = gives a h
quiet_declaring at s _ R.refused = fails

quiet_declares : {A : Type 0} (at : ℕ) (r : Scope → Ruling (A × Scope)) → ((s : Scope) → Keeps s (r s)) → IsQuiet (declares at r)
quiet_declares at r h s = quiet_declaring at s (r s) (h s)

mentioned : (x : Option Name) (s : Scope) → Still s (D.mention x s)
mentioned None s = numbered_itself s.progress
mentioned (Some x) s = by_cases (is_some (s.tags x))
  where
    by_cases : (b : Bool) → Still s (cond b s (D.with_tag StructTag x s))
    by_cases true = numbered_itself s.progress
    by_cases false = numbered_itself s.progress

enumerated : (x : Option Name) (s : Scope) → Still s (D.enumerate x s)
enumerated None s = numbered_itself s.progress
enumerated (Some x) s = numbered_itself s.progress

struct_tag_keeps : (x : Name) (s : Scope) → Keeps s (D.struct_tag x s)
struct_tag_keeps x s = R.refused_or (D.is_enum_tag (s.tags x)) _ _ (λ e. R.ruled (mentioned (Some x) s))

defined_keeps : (d : StructDef) (s : Scope) → Rules (Still s) (D.defined d s)
defined_keeps d s =
    R.refused_or (D.is_enum_tag (s.tags d.name) || is_some (struct_named s.layout.structs d.name)) _ _ (λ e.
    R.refused_or (not (can_follow s.layout d)) _ _ (λ c.
    R.refused_or (not (is_object (with_struct s.layout d) (Struct d.name))) _ _ (λ o. R.ruled (numbered_itself s.progress))))

struct_body_keeps : (x : Option Name) (ms : List Member) (s : Scope) → Keeps s (D.struct_body x ms s)
struct_body_keeps x ms s =
    let d : StructDef = record { name = D.tag_name s.unnamed x; members = ms } in
    R.rules_then (D.defined d s) _ (defined_keeps d s) (λ t k. R.ruled (numbered_behind no_numbers 0 s.progress t.progress t.progress k (numbered_itself t.progress)))

enum_body_keeps : (x : Option Name) (s : Scope) → Keeps s (D.enum_body x s)
enum_body_keeps x s = R.refused_or (D.is_tagged x s) _ _ (λ e. R.ruled (enumerated x s))

enumerator_keeps : (x : Name) (n : ℤ) (s : Scope) → Keeps s (D.enumerator x n s)
enumerator_keeps x n s =
    R.refused_or (D.has_name_here s x) _ _ (λ e.
    R.refused_or (not (is_of_type s.layout.target Int n)) _ _ (λ c. R.ruled (numbered_itself s.progress)))

quiet_taken : (j : Judgement Operand) → IsQuiet j → IsQuiet (taken j)
quiet_taken j h = quiet_then j _ h (λ a. quiet_pure (value_in a))

pub quiet_integer : (at : ℕ) (j : Judgement Operand) → IsQuiet j → IsQuiet (integer_at at j)
quiet_integer at j h =
    quiet_then (taken j) _ (quiet_taken j h) (λ e.
    quiet_then (rule at (λ s. integer_of e (constant_value s.layout e))) _ (quiet_rule at _) (λ n. quiet_note (note (has_cast e)) n (λ s. numbered_itself s.progress)))

quiet_based : (ws : tree.Words) (j : Judgement D.Specs) → IsQuiet j → IsQuiet (based ws j)
quiet_based ws j h = quiet_then j _ h (λ b. quiet_rule (type_start ws) _)

mutual
  pub operand_quiet : (d : Demand) (e : tree.Exp) → IsQuiet (operand d e)
  operand_quiet d (tree.Variable at x) = quiet_rule at _
  operand_quiet d (tree.Number at n decimal u longs) = quiet_rule at _
  operand_quiet d (tree.Character at n) = quiet_pure _
  operand_quiet d (tree.Parenthesis at e) = operand_quiet d e
  operand_quiet d (tree.Index e i) =
      quiet_then (operand ForElement e) _ (operand_quiet ForElement e) (λ a.
      quiet_then (taken (operand ForValue i)) _ (quiet_taken (operand ForValue i) (operand_quiet ForValue i)) (λ b. quiet_rule (first e) _))
  operand_quiet d (tree.Member e x) = quiet_then (operand ForPlace e) _ (operand_quiet ForPlace e) (λ a. quiet_rule (first e) _)
  operand_quiet d (tree.PointerMember e x) =
      quiet_then (taken (operand ForValue e)) _ (quiet_taken (operand ForValue e) (operand_quiet ForValue e)) (λ a. quiet_rule (first e) _)
  operand_quiet d (tree.Unary at op e) = quiet_then (operand (unary_demand op) e) _ (operand_quiet (unary_demand op) e) (λ a. quiet_rule at _)
  operand_quiet d (tree.SizeofValue at e) =
      quiet_then (operand ForPlace e) _ (operand_quiet ForPlace e) (λ a.
      quiet_then (rule at (λ s. size_constant s.layout (operand_type a))) _ (quiet_rule at _) (λ c. quiet_note (note (operand_has_cast a)) c (λ s. numbered_itself s.progress)))
  operand_quiet d (tree.SizeofType at t) = quiet_then (type_name t) _ (type_name_quiet t) (λ u. quiet_rule at _)
  operand_quiet d (tree.Cast at t e) =
      quiet_then (type_name t) _ (type_name_quiet t) (λ u.
      quiet_then (taken (operand ForValue e)) _ (quiet_taken (operand ForValue e) (operand_quiet ForValue e)) (λ a. quiet_rule at _))
  operand_quiet d (tree.Binary op x y) =
      quiet_then (taken (operand ForValue x)) _ (quiet_taken (operand ForValue x) (operand_quiet ForValue x)) (λ a.
      quiet_then (taken (operand ForValue y)) _ (quiet_taken (operand ForValue y) (operand_quiet ForValue y)) (λ b. quiet_rule (first x) _))
  operand_quiet d (tree.Conditional c x y) =
      quiet_then (taken (operand ForValue c)) _ (quiet_taken (operand ForValue c) (operand_quiet ForValue c)) (λ e.
      quiet_then (taken (operand ForValue x)) _ (quiet_taken (operand ForValue x) (operand_quiet ForValue x)) (λ a.
      quiet_then (taken (operand ForValue y)) _ (quiet_taken (operand ForValue y) (operand_quiet ForValue y)) (λ b. quiet_rule (first c) _)))

  type_name_quiet : (t : tree.TypeName) → IsQuiet (type_name t)
  type_name_quiet (tree.Typed ws stars) =
      quiet_then (based ws (words D.no_specs ws)) _ (quiet_based ws (words D.no_specs ws) (words_quiet D.no_specs ws)) (λ b. quiet_rule (words_start ws) _)

  words_quiet : (b : D.Specs) (ws : tree.Words) → IsQuiet (words b ws)
  words_quiet b tree.NoWords = quiet_pure b
  words_quiet b (tree.MoreWords w ws) = quiet_then (word w) _ (word_quiet w) (λ p. words_quiet (D.with_part b p) ws)

  word_quiet : (w : tree.Word) → IsQuiet (word w)
  word_quiet (tree.Reserved at k) = quiet_pure _
  word_quiet (tree.Named at x) = quiet_rule at _
  word_quiet (tree.StructTag at x) = quiet_then (declares at (D.struct_tag x)) _ (quiet_declares at (D.struct_tag x) (struct_tag_keeps x)) (λ t. quiet_pure (D.Type' t))
  word_quiet (tree.StructBody at x ms) =
      quiet_then (after (D.mention x) (members [] ms)) _ (λ s. behind s (members [] ms (D.mention x s)) (members_quiet [] ms (D.mention x s))) (λ list.
      quiet_then (declares at (D.struct_body x list)) _ (quiet_declares at (D.struct_body x list) (struct_body_keeps x list)) (λ t. quiet_pure (D.Type' t)))
    where
      behind : (s : Scope) (c : Checked (List Member × Scope)) → Gives (λ a t. Still (D.mention x s) t) c → Gives (λ a t. Still s t) c
      behind s c h = gives_weaker c h (λ a t k. numbered_behind no_numbers 0 s.progress (D.mention x s).progress t.progress (mentioned x s) k)
  word_quiet (tree.EnumTag at x) = quiet_then (rule at (D.enum_tag x)) _ (quiet_rule at _) (λ t. quiet_pure (D.Type' t))
  word_quiet (tree.EnumBody at x es) =
      quiet_then (enumerators (pos 0) es) _ (enumerators_quiet (pos 0) es) (λ n.
      quiet_then (declares at (D.enum_body x)) _ (quiet_declares at (D.enum_body x) (enum_body_keeps x)) (λ t. quiet_pure (D.Type' t)))

  members_quiet : (list : List Member) (ms : tree.Members) → IsQuiet (members list ms)
  members_quiet list (tree.LastMember ws ds) =
      quiet_then (based ws (words D.no_specs ws)) _ (quiet_based ws (words D.no_specs ws) (words_quiet D.no_specs ws)) (λ b. declarators_quiet b.type list ds)
  members_quiet list (tree.MoreMembers ws ds rest) =
      quiet_then (based ws (words D.no_specs ws)) _ (quiet_based ws (words D.no_specs ws) (words_quiet D.no_specs ws)) (λ b.
      quiet_then (declarators b.type list ds) _ (declarators_quiet b.type list ds) (λ now. members_quiet now rest))

  declarators_quiet : (t : CType) (list : List Member) (ds : tree.Declarators) → IsQuiet (declarators t list ds)
  declarators_quiet t list (tree.LastDeclarator d) = quiet_then (declarator t d) _ (declarator_quiet t d) (λ m. quiet_rule m.at _)
  declarators_quiet t list (tree.MoreDeclarators d ds) =
      quiet_then (declarator t d) _ (declarator_quiet t d) (λ m.
      quiet_then (rule m.at (λ s. D.joined s.layout list m)) _ (quiet_rule m.at _) (λ now. declarators_quiet t now ds))

  pub declarator_quiet : (t : CType) (d : tree.Declarator) → IsQuiet (declarator t d)
  declarator_quiet t (tree.Declare stars at x ns) = quiet_then (dimensions [] ns) _ (dimensions_quiet [] ns) (λ lengths. quiet_pure _)

  dimensions_quiet : (ls : List ℕ) (ns : tree.Dimensions) → IsQuiet (dimensions ls ns)
  dimensions_quiet ls tree.NoDimensions = quiet_pure ls
  dimensions_quiet ls (tree.MoreDimensions e rest) =
      quiet_then (integer_at (first e) (operand ForValue e)) _ (quiet_integer (first e) (operand ForValue e) (operand_quiet ForValue e)) (λ n. dimensions_quiet (ls ++ (D.length_at n ∷ [])) rest)

  enumerators_quiet : (n : ℤ) (es : tree.Enumerators) → IsQuiet (enumerators n es)
  enumerators_quiet n (tree.LastEnumerator e) = enumerator_quiet n e
  enumerators_quiet n (tree.MoreEnumerators e es) = quiet_then (enumerator n e) _ (enumerator_quiet n e) (λ next. enumerators_quiet next es)

  enumerator_quiet : (n : ℤ) (e : tree.Enumerator) → IsQuiet (enumerator n e)
  enumerator_quiet n (tree.Implicit at x) = quiet_declares at (D.enumerator x n) (enumerator_keeps x n)
  enumerator_quiet n (tree.Explicit at x e) =
      quiet_then (integer_at (first e) (operand ForValue e)) _ (quiet_integer (first e) (operand ForValue e) (operand_quiet ForValue e)) (λ m.
      quiet_then (rule (first e) (D.enumerator_value m)) _ (quiet_rule (first e) _) (λ k. quiet_declares at (D.enumerator x k) (enumerator_keeps x k)))

pub base_quiet : (ws : tree.Words) → IsQuiet (base ws)
base_quiet ws = quiet_based ws (words D.no_specs ws) (words_quiet D.no_specs ws)

pub value_quiet : (e : tree.Exp) → IsQuiet (value e)
value_quiet e = quiet_taken (operand ForValue e) (operand_quiet ForValue e)

pub values_quiet : (es : List tree.Exp) → IsQuiet (values es)
values_quiet [] = quiet_pure []
values_quiet (e ∷ es) = quiet_then (value e) _ (value_quiet e) (λ a. quiet_then (values es) _ (values_quiet es) (λ as'. quiet_pure (a ∷ as')))

label_quiet : (i : IntType) (seen : Labels) (l : tree.Label) → IsQuiet (label i seen l)
label_quiet i seen (tree.Case at e) = quiet_then (integer_constant e) _ (quiet_integer (first e) (operand ForValue e) (operand_quiet ForValue e)) (λ n. quiet_rule at _)
label_quiet i seen (tree.Default at) = quiet_rule at _

pub labels_quiet : (i : IntType) (seen : Labels) (ls : List tree.Label) → IsQuiet (labels i seen ls)
labels_quiet i seen [] = quiet_pure _
labels_quiet i seen (l ∷ ls) = quiet_then (label i seen l) _ (label_quiet i seen l) (λ a. quiet_then (labels i (both seen a) ls) _ (labels_quiet i (both seen a) ls) (λ b. quiet_pure (both a b)))
