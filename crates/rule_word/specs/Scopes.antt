-- The two scopes of a point: with words under the names on the left, with what stands for them at their kinds on the right.
use Rattle.std.specs.Prelude.{ℕ, List, [], ◌∷◌, Option, Some, None}
use Rattle.c_values.specs.Name.{Name, with_name}
use Rattle.c_values.specs.Layout.{global_type}
use Rattle.expression_lang.specs.Expression.{Exp}
use Rattle.expression_lang.specs.Sort.{Scalar, Sort, Kind, WordKind, NatKind, IntKind, BoolKind, Scope, sort_of, word_sort, truth_sort, word_width, word_sort_of, sort_of_kind}
use Rattle.expression_lang.specs.Signature.{Binder, binder}
use Rattle.monad_lang.specs.Sorted.{Setting}
use Rattle.rule_word.specs.Rule.{Context, View, AsIs, Unsigned, Signed}

-- what the names have, by their kinds
abbrev pub names_in : {A : Type 0} → (Kind → A) → List Binder → Name → Option A
names_in f [] = λ x. None
names_in f (b ∷ bs) = with_name b.name (Some (f b.kind)) (names_in f bs)

-- with more names, of which the last hide those before
abbrev pub with_kinds : List Name → List Kind → List Binder → List Binder
with_kinds (x ∷ xs) (k ∷ ks) bs = with_kinds xs ks (binder x k ∷ bs)
with_kinds _ _ bs = bs

abbrev pub setting_in : (Kind → Scalar) → Context → List Binder → Setting
setting_in f ctx bs = record {
  scope = record { layout = ctx.layout; names = names_in f bs; globals = global_type ctx.globals };
  functions = ctx.functions;
  sort_for = f;
}

abbrev pub words : Context → List Binder → Setting
words ctx bs = setting_in word_sort_of ctx bs

abbrev pub numbers : Context → List Binder → Setting
numbers ctx bs = setting_in sort_of_kind ctx bs

-- the sort of what is seen so
abbrev pub sort_seen : View → Option Sort
sort_seen (AsIs o) = o
sort_seen (Unsigned n) = word_sort n
sort_seen (Signed n) = word_sort n

abbrev pub view_for : Kind → View
view_for (WordKind n) = AsIs (word_sort n)
view_for (NatKind n) = Unsigned n
view_for (IntKind n) = Signed n
view_for BoolKind = AsIs truth_sort

abbrev pub own : Scope → Exp → View
own g e = AsIs (sort_of g e)

abbrev pub width_in : Scope → Exp → Option ℕ
width_in g e = word_width (sort_of g e)

-- a function's result, or none
abbrev pub result_as_list : Option Kind → List Kind
result_as_list None = []
result_as_list (Some k) = k ∷ []
