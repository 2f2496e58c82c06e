-- Scopes and environments with more names.
use Rattle.std.proofs.Common.{◌≡◌, Bool, true, false, cond, List, [], ◌∷◌, map, Option, Some, refl, sym, subst, ap}
use Rattle.c_values.specs.Name.{Name, same_name, with_name}
use Rattle.c_values.specs.Value.{Value}
use Rattle.c_values.proofs.Options.{some_is}
use Rattle.expression_lang.specs.Evaluation.{Env}
use Rattle.expression_lang.specs.Sort.{Scalar, Sort, Of, Kind, WordKind, word_sort_of}
use Rattle.expression_lang.specs.Sorted.{names_with}
use Rattle.expression_lang.specs.Signature.{Binder, binder, bound}
use Rattle.expression_lang.specs.View.{view_at, views_at}
use Rattle.program_facts.specs.Lasting.{AreOfSorts}
use Rattle.monad_lang.specs.Sorted.{setting_with}
use Rattle.rule_word.specs.Rule.{Context, View}
use Rattle.rule_word.specs.Scopes.{names_in, with_kinds, setting_in, sort_seen, view_for}
use Rattle.rule_word.specs.Exact.{seen, AreSeen}

pub names_after : (f : Kind → Scalar) (xs : List Name) (ks : List Kind) (bs : List Binder) → names_with xs (map f ks) (names_in f bs) ≡ names_in f (with_kinds xs ks bs)
names_after f [] ks bs = refl
names_after f (x ∷ xs) [] bs = refl
names_after f (x ∷ xs) (k ∷ ks) bs = names_after f xs ks (binder x k ∷ bs)

pub setting_after : (f : Kind → Scalar) (ctx : Context) (xs : List Name) (ks : List Kind) (bs : List Binder) → setting_with xs (map f ks) (setting_in f ctx bs) ≡ setting_in f ctx (with_kinds xs ks bs)
setting_after f ctx xs ks bs =
    ap (λ (ns : Name → Option Scalar). record { scope = record { layout = ctx.layout; names = ns; globals = (setting_in f ctx bs).scope.globals }; functions = ctx.functions; sort_for = f })
    (names_after f xs ks bs)

pub seen_kind : (k : Kind) (v : Value) → seen (view_for k) v ≡ view_at k v
seen_kind (WordKind n) v = refl
seen_kind _ _ = refl

pub sort_of_view : (k : Kind) → ◌≡◌ {A = Option Sort} (sort_seen (view_for k)) (Some (Of (word_sort_of k)))
sort_of_view (WordKind n) = refl
sort_of_view _ = refl

one_seen : (k : Kind) (u u' w : Value) (o : Option View) (v : View) (b : Bool) → (o ≡ Some v → u' ≡ seen v u) → cond b (Some (view_for k)) o ≡ Some v → cond b (view_at k w) u' ≡ seen v (cond b w u)
one_seen k u u' w o v true h e = subst (λ x. view_at k w ≡ seen x w) (some_is e) (sym (seen_kind k w))
one_seen k u u' w o v false h e = h e

first_seen : (x : Name) (k : Kind) (w : Value) (bs : List Binder) (env env' : Env) → AreSeen bs env env' → AreSeen (binder x k ∷ bs) (with_name x w env) (with_name x (view_at k w) env')
first_seen x k w bs env env' h y v e = one_seen k (env y) (env' y) w (names_in view_for bs y) v (same_name x y) (h y v) e

pub seen_after : (xs : List Name) (ks : List Kind) (us : List Value) (bs : List Binder) (env env' : Env) → AreOfSorts (map word_sort_of ks) us → AreSeen bs env env' →
    AreSeen (with_kinds xs ks bs) (bound xs us env) (bound xs (views_at ks us) env')
seen_after [] ks us bs env env' n h = h
seen_after (x ∷ xs) [] [] bs env env' n h = h
seen_after (x ∷ xs) (k ∷ ks) (u ∷ us) bs env env' n h = seen_after xs ks us (binder x k ∷ bs) (with_name x u env) (with_name x (view_at k u) env') n.1 (first_seen x k u bs env env' h)
seen_after (x ∷ xs) [] (u ∷ us) bs env env' n h = absurd n
seen_after (x ∷ xs) (k ∷ ks) [] bs env env' n h = absurd n
