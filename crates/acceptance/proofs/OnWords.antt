-- A program that gives a function's result from words is well-sorted in the scope that the words' rules have.
use Rattle.std.proofs.Common.{◌≡◌, true, List, [], ◌∷◌, Option, Some, None, refl, sym, ap, ◌∙◌}
use Rattle.std.proofs.lemmas.Bool.{false≢true, and_from, and_parts}
use Rattle.c_values.specs.Name.{Name}
use Rattle.c_values.specs.Layout.{GlobalVar, global_type}
use Rattle.expression_lang.specs.Sort.{Kind, Scalar, word_sort_of, is_kind, are_kinds}
use Rattle.expression_lang.specs.Signature.{Binder, Signature, binder, names_of, kinds_of}
use Rattle.expression_lang.specs.Sorted.{result_scalars}
use Rattle.simpl_lang.specs.Command.{SimplUnit}
use Rattle.monad_lang.specs.Program.{Mon}
use Rattle.monad_lang.specs.Sorted.{are_scalars, scalars_given, setting_signed}
use Rattle.rule_word.specs.Scopes.{with_kinds, words}
use Rattle.rule_word.specs.CodeNames.{are_binders}
use Rattle.rule_word.proofs.ScopesAfter.{names_after}
use Rattle.acceptance.specs.Accepted.{is_on_words, word_context}

pub given_by : (ss : List Scalar) (o : Option (List Scalar)) → are_scalars ss o ≡ true → (given : List Scalar) × (o ≡ Some given)
given_by ss (Some given) h = (given, refl)
given_by ss None h = absurd (false≢true h)

pub given : (u : SimplUnit) (s : Signature) (m : Mon) → is_on_words u s m ≡ true →
    (given : List Scalar) × (scalars_given (words (word_context u) (with_kinds (names_of s.params) (kinds_of s.params) [])) m ≡ Some given)
given u s m h =
    let names = names_after word_sort_of (names_of s.params) (kinds_of s.params) [] in
    let there = given_by (result_scalars word_sort_of s.result) (scalars_given (setting_signed word_sort_of u.layout u.globals u.signatures s) m) h in
    (there.0, ap (λ (ns : Name → Option Scalar). scalars_given (record { scope = record { layout = u.layout; names = ns; globals = global_type u.globals }; functions = u.signatures; sort_for = word_sort_of }) m) (sym names) ∙ there.1)

-- the same where the context and the scope are these
pub given_there : (u : SimplUnit) (s : Signature) (m : Mon) (gs : List GlobalVar) (fs : List Signature) (bs : List Binder) →
    gs ≡ u.globals → fs ≡ u.signatures → bs ≡ with_kinds (names_of s.params) (kinds_of s.params) [] → is_on_words u s m ≡ true →
    (given : List Scalar) × (scalars_given (words (record { layout = u.layout; globals = gs; functions = fs }) bs) m ≡ Some given)
given_there u s m gs fs bs p q r h =
    let there = given u s m h in (
      there.0,
      ap (λ (vs : List GlobalVar). scalars_given (words (record { layout = u.layout; globals = vs; functions = fs }) bs) m) p
          ∙ ap (λ (hs : List Signature). scalars_given (words (record { layout = u.layout; globals = u.globals; functions = hs }) bs) m) q
          ∙ ap (λ (cs : List Binder). scalars_given (words (word_context u) cs) m) r
          ∙ there.1,
    )

kinds_behind : (xs : List Name) (ks : List Kind) (bs : List Binder) → are_kinds ks ≡ true → are_binders bs ≡ true →
    are_binders (with_kinds xs ks bs) ≡ true
kinds_behind [] ks bs h g = g
kinds_behind (x ∷ xs) [] bs h g = g
kinds_behind (x ∷ xs) (k ∷ ks) bs h g =
    let b = and_parts (is_kind k) (are_kinds ks) h in
    kinds_behind xs ks (binder x k ∷ bs) b.1 (and_from (is_kind k) (are_binders bs) b.0 g)

-- names are at kinds that are
pub kinds_there : (ps bs : List Binder) → bs ≡ with_kinds (names_of ps) (kinds_of ps) [] → are_kinds (kinds_of ps) ≡ true → are_binders bs ≡ true
kinds_there ps bs p h = ap (λ (cs : List Binder). are_binders cs) p ∙ kinds_behind (names_of ps) (kinds_of ps) [] h refl
