-- What is known behind a part, by what was known before it.
use Rattle.std.proofs.Common.{◌≡◌, Bool, true, false, List, [], ◌∷◌, map, Option, Some, None, refl, sym, subst, ap, ◌∙◌}
use Rattle.c_values.specs.Name.{Name}
use Rattle.expression_lang.specs.Expression.{Exp}
use Rattle.ac_expr.specs.Fact.{Fact, Whole}
use Rattle.ac_expr.specs.Passed.{without_names, with_guard, where_unchanged}
use Rattle.ac_expr.specs.Lasting.{is_unnamed}
use Rattle.monad_lang.specs.Program.{Mon}
use Rattle.program_facts.specs.Flow.{facts_after, guard_in, changes_state}
use Rattle.word_abstract.specs.CodeKnown.{newest_first, with_lasting_guard}
use Rattle.word_abstract.proofs.KnownLaws.{kept, named_one}

names_none : (xs : List Name) → without_names xs [] ≡ []
names_none [] = refl
names_none (x ∷ xs) = names_none xs

pub kept_none : (xs : List Name) (changes : Bool) → kept xs changes [] ≡ []
kept_none xs true = names_none xs
kept_none xs false = names_none xs

guard_named : (xs : List Name) (g : Option Exp) (fs : List Fact) → without_names xs (with_guard g fs) ≡ with_lasting_guard xs g (without_names xs fs)
guard_named xs None fs = refl
guard_named xs (Some e) fs = named_one xs (Whole e) fs (is_unnamed xs e) refl

pub facts_behind : {A B : Type 0} (f : A → Fact) (h : B → Fact) (m : Mon) (xs : List Name) (outer outer' : List A) (own own' own'' : List B) →
    newest_first (map f outer') (kept xs (changes_state m) []) ≡ kept xs (changes_state m) (newest_first (map f outer) []) →
    ((older : List Fact) → newest_first (map h own') (kept xs (changes_state m) older) ≡ kept xs (changes_state m) (newest_first (map h own) older)) →
    ((older : List Fact) → newest_first (map h own'') (without_names xs older) ≡ with_lasting_guard xs (guard_in m) (newest_first (map h own') (without_names xs older))) →
    newest_first (map h own'') (newest_first (map f outer') []) ≡ facts_after m xs (newest_first (map h own) (newest_first (map f outer) []))
facts_behind f h m xs outer outer' own own' own'' a b c =
    let c' : Bool = changes_state m in
    let older : List Fact = newest_first (map f outer) [] in
    ap (λ fs. newest_first (map h own'') (newest_first (map f outer') fs)) (sym (kept_none xs c'))
    ∙ ap (newest_first (map h own'')) a
    ∙ c (where_unchanged c' older)
    ∙ ap (with_lasting_guard xs (guard_in m)) (b older)
    ∙ sym (guard_named xs (guard_in m) (where_unchanged c' (newest_first (map h own) older)))

pub facts_behind_by : {A B : Type 0} (f : A → Fact) (h : B → Fact) (m : Mon) (xs : List Name) (outer outer' : List A) (own own' own'' : List B) (changes : Bool) → changes ≡ changes_state m →
    newest_first (map f outer') (kept xs changes []) ≡ kept xs changes (newest_first (map f outer) []) →
    ((older : List Fact) → newest_first (map h own') (kept xs changes older) ≡ kept xs changes (newest_first (map h own) older)) →
    ((older : List Fact) → newest_first (map h own'') (without_names xs older) ≡ with_lasting_guard xs (guard_in m) (newest_first (map h own') (without_names xs older))) →
    newest_first (map h own'') (newest_first (map f outer') []) ≡ facts_after m xs (newest_first (map h own) (newest_first (map f outer) []))
facts_behind_by f h m xs outer outer' own own' own'' changes e a b c =
    facts_behind f h m xs outer outer' own own' own''
    (subst (λ d. newest_first (map f outer') (kept xs d []) ≡ kept xs d (newest_first (map f outer) [])) e a)
    (λ older. subst (λ d. newest_first (map h own') (kept xs d older) ≡ kept xs d (newest_first (map h own) older)) e (b older)) c
