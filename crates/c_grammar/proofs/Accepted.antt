-- The parser says yes exactly where some tree spells the tokens.
use Rattle.std.proofs.Common.{◌≡◌, true, false, List, [], ◌∷◌, ◌++◌, Option, Some, None, refl, subst}
use Rattle.c_lex.specs.Lexeme.{Lexeme}
use Rattle.c_grammar.specs.declared.symbol.Production.{Production}
use Rattle.c_grammar.specs.declared.symbol.Symbol.{Symbol}
use Rattle.c_grammar.specs.declared.symbol.Symbol.TheVariants as symbol
use Rattle.c_grammar.specs.Tree.{Name, External}
use Rattle.c_grammar.specs.Spells as spells
use Rattle.c_grammar.specs.Spells.{Spells}
use Rattle.c_grammar.specs.CodeChoice.{Choice, Refuse, Pass, Take, choice_of}
use Rattle.c_grammar.specs.CodeBuild.{Value, Tok, OfUnit, act, acts}
use Rattle.c_grammar.specs.CodeStack.{State, go, read, run, settle, advance, finish, is_type, noted, made_behind, next_behind}
use Rattle.c_grammar.specs.CodeAccepts.{Stage, drop_ends, forward, is_complete, accepts, first_stage}
use Rattle.c_grammar.proofs.Steps.{false≢true}
use Rattle.c_grammar.proofs.Means.{plain, made_true, made_false, externals, same, All, nil, cons, Sound, parts}
use Rattle.c_grammar.proofs.Sound.{sound}
use Rattle.c_grammar.proofs.Texts.{is_read}

-- ends of productions stand for nothing
with_ends : {ns next ns2 next2 : List Name} {s u : List Lexeme} (stack : List Symbol) → All ns next (drop_ends stack) s u ns2 next2 → All ns next stack s u ns2 next2
with_ends [] all = all
with_ends (symbol.End p ∷ stack) all = cons (plain same) (with_ends stack all)
with_ends (x ∷ stack) all = all

-- some names of types behind the whole text
record Whole (ns next : List Name) (stack : List Symbol) (s : List Lexeme) : Type 0 where
  pub made : List Name
  pub later : List Name
  pub all : All ns next stack s [] made later

completed : (ns next : List Name) (stack : List Symbol) → is_complete stack ≡ true → Whole ns next stack []
completed ns next [] h = record { made = ns; later = next; all = nil }
completed ns next (symbol.Externals ∷ stack) h = let w = completed ns next stack h in record { made = w.made; later = w.later; all = cons (externals (λ e. ([], spells.no_externals))) w.all }
completed ns next (symbol.Made true ∷ stack) h = let w = completed next next stack h in record { made = w.made; later = w.later; all = cons made_true w.all }
completed ns next (symbol.Made false ∷ stack) h = let w = completed ns ns stack h in record { made = w.made; later = w.later; all = cons made_false w.all }
completed ns next (symbol.End p ∷ stack) h = let w = completed ns next stack h in record { made = w.made; later = w.later; all = cons (plain same) w.all }
completed ns next (x ∷ stack) h = false≢true h

meant : (ns next : List Name) (s : Symbol) (t : Lexeme) (c : Choice) → choice_of s (is_type ns t.kind) t.kind ≡ c → Sound ns next s t c
meant ns next s t c e = subst (λ c. Sound ns next s t c) e (sound ns next s t.kind t.from t.to)

step : (ns next : List Name) (t : Lexeme) (stack : List Symbol) (ts : List Lexeme) → ((st : Stage) → accepts (Some st) ts ≡ true → Whole st.made st.next st.stack ts) → accepts (forward ns next t stack) ts ≡ true → Whole ns next stack (t ∷ ts)
step ns next t [] ts rec h = false≢true h
step ns next t (s ∷ stack) ts rec h = chosen (choice_of s (is_type ns t.kind) t.kind) refl (step (made_behind s ns next) (next_behind s ns next) t stack ts rec) h
  where
    chosen : (c : Choice) → choice_of s (is_type ns t.kind) t.kind ≡ c → (accepts (forward (made_behind s ns next) (next_behind s ns next) t stack) ts ≡ true → Whole (made_behind s ns next) (next_behind s ns next) stack (t ∷ ts)) → accepts (forward ns next t (s ∷ stack)) ts ≡ true → Whole ns next (s ∷ stack) (t ∷ ts)
    chosen Refuse e below h = false≢true (rw (e, forward) at h)
    chosen (Pass before) e below h = let w = below (rw (e, forward) at h) in record { made = w.made; later = w.later; all = cons (meant ns next s t (Pass before) e ts) w.all }
    chosen (Take before more) e below h =
        let w = rec (record { stack = drop_ends (more ++ stack); made = ns; next = noted s t.kind next }) (rw (e, forward) at h) in
        let p = parts more (with_ends (more ++ stack) w.all) in
        record { made = w.made; later = w.later; all = cons (meant ns next s t (Take before more) e ts p.middle p.made p.later p.front) p.back }

accepted : (ts : List Lexeme) (st : Stage) → accepts (Some st) ts ≡ true → Whole st.made st.next st.stack ts
accepted [] st h = completed st.made st.next st.stack h
accepted (t ∷ ts) st h = step st.made st.next t st.stack ts (accepted ts) h

unit_of : {s : List Lexeme} {made later : List Name} → All [] [] (symbol.Externals ∷ []) s [] made later → (exts : List External) × Spells exts s
unit_of (cons (externals f) nil) = f refl
unit_of (cons (plain x) all) = elim x [ ]

-- what is accepted has a tree
pub has_tree : (s : List Lexeme) → accepts (Some first_stage) s ≡ true → (exts : List External) × Spells exts s
has_tree s h = unit_of (accepted s first_stage h).all

-- what is read is accepted
abbrev pub bare : State → Stage
bare st = record { stack = st.stack; made = st.made; next = st.next }

finished : (stack : List Symbol) (o : Option (List Value)) (vs : List Value) → finish stack o ≡ Some vs → is_complete stack ≡ true
finished [] o vs h = refl
finished (symbol.Externals ∷ stack) None vs h = absurd cc
finished (symbol.Externals ∷ stack) (Some us) vs h = finished stack (Some (OfUnit [] ∷ us)) vs h
finished (symbol.Made f ∷ stack) None vs h = absurd cc
finished (symbol.Made f ∷ stack) (Some us) vs h = finished stack (Some us) vs h
finished (symbol.End p ∷ stack) None vs h = absurd cc
finished (symbol.End p ∷ stack) (Some us) vs h = finished stack (act p us) vs h
finished (x ∷ stack) None vs h = absurd cc
finished (x ∷ stack) (Some us) vs h = absurd cc

settled_run : (ns next : List Name) (stack : List Symbol) (o : Option (List Value)) (ts : List Lexeme) (vs : List Value) → ((st : State) → run (Some st) ts ≡ Some vs → accepts (Some (bare st)) ts ≡ true) → run (settle ns next stack o) ts ≡ Some vs → accepts (Some (record { stack = drop_ends stack; made = ns; next = next })) ts ≡ true
settled_run ns next stack None ts vs rec h = absurd cc
settled_run ns next [] (Some us) ts vs rec h = rec (record { stack = []; made = ns; next = next; values = us }) h
settled_run ns next (symbol.End p ∷ stack) (Some us) ts vs rec h = settled_run ns next stack (act p us) ts vs rec h
settled_run ns next (s ∷ stack) (Some us) ts vs rec h = rec (record { stack = s ∷ stack; made = ns; next = next; values = us }) h

advanced_run : (ns next : List Name) (t : Lexeme) (stack : List Symbol) (o : Option (List Value)) (ts : List Lexeme) (vs : List Value) → ((st : State) → run (Some st) ts ≡ Some vs → accepts (Some (bare st)) ts ≡ true) → run (advance ns next t stack o) ts ≡ Some vs → accepts (forward ns next t stack) ts ≡ true
advanced_run ns next t stack None ts vs rec h = absurd cc
advanced_run ns next t [] (Some us) ts vs rec h = absurd cc
advanced_run ns next t (s ∷ stack) (Some us) ts vs rec h = chosen (choice_of s (is_type ns t.kind) t.kind) refl (λ o. advanced_run (made_behind s ns next) (next_behind s ns next) t stack o ts vs rec) h
  where
    taken : (before : List Production) (more : List Symbol) (o : Option (List Value)) → run (elim o [ None ↦ None | Some ws ↦ settle ns (noted s t.kind next) (more ++ stack) (Some (Tok t ∷ ws)) ]) ts ≡ Some vs → accepts (Some (record { stack = drop_ends (more ++ stack); made = ns; next = noted s t.kind next })) ts ≡ true
    taken before more None h = absurd cc
    taken before more (Some ws) h = settled_run ns (noted s t.kind next) (more ++ stack) (Some (Tok t ∷ ws)) ts vs rec h

    chosen : (c : Choice) → choice_of s (is_type ns t.kind) t.kind ≡ c → ((o : Option (List Value)) → run (advance (made_behind s ns next) (next_behind s ns next) t stack o) ts ≡ Some vs → accepts (forward (made_behind s ns next) (next_behind s ns next) t stack) ts ≡ true) → run (advance ns next t (s ∷ stack) (Some us)) ts ≡ Some vs → accepts (forward ns next t (s ∷ stack)) ts ≡ true
    chosen Refuse e below h = let k = rw (e, advance) at h in absurd cc
    chosen (Pass before) e below h = rw (e, forward) (below (acts before (Some us)) (rw (e, advance) at h))
    chosen (Take before more) e below h = rw (e, forward) (taken before more (acts before (Some us)) (rw (e, advance) at h))

runs : (ts : List Lexeme) (vs : List Value) (st : State) → run (Some st) ts ≡ Some vs → accepts (Some (bare st)) ts ≡ true
runs [] vs st h = finished st.stack (Some st.values) vs h
runs (t ∷ ts) vs st h = advanced_run st.made st.next t st.stack (Some st.values) ts vs (runs ts vs) h

-- what a tree spells is accepted
pub is_accepted : (exts : List External) (s : List Lexeme) → Spells exts s → accepts (Some first_stage) s ≡ true
unfolding read go
is_accepted exts s d = runs s (OfUnit exts ∷ []) (record { stack = symbol.Externals ∷ []; made = []; next = []; values = [] }) (is_read exts s d)

-- what is refused has no tree
pub has_no_tree : (s : List Lexeme) → accepts (Some first_stage) s ≡ false → (exts : List External) → Spells exts s → ⊥
has_no_tree s h exts d = let k = is_accepted exts s d in absurd cc
