-- The script of a text that is read gives what is read.
use Rattle.std.proofs.Common.{◌≡◌, true, List, [], ◌∷◌, ◌++◌, Option, Some, None, refl, sym, ap, ◌∙◌, append_assoc, subst}
use Rattle.c_lex.specs.Lexeme.{Lexeme}
use Rattle.c_grammar.specs.declared.scripts.Step.{Step}
use Rattle.c_grammar.specs.declared.scripts.Step.TheVariants.{Shift, Reduce}
use Rattle.c_grammar.specs.declared.symbol.Production.{Production}
use Rattle.c_grammar.specs.declared.symbol.Symbol.{Symbol}
use Rattle.c_grammar.specs.declared.symbol.Symbol.TheVariants as symbol
use Rattle.c_grammar.specs.Tree.{Name, External}
use Rattle.c_grammar.specs.Spells.{Spells}
use Rattle.c_grammar.specs.CodeChoice.{Choice, Refuse, Pass, Take, choice_of}
use Rattle.c_grammar.specs.CodeBuild.{Value, Tok, OfUnit, act, acts}
use Rattle.c_grammar.specs.CodeScript.{replay}
use Rattle.c_grammar.specs.CodeStack.{State, go, read, run, settle, advance, finish, is_type, noted, made_behind, next_behind}
use Rattle.c_grammar.specs.CodeAccepts.{drop_ends, forward, accepts, first_stage}
use Rattle.c_grammar.specs.CodeWritten.{script, token_steps, end_steps, last_steps, reduces, reduces_one, ended_by, ended_before}
use Rattle.c_grammar.proofs.Accepted.{bare, has_tree}
use Rattle.c_grammar.proofs.Ended.{Ends, listed, told}
use Rattle.c_grammar.proofs.Texts.{is_read}

-- the steps from values that may be missing
abbrev then_replay : Option (List Value) → List Step → List Lexeme → Option (List Value)
then_replay None ss ts = None
then_replay (Some vs) ss ts = replay ss ts vs

-- a production ends
reduced_one : (p : Production) (o : Option (List Value)) (vs : List Value) (ss : List Step) (ts : List Lexeme) → act p vs ≡ o → replay (Reduce p ∷ ss) ts vs ≡ then_replay o ss ts
unfolding replay
reduced_one p None vs ss ts e = rw (e, replay) refl
reduced_one p (Some ws) vs ss ts e = rw (e, replay) refl

reduced : (ps : List Production) (o : Option (List Value)) (ss : List Step) (ts : List Lexeme) → then_replay o (reduces ps ++ ss) ts ≡ then_replay (acts ps o) ss ts
reduced [] o ss ts = refl
reduced (p ∷ ps) None ss ts = refl
reduced (p ∷ ps) (Some vs) ss ts = reduced_one p (act p vs) vs (reduces ps ++ ss) ts refl ∙ reduced ps (act p vs) ss ts

listed_steps : (o : Option Production) → reduces (listed o) ≡ reduces_one o
listed_steps None = refl
listed_steps (Some p) = refl

finished : (stack : List Symbol) (o : Option (List Value)) (vs : List Value) → finish stack o ≡ Some vs → then_replay o (last_steps stack) [] ≡ Some vs
unfolding replay act
finished [] None vs h = h
finished [] (Some us) vs h = h
finished (symbol.Externals ∷ stack) None vs h = h
finished (symbol.Externals ∷ stack) (Some us) vs h = finished stack (Some (OfUnit [] ∷ us)) vs h
finished (symbol.Made f ∷ stack) None vs h = h
finished (symbol.Made f ∷ stack) (Some us) vs h = finished stack (Some us) vs h
finished (symbol.End p ∷ stack) None vs h = h
finished (symbol.End p ∷ stack) (Some us) vs h = reduced_one p (act p us) us (last_steps stack) [] refl ∙ finished stack (act p us) vs h
finished (x ∷ stack) None vs h = h
finished (x ∷ stack) (Some us) vs h = absurd cc

-- what is to be shown of the states behind a token
abbrev Replays : List Lexeme → List Value → Type 0
Replays ts vs = (st : State) → run (Some st) ts ≡ Some vs → replay (script (Some (bare st)) ts) ts st.values ≡ Some vs

settled : (ns next : List Name) (stack : List Symbol) (o : Option (List Value)) (ts : List Lexeme) (vs : List Value) → Replays ts vs → run (settle ns next stack o) ts ≡ Some vs → then_replay o (end_steps stack ++ script (Some (record { stack = drop_ends stack; made = ns; next = next })) ts) ts ≡ Some vs
settled ns next stack None ts vs rec h = absurd cc
settled ns next [] (Some us) ts vs rec h = rec (record { stack = []; made = ns; next = next; values = us }) h
settled ns next (symbol.End p ∷ stack) (Some us) ts vs rec h =
    reduced_one p (act p us) us (end_steps stack ++ script (Some (record { stack = drop_ends stack; made = ns; next = next })) ts) ts refl ∙ settled ns next stack (act p us) ts vs rec h
settled ns next (s ∷ stack) (Some us) ts vs rec h = rec (record { stack = s ∷ stack; made = ns; next = next; values = us }) h

passed : (before : List Production) (p : Option Production) (us : List Value) (rs ss : List Step) (ts : List Lexeme) → before ≡ listed p → replay ((reduces_one p ++ rs) ++ ss) ts us ≡ then_replay (acts before (Some us)) (rs ++ ss) ts
passed before p us rs ss ts e =
    ap (λ l. replay l ts us) (append_assoc (reduces_one p) rs ss) ∙ ap (λ l. replay (l ++ (rs ++ ss)) ts us) (sym (ap reduces e ∙ listed_steps p)) ∙ reduced before (Some us) (rs ++ ss) ts

taken_steps : (before ps : List Production) (us : List Value) (es ss : List Step) (ts : List Lexeme) → before ≡ ps → replay ((reduces ps ++ Shift ∷ es) ++ ss) ts us ≡ then_replay (acts before (Some us)) (Shift ∷ (es ++ ss)) ts
taken_steps before ps us es ss ts e =
    ap (λ l. replay l ts us) (append_assoc (reduces ps) (Shift ∷ es) ss) ∙ ap (λ l. replay (reduces l ++ Shift ∷ (es ++ ss)) ts us) (sym e) ∙ reduced before (Some us) (Shift ∷ (es ++ ss)) ts

advanced : (ns next : List Name) (t : Lexeme) (stack : List Symbol) (o : Option (List Value)) (ts : List Lexeme) (vs : List Value) → Replays ts vs → run (advance ns next t stack o) ts ≡ Some vs → then_replay o (token_steps ns next t stack ++ script (forward ns next t stack) ts) (t ∷ ts) ≡ Some vs
unfolding replay
advanced ns next t stack None ts vs rec h = absurd cc
advanced ns next t [] (Some us) ts vs rec h = absurd cc
advanced ns next t (s ∷ stack) (Some us) ts vs rec h = chosen (choice_of s (is_type ns t.kind) t.kind) refl (told s (is_type ns t.kind) t.kind) (λ o. advanced (made_behind s ns next) (next_behind s ns next) t stack o ts vs rec) h
  where
    taken : (more : List Symbol) (o : Option (List Value)) → run (elim o [ None ↦ None | Some ws ↦ settle ns (noted s t.kind next) (more ++ stack) (Some (Tok t ∷ ws)) ]) ts ≡ Some vs → then_replay o (Shift ∷ (end_steps (more ++ stack) ++ script (Some (record { stack = drop_ends (more ++ stack); made = ns; next = noted s t.kind next })) ts)) (t ∷ ts) ≡ Some vs
    taken more None h = absurd cc
    taken more (Some ws) h = settled ns (noted s t.kind next) (more ++ stack) (Some (Tok t ∷ ws)) ts vs rec h

    chosen : (c : Choice) → choice_of s (is_type ns t.kind) t.kind ≡ c → Ends (ended_by s) (ended_before s t.kind) (choice_of s (is_type ns t.kind) t.kind) → ((o : Option (List Value)) → run (advance (made_behind s ns next) (next_behind s ns next) t stack o) ts ≡ Some vs → then_replay o (token_steps (made_behind s ns next) (next_behind s ns next) t stack ++ script (forward (made_behind s ns next) (next_behind s ns next) t stack) ts) (t ∷ ts) ≡ Some vs) → run (advance ns next t (s ∷ stack) (Some us)) ts ≡ Some vs → replay (token_steps ns next t (s ∷ stack) ++ script (forward ns next t (s ∷ stack)) ts) (t ∷ ts) us ≡ Some vs
    chosen Refuse e same below h = let k = rw (e, advance) at h in absurd cc
    chosen (Pass before) e same below h =
        rw (e, token_steps, forward)
        (passed before (ended_by s) us (token_steps (made_behind s ns next) (next_behind s ns next) t stack) (script (forward (made_behind s ns next) (next_behind s ns next) t stack) ts) (t ∷ ts) (subst (λ c. Ends (ended_by s) (ended_before s t.kind) c) e same) ∙ below (acts before (Some us)) (rw (e, advance) at h))
    chosen (Take before more) e same below h =
        rw (e, token_steps, forward)
        (taken_steps before (ended_before s t.kind) us (end_steps (more ++ stack)) (script (Some (record { stack = drop_ends (more ++ stack); made = ns; next = noted s t.kind next })) ts) (t ∷ ts) (subst (λ c. Ends (ended_by s) (ended_before s t.kind) c) e same) ∙ taken more (acts before (Some us)) (rw (e, advance) at h))

replayed : (ts : List Lexeme) (vs : List Value) → Replays ts vs
replayed [] vs st h = finished st.stack (Some st.values) vs h
replayed (t ∷ ts) vs st h = advanced st.made st.next t st.stack (Some st.values) ts vs (replayed ts vs) h

-- an accepted text has a tree, which its script builds
pub has_script : (s : List Lexeme) → accepts (Some first_stage) s ≡ true → (exts : List External) × Spells exts s × (replay (script (Some first_stage) s) s [] ≡ Some (OfUnit exts ∷ []))
unfolding read go
has_script s h =
    let found = has_tree s h in
    (found.0, found.1, replayed s (OfUnit found.0 ∷ []) (record { stack = symbol.Externals ∷ []; made = []; next = []; values = [] }) (is_read found.0 s found.1))
