-- The machine stops at a place of a syntax fault.
use Rattle.std.proofs.Common.{ℕ, ◌≡◌, List, [], ◌∷◌, ◌++◌, Option, Some, None, refl, sym, ap, ◌∙◌, append_assoc, append-nil, subst}
use Rattle.c_lex.specs.Lexeme.{Lexeme}
use Rattle.c_grammar.specs.declared.fault.ScriptFault.{ScriptFault}
use Rattle.c_grammar.specs.declared.fault.ScriptFault.TheVariants.{Syntax, Memory}
use Rattle.c_grammar.specs.CodeAccepts.{Stage, forward, accepts, first_stage, stop}
use Rattle.c_grammar.specs.Faults.{IsAt}
use Rattle.c_grammar.specs.Place.{end_of, IsPlace, at_token, at_end, IsPlaced}
use Rattle.c_grammar.proofs.Accepted.{has_no_tree}

end_behind : (at : ℕ) (front : List Lexeme) (t : Lexeme) → end_of at (front ++ t ∷ []) ≡ t.to
end_behind at [] t = refl
end_behind at (x ∷ front) t = end_behind x.to front t

-- from the stage behind the first tokens on
place : (all front ts : List Lexeme) (st : Stage) (at : ℕ) → all ≡ front ++ ts → end_of 0 front ≡ at → ((rest : List Lexeme) → accepts (Some first_stage) (front ++ rest) ≡ accepts (Some st) rest) → IsPlace all (stop at st ts)
place all front [] st at e h f = at_end (sym h ∙ ap (end_of 0) (sym (e ∙ append-nil front)))
place all front (t ∷ ts) st at e h f = chosen (forward st.made st.next t st.stack) refl (λ later. place all (front ++ t ∷ []) ts later t.to (e ∙ sym (append_assoc front (t ∷ []) ts)) (end_behind 0 front t))
  where
    behind : (o : Option Stage) → forward st.made st.next t st.stack ≡ o → (rest : List Lexeme) → accepts (Some first_stage) ((front ++ t ∷ []) ++ rest) ≡ accepts o rest
    behind o g rest = ap (accepts (Some first_stage)) (append_assoc front (t ∷ []) rest) ∙ f (t ∷ rest) ∙ ap (λ o. accepts o rest) g

    chosen : (o : Option Stage) → forward st.made st.next t st.stack ≡ o → ((later : Stage) → ((rest : List Lexeme) → accepts (Some first_stage) ((front ++ t ∷ []) ++ rest) ≡ accepts (Some later) rest) → IsPlace all (stop t.to later ts)) → IsPlace all (stop at st (t ∷ ts))
    chosen None g below = at_token front ts t e (rw (g, stop) refl) (λ rest exts d. has_no_tree ((front ++ t ∷ []) ++ rest) (behind None g rest) exts d)
    chosen (Some later) g below = rw (g, stop) (below later (behind (Some later) g))

pub placed : (ts : List Lexeme) (fault : ScriptFault) → IsAt fault (stop 0 first_stage ts) → IsPlaced ts fault
placed ts (Syntax at) h = subst (IsPlace ts) (sym h) (place ts [] ts first_stage 0 refl refl (λ rest. refl))
placed ts (Memory error) h = tt
