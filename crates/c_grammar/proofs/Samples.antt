-- The trees of the examples.
use Rattle.std.proofs.Common.{◌≡◌, true, List, [], ◌∷◌, Some, refl, sym, ◌∙◌, subst}
use Rattle.c_lex.specs.Lexeme.{Lexeme}
use Rattle.c_grammar.specs.Tree.{External}
use Rattle.c_grammar.specs.Spells.{Spells}
use Rattle.c_grammar.specs.CodeChoice.{choice_of}
use Rattle.c_grammar.specs.CodeBuild.{OfUnit, act}
use Rattle.c_grammar.specs.CodeStack.{read, go}
use Rattle.c_grammar.specs.CodeAccepts.{accepts, first_stage}
use Rattle.c_grammar.specs.Examples.{dangling_else, inner_else, levels, left_sum, without_typedef, difference, with_typedef, cast}
use Rattle.c_grammar.proofs.Texts.{is_read}
use Rattle.c_grammar.proofs.Accepted.{has_tree}

-- what is read of an accepted text is its tree
pub spelled : (exts : List External) (s : List Lexeme) → read s ≡ Some (OfUnit exts ∷ []) → accepts (Some first_stage) s ≡ true → Spells exts s
spelled exts s r h =
    let p = has_tree s h in
    let e = sym (is_read p.0 s p.1) ∙ r in
    let same : p.0 ≡ exts = cc in
    subst (λ u. Spells u s) same p.1

pub inner : Spells inner_else dangling_else
unfolding choice_of act go read
inner = spelled inner_else dangling_else refl refl

pub left : Spells left_sum levels
unfolding choice_of act go read
left = spelled left_sum levels refl refl

pub minus : Spells difference without_typedef
unfolding choice_of act go read
minus = spelled difference without_typedef refl refl

pub casts : Spells cast with_typedef
unfolding choice_of act go read
casts = spelled cast with_typedef refl refl
