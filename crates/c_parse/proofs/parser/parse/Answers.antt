use Rattle.std.proofs.Common.{◌≡◌, [], ◌∷◌, Some, List, sym, subst, ◌∙◌, inl}
use Rattle.c_lex.specs.Lexeme.{lexemes_of}
use Rattle.c_grammar.specs.declared.scripts.Step.{Step}
use Rattle.c_grammar.specs.CodeBuild.{OfUnit}
use Rattle.c_grammar.specs.CodeScript.{replay}
use Rattle.c_limits.specs.Limits.{first_limit}
use Rattle.c_parse.proofs.OneAnswer.{limit_of_each, only_tree, is_first, refused_is_told, error_is_told}
use Rattle.c_parse.specs.Answer.{of_script}
use Rattle.c_parse.proofs.parser.parse.Goals as goal

pub returns-in-Some-clause-only : goal.returns-in-Some-clause-only
returns-in-Some-clause-only c = λ tree s none.
    let found = c.in_ok-steps.ensures.spelled in
    let replayed = subst (λ (steps : List Step). replay steps (lexemes_of c.args.tokens.now) [] ≡ Some (OfUnit found.0 ∷ [])) (sym c.deref.ensures.value) found.2 in
    let limit = limit_of_each (lexemes_of c.args.tokens.now) found.0 tree c.in_ok-limit.field-0 found.1 s (c.in_ok-limit.ensures found.0 replayed) in
    let is = c.in-Some.is in
    absurd cc

pub returns-in-Some-clause-limit : goal.returns-in-Some-clause-limit
returns-in-Some-clause-limit c = λ tree limit at s first.
    let found = c.in_ok-steps.ensures.spelled in
    let replayed = subst (λ (steps : List Step). replay steps (lexemes_of c.args.tokens.now) [] ≡ Some (OfUnit found.0 ∷ [])) (sym c.deref.ensures.value) found.2 in
    let found_first = limit_of_each (lexemes_of c.args.tokens.now) found.0 tree c.in_ok-limit.field-0 found.1 s (c.in_ok-limit.ensures found.0 replayed) in
    inl (is_first c.in_ok-limit.field-0 (first_limit tree) (c.in-Some.limit, c.in-Some.at) (limit, at) found_first first c.in-Some.is)

pub returns-clause-only : goal.returns-clause-only
returns-clause-only c = λ tree s none.
    let found = c.in_ok-steps.ensures.spelled in
    let replayed = subst (λ (steps : List Step). replay steps (lexemes_of c.args.tokens.now) [] ≡ Some (OfUnit found.0 ∷ [])) (sym c.deref-2.ensures.value) found.2 in
    only_tree (lexemes_of c.args.tokens.now) found.0 tree _ found.1 s (rw c.in-Some-2.is at c.in_ok-unit.ensures found.0 replayed)

pub returns-clause-limit : goal.returns-clause-limit
returns-clause-limit c = λ tree limit at s first.
    let found = c.in_ok-steps.ensures.spelled in
    let replayed = subst (λ (steps : List Step). replay steps (lexemes_of c.args.tokens.now) [] ≡ Some (OfUnit found.0 ∷ [])) (sym c.deref.ensures.value) found.2 in
    let limit = limit_of_each (lexemes_of c.args.tokens.now) found.0 tree c.in_ok-limit.field-0 found.1 s (c.in_ok-limit.ensures found.0 replayed) in
    c.in_default.not-Some _ (limit ∙ first)

pub returns-in_err-steps-clause-fault : goal.returns-in_err-steps-clause-fault
returns-in_err-steps-clause-fault c =
    error_is_told c.from_residual.result (lexemes_of c.args.tokens.now) (of_script c.in_err-steps.field-0.0) c.from_residual.ensures.1
    (refused_is_told (lexemes_of c.args.tokens.now) c.in_err-steps.field-0.0 c.in_err-steps.ensures.refused c.in_err-steps.ensures.placed)
