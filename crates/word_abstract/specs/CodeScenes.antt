-- Where the code's programs stand, and what is made of them there.
use Rattle.std.specs.Prelude.{List, [], ◌∷◌, Bool, map, Option, if◌then◌else◌}
use Rattle.c_values.specs.Name.{Name}
use Rattle.expression_lang.specs.Expression.{Exp, Path}
use Rattle.expression_lang.specs.declared.expression.Exp as E
use Rattle.expression_lang.specs.Sort.{Kind}
use Rattle.expression_lang.specs.Signature.{Binder}
use Rattle.expression_lang.specs.CodeSignature.{binder_of}
use Rattle.ac_expr.specs.Fact.{Fact, Whole, NotTrue}
use Rattle.ac_expr.specs.SameExp.{same_exp}
use Rattle.monad_lang.specs.Program.{Mon, Place}
use Rattle.rule_trees.specs.RuleTree.{Trees}
use Rattle.rule_word.specs.Rule.{Rule, View, Context}
use Rattle.rule_word.specs.Scopes.{names_in, words}
use Rattle.rule_word.specs.CodeRule.{context_in}
use Rattle.rule_word.specs.CodeKinds.{binders_in}
use Rattle.rule_word.specs.Bases.{among}
use Rattle.rule_word.specs.WordsAbstracted.{Abstracted, Indices, indices}
use Rattle.rule_word.specs.ProgramsAbstracted.{PlaceAt, AbstractedProgram, exp_at, guard_at, all_at, place_at, program_abstracted}
use Rattle.word_abstract.specs.CodeKnown.{newest_first}
use Rattle.word_abstract.specs.CodeFacts.{fact_in, whole, known_in}
use Rattle.word_abstract.specs.declared.points.Scene as P
use Rattle.word_abstract.specs.declared.points.Setting as S

abbrev pub context_at : P.Scene → Context
context_at p = context_in p.setting.now.context

abbrev pub binders_at : P.Scene → List Binder
binders_at p = binders_in p.names.now

abbrev pub facts_at : P.Scene → List Fact
facts_at p = known_in p.known

-- the kinds of the function's locals
abbrev pub local_kinds : S.Setting → Name → Option Kind
local_kinds s x = names_in (λ k. k) (map binder_of s.locals.now) x

abbrev pub exp_there : P.Scene → Exp → View → Abstracted
exp_there p e v = exp_at same_exp p.setting.now.numbers (context_at p) (binders_at p) (facts_at p) e v

abbrev pub guard_there : P.Scene → Exp → Abstracted
guard_there p e = guard_at same_exp p.setting.now.numbers (context_at p) (binders_at p) (facts_at p) e

abbrev pub all_there : P.Scene → List Exp → List View → List Abstracted
all_there p es vs = all_at same_exp p.setting.now.numbers (context_at p) (binders_at p) (facts_at p) es vs

abbrev pub place_there : P.Scene → Place → Trees Rule → PlaceAt
place_there p place ts = place_at same_exp p.setting.now.numbers (context_at p) (binders_at p) (facts_at p) place ts

abbrev pub program_there : P.Scene → Mon → List Kind → AbstractedProgram
program_there p m ks =
    program_abstracted same_exp p.setting.now.numbers (context_at p) (λ x. local_kinds p.setting.now x) (facts_at p) (binders_at p) m ks

abbrev pub indices_there : P.Scene → Path → Trees Rule → Indices
indices_there p path ts = indices same_exp p.setting.now.numbers (words (context_at p) (binders_at p)).scope (binders_at p) (among (facts_at p)) path ts

-- where a condition more holds, or doesn't
abbrev pub program_under : P.Scene → Bool → Exp → Mon → List Kind → AbstractedProgram
program_under p b e m ks =
    program_abstracted same_exp p.setting.now.numbers (context_at p) (λ x. local_kinds p.setting.now x)
    ((if b then Whole e else NotTrue e) ∷ facts_at p) (binders_at p) m ks

-- where conditions of a loop's guard are known
abbrev pub guard_behind : P.Scene → List E.Exp → Exp → Abstracted
guard_behind p own e =
    guard_at same_exp p.setting.now.numbers (context_at p) (binders_at p) (newest_first (map whole own) (newest_first (map fact_in p.known.outer.now) [])) e
