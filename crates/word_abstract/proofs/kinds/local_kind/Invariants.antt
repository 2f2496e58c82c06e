-- It has among those that are left what it has among all.
use Rattle.std.proofs.Common.{◌≡◌, length, map}
use Rattle.expression_lang.specs.CodeSignature.{binder_of}
use Rattle.rule_word.specs.Scopes.{names_in}
use Rattle.word_abstract.proofs.kinds.local_kind.Given as goal

abbrev pub invariant-locals : goal.invariant-locals
invariant-locals l = names_in (λ k. k) (map binder_of l.rest) l.name ≡ names_in (λ k. k) (map binder_of l.locals) l.name

abbrev pub decreases-locals : goal.decreases-locals
decreases-locals l = length l.rest
