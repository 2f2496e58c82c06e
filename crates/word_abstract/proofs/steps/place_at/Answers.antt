use Rattle.std.proofs.Common.{rules}
use Rattle.word_abstract.proofs.steps.place_at.Goals as goal

pub returns-in_ok-copy_of-in-Stored-clause-place : goal.returns-in_ok-copy_of-in-Stored-clause-place
returns-in_ok-copy_of-in-Stored-clause-place c = λ ts. let path = c.in_ok-path-in-Stored.ensures.path ts in search (rules, path)

pub returns-in_ok-copy_of-in-Written-clause-place : goal.returns-in_ok-copy_of-in-Written-clause-place
returns-in_ok-copy_of-in-Written-clause-place c = λ ts. let path = c.in_ok-path-in-Written.ensures.path ts in search (rules, path)

pub returns-in_ok-clone-in-Global-clause-place : goal.returns-in_ok-clone-in-Global-clause-place
returns-in_ok-clone-in-Global-clause-place c = λ ts. let path = c.in_ok-path-in-Global.ensures.path ts in search (rules, path)
