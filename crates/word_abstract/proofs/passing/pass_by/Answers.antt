use Rattle.std.proofs.Common.{[], map, string_bytes}
use Rattle.monad_lang.specs.CodeProgram.{mon_of}
use Rattle.word_abstract.specs.CodeFacts.{fact_in, whole}
use Rattle.word_abstract.proofs.PassingLaws.{facts_behind_by}
use Rattle.word_abstract.proofs.passing.pass_by.Goals as goal

pub returns-clause-facts : goal.returns-clause-facts
returns-clause-facts c =
    facts_behind_by fact_in whole (mon_of c.args.m.now) (map string_bytes c.args.names.now) c.args.before.outer.items c.in_ok-outer.outer.items c.args.before.own.items c.in_ok-own.own.items c.in_ok-own-2.own.items
    c.changes_state-changes.result c.changes_state-changes.ensures (c.in_ok-outer.ensures []) c.in_ok-own.ensures c.in_ok-own-2.ensures
