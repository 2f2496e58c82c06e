use Rattle.std.proofs.Common.{map, ap}
use Rattle.std.proofs.lemmas.List.{nil_from_length}
use Rattle.ac_sx.specs.CodeSx.{tree_of, trees_in}
use Rattle.c_values.specs.CodeValue.{global_of}
use Rattle.memory_text.specs.MemoryReading.{chained_at, setting_at}
use Rattle.memory_text.specs.CodeMemory.{setting_of}
use Rattle.memory_text.proofs.Chained.{chain_more, chain_ended}
use Rattle.memory_text.proofs.setting_reading.each_setting_at.Goals as goal

pub settings-preserved : goal.settings-preserved
settings-preserved c =
    chain_more setting_of (setting_at c.args.layout.now) c.settings.settings.items c.push.new.self.items c.in_ok-setting.setting (map global_of c.settings.left.now) (map global_of c.in_ok-setting.later.now) c.settings.here c.in_ok-setting.behind
    (trees_in c.settings.rest.now) (trees_in c.in-Some.others.now) (tree_of c.in-Some.part.now) (chained_at (setting_at c.args.layout.now) (map global_of c.args.globals.now) c.args.at (trees_in c.args.parts.now))
    (ap trees_in c.in-Some.ensures.cases.0) c.in_ok-push.ensures.items c.in_ok-setting.ensures c.settings.invariant

pub returns : goal.returns
returns c =
    chain_ended setting_of (setting_at c.args.layout.now) c.settings.settings.items (map global_of c.settings.left.now) c.settings.here (trees_in c.settings.rest.now)
    (chained_at (setting_at c.args.layout.now) (map global_of c.args.globals.now) c.args.at (trees_in c.args.parts.now)) (ap trees_in (nil_from_length c.settings.rest.now c.in_default.ensures.cases)) c.settings.invariant
