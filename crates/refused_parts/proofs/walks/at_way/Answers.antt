use Rattle.std.proofs.Common.{sym, ◌∙◌}
use Rattle.refused_parts.proofs.Stepping.{walked_none, walked_stays, walked_out, walked_on}
use Rattle.refused_parts.proofs.walks.at_way.Goals as goal

pub returns-in_default-inside : goal.returns-in_default-inside
returns-in_default-inside g c =
    sym (walked_stays g.R.Inside.rule g.R.Inside.goes_on c.down.at.now (g.R.Inside.seen c.down.part.now) c.down.rest.now c.in-Some.higher.now c.in-Some.position.now c.in-Some.ensures.cases.0 c.in_default-inside.ensures)
    ∙ c.down.invariant

pub returns-in_default-tree_at : goal.returns-in_default-tree_at
returns-in_default-tree_at g c =
    sym (walked_out g.R.Inside.rule g.R.Inside.goes_on c.down.at.now (g.R.Inside.seen c.down.part.now) (g.R.Inside.seen c.in-Some-inside.inner.now) c.down.rest.now c.in-Some.higher.now c.in-Some.position.now c.deref.result.now
    c.in-Some.ensures.cases.0 c.in-Some-inside.ensures c.deref.ensures.value (sym c.in_default-tree_at.ensures))
    ∙ c.down.invariant

pub down-preserved : goal.down-preserved
down-preserved g c =
    sym (walked_on g.R.Inside.rule g.R.Inside.goes_on c.down.at.now (g.R.Inside.seen c.down.part.now) (g.R.Inside.seen c.in-Some-inside.inner.now) c.down.rest.now c.in-Some.higher.now c.in-Some.position.now c.deref.result.now c.in-Some-tree_at.below.now
    c.in-Some.ensures.cases.0 c.in-Some-inside.ensures c.deref.ensures.value (sym c.in-Some-tree_at.ensures))
    ∙ c.down.invariant

pub returns : goal.returns
returns g c = sym (walked_none g.R.Inside.rule g.R.Inside.goes_on c.down.at.now (g.R.Inside.seen c.down.part.now) c.down.rest.now c.in_default.ensures.cases) ∙ c.down.invariant
